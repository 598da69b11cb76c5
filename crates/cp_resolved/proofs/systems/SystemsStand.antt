-- The system types of a tree stand for their declarations.
use Rattle.std.proofs.Common.{◌≡◌, ◌+◌, ◌-◌, ◌<◌, ◌≤◌, inl, inr, ℕ, zero, suc, true, false, List, [], ◌∷◌, ◌++◌, length, Option, Some, None, slice_get, slice_index_or, refl, sym, ap, subst, ◌∙◌, arith, length-append}
use Rattle.cp_resolved.proofs.Words.{none-some, same_Some, slice_get_within, CellType, most, PlainTables, plain, laid, tables_laid, system_types, Layer, System}
use Rattle.cp_resolved.proofs.Words.{nothing_laid, routine_of, Tables, RoutineView, no_system, system_at, Name, Ty, has_components, permanent_variable, find}
use Rattle.cp_resolved.proofs.Words.{Variable, Parameter, RoutineMeaning, parameter_variables, SystemMeaning, program_system, system_of, all_begun, nothing_declared}
use Rattle.cp_resolved.proofs.Words.{Numbering, InStep, cells_of, look, SystemLayout, IsPlaced, Opening, openings_of, meaning_at, numbering_of, Each, IsParameter}
use Rattle.cp_tree.specs.Syntax as syntax
use Rattle.cp_slots.specs.declared.place.PlaceOrigin.TheVariants as origin
use Rattle.cp_symbols.specs.declared.names.LayoutMeaning.TheVariants as meaning
use Rattle.cp_layout.specs.Layers as layers
use Rattle.cp_meaning.specs.Types as named
use Rattle.cp_resolved.specs.Framed.{AreDifferent, AreDeclared, system_variables, SystemsLaw}
use Rattle.cp_resolved.specs.Resolved.{initial_meaning, SystemParameterIs, SystemParametersAre, AreApart}
use Rattle.cp_resolved.specs.TreeLayouts.{all_parts, parts_at, layer_or, whole_laid, program_parts_parts, initial_or, owner_in, components_among, slot_in, system_layout}
use Rattle.cp_resolved.proofs.names.BegunKnown.{parts_many}
use Rattle.cp_resolved.proofs.items.BodiesStand.{laid_routines, EndsAt, ends_at}
use Rattle.cp_resolved.proofs.items.Ended.{all_end}
use Rattle.cp_resolved.proofs.names.Entries.{there, not_there}
use Rattle.cp_resolved.proofs.laid.Grown.{body_grew}
use Rattle.cp_resolved.proofs.names.Opened.{opened_all}
use Rattle.cp_resolved.proofs.systems.PermanentCells.{Owns}
use Rattle.cp_resolved.proofs.names.PermanentNames.{Under, FirstsApart}
use Rattle.cp_resolved.proofs.counts.RoutinesCounted.{Many, all_many}
use Rattle.cp_resolved.proofs.agreeing.ScopeVariables.{Among, among_left, among_all, among_some}
use Rattle.cp_resolved.proofs.frames.Seats.{Seated, AreSeated, initial_number, SystemFits, Settled, AreSettled}
use Rattle.cp_resolved.proofs.frames.SeatsOfProgram.{all_seated}
use Rattle.cp_resolved.proofs.systems.Sizes.{Counted}
use Rattle.cp_resolved.proofs.systems.SystemKnown.{found_among, system_fits, cells_inside, cells_apart, first_typed}
use Rattle.cp_resolved.proofs.names.TreeKnown.{permanent_sized, Opens, opens_of, layouts_law}
use Rattle.cp_resolved.proofs.laid.Whole.{ProgramLaid, program_laid}
use Rattle.cp_resolved.proofs.agreeing.AgreeingWritten.{each_left, each_right}
use Rattle.cp_resolved.specs.ItemsStand.{body_items}

pub each_map : {A : Type 0} (P Q : A → Type 0) (xs : List A) → ((x : A) → P x → Q x) → Each P xs → Each Q xs
each_map P Q [] f h = tt
each_map P Q (x ∷ xs) f h = (f x h.0, each_map P Q xs f h.1)

-- ---- entries by their numbers

module _ (k : Numbering) (p : syntax.Program) (end : Layer) (counted : Counted end.types) where
  settled_at : (n : ℕ) (zs : List Layer) (j : ℕ) (z : Layer) → AreSettled k p end counted n zs → slice_get zs j ≡ Some z → Settled k p end counted (n + j) z
  settled_at n [] j z h e = absurd (none-some z e)
  settled_at n (y ∷ zs) zero z h e = subst (λ i. Settled k p end counted i z) (let f : n ≡ n + 0 = omega arith in f) (subst (λ q. Settled k p end counted n q) (same_Some y z e) h.0)
  settled_at n (y ∷ zs) (suc j) z h e = subst (λ i. Settled k p end counted i z) (let f : suc n + j ≡ n + suc j = omega arith in f) (settled_at (suc n) zs j z h.1 e)

  pub record SeatAt (os : List Opening) (n : ℕ) (l : Layer) : Type 0 where
    pub opening : Opening
    pub there : slice_get os n ≡ Some opening
    pub seated : Seated k p end counted l opening

  pub seat_at : (ls : List Layer) (os : List Opening) (n : ℕ) (l : Layer) → AreSeated k p end counted ls os → slice_get ls n ≡ Some l → SeatAt os n l
  seat_at [] os n l h e = absurd (none-some l e)
  seat_at (m ∷ ls) [] n l h e = absurd h
  seat_at (m ∷ ls) (o ∷ os) zero l h e = record { opening = o; there = refl; seated = subst (λ q. Seated k p end counted q o) (same_Some m l e) h.0 }
  seat_at (m ∷ ls) (o ∷ os) (suc n) l h e = let w = seat_at ls os n l h.1 e in record { opening = w.opening; there = w.there; seated = w.seated }

  pub seats_many : (ls : List Layer) (os : List Opening) → AreSeated k p end counted ls os → length ls ≡ length os
  seats_many [] [] h = refl
  seats_many (l ∷ ls) (o ∷ os) h = ap suc (seats_many ls os h.1)
  seats_many _ _ h = absurd h

laid_systems : (t : syntax.Tree) → (laid t).systems ≡ system_types (whole_laid t).systems (whole_laid t).owned
unfolding laid tables_laid
laid_systems t = refl

-- ---- parameters

module _ (s : SystemLayout) (m : SystemMeaning) (different : AreDifferent (system_variables m)) (held : s.variables ≡ components_among false (system_variables m)) (parts : s.parts ≡ components_among true (parameter_variables m.parameters)) where
  held_found : (x : Name) (t : Ty) → has_components t ≡ false → Among x t (parameter_variables m.parameters) → look x s.variables ≡ Some t
  held_found x t w a =
      ap (look x) held ∙ found_among x t (components_among false (system_variables m)) (system_variables m) different (λ u h. (among_all false x u (system_variables m) h).0)
      (among_some false x t (system_variables m) w (among_left x t (parameter_variables m.parameters) m.variables a))

  part_found : (x : Name) (n : ℕ) → Among x (named.component_of n) (parameter_variables m.parameters) → look x s.parts ≡ Some (named.component_of n)
  part_found x n a =
      ap (look x) parts ∙ found_among x (named.component_of n) (components_among true (parameter_variables m.parameters)) (system_variables m) different (λ u h. among_left x u (parameter_variables m.parameters) m.variables (among_all true x u (parameter_variables m.parameters) h).0)
      (among_some true x (named.component_of n) (parameter_variables m.parameters) refl a)

  parameter_is : (x : Name) (t : Ty) → IsParameter t → Among x t (parameter_variables m.parameters) → SystemParameterIs s t x
  parameter_is x (named.array_over r t) f a = held_found x (named.array_over r t) f a
  parameter_is x (named.component_of n) f a = part_found x n a
  parameter_is x t f a = held_found x t refl a

  parameters_are : (qs : List Parameter) → Each (λ (q : Parameter). IsParameter q.ty) qs → ((x : Name) (t : Ty) → Among x t (parameter_variables qs) → Among x t (parameter_variables m.parameters)) → SystemParametersAre s qs
  parameters_are [] f a = tt
  parameters_are (q ∷ qs) f a = (parameter_is q.name q.ty f.0 (a q.name q.ty (inl (refl, refl))), parameters_are qs f.1 (λ x t h. a x t (inr h)))

-- ---- the initial statement

pub record InitialView (t : syntax.Tree) (n number : ℕ) : Type 0 where
  pub view : RoutineView
  pub there : slice_get (whole_laid t).routines number ≡ Some view
  pub system : view.system ≡ n

pub initial_view : (t : syntax.Tree) → Many t → (n : ℕ) → n ≤ program_system t.program → InitialView t n (initial_or (length (whole_laid t).routines - 1) (slice_get (whole_laid t).systems n))
initial_view t many n le = go (slice_get (whole_laid t).systems n) refl
  where
    p : ProgramLaid (whole_laid t)
    p = program_laid t.lines t.program

    go : (o : Option System) → slice_get (whole_laid t).systems n ≡ o → InitialView t n (initial_or (length (whole_laid t).routines - 1) o)
    go (Some s) e = let v = p.whole.owning.systems n s e in record { view = v.routine; there = v.there; system = v.same }
    go None e =
        let past = not_there (whole_laid t).systems n e in
        let last : p.initial ≡ length (whole_laid t).routines - 1 = (let c = p.count in omega (arith, c)) in
        let same : length (whole_laid t).systems ≡ n = omega (arith, past, le, many.systems) in
        record { view = p.last.routine; there = subst (λ j. slice_get (whole_laid t).routines j ≡ Some p.last.routine) last p.last.there; system = p.last.system ∙ same }

-- ---- a system type by its number

pub record SystemStands (t : syntax.Tree) (r : Tables) (n : ℕ) : Type 0 where
  -- where its routines begin
  pub around : Layer
  pub there : parts_at t n ≡ around
  pub own : (system_at r n).own ≡ around.owned.cells
  pub owns : Owns around (parameter_variables (system_of t.program n).parameters ++ components_among false (system_of t.program n).variables)
  pub first : FirstsApart (system_of t.program n).parameters around.names
  pub parameters : Each (λ (q : Parameter). IsParameter q.ty) (system_of t.program n).parameters
  -- where its initial statement begins
  pub begun : Layer
  pub names : InStep (numbering_of t.program) begun.types begun.names (system_of t.program n).scope
  pub under : Under around.names begun.names
  pub initial : (system_layout t n).initial < length r.routines
  pub statement : meaning_at t.program (system_layout t n).initial ≡ initial_meaning (system_of t.program n)
  pub owner : owner_in (program_system t.program) (slice_get (openings_of t.program) (system_layout t n).initial) ≡ n

pub system_stands : (t : syntax.Tree) (r : Tables) → plain r ≡ laid t → IsPlaced t → (n : ℕ) → AreDeclared permanent_variable (system_of t.program n).scope (system_variables (system_of t.program n)) → n ≤ program_system t.program → SystemStands t r n
system_stands t r same place n declares le =
    let k : Numbering = numbering_of t.program in
    let p : syntax.Program = t.program in
    let end : Layer = whole_laid t in
    let counted : Counted end.types = (program_laid t.lines p).whole.sized.types in
    let all = all_seated k t counted place.plain.small place.plain.fit place.plain.numbered (opened_all p) in
    let many : Many t = all_many k t place.plain.small place.plain.fit place.plain.numbered (opened_all p) in
    let m : SystemMeaning = system_of p n in
    let parts : length (all_parts t) ≡ length (program_parts_parts (nothing_laid t.lines) p.parts) + 1 = length-append (program_parts_parts (nothing_laid t.lines) p.parts) (_ ∷ []) in
    let count : 0 + length (program_parts_parts (nothing_laid t.lines) p.parts) ≡ program_system p = parts_many (nothing_laid t.lines) nothing_declared p.parts in
    let at : (z : Layer) × (slice_get (all_parts t) n ≡ Some z) = there (all_parts t) n (omega (arith, parts, count, le)) in
    let z : Layer = at.0 in
    let s : Settled k p end counted n z = subst (λ j. Settled k p end counted j z) (let f : 0 + n ≡ n = omega arith in f) (settled_at k p end counted 0 (all_parts t) n z all.1 at.1) in
    let number : ℕ = initial_number k p end counted n in
    let view : InitialView t n number = initial_view t many n le in
    let below : number < length end.routines = slice_get_within end.routines number view.view view.there in
    let begun : (l : Layer) × (slice_get (all_begun t) number ≡ Some l) = there (all_begun t) number (omega (arith, below, seats_many k p end counted (all_begun t) (openings_of p) all.0, many.routines)) in
    let l : Layer = begun.0 in
    let seat : SeatAt k p end counted (openings_of p) number l = seat_at k p end counted (all_begun t) (openings_of p) number l all.0 begun.1 in
    let ended : EndsAt t (openings_of p) 0 number l = ends_at t 0 (all_begun t) (openings_of p) number l (all_end k t) begun.1 in
    let v : RoutineView = routine_of (body_items l ended.opening.meaning.body ended.opening.meaning.checks).1 (body_items l ended.opening.meaning.body ended.opening.meaning.checks).0 in
    let v_there : slice_get end.routines number ≡ Some v = subst (λ j. slice_get end.routines j ≡ Some v) (let f : 0 + number ≡ number = omega arith in f) ended.ends.there in
    let systems : length l.systems ≡ n = sym (ap (λ (j : Layer). length j.systems) (body_grew l ended.opening.meaning.body ended.opening.meaning.checks).1) ∙ ap (λ (q : RoutineView). q.system) (same_Some v view.view (sym v_there ∙ view.there)) ∙ view.system in
    let owner : owner_in (program_system p) (slice_get (openings_of p) number) ≡ n = ap (owner_in (program_system p)) seat.there ∙ sym seat.seated.system ∙ systems in
    let meant : meaning_at p number ≡ initial_meaning m = s.statement in
    let scope : (meaning_at p number).scope ≡ m.scope = ap (λ (q : RoutineMeaning). q.scope) meant in
    let opens : Opens k t place.once (openings_of p) number l = opens_of t place number l begun.1 in
    let same_opening : opens.opening ≡ seat.opening = same_Some opens.opening seat.opening (sym opens.there ∙ seat.there) in
    let opens_owner : opens.opening.owner ≡ n = ap (λ (o : Opening). o.owner) same_opening ∙ sym seat.seated.system ∙ systems in
    let around : opens.begins.around ≡ z = same_Some opens.begins.around z (sym opens.begins.outer.there ∙ ap (λ j. slice_get (all_parts t) j) opens_owner ∙ at.1) in
    let steps : InStep k l.types l.names m.scope = subst (λ u. InStep k l.types l.names u) scope (layouts_law t place number l begun.1).names.names in
    let own : (system_at r n).own ≡ z.owned.cells = ap (λ ss. (slice_index_or ss n no_system).own) (ap (λ (q : PlainTables). q.systems) same ∙ laid_systems t) ∙ s.cells in
    let sized : (w : Variable) → find w.name m.scope ≡ Some (permanent_variable w.ty) → cells_of w.ty ≤ most = λ w e. (permanent_sized w.name w.ty (meaning_at p number).scope (place.sized number) (ap (find w.name) scope ∙ e)).0 in
    let small : Each (λ (w : Variable). cells_of w.ty ≤ most) (system_variables m) = each_map (λ (w : Variable). find w.name m.scope ≡ Some (permanent_variable w.ty)) (λ (w : Variable). cells_of w.ty ≤ most) (system_variables m) sized declares.visible in
    let qs : List Variable = parameter_variables m.parameters in
    let later : Each (λ (w : Variable). has_components w.ty ≡ false → cells_of w.ty ≤ most) m.variables = each_map (λ (w : Variable). cells_of w.ty ≤ most) (λ (w : Variable). has_components w.ty ≡ false → cells_of w.ty ≤ most) m.variables (λ w c e. c) (each_right (λ (w : Variable). cells_of w.ty ≤ most) qs m.variables small) in
    let fits : SystemFits k p end counted m = system_fits k m declares.different (each_left (λ (w : Variable). cells_of w.ty ≤ most) qs m.variables small) later in
    let owns : Owns z (qs ++ components_among false m.variables) = s.owns fits in
    let place_is : parts_at t n ≡ z = ap (layer_or (nothing_laid t.lines)) at.1 in
    record {
      around = z;
      there = place_is;
      own = own;
      owns = owns;
      first = subst (λ (q : Layer). FirstsApart m.parameters q.names) around (subst (λ j. FirstsApart (system_of p j).parameters opens.begins.around.names) opens_owner opens.begins.outer.first);
      parameters = s.parameters;
      begun = l;
      names = steps;
      under = subst (λ (q : Layer). Under q.names l.names) around opens.begins.under;
      initial = subst (λ rs. number < length rs) (sym (ap (λ (q : PlainTables). q.routines) same ∙ laid_routines t)) below;
      statement = meant;
      owner = owner;
    }

pub systems_law : SystemsLaw
systems_law t r same place framed modest n le =
    let k : Numbering = numbering_of t.program in
    let m : SystemMeaning = system_of t.program n in
    let s : SystemStands t r n = system_stands t r same place n (framed.permanents n) le in
    let z : Layer = s.around in
    let l : Layer = s.begun in
    let few : z.owned.cells < most = subst (λ c. c < most) s.own (modest n) in
    let under : (x : Name) (i : ℕ) (w : CellType) → layers.find x l.names ≡ Some (meaning.Variable (origin.Permanent i) w) → layers.find x z.names ≡ Some (meaning.Variable (origin.Permanent i) w) = λ x i w e. s.under x (meaning.Variable (origin.Permanent i) w) tt e in
    let inside : (x : Name) (u : Ty) → look x (components_among false (system_variables m)) ≡ Some u → slot_in (layers.find x (parts_at t n).names) + cells_of u ≤ (system_at r n).own =
    λ x u e. subst (λ (q : Layer). slot_in (layers.find x q.names) + cells_of u ≤ (system_at r n).own) (sym s.there) (subst (λ c. slot_in (layers.find x z.names) + cells_of u ≤ c) (sym s.own) (cells_inside k m z l (framed.permanents n) (framed.standing n) s.owns few s.names under x u e)) in
    record {
      initial = s.initial;
      statement = s.statement;
      owner = s.owner;
      cells = inside;
      apart = subst (λ (q : Layer). AreApart (λ x. slot_in (layers.find x q.names)) (components_among false (system_variables m))) (sym s.there) (cells_apart k m z l (framed.permanents n) (framed.standing n) s.owns few s.names under);
      typed = first_typed k m z l (framed.permanents n) (framed.standing n) s.owns few s.names under;
      parameters = parameters_are (system_layout t n) m (framed.permanents n).different refl refl m.parameters s.parameters (λ x u h. h);
    }
