-- Each item of tables that stand for a tree is inside what it names, and the components that it names are of the types that it wants.
use Rattle.std.proofs.Common.{◌≡◌, ◌+◌, ◌-◌, ◌<◌, ◌≤◌, ◌-ℤ◌, unsigned_abs, ℕ, zero, suc, nat_lt, Bool, true, false, if◌then◌else◌, List, [], ◌∷◌, ◌++◌, length, Option, Some, None, slice_get, slice_index_or, refl, sym, ap, subst, ◌∙◌, ◌⊎◌, inl, inr, arith, rules}
use Rattle.cp_resolved.proofs.Words.{same_Some, slice_get_within, Tree, PlaceOrigin, most, plain, system_types, laid, Layer, ActionNames, Name, result_name}
use Rattle.cp_resolved.proofs.Words.{Ty, length_of_range, has_components, Parameter, RoutineMeaning, result_type, system_of, program_system, all_begun, ground_of}
use Rattle.cp_resolved.proofs.Words.{component_begun, place_of, Means, IsSizedMeaning, Opening, openings_of, meaning_in, meaning_at, numbering_of, Each, layouts_of}
use Rattle.cp_resolved.proofs.Words.{IsFull, Tables, RoutineView, SystemView, item_at, routine_at, system_at, no_system}
use Rattle.cp_slots.specs.declared.place.PlaceOrigin.TheVariants as origin
use Rattle.cp_slots.specs.Code as code
use Rattle.cp_slots.specs.Inside.{extent_at, room_from}
use Rattle.cp_meaning.specs.Types as named
use Rattle.cp_meaning.specs.Scopes as scopes
use Rattle.cp_resolved.specs.Headed.{IsOrdinalResult, AreNumbered, HeadingFits, EntranceFits}
use Rattle.cp_resolved.specs.ItemsInside.{CanHold, ItemsInside, InsideLaw}
use Rattle.cp_resolved.specs.Layouts.{cells_of, FrameLayout, SystemLayout, Here, frame_here, system_here, is_parameter, cell_named, look}
use Rattle.cp_resolved.specs.Resolved.{FrameIs, ParameterIs, ParametersAre, ResultIs, SystemParameterIs, SystemParametersAre, RoutineIs, SystemIs, Stands}
use Rattle.cp_resolved.proofs.items.BodiesStand.{BegunAt, begun_at}
use Rattle.cp_resolved.proofs.laid.Calling.{ActionFits}
use Rattle.cp_resolved.proofs.laid.Calling.{Calls as CallsOne}
use Rattle.cp_resolved.proofs.laid.Covered.{All, Adds, each_adds, begun_many, program_covers}
use Rattle.cp_resolved.proofs.names.Entries.{there}
use Rattle.cp_resolved.proofs.inside.InsideArguments.{SlotFits, ParametersFit, Leads}
use Rattle.cp_resolved.proofs.inside.InsideExpressions.{VariablesFit}
use Rattle.cp_resolved.proofs.inside.InsideForms.{DesignatedFits}
use Rattle.cp_resolved.proofs.inside.InsideItems.{CalleeFits, StartFits, IsThere, means_inside, means_names}
use Rattle.cp_resolved.proofs.inside.InsidePlaces.{HasCells, PlaceFits, whole_fits, one_longer}
use Rattle.cp_resolved.proofs.items.ItemsMean.{IsMeant, AreMeant, NewItems}
use Rattle.cp_resolved.proofs.systems.OwnCells.{OwnsAll, IsCurrent, program_owns}
use Rattle.cp_resolved.proofs.inside.PlainActions.{action_views, action_names}
use Rattle.cp_resolved.proofs.inside.PlainInside.{expression_in, behind_some}
use Rattle.cp_resolved.proofs.sound.SoundComponents.{Tabled, tabled, layer_of, listing_of, room_of, system_own, program_own}
use Rattle.cp_resolved.proofs.sound.SoundItems.{item_there, routine_there, routines_length}
use Rattle.cp_resolved.proofs.items.StatementsStand.{statements_mean}
use Rattle.cp_resolved.proofs.laid.Whole.{Whole, HasRoom, program_laid}
use Rattle.cp_resolved.specs.ItemsStand.{body_items}

extent_there : (es : List ℕ) (n : ℕ) → n < length es → extent_at es n ≡ Some (slice_index_or es n 0)
extent_there es n lt = (let e : nat_lt n (length es) ≡ true = search (rules, lt) in ap (λ b. if b then Some (slice_index_or es n 0) else None) e)

result_full : (o : Option Ty) → IsOrdinalResult o → IsFull (result_type o)
result_full None i = tt
result_full (Some (named.ordinal q)) i = tt
result_full _ i = absurd i

result_cells : (o : Option Ty) (u : Ty) → IsOrdinalResult o → o ≡ Some u → cells_of u ≡ 1
result_cells None u i e = absurd (cc)
result_cells (Some (named.ordinal q)) u i e = ap cells_of (sym (same_Some (named.ordinal q) u e))
result_cells _ u i e = absurd i

-- ---- cells of variables

module _ (r : RoutineView) where
  local_cells : (o : PlaceOrigin) (slot n : ℕ) → o ≡ origin.Local slot → slot + n ≤ length r.image → HasCells r o n
  local_cells o slot n e le = record { room = length r.image - slot; from = ap (room_from r) e ∙ behind_some slot (length r.image) (omega (arith, le)); enough = omega (arith, le) }

  permanent_cells : (slot n : ℕ) → slot + n ≤ r.own → HasCells r (origin.Permanent slot) n
  permanent_cells slot n le = record { room = r.own - slot; from = behind_some slot r.own (omega (arith, le)); enough = omega (arith, le) }

  reference_cells : (o : PlaceOrigin) (number n : ℕ) → o ≡ origin.Reference number → number < length r.extents → slice_index_or r.extents number 0 ≡ n → HasCells r o n
  reference_cells o number n e lt i = record { room = slice_index_or r.extents number 0; from = ap (room_from r) e ∙ extent_there r.extents number lt; enough = omega (arith, i) }

  -- the parameters of a routine have their cells
  parameter_fits : (f : FrameLayout) (m : RoutineMeaning) (q : Parameter) (b : Bool) (u : Ty) → FrameIs f r m → (b ≡ true → look q.name f.references ≡ Some u) → (b ≡ false → look q.name f.variables ≡ Some u) → SlotFits r (length r.image) (cell_named f q.name) b u
  parameter_fits f m q true u i e g = (i.numbered q.name u (e refl)).1
  parameter_fits f m q false (named.component_of k) i e g = tt
  parameter_fits f m q false t i e g = i.cells q.name t (g refl)

  parameters_fit : (f : FrameLayout) (m : RoutineMeaning) (qs : List Parameter) → FrameIs f r m → ParametersAre f qs → ParametersFit r (length r.image) (cell_named f) qs
  parameters_fit f m [] i h = tt
  parameters_fit f m (q ∷ qs) i h = (parameter_fits f m q q.is_var q.ty i (λ e. subst (λ b. ParameterIs f b q) e h.0) (λ e. subst (λ b. ParameterIs f b q) e h.0), parameters_fit f m qs i h.1)

  -- and so have those of a system type, where none is a `var` parameter
  entrance_fits : (extent : ℕ) (s : SystemLayout) (x : Name) (u : Ty) → ((y : Name) (w : Ty) → look y s.variables ≡ Some w → s.slots y + cells_of w ≤ extent) → SystemParameterIs s u x → SlotFits r extent (s.slots x) false u
  entrance_fits extent s x (named.component_of k) c h = tt
  entrance_fits extent s x t c h = c x t h

  entrances_fit : (extent : ℕ) (s : SystemLayout) (qs : List Parameter) → ((y : Name) (w : Ty) → look y s.variables ≡ Some w → s.slots y + cells_of w ≤ extent) → SystemParametersAre s qs → Each (λ (q : Parameter). q.is_var ≡ false) qs → ParametersFit r extent s.slots qs
  entrances_fit extent s [] c h v = tt
  entrances_fit extent s (q ∷ qs) c h v = (subst (λ b. SlotFits r extent (s.slots q.name) b q.ty) (sym v.0) (entrance_fits extent s q.name q.ty c h.0), entrances_fit extent s qs c h.1 v.1)

-- parameters of which none is a `var` parameter
values_numbered : (slots : Name → ℕ) (next : ℕ) (qs : List Parameter) → Each (λ (q : Parameter). q.is_var ≡ false) qs → AreNumbered slots next next qs
values_numbered slots next [] v = refl
values_numbered slots next (q ∷ qs) v = go q.is_var v.0 (values_numbered slots next qs v.1)
  where
    go : (b : Bool) → b ≡ false → AreNumbered slots next next qs → AreNumbered slots next next ((let p : Parameter = record { name = q.name; ty = q.ty; is_var = b } in p) ∷ qs)
    go true e k = absurd (cc)
    go false e k = k

module _ (t : Tree) (r : Tables) (same : plain r ≡ laid t) (few : length r.items ≤ most) (s : Stands (ground_of r t) t (layouts_of t)) (c : CanHold t r) where
  abbrev l : Layer
  l = layer_of t

  abbrev w : Whole l
  w = (program_laid t.lines t.program).whole

  abbrev d : Tabled r l (listing_of l) (room_of l)
  d = tabled r t same

  -- ---- what is laid out

  own_same : (n : ℕ) → n < length r.routines → (routine_at r n).own ≡ (system_at r (routine_at r n).system).own
  own_same n lt =
      let v = there l.routines n (let e = routines_length r l d.shows w in omega (arith, e, lt)) in
      let is : routine_at r n ≡ v.0 = routine_there r l d.shows w n v.0 v.1 in
      subst (λ (x : RoutineView). x.own ≡ (system_at r x.system).own) (sym is) (go v.0 (program_owns t n v.0 v.1))
    where
      own : (k : ℕ) → (system_at r k).own ≡ (slice_index_or (system_types l.systems l.owned) k no_system).own
      own k = ap (λ (xs : List SystemView). (slice_index_or xs k no_system).own) d.systems

      go : (v : RoutineView) → OwnsAll l.systems v ⊎ IsCurrent l v → v.own ≡ (system_at r v.system).own
      go v (inl i) = i.own ∙ sym (own v.system ∙ system_own l v.system i.system i.there)
      go v (inr i) = i.1 ∙ sym (own v.system ∙ ap (λ k. (slice_index_or (system_types l.systems l.owned) k no_system).own) i.0 ∙ program_own l)

  extents_same : (n : ℕ) → n < length r.routines → length (routine_at r n).extents ≡ (routine_at r n).references
  extents_same n lt =
      let v = there l.routines n (let e = routines_length r l d.shows w in omega (arith, e, lt)) in
      let is : routine_at r n ≡ v.0 = routine_there r l d.shows w n v.0 v.1 in
      let h : HasRoom v.0 = w.routines n v.0 v.1 in
      subst (λ (x : RoutineView). length x.extents ≡ x.references) (sym is) h.extents

  callee_there : (a : code.Action) (routine need : ℕ) → routine < length l.routines → ActionFits l routine need a → IsThere r a
  callee_there (code.call number part b xs o) routine need lt f = go f.0
    where
      go : (number ≡ routine) ⊎ CallsOne l routine need number → number < length r.routines
      go (inl e) = let k = routines_length r l d.shows w in omega (arith, k, lt, e)
      go (inr i) = let k = routines_length r l d.shows w in let v : number < length l.routines = slice_get_within l.routines number i.view i.there in omega (arith, k, v)
  callee_there _ routine need lt f = tt

  -- ---- variables

  abbrev IsSystem : ℕ → Type 0
  IsSystem k = k ≤ program_system t.program

  module _ (n : ℕ) (lt : n < length r.routines) where
    abbrev h : Here
    h = place_of t n

    abbrev rv : RoutineView
    rv = routine_at r n

    abbrev is : RoutineIs (ground_of r t) t.program (layouts_of t) n
    is = s.routines n lt

    abbrev C : code.ComponentPlace → ℕ → Type 0
    C = Leads r h rv IsSystem

    frame_cells : (x : Name) (u : Ty) → look x (frame_here h).variables ≡ Some u → HasCells rv ((frame_here h).origins x) (cells_of u)
    frame_cells x u e = local_cells rv ((frame_here h).origins x) (cell_named (frame_here h) x) (cells_of u) (is.frame.local x u e) (is.frame.cells x u e)

    any_cells : (x : Name) (u : Ty) → (look x (frame_here h).variables ≡ Some u) ⊎ (look x (frame_here h).references ≡ Some u) → HasCells rv ((frame_here h).origins x) (cells_of u)
    any_cells x u (inl e) = frame_cells x u e
    any_cells x u (inr e) =
        let k = is.frame.numbered x u e in
        let few_enough : cell_named (frame_here h) x < rv.references = k.0 in
        reference_cells rv ((frame_here h).origins x) (cell_named (frame_here h) x) (cells_of u) (is.frame.reference x u e) (let z = extents_same n lt in omega (arith, few_enough, z)) k.1

    own_here : rv.own ≡ (system_at r h.system).own
    own_here = own_same n lt ∙ ap (λ k. (system_at r k).own) is.system

    permanent_fits : (x : Name) (u : Ty) → scopes.find x h.scope ≡ Some (scopes.permanent_variable u) → has_components u ≡ false → PlaceFits rv (code.place (origin.Permanent ((system_here h).slots x)) 0 code.no_indices) u
    permanent_fits x u e none =
        let le : (system_here h).slots x + cells_of u ≤ (system_at r h.system).own = (s.systems h.system is.owner).cells x u (is.permanents x u e none) in
        whole_fits rv (origin.Permanent ((system_here h).slots x)) u (permanent_cells rv ((system_here h).slots x) (cells_of u) (let k = own_here in omega (arith, le, k))) (subst IsSizedMeaning e (c.placed.sized n x)).1

    one_leads : (x : Name) (k : ℕ) (b : Bool) → scopes.find x h.scope ≡ Some (scopes.permanent_variable (named.component_of k)) → is_parameter x (system_of h.program h.system).parameters ≡ b → DesignatedFits C h rv (component_begun h x k b)
    one_leads x k true e i = (refl, (c.components n lt).bound x k e i, (c.components n lt).one x k e)
    one_leads x k false e i = (refl, (c.components n lt).contained x k e i, (c.components n lt).one x k e)

    each_leads : (x : Name) (q : named.Range) (k : ℕ) → scopes.find x h.scope ≡ Some (scopes.permanent_variable (named.array_over q (named.component_of k))) → (e : code.OrdinalExpression) → expression_in rv e ≡ true → C (code.element ((system_here h).firsts x) q.low q.high (h.layouts.systems k).count e) k
    each_leads x q k f e i = (i, λ o j there le. (c.components n lt).elements x q k f o j there (below j le), (c.components n lt).each x q k f)
      where
        below : (j : ℕ) → j ≤ unsigned_abs (q.high -ℤ q.low) → j < length_of_range q
        below j le =
            let z : length_of_range q ≡ suc (unsigned_abs (q.high -ℤ q.low)) = one_longer (q.high -ℤ q.low) (subst IsSizedMeaning f (c.placed.sized n x)).1.0 in
            omega (arith, z, le)

    variables : VariablesFit C h rv
    variables =
        record {
          frame = frame_cells;
          local = λ x u e. whole_fits rv ((frame_here h).origins x) u (any_cells x u (is.frame.locals x u e)) (subst IsSizedMeaning e (c.placed.sized n x)).1;
          permanent = permanent_fits;
          result = λ x y e o. whole_fits rv ((frame_here h).origins result_name) (result_type (h.layouts.meanings n).result) (frame_cells result_name (result_type (h.layouts.meanings n).result) (is.own_result x o)) (result_full (h.layouts.meanings n).result (c.headings n lt).result);
          component = λ x k e. one_leads x k (is_parameter x (system_of h.program h.system).parameters) e refl;
          components = λ x q k f. each_leads x q k f;
        }

    result_there : (o : Option Ty) (u : Ty) → o ≡ Some u → IsOrdinalResult o → ResultIs (frame_here h) rv o → (1 ≤ cells_of u) × (rv.result < length rv.image)
    result_there o u e i k =
        let one : cells_of u ≡ 1 = result_cells o u i e in
        let g : ResultIs (frame_here h) rv (Some u) = subst (ResultIs (frame_here h) rv) e k in
        let le : cell_named (frame_here h) result_name + cells_of u ≤ length rv.image = is.frame.cells result_name u g.0 in
        let at : cell_named (frame_here h) result_name ≡ rv.result = g.1 in
        (omega (arith, one), omega (arith, one, le, at))

  callee_fits : (h : Here) (number : ℕ) → h.layouts ≡ layouts_of t → number < length r.routines → CalleeFits r h number
  callee_fits h number e lt =
      let i : RoutineIs (ground_of r t) t.program (layouts_of t) number = s.routines number lt in
      let k : HeadingFits ((layouts_of t).frames number) (routine_at r number) (meaning_at t.program number) = c.headings number lt in
      let m : RoutineMeaning = (layouts_of t).meanings number in
      subst (λ y. CalleeFits r (record h { layouts = y }) number) (sym e) (record {
        parameters = parameters_fit (routine_at r number) ((layouts_of t).frames number) m m.parameters i.frame i.frame.parameters;
        numbered = k.numbered;
        plain = k.parameters;
        system = i.system;
        result = λ u f. result_there number lt m.result u f k.result i.frame.result;
      })

  start_fits : (n k : ℕ) → IsSystem k → StartFits r (place_of t n) k
  start_fits n k le =
      let i : SystemIs (ground_of r t) t.program (layouts_of t) k = s.systems k le in
      let f : EntranceFits r k ((layouts_of t).systems k).slots (system_of t.program k).parameters = c.entrances k le in
      let y : SystemLayout = (layouts_of t).systems k in
      let v : RoutineView = routine_at r y.initial in
      let qs : List Parameter = (system_of t.program k).parameters in
      let system : v.system ≡ k = (s.routines y.initial i.initial).system ∙ i.owner in
      let own : v.own ≡ (system_at r k).own = own_same y.initial i.initial ∙ ap (λ j. (system_at r j).own) system in
      let none : 0 ≡ length v.extents = subst (λ (m : RoutineMeaning). AreNumbered (cell_named ((layouts_of t).frames y.initial)) 0 (length v.extents) m.parameters) i.statement (c.headings y.initial i.initial).numbered in
      let same_extents : length v.extents ≡ v.references = extents_same y.initial i.initial in
      record {
        parameters = entrances_fit v v.own y qs (λ x u e. (let a : y.slots x + cells_of u ≤ (system_at r k).own = i.cells x u e in omega (arith, a, own))) i.parameters f.values;
        numbered = subst (λ j. AreNumbered y.slots 0 j qs) none (values_numbered y.slots 0 qs f.values);
        values = f.values;
        handed = f.handed;
        system = system;
        references = omega (arith, none, same_extents);
      }

  -- ---- all items

  abbrev IsWell : code.Item → Type 0
  IsWell i = Means (place_of t i.routine) i.action

  all_well : (n m : ℕ) (js : List code.Item) → m ≡ n → AreMeant (place_of t n) m js → All IsWell js
  all_well n m [] e a = tt
  all_well n m (i ∷ js) e a = (let k : IsMeant (place_of t n) m i = a.0 in subst (λ j. Means (place_of t j) i.action) (sym (k.routine ∙ e)) k.means, all_well n m js e a.1)

  adds : (n : ℕ) (b : Layer) (o : Opening) → slice_get (all_begun t) n ≡ Some b → slice_get (openings_of t.program) n ≡ Some o → Adds IsWell b o
  adds n b o e f =
      let k : BegunAt t r n b = begun_at t r c.placed n b e (c.bodies n b e) in
      let new : NewItems (place_of t n) b (body_items b (meaning_at t.program n).body (meaning_at t.program n).checks).1 = statements_mean (numbering_of t.program) (place_of t n) (ground_of r t) b (meaning_at t.program n).body (meaning_at t.program n).checks few (λ at. refl) k.around k.can in
      let opened : meaning_at t.program n ≡ o.meaning = ap (meaning_in _) f in
      record { new = new.new; same = subst (λ (m : RoutineMeaning). (body_items b m.body m.checks).1.items ≡ b.items ++ new.new) opened new.same; all = all_well n (length b.routines) new.new k.ends.number new.meant }

  all_at : (js : List code.Item) (at : ℕ) (i : code.Item) → slice_get js at ≡ Some i → All IsWell js → IsWell i
  all_at [] at i e a = absurd (cc)
  all_at (j ∷ js) zero i e a = subst IsWell (same_Some j i e) a.0
  all_at (j ∷ js) (suc at) i e a = all_at js at i e a.1

  record ItemFits (at : ℕ) : Type 0 where
    routine : (item_at r at).routine < length r.routines
    there : IsThere r (code.action_seen (item_at r at).action)
    means : Means (place_of t (item_at r at).routine) (code.action_seen (item_at r at).action)

  item_fits : (at : ℕ) → at < length r.items → ItemFits at
  item_fits at lt =
      let i : code.Item = code.item_seen (item_at r at) in
      let e : slice_get l.items at ≡ Some i = item_there r l d.shows w at lt in
      let k = routines_length r l d.shows w in
      let in_bounds : i.routine < length l.routines = w.inside at i e in
      record {
        routine = omega (arith, in_bounds, k);
        there = callee_there i.action i.routine i.need in_bounds (w.items at i e).action;
        means = all_at l.items at i e (program_covers IsWell t (each_adds IsWell (all_begun t) (openings_of t.program) (begun_many IsWell t) adds));
      }

  pub items_inside : ItemsInside r
  items_inside =
      record {
        inside = λ at lt. (let i = item_fits at lt in let n : ℕ = (item_at r at).routine in let a = (item_at r at).action in
            action_views r (routine_at r n) a ∙ means_inside r (place_of t n) (routine_at r n) IsSystem (variables n i.routine) (λ x u e. (s.routines n i.routine).frame.cells x u e) (λ number k. callee_fits (place_of t n) number refl k) (start_fits n) (code.action_seen a) i.there i.means);
        actions = λ at lt. (let i = item_fits at lt in let n : ℕ = (item_at r at).routine in let a = (item_at r at).action in
            subst (λ j. ActionNames r j a) (sym (s.routines n i.routine).system) (action_names r (place_of t n).system a (means_names r (place_of t n) (routine_at r n) IsSystem (variables n i.routine) (λ x u e. (s.routines n i.routine).frame.cells x u e) (λ number k. callee_fits (place_of t n) number refl k) (start_fits n) (code.action_seen a) i.there i.means)));
      }

pub inside_law : InsideLaw
inside_law t r same few s c = items_inside t r same few s c
