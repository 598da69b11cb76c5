-- What is visible of the variables of a system type in its routines, and which of its layout are the names of components.
use Rattle.std.proofs.Common.{◌≡◌, ◌<◌, ◌≤◌, ◌||◌, ℕ, Bool, true, false, List, [], ◌∷◌, ◌++◌, length, Option, Some, None, slice_get, refl, sym, ap, subst, ◌∙◌, ◌⊎◌, inl, inr, append_assoc, arith}
use Rattle.cp_resolved.proofs.Words.{same_Some, slice_get_within, Program, Tree, Layer, Tables, Name, same_name, permanent_variable, predeclared, find, Variable}
use Rattle.cp_resolved.proofs.Words.{Parameter, RoutineMeaning, parameter_variables, SystemMeaning, declared, program_system, own_meaning, system_of, all_begun}
use Rattle.cp_resolved.proofs.Words.{ground_of, AreDeclared, routine_variables, system_variables, IsFramed, SystemLayout, is_parameter, look, IsPlaced, SystemParameterIs}
use Rattle.cp_resolved.proofs.Words.{SystemParametersAre, initial_meaning, Stands, components_among, owner_in, layouts_of, whole_laid}
use Rattle.cp_meaning.specs.Types.{Ty, Range, array_over, component_of, has_components}
use Rattle.cp_resolved.specs.Openings.{Opening, routine_openings, initial_opening, parts_openings, openings_of, meaning_in, meaning_at, numbering_of}
use Rattle.cp_resolved.proofs.names.Entries.{there, last_entry}
use Rattle.cp_resolved.proofs.frames.FrameCells.{itself, same_is, look_each}
use Rattle.cp_resolved.proofs.names.Opened.{opened_all}
use Rattle.cp_resolved.proofs.agreeing.ScopeVariables.{Among, among_left, look_among, among_look, among_all, among_some, AreOf, of_permanent}
use Rattle.cp_resolved.proofs.frames.Seats.{Seated, AreSeated}
use Rattle.cp_resolved.proofs.frames.SeatsOfProgram.{all_seated}
use Rattle.cp_resolved.proofs.systems.Sizes.{Counted}
use Rattle.cp_resolved.proofs.systems.SystemKnown.{found_among, among_either}
use Rattle.cp_resolved.proofs.systems.SystemsStand.{SeatAt, seat_at, seats_many}
use Rattle.cp_resolved.proofs.laid.Whole.{program_laid}

-- ---- parameters by their names

parameter_named : (x : Name) (qs : List Parameter) → is_parameter x qs ≡ true → (u : Ty) × Among x u (parameter_variables qs)
parameter_named x [] h = absurd (let w : false ≡ true = h in cc)
parameter_named x (q ∷ qs) h = go (same_name x q.name) refl h (parameter_named x qs)
  where
    go : (b : Bool) → same_name x q.name ≡ b → (b || is_parameter x qs) ≡ true → (is_parameter x qs ≡ true → (u : Ty) × Among x u (parameter_variables qs)) → (u : Ty) × Among x u (parameter_variables (q ∷ qs))
    go true e f rest = (q.ty, inl (sym (same_is x q.name e), refl))
    go false e f rest = let w = rest f in (w.0, inr w.1)

named_parameter : (x : Name) (u : Ty) (qs : List Parameter) → Among x u (parameter_variables qs) → is_parameter x qs ≡ true
named_parameter x u [] h = absurd h
named_parameter x u (q ∷ qs) (inl e) = ap (λ b. b || is_parameter x qs) (subst (λ y. same_name x y ≡ true) (sym e.0) (itself x))
named_parameter x u (q ∷ qs) (inr h) = go (same_name x q.name) (named_parameter x u qs h)
  where
    go : (b : Bool) → is_parameter x qs ≡ true → (b || is_parameter x qs) ≡ true
    go true e = refl
    go false e = e

-- ---- a system type whose variables have different names

module _ (m : SystemMeaning) (own : AreDeclared permanent_variable m.scope (system_variables m)) where
  abbrev qs : List Variable
  qs = parameter_variables m.parameters

  pub found_there : (x : Name) (u : Ty) → Among x u (system_variables m) → find x m.scope ≡ Some (permanent_variable u)
  found_there x u a = look_each (λ v. find v.name m.scope ≡ Some (permanent_variable v.ty)) x u (system_variables m) own.visible (among_look x u (system_variables m) own.different a)

  pub one_type : (x : Name) (u w : Ty) → Among x u (system_variables m) → Among x w (system_variables m) → u ≡ w
  one_type x u w a b = same_Some u w (sym (among_look x u (system_variables m) own.different a) ∙ among_look x w (system_variables m) own.different b)

  pub as_parameter : (x : Name) (u : Ty) → Among x u (system_variables m) → is_parameter x m.parameters ≡ true → Among x u qs
  as_parameter x u a h =
      let w : (v : Ty) × Among x v qs = parameter_named x m.parameters h in
      subst (λ v. Among x v qs) (one_type x w.0 u (among_left x w.0 qs m.variables w.1) a) w.1

  pub as_variable : (x : Name) (u : Ty) → Among x u (system_variables m) → is_parameter x m.parameters ≡ false → Among x u m.variables
  as_variable x u a h = go (among_either x u qs m.variables a)
    where
      go : Among x u qs ⊎ Among x u m.variables → Among x u m.variables
      go (inl i) = absurd (let bad : true ≡ false = sym (named_parameter x u m.parameters i) ∙ h in cc)
      go (inr i) = i

  -- ---- in the layout: a parameter that is a component is one of its parts, and components have no cells

  pub part_there : (x : Name) (k : ℕ) → Among x (component_of k) qs → look x (components_among true qs) ≡ Some (component_of k)
  part_there x k a =
      found_among x (component_of k) (components_among true qs) (system_variables m) own.different (λ u h. among_left x u qs m.variables (among_all true x u qs h).0) (among_some true x (component_of k) qs refl a)

  pub no_part : (x : Name) → is_parameter x m.parameters ≡ false → look x (components_among true qs) ≡ None
  no_part x h = go (look x (components_among true qs)) refl
    where
      go : (o : Option Ty) → look x (components_among true qs) ≡ o → look x (components_among true qs) ≡ None
      go None e = e
      go (Some w) e = absurd (let bad : true ≡ false = sym (named_parameter x w m.parameters (among_all true x w qs (look_among x w (components_among true qs) e)).0) ∙ h in cc)

  pub no_cells : (x : Name) (u : Ty) → Among x u (system_variables m) → has_components u ≡ true → look x (components_among false (system_variables m)) ≡ None
  no_cells x u a h = go (look x (components_among false (system_variables m))) refl
    where
      go : (o : Option Ty) → look x (components_among false (system_variables m)) ≡ o → look x (components_among false (system_variables m)) ≡ None
      go None e = e
      go (Some w) e =
          let i = among_all false x w (system_variables m) (look_among x w (components_among false (system_variables m)) e) in
          absurd (let bad : true ≡ false = sym h ∙ ap has_components (one_type x u w a i.0) ∙ i.1 in cc)

  -- no parameter is an array of components
  array_cells : (s : SystemLayout) (ps : List Parameter) (x : Name) (q : Range) (k : ℕ) → SystemParametersAre s ps → Among x (array_over q (component_of k)) (parameter_variables ps) → look x s.variables ≡ Some (array_over q (component_of k))
  array_cells s [] x q k h a = absurd a
  array_cells s (p ∷ ps) x q k h (inl e) = subst (λ y. SystemParameterIs s (array_over q (component_of k)) y) e.0 (subst (λ u. SystemParameterIs s u p.name) e.1 h.0)
  array_cells s (p ∷ ps) x q k h (inr i) = array_cells s ps x q k h.1 i

  pub no_array : (s : SystemLayout) (x : Name) (q : Range) (k : ℕ) → s.variables ≡ components_among false (system_variables m) → SystemParametersAre s m.parameters → Among x (array_over q (component_of k)) (system_variables m) → is_parameter x m.parameters ≡ false
  no_array s x q k same h a = go (is_parameter x m.parameters) refl
    where
      go : (b : Bool) → is_parameter x m.parameters ≡ b → is_parameter x m.parameters ≡ false
      go false e = e
      go true e =
          let there : look x (components_among false (system_variables m)) ≡ Some (array_over q (component_of k)) = ap (look x) (sym same) ∙ array_cells s m.parameters x q k h (as_parameter x (array_over q (component_of k)) a e) in
          absurd (let bad : true ≡ false = (among_all false x (array_over q (component_of k)) (system_variables m) (look_among x (array_over q (component_of k)) (components_among false (system_variables m)) there)).1 in cc)

-- ---- in a routine

module _ (t : Tree) (place : IsPlaced t) where
  abbrev p : Program
  p = t.program

  abbrev pub counted : Counted (whole_laid t).types
  counted = (program_laid t.lines p).whole.sized.types

  seated : AreSeated (numbering_of p) p (whole_laid t) counted (all_begun t) (openings_of p)
  seated = (all_seated (numbering_of p) t counted place.plain.small place.plain.fit place.plain.numbered (opened_all p)).0

  -- where the statements of an opening begin
  pub begun_there : (n : ℕ) (o : Opening) → slice_get (openings_of p) n ≡ Some o → (l : Layer) × (slice_get (all_begun t) n ≡ Some l)
  begun_there n o e =
      let low : n < length (openings_of p) = slice_get_within (openings_of p) n o e in
      there (all_begun t) n (omega (arith, low, seats_many (numbering_of p) p (whole_laid t) counted (all_begun t) (openings_of p) seated))

  pub seated_there : (n : ℕ) (o : Opening) (e : slice_get (openings_of p) n ≡ Some o) → Seated (numbering_of p) p (whole_laid t) counted (begun_there n o e).0 o
  seated_there n o e =
      let b = begun_there n o e in
      let w : SeatAt (numbering_of p) p (whole_laid t) counted (openings_of p) n b.0 = seat_at (numbering_of p) p (whole_laid t) counted (all_begun t) (openings_of p) n b.0 seated b.1 in
      subst (λ q. Seated (numbering_of p) p (whole_laid t) counted b.0 q) (same_Some w.opening o (sym w.there ∙ e)) w.seated

  abbrev IsVisible : Opening → Type 0
  IsVisible o = AreOf (routine_variables o.meaning) (system_variables (system_of p o.owner)) o.meaning.scope

  -- the initial statement of the program is the last
  abbrev last : Opening
  last = initial_opening (program_system p) (own_meaning (declared p) p)

  last_visible : IsVisible last
  last_visible =
      let os : List Opening = parts_openings (record { systems = []; variables = []; scope = predeclared }) p.parts in
      let qs : List Opening = routine_openings (program_system p) (declared p).scope p.routines in
      let e : slice_get (openings_of p) (length (os ++ qs)) ≡ Some last = ap (λ zs. slice_get zs (length (os ++ qs))) (sym (append_assoc os qs (last ∷ []))) ∙ last_entry (os ++ qs) last in
      (seated_there (length (os ++ qs)) last e).visible

  pub visible : (n : ℕ) → AreOf (routine_variables (meaning_at p n)) (system_variables (system_of p ((layouts_of t).owners n))) (meaning_at p n).scope
  visible n = go (slice_get (openings_of p) n) refl
    where
      go : (o : Option Opening) → slice_get (openings_of p) n ≡ o → AreOf (routine_variables (meaning_in (initial_meaning (own_meaning (declared p) p)) o)) (system_variables (system_of p (owner_in (program_system p) o))) (meaning_in (initial_meaning (own_meaning (declared p) p)) o).scope
      go None e = last_visible
      go (Some o) e = (seated_there n o e).visible

module _ (t : Tree) (place : IsPlaced t) (framed : IsFramed t) (n : ℕ) where
  abbrev owner : ℕ
  owner = (layouts_of t).owners n

  abbrev m : SystemMeaning
  m = system_of t.program owner

  abbrev mine : RoutineMeaning
  mine = meaning_at t.program n

  pub visible_among : (x : Name) (u : Ty) → find x mine.scope ≡ Some (permanent_variable u) → Among x u (system_variables m)
  visible_among x u e = of_permanent x u (routine_variables mine) (system_variables m) mine.scope (visible t place n) e

  -- ---- names of components

  pub names_scope : (x : Name) (u : Ty) → find x mine.scope ≡ Some (permanent_variable u) → find x m.scope ≡ Some (permanent_variable u)
  names_scope x u e = found_there m (framed.permanents owner) x u (visible_among x u e)

  pub names_parameter : (x : Name) (k : ℕ) → find x mine.scope ≡ Some (permanent_variable (component_of k)) → is_parameter x m.parameters ≡ true → look x ((layouts_of t).systems owner).parts ≡ Some (component_of k)
  names_parameter x k e h = part_there m (framed.permanents owner) x k (as_parameter m (framed.permanents owner) x (component_of k) (visible_among x (component_of k) e) h)

  pub names_variable : (x : Name) (k : ℕ) → find x mine.scope ≡ Some (permanent_variable (component_of k)) → is_parameter x m.parameters ≡ false → (look x ((layouts_of t).systems owner).variables ≡ None) × (look x ((layouts_of t).systems owner).parts ≡ None)
  names_variable x k e h = (no_cells m (framed.permanents owner) x (component_of k) (visible_among x (component_of k) e) refl, no_part m (framed.permanents owner) x h)

  module _ (r : Tables) (s : Stands (ground_of r t) t (layouts_of t)) (lt : n < length r.routines) where
    pub owner_below : owner ≤ program_system t.program
    owner_below = (s.routines n lt).owner

    pub array_variable : (x : Name) (q : Range) (k : ℕ) → find x mine.scope ≡ Some (permanent_variable (array_over q (component_of k))) → is_parameter x m.parameters ≡ false
    array_variable x q k e = no_array m (framed.permanents owner) ((layouts_of t).systems owner) x q k refl (s.systems owner owner_below).parameters (visible_among x (array_over q (component_of k)) e)

    pub names_array : (x : Name) (q : Range) (k : ℕ) → find x mine.scope ≡ Some (permanent_variable (array_over q (component_of k))) → (look x ((layouts_of t).systems owner).variables ≡ None) × (look x ((layouts_of t).systems owner).parts ≡ None)
    names_array x q k e = (no_cells m (framed.permanents owner) x (array_over q (component_of k)) (visible_among x (array_over q (component_of k)) e) refl, no_part m (framed.permanents owner) x (array_variable x q k e))
