-- What an item means is inside what it names, and the components that it names are of the types that it wants.
use Rattle.std.proofs.Common.{◌≡◌, ℕ, ◌+◌, ◌<◌, ◌≤◌, nat_lt, Bool, true, false, ◌&&◌, List, length, Option, Some, None, refl, sym, ap, subst, ◌∙◌, arith, rules}
use Rattle.cp_tree.specs.Syntax as syntax
use Rattle.cp_resolved.proofs.Words.{PlaceOrigin, Tables, RoutineView, routine_at, Name, Ty, Parameter, RoutineMeaning, name_of, system_of, cells_of, Here, frame_here}
use Rattle.cp_resolved.proofs.Words.{cell_named, look, Each, AssignedBy, CalleeIs, IsCalled, AreGiven, ResultGoes, result_cell}
use Rattle.cp_slots.specs.Code as code
use Rattle.cp_slots.specs.Inside.{has, room_from, result_inside}
use Rattle.cp_meaning.specs.Types as named
use Rattle.cp_meaning.specs.Scopes as scopes
use Rattle.cp_resolved.specs.Compiled.{Form, as_ordinal, as_set, as_place, a_variable, a_component, designator_form}
use Rattle.cp_resolved.specs.Headed.{IsNoComponent, AreNumbered, AreHanded}
use Rattle.cp_resolved.specs.Meant.{IsCell, IsQueue, IsCounter, Assigns, Calls, Starts, Means}
use Rattle.cp_resolved.proofs.inside.InsideArguments.{ParametersFit, Leads, given_inside, given_binds, given_plain, given_handed}
use Rattle.cp_resolved.proofs.inside.InsideExpressions.{VariablesFit, begun_fits, expression_fits, designated_fits}
use Rattle.cp_resolved.proofs.declarations.StandingParts.{both_of as both}
use Rattle.cp_resolved.proofs.inside.InsideForms.{FormFits}
use Rattle.cp_resolved.proofs.inside.InsidePlaces.{HasCells, PlaceFits, has_place}
use Rattle.cp_resolved.proofs.inside.PlainActions.{component_in, arguments_in, binds_in, action_in, PlainNames, PlainStays, PlainHands, PlainActionNames}
use Rattle.cp_resolved.proofs.inside.PlainInside.{expression_in, set_in, place_in, has_more}

-- what is known of a routine that is called
pub record CalleeFits (t : Tables) (h : Here) (number : ℕ) : Type 0 where
  pub parameters : ParametersFit (routine_at t number) (length (routine_at t number).image) (cell_named (h.layouts.frames number)) (h.layouts.meanings number).parameters
  pub numbered : AreNumbered (cell_named (h.layouts.frames number)) 0 (length (routine_at t number).extents) (h.layouts.meanings number).parameters
  pub plain : Each (λ (q : Parameter). IsNoComponent q.ty) (h.layouts.meanings number).parameters
  pub system : (routine_at t number).system ≡ h.layouts.owners number
  pub result : (u : Ty) → (h.layouts.meanings number).result ≡ Some u → (1 ≤ cells_of u) × ((routine_at t number).result < length (routine_at t number).image)

-- and of a system type that is started
pub record StartFits (t : Tables) (h : Here) (k : ℕ) : Type 0 where
  pub parameters : ParametersFit (routine_at t (h.layouts.systems k).initial) (routine_at t (h.layouts.systems k).initial).own (h.layouts.systems k).slots (system_of h.program k).parameters
  pub numbered : AreNumbered (h.layouts.systems k).slots 0 (length (routine_at t (h.layouts.systems k).initial).extents) (system_of h.program k).parameters
  pub values : Each (λ (q : Parameter). q.is_var ≡ false) (system_of h.program k).parameters
  pub handed : AreHanded t k (h.layouts.systems k).slots 0 (system_of h.program k).parameters
  pub system : (routine_at t (h.layouts.systems k).initial).system ≡ k
  pub references : (routine_at t (h.layouts.systems k).initial).references ≡ 0

-- the routine of a call is one of the tables
abbrev pub IsThere : Tables → code.Action → Type 0
IsThere t (code.call number part is_entry xs result) = number < length t.routines
IsThere t a = Unit {0}

-- what an assignment reads and writes
abbrev AssignedIn : RoutineView → code.Action → Type 0
AssignedIn r (code.assign p e low high) = (expression_in r e ≡ true) × (has 1 (place_in r p) ≡ true)
AssignedIn r (code.assign_set p e low high) = (set_in r e ≡ true) × (has 8 (place_in r p) ≡ true)
AssignedIn r (code.copy_cells p q size) = (has size (place_in r q) ≡ true) × (has size (place_in r p) ≡ true)
AssignedIn r a = Unit {0}

module _ (t : Tables) (h : Here) (r : RoutineView) (P : ℕ → Type 0) (v : VariablesFit (Leads t h r P) h r) (cells : (x : Name) (u : Ty) → look x (frame_here h).variables ≡ Some u → cell_named (frame_here h) x + cells_of u ≤ length r.image) (callees : (number : ℕ) → number < length t.routines → CalleeFits t h number) (starts : (k : ℕ) → P k → StartFits t h k) where
  cell_inside : (c : code.OrdinalExpression) → IsCell h c → expression_in r c ≡ true
  cell_inside c m = (expression_fits (Leads t h r P) h r v m.expression _ m.held m.formed).0

  queue_inside : (p : code.Place) → IsQueue h p → has 1 (place_in r p) ≡ true
  queue_inside p m = has_place r p named.queue_type 1 (expression_fits (Leads t h r P) h r v m.expression _ m.held m.formed) (omega arith)

  counter_inside : (o : PlaceOrigin) → IsCounter h o → has 1 (room_from r o) ≡ true
  counter_inside o m =
      let f : PlaceFits r (code.place o 0 code.no_indices) (named.ordinal m.range) = begun_fits (Leads t h r P) h r v m.name.name (scopes.find m.name.name h.scope) _ refl m.variable in
      let c : HasCells r o (0 + 0 + 1) = f.cells in
      let e : 0 + 0 + 1 ≤ c.room = c.enough in
      ap (has 1) c.from ∙ has_more 1 c.room (omega (arith, e))

  assigned_in : (u w : Ty) (f : Form) (p : code.Place) (a : code.Action) → AssignedBy u p w f a → PlaceFits r p u → FormFits (Leads t h r P) h r w f → AssignedIn r a
  assigned_in (named.ordinal q) w (as_ordinal c) p a e i j = subst (AssignedIn r) (sym e) (j.0, has_place r p (named.ordinal q) 1 i (omega arith))
  assigned_in (named.set_over q) w (as_set c) p a e i j = subst (AssignedIn r) (sym e) (j.0, has_place r p (named.set_over q) 8 i (omega arith))
  assigned_in (named.array_over q u) w (as_place c) p a e i j =
      subst (AssignedIn r) (sym (e.1 ∙ ap (λ y. code.copy_cells p c (cells_of y)) e.0)) (has_place r c (named.array_over q u) (cells_of (named.array_over q u)) (subst (λ y. PlaceFits r c y) e.0 j) (omega arith), has_place r p (named.array_over q u) (cells_of (named.array_over q u)) i (omega arith))
  assigned_in (named.record_with us) w (as_place c) p a e i j =
      subst (AssignedIn r) (sym (e.1 ∙ ap (λ y. code.copy_cells p c (cells_of y)) e.0)) (has_place r c (named.record_with us) (cells_of (named.record_with us)) (subst (λ y. PlaceFits r c y) e.0 j) (omega arith), has_place r p (named.record_with us) (cells_of (named.record_with us)) i (omega arith))
  assigned_in _ w _ p a e i j = absurd e

  assigns_inside : (a : code.Action) → Assigns h a → AssignedIn r a
  assigns_inside a m =
      assigned_in m.ty m.value.ty m.value.form m.place a m.assigned (designated_fits (Leads t h r P) h r v m.target (a_variable m.place m.ty) m.chosen m.aimed) (expression_fits (Leads t h r P) h r v m.expression m.value m.held m.formed)

  -- ---- calls

  record Called (part : code.ComponentPlace) (is_entry : Bool) (number : ℕ) : Type 0 where
    inside : component_in r part ≡ true
    names : PlainNames t h.system part (h.layouts.owners number)
    stays : PlainStays is_entry part

  own_called : (part : code.ComponentPlace) (b : Bool) (number : ℕ) → part ≡ code.own → b ≡ false → h.layouts.owners number ≡ h.system → Called part b number
  own_called part b number e f o = subst (λ c. Called c b number) (sym e) (subst (λ c. Called code.own c number) (sym f) (record { inside = refl; names = sym o; stays = refl }))

  entry_called : (part : code.ComponentPlace) (b : Bool) (number : ℕ) → Leads t h r P part (h.layouts.owners number) → b ≡ true → Called part b number
  entry_called part b number i e = subst (λ c. Called part c number) (sym e) (record { inside = i.0; names = i.1; stays = tt })

  called_fits : (d : syntax.Designator) (m : Option scopes.Meaning) (part : code.ComponentPlace) (b : Bool) (number : ℕ) → ((k : ℕ) → designator_form h d ≡ Some (a_component part k) → Leads t h r P part k) → CalleeIs h d m part b number → Called part b number
  called_fits d (Some (scopes.routine_meaning y)) part b number f i = own_called part b number i.0 i.1 i.2
  called_fits d _ part b number f i = entry_called part b number (f (h.layouts.owners number) i.0) i.1

  less_true : (a b : ℕ) → a < b → nat_lt a b ≡ true
  less_true a b lt = search (rules, lt)

  result_fits : (number : ℕ) (x : Option Name) (o : Option Ty) → (h.layouts.meanings number).result ≡ o → CalleeFits t h number → ResultGoes h x o → result_inside r (routine_at t number) (result_cell h x) ≡ true
  result_fits number None o e c g = refl
  result_fits number (Some x) None e c g = absurd g
  result_fits number (Some x) (Some u) e c g =
      let k = c.result u e in
      let some : 1 ≤ cells_of u = k.0 in
      let le : cell_named (frame_here h) x + cells_of u ≤ length r.image = cells x u g in
      both (nat_lt (cell_named (frame_here h) x) (length r.image)) (nat_lt (routine_at t number).result (length (routine_at t number).image)) (less_true _ _ (omega (arith, some, le))) (less_true _ _ k.1)

  record CallFits (number : ℕ) (part : code.ComponentPlace) (b : Bool) (xs : List code.Argument) (o : Option ℕ) : Type 0 where
    inside : action_in t r (code.call number part b xs o) ≡ true
    names : PlainActionNames t h.system (code.call number part b xs o)

  call_fits : (number : ℕ) (part : code.ComponentPlace) (b : Bool) (xs : List code.Argument) (o : Option ℕ) → number < length t.routines → Calls h number part b xs o → CallFits number part b xs o
  call_fits number part b xs o lt m =
      let c : CalleeFits t h number = callees number lt in
      let q : RoutineView = routine_at t number in
      let slots : Name → ℕ = cell_named (h.layouts.frames number) in
      let i : IsCalled h m.designator m.expressions number part b xs = m.called in
      let given : AreGiven h slots (h.layouts.meanings number).parameters m.expressions xs = subst (λ (y : RoutineMeaning). AreGiven h slots y.parameters m.expressions xs) i.same i.given in
      let k : Called part b number = called_fits m.designator (scopes.find (name_of m.designator) h.scope) part b number (λ n f. designated_fits (Leads t h r P) h r v m.designator (a_component part n) m.chosen f) i.callee in
      let a : arguments_in r q (length q.image) xs ≡ true = given_inside t h r P v q (length q.image) slots (h.layouts.meanings number).parameters m.expressions xs m.held given c.parameters in
      let d : binds_in (length q.extents) 0 xs ≡ true = given_binds t h r P v q (length q.image) slots (length q.extents) 0 (h.layouts.meanings number).parameters m.expressions xs m.held given c.parameters c.numbered in
      let e : result_inside r q o ≡ true = ap (result_inside r q) m.cell ∙ result_fits number m.name (h.layouts.meanings number).result refl c m.goes in
      record {
        inside = both (component_in r part) (arguments_in r q (length q.image) xs && (binds_in (length q.extents) 0 xs && result_inside r q o)) k.inside (both (arguments_in r q (length q.image) xs) (binds_in (length q.extents) 0 xs && result_inside r q o) a (both (binds_in (length q.extents) 0 xs) (result_inside r q o) d e));
        names = (
          subst (λ n. PlainNames t h.system part n) (sym c.system) k.names,
          k.stays,
          given_plain t h r P v q (length q.image) slots (h.layouts.meanings number).parameters m.expressions xs m.held given c.parameters c.plain,
        );
      }

  record StartsIn (part : code.ComponentPlace) (number : ℕ) (xs : List code.Argument) : Type 0 where
    inside : action_in t r (code.start part number xs) ≡ true
    names : PlainActionNames t h.system (code.start part number xs)

  start_fits : (part : code.ComponentPlace) (number : ℕ) (xs : List code.Argument) → Starts h part number xs → StartsIn part number xs
  start_fits part number xs m =
      let n : ℕ = m.system in
      let l : Leads t h r P part n = designated_fits (Leads t h r P) h r v m.target (a_component part n) m.chosen m.aimed in
      let s : StartFits t h n = starts n l.2 in
      let q : RoutineView = routine_at t (h.layouts.systems n).initial in
      let slots : Name → ℕ = (h.layouts.systems n).slots in
      let ps : List Parameter = (system_of h.program n).parameters in
      let a : arguments_in r q q.own xs ≡ true = given_inside t h r P v q q.own slots ps m.expressions xs m.held m.given s.parameters in
      let d : binds_in (length q.extents) 0 xs ≡ true = given_binds t h r P v q q.own slots (length q.extents) 0 ps m.expressions xs m.held m.given s.parameters s.numbered in
      let hands : PlainHands t h.system n 0 xs = given_handed t h r P v q q.own slots n 0 ps m.expressions xs m.held m.given s.parameters s.values s.handed in
      subst (λ j. StartsIn part j xs) (sym m.initial) (record {
        inside = both (component_in r part) (arguments_in r q q.own xs && binds_in (length q.extents) 0 xs) l.0 (both (arguments_in r q q.own xs) (binds_in (length q.extents) 0 xs) a d);
        names = (subst (λ j. PlainNames t h.system part j) (sym s.system) l.1, subst (λ j. PlainHands t h.system j 0 xs) (sym s.system) hands, s.references);
      })

  -- ---- all actions

  pub means_inside : (a : code.Action) → IsThere t a → Means h a → action_in t r a ≡ true
  means_inside (code.assign p e low high) i m = let z = assigns_inside (code.assign p e low high) m in both (expression_in r e) (has 1 (place_in r p)) z.0 z.1
  means_inside (code.assign_set p e low high) i m = let z = assigns_inside (code.assign_set p e low high) m in both (set_in r e) (has 8 (place_in r p)) z.0 z.1
  means_inside (code.copy_cells p q size) i m = let z = assigns_inside (code.copy_cells p q size) m in both (has size (place_in r q)) (has size (place_in r p)) z.0 z.1
  means_inside (code.choose c list other) i m = cell_inside c m
  means_inside (code.select c arms) i m = cell_inside c m
  means_inside (code.assert_that c said) i m = cell_inside c m
  means_inside (code.while_do c list again) i m = cell_inside c m
  means_inside (code.until c list again) i m = cell_inside c m
  means_inside (code.for_do o low high from to down list) i m = both (has 1 (room_from r o)) (expression_in r from && expression_in r to) (counter_inside o m.0) (both (expression_in r from) (expression_in r to) (cell_inside from m.1) (cell_inside to m.2))
  means_inside (code.call number part b xs o) i m = (call_fits number part b xs o i m).inside
  means_inside (code.start part number xs) i m = (start_fits part number xs m).inside
  means_inside (code.delay p) i m = queue_inside p m
  means_inside (code.continue_at p) i m = queue_inside p m
  means_inside (code.display c kind) i m = cell_inside c m
  means_inside _ i m = refl

  pub means_names : (a : code.Action) → IsThere t a → Means h a → PlainActionNames t h.system a
  means_names (code.call number part b xs o) i m = (call_fits number part b xs o i m).names
  means_names (code.start part number xs) i m = (start_fits part number xs m).names
  means_names _ i m = tt
