-- The step that starts a component, process or not: the component's place is found first, and then its arguments.
use Rattle.cp_machine_laws.proofs.Words.{◌≡◌, ℕ, List, ◌++◌, Option, refl, sym, subst, Result, Ok, Err, map, slice_index, Global, Vec, Program, Start, Action, Argument}
use Rattle.cp_machine_laws.proofs.Words.{ComponentPlace, Bound, Memory, Entry, rest_of, step_at, Parameter, system_of, View, Target, component_there, Stepped, target_value}
use Rattle.cp_machine_laws.proofs.Words.{at_designator, view_of, step_of, settled, Layouts, Ground, AreHanded, BoundsAgree, ComponentAgrees, KindsAgree, Outcome, ◌>>=◌}
use Rattle.cp_machine_laws.proofs.Words.{Environment, Item, start_item, State, bound, started_as, started_at, component_at, item_at, system_at, Machine}
use Rattle.cp_slots.specs.declared.item.Action.TheVariants as action
use Rattle.cp_slots.specs.Code as code
use Rattle.cp_store.specs.declared.error.ErrorName as slots
use Rattle.cp_machine.specs.Calls as calls
use Rattle.cp_machine.specs.Memory.{memory_at, component_of, arguments_of}
use Rattle.cp_machine.specs.Statements as statements
use Rattle.cp_meaning.specs.State as named
use Rattle.cp_machine_laws.proofs.control.Control.{Taken, StepIs, takes_item, acts, fails}
use Rattle.cp_machine_laws.proofs.starts.Handed.{CanStart}

pub is_start : (a : Action) (c : code.ComponentPlace) (r : ℕ) (xs : List code.Argument) → code.action_seen a ≡ code.start c r xs →
    (d : ComponentPlace) × (ys : Vec Argument Global) × (a ≡ action.Start d r ys) × (code.component_seen d ≡ c) × (map code.argument_seen ys.items ≡ xs)
is_start (action.Start d n w) c r xs e = (d, w, cc, cc, cc)
is_start a c r xs e = absurd (cc)

module _ (g : Ground) (p : Program) (l : Layouts) (s : State) (m : Machine) (q at : ℕ) (t : Start) (mid : Option ℕ) (es : List Entry) (xs ys : List Item) (k : Taken g p l s m q at (start_item t) mid es xs ys) where
  abbrev view : View
  view = view_of p s q

  abbrev line : ℕ
  line = slice_index g.lines (at_designator t.target)

  abbrev pub routine : ℕ
  routine = (l.systems k.own.system).initial

  abbrev pub IsFound : ℕ → Type 0
  IsFound d = (place : ComponentPlace) × (code.component_seen place ≡ k.own.part) × (component_of m q place ≡ Ok d)

  abbrev pub parameters_of : ℕ → List Parameter
  parameters_of d = (system_of p (component_at g.tables d).system).parameters

  abbrev pub AreGivenTo : Memory → ℕ → Environment → List Argument → List Bound → Type 0
  AreGivenTo mem d e as' bs = AreHanded mem (component_at g.tables d).base (system_at g.tables (component_at g.tables d).system).own (l.systems (component_at g.tables d).system).slots (parameters_of d) e as' bs

  -- what has to be known of the component that is started
  pub record CanBeStarted : Type 0 where
    pub component : (place : ComponentPlace) → code.component_seen place ≡ k.own.part → ComponentAgrees view (target_value view t.target) (component_of m q place)
    pub arguments : (d : ℕ) → IsFound d → (as' : List Argument) → map code.argument_seen as' ≡ k.own.arguments → BoundsAgree (λ e bs. AreGivenTo (memory_at m q) d e as' bs) (bound view (parameters_of d) t.arguments) (arguments_of m q as')
    pub kinds : KindsAgree g.tables s
    pub can : (d : ℕ) → IsFound d → CanStart g l m.permanents m.bindings (memory_at m q) d (parameters_of d)
    pub system : (d : ℕ) → IsFound d → (named.component_at s.components d).system ≡ (component_at g.tables d).system

  -- with its arguments the component starts
  abbrev pub StartsSo : ℕ → List Argument → Environment → List Bound → Type 0
  StartsSo d as' e bs =
      StepIs g p l q line (settled p s q (started_as (named.component_at s.components d).kind view d (system_of p (named.component_at s.components d).system) (xs ++ ys) e)) (calls.start_by g.tables m q line (component_at g.tables d).kind routine d as' bs (rest_of mid es))

  module _ (start : CanBeStarted) (starts : (d : ℕ) → IsFound d → (as' : List Argument) (e : Environment) (bs : List Bound) → AreGivenTo (memory_at m q) d e as' bs → StartsSo d as' e bs) where
    by_bounds : (d : ℕ) → IsFound d → (as' : List Argument) → (o : Outcome Environment) (b : Result (List Bound) slots.ErrorName) → BoundsAgree (λ e bs. AreGivenTo (memory_at m q) d e as' bs) o b →
        StepIs g p l q line (settled p s q (o >>= λ e. started_as (named.component_at s.components d).kind view d (system_of p (named.component_at s.components d).system) (xs ++ ys) e))
        (statements.with_value b (statements.fault m q line) (λ bs. calls.start_by g.tables m q line (component_at g.tables d).kind routine d as' bs (rest_of mid es)))
    by_bounds d is_found as' (Err e) (Err f) h = fails g p l s m q at (start_item t) mid es xs ys k line e f h
    by_bounds d is_found as' (Ok e) (Ok bs) h = starts d is_found as' e bs h
    by_bounds d is_found as' _ _ h = absurd h

    found_so : (as' : List Argument) → map code.argument_seen as' ≡ k.own.arguments → (d : ℕ) → IsFound d → StepIs g p l q line (settled p s q (started_at view d (system_of p (named.component_at s.components d).system) t.arguments (xs ++ ys)))
        (statements.with_value (arguments_of m q as') (statements.fault m q line) (λ bs. calls.start_by g.tables m q line (component_at g.tables d).kind routine d as' bs (rest_of mid es)))
    found_so as' args_are d is_found =
        by_bounds d is_found as' (bound view (system_of p (named.component_at s.components d).system).parameters t.arguments) (arguments_of m q as')
        (subst (λ n. BoundsAgree (λ e bs. AreGivenTo (memory_at m q) d e as' bs) (bound view (system_of p n).parameters t.arguments) (arguments_of m q as')) (sym (start.system d is_found)) (start.arguments d is_found as' args_are))

    by_place : (place : ComponentPlace) (as' : List Argument) → code.component_seen place ≡ k.own.part → map code.argument_seen as' ≡ k.own.arguments → (o : Outcome Target) (b : Result ℕ slots.ErrorName) → component_of m q place ≡ b → ComponentAgrees view o b →
        StepIs g p l q line (settled p s q (o >>= λ u. started_at view (component_there view u.place) (system_of p (named.component_at s.components (component_there view u.place)).system) t.arguments (xs ++ ys)))
        (statements.with_value b (statements.fault m q line) (λ component. statements.with_value (arguments_of m q as') (statements.fault m q line) (λ bs. calls.start_by g.tables m q line (component_at g.tables component).kind routine component as' bs (rest_of mid es))))
    by_place place as' place_is args_are (Err e) (Err f) same h = fails g p l s m q at (start_item t) mid es xs ys k line e f h
    by_place place as' place_is args_are (Ok u) (Ok d) same h =
        subst (λ c. StepIs g p l q line (settled p s q (started_at view c (system_of p (named.component_at s.components c).system) t.arguments (xs ++ ys))) (statements.with_value (arguments_of m q as') (statements.fault m q line) (λ bs. calls.start_by g.tables m q line (component_at g.tables d).kind routine d as' bs (rest_of mid es)))) (sym h)
        (found_so as' args_are d (place, place_is, same))
    by_place place as' place_is args_are _ _ same h = absurd h

    pub start_step : StepIs g p l q line (step_of p s q) (step_at g.tables m q)
    start_step =
        takes_item g p l s m q at (start_item t) mid es xs ys k line
        (let a = is_start (item_at g.tables at).action k.own.part routine k.own.arguments k.own.item.action in
        acts g p l s m q at (start_item t) mid es xs ys k line (at_designator t.target) (code.start k.own.part routine k.own.arguments) (action.Start a.0 routine a.1) _ k.own.item a.2
        (λ item o w.
        subst (λ (i : ℕ). StepIs g p l q line result (calls.start g.tables m q i a.0 routine a.1.items (rest_of item.next es))) (sym w)
        (subst (λ (i : Option ℕ). StepIs g p l q line result (calls.start g.tables m q line a.0 routine a.1.items (rest_of i es))) (sym o)
        (by_place a.0 a.1.items a.3 a.4 (target_value view t.target) (component_of m q a.0) refl (start.component a.0 a.3)))))
      where
        result : Stepped
        result = settled p s q (target_value view t.target >>= λ u. started_at view (component_there view u.place) (system_of p (named.component_at s.components (component_there view u.place)).system) t.arguments (xs ++ ys))
