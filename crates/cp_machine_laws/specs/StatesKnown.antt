-- What is asked of what processes do next in the states that are reached.
use Rattle.std.specs.Prelude.{◌≡◌, ℕ, ◌<◌, true, List, [], ◌∷◌, length, Some, Ok}
use Rattle.cp_tree.specs.Syntax.{Expression, Expressions, no_expressions, more_expressions, Designator, Start, invoke, Program, Tree}
use Rattle.cp_slots.specs.Tables as slots
use Rattle.cp_slots.specs.Tables.{Tables, system_at}
use Rattle.cp_store.specs.declared.argument.Bound.TheVariants.{Copy}
use Rattle.cp_store.specs.declared.memory.Address.{Address}
use Rattle.cp_store.specs.declared.memory.Frame.{Frame}
use Rattle.cp_meaning.specs.State.{component_at, process_at, ready, delayed, entry_routine, current, Item, statement_item, start_item, State, has_entry}
use Rattle.cp_meaning.specs.Declarations.{Parameter}
use Rattle.cp_meaning.specs.Expressions.{name_of, variable_in, target_value}
use Rattle.cp_meaning.specs.Places.{View, Target, component_there}
use Rattle.cp_meaning.specs.Steps.{view_of}
use Rattle.cp_meaning.specs.Systems.{system_of}
use Rattle.cp_meaning.specs.Types.{component_of}
use Rattle.cp_meaning.specs.Scopes.{standard_meaning, continue_procedure, find}
use Rattle.cp_machine.specs.Machine.{Machine, thread_at}
use Rattle.cp_resolved.specs.Layouts.{cells_of, Layouts, here}
use Rattle.cp_machine_laws.specs.Given.{IsOutside}
use Rattle.cp_machine_laws.specs.ItemsKnown.{ItemKnown}
use Rattle.cp_machine_laws.specs.Law.{ground_of}
use Rattle.cp_machine_laws.specs.Represents.{PlaceAt, frames_of}

-- What a ready process does next is as the rules of the language want it, in the routine that its frame executes.
abbrev pub NextKnown : Tree → Tables → Layouts → State → Machine → Type 0
NextKnown t r l s m =
    (q : ℕ) (i : Item) (items : List Item) → q < length s.processes → (process_at s.processes q).status ≡ ready → (process_at s.processes q).items ≡ i ∷ items →
    ItemKnown (ground_of t r) (here t.program l (thread_at m.threads q).frame.routine) i

-- a process whose next item is a `continue`
pub record IsContinuing (s : State) (q : ℕ) : Type 0 where
  pub there : q < length s.processes
  pub ready_now : (process_at s.processes q).status ≡ ready
  pub token : ℕ
  pub name : Designator
  pub arguments : Expressions
  pub items : List Item
  pub next : (process_at s.processes q).items ≡ statement_item (invoke token name arguments) ∷ items
  pub standard : find (name_of name) (current (process_at s.processes q).calls).scope ≡ Some (standard_meaning continue_procedure)

-- An argument for a component is a name, of a component of the parameter's type; and what is copied lies outside the cells of the component that is started.
pub record IsHandedSo (r : Tables) (l : Layouts) (fs : List Frame) (v : View) (base own : ℕ) (q : Parameter) (e : Expression) : Type 0 where
  pub component : (k : ℕ) → q.ty ≡ component_of k → (d : Designator) × (variable_in e ≡ Some d) × ((x : Target) → target_value v d ≡ Ok x → (component_at v.components (component_there v x.place)).system ≡ k)
  pub outside : (d : Designator) (x : Target) (a : Address) → target_value v d ≡ Ok x → PlaceAt r l fs x.place q.ty a → IsOutside base own (Copy a (cells_of q.ty))

abbrev pub AreHandedSo : Tables → Layouts → List Frame → View → (base own : ℕ) → List Parameter → Expressions → Type 0
AreHandedSo r l fs v base own [] es = Unit {0}
AreHandedSo r l fs v base own (q ∷ qs) no_expressions = Unit {0}
AreHandedSo r l fs v base own (q ∷ qs) (more_expressions e es) = IsHandedSo r l fs v base own q e × AreHandedSo r l fs v base own qs es

-- a process whose next item is a start, which leads to a component
pub record IsStarting (p : Program) (s : State) (q : ℕ) (start : Start) (d : ℕ) : Type 0 where
  pub there : q < length s.processes
  pub ready_now : (process_at s.processes q).status ≡ ready
  pub items : List Item
  pub next : (process_at s.processes q).items ≡ start_item start ∷ items
  pub target : Target
  pub found : target_value (view_of p s q) start.target ≡ Ok target
  pub component : component_there (view_of p s q) target.place ≡ d

pub record StateKnown (t : Tree) (r : Tables) (l : Layouts) (s : State) (m : Machine) : Type 0 where
  pub next : NextKnown t r l s m
  -- it is the end of an entry that was called as one
  pub continues : (q : ℕ) → IsContinuing s q → (current (process_at s.processes q).calls).kind ≡ entry_routine
  -- who is delayed in a monitor has an open entry call of it
  pub delayed : (n q : ℕ) → q < length s.processes → (process_at s.processes q).status ≡ delayed n → has_entry n (process_at s.processes q).calls ≡ true
  pub starts : (q d : ℕ) (x : Start) → IsStarting t.program s q x d →
      AreHandedSo r l (frames_of (thread_at m.threads q).frame (thread_at m.threads q).stack) (view_of t.program s q) (slots.component_at r d).base (system_at r (slots.component_at r d).system).own (system_of t.program (slots.component_at r d).system).parameters x.arguments
