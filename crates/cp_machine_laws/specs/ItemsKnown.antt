-- What the rules of the language say of an item that a process does next, in the routine in which it stands.
use Rattle.std.specs.Prelude.{◌≡◌, ℕ, ◌+◌, ◌-◌, ◌<◌, ◌≤◌, true, false, List, [], ◌∷◌, length, Option, Some, None}
use Rattle.cp_tree.specs.declared.declaration.SystemKind.TheVariants as system_kind
use Rattle.cp_tree.specs.Syntax.{Expression, Expressions, no_expressions, more_expressions, Designator, Start, Statement, assign, invoke}
use Rattle.cp_slots.specs.Code as code
use Rattle.cp_meaning.specs.Types.{Base, enumerated, Range, Ty, ordinal}
use Rattle.cp_meaning.specs.Scopes.{Meaning, standard_meaning, permanent_variable, delay_procedure, continue_procedure, display_procedure, find}
use Rattle.cp_meaning.specs.Declarations.{Parameter}
use Rattle.cp_meaning.specs.Systems.{system_of, program_system}
use Rattle.cp_meaning.specs.State.{Item, statement_item, function_call, start_item}
use Rattle.cp_meaning.specs.Lifting.{is_call}
use Rattle.cp_meaning.specs.Expressions.{name_of, routine_called, variable_in}
use Rattle.cp_resolved.specs.Layouts.{Here}
use Rattle.cp_resolved.specs.Compiled.{a_variable, a_component, designator_form}
use Rattle.cp_resolved.specs.Standing.{is_free}
use Rattle.cp_resolved.specs.Stands.{Ground, IsOrdinal}

-- ---- calls

-- an argument for a `var` parameter is a variable
abbrev pub VariablesGiven : Here → List Parameter → Expressions → Type 0
VariablesGiven h [] es = Unit {0}
VariablesGiven h (q ∷ qs) no_expressions = Unit {0}
VariablesGiven h (q ∷ qs) (more_expressions e es) = (q.is_var ≡ true → (d : Designator) × (variable_in e ≡ Some d) × (is_call h.scope d ≡ false)) × VariablesGiven h qs es

pub record CallIsKnown (h : Here) (d : Designator) (es : Expressions) : Type 0 where
  pub variables : (number : ℕ) → routine_called h.program h.scope d ≡ Some (h.layouts.meanings number) → VariablesGiven h (h.layouts.meanings number).parameters es
  -- an entry is one of a class or monitor
  pub entries : (part : code.ComponentPlace) (k : ℕ) → designator_form h d ≡ Some (a_component part k) → (system_of h.program k).kind ≡ system_kind.Process → ⊥

-- ---- statements

-- no queues are assigned
abbrev pub AssignKnown : Here → Designator → Type 0
AssignKnown h d = (spot : code.Place) (t : Ty) → designator_form h d ≡ Some (a_variable spot t) → is_free t ≡ true

-- the last constant of an enumeration has a number below 65,536
abbrev pub HasFewConstants : Ground → Base → Type 0
HasFewConstants g (enumerated at xs) = g.firsts at + (length xs - 1) < 65536
HasFewConstants g b = Unit {0}

abbrev pub DisplayKnown : Ground → Here → Expression → Type 0
DisplayKnown g h e = (r : Range) (c : code.OrdinalExpression) → IsOrdinal h e (ordinal r) c → HasFewConstants g r.base

-- a queue is a permanent variable of a monitor, or an element of one
pub record QueueKnown (h : Here) (e : Expression) : Type 0 where
  pub designator : Designator
  pub ty : Ty
  pub is : variable_in e ≡ Some designator
  pub permanent : find (name_of designator) h.scope ≡ Some (permanent_variable ty)
  pub monitor : (system_of h.program h.system).kind ≡ system_kind.Monitor

-- `continue` stands in a procedure
abbrev pub ContinueKnown : Here → Expression → Type 0
ContinueKnown h e = QueueKnown h e × ((h.layouts.meanings h.routine).result ≡ None)

abbrev pub InvokeKnown : Ground → Here → Option Meaning → Designator → Expressions → Type 0
InvokeKnown g h (Some (standard_meaning display_procedure)) d (more_expressions e es) = DisplayKnown g h e
InvokeKnown g h (Some (standard_meaning delay_procedure)) d (more_expressions e es) = QueueKnown h e
InvokeKnown g h (Some (standard_meaning continue_procedure)) d (more_expressions e es) = ContinueKnown h e
InvokeKnown g h w d es = CallIsKnown h d es

abbrev pub StatementKnown : Ground → Here → Statement → Type 0
StatementKnown g h (assign at d e) = AssignKnown h d
StatementKnown g h (invoke at d es) = InvokeKnown g h (find (name_of d) h.scope) d es
StatementKnown g h t = Unit {0}

-- what is started is of one of the system types
abbrev pub StartKnown : Here → Start → Type 0
StartKnown h t = (part : code.ComponentPlace) (k : ℕ) → designator_form h t.target ≡ Some (a_component part k) → k ≤ program_system h.program

-- ---- items

abbrev pub ItemKnown : Ground → Here → Item → Type 0
ItemKnown g h (statement_item t) = StatementKnown g h t
ItemKnown g h (function_call at d es) = CallIsKnown h d es
ItemKnown g h (start_item t) = StartKnown h t
ItemKnown g h i = Unit {0}
