-- The states of a program that runs: its components and processes (the book, chapters 8 and 9).
use Rattle.std.specs.Prelude.{ℕ, ◌==◌, ℤ, Bool, true, false, ◌&&◌, not, ◌||◌, List, [], ◌∷◌, Option, slice_index_or}
use Rattle.cp_tree.specs.declared.constant.Identifier.{Identifier}
use Rattle.cp_tree.specs.declared.statement.Direction.{Direction}
use Rattle.cp_tree.specs.declared.declaration.SystemKind.{SystemKind}
use Rattle.cp_tree.specs.declared.declaration.SystemKind.TheVariants as system_kind
use Rattle.cp_tree.specs.Syntax.{Expression, Expressions, Designator, Start, Statement, Statements}
use Rattle.cp_meaning.specs.Names.{Name}
use Rattle.cp_meaning.specs.Types.{Base}
use Rattle.cp_meaning.specs.Values.{Value, Choice}
use Rattle.cp_meaning.specs.Scopes.{Scope}
use Rattle.cp_meaning.specs.Components.{Path}

-- an open call, by the number of open calls below it; or a component, by its place in the list of components
pub data Holder : Type 0 where
  in_call : ℕ → Holder
  in_component : ℕ → Holder

-- a variable, or a part of one: who has it, its name, and the parts chosen from it
pub record Place : Type 0 where
  pub holder : Holder
  pub name : Name
  pub choices : List Choice

-- what a name has: a value, the place that a `var` parameter refers to, or the component that a parameter is
pub data Content : Type 0 where
  holds : Value → Content
  refers : Place → Content
  knows : ℕ → Content

-- names with what they have
abbrev pub Environment : Type 0
Environment = List (Name × Content)

-- ---- components

-- what a class or monitor is before, in and after its initial statement
pub data ComponentStatus : Type 0 where
  uninitialised : ComponentStatus
  initialising : ComponentStatus
  initialised : ComponentStatus

-- A component with its permanent variables and parameters. A monitor also has the line of those that wait at its gate.
-- Whether a process is initialised is said by the process and not by the status of its component.
pub record Component : Type 0 where
  pub path : Path
  pub system : ℕ
  pub kind : SystemKind
  pub status : ComponentStatus
  pub environment : Environment
  pub line : List ℕ

-- ---- processes

-- the initial statement of the process itself; one of a class or monitor; a routine of the component itself; an entry
pub data CallKind : Type 0 where
  own_statement : CallKind
  initial_statement : CallKind
  local_routine : CallKind
  entry_routine : CallKind

-- an open call, with the scope of what it executes
pub record Call : Type 0 where
  pub component : ℕ
  pub kind : CallKind
  pub scope : Scope
  pub environment : Environment

-- What is still to be done. A number is that of the tokens before the item.
pub data Item : Type 0 where
  -- a statement whose function calls are done
  statement_item : Statement → Item
  -- a function call into its temporary name
  function_call : ℕ → Designator → Expressions → Item
  start_item : Start → Item
  until : Statements → Expression → Item
  -- the value that was reached, and the last one
  successor : ℕ → Identifier → ℤ → Direction → ℤ → Statement → Item
  -- the end of a call; a function's result goes to the name
  return : Option Name → Item
  init_end : ℕ → Item
  end : Item

-- At the gate of a monitor; delayed in a queue of a monitor. In which queue is said by the queue alone, which has the number of the process.
pub data Status : Type 0 where
  unstarted : Status
  ready : Status
  at_gate : ℕ → Status
  delayed : ℕ → Status
  ended : Status

-- open calls, innermost first, and remaining items
pub record Process : Type 0 where
  pub component : ℕ
  pub status : Status
  pub calls : List Call
  pub items : List Item

-- ---- states

-- who goes in when the line is let in
pub data Gates : Type 0 where
  first_gates : Gates
  any_gates : Gates

-- who goes on after a continue: who was resumed, and the caller returns; the caller; who was resumed, and the caller waits at the gate
pub data Signals : Type 0 where
  return_signals : Signals
  continue_signals : Signals
  wait_signals : Signals

-- the rules by which processes go into a monitor and on in it
pub record Discipline : Type 0 where
  pub gates : Gates
  pub signals : Signals

-- the book's continue, with gates of either kind
abbrev pub by_gates : Gates → Discipline
by_gates g = record { gates = g; signals = return_signals }

-- the book's continue, and the line in the order in which it came
abbrev pub book_discipline : Discipline
book_discipline = by_gates first_gates

-- a displayed value
pub record Shown : Type 0 where
  pub base : Base
  pub number : ℤ

-- all that a step reads and changes; the monitor that is pending, if one is
pub record State : Type 0 where
  pub processes : List Process
  pub components : List Component
  pub output : List Shown
  pub discipline : Discipline
  pub pending : Option ℕ

abbrev pub no_component : Component
no_component = record { path = []; system = 0; kind = system_kind.Process; status = uninitialised; environment = []; line = [] }

-- component n
abbrev pub component_at : List Component → ℕ → Component
component_at cs n = slice_index_or cs n no_component

abbrev pub no_process : Process
no_process = record { component = 0; status = unstarted; calls = []; items = [] }

-- process pid
abbrev pub process_at : List Process → ℕ → Process
process_at ps pid = slice_index_or ps pid no_process

abbrev pub no_call : Call
no_call = record { component = 0; kind = own_statement; scope = []; environment = [] }

-- the innermost open call
abbrev pub current : List Call → Call
current [] = no_call
current (c ∷ cs) = c

-- the open calls around the innermost one
abbrev pub callers : List Call → List Call
callers [] = []
callers (c ∷ cs) = cs

-- ---- inside

abbrev pub is_entry_kind : CallKind → Bool
is_entry_kind entry_routine = true
is_entry_kind k = false

-- an open entry call of the component
abbrev pub has_entry : ℕ → List Call → Bool
has_entry m [] = false
has_entry m (c ∷ cs) = (is_entry_kind c.kind && c.component == m) || has_entry m cs

-- at the gate of the monitor, or delayed in it
abbrev pub waits_at : ℕ → Status → Bool
waits_at m (at_gate n) = n == m
waits_at m (delayed n) = n == m
waits_at m s = false

-- inside a monitor: an open entry call of it, and neither at its gate nor delayed in it
abbrev pub is_inside : ℕ → Process → Bool
is_inside m p = has_entry m p.calls && not (waits_at m p.status)

abbrev pub is_end_of : ℕ → Item → Bool
is_end_of m (init_end n) = n == m
is_end_of m i = false

-- initialises a component: its remaining items hold that component's init end
abbrev pub has_init_end : ℕ → List Item → Bool
has_init_end m [] = false
has_init_end m (i ∷ items) = is_end_of m i || has_init_end m items

-- the process executes the initial statement of the component
abbrev pub initialises : ℕ → Process → Bool
initialises m p = has_init_end m p.items
