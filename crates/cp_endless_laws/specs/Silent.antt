-- The slot machine and the meaning of a program where nothing is shown, and who waits in their states.
use Rattle.std.specs.Prelude.{◌≡◌, ◌≤◌, ◌&&◌, ◌||◌, ℕ, List, [], ◌∷◌, Bool, true, false, Option, None, Some, length}
use Rattle.cp_tree.specs.Syntax.{Tree}
use Rattle.cp_tree.specs.declared.declaration.SystemKind.{SystemKind}
use Rattle.cp_tree.specs.declared.declaration.SystemKind.TheVariants as system_kind
use Rattle.cp_slots.specs.Tables.{Tables}
use Rattle.cp_machine.specs.declared.discipline.Discipline as slot_discipline
use Rattle.cp_machine.specs.declared.process.Entry.{Entry}
use Rattle.cp_machine.specs.declared.process.Entry.TheVariants.{Rest, Successor, Return, InitEnd}
use Rattle.cp_machine.specs.declared.state.TheConstants.{MOST_SHOWN}
use Rattle.cp_machine.specs.Machine.{Machine, thread_at, is_waiting}
use Rattle.cp_meaning.specs.State as meaning
use Rattle.cp_meaning.specs.Readings as readings
use Rattle.cp_run.specs.Slots.{slots}
use Rattle.cp_run.specs.System.{System}
pub use Rattle.cp_run.specs.Silent.{silent_slots, without_output}
use Rattle.cp_machine_laws.specs.Named.{named}
use Rattle.cp_endless_laws.specs.Fair.{StaysReady}
use Rattle.cp_endless_laws.specs.Forgetting.{forgetting_system, OutputDecidesNothing}

-- ---- without what was displayed

abbrev pub named_without_output : meaning.State → meaning.State
named_without_output s = record s { output = [] }

abbrev pub silent_named : Tree → meaning.Discipline → System meaning.State
silent_named t g = forgetting_system (named t g) named_without_output

-- ---- a process is at a gate or delayed

abbrev pub waits_on_slots : Machine → ℕ → Bool
waits_on_slots m q = is_waiting (thread_at m.threads q).status

abbrev pub waits_on_names : meaning.State → ℕ → Bool
waits_on_names s q = readings.is_waiting (meaning.process_at s.processes q).status

-- ---- a process has an open call of an entry of a monitor

abbrev pub is_monitor : SystemKind → Bool
is_monitor system_kind.Monitor = true
is_monitor k = false

abbrev pub has_monitor_call : List meaning.Component → List meaning.Call → Bool
has_monitor_call components [] = false
has_monitor_call components (c ∷ calls) = (meaning.is_entry_kind c.kind && is_monitor (meaning.component_at components c.component).kind) || has_monitor_call components calls

abbrev pub in_call_on_names : meaning.State → ℕ → Bool
in_call_on_names s q = has_monitor_call s.components (meaning.process_at s.processes q).calls

-- on slots: on its control stack stands a return that leaves a monitor
abbrev pub leaves_some : Option ℕ → Bool
leaves_some None = false
leaves_some (Some monitor) = true

abbrev pub has_monitor_return : List Entry → Bool
has_monitor_return [] = false
has_monitor_return (Rest at ∷ es) = has_monitor_return es
has_monitor_return (Successor at value last ∷ es) = has_monitor_return es
has_monitor_return (Return caller result monitor ∷ es) = leaves_some monitor || has_monitor_return es
has_monitor_return (InitEnd caller component ∷ es) = has_monitor_return es

abbrev pub in_call_on_slots : Machine → ℕ → Bool
in_call_on_slots m q = has_monitor_return (thread_at m.threads q).stack

-- ---- the laws of the slot machine

-- The second machine is the first, but displayed less, or as much; and the first displayed no more than there is room for.
pub record ShowsLess (m n : Machine) : Type 0 where
  pub same : n ≡ record m { output = n.output }
  pub less : length n.output ≤ length m.output
  pub room : length m.output ≤ MOST_SHOWN

-- what the slot machine displayed decides nothing, but whether its output is full
abbrev pub SlotsForgetLaw : Type 0
SlotsForgetLaw = (r : Tables) (discipline : slot_discipline.Discipline) → OutputDecidesNothing (slots r discipline) without_output ShowsLess

-- who is ready stays ready until its own step
abbrev pub SlotsStayReadyLaw : Type 0
SlotsStayReadyLaw = (r : Tables) (discipline : slot_discipline.Discipline) → StaysReady (slots r discipline) × StaysReady (silent_slots r discipline)
