-- A state as bytes: each list after its length, each choice of a kind after its number.
use Rattle.std.specs.Prelude.{reverse, length, ℕ, ◌<◌, List, [], ◌∷◌, ◌++◌, true, false, Option, None, Some}
use Rattle.std.specs.List.{flat_map}
use Rattle.cp_store.specs.declared.memory.Address.{Address}
use Rattle.cp_store.specs.declared.memory.Address.TheVariants.{Permanent, Local}
use Rattle.cp_store.specs.declared.memory.Frame.{Frame}
use Rattle.cp_machine.specs.declared.discipline.Discipline.{Discipline}
use Rattle.cp_machine.specs.declared.discipline.Gates.{Gates}
use Rattle.cp_machine.specs.declared.discipline.Gates.TheVariants.{First, Any}
use Rattle.cp_machine.specs.declared.discipline.Signals.{Signals}
use Rattle.cp_machine.specs.declared.discipline.Signals.TheVariants as signals
use Rattle.cp_machine.specs.declared.process.Entry.{Entry}
use Rattle.cp_machine.specs.declared.process.Entry.TheVariants.{Rest, Successor, Return, InitEnd}
use Rattle.cp_machine.specs.declared.process.Status.{Status}
use Rattle.cp_machine.specs.declared.process.Status.TheVariants.{Unstarted, Ready, AtGate, Delayed, Ended}
use Rattle.cp_machine.specs.declared.shown.Shown.{Shown}
use Rattle.cp_machine.specs.declared.shown.Shown.TheVariants.{Integer, Char, Truth, Constant}
use Rattle.cp_machine.specs.declared.state.Phase.{Phase}
use Rattle.cp_machine.specs.declared.state.Phase.TheVariants.{Uninitialised, Initialising, Initialised}
use Rattle.cp_machine.specs.Bodies.{Body, body_of}
use Rattle.cp_machine.specs.Machine.{Machine, Thread, Monitor}
use Rattle.cp_key.specs.Numbers.{byte_key, short_key, number_key, integer_key, list_key}

abbrev pub option_key : {A : Type 0} → (A → List ℕ) → Option A → List ℕ
option_key key None = 0 ∷ []
option_key key (Some x) = 1 ∷ key x

abbrev pub address_key : Address → List ℕ
address_key (Permanent n) = 0 ∷ number_key n
address_key (Local n) = 1 ∷ number_key n

abbrev pub frame_key : Frame → List ℕ
frame_key f = number_key f.routine ++ (number_key f.component ++ (number_key f.own ++ (number_key f.base ++ number_key f.references)))

-- each number of the frame is one byte
pub record IsSmall (f : Frame) : Type 0 where
  pub routine : f.routine < 254
  pub component : f.component < 254
  pub own : f.own < 254
  pub base : f.base < 254
  pub references : f.references < 254

abbrev pub entry_key : Entry → List ℕ
entry_key (Rest item) = 0 ∷ number_key item
entry_key (Successor item value last) = 1 ∷ number_key item ++ (integer_key value ++ integer_key last)
entry_key (Return frame slot monitor) = 2 ∷ frame_key frame ++ (option_key number_key slot ++ option_key byte_key monitor)
entry_key (InitEnd frame component) = 3 ∷ frame_key frame ++ number_key component

abbrev pub status_key : Status → List ℕ
status_key Unstarted = 0 ∷ []
status_key Ready = 1 ∷ []
status_key Ended = 2 ∷ []
status_key (AtGate monitor) = 3 ∷ byte_key monitor
status_key (Delayed cell) = 4 ∷ number_key cell

abbrev pub phase_key : Phase → List ℕ
phase_key Uninitialised = 0 ∷ []
phase_key Initialising = 1 ∷ []
phase_key Initialised = 2 ∷ []

abbrev pub gates_key : Gates → List ℕ
gates_key First = 0 ∷ []
gates_key Any = 1 ∷ []

abbrev pub signals_key : Signals → List ℕ
signals_key signals.Return = 0 ∷ []
signals_key signals.Continue = 1 ∷ []
signals_key signals.Wait = 2 ∷ []

abbrev pub discipline_key : Discipline → List ℕ
discipline_key d = gates_key d.gates ++ signals_key d.signals

abbrev pub shown_key : Shown → List ℕ
shown_key (Integer z) = 0 ∷ integer_key z
shown_key (Char c) = 1 ∷ byte_key c
shown_key (Truth false) = 2 ∷ []
shown_key (Truth true) = 3 ∷ []
shown_key (Constant n) = 4 ∷ short_key n

-- what the frames of a process hold, with the control stack from its bottom
abbrev pub frames_key : Body → List ℕ
frames_key b = list_key entry_key (reverse b.stack) ++ (list_key integer_key b.cells ++ list_key address_key b.references)

abbrev pub body_key : Body → List ℕ
body_key b = frame_key b.frame ++ frames_key b

-- the statuses of all threads, and then their bodies, so that those that stay the same lie side by side
abbrev pub threads_key : List Thread → List ℕ
threads_key ts = list_key (λ t. status_key t.status) ts ++ flat_map (λ t. body_key (body_of t)) ts

abbrev pub monitor_key : Monitor → List ℕ
monitor_key m = option_key byte_key m.holder ++ list_key byte_key m.line

-- the monitors, and what is pending
unfoldable pub rest_key : Machine → List ℕ
rest_key m = list_key monitor_key m.monitors ++ (option_key byte_key m.pending ++ discipline_key m.discipline)

-- all but the output
abbrev pub hidden_key : Machine → List ℕ
hidden_key m = list_key integer_key m.permanents ++ (list_key number_key m.bindings ++ (list_key phase_key m.phases ++ (threads_key m.threads ++ rest_key m)))

-- the output is first, so that it is read without the rest
unfoldable pub key_of : Machine → List ℕ
key_of m = list_key shown_key m.output ++ hidden_key m

-- the core of a state: of what it displayed only how much
unfoldable pub core_key : Machine → List ℕ
core_key m = number_key (length m.output) ++ hidden_key m
