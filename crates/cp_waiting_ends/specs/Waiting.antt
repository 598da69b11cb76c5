-- Who waits at ends at which all wait.
use Rattle.std.specs.Prelude.{ℕ, List, [], ◌∷◌, Bool, true, false, map, Option, None, Some}
use Rattle.std.specs.declared.alloc.Global.{Global}
use Rattle.std.specs.declared.vec.Vec.{Vec}
use Rattle.cp_machine.specs.Machine.{Machine}
use Rattle.cp_run.specs.Run.{Node, Halted, Choosing, chosen, opened, those_below}
use Rattle.cp_run.specs.System.{System}
use Rattle.cp_run.specs.declared.outcome.Halt.{Halt}
use Rattle.cp_run.specs.declared.outcome.Halt.TheVariants.{Ended}
use Rattle.cp_run.specs.declared.outcome.Outcome.{Outcome}
use Rattle.cp_run.specs.declared.outcome.OutcomeKind.{OutcomeKind}
use Rattle.cp_run.specs.declared.outcome.OutcomeKind.TheVariants.{AllWaiting}
use Rattle.cp_endless_laws.specs.Silent.{waits_on_slots}
use Rattle.cp_layers.specs.Marking.{Marking}
use Rattle.cp_waiting_ends.specs.declared.end.WaitingEnd.{WaitingEnd}
use Rattle.cp_waiting_ends.specs.declared.ends.WaitingEnds.{WaitingEnds}

-- who waits at an end, and the outcome there
pub record WaitsSo : Type 0 where
  pub who : List ℕ
  pub outcome : Outcome

-- the processes that wait in a state, in rising order
abbrev pub who_waits : {S : Type 0} → System S → (waiting : S → ℕ → Bool) → S → List ℕ
who_waits sys waiting s = those_below sys.processes (waiting s)

abbrev pub waits_so : {S : Type 0} → System S → (waiting : S → ℕ → Bool) → S → WaitsSo
waits_so sys waiting s = record { who = who_waits sys waiting s; outcome = record { kind = AllWaiting; output = sys.output s } }

-- if all wait where a run stands still, who waits there
abbrev pub waits_by : {S : Type 0} → System S → (waiting : S → ℕ → Bool) → OutcomeKind → S → List WaitsSo
waits_by sys waiting AllWaiting s = waits_so sys waiting s ∷ []
waits_by sys waiting kind s = []

abbrev pub waits_at : {S : Type 0} → System S → (waiting : S → ℕ → Bool) → Node S → List WaitsSo
waits_at sys waiting (Halted kind s) = waits_by sys waiting kind s
waits_at sys waiting (Choosing s) = []

-- what is to be noted of stretches
abbrev pub waiting_marking : System Machine → ℕ → Marking WaitsSo
waiting_marking sys steps = record { opened = waits_at sys waits_on_slots (opened sys steps); chosen = λ m p. waits_at sys waits_on_slots (chosen sys steps m p) }

-- ---- what the code keeps

abbrev pub end_seen : WaitingEnd → WaitsSo
end_seen e = record { who = e.who.items; outcome = e.key.outcome }

abbrev pub entry_seen : WaitingEnd × Vec ℕ Global → WaitsSo
entry_seen e = end_seen e.0

abbrev pub ends_seen : WaitingEnds → List WaitsSo
ends_seen ends = map entry_seen ends.known.entries

-- with their words
abbrev pub entry_word : WaitingEnd × Vec ℕ Global → WaitsSo × List ℕ
entry_word e = (entry_seen e, e.1.items)

abbrev pub ends_words : WaitingEnds → List (WaitsSo × List ℕ)
ends_words ends = map entry_word ends.known.entries

-- the one, if there is one
abbrev pub those_in : {A : Type 0} → Option A → List A
those_in None = []
those_in (Some x) = x ∷ []

-- all wait where a stretch halted
abbrev pub is_waiting : Halt OutcomeKind → Bool
is_waiting (Ended AllWaiting) = true
is_waiting halt = false
