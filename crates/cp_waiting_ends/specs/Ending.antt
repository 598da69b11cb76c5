-- Which words lead to ends at which all wait.
use Rattle.std.specs.Prelude.{◌≡◌, ◌≤◌, ℕ, List, Bool, Contains, length}
use Rattle.cp_run.specs.Run.{Halted}
use Rattle.cp_run.specs.System.{System}
use Rattle.cp_run.specs.declared.outcome.OutcomeKind.TheVariants.{AllWaiting}
use Rattle.cp_endless_laws.specs.Reachable.{LeadsTo}
use Rattle.cp_waiting_ends.specs.Waiting.{WaitsSo, entry_seen, waits_so}
use Rattle.cp_waiting_ends.specs.declared.ends.WaitingEnds.{WaitingEnds}

-- the word leads to an end at which all wait, and these wait there
abbrev pub EndsWaiting : {S : Type 0} → System S → (waiting : S → ℕ → Bool) → ℕ → WaitsSo → List ℕ → Type 0
EndsWaiting {S} sys waiting steps w word = (s : S) × LeadsTo sys steps word (Halted AllWaiting s) × (w ≡ waits_so sys waiting s)

-- The ends at which all wait to which words of at most so many choices lead: each has such a word, and whoever waits at the end of such a word is there.
pub record AreEndsWithin {S : Type 0} (sys : System S) (waiting : S → ℕ → Bool) (steps choices : ℕ) (ends : WaitingEnds) : Type 0 where
  pub each : (e : _) → Contains ends.known.entries e → EndsWaiting sys waiting steps (entry_seen e) e.1.items × (length e.1.items ≤ choices)
  pub all : (w : WaitsSo) (word : List ℕ) → EndsWaiting sys waiting steps w word → length word ≤ choices → (e : _) × Contains ends.known.entries e × (entry_seen e ≡ w)
