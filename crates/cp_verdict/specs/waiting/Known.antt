-- Who waits at the ends of schedules that were looked at.
use Rattle.std.specs.Prelude.{◌≡◌, ℕ, List, Contains}
use Rattle.std.specs.declared.alloc.Global.{Global}
use Rattle.std.specs.declared.vec.Vec.{Vec}
use Rattle.cp_slots.specs.Tables.{Tables}
use Rattle.cp_machine.specs.declared.discipline.Discipline.{Discipline}
use Rattle.cp_run.specs.declared.outcome.OutcomeKind.TheVariants.{AllWaiting}
use Rattle.cp_ends.specs.declared.end.End.{End}
use Rattle.cp_ends.specs.declared.end.End.TheVariants.{Over}
use Rattle.cp_waiting_ends.specs.declared.end.WaitingEnd.{WaitingEnd}
use Rattle.cp_verdict.specs.endless.Behaviour.{on_slots}
use Rattle.cp_verdict.specs.endless.Knowledge.{Looked}
use Rattle.cp_verdict.specs.waiting.Ends.{waiting_at}
use Rattle.cp_verdict.specs.waiting.Who.{who_on_slots}
use Rattle.cp_verdict.specs.declared.endless.known.KnownEnds.{KnownEnds}
use Rattle.cp_verdict.specs.declared.endless.known.KnownWaitingEnd.{KnownWaitingEnd}

abbrev pub waiting_pair : KnownWaitingEnd → (List ℕ × End) × List ℕ
waiting_pair x = ((x.who.items, x.end.end), x.end.word.items)

abbrev pub entry_pair : WaitingEnd × Vec ℕ Global → (List ℕ × End) × List ℕ
entry_pair e = waiting_at e.0.who.items e.1.items

-- These are ends at which all wait, with who waits there; and whoever waits at such an end that was looked at is among them.
pub record KnowsWho (r : Tables) (discipline : Discipline) (steps : ℕ) (k : KnownEnds) : Type 0 where
  pub each : (x : KnownWaitingEnd) → Contains k.waiting.items x → (x.end.end ≡ Over AllWaiting) × (on_slots r discipline steps).ends (Over AllWaiting) x.end.word.items × (x.who.items ≡ who_on_slots r discipline steps x.end.word.items)
  pub all : (word : List ℕ) → Looked k.looked (on_slots r discipline steps).ends (Over AllWaiting) word → (x : KnownWaitingEnd) × Contains k.waiting.items x × (x.who.items ≡ who_on_slots r discipline steps word)
