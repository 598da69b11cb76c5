-- From one due choice to the next, and what is seen of it.
use Rattle.std.specs.Prelude.{ℕ, List, Bool, Option}
use Rattle.cp_slots.specs.Tables.{Tables}
use Rattle.cp_machine.specs.System.{Machine}
use Rattle.cp_machine.specs.declared.discipline.Discipline.{Discipline}
use Rattle.cp_run.specs.System.{System}
use Rattle.cp_run.specs.declared.outcome.Halt.{Halt}
use Rattle.cp_endless_laws.specs.Silent.{silent_slots, in_call_on_slots, waits_on_slots}
use Rattle.cp_ends.specs.Legs.{Leg}
use Rattle.cp_ends.specs.Legs as legs
use Rattle.cp_waits.specs.Passings.{Seen}
use Rattle.cp_waits.specs.declared.passing.PassingSets.{PassingSets}

-- its stretch is seen to repeat, and `again` is what was seen of the part that repeats
abbrev pub GoesRound : {S : Type 0} → System S → (S → ℕ → Bool) → (S → ℕ → Bool) → ℕ → Leg S → PassingSets → Type 0
GoesRound sys inside waiting steps leg again = legs.GoesRound sys (λ p due ms. Seen sys inside waiting due ms p) steps leg again

-- where a leg came to, and what was seen of it
abbrev pub ComesTo : {S : Type 0} → System S → (S → ℕ → Bool) → (S → ℕ → Bool) → ℕ → Leg S → List S → PassingSets → Halt (Option PassingSets) → S → Type 0
ComesTo sys inside waiting steps leg due p halt s = legs.ComesTo sys (λ q before ms. Seen sys inside waiting before ms q) steps leg due p halt s

-- of the slot machine that shows nothing
abbrev pub Comes : Tables → Discipline → ℕ → Leg Machine → List Machine → PassingSets → Halt (Option PassingSets) → Machine → Type 0
Comes r discipline steps leg due p halt m = ComesTo (silent_slots r discipline) in_call_on_slots waits_on_slots steps leg due p halt m
