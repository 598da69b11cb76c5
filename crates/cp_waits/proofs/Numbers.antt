-- The numbers of states, and of processes.
use Rattle.std.proofs.Common.{◌≡◌, ℕ, Bool, true, List, Option, None, Some, refl, sym, subst}
use Rattle.cp_waits.proofs.Words.{Tables, Machine, Node, Halted, Choosing, may, System, slots, silent_slots}
use Rattle.cp_waits.proofs.Words.{ComesTo, IsNumber, Leg, PassingSets}
use Rattle.cp_machine.specs.declared.discipline.Discipline.{Discipline}
use Rattle.cp_ends.specs.Answer.{HasNumber, halt_of, has_room, number_of}
use Rattle.cp_ends.specs.Legs.{IsHalted, with_round}
use Rattle.cp_ends.specs.declared.found.Arrived.{Arrived}
use Rattle.cp_ends.specs.declared.found.Arrived.TheVariants.{At, Ended, Full}

-- ---- where a choice arrives

halted_number : {S : Type 0} (states : List (S × List ℕ)) (node : Node S) → IsHalted node → IsNumber states node None
halted_number states (Halted kind s) h = refl
halted_number states (Choosing s) h = absurd h

-- the number that the code tells is that of the state where the leg leads
pub leads_to : (sys : System Machine) (inside waiting : Machine → ℕ → Bool) (steps : ℕ) (states : List (Machine × List ℕ)) (leg : Leg Machine) (due : List Machine) (seen : PassingSets) (again : Option PassingSets) (last : Machine) (b : Arrived) → has_room b ≡ true → ComesTo sys inside waiting steps leg due seen (with_round again (halt_of b)) last → ((number : ℕ) → b ≡ At number → HasNumber states last number) → IsNumber states leg.node (number_of b)
leads_to sys inside waiting steps states leg due seen again last Full room comes numbered = absurd (cc)
leads_to sys inside waiting steps states leg due seen again last (At number) room comes numbered =
    let there = numbered number refl in
    subst (λ n. IsNumber states n (Some number)) (sym comes.0) (number, there.0, refl, there.1)
leads_to sys inside waiting steps states leg due seen None last (Ended e) room comes numbered = halted_number states leg.node comes.0.halted
leads_to sys inside waiting steps states leg due seen (Some round) last (Ended e) room comes numbered = halted_number states leg.node comes.0.halted

-- ---- choices on slots and without what they show

may_there : (r : Tables) (discipline : Discipline) (m : Machine) (p : ℕ) → may (slots r discipline) m p ≡ may (silent_slots r discipline) m p
unfolding may
may_there r discipline m p = refl

pub quiet_may : (r : Tables) (discipline : Discipline) (m : Machine) → may (slots r discipline) m ≡ may (silent_slots r discipline) m
quiet_may r discipline m = λ i p. may_there r discipline m p i
