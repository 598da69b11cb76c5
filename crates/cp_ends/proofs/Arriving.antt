-- Where a choice leads that lets nobody in, and states that displayed nothing.
use Rattle.std.proofs.Common.{◌≡◌, ℕ, [], Bool, true, false, if◌then◌else◌, ap}
use Rattle.cp_ends.proofs.Vocabulary.{Shown, Machine, System, settled_turn, forgetting_system, without_output, Arrival}
use Rattle.cp_ends.specs.Arrivals.{arrival_by, next_arrival, stretch_arrival}
use Rattle.cp_ends.specs.declared.end.End as code

module _ {S : Type 0} (sys : System S) (forget : S → S) (eq : S → S → Bool) (steps : ℕ) where
  abbrev quiet : System S
  quiet = forgetting_system sys forget

  abbrev chosen_by : S → ℕ → Bool → Arrival S code.End Shown
  chosen_by s p pending = if pending then arrival_by (sys.admit s p) (stretch_arrival sys forget eq steps (sys.admit s p)) (settled_turn quiet (sys.admit s p) true p) else stretch_arrival sys forget eq steps s p

  by_pending : (s : S) (p : ℕ) (b : Bool) → sys.is_pending s ≡ b → next_arrival sys forget eq steps s p ≡ chosen_by s p b
  unfolding next_arrival
  by_pending s p b e = ap (chosen_by s p) e

  pub next_free : (s : S) (p : ℕ) → sys.is_pending s ≡ false → next_arrival sys forget eq steps s p ≡ stretch_arrival sys forget eq steps s p
  next_free s p e = by_pending s p false e

-- what displayed nothing is the same without the output
pub silent_already : (m : Machine) → m.output ≡ [] → m ≡ without_output m
silent_already m e = ap (λ out. record m { output = out }) e
