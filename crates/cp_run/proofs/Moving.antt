-- Those who move in a stretch are those of whom whoever watches is told.
use Rattle.std.proofs.Common.{◌≡◌, ◌∙◌, ℕ, zero, suc, Bool, true, false, if◌then◌else◌, ap, refl, subst, sym}
use Rattle.cp_slots.specs.Tables.{Tables}
use Rattle.cp_machine.specs.Bodies.{KeepBodies}
use Rattle.cp_machine.specs.System.{Machine, Stepped, step_at}
use Rattle.cp_machine.specs.Opening.{admit_waiting}
use Rattle.cp_machine.proofs.Unmoved.{keep_step, keep_admitted}
use Rattle.cp_run.specs.Fold.{blind, fold_chosen, fold_stretch, fold_turn}
use Rattle.cp_run.specs.Run.{settled_turn, turn_after}
use Rattle.cp_run.specs.System.{System}
use Rattle.cp_run.specs.declared.outcome.Turn.{Turn}
use Rattle.cp_run.specs.declared.outcome.Turn.TheVariants.{Over, Due, Goes}

-- a step of a process that has been told of
pub moved_by : (moved : ℕ → Bool) (r : Tables) (before from to : Machine) (p : ℕ) (stepped : Stepped) → step_at r from p ≡ stepped → stepped.machine ≡ to → KeepBodies moved before from → moved p ≡ true → KeepBodies moved before to
moved_by moved r before from to p stepped is at kept told = subst (KeepBodies moved before) (ap (λ (x : Stepped). x.machine) is ∙ at) (keep_step r moved before from p kept told)

-- an admission
pub let_in : (moved : ℕ → Bool) (before m n : Machine) (pid : ℕ) → n ≡ admit_waiting m pid → KeepBodies moved before m → KeepBodies moved before n
let_in moved before m n pid is h = subst (KeepBodies moved before) (sym is) (keep_admitted moved before m pid h)

module _ {S X : Type 0} (sys : System S) where
  on_turn : (on : ℕ → X → X) (turn : Turn) (x : X) → ((q : ℕ) → on q x ≡ x) → fold_turn on turn x ≡ x
  on_turn on (Over kind) x same = refl
  on_turn on Due x same = refl
  on_turn on (Goes q) x same = same q

  -- who makes nothing of a run has after it what there was before
  pub blind_stretch : (left : ℕ) (s : S) (p : ℕ) (x : X) → fold_stretch sys blind left s p x ≡ x
  unfolding fold_stretch
  blind_stretch zero s p x = refl
  blind_stretch (suc left) s p x = on_turn (fold_stretch sys blind left (sys.step s p)) (turn_after sys (sys.step s p) p (sys.event s p)) x (λ q. blind_stretch left (sys.step s p) q x)

  on_choice : (steps : ℕ) (s : S) (p : ℕ) (x : X) (b : Bool) → (if b then fold_turn (fold_stretch sys blind steps (sys.admit s p)) (settled_turn sys (sys.admit s p) true p) x else fold_stretch sys blind steps s p x) ≡ x
  on_choice steps s p x true = on_turn (fold_stretch sys blind steps (sys.admit s p)) (settled_turn sys (sys.admit s p) true p) x (λ q. blind_stretch steps (sys.admit s p) q x)
  on_choice steps s p x false = blind_stretch steps s p x

  pub blind_chosen : (steps : ℕ) (s : S) (p : ℕ) (x : X) → fold_chosen sys blind steps s p x ≡ x
  unfolding fold_chosen
  blind_chosen steps s p x = on_choice steps s p x (sys.is_pending s)
