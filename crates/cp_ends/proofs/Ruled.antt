-- A machine keeps its discipline.
use Rattle.std.proofs.Common.{◌≡◌, ◌∙◌, ℕ, zero, suc, Bool, true, false, if◌then◌else◌, Option, None, Some, refl, sym, ap}
use Rattle.cp_slots.specs.Tables.{Tables}
use Rattle.cp_machine.specs.declared.discipline.Discipline.{Discipline}
use Rattle.cp_machine.specs.Opening.{admit_at, admit_waiting}
use Rattle.cp_machine.specs.System.{Machine, is_pending, step_at}
use Rattle.cp_machine.proofs.StepKeeps.{step_keeps}
use Rattle.cp_run.specs.declared.outcome.Turn.{Turn}
use Rattle.cp_run.specs.declared.outcome.Turn.TheVariants.{Over, Due, Goes}
use Rattle.cp_run.specs.Fold.{walked, walked_chosen, walked_opened}
use Rattle.cp_run.specs.Run.{settled_turn, turn_after, turn_at}
use Rattle.cp_run.specs.Silent.{silent_slots}
use Rattle.cp_run.specs.System.{System}

step_ruled : (r : Tables) (m : Machine) (p : ℕ) → (step_at r m p).machine.discipline ≡ m.discipline
step_ruled r m p =
    step_keeps (λ discipline pending ts. discipline ≡ m.discipline) p (λ discipline pending ts x h. h) (λ discipline pending ts q h. h) (λ discipline pending ts q cell monitor at h. h) (λ discipline pending ts monitor any h. h) r m refl

admission_ruled : (m : Machine) (p : ℕ) → (admit_waiting m p).discipline ≡ m.discipline
admission_ruled m p = by m.pending
  where
    by : (o : Option ℕ) → (admit_at o m p).discipline ≡ m.discipline
    by None = refl
    by (Some monitor) = refl

module _ (r : Tables) (discipline : Discipline) where
  walked_ruled : (n : ℕ) (m : Machine) (turn : Turn) → (walked (silent_slots r discipline) n m turn).0.discipline ≡ m.discipline
  unfolding walked
  walked_ruled zero m turn = refl
  walked_ruled (suc n) m (Over kind) = refl
  walked_ruled (suc n) m Due = refl
  walked_ruled (suc n) m (Goes p) =
      let sys : System Machine = silent_slots r discipline in
      walked_ruled n (sys.step m p) (turn_after sys (sys.step m p) p (sys.event m p)) ∙ step_ruled r m p

  pub opened_ruled : (steps : ℕ) → (walked_opened (silent_slots r discipline) steps).0.discipline ≡ discipline
  unfolding walked_opened
  opened_ruled steps = let sys : System Machine = silent_slots r discipline in walked_ruled steps sys.start (turn_at sys sys.start false 0)

  pub chosen_ruled : (steps : ℕ) (m : Machine) (p : ℕ) → (walked_chosen (silent_slots r discipline) steps m p).0.discipline ≡ m.discipline
  unfolding walked_chosen
  chosen_ruled steps m p = by (is_pending m)
    where
      sys : System Machine
      sys = silent_slots r discipline

      by : (b : Bool) → (if b then walked sys steps (admit_waiting m p) (settled_turn sys (admit_waiting m p) true p) else walked sys steps m (Goes p)).0.discipline ≡ m.discipline
      by true = walked_ruled steps (admit_waiting m p) (settled_turn sys (admit_waiting m p) true p) ∙ admission_ruled m p
      by false = walked_ruled steps m (Goes p)

-- where a stretch came to
pub still_ruled : (discipline : Discipline) (n m : Machine) (w : Machine × Turn) (turn : Turn) → n ≡ m → w ≡ (m, turn) → w.0.discipline ≡ discipline → n.discipline ≡ discipline
still_ruled discipline n m w turn same stands ruled = ap (λ (k : Machine). k.discipline) same ∙ sym (ap (λ (x : Machine × Turn). x.0.discipline) stands) ∙ ruled
