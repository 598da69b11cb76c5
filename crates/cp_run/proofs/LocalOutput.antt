-- A local step displays nothing.
use Rattle.std.proofs.Common.{◌≡◌, ◌∙◌, ℕ, List, [], true, subst, refl}
use Rattle.cp_slots.specs.Tables.{Tables}
use Rattle.cp_machine.specs.declared.shown.Shown.{Shown}
use Rattle.cp_machine.specs.Machine.{Machine}
use Rattle.cp_machine.specs.Statements.{Stepped, local}
use Rattle.cp_machine.specs.Step.{step_at, is_local}
use Rattle.cp_machine.proofs.StepKeeps.{step_twins}
use Rattle.cp_machine.proofs.Stepping.{show_either}

-- where its event is local, this is what the machine displayed
abbrev Same : List Shown → Stepped → Type 0
Same out x = is_local x.event ≡ true → x.machine.output ≡ out

-- after a local step as much is displayed as before
pub local_output : (r : Tables) (m n : Machine) (p : ℕ) (out : List Shown) → m.output ≡ out → step_at r m p ≡ local n → n.output ≡ out
local_output r m n p out h step =
    let F : Stepped → Type 0 = Same out in
    subst F step
    (step_twins [] (λ x y. Same out x) r m p (λ k event e is. e ∙ h) (λ rest v. show_either (Same out) m p rest v (λ bad. absurd (cc)) (λ bad. absurd (cc)))) refl
