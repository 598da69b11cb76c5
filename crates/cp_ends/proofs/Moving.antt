-- Admissions display nothing, and are no kernel calls.
use Rattle.std.proofs.Common.{◌≡◌, ℕ, Option, None, Some, false, refl}
use Rattle.cp_machine.specs.Opening.{admit_waiting, admit_at}
use Rattle.cp_machine.specs.System.{Machine, output_of}
use Rattle.cp_machine.specs.declared.event.Event.{Event}
use Rattle.cp_machine.specs.declared.event.Event.TheVariants.{Kernel}
use Rattle.cp_machine.specs.declared.event.Kernel.{Kernel as Call}
use Rattle.cp_ends.proofs.Vocabulary.{is_call}

pub quiet_admitted : (m : Machine) (p : ℕ) → output_of (admit_waiting m p) ≡ output_of m
quiet_admitted m p = by m.pending
  where
    by : (o : Option ℕ) → output_of (admit_at o m p) ≡ output_of m
    by None = refl
    by (Some monitor) = refl

-- what is no kernel call is none
pub no_call : (e : Event) → ((k : Call) → e ≡ Kernel k → ⊥) → is_call e ≡ false
no_call (Kernel k) none = absurd (none k refl)
no_call _ none = refl
