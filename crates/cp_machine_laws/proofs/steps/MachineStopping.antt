-- After a run error or a full output the machine is as it was.
use Rattle.std.proofs.Common.{◌≡◌, ℕ, [], false, refl}
use Rattle.cp_machine_laws.proofs.Words.{Tables}
use Rattle.cp_machine.specs.Machine.{Machine}
use Rattle.cp_machine.specs.Statements.{Stepped}
use Rattle.cp_machine.specs.Step.{succeeds}
use Rattle.cp_machine.proofs.Stepping.{Walking, step_blind, show_either}
use Rattle.cp_machine_laws.specs.Stopped.{MachineAsBeforeLaw}

-- where a step does not succeed, this is the machine that it comes to
abbrev Stays : Machine → Stepped → Type 0
Stays m x = succeeds x.event ≡ false → x.machine ≡ m

walking : (r : Tables) (m : Machine) (pid : ℕ) → Walking r m pid [] (λ x y. Stays m x) (λ n. Unit {0})
walking r m pid =
    record {
      begins = tt;
      changed = λ n permanents x e k. tt;
      initialised = λ n component k. tt;
      goes = λ n k bad. absurd (cc);
      fails = λ event bad. refl;
      enters = λ component monitor is n k bad. absurd (cc);
      leaves = λ monitor n k bad. absurd (cc);
      delays = λ monitor cell n k bad. absurd (cc);
      continues = λ monitor cell n k bad. absurd (cc);
      signals = λ component monitor is cell n k bad. absurd (cc);
      ends = λ bad. absurd (cc);
      shows = λ rest v. show_either (Stays m) m pid rest v (λ bad. refl) (λ bad. absurd (cc));
    }

pub machine_as_before : MachineAsBeforeLaw
machine_as_before r m pid = step_blind r m pid [] (λ x y. Stays m x) (λ n. Unit {0}) (walking r m pid) (λ n phases bindings k. tt) (λ q is n k bad. absurd (cc))
