-- A due choice in a program's state, by the answer whether a monitor is pending: what goes on needs of the state, and where it leads to.
use Rattle.std.proofs.Common.{◌≡◌, ℕ, ◌<◌, true, false, Option, length, is_some}
use Rattle.std.specs.Prelude.{IsTrue}
use Rattle.cp_slots.specs.Tables.{Tables}
use Rattle.cp_machine.specs.declared.discipline.Discipline.{Discipline}
use Rattle.cp_machine.specs.declared.state.State.{State}
use Rattle.cp_machine.specs.System.{Machine, admit_waiting, in_line}
use Rattle.cp_machine.proofs.CallerLemmas.{line_within, admitted_free}
use Rattle.cp_run.proofs.Words.{IsStateOf, is_pending, is_ready, machine_of, pending_is, may, slots}
use Rattle.cp_run.proofs.Choosing.{may_in_line, may_be_ready}

-- a process may go on in a state of the program's
abbrev pub MayGoOn : Tables → State → ℕ → Type 0
MayGoOn r s p = record { own : IsStateOf r s; ready : is_ready (machine_of s) p ≡ true; free : is_pending (machine_of s) ≡ false }

-- a process may be let in where a monitor is pending
abbrev pub MayComeIn : State → ℕ → Type 0
MayComeIn s p = record { own : (r : Tables) × IsStateOf r s; pid : p < length s.processes.items; line : IsTrue (in_line (machine_of s) p) }

module _ (r : Tables) (discipline : Discipline) (s : State) (p : ℕ) (pending : Option ℕ) (read : pending ≡ (machine_of s).pending) where
  -- nothing is pending: the process that is chosen goes on
  pub chosen_goes : is_some pending ≡ false → IsStateOf r s → may (slots r discipline) (machine_of s) p ≡ true → MayGoOn r s p
  chosen_goes none own allowed =
      let free = pending_is (machine_of s) pending false read none in
      record { own = own; ready = may_be_ready (slots r discipline) (machine_of s) p free allowed; free = free }

  -- a monitor is pending: the process that is chosen is let in, and then nothing is pending
  pub chosen_comes : is_some pending ≡ true → IsStateOf r s → may (slots r discipline) (machine_of s) p ≡ true → MayComeIn s p
  chosen_comes some own allowed =
      let line = may_in_line (slots r discipline) (machine_of s) p (pending_is (machine_of s) pending true read some) allowed in
      record { own = (r, own); pid = line_within s p line; line = line }

  pub free_behind : is_some pending ≡ true → may (slots r discipline) (machine_of s) p ≡ true → (n : Machine) → n ≡ admit_waiting (machine_of s) p → is_pending n ≡ false
  free_behind some allowed n at = admitted_free (machine_of s) n p (may_in_line (slots r discipline) (machine_of s) p (pending_is (machine_of s) pending true read some) allowed) at
