-- What a transfer tells of the calls that it made, and its exit code.
use Rattle.std.specs.Prelude.{ℕ, Ok, Err}
use Rattle.std.specs.declared.result.Result.{Result}
use Rattle.cp_front.specs.declared.transfer.ReadFault.{ReadFault}
use Rattle.cp_front.specs.declared.transfer.ReadFault.TheVariants.{Memory, Failed}
use Rattle.cp_front.specs.declared.transfer.StreamFault.{StreamFault}
use Rattle.cp_front.specs.declared.transfer.StreamFault.TheVariants as fault

-- a reading that gave up for a failed read met one
abbrev pub one_if_read_failed : {A : Type 0} → Result A ReadFault → ℕ
one_if_read_failed (Ok v) = 0
one_if_read_failed (Err Memory) = 0
one_if_read_failed (Err Failed) = 1

-- the exit code where there is no answer, or not all of it was written
abbrev pub code_of_fault : StreamFault → ℕ
code_of_fault fault.Memory = 3
code_of_fault fault.Read = 4
code_of_fault fault.Write = 4

-- the exit code of what was told, or of what came in between
abbrev pub code_by : {A : Type 0} → (A → ℕ) → Result A StreamFault → ℕ
code_by code (Ok told) = code told
code_by code (Err e) = code_of_fault e

-- how many calls failed, or were writes that took nothing
abbrev pub faults_in : {A : Type 0} → Result A StreamFault → ℕ
faults_in (Ok told) = 0
faults_in (Err fault.Memory) = 0
faults_in (Err fault.Read) = 1
faults_in (Err fault.Write) = 1
