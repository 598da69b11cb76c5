-- What is remembered of an admission: the numbers of the part of the monitor's place before it and afterwards.
use Rattle.std.specs.Prelude.{◌≡◌, ◌∷◌, [], ℕ, true, List, None, Option, Some, slice_index_or, slice_set}
use Rattle.cp_slots.specs.Tables.{Tables}
use Rattle.cp_machine.specs.Fits.{MachineFits}
use Rattle.cp_machine.specs.Machine.{Machine, in_line}
use Rattle.cp_machine.specs.Opening.{admit_waiting}
use Rattle.cp_states.specs.Numbers.{number_at}
use Rattle.cp_states.specs.Pieces.{IsPiece}
use Rattle.cp_parts.specs.declared.placing.PlaceTable.{PlaceTable}
use Rattle.cp_parts.specs.declared.store.PartStore.{PartStore}
use Rattle.cp_parts.specs.Parts.{IsPartNumber, IsPartRow}
use Rattle.cp_parts.specs.Placed.{IsPlaced, places_of}
use Rattle.cp_effects.specs.declared.admissions.AdmissionTable.{AdmissionTable}
use Rattle.cp_effects.specs.Changes.{part_position}

-- where the number of the part of a monitor's place is in a row
abbrev pub guard_position : PlaceTable → (monitor : ℕ) → ℕ
guard_position t monitor = part_position t ((places_of t).of_monitor monitor)

-- A process of the line of a pending monitor was let in, in a machine of the program: the part of the monitor's place had this number, and has that one afterwards.
pub record IsAdmission (s : PartStore) (t : PlaceTable) (r : Tables) (pid monitor before after : ℕ) : Type 0 where
  pub first : Machine
  pub fits : MachineFits r first
  pub pending : first.pending ≡ Some monitor
  pub waits : in_line first pid ≡ true
  pub found : IsPartNumber s t first ((places_of t).of_monitor monitor) before
  pub comes : IsPartNumber s t (admit_waiting first pid) ((places_of t).of_monitor monitor) after

-- a row after an admission: the process is ready, nothing is pending, and the part of the monitor's place has this number
abbrev pub admitted_row : PartStore → PlaceTable → (pid monitor after : ℕ) → List ℕ → List ℕ
admitted_row s t pid monitor after row = slice_set (slice_set (slice_set row pid s.ready) t.processes 0) (guard_position t monitor) after

-- A machine that has the number that is remembered has the row afterwards that is remembered.
abbrev pub AdmissionRowLaw : Type 0
AdmissionRowLaw =
    (s : PartStore) (t : PlaceTable) (r : Tables) (pid monitor after : ℕ) (n : Machine) (row : List ℕ) →
    IsPlaced r t → MachineFits r n → n.pending ≡ Some monitor → IsPartRow s t n row →
    IsAdmission s t r pid monitor (number_at row (guard_position t monitor)) after → IsPartRow s t (admit_waiting n pid) (admitted_row s t pid monitor after row)

-- ---- a table of admissions

-- the number of the part afterwards, if it is known of a key
abbrev pub part_after : AdmissionTable → (key : ℕ) → Option ℕ
part_after table key = slice_index_or table.parts.items key None

-- the key of an admission
abbrev pub IsAdmissionKey : AdmissionTable → (key pid monitor before : ℕ) → Type 0
IsAdmissionKey table key pid monitor before = IsPiece table.keys.items.items table.keys.ends.items key (pid ∷ monitor ∷ before ∷ [])

-- an admission that is remembered by a key
pub record IsKnownAdmission (s : PartStore) (t : PlaceTable) (r : Tables) (table : AdmissionTable) (key after : ℕ) : Type 0 where
  pub pid : ℕ
  pub monitor : ℕ
  pub before : ℕ
  pub keyed : IsAdmissionKey table key pid monitor before
  pub is : IsAdmission s t r pid monitor before after

-- each admission in the table is remembered by its key
abbrev pub AreAdmissions : PartStore → PlaceTable → Tables → AdmissionTable → Type 0
AreAdmissions s t r table = (key after : ℕ) → part_after table key ≡ Some after → IsKnownAdmission s t r table key after
