-- A state that becomes the one of a row: its lists place by place, its processes and its monitors one by one.
use Rattle.std.specs.Prelude.{◌≡◌, ◌+◌, ◌<◌, ◌≤◌, ℕ, List, length, pos, slice_index_or, ℤ}
use Rattle.cp_slots.specs.Fits.{IsSound}
use Rattle.cp_slots.specs.Tables.{Tables}
use Rattle.cp_key.specs.Room.{IsMachineOf}
use Rattle.cp_machine.specs.declared.process.Status.{Status}
use Rattle.cp_machine.specs.declared.process.Status.TheVariants.{AtGate}
use Rattle.cp_machine.specs.declared.state.Gate.{Gate}
use Rattle.cp_machine.specs.declared.state.Phase.{Phase}
use Rattle.cp_machine.specs.declared.state.Phase.TheVariants.{Uninitialised}
use Rattle.cp_machine.specs.Fits.{MachineFits}
use Rattle.cp_machine.specs.Machine.{Machine, monitor_at, monitor_of}
use Rattle.cp_parts.specs.declared.grounds.Ground.{Ground}
use Rattle.cp_parts.specs.declared.grounds.GroundStore.{GroundStore}
use Rattle.cp_parts.specs.declared.placing.PlaceTable.{PlaceTable}
use Rattle.cp_parts.specs.declared.store.PartStore.{PartStore}
use Rattle.cp_effect_laws.specs.Parts.{status_at}
use Rattle.cp_states.specs.Numbers.{number_at}
use Rattle.cp_parts.specs.Parts.{IsGround, IsPartNumber, IsPartRow, IsStatusNumber}
use Rattle.cp_parts.specs.Placed.{IsPlaced, place_count}
use Rattle.cp_parts.specs.Runs.{label_at}

-- the number of a monitor is a byte
abbrev pub IsByteStatus : Status → Type 0
IsByteStatus (AtGate monitor) = monitor < 256
IsByteStatus _ = Unit {0}

-- Where the known numbers are those of a row, they are the machine's.
pub record IsKnownOf (s : PartStore) (t : PlaceTable) (n : Machine) (row known : List ℕ) : Type 0 where
  pub long : t.processes + 1 + place_count t ≤ length known
  pub statuses : (q : ℕ) → q < t.processes → number_at row q ≡ number_at known q → IsStatusNumber s (status_at n q) (number_at known q)
  pub parts : (place : ℕ) → place < place_count t → number_at row (t.processes + 1 + place) ≡ number_at known (t.processes + 1 + place) →
      IsPartNumber s t n place (number_at known (t.processes + 1 + place))

-- The state of machine n can become that of machine m, whose row is known. Of its own row some numbers are known, or none.
pub record CanTake (r : Tables) (s : PartStore) (t : PlaceTable) (row known : List ℕ) (m n : Machine) : Type 0 where
  pub sound : IsSound r
  pub placed : IsPlaced r t
  pub its : IsMachineOf r m
  pub was : MachineFits r n
  pub row_is : IsPartRow s t m row
  pub known_is : IsKnownOf s t n row known

-- the same of a machine of whose row nothing is known
pub record CanTakeAnew (r : Tables) (s : PartStore) (t : PlaceTable) (row : List ℕ) (m : Machine) : Type 0 where
  pub sound : IsSound r
  pub placed : IsPlaced r t
  pub its : IsMachineOf r m
  pub row_is : IsPartRow s t m row

-- ---- lists

-- a list into which another one was written from a number on
pub record IsWritten {A : Type 0} (d : A) (first count : ℕ) (from old new : List A) : Type 0 where
  pub long : length new ≡ length old
  pub own : (j : ℕ) → j < count → slice_index_or new (first + j) d ≡ slice_index_or from j d
  pub before : (k : ℕ) → k < first → slice_index_or new k d ≡ slice_index_or old k d
  pub after : (k : ℕ) → first + count ≤ k → slice_index_or new k d ≡ slice_index_or old k d

-- a list that has at each thing of some labels what one list has, and at the others what another one has
pub record IsLaid {A : Type 0} (d : A) (labels : List ℕ) (some : ℕ → Type 0) (mine theirs new : List A) : Type 0 where
  pub count : length new ≡ length theirs
  pub own : (k : ℕ) → some (label_at labels k) → slice_index_or new k d ≡ slice_index_or mine k d
  pub others : (k : ℕ) → (some (label_at labels k) → ⊥) → slice_index_or new k d ≡ slice_index_or theirs k d

-- lists that have in some places what a machine has there, and in the others what they had
pub record AreLaid (t : PlaceTable) (some : ℕ → Type 0) (m : Machine) (cells : List ℤ) (bindings : List ℕ) (phases : List Phase) (cells_new : List ℤ) (bindings_new : List ℕ) (phases_new : List Phase) : Type 0 where
  pub cells_laid : IsLaid (pos 0) t.cells.labels.items some m.permanents cells cells_new
  pub bindings_laid : IsLaid 0 t.cells.labels.items some m.bindings bindings bindings_new
  pub phases_laid : IsLaid Uninitialised t.components.labels.items some m.phases phases phases_new

-- numbers of what a machine of the program has in a place, and lists that are as long as its own
pub record CanLay (s : GroundStore) (t : PlaceTable) (m : Machine) (place : ℕ) (g : Ground) (cells : List ℤ) (bindings : List ℕ) (phases : List Phase) : Type 0 where
  pub within : place < place_count t
  pub ground : IsGround s t m place g
  pub permanents : length m.permanents ≡ length t.cells.labels.items
  pub bindings_long : length m.bindings ≡ length t.cells.labels.items
  pub phases_long : length m.phases ≡ length t.components.labels.items
  pub cells_same : length cells ≡ length m.permanents
  pub bindings_same : length bindings ≡ length m.bindings
  pub phases_same : length phases ≡ length m.phases

-- ---- monitors

-- monitors of which the first are those of a machine, and the others those that were there
pub record AreGuardsTaken (m n : Machine) (guards : List Gate) (count : ℕ) : Type 0 where
  pub taken : (k : ℕ) (d : Gate) → k < count → k < length guards → monitor_of (slice_index_or guards k d) ≡ monitor_at m k
  pub rest : (k : ℕ) (d : Gate) → count ≤ k → k < length guards → monitor_of (slice_index_or guards k d) ≡ monitor_at n k
