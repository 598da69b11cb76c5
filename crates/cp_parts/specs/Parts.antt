-- The parts of a machine by their numbers in a store, and rows of these.
use Rattle.std.specs.Prelude.{◌≡◌, ◌+◌, ◌-◌, ◌<◌, ◌≤◌, ℕ, List, length, reverse}
use Rattle.cp_machine.specs.declared.process.Status.{Status}
use Rattle.cp_machine.specs.Machine.{Machine, Monitor, Thread, monitor_at, thread_at}
use Rattle.cp_states.specs.Numbers.{number_at}
use Rattle.cp_states.specs.Pieces.{IsPiece, KeepPieces, piece_at}
use Rattle.cp_effect_laws.specs.Parts.{stage, status_at}
use Rattle.cp_parts.specs.declared.bodies.BodyNumbers.{BodyNumbers}
use Rattle.cp_parts.specs.declared.bodies.BodyStore.{BodyStore}
use Rattle.cp_parts.specs.declared.grounds.Ground.{Ground}
use Rattle.cp_parts.specs.declared.grounds.GroundStore.{GroundStore}
use Rattle.cp_parts.specs.declared.placing.PlaceTable.{PlaceTable}
use Rattle.cp_parts.specs.declared.store.PartStore.{PartStore}
use Rattle.cp_parts.specs.Coded.{frame_code, option_code, option_list, status_code, waiting_code}
use Rattle.cp_parts.specs.Placed.{place_count, places_of}
use Rattle.cp_parts.specs.Runs.{in_span, span_at}

-- ---- what each place has

-- its cells, what is bound there, how far its components are initialised, and who waits there
pub record IsGround (s : GroundStore) (t : PlaceTable) (m : Machine) (place : ℕ) (g : Ground) : Type 0 where
  pub cells : IsPiece s.cells.items.items s.cells.ends.items g.cells (in_span (span_at t.cells.spans.items place) m.permanents)
  pub bindings : IsPiece s.bindings.items.items s.bindings.ends.items g.bindings (in_span (span_at t.cells.spans.items place) m.bindings)
  pub phases : IsPiece s.phases.items.items s.phases.ends.items g.phases (in_span (span_at t.components.spans.items place) m.phases)
  pub waiting : IsPiece s.waiting.items.items s.waiting.ends.items g.waiting (waiting_code (places_of t) place m.threads)

pub record KeepGroundStore (old new : GroundStore) : Type 0 where
  pub cells : KeepPieces old.cells.items.items old.cells.ends.items new.cells.items.items new.cells.ends.items
  pub bindings : KeepPieces old.bindings.items.items old.bindings.ends.items new.bindings.items.items new.bindings.ends.items
  pub phases : KeepPieces old.phases.items.items old.phases.ends.items new.phases.items.items new.phases.ends.items
  pub waiting : KeepPieces old.waiting.items.items old.waiting.ends.items new.waiting.items.items new.waiting.ends.items

-- ---- what a process has beside its status

pub record IsBody (s : BodyStore) (t : Thread) (b : BodyNumbers) : Type 0 where
  pub frame : IsPiece s.frames.items.items s.frames.ends.items b.frame (frame_code t.frame)
  pub stack : IsPiece s.stacks.items.items s.stacks.ends.items b.stack (reverse t.stack)
  pub cells : IsPiece s.cells.items.items s.cells.ends.items b.cells t.cells
  pub references : IsPiece s.references.items.items s.references.ends.items b.references t.references

pub record KeepBodyStore (old new : BodyStore) : Type 0 where
  pub frames : KeepPieces old.frames.items.items old.frames.ends.items new.frames.items.items new.frames.ends.items
  pub stacks : KeepPieces old.stacks.items.items old.stacks.ends.items new.stacks.items.items new.stacks.ends.items
  pub cells : KeepPieces old.cells.items.items old.cells.ends.items new.cells.items.items new.cells.ends.items
  pub references : KeepPieces old.references.items.items old.references.ends.items new.references.items.items new.references.ends.items

-- ---- parts

-- the numbers of a part: four of what each place has, and those of a process or a monitor
abbrev pub ground_in : List ℕ → Ground
ground_in part = record { cells = number_at part 0; bindings = number_at part 1; phases = number_at part 2; waiting = number_at part 3 }

abbrev pub body_in : List ℕ → BodyNumbers
body_in part = record { frame = number_at part 5; stack = number_at part 6; cells = number_at part 7; references = number_at part 8 }

pub record IsProcessPart (s : PartStore) (t : Thread) (part : List ℕ) : Type 0 where
  pub long : length part ≡ 9
  pub stage : number_at part 4 ≡ stage t.status
  pub body : IsBody s.bodies t (body_in part)

pub record IsMonitorPart (s : PartStore) (x : Monitor) (part : List ℕ) : Type 0 where
  pub long : length part ≡ 6
  pub holder : IsPiece s.lines.items.items s.lines.ends.items (number_at part 4) (option_list x.holder)
  pub line : IsPiece s.lines.items.items s.lines.ends.items (number_at part 5) x.line

-- these are the numbers of the part that a machine has in a place
pub record IsPart (s : PartStore) (t : PlaceTable) (m : Machine) (place : ℕ) (part : List ℕ) : Type 0 where
  pub ground : IsGround s.grounds t m place (ground_in part)
  pub process : place < t.processes → IsProcessPart s (thread_at m.threads place) part
  pub monitor : t.processes ≤ place → IsMonitorPart s (monitor_at m (place - t.processes)) part

abbrev pub part_at : PartStore → ℕ → List ℕ
part_at s n = piece_at s.parts.items.items s.parts.ends.items n

-- the number of that part
pub record IsPartNumber (s : PartStore) (t : PlaceTable) (m : Machine) (place n : ℕ) : Type 0 where
  pub within : n < length s.parts.ends.items
  pub is : IsPart s t m place (part_at s n)

abbrev pub IsStatusNumber : PartStore → Status → ℕ → Type 0
IsStatusNumber s status n = IsPiece s.statuses.items.items s.statuses.ends.items n (status_code status)

-- ---- rows

-- the number of the status of each process, the pending monitor, and the number of the part of each place
pub record IsPartRow (s : PartStore) (t : PlaceTable) (m : Machine) (row : List ℕ) : Type 0 where
  pub long : length row ≡ t.processes + 1 + place_count t
  pub statuses : (q : ℕ) → q < t.processes → IsStatusNumber s (status_at m q) (number_at row q)
  pub pending : number_at row t.processes ≡ option_code m.pending
  pub parts : (place : ℕ) → place < place_count t → IsPartNumber s t m place (number_at row (t.processes + 1 + place))

-- all that has a number keeps it
pub record KeepStore (old new : PartStore) : Type 0 where
  pub grounds : KeepGroundStore old.grounds new.grounds
  pub bodies : KeepBodyStore old.bodies new.bodies
  pub lines : KeepPieces old.lines.items.items old.lines.ends.items new.lines.items.items new.lines.ends.items
  pub statuses : KeepPieces old.statuses.items.items old.statuses.ends.items new.statuses.items.items new.statuses.ends.items
  pub parts : KeepPieces old.parts.items.items old.parts.ends.items new.parts.items.items new.parts.ends.items
  pub ready : new.ready ≡ old.ready

-- ---- a row that is being made

pub record HasStatuses (s : PartStore) (m : Machine) (row : List ℕ) (count : ℕ) : Type 0 where
  pub long : length row ≡ count
  pub each : (q : ℕ) → q < count → IsStatusNumber s (status_at m q) (number_at row q)

-- it has the numbers of the first places, after those that it had
pub record HasParts (s : PartStore) (t : PlaceTable) (m : Machine) (old row : List ℕ) (count : ℕ) : Type 0 where
  pub long : length row ≡ t.processes + 1 + count
  pub kept : (k : ℕ) → k < length old → number_at row k ≡ number_at old k
  pub each : (place : ℕ) → place < count → IsPartNumber s t m place (number_at row (t.processes + 1 + place))
