-- What the frame of a process may name is there.
use Rattle.cp_machine.proofs.Words.{◌≡◌, ℕ, ◌+◌, ◌<◌, ◌≤◌, List, [], ◌∷◌, length, ap, arith, slice_index_or, IsSound, IsOf, IsTyped, own_of, Tables, component_at}
use Rattle.cp_machine.proofs.Words.{routine_at, system_at, Address, Permanent, Local, Frame, Memory, Entry, Rest, Successor, FrameFits, ThreadFits, MachineFits, size_of}
use Rattle.cp_machine.proofs.Words.{Machine, thread_at, memory_at, IsBehind, FrameReaches, StackReaches, ThreadReaches, reference_at}
use Rattle.cp_store.specs.Inside.{HasCells, Covers}
use Rattle.cp_machine.proofs.rooms.Keeping.{frame_fits}

pub frame_reaches : (r : Tables) (references : List Address) (f : Frame) (es : List Entry) → StackReaches r references f es → FrameReaches r references f
frame_reaches r references f [] h = h
frame_reaches r references f (Rest at ∷ es) h = frame_reaches r references f es h
frame_reaches r references f (Successor at value last ∷ es) h = frame_reaches r references f es h
frame_reaches r references f _ h = h.0

-- a component of a system type has the permanent cells that a routine of the type may name
pub component_has : (r : Tables) (routine component : ℕ) → IsTyped r → routine < length r.routines → IsOf r (routine_at r routine).system component → (component_at r component).base + (routine_at r routine).own ≤ length r.permanents
component_has r routine component typed there of =
    let owns = (typed.components component of.0).cells in
    let names = (typed.routines routine there).cells in
    let same : own_of r component ≡ (system_at r (routine_at r routine).system).own = ap (λ s. (system_at r s).own) of.1 in
    omega (arith, owns, names, same)

behind_has : (r : Tables) (m : Memory) (f : Frame) (a : Address) (cells : ℕ) → length m.permanents ≡ length r.permanents → f.base ≤ length m.cells → IsBehind r f a cells → HasCells m a cells
behind_has r m f (Permanent number) cells p c h = omega (arith, h, p)
behind_has r m f (Local number) cells p c h = omega (arith, h, c)

-- the memory of a process covers the frame that it executes
pub covered : (r : Tables) (m : Machine) (pid : ℕ) → pid < length m.threads → IsSound r → IsTyped r → MachineFits r m → ThreadReaches r (thread_at m.threads pid) → Covers (memory_at m pid) (routine_at r (thread_at m.threads pid).frame.routine) (thread_at m.threads pid).frame
covered r m pid lt sound typed fits reaches =
    let t = thread_at m.threads pid in
    let each : ThreadFits r t = fits.each pid lt in
    let frame : FrameFits r t.frame = frame_fits r t.frame t.stack each.stack in
    let own = frame_reaches r t.references t.frame t.stack reaches in
    let routine = sound.routines t.frame.routine frame.routine in
    let has = component_has r t.frame.routine t.frame.component typed frame.routine own.component in
    let at : t.frame.own ≡ (component_at r t.frame.component).base = own.own in
    let permanents : length m.permanents ≡ length r.permanents = fits.permanents in
    let long : length t.cells ≡ t.frame.base + size_of r t.frame.routine = each.cells in
    let named : length t.references ≡ t.frame.references + (routine_at r t.frame.routine).references = each.references in
    let room : t.frame.base + (routine_at r t.frame.routine).room ≤ r.cells = frame.cells in
    let rooms : t.frame.references + (routine_at r t.frame.routine).reference_room ≤ r.references = frame.references in
    let image : size_of r t.frame.routine ≤ (routine_at r t.frame.routine).room = routine.cells in
    let count : (routine_at r t.frame.routine).references ≤ (routine_at r t.frame.routine).reference_room = routine.references in
    let extents : length (routine_at r t.frame.routine).extents ≡ (routine_at r t.frame.routine).references = routine.extents in
    record {
      own = omega (arith, has, at, permanents);
      cells = omega (arith, long);
      references = omega (arith, named, extents);
      behind = λ k there. behind_has r (memory_at m pid) t.frame (reference_at t.references (t.frame.references + k)) (slice_index_or (routine_at r t.frame.routine).extents k 0) permanents (omega (arith, long)) (own.behind k there);
      permanents_few = omega (arith, permanents, typed.words.permanents);
      cells_few = omega (arith, long, room, image, typed.words.cells);
      references_few = omega (arith, named, rooms, count, typed.words.references);
    }
