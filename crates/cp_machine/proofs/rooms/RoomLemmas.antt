-- A process whose topmost entry is known has room for what its item needs.
use Rattle.cp_machine.proofs.Words.{◌≡◌, ◌∙◌, ℕ, ◌+◌, ◌<◌, ◌≤◌, List, ◌∷◌, length, Option, Some, None, ap, sym, subst, arith, ℤ, slice_index_or, vec_len, get_or-map}
use Rattle.cp_machine.proofs.Words.{length-map, length-reverse, Tables, item_at, InnerFits, CallFits, Argument, Entry, Rest, Successor, ProcessState, State, Thread}
use Rattle.cp_machine.proofs.Words.{thread_of, thread_at, no_thread, machine_of, EntryFits, StackFits, MachineFits, IsReserved, IsStateOf, IsBusy, HasRoom, HasCallRoom}
use Rattle.cp_machine.proofs.rooms.Keeping.{frame_fits}

abbrev pub thread : State → ℕ → Thread
thread s pid = thread_at (machine_of s).threads pid

pub thread_is : (s : State) (pid : ℕ) (d : ProcessState) → pid < length s.processes.items → thread s pid ≡ thread_of (slice_index_or s.processes.items pid d)
thread_is s pid d lt = get_or-map thread_of s.processes.items pid d no_thread lt

pub within : (s : State) (pid : ℕ) → pid < length s.processes.items → pid < length (machine_of s).threads
within s pid lt = omega (arith, lt, length-map s.processes.items thread_of)

pub stack_length : (s : State) (pid : ℕ) (d : ProcessState) → pid < length s.processes.items → vec_len (slice_index_or s.processes.items pid d).stack ≡ length (thread s pid).stack
stack_length s pid d lt =
    let p = slice_index_or s.processes.items pid d in
    let len : vec_len p.stack ≡ length p.stack.items = p.stack.ok.0 in
    len ∙ sym (length-reverse p.stack.items) ∙ ap (λ t. length t.stack) (sym (thread_is s pid d lt))

pub cells_length : (s : State) (pid : ℕ) (d : ProcessState) → pid < length s.processes.items → vec_len (slice_index_or s.processes.items pid d).room.cells ≡ length (thread s pid).cells
cells_length s pid d lt =
    let p = slice_index_or s.processes.items pid d in
    let len : vec_len p.room.cells ≡ length p.room.cells.items = p.room.cells.ok.0 in
    len ∙ ap (λ t. length t.cells) (sym (thread_is s pid d lt))

pub references_length : (s : State) (pid : ℕ) (d : ProcessState) → pid < length s.processes.items → vec_len (slice_index_or s.processes.items pid d).room.references ≡ length (thread s pid).references
references_length s pid d lt =
    let p = slice_index_or s.processes.items pid d in
    let len : vec_len p.room.references ≡ length p.room.references.items = p.room.references.ok.0 in
    len ∙ ap (λ t. length t.references) (sym (thread_is s pid d lt))

-- a process with an entry is busy
pub is_busy : (s : State) (pid : ℕ) (e : Entry) (es : List Entry) → pid < length s.processes.items → (thread s pid).stack ≡ e ∷ es → IsBusy s pid
is_busy s pid e es lt top = λ d. (let long : length (thread s pid).stack ≡ length (e ∷ es) = ap length top in let one : length (e ∷ es) ≡ length es + 1 = omega arith in omega (arith, stack_length s pid d lt, long, one))

-- what fits on the control stack of the process
pub entries_fit : (r : Tables) (s : State) (pid : ℕ) → pid < length s.processes.items → MachineFits r (machine_of s) → StackFits r (thread s pid).frame (thread s pid).stack
entries_fit r s pid lt h = (h.each pid (within s pid lt)).stack

pub rest_stands : (r : Tables) (s : State) (pid at : ℕ) (es : List Entry) → pid < length s.processes.items → MachineFits r (machine_of s) → (thread s pid).stack ≡ Rest at ∷ es → EntryFits r (thread s pid).frame at (length es)
rest_stands r s pid at es lt h top =
    let fits : StackFits r (thread s pid).frame (Rest at ∷ es) = subst (StackFits r (thread s pid).frame) top (entries_fit r s pid lt h) in
    fits.0

pub successor_stands : (r : Tables) (s : State) (pid at : ℕ) (z last : ℤ) (es : List Entry) → pid < length s.processes.items → MachineFits r (machine_of s) → (thread s pid).stack ≡ Successor at z last ∷ es → EntryFits r (thread s pid).frame at (length es)
successor_stands r s pid at z last es lt h top =
    let fits : StackFits r (thread s pid).frame (Successor at z last ∷ es) = subst (StackFits r (thread s pid).frame) top (entries_fit r s pid lt h) in
    fits.0

-- room for a list inside the item
pub has_room : (r : Tables) (s : State) (pid at : ℕ) (e : Entry) (es : List Entry) (list : Option ℕ) → pid < length s.processes.items → IsReserved r s → (thread s pid).stack ≡ e ∷ es → EntryFits r (thread s pid).frame at (length es) → InnerFits r (thread s pid).frame.routine (item_at r at).need list → HasRoom s pid list
has_room r s pid at e es None lt reserved top stands i = tt
has_room r s pid at e es (Some first) lt reserved top stands i = λ d.
    (let some : 1 ≤ (item_at r at).need = i.0 in
    let long : length (thread s pid).stack ≡ length (e ∷ es) = ap length top in
    let one : length (e ∷ es) ≡ length es + 1 = omega arith in
    omega (arith, stack_length s pid d lt, long, one, some, stands.deep, reserved.stacks pid d lt))

-- room for a call
pub call_room : (r : Tables) (s : State) (pid at : ℕ) (es : List Entry) (routine : ℕ) (arguments : List Argument) → pid < length s.processes.items → IsStateOf r s → (thread s pid).stack ≡ Rest at ∷ es → CallFits r (thread s pid).frame.routine (item_at r at).need routine arguments → HasCallRoom r s.processes.items pid routine
call_room r s pid at es routine arguments lt own top c =
    let t = own.fits.each pid (within s pid lt) in
    let f = frame_fits r (thread s pid).frame (thread s pid).stack t.stack in
    let stands = rest_stands r s pid at es lt own.fits top in
    let callee = own.sound.routines routine c.routine in
    let two : 2 ≤ (item_at r at).need = c.deep in
    let long : length (thread s pid).stack ≡ length (Rest at ∷ es) = ap length top in
    let one : length (Rest at ∷ es) ≡ length es + 1 = omega arith in
    record {
      two = λ d. omega (arith, stack_length s pid d lt, long, one, two, stands.deep, own.reserved.stacks pid d lt);
      cells = λ d. omega (arith, cells_length s pid d lt, t.cells, c.cells, f.cells, callee.cells, own.reserved.cells pid d lt);
      references = λ d. omega (arith, references_length s pid d lt, t.references, c.references, f.references, callee.references, own.reserved.references pid d lt);
    }
