-- What the frames of a process may name stays there.
use Rattle.std.proofs.Common.{◌≡◌, ℕ, zero, suc, ◌+◌, ◌^◌, ◌<◌, ◌≤◌, ◌∙◌, List, [], ◌∷◌, length, Option, Some, None, ap, sym, refl, subst, arith, get_or-set_other}
use Rattle.cp_machine.proofs.Words.{ℤ, pos, slice_set, slice_index_or, length-set, Tables, routine_at, IsSound, Argument, Bound, Address, Permanent, Local}
use Rattle.cp_machine.proofs.Words.{Frame, SetValue, Entry, Rest, Successor, Return, InitEnd, Status, Ready, AtGate, Delayed, First, Any, StackFits, with_memory}
use Rattle.cp_machine.proofs.Words.{set_written, admit_waiting, admit_at, IsBehind, FrameReaches, StackReaches, ThreadReaches, rest_of, from_end, put_value, put_in_frame}
use Rattle.cp_machine.proofs.Words.{bind_frame, bind_component, Memory, cell_at, address_onward, nowhere, onward, put_number, put_copy, reference_at}
use Rattle.cp_store.specs.declared.argument.Bound.TheVariants.{Scalar, Set, Copy, Reference, Component}
use Rattle.cp_store.specs.Sets.{put_set}
use Rattle.cp_machine.proofs.ListLemmas.{each_set}
use Rattle.cp_machine.specs.declared.discipline.Gates.{Gates}
use Rattle.cp_machine.specs.Kernel.{let_in, let_in_by, first_in, one_in, goes_in, enter_caller, enter_by, delay_caller, resume, go_on_inside, waits_in, signal_by, signal}
use Rattle.cp_machine.specs.declared.discipline.Signals.{Signals}
use Rattle.cp_machine.specs.declared.discipline.Signals.TheVariants as signals
use Rattle.cp_machine.specs.Machine.{Machine, Thread, thread_at, no_thread, monitor_at, with_permanents, with_thread, with_status, with_stack}

abbrev pub Framed : Tables → Machine → Type 0
Framed r m = (q : ℕ) → q < length m.threads → ThreadReaches r (thread_at m.threads q)

-- ---- control stacks

pub rest_reaches : (r : Tables) (references : List Address) (f : Frame) (list : Option ℕ) (es : List Entry) → StackReaches r references f es → StackReaches r references f (rest_of list es)
rest_reaches r references f None es h = h
rest_reaches r references f (Some at) es h = h

pub end_reaches : (r : Tables) (references : List Address) (f : Frame) (es : List Entry) → StackReaches r references f es → StackReaches r references f (from_end es)
end_reaches r references f (Rest at ∷ es) h = end_reaches r references f es h
end_reaches r references f (Successor at value last ∷ es) h = end_reaches r references f es h
end_reaches r references f _ h = h

-- ---- other references, which are the same below a number

abbrev pub Agree : ℕ → (old new : List Address) → Type 0
Agree n old new = (k : ℕ) → k < n → reference_at old k ≡ reference_at new k

frame_agrees : (r : Tables) (old new : List Address) (n : ℕ) (f : Frame) → f.references + length (routine_at r f.routine).extents ≤ n → Agree n old new → FrameReaches r old f → FrameReaches r new f
frame_agrees r old new n f within agree h =
    record {
      component = h.component;
      own = h.own;
      behind = λ k lt. subst (λ a. IsBehind r f a (slice_index_or (routine_at r f.routine).extents k 0)) (agree (f.references + k) (omega (arith, lt, within))) (h.behind k lt);
    }

pub stack_agrees : (r : Tables) (old new : List Address) (n : ℕ) (f : Frame) (es : List Entry) → IsSound r → StackFits r f es → f.references + (routine_at r f.routine).references ≤ n → Agree n old new → StackReaches r old f es → StackReaches r new f es
stack_agrees r old new n f [] sound fits within agree h =
    frame_agrees r old new n f (omega (arith, (sound.routines f.routine fits.routine).extents, within)) agree h
stack_agrees r old new n f (Rest at ∷ es) sound fits within agree h = stack_agrees r old new n f es sound fits.1 within agree h
stack_agrees r old new n f (Successor at value last ∷ es) sound fits within agree h = stack_agrees r old new n f es sound fits.1 within agree h
stack_agrees r old new n f (Return caller slot monitor ∷ es) sound fits within agree h =
    let follows = fits.0 in (
      frame_agrees r old new n f (omega (arith, (sound.routines f.routine follows.fits.routine).extents, within)) agree h.0,
      h.1,
      stack_agrees r old new n caller es sound fits.3 (omega (arith, follows.references, within)) agree h.2,
    )
stack_agrees r old new n f (InitEnd caller component ∷ es) sound fits within agree h =
    let follows = fits.0 in (
      frame_agrees r old new n f (omega (arith, (sound.routines f.routine follows.fits.routine).extents, within)) agree h.0,
      h.1,
      stack_agrees r old new n caller es sound fits.2 (omega (arith, follows.references, within)) agree h.2,
    )

-- ---- parts of a machine

-- a thread is replaced by one that reaches its cells, whatever the replaced one did
pub thread_framed : (r : Tables) (m : Machine) (pid : ℕ) (x : Thread) → (pid < length m.threads → ThreadReaches r x) → ((q : ℕ) → q < length m.threads → (q ≡ pid → ⊥) → ThreadReaches r (thread_at m.threads q)) → Framed r (with_thread m pid x)
thread_framed r m pid x new others q lt = each_set (λ k. ThreadReaches r) m.threads pid x no_thread new others q (let long = length-set m.threads pid x in omega (arith, lt, long))

pub status_framed : (r : Tables) (m : Machine) (pid : ℕ) (status : Status) → Framed r m → Framed r (with_status m pid status)
status_framed r m pid status h = thread_framed r m pid _ (λ lt. h pid lt) (λ q lt ne. h q lt)

pub stack_framed : (r : Tables) (m : Machine) (pid : ℕ) (stack : List Entry) → (pid < length m.threads → StackReaches r (thread_at m.threads pid).references (thread_at m.threads pid).frame stack) → Framed r m → Framed r (with_stack m pid stack)
stack_framed r m pid stack new h = thread_framed r m pid _ new (λ q lt ne. h q lt)

-- what is written keeps the references
pub memory_framed : (r : Tables) (m : Machine) (pid : ℕ) (x : Memory) → x.references ≡ (thread_at m.threads pid).references → Framed r m → Framed r (with_memory m pid x)
memory_framed r m pid x same h =
    thread_framed r (with_permanents m x.permanents) pid _ (λ lt. subst (λ l. StackReaches r l (thread_at m.threads pid).frame (thread_at m.threads pid).stack) (sym same) (h pid lt)) (λ q lt ne. h q lt)

-- ---- the kernel

goes_in_framed : (r : Tables) (m : Machine) (monitor pid : ℕ) (line : List ℕ) → Framed r m → Framed r (goes_in m monitor pid line)
goes_in_framed r m monitor pid line h = status_framed r m pid Ready h

first_in_framed : (r : Tables) (m : Machine) (monitor : ℕ) (line : List ℕ) → Framed r m → Framed r (first_in m monitor line)
first_in_framed r m monitor [] h = h
first_in_framed r m monitor (q ∷ line) h = goes_in_framed r m monitor q line h

one_in_framed : (r : Tables) (m : Machine) (monitor : ℕ) (line : List ℕ) → Framed r m → Framed r (one_in m monitor line)
one_in_framed r m monitor (q ∷ []) h = goes_in_framed r m monitor q [] h
one_in_framed r m monitor _ h = h

let_in_by_framed : (r : Tables) (gates : Gates) (m : Machine) (monitor : ℕ) (line : List ℕ) → Framed r m → Framed r (let_in_by gates m monitor line)
let_in_by_framed r First m monitor line h = first_in_framed r m monitor line h
let_in_by_framed r Any m monitor line h = one_in_framed r m monitor line h

pub let_in_framed : (r : Tables) (m : Machine) (monitor : ℕ) → Framed r m → Framed r (let_in m monitor)
let_in_framed r m monitor h = let_in_by_framed r m.discipline.gates m monitor (monitor_at m monitor).line h

entered_by_framed : (r : Tables) (holder : Option ℕ) (m : Machine) (pid monitor : ℕ) → Framed r m → Framed r (enter_by holder m pid monitor)
entered_by_framed r None m pid monitor h = h
entered_by_framed r (Some q) m pid monitor h = status_framed r m pid (AtGate monitor) h

pub entered_framed : (r : Tables) (m : Machine) (pid monitor : ℕ) → Framed r m → Framed r (enter_caller m pid monitor)
entered_framed r m pid monitor h = entered_by_framed r (monitor_at m monitor).holder m pid monitor h

pub delayed_framed : (r : Tables) (m : Machine) (pid monitor cell : ℕ) → Framed r m → Framed r (delay_caller m pid monitor cell)
delayed_framed r m pid monitor cell h = let_in_framed r _ monitor (status_framed r (record m { permanents = slice_set m.permanents cell (pos 1) }) pid (Delayed cell) h)

resumed_framed : (r : Tables) (waiter : Option ℕ) (m : Machine) (monitor : ℕ) → Framed r m → Framed r (go_on_inside waiter m monitor)
resumed_framed r None m monitor h = let_in_framed r m monitor h
resumed_framed r (Some q) m monitor h = goes_in_framed r m monitor q (monitor_at m monitor).line h

pub continued_framed : (r : Tables) (m : Machine) (monitor cell : ℕ) → Framed r m → Framed r (resume m monitor cell)
continued_framed r m monitor cell h = resumed_framed r (waits_in m cell) (record m { permanents = slice_set m.permanents cell (pos 0) }) monitor h

admitted_at_framed : (r : Tables) (pending : Option ℕ) (m : Machine) (pid : ℕ) → Framed r m → Framed r (admit_at pending m pid)
admitted_at_framed r None m pid h = h
admitted_at_framed r (Some monitor) m pid h = status_framed r m pid Ready h

pub admitted_framed : (r : Tables) (m : Machine) (pid : ℕ) → Framed r m → Framed r (admit_waiting m pid)
admitted_framed r m pid h = admitted_at_framed r m.pending m pid h

-- ---- what is written keeps the references

pub names_number : (x : Memory) (at : Address) (v : ℤ) → (put_number x at v).references ≡ x.references
names_number x (Permanent n) v = refl
names_number x (Local n) v = refl

pub names_copy : (x : Memory) (to from : Address) (n : ℕ) → (put_copy x to from n).references ≡ x.references
names_copy x to from zero = refl
names_copy x to from (suc n) =
    let y = put_copy x to from n in
    names_number y (address_onward to n) (cell_at y (address_onward from n)) ∙ names_copy x to from n

names_same : (x : Memory) (at : Address) (s : SetValue) → (put_set x at s).references ≡ x.references
names_same x (Permanent n) s = refl
names_same x (Local n) s = refl

pub names_set : (x : Memory) (at : Address) (s : SetValue) → (set_written x at s).references ≡ x.references
unfolding set_written
names_set x at s = names_same x at s

names_value : (x : Memory) (at : Address) (b : Bound) → (put_value x at b).references ≡ x.references
names_value x at (Scalar z) = names_number x at z
names_value x at (Set s) = names_same x at s
names_value x at (Copy from n) = names_copy x at from n
names_value x at _ = refl

pub names_component : (x : Memory) (base : ℕ) (arguments : List Argument) (bounds : List Bound) → (bind_component x base arguments bounds).references ≡ x.references
names_component x base [] bs = refl
names_component x base (a ∷ arguments) [] = refl
names_component x base (a ∷ arguments) (b ∷ bs) =
    names_component (put_value x (Permanent (onward base a.slot)) b) base arguments bs ∙ names_value x (Permanent (onward base a.slot)) b

-- parameters of a frame are bound at or above its first reference
names_in_frame : (x : Memory) (g : Frame) (slot : ℕ) (b : Bound) → g.references < 2 ^ 64 → Agree g.references x.references (put_in_frame x g slot b).references
names_in_frame x g slot (Scalar z) few k lt = ap (λ l. reference_at l k) (sym (names_value x (Local (onward g.base slot)) (Scalar z)))
names_in_frame x g slot (Set s) few k lt = ap (λ l. reference_at l k) (sym (names_value x (Local (onward g.base slot)) (Set s)))
names_in_frame x g slot (Copy from n) few k lt = ap (λ l. reference_at l k) (sym (names_value x (Local (onward g.base slot)) (Copy from n)))
names_in_frame x g slot (Component number) few k lt = refl
names_in_frame x g slot (Reference place) few k lt =
    sym (get_or-set_other x.references (onward g.references slot) k place nowhere (λ same. omega (arith, same, lt, few)))

pub names_below : (x : Memory) (g : Frame) (arguments : List Argument) (bounds : List Bound) → g.references < 2 ^ 64 → Agree g.references x.references (bind_frame x g arguments bounds).references
names_below x g [] bs few k lt = refl
names_below x g (a ∷ arguments) [] few k lt = refl
names_below x g (a ∷ arguments) (b ∷ bs) few k lt =
    names_in_frame x g a.slot b few k lt ∙ names_below (put_in_frame x g a.slot b) g arguments bs few k lt

signalled_by_framed : (r : Tables) (signals : Signals) (waiter : Option ℕ) (m : Machine) (pid monitor : ℕ) → Framed r m → Framed r (signal_by signals waiter m pid monitor)
signalled_by_framed r signals None m pid monitor h = h
signalled_by_framed r signals.Wait (Some q) m pid monitor h = goes_in_framed r (with_status m pid (AtGate monitor)) monitor q (pid ∷ (monitor_at m monitor).line) (status_framed r m pid (AtGate monitor) h)
signalled_by_framed r signals.Return (Some q) m pid monitor h = status_framed r m q (AtGate monitor) h
signalled_by_framed r signals.Continue (Some q) m pid monitor h = status_framed r m q (AtGate monitor) h

pub signalled_framed : (r : Tables) (m : Machine) (pid monitor cell : ℕ) → Framed r m → Framed r (signal m pid monitor cell)
signalled_framed r m pid monitor cell h = signalled_by_framed r m.discipline.signals (waits_in m cell) (record m { permanents = slice_set m.permanents cell (pos 0) }) pid monitor h
