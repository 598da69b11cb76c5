-- A machine that lies over another one: what of it is read and changed in own places.
use Rattle.std.proofs.Common.{◌≡◌, ◌∙◌, ℕ, zero, suc, Bool, true, List, [], ◌∷◌, Option, ap, refl, sym, if◌then◌else◌}
use Rattle.std.specs.Prelude.{ℤ, pos, slice_index_or, slice_set}
use Rattle.cp_slots.specs.Tables.{Tables, routine_at}
use Rattle.cp_slots.specs.declared.place.Argument.{Argument}
use Rattle.cp_store.specs.declared.argument.Bound.{Bound}
use Rattle.cp_store.specs.declared.memory.Address.{Address}
use Rattle.cp_store.specs.declared.memory.Frame.{Frame}
use Rattle.cp_store.specs.declared.set.SetValue.{SetValue}
use Rattle.cp_store.specs.Arguments.{bindings_after, bind_component, bind_frame}
use Rattle.cp_store.specs.Memory.{Memory, put_copy, put_number}
use Rattle.cp_machine.specs.declared.process.Entry.{Entry}
use Rattle.cp_machine.specs.declared.process.Status.{Status}
use Rattle.cp_machine.specs.declared.state.Phase.{Phase}
use Rattle.cp_machine.specs.declared.state.Phase.TheVariants.{Uninitialised}
use Rattle.cp_machine.specs.Calls.{frame_behind, give_up_frame, leave_frame, open_frame}
use Rattle.cp_machine.specs.Machine.{Machine, Thread, Monitor, thread_at, monitor_at, no_monitor, phase_at, with_bindings, with_thread, with_stack, with_status, with_monitor, with_phase, with_permanents}
use Rattle.cp_machine.specs.Memory.{set_written, memory_at, with_memory, number_put, set_put, cells_put, frame_bound, add_frame, parameters_bound}
use Rattle.cp_machine.specs.Stack.{rest_of}
use Rattle.cp_effect_laws.specs.Footprint.{Footprint, laid_over, thread_by, threads_by}
use Rattle.cp_effect_laws.proofs.Overlays.{own_read, own_set}
use Rattle.cp_effect_laws.proofs.Writing.{AllInComponent, AllInFrame, Spot, bindings_over, component_over, copy_over, frame_over, number_over, over, set_over}

-- ---- threads

pub thread_read : (s b : ℕ → Bool) (ts us : List Thread) (k : ℕ) → s k ≡ true → b k ≡ true → thread_at (threads_by s b ts us) k ≡ thread_at ts k
thread_read s b [] us k h l = refl
thread_read s b (t ∷ ts) [] k h l = refl
thread_read s b (t ∷ ts) (u ∷ us) zero h l = ap (λ c. thread_by c (b 0) t u) h ∙ ap (λ c. thread_by true c t u) l
thread_read s b (t ∷ ts) (u ∷ us) (suc k) h l = thread_read (λ j. s (suc j)) (λ j. b (suc j)) ts us k h l

pub thread_set : (s b : ℕ → Bool) (ts us : List Thread) (k : ℕ) (v : Thread) → s k ≡ true → b k ≡ true → slice_set (threads_by s b ts us) k v ≡ threads_by s b (slice_set ts k v) us
thread_set s b [] us k v h l = refl
thread_set s b (t ∷ ts) [] zero v h l = refl
thread_set s b (t ∷ ts) [] (suc k) v h l = refl
thread_set s b (t ∷ ts) (u ∷ us) zero v h l = ap (λ x. x ∷ threads_by (λ j. s (suc j)) (λ j. b (suc j)) ts us) (sym (ap (λ c. thread_by c (b 0) v u) h ∙ ap (λ c. thread_by true c v u) l))
thread_set s b (t ∷ ts) (u ∷ us) (suc k) v h l = ap (λ x. thread_by (s 0) (b 0) t u ∷ x) (thread_set (λ j. s (suc j)) (λ j. b (suc j)) ts us k v h l)

pub status_read : (s b : ℕ → Bool) (ts us : List Thread) (k : ℕ) → s k ≡ true → (thread_at (threads_by s b ts us) k).status ≡ (thread_at ts k).status
status_read s b [] us k h = refl
status_read s b (t ∷ ts) [] k h = refl
status_read s b (t ∷ ts) (u ∷ us) zero h = ap (λ c. if c then t.status else u.status) h
status_read s b (t ∷ ts) (u ∷ us) (suc k) h = status_read (λ j. s (suc j)) (λ j. b (suc j)) ts us k h

pub status_set : (s b : ℕ → Bool) (ts us : List Thread) (k : ℕ) (v : Status) → s k ≡ true
    → slice_set (threads_by s b ts us) k (record (thread_at (threads_by s b ts us) k) { status = v }) ≡ threads_by s b (slice_set ts k (record (thread_at ts k) { status = v })) us
status_set s b [] us k v h = refl
status_set s b (t ∷ ts) [] zero v h = refl
status_set s b (t ∷ ts) [] (suc k) v h = refl
status_set s b (t ∷ ts) (u ∷ us) zero v h = ap (λ c. record (thread_by (s 0) (b 0) t u) { status = if c then v else u.status } ∷ threads_by (λ j. s (suc j)) (λ j. b (suc j)) ts us) (sym h)
status_set s b (t ∷ ts) (u ∷ us) (suc k) v h = ap (λ x. thread_by (s 0) (b 0) t u ∷ x) (status_set (λ j. s (suc j)) (λ j. b (suc j)) ts us k v h)

-- ---- machines

module _ (f : Footprint) (n : Machine) where
  abbrev laid : Machine → Machine
  laid m = laid_over f m n

  abbrev with_threads : Machine → List Thread → Machine
  with_threads m ts = record m { threads = ts }

  pub status_laid : (m : Machine) (q : ℕ) (v : Status) → f.statuses q ≡ true → with_status (laid m) q v ≡ laid (with_status m q v)
  status_laid m q v h = ap (with_threads (laid m)) (status_set f.statuses f.bodies m.threads n.threads q v h)

  pub monitor_read : (m : Machine) (k : ℕ) → f.monitors k ≡ true → monitor_at (laid m) k ≡ monitor_at m k
  monitor_read m k h = own_read f.monitors m.monitors n.monitors k no_monitor h

  pub monitor_laid : (m : Machine) (k : ℕ) (x : Monitor) → f.monitors k ≡ true → with_monitor (laid m) k x ≡ laid (with_monitor m k x)
  monitor_laid m k x h = ap (λ l. record (laid m) { monitors = l }) (own_set f.monitors m.monitors n.monitors k x h)

  pub phase_read : (m : Machine) (k : ℕ) → f.components k ≡ true → phase_at (laid m) k ≡ phase_at m k
  phase_read m k h = own_read f.components m.phases n.phases k Uninitialised h

  pub phase_laid : (m : Machine) (k : ℕ) (x : Phase) → f.components k ≡ true → with_phase (laid m) k x ≡ laid (with_phase m k x)
  phase_laid m k x h = ap (λ l. record (laid m) { phases = l }) (own_set f.components m.phases n.phases k x h)

  pub cell_laid : (m : Machine) (k : ℕ) (v : ℤ) → f.cells k ≡ true → with_permanents (laid m) (slice_set (laid m).permanents k v) ≡ laid (with_permanents m (slice_set m.permanents k v))
  cell_laid m k v h = ap (λ l. record (laid m) { permanents = l }) (own_set f.cells m.permanents n.permanents k v h)

  pub cell_read : (m : Machine) (k : ℕ) → f.cells k ≡ true → slice_index_or (laid m).permanents k (pos 0) ≡ slice_index_or m.permanents k (pos 0)
  cell_read m k h = own_read f.cells m.permanents n.permanents k (pos 0) h

  -- of the process that takes the step
  module _ (p : ℕ) (status : f.statuses p ≡ true) (body : f.bodies p ≡ true) where
    pub thread_laid : (m : Machine) → thread_at (laid m).threads p ≡ thread_at m.threads p
    thread_laid m = thread_read f.statuses f.bodies m.threads n.threads p status body

    pub with_thread_laid : (m : Machine) (t : Thread) → with_thread (laid m) p t ≡ laid (with_thread m p t)
    with_thread_laid m t = ap (with_threads (laid m)) (thread_set f.statuses f.bodies m.threads n.threads p t status body)

    -- a change of the thread by the thread
    pub changed_laid : (m : Machine) (go : Thread → Thread) → with_thread (laid m) p (go (thread_at (laid m).threads p)) ≡ laid (with_thread m p (go (thread_at m.threads p)))
    changed_laid m go = ap (λ t. with_thread (laid m) p (go t)) (thread_laid m) ∙ with_thread_laid m (go (thread_at m.threads p))

    pub stack_laid : (m : Machine) (stack : List Entry) → with_stack (laid m) p stack ≡ laid (with_stack m p stack)
    stack_laid m stack = changed_laid m (λ t. record t { stack = stack })

    abbrev pub memory_of_thread : Machine → Thread → Memory
    memory_of_thread m t = record { permanents = m.permanents; cells = t.cells; references = t.references }

    pub memory_laid : (m : Machine) → memory_at (laid m) p ≡ over f.cells n.permanents (memory_at m p)
    memory_laid m = ap (memory_of_thread (laid m)) (thread_laid m)

    pub with_memory_laid : (m : Machine) (x : Memory) → with_memory (laid m) p (over f.cells n.permanents x) ≡ laid (with_memory m p x)
    with_memory_laid m x = changed_laid (record m { permanents = x.permanents }) (λ t. record t { cells = x.cells; references = x.references })

    -- the memory becomes what the memory and the frame say
    pub becomes_laid : (m : Machine) (go : Memory → Frame → Memory)
        → go (over f.cells n.permanents (memory_at m p)) (thread_at m.threads p).frame ≡ over f.cells n.permanents (go (memory_at m p) (thread_at m.threads p).frame)
        → with_memory (laid m) p (go (memory_at (laid m) p) (thread_at (laid m).threads p).frame) ≡ laid (with_memory m p (go (memory_at m p) (thread_at m.threads p).frame))
    becomes_laid m go e =
        ap (λ t. with_memory (laid m) p (go (memory_of_thread (laid m) t) t.frame)) (thread_laid m)
        ∙ ap (λ x. with_memory (laid m) p x) e
        ∙ with_memory_laid m (go (memory_at m p) (thread_at m.threads p).frame)

    pub number_laid : (m : Machine) (at : Address) (v : ℤ) → Spot f.cells at 1 → number_put (laid m) p at v ≡ laid (number_put m p at v)
    number_laid m at v h = becomes_laid m (λ x g. put_number x at v) (number_over f.cells n.permanents (memory_at m p) at v h)

    pub set_laid : (m : Machine) (at : Address) (v : SetValue) → Spot f.cells at 8 → set_put (laid m) p at v ≡ laid (set_put m p at v)
    unfolding set_written
    set_laid m at v h = becomes_laid m (λ x g. set_written x at v) (set_over f.cells n.permanents (memory_at m p) at v h)

    pub cells_laid : (m : Machine) (to from : Address) (size : ℕ) → Spot f.cells to size → Spot f.cells from size → cells_put (laid m) p to from size ≡ laid (cells_put m p to from size)
    cells_laid m to from size h k = becomes_laid m (λ x g. put_copy x to from size) (copy_over f.cells n.permanents (memory_at m p) to from size h k)

    pub frame_laid : (m : Machine) (xs : List Argument) (bs : List Bound) → AllInFrame f.cells (thread_at m.threads p).frame xs bs → frame_bound (laid m) p xs bs ≡ laid (frame_bound m p xs bs)
    frame_laid m xs bs h = becomes_laid m (λ x g. bind_frame x g xs bs) (frame_over f.cells n.permanents (memory_at m p) (thread_at m.threads p).frame xs bs h)

    pub parameters_laid : (m : Machine) (base : ℕ) (xs : List Argument) (bs : List Bound) → AllInComponent f.cells base xs bs → parameters_bound (laid m) p base xs bs ≡ laid (parameters_bound m p base xs bs)
    parameters_laid m base xs bs h =
        ap (λ k. with_bindings k (bindings_after (laid m).bindings base xs bs)) (becomes_laid m (λ x g. bind_component x base xs bs) (component_over f.cells n.permanents (memory_at m p) base xs bs h))
        ∙ ap (λ l. with_bindings (laid (with_memory m p (bind_component (memory_at m p) base xs bs))) l) (bindings_over f.cells m.bindings n.bindings base xs bs h)

    pub opened_laid : (r : Tables) (m : Machine) (routine component : ℕ) (end : Entry) (rest : List Entry) → open_frame r (laid m) p routine component end rest ≡ laid (open_frame r m p routine component end rest)
    opened_laid r m routine component end rest =
        changed_laid m (λ t. add_frame (record t { frame = frame_behind r t routine component; stack = rest_of (routine_at r routine).body (end ∷ rest) }) (routine_at r routine))

    pub left_laid : (r : Tables) (m : Machine) (caller : Frame) (result : Option ℕ) (es : List Entry) → leave_frame r (laid m) p caller result es ≡ laid (leave_frame r m p caller result es)
    left_laid r m caller result es = changed_laid m (λ t. give_up_frame r t caller result es)
