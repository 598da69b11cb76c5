-- Nobody but a process itself makes it unready, and it is ready after a local step.
use Rattle.std.proofs.Common.{◌≡◌, ◌≢◌, ℕ, ◌<◌, ◌≤◌, ◌==◌, ◌∙◌, ◌⊎◌, inl, inr, Bool, true, false, ◌&&◌, if◌then◌else◌, List, [], ◌∷◌, length, get_or, set, slice_set, Option, Some, None, Ok, Err, ap, sym, refl, subst}
use Rattle.cp_at_once_laws.proofs.Words.{Program, Outcome, settled, step_of, Move, stays, enters, leaves, delays, continues, starts, shows, ends, Doing, at_set}
use Rattle.cp_meaning.specs.State.{Environment, component_at, Call, Item, Status, unstarted, ready, at_gate, delayed, ended, Process, process_at, no_process, has_entry, Gates, first_gates, any_gates, Signals, return_signals, continue_signals, wait_signals, Shown, State}
use Rattle.cp_meaning.specs.Kernel.{output_room, line_of, moved_to, first_in, one_in, let_in, is_anybody_inside, entering, is_delayed_in, is_monitor, waits_inside, continuing, at_gate_last, notifying, yielding, going_on, signalling, process_of, starting_as, starting, displaying, kernel_step}
use Rattle.cp_at_once_laws.proofs.pairs.Merging.{done_of}

abbrev status_of : List Process → ℕ → Status
status_of ps n = (process_at ps n).status

-- where a process is replaced by a ready one, who was ready is ready
replaced_ready : (ps : List Process) (k : ℕ) (z : Process) (n : ℕ) → z.status ≡ ready → status_of ps n ≡ ready → status_of (slice_set ps k z) n ≡ ready
replaced_ready ps k z n h r = go (at_set ps k n z no_process)
  where
    go : ((n ≡ k) × (k < length ps) × (get_or (set ps k z) n no_process ≡ z)) ⊎ ((n ≡ k → length ps ≤ k) × (get_or (set ps k z) n no_process ≡ get_or ps n no_process)) → status_of (slice_set ps k z) n ≡ ready
    go (inl e) = ap (λ p. p.status) e.2 ∙ h
    go (inr e) = ap (λ p. p.status) e.1 ∙ r

other_ready : (ps : List Process) (k : ℕ) (z : Process) (n : ℕ) → n ≢ k → status_of ps n ≡ ready → status_of (slice_set ps k z) n ≡ ready
other_ready ps k z n ne r = go (at_set ps k n z no_process)
  where
    go : ((n ≡ k) × (k < length ps) × (get_or (set ps k z) n no_process ≡ z)) ⊎ ((n ≡ k → length ps ≤ k) × (get_or (set ps k z) n no_process ≡ get_or ps n no_process)) → status_of (slice_set ps k z) n ≡ ready
    go (inl e) = absurd (ne e.0)
    go (inr e) = ap (λ p. p.status) e.1 ∙ r

-- n is ready in the second state if it is in the first
abbrev Stays : ℕ → State → State → Type 0
Stays n s t = status_of s.processes n ≡ ready → status_of t.processes n ≡ ready

if_stays : (n : ℕ) (b : Bool) (s t u : State) → Stays n s t → Stays n s u → Stays n s (if b then t else u)
if_stays n true s t u h k = h
if_stays n false s t u h k = k

first_stays : (n : ℕ) (line : List ℕ) (s : State) (m : ℕ) → Stays n s (first_in line s m)
first_stays n [] s m r = r
first_stays n (q ∷ line) s m r = replaced_ready s.processes q _ n refl r

one_stays : (n : ℕ) (line : List ℕ) (s : State) (m : ℕ) → Stays n s (one_in line s m)
one_stays n (q ∷ []) s m r = replaced_ready s.processes q _ n refl r
one_stays n _ s m r = r

in_stays : (n : ℕ) (g : Gates) (s : State) (m : ℕ) → Stays n s (let_in g s m)
in_stays n first_gates s m = first_stays n (line_of s m) s m
in_stays n any_gates s m = one_stays n (line_of s m) s m

continue_stays : (n : ℕ) (s : State) (m : ℕ) (o : Option ℕ) → Stays n s (continuing s m o)
continue_stays n s m None = in_stays n s.discipline.gates s m
continue_stays n s m (Some q) = if_stays n (is_delayed_in m (process_at s.processes q).status) s _ _ (replaced_ready s.processes q _ n refl) (in_stays n s.discipline.gates s m)

-- who waits in a queue is not ready
waits_unready : (a b : Bool) (m : ℕ) (status : Status) → (a && b && is_delayed_in m status) ≡ true → status ≡ ready → ⊥
waits_unready a b m status e h = go a b (subst (λ u. (a && b && is_delayed_in m u) ≡ true) h e)
  where
    go : (a b : Bool) → (a && b && false) ≡ true → ⊥
    go true true e = cc
    go true false e = cc
    go false b e = cc

notify_stays : (n : ℕ) (s : State) (m : ℕ) (o : Option ℕ) → Stays n s (notifying s m o)
notify_stays n s m None r = r
notify_stays n s m (Some q) r = go (waits_inside s m q) refl
  where
    unready : waits_inside s m q ≡ true → n ≢ q
    unready e same = waits_unready (is_monitor (component_at s.components m).kind) (has_entry m (process_at s.processes q).calls) m (status_of s.processes q) e (ap (status_of s.processes) (sym same) ∙ r)

    go : (b : Bool) → waits_inside s m q ≡ b → status_of (if b then at_gate_last s m q else s).processes n ≡ ready
    go true e = other_ready s.processes q _ n (unready e) r
    go false e = r

module _ (n : ℕ) (p : Program) (s : State) (pid : ℕ) (ne : n ≢ pid) (d : Doing) where
  moved_stays : (status : Status) → Stays n s (moved_to status s pid d)
  moved_stays status = other_ready s.processes pid _ n ne

  enter_stays : (b : Bool) (m : ℕ) → Stays n s (entering b s pid m d)
  enter_stays true m = moved_stays (at_gate m)
  enter_stays false m = moved_stays ready

  as_stays : (r c : ℕ) (e : Environment) (status : Status) → Stays n s (starting_as p s pid d r status c e).state
  as_stays r c e unstarted h = replaced_ready (moved_to ready s pid d).processes r _ n refl (moved_stays ready h)
  as_stays r c e _ h = h

  start_stays : (o : Option ℕ) (c : ℕ) (e : Environment) → Stays n s (starting p s pid d o c e).state
  start_stays None c e = moved_stays ready
  start_stays (Some r) c e = as_stays r c e (process_at (moved_to ready s pid d).processes r).status

  show_stays : (b : Bool) (x : Shown) → Stays n s (displaying b s pid d x).state
  show_stays true x h = h
  show_stays false x h = moved_stays ready h

  yield_stays : (d : Doing) (m : ℕ) (o : Option ℕ) → Stays n s (yielding s pid m d o)
  yield_stays d m None = other_ready s.processes pid _ n ne
  yield_stays d m (Some q) = if_stays n (waits_inside s m q) s _ _ (λ r. replaced_ready (moved_to (at_gate m) s pid d).processes q _ n refl (other_ready s.processes pid _ n ne r)) (other_ready s.processes pid _ n ne)

  signal_stays : (w : Signals) (m : ℕ) (o : Option ℕ) (going : List Call) (items : List Item) → Stays n s (signalling w s pid d m o going items)
  signal_stays return_signals m o going items r = continue_stays n (moved_to ready s pid d) m o (moved_stays ready r)
  signal_stays continue_signals m o going items r = notify_stays n (moved_to ready s pid (going_on d going items)) m o (other_ready s.processes pid _ n ne r)
  signal_stays wait_signals m o going items r = yield_stays (going_on d going items) m o r

  kernel_stays : (move : Move) → Stays n s (kernel_step p s pid d move).state
  kernel_stays stays h = moved_stays ready h
  kernel_stays (enters m) h = enter_stays (is_anybody_inside m s.processes) m h
  kernel_stays (leaves m) h = in_stays n s.discipline.gates (moved_to ready s pid d) m (moved_stays ready h)
  kernel_stays (delays m) h = in_stays n s.discipline.gates (moved_to (delayed m) s pid d) m (moved_stays (delayed m) h)
  kernel_stays (continues m o going items) h = signal_stays s.discipline.signals m o going items h
  kernel_stays (starts c e) h = start_stays (process_of c (moved_to ready s pid d).processes) c e h
  kernel_stays (shows x) h = show_stays (length s.output == output_room) x h
  kernel_stays ends h = moved_stays ended h

settled_stays : (n : ℕ) (p : Program) (s : State) (pid : ℕ) → n ≢ pid → (o : Outcome Doing) → Stays n s (settled p s pid o).state
settled_stays n p s pid ne (Ok d) h = kernel_stays n p s pid ne d d.move h
settled_stays n p s pid ne (Err e) h = h

pub step_stays : (n : ℕ) (p : Program) (s : State) (pid : ℕ) → n ≢ pid → (process_at s.processes n).status ≡ ready → (process_at (step_of p s pid).state.processes n).status ≡ ready
step_stays n p s pid ne h = settled_stays n p s pid ne (done_of (λ i. true) (λ i. true) (λ i. true) s p s pid) h
