-- What a step changes: which processes, and how.
use Rattle.std.proofs.Common.{◌≡◌, ◌≢◌, ℕ, ◌<◌, ◌≤◌, ◌==◌, ◌∙◌, ◌⊎◌, inl, inr, Bool, true, false, if◌then◌else◌, List, [], ◌∷◌, length, slice_set, Option, Some, None, ap, sym, refl, subst}
use Rattle.cp_at_once_laws.proofs.Words.{Program, system_of, delayed_told, LineFits, line_at, process_found, different, at_set}
use Rattle.cp_meaning.specs.State.{Environment, component_at, Status, unstarted, ready, at_gate, delayed, ended, Process, process_at, no_process, Call, Item, Gates, first_gates, any_gates, book_discipline, Shown, State}
use Rattle.cp_meaning.specs.Move.{Move, stays, enters, leaves, delays, continues, starts, shows, ends, Doing}
use Rattle.cp_meaning.specs.Kernel.{output_room, moved_to, with_process_status, made_ready, first_in, let_in, is_anybody_inside, entering, is_delayed_in, continuing, process_of, begun, starting_as, starting, displaying, kernel_step}
use Rattle.cp_at_once_laws.proofs.pairs.ByTheBook.{gates_first, returns_at_once}

-- ---- one process replaced

-- the process n, after process k was replaced by z
pub replaced_at : (ps : List Process) (k n : ℕ) (z : Process) → ((n ≡ k) × (k < length ps) × (process_at (slice_set ps k z) n ≡ z)) ⊎ ((n ≡ k → length ps ≤ k) × (process_at (slice_set ps k z) n ≡ process_at ps n))
replaced_at ps k n z = at_set ps k n z no_process

-- ---- what becomes of the processes

-- the monitor out of which a move goes
abbrev pub GoesFrom : Move → ℕ → Type 0
GoesFrom (leaves m) n = m ≡ n
GoesFrom (delays m) n = m ≡ n
GoesFrom (continues m o going items) n = m ≡ n
GoesFrom (enters m) n = ⊥
GoesFrom stays n = ⊥
GoesFrom (starts c e) n = ⊥
GoesFrom (shows y) n = ⊥
GoesFrom ends n = ⊥

-- what the process that steps is afterwards
abbrev pub Becomes : Move → Status → Type 0
Becomes (enters m) status = (status ≡ ready) ⊎ (status ≡ at_gate m)
Becomes (delays m) status = status ≡ delayed m
Becomes ends status = status ≡ ended
Becomes (leaves m) status = status ≡ ready
Becomes (continues m o going items) status = status ≡ ready
Becomes stays status = status ≡ ready
Becomes (starts c e) status = status ≡ ready
Becomes (shows y) status = status ≡ ready

abbrev pub left_by : Process → Doing → Status → Process
left_by y d status = record { component = y.component; status = status; calls = d.calls; items = d.items }

-- Process n was `was` and is `now`: as before; or it made the step; or it waited at the monitor that the step goes out of, and goes on; or it begins.
pub data Changes (p : Program) (pid : ℕ) (d : Doing) (move : Move) (n : ℕ) (was now : Process) : Type 0 where
  same : now ≡ was → Changes p pid d move n was now
  itself : (status : Status) → n ≡ pid → Becomes move status → now ≡ left_by was d status → Changes p pid d move n was now
  woken : (m : ℕ) → GoesFrom move m → n ≢ pid → (was.status ≡ at_gate m) ⊎ (was.status ≡ delayed m) → now ≡ with_process_status was ready → Changes p pid d move n was now
  begins : (c k : ℕ) (e : Environment) → move ≡ starts c e → n ≢ pid → was.component ≡ c → was.status ≡ unstarted → now ≡ begun c (system_of p k) → Changes p pid d move n was now

module _ (p : Program) (s : State) (pid : ℕ) (d : Doing) (is_ready : (process_at s.processes pid).status ≡ ready) (lines : (m : ℕ) → LineFits s.components s.processes m (line_at s.components m)) (kept : (m : ℕ) → line_at d.components m ≡ line_at s.components m) where
  abbrev Here : Move → State → Type 0
  Here move t = (n : ℕ) → Changes p pid d move n (process_at s.processes n) (process_at t.processes n)

  moved_at : (move : Move) (status : Status) → Becomes move status → Here move (moved_to status s pid d)
  moved_at move status b n = go (replaced_at s.processes pid n (left_by (process_at s.processes pid) d status))
    where
      go : ((n ≡ pid) × (pid < length s.processes) × (process_at (slice_set s.processes pid (left_by (process_at s.processes pid) d status)) n ≡ left_by (process_at s.processes pid) d status)) ⊎
          ((n ≡ pid → length s.processes ≤ pid) × (process_at (slice_set s.processes pid (left_by (process_at s.processes pid) d status)) n ≡ process_at s.processes n)) →
          Changes p pid d move n (process_at s.processes n) (process_at (moved_to status s pid d).processes n)
      go (inl h) = itself status h.0 b (h.2 ∙ ap (λ j. left_by (process_at s.processes j) d status) (sym h.0))
      go (inr h) = same h.1

  -- another process is as before
  pub moved_other : (status : Status) (n : ℕ) → n ≢ pid → process_at (moved_to status s pid d).processes n ≡ process_at s.processes n
  moved_other status n ne = go (replaced_at s.processes pid n (left_by (process_at s.processes pid) d status))
    where
      go : ((n ≡ pid) × (pid < length s.processes) × (process_at (slice_set s.processes pid (left_by (process_at s.processes pid) d status)) n ≡ left_by (process_at s.processes pid) d status)) ⊎
          ((n ≡ pid → length s.processes ≤ pid) × (process_at (slice_set s.processes pid (left_by (process_at s.processes pid) d status)) n ≡ process_at s.processes n)) →
          process_at (slice_set s.processes pid (left_by (process_at s.processes pid) d status)) n ≡ process_at s.processes n
      go (inl h) = absurd (ne h.0)
      go (inr h) = h.1

  -- then r, who waited at m, goes on
  readied : (move : Move) (status : Status) (m r : ℕ) → Becomes move status → GoesFrom move m → r ≢ pid → ((process_at s.processes r).status ≡ at_gate m) ⊎ ((process_at s.processes r).status ≡ delayed m) → Here move (made_ready (moved_to status s pid d) r)
  readied move status m r b g ne w n = go (replaced_at ps r n z)
    where
      ps : List Process
      ps = (moved_to status s pid d).processes

      z : Process
      z = with_process_status (process_at (moved_to status s pid d).processes r) ready

      go : ((n ≡ r) × (r < length (moved_to status s pid d).processes) × (process_at (slice_set (moved_to status s pid d).processes r (with_process_status (process_at (moved_to status s pid d).processes r) ready)) n ≡ with_process_status (process_at (moved_to status s pid d).processes r) ready)) ⊎
          ((n ≡ r → length (moved_to status s pid d).processes ≤ r) × (process_at (slice_set (moved_to status s pid d).processes r (with_process_status (process_at (moved_to status s pid d).processes r) ready)) n ≡ process_at (moved_to status s pid d).processes n)) →
          Changes p pid d move n (process_at s.processes n) (process_at (made_ready (moved_to status s pid d) r).processes n)
      go (inl h) = woken m g (λ e. ne (sym h.0 ∙ e)) (subst (λ j. ((process_at s.processes j).status ≡ at_gate m) ⊎ ((process_at s.processes j).status ≡ delayed m)) (sym h.0) w)
          (h.2 ∙ ap (λ y. with_process_status y ready) (moved_other status r ne) ∙ ap (λ j. with_process_status (process_at s.processes j) ready) (sym h.0))
      go (inr h) = subst (Changes p pid d move n (process_at s.processes n)) (sym h.1) (moved_at move status b n)

  first_here : (move : Move) (status : Status) (m : ℕ) (line : List ℕ) → Becomes move status → GoesFrom move m → LineFits s.components s.processes m line → Here move (first_in line (moved_to status s pid d) m)
  first_here move status m [] b g f = moved_at move status b
  first_here move status m (h ∷ line) b g f = readied move status m h b g (λ e. (let bad : ready ≡ at_gate m = sym is_ready ∙ ap (λ j. (process_at s.processes j).status) (sym e) ∙ f.2 in cc)) (inl f.2)

  in_here : (gates : Gates) (move : Move) (status : Status) (m : ℕ) → gates ≡ first_gates → Becomes move status → GoesFrom move m → Here move (let_in gates (moved_to status s pid d) m)
  in_here first_gates move status m first b g = first_here move status m (line_at d.components m) b g (subst (LineFits s.components s.processes m) (sym (kept m)) (lines m))
  in_here any_gates move status m first b g = absurd (let bad : any_gates ≡ first_gates = first in cc)

  not_ready : (r m : ℕ) → (process_at s.processes r).status ≡ delayed m → r ≢ pid
  not_ready r m h e = (let bad : ready ≡ delayed m = sym is_ready ∙ ap (λ j. (process_at s.processes j).status) (sym e) ∙ h in cc)

  -- who is delayed after the step's own part is not the process itself
  pub still_delayed : (r m : ℕ) → (process_at (moved_to ready s pid d).processes r).status ≡ delayed m → (r ≢ pid) × ((process_at s.processes r).status ≡ delayed m)
  still_delayed r m h = go (replaced_at s.processes pid r (left_by (process_at s.processes pid) d ready))
    where
      go : ((r ≡ pid) × (pid < length s.processes) × (process_at (slice_set s.processes pid (left_by (process_at s.processes pid) d ready)) r ≡ left_by (process_at s.processes pid) d ready)) ⊎
          ((r ≡ pid → length s.processes ≤ pid) × (process_at (slice_set s.processes pid (left_by (process_at s.processes pid) d ready)) r ≡ process_at s.processes r)) →
          (r ≢ pid) × ((process_at s.processes r).status ≡ delayed m)
      go (inl e) = absurd (let bad : ready ≡ delayed m = sym (ap (λ y. y.status) e.2) ∙ h in cc)
      go (inr e) = let was = sym (ap (λ y. y.status) e.1) ∙ h in (not_ready r m was, was)

  continue_here : (m : ℕ) (o : Option ℕ) (going : List Call) (items : List Item) → s.discipline ≡ book_discipline → Here (continues m o going items) (continuing (moved_to ready s pid d) m o)
  continue_here m None going items first = in_here s.discipline.gates (continues m None going items) ready m (gates_first s first) refl refl
  continue_here m (Some r) going items first = go (is_delayed_in m (process_at (moved_to ready s pid d).processes r).status) refl
    where
      go : (b : Bool) → is_delayed_in m (process_at (moved_to ready s pid d).processes r).status ≡ b → Here (continues m (Some r) going items) (if b then made_ready (moved_to ready s pid d) r else let_in s.discipline.gates (moved_to ready s pid d) m)
      go true e = let was = still_delayed r m (delayed_told m (process_at (moved_to ready s pid d).processes r).status e) in readied (continues m (Some r) going items) ready m r refl refl was.0 (inr was.1)
      go false e = in_here s.discipline.gates (continues m (Some r) going items) ready m (gates_first s first) refl refl

  enter_here : (b : Bool) (m : ℕ) → Here (enters m) (entering b s pid m d)
  enter_here true m = moved_at (enters m) (at_gate m) (inr refl)
  enter_here false m = moved_at (enters m) ready (inl refl)

  nothing_here : (move : Move) → Here move s
  nothing_here move n = same refl

  begun_here : (r c : ℕ) (e : Environment) → (process_at (moved_to ready s pid d).processes r).status ≡ unstarted → (process_at (moved_to ready s pid d).processes r).component ≡ c → Here (starts c e) (starting_as p s pid d r unstarted c e).state
  begun_here r c e is owner n = go (replaced_at (moved_to ready s pid d).processes r n (begun c (system_of p (component_at d.components c).system)))
    where
      other : r ≡ pid → ⊥
      other h = go (replaced_at s.processes pid r (left_by (process_at s.processes pid) d ready))
        where
          go : ((r ≡ pid) × (pid < length s.processes) × (process_at (slice_set s.processes pid (left_by (process_at s.processes pid) d ready)) r ≡ left_by (process_at s.processes pid) d ready)) ⊎
              ((r ≡ pid → length s.processes ≤ pid) × (process_at (slice_set s.processes pid (left_by (process_at s.processes pid) d ready)) r ≡ process_at s.processes r)) → ⊥
          go (inl k) = (let bad : ready ≡ unstarted = sym (ap (λ y. y.status) k.2) ∙ is in absurd cc)
          go (inr k) = (let bad : ready ≡ unstarted = sym is_ready ∙ ap (λ j. (process_at s.processes j).status) (sym h) ∙ sym (ap (λ y. y.status) k.1) ∙ is in absurd cc)

      go : ((n ≡ r) × (r < length (moved_to ready s pid d).processes) × (process_at (slice_set (moved_to ready s pid d).processes r (begun c (system_of p (component_at d.components c).system))) n ≡ begun c (system_of p (component_at d.components c).system))) ⊎
          ((n ≡ r → length (moved_to ready s pid d).processes ≤ r) × (process_at (slice_set (moved_to ready s pid d).processes r (begun c (system_of p (component_at d.components c).system))) n ≡ process_at (moved_to ready s pid d).processes n)) →
          Changes p pid d (starts c e) n (process_at s.processes n) (process_at (starting_as p s pid d r unstarted c e).state.processes n)
      go (inl h) =
          begins c (component_at d.components c).system e refl (λ k. other (sym h.0 ∙ k)) (ap (λ j. (process_at s.processes j).component) h.0 ∙ sym (ap (λ y. y.component) (moved_other ready r other)) ∙ owner)
          (ap (λ j. (process_at s.processes j).status) h.0 ∙ sym (ap (λ y. y.status) (moved_other ready r other)) ∙ is) h.2
      go (inr h) = subst (Changes p pid d (starts c e) n (process_at s.processes n)) (sym h.1) (moved_at (starts c e) ready refl n)

  as_here : (r c : ℕ) (e : Environment) (status : Status) → (process_at (moved_to ready s pid d).processes r).status ≡ status → (process_at (moved_to ready s pid d).processes r).component ≡ c → Here (starts c e) (starting_as p s pid d r status c e).state
  as_here r c e unstarted is owner = begun_here r c e is owner
  as_here r c e _ is owner = nothing_here (starts c e)

  start_here : (o : Option ℕ) (c : ℕ) (e : Environment) → process_of c (moved_to ready s pid d).processes ≡ o → Here (starts c e) (starting p s pid d o c e).state
  start_here None c e found = moved_at (starts c e) ready refl
  start_here (Some r) c e found = as_here r c e (process_at (moved_to ready s pid d).processes r).status refl (process_found c (moved_to ready s pid d).processes r found).1

  show_here : (b : Bool) (y : Shown) → Here (shows y) (displaying b s pid d y).state
  show_here true y = nothing_here (shows y)
  show_here false y = moved_at (shows y) ready refl

  pub kernel_changes : (move : Move) → s.discipline ≡ book_discipline → Here move (kernel_step p s pid d move).state
  kernel_changes stays first = moved_at stays ready refl
  kernel_changes (enters m) first = enter_here (is_anybody_inside m s.processes) m
  kernel_changes (leaves m) first = in_here s.discipline.gates (leaves m) ready m (gates_first s first) refl refl
  kernel_changes (delays m) first = in_here s.discipline.gates (delays m) (delayed m) m (gates_first s first) refl refl
  kernel_changes (continues m o going items) first = subst (Here (continues m o going items)) (returns_at_once s pid d m o going items first) (continue_here m o going items first)
  kernel_changes (starts c e) first = start_here (process_of c (moved_to ready s pid d).processes) c e refl
  kernel_changes (shows y) first = show_here (length s.output == output_room) y
  kernel_changes ends first = moved_at ends ended refl

-- ---- what stays so

delayed_itself : (k : ℕ) (move : Move) (status : Status) → Becomes move status → ((m : ℕ) → GoesFrom move m → m ≢ k) → is_delayed_in k status ≡ false
delayed_itself k (enters m) status (inl e) ne = ap (is_delayed_in k) e
delayed_itself k (enters m) status (inr e) ne = ap (is_delayed_in k) e
delayed_itself k (delays m) status e ne = ap (is_delayed_in k) e ∙ different m k (ne m refl)
delayed_itself k _ status e ne = ap (is_delayed_in k) e

module _ (p : Program) (pid : ℕ) (d : Doing) (move : Move) (n : ℕ) where
  -- who is not delayed in another monitor is not so afterwards
  pub none_delayed : (was now : Process) → Changes p pid d move n was now → (k : ℕ) → ((m : ℕ) → GoesFrom move m → m ≢ k) → is_delayed_in k was.status ≡ false → is_delayed_in k now.status ≡ false
  none_delayed was now (same e) k ne h = ap (λ y. is_delayed_in k y.status) e ∙ h
  none_delayed was now (itself status i b e) k ne h = ap (λ y. is_delayed_in k y.status) e ∙ delayed_itself k move status b ne
  none_delayed was now (woken m g i w e) k ne h = ap (λ y. is_delayed_in k y.status) e
  none_delayed was now (begins c j x g i o u e) k ne h = ap (λ y. is_delayed_in k y.status) e

  -- a ready process that makes no step is as it was
  pub ready_same : (was now : Process) → Changes p pid d move n was now → n ≢ pid → was.status ≡ ready → now ≡ was
  ready_same was now (same e) ne h = e
  ready_same was now (itself status i b e) ne h = absurd (ne i)
  ready_same was now (woken m g i (inl w) e) ne h = absurd (let bad : ready ≡ at_gate m = sym h ∙ w in cc)
  ready_same was now (woken m g i (inr w) e) ne h = absurd (let bad : ready ≡ delayed m = sym h ∙ w in cc)
  ready_same was now (begins c j x g i o u e) ne h = absurd (let bad : ready ≡ unstarted = sym h ∙ u in cc)

-- after its own part of a step that leaves a ready process ready, each process has the status that it had
pub moved_status : (s : State) (pid : ℕ) (d : Doing) → (process_at s.processes pid).status ≡ ready → (r : ℕ) → (process_at (moved_to ready s pid d).processes r).status ≡ (process_at s.processes r).status
moved_status s pid d is_ready r = go (replaced_at s.processes pid r (left_by (process_at s.processes pid) d ready))
  where
    go : ((r ≡ pid) × (pid < length s.processes) × (process_at (moved_to ready s pid d).processes r ≡ left_by (process_at s.processes pid) d ready)) ⊎ ((r ≡ pid → length s.processes ≤ pid) × (process_at (moved_to ready s pid d).processes r ≡ process_at s.processes r)) →
        (process_at (moved_to ready s pid d).processes r).status ≡ (process_at s.processes r).status
    go (inl h) = ap (λ y. y.status) h.2 ∙ sym is_ready ∙ ap (λ j. (process_at s.processes j).status) (sym h.0)
    go (inr h) = ap (λ y. y.status) h.1

pub moved_component : (s : State) (pid : ℕ) (d : Doing) (r : ℕ) → (process_at (moved_to ready s pid d).processes r).component ≡ (process_at s.processes r).component
moved_component s pid d r = go (replaced_at s.processes pid r (left_by (process_at s.processes pid) d ready))
  where
    go : ((r ≡ pid) × (pid < length s.processes) × (process_at (moved_to ready s pid d).processes r ≡ left_by (process_at s.processes pid) d ready)) ⊎ ((r ≡ pid → length s.processes ≤ pid) × (process_at (moved_to ready s pid d).processes r ≡ process_at s.processes r)) →
        (process_at (moved_to ready s pid d).processes r).component ≡ (process_at s.processes r).component
    go (inl h) = ap (λ y. y.component) h.2 ∙ ap (λ j. (process_at s.processes j).component) (sym h.0)
    go (inr h) = ap (λ y. y.component) h.1
