-- What no step changes, and what becomes of the statuses of components.
use Rattle.std.proofs.Common.{◌≡◌, ℕ, ◌<◌, ◌==◌, ◌∙◌, ◌⊎◌, inl, inr, Bool, true, false, if◌then◌else◌, List, [], ◌∷◌, ◌++◌, length, Option, Some, None, Ok, Err, ap, sym, refl, subst, length-set}
use Rattle.cp_at_once_laws.proofs.Words.{Program, Outcome, system_of, first_components, settled, step_of, frames, status_at, StatusMoves, IsWellFormed, SameTree}
use Rattle.cp_at_once_laws.proofs.Words.{line_status, OwnedState, kernel_step_owned, starts_process, OrderlyState, some_is}
use Rattle.cp_meaning.specs.State.{Environment, initialised, uninitialised, initialising, Component, component_at, Status, unstarted, ready, at_gate, delayed, ended, Process, process_at, Gates, first_gates, any_gates, book_discipline, Shown, State}
use Rattle.cp_meaning.specs.Move.{Move, stays, enters, leaves, delays, continues, starts, shows, ends, Doing}
use Rattle.cp_meaning.specs.Kernel.{Event, Stepped, local_event, enter_event, leave_event, delay_event, continue_event, start_event, display_event, ended_event, fault_event, output_full, output_room, line_of, with_line_of, moved_to, with_process_status, made_ready, first_in, let_in, is_anybody_inside, entering, is_delayed_in, continuing, process_of, begun, starting_as, starting, displaying, kernel_step}
use Rattle.cp_meaning.proofs.Stored.{permanents_kept}
use Rattle.cp_at_once_laws.proofs.pairs.Apart.{Other}
use Rattle.cp_at_once_laws.proofs.pairs.ByTheBook.{gates_first, returns_at_once}
use Rattle.cp_at_once_laws.proofs.pairs.Changes.{Changes, same, itself, woken, begins, left_by, kernel_changes}
use Rattle.cp_at_once_laws.proofs.pairs.Facts.{done, AllFacts}
use Rattle.cp_at_once_laws.proofs.pairs.Two.{AllStatic, SameShape}

-- a run error, or an output that is full
abbrev pub is_failure : Event → Bool
is_failure local_event = false
is_failure enter_event = false
is_failure leave_event = false
is_failure delay_event = false
is_failure continue_event = false
is_failure start_event = false
is_failure display_event = false
is_failure ended_event = false
is_failure (fault_event e) = true
is_failure output_full = true

-- the state t is s, but that each component has the status of ds, or that of s
pub record Shape (s : State) (ds : List Component) (t : State) : Type 0 where
  pub many : length s.processes ≡ length t.processes
  pub discipline : t.discipline ≡ s.discipline
  pub pending : t.pending ≡ s.pending
  pub status : (n : ℕ) → (status_at t.components n ≡ status_at ds n) ⊎ (status_at t.components n ≡ status_at s.components n)

module _ (p : Program) (s : State) (pid : ℕ) (d : Doing) where
  abbrev Here : State → Type 0
  Here t = Shape s d.components t

  moved_shape : (status : Status) → Here (moved_to status s pid d)
  moved_shape status = record { many = sym (length-set s.processes pid (left_by (process_at s.processes pid) d status)); discipline = refl; pending = refl; status = λ n. inl refl }

  readied_shape : (t : State) (r : ℕ) → Here t → Here (made_ready t r)
  readied_shape t r h = record { many = h.many ∙ sym (length-set t.processes r (with_process_status (process_at t.processes r) ready)); discipline = h.discipline; pending = h.pending; status = h.status }

  lined_shape : (t : State) (m : ℕ) (line : List ℕ) → Here t → Here (with_line_of t m line)
  lined_shape t m line h = record { many = h.many; discipline = h.discipline; pending = h.pending; status = λ n. go n (h.status n) }
    where
      go : (n : ℕ) → (status_at t.components n ≡ status_at d.components n) ⊎ (status_at t.components n ≡ status_at s.components n) → (status_at (with_line_of t m line).components n ≡ status_at d.components n) ⊎ (status_at (with_line_of t m line).components n ≡ status_at s.components n)
      go n (inl e) = inl (line_status t.components m line n ∙ e)
      go n (inr e) = inr (line_status t.components m line n ∙ e)

  first_shape : (line : List ℕ) (t : State) (m : ℕ) → Here t → Here (first_in line t m)
  first_shape [] t m h = h
  first_shape (q ∷ line) t m h = lined_shape (made_ready t q) m line (readied_shape t q h)

  in_shape : (g : Gates) (t : State) (m : ℕ) → g ≡ first_gates → Here t → Here (let_in g t m)
  in_shape first_gates t m first h = first_shape (line_of t m) t m h
  in_shape any_gates t m first h = absurd (let bad : any_gates ≡ first_gates = first in cc)

  if_shape : (b : Bool) (t u : State) → Here t → Here u → Here (if b then t else u)
  if_shape true t u h k = h
  if_shape false t u h k = k

  continue_shape : (t : State) (m : ℕ) (o : Option ℕ) → t.discipline ≡ book_discipline → Here t → Here (continuing t m o)
  continue_shape t m None first h = in_shape t.discipline.gates t m (gates_first t first) h
  continue_shape t m (Some r) first h = if_shape (is_delayed_in m (process_at t.processes r).status) _ _ (readied_shape t r h) (in_shape t.discipline.gates t m (gates_first t first) h)

  enter_shape : (b : Bool) (m : ℕ) → Here (entering b s pid m d)
  enter_shape true m = lined_shape (moved_to (at_gate m) s pid d) m _ (moved_shape (at_gate m))
  enter_shape false m = moved_shape ready

  nothing_shape : Here s
  nothing_shape = record { many = refl; discipline = refl; pending = refl; status = λ n. inr refl }

  as_shape : (r c : ℕ) (e : Environment) (status : Status) → Here (starting_as p s pid d r status c e).state
  as_shape r c e unstarted =
      let h = moved_shape ready in
      record {
        many = h.many ∙ sym (length-set (moved_to ready s pid d).processes r (begun c (system_of p (component_at d.components c).system)));
        discipline = refl;
        pending = refl;
        status = λ n. inl ((permanents_kept d.components c (e ++ (component_at d.components c).environment)).status n);
      }
  as_shape r c e _ = nothing_shape

  start_shape : (o : Option ℕ) (c : ℕ) (e : Environment) → Here (starting p s pid d o c e).state
  start_shape None c e = moved_shape ready
  start_shape (Some r) c e = as_shape r c e (process_at (moved_to ready s pid d).processes r).status

  show_shape : (b : Bool) (y : Shown) → Here (displaying b s pid d y).state
  show_shape true y = nothing_shape
  show_shape false y = let h = moved_shape ready in record { many = h.many; discipline = refl; pending = refl; status = h.status }

  pub kernel_shape : (move : Move) → s.discipline ≡ book_discipline → Here (kernel_step p s pid d move).state
  kernel_shape stays first = moved_shape ready
  kernel_shape (enters m) first = enter_shape (is_anybody_inside m s.processes) m
  kernel_shape (leaves m) first = in_shape s.discipline.gates (moved_to ready s pid d) m (gates_first s first) (moved_shape ready)
  kernel_shape (delays m) first = in_shape s.discipline.gates (moved_to (delayed m) s pid d) m (gates_first s first) (moved_shape (delayed m))
  kernel_shape (continues m o going items) first = subst Here (returns_at_once s pid d m o going items first) (continue_shape (moved_to ready s pid d) m o first (moved_shape ready))
  kernel_shape (starts c e) first = start_shape (process_of c (moved_to ready s pid d).processes) c e
  kernel_shape (shows y) first = show_shape (length s.output == output_room) y
  kernel_shape ends first = moved_shape ended

-- where the step is no failure, each component has the status of d
module _ (p : Program) (s : State) (pid : ℕ) (d : Doing) where
  abbrev Exact : State → Type 0
  Exact t = (n : ℕ) → status_at t.components n ≡ status_at d.components n

  lined_exact : (t : State) (m : ℕ) (line : List ℕ) → Exact t → Exact (with_line_of t m line)
  lined_exact t m line h n = line_status t.components m line n ∙ h n

  first_exact : (line : List ℕ) (t : State) (m : ℕ) → Exact t → Exact (first_in line t m)
  first_exact [] t m h = h
  first_exact (q ∷ line) t m h = lined_exact (made_ready t q) m line h

  in_exact : (g : Gates) (t : State) (m : ℕ) → g ≡ first_gates → Exact t → Exact (let_in g t m)
  in_exact first_gates t m first h = first_exact (line_of t m) t m h
  in_exact any_gates t m first h = absurd (let bad : any_gates ≡ first_gates = first in cc)

  if_exact : (b : Bool) (t u : State) → Exact t → Exact u → Exact (if b then t else u)
  if_exact true t u h k = h
  if_exact false t u h k = k

  continue_exact : (t : State) (m : ℕ) (o : Option ℕ) → t.discipline ≡ book_discipline → Exact t → Exact (continuing t m o)
  continue_exact t m None first h = in_exact t.discipline.gates t m (gates_first t first) h
  continue_exact t m (Some r) first h = if_exact (is_delayed_in m (process_at t.processes r).status) _ _ h (in_exact t.discipline.gates t m (gates_first t first) h)

  enter_exact : (b : Bool) (m : ℕ) → Exact (entering b s pid m d)
  enter_exact true m = lined_exact (moved_to (at_gate m) s pid d) m _ (λ n. refl)
  enter_exact false m = λ n. refl

  abbrev Unless : Stepped → Type 0
  Unless t = is_failure t.event ≡ false → Exact t.state

  never : {A : Type 0} → true ≡ false → A
  never h = absurd (let bad : true ≡ false = h in cc)

  as_exact : (r c : ℕ) (e : Environment) (status : Status) → Unless (starting_as p s pid d r status c e)
  as_exact r c e unstarted h = λ n. (permanents_kept d.components c (e ++ (component_at d.components c).environment)).status n
  as_exact r c e _ h = never h

  start_exact : (o : Option ℕ) (c : ℕ) (e : Environment) → Unless (starting p s pid d o c e)
  start_exact None c e h = λ n. refl
  start_exact (Some r) c e h = as_exact r c e (process_at (moved_to ready s pid d).processes r).status h

  show_exact : (b : Bool) (y : Shown) → Unless (displaying b s pid d y)
  show_exact true y h = never h
  show_exact false y h = λ n. refl

  pub kernel_exact : (move : Move) → s.discipline ≡ book_discipline → Unless (kernel_step p s pid d move)
  kernel_exact (enters m) first h = enter_exact (is_anybody_inside m s.processes) m
  kernel_exact (leaves m) first h = in_exact s.discipline.gates (moved_to ready s pid d) m (gates_first s first) (λ n. refl)
  kernel_exact (delays m) first h = in_exact s.discipline.gates (moved_to (delayed m) s pid d) m (gates_first s first) (λ n. refl)
  kernel_exact (continues m o going items) first h = subst Exact (returns_at_once s pid d m o going items first) (continue_exact (moved_to ready s pid d) m o first (λ n. refl))
  kernel_exact (starts c e) first h = start_exact (process_of c (moved_to ready s pid d).processes) c e h
  kernel_exact (shows y) first h = show_exact (length s.output == output_room) y h
  kernel_exact _ first h = λ n. refl

  -- who is started was unstarted
  started_fresh : (r c : ℕ) (e : Environment) (status : Status) → is_failure (starting_as p s pid d r status c e).event ≡ false → status ≡ unstarted
  started_fresh r c e unstarted h = refl
  started_fresh r c e _ h = never h

  pub starts_fresh : (o : Option ℕ) (c r : ℕ) (e : Environment) → o ≡ Some r → is_failure (starting p s pid d o c e).event ≡ false → (process_at (moved_to ready s pid d).processes r).status ≡ unstarted
  starts_fresh None c r e is h = absurd (let bad : None ≡ Some r = is in cc)
  starts_fresh (Some q) c r e is h = subst (λ j. (process_at (moved_to ready s pid d).processes j).status ≡ unstarted) (some_is q r is) (started_fresh q c e (process_at (moved_to ready s pid d).processes q).status h)

same_owner : (p : Program) (pid : ℕ) (d : Doing) (move : Move) (n : ℕ) (was now : Process) → Changes p pid d move n was now → now.component ≡ was.component
same_owner p pid d move n was now (same e) = ap (λ y. y.component) e
same_owner p pid d move n was now (itself status h b e) = ap (λ y. y.component) e
same_owner p pid d move n was now (woken m g ne w e) = ap (λ y. y.component) e
same_owner p pid d move n was now (begins c k e g ne h u is) = ap (λ y. y.component) is ∙ sym h

pub static_of : (base cs ds : List Component) → SameTree base cs → SameTree base ds → AllStatic cs ds
static_of base cs ds h k n = record { path = k.path n ∙ sym (h.path n); system = k.system n ∙ sym (h.system n); kind = k.kind n ∙ sym (h.kind n) }

module _ (p : Program) (ok : IsWellFormed p) (s : State) (pid : ℕ) (first : s.discipline ≡ book_discipline) (owned : OwnedState (first_components p) s) (orderly : OrderlyState s) (lt : pid < length s.processes) (is_ready : (process_at s.processes pid).status ≡ ready) where
  pub record Stands (t : State) : Type 0 where
    pub shape : SameShape s t
    pub other : Other s t
    pub owned_after : OwnedState (first_components p) t

  told_of : (d : Doing) (t : State) (n : ℕ) → StatusMoves s.components d.components (frames (process_at s.processes pid).calls) n → (status_at t.components n ≡ status_at d.components n) ⊎ (status_at t.components n ≡ status_at s.components n) →
      (status_at t.components n ≡ status_at s.components n) ⊎ (status_at s.components n ≡ initialised → ⊥)
  told_of d t n m (inr e) = inl e
  told_of d t n (inl m) (inl e) = inl (e ∙ m)
  told_of d t n (inr (inl m)) (inl e) = inr (λ h. (let bad : uninitialised ≡ initialised = sym m.0 ∙ h in cc))
  told_of d t n (inr (inr m)) (inl e) = inr (λ h. (let bad : initialising ≡ initialised = sym m.0 ∙ h in cc))

  settled_stands : (o : Outcome Doing) → AllFacts p s pid o → Stands (settled p s pid o).state
  settled_stands (Err e) f =
      record {
        shape = record { many = refl; size = refl; static = λ n. record { path = refl; system = refl; kind = refl }; discipline = refl; pending = refl };
        other = Rattle.cp_at_once_laws.proofs.pairs.Apart.itself s;
        owned_after = owned;
      }
  settled_stands (Ok d) f =
      let h = kernel_shape p s pid d d.move first in
      let k = kernel_step_owned p s pid (first_components p) owned lt is_ready d d.move f.owned (starts_process p ok s pid owned orderly lt is_ready d d.move f.good) in
      let size : length s.components ≡ length (kernel_step p s pid d d.move).state.components = owned.tree.size ∙ sym k.tree.size in
      record {
        shape = record { many = h.many; size = size; static = static_of (first_components p) s.components (kernel_step p s pid d d.move).state.components owned.tree k.tree; discipline = h.discipline; pending = h.pending };
        other = record {
          many = h.many;
          size = size;
          owners = λ n. same_owner p pid d d.move n _ _ (kernel_changes p s pid d is_ready orderly.orderly.lines (λ m. f.good.layout.line m) d.move first n);
          told = λ n. told_of d (kernel_step p s pid d d.move).state n (f.good.status n) (h.status n);
        };
        owned_after = k;
      }

  pub step_stands : AllFacts p s pid (done p s pid) → Stands (step_of p s pid).state
  step_stands f = settled_stands (done p s pid) f
