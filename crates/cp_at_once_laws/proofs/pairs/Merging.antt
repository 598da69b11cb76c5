-- A step does the same where others have changed what is not its process's own: what the kernel does.
use Rattle.std.proofs.Common.{◌≡◌, ℕ, zero, suc, ◌==◌, ◌∙◌, ◌⊎◌, inl, inr, Bool, true, false, if◌then◌else◌, List, [], ◌∷◌, ◌++◌, length, slice_set, Option, Some, None, Ok, Err, ap, sym, refl, arith}
use Rattle.cp_at_once_laws.proofs.Words.{Program, system_of, takes, view_of, settled, step_of, status_at, Outcome, init_twice, View, with_permanents}
use Rattle.cp_meaning.specs.State.{Environment, initialised, Component, component_at, Call, Status, unstarted, ready, at_gate, delayed, ended, Process, process_at, no_process, Gates, first_gates, any_gates, book_discipline, Shown, State}
use Rattle.cp_meaning.specs.Move.{Move, stays, enters, leaves, delays, continues, starts, shows, ends, Doing}
use Rattle.cp_meaning.specs.Kernel.{fault_event, start_event, display_event, Stepped, output_room, with_line, with_line_of, line_of, moved_to, with_process_status, made_ready, first_in, let_in, is_anybody_inside, entering, is_delayed_in, continuing, after, process_of, begun, with_begun, starting_as, starting, displaying, kernel_step}
use Rattle.cp_at_once_laws.proofs.pairs.ByTheBook.{gates_first, returns_at_once}
use Rattle.cp_at_once_laws.proofs.reading.Mixed.{one_of, mix, mix_at, mix_set, mix_system}
use Rattle.cp_at_once_laws.proofs.reading.Reading.{OwnCalls}
use Rattle.cp_at_once_laws.proofs.reading.Taking.{mix_permanents, also_mixed, all_mixed, LeavesOthers, EndsOwn, takes_reads}

-- ---- processes

abbrev pub mixed_processes : (ℕ → Bool) → List Process → List Process → List Process
mixed_processes own [] xs = []
mixed_processes own (p ∷ ps) [] = p ∷ ps
mixed_processes own (p ∷ ps) (x ∷ xs) = (if own 0 then p else x) ∷ mixed_processes (λ n. own (suc n)) ps xs

none_either : (b : Bool) → no_process ≡ (if b then no_process else no_process)
none_either true = refl
none_either false = refl

pub process_mixed : (own : ℕ → Bool) (ps xs : List Process) (n : ℕ) → length ps ≡ length xs → process_at (mixed_processes own ps xs) n ≡ (if own n then process_at ps n else process_at xs n)
process_mixed own [] [] n e = none_either (own n)
process_mixed own (p ∷ ps) (x ∷ xs) zero e = refl
process_mixed own (p ∷ ps) (x ∷ xs) (suc n) e = process_mixed (λ n. own (suc n)) ps xs n (omega arith)
process_mixed own x y n e = absurd (omega arith)

pub process_own : (own : ℕ → Bool) (ps xs : List Process) (n : ℕ) → length ps ≡ length xs → own n ≡ true → process_at (mixed_processes own ps xs) n ≡ process_at ps n
process_own own ps xs n e h = process_mixed own ps xs n e ∙ ap (λ b. if b then process_at ps n else process_at xs n) h

pub set_process : (own : ℕ → Bool) (ps xs : List Process) (k : ℕ) (z : Process) → own k ≡ true → slice_set (mixed_processes own ps xs) k z ≡ mixed_processes own (slice_set ps k z) xs
set_process own (p ∷ ps) [] zero z h = refl
set_process own (p ∷ ps) (x ∷ xs) zero z h = ap (λ b. (if b then z else x) ∷ mixed_processes (λ n. own (suc n)) ps xs) (sym h)
set_process own (p ∷ ps) (x ∷ xs) (suc k) z h = ap (λ l. (if own 0 then p else x) ∷ l) (set_process (λ n. own (suc n)) ps xs k z h)
set_process own _ _ _ z h = refl

same_component : (b : Bool) (p x : Process) → x.component ≡ p.component → (if b then p else x).component ≡ p.component
same_component true p x e = refl
same_component false p x e = e

-- both are of the same components
abbrev pub SameOwners : List Process → List Process → Type 0
SameOwners ps xs = (n : ℕ) → (process_at xs n).component ≡ (process_at ps n).component

process_of_mixed : (own : ℕ → Bool) (d : ℕ) (ps xs : List Process) → SameOwners ps xs → process_of d (mixed_processes own ps xs) ≡ process_of d ps
process_of_mixed own d (p ∷ ps) (x ∷ xs) same =
    ap (λ c. if c == d then Some 0 else after (process_of d (mixed_processes (λ n. own (suc n)) ps xs))) (same_component (own 0) p x (same 0)) ∙
    ap (λ o. if p.component == d then Some 0 else after o) (process_of_mixed (λ n. own (suc n)) d ps xs (λ n. same (suc n)))
process_of_mixed own d _ _ same = refl

-- ---- lines

mix_line : (own ln : ℕ → Bool) (cs xs : List Component) (k : ℕ) (l : List ℕ) → length cs ≡ length xs → ln k ≡ true → with_line (mix own ln cs xs) k l ≡ mix own ln (with_line cs k l) xs
mix_line own ln cs xs k l size h =
    ap (λ c. slice_set (mix own ln cs xs) k (let d : Component = record { path = c.path; system = c.system; kind = c.kind; status = c.status; environment = c.environment; line = l } in d)) (mix_at own ln cs xs k size ∙ ap (λ b. one_of (own k) b (component_at cs k) (component_at xs k)) h) ∙
    ap (λ b. slice_set (mix own ln cs xs) k (one_of (own k) b (let c = component_at cs k in let d : Component = record { path = c.path; system = c.system; kind = c.kind; status = c.status; environment = c.environment; line = l } in d) (component_at xs k))) (sym h) ∙
    mix_set own ln cs xs k (let c = component_at cs k in let d : Component = record { path = c.path; system = c.system; kind = c.kind; status = c.status; environment = c.environment; line = l } in d) size

-- ---- states: what is flagged as s has it, and the rest as x has it

module _ (procs own ln : ℕ → Bool) (x : State) where
  abbrev pub merged : State → State
  merged s =
      record {
        processes = mixed_processes procs s.processes x.processes;
        components = mix own ln s.components x.components;
        output = s.output;
        discipline = s.discipline;
        pending = s.pending;
      }

  abbrev pub merged_step : Stepped → Stepped
  merged_step t = record { state = merged t.state; event = t.event }

  abbrev doing : Doing → Doing
  doing d = also_mixed own ln x.components d

  moved_merged : (status : Status) (s : State) (pid : ℕ) (d : Doing) → length s.processes ≡ length x.processes → procs pid ≡ true → moved_to status (merged s) pid (doing d) ≡ merged (moved_to status s pid d)
  moved_merged status s pid d e h =
      ap (λ y. let t : State = record { processes = slice_set (mixed_processes procs s.processes x.processes) pid (let z : Process = record { component = y.component; status = status; calls = d.calls; items = d.items } in z); components = mix own ln d.components x.components; output = s.output; discipline = s.discipline; pending = s.pending } in t) (process_own procs s.processes x.processes pid e h) ∙
      ap (λ ps. let t : State = record { processes = ps; components = mix own ln d.components x.components; output = s.output; discipline = s.discipline; pending = s.pending } in t)
      (set_process procs s.processes x.processes pid (let z : Process = record { component = (process_at s.processes pid).component; status = status; calls = d.calls; items = d.items } in z) h)

  line_merged : (s : State) (k : ℕ) (l : List ℕ) → length s.components ≡ length x.components → ln k ≡ true → with_line_of (merged s) k l ≡ merged (with_line_of s k l)
  line_merged s k l size h = ap (λ cs. let t : State = record { processes = mixed_processes procs s.processes x.processes; components = cs; output = s.output; discipline = s.discipline; pending = s.pending } in t) (mix_line own ln s.components x.components k l size h)

  same_line : (s : State) (k : ℕ) → length s.components ≡ length x.components → ln k ≡ true → line_of (merged s) k ≡ line_of s k
  same_line s k size h = ap (λ c. c.line) (mix_at own ln s.components x.components k size ∙ ap (λ b. one_of (own k) b (component_at s.components k) (component_at x.components k)) h)

  readied_merged : (s : State) (r : ℕ) → length s.processes ≡ length x.processes → procs r ≡ true → made_ready (merged s) r ≡ merged (made_ready s r)
  readied_merged s r e h =
      ap (λ y. let t : State = record { processes = slice_set (mixed_processes procs s.processes x.processes) r (with_process_status y ready); components = mix own ln s.components x.components; output = s.output; discipline = s.discipline; pending = s.pending } in t) (process_own procs s.processes x.processes r e h) ∙
      ap (λ ps. let t : State = record { processes = ps; components = mix own ln s.components x.components; output = s.output; discipline = s.discipline; pending = s.pending } in t) (set_process procs s.processes x.processes r (with_process_status (process_at s.processes r) ready) h)

  -- who is first in a line is flagged
  abbrev pub HeadOwn : List ℕ → Type 0
  HeadOwn [] = Unit {0}
  HeadOwn (q ∷ line) = procs q ≡ true

  first_merged : (line : List ℕ) (s : State) (k : ℕ) → length s.processes ≡ length x.processes → length s.components ≡ length x.components → ln k ≡ true → HeadOwn line → first_in line (merged s) k ≡ merged (first_in line s k)
  first_merged [] s k e size h g = refl
  first_merged (q ∷ line) s k e size h g = ap (λ t. with_line_of t k line) (readied_merged s q e g) ∙ line_merged (made_ready s q) k line size h

  in_merged : (g : Gates) (s : State) (k : ℕ) → g ≡ first_gates → length s.processes ≡ length x.processes → length s.components ≡ length x.components → ln k ≡ true → HeadOwn (line_of s k) → let_in g (merged s) k ≡ merged (let_in g s k)
  in_merged first_gates s k first e size h g = ap (λ l. first_in l (merged s) k) (same_line s k size h) ∙ first_merged (line_of s k) s k e size h g
  in_merged any_gates s k first e size h g = absurd (let bad : any_gates ≡ first_gates = first in cc)

  enter_merged : (b : Bool) (s : State) (pid k : ℕ) (d : Doing) → length s.processes ≡ length x.processes → length d.components ≡ length x.components → procs pid ≡ true → ln k ≡ true → entering b (merged s) pid k (doing d) ≡ merged (entering b s pid k d)
  enter_merged false s pid k d e size h g = moved_merged ready s pid d e h
  enter_merged true s pid k d e size h g =
      ap (λ t. with_line_of t k (line_of t k ++ pid ∷ [])) (moved_merged (at_gate k) s pid d e h) ∙
      ap (λ l. with_line_of (merged (moved_to (at_gate k) s pid d)) k (l ++ pid ∷ [])) (same_line (moved_to (at_gate k) s pid d) k size g) ∙
      line_merged (moved_to (at_gate k) s pid d) k (line_of (moved_to (at_gate k) s pid d) k ++ pid ∷ []) size g

  if_merged : (b : Bool) (t t' u u' : State) → t ≡ merged t' → u ≡ merged u' → (if b then t else u) ≡ merged (if b then t' else u')
  if_merged true t t' u u' h k = h
  if_merged false t t' u u' h k = k

  -- who is woken is flagged; and who is not delayed in the monitor is not so in either state
  abbrev pub WokenOwn : State → ℕ → Option ℕ → Type 0
  WokenOwn s k None = Unit {0}
  WokenOwn s k (Some r) = (procs r ≡ true) ⊎ ((is_delayed_in k (process_at s.processes r).status ≡ false) × (is_delayed_in k (process_at x.processes r).status ≡ false))

  either_false : (b : Bool) (k : ℕ) (y z : Process) → is_delayed_in k y.status ≡ false → is_delayed_in k z.status ≡ false → is_delayed_in k (if b then y else z).status ≡ false
  either_false true k y z h g = h
  either_false false k y z h g = g

  continue_merged : (o : Option ℕ) (s : State) (k : ℕ) → s.discipline ≡ book_discipline → length s.processes ≡ length x.processes → length s.components ≡ length x.components → ln k ≡ true → HeadOwn (line_of s k) → WokenOwn s k o → continuing (merged s) k o ≡ merged (continuing s k o)
  continue_merged None s k first e size h g w = in_merged s.discipline.gates s k (gates_first s first) e size h g
  continue_merged (Some r) s k first e size h g (inl w) =
      ap (λ y. if is_delayed_in k y.status then made_ready (merged s) r else let_in s.discipline.gates (merged s) k) (process_own procs s.processes x.processes r e w) ∙
      if_merged (is_delayed_in k (process_at s.processes r).status) (made_ready (merged s) r) (made_ready s r) (let_in s.discipline.gates (merged s) k) (let_in s.discipline.gates s k) (readied_merged s r e w) (in_merged s.discipline.gates s k (gates_first s first) e size h g)
  continue_merged (Some r) s k first e size h g (inr w) =
      ap (λ b. if b then made_ready (merged s) r else let_in s.discipline.gates (merged s) k) (ap (λ y. is_delayed_in k y.status) (process_mixed procs s.processes x.processes r e) ∙ either_false (procs r) k (process_at s.processes r) (process_at x.processes r) w.0 w.1) ∙
      in_merged s.discipline.gates s k (gates_first s first) e size h g ∙
      ap (λ b. merged (if b then made_ready s r else let_in s.discipline.gates s k)) (sym w.0)

  begun_merged : (p : Program) (s : State) (r c : ℕ) (e : Environment) → length s.components ≡ length x.components → procs r ≡ true → own c ≡ true → with_begun p (merged s) r c e ≡ merged (with_begun p s r c e)
  begun_merged p s r c e size h g =
      ap (λ j. let t : State = record { processes = slice_set (mixed_processes procs s.processes x.processes) r (begun c (system_of p j)); components = with_permanents (mix own ln s.components x.components) c (e ++ (component_at (mix own ln s.components x.components) c).environment); output = s.output; discipline = s.discipline; pending = s.pending } in t) (mix_system own ln s.components x.components c size) ∙
      ap (λ ps. let t : State = record { processes = ps; components = with_permanents (mix own ln s.components x.components) c (e ++ (component_at (mix own ln s.components x.components) c).environment); output = s.output; discipline = s.discipline; pending = s.pending } in t) (set_process procs s.processes x.processes r (begun c (system_of p (component_at s.components c).system)) h) ∙
      ap (λ k. let t : State = record { processes = mixed_processes procs (slice_set s.processes r (begun c (system_of p (component_at s.components c).system))) x.processes; components = with_permanents (mix own ln s.components x.components) c (e ++ k.environment); output = s.output; discipline = s.discipline; pending = s.pending } in t)
      (mix_at own ln s.components x.components c size ∙ ap (λ b. one_of b (ln c) (component_at s.components c) (component_at x.components c)) g) ∙
      ap (λ cs. let t : State = record { processes = mixed_processes procs (slice_set s.processes r (begun c (system_of p (component_at s.components c).system))) x.processes; components = cs; output = s.output; discipline = s.discipline; pending = s.pending } in t)
      (mix_permanents own ln s.components x.components c (e ++ (component_at s.components c).environment) size g)

  start_as_merged : (p : Program) (s : State) (pid : ℕ) (d : Doing) (r c : ℕ) (e : Environment) (status : Status) → length s.processes ≡ length x.processes → length d.components ≡ length x.components → procs pid ≡ true → procs r ≡ true → own c ≡ true → starting_as p (merged s) pid (doing d) r status c e ≡ merged_step (starting_as p s pid d r status c e)
  start_as_merged p s pid d r c e unstarted n size h g k = ap (λ t. let y : Stepped = record { state = t; event = start_event } in y) (ap (λ t. with_begun p t r c e) (moved_merged ready s pid d n h) ∙ begun_merged p (moved_to ready s pid d) r c e size g k)
  start_as_merged p s pid d r c e _ n size h g k = refl

  -- a process that has begun is not started
  abbrev pub HasBegun : Status → Type 0
  HasBegun unstarted = ⊥
  HasBegun ready = Unit {0}
  HasBegun (at_gate j) = Unit {0}
  HasBegun (delayed j) = Unit {0}
  HasBegun ended = Unit {0}

  -- who is started is flagged, and so is its component; or it has begun in both states
  abbrev pub StartedOwn : State → ℕ → Option ℕ → Type 0
  StartedOwn s c None = Unit {0}
  StartedOwn s c (Some r) = ((procs r ≡ true) × (own c ≡ true)) ⊎ (HasBegun (process_at s.processes r).status × HasBegun (process_at x.processes r).status)

  begun_twice : (p : Program) (s : State) (pid : ℕ) (d : Doing) (r c : ℕ) (e : Environment) (status : Status) → HasBegun status → starting_as p s pid d r status c e ≡ (let y : Stepped = record { state = s; event = fault_event init_twice } in y)
  begun_twice p s pid d r c e unstarted h = absurd h
  begun_twice p s pid d r c e _ h = refl

  either_begun : (b : Bool) (y z : Process) → HasBegun y.status → HasBegun z.status → HasBegun (if b then y else z).status
  either_begun true y z h g = h
  either_begun false y z h g = g

  start_merged : (p : Program) (s : State) (pid : ℕ) (d : Doing) (o : Option ℕ) (c : ℕ) (e : Environment) → length s.processes ≡ length x.processes → length (moved_to ready s pid d).processes ≡ length x.processes → length d.components ≡ length x.components → procs pid ≡ true →
      StartedOwn (moved_to ready s pid d) c o → starting p (merged s) pid (doing d) o c e ≡ merged_step (starting p s pid d o c e)
  start_merged p s pid d None c e n n' size h g = ap (λ t. let y : Stepped = record { state = t; event = start_event } in y) (moved_merged ready s pid d n h)
  start_merged p s pid d (Some r) c e n n' size h (inl g) =
      ap (λ t. starting_as p (merged s) pid (doing d) r (process_at t.processes r).status c e) (moved_merged ready s pid d n h) ∙
      ap (λ y. starting_as p (merged s) pid (doing d) r y.status c e) (process_own procs (moved_to ready s pid d).processes x.processes r n' g.0) ∙
      start_as_merged p s pid d r c e (process_at (moved_to ready s pid d).processes r).status n size h g.0 g.1
  start_merged p s pid d (Some r) c e n n' size h (inr g) =
      ap (λ t. starting_as p (merged s) pid (doing d) r (process_at t.processes r).status c e) (moved_merged ready s pid d n h) ∙
      ap (λ y. starting_as p (merged s) pid (doing d) r y.status c e) (process_mixed procs (moved_to ready s pid d).processes x.processes r n') ∙
      begun_twice p (merged s) pid (doing d) r c e _ (either_begun (procs r) (process_at (moved_to ready s pid d).processes r) (process_at x.processes r) g.0 g.1) ∙
      ap merged_step (sym (begun_twice p s pid d r c e (process_at (moved_to ready s pid d).processes r).status g.0))

  display_merged : (b : Bool) (s : State) (pid : ℕ) (d : Doing) (y : Shown) → length s.processes ≡ length x.processes → procs pid ≡ true → displaying b (merged s) pid (doing d) y ≡ merged_step (displaying b s pid d y)
  display_merged true s pid d y e h = refl
  display_merged false s pid d y e h = ap (λ t. let z : Stepped = record { state = record t { output = t.output ++ y ∷ [] }; event = display_event } in z) (moved_merged ready s pid d e h)

  -- what the kernel reads and changes for a move is flagged
  abbrev pub MoveOwn : State → ℕ → Doing → Move → Type 0
  MoveOwn s pid d stays = Unit {0}
  MoveOwn s pid d (shows y) = Unit {0}
  MoveOwn s pid d ends = Unit {0}
  MoveOwn s pid d (enters k) = (is_anybody_inside k (mixed_processes procs s.processes x.processes) ≡ is_anybody_inside k s.processes) × (ln k ≡ true)
  MoveOwn s pid d (leaves k) = (ln k ≡ true) × HeadOwn (component_at d.components k).line
  MoveOwn s pid d (delays k) = (ln k ≡ true) × HeadOwn (component_at d.components k).line
  MoveOwn s pid d (continues k o going items) = (ln k ≡ true) × HeadOwn (component_at d.components k).line × WokenOwn (moved_to ready s pid d) k o
  MoveOwn s pid d (starts c e) = StartedOwn (moved_to ready s pid d) c (process_of c (moved_to ready s pid d).processes)

  pub record Fitting (s : State) (pid : ℕ) (d : Doing) : Type 0 where
    pub first : s.discipline ≡ book_discipline
    pub processes : length s.processes ≡ length x.processes
    pub processes_after : (status : Status) → length (moved_to status s pid d).processes ≡ length x.processes
    pub components : length d.components ≡ length x.components
    pub owners : SameOwners (moved_to ready s pid d).processes x.processes
    pub mine : procs pid ≡ true

  pub kernel_merged : (p : Program) (s : State) (pid : ℕ) (d : Doing) (move : Move) → Fitting s pid d → MoveOwn s pid d move → kernel_step p (merged s) pid (doing d) move ≡ merged_step (kernel_step p s pid d move)
  kernel_merged p s pid d stays f h = ap (λ t. let y : Stepped = record { state = t; event = Rattle.cp_meaning.specs.Kernel.local_event } in y) (moved_merged ready s pid d f.processes f.mine)
  kernel_merged p s pid d (enters k) f h =
      ap (λ b. let y : Stepped = record { state = entering b (merged s) pid k (doing d); event = Rattle.cp_meaning.specs.Kernel.enter_event } in y) h.0 ∙
      ap (λ t. let y : Stepped = record { state = t; event = Rattle.cp_meaning.specs.Kernel.enter_event } in y) (enter_merged (is_anybody_inside k s.processes) s pid k d f.processes f.components f.mine h.1)
  kernel_merged p s pid d (leaves k) f h =
      ap (λ t. let y : Stepped = record { state = t; event = Rattle.cp_meaning.specs.Kernel.leave_event } in y)
      (ap (λ t. let_in s.discipline.gates t k) (moved_merged ready s pid d f.processes f.mine) ∙ in_merged s.discipline.gates (moved_to ready s pid d) k (gates_first s f.first) (f.processes_after ready) f.components h.0 h.1)
  kernel_merged p s pid d (delays k) f h =
      ap (λ t. let y : Stepped = record { state = t; event = Rattle.cp_meaning.specs.Kernel.delay_event } in y)
      (ap (λ t. let_in s.discipline.gates t k) (moved_merged (delayed k) s pid d f.processes f.mine) ∙ in_merged s.discipline.gates (moved_to (delayed k) s pid d) k (gates_first s f.first) (f.processes_after (delayed k)) f.components h.0 h.1)
  kernel_merged p s pid d (continues k o going items) f h =
      ap (λ t. let y : Stepped = record { state = t; event = Rattle.cp_meaning.specs.Kernel.continue_event } in y)
      (sym (returns_at_once (merged s) pid (doing d) k o going items f.first) ∙ ap (λ t. continuing t k o) (moved_merged ready s pid d f.processes f.mine) ∙ continue_merged o (moved_to ready s pid d) k f.first (f.processes_after ready) f.components h.0 h.1 h.2 ∙
      ap merged (returns_at_once s pid d k o going items f.first))
  kernel_merged p s pid d (starts c e) f h =
      ap (λ t. starting p (merged s) pid (doing d) (process_of c t.processes) c e) (moved_merged ready s pid d f.processes f.mine) ∙
      ap (λ o. starting p (merged s) pid (doing d) o c e) (process_of_mixed procs c (moved_to ready s pid d).processes x.processes f.owners) ∙
      start_merged p s pid d (process_of c (moved_to ready s pid d).processes) c e f.processes (f.processes_after ready) f.components f.mine h
  kernel_merged p s pid d (shows y) f h = display_merged (length s.output == output_room) s pid d y f.processes f.mine
  kernel_merged p s pid d ends f h = ap (λ t. let y : Stepped = record { state = t; event = Rattle.cp_meaning.specs.Kernel.ended_event } in y) (moved_merged ended s pid d f.processes f.mine)

  -- ---- a step

  -- what was done is its own
  abbrev pub DoneOwn : State → ℕ → Outcome Doing → Type 0
  DoneOwn s pid (Ok d) = Fitting s pid d × MoveOwn s pid d d.move
  DoneOwn s pid (Err e) = Unit {0}

  settled_merged : (p : Program) (s : State) (pid : ℕ) (o : Outcome Doing) → DoneOwn s pid o → settled p (merged s) pid (all_mixed own ln x.components o) ≡ merged_step (settled p s pid o)
  settled_merged p s pid (Ok d) h = kernel_merged p s pid d d.move h.0 h.1
  settled_merged p s pid (Err e) h = refl

  abbrev pub done_of : Program → State → ℕ → Outcome Doing
  done_of p s pid = takes (view_of p s pid) pid (process_at s.processes pid).items

  -- what the item of a process needs, so that others do not matter to it
  pub record IsTaken (p : Program) (s : State) (pid : ℕ) : Type 0 where
    pub call : Call
    pub calls : List Call
    pub open_calls : (process_at s.processes pid).calls ≡ call ∷ calls
    pub held : OwnCalls own (call ∷ calls)
    pub many : length s.processes ≡ length x.processes
    pub size : length s.components ≡ length x.components
    -- another's status may become `initialised`, or begin to be; but see `leaves`
    pub told : (n : ℕ) → own n ≡ false → (status_at x.components n ≡ status_at s.components n) ⊎ (status_at s.components n ≡ initialised → ⊥)
    pub mine : procs pid ≡ true
    pub ends : EndsOwn own ln x.components p call calls s.components pid size held told (process_at s.processes pid).items
    -- statuses of the others' are left, and a run error has seen the same ones
    pub leaves : LeavesOthers own ln x.components p call calls s.components pid size held told (takes (record { program = p; calls = call ∷ calls; components = s.components }) pid (process_at s.processes pid).items)

  -- and what its step needs, with what the kernel looks at
  pub record IsApart (p : Program) (s : State) (pid : ℕ) : Type 0 where
    pub taken : IsTaken p s pid
    pub does : DoneOwn s pid (done_of p s pid)

  pub taken_merged : (p : Program) (s : State) (pid : ℕ) → IsTaken p s pid → step_of p (merged s) pid ≡ settled p (merged s) pid (all_mixed own ln x.components (done_of p s pid))
  taken_merged p s pid a =
      ap (λ y. settled p (merged s) pid (takes (let w : View = record { program = p; calls = y.calls; components = mix own ln s.components x.components } in w) pid y.items)) (process_own procs s.processes x.processes pid a.many a.mine) ∙
      ap (λ k. settled p (merged s) pid (takes (let w : View = record { program = p; calls = k; components = mix own ln s.components x.components } in w) pid (process_at s.processes pid).items)) a.open_calls ∙
      ap (settled p (merged s) pid) (takes_reads own ln x.components p a.call a.calls s.components pid a.size a.held a.told (process_at s.processes pid).items a.ends a.leaves) ∙
      ap (λ k. settled p (merged s) pid (all_mixed own ln x.components (takes (let w : View = record { program = p; calls = k; components = s.components } in w) pid (process_at s.processes pid).items))) (sym a.open_calls)

  pub step_merged : (p : Program) (s : State) (pid : ℕ) → IsApart p s pid → step_of p (merged s) pid ≡ merged_step (step_of p s pid)
  step_merged p s pid a = taken_merged p s pid a.taken ∙ settled_merged p s pid (done_of p s pid) a.does
