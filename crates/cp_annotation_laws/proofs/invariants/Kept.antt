-- What the kernel does to processes and components beside what the item of a process did.
use Rattle.std.proofs.Common.{◌≡◌, ◌∙◌, ◌⊎◌, inl, inr, ℕ, ◌<◌, ◌≤◌, Bool, true, false, ◌&&◌, if◌then◌else◌, List, [], ◌∷◌, ◌++◌, length, get_or, set, slice_set, Option, Some, None, ap, sym, refl, subst, length-set}
use Rattle.cp_meaning.specs.State.{Component, component_at, unstarted, ready, at_gate, delayed, Process, process_at, no_process, Gates, first_gates, any_gates, State, waits_at, has_entry}
use Rattle.cp_meaning.specs.Kernel.{with_line_of, with_pending, line_of, with_process_status, made_ready, first_in, one_in, let_in, is_delayed_in, is_monitor, waits_inside, continuing, at_gate_last, notifying}
use Rattle.cp_meaning.proofs.Frames.{at_set}
use Rattle.cp_meaning.proofs.KernelLaw.{delayed_told}
use Rattle.cp_meaning.proofs.Stored.{field_kept}

-- a process that may have come to a gate from a queue, or gone in
pub record IsKept (x y : Process) : Type 0 where
  pub calls : y.calls ≡ x.calls
  pub items : y.items ≡ x.items
  pub ready_still : x.status ≡ ready → y.status ≡ ready
  pub outside : (n : ℕ) → waits_at n x.status ≡ false → waits_at n y.status ≡ false
  pub begun : y.status ≡ unstarted → x.status ≡ unstarted

abbrev pub AllKept : List Process → List Process → Type 0
AllKept ps qs = (q : ℕ) → IsKept (process_at ps q) (process_at qs q)

-- the lines may have changed
pub record SameButLines (cs ds : List Component) : Type 0 where
  pub size : length ds ≡ length cs
  pub environment : (n : ℕ) → (component_at ds n).environment ≡ (component_at cs n).environment
  pub status : (n : ℕ) → (component_at ds n).status ≡ (component_at cs n).status
  pub system : (n : ℕ) → (component_at ds n).system ≡ (component_at cs n).system

pub record KeptState (s t : State) : Type 0 where
  pub processes : AllKept s.processes t.processes
  pub count : length t.processes ≡ length s.processes
  pub components : SameButLines s.components t.components

pub kept_itself : (x : Process) → IsKept x x
kept_itself x = record { calls = refl; items = refl; ready_still = λ h. h; outside = λ n h. h; begun = λ h. h }

pub kept_after : (x y z : Process) → IsKept x y → IsKept y z → IsKept x z
kept_after x y z h k =
    record { calls = k.calls ∙ h.calls; items = k.items ∙ h.items; ready_still = λ e. k.ready_still (h.ready_still e); outside = λ n e. k.outside n (h.outside n e); begun = λ e. h.begun (k.begun e) }

pub same_but_lines : (cs : List Component) → SameButLines cs cs
same_but_lines cs = record { size = refl; environment = λ n. refl; status = λ n. refl; system = λ n. refl }

pub lines_after : (cs ds es : List Component) → SameButLines cs ds → SameButLines ds es → SameButLines cs es
lines_after cs ds es h k = record { size = k.size ∙ h.size; environment = λ n. k.environment n ∙ h.environment n; status = λ n. k.status n ∙ h.status n; system = λ n. k.system n ∙ h.system n }

pub state_itself : (s : State) → KeptState s s
state_itself s = record { processes = λ q. kept_itself (process_at s.processes q); count = refl; components = same_but_lines s.components }

pub state_after : (s t u : State) → KeptState s t → KeptState t u → KeptState s u
state_after s t u h k =
    record { processes = λ q. kept_after (process_at s.processes q) (process_at t.processes q) (process_at u.processes q) (h.processes q) (k.processes q); count = k.count ∙ h.count; components = lines_after s.components t.components u.components h.components k.components }

-- ---- one process replaced

all_set : (ps : List Process) (r : ℕ) (y : Process) → IsKept (process_at ps r) y → AllKept ps (slice_set ps r y)
all_set ps r y h q = go (at_set ps r q y no_process)
  where
    go : ((q ≡ r) × (r < length ps) × (get_or (set ps r y) q no_process ≡ y)) ⊎ ((q ≡ r → length ps ≤ r) × (get_or (set ps r y) q no_process ≡ get_or ps q no_process)) → IsKept (process_at ps q) (process_at (slice_set ps r y) q)
    go (inl k) = subst (IsKept (process_at ps q)) (sym k.2) (subst (λ j. IsKept (process_at ps j) y) (sym k.0) h)
    go (inr k) = subst (IsKept (process_at ps q)) (sym k.1) (kept_itself (process_at ps q))

ready_kept : (x : Process) → IsKept x (with_process_status x ready)
ready_kept x = record { calls = refl; items = refl; ready_still = λ h. refl; outside = λ n h. refl; begun = λ h. absurd (let bad : ready ≡ unstarted = h in cc) }

gate_kept : (m : ℕ) (x : Process) → x.status ≡ delayed m → IsKept x (with_process_status x (at_gate m))
gate_kept m x e =
    record {
      calls = refl;
      items = refl;
      ready_still = λ h. absurd (let bad : delayed m ≡ ready = sym e ∙ h in cc);
      outside = λ n h. sym (ap (waits_at n) e) ∙ h;
      begun = λ h. absurd (let bad : at_gate m ≡ unstarted = h in cc);
    }

pub made_kept : (s : State) (q : ℕ) → KeptState s (made_ready s q)
made_kept s q = record { processes = all_set s.processes q (with_process_status (process_at s.processes q) ready) (ready_kept (process_at s.processes q)); count = length-set s.processes q (with_process_status (process_at s.processes q) ready); components = same_but_lines s.components }

pub line_kept : (s : State) (m : ℕ) (line : List ℕ) → KeptState s (with_line_of s m line)
line_kept s m line =
    record {
      processes = λ q. kept_itself (process_at s.processes q);
      count = refl;
      components = record {
        size = length-set s.components m _;
        environment = field_kept (λ c. c.environment) s.components m _ refl;
        status = field_kept (λ c. c.status) s.components m _ refl;
        system = field_kept (λ c. c.system) s.components m _ refl;
      };
    }

pub pending_kept : (s : State) (o : Option ℕ) → KeptState s (with_pending s o)
pending_kept s o = record { processes = λ q. kept_itself (process_at s.processes q); count = refl; components = same_but_lines s.components }

-- who goes in
pub goes_kept : (s : State) (m q : ℕ) (line : List ℕ) → KeptState s (with_line_of (made_ready s q) m line)
goes_kept s m q line = state_after s (made_ready s q) (with_line_of (made_ready s q) m line) (made_kept s q) (line_kept (made_ready s q) m line)

first_kept : (line : List ℕ) (s : State) (m : ℕ) → KeptState s (first_in line s m)
first_kept [] s m = state_itself s
first_kept (q ∷ line) s m = goes_kept s m q line

one_kept : (line : List ℕ) (s : State) (m : ℕ) → KeptState s (one_in line s m)
one_kept [] s m = state_itself s
one_kept (q ∷ []) s m = goes_kept s m q []
one_kept (q ∷ r ∷ line) s m = pending_kept s (Some m)

pub let_in_kept : (g : Gates) (s : State) (m : ℕ) → KeptState s (let_in g s m)
let_in_kept first_gates s m = first_kept (line_of s m) s m
let_in_kept any_gates s m = one_kept (line_of s m) s m

pub continuing_kept : (s : State) (m : ℕ) (o : Option ℕ) → KeptState s (continuing s m o)
continuing_kept s m None = let_in_kept s.discipline.gates s m
continuing_kept s m (Some r) = go (is_delayed_in m (process_at s.processes r).status)
  where
    go : (b : Bool) → KeptState s (if b then made_ready s r else let_in s.discipline.gates s m)
    go true = made_kept s r
    go false = let_in_kept s.discipline.gates s m

last_true : (a b c : Bool) → ((a && b) && c) ≡ true → c ≡ true
last_true true true c h = h
last_true a b c h = cc

pub notifying_kept : (s : State) (m : ℕ) (o : Option ℕ) → KeptState s (notifying s m o)
notifying_kept s m None = state_itself s
notifying_kept s m (Some r) = go (waits_inside s m r) refl
  where
    go : (b : Bool) → waits_inside s m r ≡ b → KeptState s (if b then at_gate_last s m r else s)
    go true e =
        let status = delayed_told m (process_at s.processes r).status (last_true (is_monitor (component_at s.components m).kind) (has_entry m (process_at s.processes r).calls) (is_delayed_in m (process_at s.processes r).status) e) in
        let t : State = record s { processes = slice_set s.processes r (with_process_status (process_at s.processes r) (at_gate m)) } in
        state_after s t (at_gate_last s m r)
        (record { processes = all_set s.processes r (with_process_status (process_at s.processes r) (at_gate m)) (gate_kept m (process_at s.processes r) status); count = length-set s.processes r (with_process_status (process_at s.processes r) (at_gate m)); components = same_but_lines s.components })
        (line_kept t m (line_of s m ++ r ∷ []))
    go false e = state_itself s
