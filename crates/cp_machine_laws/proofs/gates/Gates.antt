-- Entering a monitor: who is inside on names is the holder on slots.
use Rattle.std.proofs.Common.{◌≡◌, ◌≢◌, ◌∙◌, ℕ, zero, suc, ◌<◌, ◌⊎◌, inl, inr, Bool, true, false, not, if◌then◌else◌, List, [], ◌∷◌, ◌++◌, Option, Some, None, ap, sym, refl, subst, arith, length, length-set, eq-eqb}
use Rattle.cp_machine_laws.proofs.Words.{◌&&◌, ◌||◌, slice_index_or, slice_set, Program, ComponentKind, component_at, Layouts, Ground, Runs, StatusIs, ProcessIs, MonitorIs}
use Rattle.cp_machine_laws.proofs.Words.{Represents, Machine, Monitor, Thread, thread_at, monitor_at, no_monitor, with_thread}
use Rattle.cp_slots.specs.declared.tables.ComponentKind.TheVariants as kind
use Rattle.cp_machine.specs.declared.process.Status as slot_status
use Rattle.cp_machine.specs.declared.process.Status.TheVariants as status
use Rattle.cp_machine.specs.Kernel.{enter_by}
use Rattle.cp_meaning.specs.State as named
use Rattle.cp_meaning.specs.State.{Component, no_component, ready, at_gate, Status, Process, no_process, State, is_inside, has_entry, waits_at}
use Rattle.cp_meaning.specs.Kernel.{after, is_anybody_inside, with_line, line_of}
use Rattle.cp_meaning.specs.Readings.{first_inside, holder_of}
use Rattle.cp_machine_laws.proofs.control.Moving.{set_here, set_there, same_or_other, set_keeps, inside_same, IsAwake, ready_awake, gate_awake, moved}
use Rattle.cp_machine_laws.proofs.expressions.Members.{not_equal as differs}

-- ---- who is inside

after_none : (o : Option ℕ) → after o ≡ None → o ≡ None
after_none None e = refl
after_none (Some k) e = absurd (cc)

pub all_outside : (n : ℕ) (ps : List Process) → first_inside n ps ≡ None → (k : ℕ) → k < length ps → is_inside n (slice_index_or ps k no_process) ≡ false
all_outside n [] e k h = absurd (omega arith)
all_outside n (p ∷ ps) e k h = go k (is_inside n p) refl (λ d i less. all_outside n ps d i less) e h
  where
    go : (k : ℕ) (b : Bool) → is_inside n p ≡ b → (first_inside n ps ≡ None → (i : ℕ) → i < length ps → is_inside n (slice_index_or ps i no_process) ≡ false) → (if b then Some 0 else after (first_inside n ps)) ≡ None → k < suc (length ps) → is_inside n (slice_index_or (p ∷ ps) k no_process) ≡ false
    go k true d ih e h = absurd (cc)
    go zero false d ih e h = d
    go (suc k) false d ih e h = ih (after_none (first_inside n ps) e) k (omega arith)

pub nobody_inside : (n : ℕ) (ps : List Process) → first_inside n ps ≡ None → is_anybody_inside n ps ≡ false
nobody_inside n [] e = refl
nobody_inside n (p ∷ ps) e = go (is_inside n p) (λ d. nobody_inside n ps d) e
  where
    go : (b : Bool) → (first_inside n ps ≡ None → is_anybody_inside n ps ≡ false) → (if b then Some 0 else after (first_inside n ps)) ≡ None → (b || is_anybody_inside n ps) ≡ false
    go true ih e = absurd (cc)
    go false ih e = ih (after_none (first_inside n ps) e)

after_some : (o : Option ℕ) (r : ℕ) → after o ≡ Some r → (k : ℕ) × (o ≡ Some k)
after_some None r e = absurd (cc)
after_some (Some k) r e = (k, refl)

pub somebody_inside : (n r : ℕ) (ps : List Process) → first_inside n ps ≡ Some r → is_anybody_inside n ps ≡ true
somebody_inside n r [] e = absurd (cc)
somebody_inside n r (p ∷ ps) e = go (is_inside n p) (λ k d. somebody_inside n k ps d) e
  where
    go : (b : Bool) → ((k : ℕ) → first_inside n ps ≡ Some k → is_anybody_inside n ps ≡ true) → (if b then Some 0 else after (first_inside n ps)) ≡ Some r → (b || is_anybody_inside n ps) ≡ true
    go true ih e = refl
    go false ih e = let k = after_some (first_inside n ps) r e in ih k.0 k.1

-- no other is inside
abbrev pub OthersOutside : ℕ → ℕ → List Process → Type 0
OthersOutside n q ps = (k : ℕ) → k < length ps → k ≢ q → is_inside n (slice_index_or ps k no_process) ≡ false

none_inside : (n : ℕ) (ps : List Process) → ((k : ℕ) → k < length ps → is_inside n (slice_index_or ps k no_process) ≡ false) → first_inside n ps ≡ None
none_inside n [] h = refl
none_inside n (p ∷ ps) h =
    let e : is_inside n p ≡ false = h 0 (omega arith) in
    let d = none_inside n ps (λ k less. h (suc k) (omega arith)) in
    ap (λ (b : Bool). if b then Some 0 else after (first_inside n ps)) e ∙ ap after d

pub only_one : (n q : ℕ) (x : Process) (ps : List Process) → q < length ps → OthersOutside n q ps → is_inside n x ≡ true → first_inside n (slice_set ps q x) ≡ Some q
only_one n q x [] less others e = absurd (omega arith)
only_one n zero x (p ∷ ps) less others e = ap (λ (b : Bool). if b then Some 0 else after (first_inside n ps)) e
only_one n (suc q) x (p ∷ ps) less others e =
    let d : is_inside n p ≡ false = others 0 (omega arith) (λ z. omega (arith, z)) in
    let c = only_one n q x ps (omega arith) (λ k h z. others (suc k) (omega arith) (λ w. z (omega (arith, w)))) e in
    ap (λ (b : Bool). if b then Some 0 else after (first_inside n (slice_set ps q x))) d ∙ ap after c

pub none_left : (n q : ℕ) (x : Process) (ps : List Process) → q < length ps → OthersOutside n q ps → is_inside n x ≡ false → first_inside n (slice_set ps q x) ≡ None
none_left n q x [] less others e = absurd (omega arith)
none_left n zero x (p ∷ ps) less others e =
    let d = none_inside n ps (λ k h. others (suc k) (omega arith) (λ z. omega (arith, z))) in
    ap (λ (b : Bool). if b then Some 0 else after (first_inside n ps)) e ∙ ap after d
none_left n (suc q) x (p ∷ ps) less others e =
    let d : is_inside n p ≡ false = others 0 (omega arith) (λ z. omega (arith, z)) in
    let c = none_left n q x ps (omega arith) (λ k h z. others (suc k) (omega arith) (λ w. z (omega (arith, w)))) e in
    ap (λ (b : Bool). if b then Some 0 else after (first_inside n (slice_set ps q x))) d ∙ ap after c

pub and_false : (b : Bool) → (b && false) ≡ false
and_false true = refl
and_false false = refl

-- ---- a monitor's number is its own

abbrev pub OwnNumbers : Ground → Type 0
OwnNumbers g = (n k j : ℕ) → (component_at g.tables n).kind ≡ kind.Monitor j → (component_at g.tables k).kind ≡ kind.Monitor j → n ≡ k

same_number : (a b : ℕ) → kind.Monitor a ≡ kind.Monitor b → a ≡ b
same_number a b e = cc

-- what each monitor has, where that of number j changes with component n, and who is inside of the others is as it was
module _ (g : Ground) (s s2 : State) (m m2 : Machine) (n j : ℕ) (own : OwnNumbers g) (is : (component_at g.tables n).kind ≡ kind.Monitor j) (y : Monitor) (known : j < length m.monitors) (changed : m2.monitors ≡ slice_set m.monitors j y)
    (line_here : y.line ≡ (named.component_at s2.components n).line) (holder_here : y.holder ≡ holder_of s2 n)
    (lines_there : (k : ℕ) → k ≢ n → (named.component_at s2.components k).line ≡ (named.component_at s.components k).line) (holders_there : (k : ℕ) → k ≢ n → holder_of s2 k ≡ holder_of s k) where
  monitor_here : monitor_at m2 j ≡ y
  monitor_here = ap (λ ms. slice_index_or ms j no_monitor) changed ∙ set_here m.monitors j y no_monitor known

  pub monitors_change : (k : ℕ) (c : ComponentKind) → (component_at g.tables k).kind ≡ c → MonitorIs s m k c → MonitorIs s2 m2 k c
  monitors_change k (kind.Monitor i) e h = go (same_or_other k n)
    where
      go : (k ≡ n) ⊎ (k ≢ n) → MonitorIs s2 m2 k (kind.Monitor i)
      go (inl d) =
          let w : i ≡ j = same_number i j (sym e ∙ (ap (λ x. (component_at g.tables x).kind) d ∙ is)) in
          let here : monitor_at m2 i ≡ y = ap (monitor_at m2) w ∙ monitor_here in
          (ap (λ (x : Monitor). x.line) here ∙ (line_here ∙ ap (λ x. (named.component_at s2.components x).line) (sym d)), ap (λ (x : Monitor). x.holder) here ∙ (holder_here ∙ ap (holder_of s2) (sym d)))
      go (inr d) =
          let other : i ≢ j = (λ w. d (own k n i e (is ∙ ap kind.Monitor (sym w)))) in
          let there : monitor_at m2 i ≡ monitor_at m i = ap (λ ms. slice_index_or ms i no_monitor) changed ∙ set_there m.monitors j i y no_monitor other in
          (ap (λ (x : Monitor). x.line) there ∙ (h.0 ∙ sym (lines_there k d)), ap (λ (x : Monitor). x.holder) there ∙ (h.1 ∙ sym (holders_there k d)))
  monitors_change k _ e h = tt

-- the components, of which the line of one may change
pub record IsLined (n : ℕ) (cs ds : List Component) : Type 0 where
  pub count : length ds ≡ length cs
  pub status : (k : ℕ) → (named.component_at ds k).status ≡ (named.component_at cs k).status
  pub environment : (k : ℕ) → (named.component_at ds k).environment ≡ (named.component_at cs k).environment
  pub others : (k : ℕ) → k ≢ n → (named.component_at ds k).line ≡ (named.component_at cs k).line

unlined : (n : ℕ) (cs : List Component) → IsLined n cs cs
unlined n cs = record { count = refl; status = λ k. refl; environment = λ k. refl; others = λ k d. refl }

module _ (n : ℕ) (cs : List Component) (line : List ℕ) (there : n < length cs) where
  abbrev changed : Component
  changed = record (named.component_at cs n) { line = line }

  pub lined : IsLined n cs (with_line cs n line)
  lined =
      record {
        count = length-set cs n changed;
        status = set_keeps (λ (c : Component). c.status) cs n changed no_component there refl;
        environment = set_keeps (λ (c : Component). c.environment) cs n changed no_component there refl;
        others = λ k d. ap (λ (c : Component). c.line) (set_there cs n k changed no_component d);
      }

  pub new_line : (named.component_at (with_line cs n line) n).line ≡ line
  new_line = ap (λ (c : Component). c.line) (set_here cs n changed no_component there)

-- ---- a process that enters or leaves a monitor

module _ (g : Ground) (p : Program) (l : Layouts) (s : State) (m : Machine) (q : ℕ) (x : Process) (t : Thread) (n j : ℕ) (rep : Represents g p l s m)
    (own : OwnNumbers g) (is : (component_at g.tables n).kind ≡ kind.Monitor j) (known : j < length m.monitors) (there_n : n < length s.components) (there : q < length s.processes) where
  monitor_at_first : MonitorIs s m n (kind.Monitor j)
  monitor_at_first = subst (MonitorIs s m n) is (rep.monitors n there_n)

  -- who is inside of each other monitor is as before
  pub gate_changes : IsAwake (named.process_at s.processes q).status → IsAwake x.status → ProcessIs g p l q x t → (cs : List Component) (y : Monitor) → IsLined n s.components cs →
      y.line ≡ (named.component_at cs n).line → y.holder ≡ first_inside n (slice_set s.processes q x) → ((k : ℕ) → k ≢ n → is_inside k x ≡ is_inside k (named.process_at s.processes q)) →
      Represents g p l (record s { processes = slice_set s.processes q x; components = cs }) (record m { threads = slice_set m.threads q t; monitors = slice_set m.monitors j y })
  gate_changes was now stands cs y lines line holder inside =
      moved g p l s m q x t cs (slice_set m.monitors j y) s.pending m.pending rep
      (record {
        there = there;
        was_awake = was;
        awake = now;
        stands = stands;
        count = lines.count;
        same_status = lines.status;
        same_environment = lines.environment;
        monitors = λ k h. monitors_change g s (record s { processes = slice_set s.processes q x; components = cs }) m (record m { threads = slice_set m.threads q t; monitors = slice_set m.monitors j y }) n j own is y known refl
            line holder lines.others (λ i d. inside_same i q x s.processes (inside i d) there) k (component_at g.tables k).kind refl (rep.monitors k h);
        pending = rep.pending;
      })

-- ---- enter

-- the caller's entry call is open; its other calls are as they were
pub record HasCalled (n : ℕ) (x old : Process) : Type 0 where
  pub entry : has_entry n x.calls ≡ true
  pub others : (k : ℕ) → k ≢ n → has_entry k x.calls ≡ has_entry k old.calls
  -- it was not inside before: a component calls no entry of itself
  pub fresh : has_entry n old.calls ≡ false

module _ (g : Ground) (p : Program) (l : Layouts) (s : State) (m : Machine) (q : ℕ) (x : Process) (t : Thread) (n j : ℕ) (rep : Represents g p l s m)
    (own : OwnNumbers g) (is : (component_at g.tables n).kind ≡ kind.Monitor j) (known : j < length m.monitors) (there_n : n < length s.components)
    (there : q < length s.processes) (was : (named.process_at s.processes q).status ≡ ready) (was_slot : (thread_at m.threads q).status ≡ status.Ready) (called : HasCalled n x (named.process_at s.processes q)) where
  not_inside : is_inside n (named.process_at s.processes q) ≡ false
  not_inside = ap (λ (b : Bool). b && not (waits_at n (named.process_at s.processes q).status)) called.fresh

  -- who is inside of another monitor is as before
  inside_there : (u : Status) → x.status ≡ u → (k : ℕ) → k ≢ n → waits_at k u ≡ false → is_inside k x ≡ is_inside k (named.process_at s.processes q)
  inside_there u e k d w =
      ap (λ (v : Status). has_entry k x.calls && not (waits_at k v)) e ∙ (ap (λ (b : Bool). has_entry k x.calls && not b) w ∙ (ap (λ (b : Bool). b && true) (called.others k d) ∙ sym (ap (λ (v : Status). has_entry k (named.process_at s.processes q).calls && not (waits_at k v)) was)))

  -- nobody is inside: the caller goes in
  pub enters_free : first_inside n s.processes ≡ None → x.status ≡ ready → ProcessIs g p l q x t →
      Represents g p l (record s { processes = slice_set s.processes q x }) (enter_by None (with_thread m q t) q j)
  enters_free free now stands =
      gate_changes g p l s m q x t n j rep own is known there_n there (ready_awake _ was) (ready_awake x.status now) stands s.components (record { holder = Some q; line = (monitor_at m j).line }) (unlined n s.components)
      (monitor_at_first g p l s m q x t n j rep own is known there_n there).0 holder_here (λ k d. inside_there ready now k d refl)
    where
      inside_now : is_inside n x ≡ true
      inside_now = ap (λ (v : Status). has_entry n x.calls && not (waits_at n v)) now ∙ ap (λ (b : Bool). b && true) called.entry

      holder_here : Some q ≡ first_inside n (slice_set s.processes q x)
      holder_here = sym (only_one n q x s.processes there (λ k h d. all_outside n s.processes free k h) inside_now)

  -- somebody is inside: the caller goes to the end of the line
  pub enters_busy : (r : ℕ) → first_inside n s.processes ≡ Some r → x.status ≡ at_gate n → ProcessIs g p l q x t →
      Represents g p l (record s { processes = slice_set s.processes q x; components = with_line s.components n (line_of s n ++ q ∷ []) })
      (record m { threads = slice_set m.threads q t; monitors = slice_set m.monitors j (record { holder = Some r; line = (monitor_at m j).line ++ q ∷ [] }) })
  enters_busy r busy now stands =
      gate_changes g p l s m q x t n j rep own is known there_n there (ready_awake _ was) (gate_awake n x.status now) stands (with_line s.components n longer) (record { holder = Some r; line = (monitor_at m j).line ++ q ∷ [] }) (lined n s.components longer there_n)
      (ap (λ ks. ks ++ q ∷ []) (monitor_at_first g p l s m q x t n j rep own is known there_n there).0 ∙ sym (new_line n s.components longer there_n)) (sym (inside_same n q x s.processes outside_now there ∙ busy))
      (λ k d. inside_there (at_gate n) now k d (differs n k (λ e. d (sym e))))
    where
      longer : List ℕ
      longer = line_of s n ++ q ∷ []

      outside_now : is_inside n x ≡ is_inside n (named.process_at s.processes q)
      outside_now =
          ap (λ (v : Status). has_entry n x.calls && not (waits_at n v)) now ∙ (ap (λ (b : Bool). has_entry n x.calls && not b) (eq-eqb n n refl) ∙ (and_false (has_entry n x.calls) ∙ sym not_inside))

-- ---- leave: the caller's entry call is given up, and nobody is inside

pub record HasReturned (n : ℕ) (x old : Process) : Type 0 where
  pub out : has_entry n x.calls ≡ false
  pub others : (k : ℕ) → k ≢ n → has_entry k x.calls ≡ has_entry k old.calls

module _ (g : Ground) (p : Program) (l : Layouts) (s : State) (m : Machine) (q : ℕ) (x : Process) (t : Thread) (n j : ℕ) (rep : Represents g p l s m)
    (own : OwnNumbers g) (is : (component_at g.tables n).kind ≡ kind.Monitor j) (known : j < length m.monitors) (there_n : n < length s.components)
    (there : q < length s.processes) (was : (named.process_at s.processes q).status ≡ ready) (returned : HasReturned n x (named.process_at s.processes q)) (exclusive : OthersOutside n q s.processes) where
  pub leaves : x.status ≡ ready → ProcessIs g p l q x t →
      Represents g p l (record s { processes = slice_set s.processes q x }) (record m { threads = slice_set m.threads q t; monitors = slice_set m.monitors j (record { holder = None; line = (monitor_at m j).line }) })
  leaves now stands =
      gate_changes g p l s m q x t n j rep own is known there_n there (ready_awake _ was) (ready_awake x.status now) stands s.components (record { holder = None; line = (monitor_at m j).line }) (unlined n s.components)
      (monitor_at_first g p l s m q x t n j rep own is known there_n there).0 (sym (none_left n q x s.processes there exclusive (ap (λ (b : Bool). b && not (waits_at n x.status)) returned.out))) same_there
    where
      same_there : (k : ℕ) → k ≢ n → is_inside k x ≡ is_inside k (named.process_at s.processes q)
      same_there k d = ap (λ (v : Status). has_entry k x.calls && not (waits_at k v)) now ∙ (ap (λ (b : Bool). b && true) (returned.others k d) ∙ sym (ap (λ (v : Status). has_entry k (named.process_at s.processes q).calls && not (waits_at k v)) was))

-- ---- who waits at the gate of a monitor in which nobody is goes in

module _ (g : Ground) (p : Program) (l : Layouts) (s : State) (m : Machine) (r : ℕ) (line : List ℕ) (n j : ℕ) (rep : Represents g p l s m)
    (own : OwnNumbers g) (is : (component_at g.tables n).kind ≡ kind.Monitor j) (known : j < length m.monitors) (there_n : n < length s.components)
    (there : r < length s.processes) (waits : (named.process_at s.processes r).status ≡ at_gate n) (called : has_entry n (named.process_at s.processes r).calls ≡ true) (free : first_inside n s.processes ≡ None) where
  abbrev goes : Process
  goes = record (named.process_at s.processes r) { status = ready }

  abbrev goes_slot : Thread
  goes_slot = record (thread_at m.threads r) { status = status.Ready }

  -- what is at a gate runs on as it is
  runs_ready : ProcessIs g p l r goes goes_slot
  runs_ready = record { component = (rep.processes r there).component; status = of_gate (thread_at m.threads r).status (subst (λ (u : Status). StatusIs g p l r (named.process_at s.processes r) (thread_at m.threads r) u (thread_at m.threads r).status) waits (rep.processes r there).status) }
    where
      of_gate : (u : slot_status.Status) → StatusIs g p l r (named.process_at s.processes r) (thread_at m.threads r) (at_gate n) u → Runs g p l goes goes_slot
      of_gate (status.AtGate i) h = record { stack = h.1.stack; calls = h.1.calls }
      of_gate _ h = absurd h

  pub goes_in : Represents g p l (record s { processes = slice_set s.processes r (record (named.process_at s.processes r) { status = ready }); components = with_line s.components n line })
      (record m { threads = slice_set m.threads r (record (thread_at m.threads r) { status = status.Ready }); monitors = slice_set m.monitors j (record { holder = Some r; line = line }) })
  goes_in =
      gate_changes g p l s m r goes goes_slot n j rep own is known there_n there (gate_awake n _ waits) (ready_awake ready refl) runs_ready (with_line s.components n line) (record { holder = Some r; line = line }) (lined n s.components line there_n)
      (sym (new_line n s.components line there_n)) (sym (only_one n r goes s.processes there (λ k h d. all_outside n s.processes free k h) (ap (λ (b : Bool). b && true) called)))
      (λ k d. sym (ap (λ (v : Status). has_entry k (named.process_at s.processes r).calls && not (waits_at k v)) waits ∙ ap (λ (b : Bool). has_entry k (named.process_at s.processes r).calls && not b) (differs n k (λ e. d (sym e)))))
