-- A queue is emptied: who waited in it comes to the gate of its monitor, or is ready and inside, where nobody was.
use Rattle.std.proofs.Common.{◌≡◌, ◌≢◌, ◌∙◌, ℕ, suc, zero, ◌+◌, ◌<◌, ◌==◌, ◌⊎◌, inl, inr, Bool, true, false, cond, ltb, List, [], ◌∷◌, Some, None, ap, sym, refl, subst, arith, length, length-set, eq-eqb}
use Rattle.std.specs.Prelude.{◌&&◌, not, position, pos, slice_index_or, slice_set}
use Rattle.cp_machine_laws.proofs.Words.{position_or_len, eqb-true, lt-ltb, le-ltb, Program, component_at, Address, Permanent, Name, same_name, Ty, queue_type}
use Rattle.cp_machine_laws.proofs.Words.{Value, queue_value, Choice, part_at, View, content_of, value_held, environment_of, value_at, first_inside, Layouts, look, chosen_at}
use Rattle.cp_machine_laws.proofs.Words.{Ground, further, LiesAt, Runs, StatusIs, MonitorIs, BeginsAt, PlaceAt, all_permanents, Represents}
use Rattle.cp_slots.specs.declared.tables.ComponentKind.TheVariants as kind
use Rattle.cp_machine.specs.declared.process.Status as slot_status
use Rattle.cp_machine.specs.declared.process.Status.TheVariants as status
use Rattle.cp_machine.specs.Kernel as machine
use Rattle.cp_machine.specs.Machine.{Machine, Monitor, Thread, no_thread, monitor_at, thread_at, is_delayed_at}
use Rattle.cp_meaning.specs.State as named
use Rattle.cp_meaning.specs.State.{Holder, in_call, in_component, Place, Component, ready, at_gate, delayed, Status, Process, State, has_entry, waits_at}
use Rattle.cp_machine_laws.proofs.gates.Gates.{OwnNumbers, all_outside, only_one, monitors_change}
use Rattle.cp_machine_laws.proofs.control.Moving.{set_here, same_or_other, inside_same, monitor_from, delayed_process, here_process, counts_stand, still_there, processes_stand, unstarted_still, delayed_before, delayed_after}
use Rattle.cp_machine_laws.proofs.queues.QueueWriting.{old, components_after, permanents_after, old_lies, line_same, components_stand, variables_after, IsWritten, written_value, old_written, queue_kept, cell, there_named}
use Rattle.cp_machine_laws.proofs.expressions.Reading.{part_lies}
use Rattle.cp_machine_laws.proofs.assignments.Writing.{ComponentsApart}
use Rattle.cp_machine_laws.proofs.expressions.Members.{not_equal as differs}

-- ---- the first that passes a test

position_is : {A : Type 0} (test : A → Bool) (xs : List A) (n : ℕ) (d : A) → n < length xs → test (slice_index_or xs n d) ≡ true → ((i : ℕ) → i < length xs → i ≢ n → test (slice_index_or xs i d) ≡ false) → position_or_len test xs ≡ n
position_is test [] n d less h others = absurd (omega arith)
position_is test (x ∷ xs) zero d less h others = ap (λ (b : Bool). cond (not b) (1 + position_or_len test xs) 0) h
position_is test (x ∷ xs) (suc n) d less h others =
    let first : test x ≡ false = others 0 (omega arith) (λ e. omega (arith, e)) in
    let more = position_is test xs n d (omega arith) h (λ i small other. others (suc i) (omega arith) (λ e. other (omega (arith, e)))) in
    ap (λ (b : Bool). cond (not b) (1 + position_or_len test xs) 0) first ∙ (ap (λ k. 1 + k) more ∙ omega arith)

position_none : {A : Type 0} (test : A → Bool) (xs : List A) (d : A) → ((i : ℕ) → i < length xs → test (slice_index_or xs i d) ≡ false) → position_or_len test xs ≡ length xs
position_none test [] d others = refl
position_none test (x ∷ xs) d others =
    let first : test x ≡ false = others 0 (omega arith) in
    let more = position_none test xs d (λ i small. others (suc i) (omega arith)) in
    ap (λ (b : Bool). cond (not b) (1 + position_or_len test xs) 0) first ∙ (ap (λ k. 1 + k) more ∙ omega arith)

pub position_found : {A : Type 0} (test : A → Bool) (xs : List A) (n : ℕ) (d : A) → n < length xs → test (slice_index_or xs n d) ≡ true → ((i : ℕ) → i < length xs → i ≢ n → test (slice_index_or xs i d) ≡ false) → position test xs ≡ Some n
position_found test xs n d less h others =
    ap (λ k. cond (ltb k (length xs)) (Some k) None) (position_is test xs n d less h others) ∙ ap (λ (b : Bool). cond b (Some n) None) (lt-ltb n (length xs) less)

pub position_missing : {A : Type 0} (test : A → Bool) (xs : List A) (d : A) → ((i : ℕ) → i < length xs → test (slice_index_or xs i d) ≡ false) → position test xs ≡ None
position_missing test xs d others =
    ap (λ k. cond (ltb k (length xs)) (Some k) None) (position_none test xs d others) ∙ ap (λ (b : Bool). cond b (Some (length xs)) None) (le-ltb (length xs) (length xs) (omega arith))

-- ---- the queue is emptied

module _ (g : Ground) (p : Program) (l : Layouts) (s : State) (m : Machine) (rep : Represents g p l s m) (apart : ComponentsApart g.tables l)
    (parts_apart : (n : ℕ) (x w : Name) (t u : Ty) → look x (l.systems n).parts ≡ Some t → look w (l.systems n).variables ≡ Some u → same_name x w ≡ false)
    (n : ℕ) (y : Name) (u : Ty) (choices : List Choice) (offset : ℕ) (there : n < length g.tables.components) (known : look y (l.systems (component_at g.tables n).system).variables ≡ Some u) (chosen : chosen_at u choices ≡ Some (offset, queue_type)) where
  abbrev pub at : ℕ
  at = cell g p l s m rep apart parts_apart n y u choices offset None there known chosen

  abbrev pub old_queue : Value
  old_queue = part_at (old g p l s m rep apart parts_apart n y u choices offset None there known chosen) choices

  abbrev pub emptied : List Component
  emptied = components_after g p l s m rep apart parts_apart n y u choices offset None there known chosen

  abbrev place : Place
  place = record { holder = in_component n; name = y; choices = choices }

  place_stands : PlaceAt g.tables l [] place queue_type (Permanent at)
  place_stands = record { whole = u; first = Permanent ((component_at g.tables n).base + (l.systems (component_at g.tables n).system).slots y); offset = offset; begins = record { there = there; known = known; address = refl }; chosen = chosen; address = refl }

  abbrev Written : Place → ℕ → Type 0
  Written x i = IsWritten g p l s m rep apart parts_apart n y u choices offset None there known chosen x i

  abbrev old_view : View → View
  old_view v = record { program = v.program; calls = v.calls; components = s.components }

  there_component : n < length s.components
  there_component = there_named g p l s m rep apart parts_apart n y u choices offset None there known chosen

  pub count : length emptied ≡ length s.components
  count = length-set s.components n _

  pub lines_same : (i : ℕ) → (named.component_at emptied i).line ≡ (named.component_at s.components i).line
  lines_same i = line_same g p l s m rep apart parts_apart n y u choices offset None there known chosen i

  kept : (v : View) (x : Place) (i a : ℕ) → v.components ≡ emptied → x.holder ≡ in_component i → PlaceAt g.tables l [] x queue_type (Permanent a) → (Written x i × (same_name y y ≡ true)) ⊎ (value_at v x ≡ value_at (old_view v) x)
  kept v x i a c e h = queue_kept g p l s m rep apart parts_apart n y u choices offset None there known chosen v x i a c e h

  now_empty : (v : View) (x : Place) (i : ℕ) → v.components ≡ emptied → x.holder ≡ in_component i → Written x i → same_name y y ≡ true → value_at v x ≡ queue_value None
  now_empty v x i c e w t = written_value g p l s m rep apart parts_apart n y u choices offset None there known chosen v x i c e w t

  was_old : (v : View) (x : Place) (i : ℕ) → x.holder ≡ in_component i → Written x i → value_at (old_view v) x ≡ old_queue
  was_old v x i e w = old_written g p l s m rep apart parts_apart n y u choices offset None there known chosen v x i e w

  abbrev memory_after : Machine
  memory_after = record m { permanents = permanents_after g p l s m rep apart parts_apart n y u choices offset None there known chosen }

  -- the cell of the queue holds that nobody waits
  cell_zero : slice_index_or memory_after.permanents at (pos 0) ≡ pos 0
  cell_zero =
      set_here m.permanents at (pos 0) (pos 0)
      (let lies = part_lies (all_permanents m) u (old g p l s m rep apart parts_apart n y u choices offset None there known chosen) (Permanent ((component_at g.tables n).base + (l.systems (component_at g.tables n).system).slots y)) choices (offset, queue_type) (old_lies g p l s m rep apart parts_apart n y u choices offset None there known chosen) chosen in
      let a = lies.cells in omega (arith, a))

  -- what a queue of a component holds lies in its cell afterwards
  lies_after : (v : View) (x : Place) (i a : ℕ) → v.components ≡ emptied → x.holder ≡ in_component i → PlaceAt g.tables l [] x queue_type (Permanent a) → LiesAt (all_permanents memory_after) queue_type (value_at v x) (Permanent a)
  lies_after v x i a c e h = go x.holder e h.begins
    where
      go : (o : Holder) → o ≡ in_component i → BeginsAt g.tables l [] o x.name h.whole h.first → LiesAt (all_permanents memory_after) queue_type (part_at (value_held (content_of x.name (environment_of v o))) x.choices) (Permanent a)
      go (in_call b) d begins = absurd (cc)
      go (in_component k) d begins =
          subst (λ (b : Address). LiesAt (all_permanents memory_after) queue_type (part_at (value_held (content_of x.name (named.component_at v.components k).environment)) x.choices) b) (sym h.address)
          (subst (λ (cs : List Component). LiesAt (all_permanents memory_after) queue_type (part_at (value_held (content_of x.name (named.component_at cs k).environment)) x.choices) (further h.first h.offset)) (sym c)
          (part_lies (all_permanents memory_after) h.whole (value_held (content_of x.name (named.component_at emptied k).environment)) h.first x.choices (h.offset, queue_type)
          (subst (λ (b : Address). LiesAt (all_permanents memory_after) h.whole (value_held (content_of x.name (named.component_at emptied k).environment)) b) (sym begins.address)
          (variables_after g p l s m rep apart parts_apart n y u choices offset None there known chosen k x.name h.whole begins.there begins.known)) h.chosen))

  -- so no queue with somebody has this cell
  nobody_there : (v : View) (x : Place) (i r : ℕ) → v.components ≡ emptied → x.holder ≡ in_component i → PlaceAt g.tables l [] x queue_type (Permanent at) → value_at v x ≡ queue_value (Some r) → ⊥
  nobody_there v x i r c e h w =
      let lies = subst (λ (b : Value). LiesAt (all_permanents memory_after) queue_type b (Permanent at)) w (lies_after v x i at c e h) in
      let one : slice_index_or memory_after.permanents at (pos 0) ≡ pos 1 = ap (λ b. slice_index_or memory_after.permanents b (pos 0)) (let z : at ≡ at + 0 = omega arith in z) ∙ lies.block 0 (omega arith) in
      let both : pos 0 ≡ pos 1 = sym cell_zero ∙ one in
      cc

  -- who waits by the slots in this cell waits in this queue on names
  pub waits_here : (r i : ℕ) → r < length s.processes → (named.process_at s.processes r).status ≡ delayed i → (thread_at m.threads r).status ≡ status.Delayed at → old_queue ≡ queue_value (Some r)
  waits_here r i h e f =
      let v : View = record { program = p; calls = []; components = emptied } in
      let w = rep.queues.waiting r i at (old_view v) h e f refl in
      go v refl w (kept v w.0 i at refl w.1 w.2)
    where
      go : (v : View) → v.components ≡ emptied → (w : (x : Place) × (x.holder ≡ in_component i) × PlaceAt g.tables l [] x queue_type (Permanent at) × (value_at (old_view v) x ≡ queue_value (Some r))) → (Written w.0 i × (same_name y y ≡ true)) ⊎ (value_at v w.0 ≡ value_at (old_view v) w.0) → old_queue ≡ queue_value (Some r)
      go v c w (inl d) = sym (was_old v w.0 i w.1 d.0) ∙ w.3
      go v c w (inr d) = absurd (nobody_there v w.0 i r c w.1 w.2 (d ∙ w.3))

  not_waiting : (r : ℕ) → r < length m.threads → (old_queue ≡ queue_value (Some r) → ⊥) → is_delayed_at at (thread_at m.threads r).status ≡ false
  not_waiting r h never = go (thread_at m.threads r).status refl
    where
      less : r < length s.processes
      less = let e = rep.process_count in omega (arith, e, h)

      by_cell : (a : ℕ) → (thread_at m.threads r).status ≡ status.Delayed a → (b : Bool) → a == at ≡ b → a == at ≡ false
      by_cell a e false d = d
      by_cell a e true d = (let w = delayed_process g p l r (named.process_at s.processes r) (thread_at m.threads r) a (rep.processes r less) e in absurd (never (waits_here r w.0 less w.1 (e ∙ ap status.Delayed (eqb-true a at d)))))

      go : (w : slot_status.Status) → (thread_at m.threads r).status ≡ w → is_delayed_at at w ≡ false
      go (status.Delayed a) e = by_cell a e (a == at) refl
      go _ e = refl

  -- ---- who is found in the queue

  pub found_none : old_queue ≡ queue_value None → machine.waits_in m at ≡ None
  found_none e = position_missing (λ (t : Thread). is_delayed_at at t.status) m.threads no_thread (λ i h. not_waiting i h (λ f. absurd (let w : queue_value None ≡ queue_value (Some i) = sym e ∙ f in cc)))

  -- the process that the queue has on names is delayed in the monitor, and on slots in the cell
  pub is_waiting : (r : ℕ) → old_queue ≡ queue_value (Some r) → (r < length s.processes) × ((named.process_at s.processes r).status ≡ delayed n) × ((thread_at m.threads r).status ≡ status.Delayed at)
  is_waiting r e = rep.queues.queued place r n at (record { program = p; calls = []; components = s.components }) refl refl place_stands e

  pub found_some : (r : ℕ) → old_queue ≡ queue_value (Some r) → machine.waits_in m at ≡ Some r
  found_some r e =
      let w = is_waiting r e in
      position_found (λ (t : Thread). is_delayed_at at t.status) m.threads r no_thread (let a = w.0 in let b = rep.process_count in omega (arith, a, b)) (ap (is_delayed_at at) w.2 ∙ eq-eqb at at refl)
      (λ i h other. not_waiting i h (λ f. other (let same : queue_value (Some i) ≡ queue_value (Some r) = sym f ∙ e in cc)))

  process_is : (a b : ℕ) → queue_value (Some a) ≡ queue_value (Some b) → a ≡ b
  process_is a b e = cc

  cell_is : (a b : ℕ) → status.Delayed a ≡ status.Delayed b → a ≡ b
  cell_is a b e = cc

  abbrev Waits : (r i a : ℕ) → View → Type 0
  Waits r i a v = (x : Place) × (x.holder ≡ in_component i) × PlaceAt g.tables l [] x queue_type (Permanent a) × (value_at v x ≡ queue_value (Some r))

  -- another process that waited waits still
  still_waits : (r i a : ℕ) (v : View) → v.components ≡ emptied → (old_queue ≡ queue_value (Some r) → ⊥) → Waits r i a (old_view v) → Waits r i a v
  still_waits r i a v c never w = go (kept v w.0 i a c w.1 w.2)
    where
      go : (Written w.0 i × (same_name y y ≡ true)) ⊎ (value_at v w.0 ≡ value_at (old_view v) w.0) → Waits r i a v
      go (inl d) = absurd (never (sym (was_old v w.0 i w.1 d.0) ∙ w.3))
      go (inr d) = (w.0, w.1, w.2, d ∙ w.3)

  -- and who waits in a queue waited there
  waited : (x : Place) (r i a : ℕ) (v : View) → v.components ≡ emptied → x.holder ≡ in_component i → PlaceAt g.tables l [] x queue_type (Permanent a) → value_at v x ≡ queue_value (Some r) → value_at (old_view v) x ≡ queue_value (Some r)
  waited x r i a v c e h w = go (kept v x i a c e h)
    where
      go : (Written x i × (same_name y y ≡ true)) ⊎ (value_at v x ≡ value_at (old_view v) x) → value_at (old_view v) x ≡ queue_value (Some r)
      go (inl d) = absurd (let none : queue_value None ≡ queue_value (Some r) = sym (now_empty v x i c e d.0 d.1) ∙ w in cc)
      go (inr d) = sym d ∙ w

  -- ---- nobody waited

  module _ (nobody : old_queue ≡ queue_value None) where
    never_here : (r : ℕ) → old_queue ≡ queue_value (Some r) → ⊥
    never_here r e = let none : queue_value None ≡ queue_value (Some r) = sym nobody ∙ e in cc

    pub emptied_none : Represents g p l (record s { components = emptied }) memory_after
    emptied_none =
        record {
          process_count = rep.process_count;
          component_count = count ∙ rep.component_count;
          processes = rep.processes;
          components = components_stand g p l s m rep apart parts_apart n y u choices offset None there known chosen (record s { components = emptied }) memory_after (λ i e. e);
          monitors = λ i h. monitor_from s (record s { components = emptied }) m memory_after i (component_at g.tables i).kind refl (lines_same i) (λ a e. refl) (rep.monitors i (let e = count in omega (arith, e, h)));
          queues = record {
            waiting = λ r i a v h e f c. still_waits r i a v c (never_here r) (rep.queues.waiting r i a (old_view v) h e f refl);
            queued = λ x r i a v c e h w. rep.queues.queued x r i a (old_view v) refl e h (waited x r i a v c e h w);
          };
          pending = rep.pending;
          discipline = rep.discipline;
          output = rep.output;
        }

  -- ---- a process waited, and waits in no queue now

  module _ (r : ℕ) (somebody : old_queue ≡ queue_value (Some r)) where
    abbrev before : Process
    before = named.process_at s.processes r

    abbrev thread : Thread
    thread = thread_at m.threads r

    there_r : r < length s.processes
    there_r = (is_waiting r somebody).0

    was : before.status ≡ delayed n
    was = (is_waiting r somebody).1

    runs_in_queue : Runs g p l before thread
    runs_in_queue = subst (λ w. StatusIs g p l r before thread (delayed n) w) (is_waiting r somebody).2 (subst (λ w. StatusIs g p l r before thread w thread.status) was (rep.processes r there_r).status)

    module _ (now : Status) (slot : slot_status.Status) (ms : List Monitor) where
      abbrev pub process_on : Process
      process_on = record before { status = now }

      abbrev pub thread_on : Thread
      thread_on = record thread { status = slot }

      abbrev pub state_on : State
      state_on = record s { processes = slice_set s.processes r process_on; components = emptied }

      abbrev pub machine_on : Machine
      machine_on = record memory_after { threads = slice_set m.threads r thread_on; monitors = ms }

      module _ (awake : (i : ℕ) → now ≡ delayed i → ⊥) (stands : StatusIs g p l r process_on thread_on now slot) where
        waiting_on : (k i a : ℕ) (v : View) → k < length (slice_set s.processes r process_on) → (named.process_at (slice_set s.processes r process_on) k).status ≡ delayed i → (thread_at (slice_set m.threads r thread_on) k).status ≡ status.Delayed a → v.components ≡ emptied → Waits k i a v
        waiting_on k i a v h e f c = go (same_or_other k r)
          where
            go : (k ≡ r) ⊎ (k ≢ r) → Waits k i a v
            go (inl d) = absurd (awake i (sym (ap (λ b. (named.process_at (slice_set s.processes r process_on) b).status) d ∙ ap (λ (x : Process). x.status) (here_process g p l s m rep r there_r process_on thread_on)) ∙ e))
            go (inr d) =
                let w = delayed_before g p l s m rep r there_r process_on thread_on k i a d e f in
                still_waits k i a v c (λ w. d (process_is k r (sym w ∙ somebody))) (rep.queues.waiting k i a (old_view v) (still_there g p l s m rep r there_r process_on thread_on k h) w.0 w.1 refl)

        queued_on : (x : Place) (k i a : ℕ) (v : View) → v.components ≡ emptied → x.holder ≡ in_component i → PlaceAt g.tables l [] x queue_type (Permanent a) → value_at v x ≡ queue_value (Some k) →
            (k < length (slice_set s.processes r process_on)) × ((named.process_at (slice_set s.processes r process_on) k).status ≡ delayed i) × ((thread_at (slice_set m.threads r thread_on) k).status ≡ status.Delayed a)
        queued_on x k i a v c e h w =
            let old = rep.queues.queued x k i a (old_view v) refl e h (waited x k i a v c e h w) in
            let other : k ≢ r = (λ d. (let same : a ≡ at = cell_is a at (sym old.2 ∙ (ap (λ b. (thread_at m.threads b).status) d ∙ (is_waiting r somebody).2)) in nobody_there v x i k c e (subst (λ b. PlaceAt g.tables l [] x queue_type (Permanent b)) same h) w)) in
            delayed_after g p l s m rep r there_r process_on thread_on k i a other old

        leaves_queue : ((i : ℕ) → i < length s.components → MonitorIs state_on machine_on i (component_at g.tables i).kind) → Represents g p l state_on machine_on
        leaves_queue monitors =
            record {
              process_count = counts_stand g p l s m rep r there_r process_on thread_on;
              component_count = count ∙ rep.component_count;
              processes = processes_stand g p l s m rep r there_r process_on thread_on (record { component = (rep.processes r there_r).component; status = stands });
              components = components_stand g p l s m rep apart parts_apart n y u choices offset None there known chosen state_on machine_on (unstarted_still g p l s m rep r there_r process_on thread_on (λ e. (let w = was in cc)));
              monitors = λ i h. monitors i (let e = count in omega (arith, e, h));
              queues = record { waiting = waiting_on; queued = queued_on };
              pending = rep.pending;
              discipline = rep.discipline;
              output = rep.output;
            }

    -- ---- it comes to the gate, and lines stand as they did

    module _ (j : ℕ) (is : (component_at g.tables n).kind ≡ kind.Monitor j) where
      -- who waits in a monitor is inside of the same others in its queue and at its gate
      holders_stand : (i : ℕ) → first_inside i (slice_set s.processes r (process_on (at_gate n) (status.AtGate j) m.monitors)) ≡ first_inside i s.processes
      holders_stand i = inside_same i r (process_on (at_gate n) (status.AtGate j) m.monitors) s.processes (sym (ap (λ (v : Status). has_entry i before.calls && not (waits_at i v)) was)) there_r

      pub comes_to_gate : Represents g p l (state_on (at_gate n) (status.AtGate j) m.monitors) (machine_on (at_gate n) (status.AtGate j) m.monitors)
      comes_to_gate =
          leaves_queue (at_gate n) (status.AtGate j) m.monitors (λ i e. cc) (is, record { stack = runs_in_queue.stack; calls = runs_in_queue.calls })
          (λ i h. monitor_from s (state_on (at_gate n) (status.AtGate j) m.monitors) m (machine_on (at_gate n) (status.AtGate j) m.monitors) i (component_at g.tables i).kind refl (lines_same i) (λ a e. holders_stand i) (rep.monitors i h))

    -- ---- it is ready and inside, where nobody was

    module _ (own : OwnNumbers g) (j : ℕ) (is : (component_at g.tables n).kind ≡ kind.Monitor j) (known_j : j < length m.monitors) (free : first_inside n s.processes ≡ None) (called : has_entry n before.calls ≡ true) where
      abbrev monitors_on : List Monitor
      monitors_on = slice_set m.monitors j (record { holder = Some r; line = (monitor_at m j).line })

      monitor_here : MonitorIs s m n (kind.Monitor j)
      monitor_here = subst (MonitorIs s m n) is (rep.monitors n there_component)

      inside_on : first_inside n (slice_set s.processes r (process_on ready status.Ready monitors_on)) ≡ Some r
      inside_on = only_one n r (process_on ready status.Ready monitors_on) s.processes there_r (λ i h d. all_outside n s.processes free i h) (ap (λ b. b && true) called)

      holders_on : (i : ℕ) → i ≢ n → first_inside i (slice_set s.processes r (process_on ready status.Ready monitors_on)) ≡ first_inside i s.processes
      holders_on i d = inside_same i r (process_on ready status.Ready monitors_on) s.processes (sym (ap (λ (v : Status). has_entry i before.calls && not (waits_at i v)) was ∙ ap (λ b. has_entry i before.calls && not b) (differs n i (λ e. d (sym e))))) there_r

      pub resumed_some : Represents g p l (state_on ready status.Ready monitors_on) (machine_on ready status.Ready monitors_on)
      resumed_some =
          leaves_queue ready status.Ready monitors_on (λ i e. cc) (record { stack = runs_in_queue.stack; calls = runs_in_queue.calls })
          (λ i h. monitors_change g s (state_on ready status.Ready monitors_on) m (machine_on ready status.Ready monitors_on) n j own is (record { holder = Some r; line = (monitor_at m j).line }) known_j refl (monitor_here.0 ∙ sym (lines_same n)) (sym inside_on) (λ a d. lines_same a) holders_on i (component_at g.tables i).kind refl (rep.monitors i h))
