-- A process is delayed: it waits in a queue of its monitor, in which nobody is then.
use Rattle.std.proofs.Common.{◌≡◌, ◌≢◌, ◌∙◌, ℕ, ◌+◌, ◌<◌, ◌⊎◌, inl, inr, true, false, List, [], Some, None, ap, sym, refl, subst, arith, length, length-set, eq-eqb}
use Rattle.cp_machine_laws.proofs.Words.{some_same, ◌&&◌, not, slice_set, bytes_eq-Decides, Program, component_at, Permanent, Entry, Machine, Thread, monitor_at}
use Rattle.cp_machine_laws.proofs.Words.{thread_at, Name, same_name, Ty, queue_type, Value, queue_value, Choice, part_at, View, value_at, first_inside, Layouts, look, Chosen}
use Rattle.cp_machine_laws.proofs.Words.{chosen_at, Ground, further, StackIs, ProcessIs, CallsHold, MonitorIs, BeginsAt, PlaceAt, frames_of, own_memory, Represents}
use Rattle.cp_slots.specs.declared.tables.ComponentKind.TheVariants as kind
use Rattle.cp_machine.specs.declared.process.Status.TheVariants as status
use Rattle.cp_machine.specs.Kernel as machine
use Rattle.cp_meaning.specs.State as named
use Rattle.cp_meaning.specs.State.{Holder, in_call, in_component, Place, ready, delayed, Status, Item, Process, State, has_entry, is_inside, waits_at}
use Rattle.cp_meaning.specs.Kernel as meaning
use Rattle.cp_machine_laws.proofs.control.Control.{Goes}
use Rattle.cp_machine_laws.proofs.gates.Gates.{OwnNumbers, OthersOutside, none_left, monitors_change, and_false}
use Rattle.cp_machine_laws.proofs.gates.LettingIn.{FirstWaits, lets_in}
use Rattle.cp_machine_laws.proofs.control.Moving.{same_or_other, inside_same, here_process, here_thread, counts_stand, still_there, processes_stand, unstarted_still, delayed_before, delayed_after}
use Rattle.cp_machine_laws.proofs.queues.QueueWriting.{old, components_after, permanents_after, line_same, components_stand, IsWritten, written_value, old_written, queue_kept, cell, there_named}
use Rattle.cp_machine_laws.proofs.calls.Returning.{let_in_freed, first_waits_kept}
use Rattle.cp_machine_laws.proofs.assignments.Writing.{ComponentsApart}
use Rattle.cp_machine_laws.proofs.expressions.Members.{not_equal as differs}

-- what has to be known of the monitor in whose queue the process is to wait
pub record MayDelay (g : Ground) (l : Layouts) (s : State) (m : Machine) (q n j : ℕ) : Type 0 where
  pub apart : ComponentsApart g.tables l
  pub parts_apart : (n : ℕ) (x w : Name) (t u : Ty) → look x (l.systems n).parts ≡ Some t → look w (l.systems n).variables ≡ Some u → same_name x w ≡ false
  pub own : OwnNumbers g
  pub is : (component_at g.tables n).kind ≡ kind.Monitor j
  pub known : j < length m.monitors
  pub exclusive : OthersOutside n q s.processes
  pub line : FirstWaits s n (meaning.line_of s n)

module _ (g : Ground) (p : Program) (l : Layouts) (s : State) (m : Machine) (q : ℕ) (es : List Entry) (k : Goes g p l s m q es)
    (zs : List Item) (rest : List Entry) (stack : StackIs g p l (thread_at m.threads q).frame (named.process_at s.processes q).calls zs rest) (frames : frames_of (thread_at m.threads q).frame rest ≡ frames_of (thread_at m.threads q).frame es)
    (n j : ℕ) (may : MayDelay g l s m q n j)
    (y : Name) (u : Ty) (choices : List Choice) (offset : ℕ) (there : n < length g.tables.components) (known : look y (l.systems (component_at g.tables n).system).variables ≡ Some u) (chosen : chosen_at u choices ≡ Some (offset, queue_type)) where
  abbrev before : Process
  before = named.process_at s.processes q

  abbrev thread : Thread
  thread = thread_at m.threads q

  -- where the queue lies, and what it was
  abbrev pub at : ℕ
  at = cell g p l s m k.rep may.apart may.parts_apart n y u choices offset (Some q) there known chosen

  abbrev pub old_queue : Value
  old_queue = part_at (old g p l s m k.rep may.apart may.parts_apart n y u choices offset (Some q) there known chosen) choices

  module _ (free : old_queue ≡ queue_value None) where
    abbrev pub new_process : Process
    new_process = record { component = before.component; status = delayed n; calls = before.calls; items = zs }

    abbrev pub new_thread : Thread
    new_thread = record thread { stack = rest; status = status.Delayed at }

    abbrev pub state_out : State
    state_out = record s { processes = slice_set s.processes q new_process; components = components_after g p l s m k.rep may.apart may.parts_apart n y u choices offset (Some q) there known chosen }

    abbrev pub machine_out : Machine
    machine_out = record m { permanents = permanents_after g p l s m k.rep may.apart may.parts_apart n y u choices offset (Some q) there known chosen; threads = slice_set m.threads q new_thread }

    abbrev machine_freed : Machine
    machine_freed = record machine_out { monitors = slice_set m.monitors j (record { holder = None; line = (monitor_at m j).line }) }

    -- ---- processes

    stands : ProcessIs g p l q new_process new_thread
    stands = record { component = (k.rep.processes q k.there).component; status = record { stack = stack; calls = subst (λ fs. CallsHold g.tables l (own_memory thread) before.calls fs) (sym frames) k.calls } }

    -- ---- monitors

    there_component : n < length s.components
    there_component = there_named g p l s m k.rep may.apart may.parts_apart n y u choices offset (Some q) there known chosen

    monitor_here : MonitorIs s m n (kind.Monitor j)
    monitor_here = subst (MonitorIs s m n) may.is (k.rep.monitors n there_component)

    lines_same : (i : ℕ) → (named.component_at state_out.components i).line ≡ (named.component_at s.components i).line
    lines_same i = line_same g p l s m k.rep may.apart may.parts_apart n y u choices offset (Some q) there known chosen i

    outside : is_inside n new_process ≡ false
    outside = ap (λ b. has_entry n before.calls && not b) (eq-eqb n n refl) ∙ and_false (has_entry n before.calls)

    nobody : first_inside n (slice_set s.processes q new_process) ≡ None
    nobody = none_left n q new_process s.processes k.there may.exclusive outside

    holders_there : (i : ℕ) → i ≢ n → first_inside i (slice_set s.processes q new_process) ≡ first_inside i s.processes
    holders_there i d =
        inside_same i q new_process s.processes (ap (λ b. has_entry i before.calls && not b) (differs n i (λ e. d (sym e))) ∙ sym (ap (λ (v : Status). has_entry i before.calls && not (waits_at i v)) k.was)) k.there

    monitors_stand : (i : ℕ) → i < length s.components → MonitorIs state_out machine_freed i (component_at g.tables i).kind
    monitors_stand i h =
        monitors_change g s state_out m machine_freed n j may.own may.is (record { holder = None; line = (monitor_at m j).line }) may.known refl (monitor_here.0 ∙ sym (lines_same n)) (sym nobody) (λ a d. lines_same a) holders_there i (component_at g.tables i).kind refl (k.rep.monitors i h)

    -- ---- queues

    abbrev place : Place
    place = record { holder = in_component n; name = y; choices = choices }

    place_stands : PlaceAt g.tables l [] place queue_type (Permanent at)
    place_stands = record { whole = u; first = Permanent ((component_at g.tables n).base + (l.systems (component_at g.tables n).system).slots y); offset = offset; begins = record { there = there; known = known; address = refl }; chosen = chosen; address = refl }

    named_same : same_name y y ≡ true
    named_same = (bytes_eq-Decides y y).1 refl

    abbrev Written : Place → ℕ → Type 0
    Written x i = IsWritten g p l s m k.rep may.apart may.parts_apart n y u choices offset (Some q) there known chosen x i

    abbrev old_view : View → View
    old_view v = record { program = v.program; calls = v.calls; components = s.components }

    kept : (v : View) (x : Place) (i a : ℕ) → v.components ≡ state_out.components → x.holder ≡ in_component i → PlaceAt g.tables l [] x queue_type (Permanent a) → (Written x i × (same_name y y ≡ true)) ⊎ (value_at v x ≡ value_at (old_view v) x)
    kept v x i a c e h = queue_kept g p l s m k.rep may.apart may.parts_apart n y u choices offset (Some q) there known chosen v x i a c e h

    -- nobody waited in the queue that is written
    was_free : (v : View) (x : Place) (i r : ℕ) → x.holder ≡ in_component i → Written x i → value_at (old_view v) x ≡ queue_value (Some r) → ⊥
    was_free v x i r e w h =
        let none : queue_value (Some r) ≡ queue_value None = sym h ∙ (old_written g p l s m k.rep may.apart may.parts_apart n y u choices offset (Some q) there known chosen v x i e w ∙ free) in
        cc

    abbrev Waits : (r i a : ℕ) → View → Type 0
    Waits r i a v = (x : Place) × (x.holder ≡ in_component i) × PlaceAt g.tables l [] x queue_type (Permanent a) × (value_at v x ≡ queue_value (Some r))

    here_waits : (v : View) → v.components ≡ state_out.components → Waits q n at v
    here_waits v c = (place, refl, place_stands, written_value g p l s m k.rep may.apart may.parts_apart n y u choices offset (Some q) there known chosen v place n c refl (record { component = refl; name = refl; parts = refl }) named_same)

    abbrev IsDelayed : (r i a : ℕ) → Type 0
    IsDelayed r i a = (r < length (slice_set s.processes q new_process)) × ((named.process_at (slice_set s.processes q new_process) r).status ≡ delayed i) × ((thread_at (slice_set m.threads q new_thread) r).status ≡ status.Delayed a)

    here_delayed : IsDelayed q n at
    here_delayed =
        (let e = length-set s.processes q new_process in let a = k.there in omega (arith, e, a), ap (λ (x : Process). x.status) (here_process g p l s m k.rep q k.there new_process new_thread), ap (λ (t : Thread). t.status) (here_thread g p l s m k.rep q k.there new_process new_thread))

    waiting : (r i a : ℕ) (v : View) → r < length (slice_set s.processes q new_process) → (named.process_at (slice_set s.processes q new_process) r).status ≡ delayed i → (thread_at (slice_set m.threads q new_thread) r).status ≡ status.Delayed a → v.components ≡ state_out.components → Waits r i a v
    waiting r i a v h e f c = go (same_or_other r q)
      where
        delayed_is : (i k : ℕ) → delayed i ≡ delayed k → i ≡ k
        delayed_is i k e = cc

        cell_is : (i k : ℕ) → status.Delayed i ≡ status.Delayed k → i ≡ k
        cell_is i k e = cc

        by_kept : (w : Waits r i a (old_view v)) → (Written w.0 i × (same_name y y ≡ true)) ⊎ (value_at v w.0 ≡ value_at (old_view v) w.0) → Waits r i a v
        by_kept w (inl d) = absurd (was_free v w.0 i r w.1 d.0 w.3)
        by_kept w (inr d) = (w.0, w.1, w.2, d ∙ w.3)

        go : (r ≡ q) ⊎ (r ≢ q) → Waits r i a v
        go (inl d) =
            let of : n ≡ i = delayed_is n i (sym (ap (λ b. (named.process_at (slice_set s.processes q new_process) b).status) d ∙ here_delayed.1) ∙ e) in
            let in_cell : at ≡ a = cell_is at a (sym (ap (λ b. (thread_at (slice_set m.threads q new_thread) b).status) d ∙ here_delayed.2) ∙ f) in
            subst (λ b. Waits b i a v) (sym d) (subst (λ b. Waits q b a v) of (subst (λ b. Waits q n b v) in_cell (here_waits v c)))
        go (inr d) =
            let w = delayed_before g p l s m k.rep q k.there new_process new_thread r i a d e f in
            let u = k.rep.queues.waiting r i a (old_view v) (still_there g p l s m k.rep q k.there new_process new_thread r h) w.0 w.1 refl in
            by_kept u (kept v u.0 i a c u.1 u.2)

    permanent_is : (a b : ℕ) → Permanent a ≡ Permanent b → a ≡ b
    permanent_is a b e = cc

    -- the queue that is written lies in its cell alone
    in_cell : (x : Place) (i a : ℕ) → x.holder ≡ in_component i → Written x i → PlaceAt g.tables l [] x queue_type (Permanent a) → at ≡ a
    in_cell x i a e w h = go x.holder e h.begins
      where
        go : (o : Holder) → o ≡ in_component i → BeginsAt g.tables l [] o x.name h.whole h.first → at ≡ a
        go (in_call b) d begins = absurd (cc)
        go (in_component c) d begins =
            let same : c ≡ n = holder_is c i d ∙ w.component in
            let whole : h.whole ≡ u = some_same h.whole u (sym begins.known ∙ (ap (λ b. look x.name (l.systems (component_at g.tables b).system).variables) same ∙ (ap (λ z. look z (l.systems (component_at g.tables n).system).variables) w.name ∙ known))) in
            let further_is : h.offset ≡ offset = ap (λ (c : Chosen). c.0) (some_same (h.offset, queue_type) (offset, queue_type) (sym (subst (λ t. chosen_at t x.choices ≡ Some (h.offset, queue_type)) whole h.chosen) ∙ (ap (chosen_at u) w.parts ∙ chosen))) in
            let first : h.first ≡ Permanent ((component_at g.tables n).base + (l.systems (component_at g.tables n).system).slots y) =
            begins.address ∙ (ap (λ b. Permanent ((component_at g.tables b).base + (l.systems (component_at g.tables b).system).slots x.name)) same ∙ ap (λ z. Permanent ((component_at g.tables n).base + (l.systems (component_at g.tables n).system).slots z)) w.name) in
            sym (permanent_is a at (h.address ∙ (ap (λ b. further b h.offset) first ∙ ap (λ o. Permanent ((component_at g.tables n).base + (l.systems (component_at g.tables n).system).slots y + o)) further_is)))
          where
            holder_is : (a b : ℕ) → in_component a ≡ in_component b → a ≡ b
            holder_is a b e = cc

    queued : (x : Place) (r i a : ℕ) (v : View) → v.components ≡ state_out.components → x.holder ≡ in_component i → PlaceAt g.tables l [] x queue_type (Permanent a) → value_at v x ≡ queue_value (Some r) → IsDelayed r i a
    queued x r i a v c e h w = go (kept v x i a c e h)
      where
        process_is : (a b : ℕ) → queue_value (Some a) ≡ queue_value (Some b) → a ≡ b
        process_is a b e = cc

        go : (Written x i × (same_name y y ≡ true)) ⊎ (value_at v x ≡ value_at (old_view v) x) → IsDelayed r i a
        go (inl d) =
            let same : q ≡ r = process_is q r (sym (written_value g p l s m k.rep may.apart may.parts_apart n y u choices offset (Some q) there known chosen v x i c e d.0 d.1) ∙ w) in
            subst (λ b. IsDelayed b i a) same (subst (λ b. IsDelayed q b a) (sym d.0.component) (subst (λ b. IsDelayed q n b) (in_cell x i a e d.0 h) here_delayed))
        go (inr d) =
            let old = k.rep.queues.queued x r i a (old_view v) refl e h (sym d ∙ w) in
            delayed_after g p l s m k.rep q k.there new_process new_thread r i a (λ f. absurd (let b : ready ≡ delayed i = sym k.was ∙ (sym (ap (λ b. (named.process_at s.processes b).status) f) ∙ old.1) in cc)) old

    -- ---- all of it

    delayed_freed : Represents g p l state_out machine_freed
    delayed_freed =
        record {
          process_count = counts_stand g p l s m k.rep q k.there new_process new_thread;
          component_count = length-set s.components n _ ∙ k.rep.component_count;
          processes = processes_stand g p l s m k.rep q k.there new_process new_thread stands;
          components = components_stand g p l s m k.rep may.apart may.parts_apart n y u choices offset (Some q) there known chosen state_out machine_freed (unstarted_still g p l s m k.rep q k.there new_process new_thread (λ e. (let w = k.was in cc)));
          monitors = λ i h. monitors_stand i (let e : length state_out.components ≡ length s.components = length-set s.components n _ in omega (arith, e, h));
          queues = record { waiting = waiting; queued = queued };
          pending = k.rep.pending;
          discipline = k.rep.discipline;
          output = k.rep.output;
        }

    line_waits : FirstWaits state_out n (meaning.line_of state_out n)
    line_waits = subst (λ ks. FirstWaits state_out n ks) (sym (lines_same n)) (first_waits_kept s q n new_process (meaning.line_of s n) k.was may.line)

    -- the line is let in
    pub delayed_out : Represents g p l (meaning.let_in s.discipline.gates state_out n) (machine.let_in machine_out j)
    delayed_out =
        subst (λ w. Represents g p l (meaning.let_in s.discipline.gates state_out n) w) (let_in_freed machine_out j may.known)
        (lets_in g p l state_out machine_freed n j delayed_freed may.own may.is (let e = length-set m.monitors j (record { holder = None; line = (monitor_at m j).line }) in let w = may.known in omega (arith, e, w))
        (subst (λ c. n < c) (sym (length-set s.components n _)) there_component) nobody line_waits)
