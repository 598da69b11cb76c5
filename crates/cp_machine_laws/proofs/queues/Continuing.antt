-- `continue` in an entry procedure: the rest of the entry is removed and its call given up; who waited in the queue goes on, or else the line is let in.
use Rattle.std.proofs.Common.{◌≡◌, ◌≢◌, ◌∙◌, ℕ, ◌^◌, ◌<◌, true, false, if◌then◌else◌, List, [], ◌∷◌, ◌++◌, Option, Some, None, ap, sym, refl, subst, arith, length, length-set, eq-eqb}
use Rattle.cp_machine_laws.proofs.Words.{pos, slice_set, Program, component_at, Frame, Entry, Rest, Successor, Return, InitEnd, StackFits, ThreadFits, Name, same_name, Range}
use Rattle.cp_machine_laws.proofs.Words.{Ty, ordinal, queue_type, Value, queue_value, Choice, after_return, first_inside, Layouts, Here, here, look, chosen_at, RoutineIs}
use Rattle.cp_machine_laws.proofs.Words.{Ground, ItemsAre, StackIs, frames_of, Represents, from_end}
use Rattle.cp_tree.specs.declared.declaration.SystemKind.TheVariants as system_kind
use Rattle.cp_slots.specs.declared.tables.ComponentKind.TheVariants as kind
use Rattle.cp_machine.specs.declared.process.Status.TheVariants as status
use Rattle.cp_machine.specs.Kernel as machine
use Rattle.cp_machine.specs.Machine.{Machine, Monitor, Thread, no_thread, no_monitor, monitor_at, thread_at, with_stack}
use Rattle.cp_meaning.specs.State as named
use Rattle.cp_meaning.specs.State.{ready, delayed, Status, own_statement, initial_statement, entry_routine, Call, callers, Item, statement_item, function_call, start_item, until, return, Process, no_process, State, has_entry, is_inside}
use Rattle.cp_meaning.specs.Kernel as meaning
use Rattle.cp_machine_laws.proofs.assignments.Assigning.{set_set}
use Rattle.cp_machine_laws.proofs.control.Control.{Goes, still_process, goes_still}
use Rattle.cp_machine_laws.proofs.gates.Gates.{none_left}
use Rattle.cp_machine_laws.proofs.gates.LettingIn.{FirstWaits, lets_in}
use Rattle.cp_machine_laws.proofs.control.Moving.{set_here, set_there}
use Rattle.cp_machine_laws.proofs.queues.Resumed as resumed
use Rattle.cp_machine_laws.proofs.calls.Returning.{Returns, MayLeave, call, calls_were, process_back, thread_back, left_free, outside, let_in_freed, first_waits_kept}
use Rattle.cp_machine_laws.proofs.assignments.Writing.{ComponentsApart}
use Rattle.cp_machine.proofs.rooms.Keeping.{end_fits as fits_end}

-- ---- the end of the entry

-- the items of a list are no returns
pub no_return : (g : Ground) (h : Here) (first last : Option ℕ) (xs ys : List Item) → ItemsAre g h first xs last → after_return (xs ++ ys) ≡ after_return ys
no_return g h first last [] ys i = refl
no_return g h first last (statement_item t ∷ xs) ys i = no_return g h i.1 last xs ys i.5
no_return g h first last (function_call at d es ∷ xs) ys i = no_return g h i.1 last xs ys i.5
no_return g h first last (start_item t ∷ xs) ys i = no_return g h i.1 last xs ys i.5
no_return g h first last (until ss e ∷ xs) ys i = no_return g h i.1 last xs ys i.5
no_return g h first last _ ys i = absurd i.3

-- the end of the entry is on top of the rest of the stack, and what follows it on names comes after its return
pub record EndsWith (g : Ground) (p : Program) (l : Layouts) (f : Frame) (cs : List Call) (items : List Item) (es : List Entry) : Type 0 where
  pub caller : Frame
  pub slot : Option ℕ
  pub monitor : Option ℕ
  pub result : Option Name
  pub entries : List Entry
  pub rest : List Item
  pub stack : from_end es ≡ Return caller slot monitor ∷ entries
  pub items_are : after_return items ≡ rest
  pub is : StackIs g p l f cs (return result ∷ rest) (Return caller slot monitor ∷ entries)

innermost : (c d : Call) (cs ds : List Call) → c ∷ cs ≡ d ∷ ds → c.kind ≡ d.kind
innermost c d cs ds e = ap (λ (a : List Call). (named.current a).kind) e

pub ends_with : (g : Ground) (p : Program) (l : Layouts) (f : Frame) (c : Call) (cs : List Call) (items : List Item) (es : List Entry) → c.kind ≡ entry_routine → StackIs g p l f (c ∷ cs) items es → EndsWith g p l f (c ∷ cs) items es
ends_with g p l f c cs items [] entry h = absurd (let w : entry_routine ≡ own_statement = sym entry ∙ (innermost c h.0 cs [] h.1 ∙ h.3) in cc)
ends_with g p l f c cs items (Rest at ∷ es) entry h =
    let w = ends_with g p l f c cs h.1 es entry h.4 in
    record {
      caller = w.caller;
      slot = w.slot;
      monitor = w.monitor;
      result = w.result;
      entries = w.entries;
      rest = w.rest;
      stack = w.stack;
      items_are = ap after_return h.2 ∙ (no_return g (here p l f.routine) (Some at) None h.0 h.1 h.3 ∙ w.items_are);
      is = w.is;
    }
ends_with g p l f c cs items (Successor at z last ∷ es) entry h =
    let w = ends_with g p l f c cs h.2 es entry h.5 in
    record {
      caller = w.caller;
      slot = w.slot;
      monitor = w.monitor;
      result = w.result;
      entries = w.entries;
      rest = w.rest;
      stack = w.stack;
      items_are = ap after_return h.3 ∙ (ap (λ (i : Item). after_return (i ∷ (h.1 ++ h.2))) h.4.same ∙ (no_return g (here p l f.routine) h.4.next None h.1 h.2 h.4.after ∙ w.items_are));
      is = w.is;
    }
ends_with g p l f c cs items (Return caller slot monitor ∷ es) entry h =
    record {
      caller = caller;
      slot = slot;
      monitor = monitor;
      result = h.2;
      entries = es;
      rest = h.3;
      stack = refl;
      items_are = ap after_return h.5;
      is = (h.0, h.1, h.2, h.3, h.4, refl, h.6, h.7);
    }
ends_with g p l f c cs items (InitEnd caller n ∷ es) entry h = absurd (let w : entry_routine ≡ initial_statement = sym entry ∙ (innermost c h.0 cs h.1 h.3 ∙ h.5) in cc)

frames_end : (f : Frame) (es : List Entry) → frames_of f (from_end es) ≡ frames_of f es
frames_end f (Rest at ∷ es) = frames_end f es
frames_end f (Successor at z last ∷ es) = frames_end f es
frames_end f _ = refl

-- what has to be known of a process that continues in an entry procedure of the monitor
pub record MayContinue (g : Ground) (p : Program) (l : Layouts) (s : State) (m : Machine) (q n j : ℕ) (es : List Entry) : Type 0 where
  pub apart : ComponentsApart g.tables l
  pub parts_apart : (n : ℕ) (x w : Name) (t u : Ty) → look x (l.systems n).parts ≡ Some t → look w (l.systems n).variables ≡ Some u → same_name x w ≡ false
  pub there : n < length g.tables.components
  pub is : (component_at g.tables n).kind ≡ kind.Monitor j
  pub leave : MayLeave g s m q n
  pub fits : ThreadFits g.tables (thread_at m.threads q)
  pub fits_below : StackFits g.tables (thread_at m.threads q).frame es
  pub few : length (thread_at m.threads q).cells < 2 ^ 64
  pub routines : (i : ℕ) → i < length g.tables.routines → RoutineIs g p l i
  pub simple : (i : ℕ) (u : Ty) → (l.meanings i).result ≡ Some u → (r : Range) × (u ≡ ordinal r)
  pub monitor : (named.component_at s.components n).kind ≡ system_kind.Monitor
  -- who is delayed in the monitor has an open entry call of it
  pub called : (r : ℕ) → r < length s.processes → (named.process_at s.processes r).status ≡ delayed n → has_entry n (named.process_at s.processes r).calls ≡ true

module _ (g : Ground) (p : Program) (l : Layouts) (s : State) (m : Machine) (q : ℕ) (es : List Entry) (k : Goes g p l s m q es) (n j : ℕ) (may : MayContinue g p l s m q n j es)
    (c : Call) (cs : List Call) (calls_are : (named.process_at s.processes q).calls ≡ c ∷ cs) (entry : c.kind ≡ entry_routine) (component : c.component ≡ n)
    (items : List Item) (stack : StackIs g p l (thread_at m.threads q).frame (named.process_at s.processes q).calls items es) where
  abbrev thread : Thread
  thread = thread_at m.threads q

  pub ends : EndsWith g p l thread.frame (c ∷ cs) items es
  ends = ends_with g p l thread.frame c cs items es entry (subst (λ a. StackIs g p l thread.frame a items es) calls_are stack)

  -- ---- the rest of the entry is removed

  abbrev pub process_ends : Process
  process_ends = still_process g p l s m q es k (return ends.result ∷ ends.rest)

  abbrev pub state_ends : State
  state_ends = record s { processes = slice_set s.processes q process_ends }

  abbrev pub machine_ends : Machine
  machine_ends = with_stack m q (from_end es)

  rep_ends : Represents g p l state_ends machine_ends
  rep_ends =
      goes_still g p l s m q es k (return ends.result ∷ ends.rest) (from_end es)
      (subst (λ a. StackIs g p l thread.frame a (return ends.result ∷ ends.rest) (from_end es)) (sym calls_are) (subst (λ (fs : List Entry). StackIs g p l thread.frame (c ∷ cs) (return ends.result ∷ ends.rest) fs) (sym ends.stack) ends.is))
      (frames_end thread.frame es)

  many : q < length m.threads
  many = let e = k.rep.process_count in let a = k.there in omega (arith, e, a)

  pub here_process : named.process_at state_ends.processes q ≡ process_ends
  here_process = set_here s.processes q process_ends no_process k.there

  here_thread : thread_at machine_ends.threads q ≡ record thread { stack = from_end es }
  here_thread = set_here m.threads q (record thread { stack = from_end es }) no_thread many

  pub returns : Returns g p l state_ends machine_ends q ends.caller ends.slot ends.monitor ends.entries
  returns =
      record {
        rep = rep_ends;
        there = (let e = length-set s.processes q process_ends in let a = k.there in omega (arith, e, a));
        was = ap (λ (x : Process). x.status) here_process;
        was_slot = ap (λ (t : Thread). t.status) here_thread ∙ k.was_slot;
        stack = ap (λ (t : Thread). t.stack) here_thread ∙ ends.stack;
        fits = subst (λ (t : Thread). ThreadFits g.tables t) (sym here_thread) (record { stack = fits_end g.tables thread.frame es may.fits_below; cells = may.fits.cells; references = may.fits.references });
        few = subst (λ (t : Thread). length t.cells < 2 ^ 64) (sym here_thread) may.few;
        routines = may.routines;
        simple = may.simple;
      }

  leave_ends : MayLeave g state_ends machine_ends q n
  leave_ends =
      record {
        own = may.leave.own;
        known = may.leave.known;
        exclusive = λ i h d. subst (λ (x : Process). is_inside n x ≡ false) (sym (set_there s.processes q i process_ends no_process d)) (may.leave.exclusive i (let e = length-set s.processes q process_ends in omega (arith, e, h)) d);
        once = ap (λ (x : Process). has_entry n (callers x.calls)) here_process ∙ may.leave.once;
        line = first_waits_kept s q n process_ends (meaning.line_of s n) k.was may.leave.line;
      }

  -- ---- the call is given up, and nobody is inside

  pub call_is : call g p l state_ends machine_ends q ends.caller ends.slot ends.monitor ends.entries returns ≡ c
  call_is = ap named.current (sym (calls_were g p l state_ends machine_ends q ends.caller ends.slot ends.monitor ends.entries returns)) ∙ (ap (λ (x : Process). named.current x.calls) here_process ∙ ap named.current calls_are)

  there_n : n < length s.components
  there_n = let a = k.rep.component_count in let b = may.there in omega (arith, a, b)

  abbrev pub state_left : State
  state_left = record s { processes = slice_set state_ends.processes q (process_back g p l state_ends machine_ends q ends.caller ends.slot ends.monitor ends.entries returns None) }

  abbrev pub machine_left : Machine
  machine_left = record machine_ends { threads = slice_set machine_ends.threads q (thread_back g p l state_ends machine_ends q ends.caller ends.slot ends.monitor ends.entries returns None) }

  abbrev pub machine_empty : Machine
  machine_empty = record machine_left { monitors = slice_set m.monitors j (record { holder = None; line = (monitor_at m j).line }) }

  pub left_so : Represents g p l state_left machine_empty
  left_so =
      left_free g p l state_ends machine_ends q ends.caller ends.slot ends.monitor ends.entries returns None tt n j may.is there_n (ap (λ (d : Call). d.kind) call_is ∙ entry) (ap (λ (d : Call). d.component) call_is ∙ component) leave_ends

  pub nobody : first_inside n state_left.processes ≡ None
  nobody =
      none_left n q (process_back g p l state_ends machine_ends q ends.caller ends.slot ends.monitor ends.entries returns None) state_ends.processes returns.there leave_ends.exclusive
      (outside g p l state_ends machine_ends q ends.caller ends.slot ends.monitor ends.entries returns None tt n j may.is there_n (ap (λ (d : Call). d.kind) call_is ∙ entry) (ap (λ (d : Call). d.component) call_is ∙ component) leave_ends)

  known_j : j < length m.monitors
  known_j = may.leave.known j may.is

  pub known_empty : j < length machine_empty.monitors
  known_empty = let e = length-set m.monitors j (record { holder = None; line = (monitor_at m j).line }) in let w = known_j in omega (arith, e, w)

  -- ---- the queue is emptied

  module _ (y : Name) (u : Ty) (choices : List Choice) (offset : ℕ) (there : n < length g.tables.components) (known : look y (l.systems (component_at g.tables n).system).variables ≡ Some u) (chosen : chosen_at u choices ≡ Some (offset, queue_type)) where
    abbrev pub at : ℕ
    at = resumed.at g p l state_left machine_empty left_so may.apart may.parts_apart n y u choices offset there known chosen

    abbrev pub old_queue : Value
    old_queue = resumed.old_queue g p l state_left machine_empty left_so may.apart may.parts_apart n y u choices offset there known chosen

    abbrev pub state_emptied : State
    state_emptied = record state_left { components = resumed.emptied g p l state_left machine_empty left_so may.apart may.parts_apart n y u choices offset there known chosen }

    -- the machine that the queue's cell is written in, before the monitor is let go
    abbrev pub machine_emptied : Machine
    machine_emptied = record machine_left { permanents = slice_set m.permanents at (pos 0) }

    line_left : FirstWaits state_emptied n (meaning.line_of state_emptied n)
    line_left =
        subst (λ ks. FirstWaits state_emptied n ks) (sym (resumed.lines_same g p l state_left machine_empty left_so may.apart may.parts_apart n y u choices offset there known chosen n))
        (first_waits_kept state_ends q n (process_back g p l state_ends machine_ends q ends.caller ends.slot ends.monitor ends.entries returns None) (meaning.line_of s n) returns.was leave_ends.line)

    -- nobody waited: the line is let in
    none_on : old_queue ≡ queue_value None → Represents g p l (meaning.continuing state_emptied n None) (machine.resume machine_left j at)
    none_on free =
        subst (λ o. Represents g p l (meaning.continuing state_emptied n None) (machine.go_on_inside o machine_emptied j)) (sym (resumed.found_none g p l state_left machine_empty left_so may.apart may.parts_apart n y u choices offset there known chosen free))
        (subst (λ w. Represents g p l (meaning.let_in s.discipline.gates state_emptied n) w) (let_in_freed machine_emptied j known_j)
        (lets_in g p l state_emptied (record machine_emptied { monitors = slice_set m.monitors j (record { holder = None; line = (monitor_at m j).line }) }) n j
        (resumed.emptied_none g p l state_left machine_empty left_so may.apart may.parts_apart n y u choices offset there known chosen free) may.leave.own may.is known_empty
        (subst (λ i. n < i) (sym (resumed.count g p l state_left machine_empty left_so may.apart may.parts_apart n y u choices offset there known chosen)) there_n) nobody line_left))

    -- a process waited: it goes on inside
    some_on : (r : ℕ) → old_queue ≡ queue_value (Some r) → Represents g p l (meaning.continuing state_emptied n (Some r)) (machine.resume machine_left j at)
    some_on r somebody =
        let w = resumed.is_waiting g p l state_left machine_empty left_so may.apart may.parts_apart n y u choices offset there known chosen r somebody in
        subst (λ (v : Status). Represents g p l (if meaning.is_delayed_in n v then meaning.made_ready state_emptied r else meaning.let_in s.discipline.gates state_emptied n) (machine.resume machine_left j at)) (sym w.1)
        (subst (λ b. Represents g p l (if b then meaning.made_ready state_emptied r else meaning.let_in s.discipline.gates state_emptied n) (machine.resume machine_left j at)) (sym (eq-eqb n n refl))
        (subst (λ o. Represents g p l (meaning.made_ready state_emptied r) (machine.go_on_inside o machine_emptied j)) (sym (resumed.found_some g p l state_left machine_empty left_so may.apart may.parts_apart n y u choices offset there known chosen r somebody))
        (subst (λ v. Represents g p l (meaning.made_ready state_emptied r) v) (machine_same r)
        (resumed.resumed_some g p l state_left machine_empty left_so may.apart may.parts_apart n y u choices offset there known chosen r somebody may.leave.own j may.is known_empty nobody (called_left r w.0 w.1)))))
      where
        -- the monitor is written once and twice
        machine_same : (r : ℕ) → (record machine_emptied { threads = slice_set machine_left.threads r (record (thread_at machine_left.threads r) { status = status.Ready }); monitors = slice_set (slice_set m.monitors j (record { holder = None; line = (monitor_at m j).line })) j (record { holder = Some r; line = (monitor_at machine_empty j).line }) })
            ≡ machine.goes_in machine_emptied j r (monitor_at machine_emptied j).line
        machine_same r =
            ap (λ (w : Monitor). record machine_emptied { threads = slice_set machine_left.threads r (record (thread_at machine_left.threads r) { status = status.Ready }); monitors = slice_set (slice_set m.monitors j (record { holder = None; line = (monitor_at m j).line })) j (record { holder = Some r; line = w.line }) })
            (set_here m.monitors j (record { holder = None; line = (monitor_at m j).line }) no_monitor known_j)
            ∙ ap (λ (ms : List Monitor). record machine_emptied { threads = slice_set machine_left.threads r (record (thread_at machine_left.threads r) { status = status.Ready }); monitors = ms }) (set_set m.monitors j (record { holder = None; line = (monitor_at m j).line }) (record { holder = Some r; line = (monitor_at m j).line }))

        called_left : (r : ℕ) → r < length state_left.processes → (named.process_at state_left.processes r).status ≡ delayed n → has_entry n (named.process_at state_left.processes r).calls ≡ true
        called_left r h e =
            let other : r ≢ q = (λ d. absurd (let w : ready ≡ delayed n = sym (ap (λ b. (named.process_at state_left.processes b).status) d ∙ ap (λ (x : Process). x.status) (set_here state_ends.processes q (process_back g p l state_ends machine_ends q ends.caller ends.slot ends.monitor ends.entries returns None) no_process returns.there)) ∙ e in cc)) in
            let same : named.process_at state_left.processes r ≡ named.process_at s.processes r =
            set_there state_ends.processes q r (process_back g p l state_ends machine_ends q ends.caller ends.slot ends.monitor ends.entries returns None) no_process other ∙ set_there s.processes q r process_ends no_process other in
            ap (λ (x : Process). has_entry n x.calls) same
            ∙ may.called r (let a = length-set state_ends.processes q (process_back g p l state_ends machine_ends q ends.caller ends.slot ends.monitor ends.entries returns None) in let b = length-set s.processes q process_ends in omega (arith, a, b, h)) (sym (ap (λ (x : Process). x.status) same) ∙ e)

    -- what the queue has says who goes on
    pub continues_on : (o : Option ℕ) → old_queue ≡ queue_value o → Represents g p l (meaning.continuing state_emptied n o) (machine.resume machine_left j at)
    continues_on None free = none_on free
    continues_on (Some r) somebody = some_on r somebody
