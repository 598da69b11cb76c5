-- The kernel does the same without annotations.
use Rattle.std.proofs.Common.{◌≡◌, ◌∙◌, inl, ℕ, ◌==◌, Bool, true, false, ◌&&◌, if◌then◌else◌, List, [], ◌∷◌, ◌++◌, length, slice_set, Option, Some, None, ap, sym, refl, subst}
use Rattle.cp_tree.specs.Syntax.{Program}
use Rattle.cp_meaning.specs.Systems.{SystemMeaning, system_of}
use Rattle.cp_meaning.specs.State.{Environment, Component, component_at, Call, Item, end, Status, unstarted, ready, at_gate, delayed, ended, Process, process_at, Gates, first_gates, any_gates, Signals, return_signals, continue_signals, wait_signals, Shown, State, has_entry}
use Rattle.cp_meaning.specs.Move.{Move, Doing, stays, enters, leaves, delays, continues, starts, shows, ends}
use Rattle.cp_meaning.specs.Kernel.{Stepped, output_room, with_line_of, with_pending, line_of, moved_to, with_process_status, made_ready, first_in, one_in, let_in, is_anybody_inside, entering, is_delayed_in, is_monitor, waits_inside, continuing, at_gate_last, notifying, at_gate_first, yielding, going_on, signalling, process_of, begun, with_begun, starting_as, starting, displaying, kernel_step}
use Rattle.cp_meaning.specs.Steps.{without, admitted_to}
use Rattle.cp_annotation_laws.specs.Plain.{plain_program}
use Rattle.cp_annotation_laws.proofs.annotations.Spoken.{SpokenProgram, AreFine}
use Rattle.cp_annotation_laws.proofs.annotations.Systems.{plain_system_meaning, system_of_plain}
use Rattle.cp_annotation_laws.proofs.annotations.Views.{plain_calls}
use Rattle.cp_annotation_laws.proofs.annotations.Items.{all_become}
use Rattle.cp_annotation_laws.proofs.annotations.Doings.{bare, plain_move, plain_doing}
use Rattle.cp_annotation_laws.proofs.annotations.States.{ProcessStandsFor, AllStandFor, StateStandsFor, at_stands, set_stands, same_entry, same_anybody, same_process_of}

-- a state of other processes
abbrev pub with_others : State → List Process → State
with_others s ys = record s { processes = ys }

pub there : (s : State) (ys : List Process) → AllStandFor s.processes ys → StateStandsFor s (with_others s ys)
there s ys h = record { processes = ys; all = h; same = refl }

-- what is done of one state is done of the other
abbrev Keeps : (State → State) → Type 0
Keeps f = (s : State) (ys : List Process) → AllStandFor s.processes ys → StateStandsFor (f s) (f (with_others s ys))

keeps_after : (f : State → State) → Keeps f → (s t : State) → StateStandsFor s t → StateStandsFor (f s) (f t)
keeps_after f k s t h = subst (λ (u : State). StateStandsFor (f s) (f u)) (sym h.same) (k s h.processes h.all)

-- ---- parts of a state

moved_stands : (status : Status) (s : State) (ys : List Process) (pid : ℕ) (d : Doing) → AllStandFor s.processes ys → StateStandsFor (moved_to status s pid d) (moved_to status (with_others s ys) pid (plain_doing d))
moved_stands status s ys pid d h =
    record {
      processes = slice_set ys pid (record { component = (process_at ys pid).component; status = status; calls = plain_calls d.calls; items = bare d.calls d.items });
      all = set_stands s.processes ys pid _ _ h (record { component = (at_stands s.processes ys pid h).component; status = refl; stack = inl (record { other_calls_are = refl; other_items_are = refl }) });
      same = refl;
    }

status_stands : (status : Status) (x y : Process) → ProcessStandsFor x y → ProcessStandsFor (with_process_status x status) (with_process_status y status)
status_stands status x y h = record { component = h.component; status = refl; stack = h.stack }

ready_keeps : (q : ℕ) → Keeps (λ s. made_ready s q)
ready_keeps q s ys h = record { processes = slice_set ys q (with_process_status (process_at ys q) ready); all = set_stands s.processes ys q _ _ h (status_stands ready _ _ (at_stands s.processes ys q h)); same = refl }

-- ---- the line is let in

first_keeps : (line : List ℕ) (m : ℕ) → Keeps (λ s. first_in line s m)
first_keeps [] m s ys h = there s ys h
first_keeps (q ∷ line) m s ys h = keeps_after (λ u. with_line_of u m line) (λ u zs k. there (with_line_of u m line) zs k) (made_ready s q) (made_ready (with_others s ys) q) (ready_keeps q s ys h)

one_keeps : (line : List ℕ) (m : ℕ) → Keeps (λ s. one_in line s m)
one_keeps [] m s ys h = there s ys h
one_keeps (q ∷ []) m s ys h = keeps_after (λ u. with_line_of u m []) (λ u zs k. there (with_line_of u m []) zs k) (made_ready s q) (made_ready (with_others s ys) q) (ready_keeps q s ys h)
one_keeps (q ∷ r ∷ line) m s ys h = there (with_pending s (Some m)) ys h

let_in_keeps : (g : Gates) (m : ℕ) → Keeps (λ s. let_in g s m)
let_in_keeps first_gates m s ys h = first_keeps (line_of s m) m s ys h
let_in_keeps any_gates m s ys h = one_keeps (line_of s m) m s ys h

-- ---- kernel calls

let_in_after : (m : ℕ) (s t : State) → StateStandsFor s t → StateStandsFor (let_in s.discipline.gates s m) (let_in t.discipline.gates t m)
let_in_after m s t h = keeps_after (λ u. let_in u.discipline.gates u m) (λ u zs k. let_in_keeps u.discipline.gates m u zs k) s t h

entering_stands : (b : Bool) (s : State) (ys : List Process) (pid m : ℕ) (d : Doing) → AllStandFor s.processes ys → StateStandsFor (entering b s pid m d) (entering b (with_others s ys) pid m (plain_doing d))
entering_stands false s ys pid m d h = moved_stands ready s ys pid d h
entering_stands true s ys pid m d h =
    keeps_after (λ u. with_line_of u m (line_of u m ++ pid ∷ [])) (λ u zs k. there (with_line_of u m (line_of u m ++ pid ∷ [])) zs k)
    (moved_to (at_gate m) s pid d) (moved_to (at_gate m) (with_others s ys) pid (plain_doing d)) (moved_stands (at_gate m) s ys pid d h)

same_delayed : (m r : ℕ) (s : State) (ys : List Process) → AllStandFor s.processes ys → is_delayed_in m (process_at ys r).status ≡ is_delayed_in m (process_at s.processes r).status
same_delayed m r s ys h = ap (is_delayed_in m) (at_stands s.processes ys r h).status

continuing_keeps : (m : ℕ) (o : Option ℕ) → Keeps (λ s. continuing s m o)
continuing_keeps m None s ys h = let_in_keeps s.discipline.gates m s ys h
continuing_keeps m (Some r) s ys h =
    subst (λ (b : Bool). StateStandsFor (continuing s m (Some r)) (if b then made_ready (with_others s ys) r else let_in s.discipline.gates (with_others s ys) m)) (sym (same_delayed m r s ys h))
    (go (is_delayed_in m (process_at s.processes r).status))
  where
    go : (b : Bool) → StateStandsFor (if b then made_ready s r else let_in s.discipline.gates s m) (if b then made_ready (with_others s ys) r else let_in s.discipline.gates (with_others s ys) m)
    go true = ready_keeps r s ys h
    go false = let_in_keeps s.discipline.gates m s ys h

same_waits_inside : (m r : ℕ) (s : State) (ys : List Process) → AllStandFor s.processes ys → waits_inside (with_others s ys) m r ≡ waits_inside s m r
same_waits_inside m r s ys h =
    let k = at_stands s.processes ys r h in
    ap (λ (b : Bool). is_monitor (component_at s.components m).kind && b && is_delayed_in m (process_at ys r).status) (same_entry m (process_at s.processes r) (process_at ys r) k)
    ∙ ap (λ (b : Bool). is_monitor (component_at s.components m).kind && has_entry m (process_at s.processes r).calls && b) (same_delayed m r s ys h)

gate_keeps : (m q : ℕ) → Keeps (λ s. at_gate_last s m q)
gate_keeps m q s ys h =
    record {
      processes = slice_set ys q (with_process_status (process_at ys q) (at_gate m));
      all = set_stands s.processes ys q _ _ h (status_stands (at_gate m) _ _ (at_stands s.processes ys q h));
      same = refl;
    }

notifying_keeps : (m : ℕ) (o : Option ℕ) → Keeps (λ s. notifying s m o)
notifying_keeps m None s ys h = there s ys h
notifying_keeps m (Some r) s ys h =
    subst (λ (b : Bool). StateStandsFor (notifying s m (Some r)) (if b then at_gate_last (with_others s ys) m r else with_others s ys)) (sym (same_waits_inside m r s ys h)) (go (waits_inside s m r))
  where
    go : (b : Bool) → StateStandsFor (if b then at_gate_last s m r else s) (if b then at_gate_last (with_others s ys) m r else with_others s ys)
    go true = gate_keeps m r s ys h
    go false = there s ys h

yielding_stands : (s : State) (ys : List Process) (pid m : ℕ) (d : Doing) (o : Option ℕ) → AllStandFor s.processes ys → StateStandsFor (yielding s pid m d o) (yielding (with_others s ys) pid m (plain_doing d) o)
yielding_stands s ys pid m d None h = moved_stands ready s ys pid d h
yielding_stands s ys pid m d (Some r) h =
    subst (λ (b : Bool). StateStandsFor (yielding s pid m d (Some r)) (if b then made_ready (at_gate_first (with_others s ys) pid m (plain_doing d)) r else moved_to ready (with_others s ys) pid (plain_doing d))) (sym (same_waits_inside m r s ys h)) (go (waits_inside s m r))
  where
    first : StateStandsFor (at_gate_first s pid m d) (at_gate_first (with_others s ys) pid m (plain_doing d))
    first =
        keeps_after (λ u. with_line_of u m (pid ∷ line_of u m)) (λ u zs k. there (with_line_of u m (pid ∷ line_of u m)) zs k)
        (moved_to (at_gate m) s pid d) (moved_to (at_gate m) (with_others s ys) pid (plain_doing d)) (moved_stands (at_gate m) s ys pid d h)

    go : (b : Bool) → StateStandsFor (if b then made_ready (at_gate_first s pid m d) r else moved_to ready s pid d) (if b then made_ready (at_gate_first (with_others s ys) pid m (plain_doing d)) r else moved_to ready (with_others s ys) pid (plain_doing d))
    go true = keeps_after (λ u. made_ready u r) (ready_keeps r) (at_gate_first s pid m d) (at_gate_first (with_others s ys) pid m (plain_doing d)) first
    go false = moved_stands ready s ys pid d h

signalling_stands : (w : Signals) (s : State) (ys : List Process) (pid : ℕ) (d : Doing) (m : ℕ) (o : Option ℕ) (calls : List Call) (items : List Item) → AllStandFor s.processes ys →
    StateStandsFor (signalling w s pid d m o calls items) (signalling w (with_others s ys) pid (plain_doing d) m o (plain_calls calls) (bare calls items))
signalling_stands return_signals s ys pid d m o calls items h = keeps_after (λ u. continuing u m o) (continuing_keeps m o) (moved_to ready s pid d) (moved_to ready (with_others s ys) pid (plain_doing d)) (moved_stands ready s ys pid d h)
signalling_stands continue_signals s ys pid d m o calls items h =
    keeps_after (λ u. notifying u m o) (notifying_keeps m o) (moved_to ready s pid (going_on d calls items)) (moved_to ready (with_others s ys) pid (plain_doing (going_on d calls items))) (moved_stands ready s ys pid (going_on d calls items) h)
signalling_stands wait_signals s ys pid d m o calls items h = yielding_stands s ys pid m (going_on d calls items) o h

-- ---- one step

pub record SteppedStandsFor (a b : Stepped) : Type 0 where
  pub state : StateStandsFor a.state b.state
  pub event : b.event ≡ a.event

-- the system types of these components have bodies whose annotations call nothing
abbrev pub BodiesFine : Program → List Component → Type 0
BodiesFine p cs = (n : ℕ) → AreFine (system_of p (component_at cs n).system).scope (system_of p (component_at cs n).system).body

module _ (p : Program) (spoken : SpokenProgram p) where
  begun_plain : (d : ℕ) (m : SystemMeaning) → AreFine m.scope m.body → ProcessStandsFor (begun d m) (begun d (plain_system_meaning m))
  begun_plain d m fine = record { component = refl; status = refl; stack = inl (record { other_calls_are = refl; other_items_are = sym ((all_become m.scope [] m.body fine).on (end ∷ [])) }) }

  pub begun_of : (d k : ℕ) → AreFine (system_of p k).scope (system_of p k).body → ProcessStandsFor (begun d (system_of p k)) (begun d (system_of (plain_program p) k))
  begun_of d k fine = subst (λ (m : SystemMeaning). ProcessStandsFor (begun d (system_of p k)) (begun d m)) (sym (system_of_plain p spoken k)) (begun_plain d (system_of p k) fine)

  with_begun_keeps : (r c : ℕ) (e : Environment) (s : State) (ys : List Process) → BodiesFine p s.components → AllStandFor s.processes ys → StateStandsFor (with_begun p s r c e) (with_begun (plain_program p) (with_others s ys) r c e)
  with_begun_keeps r c e s ys fine h =
      record {
        processes = slice_set ys r (begun c (system_of (plain_program p) (component_at s.components c).system));
        all = set_stands s.processes ys r _ _ h (begun_of c (component_at s.components c).system (fine c));
        same = refl;
      }

  with_begun_after : (r c : ℕ) (e : Environment) (s t : State) → BodiesFine p s.components → StateStandsFor s t → StateStandsFor (with_begun p s r c e) (with_begun (plain_program p) t r c e)
  with_begun_after r c e s t fine h = subst (λ (u : State). StateStandsFor (with_begun p s r c e) (with_begun (plain_program p) u r c e)) (sym h.same) (with_begun_keeps r c e s h.processes fine h.all)

  module _ (s : State) (ys : List Process) (h : AllStandFor s.processes ys) (pid : ℕ) (d : Doing) (fine : BodiesFine p d.components) where
    abbrev t : State
    t = with_others s ys

    moved : (status : Status) → StateStandsFor (moved_to status s pid d) (moved_to status t pid (plain_doing d))
    moved status = moved_stands status s ys pid d h

    starting_as_stands : (r : ℕ) (status : Status) (c : ℕ) (e : Environment) → SteppedStandsFor (starting_as p s pid d r status c e) (starting_as (plain_program p) t pid (plain_doing d) r status c e)
    starting_as_stands r unstarted c e = record { state = with_begun_after r c e (moved_to ready s pid d) (moved_to ready t pid (plain_doing d)) fine (moved ready); event = refl }
    starting_as_stands r ready c e = record { state = there s ys h; event = refl }
    starting_as_stands r (at_gate m) c e = record { state = there s ys h; event = refl }
    starting_as_stands r (delayed m) c e = record { state = there s ys h; event = refl }
    starting_as_stands r ended c e = record { state = there s ys h; event = refl }

    starting_stands : (o : Option ℕ) (c : ℕ) (e : Environment) → SteppedStandsFor (starting p s pid d o c e) (starting (plain_program p) t pid (plain_doing d) o c e)
    starting_stands None c e = record { state = moved ready; event = refl }
    starting_stands (Some r) c e =
        subst (λ (u : Status). SteppedStandsFor (starting p s pid d (Some r) c e) (starting_as (plain_program p) t pid (plain_doing d) r u c e))
        (sym (at_stands (moved_to ready s pid d).processes (moved_to ready t pid (plain_doing d)).processes r (moved_all)).status)
        (starting_as_stands r (process_at (moved_to ready s pid d).processes r).status c e)
      where
        moved_all : AllStandFor (moved_to ready s pid d).processes (moved_to ready t pid (plain_doing d)).processes
        moved_all = set_stands s.processes ys pid _ _ h (record { component = (at_stands s.processes ys pid h).component; status = refl; stack = inl (record { other_calls_are = refl; other_items_are = refl }) })

    moved_processes : AllStandFor (moved_to ready s pid d).processes (moved_to ready t pid (plain_doing d)).processes
    moved_processes = set_stands s.processes ys pid _ _ h (record { component = (at_stands s.processes ys pid h).component; status = refl; stack = inl (record { other_calls_are = refl; other_items_are = refl }) })

    displaying_stands : (b : Bool) (x : Shown) → SteppedStandsFor (displaying b s pid d x) (displaying b t pid (plain_doing d) x)
    displaying_stands true x = record { state = there s ys h; event = refl }
    displaying_stands false x =
        record {
          state = keeps_after (λ u. record u { output = u.output ++ x ∷ [] }) (λ u zs k. there (record u { output = u.output ++ x ∷ [] }) zs k) (moved_to ready s pid d) (moved_to ready t pid (plain_doing d)) (moved ready);
          event = refl;
        }

    pub kernel_stands : (m : Move) → SteppedStandsFor (kernel_step p s pid d m) (kernel_step (plain_program p) t pid (plain_doing d) (plain_move m))
    kernel_stands stays = record { state = moved ready; event = refl }
    kernel_stands (enters m) = record { state = subst (λ (b : Bool). StateStandsFor (entering (is_anybody_inside m s.processes) s pid m d) (entering b t pid m (plain_doing d))) (sym (same_anybody m s.processes ys h)) (entering_stands (is_anybody_inside m s.processes) s ys pid m d h); event = refl }
    kernel_stands (leaves m) = record { state = let_in_after m (moved_to ready s pid d) (moved_to ready t pid (plain_doing d)) (moved ready); event = refl }
    kernel_stands (delays m) = record { state = let_in_after m (moved_to (delayed m) s pid d) (moved_to (delayed m) t pid (plain_doing d)) (moved (delayed m)); event = refl }
    kernel_stands (continues m o calls items) = record { state = signalling_stands s.discipline.signals s ys pid d m o calls items h; event = refl }
    kernel_stands (starts c e) =
        subst (λ (o : Option ℕ). SteppedStandsFor (kernel_step p s pid d (starts c e)) (starting (plain_program p) t pid (plain_doing d) o c e))
        (sym (same_process_of c (moved_to ready s pid d).processes (moved_to ready t pid (plain_doing d)).processes moved_processes))
        (starting_stands (process_of c (moved_to ready s pid d).processes) c e)
    kernel_stands (shows x) = displaying_stands (length s.output == output_room) x
    kernel_stands ends = record { state = moved ended; event = refl }

-- ---- admissions

pub admitted_stands : (s t : State) (q : ℕ) → StateStandsFor s t → StateStandsFor (admitted_to s.pending s q) (admitted_to t.pending t q)
admitted_stands s t q h = keeps_after (λ u. admitted_to u.pending u q) (λ u zs k. go u.pending u zs k) s t h
  where
    go : (o : Option ℕ) (u : State) (zs : List Process) → AllStandFor u.processes zs → StateStandsFor (admitted_to o u q) (admitted_to o (with_others u zs) q)
    go None u zs k = there u zs k
    go (Some m) u zs k =
        keeps_after (λ x. with_pending (with_line_of x m (without q (line_of u m))) None) (λ x ws l. there (with_pending (with_line_of x m (without q (line_of u m))) None) ws l)
        (made_ready u q) (made_ready (with_others u zs) q) (ready_keeps q u zs k)
