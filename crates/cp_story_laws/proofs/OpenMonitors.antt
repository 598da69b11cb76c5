-- What a step does to the entry calls of monitors that are open.
use Rattle.std.proofs.Common.{◌⊎◌, inl, inr, ◌≡◌, ◌∙◌, ℕ, ◌<◌, ◌≤◌, ◌==◌, Bool, true, false, ◌&&◌, if◌then◌else◌, List, [], ◌∷◌, ◌++◌, Option, Some, None, Ok, Err, ap, sym, refl, subst, length, slice_set, get_or-set_same, get_or-set_other}
use Rattle.cp_tree.specs.declared.declaration.SystemKind.{SystemKind}
use Rattle.cp_tree.specs.declared.declaration.SystemKind.TheVariants as system_kind
use Rattle.cp_tree.specs.Syntax.{Program}
use Rattle.cp_meaning.specs.Calls.{bound, is_uninitialised, entered_as, started_as}
use Rattle.cp_meaning.specs.Declarations.{RoutineMeaning}
use Rattle.cp_meaning.specs.Expressions.{target_value}
use Rattle.cp_meaning.specs.Kernel.{Event, enter_event, leave_event, continue_event, start_event, output_room, moved_to, made_ready, with_process_status, line_of, first_in, one_in, let_in, entering, is_anybody_inside, is_delayed_in, waits_inside, continuing, at_gate_last, notifying, at_gate_first, going_on, signalling, process_of, begun, starting_as, starting, displaying, kernel_step}
use Rattle.cp_meaning.specs.LocalRules.{continued_from, leaving_move, outer, with_result, returned, takes}
use Rattle.cp_meaning.specs.Move.{Move, stays, enters, leaves, delays, continues, starts, shows, ends, Doing}
use Rattle.cp_meaning.specs.Names.{Name, result_name}
use Rattle.cp_meaning.specs.Outcome.{Outcome}
use Rattle.cp_meaning.specs.Places.{View, component_there, plain_place, stored, this_call, value_at}
use Rattle.cp_meaning.specs.State.{Environment, Component, component_at, CallKind, own_statement, initial_statement, local_routine, entry_routine, is_entry_kind, Call, current, callers, Item, Place, Status, unstarted, ready, at_gate, delayed, ended, Process, no_process, process_at, Gates, first_gates, any_gates, Signals, return_signals, continue_signals, wait_signals, Shown, State}
use Rattle.cp_meaning.specs.Steps.{step_of, settled, view_of, admitted, admitted_to}
use Rattle.cp_meaning.specs.Systems.{SystemMeaning, system_of}
use Rattle.cp_meaning.specs.Values.{queue_value}
use Rattle.cp_meaning.proofs.Frames.{Frame, frames, at_set, ItemsFit, TopStarts, plain-fit, plain-rest}
use Rattle.cp_meaning.proofs.Taken.{AllOf, whatever, if_all, Rules, takes_all}
use Rattle.cp_story_laws.specs.OpenCalls.{Entered, entered_by, entry_of, is_monitor}
use Rattle.cp_story_laws.specs.Routines.{latest_routine}
use Rattle.cp_story_laws.proofs.CalledFrames.{Framed, framed, framed_callers, innermost, innermost_framed, outer_ones, stored_framed}

-- ---- by what a call is, and of which component

abbrev pub entered_in : List Component → List Framed → List Entered
entered_in cs [] = []
entered_in cs (f ∷ fs) = if is_entry_kind f.0 && is_monitor (component_at cs f.1.component).kind then entered_in cs fs ++ f.1 ∷ [] else entered_in cs fs

pub by_frames : (cs : List Component) (calls : List Call) → entered_by cs calls ≡ entered_in cs (framed calls)
by_frames cs [] = refl
by_frames cs (c ∷ calls) = ap (λ (xs : List Entered). if is_entry_kind c.kind && is_monitor (component_at cs c.component).kind then xs ++ entry_of c ∷ [] else xs) (by_frames cs calls)

-- components of the same kinds
pub kinds_alike : (cs ds : List Component) (calls : List Call) → ((n : ℕ) → (component_at ds n).kind ≡ (component_at cs n).kind) → entered_by ds calls ≡ entered_by cs calls
kinds_alike cs ds [] h = refl
kinds_alike cs ds (c ∷ calls) h =
    ap (λ (k : SystemKind). if is_entry_kind c.kind && is_monitor k then entered_by ds calls ++ entry_of c ∷ [] else entered_by ds calls) (h c.component)
    ∙ ap (λ (xs : List Entered). if is_entry_kind c.kind && is_monitor (component_at cs c.component).kind then xs ++ entry_of c ∷ [] else xs) (kinds_alike cs ds calls h)

-- ---- what an item does

module _ (p : Program) (c : Call) (calls : List Call) (cs : List Component) (pid : ℕ) where
  abbrev v : View
  v = record { program = p; calls = c ∷ calls; components = cs }

  abbrev fs : List Framed
  fs = framed (c ∷ calls)

  abbrev E : List Framed → List Entered
  E gs = entered_in cs gs

  -- one more, one fewer, or the same
  abbrev pub MovesBy : Move → List Framed → Type 0
  MovesBy (enters m) gs = E gs ≡ E fs ++ innermost gs ∷ []
  MovesBy (leaves m) gs = E fs ≡ E gs ++ entry_of c ∷ []
  MovesBy (continues m o ds items) gs = (m ≡ c.component) × ((component_at cs m).kind ≡ system_kind.Monitor → E fs ≡ E gs ++ entry_of c ∷ []) × (E (framed ds) ≡ E fs)
  MovesBy _ gs = E gs ≡ E fs

  abbrev pub MovesSo : Doing → Type 0
  MovesSo d = MovesBy d.move (framed d.calls)

  abbrev called : ℕ → RoutineMeaning → Entered
  called d r = record { component = d; routine = latest_routine r.scope }

  entry_moves : (k : SystemKind) (d : ℕ) (r : RoutineMeaning) (o : Option Name) (items : List Item) (e : Environment) → (component_at cs d).kind ≡ k → MovesSo (entered_as k v d r o items e)
  entry_moves system_kind.Monitor d r o items e is = ap (λ (k : SystemKind). if is_monitor k then E fs ++ called d r ∷ [] else E fs) is
  entry_moves system_kind.Class d r o items e is = ap (λ (k : SystemKind). if is_monitor k then E fs ++ called d r ∷ [] else E fs) is
  entry_moves system_kind.Process d r o items e is = refl

  start_moves : (k : SystemKind) (d : ℕ) (s : SystemMeaning) (items : List Item) (e : Environment) → AllOf MovesSo (started_as k v d s items e)
  start_moves system_kind.Process d s items e = refl
  start_moves system_kind.Class d s items e = if_all MovesSo (is_uninitialised (component_at cs d).status) _ _ (λ h. refl) tt
  start_moves system_kind.Monitor d s items e = if_all MovesSo (is_uninitialised (component_at cs d).status) _ _ (λ h. refl) tt

  continue_moves : (k : CallKind) (items : List Item) (q : Place) → c.kind ≡ k → MovesSo (continued_from v k items q)
  continue_moves entry_routine items q is = (
    refl,
    λ monitor.
        let after : framed (callers (stored v q (queue_value None)).calls) ≡ framed calls = framed_callers (stored v q (queue_value None)).calls ∙ ap outer_ones (stored_framed v q (queue_value None)) in
        ap (λ (k : CallKind). if is_entry_kind k && is_monitor (component_at cs c.component).kind then E (framed calls) ++ entry_of c ∷ [] else E (framed calls)) is
        ∙ (ap (λ (k : SystemKind). if is_monitor k then E (framed calls) ++ entry_of c ∷ [] else E (framed calls)) monitor
        ∙ ap (λ (gs : List Framed). E gs ++ entry_of c ∷ []) (sym after)),
    ap E (stored_framed v q (queue_value None)),
  )
  continue_moves own_statement items q is = refl
  continue_moves initial_statement items q is = refl
  continue_moves local_routine items q is = refl

  leave_moves : (b : Bool) (k : SystemKind) (gs : List Framed) → (if b && is_monitor k then E gs ++ entry_of c ∷ [] else E gs) ≡ E fs → MovesBy (if b then leaving_move k c.component else stays) gs
  leave_moves true system_kind.Monitor gs e = sym e
  leave_moves true system_kind.Class gs e = e
  leave_moves true system_kind.Process gs e = e
  leave_moves false k gs e = e

  result_framed : (o : Option Name) → framed (with_result v o).calls ≡ framed calls
  result_framed None = refl
  result_framed (Some x) = stored_framed (outer v) (plain_place (this_call (outer v)) x) (value_at v (plain_place (this_call v) result_name))

  return_moves : (o : Option Name) (items : List Item) → MovesSo (returned v o items)
  return_moves o items =
      leave_moves (is_entry_kind c.kind) (component_at cs c.component).kind (framed (with_result v o).calls)
      (ap (λ (gs : List Framed). if is_entry_kind c.kind && is_monitor (component_at cs c.component).kind then E gs ++ entry_of c ∷ [] else E gs) (result_framed o))

  end_moves : (k : CallKind) (m n : ℕ) (hs : List Frame) (x : Entered) (gs : List Framed) → TopStarts m ((k, n) ∷ hs) → E gs ≡ E ((k, x) ∷ gs)
  end_moves initial_statement m n hs x gs h = refl
  end_moves own_statement m n hs x gs h = absurd h
  end_moves local_routine m n hs x gs h = absurd h
  end_moves entry_routine m n hs x gs h = absurd h

  rules : Rules p (c ∷ calls) cs pid MovesSo (λ u. framed u.calls ≡ fs) (ItemsFit (frames (c ∷ calls))) (λ q. Unit {0}) (λ e. Unit {0}) (λ k e. Unit {0})
  rules =
      record {
        near = λ d. whatever (target_value v d);
        named = λ i. tt;
        arguments = λ qs es. whatever (bound v qs es);
        handed = λ k es. whatever (bound v (system_of p k).parameters es);
        plain = plain-fit (frames (c ∷ calls));
        rest = plain-rest (frames (c ∷ calls));
        as_it_is = refl;
        stores = λ q w n. stored_framed v q w;
        goes_on = λ u items a f. ap E a;
        ended = λ items f. refl;
        shows = λ items x f. refl;
        opens = λ r o items e k f. refl;
        enters = λ q r o items e n k i f. entry_moves (component_at cs (component_there v q)).kind (component_there v q) r o items e refl;
        starts = λ q items e n h f. start_moves (component_at cs (component_there v q)).kind (component_there v q) (system_of p (component_at cs (component_there v q)).system) items e;
        waits = λ q items n f. ap E (stored_framed v q (queue_value (Some pid)));
        continues = λ q items n f. continue_moves c.kind items q refl;
        returns = λ o items f. return_moves o items;
        finishes = λ m items f. end_moves c.kind m c.component (frames calls) (entry_of c) (framed calls) f.0;
      }

  pub takes_moves : (items : List Item) → ItemsFit (frames (c ∷ calls)) items → AllOf MovesSo (takes v pid items)
  takes_moves items f = takes_all p (c ∷ calls) cs pid MovesSo (λ u. framed u.calls ≡ fs) (ItemsFit (frames (c ∷ calls))) (λ q. Unit {0}) (λ e. Unit {0}) (λ k e. Unit {0}) rules items f

-- ---- what the kernel does

-- one process with the same calls in the place of another
calls_set : (ps : List Process) (r q : ℕ) (x : Process) → x.calls ≡ (process_at ps r).calls → (process_at (slice_set ps r x) q).calls ≡ (process_at ps q).calls
calls_set ps r q x e = go (at_set ps r q x no_process)
  where
    go : ((q ≡ r) × (r < length ps) × (process_at (slice_set ps r x) q ≡ x)) ⊎ ((q ≡ r → length ps ≤ r) × (process_at (slice_set ps r x) q ≡ process_at ps q)) → (process_at (slice_set ps r x) q).calls ≡ (process_at ps q).calls
    go (inl h) = ap (λ (y : Process). y.calls) h.2 ∙ (e ∙ ap (λ (n : ℕ). (process_at ps n).calls) (sym h.0))
    go (inr h) = ap (λ (y : Process). y.calls) h.1

-- all calls are as they were
abbrev CallsKept : State → State → Type 0
CallsKept s t = (q : ℕ) → (process_at t.processes q).calls ≡ (process_at s.processes q).calls

ready_kept : (s : State) (r : ℕ) → CallsKept s (made_ready s r)
ready_kept s r q = calls_set s.processes r q (with_process_status (process_at s.processes r) ready) refl

first_kept : (line : List ℕ) (s : State) (m : ℕ) → CallsKept s (first_in line s m)
first_kept [] s m q = refl
first_kept (r ∷ line) s m q = ready_kept s r q

one_kept : (line : List ℕ) (s : State) (m : ℕ) → CallsKept s (one_in line s m)
one_kept [] s m q = refl
one_kept (r ∷ []) s m q = ready_kept s r q
one_kept (r ∷ k ∷ line) s m q = refl

let_in_kept : (g : Gates) (s : State) (m : ℕ) → CallsKept s (let_in g s m)
let_in_kept first_gates s m = first_kept (line_of s m) s m
let_in_kept any_gates s m = one_kept (line_of s m) s m

continuing_kept : (s : State) (m : ℕ) (o : Option ℕ) → CallsKept s (continuing s m o)
continuing_kept s m None q = let_in_kept s.discipline.gates s m q
continuing_kept s m (Some r) q = go (is_delayed_in m (process_at s.processes r).status)
  where
    go : (b : Bool) → (process_at (if b then made_ready s r else let_in s.discipline.gates s m).processes q).calls ≡ (process_at s.processes q).calls
    go true = ready_kept s r q
    go false = let_in_kept s.discipline.gates s m q

notifying_kept : (s : State) (m : ℕ) (o : Option ℕ) → CallsKept s (notifying s m o)
notifying_kept s m None q = refl
notifying_kept s m (Some r) q = go (waits_inside s m r)
  where
    go : (b : Bool) → (process_at (if b then at_gate_last s m r else s).processes q).calls ≡ (process_at s.processes q).calls
    go true = calls_set s.processes r q (with_process_status (process_at s.processes r) (at_gate m)) refl
    go false = refl

-- and the discipline
first_same : (line : List ℕ) (s : State) (m : ℕ) → (first_in line s m).discipline ≡ s.discipline
first_same [] s m = refl
first_same (r ∷ line) s m = refl

one_same : (line : List ℕ) (s : State) (m : ℕ) → (one_in line s m).discipline ≡ s.discipline
one_same [] s m = refl
one_same (r ∷ []) s m = refl
one_same (r ∷ k ∷ line) s m = refl

let_in_same : (g : Gates) (s : State) (m : ℕ) → (let_in g s m).discipline ≡ s.discipline
let_in_same first_gates s m = first_same (line_of s m) s m
let_in_same any_gates s m = one_same (line_of s m) s m

continuing_same : (s : State) (m : ℕ) (o : Option ℕ) → (continuing s m o).discipline ≡ s.discipline
continuing_same s m None = let_in_same s.discipline.gates s m
continuing_same s m (Some r) = go (is_delayed_in m (process_at s.processes r).status)
  where
    go : (b : Bool) → (if b then made_ready s r else let_in s.discipline.gates s m).discipline ≡ s.discipline
    go true = refl
    go false = let_in_same s.discipline.gates s m

notifying_same : (s : State) (m : ℕ) (o : Option ℕ) → (notifying s m o).discipline ≡ s.discipline
notifying_same s m None = refl
notifying_same s m (Some r) = go (waits_inside s m r)
  where
    go : (b : Bool) → (if b then at_gate_last s m r else s).discipline ≡ s.discipline
    go true = refl
    go false = refl

pub admitted_kept : (s : State) (r q : ℕ) → (process_at (admitted s r).processes q).calls ≡ (process_at s.processes q).calls
admitted_kept s r q = go s.pending
  where
    go : (o : Option ℕ) → (process_at (admitted_to o s r).processes q).calls ≡ (process_at s.processes q).calls
    go None = refl
    go (Some m) = ready_kept s r q

module _ (p : Program) (s : State) (pid : ℕ) (less : pid < length s.processes) (may : (process_at s.processes pid).status ≡ ready) (idle : (r : ℕ) → (process_at s.processes r).status ≡ unstarted → (process_at s.processes r).calls ≡ []) (c : Call) (calls : List Call) (has : (process_at s.processes pid).calls ≡ c ∷ calls) where
  -- the open ones of process q in another state, by the kinds that components have here
  abbrev pub open_in : State → ℕ → List Entered
  open_in t q = entered_in s.components (framed (process_at t.processes q).calls)

  abbrev pub OthersKept : State → Type 0
  OthersKept t = (q : ℕ) → (q ≡ pid → ⊥) → open_in t q ≡ open_in s q

  -- by a `continue` one is closed, or they are the same
  abbrev pub Continues : Signals → State → Type 0
  Continues return_signals t = (component_at s.components c.component).kind ≡ system_kind.Monitor → open_in s pid ≡ open_in t pid ++ entry_of c ∷ []
  Continues _ t = open_in t pid ≡ open_in s pid

  -- one is opened, one is closed, or they are the same
  abbrev pub OpensBy : Event → State → Type 0
  OpensBy enter_event t = open_in t pid ≡ open_in s pid ++ entry_of (current (process_at t.processes pid).calls) ∷ []
  OpensBy leave_event t = (m : Entered) × (open_in s pid ≡ open_in t pid ++ m ∷ [])
  OpensBy continue_event t = (t.discipline ≡ s.discipline) × Continues s.discipline.signals t
  OpensBy _ t = open_in t pid ≡ open_in s pid

  was : framed (c ∷ calls) ≡ framed (process_at s.processes pid).calls
  was = ap framed (sym has)

  module _ (d : Doing) where
    abbrev become : Status → Process
    become u = record { component = (process_at s.processes pid).component; status = u; calls = d.calls; items = d.items }

    mine_moved : (u : Status) → process_at (slice_set s.processes pid (become u)) pid ≡ become u
    mine_moved u = get_or-set_same s.processes pid (become u) no_process less

    other_moved : (u : Status) (q : ℕ) → (q ≡ pid → ⊥) → process_at (slice_set s.processes pid (become u)) q ≡ process_at s.processes q
    other_moved u q ne = get_or-set_other s.processes pid q (become u) no_process ne

    -- the calls of a state are those after the item
    abbrev IsMoved : Status → State → Type 0
    IsMoved u t = (q : ℕ) → (process_at t.processes q).calls ≡ (process_at (slice_set s.processes pid (become u)) q).calls

    others_moved : (u : Status) (t : State) → IsMoved u t → OthersKept t
    others_moved u t k q ne = ap (λ (cs : List Call). entered_in s.components (framed cs)) (k q ∙ ap (λ (x : Process). x.calls) (other_moved u q ne))

    calls_moved : (u : Status) (t : State) → IsMoved u t → (process_at t.processes pid).calls ≡ d.calls
    calls_moved u t k = k pid ∙ ap (λ (x : Process). x.calls) (mine_moved u)

    open_moved : (u : Status) (t : State) → IsMoved u t → open_in t pid ≡ entered_in s.components (framed d.calls)
    open_moved u t k = ap (λ (cs : List Call). entered_in s.components (framed cs)) (calls_moved u t k)

    before : entered_in s.components (framed (c ∷ calls)) ≡ open_in s pid
    before = ap (entered_in s.components) was

    same_open : (u : Status) (t : State) → IsMoved u t → entered_in s.components (framed d.calls) ≡ entered_in s.components (framed (c ∷ calls)) → open_in t pid ≡ open_in s pid
    same_open u t k w = open_moved u t k ∙ (w ∙ before)

    one_closed : (u : Status) (t : State) (m : Entered) → IsMoved u t → entered_in s.components (framed (c ∷ calls)) ≡ entered_in s.components (framed d.calls) ++ m ∷ [] → open_in s pid ≡ open_in t pid ++ m ∷ []
    one_closed u t m k w = sym before ∙ (w ∙ ap (λ (ms : List Entered). ms ++ m ∷ []) (sym (open_moved u t k)))

    one_opened : (u : Status) (t : State) → IsMoved u t → entered_in s.components (framed d.calls) ≡ entered_in s.components (framed (c ∷ calls)) ++ innermost (framed d.calls) ∷ [] → open_in t pid ≡ open_in s pid ++ entry_of (current (process_at t.processes pid).calls) ∷ []
    one_opened u t k w =
        open_moved u t k
        ∙ (w
        ∙ (ap (λ (ms : List Entered). ms ++ innermost (framed d.calls) ∷ []) before
        ∙ ap (λ (x : Entered). open_in s pid ++ x ∷ []) (innermost_framed d.calls ∙ sym (ap (λ (cs : List Call). entry_of (current cs)) (calls_moved u t k)))))

    entering_opens : (b : Bool) (m : ℕ) → MovesBy p c calls s.components pid (enters m) (framed d.calls) → OthersKept (entering b s pid m d) × OpensBy enter_event (entering b s pid m d)
    entering_opens false m w = (others_moved ready (entering false s pid m d) (λ q. refl), one_opened ready (entering false s pid m d) (λ q. refl) w)
    entering_opens true m w = (others_moved (at_gate m) (entering true s pid m d) (λ q. refl), one_opened (at_gate m) (entering true s pid m d) (λ q. refl) w)

    display_opens : (b : Bool) (x : Shown) → entered_in s.components (framed d.calls) ≡ entered_in s.components (framed (c ∷ calls)) → OthersKept (displaying b s pid d x).state × OpensBy (displaying b s pid d x).event (displaying b s pid d x).state
    display_opens true x w = (λ q ne. refl, refl)
    display_opens false x w = (others_moved ready (displaying false s pid d x).state (λ q. refl), same_open ready (displaying false s pid d x).state (λ q. refl) w)

    -- a process that begins has no entry call
    module _ (w : entered_in s.components (framed d.calls) ≡ entered_in s.components (framed (c ∷ calls))) where
      abbrev moved : State
      moved = moved_to ready s pid d

      begin_opens : (r n : ℕ) (e : Environment) → (process_at moved.processes r).status ≡ unstarted → OthersKept (starting_as p s pid d r unstarted n e).state × OpensBy start_event (starting_as p s pid d r unstarted n e).state
      begin_opens r n e none = (λ q ne. by q (at_set moved.processes r q new no_process) ∙ others_moved ready moved (λ k. refl) q ne, by pid (at_set moved.processes r pid new no_process) ∙ same_open ready moved (λ k. refl) w)
        where
          new : Process
          new = begun n (system_of p (component_at moved.components n).system)

          not_mine : r ≡ pid → ⊥
          not_mine same = let bad : ready ≡ unstarted = sym (ap (λ (x : Process). x.status) (mine_moved ready)) ∙ (ap (λ (k : ℕ). (process_at moved.processes k).status) (sym same) ∙ none) in absurd (cc)

          empty : open_in moved r ≡ []
          empty = ap (λ (cs : List Call). entered_in s.components (framed cs)) (ap (λ (x : Process). x.calls) (other_moved ready r not_mine) ∙ idle r (sym (ap (λ (x : Process). x.status) (other_moved ready r not_mine)) ∙ none))

          by : (q : ℕ) → ((q ≡ r) × (r < length moved.processes) × (process_at (slice_set moved.processes r new) q ≡ new)) ⊎ ((q ≡ r → length moved.processes ≤ r) × (process_at (slice_set moved.processes r new) q ≡ process_at moved.processes q)) →
              entered_in s.components (framed (process_at (slice_set moved.processes r new) q).calls) ≡ open_in moved q
          by q (inl h) = ap (λ (x : Process). entered_in s.components (framed x.calls)) h.2 ∙ (sym empty ∙ ap (open_in moved) (sym h.0))
          by q (inr h) = ap (λ (x : Process). entered_in s.components (framed x.calls)) h.1

      start_as_opens : (r : ℕ) (u : Status) (n : ℕ) (e : Environment) → (process_at moved.processes r).status ≡ u → OthersKept (starting_as p s pid d r u n e).state × OpensBy (starting_as p s pid d r u n e).event (starting_as p s pid d r u n e).state
      start_as_opens r unstarted n e is = begin_opens r n e is
      start_as_opens r u n e is = (λ q ne. refl, refl)

      start_opens : (o : Option ℕ) (n : ℕ) (e : Environment) → OthersKept (starting p s pid d o n e).state × OpensBy (starting p s pid d o n e).event (starting p s pid d o n e).state
      start_opens None n e = (others_moved ready moved (λ q. refl), same_open ready moved (λ q. refl) w)
      start_opens (Some r) n e = start_as_opens r (process_at moved.processes r).status n e refl

  -- what a signaller does
  signal_opens : (d : Doing) (by : Signals) (m : ℕ) (o : Option ℕ) (ds : List Call) (items : List Item) → MovesBy p c calls s.components pid (continues m o ds items) (framed d.calls) →
      OthersKept (signalling by s pid d m o ds items) × ((signalling by s pid d m o ds items).discipline ≡ s.discipline) × Continues by (signalling by s pid d m o ds items)
  signal_opens d return_signals m o ds items w =
      let moved = moved_to ready s pid d in
      let t = continuing moved m o in (
        others_moved d ready t (continuing_kept moved m o),
        continuing_same moved m o,
        λ monitor. one_closed d ready t (entry_of c) (continuing_kept moved m o) (w.1 (ap (λ (n : ℕ). (component_at s.components n).kind) w.0 ∙ monitor)),
      )
  signal_opens d continue_signals m o ds items w =
      let e = going_on d ds items in
      let moved = moved_to ready s pid e in
      let t = notifying moved m o in
      (others_moved e ready t (notifying_kept moved m o), notifying_same moved m o, same_open e ready t (notifying_kept moved m o) w.2)
  signal_opens d wait_signals m None ds items w =
      let e = going_on d ds items in
      (others_moved e ready (moved_to ready s pid e) (λ q. refl), refl, same_open e ready (moved_to ready s pid e) (λ q. refl) w.2)
  signal_opens d wait_signals m (Some r) ds items w = go (waits_inside s m r)
    where
      e : Doing
      e = going_on d ds items

      chosen : Bool → State
      chosen b = if b then made_ready (at_gate_first s pid m e) r else moved_to ready s pid e

      go : (b : Bool) → OthersKept (chosen b) × ((chosen b).discipline ≡ s.discipline) × (open_in (chosen b) pid ≡ open_in s pid)
      go true =
          let t = made_ready (at_gate_first s pid m e) r in
          let kept = ready_kept (at_gate_first s pid m e) r in
          (others_moved e (at_gate m) t kept, refl, same_open e (at_gate m) t kept w.2)
      go false = (others_moved e ready (moved_to ready s pid e) (λ q. refl), refl, same_open e ready (moved_to ready s pid e) (λ q. refl) w.2)

  kernel_opens : (d : Doing) (move : Move) → MovesBy p c calls s.components pid move (framed d.calls) → OthersKept (kernel_step p s pid d move).state × OpensBy (kernel_step p s pid d move).event (kernel_step p s pid d move).state
  kernel_opens d stays w = (others_moved d ready (moved_to ready s pid d) (λ q. refl), same_open d ready (moved_to ready s pid d) (λ q. refl) w)
  kernel_opens d (enters m) w = entering_opens d (is_anybody_inside m s.processes) m w
  kernel_opens d (leaves m) w =
      let moved = moved_to ready s pid d in
      let t = let_in s.discipline.gates moved m in
      let kept = let_in_kept s.discipline.gates moved m in
      (others_moved d ready t kept, (entry_of c, one_closed d ready t (entry_of c) kept w))
  kernel_opens d (delays m) w =
      let moved = moved_to (delayed m) s pid d in
      let t = let_in s.discipline.gates moved m in
      let kept = let_in_kept s.discipline.gates moved m in
      (others_moved d (delayed m) t kept, same_open d (delayed m) t kept w)
  kernel_opens d (continues m o ds items) w = let k = signal_opens d s.discipline.signals m o ds items w in (k.0, (k.1, k.2))
  kernel_opens d (starts n e) w = start_opens d w (process_of n (moved_to ready s pid d).processes) n e
  kernel_opens d (shows x) w = display_opens d (length s.output == output_room) x w
  kernel_opens d ends w = (others_moved d ended (moved_to ended s pid d) (λ q. refl), same_open d ended (moved_to ended s pid d) (λ q. refl) w)

  settled_opens : (o : Outcome Doing) → AllOf (MovesSo p c calls s.components pid) o → OthersKept (settled p s pid o).state × OpensBy (settled p s pid o).event (settled p s pid o).state
  settled_opens (Ok d) w = kernel_opens d d.move w
  settled_opens (Err e) w = (λ q ne. refl, refl)

  pub step_opens : ItemsFit (frames (process_at s.processes pid).calls) (process_at s.processes pid).items → OthersKept (step_of p s pid).state × OpensBy (step_of p s pid).event (step_of p s pid).state
  step_opens fit =
      settled_opens (takes (view_of p s pid) pid (process_at s.processes pid).items)
      (subst (λ (ds : List Call). AllOf (MovesSo p c calls s.components pid) (takes (record { program = p; calls = ds; components = s.components }) pid (process_at s.processes pid).items)) (sym has)
      (takes_moves p c calls s.components pid (process_at s.processes pid).items (subst (λ (ds : List Call). ItemsFit (frames ds) (process_at s.processes pid).items) has fit)))
