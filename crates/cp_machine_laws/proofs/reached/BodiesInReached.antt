-- In each reached state all that is still to be done stands in the bodies of the open calls' routines, and who waits in a queue has an open entry call.
use Rattle.std.proofs.Common.{◌≡◌, ◌∙◌, ◌⊎◌, inl, inr, ℕ, zero, suc, ◌<◌, ◌==◌, Bool, true, false, if◌then◌else◌, List, [], ◌∷◌, ◌++◌, length, slice_set, Option, Some, None, Ok, Err, ap, sym, refl, subst, arith}
use Rattle.cp_machine_laws.proofs.Words.{Program, RoutineMeaning, takes, Outcome, system_of, IsWellFormed, items_of_all, frames, Descends, FramesFit, reached, Layouts}
use Rattle.cp_machine_laws.proofs.Words.{initial_meaning, Traits, scope_of, body_of, RoutinesKnown, CallsFit, ItemsFit, StandsInBodies}
use Rattle.cp_meaning.specs.Kernel.{output_room, line_of, moved_to, with_process_status, made_ready, first_in, one_in, let_in, is_anybody_inside, entering, is_delayed_in, continuing, waits_inside, at_gate_last, notifying, at_gate_first, yielding, going_on, signalling, process_of, begun, starting_as, starting, displaying, kernel_step}
use Rattle.cp_meaning.specs.Move.{Move, stays, enters, leaves, delays, continues, starts, shows, ends, Doing}
use Rattle.cp_meaning.specs.State.{Environment, Component, component_at, Call, Item, end, Status, unstarted, ready, at_gate, delayed, ended, Process, process_at, Gates, first_gates, any_gates, Signals, return_signals, continue_signals, wait_signals, Discipline, Shown, State, has_entry}
use Rattle.cp_meaning.specs.Steps.{first_components, processes_from, own_begun, opening, settled, step_of, view_of, admitted_to, IsReached, at_first, by_step, by_admission, by_forgetting}
use Rattle.cp_meaning.proofs.Orderly.{which, within_set}
use Rattle.cp_machine_laws.proofs.reached.BodiesKept.{MoveFits, DoingFits, OutcomeFits, takes_fits, fit_append}
use Rattle.cp_machine_laws.proofs.reached.BodyItems.{body_stands}
use Rattle.cp_machine_laws.proofs.HoldsInReached.{holds_in_reached}
use Rattle.cp_machine_laws.proofs.steps.OpeningState.{all_unstarted}

-- who is delayed in a queue of a component has an open entry call of it
abbrev pub WaitsInside : Status → List Call → Type 0
WaitsInside (delayed m) calls = has_entry m calls ≡ true
WaitsInside status calls = Unit {0}

pub record ProcessStands (p : Program) (l : Layouts) (f : Traits) (x : Process) : Type 0 where
  pub stands : StandsInBodies l f x.calls x.items
  pub waits : WaitsInside x.status x.calls

abbrev pub AllStand : Program → Layouts → Traits → List Process → Type 0
AllStand p l f ps = (q : ℕ) → q < length ps → ProcessStands p l f (process_at ps q)

module _ (p : Program) (l : Layouts) (f : Traits) (known : RoutinesKnown p l f) where
  abbrev All : List Process → Type 0
  All ps = (q : ℕ) → q < length ps → ProcessStands p l f (process_at ps q)

  -- ---- one process replaced

  all_set : (ps : List Process) (k : ℕ) (x : Process) → All ps → (k < length ps → ProcessStands p l f x) → All (slice_set ps k x)
  all_set ps k x old new q less = go (which ps k q x (within_set ps k q x less))
    where
      go : ((q ≡ k) × (process_at (slice_set ps k x) q ≡ x)) ⊎ ((q ≡ k → ⊥) × (process_at (slice_set ps k x) q ≡ process_at ps q)) → ProcessStands p l f (process_at (slice_set ps k x) q)
      go (inl h) = subst (ProcessStands p l f) (sym h.1) (new (subst (λ j. j < length ps) h.0 (within_set ps k q x less)))
      go (inr h) = subst (ProcessStands p l f) (sym h.1) (old q (within_set ps k q x less))

  all_ready : (ps : List Process) (k : ℕ) → All ps → All (slice_set ps k (with_process_status (process_at ps k) ready))
  all_ready ps k old = all_set ps k (with_process_status (process_at ps k) ready) old (λ less. record { stands = (old k less).stands; waits = tt })

  first_stands : (line : List ℕ) (s : State) (m : ℕ) → All s.processes → All (first_in line s m).processes
  first_stands [] s m h = h
  first_stands (q ∷ line) s m h = all_ready s.processes q h

  one_stands : (line : List ℕ) (s : State) (m : ℕ) → All s.processes → All (one_in line s m).processes
  one_stands (q ∷ []) s m h = all_ready s.processes q h
  one_stands _ s m h = h

  let_in_stands : (g : Gates) (s : State) (m : ℕ) → All s.processes → All (let_in g s m).processes
  let_in_stands first_gates s m h = first_stands (line_of s m) s m h
  let_in_stands any_gates s m h = one_stands (line_of s m) s m h

  continuing_stands : (s : State) (m : ℕ) (o : Option ℕ) → All s.processes → All (continuing s m o).processes
  continuing_stands s m None h = let_in_stands s.discipline.gates s m h
  continuing_stands s m (Some r) h = go (is_delayed_in m (process_at s.processes r).status)
    where
      go : (b : Bool) → All (if b then made_ready s r else let_in s.discipline.gates s m).processes
      go true = all_ready s.processes r h
      go false = let_in_stands s.discipline.gates s m h

  notifying_stands : (s : State) (m : ℕ) (o : Option ℕ) → All s.processes → All (notifying s m o).processes
  notifying_stands s m None h = h
  notifying_stands s m (Some r) h = go (waits_inside s m r)
    where
      go : (b : Bool) → All (if b then at_gate_last s m r else s).processes
      go true = all_set s.processes r (with_process_status (process_at s.processes r) (at_gate m)) h (λ less. record { stands = (h r less).stands; waits = tt })
      go false = h

  -- ---- a process that begins

  begun_stands : (d k : ℕ) → k ≡ (component_at (first_components p) d).system → ProcessStands p l f (begun d (system_of p k))
  begun_stands d k e =
      let i = known.initials d in
      let meaning : initial_meaning (system_of p k) ≡ l.meanings i.number = ap (λ j. initial_meaning (system_of p j)) e ∙ sym i.same in
      record {
        stands = record {
          numbers = i.number ∷ [];
          executes = (record { scope = ap (λ (m : RoutineMeaning). m.scope) meaning; kind = (i.entry, i.quiet) }, tt, tt);
          remains = subst (λ (m : RoutineMeaning). ItemsFit l (i.number ∷ []) (items_of_all m.scope m.body ++ end ∷ [])) (sym meaning) (fit_append l i.number [] (items_of_all (scope_of l i.number) (body_of l i.number)) (end ∷ []) (body_stands (scope_of l i.number) (body_of l i.number)) tt);
        };
        waits = tt;
      }

  -- ---- kernel rules

  module _ (s : State) (pid : ℕ) (old : All s.processes) (d : Doing) (does : DoingFits p l f d) where
    moved_stands : (status : Status) → WaitsInside status d.calls → All (moved_to status s pid d).processes
    moved_stands status waits = all_set s.processes pid _ old (λ less. record { stands = does.stands; waits = waits })

    entering_stands : (b : Bool) (m : ℕ) → All (entering b s pid m d).processes
    entering_stands false m = moved_stands ready tt
    entering_stands true m = moved_stands (at_gate m) tt

    displaying_stands : (b : Bool) (x : Shown) → All (displaying b s pid d x).state.processes
    displaying_stands true x = old
    displaying_stands false x = moved_stands ready tt

    starting_as_stands : (r : ℕ) (status : Status) (c : ℕ) (e : Environment) → All (starting_as p s pid d r status c e).state.processes
    starting_as_stands r unstarted c e = all_set (moved_to ready s pid d).processes r _ (moved_stands ready tt) (λ less. begun_stands c (component_at d.components c).system (does.systems c))
    starting_as_stands r _ c e = old

    starting_stands : (o : Option ℕ) (c : ℕ) (e : Environment) → All (starting p s pid d o c e).state.processes
    starting_stands None c e = moved_stands ready tt
    starting_stands (Some r) c e = starting_as_stands r (process_at (moved_to ready s pid d).processes r).status c e

    -- the caller of `continue`, where it goes on
    module _ (calls : List Call) (items : List Item) (stands : StandsInBodies l f calls items) where
      on_stands : (status : Status) → WaitsInside status calls → All (moved_to status s pid (going_on d calls items)).processes
      on_stands status waits = all_set s.processes pid _ old (λ less. record { stands = stands; waits = waits })

      yielding_stands : (m : ℕ) (o : Option ℕ) → All (yielding s pid m (going_on d calls items) o).processes
      yielding_stands m None = on_stands ready tt
      yielding_stands m (Some r) = go (waits_inside s m r)
        where
          go : (b : Bool) → All (if b then made_ready (at_gate_first s pid m (going_on d calls items)) r else moved_to ready s pid (going_on d calls items)).processes
          go true = all_ready (moved_to (at_gate m) s pid (going_on d calls items)).processes r (on_stands (at_gate m) tt)
          go false = on_stands ready tt

      signalling_stands : (w : Signals) (m : ℕ) (o : Option ℕ) → All (signalling w s pid d m o calls items).processes
      signalling_stands return_signals m o = continuing_stands (moved_to ready s pid d) m o (moved_stands ready tt)
      signalling_stands continue_signals m o = notifying_stands (moved_to ready s pid (going_on d calls items)) m o (on_stands ready tt)
      signalling_stands wait_signals m o = yielding_stands m o

    kernel_stands : (move : Move) → MoveFits l f d.calls move → All (kernel_step p s pid d move).state.processes
    kernel_stands stays h = moved_stands ready tt
    kernel_stands (enters m) h = entering_stands (is_anybody_inside m s.processes) m
    kernel_stands (leaves m) h = let_in_stands s.discipline.gates (moved_to ready s pid d) m (moved_stands ready tt)
    kernel_stands (delays m) h = let_in_stands s.discipline.gates (moved_to (delayed m) s pid d) m (moved_stands (delayed m) h)
    kernel_stands (continues m o calls items) h = signalling_stands calls items h s.discipline.signals m o
    kernel_stands (starts c e) h = starting_stands (process_of c (moved_to ready s pid d).processes) c e
    kernel_stands (shows x) h = displaying_stands (length s.output == output_room) x
    kernel_stands ends h = moved_stands ended tt

  settled_stands : (s : State) (pid : ℕ) (o : Outcome Doing) → All s.processes → OutcomeFits p l f o → All (settled p s pid o).state.processes
  settled_stands s pid (Ok d) old does = kernel_stands s pid old d does d.move does.moves
  settled_stands s pid (Err e) old does = old

  -- ---- reached states

  unstarted_stands : (x : Process) → x.status ≡ unstarted → x.calls ≡ [] → x.items ≡ [] → ProcessStands p l f x
  unstarted_stands x e c i =
      record {
        stands = subst (λ (cs : List Call). StandsInBodies l f cs x.items) (sym c) (subst (λ (is : List Item). StandsInBodies l f [] is) (sym i) (record { numbers = []; executes = tt; remains = tt }));
        waits = subst (λ (u : Status). WaitsInside u x.calls) (sym e) tt;
      }

  all_more : (x : Process) (ps : List Process) → ProcessStands p l f x → All ps → All (x ∷ ps)
  all_more x ps h k zero less = h
  all_more x ps h k (suc q) less = k q (omega arith)

  own_stands : (cs : List Component) (ps : List Process) → (component_at cs 0).system ≡ (component_at (first_components p) 0).system → All ps → All (own_begun p cs ps)
  own_stands (c ∷ cs) (x ∷ ps) e h = all_more (begun 0 (system_of p c.system)) ps (begun_stands 0 c.system e) (λ q less. h (suc q) (omega arith))
  own_stands _ _ e h = h

  opening_stands : (g : Discipline) → All (opening p g).processes
  opening_stands g =
      own_stands (first_components p) (processes_from 0 (first_components p)) refl
      (λ q less. (let u = all_unstarted 0 (first_components p) q in unstarted_stands (process_at (processes_from 0 (first_components p)) q) u.status u.calls u.items))

  module _ (ok : IsWellFormed p) (g : Discipline) where
    step_stands : (s : State) (pid : ℕ) → IsReached p g s → pid < length s.processes → (process_at s.processes pid).status ≡ ready → All s.processes → All (step_of p s pid).state.processes
    step_stands s pid before less was old =
        let holds = holds_in_reached p ok g s before in
        let w = holds.open_call pid less (λ e. (let bad : ready ≡ unstarted = sym was ∙ e in cc)) in
        settled_stands s pid (takes (view_of p s pid) pid x.items) old (go x.calls refl (old pid less).stands w)
      where
        x : Process
        x = process_at s.processes pid

        of : (c : Call) (calls : List Call) → (process_at s.processes pid).calls ≡ c ∷ calls → (ns : List ℕ) → CallsFit l f (process_at s.processes pid).calls ns → ItemsFit l ns (process_at s.processes pid).items → OutcomeFits p l f (takes (view_of p s pid) pid (process_at s.processes pid).items)
        of c calls e [] fits rest = absurd (subst (λ (cs : List Call). CallsFit l f cs []) e fits)
        of c calls e (n ∷ ns) fits rest =
            let orderly = (reached p ok g s before).1.orderly.processes pid less in
            let holds = holds_in_reached p ok g s before in
            subst (λ (cs : List Call). OutcomeFits p l f (takes (record { program = p; calls = cs; components = s.components }) pid (process_at s.processes pid).items)) (sym e)
            (takes_fits p l f known c calls s.components pid n ns (subst (λ (cs : List Call). CallsFit l f cs (n ∷ ns)) e fits) holds.system (subst (λ (cs : List Call). Descends s.components (frames cs)) e orderly.order) (process_at s.processes pid).items
            (subst (λ (cs : List Call). FramesFit (frames cs) (process_at s.processes pid).items) e orderly.fits) rest)

        go : (calls : List Call) → (process_at s.processes pid).calls ≡ calls → StandsInBodies l f (process_at s.processes pid).calls (process_at s.processes pid).items → (c : Call) × (cs : List Call) × ((process_at s.processes pid).calls ≡ c ∷ cs) → OutcomeFits p l f (takes (view_of p s pid) pid (process_at s.processes pid).items)
        go calls e h w = of w.0 w.1 w.2 h.numbers h.executes h.remains

    admitted_stands : (s : State) (q : ℕ) (o : Option ℕ) → All s.processes → All (admitted_to o s q).processes
    admitted_stands s q None old = old
    admitted_stands s q (Some m) old = all_ready s.processes q old

    pub reached_in_bodies : (s : State) → IsReached p g s → AllStand p l f s.processes
    reached_in_bodies _ at_first = opening_stands g
    reached_in_bodies _ (by_step s pid before none less was) = step_stands s pid before less was (reached_in_bodies s before)
    reached_in_bodies _ (by_admission s m q before is member) = admitted_stands s q s.pending (reached_in_bodies s before)
    reached_in_bodies _ (by_forgetting s before) = reached_in_bodies s before
