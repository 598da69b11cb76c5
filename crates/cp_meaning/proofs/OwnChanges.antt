-- A step changes only what the process holds, in whatever state it is taken, as long as the open calls of that process are held.
use Rattle.std.proofs.Common.{◌≡◌, ◌≢◌, ℕ, ◌<◌, ◌≤◌, ◌-◌, ◌==◌, ◌∙◌, ◌⊎◌, inl, inr, ℤ, Bool, true, false, ◌||◌, if◌then◌else◌, List, [], ◌∷◌, ◌++◌, length, get_or, set, slice_set, Option, Some, None, Ok, Err, ap, sym, refl, subst, arith, eq-eqb, length-set}
use Rattle.cp_meaning.proofs.Words.{SystemKind, Program, Name, same_name, Outcome, SystemMeaning, system_of, content_of, with_permanents, with_status, stored, Value, number_of, queue_value, takes}
use Rattle.cp_meaning.proofs.Words.{Move, stays, enters, leaves, delays, continues, starts, shows, ends, Doing, IsStarted, is_parameter, IsParameterOf, step_of}
use Rattle.cp_tree.specs.declared.declaration.SystemKind.TheVariants as system_kind
use Rattle.cp_tree.specs.Syntax.{Expressions, more_expressions, Designator, designator, Selectors, no_selectors, more_selectors, Selector, field, index}
use Rattle.cp_meaning.specs.Outcome.{ErrorName}
use Rattle.cp_meaning.specs.Types.{Ty, array_over, is_within}
use Rattle.cp_meaning.specs.Scopes.{Meaning, local_variable, permanent_variable, find}
use Rattle.cp_meaning.specs.Declarations.{Parameter, RoutineMeaning}
use Rattle.cp_meaning.specs.State.{Holder, in_call, in_component, Place, Content, refers, Environment, uninitialised, initialising, initialised, Component, component_at, no_component, CallKind, entry_routine, is_entry_kind, Call, current, Item, Status, unstarted, ready, at_gate, delayed, ended, Process, process_at, Signals, return_signals, continue_signals, wait_signals, State}
use Rattle.cp_meaning.specs.Places.{View, Target, call_above, with_environment_of, plain_place, referred, target_meant, target_named}
use Rattle.cp_meaning.specs.Expressions.{value, target_value, selected, chosen, with_element_of}
use Rattle.cp_meaning.specs.Calls.{bound, bound_argument, is_uninitialised, entered_as, initialised_in, started_as}
use Rattle.cp_meaning.specs.LocalRules.{continued_from, leaving_move, return_move, returned}
use Rattle.cp_meaning.specs.Kernel.{output_room, made_ready, waits_inside, at_gate_first, going_on, signalling, moved_to, is_anybody_inside, entering, process_of, begun, with_begun, starting_as, starting, displaying, kernel_step}
use Rattle.cp_meaning.specs.Ownership.{HoldsComponent, HoldsPlace, HoldsCalls, ChangesHeld, OthersKept}
use Rattle.cp_meaning.specs.Steps.{settled, view_of}
use Rattle.cp_meaning.proofs.Frames.{at_set}
use Rattle.cp_meaning.proofs.Good.{status_at}
use Rattle.cp_meaning.proofs.Stored.{field_kept}
use Rattle.cp_meaning.proofs.Orderly.{which}
use Rattle.cp_meaning.proofs.LocalLaw.{uninitialised_told}
use Rattle.cp_meaning.proofs.Held.{permanents_at, permanents_set, nothing_append}
use Rattle.cp_meaning.proofs.OwnKernel.{Keeps, keeps_all, lined, let_in_keeps, continuing_keeps, notifying_keeps, lined_readied, process_found}
use Rattle.cp_meaning.proofs.Taken.{AllOf, whatever, bind_known, bind_all, if_all, Rules, takes_all}

-- ---- the names of parameters

-- names that are none of these parameters have nothing in the environment
abbrev NamedBy : List Parameter → Environment → Type 0
NamedBy qs e = (x : Name) → is_parameter x qs ≡ false → content_of x e ≡ None

named_cons : (q : Parameter) (qs : List Parameter) (k : Content) (e : Environment) → NamedBy qs e → NamedBy (q ∷ qs) ((q.name, k) ∷ e)
named_cons q qs k e g x h = go (same_name x q.name) h
  where
    go : (b : Bool) → (b || is_parameter x qs) ≡ false → (if b then Some k else content_of x e) ≡ None
    go true h = absurd (let bad : true ≡ false = h in cc)
    go false h = g x h

bound_named : (v : View) (qs : List Parameter) (es : Expressions) → AllOf (NamedBy qs) (bound v qs es)
bound_named v (q ∷ qs) (more_expressions e es) = bind_all (NamedBy (q ∷ qs)) (bound_argument v q e) _ (λ k. bind_known (NamedBy qs) (NamedBy (q ∷ qs)) (bound v qs es) _ (bound_named v qs es) (λ rest g. named_cons q qs k rest g))
bound_named v _ _ = λ x h. refl

-- ---- local rules

-- what a component was before it is begun to be initialised
abbrev Begins : (cs ds : List Component) → ℕ → Type 0
Begins cs ds n = (status_at cs n ≡ uninitialised) × (status_at ds n ≡ initialising)

module _ (p : Program) (s : State) (pid : ℕ) where
  abbrev me : Process
  me = process_at s.processes pid

  abbrev cs : List Component
  cs = s.components

  -- in an open call, or in a component that is held
  abbrev Near : Holder → Type 0
  Near (in_call b) = Unit {0}
  Near (in_component n) = HoldsComponent s me n

  abbrev NearTarget : Target → Type 0
  NearTarget t = Near t.place.holder

  -- a process that is started is given names of its parameters
  abbrev MoveNamed : Move → Type 0
  MoveNamed (starts c e) = NamedBy (system_of p (component_at cs c).system).parameters e
  MoveNamed stays = Unit {0}
  MoveNamed (enters n) = Unit {0}
  MoveNamed (leaves n) = Unit {0}
  MoveNamed (delays n) = Unit {0}
  MoveNamed (continues n o calls items) = Unit {0}
  MoveNamed (shows x) = Unit {0}
  MoveNamed ends = Unit {0}

  abbrev OnlyHeld : List Component → Type 0
  OnlyHeld ds = (n : ℕ) (x : Name) → content_of x (permanents_at cs n) ≢ content_of x (permanents_at ds n) → HoldsComponent s me n

  -- what the local rules change of components
  record Changes (ds : List Component) (move : Move) : Type 0 where
    changed : (n : ℕ) (x : Name) → content_of x (permanents_at cs n) ≢ content_of x (permanents_at ds n) → HoldsComponent s me n ⊎ (Begins cs ds n × IsParameterOf p cs n x)
    starting : MoveNamed move

  abbrev DoingChanges : Doing → Type 0
  DoingChanges d = Changes d.components d.move

  nothing : (move : Move) → MoveNamed move → Changes cs move
  nothing move m = record { changed = λ n x ne. absurd (ne refl); starting = m }

  only : (ds : List Component) (move : Move) → OnlyHeld ds → MoveNamed move → Changes ds move
  only ds move h m = record { changed = λ n x ne. inl (h n x ne); starting = m }

  -- ---- places

  near_held : (h : Holder) → HoldsPlace s me h → Near h
  near_held (in_call b) k = tt
  near_held (in_component n) k = k

  module _ (c : Call) (calls : List Call) (held : HoldsCalls s me (c ∷ calls)) where
    inner : View
    inner = record { program = p; calls = c ∷ calls; components = cs }

    this_is : call_above (c ∷ calls) (length (c ∷ calls) - 1) ≡ c
    this_is = rw (eq-eqb (length calls) (length (c ∷ calls) - 1) (omega arith)) refl

    referred_near : (o : Option Content) (x : Name) → content_of x c.environment ≡ o → Near (referred o (plain_place (in_call (length (c ∷ calls) - 1)) x)).holder
    referred_near (Some (refers q)) x e = near_held q.holder (held.1 x q e)
    referred_near _ x e = tt

    meant_near : (x : Name) (m : Option Meaning) → NearTarget (target_meant (record { program = p; calls = c ∷ calls; components = cs }) x m)
    meant_near x (Some (permanent_variable t)) = held.0
    meant_near x (Some (local_variable t)) = referred_near (content_of x (call_above (c ∷ calls) (length (c ∷ calls) - 1)).environment) x (ap (λ k. content_of x k.environment) (sym this_is))
    meant_near x _ = tt

  named_near : (calls : List Call) → HoldsCalls s me calls → (x : Name) → NearTarget (target_named (record { program = p; calls = calls; components = cs }) x)
  named_near [] held x = tt
  named_near (c ∷ calls) held x = meant_near c calls held x (find x c.scope)

  module _ (calls : List Call) (held : HoldsCalls s me calls) where
    abbrev v : View
    v = record { program = p; calls = calls; components = cs }

    target_if : (b : Bool) (t : Target) (e : ErrorName) → NearTarget t → AllOf NearTarget (if b then Ok t else Err e)
    target_if true t e h = h
    target_if false t e h = tt

    element_near : (u : Ty) (t : Target) (z : ℤ) → NearTarget t → AllOf NearTarget (with_element_of u t z)
    element_near (array_over r u) t z h = target_if (is_within r z) _ _ h
    element_near _ t z h = h

    chosen_near : (e : Selector) (t : Target) → NearTarget t → AllOf NearTarget (chosen v e t)
    chosen_near (field i) t h = h
    chosen_near (index e) t h = bind_all NearTarget (value v e) _ (λ x. element_near t.ty t (number_of x.value) h)

    selected_near : (es : Selectors) (t : Target) → NearTarget t → AllOf NearTarget (selected v es t)
    selected_near no_selectors t h = h
    selected_near (more_selectors e es) t h = bind_known NearTarget NearTarget (chosen v e t) _ (chosen_near e t h) (λ u k. selected_near es u k)

    target_near : (d : Designator) → AllOf NearTarget (target_value v d)
    target_near (designator i es) = selected_near es (target_named v i.name) (named_near calls held i.name)

    -- ---- values that are stored

    changed_in : (h : Holder) (e : Environment) → Near h → OnlyHeld (with_environment_of v h e).components
    changed_in (in_call b) e k n x ne = absurd (ne refl)
    changed_in (in_component m) e k n x ne = go (permanents_set cs m n _)
      where
        go : ((n ≡ m) × (permanents_at (with_permanents cs m e) n ≡ e)) ⊎ (permanents_at (with_permanents cs m e) n ≡ permanents_at cs n) → HoldsComponent s me n
        go (inl h) = subst (HoldsComponent s me) (sym h.0) k
        go (inr h) = absurd (ne (ap (content_of x) (sym h)))

    stored_only : (q : Place) (w : Value) → Near q.holder → OnlyHeld (stored v q w).components
    stored_only q w k = changed_in q.holder _ k

    -- ---- starts, and the ends of calls

    module _ (d : ℕ) (e : Environment) (free : status_at cs d ≡ uninitialised) (names : NamedBy (system_of p (component_at cs d).system).parameters e) where
      abbrev after : List Component
      after = with_status cs d initialising (e ++ permanents_at cs d)

      abbrev started : Component
      started = let c = component_at cs d in record { path = c.path; system = c.system; kind = c.kind; status = initialising; environment = e ++ c.environment; line = c.line }

      initial_changes : (n : ℕ) (x : Name) → content_of x (permanents_at cs n) ≢ content_of x (permanents_at after n) → HoldsComponent s me n ⊎ (Begins cs after n × IsParameterOf p cs n x)
      initial_changes n x ne = go (at_set cs d n started no_component)
        where
          go : ((n ≡ d) × (d < length cs) × (get_or (set cs d started) n no_component ≡ started)) ⊎ ((n ≡ d → length cs ≤ d) × (get_or (set cs d started) n no_component ≡ get_or cs n no_component)) → HoldsComponent s me n ⊎ (Begins cs after n × IsParameterOf p cs n x)
          go (inl h) = named (is_parameter x (system_of p (component_at cs d).system).parameters) refl
            where
              named : (b : Bool) → is_parameter x (system_of p (component_at cs d).system).parameters ≡ b → HoldsComponent s me n ⊎ (Begins cs after n × IsParameterOf p cs n x)
              named true t = inr ((ap (status_at cs) h.0 ∙ free, ap (λ c. c.status) h.2), subst (λ j. IsParameterOf p cs j x) (sym h.0) t)
              named false t = absurd (ne (ap (λ j. content_of x (permanents_at cs j)) h.0 ∙ sym (nothing_append x e (permanents_at cs d) (names x t)) ∙ ap (λ c. content_of x c.environment) (sym h.2)))
          go (inr h) = absurd (ne (ap (λ c. content_of x c.environment) (sym h.1)))

    initialised_changes : (d : ℕ) (k : SystemMeaning) (items : List Item) (e : Environment) → NamedBy (system_of p (component_at cs d).system).parameters e → AllOf DoingChanges (initialised_in v d k items e)
    initialised_changes d k items e names =
        if_all DoingChanges (is_uninitialised (status_at cs d)) _ _ (λ u. record { changed = initial_changes d e (uninitialised_told (status_at cs d) u) names; starting = tt }) tt

    started_changes : (k : SystemKind) (d : ℕ) (items : List Item) (e : Environment) → NamedBy (system_of p (component_at cs d).system).parameters e → AllOf DoingChanges (started_as k v d (system_of p (component_at cs d).system) items e)
    started_changes system_kind.Process d items e names = nothing (starts d e) names
    started_changes _ d items e names = initialised_changes d (system_of p (component_at cs d).system) items e names

    entered_changes : (k : SystemKind) (d : ℕ) (r : RoutineMeaning) (o : Option Name) (items : List Item) (e : Environment) → DoingChanges (entered_as k v d r o items e)
    entered_changes system_kind.Monitor d r o items e = nothing (enters d) tt
    entered_changes _ d r o items e = nothing stays tt

    continued_changes : (k : CallKind) (items : List Item) (q : Place) → Near q.holder → DoingChanges (continued_from v k items q)
    continued_changes entry_routine items q n = only (stored v q (queue_value None)).components _ (stored_only q (queue_value None) n) tt
    continued_changes _ items q n = nothing stays tt

    leaving_named : (k : SystemKind) (m : ℕ) → MoveNamed (leaving_move k m)
    leaving_named system_kind.Monitor m = tt
    leaving_named _ m = tt

    back_named : MoveNamed (return_move cs (current calls))
    back_named = go (is_entry_kind (current calls).kind)
      where
        go : (b : Bool) → MoveNamed (if b then leaving_move (component_at cs (current calls).component).kind (current calls).component else stays)
        go true = leaving_named (component_at cs (current calls).component).kind (current calls).component
        go false = tt

    returned_changes : (o : Option Name) (items : List Item) → DoingChanges (returned v o items)
    returned_changes None items = nothing _ back_named
    returned_changes (Some x) items = nothing _ back_named

    finished_only : (m : ℕ) → OnlyHeld (with_status cs m initialised (permanents_at cs m))
    finished_only m n x ne = absurd (ne (ap (content_of x) (sym (field_kept (λ c. c.environment) cs m _ refl n))))

    rules : Rules p calls cs pid DoingChanges (λ u. OnlyHeld u.components) (λ items. Unit {0}) (λ q. Near q.holder) (λ e. Unit {0}) (λ k e. NamedBy (system_of p k).parameters e)
    rules =
        record {
          near = target_near;
          named = λ i. named_near calls held i.name;
          arguments = λ qs es. whatever (bound v qs es);
          handed = λ k es. bound_named v (system_of p k).parameters es;
          plain = λ xs items h f. tt;
          rest = λ i items h f. tt;
          as_it_is = λ n x ne. absurd (ne refl);
          stores = stored_only;
          goes_on = λ u items a f. only u.components stays a tt;
          ended = λ items f. nothing ends tt;
          shows = λ items x f. nothing _ tt;
          opens = λ r o items e h f. nothing stays tt;
          enters = λ q r o items e n h i f. entered_changes _ _ r o items e;
          starts = λ q items e n h f. started_changes _ _ items e h;
          waits = λ q items n f. only _ _ (stored_only q (queue_value (Some pid)) n) tt;
          continues = λ q items n f. continued_changes (current calls).kind items q n;
          returns = λ o items f. returned_changes o items;
          finishes = λ m items f. only _ stays (finished_only m) tt;
        }

    takes_changes : (items : List Item) → AllOf DoingChanges (takes v pid items)
    takes_changes items = takes_all p calls cs pid DoingChanges (λ u. OnlyHeld u.components) (λ items. Unit {0}) (λ q. Near q.holder) (λ e. Unit {0}) (λ k e. NamedBy (system_of p k).parameters e) rules items tt

  -- ---- kernel rules

  -- what a step to t changes
  pub record StepChanges (t : State) : Type 0 where
    pub held : ChangesHeld p s t pid
    pub others : OthersKept s t pid

  no_step : StepChanges s
  no_step = record { held = λ n x ne. absurd (ne refl); others = λ q l ne. inl refl }

  module _ (lt : pid < length s.processes) (d : Doing) where
    abbrev ds : List Component
    ds = d.components

    abbrev become : Status → Process
    become status = record { component = me.component; status = status; calls = d.calls; items = d.items }

    other_process : (status : Status) (q : ℕ) → q < length s.processes → q ≢ pid → process_at (moved_to status s pid d).processes q ≡ process_at s.processes q
    other_process status q l ne = go (which s.processes pid q (become status) l)
      where
        go : ((q ≡ pid) × (process_at (slice_set s.processes pid (become status)) q ≡ become status)) ⊎ ((q ≡ pid → ⊥) × (process_at (slice_set s.processes pid (become status)) q ≡ process_at s.processes q)) → process_at (slice_set s.processes pid (become status)) q ≡ process_at s.processes q
        go (inl e) = absurd (ne e.0)
        go (inr e) = e.1

    module _ (move : Move) (h : Changes ds move) where
      -- what follows the item changes no variable
      steps_to : (status : Status) (t : State) → Keeps [] (moved_to status s pid d) t → StepChanges t
      steps_to status t keeps =
          record {
            held = λ n x ne. go n x (h.changed n x (λ e. ne (e ∙ ap (content_of x) (sym (keeps.variables n).0))));
            others = λ q l ne. inl (keeps.calls q (rw (length-set s.processes pid (become status)) l) ∙ ap (λ y. y.calls) (other_process status q l ne));
          }
        where
          go : (n : ℕ) (x : Name) → HoldsComponent s me n ⊎ (Begins cs ds n × IsParameterOf p cs n x) → HoldsComponent s me n ⊎ (IsStarted s t n × IsParameterOf p cs n x)
          go n x (inl k) = inl k
          go n x (inr k) = inr (inl (k.0.0, (keeps.variables n).1 ∙ k.0.1), k.1)

      steps_moved : (status : Status) → StepChanges (moved_to status s pid d)
      steps_moved status = steps_to status (moved_to status s pid d) (keeps_all [] (moved_to status s pid d))

    entering_changes : (m : ℕ) (b : Bool) → Changes ds (enters m) → StepChanges (entering b s pid m d)
    entering_changes m false h = steps_moved (enters m) h ready
    entering_changes m true h = steps_to (enters m) h (at_gate m) _ (lined [] (moved_to (at_gate m) s pid d) m _)

    displaying_changes : (b : Bool) (x : _) → Changes ds (shows x) → StepChanges (displaying b s pid d x).state
    displaying_changes true x h = no_step
    displaying_changes false x h = let k = steps_moved (shows x) h ready in record { held = k.held; others = k.others }

    -- ---- a process begins

    module _ (c r : ℕ) (e : Environment) (h : Changes ds (starts c e)) (there : r < length (moved_to ready s pid d).processes) (its : (process_at (moved_to ready s pid d).processes r).component ≡ c)
        (idle : (process_at (moved_to ready s pid d).processes r).status ≡ unstarted) where
      abbrev moved : State
      moved = moved_to ready s pid d

      abbrev es : List Component
      es = with_permanents ds c (e ++ permanents_at ds c)

      abbrev new : Process
      new = begun c (system_of p (component_at ds c).system)

      abbrev late : State
      late = with_begun p moved r c e

      begun_there : process_at (slice_set moved.processes r new) r ≡ new
      begun_there = go (which moved.processes r r new there)
        where
          go : ((r ≡ r) × (process_at (slice_set moved.processes r new) r ≡ new)) ⊎ ((r ≡ r → ⊥) × (process_at (slice_set moved.processes r new) r ≡ process_at moved.processes r)) → process_at (slice_set moved.processes r new) r ≡ new
          go (inl k) = k.1
          go (inr k) = absurd (k.0 refl)

      -- the process that begins is not the one that steps
      before_begun : process_at moved.processes r ≡ process_at s.processes r
      before_begun = go (which s.processes pid r (become ready) (rw (← length-set s.processes pid (become ready)) there))
        where
          go : ((r ≡ pid) × (process_at moved.processes r ≡ become ready)) ⊎ ((r ≡ pid → ⊥) × (process_at moved.processes r ≡ process_at s.processes r)) → process_at moved.processes r ≡ process_at s.processes r
          go (inl k) = absurd (let bad : unstarted ≡ ready = sym idle ∙ ap (λ y. y.status) k.1 in cc)
          go (inr k) = k.1

      started_now : IsStarted s late c
      started_now = inr (r, sym (ap (λ y. y.component) before_begun) ∙ its, sym (ap (λ y. y.status) before_begun) ∙ idle, ap (λ y. y.status) begun_there)

      begun_held : ChangesHeld p s late pid
      begun_held n x ne = go (permanents_set ds c n _)
        where
          later : HoldsComponent s me n ⊎ (Begins cs ds n × IsParameterOf p cs n x) → HoldsComponent s me n ⊎ (IsStarted s late n × IsParameterOf p cs n x)
          later (inl k) = inl k
          later (inr k) = inr (inl (k.0.0, field_kept (λ y. y.status) ds c _ refl n ∙ k.0.1), k.1)

          named : (n ≡ c) → permanents_at (with_permanents ds c (e ++ permanents_at ds c)) n ≡ e ++ permanents_at ds c → (b : Bool) → is_parameter x (system_of p (component_at cs c).system).parameters ≡ b → HoldsComponent s me n ⊎ (IsStarted s late n × IsParameterOf p cs n x)
          named k u true t = inr (subst (IsStarted s late) (sym k) started_now, subst (λ j. IsParameterOf p cs j x) (sym k) t)
          named k u false t = later (h.changed n x (λ same. ne (same ∙ ap (λ j. content_of x (permanents_at ds j)) k ∙ sym (nothing_append x e (permanents_at ds c) (h.starting x t)) ∙ ap (content_of x) (sym u))))

          go : ((n ≡ c) × (permanents_at (with_permanents ds c (e ++ permanents_at ds c)) n ≡ e ++ permanents_at ds c)) ⊎ (permanents_at (with_permanents ds c (e ++ permanents_at ds c)) n ≡ permanents_at ds n) → HoldsComponent s me n ⊎ (IsStarted s late n × IsParameterOf p cs n x)
          go (inl k) = named k.0 k.1 (is_parameter x (system_of p (component_at cs c).system).parameters) refl
          go (inr k) = later (h.changed n x (λ t. ne (t ∙ ap (content_of x) (sym k))))

      begun_others : OthersKept s late pid
      begun_others q l ne = go (which moved.processes r q new (rw (length-set s.processes pid (become ready)) l))
        where
          go : ((q ≡ r) × (process_at (slice_set moved.processes r new) q ≡ new)) ⊎ ((q ≡ r → ⊥) × (process_at (slice_set moved.processes r new) q ≡ process_at moved.processes q)) →
              ((process_at (slice_set moved.processes r new) q).calls ≡ (process_at s.processes q).calls) ⊎ (((process_at s.processes q).status ≡ unstarted) × ((process_at (slice_set moved.processes r new) q).status ≡ ready))
          go (inl k) = inr (ap (λ j. (process_at s.processes j).status) k.0 ∙ sym (ap (λ y. y.status) before_begun) ∙ idle, ap (λ y. y.status) k.1)
          go (inr k) = inl (ap (λ y. y.calls) k.1 ∙ ap (λ y. y.calls) (other_process ready q l ne))

      begun_changes : StepChanges late
      begun_changes = record { held = begun_held; others = begun_others }

    starting_as_changes : (c r : ℕ) (e : Environment) (status : Status) → Changes ds (starts c e) → r < length (moved_to ready s pid d).processes → (process_at (moved_to ready s pid d).processes r).component ≡ c →
        (process_at (moved_to ready s pid d).processes r).status ≡ status → StepChanges (starting_as p s pid d r status c e).state
    starting_as_changes c r e unstarted h there its idle = begun_changes c r e h there its idle
    starting_as_changes c r e _ h there its idle = no_step

    starting_changes : (c : ℕ) (o : Option ℕ) (e : Environment) → Changes ds (starts c e) → process_of c (moved_to ready s pid d).processes ≡ o → StepChanges (starting p s pid d o c e).state
    starting_changes c None e h is = steps_moved (starts c e) h ready
    starting_changes c (Some r) e h is =
        let f = process_found c (moved_to ready s pid d).processes r is in
        starting_as_changes c r e (process_at (moved_to ready s pid d).processes r).status h f.0 f.1 refl

  -- the variables that a continue changes are the same where the caller goes on
  going_changes : (d : Doing) (n : ℕ) (o : Option ℕ) (calls : List Call) (items : List Item) → Changes d.components (continues n o calls items) → Changes d.components stays
  going_changes d n o calls items h = record { changed = h.changed; starting = tt }

  signalling_changes : (lt : pid < length s.processes) (d : Doing) (signals : Signals) (n : ℕ) (o : Option ℕ) (calls : List Call) (items : List Item) → Changes d.components (continues n o calls items) → StepChanges (signalling signals s pid d n o calls items)
  signalling_changes lt d return_signals n o calls items h = steps_to lt d (continues n o calls items) h ready _ (continuing_keeps [] (moved_to ready s pid d) n o)
  signalling_changes lt d continue_signals n o calls items h = steps_to lt (going_on d calls items) stays (going_changes d n o calls items h) ready _ (notifying_keeps [] (moved_to ready s pid (going_on d calls items)) n o)
  signalling_changes lt d wait_signals n None calls items h = steps_moved lt (going_on d calls items) stays (going_changes d n None calls items h) ready
  signalling_changes lt d wait_signals n (Some r) calls items h = go (waits_inside s n r)
    where
      e : Doing
      e = going_on d calls items

      go : (b : Bool) → StepChanges (if b then made_ready (at_gate_first s pid n e) r else moved_to ready s pid e)
      go true = steps_to lt e stays (going_changes d n (Some r) calls items h) (at_gate n) _ (lined_readied [] (moved_to (at_gate n) s pid e) n r _)
      go false = steps_moved lt e stays (going_changes d n (Some r) calls items h) ready

  module _ (lt : pid < length s.processes) (d : Doing) where
    kernel_changes : (move : Move) → Changes d.components move → StepChanges (kernel_step p s pid d move).state
    kernel_changes stays h = steps_moved lt d stays h ready
    kernel_changes (enters n) h = entering_changes lt d n (is_anybody_inside n s.processes) h
    kernel_changes (leaves n) h = steps_to lt d (leaves n) h ready _ (let_in_keeps [] s.discipline.gates (moved_to ready s pid d) n)
    kernel_changes (delays n) h = steps_to lt d (delays n) h (delayed n) _ (let_in_keeps [] s.discipline.gates (moved_to (delayed n) s pid d) n)
    kernel_changes (continues n o calls items) h = signalling_changes lt d s.discipline.signals n o calls items h
    kernel_changes (starts c e) h = starting_changes lt d c (process_of c (moved_to ready s pid d).processes) e h refl
    kernel_changes (shows x) h = displaying_changes lt d (length s.output == output_room) x h
    kernel_changes ends h = steps_moved lt d ends h ended

  settled_changes : pid < length s.processes → (o : Outcome Doing) → AllOf DoingChanges o → StepChanges (settled p s pid o).state
  settled_changes lt (Ok d) h = kernel_changes lt d d.move h
  settled_changes lt (Err e) h = no_step

  -- of any state in which the open calls of the process are held
  pub step_changes : pid < length s.processes → HoldsCalls s me me.calls → StepChanges (step_of p s pid).state
  step_changes lt held = settled_changes lt (takes (view_of p s pid) pid me.items) (takes_changes me.calls held me.items)
