-- Each kernel rule keeps what processes hold.
use Rattle.std.proofs.Common.{◌≡◌, ℕ, suc, ◌<◌, ◌==◌, ◌∙◌, ◌⊎◌, inl, inr, Bool, true, false, if◌then◌else◌, List, [], ◌∷◌, ◌++◌, length, slice_set, Option, Some, None, ap, sym, refl, subst, arith, eqb-true}
use Rattle.cp_tree.specs.declared.declaration.SystemKind.TheVariants as system_kind
use Rattle.cp_meaning.proofs.Words.{Program, Name, system_of, content_of, with_permanents, owner_of}
use Rattle.cp_meaning.specs.State.{refers, knows, Environment, Component, component_at, Status, unstarted, ready, at_gate, delayed, ended, Process, process_at, Gates, Signals, return_signals, continue_signals, wait_signals, Call, Item, first_gates, any_gates, State}
use Rattle.cp_meaning.specs.Move.{Move, stays, enters, leaves, delays, continues, starts, shows, ends, Doing}
use Rattle.cp_meaning.specs.Kernel.{output_room, with_processes, line_of, with_line_of, waits_inside, at_gate_last, notifying, at_gate_first, going_on, signalling, moved_to, with_process_status, made_ready, first_in, one_in, let_in, is_anybody_inside, entering, is_delayed_in, continuing, after, process_of, begun, with_begun, starting_as, starting, displaying, kernel_step}
use Rattle.cp_meaning.proofs.Frames.{frames}
use Rattle.cp_meaning.proofs.Good.{status_at}
use Rattle.cp_meaning.proofs.Stored.{field_kept}
use Rattle.cp_meaning.proofs.Orderly.{which, within_set}
use Rattle.cp_meaning.proofs.ComponentTree.{kind_at, SameTree, tree_after, set_tree, own_owner}
use Rattle.cp_meaning.proofs.Held.{HeldCalls, Bottom, permanents_at, ClassesKnown, append_content, EarlierKnown, known_set}
use Rattle.cp_meaning.proofs.OwnLocal.{Owned}

pub record OwnedProcess (base : List Component) (p : Process) : Type 0 where
  pub held : HeldCalls base p.component p.calls
  pub bottom : Bottom p.component (frames p.calls)
  pub component : p.component < length base

abbrev pub AllOwned : List Component → List Process → Type 0
AllOwned base ps = (q : ℕ) → q < length ps → OwnedProcess base (process_at ps q)

pub record OwnedState (base : List Component) (s : State) : Type 0 where
  pub tree : SameTree base s.components
  pub classes : ClassesKnown base s.components
  pub earlier : EarlierKnown base s.components
  pub processes : AllOwned base s.processes

owned_set : (base : List Component) (ps : List Process) (pid : ℕ) (x : Process) → AllOwned base ps → (pid < length ps → OwnedProcess base x) → AllOwned base (slice_set ps pid x)
owned_set base ps pid x old new q lt = go (which ps pid q x (within_set ps pid q x lt))
  where
    go : ((q ≡ pid) × (process_at (slice_set ps pid x) q ≡ x)) ⊎ ((q ≡ pid → ⊥) × (process_at (slice_set ps pid x) q ≡ process_at ps q)) → OwnedProcess base (process_at (slice_set ps pid x) q)
    go (inl h) = subst (OwnedProcess base) (sym h.1) (new (subst (λ j. j < length ps) h.0 (within_set ps pid q x lt)))
    go (inr h) = subst (OwnedProcess base) (sym h.1) (old q (within_set ps pid q x lt))

-- the same variables and statuses
abbrev pub SameVariables : List Component → List Component → Type 0
SameVariables cs ds = (n : ℕ) → (permanents_at ds n ≡ permanents_at cs n) × (status_at ds n ≡ status_at cs n)

-- the same open calls
abbrev pub SameCalls : List Process → List Process → Type 0
SameCalls ps qs = (q : ℕ) → q < length ps → (process_at qs q).calls ≡ (process_at ps q).calls

-- from one state to another with the same variables and open calls
pub record Keeps (base : List Component) (s t : State) : Type 0 where
  pub owned : OwnedState base s → OwnedState base t
  pub variables : SameVariables s.components t.components
  pub calls : SameCalls s.processes t.processes

pub keeps_all : (base : List Component) (s : State) → Keeps base s s
keeps_all base s = record { owned = λ h. h; variables = λ n. (refl, refl); calls = λ q lt. refl }

pub lined : (base : List Component) (s : State) (m : ℕ) (line : List ℕ) → Keeps base s (with_line_of s m line)
lined base s m line =
    record {
      owned = λ h. (record { tree = tree_after base s.components _ h.tree (set_tree s.components m _ refl refl refl); classes = known_set _ s.components m _ (λ d x t. h.classes m d x t) h.classes; earlier = known_set _ s.components m _ (λ d x t. h.earlier m d x t) h.earlier; processes = h.processes });
      variables = λ n. (field_kept (λ c. c.environment) s.components m _ refl n, field_kept (λ c. c.status) s.components m _ refl n);
      calls = λ q lt. refl;
    }

restated_calls : (ps : List Process) (r : ℕ) (status : Status) → SameCalls ps (slice_set ps r (with_process_status (process_at ps r) status))
restated_calls ps r status q lt = go (which ps r q _ lt)
  where
    go : ((q ≡ r) × (process_at (slice_set ps r (with_process_status (process_at ps r) status)) q ≡ with_process_status (process_at ps r) status)) ⊎ ((q ≡ r → ⊥) × (process_at (slice_set ps r (with_process_status (process_at ps r) status)) q ≡ process_at ps q)) →
        (process_at (slice_set ps r (with_process_status (process_at ps r) status)) q).calls ≡ (process_at ps q).calls
    go (inl h) = ap (λ p. p.calls) h.1 ∙ ap (λ j. (process_at ps j).calls) (sym h.0)
    go (inr h) = ap (λ p. p.calls) h.1

restated : (base : List Component) (s : State) (r : ℕ) (status : Status) → Keeps base s (with_processes s (slice_set s.processes r (with_process_status (process_at s.processes r) status)))
restated base s r status =
    record {
      owned = λ h. (record { tree = h.tree; classes = h.classes; earlier = h.earlier; processes = owned_set base s.processes r _ h.processes (λ lt. (let p = h.processes r lt in record { held = p.held; bottom = p.bottom; component = p.component })) });
      variables = λ n. (refl, refl);
      calls = restated_calls s.processes r status;
    }

readied : (base : List Component) (s : State) (r : ℕ) → Keeps base s (made_ready s r)
readied base s r = restated base s r ready

gone_in : (base : List Component) (s : State) (m q : ℕ) (line : List ℕ) → OwnedState base s → OwnedState base (with_line_of (made_ready s q) m line)
gone_in base s m q line h = (lined base (made_ready s q) m line).owned ((readied base s q).owned h)

pub goes_in : (base : List Component) (s : State) (m q : ℕ) (line : List ℕ) → Keeps base s (with_line_of (made_ready s q) m line)
goes_in base s m q line =
    record {
      owned = gone_in base s m q line;
      variables = (lined base (made_ready s q) m line).variables;
      calls = restated_calls s.processes q ready;
    }

first_keeps : (base : List Component) (line : List ℕ) (s : State) (m : ℕ) → Keeps base s (first_in line s m)
first_keeps base [] s m = keeps_all base s
first_keeps base (q ∷ line) s m = goes_in base s m q line

one_keeps : (base : List Component) (line : List ℕ) (s : State) (m : ℕ) → Keeps base s (one_in line s m)
one_keeps base [] s m = keeps_all base s
one_keeps base (q ∷ []) s m = goes_in base s m q []
one_keeps base (q ∷ r ∷ line) s m = record { owned = λ h. record { tree = h.tree; classes = h.classes; earlier = h.earlier; processes = h.processes }; variables = λ n. (refl, refl); calls = λ k lt. refl }

pub let_in_keeps : (base : List Component) (g : Gates) (s : State) (m : ℕ) → Keeps base s (let_in g s m)
let_in_keeps base first_gates s m = first_keeps base (line_of s m) s m
let_in_keeps base any_gates s m = one_keeps base (line_of s m) s m

pub continuing_keeps : (base : List Component) (s : State) (m : ℕ) (o : Option ℕ) → Keeps base s (continuing s m o)
continuing_keeps base s m None = let_in_keeps base s.discipline.gates s m
continuing_keeps base s m (Some r) = go (is_delayed_in m (process_at s.processes r).status)
  where
    go : (b : Bool) → Keeps base s (if b then made_ready s r else let_in s.discipline.gates s m)
    go true = readied base s r
    go false = let_in_keeps base s.discipline.gates s m

last_at_gate : (base : List Component) (s : State) (m r : ℕ) → Keeps base s (at_gate_last s m r)
last_at_gate base s m r =
    let t = with_processes s (slice_set s.processes r (with_process_status (process_at s.processes r) (at_gate m))) in
    let line = lined base t m (line_of s m ++ r ∷ []) in
    record { owned = λ h. line.owned ((restated base s r (at_gate m)).owned h); variables = line.variables; calls = restated_calls s.processes r (at_gate m) }

pub notifying_keeps : (base : List Component) (s : State) (m : ℕ) (o : Option ℕ) → Keeps base s (notifying s m o)
notifying_keeps base s m None = keeps_all base s
notifying_keeps base s m (Some r) = go (waits_inside s m r)
  where
    go : (b : Bool) → Keeps base s (if b then at_gate_last s m r else s)
    go true = last_at_gate base s m r
    go false = keeps_all base s

-- a line, and then a process that is ready
pub lined_readied : (base : List Component) (s : State) (m r : ℕ) (line : List ℕ) → Keeps base s (made_ready (with_line_of s m line) r)
lined_readied base s m r line =
    record {
      owned = λ h. (readied base (with_line_of s m line) r).owned ((lined base s m line).owned h);
      variables = (lined base s m line).variables;
      calls = restated_calls s.processes r ready;
    }

pub process_found : (d : ℕ) (ps : List Process) (r : ℕ) → process_of d ps ≡ Some r → (r < length ps) × ((process_at ps r).component ≡ d)
process_found d [] r h = absurd (let bad : None ≡ Some r = h in cc)
process_found d (p ∷ ps) r h = go (p.component == d) refl h (process_of d ps) refl (process_found d ps)
  where
    some_number : (a b : ℕ) → Some a ≡ Some b → a ≡ b
    some_number a b e = cc

    go : (b : Bool) → (p.component == d) ≡ b → (if b then Some 0 else after (process_of d ps)) ≡ Some r → (o : Option ℕ) → process_of d ps ≡ o → ((k : ℕ) → process_of d ps ≡ Some k → (k < length ps) × ((process_at ps k).component ≡ d)) →
        (r < length (p ∷ ps)) × ((process_at (p ∷ ps) r).component ≡ d)
    go true e h o is rest = subst (λ j. (j < length (p ∷ ps)) × ((process_at (p ∷ ps) j).component ≡ d)) (some_number 0 r h) (omega arith, eqb-true p.component d e)
    go false e h None is rest = absurd (let bad : None ≡ Some r = sym (ap after is) ∙ h in cc)
    go false e h (Some k) is rest =
        let same : suc k ≡ r = some_number (suc k) r (sym (ap after is) ∙ h) in
        let there = rest k is in
        subst (λ j. (j < length (p ∷ ps)) × ((process_at (p ∷ ps) j).component ≡ d)) same ((let lt = there.0 in omega arith), there.1)

module _ (p : Program) (s : State) (pid : ℕ) (base : List Component) (old : OwnedState base s) (lt : pid < length s.processes) (is_ready : (process_at s.processes pid).status ≡ ready) (d : Doing) where
  abbrev ds : List Component
  ds = d.components

  abbrev me : Process
  me = process_at s.processes pid

  abbrev become : Status → Process
  become status = record { component = me.component; status = status; calls = d.calls; items = d.items }

  module _ (move : Move) (h : Owned base me.component d.calls ds move) where
    moved_owned : (status : Status) → OwnedState base (moved_to status s pid d)
    moved_owned status =
        record {
          tree = h.tree;
          classes = h.classes;
          earlier = h.earlier;
          processes = owned_set base s.processes pid (become status) old.processes (λ l. record { held = h.held; bottom = h.bottom; component = (old.processes pid lt).component });
        }

    steps_to : (status : Status) (t : State) → Keeps base (moved_to status s pid d) t → OwnedState base t
    steps_to status t keeps = keeps.owned (moved_owned status)

  entering_steps : (m : ℕ) (b : Bool) → Owned base me.component d.calls ds (enters m) → OwnedState base (entering b s pid m d)
  entering_steps m false h = moved_owned (enters m) h ready
  entering_steps m true h = steps_to (enters m) h (at_gate m) _ (lined base (moved_to (at_gate m) s pid d) m _)

  displaying_steps : (b : Bool) (x : _) → Owned base me.component d.calls ds (shows x) → OwnedState base (displaying b s pid d x).state
  displaying_steps true x h = old
  displaying_steps false x h = let k = moved_owned (shows x) h ready in record { tree = k.tree; classes = k.classes; earlier = k.earlier; processes = k.processes }

  -- ---- a process begins

  module _ (c r : ℕ) (e : Environment) (h : Owned base me.component d.calls ds (starts c e)) (its_kind : kind_at ds c ≡ system_kind.Process)
      (there : r < length (moved_to ready s pid d).processes) (its : (process_at (moved_to ready s pid d).processes r).component ≡ c) (idle : (process_at (moved_to ready s pid d).processes r).status ≡ unstarted) where
    abbrev moved : State
    moved = moved_to ready s pid d

    abbrev es : List Component
    es = with_permanents ds c (e ++ permanents_at ds c)

    abbrev new : Process
    new = begun c (system_of p (component_at ds c).system)

    now : OwnedState base moved
    now = moved_owned (starts c e) h ready

    in_range : c < length base
    in_range = subst (λ j. j < length base) its (now.processes r there).component

    known : (n : ℕ) (x : Name) → kind_at base n ≡ system_kind.Class → (content_of x e ≡ Some (knows n)) ⊎ (content_of x (permanents_at ds c) ≡ Some (knows n)) → owner_of base n ≡ owner_of base c
    known n x class (inl t) = (h.starting in_range n x t).0 class
    known n x class (inr t) = h.classes c n x t class

    lower : (n : ℕ) (x : Name) → (kind_at base n ≡ system_kind.Process → ⊥) → (content_of x e ≡ Some (knows n)) ⊎ (content_of x (permanents_at ds c) ≡ Some (knows n)) → (component_at base n).system < (component_at base c).system
    lower n x never (inl t) = (h.starting in_range n x t).1 never
    lower n x never (inr t) = h.earlier c n x t never

    begun_owned : OwnedState base (with_begun p moved r c e)
    begun_owned =
        record {
          tree = tree_after base ds es h.tree (set_tree ds c _ refl refl refl);
          classes = known_set _ ds c _ (λ n x t class. known n x class (append_content x e (permanents_at ds c) (knows n) t)) h.classes;
          earlier = known_set _ ds c _ (λ n x t never. lower n x never (append_content x e (permanents_at ds c) (knows n) t)) h.earlier;
          processes = owned_set base moved.processes r new now.processes (λ l. (record { held = (inl (own_owner base c system_kind.Process (sym (h.tree.kind c) ∙ its_kind) (λ b. cc)), in_range, (λ x q t. absurd (let bad : None ≡ Some (refers q) = t in cc)), tt); bottom = refl; component = in_range }));
        }

  starting_as_steps : (c r : ℕ) (e : Environment) (status : Status) → Owned base me.component d.calls ds (starts c e) → kind_at ds c ≡ system_kind.Process → r < length (moved_to ready s pid d).processes →
      (process_at (moved_to ready s pid d).processes r).component ≡ c → (process_at (moved_to ready s pid d).processes r).status ≡ status → OwnedState base (starting_as p s pid d r status c e).state
  starting_as_steps c r e unstarted h its_kind there its idle = begun_owned c r e h its_kind there its idle
  starting_as_steps c r e _ h its_kind there its idle = old

  starting_steps : (c : ℕ) (o : Option ℕ) (e : Environment) → Owned base me.component d.calls ds (starts c e) → kind_at ds c ≡ system_kind.Process → process_of c (moved_to ready s pid d).processes ≡ o → OwnedState base (starting p s pid d o c e).state
  starting_steps c None e h its_kind is = moved_owned (starts c e) h ready
  starting_steps c (Some r) e h its_kind is =
      let f = process_found c (moved_to ready s pid d).processes r is in
      starting_as_steps c r e (process_at (moved_to ready s pid d).processes r).status h its_kind f.0 f.1 refl

-- the caller of a continue as it is where it goes on
going_owned : (base : List Component) (mine : ℕ) (d : Doing) (n : ℕ) (o : Option ℕ) (calls : List Call) (items : List Item) → Owned base mine d.calls d.components (continues n o calls items) → Owned base mine calls d.components stays
going_owned base mine d n o calls items h = record { tree = h.tree; held = h.starting.0; bottom = h.starting.1; classes = h.classes; earlier = h.earlier; starting = tt }

module _ (p : Program) (s : State) (pid : ℕ) (base : List Component) (old : OwnedState base s) (lt : pid < length s.processes) (is_ready : (process_at s.processes pid).status ≡ ready) (d : Doing) where
  signalling_owned : (signals : Signals) (n : ℕ) (o : Option ℕ) (calls : List Call) (items : List Item) → Owned base (process_at s.processes pid).component d.calls d.components (continues n o calls items) → OwnedState base (signalling signals s pid d n o calls items)
  signalling_owned return_signals n o calls items h = steps_to p s pid base old lt is_ready d (continues n o calls items) h ready _ (continuing_keeps base (moved_to ready s pid d) n o)
  signalling_owned continue_signals n o calls items h =
      let on = going_owned base _ d n o calls items h in
      steps_to p s pid base old lt is_ready (going_on d calls items) stays on ready _ (notifying_keeps base (moved_to ready s pid (going_on d calls items)) n o)
  signalling_owned wait_signals n None calls items h = moved_owned p s pid base old lt is_ready (going_on d calls items) stays (going_owned base _ d n None calls items h) ready
  signalling_owned wait_signals n (Some r) calls items h = go (waits_inside s n r)
    where
      on : Owned base (process_at s.processes pid).component calls d.components stays
      on = going_owned base _ d n (Some r) calls items h

      e : Doing
      e = going_on d calls items

      go : (b : Bool) → OwnedState base (if b then made_ready (at_gate_first s pid n e) r else moved_to ready s pid e)
      go true = steps_to p s pid base old lt is_ready e stays on (at_gate n) _ (lined_readied base (moved_to (at_gate n) s pid e) n r _)
      go false = moved_owned p s pid base old lt is_ready e stays on ready

module _ (p : Program) (s : State) (pid : ℕ) (base : List Component) (old : OwnedState base s) (lt : pid < length s.processes) (is_ready : (process_at s.processes pid).status ≡ ready) (d : Doing) where
  -- the component of a process that is started is a process
  abbrev pub StartsProcess : Move → Type 0
  StartsProcess (starts c e) = kind_at d.components c ≡ system_kind.Process
  StartsProcess stays = Unit {0}
  StartsProcess (enters n) = Unit {0}
  StartsProcess (leaves n) = Unit {0}
  StartsProcess (delays n) = Unit {0}
  StartsProcess (continues n o calls items) = Unit {0}
  StartsProcess (shows x) = Unit {0}
  StartsProcess ends = Unit {0}

  pub kernel_step_owned : (move : Move) → Owned base (process_at s.processes pid).component d.calls d.components move → StartsProcess move → OwnedState base (kernel_step p s pid d move).state
  kernel_step_owned stays h k = moved_owned p s pid base old lt is_ready d stays h ready
  kernel_step_owned (enters n) h k = entering_steps p s pid base old lt is_ready d n (is_anybody_inside n s.processes) h
  kernel_step_owned (leaves n) h k = steps_to p s pid base old lt is_ready d (leaves n) h ready _ (let_in_keeps base s.discipline.gates (moved_to ready s pid d) n)
  kernel_step_owned (delays n) h k = steps_to p s pid base old lt is_ready d (delays n) h (delayed n) _ (let_in_keeps base s.discipline.gates (moved_to (delayed n) s pid d) n)
  kernel_step_owned (continues n o calls items) h k = signalling_owned p s pid base old lt is_ready d s.discipline.signals n o calls items h
  kernel_step_owned (starts c e) h k = starting_steps p s pid base old lt is_ready d c (process_of c (moved_to ready s pid d).processes) e h k refl
  kernel_step_owned (shows x) h k = displaying_steps p s pid base old lt is_ready d (length s.output == output_room) x h
  kernel_step_owned ends h k = moved_owned p s pid base old lt is_ready d ends h ended
