-- A whole step: what the kernel makes of what an item did.
use Rattle.std.proofs.Common.{◌≡◌, ◌∙◌, ◌⊎◌, inl, inr, ℕ, ◌<◌, ◌≤◌, ◌==◌, Bool, true, false, if◌then◌else◌, List, [], ◌∷◌, ◌++◌, length, get_or, set, slice_set, Option, Some, None, ap, sym, refl, subst, eqb-true, length-set}
use Rattle.cp_tree.specs.declared.declaration.SystemKind.TheVariants as system_kind
use Rattle.cp_tree.specs.Syntax.{Program}
use Rattle.cp_meaning.specs.Systems.{SystemMeaning, system_of}
use Rattle.cp_meaning.specs.State.{Environment, Component, component_at, no_component, Call, Item, Status, unstarted, ready, at_gate, delayed, ended, Process, process_at, no_process, Signals, return_signals, continue_signals, wait_signals, State, Shown, waits_at, is_inside}
use Rattle.cp_meaning.specs.Move.{Move, stays, enters, leaves, delays, continues, starts, shows, ends, Doing}
use Rattle.cp_meaning.specs.Kernel.{output_room, moved_to, made_ready, line_of, with_line_of, let_in, is_anybody_inside, entering, continuing, waits_inside, notifying, at_gate_first, going_on, signalling, process_of, begun, with_begun, starting_as, starting, displaying, kernel_step}
use Rattle.cp_meaning.specs.Places.{with_permanents}
use Rattle.cp_meaning.proofs.Frames.{at_set, Frame, frames, entry_in}
use Rattle.cp_meaning.proofs.Orderly.{which, inside_parts, inside_from}
use Rattle.cp_meaning.proofs.Stored.{permanents_kept}
use Rattle.cp_annotation_laws.specs.Invariants.{InvariantsHold}
use Rattle.cp_annotation_laws.proofs.invariants.Changing.{CallsWithin, MoveWithin, Changes}
use Rattle.cp_annotation_laws.proofs.invariants.Guarded.{outlines, Guarded}
use Rattle.cp_annotation_laws.proofs.invariants.Kept.{IsKept, KeptState, kept_itself, kept_after, same_but_lines, state_itself, state_after, made_kept, line_kept, let_in_kept, continuing_kept, notifying_kept}
use Rattle.cp_annotation_laws.proofs.invariants.Standing.{Standing, IsChecked, InCheck}
use Rattle.cp_annotation_laws.proofs.invariants.Stepping.{MoveChecked, Steps, never_both}

-- a process that begins
pub record Begins (x y : Process) : Type 0 where
  pub was : x.status ≡ unstarted
  pub component : ℕ
  pub system : SystemMeaning
  pub is : y ≡ begun component system

-- from components ds, which the item left: only lines have changed, and the variables of processes
pub record ComponentsKept (ds es : List Component) : Type 0 where
  pub size : length es ≡ length ds
  pub environment : (n : ℕ) → ((component_at es n).environment ≡ (component_at ds n).environment) ⊎ ((n < length ds) × ((component_at ds n).kind ≡ system_kind.Process))
  pub status : (n : ℕ) → (component_at es n).status ≡ (component_at ds n).status
  pub system : (n : ℕ) → (component_at es n).system ≡ (component_at ds n).system

-- process pid becomes y, and others stay, or one begins
pub record StepKept (s : State) (pid : ℕ) (y : Process) (ds : List Component) (t : State) : Type 0 where
  pub own : IsKept y (process_at t.processes pid)
  pub others : (q : ℕ) → (q ≡ pid → ⊥) → IsKept (process_at s.processes q) (process_at t.processes q) ⊎ Begins (process_at s.processes q) (process_at t.processes q)
  pub count : length t.processes ≡ length s.processes
  pub components : ComponentsKept ds t.components

-- and the kernel does more
after_kept : (s : State) (pid : ℕ) (y : Process) (ds : List Component) (t u : State) → StepKept s pid y ds t → ((q : ℕ) → Begins (process_at s.processes q) (process_at t.processes q) → ⊥) → KeptState t u → StepKept s pid y ds u
after_kept s pid y ds t u h none k =
    record {
      own = kept_after y (process_at t.processes pid) (process_at u.processes pid) h.own (k.processes pid);
      others = λ q ne. go q (h.others q ne);
      count = k.count ∙ h.count;
      components = record {
        size = k.components.size ∙ h.components.size;
        environment = λ n. env n (h.components.environment n);
        status = λ n. k.components.status n ∙ h.components.status n;
        system = λ n. k.components.system n ∙ h.components.system n;
      };
    }
  where
    go : (q : ℕ) → IsKept (process_at s.processes q) (process_at t.processes q) ⊎ Begins (process_at s.processes q) (process_at t.processes q) → IsKept (process_at s.processes q) (process_at u.processes q) ⊎ Begins (process_at s.processes q) (process_at u.processes q)
    go q (inl x) = inl (kept_after (process_at s.processes q) (process_at t.processes q) (process_at u.processes q) x (k.processes q))
    go q (inr x) = absurd (none q x)

    env : (n : ℕ) → ((component_at t.components n).environment ≡ (component_at ds n).environment) ⊎ ((n < length ds) × ((component_at ds n).kind ≡ system_kind.Process)) → ((component_at u.components n).environment ≡ (component_at ds n).environment) ⊎ ((n < length ds) × ((component_at ds n).kind ≡ system_kind.Process))
    env n (inl e) = inl (k.components.environment n ∙ e)
    env n (inr e) = inr e

not_true : (b : Bool) → (b ≡ true → ⊥) → b ≡ false
not_true true h = absurd (h refl)
not_true false h = refl

module _ (p : Program) (s : State) (pid : ℕ) (lt : pid < length s.processes) (is_ready : (process_at s.processes pid).status ≡ ready) where
  abbrev me : Process
  me = process_at s.processes pid

  abbrev fs : List Frame
  fs = frames me.calls

  -- what process pid has become
  pub record Done (ds : List Component) (t : State) : Type 0 where
    pub mine : Process
    pub kept : StepKept s pid mine ds t
    pub stands : Standing p mine.status ds mine.calls mine.items
    pub within : CallsWithin mine.calls
    pub leaves : (n : ℕ) → is_inside n me ≡ true → is_inside n mine ≡ false → InvariantsHold p ds n
    pub goes : mine.status ≡ unstarted → ⊥

  module _ (d : Doing) (steps : Steps p s.components fs d) (changes : Changes s.components fs d) where
    abbrev ds : List Component
    ds = d.components

    abbrev become : Status → List Call → List Item → Process
    become u calls items = record { component = me.component; status = u; calls = calls; items = items }

    moved_own : (y : Process) → process_at (slice_set s.processes pid y) pid ≡ y
    moved_own y = go (which s.processes pid pid y lt)
      where
        go : ((pid ≡ pid) × (process_at (slice_set s.processes pid y) pid ≡ y)) ⊎ ((pid ≡ pid → ⊥) × (process_at (slice_set s.processes pid y) pid ≡ process_at s.processes pid)) → process_at (slice_set s.processes pid y) pid ≡ y
        go (inl h) = h.1
        go (inr h) = absurd (h.0 refl)

    moved_other : (y : Process) (q : ℕ) → (q ≡ pid → ⊥) → process_at (slice_set s.processes pid y) q ≡ process_at s.processes q
    moved_other y q ne = go (at_set s.processes pid q y no_process)
      where
        go : ((q ≡ pid) × (pid < length s.processes) × (get_or (set s.processes pid y) q no_process ≡ y)) ⊎ ((q ≡ pid → length s.processes ≤ pid) × (get_or (set s.processes pid y) q no_process ≡ get_or s.processes q no_process)) → process_at (slice_set s.processes pid y) q ≡ process_at s.processes q
        go (inl h) = absurd (ne h.0)
        go (inr h) = h.1

    -- the process is as its item left it, or as it was before, where it goes on
    module _ (u : Status) (calls : List Call) (items : List Item) where
      abbrev e : Doing
      e = going_on d calls items

      moved : StepKept s pid (become u calls items) ds (moved_to u s pid e)
      moved =
          record {
            own = subst (IsKept (become u calls items)) (sym (moved_own (become u calls items))) (kept_itself (become u calls items));
            others = λ q ne. inl (subst (IsKept (process_at s.processes q)) (sym (moved_other (become u calls items) q ne)) (kept_itself (process_at s.processes q)));
            count = length-set s.processes pid (become u calls items);
            components = record { size = refl; environment = λ n. inl refl; status = λ n. refl; system = λ n. refl };
          }

      nobody_begins : (q : ℕ) → Begins (process_at s.processes q) (process_at (moved_to u s pid e).processes q) → ⊥
      nobody_begins q h = go (at_set s.processes pid q (become u calls items) no_process)
        where
          go : ((q ≡ pid) × (pid < length s.processes) × (get_or (set s.processes pid (become u calls items)) q no_process ≡ become u calls items)) ⊎ ((q ≡ pid → length s.processes ≤ pid) × (get_or (set s.processes pid (become u calls items)) q no_process ≡ get_or s.processes q no_process)) → ⊥
          go (inl k) = (let bad : ready ≡ unstarted = sym is_ready ∙ (sym (ap (λ j. (process_at s.processes j).status) k.0) ∙ h.was) in absurd cc)
          go (inr k) = (let bad : ready ≡ unstarted = sym (ap (λ y. y.status) (sym k.1 ∙ h.is)) ∙ h.was in absurd cc)

      more : (t : State) → KeptState (moved_to u s pid e) t → StepKept s pid (become u calls items) ds t
      more t k = after_kept s pid (become u calls items) ds (moved_to u s pid e) t moved nobody_begins k

      left_by : ((n : ℕ) → entry_in n fs ≡ true → entry_in n (frames calls) ≡ false → InvariantsHold p ds n) → ((n : ℕ) → entry_in n fs ≡ true → waits_at n u ≡ true → InvariantsHold p ds n) → (n : ℕ) → is_inside n me ≡ true → is_inside n (become u calls items) ≡ false → InvariantsHold p ds n
      left_by entry waits n h k = go (entry_in n (frames calls)) (waits_at n u) refl refl
        where
          open_then : entry_in n fs ≡ true
          open_then = (inside_parts n me h).0

          go : (a b : Bool) → entry_in n (frames calls) ≡ a → waits_at n u ≡ b → InvariantsHold p ds n
          go false b x y = entry n open_then x
          go true true x y = waits n open_then y
          go true false x y = never_both (is_inside n (become u calls items)) (inside_from n (become u calls items) x y) k

    plain : (d.move ≡ stays → ⊥) → Guarded false (outlines d.calls) d.items
    plain never = go steps.stands
      where
        go : Guarded false (outlines d.calls) d.items ⊎ ((d.move ≡ stays) × (IsChecked p d.components d.calls d.items ⊎ InCheck p d.components d.calls d.items)) → Guarded false (outlines d.calls) d.items
        go (inl g) = g
        go (inr x) = absurd (never x.0)

    no_wait : (n : ℕ) → entry_in n fs ≡ true → false ≡ true → InvariantsHold p ds n
    no_wait n h k = absurd (let bad : false ≡ true = k in cc)

    -- the item's own calls and items, with a status
    itself : (u : Status) → (u ≡ unstarted → ⊥) → (t : State) → KeptState (moved_to u s pid d) t → Standing p u ds d.calls d.items → ((n : ℕ) → entry_in n fs ≡ true → waits_at n u ≡ true → InvariantsHold p ds n) → Done ds t
    itself u begun_now t k stands waits =
        record { mine = become u d.calls d.items; kept = more u d.calls d.items t k; stands = stands; within = changes.within; leaves = left_by u d.calls d.items steps.left waits; goes = begun_now }

    ready_goes : ready ≡ unstarted → ⊥
    ready_goes h = (let bad : ready ≡ unstarted = h in cc)

    itself_ready : (t : State) → KeptState (moved_to ready s pid d) t → (d.move ≡ stays → ⊥) → Done ds t
    itself_ready t k never = itself ready ready_goes t k (inl (plain never)) no_wait

    -- the caller of `continue` goes on
    on : (u : Status) → (u ≡ unstarted → ⊥) → (calls : List Call) (items : List Item) (t : State) → KeptState (moved_to u s pid (going_on d calls items)) t → Guarded false (outlines calls) items → CallsWithin calls → frames calls ≡ fs → ((n : ℕ) → entry_in n fs ≡ true → waits_at n u ≡ true → InvariantsHold p ds n) → Done ds t
    on u begun_now calls items t k g within same waits =
        record {
          mine = become u calls items;
          kept = more u calls items t k;
          stands = inl g;
          within = within;
          leaves = left_by u calls items (λ n h e. never_both (entry_in n fs) h (sym (ap (entry_in n) same) ∙ e)) waits;
          goes = begun_now;
        }

    gate_goes : (n : ℕ) → at_gate n ≡ unstarted → ⊥
    gate_goes n h = (let bad : at_gate n ≡ unstarted = h in cc)

    delay_goes : (n : ℕ) → delayed n ≡ unstarted → ⊥
    delay_goes n h = (let bad : delayed n ≡ unstarted = h in cc)

    -- who waits at a monitor that holds
    held : (m : ℕ) → InvariantsHold p ds m → (n : ℕ) → (m == n) ≡ true → InvariantsHold p ds n
    held m h n e = subst (InvariantsHold p ds) (eqb-true m n e) h

    entering_done : (b : Bool) (m : ℕ) → entry_in m fs ≡ false → (d.move ≡ stays → ⊥) → Done ds (entering b s pid m d)
    entering_done false m new never = itself_ready (moved_to ready s pid d) (state_itself (moved_to ready s pid d)) never
    entering_done true m new never =
        let t : State = moved_to (at_gate m) s pid d in
        itself (at_gate m) (gate_goes m) (with_line_of t m (line_of t m ++ pid ∷ [])) (line_kept t m (line_of t m ++ pid ∷ [])) (inl (plain never)) (λ n h e. never_both (entry_in n fs) h (ap (λ j. entry_in j fs) (sym (eqb-true m n e)) ∙ new))

    signalling_done : (w : Signals) (m : ℕ) (o : Option ℕ) (calls : List Call) (items : List Item) → InvariantsHold p ds m → Guarded false (outlines calls) items → frames calls ≡ fs → CallsWithin calls → (d.move ≡ stays → ⊥) → Done ds (signalling w s pid d m o calls items)
    signalling_done return_signals m o calls items h g same within never = itself_ready (continuing (moved_to ready s pid d) m o) (continuing_kept (moved_to ready s pid d) m o) never
    signalling_done continue_signals m o calls items h g same within never =
        on ready ready_goes calls items (notifying (moved_to ready s pid (going_on d calls items)) m o) (notifying_kept (moved_to ready s pid (going_on d calls items)) m o) g within same no_wait
    signalling_done wait_signals m None calls items h g same within never = on ready ready_goes calls items (moved_to ready s pid (going_on d calls items)) (state_itself (moved_to ready s pid (going_on d calls items))) g within same no_wait
    signalling_done wait_signals m (Some r) calls items h g same within never = go (waits_inside s m r)
      where
        t : State
        t = moved_to (at_gate m) s pid (going_on d calls items)

        go : (b : Bool) → Done ds (if b then made_ready (at_gate_first s pid m (going_on d calls items)) r else moved_to ready s pid (going_on d calls items))
        go true =
            on (at_gate m) (gate_goes m) calls items (made_ready (at_gate_first s pid m (going_on d calls items)) r)
            (state_after t (at_gate_first s pid m (going_on d calls items)) (made_ready (at_gate_first s pid m (going_on d calls items)) r) (line_kept t m (pid ∷ line_of t m)) (made_kept (at_gate_first s pid m (going_on d calls items)) r)) g within same (λ n z e. held m h n e)
        go false = on ready ready_goes calls items (moved_to ready s pid (going_on d calls items)) (state_itself (moved_to ready s pid (going_on d calls items))) g within same no_wait

    -- ---- a process begins

    module _ (c r : ℕ) (e : Environment) (kind : (component_at ds c).kind ≡ system_kind.Process) (idle : (process_at (moved_to ready s pid d).processes r).status ≡ unstarted) where
      abbrev t : State
      t = moved_to ready s pid d

      abbrev new : Process
      new = begun c (system_of p (component_at t.components c).system)

      other : r ≡ pid → ⊥
      other same = (let bad : ready ≡ unstarted = sym (ap (λ y. y.status) (ap (process_at t.processes) same ∙ moved_own (become ready d.calls d.items))) ∙ idle in absurd cc)

      begins_at : (q : ℕ) → (q ≡ pid → ⊥) → ((q ≡ r) × (r < length t.processes) × (get_or (set t.processes r new) q no_process ≡ new)) ⊎ ((q ≡ r → length t.processes ≤ r) × (get_or (set t.processes r new) q no_process ≡ get_or t.processes q no_process)) →
          IsKept (process_at s.processes q) (process_at (with_begun p t r c e).processes q) ⊎ Begins (process_at s.processes q) (process_at (with_begun p t r c e).processes q)
      begins_at q ne (inl h) =
          inr (record {
            was = sym (ap (λ y. y.status) (moved_other (become ready d.calls d.items) q ne)) ∙ (ap (λ j. (process_at t.processes j).status) h.0 ∙ idle);
            component = c;
            system = system_of p (component_at t.components c).system;
            is = h.2;
          })
      begins_at q ne (inr h) = inl (subst (IsKept (process_at s.processes q)) (sym (h.1 ∙ moved_other (become ready d.calls d.items) q ne)) (kept_itself (process_at s.processes q)))

      mine_still : ((pid ≡ r) × (r < length t.processes) × (get_or (set t.processes r new) pid no_process ≡ new)) ⊎ ((pid ≡ r → length t.processes ≤ r) × (get_or (set t.processes r new) pid no_process ≡ get_or t.processes pid no_process)) → process_at (with_begun p t r c e).processes pid ≡ become ready d.calls d.items
      mine_still (inl h) = absurd (other (sym h.0))
      mine_still (inr h) = h.1 ∙ moved_own (become ready d.calls d.items)

      abbrev started : Component
      started = let x = component_at ds c in record { path = x.path; system = x.system; kind = x.kind; status = x.status; environment = e ++ x.environment; line = x.line }

      env : (n : ℕ) → ((n ≡ c) × (c < length ds) × (get_or (set ds c started) n no_component ≡ started)) ⊎ ((n ≡ c → length ds ≤ c) × (get_or (set ds c started) n no_component ≡ get_or ds n no_component)) →
          ((component_at (with_permanents ds c (e ++ (component_at ds c).environment)) n).environment ≡ (component_at ds n).environment) ⊎ ((n < length ds) × ((component_at ds n).kind ≡ system_kind.Process))
      env n (inl h) = inr (subst (λ j. j < length ds) (sym h.0) h.1, ap (λ j. (component_at ds j).kind) h.0 ∙ kind)
      env n (inr h) = inl (ap (λ x. x.environment) h.1)

      begun_kept : StepKept s pid (become ready d.calls d.items) ds (with_begun p t r c e)
      begun_kept =
          record {
            own = subst (IsKept (become ready d.calls d.items)) (sym (mine_still (at_set t.processes r pid new no_process))) (kept_itself (become ready d.calls d.items));
            others = λ q ne. begins_at q ne (at_set t.processes r q new no_process);
            count = length-set t.processes r new ∙ length-set s.processes pid (become ready d.calls d.items);
            components = record {
              size = length-set ds c started;
              environment = λ n. env n (at_set ds c n started no_component);
              status = (permanents_kept ds c (e ++ (component_at ds c).environment)).status;
              system = (permanents_kept ds c (e ++ (component_at ds c).environment)).layout.system;
            };
          }

      begun_done : (d.move ≡ stays → ⊥) → Done ds (with_begun p t r c e)
      begun_done never = record { mine = become ready d.calls d.items; kept = begun_kept; stands = inl (plain never); within = changes.within; leaves = left_by ready d.calls d.items steps.left no_wait; goes = ready_goes }

    starting_as_done : (c r : ℕ) (e : Environment) (u : Status) → (component_at ds c).kind ≡ system_kind.Process → (process_at (moved_to ready s pid d).processes r).status ≡ u → (d.move ≡ stays → ⊥) → ((starting_as p s pid d r u c e).state ≡ s) ⊎ Done ds (starting_as p s pid d r u c e).state
    starting_as_done c r e unstarted kind idle never = inr (begun_done c r e kind idle never)
    starting_as_done c r e ready kind idle never = inl refl
    starting_as_done c r e (at_gate n) kind idle never = inl refl
    starting_as_done c r e (delayed n) kind idle never = inl refl
    starting_as_done c r e ended kind idle never = inl refl

    starting_done : (c : ℕ) (o : Option ℕ) (e : Environment) → (component_at ds c).kind ≡ system_kind.Process → (d.move ≡ stays → ⊥) → ((starting p s pid d o c e).state ≡ s) ⊎ Done ds (starting p s pid d o c e).state
    starting_done c None e kind never = inr (itself_ready (moved_to ready s pid d) (state_itself (moved_to ready s pid d)) never)
    starting_done c (Some r) e kind never = starting_as_done c r e (process_at (moved_to ready s pid d).processes r).status kind refl never

    displaying_done : (b : Bool) (x : Shown) → (d.move ≡ stays → ⊥) → ((displaying b s pid d x).state ≡ s) ⊎ Done ds (displaying b s pid d x).state
    displaying_done true x never = inl refl
    displaying_done false x never =
        inr (itself_ready (record (moved_to ready s pid d) { output = (moved_to ready s pid d).output ++ x ∷ [] }) (record { processes = λ q. kept_itself (process_at (moved_to ready s pid d).processes q); count = refl; components = same_but_lines ds }) never)

    staying : Standing p ready ds d.calls d.items
    staying = go steps.stands
      where
        go : Guarded false (outlines d.calls) d.items ⊎ ((d.move ≡ stays) × (IsChecked p d.components d.calls d.items ⊎ InCheck p d.components d.calls d.items)) → Standing p ready ds d.calls d.items
        go (inl g) = inl g
        go (inr x) = inr (refl, x.1)

    pub kernel_done : (move : Move) → d.move ≡ move → ((kernel_step p s pid d move).state ≡ s) ⊎ Done ds (kernel_step p s pid d move).state
    kernel_done stays is = inr (itself ready ready_goes (moved_to ready s pid d) (state_itself (moved_to ready s pid d)) staying no_wait)
    kernel_done (enters m) is = inr (entering_done (is_anybody_inside m s.processes) m (subst (MoveChecked p fs ds) is steps.move) (λ h. (let bad : enters m ≡ stays = sym is ∙ h in cc)))
    kernel_done (leaves m) is = inr (itself_ready (let_in s.discipline.gates (moved_to ready s pid d) m) (let_in_kept s.discipline.gates (moved_to ready s pid d) m) (λ h. (let bad : leaves m ≡ stays = sym is ∙ h in cc)))
    kernel_done (delays m) is =
        let holds : InvariantsHold p ds m = subst (MoveChecked p fs ds) is steps.move in
        inr (itself (delayed m) (delay_goes m) (let_in s.discipline.gates (moved_to (delayed m) s pid d) m) (let_in_kept s.discipline.gates (moved_to (delayed m) s pid d) m) (inl (plain (λ h. (let bad : delays m ≡ stays = sym is ∙ h in cc)))) (λ n h e. held m holds n e))
    kernel_done (continues m o calls items) is =
        let x : MoveChecked p fs ds (continues m o calls items) = subst (MoveChecked p fs ds) is steps.move in
        inr (signalling_done s.discipline.signals m o calls items x.0 x.1 x.2 (subst MoveWithin is changes.move) (λ h. (let bad : continues m o calls items ≡ stays = sym is ∙ h in cc)))
    kernel_done (starts c e) is = starting_done c (process_of c (moved_to ready s pid d).processes) e (subst (MoveChecked p fs ds) is steps.move) (λ h. (let bad : starts c e ≡ stays = sym is ∙ h in cc))
    kernel_done (shows x) is = displaying_done (length s.output == output_room) x (λ h. (let bad : shows x ≡ stays = sym is ∙ h in cc))
    kernel_done ends is = inr (itself ended (λ h. (let bad : ended ≡ unstarted = h in cc)) (moved_to ended s pid d) (state_itself (moved_to ended s pid d)) (inl (plain (λ h. (let bad : ends ≡ stays = sym is ∙ h in cc)))) no_wait)
