-- What a step may touch is in the places that are noted.
use Rattle.std.proofs.Common.{◌≡◌, ◌∙◌, ◌+◌, ◌<◌, ◌≤◌, ◌⊎◌, inl, inr, ℕ, Bool, true, false, List, [], ◌∷◌, length, Option, Some, None, ap, arith, refl, sym, subst}
use Rattle.std.specs.Prelude.{◌==◌, ◌&&◌, ◌||◌, drop, slice_index_or}
use Rattle.std.proofs.lemmas.Bool.{cases_eq, eq-eqb}
use Rattle.std.proofs.lemmas.List.{drop_more}
use Rattle.cp_slots.specs.Systems.{own_of}
use Rattle.cp_slots.specs.Tables.{Tables, component_at, routine_at}
use Rattle.cp_slots.specs.declared.tables.ComponentKind.{ComponentKind}
use Rattle.cp_slots.specs.declared.tables.ComponentKind.TheVariants as kind
use Rattle.cp_store.specs.declared.memory.Address.{Address}
use Rattle.cp_store.specs.declared.memory.Frame.{Frame}
use Rattle.cp_store.specs.Places.{reference_at}
use Rattle.cp_machine.specs.declared.process.Entry.{Entry}
use Rattle.cp_machine.specs.declared.process.Entry.TheVariants.{Rest, Successor, Return, InitEnd}
use Rattle.cp_machine.specs.declared.state.State.{State}
use Rattle.cp_machine.specs.Fits.{IsStateOf, StackFits}
use Rattle.cp_machine.specs.Machine.{Machine, Thread, is_unstarted, machine_of, thread_at}
use Rattle.cp_machine.specs.Reach.{FrameReaches, StackReaches, frame_at}
use Rattle.cp_machine.specs.Stack.{from_end, is_end}
use Rattle.cp_machine.proofs.frames.Covered.{frame_reaches}
use Rattle.cp_machine.proofs.rooms.Keeping.{frame_fits}
use Rattle.cp_machine.proofs.rooms.RoomLemmas.{within}
use Rattle.cp_effect_laws.specs.Footprint.{Footprint}
use Rattle.cp_effect_laws.specs.Parts.{Places, status_at, waits_among}
use Rattle.cp_effect_laws.specs.Touches.{HasAt, HasComponent, HasEnd, HasKind, HasStep, HasTop}
use Rattle.cp_parts.specs.declared.placing.PlaceTable.{PlaceTable}
use Rattle.cp_parts.specs.Placed.{IsPlaced, places_of}
use Rattle.cp_effects.specs.Noting.{KeepNoted, among}
use Rattle.cp_effects.specs.Touching.{HasBehind, MayTouch, noted_by}
use Rattle.cp_effects.proofs.Wider.{more_noted, wider_at, wider_end, wider_kind}

-- ---- components

module _ (l : Places) (m : Machine) (pid : ℕ) (places : List ℕ) where
  abbrev noted : Footprint
  noted = noted_by l places m pid

  own_status : (number : ℕ) → number ≡ pid → noted.statuses number ≡ true
  own_status number is = ap (λ b. b || ((among places (l.of_process number) && is_unstarted (status_at m number)) || waits_among l (among places) (status_at m number))) (eq-eqb number pid is)

  either_true : (b c d : Bool) → c ≡ true → (b || (c || d)) ≡ true
  either_true true c d h = refl
  either_true false true d h = refl
  either_true false false d h = absurd (cc)

  unstarted_status : (number : ℕ) → among places (l.of_process number) ≡ true → is_unstarted (status_at m number) ≡ true → noted.statuses number ≡ true
  unstarted_status number is un = either_true (number == pid) (among places (l.of_process number) && is_unstarted (status_at m number)) (waits_among l (among places) (status_at m number)) (ap (λ b. b && is_unstarted (status_at m number)) is ∙ un)

module _ (t : PlaceTable) (r : Tables) (m : Machine) (pid : ℕ) (places : List ℕ) where
  kind_noted : (c : ComponentKind) → MayTouch t places m pid c → HasKind (noted_by (places_of t) places m pid) c
  kind_noted (kind.Monitor number) is = is
  kind_noted (kind.Process number) (inl own) = own_status (places_of t) m pid places number own
  kind_noted (kind.Process number) (inr may) = unstarted_status (places_of t) m pid places number may.0 may.1
  kind_noted kind.Class may = may

  pub component_noted : (component : ℕ) → IsPlaced r t → component < length r.components → among places ((places_of t).of_component component) ≡ true → MayTouch t places m pid (component_at r component).kind → HasComponent (noted_by (places_of t) places m pid) r component
  component_noted component placed lt is may =
      record {
        cells = λ k low high. ap (among places) (placed.together component k lt low high) ∙ is;
        status = is;
        kind = kind_noted (component_at r component).kind may;
      }

-- ---- what a process executes

module _ (r : Tables) (s : State) (pid : ℕ) (lt : pid < length s.processes.items) (own : IsStateOf r s) where
  abbrev m : Machine
  m = machine_of s

  abbrev t : Thread
  t = thread_at m.threads pid

  there : pid < length m.threads
  there = within s pid lt

  stack_fits : StackFits r t.frame t.stack
  stack_fits = (own.fits.each pid there).stack

  pub reaches_own : FrameReaches r t.references t.frame
  reaches_own = frame_reaches r t.references t.frame t.stack (own.reach.frames pid there)

  pub component_there : t.frame.component < length r.components
  component_there = reaches_own.component.0

  pub routine_there : t.frame.routine < length r.routines
  routine_there = (frame_fits r t.frame t.stack stack_fits).routine

  -- each `var` parameter of the frame is among the references
  pub reference_there : (k : ℕ) → k < length (routine_at r t.frame.routine).extents → t.frame.references + k < length t.references
  reference_there k h =
      let count = (own.sound.routines t.frame.routine routine_there).extents in
      let has = (own.fits.each pid there).references in
      omega (arith, h, count, has)

monitor_of_end : (r : Tables) (f : Frame) (es rest : List Entry) (caller : Frame) (slot : Option ℕ) (monitor : ℕ) → StackFits r f es → from_end es ≡ Return caller slot (Some monitor) ∷ rest → monitor < r.monitors
monitor_of_end r f [] rest caller slot monitor h is = absurd (cc)
monitor_of_end r f (Rest at ∷ es) rest caller slot monitor h is = monitor_of_end r f es rest caller slot monitor h.1 is
monitor_of_end r f (Successor at value last ∷ es) rest caller slot monitor h is = monitor_of_end r f es rest caller slot monitor h.1 is
monitor_of_end r f (Return other result (Some number) ∷ es) rest caller slot monitor h is = let same : number ≡ monitor = cc in subst (λ k. k < r.monitors) same h.2
monitor_of_end r f (Return other result None ∷ es) rest caller slot monitor h is = absurd (cc)
monitor_of_end r f (InitEnd other component ∷ es) rest caller slot monitor h is = absurd (cc)

component_of_end : (r : Tables) (references : List Address) (f : Frame) (es rest : List Entry) (caller : Frame) (component : ℕ) → StackReaches r references f es → from_end es ≡ InitEnd caller component ∷ rest → component < length r.components
component_of_end r references f [] rest caller component h is = absurd (cc)
component_of_end r references f (Rest at ∷ es) rest caller component h is = component_of_end r references f es rest caller component h is
component_of_end r references f (Successor at value last ∷ es) rest caller component h is = component_of_end r references f es rest caller component h is
component_of_end r references f (Return other result monitor ∷ es) rest caller component h is = absurd (cc)
component_of_end r references f (InitEnd other number ∷ es) rest caller component h is = let same : number ≡ component = cc in subst (λ k. k < length r.components) same h.1

module _ (r : Tables) (s : State) (pid : ℕ) (lt : pid < length s.processes.items) (own : IsStateOf r s) where
  pub end_monitor : (caller : Frame) (slot : Option ℕ) (monitor : ℕ) (rest : List Entry) → from_end (thread_at (machine_of s).threads pid).stack ≡ Return caller slot (Some monitor) ∷ rest → monitor < r.monitors
  end_monitor caller slot monitor rest is = monitor_of_end r (thread_at (machine_of s).threads pid).frame (thread_at (machine_of s).threads pid).stack rest caller slot monitor (own.fits.each pid (within s pid lt)).stack is

  pub end_component : (caller : Frame) (component : ℕ) (rest : List Entry) → from_end (thread_at (machine_of s).threads pid).stack ≡ InitEnd caller component ∷ rest → component < length r.components
  end_component caller component rest is = component_of_end r (thread_at (machine_of s).threads pid).references (thread_at (machine_of s).threads pid).frame (thread_at (machine_of s).threads pid).stack rest caller component (own.reach.frames pid (within s pid lt)) is

-- ---- the end of the innermost call

-- an entry that is no end is passed over
pub passed_over : (es : List Entry) (k : ℕ) (e : Entry) → k < length es → e ≡ slice_index_or es k e → is_end (e ∷ []) ≡ false → from_end (drop (k + 1) es) ≡ from_end (drop k es)
passed_over es k e lt at not = inner e (drop (k + 1) es) not ∙ ap from_end (ap (λ x. x ∷ drop (k + 1) es) at ∙ sym (drop_more es k e lt))
  where
    inner : (x : Entry) (rest : List Entry) → is_end (x ∷ []) ≡ false → from_end rest ≡ from_end (x ∷ rest)
    inner (Rest at) rest h = refl
    inner (Successor at value last) rest h = refl
    inner (Return caller result monitor) rest h = absurd (cc)
    inner (InitEnd caller component) rest h = absurd (cc)

pub found_end : (es : List Entry) (k : ℕ) (e : Entry) → k < length es → e ≡ slice_index_or es k e → is_end (e ∷ []) ≡ true → from_end (drop k es) ≡ e ∷ drop (k + 1) es
found_end es k e lt at is = ap from_end (drop_more es k e lt ∙ ap (λ x. x ∷ drop (k + 1) es) (sym at)) ∙ stays e (drop (k + 1) es) is
  where
    stays : (x : Entry) (rest : List Entry) → is_end (x ∷ []) ≡ true → from_end (x ∷ rest) ≡ x ∷ rest
    stays (Rest at) rest h = absurd (cc)
    stays (Successor at value last) rest h = absurd (cc)
    stays (Return caller result monitor) rest h = refl
    stays (InitEnd caller component) rest h = refl

-- ---- all that a step may touch

-- what was noted of the component that is executed, then of the parameters, then of the end, then of the topmost item
pub step_noted : (l : Places) (r : Tables) (m : Machine) (pid : ℕ) (a b c d : List ℕ) → KeepNoted a b → KeepNoted b c → KeepNoted c d →
    FrameReaches r (thread_at m.threads pid).references (frame_at m pid) →
    HasComponent (noted_by l a m pid) r (frame_at m pid).component →
    HasBehind (λ k. among b (l.of_cell k)) r (thread_at m.threads pid).references (frame_at m pid) →
    HasEnd (noted_by l c m pid) (from_end (thread_at m.threads pid).stack) →
    HasTop (noted_by l d m pid) r m pid (thread_at m.threads pid).stack →
    HasStep (noted_by l d m pid) r m pid
step_noted l r m pid a b c d ab bc cd reaches component behind end top =
    let f = frame_at m pid in
    let same : (q : ℕ) → status_at m q ≡ status_at m q = λ q. refl in
    let from_a = more_noted l a d m m pid (λ p h. cd p (bc p (ab p h))) same in
    let from_c = more_noted l c d m m pid cd same in
    record {
      status = own_status l m pid d pid refl;
      body = eq-eqb pid pid refl;
      frame = record {
        own = λ k low high. from_a.cells k (component.cells k (subst (λ n. n ≤ k) reaches.own low) (subst (λ n. k < n + own_of r f.component) reaches.own high));
        behind = λ k h. wider_at (λ n. among b (l.of_cell n)) (λ n. among d (l.of_cell n)) (λ n x. cd (l.of_cell n) (bc (l.of_cell n) x)) _ _ (behind k h);
      };
      here = wider_kind (noted_by l a m pid) (noted_by l d m pid) from_a (component_at r f.component).kind component.kind;
      end = wider_end (noted_by l c m pid) (noted_by l d m pid) from_c _ end;
      top = top;
    }

-- a list that begins with an entry
pub headed : (es rest : List Entry) (e : Entry) → es ≡ e ∷ rest → es ≡ e ∷ drop 1 es
headed es rest e is = is ∙ ap (λ xs. e ∷ drop 1 xs) (sym is)

-- ---- what `var` parameters name, one by one

pub behind_more : (l : Places) (r : Tables) (references : List Address) (f : Frame) (before after : List ℕ) (count : ℕ) → KeepNoted before after →
    ((k : ℕ) → k < count → HasAt (λ cell. among before (l.of_cell cell)) (reference_at references (f.references + k)) (slice_index_or (routine_at r f.routine).extents k 0)) →
    HasAt (λ cell. among after (l.of_cell cell)) (reference_at references (f.references + count)) (slice_index_or (routine_at r f.routine).extents count 0) →
    (k : ℕ) → k < count + 1 → HasAt (λ cell. among after (l.of_cell cell)) (reference_at references (f.references + k)) (slice_index_or (routine_at r f.routine).extents k 0)
behind_more l r references f before after count keep old new k lt = go (cases_eq k count)
  where
    go : (k ≡ count) ⊎ (k ≡ count → ⊥) → HasAt (λ cell. among after (l.of_cell cell)) (reference_at references (f.references + k)) (slice_index_or (routine_at r f.routine).extents k 0)
    go (inl e) = subst (λ j. HasAt (λ cell. among after (l.of_cell cell)) (reference_at references (f.references + j)) (slice_index_or (routine_at r f.routine).extents j 0)) (sym e) new
    go (inr ne) = wider_at (λ cell. among before (l.of_cell cell)) (λ cell. among after (l.of_cell cell)) (λ cell. keep (l.of_cell cell)) _ _ (old k (omega (arith, lt, ne)))
