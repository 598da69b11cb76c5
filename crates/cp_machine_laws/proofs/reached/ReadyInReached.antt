-- What the steps on slots ask of a reached state, in terms of the tables.
use Rattle.std.proofs.Common.{◌≡◌, ◌≢◌, ◌∙◌, ℕ, ◌<◌, true, false, List, [], ◌∷◌, Some, ap, sym, refl, subst, arith, length}
use Rattle.cp_machine_laws.proofs.Words.{SystemKind, Program, Tree, IsTyped, ComponentKind, Phase, Machine, is_uninitialised, phase_at, line_of, process_of, component_there}
use Rattle.cp_machine_laws.proofs.Words.{view_of, is_member, IsAccepted, Layouts, Stands, Ground, SameKind, KindsAgree, ground_of, Simulates, PhaseIs, HasBegun}
use Rattle.cp_tree.specs.declared.declaration.SystemKind.TheVariants as system_kind
use Rattle.cp_slots.specs.Tables.{Tables, component_at, process_at}
use Rattle.cp_slots.specs.declared.tables.ComponentKind.TheVariants as kind
use Rattle.cp_machine.specs.declared.state.Phase.TheVariants as phase
use Rattle.cp_meaning.specs.State as named
use Rattle.cp_meaning.specs.State.{ComponentStatus, uninitialised, initialising, initialised, unstarted, ready, own_statement, initial_statement, entry_routine, Call, current, callers, Item, init_end, Discipline, State, Place, has_entry}
use Rattle.cp_machine_laws.proofs.gates.Admitting.{MayGoIn}
use Rattle.cp_machine_laws.proofs.gates.Gates.{OwnNumbers, OthersOutside}
use Rattle.cp_machine_laws.proofs.HoldsInReached.{HoldsInReached, IsProcess, reached_stands}
use Rattle.cp_machine_laws.proofs.gates.LettingIn.{FirstWaits}
use Rattle.cp_machine_laws.proofs.reached.ReachedCalls.{IsOuterKind}
use Rattle.cp_machine_laws.proofs.ReachedKinds.{own_numbers, monitor_there, monitor_known, kinds_agree, process_component, process_known, process_only, process_is}
use Rattle.cp_machine_laws.proofs.reached.ReachedLines.{monitor_within}
use Rattle.cp_machine_laws.proofs.calls.Returning.{MayLeave}

pub record ReadyInReached (g : Ground) (p : Program) (s : State) (m : Machine) : Type 0 where
  -- components on names and in the tables
  pub own : OwnNumbers g
  pub kinds : KindsAgree g.tables s
  pub systems : (n : ℕ) → n < length g.tables.components → (named.component_at s.components n).system ≡ (component_at g.tables n).system
  pub monitors : (n j : ℕ) → (component_at g.tables n).kind ≡ kind.Monitor j → j < length m.monitors
  -- an admission
  pub go_in : (n q : ℕ) → s.pending ≡ Some n → is_member q (line_of s n) ≡ true → MayGoIn g s m q n
  -- the return from an entry of a monitor, and `continue` in one
  pub leave : (q : ℕ) (c : Call) (cs : List Call) (j : ℕ) → q < length s.processes → (named.process_at s.processes q).status ≡ ready → (named.process_at s.processes q).calls ≡ c ∷ cs → c.kind ≡ entry_routine → (component_at g.tables c.component).kind ≡ kind.Monitor j → MayLeave g s m q c.component
  -- `delay`: nobody else is inside, and who is first in a line waits there
  pub alone : (q j : ℕ) → q < length s.processes → (named.process_at s.processes q).status ≡ ready → (component_at g.tables (current (named.process_at s.processes q).calls).component).kind ≡ kind.Monitor j → OthersOutside (current (named.process_at s.processes q).calls).component q s.processes
  pub waits : (n : ℕ) → FirstWaits s n (line_of s n)
  -- a call of an entry: the process has none open of the monitor that it names
  pub fresh : (q : ℕ) (x : Place) (j : ℕ) → q < length s.processes → (named.process_at s.processes q).status ≡ ready → (component_at g.tables (component_there (view_of p s q) x)).kind ≡ kind.Monitor j → has_entry (component_there (view_of p s q) x) (named.process_at s.processes q).calls ≡ false
  -- the component in which a process executes has begun
  pub begun : (q : ℕ) → q < length s.processes → (named.process_at s.processes q).status ≡ ready → HasBegun s (component_at g.tables (current (named.process_at s.processes q).calls).component).kind (named.component_at s.components (current (named.process_at s.processes q).calls).component).status
  -- the end of an initial statement is that of a class or monitor that has begun
  pub ends : (q n : ℕ) (items : List Item) → q < length s.processes → (named.process_at s.processes q).items ≡ init_end n ∷ items →
      (n < length s.components) × (n < length m.phases) × ((j : ℕ) → (component_at g.tables n).kind ≡ kind.Process j → ⊥) × (is_uninitialised (phase_at m n) ≡ false)
  -- a process is the one of its component
  pub number : (d j : ℕ) → d < length g.tables.components → (component_at g.tables d).kind ≡ kind.Process j → (j < length s.processes) × (process_of d s.processes ≡ Some j) × ((process_at g.tables j).component ≡ d)

-- what is a process, or a monitor, in the tables is one on names
process_told : (a : SystemKind) (k : ComponentKind) (j : ℕ) → SameKind a k → k ≡ kind.Process j → a ≡ system_kind.Process
process_told system_kind.Process k j h e = refl
process_told system_kind.Monitor (kind.Monitor i) j h e = absurd cc
process_told system_kind.Class kind.Class j h e = absurd cc
process_told _ _ j h e = absurd h

monitor_told : (a : SystemKind) (k : ComponentKind) (j : ℕ) → SameKind a k → k ≡ kind.Monitor j → a ≡ system_kind.Monitor
monitor_told system_kind.Monitor k j h e = refl
monitor_told system_kind.Process (kind.Process i) j h e = absurd cc
monitor_told system_kind.Class kind.Class j h e = absurd cc
monitor_told _ _ j h e = absurd h

started_phase : (k : ComponentKind) (u : ComponentStatus) (f : Phase) → ((j : ℕ) → k ≡ kind.Process j → ⊥) → PhaseIs k u f → u ≢ uninitialised → is_uninitialised f ≡ false
started_phase (kind.Process j) u f never h other = absurd (never j refl)
started_phase k uninitialised f never h other = absurd (other refl)
started_phase (kind.Monitor j) initialising phase.Initialising never h other = refl
started_phase (kind.Monitor j) initialised phase.Initialised never h other = refl
started_phase kind.Class initialising phase.Initialising never h other = refl
started_phase kind.Class initialised phase.Initialised never h other = refl
started_phase _ u f never h other = absurd h

module _ (t : Tree) (r : Tables) (l : Layouts) (c : Discipline) (s : State) (m : Machine) (ok : IsAccepted t) (stands : Stands (ground_of t r) t l) (typed : IsTyped r) (simulates : Simulates t r l c s m) where
  abbrev p : Program
  p = t.program

  abbrev g : Ground
  g = ground_of t r

  holds : HoldsInReached p s
  holds = reached_stands t ok c s simulates.reached

  kinds : KindsAgree r s
  kinds = kinds_agree t r l stands s holds.kind

  same_count : length s.components ≡ length r.components
  same_count = simulates.represents.component_count

  is_monitor : (n j : ℕ) → (component_at r n).kind ≡ kind.Monitor j → (named.component_at s.components n).kind ≡ system_kind.Monitor
  is_monitor n j e = monitor_told (named.component_at s.components n).kind (component_at r n).kind j (kinds n (monitor_there t r l stands n j e)) e

  is_process : (n j : ℕ) → n < length r.components → (component_at r n).kind ≡ kind.Process j → IsProcess s n
  is_process n j less e = process_told (named.component_at s.components n).kind (component_at r n).kind j (kinds n less) e

  known : (n j : ℕ) → (component_at r n).kind ≡ kind.Monitor j → j < length m.monitors
  known n j e = let a = monitor_known t r l stands n j e in let b = simulates.fits.monitors in omega (arith, a, b)

  first_waits : (n : ℕ) → FirstWaits s n (line_of s n)
  first_waits n = go (line_of s n) refl
    where
      go : (line : List ℕ) → line_of s n ≡ line → FirstWaits s n line
      go [] e = tt
      go (q ∷ more) e = let w = holds.first n q more e in (w.there, w.status, w.called)

  goes_in : (n q : ℕ) → s.pending ≡ Some n → is_member q (line_of s n) ≡ true → MayGoIn g s m q n
  goes_in n q e h =
      let w = holds.line n q h in
      record { component = monitor_within s.components n w.monitor; process = w.there; waits = w.status; called = w.called; free = holds.free n e w.monitor; known = λ j f. known n j f }

  alone : (q j : ℕ) → q < length s.processes → (named.process_at s.processes q).status ≡ ready → (component_at r (current (named.process_at s.processes q).calls).component).kind ≡ kind.Monitor j → OthersOutside (current (named.process_at s.processes q).calls).component q s.processes
  alone q j less was e = holds.alone q less was (is_monitor (current (named.process_at s.processes q).calls).component j e)

  leaves : (q : ℕ) (a : Call) (cs : List Call) (j : ℕ) → q < length s.processes → (named.process_at s.processes q).status ≡ ready → (named.process_at s.processes q).calls ≡ a ∷ cs → a.kind ≡ entry_routine → (component_at r a.component).kind ≡ kind.Monitor j → MayLeave g s m q a.component
  leaves q a cs j less was e entry f =
      let top : (current (named.process_at s.processes q).calls).component ≡ a.component = ap (λ (xs : List Call). (current xs).component) e in
      record {
        own = own_numbers t r l stands;
        known = λ i h. known a.component i h;
        exclusive = subst (λ n. OthersOutside n q s.processes) top (alone q j less was (subst (λ n. (component_at r n).kind ≡ kind.Monitor j) (sym top) f));
        once = ap (λ (xs : List Call). has_entry a.component (callers xs)) e ∙ holds.once q a cs less e entry;
        line = first_waits a.component;
      }

  started : (k : ComponentKind) (u : ComponentStatus) → ((j : ℕ) → k ≡ kind.Process j → ⊥) → u ≢ uninitialised → HasBegun s k u
  started (kind.Process j) u never other = absurd (never j refl)
  started (kind.Monitor j) uninitialised never other = absurd (other refl)
  started kind.Class uninitialised never other = absurd (other refl)
  started _ _ never other = tt

  -- what is no process in the tables is none on names
  not_process : (n : ℕ) → n < length r.components → ((j : ℕ) → (component_at r n).kind ≡ kind.Process j → ⊥) → IsProcess s n → ⊥
  not_process n less never e = go (component_at r n).kind refl (subst (λ a. SameKind a (component_at r n).kind) e (kinds n less))
    where
      go : (k : ComponentKind) → (component_at r n).kind ≡ k → SameKind system_kind.Process k → ⊥
      go (kind.Process j) f h = never j f
      go (kind.Monitor j) f h = absurd h
      go kind.Class f h = absurd h

  process_count : length s.processes ≡ length r.processes
  process_count = let a = simulates.represents.process_count in let b = simulates.fits.threads in omega (arith, a, b)

  begun_call : (q : ℕ) (a : Call) (cs : List Call) → q < length s.processes → (named.process_at s.processes q).status ≡ ready → (named.process_at s.processes q).calls ≡ a ∷ cs → HasBegun s (component_at r a.component).kind (named.component_at s.components a.component).status
  begun_call q a cs less was e = go (component_at r a.component).kind refl
    where
      there : a.component < length r.components
      there = let b = holds.within q a cs less e in let d = same_count in omega (arith, b, d)

      other : (k : ComponentKind) → (component_at r a.component).kind ≡ k → ((j : ℕ) → k ≡ kind.Process j → ⊥) → HasBegun s k (named.component_at s.components a.component).status
      other k f never = started k (named.component_at s.components a.component).status never (holds.begun q a cs less e (not_process a.component there (λ j h. never j (sym f ∙ h))))

      go : (k : ComponentKind) → (component_at r a.component).kind ≡ k → HasBegun s k (named.component_at s.components a.component).status
      go (kind.Process j) f =
          let mine : (process_at r q).component ≡ a.component = sym (simulates.represents.processes q less).component ∙ sym (holds.own q a cs less e (is_process a.component j there f)) in
          let same : q ≡ j = process_only t r l stands typed a.component q j f (let b = process_count in omega (arith, b, less)) mine in
          λ h. (let bad : ready ≡ unstarted = sym was ∙ (ap (λ i. (named.process_at s.processes i).status) same ∙ h) in cc)
      go (kind.Monitor j) f = other (kind.Monitor j) f (λ i h. cc)
      go kind.Class f = other kind.Class f (λ i h. cc)

  begun : (q : ℕ) → q < length s.processes → (named.process_at s.processes q).status ≡ ready → HasBegun s (component_at r (current (named.process_at s.processes q).calls).component).kind (named.component_at s.components (current (named.process_at s.processes q).calls).component).status
  begun q less was =
      let w = holds.open_call q less (λ e. (let bad : ready ≡ unstarted = sym was ∙ e in cc)) in
      subst (λ n. HasBegun s (component_at r n).kind (named.component_at s.components n).status) (sym (ap (λ (xs : List Call). (current xs).component) w.2)) (begun_call q w.0 w.1 less was w.2)

  abbrev EndsWell : ℕ → Type 0
  EndsWell n = (n < length s.components) × (n < length m.phases) × ((j : ℕ) → (component_at r n).kind ≡ kind.Process j → ⊥) × (is_uninitialised (phase_at m n) ≡ false)

  ends : (q n : ℕ) (items : List Item) → q < length s.processes → (named.process_at s.processes q).items ≡ init_end n ∷ items → EndsWell n
  ends q n items less e = go (named.process_at s.processes q).calls refl (holds.ends q n items less e)
    where
      of : (a : Call) (cs : List Call) → (named.process_at s.processes q).calls ≡ a ∷ cs → a.kind ≡ initial_statement → EndsWell a.component
      of a cs f initial =
          let there = holds.within q a cs less f in
          let inside : a.component < length r.components = (let b = same_count in omega (arith, b, there)) in
          let outer : IsProcess s a.component → ⊥ = holds.outer q a cs less f (subst IsOuterKind (sym initial) tt) in
          let never : (j : ℕ) → (component_at r a.component).kind ≡ kind.Process j → ⊥ = (λ j h. outer (is_process a.component j inside h)) in
          (there, (let b = simulates.fits.phases in omega (arith, b, inside)), never, started_phase (component_at r a.component).kind (named.component_at s.components a.component).status (phase_at m a.component) never (simulates.represents.components a.component there).phase (holds.begun q a cs less f outer))

      go : (calls : List Call) → (named.process_at s.processes q).calls ≡ calls → ((current (named.process_at s.processes q).calls).component ≡ n) × ((current (named.process_at s.processes q).calls).kind ≡ initial_statement) → EndsWell n
      go [] f h = absurd (let bad : own_statement ≡ initial_statement = sym (ap (λ (xs : List Call). (current xs).kind) f) ∙ h.1 in cc)
      go (a ∷ cs) f h = subst EndsWell (sym (ap (λ (xs : List Call). (current xs).component) f) ∙ h.0) (of a cs f (sym (ap (λ (xs : List Call). (current xs).kind) f) ∙ h.1))

  number : (d j : ℕ) → d < length r.components → (component_at r d).kind ≡ kind.Process j → (j < length s.processes) × (process_of d s.processes ≡ Some j) × ((process_at r j).component ≡ d)
  number d j less e =
      let there : j < length s.processes = (let a = process_known t r l stands typed d j less e in let b = process_count in omega (arith, a, b)) in
      let own = process_component t r l stands typed d j less e in (
        there,
        process_is d j s.processes there ((simulates.represents.processes j there).component ∙ own)
            (λ i inside f. process_only t r l stands typed d i j e (let b = process_count in omega (arith, b, inside)) (sym (simulates.represents.processes i inside).component ∙ f)),
        own,
      )

  pub ready_in_reached : ReadyInReached g p s m
  ready_in_reached =
      record {
        own = own_numbers t r l stands;
        kinds = kinds;
        systems = λ n less. holds.system n ∙ sym (stands.components n less).system;
        monitors = known;
        go_in = goes_in;
        leave = leaves;
        alone = alone;
        waits = first_waits;
        fresh = λ q x j less was e. holds.fresh q x less was (λ f. (let bad : system_kind.Process ≡ system_kind.Monitor = sym f ∙ is_monitor (component_there (view_of p s q) x) j e in cc));
        begun = begun;
        ends = ends;
        number = number;
      }
