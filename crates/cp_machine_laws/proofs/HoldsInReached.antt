-- What holds in each reached state of a well-formed program, as the steps on slots want it.
use Rattle.std.proofs.Common.{◌≡◌, ◌≢◌, ◌∙◌, ◌⊎◌, inl, inr, ℕ, zero, suc, ◌<◌, true, false, List, [], ◌∷◌, Some, None, ap, sym, refl, subst, arith, length}
use Rattle.cp_machine_laws.proofs.Words.{SystemKind, Program, Tree, Path, line_of, component_with, component_there, first_inside, is_member, IsWellFormed, IsAccepted}
use Rattle.cp_machine_laws.proofs.Words.{well_formed, IsMonitor, OrderlyState, first_components, IsReached, at_first, by_step, by_admission, by_forgetting, view_of}
use Rattle.cp_tree.specs.declared.declaration.SystemKind.TheVariants as system_kind
use Rattle.cp_meaning.specs.Ownership.{owner_from, owner_of, HoldsComponent, HoldsCalls, CallsDescend, IsLawful}
use Rattle.cp_meaning.specs.State.{uninitialised, initialising, initialised, unstarted, ready, Component, component_at, CallKind, entry_routine, initial_statement, own_statement, local_routine, Call, current, Item, init_end, process_at, Discipline, State, Place, has_entry, is_inside}
use Rattle.cp_meaning.proofs.Frames.{Frame, frames, entry_in, initial_in, system_at, Descends, ItemsFit, TopStarts}
use Rattle.cp_meaning.proofs.OwnershipLemmas.{reached, lawful as lawful_when_reached, ownership}
use Rattle.cp_machine_laws.proofs.reached.ReachedCalls.{IsOuterKind, lies_lower, one_entry, none_open, entered_or_initial}
use Rattle.cp_machine_laws.proofs.reached.ReachedInside.{some_call, executes_alone, pending_free}
use Rattle.cp_machine_laws.proofs.reached.ReachedLines.{WaitsAtGate, in_line_waits, first_waits_so}
use Rattle.cp_machine_laws.proofs.reached.ReachedNames.{named_earlier}
use Rattle.cp_meaning.proofs.LocalLaw.{within as not_process_within}

-- the component is of kind process
abbrev pub IsProcess : State → ℕ → Type 0
IsProcess s n = (component_at s.components n).kind ≡ system_kind.Process

pub record HoldsInReached (p : Program) (s : State) : Type 0 where
  -- the tree of components is that of the opening state
  pub count : length s.components ≡ length (first_components p)
  pub path : (n : ℕ) → (component_at s.components n).path ≡ (component_at (first_components p) n).path
  pub kind : (n : ℕ) → (component_at s.components n).kind ≡ (component_at (first_components p) n).kind
  pub system : (n : ℕ) → (component_at s.components n).system ≡ (component_at (first_components p) n).system
  pub found : (path : Path) → component_with path s.components ≡ component_with path (first_components p)
  -- the process that executes in a monitor is alone in it, and nobody is inside of what is pending
  pub alone : (q : ℕ) → q < length s.processes → (process_at s.processes q).status ≡ ready → IsMonitor s.components (current (process_at s.processes q).calls).component →
      (k : ℕ) → k < length s.processes → k ≢ q → is_inside (current (process_at s.processes q).calls).component (process_at s.processes k) ≡ false
  pub free : (n : ℕ) → s.pending ≡ Some n → IsMonitor s.components n → first_inside n s.processes ≡ None
  -- each of a line waits at the gate, with an open entry call
  pub line : (n q : ℕ) → is_member q (line_of s n) ≡ true → WaitsAtGate s n q
  pub first : (n q : ℕ) (more : List ℕ) → line_of s n ≡ q ∷ more → WaitsAtGate s n q
  -- a process that has begun has an open call; it has one entry call of a monitor at most, and names no component that it has an entry call of
  pub open_call : (q : ℕ) → q < length s.processes → ((process_at s.processes q).status ≡ unstarted → ⊥) → (c : Call) × (cs : List Call) × ((process_at s.processes q).calls ≡ c ∷ cs)
  pub once : (q : ℕ) (c : Call) (cs : List Call) → q < length s.processes → (process_at s.processes q).calls ≡ c ∷ cs → c.kind ≡ entry_routine → has_entry c.component cs ≡ false
  pub fresh : (q : ℕ) (x : Place) → q < length s.processes → (process_at s.processes q).status ≡ ready → (IsProcess s (component_there (view_of p s q) x) → ⊥) → has_entry (component_there (view_of p s q) x) (process_at s.processes q).calls ≡ false
  pub within : (q : ℕ) (c : Call) (cs : List Call) → q < length s.processes → (process_at s.processes q).calls ≡ c ∷ cs → c.component < length s.components
  -- what is executed in a process is executed by that process, and is neither an entry nor started by another
  pub own : (q : ℕ) (c : Call) (cs : List Call) → q < length s.processes → (process_at s.processes q).calls ≡ c ∷ cs → IsProcess s c.component → c.component ≡ (process_at s.processes q).component
  pub outer : (q : ℕ) (c : Call) (cs : List Call) → q < length s.processes → (process_at s.processes q).calls ≡ c ∷ cs → IsOuterKind c.kind → IsProcess s c.component → ⊥
  -- a class or monitor in which a process executes has begun
  pub begun : (q : ℕ) (c : Call) (cs : List Call) → q < length s.processes → (process_at s.processes q).calls ≡ c ∷ cs → (IsProcess s c.component → ⊥) → (component_at s.components c.component).status ≢ uninitialised
  -- the end of an initial statement is that of the component that is executed
  pub ends : (q m : ℕ) (items : List Item) → q < length s.processes → (process_at s.processes q).items ≡ init_end m ∷ items → ((current (process_at s.processes q).calls).component ≡ m) × ((current (process_at s.processes q).calls).kind ≡ initial_statement)

-- ---- owners

own_from : (cs : List Component) (depth n : ℕ) → (component_at cs n).kind ≡ system_kind.Process → owner_from depth cs n ≡ n
own_from cs zero n e = refl
own_from cs (suc depth) n e = rw e refl

-- access rights are kept in each reached state
pub reached_lawful : (p : Program) → IsWellFormed p → (g : Discipline) (s : State) → IsReached p g s → IsLawful s
reached_lawful p ok g _ at_first = (ownership p ok g).opening_lawful
reached_lawful p ok g _ (by_step s q before none less was) = (ownership p ok g).steps_lawful s q before (reached_lawful p ok g s before) none less was
reached_lawful p ok g _ (by_admission s n q before is member) = (ownership p ok g).admissions_lawful s n q before (reached_lawful p ok g s before) is member
reached_lawful p ok g _ (by_forgetting s before) = lawful_when_reached p ok g _ (by_forgetting s before)

module _ (p : Program) (ok : IsWellFormed p) (g : Discipline) (s : State) (before : IsReached p g s) where
  abbrev cs : List Component
  cs = s.components

  state : OrderlyState s
  state = (reached p ok g s before).1

  descends : (q : ℕ) (c : Call) (calls : List Call) → q < length s.processes → (process_at s.processes q).calls ≡ c ∷ calls → Descends cs (frames (c ∷ calls))
  descends q c calls less e = subst (λ (a : List Call). Descends cs (frames a)) e (state.orderly.processes q less).order

  lawful : IsLawful s
  lawful = reached_lawful p ok g s before

  own_process : (q : ℕ) (c : Call) (calls : List Call) → q < length s.processes → (process_at s.processes q).calls ≡ c ∷ calls → IsProcess s c.component → c.component ≡ (process_at s.processes q).component
  own_process q c calls less e process = go (subst (λ (a : List Call). HoldsCalls s (process_at s.processes q) a) e (lawful.processes q less).calls).0
    where
      itself : owner_of cs c.component ≡ c.component
      itself = own_from cs (length (component_at cs c.component).path) c.component process

      go : HoldsComponent s (process_at s.processes q) c.component → c.component ≡ (process_at s.processes q).component
      go (inl h) = sym itself ∙ h
      go (inr h) = absurd (let bad : system_kind.Process ≡ system_kind.Monitor = sym process ∙ (ap (λ n. (component_at cs n).kind) (sym itself) ∙ h.0) in cc)

  -- what is entered or initialised is no process
  no_process : (q : ℕ) (c : Call) (calls : List Call) → q < length s.processes → (process_at s.processes q).calls ≡ c ∷ calls → IsOuterKind c.kind → IsProcess s c.component → ⊥
  no_process q c calls less e outer process =
      let same = own_process q c calls less e process in
      let order : CallsDescend cs (process_at s.processes q).component (c ∷ calls) = subst (λ (a : List Call). CallsDescend cs (process_at s.processes q).component a) e (lawful.processes q less).order in
      let lower = lies_lower cs (process_at s.processes q).component c.kind c.component calls outer (descends q c calls less e) (λ d more f. rest d more f order) in
      let bad : system_at cs c.component < system_at cs c.component = subst (λ n. system_at cs c.component < system_at cs n) (sym same) lower in
      omega (arith, bad)
    where
      rest : (d : Call) (more : List Call) → calls ≡ d ∷ more → CallsDescend cs (process_at s.processes q).component (c ∷ calls) → CallsDescend cs (process_at s.processes q).component calls
      rest d more f h = subst (λ (a : List Call). CallsDescend cs (process_at s.processes q).component a) (sym f) (subst (λ (a : List Call). CallsDescend cs (process_at s.processes q).component (c ∷ a)) f h).1

  has_begun : (q : ℕ) (c : Call) (calls : List Call) → q < length s.processes → (process_at s.processes q).calls ≡ c ∷ calls → (IsProcess s c.component → ⊥) → (component_at cs c.component).status ≢ uninitialised
  has_begun q c calls less e never free = go (entered_or_initial cs (c.kind, c.component) (frames calls) (descends q c calls less e) never)
    where
      go : (entry_in c.component (frames (c ∷ calls)) ≡ true) ⊎ (initial_in c.component (frames (c ∷ calls)) ≡ true) → ⊥
      go (inl h) = (let w = (state.orderly.processes q less).entering c.component (ap (λ (a : List Call). entry_in c.component (frames a)) e ∙ h) in let bad : uninitialised ≡ initialised = sym free ∙ w in absurd cc)
      go (inr h) = (let w = (state.orderly.processes q less).starting c.component (ap (λ (a : List Call). initial_in c.component (frames a)) e ∙ h) in let bad : uninitialised ≡ initialising = sym free ∙ w in absurd cc)

  within : (q : ℕ) (c : Call) (calls : List Call) → q < length s.processes → (process_at s.processes q).calls ≡ c ∷ calls → c.component < length cs
  within q c calls less e = go (component_at cs c.component).kind refl
    where
      mine : (process_at s.processes q).component < length cs
      mine = let old = (reached p ok g s before).0 in rw old.tree.size (old.processes q less).component

      other : (k : SystemKind) → (component_at cs c.component).kind ≡ k → (k ≡ system_kind.Process → ⊥) → c.component < length cs
      other k f never = not_process_within cs c.component (λ h. never (sym f ∙ h))

      go : (k : SystemKind) → (component_at cs c.component).kind ≡ k → c.component < length cs
      go system_kind.Process f = subst (λ n. n < length cs) (sym (own_process q c calls less e f)) mine
      go system_kind.Class f = other system_kind.Class f (λ h. cc)
      go system_kind.Monitor f = other system_kind.Monitor f (λ h. cc)

  names_fresh : (q : ℕ) (x : Place) → q < length s.processes → (process_at s.processes q).status ≡ ready → (IsProcess s (component_there (view_of p s q) x) → ⊥) → has_entry (component_there (view_of p s q) x) (process_at s.processes q).calls ≡ false
  names_fresh q x less was never =
      let w = some_call s state q less (λ e. (let bad : ready ≡ unstarted = sym was ∙ e in cc)) in
      subst (λ (a : List Call). has_entry (component_there (view_of p s q) x) a ≡ false) (sym w.2)
      (none_open cs (component_there (view_of p s q) x) w.0 w.1 (descends q w.0 w.1 less w.2) (named_earlier p ok g s before (process_at s.processes q).calls w.0.component (ap (λ (a : List Call). (current a).component) w.2) (within q w.0 w.1 less w.2) x never))

  ended : (q m : ℕ) (items : List Item) → q < length s.processes → (process_at s.processes q).items ≡ init_end m ∷ items → ((current (process_at s.processes q).calls).component ≡ m) × ((current (process_at s.processes q).calls).kind ≡ initial_statement)
  ended q m items less e = go (process_at s.processes q).calls (subst (λ (is : List Item). ItemsFit (frames (process_at s.processes q).calls) is) e (state.orderly.processes q less).fits).0
    where
      kinds : (k : CallKind) (n : ℕ) (fs : List Frame) → TopStarts m ((k, n) ∷ fs) → (n ≡ m) × (k ≡ initial_statement)
      kinds initial_statement n fs h = (h, refl)
      kinds local_routine n fs h = absurd h
      kinds entry_routine n fs h = absurd h
      kinds own_statement n fs h = absurd h

      go : (calls : List Call) → TopStarts m (frames calls) → ((current calls).component ≡ m) × ((current calls).kind ≡ initial_statement)
      go [] h = absurd h
      go (c ∷ calls) h = kinds c.kind c.component (frames calls) h

  pub holds_in_reached : HoldsInReached p s
  holds_in_reached =
      let tree = (reached p ok g s before).0.tree in
      record {
        count = tree.size;
        path = tree.path;
        kind = tree.kind;
        system = tree.system;
        found = tree.find;
        alone = executes_alone s state;
        free = pending_free s state;
        line = in_line_waits s state;
        first = first_waits_so s state;
        open_call = some_call s state;
        once = λ q c calls less e k. one_entry cs c.component calls (subst (λ w. Descends cs ((w, c.component) ∷ frames calls)) k (descends q c calls less e));
        fresh = names_fresh;
        within = within;
        own = own_process;
        outer = no_process;
        begun = has_begun;
        ends = ended;
      }

pub reached_stands : (t : Tree) → IsAccepted t → (g : Discipline) (s : State) → IsReached t.program g s → HoldsInReached t.program s
reached_stands t ok g s before = holds_in_reached t.program (well_formed t ok) g s before
