-- What is known of what an item of a ready process does.
use Rattle.std.proofs.Common.{◌≡◌, ℕ, ◌<◌, ◌==◌, ◌∙◌, ◌⊎◌, inl, inr, Bool, true, false, if◌then◌else◌, List, [], ◌∷◌, ◌++◌, length, Option, Some, Ok, Err, ap, sym, refl, subst, arith, eqb-true}
use Rattle.cp_tree.specs.declared.declaration.SystemKind.TheVariants as system_kind
use Rattle.cp_at_once_laws.proofs.Words.{Expressions, Program, Name, Outcome, Parameter, system_of, PathStep, step_down, takes, owner_of, first_components, view_of}
use Rattle.cp_at_once_laws.proofs.Words.{IsWellFormed, Frame, frames, entry_in, ItemsFit, OrderlyState, OwnedState, of_system, bound}
use Rattle.cp_meaning.specs.State.{Holder, in_call, in_component, Place, Content, knows, Environment, initial_statement, initialised, component_at, Call, ready, unstarted, Process, process_at, State}
use Rattle.cp_meaning.specs.Places.{View, content_of, component_with, element_chosen, around_of, component_known, component_by}
use Rattle.cp_meaning.specs.Move.{Move, Doing, stays, enters, leaves, delays, continues, starts, shows, ends}
use Rattle.cp_meaning.proofs.ComponentTree.{path_at, kind_at, own_owner, found}
use Rattle.cp_meaning.proofs.Good.{NonEmpty, IsMonitor, status_at, Good, GoodOutcome}
use Rattle.cp_meaning.proofs.Held.{HeldBy, HeldCalls, Bottom, permanents_at, Known}
use Rattle.cp_meaning.proofs.OwnLocal.{Owned, OwnedBy, BoundFits, ParametersFit, bound_fits}
use Rattle.cp_meaning.proofs.OwnOpening.{first_kinds}
use Rattle.cp_meaning.proofs.OwnershipLemmas.{distinct, contained, both}
use Rattle.cp_at_once_laws.proofs.reading.Opening.{AllBegin, takes_begins}
use Rattle.cp_at_once_laws.proofs.reading.Leaving.{GoesOut, AllKeep, takes_keeps}
use Rattle.cp_at_once_laws.proofs.reading.Sources.{AllKnow, FromHere, AllCome, takes_comes}
use Rattle.cp_at_once_laws.proofs.pairs.Changes.{GoesFrom}
use Rattle.cp_at_once_laws.proofs.pairs.Fit.{HasNoProcess, StartsKnown, ProcessesUnknown}

module _ (p : Program) (s : State) (pid : ℕ) where
  abbrev me : Process
  me = process_at s.processes pid

  -- what the item did
  abbrev pub done : Outcome Doing
  done = takes (view_of p s pid) pid me.items

  -- no process of the program
  abbrev pub NoProcess : ℕ → Type 0
  NoProcess n = n < length (first_components p) → kind_at (first_components p) n ≡ system_kind.Process → ⊥

  -- no component knows a process after it, nor does one that is started
  abbrev pub GivesNone : Move → Type 0
  GivesNone (starts c e) = (k : ℕ) (x : Name) → content_of x e ≡ Some (knows k) → NoProcess k
  GivesNone (leaves m) = Unit {0}
  GivesNone (delays m) = Unit {0}
  GivesNone (continues m o going items) = Unit {0}
  GivesNone stays = Unit {0}
  GivesNone (enters m) = Unit {0}
  GivesNone (shows x) = Unit {0}
  GivesNone ends = Unit {0}

  abbrev pub ProcessesKnownNot : Doing → Type 0
  ProcessesKnownNot d = Known (λ n k. NoProcess k) d.components × GivesNone d.move

  pub record Facts (d : Doing) : Type 0 where
    pub good : Good s.components (frames me.calls) (frames d.calls) d.components d.items d.move
    pub owned : Owned (first_components p) me.component d.calls d.components d.move
    pub begins : (n : ℕ) → (status_at d.components n ≡ status_at s.components n) ⊎ ((frames d.calls ≡ (initial_statement, n) ∷ frames me.calls) ⊎ (status_at d.components n ≡ initialised))
    pub keeps : (n : ℕ) → IsMonitor s.components n → entry_in n (frames me.calls) ≡ true → (entry_in n (frames d.calls) ≡ true) ⊎ GoesFrom d.move n
    pub from : (n : ℕ) → GoesFrom d.move n → HeldBy (first_components p) me.component (frames me.calls) n
    -- a process that it starts stands directly in its own component
    pub starting : (c : ℕ) (e : Environment) → d.move ≡ starts c e → c < length (first_components p) → kind_at (first_components p) c ≡ system_kind.Process → (t : PathStep) × (path_at (first_components p) c ≡ path_at (first_components p) me.component ++ t ∷ [])
    pub known : ProcessesKnownNot d

  abbrev pub AllFacts : Outcome Doing → Type 0
  AllFacts (Ok d) = Facts d
  AllFacts (Err e) = Unit {0}

  -- its open calls
  pub record Open : Type 0 where
    pub call : Call
    pub calls : List Call
    pub are : me.calls ≡ call ∷ calls

  pub open_of : (calls : List Call) → me.calls ≡ calls → NonEmpty (frames calls) → Open
  open_of [] e h = absurd h
  open_of (c ∷ calls) e h = record { call = c; calls = calls; are = e }

  module _ (ok : IsWellFormed p) (owned : OwnedState (first_components p) s) (orderly : OrderlyState s) (lt : pid < length s.processes) (is_ready : me.status ≡ ready) (rules : StartsKnown p) (unknown : ProcessesUnknown p s) where
    nonempty : NonEmpty (frames me.calls)
    nonempty = (orderly.orderly.processes pid lt).open_calls (λ h. (let bad : ready ≡ unstarted = sym is_ready ∙ h in cc))

    pub open_calls : Open
    open_calls = open_of me.calls refl nonempty

    -- ---- what is started

    module _ (c : Call) (calls : List Call) (e : me.calls ≡ c ∷ calls) where
      held : HeldCalls (first_components p) me.component (c ∷ calls)
      held = subst (HeldCalls (first_components p) me.component) e (owned.processes pid lt).held

      abbrev view : View
      view = record { program = p; calls = c ∷ calls; components = s.components }

      abbrev Near : ℕ → Type 0
      Near d = (t : PathStep) × (path_at (first_components p) d ≡ path_at (first_components p) c.component ++ t ∷ [])

      past : (d : ℕ) {A : Type 0} → d ≡ length s.components → d < length (first_components p) → A
      past d h l = absurd (let size = owned.tree.size in omega arith)

      contained_near : (n : ℕ) (x : Name) (o : Option ℕ) (d : ℕ) → n ≡ c.component → d ≡ component_with (step_down (path_at s.components n) x o) s.components → d < length (first_components p) → Near d
      contained_near n x o d here is l = (
        (let t : PathStep = record { name = x; element = o } in t),
        sym (owned.tree.path d) ∙ ap (path_at s.components) is ∙ found (step_down (path_at s.components n) x o) s.components (let size = owned.tree.size in omega arith) ∙
            ap (λ y. step_down y x o) (ap (path_at s.components) here ∙ owned.tree.path c.component),
      )

      known_near : (n : ℕ) (q : Place) (o : Option Content) → q.holder ≡ in_component n → n ≡ c.component → content_of q.name (permanents_at s.components n) ≡ o → (d : ℕ) → d ≡ component_known view q o → d < length (first_components p) → kind_at (first_components p) d ≡ system_kind.Process → Near d
      known_near n q (Some (knows k)) h here is d same l process = absurd (unknown n k q.name is (subst (λ j. j < length (first_components p)) same l) (sym (ap (kind_at (first_components p)) same) ∙ process))
      known_near n q _ h here is d same l process = contained_near n q.name (element_chosen q.choices) d here (same ∙ ap (λ k. component_with (step_down (around_of view k) q.name (element_chosen q.choices)) s.components) h) l

      by_near : (q : Place) (h : Holder) → q.holder ≡ h → (d : ℕ) → d ≡ component_by view q h → d < length (first_components p) → kind_at (first_components p) d ≡ system_kind.Process → Near d
      by_near q (in_call b) e d same l process = past d same l
      by_near q (in_component n) e d same l process = go (n == c.component) refl same
        where
          go : (b : Bool) → (n == c.component) ≡ b → d ≡ (if b then component_known view q (content_of q.name (component_at s.components n).environment) else length s.components) → Near d
          go true here k = known_near n q (content_of q.name (permanents_at s.components n)) e (eqb-true n c.component here) refl d k l process
          go false here k = past d k l

      -- the component whose call is executed is the process's own, since it is one of a process
      near_own : (d : ℕ) → d < length (first_components p) → kind_at (first_components p) d ≡ system_kind.Process → Near d → (t : PathStep) × (path_at (first_components p) d ≡ path_at (first_components p) me.component ++ t ∷ [])
      near_own d l process near =
          let own = rules.around c.component d near.0 held.1 l near.1 process in
          (near.0, near.1 ∙ ap (λ j. path_at (first_components p) j ++ near.0 ∷ []) (mine own held.0))
        where
          itself : kind_at (first_components p) c.component ≡ system_kind.Process → owner_of (first_components p) c.component ≡ c.component
          itself k = own_owner (first_components p) c.component system_kind.Process k (λ b. cc)

          mine : kind_at (first_components p) c.component ≡ system_kind.Process → HeldBy (first_components p) me.component (frames (c ∷ calls)) c.component → c.component ≡ me.component
          mine k (inl h) = sym (itself k) ∙ h
          mine k (inr h) = absurd (let bad : system_kind.Process ≡ system_kind.Monitor = sym k ∙ ap (kind_at (first_components p)) (sym (itself k)) ∙ h.0 in cc)

      -- ---- what is known

      no_process_given : (k n : ℕ) → ((system_of p k).kind ≡ system_kind.Process → ⊥) → NoProcess (of_system view k n)
      no_process_given k n never = go ((component_at s.components n).system == k) refl
        where
          go : (b : Bool) → ((component_at s.components n).system == k) ≡ b → NoProcess (if b then n else length s.components)
          go true same l process = never (ap (λ j. (system_of p j).kind) (sym (eqb-true _ k same) ∙ owned.tree.system n) ∙ sym (first_kinds p n l) ∙ process)
          go false same l process = past (length s.components) refl l

      parameters_fit : (qs : List Parameter) → HasNoProcess p qs →
          ParametersFit p c calls s.components pid me.component (first_components p) owned.tree (distinct p ok) (first_kinds p) ok.class_parameters (contained p ok) ok.parameters_earlier owned.earlier held (subst (λ k. Bottom me.component (frames k)) e (owned.processes pid lt).bottom) owned.classes NoProcess qs
      parameters_fit [] h = tt
      parameters_fit (q ∷ qs) h = ((λ k n is. no_process_given k n (h.0 k is)), parameters_fit qs h.1)

      given : (k : ℕ) (es : Expressions) → AllKnow p c calls s.components pid NoProcess (bound view (system_of p k).parameters es)
      given k es =
          go (bound view (system_of p k).parameters es)
          (bound_fits p c calls s.components pid me.component (first_components p) owned.tree (distinct p ok) (first_kinds p) ok.class_parameters (contained p ok) ok.parameters_earlier owned.earlier held (subst (λ j. Bottom me.component (frames j)) e (owned.processes pid lt).bottom) owned.classes NoProcess
          (system_of p k).parameters es (parameters_fit (system_of p k).parameters (rules.unknown k)))
        where
          go : (o : Outcome Environment) →
              BoundFits p c calls s.components pid me.component (first_components p) owned.tree (distinct p ok) (first_kinds p) ok.class_parameters (contained p ok) ok.parameters_earlier owned.earlier held (subst (λ j. Bottom me.component (frames j)) e (owned.processes pid lt).bottom) owned.classes NoProcess o →
              AllKnow p c calls s.components pid NoProcess o
          go (Ok x) h = h
          go (Err x) h = tt

      gives_none : (gs : List Frame) (m : Move) → FromHere p c calls s.components pid NoProcess gs m → GivesNone m
      gives_none gs (starts d x) h = h.1
      gives_none gs _ h = tt

      from_held : (gs : List Frame) (m : Move) → FromHere p c calls s.components pid NoProcess gs m → (n : ℕ) → GoesFrom m n → HeldBy (first_components p) me.component (frames (c ∷ calls)) n
      from_held gs (leaves m) h n g = subst (HeldBy (first_components p) me.component (frames (c ∷ calls))) (h ∙ g) held.0
      from_held gs (delays m) h n g = subst (HeldBy (first_components p) me.component (frames (c ∷ calls))) (h.0 ∙ g) held.0
      from_held gs (continues m o going items) h n g = subst (HeldBy (first_components p) me.component (frames (c ∷ calls))) (h ∙ g) held.0
      from_held gs _ h n g = absurd g

      starting_of : (gs : List Frame) (m : Move) → FromHere p c calls s.components pid NoProcess gs m → (d : ℕ) (x : Environment) → m ≡ starts d x → d < length (first_components p) → kind_at (first_components p) d ≡ system_kind.Process →
          (t : PathStep) × (path_at (first_components p) d ≡ path_at (first_components p) me.component ++ t ∷ [])
      starting_of gs m h d x is l process =
          let there = subst (FromHere p c calls s.components pid NoProcess gs) is h in
          near_own d l process (by_near there.0.0 there.0.0.holder refl d there.0.1 l process)

    facts_at : (c : Call) (calls : List Call) (e : me.calls ≡ c ∷ calls) (o : Outcome Doing) → GoodOutcome s.components (frames (c ∷ calls)) o → OwnedBy (first_components p) me.component o → AllBegin p c calls s.components pid o → AllKeep p c calls s.components pid o →
        AllCome p c calls s.components pid NoProcess unknown (given c calls e) o → AllFacts o
    facts_at c calls e (Ok d) good own begins keeps come =
        record {
          good = subst (λ k. Good s.components (frames k) (frames d.calls) d.components d.items d.move) (sym e) good;
          owned = own;
          begins = λ n. subst (λ k. (status_at d.components n ≡ status_at s.components n) ⊎ ((frames d.calls ≡ (initial_statement, n) ∷ frames k) ⊎ (status_at d.components n ≡ initialised))) (sym e) (begins n);
          keeps = λ n mon h. stays_or_goes n d.move (keeps n mon (ap (λ k. entry_in n (frames k)) (sym e) ∙ h));
          from = λ n g. subst (λ k. HeldBy (first_components p) me.component (frames k) n) (sym e) (from_held c calls e (frames d.calls) d.move come.from n g);
          starting = starting_of c calls e (frames d.calls) d.move come.from;
          known = (come.known, gives_none c calls e (frames d.calls) d.move come.from);
        }
      where
        goes : (n : ℕ) (m : Move) → GoesOut p c calls s.components pid n m → GoesFrom m n
        goes n (leaves m) h = h
        goes n (continues m x going items) h = h
        goes n stays h = absurd h
        goes n (enters m) h = absurd h
        goes n (delays m) h = absurd h
        goes n (starts m x) h = absurd h
        goes n (shows x) h = absurd h
        goes n ends h = absurd h

        stays_or_goes : (n : ℕ) (m : Move) → (entry_in n (frames d.calls) ≡ true) ⊎ GoesOut p c calls s.components pid n m → (entry_in n (frames d.calls) ≡ true) ⊎ GoesFrom m n
        stays_or_goes n m (inl h) = inl h
        stays_or_goes n m (inr h) = inr (goes n m h)
    facts_at c calls e (Err x) good own begins keeps come = tt

    facts_open : Open → AllFacts done
    facts_open o =
        let c = o.call in
        let calls = o.calls in
        let process = orderly.orderly.processes pid lt in
        let held = owned.processes pid lt in
        let fits : ItemsFit (frames (c ∷ calls)) me.items = subst (λ k. ItemsFit (frames k) me.items) o.are process.fits in
        let known = both p ok s pid owned orderly lt is_ready (c ∷ calls) me.items o.are refl tt (subst (HeldCalls (first_components p) me.component) o.are held.held) (subst (λ k. Bottom me.component (frames k)) o.are held.bottom) in
        subst (λ k. AllFacts (takes (let v : View = record { program = p; calls = k; components = s.components } in v) pid me.items)) (sym o.are)
        (facts_at c calls o.are (takes (let v : View = record { program = p; calls = c ∷ calls; components = s.components } in v) pid me.items) known.0 known.1 (takes_begins p c calls s.components pid me.items) (takes_keeps p c calls s.components pid me.items fits)
        (takes_comes p c calls s.components pid NoProcess unknown (given c calls o.are) me.items))

    pub facts : AllFacts done
    facts = facts_open open_calls
