-- What is known of each state that a tree reaches which was read, is accepted and laid out; and so the law.
use Rattle.std.proofs.Common.{◌≡◌, ◌∙◌, inl, inr, ℕ, zero, suc, ◌<◌, true, false, List, [], ◌∷◌, map, Option, Some, ap, sym, refl, subst, arith, length}
use Rattle.cp_tree.specs.declared.declaration.SystemKind.{SystemKind}
use Rattle.cp_tree.specs.declared.declaration.SystemKind.TheVariants as system_kind
use Rattle.cp_tree.specs.Read.{IsRead}
use Rattle.cp_tree.specs.Syntax.{Tree, Program, Expressions, Designator, nameless, invoke, assign, empty, block, if_then, if_else, case_of, while_do, repeat_until, for_do, cycle, init, asserted, Routine}
use Rattle.cp_layout.specs.Laid.{plain, laid}
use Rattle.cp_slots.specs.Tables.{Tables, component_at, process_at}
use Rattle.cp_slots.specs.declared.tables.ComponentKind.{ComponentKind}
use Rattle.cp_slots.specs.declared.tables.ComponentKind.TheVariants as kind
use Rattle.cp_store.specs.declared.memory.Frame.{Frame}
use Rattle.cp_machine.specs.Machine.{Machine, thread_at}
use Rattle.cp_run.specs.Slots.{slots}
use Rattle.cp_meaning_laws.specs.Accepted.{IsAccepted}
use Rattle.cp_meaning_laws.proofs.Accepting.{well_formed}
use Rattle.cp_meaning.specs.Components.{Listed, components_of}
use Rattle.cp_meaning.specs.Declarations.{RoutineMeaning, routine_in}
use Rattle.cp_meaning.specs.Expressions.{name_of, routine_called, meaning_here}
use Rattle.cp_meaning.specs.Lifting.{is_routine_meant, check_statement}
use Rattle.cp_meaning.specs.Places.{View}
use Rattle.cp_meaning.specs.Readings.{is_ready}
use Rattle.cp_meaning.specs.Scopes.{Meaning, routine_meaning, find, since}
use Rattle.cp_meaning.specs.State as named
use Rattle.cp_meaning.specs.State.{ready, current, Call, Item, statement_item, function_call, start_item, until, successor, return, init_end, end, Discipline, State}
use Rattle.cp_meaning.specs.Steps.{first_component, view_of, IsReached, at_first, by_step, by_admission, by_forgetting}
use Rattle.cp_meaning.specs.Systems.{declared, program_system, own_meaning, system_of}
use Rattle.cp_meaning.proofs.OwnershipLemmas.{reached, lawful, exclusive}
use Rattle.cp_meaning.specs.WellFormed.{IsWellFormed}
use Rattle.cp_resolved.specs.Resolving.{AreTablesOf}
use Rattle.cp_resolved.specs.Judging.{tokens_of}
use Rattle.cp_resolved.specs.Layouts.{Layouts}
use Rattle.cp_resolved.specs.Openings.{openings_of, meaning_in, meaning_at}
use Rattle.cp_resolved.specs.Resolved.{initial_meaning}
use Rattle.cp_resolved.specs.TreeLayouts.{layouts_of, owner_in}
use Rattle.cp_resolved.proofs.declarations.Nameless.{SaysSome}
use Rattle.cp_resolved.proofs.declarations.WordsOfTrees.{spelled_at, invariants_found}
use Rattle.cp_resolved.proofs.statements.CalleesKnown.{At, numbered}
use Rattle.cp_resolved.proofs.statements.CallsKnown as calls_known
use Rattle.cp_resolved.proofs.statements.ChecksKnown.{no_invariants}
use Rattle.cp_resolved.proofs.statements.RoutinesNoted.{Numbered, InitialNumbered}
use Rattle.cp_machine_laws.specs.AllKnown.{AllKnown}
use Rattle.cp_machine_laws.specs.Bodies.{check_name, ItemStands}
use Rattle.cp_machine_laws.specs.Prepared.{Prepared}
use Rattle.cp_machine_laws.specs.InStep.{GoInStep}
use Rattle.cp_machine_laws.specs.Kinds.{SameKind}
use Rattle.cp_machine_laws.specs.Law.{ground_of, Simulates}
use Rattle.cp_machine_laws.specs.Named.{named as on_names, discipline_of, is_some, in_line_of}
use Rattle.cp_machine_laws.specs.Represents.{CallIs, CallsHold, frames_of, own_memory}
use Rattle.cp_machine_laws.specs.RoutinesKnown.{scope_of, body_of, Callee, CalledAs, RoutinesKnown, ItemsFit}
use Rattle.cp_machine_laws.proofs.Forgetting.{forgets}
use Rattle.cp_machine_laws.proofs.HoldsInReached.{HoldsInReached, reached_stands}
use Rattle.cp_machine_laws.proofs.Meaning.{it, known as all_known, goes_in_step}
use Rattle.cp_machine_laws.proofs.reached.KnownEntries.{counted}
use Rattle.cp_machine_laws.proofs.reached.KnownRoutines.{traits, routines_known}
use Rattle.cp_machine_laws.proofs.reached.NextInReached.{Executed, executed}
use Rattle.cp_machine_laws.proofs.reached.ReadyInReached.{ReadyInReached, ready_in_reached}
use Rattle.cp_machine_laws.proofs.steps.Beginning.{same_count}
use Rattle.cp_machine_laws.proofs.steps.Going.{Going, going}
use Rattle.cp_annotation_laws.specs.Invariants.{all_said, invariants_meant, invariants_in, InvariantsHold, InvariantsLaw}
use Rattle.cp_annotation_laws.proofs.invariants.Blocks.{IsInBlock, all_in_blocks, each_at}
use Rattle.cp_annotation_laws.proofs.invariants.Entries.{entry_looked}
use Rattle.cp_annotation_laws.proofs.invariants.Keeping.{CallKnown, StateKnown, Keeps}
use Rattle.cp_annotation_laws.proofs.invariants.Quieted.{body_quiet}
use Rattle.cp_annotation_laws.proofs.invariants.Reached.{reached_keeps}
use Rattle.cp_annotation_laws.proofs.invariants.Standing.{AreQuiet, SaysInvariants, BlocksKnown, IsOfBlock, none_hold}
use Rattle.cp_annotation_laws.proofs.invariants.Stepping.{IsOther, EntryChecked, Asked}
use Rattle.cp_annotation_laws.proofs.invariants.Waiting.{QueueNext, queue_next}

-- ---- the kind of a component is that of its system type

first_kind : (p : Program) (ls : List Listed) (n : ℕ) → n < length (map (first_component p) ls) → (named.component_at (map (first_component p) ls) n).kind ≡ (system_of p (named.component_at (map (first_component p) ls) n).system).kind
first_kind p [] n h = absurd (omega (arith, h))
first_kind p (c ∷ ls) zero h = refl
first_kind p (c ∷ ls) (suc n) h = first_kind p ls n (omega (arith, h))

process_told : (a : SystemKind) (k : ComponentKind) (j : ℕ) → SameKind a k → k ≡ kind.Process j → a ≡ system_kind.Process
process_told system_kind.Process k j h e = refl
process_told system_kind.Monitor (kind.Monitor i) j h e = absurd cc
process_told system_kind.Class kind.Class j h e = absurd cc
process_told _ _ j h e = absurd h

module _ (t : Tree) (read : IsRead t.program) (ok : IsAccepted t) where
  abbrev p : Program
  p = t.program

  abbrev l : Layouts
  l = layouts_of t

  -- ---- blocks

  routine_says : (k : ℕ) → SaysInvariants (find nameless (system_of p k).scope)
  routine_says k = go (find nameless (system_of p k).scope) refl
    where
      initial : InitialNumbered p (tokens_of p) (system_of p k)
      initial = (numbered t read ok k).initial

      go : (m : Option Meaning) → find nameless (system_of p k).scope ≡ m → SaysInvariants m
      go (Some (routine_meaning r)) e = invariants_found (meaning_at p initial.number).scope r (spelled_at p read initial.number) (ap (λ (m : RoutineMeaning). find nameless m.scope) initial.means ∙ e)
      go _ e = tt

  -- what the routine without a name says calls nothing
  routine_quiet : (k : ℕ) (r : Routine) → find nameless (system_of p k).scope ≡ Some (routine_meaning r) → AreQuiet (routine_in (since nameless (system_of p k).scope) r).scope (all_said (routine_in (since nameless (system_of p k).scope) r).body)
  routine_quiet k r e =
      let d : Numbered p (tokens_of p) (since nameless (system_of p k).scope) r = (numbered t read ok k).routines nameless r e in
      let a : At t d.number = calls_known.a t read ok d.number in
      let same : a.opening.meaning ≡ routine_in (since nameless (system_of p k).scope) r = sym a.means ∙ d.means in
      let says = (subst SaysInvariants e (routine_says k)).1.says in
      subst (λ (m : RoutineMeaning). AreQuiet m.scope (all_said m.body)) same
      (body_quiet (tokens_of p) a.place.scopes (record { program = p; layouts = l; system = l.owners d.number; routine = d.number; scope = a.opening.meaning.scope }) a.place.context (calls_known.f t read ok d.number) (a.agreed.scopes l (l.owners d.number) d.number)
      a.opening.meaning.body (subst (λ (m : RoutineMeaning). SaysSome m.body) (sym same) says) (calls_known.judged t read ok d.number).value (calls_known.judged t read ok d.number).is (calls_known.said t read ok d.number))

  quiet_there : (k : ℕ) → AreQuiet (invariants_in (system_of p k).scope).scope (invariants_in (system_of p k).scope).expressions
  quiet_there k = go (find nameless (system_of p k).scope) refl
    where
      go : (m : Option Meaning) → find nameless (system_of p k).scope ≡ m → AreQuiet (invariants_meant m (since nameless (system_of p k).scope)).scope (invariants_meant m (since nameless (system_of p k).scope)).expressions
      go (Some (routine_meaning r)) e = routine_quiet k r e
      go _ e = tt

  blocks : BlocksKnown p
  blocks = record { routine = routine_says; quiet = quiet_there }

  -- ---- what is called

  rules : RoutinesKnown p l (traits t)
  rules = routines_known t read ok

  routine_no_other : (m : Option Meaning) → is_routine_meant m ≡ true → IsOther m → ⊥
  routine_no_other (Some (routine_meaning r)) e h = h
  routine_no_other m e h = (let bad : false ≡ true = e in cc)

  other_entry : (n k : ℕ) (m : Option Meaning) → IsOther m → CalledAs (traits t) n k m → (traits t).entry k ≡ true
  other_entry n k (Some (routine_meaning r)) h c = absurd h
  other_entry n k m h c = c

  callee_checked : (n : ℕ) (d : Designator) (r : RoutineMeaning) → IsOther (find (name_of d) (scope_of l n)) → Callee l (traits t) n d r → r.checks ≡ true
  callee_checked n d r h c = ap (λ (m : RoutineMeaning). m.checks) c.same ∙ entry_looked p c.number (other_entry n c.number (find (name_of d) (scope_of l n)) h c.called)

  module _ (g : Discipline) (s : State) (before : IsReached p g s) (q : ℕ) (less : q < length s.processes) (was : (named.process_at s.processes q).status ≡ ready) where
    abbrev calls : List Call
    calls = (named.process_at s.processes q).calls

    abbrev view : View
    view = view_of p s q

    module _ (n : ℕ) (same : (current (named.process_at s.processes q).calls).scope ≡ scope_of l n) where
      other_there : (d : Designator) → IsOther (meaning_here view d) → IsOther (find (name_of d) (scope_of l n))
      other_there d h = subst (λ c. IsOther (find (name_of d) c)) same h

      called_there : (d : Designator) (r : RoutineMeaning) → routine_called p (current (named.process_at s.processes q).calls).scope d ≡ Some r → routine_called p (scope_of l n) d ≡ Some r
      called_there d r e = ap (λ c. routine_called p c d) (sym same) ∙ e

      function_checked : (at : ℕ) (d : Designator) (es : Expressions) → ItemStands (scope_of l n) (body_of l n) (function_call at d es) → EntryChecked view d
      function_checked at d es w h r e = callee_checked n d r (other_there d h) (rules.functions n at d es r w (called_there d r e)).0

      invoke_checked : (at : ℕ) (d : Designator) (es : Expressions) → ItemStands (scope_of l n) (body_of l n) (statement_item (invoke at d es)) → EntryChecked view d
      invoke_checked at d es (inl w) h r e = callee_checked n d r (other_there d h) (rules.procedures n at d es r w (called_there d r e))
      invoke_checked at d es (inr k) h r e =
          let x : invoke at d es ≡ check_statement k.0 = k.2 in
          let called : d ≡ check_name k.0 = cc in
          absurd (routine_no_other (find nameless (scope_of l n)) k.1 (subst (λ c. IsOther (find (name_of c) (scope_of l n))) called (other_there d h)))

    -- what is asked of the next item
    asked_of : (items : List Item) (n : ℕ) (ns : List ℕ) → (current (named.process_at s.processes q).calls).scope ≡ scope_of l n → ItemsFit l (n ∷ ns) items → QueueNext view items → Asked view items
    asked_of [] n ns same fits queue = tt
    asked_of (statement_item (invoke at d es) ∷ items) n ns same fits queue = (invoke_checked n same at d es fits.0, queue)
    asked_of (function_call at d es ∷ items) n ns same fits queue = function_checked n same at d es fits.0
    asked_of (statement_item (empty at) ∷ items) n ns same fits queue = tt
    asked_of (statement_item (assign at d e) ∷ items) n ns same fits queue = tt
    asked_of (statement_item (block at ss) ∷ items) n ns same fits queue = tt
    asked_of (statement_item (if_then at e u) ∷ items) n ns same fits queue = tt
    asked_of (statement_item (if_else at e u w) ∷ items) n ns same fits queue = tt
    asked_of (statement_item (case_of at e as' b) ∷ items) n ns same fits queue = tt
    asked_of (statement_item (while_do at e u) ∷ items) n ns same fits queue = tt
    asked_of (statement_item (repeat_until at ss e) ∷ items) n ns same fits queue = tt
    asked_of (statement_item (for_do at i e d f u) ∷ items) n ns same fits queue = tt
    asked_of (statement_item (cycle at ss) ∷ items) n ns same fits queue = tt
    asked_of (statement_item (init at ts) ∷ items) n ns same fits queue = tt
    asked_of (statement_item (asserted at k e u) ∷ items) n ns same fits queue = tt
    asked_of (start_item x ∷ items) n ns same fits queue = tt
    asked_of (until ss e ∷ items) n ns same fits queue = tt
    asked_of (successor at i z d b u ∷ items) n ns same fits queue = tt
    asked_of (return o ∷ items) n ns same fits queue = tt
    asked_of (init_end m ∷ items) n ns same fits queue = tt
    asked_of (end ∷ items) n ns same fits queue = tt

    pub asked_now : QueueNext view (named.process_at s.processes q).items → Asked view (named.process_at s.processes q).items
    asked_now queue =
        let x : Executed t ok l (traits t) rules g s before q (named.process_at s.processes q).items = executed t ok l (traits t) rules g s before q less was in
        asked_of (named.process_at s.processes q).items x.number x.numbers x.scope x.remains queue

module _ (t : Tree) (r : Tables) (g : Discipline) (read : IsRead t.program) (ok : IsAccepted t) (same : plain r ≡ laid t) where
  abbrev tp : Program
  tp = t.program

  abbrev tl : Layouts
  tl = layouts_of t

  tables : AreTablesOf t r
  tables = it t r g read ok same

  asked : AllKnown t r tl g
  asked = all_known t r g read ok same

  prepared : Prepared t r tl
  prepared = record { stands = tables.stands; sound = tables.sound; program = asked.program }

  go : GoInStep (on_names t g) (slots r (discipline_of g)) (Simulates t r tl g)
  go = goes_in_step t r g read ok same

  abbrev IsStoodFor : State → Type 0
  IsStoodFor s = (m : Machine) × Simulates t r tl g s m

  below : (s : State) (m : Machine) (q : ℕ) → Simulates t r tl g s m → q < length s.processes → q < (on_names t g).processes
  below s m q sim less = let a = same_count t r tl g prepared s m sim in omega (arith, a, less)

  -- a machine stands for each reached state
  stood_for : (s : State) → IsReached tp g s → IsStoodFor s
  stood_for _ at_first = ((slots r (discipline_of g)).start, go.start)
  stood_for _ (by_step s q before none less was) =
      let x = stood_for s before in
      ((slots r (discipline_of g)).step x.0 q, go.step s x.0 q x.1 (record { below = below s x.0 q x.1 less; ready = ap is_ready was; free = ap is_some none }))
  stood_for _ (by_admission s n q before is member) =
      let x = stood_for s before in
      let less = (reached_stands t ok g s before).line n q member in
      ((slots r (discipline_of g)).admit x.0 q, go.admit s x.0 q x.1 (record { below = below s x.0 q x.1 less.there; due = ap is_some is; lined = ap (λ o. in_line_of o s q) is ∙ member }))
  stood_for _ (by_forgetting s before) =
      let x = stood_for s before in
      (record x.0 { output = [] }, forgets t r tl g s x.0 x.1)

  module _ (s : State) (before : IsReached tp g s) where
    well : IsWellFormed tp
    well = well_formed t ok

    holds : HoldsInReached tp s
    holds = reached_stands t ok g s before

    abbrev m : Machine
    m = (stood_for s before).0

    sim : Simulates t r tl g s m
    sim = (stood_for s before).1

    ready_there : ReadyInReached (ground_of t r) tp s m
    ready_there = ready_in_reached t r tl g s m ok tables.stands tables.sound.typed sim

    process_count : length s.processes ≡ length r.processes
    process_count = let a = sim.represents.process_count in let b = sim.fits.threads in omega (arith, a, b)

    component_of : (q : ℕ) → q < length s.processes → (named.process_at s.processes q).component ≡ (process_at r q).component
    component_of q lt = (sim.represents.processes q lt).component

    process_kind : (q : ℕ) → q < length s.processes → (component_at r (process_at r q).component).kind ≡ kind.Process q
    process_kind q lt = (tables.sound.typed.processes q (subst (λ n. q < n) process_count lt)).kind

    same_number : (i j : ℕ) → kind.Process i ≡ kind.Process j → i ≡ j
    same_number i j e = cc

    apart : (q k : ℕ) → q < length s.processes → k < length s.processes → (named.process_at s.processes q).component ≡ (named.process_at s.processes k).component → q ≡ k
    apart q k lq lk e = same_number q k (sym (process_kind q lq) ∙ (ap (λ n. (component_at r n).kind) (sym (component_of q lq) ∙ (e ∙ component_of k lk)) ∙ process_kind k lk))

    own_kind : (q : ℕ) → q < length s.processes → (named.component_at s.components (named.process_at s.processes q).component).kind ≡ system_kind.Process
    own_kind q lt =
        let n : ℕ = (process_at r q).component in
        let there : n < length r.components = (let c = sim.represents.component_count in let old = (reached tp well g s before).0 in let x = (old.processes q lt).component in let z = old.tree.size in let e = component_of q lt in omega (arith, c, x, z, e)) in
        ap (λ j. (named.component_at s.components j).kind) (component_of q lt) ∙ process_told (named.component_at s.components n).kind (component_at r n).kind q (ready_there.kinds n there) (process_kind q lt)

    silent : (n : ℕ) → n < length s.components → (named.component_at s.components n).kind ≡ system_kind.Process → InvariantsHold tp s.components n
    silent n lt e =
        none_hold tp s.components n (no_invariants t read ok (named.component_at s.components n).system
        (sym (ap (λ k. (system_of tp k).kind) (sym (holds.system n))) ∙ (sym (first_kind tp (components_of tp) n (subst (λ k. n < k) holds.count lt)) ∙ (sym (holds.kind n) ∙ e))))

    of_block : (q : ℕ) (c : Call) (cs : List Call) → (lt : q < length s.processes) → (named.process_at s.processes q).status ≡ ready → (named.process_at s.processes q).calls ≡ c ∷ cs → IsOfBlock tp s.components c.component c.scope
    of_block q c cs lt was e = here (frames_of (thread_at m.threads q).frame (thread_at m.threads q).stack) (subst (λ ks. CallsHold r tl (own_memory (thread_at m.threads q)) ks (frames_of (thread_at m.threads q).frame (thread_at m.threads q).stack)) e goes.calls)
      where
        goes : Going (ground_of t r) tp tl s m q
        goes = going (ground_of t r) tp tl s m q sim.represents lt (ap is_ready was)

        of : (f : Frame) → CallIs r tl c f → IsOfBlock tp s.components c.component c.scope
        of f x =
            let o = each_at (IsInBlock tp) (openings_of tp) f.routine (all_in_blocks tp read) (subst (λ k. f.routine < k) (counted t read ok r same) x.routine) in
            let meaning : (tl.meanings f.routine) ≡ o.0.meaning = ap (meaning_in (initial_meaning (own_meaning (declared tp) tp))) o.1 in
            let owner : tl.owners f.routine ≡ o.0.owner = ap (owner_in (program_system tp)) o.1 in
            let scope : c.scope ≡ o.0.meaning.scope = x.scope ∙ ap (λ (y : RoutineMeaning). y.scope) meaning in
            let system : o.0.owner ≡ (named.component_at s.components c.component).system = sym owner ∙ (x.owner ∙ (ap (λ n. (component_at r n).system) (sym x.component) ∙ sym (ready_there.systems c.component (subst (λ n. n < length r.components) (sym x.component) x.there)))) in
            record {
              found = ap (find nameless) scope ∙ (o.2.found ∙ ap (λ k. find nameless (system_of tp k).scope) system);
              from = ap (since nameless) scope ∙ (o.2.from ∙ ap (λ k. since nameless (system_of tp k).scope) system);
            }

        here : (fs : List Frame) → CallsHold r tl (own_memory (thread_at m.threads q)) (c ∷ cs) fs → IsOfBlock tp s.components c.component c.scope
        here [] h = absurd h
        here (f ∷ fs) h = of f h.0

    call_known : (q : ℕ) (c : Call) (cs : List Call) → q < length s.processes → (named.process_at s.processes q).status ≡ ready → (named.process_at s.processes q).calls ≡ c ∷ cs → CallKnown tp s c cs (named.process_at s.processes q).items
    call_known q c cs lt was e =
        record {
          of_block = of_block q c cs lt was e;
          asked = subst (λ ks. Asked (record { program = tp; calls = ks; components = s.components }) (named.process_at s.processes q).items) e
              (asked_now t read ok g s before q lt was (queue_next t r tl prepared s m sim.fits (asked.states s m sim) q (going (ground_of t r) tp tl s m q sim.represents lt (ap is_ready was))));
        }

    state_known : StateKnown tp s
    state_known =
        record {
          orderly = (reached tp well g s before).1;
          lawful = lawful tp well g s before;
          exclusive = exclusive tp well g s before;
          kinds = holds.kind;
          open_call = holds.open_call;
          fresh = holds.fresh;
          apart = apart;
          own = own_kind;
          silent = silent;
          size = holds.count;
          listed = holds.within;
          calls = call_known;
        }

  keeps : (s : State) → IsReached tp g s → Keeps tp s
  keeps = reached_keeps tp (blocks t read ok) (well_formed t ok) g state_known

pub invariants_law : InvariantsLaw
invariants_law t r g read ok same s before n status nobody = (keeps t r g read ok same s before).holds n status nobody
