-- What a ready process does next is as the rules want it: it stands in the body of a routine whose scope is that of the call.
use Rattle.std.proofs.Common.{◌≡◌, ◌∙◌, ◌⊎◌, inl, inr, ℕ, ◌-◌, ◌+◌, ◌<◌, Bool, true, false, List, [], ◌∷◌, length, Option, Some, None, ap, sym, refl, subst}
use Rattle.cp_tree.specs.declared.declaration.SystemKind.TheVariants as system_kind
use Rattle.cp_tree.specs.Syntax.{Expression, Expressions, no_expressions, more_expressions, Designator, Start, Statement, assign, invoke, block, if_then, if_else, case_of, while_do, repeat_until, for_do, cycle, init, asserted, nameless, Statements, no_statements, more_statements, Arms, no_arms, more_arms, arm, Program, Tree, no_selectors}
use Rattle.cp_slots.specs.Code as code
use Rattle.cp_machine_laws.proofs.Words.{Tables, Machine, thread_at, IsAccepted, Name, Ty, Base, result_type, Parameter, RoutineMeaning, name_of, routine_called, variable_in}
use Rattle.cp_machine_laws.proofs.Words.{declared, program_system, own_meaning, system_of, is_ready, a_component, designator_form, tokens_of, Layouts, Here, here, IsRead}
use Rattle.cp_machine_laws.proofs.Words.{initial_meaning, Each, is_free, is_standing, IsFreeResult, Ground, ground_of, Simulates, CallIs, CallsHold, own_memory, Traits}
use Rattle.cp_machine_laws.proofs.Words.{scope_of, body_of, RoutinesKnown, ItemsFit, Meaning, standard_meaning, delay_procedure, continue_procedure, display_procedure, Scope}
use Rattle.cp_machine_laws.proofs.Words.{find, HasQueue, Opening, openings_of, meaning_in, IsAmong, IsAmongArms, IsPartOf, IsWithin, listed, inside, IsAmongStarts, ItemStands}
use Rattle.cp_meaning.specs.Types as named
use Rattle.cp_meaning.specs.State as state
use Rattle.cp_meaning.specs.State.{current, Item, statement_item, function_call, start_item, until, successor, return, init_end, end, Discipline, State}
use Rattle.cp_meaning.specs.Lifting.{is_routine_meant, has_invariants, check_statement}
use Rattle.cp_meaning.specs.Scopes.{routine_meaning}
use Rattle.cp_resolved.specs.Compiled.{result_begun, begun_form, selected_form, then_form}
use Rattle.cp_resolved.specs.Layouts.{is_own}
use Rattle.cp_machine_laws.specs.Bodies.{check_name}
use Rattle.cp_resolved.specs.Enumerations.{constants_before}
use Rattle.cp_resolved.specs.TreeLayouts.{owner_in, layouts_of}
use Rattle.cp_resolved.proofs.statements.EachStatement.{EachIn, EachOf, EachArm, the_statement}
use Rattle.cp_resolved.proofs.statements.KnownOfTrees.{here_in, KnownAmong, all_among, known_law, number_below, few_constants}
use Rattle.cp_resolved.proofs.statements.KnownStatements as statements
use Rattle.cp_resolved.proofs.statements.KnownStatements.{IsMovable, IsListed, WaitKnown}
use Rattle.cp_resolved.proofs.statements.NamedArguments.{IsVariable, AreVariables}
use Rattle.cp_resolved.proofs.statements.OwnersKnown.{IsProcedure}
use Rattle.cp_resolved.proofs.agreeing.ScopeMeasures.{Measure, measure}
use Rattle.cp_machine_laws.specs.ItemsKnown.{VariablesGiven, CallIsKnown, HasFewConstants, QueueKnown, InvokeKnown, StatementKnown, ItemKnown}
use Rattle.cp_machine_laws.specs.StatesKnown.{NextKnown}
use Rattle.cp_machine_laws.proofs.control.Control.{top_frame}
use Rattle.cp_machine_laws.proofs.expressions.DesignatedTypes.{NamesTyped, designator_good}
use Rattle.cp_machine_laws.proofs.calls.FunctionParameters.{called_values}
use Rattle.cp_machine_laws.proofs.steps.Going.{Going, going}
use Rattle.cp_machine_laws.proofs.reached.NextInReached.{Executed, executed}
use Rattle.cp_machine_laws.proofs.queues.QueuesKnown.{queue_permanent}
use Rattle.cp_machine_laws.proofs.expressions.ComponentsSeen.{top_call as held_routine}

-- ---- what holds of each statement holds of one

module _ (P : Statement → Type 0) where
  among : (t : Statement) (ss : Statements) → EachOf P ss → IsAmong t ss → EachIn P t
  among t no_statements h k = absurd k
  among t (more_statements u us) h (inl e) = subst (EachIn P) (sym e) h.0
  among t (more_statements u us) h (inr k) = among t us h.1 k

  among_arms : (t : Statement) (as' : Arms) → EachArm P as' → IsAmongArms t as' → EachIn P t
  among_arms t no_arms h k = absurd k
  among_arms t (more_arms (arm cs u) as') h (inl e) = subst (EachIn P) (sym e) h.0
  among_arms t (more_arms (arm cs u) as') h (inr k) = among_arms t as' h.1 k

  part_in : (t u : Statement) → IsPartOf t u → EachIn P u → EachIn P t
  part_in t (block at ss) k h = among t ss h.1 k
  part_in t (if_then at e u) k h = subst (EachIn P) (sym k) h.1
  part_in t (if_else at e u w) (inl k) h = subst (EachIn P) (sym k) h.1
  part_in t (if_else at e u w) (inr k) h = subst (EachIn P) (sym k) h.2
  part_in t (case_of at e as' b) k h = among_arms t as' h.1 k
  part_in t (while_do at e u) k h = subst (EachIn P) (sym k) h.1
  part_in t (repeat_until at ss e) k h = among t ss h.1 k
  part_in t (for_do at i e d f u) k h = subst (EachIn P) (sym k) h.1
  part_in t (cycle at ss) k h = among t ss h.1 k
  part_in t (asserted at j e u) k h = subst (EachIn P) (sym k) h.1
  part_in t _ k h = absurd k

  within_in : (body : Statements) (t : Statement) → EachOf P body → IsWithin body t → EachIn P t
  within_in body _ h (listed t k) = among t body h k
  within_in body _ h (inside t u k w) = part_in t u k (within_in body u h w)

  pub within_one : (body : Statements) (t : Statement) → EachOf P body → IsWithin body t → P t
  within_one body t h w = the_statement P t (within_in body t h w)

pub start_in : (P : Start → Type 0) (t : Start) (ts : List Start) → Each P ts → IsAmongStarts t ts → P t
start_in P t [] h k = absurd k
start_in P t (u ∷ us) h (inl e) = subst P (sym e) h.0
start_in P t (u ∷ us) h (inr k) = start_in P t us h.1 k

-- ---- types and arguments

movable_free : (t : Ty) → is_standing t ≡ true → IsMovable t → is_free t ≡ true
movable_free named.queue_type h m = absurd m
movable_free (named.component_of k) h m = absurd m
movable_free (named.array_over r named.queue_type) h m = absurd m
movable_free (named.array_over r (named.component_of k)) h m = absurd m
movable_free _ h m = h

result_free : (o : Option Ty) → IsFreeResult o → is_free (result_type o) ≡ true
result_free None h = refl
result_free (Some t) h = h

variables_given : (h : Here) (qs : List Parameter) (es : Expressions) → AreVariables h qs es → VariablesGiven h qs es
variables_given h (q ∷ qs) (more_expressions e es) v = ((λ var. (let x : IsVariable h (variable_in e) = v.0 var in (x.designator, x.is, x.no_call))), variables_given h qs es v.1)
variables_given h _ _ v = tt

none_given : (h : Here) (qs : List Parameter) → VariablesGiven h qs no_expressions
none_given h [] = tt
none_given h (q ∷ qs) = tt

values_given : (h : Here) (qs : List Parameter) (es : Expressions) → Each (λ (q : Parameter). q.is_var ≡ false) qs → VariablesGiven h qs es
values_given h (q ∷ qs) (more_expressions e es) v = ((λ var. absurd (let bad : false ≡ true = sym v.0 ∙ var in cc)), values_given h qs es v.1)
values_given h _ _ v = tt

-- ---- the routine of the frame

-- an entry is one of a class or monitor, in the body of routine n, with the scope of which routine k is executed
abbrev pub EntriesKnown : Program → Layouts → Type 0
EntriesKnown p l =
    (n k at : ℕ) (d : Designator) (es : Expressions) → scope_of l n ≡ scope_of l k → ItemStands (scope_of l n) (body_of l n) (function_call at d es) ⊎ IsWithin (body_of l n) (invoke at d es) →
    (part : code.ComponentPlace) (c : ℕ) → designator_form (here p l k) d ≡ Some (a_component part c) → (system_of p c).kind ≡ system_kind.Process → ⊥

module _ (t : Tree) (r : Tables) (read : IsRead t.program) (ok : IsAccepted t) (f : Traits) (known : RoutinesKnown t.program (layouts_of t) f) (entries : EntriesKnown t.program (layouts_of t)) where
  abbrev p : Program
  p = t.program

  abbrev l : Layouts
  l = layouts_of t

  abbrev g : Ground
  g = ground_of t r

  -- an item of the body of routine n, where routine k is executed with the scope
  module _ (n k : ℕ) (same : scope_of l n ≡ scope_of l k) (less : k < length (openings_of p)) (typed : NamesTyped l k) where
    abbrev this : Here
    this = here p l k

    abbrev Known : Statement → Type 0
    Known = statements.StatementKnown (tokens_of p) this (known_law t read ok n).place.context

    each : EachOf Known (body_of l n)
    each = subst (λ (s : Scope). EachOf (statements.StatementKnown (tokens_of p) (here_in t (l.owners k) k s) (known_law t read ok n).place.context) (body_of l n)) same ((known_law t read ok n).each (l.owners k) k)

    now : KnownAmong t read ok (openings_of p) k
    now = all_among t read ok k less

    -- the measure of the scope is that of the opening
    measure_here : measure now.known.opening.meaning.scope ≡ measure (scope_of l k)
    measure_here = ap (λ (m : RoutineMeaning). measure m.scope) now.known.same ∙ sym (ap (λ (o : Option Opening). measure (meaning_in (initial_meaning (own_meaning (declared p) p)) o).scope) now.is)

    measure_there : measure (known_law t read ok n).opening.meaning.scope ≡ measure (scope_of l k)
    measure_there = ap (λ (m : RoutineMeaning). measure m.scope) (known_law t read ok n).same ∙ ap measure same

    owner_here : l.owners k ≡ (known_law t read ok n).opening.owner
    owner_here =
        ap (owner_in (program_system p)) now.is
        ∙ (sym now.owner ∙ (sym now.known.owned.height ∙ (ap (λ (a : Measure). a.0) (measure_here ∙ sym measure_there) ∙ (known_law t read ok n).owned.height)))

    -- ---- queues

    queue_known : (e : Expression) → IsVariable this (variable_in e) → HasQueue this e → statements.IsInMonitor (known_law t read ok n).place.context → QueueKnown this e
    queue_known e v q w =
        let x = queue_permanent this typed.fit e v.designator v.is v.no_call q in
        record {
          designator = v.designator;
          ty = x.0;
          is = v.is;
          permanent = x.1;
          monitor = ap (λ (k : ℕ). (system_of p k).kind) owner_here ∙ (known_law t read ok n).owned.owner system_kind.Monitor w.0;
        }

    no_result : (at : ℕ) (d : Designator) (es : Expressions) → IsWithin (body_of l n) (invoke at d es) → find (name_of d) this.scope ≡ Some (standard_meaning continue_procedure) → statements.IsInMonitor (known_law t read ok n).place.context → (l.meanings k).result ≡ None
    no_result at d es w is stands =
        let none : (l.meanings n).result ≡ None = (known.continues n at d es w (ap (find (name_of d)) same ∙ is)).1 in
        let own = (known_law t read ok n).owned.routine stands.1 stands.2 in
        let fits : IsProcedure own.0.kind = own.2 (ap (λ (m : RoutineMeaning). m.result) (known_law t read ok n).same ∙ none) in
        let latest : (measure now.known.opening.meaning.scope).1 ≡ Some own.0 = ap (λ (a : Measure). a.1) (measure_here ∙ sym measure_there) ∙ own.1 in
        ap (λ (o : Option Opening). (meaning_in (initial_meaning (own_meaning (declared p) p)) o).result) now.is ∙ (sym (ap (λ (m : RoutineMeaning). m.result) now.known.same) ∙ now.known.owned.result own.0 latest fits)

    -- ---- constants

    few : (b : Base) → IsListed (tokens_of p) b → HasFewConstants g b
    few (named.enumerated at xs) e = subst (λ (ys : List Name). constants_before p at + (length ys - 1) < 65536) (sym e) (few_constants t read ok at)
    few _ e = tt

    -- ---- calls

    invoke_call : (at : ℕ) (d : Designator) (es : Expressions) → IsWithin (body_of l n) (invoke at d es) → statements.InvokeKnown (tokens_of p) this (known_law t read ok n).place.context d es → CallIsKnown this d es
    invoke_call at d es w x =
        record { variables = λ j e. variables_given this (l.meanings j).parameters es (x.variables (l.meanings j) e); entries = λ part c e. entries n k at d es same (inr w) part c e }

    invoke_known : (at : ℕ) (m : Option Meaning) (d : Designator) (es : Expressions) → find (name_of d) this.scope ≡ m → IsWithin (body_of l n) (invoke at d es) → statements.InvokeKnown (tokens_of p) this (known_law t read ok n).place.context d es → InvokeKnown g this m d es
    invoke_known at (Some (standard_meaning display_procedure)) d (more_expressions e es) is w x = λ q c form. few q.base (x.shows is q c form)
    invoke_known at (Some (standard_meaning delay_procedure)) d (more_expressions e es) is w x = (let y : WaitKnown this _ (more_expressions e es) = x.delays is in queue_known e y.queue.0 y.queue.1 y.monitor)
    invoke_known at (Some (standard_meaning continue_procedure)) d (more_expressions e es) is w x =
        (let y : WaitKnown this _ (more_expressions e es) = x.continues is in (queue_known e y.queue.0 y.queue.1 y.monitor, no_result at d (more_expressions e es) w is y.monitor))
    invoke_known at (Some (standard_meaning display_procedure)) d no_expressions is w x = invoke_call at d no_expressions w x
    invoke_known at (Some (standard_meaning delay_procedure)) d no_expressions is w x = invoke_call at d no_expressions w x
    invoke_known at (Some (standard_meaning continue_procedure)) d no_expressions is w x = invoke_call at d no_expressions w x
    invoke_known at _ d es is w x = invoke_call at d es w x

    function_known : (at : ℕ) (d : Designator) (es : Expressions) → ItemStands (scope_of l n) (body_of l n) (function_call at d es) → CallIsKnown this d es
    function_known at d es w =
        record {
          variables = λ j e. (
              let there : routine_called p (scope_of l n) d ≡ Some (l.meanings j) = ap (λ (s : Scope). routine_called p s d) same ∙ e in
              values_given this (l.meanings j).parameters es (called_values p (scope_of l n) d (l.meanings j) there (known.functions n at d es (l.meanings j) w there).1)
              );
          entries = λ part c e. entries n k at d es same (inl w) part c e;
        }

    -- a check has no arguments, and calls no entry
    check_known : (at : ℕ) → has_invariants (scope_of l n) ≡ true → StatementKnown g this (check_statement at)
    check_known at has = go (find nameless this.scope) refl (ap has_invariants (sym same) ∙ has)
      where
        no_component : (b : Bool) (part : code.ComponentPlace) (c : ℕ) → then_form (result_begun this b) (selected_form this no_selectors) ≡ Some (a_component part c) → ⊥
        no_component true part c e = cc
        no_component false part c e = cc

        go : (m : Option Meaning) → find nameless this.scope ≡ m → is_routine_meant m ≡ true → InvokeKnown g this m (check_name at) no_expressions
        go (Some (routine_meaning r)) e there =
            record {
              variables = λ j f. none_given this (l.meanings j).parameters;
              entries = λ part c form process. no_component (is_own this nameless) part c (sym (ap (λ (m : Option Meaning). then_form (begun_form this nameless m) (selected_form this no_selectors)) e) ∙ form);
            }
        go _ e never = absurd (let bad : false ≡ true = never in cc)

    -- ---- statements and items

    statement_known : (u : Statement) → IsWithin (body_of l n) u → Known u → StatementKnown g this u
    statement_known (assign at d e) w x = λ spot v form. free v (designator_good p l k typed d spot v form) (x spot v form)
      where
        free : (v : Ty) → is_standing v ≡ true → IsMovable v ⊎ (v ≡ result_type (l.meanings k).result) → is_free v ≡ true
        free v good (inl h) = movable_free v good h
        free v good (inr e) = ap is_free e ∙ result_free (l.meanings k).result typed.result
    statement_known (invoke at d es) w x = invoke_known at (find (name_of d) this.scope) d es refl w x
    statement_known _ w x = tt

    pub item_known : (i : Item) → ItemStands (scope_of l n) (body_of l n) i → ItemKnown g this i
    item_known (statement_item u) (inl w) = statement_known u w (within_one Known (body_of l n) u each w)
    item_known (statement_item u) (inr c) = subst (StatementKnown g this) (sym c.2) (check_known c.0 c.1)
    item_known (function_call at d es) w = function_known at d es w
    item_known (start_item x) w = λ part c form. number_below t read ok c (start_in (statements.StartKnown (tokens_of p) this) x w.1 (within_one Known (body_of l n) (init w.0 w.1) each w.2).1 w.3 part c form)
    item_known _ w = tt

  -- ---- reached states

  pub next_known : (counted : length r.routines ≡ length (openings_of p)) (typed : (k : ℕ) → k < length r.routines → NamesTyped l k) (discipline : Discipline) (s : State) (m : Machine) → Simulates t r l discipline s m → NextKnown t r l s m
  next_known counted typed discipline s m sim q i items less was is =
      let go : Going g p l s m q = going g p l s m q sim.represents less (ap is_ready was) in
      let top = top_frame (thread_at m.threads q).frame (thread_at m.threads q).stack in
      let held : CallIs r l (current (state.process_at s.processes q).calls) (thread_at m.threads q).frame =
      held_routine r l (own_memory (thread_at m.threads q)) (state.process_at s.processes q).calls (thread_at m.threads q).frame top.0 (subst (λ fs. CallsHold r l (own_memory (thread_at m.threads q)) (state.process_at s.processes q).calls fs) top.1 go.calls) in
      let x : Executed t ok l f known discipline s sim.reached q (state.process_at s.processes q).items = executed t ok l f known discipline s sim.reached q less was in
      let k : ℕ = (thread_at m.threads q).frame.routine in
      let stands = subst (λ (is : List Item). ItemsFit l (x.number ∷ x.numbers) is) is x.remains in
      by_item i x.number x.numbers items stands k (sym x.scope ∙ held.scope) (subst (λ (j : ℕ). k < j) counted held.routine) (typed k held.routine)
    where
      by_item : (i : Item) (n : ℕ) (ns : List ℕ) (items : List Item) → ItemsFit l (n ∷ ns) (i ∷ items) → (k : ℕ) → scope_of l n ≡ scope_of l k → k < length (openings_of p) → NamesTyped l k → ItemKnown g (here p l k) i
      by_item (statement_item u) n ns items h k same less typed = item_known n k same less typed (statement_item u) h.0
      by_item (function_call at d es) n ns items h k same less typed = item_known n k same less typed (function_call at d es) h.0
      by_item (start_item u) n ns items h k same less typed = item_known n k same less typed (start_item u) h.0
      by_item (until ss e) n ns items h k same less typed = tt
      by_item (successor at j z d b u) n ns items h k same less typed = tt
      by_item (return o) n ns items h k same less typed = tt
      by_item (init_end j) n ns items h k same less typed = tt
      by_item end n ns items h k same less typed = tt
