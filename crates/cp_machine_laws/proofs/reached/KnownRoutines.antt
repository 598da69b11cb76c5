-- Of every tree that was read and breaks no rule: what the rules of the language say of calls, `delay` and `continue` in the bodies of its routines.
use Rattle.std.proofs.lemmas.Option.{same_Some}
use Rattle.std.proofs.Common.{◌≡◌, ◌∙◌, inl, inr, ℕ, Bool, true, false, List, [], ◌∷◌, Option, Some, None, ap, sym, refl, subst}
use Rattle.cp_machine_laws.proofs.Words.{not, IsRead, IsAccepted, RoutineMeaning, name_of, routine_called, first_components, Layouts, layouts_of, calls_before}
use Rattle.cp_tree.specs.Syntax.{Expressions, Designator, Start, Statement, assign, invoke, block, if_then, if_else, case_of, while_do, repeat_until, for_do, cycle, init, asserted, nameless, Statements, no_statements, more_statements, Arms, no_arms, more_arms, arm, Program, Tree}
use Rattle.cp_meaning.specs.Declarations.{routine_in}
use Rattle.cp_meaning.specs.Expressions.{routine_meant}
use Rattle.cp_meaning.specs.Lifting.{is_routine_meant, has_invariants}
use Rattle.cp_meaning.specs.Scopes.{since, Meaning, routine_meaning, standard_meaning, delay_procedure, continue_procedure, Scope, find}
use Rattle.cp_meaning.specs.State.{component_at, Item, statement_item, function_call, start_item, until, successor}
use Rattle.cp_resolved.proofs.statements.CalleesKnown.{IsCalledAs, CalleeKnown, numbered}
use Rattle.cp_resolved.proofs.statements.CallsKnown as calls_known
use Rattle.cp_resolved.proofs.statements.ChecksKnown.{check_callee}
use Rattle.cp_resolved.proofs.statements.ExpressionsJudged.{FunctionSaid, AllSaid}
use Rattle.cp_resolved.proofs.statements.RoutinesNoted.{entry_at, waits_at}
use Rattle.cp_resolved.proofs.statements.StatementsJudged.{InvokeSaid, StartsSaid, StatementSaid, StatementsSaid, ArmsSaid}
use Rattle.cp_machine_laws.specs.Bodies.{IsAmong, IsAmongArms, IsPartOf, IsWithin, listed, inside, IsAmongItems, IsAmongStarts, check_name, OwnStands, ItemStands}
use Rattle.cp_machine_laws.specs.RoutinesKnown.{Traits, scope_of, body_of, CalledAs, Callee, Initial, RoutinesKnown}
use Rattle.cp_machine.proofs.CallOutcomes.{not_true as of_quiet}

-- ---- traits

-- entries are the routines that are declared as such; quiet are those in which the rules find no `delay`, their own or that of a routine that they call
abbrev pub traits : Tree → Traits
traits t = record { entry = entry_at t.program; quiet = λ n. not (waits_at t.program n) }

quiet_of : (b : Bool) → b ≡ false → not b ≡ true
quiet_of false e = refl
quiet_of true e = absurd (let bad : true ≡ false = e in cc)

called_as : (t : Tree) (n k : ℕ) (m : Option Meaning) → IsCalledAs t.program n k m → CalledAs (traits t) n k m
called_as t n k (Some (routine_meaning y)) h = (h.0, λ e. quiet_of (waits_at t.program k) (h.1 (of_quiet (waits_at t.program n) e)))
called_as t n k _ h = h

-- ---- all routines

module _ (t : Tree) (read : IsRead t.program) (ok : IsAccepted t) where
  abbrev p : Program
  p = t.program

  abbrev l : Layouts
  l = layouts_of t

  -- of the statements of a number
  module _ (n : ℕ) where
    -- where its statements stand, and what the rules have found of them
    abbrev own : RoutineMeaning
    own = (calls_known.a t read ok n).opening.meaning

    abbrev scope : Scope
    scope = own.scope

    same : l.meanings n ≡ own
    same = (calls_known.a t read ok n).means

    abbrev IsBodySaid : Statements → Type 0
    IsBodySaid = StatementsSaid (calls_known.s t read ok n) (calls_known.w t read ok n) (calls_known.f t read ok n) scope

    abbrev IsSaid : Statement → Type 0
    IsSaid = StatementSaid (calls_known.s t read ok n) (calls_known.w t read ok n) (calls_known.f t read ok n) scope

    abbrev AreArmsSaid : Arms → Type 0
    AreArmsSaid = ArmsSaid (calls_known.s t read ok n) (calls_known.w t read ok n) (calls_known.f t read ok n) scope

    abbrev AreStartsSaid : List Start → Type 0
    AreStartsSaid = StartsSaid (calls_known.s t read ok n) (calls_known.w t read ok n) (calls_known.f t read ok n) scope

    abbrev AreCallsSaid : List Item → Type 0
    AreCallsSaid = AllSaid (calls_known.s t read ok n) (calls_known.w t read ok n) (calls_known.f t read ok n) scope

    abbrev IsFunctionSaid : Designator → Type 0
    IsFunctionSaid = FunctionSaid (calls_known.s t read ok n) (calls_known.w t read ok n) (calls_known.f t read ok n) scope

    abbrev IsInvokeSaid : Designator → Type 0
    IsInvokeSaid = InvokeSaid (calls_known.s t read ok n) (calls_known.w t read ok n) (calls_known.f t read ok n) scope

    -- ---- what is said of all statements of a body is said of one

    among_said : (t : Statement) (ss : Statements) → IsBodySaid ss → IsAmong t ss → IsSaid t
    among_said t no_statements h k = absurd k
    among_said t (more_statements u us) h (inl e) = subst IsSaid (sym e) h.0
    among_said t (more_statements u us) h (inr k) = among_said t us h.1 k

    arm_said : (t : Statement) (as' : Arms) → AreArmsSaid as' → IsAmongArms t as' → IsSaid t
    arm_said t no_arms h k = absurd k
    arm_said t (more_arms (arm cs u) as') h (inl e) = subst IsSaid (sym e) h.0
    arm_said t (more_arms (arm cs u) as') h (inr k) = arm_said t as' h.1 k

    part_said : (t u : Statement) → IsPartOf t u → IsSaid u → IsSaid t
    part_said t (block at ss) k h = among_said t ss h k
    part_said t (if_then at e u) k h = subst IsSaid (sym k) h.1
    part_said t (if_else at e u v) (inl k) h = subst IsSaid (sym k) h.1
    part_said t (if_else at e u v) (inr k) h = subst IsSaid (sym k) h.2
    part_said t (case_of at e as' b) k h = arm_said t as' h.1 k
    part_said t (while_do at e u) k h = subst IsSaid (sym k) h.1
    part_said t (repeat_until at ss e) k h = among_said t ss h.0 k
    part_said t (for_do at i e d g u) k h = subst IsSaid (sym k) h.1
    part_said t (cycle at ss) k h = among_said t ss h k
    part_said t (asserted at j e u) k h = subst IsSaid (sym k) h.1
    part_said t _ k h = absurd k

    within_said : (body : Statements) (t : Statement) → IsBodySaid body → IsWithin body t → IsSaid t
    within_said body _ h (listed t k) = among_said t body h k
    within_said body _ h (inside t u k v) = part_said t u k (within_said body u h v)

    -- ---- function calls

    start_said : (t : Start) (ts : List Start) → AreStartsSaid ts → IsAmongStarts t ts → AreCallsSaid (calls_before scope (start_item t))
    start_said t [] h k = absurd k
    start_said t (u ∷ us) h (inl e) = subst (λ (x : Start). AreCallsSaid (calls_before scope (start_item x))) (sym e) h.0
    start_said t (u ∷ us) h (inr k) = start_said t us h.1 k

    statement_said : (t : Statement) → IsSaid t → AreCallsSaid (calls_before scope (statement_item t))
    statement_said (assign at d e) h = h
    statement_said (invoke at d es) h = h.1
    statement_said (if_then at e t) h = h.0
    statement_said (if_else at e t u) h = h.0
    statement_said (case_of at e as' b) h = h.0
    statement_said (while_do at e t) h = h.0
    statement_said (for_do at i e d g t) h = h.0
    statement_said (asserted at k e t) h = h.0
    statement_said _ h = tt

    before_said : (body : Statements) (i : Item) → IsBodySaid body → OwnStands scope body i → AreCallsSaid (calls_before scope i)
    before_said body (statement_item t) h (inl k) = statement_said t (within_said body t h k)
    before_said body (statement_item t) h (inr k) = subst (λ (u : Statement). AreCallsSaid (calls_before scope (statement_item u))) (sym k.2) tt
    before_said body (start_item t) h k = start_said t k.1 (within_said body (init k.0 k.1) h k.2) k.3
    before_said body (until ss e) h k = (within_said body (repeat_until k.0 ss e) h k.1).1
    before_said body (successor at i z d b t) h k = tt
    before_said body _ h k = absurd k

    call_said : (at : ℕ) (d : Designator) (es : Expressions) (items : List Item) → AreCallsSaid items → IsAmongItems (function_call at d es) items → IsFunctionSaid d
    call_said at d es [] h k = absurd k
    call_said at d es (function_call n c fs ∷ items) h (inl e) = subst IsFunctionSaid (let same : function_call n c fs ≡ function_call at d es = sym e in cc) h.0
    call_said at d es (function_call n c fs ∷ items) h (inr k) = call_said at d es items h.1 k
    call_said at d es _ h k = absurd h

    function_said : (body : Statements) (at : ℕ) (d : Designator) (es : Expressions) → IsBodySaid body → ItemStands scope body (function_call at d es) → IsFunctionSaid d
    function_said body at d es h k = call_said at d es (calls_before scope k.0) (before_said body k.0 h k.1) k.2

    invoke_said : (body : Statements) (at : ℕ) (d : Designator) (es : Expressions) → IsBodySaid body → IsWithin body (invoke at d es) → IsInvokeSaid d
    invoke_said body at d es h k = (within_said body (invoke at d es) h k).0

    -- ---- what is known

    callee : (d : Designator) (r : RoutineMeaning) → CalleeKnown p n (find (name_of d) own.scope) r → Callee l (traits t) n d r
    callee d r c =
        record {
          number = c.number;
          same = c.same;
          called = subst (λ (m : RoutineMeaning). CalledAs (traits t) n c.number (find (name_of d) m.scope)) (sym same) (called_as t n c.number (find (name_of d) own.scope) c.called);
        }

    pub function_there : (at : ℕ) (d : Designator) (es : Expressions) → ItemStands (scope_of l n) (body_of l n) (function_call at d es) → IsFunctionSaid d
    function_there at d es w =
        function_said own.body at d es (calls_known.said t read ok n) (subst (λ (m : RoutineMeaning). ItemStands m.scope m.body (function_call at d es)) same w)

    pub invoke_there : (at : ℕ) (d : Designator) (es : Expressions) → IsWithin (body_of l n) (invoke at d es) → IsInvokeSaid d
    invoke_there at d es w = invoke_said own.body at d es (calls_known.said t read ok n) (subst (λ (m : RoutineMeaning). IsWithin m.body (invoke at d es)) same w)

    called_there : (d : Designator) (r : RoutineMeaning) → routine_called p (scope_of l n) d ≡ Some r → routine_called p own.scope d ≡ Some r
    called_there d r e = sym (ap (λ (m : RoutineMeaning). routine_called p m.scope d) same) ∙ e

    found_there : (d : Designator) (o : Option Meaning) → find (name_of d) (scope_of l n) ≡ o → find (name_of d) own.scope ≡ o
    found_there d o e = sym (ap (λ (m : RoutineMeaning). find (name_of d) m.scope) same) ∙ e

    function_known : (at : ℕ) (d : Designator) (es : Expressions) (r : RoutineMeaning) → ItemStands (scope_of l n) (body_of l n) (function_call at d es) → routine_called p (scope_of l n) d ≡ Some r → Callee l (traits t) n d r × (r.result ≡ None → ⊥)
    function_known at d es r w e =
        let x : CalleeKnown p n (find (name_of d) own.scope) r × (r.result ≡ None → ⊥) = calls_known.function_callee t read ok n d r (function_there at d es w) (called_there d r e) in
        (callee d r x.0, x.1)

    procedure_known : (at : ℕ) (d : Designator) (es : Expressions) (r : RoutineMeaning) → IsWithin (body_of l n) (invoke at d es) → routine_called p (scope_of l n) d ≡ Some r → Callee l (traits t) n d r
    procedure_known at d es r w e = callee d r (calls_known.procedure_callee t read ok n d r (invoke_there at d es w) (called_there d r e))

    -- a check calls the routine of the invariants, in which nobody waits
    check_known : (at : ℕ) (r : RoutineMeaning) → has_invariants (scope_of l n) ≡ true → routine_called p (scope_of l n) (check_name at) ≡ Some r → Callee l (traits t) n (check_name at) r
    check_known at r has e = go (find nameless (scope_of l n)) refl has e
      where
        go : (m : Option Meaning) → find nameless (scope_of l n) ≡ m → is_routine_meant m ≡ true → routine_meant p (scope_of l n) nameless m None ≡ Some r → Callee l (traits t) n (check_name at) r
        go (Some (routine_meaning q)) is there meant =
            let c : CalleeKnown p n (Some (routine_meaning q)) (routine_in (since nameless (scope_of l n)) q) = check_callee t read ok n q is in
            let same : routine_in (since nameless (scope_of l n)) q ≡ r = same_Some (routine_in (since nameless (scope_of l n)) q) r meant in
            record { number = c.number; same = sym same ∙ c.same; called = subst (CalledAs (traits t) n c.number) (sym is) (called_as t n c.number (Some (routine_meaning q)) c.called) }
        go _ is never meant = absurd (let bad : false ≡ true = never in cc)

    delay_known : (at : ℕ) (d : Designator) (es : Expressions) → IsWithin (body_of l n) (invoke at d es) → find (name_of d) (scope_of l n) ≡ Some (standard_meaning delay_procedure) → (traits t).quiet n ≡ false
    delay_known at d es w e = ap not (calls_known.delay_waits t read ok n d (invoke_there at d es w) (found_there d (Some (standard_meaning delay_procedure)) e))

    continue_known : (at : ℕ) (d : Designator) (es : Expressions) → IsWithin (body_of l n) (invoke at d es) → find (name_of d) (scope_of l n) ≡ Some (standard_meaning continue_procedure) → ((traits t).entry n ≡ true) × ((l.meanings n).result ≡ None)
    continue_known at d es w e =
        let x = calls_known.continue_entry t read ok n d (invoke_there at d es w) (found_there d (Some (standard_meaning continue_procedure)) e) in
        (x.0, ap (λ (m : RoutineMeaning). m.result) same ∙ x.1)

  initial_known : (d : ℕ) → Initial p l (traits t) d
  initial_known d =
      let i = (numbered t read ok (component_at (first_components p) d).system).initial in
      record { number = i.number; same = i.means; entry = i.entry; quiet = quiet_of (waits_at p i.number) i.waits }

  pub routines_known : RoutinesKnown p l (traits t)
  routines_known = record { functions = function_known; procedures = procedure_known; checks = check_known; initials = initial_known; delays = delay_known; continues = continue_known }
