-- What the rules say of the calls, of `delay` and of `continue` in statements that break none.
use Rattle.std.proofs.Common.{◌≡◌, ℕ, Bool, true, false, if◌then◌else◌, List, [], ◌∷◌, ◌++◌, Option, Some, None, Ok, refl, sym, subst}
use Rattle.cp_resolved.proofs.Words.{ValueType, Predeclared, Use, both_uses}
use Rattle.cp_resolved.proofs.Words.{Context, Operand, Named, Scope, Item}
use Rattle.cp_resolved.proofs.Words.{expression_calls, expressions_calls, designator_calls, C12}
use Rattle.cp_tree.specs.Syntax.{Designator, Start, Statement, empty, assign, invoke, block, if_then, if_else, case_of, while_do, repeat_until, for_do, cycle, init, asserted, Statements, no_statements, more_statements, Arms, no_arms, more_arms, Arm, arm}
use Rattle.cp_scope.specs.declared.fault.CheckFault.TheVariants as check_fault
use Rattle.cp_scope.specs.declared.types.ValueType.TheVariants as types
use Rattle.cp_scope.specs.declared.types.Predeclared.TheVariants as predeclared
use Rattle.cp_scope.specs.Scopes.{Scopes, heading_at, shape_in, as_need}
use Rattle.cp_check.specs.declared.operand.DesignatedName as check_designated
use Rattle.cp_check.specs.declared.operand.Named.TheVariants as name
use Rattle.cp_check.specs.Calls as calls
use Rattle.cp_check.specs.Expressions.{designator}
use Rattle.cp_check.specs.Statements as statements
use Rattle.cp_resolved.specs.Typed.{IsSmallDesignator}
use Rattle.cp_resolved.proofs.agreeing.Agreeing.{none_right}
use Rattle.cp_resolved.proofs.statements.CallsJudged.{Below, first_below, second_below, AreBelow, total_below, unless_ok, OwnCall, CalledOk, called_ok, called_below, own_call, entry_call}
use Rattle.cp_resolved.proofs.statements.ExpressionsJudged.{AllSaid}
use Rattle.cp_resolved.proofs.agreeing.WithoutFaults.{ok_same}

module _ (s : Scopes) (w : Context) (f : Bool) (scope : Scope) where
  -- ---- what is said of a statement, and of those inside it

  abbrev pub InvokedAs : Named → Type 0
  InvokedAs (name.Routine n) = OwnCall s w f n
  InvokedAs (name.Entry n) = (heading_at n s).is_entry ≡ true
  InvokedAs (name.Predeclared predeclared.Delay) = (statements.may_wait s w predeclared.Delay ≡ true) × (f ≡ true)
  InvokedAs (name.Predeclared predeclared.Continue) = statements.may_wait s w predeclared.Continue ≡ true
  InvokedAs n = Unit {0}

  -- what may be called as a statement
  abbrev pub IsInvoked : Named → Type 0
  IsInvoked (name.Routine n) = Unit {0}
  IsInvoked (name.Entry n) = Unit {0}
  IsInvoked (name.Predeclared p) = Unit {0}
  IsInvoked n = ⊥

  pub record InvokeSaid (d : Designator) : Type 0 where
    pub small : IsSmallDesignator d
    pub value : check_designated.DesignatedName
    pub is : designator s w d ≡ Ok value
    pub kind : IsInvoked value.named
    pub invoked : InvokedAs value.named

  abbrev pub Said : List Item → Type 0
  Said is = AllSaid s w f scope is

  abbrev pub StartsSaid : List Start → Type 0
  StartsSaid [] = Unit {0}
  StartsSaid (t ∷ ts) = Said (designator_calls scope t.target ++ expressions_calls scope t.arguments) × StartsSaid ts

  abbrev mutual
    pub StatementSaid : Statement → Type 0
    StatementSaid (empty at) = Unit {0}
    StatementSaid (assign at d e) = Said (designator_calls scope d ++ expression_calls scope e)
    StatementSaid (invoke at d es) = InvokeSaid d × Said (designator_calls scope d ++ expressions_calls scope es)
    StatementSaid (block at ss) = StatementsSaid ss
    StatementSaid (if_then at e t) = Said (expression_calls scope e) × StatementSaid t
    StatementSaid (if_else at e t u) = Said (expression_calls scope e) × StatementSaid t × StatementSaid u
    StatementSaid (case_of at e as' b) = Said (expression_calls scope e) × ArmsSaid as'
    StatementSaid (while_do at e t) = Said (expression_calls scope e) × StatementSaid t
    StatementSaid (repeat_until at ss e) = StatementsSaid ss × Said (expression_calls scope e)
    StatementSaid (for_do at i e d g t) = Said (expression_calls scope e ++ expression_calls scope g) × StatementSaid t
    StatementSaid (cycle at ss) = StatementsSaid ss
    StatementSaid (init at ts) = StartsSaid ts
    StatementSaid (asserted at k e t) = Said (expression_calls scope e) × StatementSaid t

    pub StatementsSaid : Statements → Type 0
    StatementsSaid no_statements = Unit {0}
    StatementsSaid (more_statements t ts) = StatementSaid t × StatementsSaid ts

    pub ArmsSaid : Arms → Type 0
    ArmsSaid no_arms = Unit {0}
    ArmsSaid (more_arms a as') = ArmSaid a × ArmsSaid as'

    pub ArmSaid : Arm → Type 0
    ArmSaid (arm cs t) = StatementSaid t

  -- ---- calls of procedures

  -- a procedure has no result
  pub procedure_is : (at name_at : ℕ) (b : Bool) (n : ℕ) (os : List Operand) (u r : Use) → statements.check_procedure_call s w at name_at b n os u ≡ Ok r → calls.check_routine_call s w at name_at b n os u ≡ Ok r
  unfolding statements.check_procedure_call
  procedure_is at name_at b n os u r is = go (heading_at n s).result is
    where
      go : (v : Option ValueType) → statements.procedure_of s w at name_at b n os u v ≡ Ok r → calls.check_routine_call s w at name_at b n os u ≡ Ok r
      go None i = i
      go (Some v) i = absurd (cc)

  may : (at : ℕ) (b : Bool) → (if b then [] else calls.fault at C12) ≡ [] → b ≡ true
  may at true e = refl
  may at false e = absurd (let bad : check_fault.Rule at C12 ∷ [] ≡ [] = e in cc)

  may_be : (b : Bool) → (b ≡ false → true ≡ false) → b ≡ true
  may_be true h = refl
  may_be false h = absurd (let bad : true ≡ false = h refl in cc)

  record PerformedOk (p : Predeclared) (os : List Operand) (u : Use) : Type 0 where
    invoked : InvokedAs (name.Predeclared p)
    below : Below f u

  performed_ok : (at : ℕ) (p : Predeclared) (os : List Operand) (u r : Use) → Below f r → statements.check_standard_call s w at p os u ≡ Ok r → PerformedOk p os u
  performed_ok at predeclared.Display os u r h is = record { invoked = tt; below = subst (Below f) (sym (unless_ok (statements.display_faults at os) u r is).1) h }
  performed_ok at predeclared.Delay os u r h is =
      let x = unless_ok (statements.waiting_faults s w at predeclared.Delay os) (both_uses u statements.one_delay) r is in
      let low : Below f (both_uses u statements.one_delay) = subst (Below f) (sym x.1) h in
      record { invoked = (may at (statements.may_wait s w predeclared.Delay) (none_right (statements.queue_faults at os) _ x.0), may_be f (second_below f u statements.one_delay low)); below = first_below f u statements.one_delay low }
  performed_ok at predeclared.Continue os u r h is =
      let x = unless_ok (statements.waiting_faults s w at predeclared.Continue os) u r is in
      record { invoked = may at (statements.may_wait s w predeclared.Continue) (none_right (statements.queue_faults at os) _ x.0); below = subst (Below f) (sym x.1) h }
  performed_ok at x os u r h is = absurd (cc)

  pub record NamedOk (d : check_designated.DesignatedName) (n : Named) (os : List Operand) : Type 0 where
    pub kind : IsInvoked n
    pub invoked : InvokedAs n
    pub first : Below f d.uses
    pub others : AreBelow f os

  pub named_ok : (at : ℕ) (d : check_designated.DesignatedName) (os : List Operand) (n : Named) (r : Use) → Below f r → statements.check_call_of s w at d os n ≡ Ok r → NamedOk d n os
  named_ok at d os (name.Predeclared p) r h is =
      let x : PerformedOk p os (calls.total_use d.uses os) = performed_ok at p os (calls.total_use d.uses os) r h is in
      let y = total_below f d.uses os x.below in
      record { kind = tt; invoked = x.invoked; first = y.0; others = y.1 }
  named_ok at d os (name.Routine n) r h is =
      let x : CalledOk s w f true n os d.uses r = called_ok s w f at d.name_at true n os d.uses r (procedure_is at d.name_at true n os d.uses r is) in
      let y = called_below s w f true n os d.uses r x h in
      record { kind = tt; invoked = own_call s w f n os d.uses r x h; first = y.0; others = y.1 }
  named_ok at d os (name.Entry n) r h is =
      let x : CalledOk s w f false n os d.uses r = called_ok s w f at d.name_at false n os d.uses r (procedure_is at d.name_at false n os d.uses r is) in
      let y = called_below s w f false n os d.uses r x h in
      record { kind = tt; invoked = entry_call s w f n os d.uses r x; first = y.0; others = y.1 }
  named_ok at d os x r h is = absurd (cc)

  -- ---- starts

  component_below : (at : ℕ) (d : check_designated.DesignatedName) (os : List Operand) (v : ValueType) (r : Use) → Below f r → statements.check_start_of s at d os (name.Variable v) ≡ Ok r → Below f d.uses × AreBelow f os
  component_below at d os (types.Component k n) r h is =
      let x = unless_ok (calls.fit_faults at (heading_at n s).parameters os) (both_uses (calls.total_use d.uses os) (statements.start_use (statements.start_need k (as_need (shape_in n s.shapes))))) r is in
      total_below f d.uses os (first_below f (calls.total_use d.uses os) (statements.start_use (statements.start_need k (as_need (shape_in n s.shapes)))) (subst (Below f) (sym x.1) h))
  component_below at d os x r h is = absurd (cc)

  pub started_below : (at : ℕ) (d : check_designated.DesignatedName) (os : List Operand) (n : Named) (r : Use) → Below f r → statements.check_start_of s at d os n ≡ Ok r → Below f d.uses × AreBelow f os
  started_below at d os (name.Variable v) r h is = component_below at d os v r h is
  started_below at d os x r h is = absurd (cc)

  -- ---- statements

  pub together_below : (q : Use × Use) (r : Use) → statements.together q ≡ Ok r → Below f r → Below f q.0 × Below f q.1
  together_below q r is h =
      let low : Below f (both_uses q.0 q.1) = subst (Below f) (sym (ok_same (both_uses q.0 q.1) r is)) h in
      (first_below f q.0 q.1 low, second_below f q.0 q.1 low)

  pub initial_same : (at : ℕ) (o : Option ℕ) (u r : Use) → statements.initial_in at o u ≡ Ok r → u ≡ r
  initial_same at None u r e = ok_same u r e
  initial_same at (Some n) u r e = absurd (cc)
