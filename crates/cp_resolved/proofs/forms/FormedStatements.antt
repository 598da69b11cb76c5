-- Statements that break no rule have the forms that they want.
use Rattle.std.proofs.Common.{◌≡◌, ℕ, Bool, true, false, if◌then◌else◌, List, [], ◌∷◌, Ok, Err, refl, sym, ap, subst, ◌∙◌}
use Rattle.cp_resolved.proofs.Words.{CheckFault, Range, ValueType, Use, agree, is_ordinal}
use Rattle.cp_resolved.proofs.Words.{Judged, both, ◌>>=◌, faults, Context, Operand, OperandUse, Label, is_queue_in, expression}
use Rattle.cp_resolved.proofs.Words.{arguments, Here}
use Rattle.cp_tree.specs.Syntax.{Expression, Expressions, no_expressions, more_expressions}
use Rattle.cp_scope.specs.declared.types.ValueType.TheVariants as types
use Rattle.cp_scope.specs.declared.types.Predeclared.TheVariants as predeclared
use Rattle.cp_scope.specs.Scopes.{Scopes}
use Rattle.cp_check.specs.Expressions as expressions
use Rattle.cp_scope.specs.declared.fault.Rule.TheVariants.{C5, C21}
use Rattle.cp_check.specs.Calls as calls
use Rattle.cp_check.specs.Calls.{unless}
use Rattle.cp_check.specs.Cases as cases
use Rattle.cp_check.specs.Statements as statements
use Rattle.cp_meaning_laws.proofs.Loud.{Loud, Heard}
use Rattle.cp_meaning.specs.Scopes as scopes
use Rattle.cp_resolved.specs.Compiled.{expression_form}
use Rattle.cp_resolved.specs.Formed.{HasOrdinal, HasQueue, IsPerformed}
use Rattle.cp_resolved.specs.Typed.{Tokens, Written, predeclared_of, ScopesAgree, Expressed, HasForm, IsSmallExpression, AreSmallExpressions}
use Rattle.cp_resolved.proofs.forms.Typing.{OrdinalForm, ordinal_found, QueueForm, queue_found}
use Rattle.cp_resolved.proofs.forms.TypingNames.{written}
use Rattle.cp_resolved.proofs.forms.TypingExpressions.{expression_typed}
use Rattle.cp_resolved.proofs.agreeing.Agreeing.{none_left}

-- ---- what has no fault

pub record Right {A : Type 0} (j : Judged A) : Type 0 where
  pub value : A
  pub is : j ≡ Ok value

pub right_of : {A : Type 0} (j : Judged A) → Loud j → faults j ≡ [] → Right j
right_of (Ok x) h e = record { value = x; is = refl }
right_of (Err []) h e = absurd h
right_of (Err (f ∷ fs)) h e = absurd (let bad : f ∷ fs ≡ [] = e in cc)

-- ---- types that agree

pub ordinal_is : (v : ValueType) → is_ordinal v ≡ true → (r : Range) × (v ≡ types.Ordinal r)
ordinal_is (types.Ordinal r) h = (r, refl)
ordinal_is x h = absurd (let bad : false ≡ true = h in cc)

pub agree_ordinal : (r : Range) (v : ValueType) → agree (types.Ordinal r) v ≡ true → (q : Range) × (v ≡ types.Ordinal q)
agree_ordinal r (types.Ordinal q) h = (q, refl)
agree_ordinal r x h = absurd (let bad : false ≡ true = h in cc)

module _ (tokens : Tokens) (s : Scopes) (h : Here) (w : Context) (agrees : ScopesAgree tokens s h) (heard : Heard s) where
  abbrev W : Written
  W = written tokens s h

  -- ---- expressions

  pub ordinal_formed : (e : Expression) (v : ValueType) → Expressed W v (expression_form h e) → is_ordinal v ≡ true → HasOrdinal h e
  ordinal_formed e v x i =
      let r = ordinal_is v i in
      let f : OrdinalForm tokens r.0 (expression_form h e) = ordinal_found W r.0 (expression_form h e) (subst (λ u. Expressed W u (expression_form h e)) r.1 x) in
      record { range = f.range; code = f.code; formed = f.is }

  -- ---- cases

  rules_none : {A : Type 0} (fs : List CheckFault) (x : A) → faults (unless fs x) ≡ [] → fs ≡ []
  rules_none [] x e = refl
  rules_none (f ∷ fs) x e = e

  pub selector_ordinal : (at : ℕ) (v : ValueType) (ls : List Label) → cases.label_faults at v ls ≡ [] → is_ordinal v ≡ true
  selector_ordinal at (types.Ordinal r) ls e = refl
  selector_ordinal at x ls e = absurd (cc)

  -- ---- the standard procedures

  -- the first argument, and those after it
  record First (e : Expression) (rest : Judged (List Operand)) (os : List Operand) : Type 0 where
    pub operand : Operand
    pub others : List Operand
    pub all : os ≡ operand ∷ others
    pub is : expression s w false e ≡ Ok operand
    pub after : rest ≡ Ok others

  same_list : (xs ys : List Operand) → Ok xs ≡ (let j : Judged (List Operand) = Ok ys in j) → xs ≡ ys
  same_list xs ys e = cc

  first_of : (e : Expression) (j : Judged Operand) (k : Judged (List Operand)) (os : List Operand) → expression s w false e ≡ j → (both j k >>= expressions.before) ≡ Ok os → First e k os
  first_of e (Ok o) (Ok rest) os i g = record { operand = o; others = rest; all = sym (same_list (o ∷ rest) os g); is = i; after = refl }
  first_of e (Err fs) (Err gs) os i g = absurd (cc)
  first_of e x y os i g = absurd (cc)

  typed_of : (e : Expression) (o : Operand) → IsSmallExpression e → expression s w false e ≡ Ok o → Expressed W o.value_type (expression_form h e)
  typed_of e o small i = subst (λ (j : Judged Operand). HasForm W j (expression_form h e)) i (expression_typed tokens s h w agrees e small)

  queue_formed : (e : Expression) (v : ValueType) (p : OperandUse) → Expressed W v (expression_form h e) → is_queue_in v p ≡ true → HasQueue h e
  queue_formed e types.Queue p x i = let f : QueueForm (expression_form h e) = queue_found W (expression_form h e) x in record { place = f.place; formed = f.is }
  queue_formed e y p x i = absurd (cc)

  shown_one : (at : ℕ) (os : List Operand) → statements.display_faults at os ≡ [] → (o : Operand) × ((os ≡ o ∷ []) × (is_ordinal o.value_type ≡ true))
  shown_one at (o ∷ []) e = (o, (refl, go (is_ordinal o.value_type) e))
    where
      go : (b : Bool) → (if b then [] else calls.fault o.at C21) ≡ [] → b ≡ true
      go true k = refl
      go false k = absurd (cc)
  shown_one at x e = absurd (cc)

  queued_one : (at : ℕ) (os : List Operand) → statements.queue_faults at os ≡ [] → (o : Operand) × ((os ≡ o ∷ []) × (is_queue_in o.value_type o.place ≡ true))
  queued_one at (o ∷ []) e = (o, (refl, go (is_queue_in o.value_type o.place) e))
    where
      go : (b : Bool) → (if b then [] else calls.fault at C5) ≡ [] → b ≡ true
      go true k = refl
      go false k = absurd (cc)
  queued_one at x e = absurd (cc)

  one_only : (o p : Operand) (rest : List Operand) → p ∷ rest ≡ o ∷ [] → (p ≡ o) × (rest ≡ [])
  one_only o p rest e = (ap (head_or o) e, ap tail_of e)
    where
      head_or : Operand → List Operand → Operand
      head_or d [] = d
      head_or d (x ∷ xs) = x

      tail_of : List Operand → List Operand
      tail_of [] = []
      tail_of (x ∷ xs) = xs

  -- a procedure with one argument
  one_argument : (P : Expression → Type 0) (K : Expressions → Type 0) (o : Operand) (es : Expressions) (os : List Operand) → arguments s w [] 0 es ≡ Ok os → os ≡ o ∷ [] → AreSmallExpressions es → ((e : Expression) → Expressed W o.value_type (expression_form h e) → P e) → ((e : Expression) → P e → K (more_expressions e no_expressions)) → K es
  unfolding expression
  one_argument P K o no_expressions os i one small f k = absurd (let bad : [] ≡ o ∷ [] = same_list [] os i ∙ one in cc)
  one_argument P K o (more_expressions e no_expressions) os i one small f k =
      let r : First e (Ok []) os = first_of e (expression s w false e) (Ok []) os refl i in
      let same = one_only o r.operand r.others (sym r.all ∙ one) in
      k e (f e (subst (λ (p : Operand). Expressed W p.value_type (expression_form h e)) same.0 (typed_of e r.operand small.0 r.is)))
  one_argument P K o (more_expressions e (more_expressions g es)) os i one small f k =
      let r = first_of e (expression s w false e) (arguments s w [] 1 (more_expressions g es)) os refl i in
      let same = one_only o r.operand r.others (sym r.all ∙ one) in
      let q = first_of g (expression s w false g) (arguments s w [] 2 es) r.others refl r.after in
      absurd (let bad : q.operand ∷ q.others ≡ [] = sym q.all ∙ same.1 in cc)

  pub performed_formed : (at : ℕ) (q : scopes.Standard) (es : Expressions) (os : List Operand) (u : Use) → AreSmallExpressions es → arguments s w [] 0 es ≡ Ok os → faults (statements.check_standard_call s w at (predeclared_of q) os u) ≡ [] → IsPerformed h q es
  performed_formed at scopes.display_procedure es os u small i none =
      let o = shown_one at os (rules_none (statements.display_faults at os) u none) in
      one_argument (HasOrdinal h) (IsPerformed h scopes.display_procedure) o.0 es os i o.1.0 small (λ e x. ordinal_formed e o.0.value_type x o.1.1) (λ e p. p)
  performed_formed at scopes.delay_procedure es os u small i none =
      let o = queued_one at os (none_left (statements.queue_faults at os) (statements.wait_faults s w at predeclared.Delay) (rules_none (statements.waiting_faults s w at predeclared.Delay os) _ none)) in
      one_argument (HasQueue h) (IsPerformed h scopes.delay_procedure) o.0 es os i o.1.0 small (λ e x. queue_formed e o.0.value_type o.0.place x o.1.1) (λ e p. p)
  performed_formed at scopes.continue_procedure es os u small i none =
      let o = queued_one at os (none_left (statements.queue_faults at os) (statements.wait_faults s w at predeclared.Continue) (rules_none (statements.waiting_faults s w at predeclared.Continue os) _ none)) in
      one_argument (HasQueue h) (IsPerformed h scopes.continue_procedure) o.0 es os i o.1.0 small (λ e x. queue_formed e o.0.value_type o.0.place x o.1.1) (λ e p. p)
  performed_formed at x es os u small i none = absurd (cc)
