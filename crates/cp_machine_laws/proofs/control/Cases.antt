-- The step of `case`: the same arm is chosen on names and on slots, or none.
use Rattle.std.proofs.Common.{◌≡◌, ◌∙◌, ℕ, Bool, true, false, if◌then◌else◌, List, [], ◌∷◌, ◌++◌, map, Option, None, ap, sym, refl, subst, arith}
use Rattle.cp_machine_laws.proofs.Words.{ℤ, ◌||◌, Result, Ok, Err, slice_index, int_eq, Vec, Global, ints, Program, Expression, Statement, Arms, no_arms, more_arms, arm}
use Rattle.cp_machine_laws.proofs.Words.{case_of, Action, item_at, Entry, Machine, thread_at, with_stack, memory_at, rest_of, act, step_at, Outcome, ◌>>=◌, Scope, Ty}
use Rattle.cp_machine_laws.proofs.Words.{number_of, Item, statement_item, State, Typed, same_integer, value, items_of, view_of, step_of, settled, Layouts, Here, here, error_of}
use Rattle.cp_machine_laws.proofs.Words.{plain_value, OrdinalAgrees, becomes, has_label, arm_for}
use Rattle.cp_tree.specs.declared.constant.Constant.{Constant}
use Rattle.cp_slots.specs.declared.item.Action.TheVariants as action
use Rattle.cp_slots.specs.declared.item.ResolvedArm as slot_arm
use Rattle.cp_slots.specs.declared.place.OrdinalExpression as code_expression
use Rattle.cp_slots.specs.Code as code
use Rattle.cp_store.specs.declared.error.ErrorName as slots
use Rattle.cp_machine.specs.Statements as statements
use Rattle.cp_meaning.specs.Declarations.{constant_of}
use Rattle.cp_resolved.specs.Stands.{Ground, labels_of, OwnArms, StatementIs}
use Rattle.cp_machine_laws.proofs.control.Control.{Taken, StepIs, takes_item, acts, fails, local_step, scope_is}
use Rattle.cp_machine_laws.proofs.control.Lists.{statement_items}
use Rattle.cp_machine_laws.proofs.expressions.Views.{views_agree}

is_case : (a : Action) (c : code.OrdinalExpression) (arms : List code.Arm) → code.action_seen a ≡ code.select c arms → (x : code_expression.OrdinalExpression) × (v : Vec slot_arm.ResolvedArm Global) × (a ≡ action.Case x v) × (code.expression_seen x ≡ c) × (map code.arm_seen v.items ≡ arms)
is_case (action.Case x v) c arms e = (x, v, refl, cc, cc)
is_case a c arms e = absurd (cc)

-- ---- the arm that has a label

same_either : (a b : ℤ) → same_integer a b ≡ int_eq b a
same_either a b = grind (arith, ints)

labels_same : (s : Scope) (z : ℤ) (cs : List Constant) → has_label s z cs ≡ statements.has_label z (labels_of s cs)
labels_same s z [] = refl
labels_same s z (c ∷ cs) = ap (λ b. b || has_label s z cs) (same_either z (constant_of s c).1) ∙ ap (λ b. int_eq (constant_of s c).1 z || b) (labels_same s z cs)

-- an arm and its list, or no case in both
abbrev ArmAgrees : Ground → Here → Outcome Statement → Result (Option ℕ) slots.ErrorName → Type 0
ArmAgrees g h (Ok t) (Ok list) = StatementIs g h list t None
ArmAgrees g h (Err e) (Err d) = error_of e ≡ d
ArmAgrees g h o r = ⊥

arms_agree : (g : Ground) (h : Here) (z : ℤ) (as' : Arms) (xs : List slot_arm.ResolvedArm) → OwnArms g h as' (map code.arm_seen xs) → ArmAgrees g h (arm_for h.scope z as') (statements.arm_for z xs)
arms_agree g h z no_arms [] k = refl
arms_agree g h z no_arms (x ∷ xs) k = absurd k
arms_agree g h z (more_arms a as') [] k = absurd k
arms_agree g h z (more_arms (arm cs t) as') (x ∷ xs) k =
    subst (λ (b : Bool). ArmAgrees g h (if has_label h.scope z cs then Ok t else arm_for h.scope z as') (if b then Ok x.body else statements.arm_for z xs))
    (labels_same h.scope z cs ∙ ap (statements.has_label z) (sym k.0.0)) (go (has_label h.scope z cs) (arms_agree g h z as' xs k.1))
  where
    go : (b : Bool) → ArmAgrees g h (arm_for h.scope z as') (statements.arm_for z xs) → ArmAgrees g h (if b then Ok t else arm_for h.scope z as') (if b then Ok x.body else statements.arm_for z xs)
    go true rest = k.0.1
    go false rest = rest

-- ---- the step

-- the selector of the item gives the same on names and on slots
abbrev pub SelectorAgrees : Program → State → Machine → ℕ → Expression → Ty → code.OrdinalExpression → Type 0
SelectorAgrees p s m q e t c = OrdinalAgrees (value (view_of p s q) e) t (plain_value (memory_at m q) (thread_at m.threads q).frame c)

module _ (g : Ground) (p : Program) (l : Layouts) (s : State) (m : Machine) (q at token : ℕ) (e : Expression) (as' : Arms) (b : Bool) (mid : Option ℕ) (es : List Entry) (xs ys : List Item) (k : Taken g p l s m q at (statement_item (case_of token e as' b)) mid es xs ys) where
  abbrev line : ℕ
  line = slice_index g.lines token

  abbrev inside : Scope
  inside = (l.meanings (thread_at m.threads q).frame.routine).scope

  abbrev this : Here
  this = here p l (thread_at m.threads q).frame.routine

  -- what the statement becomes, by the value of its selector
  abbrev chosen : Outcome Typed → statements.Stepped → Type 0
  chosen o n = StepIs g p l q line (settled p s q (o >>= λ x. arm_for inside (number_of x.value) as' >>= λ t. becomes (view_of p s q) (items_of inside t ++ (xs ++ ys)))) n

  by_arm : (z : ℤ) (arms : List slot_arm.ResolvedArm) (n : Option ℕ) → n ≡ mid → OwnArms g this as' (map code.arm_seen arms) →
      StepIs g p l q line (settled p s q (arm_for inside z as' >>= λ t. becomes (view_of p s q) (items_of inside t ++ (xs ++ ys)))) (statements.with_value (statements.arm_for z arms) (statements.fault m q line) (λ list. statements.local (with_stack m q (rest_of list (rest_of n es)))))
  by_arm z arms n w own = go (arm_for inside z as') (statements.arm_for z arms) (arms_agree g this z as' arms own)
    where
      go : (o : Outcome Statement) (r : Result (Option ℕ) slots.ErrorName) → ArmAgrees g this o r → StepIs g p l q line (settled p s q (o >>= λ t. becomes (view_of p s q) (items_of inside t ++ (xs ++ ys)))) (statements.with_value r (statements.fault m q line) (λ list. statements.local (with_stack m q (rest_of list (rest_of n es)))))
      go (Ok t) (Ok list) h = local_step g p l s m q at (statement_item (case_of token e as' b)) mid es xs ys k line list (items_of inside t) n w (statement_items g this list None t h)
      go (Err a) (Err d) h = fails g p l s m q at (statement_item (case_of token e as' b)) mid es xs ys k line a d h
      go (Ok t) (Err d) h = absurd h
      go (Err a) (Ok list) h = absurd h

  by_value : (arms : List slot_arm.ResolvedArm) (n : Option ℕ) → n ≡ mid → OwnArms g this as' (map code.arm_seen arms) → (t : Ty) (o : Outcome Typed) (r : Result ℤ slots.ErrorName) → OrdinalAgrees o t r →
      chosen o (statements.with_value r (statements.fault m q line) (λ v. statements.with_value (statements.arm_for v arms) (statements.fault m q line) (λ list. statements.local (with_stack m q (rest_of list (rest_of n es))))))
  by_value arms n w own t (Ok x) (Ok z) h =
      subst (λ (y : ℤ). StepIs g p l q line (settled p s q (arm_for inside y as' >>= λ t. becomes (view_of p s q) (items_of inside t ++ (xs ++ ys)))) (statements.with_value (statements.arm_for z arms) (statements.fault m q line) (λ list. statements.local (with_stack m q (rest_of list (rest_of n es))))))
      (sym (ap number_of h.1)) (by_arm z arms n w own)
  by_value arms n w own t (Err a) (Err d) h = fails g p l s m q at (statement_item (case_of token e as' b)) mid es xs ys k line a d h
  by_value arms n w own t _ _ h = absurd h

  pub case_step : SelectorAgrees p s m q e k.own.1 k.own.0 → StepIs g p l q line (step_of p s q) (step_at g.tables m q)
  case_step selector =
      takes_item g p l s m q at (statement_item (case_of token e as' b)) mid es xs ys k line
      (subst (λ (c : Scope). StepIs g p l q line (settled p s q (value (view_of p s q) e >>= λ x. arm_for c (number_of x.value) as' >>= λ t. becomes (view_of p s q) (items_of c t ++ (xs ++ ys)))) (act g.tables m q at (item_at g.tables at) (item_at g.tables at).action es)) (sym (scope_is g p l s m q at (statement_item (case_of token e as' b)) mid es xs ys k))
      (let a = is_case (item_at g.tables at).action k.own.0 k.own.2 k.own.5.action in
      acts g p l s m q at (statement_item (case_of token e as' b)) mid es xs ys k line token (code.select k.own.0 k.own.2) (action.Case a.0 a.1) _ k.own.5 a.2
      (λ item n d.
      subst (λ (j : ℕ). chosen (value (view_of p s q) e) (statements.case_of m q j a.0 a.1.items (rest_of item.next es))) (sym d)
      (subst (λ (r : Result ℤ slots.ErrorName). chosen (value (view_of p s q) e) (statements.with_value r (statements.fault m q line) (λ v. statements.with_value (statements.arm_for v a.1.items) (statements.fault m q line) (λ list. statements.local (with_stack m q (rest_of list (rest_of item.next es)))))))
      (sym (views_agree.value (memory_at m q) (thread_at m.threads q).frame a.0 ∙ ap (plain_value (memory_at m q) (thread_at m.threads q).frame) a.3))
      (by_value a.1.items item.next n (subst (OwnArms g this as') (sym a.4) k.own.4) k.own.1 (value (view_of p s q) e) (plain_value (memory_at m q) (thread_at m.threads q).frame k.own.0) selector)))))
