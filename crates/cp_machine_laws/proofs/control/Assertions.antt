-- The step of what is said before a statement: it is true, and the statement goes on, or it is a run error.
use Rattle.cp_machine_laws.proofs.Words.{◌≡◌, ◌∙◌, ℕ, Bool, true, false, if◌then◌else◌, List, ◌++◌, append_assoc, Option, None, ap, sym, refl, subst, ℤ, Result, Ok, Err, int_lt}
use Rattle.cp_machine_laws.proofs.Words.{pos, slice_index, Program, Expression, Statement, Action, item_at, Entry, Machine, thread_at, with_stack, memory_at, rest_of, act}
use Rattle.cp_machine_laws.proofs.Words.{step_at, Outcome, ◌>>=◌, Scope, Value, number_of, Item, statement_item, State, Typed, is_true, value, items_of, becomes, Ty, is_boolean}
use Rattle.cp_machine_laws.proofs.Words.{Here, here, Layouts, plain_value, StackIs, OrdinalAgrees, view_of, step_of, settled}
use Rattle.cp_tree.specs.declared.statement.AssertionKind.{AssertionKind}
use Rattle.cp_tree.specs.declared.statement.AssertionKind.TheVariants as said
use Rattle.cp_tree.specs.Syntax.{asserted}
use Rattle.cp_slots.specs.declared.item.Action.TheVariants as action
use Rattle.cp_slots.specs.declared.item.Said.{Said}
use Rattle.cp_slots.specs.declared.place.OrdinalExpression as code_expression
use Rattle.cp_slots.specs.Code as code
use Rattle.cp_store.specs.declared.error.ErrorName as slots
use Rattle.cp_store.specs.Values as cells
use Rattle.cp_machine.specs.Statements as statements
use Rattle.cp_meaning.specs.LocalRules.{broken_as}
use Rattle.cp_resolved.specs.Stands.{Ground, said_of}
use Rattle.cp_machine_laws.specs.Named.{error_of}
use Rattle.cp_machine_laws.proofs.control.Control.{Taken, StepIs, TestAgrees, takes_item, acts_before, fails, calls_now, local_to, scope_is}
use Rattle.cp_machine_laws.proofs.control.Lists.{items_append, statement_items, stack_rest, frames_rest}
use Rattle.cp_machine_laws.proofs.expressions.Numbers.{is_true_same}
use Rattle.cp_machine_laws.proofs.expressions.Values.{truth_range}
use Rattle.cp_machine_laws.proofs.expressions.Views.{views_agree}

broken_same : (a : AssertionKind) → error_of (broken_as a) ≡ statements.broken (said_of a)
broken_same said.Assertion = refl
broken_same said.Invariant = refl

pub is_assert : (a : Action) (c : code.OrdinalExpression) (w : Said) → code.action_seen a ≡ code.assert_that c w → (x : code_expression.OrdinalExpression) × (a ≡ action.Assert x w) × (code.expression_seen x ≡ c)
is_assert (action.Assert x v) c w e = (x, cc, cc)
is_assert a c w e = absurd (cc)

module _ (g : Ground) (p : Program) (l : Layouts) (s : State) (m : Machine) (q at token : ℕ) (a : AssertionKind) (e : Expression) (u : Statement) (mid : Option ℕ) (es : List Entry) (xs ys : List Item) (k : Taken g p l s m q at (statement_item (asserted token a e u)) mid es xs ys) where
  abbrev i : Item
  i = statement_item (asserted token a e u)

  abbrev this : Here
  this = here p l (thread_at m.threads q).frame.routine

  abbrev line : ℕ
  line = slice_index g.lines token

  abbrev here_items : List Item
  here_items = items_of this.scope u

  -- the statement stands behind what is said before it
  said_stack : StackIs g p l (thread_at m.threads q).frame (calls_now g p l s m q at i mid es xs ys k) (here_items ++ (xs ++ ys)) (rest_of k.own.1 es)
  said_stack =
      subst (λ ws. StackIs g p l (thread_at m.threads q).frame (calls_now g p l s m q at i mid es xs ys k) ws (rest_of k.own.1 es)) (append_assoc here_items xs ys)
      (stack_rest g p l (thread_at m.threads q).frame (calls_now g p l s m q at i mid es xs ys k) k.own.1 (here_items ++ xs) ys es
      (items_append g this k.own.1 mid None here_items xs (statement_items g this k.own.1 mid u k.own.3) k.after) k.below)

  says : (o : Outcome Typed) (r : Result ℤ slots.ErrorName) (t : Ty) → is_boolean t ≡ true → OrdinalAgrees o t r →
      StepIs g p l q line (settled p s q (o >>= λ x. if is_true x then becomes (view_of p s q) (here_items ++ (xs ++ ys)) else Err (broken_as a)))
      (statements.with_value r (statements.fault m q line) (λ v. if cells.is_true v then statements.local (with_stack m q (rest_of k.own.1 es)) else statements.fault m q line (statements.broken (said_of a))))
  says (Err b) (Err d) t truth h = fails g p l s m q at i mid es xs ys k line b d h
  says (Ok x) (Ok z) t truth h =
      subst (λ (c : Bool). StepIs g p l q line (settled p s q (if c then becomes (view_of p s q) (here_items ++ (xs ++ ys)) else Err (broken_as a))) (if cells.is_true z then statements.local (with_stack m q (rest_of k.own.1 es)) else statements.fault m q line (statements.broken (said_of a))))
      (sym (ap (λ (w : Value). int_lt (pos 0) (number_of w)) h.1 ∙ is_true_same z (truth_range t z truth h.2))) (either (cells.is_true z))
    where
      either : (c : Bool) → StepIs g p l q line (settled p s q (if c then becomes (view_of p s q) (here_items ++ (xs ++ ys)) else Err (broken_as a))) (if c then statements.local (with_stack m q (rest_of k.own.1 es)) else statements.fault m q line (statements.broken (said_of a)))
      either true = local_to g p l s m q at i mid es xs ys k line (here_items ++ (xs ++ ys)) (rest_of k.own.1 es) said_stack (frames_rest (thread_at m.threads q).frame k.own.1 es)
      either false = fails g p l s m q at i mid es xs ys k line (broken_as a) (statements.broken (said_of a)) (broken_same a)
  says _ _ t truth h = absurd h

  pub assert_step : TestAgrees l p s m q e k.own.0 → StepIs g p l q line (step_of p s q) (step_at g.tables m q)
  assert_step test =
      takes_item g p l s m q at i mid es xs ys k line
      (subst (λ (c : Scope). StepIs g p l q line (settled p s q (value (view_of p s q) e >>= λ x. if is_true x then becomes (view_of p s q) (items_of c u ++ (xs ++ ys)) else Err (broken_as a))) (act g.tables m q at (item_at g.tables at) (item_at g.tables at).action es)) (sym (scope_is g p l s m q at i mid es xs ys k))
      (let b = is_assert (item_at g.tables at).action k.own.0 (said_of a) k.own.4.action in
      acts_before g p l s m q at i mid es xs ys k line token k.own.1 (code.assert_that k.own.0 (said_of a)) (action.Assert b.0 (said_of a)) _ k.own.4 b.1
      (λ item n d.
      subst (λ (j : ℕ). StepIs g p l q line (settled p s q (value (view_of p s q) e >>= λ x. if is_true x then becomes (view_of p s q) (here_items ++ (xs ++ ys)) else Err (broken_as a))) (statements.assert_that m q j b.0 (said_of a) (rest_of item.next es))) (sym d)
      (subst (λ (o : Option ℕ). StepIs g p l q line (settled p s q (value (view_of p s q) e >>= λ x. if is_true x then becomes (view_of p s q) (here_items ++ (xs ++ ys)) else Err (broken_as a))) (statements.assert_that m q line b.0 (said_of a) (rest_of o es))) (sym n)
      (subst (λ (r : Result ℤ slots.ErrorName). StepIs g p l q line (settled p s q (value (view_of p s q) e >>= λ x. if is_true x then becomes (view_of p s q) (here_items ++ (xs ++ ys)) else Err (broken_as a)))
      (statements.with_value r (statements.fault m q line) (λ v. if cells.is_true v then statements.local (with_stack m q (rest_of k.own.1 es)) else statements.fault m q line (statements.broken (said_of a)))))
      (sym (views_agree.value (memory_at m q) (thread_at m.threads q).frame b.0 ∙ ap (plain_value (memory_at m q) (thread_at m.threads q).frame) b.2))
      (says (value (view_of p s q) e) (plain_value (memory_at m q) (thread_at m.threads q).frame k.own.0) test.0 test.1 test.2))))))
