-- Steps of `if` with `else`, and of the loops `while`, `repeat` and `cycle`.
use Rattle.cp_machine_laws.proofs.Words.{◌≡◌, ◌∙◌, ℕ, Bool, true, false, if◌then◌else◌, List, [], ◌∷◌, ◌++◌, append_assoc, Option, Some, None, ap, sym, refl, subst, ℤ, Result}
use Rattle.cp_machine_laws.proofs.Words.{Ok, Err, int_lt, pos, slice_index, Action, item_at, Entry, Rest, Machine, thread_at, with_stack, memory_at, value_of, rest_of, act}
use Rattle.cp_machine_laws.proofs.Words.{step_at, Outcome, ◌>>=◌, Scope, Value, number_of, Item, statement_item, until, State, Typed, is_true, value, expression_calls}
use Rattle.cp_machine_laws.proofs.Words.{items_of, items_of_all, until_items, becomes, Layouts, Here, here, plain_value, AreKept, ItemsAre, StackIs, frames_of, OrdinalAgrees}
use Rattle.cp_machine_laws.proofs.Words.{Program, Expression, Statement, Statements, if_else, while_do, repeat_until, cycle, view_of, step_of, settled, at_expression}
use Rattle.cp_slots.specs.declared.item.Action.TheVariants as action
use Rattle.cp_slots.specs.declared.place.OrdinalExpression as code_expression
use Rattle.cp_slots.specs.Code as code
use Rattle.cp_store.specs.declared.error.ErrorName as slots
use Rattle.cp_store.specs.Values as cells
use Rattle.cp_machine.specs.Statements as statements
use Rattle.cp_resolved.specs.Stands.{Ground, OwnAll, UntilItem}
use Rattle.cp_machine_laws.proofs.control.Control.{Taken, StepIs, TestAgrees, takes_item, acts, acts_before, fails, branches, calls_now, stack_after, local_to, scope_is, is_block, is_if as is_if_else}
use Rattle.cp_machine_laws.proofs.calls.Kept.{calls_kept, expression_inner}
use Rattle.cp_machine_laws.proofs.control.Lists.{items_append, calls_items, statement_items, all_items, stack_rest, frames_rest}
use Rattle.cp_machine_laws.proofs.expressions.Numbers.{is_true_same}
use Rattle.cp_machine_laws.proofs.expressions.Values.{truth_range}
use Rattle.cp_machine_laws.proofs.expressions.Views.{views_agree}

-- ---- what an action is by its view

is_while : (a : Action) (c : code.OrdinalExpression) (list : Option ℕ) (again : ℕ) → code.action_seen a ≡ code.while_do c list again → (x : code_expression.OrdinalExpression) × (a ≡ action.While x list again) × (code.expression_seen x ≡ c)
is_while (action.While x k j) c list again e = (x, cc, cc)
is_while a c list again e = absurd (cc)

is_until : (a : Action) (c : code.OrdinalExpression) (list : Option ℕ) (again : ℕ) → code.action_seen a ≡ code.until c list again → (x : code_expression.OrdinalExpression) × (a ≡ action.Until x list again) × (code.expression_seen x ≡ c)
is_until (action.Until x k j) c list again e = (x, cc, cc)
is_until a c list again e = absurd (cc)

is_cycle : (a : Action) (list : Option ℕ) → code.action_seen a ≡ code.cycle list → a ≡ action.Cycle list
is_cycle (action.Cycle k) list e = cc
is_cycle a list e = absurd (cc)

module _ (g : Ground) (p : Program) (l : Layouts) (s : State) (m : Machine) (q at : ℕ) (i : Item) (mid : Option ℕ) (es : List Entry) (xs ys : List Item) (k : Taken g p l s m q at i mid es xs ys) where
  abbrev this : Here
  this = here p l (thread_at m.threads q).frame.routine

  abbrev scope : Scope
  scope = (l.meanings (thread_at m.threads q).frame.routine).scope

  abbrev StackOf : List Item → List Entry → Type 0
  StackOf zs fs = StackIs g p l (thread_at m.threads q).frame (calls_now g p l s m q at i mid es xs ys k) zs fs

  -- the stacks of the process have its frames
  abbrev SameFrames : List Entry → Type 0
  SameFrames fs = frames_of (thread_at m.threads q).frame fs ≡ frames_of (thread_at m.threads q).frame es

  -- by the truth value that a test gives
  chooses : (line : ℕ) (e : Expression) (a : code_expression.OrdinalExpression) (c : code.OrdinalExpression) → code.expression_seen a ≡ c → TestAgrees l p s m q e c →
      (zs ws : List Item) (fs gs : List Entry) → StackOf zs fs → SameFrames fs → StackOf ws gs → SameFrames gs →
      StepIs g p l q line (settled p s q (value (view_of p s q) e >>= λ x. becomes (view_of p s q) (if is_true x then zs else ws)))
      (statements.with_value (value_of m q a) (statements.fault m q line) (λ v. statements.local (with_stack m q (if cells.is_true v then fs else gs))))
  chooses line e a c seen test zs ws fs gs here_is here_same there_is there_same =
      subst (λ (r : Result ℤ slots.ErrorName). StepIs g p l q line (settled p s q (value (view_of p s q) e >>= λ x. becomes (view_of p s q) (if is_true x then zs else ws))) (statements.with_value r (statements.fault m q line) (λ v. statements.local (with_stack m q (if cells.is_true v then fs else gs)))))
      (sym (views_agree.value (memory_at m q) (thread_at m.threads q).frame a ∙ ap (plain_value (memory_at m q) (thread_at m.threads q).frame) seen))
      (go (value (view_of p s q) e) (plain_value (memory_at m q) (thread_at m.threads q).frame c) test.2)
    where
      either : (b : Bool) → StepIs g p l q line (settled p s q (becomes (view_of p s q) (if b then zs else ws))) (statements.local (with_stack m q (if b then fs else gs)))
      either true = local_to g p l s m q at i mid es xs ys k line zs fs here_is here_same
      either false = local_to g p l s m q at i mid es xs ys k line ws gs there_is there_same

      go : (o : Outcome Typed) (r : Result ℤ slots.ErrorName) → OrdinalAgrees o test.0 r → StepIs g p l q line (settled p s q (o >>= λ x. becomes (view_of p s q) (if is_true x then zs else ws))) (statements.with_value r (statements.fault m q line) (λ v. statements.local (with_stack m q (if cells.is_true v then fs else gs))))
      go (Err b) (Err d) h = fails g p l s m q at i mid es xs ys k line b d h
      go (Ok x) (Ok z) h =
          subst (λ (c : Bool). StepIs g p l q line (settled p s q (becomes (view_of p s q) (if c then zs else ws))) (statements.local (with_stack m q (if cells.is_true z then fs else gs))))
          (sym (ap (λ (w : Value). int_lt (pos 0) (number_of w)) h.1 ∙ is_true_same z (truth_range test.0 z test.1 h.2))) (either (cells.is_true z))
      go _ _ h = absurd h

  -- the items after this one, as the stack below has them
  after_same : SameFrames (rest_of mid es)
  after_same = frames_rest (thread_at m.threads q).frame mid es

  -- a list above other items
  above_is : (first : Option ℕ) (zs ws : List Item) (fs : List Entry) → ItemsAre g this first zs None → StackOf ws fs → StackOf (zs ++ ws) (rest_of first fs)
  above_is first zs ws fs is below = stack_rest g p l (thread_at m.threads q).frame (calls_now g p l s m q at i mid es xs ys k) first zs ws fs is below

  above_two : (first : Option ℕ) (zs ws vs : List Item) (fs : List Entry) → ItemsAre g this first zs None → StackOf (ws ++ vs) fs → StackOf (zs ++ ws ++ vs) (rest_of first fs)
  above_two first zs ws vs fs is below = subst (λ us. StackOf us (rest_of first fs)) (sym (append_assoc zs ws vs)) (above_is first zs (ws ++ vs) fs is below)

  above_same : (first : Option ℕ) (fs : List Entry) → SameFrames fs → SameFrames (rest_of first fs)
  above_same first fs same = frames_rest (thread_at m.threads q).frame first fs ∙ same

  -- some items and then those after this one, where the first of them stand from an item on
  with_after : (n : ℕ) (zs : List Item) → ItemsAre g this (Some n) (zs ++ xs) None → StackOf (zs ++ (xs ++ ys)) (Rest n ∷ es)
  with_after n zs is = (zs ++ xs, ys, sym (append_assoc zs xs ys), is, k.below)

  -- calls, this item again, and those after it
  again_is : (n : ℕ) (zs : List Item) → ItemsAre g this (Some n) zs (Some at) → StackOf ((zs ++ i ∷ []) ++ (xs ++ ys)) (Rest n ∷ es)
  again_is n zs is =
      with_after n (zs ++ i ∷ [])
      (subst (λ ws. ItemsAre g this (Some n) ws None) (sym (append_assoc zs (i ∷ []) xs)) (items_append g this (Some n) (Some at) None zs (i ∷ xs) is (at, mid, refl, k.own, k.kept, k.after)))

-- ---- `if` with `else`

pub if_else_step : (g : Ground) (p : Program) (l : Layouts) (s : State) (m : Machine) (q at token : ℕ) (e : Expression) (u w : Statement) (mid : Option ℕ) (es : List Entry) (xs ys : List Item) → (k : Taken g p l s m q at (statement_item (if_else token e u w)) mid es xs ys) →
    TestAgrees l p s m q e k.own.0 → StepIs g p l q (slice_index g.lines token) (step_of p s q) (step_at g.tables m q)
if_else_step g p l s m q at token e u w mid es xs ys k test =
    takes_item g p l s m q at (statement_item (if_else token e u w)) mid es xs ys k line
    (subst (λ (c : Scope). StepIs g p l q line (settled p s q (value (view_of p s q) e >>= λ x. becomes (view_of p s q) (if is_true x then items_of c u ++ (xs ++ ys) else items_of c w ++ (xs ++ ys)))) (act g.tables m q at (item_at g.tables at) (item_at g.tables at).action es)) (sym (scope_is g p l s m q at (statement_item (if_else token e u w)) mid es xs ys k))
    (let a = is_if_else (item_at g.tables at).action k.own.0 k.own.1 k.own.2 k.own.6.action in
    acts g p l s m q at (statement_item (if_else token e u w)) mid es xs ys k line token (code.choose k.own.0 k.own.1 k.own.2) (action.If a.0 k.own.1 k.own.2) _ k.own.6 a.1
    (λ item n d.
    subst (λ (j : ℕ). StepIs g p l q line (settled p s q (value (view_of p s q) e >>= λ x. becomes (view_of p s q) (if is_true x then items_of inside u ++ (xs ++ ys) else items_of inside w ++ (xs ++ ys)))) (statements.branch m q j a.0 k.own.1 k.own.2 (rest_of item.next es))) (sym d)
    (subst (λ (r : Result ℤ slots.ErrorName). StepIs g p l q line (settled p s q (value (view_of p s q) e >>= λ x. becomes (view_of p s q) (if is_true x then items_of inside u ++ (xs ++ ys) else items_of inside w ++ (xs ++ ys)))) (statements.with_value r (statements.fault m q line) (λ v. statements.local (with_stack m q (rest_of (if cells.is_true v then k.own.1 else k.own.2) (rest_of item.next es))))))
    (sym (views_agree.value (memory_at m q) (thread_at m.threads q).frame a.0 ∙ ap (plain_value (memory_at m q) (thread_at m.threads q).frame) a.2))
    (branches g p l s m q at (statement_item (if_else token e u w)) mid es xs ys k line k.own.1 k.own.2 (items_of inside u) (items_of inside w) item.next n
    (statement_items g (here p l (thread_at m.threads q).frame.routine) k.own.1 None u k.own.4) (statement_items g (here p l (thread_at m.threads q).frame.routine) k.own.2 None w k.own.5)
    (value (view_of p s q) e) (plain_value (memory_at m q) (thread_at m.threads q).frame k.own.0) test.0 test.1 test.2)))))
  where
    line : ℕ
    line = slice_index g.lines token

    inside : Scope
    inside = (l.meanings (thread_at m.threads q).frame.routine).scope

-- ---- `while`

pub while_step : (g : Ground) (p : Program) (l : Layouts) (s : State) (m : Machine) (q at token : ℕ) (e : Expression) (u : Statement) (mid : Option ℕ) (es : List Entry) (xs ys : List Item) → (k : Taken g p l s m q at (statement_item (while_do token e u)) mid es xs ys) →
    TestAgrees l p s m q e k.own.test → StepIs g p l q (slice_index g.lines token) (step_of p s q) (step_at g.tables m q)
while_step g p l s m q at token e u mid es xs ys k test =
    takes_item g p l s m q at (statement_item (while_do token e u)) mid es xs ys k line
    (subst (λ (c : Scope). StepIs g p l q line (settled p s q (value (view_of p s q) e >>= λ x. becomes (view_of p s q) (if is_true x then items_of c u ++ items_of c (while_do token e u) ++ (xs ++ ys) else xs ++ ys))) (act g.tables m q at (item_at g.tables at) (item_at g.tables at).action es)) (sym (scope_is g p l s m q at (statement_item (while_do token e u)) mid es xs ys k))
    (let a = is_while (item_at g.tables at).action k.own.test k.own.body k.own.again k.own.item.action in
    acts g p l s m q at (statement_item (while_do token e u)) mid es xs ys k line token (code.while_do k.own.test k.own.body k.own.again) (action.While a.0 k.own.body k.own.again) _ k.own.item a.1
    (λ item n d.
    subst (λ (j : ℕ). StepIs g p l q line (settled p s q (value (view_of p s q) e >>= λ x. becomes (view_of p s q) (if is_true x then items_of inside u ++ items_of inside (while_do token e u) ++ (xs ++ ys) else xs ++ ys))) (statements.while_do m q j a.0 k.own.body k.own.again item.next es)) (sym d)
    (subst (λ (o : Option ℕ). StepIs g p l q line (settled p s q (value (view_of p s q) e >>= λ x. becomes (view_of p s q) (if is_true x then items_of inside u ++ items_of inside (while_do token e u) ++ (xs ++ ys) else xs ++ ys))) (statements.while_do m q line a.0 k.own.body k.own.again o es)) (sym n)
    (chooses g p l s m q at (statement_item (while_do token e u)) mid es xs ys k line e a.0 k.own.test a.2 test
    (items_of inside u ++ items_of inside (while_do token e u) ++ (xs ++ ys)) (xs ++ ys) (rest_of k.own.body (Rest k.own.again ∷ es)) (rest_of mid es)
    (above_two g p l s m q at (statement_item (while_do token e u)) mid es xs ys k k.own.body (items_of inside u) (items_of inside (while_do token e u)) (xs ++ ys) (Rest k.own.again ∷ es) (statement_items g (here p l (thread_at m.threads q).frame.routine) k.own.body None u k.own.list) again)
    (above_same g p l s m q at (statement_item (while_do token e u)) mid es xs ys k k.own.body (Rest k.own.again ∷ es) refl)
    (stack_after g p l s m q at (statement_item (while_do token e u)) mid es xs ys k) (after_same g p l s m q at (statement_item (while_do token e u)) mid es xs ys k))))))
  where
    line : ℕ
    line = slice_index g.lines token

    inside : Scope
    inside = (l.meanings (thread_at m.threads q).frame.routine).scope

    this_one : Here
    this_one = here p l (thread_at m.threads q).frame.routine

    again : StackIs g p l (thread_at m.threads q).frame (calls_now g p l s m q at (statement_item (while_do token e u)) mid es xs ys k) (items_of inside (while_do token e u) ++ (xs ++ ys)) (Rest k.own.again ∷ es)
    again = again_is g p l s m q at (statement_item (while_do token e u)) mid es xs ys k k.own.again (expression_calls inside e)
        (calls_items g this_one (Some k.own.again) (Some at) (expression_calls inside e) k.own.calls (expression_inner this_one e (calls_kept g this_one (Some k.own.again) (Some at) (expression_calls inside e) k.own.calls)))

-- ---- `cycle`

pub cycle_step : (g : Ground) (p : Program) (l : Layouts) (s : State) (m : Machine) (q at token line : ℕ) (ts : Statements) (mid : Option ℕ) (es : List Entry) (xs ys : List Item) → Taken g p l s m q at (statement_item (cycle token ts)) mid es xs ys → StepIs g p l q line (step_of p s q) (step_at g.tables m q)
cycle_step g p l s m q at token line ts mid es xs ys k =
    takes_item g p l s m q at (statement_item (cycle token ts)) mid es xs ys k line
    (subst (λ (c : Scope). StepIs g p l q line (settled p s q (becomes (view_of p s q) (items_of_all c ts ++ items_of c (cycle token ts) ++ (xs ++ ys)))) (act g.tables m q at (item_at g.tables at) (item_at g.tables at).action es)) (sym (scope_is g p l s m q at (statement_item (cycle token ts)) mid es xs ys k))
    (acts g p l s m q at (statement_item (cycle token ts)) mid es xs ys k line token (code.cycle k.own.0) (action.Cycle k.own.0) _ k.own.2 (is_cycle (item_at g.tables at).action k.own.0 k.own.2.action)
    (λ item e d. local_to g p l s m q at (statement_item (cycle token ts)) mid es xs ys k line (items_of_all (l.meanings (thread_at m.threads q).frame.routine).scope ts ++ (statement_item (cycle token ts) ∷ []) ++ (xs ++ ys)) (rest_of k.own.0 (Rest at ∷ es))
    (above_two g p l s m q at (statement_item (cycle token ts)) mid es xs ys k k.own.0 (items_of_all (l.meanings (thread_at m.threads q).frame.routine).scope ts) (statement_item (cycle token ts) ∷ []) (xs ++ ys) (Rest at ∷ es)
    (all_items g (here p l (thread_at m.threads q).frame.routine) k.own.0 None ts k.own.1) (again_is g p l s m q at (statement_item (cycle token ts)) mid es xs ys k at [] refl))
    (above_same g p l s m q at (statement_item (cycle token ts)) mid es xs ys k k.own.0 (Rest at ∷ es) refl))))

-- ---- `repeat`, and its test

-- the test of a `repeat`, and what comes after it
until_is : (g : Ground) (p : Program) (l : Layouts) (s : State) (m : Machine) (q at : ℕ) (i : Item) (mid : Option ℕ) (es : List Entry) (xs ys : List Item) (k : Taken g p l s m q at i mid es xs ys) (first : Option ℕ) (n : ℕ) (ss : Statements) (e : Expression) →
    UntilItem g (here p l (thread_at m.threads q).frame.routine) (λ list. OwnAll g (here p l (thread_at m.threads q).frame.routine) ss list None) n e mid →
    ItemsAre g (here p l (thread_at m.threads q).frame.routine) first (expression_calls (l.meanings (thread_at m.threads q).frame.routine).scope e) (Some n) →
    AreKept (here p l (thread_at m.threads q).frame.routine) (expression_calls (l.meanings (thread_at m.threads q).frame.routine).scope e) →
    ItemsAre g (here p l (thread_at m.threads q).frame.routine) first (until_items (l.meanings (thread_at m.threads q).frame.routine).scope ss e ++ xs) None
until_is g p l s m q at i mid es xs ys k first n ss e own calls kept =
    subst (λ ws. ItemsAre g this_one first ws None) (sym (append_assoc (expression_calls inside e) (until ss e ∷ []) xs))
    (items_append g this_one first (Some n) None (expression_calls inside e) (until ss e ∷ xs) calls (n, mid, refl, own, kept, k.after))
  where
    this_one : Here
    this_one = here p l (thread_at m.threads q).frame.routine

    inside : Scope
    inside = (l.meanings (thread_at m.threads q).frame.routine).scope

pub until_step : (g : Ground) (p : Program) (l : Layouts) (s : State) (m : Machine) (q at : ℕ) (ss : Statements) (e : Expression) (mid : Option ℕ) (es : List Entry) (xs ys : List Item) → (k : Taken g p l s m q at (until ss e) mid es xs ys) →
    TestAgrees l p s m q e k.own.test → StepIs g p l q (slice_index g.lines (at_expression e)) (step_of p s q) (step_at g.tables m q)
until_step g p l s m q at ss e mid es xs ys k test =
    takes_item g p l s m q at (until ss e) mid es xs ys k line
    (subst (λ (c : Scope). StepIs g p l q line (settled p s q (value (view_of p s q) e >>= λ x. becomes (view_of p s q) (if is_true x then xs ++ ys else items_of_all c ss ++ until_items c ss e ++ (xs ++ ys)))) (act g.tables m q at (item_at g.tables at) (item_at g.tables at).action es)) (sym (scope_is g p l s m q at (until ss e) mid es xs ys k))
    (let a = is_until (item_at g.tables at).action k.own.test k.own.body k.own.again k.own.item.action in
    acts g p l s m q at (until ss e) mid es xs ys k line (at_expression e) (code.until k.own.test k.own.body k.own.again) (action.Until a.0 k.own.body k.own.again) _ k.own.item a.1
    (λ item n d.
    subst (λ (j : ℕ). StepIs g p l q line (settled p s q (value (view_of p s q) e >>= λ x. becomes (view_of p s q) (if is_true x then xs ++ ys else items_of_all inside ss ++ until_items inside ss e ++ (xs ++ ys)))) (statements.until m q j a.0 k.own.body k.own.again item.next es)) (sym d)
    (subst (λ (o : Option ℕ). StepIs g p l q line (settled p s q (value (view_of p s q) e >>= λ x. becomes (view_of p s q) (if is_true x then xs ++ ys else items_of_all inside ss ++ until_items inside ss e ++ (xs ++ ys)))) (statements.until m q line a.0 k.own.body k.own.again o es)) (sym n)
    (chooses g p l s m q at (until ss e) mid es xs ys k line e a.0 k.own.test a.2 test
    (xs ++ ys) (items_of_all inside ss ++ until_items inside ss e ++ (xs ++ ys)) (rest_of mid es) (rest_of k.own.body (Rest k.own.again ∷ es))
    (stack_after g p l s m q at (until ss e) mid es xs ys k) (after_same g p l s m q at (until ss e) mid es xs ys k)
    (above_two g p l s m q at (until ss e) mid es xs ys k k.own.body (items_of_all inside ss) (until_items inside ss e) (xs ++ ys) (Rest k.own.again ∷ es) (all_items g this_one k.own.body None ss k.own.list)
    (with_after g p l s m q at (until ss e) mid es xs ys k k.own.again (until_items inside ss e)
    (until_is g p l s m q at (until ss e) mid es xs ys k (Some k.own.again) at ss e k.own
    (calls_items g this_one (Some k.own.again) (Some at) (expression_calls inside e) k.own.calls (expression_inner this_one e k.kept)) k.kept)))
    (above_same g p l s m q at (until ss e) mid es xs ys k k.own.body (Rest k.own.again ∷ es) refl))))))
  where
    line : ℕ
    line = slice_index g.lines (at_expression e)

    inside : Scope
    inside = (l.meanings (thread_at m.threads q).frame.routine).scope

    this_one : Here
    this_one = here p l (thread_at m.threads q).frame.routine

pub repeat_step : (g : Ground) (p : Program) (l : Layouts) (s : State) (m : Machine) (q at token line : ℕ) (ss : Statements) (e : Expression) (mid : Option ℕ) (es : List Entry) (xs ys : List Item) → Taken g p l s m q at (statement_item (repeat_until token ss e)) mid es xs ys → StepIs g p l q line (step_of p s q) (step_at g.tables m q)
repeat_step g p l s m q at token line ss e mid es xs ys k =
    takes_item g p l s m q at (statement_item (repeat_until token ss e)) mid es xs ys k line
    (subst (λ (c : Scope). StepIs g p l q line (settled p s q (becomes (view_of p s q) (items_of_all c ss ++ until_items c ss e ++ (xs ++ ys)))) (act g.tables m q at (item_at g.tables at) (item_at g.tables at).action es)) (sym (scope_is g p l s m q at (statement_item (repeat_until token ss e)) mid es xs ys k))
    (acts_before g p l s m q at (statement_item (repeat_until token ss e)) mid es xs ys k line token k.own.test (code.block k.own.body) (action.Block k.own.body) _ k.own.item (is_block (item_at g.tables at).action k.own.body k.own.item.action)
    (λ item n d.
    subst (λ (o : Option ℕ). StepIs g p l q line (settled p s q (becomes (view_of p s q) (items_of_all inside ss ++ until_items inside ss e ++ (xs ++ ys)))) (statements.local (with_stack m q (rest_of k.own.body (rest_of o es))))) (sym n)
    (local_to g p l s m q at (statement_item (repeat_until token ss e)) mid es xs ys k line (items_of_all inside ss ++ until_items inside ss e ++ (xs ++ ys)) (rest_of k.own.body (rest_of k.own.test es))
    (above_two g p l s m q at (statement_item (repeat_until token ss e)) mid es xs ys k k.own.body (items_of_all inside ss) (until_items inside ss e) (xs ++ ys) (rest_of k.own.test es) (all_items g this_one k.own.body None ss k.own.list)
    (subst (λ ws. StackIs g p l (thread_at m.threads q).frame (calls_now g p l s m q at (statement_item (repeat_until token ss e)) mid es xs ys k) ws (rest_of k.own.test es)) (append_assoc (until_items inside ss e) xs ys)
    (above_is g p l s m q at (statement_item (repeat_until token ss e)) mid es xs ys k k.own.test (until_items inside ss e ++ xs) ys es
    (until_is g p l s m q at (statement_item (repeat_until token ss e)) mid es xs ys k k.own.test k.own.until ss e k.own.own
    (calls_items g this_one k.own.test (Some k.own.until) (expression_calls inside e) k.own.calls (expression_inner this_one e kept)) kept) k.below)))
    (above_same g p l s m q at (statement_item (repeat_until token ss e)) mid es xs ys k k.own.body (rest_of k.own.test es) (frames_rest (thread_at m.threads q).frame k.own.test es))))))
  where
    inside : Scope
    inside = (l.meanings (thread_at m.threads q).frame.routine).scope

    this_one : Here
    this_one = here p l (thread_at m.threads q).frame.routine

    kept : AreKept this_one (expression_calls inside e)
    kept = calls_kept g this_one k.own.test (Some k.own.until) (expression_calls inside e) k.own.calls
