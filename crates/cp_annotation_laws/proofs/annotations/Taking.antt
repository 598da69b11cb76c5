-- What one item does without annotations.
use Rattle.std.proofs.Common.{◌≡◌, ◌∙◌, ℕ, ◌==◌, ℤ, Bool, true, false, if◌then◌else◌, List, [], ◌∷◌, ◌++◌, length, Option, Some, None, Ok, Err, ap, sym, refl}
use Rattle.cp_tree.specs.declared.constant.Identifier.{Identifier}
use Rattle.cp_tree.specs.declared.constant.Constant.{Constant}
use Rattle.cp_tree.specs.declared.statement.Direction.{Direction}
use Rattle.cp_tree.specs.declared.declaration.SystemKind.{SystemKind}
use Rattle.cp_tree.specs.declared.declaration.SystemKind.TheVariants as system_kind
use Rattle.cp_tree.specs.Syntax.{Expression, Expressions, no_expressions, more_expressions, Designator, Statement, empty, assign, invoke, block, if_then, if_else, case_of, while_do, repeat_until, for_do, cycle, init, asserted, Statements, Arms, no_arms, more_arms, arm, Program}
use Rattle.cp_meaning.specs.Names.{Name, temporary, result_name}
use Rattle.cp_meaning.specs.Outcome.{Outcome, ◌>>=◌}
use Rattle.cp_meaning.specs.Values.{Value, number_value, queue_value, number_of, waiting_in}
use Rattle.cp_meaning.specs.Scopes.{Meaning, constant_meaning, type_meaning, local_variable, permanent_variable, routine_meaning, standard_meaning, succ_function, pred_function, chr_function, ord_function, abs_function, empty_function, delay_procedure, continue_procedure, display_procedure, Scope}
use Rattle.cp_meaning.specs.Systems.{system_of}
use Rattle.cp_meaning.specs.State.{Holder, in_call, in_component, Place, Environment, Component, component_at, CallKind, own_statement, initial_statement, local_routine, entry_routine, Call, callers, Item, statement_item, function_call, start_item, until, successor, return, init_end, end, is_entry_kind}
use Rattle.cp_meaning.specs.Places.{View, Target, target_named, value_at, stored, this_call, plain_place, with_environment, with_call_environment, with_environment_of}
use Rattle.cp_meaning.specs.Operations.{same_integer, is_true, checked}
use Rattle.cp_meaning.specs.Expressions.{value, target_value, first_value, meaning_here}
use Rattle.cp_meaning.specs.Lifting.{items_of, items_of_all, until_items}
use Rattle.cp_meaning.specs.Move.{Move, Doing, stays, delays, continues}
use Rattle.cp_meaning.specs.Calls.{with_items, with_move}
use Rattle.cp_meaning.specs.LocalRules.{becomes, assigned, has_label, arm_for, is_beyond, next_value, goes_on_with, queue_free, delayed_in, after_return, continued_from, in_place_of, argument_of, invoked, does, with_result, leaving_move, return_move, takes}
use Rattle.cp_meaning.proofs.Frames.{ItemsFit, frames}
use Rattle.cp_resolved.specs.Small.{Each}
use Rattle.cp_annotation_laws.specs.Plain.{plain_statement, plain_statements, plain_arms}
use Rattle.cp_annotation_laws.proofs.annotations.Scopes.{IsSpoken, plain_scope, plain_found}
use Rattle.cp_annotation_laws.proofs.annotations.Spoken.{SpokenExpression, SpokenExpressions, SpokenDesignator, SpokenConstant, SpokenStart, SpokenScope, SpokenProgram, IsFine, AreFine, AreFineArms}
use Rattle.cp_annotation_laws.proofs.annotations.Types.{constant_plain}
use Rattle.cp_annotation_laws.proofs.annotations.Views.{plain_calls, plain_view, callers_plain, this_call_plain, value_at_plain, stored_plain}
use Rattle.cp_annotation_laws.proofs.annotations.Values.{meaning_plain, value_plain, first_plain, target_plain, target_named_plain}
use Rattle.cp_annotation_laws.proofs.annotations.Items.{plain_one, bare_items, scopes_of, under, scopes_callers, become_both, items_become, all_become, until_become, not_check, after_bare}
use Rattle.cp_annotation_laws.proofs.annotations.Doings.{bare, plain_move, plain_doing, plain_result, results, SpokenVariable, variable_spoken, CalleeFine, calls_plain, starts_plain}

-- ---- scopes of calls stay where values change

scopes_with : (cs : List Call) (below : ℕ) (e : Environment) → scopes_of (with_call_environment cs below e) ≡ scopes_of cs
scopes_with [] below e = refl
scopes_with (c ∷ cs) below e = go (length cs == below) (scopes_with cs below e)
  where
    go : (b : Bool) → scopes_of (with_call_environment cs below e) ≡ scopes_of cs → scopes_of (if b then with_environment c e ∷ cs else c ∷ with_call_environment cs below e) ≡ c.scope ∷ scopes_of cs
    go true h = refl
    go false h = ap (λ ss. c.scope ∷ ss) h

scopes_holder : (v : View) (h : Holder) (e : Environment) → scopes_of (with_environment_of v h e).calls ≡ scopes_of v.calls
scopes_holder v (in_call below) e = scopes_with v.calls below e
scopes_holder v (in_component n) e = refl

pub scopes_stored : (v : View) (q : Place) (w : Value) → scopes_of (stored v q w).calls ≡ scopes_of v.calls
scopes_stored v q w = scopes_holder v q.holder _

-- ---- a view, and others of the same calls

abbrev Same : Outcome Doing → Outcome Doing → Type 0
Same o u = u ≡ plain_result o

become_same : (v : View) (xs ys : List Item) → bare v.calls xs ≡ ys → Same (becomes v xs) (becomes (plain_view v) ys)
become_same v xs ys e = ap (λ (zs : List Item). Ok (let d : Doing = record { calls = plain_calls v.calls; items = zs; components = v.components; move = stays } in d)) (sym e)

-- a value is stored, and the items go on
assigned_same : (v : View) (t : Target) (x : Value) (xs ys : List Item) → bare v.calls xs ≡ ys → Same (assigned v t x >>= λ u. becomes u xs) (assigned (plain_view v) t x >>= λ u. becomes u ys)
assigned_same v t x xs ys e = go (checked t.ty x)
  where
    go : (o : Outcome Value) → ((o >>= λ y. Ok (stored (plain_view v) t.place y)) >>= λ u. becomes u ys) ≡ plain_result ((o >>= λ y. Ok (stored v t.place y)) >>= λ u. becomes u xs)
    go (Err f) = refl
    go (Ok y) =
        ap (λ (u : View). becomes u ys) (stored_plain v t.place y)
        ∙ become_same (stored v t.place y) xs ys (ap (λ ss. bare_items ss xs) (scopes_stored v t.place y) ∙ e)

if_same : (b : Bool) (v : View) (xs ys xs' ys' : List Item) → bare v.calls xs ≡ xs' → bare v.calls ys ≡ ys' → Same (becomes v (if b then xs else ys)) (becomes (plain_view v) (if b then xs' else ys'))
if_same true v xs ys xs' ys' h k = become_same v xs xs' h
if_same false v xs ys xs' ys' h k = become_same v ys ys' k

-- ---- labels

label_plain : (s : Scope) (z : ℤ) (cs : List Constant) → Each SpokenConstant cs → has_label (plain_scope s) z cs ≡ has_label s z cs
label_plain s z [] h = refl
label_plain s z (c ∷ cs) h =
    let e = constant_plain s c h.0 in
    let d = label_plain s z cs h.1 in
    cc

abbrev plain_arm_found : Outcome Statement → Outcome Statement
plain_arm_found (Ok t) = Ok (plain_statement t)
plain_arm_found (Err e) = Err e

arm_plain : (s : Scope) (z : ℤ) (as' : Arms) → AreFineArms s as' → arm_for (plain_scope s) z (plain_arms as') ≡ plain_arm_found (arm_for s z as')
arm_plain s z no_arms h = refl
arm_plain s z (more_arms (arm cs t) as') h =
    ap (λ (b : Bool). if b then Ok (plain_statement t) else arm_for (plain_scope s) z (plain_arms as')) (label_plain s z cs h.0.0)
    ∙ go (has_label s z cs) (arm_plain s z as' h.1)
  where
    go : (b : Bool) → arm_for (plain_scope s) z (plain_arms as') ≡ plain_arm_found (arm_for s z as') → (if b then Ok (plain_statement t) else arm_for (plain_scope s) z (plain_arms as')) ≡ plain_arm_found (if b then Ok t else arm_for s z as')
    go true e = refl
    go false e = e

abbrev FineFound : Scope → Outcome Statement → Type 0
FineFound s (Ok t) = IsFine s t
FineFound s (Err e) = Unit {0}

arm_fine : (s : Scope) (z : ℤ) (as' : Arms) → AreFineArms s as' → FineFound s (arm_for s z as')
arm_fine s z no_arms h = tt
arm_fine s z (more_arms (arm cs t) as') h = go (has_label s z cs) (arm_fine s z as' h.1)
  where
    go : (b : Bool) → FineFound s (arm_for s z as') → FineFound s (if b then Ok t else arm_for s z as')
    go true k = h.0.1
    go false k = k

argument_spoken : (es : Expressions) → SpokenExpressions es → SpokenVariable (argument_of es)
argument_spoken no_expressions h = tt
argument_spoken (more_expressions e es) h = variable_spoken e h.0

abbrev pub IsUnasserted : Statement → Type 0
IsUnasserted (asserted at k e t) = ⊥
IsUnasserted t = Unit {0}

-- what a call as a statement calls
abbrev pub CallsFine : Program → Scope → Statement → Type 0
CallsFine p s (invoke at d es) = CalleeFine p s d
CallsFine p s t = Unit {0}

-- an item in the scope of its call
abbrev pub ItemFine : Program → Scope → Item → Type 0
ItemFine p s (statement_item t) = IsFine s t × IsUnasserted t × CallsFine p s t
ItemFine p s (function_call at d es) = SpokenDesignator d × SpokenExpressions es × CalleeFine p s d
ItemFine p s (start_item t) = SpokenStart t
ItemFine p s (until ts e) = AreFine s ts × SpokenExpression e
ItemFine p s (successor at i z d b t) = IsSpoken i.name × IsFine s t
ItemFine p s i = Unit {0}

module _ (p : Program) (spoken : SpokenProgram p) (visible : (k : ℕ) → SpokenScope (system_of p k).scope)
    (c : Call) (below : List Call) (cs : List Component) (bodies : (n : ℕ) → AreFine (system_of p (component_at cs n).system).scope (system_of p (component_at cs n).system).body) (here : SpokenScope c.scope) where
  abbrev pub v : View
  v = record { program = p; calls = c ∷ below; components = cs }

  abbrev pub w : View
  w = plain_view v

  abbrev s : Scope
  s = c.scope

  abbrev ss : List Scope
  ss = scopes_of below

  abbrev left : List Item → List Item
  left items = bare (c ∷ below) items

  value_same : (e : Expression) → SpokenExpression e → value w e ≡ value v e
  value_same e h = value_plain p spoken visible (c ∷ below) cs here e h

  target_same : (d : Designator) → SpokenDesignator d → target_value w d ≡ target_value v d
  target_same d h = target_plain p spoken visible (c ∷ below) cs here d h

  goes_on_same : (at : ℕ) (i : Identifier) (z : ℤ) (d : Direction) (b : ℤ) (t : Statement) (items : List Item) → IsSpoken i.name → IsFine s t →
      Same (goes_on_with v at i z d b t items) (goes_on_with w at i z d b (plain_statement t) (left items))
  goes_on_same at i z d b t items h fine =
      ap (λ (x : Target). assigned w x (number_value z) >>= λ u. becomes u (items_of (plain_scope s) (plain_statement t) ++ successor at i z d b (plain_statement t) ∷ left items)) (target_named_plain p spoken visible (c ∷ below) cs here i.name h)
      ∙ assigned_same v (target_named v i.name) (number_value z) (items_of s t ++ successor at i z d b t ∷ items) (items_of (plain_scope s) (plain_statement t) ++ successor at i z d b (plain_statement t) ∷ left items)
      ((items_become s ss t fine).on (successor at i z d b t ∷ items))

  -- ---- the standard procedures

  delayed_same : (pid : ℕ) (items : List Item) (q : Place) → Same (delayed_in v pid items q) (delayed_in w pid (left items) q)
  delayed_same pid items q =
      ap (λ (x : Value). queue_free (waiting_in x) >>= λ o. Ok (with_move (with_items (stored w q (queue_value (Some pid))) (left items)) (delays c.component))) (value_at_plain v q)
      ∙ results (queue_free (waiting_in (value_at v q))) (queue_free (waiting_in (value_at v q))) _ _ refl
      (λ o.
      ap (λ (u : View). Ok (with_move (with_items u (left items)) (delays c.component))) (stored_plain v q (queue_value (Some pid)))
      ∙ ap (λ ks. Ok (let d : Doing = record { calls = plain_calls (stored v q (queue_value (Some pid))).calls; items = bare_items ks items; components = (stored v q (queue_value (Some pid))).components; move = delays c.component } in d)) (sym (scopes_stored v q (queue_value (Some pid)))))

  continued_same : (kind : CallKind) (items : List Item) (q : Place) → ItemsFit ((kind, c.component) ∷ frames below) items → continued_from w kind (left items) q ≡ plain_doing (continued_from v kind items q)
  continued_same own_statement items q h = refl
  continued_same initial_statement items q h = refl
  continued_same local_routine items q h = refl
  continued_same entry_routine items q h =
      let u : View = stored v q (queue_value None) in
      ap (λ (x : View). (let d : Doing = record { calls = callers x.calls; items = after_return (left items); components = x.components; move = continues c.component (waiting_in (value_at w q)) x.calls (left items) } in d)) (stored_plain v q (queue_value None))
      ∙ (ap (λ (x : Value). (let d : Doing = record { calls = callers (plain_calls u.calls); items = after_return (left items); components = u.components; move = continues c.component (waiting_in x) (plain_calls u.calls) (left items) } in d)) (value_at_plain v q)
      ∙ (ap (λ (ds : List Call). (let d : Doing = record { calls = ds; items = after_return (left items); components = u.components; move = continues c.component (waiting_in (value_at v q)) (plain_calls u.calls) (left items) } in d)) (callers_plain u.calls)
      ∙ (ap (λ (xs : List Item). (let d : Doing = record { calls = plain_calls (callers u.calls); items = xs; components = u.components; move = continues c.component (waiting_in (value_at v q)) (plain_calls u.calls) (left items) } in d)) (after u)
      ∙ ap (λ ks. (let d : Doing = record { calls = plain_calls (callers u.calls); items = bare (callers u.calls) (after_return items); components = u.components; move = continues c.component (waiting_in (value_at v q)) (plain_calls u.calls) (bare_items ks items) } in d)) (sym (scopes_stored v q (queue_value None))))))
    where
      after : (u : View) → after_return (left items) ≡ bare (callers (stored v q (queue_value None)).calls) (after_return items)
      after u =
          sym (after_bare (scopes_of (c ∷ below)) c.component (frames below) items h)
          ∙ ap (λ ks. bare_items ks (after_return items)) (sym (scopes_callers (stored v q (queue_value None)).calls ∙ ap under (scopes_stored v q (queue_value None))))

  in_place_same : (o : Option Designator) (f g : Place → Outcome Doing) (items : List Item) → SpokenVariable o → ((q : Place) → Same (f q) (g q)) → Same (in_place_of v o f items) (in_place_of w o g (left items))
  in_place_same None f g items h k = refl
  in_place_same (Some d) f g items h k = results (target_value v d) (target_value w d) _ _ (target_same d h) (λ t. k t.place)

  invoked_same : (pid : ℕ) (m : Option Meaning) (d : Designator) (es : Expressions) (items : List Item) → SpokenDesignator d → SpokenExpressions es → CalleeFine p s d → ItemsFit (frames (c ∷ below)) items →
      Same (invoked v pid m d es items) (invoked w pid (plain_found m) d es (left items))
  invoked_same pid (Some (standard_meaning delay_procedure)) d es items h k fine fit = in_place_same (argument_of es) (delayed_in v pid items) (delayed_in w pid (left items)) items (argument_spoken es k) (λ q. delayed_same pid items q)
  invoked_same pid (Some (standard_meaning continue_procedure)) d es items h k fine fit =
      in_place_same (argument_of es) (λ q. Ok (continued_from v c.kind items q)) (λ q. Ok (continued_from w c.kind (left items) q)) items (argument_spoken es k) (λ q. ap (λ (x : Doing). Ok x) (continued_same c.kind items q fit))
  invoked_same pid (Some (standard_meaning display_procedure)) d es items h k fine fit = results (first_value v es) (first_value w es) _ _ (first_plain p spoken visible (c ∷ below) cs here es k) (λ x. refl)
  invoked_same pid (Some (standard_meaning succ_function)) d es items h k fine fit = calls_plain p spoken visible (c ∷ below) cs bodies here d es None items h k fine
  invoked_same pid (Some (standard_meaning pred_function)) d es items h k fine fit = calls_plain p spoken visible (c ∷ below) cs bodies here d es None items h k fine
  invoked_same pid (Some (standard_meaning chr_function)) d es items h k fine fit = calls_plain p spoken visible (c ∷ below) cs bodies here d es None items h k fine
  invoked_same pid (Some (standard_meaning ord_function)) d es items h k fine fit = calls_plain p spoken visible (c ∷ below) cs bodies here d es None items h k fine
  invoked_same pid (Some (standard_meaning abs_function)) d es items h k fine fit = calls_plain p spoken visible (c ∷ below) cs bodies here d es None items h k fine
  invoked_same pid (Some (standard_meaning empty_function)) d es items h k fine fit = calls_plain p spoken visible (c ∷ below) cs bodies here d es None items h k fine
  invoked_same pid (Some (constant_meaning b z)) d es items h k fine fit = calls_plain p spoken visible (c ∷ below) cs bodies here d es None items h k fine
  invoked_same pid (Some (type_meaning t)) d es items h k fine fit = calls_plain p spoken visible (c ∷ below) cs bodies here d es None items h k fine
  invoked_same pid (Some (local_variable t)) d es items h k fine fit = calls_plain p spoken visible (c ∷ below) cs bodies here d es None items h k fine
  invoked_same pid (Some (permanent_variable t)) d es items h k fine fit = calls_plain p spoken visible (c ∷ below) cs bodies here d es None items h k fine
  invoked_same pid (Some (routine_meaning r)) d es items h k fine fit = calls_plain p spoken visible (c ∷ below) cs bodies here d es None items h k fine
  invoked_same pid None d es items h k fine fit = calls_plain p spoken visible (c ∷ below) cs bodies here d es None items h k fine

  -- ---- statements but annotations

  case_same : (o u : Outcome Statement) (items : List Item) → FineFound s o → u ≡ plain_arm_found o → Same (o >>= λ t. becomes v (items_of s t ++ items)) (u >>= λ t. becomes w (items_of (plain_scope s) t ++ left items))
  case_same (Ok t) u items h e = ap (λ (x : Outcome Statement). x >>= λ t. becomes w (items_of (plain_scope s) t ++ left items)) e ∙ become_same v (items_of s t ++ items) (items_of (plain_scope s) (plain_statement t) ++ left items) ((items_become s ss t h).on items)
  case_same (Err f) u items h e = ap (λ (x : Outcome Statement). x >>= λ t. becomes w (items_of (plain_scope s) t ++ left items)) e

  pub does_same : (pid : ℕ) (t : Statement) (items : List Item) → IsFine s t → IsUnasserted t → CallsFine p s t → ItemsFit (frames (c ∷ below)) items → Same (does v pid t items) (does w pid (plain_statement t) (left items))
  does_same pid (empty at) items h k fine fit = refl
  does_same pid (assign at d e) items h k fine fit = results (value v e) (value w e) _ _ (value_same e h.1) (λ x. results (target_value v d) (target_value w d) _ _ (target_same d h.0) (λ t. assigned_same v t x.value items (left items) refl))
  does_same pid (invoke at d es) items h k fine fit =
      ap (λ (m : Option Meaning). invoked w pid m d es (left items)) (meaning_plain p spoken visible (c ∷ below) cs here d h.0)
      ∙ invoked_same pid (meaning_here v d) d es items h.0 h.1 fine fit
  does_same pid (block at ts) items h k fine fit = become_same v (items_of_all s ts ++ items) (items_of_all (plain_scope s) (plain_statements ts) ++ left items) ((all_become s ss ts h).on items)
  does_same pid (if_then at e t) items h k fine fit = results (value v e) (value w e) _ _ (value_same e h.0) (λ x. if_same (is_true x) v (items_of s t ++ items) items (items_of (plain_scope s) (plain_statement t) ++ left items) (left items) ((items_become s ss t h.1).on items) refl)
  does_same pid (if_else at e t u) items h k fine fit =
      results (value v e) (value w e) _ _ (value_same e h.0)
      (λ x. if_same (is_true x) v (items_of s t ++ items) (items_of s u ++ items) (items_of (plain_scope s) (plain_statement t) ++ left items) (items_of (plain_scope s) (plain_statement u) ++ left items) ((items_become s ss t h.1).on items) ((items_become s ss u h.2).on items))
  does_same pid (case_of at e as' b) items h k fine fit =
      results (value v e) (value w e) _ _ (value_same e h.0)
      (λ x. case_same (arm_for s (number_of x.value) as') (arm_for (plain_scope s) (number_of x.value) (plain_arms as')) items (arm_fine s (number_of x.value) as' h.1) (arm_plain s (number_of x.value) as' h.1))
  does_same pid (while_do at e t) items h k fine fit =
      results (value v e) (value w e) _ _ (value_same e h.0)
      (λ x. if_same (is_true x) v (items_of s t ++ items_of s (while_do at e t) ++ items) items (items_of (plain_scope s) (plain_statement t) ++ items_of (plain_scope s) (while_do at e (plain_statement t)) ++ left items) (left items)
      ((become_both s ss _ _ _ _ (items_become s ss t h.1) (items_become s ss (while_do at e t) h)).on items) refl)
  does_same pid (repeat_until at ts e) items h k fine fit =
      become_same v (items_of_all s ts ++ until_items s ts e ++ items) (items_of_all (plain_scope s) (plain_statements ts) ++ until_items (plain_scope s) (plain_statements ts) e ++ left items)
      ((become_both s ss _ _ _ _ (all_become s ss ts h.0) (until_become s ss ts e h.1)).on items)
  does_same pid (for_do at i e d f t) items h k fine fit =
      results (value v e) (value w e) _ _ (value_same e h.1) (λ a. results (value v f) (value w f) _ _ (value_same f h.2) (λ b. go (is_beyond d (number_of a.value) (number_of b.value)) (number_of a.value) (number_of b.value)))
    where
      go : (beyond : Bool) (a b : ℤ) → Same (if beyond then becomes v items else goes_on_with v at i a d b t items) (if beyond then becomes w (left items) else goes_on_with w at i a d b (plain_statement t) (left items))
      go true a b = refl
      go false a b = goes_on_same at i a d b t items h.0 h.3
  does_same pid (cycle at ts) items h k fine fit =
      become_same v (items_of_all s ts ++ items_of s (cycle at ts) ++ items) (items_of_all (plain_scope s) (plain_statements ts) ++ items_of (plain_scope s) (cycle at (plain_statements ts)) ++ left items)
      ((become_both s ss _ _ _ _ (all_become s ss ts h) (items_become s ss (cycle at ts) h)).on items)
  does_same pid (init at ts) items h k fine fit = refl
  does_same pid (asserted at j e t) items h k fine fit = absurd k

  -- ---- the other items

  until_same : (ts : Statements) (e : Expression) (items : List Item) → AreFine s ts → SpokenExpression e → (pid : ℕ) → Same (takes v pid (until ts e ∷ items)) (takes w pid (until (plain_statements ts) e ∷ left items))
  until_same ts e items h k pid =
      results (value v e) (value w e) _ _ (value_same e k)
      (λ x. if_same (is_true x) v items (items_of_all s ts ++ until_items s ts e ++ items) (left items) (items_of_all (plain_scope s) (plain_statements ts) ++ until_items (plain_scope s) (plain_statements ts) e ++ left items) refl
      ((become_both s ss _ _ _ _ (all_become s ss ts h) (until_become s ss ts e k)).on items))

  successor_same : (at : ℕ) (i : Identifier) (z : ℤ) (d : Direction) (b : ℤ) (t : Statement) (items : List Item) → IsSpoken i.name → IsFine s t → (pid : ℕ) →
      Same (takes v pid (successor at i z d b t ∷ items)) (takes w pid (successor at i z d b (plain_statement t) ∷ left items))
  successor_same at i z d b t items h fine pid = go (same_integer z b)
    where
      go : (x : Bool) → Same (if x then becomes v items else goes_on_with v at i (next_value d z) d b t items) (if x then becomes w (left items) else goes_on_with w at i (next_value d z) d b (plain_statement t) (left items))
      go true = refl
      go false = goes_on_same at i (next_value d z) d b t items h fine

  abbrev outside : View
  outside = record { program = p; calls = below; components = cs }

  with_result_plain : (o : Option Name) → with_result w o ≡ plain_view (with_result v o)
  with_result_plain None = refl
  with_result_plain (Some x) =
      ap (λ (y : Value). stored (plain_view outside) (plain_place (this_call (plain_view outside)) x) y) (ap (λ h. value_at w (plain_place h result_name)) (this_call_plain v) ∙ value_at_plain v (plain_place (this_call v) result_name))
      ∙ (ap (λ h. stored (plain_view outside) (plain_place h x) (value_at v (plain_place (this_call v) result_name))) (this_call_plain outside)
      ∙ stored_plain outside (plain_place (this_call outside) x) (value_at v (plain_place (this_call v) result_name)))

  with_result_scopes : (o : Option Name) → scopes_of (with_result v o).calls ≡ scopes_of below
  with_result_scopes None = refl
  with_result_scopes (Some x) = scopes_stored outside (plain_place (this_call outside) x) (value_at v (plain_place (this_call v) result_name))

  leaving_plain : (k : SystemKind) → plain_move (leaving_move k c.component) ≡ leaving_move k c.component
  leaving_plain system_kind.Monitor = refl
  leaving_plain _ = refl

  return_move_plain : plain_move (return_move cs c) ≡ return_move cs c
  return_move_plain = go (is_entry_kind c.kind)
    where
      go : (b : Bool) → plain_move (if b then leaving_move (component_at cs c.component).kind c.component else stays) ≡ (if b then leaving_move (component_at cs c.component).kind c.component else stays)
      go true = leaving_plain (component_at cs c.component).kind
      go false = refl

  returned_same : (o : Option Name) (items : List Item) (pid : ℕ) → Same (takes v pid (return o ∷ items)) (takes w pid (return o ∷ bare_items (scopes_of below) items))
  returned_same o items pid =
      ap (λ (u : View). Ok (with_move (with_items u (bare_items (scopes_of below) items)) (return_move cs c))) (with_result_plain o)
      ∙ (ap (λ ks. Ok (with_move (with_items (plain_view (with_result v o)) (bare_items ks items)) (return_move cs c))) (sym (with_result_scopes o))
      ∙ ap (λ (m : Move). Ok (with_move (with_items (plain_view (with_result v o)) (bare (with_result v o).calls items)) m)) (sym return_move_plain))

  statement_same : (pid : ℕ) (t : Statement) (items : List Item) → IsFine s t → IsUnasserted t → CallsFine p s t → ItemsFit (frames (c ∷ below)) items → Same (does v pid t items) (takes w pid (plain_one s t ++ left items))
  statement_same pid (empty at) items h k fine fit = does_same pid (empty at) items h k fine fit
  statement_same pid (assign at d e) items h k fine fit = does_same pid (assign at d e) items h k fine fit
  statement_same pid (invoke at d es) items h k fine fit =
      ap (λ (b : Bool). takes w pid ((if b then [] else statement_item (invoke at d es) ∷ []) ++ left items)) (not_check s ss d h.0)
      ∙ does_same pid (invoke at d es) items h k fine fit
  statement_same pid (block at ts) items h k fine fit = does_same pid (block at ts) items h k fine fit
  statement_same pid (if_then at e t) items h k fine fit = does_same pid (if_then at e t) items h k fine fit
  statement_same pid (if_else at e t u) items h k fine fit = does_same pid (if_else at e t u) items h k fine fit
  statement_same pid (case_of at e as' b) items h k fine fit = does_same pid (case_of at e as' b) items h k fine fit
  statement_same pid (while_do at e t) items h k fine fit = does_same pid (while_do at e t) items h k fine fit
  statement_same pid (repeat_until at ts e) items h k fine fit = does_same pid (repeat_until at ts e) items h k fine fit
  statement_same pid (for_do at i e d f t) items h k fine fit = does_same pid (for_do at i e d f t) items h k fine fit
  statement_same pid (cycle at ts) items h k fine fit = does_same pid (cycle at ts) items h k fine fit
  statement_same pid (init at ts) items h k fine fit = does_same pid (init at ts) items h k fine fit
  statement_same pid (asserted at j e t) items h k fine fit = absurd k

  -- an item of both programs does the same in both
  pub takes_same : (pid : ℕ) (i : Item) (items : List Item) → ItemFine p s i → ItemsFit (frames (c ∷ below)) (i ∷ items) → Same (takes v pid (i ∷ items)) (takes w pid (left (i ∷ items)))
  takes_same pid (statement_item t) items h fit = statement_same pid t items h.0 h.1 h.2 fit
  takes_same pid (function_call at d es) items h fit = calls_plain p spoken visible (c ∷ below) cs bodies here d es (Some (temporary at)) items h.0 h.1 h.2
  takes_same pid (start_item t) items h fit = starts_plain p spoken visible (c ∷ below) cs bodies here t items h
  takes_same pid (until ts e) items h fit = until_same ts e items h.0 h.1 pid
  takes_same pid (successor at i z d b t) items h fit = successor_same at i z d b t items h.0 h.1 pid
  takes_same pid (return o) items h fit = returned_same o items pid
  takes_same pid (init_end m) items h fit = refl
  takes_same pid end items h fit = refl
