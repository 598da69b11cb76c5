-- The items of statements are items of the lists that stand for them, and what is put on a control stack.
use Rattle.cp_machine_laws.proofs.Words.{◌≡◌, ℕ, Bool, true, false, if◌then◌else◌, List, [], ◌∷◌, ◌++◌, append_assoc, Option, Some, None, sym, refl, subst, Frame, Entry, rest_of, Call, Item, statement_item}
use Rattle.cp_machine_laws.proofs.Words.{function_call, start_item, Layouts, Here, here, AreKept, calls_before, ItemIs, ItemsAre, StackIs, frames_of}
use Rattle.cp_tree.specs.Syntax.{no_expressions, Designator, Start, Statement, empty, assign, invoke, block, if_then, if_else, case_of, while_do, repeat_until, for_do, cycle, init, asserted, nameless, Statements, no_statements, more_statements, Program}
use Rattle.cp_meaning.specs.Calls.{last_checks}
use Rattle.cp_meaning.specs.Lifting.{expression_calls, expressions_calls, designator_calls, start_items, is_routine_meant, check_statement, check_items, waits_meant, first_name, checks_before, items_of, items_of_all}
use Rattle.cp_meaning.specs.Scopes.{Meaning, routine_meaning, find}
use Rattle.cp_resolved.specs.Stands.{Ground, CallsAre, ChecksAre, InvokedBy, StartsAre, OwnAll, BodyIs, StatementIs}
use Rattle.cp_machine_laws.specs.Bodies.{check_name}
use Rattle.cp_machine_laws.proofs.calls.Kept.{kept_left, kept_right, calls_kept, InnerKept, inner_both, expression_inner, expressions_inner, designator_inner}

-- ---- lists of items

pub items_append : (g : Ground) (h : Here) (first mid last : Option ℕ) (xs ys : List Item) → ItemsAre g h first xs mid → ItemsAre g h mid ys last → ItemsAre g h first (xs ++ ys) last
items_append g h first mid last [] ys i j = subst (λ (o : Option ℕ). ItemsAre g h o ys last) (sym i) j
items_append g h first mid last (x ∷ xs) ys i j = (i.0, i.1, i.2, i.3, i.4, items_append g h i.1 mid last xs ys i.5 j)

pub calls_items : (g : Ground) (h : Here) (first last : Option ℕ) (xs : List Item) → CallsAre g h first xs last → InnerKept h xs → ItemsAre g h first xs last
calls_items g h first last [] c k = c
calls_items g h first last (function_call at d es ∷ xs) c k = (c.0, c.1, c.2, c.3, k.0, calls_items g h c.1 last xs c.4 k.1)
calls_items g h first last _ c k = absurd c

pub one_item : (g : Ground) (h : Here) (n : ℕ) (i : Item) (next : Option ℕ) → ItemIs g h n i next → AreKept h (calls_before h.scope i) → ItemsAre g h (Some n) (i ∷ []) next
one_item g h n i next k b = (n, next, refl, k, b, refl)

-- the calls before an item, and the item after them
pub led_item : (g : Ground) (h : Here) (first : Option ℕ) (n : ℕ) (i : Item) (next : Option ℕ) → CallsAre g h first (calls_before h.scope i) (Some n) → (AreKept h (calls_before h.scope i) → InnerKept h (calls_before h.scope i)) → ItemIs g h n i next → ItemsAre g h first (calls_before h.scope i ++ i ∷ []) next
led_item g h first n i next c inner k =
    let kept = calls_kept g h first (Some n) (calls_before h.scope i) c in
    items_append g h first (Some n) next (calls_before h.scope i) (i ∷ []) (calls_items g h first (Some n) (calls_before h.scope i) c (inner kept)) (one_item g h n i next k kept)

-- ---- checks, where the block has invariants

checks_items : (g : Ground) (h : Here) (first last : Option ℕ) (at : ℕ) → ChecksAre g h first (check_items at h.scope) last → ItemsAre g h first (check_items at h.scope) last
checks_items g h first last at c = go (find nameless h.scope) refl c
  where
    go : (m : Option Meaning) → find nameless h.scope ≡ m → ChecksAre g h first (if is_routine_meant m then statement_item (check_statement at) ∷ [] else []) last → ItemsAre g h first (if is_routine_meant m then statement_item (check_statement at) ∷ [] else []) last
    go (Some (routine_meaning r)) e k = (k.0, k.1, k.2, subst (λ (m : Option Meaning). InvokedBy g h k.0 at m (check_name at) no_expressions k.1) (sym e) k.3, tt, k.4)
    go _ e k = k

before_items : (g : Ground) (h : Here) (first last : Option ℕ) (at : ℕ) (d : Designator) → ChecksAre g h first (checks_before at h.scope d) last → ItemsAre g h first (checks_before at h.scope d) last
before_items g h first last at d c = go (waits_meant (find (first_name d) h.scope)) c
  where
    go : (b : Bool) → ChecksAre g h first (if b then check_items at h.scope else []) last → ItemsAre g h first (if b then check_items at h.scope else []) last
    go true k = checks_items g h first last at k
    go false k = k

last_items : (g : Ground) (h : Here) (first last : Option ℕ) (b : Bool) → ChecksAre g h first (last_checks b h.scope) last → ItemsAre g h first (last_checks b h.scope) last
last_items g h first last true c = checks_items g h first last 0 c
last_items g h first last false c = c

-- ---- statements

-- the calls of two lists
inner_two : (h : Here) (xs ys : List Item) → (AreKept h xs → InnerKept h xs) → (AreKept h ys → InnerKept h ys) → AreKept h (xs ++ ys) → InnerKept h (xs ++ ys)
inner_two h xs ys i j k = inner_both h xs ys (i (kept_left h xs ys k)) (j (kept_right h xs ys k))

pub starts_items : (g : Ground) (h : Here) (first last : Option ℕ) (ts : List Start) → StartsAre g h first ts last → ItemsAre g h first (start_items h.scope ts) last
starts_items g h first last [] c = c
starts_items g h first last (t ∷ ts) c =
    subst (λ (is : List Item). ItemsAre g h first is last)
    (append_assoc (designator_calls h.scope t.target ++ expressions_calls h.scope t.arguments) (start_item t ∷ []) (start_items h.scope ts))
    (items_append g h first c.1 last ((designator_calls h.scope t.target ++ expressions_calls h.scope t.arguments) ++ start_item t ∷ []) (start_items h.scope ts)
    (led_item g h first c.0 (start_item t) c.1 c.2 (inner_two h (designator_calls h.scope t.target) (expressions_calls h.scope t.arguments) (designator_inner h t.target) (expressions_inner h t.arguments)) c.3)
    (starts_items g h c.1 last ts c.4))

pub statement_items : (g : Ground) (h : Here) (first next : Option ℕ) (t : Statement) → StatementIs g h first t next → ItemsAre g h first (items_of h.scope t) next
statement_items g h first next (init at ts) c = starts_items g h first next ts c
statement_items g h first next (assign at d e) c = led_item g h first c.0 (statement_item (assign at d e)) next c.1 (inner_two h (designator_calls h.scope d) (expression_calls h.scope e) (designator_inner h d) (expression_inner h e)) c.2
statement_items g h first next (invoke at d es) c =
    let calls : List Item = designator_calls h.scope d ++ expressions_calls h.scope es in
    let kept = calls_kept g h first c.1 calls c.2 in
    let inner = inner_two h (designator_calls h.scope d) (expressions_calls h.scope es) (designator_inner h d) (expressions_inner h es) kept in
    items_append g h first (Some c.0) next (calls ++ checks_before at h.scope d) (statement_item (invoke at d es) ∷ [])
    (items_append g h first c.1 (Some c.0) calls (checks_before at h.scope d) (calls_items g h first c.1 calls c.2 inner) (before_items g h c.1 (Some c.0) at d c.3))
    (one_item g h c.0 (statement_item (invoke at d es)) next c.4 kept)
statement_items g h first next (for_do at i e d f t) c = led_item g h first c.0 (statement_item (for_do at i e d f t)) next c.1 (inner_two h (expression_calls h.scope e) (expression_calls h.scope f) (expression_inner h e) (expression_inner h f)) c.2
statement_items g h first next (if_then at e t) c = led_item g h first c.0 (statement_item (if_then at e t)) next c.1 (expression_inner h e) c.2
statement_items g h first next (if_else at e t u) c = led_item g h first c.0 (statement_item (if_else at e t u)) next c.1 (expression_inner h e) c.2
statement_items g h first next (case_of at e as' b) c = led_item g h first c.0 (statement_item (case_of at e as' b)) next c.1 (expression_inner h e) c.2
statement_items g h first next (while_do at e t) c = led_item g h first c.0 (statement_item (while_do at e t)) next c.1 (expression_inner h e) c.2
statement_items g h first next (empty at) c = led_item g h first c.0 (statement_item (empty at)) next c.1 (λ k. tt) c.2
statement_items g h first next (block at ts) c = led_item g h first c.0 (statement_item (block at ts)) next c.1 (λ k. tt) c.2
statement_items g h first next (repeat_until at ts e) c = led_item g h first c.0 (statement_item (repeat_until at ts e)) next c.1 (λ k. tt) c.2
statement_items g h first next (cycle at ts) c = led_item g h first c.0 (statement_item (cycle at ts)) next c.1 (λ k. tt) c.2
statement_items g h first next (asserted at k e t) c = led_item g h first c.0 (statement_item (asserted at k e t)) next c.1 (expression_inner h e) c.2

pub all_items : (g : Ground) (h : Here) (first last : Option ℕ) (ts : Statements) → OwnAll g h ts first last → ItemsAre g h first (items_of_all h.scope ts) last
all_items g h first last no_statements c = c
all_items g h first last (more_statements t ts) c = items_append g h first c.0 last (items_of h.scope t) (items_of_all h.scope ts) (statement_items g h first c.0 t c.1) (all_items g h c.0 last ts c.2)

-- the items of a body, and the checks at its end
pub body_items : (g : Ground) (h : Here) (first : Option ℕ) (ts : Statements) (b : Bool) → BodyIs g h ts (last_checks b h.scope) first → ItemsAre g h first (items_of_all h.scope ts ++ last_checks b h.scope) None
body_items g h first ts b c = items_append g h first c.0 None (items_of_all h.scope ts) (last_checks b h.scope) (all_items g h first c.0 ts c.1) (last_items g h c.0 None b c.2)

-- ---- control stacks

-- no item is before the first of none
pub no_items : (g : Ground) (h : Here) (xs : List Item) → ItemsAre g h None xs None → xs ≡ []
no_items g h [] i = refl
no_items g h (x ∷ xs) i = absurd (let e = i.2 in cc)

-- a list is put above what is there
pub stack_rest : (g : Ground) (p : Program) (l : Layouts) (f : Frame) (calls : List Call) (first : Option ℕ) (xs ys : List Item) (es : List Entry) → ItemsAre g (here p l f.routine) first xs None → StackIs g p l f calls ys es → StackIs g p l f calls (xs ++ ys) (rest_of first es)
stack_rest g p l f calls None xs ys es i s = subst (λ (zs : List Item). StackIs g p l f calls (zs ++ ys) es) (sym (no_items g (here p l f.routine) xs i)) s
stack_rest g p l f calls (Some at) xs ys es i s = (xs, ys, refl, i, s)

-- what is above the end of a call opens no frame
pub frames_rest : (f : Frame) (first : Option ℕ) (es : List Entry) → frames_of f (rest_of first es) ≡ frames_of f es
frames_rest f None es = refl
frames_rest f (Some at) es = refl
