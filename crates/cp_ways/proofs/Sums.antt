-- Sums of ways on and of rows.
use Rattle.std.proofs.Common.{◌≡◌, ◌∙◌, ◌+◌, ◌*◌, ◌<◌, ◌≤◌, ℕ, Bool, true, false, cond, if◌then◌else◌, List, [], ◌∷◌, ◌++◌, map, length, Some, None, unwrap_or, refl, sym, ap, arith}
use Rattle.std.specs.Prelude.{sum_by, count_by}
use Rattle.std.proofs.lemmas.List.Sums.{sum_by-cons}
use Rattle.std.specs.Map.{lookup, set_value}
use Rattle.indexmap.specs.IndexMap.{insert_entry}
use Rattle.cp_ways.proofs.Given.{Outcome, Line, EndKey, same_outcome, exact_same}
use Rattle.cp_ways.specs.Ways.{since, told_to}
use Rattle.cp_ways.specs.Weights.{total, weight, weight_of}

-- sums of equal terms
pub sum_same : {X : Type 0} (f g : X → ℕ) → ((x : X) → f x ≡ g x) → (xs : List X) → sum_by f xs ≡ sum_by g xs
sum_same f g h [] = refl
sum_same f g h (x ∷ xs) = sum_by-cons f x xs ∙ ap (λ n. n + sum_by f xs) (h x) ∙ ap (λ n. g x + n) (sum_same f g h xs) ∙ sym (sum_by-cons g x xs)

pub sum_map : {X Y : Type 0} (f : Y → ℕ) (g : X → Y) (xs : List X) → sum_by f (map g xs) ≡ sum_by (λ x. f (g x)) xs
sum_map f g [] = refl
sum_map f g (x ∷ xs) = sum_by-cons f (g x) (map g xs) ∙ ap (λ n. f (g x) + n) (sum_map f g xs) ∙ sym (sum_by-cons (λ y. f (g y)) x xs)

pub sum_ones : {X : Type 0} (xs : List X) → sum_by (λ _. 1) xs ≡ length xs
sum_ones [] = refl
sum_ones (x ∷ xs) = let e = sum_ones xs in let all = sum_by-cons (λ _. 1) x xs in omega (arith, e, all)

-- ---- what is told of an outcome

-- 1 for this outcome, and 0 for any other
abbrev pub is_it : Outcome → Outcome → ℕ
is_it o x = if same_outcome x o then 1 else 0

pub told_weight : (o : Outcome) (ways : List (EndKey × ℕ)) → told_to ways o ≡ weight (is_it o) ways
told_weight o ways = sum_same (λ w. if same_outcome w.0.outcome o then w.1 else 0) (λ w. w.1 * is_it o w.0.outcome) (λ w. by (same_outcome w.0.outcome o) w.1) ways
  where
    by : (b : Bool) (n : ℕ) → (if b then n else 0) ≡ n * (if b then 1 else 0)
    by true n = omega arith
    by false n = omega arith

pub count_weight : (o : Outcome) (n : ℕ) (rows : List Line) → count_by (λ l. same_outcome (since n l.outcome) o) rows ≡ weight_of (λ x. is_it o (since n x)) rows
count_weight o n rows = refl

pub total_weight : (ways : List (EndKey × ℕ)) → total ways ≡ weight (λ _. 1) ways
total_weight ways = sum_same (λ w. w.1) (λ w. w.1 * 1) (λ w. one w.1) ways
  where
    one : (n : ℕ) → n ≡ n * 1
    one n = omega arith

-- ---- one way more

pub weight_cons : (f : Outcome → ℕ) (e : EndKey × ℕ) (es : List (EndKey × ℕ)) → weight f (e ∷ es) ≡ e.1 * f e.0.outcome + weight f es
weight_cons f e es = sum_by-cons (λ w. w.1 * f w.0.outcome) e es

joins : (a b c : ℕ) → a + (b + c) ≡ (a + b) + c
joins a b c = omega arith

first_more : (now x a b w : ℕ) → a ≡ b → (now + x) * a + w ≡ (now * a + w) + x * b
first_more now x a b w e = grown now x a w ∙ ap (λ k. (now * a + w) + x * k) e
  where
    grown : (now x a w : ℕ) → (now + x) * a + w ≡ (now * a + w) + x * a
    grown now x a w = grind arith

pub known_way : (f : Outcome → ℕ) (es : List (EndKey × ℕ)) (k : EndKey) (now x v : ℕ) → lookup (λ j. same_outcome k.outcome j.outcome) es ≡ Some now → v ≡ now + x → weight f (set_value (λ j. same_outcome k.outcome j.outcome) es v) ≡ weight f es + x * f k.outcome
known_way f [] k now x v is put = absurd (cc)
known_way f (e ∷ es) k now x v is put = by (same_outcome k.outcome e.0.outcome) refl is (λ i. known_way f es k now x v i put)
  where
    others : List (EndKey × ℕ)
    others = set_value (λ j. same_outcome k.outcome j.outcome) es v

    by : (b : Bool) → same_outcome k.outcome e.0.outcome ≡ b → cond b (Some e.1) (lookup (λ j. same_outcome k.outcome j.outcome) es) ≡ Some now → (lookup (λ j. same_outcome k.outcome j.outcome) es ≡ Some now → weight f others ≡ weight f es + x * f k.outcome) → weight f (cond b ((e.0, v) ∷ es) (e ∷ others)) ≡ weight f (e ∷ es) + x * f k.outcome
    by true q i on =
        let same : e.1 ≡ now = ap (λ o. unwrap_or o e.1) i in
        let outcomes : f e.0.outcome ≡ f k.outcome = ap f (sym (exact_same k.outcome e.0.outcome q)) in
        weight_cons f (e.0, v) es
        ∙ ap (λ n. n * f e.0.outcome + weight f es) (put ∙ ap (λ n. n + x) (sym same))
        ∙ first_more e.1 x (f e.0.outcome) (f k.outcome) (weight f es) outcomes
        ∙ ap (λ n. n + x * f k.outcome) (sym (weight_cons f e es))
    by false q i on =
        weight_cons f e others
        ∙ ap (λ n. e.1 * f e.0.outcome + n) (on i)
        ∙ joins (e.1 * f e.0.outcome) (weight f es) (x * f k.outcome)
        ∙ ap (λ n. n + x * f k.outcome) (sym (weight_cons f e es))

pub new_way : (f : Outcome → ℕ) (es : List (EndKey × ℕ)) (k : EndKey) (x : ℕ) → lookup (λ j. same_outcome k.outcome j.outcome) es ≡ None → weight f (insert_entry (λ a b. same_outcome a.outcome b.outcome) es k x) ≡ weight f es + x * f k.outcome
new_way f [] k x none = refl
new_way f (e ∷ es) k x none = by (same_outcome k.outcome e.0.outcome) none (λ i. new_way f es k x i)
  where
    others : List (EndKey × ℕ)
    others = insert_entry (λ a b. same_outcome a.outcome b.outcome) es k x

    by : (b : Bool) → cond b (Some e.1) (lookup (λ j. same_outcome k.outcome j.outcome) es) ≡ None → (lookup (λ j. same_outcome k.outcome j.outcome) es ≡ None → weight f others ≡ weight f es + x * f k.outcome) → weight f (if b then (e.0, x) ∷ es else e ∷ others) ≡ weight f (e ∷ es) + x * f k.outcome
    by true i on = absurd (cc)
    by false i on =
        weight_cons f e others
        ∙ ap (λ n. e.1 * f e.0.outcome + n) (on i)
        ∙ joins (e.1 * f e.0.outcome) (weight f es) (x * f k.outcome)
        ∙ ap (λ n. n + x * f k.outcome) (sym (weight_cons f e es))

pub known_within : (es : List (EndKey × ℕ)) (k : EndKey) (now : ℕ) → lookup (λ j. same_outcome k.outcome j.outcome) es ≡ Some now → now ≤ total es
known_within [] k now is = absurd (cc)
known_within (e ∷ es) k now is = by (same_outcome k.outcome e.0.outcome) is (λ i. known_within es k now i)
  where
    by : (b : Bool) → cond b (Some e.1) (lookup (λ j. same_outcome k.outcome j.outcome) es) ≡ Some now → (lookup (λ j. same_outcome k.outcome j.outcome) es ≡ Some now → now ≤ total es) → now ≤ total (e ∷ es)
    by true i on = let same : e.1 ≡ now = ap (λ o. unwrap_or o e.1) i in let all = sum_by-cons (λ (w : EndKey × ℕ). w.1) e es in omega (arith, same, all)
    by false i on = let l = on i in let all = sum_by-cons (λ (w : EndKey × ℕ). w.1) e es in omega (arith, l, all)
