-- What a closed board says: the view of the last seat has all that the seats had, and no other view has a part.
use Rattle.std.proofs.Common.{◌≡◌, ℕ, zero, suc, ◌+◌, ◌<◌, ◌≤◌, min, cond, eqb, nat_le, List, [], ◌∷◌, ◌++◌, length, map, sum_by, All, sym, refl, ap, ◌∙◌, subst, arith}
use mathlib.Core.Option.{some, some-injective, some-ne-none}
use lib.ListN.{get_elem?}
use Rattle.std.proofs.lemmas.List.Sums.{sum_by-cons, sum_by-append}
use Rattle.std.proofs.lemmas.List.Elements.{All-weaker, All-nil, All-cons, All-head, All-tail}
use Rattle.cp_board.proofs.Words.{Note, View, NotesOnce, NotesEachOnce, IsTotal, Settles, IsFair, Keeps, IsRuled, together, nobody}
use Rattle.cp_board.proofs.Lists.{at_sum}
use Rattle.cp_board.proofs.Moves.{lengths, mine, my_totals}

-- the view of a seat that took in all of these, from the last on
abbrev pub gathered : List View → View
gathered [] = nobody
gathered (v ∷ []) = v
gathered (v ∷ w ∷ vs) = together (gathered (w ∷ vs)) v

-- Own notes by weights says it by counting
pub each_once : (views : List View) → All NotesOnce views → All NotesEachOnce views
each_once views = All-weaker NotesOnce NotesEachOnce (λ v once x. once (λ y. cond (eqb y x) 1 0)) views

all_left : {A : Type 0} (P : A → Type 0) (xs ys : List A) → All P (xs ++ ys) → All P xs
all_left P [] ys h = All-nil P
all_left P (x ∷ xs) ys h = All-cons P x xs (All-head P x (xs ++ ys) h) (all_left P xs ys (All-tail P x (xs ++ ys) h))

all_right : {A : Type 0} (P : A → Type 0) (xs ys : List A) → All P (xs ++ ys) → All P ys
all_right P [] ys h = h
all_right P (x ∷ xs) ys h = all_right P xs ys (All-tail P x (xs ++ ys) h)

none_left : (tasks : ℕ) (f : View → ℕ) → ((u : View) → u.parts ≡ 0 → IsFair tasks u → f u ≡ 0) → (views : List View) → All (IsFair tasks) views → sum_by (λ (u : View). u.parts) views ≡ 0 → sum_by f views ≡ 0
none_left tasks f idle [] fair none = refl
none_left tasks f idle (x ∷ xs) fair none =
    let p = sum_by-cons (λ (u : View). u.parts) x xs in
    let z = idle x (omega (arith, p, none)) (All-head (IsFair tasks) x xs fair) in
    omega (arith, sum_by-cons f x xs, z, none_left tasks f idle xs (All-tail (IsFair tasks) x xs fair) (omega (arith, p, none)))

-- where one view has all parts, the others add nothing
alone : (tasks : ℕ) (f : View → ℕ) → ((u : View) → u.parts ≡ 0 → IsFair tasks u → f u ≡ 0) → (views : List View) (id : ℕ) (v : View) → All (IsFair tasks) views → get_elem? views id ≡ some v → sum_by (λ (u : View). u.parts) views ≡ v.parts → sum_by f views ≡ f v
alone tasks f idle [] id v fair at all = absurd (some-ne-none v (sym at))
alone tasks f idle (x ∷ xs) zero v fair at all =
    let same = some-injective x v at in
    let parts = ap (λ (u : View). u.parts) same in
    let z = none_left tasks f idle xs (All-tail (IsFair tasks) x xs fair) (omega (arith, sum_by-cons (λ (u : View). u.parts) x xs, all, parts)) in
    omega (arith, sum_by-cons f x xs, z, ap f same)
alone tasks f idle (x ∷ xs) (suc id) v fair at all =
    let p = sum_by-cons (λ (u : View). u.parts) x xs in
    let le = at_sum (λ (u : View). u.parts) xs id v at in
    let z = idle x (omega (arith, p, le, all)) (All-head (IsFair tasks) x xs fair) in
    omega (arith, sum_by-cons f x xs, z, alone tasks f idle xs id v (All-tail (IsFair tasks) x xs fair) at (omega (arith, p, le, all)))

gathered-sum : (f : View → ℕ) → ((v w : View) → f (together v w) ≡ f v + f w) → f nobody ≡ 0 → (vs : List View) → f (gathered vs) ≡ sum_by f vs
gathered-sum f both none [] = none
gathered-sum f both none (v ∷ []) = omega (arith, sum_by-cons f v [])
gathered-sum f both none (v ∷ w ∷ vs) = omega (arith, sum_by-cons f v (w ∷ vs), both (gathered (w ∷ vs)) v, gathered-sum f both none (w ∷ vs))

gathered-all : (P : Note → Type 0) (vs : List View) → All P (gathered vs).notes → All (λ (v : View). All P v.notes) vs
gathered-all P [] h = All-nil (λ (v : View). All P v.notes)
gathered-all P (v ∷ []) h = All-cons (λ (v : View). All P v.notes) v [] h (All-nil (λ (v : View). All P v.notes))
gathered-all P (v ∷ w ∷ vs) h =
    let rest = (gathered (w ∷ vs)).notes in
    All-cons (λ (v : View). All P v.notes) v (w ∷ vs) (all_right P rest v.notes h) (gathered-all P (w ∷ vs) (all_left P rest v.notes h))

pub settles : {tasks seats next noted : ℕ} {views : List View} (k : Keeps tasks seats next noted views) (id : ℕ) (whole : View) (handed : List View)
    → get_elem? views id ≡ some whole → whole.parts ≡ seats → whole ≡ gathered handed → All NotesOnce handed → Settles tasks (min next tasks) noted handed
settles {tasks} {seats} {next} {noted} {views} k id whole handed at all is once =
    let only : (f : View → ℕ) → ((v w : View) → f (together v w) ≡ f v + f w) → f nobody ≡ 0 → ((u : View) → u.parts ≡ 0 → IsFair tasks u → f u ≡ 0) → sum_by f handed ≡ sum_by f views = λ f both none idle.
    sym (gathered-sum f both none handed) ∙ sym (ap f is) ∙ sym (alone tasks f idle views id whole k.fair at (k.parts ∙ sym all)) in
    let notes : (h : Note → ℕ) → sum_by (λ (u : View). sum_by h u.notes) handed ≡ sum_by (λ (u : View). sum_by h u.notes) views = λ h.
    only (λ (u : View). sum_by h u.notes) (λ v w. sum_by-append h v.notes w.notes) refl (λ u p f. ap (sum_by h) (f.idle p).1) in
    let spents : sum_by (λ (u : View). u.spent) handed ≡ sum_by (λ (u : View). u.spent) views = only (λ (u : View). u.spent) (λ v w. refl) refl (λ u p f. omega (arith, p, f.spent)) in
    let draws : sum_by (λ (u : View). length u.drawn) handed ≡ sum_by (λ (u : View). length u.drawn) views =
    only (λ (u : View). length u.drawn) (λ v w. Rattle.std.proofs.Common.length-append v.drawn w.drawn) refl (λ u p f. ap length (f.idle p).0) in
    let own : All (IsTotal noted handed) whole.notes = All-weaker (IsTotal noted views) (IsTotal noted handed) (λ n t. (t.0, t.1 ∙ sym (notes (λ (m : Note). cond (nat_le m.total n.total) m.rows 0)))) whole.notes (my_totals k id whole at) in
    record {
      within = omega arith;
      drawn = λ h. only (λ (u : View). sum_by h u.drawn) (λ v w. sum_by-append h v.drawn w.drawn) refl (λ u p f. ap (sum_by h) (f.idle p).0) ∙ k.drawn h;
      count = sym (draws ∙ lengths k);
      all_drawn = λ p. let t : tasks ≤ next = k.late (omega (arith, p, spents)) in omega (arith, t);
      once = once;
      short = gathered-all (λ (n : Note). n.rows ≤ 50001) handed (subst (λ (v : View). All (λ (n : Note). n.rows ≤ 50001) v.notes) is (mine k id whole at).short);
      rows = k.rows ∙ sym (notes (λ (n : Note). n.rows));
      totals = gathered-all (IsTotal noted handed) handed (subst (λ (v : View). All (IsTotal noted handed) v.notes) is own);
    }

-- an element in the middle
pub in_middle : {A : Type 0} (P : A → Type 0) (all xs front done : List A) (y : A) → all ≡ xs ++ done → xs ≡ front ++ y ∷ [] → All P all → P y
in_middle P all xs front done y e f h = All-head P y [] (all_right P front (y ∷ []) (subst (All P) f (all_left P xs done (subst (All P) e h))))

pub gathered-cons : (v : View) (vs : List View) → 0 < length vs → gathered (v ∷ vs) ≡ together (gathered vs) v
gathered-cons v [] h = absurd (omega (arith, h))
gathered-cons v (w ∷ vs) h = refl

pub nothing_left : {A : Type 0} (xs : List A) → length xs ≡ 0 → xs ≡ []
nothing_left [] e = refl
nothing_left (x ∷ xs) e = absurd (omega (arith, e))

pub closes : (k : Rattle.cp_board.specs.declared.views.Terms.Terms) (id : ℕ) (whole : View) (handed : List View) (ws : List ℕ) (xs : List (Unit {0})) (n t : ℕ)
    → Rattle.atomic_table.specs.Table.Final (Rattle.atomic_table.specs.Table.Seen (IsRuled k) id whole) ws xs → get_elem? ws 0 ≡ some n → get_elem? ws 1 ≡ some t
    → whole.parts ≡ k.seats → whole ≡ gathered handed → All NotesOnce handed → Settles k.tasks (min n k.tasks) t handed
closes k id whole handed ws xs n t (s, seen, same, homes, kept) e0 e1 all is once =
    let ruled = seen.0 in
    let w : ruled.0 ∷ ruled.1 ∷ k.tasks ∷ [] ≡ ws = sym ruled.2 ∙ same in
    let n_is : ruled.0 ≡ n = some-injective _ _ (ap (λ l. get_elem? l 0) w ∙ e0) in
    let t_is : ruled.1 ≡ t = some-injective _ _ (ap (λ l. get_elem? l 1) w ∙ e1) in
    subst (λ m. Settles k.tasks (min m k.tasks) t handed) n_is (subst (λ m. Settles k.tasks (min ruled.0 k.tasks) m handed) t_is (settles ruled.3 id whole handed seen.1 all is once))
