-- Words that come before others, and the members of a list that begin a word.
use Rattle.std.proofs.Common.{◌≡◌, ◌∙◌, ℕ, ◌<◌, ◌+◌, Bool, true, false, ◌&&◌, ◌||◌, ◌==◌, nat_lt, cond, List, [], ◌∷◌, ◌++◌, map, refl, ap, arith}
use Rattle.std.specs.List.{list_any, count_by}
use Rattle.std.proofs.lemmas.Bool.{eq-eqb, ne_eqb, lt-ltb, ltb-true, eqb-true}
use Rattle.std.proofs.lemmas.List.Sums.{sum_by-append}
use Rattle.cp_walk.specs.Cutting.{Each, Pairwise, begins, is_before, parts_before}

same : (p : ℕ) → (p == p) ≡ true
same p = eq-eqb p p refl

-- first part and second part of a conjunction
pub both_first : (a b : Bool) → (a && b) ≡ true → a ≡ true
both_first true b h = refl
both_first false b h = h

pub both_second : (a b : Bool) → (a && b) ≡ true → b ≡ true
both_second true b h = h
both_second false b h = absurd (cc)

-- parts_before is dictionary order
before_step : (a b x y : Bool) → (x ≡ true → y ≡ true) → (a || (b && x)) ≡ true → (a || (b && y)) ≡ true
before_step true b x y f h = refl
before_step false true x y f h = f h
before_step false false x y f h = h

pub parted_before : (v w : List ℕ) → parts_before v w ≡ true → is_before v w ≡ true
parted_before [] w h = absurd (cc)
parted_before (p ∷ v) [] h = h
parted_before (p ∷ v) (q ∷ w) h = before_step (nat_lt p q) (p == q) (parts_before v w) (is_before v w) (parted_before v w) h

-- the words that come before another come before what it begins
pub before_longer : (v w x : List ℕ) → parts_before v w ≡ true → parts_before v (w ++ x) ≡ true
before_longer [] w x h = absurd (cc)
before_longer (p ∷ v) [] x h = absurd (cc)
before_longer (p ∷ v) (q ∷ w) x h = before_step (nat_lt p q) (p == q) (parts_before v w) (parts_before v (w ++ x)) (before_longer v w x) h

pub longer_before : (v w x : List ℕ) → parts_before v w ≡ true → parts_before (v ++ x) w ≡ true
longer_before [] w x h = absurd (cc)
longer_before (p ∷ v) [] x h = absurd (cc)
longer_before (p ∷ v) (q ∷ w) x h = before_step (nat_lt p q) (p == q) (parts_before v w) (parts_before (v ++ x) w) (longer_before v w x) h

pub siblings : (w : List ℕ) (p q : ℕ) → p < q → parts_before (w ++ p ∷ []) (w ++ q ∷ []) ≡ true
siblings [] p q lt = ap (λ b. b || ((p == q) && false)) (lt-ltb p q lt)
siblings (n ∷ w) p q lt = either (nat_lt n n) (n == n) (parts_before (w ++ p ∷ []) (w ++ q ∷ [])) (same n) (siblings w p q lt)
  where
    either : (a b c : Bool) → b ≡ true → c ≡ true → (a || (b && c)) ≡ true
    either true b c h k = refl
    either false b c h k = ap (λ x. x && c) h ∙ k

last : (a b : Bool) → b ≡ false → (a && b) ≡ false
last true b e = e
last false b e = refl

-- where a word begins a third, one that it comes before doesn't
not_both : (v w x : List ℕ) → parts_before v w ≡ true → begins v x ≡ true → begins w x ≡ false
not_both [] w x h k = absurd (cc)
not_both (p ∷ v) [] x h k = absurd (cc)
not_both (p ∷ v) (q ∷ w) [] h k = refl
not_both (p ∷ v) (q ∷ w) (r ∷ x) h k =
    let e : p ≡ r = eqb-true p r (both_first (p == r) (begins v x) k) in
    deeper (nat_lt p q) refl (p == q) refl h (λ g. not_both v w x g (both_second (p == r) (begins v x) k))
  where
    deeper : (a : Bool) → nat_lt p q ≡ a → (b : Bool) → (p == q) ≡ b → (a || (b && parts_before v w)) ≡ true → (parts_before v w ≡ true → begins w x ≡ false) → ((q == r) && begins w x) ≡ false
    deeper true lt b s g on = ap (λ c. c && begins w x) (ne_eqb q r (λ e. let less = ltb-true p q lt in let f : p ≡ r = eqb-true p r (both_first (p == r) (begins v x) k) in omega (arith, less, e, f)))
    deeper false lt true s g on = last (q == r) (begins w x) (on g)
    deeper false lt false s g on = absurd (cc)

pub each_map_to : {A B : Type 0} (P : A → Type 0) (Q : B → Type 0) (f : A → B) (xs : List A) → ((x : A) → P x → Q (f x)) → Each P xs → Each Q (map f xs)
each_map_to P Q f [] h e = tt
each_map_to P Q f (x ∷ xs) h e = (h x e.0, each_map_to P Q f xs h e.1)

pub each_to : {A : Type 0} (P Q : A → Type 0) (xs : List A) → ((x : A) → P x → Q x) → Each P xs → Each Q xs
each_to P Q [] h e = tt
each_to P Q (x ∷ xs) h e = (h x e.0, each_to P Q xs h e.1)

pub each_append : {A : Type 0} (P : A → Type 0) (xs ys : List A) → Each P xs → Each P ys → Each P (xs ++ ys)
each_append P [] ys e f = f
each_append P (x ∷ xs) ys e f = (e.0, each_append P xs ys e.1 f)

pub each_parts : {A : Type 0} (P : A → Type 0) (xs ys : List A) → Each P (xs ++ ys) → Each P xs × Each P ys
each_parts P [] ys e = (tt, e)
each_parts P (x ∷ xs) ys e = let rest = each_parts P xs ys e.1 in ((e.0, rest.0), rest.1)

pub pairs_to : {A : Type 0} (r s : A → A → Bool) (xs : List A) → ((x y : A) → r x y ≡ true → s x y ≡ true) → Pairwise r xs → Pairwise s xs
pairs_to r s [] h e = tt
pairs_to r s (x ∷ xs) h e = (each_to (λ y. r x y ≡ true) (λ y. s x y ≡ true) xs (h x) e.0, pairs_to r s xs h e.1)

none_count : (ws : List (List ℕ)) (x : List ℕ) → Each (λ w. begins w x ≡ false) ws → count_by (λ w. begins w x) ws ≡ 0
none_count [] x e = refl
none_count (w ∷ ws) x e = let d = sum_by-append (λ v. cond (begins v x) 1 0) (w ∷ []) ws in let h = ap (λ b. count_by (λ v. begins v x) ws + cond b 1 0) e.0 in let n = none_count ws x e.1 in omega (arith, d, h, n)

-- of words that come one before the other, at most one begins a word
pub one_count : (ws : List (List ℕ)) (x : List ℕ) → Pairwise parts_before ws → list_any (λ w. begins w x) ws ≡ true → count_by (λ w. begins w x) ws ≡ 1
one_count [] x a h = absurd (cc)
one_count (w ∷ ws) x a h = by (begins w x) refl h (one_count ws x a.1)
  where
    by : (b : Bool) → begins w x ≡ b → (b || list_any (λ v. begins v x) ws) ≡ true → (list_any (λ v. begins v x) ws ≡ true → count_by (λ v. begins v x) ws ≡ 1) → count_by (λ v. begins v x) (w ∷ ws) ≡ 1
    by true e g k = let d = sum_by-append (λ v. cond (begins v x) 1 0) (w ∷ []) ws in let h = ap (λ b. count_by (λ v. begins v x) ws + cond b 1 0) e in let n = none_count ws x (each_to (λ v. parts_before w v ≡ true) (λ v. begins v x ≡ false) ws (λ v before. not_both w v x before e) a.0) in omega (arith, d, h, n)
    by false e g k = let d = sum_by-append (λ v. cond (begins v x) 1 0) (w ∷ []) ws in let h = ap (λ b. count_by (λ v. begins v x) ws + cond b 1 0) e in let n = k g in omega (arith, d, h, n)
