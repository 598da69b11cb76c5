-- How many words begin those of a list.
use Rattle.std.proofs.Common.{◌≡◌, ◌∙◌, ℕ, suc, ◌≤◌, ◌+◌, Bool, true, false, ◌&&◌, ◌||◌, ◌==◌, nat_lt, if◌then◌else◌, List, [], ◌∷◌, length, map, refl, sym, ap, arith}
use Rattle.cp_walk.proofs.Words.{nat_eq, list_any, eq-eqb, ltb-true, eqb-true, length-map, pointwise, beginnings_of, common, with_new, Each, begins}
use Rattle.cp_walk.proofs.Words.{parts_before}
use Rattle.std.specs.Cmp.Lexicographic.{same_text}

abbrev pub eq : List ℕ → List ℕ → Bool
eq v w = pointwise nat_eq v w

abbrev pub among : List ℕ → List (List ℕ) → Bool
among x found = list_any (pointwise nat_eq x) found

pub common_within : (v w : List ℕ) → common v w ≤ length w
common_within [] w = omega arith
common_within (p ∷ v) [] = omega arith
common_within (p ∷ v) (q ∷ w) = by (p == q) (common_within v w)
  where
    by : (b : Bool) → common v w ≤ length w → (if b then suc (common v w) else 0) ≤ suc (length w)
    by true h = omega (arith, h)
    by false h = omega arith

-- how many of these are none of the found, each counted once
abbrev pub fresh : List (List ℕ) → List (List ℕ) → ℕ
fresh found [] = 0
fresh found (x ∷ xs) = if among x found then fresh found xs else suc (fresh (x ∷ found) xs)

pub fresh_length : (xs found : List (List ℕ)) → length (with_new found xs) ≡ length found + fresh found xs
fresh_length [] found = omega arith
fresh_length (x ∷ xs) found = by (among x found) (fresh_length xs found) (fresh_length xs (x ∷ found))
  where
    by : (b : Bool) → length (with_new found xs) ≡ length found + fresh found xs → length (with_new (x ∷ found) xs) ≡ suc (length found) + fresh (x ∷ found) xs → length (with_new (if b then found else x ∷ found) xs) ≡ length found + (if b then fresh found xs else suc (fresh (x ∷ found) xs))
    by true h k = h
    by false h k = omega (arith, k)

-- how many of these do not pass
abbrev pub misses : (List ℕ → Bool) → List (List ℕ) → ℕ
misses p [] = 0
misses p (x ∷ xs) = if p x then misses p xs else suc (misses p xs)

abbrev pub Distinct : List (List ℕ) → Type 0
Distinct [] = Unit {0}
Distinct (x ∷ xs) = Each (λ y. eq y x ≡ false) xs × Distinct xs

-- where being found is a test
pub fresh_misses : (p : List ℕ → Bool) (xs found : List (List ℕ)) → Distinct xs → Each (λ x. among x found ≡ p x) xs → fresh found xs ≡ misses p xs
fresh_misses p [] found d h = refl
fresh_misses p (x ∷ xs) found d h =
    by (p x) h.0 (fresh_misses p xs found d.1 h.1) (fresh_misses p xs (x ∷ found) d.1 (still xs d.0 h.1))
  where
    still : (ys : List (List ℕ)) → Each (λ y. eq y x ≡ false) ys → Each (λ y. among y found ≡ p y) ys → Each (λ y. among y (x ∷ found) ≡ p y) ys
    still [] e k = tt
    still (y ∷ ys) e k = (ap (λ b. b || among y found) e.0 ∙ k.0, still ys e.1 k.1)

    by : (b : Bool) → among x found ≡ b → fresh found xs ≡ misses p xs → fresh (x ∷ found) xs ≡ misses p xs → (if among x found then fresh found xs else suc (fresh (x ∷ found) xs)) ≡ (if b then misses p xs else suc (misses p xs))
    by true e k l = ap (λ t. if t then fresh found xs else suc (fresh (x ∷ found) xs)) e ∙ k
    by false e k l = ap (λ t. if t then fresh found xs else suc (fresh (x ∷ found) xs)) e ∙ ap suc l

misses_map : (p : List ℕ → Bool) (q : ℕ) (xs : List (List ℕ)) → misses p (map (λ w. q ∷ w) xs) ≡ misses (λ w. p (q ∷ w)) xs
misses_map p q [] = refl
misses_map p q (x ∷ xs) = ap (λ n. if p (q ∷ x) then n else suc n) (misses_map p q xs)

misses_all : (p : List ℕ → Bool) (xs : List (List ℕ)) → ((x : List ℕ) → p x ≡ false) → misses p xs ≡ length xs
misses_all p [] h = refl
misses_all p (x ∷ xs) h = ap (λ b. if b then misses p xs else suc (misses p xs)) (h x) ∙ ap suc (misses_all p xs h)

misses_same : (p r : List ℕ → Bool) (xs : List (List ℕ)) → ((x : List ℕ) → p x ≡ r x) → misses p xs ≡ misses r xs
misses_same p r [] h = refl
misses_same p r (x ∷ xs) h = ap (λ b. if b then misses p xs else suc (misses p xs)) (h x) ∙ ap (λ n. if r x then n else suc n) (misses_same p r xs h)

pub length_beginnings : (w : List ℕ) → length (beginnings_of w) ≡ suc (length w)
length_beginnings [] = refl
length_beginnings (p ∷ w) = ap suc (length-map (beginnings_of w) (λ v. p ∷ v) ∙ length_beginnings w)

-- those beginnings of a word that do not begin another
pub misses_common : (v w : List ℕ) → misses (λ x. begins x v) (beginnings_of w) + common v w ≡ length w
misses_common [] [] = refl
misses_common (q ∷ v) [] = refl
misses_common [] (p ∷ w) =
    let n = length_beginnings w in
    let m = misses_map (λ x. begins x []) p (beginnings_of w) ∙ misses_all (λ x. begins (p ∷ x) []) (beginnings_of w) (λ x. refl) in
    omega (arith, n, m)
misses_common (q ∷ v) (p ∷ w) = by (p == q) refl (q == p) refl (misses_common v w)
  where
    rest : ℕ
    rest = misses (λ x. begins x (q ∷ v)) (map (λ x. p ∷ x) (beginnings_of w))

    by : (b : Bool) → (p == q) ≡ b → (c : Bool) → (q == p) ≡ c → misses (λ x. begins x v) (beginnings_of w) + common v w ≡ length w → rest + (if c then suc (common v w) else 0) ≡ suc (length w)
    by true e true f h = let m = misses_map (λ x. begins x (q ∷ v)) p (beginnings_of w) ∙ misses_same (λ x. begins (p ∷ x) (q ∷ v)) (λ x. begins x v) (beginnings_of w) (λ x. ap (λ b. b && begins x v) e) in omega (arith, m, h)
    by false e false f h = let m = misses_map (λ x. begins x (q ∷ v)) p (beginnings_of w) ∙ misses_all (λ x. begins (p ∷ x) (q ∷ v)) (beginnings_of w) (λ x. ap (λ b. b && begins x v) e) in let n = length_beginnings w in omega (arith, m, n)
    by true e false f h = absurd (let g = eq-eqb q p (sym (eqb-true p q e)) in let k : true ≡ false = sym g ∙ f in cc)
    by false e true f h = absurd (let g = eq-eqb p q (sym (eqb-true q p f)) in let k : true ≡ false = sym g ∙ e in cc)

distinct_map : (p : ℕ) (xs : List (List ℕ)) → Distinct xs → Distinct (map (λ w. p ∷ w) xs)
distinct_map p [] d = tt
distinct_map p (x ∷ xs) d = (all xs d.0, distinct_map p xs d.1)
  where
    all : (ys : List (List ℕ)) → Each (λ y. eq y x ≡ false) ys → Each (λ y. eq y (p ∷ x) ≡ false) (map (λ w. p ∷ w) ys)
    all [] e = tt
    all (y ∷ ys) e = (second (nat_eq p p) (eq y x) e.0, all ys e.1)
      where
        second : (a b : Bool) → b ≡ false → (a && b) ≡ false
        second true b h = h
        second false b h = refl

pub distinct_beginnings : (w : List ℕ) → Distinct (beginnings_of w)
distinct_beginnings [] = (tt, tt)
distinct_beginnings (p ∷ w) = (all (beginnings_of w), distinct_map p (beginnings_of w) (distinct_beginnings w))
  where
    all : (ys : List (List ℕ)) → Each (λ y. eq y [] ≡ false) (map (λ v. p ∷ v) ys)
    all [] = tt
    all (y ∷ ys) = (refl, all ys)

-- what is found is what was found and what is new
pub among_new : (xs found : List (List ℕ)) (x : List ℕ) → among x (with_new found xs) ≡ (among x found || among x xs)
among_new [] found x = none (among x found)
  where
    none : (b : Bool) → b ≡ (b || false)
    none true = refl
    none false = refl
among_new (y ∷ ys) found x = by (among y found) refl (among_new ys found x) (among_new ys (y ∷ found) x)
  where
    swap : (a b c : Bool) → ((a || b) || c) ≡ (b || (a || c))
    swap true true c = refl
    swap true false c = refl
    swap false true c = refl
    swap false false c = refl

    there : (b : Bool) → eq x y ≡ b → among y found ≡ true → (among x found || among x ys) ≡ (among x found || (b || among x ys))
    there true e f = let in_found : among x found ≡ true = ap (λ v. among v found) (same_text x y (sym e)) ∙ f in ap (λ b. b || among x ys) in_found ∙ sym (ap (λ b. b || (true || among x ys)) in_found)
    there false e f = refl

    by : (b : Bool) → among y found ≡ b → among x (with_new found ys) ≡ (among x found || among x ys) → among x (with_new (y ∷ found) ys) ≡ ((eq x y || among x found) || among x ys) → among x (with_new (if b then found else y ∷ found) ys) ≡ (among x found || (eq x y || among x ys))
    by true e h k = h ∙ there (eq x y) refl e
    by false e h k = k ∙ swap (eq x y) (among x found) (among x ys)

among_map : (p q : ℕ) (x : List ℕ) (xs : List (List ℕ)) → among (p ∷ x) (map (λ w. q ∷ w) xs) ≡ (nat_eq p q && among x xs)
among_map p q x [] = none (nat_eq p q)
  where
    none : (b : Bool) → false ≡ (b && false)
    none true = refl
    none false = refl
among_map p q x (y ∷ ys) = ap (λ b. (nat_eq p q && eq x y) || b) (among_map p q x ys) ∙ spread (nat_eq p q) (eq x y) (among x ys)
  where
    spread : (a b c : Bool) → ((a && b) || (a && c)) ≡ (a && (b || c))
    spread true b c = refl
    spread false b c = refl

none_empty : (q : ℕ) (xs : List (List ℕ)) → among [] (map (λ w. q ∷ w) xs) ≡ false
none_empty q [] = refl
none_empty q (x ∷ xs) = none_empty q xs

-- the beginnings are the words that begin it
pub among_beginnings : (x w : List ℕ) → among x (beginnings_of w) ≡ begins x w
among_beginnings [] [] = refl
among_beginnings [] (q ∷ w) = refl
among_beginnings (p ∷ x) [] = refl
among_beginnings (p ∷ x) (q ∷ w) = among_map p q x (beginnings_of w) ∙ ap (λ b. nat_eq p q && b) (among_beginnings x w)

-- a word that begins two words, one of which comes before the other, begins each between them
pub between : (x v u w : List ℕ) → begins x v ≡ true → begins x w ≡ true → parts_before v u ≡ true → parts_before u w ≡ true → begins x u ≡ true
between [] v u w h k a b = refl
between (p ∷ x) [] u w h k a b = absurd (cc)
between (p ∷ x) (q ∷ v) [] w h k a b = absurd (cc)
between (p ∷ x) (q ∷ v) (r ∷ u) [] h k a b = absurd (cc)
between (p ∷ x) (q ∷ v) (r ∷ u) (t ∷ w) h k a b = by (nat_lt q r) refl (nat_lt r t) refl a b (λ c d. between x v u w (and_second (p == q) (begins x v) h) (and_second (p == t) (begins x w) k) c d)
  where
    and_first : (a b : Bool) → (a && b) ≡ true → a ≡ true
    and_first true b h = refl
    and_first false b h = h

    and_second : (a b : Bool) → (a && b) ≡ true → b ≡ true
    and_second true b h = h
    and_second false b h = absurd (cc)

    pq : p ≡ q
    pq = eqb-true p q (and_first (p == q) (begins x v) h)

    pt : p ≡ t
    pt = eqb-true p t (and_first (p == t) (begins x w) k)

    not_above : (m n : ℕ) (c : Bool) → (false || ((m == n) && c)) ≡ true → m ≡ n
    not_above m n c e = eqb-true m n (and_first (m == n) c e)

    by : (l : Bool) → nat_lt q r ≡ l → (m : Bool) → nat_lt r t ≡ m → (l || ((q == r) && parts_before v u)) ≡ true → (m || ((r == t) && parts_before u w)) ≡ true → (parts_before v u ≡ true → parts_before u w ≡ true → begins x u ≡ true) → ((p == r) && begins x u) ≡ true
    by true lt true mt c d on = absurd (let f = ltb-true q r lt in let g = ltb-true r t mt in omega (arith, f, g, pq, pt))
    by true lt false mt c d on = absurd (let f = ltb-true q r lt in let g = not_above r t (parts_before u w) d in omega (arith, f, g, pq, pt))
    by false lt true mt c d on = absurd (let f = not_above q r (parts_before v u) c in let g = ltb-true r t mt in omega (arith, f, g, pq, pt))
    by false lt false mt c d on = ap (λ b. b && begins x u) (eq-eqb p r (pq ∙ not_above q r (parts_before v u) c)) ∙ on (and_second (q == r) (parts_before v u) c) (and_second (r == t) (parts_before u w) d)
