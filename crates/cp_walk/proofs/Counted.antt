-- The count of beginnings, word by word.
use Rattle.std.proofs.Common.{◌≡◌, ◌∙◌, ℕ, zero, suc, ◌<◌, ◌+◌, ◌-◌, Bool, true, false, ◌&&◌, ◌||◌, ◌==◌, nat_lt, if◌then◌else◌, List, [], ◌∷◌, ◌++◌, length, map, take, get_or, refl, sym, ap, subst, arith}
use Rattle.cp_walk.proofs.Words.{eq-eqb, lt-ltb, ltb-true, eqb-true, Tables, Limits, slots, Row, line_of, System, joined_below, Node, Halted, Choosing, may}
use Rattle.cp_walk.proofs.Words.{chosen, opened, Line, each, table, words_of_rows, words_in, common, beginnings_of, with_new, beginnings, Each, Pairwise}
use Rattle.cp_walk.proofs.Words.{begins, parts_before, behind, walk}
use Rattle.std.proofs.lemmas.List.{map-append, map_more}
use Rattle.std.proofs.Math.Seq.{take-length}
use Rattle.cp_walk.proofs.Counting.{among, misses, fresh_length, fresh_misses, misses_common, distinct_beginnings, among_new, among_beginnings, between, length_beginnings}
use Rattle.cp_walk.proofs.Orders.{each_to, each_append, each_map_to}
use Rattle.cp_walk.proofs.Walks.{table_walk}

-- what the words add, each to the one before it
abbrev pub added : List ℕ → List (List ℕ) → ℕ
added prev [] = 0
added prev (w ∷ ws) = (length w - common prev w) + added w ws

with_more : (xs ys found : List (List ℕ)) → with_new found (xs ++ ys) ≡ with_new (with_new found xs) ys
with_more [] ys found = refl
with_more (x ∷ xs) ys found = with_more xs ys (if among x found then found else x ∷ found)

both_first : (a b : Bool) → (a && b) ≡ true → a ≡ true
both_first true b h = refl
both_first false b h = h

both_second : (a b : Bool) → (a && b) ≡ true → b ≡ true
both_second true b h = h
both_second false b h = absurd (cc)

either_left : (a b : Bool) → a ≡ true → (a || b) ≡ true
either_left true b h = refl
either_left false b h = absurd (cc)

either_right : (a b : Bool) → b ≡ true → (a || b) ≡ true
either_right true b h = refl
either_right false b h = h

trans : (u v w : List ℕ) → parts_before u v ≡ true → parts_before v w ≡ true → parts_before u w ≡ true
trans [] v w a b = absurd (cc)
trans (p ∷ u) [] w a b = absurd (cc)
trans (p ∷ u) (q ∷ v) [] a b = absurd (cc)
trans (p ∷ u) (q ∷ v) (r ∷ w) a b = by (nat_lt p q) refl (nat_lt q r) refl a b (λ c d. trans u v w c d)
  where
    same : (m n : ℕ) (c : Bool) → (false || ((m == n) && c)) ≡ true → m ≡ n
    same m n c e = eqb-true m n (both_first (m == n) c e)

    by : (l : Bool) → nat_lt p q ≡ l → (m : Bool) → nat_lt q r ≡ m → (l || ((p == q) && parts_before u v)) ≡ true → (m || ((q == r) && parts_before v w)) ≡ true → (parts_before u v ≡ true → parts_before v w ≡ true → parts_before u w ≡ true) → (nat_lt p r || ((p == r) && parts_before u w)) ≡ true
    by true l true m c d on = either_left (nat_lt p r) ((p == r) && parts_before u w) (lt-ltb p r (let f = ltb-true p q l in let g = ltb-true q r m in omega (arith, f, g)))
    by true l false m c d on = either_left (nat_lt p r) ((p == r) && parts_before u w) (lt-ltb p r (let f = ltb-true p q l in let g = same q r (parts_before v w) d in omega (arith, f, g)))
    by false l true m c d on = either_left (nat_lt p r) ((p == r) && parts_before u w) (lt-ltb p r (let f = same p q (parts_before u v) c in let g = ltb-true q r m in omega (arith, f, g)))
    by false l false m c d on = either_right (nat_lt p r) ((p == r) && parts_before u w) (ap (λ b. b && parts_before u w) (eq-eqb p r (same p q (parts_before u v) c ∙ same q r (parts_before v w) d)) ∙ on (both_second (p == q) (parts_before u v) c) (both_second (q == r) (parts_before v w) d))

-- what is found after the words up to this one
record Known (prev : List ℕ) (found : List (List ℕ)) : Type 0 where
  held : (x : List ℕ) → begins x prev ≡ true → among x found ≡ true
  late : (x u : List ℕ) → parts_before prev u ≡ true → begins x u ≡ true → among x found ≡ true → begins x prev ≡ true

begins_each : (w : List ℕ) → Each (λ x. begins x w ≡ true) (beginnings_of w)
begins_each [] = (refl, tt)
begins_each (p ∷ w) = (refl, each_map_to (λ x. begins x w ≡ true) (λ x. begins x (p ∷ w) ≡ true) (λ x. p ∷ x) (beginnings_of w) (λ x h. ap (λ b. b && begins x w) (eq-eqb p p refl) ∙ h) (begins_each w))

known_next : (prev w : List ℕ) (found : List (List ℕ)) → parts_before prev w ≡ true → Known prev found → Known w (with_new found (beginnings_of w))
known_next prev w found a k =
    record {
      held = λ x h. among_new (beginnings_of w) found x ∙ either_right (among x found) (among x (beginnings_of w)) (among_beginnings x w ∙ h);
      late = λ x u b h m. by x u b h (among x found) refl (sym (ap (λ t. among x found || t) (among_beginnings x w)) ∙ sym (among_new (beginnings_of w) found x) ∙ m);
    }
  where
    by : (x u : List ℕ) → parts_before w u ≡ true → begins x u ≡ true → (t : Bool) → among x found ≡ t → (among x found || begins x w) ≡ true → begins x w ≡ true
    by x u b h true e m = between x prev w u (k.late x u (trans prev w u a b) h e) h a b
    by x u b h false e m = sym (ap (λ t. t || begins x w) e) ∙ m

count_next : (prev w : List ℕ) (found : List (List ℕ)) → parts_before prev w ≡ true → Known prev found → length (with_new found (beginnings_of w)) ≡ length found + (length w - common prev w)
count_next prev w found a k =
    let all = each_to (λ x. begins x w ≡ true) (λ x. among x found ≡ begins x prev) (beginnings_of w) (λ x h. told x h (begins x prev) refl (among x found) refl) (begins_each w) in
    let n = fresh_length (beginnings_of w) found in
    let m = fresh_misses (λ x. begins x prev) (beginnings_of w) found (distinct_beginnings w) all in
    let c = misses_common prev w in
    omega (arith, n, m, c)
  where
    told : (x : List ℕ) → begins x w ≡ true → (s : Bool) → begins x prev ≡ s → (t : Bool) → among x found ≡ t → among x found ≡ begins x prev
    told x h true e t f = k.held x e ∙ sym e
    told x h false e true f = absurd (let g = k.late x w a h f in let z : true ≡ false = sym g ∙ e in cc)
    told x h false e false f = f ∙ sym e

count_rest : (ws : List (List ℕ)) (prev : List ℕ) (found : List (List ℕ)) → Pairwise parts_before (prev ∷ ws) → Known prev found → length (with_new found (each beginnings_of ws)) ≡ length found + added prev ws
count_rest [] prev found o k = omega arith
count_rest (w ∷ ws) prev found o k =
    let next = with_new found (beginnings_of w) in
    let e = ap length (with_more (beginnings_of w) (each beginnings_of ws) found) in
    let here = count_next prev w found o.0.0 k in
    let rest = count_rest ws w next o.1 (known_next prev w found o.0.0 k) in
    omega (arith, e, here, rest)

known_first : (w : List ℕ) → Known w (with_new [] (beginnings_of w))
known_first w = record { held = λ x h. among_new (beginnings_of w) [] x ∙ among_beginnings x w ∙ h; late = λ x u b h m. sym (among_beginnings x w) ∙ sym (among_new (beginnings_of w) [] x) ∙ m }

misses_never : (p : List ℕ → Bool) (xs : List (List ℕ)) → ((x : List ℕ) → p x ≡ false) → misses p xs ≡ length xs
misses_never p [] h = refl
misses_never p (x ∷ xs) h = ap (λ b. if b then misses p xs else suc (misses p xs)) (h x) ∙ ap suc (misses_never p xs h)

each_refl : (p : List ℕ → Bool) (xs found : List (List ℕ)) → ((x : List ℕ) → among x found ≡ p x) → Each (λ x. among x found ≡ p x) xs
each_refl p [] found h = tt
each_refl p (x ∷ xs) found h = (h x, each_refl p xs found h)

-- the count of words that part one before the other
pub counted : (w : List ℕ) (ws : List (List ℕ)) → Pairwise parts_before (w ∷ ws) → beginnings (w ∷ ws) ≡ 1 + added [] (w ∷ ws)
counted w ws o =
    let first = with_new [] (beginnings_of w) in
    let e = ap length (with_more (beginnings_of w) (each beginnings_of ws) []) in
    let n = fresh_length (beginnings_of w) [] in
    let m = fresh_misses (λ x. false) (beginnings_of w) [] (distinct_beginnings w) (each_refl (λ x. false) (beginnings_of w) [] (λ x. refl)) ∙ misses_never (λ x. false) (beginnings_of w) (λ x. refl) ∙ length_beginnings w in
    let rest = count_rest ws w first o (known_first w) in
    omega (arith, e, n, m, rest)

-- ---- the words of a table part one before the other

abbrev StartsBelow : ℕ → List ℕ → Type 0
StartsBelow n [] = ⊥
StartsBelow n (p ∷ w) = p < n

pairs_append : {A : Type 0} (r : A → A → Bool) (xs ys : List A) → Pairwise r xs → Pairwise r ys → Each (λ x. Each (λ y. r x y ≡ true) ys) xs → Pairwise r (xs ++ ys)
pairs_append r [] ys a b c = b
pairs_append r (x ∷ xs) ys a b c = (each_append (λ y. r x y ≡ true) xs ys a.0 c.0, pairs_append r xs ys a.1 b c.1)

abbrev StartsWith : ℕ → List ℕ → Type 0
StartsWith n [] = ⊥
StartsWith n (p ∷ w) = p ≡ n

below_with : (n : ℕ) (v w : List ℕ) → StartsBelow n v → StartsWith n w → parts_before v w ≡ true
below_with n [] w a b = absurd a
below_with n (p ∷ v) [] a b = absurd b
below_with n (p ∷ v) (q ∷ w) a b = either_left (nat_lt p q) ((p == q) && parts_before v w) (lt-ltb p q (omega (arith, a, b)))

joined_parted : (n : ℕ) (f : ℕ → List Line) → ((p : ℕ) → Pairwise parts_before (words_in (f p)) × Each (StartsWith p) (words_in (f p))) → Pairwise parts_before (words_in (joined_below n f)) × Each (StartsBelow n) (words_in (joined_below n f))
joined_parted zero f h = (tt, tt)
joined_parted (suc n) f h =
    let before = joined_parted n f h in
    let here = h n in
    let shape = map-append (λ (l : Line). l.word) (joined_below n f) (f n) in
    let pairs = pairs_append parts_before (words_in (joined_below n f)) (words_in (f n)) before.0 here.0 (each_to (StartsBelow n) (λ v. Each (λ w. parts_before v w ≡ true) (words_in (f n))) (words_in (joined_below n f)) (λ v a. each_to (StartsWith n) (λ w. parts_before v w ≡ true) (words_in (f n)) (λ w b. below_with n v w a b) here.1) before.1) in
    let starts = each_append (StartsBelow (suc n)) (words_in (joined_below n f)) (words_in (f n)) (each_to (StartsBelow n) (StartsBelow (suc n)) (words_in (joined_below n f)) (λ v a. more v a) before.1) (each_to (StartsWith n) (StartsBelow (suc n)) (words_in (f n)) (λ w b. last w b) here.1) in
    (subst (Pairwise parts_before) (sym shape) pairs, subst (Each (StartsBelow (suc n))) (sym shape) starts)
  where
    more : (v : List ℕ) → StartsBelow n v → StartsBelow (suc n) v
    more [] a = a
    more (p ∷ v) a = omega (arith, a)

    last : (w : List ℕ) → StartsWith n w → StartsBelow (suc n) w
    last [] b = b
    last (p ∷ w) b = omega (arith, b)

behind_parted : (p : ℕ) (ls : List Line) → Pairwise parts_before (words_in ls) → Pairwise parts_before (words_in (map (behind (p ∷ [])) ls)) × Each (StartsWith p) (words_in (map (behind (p ∷ [])) ls))
behind_parted p [] a = (tt, tt)
behind_parted p (l ∷ ls) a = let rest = behind_parted p ls a.1 in ((all l.word ls a.0, rest.0), (refl, rest.1))
  where
    all : (v : List ℕ) (ms : List Line) → Each (λ w. parts_before v w ≡ true) (words_in ms) → Each (λ w. parts_before (p ∷ v) w ≡ true) (words_in (map (behind (p ∷ [])) ms))
    all v [] e = tt
    all v (m ∷ ms) e = (either_right (nat_lt p p) ((p == p) && parts_before v m.word) (ap (λ b. b && parts_before v m.word) (eq-eqb p p refl) ∙ e.0), all v ms e.1)

pub walk_parted : {S : Type 0} (sys : System S) (steps k : ℕ) (node : Node S) → Pairwise parts_before (words_in (walk sys steps k node))
unfolding walk
walk_parted sys steps k (Halted kind s) = (tt, tt)
walk_parted sys steps zero (Choosing s) = (tt, tt)
walk_parted sys steps (suc k) (Choosing s) =
    (joined_parted sys.processes (λ p. if may sys s p then map (behind (p ∷ [])) (walk sys steps k (chosen sys steps s p)) else []) (λ p. one p (may sys s p) (walk sys steps k (chosen sys steps s p)) (walk_parted sys steps k (chosen sys steps s p)))).0
  where
    one : (p : ℕ) (b : Bool) (ls : List Line) → Pairwise parts_before (words_in ls) → Pairwise parts_before (words_in (if b then map (behind (p ∷ [])) ls else [])) × Each (StartsWith p) (words_in (if b then map (behind (p ∷ [])) ls else []))
    one p true ls a = behind_parted p ls a
    one p false ls a = (tt, tt)

pub table_parted : {S : Type 0} (sys : System S) (choices steps : ℕ) → Pairwise parts_before (words_in (table sys choices steps))
table_parted sys choices steps = subst (λ ls. Pairwise parts_before (words_in ls)) (sym (table_walk sys choices steps)) (walk_parted sys steps choices (opened sys steps))

abbrev pub last_of : List ℕ → List (List ℕ) → List ℕ
last_of prev [] = prev
last_of prev (w ∷ ws) = last_of w ws

last_appended : (prev : List ℕ) (ws : List (List ℕ)) (w : List ℕ) → last_of prev (ws ++ w ∷ []) ≡ w
last_appended prev [] w = refl
last_appended prev (v ∷ ws) w = last_appended v ws w

-- one word more at the end
pub added_more : (prev : List ℕ) (ws : List (List ℕ)) (last w : List ℕ) → last ≡ last_of prev ws → added prev (ws ++ w ∷ []) ≡ added prev ws + (length w - common last w)
added_more prev [] last w e = let f = ap (λ v. length w - common v w) e in omega (arith, f)
added_more prev (v ∷ ws) last w e = let r = added_more v ws last w e in omega (arith, r)

pub rows_words : (rows : List Row) → words_in (map line_of rows) ≡ words_of_rows rows
rows_words [] = refl
rows_words (r ∷ rs) = ap (λ l. r.word.items ∷ l) (rows_words rs)

-- the words of the rows of a table
pub rows_parted : (r : Tables) (l : Limits) (rows : List Row) → map line_of rows ≡ table (slots r l.discipline) l.choices l.steps → Pairwise parts_before (words_of_rows rows)
rows_parted r l rows e = subst (Pairwise parts_before) (ap words_in (sym e) ∙ rows_words rows) (table_parted (slots r l.discipline) l.choices l.steps)

-- the count of the rows of a table
pub counted_rows : (r : Tables) (l : Limits) (rows rest : List Row) (first : Row) (count : ℕ) → map line_of rows ≡ table (slots r l.discipline) l.choices l.steps → rows ≡ first ∷ rest → count ≡ 1 + length first.word.items + added first.word.items (words_of_rows rest) → count ≡ beginnings (words_of_rows rows)
counted_rows r l rows rest first count e at h =
    let parted = subst (λ rs. Pairwise parts_before (words_of_rows rs)) at (rows_parted r l rows e) in
    let all = ap (λ rs. beginnings (words_of_rows rs)) at ∙ counted first.word.items (words_of_rows rest) parted in
    let none : length first.word.items - 0 ≡ length first.word.items = omega arith in
    omega (arith, h, all, none)

-- one row more
pub rows_added : (first last word : List ℕ) (rest : List Row) (k : ℕ) (x : Row) → k < length rest → x ≡ get_or rest k x → word ≡ x.word.items → last ≡ last_of first (words_of_rows (take k rest)) → (added first (words_of_rows (take (k + 1) rest)) ≡ added first (words_of_rows (take k rest)) + (length word - common last word)) × (word ≡ last_of first (words_of_rows (take (k + 1) rest)))
rows_added first last word rest k x lt at w e =
    let more : words_of_rows (take (k + 1) rest) ≡ words_of_rows (take k rest) ++ word ∷ [] = map_more (λ (r : Row). r.word.items) rest k x lt ∙ ap (λ (y : Row). words_of_rows (take k rest) ++ y.word.items ∷ []) (sym at) ∙ ap (λ v. words_of_rows (take k rest) ++ v ∷ []) (sym w) in
    (ap (added first) more ∙ added_more first (words_of_rows (take k rest)) last word e, sym (ap (last_of first) more ∙ last_appended first (words_of_rows (take k rest)) word))

-- all rows are counted
pub taken_rows : (last first : List ℕ) (rest : List Row) (k count : ℕ) → k ≡ length rest → last ≡ first → count ≡ 1 + length last + added last (words_of_rows (take k rest)) → count ≡ 1 + length first + added first (words_of_rows rest)
taken_rows last first rest k count all e h = h ∙ ap (λ rs. 1 + length last + added last (words_of_rows rs)) (ap (λ j. take j rest) all ∙ take-length rest) ∙ ap (λ v. 1 + length v + added v (words_of_rows rest)) e
