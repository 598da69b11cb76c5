-- The nodes of the walk are counted by the words that begin a word of its rows.
use Rattle.std.proofs.Common.{◌≡◌, ◌∙◌, ℕ, zero, suc, ◌<◌, ◌≤◌, ◌+◌, ◌⊎◌, ⊎_elim, Bool, true, false, ◌&&◌, nat_lt, if◌then◌else◌, List, [], ◌∷◌, ◌++◌, length, map, Result, Ok, Err, IfOk, refl, sym, ap, subst, arith}
use Rattle.std.proofs.lemmas.Bool.{eq-eqb, ne_eqb, ltb-true, cases_order}
use Rattle.cp_walk.proofs.Words.{length-append, map-append, System, joined_below, Node, Choosing, may, chosen, Line, beginnings, common, words_in}
use Rattle.cp_walk.proofs.Words.{Pairwise, parts_before, behind, walk, IsDue}
use Rattle.cp_walk.proofs.Branches.{branch, walk_due}
use Rattle.cp_walk.proofs.Counted.{added, counted, last_of, walk_parted}

-- ---- what words add

added_append : (prev : List ℕ) (xs ys : List (List ℕ)) → added prev (xs ++ ys) ≡ added prev xs + added (last_of prev xs) ys
added_append prev [] ys = omega arith
added_append prev (x ∷ xs) ys = let e = added_append x xs ys in omega (arith, e)

last_append : (prev : List ℕ) (xs ys : List (List ℕ)) → last_of prev (xs ++ ys) ≡ last_of (last_of prev xs) ys
last_append prev [] ys = refl
last_append prev (x ∷ xs) ys = last_append x xs ys

abbrev size : List (List ℕ) → ℕ
size [] = 0
size (w ∷ ws) = 1 + length w + added w ws

size_beginnings : (ws : List (List ℕ)) → Pairwise parts_before ws → beginnings ws ≡ size ws
size_beginnings [] o = refl
size_beginnings (w ∷ ws) o = let e = counted w ws o in omega (arith, e)

added_behind : (p : ℕ) (v : List ℕ) (ws : List (List ℕ)) → added (p ∷ v) (map (λ w. p ∷ w) ws) ≡ added v ws
added_behind p v [] = refl
added_behind p v (w ∷ ws) =
    let same : common (p ∷ v) (p ∷ w) ≡ suc (common v w) = ap (λ b. if b then suc (common v w) else 0) (eq-eqb p p refl) in
    let rest = added_behind p w ws in
    omega (arith, same, rest)

-- a word that is empty or begins with a number below n
abbrev Below : ℕ → List ℕ → Type 0
Below n [] = Unit {0}
Below n (q ∷ w) = q < n

below_more : (n : ℕ) (w : List ℕ) → Below n w → Below (suc n) w
below_more n [] h = tt
below_more n (q ∷ w) h = omega (arith, h)

apart : (p : ℕ) (v w : List ℕ) → Below p v → common v (p ∷ w) ≡ 0
apart p [] w h = refl
apart p (q ∷ v) w h = ap (λ b. if b then suc (common v w) else 0) (ne_eqb q p (λ e. omega (arith, e, h)))

added_child : (p : ℕ) (prev : List ℕ) (ws : List (List ℕ)) → Below p prev → added prev (map (λ w. p ∷ w) ws) ≡ size ws
added_child p prev [] h = refl
added_child p prev (w ∷ ws) h =
    let none = apart p prev w h in
    let rest = added_behind p w ws in
    omega (arith, none, rest)

last_child : (p : ℕ) (prev : List ℕ) (ws : List (List ℕ)) → Below (suc p) prev → Below (suc p) (last_of prev (map (λ w. p ∷ w) ws))
last_child p prev [] h = h
last_child p prev (w ∷ ws) h = last_child p (p ∷ w) ws (omega arith)

-- ---- the words that begin with one number

words_behind : (p : ℕ) (ls : List Line) → words_in (map (behind (p ∷ [])) ls) ≡ map (λ w. p ∷ w) (words_in ls)
words_behind p [] = refl
words_behind p (l ∷ ls) = ap (λ ws. (p ∷ l.word) ∷ ws) (words_behind p ls)

words_append : (xs ys : List Line) → words_in (xs ++ ys) ≡ words_in xs ++ words_in ys
words_append xs ys = map-append (λ (l : Line). l.word) xs ys

words_if : (p : ℕ) (b : Bool) (ls : List Line) (prev : List ℕ) → Below p prev → Below (suc p) (last_of prev (words_in (if b then map (behind (p ∷ [])) ls else [])))
words_if p true ls prev h = subst (λ ws. Below (suc p) (last_of prev ws)) (sym (words_behind p ls)) (last_child p prev (words_in ls) (below_more p prev h))
words_if p false ls prev h = below_more p prev h

last_joined : {S : Type 0} (sys : System S) (steps k : ℕ) (s : S) (n : ℕ) → Below n (last_of [] (words_in (joined_below n (branch sys steps k s))))
last_joined sys steps k s zero = tt
last_joined sys steps k s (suc n) =
    let f = branch sys steps k s in
    let e : last_of [] (words_in (joined_below n f ++ f n)) ≡ last_of (last_of [] (words_in (joined_below n f))) (words_in (f n)) = ap (last_of []) (words_append (joined_below n f) (f n)) ∙ last_append [] (words_in (joined_below n f)) (words_in (f n)) in
    subst (Below (suc n)) (sym e) (words_if n (may sys s n) (walk sys steps k (chosen sys steps s n)) (last_of [] (words_in (joined_below n f))) (last_joined sys steps k s n))

joined_next : {A : Type 0} (p : ℕ) (f : ℕ → List A) → joined_below (p + 1) f ≡ joined_below p f ++ f p
joined_next p f = let e : p + 1 ≡ suc p = omega arith in ap (λ n. joined_below n f) e

-- what the words that begin with one number more add
added_next : {S : Type 0} (sys : System S) (steps k : ℕ) (s : S) (p : ℕ) → added [] (words_in (joined_below (p + 1) (branch sys steps k s))) ≡ added [] (words_in (joined_below p (branch sys steps k s))) + added (last_of [] (words_in (joined_below p (branch sys steps k s)))) (words_in (branch sys steps k s p))
added_next sys steps k s p =
    let f = branch sys steps k s in
    ap (λ ls. added [] (words_in ls)) (joined_next p f) ∙ ap (added []) (words_append (joined_below p f) (f p)) ∙ added_append [] (words_in (joined_below p f)) (words_in (f p))

branch_on : {S : Type 0} (sys : System S) (steps k : ℕ) (s : S) (p : ℕ) (node : Node S) → may sys s p ≡ true → chosen sys steps s p ≡ node → branch sys steps k s p ≡ map (behind (p ∷ [])) (walk sys steps k node)
branch_on sys steps k s p node is at = ap (λ b. if b then map (behind (p ∷ [])) (walk sys steps k (chosen sys steps s p)) else []) is ∙ ap (λ n. map (behind (p ∷ [])) (walk sys steps k n)) at

branch_off : {S : Type 0} (sys : System S) (steps k : ℕ) (s : S) (p : ℕ) → may sys s p ≡ false → branch sys steps k s p ≡ []
branch_off sys steps k s p is = ap (λ b. if b then map (behind (p ∷ [])) (walk sys steps k (chosen sys steps s p)) else []) is

-- ---- the calls of the walk

-- the calls of a child, and the one that leads to it
pub calls_taken : {S : Type 0} (sys : System S) (steps k : ℕ) (s : S) (p : ℕ) (node : Node S) (old now mid new : ℕ) → may sys s p ≡ true → chosen sys steps s p ≡ node → now ≤ old + added [] (words_in (joined_below p (branch sys steps k s))) → mid ≤ now + 1 → new + 1 ≤ mid + beginnings (words_in (walk sys steps k node)) → new ≤ old + added [] (words_in (joined_below (p + 1) (branch sys steps k s)))
calls_taken sys steps k s p node old now mid new is at h one more =
    let ws = words_in (walk sys steps k node) in
    let prev = last_of [] (words_in (joined_below p (branch sys steps k s))) in
    let count = size_beginnings ws (walk_parted sys steps k node) in
    let child : added prev (words_in (branch sys steps k s p)) ≡ size ws = ap (λ ls. added prev (words_in ls)) (branch_on sys steps k s p node is at) ∙ ap (added prev) (words_behind p (walk sys steps k node)) ∙ added_child p prev ws (last_joined sys steps k s p) in
    let next = added_next sys steps k s p in
    omega (arith, h, one, more, count, child, next)

pub calls_passed : {S : Type 0} (sys : System S) (steps k : ℕ) (s : S) (p old now : ℕ) → may sys s p ≡ false → now ≤ old + added [] (words_in (joined_below p (branch sys steps k s))) → now ≤ old + added [] (words_in (joined_below (p + 1) (branch sys steps k s)))
calls_passed sys steps k s p old now is h =
    let prev = last_of [] (words_in (joined_below p (branch sys steps k s))) in
    let none : added prev (words_in (branch sys steps k s p)) ≡ 0 = ap (λ ls. added prev (words_in ls)) (branch_off sys steps k s p is) in
    let next = added_next sys steps k s p in
    omega (arith, h, none, next)

size_some : (ws : List (List ℕ)) → 0 < length ws → added [] ws + 1 ≡ size ws
size_some [] some = absurd (omega (arith, some))
size_some (w ∷ ws) some = omega arith

words_length : (ls : List Line) → length (words_in ls) ≡ length ls
words_length [] = refl
words_length (l ∷ ls) = ap suc (words_length ls)

-- the calls of all children
pub calls_all : {S : Type 0} (sys : System S) (steps k left n : ℕ) (s : S) (old new : ℕ) → left ≡ k + 1 → n ≡ sys.processes → 0 < length (joined_below n (branch sys steps k s)) → new ≤ old + added [] (words_in (joined_below n (branch sys steps k s))) → new + 1 ≤ old + beginnings (words_in (walk sys steps left (Choosing s)))
calls_all sys steps k left n s old new deep all some h =
    let ls = joined_below n (branch sys steps k s) in
    let is : walk sys steps left (Choosing s) ≡ ls = walk_due sys steps k left s deep ∙ ap (λ i. joined_below i (branch sys steps k s)) (sym all) in
    let count = size_beginnings (words_in (walk sys steps left (Choosing s))) (walk_parted sys steps left (Choosing s)) in
    let same = ap (λ x. size (words_in x)) is in
    let more = size_some (words_in ls) (omega (arith, some, words_length ls)) in
    omega (arith, h, count, same, more)

-- a leaf has one word, the empty one
pub calls_leaf : (lines : List Line) (line : Line) (old : ℕ) → lines ≡ line ∷ [] → line.word ≡ [] → old + 1 ≤ old + beginnings (words_in lines)
calls_leaf lines line old is none =
    let e : beginnings (words_in lines) ≡ beginnings ([] ∷ []) = ap (λ ls. beginnings (words_in ls)) is ∙ ap (λ w. beginnings (w ∷ [])) none in
    let one : beginnings ([] ∷ []) ≡ 1 = refl in
    omega (arith, e, one)

pub if_ok : {A E : Type 0} (P : Type 0) (r : Result A E) → P → IfOk r (λ _. P)
if_ok P (Ok x) h = h
if_ok P (Err e) h = tt

-- ---- each node leads to a row

pub some_taken : {S : Type 0} (sys : System S) (steps k : ℕ) (s : S) (p : ℕ) (node : Node S) → may sys s p ≡ true → chosen sys steps s p ≡ node → 0 < length (walk sys steps k node) → (q : ℕ) → q < p + 1 → may sys s q ≡ true → 0 < length (joined_below (p + 1) (branch sys steps k s))
some_taken sys steps k s p node is at some q lt on =
    let f = branch sys steps k s in
    let ls = walk sys steps k node in
    let a = ap length (joined_next p f) in
    let b = length-append (joined_below p f) (f p) in
    let e = ap length (branch_on sys steps k s p node is at) in
    let d = lines_length p ls in
    omega (arith, a, b, e, d, some)
  where
    lines_length : (p : ℕ) (ls : List Line) → length (map (behind (p ∷ [])) ls) ≡ length ls
    lines_length p [] = refl
    lines_length p (l ∷ ls) = ap suc (lines_length p ls)

pub some_passed : {S : Type 0} (sys : System S) (steps k : ℕ) (s : S) (p : ℕ) → may sys s p ≡ false → ((q : ℕ) → q < p → may sys s q ≡ true → 0 < length (joined_below p (branch sys steps k s))) → (q : ℕ) → q < p + 1 → may sys s q ≡ true → 0 < length (joined_below (p + 1) (branch sys steps k s))
some_passed sys steps k s p off h q lt on =
    let f = branch sys steps k s in
    let a = ap length (joined_next p f) in
    let b = length-append (joined_below p f) (f p) in
    ⊎_elim
    (λ (e : q ≡ p). absurd (let z : true ≡ false = sym on ∙ ap (may sys s) e ∙ off in cc))
    (λ (apart : (q < p) ⊎ (p < q)).
    ⊎_elim
    (λ (below : q < p). let some = h q below on in omega (arith, a, b, some))
    (λ (above : p < q). absurd (omega (arith, above, lt)))
    apart)
    (cases_order q p)

may_below : {S : Type 0} (sys : System S) (s : S) (p : ℕ) → may sys s p ≡ true → p < sys.processes
unfolding may
may_below sys s p h = ltb-true p sys.processes (first (nat_lt p sys.processes) (if sys.is_pending s then sys.in_line s p else sys.is_ready s p) h)
  where
    first : (a b : Bool) → (a && b) ≡ true → a ≡ true
    first true b e = refl
    first false b e = e

-- all children of a due choice together have a row
pub some_all : {S : Type 0} (sys : System S) (steps k n : ℕ) (s : S) → IsDue sys (Choosing s) → n ≡ sys.processes → ((q : ℕ) → q < n → may sys s q ≡ true → 0 < length (joined_below n (branch sys steps k s))) → 0 < length (joined_below n (branch sys steps k s))
some_all sys steps k n s due all h =
    let q = due.0 in
    let lt = may_below sys s q due.1 in
    h q (omega (arith, lt, all)) due.1

pub some_walk : {S : Type 0} (sys : System S) (steps k left n : ℕ) (s : S) → left ≡ k + 1 → n ≡ sys.processes → 0 < length (joined_below n (branch sys steps k s)) → 0 < length (walk sys steps left (Choosing s))
some_walk sys steps k left n s deep all some =
    let is : walk sys steps left (Choosing s) ≡ joined_below n (branch sys steps k s) = walk_due sys steps k left s deep ∙ ap (λ i. joined_below i (branch sys steps k s)) (sym all) in
    let e = ap length is in
    omega (arith, e, some)
