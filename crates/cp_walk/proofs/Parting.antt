-- What a split does to the parts of a table.
use Rattle.std.proofs.Common.{◌≡◌, ◌∙◌, ℕ, zero, suc, ◌<◌, Bool, true, false, ◌&&◌, ◌||◌, nat_lt, if◌then◌else◌, List, [], ◌∷◌, ◌++◌, length, map, refl, sym, ap, subst, arith}
use Rattle.std.specs.List.{list_any, count_by}
use Rattle.cp_walk.proofs.Words.{eq-eqb, lt-ltb, ltb-true, append_assoc, map-append, System, Line, each, table, behind, walk}
use Rattle.cp_run.specs.Run.{joined_below, those_below, Node, Halted, Choosing, Answer, Ended, Wants, NotReady, later, may, chosen, opened, run, run_from}
use Rattle.cp_walk.specs.Cutting.{Each, Pairwise, begins, is_before, parts_before, IsUsed, IsCutting, Parts, rows_from, rows_behind, children}
use Rattle.cp_walk.proofs.Orders.{each_map_to, each_to, each_append, each_parts, pairs_to, one_count, parted_before, before_longer, longer_before, siblings}
use Rattle.cp_walk.proofs.Walks.{each_map, each_same}

each_all : (n : ℕ) (f : ℕ → Bool) → Each (λ p. f p ≡ true) (those_below n f)
each_all zero f = tt
each_all (suc n) f = each_append (λ p. f p ≡ true) (those_below n f) (if f n then n ∷ [] else []) (each_all n f) (last (f n) refl)
  where
    last : (b : Bool) → f n ≡ b → Each (λ p. f p ≡ true) (if b then n ∷ [] else [])
    last true e = (e, tt)
    last false e = tt

each_below : (n : ℕ) (f : ℕ → Bool) → Each (λ p. p < n) (those_below n f)
each_below zero f = tt
each_below (suc n) f = each_append (λ p. p < suc n) (those_below n f) (if f n then n ∷ [] else []) (each_to (λ p. p < n) (λ p. p < suc n) (those_below n f) (λ p lt. omega (arith, lt)) (each_below n f)) (last (f n))
  where
    last : (b : Bool) → Each (λ p. p < suc n) (if b then n ∷ [] else [])
    last true = (omega arith, tt)
    last false = tt

pairs_append : {A : Type 0} (r : A → A → Bool) (xs ys : List A) → Pairwise r xs → Pairwise r ys → Each (λ x. Each (λ y. r x y ≡ true) ys) xs → Pairwise r (xs ++ ys)
pairs_append r [] ys a b c = b
pairs_append r (x ∷ xs) ys a b c = (each_append (λ y. r x y ≡ true) xs ys a.0 c.0, pairs_append r xs ys a.1 b c.1)

pairs_parts : {A : Type 0} (r : A → A → Bool) (xs ys : List A) → Pairwise r (xs ++ ys) → Pairwise r xs × Pairwise r ys × Each (λ x. Each (λ y. r x y ≡ true) ys) xs
pairs_parts r [] ys a = (tt, a, tt)
pairs_parts r (x ∷ xs) ys a =
    let here = each_parts (λ y. r x y ≡ true) xs ys a.0 in
    let rest = pairs_parts r xs ys a.1 in
    ((here.0, rest.0), rest.1, (here.1, rest.2))

rising : (n : ℕ) (f : ℕ → Bool) → Pairwise nat_lt (those_below n f)
rising zero f = tt
rising (suc n) f = pairs_append nat_lt (those_below n f) (if f n then n ∷ [] else []) (rising n f) (one (f n)) (each_to (λ p. p < n) (λ p. Each (λ q. nat_lt p q ≡ true) (if f n then n ∷ [] else [])) (those_below n f) (λ p lt. above (f n) p lt) (each_below n f))
  where
    one : (b : Bool) → Pairwise nat_lt (if b then n ∷ [] else [])
    one true = (tt, tt)
    one false = tt

    above : (b : Bool) (p : ℕ) → p < n → Each (λ q. nat_lt p q ≡ true) (if b then n ∷ [] else [])
    above true p lt = (lt-ltb p n lt, tt)
    above false p lt = tt

-- ---- the rows that begin with the children are those that begin with the word

list_one : {A : Type 0} (f : ℕ → List A) (n : ℕ) (b : Bool) → each f (if b then n ∷ [] else []) ≡ (if b then f n else [])
list_one f n true = none (f n)
  where
    none : {A : Type 0} (l : List A) → l ++ [] ≡ l
    none [] = refl
    none (x ∷ xs) = ap (λ l. x ∷ l) (none xs)
list_one f n false = refl

each_append_list : {A B : Type 0} (f : A → List B) (xs ys : List A) → each f (xs ++ ys) ≡ each f xs ++ each f ys
each_append_list f [] ys = refl
each_append_list f (x ∷ xs) ys = ap (λ l. f x ++ l) (each_append_list f xs ys) ∙ sym (append_assoc (f x) (each f xs) (each f ys))

each_those : {A : Type 0} (n : ℕ) (may : ℕ → Bool) (f : ℕ → List A) → each f (those_below n may) ≡ joined_below n (λ p. if may p then f p else [])
each_those zero may f = refl
each_those (suc n) may f = each_append_list f (those_below n may) (if may n then n ∷ [] else []) ∙ ap (λ l. l ++ each f (if may n then n ∷ [] else [])) (each_those n may f) ∙ ap (λ l. joined_below n (λ p. if may p then f p else []) ++ l) (list_one f n (may n))

twice : {A : Type 0} (b : Bool) (x : List A) → (if b then (if b then x else []) else []) ≡ (if b then x else [])
twice true x = refl
twice false x = refl

joined_twice : {A : Type 0} (n : ℕ) (may : ℕ → Bool) (f : ℕ → List A) → joined_below n (λ p. if may p then (if may p then f p else []) else []) ≡ joined_below n (λ p. if may p then f p else [])
joined_twice zero may f = refl
joined_twice (suc n) may f = ap (λ l. l ++ (if may n then (if may n then f n else []) else [])) (joined_twice n may f) ∙ ap (λ l. joined_below n (λ p. if may p then f p else []) ++ l) (twice (may n) (f n))

wants_later : (a : Answer) (ready : List ℕ) → later a ≡ Wants ready → a ≡ Wants ready
wants_later (Ended outcome used) ready e = absurd (cc)
wants_later (Wants other) ready e = e
wants_later (NotReady place) ready e = absurd (cc)

wants_same : (a b : List ℕ) → Wants a ≡ Wants b → a ≡ b
wants_same a b e = cc

pub rows_empty : {S : Type 0} (sys : System S) (steps k : ℕ) (node : Node S) → rows_from sys steps k [] node ≡ walk sys steps k node
unfolding rows_from
rows_empty sys steps zero node = refl
rows_empty sys steps (suc k) node = refl

rows_child : {S : Type 0} (sys : System S) (steps k p : ℕ) (word : List ℕ) (s : S) → rows_from sys steps (suc k) (p ∷ word) (Choosing s) ≡ (if may sys s p then map (behind (p ∷ [])) (rows_from sys steps k word (chosen sys steps s p)) else [])
unfolding rows_from
rows_child sys steps k p word s = refl

each_mapped : {A : Type 0} (f : A → List Line) (p : ℕ) (xs : List A) → map (behind (p ∷ [])) (each f xs) ≡ each (λ x. map (behind (p ∷ [])) (f x)) xs
each_mapped f p [] = refl
each_mapped f p (x ∷ xs) = map-append (behind (p ∷ [])) (f x) (each f xs) ∙ ap (λ l. map (behind (p ∷ [])) (f x) ++ l) (each_mapped f p xs)

children_next : (p : ℕ) (word ready : List ℕ) → children (p ∷ word) ready ≡ map (λ w. p ∷ w) (children word ready)
children_next p word [] = refl
children_next p word (q ∷ qs) = ap (λ l. (p ∷ word ++ q ∷ []) ∷ l) (children_next p word qs)

fork_rows : {S : Type 0} (sys : System S) (steps k : ℕ) (s : S) → walk sys steps (suc k) (Choosing s) ≡ each (λ w. rows_from sys steps (suc k) w (Choosing s)) (children [] (those_below sys.processes (may sys s)))
unfolding walk
fork_rows sys steps k s =
    let f = λ (p : ℕ). map (behind (p ∷ [])) (walk sys steps k (chosen sys steps s p)) in
    sym (joined_twice sys.processes (may sys s) f) ∙ sym (each_those sys.processes (may sys s) (λ p. if may sys s p then f p else [])) ∙ each_same (λ p. if may sys s p then f p else []) (λ p. rows_from sys steps (suc k) (p ∷ []) (Choosing s)) (those_below sys.processes (may sys s)) (λ p. ap (λ l. if may sys s p then map (behind (p ∷ [])) l else []) (sym (rows_empty sys steps k (chosen sys steps s p))) ∙ sym (rows_child sys steps k p [] s)) ∙ sym (each_map (λ w. rows_from sys steps (suc k) w (Choosing s)) (λ p. [] ++ p ∷ []) (those_below sys.processes (may sys s)))

pub split_rows : {S : Type 0} (sys : System S) (steps k : ℕ) (word ready : List ℕ) (node : Node S) → run_from sys steps k word node ≡ Wants ready → rows_from sys steps k word node ≡ each (λ w. rows_from sys steps k w node) (children word ready)
unfolding run_from
split_rows sys steps k [] ready (Halted kind s) e = absurd (cc)
split_rows sys steps k (p ∷ word) ready (Halted kind s) e = absurd (cc)
split_rows sys steps zero [] ready (Choosing s) e = absurd (cc)
split_rows sys steps zero (p ∷ word) ready (Choosing s) e = absurd (cc)
split_rows sys steps (suc k) [] ready (Choosing s) e = rows_empty sys steps (suc k) (Choosing s) ∙ fork_rows sys steps k s ∙ ap (λ r. each (λ w. rows_from sys steps (suc k) w (Choosing s)) (children [] r)) (wants_same (those_below sys.processes (may sys s)) ready e)
split_rows sys steps (suc k) (p ∷ word) ready (Choosing s) e = by (may sys s p) refl e (λ h. split_rows sys steps k word ready (chosen sys steps s p) h)
  where
    by : (b : Bool) → may sys s p ≡ b → (if b then later (run_from sys steps k word (chosen sys steps s p)) else NotReady 0) ≡ Wants ready → (run_from sys steps k word (chosen sys steps s p) ≡ Wants ready → rows_from sys steps k word (chosen sys steps s p) ≡ each (λ w. rows_from sys steps k w (chosen sys steps s p)) (children word ready)) → rows_from sys steps (suc k) (p ∷ word) (Choosing s) ≡ each (λ w. rows_from sys steps (suc k) w (Choosing s)) (children (p ∷ word) ready)
    by true on g deeper =
        let f = λ (w : List ℕ). rows_from sys steps k w (chosen sys steps s p) in
        rows_child sys steps k p word s ∙ ap (λ b. if b then map (behind (p ∷ [])) (f word) else []) on ∙ ap (map (behind (p ∷ []))) (deeper (wants_later (run_from sys steps k word (chosen sys steps s p)) ready g)) ∙ each_mapped f p (children word ready) ∙ each_same (λ w. map (behind (p ∷ [])) (f w)) (λ w. rows_from sys steps (suc k) (p ∷ w) (Choosing s)) (children word ready) (λ w. sym (rows_child sys steps k p w s ∙ ap (λ b. if b then map (behind (p ∷ [])) (f w) else []) on)) ∙ sym (each_map (λ w. rows_from sys steps (suc k) w (Choosing s)) (λ w. p ∷ w) (children word ready)) ∙ ap (each (λ w. rows_from sys steps (suc k) w (Choosing s))) (sym (children_next p word ready))
    by false off g deeper = absurd (cc)

-- ---- the children are used

pub used_empty : {S : Type 0} (sys : System S) (steps k : ℕ) (node : Node S) → IsUsed [] (run_from sys steps k [] node)
unfolding run_from
used_empty sys steps k (Halted kind s) = refl
used_empty sys steps zero (Choosing s) = refl
used_empty sys steps (suc k) (Choosing s) = tt

used_later : (p : ℕ) (word : List ℕ) (a : Answer) → IsUsed word a → IsUsed (p ∷ word) (later a)
used_later p word (Ended outcome used) h = ap suc h
used_later p word (Wants ready) h = tt
used_later p word (NotReady place) h = h

goes_on : {S : Type 0} (sys : System S) (steps k p : ℕ) (word : List ℕ) (s : S) → may sys s p ≡ true → run_from sys steps (suc k) (p ∷ word) (Choosing s) ≡ later (run_from sys steps k word (chosen sys steps s p))
unfolding run_from
goes_on sys steps k p word s on = ap (λ b. if b then later (run_from sys steps k word (chosen sys steps s p)) else NotReady 0) on

on_from : {S : Type 0} (sys : System S) (steps k p : ℕ) (word ready : List ℕ) (s : S) → run_from sys steps (suc k) (p ∷ word) (Choosing s) ≡ Wants ready → may sys s p ≡ true
unfolding run_from
on_from sys steps k p word ready s e = by (may sys s p) e
  where
    by : (b : Bool) → (if b then later (run_from sys steps k word (chosen sys steps s p)) else NotReady 0) ≡ Wants ready → b ≡ true
    by true g = refl
    by false g = absurd (cc)

pub children_used : {S : Type 0} (sys : System S) (steps k : ℕ) (word ready : List ℕ) (node : Node S) → run_from sys steps k word node ≡ Wants ready → Each (λ p. IsUsed (word ++ p ∷ []) (run_from sys steps k (word ++ p ∷ []) node)) ready
unfolding run_from
children_used sys steps k [] ready (Halted kind s) e = absurd (cc)
children_used sys steps k (p ∷ word) ready (Halted kind s) e = absurd (cc)
children_used sys steps zero [] ready (Choosing s) e = absurd (cc)
children_used sys steps zero (p ∷ word) ready (Choosing s) e = absurd (cc)
children_used sys steps (suc k) [] ready (Choosing s) e =
    subst (Each (λ p. IsUsed (p ∷ []) (run_from sys steps (suc k) (p ∷ []) (Choosing s)))) (wants_same (those_below sys.processes (may sys s)) ready e)
    (each_to (λ p. may sys s p ≡ true) (λ p. IsUsed (p ∷ []) (run_from sys steps (suc k) (p ∷ []) (Choosing s))) (those_below sys.processes (may sys s)) (λ p on. subst (IsUsed (p ∷ [])) (sym (goes_on sys steps k p [] s on)) (used_later p [] (run_from sys steps k [] (chosen sys steps s p)) (used_empty sys steps k (chosen sys steps s p)))) (each_all sys.processes (may sys s)))
children_used sys steps (suc k) (p ∷ word) ready (Choosing s) e =
    let on = on_from sys steps k p word ready s e in
    let deeper = children_used sys steps k word ready (chosen sys steps s p) (wants_later (run_from sys steps k word (chosen sys steps s p)) ready (sym (goes_on sys steps k p word s on) ∙ e)) in
    each_to (λ q. IsUsed (word ++ q ∷ []) (run_from sys steps k (word ++ q ∷ []) (chosen sys steps s p))) (λ q. IsUsed (p ∷ word ++ q ∷ []) (run_from sys steps (suc k) (p ∷ word ++ q ∷ []) (Choosing s))) ready (λ q h. subst (IsUsed (p ∷ word ++ q ∷ [])) (sym (goes_on sys steps k p (word ++ q ∷ []) s on)) (used_later p (word ++ q ∷ []) (run_from sys steps k (word ++ q ∷ []) (chosen sys steps s p)) h)) deeper

-- a word that wants is shorter than the choices
pub wants_short : {S : Type 0} (sys : System S) (steps k : ℕ) (word ready : List ℕ) (node : Node S) → run_from sys steps k word node ≡ Wants ready → length word < k
unfolding run_from
wants_short sys steps k [] ready (Halted kind s) e = absurd (cc)
wants_short sys steps k (p ∷ word) ready (Halted kind s) e = absurd (cc)
wants_short sys steps zero [] ready (Choosing s) e = absurd (cc)
wants_short sys steps zero (p ∷ word) ready (Choosing s) e = absurd (cc)
wants_short sys steps (suc k) [] ready (Choosing s) e = omega arith
wants_short sys steps (suc k) (p ∷ word) ready (Choosing s) e =
    let on = on_from sys steps k p word ready s e in
    let deeper = wants_short sys steps k word ready (chosen sys steps s p) (wants_later (run_from sys steps k word (chosen sys steps s p)) ready (sym (goes_on sys steps k p word s on) ∙ e)) in
    omega (arith, deeper)

wanted_rising : {S : Type 0} (sys : System S) (steps k : ℕ) (word ready : List ℕ) (node : Node S) → run_from sys steps k word node ≡ Wants ready → Pairwise nat_lt ready
unfolding run_from
wanted_rising sys steps k [] ready (Halted kind s) e = absurd (cc)
wanted_rising sys steps k (p ∷ word) ready (Halted kind s) e = absurd (cc)
wanted_rising sys steps zero [] ready (Choosing s) e = absurd (cc)
wanted_rising sys steps zero (p ∷ word) ready (Choosing s) e = absurd (cc)
wanted_rising sys steps (suc k) [] ready (Choosing s) e = subst (Pairwise nat_lt) (wants_same (those_below sys.processes (may sys s)) ready e) (rising sys.processes (may sys s))
wanted_rising sys steps (suc k) (p ∷ word) ready (Choosing s) e =
    let on = on_from sys steps k p word ready s e in
    wanted_rising sys steps k word ready (chosen sys steps s p) (wants_later (run_from sys steps k word (chosen sys steps s p)) ready (sym (goes_on sys steps k p word s on) ∙ e))

-- ---- the parts stay parts

pub split_apart : (before after : List (List ℕ)) (word ready : List ℕ) → Pairwise nat_lt ready → Pairwise parts_before (before ++ word ∷ after) → Pairwise parts_before (before ++ (children word ready ++ after))
split_apart before after word ready rise apart =
    let parts = pairs_parts parts_before before (word ∷ after) apart in
    let after_word = parts.1.0 in
    let behind_children = pairs_append parts_before (children word ready) after (family word ready rise) parts.1.1 (each_map_to (λ p. Unit {0}) (λ w. Each (λ y. parts_before w y ≡ true) after) (λ p. word ++ p ∷ []) ready (λ p u. each_to (λ y. parts_before word y ≡ true) (λ y. parts_before (word ++ p ∷ []) y ≡ true) after (λ y h. longer_before word y (p ∷ []) h) after_word) (all_unit ready)) in
    pairs_append parts_before before (children word ready ++ after) parts.0 behind_children (each_to (λ x. Each (λ y. parts_before x y ≡ true) (word ∷ after)) (λ x. Each (λ y. parts_before x y ≡ true) (children word ready ++ after)) before (λ x h. each_append (λ y. parts_before x y ≡ true) (children word ready) after (each_map_to (λ p. Unit {0}) (λ y. parts_before x y ≡ true) (λ p. word ++ p ∷ []) ready (λ p u. before_longer x word (p ∷ []) h.0) (all_unit ready)) h.1) parts.2)
  where
    all_unit : (ps : List ℕ) → Each (λ p. Unit {0}) ps
    all_unit [] = tt
    all_unit (p ∷ ps) = (tt, all_unit ps)

    family : (w ps : List ℕ) → Pairwise nat_lt ps → Pairwise parts_before (children w ps)
    family w [] h = tt
    family w (p ∷ ps) h = (each_map_to (λ q. nat_lt p q ≡ true) (λ v. parts_before (w ++ p ∷ []) v ≡ true) (λ q. w ++ q ∷ []) ps (λ q lt. siblings w p q (ltb-true p q lt)) h.0, family w ps h.1)

-- every row after a word begins with it
rows_begin : {S : Type 0} (sys : System S) (steps k : ℕ) (word : List ℕ) (node : Node S) → Each (λ l. begins word l.word ≡ true) (rows_from sys steps k word node)
unfolding rows_from
rows_begin sys steps k [] node = all_begin (rows_from sys steps k [] node)
  where
    all_begin : (ls : List Line) → Each (λ l. begins [] l.word ≡ true) ls
    all_begin [] = tt
    all_begin (l ∷ ls) = (refl, all_begin ls)
rows_begin sys steps zero (p ∷ word) node = tt
rows_begin sys steps (suc k) (p ∷ word) (Halted kind s) = tt
rows_begin sys steps (suc k) (p ∷ word) (Choosing s) = by (may sys s p) (rows_begin sys steps k word (chosen sys steps s p))
  where
    by : (b : Bool) → Each (λ l. begins word l.word ≡ true) (rows_from sys steps k word (chosen sys steps s p)) → Each (λ l. begins (p ∷ word) l.word ≡ true) (if b then map (behind (p ∷ [])) (rows_from sys steps k word (chosen sys steps s p)) else [])
    by true h = each_map_to (λ l. begins word l.word ≡ true) (λ l. begins (p ∷ word) l.word ≡ true) (behind (p ∷ [])) (rows_from sys steps k word (chosen sys steps s p)) (λ l e. ap (λ b. b && begins word l.word) (eq-eqb p p refl) ∙ e) h
    by false h = tt

behind_begin : {S : Type 0} (sys : System S) (choices steps : ℕ) (word : List ℕ) → Each (λ l. begins word l.word ≡ true) (rows_behind sys choices steps word)
unfolding rows_behind
behind_begin sys choices steps word = rows_begin sys steps choices word (opened sys steps)

begun_by_some : {S : Type 0} (sys : System S) (choices steps : ℕ) (words : List (List ℕ)) → Each (λ l. list_any (λ w. begins w l.word) words ≡ true) (each (rows_behind sys choices steps) words)
begun_by_some sys choices steps [] = tt
begun_by_some sys choices steps (w ∷ ws) =
    each_append (λ l. list_any (λ v. begins v l.word) (w ∷ ws) ≡ true) (rows_behind sys choices steps w) (each (rows_behind sys choices steps) ws)
    (each_to (λ l. begins w l.word ≡ true) (λ l. list_any (λ v. begins v l.word) (w ∷ ws) ≡ true) (rows_behind sys choices steps w) (λ l h. ap (λ b. b || list_any (λ v. begins v l.word) ws) h) (behind_begin sys choices steps w))
    (each_to (λ l. list_any (λ v. begins v l.word) ws ≡ true) (λ l. list_any (λ v. begins v l.word) (w ∷ ws) ≡ true) (each (rows_behind sys choices steps) ws) (λ l h. second (begins w l.word) (list_any (λ v. begins v l.word) ws) h) (begun_by_some sys choices steps ws))
  where
    second : (a b : Bool) → b ≡ true → (a || b) ≡ true
    second true b h = refl
    second false b h = h

-- parts with used words are a cutting
pub parts_cut : {S : Type 0} (sys : System S) (choices steps : ℕ) (words : List (List ℕ)) → Each (λ w. IsUsed w (run sys choices steps w)) words → Parts sys choices steps words → IsCutting sys choices steps words
parts_cut sys choices steps words used parts =
    record {
      order = pairs_to parts_before is_before words parted_before parts.apart;
      used = used;
      one = each_to (λ l. list_any (λ w. begins w l.word) words ≡ true) (λ l. count_by (λ w. begins w l.word) words ≡ 1) (table sys choices steps) (λ l h. one_count words l.word parts.apart h) (subst (Each (λ l. list_any (λ w. begins w l.word) words ≡ true)) parts.rows (begun_by_some sys choices steps words));
    }

behind_from : {S : Type 0} (sys : System S) (choices steps : ℕ) (word : List ℕ) → rows_behind sys choices steps word ≡ rows_from sys steps choices word (opened sys steps)
unfolding rows_behind
behind_from sys choices steps word = refl

-- a split keeps the parts
pub split_parts : {S : Type 0} (sys : System S) (choices steps : ℕ) (before after : List (List ℕ)) (word ready : List ℕ) → run sys choices steps word ≡ Wants ready → Parts sys choices steps (before ++ word ∷ after) → Parts sys choices steps (before ++ (children word ready ++ after))
split_parts sys choices steps before after word ready e parts =
    let f = rows_behind sys choices steps in
    let here : each f (children word ready) ≡ f word = sym (behind_from sys choices steps word ∙ split_rows sys steps choices word ready (opened sys steps) e ∙ each_same (λ w. rows_from sys steps choices w (opened sys steps)) f (children word ready) (λ w. sym (behind_from sys choices steps w))) in
    record {
      apart = split_apart before after word ready (wanted_rising sys steps choices word ready (opened sys steps) e) parts.apart;
      rows = each_append_list f before (children word ready ++ after) ∙ ap (λ l. each f before ++ l) (each_append_list f (children word ready) after ∙ ap (λ l. l ++ each f after) here) ∙ sym (each_append_list f before (word ∷ after)) ∙ parts.rows;
    }

pub split_used : {S : Type 0} (sys : System S) (choices steps : ℕ) (before after : List (List ℕ)) (word ready : List ℕ) → run sys choices steps word ≡ Wants ready → Each (λ w. IsUsed w (run sys choices steps w)) (before ++ word ∷ after) → Each (λ w. IsUsed w (run sys choices steps w)) (before ++ (children word ready ++ after))
split_used sys choices steps before after word ready e used =
    let P : List ℕ → Type 0 = λ w. IsUsed w (run sys choices steps w) in
    let parts = each_parts P before (word ∷ after) used in
    each_append P before (children word ready ++ after) parts.0 (each_append P (children word ready) after (each_map_to (λ p. P (word ++ p ∷ [])) P (λ p. word ++ p ∷ []) ready (λ p h. h) (children_used sys steps choices word ready (opened sys steps) e)) parts.1.1)
