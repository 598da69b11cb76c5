-- A list with others in the place of one element.
use Rattle.std.proofs.Common.{◌≡◌, ◌∙◌, ℕ, zero, suc, ◌<◌, ◌+◌, ◌-◌, List, [], ◌∷◌, ◌++◌, length, map, take, drop, get_or, refl, sym, ap, subst, arith, ◌≤◌, Some, Ok, Err, if◌then◌else◌}
use Rattle.std.proofs.lemmas.List.{append_assoc, get_or-map, take-map, take_all, length-drop, length-map, length-append, length-take-le}
use Rattle.cp_walk.proofs.Words.{lt-ltb, le-ltb, ArrayVec, Tables, Limits, Answer, Ended, Wants, NotReady, opened, run, slots, Full, words_of, CutsTable}
use Rattle.cp_walk.specs.Cutting.{Each, IsUsed, Parts, children, word_at, wanted_in, split_by}
use Rattle.cp_walk.proofs.Parting.{parts_cut, split_parts, split_used, wants_short}

drop_map : {A B : Type 0} (f : A → B) (n : ℕ) (xs : List A) → drop n (map f xs) ≡ map f (drop n xs)
drop_map f zero xs = refl
drop_map f (suc n) [] = refl
drop_map f (suc n) (x ∷ xs) = drop_map f n xs

pub parted : {A : Type 0} (xs : List A) (i : ℕ) (d : A) → i < length xs → xs ≡ take i xs ++ get_or xs i d ∷ drop (i + 1) xs
parted [] i d lt = absurd (omega (arith, lt))
parted (x ∷ xs) zero d lt = refl
parted (x ∷ xs) (suc i) d lt =
    let n : suc i + 1 ≡ suc (i + 1) = omega arith in
    ap (λ l. x ∷ l) (parted xs i d (omega (arith, lt))) ∙ ap (λ k. x ∷ (take i xs ++ get_or xs i d ∷ drop k (x ∷ xs))) (sym n)

pub all_children : (words : List (ArrayVec ℕ)) (at : ℕ) (ready : List ℕ) (one : ArrayVec ℕ) (none some more all : List (ArrayVec ℕ)) (word : List ℕ) → at < length words → none ≡ [] → words_of some ≡ words_of none ++ words_of (take at words) → one ≡ get_or words at one → word ≡ one.items → words_of more ≡ words_of some ++ children word ready → words_of all ≡ words_of more ++ words_of (take (length words - (at + 1)) (drop (at + 1) words)) → words_of all ≡ take at (words_of words) ++ (children (word_at (words_of words) at) ready ++ drop (at + 1) (words_of words))
all_children words at ready one none some more all word lt n s o w m a =
    let here : word ≡ word_at (words_of words) at = w ∙ ap (λ v. v.items) o ∙ sym (get_or-map (λ v. v.items) words at one [] lt) in
    let before : words_of some ≡ take at (words_of words) = s ∙ ap (λ l. words_of l ++ words_of (take at words)) n ∙ sym (take-map (λ v. v.items) at words) in
    let left : take (length words - (at + 1)) (drop (at + 1) words) ≡ drop (at + 1) words = (let few = length-drop (at + 1) words in take_all (length words - (at + 1)) (drop (at + 1) words) (omega (arith, few))) in
    a ∙ ap (λ l. words_of more ++ words_of l) left ∙ ap (λ l. l ++ words_of (drop (at + 1) words)) (m ∙ ap (λ l. l ++ children word ready) before ∙ ap (λ v. take at (words_of words) ++ children v ready) here) ∙ append_assoc (take at (words_of words)) (children (word_at (words_of words) at) ready) (words_of (drop (at + 1) words)) ∙ ap (λ l. take at (words_of words) ++ (children (word_at (words_of words) at) ready ++ l)) (sym (drop_map (λ v. v.items) (at + 1) words))

pub wants_is : (a : Answer) (ready : List ℕ) → wanted_in a ≡ Some ready → a ≡ Wants ready
wants_is (Ended outcome used) ready e = absurd (cc)
wants_is (Wants other) ready e = let same : other ≡ ready = cc in ap Wants same
wants_is (NotReady place) ready e = absurd (cc)

-- the length after a split
pub split_length : (old : List (ArrayVec ℕ)) (i : ℕ) (ready : List ℕ) → i < length old → length (take i (words_of old) ++ (children (word_at (words_of old) i) ready ++ drop (i + 1) (words_of old))) + 1 ≡ length old + length ready
split_length old i ready lt =
    let words = words_of old in
    let w = word_at words i in
    let long = length-map old (λ (v : ArrayVec ℕ). v.items) in
    let a = length-append (take i words) (children w ready ++ drop (i + 1) words) in
    let b = length-append (children w ready) (drop (i + 1) words) in
    let c = length-map ready (λ p. w ++ p ∷ []) in
    let d = length-take-le i words (omega (arith, long, lt)) in
    let e = length-drop (i + 1) words in
    omega (arith, long, a, b, c, d, e, lt)

-- a split keeps what a cutting keeps
pub split_cuts : (r : Tables) (l : Limits) (old new : List (ArrayVec ℕ)) (i : ℕ) (ready : List ℕ) → i < length old → length old + length ready ≤ 4097 → wanted_in (run (slots r l.discipline) l.choices l.steps (word_at (words_of old) i)) ≡ Some ready → words_of new ≡ take i (words_of old) ++ (children (word_at (words_of old) i) ready ++ drop (i + 1) (words_of old)) → CutsTable r l old → CutsTable r l new
split_cuts r l old new i ready lt room wants e cuts =
    let sys = slots r l.discipline in
    let words = words_of old in
    let w = word_at words i in
    let long = length-map old (λ (v : ArrayVec ℕ). v.items) in
    let few : length new ≤ 4096 = (let n = split_length old i ready lt in let m = ap length e in let k = length-map new (λ (v : ArrayVec ℕ). v.items) in omega (arith, n, m, k, room)) in
    let shape : words ≡ take i words ++ w ∷ drop (i + 1) words = parted words i [] (omega (arith, long, lt)) in
    let on = wants_is (run sys l.choices l.steps w) ready wants in
    let used = subst (Each (λ v. IsUsed v (run sys l.choices l.steps v))) (sym e) (split_used sys l.choices l.steps (take i words) (drop (i + 1) words) w ready on (subst (Each (λ v. IsUsed v (run sys l.choices l.steps v))) shape cuts.cutting.used)) in
    let parts = subst (Parts sys l.choices l.steps) (sym e) (split_parts sys l.choices l.steps (take i words) (drop (i + 1) words) w ready on (subst (Parts sys l.choices l.steps) shape cuts.parts)) in
    record { few = few; cutting = parts_cut sys l.choices l.steps (words_of new) used parts; parts = parts }

-- a member that wants is shorter than 20
pub short_member : (r : Tables) (l : Limits) (words : List (List ℕ)) (i : ℕ) (ready : List ℕ) → l.choices ≤ 20 → wanted_in (run (slots r l.discipline) l.choices l.steps (word_at words i)) ≡ Some ready → length (word_at words i) < 20
short_member r l words i ready few wants =
    let short = wants_short (slots r l.discipline) l.steps l.choices (word_at words i) ready (opened (slots r l.discipline) l.steps) (wants_is (run (slots r l.discipline) l.choices l.steps (word_at words i)) ready wants) in
    omega (arith, few, short)

-- a split that fits, and one that doesn't
pub split_fits : (old : List (ArrayVec ℕ)) (i : ℕ) (ready : List ℕ) → i < length old → length old + length ready ≤ 4097 → split_by (words_of old) i (Some ready) ≡ Ok (take i (words_of old) ++ (children (word_at (words_of old) i) ready ++ drop (i + 1) (words_of old)))
split_fits old i ready lt few =
    let new = take i (words_of old) ++ (children (word_at (words_of old) i) ready ++ drop (i + 1) (words_of old)) in
    let n = split_length old i ready lt in
    ap (λ b. if b then Err Full else Ok new) (le-ltb 4096 (length new) (omega (arith, n, few)))

pub split_full : (old : List (ArrayVec ℕ)) (i : ℕ) (ready : List ℕ) → i < length old → 4097 < length old + length ready → split_by (words_of old) i (Some ready) ≡ Err Full
split_full old i ready lt many =
    let new = take i (words_of old) ++ (children (word_at (words_of old) i) ready ++ drop (i + 1) (words_of old)) in
    let n = split_length old i ready lt in
    ap (λ b. if b then Err Full else Ok new) (lt-ltb 4096 (length new) (omega (arith, n, many)))

-- what the run of a member wants, read off the code's words
pub wanted_at : (r : Tables) (l : Limits) (words : List (ArrayVec ℕ)) (i : ℕ) (one : ArrayVec ℕ) (word : List ℕ) (ready : List ℕ) → i < length words → one ≡ get_or words i one → word ≡ one.items → Some ready ≡ wanted_in (run (slots r l.discipline) l.choices l.steps word) → wanted_in (run (slots r l.discipline) l.choices l.steps (word_at (words_of words) i)) ≡ Some ready
wanted_at r l words i one word ready lt at w e = ap (λ v. wanted_in (run (slots r l.discipline) l.choices l.steps v)) (get_or-map (λ v. v.items) words i one [] lt ∙ ap (λ v. v.items) (sym at) ∙ sym w) ∙ sym e
