-- The numbers that may be taken, one after the other.
use Rattle.std.proofs.Common.{◌≡◌, ◌∙◌, ℕ, zero, suc, ◌<◌, ◌≤◌, ◌+◌, Bool, true, false, ◌==◌, if◌then◌else◌, List, [], ◌∷◌, ◌++◌, length, map, take, flat_map, get_or, refl, sym, ap, subst, arith}
use Rattle.std.proofs.Math.ListN.{get_or-append}
use Rattle.std.proofs.Math.Seq.{get_or-append_seam, take-append_seam}
use Rattle.std.proofs.lemmas.Grind.{flat_map-append}
use Rattle.std.proofs.lemmas.List.{length-append, length-map, take-append-le, take_more}
use Rattle.cp_walk.proofs.Words.{list_any, System, those_below, joined_below, Choosing, may, chosen, Line, beginnings, words_in, behind, walk, IsDue}
use Rattle.cp_run.proofs.Choosable.{At, at_those}
use Rattle.cp_run.proofs.Wanting.{any_wanted}
use Rattle.cp_walk.proofs.Branches.{branch, walk_due, append_none, taken, too_many}
use Rattle.cp_walk.proofs.Calling.{calls_all, calls_taken}
use Rattle.cp_walk.proofs.Counted.{added}

-- what is joined of the numbers that may be
joined_those : {A : Type 0} (f : ℕ → Bool) (h : ℕ → List A) (n : ℕ) → flat_map h (those_below n f) ≡ joined_below n (λ p. if f p then h p else [])
joined_those f h zero = refl
joined_those f h (suc n) =
    flat_map-append h (those_below n f) (if f n then n ∷ [] else []) ∙ ap (λ l. l ++ flat_map h (if f n then n ∷ [] else [])) (joined_those f h n) ∙ ap (λ l. joined_below n (λ p. if f p then h p else []) ++ l) (one (f n))
  where
    one : (b : Bool) → flat_map h (if b then n ∷ [] else []) ≡ (if b then h n else [])
    one true = append_none (h n)
    one false = refl

-- the rows that begin with each of these numbers
abbrev pub behind_each : {S : Type 0} → System S → ℕ → ℕ → S → List ℕ → List Line
behind_each sys steps k s ps = flat_map (λ p. map (behind (p ∷ [])) (walk sys steps k (chosen sys steps s p))) ps

module _ {S : Type 0} (sys : System S) (steps k : ℕ) (s : S) (others : List ℕ) (last : ℕ) (is : others ++ last ∷ [] ≡ those_below sys.processes (may sys s)) where
  abbrev whole : List ℕ
  whole = others ++ last ∷ []

  at_place : (i : ℕ) → i < length whole → At (may sys s) sys.processes i whole
  at_place i lt = subst (At (may sys s) sys.processes i) (sym is) (at_those (may sys s) sys.processes i (omega (arith, lt, ap length is)))

  others_at : (i : ℕ) → i < length others → At (may sys s) sys.processes i whole
  others_at i lt = at_place i (omega (arith, lt, length-append others (last ∷ [])))

  first_of : (i : ℕ) → i < length others → get_or whole i 0 ≡ get_or others i 0
  first_of i lt = get_or-append others (last ∷ []) 0 i lt

  last_at : At (may sys s) sys.processes (length others) whole
  last_at = at_place (length others) (omega (arith, length-append others (last ∷ [])))

  last_is : get_or whole (length others) 0 ≡ last
  last_is = get_or-append_seam others last [] 0

  -- each of them may be taken
  pub may_other : (i p : ℕ) → i < length others → p ≡ get_or others i 0 → may sys s p ≡ true
  may_other i p lt e = ap (may sys s) (e ∙ sym (first_of i lt)) ∙ (others_at i lt).1

  pub may_last : may sys s last ≡ true
  may_last = ap (may sys s) (sym last_is) ∙ last_at.1

  -- what is after those before a number is what is after the numbers below it
  pub before_other : (i p : ℕ) → i < length others → p ≡ get_or others i 0 → behind_each sys steps k s (take i others) ≡ joined_below p (branch sys steps k s)
  before_other i p lt e =
      let same : take i others ≡ those_below p (may sys s) = sym (take-append-le i others (last ∷ []) (omega (arith, lt))) ∙ (others_at i lt).0 ∙ ap (λ q. those_below q (may sys s)) (first_of i lt ∙ sym e) in
      ap (behind_each sys steps k s) same ∙ joined_those (may sys s) (λ q. map (behind (q ∷ [])) (walk sys steps k (chosen sys steps s q))) p

  pub before_last : behind_each sys steps k s others ≡ joined_below last (branch sys steps k s)
  before_last =
      let same : others ≡ those_below last (may sys s) = sym (take-append_seam others (last ∷ [])) ∙ last_at.0 ∙ ap (λ q. those_below q (may sys s)) last_is in
      ap (behind_each sys steps k s) same ∙ joined_those (may sys s) (λ q. map (behind (q ∷ [])) (walk sys steps k (chosen sys steps s q))) last

  behind_all : behind_each sys steps k s whole ≡ joined_below sys.processes (branch sys steps k s)
  behind_all = ap (behind_each sys steps k s) is ∙ joined_those (may sys s) (λ q. map (behind (q ∷ [])) (walk sys steps k (chosen sys steps s q))) sys.processes

  abbrev child : ℕ → List Line
  child p = map (behind (p ∷ [])) (walk sys steps k (chosen sys steps s p))

  grown : (p : ℕ) → may sys s p ≡ true → joined_below (p + 1) (branch sys steps k s) ≡ joined_below p (branch sys steps k s) ++ child p
  grown p on =
      let e : p + 1 ≡ suc p = omega arith in
      ap (λ n. joined_below n (branch sys steps k s)) e ∙ ap (λ b. joined_below p (branch sys steps k s) ++ (if b then child p else [])) on

  each_more : (ps : List ℕ) (p : ℕ) → behind_each sys steps k s (ps ++ p ∷ []) ≡ behind_each sys steps k s ps ++ child p
  each_more ps p = flat_map-append child ps (p ∷ []) ∙ ap (λ l. behind_each sys steps k s ps ++ l) (append_none (child p))

  after_other : (i p : ℕ) → i < length others → p ≡ get_or others i 0 → joined_below (p + 1) (branch sys steps k s) ≡ behind_each sys steps k s (take (i + 1) others)
  after_other i p lt e =
      let one : take (i + 1) others ≡ take i others ++ p ∷ [] = take_more others i 0 lt ∙ ap (λ q. take i others ++ q ∷ []) (sym e) in
      grown p (may_other i p lt e) ∙ ap (λ l. l ++ child p) (sym (before_other i p lt e)) ∙ sym (ap (behind_each sys steps k s) one ∙ each_more (take i others) p)

  after_last : joined_below (last + 1) (branch sys steps k s) ≡ joined_below sys.processes (branch sys steps k s)
  after_last = grown last may_last ∙ ap (λ l. l ++ child last) (sym before_last) ∙ sym (each_more others last) ∙ behind_all

  -- the rows, the calls and the bound of one number more
  pub rows_other : (i p : ℕ) → i < length others → p ≡ get_or others i 0 → (word : List ℕ) (old rows new : List Line) → rows ≡ old ++ map (behind word) (behind_each sys steps k s (take i others)) → new ≡ rows ++ map (behind (word ++ p ∷ [])) (walk sys steps k (chosen sys steps s p)) → new ≡ old ++ map (behind word) (behind_each sys steps k s (take (i + 1) others))
  rows_other i p lt e word old rows new h g =
      taken sys steps k s p word old rows new (chosen sys steps s p) (may_other i p lt e) refl (h ∙ ap (λ l. old ++ map (behind word) l) (before_other i p lt e)) g ∙ ap (λ l. old ++ map (behind word) l) (after_other i p lt e)

  pub calls_other : (i p : ℕ) → i < length others → p ≡ get_or others i 0 → (old now new : ℕ) → now ≤ old + added [] (words_in (behind_each sys steps k s (take i others))) → new ≤ now + beginnings (words_in (walk sys steps k (chosen sys steps s p))) → new ≤ old + added [] (words_in (behind_each sys steps k s (take (i + 1) others)))
  calls_other i p lt e old now new h more =
      subst (λ l. new ≤ old + added [] (words_in l)) (after_other i p lt e)
      (calls_taken sys steps k s p (chosen sys steps s p) old now (now + 1) new (may_other i p lt e) refl (subst (λ l. now ≤ old + added [] (words_in l)) (before_other i p lt e) h) (omega arith) (omega (arith, more)))

  pub many_other : (i p left : ℕ) → i < length others → p ≡ get_or others i 0 → left ≡ k + 1 → (word : List ℕ) (old rows : List Line) → rows ≡ old ++ map (behind word) (behind_each sys steps k s (take i others)) → length rows + length (walk sys steps k (chosen sys steps s p)) ≤ length old + length (walk sys steps left (Choosing s))
  many_other i p left lt e deep word old rows h =
      let below : p < sys.processes = let x = (others_at i lt).2 in omega (arith, x, first_of i lt, e) in
      too_many sys steps k left p s word old rows (chosen sys steps s p) deep below (may_other i p lt e) refl (h ∙ ap (λ l. old ++ map (behind word) l) (before_other i p lt e))

  -- and those of the last number
  pub rows_last : (left : ℕ) → left ≡ k + 1 → (word : List ℕ) (old rows new : List Line) → rows ≡ old ++ map (behind word) (behind_each sys steps k s others) → new ≡ rows ++ map (behind (word ++ last ∷ [])) (walk sys steps k (chosen sys steps s last)) → new ≡ old ++ map (behind word) (walk sys steps left (Choosing s))
  rows_last left deep word old rows new h g =
      taken sys steps k s last word old rows new (chosen sys steps s last) may_last refl (h ∙ ap (λ l. old ++ map (behind word) l) before_last) g ∙ ap (λ l. old ++ map (behind word) l) (after_last ∙ sym (walk_due sys steps k left s deep))

  pub some_last : (left : ℕ) → left ≡ k + 1 → 0 < length (walk sys steps k (chosen sys steps s last)) → 0 < length (walk sys steps left (Choosing s))
  some_last left deep some =
      let whole_is = ap length (walk_due sys steps k left s deep ∙ sym after_last ∙ grown last may_last) in
      let parts = length-append (joined_below last (branch sys steps k s)) (child last) in
      let same = length-map (walk sys steps k (chosen sys steps s last)) (behind (last ∷ [])) in
      omega (arith, whole_is, parts, same, some)

  pub calls_last : (left : ℕ) → left ≡ k + 1 → (old now new : ℕ) → now ≤ old + added [] (words_in (behind_each sys steps k s others)) → new ≤ now + beginnings (words_in (walk sys steps k (chosen sys steps s last))) → 0 < length (walk sys steps k (chosen sys steps s last)) → new + 1 ≤ old + beginnings (words_in (walk sys steps left (Choosing s)))
  calls_last left deep old now new h more some =
      let taken_last : new ≤ old + added [] (words_in (joined_below sys.processes (branch sys steps k s))) =
      subst (λ l. new ≤ old + added [] (words_in l)) after_last
      (calls_taken sys steps k s last (chosen sys steps s last) old now (now + 1) new may_last refl (subst (λ l. now ≤ old + added [] (words_in l)) before_last h) (omega arith) (omega (arith, more))) in
      let parts = ap length (sym after_last ∙ grown last may_last) in
      let two = length-append (joined_below last (branch sys steps k s)) (child last) in
      let same = length-map (walk sys steps k (chosen sys steps s last)) (behind (last ∷ [])) in
      calls_all sys steps k left sys.processes s old new deep refl (omega (arith, parts, two, same, some)) taken_last

  pub many_last : (left : ℕ) → left ≡ k + 1 → (word : List ℕ) (old rows : List Line) → rows ≡ old ++ map (behind word) (behind_each sys steps k s others) → length rows + length (walk sys steps k (chosen sys steps s last)) ≤ length old + length (walk sys steps left (Choosing s))
  many_last left deep word old rows h =
      let below : last < sys.processes = let x = last_at.2 in omega (arith, x, last_is) in
      too_many sys steps k left last s word old rows (chosen sys steps s last) deep below may_last refl (h ∙ ap (λ l. old ++ map (behind word) l) before_last)

-- where a choice is due, there is a number that may be taken
pub none_due : {S : Type 0} (sys : System S) (s : S) (ps : List ℕ) → ps ≡ those_below sys.processes (may sys s) → length ps ≡ 0 → IsDue sys (Choosing s) → ⊥
none_due sys s [] e none due =
    let found : false ≡ true = ap (list_any (λ y. y == due.0)) e ∙ any_wanted sys s due.0 ∙ due.1 in cc
none_due sys s (p ∷ ps) e none due = omega (arith, none)
