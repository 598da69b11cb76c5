-- Lines as lists of numbers, of which no two are equal.
use Rattle.std.proofs.Common.{◌≡◌, ◌∙◌, ℕ, suc, ◌+◌, ◌<◌, ◌≤◌, ◌⊎◌, inl, inr, List, [], ◌∷◌, ◌++◌, length, Some, None, Bool, true, false, cond, eqb, ltb, ap, sym, refl, subst, arith}
use Rattle.std.specs.Prelude.{not, ◌||◌}
use Rattle.std.specs.Cmp.{nat_eq_equiv}
use Rattle.std.specs.List.{AllByRecursion, IsDistinct, list_any, position_or_len}
use Rattle.std.proofs.lemmas.Bool.{cases_eq, cases_lt, eq-eqb, ne_eqb, lt-ltb, le-ltb}
use Rattle.std.proofs.lemmas.List.Folds.{list_any-append}
use Rattle.std.proofs.lemmas.Map.Keys.{IsDistinct-cons, IsDistinct-head, IsDistinct-push, IsDistinct-tail}
use Rattle.cp_machine.specs.Opening.{remove_at, without}

-- whether a number is in a line
abbrev pub has : List ℕ → ℕ → Bool
has line q = list_any (eqb q) line

or_false : (b : Bool) → (b || false) ≡ b
or_false true = refl
or_false false = refl

or_true : (b : Bool) → (b || true) ≡ true
or_true true = refl
or_true false = refl

pub nothing_once : IsDistinct eqb []
unfolding IsDistinct
nothing_once = tt

-- ---- one more at the end

pub has_pushed : (line : List ℕ) (p : ℕ) → has (line ++ p ∷ []) p ≡ true
has_pushed line p = list_any-append (eqb p) line (p ∷ []) ∙ ap (λ b. has line p || (b || false)) (eq-eqb p p refl) ∙ or_true (has line p)

pub pushed_other : (line : List ℕ) (p q : ℕ) → (q ≡ p → ⊥) → has (line ++ p ∷ []) q ≡ has line q
pushed_other line p q ne = list_any-append (eqb q) line (p ∷ []) ∙ ap (λ b. has line q || (b || false)) (ne_eqb q p ne) ∙ or_false (has line q)

pub pushed_once : (line : List ℕ) (p : ℕ) → IsDistinct eqb line → has line p ≡ false → IsDistinct eqb (line ++ p ∷ [])
pushed_once line p once new = IsDistinct-push nat_eq_equiv line p once new

-- ---- one more before the first

none_has : (p : ℕ) (line : List ℕ) → has line p ≡ false → AllByRecursion (λ y. eqb p y ≡ false) line
none_has p [] h = tt
none_has p (q ∷ line) h = let parts = neither (eqb p q) (has line p) h in (parts.0, none_has p line parts.1)
  where
    neither : (a b : Bool) → (a || b) ≡ false → (a ≡ false) × (b ≡ false)
    neither false false e = (refl, refl)
    neither a b e = absurd (cc)

pub first_once : (p : ℕ) (line : List ℕ) → IsDistinct eqb line → has line p ≡ false → IsDistinct eqb (p ∷ line)
first_once p line once new = IsDistinct-cons eqb p line (none_has p line new) once

-- ---- the first leaves

pub has_first : (p : ℕ) (line : List ℕ) → has (p ∷ line) p ≡ true
has_first p line = ap (λ b. b || has line p) (eq-eqb p p refl)

none_equal : (p : ℕ) (line : List ℕ) → AllByRecursion (λ y. eqb p y ≡ false) line → has line p ≡ false
none_equal p [] h = refl
none_equal p (q ∷ line) h = ap (λ b. b || has line p) h.0 ∙ none_equal p line h.1

pub first_gone : (p : ℕ) (line : List ℕ) → IsDistinct eqb (p ∷ line) → has line p ≡ false
first_gone p line once = none_equal p line (IsDistinct-head eqb p line once)

pub first_other : (p q : ℕ) (line : List ℕ) → (q ≡ p → ⊥) → has line q ≡ has (p ∷ line) q
first_other p q line ne = ap (λ b. b || has line q) (sym (ne_eqb q p ne))

-- ---- one leaves

-- the line without the number at a place, if it is there
abbrev without_at : List ℕ → ℕ → List ℕ
without_at line place = remove_at (cond (ltb place (length line)) (Some place) None) line

without_later : (q place : ℕ) (line : List ℕ) → without_at (q ∷ line) (suc place) ≡ q ∷ without_at line place
without_later q place line = go (cases_lt place (length line))
  where
    go : (place < length line) ⊎ (length line ≤ place) → without_at (q ∷ line) (suc place) ≡ q ∷ without_at line place
    go (inl lt) =
        let here : ltb place (length line) ≡ true = lt-ltb place (length line) lt in
        let later : ltb (suc place) (suc (length line)) ≡ true = lt-ltb (suc place) (suc (length line)) (omega arith) in
        ap (λ b. remove_at (cond b (Some (suc place)) None) (q ∷ line)) later ∙ ap (λ b. q ∷ remove_at (cond b (Some place) None) line) (sym here)
    go (inr ge) =
        let here : ltb place (length line) ≡ false = le-ltb place (length line) ge in
        let later : ltb (suc place) (suc (length line)) ≡ false = le-ltb (suc place) (suc (length line)) (omega arith) in
        ap (λ b. remove_at (cond b (Some (suc place)) None) (q ∷ line)) later ∙ ap (λ b. q ∷ remove_at (cond b (Some place) None) line) (sym here)

abbrev place_of : ℕ → List ℕ → ℕ
place_of p line = position_or_len (λ q. eqb q p) line

without_next : (p q : ℕ) (line : List ℕ) → (q ≡ p → ⊥) → without p (q ∷ line) ≡ q ∷ without p line
without_next p q line ne =
    let next : 1 + place_of p line ≡ suc (place_of p line) = omega arith in
    ap (λ b. without_at (q ∷ line) (cond (not b) (1 + place_of p line) 0)) (ne_eqb q p ne) ∙ ap (without_at (q ∷ line)) next ∙ without_later q (place_of p line) line

without_first : (p q : ℕ) (line : List ℕ) → q ≡ p → without p (q ∷ line) ≡ line
without_first p q line e =
    let some : ltb 0 (suc (length line)) ≡ true = lt-ltb 0 (suc (length line)) (omega arith) in
    ap (λ b. without_at (q ∷ line) (cond (not b) (1 + place_of p line) 0)) (eq-eqb q p e) ∙ ap (λ b. remove_at (cond b (Some 0) None) (q ∷ line)) some

pub without_gone : (p : ℕ) (line : List ℕ) → IsDistinct eqb line → has (without p line) p ≡ false
without_gone p [] once = refl
without_gone p (q ∷ line) once = go (cases_eq q p) (without_gone p line (IsDistinct-tail eqb q line once))
  where
    go : (q ≡ p) ⊎ (q ≡ p → ⊥) → has (without p line) p ≡ false → has (without p (q ∷ line)) p ≡ false
    go (inl e) rest =
        let P : ℕ → Type 0 = λ k. has line k ≡ false in
        ap (λ xs. has xs p) (without_first p q line e) ∙ subst P e (first_gone q line once)
    go (inr ne) rest = ap (λ xs. has xs p) (without_next p q line ne) ∙ ap (λ b. b || has (without p line) p) (ne_eqb p q (λ e. ne (sym e))) ∙ rest

pub without_other : (p k : ℕ) (line : List ℕ) → (k ≡ p → ⊥) → has (without p line) k ≡ has line k
without_other p k [] ne = refl
without_other p k (q ∷ line) ne = go (cases_eq q p) (without_other p k line ne)
  where
    go : (q ≡ p) ⊎ (q ≡ p → ⊥) → has (without p line) k ≡ has line k → has (without p (q ∷ line)) k ≡ has (q ∷ line) k
    go (inl e) rest = ap (λ xs. has xs k) (without_first p q line e) ∙ first_other q k line (λ f. ne (f ∙ e))
    go (inr n) rest = ap (λ xs. has xs k) (without_next p q line n) ∙ ap (λ b. eqb k q || b) rest

all_without : (P : ℕ → Type 0) (p : ℕ) (line : List ℕ) → AllByRecursion P line → AllByRecursion P (without p line)
all_without P p [] h = h
all_without P p (q ∷ line) h = go (cases_eq q p) (all_without P p line h.1)
  where
    go : (q ≡ p) ⊎ (q ≡ p → ⊥) → AllByRecursion P (without p line) → AllByRecursion P (without p (q ∷ line))
    go (inl e) rest = subst (AllByRecursion P) (sym (without_first p q line e)) h.1
    go (inr ne) rest = subst (AllByRecursion P) (sym (without_next p q line ne)) (h.0, rest)

pub without_once : (p : ℕ) (line : List ℕ) → IsDistinct eqb line → IsDistinct eqb (without p line)
without_once p [] once = once
without_once p (q ∷ line) once = go (cases_eq q p) (without_once p line (IsDistinct-tail eqb q line once))
  where
    go : (q ≡ p) ⊎ (q ≡ p → ⊥) → IsDistinct eqb (without p line) → IsDistinct eqb (without p (q ∷ line))
    go (inl e) rest = subst (IsDistinct eqb) (sym (without_first p q line e)) (IsDistinct-tail eqb q line once)
    go (inr ne) rest =
        subst (IsDistinct eqb) (sym (without_next p q line ne))
        (IsDistinct-cons eqb q (without p line) (all_without (λ y. eqb q y ≡ false) p line (IsDistinct-head eqb q line once)) rest)
