-- Sets of processes, one process after another.
use Rattle.std.proofs.Common.{◌≡◌, ◌∙◌, ◌⊎◌, ⊎_elim, ◌<◌, ◌≤◌, ◌+◌, ℕ, Bool, true, false, refl, sym, ap, arith}
use Rattle.cp_waits.proofs.Words.{◌&&◌, ◌||◌, nat_eq, nat_lt, has, Set}
use Rattle.std.proofs.lemmas.Bool.{cases_order, eq-eqb, le-ltb, lt-ltb, ne_eqb}

-- one process more was looked at
pub those_more : (old new g : ℕ → Bool) (i j : ℕ) (b : Bool) → j ≡ i + 1 → g i ≡ b → ((q : ℕ) → q < 16 → old q ≡ (nat_lt q i && g q)) → ((q : ℕ) → q < 16 → new q ≡ (old q || (nat_eq q i && b))) → (q : ℕ) → q < 16 → new q ≡ (nat_lt q j && g q)
those_more old new g i j b next here before more q lt = more q lt ∙ ap (λ x. x || (nat_eq q i && b)) (before q lt) ∙ ⊎_elim same (λ (h : (q < i) ⊎ (i < q)). ⊎_elim below above h) (cases_order q i)
  where
    below : q < i → ((nat_lt q i && g q) || (nat_eq q i && b)) ≡ (nat_lt q j && g q)
    below l = ap (λ x. (x && g q) || (nat_eq q i && b)) (lt-ltb q i l) ∙ ap (λ x. g q || (x && b)) (ne_eqb q i (omega (arith, l))) ∙ none (g q) ∙ ap (λ x. x && g q) (sym (lt-ltb q j (omega (arith, l, next))))
      where
        none : (a : Bool) → (a || false) ≡ a
        none true = refl
        none false = refl

    same : q ≡ i → ((nat_lt q i && g q) || (nat_eq q i && b)) ≡ (nat_lt q j && g q)
    same e = ap (λ x. (x && g q) || (nat_eq q i && b)) (le-ltb q i (omega (arith, e))) ∙ ap (λ x. x && b) (eq-eqb q i e) ∙ sym here ∙ ap g (sym e) ∙ ap (λ x. x && g q) (sym (lt-ltb q j (omega (arith, e, next))))

    above : i < q → ((nat_lt q i && g q) || (nat_eq q i && b)) ≡ (nat_lt q j && g q)
    above l = ap (λ x. (x && g q) || (nat_eq q i && b)) (le-ltb q i (omega (arith, l))) ∙ ap (λ x. x && b) (ne_eqb q i (omega (arith, l))) ∙ ap (λ x. x && g q) (sym (le-ltb q j (omega (arith, l, next))))

-- none is below 0
pub below_none : (q : ℕ) (b : Bool) → false ≡ (nat_lt q 0 && b)
below_none q b = sym (ap (λ x. x && b) (le-ltb q 0 (omega arith)))

-- of those below a number
pub below_only : (n q : ℕ) (b : Bool) → q < n → (nat_lt q n && b) ≡ b
below_only n q b lt = ap (λ x. x && b) (lt-ltb q n lt)

-- each process is one of everybody
pub everybody_is : (all : Set) (count q n : ℕ) → count ≡ n → n ≤ 16 → ((k : ℕ) → has all k ≡ (nat_lt k 16 && nat_lt k count)) → q < n → has all q ≡ true
everybody_is all count q n is few below lt = below q ∙ ap (λ b. b && nat_lt q count) (lt-ltb q 16 (omega (arith, few, lt))) ∙ lt-ltb q count (omega (arith, is, lt))
