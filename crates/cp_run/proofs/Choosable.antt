-- The numbers that a due choice may take: each of a list of them may be taken, and those before it are the ones below it.
use Rattle.std.proofs.Common.{◌≡◌, ◌∙◌, ℕ, zero, suc, ◌<◌, ◌≤◌, ⊎_elim, Bool, true, false, if◌then◌else◌, List, [], ◌∷◌, ◌++◌, length, take, get_or, refl, sym, ap, arith}
use Rattle.std.proofs.Math.ListN.{get_or-append}
use Rattle.std.proofs.Math.Seq.{get_or-append_seam, take-append_seam}
use Rattle.std.proofs.lemmas.Bool.{cases_lt}
use Rattle.std.proofs.lemmas.List.{append-nil, length-append, take-append-le}
use Rattle.cp_run.proofs.Words.{System, may, those_below}

-- the number at a place, and those before it
abbrev pub At : (ℕ → Bool) → ℕ → ℕ → List ℕ → Type 0
At f n i xs = (take i xs ≡ those_below (get_or xs i 0) f) × (f (get_or xs i 0) ≡ true) × (get_or xs i 0 < n)

at_one_more : (f : ℕ → Bool) (n i : ℕ) (b : Bool) → f n ≡ b → (xs : List ℕ) → xs ≡ those_below n f → (i < length xs → At f n i xs) → i < length (xs ++ (if b then n ∷ [] else [])) → At f (suc n) i (xs ++ (if b then n ∷ [] else []))
at_one_more f n i b e xs same on lt =
    ⊎_elim
    (λ (below : i < length xs).
    let h = on below in
    let tail : List ℕ = if b then n ∷ [] else [] in
    let g : get_or (xs ++ tail) i 0 ≡ get_or xs i 0 = get_or-append xs tail 0 i below in
    (take-append-le i xs tail (omega (arith, below)) ∙ h.0 ∙ ap (λ p. those_below p f) (sym g), ap f g ∙ h.1, omega (arith, g, h.2)))
    (λ (above : length xs ≤ i). seam b e lt above)
    (cases_lt i (length xs))
  where
    seam : (b : Bool) → f n ≡ b → i < length (xs ++ (if b then n ∷ [] else [])) → length xs ≤ i → At f (suc n) i (xs ++ (if b then n ∷ [] else []))
    seam false e lt above = absurd (omega (arith, lt, above, ap length (append-nil xs)))
    seam true e lt above =
        let at : i ≡ length xs = omega (arith, lt, above, length-append xs (n ∷ [])) in
        let g : get_or (xs ++ n ∷ []) i 0 ≡ n = ap (λ k. get_or (xs ++ n ∷ []) k 0) at ∙ get_or-append_seam xs n [] 0 in
        (ap (λ k. take k (xs ++ n ∷ [])) at ∙ take-append_seam xs (n ∷ []) ∙ same ∙ ap (λ p. those_below p f) (sym g), ap f g ∙ e, omega (arith, g))

pub at_those : (f : ℕ → Bool) (n i : ℕ) → i < length (those_below n f) → At f n i (those_below n f)
at_those f zero i lt = absurd (omega (arith, lt))
at_those f (suc n) i lt = at_one_more f n i (f n) refl (those_below n f) refl (at_those f n i) lt

-- each of the numbers that may be chosen may be
pub may_those : {S : Type 0} (sys : System S) (s : S) (all : List ℕ) → all ≡ those_below sys.processes (may sys s) → (i : ℕ) → i < length all → may sys s (get_or all i 0) ≡ true
may_those sys s all is i lt =
    let e = ap length is in
    ap (λ l. may sys s (get_or l i 0)) is ∙ (at_those (may sys s) sys.processes i (omega (arith, lt, e))).1
