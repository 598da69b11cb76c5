-- Rows with numbers written into them.
use Rattle.std.proofs.Common.{◌≡◌, ◌∙◌, ◌<◌, ◌⊎◌, inl, inr, ℕ, Bool, true, false, List, [], ◌∷◌, length, ap, refl, sym, subst, get_or-set_same, get_or-set_other}
use Rattle.std.specs.Prelude.{◌==◌, ◌||◌, map, slice_set}
use Rattle.std.proofs.lemmas.Bool.{eqb-true, eq-eqb, false≢true}
use Rattle.std.proofs.lemmas.List.{length-set}
use Rattle.cp_states.specs.Numbers.{number_at}
use Rattle.cp_effects.specs.declared.changes.Write.{Write}
use Rattle.cp_effects.specs.Noting.{among}
use Rattle.cp_effects.specs.Changes.{is_written, written}

pub written_long : (ws : List Write) (row : List ℕ) → length (written ws row) ≡ length row
written_long [] row = refl
written_long (w ∷ ws) row = written_long ws (slice_set row w.position w.number) ∙ length-set row w.position w.number

or_none : (b c : Bool) → (b || c) ≡ false → (b ≡ false) × (c ≡ false)
or_none true c h = absurd (cc)
or_none false c h = (refl, h)

or_some : (b c : Bool) → (b || c) ≡ true → (b ≡ true) ⊎ ((b ≡ false) × (c ≡ true))
or_some true c h = inl refl
or_some false c h = inr (refl, h)

not_here : (a b : ℕ) → (a == b) ≡ false → (a ≡ b → ⊥)
not_here a b h is = false≢true (sym h ∙ eq-eqb a b is)

-- elsewhere the number stays
pub written_elsewhere : (ws : List Write) (row : List ℕ) (k : ℕ) → is_written ws k ≡ false → number_at (written ws row) k ≡ number_at row k
written_elsewhere [] row k h = refl
written_elsewhere (w ∷ ws) row k h =
    let no = or_none (w.position == k) (is_written ws k) h in
    written_elsewhere ws (slice_set row w.position w.number) k no.1 ∙ other w.position k (not_here w.position k no.0)
  where
    other : (at j : ℕ) → (at ≡ j → ⊥) → number_at (slice_set row at w.number) j ≡ number_at row j
    other at j ne = get_or-set_other row at j w.number 0 (λ e. ne (sym e))

-- two rows that have one number somewhere, or in which one is written there, have one there afterwards
pub written_alike : (ws : List Write) (row other : List ℕ) (k : ℕ) → k < length row → k < length other → (number_at row k ≡ number_at other k) ⊎ (is_written ws k ≡ true) → number_at (written ws row) k ≡ number_at (written ws other) k
written_alike [] row other k lt lo (inl same) = same
written_alike [] row other k lt lo (inr is) = absurd (false≢true is)
written_alike (w ∷ ws) row other k lt lo h =
    written_alike ws (slice_set row w.position w.number) (slice_set other w.position w.number) k (subst (λ j. k < j) (sym (length-set row w.position w.number)) lt) (subst (λ j. k < j) (sym (length-set other w.position w.number)) lo) (next (w.position == k) refl h)
  where
    set_here : (xs : List ℕ) → k < length xs → (w.position ≡ k) → number_at (slice_set xs w.position w.number) k ≡ w.number
    set_here xs lx is = ap (λ j. number_at (slice_set xs j w.number) k) is ∙ get_or-set_same xs k w.number 0 lx

    set_there : (xs : List ℕ) → (w.position ≡ k → ⊥) → number_at (slice_set xs w.position w.number) k ≡ number_at xs k
    set_there xs ne = get_or-set_other xs w.position k w.number 0 (λ e. ne (sym e))

    next : (b : Bool) → (w.position == k) ≡ b → (number_at row k ≡ number_at other k) ⊎ (is_written (w ∷ ws) k ≡ true) →
        (number_at (slice_set row w.position w.number) k ≡ number_at (slice_set other w.position w.number) k) ⊎ (is_written ws k ≡ true)
    next true is h = let at = eqb-true w.position k is in inl (set_here row lt at ∙ sym (set_here other lo at))
    next false is (inl same) = let ne = not_here w.position k is in inl (set_there row ne ∙ same ∙ sym (set_there other ne))
    next false is (inr some) = inr (sym (ap (λ b. b || is_written ws k) is) ∙ some)

-- lists of numbers that are the same have the same of each element
pub same_of : (f g : ℕ → ℕ) (xs : List ℕ) (x : ℕ) → map f xs ≡ map g xs → among xs x ≡ true → f x ≡ g x
same_of f g [] x e h = absurd (false≢true h)
same_of f g (y ∷ ys) x e h = go (same_of f g ys x rest) (or_some (y == x) (among ys x) h)
  where
    rest : map f ys ≡ map g ys
    rest = cc

    head : f y ≡ g y
    head = cc

    go : (among ys x ≡ true → f x ≡ g x) → ((y == x) ≡ true) ⊎ (((y == x) ≡ false) × (among ys x ≡ true)) → f x ≡ g x
    go more (inl is) = subst (λ z. f z ≡ g z) (eqb-true y x is) head
    go more (inr (ne, is)) = more is
