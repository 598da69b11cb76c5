-- The operations on ordinals of the meaning and of the slot machine are the same.
use Rattle.std.proofs.Common.{◌≡◌, ◌∙◌, ◌<◌, Bool, true, false, not, if◌then◌else◌, ap, refl, subst, arith}
use Rattle.std.specs.Prelude.{ℤ, pos, int_lt, int_div, int_rem, ◌&&◌, ◌||◌, Ok, Err, unsigned_abs}
use Rattle.cp_machine_laws.proofs.Words.{int_eq, ordinal, all_integers, all_booleans, is_within, OrdinalAgrees}
use Rattle.std.proofs.lemmas.Int.{ints, rem_below}
use Rattle.cp_store.specs.declared.error.ErrorName.TheVariants.{Overflow, ZeroDivisor}
use Rattle.cp_store.specs.Values as cells
use Rattle.cp_meaning.specs.Outcome.{overflow, zero_divisor}
use Rattle.cp_meaning.specs.Operations.{integer, truth, fitting, same_integer}

-- an integer of the language, or overflow
pub fits_narrowed : (z : ℤ) → OrdinalAgrees (fitting z) (ordinal all_integers) (cells.narrow z)
fits_narrowed z = go (is_within all_integers z) refl
  where
    go : (b : Bool) → is_within all_integers z ≡ b → OrdinalAgrees (if b then Ok (integer z) else Err overflow) (ordinal all_integers) (if b then Ok z else Err Overflow)
    go true e = (refl, refl, e)
    go false e = refl

-- truth values are 0 and 1
pub truth_agrees : (b : Bool) → OrdinalAgrees (Ok (truth b)) (ordinal all_booleans) (Ok (cells.truth b))
truth_agrees true = (refl, refl, refl)
truth_agrees false = (refl, refl, refl)

pub same_is_equal : (a b : ℤ) → same_integer a b ≡ int_eq a b
same_is_equal a b = grind (arith, ints)

-- of a truth value both tests are one
pub is_true_same : (z : ℤ) → is_within all_booleans z ≡ true → int_lt (pos 0) z ≡ cells.is_true z
is_true_same z h = grind (arith, ints)

pub or_same : (a b : ℤ) → is_within all_booleans a ≡ true → is_within all_booleans b ≡ true → OrdinalAgrees (Ok (truth (int_lt (pos 0) a || int_lt (pos 0) b))) (ordinal all_booleans) (Ok (cells.truth (cells.is_true a || cells.is_true b)))
or_same a b h k =
    subst (λ (x : Bool). OrdinalAgrees (Ok (truth (int_lt (pos 0) a || int_lt (pos 0) b))) (ordinal all_booleans) (Ok (cells.truth x)))
    (ap (λ (x : Bool). x || int_lt (pos 0) b) (is_true_same a h) ∙ ap (λ (x : Bool). cells.is_true a || x) (is_true_same b k)) (truth_agrees (int_lt (pos 0) a || int_lt (pos 0) b))

pub and_same : (a b : ℤ) → is_within all_booleans a ≡ true → is_within all_booleans b ≡ true → OrdinalAgrees (Ok (truth (int_lt (pos 0) a && int_lt (pos 0) b))) (ordinal all_booleans) (Ok (cells.truth (cells.is_true a && cells.is_true b)))
and_same a b h k =
    subst (λ (x : Bool). OrdinalAgrees (Ok (truth (int_lt (pos 0) a && int_lt (pos 0) b))) (ordinal all_booleans) (Ok (cells.truth x)))
    (ap (λ (x : Bool). x && int_lt (pos 0) b) (is_true_same a h) ∙ ap (λ (x : Bool). cells.is_true a && x) (is_true_same b k)) (truth_agrees (int_lt (pos 0) a && int_lt (pos 0) b))

pub not_same : (a : ℤ) → is_within all_booleans a ≡ true → OrdinalAgrees (Ok (truth (if int_lt (pos 0) a then false else true))) (ordinal all_booleans) (Ok (cells.truth (not (cells.is_true a))))
not_same a h = subst (λ (x : Bool). OrdinalAgrees (Ok (truth (if int_lt (pos 0) a then false else true))) (ordinal all_booleans) (Ok (cells.truth (not x)))) (is_true_same a h) (go (int_lt (pos 0) a))
  where
    go : (x : Bool) → OrdinalAgrees (Ok (truth (if x then false else true))) (ordinal all_booleans) (Ok (cells.truth (not x)))
    go true = truth_agrees false
    go false = truth_agrees true

pub quotient_same : (a b : ℤ) → OrdinalAgrees (if same_integer b (pos 0) then Err zero_divisor else fitting (int_div a b)) (ordinal all_integers) (cells.quotient a b)
quotient_same a b = subst (λ (x : Bool). OrdinalAgrees (if same_integer b (pos 0) then Err zero_divisor else fitting (int_div a b)) (ordinal all_integers) (if x then Err ZeroDivisor else cells.narrow (int_div a b))) (same_is_equal b (pos 0)) (go (same_integer b (pos 0)))
  where
    go : (x : Bool) → OrdinalAgrees (if x then Err zero_divisor else fitting (int_div a b)) (ordinal all_integers) (if x then Err ZeroDivisor else cells.narrow (int_div a b))
    go true = refl
    go false = fits_narrowed (int_div a b)

rem_within : (a b : ℤ) → is_within all_integers b ≡ true → same_integer b (pos 0) ≡ false → is_within all_integers (int_rem a b) ≡ true
rem_within a b h n =
    let some : 0 < unsigned_abs b = grind (arith, ints) in
    let less : unsigned_abs (int_rem a b) < unsigned_abs b = rem_below a b some in
    small (int_rem a b) b h less
  where
    small : (r b : ℤ) → is_within all_integers b ≡ true → unsigned_abs r < unsigned_abs b → is_within all_integers r ≡ true
    small r b h less = grind (arith, ints)

pub remainder_same : (a b : ℤ) → is_within all_integers b ≡ true → OrdinalAgrees (if same_integer b (pos 0) then Err zero_divisor else fitting (int_rem a b)) (ordinal all_integers) (cells.remainder a b)
remainder_same a b h = subst (λ (x : Bool). OrdinalAgrees (if same_integer b (pos 0) then Err zero_divisor else fitting (int_rem a b)) (ordinal all_integers) (if x then Err ZeroDivisor else Ok (int_rem a b))) (same_is_equal b (pos 0)) (go (same_integer b (pos 0)) refl)
  where
    fit : (w : Bool) → is_within all_integers (int_rem a b) ≡ w → w ≡ true → OrdinalAgrees (if w then Ok (integer (int_rem a b)) else Err overflow) (ordinal all_integers) (Ok (int_rem a b))
    fit true e d = (refl, refl, e)
    fit false e d = absurd (cc)

    go : (x : Bool) → same_integer b (pos 0) ≡ x → OrdinalAgrees (if x then Err zero_divisor else fitting (int_rem a b)) (ordinal all_integers) (if x then Err ZeroDivisor else Ok (int_rem a b))
    go true e = refl
    go false e = fit (is_within all_integers (int_rem a b)) refl (rem_within a b h e)
