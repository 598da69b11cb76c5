-- Operations on integers of the language, carried out in 32 bits.
use Rattle.std.proofs.Common.{◌≡◌, ℕ, ◌/◌, ◌≤◌, suc, zero, ap, refl, arith, w32, ℤ, pos, negsuc, neg_ℤ, ◌*ℤ◌, FitsSigned, to_z, of_z, Bool, true, false}
use Rattle.std.specs.Prelude.{unsigned_abs, int_div}
use Rattle.std.specs.Int.{w16}
use Rattle.std.specs.Ordering.{int_eq}
use Rattle.std.proofs.lemmas.Bool.Decides.{Decides-int_eq}
use Rattle.std.proofs.lemmas.Int.{to_z-of_z, fits_signed_mul, fits_signed_from_abs}

pub abs_bound : (z : ℤ) → FitsSigned w16 z → unsigned_abs z ≤ 32768
abs_bound (pos n) h = omega (arith, h.sfits)
abs_bound (negsuc n) h = omega (arith, h.sfits)

pub wider : (z : ℤ) → FitsSigned w16 z → FitsSigned w32 z
wider (pos n) h = record { sfits = omega (arith, h.sfits) }
wider (negsuc n) h = record { sfits = omega (arith, h.sfits) }

abs_negated : (n : ℕ) → unsigned_abs (neg_ℤ (pos n)) ≡ n
abs_negated zero = refl
abs_negated (suc n) = refl

div_le : (a b : ℕ) → a / b ≤ a
div_le a b = omega arith

abs_quotient : (x y : ℤ) → unsigned_abs (int_div x y) ≤ unsigned_abs x
abs_quotient (pos a) (pos b) = div_le a b
abs_quotient (pos a) (negsuc b) = rw (abs_negated (a / suc b)) (div_le a (suc b))
abs_quotient (negsuc a) (pos b) = rw (abs_negated (suc a / b)) (div_le (suc a) b)
abs_quotient (negsuc a) (negsuc b) = div_le (suc a) (suc b)

pub product_said : (x y : ℤ) → FitsSigned w16 x → FitsSigned w16 y → to_z w32 (of_z w32 (to_z w32 (of_z w32 (to_z w16 (of_z w16 x))) *ℤ to_z w32 (of_z w32 (to_z w16 (of_z w16 y))))) ≡ x *ℤ y
product_said x y f g =
    let x_wide = wider x f in
    let y_wide = wider y g in
    let whole = fits_signed_mul w32 x y 32768 32768 (abs_bound x f) (abs_bound y g) (omega arith) in
    simp to_z-of_z

pub quotient_said : (x y : ℤ) → FitsSigned w16 x → FitsSigned w16 y → to_z w32 (of_z w32 (int_div (to_z w32 (of_z w32 (to_z w16 (of_z w16 x)))) (to_z w32 (of_z w32 (to_z w16 (of_z w16 y)))))) ≡ int_div x y
quotient_said x y f g =
    let x_wide = wider x f in
    let y_wide = wider y g in
    let small = abs_quotient x y in
    let bound = abs_bound x f in
    let whole = fits_signed_from_abs w32 (int_div x y) (omega arith) in
    simp to_z-of_z

false_from : (b : Bool) → (b ≡ true → ⊥) → b ≡ false
false_from true h = absurd (h refl)
false_from false h = refl

pub not_zero : (z : ℤ) → (of_z w16 z ≡ 0 → ⊥) → int_eq z (pos 0) ≡ false
not_zero z h = false_from _ (λ same. h (ap (of_z w16) ((Decides-int_eq z (pos 0)).0 same)))
