-- What is assigned or handed over has few cells, and sets have members of a byte.
use Rattle.cp_resolved.proofs.Words.{◌≡◌, ℤ, pos, negsuc, true, arith, ValueType, Ty, is_within, all_characters, Written, TypeIs, IsByte, IsMoved}
use Rattle.cp_meaning.specs.Types as named

character_byte : (z : ℤ) → is_within all_characters z ≡ true → IsByte z
character_byte (pos n) h = search (arith, h)
character_byte (negsuc n) h = absurd (cc)

pub type_moved : (w : Written) (t : Ty) (v : ValueType) → TypeIs w t v → IsMoved t
type_moved w (named.set_over r) v h = (character_byte r.low h.low, character_byte r.high h.high)
type_moved w (named.array_over r t) v h = omega (arith, h.few)
type_moved w (named.record_with ts) v h = omega (arith, h.few)
type_moved w x v h = omega arith
