-- Sets of the numbers 0 to 127. Bit number k of the members is 1 where k is one; eight cells hold sixteen members each.
use Rattle.std.specs.Prelude.{ℕ, zero, suc, ◌+◌, ◌*◌, ◌/◌, ◌%◌, ◌^◌, Bool, true, false, not, ◌&&◌, ◌||◌, ◌==◌, nat_lt, if◌then◌else◌, Result, Ok, Err, ℤ, pos, unsigned_abs, bit_and, bit_or, bit_xor}
use Rattle.std.specs.Int.{cast_unsigned, cast_signed, w16}
use Rattle.cp_slots.specs.declared.place.SetOperation.{SetOperation}
use Rattle.cp_slots.specs.declared.place.SetOperation.TheVariants.{Union, Difference, Intersection}
use Rattle.cp_store.specs.declared.error.ErrorName.{ErrorName}
use Rattle.cp_store.specs.declared.error.ErrorName.TheVariants.{Range}
use Rattle.cp_store.specs.declared.memory.Address.{Address}
use Rattle.cp_store.specs.declared.set.SetValue.{SetValue}
use Rattle.cp_store.specs.Memory.{Memory, cell_at, address_onward, put_number}
use Rattle.cp_store.specs.Values.{is_within, truth}

abbrev pub empty : SetValue
empty = record { members = 0 }

abbrev pub has_bit : ℕ → ℕ → Bool
has_bit members number = (members / 2 ^ number) % 2 == 1

-- false for an ordinal outside 0 to 127
abbrev pub is_member : SetValue → ℤ → Bool
is_member s z = is_within (pos 0) (pos 127) z && has_bit s.members (unsigned_abs z)

-- a set and one element more; range outside 0 to 127
abbrev pub with_element : SetValue → ℤ → Result SetValue ErrorName
with_element s z =
    if is_within (pos 0) (pos 127) z
    then Ok (record { members = bit_or s.members (2 ^ unsigned_abs z) })
    else Err Range

-- the members of a difference are those of the left set in which the two differ
abbrev pub combine_sets : SetOperation → SetValue → SetValue → SetValue
combine_sets Union s t = record { members = bit_or s.members t.members }
combine_sets Difference s t = record { members = bit_and s.members (bit_xor s.members t.members) }
combine_sets Intersection s t = record { members = bit_and s.members t.members }

-- whether two sets are equal, or, where that is not wanted, whether they differ
abbrev pub compare_sets : Bool → SetValue → SetValue → ℤ
compare_sets true s t = truth (s.members == t.members)
compare_sets false s t = truth (not (s.members == t.members))

-- whether the members below n lie within bounds
unfoldable pub are_within : (low high members : ℕ) → ℕ → Bool
are_within low high members zero = true
are_within low high members (suc n) =
    if (nat_lt n low || nat_lt high n) && has_bit members n then false else are_within low high members n

-- a set within bounds, or range
abbrev pub check_members : (low high : ℕ) → SetValue → Result SetValue ErrorName
check_members low high s = if are_within low high s.members 128 then Ok s else Err Range

-- ---- in cells

abbrev pub word_at : Memory → Address → ℕ
word_at m at = cast_unsigned w16 (cell_at m at)

abbrev pub pair_at : Memory → Address → ℕ
pair_at m at = word_at m at + word_at m (address_onward at 1) * 2 ^ 16

abbrev pub quad_at : Memory → Address → ℕ
quad_at m at = pair_at m at + pair_at m (address_onward at 2) * 2 ^ 32

-- the set that the eight cells from an address on hold
abbrev pub load_set : Memory → Address → SetValue
load_set m at = record { members = quad_at m at + quad_at m (address_onward at 4) * 2 ^ 64 }

abbrev pub put_word : Memory → Address → ℕ → Memory
put_word m at members = put_number m at (cast_signed w16 members)

abbrev pub put_pair : Memory → Address → ℕ → Memory
put_pair m at members = put_word (put_word m at (members % 2 ^ 16)) (address_onward at 1) (members / 2 ^ 16)

abbrev pub put_quad : Memory → Address → ℕ → Memory
put_quad m at members = put_pair (put_pair m at (members % 2 ^ 32)) (address_onward at 2) (members / 2 ^ 32)

-- the memory with another set in the eight cells from an address on
abbrev pub put_set : Memory → Address → SetValue → Memory
put_set m at s = put_quad (put_quad m at (s.members % 2 ^ 64)) (address_onward at 4) (s.members / 2 ^ 64)
