-- Sets by their members: what the operations on their bits come to.
use Rattle.std.specs.Prelude.{◌≡◌, ℕ, ◌+◌, ◌^◌, ◌<◌, ◌≤◌, length, Bool, true, not, ◌&&◌, ◌||◌, Ok, ℤ}
use Rattle.std.specs.Ordering.{int_eq}
use Rattle.cp_slots.specs.declared.place.SetOperation.{SetOperation}
use Rattle.cp_slots.specs.declared.place.SetOperation.TheVariants.{Union, Difference, Intersection}
use Rattle.cp_store.specs.declared.set.SetValue.{SetValue}
use Rattle.cp_store.specs.declared.memory.Address.{Address}
use Rattle.cp_store.specs.declared.memory.Address.TheVariants.{Permanent, Local}
use Rattle.cp_store.specs.Memory.{Memory}
use Rattle.cp_store.specs.Sets.{has_bit, is_member, combine_sets, with_element, check_members, load_set, put_set}

-- whether a number is a member of a combination, by whether it is one of the left and of the right set
abbrev pub is_joined : SetOperation → Bool → Bool → Bool
is_joined Union left right = left || right
is_joined Difference left right = left && not right
is_joined Intersection left right = left && right

abbrev pub CombinationsJoinMembers : Type 0
CombinationsJoinMembers =
    (o : SetOperation) (s t : SetValue) (z : ℤ) → is_member (combine_sets o s t) z ≡ is_joined o (is_member s z) (is_member t z)

-- a set with one element more has that element, and otherwise the members that it had
abbrev pub ElementsBecomeMembers : Type 0
ElementsBecomeMembers =
    (s t : SetValue) (element z : ℤ) → with_element s element ≡ Ok t → is_member t z ≡ (is_member s z || int_eq z element)

-- what is within bounds has no member outside them
abbrev pub RangedMembersAreWithin : Type 0
RangedMembersAreWithin =
    (low high : ℕ) (s t : SetValue) → check_members low high s ≡ Ok t → (k : ℕ) → k < 128 → has_bit s.members k ≡ true → (low ≤ k) × (k ≤ high)

-- the eight cells from an address on are cells of the memory
abbrev pub HasSet : Memory → Address → Type 0
HasSet m (Permanent number) = (number + 8 ≤ length m.permanents) × (number + 8 < 2 ^ 64)
HasSet m (Local number) = (number + 8 ≤ length m.cells) × (number + 8 < 2 ^ 64)

-- a set is read back where it was written
abbrev pub SetsAreReadBack : Type 0
SetsAreReadBack =
    (m : Memory) (at : Address) (s : SetValue) → HasSet m at → s.members < 2 ^ 128 → load_set (put_set m at s) at ≡ s
