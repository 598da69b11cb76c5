-- Types, and what names stand for.
use Rattle.std.specs.Prelude.{ℕ, ℤ, pos, negsuc, Bool, true, false, nat_eq, ◌&&◌, Option, Some, None}
use Rattle.std.specs.Ordering.{int_eq}
use Rattle.cp_scope.specs.declared.types.Base.{Base}
use Rattle.cp_scope.specs.declared.types.Base.TheVariants.{Integer, Boolean, Char, Enumeration}
use Rattle.cp_scope.specs.declared.types.Range.{Range}
use Rattle.cp_scope.specs.declared.types.ValueType.{ValueType}
use Rattle.cp_scope.specs.declared.types.ValueType.TheVariants.{Ordinal, Queue, Set, Array, Record, Component}
use Rattle.cp_scope.specs.declared.types.Meaning.{Meaning}
use Rattle.cp_scope.specs.declared.types.Meaning.TheVariants.{Constant, Kind, Variable, Reference, Routine}
use Rattle.cp_scope.specs.declared.types.Meaning.TheVariants as meaning
use Rattle.cp_scope.specs.declared.types.Parameter.{Parameter}

abbrev pub same_base : Base → Base → Bool
same_base Integer Integer = true
same_base Boolean Boolean = true
same_base Char Char = true
same_base (Enumeration m k) (Enumeration n l) = nat_eq m n
same_base _ _ = false

-- all values of a base
abbrev pub whole : Base → Range
whole Integer = record { base = Integer; low = negsuc 32767; high = pos 32767 }
whole Boolean = record { base = Boolean; low = pos 0; high = pos 1 }
whole Char = record { base = Char; low = pos 0; high = pos 127 }
whole (Enumeration n last) = record { base = Enumeration n last; low = pos 0; high = last }

abbrev pub values_of : Base → ValueType
values_of b = Ordinal (whole b)

abbrev pub same_range : Range → Range → Bool
same_range a b = same_base a.base b.base && int_eq a.low b.low && int_eq a.high b.high

-- values of the two types agree
abbrev pub agree : ValueType → ValueType → Bool
agree (Ordinal a) (Ordinal b) = same_base a.base b.base
agree Queue Queue = true
agree (Set (Some a)) (Set (Some b)) = same_base a.base b.base
agree (Set (Some a)) (Set None) = true
agree (Set None) (Set b) = true
agree (Array m) (Array n) = nat_eq m n
agree (Record m) (Record n) = nat_eq m n
agree (Component j m) (Component k n) = nat_eq m n
agree _ _ = false

-- the two types are one
abbrev pub same : ValueType → ValueType → Bool
same (Ordinal a) (Ordinal b) = same_range a b
same Queue Queue = true
same (Set (Some a)) (Set (Some b)) = same_range a b
same (Set (Some a)) (Set None) = false
same (Set None) (Set (Some b)) = false
same (Set None) (Set None) = true
same (Array m) (Array n) = nat_eq m n
same (Record m) (Record n) = nat_eq m n
same (Component j m) (Component k n) = nat_eq m n
same _ _ = false

abbrev pub is_of : Base → ValueType → Bool
is_of b (Ordinal r) = same_base r.base b
is_of b _ = false

abbrev pub is_ordinal : ValueType → Bool
is_ordinal (Ordinal r) = true
is_ordinal _ = false

-- the program's constants and types are visible from a system type
abbrev pub is_open : Meaning → Bool
is_open (Variable t) = false
is_open (Routine n) = false
is_open _ = true

abbrev pub parameter_of : Meaning → Option Parameter
parameter_of (meaning.Parameter t) = Some (record { is_var = false; value_type = t })
parameter_of (Reference t) = Some (record { is_var = true; value_type = t })
parameter_of _ = None
