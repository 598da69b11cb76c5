-- The rules of names with selectors.
use Rattle.std.specs.Prelude.{ℕ, if◌then◌else◌, List, Option, Some, None, Ok}
use Rattle.cp_tree.specs.declared.constant.Identifier.{Identifier}
use Rattle.cp_scope.specs.declared.fault.Rule.TheVariants.{C1, C5, C8}
use Rattle.cp_scope.specs.declared.types.ValueType.{ValueType}
use Rattle.cp_scope.specs.declared.types.ValueType.TheVariants.{Ordinal, Array, Record, Component}
use Rattle.cp_scope.specs.declared.types.Meaning.{Meaning}
use Rattle.cp_scope.specs.declared.types.Meaning.TheVariants as meaning
use Rattle.cp_scope.specs.declared.shape.ArrayShape.{ArrayShape}
use Rattle.cp_scope.specs.declared.count.Use.{Use}
use Rattle.cp_scope.specs.Types.{agree}
use Rattle.cp_scope.specs.Counts.{no_use, both_uses}
use Rattle.cp_scope.specs.Scopes.{Scopes, look, field_at, member_at, array_at}
use Rattle.cp_scope.specs.Judged.{Judged, broken, silent, ◌>>=◌}
use Rattle.cp_check.specs.declared.operand.Operand.{Operand}
use Rattle.cp_check.specs.declared.operand.Named.{Named}
use Rattle.cp_check.specs.declared.operand.Named.TheVariants.{Nothing, Constant, Variable, Parameter, Kind, Routine, Entry, Predeclared}
use Rattle.cp_check.specs.declared.operand.DesignatedName.{DesignatedName}

-- a name whose declaration has a fault breaks no rule
abbrev pub check_visible : ℕ → Option (Option Meaning) → Judged Meaning
check_visible at None = broken at C1
check_visible at (Some None) = silent
check_visible at (Some (Some m)) = Ok m

unfoldable pub visible : Scopes → ℕ → List ℕ → Judged Meaning
visible s at n = check_visible at (look n s)

abbrev pub without_selectors : Meaning → Named
without_selectors (meaning.Constant b v) = Constant b
without_selectors (meaning.Kind t) = Kind
without_selectors (meaning.Variable t) = Variable t
without_selectors (meaning.Parameter t) = Parameter t
without_selectors (meaning.Reference t) = Variable t
without_selectors (meaning.Routine n) = Routine n
without_selectors (meaning.Predeclared p) = Predeclared p

abbrev pub designation : ℕ → Use → Named → DesignatedName
designation at u n = record { named = n; name_at = at; uses = u }

abbrev pub designation_of : ℕ → Meaning → Judged DesignatedName
designation_of at m = Ok (designation at no_use (without_selectors m))

unfoldable pub meaning_of_name : Scopes → Identifier → Judged DesignatedName
meaning_of_name s i = visible s i.at i.name >>= designation_of i.at

abbrev pub type_of : Named → Option ValueType
type_of (Variable t) = Some t
type_of (Parameter t) = Some t
type_of _ = None

-- a part of a variable is a variable
abbrev pub part_of : Named → ValueType → Named
part_of (Variable u) t = Variable t
part_of (Parameter u) t = Parameter t
part_of _ t = Nothing

-- ---- fields and routines

abbrev pub with_field : ℕ → DesignatedName → Option (Option Meaning) → Judged DesignatedName
with_field at d (Some (Some (meaning.Variable t))) = Ok (designation at d.uses (part_of d.named t))
with_field at d _ = broken at C1

abbrev pub field : Scopes → Identifier → DesignatedName → ℕ → Judged DesignatedName
field s i d n = with_field i.at d (field_at n i.name s)

abbrev pub with_entry : ℕ → DesignatedName → Option (Option Meaning) → Judged DesignatedName
with_entry at d (Some (Some (meaning.Routine r))) = Ok (designation at d.uses (Entry r))
with_entry at d _ = broken at C8

abbrev pub entry : Scopes → Identifier → DesignatedName → ℕ → Judged DesignatedName
entry s i d n = with_entry i.at d (member_at n i.name s)

-- of parts that do not agree
abbrev pub nothing : ℕ → Use → DesignatedName
nothing at u = designation at u Nothing

abbrev pub member_by_type : Scopes → Identifier → DesignatedName → Option ValueType → Judged DesignatedName
member_by_type s i d (Some (Record n)) = field s i d n
member_by_type s i d (Some (Component k n)) = entry s i d n
member_by_type s i d _ = Ok (nothing i.at d.uses)

abbrev pub member_of : Scopes → Identifier → DesignatedName → Judged DesignatedName
member_of s i d = member_by_type s i d (type_of d.named)

-- ---- elements

abbrev pub element_of : DesignatedName → Operand → Option ArrayShape → Named
element_of d o (Some a) = if agree (Ordinal a.index) o.value_type then part_of d.named a.element else Nothing
element_of d o None = Nothing

abbrev pub element : Scopes → DesignatedName → Operand → ℕ → Named
element s d o n = element_of d o (array_at n s)

abbrev pub element_name_of : Scopes → DesignatedName → Operand → Option ValueType → Named
element_name_of s d o (Some (Array n)) = element s d o n
element_name_of s d o _ = Nothing

abbrev pub element_name : Scopes → DesignatedName → Operand → DesignatedName
element_name s d o = designation d.name_at (both_uses d.uses o.uses) (element_name_of s d o (type_of d.named))

abbrev pub check_selectors_of : ℕ → DesignatedName → Named → Judged DesignatedName
check_selectors_of at d Nothing = broken at C5
check_selectors_of at d _ = Ok d

-- the selectors fit what they select from
abbrev pub check_selectors : ℕ → DesignatedName → Judged DesignatedName
check_selectors at d = check_selectors_of at d d.named
