-- The rules of types.
use Rattle.std.specs.Prelude.{ℕ, pos, ◌-ℤ◌, ◌+◌, nat_lt, int_lt, Bool, true, false, ◌||◌, if◌then◌else◌, List, [], ◌∷◌, ◌++◌, length, Option, Some, None, Ok, Err}
use Rattle.cp_tree.specs.declared.constant.Identifier.{Identifier}
use Rattle.cp_tree.specs.declared.declaration.SystemKind.{SystemKind}
use Rattle.cp_tree.specs.declared.declaration.SystemKind.TheVariants.{Class, Monitor, Process}
use Rattle.cp_tree.specs.Syntax.{Simple, type_name, enumeration, subrange, TypeTerm, simple, array_of, set_type, record_of, FieldGroups, no_fields, more_fields, FieldGroup, fields}
use Rattle.cp_scope.specs.declared.fault.CheckFault.{CheckFault}
use Rattle.cp_scope.specs.declared.fault.CheckFault.TheVariants as check_fault
use Rattle.cp_scope.specs.declared.fault.Rule.TheVariants.{C2, C4, C5, C11, C13, C18, C20}
use Rattle.cp_scope.specs.declared.types.Base.{Base}
use Rattle.cp_scope.specs.declared.types.Base.TheVariants.{Enumeration}
use Rattle.cp_scope.specs.declared.types.ValueType.{ValueType}
use Rattle.cp_scope.specs.declared.types.ValueType.TheVariants.{Ordinal, Queue, Set, Array, Record, Component}
use Rattle.cp_scope.specs.declared.types.Meaning.{Meaning}
use Rattle.cp_scope.specs.declared.types.Meaning.TheVariants as meaning
use Rattle.cp_scope.specs.declared.shape.ArrayShape.{ArrayShape}
use Rattle.cp_scope.specs.Types.{same_base, whole}
use Rattle.cp_scope.specs.Counts.{times}
use Rattle.cp_scope.specs.Scopes.{Scope, new_scope, Scopes, Shape, array_shape, record_shape, array_at, cells_of, census, count_of, is_declared, add, keep}
use Rattle.cp_scope.specs.Judged.{Judged, broken, both, ◌>>=◌, faults}
use Rattle.cp_check.specs.declared.constant.ConstantNumber.{ConstantNumber}
use Rattle.cp_check.specs.declared.types.Spot.{Spot}
use Rattle.cp_check.specs.declared.types.Spot.TheVariants as spot
use Rattle.cp_check.specs.declared.types.Holding.{Holding}
use Rattle.cp_check.specs.declared.types.Holding.TheVariants as holds
use Rattle.cp_check.specs.Names.{visible}
use Rattle.cp_check.specs.Constants.{constant}
use Rattle.cp_check.specs.Records.{Reserved, reserve_fields, add_fields, Fields, sound_fields, then_fields, check_fields}

-- ---- steps

-- What declarations leave: the faults in them, and what is visible after them.
pub record Step : Type 0 where
  pub faults : List CheckFault
  pub scopes : Scopes

-- the second step begins where the first ends
abbrev pub then_step : Step → (Scopes → Step) → Step
then_step a f = record { faults = a.faults ++ (f a.scopes).faults; scopes = (f a.scopes).scopes }

abbrev pub nothing : Scopes → Step
nothing s = record { faults = []; scopes = s }

-- a type, and what is visible after it
pub record Typed : Type 0 where
  pub type : Judged ValueType
  pub scopes : Scopes

-- ---- where queues and components stand

abbrev pub holding_array : ValueType → Holding
holding_array Queue = holds.Queues
holding_array (Component k n) = holds.Components k
holding_array _ = holds.Plain

abbrev pub holding_of : Option ArrayShape → Holding
holding_of (Some a) = holding_array a.element
holding_of None = holds.Plain

abbrev pub holding : Scopes → ValueType → Holding
holding s Queue = holds.Queue
holding s (Component k n) = holds.Component k
holding s (Array n) = holding_of (array_at n s)
holding s _ = holds.Plain

abbrev pub may_own : Option SystemKind → SystemKind → Bool
may_own owner Class = true
may_own (Some Class) Monitor = false
may_own owner Monitor = true
may_own None Process = true
may_own (Some k) Process = false

abbrev pub may_queue : Spot → Bool
may_queue (spot.Permanent (Some Monitor)) = true
may_queue spot.Element = true
may_queue _ = false

abbrev pub may_queues : Spot → Bool
may_queues (spot.Permanent (Some Monitor)) = true
may_queues spot.Definition = true
may_queues _ = false

abbrev pub may_component : Spot → SystemKind → Bool
may_component (spot.Permanent owner) k = may_own owner k
may_component spot.Element k = true
may_component _ k = false

abbrev pub may_components : Spot → SystemKind → Bool
may_components (spot.Permanent owner) k = may_own owner k
may_components spot.Definition k = true
may_components _ k = false

abbrev pub check_spot_of : ℕ → Spot → Holding → ValueType → Judged ValueType
check_spot_of at p holds.Plain t = Ok t
check_spot_of at p holds.Queue t = if may_queue p then Ok t else broken at C11
check_spot_of at p holds.Queues t = if may_queues p then Ok t else broken at C11
check_spot_of at p (holds.Component k) t = if may_component p k then Ok t else broken at C13
check_spot_of at p (holds.Components k) t = if may_components p k then Ok t else broken at C13

-- what is no base of a set is looked at later
abbrev pub check_spot : ℕ → Spot → Holding → ValueType → Judged ValueType
check_spot at spot.Base h t = Ok t
check_spot at p h t = check_spot_of at p h t

-- ---- names of types

abbrev pub to_type : ℕ → Meaning → Judged ValueType
to_type at (meaning.Kind t) = Ok t
to_type at _ = broken at C4

unfoldable pub type_named : Scopes → ℕ → List ℕ → Judged ValueType
type_named s at n = visible s at n >>= to_type at

abbrev pub at_spot : Scopes → Spot → ℕ → ValueType → Judged ValueType
at_spot s p at t = check_spot at p (holding s t) t

unfoldable pub type_at_spot : Scopes → Spot → ℕ → List ℕ → Judged ValueType
type_at_spot s p at n = type_named s at n >>= at_spot s p at

-- ---- subranges and enumerations

abbrev pub subrange_type : ℕ → ConstantNumber × ConstantNumber → Judged ValueType
subrange_type at p =
    if same_base p.0.base p.1.base
    then (if int_lt p.1.value p.0.value then broken at C18 else Ok (Ordinal (record { base = p.0.base; low = p.0.value; high = p.1.value })))
    else broken at C5

unfoldable pub member : Scopes → Base → ℕ → Identifier → Step
member s b k i =
    if is_declared s i.name
    then record { faults = check_fault.Rule i.at C2 ∷ []; scopes = s }
    else nothing (add s i.name (Some (meaning.Constant b (pos k))))

unfoldable pub members : Scopes → Base → ℕ → List Identifier → Step
members s b k [] = nothing s
members s b k (i ∷ is) = then_step (member s b k i) (λ after. members after b (k + 1) is)

abbrev pub unless_type : List CheckFault → ValueType → Judged ValueType
unless_type [] t = Ok t
unless_type (f ∷ fs) t = Err (f ∷ fs)

abbrev pub enumeration_type : Base → Step → Typed
enumeration_type b d = record { type = unless_type d.faults (Ordinal (whole b)); scopes = d.scopes }

abbrev pub base_of : ℕ → List Identifier → Base
base_of at is = Enumeration at (pos (length is) -ℤ pos 1)

unfoldable pub simple_type : Scopes → Spot → Simple → Typed
simple_type s p (type_name at n) = record { type = type_at_spot s p at n; scopes = s }
simple_type s p (enumeration at is) = enumeration_type (base_of at is) (members s (base_of at is) 0 is)
simple_type s p (subrange at a b) = record { type = both (constant s a) (constant s b) >>= subrange_type at; scopes = s }

-- ---- arrays and sets

abbrev pub check_cells : ℕ → ℕ → Judged (Unit {0})
check_cells at n = if nat_lt 8192 n then broken at C20 else Ok tt

abbrev pub array_of_range : Scopes → Spot → ℕ → ValueType → ValueType → Judged ArrayShape
array_of_range s p at (Ordinal r) e =
    check_spot at p (holding_array e) (Array at) >>= (λ t.
    check_cells at (times (count_of r) (cells_of e s.shapes)) >>= (λ u.
    Ok (record { index = r; element = e; cells = times (count_of r) (cells_of e s.shapes) })))
array_of_range s p at _ e = broken at C5

unfoldable pub shape_of_array : Scopes → Spot → ℕ → ValueType × ValueType → Judged ArrayShape
shape_of_array s p at q = array_of_range s p at q.0 q.1

abbrev pub keep_array : Scopes → ℕ → Judged ArrayShape → Scopes
keep_array s at (Ok a) = keep s at (array_shape a)
keep_array s at (Err fs) = s

abbrev pub to_array : ℕ → ArrayShape → Judged ValueType
to_array at a = Ok (Array at)

abbrev pub array_type : Spot → ℕ → Judged ValueType → Typed → Typed
array_type p at i e = record { type = both i e.type >>= shape_of_array e.scopes p at >>= to_array at; scopes = keep_array e.scopes at (both i e.type >>= shape_of_array e.scopes p at) }

abbrev pub set_of : ℕ → ℕ → ValueType → Judged ValueType
set_of at base_at (Ordinal r) = if int_lt r.low (pos 0) || int_lt (pos 127) r.high then broken at C20 else Ok (Set (Some r))
set_of at base_at _ = broken base_at C5

abbrev pub simple_at : Simple → ℕ
simple_at (type_name at n) = at
simple_at (enumeration at is) = at
simple_at (subrange at a b) = at

abbrev pub set_type_of : ℕ → ℕ → Typed → Typed
set_type_of at base_at b = record { type = b.type >>= set_of at base_at; scopes = b.scopes }

-- ---- records

abbrev pub as_field : Judged ValueType → Option Meaning
as_field (Ok t) = Some (meaning.Variable t)
as_field (Err fs) = None

abbrev pub field_group : List Identifier → Reserved → Typed → Fields
field_group is r t = record { faults = r.faults ++ faults t.type; fields = add_fields r.fields is (as_field t.type); scopes = t.scopes }

-- a record takes what its fields take
abbrev pub cells_in : Scope → Scopes → ℕ
cells_in f s = (census f.names s.shapes).cells

abbrev pub shape_within_limits : Scopes → ℕ → Scope → Judged Shape
shape_within_limits s at f = check_cells at (cells_in f s) >>= (λ u. Ok (record_shape f (cells_in f s)))

-- what is written at the word `record`
abbrev pub sound_shape : ℕ → Fields → Judged Shape
sound_shape at f = check_fields f >>= shape_within_limits f.scopes at

abbrev pub keep_record : Scopes → ℕ → Judged Shape → Scopes
keep_record s at (Ok d) = keep s at d
keep_record s at (Err fs) = s

abbrev pub to_record : ℕ → Shape → Judged ValueType
to_record at d = Ok (Record at)

abbrev pub record_type : ℕ → Fields → Typed
record_type at f = record { type = sound_shape at f >>= to_record at; scopes = keep_record f.scopes at (sound_shape at f) }

-- ---- types

unfoldable mutual
  pub typed : Scopes → Spot → TypeTerm → Typed
  typed s p (simple at t) = simple_type s p t
  typed s p (array_of at i e) = array_type p at (simple_type s spot.Other i).type (typed (simple_type s spot.Other i).scopes spot.Element e)
  typed s p (set_type at b) = set_type_of at (simple_at b) (simple_type s spot.Base b)
  typed s p (record_of at gs b) = record_type at (groups_typed new_scope s gs)

  -- fields that are declared after others
  pub groups_typed : Scope → Scopes → FieldGroups → Fields
  groups_typed f s no_fields = sound_fields f s
  groups_typed f s (more_fields g gs) = then_fields (group_typed f s g) (λ before after. groups_typed before after gs)

  pub group_typed : Scope → Scopes → FieldGroup → Fields
  group_typed f s (fields is t) = field_group is (reserve_fields f is) (typed s spot.Other t)
