-- When a value with slots is the form of an expression, and when a name with selectors is.
use Rattle.std.specs.Prelude.{◌≡◌, ◌+◌, ◌≤◌, ℕ}
use Rattle.cp_symbols.specs.declared.kinds.CellType.{CellType}
use Rattle.cp_symbols.specs.Kinds.{Compounds, most}
use Rattle.cp_slots.specs.Code as code
use Rattle.cp_layout.specs.Values as values
use Rattle.cp_layout.specs.Values.{Value, ordinal_value, set_value, whole_value, component_value}
use Rattle.cp_meaning.specs.Types.{Range, Ty, ordinal, queue_type, set_over, array_over, record_with, component_of, FieldTypes, no_field_types, more_field_types, length_of_range}
use Rattle.cp_resolved.specs.Layouts.{cells_of}
use Rattle.cp_resolved.specs.Compiled.{Form, as_ordinal, as_set, as_place, as_component, Formed, Designated, a_variable, some_components, a_component}
use Rattle.cp_resolved.specs.InStep.{Numbering, base_of, TypeIs}

abbrev pub FormIs : Numbering → Compounds → Ty → Form → Value → Type 0
FormIs k ts t (as_ordinal e) v = (r : Range) × (t ≡ ordinal r) × (v ≡ ordinal_value e (base_of k r.base))
FormIs k ts t (as_set e) v = v ≡ set_value e
FormIs k ts t (as_place p) v = (w : CellType) × (v ≡ whole_value p w) × TypeIs k ts t w
FormIs k ts t (as_component c) v = v ≡ component_value c

abbrev pub ValueIs : Numbering → Compounds → Formed → Value → Type 0
ValueIs k ts f v = FormIs k ts f.ty f.form v

-- ---- names with selectors

abbrev mutual
  -- no array of the type is without elements
  pub IsFull : Ty → Type 0
  IsFull (ordinal r) = Unit {0}
  IsFull queue_type = Unit {0}
  IsFull (set_over r) = Unit {0}
  IsFull (array_over r t) = (1 ≤ length_of_range r) × IsFull t
  IsFull (record_with us) = AreFull us
  IsFull (component_of n) = Unit {0}

  pub AreFull : FieldTypes → Type 0
  AreFull no_field_types = Unit {0}
  AreFull (more_field_types x t us) = IsFull t × AreFull us

-- the cells of the variable end before the greatest number of a word
abbrev pub Ends : code.Place → Ty → Type 0
Ends (code.place o n is) t = n + cells_of t ≤ most

pub record PlaceIs (k : Numbering) (ts : Compounds) (p : code.Place) (t : Ty) (d : values.Designated) : Type 0 where
  pub value_type : CellType
  pub is : d ≡ values.a_variable p value_type
  pub belongs : TypeIs k ts t value_type
  pub ends : Ends p t
  pub full : IsFull t

pub record ComponentsAre (k : Numbering) (ts : Compounds) (first : ℕ) (r : Range) (n : ℕ) (d : values.Designated) : Type 0 where
  pub value_type : CellType
  pub is : d ≡ values.a_contained first value_type
  pub belongs : TypeIs k ts (array_over r (component_of n)) value_type

abbrev pub DesignatedIs : Numbering → Compounds → Designated → values.Designated → Type 0
DesignatedIs k ts (a_variable p t) d = PlaceIs k ts p t d
DesignatedIs k ts (some_components first r n) d = ComponentsAre k ts first r n d
DesignatedIs k ts (a_component c n) d = d ≡ values.a_component c n
