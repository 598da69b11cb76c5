-- The names of the tables in step with a scope of the program: the same names in the same order, with meanings that belong together.
use Rattle.std.specs.Prelude.{◌≡◌, ℕ, ◌-◌, ◌<◌, ◌≤◌, ◌⊎◌, ℤ, pos, negsuc, true, false, List, [], ◌∷◌, length, Option, Some, None, slice_get}
use Rattle.cp_slots.specs.declared.place.PlaceOrigin.{PlaceOrigin}
use Rattle.cp_slots.specs.declared.place.PlaceOrigin.TheVariants as origin
use Rattle.cp_symbols.specs.declared.kinds.CellBase.{CellBase}
use Rattle.cp_symbols.specs.declared.kinds.CellBase.TheVariants as base
use Rattle.cp_symbols.specs.declared.kinds.CellRange.{CellRange}
use Rattle.cp_symbols.specs.declared.kinds.CellType.{CellType}
use Rattle.cp_symbols.specs.declared.kinds.CellType.TheVariants as types
use Rattle.cp_symbols.specs.declared.names.LayoutMeaning.{LayoutMeaning}
use Rattle.cp_symbols.specs.declared.names.LayoutMeaning.TheVariants as meaning
use Rattle.cp_symbols.specs.declared.names.PredeclaredRoutine.{PredeclaredRoutine}
use Rattle.cp_symbols.specs.declared.names.PredeclaredRoutine.TheVariants as predeclared
use Rattle.cp_symbols.specs.Kinds.{Compounds, array, record_with, Field, cells_of, plus}
use Rattle.cp_layout.specs.Kinds.{array_type}
use Rattle.cp_layout.specs.Layers as layers
use Rattle.cp_meaning.specs.Types as named
use Rattle.cp_meaning.specs.Types.{Ty, has_components}
use Rattle.cp_meaning.specs.Scopes as scopes
use Rattle.cp_meaning.specs.Scopes.{Scope, Standard}
use Rattle.cp_meaning.specs.Declarations.{RoutineMeaning, routine_in}

-- how the tables number what is declared: of the enumeration at a token the first constant, and of each number of a routine the meaning
pub record Numbering : Type 0 where
  pub firsts : ℕ → ℕ
  pub routines : ℕ → RoutineMeaning

-- an enumeration goes by the number of its first constant
abbrev pub base_of : Numbering → named.Base → CellBase
base_of k named.integers = base.Integer
base_of k named.booleans = base.Boolean
base_of k named.characters = base.Char
base_of k (named.enumerated at xs) = base.Enumeration (k.firsts at) (pos (length xs - 1))

abbrev pub range_on : Numbering → named.Range → CellRange
range_on k s = record { base = base_of k s.base; low = s.low; high = s.high }

pub record ArrayIs (Element : CellType → Type 0) (k : Numbering) (ts : Compounds) (s : named.Range) (v : CellType) : Type 0 where
  pub number : ℕ
  pub is : v ≡ types.Array number
  pub element : CellType
  pub there : slice_get ts number ≡ Some (array (array_type ts (range_on k s) element))
  pub belongs : Element element

pub record RecordIs (Fields : List Field → ℕ → ℕ → Type 0) (ts : Compounds) (v : CellType) : Type 0 where
  pub number : ℕ
  pub is : v ≡ types.Record number
  pub fields : List Field
  pub cells : ℕ
  pub there : slice_get ts number ≡ Some (record_with fields cells)
  pub each : Fields fields 0 cells

-- a field that takes the cells from an offset on, before others
pub record FieldIs (Is : CellType → Type 0) (Rest : List Field → ℕ → Type 0) (ts : Compounds) (x : List ℕ) (fs : List Field) (offset : ℕ) : Type 0 where
  pub value_type : CellType
  pub rest : List Field
  pub first : fs ≡ (let f : Field = record { name = x; value_type = value_type; offset = offset } in f) ∷ rest
  pub belongs : Is value_type
  pub others : Rest rest (plus offset (cells_of ts value_type))

abbrev mutual
  pub TypeIs : Numbering → Compounds → Ty → CellType → Type 0
  TypeIs k ts (named.ordinal s) v = v ≡ types.Ordinal (range_on k s)
  TypeIs k ts named.queue_type v = v ≡ types.Queue
  TypeIs k ts (named.set_over s) v = v ≡ types.Set (range_on k s)
  TypeIs k ts (named.array_over s t) v = ArrayIs (TypeIs k ts t) k ts s v
  TypeIs k ts (named.record_with us) v = RecordIs (FieldsAre k ts us) ts v
  TypeIs k ts (named.component_of n) v = v ≡ types.System n

  -- each after the one before it, from an offset on to the end
  pub FieldsAre : Numbering → Compounds → named.FieldTypes → List Field → (offset end : ℕ) → Type 0
  FieldsAre k ts named.no_field_types fs n end = (fs ≡ []) × (n ≡ end)
  FieldsAre k ts (named.more_field_types x t us) fs n end = FieldIs (TypeIs k ts t) (λ rest m. FieldsAre k ts us rest m end) ts x fs n

abbrev pub predeclared_as : Standard → PredeclaredRoutine
predeclared_as scopes.succ_function = predeclared.Succ
predeclared_as scopes.pred_function = predeclared.Pred
predeclared_as scopes.chr_function = predeclared.Chr
predeclared_as scopes.ord_function = predeclared.Ord
predeclared_as scopes.abs_function = predeclared.Abs
predeclared_as scopes.empty_function = predeclared.Empty
predeclared_as scopes.delay_procedure = predeclared.Delay
predeclared_as scopes.continue_procedure = predeclared.Continue
predeclared_as scopes.display_procedure = predeclared.Display

-- an integer that has an opposite one
abbrev pub IsSmall : ℤ → Type 0
IsSmall (pos n) = n ≤ 32767
IsSmall (negsuc n) = n < 32767

abbrev pub IsInFrame : PlaceOrigin → Type 0
IsInFrame (origin.Local n) = Unit {0}
IsInFrame (origin.Reference n) = Unit {0}
IsInFrame (origin.Permanent n) = ⊥

pub record VariableIs (k : Numbering) (ts : Compounds) (t : Ty) (m : LayoutMeaning) : Type 0 where
  pub origin : PlaceOrigin
  pub value_type : CellType
  pub is : m ≡ meaning.Variable origin value_type
  pub in_frame : IsInFrame origin
  pub belongs : TypeIs k ts t value_type

-- a variable with permanent cells
pub record CellsAre (k : Numbering) (ts : Compounds) (t : Ty) (m : LayoutMeaning) : Type 0 where
  pub slot : ℕ
  pub value_type : CellType
  pub is : m ≡ meaning.Variable (origin.Permanent slot) value_type
  pub belongs : TypeIs k ts t value_type
  pub without : has_components t ≡ false

-- a component, or an array of components
pub record PartsAre (k : Numbering) (ts : Compounds) (t : Ty) (m : LayoutMeaning) : Type 0 where
  pub first : ℕ
  pub value_type : CellType
  pub is : m ≡ meaning.Contained first value_type
  pub belongs : TypeIs k ts t value_type
  pub has : has_components t ≡ true

-- a parameter that is a component
pub record BoundIs (t : Ty) (m : LayoutMeaning) : Type 0 where
  pub slot : ℕ
  pub system : ℕ
  pub is : m ≡ meaning.Bound slot system
  pub component : t ≡ named.component_of system

-- The scope is that in which the name is the latest.
abbrev pub MeaningIs : Numbering → Compounds → LayoutMeaning → scopes.Meaning → Scope → Type 0
MeaningIs k ts m (scopes.constant_meaning b z) s = (m ≡ meaning.Constant (base_of k b) z) × IsSmall z
MeaningIs k ts m (scopes.type_meaning t) s = (v : CellType) × (m ≡ meaning.Kind v) × TypeIs k ts t v
MeaningIs k ts m (scopes.local_variable t) s = VariableIs k ts t m
MeaningIs k ts m (scopes.permanent_variable t) s = CellsAre k ts t m ⊎ (PartsAre k ts t m ⊎ BoundIs t m)
MeaningIs k ts m (scopes.routine_meaning r) s = (n : ℕ) × (m ≡ meaning.Routine n) × (k.routines n ≡ routine_in s r)
MeaningIs k ts m (scopes.standard_meaning q) s = m ≡ meaning.Predeclared (predeclared_as q)

abbrev pub InStep : Numbering → Compounds → layers.Names → Scope → Type 0
InStep k ts [] [] = Unit {0}
InStep k ts (d ∷ ds) (e ∷ es) = (d.0 ≡ e.0) × MeaningIs k ts d.1 e.1 (e ∷ es) × InStep k ts ds es
InStep k ts [] (e ∷ es) = ⊥
InStep k ts (d ∷ ds) [] = ⊥

-- what the two find for a name
abbrev pub FoundIs : Numbering → Compounds → Option LayoutMeaning → Option scopes.Meaning → Scope → Type 0
FoundIs k ts None None s = Unit {0}
FoundIs k ts (Some m) (Some n) s = MeaningIs k ts m n s
FoundIs k ts None (Some n) s = ⊥
FoundIs k ts (Some m) None s = ⊥

-- what may stand in the program around a system type: its routines come after its parts
abbrev pub IsOuter : scopes.Meaning → Type 0
IsOuter (scopes.local_variable t) = ⊥
IsOuter (scopes.routine_meaning r) = ⊥
IsOuter m = Unit {0}

abbrev pub AreOuter : Scope → Type 0
AreOuter [] = Unit {0}
AreOuter (e ∷ es) = IsOuter e.1 × AreOuter es
