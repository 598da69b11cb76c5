-- When the checker and the layouts say the same: of types, of what names stand for, and of operands and their forms.
use Rattle.std.specs.Prelude.{◌≡◌, ◌≤◌, ◌-◌, ◌*◌, ℕ, ℤ, pos, Bool, true, false, ◌&&◌, List, [], ◌∷◌, length, Option, Some, None, Ok, Err}
use Rattle.cp_tree.specs.declared.declaration.SystemKind.{SystemKind}
use Rattle.cp_tree.specs.Syntax.{Routine, Expression, alone, related, Sum, sum, Terms, no_terms, more_terms, Term, term, Factors, no_factors, more_factors, Factor, number, character, named as factor_named, group, negated, set_of, Expressions, no_expressions, more_expressions, Designator, designator, Selectors, no_selectors, more_selectors, Selector, field, index}
use Rattle.cp_scope.specs.declared.types.Base.{Base}
use Rattle.cp_scope.specs.declared.types.Base.TheVariants as base
use Rattle.cp_scope.specs.declared.types.Range.{Range}
use Rattle.cp_scope.specs.declared.types.ValueType.{ValueType}
use Rattle.cp_scope.specs.declared.types.ValueType.TheVariants as types
use Rattle.cp_scope.specs.declared.types.Meaning.{Meaning}
use Rattle.cp_scope.specs.declared.types.Meaning.TheVariants as meaning
use Rattle.cp_scope.specs.declared.types.Predeclared.{Predeclared}
use Rattle.cp_scope.specs.declared.types.Predeclared.TheVariants as predeclared
use Rattle.cp_scope.specs.declared.types.Parameter as check_parameter
use Rattle.cp_scope.specs.declared.shape.ArrayShape.{ArrayShape}
use Rattle.cp_scope.specs.declared.shape.Census.{Census}
use Rattle.cp_scope.specs.Judged.{Judged}
use Rattle.cp_scope.specs.Scopes.{Heading, Names, Scope, record_shape, system_shape, heading_shape, Shapes, shape_in, as_array, Scopes, look, member_at, heading_at}
use Rattle.cp_check.specs.declared.operand.Operand.{Operand}
use Rattle.cp_meaning.specs.Names.{Name}
use Rattle.cp_meaning.specs.Types as named
use Rattle.cp_meaning.specs.Types.{Ty, FieldTypes, is_within, all_characters}
use Rattle.cp_meaning.specs.Scopes as scopes
use Rattle.cp_meaning.specs.Scopes.{Standard, find, since}
use Rattle.cp_meaning.specs.Declarations.{Parameter, RoutineMeaning, routine_in}
use Rattle.cp_meaning.specs.Operations.{range_of_base}
use Rattle.cp_meaning.specs.Systems.{system_of}
use Rattle.cp_meaning.specs.Expressions.{routine_of_type}
use Rattle.cp_slots.specs.Code as code
use Rattle.cp_resolved.specs.Layouts.{cells_of, cells_in, Here}
use Rattle.cp_resolved.specs.Small.{Each}
use Rattle.cp_resolved.specs.Standing.{is_free}
use Rattle.cp_resolved.specs.Compiled.{Form, as_ordinal, as_set, as_place, as_component, Formed}

-- ---- types

-- the token and the kind of each system type by its number, and the constants of the enumeration at a token
pub record Tokens : Type 0 where
  pub systems : ℕ → ℕ
  pub kinds : ℕ → SystemKind
  pub constants : ℕ → List Name

-- and what is written at tokens
pub record Written : Type 0 where
  pub shapes : Shapes
  pub tokens : Tokens

-- an enumeration by its token and its last constant; integers hold all numbers of its constants
abbrev pub BaseIs : Tokens → named.Base → Base → Type 0
BaseIs k named.integers b = b ≡ base.Integer
BaseIs k named.booleans b = b ≡ base.Boolean
BaseIs k named.characters b = b ≡ base.Char
BaseIs k (named.enumerated at xs) b = (b ≡ base.Enumeration at (pos (length xs - 1))) × (length xs ≤ 32768) × (xs ≡ k.constants at)

pub record RangeIs (k : Tokens) (q : named.Range) (r : Range) : Type 0 where
  pub base : BaseIs k q.base r.base
  pub low : r.low ≡ q.low
  pub high : r.high ≡ q.high

pub record OrdinalIs (k : Tokens) (q : named.Range) (v : ValueType) : Type 0 where
  pub range : Range
  pub is : v ≡ types.Ordinal range
  pub belongs : RangeIs k q range

pub record SetIs (k : Tokens) (q : named.Range) (v : ValueType) : Type 0 where
  pub range : Range
  pub is : v ≡ types.Set (Some range)
  pub belongs : RangeIs k q range
  -- rule C20: its members are codes of characters
  pub low : is_within all_characters q.low ≡ true
  pub high : is_within all_characters q.high ≡ true

pub record ArrayIs (Element : ValueType → Type 0) (cells : ℕ) (w : Written) (q : named.Range) (v : ValueType) : Type 0 where
  pub token : ℕ
  pub is : v ≡ types.Array token
  pub shape : ArrayShape
  pub there : as_array (shape_in token w.shapes) ≡ Some shape
  pub range : RangeIs w.tokens q shape.index
  pub takes : shape.cells ≡ cells
  pub few : cells ≤ 8192
  pub belongs : Element shape.element

pub record RecordIs (Fields : Names → Type 0) (cells : ℕ) (w : Written) (v : ValueType) : Type 0 where
  pub token : ℕ
  pub is : v ≡ types.Record token
  pub fields : Scope
  pub there : shape_in token w.shapes ≡ Some (record_shape fields cells)
  pub visible : fields.is_sealed ≡ false
  pub each : Fields fields.names
  pub few : cells ≤ 8192

-- a system type is written
pub record SystemThere (token : ℕ) (ss : Shapes) : Type 0 where
  pub names : Scope
  pub heading : Heading
  pub census : Census
  pub need : ℕ
  pub there : shape_in token ss ≡ Some (system_shape names heading census need)

-- the system type of this number alone is written at its token
pub record ComponentIs (w : Written) (n : ℕ) (v : ValueType) : Type 0 where
  pub kind : SystemKind
  pub is : v ≡ types.Component kind (w.tokens.systems n)
  pub own : kind ≡ w.tokens.kinds n
  pub only : (k : ℕ) → w.tokens.systems k ≡ w.tokens.systems n → k ≡ n
  pub there : SystemThere (w.tokens.systems n) w.shapes

-- the first field, before others
pub record FieldIs (Is : ValueType → Type 0) (Rest : Names → Type 0) (x : List ℕ) (ds : Names) : Type 0 where
  pub value_type : ValueType
  pub rest : Names
  pub first : ds ≡ (x, Some (meaning.Variable value_type)) ∷ rest
  pub belongs : Is value_type
  pub others : Rest rest

abbrev mutual
  pub TypeIs : Written → Ty → ValueType → Type 0
  TypeIs w (named.ordinal q) v = OrdinalIs w.tokens q v
  TypeIs w named.queue_type v = v ≡ types.Queue
  TypeIs w (named.set_over q) v = SetIs w.tokens q v
  TypeIs w (named.array_over q t) v = ArrayIs (TypeIs w t) (named.length_of_range q * cells_of t) w q v
  TypeIs w (named.record_with ts) v = RecordIs (FieldsAre w ts) (cells_in ts) w v
  TypeIs w (named.component_of n) v = ComponentIs w n v

  pub FieldsAre : Written → FieldTypes → Names → Type 0
  FieldsAre w named.no_field_types ds = ds ≡ []
  FieldsAre w (named.more_field_types x t ts) ds = FieldIs (TypeIs w t) (FieldsAre w ts) x ds

-- ---- where components stand: alone, or in an array of a permanent variable

abbrev mutual
  pub is_plain : Ty → Bool
  is_plain (named.array_over q t) = is_plain t
  is_plain (named.record_with ts) = are_plain ts
  is_plain (named.component_of n) = false
  is_plain t = true

  pub are_plain : FieldTypes → Bool
  are_plain named.no_field_types = true
  are_plain (named.more_field_types x t ts) = is_plain t && are_plain ts

abbrev pub MayStand : Ty → Type 0
MayStand (named.component_of n) = Unit {0}
MayStand (named.array_over q (named.component_of n)) = Unit {0}
MayStand t = is_plain t ≡ true

-- ---- what names stand for

abbrev pub predeclared_of : Standard → Predeclared
predeclared_of scopes.succ_function = predeclared.Succ
predeclared_of scopes.pred_function = predeclared.Pred
predeclared_of scopes.chr_function = predeclared.Chr
predeclared_of scopes.ord_function = predeclared.Ord
predeclared_of scopes.abs_function = predeclared.Abs
predeclared_of scopes.empty_function = predeclared.Empty
predeclared_of scopes.delay_procedure = predeclared.Delay
predeclared_of scopes.continue_procedure = predeclared.Continue
predeclared_of scopes.display_procedure = predeclared.Display

abbrev pub IsOrdinalResult : Tokens → ValueType → Option Ty → Type 0
IsOrdinalResult k v (Some (named.ordinal q)) = OrdinalIs k q v
IsOrdinalResult k v o = ⊥

-- what a function has as its result
abbrev pub ResultIs : Tokens → Option ValueType → Option RoutineMeaning → Type 0
ResultIs k None (Some r) = r.result ≡ None
ResultIs k None None = ⊥
ResultIs k (Some v) (Some r) = IsOrdinalResult k v r.result
ResultIs k (Some v) None = ⊥

-- what a parameter may be: without queues and components, or a component, which is handed over as a value
abbrev pub IsHanded : Bool → Ty → Type 0
IsHanded false (named.component_of n) = Unit {0}
IsHanded b t = is_free t ≡ true

pub record ParameterIs (w : Written) (a : check_parameter.Parameter) (q : Parameter) : Type 0 where
  pub passed : a.is_var ≡ q.is_var
  pub belongs : TypeIs w q.ty a.value_type
  pub handed : IsHanded q.is_var q.ty

-- one after the other
abbrev pub AreParameters : Written → List check_parameter.Parameter → List Parameter → Type 0
AreParameters w [] [] = Unit {0}
AreParameters w (a ∷ as') (q ∷ qs) = ParameterIs w a q × AreParameters w as' qs
AreParameters w [] (q ∷ qs) = ⊥
AreParameters w (a ∷ as') [] = ⊥

abbrev pub IsValueParameter : Parameter → Type 0
IsValueParameter q = q.is_var ≡ false

-- of a system type
abbrev pub IsSystemParameter : Parameter → Type 0
IsSystemParameter q = IsValueParameter q × IsHanded q.is_var q.ty

-- whether the latest routine of a scope is an entry; in the scope of a routine's body it is the routine itself
abbrev pub is_entry_in : scopes.Scope → Bool
is_entry_in [] = false
is_entry_in ((n, scopes.routine_meaning r) ∷ s) = r.is_entry
is_entry_in (d ∷ s) = is_entry_in s

-- what is written as the heading of a routine
abbrev pub HeadingIs : Written → Heading → Option RoutineMeaning → Type 0
HeadingIs w d None = ⊥
HeadingIs w d (Some r) = ResultIs w.tokens d.result (Some r) × AreParameters w d.parameters r.parameters × (d.is_entry ≡ is_entry_in r.scope)

abbrev pub VariableIs : Written → ValueType → Option scopes.Meaning → Type 0
VariableIs w v (Some (scopes.local_variable t)) = TypeIs w t v × (is_plain t ≡ true)
VariableIs w v (Some (scopes.permanent_variable t)) = TypeIs w t v × MayStand t
VariableIs w v o = ⊥

abbrev pub ConstantIs : Tokens → Base → ℤ → Option scopes.Meaning → Type 0
ConstantIs k b z (Some (scopes.constant_meaning c y)) = BaseIs k c b × (z ≡ y) × (is_within (range_of_base c) y ≡ true)
ConstantIs k b z o = ⊥

abbrev pub KindIs : Written → ValueType → Option scopes.Meaning → Type 0
KindIs w v (Some (scopes.type_meaning t)) = TypeIs w t v
KindIs w v o = ⊥

-- the heading of a routine is written at its name's token, and says where its body is
pub record IsWritten (n : ℕ) (ss : Shapes) (r : Routine) : Type 0 where
  pub token : n ≡ r.name.at
  pub heading : Heading
  pub there : shape_in n ss ≡ Some (heading_shape heading r.body.at)

abbrev pub IsMarked : Shapes → Meaning → Option scopes.Meaning → Type 0
IsMarked ss (meaning.Routine n) (Some (scopes.routine_meaning r)) = IsWritten n ss r
IsMarked ss (meaning.Routine n) o = ⊥
IsMarked ss m o = Unit {0}

abbrev pub RoutineIs : Written → Heading → Name → scopes.Scope → Option scopes.Meaning → Type 0
RoutineIs w d x scope (Some (scopes.routine_meaning r)) = HeadingIs w d (Some (routine_in (since x scope) r))
RoutineIs w d x scope o = ⊥

abbrev pub StandardIs : Predeclared → Option scopes.Meaning → Type 0
StandardIs q (Some (scopes.standard_meaning f)) = predeclared_of f ≡ q
StandardIs q o = ⊥

-- what the checker has for a name, and what the scope has
abbrev pub MeaningIs : Written → Scopes → Name → scopes.Scope → Meaning → Option scopes.Meaning → Type 0
MeaningIs w s x scope (meaning.Constant b z) o = ConstantIs w.tokens b z o
MeaningIs w s x scope (meaning.Kind v) o = KindIs w v o
MeaningIs w s x scope (meaning.Variable v) o = VariableIs w v o
MeaningIs w s x scope (meaning.Parameter v) o = VariableIs w v o
MeaningIs w s x scope (meaning.Reference v) o = VariableIs w v o
MeaningIs w s x scope (meaning.Routine n) o = RoutineIs w (heading_at n s) x scope o
MeaningIs w s x scope (meaning.Predeclared q) o = StandardIs q o

-- The checker's scopes and the place of a statement: each visible name stands for the same, and so do the routines of components and the parameters of system types.
pub record ScopesAgree (tokens : Tokens) (s : Scopes) (h : Here) : Type 0 where
  pub names : (x : Name) (m : Meaning) → look x s ≡ Some (Some m) → MeaningIs (record { shapes = s.shapes; tokens = tokens }) s x h.scope m (find x h.scope)
  pub entries : (k n : ℕ) (y : Name) → member_at (tokens.systems k) y s ≡ Some (Some (meaning.Routine n)) → HeadingIs (record { shapes = s.shapes; tokens = tokens }) (heading_at n s) (routine_of_type h.program (named.component_of k) y)
  pub starts : (k : ℕ) (d : SystemThere (tokens.systems k) s.shapes) → AreParameters (record { shapes = s.shapes; tokens = tokens }) d.heading.parameters (system_of h.program k).parameters × Each IsValueParameter (system_of h.program k).parameters

-- ---- operands and forms

abbrev pub IsSet : ValueType → Type 0
IsSet v = (o : Option Range) × (v ≡ types.Set o)

-- Of a value, the form that its type wants. Of the value of a set no range is kept.
abbrev pub FormIs : Written → ValueType → Ty → Form → Type 0
FormIs w v (named.ordinal q) f = (c : code.OrdinalExpression) × (f ≡ as_ordinal c) × OrdinalIs w.tokens q v
FormIs w v (named.set_over q) f = (c : code.SetExpression) × (f ≡ as_set c) × IsSet v
FormIs w v (named.component_of n) f = (c : code.ComponentPlace) × (f ≡ as_component c) × ComponentIs w n v
FormIs w v t f = (p : code.Place) × (f ≡ as_place p) × TypeIs w t v

-- a whole array of components, which has no form
pub record AreComponents (w : Written) (v : ValueType) : Type 0 where
  pub range : named.Range
  pub system : ℕ
  pub belongs : TypeIs w (named.array_over range (named.component_of system)) v

abbrev pub Expressed : Written → ValueType → Option Formed → Type 0
Expressed w v (Some f) = FormIs w v f.ty f.form
Expressed w v None = AreComponents w v

-- what breaks no rule has a form
abbrev pub HasForm : Written → Judged Operand → Option Formed → Type 0
HasForm w (Ok o) f = Expressed w o.value_type f
HasForm w (Err fs) f = Unit {0}

-- ---- numbers of at most 32,767, and codes of characters of at most 127, as trees that spell tokens have them

abbrev mutual
  pub IsSmallExpression : Expression → Type 0
  IsSmallExpression (alone at a) = IsSmallSum a
  IsSmallExpression (related at a r b) = IsSmallSum a × IsSmallSum b

  pub IsSmallSum : Sum → Type 0
  IsSmallSum (sum at o t ts) = IsSmallTerm t × AreSmallTerms ts

  pub AreSmallTerms : Terms → Type 0
  AreSmallTerms no_terms = Unit {0}
  AreSmallTerms (more_terms a t ts) = IsSmallTerm t × AreSmallTerms ts

  pub IsSmallTerm : Term → Type 0
  IsSmallTerm (term at f fs) = IsSmallFactor f × AreSmallFactors fs

  pub AreSmallFactors : Factors → Type 0
  AreSmallFactors no_factors = Unit {0}
  AreSmallFactors (more_factors m f fs) = IsSmallFactor f × AreSmallFactors fs

  pub IsSmallFactor : Factor → Type 0
  IsSmallFactor (number at n) = n ≤ 32767
  IsSmallFactor (character at c) = c ≤ 127
  IsSmallFactor (factor_named at d es) = IsSmallDesignator d × AreSmallExpressions es
  IsSmallFactor (group at e) = IsSmallExpression e
  IsSmallFactor (negated at f) = IsSmallFactor f
  IsSmallFactor (set_of at es) = AreSmallExpressions es

  pub AreSmallExpressions : Expressions → Type 0
  AreSmallExpressions no_expressions = Unit {0}
  AreSmallExpressions (more_expressions e es) = IsSmallExpression e × AreSmallExpressions es

  pub IsSmallDesignator : Designator → Type 0
  IsSmallDesignator (designator i ss) = AreSmallSelectors ss

  pub AreSmallSelectors : Selectors → Type 0
  AreSmallSelectors no_selectors = Unit {0}
  AreSmallSelectors (more_selectors c cs) = IsSmallSelector c × AreSmallSelectors cs

  pub IsSmallSelector : Selector → Type 0
  IsSmallSelector (field i) = Unit {0}
  IsSmallSelector (index e) = IsSmallExpression e
