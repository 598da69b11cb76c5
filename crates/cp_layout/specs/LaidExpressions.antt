-- What is laid out of expressions: their values with slots, and the state after their calls. In the shape of the code, as `Laid` says.
use Rattle.std.specs.Prelude.{ℕ, ◌+◌, max, nat_le, nat_lt, ℤ, pos, int_le, unsigned_abs, if◌then◌else◌, Bool, true, false, ◌&&◌, List, [], ◌∷◌, length, Option, Some, None, slice_get}
use Rattle.std.specs.Str.{bytes_eq}
use Rattle.cp_tree.specs.declared.constant.Sign.{Sign}
use Rattle.cp_tree.specs.declared.constant.Sign.TheVariants as sign
use Rattle.cp_tree.specs.Syntax as syntax
use Rattle.cp_tree.specs.Syntax.{Sum, Terms, Term, Factors, Factor, Expressions, Designator, Selectors, Selector}
use Rattle.cp_slots.specs.declared.place.PlaceOrigin.TheVariants as origin
use Rattle.cp_symbols.specs.declared.kinds.CellBase.TheVariants as base
use Rattle.cp_symbols.specs.declared.kinds.CellType.{CellType}
use Rattle.cp_symbols.specs.declared.kinds.CellType.TheVariants as types
use Rattle.cp_symbols.specs.declared.kinds.ArrayType.{ArrayType}
use Rattle.cp_symbols.specs.declared.names.LayoutMeaning.{LayoutMeaning}
use Rattle.cp_symbols.specs.declared.names.LayoutMeaning.TheVariants as meaning
use Rattle.cp_layout.specs.declared.layer.Passing.{Passing}
use Rattle.cp_layout.specs.declared.layer.Passing.TheVariants as passing
use Rattle.cp_layout.specs.declared.layer.ParameterLayout.{ParameterLayout}
use Rattle.cp_symbols.specs.declared.symbols.FunctionResult.{FunctionResult}
use Rattle.cp_symbols.specs.Kinds.{Field, cells_of, plus}
use Rattle.cp_layout.specs.Kinds.{field_of, array_of}
use Rattle.cp_slots.specs.Code as code
use Rattle.cp_slots.specs.Code.{Place, Indices, Index, OrdinalExpression, SetExpression, ComponentPlace, ArgumentValue, Argument}
use Rattle.cp_layout.specs.Values as values
use Rattle.cp_layout.specs.Values.{Value, component_value, Designated, a_value, a_variable, a_contained, a_component, a_routine, an_entry, a_standard, no_designated, number_value, no_value, place_at, value_loaded_from, place_of, ordinal_of, set_of, set_value, component_value, standard_value}
use Rattle.cp_layout.specs.Layers.{find, Layer, Heading, System, parameter_of, result_of, with_cell, with_room, call_need, add_item}

-- ---- names

abbrev pub meaning_of : Option LayoutMeaning → Designated
meaning_of None = no_designated
meaning_of (Some (meaning.Constant b z)) = a_value (number_value z b)
meaning_of (Some (meaning.Kind t)) = no_designated
meaning_of (Some (meaning.Variable o t)) = a_variable (place_at o) t
meaning_of (Some (meaning.Contained first (types.System k))) = a_component (code.contained first) k
meaning_of (Some (meaning.Contained first t)) = a_contained first t
meaning_of (Some (meaning.Bound slot k)) = a_component (code.parameter slot) k
meaning_of (Some (meaning.Routine r)) = a_routine r
meaning_of (Some (meaning.Predeclared r)) = a_standard r

-- what a name stands for
abbrev pub name_meaning : Layer → List ℕ → Designated
name_meaning l x = meaning_of (find x l.names)

-- ---- selectors

abbrev pub with_offset : Place → ℕ → Place
with_offset (code.place o n is) m = code.place o (plus n m) is

abbrev pub with_last : Indices → Index → Indices
with_last code.no_indices i = code.more_indices i code.no_indices
with_last (code.more_indices j js) i = code.more_indices j (with_last js i)

abbrev pub with_index : Place → Index → Place
with_index (code.place o n is) i = code.place o n (with_last is i)

abbrev pub field_found : Place → Option Field → Designated
field_found p None = no_designated
field_found p (Some f) = a_variable (with_offset p f.offset) f.value_type

abbrev pub entry_among : System → List Heading → ℕ → List ℕ → Option ℕ
entry_among s [] n x = None
entry_among s (h ∷ hs) n x = if nat_le s.first n && (nat_lt n s.initial && bytes_eq h.name x) then Some n else entry_among s hs (n + 1) x

abbrev pub entry_in : Option System → List Heading → List ℕ → Option ℕ
entry_in None hs x = None
entry_in (Some s) hs x = entry_among s hs 0 x

-- the number of a system type's routine
abbrev pub entry_of : Layer → ℕ → List ℕ → Option ℕ
entry_of l k x = entry_in (slice_get l.systems k) l.headings x

abbrev pub entry_found : ComponentPlace → Option ℕ → Designated
entry_found c None = no_designated
entry_found c (Some r) = an_entry c r

-- a field of a record, or a routine of a component
abbrev pub field_of_designated : Layer → Designated → List ℕ → Designated
field_of_designated l (a_variable p t) x = field_found p (field_of l.types t x)
field_of_designated l (a_component c k) x = entry_found c (entry_of l k x)
field_of_designated l d x = no_designated

abbrev pub count_in : Option System → ℕ
count_in None = 0
count_in (Some s) = s.owned.count

-- how many components one of a system type is, with those that it contains
abbrev pub component_count : Layer → ℕ → ℕ
component_count l k = count_in (slice_get l.systems k)

abbrev pub element_found : Place → Option ArrayType → OrdinalExpression → Designated
element_found p None e = no_designated
element_found p (Some a) e = a_variable (with_index p (code.index e a.index.low a.index.high a.element_cells)) a.element

abbrev pub component_of_array : Layer → ℕ → ArrayType → CellType → OrdinalExpression → Designated
component_of_array l first a (types.System k) e = a_component (code.element first a.index.low a.index.high (component_count l k) e) k
component_of_array l first a t e = no_designated

abbrev pub component_found : Layer → ℕ → Option ArrayType → OrdinalExpression → Designated
component_found l first None e = no_designated
component_found l first (Some a) e = component_of_array l first a a.element e

-- an element of an array
abbrev pub element_of_designated : Layer → Designated → OrdinalExpression → Designated
element_of_designated l (a_variable p t) e = element_found p (array_of l.types t) e
element_of_designated l (a_contained first t) e = component_found l first (array_of l.types t) e
element_of_designated l d e = no_designated

-- ---- arguments

-- a number of a byte, or the other one
abbrev pub byte_or : ℕ → ℤ → ℕ
byte_or other z = if int_le (pos 0) z && int_le z (pos 255) then unsigned_abs z else other

abbrev pub component_in : Value → ComponentPlace
component_in (component_value c) = c
component_in v = code.own

-- a value as the argument of a parameter
abbrev pub argument_for : Layer → Passing → Value → ArgumentValue
argument_for l passing.Reference v = code.reference (place_of v)
argument_for l passing.Component v = code.component_of (component_in v)
argument_for l (passing.Constant (types.Ordinal r)) v = code.scalar (ordinal_of v) r.low r.high
argument_for l (passing.Constant (types.Set r)) v = code.set (set_of v) (byte_or 0 r.low) (byte_or 255 r.high)
argument_for l (passing.Constant t) v = code.copy (place_of v) (cells_of l.types t)

abbrev pub with_argument : Layer → Option ParameterLayout → Value → List Argument → List Argument
with_argument l None v rest = rest
with_argument l (Some p) v rest = (let a : Argument = record { slot = p.slot; value = argument_for l p.passing v } in a) ∷ rest

abbrev pub with_count : Layer → ℕ → Layer
with_count l n = record l { arguments = max l.arguments n }

abbrev pub with_their_count : List Argument × Layer → List Argument × Layer
with_their_count x = (x.0, with_count x.1 (length x.0))

-- ---- calls

abbrev pub call_value : Layer → (at : ℕ) → (component : ComponentPlace) → Bool → (routine : ℕ) → FunctionResult → List Argument → Value × Layer
call_value l at c is_entry r result as' = (
  value_loaded_from (place_at (origin.Local (length l.frame.image))) result.value_type,
  add_item (with_room (with_cell l) r) at (code.call r c is_entry as' (Some (length l.frame.image))) (call_need (with_cell l) r),
)

-- by what its arguments give
abbrev pub function_as : Layer → (at : ℕ) → ComponentPlace → Bool → ℕ → Option FunctionResult → (Layer → ℕ → List Argument × Layer) → Value × Layer
function_as l at c is_entry r None arguments = (no_value, l)
function_as l at c is_entry r (Some result) arguments =
    let x = with_their_count (arguments l r) in
    call_value x.1 at c is_entry r result x.0

-- a variable, a constant, or a call of a function, by what its first argument and all of them give
abbrev pub value_of_meaning : Layer → (at : ℕ) → Designated → (Layer → Value × Layer) → (Layer → ℕ → List Argument × Layer) → Value × Layer
value_of_meaning l at (a_value v) first arguments = (v, l)
value_of_meaning l at (a_variable p t) first arguments = (value_loaded_from p t, l)
value_of_meaning l at (a_contained n t) first arguments = (no_value, l)
value_of_meaning l at (a_component c k) first arguments = (component_value c, l)
value_of_meaning l at (a_routine r) first arguments = function_as l at code.own false r (result_of l r) arguments
value_of_meaning l at (an_entry c r) first arguments = function_as l at c true r (result_of l r) arguments
value_of_meaning l at (a_standard f) first arguments =
    let x = first l in
    (standard_value f x.0, x.1)
value_of_meaning l at no_designated first arguments = (no_value, l)

-- ---- expressions

abbrev pub as_integer : ℕ → ℤ
as_integer n = if nat_le n 32767 then pos n else pos 32767

abbrev pub with_sign : Option Sign → Value → Value
with_sign (Some sign.Minus) v = values.opposite v
with_sign s v = v

abbrev pub name_at : Designator → ℕ
name_at (syntax.designator i ss) = i.at

unfoldable mutual
  pub expression : Layer → syntax.Expression → Value × Layer
  expression l (syntax.alone at a) = sum l a
  expression l (syntax.related at a r b) =
      let x = sum l a in
      let y = sum x.1 b in
      (values.comparison_of r x.0 y.0, y.1)

  pub sum : Layer → Sum → Value × Layer
  sum l (syntax.sum at s t ts) =
      let x = term l t in
      more_terms x.1 (with_sign s x.0) ts

  pub more_terms : Layer → Value → Terms → Value × Layer
  more_terms l v syntax.no_terms = (v, l)
  more_terms l v (syntax.more_terms a t ts) =
      let x = term l t in
      more_terms x.1 (values.sum_of a v x.0) ts

  pub term : Layer → Term → Value × Layer
  term l (syntax.term at f fs) =
      let x = factor l f in
      more_factors x.1 x.0 fs

  pub more_factors : Layer → Value → Factors → Value × Layer
  more_factors l v syntax.no_factors = (v, l)
  more_factors l v (syntax.more_factors m f fs) =
      let x = factor l f in
      more_factors x.1 (values.product_of m v x.0) fs

  pub factor : Layer → Factor → Value × Layer
  factor l (syntax.number at n) = (number_value (as_integer n) base.Integer, l)
  factor l (syntax.character at c) = (number_value (pos c) base.Char, l)
  factor l (syntax.named at d es) =
      let x = designator l d in
      value_of_meaning x.1 at x.0 (λ m. first_value m es) (λ m r. arguments_from m r 0 es)
  factor l (syntax.group at e) = expression l e
  factor l (syntax.negated at f) =
      let x = factor l f in
      (values.negation_of x.0, x.1)
  factor l (syntax.set_of at es) =
      let x = elements l code.empty_set es in
      (set_value x.0, x.1)

  -- the elements of a set besides those of another one
  pub elements : Layer → SetExpression → Expressions → SetExpression × Layer
  elements l s syntax.no_expressions = (s, l)
  elements l s (syntax.more_expressions e es) =
      let x = expression l e in
      elements x.1 (code.with_element s (ordinal_of x.0)) es

  pub first_value : Layer → Expressions → Value × Layer
  first_value l syntax.no_expressions = (no_value, l)
  first_value l (syntax.more_expressions e es) = expression l e

  pub arguments_from : Layer → (routine place : ℕ) → Expressions → List Argument × Layer
  arguments_from l r n syntax.no_expressions = ([], l)
  arguments_from l r n (syntax.more_expressions e es) =
      let x = expression l e in
      let rest = arguments_from x.1 r (n + 1) es in
      (with_argument x.1 (parameter_of x.1 r n) x.0 rest.0, rest.1)

  -- a name with its selectors
  pub designator : Layer → Designator → Designated × Layer
  designator l (syntax.designator i ss) = selectors l (name_meaning l i.name) ss

  pub selectors : Layer → Designated → Selectors → Designated × Layer
  selectors l d syntax.no_selectors = (d, l)
  selectors l d (syntax.more_selectors s ss) =
      let x = selector l d s in
      selectors x.1 x.0 ss

  pub selector : Layer → Designated → Selector → Designated × Layer
  selector l d (syntax.field i) = (field_of_designated l d i.name, l)
  selector l d (syntax.index e) =
      let x = expression l e in
      (element_of_designated x.1 d (ordinal_of x.0), x.1)

-- the arguments of a routine, or of the system type with this initial statement
unfoldable pub arguments : Layer → ℕ → Expressions → List Argument × Layer
arguments l r es = with_their_count (arguments_from l r 0 es)

-- a call of a function
unfoldable pub function : Layer → (at : ℕ) → ComponentPlace → Bool → ℕ → Expressions → Value × Layer
function l at c is_entry r es = function_as l at c is_entry r (result_of l r) (λ m k. arguments_from m k 0 es)

-- a name with its selectors, and with arguments after it
unfoldable pub value_of_name : Layer → (at : ℕ) → Designated → Expressions → Value × Layer
value_of_name l at d es = value_of_meaning l at d (λ m. first_value m es) (λ m k. arguments_from m k 0 es)
