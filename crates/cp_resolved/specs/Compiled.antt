-- What an expression of the tree is on slots, by the layouts; nothing where its types do not agree.
use Rattle.std.specs.Prelude.{ℕ, ◌+◌, ℤ, pos, Bool, true, false, ◌&&◌, if◌then◌else◌, Option, Some, None}
use Rattle.cp_tree.specs.declared.constant.Sign.{Sign}
use Rattle.cp_tree.specs.declared.constant.Sign.TheVariants as sign
use Rattle.cp_tree.specs.declared.expression.Relation.{Relation}
use Rattle.cp_tree.specs.declared.expression.Relation.TheVariants.{Equal, NotEqual, Less, Greater, AtMost, AtLeast, In}
use Rattle.cp_tree.specs.declared.expression.Addition.{Addition}
use Rattle.cp_tree.specs.declared.expression.Addition.TheVariants.{Plus, Minus, Or}
use Rattle.cp_tree.specs.declared.expression.Multiplication.{Multiplication}
use Rattle.cp_tree.specs.declared.expression.Multiplication.TheVariants.{Times, Div, Mod, And}
use Rattle.cp_tree.specs.Syntax.{Expression, alone, related, Sum, sum, Terms, no_terms, more_terms, Term, term, Factors, no_factors, more_factors, Factor, number, character, named, group, negated, set_of, Expressions, no_expressions, more_expressions, Designator, designator, Selectors, no_selectors, more_selectors, Selector, field, index}
use Rattle.cp_slots.specs.declared.place.PlaceOrigin.TheVariants.{Permanent}
use Rattle.cp_slots.specs.declared.place.Arithmetic.TheVariants as arithmetic
use Rattle.cp_slots.specs.declared.place.Comparison.TheVariants as comparison
use Rattle.cp_slots.specs.declared.place.Logic.TheVariants as logic
use Rattle.cp_slots.specs.declared.place.SetOperation.TheVariants as operation
use Rattle.cp_meaning.specs.Names.{Name, temporary, result_name}
use Rattle.cp_meaning.specs.Types.{Base, integers, booleans, characters, Range, Ty, ordinal, queue_type, set_over, array_over, record_with, component_of, all_integers, all_booleans, all_characters, is_within}
use Rattle.cp_meaning.specs.Scopes.{Meaning, constant_meaning, local_variable, permanent_variable, routine_meaning, standard_meaning, Standard, succ_function, pred_function, chr_function, ord_function, abs_function, empty_function, find}
use Rattle.cp_meaning.specs.Systems.{system_of}
use Rattle.cp_meaning.specs.Lifting.{is_call}
use Rattle.cp_meaning.specs.Places.{result_type}
use Rattle.cp_meaning.specs.Operations.{range_of_base}
use Rattle.cp_meaning.specs.Expressions.{result_called, routine_called, name_of}
use Rattle.cp_slots.specs.Code as code
use Rattle.cp_resolved.specs.Encoded.{Chosen, field_chosen}
use Rattle.cp_resolved.specs.Layouts.{cells_of, Here, system_here, frame_here, is_own, is_parameter}

abbrev pub then_form : {A B : Type 0} → Option A → (A → Option B) → Option B
then_form None go = None
then_form (Some x) go = go x

-- ---- the form of a value: an ordinal, a set, a variable of another type, or a component

pub data Form : Type 0 where
  as_ordinal : code.OrdinalExpression → Form
  as_set : code.SetExpression → Form
  as_place : code.Place → Form
  as_component : code.ComponentPlace → Form

-- with its type
pub record Formed : Type 0 where
  pub ty : Ty
  pub form : Form

abbrev pub integer_form : code.OrdinalExpression → Option Formed
integer_form c = Some (record { ty = ordinal all_integers; form = as_ordinal c })

abbrev pub truth_form : code.OrdinalExpression → Option Formed
truth_form c = Some (record { ty = ordinal all_booleans; form = as_ordinal c })

abbrev pub set_form : code.SetExpression → Option Formed
set_form b = Some (record { ty = set_over all_integers; form = as_set b })

-- the value of a variable
abbrev pub loaded_form : code.Place → Ty → Form
loaded_form p (ordinal r) = as_ordinal (code.load p)
loaded_form p (set_over r) = as_set (code.load_set p)
loaded_form p t = as_place p

-- the variable whose value it is
abbrev pub place_form : Form → Option code.Place
place_form (as_ordinal (code.load p)) = Some p
place_form (as_set (code.load_set p)) = Some p
place_form (as_place p) = Some p
place_form f = None

-- ---- names with selectors

pub data Designated : Type 0 where
  a_variable : code.Place → Ty → Designated
  -- an array of components, by the first one
  some_components : ℕ → Range → ℕ → Designated
  a_component : code.ComponentPlace → ℕ → Designated

abbrev pub component_begun : Here → Name → ℕ → Bool → Designated
component_begun h x k true = a_component (code.parameter ((system_here h).slots x)) k
component_begun h x k false = a_component (code.contained ((system_here h).firsts x)) k

abbrev pub permanent_begun : Here → Name → Ty → Designated
permanent_begun h x (component_of k) = component_begun h x k (is_parameter x (system_of h.program h.system).parameters)
permanent_begun h x (array_over r (component_of k)) = some_components ((system_here h).firsts x) r k
permanent_begun h x t = a_variable (code.place (Permanent ((system_here h).slots x)) 0 code.no_indices) t

-- a function's own name is its result
abbrev pub result_begun : Here → Bool → Option Designated
result_begun h true = Some (a_variable (code.place ((frame_here h).origins result_name) 0 code.no_indices) (result_type (h.layouts.meanings h.routine).result))
result_begun h false = None

abbrev pub begun_form : Here → Name → Option Meaning → Option Designated
begun_form h x (Some (permanent_variable t)) = Some (permanent_begun h x t)
begun_form h x (Some (local_variable t)) = Some (a_variable (code.place ((frame_here h).origins x) 0 code.no_indices) t)
begun_form h x (Some (routine_meaning r)) = result_begun h (is_own h x)
begun_form h x o = None

abbrev pub with_index : code.Indices → code.OrdinalExpression → Range → ℕ → code.Indices
with_index code.no_indices c r size = code.more_indices (code.index c r.low r.high size) code.no_indices
with_index (code.more_indices (code.index d low high n) is) c r size = code.more_indices (code.index d low high n) (with_index is c r size)

-- a part of a variable, by the cells before it and its type
abbrev pub part_of_form : code.Place → Chosen → Designated
part_of_form (code.place o offset is) c = a_variable (code.place o (offset + c.0) is) c.1

abbrev pub field_of_form : Ty → code.Place → Name → Option Designated
field_of_form (record_with ts) p x = then_form (field_chosen ts x) (λ c. Some (part_of_form p c))
field_of_form t p x = None

-- a field of a record, or a routine of a component
abbrev pub with_field_form : Designated → Name → Option Designated
with_field_form (a_variable p t) x = field_of_form t p x
with_field_form (a_component c k) x = Some (a_component c k)
with_field_form (some_components first r k) x = None

abbrev pub element_of_form : Ty → code.Place → code.OrdinalExpression → Option Designated
element_of_form (array_over r t) (code.place o offset is) c = Some (a_variable (code.place o offset (with_index is c r (cells_of t))) t)
element_of_form t p c = None

abbrev pub with_element_form : Here → Designated → code.OrdinalExpression → Option Designated
with_element_form h (a_variable p t) c = element_of_form t p c
with_element_form h (some_components first r k) c = Some (a_component (code.element first r.low r.high (h.layouts.systems k).count c) k)
with_element_form h (a_component c k) e = None

abbrev pub ordinal_form : Form → Option code.OrdinalExpression
ordinal_form (as_ordinal c) = Some c
ordinal_form f = None

abbrev pub with_index_form : Here → Designated → Formed → Option Designated
with_index_form h d x = then_form (ordinal_form x.form) (with_element_form h d)

abbrev pub valued_form : Designated → Option Formed
valued_form (a_variable p t) = Some (record { ty = t; form = loaded_form p t })
valued_form (a_component c k) = Some (record { ty = component_of k; form = as_component c })
valued_form (some_components first r k) = None

-- ---- operations

abbrev pub is_integer_base : Base → Bool
is_integer_base integers = true
is_integer_base b = false

abbrev pub is_boolean_base : Base → Bool
is_boolean_base booleans = true
is_boolean_base b = false

abbrev pub is_integer : Ty → Bool
is_integer (ordinal r) = is_integer_base r.base
is_integer t = false

abbrev pub is_boolean : Ty → Bool
is_boolean (ordinal r) = is_boolean_base r.base
is_boolean t = false

abbrev pub compared_ordinals : Relation → code.OrdinalExpression → code.OrdinalExpression → Option Formed
compared_ordinals Equal a b = truth_form (code.compare comparison.Equal a b)
compared_ordinals NotEqual a b = truth_form (code.compare comparison.NotEqual a b)
compared_ordinals Less a b = truth_form (code.compare comparison.Less a b)
compared_ordinals Greater a b = truth_form (code.compare comparison.Greater a b)
compared_ordinals AtMost a b = truth_form (code.compare comparison.AtMost a b)
compared_ordinals AtLeast a b = truth_form (code.compare comparison.AtLeast a b)
compared_ordinals In a b = None

abbrev pub member_form : Relation → code.OrdinalExpression → code.SetExpression → Option Formed
member_form In a b = truth_form (code.member a b)
member_form r a b = None

abbrev pub compared_sets : Relation → code.SetExpression → code.SetExpression → Option Formed
compared_sets Equal a b = truth_form (code.same_set true a b)
compared_sets NotEqual a b = truth_form (code.same_set false a b)
compared_sets r a b = None

abbrev pub compared_forms : Relation → Form → Form → Option Formed
compared_forms r (as_ordinal a) (as_ordinal b) = compared_ordinals r a b
compared_forms r (as_ordinal a) (as_set b) = member_form r a b
compared_forms r (as_set a) (as_set b) = compared_sets r a b
compared_forms r a b = None

abbrev pub added_ordinals : Addition → (is_number is_truth : Bool) → code.OrdinalExpression → code.OrdinalExpression → Option Formed
added_ordinals Plus true t a b = integer_form (code.arithmetic arithmetic.Add a b)
added_ordinals Minus true t a b = integer_form (code.arithmetic arithmetic.Subtract a b)
added_ordinals Or n true a b = truth_form (code.logic logic.Or a b)
added_ordinals o n t a b = None

abbrev pub added_sets : Addition → code.SetExpression → code.SetExpression → Option Formed
added_sets Minus a b = set_form (code.combine operation.Difference a b)
added_sets Or a b = set_form (code.combine operation.Union a b)
added_sets Plus a b = None

abbrev pub added_forms : Addition → Formed → Formed → Form → Form → Option Formed
added_forms o x y (as_ordinal a) (as_ordinal b) = added_ordinals o (is_integer x.ty && is_integer y.ty) (is_boolean x.ty && is_boolean y.ty) a b
added_forms o x y (as_set a) (as_set b) = added_sets o a b
added_forms o x y f g = None

abbrev pub multiplied_ordinals : Multiplication → (is_number is_truth : Bool) → code.OrdinalExpression → code.OrdinalExpression → Option Formed
multiplied_ordinals Times true t a b = integer_form (code.arithmetic arithmetic.Multiply a b)
multiplied_ordinals Div true t a b = integer_form (code.arithmetic arithmetic.Divide a b)
multiplied_ordinals Mod true t a b = integer_form (code.arithmetic arithmetic.Modulo a b)
multiplied_ordinals And n true a b = truth_form (code.logic logic.And a b)
multiplied_ordinals o n t a b = None

abbrev pub multiplied_sets : Multiplication → code.SetExpression → code.SetExpression → Option Formed
multiplied_sets And a b = set_form (code.combine operation.Intersection a b)
multiplied_sets o a b = None

abbrev pub multiplied_forms : Multiplication → Formed → Formed → Form → Form → Option Formed
multiplied_forms o x y (as_ordinal a) (as_ordinal b) = multiplied_ordinals o (is_integer x.ty && is_integer y.ty) (is_boolean x.ty && is_boolean y.ty) a b
multiplied_forms o x y (as_set a) (as_set b) = multiplied_sets o a b
multiplied_forms o x y f g = None

abbrev pub signed_ordinal : Option Sign → Formed → Bool → Form → Option Formed
signed_ordinal None x t f = Some x
signed_ordinal (Some sign.Plus) x true (as_ordinal c) = integer_form c
signed_ordinal (Some sign.Minus) x true (as_ordinal c) = integer_form (code.negate c)
signed_ordinal o x t f = None

abbrev pub signed_form : Option Sign → Formed → Option Formed
signed_form o x = signed_ordinal o x (is_integer x.ty) x.form

abbrev pub not_form_of : Bool → Form → Option Formed
not_form_of true (as_ordinal c) = truth_form (code.opposite c)
not_form_of t f = None

abbrev pub not_form : Formed → Option Formed
not_form x = not_form_of (is_boolean x.ty) x.form

abbrev pub applied_ordinal : Standard → Ty → Bool → code.OrdinalExpression → Option Formed
applied_ordinal succ_function (ordinal r) t c = Some (record { ty = ordinal (range_of_base r.base); form = as_ordinal (code.successor c (range_of_base r.base).high) })
applied_ordinal pred_function (ordinal r) t c = Some (record { ty = ordinal (range_of_base r.base); form = as_ordinal (code.predecessor c (range_of_base r.base).low) })
applied_ordinal chr_function (ordinal r) true c = Some (record { ty = ordinal all_characters; form = as_ordinal (code.character c) })
applied_ordinal ord_function (ordinal r) t c = if is_within all_integers (range_of_base r.base).high then integer_form c else None
applied_ordinal abs_function (ordinal r) true c = integer_form (code.absolute c)
applied_ordinal s y t c = None

abbrev pub applied_place : Standard → Ty → code.Place → Option Formed
applied_place empty_function queue_type p = truth_form (code.is_empty p)
applied_place s t p = None

abbrev pub applied_form_of : Standard → Formed → Form → Option Formed
applied_form_of s x (as_ordinal c) = applied_ordinal s x.ty (is_integer x.ty) c
applied_form_of s x (as_place p) = applied_place s x.ty p
applied_form_of s x f = None

abbrev pub applied_form : Standard → Formed → Option Formed
applied_form s x = applied_form_of s x x.form

abbrev pub with_member_form : code.SetExpression → Form → Option code.SetExpression
with_member_form b (as_ordinal c) = Some (code.with_element b c)
with_member_form b f = None

-- ---- names in expressions

-- the result of a call, which has an ordinal type
abbrev pub call_form : Here → ℕ → Ty → Option Formed
call_form h at (ordinal r) = Some (record { ty = ordinal r; form = as_ordinal (code.load (code.place ((frame_here h).origins (temporary at)) 0 code.no_indices)) })
call_form h at t = None

-- a constant is a value of its base
abbrev pub constant_form : Base → ℤ → Option Formed
constant_form b z = if is_within (range_of_base b) z then Some (record { ty = ordinal (range_of_base b); form = as_ordinal (code.number z) }) else None

abbrev pub named_form : Here → ℕ → Designator → Bool → Option Meaning → Option Designated → Option Formed → Option Formed
named_form h at d true m target argument = call_form h at (result_called (routine_called h.program h.scope d))
named_form h at d false (Some (constant_meaning b z)) target argument = constant_form b z
named_form h at d false (Some (standard_meaning s)) target argument = then_form argument (applied_form s)
named_form h at d false m target argument = then_form target valued_form

-- ---- expressions

abbrev mutual
  pub expression_form : Here → Expression → Option Formed
  expression_form h (alone at a) = sum_form h a
  expression_form h (related at a r b) = then_form (sum_form h a) (λ x. then_form (sum_form h b) (λ y. compared_forms r x.form y.form))

  pub sum_form : Here → Sum → Option Formed
  sum_form h (sum at o t ts) = then_form (term_form h t) (λ x. then_form (signed_form o x) (λ y. terms_form h ts y))

  pub terms_form : Here → Terms → Formed → Option Formed
  terms_form h no_terms x = Some x
  terms_form h (more_terms op t ts) x = then_form (term_form h t) (λ y. then_form (added_forms op x y x.form y.form) (λ z. terms_form h ts z))

  pub term_form : Here → Term → Option Formed
  term_form h (term at f fs) = then_form (factor_form h f) (λ x. factors_form h fs x)

  pub factors_form : Here → Factors → Formed → Option Formed
  factors_form h no_factors x = Some x
  factors_form h (more_factors op f fs) x = then_form (factor_form h f) (λ y. then_form (multiplied_forms op x y x.form y.form) (λ z. factors_form h fs z))

  pub factor_form : Here → Factor → Option Formed
  factor_form h (number at n) = constant_form integers (pos n)
  factor_form h (character at c) = constant_form characters (pos c)
  factor_form h (named at d es) = named_form h at d (is_call h.scope d) (find (name_of d) h.scope) (designator_form h d) (first_form h es)
  factor_form h (group at e) = expression_form h e
  factor_form h (negated at f) = then_form (factor_form h f) not_form
  factor_form h (set_of at es) = then_form (members_form h es code.empty_set) set_form

  pub members_form : Here → Expressions → code.SetExpression → Option code.SetExpression
  members_form h no_expressions b = Some b
  members_form h (more_expressions e es) b = then_form (expression_form h e) (λ x. then_form (with_member_form b x.form) (λ c. members_form h es c))

  pub first_form : Here → Expressions → Option Formed
  first_form h no_expressions = None
  first_form h (more_expressions e es) = expression_form h e

  pub designator_form : Here → Designator → Option Designated
  designator_form h (designator i ss) = then_form (begun_form h i.name (find i.name h.scope)) (selected_form h ss)

  pub selected_form : Here → Selectors → Designated → Option Designated
  selected_form h no_selectors d = Some d
  selected_form h (more_selectors c cs) d = then_form (chosen_form h c d) (selected_form h cs)

  pub chosen_form : Here → Selector → Designated → Option Designated
  chosen_form h (field i) d = with_field_form d i.name
  chosen_form h (index e) d = then_form (expression_form h e) (with_index_form h d)
