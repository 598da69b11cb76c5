-- The rules of expressions.
use Rattle.std.specs.Prelude.{ℕ, ◌+◌, Bool, true, false, ◌&&◌, if◌then◌else◌, List, [], ◌∷◌, slice_get, Option, Some, None, Ok}
use Rattle.cp_tree.specs.declared.constant.Sign.{Sign}
use Rattle.cp_tree.specs.declared.expression.Addition.{Addition}
use Rattle.cp_tree.specs.declared.expression.Multiplication.{Multiplication}
use Rattle.cp_tree.specs.Syntax.{Expression, alone, related, Sum, sum, Terms, no_terms, more_terms as terms_more, Term, term, Factors, no_factors, more_factors as factors_more, Factor, number, character, named, group, negated, set_of, Expressions, no_expressions, more_expressions, Designator, designator as name_with, Selectors, no_selectors, more_selectors, Selector, field, index}
use Rattle.cp_scope.specs.declared.fault.Rule.TheVariants.{C5}
use Rattle.cp_scope.specs.declared.types.Base.{Base}
use Rattle.cp_scope.specs.declared.types.Base.TheVariants.{Integer, Char}
use Rattle.cp_scope.specs.declared.types.ValueType.{ValueType}
use Rattle.cp_scope.specs.declared.types.ValueType.TheVariants as types
use Rattle.cp_scope.specs.declared.types.Parameter.{Parameter}
use Rattle.cp_scope.specs.Types.{is_of, values_of, whole}
use Rattle.cp_scope.specs.Counts.{no_use}
use Rattle.cp_scope.specs.Scopes.{Scopes}
use Rattle.cp_scope.specs.Judged.{Judged, broken, both, ◌>>=◌}
use Rattle.cp_check.specs.declared.operand.Context.{Context}
use Rattle.cp_check.specs.declared.operand.Operand.{Operand}
use Rattle.cp_check.specs.declared.operand.DesignatedName.{DesignatedName}
use Rattle.cp_check.specs.Operands.{value}
use Rattle.cp_check.specs.Operations as operations
use Rattle.cp_check.specs.Names.{meaning_of_name, member_of, element_name, check_selectors}
use Rattle.cp_check.specs.Calls.{value_of, variable_of, total_use}

abbrev pub has_none : Expressions → Bool
has_none no_expressions = true
has_none (more_expressions e es) = false

abbrev pub has_no_factors : Factors → Bool
has_no_factors no_factors = true
has_no_factors (factors_more m f fs) = false

abbrev pub has_no_terms : Terms → Bool
has_no_terms no_terms = true
has_no_terms (terms_more a t ts) = false

abbrev pub is_unsigned : Option Sign → Bool
is_unsigned None = true
is_unsigned (Some s) = false

abbrev pub value_in_parentheses : ℕ → Operand → Operand
value_in_parentheses at o = value at o.value_type o.uses

abbrev pub to_group : ℕ → Operand → Judged Operand
to_group at o = Ok (value_in_parentheses at o)

-- ---- set constructors

abbrev pub are_elements : Base → List Operand → Bool
are_elements b [] = true
are_elements b (o ∷ os) = is_of b o.value_type && are_elements b os

abbrev pub set_like : ℕ → List Operand → ValueType → Judged Operand
set_like at os (types.Ordinal r) = if are_elements r.base os then Ok (value at (types.Set (Some (whole r.base))) (total_use no_use os)) else broken at C5
set_like at os _ = broken at C5

-- the elements are ordinal and agree; without elements it agrees with every set
abbrev pub set_value : ℕ → List Operand → Judged Operand
set_value at [] = Ok (value at (types.Set None) no_use)
set_value at (o ∷ os) = set_like at (o ∷ os) o.value_type

-- ---- parts of expressions

abbrev pub is_var_of : Option Parameter → Bool
is_var_of (Some p) = p.is_var
is_var_of None = false

-- whether the argument at a place is that of a `var` parameter
abbrev pub is_var_at : List Parameter → ℕ → Bool
is_var_at ps k = is_var_of (slice_get ps k)

abbrev pub before : Operand × List Operand → Judged (List Operand)
before p = Ok (p.0 ∷ p.1)

abbrev pub sum_so_far : ℕ → Addition → Option Operand × Operand → Judged (Option Operand)
sum_so_far at a p = Ok (operations.sum_of at a p.0 p.1)

abbrev pub product_so_far : ℕ → Multiplication → Option Operand × Operand → Judged (Option Operand)
product_so_far at m p = Ok (operations.product_of at m p.0 p.1)

abbrev pub some_operand : Operand → Judged (Option Operand)
some_operand o = Ok (Some o)

abbrev pub first_term : ℕ → Option Sign → Operand → Judged (Option Operand)
first_term at s o = Ok (operations.with_sign at s o)

abbrev pub at_index : Scopes → DesignatedName × Operand → Judged DesignatedName
at_index s p = Ok (element_name s p.0 p.1)

-- a name with its arguments; alone in the place of a `var` argument
abbrev pub value_of_name : Scopes → Context → Bool → ℕ → Judged DesignatedName → Judged (List Operand) → Judged Operand
value_of_name s w v at d os = if v then d >>= variable_of s w at else both d os >>= value_of s w at

-- In the place of a `var` argument a function's name alone is no call.
unfoldable mutual
  pub expression : Scopes → Context → Bool → Expression → Judged Operand
  expression s w v (alone at a) = sum_value s w v a
  expression s w v (related at a r b) = both (sum_value s w false a) (sum_value s w false b) >>= operations.relation_value at r

  -- a sum is one node, however many terms it has
  pub sum_value : Scopes → Context → Bool → Sum → Judged Operand
  sum_value s w v (sum at sign t ts) =
      more_terms s w at (term_value s w (v && (is_unsigned sign && has_no_terms ts)) t >>= first_term at sign) ts >>= operations.check_agreement at

  pub more_terms : Scopes → Context → ℕ → Judged (Option Operand) → Terms → Judged (Option Operand)
  more_terms s w at j no_terms = j
  more_terms s w at j (terms_more a t ts) = more_terms s w at (both j (term_value s w false t) >>= sum_so_far at a) ts

  pub term_value : Scopes → Context → Bool → Term → Judged Operand
  term_value s w v (term at f fs) =
      more_factors s w at (factor s w (v && has_no_factors fs) f >>= some_operand) fs >>= operations.check_agreement at

  pub more_factors : Scopes → Context → ℕ → Judged (Option Operand) → Factors → Judged (Option Operand)
  more_factors s w at j no_factors = j
  more_factors s w at j (factors_more m f fs) = more_factors s w at (both j (factor s w false f) >>= product_so_far at m) fs

  pub factor : Scopes → Context → Bool → Factor → Judged Operand
  factor s w v (number at n) = Ok (value at (values_of Integer) no_use)
  factor s w v (character at c) = Ok (value at (values_of Char) no_use)
  factor s w v (named at d es) = value_of_name s w (v && has_none es) at (designator s w d) (arguments s w [] 0 es)
  factor s w v (group at e) = expression s w false e >>= to_group at
  factor s w v (negated at f) = factor s w false f >>= operations.negation_of at
  factor s w v (set_of at es) = arguments s w [] 0 es >>= set_value at

  pub designator : Scopes → Context → Designator → Judged DesignatedName
  designator s w (name_with n ss) = selectors s w (meaning_of_name s n) ss >>= check_selectors n.at

  pub selectors : Scopes → Context → Judged DesignatedName → Selectors → Judged DesignatedName
  selectors s w j no_selectors = j
  selectors s w j (more_selectors x ss) = selectors s w (selector s w j x) ss

  pub selector : Scopes → Context → Judged DesignatedName → Selector → Judged DesignatedName
  selector s w j (field i) = j >>= member_of s i
  selector s w j (index e) = both j (expression s w false e) >>= at_index s

  pub arguments : Scopes → Context → List Parameter → ℕ → Expressions → Judged (List Operand)
  arguments s w ps k no_expressions = Ok []
  arguments s w ps k (more_expressions e es) = both (expression s w (is_var_at ps k) e) (arguments s w ps (k + 1) es) >>= before
