-- What operands are values, and no variables: all that is made by an operation, a call or a constant.
use Rattle.std.proofs.Common.{◌≡◌, ℕ, Bool, true, false, ◌&&◌, if◌then◌else◌, List, [], ◌∷◌, Option, Some, None, Ok, Err, refl}
use Rattle.cp_resolved.proofs.Words.{option_or, Sign, Addition, Multiplication, Relation, C5, ValueType, Predeclared, Use, agree, is_of, values_of, whole}
use Rattle.cp_resolved.proofs.Words.{both_uses, Judged, broken, both, ◌>>=◌, Scopes, heading_at, Context, Operand, value, is_queue_in}
use Rattle.cp_tree.specs.declared.expression.Addition.TheVariants as addition
use Rattle.cp_tree.specs.declared.expression.Multiplication.TheVariants as multiplication
use Rattle.cp_tree.specs.Syntax.{Terms, no_terms, more_terms as terms_more, Factors, no_factors, more_factors as factors_more}
use Rattle.cp_scope.specs.declared.types.Base.TheVariants as base
use Rattle.cp_scope.specs.declared.types.ValueType.TheVariants as types
use Rattle.cp_scope.specs.declared.types.Predeclared.TheVariants as predeclared
use Rattle.cp_check.specs.declared.operand.OperandUse.TheVariants as place
use Rattle.cp_check.specs.Operations as operations
use Rattle.cp_check.specs.Calls as calls
use Rattle.cp_check.specs.Expressions.{expression, more_terms, term_value, more_factors, factor, set_value, set_like, are_elements}
use Rattle.cp_check.specs.Expressions as expressions

-- ---- values that are made

abbrev pub MadeOption : Option Operand → Type 0
MadeOption None = Unit {0}
MadeOption (Some o) = o.place ≡ place.Value

abbrev pub IsMade : Judged Operand → Type 0
IsMade (Ok o) = o.place ≡ place.Value
IsMade (Err fs) = Unit {0}

abbrev pub IsMadePart : Judged (Option Operand) → Type 0
IsMadePart (Ok o) = MadeOption o
IsMadePart (Err fs) = Unit {0}

number_made : (at : ℕ) (l r : Operand) → MadeOption (operations.number at l r)
number_made at l r = go (is_of base.Integer l.value_type && is_of base.Integer r.value_type)
  where
    go : (b : Bool) → MadeOption (if b then Some (value at (values_of base.Integer) (both_uses l.uses r.uses)) else None)
    go true = refl
    go false = tt

set_types_made : (at : ℕ) (v y : ValueType) (u : Use) → MadeOption (operations.set_of_types at v y u)
set_types_made at (types.Set a) (types.Set b) u = go (agree (types.Set a) (types.Set b))
  where
    go : (c : Bool) → MadeOption (if c then Some (value at (operations.set_type a b) u) else None)
    go true = refl
    go false = tt
set_types_made at _ _ u = tt

set_made : (at : ℕ) (l r : Operand) → MadeOption (operations.set at l r)
set_made at l r = set_types_made at l.value_type r.value_type (both_uses l.uses r.uses)

either_made : (o p : Option Operand) → MadeOption o → MadeOption p → MadeOption (option_or o p)
either_made None p h g = g
either_made (Some x) p h g = h

truth_made : (at : ℕ) (l r : Operand) → MadeOption (operations.truth_or_set at l r)
truth_made at l r = go (is_of base.Boolean l.value_type && is_of base.Boolean r.value_type)
  where
    go : (b : Bool) → MadeOption (if b then Some (value at (values_of base.Boolean) (both_uses l.uses r.uses)) else operations.set at l r)
    go true = refl
    go false = set_made at l r

added_made : (at : ℕ) (a : Addition) (o : Option Operand) (r : Operand) → MadeOption (operations.sum_of at a o r)
added_made at a None r = tt
added_made at addition.Plus (Some l) r = number_made at l r
added_made at addition.Minus (Some l) r = either_made (operations.number at l r) (operations.set at l r) (number_made at l r) (set_made at l r)
added_made at addition.Or (Some l) r = truth_made at l r

multiplied_made : (at : ℕ) (m : Multiplication) (o : Option Operand) (r : Operand) → MadeOption (operations.product_of at m o r)
multiplied_made at m None r = tt
multiplied_made at multiplication.And (Some l) r = truth_made at l r
multiplied_made at multiplication.Times (Some l) r = number_made at l r
multiplied_made at multiplication.Div (Some l) r = number_made at l r
multiplied_made at multiplication.Mod (Some l) r = number_made at l r

pub agreed_made : (at : ℕ) (j : Judged (Option Operand)) → IsMadePart j → IsMade (j >>= operations.check_agreement at)
agreed_made at (Ok (Some o)) h = h
agreed_made at _ h = tt

pub sum_made : (at : ℕ) (a : Addition) (j : Judged (Option Operand)) (k : Judged Operand) → IsMadePart (both j k >>= expressions.sum_so_far at a)
sum_made at a (Ok o) (Ok r) = added_made at a o r
sum_made at a (Err fs) (Ok r) = tt
sum_made at a _ _ = tt

pub product_made : (at : ℕ) (m : Multiplication) (j : Judged (Option Operand)) (k : Judged Operand) → IsMadePart (both j k >>= expressions.product_so_far at m)
product_made at m (Ok o) (Ok r) = multiplied_made at m o r
product_made at m (Err fs) (Ok r) = tt
product_made at m _ _ = tt

pub signed_made : (at : ℕ) (g : Sign) (j : Judged Operand) → IsMadePart (j >>= expressions.first_term at (Some g))
signed_made at g (Ok o) = go (is_of base.Integer o.value_type)
  where
    go : (b : Bool) → MadeOption (if b then Some (value at (values_of base.Integer) o.uses) else None)
    go true = refl
    go false = tt
signed_made at g (Err fs) = tt

pub related_made : (at : ℕ) (r : Relation) (j k : Judged Operand) → IsMade (both j k >>= operations.relation_value at r)
related_made at r (Ok a) (Ok b) = go (operations.relates r a.value_type b.value_type)
  where
    go : (c : Bool) → IsMade (if c then Ok (value at (values_of base.Boolean) (both_uses a.uses b.uses)) else broken at C5)
    go true = refl
    go false = tt
related_made at r (Err fs) (Err gs) = tt
related_made at r _ _ = tt

pub negated_made : (at : ℕ) (j : Judged Operand) → IsMade (j >>= operations.negation_of at)
negated_made at (Ok o) = go (is_of base.Boolean o.value_type)
  where
    go : (c : Bool) → IsMade (if c then Ok (value at (values_of base.Boolean) o.uses) else broken at C5)
    go true = refl
    go false = tt
negated_made at (Err fs) = tt

pub group_made : (at : ℕ) (j : Judged Operand) → IsMade (j >>= expressions.to_group at)
group_made at (Ok o) = refl
group_made at (Err fs) = tt

like_made : (at : ℕ) (os : List Operand) (v : ValueType) → IsMade (set_like at os v)
like_made at os (types.Ordinal r) = go (are_elements r.base os) _
  where
    go : (b : Bool) (o : Use) → IsMade (if b then Ok (value at (types.Set (Some (whole r.base))) o) else broken at C5)
    go true o = refl
    go false o = tt
like_made at os _ = tt

pub constructed_made : (at : ℕ) (j : Judged (List Operand)) → IsMade (j >>= set_value at)
constructed_made at (Ok []) = refl
constructed_made at (Ok (o ∷ os)) = like_made at (o ∷ os) o.value_type
constructed_made at (Err fs) = tt

if_made : (c : Bool) (at : ℕ) (v : ValueType) (u : Use) → IsMade (if c then Ok (value at v u) else broken at C5)
if_made true at v u = refl
if_made false at v u = tt

stepped_made : (at : ℕ) (v : ValueType) (u : Use) → IsMade (operations.neighbour_value at v u)
stepped_made at (types.Ordinal r) u = refl
stepped_made at _ u = tt

numbered_made : (at : ℕ) (v : ValueType) (u : Use) → IsMade (operations.ordinal_number at v u)
numbered_made at (types.Ordinal r) u = refl
numbered_made at _ u = tt

applied_one_made : (at : ℕ) (p : Predeclared) (o : Operand) (u : Use) → IsMade (operations.standard_value_of at p o u)
applied_one_made at predeclared.Succ o u = stepped_made at o.value_type u
applied_one_made at predeclared.Pred o u = stepped_made at o.value_type u
applied_one_made at predeclared.Ord o u = numbered_made at o.value_type u
applied_one_made at predeclared.Chr o u = if_made (is_of base.Integer o.value_type) at (values_of base.Char) u
applied_one_made at predeclared.Abs o u = if_made (is_of base.Integer o.value_type) at (values_of base.Integer) u
applied_one_made at predeclared.Empty o u = if_made (is_queue_in o.value_type o.place) at (values_of base.Boolean) u
applied_one_made at _ o u = tt

applied_all_made : (at : ℕ) (p : Predeclared) (os : List Operand) (u : Use) → IsMade (operations.standard_value_of_all at p os u)
applied_all_made at p (o ∷ []) u = applied_one_made at p o u
applied_all_made at p _ u = tt

pub applied_made : (at : ℕ) (p : Predeclared) (os : List Operand) (u : Use) → IsMade (operations.standard_value at p os u)
applied_made at p os u = go (operations.is_function p)
  where
    go : (b : Bool) → IsMade (if b then operations.standard_value_of_all at p os u else broken at C5)
    go true = applied_all_made at p os u
    go false = tt

pub alone_made : (o : Operand) (os : List Operand) → o.place ≡ place.Value → IsMade (calls.alone o os)
alone_made o [] h = h
alone_made o (p ∷ os) h = tt

result_made : (at : ℕ) (v : ValueType) (j : Judged Use) → IsMade (j >>= calls.with_result at v)
result_made at v (Ok u) = refl
result_made at v (Err fs) = tt

module _ (s : Scopes) (w : Context) where
  function_made : (at name_at : ℕ) (b : Bool) (n : ℕ) (os : List Operand) (u : Use) (v : Option ValueType) → IsMade (calls.function_of s w at name_at b n os u v)
  function_made at name_at b n os u None = tt
  function_made at name_at b n os u (Some v) = result_made at v (calls.check_routine_call s w at name_at b n os u)

  pub call_made : (at name_at : ℕ) (b : Bool) (n : ℕ) (os : List Operand) (u : Use) → IsMade (calls.function_value s w at name_at b n os u)
  unfolding calls.function_value
  call_made at name_at b n os u = function_made at name_at b n os u (heading_at n s).result

  pub terms_made : (at : ℕ) (ts : Terms) (j : Judged (Option Operand)) → IsMadePart j → IsMadePart (more_terms s w at j ts)
  unfolding expression
  terms_made at no_terms j h = h
  terms_made at (terms_more a t ts) j h = terms_made at ts (both j (term_value s w false t) >>= expressions.sum_so_far at a) (sum_made at a j (term_value s w false t))

  pub factors_made : (at : ℕ) (fs : Factors) (j : Judged (Option Operand)) → IsMadePart j → IsMadePart (more_factors s w at j fs)
  unfolding expression
  factors_made at no_factors j h = h
  factors_made at (factors_more m f fs) j h = factors_made at fs (both j (factor s w false f) >>= expressions.product_so_far at m) (product_made at m j (factor s w false f))
