-- The value of an expression whose calls are done (the book, chapter 8): the value, or the first run error from left to right.
use Rattle.std.specs.Prelude.{ℕ, ℤ, pos, ◌+ℤ◌, neg_ℤ, Bool, true, false, if◌then◌else◌, List, [], Option, Some, None, Ok, Err}
use Rattle.cp_tree.specs.Syntax.{Expression, alone, related, Sum, sum, Terms, no_terms, more_terms, Term, term, Factors, no_factors, more_factors, Factor, number, character, named, group, negated, set_of, Expressions, no_expressions, more_expressions, Designator, designator, Selectors, no_selectors, more_selectors, Selector, field, index, Program}
use Rattle.cp_meaning.specs.Names.{Name, temporary}
use Rattle.cp_meaning.specs.Outcome.{Outcome, ◌>>=◌, out_of_range}
use Rattle.cp_meaning.specs.Types.{Ty, ordinal, array_over, component_of, all_characters, all_integers, natural_of, field_type, is_within}
use Rattle.cp_meaning.specs.Values.{number_value, the_field, the_element, number_of, with_member}
use Rattle.cp_meaning.specs.Scopes.{Meaning, constant_meaning, permanent_variable, routine_meaning, standard_meaning, Scope, find, since}
use Rattle.cp_meaning.specs.Declarations.{RoutineMeaning, routine_in}
use Rattle.cp_meaning.specs.Systems.{system_of}
use Rattle.cp_meaning.specs.State.{current}
use Rattle.cp_meaning.specs.Places.{View, Target, target_named, this_call, plain_place, with_choice, value_at, result_type}
use Rattle.cp_meaning.specs.Operations.{Typed, integer, truth, is_true, set_of_members, related_values, added_values, multiplied_values, signed_value, range_of_base, standard_value}
use Rattle.cp_meaning.specs.Lifting.{last_field, is_call}

-- ---- the routine that a call names: one of the component itself, or one of another component

abbrev pub routine_of_system : Name → Option Meaning → Scope → Option RoutineMeaning
routine_of_system y (Some (routine_meaning r)) s = Some (routine_in (since y s) r)
routine_of_system y o s = None

abbrev pub routine_of_type : Program → Ty → Name → Option RoutineMeaning
routine_of_type p (component_of k) y = routine_of_system y (find y (system_of p k).scope) (system_of p k).scope
routine_of_type p (array_over r (component_of k)) y = routine_of_system y (find y (system_of p k).scope) (system_of p k).scope
routine_of_type p t y = None

abbrev pub routine_meant : Program → Scope → Name → Option Meaning → Option Name → Option RoutineMeaning
routine_meant p s x (Some (routine_meaning r)) o = Some (routine_in (since x s) r)
routine_meant p s x (Some (permanent_variable t)) (Some y) = routine_of_type p t y
routine_meant p s x m o = None

abbrev pub routine_called : Program → Scope → Designator → Option RoutineMeaning
routine_called p s (designator i ss) = routine_meant p s i.name (find i.name s) (last_field ss)

abbrev pub result_called : Option RoutineMeaning → Ty
result_called (Some r) = result_type r.result
result_called None = ordinal all_integers

-- the result that the call left under its temporary name
abbrev pub call_value : View → ℕ → Designator → Typed
call_value v at d =
    record {
      ty = result_called (routine_called v.program (current v.calls).scope d);
      value = value_at v (plain_place (this_call v) (temporary at));
    }

-- ---- selectors

abbrev pub with_field : Target → Name → Target
with_field t x = record { place = with_choice t.place (the_field x); ty = field_type t.ty x }

-- an index is checked where it stands
abbrev pub with_element_of : Ty → Target → ℤ → Outcome Target
with_element_of (array_over r u) t z = if is_within r z then Ok (record { place = with_choice t.place (the_element (natural_of (z +ℤ neg_ℤ r.low))); ty = u }) else Err out_of_range
with_element_of u t z = Ok t

abbrev pub with_index : Target → Typed → Outcome Target
with_index t a = with_element_of t.ty t (number_of a.value)

-- ---- names in expressions

-- the value of a name: a constant, or what stands at the place
abbrev pub named_value : View → ℕ → Designator → Bool → Option Meaning → Outcome Target → Outcome Typed → Outcome Typed
named_value v at d true m target argument = Ok (call_value v at d)
named_value v at d false (Some (constant_meaning b z)) target argument = Ok (record { ty = ordinal (range_of_base b); value = number_value z })
named_value v at d false (Some (standard_meaning s)) target argument = argument >>= standard_value s
named_value v at d false m target argument = target >>= λ t. Ok (record { ty = t.ty; value = value_at v t.place })

abbrev pub name_of : Designator → Name
name_of (designator i ss) = i.name

abbrev pub meaning_here : View → Designator → Option Meaning
meaning_here v d = find (name_of d) (current v.calls).scope

-- an element of a constructor is checked as soon as it is evaluated
abbrev pub with_member_checked : List ℕ → Typed → Outcome (List ℕ)
with_member_checked ns a = if is_within all_characters (number_of a.value) then Ok (with_member ns (natural_of (number_of a.value))) else Err out_of_range

-- ---- expressions

abbrev mutual
  pub value : View → Expression → Outcome Typed
  value v (alone at a) = sum_value v a
  value v (related at a r b) = sum_value v a >>= λ x. sum_value v b >>= λ y. Ok (truth (related_values r x.value y.value))

  pub sum_value : View → Sum → Outcome Typed
  sum_value v (sum at o t ts) = term_value v t >>= λ x. signed_value o x >>= λ y. terms_value v ts y

  pub terms_value : View → Terms → Typed → Outcome Typed
  terms_value v no_terms x = Ok x
  terms_value v (more_terms op t ts) x = term_value v t >>= λ y. added_values op x.value y.value >>= λ z. terms_value v ts z

  pub term_value : View → Term → Outcome Typed
  term_value v (term at f fs) = factor_value v f >>= λ x. factors_value v fs x

  pub factors_value : View → Factors → Typed → Outcome Typed
  factors_value v no_factors x = Ok x
  factors_value v (more_factors op f fs) x = factor_value v f >>= λ y. multiplied_values op x.value y.value >>= λ z. factors_value v fs z

  pub factor_value : View → Factor → Outcome Typed
  factor_value v (number at n) = Ok (integer (pos n))
  factor_value v (character at c) = Ok (record { ty = ordinal all_characters; value = number_value (pos c) })
  factor_value v (named at d es) = named_value v at d (is_call (current v.calls).scope d) (meaning_here v d) (target_value v d) (first_value v es)
  factor_value v (group at e) = value v e
  factor_value v (negated at f) = factor_value v f >>= λ x. Ok (truth (if is_true x then false else true))
  factor_value v (set_of at es) = members_value v es [] >>= λ ns. Ok (set_of_members ns)

  pub members_value : View → Expressions → List ℕ → Outcome (List ℕ)
  members_value v no_expressions ns = Ok ns
  members_value v (more_expressions e es) ns = value v e >>= λ x. with_member_checked ns x >>= λ ms. members_value v es ms

  -- the argument of a standard function or of `display`, which have one each (C7)
  pub first_value : View → Expressions → Outcome Typed
  first_value v no_expressions = Ok (integer (pos 0))
  first_value v (more_expressions e es) = value v e

  -- the place of a designator, from left to right
  pub target_value : View → Designator → Outcome Target
  target_value v (designator i ss) = selected v ss (target_named v i.name)

  pub selected : View → Selectors → Target → Outcome Target
  selected v no_selectors t = Ok t
  selected v (more_selectors c cs) t = chosen v c t >>= λ u. selected v cs u

  pub chosen : View → Selector → Target → Outcome Target
  chosen v (field i) t = Ok (with_field t i.name)
  chosen v (index e) t = value v e >>= λ x. with_index t x

-- ---- an expression that is a variable or a component

-- Also one in parentheses, as a component may be where it is an argument. Of accepted programs a queue (C5) and the argument of a `var` parameter (C6)
-- never are.

abbrev mutual
  pub variable_in : Expression → Option Designator
  variable_in (alone at a) = variable_in_sum a
  variable_in (related at a r b) = None

  pub variable_in_sum : Sum → Option Designator
  variable_in_sum (sum at None t no_terms) = variable_in_term t
  variable_in_sum (sum at o t ts) = None

  pub variable_in_term : Term → Option Designator
  variable_in_term (term at f no_factors) = variable_in_factor f
  variable_in_term (term at f fs) = None

  pub variable_in_factor : Factor → Option Designator
  variable_in_factor (named at d no_expressions) = Some d
  variable_in_factor (group at e) = variable_in e
  variable_in_factor f = None
