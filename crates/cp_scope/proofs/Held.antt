-- What a scope holds, meaning by meaning.
use Rattle.std.proofs.Common.{◌≡◌, ℕ, List, [], ◌∷◌, String, Global, refl, ap, Some}
use Rattle.std.specs.Map.{values_of}
use Rattle.cp_scope.specs.declared.types.Meaning.{Meaning}
use Rattle.cp_scope.specs.declared.types.Parameter.{Parameter}
use Rattle.cp_scope.specs.declared.shape.Census.{Census}
use Rattle.cp_scope.specs.declared.scope.Scope as code_scope
use Rattle.cp_scope.specs.Types.{parameter_of}
use Rattle.cp_scope.specs.Scopes.{parameters_in, census_from, census_of, both_census, with_some, Shapes}
use Rattle.cp_scope.specs.View.{names_view, names_of, scope_of}

abbrev pub parameters_left : List Meaning → List Parameter
parameters_left [] = []
parameters_left (m ∷ ms) = with_some (parameter_of m) (parameters_left ms)

abbrev pub census_left : Census → List Meaning → Shapes → Census
census_left total [] s = total
census_left total (m ∷ ms) s = census_left (both_census total (census_of (Some m) s)) ms s

parameters_are : (es : List (String Global × Meaning)) → parameters_in (names_view es) ≡ parameters_left (values_of es)
unfolding parameters_in
parameters_are [] = refl
parameters_are (e ∷ es) = ap (with_some (parameter_of e.1)) (parameters_are es)

census_is : (total : Census) (es : List (String Global × Meaning)) (s : Shapes) → census_from total (names_view es) s ≡ census_left total (values_of es) s
unfolding census_from
census_is total [] s = refl
census_is total (e ∷ es) s = census_is (both_census total (census_of (Some e.1) s)) es s

pub all_parameters : (s : code_scope.Scope) → parameters_in (scope_of s).names ≡ parameters_left (values_of s.names.entries)
unfolding scope_of names_of
all_parameters s = parameters_are s.names.entries

pub whole_census : (s : code_scope.Scope) (total : Census) (shapes : Shapes) → census_from total (scope_of s).names shapes ≡ census_left total (values_of s.names.entries) shapes
unfolding scope_of names_of
whole_census s total shapes = census_is total s.names.entries shapes
