use Rattle.std.proofs.Common.{◌≡◌}
use Rattle.cp_scope.specs.Scopes.{census}
use Rattle.cp_scope.specs.View.{scope_of, shapes_of}
use Rattle.cp_scope.proofs.Held.{census_left}
use Rattle.cp_scope.proofs.scope.Scope.census.Given as goal

-- the total so far, and what is left
abbrev pub invariant-loop-meaning : goal.invariant-loop-meaning
invariant-loop-meaning l = census (scope_of l.self).names (shapes_of l.shapes) ≡ census_left l.total l.meaning-iterator (shapes_of l.shapes)
