use Rattle.std.proofs.Common.{◌≡◌, ◌++◌}
use Rattle.cp_scope.specs.Scopes.{parameters_in}
use Rattle.cp_scope.specs.View.{scope_of}
use Rattle.cp_scope.proofs.Held.{parameters_left}
use Rattle.cp_scope.proofs.scope.Scope.parameters.Given as goal

-- those so far, and those that are left
abbrev pub invariant-loop-meaning : goal.invariant-loop-meaning
invariant-loop-meaning l = parameters_in (scope_of l.self).names ≡ l.parameters.items ++ parameters_left l.meaning-iterator
