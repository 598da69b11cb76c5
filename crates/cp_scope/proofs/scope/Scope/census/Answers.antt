use Rattle.std.proofs.Common.{◌≡◌, ◌∙◌, List, sym, ap}
use Rattle.cp_scope.specs.declared.types.Meaning.{Meaning}
use Rattle.cp_scope.specs.Scopes.{no_census}
use Rattle.cp_scope.specs.View.{shapes_of}
use Rattle.cp_scope.proofs.Held.{whole_census, census_left}
use Rattle.cp_scope.proofs.scope.Scope.census.Goals as goal

pub loop-meaning-init : goal.loop-meaning-init
loop-meaning-init c = rw c.nothing-total.ensures (whole_census c.args.self.now no_census (shapes_of c.args.shapes.now) ∙ sym (ap (λ (ms : List Meaning). census_left no_census ms (shapes_of c.args.shapes.now)) (c.into_iter-meaning-iterator.ensures.into_iter_gives ∙ c.values-meaning-items.ensures.rest)))
