use Rattle.std.proofs.Common.{[], ◌∷◌}
use Rattle.cp_ends.proofs.told.Told.see_step.Goals as goal

pub returns-clause-sees : goal.returns-clause-sees
returns-clause-sees g c = λ r discipline m look. c.then.ensures r discipline (m ∷ []) [] _ (c.due-self.ensures r discipline m look) (c.moved.ensures r discipline m look)
