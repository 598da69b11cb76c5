use Rattle.std.proofs.Common.{◌∷◌, [], subst, sym}
use Rattle.cp_run.specs.declared.outcome.Turn.{Turn}
use Rattle.cp_run.specs.declared.outcome.Turn.TheVariants.{Goes}
use Rattle.cp_ends.proofs.Vocabulary.{Machine}
use Rattle.cp_ends.specs.Legs.{moment_at}
use Rattle.cp_ends.proofs.told.Told.see_choice.Goals as goal

pub returns-then-is_free-clause-sees : goal.returns-then-is_free-clause-sees
returns-then-is_free-clause-sees g c = λ r discipline m n look can free.
    (let is = free c.if-is_free.true in
    subst (λ (t : Turn). g.P.Sight.sees c.see_step.new.self.seen r discipline (m ∷ []) (moment_at n t)) (sym is.1)
    (subst (λ (k : Machine). g.P.Sight.sees c.see_step.new.self.seen r discipline (m ∷ []) (moment_at k (Goes c.args.process))) (sym is.0) (c.see_step.ensures.sees r discipline m look)))

pub returns-else-is_free-clause-sees : goal.returns-else-is_free-clause-sees
returns-else-is_free-clause-sees g c = λ r discipline m n look can free. c.see_next.ensures.sees r discipline (m ∷ []) [] n can (c.due-self.ensures r discipline m look)
