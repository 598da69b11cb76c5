use Rattle.std.proofs.Common.{Option, IfSome, refl, subst}
use Rattle.cp_ends.specs.declared.origin.Origin.{Origin}
use Rattle.cp_waits.specs.declared.trails.Round.{Round}
use Rattle.cp_waits.specs.Lines.{IsWordFrom}
use Rattle.cp_waits.specs.Walks.{IsRound}
use Rattle.cp_waits.proofs.waiting.lasso.Goals as goal

pub returns : goal.returns
returns c = (
  refl,
  refl,
  record {
    state = c.args.fair.first;
    first = subst (λ (o : Origin). IsWordFrom c.args.states.now o c.in_ok-word.field-0.items) c.origin.ensures c.in_ok-word.ensures;
    again = subst (λ (o : Option Round). IfSome o (λ r. IsRound c.args.graph.now c.args.keeping c.args.fair.first r.word.items)) c.in-Some.is c.in_ok-found.ensures;
  },
)
