use Rattle.cp_refusal.proofs.Places.{token_place}
use Rattle.cp_refusal.proofs.explain.span_of.Goals as goal

pub returns-in-Some : goal.returns-in-Some
returns-in-Some c = λ h. token_place c.args.source.now c.args.tokens.now c.args.at c.in-Some.range (c.in-Some.ensures.stands c.args.source.now h)
