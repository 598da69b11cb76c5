use Rattle.cp_text.proofs.PlaceLaws.{range_stands}
use Rattle.cp_text.proofs.token.Tokens.range.Goals as goal

pub returns-clause-stands : goal.returns-clause-stands
returns-clause-stands c = λ text h. range_stands text c.args.self.now c.args.at c.kept_range.result c.kept_range.ensures h
