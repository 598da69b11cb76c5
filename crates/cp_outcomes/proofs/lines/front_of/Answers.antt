use Rattle.std.proofs.Common.{◌∙◌, ap}
use Rattle.cp_outcomes.specs.Lines.{shown_character}
use Rattle.cp_outcomes.proofs.Fronts.{front_of_ascii}
use Rattle.cp_outcomes.proofs.lines.front_of.Goals as goal

pub returns-then-first-lt128-clause-front : goal.returns-then-first-lt128-clause-front
returns-then-first-lt128-clause-front c = front_of_ascii c.args.bytes.now c.shown_char.result c.requires c.if-first-lt128.true (c.shown_char.ensures ∙ ap shown_character c.from.ensures)
