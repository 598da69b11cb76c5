use Rattle.std.proofs.Common.{sym}
use Rattle.cp_story.proofs.Behind.{nothing_behind, rest_behind}
use Rattle.cp_story.proofs.changes.behind.Goals as goal

pub returns-in-Some : goal.returns-in-Some
returns-in-Some c = sym (rest_behind c.args.start.now c.args.whole.now c.in-Some.rest.now c.in-Some.ensures.cases)

pub returns-in-None : goal.returns-in-None
returns-in-None c = sym (nothing_behind c.args.start.now c.args.whole.now c.in-None.ensures.cases)
