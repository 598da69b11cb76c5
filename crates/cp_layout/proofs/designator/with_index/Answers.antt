use Rattle.cp_layout.proofs.Laid.{index_laid}
use Rattle.cp_layout.proofs.designator.with_index.Goals as goal

pub returns : goal.returns
returns c = index_laid c.args.place c.args.index c.push.new.self c.in_ok-push.ensures.items
