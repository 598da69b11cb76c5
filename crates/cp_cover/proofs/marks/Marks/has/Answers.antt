use Rattle.cp_cover.proofs.OneMark.{found_mark}
use Rattle.cp_cover.proofs.marks.Marks.has.Goals as goal

pub returns : goal.returns
returns c = λ h. found_mark c.args.self.now.known.keys c.args.mark c.contains.result c.contains.ensures h
