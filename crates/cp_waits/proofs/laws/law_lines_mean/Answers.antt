use Rattle.cp_waits.proofs.Told.{lines_mean}
use Rattle.cp_waits.proofs.laws.law_lines_mean.Goals as goal

pub returns : goal.returns
returns c = lines_mean
