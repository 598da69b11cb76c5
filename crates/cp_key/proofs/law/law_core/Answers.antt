use Rattle.cp_key.proofs.Keys.{core_counts, core_tells}
use Rattle.cp_key.proofs.law.law_core.Goals as goal

pub returns : goal.returns
returns c = record { same = core_tells; count = core_counts }
