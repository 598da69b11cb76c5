use Rattle.cp_key.proofs.Keys.{key_tells}
use Rattle.cp_key.proofs.law.law_key.Goals as goal

pub returns : goal.returns
returns c = key_tells
