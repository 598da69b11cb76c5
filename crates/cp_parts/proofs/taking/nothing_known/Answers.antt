use Rattle.std.proofs.Common.{ℕ}
use Rattle.std.proofs.lemmas.List.{get_or-replicate, length-replicate}
use Rattle.cp_parts.proofs.taking.nothing_known.Goals as goal

pub returns-clause-long : goal.returns-clause-long
returns-clause-long c = length-replicate {A = ℕ} 97 4294967295

pub returns-clause-none : goal.returns-clause-none
returns-clause-none c = λ k lt. get_or-replicate {A = ℕ} 97 k 4294967295 0 lt
