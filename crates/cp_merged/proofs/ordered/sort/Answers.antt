use Rattle.std.proofs.Common.{rules}
use Rattle.cp_merged.proofs.Sorting.{sorted_by_word}
use Rattle.cp_merged.proofs.ordered.sort.Goals as goal

pub returns-clause-sorted : goal.returns-clause-sorted
returns-clause-sorted c = sorted_by_word c.sort_unstable_by.new.self.items c.sort_unstable_by.ensures.sorted (λ a r f' k. search rules)
