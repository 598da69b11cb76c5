use Rattle.std.proofs.Common.{arith, rules}
use Rattle.cp_merged.proofs.KnownRows.{arrived_row}
use Rattle.cp_merged.proofs.known.KnownStates.number_output.Goals as goal

pub returns-then-is_empty-clause-row : goal.returns-then-is_empty-clause-row
returns-then-is_empty-clause-row c = λ r m h. arrived_row r c.args.self.now c.args.row.now c.args.shown.now m (first_of (search rules, omega arith, grind arith)) h
