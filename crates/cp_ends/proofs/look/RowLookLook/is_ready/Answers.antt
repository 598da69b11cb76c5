use Rattle.std.proofs.Common.{rules, arith}
use Rattle.cp_stretches.proofs.Statuses.{ready_tested}
use Rattle.cp_ends.proofs.look.RowLookLook.is_ready.Goals as goal

pub returns : goal.returns
returns c = λ r m look. (let tested = ready_tested r _ _ _ m _ look c.args.pid (omega (arith, c.requires.3, c.requires.2.placed.processes)) in search (rules, tested))
