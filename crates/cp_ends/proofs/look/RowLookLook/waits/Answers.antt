use Rattle.std.proofs.Common.{◌≡◌, ◌∙◌, rules, ap, arith, sym}
use Rattle.cp_states.specs.Numbers.{number_at}
use Rattle.cp_stretches.specs.Numbers.{rests_at}
use Rattle.cp_ends.proofs.Looks.{waits_in_row}
use Rattle.cp_ends.proofs.look.RowLookLook.waits.Goals as goal

pub returns : goal.returns
returns c = λ r m look. waits_in_row r _ _ _ m _ look c.args.pid (omega (arith, c.requires.3, c.requires.2.placed.processes, look.placed.processes)) c.rests.result (sym c.rests.ensures)
