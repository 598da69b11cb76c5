use Rattle.std.proofs.Common.{◌≡◌, drop, take}
use Rattle.cp_show_mark.specs.MarkText.{is_among, is_declared, most_constants}
use Rattle.cp_show_mark.proofs.examinee.Examinee.declares.Given as goal

abbrev pub invariant-loop-number : goal.invariant-loop-number
invariant-loop-number l = is_declared l.self.program.now.names l.name ≡ is_among (drop l.number (take most_constants l.self.program.now.names)) l.name
