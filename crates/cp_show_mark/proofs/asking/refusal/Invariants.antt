use Rattle.std.proofs.Common.{◌≡◌, drop}
use Rattle.cp_verdict.specs.endless.Marked.{with_tables}
use Rattle.cp_verdict.specs.endless.Naming.{processes_of}
use Rattle.cp_show_mark.specs.Given.{are_asked}
use Rattle.cp_show_mark.proofs.asking.refusal.Given as goal

abbrev pub invariant-loop-expectation : goal.invariant-loop-expectation
invariant-loop-expectation l =
    are_asked l.examinee.options.now (with_tables l.examinee.program.now (processes_of l.examinee.legend.now)) l.list ≡ are_asked l.examinee.options.now (with_tables l.examinee.program.now (processes_of l.examinee.legend.now)) (drop l.expectation-index l.list)
