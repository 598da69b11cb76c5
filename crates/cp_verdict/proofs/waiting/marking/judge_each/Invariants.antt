use Rattle.std.proofs.Common.{◌≡◌, ℕ, List, map, take, true}
use Rattle.cp_run.specs.Table.{Line}
use Rattle.cp_walk.specs.Report.{outcomes_of}
use Rattle.cp_verdict.specs.Judged.{line_of}
use Rattle.cp_verdict.specs.Marked.{OneForEach}
use Rattle.cp_verdict.specs.endless.Naming.{processes_of}
use Rattle.cp_verdict.specs.waiting.Asking.{name_who}
use Rattle.cp_verdict.specs.waiting.Judged.{IsJudgedAny}
use Rattle.cp_verdict.specs.waiting.Rows.{AreRowsOf}
use Rattle.cp_verdict.proofs.waiting.marking.judge_each.Given as goal

abbrev pub invariant-loop-expectation : goal.invariant-loop-expectation
invariant-loop-expectation l =
    (who : List ℕ → List ℕ) (lines : List Line) → map line_of l.seen ≡ outcomes_of lines → (name_who l.expectations ≡ true → AreRowsOf who lines l.rows) →
    OneForEach (IsJudgedAny l.program.names (processes_of l.legend) who lines) (take l.expectation-index l.expectations) l.judgements.items
