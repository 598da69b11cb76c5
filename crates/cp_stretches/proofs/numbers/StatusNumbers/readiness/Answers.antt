use Rattle.std.proofs.Common.{◌≡◌, ◌∙◌, ◌+◌, ◌≤◌, ap, arith, filter, sym, Bool, ℕ}
use Rattle.std.specs.Prelude.{◌==◌}
use Rattle.std.specs.List.{range_with_len}
use Rattle.cp_machine.specs.Machine.{readiness_of}
use Rattle.cp_machine.proofs.ListLemmas.{readiness_kept, readiness_same, several_done}
use Rattle.cp_states.specs.Numbers.{number_at}
use Rattle.cp_stretches.proofs.numbers.StatusNumbers.readiness.Goals as goal
use Rattle.cp_stretches.proofs.numbers.StatusNumbers.readiness.Goals.{else-has_number, then-has_number}

pub loop-process-preserved : goal.loop-process-preserved
loop-process-preserved c =
    let f : ℕ → Bool = λ q. number_at c.args.row.now q == c.args.self.now.ready in
    let p = c.loop-process.process in
    let test : f p ≡ c.has_number.result = sym c.has_number.ensures in
    elim c.if-has_number.branch [
      | then-has_number w ↦ w.readiness-is ∙ w.one_more-readiness.ensures ∙ readiness_kept f p c.loop-process.readiness (test ∙ w.if-has_number.true) c.loop-process.invariant
      | else-has_number w ↦ w.readiness-is ∙ c.loop-process.invariant ∙ readiness_same f p (test ∙ w.if-has_number.false)
    ]

pub returns-in-Several : goal.returns-in-Several
returns-in-Several c =
    let f : ℕ → Bool = λ q. number_at c.args.row.now q == c.args.self.now.ready in
    let p = c.loop-process.process in
    let test : f p ≡ c.has_number.result = sym c.has_number.ensures in
    let now : c.if-has_number.readiness ≡ readiness_of (filter f (range_with_len 0 (p + 1))) = elim c.if-has_number.branch [
      | then-has_number w ↦ w.readiness-is ∙ w.one_more-readiness.ensures ∙ readiness_kept f p c.loop-process.readiness (test ∙ w.if-has_number.true) c.loop-process.invariant
      | else-has_number w ↦ w.readiness-is ∙ c.loop-process.invariant ∙ readiness_same f p (test ∙ w.if-has_number.false)
    ] in
    let le : p + 1 ≤ c.args.table.now.processes = omega arith in
    several_done f (p + 1) c.args.table.now.processes c.if-has_number.readiness le now c.in-Several.is

pub returns : goal.returns
returns c =
    let at : c.loop-process.process ≡ c.args.table.now.processes = omega arith in
    c.loop-process.invariant ∙ ap (λ n. readiness_of (filter (λ q. number_at c.args.row.now q == c.args.self.now.ready) (range_with_len 0 n))) at
