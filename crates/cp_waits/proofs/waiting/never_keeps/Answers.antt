use Rattle.std.proofs.Common.{◌≡◌, ◌∙◌, ◌<◌, ℕ, true, false, sym, arith, below_more}
use Rattle.cp_waits.specs.Lines.{IsUnservedOn}
use Rattle.cp_waits.proofs.Words.{rank_in, passed_over_in}
use Rattle.cp_waits.proofs.Shown.{one_rank}
use Rattle.cp_waits.proofs.waiting.never_keeps.Goals as goal

pub returns-then-are_ranks : goal.returns-then-are_ranks
returns-then-are_ranks c = (rank_in c.args.parts.now, passed_over_in c.args.parts.now, c.are_ranks.ensures.0 c.if-are_ranks.true)

pub returns-then-are_ranks-2 : goal.returns-then-are_ranks-2
returns-then-are_ranks-2 c = (rank_in c.in_ok-alone.alone, passed_over_in c.in_ok-alone.alone, c.are_ranks-in-loop-process.ensures.0 c.if-are_ranks-2.true)

pub loop-process-preserved : goal.loop-process-preserved
loop-process-preserved c =
    let g = c.args.graph.now in
    let keeping = c.args.keeping in
    let p = c.loop-process.process in
    below_more (λ n. IsUnservedOn g keeping n → ⊥) p c.loop-process.invariant
    (λ unserved.
    let is : c.are_ranks-in-loop-process.result ≡ true = c.are_ranks-in-loop-process.ensures.1 (one_rank g keeping p c.in_ok-alone.alone c.in_ok-alone.ensures.one c.in_ok-alone.ensures.passed_over (omega arith) unserved) in
    let both : true ≡ false = sym is ∙ c.if-are_ranks-2.false in
    cc)

pub returns : goal.returns
returns c = λ p less. c.loop-process.invariant p (omega (arith, less))
