use Rattle.std.proofs.Common.{rules, ◌≡◌, [], replicate, subst, sym}
use Rattle.cp_parts.specs.Runs.{AreRuns, no_span}
use Rattle.cp_parts.proofs.Pushing.{runs_none}
use Rattle.cp_parts.proofs.runs.Runs.new.Goals as goal

pub invariant_of-result : goal.invariant_of-result
invariant_of-result c =
    let all : c.in_ok-spans.spans.items ≡ replicate c.args.labels no_span = c.in_ok-spans.ensures.items_if_clones_equal (λ y h. h) in
    let none : c.new.result.items ≡ [] = search rules in
    record { runs = subst (λ ls. AreRuns ls c.in_ok-spans.spans.items) (sym none) (subst (AreRuns []) (sym all) (runs_none c.args.labels)) }
