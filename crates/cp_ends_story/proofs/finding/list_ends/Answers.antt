use Rattle.std.proofs.Common.{◌≡◌, ◌∙◌, ap, arith, map, sym, subst}
use Rattle.cp_ends.specs.Holds.{end_origin}
use Rattle.cp_ends.specs.Told.{told}
use Rattle.cp_ends.proofs.Listing.{take_found}
use Rattle.cp_ends_story.specs.Findings.{end_with_word}
use Rattle.cp_ends_story.proofs.Listing.{ends_more, nothing_told}
use Rattle.cp_ends_story.proofs.finding.list_ends.Goals as goal

pub loop-end-init : goal.loop-end-init
loop-end-init c = λ r states fs s a. ap (map end_with_word) c.new-list.ensures.items ∙ sym (nothing_told c.args.depth)

pub loop-end-preserved : goal.loop-end-preserved
loop-end-preserved c = ends_more c.args.states.now c.args.depth c.args.ends.now c.loop-end.end-index _ c.in_ok-word.word.items c.loop-end.list.items _ (omega arith) c.in_ok-word.ensures c.loop-end.invariant c.in_ok-push_end.ensures

pub returns : goal.returns
returns c = λ r states fs s a.
    (let all = take_found states end_origin c.args.ends.now fs c.loop-end.end-index a (omega arith) in
    subst (λ xs. map end_with_word c.loop-end.list.items ≡ told c.args.depth xs) all (c.loop-end.invariant r states fs s a))
