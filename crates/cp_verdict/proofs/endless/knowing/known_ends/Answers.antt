use Rattle.std.proofs.Common.{map}
use Rattle.cp_verdict.specs.endless.Knowledge.{end_pair}
use Rattle.cp_verdict.proofs.any_length.Learning.{end_more, ends_all}
use Rattle.cp_verdict.proofs.endless.knowing.known_ends.Goals as goal

pub loop-end-preserved : goal.loop-end-preserved
loop-end-preserved c = λ r f h.
    end_more r c.args.found.now f h c.args.looked c.deref-end-items.result.now c.loop-end.end-index _ (map end_pair c.loop-end.ends.items) (map end_pair c.add_end.new.ends.items)
    c.deref-end-items.ensures.value c.loop-end-test.true (c.loop-end.invariant r f h) (c.in_ok-add_end.ensures r f)

pub returns : goal.returns
returns c = λ r f h. ends_all r c.args.found.now f h c.args.looked c.deref-end-items.result.now c.loop-end.end-index (map end_pair c.loop-end.ends.items) c.deref-end-items.ensures.value c.loop-end-test.false (c.loop-end.invariant r f h)
