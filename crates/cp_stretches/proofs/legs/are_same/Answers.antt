use Rattle.std.proofs.Common.{◌∙◌, arith, refl, sym}
use Rattle.std.proofs.lemmas.List.{take_all, take_more_same}
use Rattle.cp_stretches.proofs.legs.are_same.Goals as goal

pub loop-at-init : goal.loop-at-init
loop-at-init c = refl

pub loop-at-preserved : goal.loop-at-preserved
loop-at-preserved c = take_more_same c.args.places.now c.args.others.now c.loop-at.at 0 (omega arith) (omega arith) c.loop-at.invariant (omega arith)

pub returns : goal.returns
returns c = λ is. sym (take_all c.loop-at.at c.args.places.now (omega arith)) ∙ c.loop-at.invariant ∙ take_all c.loop-at.at c.args.others.now (omega arith)
