use Rattle.std.proofs.Common.{[], ◌++◌, ◌∙◌, ◌∷◌, ◌≡◌, ap, arith, length, sym}
use Rattle.std.specs.Prelude.{slice_index_or}
use Rattle.std.proofs.lemmas.List.{length-take-le, take_all, take_more}
use Rattle.cp_parts.proofs.decoding.line_of.Goals as goal

pub loop-at-init : goal.loop-at-init
loop-at-init c = c.new-line.ensures

pub push-requires : goal.push-requires
push-requires c =
    let count : length c.loop-at.line.items ≡ c.loop-at.at = ap length c.loop-at.invariant ∙ length-take-le c.loop-at.at c.args.list.now c.loop-at.auto.at-end in
    let few = c.requires in
    let within = c.loop-at-test.true in
    (omega arith, omega (arith, count, few, within))

pub loop-at-preserved : goal.loop-at-preserved
loop-at-preserved c = c.push.ensures.items ∙ ap (λ xs. xs ++ slice_index_or c.args.list.now c.loop-at.at 0 ∷ []) c.loop-at.invariant ∙ sym (take_more c.args.list.now c.loop-at.at 0 c.loop-at-test.true)

pub returns : goal.returns
returns c = c.loop-at.invariant ∙ take_all c.loop-at.at c.args.list.now (omega arith)
