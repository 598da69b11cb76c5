use Rattle.std.proofs.Common.{◌∙◌, ◌+◌, ap, arith, refl}
use Rattle.cp_merged.specs.Layers.{lesser}
use Rattle.cp_merged.specs.declared.prefixes.Prefixes as code
use Rattle.cp_merged.proofs.Rowing.{row_merged, words_within}
use Rattle.cp_merged.proofs.layer.StateLayer.merge.Goals as goal

pub merge-requires : goal.merge-requires
merge-requires c =
    let self = c.args.self.now in
    let now = c.index_mut.result.now in
    let few = words_within self.width self.numbers.items self.leads.items c.args.number now c.requires.number in
    omega (arith, few, c.requires.small, ap (λ (y : code.Prefixes). y.count) c.index_mut.ensures.value)

pub returns-clause-rows : goal.returns-clause-rows
returns-clause-rows c =
    let self = c.args.self.now in
    let x = c.args.prefixes.now in
    let now = c.index_mut.result.now in
    let count = c.merge.ensures.count ∙ ap (λ (y : code.Prefixes). y.count + x.count) c.index_mut.ensures.value in
    let first = c.merge.ensures.first ∙ ap (λ (y : code.Prefixes). lesser y.first.items x.first.items) c.index_mut.ensures.value in
    row_merged self.width self.numbers.items _ self.leads.items c.args.number now x c.merge.new.self c.requires.number refl self.different (count, first)
