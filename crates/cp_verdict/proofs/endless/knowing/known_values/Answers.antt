use Rattle.std.proofs.Common.{map}
use Rattle.cp_verdict.specs.endless.Knowledge.{value_pair}
use Rattle.cp_verdict.proofs.any_length.Learning.{value_more, values_all}
use Rattle.cp_verdict.proofs.endless.knowing.known_values.Goals as goal

pub loop-value-preserved : goal.loop-value-preserved
loop-value-preserved c =
    record {
      values = λ r f h.
          value_more r c.args.found.now f h c.args.looked c.deref-value-items.result.now c.loop-value.value-index _ (map value_pair c.loop-value.values.items) (map value_pair c.add_value.new.values.items)
          c.deref-value-items.ensures.value c.loop-value-test.true (c.loop-value.invariant.values r f h) (c.in_ok-add_value.ensures.values r f);
      texts = c.in_ok-add_value.ensures.texts c.args.program.now.names c.loop-value.invariant.texts c.in_ok-text.ensures;
    }

pub returns-clause-values : goal.returns-clause-values
returns-clause-values c = λ r f h. values_all r c.args.found.now f h c.args.looked c.deref-value-items.result.now c.loop-value.value-index (map value_pair c.loop-value.values.items) c.deref-value-items.ensures.value c.loop-value-test.false (c.loop-value.invariant.values r f h)
