use Rattle.cp_verdict.proofs.any_length.Vocabulary.{ap, sym, subst, IsWordOf, by_the_book, slots, without_output, ShowsSo}
use Rattle.cp_at_once.specs.declared.found.ValueAtOnce.{ValueAtOnce}
use Rattle.cp_verdict.proofs.any_length.KnownAtOnce.{text_more, value_more, value_words, values_done}
use Rattle.cp_verdict.proofs.endless.knowing_at_once.known_values.Goals as goal

pub loop-value-preserved : goal.loop-value-preserved
loop-value-preserved c =
    record {
      values = value_more c.args.found.now c.deref-value-items.result.now c.loop-value.value-index c.value-item.result c.loop-value.values.items c.push.new.self.items _ c.deref-value-items.ensures.value c.loop-value-test.true c.in_ok-push.ensures.items (ap (λ (e : ValueAtOnce). e.value) c.value-item.is) c.loop-value.invariant.values;
      texts = text_more c.args.program.now.names c.loop-value.values.items c.push.new.self.items _ c.in_ok-push.ensures.items c.in_ok-text.ensures c.loop-value.invariant.texts;
      words = λ r steps states kept all.
          value_words c.args.found.now states (ShowsSo (slots r by_the_book) without_output steps) c.deref-value-items.result.now c.loop-value.value-index c.value-item.result c.loop-value.values.items c.push.new.self.items _
          c.deref-value-items.ensures.value c.loop-value-test.true c.in_ok-push.ensures.items (ap (λ (e : ValueAtOnce). e.value) c.value-item.is) (λ w is. c.in_ok-word.ensures r states w kept (subst (λ (e : ValueAtOnce). IsWordOf states e.origin w) (sym c.value-item.is) is)) all (c.loop-value.invariant.words r steps states kept all);
    }

pub returns-clause-values : goal.returns-clause-values
returns-clause-values c = values_done c.args.found.now c.deref-value-items.result.now c.loop-value.value-index c.loop-value.values.items c.deref-value-items.ensures.value c.loop-value-test.false c.loop-value.invariant.values
