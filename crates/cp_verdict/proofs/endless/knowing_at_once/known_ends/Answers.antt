use Rattle.cp_verdict.proofs.any_length.Vocabulary.{ap, sym, subst, by_the_book, silent_slots, EndsSo, IsWordOf}
use Rattle.cp_at_once.specs.declared.found.EndAtOnce.{EndAtOnce}
use Rattle.cp_verdict.proofs.any_length.KnownAtOnce.{end_more, end_words, ends_done}
use Rattle.cp_verdict.proofs.endless.knowing_at_once.known_ends.Goals as goal

pub loop-end-preserved : goal.loop-end-preserved
loop-end-preserved c =
    record {
      ends = end_more c.args.found.now c.deref-end-items.result.now c.loop-end.end-index c.end-item.result c.loop-end.ends.items c.push.new.self.items _ c.deref-end-items.ensures.value c.loop-end-test.true c.in_ok-push.ensures.items (ap (λ (e : EndAtOnce). e.end) c.end-item.is) c.loop-end.invariant.ends;
      words = λ r steps states kept all.
          end_words c.args.found.now states (EndsSo (silent_slots r by_the_book) steps) c.deref-end-items.result.now c.loop-end.end-index c.end-item.result c.loop-end.ends.items c.push.new.self.items _
          c.deref-end-items.ensures.value c.loop-end-test.true c.in_ok-push.ensures.items (ap (λ (e : EndAtOnce). e.end) c.end-item.is)
          (λ w is. c.in_ok-word.ensures r states w kept (subst (λ (e : EndAtOnce). IsWordOf states e.origin w) (sym c.end-item.is) is)) all (c.loop-end.invariant.words r steps states kept all);
    }

pub returns-clause-ends : goal.returns-clause-ends
returns-clause-ends c = ends_done c.args.found.now c.deref-end-items.result.now c.loop-end.end-index c.loop-end.ends.items c.deref-end-items.ensures.value c.loop-end-test.false c.loop-end.invariant.ends
