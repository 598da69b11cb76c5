use Rattle.std.proofs.Common.{◌≡◌, ◌∙◌, Bor, length, rules, sym}
use Rattle.std.specs.Iterator.Adapters.{zip_first, zip_second}
use Rattle.std.specs.Slice.Iter.{iter_rest}
use Rattle.std.proofs.lemmas.Slice.Zip.{length-zip, zip_end, zip_turn}
use Rattle.cp_expectation.specs.declared.expectation.Expectation.{Expectation}
use Rattle.cp_verdict.specs.declared.judging.Judgement.{Judgement}
use Rattle.cp_show_mark.specs.MarkText.{is_of, judged_text, setting_of}
use Rattle.cp_show_mark.proofs.Pairs.{all_pairs, pair_left, pair_taken}
use Rattle.cp_show_mark.proofs.mark_words.push_those.Goals as goal

pub loop-expectation-preserved-then-is_of : goal.loop-expectation-preserved-then-is_of
loop-expectation-preserved-then-is_of c =
    let m = c.args.marked.now in
    let es = c.args.reading.now.expectations.items in
    let js = m.judgements.items in
    let first : iter_rest (zip_first c.into_iter-expectation-iterator.result) ≡ es = search rules in
    let second : iter_rest (zip_second c.into_iter-expectation-iterator.result) ≡ js = search rules in
    let p : Bor Expectation × Bor Judgement = (c.in-Some.expectation, c.in-Some.judgement) in
    let next = zip_turn es js c.loop-expectation.yielded c.into_iter-expectation-iterator.result c.loop-expectation.expectation-iterator c.next.new.self c.next.result first second c.loop-expectation.yielded_by p c.in-Some.is c.next.ensures.steps in
    pair_taken (judged_text (setting_of c.args.examinee) m.stops) (λ (q : Expectation × Judgement). is_of c.args.failing q.1) es js c.loop-expectation.yielded p c.args.text.now c.loop-expectation.text c.push_judged.new.text next (sym c.is_of.ensures ∙ c.if-is_of.true) c.loop-expectation.invariant c.push_judged.ensures

pub loop-expectation-preserved : goal.loop-expectation-preserved
loop-expectation-preserved c =
    let m = c.args.marked.now in
    let es = c.args.reading.now.expectations.items in
    let js = m.judgements.items in
    let first : iter_rest (zip_first c.into_iter-expectation-iterator.result) ≡ es = search rules in
    let second : iter_rest (zip_second c.into_iter-expectation-iterator.result) ≡ js = search rules in
    let p : Bor Expectation × Bor Judgement = (c.in-Some.expectation, c.in-Some.judgement) in
    let next = zip_turn es js c.loop-expectation.yielded c.into_iter-expectation-iterator.result c.loop-expectation.expectation-iterator c.next.new.self c.next.result first second c.loop-expectation.yielded_by p c.in-Some.is c.next.ensures.steps in
    pair_left (judged_text (setting_of c.args.examinee) m.stops) (λ (q : Expectation × Judgement). is_of c.args.failing q.1) es js c.loop-expectation.yielded p c.args.text.now c.loop-expectation.text next (sym c.is_of.ensures ∙ c.if-is_of.false) c.loop-expectation.invariant

pub returns : goal.returns
returns c =
    let m = c.args.marked.now in
    let es = c.args.reading.now.expectations.items in
    let js = m.judgements.items in
    let first : iter_rest (zip_first c.into_iter-expectation-iterator.result) ≡ es = search rules in
    let second : iter_rest (zip_second c.into_iter-expectation-iterator.result) ≡ js = search rules in
    let done = zip_end es js c.loop-expectation.yielded c.into_iter-expectation-iterator.result c.loop-expectation.expectation-iterator c.next.new.self c.next.result first second c.loop-expectation.yielded_by c.in-None.is c.next.ensures.steps in
    all_pairs (judged_text (setting_of c.args.examinee) m.stops) (λ (q : Expectation × Judgement). is_of c.args.failing q.1) es js (length c.loop-expectation.yielded) c.args.text.now c.loop-expectation.text (length-zip es js ∙ sym done) c.loop-expectation.invariant
