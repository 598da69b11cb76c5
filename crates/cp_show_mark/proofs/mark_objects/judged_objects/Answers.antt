use Rattle.std.proofs.Common.{◌≡◌, ◌∙◌, Bor, ap, arith, length, rules, sym}
use Rattle.std.specs.List.{zip}
use Rattle.std.specs.Iterator.Adapters.{zip_first, zip_second}
use Rattle.std.specs.Slice.Iter.{iter_rest}
use Rattle.std.proofs.lemmas.Slice.Zip.{length-zip, zip_end, zip_turn}
use Rattle.serde_json.specs.View.{view}
use Rattle.cp_story.specs.Objects.{array_of}
use Rattle.cp_expectation.specs.declared.expectation.Expectation.{Expectation}
use Rattle.cp_verdict.specs.declared.judging.Judgement.{Judgement}
use Rattle.cp_show_mark.specs.MarkData.{judged_data}
use Rattle.cp_show_mark.specs.MarkText.{setting_of}
use Rattle.cp_show_mark.proofs.Gathered.{all_gathered, pair_gathered, seen_array}
use Rattle.cp_show_mark.proofs.mark_objects.judged_objects.Goals as goal

pub loop-expectation-preserved : goal.loop-expectation-preserved
loop-expectation-preserved c =
    let m = c.args.marked.now in
    let es = c.args.reading.now.expectations.items in
    let js = m.judgements.items in
    let first : iter_rest (zip_first c.into_iter-expectation-iterator.result) ≡ es = search rules in
    let second : iter_rest (zip_second c.into_iter-expectation-iterator.result) ≡ js = search rules in
    let p : Bor Expectation × Bor Judgement = (c.in-Some.expectation, c.in-Some.judgement) in
    let next = zip_turn es js c.loop-expectation.yielded c.into_iter-expectation-iterator.result c.loop-expectation.expectation-iterator c.next.new.self c.next.result first second c.loop-expectation.yielded_by p c.in-Some.is c.next.ensures.steps in
    pair_gathered view (judged_data (setting_of c.args.examinee) m.stops) es js c.loop-expectation.yielded p c.loop-expectation.items.items c.push.new.self.items c.in_ok-judged_object.field-0 next c.in_ok-push.ensures.items c.in_ok-judged_object.ensures c.loop-expectation.invariant

pub returns : goal.returns
returns c =
    let m = c.args.marked.now in
    let es = c.args.reading.now.expectations.items in
    let js = m.judgements.items in
    let first : iter_rest (zip_first c.into_iter-expectation-iterator.result) ≡ es = search rules in
    let second : iter_rest (zip_second c.into_iter-expectation-iterator.result) ≡ js = search rules in
    let done = zip_end es js c.loop-expectation.yielded c.into_iter-expectation-iterator.result c.loop-expectation.expectation-iterator c.next.new.self c.next.result first second c.loop-expectation.yielded_by c.in-None.is c.next.ensures.steps in
    seen_array c.loop-expectation.items ∙ ap array_of (all_gathered view (judged_data (setting_of c.args.examinee) m.stops) (zip es js) (length c.loop-expectation.yielded) c.loop-expectation.items.items (omega (arith, length-zip es js ∙ sym done)) c.loop-expectation.invariant)
