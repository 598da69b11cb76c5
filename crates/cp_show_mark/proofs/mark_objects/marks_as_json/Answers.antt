use Rattle.std.proofs.Common.{◌∙◌, ap, map, option_map}
use Rattle.std.specs.List.{zip}
use Rattle.serde_json.specs.Data.{object}
use Rattle.serde_json.specs.View.{view}
use Rattle.cp_outcomes.proofs.Jsons.{object_text}
use Rattle.cp_story.specs.Objects.{array_of, members_in}
use Rattle.cp_show_mark.specs.MarkData.{judged_data, mark_data, note_if, notes_data}
use Rattle.cp_show_mark.specs.MarkText.{doubt_told, doubtful_text, mark_name, setting_of}
use Rattle.cp_show_mark.proofs.Gathered.{mark_put}
use Rattle.cp_show_mark.proofs.MarkFloats.{mark_free}
use Rattle.cp_show_mark.proofs.mark_objects.marks_as_json.Goals as goal

pub returns : goal.returns
returns c =
    let s = setting_of c.args.examinee in
    let es = c.args.reading.now.expectations.items in
    let doubtful = option_map (λ w. w.now) c.args.reading.now.doubtful in
    let m = c.args.marked.now in
    let items = array_of (map (judged_data s m.stops) (zip es m.judgements.items)) in
    let notes = notes_data (note_if (doubtful_text (doubt_told s.program.names doubtful))) in
    let members = mark_put (members_in c.new-object.result) (members_in c.put_mark.new.object) c.mark_words.result.now (mark_name m.mark) (view c.in_ok-judged_objects.field-0) items m.stops (view c.in_ok-doubts.field-0) notes s.discipline.signals c.new-object.ensures c.in_ok-put_mark.ensures c.mark_words.ensures c.in_ok-judged_objects.ensures c.in_ok-doubts.ensures in
    object_text c.to_string.result (view c.into_value.result) (mark_data s es doubtful m) (c.into_value.ensures ∙ ap object members) (mark_free s es doubtful m) c.to_string.ensures.text
