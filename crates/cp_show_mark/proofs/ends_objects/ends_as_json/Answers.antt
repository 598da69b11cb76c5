use Rattle.std.proofs.Common.{◌≡◌, ◌∙◌, ap, map}
use Rattle.serde_json.specs.Data.{object}
use Rattle.serde_json.specs.View.{view}
use Rattle.cp_outcomes.proofs.Jsons.{object_text}
use Rattle.cp_story.specs.Objects.{array_of, members_in}
use Rattle.cp_show_mark.specs.EndsData.{ends_data, ends_mark_name, notes_of, said_data}
use Rattle.cp_show_mark.specs.MarkData.{notes_data}
use Rattle.cp_show_mark.specs.MarkText.{setting_of}
use Rattle.cp_show_mark.proofs.EndsFloats.{ends_free}
use Rattle.cp_show_mark.proofs.Gathered.{mark_put}
use Rattle.cp_show_mark.proofs.ends_objects.ends_as_json.Goals as goal

pub returns : goal.returns
returns c =
    let s = setting_of c.args.examinee in
    let m = c.args.marked.now in
    let is : object (members_in c.put_mark.new.object) ≡ ends_data s m = ap object (mark_put (members_in c.new-object.result) (members_in c.put_mark.new.object) c.ends_mark_words.result.now (ends_mark_name m.mark) (view c.in_ok-said_objects.field-0) (array_of (map (said_data s) m.each.items)) m.stops (view c.in_ok-notes.field-0) (notes_data (notes_of m)) s.discipline.signals c.new-object.ensures c.in_ok-put_mark.ensures c.ends_mark_words.ensures (c.in_ok-said_objects.ensures ∙ ap (λ xs. array_of (map (said_data s) xs)) c.deref.ensures.value) c.in_ok-notes.ensures) in
    object_text c.to_string.result (view c.into_value.result) (ends_data s m) (c.into_value.ensures ∙ is) (ends_free s m) c.to_string.ensures.text
