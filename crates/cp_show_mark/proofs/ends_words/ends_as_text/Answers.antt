use Rattle.std.proofs.Common.{ap, false, string_bytes, true}
use Rattle.cp_show_mark.specs.EndsText.{ends_text, held_text, those_said}
use Rattle.cp_show_mark.specs.MarkText.{setting_of}
use Rattle.cp_show_mark.proofs.Pieces.{also, finished, five}
use Rattle.cp_show_mark.proofs.ends_words.ends_as_text.Goals as goal

pub returns : goal.returns
returns c =
    let s = setting_of c.args.examinee in
    let m = c.args.marked.now in
    let begun = c.new-text.result in
    let held = c.put.new.self in
    let noted = c.put-2.new.self in
    let failing = c.push_those.new.text in
    let told = c.push_those-2.new.text in
    let new = c.put-3.new.self in
    let pieces = five begun held noted failing told new (held_text m.mark) (string_bytes m.note) (those_said s true m.each.items) (those_said s false m.each.items) (string_bytes m.last)
    (also begun held c.held_words.ensures c.put.ensures)
    (also held noted c.as_str.ensures.value c.put-2.ensures)
    (also noted failing (ap (those_said s true) c.deref.ensures.value) c.push_those.ensures)
    (also failing told (ap (those_said s false) c.deref-2.ensures.value) c.push_those-2.ensures)
    (also told new c.as_str-2.ensures.value c.put-3.ensures) in
    finished string_bytes c.finish.result begun new (ends_text s m) c.new-text.ensures pieces c.finish.ensures
