use Rattle.std.proofs.Common.{string_bytes}
use Rattle.cp_show_mark.specs.EndsText.{against_text}
use Rattle.cp_show_mark.specs.MarkText.{setting_of}
use Rattle.cp_show_mark.proofs.Pieces.{also, two}
use Rattle.cp_show_mark.proofs.ends_words.push_reason.Goals as goal

pub returns : goal.returns
returns c =
    let old = c.args.text.now in
    let x = c.args.said.now in
    two old c.put.new.self c.push_against.new.text (string_bytes x.reason) (against_text (setting_of c.args.examinee) x.against) (also old c.put.new.self c.as_str.ensures.value c.put.ensures) c.push_against.ensures
