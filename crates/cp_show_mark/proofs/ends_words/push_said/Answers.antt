use Rattle.std.proofs.Common.{codes, string_bytes}
use Rattle.cp_show_mark.specs.EndsText.{said_reason}
use Rattle.cp_show_mark.specs.MarkText.{mark_name, setting_of}
use Rattle.cp_show_mark.proofs.Pieces.{also, five}
use Rattle.cp_show_mark.proofs.ends_words.push_said.Goals as goal

pub returns : goal.returns
returns c =
    let old = c.args.text.now in
    let x = c.args.said.now in
    let colon = c.put-2.new.self in
    five old c.put.new.self colon c.put-3.new.self c.put-4.new.self c.push_reason.new.text (mark_name x.standing) (codes ": ") (string_bytes x.expectation) (codes "\n") (said_reason (setting_of c.args.examinee) x) (also old c.put.new.self c.mark_words.ensures c.put.ensures) c.put-2.ensures (also colon c.put-3.new.self c.as_str.ensures.value c.put-3.ensures) c.put-4.ensures c.push_reason.ensures
