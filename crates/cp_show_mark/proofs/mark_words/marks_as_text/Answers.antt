use Rattle.std.proofs.Common.{option_map, string_bytes}
use Rattle.std.specs.List.{zip}
use Rattle.cp_verdict.specs.Marked.{is_against, is_unsettled}
use Rattle.cp_show_mark.specs.MarkText.{doubt_told, doubtful_text, holds_text, longer_text, mark_text, setting_of, those_text}
use Rattle.cp_show_mark.proofs.Pieces.{finished, five, made}
use Rattle.cp_show_mark.proofs.mark_words.marks_as_text.Goals as goal

pub returns : goal.returns
returns c =
    let s = setting_of c.args.examinee in
    let m = c.args.marked.now in
    let es = c.args.reading.now.expectations.items in
    let doubt = option_map (λ w. w.now) c.args.reading.now.doubtful in
    let judged = zip es m.judgements.items in
    let new = c.put_made.new.self in
    let begun = c.new-text.result in
    let pieces = five begun c.push_holds.new.text c.push_those.new.text c.push_those-2.new.text c.push_longer.new.text new (holds_text m.judgements.items m.stops m.mark) (those_text s m.stops is_against judged) (those_text s m.stops is_unsettled judged) (longer_text s.choices m.stops m.mark) (doubtful_text (doubt_told s.program.names doubt)) c.push_holds.ensures c.push_those.ensures c.push_those-2.ensures c.push_longer.ensures (made string_bytes c.doubt_text.result c.push_longer.new.text new (doubtful_text (doubt_told s.program.names doubt)) c.put_made.ensures c.doubt_text.ensures) in
    finished string_bytes c.finish.result begun new (mark_text s es doubt m) c.new-text.ensures pieces c.finish.ensures
