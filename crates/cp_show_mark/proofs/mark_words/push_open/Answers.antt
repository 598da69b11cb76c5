use Rattle.std.proofs.Common.{codes, string_bytes}
use Rattle.cp_verdict.specs.Written.{stops_text}
use Rattle.cp_show_mark.specs.MarkText.{open_text}
use Rattle.cp_show_mark.proofs.Pieces.{also, made, three}
use Rattle.cp_show_mark.proofs.mark_words.push_open.Goals as goal

pub returns : goal.returns
returns c =
    let old = c.args.text.now in
    let one = c.put.new.self in
    let stopped = c.put_made.new.self in
    let new = c.put-2.new.self in
    three old one stopped new (codes "some schedules ended at ") (stops_text c.args.stops) (open_text c.args.claim) c.put.ensures (made string_bytes c.stops_text.result one stopped (stops_text c.args.stops) c.put_made.ensures c.stops_text.ensures) (also stopped new c.open_words.ensures c.put-2.ensures)
