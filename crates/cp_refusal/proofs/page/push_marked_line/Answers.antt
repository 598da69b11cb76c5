use Rattle.std.proofs.Common.{◌++◌, length, replicate}
use Rattle.std.specs.Fmt.{decimal}
use Rattle.cp_refusal.proofs.Shown.{excerpt_made}
use Rattle.cp_refusal.proofs.Telling.{blanks_hold, two_pieces}
use Rattle.cp_refusal.proofs.page.push_marked_line.Goals as goal

pub returns : goal.returns
returns c =
    let number = c.line_number-number.result in
    let shown = c.shown_line-line.result in
    let a = c.args.text.now in
    let b = c.put_display.new.self in
    let d = c.push_line.new.text in
    let e = c.push_blanks.new.text in
    let last = c.push_mark.new.text in
    let digits = decimal number in
    let line = c.push_line.ensures.piece in
    let blanks = replicate (length digits) 32 in
    let mark = c.push_mark.ensures.piece in
    record {
      piece = digits ++ (line ++ (blanks ++ mark));
      is = excerpt_made c.args.source.now c.args.span.from number shown.whole.now shown.before.now shown.is_begun shown.goes_on line mark c.line_number-number.ensures c.shown_line-line.ensures c.push_line.ensures.is c.push_mark.ensures.is;
      holds = two_pieces a b last digits (line ++ (blanks ++ mark)) c.put_display.ensures (two_pieces b d last line (blanks ++ mark) c.push_line.ensures.holds (two_pieces d e last blanks mark (blanks_hold a b d e digits line c.len-before.result c.len.result c.saturating_sub-width.result c.len-before.ensures c.len.ensures c.put_display.ensures c.saturating_sub-width.ensures c.push_line.ensures.holds c.push_blanks.ensures) c.push_mark.ensures.holds));
    }
