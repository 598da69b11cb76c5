use Rattle.std.proofs.Common.{◌≡◌, ◌∙◌, ◌++◌, codes, false, sym}
use Rattle.cp_refusal.proofs.Shown.{mark_made}
use Rattle.cp_refusal.proofs.Telling.{two_pieces}
use Rattle.cp_refusal.proofs.page.push_mark.Goals as goal
use Rattle.cp_refusal.proofs.page.push_mark.Goals.{then-line, else-line}

pub returns : goal.returns
returns c =
    let line = c.args.line.now in
    let a = c.args.text.now in
    let b = c.put.new.self in
    let d = c.push_blanks.new.text in
    let e = c.push_characters.new.text in
    let last = c.put-2.new.self in
    let blanks = c.push_blanks.ensures.piece in
    let shown = c.push_characters.ensures.piece in
    let none : line.is_begun ≡ false → c.if-line.push_blanks ≡ 0 = λ whole. elim c.if-line.branch [
      | then-line w ↦ absurd (cc (sym w.if-line.true ∙ whole))
      | else-line w ↦ w.push_blanks-is
    ] in
    record {
      piece = codes " | " ++ (blanks ++ (shown ++ codes "^\n"));
      is = λ whole plain. mark_made c.if-line.push_blanks blanks shown line.before.now c.push_blanks.ensures.is (none whole) (c.push_characters.ensures.is plain);
      holds = two_pieces a b last (codes " | ") (blanks ++ (shown ++ codes "^\n")) c.put.ensures (two_pieces b d last blanks (shown ++ codes "^\n") c.push_blanks.ensures.holds (two_pieces d e last shown (codes "^\n") c.push_characters.ensures.holds c.put-2.ensures));
    }
