use Rattle.std.proofs.Common.{◌++◌, codes, refl}
use Rattle.cp_refusal.proofs.Shown.{whole_shown}
use Rattle.cp_refusal.proofs.Telling.{two_pieces}
use Rattle.cp_refusal.proofs.page.push_line.Goals as goal

pub returns : goal.returns
returns c =
    let line = c.args.line.now in
    let b = c.put.new.self in
    let cut = c.push_cut.new.text in
    let d = c.push_characters.new.text in
    let e = c.push_cut-2.new.text in
    let last = c.put-2.new.self in
    let x = c.push_cut.ensures.piece in
    let p = c.push_characters.ensures.piece in
    let y = c.push_cut-2.ensures.piece in
    record {
      piece = codes " | " ++ ((x ++ (p ++ y)) ++ codes "\n");
      is = record { shown = x ++ (p ++ y); is = refl; whole = whole_shown line.is_begun line.goes_on line.whole.now x p y c.push_cut.ensures.is c.push_characters.ensures.is c.push_cut-2.ensures.is };
      holds = two_pieces c.args.text.now b last (codes " | ") ((x ++ (p ++ y)) ++ codes "\n") c.put.ensures (two_pieces b e last (x ++ (p ++ y)) (codes "\n") (two_pieces b cut e x (p ++ y) c.push_cut.ensures.holds (two_pieces cut d e p y c.push_characters.ensures.holds c.push_cut-2.ensures.holds)) c.put-2.ensures);
    }
