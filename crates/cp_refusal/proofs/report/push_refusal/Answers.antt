use Rattle.std.proofs.Common.{◌++◌, List, ℕ, ap, codes, string_bytes, subst}
use Rattle.cp_prose.specs.Telling.{UnlessRefused, appended}
use Rattle.cp_refusal.proofs.Telling.{six_pieces}
use Rattle.cp_refusal.proofs.report.push_refusal.Goals as goal

pub returns : goal.returns
returns c =
    let r = c.args.refusal.now in
    let b = c.push_position_of.new.text in
    let s = string_bytes r.sentence in
    let line = codes "\n" in
    let x = c.push_position_of.ensures.piece in
    let y = c.push_excerpt.ensures.piece in
    let z = c.push_excerpt-2.ensures.piece in
    let more = c.push_more.ensures.piece in
    record {
      piece = x ++ (s ++ (line ++ (y ++ (z ++ more))));
      is = record {
        position = x;
        earlier = y;
        excerpt = z;
        is = ap (λ (m : List ℕ). x ++ (s ++ (line ++ (y ++ (z ++ m))))) c.push_more.ensures.is;
        stands = c.push_position_of.ensures.is;
        earlier_shown = c.push_excerpt.ensures.is;
        shown = c.push_excerpt-2.ensures.is;
      };
      holds = six_pieces c.args.text.now b c.put.new.self c.put-2.new.self c.push_excerpt.new.text c.push_excerpt-2.new.text c.push_more.new.text x s line y z more c.push_position_of.ensures.holds (subst (λ (t : List ℕ). UnlessRefused c.put.new.self (appended b t)) c.as_str.ensures.value c.put.ensures) c.put-2.ensures c.push_excerpt.ensures.holds c.push_excerpt-2.ensures.holds c.push_more.ensures.holds;
    }
