use Rattle.std.proofs.Common.{◌++◌}
use Rattle.std.specs.Prelude.{encode_utf8}
use Rattle.cp_refusal.proofs.Shown.{one_more_shown}
use Rattle.cp_refusal.proofs.Telling.{two_pieces}
use Rattle.cp_refusal.proofs.characters.push_characters.Goals as goal

pub loop-at-preserved : goal.loop-at-preserved
loop-at-preserved c =
    let told = c.loop-at.invariant in
    record {
      piece = told.piece ++ encode_utf8 c.as_seen.result;
      is = one_more_shown c.args.look c.args.bytes.now c.loop-at.at c.front_of-front.result.shown c.front_of-front.result.len c.as_seen.result c.loop-at.left c.saturating_sub-left.result told.piece c.loop-at-test.true c.front_of-front.ensures c.as_seen.ensures c.saturating_sub-left.ensures told.is;
      holds = two_pieces c.args.text.now c.loop-at.text c.put_char.new.self told.piece (encode_utf8 c.as_seen.result) told.holds c.put_char.ensures;
    }
