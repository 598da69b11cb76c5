use Rattle.std.proofs.Common.{arith}
use Rattle.cp_refusal.proofs.Parts.{feed_found, no_feed_found}
use Rattle.cp_refusal.proofs.page.line_len.Goals as goal

pub returns-then-byte-eq10 : goal.returns-then-byte-eq10
returns-then-byte-eq10 c = feed_found c.args.text.now c.loop-at.at (omega arith) c.loop-at.invariant c.if-byte-eq10.true

pub returns : goal.returns
returns c = no_feed_found c.args.text.now c.loop-at.at (omega arith) c.loop-at.invariant
