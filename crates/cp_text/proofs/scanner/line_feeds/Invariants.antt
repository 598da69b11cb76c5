use Rattle.std.proofs.Common.{◌≡◌, take}
use Rattle.cp_text.specs.Bytes.{line_feeds}
use Rattle.cp_text.proofs.scanner.line_feeds.Given as goal

abbrev pub invariant-loop-b : goal.invariant-loop-b
invariant-loop-b l = l.count ≡ line_feeds (take l.b-index l.text)
