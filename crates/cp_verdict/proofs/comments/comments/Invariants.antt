use Rattle.std.proofs.Common.{◌≡◌, [], drop}
use Rattle.cp_verdict.specs.Gathering.{gathered, in_code, with_bytes}
use Rattle.cp_verdict.proofs.comments.comments.Given as goal

abbrev pub invariant-loop-byte : goal.invariant-loop-byte
invariant-loop-byte l = with_bytes (gathered l.reader) (drop l.byte-index l.source) ≡ with_bytes (in_code []) l.source
