use Rattle.std.proofs.Common.{[], ap, arith}
use Rattle.cp_verdict.specs.Gathering.{Gathered, gathered, in_code, with_bytes}
use Rattle.cp_verdict.proofs.Commenting.{byte_more, bytes_over}
use Rattle.cp_verdict.proofs.comments.comments.Goals as goal

pub loop-byte-init : goal.loop-byte-init
loop-byte-init c = ap (λ g. with_bytes g c.args.source.now) c.new-reader.ensures

pub loop-byte-preserved : goal.loop-byte-preserved
loop-byte-preserved c = byte_more c.args.source.now c.loop-byte.byte-index _ (gathered c.loop-byte.reader) (gathered c.read.new.self) (with_bytes (in_code []) c.args.source.now) (omega arith) c.in_ok-read.ensures c.loop-byte.invariant

pub returns : goal.returns
returns c = ap (λ (g : Gathered). g.done) (bytes_over c.args.source.now c.loop-byte.byte-index (gathered c.loop-byte.reader) (with_bytes (in_code []) c.args.source.now) (omega arith) c.loop-byte.invariant)
