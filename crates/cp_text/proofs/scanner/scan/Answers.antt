use Rattle.cp_text.proofs.ReadingLaws.{long_reads, long_only, short_reads, short_only}
use Rattle.std.proofs.Common.{arith}
use Rattle.cp_text.proofs.scanner.scan.Goals as goal

pub returns-then-source-gt-MOST_TEXT_BYTES : goal.returns-then-source-gt-MOST_TEXT_BYTES
returns-then-source-gt-MOST_TEXT_BYTES c = record {
  reads = λ _. long_reads c.args.source.now (omega arith);
  only = λ other reads _. long_only c.args.source.now (omega arith) other reads;
}

pub returns : goal.returns
returns c = record {
  reads = short_reads c.args.source.now (omega arith) c.pieces.result c.pieces.ensures;
  only = short_only c.args.source.now (omega arith) c.pieces.result c.pieces.ensures;
}
