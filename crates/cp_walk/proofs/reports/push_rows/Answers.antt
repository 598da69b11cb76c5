use Rattle.std.proofs.Common.{string_bytes, arith}
use Rattle.cp_walk.specs.Report.{row_text}
use Rattle.cp_walk.specs.Rows.{line_of}
use Rattle.cp_walk.proofs.Joining.{each_whole}
use Rattle.cp_walk.proofs.reports.push_rows.Goals as goal

pub returns : goal.returns
returns c = each_whole c.loop-row.row-index (row_text c.args.program.now.names) line_of c.args.rows.now (string_bytes c.args.text.now) (string_bytes c.loop-row.text) (omega arith) c.loop-row.invariant
