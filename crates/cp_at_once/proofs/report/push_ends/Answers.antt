use Rattle.std.proofs.Common.{string_bytes}
use Rattle.cp_at_once.proofs.Telling.{ends_so}
use Rattle.cp_at_once.proofs.report.push_ends.Goals as goal

pub returns : goal.returns
returns c = λ r states fs s a.
    ends_so states c.args.ends.now fs (string_bytes c.args.text.now) (string_bytes c.push_count_line.new.text) (string_bytes c.push_end_lines.new.text) a c.in_ok-push_count_line.ensures (c.in_ok-push_end_lines.ensures r states fs s a)
