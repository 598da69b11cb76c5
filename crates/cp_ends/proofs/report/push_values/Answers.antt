use Rattle.std.proofs.Common.{◌∙◌, string_bytes}
use Rattle.cp_ends.specs.Told.{told}
use Rattle.cp_ends.proofs.Listing.{values_so}
use Rattle.cp_ends.proofs.report.push_values.Goals as goal

pub returns : goal.returns
returns c = λ r found fs s a.
    (let l = c.in_ok-lines.ensures r found fs s a in
    values_so c.args.program.now.names (told c.args.depth fs) (string_bytes c.args.text.now) (string_bytes c.push_count_line.new.text) c.as_str.result.now (string_bytes c.push_str.new.self) (string_bytes c.push_more.new.text) c.min.result c.in_ok-lines.lines.count c.in_ok-push_count_line.ensures c.in_ok-push_str.ensures.bytes c.in_ok-push_more.ensures (c.as_str.ensures.value ∙ l.0) l.1 c.min.ensures)
