use Rattle.std.proofs.Common.{◌∙◌, string_bytes}
use Rattle.cp_story.proofs.Rows.{rows_again}
use Rattle.cp_story.proofs.tables.push_rows.Goals as goal

pub returns-in-Some : goal.returns-in-Some
returns-in-Some c =
    rows_again c.push_lines-in-Some.result c.args.rows.now c.rows_before.result.now c.rows_from.result.now c.deref.result.now c.deref-in-Some.result.now c.args.again c.in-Some.first (string_bytes c.args.text.now) (string_bytes c.push_lines.new.text) (string_bytes c.push_str.new.self) (string_bytes c.push_lines-in-Some.new.text)
    c.in-Some.is (c.deref.ensures.value ∙ c.in_ok-widths.ensures) (c.deref-in-Some.ensures.value ∙ c.in_ok-widths.ensures) c.rows_before.ensures c.rows_from.ensures c.in_ok-push_lines-in-Some.ensures c.in_ok-push_str-in-Some.ensures.bytes c.push_lines-in-Some.ensures
