use Rattle.cp_walk.proofs.Words.{◌≡◌, ◌∙◌, ◌++◌, map, string_bytes, sym, length-map, line_of}
use Rattle.cp_walk.specs.Report.{report_text}
use Rattle.cp_walk.proofs.Reporting.{ok_then, report_of}
use Rattle.cp_walk.proofs.reports.push_report.Goals as goal

pub returns : goal.returns
returns c =
    let names = c.args.program.now.names in
    let lines = map line_of c.args.all.now in
    ok_then c.push_parts.result _ (λ _. string_bytes c.push_parts.new.text ≡ string_bytes c.args.text.now ++ report_text names lines c.args.rows) c.push_parts.ensures
    (λ a h. h ∙ report_of names lines c.args.rows (string_bytes c.args.text.now) _ _ _ (sym (length-map c.args.all.now line_of)) c.in_ok-groups.ensures.count (c.in_ok-groups.ensures.texts names))
