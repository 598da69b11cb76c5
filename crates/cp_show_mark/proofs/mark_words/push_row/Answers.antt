use Rattle.std.proofs.Common.{codes, List, ℕ, subst}
use Rattle.cp_prose.specs.Telling.{UnlessRefused, appended}
use Rattle.cp_verdict.specs.Judged.{row_line}
use Rattle.cp_show_mark.specs.MarkText.{end_text, schedule_text, setting_of}
use Rattle.cp_show_mark.proofs.Pieces.{three}
use Rattle.cp_show_mark.proofs.mark_words.push_row.Goals as goal

pub returns : goal.returns
returns c =
    let row = c.args.row.now in
    let s = setting_of c.args.examinee in
    let at_its_end = subst (λ (word : List ℕ). UnlessRefused c.push_end.new.text (appended c.push_schedule.new.text (end_text s word row.outcome.kind))) c.as_slice.ensures.value c.push_end.ensures in
    three c.args.text.now c.put.new.self c.push_schedule.new.text c.push_end.new.text (codes "first against it: ") (schedule_text s (row_line row)) (end_text s row.schedule.items row.outcome.kind) c.put.ensures c.push_schedule.ensures at_its_end
