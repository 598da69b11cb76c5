use Rattle.std.proofs.Common.{◌≡◌, ◌∙◌, ◌++◌, IfOk, ap, codes, map, option_copied, string_bytes, subst}
use Rattle.cp_natural.specs.Decimal.{number_text}
use Rattle.cp_merged.specs.Code.{tally_of}
use Rattle.cp_run.specs.Table.{each}
use Rattle.cp_walk.specs.Text.{word_text, outcome_text}
use Rattle.cp_outcomes.specs.Shares.{share_in, share_text}
use Rattle.cp_outcomes.specs.Text.{blanks, right_text, schedules_text, share_column, simple_text, line_text, told_text}
use Rattle.cp_outcomes.specs.Told.{setting_of, end_lines}
use Rattle.cp_outcomes.proofs.Appending.{outcome_pieces}
use Rattle.cp_outcomes.proofs.texts.push_outcome_told.Goals as goal

pub returns : goal.returns
unfolding told_text line_text
returns c =
    let t = c.args.told.now.tally.now in
    let w = c.args.width in
    let s = setting_of c.args.subject c.args.subject.limits.choices in
    let seven = string_bytes c.push_str-2.new.self in
    outcome_pieces c.push_lines.result (right_text w (number_text c.args.number) ++ codes "." ++ share_column (share_text (share_in t.count c.args.whole.now))) (outcome_text c.args.subject.program.now.names t.outcome) (codes "\n") (blanks w ++ blanks 11) (schedules_text t.count ++ codes ", first " ++ word_text t.first.items) (simple_text t.first.items (option_copied c.args.told.now.simple)) (codes "\n") (each (line_text w) (end_lines s (tally_of t))) (string_bytes c.args.text.now) (string_bytes c.push_figures.new.text) (string_bytes c.push_outcome.new.text) (string_bytes c.push_str.new.self) (string_bytes c.push_indent.new.text) (string_bytes c.push_first.new.text) (string_bytes c.push_simple.new.text) seven (string_bytes c.push_lines.new.text) c.in_ok-push_figures.ensures c.in_ok-push_outcome.ensures c.in_ok-push_str.ensures.bytes c.in_ok-push_indent.ensures c.in_ok-push_first.ensures (c.in_ok-push_simple.ensures ∙ ap (λ v. string_bytes c.push_first.new.text ++ simple_text v (option_copied c.args.told.now.simple)) c.as_slice.ensures.value) c.in_ok-push_str-2.ensures.bytes (subst (λ v. IfOk c.push_lines.result (λ _. string_bytes c.push_lines.new.text ≡ seven ++ each (line_text w) v)) (ap (map string_bytes) c.deref.ensures.value ∙ c.in_ok-ends.ensures) c.push_lines.ensures)
