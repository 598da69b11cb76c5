use Rattle.std.proofs.Common.{List, ℕ, Option, option_map, string_bytes}
use Rattle.cp_refusal.specs.Text.{IsTextOf}
use Rattle.cp_refusal.proofs.Texts.{as_said, finished}
use Rattle.cp_refusal.proofs.report.text.Goals as goal
use Rattle.cp_refusal.proofs.report.text.Goals.{in-Accepted, in-Refused}

pub returns : goal.returns
returns c =
    let source = c.args.source.now in
    let file : Option (List ℕ) = option_map (λ s. s.now) c.args.file in
    let answer = c.args.answer.now in
    finished c.finish.result string_bytes c.match-answer.text (IsTextOf source file answer) (elim c.match-answer.branch [
      | in-Accepted w ↦ as_said source file answer _ c.new-text.result w.push_accepted.new.text c.match-answer.text c.new-text.ensures w.text-is w.in-Accepted.is w.push_accepted.ensures
      | in-Refused w ↦ as_said source file answer _ c.new-text.result w.push_refusal.new.text c.match-answer.text c.new-text.ensures w.text-is w.in-Refused.is w.push_refusal.ensures
    ]) c.finish.ensures
