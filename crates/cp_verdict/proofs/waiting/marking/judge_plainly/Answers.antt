use Rattle.std.proofs.Common.{◌∙◌, ap, map, subst, sym}
use Rattle.cp_verdict.specs.waiting.Rows.{HaveShortWords, waiting_line}
use Rattle.cp_verdict.proofs.waiting.marking.judge_plainly.Goals as goal

pub judge-requires : goal.judge-requires
judge-requires c = subst HaveShortWords (sym c.deref.ensures.value) c.in_ok-first.ensures.short

pub returns : goal.returns
returns c = λ none. c.judge.ensures.rows none (ap (map waiting_line) c.deref.ensures.value ∙ c.in_ok-first.ensures.rows)
