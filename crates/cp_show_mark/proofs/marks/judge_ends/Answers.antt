use Rattle.std.proofs.Common.{◌∙◌, sym}
use Rattle.std.proofs.lemmas.Result.{IfOk-weaker}
use Rattle.cp_run.proofs.Tracing.{ok_both}
use Rattle.cp_verdict.specs.endless.Naming.{processes_of}
use Rattle.cp_show_mark.proofs.Telling.{judged_at_once, judged_in_turn, said_so}
use Rattle.cp_show_mark.proofs.marks.judge_ends.Goals as goal

pub returns-in_ok-marked-clause-mark : goal.returns-in_ok-marked-clause-mark
returns-in_ok-marked-clause-mark g c =
    let x = c.args.examinee in
    let marked = c.in_ok-marked in
    let some = x.options.now.some_state in
    IfOk-weaker c.ends_answer.result _ _ (λ a e. judged_at_once x.options.now c.longest_limits.result x.program.now (processes_of x.legend.now) c.args.list.now marked.marked.mark a.verdict c.longest_limits.ensures e (sym c.is_at_once.ensures ∙ c.if-is_at_once.true) marked.ensures.mark (marked.ensures.states some)) c.ends_answer.ensures.verdict

pub returns-in_ok-marked-2-clause-mark : goal.returns-in_ok-marked-2-clause-mark
returns-in_ok-marked-2-clause-mark g c =
    let x = c.args.examinee in
    let marked = c.in_ok-marked-2 in
    let some = x.options.now.some_state in
    IfOk-weaker c.ends_answer-else-is_at_once.result _ _ (λ a e. judged_in_turn x.options.now c.longest_limits.result x.program.now (processes_of x.legend.now) c.args.list.now marked.marked.mark a.verdict c.longest_limits.ensures e (sym c.is_at_once.ensures ∙ c.if-is_at_once.false) (marked.ensures.mark some)) c.ends_answer-else-is_at_once.ensures.verdict

pub returns-in_ok-marked-clause-text : goal.returns-in_ok-marked-clause-text
returns-in_ok-marked-clause-text g c =
    let x = c.args.examinee in
    let marked = c.in_ok-marked in
    let said = said_so x.options.now c.longest_limits.result x.program.now (processes_of x.legend.now) c.args.list.now marked.marked c.longest_limits.ensures (marked.ensures.said x.options.now.some_state) in
    ok_both c.ends_answer.result _ _ _ c.ends_answer.ensures.verdict c.ends_answer.ensures.text (λ a v t. (marked.marked, said, v, t))

pub returns-in_ok-marked-2-clause-text : goal.returns-in_ok-marked-2-clause-text
returns-in_ok-marked-2-clause-text g c =
    let x = c.args.examinee in
    let marked = c.in_ok-marked-2 in
    let said = said_so x.options.now c.longest_limits.result x.program.now (processes_of x.legend.now) c.args.list.now marked.marked c.longest_limits.ensures (marked.ensures.said x.options.now.some_state) in
    ok_both c.ends_answer-else-is_at_once.result _ _ _ c.ends_answer-else-is_at_once.ensures.verdict c.ends_answer-else-is_at_once.ensures.text (λ a v t. (marked.marked, said, v, t))
