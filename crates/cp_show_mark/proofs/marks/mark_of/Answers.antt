use Rattle.std.proofs.Common.{◌≡◌, ◌∙◌, List, ℕ, inl, inr, option_map, string_bytes, subst}
use Rattle.std.proofs.lemmas.Result.{IfOk-weaker}
use Rattle.cp_run.proofs.Tracing.{ok_both}
use Rattle.cp_expectation.specs.declared.expectation.Expectation.{Expectation}
use Rattle.cp_verdict.specs.endless.Naming.{processes_of}
use Rattle.cp_show_mark.specs.MarkText.{setting_of}
use Rattle.cp_show_mark.specs.Showing.{IsNamedMark, IsSlotMark, TellsNamedMark, TellsSlotMark}
use Rattle.cp_show_mark.specs.Told.{IsExcessTold, TellsText, ended}
use Rattle.cp_show_mark.specs.declared.answer.ShowVerdict.TheVariants.{TooMany}
use Rattle.cp_show_mark.proofs.Telling.{as_asked, mark_told, named_mark}
use Rattle.cp_show_mark.proofs.marks.mark_of.Goals as goal

pub returns-in_ok-said-in-Ok-clause-mark : goal.returns-in_ok-said-in-Ok-clause-mark
returns-in_ok-said-in-Ok-clause-mark g c =
    let x = c.args.examinee in
    let o = x.options.now in
    let l = c.limits-limits.result in
    let r = x.program.now in
    let ps = processes_of x.legend.now in
    let m = c.in-Ok.marked in
    let es = c.args.reading.now.expectations.items in
    let marked = subst (λ (es : List Expectation). IsSlotMark r ps l.discipline l.choices l.steps es m) c.as_slice-list.ensures.value (c.in-Ok.ensures.mark, c.in-Ok.ensures.rows) in
    let within = as_asked (λ choices steps discipline. IsSlotMark r ps discipline choices steps es m) o l c.limits-limits.ensures marked in
    IfOk-weaker c.answer_of.result (λ a. a.verdict ≡ c.verdict_of.result) (λ a. TellsSlotMark r ps o.discipline o.choices o.steps es a.verdict) (λ a e. inr (m.mark, e ∙ c.verdict_of.ensures, (within.0.together, λ no. (within.1 no).together))) c.answer_of.ensures.verdict

pub returns-in_ok-said-in-Ok-clause-meaning : goal.returns-in_ok-said-in-Ok-clause-meaning
returns-in_ok-said-in-Ok-clause-meaning g c = λ t read ok is.
    (let x = c.args.examinee in
    let o = x.options.now in
    let l = c.limits-limits.result in
    let r = x.program.now in
    let ps = processes_of x.legend.now in
    let m = c.in-Ok.marked in
    let es = c.args.reading.now.expectations.items in
    let meaning = subst (λ (es : List Expectation). IsNamedMark r ps l.discipline l.choices l.steps es m) c.as_slice-list.ensures.value (c.in-Ok.ensures.meaning, c.in-Ok.ensures.rows_meant) in
    let within = as_asked (λ choices steps discipline. IsNamedMark r ps discipline choices steps es m) o l c.limits-limits.ensures meaning in
    IfOk-weaker c.answer_of.result (λ a. a.verdict ≡ c.verdict_of.result) (λ a. TellsNamedMark t ps o.discipline o.choices o.steps es a.verdict) (λ a e. inr (m.mark, e ∙ c.verdict_of.ensures, named_mark t r ps read ok is o.discipline o.choices o.steps es m within)) c.answer_of.ensures.verdict)

pub returns-in-Err-TooManyStates-clause-meaning : goal.returns-in-Err-TooManyStates-clause-meaning
returns-in-Err-TooManyStates-clause-meaning g c = λ t read ok is. IfOk-weaker c.too_many.result _ _ (λ a e. inl e) c.too_many.ensures.verdict

pub returns-in-Err-TooManyOutcomes-clause-meaning : goal.returns-in-Err-TooManyOutcomes-clause-meaning
returns-in-Err-TooManyOutcomes-clause-meaning g c = λ t read ok is. IfOk-weaker c.too_many-in-Err-TooManyOutcomes.result _ _ (λ a e. inl e) c.too_many-in-Err-TooManyOutcomes.ensures.verdict

pub returns-in_ok-said-in-Ok-clause-text : goal.returns-in_ok-said-in-Ok-clause-text
returns-in_ok-said-in-Ok-clause-text g c =
    let l = c.limits-limits.result in
    let x = c.args.examinee in
    let r = x.program.now in
    let ps = processes_of x.legend.now in
    let m = c.in-Ok.marked in
    let es = c.args.reading.now.expectations.items in
    let doubtful = option_map (λ w. w.now) c.args.reading.now.doubtful in
    let marked = subst (λ (es : List Expectation). IsSlotMark r ps l.discipline l.choices l.steps es m) c.as_slice-list.ensures.value (c.in-Ok.ensures.mark, c.in-Ok.ensures.rows) in
    let meaning = subst (λ (es : List Expectation). IsNamedMark r ps l.discipline l.choices l.steps es m) c.as_slice-list.ensures.value (c.in-Ok.ensures.meaning, c.in-Ok.ensures.rows_meant) in
    let said = c.in_ok-said-in-Ok in
    ok_both c.answer_of.result (λ a. a.verdict ≡ c.verdict_of.result) (λ a. string_bytes a.text ≡ ended x.as_json (string_bytes said.said)) (λ a. TellsText (setting_of x) es doubtful a.verdict (string_bytes a.text)) c.answer_of.ensures.verdict c.answer_of.ensures.text (λ a v t. (string_bytes said.said, inl (m, mark_told x l es doubtful a.verdict (string_bytes said.said) m c.limits-limits.ensures (v ∙ c.verdict_of.ensures) said.ensures marked meaning), t))

pub returns-in-Err-TooManyStates-clause-text : goal.returns-in-Err-TooManyStates-clause-text
returns-in-Err-TooManyStates-clause-text g c =
    let x = c.args.examinee in
    let es = c.args.reading.now.expectations.items in
    let doubtful = option_map (λ w. w.now) c.args.reading.now.doubtful in
    ok_both c.too_many.result (λ a. a.verdict ≡ TooMany) (λ a. (said : List ℕ) × IsExcessTold (setting_of x) es doubtful said × (string_bytes a.text ≡ ended x.as_json said)) (λ a. TellsText (setting_of x) es doubtful a.verdict (string_bytes a.text)) c.too_many.ensures.verdict c.too_many.ensures.text (λ a v t. (t.0, inr (v, t.1), t.2))

pub returns-in-Err-TooManyOutcomes-clause-text : goal.returns-in-Err-TooManyOutcomes-clause-text
returns-in-Err-TooManyOutcomes-clause-text g c =
    let x = c.args.examinee in
    let es = c.args.reading.now.expectations.items in
    let doubtful = option_map (λ w. w.now) c.args.reading.now.doubtful in
    ok_both c.too_many-in-Err-TooManyOutcomes.result (λ a. a.verdict ≡ TooMany) (λ a. (said : List ℕ) × IsExcessTold (setting_of x) es doubtful said × (string_bytes a.text ≡ ended x.as_json said)) (λ a. TellsText (setting_of x) es doubtful a.verdict (string_bytes a.text)) c.too_many-in-Err-TooManyOutcomes.ensures.verdict c.too_many-in-Err-TooManyOutcomes.ensures.text (λ a v t. (t.0, inr (v, t.1), t.2))
