use Rattle.std.proofs.Common.{◌≡◌, ◌∙◌, Bool, List, false, string_bytes, subst, sym, true}
use Rattle.std.proofs.lemmas.Result.{IfOk-weaker}
use Rattle.cp_expectation.specs.declared.expectation.Expectation.{Expectation}
use Rattle.cp_tool.specs.Analysis.{is_endless}
use Rattle.cp_verdict.specs.endless.Marked.{with_tables}
use Rattle.cp_verdict.specs.endless.Naming.{processes_of}
use Rattle.cp_show_mark.specs.Given.{MeansEnds, TellsAsked, TellsBy, TellsEnds, TellsIf, are_asked, names_with}
use Rattle.cp_show_mark.specs.MarkText.{setting_of}
use Rattle.cp_show_mark.specs.Showing.{TellsNamedMark}
use Rattle.cp_show_mark.specs.Told.{TellsEndsText}
use Rattle.cp_show_mark.proofs.Giving.{any_asked, ends_meant, is_asked_when, is_refused_when, misread_when, same_asked, within_asked}
use Rattle.cp_show_mark.proofs.marks.mark_asked.Goals as goal

pub returns-in-Some-clause-meaning : goal.returns-in-Some-clause-meaning
returns-in-Some-clause-meaning g c = λ t read ok is.
    (let x = c.args.examinee in
    let o = x.options.now in
    let r = x.program.now in
    let ps = processes_of x.legend.now in
    let es = c.args.reading.now.expectations.items in
    let can : are_asked o (with_tables r ps) es ≡ false = subst (λ (l : List Expectation). are_asked o (with_tables r ps) l ≡ false) c.as_slice-list.ensures.value (is_refused_when c.in_ok-said.field-0 c.in-Some.said (are_asked o (with_tables r ps) c.as_slice-list.result.now) c.in-Some.is c.in_ok-said.ensures) in
    IfOk-weaker c.misread.result _ (λ a. TellsAsked o (names_with t ps) es (λ es. TellsNamedMark t ps o.discipline o.choices o.steps es a.verdict) (λ es. MeansEnds t ps o es a.verdict) a.verdict)
    (λ a e. misread_when (are_asked o (names_with t ps) es) (TellsBy (is_endless o.analysis) (λ es. TellsNamedMark t ps o.discipline o.choices o.steps es a.verdict) (λ es. MeansEnds t ps o es a.verdict) es) a.verdict (sym (same_asked t r ps read ok is o es) ∙ can) e) c.misread.ensures)

pub returns-then-is_endless-clause-meaning : goal.returns-then-is_endless-clause-meaning
returns-then-is_endless-clause-meaning g c = λ t read ok is.
    (let x = c.args.examinee in
    let o = x.options.now in
    let r = x.program.now in
    let ps = processes_of x.legend.now in
    let es = c.args.reading.now.expectations.items in
    let can : are_asked o (with_tables r ps) es ≡ true = subst (λ (l : List Expectation). are_asked o (with_tables r ps) l ≡ true) c.as_slice-list.ensures.value (is_asked_when c.in_ok-said.field-0 (are_asked o (with_tables r ps) c.as_slice-list.result.now) c.in_default.is c.in_ok-said.ensures) in
    IfOk-weaker c.judge_ends.result _ (λ a. TellsAsked o (names_with t ps) es (λ es. TellsNamedMark t ps o.discipline o.choices o.steps es a.verdict) (λ es. MeansEnds t ps o es a.verdict) a.verdict)
    (λ a told. any_asked o (names_with t ps) es (λ es. TellsNamedMark t ps o.discipline o.choices o.steps es a.verdict) (λ es. MeansEnds t ps o es a.verdict) a.verdict (sym (same_asked t r ps read ok is o es) ∙ can) (sym c.is_endless.ensures ∙ c.if-is_endless.true)
    (ends_meant t r ps read ok is o es a.verdict (subst (λ (l : List Expectation). TellsEnds r ps o l a.verdict) c.as_slice-list.ensures.value told))) c.judge_ends.ensures.mark)

pub returns-else-is_endless-clause-meaning : goal.returns-else-is_endless-clause-meaning
returns-else-is_endless-clause-meaning g c = λ t read ok is.
    (let x = c.args.examinee in
    let o = x.options.now in
    let r = x.program.now in
    let ps = processes_of x.legend.now in
    let es = c.args.reading.now.expectations.items in
    let can : are_asked o (with_tables r ps) es ≡ true = subst (λ (l : List Expectation). are_asked o (with_tables r ps) l ≡ true) c.as_slice-list.ensures.value (is_asked_when c.in_ok-said.field-0 (are_asked o (with_tables r ps) c.as_slice-list.result.now) c.in_default.is c.in_ok-said.ensures) in
    IfOk-weaker c.mark_of.result _ (λ a. TellsAsked o (names_with t ps) es (λ es. TellsNamedMark t ps o.discipline o.choices o.steps es a.verdict) (λ es. MeansEnds t ps o es a.verdict) a.verdict)
    (λ a told. within_asked o (names_with t ps) es (λ es. TellsNamedMark t ps o.discipline o.choices o.steps es a.verdict) (λ es. MeansEnds t ps o es a.verdict) a.verdict (sym (same_asked t r ps read ok is o es) ∙ can) (sym c.is_endless.ensures ∙ c.if-is_endless.false) told) (c.mark_of.ensures.meaning t read ok is))

pub returns-then-is_endless-clause-ends_text : goal.returns-then-is_endless-clause-ends_text
returns-then-is_endless-clause-ends_text g c = λ ends.
    (let x = c.args.examinee in
    let o = x.options.now in
    let r = x.program.now in
    let ps = processes_of x.legend.now in
    let es = c.args.reading.now.expectations.items in
    let can : are_asked o (with_tables r ps) es ≡ true = subst (λ (l : List Expectation). are_asked o (with_tables r ps) l ≡ true) c.as_slice-list.ensures.value (is_asked_when c.in_ok-said.field-0 (are_asked o (with_tables r ps) c.as_slice-list.result.now) c.in_default.is c.in_ok-said.ensures) in
    IfOk-weaker c.judge_ends.result _ (λ a. TellsIf (are_asked o (with_tables r ps) es) (TellsEndsText (setting_of x) es a.verdict (string_bytes a.text)) a.verdict)
    (λ a told. subst (λ (b : Bool). TellsIf b (TellsEndsText (setting_of x) es a.verdict (string_bytes a.text)) a.verdict) (sym can)
    (subst (λ (l : List Expectation). TellsEndsText (setting_of x) l a.verdict (string_bytes a.text)) c.as_slice-list.ensures.value told)) c.judge_ends.ensures.text)
