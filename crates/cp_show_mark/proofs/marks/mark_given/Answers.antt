use Rattle.std.proofs.Common.{◌∙◌, List, Option, ℕ, string_bytes, sym}
use Rattle.std.proofs.lemmas.Result.{IfOk-weaker}
use Rattle.cp_expectation.specs.Words.{words_of}
use Rattle.cp_verdict.specs.endless.Marked.{with_tables}
use Rattle.cp_verdict.specs.endless.Naming.{processes_of}
use Rattle.cp_show_mark.specs.Given.{MeansEnds, MeansGiven, TellsAsked, TellsEnds, TellsGiven, TellsGivenEnds, TellsGivenText, TellsIf, are_asked, names_with}
use Rattle.cp_show_mark.specs.MarkText.{setting_of}
use Rattle.cp_show_mark.specs.Showing.{TellsNamedMark, TellsSlotMark}
use Rattle.cp_show_mark.specs.Told.{TellsEndsText, TellsText}
use Rattle.cp_show_mark.proofs.Giving.{empty_misread}
use Rattle.cp_show_mark.proofs.marks.mark_given.Goals as goal

pub returns-then-is_empty-clause-mark : goal.returns-then-is_empty-clause-mark
returns-then-is_empty-clause-mark g c =
    let x = c.args.examinee in
    let o = x.options.now in
    let r = x.program.now in
    let ps = processes_of x.legend.now in
    let none = sym c.is_empty.ensures ∙ c.if-is_empty.true in
    IfOk-weaker c.misread.result _ (λ a. TellsGiven r o ps (words_of c.args.text.now) a.verdict) (λ a e. empty_misread (λ es. TellsAsked o (with_tables r ps) es (λ es. TellsSlotMark r ps o.discipline o.choices o.steps es a.verdict) (λ es. TellsEnds r ps o es a.verdict) a.verdict) a.verdict c.args.text.now none e) c.misread.ensures

pub returns-then-is_empty-clause-meaning : goal.returns-then-is_empty-clause-meaning
returns-then-is_empty-clause-meaning g c = λ t read ok is.
    (let x = c.args.examinee in
    let o = x.options.now in
    let ps = processes_of x.legend.now in
    let none = sym c.is_empty.ensures ∙ c.if-is_empty.true in
    IfOk-weaker c.misread.result _ (λ a. MeansGiven t o ps (words_of c.args.text.now) a.verdict) (λ a e. empty_misread (λ es. TellsAsked o (names_with t ps) es (λ es. TellsNamedMark t ps o.discipline o.choices o.steps es a.verdict) (λ es. MeansEnds t ps o es a.verdict) a.verdict) a.verdict c.args.text.now none e) c.misread.ensures)

pub returns-then-is_empty-clause-text : goal.returns-then-is_empty-clause-text
returns-then-is_empty-clause-text g c = λ within.
    (let x = c.args.examinee in
    let s = setting_of x in
    let o = x.options.now in
    let n = with_tables x.program.now (processes_of x.legend.now) in
    let none = sym c.is_empty.ensures ∙ c.if-is_empty.true in
    IfOk-weaker c.misread.result _ (λ a. TellsGivenText s o n (words_of c.args.text.now) a.verdict (string_bytes a.text)) (λ a e. empty_misread (λ es. TellsIf (are_asked o n es) ((doubtful : Option (List ℕ)) × TellsText s es doubtful a.verdict (string_bytes a.text)) a.verdict) a.verdict c.args.text.now none e) c.misread.ensures)

pub returns-then-is_empty-clause-ends_text : goal.returns-then-is_empty-clause-ends_text
returns-then-is_empty-clause-ends_text g c = λ within.
    (let x = c.args.examinee in
    let s = setting_of x in
    let o = x.options.now in
    let n = with_tables x.program.now (processes_of x.legend.now) in
    let none = sym c.is_empty.ensures ∙ c.if-is_empty.true in
    IfOk-weaker c.misread.result _ (λ a. TellsGivenEnds s o n (words_of c.args.text.now) a.verdict (string_bytes a.text)) (λ a e. empty_misread (λ es. TellsIf (are_asked o n es) (TellsEndsText s es a.verdict (string_bytes a.text)) a.verdict) a.verdict c.args.text.now none e) c.misread.ensures)
