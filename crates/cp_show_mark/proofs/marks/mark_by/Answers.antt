use Rattle.std.proofs.Common.{List, Option, ℕ, inl, option_map, string_bytes}
use Rattle.std.proofs.lemmas.Result.{IfOk-weaker}
use Rattle.cp_expectation.specs.Words.{words_of}
use Rattle.cp_verdict.specs.endless.Marked.{with_tables}
use Rattle.cp_verdict.specs.endless.Naming.{processes_of}
use Rattle.cp_show_mark.specs.Given.{MeansGiven, TellsGiven, TellsGivenEnds, TellsGivenText, are_asked}
use Rattle.cp_show_mark.specs.MarkText.{setting_of}
use Rattle.cp_show_mark.specs.Told.{TellsText}
use Rattle.cp_show_mark.proofs.Giving.{told_more}
use Rattle.cp_show_mark.proofs.marks.mark_by.Goals as goal

pub returns-in-Ok-clause-mark : goal.returns-in-Ok-clause-mark
returns-in-Ok-clause-mark g c =
    let x = c.args.examinee in
    IfOk-weaker c.mark_asked.result _ (λ a. TellsGiven x.program.now x.options.now (processes_of x.legend.now) (words_of c.args.text.now) a.verdict) (λ a told. inl (c.in-Ok.reading.expectations.items, c.in-Ok.ensures.spelled, told)) c.mark_asked.ensures.mark

pub returns-in-Ok-clause-meaning : goal.returns-in-Ok-clause-meaning
returns-in-Ok-clause-meaning g c = λ t read ok is.
    (let x = c.args.examinee in
    IfOk-weaker c.mark_asked.result _ (λ a. MeansGiven t x.options.now (processes_of x.legend.now) (words_of c.args.text.now) a.verdict) (λ a told. inl (c.in-Ok.reading.expectations.items, c.in-Ok.ensures.spelled, told)) (c.mark_asked.ensures.meaning t read ok is))

pub returns-in-Ok-clause-text : goal.returns-in-Ok-clause-text
returns-in-Ok-clause-text g c = λ within.
    (let x = c.args.examinee in
    let s = setting_of x in
    let o = x.options.now in
    let n = with_tables x.program.now (processes_of x.legend.now) in
    let es = c.in-Ok.reading.expectations.items in
    let doubtful = option_map (λ w. w.now) c.in-Ok.reading.doubtful in
    IfOk-weaker c.mark_asked.result _ (λ a. TellsGivenText s o n (words_of c.args.text.now) a.verdict (string_bytes a.text)) (λ a told. inl (es, c.in-Ok.ensures.spelled, told_more (are_asked o n es) (TellsText s es doubtful a.verdict (string_bytes a.text)) ((d : Option (List ℕ)) × TellsText s es d a.verdict (string_bytes a.text)) a.verdict (λ t. (doubtful, t)) told)) (c.mark_asked.ensures.text within))

pub returns-in-Ok-clause-ends_text : goal.returns-in-Ok-clause-ends_text
returns-in-Ok-clause-ends_text g c = λ ends.
    (let x = c.args.examinee in
    IfOk-weaker c.mark_asked.result _ (λ a. TellsGivenEnds (setting_of x) x.options.now (with_tables x.program.now (processes_of x.legend.now)) (words_of c.args.text.now) a.verdict (string_bytes a.text)) (λ a told. inl (c.in-Ok.reading.expectations.items, c.in-Ok.ensures.spelled, told)) (c.mark_asked.ensures.ends_text ends))
