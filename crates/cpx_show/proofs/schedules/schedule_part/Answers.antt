use Rattle.std.proofs.Common.{◌∙◌, ℕ, List, map, string_bytes, subst, sym}
use Rattle.std.proofs.lemmas.Option.{none-some}
use Rattle.std.proofs.lemmas.Result.{IfOk-weaker}
use Rattle.cp_legend.specs.Names.{legend_seen}
use Rattle.cp_show_mark.specs.Stories.{IsStoryOf}
use Rattle.cp_story.specs.Round.{IsFirstOfRound}
use Rattle.cpx_show.specs.Schedules.{IsWrittenAs}
use Rattle.cpx_show.proofs.Tracing.{misread_only}
use Rattle.cpx_show.proofs.schedules.schedule_part.Goals as goal

pub returns-in-Some-clause-told : goal.returns-in-Some-clause-told
returns-in-Some-clause-told c = IfOk-weaker c.answer_with.result _ _ (λ a is reported. absurd (misread_only a.verdict is reported)) c.answer_with.ensures

pub returns-in-Some-clause-drawn : goal.returns-in-Some-clause-drawn
returns-in-Some-clause-drawn c = λ all. absurd (none-some _ (sym (c.missing_row.ensures all) ∙ c.in-Some.is))

pub returns-clause-told : goal.returns-clause-told
returns-clause-told c =
    λ reported.
    let is = c.as_slice-word.ensures.value in
    let options = c.args.inquiry.asked.now.options in
    let r = c.args.inquiry.loaded.now.program in
    let l = legend_seen c.args.inquiry.legend.now in
    let story = c.in_ok-story.story in
    let again = c.first_of_round-again.result in
    record {
      story = story;
      so = subst (λ (word : List ℕ). IsStoryOf l r options.discipline options.choices options.steps word story) is c.in_ok-story.ensures.so;
      again = again;
      begins = subst (λ (word : List ℕ). IsFirstOfRound story.events.items word c.args.schedule.now.round again) is c.first_of_round-again.ensures;
      written = subst (λ (word : List ℕ). IsWrittenAs c.args.form r l (map string_bytes c.args.inquiry.lines.now) word story again (string_bytes c.in_ok-text.text)) is c.in_ok-text.ensures;
    }
