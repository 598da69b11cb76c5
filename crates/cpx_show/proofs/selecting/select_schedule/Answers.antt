use Rattle.std.proofs.Common.{List, ℕ, subst}
use Rattle.std.proofs.lemmas.Result.{IfOk-weaker}
use Rattle.cp_show_options.specs.declared.choosing.ScheduleChoice.TheVariants as choice
use Rattle.cpx_show.specs.Selecting.{IsSelected}
use Rattle.cpx_show.proofs.Tracing.{asked_by}
use Rattle.cpx_show.proofs.selecting.select_schedule.Goals as goal

pub returns-in-Given : goal.returns-in-Given
returns-in-Given g c = asked_by c.args.inquiry.asked.now c.args.inquiry.loaded.now.program c.select_word.result (choice.Given c.in-Given.round) c.in-Given.is (subst (λ (word : List ℕ). IsSelected word c.in-Given.round c.select_word.result) c.word_given.ensures.word c.select_word.ensures)

pub returns-in-First : goal.returns-in-First
returns-in-First g c = IfOk-weaker c.select_first.result _ _ (λ s h. asked_by c.args.inquiry.asked.now c.args.inquiry.loaded.now.program s (choice.First c.in-First.number) c.in-First.is h) c.select_first.ensures

pub returns-in-Simplest : goal.returns-in-Simplest
returns-in-Simplest g c = IfOk-weaker c.select_simplest.result _ _ (λ s h. asked_by c.args.inquiry.asked.now c.args.inquiry.loaded.now.program s (choice.Simplest c.in-Simplest.number) c.in-Simplest.is h) c.select_simplest.ensures

pub returns-in-End : goal.returns-in-End
returns-in-End g c = IfOk-weaker c.select_end.result _ _ (λ s h. asked_by c.args.inquiry.asked.now c.args.inquiry.loaded.now.program s (choice.End c.in-End.number) c.in-End.is h) c.select_end.ensures

pub returns-in-Wait : goal.returns-in-Wait
returns-in-Wait g c = IfOk-weaker c.select_wait.result _ _ (λ s h. asked_by c.args.inquiry.asked.now c.args.inquiry.loaded.now.program s (choice.Wait c.in-Wait.number) c.in-Wait.is h) c.select_wait.ensures
