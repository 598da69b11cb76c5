use Rattle.std.proofs.Common.{◌∙◌, List, ℤ, ap, map, refl}
use Rattle.cp_run.specs.Code.{answer_of}
use Rattle.cp_legend.specs.Names.{legend_seen}
use Rattle.cp_machine.specs.Machine.{Machine, machine_of}
use Rattle.cp_run.specs.Run.{Answer, run}
use Rattle.cp_run.specs.Slots.{slots}
use Rattle.cp_run.specs.Stop.{last_state, numbers_left}
use Rattle.cp_story.specs.Annotations.{violation_of_end}
use Rattle.cp_story.specs.Causes.{cause_of_end}
use Rattle.cp_story.specs.Changes.{changes_in}
use Rattle.cp_story.specs.Halted.{halted_at}
use Rattle.cp_story.specs.Story.{Telling}
use Rattle.cp_story.specs.Told.{lines_of}
use Rattle.cp_story.specs.Views.{past_of, telling_of, told_of, wait_of}
use Rattle.cp_story.specs.Waiting.{waits_in}
use Rattle.cp_story.proofs.Reasoning.{reasons_same}
use Rattle.cp_story.proofs.Telling.{run_told}
use Rattle.cp_story.proofs.story.tell.Goals as goal

pub returns : goal.returns
returns g c =
    let l = legend_seen c.args.legend.now in
    let r = c.args.job.now.program.now in
    let discipline = c.args.job.now.limits.discipline in
    let sys = slots r discipline in
    let choices = c.args.choices in
    let steps = c.args.job.now.limits.steps in
    let word = c.args.word.now in
    let teller = c.observe_run.new.observer in
    let ended = machine_of c.observe_run.new.state in
    let past = past_of teller.observer in
    let answer = run sys choices steps word in
    let last = last_state sys choices steps word in
    let ran = c.in_ok-end.ensures in
    let begun = c.in_ok-observer.observer in
    let items = c.new-events.result.items in
    let whole = run_told r discipline choices steps word l begun items (machine_of c.in_ok-state.state) (telling_of teller.observer teller.events.items, lines_of teller.events.items) c.new-events.ensures.items c.in_ok-state.ensures.opening c.in_ok-observer.ensures (ran.seen (telling_of begun items, lines_of items) refl) in
    let waits = c.in_ok-waits.ensures ∙ ap (λ (m : Machine). waits_in r m past.calls) ran.stop ∙ ap (λ (t : Telling). waits_in r last t.past.calls) whole.told in
    record {
      lines = whole.lines;
      told = ap (λ (t : Telling). t.events) whole.told;
      choice = ap (λ (t : Telling). t.past.choice) whole.told;
      changes = c.in_ok-last_changes.ensures
          ∙ ap (λ (cells : List ℤ). changes_in l cells c.deref-5.result.now) c.deref-4.ensures.value
          ∙ ap (changes_in l past.cells) c.deref-5.ensures.value
          ∙ ap (λ (m : Machine). changes_in l past.cells m.permanents) ran.stop
          ∙ ap (λ (t : Telling). changes_in l t.past.cells last.permanents) whole.told;
      waits = waits;
      answer = ran.answer;
      stop = c.in_ok-stop.ensures
          ∙ ap (halted_at l (answer_of c.in_ok-end.end) past.last) (ap (map wait_of) c.deref.ensures.value ∙ c.in_ok-waits.ensures)
          ∙ ap (λ (a : Answer). halted_at l a past.last (waits_in r ended past.calls)) ran.answer
          ∙ ap (λ (m : Machine). halted_at l answer past.last (waits_in r m past.calls)) ran.stop
          ∙ ap (λ (t : Telling). halted_at l answer t.past.last (waits_in r last t.past.calls)) whole.told;
      cause = c.cause_of_end-cause.ensures ∙ ap (cause_of_end r ended) ran.answer ∙ ap (λ (m : Machine). cause_of_end r m answer) ran.stop;
      violation = c.in_ok-violation.ensures ∙ ap (violation_of_end l r ended) ran.answer ∙ ap (λ (m : Machine). violation_of_end l r m answer) ran.stop;
      reasons = c.in_ok-reasons.ensures ∙ reasons_same l r ran.stop ran.answer (ap (map told_of) c.deref-2.ensures.value ∙ ap (λ (t : Telling). t.events) whole.told) (ap (map wait_of) c.deref-3.ensures.value ∙ waits);
      left = c.count_left-left.ensures ∙ ap (λ (a : Answer). numbers_left word a) ran.answer;
      signals = refl;
      ticks = ran.ticks;
    }
