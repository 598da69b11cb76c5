use Rattle.std.proofs.Common.{◌∙◌, List, ℤ, ap, map, option_map, sym}
use Rattle.std.specs.declared.alloc.Global.{Global}
use Rattle.std.specs.declared.vec.Vec.{Vec}
use Rattle.cp_machine.specs.declared.process.Status.{Status}
use Rattle.cp_machine.specs.Machine.{machine_of}
use Rattle.cp_legend.specs.Names.{legend_seen}
use Rattle.cp_story.specs.Changes.{changes_in}
use Rattle.cp_story.specs.declared.event.Returned.{Returned}
use Rattle.cp_story.specs.Story.{Past, is_gated, resumed_processes}
use Rattle.cp_story.specs.Views.{decision_of, given_of, past_of}
use Rattle.cp_story.proofs.Telling.{told_as}
use Rattle.cp_story.proofs.observer.Observer.observe.Goals as goal

pub returns-clause-told : goal.returns-clause-told
returns-clause-told c =
    let p = c.args.plain.process in
    let m = machine_of c.args.state.now in
    let choice = ap (option_map decision_of) c.take-choice.ensures.value ∙ ap (λ (past : Past). past.choice) c.in_ok-happening.ensures.calls in
    let returned = ap (λ (v : Vec Returned Global). map given_of v.items) c.replace-returned.ensures.value ∙ ap (λ (past : Past). past.returned) c.in_ok-happening.ensures.calls in
    let let_in = c.processes_let_in-let_in.ensures ∙ ap (λ (before : List Status). resumed_processes is_gated before m p) c.deref-3.ensures.value in
    let legend = legend_seen c.args.self.now.legend.now in
    let changes = c.in_ok-changes.ensures ∙ ap (λ (before : List ℤ). changes_in legend before c.deref-2.result.now) c.deref.ensures.value ∙ ap (λ (now : List ℤ). changes_in legend c.args.self.now.permanents.items now) c.deref-2.ensures.value in
    sym (told_as c.args.plain.holders c.args.plain.event p c.args.aim m (past_of c.args.self.now) _ _ _ _ _ _ _ _ c.in_ok-happening.ensures.happened c.line_of-line.ensures returned choice c.listed-woken.ensures let_in c.in_ok-statuses_of.ensures changes)
