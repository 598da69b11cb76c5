use Rattle.std.proofs.Common.{◌∙◌, [], ◌∷◌, ◌++◌, ap, refl, sym}
use Rattle.cp_machine.specs.System.{machine_of}
use Rattle.cp_run.specs.Code.{node_of}
use Rattle.cp_run.specs.Run.{chosen, may}
use Rattle.cp_run.specs.Slots.{slots}
use Rattle.cp_endless_laws.specs.Silent.{silent_slots}
use Rattle.cp_waiting_ends.proofs.Meeting.{met_more, quiet_may}
use Rattle.cp_waiting_ends.proofs.again.take_choice.Goals as goal

pub choose-halt-requires-clause-may : goal.choose-halt-requires-clause-may
choose-halt-requires-clause-may c = ap (λ m. may (slots c.args.job.now.run.program.now c.args.job.now.run.limits.discipline) m c.args.process) c.requires.copied ∙ c.requires.may

pub returns-clause-met : goal.returns-clause-met
returns-clause-met c = λ done met f holds.
    (let run = c.args.job.now.run in
    let r = run.program.now in
    let d = run.limits.discipline in
    let p = c.args.process in
    let at = c.requires.here f holds in
    let y = at.0 in
    let can = sym (quiet_may r d y.0 p) ∙ ap (λ k. may (slots r d) k p) (sym at.2) ∙ c.requires.may in
    let goes = ap (λ k. chosen (silent_slots r d) run.limits.steps k p) (sym (c.requires.copied ∙ at.2)) ∙ c.choose-halt.ensures.node in
    met_more r d run.limits.steps c.args.searched.now.looked f.states c.args.at y done p (node_of c.choose-halt.result (machine_of c.choose-halt.new.state)) c.args.ends.now c.arrive.new.ends at.1 can goes (c.in_ok-arrive.ensures.marks f (y.1 ++ p ∷ []) holds (y, at.1, refl)) (c.in_ok-arrive.ensures.words f (y.1 ++ p ∷ []) holds (y, at.1, refl)) (met f holds))
