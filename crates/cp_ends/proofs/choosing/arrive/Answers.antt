use Rattle.cp_ends.proofs.Vocabulary.{◌∙◌, ap, machine_of, silent_slots, Turn}
use Rattle.cp_ends.proofs.Legs.{comes_to_choice, comes_to_end, leg_cut}
use Rattle.cp_ends.proofs.choosing.arrive.Goals as goal

pub returns-in-Over-clause-leg : goal.returns-in-Over-clause-leg
returns-in-Over-clause-leg g c = λ s first due there seen.
    (let r = c.args.job.now.program.now in
    let discipline = c.args.job.now.limits.discipline in
    let m = machine_of c.args.state.now in
    comes_to_end (silent_slots r discipline) (λ w. g.P.Sight.sees w r discipline) c.args.job.now.limits.steps due c.args.told.now.seen s m first c.in-Over.kind (there ∙ ap (λ (t : Turn). (m, t)) c.in-Over.is) seen)

pub returns-in-Due-clause-leg : goal.returns-in-Due-clause-leg
returns-in-Due-clause-leg g c = λ s first due there seen.
    (let r = c.args.job.now.program.now in
    let discipline = c.args.job.now.limits.discipline in
    let m = machine_of c.args.state.now in
    comes_to_choice (silent_slots r discipline) (λ w. g.P.Sight.sees w r discipline) c.args.job.now.limits.steps due c.args.told.now.seen s m first (there ∙ ap (λ (t : Turn). (m, t)) c.in-Due.is) seen)

pub returns-in_ok-end-in-Goes-clause-leg : goal.returns-in_ok-end-in-Goes-clause-leg
returns-in_ok-end-in-Goes-clause-leg g c = λ s first due there seen.
    (let r = c.args.job.now.program.now in
    let discipline = c.args.job.now.limits.discipline in
    let m = machine_of c.args.state.now in
    let told = c.end_of_cut.new.told in
    leg_cut r discipline (λ w. g.P.Sight.sees w r discipline) c.args.job.now.limits.steps due c.args.told.now.seen told.seen told.again s m (machine_of c.end_of_cut.new.state) first c.in-Goes.pid (there ∙ ap (λ (t : Turn). (m, t)) c.in-Goes.is) seen c.in_ok-end-in-Goes.ensures.seen)
