use Rattle.cp_ends.proofs.Vocabulary.{◌∙◌, [], refl, ap, subst, sym, List, Bool, Machine, Moment, Shown, machine_of, output_of, slots, silent_slots, without_output, same_key, goal_at}
use Rattle.cp_run.specs.Fold.{fold_opened, walked_opened}
use Rattle.cp_ends.specs.Arrivals.{first_arrival, teller}
use Rattle.cp_ends.specs.Legs.{ComesTo, Leg, with_round}
use Rattle.cp_ends.proofs.GoingOn.{ok_to}
use Rattle.cp_ends.proofs.Halting.{opening_comes, comes_to, shows}
use Rattle.cp_ends.proofs.Legs.{first_sets_out, sees_opening}
use Rattle.cp_ends.proofs.Ruled.{opened_ruled, still_ruled}
use Rattle.cp_ends.proofs.choosing.open.Goals as goal

-- what is told and seen
abbrev Told : Type 0
Told = (List Shown × Bool) × (List Machine × List (Moment Machine))

pub arrive-requires-clause-quiet : goal.arrive-requires-clause-quiet
arrive-requires-clause-quiet g c =
    let r = c.args.job.now.program.now in
    let discipline = c.args.job.now.limits.discipline in
    let sys = slots r discipline in
    let quiet = silent_slots r discipline in
    let steps = c.args.job.now.limits.steps in
    let before : Told = ((c.args.told.now.values.items, c.args.told.now.is_called), ([], [])) in
    let now = c.in_ok-turn.ensures.seen before (refl, refl, ap output_of c.requires.start, c.begin-told.ensures discipline) in
    now.2

pub returns-clause-goal : goal.returns-clause-goal
returns-clause-goal g c =
    let r = c.args.job.now.program.now in
    let discipline = c.args.job.now.limits.discipline in
    let sys = slots r discipline in
    let quiet = silent_slots r discipline in
    let steps = c.args.job.now.limits.steps in
    let before : Told = ((c.args.told.now.values.items, c.args.told.now.is_called), ([], [])) in
    let now = c.in_ok-turn.ensures.seen before (refl, refl, ap output_of c.requires.start, c.begin-told.ensures discipline) in
    let told = now.0 ∙ ap (λ (y : Told). y.0.0) (sees_opening quiet (teller sys) steps before) in
    ok_to c.arrive.result _ _ c.arrive.ensures.comes (λ h cut.
    comes_to sys quiet same_key steps (first_arrival sys without_output same_key steps) (fold_opened quiet (teller sys) steps) (walked_opened quiet steps) (machine_of c.observe_opening.new.state) c.in_ok-turn.turn c.in_ok-turn.ensures.walked (opening_comes sys without_output same_key steps)
    before.0 c.observe_opening.new.observer.values.items c.arrive.new.told.values.items (goal_at h (machine_of c.arrive.new.state)) told cut)

pub returns-clause-shown : goal.returns-clause-shown
returns-clause-shown g c =
    let r = c.args.job.now.program.now in
    let discipline = c.args.job.now.limits.discipline in
    let sys = slots r discipline in
    let quiet = silent_slots r discipline in
    let steps = c.args.job.now.limits.steps in
    let before : Told = ((c.args.told.now.values.items, c.args.told.now.is_called), ([], [])) in
    let now = c.in_ok-turn.ensures.seen before (refl, refl, ap output_of c.requires.start, c.begin-told.ensures discipline) in
    let told = now.0 ∙ ap (λ (y : Told). y.0.0) (sees_opening quiet (teller sys) steps before) in
    ok_to c.arrive.result _ _ c.arrive.ensures.comes (λ h cut.
    shows sys quiet same_key steps (first_arrival sys without_output same_key steps) (fold_opened quiet (teller sys) steps) (walked_opened quiet steps) (machine_of c.observe_opening.new.state) c.in_ok-turn.turn c.in_ok-turn.ensures.walked (opening_comes sys without_output same_key steps)
    before.0 c.observe_opening.new.observer.values.items c.arrive.new.told.values.items (goal_at h (machine_of c.arrive.new.state)) told cut)

pub returns-clause-leg : goal.returns-clause-leg
returns-clause-leg g c =
    let r = c.args.job.now.program.now in
    let discipline = c.args.job.now.limits.discipline in
    let sys = slots r discipline in
    let quiet = silent_slots r discipline in
    let steps = c.args.job.now.limits.steps in
    let before : Told = ((c.args.told.now.values.items, c.args.told.now.is_called), ([], [])) in
    let now = c.in_ok-turn.ensures.seen before (refl, refl, ap output_of c.requires.start, c.begin-told.ensures discipline) in
    let observer = c.observe_opening.new.observer in
    let seen = subst (λ (y : Told). g.P.Sight.sees observer.seen r discipline y.1.0 y.1.1) (sees_opening quiet (teller sys) steps before) now.3 in
    let out = first_sets_out quiet steps in
    ok_to c.arrive.result _ _ c.arrive.ensures.leg (λ h comes.
    subst (λ (leg : Leg Machine). ComesTo quiet (λ w. g.P.Sight.sees w r discipline) steps leg ([]) c.arrive.new.told.seen (with_round c.arrive.new.told.again h) (machine_of c.arrive.new.state)) (sym out.2)
    (comes out.0 out.1 ([]) (sym out.3 ∙ c.in_ok-turn.ensures.walked) (subst (λ (leg : Leg Machine). g.P.Sight.sees observer.seen r discipline ([]) (leg.moments steps)) out.2 seen)))

pub returns-clause-ruled : goal.returns-clause-ruled
returns-clause-ruled g c =
    let r = c.args.job.now.program.now in
    let discipline = c.args.job.now.limits.discipline in
    let steps = c.args.job.now.limits.steps in
    ok_to c.arrive.result _ _ c.arrive.ensures.still (λ h still due. still_ruled discipline (machine_of c.arrive.new.state) (machine_of c.observe_opening.new.state) (walked_opened (silent_slots r discipline) steps) c.in_ok-turn.turn (still due) c.in_ok-turn.ensures.walked (opened_ruled r discipline steps))
