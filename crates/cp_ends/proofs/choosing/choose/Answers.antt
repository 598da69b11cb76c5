use Rattle.cp_ends.proofs.Vocabulary.{◌∙◌, [], refl, ap, subst, sym, List, Bool, Machine, Moment, Shown, machine_of, slots, silent_slots, without_output, same_key, goal_at}
use Rattle.std.specs.Prelude.{◌∷◌}
use Rattle.cp_run.specs.Fold.{fold_chosen, walked_chosen}
use Rattle.cp_ends.specs.Arrivals.{next_arrival, teller}
use Rattle.cp_ends.specs.Legs.{ComesTo, Leg, with_round}
use Rattle.cp_ends.proofs.GoingOn.{ok_to}
use Rattle.cp_ends.proofs.Halting.{choice_comes, comes_to, shows}
use Rattle.cp_ends.proofs.Legs.{choice_sets_out, sees_choice}
use Rattle.cp_ends.proofs.Ruled.{chosen_ruled, still_ruled}
use Rattle.cp_ends.proofs.choosing.choose.Goals as goal

-- what is told and seen
abbrev Told : Type 0
Told = (List Shown × Bool) × (List Machine × List (Moment Machine))

pub arrive-requires-clause-quiet : goal.arrive-requires-clause-quiet
arrive-requires-clause-quiet g c =
    let r = c.args.job.now.program.now in
    let discipline = c.args.job.now.limits.discipline in
    let sys = slots r discipline in
    let quiet = silent_slots r discipline in
    let steps = c.args.job.now.limits.steps in
    let s = machine_of c.args.state.now in
    let p = c.args.process in
    let before : Told = ((c.args.told.now.values.items, c.args.told.now.is_called), (s ∷ [], [])) in
    let now = c.in_ok-turn.ensures.seen before (refl, refl, c.requires.quiet, c.due-told.ensures r discipline s (c.look.ensures r s (c.requires.own, refl))) in
    now.2

pub returns-clause-goal : goal.returns-clause-goal
returns-clause-goal g c =
    let r = c.args.job.now.program.now in
    let discipline = c.args.job.now.limits.discipline in
    let sys = slots r discipline in
    let quiet = silent_slots r discipline in
    let steps = c.args.job.now.limits.steps in
    let s = machine_of c.args.state.now in
    let p = c.args.process in
    let before : Told = ((c.args.told.now.values.items, c.args.told.now.is_called), (s ∷ [], [])) in
    let now = c.in_ok-turn.ensures.seen before (refl, refl, c.requires.quiet, c.due-told.ensures r discipline s (c.look.ensures r s (c.requires.own, refl))) in
    let told = now.0 ∙ ap (λ (y : Told). y.0.0) (sees_choice quiet (teller sys) steps s p before) in
    ok_to c.arrive.result _ _ c.arrive.ensures.comes (λ h cut.
    comes_to sys quiet same_key steps (next_arrival sys without_output same_key steps s p) (fold_chosen quiet (teller sys) steps s p) (walked_chosen quiet steps s p) (machine_of c.observe_choice.new.state) c.in_ok-turn.turn c.in_ok-turn.ensures.walked (choice_comes sys without_output same_key steps s p)
    before.0 c.observe_choice.new.observer.values.items c.arrive.new.told.values.items (goal_at h (machine_of c.arrive.new.state)) told cut)

pub returns-clause-shown : goal.returns-clause-shown
returns-clause-shown g c =
    let r = c.args.job.now.program.now in
    let discipline = c.args.job.now.limits.discipline in
    let sys = slots r discipline in
    let quiet = silent_slots r discipline in
    let steps = c.args.job.now.limits.steps in
    let s = machine_of c.args.state.now in
    let p = c.args.process in
    let before : Told = ((c.args.told.now.values.items, c.args.told.now.is_called), (s ∷ [], [])) in
    let now = c.in_ok-turn.ensures.seen before (refl, refl, c.requires.quiet, c.due-told.ensures r discipline s (c.look.ensures r s (c.requires.own, refl))) in
    let told = now.0 ∙ ap (λ (y : Told). y.0.0) (sees_choice quiet (teller sys) steps s p before) in
    ok_to c.arrive.result _ _ c.arrive.ensures.comes (λ h cut.
    shows sys quiet same_key steps (next_arrival sys without_output same_key steps s p) (fold_chosen quiet (teller sys) steps s p) (walked_chosen quiet steps s p) (machine_of c.observe_choice.new.state) c.in_ok-turn.turn c.in_ok-turn.ensures.walked (choice_comes sys without_output same_key steps s p)
    before.0 c.observe_choice.new.observer.values.items c.arrive.new.told.values.items (goal_at h (machine_of c.arrive.new.state)) told cut)

pub returns-clause-leg : goal.returns-clause-leg
returns-clause-leg g c =
    let r = c.args.job.now.program.now in
    let discipline = c.args.job.now.limits.discipline in
    let sys = slots r discipline in
    let quiet = silent_slots r discipline in
    let steps = c.args.job.now.limits.steps in
    let s = machine_of c.args.state.now in
    let p = c.args.process in
    let before : Told = ((c.args.told.now.values.items, c.args.told.now.is_called), (s ∷ [], [])) in
    let now = c.in_ok-turn.ensures.seen before (refl, refl, c.requires.quiet, c.due-told.ensures r discipline s (c.look.ensures r s (c.requires.own, refl))) in
    let observer = c.observe_choice.new.observer in
    let seen = subst (λ (y : Told). g.P.Sight.sees observer.seen r discipline y.1.0 y.1.1) (sees_choice quiet (teller sys) steps s p before) now.3 in
    let out = choice_sets_out quiet steps s p in
    ok_to c.arrive.result _ _ c.arrive.ensures.leg (λ h comes.
    subst (λ (leg : Leg Machine). ComesTo quiet (λ w. g.P.Sight.sees w r discipline) steps leg (s ∷ []) c.arrive.new.told.seen (with_round c.arrive.new.told.again h) (machine_of c.arrive.new.state)) (sym out.2)
    (comes out.0 out.1 (s ∷ []) (sym out.3 ∙ c.in_ok-turn.ensures.walked) (subst (λ (leg : Leg Machine). g.P.Sight.sees observer.seen r discipline (s ∷ []) (leg.moments steps)) out.2 seen)))

pub returns-clause-ruled : goal.returns-clause-ruled
returns-clause-ruled g c =
    let r = c.args.job.now.program.now in
    let discipline = c.args.job.now.limits.discipline in
    let steps = c.args.job.now.limits.steps in
    let s = machine_of c.args.state.now in
    ok_to c.arrive.result _ _ c.arrive.ensures.still (λ h still due. still_ruled s.discipline (machine_of c.arrive.new.state) (machine_of c.observe_choice.new.state) (walked_chosen (silent_slots r discipline) steps s c.args.process) c.in_ok-turn.turn (still due) c.in_ok-turn.ensures.walked (chosen_ruled r discipline steps s c.args.process))
