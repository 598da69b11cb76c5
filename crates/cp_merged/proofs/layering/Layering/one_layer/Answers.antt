use Rattle.std.proofs.Common.{◌<◌, ◌≤◌, ◌+◌, ◌∙◌, length, sym, subst, arith}
use Rattle.cp_merged.proofs.Words.{slots, same_outcome, front_at, same_key, AreLeads, Holds, IsStates, Reached, IsDueFault, HasTooManyStates, rows_of}
use Rattle.cp_merged.specs.declared.layer.StateLayer.{StateLayer}
use Rattle.cp_merged.proofs.Exploring.{holds_taken, reached_next, outcomes_fault, layer_fault, err_on, ok_both}
use Rattle.cp_merged.proofs.layering.Layering.one_layer.Goals as goal

pub returns-then-len-gt-MOST_OUTCOMES-clause-fault : goal.returns-then-len-gt-MOST_OUTCOMES-clause-fault
returns-then-len-gt-MOST_OUTCOMES-clause-fault g c =
    let l = c.args.job.now.run.limits in
    let self = c.args.self.now in
    let many : 50000 < length self.frontier.ended.entries = omega arith in
    let due = c.requires.due in
    let le : c.args.depth ≤ l.choices = omega (arith, due) in
    outcomes_fault c.args.job.now.run.program.now l.discipline l.choices l.steps c.args.job.now.most c.args.depth self.known self.frontier.ended.entries (rows_of self.frontier.layer) le many c.requires.reached

pub next_layer-requires-clause-on : goal.next_layer-requires-clause-on
next_layer-requires-clause-on g c = record { known_is = c.requires.on.known_is; ruled = c.requires.on.ruled; long = c.requires.on.long; width_is = c.take_layer-layer.ensures.width ∙ c.requires.on.width_is }

pub next_layer-requires-clause-layer : goal.next_layer-requires-clause-layer
next_layer-requires-clause-layer g c =
    let l = c.args.job.now.run.limits in
    subst (λ (layer : StateLayer). AreLeads c.args.job.now.run.program.now c.args.self.now.known (rows_of layer) (front_at (slots c.args.job.now.run.program.now l.discipline) same_outcome same_key l.steps c.args.depth).layer) (sym c.take_layer-layer.ensures.layer) c.requires.reached.holds.layer

pub next_layer-requires-clause-front : goal.next_layer-requires-clause-front
next_layer-requires-clause-front g c =
    let l = c.args.job.now.run.limits in
    let self = c.args.self.now in
    let old = self.frontier in
    let new = c.take_layer-layer.new.self in
    holds_taken c.args.job.now.run.program.now l.discipline l.choices l.steps c.args.job.now.most c.args.depth self.known self.known old.ended.entries new.ended.entries (rows_of old.layer) (rows_of new.layer) c.take_layer-layer.ensures.ended c.take_layer-layer.ensures.empty c.requires.reached.holds

pub returns-clause-reached : goal.returns-clause-reached
returns-clause-reached g c =
    let l = c.args.job.now.run.limits in
    let r = c.args.job.now.run.program.now in
    let old = c.args.self.now in
    let new = c.next_layer.new.self in
    let few : length old.frontier.ended.entries ≤ 50000 = omega arith in
    ok_both c.next_layer.result (length (rows_of new.frontier.layer) ≤ c.args.job.now.most) (Holds r new.known new.frontier.ended.entries (rows_of new.frontier.layer) (front_at (slots r l.discipline) same_outcome same_key l.steps (c.args.depth + 1)))
    (Reached r l.discipline l.choices l.steps c.args.job.now.most (c.args.depth + 1) new.known new.frontier.ended.entries (rows_of new.frontier.layer))
    c.next_layer.ensures.few c.next_layer.ensures.front
    (reached_next r l.discipline l.choices l.steps c.args.job.now.most c.args.depth old.known new.known old.frontier.ended.entries new.frontier.ended.entries (rows_of old.frontier.layer) (rows_of new.frontier.layer) c.requires.due few c.requires.reached)

pub returns-clause-fault : goal.returns-clause-fault
returns-clause-fault g c =
    let l = c.args.job.now.run.limits in
    let r = c.args.job.now.run.program.now in
    let self = c.args.self.now in
    let few : length self.frontier.ended.entries ≤ 50000 = omega arith in
    err_on c.next_layer.result (λ e. IsStates e (HasTooManyStates (slots r l.discipline) l.steps c.args.job.now.most (c.args.depth + 1))) (λ e. IsDueFault (slots r l.discipline) l.choices l.steps c.args.job.now.most e) c.next_layer.ensures.many
    (layer_fault r l.discipline l.choices l.steps c.args.job.now.most c.args.depth self.known self.frontier.ended.entries (rows_of self.frontier.layer) c.requires.due few c.requires.reached)
