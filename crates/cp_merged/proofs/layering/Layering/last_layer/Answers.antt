use Rattle.cp_merged.proofs.Words.{◌∙◌, ◌<◌, ◌≤◌, length, refl, sym, subst, arith, slots, same_outcome, front_at, same_key, AreLeads, AreEnds, rows_of}
use Rattle.cp_merged.specs.declared.layer.StateLayer.{StateLayer}
use Rattle.cp_merged.proofs.Exploring.{last_fault, all_fits}
use Rattle.cp_merged.proofs.layering.Layering.last_layer.Goals as goal

pub end_layer-requires-clause-on : goal.end_layer-requires-clause-on
end_layer-requires-clause-on g c = record { known_is = c.requires.on.known_is; ruled = c.requires.on.ruled; long = c.requires.on.long; width_is = c.take_layer-layer.ensures.width ∙ c.requires.on.width_is }

pub end_layer-requires-clause-layer : goal.end_layer-requires-clause-layer
end_layer-requires-clause-layer g c =
    let l = c.args.job.now.run.limits in
    let r = c.args.job.now.run.program.now in
    subst (λ (layer : StateLayer). AreLeads r c.args.self.now.known (rows_of layer) (front_at (slots r l.discipline) same_outcome same_key l.steps l.choices).layer) (sym c.take_layer-layer.ensures.layer) c.requires.reached.holds.layer

pub end_layer-requires-clause-ended : goal.end_layer-requires-clause-ended
end_layer-requires-clause-ended g c =
    let l = c.args.job.now.run.limits in
    let r = c.args.job.now.run.program.now in
    subst (λ es. AreEnds es (front_at (slots r l.discipline) same_outcome same_key l.steps l.choices).ended) (sym c.take_layer-layer.ensures.ended) c.requires.reached.holds.ended

pub returns-then-len-gt-MOST_OUTCOMES-clause-fault : goal.returns-then-len-gt-MOST_OUTCOMES-clause-fault
returns-then-len-gt-MOST_OUTCOMES-clause-fault g c =
    let l = c.args.job.now.run.limits in
    let self = c.args.self.now in
    let new = c.end_layer.new.self.frontier in
    let many : 50000 < length new.ended.entries = omega arith in
    last_fault c.args.job.now.run.program.now l.discipline l.choices l.steps c.args.job.now.most l.choices self.known self.frontier.ended.entries new.ended.entries (rows_of self.frontier.layer) refl c.requires.reached many c.in-Ok.ensures

pub returns-clause-within : goal.returns-clause-within
returns-clause-within g c =
    let l = c.args.job.now.run.limits in
    let self = c.args.self.now in
    let new = c.end_layer.new.self.frontier in
    let few : length new.ended.entries ≤ 50000 = omega arith in
    all_fits c.args.job.now.run.program.now l.discipline l.choices l.steps c.args.job.now.most l.choices self.known self.frontier.ended.entries new.ended.entries (rows_of self.frontier.layer) refl c.requires.reached few c.in-Ok.ensures
