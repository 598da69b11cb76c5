use Rattle.std.proofs.Common.{◌+◌, ◌<◌, drop, length, subst, arith}
use Rattle.std.specs.Prelude.{[]}
use Rattle.cp_merged.proofs.Words.{rows_of}
use Rattle.cp_merged.proofs.Making.{Making, leads_length, making_start, making_next, making_more, making_done, making_many, making_room, making_small}
use Rattle.cp_merged.proofs.Rowing.{left_from, rows_end, rows_length}
use Rattle.cp_merged.proofs.layering.Layering.next_layer.Goals as goal

pub loop-number-init : goal.loop-number-init
loop-number-init g c =
    let r = c.args.job.now.run.program.now in
    let l = c.args.job.now.run.limits in
    let self = c.args.self.now in
    let due = c.requires.due in
    let none = leads_length r self.known (rows_of self.frontier.layer) [] c.requires.front.layer in
    record {
      on = c.requires.on;
      few = omega (arith, none);
      making = making_start r l.discipline l.steps c.args.depth self.known self.frontier.ended.entries (rows_of self.frontier.layer) (rows_of c.args.layer.now) c.requires.on.known_is.cached.sound.few (omega (arith, due, l.few_choices)) c.requires.layer c.requires.front;
    }

pub index-prefixes-requires : goal.index-prefixes-requires
index-prefixes-requires g c = let layer = c.args.layer.now in omega (arith, rows_length layer.width layer.numbers.items layer.leads.items)

pub row-row-requires : goal.row-row-requires
row-row-requires g c = let layer = c.args.layer.now in omega (arith, rows_length layer.width layer.numbers.items layer.leads.items)

pub take_choices-requires-clause-on : goal.take_choices-requires-clause-on
take_choices-requires-clause-on g c = c.loop-number.invariant.on

pub take_choices-requires-clause-here : goal.take_choices-requires-clause-here
take_choices-requires-clause-here g c =
    let r = c.args.job.now.run.program.now in
    let l = c.args.job.now.run.limits in
    let old = c.loop-number.self in
    let layer = c.args.layer.now in
    let at = left_from layer c.loop-number.number c.row-row.result.now c.index-prefixes.result.now (omega (arith, rows_length layer.width layer.numbers.items layer.leads.items)) c.row-row.ensures c.index-prefixes.ensures in
    let m = subst (Making r l.discipline l.steps c.args.depth old.known old.frontier.ended.entries (rows_of old.frontier.layer)) at c.loop-number.invariant.making in
    let n = making_next r l.discipline l.steps c.args.depth old.known old.frontier.ended.entries (rows_of old.frontier.layer) (drop (c.loop-number.number + 1) (rows_of layer)) (c.row-row.result.now, c.index-prefixes.result.now) m in
    (n.lead.state, n.row, n.own)

pub take_choices-requires-clause-room : goal.take_choices-requires-clause-room
take_choices-requires-clause-room g c =
    let r = c.args.job.now.run.program.now in
    let l = c.args.job.now.run.limits in
    let old = c.loop-number.self in
    let layer = c.args.layer.now in
    let at = left_from layer c.loop-number.number c.row-row.result.now c.index-prefixes.result.now (omega (arith, rows_length layer.width layer.numbers.items layer.leads.items)) c.row-row.ensures c.index-prefixes.ensures in
    let m = subst (Making r l.discipline l.steps c.args.depth old.known old.frontier.ended.entries (rows_of old.frontier.layer)) at c.loop-number.invariant.making in
    let due = c.requires.due in
    making_room r l.discipline l.steps c.args.depth old.known old.frontier.ended.entries (rows_of old.frontier.layer) (drop (c.loop-number.number + 1) (rows_of layer)) (c.row-row.result.now, c.index-prefixes.result.now) (omega (arith, due, l.few_choices)) m

pub take_choices-requires-clause-small : goal.take_choices-requires-clause-small
take_choices-requires-clause-small g c =
    let r = c.args.job.now.run.program.now in
    let l = c.args.job.now.run.limits in
    let old = c.loop-number.self in
    let layer = c.args.layer.now in
    let at = left_from layer c.loop-number.number c.row-row.result.now c.index-prefixes.result.now (omega (arith, rows_length layer.width layer.numbers.items layer.leads.items)) c.row-row.ensures c.index-prefixes.ensures in
    let m = subst (Making r l.discipline l.steps c.args.depth old.known old.frontier.ended.entries (rows_of old.frontier.layer)) at c.loop-number.invariant.making in
    making_small r l.discipline l.steps c.args.depth old.known old.frontier.ended.entries (rows_of old.frontier.layer) (drop (c.loop-number.number + 1) (rows_of layer)) (c.row-row.result.now, c.index-prefixes.result.now) m

pub returns-then-len-job-clause-many : goal.returns-then-len-job-clause-many
returns-then-len-job-clause-many g c =
    let r = c.args.job.now.run.program.now in
    let l = c.args.job.now.run.limits in
    let old = c.loop-number.self in
    let new = c.take_choices.new.self in
    let layer = c.args.layer.now in
    let rest = drop (c.loop-number.number + 1) (rows_of layer) in
    let at = left_from layer c.loop-number.number c.row-row.result.now c.index-prefixes.result.now (omega (arith, rows_length layer.width layer.numbers.items layer.leads.items)) c.row-row.ensures c.index-prefixes.ensures in
    let m = subst (Making r l.discipline l.steps c.args.depth old.known old.frontier.ended.entries (rows_of old.frontier.layer)) at c.loop-number.invariant.making in
    let n = making_next r l.discipline l.steps c.args.depth old.known old.frontier.ended.entries (rows_of old.frontier.layer) rest (c.row-row.result.now, c.index-prefixes.result.now) m in
    let made = making_more r l.discipline l.steps c.args.depth old.known new.known old.frontier.ended.entries new.frontier.ended.entries (rows_of old.frontier.layer) (rows_of new.frontier.layer) rest (c.row-row.result.now, c.index-prefixes.result.now) m c.requires.on.known_is.cached.sound.few c.in-Ok.ensures.kept (λ f h. c.in-Ok.ensures.front n.lead.state f n.row n.own h) in
    let many : c.args.job.now.most < length (rows_of new.frontier.layer) = omega arith in
    making_many r l.discipline l.steps c.args.depth c.args.job.now.most new.known new.frontier.ended.entries (rows_of new.frontier.layer) rest many made

pub loop-number-preserved : goal.loop-number-preserved
loop-number-preserved g c =
    let r = c.args.job.now.run.program.now in
    let l = c.args.job.now.run.limits in
    let old = c.loop-number.self in
    let new = c.take_choices.new.self in
    let layer = c.args.layer.now in
    let rest = drop (c.loop-number.number + 1) (rows_of layer) in
    let at = left_from layer c.loop-number.number c.row-row.result.now c.index-prefixes.result.now (omega (arith, rows_length layer.width layer.numbers.items layer.leads.items)) c.row-row.ensures c.index-prefixes.ensures in
    let m = subst (Making r l.discipline l.steps c.args.depth old.known old.frontier.ended.entries (rows_of old.frontier.layer)) at c.loop-number.invariant.making in
    let n = making_next r l.discipline l.steps c.args.depth old.known old.frontier.ended.entries (rows_of old.frontier.layer) rest (c.row-row.result.now, c.index-prefixes.result.now) m in
    record {
      on = c.in-Ok.ensures.on;
      few = omega arith;
      making = making_more r l.discipline l.steps c.args.depth old.known new.known old.frontier.ended.entries new.frontier.ended.entries (rows_of old.frontier.layer) (rows_of new.frontier.layer) rest (c.row-row.result.now, c.index-prefixes.result.now) m c.requires.on.known_is.cached.sound.few c.in-Ok.ensures.kept (λ f h. c.in-Ok.ensures.front n.lead.state f n.row n.own h);
    }

pub returns-clause-front : goal.returns-clause-front
returns-clause-front g c =
    let r = c.args.job.now.run.program.now in
    let l = c.args.job.now.run.limits in
    let self = c.loop-number.self in
    let layer = c.args.layer.now in
    let none = rows_end layer.width layer.numbers.items layer.leads.items c.loop-number.number (omega (arith, rows_length layer.width layer.numbers.items layer.leads.items)) in
    making_done r l.discipline l.steps c.args.depth self.known self.frontier.ended.entries (rows_of self.frontier.layer) (subst (Making r l.discipline l.steps c.args.depth self.known self.frontier.ended.entries (rows_of self.frontier.layer)) none c.loop-number.invariant.making)
