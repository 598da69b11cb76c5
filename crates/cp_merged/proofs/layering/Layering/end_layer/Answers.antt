use Rattle.std.proofs.Common.{refl, ◌∙◌, ◌++◌, ◌+◌, drop, append-nil, subst, arith}
use Rattle.std.specs.Prelude.{[]}
use Rattle.cp_merged.proofs.Words.{rows_of}
use Rattle.cp_merged.proofs.Making.{Ending, ending_start, ending_next, ending_more, ending_done, ending_small}
use Rattle.cp_merged.proofs.Rowing.{left_from, rows_end, rows_length}
use Rattle.cp_merged.proofs.layering.Layering.end_layer.Goals as goal

pub loop-number-init : goal.loop-number-init
loop-number-init g c =
    let r = c.args.job.now.run.program.now in
    let l = c.args.job.now.run.limits in
    let self = c.args.self.now in
    record {
      known = refl;
      ending = ending_start r l.discipline l.steps l.choices self.known self.frontier.ended.entries (rows_of c.args.layer.now) c.requires.on.known_is.cached.sound.few l.few_choices c.requires.layer c.requires.ended;
    }

pub index-prefixes-requires : goal.index-prefixes-requires
index-prefixes-requires g c = let layer = c.args.layer.now in omega (arith, rows_length layer.width layer.numbers.items layer.leads.items)

pub row-requires : goal.row-requires
row-requires g c = let layer = c.args.layer.now in omega (arith, rows_length layer.width layer.numbers.items layer.leads.items)

pub output-shown-requires : goal.output-shown-requires
output-shown-requires g c =
    let r = c.args.job.now.run.program.now in
    let l = c.args.job.now.run.limits in
    let old = c.loop-number.self in
    let layer = c.args.layer.now in
    let at = left_from layer c.loop-number.number c.row.result.now c.index-prefixes.result.now (omega (arith, rows_length layer.width layer.numbers.items layer.leads.items)) c.row.ensures c.index-prefixes.ensures in
    let m = subst (Ending r l.discipline l.steps l.choices old.known old.frontier.ended.entries) at c.loop-number.invariant.ending in
    let n = ending_next r l.discipline l.steps l.choices old.known old.frontier.ended.entries (drop (c.loop-number.number + 1) (rows_of layer)) (c.row.result.now, c.index-prefixes.result.now) m in
    (n.lead.state.output, n.row.output)

pub end-requires : goal.end-requires
end-requires g c =
    let r = c.args.job.now.run.program.now in
    let l = c.args.job.now.run.limits in
    let old = c.loop-number.self in
    let layer = c.args.layer.now in
    let at = left_from layer c.loop-number.number c.row.result.now c.index-prefixes.result.now (omega (arith, rows_length layer.width layer.numbers.items layer.leads.items)) c.row.ensures c.index-prefixes.ensures in
    let m = subst (Ending r l.discipline l.steps l.choices old.known old.frontier.ended.entries) at c.loop-number.invariant.ending in
    ending_small r l.discipline l.steps l.choices old.known old.frontier.ended.entries (drop (c.loop-number.number + 1) (rows_of layer)) (c.row.result.now, c.index-prefixes.result.now) m

pub loop-number-preserved : goal.loop-number-preserved
loop-number-preserved g c =
    let r = c.args.job.now.run.program.now in
    let l = c.args.job.now.run.limits in
    let old = c.loop-number.self in
    let new = c.end.new.self in
    let layer = c.args.layer.now in
    let rest = drop (c.loop-number.number + 1) (rows_of layer) in
    let at = left_from layer c.loop-number.number c.row.result.now c.index-prefixes.result.now (omega (arith, rows_length layer.width layer.numbers.items layer.leads.items)) c.row.ensures c.index-prefixes.ensures in
    let m = subst (Ending r l.discipline l.steps l.choices old.known old.frontier.ended.entries) at c.loop-number.invariant.ending in
    let n = ending_next r l.discipline l.steps l.choices old.known old.frontier.ended.entries rest (c.row.result.now, c.index-prefixes.result.now) m in
    record {
      known = c.loop-number.invariant.known;
      ending = ending_more r l.discipline l.steps l.choices old.known old.frontier.ended.entries new.ended.entries rest (c.row.result.now, c.index-prefixes.result.now) m (c.output-shown.result.now ++ []) (append-nil c.output-shown.result.now ∙ c.output-shown.ensures n.lead.state.output n.row.output) (λ ts h. c.in_ok-end.ensures.ended ts h);
    }

pub returns : goal.returns
returns g c =
    let r = c.args.job.now.run.program.now in
    let l = c.args.job.now.run.limits in
    let self = c.loop-number.self in
    let layer = c.args.layer.now in
    let none = rows_end layer.width layer.numbers.items layer.leads.items c.loop-number.number (omega (arith, rows_length layer.width layer.numbers.items layer.leads.items)) in
    ending_done r l.discipline l.steps l.choices self.known self.frontier.ended.entries (subst (Ending r l.discipline l.steps l.choices self.known self.frontier.ended.entries) none c.loop-number.invariant.ending)
