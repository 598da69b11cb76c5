use Rattle.cp_run.proofs.Tracing.{counted}
use Rattle.std.specs.Prelude.{true}
use Rattle.cp_walk.proofs.Words.{◌∙◌, ap, sym, arith, subst, ◌<◌, ◌-◌, length, map, machine_of, node_of, slots, table, walk, line_of, IsTooMany, beginnings}
use Rattle.cp_walk.proofs.Words.{words_in}
use Rattle.cp_walk.proofs.Counted.{rows_words}
use Rattle.cp_walk.proofs.Errors.{err_as}
use Rattle.cp_walk.proofs.Leading.{due_opened}
use Rattle.cp_walk.proofs.Whole.{behind_none, whole_walk}
use Rattle.cp_walk.proofs.one_thread.walk_on_one_thread.Goals as goal

pub returns-clause-table : goal.returns-clause-table
returns-clause-table g c =
    let limits = c.args.job.now.limits in
    let sys = slots c.args.job.now.program.now limits.discipline in
    let node = node_of c.open-halt.result (machine_of c.open-halt.new.state) in
    let left = limits.choices - 0 in
    ap (map line_of) c.new.ensures ∙ c.in_ok-rows.ensures.rows ∙ behind_none (walk sys limits.steps left node) ∙ whole_walk sys limits.choices limits.steps left node (omega arith) c.open-halt.ensures.node

pub returns-in_err-rows-clause-many : goal.returns-in_err-rows-clause-many
returns-in_err-rows-clause-many g c =
    let limits = c.args.job.now.limits in
    let sys = slots c.args.job.now.program.now limits.discipline in
    let same = ap length (whole_walk sys limits.choices limits.steps (limits.choices - 0) (node_of c.open-halt.result (machine_of c.open-halt.new.state)) (omega arith) c.open-halt.ensures.node) in
    err_as c.from_residual.result _ (λ e. IsTooMany e → 50000 < length (table sys limits.choices limits.steps)) c.from_residual.ensures.1 (λ f h many. let more = c.in_err-rows.ensures.many (subst IsTooMany h many) in omega (arith, same, more))

pub walk_on-requires-clause-due : goal.walk_on-requires-clause-due
walk_on-requires-clause-due g c = due_opened c.args.job.now.program.now c.args.job.now.limits.discipline c.args.job.now.limits.steps c.open-halt.result c.open-halt.new.state c.open-halt.ensures.own c.open-halt.ensures.node

pub returns-clause-calls : goal.returns-clause-calls
returns-clause-calls g c =
    let limits = c.args.job.now.limits in
    let sys = slots c.args.job.now.program.now limits.discipline in
    let lines = whole_walk sys limits.choices limits.steps (limits.choices - 0) (node_of c.open-halt.result (machine_of c.open-halt.new.state)) (omega arith) c.open-halt.ensures.node ∙ sym (returns-clause-table g c) in
    let words = ap (λ ls. beginnings (words_in ls)) lines ∙ ap beginnings (rows_words c.new.result) in
    let opening = counted true g.C.Count.counts _ _ c.open-halt.ensures.calls in
    let walked = c.in_ok-rows.ensures.calls in
    omega (arith, words, opening, walked)
