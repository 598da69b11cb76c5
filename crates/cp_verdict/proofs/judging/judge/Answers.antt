use Rattle.std.proofs.Common.{◌∙◌, ap}
use Rattle.cp_verdict.specs.Expectations.{is_one_of}
use Rattle.cp_verdict.specs.Judged.{first_settling}
use Rattle.cp_verdict.specs.endless.Naming.{processes_of}
use Rattle.cp_verdict.proofs.Finding as by_first
use Rattle.cp_verdict.proofs.who.Judging.{found_plainly, judged}
use Rattle.cp_verdict.proofs.judging.judge.Goals as goal

pub returns-clause-who : goal.returns-clause-who
returns-clause-who c = λ who lines same are. judged c.args.program.now.names (processes_of c.args.legend.now) who c.args.expectation.now lines c.args.rows.now are c.args.seen.now c.in_ok-found.found c.in_ok-left_open.left_open c.settle.result c.in_ok-found.ensures c.in_ok-left_open.ensures c.settle.ensures same

pub returns-clause-rows : goal.returns-clause-rows
returns-clause-rows c = λ none heads.
    (let e = c.args.expectation.now in
    let names = c.args.program.now.names in
    let named = is_one_of names e.topics.items in
    by_first.judged e.claim named c.args.seen.now c.in_ok-found.found c.in_ok-left_open.left_open c.settle.result
    (c.in_ok-found.ensures ∙ found_plainly names (processes_of c.args.legend.now) e c.args.rows.now none ∙ ap (first_settling e.claim named) heads) c.in_ok-left_open.ensures c.settle.ensures)
