use Rattle.cp_machine.proofs.Words.{◌∙◌, ap, sym, machine_of, under, with_stack, rest_of, assign, branch, local, outcome, while_do, until, act, Block, Cycle, false≢true}
use Rattle.cp_machine.proofs.LocalSteps.{assign_calm, branch_calm, while_calm, until_calm, done_pending, done_same}
use Rattle.cp_machine.proofs.frames.ReadLemmas.{taken_fits}
use Rattle.cp_machine.proofs.PremiseLemmas.{item_list}
use Rattle.cp_machine.proofs.local.perform_local.Goals as goal

pub returns-in-Assign-clause-same : goal.returns-in-Assign-clause-same
returns-in-Assign-clause-same c =
    let m = machine_of c.args.state.now in
    λ off. done_same m (machine_of c.assign.new.state) c.args.pid c.args.item.now.line (assign m c.args.pid c.args.item.now.line c.in-Assign.target c.in-Assign.value c.in-Assign.low c.in-Assign.high (rest_of c.args.item.now.next (under m c.args.pid))) (assign_calm m c.args.pid c.args.item.now.line c.in-Assign.target c.in-Assign.value c.in-Assign.low c.in-Assign.high (rest_of c.args.item.now.next (under m c.args.pid))) c.assign.result c.assign.ensures.after (c.is_done.ensures.no off)

pub returns-in-Assign-clause-pending : goal.returns-in-Assign-clause-pending
returns-in-Assign-clause-pending c =
    let m = machine_of c.args.state.now in
    done_pending m (machine_of c.assign.new.state) c.args.pid c.args.item.now.line (assign m c.args.pid c.args.item.now.line c.in-Assign.target c.in-Assign.value c.in-Assign.low c.in-Assign.high (rest_of c.args.item.now.next (under m c.args.pid))) (assign_calm m c.args.pid c.args.item.now.line c.in-Assign.target c.in-Assign.value c.in-Assign.low c.in-Assign.high (rest_of c.args.item.now.next (under m c.args.pid))) c.assign.result c.assign.ensures.after

pub returns-in-Assign-clause-reserved : goal.returns-in-Assign-clause-reserved
returns-in-Assign-clause-reserved c = c.assign.ensures.reserved c.args.program.now c.requires.own.reserved

pub returns-in-If-clause-same : goal.returns-in-If-clause-same
returns-in-If-clause-same c =
    let m = machine_of c.args.state.now in
    λ off. done_same m (machine_of c.branch-state.new.state) c.args.pid c.args.item.now.line (branch m c.args.pid c.args.item.now.line c.in-If.test c.in-If.then c.in-If.otherwise (rest_of c.args.item.now.next (under m c.args.pid))) (branch_calm m c.args.pid c.args.item.now.line c.in-If.test c.in-If.then c.in-If.otherwise (rest_of c.args.item.now.next (under m c.args.pid))) c.branch-state.result c.branch-state.ensures.after (c.is_done-in-If.ensures.no off)

pub returns-in-If-clause-pending : goal.returns-in-If-clause-pending
returns-in-If-clause-pending c =
    let m = machine_of c.args.state.now in
    done_pending m (machine_of c.branch-state.new.state) c.args.pid c.args.item.now.line (branch m c.args.pid c.args.item.now.line c.in-If.test c.in-If.then c.in-If.otherwise (rest_of c.args.item.now.next (under m c.args.pid))) (branch_calm m c.args.pid c.args.item.now.line c.in-If.test c.in-If.then c.in-If.otherwise (rest_of c.args.item.now.next (under m c.args.pid))) c.branch-state.result c.branch-state.ensures.after

pub returns-in-If-clause-reserved : goal.returns-in-If-clause-reserved
returns-in-If-clause-reserved c = c.branch-state.ensures.reserved c.args.program.now c.requires.own.reserved

pub returns-in-While-clause-same : goal.returns-in-While-clause-same
returns-in-While-clause-same c =
    let m = machine_of c.args.state.now in
    λ off. done_same m (machine_of c.while_do.new.state) c.args.pid c.args.item.now.line (while_do m c.args.pid c.args.item.now.line c.in-While.test c.in-While.body c.in-While.again c.args.item.now.next (under m c.args.pid)) (while_calm m c.args.pid c.args.item.now.line c.in-While.test c.in-While.body c.in-While.again c.args.item.now.next (under m c.args.pid)) c.while_do.result c.while_do.ensures.after (c.is_done-in-While.ensures.no off)

pub returns-in-While-clause-pending : goal.returns-in-While-clause-pending
returns-in-While-clause-pending c =
    let m = machine_of c.args.state.now in
    done_pending m (machine_of c.while_do.new.state) c.args.pid c.args.item.now.line (while_do m c.args.pid c.args.item.now.line c.in-While.test c.in-While.body c.in-While.again c.args.item.now.next (under m c.args.pid)) (while_calm m c.args.pid c.args.item.now.line c.in-While.test c.in-While.body c.in-While.again c.args.item.now.next (under m c.args.pid)) c.while_do.result c.while_do.ensures.after

pub returns-in-While-clause-reserved : goal.returns-in-While-clause-reserved
returns-in-While-clause-reserved c = c.while_do.ensures.reserved c.args.program.now c.requires.own.reserved

pub returns-in-Until-clause-same : goal.returns-in-Until-clause-same
returns-in-Until-clause-same c =
    let m = machine_of c.args.state.now in
    λ off. done_same m (machine_of c.until.new.state) c.args.pid c.args.item.now.line (until m c.args.pid c.args.item.now.line c.in-Until.test c.in-Until.body c.in-Until.again c.args.item.now.next (under m c.args.pid)) (until_calm m c.args.pid c.args.item.now.line c.in-Until.test c.in-Until.body c.in-Until.again c.args.item.now.next (under m c.args.pid)) c.until.result c.until.ensures.after (c.is_done-in-Until.ensures.no off)

pub returns-in-Until-clause-pending : goal.returns-in-Until-clause-pending
returns-in-Until-clause-pending c =
    let m = machine_of c.args.state.now in
    done_pending m (machine_of c.until.new.state) c.args.pid c.args.item.now.line (until m c.args.pid c.args.item.now.line c.in-Until.test c.in-Until.body c.in-Until.again c.args.item.now.next (under m c.args.pid)) (until_calm m c.args.pid c.args.item.now.line c.in-Until.test c.in-Until.body c.in-Until.again c.args.item.now.next (under m c.args.pid)) c.until.result c.until.ensures.after

pub returns-in-Until-clause-reserved : goal.returns-in-Until-clause-reserved
returns-in-Until-clause-reserved c = c.until.ensures.reserved c.args.program.now c.requires.own.reserved

pub returns-in-Block-clause-taken : goal.returns-in-Block-clause-taken
returns-in-Block-clause-taken c =
    let m = machine_of c.args.state.now in
    let below = under m c.args.pid in
    λ yes. ap (λ a. act c.args.program.now m c.args.pid c.args.at c.args.item.now a below) c.in-Block.is ∙ ap local (sym c.replace.ensures.after)

pub returns-in-Block-clause-same : goal.returns-in-Block-clause-same
returns-in-Block-clause-same c = λ off. absurd (false≢true (sym off))

pub returns-in-Block-clause-pending : goal.returns-in-Block-clause-pending
returns-in-Block-clause-pending c = ap (λ m. m.pending) c.replace.ensures.after

pub returns-in-Block-clause-reserved : goal.returns-in-Block-clause-reserved
returns-in-Block-clause-reserved c = c.replace.ensures.reserved c.args.program.now c.requires.own.reserved

pub returns-in-Cycle-clause-taken : goal.returns-in-Cycle-clause-taken
returns-in-Cycle-clause-taken c =
    let m = machine_of c.args.state.now in
    let below = under m c.args.pid in
    λ yes. ap (λ a. act c.args.program.now m c.args.pid c.args.at c.args.item.now a below) c.in-Cycle.is ∙ ap (λ es. local (with_stack m c.args.pid (rest_of c.in-Cycle.list es))) (sym c.requires.top) ∙ ap local (sym c.repeat.ensures.after)

pub returns-in-Cycle-clause-same : goal.returns-in-Cycle-clause-same
returns-in-Cycle-clause-same c = λ off. absurd (false≢true (sym off))

pub returns-in-Cycle-clause-pending : goal.returns-in-Cycle-clause-pending
returns-in-Cycle-clause-pending c = ap (λ m. m.pending) c.repeat.ensures.after

pub returns-in-Cycle-clause-reserved : goal.returns-in-Cycle-clause-reserved
returns-in-Cycle-clause-reserved c = c.repeat.ensures.reserved c.args.program.now c.requires.own.reserved

pub returns-in-Assign-clause-taken : goal.returns-in-Assign-clause-taken
returns-in-Assign-clause-taken c =
    let m = machine_of c.args.state.now in
    let below = under m c.args.pid in
    λ yes. ap (λ a. act c.args.program.now m c.args.pid c.args.at c.args.item.now a below) c.in-Assign.is ∙ c.assign.ensures.after ∙ ap (λ o. outcome o (machine_of c.assign.new.state) c.args.pid c.args.item.now.line) (c.is_done.ensures.yes yes)

pub returns-in-If-clause-taken : goal.returns-in-If-clause-taken
returns-in-If-clause-taken c =
    let m = machine_of c.args.state.now in
    let below = under m c.args.pid in
    λ yes. ap (λ a. act c.args.program.now m c.args.pid c.args.at c.args.item.now a below) c.in-If.is ∙ c.branch-state.ensures.after ∙ ap (λ o. outcome o (machine_of c.branch-state.new.state) c.args.pid c.args.item.now.line) (c.is_done-in-If.ensures.yes yes)

pub returns-in-While-clause-taken : goal.returns-in-While-clause-taken
returns-in-While-clause-taken c =
    let m = machine_of c.args.state.now in
    let below = under m c.args.pid in
    λ yes. ap (λ a. act c.args.program.now m c.args.pid c.args.at c.args.item.now a below) c.in-While.is ∙ c.while_do.ensures.after ∙ ap (λ o. outcome o (machine_of c.while_do.new.state) c.args.pid c.args.item.now.line) (c.is_done-in-While.ensures.yes yes)

pub returns-in-Until-clause-taken : goal.returns-in-Until-clause-taken
returns-in-Until-clause-taken c =
    let m = machine_of c.args.state.now in
    let below = under m c.args.pid in
    λ yes. ap (λ a. act c.args.program.now m c.args.pid c.args.at c.args.item.now a below) c.in-Until.is ∙ c.until.ensures.after ∙ ap (λ o. outcome o (machine_of c.until.new.state) c.args.pid c.args.item.now.line) (c.is_done-in-Until.ensures.yes yes)

pub assign-requires : goal.assign-requires
assign-requires c = (c.args.program.now, record { at = c.args.at; taken = c.requires; says = c.in-Assign.is })

pub branch-state-requires : goal.branch-state-requires
branch-state-requires c = (c.args.program.now, record { at = c.args.at; taken = c.requires; says = c.in-If.is })

pub while_do-requires : goal.while_do-requires
while_do-requires c = (c.args.program.now, record { at = c.args.at; taken = c.requires; says = c.in-While.is })

pub until-requires : goal.until-requires
until-requires c = (c.args.program.now, record { at = c.args.at; taken = c.requires; says = c.in-Until.is })

pub replace-requires : goal.replace-requires
replace-requires c = item_list c.requires c.in-Block.list (taken_fits c.args.program.now c.args.state.now c.args.pid c.args.at c.args.item.now c.requires (Block c.in-Block.list) c.in-Block.is)

pub repeat-requires : goal.repeat-requires
repeat-requires c = item_list c.requires c.in-Cycle.list (taken_fits c.args.program.now c.args.state.now c.args.pid c.args.at c.args.item.now c.requires (Cycle c.in-Cycle.list) c.in-Cycle.is)
