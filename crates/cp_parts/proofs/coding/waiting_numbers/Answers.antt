use Rattle.std.proofs.Common.{◌∙◌, ◌∷◌, ◌++◌, [], ap, arith, sym}
use Rattle.cp_machine.specs.declared.process.ProcessState.{ProcessState}
use Rattle.cp_states.specs.Numbers.{number_at}
use Rattle.cp_parts.specs.Coded.{waiting_pair}
use Rattle.cp_parts.specs.Placed.{places_of}
use Rattle.cp_parts.proofs.Codes.{waiting_count, waiting_next}
use Rattle.cp_parts.proofs.coding.waiting_numbers.Goals as goal

pub push-requires : goal.push-requires
push-requires c =
    let ps = c.args.processes.now in
    let long = waiting_count (places_of c.args.table.now) c.args.place ps c.loop-at.at c.loop-at.numbers.items (omega arith) c.loop-at.invariant in
    omega (arith, long, c.requires)

pub push-requires-in-loop-at : goal.push-requires-in-loop-at
push-requires-in-loop-at c =
    let ps = c.args.processes.now in
    let long = waiting_count (places_of c.args.table.now) c.args.place ps c.loop-at.at c.loop-at.numbers.items (omega arith) c.loop-at.invariant in
    omega (arith, long, c.requires, c.push.ensures.len)

pub loop-at-preserved : goal.loop-at-preserved
loop-at-preserved c =
    let ps = c.args.processes.now in
    c.push-in-loop-at.ensures.items ∙ ap (λ xs. xs ++ number_at c.waiting_pair-pair.result 1 ∷ []) c.push.ensures.items
    ∙ waiting_next (places_of c.args.table.now) c.args.place ps c.loop-at.at c.index-processes-at.result c.loop-at.numbers.items c.waiting_pair-pair.result (omega arith) (sym c.index-processes-at.is) (c.waiting_pair-pair.ensures ∙ ap (λ (p : ProcessState). waiting_pair (places_of c.args.table.now) c.args.place p.status) (sym c.index-processes-at.is)) c.loop-at.invariant
