use Rattle.cp_machine.proofs.Words.{◌<◌, length, length-map, machine_of}
use Rattle.cp_machine.specs.declared.event.Event.TheVariants.{Local}
use Rattle.cp_machine.proofs.LocalSteps.{own_stepped, ready_stepped}
use Rattle.cp_machine.proofs.local.local_step.Goals as goal

pub returns-then-taken-clause-own : goal.returns-then-taken-clause-own
returns-then-taken-clause-own g c =
    let lt : c.args.pid < length (machine_of c.args.state.now).threads = rw length-map c.requires.pid in
    own_stepped c.args.program.now c.args.state.now c.take_local-taken.new.state c.args.pid Local c.requires.own lt c.requires.ready c.requires.still (c.take_local-taken.ensures.taken c.if-taken.true) c.take_local-taken.ensures.reserved

pub returns-then-taken-clause-ready : goal.returns-then-taken-clause-ready
returns-then-taken-clause-ready g c =
    let lt : c.args.pid < length (machine_of c.args.state.now).threads = rw length-map c.requires.pid in
    ready_stepped c.args.program.now c.args.state.now c.take_local-taken.new.state c.args.pid lt c.requires.ready (c.take_local-taken.ensures.taken c.if-taken.true)
