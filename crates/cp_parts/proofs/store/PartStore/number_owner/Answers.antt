use Rattle.std.proofs.Common.{◌-◌, ◌<◌, arith, length}
use Rattle.std.proofs.lemmas.List.{length-map}
use Rattle.cp_machine.specs.Machine.{machine_of, monitor_of, thread_of}
use Rattle.cp_parts.proofs.Making.{if_ok_three, monitor_part, monitor_there, process_part, thread_there}
use Rattle.cp_parts.proofs.store.PartStore.number_owner.Goals as goal

pub returns-then-place-table-clause-number : goal.returns-then-place-table-clause-number
returns-then-place-table-clause-number c =
    let ps = c.args.state.now.processes.items in
    let s = c.args.self.now in
    let u = c.number_process.new.self in
    let within : c.args.place < length ps = omega (arith, c.requires.placed.1.processes, c.requires.placed.2.threads, length-map ps thread_of) in
    if_ok_three c.number_process.result _ _ _ _
    (λ n inside ground process. process_part s u c.args.table.now (machine_of c.args.state.now) c.args.place n c.args.ground inside ground c.number_process.ensures.grounds c.requires.ground
    (thread_of c.index.result.now) (omega arith) (thread_there ps c.args.place c.index.result.now within c.index.ensures) process)
    c.number_process.ensures.within c.number_process.ensures.ground c.number_process.ensures.process

pub returns-else-place-table-clause-number : goal.returns-else-place-table-clause-number
returns-else-place-table-clause-number c =
    let gs = c.args.state.now.guards.items in
    let s = c.args.self.now in
    let u = c.number_monitor.new.self in
    let k = c.args.place - c.args.table.now.processes in
    let within : k < length gs = omega (arith, c.requires.place, c.requires.placed.1.monitors, c.requires.placed.2.monitors, length-map gs monitor_of) in
    if_ok_three c.number_monitor.result _ _ _ _
    (λ n inside ground monitor. monitor_part s u c.args.table.now (machine_of c.args.state.now) c.args.place n c.args.ground inside ground c.number_monitor.ensures.grounds c.requires.ground
    (monitor_of c.index-else-place-table.result.now) (omega arith) (monitor_there gs k c.index-else-place-table.result.now within c.index-else-place-table.ensures) monitor)
    c.number_monitor.ensures.within c.number_monitor.ensures.ground c.number_monitor.ensures.monitor
