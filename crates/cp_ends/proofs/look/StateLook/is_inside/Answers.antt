use Rattle.std.proofs.Common.{◌∙◌, ap, arith, sym}
use Rattle.std.specs.List.{list_any}
use Rattle.cp_machine.specs.Machine.{Machine}
use Rattle.cp_parts.proofs.Making.{thread_there}
use Rattle.cp_endless_laws.specs.Silent.{has_monitor_return, in_call_on_slots}
use Rattle.cp_ends.proofs.Looks.{inside_of, leaves, processes_in}
use Rattle.cp_ends.proofs.look.StateLook.is_inside.Goals as goal

pub returns : goal.returns
returns c = λ r m look.
    (let ps = c.args.self.now.processes.items in
    let pid = c.args.pid in
    let p = c.index.result.now in
    let there = thread_there ps pid p (let n = processes_in c.requires.0 c.args.self.now c.requires.2.0 in let lt = c.requires.3 in omega (arith, n, lt)) c.index.ensures in
    c.is_inside.ensures ∙ ap (list_any leaves) c.deref.ensures.value ∙ sym (inside_of p) ∙ ap (λ t. has_monitor_return t.stack) (sym there) ∙ ap (λ (k : Machine). in_call_on_slots k pid) (sym look.1))
