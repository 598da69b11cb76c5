use Rattle.cp_machine.proofs.Words.{◌∙◌, ap, machine_of, under, act}
use Rattle.cp_machine.proofs.perform.perform_assignment.Goals as goal

pub returns-in-Assign-clause-after : goal.returns-in-Assign-clause-after
returns-in-Assign-clause-after c =
    let m = machine_of c.args.state.now in
    let below = under m c.args.pid in
    λ r at. ap (λ a. act r m c.args.pid at c.args.item.now a below) c.in-Assign.is ∙ c.assign.ensures.after

pub returns-in-Assign-clause-reserved : goal.returns-in-Assign-clause-reserved
returns-in-Assign-clause-reserved c = c.assign.ensures.reserved

pub returns-in-AssignSet-clause-after : goal.returns-in-AssignSet-clause-after
returns-in-AssignSet-clause-after c =
    let m = machine_of c.args.state.now in
    let below = under m c.args.pid in
    λ r at. ap (λ a. act r m c.args.pid at c.args.item.now a below) c.in-AssignSet.is ∙ c.assign_set.ensures.after

pub returns-in-AssignSet-clause-reserved : goal.returns-in-AssignSet-clause-reserved
returns-in-AssignSet-clause-reserved c = c.assign_set.ensures.reserved

pub returns-in-Copy-clause-after : goal.returns-in-Copy-clause-after
returns-in-Copy-clause-after c =
    let m = machine_of c.args.state.now in
    let below = under m c.args.pid in
    λ r at. ap (λ a. act r m c.args.pid at c.args.item.now a below) c.in-Copy.is ∙ c.copy.ensures.after

pub returns-in-Copy-clause-reserved : goal.returns-in-Copy-clause-reserved
returns-in-Copy-clause-reserved c = c.copy.ensures.reserved

pub assign-requires : goal.assign-requires
assign-requires c = (c.requires.taken.0, record { at = c.requires.taken.1; taken = c.requires.taken.2; says = c.in-Assign.is })

pub assign_set-requires : goal.assign_set-requires
assign_set-requires c = (c.requires.taken.0, record { at = c.requires.taken.1; taken = c.requires.taken.2; says = c.in-AssignSet.is })

pub copy-requires : goal.copy-requires
copy-requires c = (c.requires.taken.0, record { at = c.requires.taken.1; taken = c.requires.taken.2; says = c.in-Copy.is })
