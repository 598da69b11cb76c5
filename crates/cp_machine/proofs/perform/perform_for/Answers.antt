use Rattle.cp_machine.specs.Statements.{for_do}
use Rattle.cp_machine.proofs.Words.{act, ◌≡◌, ◌∙◌, ap, of_z, rules, sym, to_z, w16, machine_of, under}
use Rattle.cp_machine.proofs.perform.perform_for.Goals as goal

pub returns-clause-reserved : goal.returns-clause-reserved
returns-clause-reserved c = c.for_do.ensures.reserved

pub returns-clause-after : goal.returns-clause-after
returns-clause-after c =
    let m = machine_of c.args.state.now in
    let below = under m c.args.pid in
    let low_is : to_z w16 (of_z w16 c.in-For.low) ≡ c.in-For.low = search rules in
    let high_is : to_z w16 (of_z w16 c.in-For.high) ≡ c.in-For.high = search rules in
    λ r. ap (λ a. act r m c.args.pid c.args.at c.args.item.now a below) c.in-For.is ∙ ap (λ z. for_do m c.args.pid c.args.item.now.line c.args.at c.in-For.variable z c.in-For.high c.in-For.from c.in-For.to c.in-For.down c.in-For.body c.args.item.now.next below) (sym low_is) ∙ ap (λ z. for_do m c.args.pid c.args.item.now.line c.args.at c.in-For.variable (to_z w16 (of_z w16 c.in-For.low)) z c.in-For.from c.in-For.to c.in-For.down c.in-For.body c.args.item.now.next below) (sym high_is) ∙ c.for_do.ensures.after

pub for_do-requires : goal.for_do-requires
for_do-requires c = (c.requires.taken.0, (c.in-For.low, c.in-For.high, record { at = c.args.at; taken = c.requires.taken.1; says = c.in-For.is }))
