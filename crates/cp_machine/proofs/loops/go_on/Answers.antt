use Rattle.cp_machine.proofs.Words.{rest_of, number_put, origin_of, Machine, machine_of, under, with_stack, Successor, ℤ, ◌≡◌, ◌∷◌, ◌∙◌, ap, of_z, rules, to_z, w16}
use Rattle.cp_machine.proofs.Outcomes.{replaced_has, replaced_within}
use Rattle.cp_machine.proofs.loops.go_on.Goals as goal

pub put_number-requires-clause-pid : goal.put_number-requires-clause-pid
put_number-requires-clause-pid c = replaced_within c.args.state.now c.replace_by.new.state c.args.pid _ c.replace_by.ensures.after c.requires.replaces.within

pub put_number-requires-clause-cells : goal.put_number-requires-clause-cells
put_number-requires-clause-cells c = replaced_has c.args.state.now c.replace_by.new.state c.args.pid _ c.origin_of-at.result 1 c.replace_by.ensures.after c.requires.replaces.within (c.origin_of-at.ensures.cells 1 c.requires.name)

pub returns-clause-reserved : goal.returns-clause-reserved
returns-clause-reserved c = λ r h. c.put_number.ensures.reserved r (c.replace_by.ensures.reserved r h)

pub returns-clause-after : goal.returns-clause-after
returns-clause-after c =
    let m = machine_of c.args.state.now in
    let at = origin_of m c.args.pid c.args.course.variable in
    let stacked : ℤ → ℤ → Machine = λ z last. with_stack m c.args.pid (rest_of c.args.course.list (Successor c.args.course.at z last ∷ under m c.args.pid)) in
    let value_is : to_z w16 (of_z w16 c.args.value) ≡ c.args.value = search rules in
    let last_is : to_z w16 (of_z w16 c.args.last) ≡ c.args.last = search rules in
    c.put_number.ensures.after ∙ ap (λ n. number_put n c.args.pid c.origin_of-at.result (to_z w16 (of_z w16 c.args.value))) c.replace_by.ensures.after ∙ ap (λ a. number_put (stacked (to_z w16 (of_z w16 c.args.value)) (to_z w16 (of_z w16 c.args.last))) c.args.pid a (to_z w16 (of_z w16 c.args.value))) c.origin_of-at.ensures.value ∙ ap (λ z. number_put (stacked z (to_z w16 (of_z w16 c.args.last))) c.args.pid at z) value_is ∙ ap (λ last. number_put (stacked c.args.value last) c.args.pid at c.args.value) last_is

pub replace_by-requires : goal.replace_by-requires
replace_by-requires c = c.requires.replaces

pub origin_of-at-requires : goal.origin_of-at-requires
origin_of-at-requires c = record { pid = c.requires.replaces.within; name = (1, c.requires.name) }
