use Rattle.std.proofs.Common.{◌≡◌, ◌∙◌, Bool, Err, Ok, Result, ap, false, of_z, rules, sym, to_z, true, w16}
use Rattle.cp_machine.proofs.Words.{ℤ, int_eq, ErrorName, machine_of, under, fault, gone_on, local, next_value, outcome}
use Rattle.cp_machine.proofs.Outcomes.{turn_fails, turn_goes, turn_last}
use Rattle.cp_machine.proofs.loops.successor.Goals as goal

pub returns-then-is_last-clause-after : goal.returns-then-is_last-clause-after
returns-then-is_last-clause-after c =
    let m = machine_of c.args.state.now in
    let value_is : to_z w16 (of_z w16 c.args.value) ≡ c.args.value = search rules in
    let last_is : to_z w16 (of_z w16 c.args.last) ≡ c.args.last = search rules in
    let test : ◌≡◌ {A = Bool} (int_eq c.args.value c.args.last) true = cc (value_is, last_is, c.is_last.ensures, c.if-is_last.true) in
    turn_last m c.args.pid c.args.item.now.line c.args.course.at c.args.course.variable c.args.course.list c.args.item.now.next (under m c.args.pid) c.args.last c.args.course.low c.args.course.high c.args.course.down c.args.value test ∙ ap local (sym c.replace.ensures.after)

pub returns-then-is_last-clause-reserved : goal.returns-then-is_last-clause-reserved
returns-then-is_last-clause-reserved c = c.replace.ensures.reserved

pub returns-in_ok-value-clause-after : goal.returns-in_ok-value-clause-after
returns-in_ok-value-clause-after c =
    let m = machine_of c.args.state.now in
    let low_is : to_z w16 (of_z w16 c.args.course.low) ≡ c.args.course.low = search rules in
    let high_is : to_z w16 (of_z w16 c.args.course.high) ≡ c.args.course.high = search rules in
    let value_is : to_z w16 (of_z w16 c.args.value) ≡ c.args.value = search rules in
    let last_is : to_z w16 (of_z w16 c.args.last) ≡ c.args.last = search rules in
    let next_is : to_z w16 (of_z w16 c.in_ok-value.value) ≡ c.in_ok-value.value = search rules in
    let test : ◌≡◌ {A = Bool} (int_eq c.args.value c.args.last) false = cc (value_is, last_is, c.is_last.ensures, c.if-is_last.false) in
    let step : ◌≡◌ {A = Result ℤ ErrorName} (next_value c.args.course.down c.args.course.low c.args.course.high c.args.value) (Ok c.in_ok-value.value) = cc (low_is, high_is, value_is, c.next_value.ensures, c.in_ok-value.was {u = tt}) in
    let gone : machine_of c.go_on.new.state ≡ gone_on m c.args.pid c.args.course.at c.args.course.variable c.args.course.list (under m c.args.pid) c.args.last c.in_ok-value.value = cc (last_is, next_is, c.go_on.ensures.after) in
    turn_goes m c.args.pid c.args.item.now.line c.args.course.at c.args.course.variable c.args.course.list c.args.item.now.next (under m c.args.pid) c.args.last c.args.course.low c.args.course.high c.args.course.down c.args.value c.in_ok-value.value test step ∙ ap local (sym gone)

pub returns-in_ok-value-clause-reserved : goal.returns-in_ok-value-clause-reserved
returns-in_ok-value-clause-reserved c = c.go_on.ensures.reserved

pub returns-in_err-value-clause-after : goal.returns-in_err-value-clause-after
returns-in_err-value-clause-after c =
    let m = machine_of c.args.state.now in
    let low_is : to_z w16 (of_z w16 c.args.course.low) ≡ c.args.course.low = search rules in
    let high_is : to_z w16 (of_z w16 c.args.course.high) ≡ c.args.course.high = search rules in
    let value_is : to_z w16 (of_z w16 c.args.value) ≡ c.args.value = search rules in
    let last_is : to_z w16 (of_z w16 c.args.last) ≡ c.args.last = search rules in
    let told : outcome c.from_residual.result m c.args.pid c.args.item.now.line ≡ fault m c.args.pid c.args.item.now.line c.in_err-value.field-0.0 = search rules in
    let test : ◌≡◌ {A = Bool} (int_eq c.args.value c.args.last) false = cc (value_is, last_is, c.is_last.ensures, c.if-is_last.false) in
    let step : ◌≡◌ {A = Result ℤ ErrorName} (next_value c.args.course.down c.args.course.low c.args.course.high c.args.value) (Err c.in_err-value.field-0.0) = cc (low_is, high_is, value_is, c.next_value.ensures, c.in_err-value.was {u = tt}) in
    turn_fails m c.args.pid c.args.item.now.line c.args.course.at c.args.course.variable c.args.course.list c.args.item.now.next (under m c.args.pid) c.args.last c.args.course.low c.args.course.high c.args.course.down c.args.value c.in_err-value.field-0.0 test step ∙ sym told

pub returns-in_err-value-clause-reserved : goal.returns-in_err-value-clause-reserved
returns-in_err-value-clause-reserved c = λ r h. h

pub replace-requires : goal.replace-requires
replace-requires c = record { within = c.requires.replaces.within; busy = c.requires.replaces.busy; room = tt }

pub go_on-requires : goal.go_on-requires
go_on-requires c = c.requires
