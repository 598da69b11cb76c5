use Rattle.cp_machine.proofs.Words.{◌∙◌, machine_of, under, rest_of, arm_for, fault, local, outcome, ErrorName, ℕ, Err, Ok, Option, Result, ap, of_z, rules, sym, to_z, w16, ◌≡◌, Case, Tables}
use Rattle.cp_machine.proofs.rooms.KeepingSteps.{arm_is}
use Rattle.cp_machine.proofs.CallOutcomes.{case_arm, case_fails, case_no_arm}
use Rattle.cp_machine.proofs.Words.{◌<◌, length, subst, slice_index_or, ResolvedArm}
use Rattle.cp_machine.specs.Premises.{CanReplace, Takes}
use Rattle.cp_machine.proofs.PremiseLemmas.{takes_fits, takes_list, takes_reads}
use Rattle.cp_machine.proofs.statement.case_of.Goals as goal

pub returns-in_err-value-clause-after : goal.returns-in_err-value-clause-after
returns-in_err-value-clause-after c =
    let m = machine_of c.args.state.now in
    let told : outcome c.from_residual.result m c.args.pid c.args.item.now.line ≡ fault m c.args.pid c.args.item.now.line c.in_err-value.field-0.0 = search rules in
    case_fails m c.args.pid c.args.item.now.line c.args.selector.now c.args.arms.now (rest_of c.args.item.now.next (under m c.args.pid)) c.in_err-value.field-0.0 (sym c.value_of.ensures ∙ c.in_err-value.was {u = tt}) ∙ sym told

pub returns-in_err-value-clause-reserved : goal.returns-in_err-value-clause-reserved
returns-in_err-value-clause-reserved c = λ r h. h

pub returns-in_err-list-clause-after : goal.returns-in_err-list-clause-after
returns-in_err-list-clause-after c =
    let m = machine_of c.args.state.now in
    let value_is : to_z w16 (of_z w16 c.in_ok-value.value) ≡ c.in_ok-value.value = search rules in
    let told : outcome c.from_residual-in_err-list.result m c.args.pid c.args.item.now.line ≡ fault m c.args.pid c.args.item.now.line c.in_err-list.field-0.0 = search rules in
    let arm : ◌≡◌ {A = Result (Option ℕ) ErrorName} (arm_for c.in_ok-value.value c.args.arms.now) (Err c.in_err-list.field-0.0) = ap (λ z. arm_for z c.args.arms.now) (sym value_is) ∙ c.arm_for.ensures ∙ c.in_err-list.was in
    case_no_arm m c.args.pid c.args.item.now.line c.args.selector.now c.args.arms.now (rest_of c.args.item.now.next (under m c.args.pid)) c.in_ok-value.value c.in_err-list.field-0.0 (sym c.value_of.ensures ∙ c.in_ok-value.was {u = tt}) arm ∙ sym told

pub returns-in_err-list-clause-reserved : goal.returns-in_err-list-clause-reserved
returns-in_err-list-clause-reserved c = λ r h. h

pub returns-clause-after : goal.returns-clause-after
returns-clause-after c =
    let m = machine_of c.args.state.now in
    let value_is : to_z w16 (of_z w16 c.in_ok-value.value) ≡ c.in_ok-value.value = search rules in
    let arm : ◌≡◌ {A = Result (Option ℕ) ErrorName} (arm_for c.in_ok-value.value c.args.arms.now) (Ok c.in_ok-list.list) = ap (λ z. arm_for z c.args.arms.now) (sym value_is) ∙ c.arm_for.ensures ∙ c.in_ok-list.was in
    case_arm m c.args.pid c.args.item.now.line c.args.selector.now c.args.arms.now (rest_of c.args.item.now.next (under m c.args.pid)) c.in_ok-value.value c.in_ok-list.list (sym c.value_of.ensures ∙ c.in_ok-value.was {u = tt}) arm ∙ ap local (sym c.replace.ensures.after)

pub returns-clause-reserved : goal.returns-clause-reserved
returns-clause-reserved c = c.replace.ensures.reserved

pub value_of-requires : goal.value_of-requires
value_of-requires c = record { pid = c.requires.1.2.taken.within; reads = takes_reads (c.requires.0, c.requires.1.2) }

pub replace-requires : goal.replace-requires
replace-requires c =
    let t : (r : Tables) × Takes r c.args.state.now c.args.pid c.args.item.now (Case c.args.selector.now c.requires.1.0) = (c.requires.0, c.requires.1.2) in
    let Goes : Option ℕ → Type 0 = CanReplace c.args.state.now c.args.pid in
    let each : (k : ℕ) (d : ResolvedArm) → k < length c.args.arms.now → Goes (slice_index_or c.args.arms.now k d).body = subst (λ arms. (k : ℕ) (d : ResolvedArm) → k < length arms → Goes (slice_index_or arms k d).body) (sym c.requires.1.1) (λ k d lt. takes_list t (slice_index_or c.requires.1.0.items k d).body (takes_fits t k d lt)) in
    arm_is Goes _ c.args.arms.now each c.in_ok-list.list (c.arm_for.ensures ∙ c.in_ok-list.was)
