use Rattle.cp_check.proofs.Words.{rules, arith, scopes_of}
use Rattle.std.proofs.Common.{refl}
use Rattle.cp_check.proofs.Asserted.{both_judged, said_refused, statement_refused}
use Rattle.cp_check.proofs.Branches.{else_first, else_second}
use Rattle.cp_check.proofs.statement.+statement.Goals as goal

pub statement-returns-in_err-test-in-Some : goal.statement-returns-in_err-test-in-Some
statement-returns-in_err-test-in-Some t c =
    let h = else_first (scopes_of c.args.table.now) c.args.context c.args.node.now c.in-If.test c.in-If.first c.in-Some.second c.in-If.second c.in-If.is c.in-Some.is c.in_err-test-in-Some.field-0.0 c.in_err-test-in-Some.ensures in
    first_of (search (rules, h), grind (arith, h))

pub statement-returns-in_err-uses-in-Some : goal.statement-returns-in_err-uses-in-Some
statement-returns-in_err-uses-in-Some t c =
    let h = else_second (scopes_of c.args.table.now) c.args.context c.args.node.now c.in-If.test c.in-If.first c.in-Some.second c.in-If.second c.in-If.is c.in-Some.is c.in_err-uses-in-Some.field-0.0 c.in_ok-test-in-Some.test c.in_ok-test-in-Some.ensures (rw c.deref-in-Some.ensures at c.in_err-uses-in-Some.ensures) in
    first_of (search (rules, h), grind (arith, h))

pub statement-returns-in_err-uses-in-Asserted : goal.statement-returns-in_err-uses-in-Asserted
statement-returns-in_err-uses-in-Asserted t c =
    let h =
    said_refused (scopes_of c.args.table.now) c.args.context c.args.node.now c.in-Asserted.field-0 c.in-Asserted.tests c.in-Asserted.inner c.in-Asserted.is c.in_err-uses-in-Asserted.field-0.0
    (rw c.deref-in-Asserted.ensures.value at c.in_err-uses-in-Asserted.ensures) in
    first_of (search (rules, h), grind (arith, h))

pub statement-returns-in_err-statement-in-Asserted : goal.statement-returns-in_err-statement-in-Asserted
statement-returns-in_err-statement-in-Asserted t c =
    let h =
    statement_refused (scopes_of c.args.table.now) c.args.context c.args.node.now c.in-Asserted.field-0 c.in-Asserted.tests c.in-Asserted.inner c.in-Asserted.is c.in_err-statement-in-Asserted.field-0.0 c.in_ok-uses-in-Asserted.uses
    (rw c.deref-in-Asserted.ensures.value at c.in_ok-uses-in-Asserted.ensures) (rw c.deref-in-Asserted-2.ensures at c.in_err-statement-in-Asserted.ensures) in
    first_of (search (rules, h), grind (arith, h))

pub statement-returns-in_ok-statement-in-Asserted : goal.statement-returns-in_ok-statement-in-Asserted
statement-returns-in_ok-statement-in-Asserted t c =
    let h =
    both_judged (scopes_of c.args.table.now) c.args.context c.args.node.now c.in-Asserted.field-0 c.in-Asserted.tests c.in-Asserted.inner c.in-Asserted.is c.in_ok-uses-in-Asserted.uses c.in_ok-statement-in-Asserted.field-0
    (rw c.deref-in-Asserted.ensures.value at c.in_ok-uses-in-Asserted.ensures) (rw c.deref-in-Asserted-2.ensures at c.in_ok-statement-in-Asserted.ensures) in
    rw (c.and-in-Asserted.ensures, h) refl
