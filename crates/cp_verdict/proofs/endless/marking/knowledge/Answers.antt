use Rattle.std.proofs.Common.{rules, ◌<◌, ◌^◌, refl, subst, sym}
use Rattle.cp_run.proofs.Failing.{none_well}
use Rattle.cp_verdict.specs.endless.Knowledge.{IsKnown}
use Rattle.cp_verdict.specs.waiting.Known.{KnowsWho}
use Rattle.cp_verdict.proofs.who.Knowing.{known_with, knows_who, place_of_stop}
use Rattle.cp_verdict.proofs.endless.marking.knowledge.Goals as goal

pub returns-then-not-name_who-clause-known : goal.returns-then-not-name_who-clause-known
returns-then-not-name_who-clause-known g c = λ some.
    let s = c.args.subject in
    let few : s.most < 2 ^ 32 = search rules in
    let answer = c.in_ok-found.ensures.answer some in
    c.in_ok-known.ensures.known s.limits.discipline s.limits.steps s.most answer (c.lines_of.ensures s.program.now s.limits.discipline s.limits.steps s.most c.ask_waits.result c.in_ok-found.field-0.found few answer c.in_ok-found.ensures.waits)

pub returns-then-not-name_who-clause-who : goal.returns-then-not-name_who-clause-who
returns-then-not-name_who-clause-who g c = λ some asks. (let said = c.name_who.ensures in let none = c.if-not-name_who.true in absurd (cc (said, none, asks)))

pub returns-clause-known : goal.returns-clause-known
returns-clause-known g c = λ some.
    let s = c.args.subject in
    let few : s.most < 2 ^ 32 = search rules in
    let answer = c.in_ok-found.ensures.answer some in
    let known = c.in_ok-known.ensures.known s.limits.discipline s.limits.steps s.most answer (c.lines_of.ensures s.program.now s.limits.discipline s.limits.steps s.most c.ask_waits.result c.in_ok-found.field-0.found few answer c.in_ok-found.ensures.waits) in
    subst (IsKnown s.program.now s.limits.discipline s.limits.steps s.most) (sym c.with_waiting.ensures) (known_with s.program.now s.limits.discipline s.limits.steps s.most c.in_ok-known.known c.in_ok-waiting.waiting known)

pub returns-clause-who : goal.returns-clause-who
returns-clause-who g c = λ some asks.
    let s = c.args.subject in
    let r = s.program.now in
    let answer = c.in_ok-found.ensures.answer some in
    let f = answer.findings in
    let found = c.in_ok-found.field-0.found in
    subst (KnowsWho r s.limits.discipline s.limits.steps) (sym c.with_waiting.ensures)
    (knows_who r s.limits.discipline s.limits.steps f.states found.stopped c.in_ok-known.known.looked (c.in_ok-known.ensures.looked r f answer.holds) c.in_ok-ends.ends (c.in_ok-ends.ensures s.most f answer.holds answer.answer)
    (place_of_stop r s.limits.discipline s.limits.steps s.most f found.stopped answer.answer) (record c.in_ok-known.known { waiting = c.in_ok-waiting.waiting }) refl c.in_ok-waiting.ensures)

pub returns-in_err-waiting-clause-known : goal.returns-in_err-waiting-clause-known
returns-in_err-waiting-clause-known g c = λ some. none_well c.from_residual-in_err-waiting.result _ _ c.from_residual-in_err-waiting.ensures.1

pub returns-in_err-waiting-clause-who : goal.returns-in_err-waiting-clause-who
returns-in_err-waiting-clause-who g c = λ some asks. none_well c.from_residual-in_err-waiting.result _ _ c.from_residual-in_err-waiting.ensures.1

pub returns-in_err-ends-clause-known : goal.returns-in_err-ends-clause-known
returns-in_err-ends-clause-known g c = λ some. none_well c.from_residual-in_err-ends.result _ _ c.from_residual-in_err-ends.ensures.1

pub returns-in_err-ends-clause-who : goal.returns-in_err-ends-clause-who
returns-in_err-ends-clause-who g c = λ some asks. none_well c.from_residual-in_err-ends.result _ _ c.from_residual-in_err-ends.ensures.1
