use Rattle.std.proofs.Common.{◌≡◌, arith, subst}
use Rattle.cp_run.specs.Slots.{slots}
use Rattle.cp_endless_laws.specs.Silent.{waits_on_slots}
use Rattle.cp_waiting_ends.specs.Ending.{AreEndsWithin}
use Rattle.cp_verdict.proofs.who.Ending.{ends_in}
use Rattle.cp_verdict.proofs.who.Rows.{none_short}
use Rattle.cp_verdict.proofs.waiting.marking.ends_asked.Goals as goal

pub returns-then-not-name_who-clause-short : goal.returns-then-not-name_who-clause-short
returns-then-not-name_who-clause-short g c = none_short c.none.result c.none.ensures.words

pub returns-then-not-name_who-clause-ends : goal.returns-then-not-name_who-clause-ends
returns-then-not-name_who-clause-ends g c = λ asks. (let said = c.name_who.ensures in let none = c.if-not-name_who.true in absurd (cc (said, none, asks)))

pub returns-clause-short : goal.returns-clause-short
returns-clause-short g c = λ e x.
    (let within = (c.in_ok-noted.ensures.ends.each e x).1 in
    let most = c.in_ok-noted.ensures.choices in
    let few = c.args.job.limits.few_choices in
    omega (arith, within, most, few))

pub returns-clause-ends : goal.returns-clause-ends
returns-clause-ends g c = λ asks.
    let job = c.args.job in
    let sys = slots job.program.now job.limits.discipline in
    let most = c.in_ok-noted.ensures.choices in
    let same : c.in_ok-noted.noted.choices ≡ job.limits.choices = omega (arith, most) in
    ends_in sys waits_on_slots job.limits.steps job.limits.choices c.in_ok-noted.noted.note (subst (λ n. AreEndsWithin sys waits_on_slots job.limits.steps n c.in_ok-noted.noted.note) same c.in_ok-noted.ensures.ends)
