use Rattle.std.proofs.Common.{◌≡◌, ◌∙◌, List, ℕ, map, subst}
use Rattle.cp_machine.specs.declared.discipline.Discipline.{Discipline}
use Rattle.cp_run.specs.Slots.{slots}
use Rattle.cp_run.specs.Table.{table}
use Rattle.cp_walk.specs.Report.{same_outcome}
use Rattle.cp_merged.specs.Code.{tally_of}
use Rattle.cp_merged.specs.Tallies.{tally}
use Rattle.cp_merged.specs.declared.tally.Tally.{Tally}
use Rattle.cp_expectation.specs.declared.expectation.Expectation.{Expectation}
use Rattle.cp_verdict.specs.endless.Naming.{processes_of}
use Rattle.cp_show_mark.specs.Showing.{IsSlotMark}
use Rattle.cp_show_mark.proofs.marks.saying_of_known.Goals as goal

pub returns-in_ok-mark_text-in-Ok : goal.returns-in_ok-mark_text-in-Ok
returns-in_ok-mark_text-in-Ok g c =
    let o = c.args.examinee.options.now in
    let r = c.args.examinee.program.now in
    let ps = processes_of c.args.examinee.legend.now in
    let k = c.args.known.now in
    let m = c.in-Ok.marked in
    let l = c.with_choices.result in
    let Says : List Tally → List Expectation → ℕ → ℕ → Discipline → Type 0 = λ ts es choices steps discipline. map tally_of ts ≡ tally same_outcome (table (slots r discipline) choices steps) → IsSlotMark r ps discipline choices steps es m in
    let says : Says c.as_slice-tallies.result.now c.as_slice-list.result.now l.choices l.steps l.discipline = λ are. (c.in-Ok.ensures.mark are, λ no. c.in-Ok.ensures.rows no (table (slots r l.discipline) l.choices l.steps) are) in
    let of_known = subst (λ (ts : List Tally). Says ts c.as_slice-list.result.now l.choices l.steps l.discipline) c.as_slice-tallies.ensures.value says in
    let of_list = subst (λ (es : List Expectation). Says k.tallies es l.choices l.steps l.discipline) c.as_slice-list.ensures.value of_known in
    let choices = subst (λ (n : ℕ). Says k.tallies c.args.reading.now.expectations.items n l.steps l.discipline) c.with_choices.ensures.0 of_list in
    let steps = subst (λ (n : ℕ). Says k.tallies c.args.reading.now.expectations.items k.choices n l.discipline) (c.with_choices.ensures.1 ∙ c.limits.ensures.1) choices in
    (m, c.in_ok-mark_text-in-Ok.ensures, subst (λ (d : Discipline). Says k.tallies c.args.reading.now.expectations.items k.choices o.steps d) (c.with_choices.ensures.2 ∙ c.limits.ensures.2) steps)
