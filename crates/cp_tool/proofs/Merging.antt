-- What is answered where states are merged, of the limits that the options give.
use Rattle.std.proofs.Common.{◌≡◌, ℕ, ◌+◌, ◌⊎◌, false, List, codes, subst}
use Rattle.cp_slots.specs.Tables.{Tables}
use Rattle.cp_machine.specs.declared.discipline.Discipline.{Discipline}
use Rattle.cp_run.specs.Slots.{slots}
use Rattle.cp_run.specs.Table.{table}
use Rattle.cp_run.specs.declared.limits.Limits.{Limits}
use Rattle.cp_walk.specs.Report.{report_text}
use Rattle.cp_merged.specs.TooMany.{FitsBefore, IsDueFault}
use Rattle.cp_merged.specs.declared.fault.MergeFault.TheVariants as fault
use Rattle.cp_tool.specs.Merged.{IsMerged}
use Rattle.cp_tool.specs.OnSlots.{machine, machine_rows}
use Rattle.cp_tool.specs.declared.options.Options.{Options}
use Rattle.cp_tool.specs.declared.answer.Verdict.{Verdict}
use Rattle.cp_tool.specs.declared.answer.Verdict.TheVariants.{Reported, TooManyStates, TooManyOutcomes}

abbrev pub IsMergedBy : ℕ → ℕ → Discipline → ℕ → Tables → Verdict → List ℕ → Type 0
IsMergedBy choices steps discipline states program verdict text =
    let sys = slots program discipline in
    ((verdict ≡ Reported) × FitsBefore sys choices steps states (choices + 1) × (text ≡ report_text program.names (table sys choices steps) false))
    ⊎ (((verdict ≡ TooManyStates) × IsDueFault sys choices steps states fault.TooManyStates × (text ≡ codes "too many states\n"))
    ⊎ ((verdict ≡ TooManyOutcomes) × IsDueFault sys choices steps states fault.TooManyOutcomes × (text ≡ codes "too many outcomes\n")))

-- by the limits of the options
abbrev pub IsMergedOf : Options → Tables → Verdict → List ℕ → Type 0
IsMergedOf o program verdict text = IsMerged o (machine o program) program.names (machine_rows o program) verdict text

pub merged_by : (o : Options) (l : Limits) (program : Tables) (verdict : Verdict) (text : List ℕ) → (l.choices ≡ o.choices) × (l.steps ≡ o.steps) × (l.discipline ≡ o.discipline) → IsMergedBy l.choices l.steps l.discipline o.states program verdict text → IsMergedOf o program verdict text
merged_by o l program verdict text same h =
    let a = subst (λ (n : ℕ). IsMergedBy n l.steps l.discipline o.states program verdict text) same.0 h in
    let b = subst (λ (n : ℕ). IsMergedBy o.choices n l.discipline o.states program verdict text) same.1 a in
    subst (λ (g : Discipline). IsMergedBy o.choices o.steps g o.states program verdict text) same.2 b
