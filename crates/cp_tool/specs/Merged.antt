-- What is answered where equal states are merged. The states that are counted are those of a machine on slots; whoever does not merge meets none.
use Rattle.std.specs.Prelude.{◌≡◌, ℕ, ◌⊎◌, ◌+◌, false, List, codes}
use Rattle.cp_tree.specs.Syntax.{Tree}
use Rattle.cp_slots.specs.Tables.{Tables}
use Rattle.cp_resolved.specs.Resolving.{IsProgramOf}
use Rattle.cp_machine.specs.System.{Machine}
use Rattle.cp_run.specs.Slots.{slots}
use Rattle.cp_run.specs.System.{System}
use Rattle.cp_run.specs.Table.{Line}
use Rattle.cp_walk.specs.Text.{Spellings}
use Rattle.cp_walk.specs.Report.{report_text}
use Rattle.cp_merged.specs.TooMany.{FitsBefore, IsDueFault}
use Rattle.cp_merged.specs.declared.fault.MergeFault.TheVariants as fault
use Rattle.cp_tool.specs.declared.options.Options.{Options}
use Rattle.cp_tool.specs.declared.answer.Verdict.{Verdict}
use Rattle.cp_tool.specs.declared.answer.Verdict.TheVariants.{Reported, TooManyStates, TooManyOutcomes}

-- the report of any number of rows, or what of the machine is too many first
abbrev pub IsMerged : Options → System Machine → Spellings → List Line → Verdict → List ℕ → Type 0
IsMerged o machine names rows verdict text =
    ((verdict ≡ Reported) × FitsBefore machine o.choices o.steps o.states (o.choices + 1) × (text ≡ report_text names rows false))
    ⊎ (((verdict ≡ TooManyStates) × IsDueFault machine o.choices o.steps o.states fault.TooManyStates × (text ≡ codes "too many states\n"))
    ⊎ ((verdict ≡ TooManyOutcomes) × IsDueFault machine o.choices o.steps o.states fault.TooManyOutcomes × (text ≡ codes "too many outcomes\n")))

-- the machine of the tables of a program, by the discipline that the options name
abbrev pub IsMergedOf : Options → Tree → Spellings → List Line → Verdict → List ℕ → Type 0
IsMergedOf o t names rows verdict text = (program : Tables) × IsProgramOf t program × IsMerged o (slots program o.discipline) names rows verdict text
