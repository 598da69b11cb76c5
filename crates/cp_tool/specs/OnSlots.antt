-- What is explored of tables, by their machine on slots: what the calls say from which it is known of the meaning.
use Rattle.std.specs.Prelude.{ℕ, List, MatchOption}
use Rattle.std.specs.Bool.{MatchBool}
use Rattle.cp_slots.specs.Tables.{Tables}
use Rattle.cp_machine.specs.System.{Machine}
use Rattle.cp_run.specs.Slots.{slots}
use Rattle.cp_run.specs.System.{System}
use Rattle.cp_run.specs.Table.{Line, table}
use Rattle.cp_tool.specs.Analysis.{is_merged}
use Rattle.cp_tool.specs.Answered.{IsReported, IsTraced}
use Rattle.cp_tool.specs.Merged.{IsMerged}
use Rattle.cp_tool.specs.declared.options.Options.{Options}
use Rattle.cp_tool.specs.declared.answer.Verdict.{Verdict}

-- the slot machine of tables, by the discipline that the options name, and its rows
abbrev pub machine : Options → Tables → System Machine
machine o r = slots r o.discipline

abbrev pub machine_rows : Options → Tables → List Line
machine_rows o r = table (machine o r) o.choices o.steps

-- one schedule is traced, or all are reported
abbrev pub IsExploredOn : Options → Tables → Verdict → List ℕ → Type 0
IsExploredOn o r verdict text =
    MatchOption o.schedule (MatchBool (is_merged o.analysis) (IsMerged o (machine o r) r.names (machine_rows o r) verdict text) (IsReported o r.names (machine_rows o r) verdict text)) (λ word. IsTraced o (machine o r) r.names word.items verdict text)
