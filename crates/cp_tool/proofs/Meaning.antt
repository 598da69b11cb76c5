-- What is explored of the slot machine is explored of the meaning: both have the same runs, table and traces.
use Rattle.std.proofs.Common.{◌≡◌, ℕ, List, false, Option, None, Some, Bool, true, MatchOption, subst, sym}
use Rattle.std.specs.Bool.{MatchBool}
use Rattle.arrayvec.specs.ArrayVec.{ArrayVec}
use Rattle.cp_tree.specs.Read.{IsRead}
use Rattle.cp_tree.specs.Syntax.{Tree}
use Rattle.cp_slots.specs.Tables.{Tables}
use Rattle.cp_meaning_laws.specs.Accepted.{IsAccepted}
use Rattle.cp_meaning.specs.State.{State}
use Rattle.cp_resolved.specs.Enumerations.{constant_names}
use Rattle.cp_resolved.specs.Resolving.{IsProgramOf}
use Rattle.cp_run.specs.Run.{Answer, run}
use Rattle.cp_run.specs.System.{System}
use Rattle.cp_run.specs.Table.{Line, table}
use Rattle.cp_run.specs.Trace.{trace}
use Rattle.cp_run.specs.declared.line.TraceLine.{TraceLine}
use Rattle.cp_machine_laws.specs.Law.{SameRuns}
use Rattle.cp_machine_laws.specs.Named.{named, named_discipline}
use Rattle.cp_meaning_laws.proofs.Accepting.{keeps_exclusion}
use Rattle.cp_machine_laws.proofs.Meaning.{runs_as_meant}
use Rattle.cp_resolved.proofs.Resolving.{read_names}
use Rattle.cp_walk.specs.Text.{Spellings}
use Rattle.cp_walk.specs.TraceText.{trace_text}
use Rattle.cp_tool.specs.Analysis.{is_merged}
use Rattle.cp_tool.specs.Answered.{IsReported, IsTraced, IsExplored, IsExploredAlone}
use Rattle.cp_tool.specs.Merged.{IsMerged, IsMergedOf}
use Rattle.cp_tool.specs.OnSlots.{IsExploredOn, machine, machine_rows}
use Rattle.cp_tool.specs.declared.options.Options.{Options}
use Rattle.cp_tool.specs.declared.answer.Verdict.{Verdict}

-- ---- two systems with the same runs

module _ {S T : Type 0} (a : System S) (b : System T) (o : Options) (names : Spellings) (verdict : Verdict) (text : List ℕ) (same : SameRuns a b o.choices o.steps) where
  traced : (word : List ℕ) → IsTraced o b names word verdict text → IsTraced o a names word verdict text
  traced word h =
      let runs = subst (λ (e : Answer). text ≡ trace_text names (trace b o.choices o.steps word) e word) (sym (same.runs word)) h.1 in
      (h.0, subst (λ (lines : List TraceLine). text ≡ trace_text names lines (run a o.choices o.steps word) word) (sym (same.traces word)) runs)

-- ---- a program that was read and is accepted

module _ (t : Tree) (r : Tables) (o : Options) (verdict : Verdict) (text : List ℕ) (read : ∥ IsRead t.program ∥₁) (ok : IsAccepted t) (is : IsProgramOf t r) where
  abbrev meaning : System State
  meaning = named t (named_discipline o.discipline)

  abbrev Rows : Bool → Spellings → Type 0
  Rows merge names = MatchBool merge (IsMergedOf o t names (table meaning o.choices o.steps) verdict text) (IsReported o names (table meaning o.choices o.steps) verdict text)

  abbrev RowsOnSlots : Bool → Spellings → Type 0
  RowsOnSlots merge names = MatchBool merge (IsMerged o (machine o r) names (machine_rows o r) verdict text) (IsReported o names (machine_rows o r) verdict text)

  abbrev OnSlots : Option (ArrayVec ℕ) → Spellings → Type 0
  OnSlots schedule names = MatchOption schedule (RowsOnSlots (is_merged o.analysis) names) (λ word. IsTraced o (machine o r) names word.items verdict text)

  same : SameRuns meaning (machine o r) o.choices o.steps
  same = runs_as_meant t r o.discipline read ok is.laid o.choices o.steps

  reported : (merge : Bool) (names : Spellings) → RowsOnSlots merge names → Rows merge names
  reported true names h = (r, is, subst (λ (rows : List Line). IsMerged o (machine o r) names rows verdict text) (sym same.tables) h)
  reported false names h = subst (λ (rows : List Line). IsReported o names rows verdict text) (sym same.tables) h

  by_schedule : (schedule : Option (ArrayVec ℕ)) (names : Spellings) → OnSlots schedule names → MatchOption schedule (Rows (is_merged o.analysis) names) (λ word. IsTraced o meaning names word.items verdict text)
  by_schedule None names h = reported (is_merged o.analysis) names h
  by_schedule (Some word) names h = traced meaning (machine o r) o names verdict text same word.items h

  explored_so : IsExploredOn o r verdict text → IsExplored o t verdict text
  explored_so h = by_schedule o.schedule (constant_names t.program) (subst (OnSlots o.schedule) (read_names t r read ok is.laid) h)

  pub explored : IsExploredOn o r verdict text → IsExploredAlone o t verdict text
  explored h = (explored_so h, keeps_exclusion t ok (named_discipline o.discipline))
