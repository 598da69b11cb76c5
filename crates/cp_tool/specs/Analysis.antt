-- Which analysis of its schedules is asked for, and what that means for the limits.
use Rattle.std.specs.Prelude.{Bool, false, true, if◌then◌else◌, ℕ, Option, Some, None}
use Rattle.cp_tool.specs.declared.analysis.Analysis.{Analysis}
use Rattle.cp_tool.specs.declared.analysis.Analysis.TheVariants.{Table, Merged, Ends, EndsAndWaits, EndsAtOnce}
use Rattle.cp_tool.specs.declared.analysis.AnalysisFlags.{AnalysisFlags}

-- whether rows are listed
abbrev pub lists_rows : Analysis → Bool
lists_rows (Table rows) = rows
lists_rows _ = false

-- whether schedules that come to one state are taken together
abbrev pub is_merged : Analysis → Bool
is_merged (Table rows) = false
is_merged _ = true

-- whether schedules may have any length
abbrev pub is_endless : Analysis → Bool
is_endless (Table rows) = false
is_endless Merged = false
is_endless _ = true

-- whether it is told who may wait for ever
abbrev pub tells_waits : Analysis → Bool
tells_waits EndsAndWaits = true
tells_waits _ = false

-- whether kernel calls are made at once
abbrev pub is_at_once : Analysis → Bool
is_at_once EndsAtOnce = true
is_at_once _ = false

-- the most choices of a schedule, and how many it has where the words don't say so: the most, or else 8
abbrev pub most_choices : Analysis → ℕ
most_choices a = if is_merged a then 100 else 20

abbrev pub usual_choices : (is_longest : Bool) → Analysis → ℕ
usual_choices is_longest a = if is_longest then most_choices a else 8

-- how many states there may be where the words don't say so
abbrev pub usual_states : Analysis → ℕ
usual_states a = if is_at_once a then 2000000 else 200000

-- ---- the flags

abbrev pub analysis_by : (rows merge ends waits at_once : Bool) → Option Analysis
analysis_by rows false false false false = Some (Table rows)
analysis_by false true false false false = Some Merged
analysis_by false false true false false = Some Ends
analysis_by false false true true false = Some EndsAndWaits
analysis_by false false true false true = Some EndsAtOnce
analysis_by _ _ _ _ _ = None

-- the analysis that flags ask for; others can't stand together
abbrev pub analysis_for : AnalysisFlags → Option Analysis
analysis_for f = analysis_by f.rows f.merge f.ends f.waits f.at_once
