-- What is answered to a program: with `--ends` which ends are possible in schedules of any length, unless one schedule is traced.
use Rattle.std.specs.Prelude.{◌≡◌, ◌&&◌, ℕ, suc, List, Bool, Option, None, Some}
use Rattle.std.specs.Bool.{MatchBool}
use Rattle.std.specs.Option.{is_none}
use Rattle.cp_tree.specs.Syntax.{Tree}
use Rattle.cp_slots.specs.Tables.{Tables}
use Rattle.cp_resolved.specs.Enumerations.{constant_names}
use Rattle.cp_resolved.specs.Resolving.{IsProgramOf}
use Rattle.cp_run.specs.Slots.{slots}
use Rattle.cp_meaning_laws.specs.Accepted.{KeepsExclusion}
use Rattle.cp_machine_laws.specs.Named.{named_discipline}
use Rattle.cp_endless_laws.specs.Silent.{without_output}
use Rattle.cp_ends.specs.Firsts.{those_within}
use Rattle.cp_ends.specs.Holds.{SlotFindings}
use Rattle.cp_ends.specs.Named.{IsAnswerOnNames, IsAnswerToOnNames}
use Rattle.cp_ends.specs.Told.{ends_text}
use Rattle.cp_ends.specs.Whole.{IsWhole, IsCutShort}
use Rattle.cp_ends.specs.declared.found.TheConstants.{MOST_VALUES}
use Rattle.cp_tool.specs.Analysis.{is_at_once, is_endless, tells_waits}
use Rattle.cp_tool.specs.Answered.{Answering, IsExploredAlone}
use Rattle.cp_tool.specs.declared.options.Options.{Options}
use Rattle.cp_tool.specs.declared.answer.Verdict.{Verdict}
use Rattle.cp_tool.specs.declared.answer.Verdict.TheVariants.{Reported, TooManyStates}
use Rattle.cp_tool.specs.AtOnce.{IsAtOnceReport}
use Rattle.cp_tool.specs.Waits.{IsWaitsReport}

-- ---- what was found

-- all that schedules of any length lead to: on the program's own names, and which states they come to on the slots of its tables
pub record IsComplete (o : Options) (t : Tree) (r : Tables) (f : SlotFindings) : Type 0 where
  pub on_names : IsAnswerOnNames t (named_discipline o.discipline) o.steps (suc MOST_VALUES) f.ends f.values
  pub on_slots : IsWhole (slots r o.discipline) without_output o.steps o.states f

-- all that schedules of at most so many choices lead to, where there are too many states
pub record IsCompleteTo (o : Options) (t : Tree) (r : Tables) (f : SlotFindings) (choices : ℕ) : Type 0 where
  pub on_names : IsAnswerToOnNames t (named_discipline o.discipline) o.steps choices (suc MOST_VALUES) (those_within choices f.ends) (those_within choices f.values)
  pub on_slots : IsCutShort (slots r o.discipline) without_output o.steps o.states choices f

abbrev pub AreAll : Options → Tree → Tables → SlotFindings → Option ℕ → Type 0
AreAll o t r f None = IsComplete o t r f
AreAll o t r f (Some choices) = IsCompleteTo o t r f choices

-- ---- what is told of it

-- its report; where nothing is left out, with `--waits` who may wait for ever stands after it
abbrev pub IsReportOf : Options → Tree → Tables → SlotFindings → Option ℕ → Verdict → List ℕ → Type 0
IsReportOf o t r f None verdict text =
    MatchBool (tells_waits o.analysis) (IsWaitsReport o t r f verdict text) ((verdict ≡ Reported) × (text ≡ ends_text (constant_names t.program) f None))
IsReportOf o t r f (Some choices) verdict text = (verdict ≡ TooManyStates) × (text ≡ ends_text (constant_names t.program) f (Some choices))

abbrev pub AreTold : Options → Tree → Tables → Verdict → List ℕ → Type 0
AreTold o t r verdict text = (f : SlotFindings) × (to : Option ℕ) × AreAll o t r f to × IsReportOf o t r f to verdict text

-- ---- what is answered

-- the ends, by the tables of the program
abbrev pub AreEndsBy : Options → Tree → Tables → Verdict → List ℕ → Type 0
AreEndsBy o t r verdict text = MatchBool (is_at_once o.analysis) (IsAtOnceReport o t r verdict text) (AreTold o t r verdict text)

-- with `--ends`; and in no state that the program reaches two processes are inside one monitor
abbrev pub AreEnds : Options → Answering
AreEnds o t verdict text = ((r : Tables) × IsProgramOf t r × AreEndsBy o t r verdict text) × KeepsExclusion t (named_discipline o.discipline)

-- whether it is asked for ends, and not for one schedule
abbrev pub asks_ends : Options → Bool
asks_ends o = is_endless o.analysis && is_none o.schedule

abbrev pub IsAnswered : Options → Answering
IsAnswered o t verdict text = MatchBool (asks_ends o) (AreEnds o t verdict text) (IsExploredAlone o t verdict text)
