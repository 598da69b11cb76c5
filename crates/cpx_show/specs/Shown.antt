-- What is shown of a program that is accepted: by each part, a verdict and a text.
use Rattle.std.specs.Prelude.{◌≡◌, ℕ, List, map, Bool, false, true, codes, option_map, string_bytes}
use Rattle.cp_tree.specs.Syntax.{Tree}
use Rattle.cp_symbols.specs.declared.symbols.Symbols.{Symbols}
use Rattle.cp_slots.specs.Tables.{Tables}
use Rattle.cp_layout.specs.Laid.{whole}
use Rattle.cp_layout.specs.Symbols.{AreSymbolsOf}
use Rattle.cp_resolved.specs.Enumerations.{constant_names}
use Rattle.cp_resolved.specs.Resolving.{IsProgramOf}
use Rattle.cp_legend.specs.declared.legend.Legend as code_legend
use Rattle.cp_legend.specs.Names.{IsLegendOf, legend_seen, source_seen}
use Rattle.cp_legend_laws.specs.Statements.{ComponentsAreNamed}
use Rattle.cp_run.specs.Code.{answer_of}
use Rattle.cp_run.specs.Run.{run}
use Rattle.cp_run.specs.Table.{table}
use Rattle.cp_run.specs.Trace.{trace}
use Rattle.cp_machine_laws.specs.Named.{named, named_discipline}
use Rattle.cp_tool.specs.Analysis.{is_endless}
use Rattle.cp_tool.specs.declared.options.Options.{Options}
use Rattle.cp_story.specs.Halted.{halted_seen}
use Rattle.cp_story.specs.Told.{lines_of}
use Rattle.cp_story.specs.Views.{decision_of, told_of, wait_of}
use Rattle.cp_story_laws.specs.Events.{events_on_names, names_telling}
use Rattle.cp_story_laws.specs.Statements.{event_on_names, wait_on_names}
use Rattle.cp_story_laws.specs.Stops.{stop_on_names}
use Rattle.cp_story_laws.specs.Waits.{who_waits_on_names}
use Rattle.cp_outcomes.specs.Meant.{IsFoundIn}
use Rattle.cp_outcomes.specs.declared.subject.Format.{Format}
use Rattle.cp_refusal.specs.Text.{BeginsWith}
use Rattle.cp_expectation.specs.Words.{words_of}
use Rattle.cp_verdict.specs.endless.Marked.{with_tables}
use Rattle.cp_verdict.specs.endless.Naming.{processes_of}
use Rattle.cp_show_mark.specs.Given.{IsGiven, MeansGiven, TellsGivenEnds, TellsGivenText}
use Rattle.cp_show_mark.specs.MarkText.{Setting}
use Rattle.cp_show_mark.specs.declared.answer.ShowVerdict.{ShowVerdict}
use Rattle.cp_show_mark.specs.declared.answer.ShowVerdict.TheVariants.{Reported}
use Rattle.cp_show_options.specs.declared.parts.Asked.{Asked}
use Rattle.cp_show_options.specs.declared.parts.ShowPart.{ShowPart}
use Rattle.cp_show_options.specs.declared.parts.ShowPart.TheVariants as part
use Rattle.cpx_show.specs.Schedules.{DrawsAll, IsStoryText, IsTracedAs, trace_form}
use Rattle.cpx_show.specs.Selecting.{GivesSchedule}
use Rattle.cpx_show.specs.Summaries.{AreEndsOf, AreOutcomesOf, IsCovered, form_of}
use Rattle.cpx_show.specs.declared.schedules.ScheduleForm.{ScheduleForm}
use Rattle.cpx_show.specs.declared.schedules.ScheduleForm.TheVariants as schedule_form
use Rattle.cpx_show.specs.declared.selecting.ChosenSchedule.{ChosenSchedule}

-- The tables of a tree, and a legend of what its names stand for. So each component has the path that the language gives it.
pub record AreNamed (t : Tree) (r : Tables) (l : code_legend.Legend) : Type 0 where
  pub stands : IsProgramOf t r
  pub symbols : Symbols
  pub noted : AreSymbolsOf symbols (whole t)
  pub legend : IsLegendOf l (source_seen symbols) r.components
  pub called : ∥ ComponentsAreNamed t r l ∥₁

-- ---- one schedule

-- The story of a word in names is told of the meaning of the program: its events have the lines of the trace, and each is the one that happens there on the program's own
-- names; so is the last choice, who waits where the run stops, and how it stops where no event tells of it; and it ends as the run does.
pub record IsTraceInNames (f : ScheduleForm) (o : Options) (t : Tree) (r : Tables) (l : code_legend.Legend) (source : List (List ℕ)) (s : ChosenSchedule) (text : List ℕ) : Type 0 where
  pub told : IsStoryText f o r (legend_seen l) source s text
  pub lines : lines_of told.story.events.items ≡ trace (named t (named_discipline o.discipline)) o.choices o.steps s.word.items
  pub events : ∥ map (event_on_names (legend_seen l)) (map told_of told.story.events.items) ≡ events_on_names t (named_discipline o.discipline) o.choices o.steps s.word.items ∥₁
  pub last_choice : ∥ option_map decision_of told.story.last_choice ≡ (names_telling t (named_discipline o.discipline) o.choices o.steps s.word.items).past.choice ∥₁
  pub waits : ∥ map (wait_on_names (legend_seen l)) (map wait_of told.story.waits.items) ≡ who_waits_on_names t (named_discipline o.discipline) o.choices o.steps s.word.items ∥₁
  pub stop : ∥ option_map halted_seen told.story.stop ≡ stop_on_names t (named_discipline o.discipline) o.choices o.steps s.word.items ∥₁
  pub end : answer_of told.story.end ≡ run (named t (named_discipline o.discipline)) o.choices o.steps s.word.items
  pub constants : r.names ≡ constant_names t.program

-- ---- the outcomes of all schedules

-- what is told of them is found in the table of the meaning
pub record AreOutcomes (form : Format) (o : Options) (t : Tree) (r : Tables) (l : code_legend.Legend) (verdict : ShowVerdict) (text : List ℕ) : Type 0 where
  pub so : AreOutcomesOf form o r l verdict text
  pub found : IsFoundIn (λ choices. table (named t (named_discipline o.discipline)) choices o.steps) o.choices so.told.finding

-- with what no schedule comes to behind them, where that is asked for
abbrev pub AreOutcomesShown : (json cover : Bool) → Options → Tree → Tables → code_legend.Legend → ShowVerdict → List ℕ → Type 0
AreOutcomesShown json cover o t r l verdict text = (told : List ℕ) × AreOutcomes (form_of json) o t r l verdict told × IsCovered json cover told text

-- ---- the mark

-- the program that is marked, the limits within which it is, and the form in which that is told
abbrev pub setting_of : (json : Bool) → Options → Tables → code_legend.Legend → (source : List (List ℕ)) → Setting
setting_of json o r l source = record { legend = legend_seen l; program = r; discipline = o.discipline; choices = o.choices; steps = o.steps; states = o.states; source = source; as_json = json }

-- the mark of the expectations that the words or the comments of the source give, by the meaning; and what tells it, of schedules within the limits or of any length
abbrev pub IsGivenMark : (json : Bool) → Options → Tree → Tables → code_legend.Legend → (words : List ℕ) → (with_own : Bool) → (bytes : List ℕ) → (source : List (List ℕ)) → ShowVerdict → List ℕ → Type 0
IsGivenMark json o t r l words with_own bytes source verdict text =
    ((given : List ℕ) × IsGiven words with_own bytes given × MeansGiven t o (processes_of l) (words_of given) verdict) × (is_endless o.analysis ≡ false → (given : List ℕ) × IsGiven words with_own bytes given × TellsGivenText (setting_of json o r l source) o (with_tables r (processes_of l)) (words_of given) verdict text) × (is_endless o.analysis ≡ true → (given : List ℕ) × IsGiven words with_own bytes given × TellsGivenEnds (setting_of json o r l source) o (with_tables r (processes_of l)) (words_of given) verdict text)

-- ---- the parts

-- One schedule in names; all outcomes; whether all ends are found; the mark of what is expected; or that a program is accepted. Of the other parts no more is said than this.
abbrev pub IsShown : ShowPart → Asked → Tree → Tables → code_legend.Legend → (bytes : List ℕ) → (source : List (List ℕ)) → ShowVerdict → List ℕ → Type 0
IsShown (part.Trace json) a t r l bytes source verdict text = IsTracedAs (trace_form json) (IsTraceInNames (trace_form json) a.options t r l source) a r verdict text
IsShown (part.Lanes view) a t r l bytes source verdict text = GivesSchedule a.schedule → DrawsAll (schedule_form.Picture view) → verdict ≡ Reported
IsShown (part.Page states) a t r l bytes source verdict text = Unit {0}
IsShown (part.Outcomes json cover) a t r l bytes source verdict text = AreOutcomesShown json cover a.options t r l verdict text
IsShown (part.Ends json) a t r l bytes source verdict text = AreEndsOf a.options r verdict
IsShown (part.Mark words own json) a t r l bytes source verdict text = IsGivenMark json a.options t r l (string_bytes words) own bytes source verdict text
IsShown (part.Refusal json file) a t r l bytes source verdict text = (verdict ≡ Reported) × (json ≡ false → BeginsWith (codes "accepted\n") text)
