-- The text that tells a mark: whether all expectations hold, and of each that does not, or is not settled, why.
use Rattle.std.specs.Prelude.{ℕ, ◌-◌, ◌==◌, ◌&&◌, ◌||◌, not, Bool, true, false, if◌then◌else◌, List, [], ◌∷◌, ◌++◌, length, map, take, drop, Option, Some, None, slice_index_or, string_bytes, codes, decimal}
use Rattle.std.specs.Char.{is_ascii_whitespace}
use Rattle.std.specs.Str.{bytes_eq}
use Rattle.std.specs.List.{filter, list_any, prefix_len, suffix_len, zip}
use Rattle.cp_slots.specs.Tables.{Tables}
use Rattle.cp_legend.specs.Names.{Legend, legend_seen, path_in, process_in}
use Rattle.cp_machine.specs.declared.discipline.Discipline.{Discipline}
use Rattle.cp_run.specs.Table.{Line, each}
use Rattle.cp_run.specs.declared.outcome.OutcomeKind.{OutcomeKind}
use Rattle.cp_run.specs.declared.outcome.OutcomeKind.TheVariants.{AllWaiting, RunError, ChoiceLimit}
use Rattle.cp_story.specs.Sentences.{wait_text}
use Rattle.cp_story.specs.Waiting.{Waiting}
use Rattle.cp_walk.specs.Text.{Spellings, outcome_text, word_text}
use Rattle.cp_verdict.specs.Judged.{row_line}
use Rattle.cp_verdict.specs.endless.Naming.{Processes}
use Rattle.cp_verdict.specs.Marked.{is_against, is_unsettled}
use Rattle.cp_expectation.specs.Written.{doubt_text, expectation_text}
use Rattle.cp_verdict.specs.Written.{is_stopped, stops_text}
use Rattle.cp_expectation.specs.declared.expectation.Claim.{Claim}
use Rattle.cp_expectation.specs.declared.expectation.Claim.TheVariants.{Never, Sometimes, Only}
use Rattle.cp_expectation.specs.declared.expectation.Expectation.{Expectation}
use Rattle.cp_verdict.specs.declared.judging.Judgement.{Judgement}
use Rattle.cp_verdict.specs.declared.judging.Judgement.TheVariants as judgement
use Rattle.cp_verdict.specs.declared.marking.Standing.{Standing}
use Rattle.cp_verdict.specs.declared.marking.Standing.TheVariants as mark
use Rattle.cp_verdict.specs.declared.program.Marked.{Marked}
use Rattle.cp_verdict.specs.declared.program.Stops.{Stops}
use Rattle.cp_show_mark.specs.Stories.{waits_at_end}
use Rattle.cp_show_mark.specs.declared.examinee.Examinee.{Examinee}
use Rattle.cp_show_mark.specs.declared.excess.MarkExcess.{MarkExcess}
use Rattle.cp_show_mark.specs.declared.excess.MarkExcess.TheVariants.{States, Outcomes}

-- ---- the program that is marked

-- its names and its tables, the limits of its schedules, how many states a layer may have, the lines of its source, and whether its mark is told as JSON
pub record Setting : Type 0 where
  pub legend : Legend
  pub program : Tables
  pub discipline : Discipline
  pub choices : ℕ
  pub steps : ℕ
  pub states : ℕ
  pub source : List (List ℕ)
  pub as_json : Bool

abbrev pub setting_of : Examinee → Setting
setting_of x =
    record {
      legend = legend_seen x.legend.now;
      program = x.program.now;
      discipline = x.options.now.discipline;
      choices = x.options.now.choices;
      steps = x.options.now.steps;
      states = x.options.now.states;
      source = map string_bytes x.lines.now;
      as_json = x.as_json;
    }

-- its processes by their names and types
abbrev pub processes_in : Legend → Processes
processes_in l = record { components = l.components; systems = l.systems }

-- ---- lines of the source

abbrev pub without_blanks_before : List ℕ → List ℕ
without_blanks_before text = drop (prefix_len is_ascii_whitespace text) text

abbrev pub without_blanks_behind : List ℕ → List ℕ
without_blanks_behind text = take (length text - suffix_len is_ascii_whitespace text) text

-- a line, counted from 1, without the blanks around it; none is empty
abbrev pub line_text : List (List ℕ) → ℕ → List ℕ
line_text source line = without_blanks_behind (without_blanks_before (slice_index_or source (line - 1) []))

-- ---- the schedule against an expectation

abbrev pub waiting_text : Legend → Waiting → List ℕ
waiting_text l w = codes "  " ++ wait_text l w ++ codes "\n"

-- the process in error by its number and its name, and the line at which it was
abbrev pub place_text : Setting → (process line : ℕ) → List ℕ
place_text s process line = codes "  " ++ decimal process ++ codes " " ++ path_in (process_in s.legend.components process) ++ codes " at line " ++ decimal line ++ codes ": " ++ line_text s.source line ++ codes "\n"

-- who waits where at the end of a schedule
abbrev pub waits_in : Setting → (word : List ℕ) → List Waiting
waits_in s word = waits_at_end s.legend s.program s.discipline s.steps word

-- at the end of a schedule: where all wait, who waits and where; of a run error, who was in error and at which line
abbrev pub end_text : Setting → (word : List ℕ) → OutcomeKind → List ℕ
end_text s word AllWaiting = each (waiting_text s.legend) (waits_in s word)
end_text s word (RunError name process line) = place_text s process line
end_text s word _ = []

-- a schedule with its outcome, and its end
abbrev pub schedule_text : Setting → Line → List ℕ
schedule_text s l = word_text l.word ++ codes " " ++ outcome_text s.program.names l.outcome ++ codes "\n"

abbrev pub row_text : Setting → Line → List ℕ
row_text s l = codes "first against it: " ++ schedule_text s l ++ end_text s l.word l.outcome.kind

-- ---- an expectation with its judgement

abbrev pub mark_name : Standing → List ℕ
mark_name mark.Holds = codes "holds"
mark_name mark.Fails = codes "fails"
mark_name mark.Open = codes "not settled"

abbrev pub standing_of : Judgement → Standing
standing_of judgement.Holds = mark.Holds
standing_of (judgement.Shown r) = mark.Holds
standing_of (judgement.Against r) = mark.Fails
standing_of judgement.Missing = mark.Fails
standing_of judgement.Unsettled = mark.Open

abbrev pub open_text : Claim → List ℕ
open_text Never = codes ", and none so far is against it\n"
open_text Sometimes = codes ", and none so far settles it\n"
open_text Only = codes ", and none so far is against it\n"

abbrev pub stopped_text : Stops → Claim → List ℕ
stopped_text stops claim = codes "some schedules ended at " ++ stops_text stops ++ open_text claim

-- why an expectation does not hold, or is not settled
abbrev pub reason_text : Setting → Stops → Claim → Judgement → List ℕ
reason_text s stops claim (judgement.Against r) = row_text s (row_line r)
reason_text s stops claim judgement.Missing = codes "the table is complete and has no such schedule\n"
reason_text s stops claim judgement.Unsettled = stopped_text stops claim
reason_text s stops claim _ = []

-- the verdict, the expectation as it is written, and why
abbrev pub judged_text : Setting → Stops → Expectation × Judgement → List ℕ
judged_text s stops p = mark_name (standing_of p.1) ++ codes ": " ++ expectation_text p.0 ++ codes "\n" ++ reason_text s stops p.0.claim p.1

-- those that fail, or those that are not settled
abbrev pub is_of : (failing : Bool) → Judgement → Bool
is_of failing j = if failing then is_against j else is_unsettled j

abbrev pub those_text : Setting → Stops → (Judgement → Bool) → List (Expectation × Judgement) → List ℕ
those_text s stops is_so judged = each (judged_text s stops) (filter (λ p. is_so p.1) judged)

-- ---- where all hold

abbrev pub is_choice_limit : OutcomeKind → Bool
is_choice_limit ChoiceLimit = true
is_choice_limit _ = false

-- a schedule shows it that ended for want of choices: of a greater number nothing is proved then
abbrev pub may_go_on : Judgement → Bool
may_go_on (judgement.Shown r) = is_choice_limit r.outcome.kind
may_go_on _ = false

-- each schedule shows it
abbrev pub is_of_each : Judgement → Bool
is_of_each judgement.Holds = true
is_of_each _ = false

-- of which schedules they hold where some ended at a limit
abbrev pub reach_text : List Judgement → List ℕ
reach_text js = if list_any may_go_on js then codes "shown by a schedule; some ended at " else (if list_any is_of_each js then codes "shown by each schedule, for every greater number of choices too; some ended at " else codes "shown by a schedule, for every greater number of choices too; others ended at ")

abbrev pub extent_text : List Judgement → Stops → List ℕ
extent_text js stops = if is_stopped stops then reach_text js ++ stops_text stops ++ codes "\n" else codes "complete: the same for every greater number of choices\n"

abbrev pub holds_text : List Judgement → Stops → Standing → List ℕ
holds_text js stops mark.Holds = codes "holds\n" ++ extent_text js stops
holds_text js stops _ = []

-- ---- what else is said

-- where the longest schedules that can be asked for are too short: who tells of longer ones
abbrev pub longer_text : (choices : ℕ) → Stops → Standing → List ℕ
longer_text choices stops mark.Open = if stops.choices && choices == 100 then codes "./show mark --ends says what holds of schedules of any length\n" else []
longer_text choices stops _ = []

-- one of the names is the word, and none before it is empty
abbrev pub is_among : Spellings → List ℕ → Bool
is_among [] word = false
is_among (name ∷ names) word = not (length name == 0) && (bytes_eq name word || is_among names word)

unfoldable pub most_constants : ℕ
most_constants = 65535

-- it is the name of a constant, of which a program has so many at most
abbrev pub is_declared : Spellings → List ℕ → Bool
is_declared names word = is_among (take most_constants names) word

-- the doubtful word, if the program declares a constant of this name
abbrev pub doubt_told : Spellings → Option (List ℕ) → Option (List ℕ)
doubt_told names None = None
doubt_told names (Some word) = if is_declared names word then Some word else None

-- how it is written as a value
abbrev pub doubtful_text : Option (List ℕ) → List ℕ
doubtful_text None = []
doubtful_text (Some word) = doubt_text word

-- ---- the whole

-- `holds`, if all hold, and of which schedules; those that fail; those that are not settled; what else is said
abbrev pub mark_text : Setting → List Expectation → (doubtful : Option (List ℕ)) → Marked → List ℕ
mark_text s es doubtful m =
    let judged = zip es m.judgements.items in
    holds_text m.judgements.items m.stops m.mark ++ those_text s m.stops is_against judged ++ those_text s m.stops is_unsettled judged ++ longer_text s.choices m.stops m.mark ++ doubtful_text (doubt_told s.program.names doubtful)

-- ---- where there is too much

abbrev pub excess_text : (states : ℕ) → MarkExcess → List ℕ
excess_text states States = codes "too many states: a layer may have " ++ decimal states ++ codes "\ntry greater --states, or mark --ends\n"
excess_text states Outcomes = codes "too many outcomes\ntry smaller --choices\n"

abbrev pub known_text : (choices : ℕ) → List ℕ → List ℕ
known_text choices text = codes "of all schedules of at most " ++ decimal choices ++ codes " choices:\n" ++ text

abbrev pub known_if : Option (ℕ × List ℕ) → List ℕ
known_if None = []
known_if (Some k) = known_text k.0 k.1
