-- The text of the outcomes that were found.
use Rattle.std.specs.Prelude.{ℕ, ◌+◌, ◌-◌, ◌==◌, List, [], ◌∷◌, ◌++◌, length, replicate, Bool, Option, Some, None, nat_eq, nat_lt, codes, if◌then◌else◌}
use lib.Pointwise.{pointwise}
use Rattle.cp_machine.specs.declared.discipline.Signals.{Signals}
use Rattle.cp_machine.specs.declared.discipline.Signals.TheVariants as signals
use Rattle.cp_natural.specs.Decimal.{number_text}
use Rattle.cp_run.specs.Table.{each}
use Rattle.cp_walk.specs.Groups.{Tally}
use Rattle.cp_walk.specs.Text.{word_text, kind_text, outcome_text}
use Rattle.cp_merged.specs.Told.{rows_in}
use Rattle.cp_simplest.specs.declared.finding.SimplestSchedule.{SimplestSchedule}
use Rattle.cp_outcomes.specs.Shares.{share_in, share_text}
use Rattle.cp_outcomes.specs.Stops.{kind_at, rows_at, stops}
use Rattle.cp_outcomes.specs.Told.{Setting, Told, end_lines}
use Rattle.cp_outcomes.specs.declared.stopped.Limit.{Limit}
use Rattle.cp_outcomes.specs.declared.stopped.Limit.TheVariants.{Choices, Steps, Output}
use Rattle.cp_outcomes.specs.declared.subject.Excess.{Excess}
use Rattle.cp_outcomes.specs.declared.subject.Excess.TheVariants.{States, Outcomes}

unfoldable pub blanks : ℕ → List ℕ
blanks n = replicate n 32

-- at the right of a column
abbrev pub right_text : ℕ → List ℕ → List ℕ
right_text width text = blanks (width - length text) ++ text

-- a share in its column, with a blank before it and after it in any case
abbrev pub share_column : List ℕ → List ℕ
share_column share = if nat_lt (length share) 8 then right_text 8 share ++ codes "  " else codes " " ++ share ++ codes " "

-- one of them, or some
abbrev pub counted_text : ℕ → List ℕ → List ℕ → List ℕ
counted_text n one some = number_text n ++ (if n == 1 then one else some)

abbrev pub schedules_text : ℕ → List ℕ
schedules_text n = counted_text n (codes " schedule") (codes " schedules")

-- the discipline, where it is another one than `return`
abbrev pub signals_text : Signals → List ℕ
signals_text signals.Return = []
signals_text signals.Continue = codes ", signals continue"
signals_text signals.Wait = codes ", signals wait"

-- how many schedules and how many outcomes there are, and who goes on after a continue
abbrev pub heading_text : (schedules outcomes : ℕ) → Signals → List ℕ
heading_text schedules outcomes s = schedules_text schedules ++ codes ", " ++ counted_text outcomes (codes " outcome") (codes " outcomes") ++ signals_text s ++ codes "\n\n"

abbrev pub simplest_text : SimplestSchedule → List ℕ
simplest_text s = codes ", simplest " ++ word_text s.word.items ++ codes ", " ++ counted_text s.switches (codes " switch") (codes " switches")

-- the simplest schedule, where it is another one than the first
abbrev pub other_text : List ℕ → SimplestSchedule → List ℕ
other_text first s = if pointwise nat_eq s.word.items first then [] else simplest_text s

abbrev pub simple_text : List ℕ → Option SimplestSchedule → List ℕ
simple_text first None = []
simple_text first (Some s) = other_text first s

-- a line below the outcome
unfoldable pub line_text : ℕ → List ℕ → List ℕ
line_text width line = blanks width ++ blanks 11 ++ line ++ codes "\n"

-- an outcome: its number and share, its kind and output; how many schedules have it, the first and the simplest; the lines of its end
unfoldable pub told_text : Setting → (width whole number : ℕ) → Told → List ℕ
told_text s width whole number t =
    right_text width (number_text number) ++ codes "." ++ share_column (share_text (share_in t.tally.count whole)) ++ outcome_text s.program.names t.tally.first.outcome ++ codes "\n" ++ line_text width (schedules_text t.tally.count ++ codes ", first " ++ word_text t.tally.first.word ++ simple_text t.tally.first.word t.simple) ++ each (line_text width) (end_lines s t.tally)

-- with numbers from this one on
abbrev pub numbered_text : Setting → (width whole number : ℕ) → List Told → List ℕ
numbered_text s width whole number [] = []
numbered_text s width whole number (t ∷ ts) = told_text s width whole number t ++ numbered_text s width whole (number + 1) ts

-- that simplest schedules were not searched for
abbrev pub searched_text : ℕ → Bool → List ℕ
searched_text states searched = if searched then [] else codes "\nsimplest schedules: not searched, with more than " ++ number_text states ++ codes " states\n"

-- what to try where runs ended at a limit
abbrev pub advice_text : (choices steps : ℕ) → Limit → List ℕ
advice_text choices steps Choices = if nat_lt choices 100 then codes " (try greater --choices)" else codes " (./show ends tells of schedules of any length)"
advice_text choices steps Steps = if nat_lt steps 100000 then codes " (try greater --steps, or ./show ends for a loop that never ends)" else codes " (./show ends tells a loop that never ends)"
advice_text choices steps Output = codes " (a run displays at most 1000 values)"

-- how many schedules ended at a limit
abbrev pub stop_text : (choices steps count : ℕ) → Limit → List ℕ
stop_text choices steps count limit = schedules_text count ++ codes " ended as " ++ kind_text (kind_at limit) ++ advice_text choices steps limit

-- it begins the last line where none did before, and goes on with it where one did
abbrev pub begun_text : (begun : Bool) (count : ℕ) → List ℕ → List ℕ
begun_text begun count stop = if count == 0 then [] else (if begun then codes ", " else codes "\nnot complete: ") ++ stop

-- the last line: complete where no limit stopped a run
abbrev pub closing_text : (Limit → List ℕ) → List Limit → List ℕ
closing_text stop [] = codes "\ncomplete: the same for every greater number of choices and of steps\n"
closing_text stop (l ∷ ls) = codes "\nnot complete: " ++ stop l ++ each (λ m. codes ", " ++ stop m) ls ++ codes "\n"

-- all of it: these outcomes, told so
abbrev pub outcomes_text : Setting → Bool → List Tally → List Told → List ℕ
outcomes_text s searched ts told =
    heading_text (rows_in ts) (length ts) s.discipline.signals ++ numbered_text s (length (number_text (length told))) (rows_in ts) 1 told ++ searched_text s.states searched ++ closing_text (λ l. stop_text s.choices s.steps (rows_at l ts) l) (stops ts)

-- that there is too much of it
abbrev pub excess_text : Excess → List ℕ
excess_text (States most) = codes "too many states: a layer may have " ++ number_text most ++ codes "\ntry greater --states, or ./show ends\n"
excess_text Outcomes = codes "too many outcomes: there may be 50000\ntry smaller --choices\n"

-- what is told of all schedules of fewer choices
abbrev pub known_text : ℕ → List ℕ → List ℕ
known_text choices told = codes "\nof all schedules of at most " ++ number_text choices ++ codes " choices:\n\n" ++ told
