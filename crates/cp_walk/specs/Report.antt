-- The report of a table.
use Rattle.std.specs.Prelude.{ℕ, List, [], ◌∷◌, ◌++◌, length, count_by, nat_eq, unsigned_abs, Bool, codes, if◌then◌else◌}
use Rattle.std.specs.Int.{is_negative}
use Rattle.std.specs.List.{list_any}
use lib.Pointwise.{pointwise}
use Rattle.cp_natural.specs.Decimal.{number_text}
use Rattle.cp_machine.specs.declared.shown.Shown.{Shown}
use Rattle.cp_machine.specs.declared.shown.Shown.TheVariants.{Integer, Char, Truth, Constant}
use Rattle.cp_store.specs.declared.error.ErrorName.{ErrorName}
use Rattle.cp_store.specs.declared.error.ErrorName.TheVariants.{Overflow, ZeroDivisor, Range, NoCase, QueueInUse, NotInit, InitTwice, Assertion, Invariant}
use Rattle.cp_run.specs.declared.outcome.Outcome.{Outcome}
use Rattle.cp_run.specs.declared.outcome.OutcomeKind.{OutcomeKind}
use Rattle.cp_run.specs.declared.outcome.OutcomeKind.TheVariants.{Finished, AllWaiting, RunError, ChoiceLimit, StepLimit, OutputLimit}
use Rattle.cp_run.specs.Table.{Line, each}
use Rattle.cp_walk.specs.Text.{Spellings, word_text, outcome_text}

-- An outcome as a list of numbers: outcomes are the same where their numbers are. Each part begins with what tells its kind, so no
-- two outcomes have one list.

abbrev pub shown_numbers : Shown → List ℕ
shown_numbers (Integer z) = (if is_negative z then 1 else 0) ∷ unsigned_abs z ∷ []
shown_numbers (Char c) = 2 ∷ c ∷ []
shown_numbers (Truth b) = 3 ∷ (if b then 1 else 0) ∷ []
shown_numbers (Constant n) = 4 ∷ n ∷ []

abbrev pub number_of : ErrorName → ℕ
number_of Overflow = 0
number_of ZeroDivisor = 1
number_of Range = 2
number_of NoCase = 3
number_of QueueInUse = 4
number_of NotInit = 5
number_of InitTwice = 6
number_of Assertion = 7
number_of Invariant = 8

abbrev pub kind_numbers : OutcomeKind → List ℕ
kind_numbers Finished = 0 ∷ []
kind_numbers AllWaiting = 1 ∷ []
kind_numbers (RunError name process line) = 2 ∷ number_of name ∷ process ∷ line ∷ []
kind_numbers ChoiceLimit = 3 ∷ []
kind_numbers StepLimit = 4 ∷ []
kind_numbers OutputLimit = 5 ∷ []

abbrev pub outcome_numbers : Outcome → List ℕ
outcome_numbers o = kind_numbers o.kind ++ each shown_numbers o.output

abbrev pub same_outcome : Outcome → Outcome → Bool
same_outcome a b = pointwise nat_eq (outcome_numbers a) (outcome_numbers b)

-- the first row of each outcome, after those found before
abbrev pub firsts : List Line → List Line → List Line
firsts found [] = found
firsts found (l ∷ ls) = firsts (if list_any (λ m. same_outcome m.outcome l.outcome) found then found else found ++ l ∷ []) ls

-- the distinct outcomes in order of their first rows, by these
abbrev pub outcomes_of : List Line → List Line
outcomes_of lines = firsts [] lines

-- how many rows have the outcome of this one
abbrev pub count_of : List Line → Line → ℕ
count_of lines first = count_by (λ l. same_outcome l.outcome first.outcome) lines

abbrev pub row_text : Spellings → Line → List ℕ
row_text names l = codes "row " ++ word_text l.word ++ codes " " ++ outcome_text names l.outcome ++ codes "\n"

abbrev pub rows_text : Spellings → List Line → List ℕ
rows_text names lines = each (row_text names) lines

abbrev pub group_text : Spellings → List Line → Line → List ℕ
group_text names lines first = number_text (count_of lines first) ++ codes " first " ++ word_text first.word ++ codes " " ++ outcome_text names first.outcome ++ codes "\n"

abbrev pub groups_text : Spellings → List Line → List Line → List ℕ
groups_text names lines firsts = each (group_text names lines) firsts

-- the report; the lines of the rows where `rows` is true
abbrev pub report_text : Spellings → List Line → Bool → List ℕ
report_text names lines rows =
    (if rows then rows_text names lines else []) ++ codes "schedules " ++ number_text (length lines) ++ codes "\n" ++ codes "outcomes " ++ number_text (length (outcomes_of lines)) ++ codes "\n" ++ groups_text names lines (outcomes_of lines)
