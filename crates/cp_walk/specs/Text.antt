-- The texts of words and outcomes, as lists of bytes.
use Rattle.std.specs.Prelude.{ℕ, List, [], ◌∷◌, ◌++◌, ◌&&◌, not, ◌==◌, nat_le, slice_index_or, decimal, codes, if◌then◌else◌}
use Rattle.std.specs.Fmt.{signed_decimal}
use Rattle.cp_store.specs.declared.error.ErrorName.{ErrorName}
use Rattle.cp_store.specs.declared.error.ErrorName.TheVariants.{Overflow, ZeroDivisor, Range, NoCase, QueueInUse, NotInit, InitTwice, Assertion, Invariant}
use Rattle.cp_machine.specs.declared.shown.Shown.{Shown}
use Rattle.cp_machine.specs.declared.shown.Shown.TheVariants.{Integer, Char, Truth, Constant}
use Rattle.cp_run.specs.declared.outcome.Outcome.{Outcome}
use Rattle.cp_run.specs.declared.outcome.OutcomeKind.{OutcomeKind}
use Rattle.cp_run.specs.declared.outcome.OutcomeKind.TheVariants.{Finished, AllWaiting, RunError, ChoiceLimit, StepLimit, OutputLimit}

-- the texts of the elements, joined by a byte; a hyphen where there are none
abbrev pub behind_each : {A : Type 0} → ℕ → (A → List ℕ) → List A → List ℕ
behind_each sign text [] = []
behind_each sign text (x ∷ xs) = (sign ∷ text x) ++ behind_each sign text xs

abbrev pub joined_by : {A : Type 0} → ℕ → (A → List ℕ) → List A → List ℕ
joined_by sign text [] = codes "-"
joined_by sign text (x ∷ xs) = text x ++ behind_each sign text xs

-- its numbers, joined by periods
abbrev pub word_text : List ℕ → List ℕ
word_text word = joined_by 46 decimal word

-- a printed character between apostrophes, any other by its code
abbrev pub char_text : ℕ → List ℕ
char_text c = if nat_le 33 c && (nat_le c 126 && not (c == 39)) then codes "'" ++ c ∷ [] ++ codes "'" else codes "'(:" ++ decimal c ++ codes ":)'"

-- the spellings of the constants of all enumerations, by their numbers
abbrev pub Spellings : Type 0
Spellings = List (List ℕ)

abbrev pub shown_text : Spellings → Shown → List ℕ
shown_text names (Integer z) = signed_decimal z
shown_text names (Char c) = char_text c
shown_text names (Truth b) = if b then codes "true" else codes "false"
shown_text names (Constant number) = slice_index_or names number []

-- its values, joined by spaces
abbrev pub output_text : Spellings → List Shown → List ℕ
output_text names output = joined_by 32 (shown_text names) output

abbrev pub error_text : ErrorName → List ℕ
error_text Overflow = codes "overflow"
error_text ZeroDivisor = codes "zero-divisor"
error_text Range = codes "range"
error_text NoCase = codes "no-case"
error_text QueueInUse = codes "queue-in-use"
error_text NotInit = codes "not-init"
error_text InitTwice = codes "init-twice"
error_text Assertion = codes "assertion"
error_text Invariant = codes "invariant"

abbrev pub kind_text : OutcomeKind → List ℕ
kind_text Finished = codes "finished"
kind_text AllWaiting = codes "all-waiting"
kind_text (RunError name process line) = codes "run-error " ++ error_text name ++ codes " process " ++ decimal process ++ codes " line " ++ decimal line
kind_text ChoiceLimit = codes "choice-limit"
kind_text StepLimit = codes "step-limit"
kind_text OutputLimit = codes "output-limit"

abbrev pub outcome_text : Spellings → Outcome → List ℕ
outcome_text names o = kind_text o.kind ++ codes " output " ++ output_text names o.output
