-- The report of a search.
use Rattle.std.specs.Prelude.{◌≡◌, ℕ, List, [], ◌++◌, Bool, true, if◌then◌else◌, Option, None, Some, codes, decimal, length, nat_le, nat_lt, slice_get, string_bytes, take}
use Rattle.cp_machine.specs.declared.shown.Shown.{Shown}
use Rattle.cp_machine.specs.System.{Machine}
use Rattle.cp_natural.specs.Decimal.{number_text}
use Rattle.cp_run.specs.Table.{each}
use Rattle.cp_walk.specs.Text.{Spellings, kind_text, shown_text, word_text}
use Rattle.cp_ends.specs.Firsts.{those_within}
use Rattle.cp_ends.specs.Holds.{SlotFindings}
use Rattle.cp_ends.specs.declared.end.End.{End}
use Rattle.cp_ends.specs.declared.end.End.TheVariants.{Over, Alone, Spins}
use Rattle.cp_ends.specs.declared.found.TheConstants.{MOST_VALUES}
use Rattle.cp_ends.specs.declared.report.Lines.{Lines}

-- ---- lines

abbrev pub end_text : End → List ℕ
end_text (Over kind) = kind_text kind
end_text (Alone process) = codes "alone process " ++ decimal process
end_text (Spins process) = codes "spins process " ++ decimal process

-- an end with the first word that leads to it
abbrev pub end_line : End → List ℕ → List ℕ
end_line e word = codes "first " ++ word_text word ++ codes " " ++ end_text e ++ codes "\n"

-- a value with the first word that shows it
abbrev pub value_line : Spellings → Shown → List ℕ → List ℕ
value_line names v word = codes "first " ++ word_text word ++ codes " shows " ++ shown_text names v ++ codes "\n"

abbrev pub count_line : List ℕ → ℕ → List ℕ
count_line name count = name ++ number_text count ++ codes "\n"

-- how many there are, and a line for each
abbrev pub listed : {A : Type 0} → List ℕ → (A → List ℕ → List ℕ) → List (A × List ℕ) → List ℕ
listed name line found = count_line name (length found) ++ each (λ x. line x.0 x.1) found

-- ---- the report

abbrev pub EndsWithWords : Type 0
EndsWithWords = List (End × List ℕ)

abbrev pub ValuesWithWords : Type 0
ValuesWithWords = List (Shown × List ℕ)

-- How many choices each word may have that is told: any number, or as many as lead to the state at which the search stopped.
abbrev pub IsDepth : SlotFindings → Option ℕ → Option ℕ → Type 0
IsDepth f None depth = depth ≡ None
IsDepth f (Some at) depth = (x : Machine × List ℕ) × (slice_get f.states at ≡ Some x) × (depth ≡ Some (length x.1))

abbrev pub is_told : Option ℕ → List ℕ → Bool
is_told None word = true
is_told (Some choices) word = nat_le (length word) choices

-- what is told: all, or what has such a word
abbrev pub told : {A : Type 0} → Option ℕ → List (A × List ℕ) → List (A × List ℕ)
told None found = found
told (Some choices) found = those_within choices found

abbrev pub head_text : ℕ → Option ℕ → List ℕ
head_text states None = count_line (codes "states ") states
head_text states (Some choices) = count_line (codes "too many states\nchoices ") choices

-- the first thousand values, and whether there are more
abbrev pub values_text : Spellings → ValuesWithWords → List ℕ
values_text names values = listed (codes "shown ") (value_line names) (take MOST_VALUES values) ++ (if nat_lt MOST_VALUES (length values) then codes "more\n" else [])

-- the report of these findings
abbrev pub ends_text : Spellings → SlotFindings → Option ℕ → List ℕ
ends_text names f depth = head_text (length f.states) depth ++ listed (codes "ends ") end_line (told depth f.ends) ++ values_text names (told depth f.values)

-- ---- lines of the code

-- a line for each of these
abbrev pub AreLines : {A : Type 0} → Lines → (A → List ℕ → List ℕ) → List (A × List ℕ) → Type 0
AreLines lines line found = (string_bytes lines.text ≡ each (λ x. line x.0 x.1) found) × (lines.count ≡ length found)

-- a line for each of the first thousand of these, and how many they all are
abbrev pub AreFirstLines : {A : Type 0} → Lines → (A → List ℕ → List ℕ) → List (A × List ℕ) → Type 0
AreFirstLines lines line found = (string_bytes lines.text ≡ each (λ x. line x.0 x.1) (take MOST_VALUES found)) × (lines.count ≡ length found)
