-- Which expectations are given for a program, and what is told of them.
use Rattle.std.specs.Prelude.{◌≡◌, ◌⊎◌, ◌==◌, ◌&&◌, ◌||◌, ℕ, not, if◌then◌else◌, Bool, true, false, List, [], ◌++◌, Option, Some, is_none, codes, length, map, string_bytes}
use Rattle.std.specs.List.{list_all}
use Rattle.std.specs.Str.{bytes_eq}
use Rattle.cp_text.specs.Reading.{AreCut, Part, joined}
use Rattle.cp_tree.specs.Syntax.{Tree}
use Rattle.cp_slots.specs.Tables.{Tables}
use Rattle.cp_resolved.specs.Enumerations.{constant_names}
use Rattle.cp_machine.specs.declared.discipline.Discipline.{Discipline}
use Rattle.cp_machine.specs.declared.discipline.Gates.{Gates}
use Rattle.cp_machine.specs.declared.discipline.Gates.TheVariants.{First, Any}
use Rattle.cp_machine_laws.specs.Named.{named_discipline}
use Rattle.cp_tool.specs.Analysis.{is_at_once, is_endless}
use Rattle.cp_tool.specs.declared.options.Options.{Options}
use Rattle.cp_walk.specs.Text.{Spellings}
use Rattle.cp_expectation.specs.Objections.{objection_to}
use Rattle.cp_expectation.specs.Plain as plain
use Rattle.cp_expectation.specs.Spelling as spelling
use Rattle.cp_expectation.specs.Values.{is_name}
use Rattle.cp_expectation.specs.declared.expectation.Expectation.{Expectation}
use Rattle.cp_expectation.specs.declared.expectation.OutputItem.{OutputItem}
use Rattle.cp_expectation.specs.declared.expectation.OutputItem.TheVariants as item
use Rattle.cp_expectation.specs.declared.expectation.Topic.{Topic}
use Rattle.cp_expectation.specs.declared.expectation.Topic.TheVariants as topic
use Rattle.cp_expectation.specs.declared.objection.Question.{Question}
use Rattle.cp_expectation.specs.declared.objection.Question.TheVariants.{Rows, Ends, EndsAnyGates, EndsAtOnce}
use Rattle.cp_verdict.specs.Comments.{AreHeld, and_text, comments_of}
use Rattle.cp_verdict.specs.endless.AtOnce.{at_any_limit, can_be_at_once}
use Rattle.cp_verdict.specs.endless.Behaviour.{on_names}
use Rattle.cp_verdict.specs.endless.Marked.{IsTrueMark, asks_waits, with_tables}
use Rattle.cp_verdict.specs.endless.Naming.{Names, Processes, knows_processes}
use Rattle.cp_verdict.specs.declared.endless.verdict.EndsMark.{EndsMark}
use Rattle.cp_verdict.specs.waiting.Asking.{name_who, names_who}
use Rattle.cp_verdict.specs.waiting.EndsMarked as who_in_ends
use Rattle.cp_verdict.specs.waiting.Who.{who_on_names}
use Rattle.cp_show_mark.specs.MarkText.{Setting, is_declared}
use Rattle.cp_show_mark.specs.Showing.{TellsEndsMark, TellsMarkAtOnce, TellsNamedMark, TellsSlotMark, ends_verdict_of}
use Rattle.cp_show_mark.specs.Told.{TellsEndsText, TellsText}
use Rattle.cp_show_mark.specs.declared.answer.ShowVerdict.{ShowVerdict}
use Rattle.cp_show_mark.specs.declared.answer.ShowVerdict.TheVariants.{Misread}

-- ---- the text of the expectations

-- what the comments of a source hold, if it can be cut into its parts
abbrev pub IsOwn : (source text : List ℕ) → Type 0
IsOwn source text = (parts : List Part) → AreCut parts [] → source ≡ joined parts [] → (texts : List (List ℕ)) × AreHeld (comments_of parts) texts × (text ≡ and_text texts)

-- with those of the source, if there are some, behind `and`
abbrev pub and_own : (words own : List ℕ) → List ℕ
and_own words own = if length own == 0 then words else words ++ codes " and " ++ own

-- both, or the one that is not empty
abbrev pub both : (words own : List ℕ) → List ℕ
both words own = if length words == 0 then own else and_own words own

-- there are words, and those of the source are not asked for
abbrev pub are_alone : (words : List ℕ) → (with_own : Bool) → Bool
are_alone words with_own = not (length words == 0) && not with_own

abbrev pub IsGivenBy : (alone : Bool) → (words source text : List ℕ) → Type 0
IsGivenBy true words source text = text ≡ words
IsGivenBy false words source text = (own : List ℕ) × IsOwn source own × (text ≡ both words own)

-- The words alone; or, where there are none or those of the source are asked for as well, the words with what its comments hold.
abbrev pub IsGiven : (words : List ℕ) → (with_own : Bool) → (source text : List ℕ) → Type 0
IsGiven words with_own source text = IsGivenBy (are_alone words with_own) words source text

-- ---- what is told of words

-- Some expectations are spelled, and of these this is told; or none are, and that is told.
abbrev pub TellsSpelled : {E F : Type 0} → (spelled : List F → Type 0) → (seen : E → F) → (told : List E → Type 0) → ShowVerdict → Type 0
TellsSpelled {E} {F} spelled seen told verdict = ((es : List E) × spelled (map seen es) × told es) ⊎ (((es : List F) → ¬ (spelled es)) × (verdict ≡ Misread))

-- ---- what can be asked

abbrev pub ends_question : (at_once : Bool) → Gates → Question
ends_question true gates = EndsAtOnce
ends_question false Any = EndsAnyGates
ends_question false First = Ends

-- it names who waits at an end, and does not ask who waits for ever: that is found by all states, whatever is asked
abbrev pub is_by_states : Expectation → Bool
is_by_states e = names_who e && not (asks_waits e)

-- by which schedules an expectation is judged
abbrev pub question_of : Options → Expectation → Question
question_of o e = if is_endless o.analysis then ends_question (is_at_once o.analysis && not (is_by_states e)) o.discipline.gates else Rows

-- a value that some display of the program can print: no name, or that of a truth value or of a constant
abbrev pub can_be_shown : Spellings → List ℕ → Bool
can_be_shown constants value = not (is_name value) || (bytes_eq value (codes "true") || (bytes_eq value (codes "false") || is_declared constants value))

abbrev pub item_can_be_shown : Spellings → OutputItem → Bool
item_can_be_shown constants (item.Value text) = can_be_shown constants (string_bytes text)
item_can_be_shown constants item.Rest = true

abbrev pub knows_values : Spellings → Topic → Bool
knows_values constants (topic.End end (Some output)) = list_all (item_can_be_shown constants) output.items.items
knows_values constants (topic.Shown text) = can_be_shown constants (string_bytes text)
knows_values constants t = true

-- it can be asked of the program: each of its topics can, and the program has its names
abbrev pub is_asked : Question → Names → Expectation → Bool
is_asked question names e = is_none (objection_to question e) && list_all (λ t. knows_processes names.processes t && knows_values names.values t) e.topics.items

abbrev pub are_asked : Options → Names → List Expectation → Bool
are_asked o names es = list_all (λ e. is_asked (question_of o e) names e) es

-- what can't be asked is told to be misread
abbrev pub TellsIf : (can : Bool) → (told : Type 0) → ShowVerdict → Type 0
TellsIf true told verdict = told
TellsIf false told verdict = verdict ≡ Misread

abbrev pub Spells : spelling.Words → List plain.Expected → Type 0
Spells = spelling.Spells

-- They are asked of schedules of any length, or else of those within the limits.
abbrev pub TellsBy : (ends : Bool) → (List Expectation → Type 0) → (List Expectation → Type 0) → List Expectation → Type 0
TellsBy false within any es = within es
TellsBy true within any es = any es

abbrev pub TellsAsked : Options → Names → List Expectation → (List Expectation → Type 0) → (List Expectation → Type 0) → ShowVerdict → Type 0
TellsAsked o names es within any verdict = TellsIf (are_asked o names es) (TellsBy (is_endless o.analysis) within any es) verdict

abbrev pub TellsWords : Options → Names → spelling.Words → (List Expectation → Type 0) → (List Expectation → Type 0) → ShowVerdict → Type 0
TellsWords o names ws within any verdict = TellsSpelled (Spells ws) plain.expected_of (λ es. TellsAsked o names es within any verdict) verdict

-- ---- schedules of any length

-- kernel calls at once are asked for, and settle it
abbrev pub are_at_once : Options → List Expectation → Bool
are_at_once o es = is_at_once o.analysis && can_be_at_once o.discipline es

abbrev pub TellsEndsBy : (at_once : Bool) → Tables → Processes → Options → List Expectation → ShowVerdict → Type 0
TellsEndsBy false r ps o es verdict = TellsEndsMark r ps o.discipline o.steps o.states es verdict
TellsEndsBy true r ps o es verdict = TellsMarkAtOnce r ps o.steps o.states es verdict

abbrev pub TellsEnds : Tables → Processes → Options → List Expectation → ShowVerdict → Type 0
TellsEnds r ps o es verdict = TellsEndsBy (are_at_once o es) r ps o es verdict

-- on the program's own names
abbrev pub names_with : Tree → Processes → Names
names_with t ps = record { values = constant_names t.program; processes = ps }

-- with this limit of steps, or, where nobody is named, with any: by kernel calls at once
abbrev pub IsTrueInTurn : Tree → Names → Discipline → (steps : ℕ) → List Expectation → EndsMark → Type 0
IsTrueInTurn t names discipline steps es m =
    (name_who es ≡ false → IsTrueMark names (on_names t (named_discipline discipline) steps) es m ⊎ IsTrueMark names (at_any_limit t) es m) ×
    (name_who es ≡ true → who_in_ends.IsTrueMark names (who_on_names t (named_discipline discipline) steps) (on_names t (named_discipline discipline) steps) es m)

abbrev pub IsTrueBy : (at_once : Bool) → Tree → Processes → Options → List Expectation → EndsMark → Type 0
IsTrueBy false t ps o es m = IsTrueInTurn t (names_with t ps) o.discipline o.steps es m
IsTrueBy true t ps o es m = IsTrueMark (names_with t ps) (at_any_limit t) es m

abbrev pub MeansEnds : Tree → Processes → Options → List Expectation → ShowVerdict → Type 0
MeansEnds t ps o es verdict = (m : EndsMark) × (verdict ≡ ends_verdict_of m) × ∥ IsTrueBy (are_at_once o es) t ps o es m ∥₁

-- ---- the whole

-- by the tables of the program
abbrev pub TellsGiven : Tables → Options → Processes → spelling.Words → ShowVerdict → Type 0
TellsGiven r o ps ws verdict =
    TellsWords o (with_tables r ps) ws (λ es. TellsSlotMark r ps o.discipline o.choices o.steps es verdict) (λ es. TellsEnds r ps o es verdict) verdict

-- on its own names
abbrev pub MeansGiven : Tree → Options → Processes → spelling.Words → ShowVerdict → Type 0
MeansGiven t o ps ws verdict =
    TellsWords o (names_with t ps) ws (λ es. TellsNamedMark t ps o.discipline o.choices o.steps es verdict) (λ es. MeansEnds t ps o es verdict) verdict

-- by schedules within the limits, with what is said of them; a doubtful word may be among the words
abbrev pub TellsGivenText : Setting → Options → Names → spelling.Words → ShowVerdict → List ℕ → Type 0
TellsGivenText s o names ws verdict text = TellsSpelled (Spells ws) plain.expected_of (λ es. TellsIf (are_asked o names es) ((doubtful : Option (List ℕ)) × TellsText s es doubtful verdict text) verdict) verdict

-- by schedules of any length
abbrev pub TellsGivenEnds : Setting → Options → Names → spelling.Words → ShowVerdict → List ℕ → Type 0
TellsGivenEnds s o names ws verdict text = TellsSpelled (Spells ws) plain.expected_of (λ es. TellsIf (are_asked o names es) (TellsEndsText s es verdict text) verdict) verdict
