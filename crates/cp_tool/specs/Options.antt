-- What the options have of the words, and which fault the words have.
use Rattle.std.specs.Prelude.{◌≡◌, ◌≤◌, ℕ, Bool, false, true, if◌then◌else◌, List, [], ◌∷◌, Some, None, codes, IsSomeAnd, MatchOption, Option, take, unwrap_or}
use Rattle.arrayvec.specs.ArrayVec.{ArrayVec}
use Rattle.clap.specs.Words.{IsAmong, Row, Text, first_of}
use Rattle.std.specs.Str.{bytes_eq}
use Rattle.clap.specs.declared.error.kind.ErrorKind.TheVariants.{DisplayHelp}
use Rattle.cp_machine.specs.declared.discipline.Discipline.{Discipline}
use Rattle.cp_machine.specs.declared.discipline.Gates.{Gates}
use Rattle.cp_machine.specs.declared.discipline.Gates.TheVariants.{First, Any}
use Rattle.cp_machine.specs.declared.discipline.Signals.{Signals}
use Rattle.cp_machine.specs.declared.discipline.Signals.TheVariants.{Return, Continue, Wait}
use Rattle.cp_machine.specs.Discipline.{IsDiscipline}
use Rattle.cp_tool.specs.Analysis.{analysis_for, most_choices, usual_choices, usual_states}
use Rattle.cp_tool.specs.Command.{faults_for, rows_for}
use Rattle.cp_tool.specs.Numbers.{IsChosen, Reads}
use Rattle.cp_tool.specs.Words.{IsWord, spelled}
use Rattle.cp_tool.specs.declared.analysis.Analysis.{Analysis}
use Rattle.cp_tool.specs.declared.analysis.Analysis.TheVariants.{EndsAndWaits, EndsAtOnce}
use Rattle.cp_tool.specs.declared.analysis.AnalysisFlags.{AnalysisFlags}
use Rattle.cp_tool.specs.declared.options.Options.{Options}
use Rattle.cp_tool.specs.declared.options.OptionFault.{OptionFault}
use Rattle.cp_tool.specs.declared.options.OptionFault.TheVariants.{Refused, Memory, Help, Version}

-- the gates of a text, or those of the book where there is none
abbrev pub gates_named : Option Text → Option Gates
gates_named None = Some First
gates_named (Some text) = if bytes_eq text (codes "first") then Some First else if bytes_eq text (codes "any") then Some Any else None

-- who goes on after a continue, by a text; by the book where there is none
abbrev pub signals_named : Option Text → Option Signals
signals_named None = Some Return
signals_named (Some text) =
    if bytes_eq text (codes "return") then Some Return else if bytes_eq text (codes "continue") then Some Continue else if bytes_eq text (codes "wait") then Some Wait else None

abbrev pub IsNamed : (gates signals : Option Text) → Discipline → Type 0
IsNamed gates signals d = (gates_named gates ≡ Some d.gates) × (signals_named signals ≡ Some d.signals)

-- Who may wait for ever is told where the first in line goes in; calls are made at once by the book; else whatever can be kept will do.
abbrev pub Suits : Analysis → Discipline → Type 0
Suits EndsAndWaits d = d.gates ≡ First
Suits EndsAtOnce d = (d.gates ≡ First) × (d.signals ≡ Return)
Suits _ d = IsDiscipline d

-- what the words name, with the book for what they don't
abbrev pub rules_for : List Row → Discipline
rules_for rows = record { gates = unwrap_or (gates_named (first_of (codes "gates") rows)) First; signals = unwrap_or (signals_named (first_of (codes "signals") rows)) Return }

-- what a text says, if there is one
abbrev pub IsOptional : {T : Type 0} → (Text → T → Type 0) → Option Text → Option T → Type 0
IsOptional Says text value = MatchOption text (value ≡ None) (λ t. IsSomeAnd value (Says t))

-- the word of at most so many numbers that the text spells
abbrev pub IsScheduled : ℕ → Option Text → Option (ArrayVec ℕ) → Type 0
IsScheduled most = IsOptional (λ t w. IsWord most w.items × (spelled w.items ≡ t))

-- to how many choices schedules are dealt out
abbrev pub IsCut : Option Text → Option ℕ → Type 0
IsCut = IsOptional (λ t depth. Reads t depth × (depth ≤ 20))

-- whether the text of a flag says that it was given
abbrev pub is_asked : Option Text → Bool
is_asked None = false
is_asked (Some text) = bytes_eq text (codes "true")

abbrev pub flags_of : List Row → AnalysisFlags
flags_of rows = let asks = λ (name : Text). is_asked (first_of name rows) in record { rows = asks (codes "rows"); merge = asks (codes "merge"); ends = asks (codes "ends"); waits = asks (codes "waits"); at_once = asks (codes "at-once") }

-- the flags can stand together, and each option has the value that they, the text of the schedule and the matches have for it
pub record HasOptions (flags : AnalysisFlags) (is_longest : Bool) (word : Option Text) (rows : List Row) (o : Options) : Type 0 where
  pub analysis : analysis_for flags ≡ Some o.analysis
  pub choices : IsChosen (usual_choices is_longest o.analysis) 0 (most_choices o.analysis) (first_of (codes "choices") rows) o.choices
  pub steps : IsChosen 1000 1 100000 (first_of (codes "steps") rows) o.steps
  pub workers : IsChosen 1 1 16 (first_of (codes "workers") rows) o.workers
  pub cut : IsCut (first_of (codes "cut") rows) o.cut
  pub states : IsChosen (usual_states o.analysis) 1 10000000 (first_of (codes "states") rows) o.states
  pub schedule : IsScheduled (most_choices o.analysis) word o.schedule
  pub named : IsNamed (first_of (codes "gates") rows) (first_of (codes "signals") rows) o.discipline
  pub suits : Suits o.analysis o.discipline

-- those of `cpx`: with `--ends` a schedule has as many choices as it can
abbrev pub HasGiven : List Row → Options → Type 0
HasGiven rows = HasOptions (flags_of rows) (flags_of rows).ends (first_of (codes "schedule") rows) rows

-- no word is refused, and each option has the value that the words have for it
abbrev pub Gives : List Text → Options → Type 0
Gives words o = (faults_for words ≡ []) × HasGiven (rows_for words) o

-- the words ask for nothing that `clap` refuses, and yet no options have the values that they give
pub record HasRefusedValue (words : List Text) : Type 0 where
  pub matched : faults_for words ≡ []
  pub none : (o : Options) → ¬ HasGiven (rows_for words) o

-- so do the first of the words, as many as some number says
pub record BeginsRefused (words : List Text) : Type 0 where
  pub count : ℕ
  pub begun : HasRefusedValue (take count words)

-- the word after the program's name asks for the version, and there is no other
abbrev pub asks_version : List Text → Bool
asks_version (name ∷ word ∷ []) = bytes_eq word (codes "--version")
asks_version _ = false

-- help and the version come only where the words ask for them; words are refused where they give no options, and
-- where they ask for help only if a value before that is refused
abbrev pub IsFaultFor : List Text → OptionFault → Type 0
IsFaultFor words (Help text) = IsAmong DisplayHelp (faults_for words)
IsFaultFor words (Refused why) = (faults_for words ≡ DisplayHelp ∷ [] → BeginsRefused words) × ((o : Options) → ¬ Gives words o)
IsFaultFor words Memory = Unit {0}
IsFaultFor words Version = asks_version words ≡ true
