-- What is written of a finding.
use Rattle.std.specs.Prelude.{◌≡◌, ℕ, List, ◌++◌, map, Bool, true, false, Option, Some, None, codes, string_bytes}
use Rattle.serde_json.specs.Written.{compact_text}
use Rattle.cp_walk.specs.Groups.{Tally}
use Rattle.cp_merged.specs.Code.{tally_of}
use Rattle.cp_run.specs.Slots.{slots}
use Rattle.cp_outcomes.specs.Data.{outcomes_data, excess_json, known_json}
use Rattle.cp_outcomes.specs.Findings.{IsFoundOf}
use Rattle.cp_outcomes.specs.Meant.{IsMeantFinding}
use Rattle.cp_outcomes.specs.Told.{Setting, Told, AreTold, setting_of}
use Rattle.cp_outcomes.specs.Text.{outcomes_text, excess_text, known_text}
use Rattle.cp_outcomes.specs.declared.subject.Subject.{Subject}
use Rattle.cp_outcomes.specs.declared.known.Known.{Known}
use Rattle.cp_outcomes.specs.declared.subject.Excess.{Excess}
use Rattle.cp_outcomes.specs.declared.subject.Format.{Format}
use Rattle.cp_outcomes.specs.declared.subject.Format.TheVariants.{Text, Json}
use Rattle.cp_outcomes.specs.declared.subject.Summary.{Summary}
use Rattle.cp_outcomes.specs.declared.telling.Finding.{Finding}
use Rattle.cp_outcomes.specs.declared.telling.Finding.TheVariants.{Whole, TooMany}

-- the text of these outcomes, told so
pub record IsTextOf (s : Setting) (ts : List Tally) (text : List ℕ) : Type 0 where
  pub told : List Told
  pub searched : Bool
  pub so : AreTold s ts told
  pub is : text ≡ outcomes_text s searched ts told

-- the text of the outcomes that were found, or of what there is too much of, with what is known of fewer choices
abbrev pub IsExcessText : Subject → Excess → Option Known → List ℕ → Type 0
IsExcessText s excess None text = text ≡ excess_text excess
IsExcessText s excess (Some known) text = (told : List ℕ) × IsTextOf (setting_of s known.choices) (map tally_of known.tallies) told × (text ≡ excess_text excess ++ known_text known.choices told)

abbrev pub IsWritten : Subject → Finding → Summary → Type 0
IsWritten s (Whole tallies) summary = (summary.is_whole ≡ true) × IsTextOf (setting_of s s.limits.choices) (map tally_of tallies) (string_bytes summary.text)
IsWritten s (TooMany excess known) summary = (summary.is_whole ≡ false) × IsExcessText s excess known (string_bytes summary.text)

-- ---- the same as JSON

-- the object of these outcomes, told so
pub record IsJsonOf (s : Setting) (ts : List Tally) (json : List ℕ) : Type 0 where
  pub told : List Told
  pub so : AreTold s ts told
  pub is : json ≡ compact_text (outcomes_data s ts told)

abbrev pub IsExcessJson : Subject → Excess → Option Known → List ℕ → Type 0
IsExcessJson s excess None json = json ≡ excess_json excess
IsExcessJson s excess (Some known) json = (told : List ℕ) × IsJsonOf (setting_of s known.choices) (map tally_of known.tallies) told × (json ≡ known_json excess known.choices told)

abbrev pub IsJson : Subject → Finding → Bool → List ℕ → Type 0
IsJson s (Whole tallies) whole json = (whole ≡ true) × IsJsonOf (setting_of s s.limits.choices) (map tally_of tallies) json
IsJson s (TooMany excess known) whole json = (whole ≡ false) × IsExcessJson s excess known json

-- on a line of its own
abbrev pub IsJsonLine : Subject → Finding → Summary → Type 0
IsJsonLine s finding summary = (json : List ℕ) × IsJson s finding summary.is_whole json × (string_bytes summary.text ≡ json ++ codes "\n")

-- What is told is found, in the table of the slot machine and so in that of the meaning. It is written so, as text or as JSON.
pub record TellsOutcomes (s : Subject) (form : Format) (summary : Summary) : Type 0 where
  pub finding : Finding
  pub found : IsFoundOf (slots s.program.now s.limits.discipline) s.limits.choices s.limits.steps finding
  pub meant : IsMeantFinding s.program.now s.limits.discipline s.limits.choices s.limits.steps finding
  pub written : form ≡ Text → IsWritten s finding summary
  pub json : form ≡ Json → IsJsonLine s finding summary
