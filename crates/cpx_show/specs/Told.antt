-- What is told of the source that was read, from its bytes to the bytes that are written.
use Rattle.std.specs.Prelude.{◌≡◌, ◌⊎◌, ℕ, List, ◌++◌, false, take, Option, None, Some, option_map, Result, Ok, Err, string_bytes}
use Rattle.std.specs.Io.KnownBytes.{Appends}
use Rattle.cp_text.specs.declared.token.Token.{Token}
use Rattle.cp_tree.specs.Syntax.{Tree}
use Rattle.cp_slots.specs.Tables.{Tables}
use Rattle.cp_front.specs.Loading.{IsRefusalOf, Loads}
use Rattle.cp_front.specs.Refusals.{IsLineOf}
use Rattle.cp_front.specs.declared.refusal.Refusal.{Refusal}
use Rattle.cp_front.specs.declared.transfer.StreamFault.{StreamFault}
use Rattle.cp_front.specs.declared.transfer.StreamFault.TheVariants as fault
use Rattle.cp_legend.specs.declared.legend.Legend as code_legend
use Rattle.cp_show_mark.specs.declared.answer.ShowVerdict.{ShowVerdict}
use Rattle.cp_show_mark.specs.declared.answer.ShowVerdict.TheVariants.{Refused}
use Rattle.cp_show_options.specs.declared.parts.Asked.{Asked}
use Rattle.cp_show_options.specs.declared.parts.ShowPart.{ShowPart}
use Rattle.cp_show_options.specs.declared.parts.ShowPart.TheVariants as part
use Rattle.cp_outcomes.specs.Lines.{AreLinesShown}
use Rattle.cpx_show.specs.Refused.{TellsRefused}
use Rattle.cpx_show.specs.Shown.{AreNamed, IsShown}

-- ---- from a source to an answer

-- what is shown of the tree of a source that is accepted, by its tables, its names, and its lines
abbrev pub IsOfTree : Asked → (source : List ℕ) → Tree → ShowVerdict → List ℕ → Type 0
IsOfTree a source t verdict text = (r : Tables) × (l : code_legend.Legend) × (lines : List (List ℕ)) × AreNamed t r l × AreLinesShown source lines × IsShown a.part a t r l source lines verdict text

-- The line of `cpx`. By `refusal` and `mark` it is said in words, in agreement with that line; of JSON nothing is said.
abbrev pub IsRefusedAs : ShowPart → (source : List ℕ) → Refusal → List ℕ → Type 0
IsRefusedAs (part.Refusal json file) source r text = json ≡ false → TellsRefused source (option_map string_bytes file) r text
IsRefusedAs (part.Mark words own json) source r text = json ≡ false → TellsRefused source None r text
IsRefusedAs p source r text = IsLineOf r text

-- what is shown of its program; or the source is refused
abbrev pub IsOfSource : Asked → List ℕ → ShowVerdict → List ℕ → Type 0
IsOfSource a source verdict text =
    ((tokens : List Token) × (t : Tree) × Loads source tokens t × IsOfTree a source t verdict text)
    ⊎ ((verdict ≡ Refused) × ((r : Refusal) × IsRefusalOf source r × IsRefusedAs a.part source r text))

-- ---- what is written

-- What a writer holds after an answer was written: the whole text, or a prefix of it after a failed write.
abbrev pub IsWritten : Option (List ℕ) → Option (List ℕ) → ShowVerdict → List ℕ → Result ShowVerdict StreamFault → Type 0
IsWritten old new verdict text (Ok told) = (told ≡ verdict) × Appends old new text
IsWritten old new verdict text (Err fault.Write) = (done : List ℕ) × (rest : List ℕ) × (text ≡ done ++ rest) × Appends old new done
IsWritten old new verdict text (Err fault.Memory) = ⊥
IsWritten old new verdict text (Err fault.Read) = ⊥

-- the answer to these bytes, of which no more than one beyond a source's limit are read
abbrev pub AnswersThen : Asked → List ℕ → (ShowVerdict → List ℕ → Type 0) → Type 0
AnswersThen a bytes Q = (verdict : ShowVerdict) × (text : List ℕ) × IsOfSource a (take 65536 bytes) verdict text × Q verdict text

-- What stands after a call, where the bytes that the reader gives are known; nothing is written without an answer.
abbrev pub TellsOf : Asked → List ℕ → Option (List ℕ) → Option (List ℕ) → Result ShowVerdict StreamFault → Type 0
TellsOf a bytes old new (Ok told) = AnswersThen a bytes (λ verdict text. IsWritten old new verdict text (Ok told))
TellsOf a bytes old new (Err fault.Write) = AnswersThen a bytes (λ verdict text. IsWritten old new verdict text (Err fault.Write))
TellsOf a bytes old new (Err fault.Memory) = new ≡ old
TellsOf a bytes old new (Err fault.Read) = new ≡ old

abbrev pub Tells : Asked → Option (List ℕ) → Option (List ℕ) → Option (List ℕ) → Result ShowVerdict StreamFault → Type 0
Tells a None old new ending = Unit {0}
Tells a (Some bytes) old new ending = TellsOf a bytes old new ending

-- nothing is written
abbrev pub IsSilent : Result ShowVerdict StreamFault → Type 0
IsSilent (Ok verdict) = ⊥
IsSilent (Err fault.Memory) = Unit {0}
IsSilent (Err fault.Read) = Unit {0}
IsSilent (Err fault.Write) = ⊥
