-- What is answered to a source: a verdict and a text. Refused memory is no answer.
use Rattle.std.specs.Prelude.{◌≡◌, ℕ, ◌<◌, ◌≤◌, ◌⊎◌, ◌++◌, take, List, length, Result, Ok, Err, Option, Some, None, MatchOption, codes}
use Rattle.std.specs.Bool.{MatchBool}
use Rattle.std.specs.Io.KnownBytes.{Appends}
use Rattle.cp_text.specs.declared.token.Token.{Token}
use Rattle.cp_tree.specs.Syntax.{Tree}
use Rattle.cp_resolved.specs.Enumerations.{constant_names}
use Rattle.cp_run.specs.System.{System}
use Rattle.cp_run.specs.Run.{run}
use Rattle.cp_run.specs.Table.{Line, table}
use Rattle.cp_run.specs.Trace.{trace}
use Rattle.cp_meaning_laws.specs.Accepted.{KeepsExclusion}
use Rattle.cp_machine_laws.specs.Named.{named, named_discipline}
use Rattle.cp_walk.specs.Text.{Spellings}
use Rattle.cp_walk.specs.Report.{report_text}
use Rattle.cp_walk.specs.TraceText.{trace_text}
use Rattle.cp_front.specs.Loading.{IsRefusedWith, Loads}
use Rattle.cp_front.specs.declared.transfer.StreamFault.{StreamFault}
use Rattle.cp_front.specs.declared.transfer.StreamFault.TheVariants as fault
use Rattle.cp_tool.specs.Analysis.{is_merged, lists_rows}
use Rattle.cp_tool.specs.Merged.{IsMergedOf}
use Rattle.cp_tool.specs.declared.options.Options.{Options}
use Rattle.cp_tool.specs.declared.answer.Verdict.{Verdict}
use Rattle.cp_tool.specs.declared.answer.Verdict.TheVariants.{Reported, Refused, TooManyRows, TooManyStates, TooManyOutcomes, NotSettled}

-- the report of these rows, or that there are more than are shown
abbrev pub IsReported : Options → Spellings → List Line → Verdict → List ℕ → Type 0
IsReported o names rows verdict text =
    ((verdict ≡ Reported) × (length rows ≤ 50000) × (text ≡ report_text names rows (lists_rows o.analysis))) ⊎ ((verdict ≡ TooManyRows) × (50000 < length rows) × (text ≡ codes "too many rows\n"))

-- the trace of this schedule
abbrev pub IsTraced : {S : Type 0} → Options → System S → Spellings → List ℕ → Verdict → List ℕ → Type 0
IsTraced o sys names word verdict text = (verdict ≡ Reported) × (text ≡ trace_text names (trace sys o.choices o.steps word) (run sys o.choices o.steps word) word)

-- What is explored of a program, which is its meaning on its own names: one schedule is traced, or all are reported.
abbrev pub IsExplored : Options → Tree → Verdict → List ℕ → Type 0
IsExplored o t verdict text =
    let meaning = named t (named_discipline o.discipline) in
    let names = constant_names t.program in
    let rows = table meaning o.choices o.steps in
    MatchOption o.schedule (MatchBool (is_merged o.analysis) (IsMergedOf o t names rows verdict text) (IsReported o names rows verdict text)) (λ word. IsTraced o meaning names word.items verdict text)

-- the same, and that in no state which the program reaches two processes are inside one monitor
abbrev pub IsExploredAlone : Options → Tree → Verdict → List ℕ → Type 0
IsExploredAlone o t verdict text = IsExplored o t verdict text × KeepsExclusion t (named_discipline o.discipline)

-- ---- from a source to its program

-- what is answered to the tree of a program that is accepted
abbrev pub Answering : Type 1
Answering = Tree → Verdict → List ℕ → Type 0

-- The program of a source that is accepted is answered, or the source is refused with its line.
abbrev pub AnswersSource : Answering → List ℕ → Verdict → List ℕ → Type 0
AnswersSource P source verdict text =
    ((tokens : List Token) × (t : Tree) × Loads source tokens t × P t verdict text)
    ⊎ ((verdict ≡ Refused) × IsRefusedWith source text)

-- ---- what is written

-- the exit code
abbrev pub code_of : Verdict → ℕ
code_of Reported = 0
code_of Refused = 1
code_of TooManyRows = 5
code_of TooManyStates = 5
code_of TooManyOutcomes = 5
code_of NotSettled = 5

-- What a writer holds after an answer was written: the whole text, or a prefix of it after a failed write.
abbrev pub IsWritten : Option (List ℕ) → Option (List ℕ) → Verdict → List ℕ → Result Verdict StreamFault → Type 0
IsWritten old new verdict text (Ok told) = (told ≡ verdict) × Appends old new text
IsWritten old new verdict text (Err fault.Write) = (done : List ℕ) × (rest : List ℕ) × (text ≡ done ++ rest) × Appends old new done
IsWritten old new verdict text (Err fault.Memory) = ⊥
IsWritten old new verdict text (Err fault.Read) = ⊥

-- the answer to these bytes, of which no more than one beyond a source's limit are read
abbrev pub AnswersThen : Answering → List ℕ → (Verdict → List ℕ → Type 0) → Type 0
AnswersThen P bytes Q = (verdict : Verdict) × (text : List ℕ) × AnswersSource P (take 65536 bytes) verdict text × Q verdict text

-- What stands after a call, where the bytes that the reader gives are known; nothing is written without an answer.
abbrev pub TellsOf : Answering → List ℕ → Option (List ℕ) → Option (List ℕ) → Result Verdict StreamFault → Type 0
TellsOf P bytes old new (Ok told) = AnswersThen P bytes (λ verdict text. IsWritten old new verdict text (Ok told))
TellsOf P bytes old new (Err fault.Write) = AnswersThen P bytes (λ verdict text. IsWritten old new verdict text (Err fault.Write))
TellsOf P bytes old new (Err fault.Memory) = new ≡ old
TellsOf P bytes old new (Err fault.Read) = new ≡ old

abbrev pub Tells : Answering → Option (List ℕ) → Option (List ℕ) → Option (List ℕ) → Result Verdict StreamFault → Type 0
Tells P None old new ending = Unit {0}
Tells P (Some bytes) old new ending = TellsOf P bytes old new ending
