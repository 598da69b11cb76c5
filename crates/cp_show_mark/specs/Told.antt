-- What is told of a mark, as text or as JSON.
use Rattle.std.specs.Prelude.{◌≡◌, ◌⊎◌, ◌<◌, ℕ, if◌then◌else◌, Bool, List, ◌++◌, map, Option, Some, None, codes}
use Rattle.serde_json.specs.Written.{compact_text}
use Rattle.cp_merged.specs.Code.{tally_of}
use Rattle.cp_merged.specs.Tallies.{tally}
use Rattle.cp_outcomes.specs.declared.known.Known.{Known}
use Rattle.cp_run.specs.Slots.{slots}
use Rattle.cp_run.specs.Table.{table}
use Rattle.cp_walk.specs.Groups.{Tally}
use Rattle.cp_walk.specs.Report.{same_outcome}
use Rattle.cp_expectation.specs.declared.expectation.Expectation.{Expectation}
use Rattle.cp_verdict.specs.endless.Said.{IsSaid}
use Rattle.cp_verdict.specs.declared.endless.saying.MarkedEnds.{MarkedEnds}
use Rattle.cp_verdict.specs.declared.program.Marked.{Marked}
use Rattle.cp_show_mark.specs.EndsData.{ends_data}
use Rattle.cp_show_mark.specs.EndsText.{ends_text}
use Rattle.cp_show_mark.specs.MarkData.{excess_json, mark_data}
use Rattle.cp_show_mark.specs.MarkText.{Setting, excess_text, known_if, mark_text, processes_in}
use Rattle.cp_show_mark.specs.Showing.{IsNamedMark, IsSlotMark, ends_verdict_of, verdict_of}
use Rattle.cp_show_mark.specs.declared.answer.ShowVerdict.{ShowVerdict}
use Rattle.cp_show_mark.specs.declared.answer.ShowVerdict.TheVariants.{TooMany}
use Rattle.cp_show_mark.specs.declared.excess.MarkExcess.{MarkExcess}

-- ---- as text or as JSON

-- the mark by a table
abbrev pub saying : Setting → List Expectation → (doubtful : Option (List ℕ)) → Marked → List ℕ
saying s es doubtful m = if s.as_json then compact_text (mark_data s es doubtful m) else mark_text s es doubtful m

-- the mark by schedules of any length
abbrev pub ends_saying : Setting → MarkedEnds → List ℕ
ends_saying s m = if s.as_json then compact_text (ends_data s m) else ends_text s m

-- what there is too much of, and what is known by fewer choices
abbrev pub excess_saying : Setting → MarkExcess → (known : Option (ℕ × List ℕ)) → List ℕ
excess_saying s e known = if s.as_json then excess_json s.states e known else excess_text s.states e ++ known_if known

-- an object stands on a line of its own
abbrev pub ended : (as_json : Bool) → List ℕ → List ℕ
ended as_json said = if as_json then said ++ codes "\n" else said

-- ---- what is told

-- the mark by all schedules of so many choices, if these are their outcomes
abbrev pub SaysOfTallies : Setting → (choices : ℕ) → List Expectation → Option (List ℕ) → List Tally → List ℕ → Type 0
SaysOfTallies s choices es doubtful tallies said =
    (m : Marked) × (said ≡ saying s es doubtful m) × (tallies ≡ tally same_outcome (table (slots s.program s.discipline) choices s.steps) → IsSlotMark s.program (processes_in s.legend) s.discipline choices s.steps es m)

-- what there is too much of, and the mark by all schedules of fewer choices
pub record IsKnownTold (s : Setting) (es : List Expectation) (doubtful : Option (List ℕ)) (e : MarkExcess) (said : List ℕ) : Type 0 where
  pub choices : ℕ
  pub marked : Marked
  pub fewer : choices < s.choices
  pub is_marked : IsSlotMark s.program (processes_in s.legend) s.discipline choices s.steps es marked
  pub is : said ≡ excess_saying s e (Some (choices, saying s es doubtful marked))

-- the same of these outcomes, or what there is too much of alone
abbrev pub TellsKnown : Setting → List Expectation → Option (List ℕ) → MarkExcess → Known → List ℕ → Type 0
TellsKnown s es doubtful e k said =
    (said ≡ excess_saying s e None) ⊎ ((known : List ℕ) × SaysOfTallies s k.choices es doubtful (map tally_of k.tallies) known × (said ≡ excess_saying s e (Some (k.choices, known))))

-- what there is too much of; and the mark by fewer choices, if that is known
abbrev pub IsExcessTold : Setting → List Expectation → Option (List ℕ) → List ℕ → Type 0
IsExcessTold s es doubtful said = (e : MarkExcess) × ((said ≡ excess_saying s e None) ⊎ IsKnownTold s es doubtful e said)

-- the mark by these judgements: they are those of the program's table, on its slots and on its own names
pub record IsMarkTold (s : Setting) (es : List Expectation) (doubtful : Option (List ℕ)) (told : ShowVerdict) (said : List ℕ) (m : Marked) : Type 0 where
  pub verdict : told ≡ verdict_of m.mark
  pub is : said ≡ saying s es doubtful m
  pub marked : IsSlotMark s.program (processes_in s.legend) s.discipline s.choices s.steps es m
  pub meaning : IsNamedMark s.program (processes_in s.legend) s.discipline s.choices s.steps es m

-- a mark, or that there is too much
abbrev pub TellsSaying : Setting → List Expectation → Option (List ℕ) → ShowVerdict → List ℕ → Type 0
TellsSaying s es doubtful told said = ((m : Marked) × IsMarkTold s es doubtful told said m) ⊎ ((told ≡ TooMany) × IsExcessTold s es doubtful said)

abbrev pub TellsText : Setting → List Expectation → Option (List ℕ) → ShowVerdict → List ℕ → Type 0
TellsText s es doubtful told text = (said : List ℕ) × TellsSaying s es doubtful told said × (text ≡ ended s.as_json said)

-- By schedules of any length: what is told has each expectation in its turn, with its judgement and why, what is said of all, and by which search the mark was found.
abbrev pub TellsEndsText : Setting → List Expectation → ShowVerdict → List ℕ → Type 0
TellsEndsText s es told text = (m : MarkedEnds) × IsSaid s.program (processes_in s.legend) s.discipline s.steps s.states es m × (told ≡ ends_verdict_of m.mark) × (text ≡ ended s.as_json (ends_saying s m))
