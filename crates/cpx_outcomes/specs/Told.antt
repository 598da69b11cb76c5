-- What is told of a source: the outcomes of its program, or why it is refused.
use Rattle.std.specs.Prelude.{◌≡◌, ◌⊎◌, ℕ, List, map, string_bytes, Bool, if◌then◌else◌}
use Rattle.cp_text.specs.declared.token.Token.{Token}
use Rattle.cp_tree.specs.Syntax.{Tree}
use Rattle.cp_symbols.specs.declared.symbols.Symbols.{Symbols}
use Rattle.cp_layout.specs.Laid.{whole}
use Rattle.cp_layout.specs.Symbols.{AreSymbolsOf}
use Rattle.cp_resolved.specs.Resolving.{IsProgramOf}
use Rattle.cp_machine.specs.declared.discipline.Gates.TheVariants.{First}
use Rattle.cp_machine.specs.declared.discipline.Signals.TheVariants.{Return}
use Rattle.cp_slots.specs.Tables.{Tables}
use Rattle.cp_legend.specs.declared.legend.Legend as code_legend
use Rattle.cp_legend.specs.Names.{IsLegendOf, source_seen}
use Rattle.cp_front.specs.Loading.{IsRefusalOf, Loads}
use Rattle.cp_front.specs.Refusals.{IsLineOf}
use Rattle.cp_front.specs.declared.refusal.Refusal.{Refusal}
use Rattle.cp_outcomes.specs.Lines.{AreLinesShown}
use Rattle.cp_outcomes.specs.Written.{TellsOutcomes}
use Rattle.cp_outcomes.specs.declared.subject.Format.TheVariants.{Text}
use Rattle.cp_outcomes.specs.declared.subject.Subject.{Subject}
use Rattle.cp_outcomes.specs.declared.subject.Summary.{Summary}

-- 0 where all outcomes are told, 5 where there are too many states or outcomes
abbrev pub code_of : (is_whole : Bool) → ℕ
code_of is_whole = if is_whole then 0 else 5

-- The outcomes of tables, with these names and the lines of a source, within the limits that hold where no option says others.
pub record IsOfProgram (r : Tables) (l : code_legend.Legend) (lines : List (List ℕ)) (code : ℕ) (text : List ℕ) : Type 0 where
  pub subject : Subject
  pub program : subject.program.now ≡ r
  pub legend : subject.legend.now ≡ l
  pub source : map string_bytes subject.source.now ≡ lines
  pub choices : subject.limits.choices ≡ 100
  pub steps : subject.limits.steps ≡ 1000
  pub gates : subject.limits.discipline.gates ≡ First
  pub signals : subject.limits.discipline.signals ≡ Return
  pub states : subject.states ≡ 200000
  pub summary : Summary
  pub told : TellsOutcomes subject Text summary
  pub code_is : code ≡ code_of summary.is_whole
  pub text_is : text ≡ string_bytes summary.text

-- those of the tables and the names of a tree, with the lines of its source
pub record IsOfTree (source : List ℕ) (t : Tree) (code : ℕ) (text : List ℕ) : Type 0 where
  pub r : Tables
  pub stands : IsProgramOf t r
  pub symbols : Symbols
  pub noted : AreSymbolsOf symbols (whole t)
  pub l : code_legend.Legend
  pub legend : IsLegendOf l (source_seen symbols) r.components
  pub lines : List (List ℕ)
  pub shown : AreLinesShown source lines
  pub told : IsOfProgram r l lines code text

-- the outcomes of its program, or the line that says why there is none
abbrev pub IsOfSource : List ℕ → (code : ℕ) → (text : List ℕ) → Type 0
IsOfSource source code text =
    ((tokens : List Token) × (t : Tree) × Loads source tokens t × IsOfTree source t code text)
    ⊎ ((code ≡ 1) × ((r : Refusal) × IsRefusalOf source r × IsLineOf r text))
