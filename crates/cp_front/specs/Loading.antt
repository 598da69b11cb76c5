-- What becomes of a source: the tree of its tokens, or why it has none that breaks no rule.
use Rattle.std.specs.Prelude.{◌≡◌, ◌≢◌, ℕ, List, [], Err}
use Rattle.cp_text.specs.Kinds.{kinds}
use Rattle.cp_text.specs.Lines as texts
use Rattle.cp_text.specs.Reading.{HasFault, HasTokens}
use Rattle.cp_text.specs.declared.token.Token.{Token}
use Rattle.cp_tree.specs.Answer.{answer}
use Rattle.cp_tree.specs.Spelling.{spell}
use Rattle.cp_tree.specs.SpellingLevel.{IsProper}
use Rattle.cp_tree.specs.Syntax.{Program, Tree}
use Rattle.cp_tree.specs.TreeView.{tree_view}
use Rattle.cp_tree.specs.declared.fault.ParseFault.{ParseFault}
use Rattle.cp_scope.specs.Judged.{RefusesList}
use Rattle.cp_check.specs.Faults.{faults_of}
use Rattle.cp_front.specs.Refusals.{IsLineOf}
use Rattle.cp_front.specs.declared.refusal.Refusal.{Refusal}
use Rattle.cp_front.specs.declared.refusal.Refusal.TheVariants.{Scan, Parse, Check, Memory}

-- the tree of these tokens: a proper one that spells them, with their lines
pub record IsTreeOf (tokens : List Token) (t : Tree) : Type 0 where
  pub proper : IsProper t.program
  pub spelled : kinds tokens ≡ spell t.program
  pub lines : t.lines ≡ texts.lines tokens

-- No proper tree spells these tokens. The fault is that of reading them from left to right.
pub record HaveNoTree (tokens : List Token) (fault : ParseFault) : Type 0 where
  pub none : (p : Program) → IsProper p → kinds tokens ≢ spell p
  pub read : answer (kinds tokens) ≡ Err fault

-- The source has these tokens, and they have this tree, which breaks no rule.
pub record Loads (source : List ℕ) (tokens : List Token) (t : Tree) : Type 0 where
  pub text : HasTokens source tokens
  pub tree : IsTreeOf tokens t
  pub accepted : faults_of t ≡ []

-- The source has this fault, or its tokens have no tree, or their tree breaks a rule, and this is the first. Of refused memory nothing is said.
abbrev pub IsRefusalOf : List ℕ → Refusal → Type 0
IsRefusalOf source (Scan fault) = HasFault source fault
IsRefusalOf source (Parse tokens fault) = HasTokens source tokens × HaveNoTree tokens fault
IsRefusalOf source (Check tokens tree fault) = HasTokens source tokens × IsTreeOf tokens (tree_view tree) × RefusesList fault (faults_of (tree_view tree))
IsRefusalOf source Memory = Unit {0}

-- a source is refused with this line
abbrev pub IsRefusedWith : List ℕ → List ℕ → Type 0
IsRefusedWith source line = (r : Refusal) × IsRefusalOf source r × IsLineOf r line
