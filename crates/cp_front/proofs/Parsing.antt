-- Where the parser says that tokens have no tree, they have none.
use Rattle.std.proofs.Common.{◌≡◌, ◌≢◌, ℕ, List, Result, Err, refl}
use Rattle.cp_text.specs.Kinds.{kinds}
use Rattle.cp_text.specs.declared.token.Token.{Token}
use Rattle.cp_tree.specs.Answer.{Answers}
use Rattle.cp_tree.specs.Spelling.{spell}
use Rattle.cp_tree.specs.SpellingIndexed.{IsIndexed}
use Rattle.cp_tree.specs.SpellingLevel.{IsProper}
use Rattle.cp_tree.specs.Syntax.{Program}
use Rattle.cp_tree.specs.declared.fault.ParseFault.{ParseFault}
use Rattle.cp_tree.specs.declared.fault.ParseFault.TheVariants.{Unexpected, OutsideProfile, TooDeep, Memory}
use Rattle.cp_tree.specs.declared.tree.Tree as tree
use Rattle.cp_front.specs.Loading.{HaveNoTree}

-- no program that is a tree in this way spells the tokens, where the parser has such a fault
abbrev pub IsNone : List Token → (Program → Type 0) → (ℕ → ParseFault) → ParseFault → Type 0
IsNone tokens P at_token fault = (at : ℕ) → ◌≡◌ {A = Result tree.Tree ParseFault} (Err fault) (Err (at_token at)) → (other : Program) → P other → kinds tokens ≢ spell other

pub without_tree : (tokens : List Token) (fault : ParseFault) → fault ≢ Memory → Answers (kinds tokens) (Err fault) → IsNone tokens IsIndexed Unexpected fault → IsNone tokens IsIndexed OutsideProfile fault → IsNone tokens IsProper TooDeep fault → HaveNoTree tokens fault
without_tree tokens (Unexpected at) known read unexpected outside deep = record { none = λ p proper. unexpected at refl p proper.indexed; read = read known }
without_tree tokens (OutsideProfile at) known read unexpected outside deep = record { none = λ p proper. outside at refl p proper.indexed; read = read known }
without_tree tokens (TooDeep at) known read unexpected outside deep = record { none = λ p proper. deep at refl p proper; read = read known }
without_tree tokens Memory known read unexpected outside deep = absurd (known refl)
