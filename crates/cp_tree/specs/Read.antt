-- Programs that were read from a text.
use Rattle.std.specs.Prelude.{◌≡◌, List}
use Rattle.cp_text.specs.declared.token.Token.{Token}
use Rattle.cp_text.specs.Kinds.{kinds}
use Rattle.cp_text.specs.Reading.{AreOfText}
use Rattle.cp_tree.specs.Spelling.{spell}
use Rattle.cp_tree.specs.SpellingLevel.{IsProper}
use Rattle.cp_tree.specs.Syntax.{Program}

-- its tokens are those of a text, and each node has the number of its token
pub record IsRead (p : Program) : Type 0 where
  pub tokens : List Token
  pub text : AreOfText tokens
  pub spelled : kinds tokens ≡ spell p
  pub proper : IsProper p
