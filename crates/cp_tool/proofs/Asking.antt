-- What is asked for is what is answered.
use Rattle.std.proofs.Common.{◌≡◌, Bool, true, false, sym, subst}
use Rattle.std.specs.Bool.{MatchBool}
use Rattle.cp_tool.specs.Answered.{Answering, IsExploredAlone}
use Rattle.cp_tool.specs.declared.options.Options.{Options}
use Rattle.cp_tool.specs.Ends.{AreEnds, IsAnswered, asks_ends}

abbrev Either : Options → Bool → Answering
Either o b t verdict text = MatchBool b (AreEnds o t verdict text) (IsExploredAlone o t verdict text)

module _ (o : Options) (P : Answering → Type 0) where
  pub with_ends : asks_ends o ≡ true → P (AreEnds o) → P (IsAnswered o)
  with_ends e h = subst (λ (b : Bool). P (Either o b)) (sym e) h

  pub without_ends : asks_ends o ≡ false → P (IsExploredAlone o) → P (IsAnswered o)
  without_ends e h = subst (λ (b : Bool). P (Either o b)) (sym e) h
