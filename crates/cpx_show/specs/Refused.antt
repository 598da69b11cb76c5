-- What is said in words of a source that is refused, or accepted.
use Rattle.std.specs.Prelude.{ℕ, List, Option}
use Rattle.cp_front.specs.declared.refusal.Refusal.{Refusal}
use Rattle.cp_refusal.specs.Explaining.{IsAccepted, IsToldOf}
use Rattle.cp_refusal.specs.Text.{IsTextOf}
use Rattle.cp_refusal.specs.declared.report.Explanation.{Explanation}

-- the text of a refusal that agrees with the line of `cpx`, on the kind and on the line of the source, which it shows
pub record TellsRefused (source : List ℕ) (file : Option (List ℕ)) (why : Refusal) (text : List ℕ) : Type 0 where
  pub said : Explanation
  pub agrees : IsToldOf source why said
  pub is : IsTextOf source file said text

-- the text of what is said of a source that is accepted
pub record TellsAccepted (source : List ℕ) (file : Option (List ℕ)) (text : List ℕ) : Type 0 where
  pub said : Explanation
  pub accepted : IsAccepted said
  pub is : IsTextOf source file said text
