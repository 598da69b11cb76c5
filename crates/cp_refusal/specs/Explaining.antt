-- What is told of a refusal: the kind and the line of the line of `cpx`.
use Rattle.std.specs.Prelude.{◌≡◌, ◌≤◌, ◌++◌, ◌⊎◌, ℕ, List, Option, Some, None, codes, drop, length, min}
use Rattle.cp_text.specs.Lines.{line_of}
use Rattle.cp_text.specs.Reading.{HasTokens}
use Rattle.cp_text.specs.declared.token.Token.{Token}
use Rattle.cp_check.specs.declared.fault.Rule.{Rule}
use Rattle.cp_front.specs.Loading.{IsRefusalOf}
use Rattle.cp_front.specs.Refusals.{IsLineOf, refusal, rule_reason}
use Rattle.cp_front.specs.declared.refusal.Refusal.{Refusal}
use Rattle.cp_text.specs.declared.token.ByteRange.{ByteRange}
use Rattle.cp_refusal.specs.declared.report.ExplainedRefusal.{ExplainedRefusal}
use Rattle.cp_refusal.specs.declared.report.Explanation.{Explanation}
use Rattle.cp_refusal.specs.declared.report.Explanation.TheVariants.{Accepted, Refused}
use Rattle.cp_refusal.specs.Lines.{line_in}
use Rattle.cp_refusal.specs.Text.{BeginsWith}

-- ---- a refusal

-- the reason in the line of `cpx` is of this kind: `scan: ..` and `parse: ..` begin with it, and it is the rule in `check C5`
abbrev pub IsOfKind : List ℕ → List ℕ → Type 0
IsOfKind reason kind = BeginsWith (kind ++ codes ": ") reason ⊎ (reason ≡ codes "check " ++ kind)

-- the place lies in the line of this number; 0 is the number of none, and there is no place
abbrev pub IsPlaceIn : List ℕ → ℕ → Option ByteRange → Type 0
IsPlaceIn source number None = number ≡ 0
IsPlaceIn source number (Some place) = (place.from ≤ length source) × (line_in source place.from ≡ number)

-- what is told names the line of the source and the kind that this line of `cpx` names
pub record AgreesWith (line source : List ℕ) (r : ExplainedRefusal) : Type 0 where
  pub number : ℕ
  pub reason : List ℕ
  pub is : line ≡ refusal number reason
  pub kind : IsOfKind reason r.kind.now
  pub place : IsPlaceIn source number r.span

-- What is told of a refusal of this source agrees with its line. Of refused memory there is no line, and nothing is told.
abbrev pub IsToldOf : List ℕ → Refusal → Explanation → Type 0
IsToldOf source why (Accepted hints) = ⊥
IsToldOf source why (Refused r) = (line : List ℕ) × IsLineOf why line × (IsRefusalOf source why → AgreesWith line source r)

abbrev pub IsAccepted : Explanation → Type 0
IsAccepted (Accepted hints) = Unit {0}
IsAccepted (Refused r) = ⊥

-- ---- a token that is refused

-- the code of a rule: what the line of `cpx` has after `check `
abbrev pub rule_code : Rule → List ℕ
rule_code rule = drop 6 (rule_reason rule)

-- the line of the token of this number, or of the last one for the end of the source
abbrev pub token_line : List Token → ℕ → ℕ
token_line tokens at = line_of tokens (min at (length tokens))

-- a token is refused, as of this kind, in its line
abbrev pub IsRefusedAt : List ℕ → List ℕ → List Token → ℕ → Explanation → Type 0
IsRefusedAt kind source tokens at (Accepted hints) = ⊥
IsRefusedAt kind source tokens at (Refused r) = (r.kind.now ≡ kind) × (HasTokens source tokens → IsPlaceIn source (token_line tokens at) r.span)
