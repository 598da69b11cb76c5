-- The line that says where and why a source is refused, and its reasons.
use Rattle.std.specs.Prelude.{◌≡◌, ℕ, List, [], ◌∷◌, ◌++◌, Option, Some, None, codes, length, min}
use Rattle.std.specs.Fmt.{decimal}
use Rattle.cp_text.specs.Lines as texts
use Rattle.cp_text.specs.declared.token.Token.{Token}
use Rattle.cp_text.specs.declared.fault.ScanCause.{ScanCause}
use Rattle.cp_text.specs.declared.fault.ScanCause.TheVariants as cause
use Rattle.cp_tree.specs.declared.fault.ParseFault.{ParseFault}
use Rattle.cp_tree.specs.declared.fault.ParseFault.TheVariants as parse_fault
use Rattle.cp_check.specs.declared.fault.CheckFault.{CheckFault}
use Rattle.cp_check.specs.declared.fault.CheckFault.TheVariants as check_fault
use Rattle.cp_check.specs.declared.fault.Rule.{Rule}
use Rattle.cp_check.specs.declared.fault.Rule.TheVariants as rule
use Rattle.cp_front.specs.declared.refusal.Refusal.{Refusal}
use Rattle.cp_front.specs.declared.refusal.Refusal.TheVariants as because

abbrev pub refusal : ℕ → List ℕ → List ℕ
refusal line reason = codes "line " ++ (decimal line ++ (codes " " ++ (reason ++ 10 ∷ [])))

abbrev pub scan_reason : ScanCause → Option (List ℕ)
scan_reason cause.TooLong = Some (codes "scan: too long")
scan_reason cause.BadByte = Some (codes "scan: bad byte")
scan_reason cause.OpenComment = Some (codes "scan: open comment")
scan_reason cause.OpenChar = Some (codes "scan: open char")
scan_reason cause.BadChar = Some (codes "scan: bad char")
scan_reason cause.NumberTooLarge = Some (codes "scan: number too large")
scan_reason cause.NameTooLong = Some (codes "scan: name too long")
scan_reason cause.TooManyTokens = Some (codes "scan: too many tokens")
scan_reason cause.Memory = None

-- the number of the token that is refused, and why
abbrev pub parse_reason : ParseFault → Option (ℕ × List ℕ)
parse_reason (parse_fault.Unexpected at) = Some (at, codes "parse: unexpected")
parse_reason (parse_fault.OutsideProfile at) = Some (at, codes "parse: outside profile")
parse_reason (parse_fault.TooDeep at) = Some (at, codes "parse: too deep")
parse_reason parse_fault.Memory = None

abbrev pub rule_reason : Rule → List ℕ
rule_reason rule.C1 = codes "check C1"
rule_reason rule.C2 = codes "check C2"
rule_reason rule.C3 = codes "check C3"
rule_reason rule.C4 = codes "check C4"
rule_reason rule.C5 = codes "check C5"
rule_reason rule.C6 = codes "check C6"
rule_reason rule.C7 = codes "check C7"
rule_reason rule.C8 = codes "check C8"
rule_reason rule.C9 = codes "check C9"
rule_reason rule.C10 = codes "check C10"
rule_reason rule.C11 = codes "check C11"
rule_reason rule.C12 = codes "check C12"
rule_reason rule.C13 = codes "check C13"
rule_reason rule.C14 = codes "check C14"
rule_reason rule.C15 = codes "check C15"
rule_reason rule.C16 = codes "check C16"
rule_reason rule.C17 = codes "check C17"
rule_reason rule.C18 = codes "check C18"
rule_reason rule.C19 = codes "check C19"
rule_reason rule.C20 = codes "check C20"
rule_reason rule.C21 = codes "check C21"
rule_reason rule.C22 = codes "check C22"

abbrev pub check_reason : CheckFault → Option (ℕ × List ℕ)
check_reason (check_fault.Rule at r) = Some (at, rule_reason r)
check_reason check_fault.Memory = None

-- ---- the line of a refusal

-- the line that names this line of the source, if there is a reason
abbrev pub IsRefusedIn : ℕ → Option (List ℕ) → List ℕ → Type 0
IsRefusedIn line None text = ⊥
IsRefusedIn line (Some reason) text = text ≡ refusal line reason

-- the line of the token of this number, or of the last one for the end of the source
abbrev pub IsRefusedAt : List Token → Option (ℕ × List ℕ) → List ℕ → Type 0
IsRefusedAt tokens None text = ⊥
IsRefusedAt tokens (Some r) text = text ≡ refusal (texts.line_of tokens (min r.0 (length tokens))) r.1

-- Refused memory has no line.
abbrev pub IsLineOf : Refusal → List ℕ → Type 0
IsLineOf (because.Scan fault) text = IsRefusedIn fault.line (scan_reason fault.cause) text
IsLineOf (because.Parse tokens fault) text = IsRefusedAt tokens (parse_reason fault) text
IsLineOf (because.Check tokens tree fault) text = IsRefusedAt tokens (check_reason fault) text
IsLineOf because.Memory text = ⊥
