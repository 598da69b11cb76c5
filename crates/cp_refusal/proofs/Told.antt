-- What is told of a token or of a fault agrees with the line of `cpx`.
use Rattle.std.proofs.Common.{◌≡◌, ◌∙◌, ℕ, List, ◌++◌, Result, Ok, Err, ap, codes, false, inl, inr, refl, subst, sym}
use denote.Enum.Bare.{sameb}
use Rattle.std.specs.Prelude.{IfOk, MatchOption, drop}
use Rattle.cp_text.specs.Faults.{fault_at}
use Rattle.cp_text.specs.Spots.{spot_of}
use Rattle.cp_text.specs.declared.token.Spot.{Spot}
use Rattle.cp_text.specs.Reading.{HasFault}
use Rattle.cp_text.specs.contracts.fault.ScanCause.{the_type}
use Rattle.cp_text.specs.declared.fault.ScanCause.{ScanCause}
use Rattle.cp_text.specs.declared.fault.ScanCause.TheVariants as cause
use Rattle.cp_text.specs.declared.fault.ScanFault.{ScanFault}
use Rattle.cp_text.specs.declared.token.Token.{Token}
use Rattle.cp_tree.specs.declared.fault.ParseFault.{ParseFault}
use Rattle.cp_tree.specs.declared.fault.ParseFault.TheVariants as parse_fault
use Rattle.cp_tree.specs.declared.tree.Tree.{Tree}
use Rattle.cp_check.specs.declared.fault.CheckFault.{CheckFault}
use Rattle.cp_check.specs.declared.fault.CheckFault.TheVariants as check_fault
use Rattle.cp_check.specs.declared.fault.Rule.{Rule}
use Rattle.cp_check.specs.declared.fault.Rule.TheVariants as rule
use Rattle.cp_front.specs.Refusals.{check_reason, parse_reason, refusal, rule_reason}
use Rattle.cp_front.specs.declared.refusal.Refusal.{Refusal}
use Rattle.cp_front.specs.declared.refusal.Refusal.TheVariants.{Check, Parse, Scan}
use Rattle.cp_refusal.specs.declared.report.ExplainedRefusal.{ExplainedRefusal}
use Rattle.cp_refusal.specs.declared.report.Explanation.{Explanation}
use Rattle.cp_refusal.specs.declared.report.Explanation.TheVariants.{Accepted, Refused}
use Rattle.cp_refusal.specs.Explaining.{AgreesWith, IsOfKind, IsPlaceIn, IsRefusedAt, IsToldOf, rule_code, token_line}

-- ---- kinds

begins_with : (kind k rest reason : List ℕ) → k ≡ kind → reason ≡ (kind ++ codes ": ") ++ rest → IsOfKind reason k
begins_with kind k rest reason same is = inl (record { rest = rest; is = is ∙ ap (λ (l : List ℕ). (l ++ codes ": ") ++ rest) (sym same) })

agrees : (source kind reason rest : List ℕ) (number : ℕ) (r : ExplainedRefusal) → r.kind.now ≡ kind → reason ≡ (kind ++ codes ": ") ++ rest → IsPlaceIn source number r.span → AgreesWith (refusal number reason) source r
agrees source kind reason rest number r same is place = record { number = number; reason = reason; is = refl; kind = begins_with kind r.kind.now rest reason same is; place = place }

code_of : (r : Rule) → rule_reason r ≡ codes "check " ++ rule_code r
code_of rule.C1 = refl
code_of rule.C2 = refl
code_of rule.C3 = refl
code_of rule.C4 = refl
code_of rule.C5 = refl
code_of rule.C6 = refl
code_of rule.C7 = refl
code_of rule.C8 = refl
code_of rule.C9 = refl
code_of rule.C10 = refl
code_of rule.C11 = refl
code_of rule.C12 = refl
code_of rule.C13 = refl
code_of rule.C14 = refl
code_of rule.C15 = refl
code_of rule.C16 = refl
code_of rule.C17 = refl
code_of rule.C18 = refl
code_of rule.C19 = refl
code_of rule.C20 = refl
code_of rule.C21 = refl
code_of rule.C22 = refl

-- ---- a fault of the scanner

scan_with : (source : List ℕ) (spot : Spot) (c : ScanCause) (r : ExplainedRefusal) → false ≡ sameb the_type c cause.Memory → r.kind.now ≡ codes "scan" → (HasFault source (fault_at spot c) → IsPlaceIn source spot.line r.span) → IsToldOf source (Scan (fault_at spot c)) (Refused r)
scan_with source spot cause.TooLong r other kind place = (refusal spot.line (codes "scan: too long"), refl, λ is. agrees source (codes "scan") (codes "scan: too long") (codes "too long") spot.line r kind refl (place is))
scan_with source spot cause.BadByte r other kind place = (refusal spot.line (codes "scan: bad byte"), refl, λ is. agrees source (codes "scan") (codes "scan: bad byte") (codes "bad byte") spot.line r kind refl (place is))
scan_with source spot cause.OpenComment r other kind place = (refusal spot.line (codes "scan: open comment"), refl, λ is. agrees source (codes "scan") (codes "scan: open comment") (codes "open comment") spot.line r kind refl (place is))
scan_with source spot cause.OpenChar r other kind place = (refusal spot.line (codes "scan: open char"), refl, λ is. agrees source (codes "scan") (codes "scan: open char") (codes "open char") spot.line r kind refl (place is))
scan_with source spot cause.BadChar r other kind place = (refusal spot.line (codes "scan: bad char"), refl, λ is. agrees source (codes "scan") (codes "scan: bad char") (codes "bad char") spot.line r kind refl (place is))
scan_with source spot cause.NumberTooLarge r other kind place = (refusal spot.line (codes "scan: number too large"), refl, λ is. agrees source (codes "scan") (codes "scan: number too large") (codes "number too large") spot.line r kind refl (place is))
scan_with source spot cause.NameTooLong r other kind place = (refusal spot.line (codes "scan: name too long"), refl, λ is. agrees source (codes "scan") (codes "scan: name too long") (codes "name too long") spot.line r kind refl (place is))
scan_with source spot cause.TooManyTokens r other kind place = (refusal spot.line (codes "scan: too many tokens"), refl, λ is. agrees source (codes "scan") (codes "scan: too many tokens") (codes "too many tokens") spot.line r kind refl (place is))
scan_with source spot cause.Memory r clash kind place = absurd (cc clash)

pub scan_told : (source : List ℕ) (fault : ScanFault) (r : ExplainedRefusal) → false ≡ sameb the_type fault.cause cause.Memory → r.kind.now ≡ codes "scan" → (HasFault source fault → IsPlaceIn source fault.line r.span) → IsToldOf source (Scan fault) (Refused r)
scan_told source fault r other kind place = scan_with source (spot_of fault.line fault.from) fault.cause r other kind place

-- ---- a token that is refused

parse_said : (source : List ℕ) (tokens : List Token) (fault : ParseFault) (said : Explanation) → MatchOption (parse_reason fault) ⊥ (λ reason. IsRefusedAt (codes "parse") source tokens reason.0 said) → IsToldOf source (Parse tokens fault) said
parse_said source tokens parse_fault.Memory said h = absurd h
parse_said source tokens (parse_fault.Unexpected at) (Accepted hints) h = h
parse_said source tokens (parse_fault.Unexpected at) (Refused r) h = (refusal (token_line tokens at) (codes "parse: unexpected"), refl, λ is. agrees source (codes "parse") (codes "parse: unexpected") (codes "unexpected") (token_line tokens at) r h.0 refl (h.1 is.0))
parse_said source tokens (parse_fault.OutsideProfile at) (Accepted hints) h = h
parse_said source tokens (parse_fault.OutsideProfile at) (Refused r) h = (refusal (token_line tokens at) (codes "parse: outside profile"), refl, λ is. agrees source (codes "parse") (codes "parse: outside profile") (codes "outside profile") (token_line tokens at) r h.0 refl (h.1 is.0))
parse_said source tokens (parse_fault.TooDeep at) (Accepted hints) h = h
parse_said source tokens (parse_fault.TooDeep at) (Refused r) h = (refusal (token_line tokens at) (codes "parse: too deep"), refl, λ is. agrees source (codes "parse") (codes "parse: too deep") (codes "too deep") (token_line tokens at) r h.0 refl (h.1 is.0))

check_said : (source : List ℕ) (tokens : List Token) (tree : Tree) (fault : CheckFault) (said : Explanation) → MatchOption (check_reason fault) ⊥ (λ reason. IsRefusedAt (drop 6 reason.1) source tokens reason.0 said) → IsToldOf source (Check tokens tree fault) said
check_said source tokens tree check_fault.Memory said h = absurd h
check_said source tokens tree (check_fault.Rule at r) (Accepted hints) h = h
check_said source tokens tree (check_fault.Rule at r) (Refused x) h =
    (refusal (token_line tokens at) (rule_reason r), refl, λ is. record { number = token_line tokens at; reason = rule_reason r; is = refl; kind = inr (code_of r ∙ ap (λ (l : List ℕ). codes "check " ++ l) (sym h.0)); place = h.1 is.0 })

-- ---- an answer, unless memory was refused

pub parse_told : {E : Type 0} (source : List ℕ) (why : Refusal) (tokens : List Token) (fault : ParseFault) (r : Result Explanation E) → why ≡ Parse tokens fault → IfOk r (λ said. MatchOption (parse_reason fault) ⊥ (λ reason. IsRefusedAt (codes "parse") source tokens reason.0 said)) → IfOk r (IsToldOf source why)
parse_told source why tokens fault (Ok said) is h = subst (λ (w : Refusal). IsToldOf source w said) (sym is) (parse_said source tokens fault said h)
parse_told source why tokens fault (Err e) is h = tt

pub check_told : {E : Type 0} (source : List ℕ) (why : Refusal) (tokens : List Token) (tree : Tree) (fault : CheckFault) (r : Result Explanation E) → why ≡ Check tokens tree fault → IfOk r (λ said. MatchOption (check_reason fault) ⊥ (λ reason. IsRefusedAt (drop 6 reason.1) source tokens reason.0 said)) → IfOk r (IsToldOf source why)
check_told source why tokens tree fault (Ok said) is h = subst (λ (w : Refusal). IsToldOf source w said) (sym is) (check_said source tokens tree fault said h)
check_told source why tokens tree fault (Err e) is h = tt
