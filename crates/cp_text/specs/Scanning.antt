-- Scanning from left to right, piece by piece, as it is computed.
use Rattle.std.specs.Prelude.{◌≡◌, ◌≢◌, ℕ, zero, suc, ◌+◌, ◌-◌, ◌==◌, nat_lt, if◌then◌else◌, List, [], ◌∷◌, ◌++◌, length, take, Option, Some, None, Result, Ok, Err}
use Rattle.cp_text.specs.declared.fault.ScanCause.{ScanCause}
use Rattle.cp_text.specs.declared.fault.ScanCause.TheVariants.{TooLong, Memory}
use Rattle.cp_text.specs.declared.fault.ScanFault.{ScanFault}
use Rattle.cp_text.specs.declared.token.Kind.{Kind}
use Rattle.cp_text.specs.declared.token.Spot.{Spot}
use Rattle.cp_text.specs.declared.token.Token.{Token}
use Rattle.cp_text.specs.Faults.{Outcome, fault_at, out_of_memory}
use Rattle.cp_text.specs.declared.front.Front.{Front}
use Rattle.cp_text.specs.Fronts.{front_piece}
use Rattle.cp_text.specs.Spots.{beginning, nowhere, spot_of, token_of}

abbrev pub fault : Spot → ScanCause → ScanFault
fault spot Memory = out_of_memory
fault spot cause = fault_at spot cause

-- the tokens with that of a piece, if it is one
abbrev pub added : List Token → Option Kind → Spot → List ℕ → List Token
added found None spot piece = found
added found (Some k) spot piece = found ++ token_of spot piece k ∷ []

abbrev pub after_byte : ℕ → Spot → Spot
after_byte b spot = spot_of (if b == 10 then spot.line + 1 else spot.line) (spot.from + 1)

-- on after the piece at the front of a text, by `go` on the bytes that are left of it, those before the closing behind it, and the tokens found
abbrev pub go_on : Spot → List Token → List ℕ → (ℕ → Option ℕ → List Token → Outcome) → Result Front ScanCause → Outcome
go_on spot found text go (Ok f) = go (f.len - 1) f.left (added found f.kind spot (take f.len text))
go_on spot found text go (Err e) = Err (fault_at spot e)

-- What a text reads to after the tokens found. The first number counts the bytes that are left of a piece, the second those between it and
-- the closing of the annotation that it stands in.
unfoldable pub scan_from : ℕ → Option ℕ → Spot → List Token → List ℕ → Outcome
scan_from left ahead spot found [] = Ok found
scan_from (suc left) ahead spot found (b ∷ text) = scan_from left ahead (after_byte b spot) found text
scan_from zero ahead spot found (b ∷ text) = go_on spot found (b ∷ text) (λ left o ts. scan_from left o (after_byte b spot) ts text) (front_piece (length found) ahead (b ∷ text))

-- the tokens of a text, or its first fault
unfoldable pub scan : List ℕ → Outcome
scan text = if nat_lt 65535 (length text) then Err (fault_at nowhere TooLong) else scan_from 0 None beginning [] text

-- what the scanner ensures: this outcome, unless memory is refused
abbrev pub Scans : Outcome → Outcome → Type 0
Scans outcome (Ok ts) = outcome ≡ Ok ts
Scans outcome (Err f) = f ≢ out_of_memory → outcome ≡ Err f
