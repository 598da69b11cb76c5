-- A piece stands at the front of a text exactly where it is found there.
use Rattle.std.proofs.Common.{◌≡◌, ℕ, ◌<◌, ◌≤◌, List, [], ◌∷◌, ◌++◌, length, take, drop, arith, refl, sym, ap, ◌∙◌, subst, Result, Ok, Err}
use Rattle.std.proofs.lemmas.List.{length-take, take-append-drop}
use Rattle.cp_text.specs.declared.fault.ScanCause.{ScanCause}
use Rattle.cp_text.specs.declared.piece.Piece.{Piece}
use Rattle.cp_text.specs.declared.piece.Shape.{Shape}
use Rattle.cp_text.specs.declared.piece.Shape.TheVariants as shape
use Rattle.cp_text.specs.declared.token.Mark.{Mark}
use Rattle.cp_text.specs.Pieces.{first_piece}
use Rattle.cp_text.specs.Reading.{Has, signs, Stands, NoneStands}
use Rattle.cp_text.proofs.FoundLaws.{Unread, Fits, fits}
use Rattle.cp_text.proofs.PieceLaws.{Covers, covers, Each, each_contains}

abbrev HasBytes : List ℕ × Mark → Type 0
HasBytes s = 0 < length s.0

signs_have_bytes : Each HasBytes signs
signs_have_bytes = (omega arith, (omega arith, (omega arith, (omega arith, (omega arith, (omega arith, (omega arith, (omega arith, (omega arith, (omega arith, (omega arith, (omega arith, (omega arith, (omega arith, (omega arith, (omega arith, (omega arith, (omega arith, (omega arith, (omega arith, (omega arith, (omega arith, tt))))))))))))))))))))))

pub has_bytes : (s : Shape) (piece : List ℕ) → Has s piece → 0 < length piece
has_bytes shape.Separator piece h = rw h.is (omega arith)
has_bytes shape.Comment piece h = rw h.is (omega arith)
has_bytes shape.Number piece h = h.0
has_bytes shape.Name piece h = rw h.is (omega arith)
has_bytes shape.Character piece h = rw h.is (omega arith)
has_bytes (shape.Sign m) piece h = each_contains HasBytes signs (piece, m) signs_have_bytes h

pub found_fits : (b : ℕ) (z : List ℕ) (r : Result Piece ScanCause) → first_piece (b ∷ z) ≡ r → Fits b z r
found_fits b z r e = subst (λ t. Fits b z t) e (fits b z)

covered : (b : ℕ) (z : List ℕ) (r : Result Piece ScanCause) → first_piece (b ∷ z) ≡ r → (s : Shape) (piece rest : List ℕ) → Has s piece → piece ++ rest ≡ b ∷ z → Covers r s (length piece)
covered b z r e s piece rest h whole = subst (λ t. Covers t s (length piece)) (ap first_piece whole ∙ e) (covers s piece rest h)

pub stands_found : (b : ℕ) (z : List ℕ) (p : Piece) → first_piece (b ∷ z) ≡ Ok p → Stands p.shape (take p.len (b ∷ z)) (drop p.len (b ∷ z))
stands_found b z p e =
    let f : Fits b z (Ok p) = found_fits b z (Ok p) e in
    record {
      shaped = f.2;
      longest = λ other longer more h is.
          let c : Covers (Ok p) other (length longer) = covered b z (Ok p) e other longer more h (is ∙ take-append-drop p.len (b ∷ z)) in
          omega (arith, length-take p.len (b ∷ z), c.0, f.1);
    }

pub none_found : (b : ℕ) (z : List ℕ) (e : ScanCause) → first_piece (b ∷ z) ≡ Err e → NoneStands (b ∷ z)
none_found b z e is = λ s piece rest h whole. covered b z (Err e) is s piece rest h whole

stands_is_at : (b : ℕ) (z : List ℕ) (r : Result Piece ScanCause) → first_piece (b ∷ z) ≡ r → (s : Shape) (piece rest : List ℕ) → piece ++ rest ≡ b ∷ z → Stands s piece rest
    → r ≡ Ok (record { shape = s; len = length piece })
stands_is_at b z (Err e) is s piece rest whole h = absurd (none_found b z e is s piece rest h.shaped whole)
stands_is_at b z (Ok q) is s piece rest whole h =
    let c : Covers (Ok q) s (length piece) = covered b z (Ok q) is s piece rest h.shaped whole in
    let f : Fits b z (Ok q) = found_fits b z (Ok q) is in
    let l : length (take q.len (b ∷ z)) ≤ length piece = h.longest q.shape (take q.len (b ∷ z)) (drop q.len (b ∷ z)) f.2 (take-append-drop q.len (b ∷ z) ∙ sym whole) in
    let same : length piece ≡ q.len = omega (arith, length-take q.len (b ∷ z), c.0, f.1) in
    let shapes : s ≡ q.shape = c.1 same in
    rw (shapes, same) refl

pub stands_is : (s : Shape) (piece rest : List ℕ) → Stands s piece rest → first_piece (piece ++ rest) ≡ Ok (record { shape = s; len = length piece })
stands_is s [] rest h = let some : 0 < 0 = has_bytes s [] h.shaped in absurd (omega arith)
stands_is s (x ∷ xs) rest h = stands_is_at x (xs ++ rest) (first_piece (x ∷ (xs ++ rest))) refl s (x ∷ xs) rest refl h

-- why no piece is found
pub record IsUnread (b : ℕ) (z : List ℕ) : Type 0 where
  pub cause : ScanCause
  pub found : first_piece (b ∷ z) ≡ Err cause
  pub reason : Unread b cause

none_is_at : (b : ℕ) (z : List ℕ) (r : Result Piece ScanCause) → first_piece (b ∷ z) ≡ r → NoneStands (b ∷ z) → IsUnread b z
none_is_at b z (Ok p) is none = absurd (none p.shape (take p.len (b ∷ z)) (drop p.len (b ∷ z)) (found_fits b z (Ok p) is).2 (take-append-drop p.len (b ∷ z)))
none_is_at b z (Err e) is none = record { cause = e; found = is; reason = found_fits b z (Err e) is }

pub none_is : (b : ℕ) (z : List ℕ) → NoneStands (b ∷ z) → IsUnread b z
none_is b z none = none_is_at b z (first_piece (b ∷ z)) refl none
