-- Lists by their numbers.
use Rattle.std.proofs.Common.{◌≡◌, ◌∙◌, ℕ, List, arith, refl, sym}
use Rattle.cp_states.specs.Pieces.{AreDifferent, IsPiece, KeepPieces}

pub one_piece : {A : Type 0} (items : List A) (ends : List ℕ) (n : ℕ) (xs ys : List A) → IsPiece items ends n xs → IsPiece items ends n ys → xs ≡ ys
one_piece items ends n xs ys a b = sym a.is ∙ b.is

pub one_number : {A : Type 0} (items : List A) (ends : List ℕ) (m n : ℕ) (xs : List A) → AreDifferent items ends → IsPiece items ends m xs → IsPiece items ends n xs → m ≡ n
one_number items ends m n xs apart a b = apart m n a.within b.within (a.is ∙ sym b.is)

pub pieces_same : {A : Type 0} (items : List A) (ends : List ℕ) → KeepPieces items ends items ends
pieces_same items ends = record { more = omega arith; same = λ n lt. refl }

pub pieces_on : {A : Type 0} (items : List A) (ends : List ℕ) (items' : List A) (ends' : List ℕ) (items'' : List A) (ends'' : List ℕ) → KeepPieces items ends items' ends' → KeepPieces items' ends' items'' ends'' → KeepPieces items ends items'' ends''
pieces_on items ends items' ends' items'' ends'' a b =
    record {
      more = omega (arith, a.more, b.more);
      same = λ n lt. b.same n (omega (arith, lt, a.more)) ∙ a.same n lt;
    }

pub piece_on : {A : Type 0} (items : List A) (ends : List ℕ) (items' : List A) (ends' : List ℕ) (n : ℕ) (list : List A) → KeepPieces items ends items' ends' → IsPiece items ends n list → IsPiece items' ends' n list
piece_on items ends items' ends' n list kept is = record { within = omega (arith, kept.more, is.within); is = kept.same n is.within ∙ is.is }
