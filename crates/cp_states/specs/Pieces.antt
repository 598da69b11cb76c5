-- Lists that stand one after another.
use Rattle.std.specs.Prelude.{◌≡◌, ◌-◌, ◌<◌, ◌≤◌, ◌∷◌, ℕ, List, drop, length, slice_index_or, take}
use Rattle.cp_states.specs.Hashing.{hash_of}

-- where a piece begins: where the one before it ends
abbrev pub begin_of : List ℕ → ℕ → ℕ
begin_of ends n = slice_index_or (0 ∷ ends) n 0

abbrev pub end_of : List ℕ → ℕ → ℕ
end_of ends n = slice_index_or ends n 0

abbrev pub piece_at : {A : Type 0} → List A → List ℕ → ℕ → List A
piece_at items ends n = take (end_of ends n - begin_of ends n) (drop (begin_of ends n) items)

-- each piece ends where it begins or later, and within the items; the last ends with them
pub record AreInside (ends : List ℕ) (count : ℕ) : Type 0 where
  pub rising : (n : ℕ) → n < length ends → begin_of ends n ≤ end_of ends n
  pub within : (n : ℕ) → n < length ends → end_of ends n ≤ count
  pub all : begin_of ends (length ends) ≡ count

-- these are the hashes of the pieces
pub record AreHashed {A : Type 0} (code : A → ℕ) (items : List A) (ends hashes : List ℕ) : Type 0 where
  pub count : length hashes ≡ length ends
  pub each : (n : ℕ) → n < length ends → slice_index_or hashes n 0 ≡ hash_of code (piece_at items ends n)

-- no two pieces are the same
abbrev pub AreDifferent : {A : Type 0} → List A → List ℕ → Type 0
AreDifferent items ends = (m n : ℕ) → m < length ends → n < length ends → piece_at items ends m ≡ piece_at items ends n → m ≡ n

-- the pieces keep their numbers
pub record KeepPieces {A : Type 0} (items : List A) (ends : List ℕ) (items' : List A) (ends' : List ℕ) : Type 0 where
  pub more : length ends ≤ length ends'
  pub same : (n : ℕ) → n < length ends → piece_at items' ends' n ≡ piece_at items ends n

-- a list has a number
pub record IsPiece {A : Type 0} (items : List A) (ends : List ℕ) (n : ℕ) (list : List A) : Type 0 where
  pub within : n < length ends
  pub is : piece_at items ends n ≡ list
