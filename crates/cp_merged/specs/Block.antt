-- Rows of one width, one after another.
use Rattle.std.specs.Prelude.{◌≡◌, ◌*◌, ◌<◌, ℕ, List, drop, length, slice_index_or, take}
use Rattle.cp_states.specs.Hashing.{hash_of}

-- the row of a number
abbrev pub row_at : ℕ → List ℕ → ℕ → List ℕ
row_at width numbers n = take width (drop (n * width) numbers)

-- these are the hashes of the rows
pub record AreRowHashes (width : ℕ) (numbers : List ℕ) (count : ℕ) (hashes : List ℕ) : Type 0 where
  pub long : length hashes ≡ count
  pub each : (n : ℕ) → n < count → slice_index_or hashes n 0 ≡ hash_of (λ (k : ℕ). k) (row_at width numbers n)

-- no two rows are the same
abbrev pub AreDifferentRows : ℕ → List ℕ → ℕ → Type 0
AreDifferentRows width numbers count = (m n : ℕ) → m < count → n < count → row_at width numbers m ≡ row_at width numbers n → m ≡ n
