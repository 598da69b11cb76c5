-- The hash of a list.
use Rattle.std.specs.Prelude.{ℕ, ◌*◌, ◌/◌, ◌%◌, ◌^◌, List, [], ◌∷◌, length, bit_xor, zero, suc, ◌+◌, slice_index_or}

-- a hash with one number more
unfoldable pub mixed : ℕ → ℕ → ℕ
mixed hash number = bit_xor hash number * 11400714819323198485 % 2 ^ 64

-- a hash after the last number
unfoldable pub settled : ℕ → ℕ
settled hash = bit_xor hash (hash / 2 ^ 32) * 11400714819323198485 % 2 ^ 64 / 2 ^ 32

-- a hash with the numbers of a list
abbrev pub hash_with : {A : Type 0} → (A → ℕ) → ℕ → List A → ℕ
hash_with code hash [] = hash
hash_with code hash (x ∷ xs) = hash_with code (mixed hash (code x)) xs

abbrev pub hash_of : {A : Type 0} → (A → ℕ) → List A → ℕ
hash_of code list = settled (hash_with code (length list) list)

-- a hash of numbers, the first pairs after one another and then what stands behind them
abbrev pub hash_of_pairs : List ℕ → ℕ → ℕ
hash_of_pairs numbers zero = slice_index_or numbers 20 0
hash_of_pairs numbers (suc k) = mixed (hash_of_pairs numbers k) (slice_index_or numbers (2 * k) 0 + slice_index_or numbers (2 * k + 1) 0 * 4294967296)
