-- What words lead to, with the first word for each: the shortest, and of the shortest the first in dictionary order.
use Rattle.std.specs.Prelude.{◌≡◌, ◌≢◌, ◌⊎◌, ◌≤◌, ◌==◌, ◌&&◌, ◌||◌, nat_lt, nat_le, filter, ℕ, List, [], ◌∷◌, Bool, true, false, Contains, All, length}
use Rattle.std.specs.List.{AllPairs}

-- dictionary order: the first word is the second or comes before it
abbrev pub in_dictionary : List ℕ → List ℕ → Bool
in_dictionary [] w = true
in_dictionary (p ∷ v) [] = false
in_dictionary (p ∷ v) (q ∷ w) = nat_lt p q || ((p == q) && in_dictionary v w)

-- the first word is the second or comes before it: it is shorter, or as long and not after it in the dictionary
unfoldable pub is_up_to : List ℕ → List ℕ → Bool
is_up_to v w = nat_lt (length v) (length w) || ((length v == length w) && in_dictionary v w)

-- P holds of the word, and of none before it
pub record IsFirst (P : List ℕ → Type 0) (word : List ℕ) : Type 0 where
  pub is : P word
  pub first : (other : List ℕ) → P other → is_up_to word other ≡ true

-- a list of things, each with a word
abbrev pub HasWord : {A : Type 0} → List (A × List ℕ) → A → Type 0
HasWord {A} found a = (word : List ℕ) × Contains found (a, word)

-- `P a word` says that the word leads to a. The list has each of these things once, with its first word, in the order of the words.
pub record AreFirsts {A : Type 0} (P : A → List ℕ → Type 0) (found : List (A × List ℕ)) : Type 0 where
  pub all : (a : A) (word : List ℕ) → P a word → HasWord found a
  pub first : (a : A) (word : List ℕ) → Contains found (a, word) → IsFirst (P a) word
  pub once : AllPairs (λ f h. f.0 ≢ h.0) found
  pub sorted : AllPairs (λ f h. is_up_to f.1 h.1 ≡ true) found

-- The same of the first n of them, where there are so many.
pub record AreFirstOnes {A : Type 0} (n : ℕ) (P : A → List ℕ → Type 0) (found : List (A × List ℕ)) : Type 0 where
  pub few : length found ≤ n
  pub all : (a : A) (word : List ℕ) → P a word → HasWord found a ⊎ ((length found ≡ n) × All (λ f. is_up_to f.1 word ≡ true) found)
  pub first : (a : A) (word : List ℕ) → Contains found (a, word) → IsFirst (P a) word
  pub once : AllPairs (λ f h. f.0 ≢ h.0) found
  pub sorted : AllPairs (λ f h. is_up_to f.1 h.1 ≡ true) found

-- a word of at most d numbers for which P holds
abbrev pub Within : {A : Type 0} → ℕ → (A → List ℕ → Type 0) → A → List ℕ → Type 0
Within d P a word = P a word × (length word ≤ d)

-- the word of a thing has at most so many numbers
abbrev pub is_within : {A : Type 0} → ℕ → A × List ℕ → Bool
is_within d e = nat_le (length e.1) d

-- the things with such words
abbrev pub those_within : {A : Type 0} → ℕ → List (A × List ℕ) → List (A × List ℕ)
those_within d found = filter (is_within d) found
