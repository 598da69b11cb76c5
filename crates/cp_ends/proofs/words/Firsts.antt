-- What holds of the same words has the same first words.
use Rattle.std.proofs.Common.{ℕ, List}
use Rattle.cp_ends.specs.Firsts.{IsFirst, AreFirsts, AreFirstOnes, Within}

-- both say the same of each thing and word
pub record SayTheSame {A : Type 0} (P Q : A → List ℕ → Type 0) : Type 0 where
  pub there : (a : A) (word : List ℕ) → P a word → Q a word
  pub back : (a : A) (word : List ℕ) → Q a word → P a word

pub first_same : (P Q : List ℕ → Type 0) → ((word : List ℕ) → P word → Q word) → ((word : List ℕ) → Q word → P word) → (word : List ℕ) → IsFirst P word → IsFirst Q word
first_same P Q there back word f = record { is = there word f.is; first = λ other q. f.first other (back other q) }

module _ {A : Type 0} (P Q : A → List ℕ → Type 0) (same : SayTheSame P Q) where
  pub first_of_same : (a : A) (word : List ℕ) → IsFirst (P a) word → IsFirst (Q a) word
  first_of_same a word f = first_same (P a) (Q a) (same.there a) (same.back a) word f

  pub firsts_same : (found : List (A × List ℕ)) → AreFirsts P found → AreFirsts Q found
  firsts_same found f =
      record {
        all = λ a word q. f.all a word (same.back a word q);
        first = λ a word c. first_of_same a word (f.first a word c);
        once = f.once;
        sorted = f.sorted;
      }

  pub first_ones_same : (n : ℕ) (found : List (A × List ℕ)) → AreFirstOnes n P found → AreFirstOnes n Q found
  first_ones_same n found f =
      record {
        few = f.few;
        all = λ a word q. f.all a word (same.back a word q);
        first = λ a word c. first_of_same a word (f.first a word c);
        once = f.once;
        sorted = f.sorted;
      }

  pub within_same : (d : ℕ) → SayTheSame (Within d P) (Within d Q)
  within_same d = record { there = λ a word w. (same.there a word w.0, w.1); back = λ a word w. (same.back a word w.0, w.1) }
