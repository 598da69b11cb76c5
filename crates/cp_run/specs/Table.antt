-- The table of all complete words.
use Rattle.std.specs.Prelude.{◌≡◌, ℕ, zero, suc, ◌==◌, List, [], ◌∷◌, ◌++◌, length, map, if◌then◌else◌}
use Rattle.cp_run.specs.declared.outcome.Outcome.{Outcome}
use Rattle.cp_run.specs.System.{System}
use Rattle.cp_run.specs.Run.{joined_below, Answer, Ended, Wants, NotReady, run}

-- a row: a word and its outcome
pub record Line : Type 0 where
  pub word : List ℕ
  pub outcome : Outcome

-- all words of at most k numbers below n, in dictionary order
unfoldable pub words : ℕ → ℕ → List (List ℕ)
words n zero = [] ∷ []
words n (suc k) = [] ∷ joined_below n (λ p. map (λ w. p ∷ w) (words n k))

-- the row of a word that its run ends with and uses wholly
abbrev pub lines_of : List ℕ → Answer → List Line
lines_of word (Ended outcome used) = if used == length word then record { word = word; outcome = outcome } ∷ [] else []
lines_of word (Wants ready) = []
lines_of word (NotReady place) = []

-- the lists of the elements, one after the other
abbrev pub each : {A B : Type 0} → (A → List B) → List A → List B
each f [] = []
each f (x ∷ xs) = f x ++ each f xs

unfoldable pub table : {S : Type 0} → System S → ℕ → ℕ → List Line
table sys choices steps = each (λ word. lines_of word (run sys choices steps word)) (words sys.processes choices)

pub data IsAmong {A : Type 0} (x : A) : List A → Type 0 where
  Here : (xs : List A) → IsAmong x (x ∷ xs)
  There : (y : A) (xs : List A) → IsAmong x xs → IsAmong x (y ∷ xs)

-- no word of the rows begins another word of them
abbrev pub IsPrefixFree : List Line → Type 0
IsPrefixFree lines = (l m : Line) (rest : List ℕ) → IsAmong l lines → IsAmong m lines → m.word ≡ l.word ++ rest → rest ≡ []
