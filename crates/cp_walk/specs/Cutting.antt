-- Words that cut a table into parts.
use Rattle.std.specs.Prelude.{◌≡◌, ◌+◌, ℕ, zero, suc, List, [], ◌∷◌, ◌++◌, Bool, true, false, ◌&&◌, ◌||◌, ◌==◌, nat_lt, map, length, count_by, take, drop, slice_index_or, position, Option, None, Some, Result, Ok, Err, if◌then◌else◌}
use Rattle.cp_run.specs.System.{System}
use Rattle.cp_run.specs.Run.{Node, Halted, Choosing, Answer, Ended, Wants, NotReady, may, chosen, opened, run}
use Rattle.cp_run.specs.Table.{Line, each, table}
use Rattle.cp_walk.specs.Walk.{behind, walk}
use Rattle.cp_walk.specs.declared.fault.SplitFault.{SplitFault}
use Rattle.cp_walk.specs.declared.fault.SplitFault.TheVariants.{Memory, Leaf, Full}

-- a fact of each element
abbrev pub Each : {A : Type 0} → (A → Type 0) → List A → Type 0
Each P [] = Unit {0}
Each P (x ∷ xs) = P x × Each P xs

-- whether a word begins another
abbrev pub begins : List ℕ → List ℕ → Bool
begins [] w = true
begins (p ∷ v) [] = false
begins (p ∷ v) (q ∷ w) = (p == q) && begins v w

-- whether a word comes before another in dictionary order
abbrev pub is_before : List ℕ → List ℕ → Bool
is_before v [] = false
is_before [] (q ∷ w) = true
is_before (p ∷ v) (q ∷ w) = nat_lt p q || ((p == q) && is_before v w)

-- each element with all that follow it
abbrev pub Pairwise : {A : Type 0} → (A → A → Bool) → List A → Type 0
Pairwise r [] = Unit {0}
Pairwise r (x ∷ xs) = Each (λ y. r x y ≡ true) xs × Pairwise r xs

-- whether a run uses its word wholly
abbrev pub IsUsed : List ℕ → Answer → Type 0
IsUsed word (Ended outcome used) = used ≡ length word
IsUsed word (Wants ready) = Unit {0}
IsUsed word (NotReady place) = ⊥

-- words in dictionary order, each used wholly by its run, such that each word of the table begins with exactly one
pub record IsCutting {S : Type 0} (sys : System S) (choices steps : ℕ) (words : List (List ℕ)) : Type 0 where
  pub order : Pairwise is_before words
  pub used : Each (λ word. IsUsed word (run sys choices steps word)) words
  pub one : Each (λ l. count_by (λ word. begins word l.word) words ≡ 1) (table sys choices steps)

-- the rows that begin with a word, from where a run stands, with this many choices left
unfoldable pub rows_from : {S : Type 0} → System S → ℕ → ℕ → List ℕ → Node S → List Line
rows_from sys steps choices [] node = walk sys steps choices node
rows_from sys steps zero (p ∷ word) node = []
rows_from sys steps (suc choices) (p ∷ word) (Halted kind s) = []
rows_from sys steps (suc choices) (p ∷ word) (Choosing s) = if may sys s p then map (behind (p ∷ [])) (rows_from sys steps choices word (chosen sys steps s p)) else []

-- the rows of a table that begin with a word
unfoldable pub rows_behind : {S : Type 0} → System S → ℕ → ℕ → List ℕ → List Line
rows_behind sys choices steps word = rows_from sys steps choices word (opened sys steps)

-- whether a word comes before another at the first place where they differ
abbrev pub parts_before : List ℕ → List ℕ → Bool
parts_before [] w = false
parts_before (p ∷ v) [] = false
parts_before (p ∷ v) (q ∷ w) = nat_lt p q || ((p == q) && parts_before v w)

-- what holds of a cutting beside: no member begins another, and the rows that begin with the members, one after the other, are the table
pub record Parts {S : Type 0} (sys : System S) (choices steps : ℕ) (words : List (List ℕ)) : Type 0 where
  pub apart : Pairwise parts_before words
  pub rows : each (rows_behind sys choices steps) words ≡ table sys choices steps

-- ---- splits

-- the words that are one of these numbers longer
abbrev pub children : List ℕ → List ℕ → List (List ℕ)
children word ready = map (λ p. word ++ p ∷ []) ready

abbrev pub word_at : List (List ℕ) → ℕ → List ℕ
word_at words i = slice_index_or words i []

-- what a run wants, if it does not end
abbrev pub wanted_in : Answer → Option (List ℕ)
wanted_in (Wants ready) = Some ready
wanted_in (Ended outcome used) = None
wanted_in (NotReady place) = None

abbrev pub fitting : List (List ℕ) → Result (List (List ℕ)) SplitFault
fitting words = if nat_lt 4096 (length words) then Err Full else Ok words

abbrev pub split_by : List (List ℕ) → ℕ → Option (List ℕ) → Result (List (List ℕ)) SplitFault
split_by words i None = Err Leaf
split_by words i (Some ready) = fitting (take i words ++ (children (word_at words i) ready ++ drop (i + 1) words))

-- the words with the children of one in its place, or why there are none
abbrev pub split_of : {S : Type 0} → System S → (choices steps : ℕ) → List (List ℕ) → ℕ → Result (List (List ℕ)) SplitFault
split_of sys choices steps words i = split_by words i (wanted_in (run sys choices steps (word_at words i)))

-- no refusal of memory
abbrev pub IsSplitFault : SplitFault → Type 0
IsSplitFault Memory = ⊥
IsSplitFault Leaf = Unit {0}
IsSplitFault Full = Unit {0}

abbrev pub is_wanting : Option (List ℕ) → Bool
is_wanting None = false
is_wanting (Some ready) = true

-- whether a word is shorter than d and no leaf
abbrev pub is_due : {S : Type 0} → System S → (choices steps d : ℕ) → List ℕ → Bool
is_due sys choices steps d word = nat_lt (length word) d && is_wanting (wanted_in (run sys choices steps word))

abbrev pub made : {A : Type 0} → Result A SplitFault → Option A
made (Ok x) = Some x
made (Err e) = None

abbrev pub deeper_at : {S : Type 0} → System S → (choices steps : ℕ) → List (List ℕ) → Option ℕ → Option (List (List ℕ))
deeper_at sys choices steps words None = None
deeper_at sys choices steps words (Some i) = made (split_of sys choices steps words i)

-- the words with the leftmost one split that is shorter than d and no leaf; none where there is no such word or it doesn't fit
abbrev pub deeper : {S : Type 0} → System S → (choices steps d : ℕ) → List (List ℕ) → Option (List (List ℕ))
deeper sys choices steps d words = deeper_at sys choices steps words (position (is_due sys choices steps d) words)

abbrev pub deeper_from : {S : Type 0} → System S → (choices steps d : ℕ) → Option (List (List ℕ)) → Option (List (List ℕ))
deeper_from sys choices steps d None = None
deeper_from sys choices steps d (Some words) = deeper sys choices steps d words

-- after this many of these splits
abbrev pub deepened : {S : Type 0} → System S → (choices steps d n : ℕ) → List (List ℕ) → Option (List (List ℕ))
deepened sys choices steps d zero words = Some words
deepened sys choices steps d (suc n) words = deeper_from sys choices steps d (deepened sys choices steps d n words)
