-- The words that begin the words of a table.
use Rattle.std.specs.Prelude.{ℕ, suc, List, [], ◌∷◌, ◌==◌, length, map, nat_eq, if◌then◌else◌}
use Rattle.std.specs.List.{list_any}
use lib.Pointwise.{pointwise}
use Rattle.cp_run.specs.Table.{Line, each}
use Rattle.cp_walk.specs.declared.row.Row.{Row}

-- the words that begin a word, from the empty one to itself
abbrev pub beginnings_of : List ℕ → List (List ℕ)
beginnings_of [] = [] ∷ []
beginnings_of (p ∷ word) = [] ∷ map (λ w. p ∷ w) (beginnings_of word)

-- words, with those of others that are not among them
abbrev pub with_new : List (List ℕ) → List (List ℕ) → List (List ℕ)
with_new found [] = found
with_new found (w ∷ ws) = with_new (if list_any (pointwise nat_eq w) found then found else w ∷ found) ws

-- how many different words begin one of these
abbrev pub beginnings : List (List ℕ) → ℕ
beginnings words = length (with_new [] (each beginnings_of words))

-- the length of the part at their fronts that two words have in common
abbrev pub common : List ℕ → List ℕ → ℕ
common [] w = 0
common (p ∷ v) [] = 0
common (p ∷ v) (q ∷ w) = if p == q then suc (common v w) else 0

-- the words of a table, as rows of the code and as lines of the definition
abbrev pub words_of_rows : List Row → List (List ℕ)
words_of_rows rows = map (λ r. r.word.items) rows

abbrev pub words_in : List Line → List (List ℕ)
words_in lines = map (λ l. l.word) lines
