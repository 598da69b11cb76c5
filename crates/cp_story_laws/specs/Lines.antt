-- On which line of the source a process is about to do something.
use Rattle.std.specs.Prelude.{ℕ, List, [], ◌∷◌, Option, Some, None, slice_index}
use Rattle.cp_tree.specs.Syntax.{Tree}
use Rattle.cp_meaning.specs.State.{Item, successor, return, init_end, end, process_at, State}
use Rattle.cp_meaning.specs.Steps.{at_item}

-- That of its first token. The end of a call, of an initial statement or of a process has none, nor has the next turn of a `for`.
abbrev pub line_of_item : Tree → Item → Option ℕ
line_of_item t (successor at i z d b s) = None
line_of_item t (return o) = None
line_of_item t (init_end m) = None
line_of_item t end = None
line_of_item t i = Some (slice_index t.lines (at_item i))

abbrev pub first_line : Tree → List Item → Option ℕ
first_line t [] = None
first_line t (i ∷ items) = line_of_item t i

-- where process p goes on in a state
abbrev pub next_line : Tree → State → ℕ → Option ℕ
next_line t s p = first_line t (process_at s.processes p).items
