-- What a walk needs, and what it has found.
use Rattle.std.specs.Prelude.{◌≡◌, ◌<◌, ◌≤◌, ◌+◌, ◌++◌, ℕ, List, length, map, All}
use Rattle.cp_slots.specs.Tables.{Tables}
use Rattle.cp_machine.specs.System.{Machine, IsStateOf}
use Rattle.cp_machine.specs.declared.state.State.{State}
use Rattle.cp_run.specs.Run.{Node}
use Rattle.cp_run.specs.Slots.{slots}
use Rattle.cp_run.specs.Table.{Line}
use Rattle.cp_run.specs.declared.limits.Limits.{Limits}
use Rattle.cp_walk.specs.Rows.{line_of}
use Rattle.cp_walk.specs.Walk.{behind, walk}
use Rattle.cp_walk.specs.Walked.{AreWalked}
use Rattle.cp_walk.specs.declared.found.Found.{Found}

-- the rows from a node on, with this many choices left
abbrev pub node_rows : Tables → Limits → ℕ → Node Machine → List Line
node_rows r limits left node = walk (slots r limits.discipline) limits.steps left node

-- after this word a state is kept for each choice that is left, and a word has at most 20 numbers
pub record HasRoom (r : Tables) (choices : ℕ) (word : List ℕ) (kept : List State) : Type 0 where
  pub own : All (IsStateOf r) kept
  pub deep : length word + length kept ≡ choices
  pub short : choices ≤ 20

-- at most 50,000 rows, and each node that was walked has its rows among them
pub record AreFound (r : Tables) (limits : Limits) (found : Found) : Type 0 where
  pub few : length found.rows.items ≤ 50000
  pub walked : AreWalked (slots r limits.discipline) limits.steps limits.choices (map line_of found.rows.items) found.walked.nodes.entries

-- the rows of a node at the end of a word, of which there are some, come after those that were found before
pub record HasWalked (r : Tables) (limits : Limits) (word : List ℕ) (left : ℕ) (node : Node Machine) (before after : Found) : Type 0 where
  pub rows : map line_of after.rows.items ≡ map line_of before.rows.items ++ map (behind word) (node_rows r limits left node)
  pub some : 0 < length (node_rows r limits left node)
  pub found : AreFound r limits after
