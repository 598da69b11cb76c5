-- The queue in which a process waits by the meaning, and what a story calls it.
use Rattle.std.specs.Prelude.{◌≡◌, ℕ, Some}
use Rattle.cp_tree.specs.Syntax.{Tree}
use Rattle.cp_meaning.specs.Places.{value_at}
use Rattle.cp_meaning.specs.State.{Place, State, in_component}
use Rattle.cp_meaning.specs.Steps.{view_of}
use Rattle.cp_meaning.specs.Values.{queue_value}
use Rattle.cp_legend.specs.Names.{Legend}
use Rattle.cp_story.specs.Story.{queue_at}
use Rattle.cp_story_laws.specs.Places.{place_text}

-- Process q waits in a queue of component n, which a story names by a cell.
pub record WaitsIn (t : Tree) (l : Legend) (s : State) (q n cell : ℕ) : Type 0 where
  -- a queue of the component has the number of the process
  pub place : Place
  pub holder : place.holder ≡ in_component n
  pub waits : value_at (view_of t.program s q) place ≡ queue_value (Some q)
  -- its name
  pub told : (queue_at l cell).name ≡ place_text (view_of t.program s q) place
