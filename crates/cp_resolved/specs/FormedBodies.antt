-- That the statements of each routine and of each initial statement have the forms that their items want, as a law.
use Rattle.std.specs.Prelude.{◌<◌, ℕ, length}
use Rattle.cp_tree.specs.Syntax.{Tree}
use Rattle.cp_meaning_laws.specs.Accepted.{IsAccepted}
use Rattle.cp_resolved.specs.BodiesStand.{CallsFormed}
use Rattle.cp_resolved.specs.Calls.{all_calls_laid}
use Rattle.cp_resolved.specs.FormedStatements.{AllFormed}
use Rattle.cp_resolved.specs.LayoutsKnow.{place_of}
use Rattle.cp_resolved.specs.Openings.{openings_of, meaning_at}
use Rattle.cp_tree.specs.Read.{IsRead}

-- of routine n, by the layouts of the tree
pub record IsFormedAt (t : Tree) (n : ℕ) : Type 0 where
  pub formed : AllFormed (place_of t n) (meaning_at t.program n).body
  -- the arguments of all function calls in it fit the parameters
  pub calls : CallsFormed (place_of t n) (all_calls_laid (meaning_at t.program n).scope (meaning_at t.program n).body)

abbrev pub FormedLaw : Type 0
FormedLaw = (t : Tree) → IsRead t.program → IsAccepted t → (n : ℕ) → n < length (openings_of t.program) → IsFormedAt t n
