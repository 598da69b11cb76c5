-- The layouts of a tree know what stands where the statements of each routine and of each initial statement begin, as a law.
use Rattle.std.specs.Prelude.{◌≡◌, ℕ, length, Some, slice_get}
use Rattle.cp_tree.specs.Syntax.{nameless, invariants, Routine, Tree}
use Rattle.cp_meaning.specs.Scopes.{routine_meaning, find}
use Rattle.cp_layout.specs.Layers.{Layer}
use Rattle.cp_resolved.specs.Begun.{all_begun}
use Rattle.cp_resolved.specs.Calls.{all_calls_laid, AreApart}
use Rattle.cp_resolved.specs.Knows.{Knows}
use Rattle.cp_resolved.specs.Layouts.{Here, here}
use Rattle.cp_resolved.specs.Names.{IsPlain}
use Rattle.cp_resolved.specs.Once.{IsOnce, AreSized, AreWords}
use Rattle.cp_resolved.specs.Openings.{meaning_at, numbering_of}
use Rattle.cp_resolved.specs.TreeLayouts.{layouts_of}
use Rattle.cp_resolved.specs.Used.{AreNext, KnowsCalls}

-- what is wanted of the tree: of routine n, what is visible where its statements begin, and its function calls
pub record IsPlaced (t : Tree) : Type 0 where
  pub plain : IsPlain t.program
  pub once : IsOnce t.program
  pub sized : (n : ℕ) → AreSized (meaning_at t.program n).scope
  pub words : (n : ℕ) → AreWords (meaning_at t.program n).scope
  -- a routine without a name says invariants
  pub checks : (n : ℕ) (r : Routine) → find nameless (meaning_at t.program n).scope ≡ Some (routine_meaning r) → r.kind ≡ invariants
  pub apart : (n : ℕ) → AreApart (all_calls_laid (meaning_at t.program n).scope (meaning_at t.program n).body)

abbrev pub place_of : Tree → ℕ → Here
place_of t n = here t.program (layouts_of t) n

-- where the statements of routine n begin
pub record KnowsAt (t : Tree) (n : ℕ) (l : Layer) : Type 0 where
  -- each visible name stands for the same, and lies where the layouts say
  pub names : Knows (numbering_of t.program) (place_of t n) l
  -- routines have their results, and each routine of a component is found
  pub calls : KnowsCalls (numbering_of t.program) (place_of t n) l
  -- the results of the calls have the cells after those that the frame has so far
  pub next : AreNext (place_of t n) (length l.frame.image) (all_calls_laid (meaning_at t.program n).scope (meaning_at t.program n).body)

abbrev pub LayoutsLaw : Type 0
LayoutsLaw = (t : Tree) → IsPlaced t → (n : ℕ) (l : Layer) → slice_get (all_begun t) n ≡ Some l → KnowsAt t n l
