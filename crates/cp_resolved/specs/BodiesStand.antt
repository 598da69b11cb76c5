-- That the items of each routine and of each initial statement stand for its statements, as a law.
use Rattle.std.specs.Prelude.{◌≡◌, ◌≤◌, ℕ, List, [], ◌∷◌, length, Some, slice_get}
use Rattle.cp_tree.specs.Syntax.{Tree}
use Rattle.cp_symbols.specs.Kinds.{most}
use Rattle.cp_slots.specs.Tables.{Tables, routine_at}
use Rattle.cp_layout.specs.Layers.{Layer}
use Rattle.cp_layout.specs.Laid.{plain, laid}
use Rattle.cp_meaning.specs.Calls.{last_checks}
use Rattle.cp_meaning.specs.State.{Item, function_call}
use Rattle.cp_resolved.specs.Begun.{all_begun}
use Rattle.cp_resolved.specs.Calls.{all_calls_laid}
use Rattle.cp_resolved.specs.Enumerations.{constants_before}
use Rattle.cp_resolved.specs.FormedParts.{CallFormed, KnowsHeadings}
use Rattle.cp_resolved.specs.FormedStatements.{KnowsStarts, AllFormed}
use Rattle.cp_resolved.specs.Layouts.{Here}
use Rattle.cp_resolved.specs.LayoutsKnow.{IsPlaced, place_of}
use Rattle.cp_resolved.specs.Openings.{meaning_at, numbering_of}
use Rattle.cp_resolved.specs.Stands.{Ground, BodyIs}

abbrev pub ground_of : Tables → Tree → Ground
ground_of r t = record { tables = r; lines = t.lines; firsts = constants_before t.program }

-- the arguments of each function call fit its parameters
abbrev pub CallsFormed : Here → List Item → Type 0
CallsFormed h [] = Unit {0}
CallsFormed h (function_call at d es ∷ is) = CallFormed h d es × CallsFormed h is
CallsFormed h (i ∷ is) = ⊥

-- What is wanted of routine n, whose statements begin in this state: that the layouts know the headings of the routines and system types that are named in it,
-- and that its statements have forms.
pub record BodyFormed (t : Tree) (n : ℕ) (l : Layer) : Type 0 where
  pub headings : KnowsHeadings (numbering_of t.program) (place_of t n) l
  pub starts : KnowsStarts (numbering_of t.program) (place_of t n) l
  pub formed : AllFormed (place_of t n) (meaning_at t.program n).body
  pub calls : CallsFormed (place_of t n) (all_calls_laid (meaning_at t.program n).scope (meaning_at t.program n).body)

abbrev pub BodiesLaw : Type 0
BodiesLaw =
    (t : Tree) (r : Tables) → plain r ≡ laid t → length r.items ≤ most → IsPlaced t → (n : ℕ) (l : Layer) →
    slice_get (all_begun t) n ≡ Some l → BodyFormed t n l → BodyIs (ground_of r t) (place_of t n) (meaning_at t.program n).body (last_checks (meaning_at t.program n).checks (meaning_at t.program n).scope) (routine_at r n).body
