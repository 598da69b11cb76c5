-- That the items which are laid out of statements stand for them, as a law: what is known where they begin, and what they want.
use Rattle.std.specs.Prelude.{Bool, Option, ◌≡◌, ◌<◌, ◌≤◌, ◌+◌, ℕ, List, [], length, Some, slice_get}
use Rattle.cp_tree.specs.Syntax.{nameless, invariants, Routine, Statements}
use Rattle.cp_meaning.specs.Calls.{last_checks}
use Rattle.cp_meaning.specs.Scopes.{routine_meaning, find}
use Rattle.cp_layout.specs.LaidDeclarations.{end_of_body}
use Rattle.cp_slots.specs.Code as code
use Rattle.cp_symbols.specs.Kinds.{most}
use Rattle.cp_slots.specs.Tables.{item_at}
use Rattle.cp_layout.specs.Layers.{Layer}
use Rattle.cp_layout.specs.LaidStatements.{statements}
use Rattle.cp_resolved.specs.Calls.{all_calls_laid}
use Rattle.cp_resolved.specs.FormedParts.{AreReady, KnowsHeadings}
use Rattle.cp_resolved.specs.FormedStatements.{KnowsResult, KnowsStarts, AllFormed}
use Rattle.cp_resolved.specs.InStep.{Numbering}
use Rattle.cp_resolved.specs.Knows.{Knows}
use Rattle.cp_resolved.specs.Layouts.{Here}
use Rattle.cp_resolved.specs.Stands.{Ground, BodyIs}
use Rattle.cp_resolved.specs.Used.{KnowsCalls}

-- the item of this number in the tables
pub record ItemIs (g : Ground) (n : ℕ) (i : code.Item) : Type 0 where
  pub inside : n < length g.tables.items
  pub action : code.action_seen (item_at g.tables n).action ≡ i.action
  pub follows : (item_at g.tables n).next ≡ i.next
  pub line : (item_at g.tables n).line ≡ i.line

-- these are the first items of the tables
abbrev pub AreItems : Ground → List code.Item → Type 0
AreItems g is = (n : ℕ) (i : code.Item) → slice_get is n ≡ Some i → ItemIs g n i

-- a routine without a name that is visible is that of invariants
abbrev pub KnowsChecks : Here → Type 0
KnowsChecks h = (r : Routine) → find nameless h.scope ≡ Some (routine_meaning r) → r.kind ≡ invariants

-- what is known where statements begin
pub record Surroundings (k : Numbering) (h : Here) (g : Ground) (l : Layer) : Type 0 where
  pub names : Knows k h l
  pub calls : KnowsCalls k h l
  pub headings : KnowsHeadings k h l
  pub result : KnowsResult k h l
  pub starts : KnowsStarts k h l
  pub lines : l.lines ≡ g.lines
  pub checks : KnowsChecks h

-- No item is still to come. The statements have forms, and their calls, in the order in which they are laid out, have the next cells of the frame.
pub record CanStand (h : Here) (l : Layer) (ss : Statements) : Type 0 where
  pub pending : l.pending ≡ []
  pub formed : AllFormed h ss
  pub calls : AreReady h (length l.frame.image) (all_calls_laid h.scope ss)

-- the items of a body: its statements, and the checks at its end where there are any
abbrev pub body_items : Layer → Statements → Bool → Option ℕ × Layer
body_items l ss checks = statements (end_of_body l checks).1 ss (end_of_body l checks).0

-- The items of a body stand for its statements and the checks at its end, in tables of which they are among the first items.
-- After them the frame has a cell more for each function call.
pub record AreLaid (k : Numbering) (h : Here) (g : Ground) (l : Layer) (ss : Statements) (checks : Bool) : Type 0 where
  pub stand : AreItems g (body_items l ss checks).1.items → BodyIs g h ss (last_checks checks h.scope) (body_items l ss checks).0
  pub cells : length (body_items l ss checks).1.frame.image ≡ length l.frame.image + length (all_calls_laid h.scope ss)

abbrev pub StatementsLaw : Type 0
StatementsLaw =
    (k : Numbering) (h : Here) (g : Ground) (l : Layer) (ss : Statements) (checks : Bool) → length g.tables.items ≤ most → ((at : ℕ) → g.firsts at ≡ k.firsts at) → Surroundings k h g l → CanStand h l ss → AreLaid k h g l ss checks
