-- The components and processes of the tables of a tree as a law: they stand for those of the program.
use Rattle.std.specs.Prelude.{◌≡◌, ℕ, ◌<◌, length}
use Rattle.cp_tree.specs.Syntax.{Tree}
use Rattle.cp_layout.specs.Laid.{plain, laid}
use Rattle.cp_meaning.specs.Readings.{monitors_of}
use Rattle.cp_meaning.specs.State.{book_discipline}
use Rattle.cp_meaning.specs.Steps.{opening, first_components}
use Rattle.cp_meaning.specs.WellFormed.{IsWellFormed}
use Rattle.cp_resolved.specs.Declared.{AreOwn, AreFew}
use Rattle.cp_resolved.specs.Enumerations.{constant_names}
use Rattle.cp_resolved.specs.Layouts.{Layouts}
use Rattle.cp_resolved.specs.Names.{IsPlain}
use Rattle.cp_resolved.specs.Resolved.{ComponentIs, ProcessIs}
use Rattle.cp_resolved.specs.Stands.{Ground}
use Rattle.cp_resolved.specs.TreeLayouts.{layouts_of}

-- what is wanted of the tree
pub record HasComponents (t : Tree) : Type 0 where
  pub plain : IsPlain t.program
  pub formed : IsWellFormed t.program
  pub own : AreOwn t.program

-- the fields of `Stands` on components
pub record ComponentsAre (g : Ground) (t : Tree) (l : Layouts) : Type 0 where
  pub components : (n : ℕ) → n < length g.tables.components → ComponentIs g t.program l n
  pub processes : (q : ℕ) → q < length g.tables.processes → ProcessIs g t.program l q
  pub names : g.tables.names ≡ constant_names t.program
  pub count : length g.tables.components ≡ length (first_components t.program)
  pub process_count : length g.tables.processes ≡ length (opening t.program book_discipline).processes
  pub monitor_count : g.tables.monitors ≡ length (monitors_of (opening t.program book_discipline))

abbrev pub ComponentsLaw : Type 0
ComponentsLaw = (g : Ground) (t : Tree) → plain g.tables ≡ laid t → HasComponents t → AreFew g.tables → ComponentsAre g t (layouts_of t)
