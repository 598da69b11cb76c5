-- The components that a program declares, by what its names stand for: each under its path, with its system type.
use Rattle.std.specs.Prelude.{ℕ, zero, suc, ◌+◌, ◌==◌, if◌then◌else◌, List, [], ◌∷◌, ◌++◌, length}
use Rattle.cp_slots.specs.declared.tables.Component.{Component}
use Rattle.cp_legend.specs.Names.{Source, Part, Named, inside, called, parts_of}

-- a component under its path, as the source writes it, and its system type
pub record Called : Type 0 where
  pub path : List ℕ
  pub system : ℕ

-- a component of a system type at a path, followed by those that it contains
abbrev pub Calling : Type 0
Calling = (system : ℕ) → (path : List ℕ) → List Called

abbrev pub called_parts : Calling → (path : List ℕ) → List Part → List Called
called_parts one path [] = []
called_parts one path (p ∷ ps) = one p.system (inside path p.text) ++ called_parts one path ps

abbrev pub called_at : (path : List ℕ) → (system : ℕ) → Called
called_at path system = record { path = called path; system = system }

-- if the system type is one of the first `bound`: each contains components of earlier ones alone
unfoldable pub called_below : Source → (bound : ℕ) → Calling
called_below s zero n path = []
called_below s (suc bound) n path = if n == bound then called_at path bound ∷ called_parts (called_below s bound) path (parts_of s bound) else called_below s bound n path

-- all components, the program first
unfoldable pub all_called : Source → List Called
all_called s = called_below s (length s.systems + 1) (length s.systems) []

-- what the legend calls a component
abbrev pub called_in_legend : Named → Called
called_in_legend c = record { path = c.path; system = c.system }

-- which component of the tables it has there
abbrev pub tabled : Named → Component
tabled c = record { kind = c.kind; base = c.base; system = c.system }
