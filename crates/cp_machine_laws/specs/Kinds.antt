-- The kinds of components, on names and in tables.
use Rattle.std.specs.Prelude.{ℕ, ◌<◌, length}
use Rattle.cp_tree.specs.declared.declaration.SystemKind.{SystemKind}
use Rattle.cp_tree.specs.declared.declaration.SystemKind.TheVariants as system_kind
use Rattle.cp_slots.specs.declared.tables.ComponentKind.{ComponentKind}
use Rattle.cp_slots.specs.declared.tables.ComponentKind.TheVariants as kind
use Rattle.cp_slots.specs.Tables.{Tables, component_at}
use Rattle.cp_meaning.specs.State as named
use Rattle.cp_meaning.specs.State.{State}

abbrev pub SameKind : SystemKind → ComponentKind → Type 0
SameKind system_kind.Process (kind.Process q) = Unit {0}
SameKind system_kind.Monitor (kind.Monitor j) = Unit {0}
SameKind system_kind.Class kind.Class = Unit {0}
SameKind s k = ⊥

-- each component is of one kind on names and in the tables
abbrev pub KindsAgree : Tables → State → Type 0
KindsAgree r s = (n : ℕ) → n < length r.components → SameKind (named.component_at s.components n).kind (component_at r n).kind
