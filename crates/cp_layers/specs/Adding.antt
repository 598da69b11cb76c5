-- Marks that are added to others.
use Rattle.std.specs.Prelude.{◌⊎◌, List, Contains}

-- these marks are added, and no others
pub record Adds {A : Type 0} (before more after : List A) : Type 0 where
  pub kept : (mark : A) → Contains before mark → Contains after mark
  pub added : (mark : A) → Contains more mark → Contains after mark
  pub only : (mark : A) → Contains after mark → Contains before mark ⊎ Contains more mark

-- there are none but those before and those more
abbrev pub HasNoOthers : {A : Type 0} → (before more after : List A) → Type 0
HasNoOthers before more after = (x : _) → Contains after x → Contains before x ⊎ Contains more x
