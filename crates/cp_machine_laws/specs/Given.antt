-- When what arguments give on slots is what they give on names.
use Rattle.std.specs.Prelude.{◌≡◌, ℕ, ◌+◌, ◌<◌, ◌≤◌, ◌⊎◌, true, false, ℤ, pos, List, [], ◌∷◌, length, slice_index_or, Result, Ok, Err}
use Rattle.cp_slots.specs.declared.place.Argument.{Argument}
use Rattle.cp_slots.specs.Tables.{Tables}
use Rattle.cp_store.specs.declared.argument.Bound.{Bound}
use Rattle.cp_store.specs.declared.argument.Bound.TheVariants.{Scalar, Set, Copy, Reference, Component}
use Rattle.cp_store.specs.declared.error.ErrorName as slots
use Rattle.cp_store.specs.declared.memory.Address.{Address}
use Rattle.cp_store.specs.declared.memory.Address.TheVariants.{Permanent, Local}
use Rattle.cp_store.specs.declared.memory.Frame.{Frame}
use Rattle.cp_store.specs.Arguments.{put_value}
use Rattle.cp_store.specs.Inside.{HasCells}
use Rattle.cp_store.specs.Memory.{Memory, cell_at}
use Rattle.cp_meaning.specs.Names.{Name}
use Rattle.cp_meaning.specs.Outcome.{Outcome}
use Rattle.cp_meaning.specs.Types.{Ty, component_of}
use Rattle.cp_meaning.specs.Values.{Value}
use Rattle.cp_meaning.specs.Declarations.{Parameter}
use Rattle.cp_meaning.specs.State.{Content, holds, refers, knows, Environment}
use Rattle.cp_meaning.specs.Places.{View, Target, component_there}
use Rattle.cp_resolved.specs.Layouts.{Layouts, cells_of}
use Rattle.cp_resolved.specs.Encoded.{encode, HasType}
use Rattle.cp_machine_laws.specs.Agrees.{Few}
use Rattle.cp_machine_laws.specs.Named.{error_of}
use Rattle.cp_machine_laws.specs.Represents.{further, PlaceAt}

-- ---- a value that is put into cells

-- what is put at an address leaves the cells of the other kind as they are
abbrev pub OthersKept : Address → Memory → Memory → Type 0
OthersKept (Permanent n) m m2 = m2.cells ≡ m.cells
OthersKept (Local n) m m2 = m2.permanents ≡ m.permanents

-- the cells from an address on become these, and nothing else changes
pub record PutsBlock (m m2 : Memory) (a : Address) (ws : List ℤ) : Type 0 where
  pub here : (k : ℕ) → k < length ws → cell_at m2 (further a k) ≡ slice_index_or ws k (pos 0)
  pub there : (b : Address) → ((k : ℕ) → k < length ws → b ≡ further a k → ⊥) → cell_at m2 b ≡ cell_at m b
  pub permanents : length m2.permanents ≡ length m.permanents
  pub cells : length m2.cells ≡ length m.cells
  pub references : m2.references ≡ m.references
  pub others : OthersKept a m m2

-- what is bound is a value; a copied one lies in the memory
abbrev pub IsValue : Memory → Bound → Type 0
IsValue m (Scalar z) = Unit {0}
IsValue m (Set s) = Unit {0}
IsValue m (Copy from size) = HasCells m from size
IsValue m (Reference a) = ⊥
IsValue m (Component n) = ⊥

-- the cells that are copied from are the same
abbrev pub Keeps : Memory → Memory → Bound → Type 0
Keeps m m2 (Copy from size) = (k : ℕ) → k < size → cell_at m2 (further from k) ≡ cell_at m (further from k)
Keeps m m2 b = Unit {0}

-- and none of them is one of these
abbrev pub IsApartFrom : Address → ℕ → Bound → Type 0
IsApartFrom a cells (Copy from size) = (j k : ℕ) → j < cells → k < size → further a j ≡ further from k → ⊥
IsApartFrom a cells b = Unit {0}

-- wherever the value is put, its cells are there
pub record GivesValue (m : Memory) (t : Ty) (w : Value) (b : Bound) : Type 0 where
  pub typed : HasType t w
  pub value : IsValue m b
  pub puts : (m2 : Memory) (a : Address) → Keeps m m2 b → length m2.permanents ≡ length m.permanents → length m.cells ≤ length m2.cells → Few m2 → HasCells m2 a (cells_of t) → IsApartFrom a (cells_of t) b → PutsBlock m2 (put_value m2 a b) a (encode w)

-- ---- the arguments of a call

-- a parameter of a routine holds a value or refers to a place
abbrev pub IsBound : Tables → Layouts → List Frame → Memory → Parameter → Content → Bound → Type 0
IsBound r l fs m q (holds w) b = (q.is_var ≡ false) × GivesValue m q.ty w b
IsBound r l fs m q (refers x) (Reference a) = (q.is_var ≡ true) × PlaceAt r l fs x q.ty a
IsBound r l fs m q c b = ⊥

-- what arguments are bound to, in the order of the parameters
abbrev pub AreBound : Tables → Layouts → List Frame → Memory → (Name → ℕ) → List Parameter → Environment → List Argument → List Bound → Type 0
AreBound r l fs m slots [] [] [] [] = Unit {0}
AreBound r l fs m slots (q ∷ qs) (d ∷ e) (x ∷ xs) (b ∷ bs) = (d.0 ≡ q.name) × (x.slot ≡ slots q.name) × IsBound r l fs m q d.1 b × AreBound r l fs m slots qs e xs bs
AreBound r l fs m slots qs e xs bs = ⊥

-- ---- the arguments of a start

-- what is copied lies outside the permanent cells of the component that is started
abbrev pub IsOutside : (base own : ℕ) → Bound → Type 0
IsOutside base own (Copy (Permanent from) size) = (from + size ≤ base) ⊎ (base + own ≤ from)
IsOutside base own b = Unit {0}

-- a parameter of a component holds a value, or knows a component
abbrev pub IsHanded : Memory → (base own : ℕ) → Parameter → Content → Bound → Type 0
IsHanded m base own q (holds w) b = GivesValue m q.ty w b × IsOutside base own b
IsHanded m base own q (knows c) (Component n) = (k : ℕ) × (q.ty ≡ component_of k) × (c ≡ n)
IsHanded m base own q c b = ⊥

abbrev pub AreHanded : Memory → (base own : ℕ) → (Name → ℕ) → List Parameter → Environment → List Argument → List Bound → Type 0
AreHanded m base own slots [] [] [] [] = Unit {0}
AreHanded m base own slots (q ∷ qs) (d ∷ e) (x ∷ xs) (b ∷ bs) = (d.0 ≡ q.name) × (x.slot ≡ slots q.name) × IsHanded m base own q d.1 b × AreHanded m base own slots qs e xs bs
AreHanded m base own slots qs e xs bs = ⊥

-- the same, or the same error
abbrev pub BoundsAgree : (Environment → List Bound → Type 0) → Outcome Environment → Result (List Bound) slots.ErrorName → Type 0
BoundsAgree Are (Ok e) (Ok bs) = Are e bs
BoundsAgree Are (Err e) (Err d) = error_of e ≡ d
BoundsAgree Are o r = ⊥

-- ---- components that are called or started

abbrev pub ComponentAgrees : View → Outcome Target → Result ℕ slots.ErrorName → Type 0
ComponentAgrees v (Ok t) (Ok n) = component_there v t.place ≡ n
ComponentAgrees v (Err e) (Err d) = error_of e ≡ d
ComponentAgrees v o r = ⊥
