-- How the parameters of routines and of system types are numbered in the tables.
use Rattle.std.specs.Prelude.{◌≡◌, ℕ, ◌+◌, ◌<◌, Bool, true, false, List, [], ◌∷◌, length, Option, Some, None}
use Rattle.cp_slots.specs.Systems.{parameter_count}
use Rattle.cp_slots.specs.Tables.{Tables, RoutineView, parameter_at}
use Rattle.cp_meaning.specs.Names.{Name}
use Rattle.cp_meaning.specs.Types.{Ty, ordinal, component_of}
use Rattle.cp_meaning.specs.Declarations.{Parameter, RoutineMeaning}
use Rattle.cp_resolved.specs.Layouts.{FrameLayout, cell_named}
use Rattle.cp_resolved.specs.Small.{Each}

abbrev pub IsNoComponent : Ty → Type 0
IsNoComponent (component_of k) = ⊥
IsNoComponent t = Unit {0}

abbrev pub IsOrdinalResult : Option Ty → Type 0
IsOrdinalResult None = Unit {0}
IsOrdinalResult (Some (ordinal r)) = Unit {0}
IsOrdinalResult (Some t) = ⊥

-- the `var` parameters have the numbers from one on, in their order, up to a count
abbrev pub NumberedBy : Bool → (slot next : ℕ) → (ℕ → Type 0) → Type 0
NumberedBy true slot next others = (slot ≡ next) × others (next + 1)
NumberedBy false slot next others = others next

abbrev pub AreNumbered : (Name → ℕ) → (next count : ℕ) → List Parameter → Type 0
AreNumbered slots next count [] = next ≡ count
AreNumbered slots next count (q ∷ qs) = NumberedBy q.is_var (slots q.name) next (λ n. AreNumbered slots n count qs)

-- the parameters of a system type that are components are those that the tables have, from a number on
abbrev pub HandedBy : Tables → (system : ℕ) → Ty → (slot next : ℕ) → (ℕ → Type 0) → Type 0
HandedBy t system (component_of k) slot next others =
    (next < parameter_count t system) × (slot ≡ (parameter_at t system next).slot) × ((parameter_at t system next).system ≡ k) × others (next + 1)
HandedBy t system u slot next others = others next

abbrev pub AreHanded : Tables → (system : ℕ) → (Name → ℕ) → (next : ℕ) → List Parameter → Type 0
AreHanded t system slots next [] = next ≡ parameter_count t system
AreHanded t system slots next (q ∷ qs) = HandedBy t system q.ty (slots q.name) next (λ n. AreHanded t system slots n qs)

-- a routine takes no components, its `var` parameters have their numbers, and it gives an ordinal
pub record HeadingFits (f : FrameLayout) (r : RoutineView) (m : RoutineMeaning) : Type 0 where
  pub parameters : Each (λ (q : Parameter). IsNoComponent q.ty) m.parameters
  pub numbered : AreNumbered (cell_named f) 0 (length r.extents) m.parameters
  pub result : IsOrdinalResult m.result

-- a system type has no `var` parameters, and is handed its components in their order
pub record EntranceFits (t : Tables) (system : ℕ) (slots : Name → ℕ) (qs : List Parameter) : Type 0 where
  pub values : Each (λ (q : Parameter). q.is_var ≡ false) qs
  pub handed : AreHanded t system slots 0 qs
