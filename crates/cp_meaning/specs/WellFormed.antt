-- What the laws of exclusion and ownership need of a program. The checker's rules imply it.
use Rattle.std.specs.Prelude.{◌≡◌, ℕ, ◌<◌, length, List, [], ◌∷◌, ◌++◌}
use Rattle.cp_tree.specs.declared.declaration.SystemKind.TheVariants as system_kind
use Rattle.cp_tree.specs.Syntax.{Program}
use Rattle.cp_meaning.specs.Types.{component_of}
use Rattle.cp_meaning.specs.Declarations.{Parameter}
use Rattle.cp_meaning.specs.Systems.{system_of}
use Rattle.cp_meaning.specs.Components.{PathStep}
use Rattle.cp_meaning.specs.State.{component_at}
use Rattle.cp_meaning.specs.Steps.{first_components}

-- no parameter is of a class type
abbrev pub HasNoClass : Program → List Parameter → Type 0
HasNoClass p [] = Unit {0}
HasNoClass p (q ∷ qs) = ((k : ℕ) → q.ty ≡ component_of k → (system_of p k).kind ≡ system_kind.Class → ⊥) × HasNoClass p qs

-- each component that is a parameter is of a system type before k
abbrev pub HasEarlier : ℕ → List Parameter → Type 0
HasEarlier k [] = Unit {0}
HasEarlier k (q ∷ qs) = ((j : ℕ) → q.ty ≡ component_of j → j < k) × HasEarlier k qs

-- each fact is named with the rule of the checker that carries it, if one does
pub record IsWellFormed (p : Program) : Type 0 where
  -- no two components have one path, since no name is declared twice in a scope (C2)
  pub paths : (n m : ℕ) → n < length (first_components p) → m < length (first_components p) → (component_at (first_components p) n).path ≡ (component_at (first_components p) m).path → n ≡ m
  -- no parameter of a monitor or process is of a class type (C14)
  pub class_parameters : (k : ℕ) → ((system_of p k).kind ≡ system_kind.Class → ⊥) → HasNoClass p (system_of p k).parameters
  -- a component is of a type declared before those of the components that contain it or have it as a parameter, since a type sees only what stands before it (the first also by C2)
  pub contained_earlier : (n m : ℕ) (s : PathStep) → n < length (first_components p) → m < length (first_components p) → (component_at (first_components p) m).path ≡ (component_at (first_components p) n).path ++ s ∷ [] → (component_at (first_components p) m).system < (component_at (first_components p) n).system
  pub parameters_earlier : (k : ℕ) → HasEarlier k (system_of p k).parameters
