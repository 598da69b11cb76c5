-- Who may start a process: what the rules C13 and C15 say of it.
use Rattle.cp_at_once_laws.proofs.Words.{◌≡◌, ℕ, ◌<◌, List, [], ◌∷◌, ◌++◌, length, Program, component_of, Parameter, system_of, PathStep, component_at, first_components}
use Rattle.cp_tree.specs.declared.declaration.SystemKind.TheVariants as system_kind

-- no parameter is of a process type
abbrev pub HasNoProcess : Program → List Parameter → Type 0
HasNoProcess p [] = Unit {0}
HasNoProcess p (q ∷ qs) = ((k : ℕ) → q.ty ≡ component_of k → (system_of p k).kind ≡ system_kind.Process → ⊥) × HasNoProcess p qs

-- Who starts a process is the process around it.
pub record StartsKnown (p : Program) : Type 0 where
  -- no parameter of a system type is a process (C15)
  pub unknown : (k : ℕ) → HasNoProcess p (system_of p k).parameters
  -- a process is a variable of a process, since only the program has process variables (C13)
  pub around : (n m : ℕ) (t : PathStep) → n < length (first_components p) → m < length (first_components p) → (component_at (first_components p) m).path ≡ (component_at (first_components p) n).path ++ t ∷ [] → (component_at (first_components p) m).kind ≡ system_kind.Process →
      (component_at (first_components p) n).kind ≡ system_kind.Process
