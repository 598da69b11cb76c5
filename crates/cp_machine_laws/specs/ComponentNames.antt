-- What names of components stand for in a routine, and what the layout of its system type says of them.
use Rattle.std.specs.Prelude.{◌≡◌, ℕ, true, false, Some, None}
use Rattle.cp_tree.specs.Syntax.{Program}
use Rattle.cp_meaning.specs.Names.{Name}
use Rattle.cp_meaning.specs.Types.{Ty, Range, component_of, array_over, has_components}
use Rattle.cp_meaning.specs.Scopes.{permanent_variable, find}
use Rattle.cp_meaning.specs.Systems.{system_of}
use Rattle.cp_resolved.specs.Layouts.{Layouts, is_parameter, look}

-- what the rules of the language say of names of components, in the scope of a routine and in the system type to which it belongs
pub record NamesKnown (p : Program) (l : Layouts) (routine system : ℕ) : Type 0 where
  pub scope : (x : Name) (t : Ty) → find x (l.meanings routine).scope ≡ Some (permanent_variable t) → has_components t ≡ true → find x (system_of p system).scope ≡ Some (permanent_variable t)
  -- a parameter is one of the layout, and a variable has no cells
  pub parameter : (x : Name) (k : ℕ) → find x (l.meanings routine).scope ≡ Some (permanent_variable (component_of k)) → is_parameter x (system_of p system).parameters ≡ true → look x (l.systems system).parts ≡ Some (component_of k)
  pub variable : (x : Name) (k : ℕ) → find x (l.meanings routine).scope ≡ Some (permanent_variable (component_of k)) → is_parameter x (system_of p system).parameters ≡ false → (look x (l.systems system).variables ≡ None) × (look x (l.systems system).parts ≡ None)
  pub array : (x : Name) (q : Range) (k : ℕ) → find x (l.meanings routine).scope ≡ Some (permanent_variable (array_over q (component_of k))) → (look x (l.systems system).variables ≡ None) × (look x (l.systems system).parts ≡ None)
