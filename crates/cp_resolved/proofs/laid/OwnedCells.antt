-- Only permanent variables and the parameters of system types change the cells and components of what is laid out, and they leave the types as they are.
use Rattle.cp_resolved.proofs.Words.{◌≡◌, ℕ, List, Option, Some, None, refl, CellType, Contained, Layer}
use Rattle.cp_tree.specs.Syntax as syntax
use Rattle.cp_symbols.specs.declared.kinds.CellType.TheVariants as types
use Rattle.cp_layout.specs.LaidDeclarations.{Parameters, variable_with, system_parameter, system, definition}
use Rattle.cp_resolved.proofs.components.Handed.{written_owned}
pub use Rattle.cp_resolved.proofs.components.Handed.{written_owned as type_owned}

pub definition_owned : (l : Layer) (d : syntax.Definition) → (definition l d).1.owned ≡ l.owned
unfolding system
definition_owned l (syntax.type_definition t) = written_owned l t
definition_owned l (syntax.system_definition s) = refl

pub variable_types : (l : Layer) (x : List ℕ) (v : CellType) (o : Option Contained) → (variable_with l x v o).types ≡ l.types
variable_types l x v None = refl
variable_types l x v (Some c) = refl

pub parameter_types : (l : Layer) (ps : Parameters) (x : List ℕ) (v : CellType) → (system_parameter l ps x v).1.types ≡ l.types
parameter_types l ps x (types.System j) = refl
parameter_types l ps x _ = refl
