-- In tables that stand for a tree, components are of its system types, and their names stand for the same in a routine as in its system type.
use Rattle.cp_machine_laws.proofs.Words.{◌<◌, ◌≤◌, ℕ, length, Tree, Tables, component_at, program_system, IsFramed, Stands, layouts_of, NamesKnown, ground_of}
use Rattle.cp_resolved.specs.LayoutsKnow.{IsPlaced}
use Rattle.cp_resolved.proofs.components.ListedSystems.{systems_within}
use Rattle.cp_resolved.proofs.components.VisibleComponents.{names_scope, names_parameter, names_variable, names_array}

module _ (t : Tree) (r : Tables) (stands : Stands (ground_of t r) t (layouts_of t)) where
  pub components_below : (n : ℕ) → n < length r.components → (component_at r n).system ≤ program_system t.program
  components_below n lt = systems_within t r stands n lt

  pub names_known : IsPlaced t → IsFramed t → (n : ℕ) → n < length r.routines → NamesKnown t.program (layouts_of t) n ((layouts_of t).owners n)
  names_known place framed n lt =
      record {
        scope = λ x u e has. names_scope t place framed n x u e;
        parameter = λ x k e is. names_parameter t place framed n x k e is;
        variable = λ x k e is. names_variable t place framed n x k e is;
        array = λ x q k e. names_array t place framed n r stands lt x q k e;
      }
