use Rattle.cp_parts.specs.Placed.{ArePlacedBelow, IsNext}
use Rattle.cp_parts.proofs.placing.PlaceTable.new.Given as goal

abbrev pub invariant-loop-component : goal.invariant-loop-component
invariant-loop-component l =
    record {
      placed : ArePlacedBelow l.resolved l.table l.component;
      next : IsNext l.table l.place;
    }
