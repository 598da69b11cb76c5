use Rattle.cp_verdict.proofs.any_length.Vocabulary.{◌≡◌, map, take, Tables, Holds, SlotFindings}
use Rattle.cp_verdict.specs.endless.Knowledge as spec
use Rattle.cp_verdict.proofs.endless.knowing.known_values.Given as goal

abbrev pub invariant-loop-value : goal.invariant-loop-value
invariant-loop-value l =
    record {
      values : (r : Tables) (f : SlotFindings) → Holds r l.found f → map spec.value_pair l.values.items ≡ spec.those_looked_at l.looked (take l.value-index f.values);
      texts : spec.HasTexts l.program.names l.values.items;
    }
