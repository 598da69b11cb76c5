use Rattle.cp_verdict.proofs.any_length.Vocabulary.{◌≡◌, map, take, Tables, Holds, SlotFindings}
use Rattle.cp_verdict.specs.endless.Knowledge as spec
use Rattle.cp_verdict.proofs.endless.knowing.known_ends.Given as goal

abbrev pub invariant-loop-end : goal.invariant-loop-end
invariant-loop-end l = (r : Tables) (f : SlotFindings) → Holds r l.found f → map spec.end_pair l.ends.items ≡ spec.those_looked_at l.looked (take l.end-index f.ends)
