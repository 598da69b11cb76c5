use Rattle.cp_ends.proofs.Vocabulary.{◌≡◌, ℕ, List, take, Tables, Holds, IsWordOf, SlotFindings}
use Rattle.cp_ends.proofs.Finding.{with_all}
use Rattle.cp_ends.proofs.found.Found.add_values.Given as goal

abbrev pub invariant-loop-value : goal.invariant-loop-value
invariant-loop-value l =
    record {
      values : (r : Tables) (f : SlotFindings) (word : List ℕ) → Holds r l.initial.self f → IsWordOf f.states l.origin word → Holds r l.self (with_all f word (take l.value-index l.values));
      states : l.self.states ≡ l.initial.self.states;
    }
