use Rattle.cp_verdict.proofs.any_length.Vocabulary.{◌≡◌, ℕ, List, map, take, All, Tables, Machine, by_the_book, silent_slots, EndsSo, end_pair}
use Rattle.cp_at_once.specs.Holds.{AreStates, HasWord}
use Rattle.cp_verdict.proofs.endless.knowing_at_once.known_ends.Given as goal

abbrev pub invariant-loop-end : goal.invariant-loop-end
invariant-loop-end l =
    record {
      ends : map (λ e. e.end) l.ends.items ≡ map (λ e. e.end) (take l.end-index l.found.ends.items);
      words : (r : Tables) (steps : ℕ) (states : List (Machine × List ℕ)) → AreStates r l.found.kept.known.entries states → All (λ e. HasWord states e.origin (EndsSo (silent_slots r by_the_book) steps e.end)) l.found.ends.items → All (λ x. EndsSo (silent_slots r by_the_book) steps x.0 x.1) (map end_pair l.ends.items);
    }
