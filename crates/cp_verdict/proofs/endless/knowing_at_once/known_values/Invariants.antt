use Rattle.cp_verdict.proofs.any_length.Vocabulary.{◌≡◌, ℕ, List, map, take, All, Tables, Machine, by_the_book, slots, without_output, ShowsSo, HasTexts, value_pair}
use Rattle.cp_at_once.specs.Holds.{AreStates, HasWord}
use Rattle.cp_verdict.proofs.endless.knowing_at_once.known_values.Given as goal

abbrev pub invariant-loop-value : goal.invariant-loop-value
invariant-loop-value l =
    record {
      values : map (λ e. e.value) l.values.items ≡ map (λ e. e.value) (take l.value-index l.found.values.items);
      texts : HasTexts l.program.names l.values.items;
      words : (r : Tables) (steps : ℕ) (states : List (Machine × List ℕ)) → AreStates r l.found.kept.known.entries states → All (λ e. HasWord states e.origin (ShowsSo (slots r by_the_book) without_output steps e.value)) l.found.values.items → All (λ x. ShowsSo (slots r by_the_book) without_output steps x.0 x.1) (map value_pair l.values.items);
    }
