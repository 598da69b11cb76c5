use Rattle.cp_at_once.proofs.Words.{◌≡◌, ℕ, List, take, All, Tables, Machine, ShowsLast, NotesValues, SlotGraph, Holds, IsWordOf}
use Rattle.cp_at_once.proofs.found.FoundAtOnce.add_values.Given as goal

abbrev pub invariant-loop-value : goal.invariant-loop-value
invariant-loop-value l =
    record {
      kept : l.self.kept ≡ l.initial.self.kept;
      found : (r : Tables) (g : SlotGraph) (most : ℕ) (states : List (Machine × List ℕ)) (word : List ℕ) → Holds r g most l.initial.self states → IsWordOf states l.origin word → All (λ v. ShowsLast g v word) l.values → NotesValues r g most l.initial.self states l.self (take l.value-index l.values);
    }
