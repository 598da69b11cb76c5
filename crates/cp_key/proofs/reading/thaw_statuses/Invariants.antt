use Rattle.cp_key.proofs.Words.{◌≡◌, ◌<◌, ◌++◌, ℕ, List, length, drop, slice_index_or, flat_map, ProcessState, Thread, thread_at, status_key, AreSameInside}
use Rattle.cp_key.proofs.reading.thaw_statuses.Given as goal

abbrev pub invariant-loop-at : goal.invariant-loop-at
invariant-loop-at l =
    record {
      read : (ts : List Thread) (more : List ℕ) → l.initial.key.bytes.now ≡ flat_map (λ t. status_key t.status) ts ++ more → length ts ≡ length l.processes → ((k : ℕ) (d : ProcessState) → k < l.at → (slice_index_or l.processes k d).status ≡ (thread_at ts k).status) × (l.key.bytes.now ≡ flat_map (λ t. status_key t.status) (drop l.at ts) ++ more);
      insides : (q : ℕ) (d : ProcessState) → AreSameInside (slice_index_or l.processes q d) (slice_index_or l.fn.processes q d);
    }
