use Rattle.cp_key.proofs.Words.{◌≡◌, ◌+◌, ◌<◌, ◌≤◌, ◌++◌, ℕ, List, length, drop, slice_index_or, flat_map, ProcessState, body_of, Thread, thread_at, body_key}
use Rattle.cp_key.proofs.Words.{HaveThreadRoom}
use Rattle.cp_machine.specs.Fits.{HaveCells, HaveReferences, HaveStacks}
use Rattle.cp_key.specs.Known.{KeepUnmoved, inside, rest_at}
use Rattle.cp_key.proofs.reading.thaw_bodies.Given as goal

abbrev pub invariant-loop-at : goal.invariant-loop-at
invariant-loop-at l =
    record {
      read : (ts : List Thread) (more : List ℕ) → l.fn.key.bytes.now ≡ flat_map (λ t. body_key (body_of t)) ts ++ more → HaveThreadRoom l.fn.processes ts → ((k : ℕ) (d : ProcessState) → k < l.at → inside (slice_index_or l.processes k d) ≡ body_of (thread_at ts k)) × (l.key.bytes.now ≡ flat_map (λ t. body_key (body_of t)) (drop l.at ts) ++ more) × ((q : ℕ) → q ≤ l.at → rest_at l.bodies q ≡ flat_map (λ t. body_key (body_of t)) (drop q ts) ++ more);
      first : l.bodies.key.now ≡ l.fn.key.bytes.now;
      all : length l.bodies.rests.items ≡ l.at + 1;
      later : (q : ℕ) (d : ProcessState) → l.at ≤ q → slice_index_or l.processes q d ≡ slice_index_or l.fn.processes q d;
      statuses : (q : ℕ) (d : ProcessState) → (slice_index_or l.processes q d).status ≡ (slice_index_or l.fn.processes q d).status;
      kept : KeepUnmoved l.fn.moved l.moved l.fn.processes l.processes;
      stacks : (depth : ℕ) → HaveStacks depth l.fn.processes → HaveStacks depth l.processes;
      cells : (cells : ℕ) → HaveCells cells l.fn.processes → HaveCells cells l.processes;
      references : (references : ℕ) → HaveReferences references l.fn.processes → HaveReferences references l.processes;
    }
