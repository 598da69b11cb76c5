use Rattle.cp_key.proofs.Words.{◌≡◌, ◌≤◌, ◌<◌, ◌++◌, ℕ, false, take, map, flat_map, body_of, has_moved, thread_of, body_key}
use Rattle.cp_key.proofs.writing.freeze_bodies.Given as goal

abbrev pub invariant-loop-pid : goal.invariant-loop-pid
invariant-loop-pid l =
    record {
      bound : l.first ≤ l.pid;
      items : l.key.items ≡ l.initial.key.items ++ flat_map (λ t. body_key (body_of t)) (take l.first (map thread_of l.processes));
      unmoved : (q : ℕ) → l.first ≤ q → q < l.pid → has_moved l.moved q ≡ false;
    }
