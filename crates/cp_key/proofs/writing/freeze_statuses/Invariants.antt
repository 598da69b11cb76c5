use Rattle.cp_key.proofs.Words.{◌≡◌, ◌++◌, take, map, flat_map, thread_of, status_key}
use Rattle.cp_key.proofs.writing.freeze_statuses.Given as goal

abbrev pub invariant-loop-process : goal.invariant-loop-process
invariant-loop-process l = l.key.items ≡ l.initial.key.items ++ flat_map (λ t. status_key t.status) (map thread_of (take l.process-index l.processes))
