use Rattle.cp_key.proofs.Words.{◌≡◌, ◌++◌, take, map, flat_map, monitor_of, monitor_key}
use Rattle.cp_key.proofs.writing.freeze_guards.Given as goal

abbrev pub invariant-loop-guard : goal.invariant-loop-guard
invariant-loop-guard l = l.key.items ≡ l.initial.key.items ++ flat_map monitor_key (map monitor_of (take l.guard-index l.guards))
