use Rattle.cp_key.proofs.Words.{◌≡◌, ◌<◌, ◌++◌, ℕ, List, length, drop, slice_index_or, flat_map, Monitor, monitor_of, no_monitor, monitor_key}
use Rattle.cp_machine.specs.declared.state.Gate.{Gate}
use Rattle.cp_key.specs.Room.{AreShort}
use Rattle.cp_key.proofs.reading.thaw_guards.Given as goal

abbrev pub invariant-loop-at : goal.invariant-loop-at
invariant-loop-at l = (ms : List Monitor) (more : List ℕ) → l.initial.key.bytes.now ≡ flat_map monitor_key ms ++ more → length ms ≡ length l.guards → AreShort ms → ((k : ℕ) (d : Gate) → k < l.at → monitor_of (slice_index_or l.guards k d) ≡ slice_index_or ms k no_monitor) × (l.key.bytes.now ≡ flat_map monitor_key (drop l.at ms) ++ more)
