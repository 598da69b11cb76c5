use Rattle.cp_key.proofs.Words.{◌≡◌, ◌≤◌, ◌++◌, ℕ, List, length, take, drop, flat_map, byte_key}
use Rattle.cp_key.proofs.reading.thaw_line.Given as goal

abbrev pub invariant-loop-at : goal.invariant-loop-at
invariant-loop-at l = (line more : List ℕ) → l.initial.key.bytes.now ≡ flat_map byte_key line ++ more → length line ≡ l.count → length line ≤ 16 → (l.line.items ≡ take l.at line) × (l.key.bytes.now ≡ flat_map byte_key (drop l.at line) ++ more)
