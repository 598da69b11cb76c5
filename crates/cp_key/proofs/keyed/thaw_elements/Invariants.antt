use Rattle.std.proofs.Common.{◌≡◌, ◌≤◌, ◌++◌, ℕ, List, length, take, drop, vec_capacity, vec_len}
use Rattle.std.specs.List.{flat_map}
use Rattle.cp_key.proofs.keyed.thaw_elements.Given as goal

abbrev pub invariant-loop-at : goal.invariant-loop-at
invariant-loop-at g l =
    record {
      read : (xs : List g.row.T.Denot) (more : List ℕ) → l.initial.key.bytes.now ≡ flat_map g.T.Keyed.key_of xs ++ more → length xs ≡ l.fn.count → length xs ≤ vec_capacity l.initial.list → (l.list.items ≡ take l.at xs) × (l.key.bytes.now ≡ flat_map g.T.Keyed.key_of (drop l.at xs) ++ more);
      long : vec_len l.list ≡ l.at;
      room : vec_capacity l.list ≡ vec_capacity l.initial.list;
    }
