use Rattle.std.proofs.Common.{◌≡◌, ◌++◌, ℕ, List, length, take, drop, vec_capacity, vec_len}
use Rattle.std.specs.List.{flat_map}
use Rattle.cp_key.proofs.keyed.thaw_short_ones.Given as goal

abbrev pub invariant-loop-byte : goal.invariant-loop-byte
invariant-loop-byte g l =
    record {
      read : (xs : List g.row.T.Denot) (rest more : List ℕ) → l.bytes ++ rest ≡ flat_map g.T.Keyed.key_of xs ++ more → length xs ≡ length l.bytes → (l.list.items ≡ take l.byte-index xs) × (drop l.byte-index l.bytes ++ rest ≡ flat_map g.T.Keyed.key_of (drop l.byte-index xs) ++ more);
      long : vec_len l.list ≡ l.byte-index;
      room : vec_capacity l.list ≡ vec_capacity l.initial.list;
    }
