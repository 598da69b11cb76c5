use Rattle.std.proofs.Common.{◌≡◌, ◌≤◌, ◌+◌, ◌++◌, length, take, vec_capacity, vec_len}
use Rattle.std.specs.List.{flat_map}
use Rattle.cp_key.proofs.keyed.freeze_short.Given as goal

abbrev pub invariant-loop-x : goal.invariant-loop-x
invariant-loop-x g l =
    record {
      items : l.key.items ≡ l.initial.key.items ++ flat_map g.T.Keyed.key_of (take l.x-index l.list);
      long : vec_len l.key ≡ vec_len l.initial.key + l.x-index;
      room : vec_len l.initial.key + length l.list ≤ vec_capacity l.key;
    }
