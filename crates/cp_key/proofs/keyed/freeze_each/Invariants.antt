use Rattle.std.proofs.Common.{◌≡◌, ◌++◌, take}
use Rattle.std.specs.List.{flat_map}
use Rattle.cp_key.proofs.keyed.freeze_each.Given as goal

abbrev pub invariant-loop-x : goal.invariant-loop-x
invariant-loop-x g l = l.key.items ≡ l.initial.key.items ++ flat_map g.T.Keyed.key_of (take l.x-index l.list)
