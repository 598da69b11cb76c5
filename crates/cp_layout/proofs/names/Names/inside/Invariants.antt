use Rattle.std.proofs.Common.{◌≡◌, [], take}
use Rattle.cp_layout.specs.Layers.{names_seen, latest_first, seen_inside}
use Rattle.cp_layout.proofs.names.Names.inside.Given as goal

abbrev pub invariant-loop-declared : goal.invariant-loop-declared
invariant-loop-declared l = names_seen l.names ≡ seen_inside (latest_first (take l.declared-index l.self.items.items) [])
