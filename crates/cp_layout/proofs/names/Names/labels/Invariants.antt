use Rattle.std.proofs.Common.{◌≡◌, take}
use Rattle.cp_layout.specs.Layers.{names_seen}
use Rattle.cp_layout.specs.LaidTypes.{labels_of}
use Rattle.cp_layout.proofs.names.Names.labels.Given as goal

abbrev pub invariant-loop-node : goal.invariant-loop-node
invariant-loop-node l = l.labels.items ≡ labels_of (names_seen l.self) (take l.node-index l.nodes)
