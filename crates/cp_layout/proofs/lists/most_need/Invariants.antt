use Rattle.std.proofs.Common.{◌≡◌, drop, map}
use Rattle.cp_layout.specs.Layers.{pending_need_from, pending_seen}
use Rattle.cp_layout.proofs.lists.most_need.Given as goal

-- what is left leads where all lead
abbrev pub invariant-loop-item : goal.invariant-loop-item
invariant-loop-item l = pending_need_from 0 (map pending_seen l.items) ≡ pending_need_from l.most (map pending_seen (drop l.item-index l.items))
