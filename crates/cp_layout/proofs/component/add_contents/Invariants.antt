use Rattle.std.proofs.Common.{◌≡◌, ◌++◌, drop}
use Rattle.cp_layout.specs.Kinds.{types_seen}
use Rattle.cp_layout.specs.LaidComponents.{contents_least}
use Rattle.cp_layout.proofs.component.add_contents.Given as goal

-- what is left leads where all lead
abbrev pub invariant-loop-content : goal.invariant-loop-content
invariant-loop-content l = l.initial.cells.items ++ contents_least (types_seen l.types) l.contents ≡ l.cells.items ++ contents_least (types_seen l.types) (drop l.content-index l.contents)
