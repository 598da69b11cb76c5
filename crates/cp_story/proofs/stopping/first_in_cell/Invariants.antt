use Rattle.std.proofs.Common.{◌≡◌, drop, map}
use Rattle.cp_story.specs.Halted.{first_in_cell}
use Rattle.cp_story.specs.Views.{wait_of}
use Rattle.cp_story.proofs.stopping.first_in_cell.Given as goal

-- what is left leads where all lead
abbrev pub invariant-loop-wait : goal.invariant-loop-wait
invariant-loop-wait l = first_in_cell l.cell (map wait_of l.waits) ≡ first_in_cell l.cell (map wait_of (drop l.wait-index l.waits))
