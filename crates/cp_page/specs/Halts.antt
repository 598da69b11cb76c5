-- Where a stretch comes to that is told.
use Rattle.std.specs.Prelude.{◌≡◌}
use Rattle.cp_machine.specs.System.{Machine}
use Rattle.cp_run.specs.Run.{Node, Halted, Choosing}
use Rattle.cp_run.specs.declared.outcome.Halt.{Halt}
use Rattle.cp_run.specs.declared.outcome.Halt.TheVariants.{Choice, Ended}
use Rattle.cp_ends.specs.declared.end.End.{End}
use Rattle.cp_ends.specs.declared.end.End.TheVariants.{Over}

-- in this state the run is over by this end
abbrev pub IsOver : End → Machine → Node Machine → Type 0
IsOver (Over kind) s node = node ≡ Halted kind s
IsOver _ s node = ⊥

-- it comes to this node of the machine as a run does, and in this state
abbrev pub IsHalt : Halt End → Machine → Node Machine → Type 0
IsHalt Choice s node = node ≡ Choosing s
IsHalt (Ended end) s node = IsOver end s node
