use Rattle.std.proofs.Common.{◌≡◌, drop}
use Rattle.cp_story.specs.Causes.{indexed_at, memory_in}
use Rattle.cp_story.proofs.reading.Reading.+reading.Given as goal

-- what is left leads where all lead
abbrev pub invariant-through-loop-index : goal.invariant-through-loop-index
invariant-through-loop-index l = indexed_at (memory_in l.self) l.self.frame l.fn.start l.indices ≡ indexed_at (memory_in l.self) l.self.frame l.at (drop l.index-index l.indices)
