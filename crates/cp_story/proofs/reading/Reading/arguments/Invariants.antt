use Rattle.std.proofs.Common.{◌≡◌, drop}
use Rattle.cp_story.specs.Causes.{arguments_at, memory_in}
use Rattle.cp_story.proofs.reading.Reading.arguments.Given as goal

-- what is left leads where all lead
abbrev pub invariant-loop-argument : goal.invariant-loop-argument
invariant-loop-argument l = arguments_at (memory_in l.self) l.self.bindings.now l.self.frame l.arguments ≡ arguments_at (memory_in l.self) l.self.bindings.now l.self.frame (drop l.argument-index l.arguments)
