use Rattle.std.proofs.Common.{◌≡◌, drop}
use Rattle.cp_machine.specs.Stack.{top_first}
use Rattle.cp_story.specs.Ahead.{with_rests}
use Rattle.cp_story.proofs.ahead.push_rests.Given as goal

-- the entries below lead where all lead
abbrev pub invariant-loop-depth : goal.invariant-loop-depth
invariant-loop-depth l = with_rests l.process l.component l.ahead.items (drop l.depth (top_first l.own.stack)) ≡ with_rests l.process l.own.frame.component l.initial.ahead.items (top_first l.own.stack)
