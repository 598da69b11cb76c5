use Rattle.std.proofs.Common.{◌≡◌, map}
use Rattle.cp_machine.specs.System.{machine_of}
use Rattle.cp_run.specs.Run.{those_below}
use Rattle.cp_story.specs.Views.{past_of, wait_of}
use Rattle.cp_story.specs.Waiting.{waiting_at, waits_at}
use Rattle.cp_story.proofs.story.waits_of.Given as goal

abbrev pub invariant-loop-process : goal.invariant-loop-process
invariant-loop-process l = map wait_of l.waits.items ≡ map (waiting_at l.program (machine_of l.state) (past_of l.observer).calls) (those_below l.process (waits_at (machine_of l.state)))
