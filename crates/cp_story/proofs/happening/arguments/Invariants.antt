use Rattle.std.proofs.Common.{◌≡◌, map, take}
use Rattle.cp_legend.specs.Names.{legend_seen}
use Rattle.cp_legend.specs.Values.{value_seen}
use Rattle.cp_machine.specs.Machine.{thread_of}
use Rattle.cp_story.specs.Passed.{argument}
use Rattle.cp_story.proofs.happening.arguments.Given as goal

-- those that are gathered
abbrev pub invariant-loop-parameter : goal.invariant-loop-parameter
invariant-loop-parameter l = map value_seen l.values.items ≡ map (argument (legend_seen l.legend) (thread_of l.process)) (take l.parameter-index l.parameter-items)
