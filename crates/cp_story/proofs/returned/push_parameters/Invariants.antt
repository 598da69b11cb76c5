use Rattle.std.proofs.Common.{◌≡◌, ◌++◌, map, take}
use Rattle.std.specs.Prelude.{flat_map}
use Rattle.cp_legend.specs.Names.{legend_seen}
use Rattle.cp_machine.specs.Machine.{machine_of, thread_of}
use Rattle.cp_story.specs.Passed.{parameter_given}
use Rattle.cp_story.specs.Views.{given_of}
use Rattle.cp_story.proofs.returned.push_parameters.Given as goal

-- those that are added
abbrev pub invariant-loop-parameter : goal.invariant-loop-parameter
invariant-loop-parameter l = map given_of l.all.items ≡ map given_of l.fn.all.items ++ flat_map (parameter_given (legend_seen l.legend) (machine_of l.state).permanents (thread_of l.process)) (take l.parameter-index l.parameters)
