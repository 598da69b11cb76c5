use Rattle.std.proofs.Common.{◌≡◌, map, take}
use Rattle.std.specs.Prelude.{flat_map}
use Rattle.cp_legend.specs.Names.{legend_seen}
use Rattle.cp_machine.specs.Machine.{machine_of, thread_of}
use Rattle.cp_story.specs.Annotations.{origin_told}
use Rattle.cp_story.specs.Views.{given_of}
use Rattle.cp_story.proofs.told_variables.all_told.Given as goal

-- those that are gathered
abbrev pub invariant-loop-origin : goal.invariant-loop-origin
invariant-loop-origin l = map given_of l.told.items ≡ flat_map (origin_told (legend_seen l.legend) (machine_of l.state).permanents (thread_of l.process)) (take l.origin-index l.origins)
