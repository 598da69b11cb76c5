use Rattle.std.proofs.Common.{◌≡◌, ◌++◌, map, take}
use Rattle.std.specs.Prelude.{flat_map}
use Rattle.cp_legend.specs.Names.{component_seen, legend_seen, variable_seen}
use Rattle.cp_story.specs.Changes.{change_of}
use Rattle.cp_story.specs.Views.{changed_of}
use Rattle.cp_story.proofs.changes.push_changes.Given as goal

-- those that are added
abbrev pub invariant-loop-variable : goal.invariant-loop-variable
invariant-loop-variable l = map changed_of l.changes.items ≡ map changed_of l.fn.changes.items ++ flat_map (change_of (legend_seen l.legend) l.before l.now (component_seen l.component) l.monitor) (map variable_seen (take l.variable-index l.variables))
