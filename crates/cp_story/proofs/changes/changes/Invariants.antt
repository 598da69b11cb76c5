use Rattle.std.proofs.Common.{◌≡◌, map, take}
use Rattle.std.specs.Prelude.{flat_map}
use Rattle.cp_legend.specs.Names.{component_seen, legend_seen}
use Rattle.cp_story.specs.Changes.{changes_of}
use Rattle.cp_story.specs.Views.{changed_of}
use Rattle.cp_story.proofs.changes.changes.Given as goal

-- those that are gathered
abbrev pub invariant-loop-component : goal.invariant-loop-component
invariant-loop-component l = map changed_of l.changes.items ≡ flat_map (changes_of (legend_seen l.legend) l.before l.now) (map component_seen (take l.component-index l.legend.components.items))
