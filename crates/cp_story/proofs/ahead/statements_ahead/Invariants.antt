use Rattle.std.proofs.Common.{◌≡◌, ◌-◌}
use Rattle.cp_legend.specs.Names.{legend_seen}
use Rattle.cp_machine.specs.Machine.{machine_of}
use Rattle.cp_story.specs.Ahead.{followed, most_ahead, statements_ahead}
use Rattle.cp_story.proofs.ahead.statements_ahead.Given as goal

-- what is left leads where all lead
abbrev pub invariant-loop-place : goal.invariant-loop-place
invariant-loop-place l = followed (legend_seen l.legend) l.program (machine_of l.state) (most_ahead (legend_seen l.legend) l.program - l.place) l.place l.ahead.items ≡ statements_ahead (legend_seen l.legend) l.program (machine_of l.state)
