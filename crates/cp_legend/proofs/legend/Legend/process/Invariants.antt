use Rattle.std.proofs.Common.{◌≡◌, drop, map}
use Rattle.cp_legend.specs.Names.{component_seen, process_in}
use Rattle.cp_legend.proofs.legend.Legend.process.Given as goal

-- what is left leads where all lead
abbrev pub invariant-loop-component : goal.invariant-loop-component
invariant-loop-component l = process_in (map component_seen l.self.components.items) l.process ≡ process_in (map component_seen (drop l.component-index l.self.components.items)) l.process
