use Rattle.std.proofs.Common.{◌≡◌, ◌+◌, ◌≤◌, drop, map, min}
use Rattle.std.specs.List.{count_by}
use Rattle.cp_legend.specs.Names.{Named, component_seen, is_some_process, process_count}
use Rattle.cp_legend.proofs.legend.Legend.processes.Given as goal

-- what is counted, with what is left, is all
abbrev pub invariant-loop-component : goal.invariant-loop-component
invariant-loop-component l =
    record {
      fits : l.count ≤ 255;
      counted : min (l.count + count_by (λ (c : Named). is_some_process c.kind) (map component_seen (drop l.component-index l.self.components.items))) 255 ≡ process_count (map component_seen l.self.components.items);
    }
