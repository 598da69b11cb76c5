use Rattle.std.proofs.Common.{◌≡◌, ◌++◌, string_bytes, map}
use Rattle.indexmap.specs.IndexMap.{values}
use Rattle.cp_run.specs.Table.{each}
use Rattle.cp_walk.specs.Groups.{tally, tally_text}
use Rattle.cp_walk.proofs.reports.push_groups.Given as goal

-- those so far, and those that are left
abbrev pub invariant-loop-group : goal.invariant-loop-group
invariant-loop-group l = string_bytes l.initial.text ++ each (tally_text l.program.names) (map tally (values l.groups)) ≡ string_bytes l.text ++ each (tally_text l.program.names) (map tally l.group-iterator)
