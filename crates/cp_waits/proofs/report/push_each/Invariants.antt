use Rattle.std.proofs.Common.{◌≡◌, ◌++◌, string_bytes, take}
use Rattle.cp_run.specs.Table.{each}
use Rattle.cp_waits.specs.Told.{line_text}
use Rattle.cp_waits.proofs.report.push_each.Given as goal

abbrev pub invariant-loop-waiting : goal.invariant-loop-waiting
invariant-loop-waiting l = string_bytes l.text ≡ string_bytes l.initial.text ++ each line_text (take l.waiting-index l.list)
