use Rattle.std.proofs.Common.{◌≡◌, ◌++◌, string_bytes, take}
use Rattle.cp_walk.specs.Text.{behind_each}
use Rattle.cp_walk.specs.TraceText.{holder_text}
use Rattle.cp_walk.proofs.trace_reports.push_holders.Given as goal

abbrev pub invariant-loop-holder : goal.invariant-loop-holder
invariant-loop-holder l = string_bytes l.text ≡ string_bytes l.initial.text ++ behind_each 32 holder_text (take l.holder-index l.holders)
