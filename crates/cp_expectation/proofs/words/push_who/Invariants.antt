use Rattle.std.proofs.Common.{◌≡◌, ◌++◌, codes, string_bytes, take}
use Rattle.cp_run.specs.Table.{each}
use Rattle.cp_expectation.specs.Written.{process_text}
use Rattle.cp_expectation.proofs.words.push_who.Given as goal

abbrev pub invariant-loop-name : goal.invariant-loop-name
invariant-loop-name l = string_bytes l.text ≡ string_bytes l.initial.text ++ each (λ name. codes " " ++ process_text (string_bytes name)) (take l.name-index l.who.processes.items)
