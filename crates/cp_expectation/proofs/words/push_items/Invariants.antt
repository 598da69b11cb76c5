use Rattle.std.proofs.Common.{◌≡◌, ◌++◌, codes, string_bytes, take}
use Rattle.cp_run.specs.Table.{each}
use Rattle.cp_expectation.specs.Written.{item_text}
use Rattle.cp_expectation.proofs.words.push_items.Given as goal

abbrev pub invariant-loop-item : goal.invariant-loop-item
invariant-loop-item l = string_bytes l.text ≡ string_bytes l.initial.text ++ each (λ j. codes " " ++ item_text j) (take l.item-index l.items)
