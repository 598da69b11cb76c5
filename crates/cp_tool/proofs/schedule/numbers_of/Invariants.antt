use Rattle.std.proofs.Common.{◌≡◌, ℕ, List, length, take}
use Rattle.cp_tool.specs.Words.{IsWord, spelled}
use Rattle.cp_tool.proofs.schedule.numbers_of.Given as goal

abbrev pub invariant-loop-part : goal.invariant-loop-part
invariant-loop-part l =
    IsWord l.most l.word.items × (length l.word.items ≡ length l.yielded)
    × ((w : List ℕ) → IsWord l.most w → spelled w ≡ l.fn.text → take (length l.yielded) w ≡ l.word.items)
