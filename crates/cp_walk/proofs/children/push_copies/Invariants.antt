use Rattle.std.proofs.Common.{◌≡◌, ◌++◌, take}
use Rattle.cp_walk.specs.Members.{words_of}
use Rattle.cp_walk.proofs.children.push_copies.Given as goal

abbrev pub invariant-loop-word : goal.invariant-loop-word
invariant-loop-word l = words_of l.words.items ≡ words_of l.initial.words.items ++ words_of (take l.word-index l.others)
