use Rattle.cp_walk.proofs.Words.{◌≡◌, ◌++◌, take, children, words_of}
use Rattle.cp_walk.proofs.children.push_children.Given as goal

abbrev pub invariant-loop-process : goal.invariant-loop-process
invariant-loop-process l = words_of l.words.items ≡ words_of l.initial.words.items ++ children l.word (take l.process-index l.ready)
