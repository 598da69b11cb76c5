use Rattle.std.proofs.Common.{◌≡◌, ◌++◌, codes, string_bytes, take}
use Rattle.cp_run.specs.Table.{each}
use Rattle.cp_expectation.specs.Written.{topic_text}
use Rattle.cp_expectation.proofs.words.push_topics.Given as goal

abbrev pub invariant-loop-topic : goal.invariant-loop-topic
invariant-loop-topic l = string_bytes l.text ≡ string_bytes l.initial.text ++ each (λ u. codes " or " ++ topic_text u) (take l.topic-index l.rest)
