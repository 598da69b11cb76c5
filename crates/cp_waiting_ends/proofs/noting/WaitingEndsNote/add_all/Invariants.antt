use Rattle.std.proofs.Common.{map, take}
use Rattle.cp_layers.specs.Adding.{Adds, HasNoOthers}
use Rattle.cp_waiting_ends.specs.Waiting.{ends_seen, ends_words, entry_seen, entry_word}
use Rattle.cp_waiting_ends.proofs.noting.WaitingEndsNote.add_all.Given as goal

abbrev pub invariant-loop-number : goal.invariant-loop-number
invariant-loop-number l =
    record {
      adds : Adds (ends_seen l.initial.self) (map entry_seen (take l.number l.other.known.entries)) (ends_seen l.self);
      words : HasNoOthers (ends_words l.initial.self) (map entry_word (take l.number l.other.known.entries)) (ends_words l.self);
    }
