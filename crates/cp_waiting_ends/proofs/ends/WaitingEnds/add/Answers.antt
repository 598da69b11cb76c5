use Rattle.std.proofs.Common.{◌∷◌, [], ◌++◌, ◌∙◌, ap, map, sym, subst, inl}
use Rattle.indexmap.specs.IndexMap.{insert_entry}
use Rattle.cp_layers.specs.Adding.{Adds, HasNoOthers}
use Rattle.cp_waiting_ends.specs.Waiting.{end_seen, ends_seen, ends_words, entry_seen, entry_word}
use Rattle.cp_waiting_ends.specs.contracts.end.WaitingEndPartialEq.TheImpl as end_eq
use Rattle.cp_waiting_ends.proofs.Waits.{adds_entry, adds_known, words_entry}
use Rattle.cp_waiting_ends.proofs.ends.WaitingEnds.add.Goals as goal

pub returns-then-has_before-clause-marks : goal.returns-then-has_before-clause-marks
returns-then-has_before-clause-marks c = adds_known (ends_seen c.args.self.now) (end_seen c.args.end) (c.has_before.ensures c.if-has_before.true)

pub returns-then-has_before-clause-words : goal.returns-then-has_before-clause-words
returns-then-has_before-clause-words c = λ x there. inl there

pub returns-clause-marks : goal.returns-clause-marks
returns-clause-marks c = subst (λ es. Adds (ends_seen c.args.self.now) (end_seen c.args.end ∷ []) (map entry_seen es)) (sym c.in_ok-insert.ensures.entries) (adds_entry c.args.self.now.known.entries c.args.end c.extend_from_slice.new.self)

pub returns-clause-words : goal.returns-clause-words
returns-clause-words c =
    let first = c.extend_from_slice.new.self in
    let entries = c.args.self.now.known.entries in
    let end = c.args.end in
    let items = c.in_ok-extend_from_slice.ensures.items ∙ ap (λ l. l ++ c.args.word.now) c.new-first.ensures.items in
    subst (λ es. HasNoOthers (ends_words c.args.self.now) ((end_seen end, c.args.word.now) ∷ []) (map entry_word es)) (sym c.in_ok-insert.ensures.entries)
    (subst (λ w. HasNoOthers (ends_words c.args.self.now) ((end_seen end, w) ∷ []) (map entry_word (insert_entry (end_eq.ghosts).eq entries end first))) items (words_entry entries end first))
