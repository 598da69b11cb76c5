use Rattle.std.proofs.Common.{◌∷◌, [], ◌∙◌, ap, inl, sym, subst}
use Rattle.std.specs.Prelude.{Option, option_map, slice_get}
use Rattle.cp_layers.specs.Adding.{Adds, HasNoOthers}
use Rattle.cp_layers.proofs.Adding.{adds_none}
use Rattle.cp_run.proofs.Tracing.{ok_as}
use Rattle.cp_waiting_ends.specs.Waiting.{end_seen, ends_seen, ends_words, entry_seen, those_in}
use Rattle.cp_waiting_ends.proofs.Waits.{Entry, none_at, some_at}
use Rattle.cp_waiting_ends.proofs.ends.WaitingEnds.add_number.Goals as goal

pub returns-in_ok-copy-in-Some-clause-marks : goal.returns-in_ok-copy-in-Some-clause-marks
returns-in_ok-copy-in-Some-clause-marks c =
    let one = some_at (slice_get c.args.others.now.known.entries c.args.number) (end_seen c.in-Some.end.now) c.in-Some.word.now c.in-Some.ensures in
    ok_as c.add.result _ _ c.add.ensures.marks (λ u h. subst (λ l. Adds (ends_seen c.args.self.now) l (ends_seen c.add.new.self)) (ap (λ k. k ∷ []) c.in_ok-copy-in-Some.ensures ∙ sym one.0) h)

pub returns-in_ok-copy-in-Some-clause-words : goal.returns-in_ok-copy-in-Some-clause-words
returns-in_ok-copy-in-Some-clause-words c =
    let one = some_at (slice_get c.args.others.now.known.entries c.args.number) (end_seen c.in-Some.end.now) c.in-Some.word.now c.in-Some.ensures in
    ok_as c.add.result _ _ c.add.ensures.words (λ u h. subst (λ l. HasNoOthers (ends_words c.args.self.now) l (ends_words c.add.new.self)) (ap (λ k. (k, c.in-Some.word.now) ∷ []) c.in_ok-copy-in-Some.ensures ∙ sym one.1) h)

pub returns-in-None-clause-marks : goal.returns-in-None-clause-marks
returns-in-None-clause-marks c = subst (λ (o : Option Entry). Adds (ends_seen c.args.self.now) (those_in (option_map entry_seen o)) (ends_seen c.args.self.now)) (sym (none_at (slice_get c.args.others.now.known.entries c.args.number) c.in-None.ensures)) (adds_none (ends_seen c.args.self.now))

pub returns-in-None-clause-words : goal.returns-in-None-clause-words
returns-in-None-clause-words c = λ x there. inl there
