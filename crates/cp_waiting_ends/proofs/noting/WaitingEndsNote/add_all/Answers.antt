use Rattle.std.proofs.Common.{◌≡◌, map, take, sym, subst, arith}
use Rattle.std.specs.Prelude.{option_map, slice_get}
use Rattle.std.proofs.lemmas.List.{take_all}
use Rattle.cp_layers.specs.Adding.{Adds, HasNoOthers}
use Rattle.cp_layers.proofs.Adding.{adds_then}
use Rattle.cp_waiting_ends.specs.Waiting.{ends_seen, ends_words, entry_seen, entry_word, those_in}
use Rattle.cp_waiting_ends.proofs.Waits.{others_then, take_one}
use Rattle.cp_waiting_ends.proofs.noting.WaitingEndsNote.add_all.Goals as goal

pub loop-number-preserved : goal.loop-number-preserved
loop-number-preserved c =
    let all = c.args.other.now.known.entries in
    let n = c.loop-number.number in
    let before = c.loop-number.self in
    record {
      adds = subst (λ l. Adds (ends_seen c.args.self.now) l (ends_seen c.add_number.new.self)) (sym (take_one entry_seen all n)) (adds_then (ends_seen c.args.self.now) (map entry_seen (take n all)) (ends_seen before) (those_in (option_map entry_seen (slice_get all n))) (ends_seen c.add_number.new.self) c.loop-number.invariant.adds c.in_ok-add_number.ensures.marks);
      words = subst (λ l. HasNoOthers (ends_words c.args.self.now) l (ends_words c.add_number.new.self)) (sym (take_one entry_word all n)) (others_then (ends_words c.args.self.now) (map entry_word (take n all)) (ends_words before) (those_in (option_map entry_word (slice_get all n))) (ends_words c.add_number.new.self) c.loop-number.invariant.words c.in_ok-add_number.ensures.words);
    }

pub returns-clause-marks : goal.returns-clause-marks
returns-clause-marks c =
    let all = c.args.other.now.known.entries in
    let count = c.len-number-end.ensures in
    let whole : take c.loop-number.number all ≡ all = take_all c.loop-number.number all (omega (arith, count)) in
    subst (λ l. Adds (ends_seen c.args.self.now) (map entry_seen l) (ends_seen c.loop-number.self)) whole c.loop-number.invariant.adds

pub returns-clause-words : goal.returns-clause-words
returns-clause-words c =
    let all = c.args.other.now.known.entries in
    let count = c.len-number-end.ensures in
    let whole : take c.loop-number.number all ≡ all = take_all c.loop-number.number all (omega (arith, count)) in
    subst (λ l. HasNoOthers (ends_words c.args.self.now) (map entry_word l) (ends_words c.loop-number.self)) whole c.loop-number.invariant.words
