use Rattle.std.proofs.Common.{◌∙◌, ◌++◌, ◌<◌, ap, length, refl, sym, subst}
use Rattle.std.specs.Prelude.{slice_set}
use Rattle.cp_merged.proofs.Words.{IsRowFor, KnownStates}
use Rattle.cp_states.specs.Numbers.{number_at}
use Rattle.cp_states.specs.Pieces.{piece_at}
use Rattle.cp_merged.proofs.KnownRows.{known_more, more_outputs, numbered_row}
use Rattle.cp_merged.proofs.known.KnownStates.number_longer.Goals as goal

pub at-before-requires : goal.at-before-requires
at-before-requires c = let at = c.requires.2.before.is.within in let e = c.output_position-end.ensures in subst (λ n. number_at c.args.row.now n < length c.args.self.now.outputs.ends.items) (sym e) at

pub returns-clause-row : goal.returns-clause-row
returns-clause-row c = λ r m h.
    (let self = c.args.self.now in
    let e = c.output_position-end.ensures in
    let before = ap (λ n. piece_at self.outputs.items.items self.outputs.ends.items (number_at c.args.row.now n)) e ∙ h.before.is.is in
    let told = c.in_ok-row.ensures.number in
    let all = c.in_ok-extend_from_slice-2.ensures.items ∙ ap (λ l. l ++ c.args.shown.now) (c.in_ok-extend_from_slice.ensures.items ∙ ap (λ l. l ++ c.at-before.result.now) c.clear.ensures.items ∙ c.at-before.ensures ∙ before) ∙ sym h.told in
    let new : KnownStates = record self { outputs = c.number_of.new.self; output_room = c.extend_from_slice-2.new.self } in
    let n = c.in_ok-row.field-0 in
    subst (λ j. IsRowFor r new (slice_set c.args.row.now j n) m) (sym e) (numbered_row r self new c.args.row.now c.args.shown.now m n (more_outputs self new refl refl c.number_of.ensures.kept) h (record { within = told.0; is = told.1 ∙ c.deref.ensures.value ∙ all })))

pub returns-clause-known : goal.returns-clause-known
returns-clause-known c = λ r h. known_more r c.args.self.now _ refl refl refl h

pub returns-clause-kept : goal.returns-clause-kept
returns-clause-kept c = more_outputs c.args.self.now _ refl refl c.number_of.ensures.kept
