use Rattle.std.proofs.Common.{◌≡◌, ◌∙◌, ◌++◌, ap, drop, length, subst, sym, take}
use Rattle.std.proofs.lemmas.List.{take_at}
use Rattle.cp_machine.specs.Machine.{machine_of}
use Rattle.cp_effects.specs.Renewing.{IsRenewed}
use Rattle.cp_effects.proofs.renewing.renew_row.Goals as goal

pub returns-clause-row : goal.returns-clause-row
returns-clause-row c =
    let u = c.renew_numbers.new.store in
    let t = c.args.table.now in
    let m = machine_of c.args.state.now in
    let places = c.args.touched.now.places.items in
    let before = c.args.before.now in
    let after = c.extend_from_slice.new.self in
    let row = c.renew_numbers.new.row in
    let copied : after.items ≡ before = c.in_ok-extend_from_slice.ensures.items ∙ ap (λ xs. xs ++ before) c.in_ok-after.ensures.items in
    let made = subst (λ xs. IsRenewed u t m places xs row) (c.deref_mut.ensures.value ∙ copied) c.in_ok-renew_numbers.ensures.row in
    let whole : take after.len (row ++ drop (length row) after.items) ≡ row = take_at row (drop (length row) after.items) after.len (made.long ∙ sym (ap length copied) ∙ sym after.ok.0) in
    subst (IsRenewed u t m places before) (sym whole) made
