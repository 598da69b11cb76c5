use Rattle.cp_at_once.proofs.Words.{◌≡◌, ◌∙◌, true, take, refl, sym, ap, subst, list_any, ends_tests, IsWordOf}
use Rattle.cp_ends.proofs.Telling.{values_told}
use Rattle.cp_at_once.specs.declared.found.ValueAtOnce.{ValueAtOnce}
use Rattle.cp_at_once.proofs.Noting.{value_again, value_new}
use Rattle.cp_at_once.proofs.found.FoundAtOnce.add_value.Goals as goal

pub returns-then-has_value_at-clause-value : goal.returns-then-has_value_at-clause-value
returns-then-has_value_at-clause-value c = λ r g most states word h is shows.
    (let present : c.has_value_at.result ≡ true = search in
    value_again r g most c.args.self.now states word h c.args.value (ap (list_any (λ (e : ValueAtOnce). ends_tests.value e.value c.args.value)) (sym c.as_slice-values.ensures.value) ∙ c.has_value_at.ensures present))

pub returns-clause-value : goal.returns-clause-value
returns-clause-value c = λ r g most states word h is shows.
    (let v = c.args.value in
    value_new r g most c.args.self.now states word h v c.copy-origin.result c.place_among_values-at.result ((values_told v v).1 refl) (subst (λ o. IsWordOf states o word) (sym c.copy-origin.ensures) is) shows c.truncate.new.self (c.truncate.ensures.items ∙ ap (take 1001) c.in_ok-insert.ensures.items))
