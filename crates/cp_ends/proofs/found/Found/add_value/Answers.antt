use Rattle.cp_ends.proofs.Vocabulary.{◌≡◌, ◌∙◌, ◌<◌, true, false, length, sym, ap, arith, list_any, ends_tests, FoundValue}
use Rattle.cp_ends.proofs.Finding.{value_again, value_full, value_new}
use Rattle.cp_ends.proofs.found.Found.add_value.Goals as goal
use Rattle.cp_ends.proofs.found.Found.add_value.Goals.{else-len-le-MOST_VALUES-via-then-len-le-MOST_VALUES+else-not-has_value, else-len-le-MOST_VALUES-via-else-len-le-MOST_VALUES}

pub returns-in_ok-push-clause-values : goal.returns-in_ok-push-clause-values
returns-in_ok-push-clause-values c = λ r f word h is.
    (let found = c.args.self.now in
    let few : length found.values.items < 1001 = omega arith in
    let absent : c.has_value.result ≡ false = search in
    let none = ap (list_any (λ (e : FoundValue). ends_tests.value e.value c.args.value)) (sym c.deref.ensures.value) ∙ sym c.has_value.ensures ∙ absent in
    value_new r found f h word c.args.value c.args.origin c.push.new.self is few none c.in_ok-push.ensures.items)

pub returns-else-len-le-MOST_VALUES-clause-values : goal.returns-else-len-le-MOST_VALUES-clause-values
returns-else-len-le-MOST_VALUES-clause-values c = λ r f word h is.
    (let found = c.args.self.now in
    elim c.else-len-le-MOST_VALUES.branch [
      | else-len-le-MOST_VALUES-via-then-len-le-MOST_VALUES+else-not-has_value w ↦
          let few : length found.values.items < 1001 = omega (arith, w.if-len-le-MOST_VALUES.true, c.len.ensures) in
          let present : w.has_value.result ≡ true = search in
          let again = ap (list_any (λ (e : FoundValue). ends_tests.value e.value c.args.value)) (sym w.deref.ensures.value) ∙ sym w.has_value.ensures ∙ present in
          value_again r found f h word c.args.value few again
      | else-len-le-MOST_VALUES-via-else-len-le-MOST_VALUES w ↦ value_full r found f h word c.args.value (omega (arith, w.if-len-le-MOST_VALUES.false, c.len.ensures))
    ])
