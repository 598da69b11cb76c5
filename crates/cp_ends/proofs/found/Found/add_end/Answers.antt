use Rattle.cp_ends.proofs.Vocabulary.{◌≡◌, ◌∙◌, true, false, sym, ap, list_any, ends_tests, FoundEnd}
use Rattle.cp_ends.proofs.Finding.{end_again, end_new}
use Rattle.cp_ends.proofs.found.Found.add_end.Goals as goal

pub returns-in_ok-push-clause-ends : goal.returns-in_ok-push-clause-ends
returns-in_ok-push-clause-ends c = λ r f word h is.
    (let found = c.args.self.now in
    let absent : c.has_end.result ≡ false = search in
    let new = ap (list_any (λ (e : FoundEnd). ends_tests.end e.end c.args.end)) (sym c.deref.ensures.value) ∙ sym c.has_end.ensures ∙ absent in
    end_new r found f h word c.args.end c.args.origin c.push.new.self is new c.in_ok-push.ensures.items)

pub returns-else-not-has_end-clause-ends : goal.returns-else-not-has_end-clause-ends
returns-else-not-has_end-clause-ends c = λ r f word h is.
    (let found = c.args.self.now in
    let present : c.has_end.result ≡ true = search in
    let again = ap (list_any (λ (e : FoundEnd). ends_tests.end e.end c.args.end)) (sym c.deref.ensures.value) ∙ sym c.has_end.ensures ∙ present in
    end_again r found f h word c.args.end again)
