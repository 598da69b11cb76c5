use Rattle.cp_at_once.proofs.Words.{◌≡◌, ◌∙◌, true, refl, sym, ap, subst, list_any, ends_tests, IsWordOf}
use Rattle.cp_ends.proofs.Telling.{ends_told}
use Rattle.cp_at_once.specs.declared.found.EndAtOnce.{EndAtOnce}
use Rattle.cp_at_once.proofs.Noting.{end_again, end_new}
use Rattle.cp_at_once.proofs.found.FoundAtOnce.add_end.Goals as goal

pub returns-then-has_end_at-clause-end : goal.returns-then-has_end_at-clause-end
returns-then-has_end_at-clause-end c = λ r g most states word h is leads.
    (let present : c.has_end_at.result ≡ true = search in
    end_again r g most c.args.self.now states word h c.args.end (ap (list_any (λ (e : EndAtOnce). ends_tests.end e.end c.args.end)) (sym c.as_slice-ends.ensures.value) ∙ c.has_end_at.ensures present))

pub returns-clause-end : goal.returns-clause-end
returns-clause-end c = λ r g most states word h is leads.
    (let e = c.args.end in
    end_new r g most c.args.self.now states word h e c.copy-origin.result c.place_among_ends-at.result ((ends_told e e).1 refl) (subst (λ o. IsWordOf states o word) (sym c.copy-origin.ensures) is) leads c.insert.new.self c.in_ok-insert.ensures.items)
