use Rattle.std.proofs.Common.{◌∙◌, refl}
use Rattle.cp_parts.proofs.Pieces.{piece_on, pieces_on}
use Rattle.cp_ends.proofs.Halves.{halved_on, same_kept}
use Rattle.cp_ends.proofs.Keeping.{lists_more}
use Rattle.cp_ends.proofs.states.States.halve.Goals as goal

pub returns-clause-halved : goal.returns-clause-halved
returns-clause-halved c =
    let one = c.number_of.new.self in
    let two = c.number.new.halves in
    let three = c.number-2.new.halves in
    let own = c.in_ok-statuses.ensures.number in
    let first = c.in_ok-first.ensures.number in
    let second = c.in_ok-second.ensures.number in
    record {
      three = refl;
      statuses = piece_on one.items.items one.ends.items three.items.items three.ends.items c.in_ok-statuses.statuses _ (pieces_on one.items.items one.ends.items two.items.items two.ends.items three.items.items three.ends.items c.number.ensures.kept c.number-2.ensures.kept) (record { within = own.0; is = own.1 ∙ c.deal-dealt.ensures.statuses });
      first = piece_on two.items.items two.ends.items three.items.items three.ends.items c.in_ok-first.first _ c.number-2.ensures.kept (record { within = first.within; is = first.is ∙ c.deal-dealt.ensures.first });
      second = record { within = second.within; is = second.is ∙ c.deal-dealt.ensures.second };
    }

pub returns-clause-kept : goal.returns-clause-kept
returns-clause-kept c = λ r states h.
    (let old = c.args.self.now in
    let one = c.number_of.new.self in
    let two = c.number.new.halves in
    let three = c.number-2.new.halves in
    lists_more r old _ states refl refl refl refl refl (pieces_on old.lists.items.items old.lists.ends.items one.items.items one.ends.items three.items.items three.ends.items c.number_of.ensures.kept (pieces_on one.items.items one.ends.items two.items.items two.ends.items three.items.items three.ends.items c.number.ensures.kept c.number-2.ensures.kept)) h)

pub returns-clause-lists : goal.returns-clause-lists
returns-clause-lists c = λ numbers list is.
    (let old = c.args.self.now in
    let one = c.number_of.new.self in
    let two = c.number.new.halves in
    let three = c.number-2.new.halves in
    halved_on old _ numbers list (same_kept old _ refl refl (pieces_on old.lists.items.items old.lists.ends.items one.items.items one.ends.items three.items.items three.ends.items c.number_of.ensures.kept (pieces_on one.items.items one.ends.items two.items.items two.ends.items three.items.items three.ends.items c.number.ensures.kept c.number-2.ensures.kept))) is)

pub returns-in_err-statuses-clause-kept : goal.returns-in_err-statuses-clause-kept
returns-in_err-statuses-clause-kept c = λ r states h.
    (let old = c.args.self.now in
    lists_more r old _ states refl refl refl refl refl c.number_of.ensures.kept h)

pub returns-in_err-statuses-clause-lists : goal.returns-in_err-statuses-clause-lists
returns-in_err-statuses-clause-lists c = λ numbers list is.
    (let old = c.args.self.now in
    halved_on old _ numbers list (same_kept old _ refl refl c.number_of.ensures.kept) is)

pub returns-in_err-first-clause-kept : goal.returns-in_err-first-clause-kept
returns-in_err-first-clause-kept c = λ r states h.
    (let old = c.args.self.now in
    let one = c.number_of.new.self in
    let two = c.number.new.halves in
    lists_more r old _ states refl refl refl refl refl (pieces_on old.lists.items.items old.lists.ends.items one.items.items one.ends.items two.items.items two.ends.items c.number_of.ensures.kept c.number.ensures.kept) h)

pub returns-in_err-first-clause-lists : goal.returns-in_err-first-clause-lists
returns-in_err-first-clause-lists c = λ numbers list is.
    (let old = c.args.self.now in
    let one = c.number_of.new.self in
    let two = c.number.new.halves in
    halved_on old _ numbers list (same_kept old _ refl refl (pieces_on old.lists.items.items old.lists.ends.items one.items.items one.ends.items two.items.items two.ends.items c.number_of.ensures.kept c.number.ensures.kept)) is)

pub returns-in_err-second-clause-kept : goal.returns-in_err-second-clause-kept
returns-in_err-second-clause-kept c = λ r states h.
    (let old = c.args.self.now in
    let one = c.number_of.new.self in
    let two = c.number.new.halves in
    let three = c.number-2.new.halves in
    lists_more r old _ states refl refl refl refl refl (pieces_on old.lists.items.items old.lists.ends.items one.items.items one.ends.items three.items.items three.ends.items c.number_of.ensures.kept (pieces_on one.items.items one.ends.items two.items.items two.ends.items three.items.items three.ends.items c.number.ensures.kept c.number-2.ensures.kept)) h)

pub returns-in_err-second-clause-lists : goal.returns-in_err-second-clause-lists
returns-in_err-second-clause-lists c = λ numbers list is.
    (let old = c.args.self.now in
    let one = c.number_of.new.self in
    let two = c.number.new.halves in
    let three = c.number-2.new.halves in
    halved_on old _ numbers list (same_kept old _ refl refl (pieces_on old.lists.items.items old.lists.ends.items one.items.items one.ends.items three.items.items three.ends.items c.number_of.ensures.kept (pieces_on one.items.items one.ends.items two.items.items two.ends.items three.items.items three.ends.items c.number.ensures.kept c.number-2.ensures.kept))) is)
