use Rattle.std.proofs.Common.{◌∙◌, ap, refl, subst, sym}
use Rattle.cp_states.specs.Numbers.{number_at}
use Rattle.cp_parts.proofs.Pieces.{pieces_same}
use Rattle.cp_ends.specs.Halves.{half_position, is_in_first}
use Rattle.cp_ends.specs.Moves.{HasHalf}
use Rattle.cp_ends.proofs.GoingOn.{ok_to}
use Rattle.cp_ends.proofs.Halves.{halved_on, row_for_on, same_kept}
use Rattle.cp_ends.proofs.Keeping.{states_on}
use Rattle.cp_ends.proofs.Made.{half_of_numbers}
use Rattle.cp_ends.proofs.states.States.learn.Goals as goal

pub learn_move-requires-clause-half : goal.learn_move-requires-clause-half
learn_move-requires-clause-half c =
    let self = c.args.self.now in
    let row = c.args.row.now in
    let first = is_in_first self.cache.table c.args.process in
    let has = subst (λ n. HasHalf self first n row) (sym (c.half-half.ensures ∙ ap (λ x. number_at c.args.numbers.numbers (half_position x)) c.is_in_first.ensures)) (half_of_numbers self c.args.numbers.numbers row c.requires.halved c.requires.long first) in
    record { wide = has.wide; is = has.is }

pub learn_move-requires-clause-states : goal.learn_move-requires-clause-states
learn_move-requires-clause-states c =
    let old = c.args.self.now in
    let h = c.requires.states.2 in
    (c.requires.states.0, c.requires.states.1, states_on c.requires.states.0 old _ c.requires.states.1 refl c.wants.ensures.moves c.wants.ensures.writes (same_kept old _ refl refl (pieces_same old.lists.items.items old.lists.ends.items)) h.cached h.standing h)

pub returns-clause-kept : goal.returns-clause-kept
returns-clause-kept c =
    ok_to c.learn_move.result _ _ c.learn_move.ensures.kept (λ b on r states h.
    (let old = c.args.self.now in
    on r states (states_on r old _ states refl c.wants.ensures.moves c.wants.ensures.writes (same_kept old _ refl refl (pieces_same old.lists.items.items old.lists.ends.items)) h.cached h.standing h)))

pub returns-clause-rows : goal.returns-clause-rows
returns-clause-rows c = λ r list m is.
    (let old = c.args.self.now in
    c.learn_move.ensures.rows r list m (row_for_on r old _ list m (same_kept old _ refl refl (pieces_same old.lists.items.items old.lists.ends.items)) is))

pub returns-clause-lists : goal.returns-clause-lists
returns-clause-lists c = λ numbers list is.
    (let old = c.args.self.now in
    c.learn_move.ensures.lists numbers list (halved_on old _ numbers list (same_kept old _ refl refl (pieces_same old.lists.items.items old.lists.ends.items)) is))

pub returns-then-not-branch-clause-kept : goal.returns-then-not-branch-clause-kept
returns-then-not-branch-clause-kept c = λ r states h.
    (let old = c.args.self.now in
    states_on r old _ states refl c.wants.ensures.moves c.wants.ensures.writes (same_kept old _ refl refl (pieces_same old.lists.items.items old.lists.ends.items)) h.cached h.standing h)
