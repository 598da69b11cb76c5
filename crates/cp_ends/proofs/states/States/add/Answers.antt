use Rattle.std.proofs.Common.{refl}
use Rattle.cp_parts.proofs.Pieces.{pieces_same}
use Rattle.cp_ends.proofs.Halves.{same_kept}
use Rattle.cp_ends.proofs.Keeping.{states_more}
use Rattle.cp_ends.proofs.states.States.add.Goals as goal

pub returns-clause-states : goal.returns-clause-states
returns-clause-states c = λ r states m word h new is word_is before.
    (let kept = c.args.self.now in
    states_more r kept states h c.args.row c.args.origin m word new is word_is before _ (same_kept kept _ refl refl (pieces_same kept.lists.items.items kept.lists.ends.items)) refl h.cached h.standing c.in_ok-insert.ensures.entries)
