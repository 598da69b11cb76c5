use Rattle.cp_ends.proofs.Vocabulary.{◌∙◌, ap, nat_eq, pointwise, key_of, machine_of, same_key}
use Rattle.cp_ends.proofs.round.is_at.Goals as goal

pub returns : goal.returns
unfolding same_key
returns c = λ m e.
    c.eq.ensures
    ∙ ap (λ l. pointwise nat_eq l c.args.first.now.bytes.items) c.in_ok-take_from.ensures
    ∙ ap (λ l. pointwise nat_eq (key_of (machine_of c.args.state.now)) l) e
