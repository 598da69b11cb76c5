use Rattle.std.proofs.Common.{sym, subst}
use Rattle.cp_machine.specs.System.{machine_of}
use Rattle.cp_layers.specs.Layers.{AddsState}
use Rattle.indexmap.specs.IndexSet.{insert_key}
use Rattle.cp_layers.specs.Leading.{AreWords}
use Rattle.cp_layers.proofs.FromState.{adds_state, same_key}
use Rattle.cp_layers.proofs.Leading.{words_known, words_new}
use Rattle.cp_layers.proofs.layer.Layer.add.Goals as goal

pub returns-in_ok-extend_from_slice-clause-state : goal.returns-in_ok-extend_from_slice-clause-state
returns-in_ok-extend_from_slice-clause-state c = subst (AddsState c.args.self.now.known.keys (machine_of c.args.state.now)) (sym c.in_ok-insert.ensures.keys) (adds_state c.args.self.now.known.keys c.take_from.new.self (machine_of c.args.state.now) c.in_ok-take_from.ensures)

pub returns-else-branch-clause-state : goal.returns-else-branch-clause-state
returns-else-branch-clause-state c = subst (AddsState c.args.self.now.known.keys (machine_of c.args.state.now)) (sym c.in_ok-insert.ensures.keys) (adds_state c.args.self.now.known.keys c.take_from.new.self (machine_of c.args.state.now) c.in_ok-take_from.ensures)

pub returns-in_ok-extend_from_slice-clause-words : goal.returns-in_ok-extend_from_slice-clause-words
returns-in_ok-extend_from_slice-clause-words c = λ sys steps d h due.
    (let keys = c.args.self.now.known.keys in
    let key = c.take_from.new.self in
    let new = words_new sys steps d keys key c.args.self.now.words.items c.args.word.now c.in_ok-insert.field-0 c.in_ok-insert.ensures.added c.if-branch.true h (machine_of c.args.state.now, due, c.in_ok-take_from.ensures) in
    subst (λ ks. AreWords sys steps d ks c.extend_from_slice.new.self.items) (sym c.in_ok-insert.ensures.keys) (subst (AreWords sys steps d (insert_key same_key keys key)) (sym c.in_ok-extend_from_slice.ensures.items) new))

pub returns-else-branch-clause-words : goal.returns-else-branch-clause-words
returns-else-branch-clause-words c = λ sys steps d h due.
    (let keys = c.args.self.now.known.keys in
    let words = c.args.self.now.words.items in
    subst (λ ks. AreWords sys steps d ks words) (sym c.in_ok-insert.ensures.keys) (words_known sys steps d keys c.take_from.new.self words c.in_ok-insert.field-0 c.in_ok-insert.ensures.added c.if-branch.false h))
