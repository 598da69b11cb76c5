use Rattle.std.proofs.Common.{All, nat_eq, subst, sym}
use lib.Pointwise.{pointwise}
use Rattle.cp_machine.specs.Machine.{machine_of}
use Rattle.cp_key.proofs.Owned.{machine_own}
use Rattle.cp_key.specs.declared.state_key.StateKey.{StateKey}
use Rattle.cp_simplest.specs.Own.{IsOwn}
use Rattle.cp_simplest.proofs.Keeping.{own_more}
use Rattle.cp_simplest.proofs.states.States.number_of.Goals as goal

pub returns : goal.returns
returns c = λ r own owns.
    (let key = c.take_from.new.self in
    let is : IsOwn r key = (machine_of c.args.state.now, machine_own r c.args.state.now own, c.in_ok-take_from.ensures) in
    subst (All (IsOwn r)) (sym c.in_ok-number.ensures.keys) (own_more r (λ (x y : StateKey). pointwise nat_eq x.bytes.items y.bytes.items) c.args.self.now.keys.keys key is owns))
