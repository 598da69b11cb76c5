use Rattle.std.proofs.Common.{◌∙◌, sym}
use Rattle.cp_simplest.proofs.Keeping.{own_at}
use Rattle.cp_simplest.proofs.states.States.thaw_at.Goals as goal

pub thaw-requires-clause-key : goal.thaw-requires-clause-key
thaw-requires-clause-key c =
    let r = c.requires.0 in
    let key = own_at r c.args.self.now.keys.keys c.args.number _ (sym c.in-Some.ensures.key) c.requires.2 in
    (r, key.0, c.requires.1, key.1, c.as_slice.ensures.value ∙ key.2)

pub returns : goal.returns
returns c = λ r own owns.
    (let key = own_at r c.args.self.now.keys.keys c.args.number _ (sym c.in-Some.ensures.key) owns in
    c.thaw.ensures.own r key.0 own key.1 (c.as_slice.ensures.value ∙ key.2))
