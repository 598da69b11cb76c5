use Rattle.std.proofs.Common.{◌∙◌, sym, ap}
use Rattle.cp_key.specs.Key.{key_of}
use Rattle.cp_layers.proofs.FromLayer.{contains_at}
use Rattle.cp_layers.proofs.layer.Layer.thaw_at.Goals as goal

pub thaw-requires-clause-key : goal.thaw-requires-clause-key
thaw-requires-clause-key c =
    let r = c.requires.0 in
    let x = c.requires.2 _ (contains_at c.args.self.now.known.keys c.args.number _ (sym c.in-Some.ensures.key)) in
    (r, x.0, c.requires.1, x.1, c.as_slice.ensures.value ∙ x.2)

pub returns-clause-own : goal.returns-clause-own
returns-clause-own c = λ r own h.
    (let x = h _ (contains_at c.args.self.now.known.keys c.args.number _ (sym c.in-Some.ensures.key)) in
    c.thaw.ensures.own r x.0 own x.1 (c.as_slice.ensures.value ∙ x.2))

pub returns-clause-key : goal.returns-clause-key
returns-clause-key c = λ e.
    (let x = c.requires.2 _ (contains_at c.args.self.now.known.keys c.args.number _ (sym c.in-Some.ensures.key)) in
    (_, sym c.in-Some.ensures.key, x.2 ∙ sym (ap key_of (c.thaw.ensures.same x.0 (c.as_slice.ensures.value ∙ x.2)))))
