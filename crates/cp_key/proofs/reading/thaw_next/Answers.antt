use Rattle.cp_key.proofs.Words.{◌∙◌, ◌++◌, ap, refl, sym, body_of, inside}
use Rattle.cp_key.proofs.Keys.{body_tells}
use Rattle.cp_key.proofs.reading.thaw_next.Goals as goal

pub returns-else-not-thaw_known-clause-same : goal.returns-else-not-thaw_known-clause-same
returns-else-not-thaw_known-clause-same c = λ t more e room.
    (let known = c.if-not-thaw_known.ensures.known in
    let left = c.thaw_known.new.key.bytes.now in
    body_tells (inside c.args.process.now) (body_of t) left more (sym (ap (λ ns. ns ++ left) (c.requires (known refl).0)) ∙ sym (known refl).1 ∙ e))
