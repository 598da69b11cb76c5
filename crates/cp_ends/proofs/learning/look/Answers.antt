use Rattle.std.proofs.Common.{◌∙◌, refl, sym}
use Rattle.cp_stretches.proofs.Growing.{legs_on}
use Rattle.cp_ends.proofs.Looked.{leg_at}
use Rattle.cp_ends.proofs.learning.look.Goals as goal

pub returns-in_err-key-clause-known : goal.returns-in_err-key-clause-known
returns-in_err-key-clause-known c = λ r discipline h. legs_on r discipline c.args.cache.now _ h (λ are. c.number_key.ensures.known c.args.cache.now.store c.args.cache.now.table r discipline are)

pub returns-in_default-at : goal.returns-in_default-at
returns-in_default-at c = record { there = tt; leg = tt; known = λ r discipline h. legs_on r discipline c.args.cache.now _ h (λ are. c.number_key.ensures.known c.args.cache.now.store c.args.cache.now.table r discipline are); store = refl; table = refl }

pub returns-clause-known : goal.returns-clause-known
returns-clause-known c = λ r discipline h. legs_on r discipline c.args.cache.now _ h (λ are. c.number_key.ensures.known c.args.cache.now.store c.args.cache.now.table r discipline are)

pub returns-clause-leg : goal.returns-clause-leg
returns-clause-leg c = λ r discipline h.
    (let cache = legs_on r discipline c.args.cache.now _ h (λ are. c.number_key.ensures.known c.args.cache.now.store c.args.cache.now.table r discipline are) in
    leg_at r discipline _ c.in_ok-key.key c.args.process c.in-Some-Some.scope c.in-Leg.leg c.args.row.now cache c.in_ok-key.ensures.key (sym c.at.ensures ∙ c.in-Leg.is))
