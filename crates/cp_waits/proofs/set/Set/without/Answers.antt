use Rattle.std.proofs.Common.{◌&&◌, not, ap, ◌∙◌}
use Rattle.cp_waits.specs.Sets.{has}
use Rattle.cp_waits.proofs.Sets.{alone_has}
use Rattle.cp_waits.proofs.set.Set.without.Goals as goal

pub returns : goal.returns
returns c = λ q. c.but.ensures q ∙ (ap (λ x. has c.args.self q && not (has (record { bits = x }) q)) c.bit.ensures ∙ ap (λ b. has c.args.self q && not b) (alone_has c.args.pid q))
