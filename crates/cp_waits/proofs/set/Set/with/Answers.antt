use Rattle.std.proofs.Common.{◌||◌, nat_eq, ap, ◌∙◌, bit_or}
use Rattle.std.specs.Int.{bit_at}
use Rattle.cp_waits.specs.Sets.{has}
use Rattle.cp_waits.proofs.Sets.{or_has, alone_has}
use Rattle.cp_waits.proofs.set.Set.with.Goals as goal

pub returns : goal.returns
returns c = λ q.
    ap (λ x. nat_eq (bit_at (bit_or c.args.self.bits x) q) 1) c.bit.ensures ∙ (or_has c.args.self.bits _ q ∙ ap (λ b. has c.args.self q || b) (alone_has c.args.pid q))
