use Rattle.std.proofs.Common.{◌<◌, ◌^◌, not, nat_eq, ap, ◌∙◌, bit_and}
use Rattle.cp_waits.specs.Sets.{has}
use Rattle.cp_waits.proofs.Sets.{tests_bit}
use Rattle.cp_waits.proofs.set.Set.has.Goals as goal

pub returns : goal.returns
returns c =
    let small : c.number.result < 2 ^ 16 = c.number.type_inv in
    ap (λ x. not (nat_eq (bit_and c.number.result x) 0)) c.bit.ensures ∙ (tests_bit c.number.result c.args.pid small ∙ ap (λ x. has (record { bits = x }) c.args.pid) c.number.ensures)
