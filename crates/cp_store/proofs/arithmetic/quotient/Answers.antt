use Rattle.std.proofs.Common.{◌≡◌, ◌∙◌, ap, false, pos}
use Rattle.std.specs.Ordering.{int_eq}
use Rattle.cp_store.specs.Values as spec
use Rattle.cp_store.proofs.Widths.{quotient_said, not_zero}
use Rattle.cp_store.proofs.arithmetic.quotient.Goals as goal

pub returns-else-right-eq0 : goal.returns-else-right-eq0
returns-else-right-eq0 c =
    let divided = c.narrow.ensures ∙ ap spec.narrow (quotient_said c.args.left c.args.right c.ranges.left c.ranges.right) in
    let test : int_eq c.args.right (pos 0) ≡ false = not_zero c.args.right c.if-right-eq0.false in
    rw test divided
