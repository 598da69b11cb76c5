use Rattle.std.proofs.Common.{◌∙◌, ap}
use Rattle.cp_store.specs.Values as spec
use Rattle.cp_store.proofs.Widths.{product_said}
use Rattle.cp_store.proofs.arithmetic.product.Goals as goal

pub returns : goal.returns
returns c = c.narrow.ensures ∙ ap spec.narrow (product_said c.args.left c.args.right c.ranges.left c.ranges.right)
