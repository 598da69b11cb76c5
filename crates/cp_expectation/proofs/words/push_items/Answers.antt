use Rattle.std.proofs.Common.{◌∙◌, sym, string_bytes, arith}
use Rattle.cp_expectation.proofs.Written.{items_whole}
use Rattle.cp_expectation.proofs.words.push_items.Goals as goal

pub returns : goal.returns
returns c = items_whole c.loop-item.item-index c.args.items.now (string_bytes c.args.text.now) (string_bytes c.loop-item.text) (sym c.is_empty.ensures ∙ c.if-is_empty.false) (omega arith) c.loop-item.invariant
