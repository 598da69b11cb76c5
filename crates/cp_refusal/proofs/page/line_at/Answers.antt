use Rattle.std.proofs.Common.{◌∙◌, ap}
use Rattle.std.specs.Str.Lines.{strip_carriage_return}
use Rattle.cp_refusal.proofs.Parts.{cut_before_feed}
use Rattle.cp_refusal.proofs.page.line_at.Goals as goal

pub returns : goal.returns
returns c = c.without_return.ensures ∙ ap strip_carriage_return (cut_before_feed c.args.source.now c.args.start c.min.result c.line_len.result c.min-2.result c.min.ensures c.line_len.ensures c.min-2.ensures)
