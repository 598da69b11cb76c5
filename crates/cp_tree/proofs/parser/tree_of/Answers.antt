use Rattle.cp_tree.specs.View.{program_view}
use Rattle.cp_tree.proofs.Laws.{read_of}
use Rattle.cp_tree.proofs.parser.tree_of.Goals as goal

pub invariant_of-result : goal.invariant_of-result
invariant_of-result c = record { read = ∣ read_of c.args.tokens.now c.lines.ensures.text (program_view c.args.program) c.requires ∣₁ }
