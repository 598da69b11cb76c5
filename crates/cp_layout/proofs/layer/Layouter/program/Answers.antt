use Rattle.std.proofs.Common.{sym, subst}
use Rattle.cp_tree.specs.View.{program_view}
use Rattle.cp_layout.specs.Layers.{Leads, layer_seen}
use Rattle.cp_layout.proofs.LaidParts.{program_laid}
use Rattle.cp_layout.proofs.layer.Layouter.program.Goals as goal

pub returns : goal.returns
returns c =
    let same = program_laid (layer_seen c.args.self.now) (layer_seen c.program_parts.new.self) (layer_seen c.routines.new.self) (program_view c.args.node.now) (rw c.deref.ensures.value at c.in_ok-program_parts.ensures) (rw c.deref-2.ensures.value at c.in_ok-routines.ensures) in
    subst (λ l. Leads l (layer_seen c.initial_statement.new.self) c.initial_statement.result) (sym same) (rw c.new.ensures.items at c.initial_statement.ensures)
