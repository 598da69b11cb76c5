use Rattle.cp_resolved.proofs.Words.{◌∙◌, ap, plain}
use Rattle.cp_tree.specs.TreeView.{tree_view}
use Rattle.cp_slots.specs.Tables.{tables_of}
use Rattle.cp_resolved.proofs.Resolving.{read_sound, read_program}
use Rattle.cp_resolved.proofs.resolver.program_of.Goals as goal

pub new-requires : goal.new-requires
new-requires c = (let checked = c.args._checked.now in read_sound (tree_view checked.tree) (tables_of c.args.layout) checked.tree.read checked.accepted c.requires)

pub returns : goal.returns
returns c = (let checked = c.args._checked.now in read_program (tree_view checked.tree) c.new.result checked.tree.read checked.accepted (ap plain c.new.ensures ∙ c.requires))
