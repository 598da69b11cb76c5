-- The syntax of a tree, with its lines.
use Rattle.cp_tree.specs.declared.tree.Tree as tree_tree
use Rattle.cp_tree.specs.Syntax.{Tree}
use Rattle.cp_tree.specs.View.{program_view}

abbrev pub tree_view : tree_tree.Tree → Tree
tree_view t = record { program = program_view t.program; lines = t.lines.items }
