use Rattle.std.proofs.Common.{◌≡◌, ap, refl, sym, subst}
use Rattle.cp_tree.specs.TreeView.{tree_view}
use Rattle.cp_tree.specs.declared.tree.Tree as tree
use Rattle.cp_scope.specs.Judged.{RefusesList}
use Rattle.cp_check.specs.Faults.{faults_of}
use Rattle.cp_front.proofs.Loads.{loads_by}
use Rattle.cp_front.specs.Loading.{IsTreeOf}
use Rattle.cp_front.proofs.loading.check_tree.Goals as goal

pub returns-in-Ok-clause-loaded : goal.returns-in-Ok-clause-loaded
returns-in-Ok-clause-loaded c = λ source text.
    loads_by source c.args.tokens c.args.tokens (tree_view c.args.tree) (tree_view c.in-Ok.checked.tree) text c.requires c.in-Ok.ensures.accepted refl (ap tree_view c.in-Ok.ensures.same)

pub returns-in-Err-clause-refused : goal.returns-in-Err-clause-refused
returns-in-Err-clause-refused c = λ source text.
    (let back : c.in-Err.tree ≡ c.args.tree = c.in-Err.ensures.back in
    let is_tree = subst (λ (x : tree.Tree). IsTreeOf c.args.tokens (tree_view x)) (sym back) c.requires in
    let first = subst (λ (x : tree.Tree). RefusesList c.in-Err.fault (faults_of (tree_view x))) (sym back) c.in-Err.ensures.refused in
    (text, is_tree, first))
