use Rattle.std.proofs.Common.{sym, subst}
use Rattle.std.proofs.lemmas.Result.{IfErr-weaker, IfOk-weaker}
use Rattle.cp_tree.specs.TreeView.{tree_view}
use Rattle.cp_front.proofs.Loads.{loads_again}
use Rattle.cp_front.specs.Loading.{IsRefusalOf}
use Rattle.cp_front.specs.declared.refusal.Refusal.{Refusal}
use Rattle.cp_front.proofs.loading.load.Goals as goal

pub returns-in-Ok-clause-loaded : goal.returns-in-Ok-clause-loaded
returns-in-Ok-clause-loaded c =
    IfOk-weaker c.resolve_checked.result _ _ (λ l h. loads_again c.args.source.now c.in-Ok.tokens l.tokens (tree_view c.in-Ok.checked.tree) (tree_view l.checked.tree) c.in-Ok.ensures.loaded h.0 h.1) c.resolve_checked.ensures.loaded

pub returns-in-Ok-clause-refused : goal.returns-in-Ok-clause-refused
returns-in-Ok-clause-refused c =
    IfErr-weaker c.resolve_checked.result _ _ (λ r e. subst (λ (x : Refusal). IsRefusalOf c.args.source.now x) (sym e) tt) c.resolve_checked.ensures.refused
