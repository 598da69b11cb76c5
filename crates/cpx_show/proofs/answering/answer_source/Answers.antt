use Rattle.std.proofs.Common.{inl, inr}
use Rattle.std.proofs.lemmas.Result.{IfOk-weaker}
use Rattle.cp_tree.specs.TreeView.{tree_view}
use Rattle.cpx_show.proofs.answering.answer_source.Goals as goal

pub returns-in-Ok : goal.returns-in-Ok
returns-in-Ok g c =
    let l = c.in-Ok.loaded in
    IfOk-weaker c.show_loaded-answer.result _ _ (λ a h. inl (l.tokens, tree_view l.checked.tree, c.in-Ok.ensures.loaded, h)) c.show_loaded-answer.ensures

pub returns-in-Err : goal.returns-in-Err
returns-in-Err g c = IfOk-weaker c.show_refusal-answer.result _ _ (λ a e. inr (e.0, (c.in-Err.refusal, c.in-Err.ensures.refused, e.1))) c.show_refusal-answer.ensures
