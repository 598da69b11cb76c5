use Rattle.std.proofs.Common.{inl, inr, subst, sym}
use Rattle.std.proofs.lemmas.Result.{IfOk-weaker}
use Rattle.cp_tree.specs.TreeView.{tree_view}
use Rattle.cp_slots.specs.Tables.{Tables}
use Rattle.cp_resolved.specs.Resolving.{IsProgramOf}
use Rattle.cp_front.proofs.Loads.{read_by}
use Rattle.cp_tool.proofs.answering.answer_to.Goals as goal

pub returns-in-Ok : goal.returns-in-Ok
returns-in-Ok g c =
    let l = c.in-Ok.loaded in
    let t = tree_view l.checked.tree in
    let program = c.into_program-program.result in
    let loads = c.in-Ok.ensures.loaded in
    let is : IsProgramOf t program = subst (λ (r : Tables). IsProgramOf t r) (sym c.into_program-program.ensures) c.in-Ok.ensures.stands in
    IfOk-weaker c.answer_program-answer.result _ _ (λ a h. inl (l.tokens, t, loads, h t (read_by c.args.source.now l.tokens t loads) loads.accepted is)) c.answer_program-answer.ensures

pub returns-in-Err : goal.returns-in-Err
returns-in-Err g c = IfOk-weaker c.answer_refusal.result _ _ (λ a h. inr (h.0, (c.in-Err.refusal, c.in-Err.ensures.refused, h.1))) c.answer_refusal.ensures
