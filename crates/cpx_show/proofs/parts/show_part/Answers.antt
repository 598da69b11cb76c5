use Rattle.std.proofs.Common.{map, string_bytes}
use Rattle.std.proofs.lemmas.Result.{IfOk-weaker}
use Rattle.cp_tree.specs.TreeView.{tree_view}
use Rattle.cpx_show.proofs.Showing.{by_part, mark_shown, nothing_said}
use Rattle.cpx_show.proofs.parts.show_part.Goals as goal

pub returns-in-Trace : goal.returns-in-Trace
returns-in-Trace g c =
    let l = c.args.inquiry.loaded.now in
    by_part c.args.inquiry.asked.now (tree_view l.checked.tree) l.program c.args.inquiry.legend.now c.args.inquiry.source.now (map string_bytes c.args.inquiry.lines.now) _ c.show_trace.result c.in-Trace.is c.show_trace.ensures

pub returns-in-Lanes : goal.returns-in-Lanes
returns-in-Lanes g c =
    let l = c.args.inquiry.loaded.now in
    by_part c.args.inquiry.asked.now (tree_view l.checked.tree) l.program c.args.inquiry.legend.now c.args.inquiry.source.now (map string_bytes c.args.inquiry.lines.now) _ c.one_schedule.result c.in-Lanes.is (IfOk-weaker c.one_schedule.result _ _ (λ a h. h.given) c.one_schedule.ensures)

pub returns-in-Page : goal.returns-in-Page
returns-in-Page g c =
    let l = c.args.inquiry.loaded.now in
    by_part c.args.inquiry.asked.now (tree_view l.checked.tree) l.program c.args.inquiry.legend.now c.args.inquiry.source.now (map string_bytes c.args.inquiry.lines.now) _ c.page_answer.result c.in-Page.is (nothing_said c.page_answer.result)

pub returns-in-Outcomes : goal.returns-in-Outcomes
returns-in-Outcomes g c =
    let l = c.args.inquiry.loaded.now in
    by_part c.args.inquiry.asked.now (tree_view l.checked.tree) l.program c.args.inquiry.legend.now c.args.inquiry.source.now (map string_bytes c.args.inquiry.lines.now) _ c.show_outcomes.result c.in-Outcomes.is c.show_outcomes.ensures

pub returns-in-Ends : goal.returns-in-Ends
returns-in-Ends g c =
    let l = c.args.inquiry.loaded.now in
    by_part c.args.inquiry.asked.now (tree_view l.checked.tree) l.program c.args.inquiry.legend.now c.args.inquiry.source.now (map string_bytes c.args.inquiry.lines.now) _ c.ends_answer.result c.in-Ends.is c.ends_answer.ensures

pub returns-in-Mark : goal.returns-in-Mark
returns-in-Mark g c =
    let l = c.args.inquiry.loaded.now in
    let t = tree_view l.checked.tree in
    let asked = c.args.inquiry.asked.now in
    let legend = c.args.inquiry.legend.now in
    let bytes = c.args.inquiry.source.now in
    let source = map string_bytes c.args.inquiry.lines.now in
    let m = c.in-Mark in
    by_part asked t l.program legend bytes source _ c.show_mark.result m.is
    (mark_shown m.json asked.options t l.program legend c.as_str.result.now (string_bytes m.words) m.own bytes source c.show_mark.result c.as_str.ensures.value (c.show_mark.ensures t l.checked.tree.read c.requires.accepted c.requires.named.stands))

pub returns-in-Refusal : goal.returns-in-Refusal
returns-in-Refusal g c =
    let l = c.args.inquiry.loaded.now in
    by_part c.args.inquiry.asked.now (tree_view l.checked.tree) l.program c.args.inquiry.legend.now c.args.inquiry.source.now (map string_bytes c.args.inquiry.lines.now) _ c.show_accepted.result c.in-Refusal.is c.show_accepted.ensures
