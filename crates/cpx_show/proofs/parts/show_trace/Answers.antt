use Rattle.std.proofs.Common.{map, string_bytes, subst}
use Rattle.std.proofs.lemmas.Result.{IfOk-weaker}
use Rattle.cp_legend.specs.Names.{legend_seen}
use Rattle.cp_tree.specs.TreeView.{tree_view}
use Rattle.cpx_show.specs.Schedules.{IsStoryText, IsTracedAs, trace_form}
use Rattle.cpx_show.specs.declared.schedules.ScheduleForm.{ScheduleForm}
use Rattle.cpx_show.proofs.Meaning.{traced}
use Rattle.cpx_show.proofs.parts.show_trace.Goals as goal

pub returns : goal.returns
returns g c =
    let l = c.args.inquiry.loaded.now in
    let asked = c.args.inquiry.asked.now in
    let source = map string_bytes c.args.inquiry.lines.now in
    IfOk-weaker c.one_schedule.result _ _
    (λ a h. traced (tree_view l.checked.tree) l.program c.args.inquiry.legend.now asked (trace_form c.args.as_json) source a.verdict (string_bytes a.text) l.checked.tree.read c.requires.accepted c.requires.named
    (subst (λ (f : ScheduleForm). IsTracedAs f (IsStoryText f asked.options l.program (legend_seen c.args.inquiry.legend.now) source) asked l.program a.verdict (string_bytes a.text)) c.trace_form.ensures h))
    c.one_schedule.ensures
