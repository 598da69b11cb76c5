use Rattle.std.proofs.Common.{map, string_bytes, subst}
use Rattle.cp_legend.specs.Names.{legend_seen}
use Rattle.cpx_show.specs.Schedules.{IsStoryText}
use Rattle.cpx_show.specs.Selecting.{IsAskedFor}
use Rattle.cpx_show.proofs.Tracing.{schedule_traced, without_traced}
use Rattle.cpx_show.proofs.schedules.one_schedule.Goals as goal

pub returns-in-Schedule : goal.returns-in-Schedule
returns-in-Schedule g c =
    let asked = c.args.inquiry.asked.now in
    let r = c.args.inquiry.loaded.now.program in
    schedule_traced c.args.form (IsStoryText c.args.form asked.options r (legend_seen c.args.inquiry.legend.now) (map string_bytes c.args.inquiry.lines.now)) asked r c.in-Schedule.schedule c.schedule_part.result c.schedule_part.ensures.told c.schedule_part.ensures.drawn (subst (IsAskedFor asked r) c.in-Schedule.is c.in_ok-selection.ensures)

pub returns-in-Without : goal.returns-in-Without
returns-in-Without g c =
    let asked = c.args.inquiry.asked.now in
    let r = c.args.inquiry.loaded.now.program in
    without_traced c.args.form (IsStoryText c.args.form asked.options r (legend_seen c.args.inquiry.legend.now) (map string_bytes c.args.inquiry.lines.now)) asked r c.in-Without.answer (subst (IsAskedFor asked r) c.in-Without.is c.in_ok-selection.ensures)
