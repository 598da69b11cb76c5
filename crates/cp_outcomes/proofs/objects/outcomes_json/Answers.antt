use Rattle.std.proofs.Common.{◌∙◌, ap, codes, map}
use Rattle.serde_json.specs.Data.{object}
use Rattle.serde_json.specs.View.{view}
use Rattle.cp_merged.specs.Code.{tally_of}
use Rattle.cp_merged.specs.Told.{rows_in}
use Rattle.cp_story.specs.Objects.{array_of, members_in, with_members}
use Rattle.cp_story.specs.StoryData.{monitors_data, processes_data, signals_members}
use Rattle.cp_outcomes.specs.Data.{count_data, limit_members, numbered_data, outcomes_data}
use Rattle.cp_outcomes.specs.Told.{setting_of, told_of}
use Rattle.cp_outcomes.proofs.Jsons.{four_puts, object_text, outcomes_free}
use Rattle.cp_outcomes.proofs.objects.outcomes_json.Goals as goal

pub returns : goal.returns
returns c =
    let s = setting_of c.args.subject c.args.subject.limits.choices in
    let ts = map tally_of c.args.tallies.now in
    let told = map told_of c.args.told.now in
    let puts = four_puts (members_in c.new-object.result) (members_in c.put.new.self) (members_in c.put-2.new.self) (members_in c.put-3.new.self) (members_in c.put-4.new.self) (codes "processes") (codes "monitors") (codes "schedules") (codes "outcomes") (view c.in_ok-processes.field-0) (view c.in_ok-monitors.field-0) (view c.in_ok-count_value.field-0) (view c.in_ok-told_values.field-0) (processes_data s.legend) (monitors_data s.legend) (count_data (rows_in ts)) (array_of (numbered_data s (rows_in ts) 1 told)) c.new-object.ensures c.in_ok-put.ensures c.in_ok-processes.ensures c.in_ok-put-2.ensures c.in_ok-monitors.ensures c.in_ok-put-3.ensures (c.in_ok-count_value.ensures ∙ ap count_data c.schedules_in-whole.ensures) c.in_ok-put-4.ensures (c.in_ok-told_values.ensures ∙ ap (λ w. array_of (numbered_data s w 1 told)) c.schedules_in-whole.ensures) in
    let limits = c.in_ok-put_limits.ensures ∙ ap (λ ms. with_members ms (limit_members ts)) puts in
    let whole = c.in_ok-put_signals.ensures ∙ ap (λ ms. with_members ms (signals_members s.discipline.signals)) limits in
    object_text c.to_string.result (view c.into_value.result) (outcomes_data s ts told) (c.into_value.ensures ∙ ap object whole) (outcomes_free s ts told) c.to_string.ensures.text
