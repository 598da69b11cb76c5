use Rattle.std.proofs.Common.{◌∙◌, ap, arith}
use Rattle.serde_json.specs.View.{view}
use Rattle.cp_story.specs.Objects.{array_of}
use Rattle.cp_show_mark.specs.EndsData.{said_data}
use Rattle.cp_show_mark.specs.MarkText.{setting_of}
use Rattle.cp_show_mark.proofs.Gathered.{all_gathered, one_gathered, seen_array}
use Rattle.cp_show_mark.proofs.ends_objects.said_objects.Goals as goal

pub loop-said-preserved : goal.loop-said-preserved
loop-said-preserved c =
    one_gathered view (said_data (setting_of c.args.examinee)) c.args.all.now c.loop-said.said-index c.said-item.result c.loop-said.items.items c.push.new.self.items c.in_ok-said_object.field-0 c.loop-said-test.true c.said-item.is c.in_ok-push.ensures.items c.in_ok-said_object.ensures c.loop-said.invariant

pub returns : goal.returns
returns c = seen_array c.loop-said.items ∙ ap array_of (all_gathered view (said_data (setting_of c.args.examinee)) c.args.all.now c.loop-said.said-index c.loop-said.items.items (omega arith) c.loop-said.invariant)
