use Rattle.std.proofs.Common.{◌<◌, arith, length, string_bytes}
use Rattle.cp_walk.specs.TraceText.{holder_text}
use Rattle.cp_walk.proofs.Joining.{behind_more}
use Rattle.cp_walk.proofs.trace_reports.push_holders.Goals as goal

pub loop-holder-preserved : goal.loop-holder-preserved
loop-holder-preserved c =
    let lt : c.loop-holder.holder-index < length c.args.holders.now = omega arith in
    behind_more 32 c.loop-holder.holder-index holder_text c.args.holders.now _ (string_bytes c.args.text.now) (string_bytes c.loop-holder.text) (string_bytes c.push_str.new.self) (string_bytes c.push_holder.new.text) lt c.loop-holder.invariant c.in_ok-push_str.ensures.bytes c.in_ok-push_holder.ensures
