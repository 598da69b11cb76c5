use Rattle.std.proofs.Common.{◌∙◌, ◌<◌, ap, length, string_bytes, arith}
use Rattle.cp_legend.specs.Names.{legend_seen}
use Rattle.cp_story.specs.Sentences.{wait_text}
use Rattle.cp_story.specs.Views.{wait_of}
use Rattle.cp_outcomes.proofs.Gathering.{gathered_more, gathered_all}
use Rattle.cp_outcomes.proofs.told.wait_lines.Goals as goal

pub loop-wait-preserved : goal.loop-wait-preserved
loop-wait-preserved c =
    let l = legend_seen c.args.legend.now in
    let k = c.loop-wait.wait-index in
    let lt : k < length c.args.waits.now = omega arith in
    gathered_more string_bytes (λ w. wait_text l (wait_of w)) c.args.waits.now c.wait-item.result k c.loop-wait.lines.items c.push.new.self.items c.in_ok-wait_words.field-0 lt c.in_ok-push.ensures.items (c.in_ok-wait_words.ensures ∙ ap (λ w. wait_text l (wait_of w)) c.wait-item.is) c.loop-wait.invariant

pub returns : goal.returns
returns c =
    gathered_all string_bytes (wait_text (legend_seen c.args.legend.now)) wait_of c.args.waits.now c.loop-wait.wait-index c.loop-wait.lines.items (omega arith) c.loop-wait.invariant
