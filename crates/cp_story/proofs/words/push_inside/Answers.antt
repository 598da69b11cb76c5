use Rattle.std.proofs.Common.{◌≡◌, ◌∙◌, ◌+◌, ◌<◌, ◌++◌, ℕ, List, ap, arith, codes, drop, get_or, length, rules, string_bytes, sym}
use Rattle.cp_legend.specs.Names.{legend_seen}
use Rattle.cp_story.specs.Joined.{joined}
use Rattle.cp_story.specs.Sentences.{monitor_text}
use Rattle.cp_story.proofs.Rows.{numbers_step}
use Rattle.cp_story.proofs.words.push_inside.Goals as goal

pub loop-monitor-preserved : goal.loop-monitor-preserved
loop-monitor-preserved c =
    let f : ℕ → List ℕ = monitor_text (legend_seen c.args.legend.now) in
    let i = c.loop-monitor.monitor-index in
    let ns = c.args.inside.now in
    let now = string_bytes c.loop-monitor.text in
    let before = c.loop-monitor.before.now in
    let rest = joined (codes " and ") (codes " and ") f (drop (i + 1) ns) in
    let lt : i < length ns = omega arith in
    let new : string_bytes c.push_monitor.new.text ≡ (now ++ before) ++ f (get_or ns i 0) = c.in_ok-push_monitor.ensures ∙ ap (λ (t : List ℕ). t ++ f (get_or ns i 0)) c.in_ok-push_str.ensures.bytes in
    record {
      utf8 = search rules;
      written = c.loop-monitor.invariant.written ∙ numbers_step f ns i now before (codes " and ") lt ∙ ap (λ (t : List ℕ). t ++ rest) (sym new);
    }
