use Rattle.std.proofs.Common.{◌≡◌, ◌++◌, drop, map, string_bytes}
use Rattle.cp_legend.specs.Names.{legend_seen}
use Rattle.cp_story.specs.Reasons.{reason_seen}
use Rattle.cp_story.specs.Text.{reasons_text}
use Rattle.cp_story.proofs.texts.push_reasons.Given as goal

-- what is written, with what is left, is all
abbrev pub invariant-loop-reason : goal.invariant-loop-reason
invariant-loop-reason l = string_bytes l.initial.text ++ reasons_text (legend_seen l.legend) (map reason_seen l.reasons) ≡ string_bytes l.text ++ reasons_text (legend_seen l.legend) (map reason_seen (drop l.reason-index l.reasons))
