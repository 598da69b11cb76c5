use Rattle.std.proofs.Common.{◌≡◌, ◌++◌, drop, map, string_bytes}
use Rattle.cp_legend.specs.Names.{legend_seen}
use Rattle.cp_story.specs.ReasonText.{reason_text}
use Rattle.cp_story.specs.Reasons.{reason_seen}
use Rattle.cp_outcomes.proofs.told.push_reason_lines.Given as goal

-- what is gathered, with what is left, is all
abbrev pub invariant-loop-reason : goal.invariant-loop-reason
invariant-loop-reason l = map string_bytes l.initial.lines.items ++ map (reason_text (legend_seen l.legend)) (map reason_seen l.reasons) ≡ map string_bytes l.lines.items ++ map (reason_text (legend_seen l.legend)) (map reason_seen (drop l.reason-index l.reasons))
