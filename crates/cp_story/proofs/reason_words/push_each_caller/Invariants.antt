use Rattle.std.proofs.Common.{◌≡◌, ◌++◌, drop, string_bytes}
use Rattle.cp_legend.specs.Names.{legend_seen}
use Rattle.cp_run.specs.Table.{each}
use Rattle.cp_story.specs.ReasonText.{caller_text}
use Rattle.cp_story.proofs.reason_words.push_each_caller.Given as goal

-- what is written, with what is left, is all
abbrev pub invariant-loop-caller : goal.invariant-loop-caller
invariant-loop-caller l = string_bytes l.initial.text ++ each (caller_text (legend_seen l.legend)) l.callers ≡ string_bytes l.text ++ each (caller_text (legend_seen l.legend)) (drop l.caller-index l.callers)
