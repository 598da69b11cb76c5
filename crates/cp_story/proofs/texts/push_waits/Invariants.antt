use Rattle.std.proofs.Common.{◌≡◌, ◌++◌, drop, map, string_bytes}
use Rattle.cp_legend.specs.Names.{legend_seen}
use Rattle.cp_story.specs.Text.{waits_text}
use Rattle.cp_story.specs.Views.{wait_of}
use Rattle.cp_story.proofs.texts.push_waits.Given as goal

-- what is written, with what is left, is all
abbrev pub invariant-loop-wait : goal.invariant-loop-wait
invariant-loop-wait l = string_bytes l.initial.text ++ waits_text (legend_seen l.legend) (map wait_of l.waits) ≡ string_bytes l.text ++ waits_text (legend_seen l.legend) (map wait_of (drop l.wait-index l.waits))
