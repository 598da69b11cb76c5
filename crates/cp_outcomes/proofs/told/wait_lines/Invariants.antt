use Rattle.std.proofs.Common.{◌≡◌, map, string_bytes, take}
use Rattle.cp_legend.specs.Names.{legend_seen}
use Rattle.cp_story.specs.Sentences.{wait_text}
use Rattle.cp_story.specs.Views.{wait_of}
use Rattle.cp_outcomes.proofs.told.wait_lines.Given as goal

abbrev pub invariant-loop-wait : goal.invariant-loop-wait
invariant-loop-wait l = map string_bytes l.lines.items ≡ map (λ w. wait_text (legend_seen l.legend) (wait_of w)) (take l.wait-index l.waits)
