use Rattle.std.proofs.Common.{◌≡◌, ◌++◌, drop, string_bytes}
use Rattle.cp_legend.specs.Names.{legend_seen}
use Rattle.cp_run.specs.Table.{each}
use Rattle.cp_story.specs.Sentences.{between_text}
use Rattle.cp_story.proofs.words.push_processes.Given as goal

-- what is written, with what is left, is all
abbrev pub invariant-loop-process : goal.invariant-loop-process
invariant-loop-process l = string_bytes l.initial.text ++ each (between_text (legend_seen l.legend) l.before l.after) l.processes ≡ string_bytes l.text ++ each (between_text (legend_seen l.legend) l.before l.after) (drop l.process-index l.processes)
