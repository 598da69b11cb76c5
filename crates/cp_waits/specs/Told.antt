-- The lines that say who may wait for ever.
use Rattle.std.specs.Prelude.{ℕ, List, ◌++◌, codes, decimal, length}
use Rattle.cp_run.specs.Table.{each}
use Rattle.cp_walk.specs.Text.{word_text}
use Rattle.cp_ends.specs.Told.{count_line}
use Rattle.cp_waits.specs.declared.waiting.How.{How}
use Rattle.cp_waits.specs.declared.waiting.How.TheVariants.{Throughout, ForGood, InItsCall}
use Rattle.cp_waits.specs.declared.waiting.Waiting.{Waiting}
use Rattle.cp_waits.specs.declared.waiting.Waits.{Waits}
use Rattle.cp_waits.specs.declared.waiting.Waits.TheVariants.{Known, NotSettled}

abbrev pub how_text : How → List ℕ
how_text Throughout = codes "\n"
how_text ForGood = codes " for good\n"
how_text InItsCall = codes " in its call\n"

-- a process with the word that leads to a round, and the word of the round
abbrev pub line_text : Waiting → List ℕ
line_text w = codes "process " ++ decimal w.process ++ codes " first " ++ word_text w.first.items ++ codes " again " ++ word_text w.again.items ++ how_text w.how

-- how many there are, and a line for each
abbrev pub lines_text : List Waiting → List ℕ
lines_text ws = count_line (codes "waits ") (length ws) ++ each line_text ws

abbrev pub waits_text : Waits → List ℕ
waits_text (Known ws) = lines_text ws.items
waits_text (NotSettled process) = codes "waits not settled process " ++ decimal process ++ codes "\n"
