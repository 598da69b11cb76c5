-- The text of a trace.
use Rattle.std.specs.Prelude.{ℕ, List, ◌++◌, Option, Some, None, take, decimal, codes}
use Rattle.cp_machine.specs.declared.event.Kernel.TheVariants.{Enter, Leave, Delay, Continue, StartProcess, Display}
use Rattle.cp_run.specs.declared.line.TraceEvent.{TraceEvent}
use Rattle.cp_run.specs.declared.line.TraceEvent.TheVariants.{Kernel, End, Admit}
use Rattle.cp_run.specs.declared.line.TraceLine.{TraceLine}
use Rattle.cp_run.specs.Run.{Answer, Ended, Wants, NotReady}
use Rattle.cp_run.specs.Table.{each}
use Rattle.cp_walk.specs.Text.{Spellings, behind_each, word_text, outcome_text}

abbrev pub event_text : TraceEvent → List ℕ
event_text (Kernel Enter) = codes "enter"
event_text (Kernel Leave) = codes "leave"
event_text (Kernel Delay) = codes "delay"
event_text (Kernel Continue) = codes "continue"
event_text (Kernel StartProcess) = codes "init"
event_text (Kernel Display) = codes "display"
event_text End = codes "end"
event_text Admit = codes "admit"

abbrev pub holder_text : Option ℕ → List ℕ
holder_text None = codes "free"
holder_text (Some p) = decimal p

abbrev pub trace_line_text : TraceLine → List ℕ
trace_line_text l = codes "process " ++ decimal l.process ++ codes " " ++ event_text l.event ++ codes " holders" ++ behind_each 32 holder_text l.holders ++ codes "\n"

-- the last line of a trace of a word
abbrev pub end_text : Spellings → List ℕ → Answer → List ℕ
end_text names word (Ended outcome used) = codes "ended " ++ word_text (take used word) ++ codes " " ++ outcome_text names outcome ++ codes "\n"
end_text names word (Wants ready) = codes "wants" ++ behind_each 32 decimal ready ++ codes "\n"
end_text names word (NotReady place) = codes "not-ready " ++ decimal place ++ codes "\n"

abbrev pub trace_text : Spellings → List TraceLine → Answer → List ℕ → List ℕ
trace_text names lines end word = each trace_line_text lines ++ end_text names word end
