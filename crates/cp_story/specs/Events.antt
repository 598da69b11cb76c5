-- What an event of a story tells of.
use Rattle.cp_machine.specs.declared.event.Kernel.TheVariants.{Enter, Leave, Delay, Continue, StartProcess, Display}
use Rattle.cp_run.specs.declared.line.TraceEvent.{TraceEvent}
use Rattle.cp_run.specs.declared.line.TraceEvent.TheVariants.{Kernel, End, Admit}
use Rattle.cp_story.specs.declared.event.Happening.{Happening}
use Rattle.cp_story.specs.declared.event.Happening.TheVariants as happening

-- the event of a run that it tells of
abbrev pub event_of : Happening → TraceEvent
event_of (happening.Enter call arguments waits) = Kernel Enter
event_of (happening.Leave call) = Kernel Leave
event_of (happening.Delay queue call) = Kernel Delay
event_of (happening.Continue queue call by) = Kernel Continue
event_of (happening.Start process) = Kernel StartProcess
event_of (happening.Display value) = Kernel Display
event_of happening.End = End
event_of (happening.Admit call) = Admit
