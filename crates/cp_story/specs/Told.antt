-- The plain trace of what a story tells.
use Rattle.std.specs.Prelude.{List, map}
use Rattle.cp_run.specs.declared.line.TraceLine.{TraceLine}
use Rattle.cp_story.specs.declared.event.StoryEvent.{StoryEvent}

-- the line that a trace has for each event
abbrev pub lines_of : List StoryEvent → List TraceLine
lines_of events = map (λ (e : StoryEvent). e.plain) events
