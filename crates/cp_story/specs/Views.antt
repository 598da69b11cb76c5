-- What is seen of a story's values.
use Rattle.std.specs.Prelude.{List, map, option_map}
use Rattle.std.specs.String.{string_bytes}
use Rattle.std.specs.declared.alloc.Global.{Global}
use Rattle.std.specs.declared.vec.Vec.{Vec}
use Rattle.cp_legend.specs.Names.{legend_seen}
use Rattle.cp_legend.specs.Values.{value_seen}
use Rattle.cp_story.specs.Changes.{Changed}
use Rattle.cp_story.specs.Passed.{Given, given}
use Rattle.cp_story.specs.declared.event.Change.{Change}
use Rattle.cp_story.specs.declared.event.Choice.{Choice}
use Rattle.cp_story.specs.declared.event.Happening.{Happening}
use Rattle.cp_story.specs.declared.event.Happening.TheVariants as happening
use Rattle.cp_story.specs.declared.event.OpenCall.{OpenCall}
use Rattle.cp_story.specs.declared.event.Queue.{Queue}
use Rattle.cp_story.specs.declared.event.Returned.{Returned}
use Rattle.cp_story.specs.declared.event.StoryEvent.{StoryEvent}
use Rattle.cp_story.specs.declared.observer.Observer.{Observer}
use Rattle.cp_story.specs.declared.story.Wait.{Wait}
use Rattle.cp_story.specs.Waiting.{Waiting}
use Rattle.cp_story.specs.Story.{Decision, NamedQueue, Happened, Enters, Leaves, Delays, Continues, Starts, Displays, Ends, IsAdmitted, Told, Past, Telling}

abbrev pub decision_of : Choice → Decision
decision_of c = record { options = c.options.items; number = c.number; at_gate = c.at_gate }

abbrev pub queue_seen : Queue → NamedQueue
queue_seen q = record { monitor = q.monitor; name = string_bytes q.name }

abbrev pub happened_of : Happening → Happened
happened_of (happening.Enter call arguments waits) = Enters call (map value_seen arguments.items) waits
happened_of (happening.Leave call) = Leaves call
happened_of (happening.Delay queue call) = Delays (queue_seen queue) call
happened_of (happening.Continue queue call by) = Continues (queue_seen queue) call by
happened_of (happening.Start process) = Starts process
happened_of (happening.Display value) = Displays value
happened_of happening.End = Ends
happened_of (happening.Admit call) = IsAdmitted call

abbrev pub given_of : Returned → Given
given_of r = given (string_bytes r.name) (value_seen r.value)

abbrev pub changed_of : Change → Changed
changed_of c = record { monitor = c.monitor; name = string_bytes c.name; value = value_seen c.value }

abbrev pub told_of : StoryEvent → Told
told_of e =
    record {
      process = e.plain.process;
      happened = happened_of e.happening;
      line = e.line;
      returned = map given_of e.returned.items;
      choice = option_map decision_of e.choice;
      woken = e.woken.items;
      let_in = e.let_in.items;
      statuses = e.statuses.items;
      holders = e.plain.holders;
      changes = map changed_of e.changes.items;
    }

abbrev pub items_of : Vec OpenCall Global → List OpenCall
items_of calls = calls.items

abbrev pub past_of : Observer → Past
past_of o = record { choice = option_map decision_of o.choice; calls = map items_of o.calls.items; statuses = o.statuses.items; returned = map given_of o.returned.items; last = o.last; cells = o.permanents.items; legend = legend_seen o.legend.now }

abbrev pub telling_of : Observer → List StoryEvent → Telling
telling_of o events = record { events = map told_of events; past = past_of o }

abbrev pub wait_of : Wait → Waiting
wait_of w = record { process = w.process; status = w.status; call = w.call; inside = w.inside.items }
