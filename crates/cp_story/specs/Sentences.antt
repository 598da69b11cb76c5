-- What happened in a run, in words.
use Rattle.std.specs.Prelude.{ℕ, ◌+◌, ◌-◌, ◌==◌, ◌&&◌, not, nat_le, Bool, true, false, if◌then◌else◌, List, [], ◌∷◌, ◌++◌, map, length, Option, Some, None, slice_get, unwrap_or, codes, decimal}
use Rattle.std.specs.Fmt.{signed_decimal}
use Rattle.std.specs.String.{string_bytes}
use Rattle.cp_legend.specs.Names.{Legend, monitor_in, name_of_routine, path_in, process_in}
use Rattle.cp_legend.specs.Places as places
use Rattle.cp_legend.specs.Values.{Value, value_seen}
use Rattle.cp_legend.specs.Written.{value_text}
use Rattle.cp_machine.specs.declared.discipline.Signals.{Signals}
use Rattle.cp_machine.specs.declared.discipline.Signals.TheVariants.{Return, Continue, Wait}
use Rattle.cp_machine.specs.declared.process.Status.{Status}
use Rattle.cp_machine.specs.declared.process.Status.TheVariants as status
use Rattle.cp_machine.specs.declared.shown.Shown.{Shown}
use Rattle.cp_machine.specs.declared.shown.Shown.TheVariants as shown
use Rattle.cp_run.specs.Table.{each}
use Rattle.cp_story.specs.Joined.{joined}
use Rattle.cp_story.specs.Story.{Decision}
use Rattle.cp_story.specs.Waiting.{Waiting}
use Rattle.cp_story.specs.declared.event.Happening.{Happening}
use Rattle.cp_story.specs.declared.event.Happening.TheVariants as happening
use Rattle.cp_story.specs.declared.event.OpenCall.{OpenCall}
use Rattle.cp_story.specs.declared.event.Queue.{Queue}
use Rattle.cp_story.specs.declared.event.Returned.{Returned}
use Rattle.cp_story.specs.declared.event.StoryEvent.{StoryEvent}

-- ---- names

abbrev pub monitor_text : Legend → ℕ → List ℕ
monitor_text l monitor = path_in (monitor_in l.components monitor)

-- a process by its number and its name
abbrev pub process_text : Legend → ℕ → List ℕ
process_text l process = decimal process ++ codes " " ++ path_in (process_in l.components process)

abbrev pub between_text : Legend → (before after : List ℕ) → ℕ → List ℕ
between_text l before after process = before ++ process_text l process ++ after

-- a queue, after the monitor that it is in
abbrev pub queue_text : Legend → Queue → List ℕ
queue_text l q = monitor_text l q.monitor ++ codes "." ++ string_bytes q.name

-- in parentheses, if there are any
abbrev pub arguments_text : List Value → List ℕ
arguments_text vs = if length vs == 0 then [] else joined (codes "(") (codes ", ") value_text vs ++ codes ")"

-- a call: the monitor, the routine, and the arguments
abbrev pub call_text : Legend → OpenCall → List Value → List ℕ
call_text l c vs = monitor_text l c.monitor ++ codes "." ++ name_of_routine (slice_get l.routines c.routine) ++ arguments_text vs

-- ---- displayed values

-- a printed character between apostrophes, any other by its code
abbrev pub char_text : ℕ → List ℕ
char_text c = if nat_le 33 c && (nat_le c 126 && not (c == 39)) then codes "'" ++ c ∷ [] ++ codes "'" else codes "'(:" ++ decimal c ++ codes ":)'"

abbrev pub constant_text : Option (List ℕ) → List ℕ
constant_text None = []
constant_text (Some name) = name

abbrev pub shown_text : Legend → Shown → List ℕ
shown_text l (shown.Integer z) = signed_decimal z
shown_text l (shown.Char c) = char_text c
shown_text l (shown.Truth b) = if b then codes "true" else codes "false"
shown_text l (shown.Constant n) = constant_text (slice_get l.constants n)

-- ---- events

abbrev pub entering_text : (waits : Bool) → List ℕ
entering_text waits = if waits then codes "waits at the gate for " else codes "enters "

abbrev pub happening_text : Legend → Happening → List ℕ
happening_text l (happening.Enter call arguments waits) = entering_text waits ++ call_text l call (map value_seen arguments.items)
happening_text l (happening.Leave call) = codes "leaves " ++ monitor_text l call.monitor
happening_text l (happening.Delay queue call) = codes "waits in " ++ queue_text l queue
happening_text l (happening.Continue queue call by) = codes "continues " ++ queue_text l queue
happening_text l (happening.Start process) = codes "starts " ++ process_text l process
happening_text l (happening.Display value) = codes "displays " ++ shown_text l value
happening_text l happening.End = codes "ends"
happening_text l (happening.Admit call) = codes "is let in to " ++ call_text l call []

abbrev pub is_continue : Happening → Bool
is_continue (happening.Continue queue call by) = true
is_continue _ = false

-- who goes on after what happened
abbrev pub signals_by : Happening → Signals
signals_by (happening.Continue queue call by) = by
signals_by _ = Return

abbrev pub nobody_words : Signals → List ℕ
nobody_words Return = codes ", where nobody waits"
nobody_words _ = codes ", nobody waits"

-- before and after who waited: it goes on, or is at the gate; or it goes on, and the caller is at the gate
abbrev pub words_before : Signals → List ℕ
words_before Continue = codes ", "
words_before _ = codes ", wakes "

abbrev pub words_after : Signals → List ℕ
words_after Return = []
words_after Continue = codes " goes to the gate"
words_after Wait = codes ", waits at the gate itself"

abbrev pub nobody_text : Happening → (woken : List ℕ) → List ℕ
nobody_text h woken = if is_continue h && length woken == 0 then nobody_words (signals_by h) else []

abbrev pub named_text : List ℕ → List ℕ
named_text name = if length name == 0 then [] else name ++ codes " "

-- what came back to a place, or as a function's result, which has no name
abbrev pub returned_text : Returned → List ℕ
returned_text r = codes ", " ++ named_text (string_bytes r.name) ++ codes "= " ++ value_text (value_seen r.value)

abbrev pub woken_text : Legend → Signals → List ℕ → List ℕ
woken_text l by woken = each (between_text l (words_before by) (words_after by)) woken

abbrev pub let_in_text : Legend → List ℕ → List ℕ
let_in_text l let_in = each (between_text l (codes ", lets ") (codes " in")) let_in

-- What an event was, what came back from the call that ended with it, and who goes on by it.
abbrev pub event_text : Legend → StoryEvent → List ℕ
event_text l e = happening_text l e.happening ++ nobody_text e.happening e.woken.items ++ each returned_text e.returned.items ++ woken_text l (signals_by e.happening) e.woken.items ++ let_in_text l e.let_in.items

-- ---- processes that wait

abbrev pub cell_queue_text : Legend → (cell : ℕ) → List ℕ
cell_queue_text l cell = monitor_text l (unwrap_or (places.monitor_in (places.owner l.components cell)) 0) ++ codes "." ++ places.permanent_name_in l.constants l.shapes l.permanents (places.owner l.components cell) cell 1

abbrev pub gate_text : Legend → Option OpenCall → List ℕ
gate_text l None = []
gate_text l (Some call) = codes " for " ++ call_text l call []

abbrev pub place_text : Legend → Status → Option OpenCall → List ℕ
place_text l (status.Delayed cell) call = codes " waits in " ++ cell_queue_text l cell
place_text l _ call = codes " waits at the gate" ++ gate_text l call

-- where it waits, and the monitors that it is inside
abbrev pub wait_text : Legend → Waiting → List ℕ
wait_text l w = process_text l w.process ++ place_text l w.status w.call ++ joined (codes ", inside ") (codes " and ") (monitor_text l) w.inside

-- ---- numbers of a schedule

abbrev pub sign_before : (place last : ℕ) → List ℕ
sign_before place last = if place == 0 then [] else if place == last then codes " or " else codes ", "

-- numbers as alternatives, from a place on
abbrev pub alternatives_from : (place last : ℕ) → List ℕ → List ℕ
alternatives_from place last [] = []
alternatives_from place last (n ∷ ns) = sign_before place last ++ decimal n ++ alternatives_from (place + 1) last ns

abbrev pub alternatives_text : List ℕ → List ℕ
alternatives_text ns = alternatives_from 0 (length ns - 1) ns

abbrev pub refusal_text : (at_gate : Bool) → List ℕ
refusal_text at_gate = if at_gate then codes " can't be let in here: " else codes " can't go on here: "

-- who can't be chosen, and who can
abbrev pub refused_text : Decision → List ℕ
refused_text d = decimal d.number ++ refusal_text d.at_gate ++ alternatives_text d.options

-- that so many last numbers are not used, if there are some
abbrev pub unused_text : ℕ → Option (List ℕ)
unused_text left = if left == 0 then None else Some (if left == 1 then codes "the last number is not used: the run has ended before it" else codes "the last " ++ decimal left ++ codes " numbers are not used: the run has ended before them")
