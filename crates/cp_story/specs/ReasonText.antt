-- Why nobody goes on, in words, and as members of an object.
use Rattle.std.specs.Prelude.{ℕ, ◌+◌, ◌-◌, ◌==◌, ◌&&◌, not, if◌then◌else◌, List, [], ◌∷◌, ◌++◌, map, length, Option, Some, None, slice_get, codes, decimal}
use Rattle.serde_json.specs.Data.{Data}
use Rattle.cp_legend.specs.Names.{Legend, name_of_routine}
use Rattle.cp_machine.specs.declared.process.Status.{Status}
use Rattle.cp_machine.specs.declared.process.Status.TheVariants as status
use Rattle.cp_run.specs.Table.{each}
use Rattle.cp_story.specs.Objects.{Member, array_of, number_data, numbers_data, object_with, text_data}
use Rattle.cp_story.specs.Reasons.{Reason}
use Rattle.cp_story.specs.Sentences.{cell_queue_text, monitor_text, process_text}
use Rattle.cp_story.specs.declared.reasons.Caller.{Caller}

-- ---- several of a kind

abbrev pub sign_within : (place last : ℕ) → List ℕ
sign_within place last = if place == 0 then [] else if place == last then codes " and " else codes ", "

-- from a place on
abbrev pub listed_from : (text : ℕ → List ℕ) → (place last : ℕ) → List ℕ → List ℕ
listed_from text place last [] = []
listed_from text place last (n ∷ ns) = sign_within place last ++ text n ++ listed_from text (place + 1) last ns

abbrev pub listed : (text : ℕ → List ℕ) → List ℕ → List ℕ
listed text ns = listed_from text 0 (length ns - 1) ns

-- ---- which routines continue the queue, and when that was in vain

abbrev pub routine_text : Legend → ℕ → List ℕ
routine_text l n = name_of_routine (slice_get l.routines n)

-- what so many routines do
abbrev pub verb_text : (routines : ℕ) → List ℕ
verb_text n = if n == 0 then codes "no entry continues " else if n == 1 then codes " continues " else codes " continue "

abbrev pub continued_text : Legend → (routines : List ℕ) → (queue : ℕ) → List ℕ
continued_text l ns queue = listed (routine_text l) ns ++ verb_text (length ns) ++ cell_queue_text l queue

-- which do, or that none does
abbrev pub surely_text : Legend → Reason → List ℕ
surely_text l r = if length r.entries == 0 && not (length r.perhaps == 0) then [] else continued_text l r.entries r.queue

abbrev pub comma_before : Reason → List ℕ
comma_before r = if length r.entries == 0 then [] else codes ", "

-- which do for an element of its array
abbrev pub elements_text : Legend → Reason → List ℕ
elements_text l r = comma_before r ++ continued_text l r.perhaps r.queue ++ codes " or another element"

abbrev pub perhaps_text : Legend → Reason → List ℕ
perhaps_text l r = if length r.perhaps == 0 then [] else elements_text l r

abbrev pub continuing_text : Legend → Reason → List ℕ
continuing_text l r = surely_text l r ++ perhaps_text l r

abbrev pub signalled_text : (events : List ℕ) → List ℕ
signalled_text events = codes "; signalled in vain at " ++ listed decimal events

abbrev pub in_vain_text : (events : List ℕ) → List ℕ
in_vain_text events = if length events == 0 then [] else signalled_text events

-- ---- who could do so, and waits for whom

abbrev pub holder_text : Legend → Option ℕ → List ℕ
holder_text l None = []
holder_text l (Some process) = codes " for " ++ process_text l process

-- in which queue a process waits, or at which gate for whom
abbrev pub place_text : Legend → Status → (holder : Option ℕ) → List ℕ
place_text l (status.Delayed cell) holder = codes " in " ++ cell_queue_text l cell
place_text l (status.AtGate monitor) holder = codes " at the gate of " ++ monitor_text l monitor ++ holder_text l holder
place_text l _ holder = []

abbrev pub could_text : Legend → Caller → List ℕ
could_text l c = process_text l c.process ++ codes " could do so, and waits" ++ place_text l c.status c.holder

abbrev pub caller_text : Legend → Caller → List ℕ
caller_text l c = codes "; " ++ could_text l c

-- that nobody could, where there is such a routine
abbrev pub nobody_text : Reason → List ℕ
nobody_text r = if length r.callers == 0 && not (length r.entries == 0 && length r.perhaps == 0) then codes "; nobody else who waits could do so" else []

abbrev pub callers_text : Legend → Reason → List ℕ
callers_text l r = each (caller_text l) r.callers ++ nobody_text r

-- ---- a sentence of each process

abbrev pub since_text : Legend → Reason → List ℕ
since_text l r = process_text l r.process ++ codes " since event " ++ decimal r.since ++ codes ": "

-- since which event it waits, which routines continue the queue, at which events that was in vain, and who could do it and waits
unfoldable pub reason_text : Legend → Reason → List ℕ
reason_text l r = since_text l r ++ continuing_text l r ++ in_vain_text r.in_vain ++ callers_text l r

-- ---- as members of an object

abbrev pub routines_data : Legend → List ℕ → Data
routines_data l ns = array_of (map (λ n. text_data (routine_text l n)) ns)

abbrev pub callers_data : List Caller → Data
callers_data cs = array_of (map (λ (c : Caller). number_data c.process) cs)

-- those that continue an element of the array, if there are some
abbrev pub perhaps_members : Legend → List ℕ → List Member
perhaps_members l ns = if length ns == 0 then [] else (codes "perhaps", routines_data l ns) ∷ []

-- a process by its number, since when it waits, which routines continue the queue, what was in vain, who could do so, and the sentence; and which routines perhaps continue the queue
unfoldable pub reason_data : Legend → Reason → Data
reason_data l r =
    object_with
    ((codes "process", number_data r.process)
    ∷ (codes "since", number_data r.since)
    ∷ (codes "entries", routines_data l r.entries)
    ∷ (codes "in_vain", numbers_data r.in_vain)
    ∷ (codes "callers", callers_data r.callers)
    ∷ (codes "text", text_data (reason_text l r))
    ∷ perhaps_members l r.perhaps)

abbrev pub reasons_data : Legend → List Reason → Data
reasons_data l rs = array_of (map (reason_data l) rs)

-- a member for them, if there are some
abbrev pub why_members : Legend → List Reason → List Member
why_members l rs = if length rs == 0 then [] else (codes "why", reasons_data l rs) ∷ []
