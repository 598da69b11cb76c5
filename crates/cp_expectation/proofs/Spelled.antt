-- Words that spell expectations are read as these.
use Rattle.std.specs.Option.{option_or}
use Rattle.std.proofs.Common.{◌≡◌, ◌∙◌, inl, inr, ℕ, Bool, true, false, ◌&&◌, List, [], ◌∷◌, ◌++◌, Option, Some, None, option_map, codes, if◌then◌else◌, refl, sym, ap}
use Rattle.std.proofs.lemmas.List.{append_assoc, append-nil}
use Rattle.std.specs.Str.{bytes_eq}
use Rattle.cp_store.specs.declared.error.ErrorName.{ErrorName}
use Rattle.cp_store.specs.declared.error.ErrorName.TheVariants as error
use Rattle.cp_walk.specs.Text.{error_text}
use Rattle.cp_expectation.specs.Plain.{Item, Printed, Any, Who, End, Finished, AnyError, Error, AllWaiting, Alone, Spins, Topic, Ends, Displays, Waits, Expected}
use Rattle.cp_expectation.specs.Spelling.{Words, SpellsProcess, SpellsProcesses, SpellsWho, SpellsEnd, SpellsItem, SpellsItems, SpellsOutput, SpellsTopic, SpellsTopics, SpellsOne, Spells, ends_in_item, begins_as_value}
use Rattle.cp_expectation.specs.Steps.{Place, AtClaim, AtTopic, AtOutput, AtShown, After, State, at, Addition, Name, Process, Others, Output, Another, errors, meant_by, value_in, process_in, item_in, with_topic, begun, end_addition, who_addition, addition, added, joint, next, expected_at, behind, step, ended, start}
use Rattle.cp_expectation.specs.Written.{claim_text}
use Rattle.cp_expectation.specs.declared.expectation.Claim.{Claim}
use Rattle.cp_expectation.specs.declared.expectation.Claim.TheVariants.{Never, Sometimes, Only}
use Rattle.cp_expectation.proofs.Valued.{value_is, no_and, no_hyphen, or_is_no_value, waiting_is_no_value, error_is_no_value, dots_are_no_value, IsOther, other_word}
use Rattle.cp_expectation.proofs.Walking.{run, finish, run_append}

-- ---- one word

step_on : (done : List Expected) (place : Place) (w : List ℕ) → bytes_eq w (codes "and") ≡ false → step (at done place) w ≡ option_map (λ p. at done p) (next place w)
unfolding step
step_on done place w h = ap (λ b. if b then behind done (expected_at place) else option_map (λ p. at done p) (next place w)) h

added_read : (done : List Expected) (e : Expected) (t : Topic) (w : List ℕ) (a : Addition) → bytes_eq w (codes "and") ≡ false → addition t w ≡ Some a → step (at done (After e t)) w ≡ Some (at done (added e t a))
added_read done e t w a and is = step_on done (After e t) w and ∙ ap (λ o. option_map (λ p. at done p) (option_or (option_map (added e t) o) (joint (with_topic e t) w))) is

process_read : (done : List Expected) (e : Expected) (t : Topic) (w n : List ℕ) → SpellsProcess w n → (IsOther w n → addition t w ≡ Some (Process n)) → run step (Some (at done (After e t))) (w ∷ []) ≡ Some (at done (added e t (Process n)))
process_read done e t w n h is = let o = other_word w n h in ap (λ s. run step s []) (added_read done e t w (Process n) o.and (is o))

-- ---- ends

named : (end : End) (w n : List ℕ) → IsOther w n → end_addition end w ≡ option_map Process (process_in w) → addition (Ends end None) w ≡ Some (Process n)
named end w n o is = ap (λ b. if b then Some Output else end_addition end w) o.output ∙ is ∙ ap (option_map Process) o.means

abbrev pub among : List (List ℕ) → Bool → Who
among ps others = record { processes = ps; others = others }

abbrev pub waiting : List Expected → Expected → Option Who → State
waiting done e who = at done (After e (Ends (AllWaiting who) None))

more_named : (ps : List (List ℕ)) (w n : List ℕ) → IsOther w n → addition (Ends (AllWaiting (Some (among ps false))) None) w ≡ Some (Process n)
more_named ps w n o = named (AllWaiting (Some (among ps false))) w n o (ap (λ b. if b then Some Others else option_map Process (process_in w)) o.dots)

names_read : (done : List Expected) (e : Expected) (before : List (List ℕ)) (ws : Words) (ps : List (List ℕ)) → SpellsProcesses ws ps → run step (Some (waiting done e (Some (among before false)))) ws ≡ Some (waiting done e (Some (among (before ++ ps) false)))
names_read done e before ws [] h = absurd h
names_read done e before ws (p ∷ []) h = ap (run step (Some (waiting done e (Some (among before false))))) h.1 ∙ process_read done e (Ends (AllWaiting (Some (among before false))) None) h.0 p h.2 (more_named before h.0 p)
names_read done e before ws (p ∷ q ∷ ps) h =
    let o = other_word h.0 p h.3 in
    ap (run step (Some (waiting done e (Some (among before false))))) h.2 ∙ ap (λ s. run step s h.1) (added_read done e (Ends (AllWaiting (Some (among before false))) None) h.0 (Process p) o.and (more_named before h.0 p o)) ∙ names_read done e (before ++ p ∷ []) h.1 (q ∷ ps) h.4 ∙ ap (λ l. Some (waiting done e (Some (among l false)))) (append_assoc before (p ∷ []) (q ∷ ps))

all_names_read : (done : List Expected) (e : Expected) (ws : Words) (ps : List (List ℕ)) → SpellsProcesses ws ps → run step (Some (waiting done e None)) ws ≡ Some (waiting done e (Some (among ps false)))
all_names_read done e ws [] h = absurd h
all_names_read done e ws (p ∷ []) h = ap (run step (Some (waiting done e None))) h.1 ∙ process_read done e (Ends (AllWaiting None) None) h.0 p h.2 (λ o. named (AllWaiting None) h.0 p o refl)
all_names_read done e ws (p ∷ q ∷ ps) h =
    let o = other_word h.0 p h.3 in
    ap (run step (Some (waiting done e None))) h.2 ∙ ap (λ s. run step s h.1) (added_read done e (Ends (AllWaiting None) None) h.0 (Process p) o.and (named (AllWaiting None) h.0 p o refl)) ∙ names_read done e (p ∷ []) h.1 (q ∷ ps) h.4

others_read : (done : List Expected) (e : Expected) (ps : List (List ℕ)) (others : Bool) → run step (Some (waiting done e (Some (among ps false)))) (if others then codes ".." ∷ [] else []) ≡ Some (waiting done e (Some (among ps others)))
unfolding step
others_read done e ps true = refl
others_read done e ps false = refl

who_read : (done : List Expected) (e : Expected) (ws : Words) (who : Who) → SpellsWho ws who → run step (Some (waiting done e None)) ws ≡ Some (waiting done e (Some who))
who_read done e ws who (names, h, is) =
    let behind_names = if who.others then codes ".." ∷ [] else [] in
    ap (run step (Some (waiting done e None))) is ∙ run_append step (Some (waiting done e None)) names behind_names ∙ ap (λ s. run step s behind_names) (all_names_read done e names who.processes h) ∙ others_read done e who.processes who.others

abbrev pub begin_at : List Expected → Expected → State
begin_at done e = at done (AtTopic e)

to_waiting : (done : List Expected) (e : Expected) (ws : Words) → run step (Some (begin_at done e)) (codes "all-waiting" ∷ ws) ≡ run step (Some (waiting done e None)) ws
unfolding step
to_waiting done e ws = refl

to_alone : (done : List Expected) (e : Expected) (ws : Words) → run step (Some (begin_at done e)) (codes "alone" ∷ ws) ≡ run step (Some (at done (After e (Ends (Alone None) None)))) ws
unfolding step
to_alone done e ws = refl

to_spins : (done : List Expected) (e : Expected) (ws : Words) → run step (Some (begin_at done e)) (codes "spins" ∷ ws) ≡ run step (Some (at done (After e (Ends (Spins None) None)))) ws
unfolding step
to_spins done e ws = refl

finished_read : (done : List Expected) (e : Expected) → run step (Some (begin_at done e)) (codes "finished" ∷ []) ≡ Some (at done (After e (Ends Finished None)))
unfolding step
finished_read done e = refl

any_error_read : (done : List Expected) (e : Expected) → run step (Some (begin_at done e)) (codes "run-error" ∷ []) ≡ Some (at done (After e (Ends AnyError None)))
unfolding step
any_error_read done e = refl

error_read : (done : List Expected) (e : Expected) (name : ErrorName) → run step (Some (begin_at done e)) (codes "run-error" ∷ error_text name ∷ []) ≡ Some (at done (After e (Ends (Error name) None)))
unfolding step
error_read done e error.Overflow = refl
error_read done e error.ZeroDivisor = refl
error_read done e error.Range = refl
error_read done e error.NoCase = refl
error_read done e error.QueueInUse = refl
error_read done e error.NotInit = refl
error_read done e error.InitTwice = refl
error_read done e error.Assertion = refl
error_read done e error.Invariant = refl

end_read : (done : List Expected) (e : Expected) (ws : Words) (end : End) → SpellsEnd ws end → run step (Some (begin_at done e)) ws ≡ Some (at done (After e (Ends end None)))
end_read done e ws Finished h = ap (run step (Some (begin_at done e))) h ∙ finished_read done e
end_read done e ws AnyError h = ap (run step (Some (begin_at done e))) h ∙ any_error_read done e
end_read done e ws (Error name) h = ap (run step (Some (begin_at done e))) h ∙ error_read done e name
end_read done e ws (AllWaiting None) h = ap (run step (Some (begin_at done e))) h ∙ to_waiting done e []
end_read done e ws (AllWaiting (Some who)) h = ap (run step (Some (begin_at done e))) h.1 ∙ to_waiting done e h.0 ∙ who_read done e h.0 who h.2
end_read done e ws (Alone None) h = ap (run step (Some (begin_at done e))) (h.1 ∙ ap (λ l. codes "alone" ∷ l) h.2) ∙ to_alone done e []
end_read done e ws (Alone (Some n)) h =
    let (w, is, spelled) = h.2 in
    ap (run step (Some (begin_at done e))) (h.1 ∙ ap (λ l. codes "alone" ∷ l) is) ∙ to_alone done e (w ∷ []) ∙ process_read done e (Ends (Alone None) None) w n spelled (λ o. named (Alone None) w n o refl)
end_read done e ws (Spins None) h = ap (run step (Some (begin_at done e))) (h.1 ∙ ap (λ l. codes "spins" ∷ l) h.2) ∙ to_spins done e []
end_read done e ws (Spins (Some n)) h =
    let (w, is, spelled) = h.2 in
    ap (run step (Some (begin_at done e))) (h.1 ∙ ap (λ l. codes "spins" ∷ l) is) ∙ to_spins done e (w ∷ []) ∙ process_read done e (Ends (Spins None) None) w n spelled (λ o. named (Spins None) w n o refl)

-- ---- outputs

pub record IsItem (w : List ℕ) (i : Item) : Type 0 where
  pub means : item_in w (value_in w) ≡ Some i
  pub and : bytes_eq w (codes "and") ≡ false
  pub hyphen : bytes_eq w (codes "-") ≡ false

item_word : (w : List ℕ) (i : Item) → SpellsItem w i → IsItem w i
item_word w (Printed v) h = let is = value_is w v h in record { means = ap (item_in w) is; and = no_and w v is; hyphen = no_hyphen w v is }
item_word w Any h = record { means = ap (λ x. item_in x (value_in x)) h ∙ ap (item_in (codes "..")) dots_are_no_value; and = ap (λ x. bytes_eq x (codes "and")) h; hyphen = ap (λ x. bytes_eq x (codes "-")) h }

abbrev pub printed : List Expected → Expected → End → List Item → State
printed done e end items = at done (After e (Ends end (Some items)))

items_read : (done : List Expected) (e : Expected) (end : End) (b : Item) (bs : List Item) (ws : Words) (is : List Item) → SpellsItems ws is → run step (Some (printed done e end (b ∷ bs))) ws ≡ Some (printed done e end (b ∷ (bs ++ is)))
items_read done e end b bs [] [] h = ap (λ l. Some (printed done e end (b ∷ l))) (sym (append-nil bs))
items_read done e end b bs (w ∷ ws) (i ∷ is) h =
    let item = item_word w i h.0 in
    ap (λ s. run step s ws) (added_read done e (Ends end (Some (b ∷ bs))) w (Another i) item.and (ap (option_map Another) item.means)) ∙ items_read done e end b (bs ++ i ∷ []) ws is h.1 ∙ ap (λ l. Some (printed done e end (b ∷ l))) (append_assoc bs (i ∷ []) is)
items_read done e end b bs [] (i ∷ is) h = absurd h
items_read done e end b bs (w ∷ ws) [] h = absurd h

hyphen_read : (done : List Expected) (e : Expected) (end : End) → run step (Some (at done (AtOutput e end))) (codes "-" ∷ []) ≡ Some (printed done e end [])
unfolding step
hyphen_read done e end = refl

first_read : (done : List Expected) (e : Expected) (end : End) (w : List ℕ) (i : Item) → IsItem w i → step (at done (AtOutput e end)) w ≡ Some (printed done e end (i ∷ []))
first_read done e end w i item =
    step_on done (AtOutput e end) w item.and ∙ ap (λ b. option_map (λ p. at done p) (if b then Some (After e (Ends end (Some []))) else option_map (λ i. After e (Ends end (Some (i ∷ [])))) (item_in w (value_in w)))) item.hyphen ∙ ap (λ o. option_map (λ p. at done p) (option_map (λ i. After e (Ends end (Some (i ∷ [])))) o)) item.means

output_read : (done : List Expected) (e : Expected) (end : End) (ws : Words) (is : List Item) → SpellsOutput ws is → run step (Some (at done (AtOutput e end))) ws ≡ Some (printed done e end is)
output_read done e end ws [] h = ap (run step (Some (at done (AtOutput e end)))) h ∙ hyphen_read done e end
output_read done e end [] (i ∷ is) h = absurd h
output_read done e end (w ∷ ws) (i ∷ is) h = ap (λ s. run step s ws) (first_read done e end w i (item_word w i h.0)) ∙ items_read done e end i [] ws is h.1

-- ---- topics

to_output : (done : List Expected) (e : Expected) (end : End) (ws : Words) → run step (Some (at done (After e (Ends end None)))) (codes "output" ∷ ws) ≡ run step (Some (at done (AtOutput e end))) ws
unfolding step
to_output done e end ws = refl

to_shown : (done : List Expected) (e : Expected) (ws : Words) → run step (Some (begin_at done e)) (codes "shown" ∷ ws) ≡ run step (Some (at done (AtShown e))) ws
unfolding step
to_shown done e ws = refl

shown_read : (done : List Expected) (e : Expected) (w v : List ℕ) → value_in w ≡ Some v → step (at done (AtShown e)) w ≡ Some (at done (After e (Displays v)))
shown_read done e w v is = step_on done (AtShown e) w (no_and w v is) ∙ ap (λ o. option_map (λ p. at done p) (option_map (λ x. After e (Displays x)) o)) is

to_waits : (done : List Expected) (e : Expected) (ws : Words) → run step (Some (begin_at done e)) (codes "waiting" ∷ ws) ≡ run step (Some (at done (After e (Waits None)))) ws
unfolding step
to_waits done e ws = refl

topic_read : (done : List Expected) (e : Expected) (ws : Words) (t : Topic) → SpellsTopic ws t → run step (Some (begin_at done e)) ws ≡ Some (at done (After e t))
topic_read done e ws (Ends end None) h = end_read done e ws end h
topic_read done e ws (Ends end (Some items)) (first, after, h, is, spelled) =
    ap (run step (Some (begin_at done e))) is ∙ run_append step (Some (begin_at done e)) first (codes "output" ∷ after) ∙ ap (λ s. run step s (codes "output" ∷ after)) (end_read done e first end h) ∙ to_output done e end after ∙ output_read done e end after items spelled
topic_read done e ws (Displays v) (w, is, h) = ap (run step (Some (begin_at done e))) is ∙ to_shown done e (w ∷ []) ∙ ap (λ s. run step s []) (shown_read done e w v (value_is w v h))
topic_read done e ws (Waits None) h = ap (run step (Some (begin_at done e))) (h.1 ∙ ap (λ l. codes "waiting" ∷ l) h.2) ∙ to_waits done e []
topic_read done e ws (Waits (Some n)) h =
    let (w, is, spelled) = h.2 in
    ap (run step (Some (begin_at done e))) (h.1 ∙ ap (λ l. codes "waiting" ∷ l) is) ∙ to_waits done e (w ∷ []) ∙ process_read done e (Waits None) w n spelled (λ o. ap (option_map Process) o.means)

-- ---- between two topics

-- a word that adds nothing to a topic, but for one behind an item, where it may be a value
pub record IsQuiet (w : List ℕ) (value : Bool) : Type 0 where
  pub and : bytes_eq w (codes "and") ≡ false
  pub output : bytes_eq w (codes "output") ≡ false
  pub dots : bytes_eq w (codes "..") ≡ false
  pub error : meant_by errors w ≡ None
  pub process : process_in w ≡ None
  pub item : value ≡ false → item_in w (value_in w) ≡ None

by_or : IsQuiet (codes "or") false
by_or = record { and = refl; output = refl; dots = refl; error = refl; process = refl; item = λ _. ap (item_in (codes "or")) or_is_no_value }

by_finished : IsQuiet (codes "finished") false
by_finished = record { and = refl; output = refl; dots = refl; error = refl; process = refl; item = λ _. refl }

by_waiting : IsQuiet (codes "all-waiting") false
by_waiting = record { and = refl; output = refl; dots = refl; error = refl; process = refl; item = λ _. ap (item_in (codes "all-waiting")) waiting_is_no_value }

by_error : IsQuiet (codes "run-error") false
by_error = record { and = refl; output = refl; dots = refl; error = refl; process = refl; item = λ _. ap (item_in (codes "run-error")) error_is_no_value }

by_shown : IsQuiet (codes "shown") false
by_shown = record { and = refl; output = refl; dots = refl; error = refl; process = refl; item = λ _. refl }

by_alone : IsQuiet (codes "alone") true
by_alone = record { and = refl; output = refl; dots = refl; error = refl; process = refl; item = λ f. absurd (cc (f)) }

by_spins : IsQuiet (codes "spins") true
by_spins = record { and = refl; output = refl; dots = refl; error = refl; process = refl; item = λ f. absurd (cc (f)) }

by_waits : IsQuiet (codes "waiting") true
by_waits = record { and = refl; output = refl; dots = refl; error = refl; process = refl; item = λ f. absurd (cc (f)) }

who_none : (who : Who) (w : List ℕ) (value : Bool) → IsQuiet w value → who_addition who w ≡ None
who_none who w value q = split who.others
  where
    split : (b : Bool) → (if b then None else (if bytes_eq w (codes "..") then Some Others else option_map Process (process_in w))) ≡ None
    split true = refl
    split false = ap (λ b. if b then Some Others else option_map Process (process_in w)) q.dots ∙ ap (option_map Process) q.process

end_none : (end : End) (w : List ℕ) (value : Bool) → IsQuiet w value → end_addition end w ≡ None
end_none Finished w value q = refl
end_none AnyError w value q = ap (option_map Name) q.error
end_none (Error name) w value q = refl
end_none (AllWaiting None) w value q = ap (option_map Process) q.process
end_none (AllWaiting (Some who)) w value q = who_none who w value q
end_none (Alone None) w value q = ap (option_map Process) q.process
end_none (Alone (Some n)) w value q = refl
end_none (Spins None) w value q = ap (option_map Process) q.process
end_none (Spins (Some n)) w value q = refl

none_added : (t : Topic) (w : List ℕ) (value : Bool) → IsQuiet w value → (ends_in_item t && value) ≡ false → addition t w ≡ None
none_added (Ends end None) w value q h = ap (λ b. if b then Some Output else end_addition end w) q.output ∙ end_none end w value q
none_added (Ends end (Some [])) w value q h = refl
none_added (Ends end (Some (i ∷ is))) w value q h = ap (option_map Another) (q.item h)
none_added (Displays v) w value q h = refl
none_added (Waits None) w value q h = ap (option_map Process) q.process
none_added (Waits (Some n)) w value q h = refl

joint_read : (done : List Expected) (e : Expected) (t : Topic) (w : List ℕ) (value : Bool) → IsQuiet w value → (ends_in_item t && value) ≡ false → step (at done (After e t)) w ≡ option_map (λ p. at done p) (joint (with_topic e t) w)
joint_read done e t w value q h = step_on done (After e t) w q.and ∙ ap (λ o. option_map (λ p. at done p) (option_or (option_map (added e t) o) (joint (with_topic e t) w))) (none_added t w value q h)

no_value_asked : (b : Bool) → (b && false) ≡ false
no_value_asked true = refl
no_value_asked false = refl

or_read : (done : List Expected) (e : Expected) (t : Topic) (ws : Words) → run step (Some (at done (After e t))) (codes "or" ∷ ws) ≡ run step (Some (begin_at done (with_topic e t))) ws
or_read done e t ws = ap (λ s. run step s ws) (joint_read done e t (codes "or") false by_or (no_value_asked (ends_in_item t)))

-- words of which the first begins a topic
abbrev pub Begins : Words → Bool → Type 0
Begins ws value = (w : List ℕ) × (rest : Words) × (ws ≡ w ∷ rest) × (bytes_eq w (codes "or") ≡ false) × IsQuiet w value

end_begins : (ws : Words) (end : End) (o : Option (List Item)) → SpellsEnd ws end → Begins ws (begins_as_value (Ends end o))
end_begins ws Finished o h = (codes "finished", [], h, refl, by_finished)
end_begins ws AnyError o h = (codes "run-error", [], h, refl, by_error)
end_begins ws (Error name) o h = (codes "run-error", error_text name ∷ [], h, refl, by_error)
end_begins ws (AllWaiting None) o h = (codes "all-waiting", [], h, refl, by_waiting)
end_begins ws (AllWaiting (Some who)) o h = (codes "all-waiting", h.0, h.1, refl, by_waiting)
end_begins ws (Alone process) o h = (codes "alone", h.0, h.1, refl, by_alone)
end_begins ws (Spins process) o h = (codes "spins", h.0, h.1, refl, by_spins)

begins_more : (ws xs all : Words) (value : Bool) → all ≡ ws ++ xs → Begins ws value → Begins all value
begins_more ws xs all value same (w, rest, is, or, q) = (w, rest ++ xs, same ∙ ap (λ l. l ++ xs) is, or, q)

topic_begins : (ws : Words) (t : Topic) → SpellsTopic ws t → Begins ws (begins_as_value t)
topic_begins ws (Ends end None) h = end_begins ws end None h
topic_begins ws (Ends end (Some items)) (first, after, h, is, spelled) = begins_more first (codes "output" ∷ after) ws _ is (end_begins first end (Some items) h)
topic_begins ws (Displays v) h = (codes "shown", h.0 ∷ [], h.1, refl, by_shown)
topic_begins ws (Waits process) h = (codes "waiting", h.0, h.1, refl, by_waits)

topics_begin : (ws : Words) (t : Topic) (ts : List Topic) → SpellsTopics ws (t ∷ ts) → Begins ws (begins_as_value t)
topics_begin ws t [] h = topic_begins ws t h
topics_begin ws t (u ∷ ts) h = elim h.4 [ inl e ↦ begins_more h.0 h.1 ws _ e.0 (topic_begins h.0 t h.2) | inr e ↦ begins_more h.0 (codes "or" ∷ h.1) ws _ e (topic_begins h.0 t h.2) ]

another_read : (done : List Expected) (e : Expected) (t : Topic) (ws : Words) (value : Bool) → (ends_in_item t && value) ≡ false → Begins ws value → run step (Some (at done (After e t))) ws ≡ run step (Some (begin_at done (with_topic e t))) ws
another_read done e t ws value h (w, rest, is, or, q) = ap (run step (Some (at done (After e t)))) is ∙ ap (λ s. run step s rest) same ∙ sym (ap (run step (Some (begin_at done (with_topic e t)))) is)
  where
    same : step (at done (After e t)) w ≡ step (begin_at done (with_topic e t)) w
    same = joint_read done e t w value q h ∙ ap (λ b. option_map (λ p. at done p) (if b then Some (AtTopic (with_topic e t)) else begun (with_topic e t) w)) or ∙ sym (step_on done (AtTopic (with_topic e t)) w q.and)

-- the words lead to where these topics are read, the last one apart
abbrev pub AreRead : List Expected → Expected → List Topic → Words → Type 0
AreRead done e ts ws =
    (d : Expected) × (t : Topic) × (run step (Some (begin_at done e)) ws ≡ Some (at done (After d t))) × (with_topic d t ≡ record { claim = e.claim; topics = e.topics ++ ts })

topics_read : (done : List Expected) (e : Expected) (ts : List Topic) (ws : Words) → SpellsTopics ws ts → AreRead done e ts ws
topics_read done e [] ws h = absurd h
topics_read done e (t ∷ []) ws h = (e, t, topic_read done e ws t h, refl)
topics_read done e (t ∷ u ∷ ts) ws h =
    let rest = topics_read done (with_topic e t) (u ∷ ts) h.1 h.3 in
    (rest.0, rest.1, elim h.4 [ inl k ↦ first h.1 k.0 ∙ another_read done e t h.1 (begins_as_value u) k.1 (topics_begin h.1 u ts h.3) ∙ rest.2 | inr k ↦ first (codes "or" ∷ h.1) k ∙ or_read done e t h.1 ∙ rest.2 ], rest.3 ∙ ap (λ l. record { claim = e.claim; topics = l }) (append_assoc e.topics (t ∷ []) (u ∷ ts)))
  where
    first : (others : Words) → ws ≡ h.0 ++ others → run step (Some (begin_at done e)) ws ≡ run step (Some (at done (After e t))) others
    first others k = ap (run step (Some (begin_at done e))) k ∙ run_append step (Some (begin_at done e)) h.0 others ∙ ap (λ s. run step s others) (topic_read done e h.0 t h.2)

-- ---- expectations

abbrev pub claimed : Claim → Expected
claimed claim = record { claim = claim; topics = [] }

claim_read : (done : List Expected) (c : Claim) (ws : Words) → run step (Some (at done AtClaim)) (claim_text c ∷ ws) ≡ run step (Some (begin_at done (claimed c))) ws
unfolding step
claim_read done Never ws = refl
claim_read done Sometimes ws = refl
claim_read done Only ws = refl

-- the words lead to where the expectation may end
abbrev pub IsRead : List Expected → Expected → Option State → Type 0
IsRead done e o = (place : Place) × (o ≡ Some (at done place)) × (expected_at place ≡ Some e)

one_read : (done : List Expected) (ws : Words) (e : Expected) → SpellsOne ws e → IsRead done e (run step (Some (at done AtClaim)) ws)
one_read done ws e (after, is, h) =
    let r = topics_read done (claimed e.claim) e.topics after h in
    (After r.0 r.1, ap (run step (Some (at done AtClaim))) is ∙ claim_read done e.claim after ∙ r.2, ap Some r.3)

and_read : (done : List Expected) (place : Place) (e : Expected) (ws : Words) → expected_at place ≡ Some e → run step (Some (at done place)) (codes "and" ∷ ws) ≡ run step (Some (at (done ++ e ∷ []) AtClaim)) ws
unfolding step
and_read done place e ws h = ap (λ o. run step (behind done o) ws) h

all_read : (done : List Expected) (ws : Words) (es : List Expected) → Spells ws es → finish ended (run step (Some (at done AtClaim)) ws) ≡ Some (done ++ es)
all_read done ws [] h = absurd h
all_read done ws (e ∷ []) h =
    let r = one_read done ws e h in
    ap (finish ended) r.1 ∙ ap (option_map (λ x. done ++ x ∷ [])) r.2
all_read done ws (e ∷ f ∷ es) h =
    let r = one_read done h.0 e h.2 in
    ap (λ l. finish ended (run step (Some (at done AtClaim)) l)) h.4 ∙ ap (finish ended) (run_append step (Some (at done AtClaim)) h.0 (codes "and" ∷ h.1) ∙ ap (λ o. run step o (codes "and" ∷ h.1)) r.1 ∙ and_read done r.0 e h.1 r.2) ∙ all_read (done ++ e ∷ []) h.1 (f ∷ es) h.3 ∙ ap Some (append_assoc done (e ∷ []) (f ∷ es))

pub spelled_read : (ws : Words) (es : List Expected) → Spells ws es → finish ended (run step (Some start) ws) ≡ Some es
spelled_read ws es h = all_read [] ws es h

pub same_spelled : (ws : Words) (es fs : List Expected) → Spells ws es → Spells ws fs → es ≡ fs
same_spelled ws es fs h k = let same : Some es ≡ Some fs = sym (spelled_read ws es h) ∙ spelled_read ws fs k in cc
