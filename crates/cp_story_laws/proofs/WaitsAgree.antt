-- Who waits where a run stops is the same on names and on slots.
use Rattle.std.proofs.Common.{ℤ, ◌≡◌, ◌∙◌, ℕ, zero, suc, ◌-◌, ◌<◌, Bool, true, false, List, [], ◌∷◌, ◌++◌, Option, Some, None, ap, sym, refl, arith, if◌then◌else◌, length}
use Rattle.std.proofs.lemmas.List.{length-map, map-append}
use Rattle.std.proofs.lemmas.Option.{slice_get-map}
use Rattle.std.specs.Prelude.{map, option_map, slice_get}
use Rattle.cp_tree.specs.Read.{IsRead}
use Rattle.cp_tree.specs.Syntax.{Program, Tree}
use Rattle.cp_layout.specs.Laid.{plain, laid}
use Rattle.cp_slots.specs.Tables.{Tables}
use Rattle.cp_meaning_laws.specs.Accepted.{IsAccepted}
use Rattle.cp_legend.specs.Names.{Legend, RoutineNames}
use Rattle.cp_legend_laws.specs.Called.{called_in_legend, tabled}
use Rattle.cp_legend_laws.specs.Paths.{called_in_language}
use Rattle.cp_legend_laws.specs.Statements.{routine_text}
use Rattle.cp_machine.specs.declared.discipline.Discipline as slot_gates
use Rattle.cp_machine.specs.declared.process.Status as slot_status
use Rattle.cp_machine.specs.declared.process.Status.TheVariants as status
use Rattle.cp_machine.specs.Machine as machine
use Rattle.cp_machine.specs.Machine.{Machine, thread_at}
use Rattle.cp_meaning.specs.Components.{components_of}
use Rattle.cp_meaning.specs.Readings as readings
use Rattle.cp_meaning.specs.State.{Component, Discipline, State, Status, unstarted, ready, at_gate, delayed, ended, process_at}
use Rattle.cp_run.specs.Run.{those_below}
use Rattle.cp_run.specs.Slots.{slots}
use Rattle.cp_run.specs.System.{System}
use Rattle.cp_run.proofs.Choosing.{those_same}
use Rattle.cp_resolved.specs.Openings.{openings_of}
use Rattle.cp_resolved.specs.TreeLayouts.{layouts_of}
use Rattle.cp_machine_laws.specs.Named.{named, named_discipline}
use Rattle.cp_run.specs.Stop.{last_state}
use Rattle.cp_story.specs.Story.{calls_of, telling}
use Rattle.cp_story.specs.Waiting as story
use Rattle.cp_story.specs.declared.event.OpenCall.{OpenCall}
use Rattle.cp_story_laws.specs.Events.{EntryCall, stack_of, names_telling}
use Rattle.cp_story_laws.specs.Standings.{Standing, at_gate_of, in_queue_of, standing_of}
use Rattle.cp_story_laws.specs.Statements.{call_told, standing_told, wait_on_names, TellsWaits}
use Rattle.cp_story_laws.specs.Waits as names
use Rattle.cp_story_laws.specs.Waits.{NamedWait, is_held_by}
use Rattle.cp_story_laws.proofs.EventsAgree.{StepsAgree, ends}
use Rattle.cp_story_laws.proofs.OpenCalls.{stack_kept}
use Rattle.cp_story_laws.proofs.StandingsAgree.{standing_same}
use Rattle.cp_story_laws.proofs.Together.{go, prepared}

-- ---- those below a number

map_map : {A B C : Type 0} (f : B → C) (h : A → B) (xs : List A) → map f (map h xs) ≡ map (λ x. f (h x)) xs
map_map f h [] = refl
map_map {A} {B} {C} f h (x ∷ xs) = ap (λ (cs : List C). f (h x) ∷ cs) (map_map f h xs)

maps_below : {A : Type 0} (n : ℕ) (may : ℕ → Bool) (f h : ℕ → A) → ((q : ℕ) → q < n → f q ≡ h q) → map f (those_below n may) ≡ map h (those_below n may)
maps_below zero may f h e = refl
maps_below {A} (suc n) may f h e =
    map-append f (those_below n may) (if may n then n ∷ [] else [])
    ∙ (ap (λ (xs : List A). xs ++ map f (if may n then n ∷ [] else [])) (maps_below n may f h (λ q less. e q (omega arith)))
    ∙ (ap (λ (xs : List A). map h (those_below n may) ++ xs) (last (may n)) ∙ sym (map-append h (those_below n may) (if may n then n ∷ [] else []))))
  where
    last : (b : Bool) → map f (if b then n ∷ [] else []) ≡ map h (if b then n ∷ [] else [])
    last true = ap (λ (a : A). a ∷ []) (e n (omega arith))
    last false = refl

-- ---- who waits

abbrev waits : Standing → Bool
waits (at_gate_of n) = true
waits (in_queue_of n) = true
waits _ = false

waits_on_names : (p : Program) (s : State) (u : Status) → readings.is_waiting u ≡ waits (standing_of p s u)
waits_on_names p s unstarted = refl
waits_on_names p s ready = refl
waits_on_names p s (at_gate n) = refl
waits_on_names p s (delayed n) = refl
waits_on_names p s ended = refl

waits_told : (l : Legend) (u : slot_status.Status) → machine.is_waiting u ≡ waits (standing_told l u)
waits_told l status.Unstarted = refl
waits_told l status.Ready = refl
waits_told l (status.AtGate n) = refl
waits_told l (status.Delayed c) = refl
waits_told l status.Ended = refl

held_same : (p : ℕ) (o : Option ℕ) → story.is_process p o ≡ is_held_by p o
held_same p None = refl
held_same p (Some q) = refl

module _ (t : Tree) (r : Tables) (g : slot_gates.Discipline) (l : Legend) (routines : map (λ (n : RoutineNames). n.name) l.routines ≡ map routine_text (openings_of t.program)) (read : IsRead t.program) (ok : IsAccepted t) (same : plain r ≡ laid t) (tables : map tabled l.components ≡ r.components) (paths : map called_in_legend l.components ≡ map (called_in_language t.program) (components_of t.program)) (Held : List Component → List ℤ → Type 0) (agree : StepsAgree t r g l Held routines read ok same tables paths) where
  abbrev h : Discipline
  h = named_discipline g

  abbrev on_names : System State
  on_names = named t h

  abbrev on_slots : System Machine
  on_slots = slots r g

  module _ (choices steps : ℕ) (word : List ℕ) where
    abbrev s : State
    s = last_state on_names choices steps word

    abbrev m : Machine
    m = last_state on_slots choices steps word

    abbrev calls : List (List OpenCall)
    calls = (telling l r g choices steps word).past.calls

    abbrev open_calls : List (List EntryCall)
    open_calls = (names_telling t h choices steps word).past.calls

    stand : (q : ℕ) → q < length s.processes → standing_of t.program s (process_at s.processes q).status ≡ standing_told l (thread_at m.threads q).status
    stand q less = standing_same t r (layouts_of t) h ok (prepared t r g read ok same) l tables paths s m (ends t r g l Held routines read ok same tables paths agree choices steps word).states q less

    waits_same : (q : ℕ) → q < length s.processes → story.waits_at m q ≡ readings.is_waiting (process_at s.processes q).status
    waits_same q less = waits_told l (thread_at m.threads q).status ∙ (ap waits (sym (stand q less)) ∙ sym (waits_on_names t.program s (process_at s.processes q).status))

    call_same : (q : ℕ) → option_map (call_told l) (story.innermost_open calls q) ≡ names.innermost_open open_calls q
    call_same q =
        sym (slice_get-map (call_told l) (calls_of calls q) (length (calls_of calls q) - 1))
        ∙ (ap (λ (n : ℕ). slice_get (map (call_told l) (calls_of calls q)) (n - 1)) (sym (length-map (calls_of calls q) (call_told l)))
        ∙ (ap (λ (cs : List EntryCall). slice_get cs (length cs - 1)) (sym (stack_kept (call_told l) calls q))
        ∙ ap (λ (all : List (List EntryCall)). slice_get (stack_of all q) (length (stack_of all q) - 1)) (ends t r g l Held routines read ok same tables paths agree choices steps word).gathered.0.calls))

    inside_same : (q : ℕ) → those_below r.monitors (story.is_inside m q) ≡ those_below on_names.monitors (λ n. is_held_by q (on_names.holder s n))
    inside_same q =
        let steps_same = go t r g read ok same in
        sym
        (those_same on_names.monitors (λ n. is_held_by q (on_names.holder s n)) (story.is_inside m q) (λ n less. ap (is_held_by q) ((steps_same.alike s m (ends t r g l Held routines read ok same tables paths agree choices steps word).states).holder n less) ∙ sym (held_same q (on_slots.holder m n)))
        ∙ ap (λ (k : ℕ). those_below k (story.is_inside m q)) steps_same.monitors)

    abbrev made : ℕ → Standing → Option EntryCall → List ℕ → NamedWait
    made q standing call inside = record { process = q; standing = standing; call = call; inside = inside }

    wait_same : (q : ℕ) → q < length s.processes → wait_on_names l (story.waiting_at r m calls q) ≡ names.wait_of t h s open_calls q
    wait_same q less =
        ap (λ (k : Standing). made q k (option_map (call_told l) (story.innermost_open calls q)) (those_below r.monitors (story.is_inside m q))) (sym (stand q less))
        ∙ (ap (λ (k : Option EntryCall). made q (standing_of t.program s (process_at s.processes q).status) k (those_below r.monitors (story.is_inside m q))) (call_same q)
        ∙ ap (made q (standing_of t.program s (process_at s.processes q).status) (names.innermost_open open_calls q)) (inside_same q))

    pub tells_waits : TellsWaits t r l g choices steps word
    tells_waits =
        let count : length m.threads ≡ length s.processes = sym (ends t r g l Held routines read ok same tables paths agree choices steps word).states.represents.process_count in
        map_map (wait_on_names l) (story.waiting_at r m calls) (those_below (length m.threads) (story.waits_at m))
        ∙ (ap (λ (k : ℕ). map (λ q. wait_on_names l (story.waiting_at r m calls q)) (those_below k (story.waits_at m))) count
        ∙ (maps_below (length s.processes) (story.waits_at m) (λ q. wait_on_names l (story.waiting_at r m calls q)) (names.wait_of t h s open_calls) wait_same
        ∙ ap (map (names.wait_of t h s open_calls)) (those_same (length s.processes) (story.waits_at m) (λ q. readings.is_waiting (process_at s.processes q).status) waits_same)))
