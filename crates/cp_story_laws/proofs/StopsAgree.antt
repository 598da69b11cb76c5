-- How a run stops where no event tells of it is the same on names and on slots.
use Rattle.std.proofs.Common.{ℤ, ◌≡◌, ◌∙◌, ℕ, ◌<◌, Bool, true, false, if◌then◌else◌, List, [], ◌∷◌, ◌++◌, Option, Some, None, ap, ap₂, sym, refl, arith, length, eq-eqb}
use Rattle.std.proofs.lemmas.Bool.{eqb-true}
use Rattle.std.specs.Prelude.{map, option_map, find, codes, decimal}
use Rattle.cp_tree.specs.Read.{IsRead}
use Rattle.cp_tree.specs.Syntax.{Tree}
use Rattle.cp_layout.specs.Laid.{plain, laid}
use Rattle.cp_slots.specs.Tables as slot_tables
use Rattle.cp_slots.specs.Tables.{Tables}
use Rattle.cp_meaning_laws.specs.Accepted.{IsAccepted}
use Rattle.cp_legend.specs.Names.{Legend, RoutineNames, monitor_in, path_in}
use Rattle.cp_legend_laws.specs.Called.{called_in_legend, tabled}
use Rattle.cp_legend_laws.specs.Paths.{called_in_language, path_text}
use Rattle.cp_legend_laws.specs.Statements.{PlacesAreNamed, routine_text}
use Rattle.cp_legend_laws.proofs.OwnMonitors.{HasOwnNumber}
use Rattle.cp_machine.specs.declared.discipline.Discipline as slot_gates
use Rattle.cp_machine.specs.declared.process.Status as slot_status
use Rattle.cp_machine.specs.declared.process.Status.TheVariants as status
use Rattle.cp_machine.specs.Machine as machine
use Rattle.cp_machine.specs.Machine.{Machine, thread_at}
use Rattle.cp_meaning.specs.Components.{components_of}
use Rattle.cp_meaning.specs.Places.{View, value_at}
use Rattle.cp_meaning.specs.State.{Component, Discipline, Place, State, process_at}
use Rattle.cp_meaning.specs.Steps.{view_of}
use Rattle.cp_meaning.specs.Values.{Value, queue_value, waiting_in}
use Rattle.cp_run.specs.declared.outcome.OutcomeKind.{OutcomeKind}
use Rattle.cp_run.specs.declared.outcome.OutcomeKind.TheVariants as kind
use Rattle.cp_run.specs.Run.{Answer, Ended, run, those_below}
use Rattle.cp_run.specs.Slots.{slots}
use Rattle.cp_run.specs.Stop.{last_state}
use Rattle.cp_run.specs.System.{System}
use Rattle.cp_resolved.specs.Openings.{openings_of}
use Rattle.cp_resolved.specs.Small.{Each}
use Rattle.cp_resolved.specs.TreeLayouts.{layouts_of}
use Rattle.cp_machine_laws.specs.Law.{ground_of}
use Rattle.cp_machine_laws.specs.Named.{named, named_discipline}
use Rattle.cp_machine_laws.specs.Prepared.{Prepared}
use Rattle.cp_machine_laws.proofs.Alike.{run_same}
use Rattle.cp_machine_laws.proofs.HoldsInReached.{HoldsInReached, reached_stands}
use Rattle.cp_machine_laws.proofs.control.Moving.{delayed_process}
use Rattle.cp_machine_laws.proofs.steps.Executed.{variables_of_components}
use Rattle.cp_store.specs.declared.error.ErrorName.{ErrorName}
use Rattle.cp_store.specs.declared.error.ErrorName.TheVariants.{QueueInUse}
use Rattle.cp_story.specs.Halted.{Halted, error_text, first_in_cell, halted_after, halted_as, halted_at, halted_by, in_use_text, is_in_cell, process_of, waiting_at_error, waiting_in_cell}
use Rattle.cp_story.specs.Sentences.{cell_queue_text, process_text}
use Rattle.cp_story.specs.Story.{queue_at, telling}
use Rattle.cp_story.specs.Waiting.{Waiting, waiting_at, waits_at, waits_in}
use Rattle.cp_story.specs.declared.event.OpenCall.{OpenCall}
use Rattle.cp_story.specs.declared.observer.Last.{Last}
use Rattle.cp_story_laws.specs.Aims.{component_of}
use Rattle.cp_story_laws.specs.Events.{LastStep, names_telling}
use Rattle.cp_story_laws.specs.Standings.{path_of}
use Rattle.cp_story_laws.specs.Statements.{TellsStop}
use Rattle.cp_story_laws.specs.Stops.{in_use_words, process_words, queue_words, stopped_after, stopped_as, stopped_at, stopped_by, waiter_at, waiter_by}
use Rattle.cp_story_laws.proofs.aims.OneQueue.{waits_there}
use Rattle.cp_story_laws.proofs.aims.QueueCells.{HasCell, SameQueue}
use Rattle.cp_story_laws.proofs.aims.QueuePlaces.{monitor_told, name_told}
use Rattle.cp_story_laws.proofs.Entered.{number_is}
use Rattle.cp_story_laws.proofs.EventsAgree.{LastAgrees, StepsAgree, ends}
use Rattle.cp_story_laws.proofs.Lists.{find_none, find_one}
use Rattle.cp_story_laws.proofs.Paths.{monitor_path, process_path}
use Rattle.cp_story_laws.proofs.Together.{Related, go, prepared}

-- ---- who is found

-- the processes of what is found among some that wait
found_among : (F : Waiting → Bool) (h : ℕ → Waiting) → ((q : ℕ) → process_of (h q) ≡ q) → (qs : List ℕ) → option_map process_of (find F (map h qs)) ≡ find (λ q. F (h q)) qs
found_among F h own [] = refl
found_among F h own (q ∷ qs) = go (F (h q)) (found_among F h own qs)
  where
    go : (b : Bool) → option_map process_of (find F (map h qs)) ≡ find (λ i. F (h i)) qs → option_map process_of (if b then Some (h q) else find F (map h qs)) ≡ (if b then Some q else find (λ i. F (h i)) qs)
    go true rest = ap Some (own q)
    go false rest = rest

in_this_cell : (cell : ℕ) (u : slot_status.Status) → is_in_cell cell u ≡ true → u ≡ status.Delayed cell
in_this_cell cell (status.Delayed other) e = ap status.Delayed (eqb-true other cell e)
in_this_cell cell status.Unstarted e = absurd (cc)
in_this_cell cell status.Ready e = absurd (cc)
in_this_cell cell (status.AtGate n) e = absurd (cc)
in_this_cell cell status.Ended e = absurd (cc)

not_so : (b : Bool) → (b ≡ true → ⊥) → b ≡ false
not_so true never = absurd (never refl)
not_so false never = refl

queue_has : (w : Value) (q : ℕ) → waiting_in w ≡ Some q → w ≡ queue_value (Some q)
queue_has (queue_value o) q e = ap queue_value e
queue_has _ q e = absurd (cc)

one_process : (a b : ℕ) → queue_value (Some a) ≡ queue_value (Some b) → a ≡ b
one_process a b e = cc

module _ (t : Tree) (r : Tables) (g : slot_gates.Discipline) (l : Legend) (routines : map (λ (n : RoutineNames). n.name) l.routines ≡ map routine_text (openings_of t.program)) (read : IsRead t.program) (ok : IsAccepted t) (same : plain r ≡ laid t) (tables : map tabled l.components ≡ r.components) (paths : map called_in_legend l.components ≡ map (called_in_language t.program) (components_of t.program)) (Held : List Component → List ℤ → Type 0) (agree : StepsAgree t r g l Held routines read ok same tables paths)
    (own : Each HasOwnNumber l.components) (places : PlacesAreNamed t l) where
  abbrev h : Discipline
  h = named_discipline g

  tables_are : Prepared t r (layouts_of t)
  tables_are = prepared t r g read ok same

  -- ---- a state

  module _ (s : State) (m : Machine) (sim : Related t r g read ok same s m) where
    holds : HoldsInReached t.program s
    holds = reached_stands t ok h s sim.reached

    count : length m.threads ≡ length s.processes
    count = sym sim.represents.process_count

    process_same : (q : ℕ) → q < length s.processes → process_text l q ≡ process_words t s q
    process_same q less =
        let known : q < length r.processes = (let a = sim.represents.process_count in let b = sim.fits.threads in omega (arith, a, b, less)) in
        ap (λ (path : List ℕ). decimal q ++ codes " " ++ path)
        (process_path t r (layouts_of t) tables_are.stands tables_are.sound.typed l.components tables paths q known
        ∙ (sym (ap (path_text t.program) (holds.path (slot_tables.process_at r q).component)) ∙ ap (path_of t.program s) (sym (sim.represents.processes q less).component)))

    -- ---- a queue

    module _ (p : ℕ) (x : Place) (cell : ℕ) (k : HasCell t r x cell) where
      abbrev view : View
      view = view_of t.program s p

      number : (queue_at l cell).monitor ≡ k.number
      number =
          monitor_told t r h ok tables_are l tables paths s m sim k.component cell x k.holder k.place own k.number k.monitor
          ∙ number_is t r (layouts_of t) tables_are.stands k.component k.number k.monitor h

      monitor_same : path_in (monitor_in l.components (queue_at l cell).monitor) ≡ path_of t.program s (component_of x.holder)
      monitor_same =
          ap (λ (n : ℕ). path_in (monitor_in l.components n)) number
          ∙ (monitor_path t r (layouts_of t) tables_are.stands tables_are.sound.typed l.components tables paths k.component k.number k.monitor
          ∙ (sym (ap (path_text t.program) (holds.path k.component)) ∙ ap (path_of t.program s) (sym (ap component_of k.holder))))

      queue_same : cell_queue_text l cell ≡ queue_words t s view x
      queue_same =
          ap₂ (λ (a b : List ℕ). a ++ codes "." ++ b) monitor_same (name_told t r h ok tables_are l tables paths s m sim k.component cell x k.holder k.place places p)

      -- who waits in its cell waits in it, and nobody else

      only : (i : ℕ) → i < length m.threads → is_in_cell cell (thread_at m.threads i).status ≡ true → value_at view x ≡ queue_value (Some i)
      only i less e =
          let there : i < length s.processes = (let a = count in omega (arith, a, less)) in
          let here = in_this_cell cell (thread_at m.threads i).status e in
          let waits = delayed_process (ground_of t r) t.program (layouts_of t) i (process_at s.processes i) (thread_at m.threads i) cell (sim.represents.processes i there) here in
          waits_there (ground_of t r) t.program (layouts_of t) s m sim.represents (variables_of_components t r (layouts_of t) tables_are) tables_are.program.systems.apart k.component cell x k.holder k.place view refl i waits.0 there waits.1 here

      found : (o : Option ℕ) → waiting_in (value_at view x) ≡ o → find (λ q. is_in_cell cell (thread_at m.threads q).status) (those_below (length m.threads) (waits_at m)) ≡ o
      found None e =
          find_none (length m.threads) (waits_at m) (λ q. is_in_cell cell (thread_at m.threads q).status)
          (λ i less. not_so (is_in_cell cell (thread_at m.threads i).status) (λ f. (let bad : None ≡ Some i = sym e ∙ ap waiting_in (only i less f) in cc)))
      found (Some q) e =
          let value = queue_has (value_at view x) q e in
          let w = sim.represents.queues.queued x q k.component cell view refl k.holder k.place value in
          find_one (length m.threads) (waits_at m) (λ i. is_in_cell cell (thread_at m.threads i).status) q (let a = count in let b = w.0 in omega (arith, a, b)) (ap machine.is_waiting w.2)
          (ap (is_in_cell cell) w.2 ∙ eq-eqb cell cell refl) (λ i less f. one_process i q (sym (only i less f) ∙ value))

      waiter_same : (calls : List (List OpenCall)) → first_in_cell cell (waits_in r m calls) ≡ waiting_in (value_at view x)
      waiter_same calls = found_among (λ (w : Waiting). is_in_cell cell w.status) (waiting_at r m calls) (λ q. refl) (those_below (length m.threads) (waits_at m)) ∙ found (waiting_in (value_at view x)) refl

      waiter_there : (q : ℕ) → waiting_in (value_at view x) ≡ Some q → q < length s.processes
      waiter_there q e = (sim.represents.queues.queued x q k.component cell view refl k.holder k.place (queue_has (value_at view x) q e)).0

    -- ---- a run error

    module _ (calls : List (List OpenCall)) (p : ℕ) where
      abbrev ws : List Waiting
      ws = waits_in r m calls

      abbrev here : View
      here = view_of t.program s p

      waiter_queue : (o : Option Place) (u : Option ℕ) → SameQueue t r o u → waiting_in_cell ws u ≡ waiter_at here o
      waiter_queue None None k = refl
      waiter_queue (Some x) (Some cell) k = waiter_same p x cell k calls
      waiter_queue None (Some cell) k = absurd k
      waiter_queue (Some x) None k = absurd k

      waiter_error : (e : ErrorName) (o : Option Place) (u : Option ℕ) → SameQueue t r o u → waiting_at_error e ws u ≡ waiter_by e here o
      waiter_error QueueInUse o u k = waiter_queue o u k
      waiter_error _ o u k = refl

      -- it is one of the processes
      bounded : (e : ErrorName) (o : Option Place) (u : Option ℕ) → SameQueue t r o u → (q : ℕ) → waiter_by e here o ≡ Some q → q < length s.processes
      bounded QueueInUse (Some x) (Some cell) k q is = waiter_there p x cell k q is
      bounded QueueInUse None u k q is = absurd (cc)
      bounded QueueInUse (Some x) None k q is = absurd k
      bounded _ o u k q is = absurd (cc)

      words_same : (o : Option Place) (u : Option ℕ) → SameQueue t r o u → (w : Option ℕ) → ((q : ℕ) → w ≡ Some q → q < length s.processes) → in_use_text l u w ≡ in_use_words t s here o w
      words_same None None k w less = refl
      words_same (Some x) (Some cell) k None less = refl
      words_same (Some x) (Some cell) k (Some q) less = ap₂ (λ (a b : List ℕ). codes ": " ++ a ++ codes " waits in " ++ b) (process_same q (less q refl)) (queue_same p x cell k)
      words_same None (Some cell) k w less = absurd k
      words_same (Some x) None k w less = absurd k

      abbrev made : ErrorName → (line : ℕ) → List ℕ → Option ℕ → Halted
      made e line words w = record { process = p; line = Some line; words = error_text e ++ words; waiting = w }

      error_same : (e : ErrorName) (line : ℕ) (o : Option Place) (u : Option ℕ) → SameQueue t r o u → halted_by l e p line u (waiting_at_error e ws u) ≡ stopped_by t s e p line o
      error_same e line o u k =
          ap (halted_by l e p line u) (waiter_error e o u k)
          ∙ ap (λ (words : List ℕ). made e line words (waiter_by e here o)) (words_same o u k (waiter_by e here o) (bounded e o u k))

    -- ---- by how it ended

    module _ (calls : List (List OpenCall)) (x : LastStep) (y : Last) (last : LastAgrees t r x y) where
      limit_same : (words : List ℕ) → halted_after y words ≡ stopped_after x words
      limit_same words = ap₂ (λ (q : ℕ) (line : Option ℕ). (let a : Halted = record { process = q; line = line; words = words; waiting = None } in a)) last.process last.line

      kind_same : (k : OutcomeKind) → halted_as l y (waits_in r m calls) k ≡ stopped_as t s x k
      kind_same (kind.RunError e p line) = ap Some (error_same calls p e line x.queue y.queue last.queue)
      kind_same kind.StepLimit = ap Some (limit_same (codes "goes on to the limit of steps"))
      kind_same kind.OutputLimit = ap Some (limit_same (codes "displays a value too many"))
      kind_same _ = refl

      answer_same : (a : Answer) → halted_at l a y (waits_in r m calls) ≡ stopped_at t s x a
      answer_same (Ended outcome used) = kind_same outcome.kind
      answer_same _ = refl

  -- ---- a run

  abbrev on_names : System State
  on_names = named t h

  abbrev on_slots : System Machine
  on_slots = slots r g

  module _ (choices steps : ℕ) (word : List ℕ) where
    abbrev past : Last
    past = (telling l r g choices steps word).past.last

    abbrev ended : Machine
    ended = last_state on_slots choices steps word

    pub tells_stop : TellsStop t r l g choices steps word
    tells_stop =
        let end = ends t r g l Held routines read ok same tables paths agree choices steps word in
        let calls = (telling l r g choices steps word).past.calls in
        ap (λ (a : Answer). halted_at l a past (waits_in r ended calls)) (sym (run_same on_names on_slots (Related t r g read ok same) (go t r g read ok same) choices steps word))
        ∙ answer_same (last_state on_names choices steps word) ended end.states calls (names_telling t h choices steps word).past.last past end.gathered.0.last (run on_names choices steps word)
