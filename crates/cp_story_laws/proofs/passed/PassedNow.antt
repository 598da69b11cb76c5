-- What a story tells that a call is given as it enters a monitor, and gives back as it ends, is what the meaning says.
use Rattle.std.proofs.Common.{◌≡◌, ◌∙◌, ℕ, ◌<◌, ◌&&◌, Bool, true, false, List, ◌∷◌, Option, Some, map, length, slice_get, ap, sym, refl, arith}
use Rattle.std.proofs.lemmas.Option.{slice_get-get_or}
use Rattle.cp_tree.specs.Read.{IsRead}
use Rattle.cp_tree.specs.Syntax.{Tree, invoke}
use Rattle.cp_layout.specs.Laid.{plain, laid}
use Rattle.cp_slots.specs.Tables.{Tables}
use Rattle.cp_meaning_laws.specs.Accepted.{IsAccepted}
use Rattle.cp_legend.specs.Names.{Legend, RoutineNames}
use Rattle.cp_legend_laws.specs.Called.{called_in_legend, tabled}
use Rattle.cp_legend_laws.specs.Paths.{called_in_language}
use Rattle.cp_legend_laws.specs.Statements.{PlacesAreNamed, RoutinesAreTold, ValuesAreTold, routine_text}
use Rattle.cp_machine.specs.declared.event.Event.TheVariants as step
use Rattle.cp_machine.specs.declared.event.Kernel.TheVariants.{Enter}
use Rattle.cp_machine.specs.declared.discipline.Discipline as slot_gates
use Rattle.cp_machine.specs.declared.process.Status as slot_status
use Rattle.cp_machine.specs.declared.process.Status.TheVariants as status
use Rattle.cp_machine.specs.Machine.{Machine, no_thread, thread_at}
use Rattle.cp_meaning.specs.Components.{components_of}
use Rattle.cp_meaning.specs.Expressions.{meaning_here}
use Rattle.cp_meaning.specs.Scopes.{Meaning, continue_procedure, standard_meaning}
use Rattle.cp_meaning.specs.State as meaning
use Rattle.cp_meaning.specs.State.{Call, CallKind, Discipline, Item, State, Status, at_gate, current, delayed, ended, entry_routine, initial_statement, is_entry_kind, local_routine, own_statement, ready, return, statement_item, unstarted}
use Rattle.cp_meaning.specs.Steps.{line_at, step_of, view_of}
use Rattle.cp_run.specs.Slots.{slots}
use Rattle.cp_run.specs.System.{System}
use Rattle.cp_resolved.specs.Layouts.{Layouts}
use Rattle.cp_resolved.specs.Openings.{openings_of}
use Rattle.cp_resolved.specs.TreeLayouts.{layouts_of}
use Rattle.cp_machine_laws.specs.InStep.{CanGo, GoInStep}
use Rattle.cp_machine_laws.specs.Law.{ground_of}
use Rattle.cp_machine_laws.specs.Named.{named, named_discipline}
use Rattle.cp_machine_laws.specs.Represents.{Runs, StatusIs}
use Rattle.cp_machine_laws.proofs.HoldsInReached.{reached_stands}
use Rattle.cp_machine_laws.proofs.Meaning.{known}
use Rattle.cp_machine_laws.proofs.steps.Going.{Going}
use Rattle.cp_story.specs.Passed.{arguments, given_back}
use Rattle.cp_story_laws.specs.Aims.{ends_first, ends_now, is_continue}
use Rattle.cp_story_laws.specs.Passed as on_names
use Rattle.cp_story_laws.proofs.CalledInProgram.{calls_routine}
use Rattle.cp_story_laws.proofs.Entering.{enters_seen, step_enters}
use Rattle.cp_story_laws.proofs.EntersRoutine.{enters_routine}
use Rattle.cp_story_laws.proofs.passed.NamedCalls.{AreNamed, admitted_named, entry_named, opening_named, step_named}
use Rattle.cp_story_laws.proofs.passed.PassedAgree.{arguments_same, given_same}
use Rattle.cp_story_laws.proofs.Together as together

-- ---- what ends a call

-- both of two
first_of : (a b : Bool) → (a && b) ≡ true → a ≡ true
first_of true b e = refl
first_of false b e = absurd (cc)

entry_kind : (k : CallKind) → is_entry_kind k ≡ true → k ≡ entry_routine
entry_kind entry_routine e = refl
entry_kind own_statement e = absurd (cc)
entry_kind initial_statement e = absurd (cc)
entry_kind local_routine e = absurd (cc)

continues_as : (m : Option Meaning) → is_continue m ≡ true → m ≡ Some (standard_meaning continue_procedure)
continues_as (Some (standard_meaning continue_procedure)) e = refl
continues_as _ e = absurd (cc)

module _ (t : Tree) (r : Tables) (g : slot_gates.Discipline) (l : Legend) (read : IsRead t.program) (ok : IsAccepted t) (same : plain r ≡ laid t) (tables : map tabled l.components ≡ r.components) (paths : map called_in_legend l.components ≡ map (called_in_language t.program) (components_of t.program))
    (names : map (λ (n : RoutineNames). n.name) l.routines ≡ map routine_text (openings_of t.program)) (places : PlacesAreNamed t l) (locals : RoutinesAreTold t l) (values : ValuesAreTold t l) where
  abbrev h : Discipline
  h = named_discipline g

  abbrev on_states : System State
  on_states = named t h

  abbrev on_slots : System Machine
  on_slots = slots r g

  abbrev Related : State → Machine → Type 0
  Related = together.Related t r g read ok same

  go : GoInStep on_states on_slots Related
  go = together.go t r g read ok same

  abbrev lay : Layouts
  lay = layouts_of t

  -- ---- frames that are left by a return, in each state of a run

  pub named_start : AreNamed (openings_of t.program) on_slots.start
  named_start = opening_named (openings_of t.program) r g

  pub named_step : (m : Machine) (p : ℕ) → AreNamed (openings_of t.program) m → AreNamed (openings_of t.program) (on_slots.step m p)
  named_step m p k = step_named (openings_of t.program) r m p k (calls_routine t r same)

  pub named_admission : (m : Machine) (p : ℕ) → AreNamed (openings_of t.program) m → AreNamed (openings_of t.program) (on_slots.admit m p)
  named_admission m p k = admitted_named (openings_of t.program) m p k

  module _ (s : State) (m : Machine) (p : ℕ) (sim : Related s m) (can : CanGo on_states s p) where
    going : Going (ground_of t r) t.program lay s m p
    going = together.going t r g read ok same s m p sim can

    -- ---- a call that begins

    abbrev s2 : State
    s2 = on_states.step s p

    abbrev m2 : Machine
    m2 = on_slots.step m p

    sim2 : Related s2 m2
    sim2 = go.step s m p sim can

    -- a process that executes an entry runs
    runs_of : (u : Status) (w : slot_status.Status) → StatusIs (ground_of t r) t.program lay p (meaning.process_at s2.processes p) (thread_at m2.threads p) u w → (current (meaning.process_at s2.processes p).calls).kind ≡ entry_routine → Runs (ground_of t r) t.program lay (meaning.process_at s2.processes p) (thread_at m2.threads p)
    runs_of ready status.Ready k e = k
    runs_of (at_gate n) (status.AtGate j) k e = k.1
    runs_of (delayed n) (status.Delayed cell) k e = k
    runs_of unstarted status.Unstarted k e = absurd (let bad : own_statement ≡ entry_routine = sym (ap (λ (cs : List Call). (current cs).kind) k.0) ∙ e in cc)
    runs_of ended status.Ended k e = absurd (let bad : own_statement ≡ entry_routine = sym k.3 ∙ (sym (ap (λ (cs : List Call). (current cs).kind) k.1) ∙ e) in cc)
    runs_of u w k e = absurd k

    pub arguments_now : on_slots.event m p ≡ step.Kernel Enter → arguments l (slice_get m2.threads p) ≡ on_names.arguments_told (view_of t.program s2 p)
    arguments_now e =
        let k = going in
        let open_call = (reached_stands t ok h s sim.reached).open_call p k.there (λ f. (let bad : ready ≡ unstarted = sym k.was ∙ f in cc)) in
        let entered = step_enters t.program s p k.there open_call.0 open_call.1 open_call.2 (enters_seen p (line_at t s p) (step_of t.program s p).event (go.event s m p sim can ∙ e)) in
        let count = sim.fits.threads in
        let count2 = sim2.fits.threads in
        let many = k.many in
        let many2 : p < length m2.threads = omega (arith, count, count2, many) in
        let less : p < length s2.processes = (let a = sim2.represents.process_count in omega (arith, a, many2)) in
        let runs = runs_of (meaning.process_at s2.processes p).status (thread_at m2.threads p).status (sim2.represents.processes p less).status entered.0 in
        let called = enters_routine r (openings_of t.program) m p k.many (calls_routine t r same) e in
        ap (arguments l) (slice_get-get_or m2.threads p no_thread many2) ∙ arguments_same t r g l read ok same tables paths names places locals values s2 m2 sim2 p many2 runs called

    -- ---- a call that ends

    ends_entry : (items : List Item) → (meaning.process_at s.processes p).items ≡ items → ends_first s.discipline.signals (view_of t.program s p) items ≡ true → (current (meaning.process_at s.processes p).calls).kind ≡ entry_routine
    ends_entry (statement_item (invoke at d es) ∷ items) e f =
        let k = going in
        ((known t r h read ok same).states s m sim).continues p
        (record { there = k.there; ready_now = k.was; token = at; name = d; arguments = es; items = items; next = e; standard = continues_as (meaning_here (view_of t.program s p) d) (first_of _ _ f) })
    ends_entry (return o ∷ items) e f = entry_kind (current (meaning.process_at s.processes p).calls).kind (first_of _ _ f)
    ends_entry _ e f = absurd (cc)

    -- where each frame that is left by a return executes a routine with a name
    pub given_now : AreNamed (openings_of t.program) m → ends_now t s p ≡ true → given_back l m.permanents (slice_get m.threads p) ≡ on_names.given_back (view_of t.program s p)
    given_now named_so e =
        let k = going in
        let thread = thread_at m.threads p in
        let process = meaning.process_at s.processes p in
        let entry = ends_entry process.items refl e in
        let has = entry_named (openings_of t.program) (ground_of t r) t.program lay thread.stack thread.frame process.calls process.items k.stack entry (named_so p) in
        ap (given_back l m.permanents) (slice_get-get_or m.threads p no_thread k.many)
        ∙ given_same t r g l read ok same tables paths names places locals values s m sim p k.many (record { stack = k.stack; calls = k.calls }) has
