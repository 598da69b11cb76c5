-- Who enters a monitor has begun an entry call of it.
use Rattle.std.proofs.Common.{◌≡◌, ◌∙◌, ℕ, ◌<◌, ◌==◌, Bool, true, false, if◌then◌else◌, List, ◌∷◌, Option, Some, None, Ok, Err, ap, sym, refl, subst, length, slice_set, get_or-set_same}
use Rattle.cp_tree.specs.declared.declaration.SystemKind.{SystemKind}
use Rattle.cp_tree.specs.declared.declaration.SystemKind.TheVariants as system_kind
use Rattle.cp_tree.specs.Syntax.{Program}
use Rattle.cp_machine.specs.declared.event.Event.TheVariants as slot
use Rattle.cp_machine.specs.declared.event.Kernel.TheVariants as call
use Rattle.cp_meaning.specs.Calls.{bound, is_uninitialised, entered_as, started_as}
use Rattle.cp_meaning.specs.Declarations.{RoutineMeaning}
use Rattle.cp_meaning.specs.Expressions.{target_value}
use Rattle.cp_meaning.specs.Kernel.{Event, local_event, enter_event, leave_event, delay_event, continue_event, start_event, display_event, ended_event, fault_event, output_full, output_room, moved_to, entering, is_anybody_inside, process_of, starting_as, starting, displaying, kernel_step}
use Rattle.cp_meaning.specs.LocalRules.{continued_from, leaving_move, takes}
use Rattle.cp_meaning.specs.Move.{Move, stays, enters, leaves, delays, continues, starts, shows, ends, Doing}
use Rattle.cp_meaning.specs.Names.{Name}
use Rattle.cp_meaning.specs.Outcome.{Outcome}
use Rattle.cp_meaning.specs.Places.{View, component_there}
use Rattle.cp_meaning.specs.State.{Environment, Component, component_at, CallKind, own_statement, initial_statement, local_routine, entry_routine, Call, current, Item, Place, Status, unstarted, ready, at_gate, Process, no_process, process_at, Shown, State}
use Rattle.cp_meaning.specs.Steps.{step_of, settled, view_of}
use Rattle.cp_meaning.specs.Systems.{SystemMeaning, system_of}
use Rattle.cp_meaning.proofs.Taken.{AllOf, whatever, if_all, Rules, takes_all}
use Rattle.cp_machine_laws.specs.Named.{event_of}

-- ---- what an item does

module _ (p : Program) (c : Call) (calls : List Call) (cs : List Component) (pid : ℕ) where
  abbrev v : View
  v = record { program = p; calls = c ∷ calls; components = cs }

  -- the innermost call is an entry call of the monitor that is entered
  abbrev pub EntersBy : Move → List Call → Type 0
  EntersBy (enters m) ds = ((current ds).kind ≡ entry_routine) × ((current ds).component ≡ m) × ((component_at cs m).kind ≡ system_kind.Monitor)
  EntersBy _ ds = Unit {0}

  abbrev pub EntersWell : Doing → Type 0
  EntersWell d = EntersBy d.move d.calls

  entry_well : (k : SystemKind) (d : ℕ) (r : RoutineMeaning) (o : Option Name) (items : List Item) (e : Environment) → (component_at cs d).kind ≡ k → EntersWell (entered_as k v d r o items e)
  entry_well system_kind.Monitor d r o items e is = (refl, refl, is)
  entry_well system_kind.Class d r o items e is = tt
  entry_well system_kind.Process d r o items e is = tt

  started_well : (k : SystemKind) (d : ℕ) (s : SystemMeaning) (items : List Item) (e : Environment) → AllOf EntersWell (started_as k v d s items e)
  started_well system_kind.Process d s items e = tt
  started_well system_kind.Class d s items e = if_all EntersWell (is_uninitialised (component_at cs d).status) _ _ (λ h. tt) tt
  started_well system_kind.Monitor d s items e = if_all EntersWell (is_uninitialised (component_at cs d).status) _ _ (λ h. tt) tt

  continued_well : (k : CallKind) (items : List Item) (q : Place) → EntersWell (continued_from v k items q)
  continued_well entry_routine items q = tt
  continued_well own_statement items q = tt
  continued_well initial_statement items q = tt
  continued_well local_routine items q = tt

  leaving_well : (b : Bool) (k : SystemKind) (n : ℕ) (ds : List Call) → EntersBy (if b then leaving_move k n else stays) ds
  leaving_well true system_kind.Monitor n ds = tt
  leaving_well true system_kind.Class n ds = tt
  leaving_well true system_kind.Process n ds = tt
  leaving_well false k n ds = tt

  rules : Rules p (c ∷ calls) cs pid EntersWell (λ u. Unit {0}) (λ items. Unit {0}) (λ q. Unit {0}) (λ e. Unit {0}) (λ k e. Unit {0})
  rules =
      record {
        near = λ d. whatever (target_value v d);
        named = λ i. tt;
        arguments = λ qs es. whatever (bound v qs es);
        handed = λ k es. whatever (bound v (system_of p k).parameters es);
        plain = λ xs items h k. tt;
        rest = λ i items h k. tt;
        as_it_is = tt;
        stores = λ q w n. tt;
        goes_on = λ u items a f. tt;
        ended = λ items f. tt;
        shows = λ items x f. tt;
        opens = λ r o items e k f. tt;
        enters = λ q r o items e n k i f. entry_well (component_at cs (component_there v q)).kind (component_there v q) r o items e refl;
        starts = λ q items e n h f. started_well (component_at cs (component_there v q)).kind (component_there v q) (system_of p (component_at cs (component_there v q)).system) items e;
        waits = λ q items n f. tt;
        continues = λ q items n f. continued_well c.kind items q;
        returns = λ o items f. leaving_well _ _ _ _;
        finishes = λ m items f. tt;
      }

  pub takes_well : (items : List Item) → AllOf EntersWell (takes v pid items)
  takes_well items = takes_all p (c ∷ calls) cs pid EntersWell (λ u. Unit {0}) (λ items. Unit {0}) (λ q. Unit {0}) (λ e. Unit {0}) (λ k e. Unit {0}) rules items tt

-- ---- what the kernel does

module _ (p : Program) (s : State) (pid : ℕ) (less : pid < length s.processes) where
  -- the process executes an entry call of a monitor
  abbrev pub HasEntered : State → Type 0
  HasEntered t = ((current (process_at t.processes pid).calls).kind ≡ entry_routine) × ((component_at s.components (current (process_at t.processes pid).calls).component).kind ≡ system_kind.Monitor)

  module _ (d : Doing) where
    abbrev become : Status → Process
    become u = record { component = (process_at s.processes pid).component; status = u; calls = d.calls; items = d.items }

    calls_are : (u : Status) → (process_at (slice_set s.processes pid (become u)) pid).calls ≡ d.calls
    calls_are u = ap (λ (x : Process). x.calls) (get_or-set_same s.processes pid (become u) no_process less)

    entered_at : (m : ℕ) (u : Status) (t : State) → t.processes ≡ slice_set s.processes pid (become u) → (current d.calls).kind ≡ entry_routine → (current d.calls).component ≡ m → (component_at s.components m).kind ≡ system_kind.Monitor → HasEntered t
    entered_at m u t same kind is monitor =
        let now : (process_at t.processes pid).calls ≡ d.calls = ap (λ (ps : List Process). (process_at ps pid).calls) same ∙ calls_are u in
        (ap (λ (cs : List Call). (current cs).kind) now ∙ kind, ap (λ (n : ℕ). (component_at s.components n).kind) (ap (λ (cs : List Call). (current cs).component) now ∙ is) ∙ monitor)

    entering_is : (b : Bool) (m : ℕ) → (current d.calls).kind ≡ entry_routine → (current d.calls).component ≡ m → (component_at s.components m).kind ≡ system_kind.Monitor → HasEntered (entering b s pid m d)
    entering_is false m = entered_at m ready (entering false s pid m d) refl
    entering_is true m = entered_at m (at_gate m) (entering true s pid m d) refl

    no_start_as : (r : ℕ) (u : Status) (n : ℕ) (e : Environment) → (starting_as p s pid d r u n e).event ≡ enter_event → ⊥
    no_start_as r unstarted n e h = absurd (cc)
    no_start_as r u n e h = absurd (cc)

    no_start : (o : Option ℕ) (n : ℕ) (e : Environment) → (starting p s pid d o n e).event ≡ enter_event → ⊥
    no_start None n e h = absurd (cc)
    no_start (Some r) n e h = no_start_as r (process_at (moved_to ready s pid d).processes r).status n e h

    no_display : (b : Bool) (x : Shown) → (displaying b s pid d x).event ≡ enter_event → ⊥
    no_display true x h = absurd (cc)
    no_display false x h = absurd (cc)

    kernel_enters : (c : Call) (calls : List Call) (move : Move) → EntersBy p c calls s.components pid move d.calls → (kernel_step p s pid d move).event ≡ enter_event → HasEntered (kernel_step p s pid d move).state
    kernel_enters c calls (enters m) w h = entering_is (is_anybody_inside m s.processes) m w.0 w.1 w.2
    kernel_enters c calls stays w h = absurd (cc)
    kernel_enters c calls (leaves m) w h = absurd (cc)
    kernel_enters c calls (delays m) w h = absurd (cc)
    kernel_enters c calls (continues m o goes items) w h = absurd (cc)
    kernel_enters c calls (starts n e) w h = absurd (no_start (process_of n (moved_to ready s pid d).processes) n e h)
    kernel_enters c calls (shows x) w h = absurd (no_display (length s.output == output_room) x h)
    kernel_enters c calls ends w h = absurd (cc)

  settled_enters : (c : Call) (calls : List Call) (o : Outcome Doing) → AllOf (EntersWell p c calls s.components pid) o → (settled p s pid o).event ≡ enter_event → HasEntered (settled p s pid o).state
  settled_enters c calls (Ok d) w h = kernel_enters d c calls d.move w h
  settled_enters c calls (Err e) w h = absurd (cc)

  pub step_enters : (c : Call) (calls : List Call) → (process_at s.processes pid).calls ≡ c ∷ calls → (step_of p s pid).event ≡ enter_event → HasEntered (step_of p s pid).state
  step_enters c calls e =
      settled_enters c calls (takes (view_of p s pid) pid (process_at s.processes pid).items)
      (subst (λ (ds : List Call). AllOf (EntersWell p c calls s.components pid) (takes (record { program = p; calls = ds; components = s.components }) pid (process_at s.processes pid).items)) (sym e) (takes_well p c calls s.components pid (process_at s.processes pid).items))

-- the same event, as others see it
pub enters_seen : (q line : ℕ) (e : Event) → event_of q line e ≡ slot.Kernel call.Enter → e ≡ enter_event
enters_seen q line enter_event h = refl
enters_seen q line local_event h = absurd (cc)
enters_seen q line leave_event h = absurd (cc)
enters_seen q line delay_event h = absurd (cc)
enters_seen q line continue_event h = absurd (cc)
enters_seen q line start_event h = absurd (cc)
enters_seen q line display_event h = absurd (cc)
enters_seen q line ended_event h = absurd (cc)
enters_seen q line (fault_event e) h = absurd (cc)
enters_seen q line output_full h = absurd (cc)
