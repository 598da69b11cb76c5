-- The step of a start, of a process or of a class or monitor: it goes on slots as on names.
use Rattle.std.proofs.Common.{◌≡◌, ◌∙◌, ℕ, ◌<◌, true, false, List, [], ◌∷◌, ◌++◌, Option, Some, ap, sym, refl, subst, arith, length}
use Rattle.std.specs.Global.{Global}
use Rattle.std.specs.Prelude.{Result, Ok, Err, Vec, map, slice_index}
use Rattle.cp_machine_laws.proofs.Words.{SystemKind, Tree, Program, Expressions, no_expressions, more_expressions, Start, Argument, ComponentPlace, ComponentKind, ActionFits}
use Rattle.cp_machine_laws.proofs.Words.{CallFits, Bound, Frame, Entry, MachineFits, Machine, thread_at, Reaches, step_at, bound, Parameter, target_value, process_of, Name}
use Rattle.cp_machine_laws.proofs.Words.{Outcome, View, Target, component_there, Environment, Item, start_item, State, view_of, step_of, at_designator, system_of, Layouts}
use Rattle.cp_machine_laws.proofs.Words.{Here, here, SystemIs, initial_meaning, Ground, AreGiven, BoundsAgree, ComponentAgrees, SameKind, ground_of, Prepared, frames_of}
use Rattle.cp_machine_laws.proofs.Words.{AreHandedSo, StateKnown, ActionNames, StartNames, IsOf, HaveTypes}
use Rattle.cp_tree.specs.declared.declaration.SystemKind.TheVariants as system_kind
use Rattle.cp_slots.specs.Code as code
use Rattle.cp_slots.specs.declared.item.Action.TheVariants as action
use Rattle.cp_slots.specs.declared.tables.ComponentKind.TheVariants as kind
use Rattle.cp_slots.specs.Tables.{Tables, item_at, component_at, process_at, routine_at, system_at}
use Rattle.cp_store.specs.declared.error.ErrorName as slots
use Rattle.cp_machine.specs.Memory.{memory_at, component_of, arguments_of}
use Rattle.cp_machine_laws.specs.Followed.{AreArguments, IsStartable}
use Rattle.cp_meaning.specs.State as named
use Rattle.cp_machine_laws.specs.ItemsKnown.{StartKnown}
use Rattle.cp_machine_laws.proofs.starts.Begun.{CanBegin}
use Rattle.cp_machine_laws.proofs.calls.CallFitting.{can_call}
use Rattle.cp_machine_laws.proofs.expressions.ComponentPlaces.{ComponentsKnown}
use Rattle.cp_machine_laws.proofs.expressions.ComponentsNow.{components_now}
use Rattle.cp_machine_laws.proofs.control.Control.{Taken, StepIs, top_frame}
use Rattle.cp_machine_laws.proofs.steps.Executed.{executes, systems_stand}
use Rattle.cp_machine_laws.proofs.steps.Found.{action_fits_here, action_names, found_of}
use Rattle.cp_machine_laws.proofs.steps.Going.{Going}
use Rattle.cp_machine_laws.proofs.HoldsInReached.{HoldsInReached}
use Rattle.cp_machine_laws.proofs.starts.InitialStarts.{start_initial_step}
use Rattle.cp_machine_laws.proofs.starts.ProcessStarts.{start_process_step}
use Rattle.cp_machine_laws.proofs.starts.Starting.{IsFound, AreGivenTo, parameters_of, CanBeStarted, is_start}
use Rattle.cp_machine_laws.proofs.reached.ReadyInReached.{ReadyInReached}
use Rattle.cp_machine_laws.proofs.control.Running.{Executes}
use Rattle.cp_machine_laws.proofs.starts.StartFitting.{start_arguments_known, can_start}
use Rattle.cp_machine_laws.proofs.starts.StartNames.{start_component, start_arguments}
use Rattle.cp_machine_laws.proofs.steps.StepOfCall.{leads_to}
use Rattle.cp_machine_laws.proofs.steps.StepOfStatement.{below_fits}
use Rattle.cp_machine_laws.proofs.reached.SystemKinds.{kind_is, process_type}

abbrev number_of : ComponentKind → ℕ
number_of (kind.Process j) = j
number_of c = 0

process_number : (a : SystemKind) (c : ComponentKind) → SameKind a c → a ≡ system_kind.Process → c ≡ kind.Process (number_of c)
process_number system_kind.Process (kind.Process j) h e = refl
process_number system_kind.Monitor (kind.Monitor j) h e = absurd (cc)
process_number system_kind.Class kind.Class h e = absurd (cc)
process_number a c h e = absurd h

-- the arguments of a start are those that its parameters want
arguments_follow : (r : Tables) (l : Layouts) (fs : List Frame) (v : View) (h : Here) (base own : ℕ) (slots : Name → ℕ) (qs : List Parameter) (es : Expressions) (xs : List code.Argument) → AreGiven h slots qs es xs → HaveTypes qs → AreHandedSo r l fs v base own qs es → AreArguments v qs es
arguments_follow r l fs v h base own slots [] no_expressions [] given typed handed = tt
arguments_follow r l fs v h base own slots (q ∷ qs) (more_expressions e es) (x ∷ xs) given typed handed =
    (record { variable = λ is. absurd (let no : true ≡ false = sym is ∙ typed.0 in cc); component = handed.0.component }, arguments_follow r l fs v h base own slots qs es xs given.2 typed.2 handed.1)
arguments_follow r l fs v h base own slots qs es xs given typed handed = absurd given

-- what a name leads to, where a place of the tables leads to a component
record Led (t : Tree) (s : State) (q n : ℕ) (o : Outcome Target) : Type 0 where
  target : Target
  is : o ≡ Ok target
  component : component_there (view_of t.program s q) target.place ≡ n

led : (t : Tree) (s : State) (q n : ℕ) (o : Outcome Target) (b : Result ℕ slots.ErrorName) → b ≡ Ok n → ComponentAgrees (view_of t.program s q) o b → Led t s q n o
led t s q n (Ok u) (Ok c) e h = record { target = u; is = refl; component = h ∙ (cc) }
led t s q n (Err d) (Err c) e h = absurd (cc)
led t s q n _ _ e h = absurd h

module _ (t : Tree) (r : Tables) (l : Layouts) (prepared : Prepared t r l) (s : State) (known : HoldsInReached t.program s) (m : Machine) (ready : ReadyInReached (ground_of t r) t.program s m) (fits : MachineFits r m) (reach : Reaches r m) (states : StateKnown t r l s m) (q : ℕ) (going : Going (ground_of t r) t.program l s m q) (at : ℕ) (mid : Option ℕ) (es : List Entry) (xs ys : List Item)
    (x : Start) (k : Taken (ground_of t r) t.program l s m q at (start_item x) mid es xs ys) (rules : StartKnown (here t.program l (thread_at m.threads q).frame.routine) x) where
  abbrev g : Ground
  g = ground_of t r

  abbrev p : Program
  p = t.program

  abbrev this : Here
  this = here p l (thread_at m.threads q).frame.routine

  abbrev routine : ℕ
  routine = (l.systems k.own.system).initial

  ex : Executes g p l m q
  ex = executes t r l prepared m q fits going.many

  names_here : ComponentsKnown (view_of p s q) (thread_at m.threads q).frame this m.bindings
  names_here = components_now t r l prepared s known m ready fits reach q going

  -- the system type of what is started
  system_is : SystemIs g p l k.own.system
  system_is = prepared.stands.systems k.own.system (rules k.own.part k.own.system k.own.target)

  act_is : (c : ComponentPlace) × (as' : Vec Argument Global) × ((item_at r at).action ≡ action.Start c routine as') × (code.component_seen c ≡ k.own.part) × (map code.argument_seen as'.items ≡ k.own.arguments)
  act_is = is_start (item_at r at).action k.own.part routine k.own.arguments k.own.item.action

  room : CallFits r (thread_at m.threads q).frame.routine (item_at r at).need routine act_is.1.items
  room = subst (λ a. ActionFits r (thread_at m.threads q).frame.routine (item_at r at).need a) act_is.2 (action_fits_here r m q prepared.sound fits reach going.many going.was_slot at es k.stack)

  item_names : StartNames r (routine_at r (thread_at m.threads q).frame.routine).system routine act_is.0 act_is.1.items
  item_names = subst (λ a. ActionNames r (routine_at r (thread_at m.threads q).frame.routine).system a) act_is.2 (action_names r m q prepared.sound fits reach going.many going.was_slot at es k.stack)

  found : (d : ℕ) → IsFound g p l s m q at x mid es xs ys k d → IsOf r (routine_at r routine).system d
  found d f = found_of r m q prepared.sound fits reach going.many going.was_slot at es k.stack act_is.0 f.0 (routine_at r routine).system d (act_is.3 ∙ sym f.1) item_names.0 f.2

  found_system : (d : ℕ) → IsFound g p l s m q at x mid es xs ys k d → (component_at r d).system ≡ k.own.system
  found_system d f = (found d f).1 ∙ ((prepared.stands.routines routine room.routine).system ∙ system_is.owner)

  leads : (place : ComponentPlace) → code.component_seen place ≡ k.own.part → ComponentAgrees (view_of p s q) (target_value (view_of p s q) x.target) (component_of m q place)
  leads = start_component g p l s m q at x mid es xs ys k ex names_here

  handed_so : (d : ℕ) → IsFound g p l s m q at x mid es xs ys k d →
      AreHandedSo r l (frames_of (thread_at m.threads q).frame es) (view_of p s q) (component_at r d).base (system_at r (component_at r d).system).own (system_of p (component_at r d).system).parameters x.arguments
  handed_so d f =
      let w = led t s q d (target_value (view_of p s q) x.target) (component_of m q f.0) f.2 (leads f.0 f.1) in
      subst (λ us. AreHandedSo r l (frames_of (thread_at m.threads q).frame us) (view_of p s q) (component_at r d).base (system_at r (component_at r d).system).own (system_of p (component_at r d).system).parameters x.arguments) k.stack
      (states.starts q d x (record { there = going.there; ready_now = going.was; items = xs ++ ys; next = k.items; target = w.target; found = w.is; component = w.component }))

  handed : (d : ℕ) → IsFound g p l s m q at x mid es xs ys k d → (as' : List Argument) → map code.argument_seen as' ≡ k.own.arguments →
      BoundsAgree (λ (e : Environment) (bs : List Bound). AreGivenTo g p l s m q at x mid es xs ys k (memory_at m q) d e as' bs) (bound (view_of p s q) (parameters_of g p l s m q at x mid es xs ys k d) x.arguments) (arguments_of m q as')
  handed d f as' seen =
      start_arguments g p l s m q at x mid es xs ys k ex names_here d f (found_system d f)
      (start_arguments_known r l ((thread_at m.threads q).frame ∷ (top_frame (thread_at m.threads q).frame es).0) (view_of p s q) (component_at r d).base (system_at r (component_at r d).system).own (parameters_of g p l s m q at x mid es xs ys k d) x.arguments
      (prepared.program.systems.typed (component_at r d).system)
      (subst (λ fs. AreHandedSo r l fs (view_of p s q) (component_at r d).base (system_at r (component_at r d).system).own (system_of p (component_at r d).system).parameters x.arguments) (top_frame (thread_at m.threads q).frame es).1 (handed_so d f)))
      as' seen

  can_be_started : CanBeStarted g p l s m q at x mid es xs ys k
  can_be_started =
      record {
        component = leads;
        arguments = handed;
        kinds = ready.kinds;
        can = λ d f. can_start t r l prepared s m q fits going.many d (found d f).0;
        system = λ d f. ready.systems d (found d f).0;
      }

  -- ---- a process

  module _ (is_process : (system_of p k.own.system).kind ≡ system_kind.Process) where
    process_found : (d : ℕ) → IsFound g p l s m q at x mid es xs ys k d → (component_at r d).kind ≡ kind.Process (number_of (component_at r d).kind)
    process_found d f =
        process_number (named.component_at s.components d).kind (component_at r d).kind (ready.kinds d (found d f).0)
        (kind_is t r l prepared s known m ready d (found d f).0 ∙ (ap (λ a. (system_of p a).kind) (found_system d f) ∙ is_process))

    numbered : (d : ℕ) → IsFound g p l s m q at x mid es xs ys k d → (number_of (component_at r d).kind < length s.processes) × (process_of d s.processes ≡ Some (number_of (component_at r d).kind)) × ((process_at r (number_of (component_at r d).kind)).component ≡ d)
    numbered d f = ready.number d (number_of (component_at r d).kind) (found d f).0 (process_found d f)

    begins : (d : ℕ) → IsFound g p l s m q at x mid es xs ys k d → CanBegin g p l d (component_at r d).system (process_at r (number_of (component_at r d).kind))
    begins d f =
        let j = number_of (component_at r d).kind in
        let w = numbered d f in
        let there : j < length r.processes = (let a = w.0 in let b = going.rep.process_count in let c = fits.threads in omega (arith, a, b, c)) in
        record {
          routine_is = prepared.stands.routines (process_at r j).routine (prepared.sound.processes j there).routine;
          system_is = systems_stand t r l prepared d (found d f).0;
          component = w.2;
          routine = (prepared.stands.processes j there).routine ∙ ap (λ c. (l.systems (component_at r c).system).initial) w.2;
          there = (found d f).0;
          of = refl;
          plain = (prepared.sound.typed.processes j there).references;
          unsaid = prepared.program.unsaid (component_at r d).system (ap (λ a. (system_of p a).kind) (found_system d f) ∙ is_process);
        }

    pub start_process_so : StepIs g p l q (slice_index t.lines (at_designator x.target)) (step_of p s q) (step_at r m q)
    start_process_so =
        start_process_step g p l s m q at x mid es xs ys k
        (record {
          start = can_be_started;
          number = λ d. number_of (component_at r d).kind;
          process = process_found;
          known = λ d f. (numbered d f).0;
          same = λ d f. (numbered d f).1;
          begins = begins;
        })

  -- ---- a class or a monitor

  pub start_initial_so : ((system_of p k.own.system).kind ≡ system_kind.Process → ⊥) → StepIs g p l q (slice_index t.lines (at_designator x.target)) (step_of p s q) (step_at r m q)
  start_initial_so never =
      start_initial_step g p l s m q at x mid es xs ys k
      (record {
        start = can_be_started;
        call = λ d f. can_call t r l prepared m q fits going.many (item_at r at).need routine act_is.1.items room es (below_fits t r l prepared s m q at fits going.many mid es xs ys k.stack) d (found d f);
        statement = λ d f. system_is.statement ∙ ap (λ a. initial_meaning (system_of p a)) (sym (found_system d f));
        no_process = λ d j f e. never (ap (λ a. (system_of p a).kind) (sym (found_system d f)) ∙ process_type t r l prepared s known m ready d (found d f).0 j e);
        phases = λ d f. (let a = fits.phases in let b = (found d f).0 in omega (arith, a, b));
      })

  -- ---- the start is one by the rules

  startable : (d : ℕ) → IsFound g p l s m q at x mid es xs ys k d → IsStartable s (view_of p s q) x.arguments d
  startable d f =
      let there : d < length s.components = (let a = (found d f).0 in let b = going.rep.component_count in omega (arith, a, b)) in
      let system : (named.component_at s.components d).system ≡ (component_at r d).system = ready.systems d (found d f).0 in
      record {
        there = there;
        arguments = subst (λ a. AreArguments (view_of p s q) (system_of p a).parameters x.arguments) (sym system)
            (arguments_follow r l (frames_of (thread_at m.threads q).frame es) (view_of p s q) this (component_at r d).base (system_at r (component_at r d).system).own (l.systems k.own.system).slots (system_of p (component_at r d).system).parameters x.arguments k.own.arguments
            (subst (λ a. AreGiven this (l.systems k.own.system).slots (system_of p a).parameters x.arguments k.own.arguments) (sym (found_system d f)) k.own.given)
            (prepared.program.systems.typed (component_at r d).system) (handed_so d f));
        process = λ h. (number_of (component_at r d).kind, (numbered (ap (λ a. (system_of p a).kind) (sym (found_system d f)) ∙ (sym (kind_is t r l prepared s known m ready d (found d f).0) ∙ h)) d f).1);
      }

  pub start_follows : (u : Target) → target_value (view_of p s q) x.target ≡ Ok u → IsStartable s (view_of p s q) x.arguments (component_there (view_of p s q) u.place)
  start_follows u e =
      let to = leads_to (view_of p s q) (target_value (view_of p s q) x.target) (component_of m q act_is.0) (leads act_is.0 act_is.3) u e in
      subst (IsStartable s (view_of p s q) x.arguments) (sym to.2) (startable to.0 (act_is.0, act_is.3, to.1))

  -- ---- both

  pub start_so : StepIs g p l q (slice_index t.lines (at_designator x.target)) (step_of p s q) (step_at r m q)
  start_so = go (system_of p k.own.system).kind refl
    where
      go : (a : SystemKind) → (system_of p k.own.system).kind ≡ a → StepIs g p l q (slice_index t.lines (at_designator x.target)) (step_of p s q) (step_at r m q)
      go system_kind.Process e = start_process_so e
      go system_kind.Monitor e = start_initial_so (λ b. (let w : system_kind.Monitor ≡ system_kind.Process = sym e ∙ b in cc))
      go system_kind.Class e = start_initial_so (λ b. (let w : system_kind.Class ≡ system_kind.Process = sym e ∙ b in cc))
