-- The names of components at a process that runs: they stand for the components of the tables, since its own component has begun.
use Rattle.cp_machine_laws.proofs.Words.{◌≡◌, Some, ◌∙◌, ℕ, ◌+◌, ◌^◌, ◌<◌, sym, subst, arith, length, Tree, Program, Tables, component_at, MachineFits, Machine, thread_at}
use Rattle.cp_machine_laws.proofs.Words.{Name, current, State, view_of, Ty, Layouts, here, look, Ground, NamesKnown, ground_of, Prepared, HasBegun, CallsHold, own_memory}
use Rattle.cp_machine.specs.Reach.{Reaches, FrameReaches}
use Rattle.cp_machine.proofs.frames.Covered.{frame_reaches}
use Rattle.cp_meaning.specs.State as named
use Rattle.cp_machine_laws.proofs.calls.CallSteps.{call_component}
use Rattle.cp_machine_laws.proofs.expressions.ComponentPlaces.{ComponentsKnown}
use Rattle.cp_machine_laws.proofs.expressions.ComponentsSeen.{components_known}
use Rattle.cp_machine_laws.proofs.control.Control.{top_frame}
use Rattle.cp_machine_laws.proofs.steps.Executed.{own_frame}
use Rattle.cp_machine_laws.proofs.steps.Going.{Going}
use Rattle.cp_machine_laws.proofs.HoldsInReached.{HoldsInReached}
use Rattle.cp_machine_laws.proofs.reached.ReadyInReached.{ReadyInReached}

module _ (t : Tree) (r : Tables) (l : Layouts) (prepared : Prepared t r l) (s : State) (known : HoldsInReached t.program s) (m : Machine) (ready : ReadyInReached (ground_of t r) t.program s m) (fits : MachineFits r m) (reach : Reaches r m) (q : ℕ) (k : Going (ground_of t r) t.program l s m q) where
  abbrev g : Ground
  g = ground_of t r

  abbrev p : Program
  p = t.program

  pub reaches_own : FrameReaches r (thread_at m.threads q).references (thread_at m.threads q).frame
  reaches_own = frame_reaches r (thread_at m.threads q).references (thread_at m.threads q).frame (thread_at m.threads q).stack (reach.frames q k.many)

  -- the component whose statement is executed, and its system type
  abbrev pub executed : ℕ
  executed = (thread_at m.threads q).frame.component

  pub executed_there : executed < length r.components
  executed_there = reaches_own.component.0

  pub executed_system : (component_at r executed).system ≡ l.owners (thread_at m.threads q).frame.routine
  executed_system = reaches_own.component.1 ∙ (prepared.stands.routines (thread_at m.threads q).frame.routine (own_frame t r l prepared m q fits k.many).routine).system

  -- what the process executes on names
  pub current_component : (current (named.process_at s.processes q).calls).component ≡ executed
  current_component =
      let top = top_frame (thread_at m.threads q).frame (thread_at m.threads q).stack in
      call_component r l (own_memory (thread_at m.threads q)) (named.process_at s.processes q).calls (thread_at m.threads q).frame top.0 (subst (λ fs. CallsHold r l (own_memory (thread_at m.threads q)) (named.process_at s.processes q).calls fs) top.1 k.calls)

  begun_now : HasBegun s (component_at r executed).kind (named.component_at s.components executed).status
  begun_now = subst (λ n. HasBegun s (component_at r n).kind (named.component_at s.components n).status) current_component (ready.begun q k.there k.was)

  slots_few : (x : Name) (u : Ty) → look x (l.systems (component_at r executed).system).parts ≡ Some u → (thread_at m.threads q).frame.own + (l.systems (component_at r executed).system).slots x < 2 ^ 64
  slots_few x u e =
      let a = reaches_own.own in
      let b = prepared.program.systems.parts (component_at r executed).system x u (prepared.program.below executed executed_there) e in
      let c = (prepared.sound.typed.components executed executed_there).cells in
      let d = prepared.sound.typed.words.permanents in
      omega (arith, a, b, c, d)

  pub components_now : ComponentsKnown (view_of p s q) (thread_at m.threads q).frame (here p l (thread_at m.threads q).frame.routine) m.bindings
  components_now =
      let top = top_frame (thread_at m.threads q).frame (thread_at m.threads q).stack in
      components_known g p l s m k.rep (named.process_at s.processes q).calls (thread_at m.threads q).frame top.0 (own_memory (thread_at m.threads q))
      (subst (λ fs. CallsHold r l (own_memory (thread_at m.threads q)) (named.process_at s.processes q).calls fs) top.1 k.calls)
      (prepared.stands.components executed executed_there)
      known.found (known.path executed)
      (let a = k.rep.component_count in let b = prepared.sound.typed.words.components in omega (arith, a, b)) slots_few begun_now
      (subst (λ n. NamesKnown p l (thread_at m.threads q).frame.routine n) (sym executed_system) (prepared.program.routines (thread_at m.threads q).frame.routine (own_frame t r l prepared m q fits k.many).routine).components)
