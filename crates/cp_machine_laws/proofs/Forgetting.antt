-- A machine without what it displayed stands for the state without what it displayed.
use Rattle.cp_machine_laws.proofs.Words.{ℕ, List, [], ◌∷◌, refl, Tree, Program, Tables, component_at, ComponentKind, Frame, Entry, Rest, Successor, Return, InitEnd, Machine}
use Rattle.cp_machine_laws.proofs.Words.{thread_at, State, by_forgetting, Layouts, Ground, ground_of, Simulates, Represents}
use Rattle.cp_machine_laws.proofs.Words.{MachineFits, LinesFit}
use Rattle.cp_machine.specs.Reach.{Reaches, HasBegunAs, ExecutesAs, StackExecutes, EndsBegun}
use Rattle.cp_slots.specs.declared.tables.ComponentKind.TheVariants as kind
use Rattle.cp_meaning.specs.State as named
use Rattle.cp_machine_laws.proofs.control.Moving.{represents_with}

abbrev without_output : Machine → Machine
without_output m = record m { output = [] }

abbrev named_without_output : State → State
named_without_output s = record s { output = [] }

-- ---- what the machine reaches

executes_as : (m : Machine) (pid component : ℕ) (k : ComponentKind) → ExecutesAs m pid component k → ExecutesAs (without_output m) pid component k
executes_as m pid component (kind.Process number) h = h
executes_as m pid component _ h = h

stack_executes : (r : Tables) (m : Machine) (pid : ℕ) (f : Frame) (es : List Entry) → StackExecutes r m pid f es → StackExecutes r (without_output m) pid f es
stack_executes r m pid f [] h = executes_as m pid f.component (component_at r f.component).kind h
stack_executes r m pid f (Rest at ∷ es) h = stack_executes r m pid f es h
stack_executes r m pid f (Successor at value last ∷ es) h = stack_executes r m pid f es h
stack_executes r m pid f (Return caller slot monitor ∷ es) h = (executes_as m pid f.component (component_at r f.component).kind h.0, stack_executes r m pid caller es h.1)
stack_executes r m pid f (InitEnd caller component ∷ es) h = (executes_as m pid f.component (component_at r f.component).kind h.0, stack_executes r m pid caller es h.1)

ends_begun : (m : Machine) (es : List Entry) → EndsBegun m es → EndsBegun (without_output m) es
ends_begun m [] h = tt
ends_begun m (Rest at ∷ es) h = ends_begun m es h
ends_begun m (Successor at value last ∷ es) h = ends_begun m es h
ends_begun m (Return caller slot monitor ∷ es) h = ends_begun m es h
ends_begun m (InitEnd caller component ∷ es) h = (h.0, ends_begun m es h.1)

begun_before : (m : Machine) (component : ℕ) (k : ComponentKind) → HasBegunAs (without_output m) component k → HasBegunAs m component k
begun_before m component (kind.Process number) h = h
begun_before m component _ h = h

reaches : (r : Tables) (m : Machine) → Reaches r m → Reaches r (without_output m)
reaches r m h =
    record {
      frames = h.frames;
      executes = λ q less. stack_executes r m q (thread_at m.threads q).frame (thread_at m.threads q).stack (h.executes q less);
      ends = λ q less. ends_begun m (thread_at m.threads q).stack (h.ends q less);
      bound = λ component number less has few. h.bound component number less (begun_before m component (component_at r component).kind has) few;
    }

fits : (r : Tables) (m : Machine) → MachineFits r m → MachineFits r (without_output m)
fits r m h = record { threads = h.threads; permanents = h.permanents; bindings = h.bindings; phases = h.phases; monitors = h.monitors; pending = h.pending; each = h.each }

lines : (m : Machine) → LinesFit m → LinesFit (without_output m)
lines m h = record { gate = h.gate; once = h.once; pending = h.pending }

-- ---- what it stands for

represented : (g : Ground) (p : Program) (l : Layouts) (s : State) (m : Machine) → Represents g p l s m → Represents g p l (named_without_output s) (without_output m)
represented g p l s m h = represents_with g p l s m [] [] s.pending m.pending refl h.pending h

pub forgets : (t : Tree) (r : Tables) (l : Layouts) (g : named.Discipline) (s : State) (m : Machine) → Simulates t r l g s m → Simulates t r l g (named_without_output s) (without_output m)
forgets t r l g s m h =
    record {
      reached = by_forgetting s h.reached;
      fits = fits r m h.fits;
      lines = lines m h.lines;
      reach = reaches r m h.reach;
      represents = represented (ground_of t r) t.program l s m h.represents;
    }
