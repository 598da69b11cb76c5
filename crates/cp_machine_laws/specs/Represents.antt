-- When a machine on slots stands for a state on names.
use Rattle.std.specs.Prelude.{◌≡◌, ℕ, ◌+◌, ◌<◌, ◌==◌, ℤ, pos, true, if◌then◌else◌, List, [], ◌∷◌, ◌++◌, length, map, Option, Some, None, slice_index_or}
use Rattle.cp_tree.specs.declared.statement.Direction.{Direction}
use Rattle.cp_tree.specs.declared.constant.Identifier.{Identifier}
use Rattle.cp_tree.specs.Syntax.{Statement, Expression, Program}
use Rattle.cp_slots.specs.declared.tables.ComponentKind.{ComponentKind}
use Rattle.cp_slots.specs.declared.tables.ComponentKind.TheVariants as kind
use Rattle.cp_slots.specs.Tables.{Tables, component_at, process_at}
use Rattle.cp_store.specs.declared.memory.Address.{Address}
use Rattle.cp_store.specs.declared.memory.Address.TheVariants.{Permanent, Local}
use Rattle.cp_store.specs.declared.memory.Frame.{Frame}
use Rattle.cp_store.specs.Inside.{HasCells}
use Rattle.cp_store.specs.Memory.{Memory, cell_at}
use Rattle.cp_store.specs.Places.{reference_at}
use Rattle.cp_machine.specs.declared.process.Entry.{Entry}
use Rattle.cp_machine.specs.declared.process.Entry.TheVariants.{Rest, Successor, Return, InitEnd}
use Rattle.cp_machine.specs.declared.process.Status as slot_status
use Rattle.cp_machine.specs.declared.process.Status.TheVariants as status
use Rattle.cp_machine.specs.declared.state.Phase.{Phase}
use Rattle.cp_machine.specs.declared.state.Phase.TheVariants as phase
use Rattle.cp_machine.specs.Machine.{Machine, Thread, thread_at, monitor_at, phase_at}
use Rattle.cp_machine.specs.Opening.{unstarted_thread}
use Rattle.cp_meaning.specs.Names.{Name}
use Rattle.cp_meaning.specs.Types.{Ty, queue_type, is_within}
use Rattle.cp_meaning.specs.Values.{Value, queue_value}
use Rattle.cp_meaning.specs.State as named
use Rattle.cp_meaning.specs.State.{Holder, in_call, in_component, Place, Content, holds, refers, knows, ComponentStatus, uninitialised, initialising, initialised, CallKind, own_statement, initial_statement, local_routine, entry_routine, Call, Item, successor, return, init_end, end, Status, unstarted, ready, at_gate, delayed, ended, Process, State}
use Rattle.cp_meaning.specs.Places.{content_of, value_held, value_at, View}
use Rattle.cp_meaning.specs.Readings.{holder_of}
use Rattle.cp_resolved.specs.Layouts.{cells_of, Layouts, Here, here, cell_named, look}
use Rattle.cp_resolved.specs.Encoded.{encode, HasType, chosen_at}
use Rattle.cp_resolved.specs.Stands.{Ground, ForItem, StatementIs, result_cell, ResultGoes}
use Rattle.cp_machine_laws.specs.Remaining.{ItemsAre}
use Rattle.cp_machine_laws.specs.Named.{discipline_of, shown_of}

-- ---- values in cells

abbrev pub further : Address → ℕ → Address
further (Permanent n) k = Permanent (n + k)
further (Local n) k = Local (n + k)

-- the cells from an address on are these
abbrev pub BlockAt : Memory → Address → List ℤ → Type 0
BlockAt m a ws = (k : ℕ) → k < length ws → cell_at m (further a k) ≡ slice_index_or ws k (pos 0)

-- a value of a type lies at an address
pub record LiesAt (m : Memory) (t : Ty) (w : Value) (a : Address) : Type 0 where
  pub typed : HasType t w
  pub cells : HasCells m a (cells_of t)
  pub block : BlockAt m a (encode w)

-- ---- frames

-- the frame that has this many frames below it
abbrev pub frame_above : List Frame → ℕ → Option Frame
frame_above [] below = None
frame_above (f ∷ fs) below = if length fs == below then Some f else frame_above fs below

-- the frames of a process, the innermost first
abbrev pub frames_of : Frame → List Entry → List Frame
frames_of f [] = f ∷ []
frames_of f (Rest at ∷ es) = frames_of f es
frames_of f (Successor at z last ∷ es) = frames_of f es
frames_of f (Return caller slot monitor ∷ es) = f ∷ frames_of caller es
frames_of f (InitEnd caller component ∷ es) = f ∷ frames_of caller es

-- ---- places

-- a variable of an open call, or of a component, begins at an address
abbrev pub InFrame : Layouts → Option Frame → Name → Ty → Address → Type 0
InFrame l None x t a = ⊥
InFrame l (Some f) x t a = (look x (l.frames f.routine).variables ≡ Some t) × (a ≡ Local (f.base + cell_named (l.frames f.routine) x))

pub record InComponent (r : Tables) (l : Layouts) (n : ℕ) (x : Name) (t : Ty) (a : Address) : Type 0 where
  pub there : n < length r.components
  pub known : look x (l.systems (component_at r n).system).variables ≡ Some t
  pub address : a ≡ Permanent ((component_at r n).base + (l.systems (component_at r n).system).slots x)

abbrev pub BeginsAt : Tables → Layouts → List Frame → Holder → Name → Ty → Address → Type 0
BeginsAt r l fs (in_call below) x t a = InFrame l (frame_above fs below) x t a
BeginsAt r l fs (in_component n) x t a = InComponent r l n x t a

-- a part of a variable
pub record PlaceAt (r : Tables) (l : Layouts) (fs : List Frame) (q : Place) (t : Ty) (a : Address) : Type 0 where
  pub whole : Ty
  pub first : Address
  pub offset : ℕ
  pub begins : BeginsAt r l fs q.holder q.name whole first
  pub chosen : chosen_at whole q.choices ≡ Some (offset, t)
  pub address : a ≡ further first offset

-- ---- open calls

-- the call executes the routine of the frame in the component of the frame
pub record CallIs (r : Tables) (l : Layouts) (c : Call) (f : Frame) : Type 0 where
  pub routine : f.routine < length r.routines
  pub component : c.component ≡ f.component
  pub there : f.component < length r.components
  pub own : f.own ≡ (component_at r f.component).base
  pub owner : l.owners f.routine ≡ (component_at r f.component).system
  pub scope : c.scope ≡ (l.meanings f.routine).scope

-- its variables lie in the frame, and its `var` parameters name places of the calls below or of components
pub record CallHolds (r : Tables) (l : Layouts) (m : Memory) (c : Call) (f : Frame) (fs : List Frame) : Type 0 where
  pub variables : (x : Name) (t : Ty) → look x (l.frames f.routine).variables ≡ Some t → LiesAt m t (value_held (content_of x c.environment)) (Local (f.base + cell_named (l.frames f.routine) x))
  -- the content of a variable is no place
  pub plain : (x : Name) (t : Ty) (q : Place) → look x (l.frames f.routine).variables ≡ Some t → content_of x c.environment ≡ Some (refers q) → ⊥
  pub references : (x : Name) (t : Ty) → look x (l.frames f.routine).references ≡ Some t →
      (q : Place) × (content_of x c.environment ≡ Some (refers q)) × PlaceAt r l fs q t (reference_at m.references (f.references + cell_named (l.frames f.routine) x))

abbrev pub CallsHold : Tables → Layouts → Memory → List Call → List Frame → Type 0
CallsHold r l m [] [] = Unit {0}
CallsHold r l m (c ∷ cs) (f ∷ fs) = CallIs r l c f × CallHolds r l m c f fs × CallsHold r l m cs fs
CallsHold r l m cs fs = ⊥

-- ---- control stacks

-- the monitor that a call leaves as it returns
abbrev pub monitor_left : Tables → Call → CallKind → ComponentKind → Option ℕ
monitor_left r c entry_routine (kind.Monitor m) = Some m
monitor_left r c k d = None

-- the successor of a value, in the `for` of an item; and what comes after that
pub record TurnIs (g : Ground) (h : Here) (at : ℕ) (z last : ℤ) (first : Item) (rest : List Item) : Type 0 where
  pub token : ℕ
  pub name : Identifier
  pub from : Expression
  pub to : Expression
  pub direction : Direction
  pub statement : Statement
  pub next : Option ℕ
  pub item : ForItem g h (λ list. StatementIs g h list statement None) at token name from direction to next
  pub within : is_within item.range z ≡ true
  pub same : first ≡ successor token name z direction last statement
  pub after : ItemsAre g h next rest None

-- what a routine or an initial statement is for the call
abbrev pub ReturnIs : Ground → Program → Layouts → Call → (f caller : Frame) → Option ℕ → Option ℕ → Option Name → Type 0
ReturnIs g p l c f caller slot monitor o =
    (slot ≡ result_cell (here p l caller.routine) o) × ResultGoes (here p l caller.routine) o (l.meanings f.routine).result ×
    (monitor ≡ monitor_left g.tables c c.kind (component_at g.tables c.component).kind)

abbrev pub StackIs : Ground → Program → Layouts → Frame → List Call → List Item → List Entry → Type 0
StackIs g p l f calls items [] = (c : Call) × (calls ≡ c ∷ []) × (items ≡ end ∷ []) × (c.kind ≡ own_statement)
StackIs g p l f calls items (Rest at ∷ es) =
    (xs : List Item) × (ys : List Item) × (items ≡ xs ++ ys) × ItemsAre g (here p l f.routine) (Some at) xs None × StackIs g p l f calls ys es
StackIs g p l f calls items (Successor at z last ∷ es) =
    (i : Item) × (xs : List Item) × (ys : List Item) × (items ≡ i ∷ xs ++ ys) × TurnIs g (here p l f.routine) at z last i xs × StackIs g p l f calls ys es
StackIs g p l f calls items (Return caller slot monitor ∷ es) =
    (c : Call) × (cs : List Call) × (o : Option Name) × (ys : List Item) × (calls ≡ c ∷ cs) × (items ≡ return o ∷ ys) × ReturnIs g p l c f caller slot monitor o × StackIs g p l caller cs ys es
StackIs g p l f calls items (InitEnd caller component ∷ es) =
    (c : Call) × (cs : List Call) × (ys : List Item) × (calls ≡ c ∷ cs) × (items ≡ init_end component ∷ ys) × (c.kind ≡ initial_statement) × StackIs g p l caller cs ys es

-- ---- processes

-- Variables of calls lie in the cells of the process, so the permanent cells do not matter here.
abbrev pub own_memory : Thread → Memory
own_memory t = record { permanents = []; cells = t.cells; references = t.references }

pub record Runs (g : Ground) (p : Program) (l : Layouts) (x : Process) (t : Thread) : Type 0 where
  pub stack : StackIs g p l t.frame x.calls x.items t.stack
  pub calls : CallsHold g.tables l (own_memory t) x.calls (frames_of t.frame t.stack)

-- An ended process keeps its outermost call, which nobody looks at but to ask whether it is an entry of a monitor.
abbrev pub HasEnded : Process → Thread → Type 0
HasEnded x t = (c : Call) × (x.calls ≡ c ∷ []) × (x.items ≡ []) × (c.kind ≡ own_statement) × (t.stack ≡ [])

-- the number of a monitor, and the queue in which a process waits
abbrev pub StatusIs : Ground → Program → Layouts → ℕ → Process → Thread → Status → slot_status.Status → Type 0
StatusIs g p l q x t unstarted status.Unstarted = (x.calls ≡ []) × (x.items ≡ []) × (t ≡ unstarted_thread g.tables (process_at g.tables q))
StatusIs g p l q x t ready status.Ready = Runs g p l x t
StatusIs g p l q x t (at_gate m) (status.AtGate n) = ((component_at g.tables m).kind ≡ kind.Monitor n) × Runs g p l x t
StatusIs g p l q x t (delayed m) (status.Delayed cell) = Runs g p l x t
StatusIs g p l q x t ended status.Ended = HasEnded x t
StatusIs g p l q x t s u = ⊥

pub record ProcessIs (g : Ground) (p : Program) (l : Layouts) (q : ℕ) (x : Process) (t : Thread) : Type 0 where
  pub component : x.component ≡ (process_at g.tables q).component
  pub status : StatusIs g p l q x t x.status t.status

-- ---- components

abbrev pub PhaseIs : ComponentKind → ComponentStatus → Phase → Type 0
PhaseIs (kind.Process n) s f = Unit {0}
PhaseIs k uninitialised phase.Uninitialised = Unit {0}
PhaseIs k initialising phase.Initialising = Unit {0}
PhaseIs k initialised phase.Initialised = Unit {0}
PhaseIs k s f = ⊥

-- a component has begun, so that its parameters are bound
abbrev pub HasBegun : State → ComponentKind → ComponentStatus → Type 0
HasBegun s (kind.Process q) u = (named.process_at s.processes q).status ≡ unstarted → ⊥
HasBegun s k uninitialised = ⊥
HasBegun s k u = Unit {0}

abbrev pub all_permanents : Machine → Memory
all_permanents m = record { permanents = m.permanents; cells = []; references = [] }

pub record ComponentIs (g : Ground) (p : Program) (l : Layouts) (s : State) (m : Machine) (n : ℕ) : Type 0 where
  pub phase : PhaseIs (component_at g.tables n).kind (named.component_at s.components n).status (phase_at m n)
  -- the variables, and the parameters with values
  pub variables : (x : Name) (t : Ty) → look x (l.systems (component_at g.tables n).system).variables ≡ Some t →
      LiesAt (all_permanents m) t (value_held (content_of x (named.component_at s.components n).environment)) (Permanent ((component_at g.tables n).base + (l.systems (component_at g.tables n).system).slots x))
  pub parts : (x : Name) (t : Ty) → look x (l.systems (component_at g.tables n).system).parts ≡ Some t → HasBegun s (component_at g.tables n).kind (named.component_at s.components n).status →
      content_of x (named.component_at s.components n).environment ≡ Some (knows (slice_index_or m.bindings ((component_at g.tables n).base + (l.systems (component_at g.tables n).system).slots x) 0))
  -- no other name has a content, as a component variable has none
  pub others : (x : Name) → look x (l.systems (component_at g.tables n).system).variables ≡ None → look x (l.systems (component_at g.tables n).system).parts ≡ None → content_of x (named.component_at s.components n).environment ≡ None

-- ---- monitors: who is inside, and the line

abbrev pub MonitorIs : State → Machine → ℕ → ComponentKind → Type 0
MonitorIs s m n (kind.Monitor k) = ((monitor_at m k).line ≡ (named.component_at s.components n).line) × ((monitor_at m k).holder ≡ holder_of s n)
MonitorIs s m n k = Unit {0}

-- ---- queues: who waits in a queue has its cell as its status, and the other way round

pub record QueuesAre (g : Ground) (l : Layouts) (s : State) (m : Machine) : Type 0 where
  pub waiting : (q n cell : ℕ) (v : View) → q < length s.processes → (named.process_at s.processes q).status ≡ delayed n → (thread_at m.threads q).status ≡ status.Delayed cell → v.components ≡ s.components →
      (x : Place) × (x.holder ≡ in_component n) × PlaceAt g.tables l [] x queue_type (Permanent cell) × (value_at v x ≡ queue_value (Some q))
  pub queued : (x : Place) (q n cell : ℕ) (v : View) → v.components ≡ s.components → x.holder ≡ in_component n → PlaceAt g.tables l [] x queue_type (Permanent cell) → value_at v x ≡ queue_value (Some q) →
      (q < length s.processes) × ((named.process_at s.processes q).status ≡ delayed n) × ((thread_at m.threads q).status ≡ status.Delayed cell)

-- ---- states

abbrev pub PendingIs : Ground → Option ℕ → Option ℕ → Type 0
PendingIs g None None = Unit {0}
PendingIs g (Some n) (Some k) = (component_at g.tables n).kind ≡ kind.Monitor k
PendingIs g o q = ⊥

pub record Represents (g : Ground) (p : Program) (l : Layouts) (s : State) (m : Machine) : Type 0 where
  pub process_count : length s.processes ≡ length m.threads
  pub component_count : length s.components ≡ length g.tables.components
  pub processes : (q : ℕ) → q < length s.processes → ProcessIs g p l q (named.process_at s.processes q) (thread_at m.threads q)
  pub components : (n : ℕ) → n < length s.components → ComponentIs g p l s m n
  pub monitors : (n : ℕ) → n < length s.components → MonitorIs s m n (component_at g.tables n).kind
  pub queues : QueuesAre g l s m
  pub pending : PendingIs g s.pending m.pending
  pub discipline : m.discipline ≡ discipline_of s.discipline
  pub output : m.output ≡ map (shown_of g.firsts) s.output
