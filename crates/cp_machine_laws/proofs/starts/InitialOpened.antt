-- The initial statement of a class or monitor begins: its frame stands above those of its callers, and its end is that of an initial statement.
use Rattle.cp_machine_laws.proofs.Words.{◌≡◌, ◌∙◌, ℕ, ◌+◌, ◌<◌, ◌≤◌, List, [], ◌∷◌, ◌++◌, None, ap, sym, refl, subst, arith, length, pos, slice_index_or, slice_set}
use Rattle.cp_machine_laws.proofs.Words.{get_or_append_left, length-append, Program, Argument, routine_at, Bound, Permanent, Local, Frame, Memory, Entry, InitEnd}
use Rattle.cp_machine_laws.proofs.Words.{frame_behind, size_of, Machine, Thread, thread_at, with_thread, rest_of, Name, Ty, Value, Parameter, RoutineMeaning, system_of}
use Rattle.cp_machine_laws.proofs.Words.{items_of_all, Layouts, here, cell_named, first_values, initial_meaning, Ground, IsValue, Keeps, GivesValue, IsHanded, AreHanded}
use Rattle.cp_machine_laws.proofs.Words.{AreBound, ItemsAre, memory_at, add_frame, StackIs, CallIs, CallsHold, frames_of, own_memory, Represents}
use Rattle.cp_store.specs.declared.argument.Bound.TheVariants.{Copy, Reference, Component}
use Rattle.cp_meaning.specs.Calls.{last_checks}
use Rattle.cp_meaning.specs.Lifting.{check_items}
use Rattle.cp_meaning.specs.State as named
use Rattle.cp_meaning.specs.State.{Content, holds, knows, Environment, ready, initial_statement, Call, Item, init_end, Process, State}
use Rattle.cp_machine_laws.proofs.calls.Calling.{CanCall}
use Rattle.cp_machine_laws.proofs.control.Control.{Goes}
use Rattle.cp_machine_laws.proofs.calls.FramesBelow.{lie_lower, frames_lie, calls_below}
use Rattle.cp_machine_laws.proofs.control.Lists.{body_items, stack_rest, frames_rest}
use Rattle.cp_machine_laws.proofs.control.Moving.{goes_ready}
use Rattle.cp_machine_laws.proofs.calls.NewFrame.{new_memory, bound_memory, binds_all, holds_new}
use Rattle.cp_machine_laws.proofs.control.Running.{calls_alike}

-- ---- what arguments give, they give with more cells too

-- the same permanent cells, and more cells of the process
pub record HasMore (m m2 : Memory) : Type 0 where
  pub permanents : m2.permanents ≡ m.permanents
  pub cells : (k : ℕ) → k < length m.cells → slice_index_or m2.cells k (pos 0) ≡ slice_index_or m.cells k (pos 0)
  pub more : length m.cells ≤ length m2.cells

more_value : (m m2 : Memory) (b : Bound) → HasMore m m2 → IsValue m b → IsValue m2 b
more_value m m2 (Copy (Permanent from) size) i h = subst (λ xs. from + size ≤ length xs) (sym i.permanents) h
more_value m m2 (Copy (Local from) size) i h = let a = i.more in omega (arith, a, h)
more_value m m2 (Reference a) i h = absurd h
more_value m m2 (Component n) i h = absurd h
more_value m m2 _ i h = tt

less_keeps : (m m2 m3 : Memory) (b : Bound) → HasMore m m2 → IsValue m b → Keeps m2 m3 b → Keeps m m3 b
less_keeps m m2 m3 (Copy (Permanent from) size) i h kept = λ k less. kept k less ∙ ap (λ xs. slice_index_or xs (from + k) (pos 0)) i.permanents
less_keeps m m2 m3 (Copy (Local from) size) i h kept = λ k less. kept k less ∙ i.cells (from + k) (omega (arith, h, less))
less_keeps m m2 m3 _ i h kept = tt

more_gives : (m m2 : Memory) (t : Ty) (w : Value) (b : Bound) → HasMore m m2 → GivesValue m t w b → GivesValue m2 t w b
more_gives m m2 t w b i h =
    record {
      typed = h.typed;
      value = more_value m m2 b i h.value;
      puts = λ m3 a kept permanents cells few has apart. h.puts m3 a (less_keeps m m2 m3 b i h.value kept) (permanents ∙ ap length i.permanents) (let n = i.more in omega (arith, n, cells)) few has apart;
    }

more_handed : (m m2 : Memory) (base own : ℕ) (q : Parameter) (c : Content) (b : Bound) → HasMore m m2 → IsHanded m base own q c b → IsHanded m2 base own q c b
more_handed m m2 base own q (holds w) b i h = (more_gives m m2 q.ty w b i h.0, h.1)
more_handed m m2 base own q (knows c) (Component n) i h = h
more_handed m m2 base own q c b i h = absurd h

pub all_more : (m m2 : Memory) (base own : ℕ) (slots : Name → ℕ) (qs : List Parameter) (e : Environment) (xs : List Argument) (bs : List Bound) → HasMore m m2 → AreHanded m base own slots qs e xs bs → AreHanded m2 base own slots qs e xs bs
all_more m m2 base own slots [] [] [] [] i h = tt
all_more m m2 base own slots (q ∷ qs) (d ∷ e) (x ∷ xs) (b ∷ bs) i h = (h.0, h.1, more_handed m m2 base own q d.1 b i h.2, all_more m m2 base own slots qs e xs bs i h.3)
all_more m m2 base own slots qs e xs bs i h = absurd h

-- ---- the frame of the initial statement

module _ (g : Ground) (p : Program) (l : Layouts) (s : State) (m : Machine) (q : ℕ) (es : List Entry) (k : Goes g p l s m q es)
    (zs : List Item) (rest : List Entry) (is : StackIs g p l (thread_at m.threads q).frame (named.process_at s.processes q).calls zs rest) (same : frames_of (thread_at m.threads q).frame rest ≡ frames_of (thread_at m.threads q).frame es)
    (number d system : ℕ) (can : CanCall g p l m q number d es) (meaning : l.meanings number ≡ initial_meaning (system_of p system)) where
  abbrev before : Process
  before = named.process_at s.processes q

  abbrev thread : Thread
  thread = thread_at m.threads q

  abbrev frame : Frame
  frame = frame_behind g.tables thread number d

  abbrev frames : List Frame
  frames = frames_of thread.frame es

  abbrev pub initial_call : Call
  initial_call = record { component = d; kind = initial_statement; scope = (system_of p system).scope; environment = [] }

  abbrev pub process_in : Process
  process_in = record { component = before.component; status = ready; calls = initial_call ∷ before.calls; items = items_of_all (system_of p system).scope (system_of p system).body ++ check_items 0 (system_of p system).scope ++ init_end d ∷ zs }

  abbrev pub thread_in : Thread
  thread_in = add_frame (record thread { frame = frame; stack = rest_of (routine_at g.tables number).body (InitEnd thread.frame d ∷ rest) }) (routine_at g.tables number)

  -- no parameters are bound in the frame
  nothing : AreBound g.tables l frames (memory_at m q) (cell_named (l.frames number)) (l.meanings number).parameters [] [] []
  nothing = subst (λ (r : RoutineMeaning). AreBound g.tables l frames (memory_at m q) (cell_named (l.frames number)) r.parameters [] [] []) (sym meaning) tt

  abbrev memory : Memory
  memory = bound_memory g p l frames (memory_at m q) frame can.opens [] [] [] nothing

  call_is : CallIs g.tables l initial_call frame
  call_is = record { routine = can.known; component = refl; there = can.there; own = refl; owner = can.owner; scope = sym (ap (λ (r : RoutineMeaning). r.scope) meaning) }

  callers_hold : CallsHold g.tables l memory before.calls frames
  callers_hold =
      let binds = binds_all g p l frames (memory_at m q) frame can.opens [] [] [] nothing in
      calls_below g p l can.routines (own_memory thread) memory (length thread.cells) (length thread.references)
      (record { there = (let a = binds.many in omega (arith, a)); cells = binds.below; references = binds.before }) before.calls frames
      (lie_lower g.tables (thread.frame.base + size_of g.tables thread.frame.routine) (thread.frame.references + (routine_at g.tables thread.frame.routine).references) (length thread.cells) (length thread.references) frames
      (let a = can.cells in omega (arith, a)) (let a = can.references in omega (arith, a)) (frames_lie g.tables thread.frame es can.fits)) k.calls

  calls_hold : CallsHold g.tables l (own_memory thread_in) (initial_call ∷ before.calls) (frame ∷ frames)
  calls_hold =
      calls_alike g.tables l memory (own_memory thread_in) (initial_call ∷ before.calls) (frame ∷ frames) refl refl
      (call_is, holds_new g p l frames (memory_at m q) frame can.opens [] [] [] nothing initial_call (ap first_values (sym meaning)), callers_hold)

  stack_stands : StackIs g p l frame (initial_call ∷ before.calls) (items_of_all (system_of p system).scope (system_of p system).body ++ check_items 0 (system_of p system).scope ++ init_end d ∷ zs) thread_in.stack
  stack_stands =
      stack_rest g p l frame (initial_call ∷ before.calls) (routine_at g.tables number).body (items_of_all (system_of p system).scope (system_of p system).body ++ check_items 0 (system_of p system).scope) (init_end d ∷ zs) (InitEnd thread.frame d ∷ rest)
      (subst (λ (r : RoutineMeaning). ItemsAre g (here p l number) (routine_at g.tables number).body (items_of_all r.scope r.body ++ last_checks r.checks r.scope) None) meaning (body_items g (here p l number) (routine_at g.tables number).body (l.meanings number).body (l.meanings number).checks (can.routines number can.known).body))
      (initial_call, before.calls, zs, refl, refl, refl, is)

  pub initial_opened : Represents g p l (record s { processes = slice_set s.processes q process_in }) (with_thread m q thread_in)
  initial_opened =
      goes_ready g p l s m q k.rep k.there k.was k.was_slot (initial_call ∷ before.calls) process_in.items thread_in refl
      (record {
        stack = stack_stands;
        calls = subst (λ fs. CallsHold g.tables l (own_memory thread_in) (initial_call ∷ before.calls) fs) (sym (frames_rest frame (routine_at g.tables number).body (InitEnd thread.frame d ∷ rest) ∙ ap (λ fs. frame ∷ fs) same)) calls_hold;
      })
      (λ n j e. refl)

  -- the process has its cells, and those of the frame
  pub has_more : HasMore (memory_at m q) (new_memory g p l frames (memory_at m q) frame can.opens)
  has_more =
      record {
        permanents = refl;
        cells = λ i less. get_or_append_left thread.cells (routine_at g.tables number).image (pos 0) i less;
        more = (let a = length-append thread.cells (routine_at g.tables number).image in omega (arith, a));
      }
