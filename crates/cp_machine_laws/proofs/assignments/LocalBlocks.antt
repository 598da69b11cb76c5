-- A value of any type is assigned to a variable of an open call, or to a part of one: what stands for what is kept.
use Rattle.cp_machine_laws.proofs.Words.{◌≡◌, ◌∙◌, ℕ, ◌+◌, ◌<◌, ◌≤◌, List, Option, Some, None, ap, sym, refl, subst, arith, length, ℤ, slice_set, Program}
use Rattle.cp_machine_laws.proofs.Words.{Address, Permanent, Local, Frame, Memory, cell_at, Entry, Machine, Thread, thread_at, no_thread, with_stack, memory_at, with_memory}
use Rattle.cp_machine_laws.proofs.Words.{Name, Ty, Value, Choice, in_call, ready, Environment, Call, Item, Process, State, content_of, value_held, call_above}
use Rattle.cp_machine_laws.proofs.Words.{with_call_environment, stored, becomes, view_of, settled, cells_of, Layouts, cell_named, look, encode, HasType, chosen_at, Ground}
use Rattle.cp_machine.specs.Statements as statements
use Rattle.cp_meaning.specs.State as named
use Rattle.cp_machine_laws.specs.Represents.{further, frame_above, InFrame, PlaceAt, StackIs, CallsHold, frames_of, own_memory, Represents}
use Rattle.cp_machine_laws.proofs.assignments.Assigning.{entries_kept, stack_kept, set_set}
use Rattle.cp_machine_laws.proofs.assignments.Blocks.{WritesBlock}
use Rattle.cp_machine_laws.proofs.assignments.BlocksInCalls.{FrameApart, FramesApart, new_for, calls_with_block}
use Rattle.cp_machine_laws.proofs.control.Control.{Goes, StepIs}
use Rattle.cp_machine_laws.proofs.control.Moving.{set_here, goes_ready}
use Rattle.cp_machine_laws.proofs.expressions.Parts.{encode_length, part_stands}
use Rattle.cp_machine_laws.proofs.expressions.Reading.{held_above}

-- ---- the memory of a process

-- a process with another stack has the memory that it had
pub memory_same : (m : Machine) (q : ℕ) (gs : List Entry) → q < length m.threads → memory_at (with_stack m q gs) q ≡ memory_at m q
memory_same m q gs there = ap (λ (t : Thread). record { permanents = m.permanents; cells = t.cells; references = t.references }) (set_here m.threads q (record (thread_at m.threads q) { stack = gs }) no_thread there)

-- what is known of frames: the variables of each are apart, and the frames of the process
pub record CallsApart (g : Ground) (l : Layouts) (m : Machine) (q : ℕ) (es : List Entry) : Type 0 where
  pub size : ℕ → ℕ
  pub apart : (n : ℕ) → n < length g.tables.routines → FrameApart l size n
  pub frames : FramesApart size (frames_of (thread_at m.threads q).frame es)

-- ---- the step

module _ (g : Ground) (p : Program) (l : Layouts) (s : State) (m : Machine) (q : ℕ) (es : List Entry) (k : Goes g p l s m q es)
    (zs : List Item) (gs : List Entry) (is : StackIs g p l (thread_at m.threads q).frame (named.process_at s.processes q).calls zs gs) (same : frames_of (thread_at m.threads q).frame gs ≡ frames_of (thread_at m.threads q).frame es)
    (known : CallsApart g l m q es) (t : Ty) (y : Value) (typed : HasType t y) (change : Memory → Memory) (a : ℕ) (writes : WritesBlock (memory_at m q) (change (memory_at m q)) (Local a) (encode y)) where
  abbrev m2 : Memory
  m2 = change (memory_at m q)

  abbrev pub changed : Machine
  changed = with_memory (with_stack m q gs) q (change (memory_at (with_stack m q gs) q))

  abbrev new_thread : Thread
  new_thread = record (thread_at m.threads q) { stack = gs; cells = m2.cells }

  own_writes : WritesBlock (own_memory (thread_at m.threads q)) (own_memory new_thread) (Local a) (encode y)
  own_writes = record { here = writes.here; there = there; permanents = refl; cells = writes.cells; references = refl; others = refl }
    where
      there : (b : Address) → ((k : ℕ) → k < length (encode y) → (b ≡ further (Local a) k → ⊥)) → cell_at (own_memory new_thread) b ≡ cell_at (own_memory (thread_at m.threads q)) b
      there (Permanent j) out = refl
      there (Local j) out = writes.there (Local j) out

  many : q < length m.threads
  many = let e = k.rep.process_count in let b = k.there in omega (arith, e, b)

  -- the machine with this thread
  abbrev machine_with : List ℤ → Thread → List Address → Machine
  machine_with ps th rs = record m { permanents = ps; threads = slice_set (slice_set m.threads q (record (thread_at m.threads q) { stack = gs })) q (record th { cells = m2.cells; references = rs }) }

  machine_is : changed ≡ record m { threads = slice_set m.threads q new_thread }
  machine_is =
      ap (λ x. with_memory (with_stack m q gs) q (change x)) (memory_same m q gs many) ∙ opened_up
    where
      opened_up : with_memory (with_stack m q gs) q m2 ≡ record m { threads = slice_set m.threads q new_thread }
      opened_up =
          ap (λ th. machine_with m2.permanents th m2.references) (set_here m.threads q (record (thread_at m.threads q) { stack = gs }) no_thread many)
          ∙ (ap (λ rs. machine_with m2.permanents (record (thread_at m.threads q) { stack = gs }) rs) writes.references
          ∙ (ap (λ ps. machine_with ps (record (thread_at m.threads q) { stack = gs }) (thread_at m.threads q).references) writes.others
          ∙ ap (λ (ts : List Thread). record m { threads = ts }) (set_set m.threads q (record (thread_at m.threads q) { stack = gs }) new_thread)))

  module _ (below : ℕ) (f : Frame) (x : Name) (u : Ty) (choices : List Choice) (offset : ℕ)
      (above : frame_above (frames_of (thread_at m.threads q).frame es) below ≡ Some f) (known_there : look x (l.frames f.routine).variables ≡ Some u)
      (chosen : chosen_at u choices ≡ Some (offset, t)) (fits : offset + cells_of t ≤ cells_of u) (at : a ≡ f.base + cell_named (l.frames f.routine) x + offset) where
    abbrev old_calls : List Call
    old_calls = (named.process_at s.processes q).calls

    abbrev new_environment : Environment
    new_environment = new_for g.tables l known.size (own_memory (thread_at m.threads q)) (own_memory new_thread) known.apart a t y typed own_writes below x u choices offset chosen fits (call_above old_calls below).environment

    abbrev new_process : Process
    new_process = record { component = (named.process_at s.processes q).component; status = ready; calls = with_call_environment old_calls below new_environment; items = zs }

    block_assigned : Represents g p l (record s { processes = slice_set s.processes q new_process }) (record m { threads = slice_set m.threads q new_thread })
    block_assigned =
        goes_ready g p l s m q k.rep k.there k.was k.was_slot (with_call_environment old_calls below new_environment) zs new_thread refl
        (record {
          stack = stack_kept g p l below new_environment (thread_at m.threads q).frame old_calls zs gs is;
          calls = subst (λ fs. CallsHold g.tables l (own_memory new_thread) (with_call_environment old_calls below new_environment) fs) (sym same)
              (calls_with_block g.tables l known.size (own_memory (thread_at m.threads q)) (own_memory new_thread) known.apart a t y typed own_writes below x u choices offset chosen fits
              old_calls (frames_of (thread_at m.threads q).frame es) f above known_there at known.frames k.calls);
        })
        (λ n j e. entries_kept n below new_environment old_calls)

    pub block_step : (line : ℕ) → StepIs g p l q line (settled p s q (becomes (stored (view_of p s q) (record { holder = in_call below; name = x; choices = choices }) y) zs)) (statements.local changed)
    block_step line = record { state = subst (λ n. Represents g p l (record s { processes = slice_set s.processes q new_process }) n) (sym machine_is) block_assigned; event = refl }

-- ---- a place in an open call

pub local_block_stored : (g : Ground) (p : Program) (l : Layouts) (s : State) (m : Machine) (q line : ℕ) (es : List Entry) → Goes g p l s m q es → CallsApart g l m q es →
    (zs : List Item) (gs : List Entry) → StackIs g p l (thread_at m.threads q).frame (named.process_at s.processes q).calls zs gs → frames_of (thread_at m.threads q).frame gs ≡ frames_of (thread_at m.threads q).frame es →
    (below : ℕ) (x : Name) (choices : List Choice) (a : Address) (t : Ty) (y : Value) → PlaceAt g.tables l (frames_of (thread_at m.threads q).frame es) (record { holder = in_call below; name = x; choices = choices }) t a → HasType t y →
    (change : Memory → Memory) → WritesBlock (memory_at m q) (change (memory_at m q)) a (encode y) →
    StepIs g p l q line (settled p s q (becomes (stored (view_of p s q) (record { holder = in_call below; name = x; choices = choices }) y) zs)) (statements.local (with_memory (with_stack m q gs) q (change (memory_at (with_stack m q gs) q))))
local_block_stored g p l s m q line es k known zs gs is same below x choices a t y place typed change writes = go (frame_above (frames_of (thread_at m.threads q).frame es) below) refl place.begins
  where
    go : (w : Option Frame) → frame_above (frames_of (thread_at m.threads q).frame es) below ≡ w → InFrame l w x place.whole place.first →
        StepIs g p l q line (settled p s q (becomes (stored (view_of p s q) (record { holder = in_call below; name = x; choices = choices }) y) zs)) (statements.local (with_memory (with_stack m q gs) q (change (memory_at (with_stack m q gs) q))))
    go None e b = absurd b
    go (Some f) e b =
        let lies = held_above g.tables l (own_memory (thread_at m.threads q)) (named.process_at s.processes q).calls (frames_of (thread_at m.threads q).frame es) below f x place.whole k.calls e b.0 in
        let old = value_held (content_of x (call_above (named.process_at s.processes q).calls below).environment) in
        let fits : place.offset + cells_of t ≤ cells_of place.whole = (let w = (part_stands place.whole old choices (place.offset, t) lies.typed place.chosen).inside in let n = encode_length place.whole old lies.typed in omega (arith, w, n)) in
        let at_cell : a ≡ Local (f.base + cell_named (l.frames f.routine) x + place.offset) = place.address ∙ ap (λ c. further c place.offset) b.1 in
        block_step g p l s m q es k zs gs is same known t y typed change (f.base + cell_named (l.frames f.routine) x + place.offset) (subst (λ c. WritesBlock (memory_at m q) (change (memory_at m q)) c (encode y)) at_cell writes)
        below f x place.whole choices place.offset e b.0 place.chosen fits refl line
