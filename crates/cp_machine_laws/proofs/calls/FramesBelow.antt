-- Open calls hold what they hold where the memory is the same below the end of their frames.
use Rattle.cp_machine_laws.proofs.Words.{◌≡◌, ◌∙◌, ℕ, ◌+◌, ◌<◌, ◌≤◌, List, [], ◌∷◌, sym, subst, arith, length, pos, slice_index_or, Program, Tables, routine_at}
use Rattle.cp_machine_laws.proofs.Words.{Address, Local, Frame, Memory, reference_at, Entry, Rest, Successor, Return, InitEnd, StackFits, size_of, Ty, Value, Call}
use Rattle.cp_machine_laws.proofs.Words.{content_of, value_held, cells_of, Layouts, cell_named, RoutineIs, Ground, LiesAt, PlaceAt, CallHolds, CallsHold, frames_of}
use Rattle.cp_machine_laws.proofs.expressions.Parts.{encode_length}

-- ---- where frames lie

-- the cells of all frames of a list are below one, and so are the numbers of their `var` parameters
abbrev pub LieBelow : Tables → (base first : ℕ) → List Frame → Type 0
LieBelow r base first [] = Unit {0}
LieBelow r base first (f ∷ fs) = (f.base + size_of r f.routine ≤ base) × (f.references + (routine_at r f.routine).references ≤ first) × LieBelow r base first fs

pub lie_lower : (r : Tables) (base first above more : ℕ) (fs : List Frame) → base ≤ above → first ≤ more → LieBelow r base first fs → LieBelow r above more fs
lie_lower r base first above more [] a b h = tt
lie_lower r base first above more (f ∷ fs) a b h = (let w = h.0 in omega (arith, a, w), let w = h.1 in omega (arith, b, w), lie_lower r base first above more fs a b h.2)

-- the frames of a process lie below the end of its innermost one
pub frames_lie : (r : Tables) (f : Frame) (es : List Entry) → StackFits r f es → LieBelow r (f.base + size_of r f.routine) (f.references + (routine_at r f.routine).references) (frames_of f es)
frames_lie r f [] h = (omega arith, omega arith, tt)
frames_lie r f (Rest at ∷ es) h = frames_lie r f es h.1
frames_lie r f (Successor at z last ∷ es) h = frames_lie r f es h.1
frames_lie r f (Return caller slot monitor ∷ es) h = (
  omega arith,
  omega arith,
  lie_lower r (caller.base + size_of r caller.routine) (caller.references + (routine_at r caller.routine).references) (f.base + size_of r f.routine) (f.references + (routine_at r f.routine).references) (frames_of caller es)
      (let e = h.0.cells in omega (arith, e)) (let e = h.0.references in omega (arith, e)) (frames_lie r caller es h.3),
)
frames_lie r f (InitEnd caller component ∷ es) h = (
  omega arith,
  omega arith,
  lie_lower r (caller.base + size_of r caller.routine) (caller.references + (routine_at r caller.routine).references) (f.base + size_of r f.routine) (f.references + (routine_at r f.routine).references) (frames_of caller es)
      (let e = h.0.cells in omega (arith, e)) (let e = h.0.references in omega (arith, e)) (frames_lie r caller es h.2),
)

-- ---- memories that are the same below

pub record SameBelow (m m2 : Memory) (base first : ℕ) : Type 0 where
  pub there : base ≤ length m2.cells
  pub cells : (k : ℕ) → k < base → slice_index_or m2.cells k (pos 0) ≡ slice_index_or m.cells k (pos 0)
  pub references : (k : ℕ) → k < first → reference_at m2.references k ≡ reference_at m.references k

lies_below : (m m2 : Memory) (base first : ℕ) (t : Ty) (w : Value) (n : ℕ) → SameBelow m m2 base first → n + cells_of t ≤ base → LiesAt m t w (Local n) → LiesAt m2 t w (Local n)
lies_below m m2 base first t w n same less h =
    let size = encode_length t w h.typed in
    record {
      typed = h.typed;
      cells = (let a = same.there in omega (arith, a, less));
      block = λ k fits. same.cells (n + k) (omega (arith, less, fits, size)) ∙ h.block k fits;
    }

module _ (g : Ground) (p : Program) (l : Layouts) (routines : (n : ℕ) → n < length g.tables.routines → RoutineIs g p l n) (m m2 : Memory) (base first : ℕ) (same : SameBelow m m2 base first) where
  call_below : (c : Call) (f : Frame) (fs : List Frame) → f.routine < length g.tables.routines → f.base + size_of g.tables f.routine ≤ base → f.references + (routine_at g.tables f.routine).references ≤ first → CallHolds g.tables l m c f fs → CallHolds g.tables l m2 c f fs
  call_below c f fs there cells refs h =
      let frame = (routines f.routine there).frame in
      record {
        variables = λ x t e. lies_below m m2 base first t (value_held (content_of x c.environment)) (f.base + cell_named (l.frames f.routine) x) same (let w = frame.cells x t e in omega (arith, w, cells)) (h.variables x t e);
        plain = h.plain;
        references = λ x t e.
            (let w = h.references x t e in
            let less : f.references + cell_named (l.frames f.routine) x < first = (let n = (frame.numbered x t e).0 in omega (arith, n, refs)) in
            (w.0, w.1, subst (λ (a : Address). PlaceAt g.tables l fs w.0 t a) (sym (same.references (f.references + cell_named (l.frames f.routine) x) less)) w.2));
      }

  pub calls_below : (cs : List Call) (fs : List Frame) → LieBelow g.tables base first fs → CallsHold g.tables l m cs fs → CallsHold g.tables l m2 cs fs
  calls_below [] [] b h = tt
  calls_below (c ∷ cs) (f ∷ fs) b h = (h.0, call_below c f fs h.0.routine b.0 b.1 h.1, calls_below cs fs b.2 h.2)
  calls_below _ _ b h = absurd h
