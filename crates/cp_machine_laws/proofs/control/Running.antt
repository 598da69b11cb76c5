-- Of a process that runs in a state: its frames and all components lie in its memory, so that tests and values are the same.
use Rattle.std.proofs.Common.{◌≡◌, ◌∙◌, ℕ, ◌+◌, ◌^◌, ◌<◌, ◌≤◌, List, [], ◌∷◌, Option, ap, sym, refl, subst, arith, length}
use Rattle.cp_machine_laws.proofs.Words.{ℤ, pos, slice_index, slice_index_or, Program, Expression, Statement, if_then, Tables, component_at, routine_at, Permanent}
use Rattle.cp_machine_laws.proofs.Words.{Local, Frame, Memory, reference_at, Entry, Machine, thread_at, memory_at, step_at, Ty, Value, Item, statement_item, State}
use Rattle.cp_machine_laws.proofs.Words.{Call, content_of, value_held, view_of, step_of, expression_calls, AreKept, cells_of, Layouts, here, cell_named, as_ordinal}
use Rattle.cp_machine_laws.proofs.Words.{RoutineIs, LiesAt, PlaceAt, CallsHold, own_memory, all_permanents, Represents, Few, Sees}
use Rattle.cp_meaning.specs.State as named
use Rattle.cp_slots.specs.Code as code
use Rattle.cp_resolved.specs.Stands.{Ground, IsTest}
use Rattle.cp_machine_laws.proofs.control.Control.{Taken, StepIs, TestAgrees, top_frame, if_step}
use Rattle.cp_machine_laws.proofs.expressions.Expressions.{expression_ok}
use Rattle.cp_machine_laws.proofs.expressions.Reading.{AllLie}
use Rattle.cp_machine_laws.proofs.expressions.Seeing.{sees}

-- what lies in cells of the process lies in each memory with these cells, and what lies in permanent cells in each with those
local_lies : (m m2 : Memory) (t : Ty) (w : Value) (n : ℕ) → m.cells ≡ m2.cells → LiesAt m t w (Local n) → LiesAt m2 t w (Local n)
local_lies m m2 t w n e h =
    record {
      typed = h.typed;
      cells = subst (λ (xs : List ℤ). n + cells_of t ≤ length xs) e h.cells;
      block = λ k less. ap (λ (xs : List ℤ). slice_index_or xs (n + k) (pos 0)) (sym e) ∙ h.block k less;
    }

pub permanent_lies : (m m2 : Memory) (t : Ty) (w : Value) (n : ℕ) → m.permanents ≡ m2.permanents → LiesAt m t w (Permanent n) → LiesAt m2 t w (Permanent n)
permanent_lies m m2 t w n e h =
    record {
      typed = h.typed;
      cells = subst (λ (xs : List ℤ). n + cells_of t ≤ length xs) e h.cells;
      block = λ k less. ap (λ (xs : List ℤ). slice_index_or xs (n + k) (pos 0)) (sym e) ∙ h.block k less;
    }

pub calls_alike : (r : Tables) (l : Layouts) (m m2 : Memory) (cs : List Call) (fs : List Frame) → m.cells ≡ m2.cells → m.references ≡ m2.references → CallsHold r l m cs fs → CallsHold r l m2 cs fs
calls_alike r l m m2 [] [] e d h = tt
calls_alike r l m m2 (c ∷ cs) (f ∷ fs) e d h = (
  h.0,
  record {
    variables = λ x t k. local_lies m m2 t (value_held (content_of x c.environment)) (f.base + cell_named (l.frames f.routine) x) e (h.1.variables x t k);
    plain = h.1.plain;
    references = λ x t k. (let w = h.1.references x t k in (w.0, w.1, subst (λ rs. PlaceAt r l fs w.0 t (reference_at rs (f.references + cell_named (l.frames f.routine) x))) d w.2));
  },
  calls_alike r l m m2 cs fs e d h.2,
)
calls_alike r l m m2 [] (f ∷ fs) e d h = absurd h
calls_alike r l m m2 (c ∷ cs) [] e d h = absurd h

pub all_lie : (g : Ground) (p : Program) (l : Layouts) (s : State) (m : Machine) (q : ℕ) (fs : List Frame) → Represents g p l s m → CallsHold g.tables l (own_memory (thread_at m.threads q)) (named.process_at s.processes q).calls fs → AllLie g.tables l fs (view_of p s q) (memory_at m q)
all_lie g p l s m q fs rep h =
    record {
      calls = calls_alike g.tables l (own_memory (thread_at m.threads q)) (memory_at m q) (named.process_at s.processes q).calls fs refl refl h;
      components = λ n x t less k. permanent_lies (all_permanents m) (memory_at m q) t (value_held (content_of x (named.component_at s.components n).environment)) ((component_at g.tables n).base + (l.systems (component_at g.tables n).system).slots x) refl ((rep.components n (let e = rep.component_count in omega (arith, e, less))).variables x t k);
    }

-- ---- a test

-- what has to be known of the routine that a process executes
pub record Executes (g : Ground) (p : Program) (l : Layouts) (m : Machine) (q : ℕ) : Type 0 where
  pub routine : RoutineIs g p l (thread_at m.threads q).frame.routine
  pub few : Few (memory_at m q)
  pub numbered : (k : ℕ) → k < (routine_at g.tables (thread_at m.threads q).frame.routine).references → (thread_at m.threads q).frame.references + k < 2 ^ 64

module _ (g : Ground) (p : Program) (l : Layouts) (s : State) (m : Machine) (q at : ℕ) (i : Item) (mid : Option ℕ) (es : List Entry) (xs ys : List Item) (k : Taken g p l s m q at i mid es xs ys) (ex : Executes g p l m q) where
  by_calls : (calls : List Call) (fs : List Frame) → AllLie g.tables l ((thread_at m.threads q).frame ∷ fs) (record { program = p; calls = calls; components = s.components }) (memory_at m q) →
      Sees g.tables l ((thread_at m.threads q).frame ∷ fs) (record { program = p; calls = calls; components = s.components }) (memory_at m q) (thread_at m.threads q).frame (here p l (thread_at m.threads q).frame.routine)
  by_calls [] fs all = absurd all.calls
  by_calls (c ∷ cs) fs all = sees g p l s.components c cs (thread_at m.threads q).frame fs (memory_at m q) all ex.routine ex.few ex.numbered

  -- the frames below the innermost one
  abbrev pub frames_below : List Frame
  frames_below = (top_frame (thread_at m.threads q).frame es).0

  pub sees_now : Sees g.tables l ((thread_at m.threads q).frame ∷ frames_below) (view_of p s q) (memory_at m q) (thread_at m.threads q).frame (here p l (thread_at m.threads q).frame.routine)
  sees_now =
      by_calls (named.process_at s.processes q).calls frames_below
      (all_lie g p l s m q ((thread_at m.threads q).frame ∷ frames_below) k.rep (subst (λ fs. CallsHold g.tables l (own_memory (thread_at m.threads q)) (named.process_at s.processes q).calls fs) (top_frame (thread_at m.threads q).frame es).1 k.calls))

  pub test_agrees : (e : Expression) (c : code.OrdinalExpression) → AreKept (here p l (thread_at m.threads q).frame.routine) (expression_calls (l.meanings (thread_at m.threads q).frame.routine).scope e) → IsTest (here p l (thread_at m.threads q).frame.routine) e c → TestAgrees l p s m q e c
  test_agrees e c kept test = (test.ty, test.truth, expression_ok g.tables l ((thread_at m.threads q).frame ∷ frames_below) (view_of p s q) (memory_at m q) (thread_at m.threads q).frame (here p l (thread_at m.threads q).frame.routine) sees_now e (record { ty = test.ty; form = as_ordinal c }) kept test.cell)

-- the whole step of an `if`
pub if_runs : (g : Ground) (p : Program) (l : Layouts) (s : State) (m : Machine) (q at token : ℕ) (e : Expression) (u : Statement) (mid : Option ℕ) (es : List Entry) (xs ys : List Item) → (k : Taken g p l s m q at (statement_item (if_then token e u)) mid es xs ys) → (ex : Executes g p l m q) →
    StepIs g p l q (slice_index g.lines token) (step_of p s q) (step_at g.tables m q)
if_runs g p l s m q at token e u mid es xs ys k ex = if_step g p l s m q at token e u mid es xs ys k (test_agrees g p l s m q at (statement_item (if_then token e u)) mid es xs ys k ex e k.own.0 k.kept k.own.2)
