-- A call of a component that is found fits: there is room for the frame, and the routine is one of the component's system type.
use Rattle.cp_machine_laws.proofs.Words.{◌∙◌, ℕ, ◌<◌, List, sym, refl, arith, length, Tree, Argument, IsOf, Tables, routine_at, Entry, frame_behind, Machine, thread_at}
use Rattle.cp_machine_laws.proofs.Words.{memory_at, Layouts, ground_of, Prepared, CallFits, RoutineFits, FrameFits, StackFits, MachineFits}
use Rattle.cp_machine_laws.proofs.calls.Calling.{CanCall}
use Rattle.cp_machine_laws.proofs.steps.Executed.{own_frame, thread_fits, few_permanents}
use Rattle.cp_machine_laws.proofs.calls.NewFrame.{CanOpen}

module _ (t : Tree) (r : Tables) (l : Layouts) (prepared : Prepared t r l) (m : Machine) (q : ℕ) (fits : MachineFits r m) (many : q < length m.threads) (need number : ℕ) (arguments : List Argument) (call : CallFits r (thread_at m.threads q).frame.routine need number arguments) where
  own : FrameFits r (thread_at m.threads q).frame
  own = own_frame t r l prepared m q fits many

  callee : RoutineFits (routine_at r number)
  callee = prepared.sound.routines number call.routine

  pub can_open : (n : ℕ) → CanOpen (ground_of t r) t.program l (memory_at m q) (frame_behind r (thread_at m.threads q) number n)
  can_open n =
      let thread = thread_fits t r l prepared m q fits many in
      let words = prepared.sound.typed.words in
      let known = prepared.program.routines number call.routine in
      record {
        routine = prepared.stands.routines number call.routine;
        base = refl;
        first = refl;
        few = (let a = thread.cells in let b = own.cells in let c = call.cells in let d = callee.cells in let w = words.cells in omega (arith, a, b, c, d, w));
        few_permanents = few_permanents t r l prepared m q fits many;
        few_references = (let a = thread.references in let b = own.references in let c = call.references in let d = callee.references in let w = words.references in omega (arith, a, b, c, d, w));
        different = known.different;
        closed = known.closed;
      }

  pub can_call : (es : List Entry) → StackFits r (thread_at m.threads q).frame es → (n : ℕ) → IsOf r (routine_at r number).system n → CanCall (ground_of t r) t.program l m q number n es
  can_call es below n found =
      record {
        routines = prepared.stands.routines;
        known = call.routine;
        there = found.0;
        owner = sym (prepared.stands.routines number call.routine).system ∙ sym found.1;
        opens = can_open n;
        fits = below;
        cells = (thread_fits t r l prepared m q fits many).cells;
        references = (thread_fits t r l prepared m q fits many).references;
      }
