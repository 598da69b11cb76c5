-- What prepared tables, and a machine inside them, say of a process: its routine stands, its memory is few, and variables are apart.
use Rattle.cp_machine_laws.proofs.Words.{◌≡◌, ℕ, ◌^◌, ◌<◌, true, List, arith, length, Tree, Tables, component_at, routine_at, Entry, Machine, Thread, thread_at, Ty, Layouts}
use Rattle.cp_machine_laws.proofs.Words.{SystemIs, is_free, ground_of, Prepared, RoutineFits, FrameFits, StackFits, ThreadFits, MachineFits, size_of}
use Rattle.cp_slots.specs.Systems.{AreWords}
use Rattle.cp_machine.proofs.rooms.Keeping.{frame_fits}
use Rattle.cp_machine_laws.proofs.assignments.Apart.{frame_apart, frames_apart, components_apart}
use Rattle.cp_machine_laws.proofs.assignments.BlockStores.{VariablesApart}
use Rattle.cp_machine_laws.proofs.expressions.DesignatedTypes.{NamesTyped}
use Rattle.cp_machine_laws.proofs.expressions.FreeParts.{unqueued_free}
use Rattle.cp_machine_laws.proofs.control.Running.{Executes}
use Rattle.cp_machine_laws.proofs.assignments.Writing.{ComponentsApart}

module _ (t : Tree) (r : Tables) (l : Layouts) (prepared : Prepared t r l) where
  pub systems_stand : (n : ℕ) → n < length r.components → SystemIs (ground_of t r) t.program l (component_at r n).system
  systems_stand n h = prepared.stands.systems (component_at r n).system (prepared.program.below n h)

  pub variables_of_components : ComponentsApart r l
  variables_of_components = components_apart (ground_of t r) t.program l prepared.sound.typed systems_stand

  module _ (m : Machine) (q : ℕ) (fits : MachineFits r m) (there : q < length m.threads) where
    abbrev thread : Thread
    thread = thread_at m.threads q

    pub thread_fits : ThreadFits r thread
    thread_fits = fits.each q there

    pub own_frame : FrameFits r thread.frame
    own_frame = frame_fits r thread.frame thread.stack thread_fits.stack

    own_routine : RoutineFits (routine_at r thread.frame.routine)
    own_routine = prepared.sound.routines thread.frame.routine own_frame.routine

    words : AreWords r
    words = prepared.sound.typed.words

    pub few_cells : length thread.cells < 2 ^ 64
    few_cells = let a = thread_fits.cells in let b = own_frame.cells in let c = own_routine.cells in let d = words.cells in omega (arith, a, b, c, d)

    pub few_references : length thread.references < 2 ^ 64
    few_references = let a = thread_fits.references in let b = own_frame.references in let c = own_routine.references in let d = words.references in omega (arith, a, b, c, d)

    pub few_permanents : length m.permanents < 2 ^ 64
    few_permanents = let a = fits.permanents in let b = words.permanents in omega (arith, a, b)

    pub executes : Executes (ground_of t r) t.program l m q
    executes =
        record {
          routine = prepared.stands.routines thread.frame.routine own_frame.routine;
          few = record { permanents = few_permanents; cells = few_cells; references = few_references };
          numbered = λ k less. (let b = own_frame.references in let c = own_routine.references in let d = words.references in omega (arith, less, b, c, d));
        }

    pub names_typed : NamesTyped l thread.frame.routine
    names_typed =
        let k = prepared.program.routines thread.frame.routine own_frame.routine in
        record { fit = k.fit; result = k.result }

    -- a value of a type without queues is no part of a variable with queues
    pub variables_apart : (es : List Entry) → StackFits r thread.frame es → (u : Ty) → is_free u ≡ true → VariablesApart (ground_of t r) l m q es u
    variables_apart es below u free =
        record {
          calls = record {
            size = size_of r;
            apart = λ n h. frame_apart (ground_of t r) t.program l n (prepared.stands.routines n h);
            frames = frames_apart r thread.frame es below;
          };
          permanents = record {
            apart = variables_of_components;
            parts_apart = prepared.program.systems.apart;
            unqueued = λ n x v cs ds o j known e g. unqueued_free v cs ds o j u (prepared.program.systems.standing n x v known) free e g;
          };
        }
