-- A component that is started can be handed its parameters: they lie in its own cells, apart from all others.
use Rattle.cp_machine_laws.proofs.Words.{◌≡◌, ◌∙◌, ℕ, ◌<◌, true, false, List, ◌∷◌, sym, refl, arith, length, Tree, Expressions, more_expressions, Tables, component_at, Frame}
use Rattle.cp_machine_laws.proofs.Words.{MachineFits, Machine, memory_at, Parameter, View, State, system_of, queue_type, Layouts, free_part, ground_of, Prepared, AreHandedSo}
use Rattle.cp_machine_laws.specs.Parameters.{HaveTypes}
use Rattle.cp_machine_laws.proofs.expressions.DesignatedTypes.{range_known}
use Rattle.cp_machine_laws.proofs.steps.Executed.{systems_stand, few_permanents, few_cells, few_references}
use Rattle.cp_machine_laws.proofs.starts.Handed.{CanStart}
use Rattle.cp_machine_laws.proofs.starts.StartArguments.{StartArgumentsKnown}
use Rattle.cp_resolved.proofs.frames.FrameCells.{itself}

pub start_arguments_known : (r : Tables) (l : Layouts) (fs : List Frame) (v : View) (base own : ℕ) (qs : List Parameter) (es : Expressions) → HaveTypes qs → AreHandedSo r l fs v base own qs es → StartArgumentsKnown r l fs v base own qs es
start_arguments_known r l fs v base own (q ∷ qs) (more_expressions e es) typed h =
    (record { plain = typed.0; range = range_known q.ty typed.1; component = h.0.component; outside = h.0.outside }, start_arguments_known r l fs v base own qs es typed.2 h.1)
start_arguments_known r l fs v base own _ _ typed h = tt

pub can_start : (t : Tree) (r : Tables) (l : Layouts) → Prepared t r l → (s : State) (m : Machine) (q : ℕ) → MachineFits r m → q < length m.threads → (d : ℕ) → d < length r.components →
    CanStart (ground_of t r) l m.permanents m.bindings (memory_at m q) d (system_of t.program (component_at r d).system).parameters
can_start t r l prepared s m q fits many d there =
    let own = systems_stand t r l prepared d there in
    let k = (component_at r d).system in
    let owns = prepared.sound.typed.components d there in
    record {
      there = there;
      same = refl;
      typed = prepared.sound.typed;
      hand = record {
        cells = own.cells;
        apart = own.apart;
        inside = λ x u e. prepared.program.systems.parts k x u (prepared.program.below d there) e;
        different = prepared.program.systems.parts_apart k;
        few = record { permanents = few_permanents t r l prepared m q fits many; cells = few_cells t r l prepared m q fits many; references = few_references t r l prepared m q fits many };
        room = (let a = owns.cells in let b = fits.permanents in omega (arith, a, b));
        numbers = (let a = owns.cells in let b = fits.bindings in omega (arith, a, b));
      };
      cells = λ i less. (systems_stand t r l prepared i less).cells;
      inside = λ i less x u e. prepared.program.systems.parts (component_at r i).system x u (prepared.program.below i less) e;
      parameters = own.parameters;
      distinct = prepared.program.systems.different k;
      not_both = λ x u v e f. (let bad : true ≡ false = sym (itself x) ∙ prepared.program.systems.apart k x x u v e f in cc);
      closed = prepared.program.systems.closed k;
      unqueued = λ x u v cs o e f h. (let free = prepared.program.systems.free k x u v e f in let bad : false ≡ true = free_part u cs (o, queue_type) free h in cc);
    }
