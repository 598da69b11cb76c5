-- The opening states are related, and what is read of related states is the same.
use Rattle.std.proofs.Common.{◌≡◌, ◌∙◌, ℕ, ◌+◌, ◌<◌, List, [], Option, Some, None, ap, sym, refl, subst, arith, length}
use Rattle.cp_machine_laws.proofs.Words.{slice_index_or, SystemKind, Tree, Program, ComponentKind, Tables, component_at, Machine, slots, System, Parameter, Name, book_discipline}
use Rattle.cp_machine_laws.proofs.Words.{Discipline, State, opening, first_components, parameter_variables, at_first, Ty, Layouts, look, Ground, CanGo, LooksAlike, ground_of}
use Rattle.cp_machine_laws.proofs.Words.{Simulates, Prepared, PendingIs, monitors_of, monitors_from}
use Rattle.cp_tree.specs.declared.declaration.SystemKind.TheVariants as system_kind
use Rattle.cp_slots.specs.declared.tables.ComponentKind.TheVariants as kind
use Rattle.cp_slots.specs.Fits.{KindFits}
use Rattle.cp_machine.specs.declared.process.Status.TheVariants as status
use Rattle.cp_machine.specs.Machine.{waiting_of}
use Rattle.cp_machine.specs.Opening as machine
use Rattle.cp_machine.proofs.rooms.OpeningFits.{still_fits, restatused}
use Rattle.cp_machine.proofs.lines.OpeningLines.{opening_lines}
use Rattle.cp_machine.proofs.frames.ReachingKept.{opening_reaches}
use Rattle.cp_meaning.proofs.Exclusion.{program_kind}
use Rattle.cp_meaning.specs.Readings as readings
use Rattle.cp_meaning.specs.State as named
use Rattle.cp_meaning.specs.Systems.{SystemMeaning, declared, own_meaning, or_own, system_of, program_system}
use Rattle.cp_resolved.specs.Resolved as resolved
use Rattle.cp_machine_laws.specs.Named as own
use Rattle.cp_machine_laws.specs.Named.{discipline_of, monitor_number}
use Rattle.cp_machine_laws.proofs.gates.MonitorNumbers.{is_a_monitor, one_number}
use Rattle.cp_machine_laws.proofs.steps.Observed.{is_ready_alike, waits_alike, pending_alike, output_alike, holder_alike, waiting_alike, in_line_alike}
use Rattle.cp_machine_laws.proofs.steps.OpeningState.{processes_are, opens}
use Rattle.cp_machine_laws.proofs.ReachedKinds.{monitor_there}
use Rattle.cp_resolved.proofs.names.Entries.{past_there as past}

-- the program itself has no parameters
own_parameters : (p : Program) → (system_of p (program_system p)).parameters ≡ []
own_parameters p = ap (λ (o : Option SystemMeaning). (or_own (own_meaning (declared p) p) o).parameters) (past (declared p).systems)

monitor_tells : (r : Tables) (p : Program) (n : ℕ) (a : SystemKind) (c : ComponentKind) → resolved.KindIs r p n a c → a ≡ system_kind.Monitor → (j : ℕ) × (c ≡ kind.Monitor j) × (slice_index_or (monitors_of (opening p book_discipline)) j (length r.components) ≡ n)
monitor_tells r p n system_kind.Monitor (kind.Monitor j) h e = (j, refl, h)
monitor_tells r p n system_kind.Monitor c h e = absurd h
monitor_tells r p n x c h e = absurd (cc)

module _ (t : Tree) (r : Tables) (l : Layouts) (g : Discipline) (prepared : Prepared t r l) where
  abbrev p : Program
  p = t.program

  abbrev on_names : System State
  on_names = own.named t g

  abbrev on_slots : System Machine
  on_slots = slots r (discipline_of g)

  -- ---- the opening states

  plain : (x : Name) (u : Ty) → look x (l.systems (program_system p)).parts ≡ Some u → ⊥
  plain x u e =
      let w : look x (parameter_variables []) ≡ Some u = subst (λ (qs : List Parameter). look x (parameter_variables qs) ≡ Some u) (own_parameters p) (prepared.program.systems.closed (program_system p) x u e) in
      cc

  pub opening_simulates : Simulates t r l g (opening p g) (machine.opening r (discipline_of g))
  opening_simulates =
      record {
        reached = at_first;
        fits = restatused r (machine.still r (discipline_of g)) 0 status.Ready (still_fits r (discipline_of g) prepared.sound);
        lines = opening_lines r (discipline_of g);
        reach = opening_reaches r (discipline_of g) prepared.sound prepared.sound.typed prepared.sound.program;
        represents = opens (ground_of t r) t l g
            (record {
              stands = prepared.stands;
              typed = prepared.sound.typed;
              below = prepared.program.below;
              plain = plain;
              others = prepared.program.systems.silent;
              unsaid = prepared.program.unsaid (program_system p) (program_kind p);
            });
      }

  pub process_count : length (opening p g).processes ≡ length r.processes
  process_count = sym prepared.stands.process_count

  pub first_goes : CanGo on_names (opening p g) 0
  first_goes =
      record {
        below = (let a = ap length (processes_are p g) in omega (arith, a));
        ready = ap (λ ps. readings.is_ready (named.process_at ps 0).status) (processes_are p g);
        free = refl;
      }

  -- ---- what is read

  module _ (s : State) (m : Machine) (sim : Simulates t r l g s m) where
    abbrev ground : Ground
    ground = ground_of t r

    pub same_count : length s.processes ≡ length (opening p g).processes
    same_count = sim.represents.process_count ∙ (sim.fits.threads ∙ prepared.stands.process_count)

    pending_there : (n : ℕ) → s.pending ≡ Some n → n < length s.components
    pending_there n e = go m.pending (subst (λ o. PendingIs ground o m.pending) e sim.represents.pending)
      where
        go : (w : Option ℕ) → PendingIs ground (Some n) w → n < length s.components
        go None h = absurd h
        go (Some j) h = let a = monitor_there t r l prepared.stands n j h in let b = sim.represents.component_count in omega (arith, a, b)

    -- the monitor of a number is on names the component that has the number in the tables
    its_monitor : (k : ℕ) → k < length (monitors_of (opening p g)) → (n : ℕ) × (monitor_number p g k ≡ n) × (n < length s.components) × ((component_at r n).kind ≡ kind.Monitor k)
    its_monitor k less =
        let w = is_a_monitor (first_components p) 0 k (length (first_components p)) less in
        let number : monitor_number p g k ≡ w.place = w.is ∙ (let z : 0 + w.place ≡ w.place = omega arith in z) in
        let there : w.place < length r.components = (let a = w.there in let b = prepared.stands.count in omega (arith, a, b)) in
        let told = monitor_tells r p w.place (named.component_at (first_components p) w.place).kind (component_at r w.place).kind (prepared.stands.components w.place there).kind w.kind in
        let found : slice_index_or (monitors_from 0 (first_components p)) told.0 (length (first_components p)) ≡ w.place = subst (λ n. slice_index_or (monitors_from 0 (first_components p)) told.0 n ≡ w.place) prepared.stands.count told.2 in
        let small : told.0 < length (monitors_from 0 (first_components p)) = (let a = subst (KindFits r) told.1 (prepared.sound.components w.place there) in let b = prepared.stands.monitor_count in omega (arith, a, b)) in
        let same : told.0 ≡ k = one_number (first_components p) 0 told.0 k (length (first_components p)) small less (found ∙ sym number) in
        (w.place, number, (let b = sim.represents.component_count in omega (arith, there, b)), told.1 ∙ ap kind.Monitor same)

    holder_same : (k : ℕ) → k < length (monitors_of (opening p g)) → readings.holder_of s (monitor_number p g k) ≡ (on_slots.holder m k)
    holder_same k less = let n = its_monitor k less in ap (readings.holder_of s) n.1 ∙ holder_alike ground p l s m sim.represents sim.lines n.0 k n.2 n.3

    pub waiting_same : (k : ℕ) → k < length (monitors_of (opening p g)) → readings.rising_line s (monitor_number p g k) ≡ waiting_of m k
    waiting_same k less = let n = its_monitor k less in ap (readings.rising_line s) n.1 ∙ waiting_alike ground p l s m sim.represents sim.lines n.0 k n.2 n.3

    pub looks_alike : LooksAlike on_names on_slots s m
    looks_alike =
        record {
          ready = λ q less. is_ready_alike ground p l s m sim.represents sim.lines q (let a = same_count in omega (arith, a, less));
          pending = pending_alike ground p l s m sim.represents sim.lines;
          lined = λ q less. in_line_alike ground p l s m sim.represents sim.lines pending_there q;
          waits = waits_alike ground p l s m sim.represents sim.lines;
          holder = holder_same;
          output = output_alike ground p l s m sim.represents sim.lines;
        }
