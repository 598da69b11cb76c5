-- A class or monitor goes on to another phase: its initial statement begins or has ended.
use Rattle.std.proofs.Common.{◌≡◌, ◌≢◌, ◌∙◌, ℕ, ◌<◌, ◌⊎◌, inl, inr, List, sym, refl, subst, arith, length, length-set}
use Rattle.cp_machine_laws.proofs.Words.{Program, component_at, Phase, View, value_at, Layouts}
use Rattle.cp_machine_laws.proofs.Words.{Ground, Machine, phase_at, with_phase, PhaseIs, HasBegun, Represents}
use Rattle.cp_machine.specs.declared.state.Phase.TheVariants as phase
use Rattle.cp_meaning.specs.State as named
use Rattle.cp_meaning.specs.State.{in_component, Place, Component, no_component, ComponentStatus, State}
use Rattle.cp_meaning.specs.Calls.{with_status}
use Rattle.cp_machine_laws.proofs.control.Moving.{set_here, set_there, same_or_other, set_keeps, begun_from, monitor_from, component_from, place_kept}

module _ (g : Ground) (p : Program) (l : Layouts) (s : State) (m : Machine) (rep : Represents g p l s m) (n : ℕ) (there : n < length s.components) (phases : n < length m.phases) (u : ComponentStatus) (f : Phase)
    (agrees : PhaseIs (component_at g.tables n).kind u f) (begun : HasBegun s (component_at g.tables n).kind u → HasBegun s (component_at g.tables n).kind (named.component_at s.components n).status) where
  abbrev changed : Component
  changed = record (named.component_at s.components n) { status = u }

  abbrev components_after : List Component
  components_after = with_status s.components n u (named.component_at s.components n).environment

  abbrev state_after : State
  state_after = record s { components = components_after }

  abbrev machine_after : Machine
  machine_after = with_phase m n f

  here : named.component_at components_after n ≡ changed
  here = set_here s.components n changed no_component there

  other : (i : ℕ) → i ≢ n → named.component_at components_after i ≡ named.component_at s.components i
  other i d = set_there s.components n i changed no_component d

  -- of a component only the status changes
  environment_same : (i : ℕ) → (named.component_at components_after i).environment ≡ (named.component_at s.components i).environment
  environment_same i = set_keeps (λ (c : Component). c.environment) s.components n changed no_component there refl i

  begun_before : (i : ℕ) → HasBegun state_after (component_at g.tables i).kind (named.component_at components_after i).status → HasBegun s (component_at g.tables i).kind (named.component_at s.components i).status
  begun_before i h = go (same_or_other i n) (begun_from s state_after (λ j e. e) (component_at g.tables i).kind (named.component_at components_after i).status h)
    where
      go : (i ≡ n) ⊎ (i ≢ n) → HasBegun s (component_at g.tables i).kind (named.component_at components_after i).status → HasBegun s (component_at g.tables i).kind (named.component_at s.components i).status
      go (inl e) h =
          let at_n : HasBegun s (component_at g.tables n).kind (named.component_at components_after n).status = subst (λ k. HasBegun s (component_at g.tables k).kind (named.component_at components_after k).status) e h in
          subst (λ k. HasBegun s (component_at g.tables k).kind (named.component_at s.components k).status) (sym e) (begun (subst (λ (c : Component). HasBegun s (component_at g.tables n).kind c.status) here at_n))
      go (inr d) h = subst (λ (c : Component). HasBegun s (component_at g.tables i).kind c.status) (other i d) h

  phase_after : (i : ℕ) → PhaseIs (component_at g.tables i).kind (named.component_at s.components i).status (phase_at m i) → PhaseIs (component_at g.tables i).kind (named.component_at components_after i).status (phase_at machine_after i)
  phase_after i h = go (same_or_other i n)
    where
      go : (i ≡ n) ⊎ (i ≢ n) → PhaseIs (component_at g.tables i).kind (named.component_at components_after i).status (phase_at machine_after i)
      go (inl e) =
          subst (λ k. PhaseIs (component_at g.tables k).kind (named.component_at components_after k).status (phase_at machine_after k)) (sym e)
          (subst (λ (c : Component). PhaseIs (component_at g.tables n).kind c.status (phase_at machine_after n)) (sym here)
          (subst (λ w. PhaseIs (component_at g.tables n).kind u w) (sym (set_here m.phases n f phase.Uninitialised phases)) agrees))
      go (inr d) =
          subst (λ (c : Component). PhaseIs (component_at g.tables i).kind c.status (phase_at machine_after i)) (sym (other i d))
          (subst (λ w. PhaseIs (component_at g.tables i).kind (named.component_at s.components i).status w) (sym (set_there m.phases n i f phase.Uninitialised d)) h)

  count_same : length components_after ≡ length s.components
  count_same = length-set s.components n changed

  kept : (v : View) (x : Place) (i : ℕ) → v.components ≡ components_after → x.holder ≡ in_component i → value_at v x ≡ value_at (record { program = v.program; calls = v.calls; components = s.components }) x
  kept v x i c e = place_kept s.components components_after environment_same v x i c e

  pub phase_changed : Represents g p l (record s { components = with_status s.components n u (named.component_at s.components n).environment }) (with_phase m n f)
  phase_changed =
      record {
        process_count = rep.process_count;
        component_count = count_same ∙ rep.component_count;
        processes = rep.processes;
        components = λ i h. (let c = rep.components i (let e = count_same in omega (arith, e, h)) in component_from g p l s state_after m machine_after i (environment_same i) (phase_after i c.phase) (begun_before i) c);
        monitors = λ i h. monitor_from s state_after m machine_after i (component_at g.tables i).kind refl (set_keeps (λ (c : Component). c.line) s.components n changed no_component there refl i) (λ j e. refl) (rep.monitors i (let e = count_same in omega (arith, e, h)));
        queues = record {
          waiting = λ q i cell v less e f c. (let w = rep.queues.waiting q i cell (record { program = v.program; calls = v.calls; components = s.components }) less e f refl in (w.0, w.1, w.2, kept v w.0 i c w.1 ∙ w.3));
          queued = λ x q i cell v c e h d. rep.queues.queued x q i cell (record { program = v.program; calls = v.calls; components = s.components }) refl e h (sym (kept v x i c e) ∙ d);
        };
        pending = rep.pending;
        discipline = rep.discipline;
        output = rep.output;
      }
