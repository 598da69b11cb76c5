-- The components after the parameters of one are bound: that one has them, and all others are as they were.
use Rattle.std.proofs.Common.{◌≡◌, ◌≢◌, ◌∙◌, ℕ, ◌+◌, ◌<◌, ◌≤◌, ◌⊎◌, inl, inr, List, [], ◌++◌, Option, Some, None, ap, sym, refl, subst, arith, length, length-set}
use Rattle.cp_machine_laws.proofs.Words.{ℤ, slice_set, Program, Argument, IsTyped, component_at, system_at, Bound, Permanent, Memory, Machine, phase_at, Name}
use Rattle.cp_machine_laws.proofs.Words.{Ty, queue_type, Choice, part_at, Parameter, View, content_of, value_held, environment_of, value_at, parameter_variables}
use Rattle.cp_machine_laws.proofs.Words.{chosen_at, Ground, AreHanded, AreDifferent, content_second, cells_of, Layouts, SystemLayout, look, SystemParametersAre}
use Rattle.cp_meaning.specs.State as named
use Rattle.cp_meaning.specs.State.{Holder, in_call, in_component, Place, Content, knows, Environment, Component, no_component, ComponentStatus, State}
use Rattle.cp_machine_laws.specs.Represents.{LiesAt, BeginsAt, PlaceAt, PhaseIs, HasBegun, ComponentIs, all_permanents, Represents}
use Rattle.cp_machine_laws.proofs.starts.Handing.{CanHand, Hands, handed_memory, handed_bindings, hands_all, variables_handed, parts_handed, others_handed, not_found}
use Rattle.cp_machine_laws.proofs.assignments.Writing.{side as below_or_above}
use Rattle.cp_machine_laws.proofs.control.Moving.{set_here, set_there, same_or_other, set_keeps}
use Rattle.cp_machine_laws.proofs.control.Running.{permanent_lies}
use Rattle.cp_machine_laws.proofs.expressions.Parts.{encode_length}

-- what has to be known of the component whose parameters are bound
pub record CanStart (g : Ground) (l : Layouts) (permanents : List ℤ) (bindings : List ℕ) (mem : Memory) (d : ℕ) (qs : List Parameter) : Type 0 where
  pub there : d < length g.tables.components
  pub same : mem.permanents ≡ permanents
  pub typed : IsTyped g.tables
  pub hand : CanHand (l.systems (component_at g.tables d).system) mem bindings (component_at g.tables d).base (system_at g.tables (component_at g.tables d).system).own
  -- what components have lies in their own cells
  pub cells : (i : ℕ) → i < length g.tables.components → (x : Name) (t : Ty) → look x (l.systems (component_at g.tables i).system).variables ≡ Some t → (l.systems (component_at g.tables i).system).slots x + cells_of t ≤ (system_at g.tables (component_at g.tables i).system).own
  pub inside : (i : ℕ) → i < length g.tables.components → (x : Name) (t : Ty) → look x (l.systems (component_at g.tables i).system).parts ≡ Some t → (l.systems (component_at g.tables i).system).slots x < (system_at g.tables (component_at g.tables i).system).own
  pub parameters : SystemParametersAre (l.systems (component_at g.tables d).system) qs
  pub distinct : AreDifferent qs
  pub not_both : (x : Name) (t u : Ty) → look x (l.systems (component_at g.tables d).system).parts ≡ Some t → look x (l.systems (component_at g.tables d).system).variables ≡ Some u → ⊥
  pub closed : (x : Name) (t : Ty) → look x (l.systems (component_at g.tables d).system).parts ≡ Some t → look x (parameter_variables qs) ≡ Some t
  -- no parameter has a queue
  pub unqueued : (x : Name) (t u : Ty) (cs : List Choice) (o : ℕ) → look x (parameter_variables qs) ≡ Some u → look x (l.systems (component_at g.tables d).system).variables ≡ Some t → chosen_at t cs ≡ Some (o, queue_type) → ⊥

module _ (g : Ground) (p : Program) (l : Layouts) (s : State) (m : Machine) (rep : Represents g p l s m) (mem : Memory) (d : ℕ) (qs : List Parameter) (can : CanStart g l m.permanents m.bindings mem d qs)
    (e : Environment) (xs : List Argument) (bs : List Bound) (given : AreHanded mem (component_at g.tables d).base (system_at g.tables (component_at g.tables d).system).own (l.systems (component_at g.tables d).system).slots qs e xs bs) (u : ComponentStatus) where
  abbrev lay : SystemLayout
  lay = l.systems (component_at g.tables d).system

  abbrev base : ℕ
  base = (component_at g.tables d).base

  abbrev own : ℕ
  own = (system_at g.tables (component_at g.tables d).system).own

  abbrev old : Environment
  old = (named.component_at s.components d).environment

  abbrev pub memory : Memory
  memory = handed_memory lay mem m.bindings base own can.hand qs e old xs bs can.parameters can.distinct given can.not_both can.closed

  abbrev pub bindings : List ℕ
  bindings = handed_bindings lay mem m.bindings base own can.hand qs e old xs bs can.parameters can.distinct given can.not_both can.closed

  abbrev pub changed : Component
  changed = record (named.component_at s.components d) { status = u; environment = e ++ old }

  abbrev pub components_after : List Component
  components_after = slice_set s.components d changed

  pub hands : Hands lay mem m.bindings base own can.hand memory bindings
  hands = hands_all lay mem m.bindings base own can.hand qs e old xs bs can.parameters can.distinct given can.not_both can.closed

  there_d : d < length s.components
  there_d = let a = rep.component_count in let b = can.there in omega (arith, a, b)

  pub count : length components_after ≡ length s.components
  count = length-set s.components d changed

  pub here : named.component_at components_after d ≡ changed
  here = set_here s.components d changed no_component there_d

  pub other : (i : ℕ) → i ≢ d → named.component_at components_after i ≡ named.component_at s.components i
  other i away = set_there s.components d i changed no_component away

  pub line_same : (i : ℕ) → (named.component_at components_after i).line ≡ (named.component_at s.components i).line
  line_same i = set_keeps (λ (c : Component). c.line) s.components d changed no_component there_d refl i

  -- the cells of another component

  away : (i j : ℕ) → i < length g.tables.components → i ≢ d → j < (system_at g.tables (component_at g.tables i).system).own → ((component_at g.tables i).base + j < base) ⊎ (base + own ≤ (component_at g.tables i).base + j)
  away i j less f small = go (below_or_above i d f)
    where
      go : (i < d) ⊎ (d < i) → ((component_at g.tables i).base + j < base) ⊎ (base + own ≤ (component_at g.tables i).base + j)
      go (inl o) = inl (let a = can.typed.apart i d o can.there in omega (arith, a, small))
      go (inr o) = inr (let a = can.typed.apart d i o less in omega (arith, a))

  module _ (s2 : State) (m2 : Machine) (phase_here : PhaseIs (component_at g.tables d).kind u (phase_at m2 d)) (phases_there : (i : ℕ) → i ≢ d → phase_at m2 i ≡ phase_at m i)
      (begun : (i : ℕ) → i < length g.tables.components → i ≢ d → (w : ComponentStatus) → HasBegun s2 (component_at g.tables i).kind w → HasBegun s (component_at g.tables i).kind w) where
    abbrev state_with : State
    state_with = record s2 { components = components_after }

    abbrev machine_with : Machine
    machine_with = record m2 { permanents = memory.permanents; bindings = bindings }

    component_here : ComponentIs g p l state_with machine_with d
    component_here =
        let before = rep.components d there_d in
        record {
          phase = subst (λ (c : Component). PhaseIs (component_at g.tables d).kind c.status (phase_at m2 d)) (sym here) phase_here;
          variables = λ x t k.
              subst (λ (c : Component). LiesAt (all_permanents machine_with) t (value_held (content_of x c.environment)) (Permanent (base + lay.slots x))) (sym here)
              (permanent_lies memory (all_permanents machine_with) t (value_held (content_of x (e ++ old))) (base + lay.slots x) refl
              (variables_handed lay mem m.bindings base own can.hand qs e old xs bs can.parameters can.distinct given can.not_both can.closed x t k (permanent_lies (all_permanents m) mem t (value_held (content_of x old)) (base + lay.slots x) (sym can.same) (before.variables x t k))));
          parts = λ x t k b. ap (λ (c : Component). content_of x c.environment) here ∙ parts_handed lay mem m.bindings base own can.hand qs e old xs bs can.parameters can.distinct given can.not_both can.closed x t k;
          others = λ x a b. ap (λ (c : Component). content_of x c.environment) here ∙ others_handed lay mem m.bindings base own can.hand qs e old xs bs can.parameters can.distinct given can.not_both can.closed x a b (before.others x a b);
        }

    component_there : (i : ℕ) → i < length s.components → i ≢ d → ComponentIs g p l state_with machine_with i
    component_there i h f =
        let before = rep.components i h in
        let less : i < length g.tables.components = (let a = rep.component_count in omega (arith, a, h)) in
        let same = other i f in
        record {
          phase = subst (λ (c : Component). PhaseIs (component_at g.tables i).kind c.status (phase_at m2 i)) (sym same) (subst (λ w. PhaseIs (component_at g.tables i).kind (named.component_at s.components i).status w) (sym (phases_there i f)) before.phase);
          variables = λ x t k.
              subst (λ (c : Component). LiesAt (all_permanents machine_with) t (value_held (content_of x c.environment)) (Permanent ((component_at g.tables i).base + (l.systems (component_at g.tables i).system).slots x))) (sym same)
              (let first = permanent_lies (all_permanents m) mem t (value_held (content_of x (named.component_at s.components i).environment)) ((component_at g.tables i).base + (l.systems (component_at g.tables i).system).slots x) (sym can.same) (before.variables x t k) in
              let len = encode_length t (value_held (content_of x (named.component_at s.components i).environment)) first.typed in
              record {
                typed = first.typed;
                cells = (let a = first.cells in let b = hands.many in omega (arith, a, b));
                block = λ j small.
                    (let room = can.cells i less x t k in
                    let at : (component_at g.tables i).base + ((l.systems (component_at g.tables i).system).slots x + j) ≡ (component_at g.tables i).base + (l.systems (component_at g.tables i).system).slots x + j = omega arith in
                    hands.outside ((component_at g.tables i).base + (l.systems (component_at g.tables i).system).slots x + j)
                    (subst (λ a. (a < base) ⊎ (base + own ≤ a)) at (away i ((l.systems (component_at g.tables i).system).slots x + j) less f (omega (arith, room, small, len))))
                    ∙ first.block j small);
              });
          parts = λ x t k b. ap (λ (c : Component). content_of x c.environment) same ∙ (before.parts x t k (subst (λ w. HasBegun s (component_at g.tables i).kind w) (ap (λ (c : Component). c.status) same) (begun i less f (named.component_at components_after i).status b))
              ∙ ap (λ a. Some (knows a)) (sym (hands.others ((component_at g.tables i).base + (l.systems (component_at g.tables i).system).slots x) (away i ((l.systems (component_at g.tables i).system).slots x) less f (can.inside i less x t k)))));
          others = λ x a b. ap (λ (c : Component). content_of x c.environment) same ∙ before.others x a b;
        }

    pub components_stand : (i : ℕ) → i < length components_after → ComponentIs g p l (record s2 { components = components_after }) (record m2 { permanents = memory.permanents; bindings = bindings }) i
    components_stand i h = go (same_or_other i d)
      where
        go : (i ≡ d) ⊎ (i ≢ d) → ComponentIs g p l state_with machine_with i
        go (inl f) = subst (λ a. ComponentIs g p l state_with machine_with a) (sym f) component_here
        go (inr f) = component_there i (let a = count in omega (arith, a, h)) f

  -- ---- queues hold what they held

  abbrev old_view : View → View
  old_view v = record { program = v.program; calls = v.calls; components = s.components }

  pub queue_kept : (v : View) (x : Place) (i a : ℕ) → v.components ≡ components_after → x.holder ≡ in_component i → PlaceAt g.tables l [] x queue_type (Permanent a) → value_at v x ≡ value_at (old_view v) x
  queue_kept v x i a c f h = go x.holder f h.begins
    where
      content : (k : ℕ) → look x.name (l.systems (component_at g.tables k).system).variables ≡ Some h.whole → content_of x.name (named.component_at components_after k).environment ≡ content_of x.name (named.component_at s.components k).environment
      content k known = by (same_or_other k d)
        where
          by_look : look x.name lay.variables ≡ Some h.whole → (o : Option Ty) → look x.name (parameter_variables qs) ≡ o → content_of x.name (e ++ old) ≡ content_of x.name old
          by_look known None w = content_second x.name e old (not_found lay mem m.bindings base own can.hand x.name qs e xs bs given w)
          by_look known (Some t) w = absurd (can.unqueued x.name h.whole t x.choices h.offset w known h.chosen)

          by : (k ≡ d) ⊎ (k ≢ d) → content_of x.name (named.component_at components_after k).environment ≡ content_of x.name (named.component_at s.components k).environment
          by (inl z) =
              ap (λ b. content_of x.name (named.component_at components_after b).environment) z ∙ (ap (λ (b : Component). content_of x.name b.environment) here
              ∙ (by_look (subst (λ b. look x.name (l.systems (component_at g.tables b).system).variables ≡ Some h.whole) z known) (look x.name (parameter_variables qs)) refl ∙ ap (λ b. content_of x.name (named.component_at s.components b).environment) (sym z)))
          by (inr z) = ap (λ (b : Component). content_of x.name b.environment) (other k z)

      go : (o : Holder) → o ≡ in_component i → BeginsAt g.tables l [] o x.name h.whole h.first → part_at (value_held (content_of x.name (environment_of v o))) x.choices ≡ part_at (value_held (content_of x.name (environment_of (old_view v) o))) x.choices
      go (in_call b) z begins = absurd (cc)
      go (in_component k) z begins = ap (λ (w : Option Content). part_at (value_held w) x.choices) (ap (λ (cs : List Component). content_of x.name (named.component_at cs k).environment) c ∙ content k begins.known)
