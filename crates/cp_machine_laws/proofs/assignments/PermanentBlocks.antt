-- A value of any type is assigned to a permanent variable, or to a part of one: what stands for what is kept.
use Rattle.std.proofs.Common.{◌≡◌, ◌≢◌, ◌∙◌, ℕ, ◌+◌, ◌<◌, ◌⊎◌, inl, inr, Bool, true, false, List, [], Option, Some, None, ap, sym, refl, subst, arith, length, length-set}
use Rattle.cp_machine_laws.proofs.Words.{some_same, ℤ, slice_set, bytes_eq-Decides, Program, component_at, Address, Permanent, Local, Frame, Memory, cell_at, Entry}
use Rattle.cp_machine_laws.proofs.Words.{Machine, Thread, thread_at, no_thread, phase_at, with_stack, memory_at, with_memory, Name, same_name, Ty, queue_type, Value, Choice, with_part}
use Rattle.cp_machine_laws.proofs.Words.{part_at, View, content_of, with_content, value_held, environment_of, value_at, stored, becomes, view_of, settled, Layouts, look, encode, HasType}
use Rattle.cp_machine_laws.proofs.Words.{chosen_at, Ground, set-get_or}
use Rattle.cp_machine.specs.Statements as statements
use Rattle.cp_meaning.specs.State as named
use Rattle.cp_meaning.specs.State.{Holder, in_call, in_component, Place, Content, holds, Component, no_component, unstarted, Item, State}
use Rattle.cp_machine_laws.specs.Represents.{further, BeginsAt, PlaceAt, StackIs, frames_of, PhaseIs, HasBegun, ComponentIs, all_permanents, Represents}
use Rattle.cp_machine_laws.proofs.assignments.Blocks.{WritesBlock}
use Rattle.cp_machine_laws.proofs.assignments.BlocksInComponents.{after, block_content_new, block_content_kept, components_with_block}
use Rattle.cp_machine_laws.proofs.control.Control.{Goes, goes_still, StepIs}
use Rattle.cp_machine_laws.proofs.assignments.LocalBlocks.{memory_same}
use Rattle.cp_machine_laws.proofs.control.Moving.{same_or_other, set_keeps, begun_from, monitor_from}
use Rattle.cp_machine_laws.proofs.assignments.Writing.{ComponentsApart, ComponentsLie}

module _ (g : Ground) (p : Program) (l : Layouts) (s : State) (m : Machine) (rep : Represents g p l s m) (apart : ComponentsApart g.tables l)
    -- a name is a variable, or a parameter that is a component
    (parts_apart : (n : ℕ) (z w : Name) (t u : Ty) → look z (l.systems n).parts ≡ Some t → look w (l.systems n).variables ≡ Some u → same_name z w ≡ false)
    (k : ℕ) (x : Name) (u : Ty) (choices : List Choice) (offset : ℕ) (t : Ty) (y : Value) (there : k < length g.tables.components) (known : look x (l.systems (component_at g.tables k).system).variables ≡ Some u)
    (chosen : chosen_at u choices ≡ Some (offset, t)) (typed : HasType t y)
    (ps : List ℤ) (writes : WritesBlock (all_permanents m) (all_permanents (record m { permanents = ps })) (further (Permanent ((component_at g.tables k).base + (l.systems (component_at g.tables k).system).slots x)) offset) (encode y)) where
  pub there_named : k < length s.components
  there_named = let e = rep.component_count in omega (arith, e, there)

  pub lie : ComponentsLie g.tables l s.components (all_permanents m)
  lie n z v less h = (rep.components n (let e = rep.component_count in omega (arith, e, less))).variables z v h

  abbrev pub machine_after : Machine
  machine_after = record m { permanents = ps }

  abbrev pub components_after : List Component
  components_after = after g.tables l s.components (all_permanents m) (all_permanents machine_after) lie apart k x u choices offset t y there there_named known chosen typed writes

  abbrev pub state_after : State
  state_after = record s { components = components_after }

  abbrev changed : Component
  changed = record (named.component_at s.components k) { environment = with_content x (holds (with_part (value_held (content_of x (named.component_at s.components k).environment)) choices y)) (named.component_at s.components k).environment }

  status_same : (n : ℕ) → (named.component_at components_after n).status ≡ (named.component_at s.components n).status
  status_same n = set_keeps (λ (c : Component). c.status) s.components k changed no_component there_named refl n

  pub line_same : (n : ℕ) → (named.component_at components_after n).line ≡ (named.component_at s.components n).line
  line_same n = set_keeps (λ (c : Component). c.line) s.components k changed no_component there_named refl n

  pub content_new : same_name x x ≡ true → content_of x (named.component_at components_after k).environment ≡ Some (holds (with_part (value_held (content_of x (named.component_at s.components k).environment)) choices y))
  content_new h = block_content_new g.tables l s.components (all_permanents m) (all_permanents machine_after) lie apart k x u choices offset t y there there_named known chosen typed writes h

  pub content_same : (n : ℕ) (z : Name) → (n ≢ k) ⊎ (same_name z x ≡ false) → content_of z (named.component_at components_after n).environment ≡ content_of z (named.component_at s.components n).environment
  content_same n z d = block_content_kept g.tables l s.components (all_permanents m) (all_permanents machine_after) lie apart k x u choices offset t y there there_named known chosen typed writes n z d

  pub variables_after : ComponentsLie g.tables l components_after (all_permanents machine_after)
  variables_after n z v less d = components_with_block g.tables l s.components (all_permanents m) (all_permanents machine_after) lie apart k x u choices offset t y there there_named known chosen typed writes n z v less d

  -- another name of the component, or another component
  other_name : (n : ℕ) (z : Name) → (n ≡ k → same_name z x ≡ false) → (n ≢ k) ⊎ (same_name z x ≡ false)
  other_name n z h = go (same_or_other n k)
    where
      go : (n ≡ k) ⊎ (n ≢ k) → (n ≢ k) ⊎ (same_name z x ≡ false)
      go (inl e) = inr (h e)
      go (inr d) = inl d

  not_named : (n : ℕ) (z : Name) → n ≡ k → look z (l.systems (component_at g.tables n).system).variables ≡ None → same_name z x ≡ false
  not_named n z e h = go (same_name z x) refl
    where
      go : (b : Bool) → same_name z x ≡ b → same_name z x ≡ false
      go true d =
          let same : z ≡ x = (bytes_eq-Decides z x).0 d in
          let w : look x (l.systems (component_at g.tables k).system).variables ≡ None = subst (λ v. look v (l.systems (component_at g.tables k).system).variables ≡ None) same (subst (λ i. look z (l.systems (component_at g.tables i).system).variables ≡ None) e h) in
          absurd (cc)
      go false d = d

  -- what stands for the components, in each state and machine that have them, where who was unstarted is so still
  pub components_stand : (s2 : State) (m2 : Machine) → ((j : ℕ) → (named.process_at s.processes j).status ≡ unstarted → (named.process_at s2.processes j).status ≡ unstarted) → (n : ℕ) → n < length components_after →
      ComponentIs g p l (record s2 { components = components_after }) (record m2 { permanents = ps; phases = m.phases; bindings = m.bindings }) n
  components_stand s2 m2 still n h =
      let less : n < length s.components = (let e : length components_after ≡ length s.components = length-set s.components k _ in omega (arith, e, h)) in
      let c = rep.components n less in
      record {
        phase = subst (λ v. PhaseIs (component_at g.tables n).kind v (phase_at m n)) (sym (status_same n)) c.phase;
        variables = λ z v d. variables_after n z v (let e = rep.component_count in omega (arith, e, less)) d;
        parts = λ z v d b. content_same n z (other_name n z (λ e. parts_apart (component_at g.tables n).system z x v u d (subst (λ i. look x (l.systems (component_at g.tables i).system).variables ≡ Some u) (sym e) known)))
            ∙ c.parts z v d (subst (λ w. HasBegun s (component_at g.tables n).kind w) (status_same n) (begun_from s (record s2 { components = components_after }) still (component_at g.tables n).kind (named.component_at components_after n).status b));
        others = λ z d b. content_same n z (other_name n z (λ e. not_named n z e d)) ∙ c.others z d b;
      }

  -- the variable has no queue
  module _ (unqueued : (cs : List Choice) (o : ℕ) → chosen_at u cs ≡ Some (o, queue_type) → ⊥) where
    abbrev old_view : View → View
    old_view v = record { program = v.program; calls = v.calls; components = s.components }

    -- a queue is no part of the variable that is written
    queue_elsewhere : (n : ℕ) (z : Name) (v : Ty) (cs : List Choice) (o : ℕ) → look z (l.systems (component_at g.tables n).system).variables ≡ Some v → chosen_at v cs ≡ Some (o, queue_type) → (n ≢ k) ⊎ (same_name z x ≡ false)
    queue_elsewhere n z v cs o h e = other_name n z (λ d. go d (same_name z x) refl)
      where
        go : n ≡ k → (b : Bool) → same_name z x ≡ b → same_name z x ≡ false
        go d true w =
            let same : z ≡ x = (bytes_eq-Decides z x).0 w in
            let found : look x (l.systems (component_at g.tables k).system).variables ≡ Some v = subst (λ i. look i (l.systems (component_at g.tables k).system).variables ≡ Some v) same (subst (λ i. look z (l.systems (component_at g.tables i).system).variables ≡ Some v) d h) in
            absurd (unqueued cs o (subst (λ i. chosen_at i cs ≡ Some (o, queue_type)) (some_same v u (sym found ∙ known)) e))
        go d false w = w

    place_same : (v : View) (z : Place) (n a : ℕ) → v.components ≡ components_after → z.holder ≡ in_component n → PlaceAt g.tables l [] z queue_type (Permanent a) → value_at v z ≡ value_at (old_view v) z
    place_same v z n a c e h = go z.holder e h.begins
      where
        go : (w : Holder) → w ≡ in_component n → BeginsAt g.tables l [] w z.name h.whole h.first → part_at (value_held (content_of z.name (environment_of v w))) z.choices ≡ part_at (value_held (content_of z.name (environment_of (old_view v) w))) z.choices
        go (in_call b) d begins = absurd (cc)
        go (in_component i) d begins =
            ap (λ (o : Option Content). part_at (value_held o) z.choices)
            (ap (λ (cs : List Component). content_of z.name (named.component_at cs i).environment) c ∙ content_same i z.name (queue_elsewhere i z.name h.whole z.choices h.offset begins.known h.chosen))

    pub permanent_with_block : Represents g p l (record s { components = components_after }) (record m { permanents = ps })
    permanent_with_block =
        record {
          process_count = rep.process_count;
          component_count = length-set s.components k _ ∙ rep.component_count;
          processes = rep.processes;
          components = components_stand s m (λ j e. e);
          monitors = λ n h. monitor_from s state_after m machine_after n (component_at g.tables n).kind refl (line_same n) (λ j e. refl) (rep.monitors n (let e : length components_after ≡ length s.components = length-set s.components k _ in omega (arith, e, h)));
          queues = record {
            waiting = λ q n a v less e f c. (let w = rep.queues.waiting q n a (old_view v) less e f refl in (w.0, w.1, w.2, place_same v w.0 n a c w.1 w.2 ∙ w.3));
            queued = λ z q n a v c e h d. rep.queues.queued z q n a (old_view v) refl e h (sym (place_same v z n a c e h) ∙ d);
          };
          pending = rep.pending;
          discipline = rep.discipline;
          output = rep.output;
        }

-- ---- the step

-- what is known of permanent variables: they are apart, and none has both a value of the type and a queue
pub record PermanentsApart (g : Ground) (l : Layouts) (t : Ty) : Type 0 where
  pub apart : ComponentsApart g.tables l
  pub parts_apart : (n : ℕ) (x w : Name) (t u : Ty) → look x (l.systems n).parts ≡ Some t → look w (l.systems n).variables ≡ Some u → same_name x w ≡ false
  pub unqueued : (n : ℕ) (x : Name) (u : Ty) (cs ds : List Choice) (o j : ℕ) → look x (l.systems n).variables ≡ Some u → chosen_at u cs ≡ Some (o, t) → chosen_at u ds ≡ Some (j, queue_type) → ⊥

module _ (m : Machine) (q : ℕ) (m2 : Memory) (a : ℕ) (ws : List ℤ) (writes : WritesBlock (memory_at m q) m2 (Permanent a) ws) where
  -- only permanent cells are written
  permanents_only : with_memory m q m2 ≡ record m { permanents = m2.permanents }
  permanents_only =
      ap (λ (xs : List ℤ). with_memory m q (record { permanents = m2.permanents; cells = xs; references = m2.references })) writes.others
      ∙ (ap (λ (rs : List Address). with_memory m q (record { permanents = m2.permanents; cells = (thread_at m.threads q).cells; references = rs })) writes.references
      ∙ ap (λ (ts : List Thread). record m { permanents = m2.permanents; threads = ts }) (set-get_or m.threads q no_thread))

  all_writes : WritesBlock (all_permanents m) (all_permanents (record m { permanents = m2.permanents })) (Permanent a) ws
  all_writes = record { here = writes.here; there = there; permanents = writes.permanents; cells = refl; references = refl; others = refl }
    where
      there : (b : Address) → ((k : ℕ) → k < length ws → (b ≡ further (Permanent a) k → ⊥)) → cell_at (all_permanents (record m { permanents = m2.permanents })) b ≡ cell_at (all_permanents m) b
      there (Local j) out = refl
      there (Permanent j) out = writes.there (Permanent j) out

pub permanent_block_stored : (g : Ground) (p : Program) (l : Layouts) (s : State) (m : Machine) (q line : ℕ) (es : List Entry) → Goes g p l s m q es → (t : Ty) → PermanentsApart g l t → (fs : List Frame)
    (zs : List Item) (gs : List Entry) → StackIs g p l (thread_at m.threads q).frame (named.process_at s.processes q).calls zs gs → frames_of (thread_at m.threads q).frame gs ≡ frames_of (thread_at m.threads q).frame es →
    (n : ℕ) (x : Name) (choices : List Choice) (a : Address) (y : Value) → PlaceAt g.tables l fs (record { holder = in_component n; name = x; choices = choices }) t a → HasType t y →
    (change : Memory → Memory) → WritesBlock (memory_at m q) (change (memory_at m q)) a (encode y) →
    StepIs g p l q line (settled p s q (becomes (stored (view_of p s q) (record { holder = in_component n; name = x; choices = choices }) y) zs)) (statements.local (with_memory (with_stack m q gs) q (change (memory_at (with_stack m q gs) q))))
permanent_block_stored g p l s m q line es k t known fs zs gs is same n x choices a y place typed change writes =
    record {
      state = subst (λ w. Represents g p l (settled p s q (becomes (stored (view_of p s q) (record { holder = in_component n; name = x; choices = choices }) y) zs)).state w) (sym (permanents_only (with_stack m q gs) q (change (memory_at (with_stack m q gs) q)) cell (encode y) writes_now))
          (permanent_with_block g p l still (with_stack m q gs) now known.apart known.parts_apart n x place.whole choices place.offset t y place.begins.there place.begins.known place.chosen typed
          (change (memory_at (with_stack m q gs) q)).permanents (all_writes (with_stack m q gs) q (change (memory_at (with_stack m q gs) q)) cell (encode y) writes_now)
          (λ cs j e. known.unqueued (component_at g.tables n).system x place.whole choices cs place.offset j place.begins.known place.chosen e));
      event = refl;
    }
  where
    cell : ℕ
    cell = (component_at g.tables n).base + (l.systems (component_at g.tables n).system).slots x + place.offset

    still : State
    still = record s { processes = slice_set s.processes q (record { component = (named.process_at s.processes q).component; status = named.ready; calls = (named.process_at s.processes q).calls; items = zs }) }

    now : Represents g p l still (with_stack m q gs)
    now = goes_still g p l s m q es k zs gs is same

    at_cell : a ≡ Permanent cell
    at_cell = place.address ∙ ap (λ b. further b place.offset) place.begins.address

    many : q < length m.threads
    many = let e = k.rep.process_count in let b = k.there in omega (arith, e, b)

    writes_now : WritesBlock (memory_at (with_stack m q gs) q) (change (memory_at (with_stack m q gs) q)) (Permanent cell) (encode y)
    writes_now = subst (λ (x : Memory). WritesBlock x (change x) (Permanent cell) (encode y)) (sym (memory_same m q gs many)) (subst (λ b. WritesBlock (memory_at m q) (change (memory_at m q)) b (encode y)) at_cell writes)
