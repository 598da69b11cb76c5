-- A queue of a component is written: what it holds lies in its cell, and all else lies as it did.
use Rattle.std.proofs.Common.{◌≡◌, ◌≢◌, ◌∙◌, ℕ, ◌+◌, ◌<◌, ◌⊎◌, inl, inr, Bool, true, false, List, [], Option, Some, ap, sym, refl, subst, arith, length}
use Rattle.cp_machine_laws.proofs.Words.{some_same, ℤ, slice_set, bytes_eq-Decides, Program, component_at, Permanent, Machine, Name, same_name, Ty, queue_type, Value, queue_value}
use Rattle.cp_machine_laws.proofs.Words.{Choice, with_part, part_at, Layouts, look, encode, flag_of, chosen_at, Ground, View, content_of, with_content, value_held, with_permanents}
use Rattle.cp_machine_laws.proofs.Words.{value_at, LiesAt, BeginsAt, PlaceAt, ComponentIs, all_permanents, Represents}
use Rattle.cp_meaning.specs.State as named
use Rattle.cp_meaning.specs.State.{Holder, in_call, in_component, Place, Content, holds, Component, unstarted, State}
use Rattle.cp_machine_laws.proofs.control.Moving.{same_or_other, value_in}
use Rattle.cp_machine_laws.proofs.expressions.Parts.{encode_length, part_stands}
use Rattle.cp_machine_laws.proofs.queues.QueueParts.{part_written, part_other}
use Rattle.cp_machine_laws.proofs.assignments.Blocks.{WritesBlock, number_writes}
use Rattle.cp_machine_laws.proofs.assignments.PermanentBlocks as written
use Rattle.cp_machine_laws.proofs.assignments.Writing.{ComponentsApart, ComponentsLie}

module _ (g : Ground) (p : Program) (l : Layouts) (s : State) (m : Machine) (rep : Represents g p l s m) (apart : ComponentsApart g.tables l)
    -- a name is a variable, or a parameter that is a component
    (parts_apart : (n : ℕ) (x w : Name) (t u : Ty) → look x (l.systems n).parts ≡ Some t → look w (l.systems n).variables ≡ Some u → same_name x w ≡ false)
    (n : ℕ) (y : Name) (u : Ty) (choices : List Choice) (offset : ℕ) (o : Option ℕ) (there : n < length g.tables.components) (known : look y (l.systems (component_at g.tables n).system).variables ≡ Some u)
    (chosen : chosen_at u choices ≡ Some (offset, queue_type)) where
  abbrev pub cell : ℕ
  cell = (component_at g.tables n).base + (l.systems (component_at g.tables n).system).slots y + offset

  pub there_named : n < length s.components
  there_named = let e = rep.component_count in omega (arith, e, there)

  abbrev pub old : Value
  old = value_held (content_of y (named.component_at s.components n).environment)

  abbrev pub permanents_after : List ℤ
  permanents_after = slice_set m.permanents cell (flag_of o)

  pub old_lies : LiesAt (all_permanents m) u old (Permanent ((component_at g.tables n).base + (l.systems (component_at g.tables n).system).slots y))
  old_lies = (rep.components n there_named).variables y u known

  -- the queue is written as the value of its one cell
  pub writes : WritesBlock (all_permanents m) (all_permanents (record m { permanents = permanents_after })) (Permanent cell) (encode (queue_value o))
  writes =
      let w = (part_stands u old choices (offset, queue_type) old_lies.typed chosen).inside in
      let size = encode_length u old old_lies.typed in
      let a = old_lies.cells in
      number_writes (all_permanents m) (Permanent cell) (flag_of o) (omega (arith, w, size, a))

  abbrev pub components_after : List Component
  components_after = with_permanents s.components n (with_content y (holds (with_part old choices (queue_value o))) (named.component_at s.components n).environment)

  pub line_same : (i : ℕ) → (named.component_at components_after i).line ≡ (named.component_at s.components i).line
  line_same i = written.line_same g p l s m rep apart parts_apart n y u choices offset queue_type (queue_value o) there known chosen tt permanents_after writes i

  content_kept : (i : ℕ) (x : Name) → (i ≢ n) ⊎ (same_name x y ≡ false) → content_of x (named.component_at components_after i).environment ≡ content_of x (named.component_at s.components i).environment
  content_kept i x d = written.content_same g p l s m rep apart parts_apart n y u choices offset queue_type (queue_value o) there known chosen tt permanents_after writes i x d

  -- the name itself
  content_new : same_name y y ≡ true → content_of y (named.component_at components_after n).environment ≡ Some (holds (with_part old choices (queue_value o)))
  content_new h = written.content_new g p l s m rep apart parts_apart n y u choices offset queue_type (queue_value o) there known chosen tt permanents_after writes h

  by_name : (i : ℕ) (x : Name) → ((i ≡ n) × (x ≡ y) × (same_name y y ≡ true)) ⊎ ((i ≢ n) ⊎ (same_name x y ≡ false))
  by_name i x = go (same_or_other i n) (same_name x y) refl
    where
      go : (i ≡ n) ⊎ (i ≢ n) → (b : Bool) → same_name x y ≡ b → ((i ≡ n) × (x ≡ y) × (same_name y y ≡ true)) ⊎ ((i ≢ n) ⊎ (same_name x y ≡ false))
      go (inr d) b e = inr (inl d)
      go (inl d) true e = let same : x ≡ y = (bytes_eq-Decides x y).0 e in inl (d, same, subst (λ w. same_name w y ≡ true) same e)
      go (inl d) false e = inr (inr e)

  pub variables_after : ComponentsLie g.tables l components_after (all_permanents (record m { permanents = permanents_after }))
  variables_after i x t less looked = written.variables_after g p l s m rep apart parts_apart n y u choices offset queue_type (queue_value o) there known chosen tt permanents_after writes i x t less looked

  -- what stands for the components, in each state and machine that have them, where who was unstarted is so still
  pub components_stand : (s2 : State) (m2 : Machine) → ((j : ℕ) → (named.process_at s.processes j).status ≡ unstarted → (named.process_at s2.processes j).status ≡ unstarted) → (i : ℕ) → i < length components_after →
      ComponentIs g p l (record s2 { components = components_after }) (record m2 { permanents = permanents_after; phases = m.phases; bindings = m.bindings }) i
  components_stand s2 m2 still i h = written.components_stand g p l s m rep apart parts_apart n y u choices offset queue_type (queue_value o) there known chosen tt permanents_after writes s2 m2 still i h

  -- ---- queues

  -- the place that is written
  pub record IsWritten (x : Place) (i : ℕ) : Type 0 where
    pub component : i ≡ n
    pub name : x.name ≡ y
    pub parts : x.choices ≡ choices

  abbrev old_view : View → View
  old_view v = record { program = v.program; calls = v.calls; components = s.components }

  begins_in : (x : Place) (i a : ℕ) (h : PlaceAt g.tables l [] x queue_type (Permanent a)) → x.holder ≡ in_component i → look x.name (l.systems (component_at g.tables i).system).variables ≡ Some h.whole
  begins_in x i a h e = go x.holder e h.begins
    where
      go : (w : Holder) → w ≡ in_component i → BeginsAt g.tables l [] w x.name h.whole h.first → look x.name (l.systems (component_at g.tables i).system).variables ≡ Some h.whole
      go (in_call b) d begins = absurd (cc)
      go (in_component k) d begins = subst (λ j. look x.name (l.systems (component_at g.tables j).system).variables ≡ Some h.whole) (holder_is k i d) begins.known
        where
          holder_is : (a b : ℕ) → in_component a ≡ in_component b → a ≡ b
          holder_is a b e = cc

  -- it holds what was written
  pub written_value : (v : View) (x : Place) (i : ℕ) → v.components ≡ components_after → x.holder ≡ in_component i → IsWritten x i → same_name y y ≡ true → value_at v x ≡ queue_value o
  written_value v x i c e w s =
      value_in v x i e ∙ (ap (λ (ds : List Component). part_at (value_held (content_of x.name (named.component_at ds i).environment)) x.choices) c
      ∙ (ap (λ k. part_at (value_held (content_of x.name (named.component_at components_after k).environment)) x.choices) w.component
      ∙ (ap (λ z. part_at (value_held (content_of z (named.component_at components_after n).environment)) x.choices) w.name
      ∙ (ap (λ ds. part_at (value_held (content_of y (named.component_at components_after n).environment)) ds) w.parts
      ∙ (ap (λ (k : Option Content). part_at (value_held k) choices) (content_new s) ∙ part_written u old choices (offset, queue_type) (queue_value o) old_lies.typed chosen)))))

  -- and it held what its variable had there
  pub old_written : (v : View) (x : Place) (i : ℕ) → x.holder ≡ in_component i → IsWritten x i → value_at (old_view v) x ≡ part_at old choices
  old_written v x i e w =
      value_in (old_view v) x i e ∙ (ap (λ k. part_at (value_held (content_of x.name (named.component_at s.components k).environment)) x.choices) w.component
      ∙ (ap (λ z. part_at (value_held (content_of z (named.component_at s.components n).environment)) x.choices) w.name ∙ ap (part_at old) w.parts))

  -- any other queue holds what it held
  pub queue_kept : (v : View) (x : Place) (i a : ℕ) → v.components ≡ components_after → x.holder ≡ in_component i → PlaceAt g.tables l [] x queue_type (Permanent a) → (IsWritten x i × (same_name y y ≡ true)) ⊎ (value_at v x ≡ value_at (old_view v) x)
  queue_kept v x i a c e h = go (by_name i x.name)
    where
      value_after : value_at v x ≡ part_at (value_held (content_of x.name (named.component_at components_after i).environment)) x.choices
      value_after = value_in v x i e ∙ ap (λ (ds : List Component). part_at (value_held (content_of x.name (named.component_at ds i).environment)) x.choices) c

      whole_is : (i ≡ n) → (x.name ≡ y) → h.whole ≡ u
      whole_is d f = some_same h.whole u (sym (begins_in x i a h e) ∙ (ap (λ k. look x.name (l.systems (component_at g.tables k).system).variables) d ∙ (ap (λ z. look z (l.systems (component_at g.tables n).system).variables) f ∙ known)))

      go : ((i ≡ n) × (x.name ≡ y) × (same_name y y ≡ true)) ⊎ ((i ≢ n) ⊎ (same_name x.name y ≡ false)) → (IsWritten x i × (same_name y y ≡ true)) ⊎ (value_at v x ≡ value_at (old_view v) x)
      go (inr d) = inr (value_after ∙ (ap (λ (k : Option Content). part_at (value_held k) x.choices) (content_kept i x.name d) ∙ sym (value_in (old_view v) x i e)))
      go (inl d) =
          by (part_other u old choices x.choices (offset, queue_type) (h.offset, queue_type) (queue_value o) old_lies.typed chosen refl (subst (λ w. chosen_at w x.choices ≡ Some (h.offset, queue_type)) (whole_is d.0 d.1) h.chosen) refl)
        where
          old_value : value_at (old_view v) x ≡ part_at old x.choices
          old_value = value_in (old_view v) x i e ∙ (ap (λ k. part_at (value_held (content_of x.name (named.component_at s.components k).environment)) x.choices) d.0 ∙ ap (λ z. part_at (value_held (content_of z (named.component_at s.components n).environment)) x.choices) d.1)

          new_value : value_at v x ≡ part_at (with_part old choices (queue_value o)) x.choices
          new_value =
              value_after ∙ (ap (λ k. part_at (value_held (content_of x.name (named.component_at components_after k).environment)) x.choices) d.0 ∙ (ap (λ z. part_at (value_held (content_of z (named.component_at components_after n).environment)) x.choices) d.1
              ∙ ap (λ (k : Option Content). part_at (value_held k) x.choices) (content_new d.2)))

          by : (choices ≡ x.choices) ⊎ (part_at (with_part old choices (queue_value o)) x.choices ≡ part_at old x.choices) → (IsWritten x i × (same_name y y ≡ true)) ⊎ (value_at v x ≡ value_at (old_view v) x)
          by (inl same) = inl (record { component = d.0; name = d.1; parts = sym same }, d.2)
          by (inr same) = inr (new_value ∙ (same ∙ sym old_value))
