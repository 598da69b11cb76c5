-- Who is delayed in the cell of a queue waits by the meaning in that queue: no other queue has the cell. For if nobody waited in the queue, its cell would hold that.
use Rattle.std.proofs.Common.{◌≡◌, ◌∙◌, ℕ, ◌+◌, ◌<◌, ◌⊎◌, inl, inr, true, false, List, [], Some, None, ap, sym, refl, subst, arith, length}
use Rattle.std.specs.Prelude.{pos, slice_index_or}
use Rattle.cp_tree.specs.Syntax.{Program}
use Rattle.cp_slots.specs.Tables.{component_at}
use Rattle.cp_store.specs.declared.memory.Address.{Address}
use Rattle.cp_store.specs.declared.memory.Address.TheVariants.{Permanent}
use Rattle.cp_machine.specs.declared.process.Status.TheVariants as status
use Rattle.cp_machine.specs.Machine.{Machine, thread_at}
use Rattle.cp_meaning.specs.Names.{Name, same_name}
use Rattle.cp_meaning.specs.Places.{View, content_of, environment_of, value_at, value_held}
use Rattle.cp_meaning.specs.State as named
use Rattle.cp_meaning.specs.State.{Component, Holder, in_call, in_component, Place, State, delayed}
use Rattle.cp_meaning.specs.Types.{Ty, queue_type}
use Rattle.cp_meaning.specs.Values.{Value, part_at, queue_value}
use Rattle.cp_resolved.specs.Layouts.{Layouts, look}
use Rattle.cp_resolved.specs.Stands.{Ground}
use Rattle.cp_machine_laws.specs.Represents.{BeginsAt, InComponent, LiesAt, PlaceAt, Represents, all_permanents, further}
use Rattle.cp_machine_laws.proofs.assignments.Writing.{ComponentsApart}
use Rattle.cp_machine_laws.proofs.control.Moving.{set_here, value_in}
use Rattle.cp_machine_laws.proofs.expressions.Reading.{part_lies}
use Rattle.cp_machine_laws.proofs.queues.QueueWriting as writing

-- an address is that of one cell
one_cell : (a b : ℕ) → Permanent a ≡ Permanent b → a ≡ b
one_cell a b e = cc

module _ (g : Ground) (p : Program) (l : Layouts) (s : State) (m : Machine) (rep : Represents g p l s m) (apart : ComponentsApart g.tables l)
    (parts_apart : (n : ℕ) (x w : Name) (t u : Ty) → look x (l.systems n).parts ≡ Some t → look w (l.systems n).variables ≡ Some u → same_name x w ≡ false)
    -- a queue of component n
    (n cell : ℕ) (x : Place) (holder : x.holder ≡ in_component n) (place : PlaceAt g.tables l [] x queue_type (Permanent cell)) where
  inside : InComponent g.tables l n x.name place.whole place.first
  inside = subst (λ (h : Holder). BeginsAt g.tables l [] h x.name place.whole place.first) holder place.begins

  abbrev first : ℕ
  first = (component_at g.tables n).base + (l.systems (component_at g.tables n).system).slots x.name

  abbrev at : ℕ
  at = first + place.offset

  cell_is : cell ≡ at
  cell_is = one_cell cell at (place.address ∙ ap (λ (a : Address). further a place.offset) inside.address)

  -- ---- if the queue were emptied

  abbrev emptied : List Component
  emptied = writing.components_after g p l s m rep apart parts_apart n x.name place.whole x.choices place.offset None inside.there inside.known place.chosen

  abbrev memory_after : Machine
  memory_after = record m { permanents = writing.permanents_after g p l s m rep apart parts_apart n x.name place.whole x.choices place.offset None inside.there inside.known place.chosen }

  abbrev old : Value
  old = writing.old g p l s m rep apart parts_apart n x.name place.whole x.choices place.offset None inside.there inside.known place.chosen

  abbrev Written : Place → ℕ → Type 0
  Written z i = writing.IsWritten g p l s m rep apart parts_apart n x.name place.whole x.choices place.offset None inside.there inside.known place.chosen z i

  abbrev old_view : View → View
  old_view v = record { program = v.program; calls = v.calls; components = s.components }

  cell_zero : slice_index_or memory_after.permanents at (pos 0) ≡ pos 0
  cell_zero =
      set_here m.permanents at (pos 0) (pos 0)
      (let lies = part_lies (all_permanents m) place.whole old (Permanent first) x.choices (place.offset, queue_type) (writing.old_lies g p l s m rep apart parts_apart n x.name place.whole x.choices place.offset None inside.there inside.known place.chosen) place.chosen in
      let a = lies.cells in omega (arith, a))

  -- what a queue of a component holds would lie in its cell
  lies_after : (v : View) (z : Place) (i a : ℕ) → v.components ≡ emptied → z.holder ≡ in_component i → PlaceAt g.tables l [] z queue_type (Permanent a) → LiesAt (all_permanents memory_after) queue_type (value_at v z) (Permanent a)
  lies_after v z i a c e h = go z.holder e h.begins
    where
      go : (o : Holder) → o ≡ in_component i → BeginsAt g.tables l [] o z.name h.whole h.first → LiesAt (all_permanents memory_after) queue_type (part_at (value_held (content_of z.name (environment_of v o))) z.choices) (Permanent a)
      go (in_call b) d begins = absurd (cc)
      go (in_component k) d begins =
          subst (λ (b : Address). LiesAt (all_permanents memory_after) queue_type (part_at (value_held (content_of z.name (named.component_at v.components k).environment)) z.choices) b) (sym h.address)
          (subst (λ (cs : List Component). LiesAt (all_permanents memory_after) queue_type (part_at (value_held (content_of z.name (named.component_at cs k).environment)) z.choices) (further h.first h.offset)) (sym c)
          (part_lies (all_permanents memory_after) h.whole (value_held (content_of z.name (named.component_at emptied k).environment)) h.first z.choices (h.offset, queue_type)
          (subst (λ (b : Address). LiesAt (all_permanents memory_after) h.whole (value_held (content_of z.name (named.component_at emptied k).environment)) b) (sym begins.address)
          (writing.variables_after g p l s m rep apart parts_apart n x.name place.whole x.choices place.offset None inside.there inside.known place.chosen k z.name h.whole begins.there begins.known)) h.chosen))

  -- so no queue with somebody would have this cell
  nobody_there : (v : View) (z : Place) (i r : ℕ) → v.components ≡ emptied → z.holder ≡ in_component i → PlaceAt g.tables l [] z queue_type (Permanent at) → value_at v z ≡ queue_value (Some r) → ⊥
  nobody_there v z i r c e h w =
      let lies = subst (λ (b : Value). LiesAt (all_permanents memory_after) queue_type b (Permanent at)) w (lies_after v z i at c e h) in
      let one : slice_index_or memory_after.permanents at (pos 0) ≡ pos 1 = ap (λ b. slice_index_or memory_after.permanents b (pos 0)) (let k : at ≡ at + 0 = omega arith in k) ∙ lies.block 0 (omega arith) in
      let both : pos 0 ≡ pos 1 = sym cell_zero ∙ one in
      cc

  -- ---- who waits

  waits_old : (r i : ℕ) → r < length s.processes → (named.process_at s.processes r).status ≡ delayed i → (thread_at m.threads r).status ≡ status.Delayed at → part_at old x.choices ≡ queue_value (Some r)
  waits_old r i h e f =
      let v : View = record { program = p; calls = []; components = emptied } in
      let w = rep.queues.waiting r i at (old_view v) h e f refl in
      go v refl w (writing.queue_kept g p l s m rep apart parts_apart n x.name place.whole x.choices place.offset None inside.there inside.known place.chosen v w.0 i at refl w.1 w.2)
    where
      go : (v : View) → v.components ≡ emptied → (w : (z : Place) × (z.holder ≡ in_component i) × PlaceAt g.tables l [] z queue_type (Permanent at) × (value_at (old_view v) z ≡ queue_value (Some r))) → (Written w.0 i × (same_name x.name x.name ≡ true)) ⊎ (value_at v w.0 ≡ value_at (old_view v) w.0) → part_at old x.choices ≡ queue_value (Some r)
      go v c w (inl d) = sym (writing.old_written g p l s m rep apart parts_apart n x.name place.whole x.choices place.offset None inside.there inside.known place.chosen v w.0 i w.1 d.0) ∙ w.3
      go v c w (inr d) = absurd (nobody_there v w.0 i r c w.1 w.2 (d ∙ w.3))

  pub waits_there : (v : View) → v.components ≡ s.components → (r i : ℕ) → r < length s.processes → (named.process_at s.processes r).status ≡ delayed i → (thread_at m.threads r).status ≡ status.Delayed cell → value_at v x ≡ queue_value (Some r)
  waits_there v c r i h e f =
      value_in v x n holder
      ∙ (ap (λ (cs : List Component). part_at (value_held (content_of x.name (named.component_at cs n).environment)) x.choices) c ∙ waits_old r i h e (f ∙ ap status.Delayed cell_is))
