-- A state that has become the one of a row.
use Rattle.std.proofs.Common.{◌≡◌, ◌∙◌, ◌<◌, ◌≤◌, ℕ, List, ap, arith, length, map, refl, subst, sym}
use Rattle.std.specs.Prelude.{slice_index_or, vec_capacity, vec_len}
use Rattle.std.specs.Vec.{with_items}
use Rattle.std.specs.declared.alloc.Global.{Global}
use Rattle.std.specs.declared.vec.Vec.{Vec}
use Rattle.std.proofs.lemmas.List.{length-map, with_items_is}
use Rattle.cp_slots.specs.Tables.{Tables}
use Rattle.cp_machine.specs.declared.process.ProcessState.{ProcessState}
use Rattle.cp_machine.specs.declared.state.Gate.{Gate}
use Rattle.cp_machine.specs.declared.state.State.{State}
use Rattle.cp_machine.specs.Fits.{HaveCells, HaveReferences, HaveStacks, IsStateOf, LinesFit, MachineFits}
use Rattle.cp_machine.specs.Machine.{Machine, machine_of, monitor_of, thread_at, thread_of}
use Rattle.cp_machine.specs.Reach.{Reaches}
use Rattle.cp_key.specs.Room.{IsMachineOf}
use Rattle.cp_key.proofs.Owned.{machine_room}
use Rattle.cp_parts.specs.Taking.{AreTaken, HasRoomFor}
use Rattle.cp_parts.proofs.Threads.{cells_kept, references_kept, stacks_kept, threads_taken}

-- a machine is its parts
pub machine_made : (m n : Machine) → n.permanents ≡ m.permanents → n.bindings ≡ m.bindings → n.phases ≡ m.phases → n.threads ≡ m.threads → n.monitors ≡ m.monitors → n.pending ≡ m.pending → n.discipline ≡ m.discipline → n.output ≡ m.output → n ≡ m
machine_made m n permanents bindings phases threads monitors pending discipline output =
    ap (λ x. let z : Machine = record n { permanents = x } in z) permanents
    ∙ ap (λ x. let z : Machine = record n { permanents = m.permanents; bindings = x } in z) bindings
    ∙ ap (λ x. let z : Machine = record n { permanents = m.permanents; bindings = m.bindings; phases = x } in z) phases
    ∙ ap (λ x. let z : Machine = record n { permanents = m.permanents; bindings = m.bindings; phases = m.phases; threads = x } in z) threads
    ∙ ap (λ x. let z : Machine = record m { monitors = x; pending = n.pending; discipline = n.discipline; output = n.output } in z) monitors
    ∙ ap (λ x. let z : Machine = record m { pending = x; discipline = n.discipline; output = n.output } in z) pending
    ∙ ap (λ x. let z : Machine = record m { discipline = x; output = n.output } in z) discipline
    ∙ ap (λ x. let z : Machine = record m { output = x } in z) output

-- a vector whose items were written
pub items_taken : {X : Type 0} (v : Vec X Global) (xs ys : List X) → xs ≡ ys → length ys ≡ length v.items → (with_items v xs).items ≡ ys
items_taken v xs ys is long =
    let size : vec_len v ≡ length v.items = v.ok.0 in
    with_items_is v xs (omega (arith, ap length is, long, size)) ∙ is

pub room_there : (r : Tables) (s : State) (m : Machine) → IsStateOf r s → IsMachineOf r m → (ps : List ProcessState) → ps ≡ s.processes.items → (q : ℕ) (d : ProcessState) → q < length ps → HasRoomFor (slice_index_or ps q d) (thread_at m.threads q)
room_there r s m own its ps same q d lt =
    let room = (machine_room r s m own its).threads.each q d (omega (arith, lt, ap length same)) in
    subst (λ qs. HasRoomFor (slice_index_or qs q d) (thread_at m.threads q)) (sym same) (record { stack = room.stack; cells = room.cells; references = room.references })

pub guards_taken : (r : Tables) (m : Machine) (s : State) → IsStateOf r s → IsMachineOf r m → (gs : List Gate) → map monitor_of gs ≡ m.monitors → map monitor_of (with_items s.guards gs).items ≡ m.monitors
guards_taken r m s own its gs is =
    ap (map monitor_of) (items_taken s.guards gs gs refl (omega (arith, ap length is, length-map gs monitor_of, length-map s.guards.items monitor_of, its.fits.monitors, own.fits.monitors))) ∙ is

module _ (r : Tables) (m : Machine) (s : State) (own : IsStateOf r s) (its : IsMachineOf r m) (ps new : List ProcessState) (same : ps ≡ s.processes.items) (taken : AreTaken (λ q. thread_at m.threads q) ps new (length ps)) where
  as_many : length m.threads ≡ length s.processes.items
  as_many = its.fits.threads ∙ sym own.fits.threads ∙ length-map s.processes.items thread_of

  all_taken : AreTaken (λ q. thread_at m.threads q) s.processes.items new (length s.processes.items)
  all_taken = subst (λ qs. AreTaken (λ q. thread_at m.threads q) qs new (length qs)) same taken

  whole : (with_items s.processes new).items ≡ new
  whole =
      let size : vec_len s.processes ≡ length s.processes.items = s.processes.ok.0 in
      with_items_is s.processes new (omega (arith, all_taken.count, size))

  pub processes_taken : map thread_of (with_items s.processes new).items ≡ m.threads
  processes_taken = ap (map thread_of) whole ∙ threads_taken (λ q. thread_at m.threads q) s.processes.items new m.threads as_many (λ q lt. refl) all_taken

  pub state_taken : (t : State) → machine_of t ≡ m → t.processes ≡ with_items s.processes new → t.bounds ≡ s.bounds → vec_capacity s.output ≤ vec_capacity t.output → IsStateOf r t
  state_taken t became processes bounds output =
      let here : t.processes.items ≡ new = ap (λ v. v.items) processes ∙ whole in
      let long = ap (λ (x : Machine). length x.output) became in
      let len : vec_len t.output ≡ length t.output.items = t.output.ok.0 in
      record {
        sound = own.sound;
        fits = subst (MachineFits r) (sym became) its.fits;
        lines = subst LinesFit (sym became) its.lines;
        reach = subst (Reaches r) (sym became) its.reach;
        reserved = record {
          stacks = subst (HaveStacks r.depth) (sym here) (stacks_kept (λ q. thread_at m.threads q) s.processes.items new (length s.processes.items) r.depth all_taken own.reserved.stacks);
          cells = subst (HaveCells r.cells) (sym here) (cells_kept (λ q. thread_at m.threads q) s.processes.items new (length s.processes.items) r.cells all_taken own.reserved.cells);
          references = subst (HaveReferences r.references) (sym here) (references_kept (λ q. thread_at m.threads q) s.processes.items new (length s.processes.items) r.references all_taken own.reserved.references);
          output = omega (arith, own.reserved.output, output);
          shown = omega (arith, long, len, its.shown);
          bounds = subst (λ v. r.arguments ≤ vec_capacity v) (sym bounds) own.reserved.bounds;
        };
      }
