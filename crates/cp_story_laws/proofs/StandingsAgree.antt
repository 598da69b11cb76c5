-- How a process stands is the same on names and on slots.
use Rattle.std.proofs.Common.{◌≡◌, ◌∙◌, ℕ, ◌+◌, ◌<◌, ◌≤◌, [], ap, sym, refl, subst, arith, length}
use Rattle.std.proofs.lemmas.List.{length-map}
use Rattle.std.proofs.Math.ListN.{get_or-map}
use Rattle.std.specs.Prelude.{map}
use Rattle.cp_tree.specs.Syntax.{Tree}
use Rattle.cp_slots.specs.declared.tables.ComponentKind.TheVariants as kind
use Rattle.cp_slots.specs.Systems.{own_of}
use Rattle.cp_slots.specs.Tables.{Tables, component_at}
use Rattle.cp_store.specs.declared.memory.Address.{Address}
use Rattle.cp_store.specs.declared.memory.Address.TheVariants.{Permanent}
use Rattle.cp_machine.specs.declared.process.Status as slot_status
use Rattle.cp_machine.specs.declared.process.Status.TheVariants as status
use Rattle.cp_machine.specs.Machine.{Machine, Thread, no_thread, thread_at}
use Rattle.cp_meaning.specs.Components.{components_of}
use Rattle.cp_meaning.specs.State as named
use Rattle.cp_meaning.specs.State.{Discipline, State, Status, unstarted, ready, at_gate, delayed, ended, Process, Place, Holder, in_component}
use Rattle.cp_meaning.specs.Steps.{view_of}
use Rattle.cp_meaning.specs.Types.{queue_type}
use Rattle.cp_meaning_laws.specs.Accepted.{IsAccepted}
use Rattle.cp_legend.specs.Names.{Legend}
use Rattle.cp_legend_laws.specs.Called.{called_in_legend, tabled}
use Rattle.cp_legend_laws.specs.Paths.{called_in_language, path_text}
use Rattle.cp_resolved.specs.Layouts.{Layouts, cells_of}
use Rattle.cp_machine_laws.specs.Law.{Simulates, ground_of}
use Rattle.cp_machine_laws.specs.Prepared.{Prepared}
use Rattle.cp_machine_laws.specs.Represents.{BeginsAt, InComponent, PlaceAt, StatusIs, further}
use Rattle.cp_machine_laws.proofs.HoldsInReached.{HoldsInReached, reached_stands}
use Rattle.cp_machine_laws.proofs.assignments.Overlaps.{part_ends}
use Rattle.cp_story.specs.Story.{statuses_in}
use Rattle.cp_story_laws.specs.Standings.{at_gate_of, in_queue_of, standing_of, standings}
use Rattle.cp_story_laws.specs.Statements.{standing_told}
use Rattle.cp_story_laws.proofs.Lists.{maps_same}
use Rattle.cp_story_laws.proofs.Paths.{monitor_path, owner_path}

-- an address is that of one cell
one_cell : (a b : ℕ) → Permanent a ≡ Permanent b → a ≡ b
one_cell a b e = cc

module _ (t : Tree) (r : Tables) (l : Layouts) (g : Discipline) (ok : IsAccepted t) (prepared : Prepared t r l) (legend : Legend) (tables : map tabled legend.components ≡ r.components) (paths : map called_in_legend legend.components ≡ map (called_in_language t.program) (components_of t.program)) (s : State) (m : Machine) (sim : Simulates t r l g s m) where
  pub holds : HoldsInReached t.program s
  holds = reached_stands t ok g s sim.reached

  -- ---- at a gate

  gate_path : (n j : ℕ) → (component_at r n).kind ≡ kind.Monitor j → standing_of t.program s (at_gate n) ≡ standing_told legend (status.AtGate j)
  gate_path n j e = ap at_gate_of (ap (path_text t.program) (holds.path n) ∙ sym (monitor_path t r l prepared.stands prepared.sound.typed legend.components tables paths n j e))

  -- ---- in a queue

  -- a queue of the component has this cell
  module _ (n cell : ℕ) (x : Place) (place : PlaceAt (ground_of t r).tables l [] x queue_type (Permanent cell)) (inside : InComponent r l n x.name place.whole place.first) where
    there : n < length s.components
    there = let a = sim.represents.component_count in let b = inside.there in omega (arith, a, b)

    pub ends : place.offset + 1 ≤ cells_of place.whole
    ends = part_ends place.whole _ x.choices (place.offset, queue_type) ((sim.represents.components n there).variables x.name place.whole inside.known).typed place.chosen

    pub cell_is : cell ≡ (component_at r n).base + (l.systems (component_at r n).system).slots x.name + place.offset
    cell_is = one_cell cell _ (place.address ∙ ap (λ (a : Address). further a place.offset) inside.address)

    pub fits : (l.systems (component_at r n).system).slots x.name + cells_of place.whole ≤ own_of r n
    fits = (prepared.stands.systems (component_at r n).system (prepared.program.below n inside.there)).cells x.name place.whole inside.known

    queue_path : standing_of t.program s (delayed n) ≡ standing_told legend (status.Delayed cell)
    queue_path =
        let a = cell_is in
        let b = ends in
        let c = fits in
        ap in_queue_of
        (ap (path_text t.program) (holds.path n)
        ∙ sym (owner_path t r l prepared.stands prepared.sound.typed legend.components tables paths n cell inside.there (omega (arith, a)) (omega (arith, a, b, c))))

  queue_of_place : (n cell : ℕ) (x : Place) → x.holder ≡ in_component n → PlaceAt (ground_of t r).tables l [] x queue_type (Permanent cell) → standing_of t.program s (delayed n) ≡ standing_told legend (status.Delayed cell)
  queue_of_place n cell x holder place = queue_path n cell x place (subst (λ (h : Holder). BeginsAt (ground_of t r).tables l [] h x.name place.whole place.first) holder place.begins)

  -- ---- each process

  module _ (q : ℕ) (less : q < length s.processes) where
    by_status : (u : Status) (w : slot_status.Status) → (named.process_at s.processes q).status ≡ u → (thread_at m.threads q).status ≡ w → StatusIs (ground_of t r) t.program l q (named.process_at s.processes q) (thread_at m.threads q) u w → standing_of t.program s u ≡ standing_told legend w
    by_status unstarted status.Unstarted e f h = refl
    by_status ready status.Ready e f h = refl
    by_status (at_gate n) (status.AtGate j) e f h = gate_path n j h.0
    by_status (delayed n) (status.Delayed cell) e f h =
        let k = sim.represents.queues.waiting q n cell (view_of t.program s q) less e f refl in
        queue_of_place n cell k.0 k.1 k.2
    by_status ended status.Ended e f h = refl
    by_status u w e f h = absurd h

    pub standing_same : standing_of t.program s (named.process_at s.processes q).status ≡ standing_told legend (thread_at m.threads q).status
    standing_same = by_status (named.process_at s.processes q).status (thread_at m.threads q).status refl refl (sim.represents.processes q less).status

  pub standings_same : map (standing_told legend) (statuses_in m) ≡ standings t.program s
  standings_same =
      sym
      (maps_same (λ (x : Process). standing_of t.program s x.status) (standing_told legend) s.processes (statuses_in m) named.no_process status.Ended (sim.represents.process_count ∙ sym (length-map m.threads (λ (x : Thread). x.status)))
      (λ q less. standing_same q less ∙ ap (standing_told legend) (sym (get_or-map (λ (x : Thread). x.status) m.threads q no_thread))))
