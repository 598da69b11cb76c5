use Rattle.std.proofs.Common.{ℕ, ◌+◌, ◌<◌, slice_index_or}
use Rattle.cp_slots.specs.Tables.{routine_at}
use Rattle.cp_store.specs.Places.{reference_at}
use Rattle.cp_machine.specs.Machine.{machine_of, thread_at}
use Rattle.cp_machine.specs.Reach.{frame_at}
use Rattle.cp_effect_laws.specs.Touches.{HasAt}
use Rattle.cp_parts.specs.Placed.{places_of}
use Rattle.cp_effects.specs.Noting.{KeepNoted, among}
use Rattle.cp_effects.proofs.touch.touch_parameters.Given as goal

abbrev pub invariant-loop-number : goal.invariant-loop-number
invariant-loop-number l =
    let m = machine_of l.state in
    let f = frame_at m l.pid in
    record {
      behind : (k : ℕ) → k < l.number →
          HasAt (λ cell. among l.touched.places.items ((places_of l.table).of_cell cell)) (reference_at (thread_at m.threads l.pid).references (f.references + k)) (slice_index_or (routine_at l.program f.routine).extents k 0);
      kept : KeepNoted l.fn.touched.places.items l.touched.places.items;
    }
