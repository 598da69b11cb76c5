use Rattle.std.proofs.Common.{◌≡◌, ℕ, ◌<◌, ◌≤◌, true}
use Rattle.cp_parts.specs.Placed.{places_of}
use Rattle.cp_effects.specs.Noting.{KeepNoted, among}
use Rattle.cp_effects.proofs.touch.touch_permanents.Given as goal

abbrev pub invariant-loop-cell : goal.invariant-loop-cell
invariant-loop-cell l =
    record {
      cells : (k : ℕ) → l.first ≤ k → k < l.cell → among l.touched.places.items ((places_of l.table).of_cell k) ≡ true;
      kept : KeepNoted l.fn.touched.places.items l.touched.places.items;
    }
