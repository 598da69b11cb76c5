-- A component whose first permanent cell is the first of all, in a memory without frames: it may name all permanent cells.
use Rattle.std.proofs.Common.{◌≡◌, ℕ, ◌^◌, ◌<◌, ◌≤◌, true, [], length, Option, Some, None, lit<, arith}
use Rattle.std.specs.Prelude.{IsTrue}
use Rattle.std.proofs.lemmas.Bool.{le-leb, leb-true}
use Rattle.cp_slots.specs.declared.place.OrdinalExpression.{OrdinalExpression}
use Rattle.cp_slots.specs.declared.place.Place.{Place}
use Rattle.cp_slots.specs.Inside.{expression_inside, has, place_room}
use Rattle.cp_slots.specs.Tables.{RoutineView}
use Rattle.cp_store.specs.declared.memory.Frame.{Frame}
use Rattle.cp_store.specs.Inside.{CanReach, CanRead, Covers}
use Rattle.cp_store.specs.Memory.{Memory}

pub one_of_two : (o : Option ℕ) → has 2 o ≡ true → has 1 o ≡ true
one_of_two (Some left) h = let two = leb-true 2 left h in le-leb 1 left (omega (arith, two))
one_of_two None h = absurd (cc)

module _ (m : Memory) (f : Frame) (own_first : f.own ≡ 0) (base_first : f.base ≡ 0) (names_first : f.references ≡ 0) (permanents_few : length m.permanents < 2 ^ 64) (no_cells : m.cells ≡ []) (no_references : m.references ≡ []) where
  abbrev pub all_own : RoutineView
  all_own = record { body = None; image = []; references = 0; result = 0; room = 0; reference_room = 0; own = length m.permanents; extents = []; system = 0 }

  pub covered : Covers m all_own f
  covered =
      record {
        own = omega arith;
        cells = omega arith;
        references = omega arith;
        behind = λ k lt. absurd (omega (arith, lt));
        permanents_few = permanents_few;
        cells_few = rw no_cells (lit< tt);
        references_few = rw no_references (lit< tt);
      }

  pub own_reach : (p : Place) (cells : ℕ) → ((r : RoutineView) → length m.permanents ≤ r.own → IsTrue (has cells (place_room r p))) → CanReach m f p cells
  own_reach p cells each = (all_own, covered, each all_own (omega arith))

  pub own_read : (e : OrdinalExpression) → ((r : RoutineView) → length m.permanents ≤ r.own → IsTrue (expression_inside r e)) → CanRead m f e
  own_read e each = (all_own, covered, each all_own (omega arith))
