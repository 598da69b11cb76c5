-- What statements leave of the frame: each call has a new cell, which begins with 0, and no other cell is changed.
use Rattle.std.proofs.Common.{◌≡◌, ℕ, ℤ, pos, List, [], ◌∷◌, ◌++◌, Option, Some, None, slice_get, ap, ◌∙◌, refl, sym, append_assoc, append-nil}
use Rattle.cp_resolved.proofs.Words.{Bool, RoutineView}
use Rattle.cp_layout.specs.LaidDeclarations.{end_of_body}
use Rattle.cp_tree.specs.Syntax as syntax
use Rattle.cp_layout.specs.Layers.{Layer, Frame, Pending, with_cell, frame_with, add_items, without_pending}
use Rattle.cp_resolved.proofs.laid.Walked.{CallSteps, ItemSteps, ListSteps, any_calls, any_items, any_lists, never, ended_walked, body_walked}
use Rattle.cp_resolved.specs.ItemsStand.{body_items}

abbrev pub AreZeros : List ℤ → Type 0
AreZeros [] = Unit {0}
AreZeros (z ∷ zs) = (z ≡ pos 0) × AreZeros zs

zeros_append : (ys zs : List ℤ) → AreZeros ys → AreZeros zs → AreZeros (ys ++ zs)
zeros_append [] zs h i = i
zeros_append (y ∷ ys) zs h i = (h.0, zeros_append ys zs h.1 i)

-- more cells, which begin with 0
pub record Zeroed (f g : Frame) : Type 0 where
  pub zeros : List ℤ
  pub are : AreZeros zeros
  pub image : g.image ≡ f.image ++ zeros
  pub extents : g.extents ≡ f.extents

abbrev pub Zeros : Layer → Layer → Type 0
Zeros l m = Zeroed l.frame m.frame

cell_zeroed : (l m : Layer) → Zeros l m → Zeros l (with_cell m)
cell_zeroed l m h =
    record {
      zeros = h.zeros ++ pos 0 ∷ [];
      are = zeros_append h.zeros (pos 0 ∷ []) h.are (refl, tt);
      image = ap (λ zs. zs ++ pos 0 ∷ []) h.image ∙ append_assoc l.frame.image h.zeros (pos 0 ∷ []);
      extents = h.extents;
    }

room_zeroed : (g : Frame) (o : Option RoutineView) {f : Frame} → Zeroed f g → Zeroed f (frame_with g o)
room_zeroed g None h = h
room_zeroed g (Some r) h = record { zeros = h.zeros; are = h.are; image = h.image; extents = h.extents }

all_zeroed : (l m : Layer) (ps : List Pending) (next : Option ℕ) → Zeros l m → Zeros l (add_items m ps next).1
all_zeroed l m [] next h = h
all_zeroed l m (p ∷ ps) next h = all_zeroed l m ps next h

zeros_calls : (l : Layer) → CallSteps (Zeros l) (λ r. Unit {0}) ⊥ (λ x. ⊥)
zeros_calls l = any_calls (Zeros l) (λ m k h. h) (λ m r at a need h. room_zeroed (with_cell m).frame (slice_get m.routines r) (cell_zeroed l m h))

zeros_items : (l : Layer) → ItemSteps (Zeros l) (λ r. Unit {0})
zeros_items l = any_items (Zeros l) (λ m r h. room_zeroed m.frame (slice_get m.routines r) h) (λ m at a need h. h)

zeros_lists : (l : Layer) → ListSteps (Zeros l)
zeros_lists l = any_lists (Zeros l) (λ m at a need h. h) (λ m next h. all_zeroed l (without_pending m) m.pending next h)

nothing_zeroed : (l : Layer) → Zeros l l
nothing_zeroed l = record { zeros = []; are = tt; image = sym (append-nil l.frame.image); extents = refl }

pub ended_zeroed : (l : Layer) (checks : Bool) → Zeros l (end_of_body l checks).1
ended_zeroed l checks = ended_walked (zeros_calls l) (zeros_items l) (zeros_lists l) l checks (nothing_zeroed l) never

pub body_zeroed : (l : Layer) (ss : syntax.Statements) (checks : Bool) → Zeros l (body_items l ss checks).1
body_zeroed l ss checks = body_walked (zeros_calls l) (zeros_items l) (zeros_lists l) l ss checks (nothing_zeroed l) never
