-- Loops that bind parameters: what is left leads where all lead.
use Rattle.std.proofs.Common.{◌≡◌, ℕ, ◌+◌, ◌<◌, ◌≤◌, List, ◌∷◌, length, get_or, drop, refl, subst, add-one}
use Rattle.std.proofs.Math.Seq.{drop-cons}
use Rattle.std.proofs.lemmas.List.{drop_all}
use Rattle.cp_slots.specs.declared.place.Argument.{Argument}
use Rattle.cp_store.specs.declared.argument.Bound.{Bound}
use Rattle.cp_store.specs.declared.memory.Address.TheVariants.{Permanent}
use Rattle.cp_store.specs.declared.memory.Frame.{Frame}
use Rattle.cp_store.specs.Inside.{AllFitComponent, AllFitFrame, FitsComponent, FitsFrame}
use Rattle.cp_store.specs.Memory.{Memory, onward}
use Rattle.cp_store.specs.Arguments.{put_in_frame, put_value, put_binding, bind_frame, bind_component, bindings_after}
use Rattle.cp_store.proofs.Alike.{as_many_bindings, components_stay, frames_stay, large_in_frame, large_value}

module _ (xs : List Argument) (bs : List Bound) (i : ℕ) (x : Argument) (d : Bound) (in_xs : i < length xs) (in_bs : i < length bs) (x_is : x ≡ get_or xs i x) where
  pub frame_next : (m : Memory) (f : Frame) → bind_frame m f (drop i xs) (drop i bs) ≡ bind_frame (put_in_frame m f x.slot (get_or bs i d)) f (drop (i + 1) xs) (drop (i + 1) bs)
  frame_next m f = rw (add-one, drop-cons xs i x, drop-cons bs i d, ← x_is) refl

  pub component_next : (m : Memory) (base : ℕ) → bind_component m base (drop i xs) (drop i bs) ≡ bind_component (put_value m (Permanent (onward base x.slot)) (get_or bs i d)) base (drop (i + 1) xs) (drop (i + 1) bs)
  component_next m base = rw (add-one, drop-cons xs i x, drop-cons bs i d, ← x_is) refl

  pub bindings_next : (bindings : List ℕ) (base : ℕ) → bindings_after bindings base (drop i xs) (drop i bs) ≡ bindings_after (put_binding bindings (onward base x.slot) (get_or bs i d)) base (drop (i + 1) xs) (drop (i + 1) bs)
  bindings_next bindings base = rw (add-one, drop-cons xs i x, drop-cons bs i d, ← x_is) refl

  xs_are : drop i xs ≡ x ∷ drop (i + 1) xs
  xs_are = rw (add-one, drop-cons xs i x, ← x_is) refl

  bs_are : drop i bs ≡ get_or bs i d ∷ drop (i + 1) bs
  bs_are = rw (add-one, drop-cons bs i d) refl

  frame_first : (m : Memory) (f : Frame) → AllFitFrame m f (drop i xs) (drop i bs) → AllFitFrame m f (x ∷ drop (i + 1) xs) (get_or bs i d ∷ drop (i + 1) bs)
  frame_first m f h = subst (λ l. AllFitFrame m f (x ∷ drop (i + 1) xs) l) bs_are (subst (λ l. AllFitFrame m f l (drop i bs)) xs_are h)

  pub frame_fits : (m : Memory) (f : Frame) → AllFitFrame m f (drop i xs) (drop i bs) → FitsFrame m f x.slot (get_or bs i d)
  frame_fits m f h = (frame_first m f h).0

  pub frame_rest : (m : Memory) (f : Frame) → AllFitFrame m f (drop i xs) (drop i bs) → AllFitFrame (put_in_frame m f x.slot (get_or bs i d)) f (drop (i + 1) xs) (drop (i + 1) bs)
  frame_rest m f h = frames_stay m _ (large_in_frame m f x.slot (get_or bs i d)) f _ _ (frame_first m f h).1

  component_first : (m : Memory) (bindings : List ℕ) (base : ℕ) → AllFitComponent m bindings base (drop i xs) (drop i bs) → AllFitComponent m bindings base (x ∷ drop (i + 1) xs) (get_or bs i d ∷ drop (i + 1) bs)
  component_first m bindings base h = subst (λ l. AllFitComponent m bindings base (x ∷ drop (i + 1) xs) l) bs_are (subst (λ l. AllFitComponent m bindings base l (drop i bs)) xs_are h)

  pub component_fits : (m : Memory) (bindings : List ℕ) (base : ℕ) → AllFitComponent m bindings base (drop i xs) (drop i bs) → FitsComponent m bindings base x.slot (get_or bs i d)
  component_fits m bindings base h = (component_first m bindings base h).0

  pub component_rest : (m : Memory) (bindings : List ℕ) (base : ℕ) → AllFitComponent m bindings base (drop i xs) (drop i bs) → AllFitComponent (put_value m (Permanent (onward base x.slot)) (get_or bs i d)) (put_binding bindings (onward base x.slot) (get_or bs i d)) base (drop (i + 1) xs) (drop (i + 1) bs)
  component_rest m bindings base h =
      components_stay m _ (large_value m (Permanent (onward base x.slot)) (get_or bs i d)) bindings _ (as_many_bindings bindings (onward base x.slot) (get_or bs i d)) base _ _ (component_first m bindings base h).1

pub frame_done : (m : Memory) (f : Frame) (xs : List Argument) (bs : List Bound) (i : ℕ) → length xs ≤ i → bind_frame m f (drop i xs) bs ≡ m
frame_done m f xs bs i h = rw (drop_all i xs h) refl

pub component_done : (m : Memory) (base : ℕ) (xs : List Argument) (bs : List Bound) (i : ℕ) → length xs ≤ i → bind_component m base (drop i xs) bs ≡ m
component_done m base xs bs i h = rw (drop_all i xs h) refl

pub bindings_done : (bindings : List ℕ) (base : ℕ) (xs : List Argument) (bs : List Bound) (i : ℕ) → length xs ≤ i → bindings_after bindings base (drop i xs) bs ≡ bindings
bindings_done bindings base xs bs i h = rw (drop_all i xs h) refl
