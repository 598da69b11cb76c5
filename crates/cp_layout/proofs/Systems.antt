-- The system types of a program, and what its processes need: loops over both.
use Rattle.std.proofs.Common.{◌≡◌, ℕ, suc, ◌+◌, ◌<◌, ◌≤◌, List, [], ◌∷◌, ◌++◌, length, get_or, take, drop, map, slice_get, refl, sym, ap, ◌∙◌, add-one}
use Rattle.cp_layout.proofs.Words.{drop-cons, take-suc, drop_all, take_all, map-append, Layer, system_seen}
use Rattle.cp_slots.specs.declared.tables.Process.{Process}
use Rattle.cp_layout.specs.declared.tables.RoomNeed.{RoomNeed}
use Rattle.cp_layout.specs.declared.layer.SystemCells as code_system
use Rattle.cp_layout.specs.Laid.{room_for, room_from, system_type, types_of}

module _ (l : Layer) (r : RoomNeed) (xs : List Process) (i : ℕ) where
  pub room_step : (d : Process) → i < length xs → (s : RoomNeed) → s ≡ room_for l r (slice_get l.routines (get_or xs i d).routine) → room_from l r (drop i xs) ≡ room_from l s (drop (i + 1) xs)
  unfolding room_from
  room_step d within s h = rw (add-one, drop-cons xs i d) (ap (λ (y : RoomNeed). room_from l y (drop (suc i) xs)) (sym h))

  pub room_none : length xs ≤ i → room_from l r (drop i xs) ≡ r
  unfolding room_from
  room_none h = rw (drop_all i xs h) refl

module _ (xs : List code_system.SystemCells) (i : ℕ) where
  pub types_step : (x : code_system.SystemCells) → i < length xs → x ≡ get_or xs i x → types_of (map system_seen (take (i + 1) xs)) ≡ types_of (map system_seen (take i xs)) ++ system_type (system_seen x).owned ∷ []
  types_step x within here = rw (add-one, take-suc xs i x within, ← here) (ap types_of (map-append system_seen (take i xs) (x ∷ [])) ∙ map-append (λ s. system_type s.owned) (map system_seen (take i xs)) (system_seen x ∷ []))

  pub types_none : length xs ≤ i → types_of (map system_seen (take i xs)) ≡ types_of (map system_seen xs)
  types_none h = rw (take_all i xs h) refl
