-- Monitors that are read, queues that are searched, and lines by their length.
use Rattle.cp_machine.proofs.Words.{◌≡◌, ℕ, ◌<◌, ◌≤◌, ◌∙◌, List, [], ◌∷◌, Bool, Some, length, map, ap, sym, refl, arith, position, slice_index_or, position_or_len}
use Rattle.cp_machine.proofs.Words.{get_or-map, length-map, Gate, first_in, one_in, free, Machine, monitor_of, no_monitor, with_pending}

pub guard_read : (gs : List Gate) (monitor : ℕ) (g : Gate) → monitor < length gs → g ≡ slice_index_or gs monitor g → slice_index_or (map monitor_of gs) monitor no_monitor ≡ monitor_of g
guard_read gs monitor g h e = get_or-map monitor_of gs monitor g no_monitor h ∙ ap monitor_of (sym e)

-- a line of more than one
pub one_in_many : (m : Machine) (monitor : ℕ) (line : List ℕ) → 1 < length line → one_in m monitor line ≡ with_pending (free m monitor line) (Some monitor)
one_in_many m monitor (p ∷ q ∷ line) h = refl
one_in_many m monitor _ h = absurd (omega arith)

-- a line of at most one
pub one_in_few : (m : Machine) (monitor : ℕ) (line : List ℕ) → length line ≤ 1 → one_in m monitor line ≡ first_in m monitor line
one_in_few m monitor (p ∷ q ∷ line) h = absurd (omega arith)
one_in_few m monitor _ h = refl

place_map : {X Y : Type 0} (f : X → Y) (p : Y → Bool) (xs : List X) → position_or_len p (map f xs) ≡ position_or_len (λ x. p (f x)) xs
place_map f p [] = refl
place_map f p (x ∷ xs) = rw (place_map f p xs) refl

-- the first of the images that passes
pub position_map : {X Y : Type 0} (f : X → Y) (p : Y → Bool) (xs : List X) → position p (map f xs) ≡ position (λ x. p (f x)) xs
position_map f p xs = rw (place_map f p xs, length-map xs f) refl
