-- What is reserved for a process is enough for each.
use Rattle.std.proofs.Common.{◌≡◌, ℕ, zero, suc, ◌≤◌, List, [], ◌∷◌, Option, Some, None, slice_get, sym, subst, arith}
use Rattle.cp_resolved.proofs.Words.{none-some, same_Some, Process, plus, RoutineView, Layer, need_of, no_room, room_for, room_from}

abbrev type_of : {X : Type 0} → X → Type 0
type_of {X} x = X

-- the crate that lays out keeps the name of this type to itself
abbrev pub Room : Type 0
Room = type_of no_room

pub record Holds (l : Layer) (r : Room) (v : RoutineView) : Type 0 where
  pub depth : plus (need_of l.items v.body) 1 ≤ r.depth
  pub cells : v.room ≤ r.cells
  pub references : v.reference_room ≤ r.references

record IsMore (r s : Room) : Type 0 where
  depth : r.depth ≤ s.depth
  cells : r.cells ≤ s.cells
  references : r.references ≤ s.references

one_more : (l : Layer) (r : Room) (o : Option RoutineView) → IsMore r (room_for l r o)
one_more l r None = record { depth = omega arith; cells = omega arith; references = omega arith }
one_more l r (Some v) = record { depth = omega arith; cells = omega arith; references = omega arith }

all_more : (l : Layer) (r : Room) (ps : List Process) → IsMore r (room_from l r ps)
unfolding room_from
all_more l r [] = record { depth = omega arith; cells = omega arith; references = omega arith }
all_more l r (p ∷ ps) =
    let s : Room = room_for l r (slice_get l.routines p.routine) in
    let a : IsMore r s = one_more l r (slice_get l.routines p.routine) in
    let b : IsMore s (room_from l s ps) = all_more l s ps in
    let a0 = a.depth in
    let a1 = a.cells in
    let a2 = a.references in
    let b0 = b.depth in
    let b1 = b.cells in
    let b2 = b.references in
    record { depth = omega (arith, a0, b0); cells = omega (arith, a1, b1); references = omega (arith, a2, b2) }

pub some_depth : (l : Layer) (r : Room) (ps : List Process) → 1 ≤ r.depth → 1 ≤ (room_from l r ps).depth
some_depth l r ps le = let h = (all_more l r ps).depth in omega (arith, h, le)

pub room_holds : (l : Layer) (r : Room) (ps : List Process) (k : ℕ) (p : Process) (v : RoutineView) → slice_get ps k ≡ Some p → slice_get l.routines p.routine ≡ Some v → Holds l (room_from l r ps) v
unfolding room_from
room_holds l r [] k p v e f = absurd (none-some p e)
room_holds l r (q ∷ ps) (suc k) p v e f = room_holds l (room_for l r (slice_get l.routines q.routine)) ps k p v e f
room_holds l r (q ∷ ps) zero p v e f =
    let s : Room = room_for l r (slice_get l.routines q.routine) in
    let same : q ≡ p = same_Some q p e in
    let g : slice_get l.routines q.routine ≡ Some v = subst (λ (x : Process). slice_get l.routines x.routine ≡ Some v) (sym same) f in
    let h : Holds l s v = subst (λ o. Holds l (room_for l r o) v) (sym g) (record { depth = omega arith; cells = omega arith; references = omega arith }) in
    let b : IsMore s (room_from l s ps) = all_more l s ps in
    let a0 = h.depth in
    let a1 = h.cells in
    let a2 = h.references in
    let b0 = b.depth in
    let b1 = b.cells in
    let b2 = b.references in
    record { depth = omega (arith, a0, b0); cells = omega (arith, a1, b1); references = omega (arith, a2, b2) }
