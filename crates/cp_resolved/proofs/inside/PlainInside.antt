-- What plain items read is inside what they name, if the cells before a place, those of its indices and its own are no more than the variable has.
use Rattle.std.proofs.Common.{◌≡◌, ℕ, ◌+◌, ◌-◌, ◌*◌, ◌≤◌, nat_le, Bool, true, false, ◌&&◌, if◌then◌else◌, ◌-ℤ◌, unsigned_abs, Option, Some, None, refl, arith, rules}
use Rattle.cp_resolved.proofs.Words.{PlaceOrigin, RoutineView}
use Rattle.cp_slots.specs.Code.{Place, place, Indices, no_indices, more_indices, Index, index, OrdinalExpression, number, load, negate, absolute, opposite, successor, predecessor, character, arithmetic, logic, compare, same_set, member, is_empty, SetExpression, load_set, empty_set, with_element, combine}
use Rattle.cp_slots.specs.Inside.{behind, then_some, has, SET_CELLS, room_from}

abbrev mutual
  pub expression_in : RoutineView → OrdinalExpression → Bool
  expression_in r (number z) = true
  expression_in r (load p) = has 1 (place_in r p)
  expression_in r (negate e) = expression_in r e
  expression_in r (absolute e) = expression_in r e
  expression_in r (opposite e) = expression_in r e
  expression_in r (successor e last) = expression_in r e
  expression_in r (predecessor e first) = expression_in r e
  expression_in r (character e) = expression_in r e
  expression_in r (arithmetic o a b) = expression_in r a && expression_in r b
  expression_in r (logic o a b) = expression_in r a && expression_in r b
  expression_in r (compare o a b) = expression_in r a && expression_in r b
  expression_in r (same_set wanted a b) = set_in r a && set_in r b
  expression_in r (member e a) = expression_in r e && set_in r a
  expression_in r (is_empty p) = has 1 (place_in r p)

  pub set_in : RoutineView → SetExpression → Bool
  set_in r (load_set p) = has SET_CELLS (place_in r p)
  set_in r empty_set = true
  set_in r (with_element a e) = set_in r a && expression_in r e
  set_in r (combine o a b) = set_in r a && set_in r b

  -- how many cells there are from the place on at least
  pub place_in : RoutineView → Place → Option ℕ
  place_in r (place o n is) = then_some (room_from r o) (λ cells. then_some (behind n cells) (λ left. indices_in r is left))

  pub indices_in : RoutineView → Indices → ℕ → Option ℕ
  indices_in r no_indices left = Some left
  indices_in r (more_indices i is) left = then_some (index_in r i left) (λ inner. indices_in r is inner)

  pub index_in : RoutineView → Index → ℕ → Option ℕ
  index_in r (index e low high size) left = if expression_in r e then behind (unsigned_abs (high -ℤ low) * size) left else None

-- the cells that indices may skip, and whether what they read is inside
abbrev pub span : Indices → ℕ
span no_indices = 0
span (more_indices (index e low high size) is) = unsigned_abs (high -ℤ low) * size + span is

abbrev pub AreIn : RoutineView → Indices → Type 0
AreIn r no_indices = Unit {0}
AreIn r (more_indices (index e low high size) is) = (expression_in r e ≡ true) × AreIn r is

pub behind_some : (first cells : ℕ) → first ≤ cells → behind first cells ≡ Some (cells - first)
behind_some first cells le = go (nat_le first cells) refl
  where
    go : (b : Bool) → nat_le first cells ≡ b → (if b then Some (cells - first) else None) ≡ Some (cells - first)
    go true e = refl
    go false e = absurd (let bad : cells + 1 ≤ first = search (rules, e) in omega (arith, bad, le))

pub has_more : (n left : ℕ) → n ≤ left → has n (Some left) ≡ true
has_more n left le = search (rules, le)

indices_left : (r : RoutineView) (is : Indices) (left n : ℕ) → AreIn r is → span is + n ≤ left → has n (indices_in r is left) ≡ true
indices_left r no_indices left n h le = has_more n left (omega (arith, le))
indices_left r (more_indices (index e low high size) is) left n h le =
    let k : ℕ = unsigned_abs (high -ℤ low) * size in
    rw (h.0, behind_some k left (omega (arith, le))) (indices_left r is (left - k) n h.1 (omega (arith, le)))

pub within : (r : RoutineView) (o : PlaceOrigin) (offset room n : ℕ) (is : Indices) → room_from r o ≡ Some room → offset + span is + n ≤ room → AreIn r is → has n (place_in r (place o offset is)) ≡ true
within r o offset room n is e le h = rw (e, behind_some offset room (omega (arith, le))) (indices_left r is (room - offset) n h (omega (arith, le)))
