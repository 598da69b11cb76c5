-- A part of a variable is inside the cells of the variable, whatever its indices are.
use Rattle.std.proofs.Common.{◌≡◌, ℕ, zero, suc, ◌+◌, ◌*◌, ◌≤◌, ℤ, pos, negsuc, ◌-ℤ◌, unsigned_abs, Bool, true, false, if◌then◌else◌, Option, Some, None, refl, sym, ap, subst, ◌∙◌, arith, rules}
use Rattle.cp_resolved.proofs.Words.{◌+ℤ◌, PlaceOrigin, RoutineView, Name, same_name, Chosen, field_chosen, further_chosen, cells_of, cells_in, IsFull, AreFull}
use Rattle.cp_slots.specs.Code as code
use Rattle.cp_slots.specs.Inside.{has, room_from}
use Rattle.cp_meaning.specs.Types as named
use Rattle.cp_meaning.specs.Types.{Ty, FieldTypes, Range, length_of_range, natural_of}
use Rattle.cp_resolved.specs.Compiled.{Designated, a_variable, then_form, with_index, part_of_form, field_of_form, element_of_form}
use Rattle.cp_resolved.proofs.names.Alike.{same_inside}
use Rattle.cp_resolved.proofs.inside.PlainInside.{expression_in, place_in, span, AreIn, within}

-- ---- places

-- a variable has this many cells at least
pub record HasCells (r : RoutineView) (o : PlaceOrigin) (n : ℕ) : Type 0 where
  pub room : ℕ
  pub from : room_from r o ≡ Some room
  pub enough : n ≤ room

-- the cells before a place of a type, those that its indices may skip and its own are cells of its variable
pub record Reaches (r : RoutineView) (o : PlaceOrigin) (offset : ℕ) (is : code.Indices) (t : Ty) : Type 0 where
  pub cells : HasCells r o (offset + span is + cells_of t)
  pub read : AreIn r is
  pub full : IsFull t

abbrev pub PlaceFits : RoutineView → code.Place → Ty → Type 0
PlaceFits r (code.place o n is) t = Reaches r o n is t

pub fewer_cells : (r : RoutineView) (o : PlaceOrigin) (n m : ℕ) → m ≤ n → HasCells r o n → HasCells r o m
fewer_cells r o n m le h = record { room = h.room; from = h.from; enough = (let e : n ≤ h.room = h.enough in omega (arith, e, le)) }

pub whole_fits : (r : RoutineView) (o : PlaceOrigin) (t : Ty) → HasCells r o (cells_of t) → IsFull t → PlaceFits r (code.place o 0 code.no_indices) t
whole_fits r o t h f = record { cells = fewer_cells r o (cells_of t) (0 + 0 + cells_of t) (omega arith) h; read = tt; full = f }

pub has_place : (r : RoutineView) (p : code.Place) (t : Ty) (n : ℕ) → PlaceFits r p t → n ≤ cells_of t → has n (place_in r p) ≡ true
has_place r (code.place o offset is) t n h le =
    let c : HasCells r o (offset + span is + cells_of t) = h.cells in
    let e : offset + span is + cells_of t ≤ c.room = c.enough in
    within r o offset c.room n is c.from (omega (arith, e, le)) h.read

-- ---- fields

further_inside : (n m : ℕ) (o : Option Chosen) (c : Chosen) → ((d : Chosen) → o ≡ Some d → (d.0 + cells_of d.1 ≤ m) × IsFull d.1) → further_chosen n o ≡ Some c → (c.0 + cells_of c.1 ≤ n + m) × IsFull c.1
further_inside n m None c f h = absurd (cc)
further_inside n m (Some d) c f h =
    let i : (d.0 + cells_of d.1 ≤ m) × IsFull d.1 = f d refl in
    subst (λ (q : Chosen). (q.0 + cells_of q.1 ≤ n + m) × IsFull q.1) (same_inside (n + d.0, d.1) c h) (let le : d.0 + cells_of d.1 ≤ m = i.0 in omega (arith, le), i.1)

pub field_inside : (us : FieldTypes) (x : Name) (c : Chosen) → AreFull us → field_chosen us x ≡ Some c → (c.0 + cells_of c.1 ≤ cells_in us) × IsFull c.1
field_inside named.no_field_types x c f e = absurd (cc)
field_inside (named.more_field_types y t us) x c f e = go (same_name x y) (λ d i. field_inside us x d f.1 i) e
  where
    go : (b : Bool) → ((d : Chosen) → field_chosen us x ≡ Some d → (d.0 + cells_of d.1 ≤ cells_in us) × IsFull d.1) → (if b then Some (0, t) else further_chosen (cells_of t) (field_chosen us x)) ≡ Some c → (c.0 + cells_of c.1 ≤ cells_of t + cells_in us) × IsFull c.1
    go true ih g = subst (λ (q : Chosen). (q.0 + cells_of q.1 ≤ cells_of t + cells_in us) × IsFull q.1) (same_inside (0, t) c g) (omega arith, f.0)
    go false ih g = further_inside (cells_of t) (cells_in us) (field_chosen us x) c ih g

abbrev pub VariableFits : RoutineView → Designated → Type 0
VariableFits r (a_variable p t) = PlaceFits r p t
VariableFits r d = ⊥

part_fits : (r : RoutineView) (o : PlaceOrigin) (n : ℕ) (is : code.Indices) (us : FieldTypes) (x : Name) (q : Option Chosen) (d : Designated) → q ≡ field_chosen us x → Reaches r o n is (named.record_with us) → then_form q (λ c. Some (part_of_form (code.place o n is) c)) ≡ Some d → VariableFits r d
part_fits r o n is us x None d g h e = absurd (cc)
part_fits r o n is us x (Some c) d g h e =
    let i = field_inside us x c h.full (sym g) in
    let le : c.0 + cells_of c.1 ≤ cells_in us = i.0 in
    subst (VariableFits r) (same_inside (part_of_form (code.place o n is) c) d e) (record { cells = fewer_cells r o (n + span is + cells_in us) (n + c.0 + span is + cells_of c.1) (omega (arith, le)) h.cells; read = h.read; full = i.1 })

pub field_fits : (r : RoutineView) (p : code.Place) (t : Ty) (x : Name) (d : Designated) → PlaceFits r p t → field_of_form t p x ≡ Some d → VariableFits r d
field_fits r (code.place o n is) (named.record_with us) x d h e = part_fits r o n is us x (field_chosen us x) d refl h e
field_fits r p (named.ordinal q) x d h e = absurd (cc)
field_fits r p y x d h e = absurd (cc)

-- ---- elements

span_with : (is : code.Indices) (c : code.OrdinalExpression) (q : Range) (n : ℕ) → span (with_index is c q n) ≡ span is + unsigned_abs (q.high -ℤ q.low) * n
span_with code.no_indices c q n = omega arith
span_with (code.more_indices (code.index d low high m) is) c q n = (let e : span (with_index is c q n) ≡ span is + unsigned_abs (q.high -ℤ q.low) * n = span_with is c q n in ap (λ k. unsigned_abs (high -ℤ low) * m + k) e ∙ omega arith)

read_with : (r : RoutineView) (is : code.Indices) (c : code.OrdinalExpression) (q : Range) (n : ℕ) → AreIn r is → expression_in r c ≡ true → AreIn r (with_index is c q n)
read_with r code.no_indices c q n h e = (e, tt)
read_with r (code.more_indices (code.index d low high m) is) c q n h e = (h.0, read_with r is c q n h.1 e)

pub one_longer : (z : ℤ) → 1 ≤ natural_of (z +ℤ pos 1) → natural_of (z +ℤ pos 1) ≡ suc (unsigned_abs z)
one_longer (pos n) h = let e : n + 1 ≡ suc n = omega arith in e
one_longer (negsuc zero) h = absurd (omega (arith, h))
one_longer (negsuc (suc n)) h = absurd (let e : negsuc (suc n) +ℤ pos 1 ≡ negsuc n = search rules in let g : 1 ≤ natural_of (negsuc n) = subst (λ z. 1 ≤ natural_of z) e h in omega (arith, g))

-- the last element is inside the array
pub elements_inside : (q : Range) (n : ℕ) → 1 ≤ length_of_range q → unsigned_abs (q.high -ℤ q.low) * n + n ≤ length_of_range q * n
elements_inside q n h =
    let k : ℕ = unsigned_abs (q.high -ℤ q.low) in
    let e : length_of_range q ≡ suc k = one_longer (q.high -ℤ q.low) h in
    subst (λ m. k * n + n ≤ m * n) (sym e) (omega arith)

pub element_fits : (r : RoutineView) (p : code.Place) (t : Ty) (c : code.OrdinalExpression) (d : Designated) → PlaceFits r p t → expression_in r c ≡ true → element_of_form t p c ≡ Some d → VariableFits r d
element_fits r (code.place o n is) (named.array_over q t) c d h i e =
    let k : ℕ = unsigned_abs (q.high -ℤ q.low) * cells_of t in
    let le : k + cells_of t ≤ length_of_range q * cells_of t = elements_inside q (cells_of t) h.full.0 in
    let s : span (with_index is c q (cells_of t)) ≡ span is + k = span_with is c q (cells_of t) in
    subst (VariableFits r) (same_inside (a_variable (code.place o n (with_index is c q (cells_of t))) t) d e) (record {
      cells = fewer_cells r o (n + span is + length_of_range q * cells_of t) (n + span (with_index is c q (cells_of t)) + cells_of t) (omega (arith, le, s)) h.cells;
      read = read_with r is c q (cells_of t) h.read i;
      full = h.full.1;
    })
element_fits r p (named.ordinal q) c d h i e = absurd (cc)
element_fits r p x c d h i e = absurd (cc)
