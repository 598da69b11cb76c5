-- Written types that break no rule: what they leave agrees, and they are the types that they mean.
use Rattle.std.proofs.Common.{◌≡◌, ℕ, suc, ◌+◌, ◌-◌, ◌*◌, ◌<◌, ◌≤◌, pos, Bool, true, false, ◌&&◌, ◌||◌, if◌then◌else◌, List, [], ◌∷◌, ◌++◌, length, Option, Some, None, Ok, Err, is_some, refl, sym, ap, subst, ◌∙◌, arith, append_assoc}
use Rattle.cp_resolved.proofs.Words.{ℤ, ◌-ℤ◌, int_lt, int_le, nat_lt, bytes_eq, le-leb, ltb-false, Identifier, Program, CheckFault, Range, ValueType, Meaning, ArrayShape}
use Rattle.cp_resolved.proofs.Words.{whole, Judged, both, ◌>>=◌, faults, Spot, Step, nothing, Typed, typed, Name, all_characters, Ty, FieldTypes, is_within, range_of}
use Rattle.cp_resolved.proofs.Words.{length_of_range, range_of_base, in_simple, in_type, in_groups, Each, IsSmallSimple, IsSmallType, AreSmallGroups, cells_of, cells_in}
use Rattle.cp_resolved.proofs.Words.{type_tokens, groups_tokens, none_first, or_left, or_right, C2, C20}
use Rattle.std.proofs.lemmas.List.{length-map, append-nil}
use Rattle.cp_tree.specs.Syntax as syntax
use Rattle.cp_scope.specs.declared.fault.CheckFault.TheVariants as check_fault
use Rattle.cp_scope.specs.declared.types.Base as check_base
use Rattle.cp_scope.specs.declared.types.Base.TheVariants as base
use Rattle.cp_scope.specs.declared.types.ValueType.TheVariants as types
use Rattle.cp_scope.specs.declared.types.Meaning.TheVariants as meaning
use Rattle.cp_scope.specs.Counts.{times}
use Rattle.cp_scope.specs.Scopes.{Names, Scope, new_scope, Scopes, Shape, array_shape, record_shape, Shapes, shape_in, as_array, count_of, is_declared, is_declared_in, is_among, with_name, with_shape, add, keep}
use Rattle.cp_scope.specs.Scopes as checker
use Rattle.cp_check.specs.declared.types.Spot.TheVariants as spot
use Rattle.cp_check.specs.Constants.{constant}
use Rattle.cp_check.specs.Records.{Fields, reserve_fields, with_fields, add_fields, check_fields_of}
use Rattle.cp_check.specs.Types as typing
use Rattle.cp_meaning.specs.Types as named
use Rattle.cp_meaning.specs.Scopes as scopes
use Rattle.cp_meaning.specs.Declarations as meant
use Rattle.cp_resolved.specs.Standing.{is_bounded, is_based, are_few, is_indexed, is_free, are_free, is_element, is_standing}
use Rattle.cp_resolved.specs.Typed.{Tokens, BaseIs, RangeIs, TypeIs, FieldsAre}
use Rattle.cp_resolved.proofs.agreeing.Agreeing.{Appends, appends_same, appends_then, Good, good_then, Sound, good_sound, none_left, none_right, none_of_both, new_names, find_last, is_itself, More, more_same, more_trans, with_more, with_there}
use Rattle.cp_resolved.proofs.agreeing.AgreeingCells.{array_takes, record_takes}
use Rattle.cp_resolved.proofs.agreeing.AgreeingNames.{W, Agree, sees, agree_added, agree_kept, type_more, fields_more}
use Rattle.cp_resolved.proofs.agreeing.AgreeingTypes.{MayHold, OwnedAt, array_owned, StandsAt, stands_free, spotted_stands, held_array, IsOrdinal, ordinal_of, IsFew, TypedAs, type_spotted, subrange_typed}
use Rattle.cp_resolved.proofs.counts.FewCells.{in_order, few_element, characters_within}
use Rattle.cp_resolved.proofs.declarations.Reserving.{Pends, ReservedIn, all_reserved, pending_fresh, named_all, Filled, all_filled}

-- ---- lists

pub each_left : {A : Type 0} (P : A → Type 0) (xs ys : List A) → Each P (xs ++ ys) → Each P xs
each_left P [] ys h = tt
each_left P (x ∷ xs) ys h = (h.0, each_left P xs ys h.1)

pub each_right : {A : Type 0} (P : A → Type 0) (xs ys : List A) → Each P (xs ++ ys) → Each P ys
each_right P [] ys h = h
each_right P (x ∷ xs) ys h = each_right P xs ys h.1

-- ---- one name that is not being declared

pub other_than : (x n : List ℕ) (ms : List (List ℕ)) → is_among x ms ≡ true → is_among n ms ≡ false → bytes_eq x n ≡ false
other_than x n ms h g = go (bytes_eq x n) refl
  where
    go : (b : Bool) → bytes_eq x n ≡ b → b ≡ false
    go true same = absurd (let bad : true ≡ false = sym h ∙ ap (λ y. is_among y ms) (is_itself x n same) ∙ g in cc)
    go false e = refl

pub added_pends : (c : Scope) (n : List ℕ) (o : Option Meaning) → is_declared_in c n ≡ false → Pends c → Pends (with_name c n o)
added_pends c n o h p =
    subst Pends (sym (new_names c n o (or_left (is_some (checker.find n c.names)) (is_among n c.pending) h)))
    (λ x e. ap is_some (find_last x n c.names o ∙ ap (λ (b : Bool). checker.or_else (checker.find x c.names) (if b then Some o else None)) (other_than x n c.pending e (or_right (is_some (checker.find n c.names)) (is_among n c.pending) h))) ∙ go (checker.find x c.names) (p x e))
  where
    go : (q : Option (Option Meaning)) → is_some q ≡ false → is_some (checker.or_else q None) ≡ false
    go None i = refl
    go (Some m) i = i

added_pending : (c : Scope) (n : List ℕ) (o : Option Meaning) → is_some (checker.find n c.names) ≡ false → (with_name c n o).pending ≡ c.pending
added_pending c n o h = ap (λ (e : Scope). e.pending) (new_names c n o h)

-- ---- numbers of constants

index_within : (n l : ℕ) → n < l → (int_le (pos 0) (pos n) && int_le (pos n) (pos (l - 1))) ≡ true
index_within n l h = search (arith, h)

from_zero : (n : ℕ) → int_le (pos 0) (pos n) ≡ true
from_zero n = search arith

last_is : (n : ℕ) → 1 ≤ n → (pos n -ℤ pos 1) ≡ pos (n - 1)
last_is n h = search (arith, h)

limited_good : (at n : ℕ) → Good (λ (u : Unit {0}). nat_lt 8192 n ≡ false) (typing.check_cells at n)
limited_good at n = go (nat_lt 8192 n)
  where
    go : (b : Bool) → Good (λ (u : Unit {0}). b ≡ false) (if b then Err (check_fault.Rule at C20 ∷ []) else Ok tt)
    go true = tt
    go false = refl

-- a range of numbers from 0 to 127, as a set has it
not_below : (a b : ℤ) → int_lt a b ≡ false → int_le b a ≡ true
not_below a b h = search (arith, h)

within_set : (q : named.Range) (low high : ℤ) → low ≡ q.low → high ≡ q.high → is_bounded q ≡ true → (int_lt low (pos 0) || int_lt (pos 127) high) ≡ false → is_based q ≡ true
within_set q low high a b bounded e =
    ap (λ c. c && (int_le (pos 0) q.low && int_le q.high (pos 127))) bounded
    ∙ (ap (λ c. c && int_le q.high (pos 127)) (ap (int_le (pos 0)) (sym a) ∙ not_below low (pos 0) (or_left (int_lt low (pos 0)) (int_lt (pos 127) high) e))
    ∙ (ap (λ z. int_le z (pos 127)) (sym b) ∙ not_below (pos 127) high (or_right (int_lt low (pos 0)) (int_lt (pos 127) high) e)))

module _ (tokens : Tokens) (p : Program) where
  -- from scopes to what a written type leaves
  pub record TypeResult (b : Bool) (s : Scopes) (below : scopes.Scope) (ks : List ℕ) (at_spot : Spot) (t : Typed) (u : Ty × scopes.Scope) : Type 0 where
    pub value : ValueType
    pub is : t.type ≡ Ok value
    pub typed : TypedAs tokens t.scopes.shapes at_spot u.0 value
    pub agree : Agree tokens p b None t.scopes u.1 below ks
    pub outer : t.scopes.outer ≡ s.outer
    pub pending : t.scopes.inner.pending ≡ s.inner.pending
    pub pends : Pends t.scopes.inner
    pub more : More s.shapes t.scopes.shapes
    pub appends : Appends s.inner.names t.scopes.inner.names

  -- ---- enumerations

  pub record MembersResult (b : Bool) (s t : Scopes) (below : scopes.Scope) (ks : List ℕ) (m : scopes.Scope) : Type 0 where
    pub agree : Agree tokens p b None t m below ks
    pub outer : t.outer ≡ s.outer
    pub pending : t.inner.pending ≡ s.inner.pending
    pub pends : Pends t.inner
    pub shapes : t.shapes ≡ s.shapes
    pub appends : Appends s.inner.names t.inner.names

  -- an enumeration, its base, and its constants
  pub record Lists (at : ℕ) (xs : List Name) (c : check_base.Base) : Type 0 where
    pub base : BaseIs tokens (named.enumerated at xs) c
    pub few : length xs ≤ 32768
    pub listed : xs ≡ tokens.constants at

  one_member : (b : Bool) (s : Scopes) (m below : scopes.Scope) (ks : List ℕ) (at : ℕ) (xs : List Name) (c : check_base.Base) (k : ℕ) (i : Identifier) → Lists at xs c → k < length xs → is_declared s i.name ≡ false → Pends s.inner → Agree tokens p b None s m below ks →
      MembersResult b s (add s i.name (Some (meaning.Constant c (pos k)))) below ks ((i.name, scopes.constant_meaning (named.enumerated at xs) (pos k)) ∷ m)
  unfolding add
  one_member b s m below ks at xs c k i l less new pends agree =
      let fresh : is_some (checker.find i.name s.inner.names) ≡ false = or_left (is_some (checker.find i.name s.inner.names)) (is_among i.name s.inner.pending) new in
      let few : length xs ≤ 32768 = l.few in
      record {
        agree = agree_added tokens p b None s m below ks i.name (meaning.Constant c (pos k)) (scopes.constant_meaning (named.enumerated at xs) (pos k)) fresh (λ e. refl)
            (record { means = λ r. (l.base, refl, index_within k (length xs) less); marked = tt; there = tt; fit = omega (arith, less, few) }) agree;
        outer = refl;
        pending = added_pending s.inner i.name (Some (meaning.Constant c (pos k))) fresh;
        pends = added_pends s.inner i.name (Some (meaning.Constant c (pos k))) new pends;
        shapes = refl;
        appends = ((i.name, Some (meaning.Constant c (pos k))) ∷ [], ap (λ (e : Scope). e.names) (new_names s.inner i.name (Some (meaning.Constant c (pos k))) fresh));
      }

  is_member : (s : Scopes) (c : check_base.Base) (k : ℕ) (i : Identifier) → (typing.member s c k i).faults ≡ [] → (is_declared s i.name ≡ false) × ((typing.member s c k i).scopes ≡ add s i.name (Some (meaning.Constant c (pos k))))
  unfolding typing.member
  is_member s c k i h = go (is_declared s i.name) h
    where
      go : (b : Bool) → (let t : Step = (if b then record { faults = check_fault.Rule i.at C2 ∷ []; scopes = s } else nothing (add s i.name (Some (meaning.Constant c (pos k))))) in t.faults) ≡ [] →
          (b ≡ false) × ((let t : Step = (if b then record { faults = check_fault.Rule i.at C2 ∷ []; scopes = s } else nothing (add s i.name (Some (meaning.Constant c (pos k))))) in t.scopes) ≡ add s i.name (Some (meaning.Constant c (pos k))))
      go true e = absurd (let bad : check_fault.Rule i.at C2 ∷ [] ≡ [] = e in cc)
      go false e = (refl, refl)

  members_then : (b : Bool) (s t u : Scopes) (below : scopes.Scope) (ks : List ℕ) (m k : scopes.Scope) → MembersResult b s t below ks m → MembersResult b t u below ks k → MembersResult b s u below ks k
  members_then b s t u below ks m k h g = record { agree = g.agree; outer = g.outer ∙ h.outer; pending = g.pending ∙ h.pending; pends = g.pends; shapes = g.shapes ∙ h.shapes; appends = appends_then s.inner.names t.inner.names u.inner.names h.appends g.appends }

  members_agree : (b : Bool) (s : Scopes) (m below : scopes.Scope) (ks : List ℕ) (at : ℕ) (xs : List Name) (c : check_base.Base) (n k : ℕ) (is : List Identifier) → Lists at xs c → n ≡ k → k + length is ≡ length xs → (typing.members s c n is).faults ≡ [] → Pends s.inner → Agree tokens p b None s m below ks →
      MembersResult b s (typing.members s c n is).scopes below ks (meant.with_constants (named.enumerated at xs) k (meant.names_of is) m)
  unfolding typing.members
  members_agree b s m below ks at xs c n k [] l same count e pends agree = record { agree = agree; outer = refl; pending = refl; pends = pends; shapes = refl; appends = appends_same s.inner.names }
  members_agree b s m below ks at xs c n k (i ∷ is) l same count e pends agree =
      let one : (is_declared s i.name ≡ false) × ((typing.member s c n i).scopes ≡ add s i.name (Some (meaning.Constant c (pos n)))) = is_member s c n i (none_left (typing.member s c n i).faults (typing.members (typing.member s c n i).scopes c (n + 1) is).faults e) in
      let less : k < length xs = omega (arith, count) in
      let first : MembersResult b s (typing.member s c n i).scopes below ks ((i.name, scopes.constant_meaning (named.enumerated at xs) (pos k)) ∷ m) =
      subst (λ (t : Scopes). MembersResult b s t below ks ((i.name, scopes.constant_meaning (named.enumerated at xs) (pos k)) ∷ m)) (sym one.1)
      (subst (λ j. MembersResult b s (add s i.name (Some (meaning.Constant c (pos j)))) below ks ((i.name, scopes.constant_meaning (named.enumerated at xs) (pos k)) ∷ m)) (sym same) (one_member b s m below ks at xs c k i l less one.0 pends agree)) in
      members_then b s (typing.member s c n i).scopes (typing.members (typing.member s c n i).scopes c (n + 1) is).scopes below ks ((i.name, scopes.constant_meaning (named.enumerated at xs) (pos k)) ∷ m) (meant.with_constants (named.enumerated at xs) (suc k) (meant.names_of is) ((i.name, scopes.constant_meaning (named.enumerated at xs) (pos k)) ∷ m)) first
      (members_agree b (typing.member s c n i).scopes ((i.name, scopes.constant_meaning (named.enumerated at xs) (pos k)) ∷ m) below ks at xs c (n + 1) (suc k) is l (omega (arith, same)) (omega (arith, count)) (none_right (typing.member s c n i).faults (typing.members (typing.member s c n i).scopes c (n + 1) is).faults e) first.pends first.agree)

  -- ---- simple types

  no_faults : (fs : List CheckFault) (v : ValueType) → faults (typing.unless_type fs v) ≡ [] → fs ≡ []
  no_faults [] v h = refl
  no_faults (f ∷ fs) v h = h

  enumeration_lists : (at : ℕ) (is : List Identifier) → IsFew tokens (record { at = at; names = is }) → Lists at (meant.names_of is) (typing.base_of at is)
  enumeration_lists at is h =
      let some : 1 ≤ length is = h.some in
      let few : length is ≤ 32768 = h.few in
      let same : length (meant.names_of is) ≡ length is = length-map is (λ i. i.name) in
      record { base = (ap (λ z. base.Enumeration at z) (last_is (length is) some ∙ ap (λ n. pos (n - 1)) (sym same)), omega (arith, few, same), h.listed); few = omega (arith, few, same); listed = h.listed }

  enumeration_typed : (ss : checker.Shapes) (q : Spot) (at : ℕ) (is : List Identifier) → IsFew tokens (record { at = at; names = is }) →
      TypedAs tokens ss q (named.ordinal (record { base = named.enumerated at (meant.names_of is); low = pos 0; high = pos (length is - 1) })) (types.Ordinal (whole (typing.base_of at is)))
  enumeration_typed ss q at is h =
      let some : 1 ≤ length is = h.some in
      let same : length (meant.names_of is) ≡ length is = length-map is (λ i. i.name) in
      let l : Lists at (meant.names_of is) (typing.base_of at is) = enumeration_lists at is h in
      let bounded : is_bounded (record { base = named.enumerated at (meant.names_of is); low = pos 0; high = pos (length is - 1) }) ≡ true =
      ap (λ b. b && (is_within (range_of_base (named.enumerated at (meant.names_of is))) (pos (length is - 1)) && int_le (pos 0) (pos (length is - 1)))) (index_within 0 (length (meant.names_of is)) (omega (arith, some, same)))
      ∙ ap (λ b. b && int_le (pos 0) (pos (length is - 1))) (index_within (length is - 1) (length (meant.names_of is)) (omega (arith, some, same))) ∙ from_zero (length is - 1) in
      record {
        belongs = record { range = whole (typing.base_of at is); is = refl; belongs = record { base = l.base; low = refl; high = last_is (length is) some } };
        stands = stands_free q (named.ordinal (record { base = named.enumerated at (meant.names_of is); low = pos 0; high = pos (length is - 1) })) bounded;
        owned = tt;
      }

  pub simple_agrees : (b : Bool) (s : Scopes) (m below : scopes.Scope) (ks : List ℕ) (q : Spot) (t : syntax.Simple) → faults (typing.simple_type s q t).type ≡ [] → IsSmallSimple t → Each (IsFew tokens) (in_simple t) → Pends s.inner → Agree tokens p b None s m below ks →
      TypeResult b s below ks q (typing.simple_type s q t) (meant.simple_in m t)
  unfolding typing.simple_type
  simple_agrees b s m below ks q (syntax.type_name at x) e small few pends agree =
      let v : Sound (TypedAs tokens s.shapes q (meant.type_named m x)) (typing.type_at_spot s q at x) =
      good_sound (TypedAs tokens s.shapes q (meant.type_named m x)) (typing.type_at_spot s q at x) (type_spotted tokens s m q at x (sees tokens p b None s m below ks agree x tt)) e in
      record { value = v.value; is = v.is; typed = v.holds; agree = agree; outer = refl; pending = refl; pends = pends; more = more_same s.shapes; appends = appends_same s.inner.names }
  simple_agrees b s m below ks q (syntax.subrange at c d) e small few pends agree =
      let v = good_sound (TypedAs tokens s.shapes q (meant.simple_in m (syntax.subrange at c d)).0) (both (constant s c) (constant s d) >>= typing.subrange_type at)
      (subrange_typed tokens s m q at c d small (λ x. sees tokens p b None s m below ks agree x tt)) e in
      record { value = v.value; is = v.is; typed = v.holds; agree = agree; outer = refl; pending = refl; pends = pends; more = more_same s.shapes; appends = appends_same s.inner.names }
  simple_agrees b s m below ks q (syntax.enumeration at is) e small few pends agree =
      let none : (typing.members s (typing.base_of at is) 0 is).faults ≡ [] = no_faults (typing.members s (typing.base_of at is) 0 is).faults (types.Ordinal (whole (typing.base_of at is))) e in
      let same : length (meant.names_of is) ≡ length is = length-map is (λ i. i.name) in
      let r = members_agree b s m below ks at (meant.names_of is) (typing.base_of at is) 0 0 is (enumeration_lists at is few.0) refl (omega (arith, same)) none pends agree in
      record {
        value = types.Ordinal (whole (typing.base_of at is));
        is = ap (λ fs. typing.unless_type fs (types.Ordinal (whole (typing.base_of at is)))) none;
        typed = enumeration_typed (typing.members s (typing.base_of at is) 0 is).scopes.shapes q at is few.0;
        agree = r.agree;
        outer = r.outer;
        pending = r.pending;
        pends = r.pends;
        more = λ k d g. ap (shape_in k) r.shapes ∙ g;
        appends = r.appends;
      }

  -- ---- arrays

  -- what is kept of an array
  record ArrayAs (ss : checker.Shapes) (q : Spot) (i e : Ty) (a : ArrayShape) : Type 0 where
    pub range : RangeIs tokens (range_of i) a.index
    pub element : TypeIs (W tokens ss) e a.element
    pub takes : a.cells ≡ length_of_range (range_of i) * cells_of e
    pub few : length_of_range (range_of i) * cells_of e ≤ 8192
    pub stands : StandsAt q (named.array_over (range_of i) e)
    pub owned : OwnedAt tokens q (named.array_over (range_of i) e)

  index_bounded : (ss : checker.Shapes) (i : Ty) (r : Range) → IsOrdinal (W tokens ss) i r → is_free i ≡ true → is_bounded (range_of i) ≡ true
  index_bounded ss i r o h = subst (λ (t : Ty). is_free t ≡ true) o.is h

  indexed : (r : named.Range) (e : Ty) → is_bounded r ≡ true → length_of_range r * cells_of e ≤ 8192 → is_element e ≡ true → (is_indexed r e && is_element e) ≡ true
  indexed r e h few g = ap (λ (b : Bool). (b && are_few (length_of_range r * cells_of e)) && is_element e) h ∙ ap (λ (b : Bool). b && is_element e) (le-leb (length_of_range r * cells_of e) 8192 few) ∙ g

  -- an array of one element
  abbrev one_place : named.Range
  one_place = record { base = named.booleans; low = pos 0; high = pos 0 }

  array_good : (s : Scopes) (q : Spot) (at : ℕ) (i e : Ty) (iv ev : ValueType) → TypedAs tokens s.shapes spot.Other i iv → TypedAs tokens s.shapes spot.Element e ev → Good (ArrayAs s.shapes q i e) (typing.array_of_range s q at iv ev)
  array_good s q at i e (types.Ordinal r) ev h g = go (nat_lt 8192 n) refl
    where
      o : IsOrdinal (W tokens s.shapes) i r
      o = ordinal_of (W tokens s.shapes) i r h.belongs

      n : ℕ
      n = times (count_of r) (checker.cells_of ev s.shapes)

      bounded : is_bounded (range_of i) ≡ true
      bounded = index_bounded s.shapes i r o h.stands

      shaped : Judged (Unit {0}) → Judged ArrayShape
      shaped j = typing.check_spot at q (typing.holding_array ev) (types.Array at) >>= (λ u. j >>= (λ v. Ok (record { index = r; element = ev; cells = n })))

      -- where it stands, whatever its length
      spotted : (k : named.Range) → (is_indexed k e && is_element e) ≡ true → Good (λ u. (u ≡ types.Array at) × StandsAt q (named.array_over k e) × MayHold q (typing.holding_array ev)) (typing.check_spot at q (typing.holding_array ev) (types.Array at))
      spotted k f = spotted_stands at q (typing.holding_array ev) (types.Array at) (named.array_over k e) (held_array (W tokens s.shapes) k e ev g.belongs f)

      go : (b : Bool) → nat_lt 8192 n ≡ b → Good (ArrayAs s.shapes q i e) (shaped (if b then Err (check_fault.Rule at C20 ∷ []) else Ok tt))
      go true f =
          let few : cells_of e ≤ 8192 = few_element e g.stands in
          let one : length_of_range one_place * cells_of e ≤ 8192 = omega (arith, few) in
          good_then (λ u. (u ≡ types.Array at) × StandsAt q (named.array_over one_place e) × MayHold q (typing.holding_array ev)) (ArrayAs s.shapes q i e) (typing.check_spot at q (typing.holding_array ev) (types.Array at)) (λ u. Err (check_fault.Rule at C20 ∷ []) >>= (λ (v : Unit {0}). Ok (record { index = r; element = ev; cells = n })))
          (spotted one_place (indexed one_place e refl one g.stands)) (λ u k. tt)
      go false f =
          let takes : n ≡ length_of_range (range_of i) * cells_of e = array_takes (W tokens s.shapes) (range_of i) r e ev o.range (in_order (range_of i) bounded) g.belongs f in
          good_then (λ u. (u ≡ types.Array at) × StandsAt q (named.array_over (range_of i) e) × MayHold q (typing.holding_array ev)) (ArrayAs s.shapes q i e) (typing.check_spot at q (typing.holding_array ev) (types.Array at)) (λ u. Ok (record { index = r; element = ev; cells = n }))
          (spotted (range_of i) (indexed (range_of i) e bounded (subst (λ m. m ≤ 8192) takes (ltb-false 8192 n f)) g.stands)) (λ u k. record { range = o.range; element = g.belongs; takes = takes; few = subst (λ m. m ≤ 8192) takes (ltb-false 8192 n f); stands = k.1; owned = array_owned tokens s.shapes q (range_of i) e ev g.belongs k.2 })
  array_good s q at i e types.Queue ev h g = tt
  array_good s q at i e _ ev h g = tt

  array_kept : (b : Bool) (s u : Scopes) (m below : scopes.Scope) (ks : List ℕ) (q : Spot) (at : ℕ) (i e : Ty) (j : Judged ArrayShape) → Sound (ArrayAs u.shapes q i e) j → Agree tokens p b None u m below (at ∷ ks) → u.outer ≡ s.outer → u.inner.pending ≡ s.inner.pending → Pends u.inner → More s.shapes u.shapes → Appends s.inner.names u.inner.names →
      TypeResult b s below ks q (record { type = j >>= typing.to_array at; scopes = typing.keep_array u at j }) (named.array_over (range_of i) e, m)
  unfolding keep
  array_kept b s u m below ks q at i e j a agree outer pending pends more appends =
      let further : More u.shapes (with_shape u.shapes at (array_shape a.value)) = with_more u.shapes at (array_shape a.value) agree.free.0 in
      subst (λ (k : Judged ArrayShape). TypeResult b s below ks q (record { type = k >>= typing.to_array at; scopes = typing.keep_array u at k }) (named.array_over (range_of i) e, m)) (sym a.is)
      (record {
        value = types.Array at;
        is = refl;
        typed = record {
          belongs = record { token = at; is = refl; shape = a.value; there = ap as_array (with_there u.shapes at (array_shape a.value) agree.free.0); range = a.holds.range; takes = a.holds.takes; few = a.holds.few; belongs = type_more tokens u.shapes (with_shape u.shapes at (array_shape a.value)) further e a.value.element a.holds.element };
          stands = a.holds.stands;
          owned = a.holds.owned;
        };
        agree = agree_kept tokens p b None u m below at ks (array_shape a.value) tt (λ y. refl) agree;
        outer = outer;
        pending = pending;
        pends = pends;
        more = more_trans s.shapes u.shapes (with_shape u.shapes at (array_shape a.value)) more further;
        appends = appends;
      })

  array_typed : (b : Bool) (s u : Scopes) (below : scopes.Scope) (ks : List ℕ) (q : Spot) (at : ℕ) (i : Ty) (ij : Judged ValueType) (iv : ValueType) (t : Typed) (e : Ty × scopes.Scope) → ij ≡ Ok iv → TypedAs tokens u.shapes spot.Other i iv → More u.shapes t.scopes.shapes → u.outer ≡ s.outer → u.inner.pending ≡ s.inner.pending → More s.shapes u.shapes → Appends s.inner.names u.inner.names →
      TypeResult b u below (at ∷ ks) spot.Element t e → faults (typing.array_type q at ij t).type ≡ [] → TypeResult b s below ks q (typing.array_type q at ij t) (named.array_over (range_of i) e.0, e.1)
  unfolding typing.shape_of_array
  array_typed b s u below ks q at i ij iv t e is h more outer pending before longer r none =
      let index : TypedAs tokens t.scopes.shapes spot.Other i iv = record { belongs = type_more tokens u.shapes t.scopes.shapes more i iv h.belongs; stands = h.stands; owned = h.owned } in
      let good : Good (ArrayAs t.scopes.shapes q i e.0) (both ij t.type >>= typing.shape_of_array t.scopes q at) =
      subst (λ (j : Judged ValueType). Good (ArrayAs t.scopes.shapes q i e.0) (both j t.type >>= typing.shape_of_array t.scopes q at)) (sym is)
      (subst (λ (j : Judged ValueType). Good (ArrayAs t.scopes.shapes q i e.0) (both (Ok iv) j >>= typing.shape_of_array t.scopes q at)) (sym r.is) (array_good t.scopes q at i e.0 iv r.value index r.typed)) in
      array_kept b s t.scopes e.1 below ks q at i e.0 (both ij t.type >>= typing.shape_of_array t.scopes q at)
      (good_sound (ArrayAs t.scopes.shapes q i e.0) (both ij t.type >>= typing.shape_of_array t.scopes q at) good (none_first (both ij t.type >>= typing.shape_of_array t.scopes q at) (typing.to_array at) none))
      r.agree (r.outer ∙ outer) (r.pending ∙ pending) r.pends (more_trans s.shapes u.shapes t.scopes.shapes before r.more) (appends_then s.inner.names u.inner.names t.scopes.inner.names longer r.appends)

  -- ---- sets

  set_good : (ss : checker.Shapes) (q : Spot) (at base_at : ℕ) (t : Ty) (v : ValueType) → TypedAs tokens ss spot.Base t v → Good (TypedAs tokens ss q (named.set_over (range_of t))) (typing.set_of at base_at v)
  set_good ss q at base_at t (types.Ordinal r) h = go (int_lt r.low (pos 0) || int_lt (pos 127) r.high) refl
    where
      o : IsOrdinal (W tokens ss) t r
      o = ordinal_of (W tokens ss) t r h.belongs

      ordered : int_le (range_of t).low (range_of t).high ≡ true
      ordered = in_order (range_of t) (subst (λ (u : Ty). is_standing u ≡ true) o.is h.stands)

      members : (int_lt r.low (pos 0) || int_lt (pos 127) r.high) ≡ false → (is_within all_characters (range_of t).low ≡ true) × (is_within all_characters (range_of t).high ≡ true)
      members e = characters_within (range_of t).low (range_of t).high (subst (λ z. (int_lt z (pos 0) || int_lt (pos 127) (range_of t).high) ≡ false) o.range.low (subst (λ z. (int_lt r.low (pos 0) || int_lt (pos 127) z) ≡ false) o.range.high e)) ordered

      based : (int_lt r.low (pos 0) || int_lt (pos 127) r.high) ≡ false → is_based (range_of t) ≡ true
      based e = within_set (range_of t) r.low r.high o.range.low o.range.high (subst (λ (u : Ty). StandsAt spot.Base u) o.is h.stands) e

      go : (b : Bool) → (int_lt r.low (pos 0) || int_lt (pos 127) r.high) ≡ b → Good (TypedAs tokens ss q (named.set_over (range_of t))) (if b then Err (check_fault.Rule at C20 ∷ []) else Ok (types.Set (Some r)))
      go true e = tt
      go false e = record { belongs = record { range = r; is = refl; belongs = o.range; low = (members e).0; high = (members e).1 }; stands = stands_free q (named.set_over (range_of t)) (based e); owned = tt }
  set_good ss q at base_at t types.Queue h = tt
  set_good ss q at base_at t _ h = tt

  set_typed : (b : Bool) (s : Scopes) (below : scopes.Scope) (ks : List ℕ) (q : Spot) (at base_at : ℕ) (t : Typed) (u : Ty × scopes.Scope) → TypeResult b s below ks spot.Base t u → faults (typing.set_type_of at base_at t).type ≡ [] → TypeResult b s below ks q (typing.set_type_of at base_at t) (named.set_over (range_of u.0), u.1)
  set_typed b s below ks q at base_at t u r none =
      let v = good_sound (TypedAs tokens t.scopes.shapes q (named.set_over (range_of u.0))) (t.type >>= typing.set_of at base_at)
      (subst (λ (j : Judged ValueType). Good (TypedAs tokens t.scopes.shapes q (named.set_over (range_of u.0))) (j >>= typing.set_of at base_at)) (sym r.is) (set_good t.scopes.shapes q at base_at u.0 r.value r.typed)) none in
      record { value = v.value; is = v.is; typed = v.holds; agree = r.agree; outer = r.outer; pending = r.pending; pends = r.pends; more = r.more; appends = r.appends }

  -- ---- records

  pub record FieldsResult (b : Bool) (s : Scopes) (below : scopes.Scope) (ks : List ℕ) (f : Scope) (t : Fields) (u : FieldTypes × scopes.Scope) : Type 0 where
    pub names : Names
    pub is : t.fields.names ≡ f.names ++ names
    pub each : FieldsAre (W tokens t.scopes.shapes) u.0 names
    pub free : are_free u.0 ≡ true
    pub sealed : t.fields.is_sealed ≡ f.is_sealed
    pub settled : t.fields.pending ≡ []
    pub agree : Agree tokens p b None t.scopes u.1 below ks
    pub outer : t.scopes.outer ≡ s.outer
    pub pending : t.scopes.inner.pending ≡ s.inner.pending
    pub pends : Pends t.scopes.inner
    pub more : More s.shapes t.scopes.shapes
    pub appends : Appends s.inner.names t.scopes.inner.names

  -- fields of one type before others
  fields_of_type : (ss : checker.Shapes) (is : List Identifier) (t : Ty) (v : ValueType) (ts : FieldTypes) (ds : Names) → TypeIs (W tokens ss) t v → FieldsAre (W tokens ss) ts ds → FieldsAre (W tokens ss) (meant.more_of_type is t ts) (named_all is (Some (meaning.Variable v)) ++ ds)
  fields_of_type ss [] t v ts ds h g = g
  fields_of_type ss (i ∷ is) t v ts ds h g = record { value_type = v; rest = named_all is (Some (meaning.Variable v)) ++ ds; first = refl; belongs = h; others = fields_of_type ss is t v ts ds h g }

  free_of_type : (is : List Identifier) (t : Ty) (ts : FieldTypes) → is_free t ≡ true → are_free ts ≡ true → are_free (meant.more_of_type is t ts) ≡ true
  free_of_type [] t ts h g = g
  free_of_type (i ∷ is) t ts h g = ap (λ b. b && are_free (meant.more_of_type is t ts)) h ∙ free_of_type is t ts h g

  pending_none : (f : Scope) → f.pending ≡ [] → Pends f
  pending_none f h x e = absurd (let bad : false ≡ true = sym (ap (is_among x) h) ∙ e in cc)

  -- a group of fields, with the names that it adds
  record GroupResult (b : Bool) (s : Scopes) (below : scopes.Scope) (ks : List ℕ) (f : Scope) (is : List Identifier) (t : Fields) (u : Ty) (m : scopes.Scope) : Type 0 where
    pub value : ValueType
    pub filled : t.fields.names ≡ f.names ++ named_all is (Some (meaning.Variable value))
    pub belongs : TypeIs (W tokens t.scopes.shapes) u value
    pub free : is_free u ≡ true
    pub sealed : t.fields.is_sealed ≡ f.is_sealed
    pub settled : t.fields.pending ≡ []
    pub agree : Agree tokens p b None t.scopes m below ks
    pub outer : t.scopes.outer ≡ s.outer
    pub pending : t.scopes.inner.pending ≡ s.inner.pending
    pub pends : Pends t.scopes.inner
    pub more : More s.shapes t.scopes.shapes
    pub appends : Appends s.inner.names t.scopes.inner.names

  group_filled : (b : Bool) (s : Scopes) (below : scopes.Scope) (ks : List ℕ) (f : Scope) (is : List Identifier) (t : Typed) (u : Ty × scopes.Scope) → f.pending ≡ [] → (reserve_fields f is).faults ≡ [] → TypeResult b s below ks spot.Other t u →
      GroupResult b s below ks f is (typing.field_group is (reserve_fields f is) t) u.0 u.1
  unfolding add_fields with_fields
  group_filled b s below ks f is t u empty none r =
      let c : Scope = (reserve_fields f is).fields in
      let res : ReservedIn f c is = all_reserved f is none (pending_none f empty) in
      let filled : Filled c (with_fields c is (typing.as_field t.type)) is (typing.as_field t.type) = all_filled c is (typing.as_field t.type) (pending_fresh c is c.pending res.pends res.all) res.others in
      record {
        value = r.value;
        filled = filled.names ∙ ap (λ ds. ds ++ named_all is (typing.as_field t.type)) res.names ∙ ap (λ (j : Judged ValueType). f.names ++ named_all is (typing.as_field j)) r.is;
        belongs = r.typed.belongs;
        free = r.typed.stands;
        sealed = filled.sealed ∙ res.sealed;
        settled = refl;
        agree = r.agree;
        outer = r.outer;
        pending = r.pending;
        pends = r.pends;
        more = r.more;
        appends = r.appends;
      }

  fields_then : (b : Bool) (s : Scopes) (below : scopes.Scope) (ks js : List ℕ) (f : Scope) (is : List Identifier) (t w : Fields) (u : Ty) (m : scopes.Scope) (v : FieldTypes × scopes.Scope) → GroupResult b s below js f is t u m → FieldsResult b t.scopes below ks t.fields w v → FieldsResult b s below ks f (record { faults = t.faults ++ w.faults; fields = w.fields; scopes = w.scopes }) (meant.more_of_type is u v.0, v.1)
  fields_then b s below ks js f is t w u m v g r =
      record {
        names = named_all is (Some (meaning.Variable g.value)) ++ r.names;
        is = r.is ∙ ap (λ ds. ds ++ r.names) g.filled ∙ append_assoc f.names (named_all is (Some (meaning.Variable g.value))) r.names;
        each = fields_of_type w.scopes.shapes is u g.value v.0 r.names (type_more tokens t.scopes.shapes w.scopes.shapes r.more u g.value g.belongs) r.each;
        free = free_of_type is u v.0 g.free r.free;
        sealed = r.sealed ∙ g.sealed;
        settled = r.settled;
        agree = r.agree;
        outer = r.outer ∙ g.outer;
        pending = r.pending ∙ g.pending;
        pends = r.pends;
        more = more_trans s.shapes t.scopes.shapes w.scopes.shapes g.more r.more;
        appends = appends_then s.inner.names t.scopes.inner.names w.scopes.inner.names g.appends r.appends;
      }

  -- a record that is not too large
  abbrev IsRecord : Scopes → Scope → Shape → Type 0
  IsRecord s f d = (d ≡ record_shape f (typing.cells_in f s)) × (nat_lt 8192 (typing.cells_in f s) ≡ false)

  shaped_good : (s : Scopes) (at : ℕ) (f : Scope) → Good (IsRecord s f) (typing.shape_within_limits s at f)
  shaped_good s at f = good_then (λ (u : Unit {0}). nat_lt 8192 (typing.cells_in f s) ≡ false) (IsRecord s f) (typing.check_cells at (typing.cells_in f s)) (λ u. Ok (record_shape f (typing.cells_in f s))) (limited_good at (typing.cells_in f s)) (λ u h. (refl, h))

  sound_none : (fs : List CheckFault) (f : Scope) → faults (check_fields_of fs f) ≡ [] → fs ≡ []
  sound_none [] f h = refl
  sound_none (e ∷ es) f h = h

  record_kept : (b : Bool) (s : Scopes) (below : scopes.Scope) (ks : List ℕ) (q : Spot) (at : ℕ) (f : Fields) (u : FieldTypes × scopes.Scope) (j : Judged Shape) → FieldsResult b s below (at ∷ ks) new_scope f u → Sound (IsRecord f.scopes f.fields) j →
      TypeResult b s below ks q (record { type = j >>= typing.to_record at; scopes = typing.keep_record f.scopes at j }) (named.record_with u.0, u.1)
  unfolding keep
  record_kept b s below ks q at f u j r d =
      let n : ℕ = cells_in u.0 in
      let fields : FieldsAre (W tokens f.scopes.shapes) u.0 f.fields.names = subst (FieldsAre (W tokens f.scopes.shapes) u.0) (sym r.is) r.each in
      let takes : typing.cells_in f.fields f.scopes ≡ n = record_takes (W tokens f.scopes.shapes) u.0 f.fields.names r.free fields d.holds.1 in
      let few : n ≤ 8192 = subst (λ m. m ≤ 8192) takes (ltb-false 8192 (typing.cells_in f.fields f.scopes) d.holds.1) in
      let free : is_free (named.record_with u.0) ≡ true = ap (λ (c : Bool). c && are_free u.0) (le-leb n 8192 few) ∙ r.free in
      let further : More f.scopes.shapes (with_shape f.scopes.shapes at (record_shape f.fields n)) = with_more f.scopes.shapes at (record_shape f.fields n) r.agree.free.0 in
      subst (λ (k : Judged Shape). TypeResult b s below ks q (record { type = k >>= typing.to_record at; scopes = typing.keep_record f.scopes at k }) (named.record_with u.0, u.1)) (sym (d.is ∙ ap Ok (d.holds.0 ∙ ap (record_shape f.fields) takes)))
      (record {
        value = types.Record at;
        is = refl;
        typed = record {
          belongs = record {
            token = at;
            is = refl;
            fields = f.fields;
            there = with_there f.scopes.shapes at (record_shape f.fields n) r.agree.free.0;
            few = few;
            visible = r.sealed;
            each = fields_more tokens f.scopes.shapes (with_shape f.scopes.shapes at (record_shape f.fields n)) further u.0 f.fields.names fields;
          };
          stands = stands_free q (named.record_with u.0) free;
          owned = tt;
        };
        agree = agree_kept tokens p b None f.scopes u.1 below at ks (record_shape f.fields n) tt (λ y. refl) r.agree;
        outer = r.outer;
        pending = r.pending;
        pends = r.pends;
        more = more_trans s.shapes f.scopes.shapes (with_shape f.scopes.shapes at (record_shape f.fields n)) r.more further;
        appends = r.appends;
      })

  record_typed : (b : Bool) (s : Scopes) (below : scopes.Scope) (ks : List ℕ) (q : Spot) (at : ℕ) (f : Fields) (u : FieldTypes × scopes.Scope) → faults (typing.record_type at f).type ≡ [] → FieldsResult b s below (at ∷ ks) new_scope f u → TypeResult b s below ks q (typing.record_type at f) (named.record_with u.0, u.1)
  record_typed b s below ks q at f u none r =
      let sound : faults (typing.sound_shape at f) ≡ [] = none_first (typing.sound_shape at f) (typing.to_record at) none in
      let well : f.faults ≡ [] = sound_none f.faults f.fields (none_first (check_fields_of f.faults f.fields) (typing.shape_within_limits f.scopes at) sound) in
      record_kept b s below ks q at f u (typing.sound_shape at f) r
      (good_sound (IsRecord f.scopes f.fields) (typing.sound_shape at f)
      (subst (λ (fs : List CheckFault). Good (IsRecord f.scopes f.fields) (check_fields_of fs f.fields >>= typing.shape_within_limits f.scopes at)) (sym well) (shaped_good f.scopes at f.fields)) sound)

  record_well : (at : ℕ) (f : Fields) → faults (typing.record_type at f).type ≡ [] → f.faults ≡ []
  record_well at f none = sound_none f.faults f.fields (none_first (check_fields_of f.faults f.fields) (typing.shape_within_limits f.scopes at) (none_first (typing.sound_shape at f) (typing.to_record at) none))

  index_none : (q : Spot) (at : ℕ) (i : Judged ValueType) (e : Typed) → faults (typing.array_type q at i e).type ≡ [] → (faults i ≡ []) × (faults e.type ≡ [])
  index_none q at i e h = none_of_both i e.type (none_first (both i e.type) (typing.shape_of_array e.scopes q at) (none_first (both i e.type >>= typing.shape_of_array e.scopes q at) (typing.to_array at) h))

  mutual
    unfolding typed

    pub type_agrees : (b : Bool) (s : Scopes) (m below : scopes.Scope) (ks : List ℕ) (q : Spot) (t : syntax.TypeTerm) → faults (typed s q t).type ≡ [] → IsSmallType t → Each (IsFew tokens) (in_type t) → Pends s.inner → Agree tokens p b None s m below (type_tokens t ks) →
        TypeResult b s below ks q (typed s q t) (meant.type_in m t)
    type_agrees b s m below ks q (syntax.simple at t) e small few pends agree = simple_agrees b s m below ks q t e small few pends agree
    type_agrees b s m below ks q (syntax.array_of at i t) e small few pends agree =
        let none = index_none q at (typing.simple_type s spot.Other i).type (typed (typing.simple_type s spot.Other i).scopes spot.Element t) e in
        let index = simple_agrees b s m below (type_tokens t (at ∷ ks)) spot.Other i none.0 small.0 (each_left (IsFew tokens) (in_simple i) (in_type t) few) pends agree in
        let u : Scopes = (typing.simple_type s spot.Other i).scopes in
        let element = type_agrees b u (meant.simple_in m i).1 below (at ∷ ks) spot.Element t none.1 small.1 (each_right (IsFew tokens) (in_simple i) (in_type t) few) index.pends index.agree in
        array_typed b s u below ks q at (meant.simple_in m i).0 (typing.simple_type s spot.Other i).type index.value (typed u spot.Element t) (meant.type_in (meant.simple_in m i).1 t) index.is index.typed element.more index.outer index.pending index.more index.appends element e
    type_agrees b s m below ks q (syntax.set_type at t) e small few pends agree =
        set_typed b s below ks q at (typing.simple_at t) (typing.simple_type s spot.Base t) (meant.simple_in m t) (simple_agrees b s m below ks spot.Base t (none_first (typing.simple_type s spot.Base t).type (typing.set_of at (typing.simple_at t)) e) small few pends agree) e
    type_agrees b s m below ks q (syntax.record_of at gs o) e small few pends agree =
        record_typed b s below ks q at (typing.groups_typed new_scope s gs) (meant.fields_in m gs) e
        (groups_agree b s m below (at ∷ ks) new_scope gs (record_well at (typing.groups_typed new_scope s gs) e) refl small few pends agree)

    groups_agree : (b : Bool) (s : Scopes) (m below : scopes.Scope) (ks : List ℕ) (f : Scope) (gs : syntax.FieldGroups) → (typing.groups_typed f s gs).faults ≡ [] → f.pending ≡ [] → AreSmallGroups gs → Each (IsFew tokens) (in_groups gs) → Pends s.inner → Agree tokens p b None s m below (groups_tokens gs ks) →
        FieldsResult b s below ks f (typing.groups_typed f s gs) (meant.fields_in m gs)
    groups_agree b s m below ks f syntax.no_fields e empty small few pends agree =
        record { names = []; is = sym (append-nil f.names); each = refl; free = refl; sealed = refl; settled = empty; agree = agree; outer = refl; pending = refl; pends = pends; more = more_same s.shapes; appends = appends_same s.inner.names }
    groups_agree b s m below ks f (syntax.more_fields (syntax.fields is t) gs) e empty small few pends agree =
        let first : Fields = typing.group_typed f s (syntax.fields is t) in
        let none : (reserve_fields f is).faults ++ faults (typed s spot.Other t).type ≡ [] = none_left first.faults (typing.groups_typed first.fields first.scopes gs).faults e in
        let group = group_filled b s below (groups_tokens gs ks) f is (typed s spot.Other t) (meant.type_in m t) empty (none_left (reserve_fields f is).faults (faults (typed s spot.Other t).type) none)
        (type_agrees b s m below (groups_tokens gs ks) spot.Other t (none_right (reserve_fields f is).faults (faults (typed s spot.Other t).type) none) small.0 (each_left (IsFew tokens) (in_type t) (in_groups gs) few) pends agree) in
        fields_then b s below ks (groups_tokens gs ks) f is first (typing.groups_typed first.fields first.scopes gs) (meant.type_in m t).0 (meant.type_in m t).1 (meant.fields_in (meant.type_in m t).1 gs) group
        (groups_agree b first.scopes (meant.type_in m t).1 below ks first.fields gs (none_right first.faults (typing.groups_typed first.fields first.scopes gs).faults e) group.settled small.1 (each_right (IsFew tokens) (in_type t) (in_groups gs) few) group.pends group.agree)
