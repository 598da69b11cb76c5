-- Types that break no rule: the checker and the scope give them the same type, and their enumerations the same names.
use Rattle.std.proofs.Common.{◌≡◌, ℕ, ◌≤◌, ℤ, Bool, true, false, ◌&&◌, if◌then◌else◌, List, [], ◌∷◌, length, Option, Some, None, Ok, Err, refl, sym, ap, subst, ◌∙◌, arith}
use Rattle.cp_resolved.proofs.Words.{bytes_eq, int_lt, int_le, Constant, SystemKind, Program, Range, ValueType, Meaning, same_base, Judged, both, ◌>>=◌, ConstantNumber}
use Rattle.cp_resolved.proofs.Words.{Spot, Holding, Name, same_name, Ty, is_within, range_of, find, range_of_base, Enumerated, IsSmallSimple, is_bounded, is_indexed}
use Rattle.cp_resolved.proofs.Words.{is_free, is_element, is_standing, IsFit, Tokens, Written, RangeIs, TypeIs, KindIs}
use Rattle.cp_tree.specs.Syntax as syntax
use Rattle.cp_scope.specs.declared.fault.Rule.TheVariants.{C5, C11, C13, C18}
use Rattle.cp_scope.specs.declared.fault.CheckFault.TheVariants as check_fault
use Rattle.cp_scope.specs.declared.types.ValueType.TheVariants as types
use Rattle.cp_scope.specs.declared.types.Meaning.TheVariants as meaning
use Rattle.cp_scope.specs.Scopes.{Scopes, Shapes, shape_in, as_array, look, or_else, look_outer}
use Rattle.cp_check.specs.declared.types.Spot.TheVariants as spot
use Rattle.cp_check.specs.declared.types.Holding.TheVariants as holds
use Rattle.cp_check.specs.Names as names
use Rattle.cp_check.specs.Constants.{constant}
use Rattle.cp_check.specs.Types as typing
use Rattle.cp_meaning.specs.Types as named
use Rattle.cp_meaning.specs.Scopes as scopes
use Rattle.cp_meaning.specs.Declarations as meant
use Rattle.cp_resolved.proofs.agreeing.Agreeing.{Good, good_then, good_both, good_if, is_itself, look_is, inner_look}
use Rattle.cp_resolved.proofs.agreeing.AgreeingNames.{W, IsKnown, IsStacked, IsTypeKnown, Agree, sees}
use Rattle.cp_resolved.proofs.agreeing.AgreeingConstants.{NumberIs, base_same, constant_number_of}

-- ---- where queues and components stand

-- what a type may be, by where it stands
abbrev pub StandsAt : Spot → Ty → Type 0
StandsAt spot.Other t = is_free t ≡ true
StandsAt spot.Element t = is_element t ≡ true
StandsAt p t = is_standing t ≡ true

pub free_element : (t : Ty) → is_free t ≡ true → is_element t ≡ true
free_element named.queue_type h = refl
free_element (named.component_of n) h = refl
free_element _ h = h

both_are : (a b c : Bool) → (a && b) ≡ true → (b ≡ true → c ≡ true) → (a && c) ≡ true
both_are true b c h k = k h
both_are false b c h k = h

pub free_standing : (t : Ty) → is_free t ≡ true → is_standing t ≡ true
free_standing named.queue_type h = refl
free_standing (named.array_over r t) h = both_are (is_indexed r t) (is_free t) (is_element t) h (free_element t)
free_standing (named.component_of n) h = refl
free_standing _ h = h

pub stands_free : (p : Spot) (t : Ty) → is_free t ≡ true → StandsAt p t
stands_free spot.Other t h = h
stands_free spot.Element t h = free_element t h
stands_free _ t h = free_standing t h

pub element_standing : (t : Ty) → is_element t ≡ true → is_standing t ≡ true
element_standing named.queue_type h = refl
element_standing (named.array_over r t) h = both_are (is_indexed r t) (is_free t) (is_element t) h (free_element t)
element_standing (named.component_of n) h = refl
element_standing _ h = h

pub standing_at : (p : Spot) (t : Ty) → StandsAt p t → is_standing t ≡ true
standing_at spot.Other t h = free_standing t h
standing_at spot.Element t h = element_standing t h
standing_at _ t h = h

-- a queue or component alone
abbrev pub IsSingle : Holding → Type 0
IsSingle (holds.Queues) = ⊥
IsSingle (holds.Components k) = ⊥
IsSingle h = Unit {0}

-- what a type holds, as the checker sees it
pub record Held (h : Holding) (t : Ty) : Type 0 where
  pub standing : is_standing t ≡ true
  pub free : h ≡ holds.Plain → is_free t ≡ true
  pub element : IsSingle h → is_element t ≡ true

-- of which kinds the components are that may stand somewhere
abbrev pub MayOwn : Spot → SystemKind → Type 0
MayOwn (spot.Permanent o) k = typing.may_own o k ≡ true
MayOwn p k = Unit {0}

abbrev pub MayHold : Spot → Holding → Type 0
MayHold p (holds.Component k) = MayOwn p k
MayHold p (holds.Components k) = MayOwn p k
MayHold p h = Unit {0}

pub spotted_stands : (at : ℕ) (p : Spot) (h : Holding) (v : ValueType) (t : Ty) → Held h t → Good (λ u. (u ≡ v) × StandsAt p t × MayHold p h) (typing.check_spot at p h v)
spotted_stands at spot.Base holds.Plain v t k = (refl, k.standing, tt)
spotted_stands at spot.Other holds.Plain v t k = (refl, k.free refl, tt)
spotted_stands at spot.Other holds.Queue v t k = tt
spotted_stands at spot.Other holds.Queues v t k = tt
spotted_stands at spot.Other (holds.Component j) v t k = tt
spotted_stands at spot.Other (holds.Components j) v t k = tt
spotted_stands at spot.Element holds.Plain v t k = (refl, k.element tt, tt)
spotted_stands at spot.Element holds.Queue v t k = (refl, k.element tt, tt)
spotted_stands at spot.Element holds.Queues v t k = tt
spotted_stands at spot.Element (holds.Component j) v t k = (refl, k.element tt, tt)
spotted_stands at spot.Element (holds.Components j) v t k = tt
spotted_stands at spot.Definition holds.Queue v t k = tt
spotted_stands at spot.Definition (holds.Component j) v t k = tt
spotted_stands at (spot.Permanent o) holds.Queue v t k = good_if (λ u. (u ≡ v) × (is_standing t ≡ true) × Unit {0}) (typing.may_queue (spot.Permanent o)) v (check_fault.Rule at C11) [] (λ e. (refl, k.standing, tt))
spotted_stands at (spot.Permanent o) holds.Queues v t k = good_if (λ u. (u ≡ v) × (is_standing t ≡ true) × Unit {0}) (typing.may_queues (spot.Permanent o)) v (check_fault.Rule at C11) [] (λ e. (refl, k.standing, tt))
spotted_stands at (spot.Permanent o) (holds.Component j) v t k = good_if (λ u. (u ≡ v) × (is_standing t ≡ true) × (typing.may_own o j ≡ true)) (typing.may_own o j) v (check_fault.Rule at C13) [] (λ e. (refl, k.standing, e))
spotted_stands at (spot.Permanent o) (holds.Components j) v t k = good_if (λ u. (u ≡ v) × (is_standing t ≡ true) × (typing.may_own o j ≡ true)) (typing.may_own o j) v (check_fault.Rule at C13) [] (λ e. (refl, k.standing, e))
spotted_stands at _ _ v t k = (refl, k.standing, tt)

module _ (w : Written) where
  plain_array : (r : named.Range) (t : Ty) → (is_indexed r t && is_element t) ≡ true → (is_element t ≡ true → is_free t ≡ true) → Held holds.Plain (named.array_over r t)
  plain_array r t b k = record { standing = b; free = λ e. both_are (is_indexed r t) (is_element t) (is_free t) b k; element = λ e. both_are (is_indexed r t) (is_element t) (is_free t) b k }

  -- an array, by its elements
  pub held_array : (r : named.Range) (t : Ty) (v : ValueType) → TypeIs w t v → (is_indexed r t && is_element t) ≡ true → Held (typing.holding_array v) (named.array_over r t)
  held_array r (named.ordinal q) v h b = subst (λ u. Held (typing.holding_array u) (named.array_over r (named.ordinal q))) (sym h.is) (plain_array r (named.ordinal q) b (λ e. e))
  held_array r named.queue_type v h b = subst (λ u. Held (typing.holding_array u) (named.array_over r named.queue_type)) (sym h) (record { standing = b; free = λ e. absurd (cc); element = λ e. absurd e })
  held_array r (named.set_over q) v h b = subst (λ u. Held (typing.holding_array u) (named.array_over r (named.set_over q))) (sym h.is) (plain_array r (named.set_over q) b (λ e. e))
  held_array r (named.array_over q t) v h b = subst (λ u. Held (typing.holding_array u) (named.array_over r (named.array_over q t))) (sym h.is) (plain_array r (named.array_over q t) b (λ e. e))
  held_array r (named.record_with ts) v h b = subst (λ u. Held (typing.holding_array u) (named.array_over r (named.record_with ts))) (sym h.is) (plain_array r (named.record_with ts) b (λ e. e))
  held_array r (named.component_of n) v h b = subst (λ u. Held (typing.holding_array u) (named.array_over r (named.component_of n))) (sym h.is) (record { standing = b; free = λ e. absurd (cc); element = λ e. absurd e })

  plain_held : (t : Ty) → is_standing t ≡ true → (is_standing t ≡ true → is_free t ≡ true) → Held holds.Plain t
  plain_held t h k = record { standing = h; free = λ e. k h; element = λ e. free_element t (k h) }

  pub held_named : (s : Scopes) (t : Ty) (v : ValueType) → w.shapes ≡ s.shapes → TypeIs w t v → is_standing t ≡ true → Held (typing.holding s v) t
  held_named s (named.ordinal q) v e h b = subst (λ u. Held (typing.holding s u) (named.ordinal q)) (sym h.is) (plain_held (named.ordinal q) b (λ i. i))
  held_named s named.queue_type v e h b = subst (λ u. Held (typing.holding s u) named.queue_type) (sym h) (record { standing = b; free = λ i. absurd (cc); element = λ i. refl })
  held_named s (named.set_over q) v e h b = subst (λ u. Held (typing.holding s u) (named.set_over q)) (sym h.is) (plain_held (named.set_over q) b (λ i. i))
  held_named s (named.array_over q t) v e h b =
      subst (λ u. Held (typing.holding s u) (named.array_over q t)) (sym h.is)
      (subst (λ o. Held (typing.holding_of o) (named.array_over q t)) (sym (ap (λ ss. as_array (shape_in h.token ss)) (sym e) ∙ h.there)) (held_array q t h.shape.element h.belongs b))
  held_named s (named.record_with ts) v e h b = subst (λ u. Held (typing.holding s u) (named.record_with ts)) (sym h.is) (plain_held (named.record_with ts) b (λ i. i))
  held_named s (named.component_of n) v e h b = subst (λ u. Held (typing.holding s u) (named.component_of n)) (sym h.is) (record { standing = b; free = λ i. absurd (cc); element = λ i. refl })

  -- ---- ordinals

  -- a type whose values are ordinal
  pub record IsOrdinal (t : Ty) (r : Range) : Type 0 where
    pub is : t ≡ named.ordinal (range_of t)
    pub range : RangeIs w.tokens (range_of t) r

  same_range : (r q : Range) → types.Ordinal r ≡ types.Ordinal q → r ≡ q
  same_range r q h = cc

  pub ordinal_of : (t : Ty) (r : Range) → TypeIs w t (types.Ordinal r) → IsOrdinal t r
  ordinal_of (named.ordinal q) r h = record { is = refl; range = subst (RangeIs w.tokens q) (sym (same_range r h.range h.is)) h.belongs }
  ordinal_of named.queue_type r h = absurd (let bad : types.Ordinal r ≡ types.Queue = h in cc)
  ordinal_of (named.set_over q) r h = absurd (let bad : types.Ordinal r ≡ types.Set (Some h.range) = h.is in cc)
  ordinal_of (named.array_over q t) r h = absurd (let bad : types.Ordinal r ≡ types.Array h.token = h.is in cc)
  ordinal_of (named.record_with ts) r h = absurd (let bad : types.Ordinal r ≡ types.Record h.token = h.is in cc)
  ordinal_of (named.component_of n) r h = absurd (let bad : types.Ordinal r ≡ types.Component h.kind (w.tokens.systems n) = h.is in cc)

-- ---- names of types

-- few constants, which are those of the token
pub record IsFew (tokens : Tokens) (e : Enumerated) : Type 0 where
  pub some : 1 ≤ length e.names
  pub few : length e.names ≤ 32768
  pub listed : meant.names_of e.names ≡ tokens.constants e.at

abbrev is_type : Option scopes.Meaning → Bool
is_type (Some (scopes.type_meaning t)) = true
is_type o = false

abbrev type_of : Option scopes.Meaning → Ty
type_of (Some (scopes.type_meaning t)) = t
type_of o = named.ordinal named.all_integers

skipped : (b : Bool) (d o : Option scopes.Meaning) (t : Ty) → is_type d ≡ false → (if b then d else o) ≡ Some (scopes.type_meaning t) → o ≡ Some (scopes.type_meaning t)
skipped true d o t n f = absurd (let bad : false ≡ true = sym n ∙ ap is_type f in cc)
skipped false d o t n f = f

-- a name that stands for a type is the latest type of that name
latest_is : (x : Name) (m : scopes.Scope) (t : Ty) → find x m ≡ Some (scopes.type_meaning t) → meant.type_named m x ≡ t
latest_is x [] t e = absurd (let bad : false ≡ true = ap is_type e in cc)
latest_is x ((n, scopes.type_meaning u) ∷ ds) t e = go (same_name x n) e (latest_is x ds t)
  where
    go : (b : Bool) → (if b then Some (scopes.type_meaning u) else find x ds) ≡ Some (scopes.type_meaning t) → (find x ds ≡ Some (scopes.type_meaning t) → meant.type_named ds x ≡ t) → (if b then u else meant.type_named ds x) ≡ t
    go true f rest = ap type_of f
    go false f rest = rest f
latest_is x ((n, scopes.constant_meaning b z) ∷ ds) t e = latest_is x ds t (skipped (same_name x n) (Some (scopes.constant_meaning b z)) (find x ds) t refl e)
latest_is x ((n, scopes.local_variable u) ∷ ds) t e = latest_is x ds t (skipped (same_name x n) (Some (scopes.local_variable u)) (find x ds) t refl e)
latest_is x ((n, scopes.permanent_variable u) ∷ ds) t e = latest_is x ds t (skipped (same_name x n) (Some (scopes.permanent_variable u)) (find x ds) t refl e)
latest_is x ((n, scopes.routine_meaning r) ∷ ds) t e = latest_is x ds t (skipped (same_name x n) (Some (scopes.routine_meaning r)) (find x ds) t refl e)
latest_is x ((n, scopes.standard_meaning q) ∷ ds) t e = latest_is x ds t (skipped (same_name x n) (Some (scopes.standard_meaning q)) (find x ds) t refl e)

module _ (tokens : Tokens) where
  pub record KindOf (ss : Shapes) (t : Ty) (v : ValueType) : Type 0 where
    pub belongs : TypeIs (W tokens ss) t v
    pub standing : is_standing t ≡ true

  kind_meant : (ss : Shapes) (v : ValueType) (x : Name) (m : scopes.Scope) (o : Option scopes.Meaning) → find x m ≡ o → KindIs (W tokens ss) v o → IsFit o → KindOf ss (meant.type_named m x) v
  kind_meant ss v x m (Some (scopes.type_meaning t)) e h f = subst (λ (q : Ty). KindOf ss q v) (sym (latest_is x m t e)) (record { belongs = h; standing = f })
  kind_meant ss v x m _ e h f = absurd h

  found_kind : (at : ℕ) (s : Scopes) (m : scopes.Scope) (x : Name) (o : Option (Option Meaning)) → IsKnown tokens s m x o → Good (KindOf s.shapes (meant.type_named m x)) (names.check_visible at o >>= typing.to_type at)
  found_kind at s m x (Some None) h = absurd h
  found_kind at s m x (Some (Some (meaning.Kind v))) h = kind_meant s.shapes v x m (find x m) refl h.means h.fit
  found_kind at s m x _ h = tt

  pub type_named : (s : Scopes) (m : scopes.Scope) (at : ℕ) (x : Name) → IsKnown tokens s m x (look x s) → Good (KindOf s.shapes (meant.type_named m x)) (typing.type_named s at x)
  unfolding typing.type_named names.visible
  type_named s m at x h = found_kind at s m x (look x s) h

  outer_kind : (at : ℕ) (s : Scopes) (m below : scopes.Scope) (x : Name) (o : Option (Option Meaning)) → meant.type_named below x ≡ meant.type_named m x → IsTypeKnown tokens s below x o → Good (KindOf s.shapes (meant.type_named m x)) (names.check_visible at o >>= typing.to_type at)
  outer_kind at s m below x (Some None) e h = absurd h
  outer_kind at s m below x (Some (Some (meaning.Kind v))) e h = subst (λ (t : Ty). KindOf s.shapes t v) e (record { belongs = h.0; standing = h.1 })
  outer_kind at s m below x _ e h = tt

  stacked_kind : (at : ℕ) (s : Scopes) (m below : scopes.Scope) (x : Name) (o q : Option (Option Meaning)) → IsStacked tokens s m below x o → IsTypeKnown tokens s below x q → Good (KindOf s.shapes (meant.type_named m x)) (names.check_visible at (or_else o q) >>= typing.to_type at)
  stacked_kind at s m below x None q h g = outer_kind at s m below x q h.latest g
  stacked_kind at s m below x (Some None) q h g = absurd h
  stacked_kind at s m below x (Some (Some c)) q h g = found_kind at s m x (Some (Some c)) h

  -- in a heading too, where the name of its routine is passed over
  pub type_seen : (p : Program) (b : Bool) (but : Option Name) (s : Scopes) (m below : scopes.Scope) (ks : List ℕ) (at : ℕ) (x : Name) → Agree tokens p b but s m below ks → Good (KindOf s.shapes (meant.type_named m x)) (typing.type_named s at x)
  unfolding typing.type_named names.visible
  type_seen p b None s m below ks at x h = found_kind at s m x (look x s) (sees tokens p b None s m below ks h x tt)
  type_seen p b (Some n) s m below ks at x h = go (bytes_eq x n) refl
    where
      go : (c : Bool) → bytes_eq x n ≡ c → Good (KindOf s.shapes (meant.type_named m x)) (names.check_visible at (look x s) >>= typing.to_type at)
      go false e = found_kind at s m x (look x s) (sees tokens p b (Some n) s m below ks h x e)
      go true e =
          subst (λ o. Good (KindOf s.shapes (meant.type_named m x)) (names.check_visible at o >>= typing.to_type at)) (sym (look_is x s h.unsealed))
          (stacked_kind at s m below x (inner_look false s x) (look_outer x s.outer) (h.names x) (subst (λ (y : Name). IsTypeKnown tokens s below y (look_outer y s.outer)) (sym (is_itself x n e)) h.own))

  -- what a name stands for that is visible outside
  pub known_type : (s t : Scopes) (m : scopes.Scope) (x : Name) (o : Option (Option Meaning)) → t.shapes ≡ s.shapes → IsKnown tokens s m x o → IsTypeKnown tokens t m x o
  known_type s t m x (Some None) e h = h
  known_type s t m x (Some (Some (meaning.Kind v))) e h =
      let k : KindOf s.shapes (meant.type_named m x) v = kind_meant s.shapes v x m (find x m) refl h.means h.fit in
      (subst (λ ss. TypeIs (W tokens ss) (meant.type_named m x) v) (sym e) k.belongs, k.standing)
  known_type s t m x _ e h = tt

  -- of which kind the component is, or those of an array
  abbrev pub OwnedAt : Spot → Ty → Type 0
  OwnedAt p (named.component_of n) = MayOwn p (tokens.kinds n)
  OwnedAt p (named.array_over r (named.component_of n)) = MayOwn p (tokens.kinds n)
  OwnedAt p t = Unit {0}

  -- what it is, and what it holds
  pub record TypedAs (ss : Shapes) (p : Spot) (t : Ty) (v : ValueType) : Type 0 where
    pub belongs : TypeIs (W tokens ss) t v
    pub stands : StandsAt p t
    pub owned : OwnedAt p t

  pub array_owned : (ss : Shapes) (p : Spot) (r : named.Range) (t : Ty) (v : ValueType) → TypeIs (W tokens ss) t v → MayHold p (typing.holding_array v) → OwnedAt p (named.array_over r t)
  array_owned ss p r (named.component_of n) v h may = subst (MayOwn p) h.own (subst (λ (u : ValueType). MayHold p (typing.holding_array u)) h.is may)
  array_owned ss p r _ v h may = tt

  named_owned : (s : Scopes) (p : Spot) (t : Ty) (v : ValueType) → TypeIs (W tokens s.shapes) t v → MayHold p (typing.holding s v) → OwnedAt p t
  named_owned s p (named.component_of n) v h may = subst (MayOwn p) h.own (subst (λ (u : ValueType). MayHold p (typing.holding s u)) h.is may)
  named_owned s p (named.array_over r t) v h may = array_owned s.shapes p r t h.shape.element h.belongs (subst (λ o. MayHold p (typing.holding_of o)) h.there (subst (λ (u : ValueType). MayHold p (typing.holding s u)) h.is may))
  named_owned s p _ v h may = tt

  spotted_kind : (s : Scopes) (p : Spot) (at : ℕ) (t : Ty) (v : ValueType) → KindOf s.shapes t v → Good (TypedAs s.shapes p t) (typing.at_spot s p at v)
  spotted_kind s p at t v h =
      good_of (typing.at_spot s p at v) (spotted_stands at p (typing.holding s v) v t (held_named (W tokens s.shapes) s t v refl h.belongs h.standing))
    where
      good_of : (j : Judged ValueType) → Good (λ u. (u ≡ v) × StandsAt p t × MayHold p (typing.holding s v)) j → Good (TypedAs s.shapes p t) j
      good_of (Ok u) g = record { belongs = subst (TypeIs (W tokens s.shapes) t) (sym g.0) h.belongs; stands = g.1; owned = named_owned s p t v h.belongs g.2 }
      good_of (Err []) g = absurd g
      good_of (Err (f ∷ fs)) g = tt

  pub type_spotted : (s : Scopes) (m : scopes.Scope) (p : Spot) (at : ℕ) (x : Name) → IsKnown tokens s m x (look x s) → Good (TypedAs s.shapes p (meant.type_named m x)) (typing.type_at_spot s p at x)
  unfolding typing.type_at_spot
  type_spotted s m p at x h = good_then (KindOf s.shapes (meant.type_named m x)) (TypedAs s.shapes p (meant.type_named m x)) (typing.type_named s at x) (typing.at_spot s p at) (type_named s m at x h) (λ v k. spotted_kind s p at (meant.type_named m x) v k)

  -- ---- subranges

  in_order : (a c : ℤ) → int_lt c a ≡ false → int_le a c ≡ true
  in_order a c h = search (arith, h)

  ranged_typed : (ss : Shapes) (at : ℕ) (p : Spot) (q r : named.Base × ℤ) (n k : ConstantNumber) → NumberIs tokens q n → NumberIs tokens r k → Good (TypedAs ss p (named.ordinal (record { base = q.0; low = q.1; high = r.1 }))) (typing.subrange_type at (n, k))
  ranged_typed ss at p q r n k h g = go (same_base n.base k.base) refl
    where
      R : named.Range
      R = record { base = q.0; low = q.1; high = r.1 }

      high_within : same_base n.base k.base ≡ true → is_within (range_of_base q.0) r.1 ≡ true
      high_within e = subst (λ (c : named.Base). is_within (range_of_base c) r.1 ≡ true) (sym (base_same tokens q.0 r.0 n.base k.base h.base g.base e)) g.within

      bounded : same_base n.base k.base ≡ true → int_lt k.value n.value ≡ false → is_bounded R ≡ true
      bounded e f =
          ap (λ b. b && (is_within (range_of_base q.0) r.1 && int_le q.1 r.1)) h.within ∙ ap (λ b. b && int_le q.1 r.1) (high_within e) ∙ ap (λ z. int_le z r.1) (sym h.value) ∙ ap (λ z. int_le n.value z) (sym g.value) ∙ in_order n.value k.value f

      inner : (b : Bool) → int_lt k.value n.value ≡ b → same_base n.base k.base ≡ true → Good (TypedAs ss p (named.ordinal R)) (if b then Err (check_fault.Rule at C18 ∷ []) else Ok (types.Ordinal (record { base = n.base; low = n.value; high = k.value })))
      inner true f e = tt
      inner false f e =
          record {
            belongs = record { range = record { base = n.base; low = n.value; high = k.value }; is = refl; belongs = record { base = h.base; low = h.value; high = g.value } };
            stands = stands_free p (named.ordinal R) (bounded e f);
            owned = tt;
          }

      go : (b : Bool) → same_base n.base k.base ≡ b → Good (TypedAs ss p (named.ordinal R)) (if b then (if int_lt k.value n.value then Err (check_fault.Rule at C18 ∷ []) else Ok (types.Ordinal (record { base = n.base; low = n.value; high = k.value }))) else Err (check_fault.Rule at C5 ∷ []))
      go true e = inner (int_lt k.value n.value) refl e
      go false e = tt

  pub subrange_typed : (s : Scopes) (m : scopes.Scope) (p : Spot) (at : ℕ) (c d : Constant) → IsSmallSimple (syntax.subrange at c d) → ((x : Name) → IsKnown tokens s m x (look x s)) →
      Good (TypedAs s.shapes p (meant.simple_in m (syntax.subrange at c d)).0) (both (constant s c) (constant s d) >>= typing.subrange_type at)
  subrange_typed s m p at c d h k =
      good_then (λ (q : ConstantNumber × ConstantNumber). NumberIs tokens (meant.constant_of m c) q.0 × NumberIs tokens (meant.constant_of m d) q.1) (TypedAs s.shapes p (meant.simple_in m (syntax.subrange at c d)).0) (both (constant s c) (constant s d)) (typing.subrange_type at)
      (good_both (NumberIs tokens (meant.constant_of m c)) (NumberIs tokens (meant.constant_of m d)) (constant s c) (constant s d) (constant_number_of tokens s m c h.0 k) (constant_number_of tokens s m d h.1 k))
      (λ q g. ranged_typed s.shapes at p (meant.constant_of m c) (meant.constant_of m d) q.0 q.1 g.0 g.1)
