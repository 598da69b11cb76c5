-- What fits a parameter, or agrees with a variable, has the form that its type wants.
use Rattle.std.proofs.Common.{◌≡◌, ℕ, ℤ, true, false, ◌&&◌, Option, Some, None, refl, sym, ap, subst, ◌∙◌}
use Rattle.std.specs.Ordering.{int_eq}
use Rattle.std.proofs.lemmas.Bool.Decides.{Decides-eqb, Decides-int_eq}
use Rattle.cp_resolved.proofs.Words.{SystemKind, Range, ValueType, Ty, range_of, Form, as_ordinal, as_place, as_component, Formed}
use Rattle.cp_scope.specs.declared.types.ValueType.TheVariants as types
use Rattle.cp_scope.specs.Types.{agree, same, same_base, same_range}
use Rattle.cp_slots.specs.Code as code
use Rattle.cp_meaning.specs.Types as named
use Rattle.cp_resolved.specs.Typed.{Written, RangeIs, TypeIs, is_plain, FormIs, Expressed}
use Rattle.cp_resolved.proofs.agreeing.AgreeingConstants.{base_same}
use Rattle.cp_resolved.proofs.agreeing.AgreeingTypes.{IsOrdinal, ordinal_of}
use Rattle.cp_resolved.proofs.agreeing.SameTypes.{type_same}
use Rattle.cp_resolved.proofs.forms.Typing.{formed, OrdinalForm, ordinal_found, SetForm, set_found}
use Rattle.cp_resolved.proofs.frames.LeastCells.{right_true as second_true}
use Rattle.cp_resolved.proofs.counts.FewCells.{left_of as first_true}

-- ---- types that agree

same_integer : (a b : ℤ) → int_eq a b ≡ true → a ≡ b
same_integer a b e = (Decides-int_eq a b).0 e

module _ (w : Written) where
  record IsSetOver (t : Ty) (r : Range) : Type 0 where
    pub range : named.Range
    pub is : t ≡ named.set_over range
    pub belongs : RangeIs w.tokens range r

  set_of : (t : Ty) (r : Range) → TypeIs w t (types.Set (Some r)) → IsSetOver t r
  set_of (named.set_over q) r h = record { range = q; is = refl; belongs = subst (RangeIs w.tokens q) (sym (one r h.range h.is)) h.belongs }
    where
      one : (a b : Range) → types.Set (Some a) ≡ types.Set (Some b) → a ≡ b
      one a b e = cc
  set_of (named.ordinal q) r h = absurd (let bad : types.Set (Some r) ≡ types.Ordinal h.range = h.is in cc)
  set_of named.queue_type r h = absurd (let bad : types.Set (Some r) ≡ types.Queue = h in cc)
  set_of (named.array_over q t) r h = absurd (let bad : types.Set (Some r) ≡ types.Array h.token = h.is in cc)
  set_of (named.record_with ts) r h = absurd (let bad : types.Set (Some r) ≡ types.Record h.token = h.is in cc)
  set_of (named.component_of n) r h = absurd (let bad : types.Set (Some r) ≡ types.Component h.kind (w.tokens.systems n) = h.is in cc)

  no_open_set : (t : Ty) → TypeIs w t (types.Set None) → ⊥
  no_open_set (named.set_over q) h = (let bad : types.Set None ≡ types.Set (Some h.range) = h.is in cc)
  no_open_set (named.ordinal q) h = (let bad : types.Set None ≡ types.Ordinal h.range = h.is in cc)
  no_open_set named.queue_type h = (let bad : types.Set None ≡ types.Queue = h in cc)
  no_open_set (named.array_over q t) h = (let bad : types.Set None ≡ types.Array h.token = h.is in cc)
  no_open_set (named.record_with ts) h = (let bad : types.Set None ≡ types.Record h.token = h.is in cc)
  no_open_set (named.component_of n) h = (let bad : types.Set None ≡ types.Component h.kind (w.tokens.systems n) = h.is in cc)

  plain_component : (t : Ty) (k : SystemKind) (n : ℕ) → TypeIs w t (types.Component k n) → is_plain t ≡ true → ⊥
  plain_component (named.component_of j) k n h p = cc
  plain_component (named.ordinal q) k n h p = (let bad : types.Component k n ≡ types.Ordinal h.range = h.is in cc)
  plain_component named.queue_type k n h p = (let bad : types.Component k n ≡ types.Queue = h in cc)
  plain_component (named.set_over q) k n h p = (let bad : types.Component k n ≡ types.Set (Some h.range) = h.is in cc)
  plain_component (named.array_over q t) k n h p = (let bad : types.Component k n ≡ types.Array h.token = h.is in cc)
  plain_component (named.record_with ts) k n h p = (let bad : types.Component k n ≡ types.Record h.token = h.is in cc)

  ranges_same : (q p : named.Range) (a b : Range) → RangeIs w.tokens q a → RangeIs w.tokens p b → same_range a b ≡ true → q ≡ p
  ranges_same q p a b h g e =
      let lower : (same_base a.base b.base && int_eq a.low b.low) ≡ true = first_true (same_base a.base b.base && int_eq a.low b.low) (int_eq a.high b.high) e in
      let base : same_base a.base b.base ≡ true = first_true (same_base a.base b.base) (int_eq a.low b.low) lower in
      let one : q.base ≡ p.base = base_same w.tokens q.base p.base a.base b.base h.base g.base base in
      let low : q.low ≡ p.low = sym h.low ∙ same_integer a.low b.low (second_true (same_base a.base b.base) (int_eq a.low b.low) lower) ∙ g.low in
      let high : q.high ≡ p.high = sym h.high ∙ same_integer a.high b.high (second_true (same_base a.base b.base && int_eq a.low b.low) (int_eq a.high b.high) e) ∙ g.high in
      ap (λ b. range_with b q.low q.high) one ∙ ap (λ z. range_with p.base z q.high) low ∙ ap (range_with p.base p.low) high
    where
      range_with : named.Base → ℤ → ℤ → named.Range
      range_with b l u = record { base = b; low = l; high = u }

  -- the checker's types are one
  pub types_same : (t u : Ty) (v y : ValueType) → TypeIs w t v → TypeIs w u y → is_plain t ≡ true → is_plain u ≡ true → same v y ≡ true → t ≡ u
  types_same t u (types.Ordinal a) (types.Ordinal b) h g m n e =
      let x : IsOrdinal w t a = ordinal_of w t a h in
      let z : IsOrdinal w u b = ordinal_of w u b g in
      x.is ∙ ap named.ordinal (ranges_same (range_of t) (range_of u) a b x.range z.range e) ∙ sym z.is
  types_same t u types.Queue types.Queue h g m n e = type_same w t u types.Queue h g
  types_same t u (types.Set (Some a)) (types.Set (Some b)) h g m n e =
      let x : IsSetOver t a = set_of t a h in
      let z : IsSetOver u b = set_of u b g in
      x.is ∙ ap named.set_over (ranges_same x.range z.range a b x.belongs z.belongs e) ∙ sym z.is
  types_same t u (types.Set None) y h g m n e = absurd (no_open_set t h)
  types_same t u (types.Set (Some a)) (types.Set None) h g m n e = absurd (no_open_set u g)
  types_same t u (types.Array j) (types.Array k) h g m n e = type_same w t u (types.Array j) h (subst (λ i. TypeIs w u (types.Array i)) (sym ((Decides-eqb j k).0 e)) g)
  types_same t u (types.Record j) (types.Record k) h g m n e = type_same w t u (types.Record j) h (subst (λ i. TypeIs w u (types.Record i)) (sym ((Decides-eqb j k).0 e)) g)
  types_same t u (types.Component i j) y h g m n e = absurd (plain_component t i j h m)
  types_same t u x y h g m n e = absurd (cc)

  -- ---- the form that a type wants

  pub record PlaceFits (t : Ty) (f : Option Formed) : Type 0 where
    pub place : code.Place
    pub is : f ≡ Some (formed t (as_place place))

  pub record ComponentFits (n : ℕ) (f : Option Formed) : Type 0 where
    pub part : code.ComponentPlace
    pub is : f ≡ Some (formed (named.component_of n) (as_component part))

  pub record OrdinalFits (f : Option Formed) : Type 0 where
    pub ty : Ty
    pub code : code.OrdinalExpression
    pub is : f ≡ Some (formed ty (as_ordinal code))

  abbrev pub Fits : Ty → Option Formed → Type 0
  Fits (named.ordinal r) f = OrdinalFits f
  Fits named.queue_type f = Unit {0}
  Fits (named.set_over r) f = SetForm f
  Fits (named.array_over r t) f = PlaceFits (named.array_over r t) f
  Fits (named.record_with ts) f = PlaceFits (named.record_with ts) f
  Fits (named.component_of n) f = ComponentFits n f

  -- no component is in it, or it is one
  abbrev pub IsWhole : Ty → Type 0
  IsWhole (named.component_of n) = Unit {0}
  IsWhole t = is_plain t ≡ true

  ordinal_fits : (a : Range) (u : ValueType) (f : Option Formed) → agree (types.Ordinal a) u ≡ true → Expressed w u f → OrdinalFits f
  ordinal_fits a (types.Ordinal b) f e x = (let o : OrdinalForm w.tokens b f = ordinal_found w b f x in record { ty = named.ordinal o.range; code = o.code; is = o.is })
  ordinal_fits a y f e x = absurd (cc)

  set_fits : (a : Range) (u : ValueType) (f : Option Formed) → agree (types.Set (Some a)) u ≡ true → Expressed w u f → SetForm f
  set_fits a (types.Set b) f e x = set_found w b f x
  set_fits a y f e x = absurd (cc)

  -- the value of an array or record
  same_place : (t u : Ty) (f : Form) (p : code.Place) → u ≡ t → f ≡ as_place p → PlaceFits t (Some (formed u f))
  same_place t u f p e i = record { place = p; is = ap (λ (z : Ty). Some (formed z f)) e ∙ ap (λ (z : Form). Some (formed t z)) i }

  array_placed : (t : Ty) (n : ℕ) (u : Ty) (f : Form) → TypeIs w t (types.Array n) → FormIs w (types.Array n) u f → PlaceFits t (Some (formed u f))
  array_placed t n (named.array_over q y) f h x = same_place t (named.array_over q y) f x.0 (type_same w (named.array_over q y) t (types.Array n) x.2 h) x.1
  array_placed t n (named.record_with ts) f h x = same_place t (named.record_with ts) f x.0 (type_same w (named.record_with ts) t (types.Array n) x.2 h) x.1
  array_placed t n named.queue_type f h x = same_place t named.queue_type f x.0 (type_same w named.queue_type t (types.Array n) x.2 h) x.1
  array_placed t n (named.ordinal q) f h x = absurd (let bad : types.Array n ≡ types.Ordinal x.2.range = x.2.is in cc)
  array_placed t n (named.set_over q) f h x = absurd (let bad : types.Array n ≡ types.Set x.2.0 = x.2.1 in cc)
  array_placed t n (named.component_of k) f h x = absurd (let bad : types.Array n ≡ types.Component x.2.kind (w.tokens.systems k) = x.2.is in cc)

  record_placed : (t : Ty) (n : ℕ) (u : Ty) (f : Form) → TypeIs w t (types.Record n) → FormIs w (types.Record n) u f → PlaceFits t (Some (formed u f))
  record_placed t n (named.array_over q y) f h x = same_place t (named.array_over q y) f x.0 (type_same w (named.array_over q y) t (types.Record n) x.2 h) x.1
  record_placed t n (named.record_with ts) f h x = same_place t (named.record_with ts) f x.0 (type_same w (named.record_with ts) t (types.Record n) x.2 h) x.1
  record_placed t n named.queue_type f h x = same_place t named.queue_type f x.0 (type_same w named.queue_type t (types.Record n) x.2 h) x.1
  record_placed t n (named.ordinal q) f h x = absurd (let bad : types.Record n ≡ types.Ordinal x.2.range = x.2.is in cc)
  record_placed t n (named.set_over q) f h x = absurd (let bad : types.Record n ≡ types.Set x.2.0 = x.2.1 in cc)
  record_placed t n (named.component_of k) f h x = absurd (let bad : types.Record n ≡ types.Component x.2.kind (w.tokens.systems k) = x.2.is in cc)

  plain_element : (t : Ty) (r : named.Range) (k : ℕ) → t ≡ named.array_over r (named.component_of k) → is_plain t ≡ true → ⊥
  plain_element t r k e p = (let bad : false ≡ true = sym (ap is_plain e) ∙ p in cc)

  array_fits : (t : Ty) (n : ℕ) (f : Option Formed) → TypeIs w t (types.Array n) → is_plain t ≡ true → Expressed w (types.Array n) f → PlaceFits t f
  array_fits t n (Some x) h p e = array_placed t n x.ty x.form h e
  array_fits t n None h p e = absurd (plain_element t e.range e.system (type_same w t (named.array_over e.range (named.component_of e.system)) (types.Array n) h e.belongs) p)

  record_fits : (t : Ty) (n : ℕ) (f : Option Formed) → TypeIs w t (types.Record n) → Expressed w (types.Record n) f → PlaceFits t f
  record_fits t n (Some x) h e = record_placed t n x.ty x.form h e
  record_fits t n None h e = absurd (let bad : types.Record n ≡ types.Array e.belongs.token = e.belongs.is in cc)

  -- a component
  component_token : (i j : SystemKind) (n k : ℕ) → types.Component i n ≡ types.Component j k → n ≡ k
  component_token i j n k e = cc

  component_placed : (i : SystemKind) (n m : ℕ) (u : Ty) (f : Form) → ((k : ℕ) → w.tokens.systems k ≡ w.tokens.systems n → k ≡ n) → m ≡ w.tokens.systems n → FormIs w (types.Component i m) u f → ComponentFits n (Some (formed u f))
  component_placed i n m (named.component_of k) f only e x =
      let one : k ≡ n = only k (component_token x.2.kind i (w.tokens.systems k) m (sym x.2.is) ∙ e) in
      record { part = x.0; is = ap (λ (z : ℕ). Some (formed (named.component_of z) f)) one ∙ ap (λ (z : Form). Some (formed (named.component_of n) z)) x.1 }
  component_placed i n m (named.array_over q y) f only e x = absurd (let bad : types.Component i m ≡ types.Array x.2.token = x.2.is in cc)
  component_placed i n m (named.record_with ts) f only e x = absurd (let bad : types.Component i m ≡ types.Record x.2.token = x.2.is in cc)
  component_placed i n m named.queue_type f only e x = absurd (let bad : types.Component i m ≡ types.Queue = x.2 in cc)
  component_placed i n m (named.ordinal q) f only e x = absurd (let bad : types.Component i m ≡ types.Ordinal x.2.range = x.2.is in cc)
  component_placed i n m (named.set_over q) f only e x = absurd (let bad : types.Component i m ≡ types.Set x.2.0 = x.2.1 in cc)

  component_found : (i : SystemKind) (n m : ℕ) (f : Option Formed) → ((k : ℕ) → w.tokens.systems k ≡ w.tokens.systems n → k ≡ n) → m ≡ w.tokens.systems n → Expressed w (types.Component i m) f → ComponentFits n f
  component_found i n m (Some x) only e h = component_placed i n m x.ty x.form only e h
  component_found i n m None only e h = absurd (let bad : types.Component i m ≡ types.Array h.belongs.token = h.belongs.is in cc)

  component_fits : (kind : SystemKind) (n : ℕ) (u : ValueType) (f : Option Formed) → ((k : ℕ) → w.tokens.systems k ≡ w.tokens.systems n → k ≡ n) → agree (types.Component kind (w.tokens.systems n)) u ≡ true → Expressed w u f → ComponentFits n f
  component_fits kind n (types.Component i m) f only e x = component_found i n m f only (sym ((Decides-eqb (w.tokens.systems n) m).0 e)) x
  component_fits kind n y f only e x = absurd (cc)

  agree_array : (t : Ty) (n : ℕ) (u : ValueType) (f : Option Formed) → TypeIs w t (types.Array n) → is_plain t ≡ true → agree (types.Array n) u ≡ true → Expressed w u f → PlaceFits t f
  agree_array t n (types.Array m) f h p e x = array_fits t m f (subst (λ i. TypeIs w t (types.Array i)) ((Decides-eqb n m).0 e) h) p x
  agree_array t n y f h p e x = absurd (cc)

  agree_record : (t : Ty) (n : ℕ) (u : ValueType) (f : Option Formed) → TypeIs w t (types.Record n) → agree (types.Record n) u ≡ true → Expressed w u f → PlaceFits t f
  agree_record t n (types.Record m) f h e x = record_fits t m f (subst (λ i. TypeIs w t (types.Record i)) ((Decides-eqb n m).0 e) h) x
  agree_record t n y f h e x = absurd (cc)

  -- a value that agrees with what has the type
  pub fitting : (t : Ty) (v u : ValueType) (f : Option Formed) → TypeIs w t v → IsWhole t → agree v u ≡ true → Expressed w u f → Fits t f
  fitting (named.ordinal r) v u f h p e x = ordinal_fits h.range u f (subst (λ z. agree z u ≡ true) h.is e) x
  fitting named.queue_type v u f h p e x = tt
  fitting (named.set_over r) v u f h p e x = set_fits h.range u f (subst (λ z. agree z u ≡ true) h.is e) x
  fitting (named.array_over r t) v u f h p e x = agree_array (named.array_over r t) h.token u f (subst (TypeIs w (named.array_over r t)) h.is h) p (subst (λ z. agree z u ≡ true) h.is e) x
  fitting (named.record_with ts) v u f h p e x = agree_record (named.record_with ts) h.token u f (subst (TypeIs w (named.record_with ts)) h.is h) (subst (λ z. agree z u ≡ true) h.is e) x
  fitting (named.component_of n) v u f h p e x = component_fits h.kind n u f h.only (subst (λ z. agree z u ≡ true) h.is e) x
