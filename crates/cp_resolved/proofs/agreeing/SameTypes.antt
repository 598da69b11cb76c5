-- Types of the language that the checker has as one are one.
use Rattle.cp_resolved.proofs.Words.{◌≡◌, true, [], ◌∷◌, Option, Some, ℕ, ℤ, refl, sym, ap, subst, ◌∙◌, SystemKind, Range, ValueType, Meaning, ArrayShape}
use Rattle.cp_resolved.proofs.Words.{same_base, Name, Ty, FieldTypes, cells_in}
use Rattle.cp_scope.specs.declared.types.Base as check_base
use Rattle.cp_scope.specs.declared.types.Base.TheVariants as base
use Rattle.cp_scope.specs.declared.types.ValueType.TheVariants as types
use Rattle.cp_scope.specs.declared.types.Meaning.TheVariants as meaning
use Rattle.cp_scope.specs.Scopes.{Names, Scope, record_shape, shape_in, as_array}
use Rattle.cp_meaning.specs.Types as named
use Rattle.cp_resolved.specs.Typed.{Tokens, Written, BaseIs, RangeIs, TypeIs, FieldsAre}
use Rattle.cp_resolved.proofs.agreeing.Agreeing.{same_number}
use Rattle.cp_resolved.proofs.agreeing.AgreeingConstants.{base_same}
use Rattle.cp_resolved.proofs.names.Alike.{same_inside as some_same}
use Rattle.cp_resolved.proofs.forms.Typing.{same_range as ordinal_range}

itself : (b : check_base.Base) → same_base b b ≡ true
itself (base.Enumeration n z) = same_number n
itself _ = refl

pub range_same : (k : Tokens) (q p : named.Range) (r s : Range) → r ≡ s → RangeIs k q r → RangeIs k p s → q ≡ p
range_same k q p r s e h g =
    let base : q.base ≡ p.base = base_same k q.base p.base r.base r.base h.base (subst (λ (x : Range). BaseIs k p.base x.base) (sym e) g.base) (itself r.base) in
    let low : q.low ≡ p.low = sym h.low ∙ ap (λ (x : Range). x.low) e ∙ g.low in
    let high : q.high ≡ p.high = sym h.high ∙ ap (λ (x : Range). x.high) e ∙ g.high in
    ap (λ b. range_of b q.low q.high) base ∙ ap (λ z. range_of p.base z q.high) low ∙ ap (range_of p.base p.low) high
  where
    range_of : named.Base → ℤ → ℤ → named.Range
    range_of b l u = record { base = b; low = l; high = u }

set_range : (r s : Range) → types.Set (Some r) ≡ types.Set (Some s) → r ≡ s
set_range r s e = cc

array_token : (n k : ℕ) → types.Array n ≡ types.Array k → n ≡ k
array_token n k e = cc

component_token : (i j : SystemKind) (n k : ℕ) → types.Component i n ≡ types.Component j k → n ≡ k
component_token i j n k e = cc

record_token : (n k : ℕ) → types.Record n ≡ types.Record k → n ≡ k
record_token n k e = cc

record_fields : (f g : Scope) (n k : ℕ) → Some (record_shape f n) ≡ Some (record_shape g k) → f ≡ g
record_fields f g n k e = cc

abbrev head_name : Names → Name
head_name [] = []
head_name (d ∷ ds) = d.0

abbrev type_or : ValueType → Option Meaning → ValueType
type_or v (Some (meaning.Variable u)) = u
type_or v o = v

abbrev head_type : ValueType → Names → ValueType
head_type v [] = v
head_type v (d ∷ ds) = type_or v d.1

field_name : (x y : Name) (v u : ValueType) (ds es : Names) → (x, Some (meaning.Variable v)) ∷ ds ≡ (y, Some (meaning.Variable u)) ∷ es → x ≡ y
field_name x y v u ds es e = ap head_name e

field_type : (x y : Name) (v u : ValueType) (ds es : Names) → (x, Some (meaning.Variable v)) ∷ ds ≡ (y, Some (meaning.Variable u)) ∷ es → v ≡ u
field_type x y v u ds es e = ap (head_type v) e

field_rest : (x y : Name) (v u : ValueType) (ds es : Names) → (x, Some (meaning.Variable v)) ∷ ds ≡ (y, Some (meaning.Variable u)) ∷ es → ds ≡ es
field_rest x y v u ds es e = cc

mutual
  pub type_same : (w : Written) (t u : Ty) (v : ValueType) → TypeIs w t v → TypeIs w u v → t ≡ u
  type_same w (named.ordinal q) (named.ordinal p) v h g = ap named.ordinal (range_same w.tokens q p h.range g.range (ordinal_range h.range g.range (sym h.is ∙ g.is)) h.belongs g.belongs)
  type_same w (named.ordinal q) named.queue_type v h g = absurd (let bad : types.Ordinal h.range ≡ types.Queue = sym h.is ∙ g in cc)
  type_same w (named.ordinal q) (named.set_over p) v h g = absurd (let bad : types.Ordinal h.range ≡ types.Set (Some g.range) = sym h.is ∙ g.is in cc)
  type_same w (named.ordinal q) (named.array_over p u) v h g = absurd (let bad : types.Ordinal h.range ≡ types.Array g.token = sym h.is ∙ g.is in cc)
  type_same w (named.ordinal q) (named.record_with us) v h g = absurd (let bad : types.Ordinal h.range ≡ types.Record g.token = sym h.is ∙ g.is in cc)
  type_same w (named.ordinal q) (named.component_of k) v h g = absurd (let bad : types.Ordinal h.range ≡ types.Component g.kind (w.tokens.systems k) = sym h.is ∙ g.is in cc)
  type_same w named.queue_type (named.ordinal p) v h g = absurd (let bad : types.Queue ≡ types.Ordinal g.range = sym h ∙ g.is in cc)
  type_same w named.queue_type named.queue_type v h g = refl
  type_same w named.queue_type (named.set_over p) v h g = absurd (let bad : types.Queue ≡ types.Set (Some g.range) = sym h ∙ g.is in cc)
  type_same w named.queue_type (named.array_over p u) v h g = absurd (let bad : types.Queue ≡ types.Array g.token = sym h ∙ g.is in cc)
  type_same w named.queue_type (named.record_with us) v h g = absurd (let bad : types.Queue ≡ types.Record g.token = sym h ∙ g.is in cc)
  type_same w named.queue_type (named.component_of k) v h g = absurd (let bad : types.Queue ≡ types.Component g.kind (w.tokens.systems k) = sym h ∙ g.is in cc)
  type_same w (named.set_over q) (named.ordinal p) v h g = absurd (let bad : types.Set (Some h.range) ≡ types.Ordinal g.range = sym h.is ∙ g.is in cc)
  type_same w (named.set_over q) named.queue_type v h g = absurd (let bad : types.Set (Some h.range) ≡ types.Queue = sym h.is ∙ g in cc)
  type_same w (named.set_over q) (named.set_over p) v h g = ap named.set_over (range_same w.tokens q p h.range g.range (set_range h.range g.range (sym h.is ∙ g.is)) h.belongs g.belongs)
  type_same w (named.set_over q) (named.array_over p u) v h g = absurd (let bad : types.Set (Some h.range) ≡ types.Array g.token = sym h.is ∙ g.is in cc)
  type_same w (named.set_over q) (named.record_with us) v h g = absurd (let bad : types.Set (Some h.range) ≡ types.Record g.token = sym h.is ∙ g.is in cc)
  type_same w (named.set_over q) (named.component_of k) v h g = absurd (let bad : types.Set (Some h.range) ≡ types.Component g.kind (w.tokens.systems k) = sym h.is ∙ g.is in cc)
  type_same w (named.array_over q t) (named.ordinal p) v h g = absurd (let bad : types.Array h.token ≡ types.Ordinal g.range = sym h.is ∙ g.is in cc)
  type_same w (named.array_over q t) named.queue_type v h g = absurd (let bad : types.Array h.token ≡ types.Queue = sym h.is ∙ g in cc)
  type_same w (named.array_over q t) (named.set_over p) v h g = absurd (let bad : types.Array h.token ≡ types.Set (Some g.range) = sym h.is ∙ g.is in cc)
  type_same w (named.array_over q t) (named.array_over p u) v h g =
      let one : h.shape ≡ g.shape = some_same h.shape g.shape (sym h.there ∙ ap (λ k. as_array (shape_in k w.shapes)) (array_token h.token g.token (sym h.is ∙ g.is)) ∙ g.there) in
      ap (λ r. named.array_over r t) (range_same w.tokens q p h.shape.index g.shape.index (ap (λ (a : ArrayShape). a.index) one) h.range g.range)
      ∙ ap (named.array_over p) (type_same w t u h.shape.element h.belongs (subst (λ (a : ArrayShape). TypeIs w u a.element) (sym one) g.belongs))
  type_same w (named.array_over q t) (named.record_with us) v h g = absurd (let bad : types.Array h.token ≡ types.Record g.token = sym h.is ∙ g.is in cc)
  type_same w (named.array_over q t) (named.component_of k) v h g = absurd (let bad : types.Array h.token ≡ types.Component g.kind (w.tokens.systems k) = sym h.is ∙ g.is in cc)
  type_same w (named.record_with ts) (named.ordinal p) v h g = absurd (let bad : types.Record h.token ≡ types.Ordinal g.range = sym h.is ∙ g.is in cc)
  type_same w (named.record_with ts) named.queue_type v h g = absurd (let bad : types.Record h.token ≡ types.Queue = sym h.is ∙ g in cc)
  type_same w (named.record_with ts) (named.set_over p) v h g = absurd (let bad : types.Record h.token ≡ types.Set (Some g.range) = sym h.is ∙ g.is in cc)
  type_same w (named.record_with ts) (named.array_over p u) v h g = absurd (let bad : types.Record h.token ≡ types.Array g.token = sym h.is ∙ g.is in cc)
  type_same w (named.record_with ts) (named.record_with us) v h g =
      let one : h.fields ≡ g.fields = record_fields h.fields g.fields (cells_in ts) (cells_in us) (sym h.there ∙ ap (λ k. shape_in k w.shapes) (record_token h.token g.token (sym h.is ∙ g.is)) ∙ g.there) in
      ap named.record_with (fields_same w ts us h.fields.names h.each (subst (λ (f : Scope). FieldsAre w us f.names) (sym one) g.each))
  type_same w (named.record_with ts) (named.component_of k) v h g = absurd (let bad : types.Record h.token ≡ types.Component g.kind (w.tokens.systems k) = sym h.is ∙ g.is in cc)
  type_same w (named.component_of n) (named.ordinal p) v h g = absurd (let bad : types.Component h.kind (w.tokens.systems n) ≡ types.Ordinal g.range = sym h.is ∙ g.is in cc)
  type_same w (named.component_of n) named.queue_type v h g = absurd (let bad : types.Component h.kind (w.tokens.systems n) ≡ types.Queue = sym h.is ∙ g in cc)
  type_same w (named.component_of n) (named.set_over p) v h g = absurd (let bad : types.Component h.kind (w.tokens.systems n) ≡ types.Set (Some g.range) = sym h.is ∙ g.is in cc)
  type_same w (named.component_of n) (named.array_over p u) v h g = absurd (let bad : types.Component h.kind (w.tokens.systems n) ≡ types.Array g.token = sym h.is ∙ g.is in cc)
  type_same w (named.component_of n) (named.record_with us) v h g = absurd (let bad : types.Component h.kind (w.tokens.systems n) ≡ types.Record g.token = sym h.is ∙ g.is in cc)
  type_same w (named.component_of n) (named.component_of j) v h g = ap named.component_of (g.only n (component_token h.kind g.kind (w.tokens.systems n) (w.tokens.systems j) (sym h.is ∙ g.is)))

  fields_same : (w : Written) (ts us : FieldTypes) (ds : Names) → FieldsAre w ts ds → FieldsAre w us ds → ts ≡ us
  fields_same w named.no_field_types named.no_field_types ds h g = refl
  fields_same w (named.more_field_types x t ts) (named.more_field_types y u us) ds h g =
      let e = sym h.first ∙ g.first in
      let name : x ≡ y = field_name x y h.value_type g.value_type h.rest g.rest e in
      let one : t ≡ u = type_same w t u h.value_type h.belongs (subst (TypeIs w u) (sym (field_type x y h.value_type g.value_type h.rest g.rest e)) g.belongs) in
      let rest : ts ≡ us = fields_same w ts us h.rest h.others (subst (FieldsAre w us) (sym (field_rest x y h.value_type g.value_type h.rest g.rest e)) g.others) in
      ap (λ z. named.more_field_types z t ts) name ∙ ap (λ z. named.more_field_types y z ts) one ∙ ap (named.more_field_types y u) rest
  fields_same w named.no_field_types (named.more_field_types y u us) ds h g = absurd (let bad : [] ≡ (y, Some (meaning.Variable g.value_type)) ∷ g.rest = sym h ∙ g.first in cc)
  fields_same w (named.more_field_types x t ts) named.no_field_types ds h g = absurd (let bad : (x, Some (meaning.Variable h.value_type)) ∷ h.rest ≡ [] = sym h.first ∙ g in cc)
