-- An index of an array of components is written as the language means it.
use Rattle.std.proofs.Common.{◌≡◌, ℕ, ◌<◌, ◌≤◌, ℤ, pos, negsuc, Bool, true, false, ◌&&◌, List, ◌++◌, length, refl, ap, ◌∙◌, arith}
use Rattle.std.specs.Prelude.{◌+ℤ◌, neg_ℤ, int_le, min, if◌then◌else◌, codes, ◌-◌, slice_get}
use Rattle.std.specs.Fmt.{signed_decimal}
use Rattle.std.specs.Int.{saturate_signed, w16}
use Rattle.std.specs.Ordering.{int_eq}
use Rattle.cp_legend_laws.proofs.Words.{Name, is_bounded}
use Rattle.cp_symbols.specs.Kinds.{plus}
use Rattle.cp_meaning.specs.Types.{Base, integers, booleans, characters, enumerated, Range, natural_of, length_of_range, is_within}
use Rattle.cp_meaning.specs.Operations.{range_of_base}
use Rattle.cp_resolved.specs.InStep.{Numbering, base_of, range_on}
use Rattle.cp_legend.specs.Values.{character_text, constant_text, ordinal_text}
use Rattle.cp_legend.specs.Names as legend
use Rattle.cp_legend_laws.specs.Paths.{value_text, index_text}
use Rattle.cp_legend_laws.proofs.KnownConstants.{KnownBase}

pub both : (a b : Bool) → (a && b) ≡ true → (a ≡ true) × (b ≡ true)
both true true h = (refl, refl)
both true false h = absurd (let w : false ≡ true = h in cc)
both false b h = absurd (let w : false ≡ true = h in cc)

saturated : (z : ℤ) → int_le (negsuc 32767) z ≡ true → int_le z (pos 32767) ≡ true → saturate_signed w16 z ≡ z
saturated (pos n) l h =
    let le : n ≤ 32767 = search (arith, h) in
    let e : min n 32767 ≡ n = omega (arith, le) in
    ap pos e
saturated (negsuc n) l h =
    let le : n ≤ 32767 = search (arith, l) in
    let e : min n 32767 ≡ n = omega (arith, le) in
    ap negsuc e

-- so many after the first, where there are so many
between : (a b : ℤ) (i : ℕ) → i < natural_of ((b +ℤ neg_ℤ a) +ℤ pos 1) → int_le (a +ℤ pos i) b ≡ true
between a b i h = go ((b +ℤ neg_ℤ a) +ℤ pos 1) refl h
  where
    go : (z : ℤ) → (b +ℤ neg_ℤ a) +ℤ pos 1 ≡ z → i < natural_of z → int_le (a +ℤ pos i) b ≡ true
    go (pos n) e lt = search (arith, e, lt)
    go (negsuc n) e lt = absurd (omega (arith, lt))

after : (a b : ℤ) (i : ℕ) → int_le a b ≡ true → int_le a (b +ℤ pos i) ≡ true
after a b i h = search (arith, h)

up_to : (a b c : ℤ) → int_le a b ≡ true → int_le b c ≡ true → int_le a c ≡ true
up_to a b c h i = search (arith, h, i)

module _ (cs : List Name) (k : Numbering) where
  value_same : (b : Base) (z : ℤ) → KnownBase cs k.firsts b → int_le (range_of_base b).low z ≡ true → int_le z (range_of_base b).high ≡ true → ordinal_text cs (base_of k b) (saturate_signed w16 z) ≡ value_text b z
  value_same integers z known l h = ap signed_decimal (saturated z l h)
  value_same booleans z known l h = ap (λ w. if int_eq w (pos 0) then codes "false" else codes "true") (saturated z (up_to (negsuc 32767) (pos 0) z refl l) (up_to z (pos 1) (pos 32767) h refl))
  value_same characters z known l h = ap character_text (saturated z (up_to (negsuc 32767) (pos 0) z refl l) (up_to z (pos 127) (pos 32767) h refl))
  value_same (enumerated at xs) (pos n) known l h =
      let some = known.some in
      let few = known.few in
      let le : n ≤ length xs - 1 = search (arith, h) in
      let small : n ≤ 32767 = omega (arith, le, few) in
      let e : min n 32767 ≡ n = omega (arith, small) in
      let one : int_le (pos n) (pos (length xs - 1)) ≡ true = search (arith, h) in
      ap (λ w. ordinal_text cs (base_of k (enumerated at xs)) w) (ap pos e)
      ∙ (ap (λ (b : Bool). if b then constant_text (slice_get cs (plus (k.firsts at) n)) (pos n) else signed_decimal (pos n)) one ∙ ap (λ o. constant_text o (pos n)) (known.there n (omega (arith, le, some))))
  value_same (enumerated at xs) (negsuc n) known l h = absurd (let w : false ≡ true = l in cc)

  pub index_same : (r : Range) (i : ℕ) → KnownBase cs k.firsts r.base → is_bounded r ≡ true → i < length_of_range r → legend.index_text cs (range_on k r) i ≡ index_text r i
  index_same r i known h lt =
      let a = both (is_within (range_of_base r.base) r.low) (is_within (range_of_base r.base) r.high && int_le r.low r.high) h in
      let b = both (is_within (range_of_base r.base) r.high) (int_le r.low r.high) a.1 in
      let low = both (int_le (range_of_base r.base).low r.low) (int_le r.low (range_of_base r.base).high) a.0 in
      let high = both (int_le (range_of_base r.base).low r.high) (int_le r.high (range_of_base r.base).high) b.0 in
      let z : ℤ = r.low +ℤ pos i in
      ap (λ x. codes "[" ++ x ++ codes "]") (value_same r.base z known (after (range_of_base r.base).low r.low i low.0) (up_to z r.high (range_of_base r.base).high (between r.low r.high i lt) high.1))
