-- Two lists of cells are the same where values of one type stand in them exactly if these values are the same.
use Rattle.std.proofs.Common.{◌≡◌, ◌∙◌, ℕ, zero, suc, ◌+◌, ◌-◌, ◌<◌, ◌==◌, ◌&&◌, Bool, true, false, List, [], ◌∷◌, ◌++◌, length, take, drop, Option, Some, None, ap, ap₂, refl, sym, subst, arith, get_or, eqb-true, eq-eqb, ext_get_or, length-take-le, get_or-take, get_or-drop}
use Rattle.std.proofs.lemmas.Bool.{le-leb}
use Rattle.std.proofs.lemmas.Bool.Decides.{Decides-int_eq, same_from_decides}
use Rattle.std.proofs.lemmas.List.{length-drop}
use Rattle.std.proofs.lemmas.Slice.Eq.{bytes_eq-Decides}
use Rattle.std.specs.Bool.{Decides}
use Rattle.std.specs.Cmp.Lexicographic.{pointwise}
use Rattle.std.specs.Cmp.Rules.{signed_items}
use Rattle.std.specs.Option.{option_eq}
use Rattle.std.specs.Ordering.{int_eq}
use Rattle.std.specs.Prelude.{ℤ, pos, ◌^◌}
use Rattle.cp_meaning.specs.Names.{same_name}
use Rattle.cp_meaning.specs.Types.{Ty, ordinal, queue_type, set_over, array_over, record_with, component_of, FieldTypes, no_field_types, more_field_types, length_of_range}
use Rattle.cp_meaning.specs.Values.{Value, number_value, array_value, record_value, set_value, queue_value, Values, no_values, more_values, FieldValues, no_field_values, more_field_values}
use Rattle.cp_resolved.specs.Encoded.{AllHave, AreMembers, HasType, HaveTypes, bits_of, encode, encode_all, encode_fields, set_cells}
use Rattle.cp_resolved.specs.Layouts.{cells_of}
use Rattle.cp_resolved.specs.Resolved.{StandsAt}
use Rattle.cp_resolved.specs.Standing.{are_few, are_free, is_free, is_indexed, is_standing}
use Rattle.cp_machine_laws.specs.Agrees.{Few}
use Rattle.cp_machine_laws.proofs.expressions.Members.{bits_below, equal_bits}
use Rattle.cp_machine_laws.proofs.expressions.Parts.{encode_length}
use Rattle.cp_machine_laws.proofs.expressions.SetCells.{stored_is}
use Rattle.cp_store.specs.declared.memory.Address.TheVariants.{Permanent}
use Rattle.cp_store.specs.Memory.{Memory}
use Rattle.cp_store.specs.Sets.{load_set}
use Rattle.cp_story.specs.Changes.{are_same, cells_between}
use Rattle.cp_story_laws.specs.Changes.{is_queues}
use Rattle.cp_story_laws.specs.SameValues.{same_fields, same_members, same_value, same_values, same_waiting}

pub left : (a b : Bool) → (a && b) ≡ true → a ≡ true
left true b h = refl
left false b h = h

pub right : (a b : Bool) → (a && b) ≡ true → b ≡ true
right true b h = h
right false b h = absurd (let bad : false ≡ true = h in cc)

both : (a b : Bool) → a ≡ true → b ≡ true → (a && b) ≡ true
both a b h i = rw (h, i) refl

-- ---- two values are the same exactly if they are one

members_one : (ms ns : List ℕ) → same_members ms ns ≡ true → ms ≡ ns
members_one [] [] h = refl
members_one (m ∷ ms) (n ∷ ns) h =
    let first : m ≡ n = eqb-true m n (left (m == n) (same_members ms ns) h) in
    let more : ms ≡ ns = members_one ms ns (right (m == n) (same_members ms ns) h) in
    cc
members_one ms ns h = cc

waiting_one : (o u : Option ℕ) → same_waiting o u ≡ true → o ≡ u
waiting_one None None h = refl
waiting_one (Some p) (Some q) h = ap Some (eqb-true p q h)
waiting_one o u h = cc

mutual
  value_one : (v w : Value) → same_value v w ≡ true → v ≡ w
  value_one (number_value y) (number_value z) h = ap number_value ((Decides-int_eq y z).0 h)
  value_one (array_value vs) (array_value ws) h = ap array_value (values_one vs ws h)
  value_one (record_value fs) (record_value gs) h = ap record_value (fields_one fs gs h)
  value_one (set_value ms) (set_value ns) h = ap set_value (members_one ms ns h)
  value_one (queue_value o) (queue_value u) h = ap queue_value (waiting_one o u h)
  value_one v w h = cc

  values_one : (vs ws : Values) → same_values vs ws ≡ true → vs ≡ ws
  values_one no_values no_values h = refl
  values_one (more_values v vs) (more_values w ws) h = ap₂ more_values (value_one v w (left (same_value v w) (same_values vs ws) h)) (values_one vs ws (right (same_value v w) (same_values vs ws) h))
  values_one vs ws h = cc

  fields_one : (fs gs : FieldValues) → same_fields fs gs ≡ true → fs ≡ gs
  fields_one no_field_values no_field_values h = refl
  fields_one (more_field_values x v fs) (more_field_values y w gs) h =
      let more = right (same_name x y) (same_value v w && same_fields fs gs) h in
      let name : x ≡ y = (bytes_eq-Decides x y).0 (left (same_name x y) (same_value v w && same_fields fs gs) h) in
      let value : v ≡ w = value_one v w (left (same_value v w) (same_fields fs gs) more) in
      let rest : fs ≡ gs = fields_one fs gs (right (same_value v w) (same_fields fs gs) more) in
      cc
  fields_one fs gs h = cc

members_itself : (ms : List ℕ) → same_members ms ms ≡ true
members_itself [] = refl
members_itself (m ∷ ms) = both (m == m) (same_members ms ms) (eq-eqb m m refl) (members_itself ms)

waiting_itself : (o : Option ℕ) → same_waiting o o ≡ true
waiting_itself None = refl
waiting_itself (Some p) = eq-eqb p p refl

mutual
  value_itself : (v : Value) → same_value v v ≡ true
  value_itself (number_value z) = (Decides-int_eq z z).1 refl
  value_itself (array_value vs) = values_itself vs
  value_itself (record_value fs) = fields_itself fs
  value_itself (set_value ms) = members_itself ms
  value_itself (queue_value o) = waiting_itself o

  values_itself : (vs : Values) → same_values vs vs ≡ true
  values_itself no_values = refl
  values_itself (more_values v vs) = both (same_value v v) (same_values vs vs) (value_itself v) (values_itself vs)

  fields_itself : (fs : FieldValues) → same_fields fs fs ≡ true
  fields_itself no_field_values = refl
  fields_itself (more_field_values x v fs) = both (same_name x x) (same_value v v && same_fields fs fs) ((bytes_eq-Decides x x).1 refl) (both (same_value v v) (same_fields fs fs) (value_itself v) (fields_itself fs))

value_decides : (v w : Value) → Decides (same_value v w) (v ≡ w)
value_decides v w = (value_one v w, λ e. subst (λ (u : Value). same_value v u ≡ true) e (value_itself v))

-- ---- a set is that of its cells

-- the bits that eight cells hold
bits_in : List ℤ → ℕ
bits_in cells = (load_set (let m : Memory = record { permanents = cells; cells = []; references = [] } in m) (Permanent 0)).members

read_back : (bits : ℕ) → bits < 2 ^ 128 → bits_in (set_cells bits) ≡ bits
unfolding bits_in
read_back bits small =
    let m : Memory = record { permanents = set_cells bits; cells = []; references = [] } in
    let few : Few m = record { permanents = omega arith; cells = omega arith; references = omega arith } in
    stored_is m (Permanent 0) bits few (omega arith) (λ k less. (let e : 0 + k ≡ k = omega arith in ap (λ (i : ℕ). get_or (set_cells bits) i (pos 0)) e)) small

set_same : (ms ns : List ℕ) → AreMembers 0 ms → AreMembers 0 ns → set_cells (bits_of ms) ≡ set_cells (bits_of ns) → ms ≡ ns
set_same ms ns h i e =
    let a = bits_below 0 ms (omega arith) h in
    let b = bits_below 0 ns (omega arith) i in
    let bits : bits_of ms ≡ bits_of ns = sym (read_back (bits_of ms) (omega (arith, a))) ∙ ap bits_in e ∙ read_back (bits_of ns) (omega (arith, b)) in
    (bytes_eq-Decides ms ns).0 (equal_bits ms ns h i ∙ eq-eqb (bits_of ms) (bits_of ns) bits)

-- ---- a value of a type is that of its cells

parted : (xs ys us vs : List ℤ) → length xs ≡ length us → xs ++ ys ≡ us ++ vs → (xs ≡ us) × (ys ≡ vs)
parted [] ys [] vs n e = (refl, e)
parted (x ∷ xs) ys (u ∷ us) vs n e =
    let head : x ≡ u = cc in
    let tail : xs ++ ys ≡ us ++ vs = cc in
    let more = parted xs ys us vs (omega (arith, n)) tail in
    (ap₂ (λ z zs. z ∷ zs) head more.0, more.1)
parted [] ys (u ∷ us) vs n e = absurd (omega (arith, n))
parted (x ∷ xs) ys [] vs n e = absurd (omega (arith, n))

-- two values of this type with the same cells are one
abbrev HasOwnCells : Ty → Type 0
HasOwnCells t = (v w : Value) → HasType t v → HasType t w → encode v ≡ encode w → v ≡ w

all_one : (t : Ty) → HasOwnCells t → (n : ℕ) (vs ws : Values) → AllHave (HasType t) n vs → AllHave (HasType t) n ws → encode_all vs ≡ encode_all ws → vs ≡ ws
all_one t one zero no_values no_values h i e = refl
all_one t one (suc n) (more_values v vs) (more_values w ws) h i e =
    let p = parted (encode v) (encode_all vs) (encode w) (encode_all ws) (encode_length t v h.0 ∙ sym (encode_length t w i.0)) e in
    ap₂ more_values (one v w h.0 i.0 p.0) (all_one t one n vs ws h.1 i.1 p.1)
all_one t one zero (more_values v vs) ws h i e = absurd h
all_one t one zero no_values (more_values w ws) h i e = absurd i
all_one t one (suc n) no_values ws h i e = absurd h
all_one t one (suc n) (more_values v vs) no_values h i e = absurd i

mutual
  free_one : (t : Ty) → is_free t ≡ true → HasOwnCells t
  free_one (ordinal r) f (number_value y) (number_value z) h i e = ap number_value (let same : y ≡ z = cc in same)
  free_one (ordinal r) f (number_value y) w h i e = absurd i
  free_one (set_over r) f (set_value ms) (set_value ns) h i e = ap set_value (set_same ms ns h i e)
  free_one (set_over r) f (set_value ms) w h i e = absurd i
  free_one (array_over r t) f (array_value vs) (array_value ws) h i e = ap array_value (all_one t (λ v w a b c. free_one t (right (is_indexed r t) (is_free t) f) v w a b c) (length_of_range r) vs ws h i e)
  free_one (array_over r t) f (array_value vs) w h i e = absurd i
  free_one (record_with ts) f (record_value fs) (record_value gs) h i e = ap record_value (free_fields ts (right (are_few _) (are_free ts) f) fs gs h i e)
  free_one (record_with ts) f (record_value fs) w h i e = absurd i
  free_one queue_type f v w h i e = absurd (let bad : false ≡ true = f in cc)
  free_one t f v w h i e = absurd h

  free_fields : (ts : FieldTypes) → are_free ts ≡ true → (fs gs : FieldValues) → HaveTypes ts fs → HaveTypes ts gs → encode_fields fs ≡ encode_fields gs → fs ≡ gs
  free_fields no_field_types f no_field_values no_field_values h i e = refl
  free_fields (more_field_types x t ts) f (more_field_values y v fs) (more_field_values z w gs) h i e =
      let p = parted (encode v) (encode_fields fs) (encode w) (encode_fields gs) (encode_length t v h.1 ∙ sym (encode_length t w i.1)) e in
      let name : y ≡ z = sym h.0 ∙ i.0 in
      let value : v ≡ w = free_one t (left (is_free t) (are_free ts) f) v w h.1 i.1 p.0 in
      let rest : fs ≡ gs = free_fields ts (right (is_free t) (are_free ts) f) fs gs h.2 i.2 p.1 in
      cc
  free_fields no_field_types f (more_field_values y v fs) gs h i e = absurd h
  free_fields no_field_types f no_field_values (more_field_values z w gs) h i e = absurd i
  free_fields (more_field_types x t ts) f no_field_values gs h i e = absurd h
  free_fields (more_field_types x t ts) f (more_field_values y v fs) no_field_values h i e = absurd i

standing_one : (t : Ty) → is_standing t ≡ true → is_queues t ≡ false → HasOwnCells t
standing_one queue_type f n v w h i e = absurd (let bad : true ≡ false = n in cc)
standing_one (component_of j) f n v w h i e = absurd h
standing_one (array_over r queue_type) f n v w h i e = absurd (let bad : true ≡ false = n in cc)
standing_one (array_over r (component_of j)) f n (array_value vs) (array_value ws) h i e = ap array_value (all_one (component_of j) (λ v w a b c. absurd a) (length_of_range r) vs ws h i e)
standing_one (array_over r (component_of j)) f n (array_value vs) w h i e = absurd i
standing_one (array_over r (component_of j)) f n v w h i e = absurd h
standing_one t f n v w h i e = free_one t f v w h i e

encoded_same : (t : Ty) → is_standing t ≡ true → is_queues t ≡ false → (v w : Value) → HasType t v → HasType t w → pointwise int_eq (encode v) (encode w) ≡ same_value v w
encoded_same t f n v w h i =
    let cells : Decides (pointwise int_eq (encode v) (encode w)) (encode v ≡ encode w) = signed_items (encode v) (encode w) in
    same_from_decides {P = v ≡ w} (pointwise int_eq (encode v) (encode w)) (same_value v w) ((λ e. standing_one t f n v w h i (cells.0 e)), (λ e. cells.1 (ap encode e))) (value_decides v w)

-- ---- cells of a list

range_stands : (cells block : List ℤ) (at : ℕ) → StandsAt cells at block → cells_between cells at (at + length block) ≡ Some block
range_stands cells block at s =
    let there = s.inside in
    let many : length (take (at + length block - at) (drop at cells)) ≡ length block = (let d = length-drop at cells in length-take-le (at + length block - at) (drop at cells) (omega (arith, d, there)) ∙ (let z : at + length block - at ≡ length block = omega arith in z)) in
    let range : take (at + length block - at) (drop at cells) ≡ block = ext_get_or (pos 0) (take (at + length block - at) (drop at cells)) block many
    (λ k less. get_or-take (at + length block - at) (drop at cells) k (pos 0) (omega (arith, less, many)) ∙ get_or-drop at cells k (pos 0) ∙ s.same k (omega (arith, less, many))) in
    rw (le-leb at (at + length block) (omega arith), le-leb (at + length block) (length cells) there) (ap Some range)

module _ (before now : List ℤ) (at end : ℕ) (t : Ty) (standing : is_standing t ≡ true) (told : is_queues t ≡ false) (v w : Value) (h : HasType t v) (i : HasType t w) where
  pub cells_same : end ≡ at + cells_of t → StandsAt before at (encode v) → StandsAt now at (encode w) → are_same before now at end ≡ same_value v w
  cells_same e sv sw =
      let ev : end ≡ at + length (encode v) = (let n = encode_length t v h in omega (arith, e, n)) in
      let ew : end ≡ at + length (encode w) = (let n = encode_length t w i in omega (arith, e, n)) in
      ap₂ (option_eq (pointwise int_eq)) (ap (cells_between before at) ev ∙ range_stands before (encode v) at sv) (ap (cells_between now at) ew ∙ range_stands now (encode w) at sw)
      ∙ encoded_same t standing told v w h i
