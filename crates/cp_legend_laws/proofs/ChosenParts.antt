-- The parts of a type: each has cells, and these are among those of the whole.
use Rattle.std.proofs.Common.{◌≡◌, ℕ, zero, suc, ◌+◌, ◌*◌, ◌<◌, ◌≤◌, ℤ, pos, negsuc, Bool, true, false, ◌&&◌, if◌then◌else◌, List, [], ◌∷◌, Option, Some, None, refl, ap, subst, ◌∙◌, arith}
use Rattle.std.proofs.lemmas.Bool.{ltb-true}
use Rattle.std.specs.Prelude.{nat_lt, ◌+ℤ◌, neg_ℤ, int_le}
use Rattle.cp_legend_laws.proofs.Words.{Name, is_bounded}
use Rattle.cp_meaning.specs.Names.{same_name}
use Rattle.cp_meaning.specs.Operations.{range_of_base}
use Rattle.cp_meaning.specs.Types.{Range, Ty, ordinal, queue_type, set_over, array_over, record_with, component_of, FieldTypes, no_field_types, more_field_types, field_type_in, has_components, length_of_range, natural_of, is_within}
use Rattle.cp_meaning.specs.Values.{Choice, the_field, the_element}
use Rattle.cp_resolved.specs.Encoded.{Chosen, further_chosen, field_chosen, one_chosen, then_chosen, chosen_at}
use Rattle.cp_resolved.specs.Layouts.{cells_of, cells_in}
use Rattle.cp_resolved.specs.Standing.{are_few, are_free, is_element, is_free, is_indexed, is_standing}
use Rattle.cp_resolved.proofs.declarations.StandingParts.{no_part}
use Rattle.cp_resolved.proofs.frames.Cells.{one_more}
use Rattle.cp_resolved.proofs.names.Alike.{same_inside}
use Rattle.cp_legend_laws.specs.PlacesTold.{part_type, type_at}
use Rattle.cp_legend_laws.proofs.IndexTexts.{both}
use Rattle.cp_legend_laws.proofs.KnownConstants.{KnownBase, KnownFields}
use Rattle.cp_legend_laws.proofs.TypesOfTree.{AreFilled, IsSome, IsSound}

-- ---- numbers

one_at_least : (m n : ℕ) → 1 ≤ m → 1 ≤ n → 1 ≤ m * n
one_at_least zero n h i = absurd (omega (arith, h))
one_at_least (suc m) n h i = let a = one_more m n in omega (arith, a, i)

-- one of so many, each of this size
pub one_of : (n m x : ℕ) → n < m → n * x + x ≤ m * x
one_of n zero x h = absurd (omega (arith, h))
one_of zero (suc m) x h = let a = one_more m x in omega (arith, a)
one_of (suc n) (suc m) x h =
    let a = one_more m x in
    let b = one_more n x in
    let c = one_of n m x (omega (arith, h)) in
    omega (arith, a, b, c)

-- ---- ranges

-- up to the last one, if that is not before the first
not_empty : (a b : ℤ) → int_le a b ≡ true → 1 ≤ natural_of ((b +ℤ neg_ℤ a) +ℤ pos 1)
not_empty a b h = go ((b +ℤ neg_ℤ a) +ℤ pos 1) refl
  where
    go : (z : ℤ) → (b +ℤ neg_ℤ a) +ℤ pos 1 ≡ z → 1 ≤ natural_of z
    go (pos n) e = search (arith, e, h)
    go (negsuc n) e = absurd (let bad : int_le a b ≡ false = search (arith, e) in cc)

some_values : (r : Range) → is_bounded r ≡ true → 1 ≤ length_of_range r
some_values r h =
    let a = both (is_within (range_of_base r.base) r.low) (is_within (range_of_base r.base) r.high && int_le r.low r.high) h in
    let b = both (is_within (range_of_base r.base) r.high) (int_le r.low r.high) a.1 in
    not_empty r.low r.high b.1

-- ---- parts

pub chosen_same : (c d : Chosen) → Some c ≡ Some d → (c.0 ≡ d.0) × (c.1 ≡ d.1)
chosen_same c d e = let s : c ≡ d = same_inside c d e in (ap (λ (b : Chosen). b.0) s, ap (λ (b : Chosen). b.1) s)

-- The constants that number the values of enumerations, and the number of the first constant of each.
module _ (names : List Name) (firsts : ℕ → ℕ) where
  -- ---- types whose parts are told

  abbrev mutual
    pub IsTellable : Ty → Type 0
    IsTellable (array_over r t) = KnownBase names firsts r.base × (is_bounded r ≡ true) × IsTellable t
    IsTellable (record_with us) = IsSome us × AreTellable us
    IsTellable (component_of n) = ⊥
    IsTellable u = Unit {0}

    pub AreTellable : FieldTypes → Type 0
    AreTellable no_field_types = Unit {0}
    AreTellable (more_field_types x t us) = IsTellable t × AreTellable us

  mutual
    pub some_cells : (u : Ty) → IsTellable u → 1 ≤ cells_of u
    some_cells (ordinal r) h = omega arith
    some_cells queue_type h = omega arith
    some_cells (set_over r) h = omega arith
    some_cells (array_over r t) h = one_at_least (length_of_range r) (cells_of t) (some_values r h.1) (some_cells t h.2)
    some_cells (record_with us) h = some_fields us h.0 h.1
    some_cells (component_of n) h = absurd h

    some_fields : (us : FieldTypes) → IsSome us → AreTellable us → 1 ≤ cells_in us
    some_fields no_field_types h i = absurd h
    some_fields (more_field_types x t us) h i = let a = some_cells t i.0 in omega (arith, a)

  -- ---- parts

  -- a part of a value, with the cells before it
  pub record IsPart (u : Ty) (b : ℕ) (v : Ty) : Type 0 where
    pub tellable : IsTellable v
    pub inside : b + cells_of v ≤ cells_of u

  record IsField (us : FieldTypes) (x : Name) (b : ℕ) (v : Ty) : Type 0 where
    tellable : IsTellable v
    inside : b + cells_of v ≤ cells_in us
    type_is : field_type_in us x ≡ v

  field_is : (us : FieldTypes) (x : Name) (b : ℕ) (v : Ty) → AreTellable us → field_chosen us x ≡ Some (b, v) → IsField us x b v
  field_is no_field_types x b v h e = absurd (no_part (b, v) e)
  field_is (more_field_types y t us) x b v h e = go (same_name x y) refl e (λ c g. field_is us x c v h.1 g)
    where
      further : (o : Option Chosen) → field_chosen us x ≡ o → further_chosen (cells_of t) o ≡ Some (b, v) → same_name x y ≡ false → ((c : ℕ) → field_chosen us x ≡ Some (c, v) → IsField us x c v) → IsField (more_field_types y t us) x b v
      further None f g other rest = absurd (no_part (b, v) g)
      further (Some d) f g other rest =
          let s = chosen_same (cells_of t + d.0, d.1) (b, v) g in
          let before : cells_of t + d.0 ≡ b = s.0 in
          let last = rest d.0 (f ∙ ap (λ (w : Ty). Some (d.0, w)) (s.1)) in
          let inside = last.inside in
          record {
            tellable = last.tellable;
            inside = omega (arith, before, inside);
            type_is = ap (λ (c : Bool). if c then t else field_type_in us x) other ∙ last.type_is;
          }

      go : (c : Bool) → same_name x y ≡ c → (if c then Some (0, t) else further_chosen (cells_of t) (field_chosen us x)) ≡ Some (b, v) → ((c : ℕ) → field_chosen us x ≡ Some (c, v) → IsField us x c v) → IsField (more_field_types y t us) x b v
      go true same f rest =
          let s = chosen_same (0, t) (b, v) f in
          let first : 0 ≡ b = s.0 in
          let type_same : t ≡ v = s.1 in
          let cells : cells_of t ≡ cells_of v = ap cells_of type_same in
          record {
            tellable = subst IsTellable type_same h.0;
            inside = omega (arith, first, cells);
            type_is = ap (λ (c : Bool). if c then t else field_type_in us x) same ∙ type_same;
          }
      go false other f rest = further (field_chosen us x) refl f other rest

  -- where one choice leads
  pub record Leads (u : Ty) (c : Choice) (b : ℕ) (v : Ty) : Type 0 where
    pub part : IsPart u b v
    pub type_is : part_type u c ≡ v

  pub leads : (u : Ty) (c : Choice) (b : ℕ) (v : Ty) → IsTellable u → one_chosen u c ≡ Some (b, v) → Leads u c b v
  leads (record_with us) (the_field x) b v h e =
      let f = field_is us x b v h.1 e in
      record { part = record { tellable = f.tellable; inside = f.inside }; type_is = f.type_is }
  leads (array_over r t) (the_element n) b v h e = go (nat_lt n (length_of_range r)) refl e
    where
      go : (c : Bool) → nat_lt n (length_of_range r) ≡ c → (let d : Chosen = (n * cells_of t, t) in (if c then Some d else None) ≡ Some (b, v)) → Leads (array_over r t) (the_element n) b v
      go true less f =
          let s = chosen_same (n * cells_of t, t) (b, v) f in
          let before : n * cells_of t ≡ b = s.0 in
          let type_same : t ≡ v = s.1 in
          let cells : cells_of t ≡ cells_of v = ap cells_of type_same in
          let fits = one_of n (length_of_range r) (cells_of t) (ltb-true n (length_of_range r) less) in
          record { part = record { tellable = subst IsTellable type_same h.2; inside = omega (arith, before, cells, fits) }; type_is = type_same }
      go false more f = absurd (no_part (b, v) f)
  leads _ _ b v h e = absurd (no_part (b, v) e)

  -- the part at some choices
  pub record IsAt (u : Ty) (cs : List Choice) (i : ℕ) (w : Ty) : Type 0 where
    pub part : IsPart u i w
    pub type_is : type_at u cs ≡ w

  -- one choice, and the others after it
  pub record Steps (u : Ty) (c : Choice) (cs : List Choice) (i : ℕ) (w : Ty) : Type 0 where
    pub before : ℕ
    pub next : Ty
    pub rest : ℕ
    pub one : one_chosen u c ≡ Some (before, next)
    pub others : chosen_at next cs ≡ Some (rest, w)
    pub same : before + rest ≡ i

  pub steps : (u : Ty) (c : Choice) (cs : List Choice) (i : ℕ) (w : Ty) → chosen_at u (c ∷ cs) ≡ Some (i, w) → Steps u c cs i w
  steps u c cs i w h = go (one_chosen u c) refl h
    where
      last : (b : Chosen) → one_chosen u c ≡ Some b → (o : Option Chosen) → chosen_at b.1 cs ≡ o → further_chosen b.0 o ≡ Some (i, w) → Steps u c cs i w
      last b e None f g = absurd (no_part (i, w) g)
      last b e (Some d) f g =
          let s = chosen_same (b.0 + d.0, d.1) (i, w) g in
          record { before = b.0; next = b.1; rest = d.0; one = e; others = f ∙ ap (λ (v : Ty). Some (d.0, v)) (s.1); same = s.0 }

      go : (o : Option Chosen) → one_chosen u c ≡ o → then_chosen o (λ v. chosen_at v cs) ≡ Some (i, w) → Steps u c cs i w
      go None e g = absurd (no_part (i, w) g)
      go (Some b) e g = last b e (chosen_at b.1 cs) refl g

  pub part_is : (cs : List Choice) (u : Ty) (i : ℕ) (w : Ty) → IsTellable u → chosen_at u cs ≡ Some (i, w) → IsAt u cs i w
  part_is [] u i w h e =
      let s = chosen_same (0, u) (i, w) e in
      let first : 0 ≡ i = s.0 in
      let type_same : u ≡ w = s.1 in
      let cells : cells_of u ≡ cells_of w = ap cells_of type_same in
      record { part = record { tellable = subst IsTellable type_same h; inside = omega (arith, first, cells) }; type_is = type_same }
  part_is (c ∷ cs) u i w h e =
      let s = steps u c cs i w e in
      let one = leads u c s.before s.next h s.one in
      let all = part_is cs s.next s.rest w one.part.tellable s.others in
      let a = one.part.inside in
      let b = all.part.inside in
      let at = s.same in
      record {
        part = record { tellable = all.part.tellable; inside = omega (arith, a, b, at) };
        type_is = ap (λ (v : Ty). type_at v cs) one.type_is ∙ all.type_is;
      }

  -- ---- of a tree

  mutual
    pub free_tellable : (u : Ty) → IsSound names firsts u → is_free u ≡ true → IsTellable u
    free_tellable (ordinal r) h e = tt
    free_tellable queue_type h e = tt
    free_tellable (set_over r) h e = tt
    free_tellable (array_over r t) h e = let a = both (is_indexed r t) (is_free t) e in let b = both (is_bounded r) (are_few (length_of_range r * cells_of t)) a.0 in (h.0.0, b.0, free_tellable t (h.0.1, h.1) a.1)
    free_tellable (record_with us) h e = let a = both (are_few (cells_in us)) (are_free us) e in (h.1.1, fields_tellable us (h.0, h.1.0) a.1)
    free_tellable (component_of n) h e = absurd (let bad : false ≡ true = e in cc)

    fields_tellable : (us : FieldTypes) → KnownFields names firsts us × AreFilled us → are_free us ≡ true → AreTellable us
    fields_tellable no_field_types h e = tt
    fields_tellable (more_field_types x t us) h e = let a = both (is_free t) (are_free us) e in (free_tellable t (h.0.0, h.1.0) a.0, fields_tellable us (h.0.1, h.1.1) a.1)

  element_tellable : (r : Range) (t : Ty) → IsSound names firsts t → is_element t ≡ true → has_components (array_over r t) ≡ false → IsTellable t
  element_tellable r (component_of n) h e f = absurd (let bad : true ≡ false = f in cc)
  element_tellable r queue_type h e f = tt
  element_tellable r (ordinal s) h e f = tt
  element_tellable r (set_over s) h e f = tt
  element_tellable r (array_over s t) h e f = free_tellable (array_over s t) h e
  element_tellable r (record_with us) h e f = free_tellable (record_with us) h e

  pub standing_tellable : (u : Ty) → IsSound names firsts u → is_standing u ≡ true → has_components u ≡ false → IsTellable u
  standing_tellable (component_of n) h e f = absurd (let bad : true ≡ false = f in cc)
  standing_tellable queue_type h e f = tt
  standing_tellable (ordinal s) h e f = tt
  standing_tellable (set_over s) h e f = tt
  standing_tellable (array_over r t) h e f = let a = both (is_indexed r t) (is_element t) e in let b = both (is_bounded r) (are_few (length_of_range r * cells_of t)) a.0 in (h.0.0, b.0, element_tellable r t (h.0.1, h.1) a.1 f)
  standing_tellable (record_with us) h e f = free_tellable (record_with us) h e
