-- Names in step: what they find, what a system type sees of them, and that more types change nothing.
use Rattle.std.proofs.Common.{◌≡◌, ℕ, Bool, true, false, if◌then◌else◌, List, [], ◌∷◌, ◌++◌, Option, Some, refl, sym, ap, ◌∙◌, arith, inl, inr}
use Rattle.cp_resolved.proofs.Words.{◌⊎◌, bytes_eq, bytes_eq-Decides, CellType, LayoutMeaning, is_open, Ty, Scope, is_seen}
use Rattle.std.specs.Bool.{Decides}
use Rattle.std.proofs.lemmas.Bool.Decides.{same_from_decides}
use Rattle.cp_symbols.specs.Kinds.{Compounds, Field, array, compound_cells, cells_of, plus, times, count_of}
use Rattle.cp_layout.specs.Layers as layers
use Rattle.cp_meaning.specs.Types as named
use Rattle.cp_meaning.specs.Scopes as scopes
use Rattle.cp_resolved.specs.InStep.{Numbering, range_on, TypeIs, FieldsAre, CellsAre, PartsAre, BoundIs, MeaningIs, InStep, FoundIs, IsOuter, AreOuter}
use Rattle.cp_resolved.proofs.names.Entries.{still_there as slice_more}

pub bytes_turned : (x y : List ℕ) → bytes_eq x y ≡ bytes_eq y x
bytes_turned x y =
    let k : Decides (bytes_eq y x) (x ≡ y) = ((λ h. sym ((bytes_eq-Decides y x).0 h)), (λ h. (bytes_eq-Decides y x).1 (sym h))) in
    same_from_decides (bytes_eq x y) (bytes_eq y x) (bytes_eq-Decides x y) k

-- ---- what is found

module _ (k : Numbering) (ts : Compounds) where
  either_found : (b : Bool) (m : LayoutMeaning) (n : scopes.Meaning) (s t : Scope) (o : Option LayoutMeaning) (p : Option scopes.Meaning) → MeaningIs k ts m n s → FoundIs k ts o p t → FoundIs k ts (if b then Some m else o) (if b then Some n else p) (if b then s else t)
  either_found true m n s t o p h i = h
  either_found false m n s t o p h i = i

  pub found_in : (x : List ℕ) (ds : layers.Names) (es : Scope) → InStep k ts ds es → FoundIs k ts (layers.find x ds) (scopes.find x es) (scopes.since x es)
  found_in x [] [] h = tt
  found_in x (d ∷ ds) (e ∷ es) h =
      let w : bytes_eq d.0 x ≡ bytes_eq x e.0 = bytes_turned d.0 x ∙ ap (bytes_eq x) h.0 in
      rw w (either_found (bytes_eq x e.0) d.1 e.1 (e ∷ es) (scopes.since x es) (layers.find x ds) (scopes.find x es) h.1 (found_in x ds es h.2))
  found_in x _ _ h = absurd h

  -- ---- what a system type sees

  same_permanent : (m : LayoutMeaning) (t : Ty) → CellsAre k ts t m ⊎ (PartsAre k ts t m ⊎ BoundIs t m) → is_open m ≡ false
  same_permanent m t (inl h) = ap is_open h.is
  same_permanent m t (inr (inl h)) = ap is_open h.is
  same_permanent m t (inr (inr h)) = ap is_open h.is

  same_open : (m : LayoutMeaning) (n : scopes.Meaning) (s : Scope) → MeaningIs k ts m n s → IsOuter n → is_open m ≡ is_seen n
  same_open m (scopes.constant_meaning b z) s h o = ap is_open h.0
  same_open m (scopes.type_meaning t) s h o = ap is_open h.1
  same_open m (scopes.permanent_variable t) s h o = same_permanent m t h
  same_open m (scopes.standard_meaning q) s h o = ap is_open h
  same_open m _ s h o = absurd o

  moved : (m : LayoutMeaning) (n : scopes.Meaning) (s t : Scope) → IsOuter n → MeaningIs k ts m n s → MeaningIs k ts m n t
  moved m (scopes.local_variable u) s t o h = absurd o
  moved m (scopes.routine_meaning r) s t o h = absurd o
  moved m _ s t o h = h

  either_inside : (b : Bool) (d : List ℕ × LayoutMeaning) (e : List ℕ × scopes.Meaning) (ds : layers.Names) (es : Scope) → d.0 ≡ e.0 → MeaningIs k ts d.1 e.1 (e ∷ es) → InStep k ts ds es → InStep k ts (if b then d ∷ ds else ds) (if b then e ∷ es else es)
  either_inside true d e ds es h i j = (h, i, j)
  either_inside false d e ds es h i j = j

  pub all_inside : (ds : layers.Names) (es : Scope) → AreOuter es → InStep k ts ds es → InStep k ts (layers.seen_inside ds) (scopes.seen_inside es)
  all_inside [] [] o h = tt
  all_inside (d ∷ ds) (e ∷ es) o h =
      rw (same_open d.1 e.1 (e ∷ es) h.1 o.0) (either_inside (is_seen e.1) d e (layers.seen_inside ds) (scopes.seen_inside es) h.0 (moved d.1 e.1 (e ∷ es) (e ∷ scopes.seen_inside es) o.0 h.1) (all_inside ds es o.1 h.2))
  all_inside _ _ o h = absurd h

  pub outermost_in : InStep k ts layers.outermost scopes.predeclared
  outermost_in = (
    refl,
    (_, refl, refl),
    (
      refl,
      (_, refl, refl),
      (
        refl,
        (_, refl, refl),
        (
          refl,
          (_, refl, refl),
          (refl, (refl, omega arith), (refl, (refl, omega arith), (refl, refl, (refl, refl, (refl, refl, (refl, refl, (refl, refl, (refl, refl, (refl, refl, (refl, refl, (refl, refl, tt))))))))))),
        ),
      ),
    ),
  )

-- ---- more types

-- a type takes this many cells also among more types
module _ (k : Numbering) (ts more : Compounds) where
  pub cells_grown : (t : Ty) (v : CellType) → TypeIs k ts t v → cells_of (ts ++ more) v ≡ cells_of ts v
  cells_grown (named.array_over s t) v h = rw h.is (ap compound_cells (slice_more ts more h.number _ h.there) ∙ sym (ap compound_cells h.there))
  cells_grown (named.record_with us) v h = rw h.is (ap compound_cells (slice_more ts more h.number _ h.there) ∙ sym (ap compound_cells h.there))
  cells_grown x v h = rw h refl

  mutual
    pub type_grown : (t : Ty) (v : CellType) → TypeIs k ts t v → TypeIs k (ts ++ more) t v
    type_grown (named.array_over s t) v h =
        record {
          number = h.number;
          is = h.is;
          element = h.element;
          there = slice_more ts more h.number _ h.there ∙ ap (λ n. Some (array (record { index = range_on k s; element = h.element; element_cells = n; cells = times n (count_of (range_on k s)) }))) (sym (cells_grown t h.element h.belongs));
          belongs = type_grown t h.element h.belongs;
        }
    type_grown (named.record_with us) v h =
        record { number = h.number; is = h.is; fields = h.fields; cells = h.cells; there = slice_more ts more h.number _ h.there; each = fields_grown us h.fields 0 h.cells h.each }
    type_grown _ v h = h

    pub fields_grown : (us : named.FieldTypes) (fs : List Field) (n end : ℕ) → FieldsAre k ts us fs n end → FieldsAre k (ts ++ more) us fs n end
    fields_grown named.no_field_types fs n end h = h
    fields_grown (named.more_field_types x t us) fs n end h =
        record {
          value_type = h.value_type;
          rest = h.rest;
          first = h.first;
          belongs = type_grown t h.value_type h.belongs;
          others = rw (cells_grown t h.value_type h.belongs) (fields_grown us h.rest (plus n (cells_of ts h.value_type)) end h.others);
        }

  permanent_grown : (m : LayoutMeaning) (t : Ty) → CellsAre k ts t m ⊎ (PartsAre k ts t m ⊎ BoundIs t m) → CellsAre k (ts ++ more) t m ⊎ (PartsAre k (ts ++ more) t m ⊎ BoundIs t m)
  permanent_grown m t (inl h) = inl (record { slot = h.slot; value_type = h.value_type; is = h.is; belongs = type_grown t h.value_type h.belongs; without = h.without })
  permanent_grown m t (inr (inl h)) = inr (inl (record { first = h.first; value_type = h.value_type; is = h.is; belongs = type_grown t h.value_type h.belongs; has = h.has }))
  permanent_grown m t (inr (inr h)) = inr (inr h)

  pub meaning_grown : (m : LayoutMeaning) (n : scopes.Meaning) (s : Scope) → MeaningIs k ts m n s → MeaningIs k (ts ++ more) m n s
  meaning_grown m (scopes.type_meaning t) s h = (h.0, h.1, type_grown t h.0 h.2)
  meaning_grown m (scopes.local_variable t) s h = record { origin = h.origin; value_type = h.value_type; is = h.is; in_frame = h.in_frame; belongs = type_grown t h.value_type h.belongs }
  meaning_grown m (scopes.permanent_variable t) s h = permanent_grown m t h
  meaning_grown m _ s h = h

  pub names_grown : (ds : layers.Names) (es : Scope) → InStep k ts ds es → InStep k (ts ++ more) ds es
  names_grown [] [] h = tt
  names_grown (d ∷ ds) (e ∷ es) h = (h.0, meaning_grown d.1 e.1 (e ∷ es) h.1, names_grown ds es h.2)
  names_grown _ _ h = absurd h
