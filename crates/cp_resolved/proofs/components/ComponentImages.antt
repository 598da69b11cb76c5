-- The permanent cells of each component begin with the first values of its system type.
use Rattle.std.proofs.Common.{◌≡◌, ℕ, ◌+◌, ℤ, pos, Bool, true, false, ◌&&◌, if◌then◌else◌, List, [], ◌∷◌, ◌++◌, length, Some, refl, sym, ap, subst, ◌∙◌, inl, inr, ◌⊎◌, append_assoc, arith, length-append}
use Rattle.cp_resolved.proofs.Words.{min, none-some, same_Some, bytes_eq-Decides, Content, LayoutMeaning, Compounds, most, plus, Layer, Owned, contents_least, Name}
use Rattle.cp_resolved.proofs.Words.{same_name, Ty, FieldTypes, has_components, find, permanent_variable, Variable, SystemMeaning, holds, content_of, value_held}
use Rattle.cp_resolved.proofs.Words.{least_of, parameter_variables, encode, Numbering, CellsAre, PartsAre, BoundIs, cells_in, look, StandsAt, first_permanent, Each}
use Rattle.cp_resolved.proofs.Words.{slot_in, components_among, are_few, is_indexed, is_free, are_free, is_standing, IsStandingVariable}
use Rattle.cp_layout.specs.declared.layer.Content.TheVariants as content
use Rattle.cp_symbols.specs.Kinds as symbol_kinds
use Rattle.cp_layout.specs.Kinds as kinds
use Rattle.cp_layout.specs.Layers as layers
use Rattle.cp_meaning.specs.Types as named
use Rattle.cp_meaning.specs.Values as values
use Rattle.cp_resolved.specs.Declared.{own_variables, IsVisible}
use Rattle.cp_resolved.proofs.frames.EncodedCells.{HoldEarlier, IsValued, AreValued, least_encoded, least_counted}
use Rattle.cp_resolved.proofs.systems.OwnedParts.{cells_after, SlotIs, ContentIs}
use Rattle.cp_resolved.proofs.systems.SystemsLaid.{PermanentIs, OwnIs}
use Rattle.cp_resolved.proofs.agreeing.AgreeingWritten.{each_left}
use Rattle.cp_resolved.proofs.frames.FrameCells.{index_right as skipped, index_left as inside}
use Rattle.cp_resolved.proofs.systems.SystemKnown.{least_some as least_looked}

-- ---- a block among cells

pub stands_between : (xs block ys : List ℤ) → StandsAt (xs ++ (block ++ ys)) (length xs) block
stands_between xs block ys =
    record {
      inside = (let a = length-append xs (block ++ ys) in let b = length-append block ys in omega (arith, a, b));
      same = λ k lt. skipped xs (block ++ ys) k ∙ inside block ys k lt;
    }

-- ---- first values

least_append : (vs ws : List Variable) → least_of (vs ++ ws) ≡ least_of vs ++ least_of ws
least_append [] ws = refl
least_append (v ∷ vs) ws = go (has_components v.ty) (least_append vs ws)
  where
    go : (b : Bool) → least_of (vs ++ ws) ≡ least_of vs ++ least_of ws
        → (if b then least_of (vs ++ ws) else (v.name, holds (values.least v.ty)) ∷ least_of (vs ++ ws)) ≡ (if b then least_of vs else (v.name, holds (values.least v.ty)) ∷ least_of vs) ++ least_of ws
    go true e = e
    go false e = ap (λ bs. (v.name, holds (values.least v.ty)) ∷ bs) e

pub first_is : (m : SystemMeaning) (x : Name) (t : Ty) → look x (components_among false (own_variables m)) ≡ Some t → first_permanent m x ≡ values.least t
first_is m x t e = ap value_held (ap (content_of x) (sym (least_append (parameter_variables m.parameters) m.variables)) ∙ least_looked x t (own_variables m) e)

-- ---- what is looked up

pub record Looked (P : Variable → Type 0) (x : Name) (t : Ty) : Type 0 where
  pub variable : Variable
  pub name : x ≡ variable.name
  pub ty : variable.ty ≡ t
  pub holds : P variable
  pub single : has_components t ≡ false

pub looked : (P : Variable → Type 0) (x : Name) (t : Ty) (vs : List Variable) → Each P vs → look x (components_among false vs) ≡ Some t → Looked P x t
looked P x t [] h e = absurd (none-some t e)
looked P x t (v ∷ vs) h e = go (has_components v.ty) refl (looked P x t vs h.1) e
  where
    found : (b : Bool) → same_name x v.name ≡ b → has_components v.ty ≡ false → (look x (components_among false vs) ≡ Some t → Looked P x t) → (if b then Some v.ty else look x (components_among false vs)) ≡ Some t → Looked P x t
    found true w s rest f =
        let same : v.ty ≡ t = same_Some v.ty t f in
        record { variable = v; name = (bytes_eq-Decides x v.name).0 w; ty = same; holds = h.0; single = ap has_components (sym same) ∙ s }
    found false w s rest f = rest f

    go : (b : Bool) → has_components v.ty ≡ b → (look x (components_among false vs) ≡ Some t → Looked P x t) → look x (if b then components_among false vs else v ∷ components_among false vs) ≡ Some t → Looked P x t
    go true s rest f = rest f
    go false s rest f = found (same_name x v.name) refl s rest f

-- ---- values alone

pub both : (a b : Bool) → (a && b) ≡ true → (a ≡ true) × (b ≡ true)
both true b e = (refl, e)
both false b e = absurd (let w : false ≡ true = e in cc)

mutual
  free_valued : (t : Ty) → is_free t ≡ true → IsValued t
  free_valued (named.array_over r t) e = free_valued t (both (is_indexed r t) (is_free t) e).1
  free_valued (named.record_with us) e = fields_valued us (both (are_few (cells_in us)) (are_free us) e).1
  free_valued (named.component_of n) e = absurd (let w : false ≡ true = e in cc)
  free_valued _ e = tt

  fields_valued : (us : FieldTypes) → are_free us ≡ true → AreValued us
  fields_valued named.no_field_types e = tt
  fields_valued (named.more_field_types x t us) e = let h = both (is_free t) (are_free us) e in (free_valued t h.0, fields_valued us h.1)

standing_valued : (t : Ty) → is_standing t ≡ true → has_components t ≡ false → IsValued t
standing_valued (named.record_with us) e c = free_valued (named.record_with us) e
standing_valued (named.component_of n) e c = absurd (let w : true ≡ false = c in cc)
standing_valued (named.array_over r (named.array_over q t)) e c = free_valued (named.array_over q t) (both (is_indexed r (named.array_over q t)) (is_free (named.array_over q t)) e).1
standing_valued (named.array_over r (named.record_with us)) e c = free_valued (named.record_with us) (both (is_indexed r (named.record_with us)) (is_free (named.record_with us)) e).1
standing_valued (named.array_over r (named.component_of n)) e c = absurd (let w : true ≡ false = c in cc)
standing_valued _ e c = tt

-- ---- the cells of a system type

contents_append : (ts : Compounds) (cs ds : List Content) → contents_least ts (cs ++ ds) ≡ contents_least ts cs ++ contents_least ts ds
unfolding contents_least
contents_append ts [] ds = refl
contents_append ts (content.Variable v ∷ cs) ds = ap (λ zs. kinds.least ts v ++ zs) (contents_append ts cs ds) ∙ sym (append_assoc (kinds.least ts v) (contents_least ts cs) (contents_least ts ds))
contents_append ts (content.Component ∷ cs) ds = ap (λ zs. pos 0 ∷ zs) (contents_append ts cs ds)

module _ (k : Numbering) (end : Layer) (earlier : HoldEarlier end.types) where
  cells_counted : (n m : ℕ) (cs : List Content) → n ≡ min m most → Each (ContentIs k end.types) cs → cells_after end.types n cs ≡ min (m + length (contents_least end.types cs)) most
  unfolding contents_least
  cells_counted n m [] e h = omega (arith, e)
  cells_counted n m (content.Variable v ∷ cs) e h =
      let c : symbol_kinds.cells_of end.types v ≡ min (length (kinds.least end.types v)) most = least_counted k end.types earlier h.0.0 v h.0.1 in
      let a = cells_counted (plus n (symbol_kinds.cells_of end.types v)) (m + length (kinds.least end.types v)) cs (omega (arith, e, c)) h.1 in
      let l = length-append (kinds.least end.types v) (contents_least end.types cs) in
      omega (arith, a, l)
  cells_counted n m (content.Component ∷ cs) e h = let a = cells_counted (plus n 1) (m + 1) cs (omega (arith, e)) h.1 in omega (arith, a)

  module _ (number : ℕ) (around : Layer) (o : Owned) (m : SystemMeaning) (own : OwnIs k end number around o m) (visible : Each (IsVisible m) (own_variables m)) (standing : Each IsStandingVariable (own_variables m)) where
    -- the cells of a variable, between those before it and those after it
    pub record Block (x : Name) (t : Ty) : Type 0 where
      pub before : List ℤ
      pub after : List ℤ
      pub is : contents_least end.types o.contents ≡ before ++ (encode (values.least t) ++ after)
      pub slot : slot_in (layers.find x around.names) ≡ min (length before) most

    pub block_of : (x : Name) (t : Ty) → look x (components_among false (own_variables m)) ≡ Some t → Block x t
    unfolding contents_least
    block_of x t e =
        let l : Looked (IsVisible m) x t = looked (IsVisible m) x t (own_variables m) visible e in
        let s : Looked IsStandingVariable x t = looked IsStandingVariable x t (own_variables m) standing e in
        let there : find x m.scope ≡ Some (permanent_variable t) = ap (λ y. find y m.scope) l.name ∙ l.holds ∙ ap (λ u. Some (permanent_variable u)) l.ty in
        let valued : IsValued t = standing_valued t (ap is_standing (sym s.ty) ∙ s.holds) s.single in
        let p : PermanentIs k end t (layers.find x around.names) = own.found x t there in
        go valued s.single p.meaning p.there p.is
      where
        go : IsValued t → has_components t ≡ false → (q : LayoutMeaning) → layers.find x around.names ≡ Some q → CellsAre k end.types t q ⊎ (PartsAre k end.types t q ⊎ BoundIs t q) → Block x t
        go valued single q e (inl c) =
            let s : SlotIs end.types o.contents c.slot c.value_type = own.owns.slots x c.slot c.value_type (e ∙ ap (λ w. Some w) c.is) in
            let all : Each (ContentIs k end.types) s.before = each_left (ContentIs k end.types) s.before (content.Variable c.value_type ∷ s.after) (subst (Each (ContentIs k end.types)) s.is own.owns.contents) in
            let count = cells_counted 0 0 s.before (omega arith) all in
            let z : min (0 + length (contents_least end.types s.before)) most ≡ min (length (contents_least end.types s.before)) most = omega arith in
            record {
              before = contents_least end.types s.before;
              after = contents_least end.types s.after;
              is = ap (contents_least end.types) s.is ∙ contents_append end.types s.before (content.Variable c.value_type ∷ s.after) ∙ ap (λ zs. contents_least end.types s.before ++ (zs ++ contents_least end.types s.after)) (least_encoded k end.types earlier t c.value_type valued c.belongs);
              slot = ap slot_in (e ∙ ap (λ w. Some w) c.is) ∙ s.slot ∙ count ∙ z;
            }
        go valued single q e (inr (inl c)) = absurd (let w : true ≡ false = sym c.has ∙ single in cc)
        go valued single q e (inr (inr c)) = absurd (let w : true ≡ false = sym (ap has_components c.component) ∙ single in cc)
