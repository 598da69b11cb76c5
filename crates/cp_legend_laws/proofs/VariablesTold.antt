-- Of variables that lie apart, the first in the legend that has a cell is the one that has it.
use Rattle.std.proofs.Common.{◌≡◌, ℕ, ◌+◌, ◌<◌, ◌≤◌, Bool, true, false, ◌&&◌, if◌then◌else◌, List, [], ◌∷◌, ◌++◌, length, Some, refl, sym, ap, ap₂, subst, ◌∙◌, ◌⊎◌, inl, inr, arith, le-leb, le-ltb, lt-ltb}
use Rattle.std.proofs.lemmas.Bool.{lt-leb}
use Rattle.std.proofs.lemmas.Option.{same_Some, slice_get_within}
use Rattle.std.specs.Prelude.{◌-◌, nat_le, nat_lt}
use Rattle.cp_legend_laws.proofs.Words.{CellType, Compounds, Each, Name, Numbering, TypeIs, Variable, array, range_on}
use Rattle.cp_symbols.specs.Kinds as kinds
use Rattle.cp_symbols.specs.Kinds.{most}
use Rattle.cp_layout.specs.Kinds.{array_type}
use Rattle.cp_legend.specs.Names as legend
use Rattle.cp_legend.specs.Places.{has_cell, part, part_name, parts_text, place_name}
use Rattle.cp_meaning.specs.Names.{same_name}
use Rattle.cp_meaning.specs.Types.{Ty, ordinal, queue_type, set_over, array_over, record_with, component_of}
use Rattle.cp_meaning.specs.Values.{Choice}
use Rattle.cp_resolved.specs.Encoded.{chosen_at}
use Rattle.cp_resolved.specs.Layouts.{cells_of, look}
use Rattle.cp_resolved.specs.Resolved.{AreApart}
use Rattle.cp_resolved.proofs.agreeing.ScopeVariables.{Among}
use Rattle.cp_resolved.proofs.frames.Cells.{cells_same}
use Rattle.cp_resolved.proofs.frames.EncodedCells.{HoldEarlier, IsBelow}
use Rattle.cp_resolved.proofs.frames.FrameCells.{itself, same_is}
use Rattle.cp_legend_laws.specs.PlacesTold.{part_text}
use Rattle.cp_legend_laws.proofs.ChosenParts.{IsTellable, part_is, some_cells}
use Rattle.cp_legend_laws.proofs.PartsNamed.{parts_told}

-- ---- variables with cells

module _ (k : Numbering) (ts : Compounds) (names : List Name) (earlier : HoldEarlier ts) (slots : Name → ℕ) (text : Name → Name) where
  -- A variable of the legend has the text for the name of the language's, begins with its cell, and has its type.
  pub record IsLaid (v : Variable) (w : legend.Variable) : Type 0 where
    pub name : w.name ≡ text v.name
    pub slot : w.slot ≡ slots v.name
    pub shape : TypeIs k ts v.ty w.shape

  abbrev pub AreLaid : List Variable → List legend.Variable → Type 0
  AreLaid [] [] = Unit {0}
  AreLaid (v ∷ vs) (w ∷ ws) = IsLaid v w × AreLaid vs ws
  AreLaid [] (w ∷ ws) = ⊥
  AreLaid (v ∷ vs) [] = ⊥

  is_below : (u : Ty) (shape : CellType) → TypeIs k ts u shape → IsBelow (length ts) shape
  is_below (array_over r t) shape h = subst (IsBelow (length ts)) (sym h.is) (slice_get_within ts h.number (array (array_type ts (range_on k r) h.element)) h.there)
  is_below (record_with us) shape h = subst (IsBelow (length ts)) (sym h.is) (slice_get_within ts h.number (kinds.record_with h.fields h.cells) h.there)
  is_below (ordinal r) shape h = subst (IsBelow (length ts)) (sym h) tt
  is_below queue_type shape h = subst (IsBelow (length ts)) (sym h) tt
  is_below (set_over r) shape h = subst (IsBelow (length ts)) (sym h) tt
  is_below (component_of n) shape h = subst (IsBelow (length ts)) (sym h) tt

  -- a variable of these, with few cells
  pub record IsHeld (held : List Variable) (v : Variable) : Type 0 where
    pub there : look v.name held ≡ Some v.ty
    pub few : cells_of v.ty ≤ most

  module _ (held : List Variable) (apart : AreApart slots held) (x : Name) (u : Ty) (found : look x held ≡ Some u) (tell : IsTellable names k.firsts u) (cs : List Choice) (i : ℕ) (p : Ty) (chosen : chosen_at u cs ≡ Some (i, p)) where
    lt : i < cells_of u
    lt =
        let h = part_is names k.firsts cs u i p tell chosen in
        let a = h.part.inside in
        let b = some_cells names k.firsts p h.part.tellable in
        omega (arith, a, b)

    -- the variable itself, and one of another name
    itself_told : (v : Variable) (w : legend.Variable) (ws : List legend.Variable) → IsLaid v w → cells_of v.ty ≤ most → x ≡ v.name → v.ty ≡ u → place_name names ts (w ∷ ws) (slots x + i) (cells_of p) ≡ part_text (text x) u cs
    itself_told v w ws h small same ty =
        let at : w.slot ≡ slots x = h.slot ∙ ap slots (sym same) in
        let shape : TypeIs k ts u w.shape = subst (λ (y : Ty). TypeIs k ts y w.shape) ty h.shape in
        let few : cells_of u ≤ most = subst (λ (y : Ty). cells_of y ≤ most) ty small in
        let many : kinds.cells_of ts w.shape ≡ cells_of u = cells_same k ts u w.shape shape few in
        let offset : (slots x + i) - w.slot ≡ i = omega (arith, at) in
        let low : nat_le w.slot (slots x + i) ≡ true = le-leb w.slot (slots x + i) (omega (arith, at)) in
        let high : nat_lt ((slots x + i) - w.slot) (kinds.cells_of ts w.shape) ≡ true = lt-ltb ((slots x + i) - w.slot) (kinds.cells_of ts w.shape) (omega (arith, offset, many, lt)) in
        ap₂ (λ (a b : Bool). if a && b then part_name names ts w (slots x + i) (cells_of p) else place_name names ts ws (slots x + i) (cells_of p)) low high
        ∙ (ap₂ (λ (y : Name) (j : ℕ). y ++ parts_text names ts (cells_of p) (length ts) (part w.shape j)) (h.name ∙ ap text (sym same)) offset
        ∙ ap (λ (y : Name). text x ++ y) (parts_told k ts names earlier cs u w.shape i p (length ts) (is_below u w.shape shape) shape tell few chosen))

    other_told : (v : Variable) (w : legend.Variable) → IsLaid v w → IsHeld held v → same_name x v.name ≡ false → has_cell ts w (slots x + i) ≡ false
    other_told v w h held_there other = go (apart x v.name u v.ty other found held_there.there)
      where
        at : w.slot ≡ slots v.name
        at = h.slot

        many : kinds.cells_of ts w.shape ≡ cells_of v.ty
        many = cells_same k ts v.ty w.shape h.shape held_there.few

        never : (b : Bool) → (b && false) ≡ false
        never true = refl
        never false = refl

        go : (slots x + cells_of u ≤ slots v.name) ⊎ (slots v.name + cells_of v.ty ≤ slots x) → has_cell ts w (slots x + i) ≡ false
        go (inl before) = ap (λ (b : Bool). b && nat_lt ((slots x + i) - w.slot) (kinds.cells_of ts w.shape)) (lt-leb w.slot (slots x + i) (omega (arith, at, before, lt)))
        go (inr after) =
            ap (λ (b : Bool). nat_le w.slot (slots x + i) && b) (le-ltb ((slots x + i) - w.slot) (kinds.cells_of ts w.shape) (omega (arith, at, many, after)))
            ∙ never (nat_le w.slot (slots x + i))

    -- the first of them that has the cell is the variable
    pub place_told : (vs : List Variable) (ws : List legend.Variable) → Each (IsHeld held) vs → AreLaid vs ws → Among x u vs → place_name names ts ws (slots x + i) (cells_of p) ≡ part_text (text x) u cs
    place_told [] ws each are a = absurd a
    place_told (v ∷ vs) [] each are a = absurd are
    place_told (v ∷ vs) (w ∷ ws) each are a = go (same_name x v.name) refl a (λ b. place_told vs ws each.1 are.1 b)
      where
        go : (b : Bool) → same_name x v.name ≡ b → ((v.name ≡ x) × (v.ty ≡ u)) ⊎ Among x u vs → (Among x u vs → place_name names ts ws (slots x + i) (cells_of p) ≡ part_text (text x) u cs) → place_name names ts (w ∷ ws) (slots x + i) (cells_of p) ≡ part_text (text x) u cs
        go true same b others =
            let is : x ≡ v.name = same_is x v.name same in
            itself_told v w ws are.0 each.0.few is (same_Some v.ty u (sym each.0.there ∙ (ap (λ (y : Name). look y held) (sym is) ∙ found)))
        go false other (inl b) others = absurd (let bad : true ≡ false = sym (itself x) ∙ subst (λ (y : Name). same_name x y ≡ false) b.0 other in cc)
        go false other (inr b) others =
            ap (λ (b : Bool). if b then part_name names ts w (slots x + i) (cells_of p) else place_name names ts ws (slots x + i) (cells_of p)) (other_told v w are.0 each.0 other) ∙ others b
