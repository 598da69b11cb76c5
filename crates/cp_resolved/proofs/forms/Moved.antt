-- What is laid out as an argument, or as an assignment, is what its form wants.
use Rattle.std.proofs.Common.{◌≡◌, ◌≤◌, ℕ, ℤ, pos, negsuc, Bool, true, false, ◌&&◌, if◌then◌else◌, nat_le, Option, Some, None, refl, sym, ap, ◌∙◌, arith}
use Rattle.cp_resolved.proofs.Words.{le-leb, CellType, Layer, assign_by_type, Ty, natural_of, Form, as_ordinal, as_set, as_place, as_component, Formed, place_form, cells_of}
use Rattle.cp_resolved.proofs.Words.{ValueGiven, PlaceGiven, GivenBy, AssignedBy, FormIs, ValueIs, IsByte, IsMoved, PassedBy}
use Rattle.cp_layout.specs.declared.layer.Passing.{Passing}
use Rattle.cp_layout.specs.declared.layer.Passing.TheVariants as passing
use Rattle.cp_slots.specs.Code as code
use Rattle.cp_symbols.specs.Kinds as kinds
use Rattle.cp_layout.specs.Values.{Value, load_place, set_place, place_of, ordinal_of, set_of}
use Rattle.cp_layout.specs.LaidExpressions.{byte_or, component_in, argument_for}
use Rattle.cp_meaning.specs.Types as named
use Rattle.cp_resolved.specs.InStep.{Numbering, TypeIs}
use Rattle.cp_resolved.proofs.names.Alike.{same_inside}
use Rattle.cp_resolved.proofs.frames.Cells.{cells_same}

byte_same : (n : ℕ) (z : ℤ) → IsByte z → byte_or n z ≡ natural_of z
byte_same n (pos m) h = ap (λ b. if b && nat_le m 255 then m else n) (le-leb 0 m (omega arith)) ∙ ap (λ b. if b then m else n) (le-leb m 255 h)
byte_same n (negsuc m) h = absurd h

loaded_place : (e : code.OrdinalExpression) (p : code.Place) → place_form (as_ordinal e) ≡ Some p → load_place e ≡ p
loaded_place (code.load q) p h = same_inside q p h
loaded_place e p h = absurd (cc)

loaded_set : (e : code.SetExpression) (p : code.Place) → place_form (as_set e) ≡ Some p → set_place e ≡ p
loaded_set (code.load_set q) p h = same_inside q p h
loaded_set e p h = absurd (cc)

module _ (k : Numbering) (l : Layer) where
  pub place_same : (t : Ty) (f : Form) (v : Value) (p : code.Place) → FormIs k l.types t f v → place_form f ≡ Some p → place_of v ≡ p
  place_same t (as_ordinal e) v p i h = ap place_of i.2 ∙ loaded_place e p h
  place_same t (as_set e) v p i h = ap place_of i ∙ loaded_set e p h
  place_same t (as_place q) v p i h = ap place_of i.1 ∙ same_inside q p h
  place_same t (as_component c) v p i h = absurd (cc)

  -- ---- arguments

  copied : (u t : Ty) (q : code.Place) (v : Value) (x : CellType) (g : code.ArgumentValue) → argument_for l (passing.Constant x) v ≡ code.copy (place_of v) (kinds.cells_of l.types x) → FormIs k l.types t (as_place q) v → TypeIs k l.types u x → cells_of u ≤ kinds.most → t ≡ u → g ≡ code.copy q (cells_of t) → argument_for l (passing.Constant x) v ≡ g
  copied u t q v x g c i w m e h = c ∙ ap (code.copy (place_of v)) (cells_same k l.types u x w m) ∙ ap (λ y. code.copy (place_of y) (cells_of u)) i.1 ∙ ap (λ y. code.copy q (cells_of y)) (sym e) ∙ sym h

  value_same : (u t : Ty) (f : Form) (v : Value) (p : Passing) (g : code.ArgumentValue) → FormIs k l.types t f v → PassedBy k l.types false u p → ValueGiven u t f g → IsMoved u → argument_for l p v ≡ g
  value_same (named.ordinal r) t (as_ordinal c) v p g i w h m =
      ap (λ y. argument_for l y v) w.1 ∙ ap (λ x. argument_for l (passing.Constant x) v) w.2 ∙ ap (λ y. code.scalar (ordinal_of y) r.low r.high) i.2 ∙ sym h
  value_same (named.set_over r) t (as_set b) v p g i w h m =
      ap (λ y. argument_for l y v) w.1
      ∙ ap (λ x. argument_for l (passing.Constant x) v) w.2
      ∙ ap (λ y. code.set (set_of y) (byte_or 0 r.low) (byte_or 255 r.high)) i
      ∙ ap (λ n. code.set b n (byte_or 255 r.high)) (byte_same 0 r.low m.0)
      ∙ ap (code.set b (natural_of r.low)) (byte_same 255 r.high m.1)
      ∙ sym h
  value_same (named.component_of n) t (as_component c) v p g i w h m = ap (λ y. argument_for l y v) w ∙ ap (λ y. code.component_of (component_in y)) i ∙ sym h.1
  value_same (named.array_over r u) t (as_place q) v p g i w h m =
      ap (λ y. argument_for l y v) w.1
      ∙ copied (named.array_over r u) t q v w.0 g (ap (λ x. argument_for l (passing.Constant x) v) w.2.is ∙ ap (λ x. code.copy (place_of v) (kinds.cells_of l.types x)) (sym w.2.is)) i w.2 m h.0 h.1
  value_same (named.record_with us) t (as_place q) v p g i w h m =
      ap (λ y. argument_for l y v) w.1
      ∙ copied (named.record_with us) t q v w.0 g (ap (λ x. argument_for l (passing.Constant x) v) w.2.is ∙ ap (λ x. code.copy (place_of v) (kinds.cells_of l.types x)) (sym w.2.is)) i w.2 m h.0 h.1
  value_same _ t _ v p g i w h m = absurd h

  pub given_same : (b : Bool) (u : Ty) (f : Formed) (v : Value) (p : Passing) (g : code.ArgumentValue) → ValueIs k l.types f v → PassedBy k l.types b u p → GivenBy b u f g → IsMoved u → argument_for l p v ≡ g
  given_same true u f v p g i w h m = go (place_form f.form) refl h
    where
      go : (o : Option code.Place) → place_form f.form ≡ o → PlaceGiven u f.ty o g → argument_for l p v ≡ g
      go (Some q) e d = ap (λ y. argument_for l y v) w ∙ ap code.reference (place_same f.ty f.form v q i e) ∙ sym d.1
      go None e d = absurd d
  given_same false u f v p g i w h m = value_same u f.ty f.form v p g i w h m

  -- ---- assignments

  copies : (u t : Ty) (p q : code.Place) (v : Value) (x : CellType) (a : code.Action) → assign_by_type l p v x ≡ code.copy_cells p (place_of v) (kinds.cells_of l.types x) → FormIs k l.types t (as_place q) v → TypeIs k l.types u x → cells_of u ≤ kinds.most → t ≡ u → a ≡ code.copy_cells p q (cells_of t) → assign_by_type l p v x ≡ a
  copies u t p q v x a c i w m e h = c ∙ ap (code.copy_cells p (place_of v)) (cells_same k l.types u x w m) ∙ ap (λ y. code.copy_cells p (place_of y) (cells_of u)) i.1 ∙ ap (λ y. code.copy_cells p q (cells_of y)) (sym e) ∙ sym h

  pub assigned_same : (u t : Ty) (f : Form) (v : Value) (p : code.Place) (x : CellType) (a : code.Action) → FormIs k l.types t f v → TypeIs k l.types u x → AssignedBy u p t f a → IsMoved u → assign_by_type l p v x ≡ a
  assigned_same (named.ordinal r) t (as_ordinal c) v p x a i w h m = ap (assign_by_type l p v) w ∙ ap (λ y. code.assign p (ordinal_of y) r.low r.high) i.2 ∙ sym h
  assigned_same (named.set_over r) t (as_set b) v p x a i w h m =
      ap (assign_by_type l p v) w
      ∙ ap (λ y. code.assign_set p (set_of y) (byte_or 0 r.low) (byte_or 255 r.high)) i
      ∙ ap (λ n. code.assign_set p b n (byte_or 255 r.high)) (byte_same 0 r.low m.0)
      ∙ ap (code.assign_set p b (natural_of r.low)) (byte_same 255 r.high m.1)
      ∙ sym h
  assigned_same (named.array_over r u) t (as_place q) v p x a i w h m =
      copies (named.array_over r u) t p q v x a (ap (assign_by_type l p v) w.is ∙ ap (λ y. code.copy_cells p (place_of v) (kinds.cells_of l.types y)) (sym w.is)) i w m h.0 h.1
  assigned_same (named.record_with us) t (as_place q) v p x a i w h m =
      copies (named.record_with us) t p q v x a (ap (assign_by_type l p v) w.is ∙ ap (λ y. code.copy_cells p (place_of v) (kinds.cells_of l.types y)) (sym w.is)) i w m h.0 h.1
  assigned_same _ t _ v p x a i w h m = absurd h
