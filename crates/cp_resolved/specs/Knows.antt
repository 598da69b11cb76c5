-- When what is laid out so far and the layouts say the same of the names where a statement stands.
use Rattle.std.specs.Prelude.{◌≡◌, ◌≤◌, ℕ, true, false, Some, slice_get}
use Rattle.cp_slots.specs.declared.place.PlaceOrigin.{PlaceOrigin}
use Rattle.cp_slots.specs.declared.place.PlaceOrigin.TheVariants.{Permanent}
use Rattle.cp_symbols.specs.declared.kinds.ArrayType.{ArrayType}
use Rattle.cp_symbols.specs.declared.kinds.CellType.{CellType}
use Rattle.cp_symbols.specs.declared.kinds.CellType.TheVariants as types
use Rattle.cp_symbols.specs.declared.names.LayoutMeaning.TheVariants.{Variable, Contained, Bound}
use Rattle.cp_symbols.specs.Kinds.{array, most}
use Rattle.cp_layout.specs.Layers as layers
use Rattle.cp_layout.specs.Layers.{Layer}
use Rattle.cp_layout.specs.LaidExpressions.{component_count}
use Rattle.cp_meaning.specs.Names.{Name}
use Rattle.cp_meaning.specs.Types.{Ty}
use Rattle.cp_meaning.specs.Scopes.{local_variable, permanent_variable, find}
use Rattle.cp_meaning.specs.Systems.{system_of}
use Rattle.cp_resolved.specs.InStep.{Numbering, IsInFrame, InStep}
use Rattle.cp_resolved.specs.Layouts.{cells_of, Here, system_here, frame_here, is_parameter}
use Rattle.cp_resolved.specs.Valued.{IsFull}

pub record Knows (k : Numbering) (h : Here) (l : Layer) : Type 0 where
  pub names : InStep k l.types l.names h.scope
  -- where each name lies
  pub frame : (x : Name) (o : PlaceOrigin) (v : CellType) → layers.find x l.names ≡ Some (Variable o v) → IsInFrame o → (frame_here h).origins x ≡ o
  pub slot : (x : Name) (n : ℕ) (v : CellType) → layers.find x l.names ≡ Some (Variable (Permanent n) v) → (system_here h).slots x ≡ n
  pub first : (x : Name) (n : ℕ) (v : CellType) → layers.find x l.names ≡ Some (Contained n v) → ((system_here h).firsts x ≡ n) × (is_parameter x (system_of h.program h.system).parameters ≡ false)
  pub bound : (x : Name) (n c : ℕ) → layers.find x l.names ≡ Some (Bound n c) → ((system_here h).slots x ≡ n) × (is_parameter x (system_of h.program h.system).parameters ≡ true)
  -- how many components one of a system type is, where there are arrays of them
  pub count : (number n : ℕ) (a : ArrayType) → slice_get l.types number ≡ Some (array a) → a.element ≡ types.System n → component_count l n ≡ (h.layouts.systems n).count
  -- variables have few cells, and no array without elements
  pub local : (x : Name) (t : Ty) → find x h.scope ≡ Some (local_variable t) → (cells_of t ≤ most) × IsFull t
  pub permanent : (x : Name) (t : Ty) → find x h.scope ≡ Some (permanent_variable t) → (cells_of t ≤ most) × IsFull t
