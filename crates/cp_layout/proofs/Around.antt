-- What is read of a state is read of its surroundings alone.
use Rattle.std.proofs.Common.{◌≡◌, ◌∙◌, ℕ, List, Option, Some, None, Result, Ok, Err, IfOk, refl, sym, ap, rules}
use Rattle.cp_tree.specs.declared.constant.Identifier.{Identifier}
use Rattle.cp_tree.specs.declared.expression.Expression as tree_expression
use Rattle.cp_tree.specs.declared.expression.Selector as tree_selector
use Rattle.cp_tree.specs.declared.expression.FactorKind.{the_lemmas as tree_lemmas}
use Rattle.cp_tree.specs.Syntax as syntax
use Rattle.cp_tree.specs.View.{expression_view, selector_view}
use Rattle.cp_symbols.specs.declared.kinds.CellType.TheVariants as types
use Rattle.cp_symbols.specs.declared.kinds.ArrayType.{ArrayType}
use Rattle.cp_symbols.specs.declared.kinds.CellType.{CellType}
use Rattle.cp_layout.specs.declared.layer.Passing.{Passing}
use Rattle.cp_layout.specs.declared.layer.Passing.TheVariants as passing
use Rattle.cp_layout.specs.declared.layer.Layouter as code_layer
use Rattle.cp_layout.specs.declared.value.Designated as code_designated
use Rattle.cp_slots.specs.Code.{Place, OrdinalExpression, Action}
use Rattle.cp_layout.specs.Values.{Value, Designated, designated_seen, ordinal_of, a_value, a_variable, a_contained, a_component, a_routine, an_entry, a_standard, no_designated}
use Rattle.cp_layout.specs.Layers.{Layer, layer_seen, around_seen, add_item, Lays}
use Rattle.cp_layout.specs.LaidExpressions.{expression, designator, selector, field_of_designated, component_of_array, component_found, element_of_designated, argument_for}
use Rattle.cp_layout.specs.LaidStatements.{Target, target_of, assign_by_type, assignment, assign}
use Rattle.cp_layout.specs.Kinds.{array_of, types_seen}

module _ (l : code_layer.Layouter) where
  field_around : (d : Designated) (x : List ℕ) → field_of_designated (around_seen l.around) d x ≡ field_of_designated (layer_seen l) d x
  unfolding layer_seen
  field_around (a_value v) x = refl
  field_around (a_variable p t) x = refl
  field_around (a_contained n t) x = refl
  field_around (a_component c k) x = refl
  field_around (a_routine r) x = refl
  field_around (an_entry c r) x = refl
  field_around (a_standard r) x = refl
  field_around no_designated x = refl

  of_array : (first : ℕ) (a : ArrayType) (t : CellType) (e : OrdinalExpression) → component_of_array (around_seen l.around) first a t e ≡ component_of_array (layer_seen l) first a t e
  unfolding layer_seen
  of_array first a (types.Ordinal r) e = refl
  of_array first a types.Queue e = refl
  of_array first a (types.Set r) e = refl
  of_array first a (types.Array n) e = refl
  of_array first a (types.Record n) e = refl
  of_array first a (types.System n) e = refl

  found : (first : ℕ) (o : Option ArrayType) (e : OrdinalExpression) → component_found (around_seen l.around) first o e ≡ component_found (layer_seen l) first o e
  found first None e = refl
  found first (Some a) e = of_array first a a.element e

  element_around : (d : Designated) (e : OrdinalExpression) → element_of_designated (around_seen l.around) d e ≡ element_of_designated (layer_seen l) d e
  unfolding layer_seen
  element_around (a_value v) e = refl
  element_around (a_variable p t) e = refl
  element_around (a_contained n t) e = found n (array_of (types_seen l.around.types) t) e
  element_around (a_component c k) e = refl
  element_around (a_routine r) e = refl
  element_around (an_entry c r) e = refl
  element_around (a_standard r) e = refl
  element_around no_designated e = refl

  pub passed_around : (p : Passing) (v : Value) → argument_for (around_seen l.around) p v ≡ argument_for (layer_seen l) p v
  unfolding layer_seen
  passed_around passing.Reference v = refl
  passed_around passing.Component v = refl
  passed_around (passing.Constant (types.Ordinal r)) v = refl
  passed_around (passing.Constant types.Queue) v = refl
  passed_around (passing.Constant (types.Set r)) v = refl
  passed_around (passing.Constant (types.Array n)) v = refl
  passed_around (passing.Constant (types.Record n)) v = refl
  passed_around (passing.Constant (types.System n)) v = refl

  assigned_around : (p : Place) (v : Value) (t : CellType) → assign_by_type (around_seen l.around) p v t ≡ assign_by_type (layer_seen l) p v t
  unfolding layer_seen
  assigned_around p v (types.Ordinal r) = refl
  assigned_around p v types.Queue = refl
  assigned_around p v (types.Set r) = refl
  assigned_around p v (types.Array n) = refl
  assigned_around p v (types.Record n) = refl
  assigned_around p v (types.System n) = refl

  assignment_around : (t : Target) (v : Value) → assignment (around_seen l.around) t v ≡ assignment (layer_seen l) t v
  assignment_around t v = assigned_around t.place v t.value_type

-- ---- selectors

field_view : (i : Identifier) → selector_view (tree_selector.Field i) ≡ syntax.field i
field_view i = search (rules, tree_lemmas)

index_view : (e : tree_expression.Expression) → selector_view (tree_selector.Index e) ≡ syntax.index (expression_view e)
index_view e = search (rules, tree_lemmas)

module _ (s : tree_selector.Selector) (d : Designated) where
  pub field_laid : (l : code_layer.Layouter) (i : Identifier) → s ≡ tree_selector.Field i → (e : Designated) → e ≡ field_of_designated (around_seen l.around) d i.name → selector (layer_seen l) d (selector_view s) ≡ (e, layer_seen l)
  unfolding selector
  field_laid l i is e h = ap (λ x. selector (layer_seen l) d (selector_view x)) is ∙ ap (λ x. selector (layer_seen l) d x) (field_view i) ∙ ap (λ x. (let y : Designated × Layer = (x, layer_seen l) in y)) (sym (h ∙ field_around l d i.name))

  pub element_laid : {E : Type 0} (l : Layer) (m : code_layer.Layouter) (a : tree_expression.Expression) (v : Value) (at : OrdinalExpression) (r : Result code_designated.Designated E) → s ≡ tree_selector.Index a → expression l (expression_view a) ≡ (v, layer_seen m) → at ≡ ordinal_of v
      → IfOk r (λ x. designated_seen x ≡ element_of_designated (around_seen m.around) d at) → Lays designated_seen (selector l d (selector_view s)) (layer_seen m) r
  unfolding selector
  element_laid l m a v at (Ok x) is h e k =
      ap (λ y. selector l d (selector_view y)) is
      ∙ ap (λ y. selector l d y) (index_view a)
      ∙ ap (λ (y : Value × Layer). (let z : Designated × Layer = (element_of_designated y.1 d (ordinal_of y.0), y.1) in z)) h
      ∙ ap (λ y. (let z : Designated × Layer = (element_of_designated (layer_seen m) d y, layer_seen m) in z)) (sym e)
      ∙ ap (λ y. (let z : Designated × Layer = (y, layer_seen m) in z)) (sym (k ∙ element_around m d at))
  element_laid l m a v at (Err x) is h e k = tt

-- ---- assignments

pub assigned_laid : (l : Layer) (at : ℕ) (d : syntax.Designator) (w : Designated) (m : Layer) → designator l d ≡ (w, m) → (t : Target) → t ≡ target_of m w → (e : syntax.Expression) (v : Value) (n : code_layer.Layouter) → expression m e ≡ (v, layer_seen n) → (a : Action)
    → a ≡ assignment (around_seen n.around) t v → assign l at d e ≡ add_item (layer_seen n) at a 0
unfolding assign
assigned_laid l at d w m named t aimed e v n valued a h =
    ap (λ (x : Designated × Layer). (let y : Value × Layer = expression x.1 e in add_item y.1 at (assignment y.1 (target_of x.1 x.0) y.0) 0)) named
    ∙ ap (λ (y : Value × Layer). add_item y.1 at (assignment y.1 (target_of m w) y.0) 0) valued
    ∙ ap (λ x. add_item (layer_seen n) at (assignment (layer_seen n) x v) 0) (sym aimed)
    ∙ ap (λ x. add_item (layer_seen n) at x 0) (sym (h ∙ assignment_around n t v))
