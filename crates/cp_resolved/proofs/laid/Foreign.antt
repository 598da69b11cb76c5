-- Where statements avoid a routine's own name, no item that is laid out of them calls the routine.
use Rattle.std.proofs.Common.{◌≡◌, ℕ, List, [], ◌∷◌, length, Option, Some, None, sym, ap, subst, ◌∙◌, arith}
use Rattle.cp_resolved.proofs.Words.{CellType, ArrayType, LayoutMeaning, PredeclaredRoutine, Each, Bool, true}
use Rattle.cp_tree.specs.Syntax as syntax
use Rattle.cp_symbols.specs.declared.kinds.CellType.TheVariants as types
use Rattle.cp_symbols.specs.declared.names.LayoutMeaning.TheVariants as meaning
use Rattle.cp_symbols.specs.declared.names.PredeclaredRoutine.TheVariants as predeclared
use Rattle.cp_slots.specs.Code as code
use Rattle.cp_slots.specs.Code.{Place, OrdinalExpression, ComponentPlace, Action, Item}
use Rattle.cp_symbols.specs.Kinds.{Field}
use Rattle.cp_layout.specs.Kinds.{field_of, array_of}
use Rattle.cp_layout.specs.Values.{Value, Designated, a_variable, a_contained, a_component, a_routine, an_entry, ordinal_of}
use Rattle.cp_layout.specs.Layers.{Layer, Frame, Pending, find, with_cell, with_room, add_items, settle_items, without_pending, add_item, call_need}
use Rattle.cp_layout.specs.LaidExpressions.{meaning_of, name_meaning, field_found, entry_found, entry_of, field_of_designated, element_found, component_of_array, component_found, element_of_designated, with_count, expression, designator, selectors, selector}
use Rattle.cp_layout.specs.LaidStatements.{assign_by_type, standard_action, component_place_of}
use Rattle.cp_resolved.proofs.laid.Avoiding.{AvoidsCall, AvoidStatements}
use Rattle.cp_resolved.proofs.laid.Calling.{designated_kept, designator_there}
use Rattle.cp_resolved.proofs.laid.Kept.{changed, designator_kept}
use Rattle.cp_resolved.proofs.laid.Named.{Named, IsDesignated, DesignatedIn, initial_below}
use Rattle.cp_resolved.proofs.laid.Walked.{IsCallee, IsBegun, HasList, CallSteps, ItemSteps, ListSteps, body_walked}
use Rattle.cp_resolved.proofs.frames.FrameCells.{each_both as each_append}
use Rattle.cp_resolved.specs.ItemsStand.{body_items}

-- ---- items that call another routine

abbrev pub IsForeign : (routine : ℕ) → Action → Type 0
IsForeign n (code.call callee c b as' result) = callee ≡ n → ⊥
IsForeign n (code.start c callee as') = callee ≡ n → ⊥
IsForeign n a = Unit {0}

abbrev pub AreForeign : List Item → Type 0
AreForeign is = Each (λ (i : Item). IsForeign i.routine i.action) is

-- ---- designators

abbrev IsElsewhere : (routine : ℕ) → Designated → Type 0
IsElsewhere n d = IsCallee (λ r. r ≡ n → ⊥) d

contained_elsewhere : (n first : ℕ) (t : CellType) → IsElsewhere n (meaning_of (Some (meaning.Contained first t)))
contained_elsewhere n first (types.System k) = tt
contained_elsewhere n first _ = tt

begun_elsewhere : (n : ℕ) (o : Option LayoutMeaning) → (o ≡ Some (meaning.Routine n) → ⊥) → IsElsewhere n (meaning_of o)
begun_elsewhere n (Some (meaning.Contained first t)) h = contained_elsewhere n first t
begun_elsewhere n (Some (meaning.Routine r)) h = λ e. h (ap (λ (k : ℕ). Some (meaning.Routine k)) e)
begun_elsewhere n _ h = tt

-- what is selected is no routine by its name alone
abbrev IsSelected : Designated → Type 0
IsSelected (a_routine r) = ⊥
IsSelected d = Unit {0}

field_is : (p : Place) (o : Option Field) → IsSelected (field_found p o)
field_is p None = tt
field_is p (Some f) = tt

entry_is : (c : ComponentPlace) (o : Option ℕ) → IsSelected (entry_found c o)
entry_is c None = tt
entry_is c (Some r) = tt

field_selected_is : (l : Layer) (d : Designated) (x : List ℕ) → IsSelected (field_of_designated l d x)
field_selected_is l (a_variable p t) x = field_is p (field_of l.types t x)
field_selected_is l (a_component c k) x = entry_is c (entry_of l k x)
field_selected_is l _ x = tt

element_is : (p : Place) (o : Option ArrayType) (e : OrdinalExpression) → IsSelected (element_found p o e)
element_is p None e = tt
element_is p (Some a) e = tt

component_is : (l : Layer) (n : ℕ) (a : ArrayType) (t : CellType) (e : OrdinalExpression) → IsSelected (component_of_array l n a t e)
component_is l n a (types.System k) e = tt
component_is l n a _ e = tt

component_found_is : (l : Layer) (n : ℕ) (o : Option ArrayType) (e : OrdinalExpression) → IsSelected (component_found l n o e)
component_found_is l n None e = tt
component_found_is l n (Some a) e = component_is l n a a.element e

element_selected_is : (l : Layer) (d : Designated) (e : OrdinalExpression) → IsSelected (element_of_designated l d e)
element_selected_is l (a_variable p t) e = element_is p (array_of l.types t) e
element_selected_is l (a_contained n t) e = component_found_is l n (array_of l.types t) e
element_selected_is l _ e = tt

selector_is : (l : Layer) (d : Designated) (s : syntax.Selector) → IsSelected (selector l d s).0
unfolding selector
selector_is l d (syntax.field i) = field_selected_is l d i.name
selector_is l d (syntax.index e) = element_selected_is (expression l e).1 d (ordinal_of (expression l e).0)

selectors_are : (l : Layer) (d : Designated) (ss : syntax.Selectors) → IsSelected d → IsSelected (selectors l d ss).0
unfolding selectors
selectors_are l d syntax.no_selectors h = h
selectors_are l d (syntax.more_selectors s ss) h = selectors_are (selector l d s).1 (selector l d s).0 ss (selector_is l d s)

selected_elsewhere : (systems routines n : ℕ) (d : Designated) → routines ≡ n → IsDesignated systems routines d → IsSelected d → IsElsewhere n d
selected_elsewhere systems routines n (a_routine r) e h is = absurd is
selected_elsewhere systems routines n (an_entry c r) e h is = λ same. omega (arith, same, e, h)
selected_elsewhere systems routines n _ e h is = tt

-- ---- what is laid out while routine n is

pub record Fine (P : List ℕ → Type 0) (n : ℕ) (l : Layer) : Type 0 where
  pub number : length l.routines ≡ n
  pub own : (x : List ℕ) → find x l.names ≡ Some (meaning.Routine n) → P x
  pub named : Named l
  pub pending : Each (λ (p : Pending). IsForeign n p.action) l.pending
  pub items : AreForeign l.items

module _ (P : List ℕ → Type 0) (n : ℕ) where
  fine_changed : (l : Layer) (f : Frame) (ps : List Pending) (k : ℕ) → Each (λ (p : Pending). IsForeign n p.action) ps → Fine P n l → Fine P n (changed l f ps k)
  fine_changed l f ps k new h = record { number = h.number; own = h.own; named = record { names = h.named.names; types = h.named.types; systems = h.named.systems }; pending = new; items = h.items }

  fine_added : (l : Layer) (at : ℕ) (a : Action) (need : ℕ) → IsForeign n a → Fine P n l → Fine P n (add_item l at a need)
  fine_added l at a need foreign h = fine_changed l l.frame (add_item l at a need).pending l.arguments (each_append (λ (p : Pending). IsForeign n p.action) l.pending _ h.pending (foreign, tt)) h

  fine_room : (l : Layer) (r : ℕ) → Fine P n l → Fine P n (with_room l r)
  fine_room l r h = fine_changed l (with_room l r).frame l.pending l.arguments h.pending h

  fine_cell : (l : Layer) → Fine P n l → Fine P n (with_cell l)
  fine_cell l h = fine_changed l (with_cell l).frame l.pending l.arguments h.pending h

  fine_count : (l : Layer) (k : ℕ) → Fine P n l → Fine P n (with_count l k)
  fine_count l k h = fine_changed l l.frame l.pending (with_count l k).arguments h.pending h

  all_settled : (l : Layer) (ps : List Pending) (next : Option ℕ) → Each (λ (p : Pending). IsForeign n p.action) ps → Fine P n l → Fine P n (add_items l ps next).1
  all_settled l [] next foreign h = h
  all_settled l (p ∷ ps) next foreign h =
      let rest : Option ℕ × Layer = add_items l ps next in
      let f : Fine P n rest.1 = all_settled l ps next foreign.1 h in
      let here : IsForeign (length rest.1.routines) p.action = subst (λ k. IsForeign k p.action) (sym f.number) foreign.0 in
      record {
        number = f.number;
        own = f.own;
        named = record { names = f.named.names; types = f.named.types; systems = f.named.systems };
        pending = f.pending;
        items = each_append (λ (i : Item). IsForeign i.routine i.action) rest.1.items _ f.items (here, tt);
      }

  fine_settled : (l : Layer) (next : Option ℕ) → Fine P n l → Fine P n (settle_items l next).1
  fine_settled l next h = all_settled (without_pending l) l.pending next h.pending (fine_changed l l.frame [] l.arguments tt h)

  designator_elsewhere : (l : Layer) (d : syntax.Designator) → Fine P n l → AvoidsCall P d → IsElsewhere n (designator l d).0
  unfolding designator selectors
  designator_elsewhere l (syntax.designator i syntax.no_selectors) h avoids = begun_elsewhere n (find i.name l.names) (λ e. avoids.0 (h.own i.name e))
  designator_elsewhere l (syntax.designator i (syntax.more_selectors s ss)) h avoids =
      selected_elsewhere (length l.systems) (length l.routines) n (designator l (syntax.designator i (syntax.more_selectors s ss))).0 h.number (designator_there l (syntax.designator i (syntax.more_selectors s ss)) h.named) (selectors_are (selector l (name_meaning l i.name) s).1 (selector l (name_meaning l i.name) s).0 ss (selector_is l (name_meaning l i.name) s))

  -- ---- statements

  fine_calls : CallSteps (Fine P n) (λ r. r ≡ n → ⊥) (Unit {0}) P
  fine_calls =
      record {
        callee = λ l d h b. designator_elsewhere l d h (b tt);
        counts = fine_count;
        call = λ l r at c b as' other e h. fine_added (with_room (with_cell l) r) at (code.call r c b as' (Some (length l.frame.image))) (call_need (with_cell l) r) other (fine_room (with_cell l) r (fine_cell l h));
        check = λ l r h b e same. b tt (h.own syntax.nameless (e ∙ ap (λ j. Some (meaning.Routine j)) same));
      }

  assigned_foreign : (l : Layer) (p : Place) (v : Value) (t : CellType) → IsForeign n (assign_by_type l p v t)
  assigned_foreign l p v (types.Ordinal q) = tt
  assigned_foreign l p v _ = tt

  performed_foreign : (p : PredeclaredRoutine) (v : Value) → IsForeign n (standard_action p v)
  performed_foreign predeclared.Delay v = tt
  performed_foreign _ v = tt

  list_foreign : (a : Action) → HasList a → IsForeign n a
  list_foreign (code.call r c b as' o) h = absurd h
  list_foreign (code.start c r as') h = absurd h
  list_foreign _ h = tt

  begun_other : (l : Layer) (d : Designated) → Fine P n l → DesignatedIn l d → IsBegun (λ r. r ≡ n → ⊥) l (component_place_of d)
  begun_other l (a_component c k) f h =
      let lt = initial_below l k f.named h in
      let e : length l.routines ≡ n = f.number in
      λ same. omega (arith, same, lt, e)
  begun_other l _ f h = tt

  fine_items : ItemSteps (Fine P n) (λ r. r ≡ n → ⊥)
  fine_items =
      record {
        nothing = λ l at h. fine_added l at code.nothing 0 tt h;
        assigns = λ l at p v t h. fine_added l at (assign_by_type l p v t) 0 (assigned_foreign l p v t) h;
        performs = λ l at q v h. fine_added l at (standard_action q v) 0 (performed_foreign q v) h;
        invokes = λ l r at c b as' other e h. fine_added (with_room l r) at (code.call r c b as' None) (call_need l r) other (fine_room l r h);
        begins = λ l d h i. begun_other (designator l d).1 (designator l d).0 i (designated_kept l (designator l d).1 (designator l d).0 (designator_kept l d) (designator_there l d h.named));
        start = λ l r at c as' other e h. fine_added (with_room l r) at (code.start c r as') (call_need l r) other (fine_room l r h);
      }

  fine_lists : ListSteps (Fine P n)
  fine_lists = record { lists = λ l at a need i h. fine_added l at a need (list_foreign a i) h; settle = fine_settled }

  pub body_fine : (l : Layer) (ss : syntax.Statements) (checks : Bool) → Fine P n l → AvoidStatements P ss → (checks ≡ true → P syntax.nameless → ⊥) → Fine P n (body_items l ss checks).1
  body_fine l ss checks h avoids none = body_walked fine_calls fine_items fine_lists l ss checks h (λ b. (avoids, none))
