-- Each call in what is laid out of a program is one of a routine, which has a name, and not of an initial statement.
use Rattle.std.proofs.Common.{◌≡◌, ℕ, ◌+◌, ◌<◌, ◌≤◌, ◌&&◌, Bool, true, false, nat_le, nat_lt, if◌then◌else◌, List, [], ◌∷◌, length, Option, Some, None, slice_get, max, refl, sym, ap, subst}
use Rattle.std.proofs.lemmas.Bool.{leb-true, ltb-true}
use Rattle.std.proofs.lemmas.Option.{none-some, same_Some}
use Rattle.std.specs.Str.{bytes_eq}
use Rattle.cp_tree.specs.Syntax as syntax
use Rattle.cp_tree.specs.declared.statement.AssertionKind.{AssertionKind}
use Rattle.cp_tree.specs.declared.statement.Direction.{Direction}
use Rattle.cp_slots.specs.Code as code
use Rattle.cp_slots.specs.Code.{Action, Arm, ComponentPlace, Item, OrdinalExpression, Place}
use Rattle.cp_symbols.specs.Kinds.{Field}
use Rattle.cp_symbols.specs.declared.kinds.ArrayType.{ArrayType}
use Rattle.cp_symbols.specs.declared.kinds.CellType.{CellType}
use Rattle.cp_symbols.specs.declared.kinds.CellType.TheVariants as types
use Rattle.cp_symbols.specs.declared.names.LayoutMeaning.{LayoutMeaning}
use Rattle.cp_symbols.specs.declared.names.LayoutMeaning.TheVariants as meaning
use Rattle.cp_symbols.specs.declared.names.PredeclaredRoutine.{PredeclaredRoutine}
use Rattle.cp_symbols.specs.declared.names.PredeclaredRoutine.TheVariants as predeclared
use Rattle.cp_layout.specs.Kinds.{field_of, array_of}
use Rattle.cp_layout.specs.Values.{Value, Designated, a_variable, a_contained, a_component, a_routine, an_entry, a_standard, ordinal_of}
use Rattle.cp_layout.specs.Layers.{Layer, Frame, Heading, Names, Pending, System, again, add_item, call_need, find, need_inside, pending_need, settle_items, add_items, with_cell, with_room, without_pending}
use Rattle.cp_layout.specs.LaidExpressions.{name_meaning, meaning_of, arguments, arguments_from, component_found, component_of_array, designator, element_found, element_of_designated, entry_among, entry_found, entry_in, entry_of, expression, field_found, field_of_designated, first_value, name_at, selector, selectors, with_count}
use Rattle.cp_layout.specs.LaidDeclarations.{end_of_body}
use Rattle.cp_layout.specs.LaidStatements.{Target, target_of, assign_by_type, assign, standard_action, procedure, check_by, check_invariants, check_before, standard, callee_of, call_of, call_statement, block_item, cycle_item, choose, while_item, until_item, token_of, repeat_items, arms_need, select, origin_of, low_of, high_of, is_down, for_item, initial_of, begin_component, Placed, component_place_of, start_of, start_statement, starts, said_of, assertion, statements, statement, arms, one_arm}
use Rattle.cp_resolved.specs.ItemsStand.{body_items}
use Rattle.cp_resolved.specs.Openings.{Opening}
use Rattle.cp_resolved.specs.Small.{Each}
use Rattle.cp_resolved.proofs.frames.FrameCells.{each_both as each_append}
use Rattle.cp_resolved.proofs.laid.Kept.{changed, selector_kept}
use Rattle.cp_resolved.proofs.laid.Walked.{IsCallee, HasList, CallSteps, never, expression_walked, first_walked, arguments_walked, designator_walked}
use Rattle.cp_resolved.proofs.names.Headed.{IsRoutine}

-- ---- entries of a system type

-- they lie between its numbers
entry_bounds : (s : System) (hs : List Heading) (n : ℕ) (x : List ℕ) (i : ℕ) → entry_among s hs n x ≡ Some i → (s.first ≤ i) × (i < s.initial)
entry_bounds s [] n x i e = absurd (none-some i e)
entry_bounds s (h ∷ hs) n x i e = go (nat_le s.first n) (nat_lt n s.initial) (bytes_eq h.name x) refl refl (entry_bounds s hs (n + 1) x i) e
  where
    go : (a b c : Bool) → nat_le s.first n ≡ a → nat_lt n s.initial ≡ b → (entry_among s hs (n + 1) x ≡ Some i → (s.first ≤ i) × (i < s.initial)) → (if a && (b && c) then Some n else entry_among s hs (n + 1) x) ≡ Some i → (s.first ≤ i) × (i < s.initial)
    go true true true f g rest w =
        let same : n ≡ i = same_Some n i w in
        (subst (λ m. s.first ≤ m) same (leb-true s.first n f), subst (λ m. m < s.initial) same (ltb-true n s.initial g))
    go true true false f g rest w = rest w
    go true false c f g rest w = rest w
    go false b c f g rest w = rest w

-- ---- routines and initial statements by their numbers

abbrev pub HasName : Option Opening → Type 0
HasName None = ⊥
HasName (Some o) = IsRoutine o.name

module _ (os : List Opening) where
  -- a routine has this number
  abbrev pub IsCalled : ℕ → Type 0
  IsCalled n = HasName (slice_get os n)

  abbrev pub CallsRoutine : Action → Type 0
  CallsRoutine (code.call r c b as' o) = IsCalled r
  CallsRoutine a = Unit {0}

  abbrev pub IsName : LayoutMeaning → Type 0
  IsName (meaning.Routine n) = IsCalled n
  IsName m = Unit {0}

  abbrev pub AreEntries : List System → Type 0
  AreEntries ss = (k n : ℕ) (s : System) → slice_get ss k ≡ Some s → s.first ≤ n → n < s.initial → IsCalled n

  -- the names and the entries that can be called are those of routines, and all that is called is
  pub record Calling (l : Layer) : Type 0 where
    pub names : Each (λ d. IsName d.1) l.names
    pub systems : AreEntries l.systems
    pub pending : Each (λ (p : Pending). CallsRoutine p.action) l.pending
    pub items : Each (λ (i : Item). CallsRoutine i.action) l.items

  -- ---- what a designator stands for

  abbrev IsGood : Designated → Type 0
  IsGood d = IsCallee IsCalled d

  contained_good : (n : ℕ) (t : CellType) → IsGood (meaning_of (Some (meaning.Contained n t)))
  contained_good n (types.System k) = tt
  contained_good n _ = tt

  meant_good : (m : LayoutMeaning) → IsName m → IsGood (meaning_of (Some m))
  meant_good (meaning.Contained n t) h = contained_good n t
  meant_good (meaning.Routine n) h = h
  meant_good _ h = tt

  begun_good : (x : List ℕ) (ns : Names) → Each (λ d. IsName d.1) ns → IsGood (meaning_of (find x ns))
  begun_good x [] h = tt
  begun_good x (d ∷ ds) h = go (bytes_eq d.0 x) (begun_good x ds h.1)
    where
      go : (b : Bool) → IsGood (meaning_of (find x ds)) → IsGood (meaning_of (if b then Some d.1 else find x ds))
      go true rest = meant_good d.1 h.0
      go false rest = rest

  entry_good : (c : ComponentPlace) (o : Option ℕ) → ((n : ℕ) → o ≡ Some n → IsCalled n) → IsGood (entry_found c o)
  entry_good c None h = tt
  entry_good c (Some n) h = h n refl

  entry_in_good : (o : Option System) (hs : List Heading) (x : List ℕ) → ((s : System) → o ≡ Some s → (n : ℕ) → s.first ≤ n → n < s.initial → IsCalled n) → (n : ℕ) → entry_in o hs x ≡ Some n → IsCalled n
  entry_in_good None hs x h n e = absurd (none-some n e)
  entry_in_good (Some s) hs x h n e = let w = entry_bounds s hs 0 x n e in h s refl n w.0 w.1

  field_good : (p : Place) (o : Option Field) → IsGood (field_found p o)
  field_good p None = tt
  field_good p (Some f) = tt

  field_selected_good : (l : Layer) (d : Designated) (x : List ℕ) → AreEntries l.systems → IsGood (field_of_designated l d x)
  field_selected_good l (a_variable p t) x h = field_good p (field_of l.types t x)
  field_selected_good l (a_component c k) x h = entry_good c (entry_of l k x) (entry_in_good (slice_get l.systems k) l.headings x (λ s e n. h k n s e))
  field_selected_good l _ x h = tt

  element_good : (p : Place) (o : Option ArrayType) (e : OrdinalExpression) → IsGood (element_found p o e)
  element_good p None e = tt
  element_good p (Some a) e = tt

  component_good : (l : Layer) (n : ℕ) (a : ArrayType) (t : CellType) (e : OrdinalExpression) → IsGood (component_of_array l n a t e)
  component_good l n a (types.System k) e = tt
  component_good l n a _ e = tt

  component_found_good : (l : Layer) (n : ℕ) (o : Option ArrayType) (e : OrdinalExpression) → IsGood (component_found l n o e)
  component_found_good l n None e = tt
  component_found_good l n (Some a) e = component_good l n a a.element e

  element_selected_good : (l : Layer) (d : Designated) (e : OrdinalExpression) → IsGood (element_of_designated l d e)
  element_selected_good l (a_variable p t) e = element_good p (array_of l.types t) e
  element_selected_good l (a_contained n t) e = component_found_good l n (array_of l.types t) e
  element_selected_good l _ e = tt

  selector_good : (l : Layer) (d : Designated) (s : syntax.Selector) → AreEntries l.systems → IsGood (selector l d s).0
  unfolding selector
  selector_good l d (syntax.field i) h = field_selected_good l d i.name h
  selector_good l d (syntax.index e) h = element_selected_good (expression l e).1 d (ordinal_of (expression l e).0)

  selectors_good : (l : Layer) (d : Designated) (ss : syntax.Selectors) → AreEntries l.systems → IsGood d → IsGood (selectors l d ss).0
  unfolding selectors
  selectors_good l d syntax.no_selectors h g = g
  selectors_good l d (syntax.more_selectors s ss) h g =
      selectors_good (selector l d s).1 (selector l d s).0 ss (subst AreEntries (sym (ap (λ (j : Layer). j.systems) (selector_kept l d s))) h) (selector_good l d s h)

  designator_good : (l : Layer) (d : syntax.Designator) → Calling l → IsGood (designator l d).0
  unfolding designator
  designator_good l (syntax.designator i ss) h = selectors_good l (name_meaning l i.name) ss h.systems (begun_good i.name l.names h.names)

  -- ---- small steps

  calling_changed : (l : Layer) (f : Frame) (ps : List Pending) (k : ℕ) → Each (λ (p : Pending). CallsRoutine p.action) ps → Calling l → Calling (changed l f ps k)
  calling_changed l f ps k new h = record { names = h.names; systems = h.systems; pending = new; items = h.items }

  adds : (l : Layer) (at : ℕ) (a : Action) (need : ℕ) → CallsRoutine a → Calling l → Calling (add_item l at a need)
  adds l at a need i h = calling_changed l l.frame (add_item l at a need).pending l.arguments (each_append (λ (p : Pending). CallsRoutine p.action) l.pending _ h.pending (i, tt)) h

  room : (l : Layer) (r : ℕ) → Calling l → Calling (with_room l r)
  room l r h = calling_changed l (with_room l r).frame l.pending l.arguments h.pending h

  cell : (l : Layer) → Calling l → Calling (with_cell l)
  cell l h = calling_changed l (with_cell l).frame l.pending l.arguments h.pending h

  counts : (l : Layer) (k : ℕ) → Calling l → Calling (with_count l k)
  counts l k h = calling_changed l l.frame l.pending (with_count l k).arguments h.pending h

  all_settled : (l : Layer) (ps : List Pending) (next : Option ℕ) → Each (λ (p : Pending). CallsRoutine p.action) ps → Calling l → Calling (add_items l ps next).1
  all_settled l [] next i h = h
  all_settled l (p ∷ ps) next i h =
      let rest : Option ℕ × Layer = add_items l ps next in
      let f : Calling rest.1 = all_settled l ps next i.1 h in
      record { names = f.names; systems = f.systems; pending = f.pending; items = each_append (λ (j : Item). CallsRoutine j.action) rest.1.items _ f.items (i.0, tt) }

  settle : (l : Layer) (next : Option ℕ) → Calling l → Calling (settle_items l next).1
  settle l next h = all_settled (without_pending l) l.pending next h.pending (calling_changed l l.frame [] l.arguments tt h)

  named_called : (l : Layer) (x : List ℕ) (r : ℕ) → Calling l → find x l.names ≡ Some (meaning.Routine r) → IsCalled r
  named_called l x r h e = subst (λ (o : Option LayoutMeaning). IsGood (meaning_of o)) e (begun_good x l.names h.names)

  calls : CallSteps Calling IsCalled ⊥ (λ x. ⊥)
  calls =
      record {
        callee = λ l d h b. designator_good l d h;
        counts = counts;
        call = λ l r at c b as' i e h. adds (with_room (with_cell l) r) at (code.call r c b as' (Some (length l.frame.image))) (call_need (with_cell l) r) i (room (with_cell l) r (cell l h));
        check = λ l r h b e. named_called l syntax.nameless r h e;
      }

  -- ---- assignments, calls and starts

  value_calls : (l : Layer) (e : syntax.Expression) → Calling l → Calling (expression l e).1
  value_calls l e h = expression_walked calls l e h never

  place_calls : (l : Layer) (d : syntax.Designator) → Calling l → Calling (designator l d).1
  place_calls l d h = designator_walked calls l d h never

  no_call : (a : Action) → HasList a → CallsRoutine a
  no_call (code.call r c b as' o) h = absurd h
  no_call _ h = tt

  list_adds : (l : Layer) (at : ℕ) (a : Action) (need : ℕ) → HasList a → Calling l → Calling (add_item l at a need)
  list_adds l at a need i h = adds l at a need (no_call a i) h

  assigns_none : (l : Layer) (p : Place) (v : Value) (t : CellType) → CallsRoutine (assign_by_type l p v t)
  assigns_none l p v (types.Ordinal q) = tt
  assigns_none l p v _ = tt

  performs_none : (q : PredeclaredRoutine) (v : Value) → CallsRoutine (standard_action q v)
  performs_none predeclared.Delay v = tt
  performs_none _ v = tt

  assigned_calls : (l : Layer) (at : ℕ) (d : syntax.Designator) (e : syntax.Expression) → Calling l → Calling (assign l at d e)
  unfolding assign
  assigned_calls l at d e h =
      let x = designator l d in
      let y = expression x.1 e in
      let t : Target = target_of x.1 x.0 in
      adds y.1 at (assign_by_type y.1 t.place y.0 t.value_type) 0 (assigns_none y.1 t.place y.0 t.value_type) (value_calls x.1 e (place_calls l d h))

  handed_calls : (l : Layer) (r : ℕ) (es : syntax.Expressions) → Calling l → Calling (arguments l r es).1
  unfolding arguments
  handed_calls l r es h = let y = arguments_from l r 0 es in counts y.1 (length y.0) (arguments_walked calls l r 0 es h never)

  checked_by_calls : (l : Layer) (at : ℕ) (o : Option LayoutMeaning) → find syntax.nameless l.names ≡ o → Calling l → Calling (check_by l at o)
  unfolding procedure
  checked_by_calls l at (Some (meaning.Routine r)) e h =
      let x = arguments l r syntax.no_expressions in
      adds (with_room x.1 r) at (code.call r code.own false x.0 None) (call_need x.1 r) (named_called l syntax.nameless r h e) (room x.1 r (handed_calls l r syntax.no_expressions h))
  checked_by_calls l at _ e h = h

  checked_calls : (l : Layer) (at : ℕ) → Calling l → Calling (check_invariants l at)
  unfolding check_invariants
  checked_calls l at h = checked_by_calls l at (find syntax.nameless l.names) refl h

  before_calls : (l : Layer) (at : ℕ) (q : PredeclaredRoutine) → Calling l → Calling (check_before l at q)
  before_calls l at predeclared.Delay h = checked_calls l at h
  before_calls l at predeclared.Continue h = checked_calls l at h
  before_calls l at _ h = h

  invoked_as_calls : (l : Layer) (at : ℕ) (d : Designated) (es : syntax.Expressions) → IsGood d → Calling l → Calling (call_of l at (callee_of d) es)
  unfolding standard procedure
  invoked_as_calls l at (a_standard q) es i h = let x = first_value l es in adds (check_before x.1 at q) at (standard_action q x.0) 0 (performs_none q x.0) (before_calls x.1 at q (first_walked calls l es h never))
  invoked_as_calls l at (a_routine r) es i h = let x = arguments l r es in adds (with_room x.1 r) at (code.call r code.own false x.0 None) (call_need x.1 r) i (room x.1 r (handed_calls l r es h))
  invoked_as_calls l at (an_entry c r) es i h = let x = arguments l r es in adds (with_room x.1 r) at (code.call r c true x.0 None) (call_need x.1 r) i (room x.1 r (handed_calls l r es h))
  invoked_as_calls l at _ es i h = adds l at code.nothing 0 tt h

  invoked_calls : (l : Layer) (at : ℕ) (d : syntax.Designator) (es : syntax.Expressions) → Calling l → Calling (call_statement l at d es)
  unfolding call_statement
  invoked_calls l at d es h = let x = designator l d in invoked_as_calls x.1 at x.0 es (designator_good l d h) (place_calls l d h)

  started_as_calls : (l : Layer) (at : ℕ) (o : Option Placed) (es : syntax.Expressions) → Calling l → Calling (start_of l at o es)
  unfolding begin_component
  started_as_calls l at None es h = adds l at code.nothing 0 tt h
  started_as_calls l at (Some p) es h =
      let r : ℕ = initial_of l p.1 in
      let x = arguments l r es in
      adds (with_room x.1 r) at (code.start p.0 r x.0) (call_need x.1 r) tt (room x.1 r (handed_calls l r es h))

  started_calls : (l : Layer) (t : syntax.Start) → Calling l → Calling (start_statement l t)
  unfolding start_statement
  started_calls l t h = let x = designator l t.target in started_as_calls x.1 (name_at t.target) (component_place_of x.0) t.arguments (place_calls l t.target h)

  -- ---- statements

  starts_call : (l : Layer) (ts : List syntax.Start) (next : Option ℕ) → Calling l → Calling (starts l ts next).1
  unfolding starts
  starts_call l [] next h = h
  starts_call l (t ∷ ts) next h = let rest = starts l ts next in settle (start_statement rest.1 t) rest.0 (started_calls rest.1 t (starts_call l ts next h))

  chosen_calls : (l : Layer) (at : ℕ) (e : syntax.Expression) (o q : Option ℕ) → Calling l → Calling (choose l at e o q)
  unfolding choose
  chosen_calls l at e o q h = let x = expression l e in list_adds x.1 at (code.choose (ordinal_of x.0) o q) (max (need_inside x.1.items o) (need_inside x.1.items q)) tt (value_calls l e h)

  while_calls : (l : Layer) (at : ℕ) (e : syntax.Expression) (o : Option ℕ) → Calling l → Calling (while_item l at e o)
  unfolding while_item
  while_calls l at e o h = let x = expression l e in list_adds x.1 at (code.while_do (ordinal_of x.0) o (again x.1)) (max (need_inside x.1.items o) (pending_need x.1)) tt (value_calls l e h)

  until_calls : (l : Layer) (at : ℕ) (e : syntax.Expression) (o : Option ℕ) → Calling l → Calling (until_item l at e o)
  unfolding until_item
  until_calls l at e o h = let x = expression l e in list_adds x.1 at (code.until (ordinal_of x.0) o (again x.1)) (max (need_inside x.1.items o) (pending_need x.1)) tt (value_calls l e h)

  selected_calls : (l : Layer) (at : ℕ) (e : syntax.Expression) (as' : List Arm) → Calling l → Calling (select l at e as')
  unfolding select
  selected_calls l at e as' h = let x = expression l e in list_adds x.1 at (code.select (ordinal_of x.0) as') (arms_need x.1 0 as') tt (value_calls l e h)

  for_calls : (l : Layer) (at : ℕ) (x : List ℕ) (e : syntax.Expression) (d : Direction) (f : syntax.Expression) (o : Option ℕ) → Calling l → Calling (for_item l at x e d f o)
  unfolding for_item
  for_calls l at x e d f o h =
      let t : Target = target_of l (name_meaning l x) in
      let y = expression (expression l e).1 f in
      list_adds y.1 at (code.for_do (origin_of t.place) (low_of t.value_type) (high_of t.value_type) (ordinal_of (expression l e).0) (ordinal_of y.0) (is_down d) o) (need_inside y.1.items o) tt (value_calls (expression l e).1 f (value_calls l e h))

  assertion_calls : (l : Layer) (at : ℕ) (k : AssertionKind) (e : syntax.Expression) → Calling l → Calling (assertion l at k e)
  unfolding assertion
  assertion_calls l at k e h = let x = expression l e in list_adds x.1 at (code.assert_that (ordinal_of x.0) (said_of k)) 0 tt (value_calls l e h)

  repeated_calls : (l : Layer) (at : ℕ) (o : Option ℕ) (e : syntax.Expression) (next : Option ℕ) → Calling l → Calling (repeat_items l at o e next).1
  repeated_calls l at o e next h =
      let y = settle_items (until_item l (token_of e) e o) next in
      settle (block_item y.1 at o) y.0 (list_adds y.1 at (code.block o) (need_inside y.1.items o) tt (settle (until_item l (token_of e) e o) next (until_calls l (token_of e) e o h)))

  mutual
    unfolding statements statement arms one_arm

    statements_call : (l : Layer) (ss : syntax.Statements) (after : Option ℕ) → Calling l → Calling (statements l ss after).1
    statements_call l syntax.no_statements after h = h
    statements_call l (syntax.more_statements t ts) after h = statement_calls (statements l ts after).1 t (statements l ts after).0 (statements_call l ts after h)

    statement_calls : (l : Layer) (t : syntax.Statement) (next : Option ℕ) → Calling l → Calling (statement l t next).1
    statement_calls l (syntax.empty at) next h = settle (add_item l at code.nothing 0) next (adds l at code.nothing 0 tt h)
    statement_calls l (syntax.assign at d e) next h = settle (assign l at d e) next (assigned_calls l at d e h)
    statement_calls l (syntax.invoke at d es) next h = settle (call_statement l at d es) next (invoked_calls l at d es h)
    statement_calls l (syntax.block at ss) next h = let x = statements l ss None in settle (block_item x.1 at x.0) next (list_adds x.1 at (code.block x.0) (need_inside x.1.items x.0) tt (statements_call l ss None h))
    statement_calls l (syntax.if_then at e t) next h = let x = statement l t None in settle (choose x.1 at e x.0 None) next (chosen_calls x.1 at e x.0 None (statement_calls l t None h))
    statement_calls l (syntax.if_else at e t u) next h =
        let x = statement l t None in
        let y = statement x.1 u None in
        settle (choose y.1 at e x.0 y.0) next (chosen_calls y.1 at e x.0 y.0 (statement_calls x.1 u None (statement_calls l t None h)))
    statement_calls l (syntax.case_of at e as' q) next h = let x = arms l as' in settle (select x.1 at e x.0) next (selected_calls x.1 at e x.0 (arms_call l as' h))
    statement_calls l (syntax.while_do at e t) next h = let x = statement l t None in settle (while_item x.1 at e x.0) next (while_calls x.1 at e x.0 (statement_calls l t None h))
    statement_calls l (syntax.repeat_until at ss e) next h = let x = statements l ss None in repeated_calls x.1 at x.0 e next (statements_call l ss None h)
    statement_calls l (syntax.for_do at i e d f t) next h = let x = statement l t None in settle (for_item x.1 at i.name e d f x.0) next (for_calls x.1 at i.name e d f x.0 (statement_calls l t None h))
    statement_calls l (syntax.cycle at ss) next h = let x = statements l ss None in settle (cycle_item x.1 at x.0) next (list_adds x.1 at (code.cycle x.0) (need_inside x.1.items x.0) tt (statements_call l ss None h))
    statement_calls l (syntax.init at ts) next h = starts_call l ts next h
    statement_calls l (syntax.asserted at k e t) next h = let x = statement l t next in settle (assertion x.1 at k e) x.0 (assertion_calls x.1 at k e (statement_calls l t next h))

    arms_call : (l : Layer) (as' : syntax.Arms) → Calling l → Calling (arms l as').1
    arms_call l syntax.no_arms h = h
    arms_call l (syntax.more_arms a as') h = arms_call (one_arm l a).1 as' (arm_calls l a h)

    arm_calls : (l : Layer) (a : syntax.Arm) → Calling l → Calling (one_arm l a).1
    arm_calls l (syntax.arm labels t) h = statement_calls l t None h

  -- ---- bodies

  ended_calls : (l : Layer) (checks : Bool) → Calling l → Calling (end_of_body l checks).1
  ended_calls l true h = settle (check_invariants l 0) None (checked_calls l 0 h)
  ended_calls l false h = settle l None h

  pub body_calls : (l : Layer) (ss : syntax.Statements) (checks : Bool) → Calling l → Calling (body_items l ss checks).1
  body_calls l ss checks h = let x = end_of_body l checks in statements_call x.1 ss x.0 (ended_calls l checks h)
