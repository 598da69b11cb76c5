-- Where an expression has a form, the value that is laid out is of this form, and each of its calls takes the next cell of the frame.
use Rattle.std.proofs.Common.{◌≡◌, ◌+◌, ℕ, suc, nat_le, ℤ, pos, Bool, true, false, if◌then◌else◌, List, [], ◌∷◌, ◌++◌, length, Option, Some, None, slice_get, refl, sym, ap, subst, ◌∙◌, arith}
use Rattle.cp_resolved.proofs.Words.{Identifier, LayoutMeaning, FunctionResult, RoutineView, Layer, result_of, Name, temporary, Base, Ty, has_components, is_within, Item}
use Rattle.cp_resolved.proofs.Words.{function_call, range_of_base, RoutineMeaning, routine_in, result_type, system_of, routine_called, routine_meant, routine_of_type}
use Rattle.cp_resolved.proofs.Words.{result_called, Here, frame_here, is_parameter, Chosen, field_chosen, FormIs, ValueIs, DesignatedIs, Knows}
use Rattle.cp_tree.specs.Syntax as syntax
use Rattle.cp_slots.specs.declared.place.PlaceOrigin.TheVariants as origin
use Rattle.cp_symbols.specs.declared.kinds.CellBase.TheVariants as base
use Rattle.cp_symbols.specs.declared.names.LayoutMeaning.TheVariants as meaning
use Rattle.cp_slots.specs.Code as code
use Rattle.cp_layout.specs.Values as values
use Rattle.cp_layout.specs.Values.{Value, ordinal_value, set_value, number_value, value_loaded_from, place_at, ordinal_of}
use Rattle.cp_layout.specs.Layers as layers
use Rattle.cp_layout.specs.LaidExpressions as laid
use Rattle.cp_layout.specs.LaidExpressions.{name_meaning, meaning_of, field_of_designated, element_of_designated, entry_of, entry_found, value_of_meaning, function_as, call_value, with_their_count, as_integer, expression, sum, more_terms, term, more_factors, factor, elements, first_value, arguments_from, designator, selectors, selector}
use Rattle.cp_meaning.specs.Types as named
use Rattle.cp_meaning.specs.Scopes as scopes
use Rattle.cp_meaning.specs.Lifting.{last_field, is_call_meant, own_call, expression_calls, sum_calls, terms_calls, term_calls, factors_calls, factor_calls, expressions_calls, selectors_calls}
use Rattle.cp_resolved.specs.Compiled.{component_begun, element_of_form, field_of_form, part_of_form, Form, as_ordinal, Formed, then_form, Designated, a_variable, some_components, a_component, constant_form, call_form, named_form, valued_form, compared_forms, with_element_form, with_field_form, with_index_form, ordinal_form, permanent_begun, begun_form, signed_form, added_forms, multiplied_forms, not_form, applied_form, with_member_form, set_form, expression_form, sum_form, terms_form, term_form, factors_form, factor_form, members_form, first_form, designator_form, selected_form}
use Rattle.cp_resolved.specs.InStep.{Numbering, base_of, TypeIs, FoundIs, predeclared_as}
use Rattle.cp_resolved.specs.Used.{AreNext, AreEntry, IsOne, HasResult, IsFunction, AreFormed, UsedAs, IsUsed, SumUsed, TermsUsed, TermUsed, FactorsUsed, FactorUsed, AreUsed, SelectorsUsed, ResultsAre, system_type, EntryIs, KnowsCalls}
use Rattle.cp_resolved.proofs.names.Alike.{same_inside}
use Rattle.cp_resolved.proofs.laid.Kept.{Kept, kept_trans, expression_kept, sum_kept, term_kept, factor_kept, designator_kept}
use Rattle.cp_resolved.proofs.names.Steps.{found_in}
use Rattle.cp_resolved.proofs.forms.Selecting.{loaded_same}
use Rattle.cp_resolved.proofs.forms.Designating.{IsNoRoutine, begun_same, without_components, element_same, field_same}
use Rattle.cp_resolved.proofs.forms.Operations as operations
use Rattle.cp_resolved.proofs.forms.Applied.{applied_same}

-- ---- forms that come from others

pub inside : {A B : Type 0} (o : Option A) (go : A → Option B) (z : B) → then_form o go ≡ Some z → (x : A) × (o ≡ Some x) × (go x ≡ Some z)
inside None go z e = absurd (cc)
inside (Some x) go z e = (x, refl, e)

-- ---- cells one after the other

-- the cells of the frame
abbrev pub cells : Layer → ℕ
cells l = length l.frame.image

-- after the calls there are as many more cells
abbrev pub TakesFrom : ℕ → Layer → List Item → Type 0
TakesFrom n m is = cells m ≡ n + length is

pub takes_none : (l : Layer) → TakesFrom (cells l) l []
takes_none l = omega arith

pub takes_both : (n : ℕ) (l m : Layer) (is js : List Item) → TakesFrom n l is → TakesFrom (cells l) m js → TakesFrom n m (is ++ js)
takes_both n l m [] js h i = i ∙ ap (λ c. c + length js) h ∙ omega arith
takes_both n l m (x ∷ is) js h i =
    let e : length l.frame.image ≡ suc n + length is = h ∙ omega arith in
    takes_both (suc n) l m is js e i ∙ omega arith

module _ (h : Here) where
  pub next_first : (n : ℕ) (is js : List Item) → AreNext h n (is ++ js) → AreNext h n is
  next_first n [] js a = tt
  next_first n (function_call at d es ∷ is) js a = (a.0, next_first (suc n) is js a.1)
  next_first n _ js a = absurd a

  next_after : (n : ℕ) (is js : List Item) → AreNext h n (is ++ js) → AreNext h (n + length is) js
  next_after n [] js a = subst (λ m. AreNext h m js) (omega arith) a
  next_after n (function_call at d es ∷ is) js a = subst (λ m. AreNext h m js) (omega arith) (next_after (suc n) is js a.1)
  next_after n _ js a = absurd a

  pub next_rest : (n : ℕ) (l : Layer) (is js : List Item) → TakesFrom n l is → AreNext h n (is ++ js) → AreNext h (cells l) js
  next_rest n l is js e a = subst (λ m. AreNext h m js) (sym e) (next_after n is js a)

-- ---- components and their entries

abbrev pub Parts : ℕ → Designated → Type 0
Parts n (a_variable p t) = ⊥
Parts n (some_components first r k) = k ≡ n
Parts n (a_component c k) = k ≡ n

-- a component's routine is not named in the middle
abbrev pub NoEntry : Designated → syntax.Selectors → Type 0
NoEntry (a_variable p t) ss = Unit {0}
NoEntry _ ss = last_field ss ≡ None

pub no_entry : (d : Designated) (ss : syntax.Selectors) → last_field ss ≡ None → NoEntry d ss
no_entry (a_variable p t) ss e = tt
no_entry _ ss e = e

last_after : (e : syntax.Expression) (ss : syntax.Selectors) → last_field (syntax.more_selectors (syntax.index e) ss) ≡ None → last_field ss ≡ None
last_after e syntax.no_selectors h = refl
last_after e (syntax.more_selectors s ss) h = h

base_kept : (k : Numbering) (b : Base) → base_of k (range_of_base b).base ≡ base_of k b
base_kept k named.integers = refl
base_kept k _ = refl

number_kept : (n : ℕ) (b : Bool) → nat_le n 32767 ≡ b → (z f : Formed) → (if b then Some f else None) ≡ Some z → as_integer n ≡ pos n
number_kept n true e z f h = ap (λ c. if c then pos n else pos 32767) e
number_kept n false e z f h = absurd (cc)

pub regrouped : (is js ks : List Item) → is ++ js ++ ks ≡ is ++ (js ++ ks)
regrouped [] js ks = refl
regrouped (i ∷ is) js ks = ap (λ xs. i ∷ xs) (regrouped is js ks)

last_same : (e : syntax.Expression) (ss : syntax.Selectors) → AreEntry ss → last_field (syntax.more_selectors (syntax.index e) ss) ≡ last_field ss
last_same e syntax.no_selectors h = absurd h
last_same e (syntax.more_selectors s ss) h = refl

module _ (k : Numbering) (h : Here) (b : Layer) (g : Knows k h b) (calls : KnowsCalls k h b) where
  -- ---- what stays as it was where the statement begins

  pub same_begun : (l : Layer) (x : Name) → Kept b l → name_meaning l x ≡ name_meaning b x
  same_begun l x e = ap (λ m. name_meaning m x) e

  pub same_element : (l : Layer) (d : values.Designated) (c : code.OrdinalExpression) → Kept b l → element_of_designated l d c ≡ element_of_designated b d c
  same_element l d c e = ap (λ m. element_of_designated m d c) e

  same_field : (l : Layer) (d : values.Designated) (x : Name) → Kept b l → field_of_designated l d x ≡ field_of_designated b d x
  same_field l d x e = ap (λ m. field_of_designated m d x) e

  pub same_result : (l : Layer) (n : ℕ) → Kept b l → result_of l n ≡ result_of b n
  same_result l n e = ap (λ m. result_of m n) e

  -- ---- what is answered

  pub record Is (f : Formed) (n : ℕ) (x : Value × Layer) (is : List Item) : Type 0 where
    pub value : ValueIs k b.types f x.0
    pub taken : TakesFrom n x.1 is

  pub record Selected (d : Designated) (n : ℕ) (x : values.Designated × Layer) (is : List Item) : Type 0 where
    pub leads : DesignatedIs k b.types d x.0
    pub taken : TakesFrom n x.1 is

  pub record Members (s : code.SetExpression) (n : ℕ) (x : code.SetExpression × Layer) (is : List Item) : Type 0 where
    pub set : x.0 ≡ s
    pub taken : TakesFrom n x.1 is

  abbrev pub entry_named : ℕ → Option Name → Option ℕ
  entry_named n None = None
  entry_named n (Some x) = entry_of b n x

  pub record Entered (q : Designated) (c : ℕ) (o : Option Name) (n : ℕ) (x : values.Designated × Layer) (is : List Item) : Type 0 where
    pub part : code.ComponentPlace
    pub is_part : q ≡ a_component part c
    pub leads : x.0 ≡ entry_found part (entry_named c o)
    pub taken : TakesFrom n x.1 is

  -- ---- constants

  constant_is : (a : Base) (z : ℤ) (f : Formed) (v : Value) → v ≡ number_value z (base_of k a) → constant_form a z ≡ Some f → ValueIs k b.types f v
  constant_is a z f v e i = go (is_within (range_of_base a) z) i
    where
      go : (c : Bool) → (if c then Some (record { ty = named.ordinal (range_of_base a); form = as_ordinal (code.number z) }) else None) ≡ Some f → ValueIs k b.types f v
      go true j = subst (λ y. ValueIs k b.types y v) (same_inside _ f j) (range_of_base a, refl, e ∙ ap (ordinal_value (code.number z)) (sym (base_kept k a)))
      go false j = absurd (cc)

  number_is : (n : ℕ) (f : Formed) → constant_form named.integers (pos n) ≡ Some f → ValueIs k b.types f (number_value (as_integer n) base.Integer)
  number_is n f e = constant_is named.integers (pos n) f (number_value (as_integer n) base.Integer) (ap (λ z. number_value z base.Integer) (number_kept n (nat_le n 32767) refl f (record { ty = named.ordinal (range_of_base named.integers); form = as_ordinal (code.number (pos n)) }) e)) e

  pub constant_found : (x : Name) (p : Option LayoutMeaning) (a : Base) (z : ℤ) (s : scopes.Scope) → layers.find x b.names ≡ p → FoundIs k b.types p (Some (scopes.constant_meaning a z)) s → name_meaning b x ≡ values.a_value (number_value z (base_of k a))
  constant_found x None a z s i f = absurd f
  constant_found x (Some m) a z s i f = ap meaning_of i ∙ ap (λ n. meaning_of (Some n)) f.0

  -- ---- calls

  cell_is : (at : ℕ) (n : ℕ) (t : Ty) (z : Formed) (v : FunctionResult) → (frame_here h).origins (temporary at) ≡ origin.Local n → TypeIs k b.types t v.value_type → call_form h at t ≡ Some z → ValueIs k b.types z (value_loaded_from (place_at (origin.Local n)) v.value_type)
  cell_is at n (named.ordinal r) z v o t e = subst (λ y. ValueIs k b.types y (value_loaded_from (place_at (origin.Local n)) v.value_type)) (same_inside _ z e) (
      (r, refl, ap (value_loaded_from (place_at (origin.Local n))) t ∙ ap (λ q. ordinal_value (code.load (place_at q)) (base_of k r.base)) (sym o)))
  cell_is at n x z v o t e = absurd (cc)

  room_kept : (f : layers.Frame) (o : Option RoutineView) → length (layers.frame_with f o).image ≡ length f.image
  room_kept f None = refl
  room_kept f (Some r) = refl

  one_cell : (zs : List ℤ) → length (zs ++ pos 0 ∷ []) ≡ length zs + 1
  one_cell [] = refl
  one_cell (z ∷ zs) = ap suc (one_cell zs) ∙ omega arith

  -- a call of a function takes the cell after those of its arguments
  call_is : (n : ℕ) (at : ℕ) (d : syntax.Designator) (es : syntax.Expressions) (m : Layer) (c : code.ComponentPlace) (e : Bool) (r : ℕ) (t : Ty) (o : Option FunctionResult) (as' : Layer → ℕ → List code.Argument × Layer) (is : List Item) (z : Formed) →
      ResultsAre k b.types (Some t) o → TakesFrom n (as' m r).1 is → AreNext h n (is ++ function_call at d es ∷ []) → call_form h at t ≡ Some z → Is z n (function_as m at c e r o as') (is ++ function_call at d es ∷ [])
  call_is n at d es m c e r t None as' is z v i a f = absurd v
  call_is n at d es m c e r t (Some w) as' is z v i a f =
      let l : Layer = (as' m r).1 in
      let x : Layer = (call_value (with_their_count (as' m r)).1 at c e r w (as' m r).0).1 in
      let taken : length x.frame.image ≡ length l.frame.image + 1 = room_kept (layers.with_cell (with_their_count (as' m r)).1).frame (slice_get l.routines r) ∙ one_cell l.frame.image in
      record {
        value = cell_is at (length l.frame.image) t z w ((next_rest h n l is (function_call at d es ∷ []) i a).0) v f;
        taken = takes_both n l x is (function_call at d es ∷ []) i taken;
      }

  pub result_given : (r : RoutineMeaning) (o : Option Ty) (w : Option FunctionResult) → r.result ≡ o → HasResult o → ResultsAre k b.types o w → ResultsAre k b.types (Some (result_type r.result)) w
  result_given r None w e i v = absurd i
  result_given r (Some t) w e i v = subst (λ u. ResultsAre k b.types (Some (result_type u)) w) (sym e) v

  own_found : (x : Name) (p : Option LayoutMeaning) (r : syntax.Routine) → layers.find x b.names ≡ p → FoundIs k b.types p (Some (scopes.routine_meaning r)) (scopes.since x h.scope) →
      (n : ℕ) × (name_meaning b x ≡ values.a_routine n) × ResultsAre k b.types (routine_in (scopes.since x h.scope) r).result (result_of b n)
  own_found x None r i f = absurd f
  own_found x (Some m) r i f =
      let there : layers.find x b.names ≡ Some (meaning.Routine f.0) = i ∙ ap (λ q. Some q) f.1 in
      (f.0, ap meaning_of there, subst (λ q. ResultsAre k b.types q.result (result_of b f.0)) f.2 (calls.own x f.0 there))

  -- ---- selectors

  pub ordinal_is : (t : Ty) (f : Form) (v : Value) (c : code.OrdinalExpression) → FormIs k b.types t f v → ordinal_form f ≡ Some c → ordinal_of v ≡ c
  ordinal_is t (as_ordinal e) v c i f = ap ordinal_of i.2 ∙ same_inside e c f
  ordinal_is t x v c i f = absurd (cc)

  pub index_is : (d q : Designated) (x : values.Designated) (a : Formed) (v : Value) → DesignatedIs k b.types d x → ValueIs k b.types a v → with_index_form h d a ≡ Some q → DesignatedIs k b.types q (element_of_designated b x (ordinal_of v))
  index_is d q x a v i j f =
      let p : (c : code.OrdinalExpression) × (ordinal_form a.form ≡ Some c) × (with_element_form h d c ≡ Some q) = inside (ordinal_form a.form) (with_element_form h d) q f in
      subst (λ o. DesignatedIs k b.types q (element_of_designated b x o)) (sym (ordinal_is a.ty a.form v p.0 j p.1)) (element_same k h b g d q x p.0 i p.2)

  element_stays : (t : Ty) (w : code.Place) (c : code.OrdinalExpression) (q : Designated) (ss : syntax.Selectors) → element_of_form t w c ≡ Some q → NoEntry q ss
  element_stays (named.array_over r u) (code.place o n is) c q ss e = subst (λ y. NoEntry y ss) (same_inside _ q e) tt
  element_stays x w c q ss e = absurd (cc)

  pub goes_on : (d : Designated) (a : Formed) (q : Designated) (o : syntax.Expression) (ss : syntax.Selectors) → NoEntry d (syntax.more_selectors (syntax.index o) ss) → with_index_form h d a ≡ Some q → NoEntry q ss
  goes_on (a_variable w t) a q o ss e f =
      let p : (c : code.OrdinalExpression) × (ordinal_form a.form ≡ Some c) × (with_element_form h (a_variable w t) c ≡ Some q) = inside (ordinal_form a.form) (with_element_form h (a_variable w t)) q f in
      element_stays t w p.0 q ss p.2
  goes_on _ a q o ss e f = no_entry q ss (last_after o ss e)

  field_stays : (w : code.Place) (us : named.FieldTypes) (y : Name) (q : Designated) (ss : syntax.Selectors) → field_of_form (named.record_with us) w y ≡ Some q → NoEntry q ss
  field_stays (code.place o n is) us y q ss e =
      let p : (c : Chosen) × (field_chosen us y ≡ Some c) × (Some (part_of_form (code.place o n is) c) ≡ Some q) = inside (field_chosen us y) _ q e in
      subst (λ v. NoEntry v ss) (same_inside _ q p.2) tt

  pub stays : (w : code.Place) (t : Ty) (y : Name) (q : Designated) (ss : syntax.Selectors) → with_field_form (a_variable w t) y ≡ Some q → NoEntry q ss
  stays w (named.record_with us) y q ss e = field_stays w us y q ss e
  stays w x y q ss e = absurd (cc)

  part_of : (c : ℕ) (d : Designated) (a : Formed) (q : Designated) → Parts c d → with_index_form h d a ≡ Some q → Parts c q
  part_of c (a_variable w t) a q e f = absurd e
  part_of c (some_components o r n) a q e f =
      let p : (x : code.OrdinalExpression) × (ordinal_form a.form ≡ Some x) × (with_element_form h (some_components o r n) x ≡ Some q) = inside (ordinal_form a.form) (with_element_form h (some_components o r n)) q f in
      subst (λ y. Parts c y) (same_inside _ q p.2) e
  part_of c (a_component o n) a q e f =
      let p : (x : code.OrdinalExpression) × (ordinal_form a.form ≡ Some x) × (with_element_form h (a_component o n) x ≡ Some q) = inside (ordinal_form a.form) (with_element_form h (a_component o n)) q f in
      absurd (let w : with_element_form h (a_component o n) p.0 ≡ Some q = p.2 in cc)

  stuck : (a : code.ComponentPlace) (c : ℕ) (y : Identifier) (ss : syntax.Selectors) (q : Designated) → last_field (syntax.more_selectors (syntax.field y) ss) ≡ None → selected_form h ss (a_component a c) ≡ Some q → ⊥
  stuck a c y syntax.no_selectors q e f = cc
  stuck a c y (syntax.more_selectors (syntax.field o) ss) q e f = stuck a c o ss q e f
  stuck a c y (syntax.more_selectors (syntax.index o) ss) q e f =
      let d : Designated = a_component a c in
      let p : (v : Designated) × (then_form (expression_form h o) (with_index_form h d) ≡ Some v) × (selected_form h ss v ≡ Some q) = inside (then_form (expression_form h o) (with_index_form h d)) _ q f in
      let r : (v : Formed) × (expression_form h o ≡ Some v) × (with_index_form h d v ≡ Some p.0) = inside (expression_form h o) _ p.0 p.1 in
      let t : (v : code.OrdinalExpression) × (ordinal_form r.0.form ≡ Some v) × (with_element_form h d v ≡ Some p.0) = inside (ordinal_form r.0.form) (with_element_form h d) p.0 r.2 in
      let w : with_element_form h d t.0 ≡ Some p.0 = t.2 in cc

  pub parts_begun : (x : Name) (t : Ty) → has_components t ≡ true → Parts (system_type t) (permanent_begun h x t)
  parts_begun x (named.component_of n) e = go (is_parameter x (system_of h.program h.system).parameters)
    where
      go : (c : Bool) → Parts n (component_begun h x n c)
      go true = refl
      go false = refl
  parts_begun x (named.array_over r (named.component_of n)) e = refl
  parts_begun x y e = absurd (cc)

  -- a variable of components is named without an entry, or has no components
  pub no_entry_of : (x : Name) (t : Ty) (ss : syntax.Selectors) (o : Option Name) → last_field ss ≡ o → is_call_meant (Some (scopes.permanent_variable t)) o ≡ false → NoEntry (permanent_begun h x t) ss
  no_entry_of x t ss None e f = no_entry (permanent_begun h x t) ss e
  no_entry_of x t ss (Some y) e f = subst (λ d. NoEntry d ss) (sym (without_components k h b g x t f)) tt

  -- the value of a name that is no call
  valued_is : (n : ℕ) (m : Layer) (at : ℕ) (q : Designated) (x : values.Designated) (first : Layer → Value × Layer) (as' : Layer → ℕ → List code.Argument × Layer) (is : List Item) (z : Formed) → DesignatedIs k b.types q x → TakesFrom n m is → valued_form q ≡ Some z → Is z n (value_of_meaning m at x first as') is
  valued_is n m at (a_variable w t) x first as' is z i j f =
      subst (λ y. Is z n (value_of_meaning m at y first as') is) (sym i.is) (record { value = subst (λ y. ValueIs k b.types y (value_loaded_from w i.value_type)) (same_inside _ z f) (loaded_same k b.types w t i.value_type i.belongs); taken = j })
  valued_is n m at (a_component c o) x first as' is z i j f =
      subst (λ y. Is z n (value_of_meaning m at y first as') is) (sym i) (record { value = subst (λ y. ValueIs k b.types y (values.component_value c)) (same_inside _ z f) refl; taken = j })
  valued_is n m at (some_components c r o) x first as' is z i j f = absurd (cc)

  pub standard_found : (x : Name) (p : Option LayoutMeaning) (q : scopes.Standard) (s : scopes.Scope) → layers.find x b.names ≡ p → FoundIs k b.types p (Some (scopes.standard_meaning q)) s → name_meaning b x ≡ values.a_standard (predeclared_as q)
  standard_found x None q s i f = absurd f
  standard_found x (Some m) q s i f = ap meaning_of i ∙ ap (λ n. meaning_of (Some n)) f

  -- the routine of a component
  pub record Reached (t : Ty) (o : Option Name) (q : Option RoutineMeaning) : Type 0 where
    pub routine : RoutineMeaning
    pub called : q ≡ Some routine
    pub number : ℕ
    pub there : entry_named (system_type t) o ≡ Some number
    pub results : ResultsAre k b.types (Some (result_type routine.result)) (result_of b number)

  reached : (x : Name) (t : Ty) (y : Name) (q : Option RoutineMeaning) → scopes.find x h.scope ≡ Some (scopes.permanent_variable t) → routine_of_type h.program t y ≡ q → IsFunction q → Reached t (Some y) q
  reached x t y None e f i = absurd i
  reached x t y (Some r) e f i =
      let d : EntryIs k b (system_type t) y r = calls.entry x y t r e f in
      record { routine = r; called = refl; number = d.number; there = d.there; results = result_given r r.result (result_of b d.number) refl i d.result }

  pub reached_by : (x : Name) (t : Ty) (o : Option Name) → is_call_meant (Some (scopes.permanent_variable t)) o ≡ true → scopes.find x h.scope ≡ Some (scopes.permanent_variable t) → IsFunction (routine_meant h.program h.scope x (Some (scopes.permanent_variable t)) o) →
      Reached t o (routine_meant h.program h.scope x (Some (scopes.permanent_variable t)) o)
  reached_by x t None c e i = absurd (cc)
  reached_by x t (Some y) c e i = reached x t y (routine_of_type h.program t y) e refl i

  pub has_parts : (t : Ty) (o : Option Name) → is_call_meant (Some (scopes.permanent_variable t)) o ≡ true → has_components t ≡ true
  has_parts t None c = absurd (cc)
  has_parts t (Some y) c = c

  pub nothing_begun : (x : Name) (ss : syntax.Selectors) (m : Option scopes.Meaning) (z : Formed) → scopes.find x h.scope ≡ m → begun_form h x m ≡ None → then_form (then_form (begun_form h x (scopes.find x h.scope)) (selected_form h ss)) valued_form ≡ Some z → ⊥
  nothing_begun x ss m z e i f =
      let p : (y : Designated) × (then_form (begun_form h x (scopes.find x h.scope)) (selected_form h ss) ≡ Some y) × (valued_form y ≡ Some z) = inside (then_form (begun_form h x (scopes.find x h.scope)) (selected_form h ss)) valued_form z f in
      let q : (y : Designated) × (begun_form h x (scopes.find x h.scope) ≡ Some y) × (selected_form h ss y ≡ Some p.0) = inside (begun_form h x (scopes.find x h.scope)) _ p.0 p.1 in
      let w : begun_form h x m ≡ Some q.0 = ap (begun_form h x) (sym e) ∙ q.1 in
      cc

  -- ---- what is known of the parts of a name with selectors and arguments

  abbrev Selects : Layer → syntax.Selectors → Type 0
  Selects l ss = (d q : Designated) (x : values.Designated) → DesignatedIs k b.types d x → NoEntry d ss → AreNext h (cells l) (selectors_calls h.scope ss) → selected_form h ss d ≡ Some q → Selected q (cells l) (selectors l x ss) (selectors_calls h.scope ss)

  abbrev Enters : Layer → syntax.Selectors → Type 0
  Enters l ss = (c : ℕ) (d q : Designated) (x : values.Designated) → DesignatedIs k b.types d x → Parts c d → AreEntry ss → AreNext h (cells l) (selectors_calls h.scope ss) → selected_form h ss d ≡ Some q → Entered q c (last_field ss) (cells l) (selectors l x ss) (selectors_calls h.scope ss)

  abbrev Takes : syntax.Expressions → Type 0
  Takes es = (m : Layer) (r : ℕ) → Kept b m → AreFormed h es → AreNext h (cells m) (expressions_calls h.scope es) → TakesFrom (cells m) (arguments_from m r 0 es).1 (expressions_calls h.scope es)

  abbrev First : Layer → syntax.Expressions → Type 0
  First l es = (z : Formed) → IsOne es → AreNext h (cells l) (expressions_calls h.scope es) → first_form h es ≡ Some z → Is z (cells l) (first_value l es) (expressions_calls h.scope es)

  -- a variable or a component, or a part of one
  variable_is : (l : Layer) (at : ℕ) (x : Identifier) (ss : syntax.Selectors) (d : Designated) (z : Formed) → IsNoRoutine (scopes.find x.name h.scope) → begun_form h x.name (scopes.find x.name h.scope) ≡ Some d → Kept b l → Selects l ss → NoEntry d ss →
      AreNext h (cells l) (selectors_calls h.scope ss ++ []) → then_form (designator_form h (syntax.designator x ss)) valued_form ≡ Some z →
      Is z (cells l) (factor l (syntax.named at (syntax.designator x ss) syntax.no_expressions)) (selectors_calls h.scope ss ++ [])
  unfolding factor first_value arguments_from designator selectors
  variable_is l at x ss d z r e s us ne n f =
      let first : Layer → Value × Layer = λ m. first_value m syntax.no_expressions in
      let as' : Layer → ℕ → List code.Argument × Layer = λ m i. arguments_from m i 0 syntax.no_expressions in
      let q : (y : Designated) × (designator_form h (syntax.designator x ss) ≡ Some y) × (valued_form y ≡ Some z) = inside (designator_form h (syntax.designator x ss)) valued_form z f in
      let target : selected_form h ss d ≡ Some q.0 = ap (λ w. then_form w (selected_form h ss)) (sym e) ∙ q.1 in
      let begins : DesignatedIs k b.types d (name_meaning l x.name) = subst (λ w. DesignatedIs k b.types d w) (sym (same_begun l x.name s)) (begun_same k h b g x.name d r e) in
      let m : Layer = (selectors l (name_meaning l x.name) ss).1 in
      let j : Selected q.0 (cells l) (selectors l (name_meaning l x.name) ss) (selectors_calls h.scope ss) = us d q.0 (name_meaning l x.name) begins ne (next_first h (cells l) (selectors_calls h.scope ss) [] n) target in
      valued_is (cells l) m at q.0 (selectors l (name_meaning l x.name) ss).0 first as' (selectors_calls h.scope ss ++ []) z j.leads (takes_both (cells l) m m (selectors_calls h.scope ss) [] j.taken (takes_none m)) q.2

  -- a name in an expression
  named_is : (l : Layer) (at : ℕ) (x : Identifier) (ss : syntax.Selectors) (es : syntax.Expressions) (z : Formed) (c : Bool) (m : Option scopes.Meaning) (p : Option LayoutMeaning) → is_call_meant m (last_field ss) ≡ c → scopes.find x.name h.scope ≡ m → layers.find x.name b.names ≡ p →
      FoundIs k b.types p m (scopes.since x.name h.scope) → Kept b l → Selects l ss → Enters l ss → Takes es → First l es → UsedAs h (syntax.designator x ss) es c m →
      AreNext h (cells l) (selectors_calls h.scope ss ++ (expressions_calls h.scope es ++ own_call c at (syntax.designator x ss) es)) →
      named_form h at (syntax.designator x ss) c m (designator_form h (syntax.designator x ss)) (first_form h es) ≡ Some z →
      Is z (cells l) (factor l (syntax.named at (syntax.designator x ss) es)) (selectors_calls h.scope ss ++ (expressions_calls h.scope es ++ own_call c at (syntax.designator x ss) es))
  unfolding factor first_value arguments_from designator selectors
  named_is l at x syntax.no_selectors es z true (Some (scopes.routine_meaning r)) p ce me pe fi s us en ta fs u n f =
      let d : syntax.Designator = syntax.designator x syntax.no_selectors in
      let as' : Layer → ℕ → List code.Argument × Layer = λ m i. arguments_from m i 0 es in
      let o : (i : ℕ) × (name_meaning b x.name ≡ values.a_routine i) × ResultsAre k b.types (routine_in (scopes.since x.name h.scope) r).result (result_of b i) = own_found x.name p r pe fi in
      let q : RoutineMeaning = routine_in (scopes.since x.name h.scope) r in
      let met : routine_called h.program h.scope d ≡ Some q = ap (λ m. routine_meant h.program h.scope x.name m None) me in
      let i : IsFunction (Some q) = subst IsFunction met u.1 in
      let v : ResultsAre k b.types (Some (result_type q.result)) (result_of l o.0) = subst (λ w. ResultsAre k b.types (Some (result_type q.result)) w) (sym (same_result l o.0 s)) (result_given q q.result (result_of b o.0) refl i o.2) in
      let j : Is z (cells l) (function_as l at code.own false o.0 (result_of l o.0) as') (expressions_calls h.scope es ++ function_call at d es ∷ []) =
      call_is (cells l) at d es l code.own false o.0 (result_type q.result) (result_of l o.0) as' (expressions_calls h.scope es) z v
      (ta l o.0 s u.2 (next_first h (cells l) (expressions_calls h.scope es) (function_call at d es ∷ []) n)) n (ap (λ w. call_form h at (result_called w)) (sym met) ∙ f) in
      subst (λ w. Is z (cells l) (value_of_meaning l at w (λ m. first_value m es) as') (expressions_calls h.scope es ++ function_call at d es ∷ [])) (sym (same_begun l x.name s ∙ o.1)) j
  named_is l at x (syntax.more_selectors y ss) es z true (Some (scopes.routine_meaning r)) p ce me pe fi s us en ta fs u n f = absurd u.0
  named_is l at x ss es z true (Some (scopes.permanent_variable t)) p ce me pe fi s us en ta fs u n f =
      let d : syntax.Designator = syntax.designator x ss in
      let as' : Layer → ℕ → List code.Argument × Layer = λ m i. arguments_from m i 0 es in
      let first : Designated = permanent_begun h x.name t in
      let formed : begun_form h x.name (scopes.find x.name h.scope) ≡ Some first = ap (begun_form h x.name) me in
      let target : selected_form h ss first ≡ Some u.3.0 = ap (λ w. then_form w (selected_form h ss)) (sym formed) ∙ u.3.1 in
      let begins : DesignatedIs k b.types first (name_meaning b x.name) = begun_same k h b g x.name first (subst IsNoRoutine (sym me) tt) formed in
      let begins_here : DesignatedIs k b.types first (name_meaning l x.name) = subst (λ w. DesignatedIs k b.types first w) (sym (same_begun l x.name s)) begins in
      let e : Entered u.3.0 (system_type t) (last_field ss) (cells l) (selectors l (name_meaning l x.name) ss) (selectors_calls h.scope ss) = en (system_type t) first u.3.0 (name_meaning l x.name) begins_here (parts_begun x.name t (has_parts t (last_field ss) ce)) u.0
      (next_first h (cells l) (selectors_calls h.scope ss) (expressions_calls h.scope es ++ function_call at d es ∷ []) n) target in
      let met : routine_called h.program h.scope d ≡ routine_meant h.program h.scope x.name (Some (scopes.permanent_variable t)) (last_field ss) = ap (λ m. routine_meant h.program h.scope x.name m (last_field ss)) me in
      let r : Reached t (last_field ss) (routine_meant h.program h.scope x.name (Some (scopes.permanent_variable t)) (last_field ss)) = reached_by x.name t (last_field ss) ce me (subst IsFunction met u.1) in
      let m : Layer = (selectors l (name_meaning l x.name) ss).1 in
      let kept : Kept b m = kept_trans b l m s (designator_kept l d) in
      let v : ResultsAre k b.types (Some (result_type r.routine.result)) (result_of m r.number) = subst (λ w. ResultsAre k b.types (Some (result_type r.routine.result)) w) (sym (same_result m r.number kept)) r.results in
      let rest : AreNext h (cells m) (expressions_calls h.scope es ++ function_call at d es ∷ []) = next_rest h (cells l) m (selectors_calls h.scope ss) (expressions_calls h.scope es ++ function_call at d es ∷ []) e.taken n in
      let j : Is z (cells m) (function_as m at e.part true r.number (result_of m r.number) as') (expressions_calls h.scope es ++ function_call at d es ∷ []) =
      call_is (cells m) at d es m e.part true r.number (result_type r.routine.result) (result_of m r.number) as' (expressions_calls h.scope es) z v
      (ta m r.number kept u.2 (next_first h (cells m) (expressions_calls h.scope es) (function_call at d es ∷ []) rest)) rest (ap (λ w. call_form h at (result_called w)) (sym (met ∙ r.called)) ∙ f) in
      let w : Is z (cells m) (value_of_meaning m at (selectors l (name_meaning l x.name) ss).0 (λ m. first_value m es) as') (expressions_calls h.scope es ++ function_call at d es ∷ []) =
      subst (λ y. Is z (cells m) (value_of_meaning m at y (λ m. first_value m es) as') (expressions_calls h.scope es ++ function_call at d es ∷ [])) (sym (e.leads ∙ ap (entry_found e.part) r.there)) j in
      record {
        value = w.value;
        taken = takes_both (cells l) m (value_of_meaning m at (selectors l (name_meaning l x.name) ss).0 (λ m. first_value m es) as').1 (selectors_calls h.scope ss) (expressions_calls h.scope es ++ function_call at d es ∷ []) e.taken w.taken;
      }
  named_is l at x syntax.no_selectors syntax.no_expressions z false (Some (scopes.constant_meaning a v)) p ce me pe fi s us en ta fs u n f =
      let first : Layer → Value × Layer = λ m. first_value m syntax.no_expressions in
      let as' : Layer → ℕ → List code.Argument × Layer = λ m i. arguments_from m i 0 syntax.no_expressions in
      let met : name_meaning l x.name ≡ values.a_value (number_value v (base_of k a)) = same_begun l x.name s ∙ constant_found x.name p a v (scopes.since x.name h.scope) pe fi in
      let j : Is z (cells l) (value_of_meaning l at (values.a_value (number_value v (base_of k a))) first as') [] = record { value = constant_is a v z (number_value v (base_of k a)) refl f; taken = takes_none l } in
      subst (λ w. Is z (cells l) (value_of_meaning l at w first as') []) (sym met) j
  named_is l at x (syntax.more_selectors y ss) es z false (Some (scopes.constant_meaning a v)) p ce me pe fi s us en ta fs u n f = absurd u.0
  named_is l at x syntax.no_selectors (syntax.more_expressions e es) z false (Some (scopes.constant_meaning a v)) p ce me pe fi s us en ta fs u n f = absurd u.1
  named_is l at x syntax.no_selectors es z false (Some (scopes.standard_meaning q)) p ce me pe fi s us en ta fs u n f =
      let first : Layer → Value × Layer = λ m. first_value m es in
      let as' : Layer → ℕ → List code.Argument × Layer = λ m i. arguments_from m i 0 es in
      let met : name_meaning l x.name ≡ values.a_standard (predeclared_as q) = same_begun l x.name s ∙ standard_found x.name p q (scopes.since x.name h.scope) pe fi in
      let c : List Item = expressions_calls h.scope es in
      let w : (y : Formed) × (first_form h es ≡ Some y) × (applied_form q y ≡ Some z) = inside (first_form h es) (applied_form q) z f in
      let i : Is w.0 (cells l) (first_value l es) c = fs w.0 u.1 (next_first h (cells l) c [] n) w.1 in
      let m : Layer = (first_value l es).1 in
      let j : Is z (cells l) (value_of_meaning l at (values.a_standard (predeclared_as q)) first as') (c ++ []) = record {
        value = applied_same k b.types q w.0 z (first_value l es).0 i.value w.2;
        taken = takes_both (cells l) m m c [] i.taken (takes_none m);
      } in
      subst (λ y. Is z (cells l) (value_of_meaning l at y first as') (c ++ [])) (sym met) j
  named_is l at x (syntax.more_selectors y ss) es z false (Some (scopes.standard_meaning q)) p ce me pe fi s us en ta fs u n f = absurd u.0
  named_is l at x ss syntax.no_expressions z false (Some (scopes.local_variable t)) p ce me pe fi s us en ta fs u n f =
      variable_is l at x ss (a_variable (code.place ((frame_here h).origins x.name) 0 code.no_indices) t) z (subst IsNoRoutine (sym me) tt) (ap (begun_form h x.name) me) s us tt n f
  named_is l at x ss syntax.no_expressions z false (Some (scopes.permanent_variable t)) p ce me pe fi s us en ta fs u n f =
      variable_is l at x ss (permanent_begun h x.name t) z (subst IsNoRoutine (sym me) tt) (ap (begun_form h x.name) me) s us (no_entry_of x.name t ss (last_field ss) refl ce) n f
  named_is l at x ss (syntax.more_expressions e es) z false (Some (scopes.local_variable t)) p ce me pe fi s us en ta fs u n f = absurd u
  named_is l at x ss (syntax.more_expressions e es) z false (Some (scopes.permanent_variable t)) p ce me pe fi s us en ta fs u n f = absurd u
  named_is l at x ss es z false (Some (scopes.type_meaning t)) p ce me pe fi s us en ta fs u n f = absurd (nothing_begun x.name ss (Some (scopes.type_meaning t)) z me refl f)
  named_is l at x ss es z false None p ce me pe fi s us en ta fs u n f = absurd (nothing_begun x.name ss None z me refl f)
  named_is l at x ss es z y v p ce me pe fi s us en ta fs u n f = absurd (cc)

  -- ---- expressions

  mutual
    unfolding expression sum more_terms term more_factors factor elements first_value arguments_from designator selectors selector

    pub expression_is : (l : Layer) (e : syntax.Expression) (z : Formed) → Kept b l → IsUsed h e → AreNext h (cells l) (expression_calls h.scope e) → expression_form h e ≡ Some z → Is z (cells l) (expression l e) (expression_calls h.scope e)
    expression_is l (syntax.alone at a) z s u n f = sum_is l a z s u n f
    expression_is l (syntax.related at a r c) z s u n f =
        let p : (x : Formed) × (sum_form h a ≡ Some x) × (then_form (sum_form h c) (λ y. compared_forms r x.form y.form) ≡ Some z) = inside (sum_form h a) _ z f in
        let q : (y : Formed) × (sum_form h c ≡ Some y) × (compared_forms r p.0.form y.form ≡ Some z) = inside (sum_form h c) _ z p.2 in
        let m : Layer = (sum l a).1 in
        let i : Is p.0 (cells l) (sum l a) (sum_calls h.scope a) = sum_is l a p.0 s u.0 (next_first h (cells l) (sum_calls h.scope a) (sum_calls h.scope c) n) p.1 in
        let j : Is q.0 (cells m) (sum m c) (sum_calls h.scope c) = sum_is m c q.0 (kept_trans b l m s (sum_kept l a)) u.1 (next_rest h (cells l) m (sum_calls h.scope a) (sum_calls h.scope c) i.taken n) q.1 in
        record {
          value = operations.compared k b.types r p.0.ty q.0.ty p.0.form q.0.form (sum l a).0 (sum m c).0 z i.value j.value q.2;
          taken = takes_both (cells l) m (sum m c).1 (sum_calls h.scope a) (sum_calls h.scope c) i.taken j.taken;
        }

    sum_is : (l : Layer) (a : syntax.Sum) (z : Formed) → Kept b l → SumUsed h a → AreNext h (cells l) (sum_calls h.scope a) → sum_form h a ≡ Some z → Is z (cells l) (sum l a) (sum_calls h.scope a)
    sum_is l (syntax.sum at o t ts) z s u n f =
        let p : (x : Formed) × (term_form h t ≡ Some x) × (then_form (signed_form o x) (λ y. terms_form h ts y) ≡ Some z) = inside (term_form h t) _ z f in
        let q : (y : Formed) × (signed_form o p.0 ≡ Some y) × (terms_form h ts y ≡ Some z) = inside (signed_form o p.0) _ z p.2 in
        let m : Layer = (term l t).1 in
        let v : Value = laid.with_sign o (term l t).0 in
        let i : Is p.0 (cells l) (term l t) (term_calls h.scope t) = term_is l t p.0 s u.0 (next_first h (cells l) (term_calls h.scope t) (terms_calls h.scope ts) n) p.1 in
        let j : Is z (cells m) (more_terms m v ts) (terms_calls h.scope ts) = terms_is m v q.0 ts z (kept_trans b l m s (term_kept l t)) u.1 (operations.sign_same k b.types o p.0 q.0 (term l t).0 i.value q.1)
        (next_rest h (cells l) m (term_calls h.scope t) (terms_calls h.scope ts) i.taken n) q.2 in
        record {
          value = j.value;
          taken = takes_both (cells l) m (more_terms m v ts).1 (term_calls h.scope t) (terms_calls h.scope ts) i.taken j.taken;
        }

    terms_is : (l : Layer) (v : Value) (x : Formed) (ts : syntax.Terms) (z : Formed) → Kept b l → TermsUsed h ts → ValueIs k b.types x v → AreNext h (cells l) (terms_calls h.scope ts) → terms_form h ts x ≡ Some z → Is z (cells l) (more_terms l v ts) (terms_calls h.scope ts)
    terms_is l v x syntax.no_terms z s u i n f = record { value = subst (λ y. ValueIs k b.types y v) (same_inside x z f) i; taken = takes_none l }
    terms_is l v x (syntax.more_terms o t ts) z s u w n f =
        let p : (y : Formed) × (term_form h t ≡ Some y) × (then_form (added_forms o x y x.form y.form) (λ q. terms_form h ts q) ≡ Some z) = inside (term_form h t) _ z f in
        let q : (y : Formed) × (added_forms o x p.0 x.form p.0.form ≡ Some y) × (terms_form h ts y ≡ Some z) = inside (added_forms o x p.0 x.form p.0.form) _ z p.2 in
        let m : Layer = (term l t).1 in
        let c : Value = values.sum_of o v (term l t).0 in
        let i : Is p.0 (cells l) (term l t) (term_calls h.scope t) = term_is l t p.0 s u.0 (next_first h (cells l) (term_calls h.scope t) (terms_calls h.scope ts) n) p.1 in
        let j : Is z (cells m) (more_terms m c ts) (terms_calls h.scope ts) = terms_is m c q.0 ts z (kept_trans b l m s (term_kept l t)) u.1
        (operations.added k b.types o x p.0 x.form p.0.form x.ty p.0.ty v (term l t).0 q.0 w i.value q.1)
        (next_rest h (cells l) m (term_calls h.scope t) (terms_calls h.scope ts) i.taken n) q.2 in
        record {
          value = j.value;
          taken = takes_both (cells l) m (more_terms m c ts).1 (term_calls h.scope t) (terms_calls h.scope ts) i.taken j.taken;
        }

    term_is : (l : Layer) (t : syntax.Term) (z : Formed) → Kept b l → TermUsed h t → AreNext h (cells l) (term_calls h.scope t) → term_form h t ≡ Some z → Is z (cells l) (term l t) (term_calls h.scope t)
    term_is l (syntax.term at a fs) z s u n f =
        let p : (x : Formed) × (factor_form h a ≡ Some x) × (factors_form h fs x ≡ Some z) = inside (factor_form h a) _ z f in
        let m : Layer = (factor l a).1 in
        let i : Is p.0 (cells l) (factor l a) (factor_calls h.scope a) = factor_is l a p.0 s u.0 (next_first h (cells l) (factor_calls h.scope a) (factors_calls h.scope fs) n) p.1 in
        let j : Is z (cells m) (more_factors m (factor l a).0 fs) (factors_calls h.scope fs) = factors_is m (factor l a).0 p.0 fs z (kept_trans b l m s (factor_kept l a)) u.1 i.value
        (next_rest h (cells l) m (factor_calls h.scope a) (factors_calls h.scope fs) i.taken n) p.2 in
        record {
          value = j.value;
          taken = takes_both (cells l) m (more_factors m (factor l a).0 fs).1 (factor_calls h.scope a) (factors_calls h.scope fs) i.taken j.taken;
        }

    factors_is : (l : Layer) (v : Value) (x : Formed) (fs : syntax.Factors) (z : Formed) → Kept b l → FactorsUsed h fs → ValueIs k b.types x v → AreNext h (cells l) (factors_calls h.scope fs) → factors_form h fs x ≡ Some z → Is z (cells l) (more_factors l v fs) (factors_calls h.scope fs)
    factors_is l v x syntax.no_factors z s u i n f = record { value = subst (λ y. ValueIs k b.types y v) (same_inside x z f) i; taken = takes_none l }
    factors_is l v x (syntax.more_factors o a fs) z s u w n f =
        let p : (y : Formed) × (factor_form h a ≡ Some y) × (then_form (multiplied_forms o x y x.form y.form) (λ q. factors_form h fs q) ≡ Some z) = inside (factor_form h a) _ z f in
        let q : (y : Formed) × (multiplied_forms o x p.0 x.form p.0.form ≡ Some y) × (factors_form h fs y ≡ Some z) = inside (multiplied_forms o x p.0 x.form p.0.form) _ z p.2 in
        let m : Layer = (factor l a).1 in
        let c : Value = values.product_of o v (factor l a).0 in
        let i : Is p.0 (cells l) (factor l a) (factor_calls h.scope a) = factor_is l a p.0 s u.0 (next_first h (cells l) (factor_calls h.scope a) (factors_calls h.scope fs) n) p.1 in
        let j : Is z (cells m) (more_factors m c fs) (factors_calls h.scope fs) = factors_is m c q.0 fs z (kept_trans b l m s (factor_kept l a)) u.1
        (operations.multiplied k b.types o x p.0 x.form p.0.form x.ty p.0.ty v (factor l a).0 q.0 w i.value q.1)
        (next_rest h (cells l) m (factor_calls h.scope a) (factors_calls h.scope fs) i.taken n) q.2 in
        record {
          value = j.value;
          taken = takes_both (cells l) m (more_factors m c fs).1 (factor_calls h.scope a) (factors_calls h.scope fs) i.taken j.taken;
        }

    factor_is : (l : Layer) (a : syntax.Factor) (z : Formed) → Kept b l → FactorUsed h a → AreNext h (cells l) (factor_calls h.scope a) → factor_form h a ≡ Some z → Is z (cells l) (factor l a) (factor_calls h.scope a)
    factor_is l (syntax.number at c) z s u n f = record { value = number_is c z f; taken = takes_none l }
    factor_is l (syntax.character at c) z s u n f = record { value = constant_is named.characters (pos c) z (number_value (pos c) base.Char) refl f; taken = takes_none l }
    factor_is l (syntax.named at (syntax.designator x ss) es) z s u n f =
        let own : List Item = own_call (is_call_meant (scopes.find x.name h.scope) (last_field ss)) at (syntax.designator x ss) es in
        let same : selectors_calls h.scope ss ++ expressions_calls h.scope es ++ own ≡ selectors_calls h.scope ss ++ (expressions_calls h.scope es ++ own) = regrouped (selectors_calls h.scope ss) (expressions_calls h.scope es) own in
        subst (λ is. Is z (cells l) (factor l (syntax.named at (syntax.designator x ss) es)) is) (sym same)
        (named_is l at x ss es z (is_call_meant (scopes.find x.name h.scope) (last_field ss)) (scopes.find x.name h.scope) (layers.find x.name b.names) refl refl refl
        (found_in k b.types x.name b.names h.scope g.names) s
        (λ d q y i e m w. selected_is l d q y ss s u.0 i e m w) (λ c d q y i e r m w. entered_is l c d q y ss s u.0 i e r m w)
        (λ m r t i o. arguments_take m r 0 es t u.1 i o) (λ y i m w. first_is l es y s u.1 i m w) u.2 (subst (λ is. AreNext h (cells l) is) same n) f)
    factor_is l (syntax.group at e) z s u n f = expression_is l e z s u n f
    factor_is l (syntax.negated at a) z s u n f =
        let p : (x : Formed) × (factor_form h a ≡ Some x) × (not_form x ≡ Some z) = inside (factor_form h a) _ z f in
        let i : Is p.0 (cells l) (factor l a) (factor_calls h.scope a) = factor_is l a p.0 s u n p.1 in
        record { value = operations.negated k b.types p.0 z (factor l a).0 i.value p.2; taken = i.taken }
    factor_is l (syntax.set_of at es) z s u n f =
        let p : (x : code.SetExpression) × (members_form h es code.empty_set ≡ Some x) × (set_form x ≡ Some z) = inside (members_form h es code.empty_set) _ z f in
        let i : Members p.0 (cells l) (elements l code.empty_set es) (expressions_calls h.scope es) = members_is l code.empty_set es p.0 s u n p.1 in
        record { value = subst (λ y. ValueIs k b.types y (set_value (elements l code.empty_set es).0)) (same_inside _ z p.2) (ap set_value i.set); taken = i.taken }

    members_is : (l : Layer) (c : code.SetExpression) (es : syntax.Expressions) (z : code.SetExpression) → Kept b l → AreUsed h es → AreNext h (cells l) (expressions_calls h.scope es) → members_form h es c ≡ Some z → Members z (cells l) (elements l c es) (expressions_calls h.scope es)
    members_is l c syntax.no_expressions z s u n f = record { set = same_inside c z f; taken = takes_none l }
    members_is l c (syntax.more_expressions e es) z s u n f =
        let p : (x : Formed) × (expression_form h e ≡ Some x) × (then_form (with_member_form c x.form) (λ q. members_form h es q) ≡ Some z) = inside (expression_form h e) _ z f in
        let q : (y : code.SetExpression) × (with_member_form c p.0.form ≡ Some y) × (members_form h es y ≡ Some z) = inside (with_member_form c p.0.form) _ z p.2 in
        let m : Layer = (expression l e).1 in
        let d : code.SetExpression = code.with_element c (ordinal_of (expression l e).0) in
        let i : Is p.0 (cells l) (expression l e) (expression_calls h.scope e) = expression_is l e p.0 s u.0 (next_first h (cells l) (expression_calls h.scope e) (expressions_calls h.scope es) n) p.1 in
        let same : d ≡ q.0 = operations.member k b.types c q.0 p.0.ty p.0.form (expression l e).0 i.value q.1 in
        let j : Members z (cells m) (elements m d es) (expressions_calls h.scope es) = members_is m d es z (kept_trans b l m s (expression_kept l e)) u.1
        (next_rest h (cells l) m (expression_calls h.scope e) (expressions_calls h.scope es) i.taken n) (ap (members_form h es) same ∙ q.2) in
        record {
          set = j.set;
          taken = takes_both (cells l) m (elements m d es).1 (expression_calls h.scope e) (expressions_calls h.scope es) i.taken j.taken;
        }

    -- the cells of the calls in arguments
    arguments_take : (l : Layer) (r i : ℕ) (es : syntax.Expressions) → Kept b l → AreUsed h es → AreFormed h es → AreNext h (cells l) (expressions_calls h.scope es) → TakesFrom (cells l) (arguments_from l r i es).1 (expressions_calls h.scope es)
    arguments_take l r i syntax.no_expressions s u f n = takes_none l
    arguments_take l r i (syntax.more_expressions e es) s u f n =
        let m : Layer = (expression l e).1 in
        let j : Is f.0.0 (cells l) (expression l e) (expression_calls h.scope e) = expression_is l e f.0.0 s u.0 (next_first h (cells l) (expression_calls h.scope e) (expressions_calls h.scope es) n) f.0.1 in
        takes_both (cells l) m (arguments_from m r (i + 1) es).1 (expression_calls h.scope e) (expressions_calls h.scope es) j.taken
        (arguments_take m r (i + 1) es (kept_trans b l m s (expression_kept l e)) u.1 f.1 (next_rest h (cells l) m (expression_calls h.scope e) (expressions_calls h.scope es) j.taken n))

    -- a name with its selectors that is no call
    pub selected_is : (l : Layer) (d q : Designated) (x : values.Designated) (ss : syntax.Selectors) → Kept b l → SelectorsUsed h ss → DesignatedIs k b.types d x → NoEntry d ss → AreNext h (cells l) (selectors_calls h.scope ss) → selected_form h ss d ≡ Some q → Selected q (cells l) (selectors l x ss) (selectors_calls h.scope ss)
    selected_is l d q x syntax.no_selectors s u i e n f = record { leads = subst (λ y. DesignatedIs k b.types y x) (same_inside d q f) i; taken = takes_none l }
    selected_is l (a_variable w t) q x (syntax.more_selectors (syntax.field y) ss) s u i e n f =
        let p : (c : Designated) × (with_field_form (a_variable w t) y.name ≡ Some c) × (selected_form h ss c ≡ Some q) = inside (with_field_form (a_variable w t) y.name) _ q f in
        let j : DesignatedIs k b.types p.0 (field_of_designated l x y.name) = subst (λ v. DesignatedIs k b.types p.0 v) (sym (same_field l x y.name s)) (field_same k h b g w t p.0 x y.name i p.1) in
        selected_is l p.0 q (field_of_designated l x y.name) ss s u.1 j (stays w t y.name p.0 ss p.1) n p.2
    selected_is l (some_components a r c) q x (syntax.more_selectors (syntax.field y) ss) s u i e n f = absurd (cc)
    selected_is l (a_component a c) q x (syntax.more_selectors (syntax.field y) ss) s u i e n f = absurd (stuck a c y ss q e f)
    selected_is l d q x (syntax.more_selectors (syntax.index o) ss) s u i e n f =
        let p : (c : Designated) × (then_form (expression_form h o) (with_index_form h d) ≡ Some c) × (selected_form h ss c ≡ Some q) = inside (then_form (expression_form h o) (with_index_form h d)) _ q f in
        let a : (y : Formed) × (expression_form h o ≡ Some y) × (with_index_form h d y ≡ Some p.0) = inside (expression_form h o) _ p.0 p.1 in
        let m : Layer = (expression l o).1 in
        let j : Is a.0 (cells l) (expression l o) (expression_calls h.scope o) = expression_is l o a.0 s u.0 (next_first h (cells l) (expression_calls h.scope o) (selectors_calls h.scope ss) n) a.1 in
        let kept : Kept b m = kept_trans b l m s (expression_kept l o) in
        let w : values.Designated = element_of_designated m x (ordinal_of (expression l o).0) in
        let r : DesignatedIs k b.types p.0 w = subst (λ v. DesignatedIs k b.types p.0 v) (sym (same_element m x (ordinal_of (expression l o).0) kept)) (index_is d p.0 x a.0 (expression l o).0 i j.value a.2) in
        let t : Selected q (cells m) (selectors m w ss) (selectors_calls h.scope ss) = selected_is m p.0 q w ss kept u.1 r (goes_on d a.0 p.0 o ss e a.2)
        (next_rest h (cells l) m (expression_calls h.scope o) (selectors_calls h.scope ss) j.taken n) p.2 in
        record { leads = t.leads; taken = takes_both (cells l) m (selectors m w ss).1 (expression_calls h.scope o) (selectors_calls h.scope ss) j.taken t.taken }

    -- an entry of a component
    pub entered_is : (l : Layer) (c : ℕ) (d q : Designated) (x : values.Designated) (ss : syntax.Selectors) → Kept b l → SelectorsUsed h ss → DesignatedIs k b.types d x → Parts c d → AreEntry ss → AreNext h (cells l) (selectors_calls h.scope ss) → selected_form h ss d ≡ Some q → Entered q c (last_field ss) (cells l) (selectors l x ss) (selectors_calls h.scope ss)
    entered_is l c d q x syntax.no_selectors s u i e r n f = absurd r
    entered_is l c (a_variable w t) q x ss s u i e r n f = absurd e
    entered_is l c (some_components a y w) q x (syntax.more_selectors (syntax.field o) ss) s u i e r n f = absurd (cc)
    entered_is l c (a_component a w) q x (syntax.more_selectors (syntax.field o) syntax.no_selectors) s u i e r n f =
        record { part = a; is_part = sym (same_inside (a_component a w) q f) ∙ ap (a_component a) e; leads = same_field l x o.name s ∙ ap (λ v. field_of_designated b v o.name) i ∙ ap (λ v. entry_found a (entry_of b v o.name)) e; taken = takes_none l }
    entered_is l c (a_component a w) q x (syntax.more_selectors (syntax.field o) (syntax.more_selectors y ss)) s u i e r n f = absurd r
    entered_is l c d q x (syntax.more_selectors (syntax.index o) ss) s u i e r n f =
        let p : (v : Designated) × (then_form (expression_form h o) (with_index_form h d) ≡ Some v) × (selected_form h ss v ≡ Some q) = inside (then_form (expression_form h o) (with_index_form h d)) _ q f in
        let a : (v : Formed) × (expression_form h o ≡ Some v) × (with_index_form h d v ≡ Some p.0) = inside (expression_form h o) _ p.0 p.1 in
        let m : Layer = (expression l o).1 in
        let j : Is a.0 (cells l) (expression l o) (expression_calls h.scope o) = expression_is l o a.0 s u.0 (next_first h (cells l) (expression_calls h.scope o) (selectors_calls h.scope ss) n) a.1 in
        let kept : Kept b m = kept_trans b l m s (expression_kept l o) in
        let w : values.Designated = element_of_designated m x (ordinal_of (expression l o).0) in
        let t : DesignatedIs k b.types p.0 w = subst (λ v. DesignatedIs k b.types p.0 v) (sym (same_element m x (ordinal_of (expression l o).0) kept)) (index_is d p.0 x a.0 (expression l o).0 i j.value a.2) in
        let z : Entered q c (last_field ss) (cells m) (selectors m w ss) (selectors_calls h.scope ss) = entered_is m c p.0 q w ss kept u.1 t (part_of c d a.0 p.0 e a.2) r
        (next_rest h (cells l) m (expression_calls h.scope o) (selectors_calls h.scope ss) j.taken n) p.2 in
        record { part = z.part; is_part = z.is_part; leads = subst (λ y. (selectors m w ss).0 ≡ entry_found z.part (entry_named c y)) (sym (last_same o ss r)) z.leads; taken = takes_both (cells l) m (selectors m w ss).1 (expression_calls h.scope o) (selectors_calls h.scope ss) j.taken z.taken }

    -- the one argument of a standard function
    pub first_is : (l : Layer) (es : syntax.Expressions) (z : Formed) → Kept b l → AreUsed h es → IsOne es → AreNext h (cells l) (expressions_calls h.scope es) → first_form h es ≡ Some z → Is z (cells l) (first_value l es) (expressions_calls h.scope es)
    first_is l (syntax.more_expressions e syntax.no_expressions) z s u i n f =
        let m : Layer = (expression l e).1 in
        let c : List Item = expression_calls h.scope e in
        let j : Is z (cells l) (expression l e) c = expression_is l e z s u.0 (next_first h (cells l) c [] n) f in
        record { value = j.value; taken = takes_both (cells l) m m c [] j.taken (takes_none m) }
    first_is l _ z s u i n f = absurd i
