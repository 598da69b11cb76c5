-- What the arguments of a start give: values, and components.
use Rattle.std.proofs.Common.{◌≡◌, ◌∙◌, ℕ, Bool, true, false, if◌then◌else◌, List, [], ◌∷◌, Some, ap, sym, refl, subst, length}
use Rattle.cp_machine_laws.proofs.Words.{map, Result, Ok, Err, ℤ, Expression, Expressions, no_expressions, more_expressions, Designator, Tables, Argument, ArgumentValue, Bound}
use Rattle.cp_machine_laws.proofs.Words.{Frame, Memory, then_with, check_range, Name, Outcome, ◌>>=◌, Parameter, Content, holds, refers, knows, Environment, View, Target}
use Rattle.cp_machine_laws.proofs.Words.{component_there, value_at, target_value, variable_in, value, expression_calls, expressions_calls, Layouts, Here, cells_of, Sees}
use Rattle.cp_machine_laws.proofs.Words.{TargetAgrees, Address, SetValue, Value, checked, plain_value, plain_set, plain_address, PlaceAt, BoundsAgree, ComponentAgrees}
use Rattle.cp_machine_laws.proofs.Words.{IsOutside, IsHanded, AreHanded, error_of, AreKept, evaluate_argument, bounds_at, Ty, ordinal, set_over, array_over, record_with, component_of}
use Rattle.cp_machine_laws.proofs.Words.{natural_of, Form, as_ordinal, as_set, as_place, as_component, Formed, expression_form, ValueGiven, GivenBy, IsGiven, AreGiven}
use Rattle.std.proofs.lemmas.Bool.{eq-eqb}
use Rattle.cp_slots.specs.Code as code
use Rattle.cp_slots.specs.declared.place.ArgumentValue.TheVariants as value_of
use Rattle.cp_store.specs.declared.argument.Bound.TheVariants.{Component, Scalar, Set, Copy, Reference}
use Rattle.cp_store.specs.declared.error.ErrorName as slots
use Rattle.cp_store.specs.Components.{component_at}
use Rattle.cp_store.specs.Sets as sets
use Rattle.cp_meaning.specs.State as named
use Rattle.cp_meaning.specs.Calls.{of_system, knows_of, refers_to, bound_variable, bound_value, bound_argument, bound}
use Rattle.cp_machine_laws.proofs.assignments.AnyAssignments.{RangeKnown}
use Rattle.cp_machine_laws.proofs.expressions.Arguments.{ValueAgrees, value_given, first_bound, scalar_bound, set_bound, copy_bound, copy_given, held}
use Rattle.cp_machine_laws.proofs.expressions.ComponentPlaces.{ComponentsKnown, component_agrees}
use Rattle.cp_machine_laws.proofs.calls.Kept.{kept_left, kept_right}
use Rattle.cp_machine_laws.proofs.expressions.VariableExpressions.{component_found, of_variable, place_found}

-- ---- one argument

abbrev HandedAgrees : Memory → (base own : ℕ) → Parameter → Outcome Content → Result Bound slots.ErrorName → Type 0
HandedAgrees m base own q (Ok c) (Ok b) = IsHanded m base own q c b
HandedAgrees m base own q (Err e) (Err d) = error_of e ≡ d
HandedAgrees m base own q o s = ⊥

-- what is put is no copy
abbrev NoCopy : Result Bound slots.ErrorName → Type 0
NoCopy (Ok (Copy a n)) = ⊥
NoCopy s = Unit {0}

value_handed : (m : Memory) (base own : ℕ) (q : Parameter) (o : Outcome Content) (s : Result Bound slots.ErrorName) → ValueAgrees m q.ty o s → NoCopy s → HandedAgrees m base own q o s
value_handed m base own q (Ok (holds w)) (Ok (Scalar z)) k n = (k, tt)
value_handed m base own q (Ok (holds w)) (Ok (Set z)) k n = (k, tt)
value_handed m base own q (Ok (holds w)) (Ok (Reference z)) k n = (k, tt)
value_handed m base own q (Ok (holds w)) (Ok (Component z)) k n = (k, tt)
value_handed m base own q (Ok (holds w)) (Ok (Copy a z)) k n = absurd n
value_handed m base own q (Err e) (Err d) k n = k
value_handed m base own q (Ok (refers x)) (Ok b) k n = absurd k
value_handed m base own q (Ok (knows c)) (Ok b) k n = absurd k
value_handed m base own q _ _ k n = absurd k

scalar_no_copy : (x : Result ℤ slots.ErrorName) (low high : ℤ) → NoCopy (then_with x (λ z. then_with (check_range low high z) (λ v. Ok (Scalar v))))
scalar_no_copy (Err e) low high = tt
scalar_no_copy (Ok z) low high = go (check_range low high z)
  where
    go : (r : Result ℤ slots.ErrorName) → NoCopy (then_with r (λ v. Ok (Scalar v)))
    go (Ok v) = tt
    go (Err e) = tt

set_no_copy : (x : Result SetValue slots.ErrorName) (low high : ℕ) → NoCopy (then_with x (λ z. then_with (sets.check_members low high z) (λ v. Ok (Set v))))
set_no_copy (Err e) low high = tt
set_no_copy (Ok z) low high = go (sets.check_members low high z)
  where
    go : (r : Result SetValue slots.ErrorName) → NoCopy (then_with r (λ v. Ok (Set v)))
    go (Ok v) = tt
    go (Err e) = tt

-- An argument for a component is a name, of a component of the parameter's type; no parameter of a component is a `var` parameter; and what is copied lies
-- outside the cells of the component that is started.
pub record StartArgumentKnown (r : Tables) (l : Layouts) (fs : List Frame) (v : View) (base own : ℕ) (q : Parameter) (e : Expression) : Type 0 where
  pub plain : q.is_var ≡ false
  pub range : RangeKnown q.ty
  pub component : (k : ℕ) → q.ty ≡ component_of k → (d : Designator) × (variable_in e ≡ Some d) × ((t : Target) → target_value v d ≡ Ok t → (named.component_at v.components (component_there v t.place)).system ≡ k)
  pub outside : (d : Designator) (t : Target) (a : Address) → target_value v d ≡ Ok t → PlaceAt r l fs t.place q.ty a → IsOutside base own (Copy a (cells_of q.ty))

abbrev pub StartArgumentsKnown : Tables → Layouts → List Frame → View → (base own : ℕ) → List Parameter → Expressions → Type 0
StartArgumentsKnown r l fs v base own [] es = Unit {0}
StartArgumentsKnown r l fs v base own (q ∷ qs) no_expressions = Unit {0}
StartArgumentsKnown r l fs v base own (q ∷ qs) (more_expressions e es) = StartArgumentKnown r l fs v base own q e × StartArgumentsKnown r l fs v base own qs es

of_that_system : (v : View) (k n : ℕ) → (named.component_at v.components n).system ≡ k → of_system v k n ≡ n
of_that_system v k n e = ap (λ (b : Bool). if b then n else length v.components) (eq-eqb (named.component_at v.components n).system k e)

module _ (r : Tables) (l : Layouts) (fs : List Frame) (v : View) (m : Memory) (f : Frame) (h : Here) (sees : Sees r l fs v m f h) (bindings : List ℕ) (known : ComponentsKnown v f h bindings) (base own : ℕ) where
  component_bound : (q : Parameter) (k : ℕ) (o : Outcome Target) (s : Result ℕ slots.ErrorName) → q.ty ≡ component_of k → ((t : Target) → o ≡ Ok t → (named.component_at v.components (component_there v t.place)).system ≡ k) → ComponentAgrees v o s →
      HandedAgrees m base own q (knows_of v k o) (then_with s (λ n. Ok (Component n)))
  component_bound q k (Ok t) (Ok n) is typed i = (k, is, of_that_system v k (component_there v t.place) (typed t refl) ∙ i)
  component_bound q k (Err e) (Err d) is typed i = i
  component_bound q k _ _ is typed i = absurd i

  abbrev IsNamed : ℕ → Expression → Type 0
  IsNamed k e = (d : Designator) × (variable_in e ≡ Some d) × ((t : Target) → target_value v d ≡ Ok t → (named.component_at v.components (component_there v t.place)).system ≡ k)

  component_given : (q : Parameter) (k : ℕ) (e : Expression) (a : ArgumentValue) (c : code.ComponentPlace) (z : Formed) → q.ty ≡ component_of k → code.value_seen a ≡ code.component_of c → expression_form h e ≡ Some z → z.form ≡ as_component c → AreKept h (expression_calls h.scope e) → IsNamed k e →
      HandedAgrees m base own q (bound_value v (component_of k) e) (evaluate_argument m bindings f a)
  component_given q k e (value_of.Component p) c z ty seen formed is kept w =
      let part : code.component_seen p ≡ c = cc in
      let found = component_found v h e w.0 z c w.1 formed is in
      subst (λ o. HandedAgrees m base own q (bound_variable v (knows_of v k) o) (evaluate_argument m bindings f (value_of.Component p))) (sym w.1)
      (component_bound q k (target_value v w.0) (component_at m bindings f p) ty w.2 (component_agrees r l fs v m f h sees bindings known w.0 c found.0 p (found.2 kept) found.1 part))
  component_given q k e x c z ty seen formed is kept w = absurd (cc)

  -- an array or a record
  block_handed : (q : Parameter) (t : Ty) (o : Outcome Target) (s : Result Address slots.ErrorName) → ((w : Value) → checked q.ty w ≡ Ok w) → t ≡ q.ty → ((w : Target) (a : Address) → o ≡ Ok w → PlaceAt r l fs w.place q.ty a → IsOutside base own (Copy a (cells_of q.ty))) → TargetAgrees r l fs o t s →
      HandedAgrees m base own q (held q.ty (of_variable v o)) (then_with s (λ at. Ok (Copy at (cells_of t))))
  block_handed q t (Err e) (Err d) free same out i = i
  block_handed q t (Ok w) (Ok a) free same out i =
      let place = subst (λ u. PlaceAt r l fs w.place u a) same i.1 in
      subst (λ n. HandedAgrees m base own q (held q.ty (of_variable v (Ok w))) (Ok (Copy a n))) (sym (ap cells_of same))
      (subst (λ (o : Outcome Value). HandedAgrees m base own q (o >>= λ x. Ok (holds x)) (Ok (Copy a (cells_of q.ty)))) (sym (free (value_at v w.place)))
      (copy_given m q.ty (value_at v w.place) a (sees.lies w.place q.ty a place), out w a refl place))
  block_handed q t _ _ free same out i = absurd i

  block_given : (q : Parameter) (t : Ty) (e : Expression) (a : ArgumentValue) (p : code.Place) → code.value_seen a ≡ code.copy p (cells_of t) → expression_form h e ≡ Some (record { ty = t; form = as_place p }) → AreKept h (expression_calls h.scope e) → ((w : Value) → checked q.ty w ≡ Ok w) → t ≡ q.ty →
      StartArgumentKnown r l fs v base own q e → HandedAgrees m base own q (held q.ty (value v e)) (evaluate_argument m bindings f a)
  block_given q t e a p seen formed kept free same k =
      let found = place_found r l fs v m f h sees e (record { ty = t; form = as_place p }) p kept formed refl in
      subst (λ s. HandedAgrees m base own q (held q.ty (value v e)) s) (sym (copy_bound m bindings f a p (cells_of t) seen))
      (subst (λ o. HandedAgrees m base own q (held q.ty o) (then_with (plain_address m f p) (λ at. Ok (Copy at (cells_of t))))) (sym found.1)
      (block_handed q t (target_value v found.0) (plain_address m f p) free same (λ w b i j. k.outside found.0 w b i j) found.2))

  -- by the type of the parameter
  by_type : (q : Parameter) (u t : Ty) (form : Form) (e : Expression) (a : ArgumentValue) (c : code.ArgumentValue) → q.ty ≡ u → code.value_seen a ≡ c → expression_form h e ≡ Some (record { ty = t; form = form }) → AreKept h (expression_calls h.scope e) → StartArgumentKnown r l fs v base own q e → ValueGiven u t form c →
      HandedAgrees m base own q (bound_value v u e) (evaluate_argument m bindings f a)
  by_type q (component_of k) t (as_component x) e a c ty seen formed kept w given = component_given q k e a x (record { ty = t; form = as_component x }) ty (seen ∙ given.1) formed refl kept (w.component k ty)
  by_type q (ordinal n) t (as_ordinal x) e a c ty seen formed kept w given =
      value_handed m base own q (bound_value v (ordinal n) e) (evaluate_argument m bindings f a)
      (subst (λ i. ValueAgrees m i (bound_value v (ordinal n) e) (evaluate_argument m bindings f a)) (sym ty) (value_given r l fs v m f h sees bindings (ordinal n) t (as_ordinal x) e a c seen formed kept (subst RangeKnown ty w.range) tt given))
      (subst NoCopy (sym (scalar_bound m bindings f a x n.low n.high (seen ∙ given))) (scalar_no_copy (plain_value m f x) n.low n.high))
  by_type q (set_over n) t (as_set x) e a c ty seen formed kept w given =
      value_handed m base own q (bound_value v (set_over n) e) (evaluate_argument m bindings f a)
      (subst (λ i. ValueAgrees m i (bound_value v (set_over n) e) (evaluate_argument m bindings f a)) (sym ty) (value_given r l fs v m f h sees bindings (set_over n) t (as_set x) e a c seen formed kept (subst RangeKnown ty w.range) tt given))
      (subst NoCopy (sym (set_bound m bindings f a x (natural_of n.low) (natural_of n.high) (seen ∙ given))) (set_no_copy (plain_set m f x) (natural_of n.low) (natural_of n.high)))
  by_type q (array_over n u) t (as_place x) e a c ty seen formed kept w given =
      subst (λ i. HandedAgrees m base own q (held i (value v e)) (evaluate_argument m bindings f a)) ty (block_given q t e a x (seen ∙ given.1) formed kept (λ y. ap (λ i. checked i y) ty) (given.0 ∙ sym ty) w)
  by_type q (record_with ts) t (as_place x) e a c ty seen formed kept w given =
      subst (λ i. HandedAgrees m base own q (held i (value v e)) (evaluate_argument m bindings f a)) ty (block_given q t e a x (seen ∙ given.1) formed kept (λ y. ap (λ i. checked i y) ty) (given.0 ∙ sym ty) w)
  by_type q _ t _ e a c ty seen formed kept w given = absurd given

  start_given : (q : Parameter) (e : Expression) (a : ArgumentValue) (c : code.ArgumentValue) → code.value_seen a ≡ c → IsGiven h q e c → AreKept h (expression_calls h.scope e) → StartArgumentKnown r l fs v base own q e → HandedAgrees m base own q (bound_argument v q e) (evaluate_argument m bindings f a)
  start_given q e a c seen given kept k = go q.is_var k.plain given.given
    where
      go : (b : Bool) → b ≡ false → GivenBy b q.ty given.form c → HandedAgrees m base own q (if b then bound_variable v refers_to (variable_in e) else bound_value v q.ty e) (evaluate_argument m bindings f a)
      go true is g = absurd (cc)
      go false is g = by_type q q.ty given.form.ty given.form.form e a c refl seen given.formed kept k g

  -- ---- all arguments

  abbrev Are : (Name → ℕ) → List Parameter → List Argument → Environment → List Bound → Type 0
  Are places qs xs = λ e bs. AreHanded m base own places qs e xs bs

  more_bound : (places : Name → ℕ) (q : Parameter) (qs : List Parameter) (x : Argument) (xs : List Argument) (o : Outcome Content) (s : Result Bound slots.ErrorName) (p : Outcome Environment) (t : Result (List Bound) slots.ErrorName) → x.slot ≡ places q.name →
      HandedAgrees m base own q o s → BoundsAgree (Are places qs xs) p t → BoundsAgree (Are places (q ∷ qs) (x ∷ xs)) (o >>= λ c. p >>= λ rest. Ok ((q.name, c) ∷ rest)) (then_with s (λ b. then_with t (λ bs. Ok (b ∷ bs))))
  more_bound places q qs x xs (Err e) (Err d) p t at i j = i
  more_bound places q qs x xs (Ok c) (Ok b) (Err e) (Err d) at i j = j
  more_bound places q qs x xs (Ok c) (Ok b) (Err e) (Ok bs) at i j = absurd j
  more_bound places q qs x xs (Ok c) (Ok b) (Ok rest) (Err d) at i j = absurd j
  more_bound places q qs x xs (Ok c) (Ok b) (Ok rest) (Ok bs) at i j = (refl, at, i, j)
  more_bound places q qs x xs _ _ p t at i j = absurd i

  pub start_arguments_agree : (places : Name → ℕ) (qs : List Parameter) (es : Expressions) (cs : List code.Argument) (xs : List Argument) → map code.argument_seen xs ≡ cs → AreGiven h places qs es cs → AreKept h (expressions_calls h.scope es) → StartArgumentsKnown r l fs v base own qs es →
      BoundsAgree (λ e bs. AreHanded m base own places qs e xs bs) (bound v qs es) (bounds_at m bindings f xs)
  start_arguments_agree places [] no_expressions [] [] seen given kept k = tt
  start_arguments_agree places [] no_expressions [] (x ∷ xs) seen given kept k = absurd (cc)
  start_arguments_agree places (q ∷ qs) (more_expressions e es) (c ∷ cs) [] seen given kept k = absurd (cc)
  start_arguments_agree places (q ∷ qs) (more_expressions e es) (c ∷ cs) (x ∷ xs) seen given kept k =
      let first : code.argument_seen x ≡ c = cc in
      let rest : map code.argument_seen xs ≡ cs = cc in
      subst (λ s. BoundsAgree (Are places (q ∷ qs) (x ∷ xs)) (bound v (q ∷ qs) (more_expressions e es)) s) (sym (first_bound r l fs v m f h sees bindings x xs))
      (more_bound places q qs x xs (bound_argument v q e) (evaluate_argument m bindings f x.value) (bound v qs es) (bounds_at m bindings f xs) (ap (λ (y : code.Argument). y.slot) first ∙ given.0)
      (start_given q e x.value c.value (ap (λ (y : code.Argument). y.value) first) given.1 (kept_left h (expression_calls h.scope e) (expressions_calls h.scope es) kept) k.0)
      (start_arguments_agree places qs es cs xs rest given.2 (kept_right h (expression_calls h.scope e) (expressions_calls h.scope es) kept) k.1))
  start_arguments_agree places _ _ _ xs seen given kept k = absurd given
