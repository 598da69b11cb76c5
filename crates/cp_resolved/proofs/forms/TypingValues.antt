-- Names that break no rule where they are values have forms: constants, variables, standard functions and calls.
use Rattle.std.proofs.Common.{◌≡◌, ◌≤◌, ℕ, ℤ, pos, Bool, true, false, if◌then◌else◌, List, [], ◌∷◌, Option, Some, None, Ok, Err, refl, sym, ap, subst, arith}
use Rattle.cp_resolved.proofs.Words.{◌-◌, length, Identifier, C5, ValueType, Predeclared, Use, is_of, values_of, whole, Judged, broken, both, ◌>>=◌, Scopes, heading_at}
use Rattle.cp_resolved.proofs.Words.{Context, OperandUse, Operand, Named, value, is_queue_in, Name, Ty, is_within, all_integers, Standard, find, RoutineMeaning}
use Rattle.cp_resolved.proofs.Words.{range_of_base, last_field, is_call_meant, routine_meant, result_called, result_type, Here}
use Rattle.cp_scope.specs.declared.types.Base as check_base
use Rattle.cp_scope.specs.declared.types.Base.TheVariants as base
use Rattle.cp_scope.specs.declared.types.ValueType.TheVariants as types
use Rattle.cp_check.specs.declared.operand.OperandUse.TheVariants as place
use Rattle.cp_check.specs.declared.operand.DesignatedName as check_designated
use Rattle.cp_check.specs.declared.operand.Named.TheVariants as name
use Rattle.cp_check.specs.Operations as operations
use Rattle.cp_check.specs.Calls as calls
use Rattle.cp_slots.specs.Code as code
use Rattle.cp_tree.specs.Syntax.{Selectors, Designator, designator}
use Rattle.cp_meaning.specs.Types as named
use Rattle.cp_meaning.specs.Scopes as scopes
use Rattle.cp_resolved.specs.Compiled.{as_ordinal, as_place, Formed, Designated, a_variable, some_components, a_component, then_form, integer_form, applied_ordinal, applied_form, constant_form, call_form, named_form, valued_form, loaded_form}
use Rattle.cp_resolved.specs.Typed.{Tokens, Written, BaseIs, RangeIs, TypeIs, is_plain, IsOrdinalResult, ResultIs, HeadingIs, ConstantIs, RoutineIs, StandardIs, predeclared_of, FormIs, Expressed, HasForm}
use Rattle.cp_resolved.proofs.forms.Typing.{formed, OrdinalForm, QueueForm, ordinal_found, queue_found, an_integer, a_truth, a_character, then_one}
use Rattle.cp_resolved.proofs.forms.TypingOperations.{integer_found, ok_if}
use Rattle.cp_resolved.proofs.forms.TypingNames.{IsPlainMeaning, IsComponentMeaning, Holds, written, IsCalled, NamedIs, HasDesignated}

-- ---- the values of a base

pub whole_is : (k : Tokens) (c : named.Base) (b : check_base.Base) → BaseIs k c b → RangeIs k (range_of_base c) (whole b)
whole_is k named.integers b h = subst (λ (x : check_base.Base). RangeIs k (range_of_base named.integers) (whole x)) (sym h) (record { base = refl; low = refl; high = refl })
whole_is k named.booleans b h = subst (λ (x : check_base.Base). RangeIs k (range_of_base named.booleans) (whole x)) (sym h) (record { base = refl; low = refl; high = refl })
whole_is k named.characters b h = subst (λ (x : check_base.Base). RangeIs k (range_of_base named.characters) (whole x)) (sym h) (record { base = refl; low = refl; high = refl })
whole_is k (named.enumerated at xs) b h = subst (λ (x : check_base.Base). RangeIs k (range_of_base (named.enumerated at xs)) (whole x)) (sym h.0) (record { base = (refl, h.1, h.2); low = refl; high = refl })

-- integers hold the last value of a base
pub last_number : (k : Tokens) (c : named.Base) (b : check_base.Base) → BaseIs k c b → is_within all_integers (range_of_base c).high ≡ true
last_number k (named.enumerated at xs) b h = few (length xs - 1) (omega (arith, h.1))
  where
    few : (n : ℕ) → n ≤ 32767 → is_within all_integers (pos n) ≡ true
    few n h = search (arith, h)
last_number k _ b h = refl

module _ (tokens : Tokens) (s : Scopes) (h : Here) (w : Context) where
  base_value : (c : named.Base) (b : check_base.Base) (e : code.OrdinalExpression) → BaseIs tokens c b → Expressed (written tokens s h) (values_of b) (Some (formed (named.ordinal (range_of_base c)) (as_ordinal e)))
  base_value c b e i = (e, refl, record { range = whole b; is = refl; belongs = whole_is tokens c b i })

  -- ---- constants

  pub constant_typed : (b : check_base.Base) (c : named.Base) (z y : ℤ) → BaseIs tokens c b → is_within (range_of_base c) y ≡ true → Expressed (written tokens s h) (values_of b) (constant_form c y)
  constant_typed b c z y i e =
      subst (λ (t : Bool). Expressed (written tokens s h) (values_of b) (if t then Some (formed (named.ordinal (range_of_base c)) (as_ordinal (code.number y))) else None)) (sym e) (base_value c b (code.number y) i)

  alone_typed : (o : Operand) (os : List Operand) (f : Option Formed) → Expressed (written tokens s h) o.value_type f → HasForm (written tokens s h) (calls.alone o os) f
  alone_typed o [] f e = e
  alone_typed o (p ∷ os) f e = tt

  -- ---- variables

  loaded_typed : (p : code.Place) (t : Ty) (v : ValueType) → TypeIs (written tokens s h) t v → is_plain t ≡ true → FormIs (written tokens s h) v t (loaded_form p t)
  loaded_typed p (named.ordinal q) v i e = (code.load p, refl, i)
  loaded_typed p (named.set_over q) v i e = (code.load_set p, refl, (Some i.range, i.is))
  loaded_typed p (named.component_of n) v i e = absurd (cc)
  loaded_typed p _ v i e = (p, refl, i)

  held_typed : (m : Option scopes.Meaning) (x : Option Name) (v : ValueType) (o : Option Designated) → Holds (written tokens s h) m x v o → Expressed (written tokens s h) v (then_form o valued_form)
  held_typed m x v (Some (a_variable p t)) i = loaded_typed p t v i.0 i.1
  held_typed m x v (Some (some_components first q k)) i = record { range = q; system = k; belongs = i.0 }
  held_typed m x v (Some (a_component c k)) i = (c, refl, i.0)
  held_typed m x v None i = absurd i

  -- the name of a variable is no call, and no constant or standard function
  pub record IsValue (m : Option scopes.Meaning) (x : Option Name) : Type 0 where
    pub call : is_call_meant m x ≡ false
    pub value : (at : ℕ) (d : Designator) (o : Option Designated) (f : Option Formed) → named_form h at d false m o f ≡ then_form o valued_form

  plain_value : (m : Option scopes.Meaning) (x : Option Name) → IsPlainMeaning m → IsValue m x
  plain_value (Some (scopes.local_variable t)) x i = record { call = refl; value = (λ at d o f. refl) }
  plain_value (Some (scopes.permanent_variable t)) None i = record { call = refl; value = (λ at d o f. refl) }
  plain_value (Some (scopes.permanent_variable t)) (Some y) i = record { call = i; value = (λ at d o f. refl) }
  plain_value _ x i = absurd i

  component_value : (k : ℕ) (m : Option scopes.Meaning) (x : Option Name) → IsComponentMeaning k m → x ≡ None → IsValue m x
  component_value k (Some (scopes.permanent_variable t)) x i e = record { call = ap (is_call_meant (Some (scopes.permanent_variable t))) e; value = (λ at d o f. refl) }
  component_value k _ x i e = absurd i

  pub held_value : (m : Option scopes.Meaning) (x : Option Name) (v : ValueType) (o : Option Designated) → Holds (written tokens s h) m x v o → IsValue m x
  held_value m x v (Some (a_variable p t)) i = plain_value m x i.2
  held_value m x v (Some (some_components first q k)) i = component_value k m x i.1 i.2
  held_value m x v (Some (a_component c k)) i = component_value k m x i.1 i.2
  held_value m x v None i = absurd i

  variable_typed : (at : ℕ) (d : Designator) (m : Option scopes.Meaning) (x : Option Name) (v : ValueType) (o : Option Designated) (f : Option Formed) → Holds (written tokens s h) m x v o → Expressed (written tokens s h) v (named_form h at d (is_call_meant m x) m o f)
  variable_typed at d m x v o f i =
      let is : IsValue m x = held_value m x v o i in
      subst (λ (b : Bool). Expressed (written tokens s h) v (named_form h at d b m o f)) (sym is.call)
      (subst (Expressed (written tokens s h) v) (sym (is.value at d o f)) (held_typed m x v o i))

  -- ---- calls

  result_typed : (at : ℕ) (v : ValueType) (j : Judged Use) (o : Option Ty) → IsOrdinalResult tokens v o → HasForm (written tokens s h) (j >>= calls.with_result at v) (call_form h at (result_type o))
  result_typed at v (Err fs) o i = tt
  result_typed at v (Ok n) (Some (named.ordinal q)) i = (_, refl, i)
  result_typed at v (Ok n) _ i = absurd i

  function_typed : (at name_at : ℕ) (b : Bool) (n : ℕ) (os : List Operand) (u : Use) (v : Option ValueType) (r : Option RoutineMeaning) → ResultIs tokens v r → HasForm (written tokens s h) (calls.function_of s w at name_at b n os u v) (call_form h at (result_called r))
  function_typed at name_at b n os u None r i = tt
  function_typed at name_at b n os u (Some v) (Some r) i = result_typed at v (calls.check_routine_call s w at name_at b n os u) r.result i
  function_typed at name_at b n os u (Some v) None i = absurd i

  pub call_typed : (at name_at : ℕ) (b : Bool) (n : ℕ) (os : List Operand) (u : Use) (r : Option RoutineMeaning) → HeadingIs (written tokens s h) (heading_at n s) r → HasForm (written tokens s h) (calls.function_value s w at name_at b n os u) (call_form h at (result_called r))
  unfolding calls.function_value
  call_typed at name_at b n os u (Some r) i = function_typed at name_at b n os u (heading_at n s).result (Some r) i.0
  call_typed at name_at b n os u None i = absurd i

  -- ---- standard functions

  abbrev W : Written
  W = written tokens s h

  stepped_next : (at : ℕ) (v : ValueType) (u : Use) (f : Option Formed) → Expressed W v f → HasForm W (operations.neighbour_value at v u) (then_form f (applied_form scopes.succ_function))
  stepped_next at (types.Ordinal r) u f e =
      let g : OrdinalForm tokens r f = ordinal_found W r f e in
      then_one (Expressed W (values_of r.base)) (applied_form scopes.succ_function) f (formed (named.ordinal g.range) (as_ordinal g.code)) g.is (base_value g.range.base r.base _ g.belongs.base)
  stepped_next at _ u f e = tt

  stepped_back : (at : ℕ) (v : ValueType) (u : Use) (f : Option Formed) → Expressed W v f → HasForm W (operations.neighbour_value at v u) (then_form f (applied_form scopes.pred_function))
  stepped_back at (types.Ordinal r) u f e =
      let g : OrdinalForm tokens r f = ordinal_found W r f e in
      then_one (Expressed W (values_of r.base)) (applied_form scopes.pred_function) f (formed (named.ordinal g.range) (as_ordinal g.code)) g.is (base_value g.range.base r.base _ g.belongs.base)
  stepped_back at _ u f e = tt

  numbered_typed : (at : ℕ) (v : ValueType) (u : Use) (f : Option Formed) → Expressed W v f → HasForm W (operations.ordinal_number at v u) (then_form f (applied_form scopes.ord_function))
  numbered_typed at (types.Ordinal r) u f e =
      let g : OrdinalForm tokens r f = ordinal_found W r f e in
      then_one (Expressed W (values_of base.Integer)) (applied_form scopes.ord_function) f (formed (named.ordinal g.range) (as_ordinal g.code)) g.is
      (subst (λ (b : Bool). Expressed W (values_of base.Integer) (if b then integer_form g.code else None)) (sym (last_number tokens g.range.base r.base g.belongs.base)) (an_integer W g.code))
  numbered_typed at _ u f e = tt

  -- a function of integers
  of_integer : (q : Standard) (v : ValueType) (b : check_base.Base) (f : Option Formed) → Expressed W v f → is_of base.Integer v ≡ true →
      ((t : named.Range) (c : code.OrdinalExpression) → Expressed W (values_of b) (applied_ordinal q (named.ordinal t) true c)) → Expressed W (values_of b) (then_form f (applied_form q))
  of_integer q v b f e i k =
      let g = integer_found W v f e i in
      then_one (Expressed W (values_of b)) (applied_form q) f (formed (named.ordinal g.range) (as_ordinal g.code)) g.is
      (subst (λ (t : Bool). Expressed W (values_of b) (applied_ordinal q (named.ordinal g.range) t g.code)) (sym g.belongs) (k g.range g.code))

  emptied : (v : ValueType) (p : OperandUse) (f : Option Formed) → Expressed W v f → is_queue_in v p ≡ true → Expressed W (values_of base.Boolean) (then_form f (applied_form scopes.empty_function))
  emptied types.Queue p f e i =
      let g : QueueForm f = queue_found W f e in
      then_one (Expressed W (values_of base.Boolean)) (applied_form scopes.empty_function) f (formed named.queue_type (as_place g.place)) g.is (a_truth W _)
  emptied x p f e i = absurd (cc)

  applied_typed : (at : ℕ) (q : Standard) (o : Operand) (u : Use) (f : Option Formed) → Expressed W o.value_type f → HasForm W (operations.standard_value_of at (predeclared_of q) o u) (then_form f (applied_form q))
  applied_typed at scopes.succ_function o u f e = stepped_next at o.value_type u f e
  applied_typed at scopes.pred_function o u f e = stepped_back at o.value_type u f e
  applied_typed at scopes.ord_function o u f e = numbered_typed at o.value_type u f e
  applied_typed at scopes.chr_function o u f e =
      ok_if W (is_of base.Integer o.value_type) (value at (values_of base.Char) u) at _ (then_form f (applied_form scopes.chr_function)) (λ i. of_integer scopes.chr_function o.value_type base.Char f e i (λ t c. a_character W _))
  applied_typed at scopes.abs_function o u f e =
      ok_if W (is_of base.Integer o.value_type) (value at (values_of base.Integer) u) at _ (then_form f (applied_form scopes.abs_function)) (λ i. of_integer scopes.abs_function o.value_type base.Integer f e i (λ t c. an_integer W _))
  applied_typed at scopes.empty_function o u f e =
      ok_if W (is_queue_in o.value_type o.place) (value at (values_of base.Boolean) u) at _ (then_form f (applied_form scopes.empty_function)) (λ i. emptied o.value_type o.place f e i)
  applied_typed at _ o u f e = tt

  -- the first argument
  abbrev pub ArgumentIs : List Operand → Option Formed → Type 0
  ArgumentIs [] f = Unit {0}
  ArgumentIs (o ∷ os) f = Expressed W o.value_type f

  applied_all_typed : (at : ℕ) (q : Standard) (os : List Operand) (u : Use) (f : Option Formed) → ArgumentIs os f → HasForm W (operations.standard_value_of_all at (predeclared_of q) os u) (then_form f (applied_form q))
  applied_all_typed at q (o ∷ []) u f e = applied_typed at q o u f e
  applied_all_typed at q _ u f e = tt

  standard_applied : (at : ℕ) (q : Standard) (os : List Operand) (u : Use) (f : Option Formed) → ArgumentIs os f → HasForm W (operations.standard_value at (predeclared_of q) os u) (then_form f (applied_form q))
  standard_applied at q os u f e = go (operations.is_function (predeclared_of q))
    where
      go : (b : Bool) → HasForm W (if b then operations.standard_value_of_all at (predeclared_of q) os u else broken at C5) (then_form f (applied_form q))
      go true = applied_all_typed at q os u f e
      go false = tt

  -- ---- a name with its arguments

  standard_typed : (at : ℕ) (d : Designator) (p : Predeclared) (os : List Operand) (u : Use) (m : Option scopes.Meaning) (x : Option Name) (o : Option Designated) (f : Option Formed) → StandardIs p m → ArgumentIs os f → HasForm W (operations.standard_value at p os u) (named_form h at d (is_call_meant m x) m o f)
  standard_typed at d p os u (Some (scopes.standard_meaning q)) x o f i e = subst (λ (r : Predeclared). HasForm W (operations.standard_value at r os u) (then_form f (applied_form q))) i (standard_applied at q os u f e)
  standard_typed at d p os u _ x o f i e = absurd i

  number_typed : (at : ℕ) (d : Designator) (b : check_base.Base) (z : ℤ) (m : Option scopes.Meaning) (x : Option Name) (o : Option Designated) (f : Option Formed) → ConstantIs tokens b z m → Expressed W (values_of b) (named_form h at d (is_call_meant m x) m o f)
  number_typed at d b z (Some (scopes.constant_meaning c y)) x o f i = constant_typed b c z y i.0 i.2
  number_typed at d b z _ x o f i = absurd i

  -- a routine's own name, with the selectors after it
  pub own_called : (i : Name) (n : ℕ) (m : Option scopes.Meaning) (x : Option Name) → RoutineIs (written tokens s h) (heading_at n s) i h.scope m → IsCalled tokens s h n i m x
  own_called i n (Some (scopes.routine_meaning r)) x e = record { is = refl; heading = e }
  own_called i n _ x e = absurd e

  called_typed : (at name_at : ℕ) (b : Bool) (i : Identifier) (ss : Selectors) (n : ℕ) (os : List Operand) (u : Use) (o : Option Designated) (f : Option Formed) → IsCalled tokens s h n i.name (find i.name h.scope) (last_field ss) →
      HasForm W (calls.function_value s w at name_at b n os u) (named_form h at (designator i ss) (is_call_meant (find i.name h.scope) (last_field ss)) (find i.name h.scope) o f)
  called_typed at name_at b i ss n os u o f c =
      subst (λ (t : Bool). HasForm W (calls.function_value s w at name_at b n os u) (named_form h at (designator i ss) t (find i.name h.scope) o f)) (sym c.is)
      (call_typed at name_at b n os u (routine_meant h.program h.scope i.name (find i.name h.scope) (last_field ss)) c.heading)

  value_typed : (at : ℕ) (i : Identifier) (ss : Selectors) (d : check_designated.DesignatedName) (n : Named) (os : List Operand) (o : Option Designated) (f : Option Formed) →
      NamedIs tokens s h i.name (find i.name h.scope) (last_field ss) n o → ArgumentIs os f →
      HasForm W (calls.value_by_name s w at d os n) (named_form h at (designator i ss) (is_call_meant (find i.name h.scope) (last_field ss)) (find i.name h.scope) o f)
  value_typed at i ss d (name.Constant b) os o f e a =
      alone_typed (value at (values_of b) d.uses) os _ (number_typed at (designator i ss) b e.0 (find i.name h.scope) (last_field ss) o f e.1)
  value_typed at i ss d (name.Variable v) os o f e a =
      alone_typed (calls.operand_at at v (calls.place_of s v) d.uses) os _ (variable_typed at (designator i ss) (find i.name h.scope) (last_field ss) v o f e)
  value_typed at i ss d (name.Parameter v) os o f e a =
      alone_typed (calls.operand_at at v place.Fixed d.uses) os _ (variable_typed at (designator i ss) (find i.name h.scope) (last_field ss) v o f e)
  value_typed at i ss d (name.Predeclared p) os o f e a = standard_typed at (designator i ss) p os (calls.total_use d.uses os) (find i.name h.scope) (last_field ss) o f e a
  value_typed at i ss d (name.Routine n) os o f e a = called_typed at d.name_at true i ss n os d.uses o f (own_called i.name n (find i.name h.scope) (last_field ss) e)
  value_typed at i ss d (name.Entry n) os o f e a = called_typed at d.name_at false i ss n os d.uses o f e
  value_typed at i ss d _ os o f e a = tt

  abbrev pub AreArguments : Judged (List Operand) → Option Formed → Type 0
  AreArguments (Ok os) f = ArgumentIs os f
  AreArguments (Err fs) f = Unit {0}

  pub name_typed : (at : ℕ) (i : Identifier) (ss : Selectors) (j : Judged check_designated.DesignatedName) (k : Judged (List Operand)) (o : Option Designated) (f : Option Formed) →
      HasDesignated tokens s h i.name (find i.name h.scope) (last_field ss) j o → AreArguments k f →
      HasForm W (both j k >>= calls.value_of s w at) (named_form h at (designator i ss) (is_call_meant (find i.name h.scope) (last_field ss)) (find i.name h.scope) o f)
  unfolding calls.value_of
  name_typed at i ss (Ok d) (Ok os) o f e a = value_typed at i ss d d.named os o f e a
  name_typed at i ss (Err fs) (Ok os) o f e a = tt
  name_typed at i ss _ _ o f e a = tt
