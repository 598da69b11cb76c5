-- Names with selectors that break no rule stand for what their forms stand for.
use Rattle.std.proofs.Common.{◌≡◌, ◌+◌, ℕ, ℤ, Bool, true, false, if◌then◌else◌, [], Option, Some, None, Ok, Err, refl, sym, ap, subst, ◌∙◌}
use Rattle.cp_resolved.proofs.Words.{bytes_eq, Identifier, SystemKind, Range, ValueType, Use, Meaning, ArrayShape, agree, Judged, both, ◌>>=◌, Operand, Named}
use Rattle.cp_resolved.proofs.Words.{Selectors, no_selectors, more_selectors, field, index, Name, Ty, FieldTypes, find, last_field, is_call_meant}
use Rattle.cp_resolved.proofs.Words.{routine_meant, Here, cells_of, is_parameter, Chosen, field_chosen, further_chosen, system_of}
use Rattle.cp_scope.specs.declared.types.ValueType.TheVariants as types
use Rattle.cp_scope.specs.declared.types.Meaning.TheVariants as meaning
use Rattle.cp_scope.specs.Scopes.{Names, Scope, as_field, Scopes, look, look_in, field_at, array_at, member_at, heading_at}
use Rattle.cp_scope.specs.Scopes as scope
use Rattle.cp_check.specs.declared.operand.DesignatedName as check_designated
use Rattle.cp_check.specs.declared.operand.Named.TheVariants as name
use Rattle.cp_check.specs.Names as names
use Rattle.cp_check.specs.Expressions as expressions
use Rattle.cp_slots.specs.Code as code
use Rattle.cp_meaning.specs.Types as named
use Rattle.cp_meaning.specs.Scopes as scopes
use Rattle.cp_resolved.specs.Compiled.{as_ordinal, Formed, Designated, a_variable, some_components, a_component, then_form, component_begun, permanent_begun, begun_form, part_of_form, with_field_form, element_of_form, with_index_form}
use Rattle.cp_resolved.specs.Typed.{Tokens, Written, ComponentIs, TypeIs, FieldsAre, is_plain, are_plain, MayStand, HeadingIs, VariableIs, ConstantIs, RoutineIs, StandardIs, MeaningIs, ScopesAgree, Expressed, HasForm}
use Rattle.cp_resolved.proofs.forms.Typing.{formed, OrdinalForm, ordinal_found}
use Rattle.cp_resolved.proofs.frames.LeastCells.{right_true as second_true}
use Rattle.cp_resolved.proofs.counts.FewCells.{left_of as first_true}

-- ---- fields

-- a field that is there, with its type
pub record FieldForm (w : Written) (ts : FieldTypes) (x : Name) (v : ValueType) : Type 0 where
  pub chosen : Chosen
  pub is : field_chosen ts x ≡ Some chosen
  pub belongs : TypeIs w chosen.1 v
  pub plain : is_plain chosen.1 ≡ true

field_cons : (w : Written) (b : Bool) (y : Name) (t : Ty) (ts : FieldTypes) (x : Name) (u v : ValueType) (ds : Names) → bytes_eq x y ≡ b → TypeIs w t u → is_plain t ≡ true →
    (scope.find x ds ≡ Some (Some (meaning.Variable v)) → FieldForm w ts x v) →
    (if b then Some (Some (meaning.Variable u)) else scope.find x ds) ≡ Some (Some (meaning.Variable v)) → FieldForm w (named.more_field_types y t ts) x v
field_cons w true y t ts x u v ds e h p ih g =
    let same : u ≡ v = cc in
    record {
      chosen = (0, t);
      is = ap (λ (b : Bool). if b then Some (0, t) else further_chosen (cells_of t) (field_chosen ts x)) e;
      belongs = subst (TypeIs w t) same h;
      plain = p;
    }
field_cons w false y t ts x u v ds e h p ih g =
    let f : FieldForm w ts x v = ih g in
    record {
      chosen = (cells_of t + f.chosen.0, f.chosen.1);
      is = ap (λ (b : Bool). if b then Some (0, t) else further_chosen (cells_of t) (field_chosen ts x)) e ∙ ap (further_chosen (cells_of t)) f.is;
      belongs = f.belongs;
      plain = f.plain;
    }

pub field_typed : (w : Written) (ts : FieldTypes) (ds : Names) (x : Name) (v : ValueType) → FieldsAre w ts ds → are_plain ts ≡ true → scope.find x ds ≡ Some (Some (meaning.Variable v)) → FieldForm w ts x v
field_typed w named.no_field_types ds x v h p e = absurd (let bad : scope.find x [] ≡ Some (Some (meaning.Variable v)) = subst (λ (es : Names). scope.find x es ≡ Some (Some (meaning.Variable v))) h e in cc)
field_typed w (named.more_field_types y t ts) ds x v h p e =
    field_cons w (bytes_eq x y) y t ts x h.value_type v h.rest refl h.belongs (first_true (is_plain t) (are_plain ts) p)
    (λ g. field_typed w ts h.rest x v h.others (second_true (is_plain t) (are_plain ts) p) g)
    (subst (λ (es : Names). scope.find x es ≡ Some (Some (meaning.Variable v))) h.first e)

-- ---- what a variable stands for

-- its declaration: no component is in it
abbrev pub IsPlainMeaning : Option scopes.Meaning → Type 0
IsPlainMeaning (Some (scopes.local_variable t)) = Unit {0}
IsPlainMeaning (Some (scopes.permanent_variable t)) = named.has_components t ≡ false
IsPlainMeaning o = ⊥

-- the system type of a component, or of the components of an array
abbrev pub OfSystem : ℕ → Ty → Type 0
OfSystem k (named.component_of n) = n ≡ k
OfSystem k (named.array_over q (named.component_of n)) = n ≡ k
OfSystem k t = ⊥

abbrev pub IsComponentMeaning : ℕ → Option scopes.Meaning → Type 0
IsComponentMeaning k (Some (scopes.permanent_variable t)) = OfSystem k t
IsComponentMeaning k o = ⊥

-- A name with the selectors so far, by the meaning of the name and the last of the selectors, if that is a field.
abbrev pub Holds : Written → Option scopes.Meaning → Option Name → ValueType → Option Designated → Type 0
Holds w m x v (Some (a_variable p t)) = TypeIs w t v × (is_plain t ≡ true) × IsPlainMeaning m
Holds w m x v (Some (some_components first q k)) = TypeIs w (named.array_over q (named.component_of k)) v × IsComponentMeaning k m × (x ≡ None)
Holds w m x v (Some (a_component c k)) = ComponentIs w k v × IsComponentMeaning k m × (x ≡ None)
Holds w m x v None = ⊥

module _ (tokens : Tokens) (s : Scopes) (h : Here) where
  abbrev pub written : Written
  written = record { shapes = s.shapes; tokens = tokens }

  -- the call of a routine, by the name that stands for it
  pub record IsCalled (n : ℕ) (i : Name) (m : Option scopes.Meaning) (x : Option Name) : Type 0 where
    pub is : is_call_meant m x ≡ true
    pub heading : HeadingIs written (heading_at n s) (routine_meant h.program h.scope i m x)

  abbrev pub NamedIs : Name → Option scopes.Meaning → Option Name → Named → Option Designated → Type 0
  NamedIs i m x (name.Constant b) d = (z : ℤ) × ConstantIs tokens b z m
  NamedIs i m x (name.Variable v) d = Holds written m x v d
  NamedIs i m x (name.Parameter v) d = Holds written m x v d
  NamedIs i m x (name.Routine n) d = RoutineIs written (heading_at n s) i h.scope m
  NamedIs i m x (name.Entry n) d = IsCalled n i m x
  NamedIs i m x (name.Predeclared q) d = StandardIs q m
  NamedIs i m x _ d = Unit {0}

  abbrev pub HasDesignated : Name → Option scopes.Meaning → Option Name → Judged check_designated.DesignatedName → Option Designated → Type 0
  HasDesignated i m x (Ok d) o = NamedIs i m x d.named o
  HasDesignated i m x (Err fs) o = Unit {0}

  -- ---- a name alone

  parameter_or_part : (x : Name) (k : ℕ) (v : ValueType) (m : Option scopes.Meaning) (b : Bool) → ComponentIs written k v → IsComponentMeaning k m → Holds written m None v (Some (component_begun h x k b))
  parameter_or_part x k v m true c i = (c, i, refl)
  parameter_or_part x k v m false c i = (c, i, refl)

  permanent_holds : (x : Name) (v : ValueType) (t : Ty) → TypeIs written t v → MayStand t → Holds written (Some (scopes.permanent_variable t)) None v (Some (permanent_begun h x t))
  permanent_holds x v (named.component_of k) i p = parameter_or_part x k v (Some (scopes.permanent_variable (named.component_of k))) (is_parameter x (system_of h.program h.system).parameters) i refl
  permanent_holds x v (named.array_over q (named.component_of k)) i p = (i, refl, refl)
  permanent_holds x v _ i p = (i, p, refl)

  variable_holds : (x : Name) (v : ValueType) (o : Option scopes.Meaning) → VariableIs written v o → Holds written o None v (begun_form h x o)
  variable_holds x v (Some (scopes.local_variable t)) i = (i.0, i.1, tt)
  variable_holds x v (Some (scopes.permanent_variable t)) i = permanent_holds x v t i.0 i.1
  variable_holds x v _ i = absurd i

  meaning_holds : (x : Name) (m : Meaning) (o : Option scopes.Meaning) → MeaningIs written s x h.scope m o → NamedIs x o None (names.without_selectors m) (begun_form h x o)
  meaning_holds x (meaning.Constant b z) o i = (z, i)
  meaning_holds x (meaning.Kind v) o i = tt
  meaning_holds x (meaning.Variable v) o i = variable_holds x v o i
  meaning_holds x (meaning.Parameter v) o i = variable_holds x v o i
  meaning_holds x (meaning.Reference v) o i = variable_holds x v o i
  meaning_holds x _ o i = i

  found_holds : (at : ℕ) (x : Name) (o : Option (Option Meaning)) → ((m : Meaning) → o ≡ Some (Some m) → MeaningIs written s x h.scope m (find x h.scope)) → HasDesignated x (find x h.scope) None (names.check_visible at o >>= names.designation_of at) (begun_form h x (find x h.scope))
  found_holds at x (Some (Some m)) k = meaning_holds x m (find x h.scope) (k m refl)
  found_holds at x _ k = tt

  pub begun_typed : (agree : ScopesAgree tokens s h) (i : Identifier) → HasDesignated i.name (find i.name h.scope) None (names.meaning_of_name s i) (begun_form h i.name (find i.name h.scope))
  unfolding names.meaning_of_name names.visible
  begun_typed agree i = found_holds i.at i.name (look i.name s) (λ m e. agree.names i.name m e)

  -- ---- fields, and routines of components

  part_typed : (p : code.Place) (ts : FieldTypes) (m : Option scopes.Meaning) (y : Name) (v : ValueType) → IsPlainMeaning m → FieldForm written ts y v → Holds written m (Some y) v (with_field_form (a_variable p (named.record_with ts)) y)
  part_typed (code.place o n is) ts m y v i f =
      let K : Option Chosen → Type 0 = (λ c. Holds written m (Some y) v (then_form c (λ c. Some (part_of_form (code.place o n is) c)))) in
      subst K (sym f.is) (f.belongs, f.plain, i)

  record_field : (token : ℕ) (t : Ty) (v : ValueType) (m : Option scopes.Meaning) (y : Name) (p : code.Place) → TypeIs written t (types.Record token) → is_plain t ≡ true → IsPlainMeaning m → field_at token y s ≡ Some (Some (meaning.Variable v)) → Holds written m (Some y) v (with_field_form (a_variable p t) y)
  record_field token (named.record_with ts) v m y p i plain k e =
      let same : token ≡ i.token = record_token token i.token i.is in
      let found : scope.find y i.fields.names ≡ Some (Some (meaning.Variable v)) = seen i.fields y i.visible ∙ (sym (ap (as_field y) i.there) ∙ (ap (λ n. field_at n y s) (sym same) ∙ e)) in
      part_typed p ts m y v k (field_typed written ts i.fields.names y v i.each plain found)
    where
      record_token : (n k : ℕ) → types.Record n ≡ types.Record k → n ≡ k
      record_token n k h = cc

      seen : (c : Scope) (x : Name) → c.is_sealed ≡ false → scope.find x c.names ≡ look_in x c
      seen c x e = ap (λ (b : Bool). if b then scope.through_seal (scope.find x c.names) else scope.find x c.names) (sym e)
  record_field token (named.ordinal q) v m y p i plain k e = absurd (let bad : types.Record token ≡ types.Ordinal i.range = i.is in cc)
  record_field token named.queue_type v m y p i plain k e = absurd (let bad : types.Record token ≡ types.Queue = i in cc)
  record_field token (named.set_over q) v m y p i plain k e = absurd (let bad : types.Record token ≡ types.Set (Some i.range) = i.is in cc)
  record_field token (named.array_over q t) v m y p i plain k e = absurd (let bad : types.Record token ≡ types.Array i.token = i.is in cc)
  record_field token (named.component_of n) v m y p i plain k e = absurd (let bad : types.Record token ≡ types.Component i.kind (tokens.systems n) = i.is in cc)

  field_held : (token : ℕ) (v : ValueType) (m : Option scopes.Meaning) (x : Option Name) (y : Name) (o : Option Designated) → Holds written m x (types.Record token) o → field_at token y s ≡ Some (Some (meaning.Variable v)) → Holds written m (Some y) v (then_form o (λ c. with_field_form c y))
  field_held token v m x y (Some (a_variable p t)) i e = record_field token t v m y p i.0 i.1 i.2 e
  field_held token v m x y (Some (some_components first q k)) i e = absurd (let bad : types.Record token ≡ types.Array i.0.token = i.0.is in cc)
  field_held token v m x y (Some (a_component c k)) i e = absurd (let bad : types.Record token ≡ types.Component i.0.kind (tokens.systems k) = i.0.is in cc)
  field_held token v m x y None i e = absurd i

  component_token : (j k : SystemKind) (n l : ℕ) → types.Component j n ≡ types.Component k l → n ≡ l
  component_token j k n l h = cc

  entry_of : (agree : ScopesAgree tokens s h) (k r : ℕ) (t : Ty) (i y : Name) → OfSystem k t → member_at (tokens.systems k) y s ≡ Some (Some (meaning.Routine r)) → IsCalled r i (Some (scopes.permanent_variable t)) (Some y)
  entry_of agree k r (named.component_of n) i y o e = record { is = refl; heading = agree.entries n r y (subst (λ j. member_at (tokens.systems j) y s ≡ Some (Some (meaning.Routine r))) (sym o) e) }
  entry_of agree k r (named.array_over q (named.component_of n)) i y o e = record { is = refl; heading = agree.entries n r y (subst (λ j. member_at (tokens.systems j) y s ≡ Some (Some (meaning.Routine r))) (sym o) e) }
  entry_of agree k r _ i y o e = absurd o

  entry_called : (agree : ScopesAgree tokens s h) (k r : ℕ) (m : Option scopes.Meaning) (i y : Name) → IsComponentMeaning k m → member_at (tokens.systems k) y s ≡ Some (Some (meaning.Routine r)) → IsCalled r i m (Some y)
  entry_called agree k r (Some (scopes.permanent_variable t)) i y o e = entry_of agree k r t i y o e
  entry_called agree k r _ i y o e = absurd o

  component_of_plain : (j : SystemKind) (token : ℕ) (t : Ty) → TypeIs written t (types.Component j token) → is_plain t ≡ true → ⊥
  component_of_plain j token (named.component_of n) i p = absurd (cc)
  component_of_plain j token (named.ordinal q) i p = absurd (let bad : types.Component j token ≡ types.Ordinal i.range = i.is in cc)
  component_of_plain j token named.queue_type i p = absurd (let bad : types.Component j token ≡ types.Queue = i in cc)
  component_of_plain j token (named.set_over q) i p = absurd (let bad : types.Component j token ≡ types.Set (Some i.range) = i.is in cc)
  component_of_plain j token (named.array_over q t) i p = absurd (let bad : types.Component j token ≡ types.Array i.token = i.is in cc)
  component_of_plain j token (named.record_with ts) i p = absurd (let bad : types.Component j token ≡ types.Record i.token = i.is in cc)

  entry_held : (agree : ScopesAgree tokens s h) (j : SystemKind) (token r : ℕ) (m : Option scopes.Meaning) (x : Option Name) (i y : Name) (o : Option Designated) → Holds written m x (types.Component j token) o → member_at token y s ≡ Some (Some (meaning.Routine r)) → IsCalled r i m (Some y)
  entry_held agree j token r m x i y (Some (a_variable p t)) e g = absurd (component_of_plain j token t e.0 e.1)
  entry_held agree j token r m x i y (Some (some_components first q k)) e g = absurd (let bad : types.Component j token ≡ types.Array e.0.token = e.0.is in cc)
  entry_held agree j token r m x i y (Some (a_component c k)) e g =
      entry_called agree k r m i y e.1 (subst (λ n. member_at n y s ≡ Some (Some (meaning.Routine r))) (component_token j e.0.kind token (tokens.systems k) e.0.is) g)
  entry_held agree j token r m x i y None e g = absurd e

  -- ---- elements

  array_element : (token : ℕ) (t : Ty) (a : ArrayShape) (m : Option scopes.Meaning) (p : code.Place) (c : code.OrdinalExpression) → TypeIs written t (types.Array token) → is_plain t ≡ true → IsPlainMeaning m → array_at token s ≡ Some a → Holds written m None a.element (element_of_form t p c)
  array_element token (named.array_over q t) a m (code.place o n is) c i plain k e =
      let same : token ≡ i.token = array_token token i.token i.is in
      let shape : i.shape ≡ a = one_shape i.shape a (sym i.there ∙ (ap (λ n. array_at n s) (sym same) ∙ e)) in
      (subst (λ (b : ArrayShape). TypeIs written t b.element) shape i.belongs, plain, k)
    where
      array_token : (n k : ℕ) → types.Array n ≡ types.Array k → n ≡ k
      array_token n k h = cc

      one_shape : (a b : ArrayShape) → Some a ≡ Some b → a ≡ b
      one_shape a b h = cc
  array_element token (named.ordinal q) a m p c i plain k e = absurd (let bad : types.Array token ≡ types.Ordinal i.range = i.is in cc)
  array_element token named.queue_type a m p c i plain k e = absurd (let bad : types.Array token ≡ types.Queue = i in cc)
  array_element token (named.set_over q) a m p c i plain k e = absurd (let bad : types.Array token ≡ types.Set (Some i.range) = i.is in cc)
  array_element token (named.record_with ts) a m p c i plain k e = absurd (let bad : types.Array token ≡ types.Record i.token = i.is in cc)
  array_element token (named.component_of n) a m p c i plain k e = absurd (let bad : types.Array token ≡ types.Component i.kind (tokens.systems n) = i.is in cc)

  component_element : (token k : ℕ) (q : named.Range) (a : ArrayShape) → TypeIs written (named.array_over q (named.component_of k)) (types.Array token) → array_at token s ≡ Some a → ComponentIs written k a.element
  component_element token k q a i e =
      let same : token ≡ i.token = array_token token i.token i.is in
      let shape : i.shape ≡ a = one_shape i.shape a (sym i.there ∙ (ap (λ n. array_at n s) (sym same) ∙ e)) in
      subst (λ (b : ArrayShape). ComponentIs written k b.element) shape i.belongs
    where
      array_token : (n k : ℕ) → types.Array n ≡ types.Array k → n ≡ k
      array_token n k h = cc

      one_shape : (a b : ArrayShape) → Some a ≡ Some b → a ≡ b
      one_shape a b h = cc

  element_held : (token : ℕ) (a : ArrayShape) (m : Option scopes.Meaning) (x : Option Name) (o : Option Designated) (q : named.Range) (c : code.OrdinalExpression) → Holds written m x (types.Array token) o → array_at token s ≡ Some a → Holds written m None a.element (then_form o (λ d. with_index_form h d (formed (named.ordinal q) (as_ordinal c))))
  element_held token a m x (Some (a_variable p t)) q c i e = array_element token t a m p c i.0 i.1 i.2 e
  element_held token a m x (Some (some_components first r k)) q c i e = (component_element token k r a i.0 e, i.1, refl)
  element_held token a m x (Some (a_component d k)) q c i e = absurd (let bad : types.Array token ≡ types.Component i.0.kind (tokens.systems k) = i.0.is in cc)
  element_held token a m x None q c i e = absurd i

  -- ---- a selector

  module _ (agrees : ScopesAgree tokens s h) (x0 : Name) (m : Option scopes.Meaning) where
    with_field_typed : (at a : ℕ) (u : Use) (n : Named) (y : Name) (O : Option Designated) (q : Option (Option Meaning)) → ((v : ValueType) → q ≡ Some (Some (meaning.Variable v)) → NamedIs x0 m (Some y) (names.part_of n v) O) → HasDesignated x0 m (Some y) (names.with_field at (names.designation a u n) q) O
    with_field_typed at a u n y O (Some (Some (meaning.Variable v))) k = k v refl
    with_field_typed at a u n y O _ k = tt

    with_entry_typed : (at a : ℕ) (u : Use) (n : Named) (y : Name) (O : Option Designated) (q : Option (Option Meaning)) → ((r : ℕ) → q ≡ Some (Some (meaning.Routine r)) → IsCalled r x0 m (Some y)) → HasDesignated x0 m (Some y) (names.with_entry at (names.designation a u n) q) O
    with_entry_typed at a u n y O (Some (Some (meaning.Routine r))) k = k r refl
    with_entry_typed at a u n y O _ k = tt

    -- n is a variable or a parameter of the type
    selected_value : (x : Option Name) (i : Identifier) (a : ℕ) (u : Use) (n : Named) (o : Option Designated) (v : ValueType) → Holds written m x v o →
        ((y : ValueType) → Holds written m (Some i.name) y (then_form o (λ c. with_field_form c i.name)) → NamedIs x0 m (Some i.name) (names.part_of n y) (then_form o (λ c. with_field_form c i.name))) →
        HasDesignated x0 m (Some i.name) (names.member_by_type s i (names.designation a u n) (Some v)) (then_form o (λ c. with_field_form c i.name))
    selected_value x i a u n o (types.Record token) d k =
        with_field_typed i.at a u n i.name (then_form o (λ c. with_field_form c i.name)) (field_at token i.name s) (λ v e. k v (field_held token v m x i.name o d e))
    selected_value x i a u n o (types.Component j token) d k =
        with_entry_typed i.at a u n i.name (then_form o (λ c. with_field_form c i.name)) (member_at token i.name s) (λ r e. entry_held agrees j token r m x x0 i.name o d e)
    selected_value x i a u n o _ d k = tt

    field_step : (x : Option Name) (i : Identifier) (a : ℕ) (u : Use) (n : Named) (o : Option Designated) → NamedIs x0 m x n o → HasDesignated x0 m (Some i.name) (names.member_of s i (names.designation a u n)) (then_form o (λ c. with_field_form c i.name))
    field_step x i a u (name.Variable v) o d = selected_value x i a u (name.Variable v) o v d (λ y k. k)
    field_step x i a u (name.Parameter v) o d = selected_value x i a u (name.Parameter v) o v d (λ y k. k)
    field_step x i a u _ o d = tt

    pub field_selected : (x : Option Name) (i : Identifier) (j : Judged check_designated.DesignatedName) (o : Option Designated) → HasDesignated x0 m x j o → HasDesignated x0 m (Some i.name) (j >>= names.member_of s i) (then_form o (λ c. with_field_form c i.name))
    field_selected x i (Ok d) o e = field_step x i d.name_at d.uses d.named o e
    field_selected x i (Err fs) o e = tt

    -- ---- an index

    pub index_ordinal : (r : Range) (v : ValueType) (f : Option Formed) → agree (types.Ordinal r) v ≡ true → Expressed written v f → (q : named.Range) × (c : code.OrdinalExpression) × (f ≡ Some (formed (named.ordinal q) (as_ordinal c)))
    index_ordinal r (types.Ordinal y) f e d = (let g : OrdinalForm tokens y f = ordinal_found written y f d in (g.range, g.code, g.is))
    index_ordinal r x f e d = absurd (cc)

    module _ (a : ℕ) (u : Use) (n : Named) (o : Option Designated) (v : Operand) (f : Option Formed) (d : Expressed written v.value_type f) where
      abbrev Chosen' : Option Designated
      Chosen' = then_form o (λ c. then_form f (with_index_form h c))

      element_typed : (q : Option ArrayShape) → ((y : ArrayShape) → q ≡ Some y → agree (types.Ordinal y.index) v.value_type ≡ true → NamedIs x0 m None (names.part_of n y.element) Chosen') → NamedIs x0 m None (names.element_of (names.designation a u n) v q) Chosen'
      element_typed None k = tt
      element_typed (Some y) k = go (agree (types.Ordinal y.index) v.value_type) (λ e. k y refl e)
        where
          go : (b : Bool) → (b ≡ true → NamedIs x0 m None (names.part_of n y.element) Chosen') → NamedIs x0 m None (if b then names.part_of n y.element else name.Nothing) Chosen'
          go true k = k refl
          go false k = tt

      indexed_value : (x : Option Name) (y : ValueType) → Holds written m x y o → ((z : ValueType) → Holds written m None z Chosen' → NamedIs x0 m None (names.part_of n z) Chosen') → NamedIs x0 m None (names.element_name_of s (names.designation a u n) v (Some y)) Chosen'
      indexed_value x (types.Array token) i k =
          element_typed (array_at token s) (λ z e g.
          let at = index_ordinal z.index v.value_type f g d in
          k z.element (subst (λ (q : Option Formed). Holds written m None z.element (then_form o (λ c. then_form q (with_index_form h c)))) (sym at.2) (element_held token z m x o at.0 at.1 i e)))
      indexed_value x _ i k = tt

    index_step : (x : Option Name) (a : ℕ) (u : Use) (n : Named) (o : Option Designated) (v : Operand) (f : Option Formed) → NamedIs x0 m x n o → Expressed written v.value_type f → NamedIs x0 m None (names.element_name_of s (names.designation a u n) v (names.type_of n)) (then_form o (λ c. then_form f (with_index_form h c)))
    index_step x a u (name.Variable y) o v f i d = indexed_value a u (name.Variable y) o v f d x y i (λ z k. k)
    index_step x a u (name.Parameter y) o v f i d = indexed_value a u (name.Parameter y) o v f d x y i (λ z k. k)
    index_step x a u _ o v f i d = tt

    pub index_selected : (x : Option Name) (j : Judged check_designated.DesignatedName) (k : Judged Operand) (o : Option Designated) (f : Option Formed) → HasDesignated x0 m x j o → HasForm written k f → HasDesignated x0 m None (both j k >>= expressions.at_index s) (then_form o (λ c. then_form f (with_index_form h c)))
    index_selected x (Ok d) (Ok v) o f i e = index_step x d.name_at d.uses d.named o v f i e
    index_selected x (Err fs) (Ok v) o f i e = tt
    index_selected x _ _ o f i e = tt

    known_step : (at a : ℕ) (u : Use) (n : Named) (x : Option Name) (o : Option Designated) → NamedIs x0 m x n o → HasDesignated x0 m x (names.check_selectors at (names.designation a u n)) o
    known_step at a u name.Nothing x o d = tt
    known_step at a u _ x o d = d

    pub known_selected : (at : ℕ) (x : Option Name) (j : Judged check_designated.DesignatedName) (o : Option Designated) → HasDesignated x0 m x j o → HasDesignated x0 m x (j >>= names.check_selectors at) o
    known_selected at x (Ok d) o e = known_step at d.name_at d.uses d.named x o e
    known_selected at x (Err fs) o e = tt

-- the last of some selectors, after others
abbrev pub last_or : Option Name → Selectors → Option Name
last_or x no_selectors = x
last_or x (more_selectors (field i) ss) = last_or (Some i.name) ss
last_or x (more_selectors (index e) ss) = last_or None ss

pub last_same : (ss : Selectors) → last_or None ss ≡ last_field ss
last_same (more_selectors (field i) (more_selectors (field j) ss)) = last_same (more_selectors (field j) ss)
last_same (more_selectors (field i) (more_selectors (index e) ss)) = last_same (more_selectors (index e) ss)
last_same (more_selectors (index d) (more_selectors (field j) ss)) = last_same (more_selectors (field j) ss)
last_same (more_selectors (index d) (more_selectors (index e) ss)) = last_same (more_selectors (index e) ss)
last_same _ = refl
