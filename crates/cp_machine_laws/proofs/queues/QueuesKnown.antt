-- An expression that is a queue and a name alone names a permanent variable, since no variable of a routine has queues.
use Rattle.std.proofs.Common.{◌≡◌, ◌∙◌, ℕ, ◌+◌, ℤ, Bool, true, false, if◌then◌else◌, [], ◌∷◌, Option, Some, None, ap, sym, refl, subst}
use Rattle.cp_tree.specs.Syntax.{Expression, no_expressions, Designator, designator, Selectors, no_selectors, more_selectors, Selector, field, index}
use Rattle.cp_slots.specs.Code as code
use Rattle.cp_machine_laws.proofs.Words.{some_same, Name, the_field, View, range_of_base, name_of, variable_in, Chosen, field_chosen, then_chosen, Here, is_indexed, is_free, IsFit}
use Rattle.cp_machine_laws.proofs.Words.{free_part, second_true, Base, Ty, ordinal, queue_type, array_over, record_with, component_of, FieldTypes, is_within, HasQueue}
use Rattle.cp_meaning.specs.Scopes.{Meaning, constant_meaning, type_meaning, local_variable, permanent_variable, routine_meaning, standard_meaning, find}
use Rattle.cp_meaning.specs.Lifting.{is_call, is_call_meant, last_field}
use Rattle.cp_resolved.specs.Compiled.{Form, as_ordinal, as_place, as_component, Formed, loaded_form, then_form, Designated, a_variable, a_component, part_of_form, valued_form, constant_form, named_form, begun_form, with_field_form, with_element_form, with_index_form, ordinal_form, chosen_form, selected_form, designator_form, expression_form}
use Rattle.cp_machine_laws.proofs.expressions.VariableExpressions.{IsName, variable_is}

-- ---- parts of what has no queues

abbrev pub DesignatedFree : Designated → Type 0
DesignatedFree (a_variable p t) = is_free t ≡ true
DesignatedFree d = Unit {0}

abbrev pub FormFree : Option Designated → Type 0
FormFree None = Unit {0}
FormFree (Some d) = DesignatedFree d

field_free : (ts : FieldTypes) (x : Name) (c : Chosen) → is_free (record_with ts) ≡ true → field_chosen ts x ≡ Some c → is_free c.1 ≡ true
field_free ts x c h e = free_part (record_with ts) (the_field x ∷ []) (c.0 + 0, c.1) h (ap (λ (o : Option Chosen). then_chosen o (λ u. Some (0, u))) e)

some_free : {A : Type 0} (o : Option A) (make : A → Option Designated) → ((a : A) → o ≡ Some a → FormFree (make a)) → FormFree (then_form o make)
some_free None make each = tt
some_free (Some a) make each = each a refl

then_free : (o : Option Designated) (make : Designated → Option Designated) → FormFree o → ((d : Designated) → DesignatedFree d → FormFree (make d)) → FormFree (then_form o make)
then_free None make g each = tt
then_free (Some d) make g each = each d g

with_field_free : (d : Designated) (x : Name) → DesignatedFree d → FormFree (with_field_form d x)
with_field_free (a_variable (code.place o n is) (record_with ts)) x g = some_free (field_chosen ts x) (λ c. Some (part_of_form (code.place o n is) c)) (λ c e. field_free ts x c g e)
with_field_free (a_variable p (ordinal r)) x g = tt
with_field_free _ x g = tt

with_element_free : (h : Here) (d : Designated) (c : code.OrdinalExpression) → DesignatedFree d → FormFree (with_element_form h d c)
with_element_free h (a_variable (code.place o n is) (array_over r t)) c g = second_true (is_indexed r t) (is_free t) g
with_element_free h (a_variable p (ordinal r)) c g = tt
with_element_free h _ c g = tt

chosen_free : (h : Here) (c : Selector) (d : Designated) → DesignatedFree d → FormFree (chosen_form h c d)
chosen_free h (field i) d g = with_field_free d i.name g
chosen_free h (index e) d g = some_free (expression_form h e) (with_index_form h d) (λ x s. some_free (ordinal_form x.form) (with_element_form h d) (λ c a. with_element_free h d c g))

pub selected_free : (h : Here) (cs : Selectors) (d : Designated) → DesignatedFree d → FormFree (selected_form h cs d)
selected_free h no_selectors d g = g
selected_free h (more_selectors c cs) d g = then_free (chosen_form h c d) (selected_form h cs) (chosen_free h c d g) (λ e f. selected_free h cs e f)

-- ---- the variable

-- what it is declared as
abbrev pub IsPermanent : Here → Name → Type 0
IsPermanent h x = (t : Ty) × (find x h.scope ≡ Some (permanent_variable t))

pub permanent_found : (h : Here) → ((x : Name) → IsFit (find x h.scope)) → (d : Designator) (spot : code.Place) → designator_form h d ≡ Some (a_variable spot queue_type) → is_call h.scope d ≡ false → IsPermanent h (name_of d)
permanent_found h fit (designator i ss) spot is call = go (find i.name h.scope) refl (fit i.name) is call
  where
    go : (m : Option Meaning) → find i.name h.scope ≡ m → IsFit m → then_form (begun_form h i.name m) (selected_form h ss) ≡ Some (a_variable spot queue_type) → is_call_meant m (last_field ss) ≡ false → IsPermanent h i.name
    go (Some (permanent_variable t)) e f k c = (t, e)
    go (Some (local_variable t)) e f k c = (let bad : false ≡ true = subst FormFree k (then_free (begun_form h i.name (Some (local_variable t))) (selected_form h ss) f (selected_free h ss)) in absurd cc)
    go (Some (routine_meaning r)) e f k c = absurd (let bad : true ≡ false = c in cc)
    go (Some (constant_meaning b z)) e f k c = absurd (cc)
    go (Some (type_meaning t)) e f k c = absurd (cc)
    go (Some (standard_meaning q)) e f k c = absurd (cc)
    go None e f k c = absurd (cc)

-- ---- the name

abbrev pub IsQueue : code.Place → Option Formed → Type 0
IsQueue p o = o ≡ Some (record { ty = queue_type; form = as_place p })

pub form_type : (t : Ty) (f : Form) (p : code.Place) → IsQueue p (Some (record { ty = t; form = f })) → t ≡ queue_type
form_type t f p e = ap (λ (x : Formed). x.ty) (some_same _ _ e)

no_constant : (b : Base) (z : ℤ) (p : code.Place) → IsQueue p (constant_form b z) → ⊥
no_constant b z p e = go (is_within (range_of_base b) z) e
  where
    go : (c : Bool) → IsQueue p (if c then Some (record { ty = ordinal (range_of_base b); form = as_ordinal (code.number z) }) else None) → ⊥
    go true k = (let bad : ordinal (range_of_base b) ≡ queue_type = form_type (ordinal (range_of_base b)) (as_ordinal (code.number z)) p k in cc)
    go false k = cc

valued_queue : (o : Option Designated) (p : code.Place) → IsQueue p (then_form o valued_form) → (spot : code.Place) × (o ≡ Some (a_variable spot queue_type))
valued_queue (Some (a_variable q t)) p e = (let same : t ≡ queue_type = form_type t (loaded_form q t) p e in (q, ap (λ u. Some (a_variable q u)) same))
valued_queue (Some (a_component c k)) p e = absurd (let bad : component_of k ≡ queue_type = form_type (component_of k) (as_component c) p e in cc)
valued_queue x p e = absurd (cc)

named_queue : (h : Here) (at : ℕ) (d : Designator) (m : Option Meaning) (p : code.Place) → IsQueue p (named_form h at d false m (designator_form h d) None) → (spot : code.Place) × (designator_form h d ≡ Some (a_variable spot queue_type))
named_queue h at d (Some (constant_meaning b z)) p e = absurd (no_constant b z p e)
named_queue h at d (Some (standard_meaning q)) p e = absurd (cc)
named_queue h at d _ p e = valued_queue (designator_form h d) p e

pub queue_permanent : (h : Here) → ((x : Name) → IsFit (find x h.scope)) → (e : Expression) (d : Designator) → variable_in e ≡ Some d → is_call h.scope d ≡ false → HasQueue h e → (t : Ty) × (find (name_of d) h.scope ≡ Some (permanent_variable t))
queue_permanent h fit e d is call q =
    let v : View = record { program = h.program; calls = []; components = [] } in
    let x : IsName v h e d no_expressions = variable_is v h e d is in
    let form : IsQueue q.place (named_form h x.token d (is_call h.scope d) (find (name_of d) h.scope) (designator_form h d) None) = sym x.same_form ∙ q.formed in
    let found = named_queue h x.token d (find (name_of d) h.scope) q.place (subst (λ (b : Bool). IsQueue q.place (named_form h x.token d b (find (name_of d) h.scope) (designator_form h d) None)) call form) in
    permanent_found h fit d found.0 found.1 call
