-- A variable with selectors has a type that stands, as the names of the program have, and so a value in a range of it has its type.
use Rattle.std.proofs.Common.{◌≡◌, ℕ, ◌+◌, pos, int_le, Bool, true, false, ◌&&◌, arith, [], ◌∷◌, Option, Some, None, ap, refl, subst}
use Rattle.cp_machine_laws.proofs.Words.{Designator, designator, Selectors, no_selectors, more_selectors, Selector, field, index, Program, Name, the_field, result_type}
use Rattle.cp_machine_laws.proofs.Words.{Meaning, local_variable, permanent_variable, routine_meaning, find, Here, here, Layouts, is_own, is_parameter, Chosen, field_chosen}
use Rattle.cp_machine_laws.proofs.Words.{then_chosen, second_true, Range, Ty, ordinal, set_over, array_over, record_with, component_of, FieldTypes}
use Rattle.cp_slots.specs.Code as code
use Rattle.cp_resolved.specs.Compiled.{then_form, Designated, a_variable, some_components, a_component, part_of_form, component_begun, permanent_begun, result_begun, begun_form, with_field_form, with_element_form, with_index_form, ordinal_form, chosen_form, selected_form, designator_form, expression_form}
use Rattle.cp_resolved.specs.Standing.{is_bounded, is_based, is_indexed, is_element, is_standing, IsFit, IsFreeResult}
use Rattle.cp_resolved.proofs.counts.FewCells.{in_order, left_of as first_true}
use Rattle.cp_resolved.proofs.declarations.StandingParts.{free_part, within_base}
use Rattle.cp_machine_laws.proofs.assignments.AnyAssignments.{RangeKnown}
use Rattle.cp_resolved.proofs.agreeing.AgreeingTypes.{element_standing, free_standing}

-- ---- a type that stands

abbrev pub IsGood : Ty → Type 0
IsGood t = is_standing t ≡ true

-- the greatest value of a set's base is no negative number
high_enough : (r : Range) → is_based r ≡ true → int_le (pos 0) r.high ≡ true
high_enough r h =
    let bounded = first_true (is_bounded r) (int_le (pos 0) r.low && int_le r.high (pos 127)) h in
    let low = first_true (int_le (pos 0) r.low) (int_le r.high (pos 127)) (second_true (is_bounded r) (int_le (pos 0) r.low && int_le r.high (pos 127)) h) in
    let order = in_order r bounded in
    search (arith, low, order)

pub range_known : (t : Ty) → IsGood t → RangeKnown t
range_known (ordinal r) h = within_base r h
range_known (set_over r) h = high_enough r h
range_known _ h = tt

field_stands : (ts : FieldTypes) (x : Name) (c : Chosen) → IsGood (record_with ts) → field_chosen ts x ≡ Some c → IsGood c.1
field_stands ts x c h e =
    free_standing c.1 (free_part (record_with ts) (the_field x ∷ []) (c.0 + 0, c.1) h (ap (λ (o : Option Chosen). then_chosen o (λ u. Some (0, u))) e))

-- ---- names with selectors

abbrev DesignatedGood : Designated → Type 0
DesignatedGood (a_variable p t) = IsGood t
DesignatedGood (some_components first r k) = Unit {0}
DesignatedGood (a_component c k) = Unit {0}

abbrev FormGood : Option Designated → Type 0
FormGood None = Unit {0}
FormGood (Some d) = DesignatedGood d

component_good : (h : Here) (x : Name) (k : ℕ) (b : Bool) → DesignatedGood (component_begun h x k b)
component_good h x k true = tt
component_good h x k false = tt

permanent_good : (h : Here) (x : Name) (t : Ty) → IsGood t → DesignatedGood (permanent_begun h x t)
permanent_good h x (component_of k) g = component_good h x k (is_parameter x _)
permanent_good h x (array_over r (component_of k)) g = tt
permanent_good h x _ g = g

result_good : (o : Option Ty) → IsFreeResult o → IsGood (result_type o)
result_good None free = refl
result_good (Some t) free = free_standing t free

-- the types that names have where the statements of a routine stand, and that of its result
pub record NamesTyped (l : Layouts) (n : ℕ) : Type 0 where
  pub fit : (x : Name) → IsFit (find x (l.meanings n).scope)
  pub result : IsFreeResult (l.meanings n).result

begun_good : (p : Program) (l : Layouts) (n : ℕ) (x : Name) → NamesTyped l n → FormGood (begun_form (here p l n) x (find x (l.meanings n).scope))
begun_good p l n x known = go (find x (l.meanings n).scope) (known.fit x)
  where
    own : (b : Bool) → FormGood (result_begun (here p l n) b)
    own true = result_good (l.meanings n).result known.result
    own false = tt

    go : (w : Option Meaning) → IsFit w → FormGood (begun_form (here p l n) x w)
    go (Some (permanent_variable t)) f = permanent_good (here p l n) x t f
    go (Some (local_variable t)) f = free_standing t f
    go (Some (routine_meaning r)) f = own (is_own (here p l n) x)
    go _ f = tt

some_good : {A : Type 0} (o : Option A) (make : A → Option Designated) → ((a : A) → o ≡ Some a → FormGood (make a)) → FormGood (then_form o make)
some_good None make each = tt
some_good (Some a) make each = each a refl

then_good : (o : Option Designated) (make : Designated → Option Designated) → FormGood o → ((d : Designated) → DesignatedGood d → FormGood (make d)) → FormGood (then_form o make)
then_good None make g each = tt
then_good (Some d) make g each = each d g

with_field_good : (d : Designated) (x : Name) → DesignatedGood d → FormGood (with_field_form d x)
with_field_good (a_variable (code.place o n is) (record_with ts)) x g = some_good (field_chosen ts x) (λ c. Some (part_of_form (code.place o n is) c)) (λ c e. field_stands ts x c g e)
with_field_good (a_variable p (ordinal r)) x g = tt
with_field_good _ x g = tt

with_element_good : (h : Here) (d : Designated) (c : code.OrdinalExpression) → DesignatedGood d → FormGood (with_element_form h d c)
with_element_good h (a_variable (code.place o n is) (array_over r t)) c g = element_standing t (second_true (is_indexed r t) (is_element t) g)
with_element_good h (a_variable p (ordinal r)) c g = tt
with_element_good h _ c g = tt

chosen_good : (h : Here) (c : Selector) (d : Designated) → DesignatedGood d → FormGood (chosen_form h c d)
chosen_good h (field i) d g = with_field_good d i.name g
chosen_good h (index e) d g = some_good (expression_form h e) (with_index_form h d) (λ x s. some_good (ordinal_form x.form) (with_element_form h d) (λ c a. with_element_good h d c g))

selected_good : (h : Here) (cs : Selectors) (d : Designated) → DesignatedGood d → FormGood (selected_form h cs d)
selected_good h no_selectors d g = g
selected_good h (more_selectors c cs) d g = then_good (chosen_form h c d) (selected_form h cs) (chosen_good h c d g) (λ e f. selected_good h cs e f)

pub designator_good : (p : Program) (l : Layouts) (n : ℕ) → NamesTyped l n → (d : Designator) (spot : code.Place) (t : Ty) → designator_form (here p l n) d ≡ Some (a_variable spot t) → IsGood t
designator_good p l n known (designator i ss) spot t e =
    subst FormGood e (then_good (begun_form (here p l n) i.name (find i.name (l.meanings n).scope)) (selected_form (here p l n) ss) (begun_good p l n i.name known) (λ d g. selected_good (here p l n) ss d g))

-- the variable of a `for`
pub counted_good : (p : Program) (l : Layouts) (n : ℕ) → NamesTyped l n → (x : Name) (spot : code.Place) (t : Ty) → begun_form (here p l n) x (find x (l.meanings n).scope) ≡ Some (a_variable spot t) → IsGood t
counted_good p l n known x spot t e = subst FormGood e (begun_good p l n x known)
