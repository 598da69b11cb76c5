-- A name with selectors designates a part of what the name stands for: a variable of the open call, or of the component that is executed.
use Rattle.cp_machine_laws.proofs.Words.{◌≡◌, ℕ, Bool, true, false, if◌then◌else◌, Option, Some, None, Ok, Err, sym, refl, subst, ℤ, ◌+ℤ◌, neg_ℤ, Identifier, Name, Outcome}
use Rattle.cp_machine_laws.proofs.Words.{out_of_range, ◌>>=◌, Typed, Ty, array_over, record_with, component_of, natural_of, is_within, Meaning, local_variable}
use Rattle.cp_machine_laws.proofs.Words.{permanent_variable, routine_meaning, find, Holder, in_call, in_component, Place, current, the_element, number_of, View, Target}
use Rattle.cp_machine_laws.proofs.Words.{target_meant, target_named, with_choice, this_component, value, target_value, selected, chosen, with_index, with_element_of, Here}
use Rattle.cp_machine_laws.proofs.Words.{is_own, is_parameter, field_chosen, Designator, designator, Selectors, no_selectors, more_selectors, Selector, field, index}
use Rattle.cp_slots.specs.Code as code
use Rattle.cp_resolved.specs.Compiled.{then_form, Designated, a_variable, some_components, a_component, part_of_form, component_begun, permanent_begun, result_begun, begun_form, field_of_form, with_field_form, element_of_form, with_element_form, with_index_form, ordinal_form, chosen_form, selected_form, designator_form, expression_form}

-- ---- on names

-- a part of what stands at the place
abbrev pub IsPartOf : Place → Place → Type 0
IsPartOf q x = (x.holder ≡ q.holder) × (x.name ≡ q.name)

abbrev LeadsTo : Place → Outcome Target → Type 0
LeadsTo q (Ok t) = IsPartOf q t.place
LeadsTo q (Err e) = Unit {0}

element_leads : (q : Place) (u : Ty) (t : Target) (z : ℤ) → IsPartOf q t.place → LeadsTo q (with_element_of u t z)
element_leads q (array_over r u) t z h = go (is_within r z)
  where
    go : (b : Bool) → LeadsTo q (if b then Ok (record { place = with_choice t.place (the_element (natural_of (z +ℤ neg_ℤ r.low))); ty = u }) else Err out_of_range)
    go true = h
    go false = tt
element_leads q _ t z h = h

chosen_leads : (v : View) (q : Place) (c : Selector) (t : Target) → IsPartOf q t.place → LeadsTo q (chosen v c t)
chosen_leads v q (field i) t h = h
chosen_leads v q (index e) t h = go (value v e)
  where
    go : (o : Outcome Typed) → LeadsTo q (o >>= λ x. with_index t x)
    go (Ok x) = element_leads q t.ty t (number_of x.value) h
    go (Err e) = tt

selected_leads : (v : View) (q : Place) (cs : Selectors) (t : Target) → IsPartOf q t.place → LeadsTo q (selected v cs t)
selected_leads v q no_selectors t h = h
selected_leads v q (more_selectors c cs) t h = go (chosen v c t) (chosen_leads v q c t h) (λ u k. selected_leads v q cs u k)
  where
    go : (o : Outcome Target) → LeadsTo q o → ((u : Target) → IsPartOf q u.place → LeadsTo q (selected v cs u)) → LeadsTo q (o >>= λ u. selected v cs u)
    go (Ok u) k rest = rest u k
    go (Err e) k rest = tt

pub name_designates : (v : View) (i : Identifier) (ss : Selectors) (x : Target) → target_value v (designator i ss) ≡ Ok x → IsPartOf (target_named v i.name).place x.place
name_designates v i ss x e = subst (LeadsTo (target_named v i.name).place) e (selected_leads v (target_named v i.name).place ss (target_named v i.name) (refl, refl))

designated_part : (v : View) (d : Designator) (x : Target) → target_value v d ≡ Ok x → (i : Name) × IsPartOf (target_named v i).place x.place
designated_part v (designator i ss) x e = (i.name, name_designates v i ss x e)

-- a variable of an open call, or one of the component that is executed
abbrev pub IsOwnHolder : View → Holder → Type 0
IsOwnHolder v (in_call below) = Unit {0}
IsOwnHolder v (in_component n) = n ≡ this_component v

meant_own : (v : View) (x : Name) (w : Option Meaning) → ((u : Ty) → w ≡ Some (local_variable u) → ⊥) → IsOwnHolder v (target_meant v x w).place.holder
meant_own v x (Some (permanent_variable u)) never = refl
meant_own v x (Some (local_variable u)) never = absurd (never u refl)
meant_own v x _ never = tt

-- where no local variable is visible, so that none is a `var` parameter
pub designated_own : (v : View) → ((x : Name) (u : Ty) → find x (current v.calls).scope ≡ Some (local_variable u) → ⊥) → (d : Designator) (x : Target) → target_value v d ≡ Ok x → IsOwnHolder v x.place.holder
designated_own v never d x e =
    let w = designated_part v d x e in
    subst (IsOwnHolder v) (sym w.1.0) (meant_own v w.0 (find w.0 (current v.calls).scope) (never w.0))

-- ---- the form of a component

-- a component of a system type, or an array of such
abbrev pub IsNamedAs : Option Meaning → ℕ → Type 0
IsNamedAs (Some (permanent_variable (component_of n))) k = n ≡ k
IsNamedAs (Some (permanent_variable (array_over q (component_of n)))) k = n ≡ k
IsNamedAs w k = ⊥

module _ (w : Option Meaning) where
  abbrev IsSo : Designated → Type 0
  IsSo (a_variable p t) = Unit {0}
  IsSo (some_components first r k) = IsNamedAs w k
  IsSo (a_component c k) = IsNamedAs w k

  abbrev FormSo : Option Designated → Type 0
  FormSo None = Unit {0}
  FormSo (Some d) = IsSo d

  some_so : {A : Type 0} (o : Option A) (make : A → Option Designated) → ((a : A) → FormSo (make a)) → FormSo (then_form o make)
  some_so None make each = tt
  some_so (Some a) make each = each a

  then_so : (o : Option Designated) (make : Designated → Option Designated) → FormSo o → ((d : Designated) → IsSo d → FormSo (make d)) → FormSo (then_form o make)
  then_so None make g each = tt
  then_so (Some d) make g each = each d g

  field_so : (t : Ty) (p : code.Place) (x : Name) → FormSo (field_of_form t p x)
  field_so (record_with ts) (code.place o n is) x = some_so (field_chosen ts x) (λ c. Some (part_of_form (code.place o n is) c)) (λ c. tt)
  field_so _ p x = tt

  element_so : (t : Ty) (p : code.Place) (c : code.OrdinalExpression) → FormSo (element_of_form t p c)
  element_so (array_over r t) (code.place o n is) c = tt
  element_so _ p c = tt

  with_field_so : (d : Designated) (x : Name) → IsSo d → FormSo (with_field_form d x)
  with_field_so (a_variable p t) x g = field_so t p x
  with_field_so (a_component c k) x g = g
  with_field_so (some_components first r k) x g = tt

  with_element_so : (h : Here) (d : Designated) (c : code.OrdinalExpression) → IsSo d → FormSo (with_element_form h d c)
  with_element_so h (a_variable p t) c g = element_so t p c
  with_element_so h (some_components first r k) c g = g
  with_element_so h (a_component b k) c g = tt

  chosen_so : (h : Here) (c : Selector) (d : Designated) → IsSo d → FormSo (chosen_form h c d)
  chosen_so h (field i) d g = with_field_so d i.name g
  chosen_so h (index e) d g = some_so (expression_form h e) (with_index_form h d) (λ x. some_so (ordinal_form x.form) (with_element_form h d) (λ c. with_element_so h d c g))

  selected_so : (h : Here) (cs : Selectors) (d : Designated) → IsSo d → FormSo (selected_form h cs d)
  selected_so h no_selectors d g = g
  selected_so h (more_selectors c cs) d g = then_so (chosen_form h c d) (selected_form h cs) (chosen_so h c d g) (λ e f. selected_so h cs e f)

component_so : (h : Here) (x : Name) (k : ℕ) (b : Bool) → IsSo (Some (permanent_variable (component_of k))) (component_begun h x k b)
component_so h x k true = refl
component_so h x k false = refl

permanent_so : (h : Here) (x : Name) (t : Ty) → IsSo (Some (permanent_variable t)) (permanent_begun h x t)
permanent_so h x (component_of k) = component_so h x k (is_parameter x _)
permanent_so h x (array_over r (component_of k)) = refl
permanent_so h x _ = tt

begun_so : (h : Here) (x : Name) (w : Option Meaning) → FormSo w (begun_form h x w)
begun_so h x (Some (permanent_variable t)) = permanent_so h x t
begun_so h x (Some (routine_meaning r)) = go (is_own h x)
  where
    go : (b : Bool) → FormSo (Some (routine_meaning r)) (result_begun h b)
    go true = tt
    go false = tt
begun_so h x _ = tt

-- what has the form of a component is named as one
pub component_meant : (h : Here) (i : Identifier) (ss : Selectors) (part : code.ComponentPlace) (k : ℕ) → designator_form h (designator i ss) ≡ Some (a_component part k) → IsNamedAs (find i.name h.scope) k
component_meant h i ss part k e =
    let w = find i.name h.scope in
    subst (FormSo w) e (then_so w (begun_form h i.name w) (selected_form h ss) (begun_so h i.name w) (λ d g. selected_so w h ss d g))
