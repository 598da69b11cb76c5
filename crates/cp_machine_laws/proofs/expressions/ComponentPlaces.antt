-- A component that is named: its number on slots is that of the component that stands at the place on names.
use Rattle.std.proofs.Common.{◌≡◌, ◌∙◌, ℕ, suc, ◌+◌, ◌-◌, ◌*◌, ◌^◌, min, ◌<◌, ◌≤◌, Bool, true, false, if◌then◌else◌, List, [], ◌∷◌, ◌++◌, Option, Some, None, ap, sym, refl, subst, arith, length, append_assoc}
use Rattle.cp_machine_laws.proofs.Words.{some_same, ℤ, pos, ◌+ℤ◌, ◌-ℤ◌, neg_ℤ, unsigned_abs, slice_index_or, Result, Ok, Err, Tables, ComponentPlace, Frame, then_with, Name, Outcome}
use Rattle.cp_machine_laws.proofs.Words.{out_of_range, ◌>>=◌, Choice, the_field, the_element, number_of, in_component, Place, knows, Component, system_of, Typed}
use Rattle.cp_machine_laws.proofs.Words.{designator_calls, selectors_calls, selector_calls, field_chosen, OrdinalAgrees, FormAgrees, Sees, ComponentAgrees, error_of}
use Rattle.cp_machine_laws.proofs.Words.{plain_value, AreKept, Element, Memory, onward, stretch, element_offset, Path, step_down, same_path, Scope, Meaning, local_variable}
use Rattle.cp_machine_laws.proofs.Words.{permanent_variable, routine_meaning, find, value, target_value, selected, chosen, with_field, with_index, with_element_of}
use Rattle.std.proofs.lemmas.Bool.{eq-eqb}
use Rattle.cp_tree.specs.Syntax.{Designator, designator, Selectors, no_selectors, more_selectors, Selector, field, index}
use Rattle.cp_slots.specs.Code as code
use Rattle.cp_store.specs.declared.error.ErrorName as slots
use Rattle.cp_store.specs.declared.error.ErrorName.TheVariants as error
use Rattle.cp_store.specs.Components.{component_at}
use Rattle.cp_meaning.specs.Types.{Ty, Range, ordinal, queue_type, set_over, array_over, record_with, component_of, natural_of, length_of_range, is_within}
use Rattle.cp_meaning.specs.State as named
use Rattle.cp_meaning.specs.Places.{View, Target, content_of, target_meant, target_named, plain_place, with_choice, this_component, component_with, component_known, component_there}
use Rattle.cp_resolved.specs.Layouts.{Layouts, Here, system_here, is_parameter, is_own}
use Rattle.cp_resolved.specs.Compiled as compiled
use Rattle.cp_resolved.specs.Compiled.{Form, as_ordinal, as_set, as_place, as_component, Formed, Designated, a_variable, some_components, a_component, then_form, component_begun, result_begun, begun_form, part_of_form, field_of_form, with_field_form, element_of_form, with_element_form, with_index_form, expression_form, designator_form, selected_form, chosen_form}
use Rattle.cp_machine_laws.proofs.expressions.Choosing.{natural_is, natural_less, above_low, below_all}
use Rattle.cp_machine_laws.proofs.expressions.Expressions.{expression_ok, bind_assoc as bind_twice}
use Rattle.cp_machine_laws.proofs.calls.Kept.{kept_left, kept_right}
use Rattle.cp_machine_laws.proofs.expressions.Values.{then_some}
use Rattle.cp_machine_laws.proofs.expressions.Views.{views_agree}

-- ---- by its view

abbrev pub plain_component : Memory → List ℕ → Frame → code.ComponentPlace → Result ℕ slots.ErrorName
plain_component m bindings f code.own = Ok f.component
plain_component m bindings f (code.contained n) = Ok (onward f.component n)
plain_component m bindings f (code.element first low high stride c) = then_with (plain_value m f c) (λ i. then_with (element_offset low high stride i) (λ far. Ok (onward (onward f.component first) far)))
plain_component m bindings f (code.parameter slot) = Ok (slice_index_or bindings (onward f.own slot) 0)

pub component_seen_is : (m : Memory) (bindings : List ℕ) (f : Frame) (c : ComponentPlace) → component_at m bindings f c ≡ plain_component m bindings f (code.component_seen c)
component_seen_is m bindings f (Element first low high stride e) = ap (λ r. then_with r (λ i. then_with (element_offset low high stride i) (λ far. Ok (onward (onward f.component first) far)))) (views_agree.value m f e.value)
component_seen_is m bindings f _ = refl

-- ---- what is known of the component that executes

abbrev pub own_component : View → Component
own_component v = named.component_at v.components (this_component v)

pub record ComponentsKnown (v : View) (f : Frame) (h : Here) (bindings : List ℕ) : Type 0 where
  pub few : length v.components < 2 ^ 64
  -- a parameter is bound to a component
  pub parameters : (x : Name) (k : ℕ) → find x h.scope ≡ Some (permanent_variable (component_of k)) → is_parameter x (system_of h.program h.system).parameters ≡ true →
      content_of x (own_component v).environment ≡ Some (knows (slice_index_or bindings (onward f.own ((system_here h).slots x)) 0))
  -- a variable has no content, and its component is as much further on as its layout says
  pub variables : (x : Name) (k : ℕ) → find x h.scope ≡ Some (permanent_variable (component_of k)) → is_parameter x (system_of h.program h.system).parameters ≡ false →
      (content_of x (own_component v).environment ≡ None) × (component_with (step_down (own_component v).path x None) v.components ≡ f.component + (system_here h).firsts x)
  pub arrays : (x : Name) (q : Range) (k : ℕ) → find x h.scope ≡ Some (permanent_variable (array_over q (component_of k))) →
      (content_of x (own_component v).environment ≡ None) × ((j : ℕ) → j < length_of_range q → component_with (step_down (own_component v).path x (Some j)) v.components ≡ f.component + (system_here h).firsts x + j * (h.layouts.systems k).count)

component_bound : (path : Path) (cs : List Component) → component_with path cs ≤ length cs
component_bound path [] = omega arith
component_bound path (c ∷ cs) = go (same_path path c.path) (component_bound path cs)
  where
    go : (b : Bool) → component_with path cs ≤ length cs → (if b then 0 else suc (component_with path cs)) ≤ suc (length cs)
    go true ih = omega arith
    go false ih = omega (arith, ih)

-- ---- fields after a place leave the component

abbrev AreFields : List Choice → Type 0
AreFields [] = Unit {0}
AreFields (the_field x ∷ cs) = AreFields cs
AreFields (the_element n ∷ cs) = ⊥

abbrev with_more : Place → List Choice → Place
with_more q cs = record { holder = q.holder; name = q.name; choices = q.choices ++ cs }

abbrev IsVariable : Designated → Type 0
IsVariable (a_variable p t) = Unit {0}
IsVariable d = ⊥

field_variable : (t : Ty) (p : code.Place) (x : Name) (w : Designated) → field_of_form t p x ≡ Some w → IsVariable w
field_variable (record_with ts) (code.place o offset is) x w e = then_some (IsVariable w) (field_chosen ts x) (λ c. Some (part_of_form (code.place o offset is) c)) w e (λ c k j. subst IsVariable (some_same _ w j) tt)
field_variable y p x w e = absurd (cc)

element_variable : (t : Ty) (p : code.Place) (c : code.OrdinalExpression) (w : Designated) → element_of_form t p c ≡ Some w → IsVariable w
element_variable (array_over r t) (code.place o offset is) c w e = subst IsVariable (some_same _ w e) tt
element_variable y p x w e = absurd (cc)

module _ (r : Tables) (l : Layouts) (fs : List Frame) (v : View) (m : Memory) (f : Frame) (h : Here) (sees : Sees r l fs v m f h) (bindings : List ℕ) (known : ComponentsKnown v f h bindings) where
  -- the number of a component, whatever fields come after it
  abbrev NumberAgrees : Outcome Target → Result ℕ slots.ErrorName → Type 0
  NumberAgrees (Ok t) (Ok n) = (cs : List Choice) → AreFields cs → component_there v (with_more t.place cs) ≡ n
  NumberAgrees (Err e) (Err d) = error_of e ≡ d
  NumberAgrees o s = ⊥

  -- those of an array
  abbrev ArrayAgrees : Outcome Target → ℕ → Range → ℕ → Type 0
  ArrayAgrees (Ok t) first q k = (t.ty ≡ array_over q (component_of k)) × ((j : ℕ) (cs : List Choice) → j < length_of_range q → AreFields cs → component_there v (with_more t.place (the_element j ∷ cs)) ≡ onward (onward f.component first) (stretch j (h.layouts.systems k).count))
  ArrayAgrees (Err e) first q k = ⊥

  abbrev NamedAgrees : Outcome Target → Designated → Type 0
  NamedAgrees o (a_variable p t) = Unit {0}
  NamedAgrees o (a_component c k) = NumberAgrees o (plain_component m bindings f c)
  NamedAgrees o (some_components first q k) = ArrayAgrees o first q k

  of_variable : (o : Outcome Target) (w : Designated) → IsVariable w → NamedAgrees o w
  of_variable o (a_variable p t) i = tt
  of_variable o _ i = absurd i

  -- ---- names

  abbrev own : ℕ
  own = this_component v

  -- what stands at a place of the own component
  there_own : (x : Name) (cs : List Choice) → component_there v (record { holder = in_component own; name = x; choices = cs }) ≡ component_known v (record { holder = in_component own; name = x; choices = cs }) (content_of x (own_component v).environment)
  there_own x cs = ap (λ (b : Bool). if b then component_known v (record { holder = in_component own; name = x; choices = cs }) (content_of x (own_component v).environment) else length v.components) (eq-eqb own own refl)

  begun_parameter : (x : Name) (k : ℕ) → find x h.scope ≡ Some (permanent_variable (component_of k)) → is_parameter x (system_of h.program h.system).parameters ≡ true → (cs : List Choice) → component_there v (with_more (plain_place (in_component own) x) cs) ≡ slice_index_or bindings (onward f.own ((system_here h).slots x)) 0
  begun_parameter x k e d cs = there_own x cs ∙ ap (component_known v (record { holder = in_component own; name = x; choices = cs })) (known.parameters x k e d)

  begun_alone : (x : Name) (k : ℕ) → find x h.scope ≡ Some (permanent_variable (component_of k)) → is_parameter x (system_of h.program h.system).parameters ≡ false → (cs : List Choice) → AreFields cs → component_there v (with_more (plain_place (in_component own) x) cs) ≡ onward f.component ((system_here h).firsts x)
  begun_alone x k e d cs fields =
      let w = known.variables x k e d in
      there_own x cs ∙ (ap (component_known v (record { holder = in_component own; name = x; choices = cs })) w.0 ∙ (plain cs fields ∙ (w.1 ∙ sym (exact (component_bound (step_down (own_component v).path x None) v.components) w.1))))
    where
      plain : (cs : List Choice) → AreFields cs → component_known v (record { holder = in_component own; name = x; choices = cs }) None ≡ component_with (step_down (own_component v).path x None) v.components
      plain [] i = refl
      plain (the_field y ∷ cs) i = refl
      plain (the_element n ∷ cs) i = absurd i

      exact : component_with (step_down (own_component v).path x None) v.components ≤ length v.components → component_with (step_down (own_component v).path x None) v.components ≡ f.component + (system_here h).firsts x → onward f.component ((system_here h).firsts x) ≡ f.component + (system_here h).firsts x
      exact le same = (let few = known.few in omega (arith, le, same, few))

  begun_element : (x : Name) (q : Range) (k : ℕ) → find x h.scope ≡ Some (permanent_variable (array_over q (component_of k))) → (j : ℕ) (cs : List Choice) → j < length_of_range q → AreFields cs →
      component_there v (with_more (plain_place (in_component own) x) (the_element j ∷ cs)) ≡ onward (onward f.component ((system_here h).firsts x)) (stretch j (h.layouts.systems k).count)
  begun_element x q k e j cs less fields =
      let w = known.arrays x q k e in
      there_own x (the_element j ∷ cs) ∙ (ap (component_known v (record { holder = in_component own; name = x; choices = the_element j ∷ cs })) w.0
      ∙ (w.1 j less ∙ sym (exact (j * (h.layouts.systems k).count) ((system_here h).firsts x) (component_with (step_down (own_component v).path x (Some j)) v.components) (component_bound (step_down (own_component v).path x (Some j)) v.components) (w.1 j less))))
    where
      exact : (n first number : ℕ) → number ≤ length v.components → number ≡ f.component + first + n → onward (onward f.component first) (min n (2 ^ 64 - 1)) ≡ f.component + first + n
      exact n first number le same = (let few = known.few in omega (arith, le, same, few))

  begun_agrees : (x : Name) (w : Option Meaning) → find x h.scope ≡ w → (d : Designated) → begun_form h x w ≡ Some d → NamedAgrees (Ok (target_meant v x w)) d
  begun_agrees x (Some (local_variable t)) e d k = of_variable (Ok (target_meant v x (Some (local_variable t)))) d (subst IsVariable (some_same _ d k) tt)
  begun_agrees x (Some (routine_meaning y)) e d k = of_variable (Ok (target_meant v x (Some (routine_meaning y)))) d (go (is_own h x) k)
    where
      go : (b : Bool) → result_begun h b ≡ Some d → IsVariable d
      go true k = subst IsVariable (some_same _ d k) tt
      go false k = absurd (cc)
  begun_agrees x (Some (permanent_variable (component_of n))) e d k = subst (NamedAgrees (Ok (target_meant v x (Some (permanent_variable (component_of n)))))) (some_same _ d k) (go (is_parameter x (system_of h.program h.system).parameters) refl)
    where
      go : (b : Bool) → is_parameter x (system_of h.program h.system).parameters ≡ b → NamedAgrees (Ok (target_meant v x (Some (permanent_variable (component_of n))))) (component_begun h x n b)
      go true i = λ cs fields. begun_parameter x n e i cs
      go false i = λ cs fields. begun_alone x n e i cs fields
  begun_agrees x (Some (permanent_variable (array_over q (component_of n)))) e d k =
      subst (NamedAgrees (Ok (target_meant v x (Some (permanent_variable (array_over q (component_of n))))))) (some_same _ d k) (refl, λ j cs less fields. begun_element x q n e j cs less fields)
  begun_agrees x (Some (permanent_variable (array_over q (ordinal n)))) e d k = of_variable (Ok (target_meant v x (Some (permanent_variable (array_over q (ordinal n)))))) d (subst IsVariable (some_same _ d k) tt)
  begun_agrees x (Some (permanent_variable (array_over q queue_type))) e d k = of_variable (Ok (target_meant v x (Some (permanent_variable (array_over q queue_type))))) d (subst IsVariable (some_same _ d k) tt)
  begun_agrees x (Some (permanent_variable (array_over q (set_over n)))) e d k = of_variable (Ok (target_meant v x (Some (permanent_variable (array_over q (set_over n)))))) d (subst IsVariable (some_same _ d k) tt)
  begun_agrees x (Some (permanent_variable (array_over q (array_over n u)))) e d k = of_variable (Ok (target_meant v x (Some (permanent_variable (array_over q (array_over n u)))))) d (subst IsVariable (some_same _ d k) tt)
  begun_agrees x (Some (permanent_variable (array_over q (record_with ts)))) e d k = of_variable (Ok (target_meant v x (Some (permanent_variable (array_over q (record_with ts)))))) d (subst IsVariable (some_same _ d k) tt)
  begun_agrees x (Some (permanent_variable (ordinal n))) e d k = of_variable (Ok (target_meant v x (Some (permanent_variable (ordinal n))))) d (subst IsVariable (some_same _ d k) tt)
  begun_agrees x (Some (permanent_variable queue_type)) e d k = of_variable (Ok (target_meant v x (Some (permanent_variable queue_type)))) d (subst IsVariable (some_same _ d k) tt)
  begun_agrees x (Some (permanent_variable (set_over n))) e d k = of_variable (Ok (target_meant v x (Some (permanent_variable (set_over n))))) d (subst IsVariable (some_same _ d k) tt)
  begun_agrees x (Some (permanent_variable (record_with ts))) e d k = of_variable (Ok (target_meant v x (Some (permanent_variable (record_with ts))))) d (subst IsVariable (some_same _ d k) tt)
  begun_agrees x y e d k = absurd (cc)

  -- ---- selectors

  field_number : (x : Name) (o : Outcome Target) (s : Result ℕ slots.ErrorName) → NumberAgrees o s → NumberAgrees (o >>= λ t. Ok (with_field t x)) s
  field_number x (Ok t) (Ok n) k = λ cs fields. ap (λ ds. component_there v (record { holder = t.place.holder; name = t.place.name; choices = ds })) (append_assoc t.place.choices (the_field x ∷ []) cs) ∙ k (the_field x ∷ cs) fields
  field_number x (Err e) (Err d) k = k
  field_number x _ _ k = absurd k

  field_agrees : (x : Name) (d w : Designated) (o : Outcome Target) → NamedAgrees o d → with_field_form d x ≡ Some w → NamedAgrees (o >>= λ t. Ok (with_field t x)) w
  field_agrees x (a_variable p t) w o k e = of_variable _ w (field_variable t p x w e)
  field_agrees x (a_component c n) w o k e = subst (NamedAgrees (o >>= λ t. Ok (with_field t x))) (some_same (a_component c n) w e) (field_number x o (plain_component m bindings f c) k)
  field_agrees x (some_components first q n) w o k e = absurd (cc)

  element_number : (first n : ℕ) (q : Range) (t : Target) (z : ℤ) → ArrayAgrees (Ok t) first q n → (b : Bool) → is_within q z ≡ b →
      NumberAgrees (if b then Ok (record { place = with_choice t.place (the_element (natural_of (z +ℤ neg_ℤ q.low))); ty = component_of n }) else Err out_of_range)
      (then_with (then_with (if b then Ok z else Err error.Range) (λ i. Ok (stretch (unsigned_abs (i -ℤ q.low)) (h.layouts.systems n).count))) (λ far. Ok (onward (onward f.component first) far)))
  element_number first n q t z k false e = refl
  element_number first n q t z k true e = λ cs fields.
      ap (λ ds. component_there v (record { holder = t.place.holder; name = t.place.name; choices = ds })) (append_assoc t.place.choices (the_element (natural_of (z +ℤ neg_ℤ q.low)) ∷ []) cs)
      ∙ (k.1 (natural_of (z +ℤ neg_ℤ q.low)) cs (natural_less (z +ℤ neg_ℤ q.low) ((q.high +ℤ neg_ℤ q.low) +ℤ pos 1) (above_low q.low q.high z e) (below_all q.low q.high z e)) fields
      ∙ ap (λ j. onward (onward f.component first) (stretch j (h.layouts.systems n).count)) (sym (natural_is (z +ℤ neg_ℤ q.low) (above_low q.low q.high z e))))

  index_number : (first n : ℕ) (q : Range) (t : Ty) (o : Outcome Target) (i : Outcome Typed) (s : Result ℤ slots.ErrorName) → ArrayAgrees o first q n → OrdinalAgrees i t s →
      NumberAgrees (o >>= λ u. i >>= λ x. with_index u x) (then_with s (λ z. then_with (element_offset q.low q.high (h.layouts.systems n).count z) (λ far. Ok (onward (onward f.component first) far))))
  index_number first n q t (Err e) i s k j = absurd k
  index_number first n q t (Ok u) (Err e) (Err d) k j = j
  index_number first n q t (Ok u) (Ok x) (Ok z) k j =
      subst (λ (y : ℤ). NumberAgrees (with_element_of u.ty u y) (then_with (element_offset q.low q.high (h.layouts.systems n).count z) (λ far. Ok (onward (onward f.component first) far)))) (sym (ap number_of j.1))
      (subst (λ (y : Ty). NumberAgrees (with_element_of y u z) (then_with (element_offset q.low q.high (h.layouts.systems n).count z) (λ far. Ok (onward (onward f.component first) far)))) (sym k.0) (element_number first n q u z k (is_within q z) refl))
  index_number first n q t (Ok u) _ _ k j = absurd j

  element_agrees : (d w : Designated) (o : Outcome Target) (t : Ty) (c : code.OrdinalExpression) (i : Outcome Typed) → NamedAgrees o d → OrdinalAgrees i t (plain_value m f c) → with_element_form h d c ≡ Some w → NamedAgrees (o >>= λ u. i >>= λ x. with_index u x) w
  element_agrees (a_variable p u) w o t c i k j e = of_variable _ w (element_variable u p c w e)
  element_agrees (a_component p n) w o t c i k j e = absurd (cc)
  element_agrees (some_components first q n) w o t c i k j e =
      subst (NamedAgrees (o >>= λ u. i >>= λ x. with_index u x)) (some_same (a_component (code.element first q.low q.high (h.layouts.systems n).count c) n) w e) (index_number first n q t o i (plain_value m f c) k j)

  index_agrees : (d w : Designated) (o : Outcome Target) (x : Formed) (i : Outcome Typed) → NamedAgrees o d → FormAgrees m f i x.ty x.form → with_index_form h d x ≡ Some w → NamedAgrees (o >>= λ u. i >>= λ y. with_index u y) w
  index_agrees d w o x i k j e = go x.form j e
    where
      go : (g : Form) → FormAgrees m f i x.ty g → then_form (compiled.ordinal_form g) (with_element_form h d) ≡ Some w → NamedAgrees (o >>= λ u. i >>= λ y. with_index u y) w
      go (as_ordinal c) j e = element_agrees d w o x.ty c i k j e
      go (as_set b) j e = absurd (cc)
      go (as_place p) j e = absurd (cc)
      go (as_component c) j e = absurd (cc)

  chosen_agrees : (c : Selector) (d w : Designated) (o : Outcome Target) → AreKept h (selector_calls h.scope c) → NamedAgrees o d → chosen_form h c d ≡ Some w → NamedAgrees (o >>= chosen v c) w
  chosen_agrees (field i) d w o kept k e = field_agrees i.name d w o k e
  chosen_agrees (index a) d w o kept k e =
      then_some (NamedAgrees (o >>= chosen v (index a)) w) (expression_form h a) _ w e (λ x ex j. index_agrees d w o x (value v a) k (expression_ok r l fs v m f h sees a x kept ex) j)

  done_agrees : (o : Outcome Target) (d : Designated) → NamedAgrees o d → NamedAgrees (o >>= λ t. Ok t) d
  done_agrees (Ok t) d k = k
  done_agrees (Err e) d k = k

  selected_agrees : (ss : Selectors) (d w : Designated) (o : Outcome Target) → AreKept h (selectors_calls h.scope ss) → NamedAgrees o d → selected_form h ss d ≡ Some w → NamedAgrees (o >>= selected v ss) w
  selected_agrees no_selectors d w o kept k e = subst (NamedAgrees (o >>= λ t. Ok t)) (some_same d w e) (done_agrees o d k)
  selected_agrees (more_selectors c ss) d w o kept k e =
      then_some (NamedAgrees (o >>= selected v (more_selectors c ss)) w) (chosen_form h c d) _ w e (λ x ex j.
      subst (λ (p : Outcome Target). NamedAgrees p w) (bind_twice o (chosen v c) (selected v ss))
      (selected_agrees ss x w (o >>= chosen v c) (kept_right h (selector_calls h.scope c) (selectors_calls h.scope ss) kept) (chosen_agrees c d x o (kept_left h (selector_calls h.scope c) (selectors_calls h.scope ss) kept) k ex) j))

  -- the component that a designator names
  pub component_agrees : (d : Designator) (part : code.ComponentPlace) (k : ℕ) (place : ComponentPlace) → AreKept h (designator_calls h.scope d) → designator_form h d ≡ Some (a_component part k) → code.component_seen place ≡ part → ComponentAgrees v (target_value v d) (component_at m bindings f place)
  component_agrees (designator i ss) part k place kept formed seen =
      subst (ComponentAgrees v (target_value v (designator i ss))) (sym (component_seen_is m bindings f place ∙ ap (plain_component m bindings f) seen))
      (then_some (ComponentAgrees v (target_value v (designator i ss)) (plain_component m bindings f part)) (begun_form h i.name (find i.name h.scope)) _ (a_component part k) formed (λ d ed j.
      plain (target_value v (designator i ss)) (plain_component m bindings f part)
      (selected_agrees ss d (a_component part k) (Ok (target_named v i.name)) kept
      (subst (λ (s : Scope). NamedAgrees (Ok (target_meant v i.name (find i.name s))) d) sees.scope (begun_agrees i.name (find i.name h.scope) refl d ed)) j)))
    where
      none_more : (cs : List Choice) → cs ++ [] ≡ cs
      none_more [] = refl
      none_more (c ∷ cs) = ap (λ ds. c ∷ ds) (none_more cs)

      plain : (o : Outcome Target) (s : Result ℕ slots.ErrorName) → NumberAgrees o s → ComponentAgrees v o s
      plain (Ok t) (Ok n) h = sym (ap (λ ds. component_there v (record { holder = t.place.holder; name = t.place.name; choices = ds })) (none_more t.place.choices)) ∙ h [] tt
      plain (Err e) (Err d) h = h
      plain _ _ h = absurd h
