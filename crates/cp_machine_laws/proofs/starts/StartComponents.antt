-- The arguments of a start, one by one: an argument for a component is a name, of a component of the parameter's type.
use Rattle.cp_machine_laws.proofs.Words.{◌≡◌, ◌∙◌, ℕ, Bool, true, false, List, [], ◌∷◌, Some, ap, sym, refl, subst, map, Result, Ok, Err, Expression, Expressions}
use Rattle.cp_machine_laws.proofs.Words.{more_expressions, Designator, Tables, Argument, ArgumentValue, ComponentPlace, Copy, Address, Frame, Memory, Name, Outcome, Parameter}
use Rattle.cp_machine_laws.proofs.Words.{View, Target, component_there, target_value, variable_in, expression_calls, expressions_calls, Layouts, Here, cells_of, Each}
use Rattle.cp_machine_laws.proofs.Words.{ValueGiven, GivenBy, AreGiven, Sees, ComponentAgrees, IsOutside, AreKept, PlaceAt, Ty, ordinal, queue_type, set_over, array_over}
use Rattle.cp_machine_laws.proofs.Words.{record_with, component_of, Form, as_ordinal, as_set, as_place, as_component, Formed, expression_form}
use Rattle.cp_slots.specs.Code as code
use Rattle.cp_slots.specs.Systems.{is_component, HandsOne, Hands, Names}
use Rattle.cp_slots.specs.declared.place.ArgumentValue.TheVariants as value_of
use Rattle.cp_store.specs.declared.error.ErrorName as slots
use Rattle.cp_store.specs.Components.{component_at}
use Rattle.cp_meaning.specs.State as named
use Rattle.cp_resolved.specs.Headed.{HandedBy, AreHanded}
use Rattle.cp_resolved.specs.Used.{IsUsed, AreUsed}
use Rattle.cp_machine_laws.specs.StatesKnown.{IsHandedSo, AreHandedSo}
use Rattle.cp_machine_laws.proofs.expressions.ComponentPlaces.{ComponentsKnown, component_agrees}
use Rattle.cp_machine_laws.proofs.calls.Kept.{kept_left, kept_right}
use Rattle.cp_machine_laws.proofs.expressions.VariableExpressions.{component_found, component_named, IsPlace}

-- ---- arguments that are no components

abbrev IsPlain : code.ArgumentValue → Type 0
IsPlain (code.component_of c) = ⊥
IsPlain g = Unit {0}

plain_value : (x : ArgumentValue) → IsPlain (code.value_seen x) → is_component x ≡ false
plain_value (value_of.Component c) i = absurd i
plain_value _ i = refl

hands_plain : (r : Tables) (system started slot next : ℕ) (others : ℕ → Type 0) (x : ArgumentValue) → is_component x ≡ false → HandsOne r system started x slot next others → others next
hands_plain r system started slot next others (value_of.Component c) i h = absurd (let bad : true ≡ false = i in cc)
hands_plain r system started slot next others _ i h = h

abbrev IsNoComponent : Ty → Type 0
IsNoComponent (component_of k) = ⊥
IsNoComponent u = Unit {0}

-- a value parameter of another type gets a value
plain_given : (u t : Ty) (form : Form) (g : code.ArgumentValue) → IsNoComponent u → ValueGiven u t form g → IsPlain g
plain_given (ordinal n) t (as_ordinal c) g i v = subst IsPlain (sym v) tt
plain_given (set_over n) t (as_set c) g i v = subst IsPlain (sym v) tt
plain_given (array_over n w) t (as_place c) g i v = subst IsPlain (sym v.1) tt
plain_given (record_with ts) t (as_place c) g i v = subst IsPlain (sym v.1) tt
plain_given (component_of k) t form g i v = absurd i
plain_given _ t _ g i v = absurd v

by_value : (b : Bool) (u : Ty) (z : Formed) (g : code.ArgumentValue) → b ≡ false → GivenBy b u z g → ValueGiven u z.ty z.form g
by_value false u z g e h = h
by_value true u z g e h = absurd (let bad : true ≡ false = e in cc)

-- what names and slots find is one component
pub found_there : (v : View) (o : Outcome Target) (b : Result ℕ slots.ErrorName) (x : Target) → o ≡ Ok x → ComponentAgrees v o b → b ≡ Ok (component_there v x.place)
found_there v (Ok t) (Ok n) x e h = (let same : t ≡ x = cc in ap (λ (i : ℕ). (let o : Result ℕ slots.ErrorName = Ok i in o)) (sym h ∙ ap (λ (y : Target). component_there v y.place) same))
found_there v (Err d) (Err c) x e h = absurd (cc)
found_there v _ _ x e h = absurd h

module _ (r : Tables) (l : Layouts) (fs : List Frame) (v : View) (m : Memory) (f : Frame) (h : Here) (sees : Sees r l fs v m f h) (bindings : List ℕ) (known : ComponentsKnown v f h bindings) (base own : ℕ)
    -- nothing that a name designates lies in the cells of what is started
    (outside : (u : Ty) (d : Designator) (x : Target) (a : Address) → target_value v d ≡ Ok x → PlaceAt r l fs x.place u a → IsOutside base own (Copy a (cells_of u)))
    -- what the tables find is of the system type that they say
    (system : ℕ) (typed : (place : ComponentPlace) (k n : ℕ) → Names r system place k → component_at m bindings f place ≡ Ok n → (named.component_at v.components n).system ≡ k)
    -- names are used as the rules want it at a place with the scope
    (k : Here) (same : k.scope ≡ h.scope) (started : ℕ) (places : Name → ℕ) where
  abbrev IsNamed : ℕ → Expression → Type 0
  IsNamed n e = (d : Designator) × (variable_in e ≡ Some d) × ((x : Target) → target_value v d ≡ Ok x → (named.component_at v.components (component_there v x.place)).system ≡ n)

  component_given : (n : ℕ) (e : Expression) (z : Formed) (c : code.ComponentPlace) (place : ComponentPlace) → expression_form h e ≡ Some z → z.form ≡ as_component c → code.component_seen place ≡ c → IsUsed k e → AreKept h (expression_calls h.scope e) → Names r system place n → IsNamed n e
  component_given n e z c place formed is seen used kept names =
      let w = component_named v h k e z formed (subst IsPlace (sym is) tt) same used in
      let g = component_found v h e w.0 z c w.1 formed is in
      (w.0, w.1, λ x found. typed place n (component_there v x.place) names (found_there v (target_value v w.0) (component_at m bindings f place) x found (component_agrees r l fs v m f h sees bindings known w.0 c g.0 place (g.2 kept) g.1 seen)))

  -- ---- one argument

  other_type : (q : Parameter) (u : Ty) (e : Expression) → q.ty ≡ u → IsNoComponent u → (n : ℕ) → q.ty ≡ component_of n → IsNamed n e
  other_type q u e is i n ty = absurd (subst IsNoComponent (sym is ∙ ty) i)

  handed_plain : (q : Parameter) (u : Ty) (e : Expression) → q.ty ≡ u → IsNoComponent u → IsHandedSo r l fs v base own q e
  handed_plain q u e is i = record { component = other_type q u e is i; outside = outside q.ty }

  handed_component : (q : Parameter) (n : ℕ) (e : Expression) → q.ty ≡ component_of n → IsNamed n e → IsHandedSo r l fs v base own q e
  handed_component q n e is w = record { component = λ j ty. subst (λ i. IsNamed i e) (same_number n j (sym is ∙ ty)) w; outside = outside q.ty }
    where
      same_number : (a b : ℕ) → component_of a ≡ component_of b → a ≡ b
      same_number a b e = cc

  -- by the type of the parameter, with what follows from the further arguments
  by_type : (q : Parameter) (u t : Ty) (form : Form) (e : Expression) (x : ArgumentValue) (c : code.ArgumentValue) (p_slot x_slot next : ℕ) (Left Right : ℕ → Type 0) (Rest : Type 0) → q.ty ≡ u → code.value_seen x ≡ c → expression_form h e ≡ Some (record { ty = t; form = form }) → IsUsed k e → AreKept h (expression_calls h.scope e) →
      ValueGiven u t form c → HandedBy r started u p_slot next Left → HandsOne r system started x x_slot next Right → ((j : ℕ) → Left j → Right j → Rest) → IsHandedSo r l fs v base own q e × Rest
  by_type q (component_of n) t (as_component z) e (value_of.Component place) c p_slot x_slot next Left Right Rest ty seen formed used kept given left right rest =
      let part : code.component_seen place ≡ z = (let y : code.component_of (code.component_seen place) ≡ code.component_of z = seen ∙ given.1 in cc) in
      (handed_component q n e ty (component_given n e (record { ty = t; form = as_component z }) z place formed refl part used kept (subst (Names r system place) left.2 right.2)), rest _ left.3 right.3)
  by_type q (component_of n) t (as_component z) e x c p_slot x_slot next Left Right Rest ty seen formed used kept given left right rest = absurd (let bad = seen ∙ given.1 in cc)
  by_type q (component_of n) t _ e x c p_slot x_slot next Left Right Rest ty seen formed used kept given left right rest = absurd given
  by_type q (ordinal n) t form e x c p_slot x_slot next Left Right Rest ty seen formed used kept given left right rest =
      (handed_plain q (ordinal n) e ty tt, rest next left (hands_plain r system started x_slot next Right x (plain_value x (subst IsPlain (sym seen) (plain_given (ordinal n) t form c tt given))) right))
  by_type q queue_type t form e x c p_slot x_slot next Left Right Rest ty seen formed used kept given left right rest =
      (handed_plain q queue_type e ty tt, rest next left (hands_plain r system started x_slot next Right x (plain_value x (subst IsPlain (sym seen) (plain_given queue_type t form c tt given))) right))
  by_type q (set_over n) t form e x c p_slot x_slot next Left Right Rest ty seen formed used kept given left right rest =
      (handed_plain q (set_over n) e ty tt, rest next left (hands_plain r system started x_slot next Right x (plain_value x (subst IsPlain (sym seen) (plain_given (set_over n) t form c tt given))) right))
  by_type q (array_over n w) t form e x c p_slot x_slot next Left Right Rest ty seen formed used kept given left right rest =
      (handed_plain q (array_over n w) e ty tt, rest next left (hands_plain r system started x_slot next Right x (plain_value x (subst IsPlain (sym seen) (plain_given (array_over n w) t form c tt given))) right))
  by_type q (record_with ts) t form e x c p_slot x_slot next Left Right Rest ty seen formed used kept given left right rest =
      (handed_plain q (record_with ts) e ty tt, rest next left (hands_plain r system started x_slot next Right x (plain_value x (subst IsPlain (sym seen) (plain_given (record_with ts) t form c tt given))) right))

  pub all_handed_so : (next : ℕ) (qs : List Parameter) (es : Expressions) (cs : List code.Argument) (xs : List Argument) → map code.argument_seen xs ≡ cs → AreGiven h places qs es cs → Each (λ (q : Parameter). q.is_var ≡ false) qs → AreUsed k es → AreKept h (expressions_calls h.scope es) →
      AreHanded r started places next qs → Hands r system started next xs → AreHandedSo r l fs v base own qs es
  all_handed_so next (q ∷ qs) (more_expressions e es) [] xs seen given plain used kept left right = absurd given
  all_handed_so next (q ∷ qs) (more_expressions e es) (c ∷ cs) [] seen given plain used kept left right = absurd (cc)
  all_handed_so next (q ∷ qs) (more_expressions e es) (c ∷ cs) (x ∷ xs) seen given plain used kept left right =
      let first : code.argument_seen x ≡ c = cc in
      let others : map code.argument_seen xs ≡ cs = cc in
      by_type q q.ty given.1.form.ty given.1.form.form e x.value c.value (places q.name) x.slot next (λ n. AreHanded r started places n qs) (λ n. Hands r system started n xs) (AreHandedSo r l fs v base own qs es) refl
      (ap (λ (y : code.Argument). y.value) first) given.1.formed used.0 (kept_left h (expression_calls h.scope e) (expressions_calls h.scope es) kept) (by_value q.is_var q.ty given.1.form c.value plain.0 given.1.given) left right
      (λ n a b. all_handed_so n qs es cs xs others given.2 plain.1 used.1 (kept_right h (expression_calls h.scope e) (expressions_calls h.scope es) kept) a b)
  all_handed_so next _ _ cs xs seen given plain used kept left right = tt
