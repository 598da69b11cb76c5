-- Arguments that fit their parameters are inside: they have their cells, and each `var` parameter is bound to a place with as many cells.
use Rattle.std.proofs.Common.{◌≡◌, ℕ, ℤ, ◌+◌, ◌≤◌, ◌==◌, nat_lt, Bool, true, false, ◌&&◌, if◌then◌else◌, List, [], ◌∷◌, Option, Some, None, slice_index_or, refl, sym, ap, subst, ◌∙◌, arith, rules}
use Rattle.cp_tree.specs.Syntax as syntax
use Rattle.cp_slots.specs.Code as code
use Rattle.cp_slots.specs.Inside.{has, is_within, binds_on}
use Rattle.cp_resolved.proofs.Words.{Tables, RoutineView, Name, Ty, Parameter, expression_calls, expressions_calls, Form, as_ordinal, as_set, as_place, as_component}
use Rattle.cp_resolved.proofs.Words.{Formed, place_form, cells_of, Here, AreHeld, Each, ValueGiven, PlaceGiven, GivenBy, IsGiven, AreGiven}
use Rattle.cp_meaning.specs.Types as named
use Rattle.cp_resolved.specs.Headed.{IsNoComponent, NumberedBy, AreNumbered, HandedBy, AreHanded}
use Rattle.cp_resolved.proofs.inside.InsideExpressions.{VariablesFit, held_first, held_rest, expression_fits}
use Rattle.cp_resolved.proofs.declarations.StandingParts.{both_of as both}
use Rattle.cp_resolved.proofs.inside.InsideForms.{FormFits}
use Rattle.cp_resolved.proofs.inside.InsidePlaces.{PlaceFits, has_place}
use Rattle.cp_resolved.proofs.inside.PlainActions.{component_in, argument_in, arguments_in, follows_in, binds_in, PlainNames, PlainOne, PlainHands, PlainNone}
use Rattle.cp_resolved.proofs.inside.PlainActions as plain
use Rattle.cp_resolved.proofs.inside.PlainInside.{expression_in, set_in, place_in, behind_some, has_more}

pub inside_extent : (slot cells extent : ℕ) → slot + cells ≤ extent → is_within slot cells extent ≡ true
inside_extent slot cells extent le = ap (has cells) (behind_some slot extent (omega (arith, le))) ∙ has_more cells _ (omega (arith, le))

-- the cells of a parameter, or as many as its place has
abbrev pub SlotFits : (callee : RoutineView) → (extent slot : ℕ) → Bool → Ty → Type 0
SlotFits callee extent slot true t = slice_index_or callee.extents slot 0 ≡ cells_of t
SlotFits callee extent slot false (named.component_of k) = Unit {0}
SlotFits callee extent slot false t = slot + cells_of t ≤ extent

abbrev pub ParametersFit : (callee : RoutineView) → (extent : ℕ) → (Name → ℕ) → List Parameter → Type 0
ParametersFit callee extent slots qs = Each (λ (q : Parameter). SlotFits callee extent (slots q.name) q.is_var q.ty) qs

module _ (t : Tables) (h : Here) (r : RoutineView) (P : ℕ → Type 0) where
  -- a component is inside, and its place leads to one of the system type, which has a number
  abbrev pub Leads : code.ComponentPlace → ℕ → Type 0
  Leads c k = (component_in r c ≡ true) × PlainNames t h.system c k × P k

  abbrev Fits : Ty → Form → Type 0
  Fits u f = FormFits Leads h r u f

  -- the place of a variable has its cells
  place_held : (u : Ty) (f : Form) (p : code.Place) → Fits u f → place_form f ≡ Some p → has (cells_of u) (place_in r p) ≡ true
  place_held u (as_ordinal (code.load q)) p i e = subst (λ n. has n (place_in r p) ≡ true) (sym i.1) (subst (λ (o : Option code.Place). IsHeld 1 o) e i.0)
    where
      IsHeld : ℕ → Option code.Place → Type 0
      IsHeld n None = Unit {0}
      IsHeld n (Some q) = has n (place_in r q) ≡ true
  place_held u (as_set (code.load_set q)) p i e = subst (λ n. has n (place_in r p) ≡ true) (sym i.1) (subst (λ (o : Option code.Place). IsHeld 8 o) e i.0)
    where
      IsHeld : ℕ → Option code.Place → Type 0
      IsHeld n None = Unit {0}
      IsHeld n (Some q) = has n (place_in r q) ≡ true
  place_held u (as_place q) p i e = has_place r p u (cells_of u) (subst (λ (o : Option code.Place). IsFit o) e i) (omega arith)
    where
      IsFit : Option code.Place → Type 0
      IsFit None = Unit {0}
      IsFit (Some q) = PlaceFits r q u
  place_held u x p i e = absurd (cc)

  -- what each kind of argument gives
  record Gives (callee : RoutineView) (extent slot : ℕ) (is_var : Bool) (u : Ty) (g : code.ArgumentValue) : Type 1 where
    inside : argument_in r callee extent slot g ≡ true
    follows : (count next : ℕ) → NumberedBy is_var slot next (λ n. n ≤ count) → follows_in g count slot next ≡ (if is_var then Some (next + 1) else Some next)
    plain : IsNoComponent u → plain.IsNoComponent g
    handed : (system next : ℕ) (A B : ℕ → Type 0) → is_var ≡ false → ((n : ℕ) → A n → B n) → HandedBy t system u slot next A → PlainOne t h.system system g slot next B

  followed : (p : code.Place) (count slot next : ℕ) → (slot ≡ next) × (next + 1 ≤ count) → follows_in (code.reference p) count slot next ≡ Some (next + 1)
  followed p count slot next e =
      let a : nat_lt next count ≡ true = (let le : next + 1 ≤ count = e.1 in search (rules, le)) in
      let b : (slot == next) ≡ true = (let w : slot ≡ next = e.0 in search (rules, w)) in
      ap (λ c. if c && slot == next then Some (next + 1) else None) a ∙ ap (λ c. if c then Some (next + 1) else None) b

  scalar_gives : (callee : RoutineView) (extent slot : ℕ) (q : named.Range) (c : code.OrdinalExpression) (low high : ℤ) → expression_in r c ≡ true → slot + 1 ≤ extent → Gives callee extent slot false (named.ordinal q) (code.scalar c low high)
  scalar_gives callee extent slot q c low high i le =
      record { inside = both (expression_in r c) (is_within slot 1 extent) i (inside_extent slot 1 extent le); follows = λ count next e. refl; plain = λ e. tt; handed = λ system next A B e f x. f next x }

  set_gives : (callee : RoutineView) (extent slot : ℕ) (q : named.Range) (c : code.SetExpression) (low high : ℕ) → set_in r c ≡ true → slot + 8 ≤ extent → Gives callee extent slot false (named.set_over q) (code.set c low high)
  set_gives callee extent slot q c low high i le =
      record { inside = both (set_in r c) (is_within slot 8 extent) i (inside_extent slot 8 extent le); follows = λ count next e. refl; plain = λ e. tt; handed = λ system next A B e f x. f next x }

  array_gives : (callee : RoutineView) (extent slot : ℕ) (q : named.Range) (u : Ty) (p : code.Place) → PlaceFits r p (named.array_over q u) → slot + cells_of (named.array_over q u) ≤ extent → Gives callee extent slot false (named.array_over q u) (code.copy p (cells_of (named.array_over q u)))
  array_gives callee extent slot q u p i le =
      let n : ℕ = cells_of (named.array_over q u) in
      record { inside = both (has n (place_in r p)) (is_within slot n extent) (has_place r p (named.array_over q u) n i (omega arith)) (inside_extent slot n extent le); follows = λ count next e. refl; plain = λ e. tt; handed = λ system next A B e f x. f next x }

  record_gives : (callee : RoutineView) (extent slot : ℕ) (us : named.FieldTypes) (p : code.Place) → PlaceFits r p (named.record_with us) → slot + cells_of (named.record_with us) ≤ extent → Gives callee extent slot false (named.record_with us) (code.copy p (cells_of (named.record_with us)))
  record_gives callee extent slot us p i le =
      let n : ℕ = cells_of (named.record_with us) in
      record { inside = both (has n (place_in r p)) (is_within slot n extent) (has_place r p (named.record_with us) n i (omega arith)) (inside_extent slot n extent le); follows = λ count next e. refl; plain = λ e. tt; handed = λ system next A B e f x. f next x }

  component_gives : (callee : RoutineView) (extent slot k : ℕ) (c : code.ComponentPlace) → Leads c k → Gives callee extent slot false (named.component_of k) (code.component_of c)
  component_gives callee extent slot k c i =
      record {
        inside = i.0;
        follows = λ count next e. refl;
        plain = λ e. absurd e;
        handed = λ system next A B e f x. (x.0, x.1, subst (λ n. PlainNames t h.system c n) (sym x.2) i.1, f (next + 1) x.3);
      }

  reference_gives : (callee : RoutineView) (extent slot : ℕ) (u : Ty) (p : code.Place) → has (cells_of u) (place_in r p) ≡ true → slice_index_or callee.extents slot 0 ≡ cells_of u → Gives callee extent slot true u (code.reference p)
  reference_gives callee extent slot u p i e =
      record { inside = ap (λ n. has n (place_in r p)) e ∙ i; follows = λ count next f. followed p count slot next f; plain = λ k. tt; handed = λ system next A B b f x. absurd (cc) }

  value_gives : (callee : RoutineView) (extent slot : ℕ) (u v : Ty) (f : Form) (g : code.ArgumentValue) → ValueGiven u v f g → Fits v f → SlotFits callee extent slot false u → Gives callee extent slot false u g
  value_gives callee extent slot (named.ordinal q) v (as_ordinal c) g e i le = subst (Gives callee extent slot false (named.ordinal q)) (sym e) (scalar_gives callee extent slot q c q.low q.high i.0 le)
  value_gives callee extent slot (named.set_over q) v (as_set c) g e i le = subst (Gives callee extent slot false (named.set_over q)) (sym e) (set_gives callee extent slot q c (named.natural_of q.low) (named.natural_of q.high) i.0 le)
  value_gives callee extent slot (named.component_of k) v (as_component c) g e i le = subst (Gives callee extent slot false (named.component_of k)) (sym e.1) (component_gives callee extent slot k c (subst (λ w. Fits w (as_component c)) e.0 i))
  value_gives callee extent slot (named.array_over q u) v (as_place p) g e i le =
      subst (Gives callee extent slot false (named.array_over q u)) (sym (e.1 ∙ ap (λ w. code.copy p (cells_of w)) e.0)) (array_gives callee extent slot q u p (subst (λ w. PlaceFits r p w) e.0 i) le)
  value_gives callee extent slot (named.record_with us) v (as_place p) g e i le =
      subst (Gives callee extent slot false (named.record_with us)) (sym (e.1 ∙ ap (λ w. code.copy p (cells_of w)) e.0)) (record_gives callee extent slot us p (subst (λ w. PlaceFits r p w) e.0 i) le)
  value_gives callee extent slot _ v _ g e i le = absurd e

  place_gives : (callee : RoutineView) (extent slot : ℕ) (u v : Ty) (f : Form) (o : Option code.Place) (g : code.ArgumentValue) → place_form f ≡ o → PlaceGiven u v o g → Fits v f → SlotFits callee extent slot true u → Gives callee extent slot true u g
  place_gives callee extent slot u v f None g e k i s = absurd k
  place_gives callee extent slot u v f (Some p) g e k i s =
      subst (Gives callee extent slot true u) (sym k.1) (reference_gives callee extent slot u p (subst (λ w. has (cells_of w) (place_in r p) ≡ true) k.0 (place_held v f p i e)) s)

  form_gives : (callee : RoutineView) (extent slot : ℕ) (b : Bool) (u : Ty) (z : Formed) (g : code.ArgumentValue) → GivenBy b u z g → Fits z.ty z.form → SlotFits callee extent slot b u → Gives callee extent slot b u g
  form_gives callee extent slot true u z g e i s = place_gives callee extent slot u z.ty z.form (place_form z.form) g refl e i s
  form_gives callee extent slot false u z g e i s = value_gives callee extent slot u z.ty z.form g e i s

  module _ (v : VariablesFit Leads h r) (callee : RoutineView) (extent : ℕ) (slots : Name → ℕ) where
    gives : (q : Parameter) (e : syntax.Expression) (x : code.Argument) → AreHeld h (expression_calls h.scope e) → x.slot ≡ slots q.name → IsGiven h q e x.value → SlotFits callee extent (slots q.name) q.is_var q.ty → Gives callee extent x.slot q.is_var q.ty x.value
    gives q e x n at g s = subst (λ j. Gives callee extent j q.is_var q.ty x.value) (sym at) (form_gives callee extent (slots q.name) q.is_var q.ty g.form x.value g.given (expression_fits Leads h r v e g.form n g.formed) s)

    pub given_inside : (qs : List Parameter) (es : syntax.Expressions) (xs : List code.Argument) → AreHeld h (expressions_calls h.scope es) → AreGiven h slots qs es xs → ParametersFit callee extent slots qs → arguments_in r callee extent xs ≡ true
    given_inside [] syntax.no_expressions [] n g s = refl
    given_inside (q ∷ qs) (syntax.more_expressions e es) (x ∷ xs) n g s =
        let a = gives q e x (held_first h (expression_calls h.scope e) (expressions_calls h.scope es) n) g.0 g.1 s.0 in
        both (argument_in r callee extent x.slot x.value) (arguments_in r callee extent xs) a.inside (given_inside qs es xs (held_rest h (expression_calls h.scope e) (expressions_calls h.scope es) n) g.2 s.1)
    given_inside _ _ _ n g s = absurd g

    numbered_least : (next count : ℕ) (qs : List Parameter) → AreNumbered slots next count qs → next ≤ count
    numbered_least next count [] a = omega (arith, a)
    numbered_least next count (q ∷ qs) a = go q.is_var a (λ n k. numbered_least n count qs k)
      where
        go : (b : Bool) → NumberedBy b (slots q.name) next (λ n. AreNumbered slots n count qs) → ((n : ℕ) → AreNumbered slots n count qs → n ≤ count) → next ≤ count
        go true k f = let le : next + 1 ≤ count = f (next + 1) k.1 in omega (arith, le)
        go false k f = f next k

    pub given_binds : (count next : ℕ) (qs : List Parameter) (es : syntax.Expressions) (xs : List code.Argument) → AreHeld h (expressions_calls h.scope es) → AreGiven h slots qs es xs → ParametersFit callee extent slots qs → AreNumbered slots next count qs → binds_in count next xs ≡ true
    given_binds count next [] syntax.no_expressions [] n g s a = let e : next ≡ count = a in search (rules, e)
    given_binds count next (q ∷ qs) (syntax.more_expressions e es) (x ∷ xs) n g s a =
        let y = gives q e x (held_first h (expression_calls h.scope e) (expressions_calls h.scope es) n) g.0 g.1 s.0 in
        go q.is_var (λ m b. given_binds count m qs es xs (held_rest h (expression_calls h.scope e) (expressions_calls h.scope es) n) g.2 s.1 b) y.follows (subst (λ j. NumberedBy q.is_var j next (λ m. AreNumbered slots m count qs)) (sym g.0) a)
      where
        go : (b : Bool) → ((m : ℕ) → AreNumbered slots m count qs → binds_in count m xs ≡ true) → ((count next : ℕ) → NumberedBy b x.slot next (λ n. n ≤ count) → follows_in x.value count x.slot next ≡ (if b then Some (next + 1) else Some next)) →
            NumberedBy b x.slot next (λ m. AreNumbered slots m count qs) → binds_on (follows_in x.value count x.slot next) (λ further. binds_in count further xs) ≡ true
        go true f follows k = ap (λ o. binds_on o (λ further. binds_in count further xs)) (follows count next (k.0, numbered_least (next + 1) count qs k.1)) ∙ f (next + 1) k.1
        go false f follows k = ap (λ o. binds_on o (λ further. binds_in count further xs)) (follows count next (numbered_least next count qs k)) ∙ f next k
    given_binds count next _ _ _ n g s a = absurd g

    pub given_plain : (qs : List Parameter) (es : syntax.Expressions) (xs : List code.Argument) → AreHeld h (expressions_calls h.scope es) → AreGiven h slots qs es xs → ParametersFit callee extent slots qs → Each (λ (q : Parameter). IsNoComponent q.ty) qs → PlainNone xs
    given_plain [] syntax.no_expressions [] n g s c = tt
    given_plain (q ∷ qs) (syntax.more_expressions e es) (x ∷ xs) n g s c =
        let a = gives q e x (held_first h (expression_calls h.scope e) (expressions_calls h.scope es) n) g.0 g.1 s.0 in
        (a.plain c.0, given_plain qs es xs (held_rest h (expression_calls h.scope e) (expressions_calls h.scope es) n) g.2 s.1 c.1)
    given_plain _ _ _ n g s c = absurd g

    pub given_handed : (system next : ℕ) (qs : List Parameter) (es : syntax.Expressions) (xs : List code.Argument) → AreHeld h (expressions_calls h.scope es) → AreGiven h slots qs es xs → ParametersFit callee extent slots qs → Each (λ (q : Parameter). q.is_var ≡ false) qs → AreHanded t system slots next qs → PlainHands t h.system system next xs
    given_handed system next [] syntax.no_expressions [] n g s c a = a
    given_handed system next (q ∷ qs) (syntax.more_expressions e es) (x ∷ xs) n g s c a =
        let y = gives q e x (held_first h (expression_calls h.scope e) (expressions_calls h.scope es) n) g.0 g.1 s.0 in
        y.handed system next (λ m. AreHanded t system slots m qs) (λ m. PlainHands t h.system system m xs) c.0
        (λ m b. given_handed system m qs es xs (held_rest h (expression_calls h.scope e) (expressions_calls h.scope es) n) g.2 s.1 c.1 b) (subst (λ j. HandedBy t system q.ty j next (λ m. AreHanded t system slots m qs)) (sym g.0) a)
    given_handed system next _ _ _ n g s c a = absurd g
