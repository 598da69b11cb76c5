-- An item of a process reads only variables that are its own.
use Rattle.std.proofs.Common.{◌≡◌, ℕ, ◌-◌, ◌==◌, ◌∙◌, ℤ, Bool, true, false, if◌then◌else◌, List, [], ◌∷◌, length, Option, Some, None, Ok, Err, ap, sym, refl, arith, eq-eqb}
use Rattle.cp_tree.specs.Syntax.{Expression, alone, related, Sum, sum, Terms, no_terms, more_terms, Term, term, Factors, no_factors, more_factors, Factor, named, group, negated, set_of, Expressions, no_expressions, more_expressions, Designator, designator, Selectors, no_selectors, more_selectors, Selector, field, index, Program}
use Rattle.cp_at_once_laws.proofs.Words.{Name, number_of, Parameter, step_down, ErrorName, Outcome, ◌>>=◌}
use Rattle.cp_meaning.specs.Types.{Ty, ordinal, queue_type, set_over, array_over, record_with, component_of, is_within}
use Rattle.cp_meaning.specs.Scopes.{Meaning, constant_meaning, local_variable, permanent_variable, standard_meaning, find}
use Rattle.cp_meaning.specs.State.{Holder, in_call, in_component, Place, Content, holds, refers, knows, Component, component_at, Call}
use Rattle.cp_meaning.specs.Places.{View, Target, content_of, call_above, environment_of, this_call, plain_place, referred, target_meant, target_named, value_at, value_held, component_with, element_chosen, around_of, component_known, component_by, component_there}
use Rattle.cp_meaning.specs.Values.{part_at}
use Rattle.cp_meaning.specs.Operations.{Typed, checked, multiplied_values, added_values, signed_value}
use Rattle.cp_meaning.specs.Lifting.{is_call}
use Rattle.cp_meaning.specs.Expressions.{value, sum_value, terms_value, term_value, factors_value, factor_value, members_value, target_value, selected, chosen, with_element_of, with_member_checked, first_value, meaning_here, named_value, variable_in}
use Rattle.cp_meaning.specs.Calls.{refers_to, of_system, knows_of, bound_variable, bound_value, bound_argument, bound}
use Rattle.cp_at_once_laws.proofs.reading.Mixed.{mix, mix_length, mix_with, mix_path, mix_system, mix_own}

-- a place in an own open call, or in one of its own components
abbrev pub OwnPlace : (ℕ → Bool) → Holder → Type 0
OwnPlace own (in_call below) = Unit {0}
OwnPlace own (in_component n) = own n ≡ true

-- the open calls are of such components, and name such places
abbrev pub OwnCalls : (ℕ → Bool) → List Call → Type 0
OwnCalls own [] = Unit {0}
OwnCalls own (c ∷ calls) = (own c.component ≡ true) × ((x : Name) (q : Place) → content_of x c.environment ≡ Some (refers q) → OwnPlace own q.holder) × OwnCalls own calls

-- ---- outcomes

pub bind_same : {A B : Type 0} (o o' : Outcome A) (f g : A → Outcome B) → o ≡ o' → ((a : A) → f a ≡ g a) → (o >>= f) ≡ (o' >>= g)
bind_same {A} {B} o o' f g e h = ap (λ t. t >>= f) e ∙ go o'
  where
    go : (o : Outcome A) → (o >>= f) ≡ (o >>= g)
    go (Ok a) = h a
    go (Err x) = refl

module _ (own ln : ℕ → Bool) (xs : List Component) (p : Program) (c : Call) (calls : List Call) (cs : List Component) (size : length cs ≡ length xs) (held : OwnCalls own (c ∷ calls)) where
  -- as the process has it, and as others left the rest
  abbrev pub v : View
  v = record { program = p; calls = c ∷ calls; components = cs }

  abbrev pub m : View
  m = record { program = p; calls = c ∷ calls; components = mix own ln cs xs }

  -- ---- places

  this_is : call_above (c ∷ calls) (length (c ∷ calls) - 1) ≡ c
  this_is = rw (eq-eqb (length calls) (length (c ∷ calls) - 1) (omega arith)) refl

  referred_own : (o : Option Content) (x : Name) → content_of x c.environment ≡ o → OwnPlace own (referred o (plain_place (this_call v) x)).holder
  referred_own (Some (refers q)) x e = held.1 x q e
  referred_own _ x e = tt

  meant_own : (x : Name) (o : Option Meaning) → OwnPlace own (target_meant v x o).place.holder
  meant_own x (Some (permanent_variable t)) = held.0
  meant_own x (Some (local_variable t)) = referred_own (content_of x (environment_of v (this_call v))) x (ap (λ k. content_of x k.environment) (sym this_is))
  meant_own x _ = tt

  pub named_own : (x : Name) → OwnPlace own (target_named v x).place.holder
  named_own x = meant_own x (find x c.scope)

  abbrev pub OwnTarget : Outcome Target → Type 0
  OwnTarget (Ok t) = OwnPlace own t.place.holder
  OwnTarget (Err e) = Unit {0}

  target_if : (b : Bool) (t : Target) (e : ErrorName) → OwnPlace own t.place.holder → OwnTarget (if b then Ok t else Err e)
  target_if true t e h = h
  target_if false t e h = tt

  element_own : (u : Ty) (t : Target) (z : ℤ) → OwnPlace own t.place.holder → OwnTarget (with_element_of u t z)
  element_own (array_over r u) t z h = target_if (is_within r z) _ _ h
  element_own _ t z h = h

  bind_target : {A : Type 0} (o : Outcome A) (f : A → Outcome Target) → ((a : A) → OwnTarget (f a)) → OwnTarget (o >>= f)
  bind_target (Ok a) f h = h a
  bind_target (Err e) f h = tt

  chosen_own : (s : Selector) (t : Target) → OwnPlace own t.place.holder → OwnTarget (chosen v s t)
  chosen_own (field i) t h = h
  chosen_own (index e) t h = bind_target (value v e) _ (λ x. element_own t.ty t (number_of x.value) h)

  after_target : (o : Outcome Target) (f : Target → Outcome Target) → OwnTarget o → ((t : Target) → OwnPlace own t.place.holder → OwnTarget (f t)) → OwnTarget (o >>= f)
  after_target (Ok t) f h k = k t h
  after_target (Err e) f h k = tt

  selected_own : (ss : Selectors) (t : Target) → OwnPlace own t.place.holder → OwnTarget (selected v ss t)
  selected_own no_selectors t h = h
  selected_own (more_selectors s ss) t h = after_target (chosen v s t) _ (chosen_own s t h) (λ u k. selected_own ss u k)

  pub target_own : (d : Designator) → OwnTarget (target_value v d)
  target_own (designator i ss) = selected_own ss (target_named v i.name) (named_own i.name)

  -- ---- what is read there

  pub environment_same : (h : Holder) → OwnPlace own h → environment_of m h ≡ environment_of v h
  environment_same (in_call b) k = refl
  environment_same (in_component n) k = ap (λ d. d.environment) (mix_own own ln cs xs n size k)

  pub read_same : (q : Place) → OwnPlace own q.holder → value_at m q ≡ value_at v q
  read_same q h = ap (λ e. part_at (value_held (content_of q.name e)) q.choices) (environment_same q.holder h)

  meant_same : (x : Name) (o : Option Meaning) → target_meant m x o ≡ target_meant v x o
  meant_same x (Some (permanent_variable t)) = refl
  meant_same x _ = refl

  pub named_same : (x : Name) → target_named m x ≡ target_named v x
  named_same x = meant_same x (find x c.scope)

  place_bound : (o : Outcome Target) → OwnTarget o → (o >>= λ t. Ok (let w : Typed = record { ty = t.ty; value = value_at m t.place } in w)) ≡ (o >>= λ t. Ok (let w : Typed = record { ty = t.ty; value = value_at v t.place } in w))
  place_bound (Ok t) h = ap (λ w. Ok (let y : Typed = record { ty = t.ty; value = w } in y)) (read_same t.place h)
  place_bound (Err e) h = refl

  name_same : (at : ℕ) (d : Designator) (b : Bool) (o : Option Meaning) (t : Outcome Target) (a : Outcome Typed) → OwnTarget t → named_value m at d b o t a ≡ named_value v at d b o t a
  name_same at d true o t a h = refl
  name_same at d false (Some (constant_meaning b z)) t a h = refl
  name_same at d false (Some (standard_meaning s)) t a h = refl
  name_same at d false _ t a h = place_bound t h

  mutual
    pub value_same : (e : Expression) → value m e ≡ value v e
    value_same (alone at a) = sum_same a
    value_same (related at a r b) = bind_same (sum_value m a) (sum_value v a) _ _ (sum_same a) (λ x. bind_same (sum_value m b) (sum_value v b) _ _ (sum_same b) (λ y. refl))

    sum_same : (a : Sum) → sum_value m a ≡ sum_value v a
    sum_same (sum at o t ts) = bind_same (term_value m t) (term_value v t) _ _ (term_same t) (λ x. bind_same (signed_value o x) (signed_value o x) _ _ refl (λ y. terms_same ts y))

    terms_same : (ts : Terms) (x : Typed) → terms_value m ts x ≡ terms_value v ts x
    terms_same no_terms x = refl
    terms_same (more_terms op t ts) x = bind_same (term_value m t) (term_value v t) _ _ (term_same t) (λ y. bind_same (added_values op x.value y.value) (added_values op x.value y.value) _ _ refl (λ z. terms_same ts z))

    term_same : (t : Term) → term_value m t ≡ term_value v t
    term_same (term at f fs) = bind_same (factor_value m f) (factor_value v f) _ _ (factor_same f) (λ x. factors_same fs x)

    factors_same : (fs : Factors) (x : Typed) → factors_value m fs x ≡ factors_value v fs x
    factors_same no_factors x = refl
    factors_same (more_factors op f fs) x = bind_same (factor_value m f) (factor_value v f) _ _ (factor_same f) (λ y. bind_same (multiplied_values op x.value y.value) (multiplied_values op x.value y.value) _ _ refl (λ z. factors_same fs z))

    factor_same : (f : Factor) → factor_value m f ≡ factor_value v f
    factor_same (named at d es) =
        ap (λ t. named_value m at d (is_call c.scope d) (meaning_here m d) t (first_value m es)) (target_same d) ∙
        ap (λ a. named_value m at d (is_call c.scope d) (meaning_here m d) (target_value v d) a) (first_same es) ∙
        name_same at d (is_call c.scope d) (meaning_here v d) (target_value v d) (first_value v es) (target_own d)
    factor_same (group at e) = value_same e
    factor_same (negated at f) = bind_same (factor_value m f) (factor_value v f) _ _ (factor_same f) (λ x. refl)
    factor_same (set_of at es) = bind_same (members_value m es []) (members_value v es []) _ _ (members_same es []) (λ ns. refl)
    factor_same _ = refl

    members_same : (es : Expressions) (ns : List ℕ) → members_value m es ns ≡ members_value v es ns
    members_same no_expressions ns = refl
    members_same (more_expressions e es) ns = bind_same (value m e) (value v e) _ _ (value_same e) (λ x. bind_same (with_member_checked ns x) (with_member_checked ns x) _ _ refl (λ ms. members_same es ms))

    pub first_same : (es : Expressions) → first_value m es ≡ first_value v es
    first_same no_expressions = refl
    first_same (more_expressions e es) = value_same e

    pub target_same : (d : Designator) → target_value m d ≡ target_value v d
    target_same (designator i ss) = ap (selected m ss) (named_same i.name) ∙ selected_same ss (target_named v i.name)

    selected_same : (ss : Selectors) (t : Target) → selected m ss t ≡ selected v ss t
    selected_same no_selectors t = refl
    selected_same (more_selectors s ss) t = bind_same (chosen m s t) (chosen v s t) _ _ (chosen_same s t) (λ u. selected_same ss u)

    chosen_same : (s : Selector) (t : Target) → chosen m s t ≡ chosen v s t
    chosen_same (field i) t = refl
    chosen_same (index e) t = bind_same (value m e) (value v e) _ _ (value_same e) (λ x. refl)

  -- ---- components that are named

  around_same : (h : Holder) → around_of m h ≡ around_of v h
  around_same (in_call b) = refl
  around_same (in_component n) = mix_path own ln cs xs n size

  known_same : (q : Place) (o : Option Content) → component_known m q o ≡ component_known v q o
  known_same q (Some (knows n)) = refl
  known_same q _ = ap (λ a. component_with (step_down a q.name (element_chosen q.choices)) (mix own ln cs xs)) (around_same q.holder) ∙ mix_with own ln _ cs xs

  by_same : (q : Place) (h : Holder) → OwnPlace own h → component_by m q h ≡ component_by v q h
  by_same q (in_call b) k = mix_length own ln cs xs
  by_same q (in_component n) k = go (n == c.component)
    where
      go : (b : Bool) → (if b then component_known m q (content_of q.name (component_at (mix own ln cs xs) n).environment) else length (mix own ln cs xs)) ≡ (if b then component_known v q (content_of q.name (component_at cs n).environment) else length cs)
      go true = ap (λ e. component_known m q (content_of q.name e)) (environment_same (in_component n) k) ∙ known_same q (content_of q.name (component_at cs n).environment)
      go false = mix_length own ln cs xs

  pub there_same : (q : Place) → OwnPlace own q.holder → component_there m q ≡ component_there v q
  there_same q h = by_same q q.holder h

  -- ---- arguments

  of_system_same : (k n : ℕ) → of_system m k n ≡ of_system v k n
  of_system_same k n = ap (λ j. if j == k then n else length (mix own ln cs xs)) (mix_system own ln cs xs n size) ∙ ap (λ l. if (component_at cs n).system == k then n else l) (mix_length own ln cs xs)

  knows_same : (k : ℕ) (o : Outcome Target) → OwnTarget o → knows_of m k o ≡ knows_of v k o
  knows_same k (Ok t) h = ap (λ n. Ok (knows n)) (ap (of_system m k) (there_same t.place h) ∙ of_system_same k (component_there v t.place))
  knows_same k (Err e) h = refl

  component_same : (k : ℕ) (o : Option Designator) → bound_variable m (knows_of m k) o ≡ bound_variable v (knows_of v k) o
  component_same k None = refl
  component_same k (Some d) = ap (knows_of m k) (target_same d) ∙ knows_same k (target_value v d) (target_own d)

  variable_same : (o : Option Designator) → bound_variable m refers_to o ≡ bound_variable v refers_to o
  variable_same None = refl
  variable_same (Some d) = ap refers_to (target_same d)

  checked_same : (t : Ty) (e : Expression) → (value m e >>= λ x. checked t x.value >>= λ w. Ok (holds w)) ≡ (value v e >>= λ x. checked t x.value >>= λ w. Ok (holds w))
  checked_same t e = ap (λ o. o >>= λ x. checked t x.value >>= λ w. Ok (holds w)) (value_same e)

  bound_value_same : (t : Ty) (e : Expression) → bound_value m t e ≡ bound_value v t e
  bound_value_same (component_of k) e = component_same k (variable_in e)
  bound_value_same (ordinal r) e = checked_same (ordinal r) e
  bound_value_same queue_type e = checked_same queue_type e
  bound_value_same (set_over r) e = checked_same (set_over r) e
  bound_value_same (array_over r t) e = checked_same (array_over r t) e
  bound_value_same (record_with ts) e = checked_same (record_with ts) e

  argument_same : (q : Parameter) (e : Expression) → bound_argument m q e ≡ bound_argument v q e
  argument_same q e = go q.is_var
    where
      go : (b : Bool) → (if b then bound_variable m refers_to (variable_in e) else bound_value m q.ty e) ≡ (if b then bound_variable v refers_to (variable_in e) else bound_value v q.ty e)
      go true = variable_same (variable_in e)
      go false = bound_value_same q.ty e

  pub bound_same : (qs : List Parameter) (es : Expressions) → bound m qs es ≡ bound v qs es
  bound_same (q ∷ qs) (more_expressions e es) = bind_same (bound_argument m q e) (bound_argument v q e) _ _ (argument_same q e) (λ k. bind_same (bound m qs es) (bound v qs es) _ _ (bound_same qs es) (λ rest. refl))
  bound_same _ _ = refl
