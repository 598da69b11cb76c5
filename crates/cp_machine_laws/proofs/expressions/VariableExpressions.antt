-- An expression that is a variable: it is found where the variable is.
use Rattle.std.proofs.Common.{◌≡◌, ◌∙◌, ℕ, ◌++◌, Bool, true, false, if◌then◌else◌, List, [], Option, Some, None, ap, sym, refl, subst}
use Rattle.cp_machine_laws.proofs.Words.{some_same, ℤ, pos, Ok, Err, Relation, Addition, Plus, Minus, Or, Multiplication, Tables, Frame, Memory, Outcome, ◌>>=◌, Typed, signed_value}
use Rattle.cp_machine_laws.proofs.Words.{range_of_base, View, Target, value_at, Layouts, Here, TargetAgrees, Sees, plain_address, AreKept, Sign, Equal, NotEqual, Less, Greater}
use Rattle.cp_machine_laws.proofs.Words.{AtMost, AtLeast, In, Times, Div, Mod, And, Ty, ordinal, queue_type, Base, integers, characters, all_integers, is_within}
use Rattle.cp_tree.specs.declared.constant.Sign.TheVariants as sign
use Rattle.cp_tree.specs.Syntax.{Expression, alone, related, sum, Terms, no_terms, more_terms, term, Factors, no_factors, more_factors, Factor, number, character, named, group, negated, set_of, Expressions, no_expressions, more_expressions, Designator}
use Rattle.cp_slots.specs.Code as code
use Rattle.cp_meaning.specs.Scopes.{Scope, Meaning, constant_meaning, standard_meaning, Standard, succ_function, pred_function, chr_function, ord_function, abs_function, empty_function, find}
use Rattle.cp_meaning.specs.Expressions.{value, factor_value, first_value, target_value, named_value, name_of, result_called, routine_called, variable_in, variable_in_factor}
use Rattle.cp_meaning.specs.Lifting.{is_call, own_call, expression_calls, factor_calls, expressions_calls, designator_calls}
use Rattle.cp_resolved.specs.Compiled.{Form, as_ordinal, as_set, as_place, as_component, Formed, Designated, a_variable, some_components, a_component, then_form, integer_form, set_form, loaded_form, place_form, compared_forms, added_ordinals, added_forms, multiplied_ordinals, multiplied_forms, signed_ordinal, signed_form, not_form_of, not_form, applied_ordinal, applied_place, applied_form_of, applied_form, valued_form, call_form, constant_form, named_form, is_integer, is_boolean, expression_form, sum_form, terms_form, term_form, factors_form, factor_form, first_form, members_form, designator_form}
use Rattle.cp_resolved.specs.Used.{AreNone, UsedAs, IsUsed, FactorUsed}
use Rattle.cp_machine_laws.proofs.expressions.Expressions.{designator_ok}
use Rattle.cp_machine_laws.proofs.calls.Kept.{kept_left}
use Rattle.cp_machine_laws.proofs.expressions.Values.{then_some, form_is}
use Rattle.cp_resolved.proofs.forms.GivenArguments.{loaded_place as place_loaded}

-- ---- what is no variable has the form of an ordinal or of a set

abbrev pub IsPlace : Form → Type 0
IsPlace (as_place p) = Unit {0}
IsPlace (as_component c) = Unit {0}
IsPlace f = ⊥

abbrev NotPlace : Option Formed → Type 0
NotPlace None = Unit {0}
NotPlace (Some z) = IsPlace z.form → ⊥

never : (o : Option Formed) (z : Formed) → NotPlace o → o ≡ Some z → IsPlace z.form → ⊥
never o z n e = subst NotPlace e n

compared_not : (q : Relation) (a b : Form) → NotPlace (compared_forms q a b)
compared_not Equal (as_ordinal a) (as_ordinal b) = λ i. i
compared_not NotEqual (as_ordinal a) (as_ordinal b) = λ i. i
compared_not Less (as_ordinal a) (as_ordinal b) = λ i. i
compared_not Greater (as_ordinal a) (as_ordinal b) = λ i. i
compared_not AtMost (as_ordinal a) (as_ordinal b) = λ i. i
compared_not AtLeast (as_ordinal a) (as_ordinal b) = λ i. i
compared_not In (as_ordinal a) (as_set b) = λ i. i
compared_not Equal (as_set a) (as_set b) = λ i. i
compared_not NotEqual (as_set a) (as_set b) = λ i. i
compared_not q (as_ordinal a) (as_place b) = tt
compared_not q (as_set a) (as_ordinal b) = tt
compared_not _ _ _ = tt

added_not : (op : Addition) (x y : Formed) (a b : Form) → NotPlace (added_forms op x y a b)
added_not op x y (as_ordinal a) (as_ordinal b) = go op _ _
  where
    go : (op : Addition) (n t : Bool) → NotPlace (added_ordinals op n t a b)
    go Plus true t = λ i. i
    go Minus true t = λ i. i
    go Or n true = λ i. i
    go Plus false t = tt
    go Minus false t = tt
    go Or n false = tt
added_not Minus x y (as_set a) (as_set b) = λ i. i
added_not Or x y (as_set a) (as_set b) = λ i. i
added_not op x y (as_set a) (as_ordinal b) = tt
added_not _ x y _ _ = tt

multiplied_not : (op : Multiplication) (x y : Formed) (a b : Form) → NotPlace (multiplied_forms op x y a b)
multiplied_not op x y (as_ordinal a) (as_ordinal b) = go op _ _
  where
    go : (op : Multiplication) (n t : Bool) → NotPlace (multiplied_ordinals op n t a b)
    go Times true t = λ i. i
    go Div true t = λ i. i
    go Mod true t = λ i. i
    go And n true = λ i. i
    go Times false t = tt
    go Div false t = tt
    go Mod false t = tt
    go And n false = tt
multiplied_not And x y (as_set a) (as_set b) = λ i. i
multiplied_not op x y (as_set a) (as_ordinal b) = tt
multiplied_not _ x y _ _ = tt

signed_not : (s : Sign) (x : Formed) (b : Bool) (f : Form) → NotPlace (signed_ordinal (Some s) x b f)
signed_not sign.Plus x true (as_ordinal c) = λ i. i
signed_not sign.Minus x true (as_ordinal c) = λ i. i
signed_not _ x _ _ = tt

negated_not : (b : Bool) (f : Form) → NotPlace (not_form_of b f)
negated_not true (as_ordinal c) = λ i. i
negated_not _ _ = tt

constant_not : (b : Base) (z : ℤ) → NotPlace (constant_form b z)
constant_not b z = go (is_within (range_of_base b) z)
  where
    go : (c : Bool) → NotPlace (if c then Some (record { ty = ordinal (range_of_base b); form = as_ordinal (code.number z) }) else None)
    go true = λ i. i
    go false = tt

call_not : (h : Here) (at : ℕ) (t : Ty) → NotPlace (call_form h at t)
call_not h at (ordinal r) = λ i. i
call_not h at _ = tt

-- ---- an expression that is a name

-- on names and on slots it is what the factor is
pub record IsName (v : View) (h : Here) (e : Expression) (d : Designator) (es : Expressions) : Type 0 where
  pub token : ℕ
  pub same_value : value v e ≡ factor_value v (named token d es)
  pub same_form : expression_form h e ≡ factor_form h (named token d es)
  pub calls : AreKept h (expression_calls h.scope e) → AreKept h (factor_calls h.scope (named token d es))
  pub used : (k : Here) → IsUsed k e → FactorUsed k (named token d es)
  pub alone : es ≡ no_expressions → variable_in e ≡ Some d

pub record IsNamedFactor (v : View) (h : Here) (c : Factor) (d : Designator) (es : Expressions) : Type 0 where
  pub token : ℕ
  pub same_value : factor_value v c ≡ factor_value v (named token d es)
  pub same_form : factor_form h c ≡ factor_form h (named token d es)
  pub calls : AreKept h (factor_calls h.scope c) → AreKept h (factor_calls h.scope (named token d es))
  pub used : (k : Here) → FactorUsed k c → FactorUsed k (named token d es)
  pub alone : es ≡ no_expressions → variable_in_factor c ≡ Some d

-- some name
abbrev pub SomeName : View → Here → Expression → Type 0
SomeName v h e = (d : Designator) × (es : Expressions) × IsName v h e d es

abbrev SomeFactor : View → Here → Factor → Type 0
SomeFactor v h c = (d : Designator) × (es : Expressions) × IsNamedFactor v h c d es

module _ (v : View) (h : Here) where
  -- a factor alone is its expression
  lone : (at at2 at3 : ℕ) (c : Factor) (d : Designator) (es : Expressions) → IsNamedFactor v h c d es → IsName v h (alone at (sum at2 None (term at3 c no_factors) no_terms)) d es
  lone at at2 at3 c d es k =
      record {
        token = k.token;
        same_value = by_value (factor_value v c) ∙ k.same_value;
        same_form = by_form (factor_form h c) ∙ k.same_form;
        calls = λ kept. k.calls (kept_left h (factor_calls h.scope c) [] (kept_left h (factor_calls h.scope c ++ []) [] kept));
        used = λ i u. k.used i u.0.0;
        alone = k.alone;
      }
    where
      by_value : (o : Outcome Typed) → ((o >>= λ x. Ok x) >>= λ x. signed_value None x >>= λ y. Ok y) ≡ o
      by_value (Ok x) = refl
      by_value (Err e) = refl

      by_form : (o : Option Formed) → then_form (then_form o (λ x. Some x)) (λ x. then_form (signed_form None x) (λ y. Some y)) ≡ o
      by_form (Some x) = refl
      by_form None = refl

  own_factor : (at : ℕ) (d : Designator) (es : Expressions) → IsNamedFactor v h (named at d es) d es
  own_factor at d es = record { token = at; same_value = refl; same_form = refl; calls = λ kept. kept; used = λ i u. u; alone = λ e. subst (λ xs. variable_in_factor (named at d xs) ≡ Some d) (sym e) refl }

  in_group : (at : ℕ) (e : Expression) (d : Designator) (es : Expressions) → IsName v h e d es → IsNamedFactor v h (group at e) d es
  in_group at e d es k = record { token = k.token; same_value = k.same_value; same_form = k.same_form; calls = k.calls; used = k.used; alone = k.alone }

  -- ---- by its words

  mutual
    pub variable_is : (e : Expression) (d : Designator) → variable_in e ≡ Some d → IsName v h e d no_expressions
    variable_is (alone at (sum at2 None t (more_terms op u us))) d k = absurd (cc)
    variable_is (alone at (sum at2 None (term at3 c no_factors) no_terms)) d k = lone at at2 at3 c d no_expressions (factor_is c d k)
    variable_is x d k = absurd (cc)

    factor_is : (c : Factor) (d : Designator) → variable_in_factor c ≡ Some d → IsNamedFactor v h c d no_expressions
    factor_is (named at x no_expressions) d k = subst (λ y. IsNamedFactor v h (named at x no_expressions) y no_expressions) (some_same x d k) (own_factor at x no_expressions)
    factor_is (group at e) d k = in_group at e d no_expressions (variable_is e d k)
    factor_is x d k = absurd (cc)

  -- ---- by its form

  no_more_terms : (ts : Terms) (x z : Formed) → NotPlace (Some x) → terms_form h ts x ≡ Some z → IsPlace z.form → ⊥
  no_more_terms no_terms x z n e i = never (Some x) z n e i
  no_more_terms (more_terms op t ts) x z n e i =
      then_some ⊥ (term_form h t) _ z e (λ y ey k. then_some ⊥ (added_forms op x y x.form y.form) _ z k (λ w ew j. no_more_terms ts w z (subst NotPlace ew (added_not op x y x.form y.form)) j i))

  no_more_factors : (ts : Factors) (x z : Formed) → NotPlace (Some x) → factors_form h ts x ≡ Some z → IsPlace z.form → ⊥
  no_more_factors no_factors x z n e i = never (Some x) z n e i
  no_more_factors (more_factors op t ts) x z n e i =
      then_some ⊥ (factor_form h t) _ z e (λ y ey k. then_some ⊥ (multiplied_forms op x y x.form y.form) _ z k (λ w ew j. no_more_factors ts w z (subst NotPlace ew (multiplied_not op x y x.form y.form)) j i))

  -- more than one factor
  several : (at : ℕ) (c : Factor) (op : Multiplication) (b : Factor) (bs : Factors) (x : Formed) → term_form h (term at c (more_factors op b bs)) ≡ Some x → IsPlace x.form → ⊥
  several at c op b bs x e i =
      then_some ⊥ (factor_form h c) _ x e (λ y ey k. then_some ⊥ (factor_form h b) _ x k (λ w ew j. then_some ⊥ (multiplied_forms op y w y.form w.form) _ x j (λ r er n. no_more_factors bs r x (subst NotPlace er (multiplied_not op y w y.form w.form)) n i)))

  mutual
    pub place_is : (e : Expression) (z : Formed) → expression_form h e ≡ Some z → IsPlace z.form → SomeName v h e
    place_is (related at a q b) z e i =
        then_some (SomeName v h (related at a q b)) (sum_form h a) _ z e (λ x ex k.
        then_some (SomeName v h (related at a q b)) (sum_form h b) _ z k (λ y ey j. absurd (never (compared_forms q x.form y.form) z (compared_not q x.form y.form) j i)))
    place_is (alone at (sum at2 o t (more_terms op u us))) z e i =
        then_some (SomeName v h (alone at (sum at2 o t (more_terms op u us)))) (term_form h t) _ z e (λ x ex k.
        then_some (SomeName v h (alone at (sum at2 o t (more_terms op u us)))) (signed_form o x) _ z k (λ y ey j.
        then_some (SomeName v h (alone at (sum at2 o t (more_terms op u us)))) (term_form h u) _ z j (λ w ew n.
        then_some (SomeName v h (alone at (sum at2 o t (more_terms op u us)))) (added_forms op y w y.form w.form) _ z n (λ r er c. absurd (no_more_terms us r z (subst NotPlace er (added_not op y w y.form w.form)) c i)))))
    place_is (alone at (sum at2 (Some s) t no_terms)) z e i =
        then_some (SomeName v h (alone at (sum at2 (Some s) t no_terms))) (term_form h t) _ z e (λ x ex k.
        then_some (SomeName v h (alone at (sum at2 (Some s) t no_terms))) (signed_form (Some s) x) _ z k (λ y ey j. absurd (never (Some y) z (subst NotPlace ey (signed_not s x (is_integer x.ty) x.form)) j i)))
    place_is (alone at (sum at2 None (term at3 c (more_factors op b bs)) no_terms)) z e i =
        then_some (SomeName v h (alone at (sum at2 None (term at3 c (more_factors op b bs)) no_terms))) (term_form h (term at3 c (more_factors op b bs))) _ z e (λ x ex k. absurd (several at3 c op b bs x ex (subst (λ (w : Formed). IsPlace w.form) (sym (form_is k)) i)))
    place_is (alone at (sum at2 None (term at3 c no_factors) no_terms)) z e i =
        (let w = place_factor c z (sym (by_form (factor_form h c)) ∙ e) i in (w.0, w.1, lone at at2 at3 c w.0 w.1 w.2))
      where
        by_form : (o : Option Formed) → then_form (then_form o (λ x. Some x)) (λ x. then_form (signed_form None x) (λ y. Some y)) ≡ o
        by_form (Some x) = refl
        by_form None = refl

    place_factor : (c : Factor) (z : Formed) → factor_form h c ≡ Some z → IsPlace z.form → SomeFactor v h c
    place_factor (named at d es) z e i = (d, es, own_factor at d es)
    place_factor (group at a) z e i = (let w = place_is a z e i in (w.0, w.1, in_group at a w.0 w.1 w.2))
    place_factor (number at n) z e i = absurd (never (constant_form integers (pos n)) z (constant_not integers (pos n)) e i)
    place_factor (character at n) z e i = absurd (never (constant_form characters (pos n)) z (constant_not characters (pos n)) e i)
    place_factor (negated at c) z e i = then_some (SomeFactor v h (negated at c)) (factor_form h c) not_form z e (λ x ex k. absurd (never (not_form x) z (negated_not (is_boolean x.ty) x.form) k i))
    place_factor (set_of at es) z e i = then_some (SomeFactor v h (set_of at es)) (members_form h es code.empty_set) set_form z e (λ c ec k. absurd (never (set_form c) z (λ j. j) k i))

-- ---- where it is found

applied_ordinal_not : (s : Standard) (t : Ty) (b : Bool) (c : code.OrdinalExpression) → NotPlace (applied_ordinal s t b c)
applied_ordinal_not succ_function (ordinal r) b c = λ i. i
applied_ordinal_not pred_function (ordinal r) b c = λ i. i
applied_ordinal_not chr_function (ordinal r) true c = λ i. i
applied_ordinal_not abs_function (ordinal r) true c = λ i. i
applied_ordinal_not ord_function (ordinal r) b c = go (is_within all_integers (range_of_base r.base).high)
  where
    go : (x : Bool) → NotPlace (if x then integer_form c else None)
    go true = λ i. i
    go false = tt
applied_ordinal_not s t b c = tt

applied_place_not : (s : Standard) (t : Ty) (p : code.Place) → NotPlace (applied_place s t p)
applied_place_not empty_function queue_type p = λ i. i
applied_place_not s t p = tt

applied_not : (s : Standard) (x : Formed) (f : Form) → NotPlace (applied_form_of s x f)
applied_not s x (as_ordinal c) = applied_ordinal_not s x.ty (is_integer x.ty) c
applied_not s x (as_place p) = applied_place_not s x.ty p
applied_not s x _ = tt

-- the value of a variable
abbrev pub of_variable : View → Outcome Target → Outcome Typed
of_variable v o = o >>= λ t. Ok (record { ty = t.ty; value = value_at v t.place })

abbrev IsVariableName : View → Here → ℕ → Designator → Outcome Typed → Bool → Option Meaning → Formed → Type 0
IsVariableName v h at d argument b m z = (named_value v at d b m (target_value v d) argument ≡ of_variable v (target_value v d)) × (then_form (designator_form h d) valued_form ≡ Some z)

-- an array or a record is the value of a variable
place_name : (v : View) (h : Here) (at : ℕ) (d : Designator) (argument : Outcome Typed) (w : Option Formed) (b : Bool) (m : Option Meaning) (z : Formed) → named_form h at d b m (designator_form h d) w ≡ Some z → IsPlace z.form → IsVariableName v h at d argument b m z
place_name v h at d argument w true m z e i = absurd (never (call_form h at (result_called (routine_called h.program h.scope d))) z (call_not h at (result_called (routine_called h.program h.scope d))) e i)
place_name v h at d argument w false (Some (constant_meaning b n)) z e i = absurd (never (constant_form b n) z (constant_not b n) e i)
place_name v h at d argument w false (Some (standard_meaning s)) z e i = then_some (IsVariableName v h at d argument false (Some (standard_meaning s)) z) w (applied_form s) z e (λ x ex k. absurd (never (applied_form s x) z (applied_not s x x.form) k i))
place_name v h at d argument w false _ z e i = (refl, e)

-- the form of a variable alone, which has no arguments and is no call
plain_name : (h : Here) (at : ℕ) (d : Designator) (m : Option Meaning) (z : Formed) (p : code.Place) → named_form h at d false m (designator_form h d) None ≡ Some z → place_form z.form ≡ Some p → then_form (designator_form h d) valued_form ≡ Some z
plain_name h at d (Some (constant_meaning b n)) z p e k = absurd (go (is_within (range_of_base b) n) e)
  where
    go : (c : Bool) → (if c then Some (record { ty = ordinal (range_of_base b); form = as_ordinal (code.number n) }) else None) ≡ Some z → ⊥
    go true e = (let w : None ≡ Some p = subst (λ (x : Formed). place_form x.form ≡ Some p) (sym (form_is e)) k in cc)
    go false e = cc
plain_name h at d (Some (standard_meaning s)) z p e k = absurd (cc)
plain_name h at d _ z p e k = e

place_of_place : (f : Form) (p : code.Place) → f ≡ as_place p → place_form f ≡ Some p
place_of_place f p e = ap place_form e

module _ (r : Tables) (l : Layouts) (fs : List Frame) (v : View) (m : Memory) (f : Frame) (h : Here) (sees : Sees r l fs v m f h) where
  designated : (d : Designator) (z : Formed) (p : code.Place) → AreKept h (designator_calls h.scope d) → then_form (designator_form h d) valued_form ≡ Some z → place_form z.form ≡ Some p → TargetAgrees r l fs (target_value v d) z.ty (plain_address m f p)
  designated d z p kept e k =
      then_some (TargetAgrees r l fs (target_value v d) z.ty (plain_address m f p)) (designator_form h d) valued_form z e (λ w ew j. go w ew j)
    where
      go : (w : Designated) → designator_form h d ≡ Some w → valued_form w ≡ Some z → TargetAgrees r l fs (target_value v d) z.ty (plain_address m f p)
      go (a_variable q t) ew j =
          let same : q ≡ p = some_same q p (sym (place_loaded q t) ∙ (ap (λ (x : Formed). place_form x.form) (form_is j) ∙ k)) in
          let type_same : t ≡ z.ty = ap (λ (x : Formed). x.ty) (form_is j) in
          subst (λ (x : code.Place). TargetAgrees r l fs (target_value v d) z.ty (plain_address m f x)) same
          (subst (λ (u : Ty). TargetAgrees r l fs (target_value v d) u (plain_address m f q)) type_same (designator_ok r l fs v m f h sees d (a_variable q t) kept ew))
      go (a_component c n) ew j = (let w : None ≡ Some p = subst (λ (x : Formed). place_form x.form ≡ Some p) (sym (form_is j)) k in absurd (cc))
      go (some_components first q n) ew j = absurd (cc)

  own_calls : (at : ℕ) (d : Designator) (es : Expressions) → AreKept h (factor_calls h.scope (named at d es)) → AreKept h (designator_calls h.scope d)
  own_calls at d es kept = kept_left h (designator_calls h.scope d) (expressions_calls h.scope es) (kept_left h (designator_calls h.scope d ++ expressions_calls h.scope es) (own_call (is_call h.scope d) at d es) kept)

  -- an array or a record stands at a place on names that is its address on slots
  pub place_found : (e : Expression) (z : Formed) (p : code.Place) → AreKept h (expression_calls h.scope e) → expression_form h e ≡ Some z → z.form ≡ as_place p →
      (d : Designator) × (value v e ≡ of_variable v (target_value v d)) × TargetAgrees r l fs (target_value v d) z.ty (plain_address m f p)
  place_found e z p kept formed is =
      let place : IsPlace z.form = subst IsPlace (sym is) tt in
      let n = place_is v h e z formed place in
      let found = place_name v h n.2.token n.0 (first_value v n.1) (first_form h n.1) (is_call h.scope n.0) (find (name_of n.0) h.scope) z (sym n.2.same_form ∙ formed) place in (
        n.0,
        n.2.same_value ∙ subst (λ (s : Scope). named_value v n.2.token n.0 (is_call s n.0) (find (name_of n.0) s) (target_value v n.0) (first_value v n.1) ≡ of_variable v (target_value v n.0)) sees.scope found.0,
        designated n.0 z p (own_calls n.2.token n.0 n.1 (n.2.calls kept)) found.1 (place_of_place z.form p is),
      )

  -- a variable that is named alone
  pub variable_found : (e : Expression) (d : Designator) (z : Formed) (p : code.Place) → AreKept h (expression_calls h.scope e) → variable_in e ≡ Some d → is_call h.scope d ≡ false → expression_form h e ≡ Some z → place_form z.form ≡ Some p → TargetAgrees r l fs (target_value v d) z.ty (plain_address m f p)
  variable_found e d z p kept is plain formed k =
      let n = variable_is v h e d is in
      designated d z p (own_calls n.token d no_expressions (n.calls kept))
      (plain_name h n.token d (find (name_of d) h.scope) z p (ap (λ b. named_form h n.token d b (find (name_of d) h.scope) (designator_form h d) None) (sym plain) ∙ (sym n.same_form ∙ formed)) k) k

  -- an array, a record or a queue that is named alone
  pub variable_place : (e : Expression) (d : Designator) (z : Formed) (p : code.Place) → AreKept h (expression_calls h.scope e) → variable_in e ≡ Some d → expression_form h e ≡ Some z → z.form ≡ as_place p → TargetAgrees r l fs (target_value v d) z.ty (plain_address m f p)
  variable_place e d z p kept named_by formed is =
      let n = variable_is v h e d named_by in
      let found = place_name v h n.token d (first_value v no_expressions) None (is_call h.scope d) (find (name_of d) h.scope) z (sym n.same_form ∙ formed) (subst IsPlace (sym is) tt) in
      designated d z p (own_calls n.token d no_expressions (n.calls kept)) found.1 (place_of_place z.form p is)

-- ---- a component

no_component : (p : code.Place) (t : Ty) (c : code.ComponentPlace) → loaded_form p t ≡ as_component c → ⊥
no_component p (ordinal r) c e = cc
no_component p x c e = cc

-- a component that is named alone
pub component_found : (v : View) (h : Here) (e : Expression) (d : Designator) (z : Formed) (c : code.ComponentPlace) → variable_in e ≡ Some d → expression_form h e ≡ Some z → z.form ≡ as_component c →
    (k : ℕ) × (designator_form h d ≡ Some (a_component c k)) × (AreKept h (expression_calls h.scope e) → AreKept h (designator_calls h.scope d))
component_found v h e d z c named_by formed is =
    then_some ((k : ℕ) × (designator_form h d ≡ Some (a_component c k)) × (AreKept h (expression_calls h.scope e) → AreKept h (designator_calls h.scope d))) (designator_form h d) valued_form z (place_name v h n.token d (first_value v no_expressions) None (is_call h.scope d) (find (name_of d) h.scope) z (sym n.same_form ∙ formed) (subst IsPlace (sym is) tt)).1 (λ w ew j. go w ew j)
  where
    n : IsName v h e d no_expressions
    n = variable_is v h e d named_by

    kept_calls : AreKept h (expression_calls h.scope e) → AreKept h (designator_calls h.scope d)
    kept_calls kept = kept_left h (designator_calls h.scope d) [] (kept_left h (designator_calls h.scope d ++ []) (own_call (is_call h.scope d) n.token d no_expressions) (n.calls kept))

    go : (w : Designated) → designator_form h d ≡ Some w → valued_form w ≡ Some z → (k : ℕ) × (designator_form h d ≡ Some (a_component c k)) × (AreKept h (expression_calls h.scope e) → AreKept h (designator_calls h.scope d))
    go (a_variable p t) ew j = absurd (no_component p t c (ap (λ (x : Formed). x.form) (form_is j) ∙ is))
    go (some_components first q k) ew j = absurd (cc)
    go (a_component p k) ew j = (let same : as_component p ≡ as_component c = ap (λ (x : Formed). x.form) (form_is j) ∙ is in let part : p ≡ c = cc in (k, ew ∙ ap (λ x. Some (a_component x k)) part, kept_calls))

-- ---- where names are used as the rules want it

none_given : (es : Expressions) → AreNone es → es ≡ no_expressions
none_given no_expressions a = refl
none_given (more_expressions e es) a = absurd a

-- what has the form of a place or of a component has no arguments
no_arguments : (h k : Here) (at : ℕ) (d : Designator) (es : Expressions) (target : Option Designated) (w : Option Formed) (b : Bool) (m : Option Meaning) (z : Formed) → named_form h at d b m target w ≡ Some z → IsPlace z.form → UsedAs k d es b m → es ≡ no_expressions
no_arguments h k at d es target w true m z e i u = absurd (never (call_form h at (result_called (routine_called h.program h.scope d))) z (call_not h at (result_called (routine_called h.program h.scope d))) e i)
no_arguments h k at d es target w false (Some (constant_meaning b n)) z e i u = absurd (never (constant_form b n) z (constant_not b n) e i)
no_arguments h k at d es target w false (Some (standard_meaning s)) z e i u = then_some (es ≡ no_expressions) w (applied_form s) z e (λ x ex j. absurd (never (applied_form s x) z (applied_not s x x.form) j i))
no_arguments h k at d es target w false _ z e i u = none_given es u

-- a component is named alone
pub component_named : (v : View) (h k : Here) (e : Expression) (z : Formed) → expression_form h e ≡ Some z → IsPlace z.form → k.scope ≡ h.scope → IsUsed k e → (d : Designator) × (variable_in e ≡ Some d)
component_named v h k e z formed place same used =
    let w = place_is v h e z formed place in
    let d : Designator = w.0 in
    let u = (w.2.used k used).2 in
    let here : UsedAs k d w.1 (is_call h.scope d) (find (name_of d) h.scope) = subst (λ (s : Scope). UsedAs k d w.1 (is_call s d) (find (name_of d) s)) same u in
    (d, w.2.alone (no_arguments h k w.2.token d w.1 (designator_form h d) (first_form h w.1) (is_call h.scope d) (find (name_of d) h.scope) z (sym w.2.same_form ∙ formed) place here))
