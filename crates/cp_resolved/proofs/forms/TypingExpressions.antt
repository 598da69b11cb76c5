-- An expression that breaks no rule has a form, and their types belong together.
use Rattle.std.proofs.Common.{◌≡◌, ◌≤◌, ℕ, ◌+◌, pos, if◌then◌else◌, arith, Bool, true, false, List, [], ◌∷◌, Option, Some, None, Ok, Err, refl, sym, ap, subst, ◌∙◌}
use Rattle.cp_resolved.proofs.Words.{Identifier, C5, no_use, value, Range, ValueType, is_of, whole, Judged, broken, both, ◌>>=◌, Scopes, Context, Operand}
use Rattle.cp_resolved.proofs.Words.{Name, is_within, range_of_base, find, last_field, Here}
use Rattle.cp_tree.specs.Syntax.{Expression, alone, related, Sum, sum, Terms, no_terms, more_terms as terms_more, Term, term, Factors, no_factors, more_factors as factors_more, Factor, number, character, named as factor_named, group, negated, set_of, Expressions, no_expressions, more_expressions, designator as name_with, Selectors, no_selectors, more_selectors, field, index}
use Rattle.cp_scope.specs.declared.types.Base as check_base
use Rattle.cp_scope.specs.declared.types.Base.TheVariants as base
use Rattle.cp_check.specs.Calls.{total_use}
use Rattle.cp_scope.specs.declared.types.ValueType.TheVariants as types
use Rattle.cp_check.specs.declared.operand.DesignatedName as check_designated
use Rattle.cp_check.specs.Names as names
use Rattle.cp_check.specs.Expressions.{expression, sum_value, more_terms, term_value, more_factors, factor, designator, selectors, arguments, set_value, set_like, are_elements}
use Rattle.cp_check.specs.Expressions as expressions
use Rattle.cp_slots.specs.Code as code
use Rattle.cp_meaning.specs.Types as named
use Rattle.cp_meaning.specs.Scopes as scopes
use Rattle.cp_resolved.specs.Compiled.{Formed, Designated as FormDesignated, then_form, set_form, signed_form, added_forms, multiplied_forms, with_member_form, begun_form, expression_form, sum_form, terms_form, term_form, factors_form, factor_form, members_form, first_form, designator_form, selected_form, chosen_form}
use Rattle.cp_resolved.specs.Typed.{Tokens, Written, ScopesAgree, Expressed, HasForm, IsSmallExpression, IsSmallSum, AreSmallTerms, IsSmallTerm, AreSmallFactors, IsSmallFactor, AreSmallExpressions, AreSmallSelectors}
use Rattle.cp_resolved.proofs.forms.Typing.{OrdinalForm, ordinal_found, a_set}
use Rattle.cp_resolved.proofs.forms.TypingOperations.{HasPartForm, agreed_form, first_form as one_form, sign_form, negated_form, group_form, added_form, multiplied_form, related_form}
use Rattle.cp_resolved.proofs.forms.TypingNames.{written, NamedIs, HasDesignated, begun_typed, field_selected, index_selected, known_selected, last_or, last_same}
use Rattle.cp_resolved.proofs.forms.TypingValues.{AreArguments, name_typed, constant_typed}
use Rattle.cp_resolved.proofs.frames.LeastCells.{right_true as second_true}
use Rattle.cp_resolved.proofs.counts.FewCells.{left_of as first_true}

-- ---- a chain of forms, from either end

chain : {A B C : Type 0} (o : Option A) (f : A → Option B) (g : B → Option C) → then_form (then_form o f) g ≡ then_form o (λ a. then_form (f a) g)
chain None f g = refl
chain (Some a) f g = refl

two : {A B C D : Type 0} (o : Option A) (p : Option B) (f : A → B → Option C) (g : C → Option D) → then_form (then_form o (λ a. then_form p (λ b. f a b))) g ≡ then_form o (λ a. then_form p (λ b. then_form (f a b) g))
two (Some a) None f g = refl
two _ _ f g = refl

only : {A : Type 0} (o : Option A) → o ≡ then_form o (λ a. Some a)
only None = refl
only (Some a) = refl

module _ (tokens : Tokens) (s : Scopes) (h : Here) (w : Context) (agrees : ScopesAgree tokens s h) where
  abbrev W : Written
  W = written tokens s h

  small_number : (n : ℕ) → n ≤ 32767 → is_within (range_of_base named.integers) (pos n) ≡ true
  small_number n m = search (arith, m)

  small_character : (n : ℕ) → n ≤ 127 → is_within (range_of_base named.characters) (pos n) ≡ true
  small_character n m = search (arith, m)

  -- ---- what set constructors want of their elements: the forms of all operands, in order

  -- the members from the first on, given what is built so far
  abbrev pub Members : List Operand → (code.SetExpression → Option code.SetExpression) → Type 0
  Members os go = (b : check_base.Base) → are_elements b os ≡ true → (c : code.SetExpression) → (d : code.SetExpression) × (go c ≡ Some d)

  abbrev pub AllMembers : Judged (List Operand) → (code.SetExpression → Option code.SetExpression) → Type 0
  AllMembers (Ok os) go = Members os go
  AllMembers (Err fs) go = Unit {0}

  element_form : (v : ValueType) (b : check_base.Base) (f : Option Formed) → Expressed W v f → is_of b v ≡ true → (r : Range) × OrdinalForm tokens r f
  element_form (types.Ordinal r) b f e i = (r, ordinal_found W r f e)
  element_form x b f e i = absurd (cc)

  more_members : (o : Operand) (os : List Operand) (f : Option Formed) (go : code.SetExpression → Option code.SetExpression) → Expressed W o.value_type f → Members os go → Members (o ∷ os) (λ c. then_form f (λ x. then_form (with_member_form c x.form) go))
  more_members o os f go e k b i c =
      let g = element_form o.value_type b f e (first_true (is_of b o.value_type) (are_elements b os) i) in
      let d = k b (second_true (is_of b o.value_type) (are_elements b os) i) (code.with_element c g.1.code) in
      (d.0, ap (λ (p : Option Formed). then_form p (λ x. then_form (with_member_form c x.form) go)) g.1.is ∙ d.1)

  members_before : (j : Judged Operand) (k : Judged (List Operand)) (f : Option Formed) (go : code.SetExpression → Option code.SetExpression) → HasForm W j f → AllMembers k go → AllMembers (both j k >>= expressions.before) (λ c. then_form f (λ x. then_form (with_member_form c x.form) go))
  members_before (Ok o) (Ok os) f go e k = more_members o os f go e k
  members_before (Err fs) (Ok os) f go e k = tt
  members_before _ _ f go e k = tt

  arguments_before : (j : Judged Operand) (k : Judged (List Operand)) (f : Option Formed) → HasForm W j f → AreArguments tokens s h w (both j k >>= expressions.before) f
  arguments_before (Ok o) (Ok os) f e = e
  arguments_before (Err fs) (Ok os) f e = tt
  arguments_before _ _ f e = tt

  set_built : (r : Range) (d : Option code.SetExpression) (c : code.SetExpression) → d ≡ Some c → Expressed W (types.Set (Some (whole r.base))) (then_form d set_form)
  set_built r d c e = subst (λ (p : Option code.SetExpression). Expressed W (types.Set (Some (whole r.base))) (then_form p set_form)) (sym e) (a_set W (Some (whole r.base)) c)

  like_form : (at : ℕ) (os : List Operand) (v : ValueType) (go : code.SetExpression → Option code.SetExpression) → Members os go → HasForm W (set_like at os v) (then_form (go code.empty_set) set_form)
  like_form at os (types.Ordinal r) go k = choose (are_elements r.base os) (λ e. (let d = k r.base e code.empty_set in set_built r (go code.empty_set) d.0 d.1))
    where
      choose : (b : Bool) → (b ≡ true → Expressed W (types.Set (Some (whole r.base))) (then_form (go code.empty_set) set_form)) → HasForm W (if b then Ok (value at (types.Set (Some (whole r.base))) (total_use no_use os)) else broken at C5) (then_form (go code.empty_set) set_form)
      choose true e = e refl
      choose false e = tt
  like_form at os _ go k = tt

  constructed_form : (at : ℕ) (j : Judged (List Operand)) (go : code.SetExpression → Option code.SetExpression) → AllMembers j go → HasForm W (j >>= set_value at) (then_form (go code.empty_set) set_form)
  constructed_form at (Ok []) go k = (let d = k base.Integer refl code.empty_set in subst (λ (p : Option code.SetExpression). Expressed W (types.Set None) (then_form p set_form)) (sym d.1) (a_set W None d.0))
  constructed_form at (Ok (o ∷ os)) go k = like_form at (o ∷ os) o.value_type go k
  constructed_form at (Err fs) go k = tt

  designator_found : (i : Identifier) (ss : Selectors) →
      HasDesignated tokens s h i.name (find i.name h.scope) (last_or None ss) (selectors s w (names.meaning_of_name s i) ss) (then_form (begun_form h i.name (find i.name h.scope)) (selected_form h ss)) →
      HasDesignated tokens s h i.name (find i.name h.scope) (last_field ss) (designator s w (name_with i ss)) (designator_form h (name_with i ss))
  unfolding expression
  designator_found i ss f =
      subst (λ (x : Option Name). HasDesignated tokens s h i.name (find i.name h.scope) x (designator s w (name_with i ss)) (designator_form h (name_with i ss))) (last_same ss)
      (known_selected tokens s h agrees i.name (find i.name h.scope) i.at (last_or None ss) (selectors s w (names.meaning_of_name s i) ss) _ f)

  -- ---- expressions

  mutual
    unfolding expression

    pub expression_typed : (e : Expression) → IsSmallExpression e → HasForm W (expression s w false e) (expression_form h e)
    expression_typed (alone at a) m = sum_typed a m
    expression_typed (related at a r b) m = related_form W at r (sum_value s w false a) (sum_value s w false b) (sum_form h a) (sum_form h b) (sum_typed a m.0) (sum_typed b m.1)

    pub sum_typed : (a : Sum) → IsSmallSum a → HasForm W (sum_value s w false a) (sum_form h a)
    sum_typed (sum at o t ts) m =
        agreed_form W at _ _ (subst (HasPartForm W _) (chain (term_form h t) (signed_form o) (terms_form h ts))
        (terms_typed at ts m.1 _ _ (sign_form W at o (term_value s w false t) (term_form h t) (term_typed t m.0))))

    terms_typed : (at : ℕ) (ts : Terms) → AreSmallTerms ts → (j : Judged (Option Operand)) (f : Option Formed) → HasPartForm W j f → HasPartForm W (more_terms s w at j ts) (then_form f (terms_form h ts))
    terms_typed at no_terms m j f i = subst (HasPartForm W j) (only f) i
    terms_typed at (terms_more a t ts) m j f i =
        subst (HasPartForm W _) (two f (term_form h t) (λ x y. added_forms a x y x.form y.form) (terms_form h ts))
        (terms_typed at ts m.1 _ _ (added_form W at a j (term_value s w false t) f (term_form h t) i (term_typed t m.0)))

    pub term_typed : (t : Term) → IsSmallTerm t → HasForm W (term_value s w false t) (term_form h t)
    term_typed (term at f fs) m = agreed_form W at _ _ (factors_typed at fs m.1 _ _ (one_form W (factor s w false f) (factor_form h f) (factor_typed f m.0)))

    factors_typed : (at : ℕ) (fs : Factors) → AreSmallFactors fs → (j : Judged (Option Operand)) (f : Option Formed) → HasPartForm W j f → HasPartForm W (more_factors s w at j fs) (then_form f (factors_form h fs))
    factors_typed at no_factors m j f i = subst (HasPartForm W j) (only f) i
    factors_typed at (factors_more o g fs) m j f i =
        subst (HasPartForm W _) (two f (factor_form h g) (λ x y. multiplied_forms o x y x.form y.form) (factors_form h fs))
        (factors_typed at fs m.1 _ _ (multiplied_form W at o j (factor s w false g) f (factor_form h g) i (factor_typed g m.0)))

    pub factor_typed : (f : Factor) → IsSmallFactor f → HasForm W (factor s w false f) (factor_form h f)
    factor_typed (number at n) m = constant_typed tokens s h w base.Integer named.integers (pos n) (pos n) refl (small_number n m)
    factor_typed (character at c) m = constant_typed tokens s h w base.Char named.characters (pos c) (pos c) refl (small_character c m)
    factor_typed (factor_named at (name_with i ss) es) m =
        name_typed tokens s h w at i ss (designator s w (name_with i ss)) (arguments s w [] 0 es) (designator_form h (name_with i ss)) (first_form h es)
        (designator_found i ss (selectors_typed i.name (find i.name h.scope) ss m.0 None (names.meaning_of_name s i) (begun_form h i.name (find i.name h.scope)) (begun_typed tokens s h agrees i)))
        (arguments_typed 0 es m.1)
    factor_typed (group at e) m = group_form W at (expression s w false e) (expression_form h e) (expression_typed e m)
    factor_typed (negated at f) m = negated_form W at (factor s w false f) (factor_form h f) (factor_typed f m)
    factor_typed (set_of at es) m = constructed_form at (arguments s w [] 0 es) (members_form h es) (members_typed 0 es m)

    selectors_typed : (x0 : Name) (mean : Option scopes.Meaning) (ss : Selectors) → AreSmallSelectors ss → (x : Option Name) (j : Judged check_designated.DesignatedName) (o : Option FormDesignated) → HasDesignated tokens s h x0 mean x j o →
        HasDesignated tokens s h x0 mean (last_or x ss) (selectors s w j ss) (then_form o (selected_form h ss))
    selectors_typed x0 mean no_selectors m x j o i = subst (HasDesignated tokens s h x0 mean x j) (only o) i
    selectors_typed x0 mean (more_selectors (field n) ss) m x j o i =
        subst (HasDesignated tokens s h x0 mean (last_or (Some n.name) ss) _) (chain o (chosen_form h (field n)) (selected_form h ss))
        (selectors_typed x0 mean ss m.1 (Some n.name) _ _ (field_selected tokens s h agrees x0 mean x n j o i))
    selectors_typed x0 mean (more_selectors (index e) ss) m x j o i =
        subst (HasDesignated tokens s h x0 mean (last_or None ss) _) (chain o (chosen_form h (index e)) (selected_form h ss))
        (selectors_typed x0 mean ss m.1 None _ _ (index_selected tokens s h agrees x0 mean x j (expression s w false e) o (expression_form h e) i (expression_typed e m.0)))

    arguments_typed : (k : ℕ) (es : Expressions) → AreSmallExpressions es → AreArguments tokens s h w (arguments s w [] k es) (first_form h es)
    arguments_typed k no_expressions m = tt
    arguments_typed k (more_expressions e es) m = arguments_before (expression s w false e) (arguments s w [] (k + 1) es) (expression_form h e) (expression_typed e m.0)

    members_typed : (k : ℕ) (es : Expressions) → AreSmallExpressions es → AllMembers (arguments s w [] k es) (members_form h es)
    members_typed k no_expressions m = (λ b e c. (c, refl))
    members_typed k (more_expressions e es) m = members_before (expression s w false e) (arguments s w [] (k + 1) es) (expression_form h e) (members_form h es) (expression_typed e m.0) (members_typed (k + 1) es m.1)

  -- what a designator stands for
  pub designator_typed : (i : Identifier) (ss : Selectors) → AreSmallSelectors ss → HasDesignated tokens s h i.name (find i.name h.scope) (last_field ss) (designator s w (name_with i ss)) (designator_form h (name_with i ss))
  designator_typed i ss m = designator_found i ss (selectors_typed i.name (find i.name h.scope) ss m None (names.meaning_of_name s i) (begun_form h i.name (find i.name h.scope)) (begun_typed tokens s h agrees i))

  -- a name with selectors that is judged without a fault
  pub designator_named : (i : Identifier) (ss : Selectors) (c : check_designated.DesignatedName) → AreSmallSelectors ss → designator s w (name_with i ss) ≡ Ok c → NamedIs tokens s h i.name (find i.name h.scope) (last_field ss) c.named (designator_form h (name_with i ss))
  designator_named i ss c m is = subst (λ (j : Judged check_designated.DesignatedName). HasDesignated tokens s h i.name (find i.name h.scope) (last_field ss) j (designator_form h (name_with i ss))) is (designator_typed i ss m)
