-- Names in expressions that break no rule, alone or with their arguments; and what stands somewhere is a name alone.
use Rattle.std.proofs.Common.{◌≡◌, ℕ, ◌+◌, Bool, true, false, ◌&&◌, if◌then◌else◌, List, [], ◌∷◌, Option, Some, None, Ok, refl, sym, ap, subst, ◌∙◌}
use Rattle.cp_resolved.proofs.Words.{Sign, Judged, both, ◌>>=◌, Context, Operand}
use Rattle.cp_resolved.proofs.Words.{is_function, is_assignable, Identifier, OperandUse, Named}
use Rattle.cp_tree.specs.Syntax.{Expression, alone, related, Sum, sum, Terms, no_terms, more_terms as terms_more, Term, term, Factors, no_factors, more_factors as factors_more, Factor, named as factor_named, group, negated, set_of, Expressions, no_expressions, more_expressions, Designator, designator as name_with, Selectors}
use Rattle.cp_scope.specs.declared.types.ValueType.TheVariants as types
use Rattle.cp_scope.specs.Scopes.{Scopes}
use Rattle.cp_check.specs.declared.operand.OperandUse.TheVariants as place
use Rattle.cp_check.specs.declared.operand.DesignatedName as check_designated
use Rattle.cp_check.specs.Operations as operations
use Rattle.cp_check.specs.Calls as calls
use Rattle.cp_check.specs.declared.operand.Named.TheVariants as name
use Rattle.cp_check.specs.Expressions.{expression, sum_value, more_terms, term_value, more_factors, factor, designator, arguments, set_value, is_unsigned, has_no_terms, has_no_factors, has_none}
use Rattle.cp_check.specs.Expressions as expressions
use Rattle.cp_resolved.specs.Used.{AreNone}
use Rattle.cp_resolved.proofs.forms.MadeValues.{IsMade, agreed_made, sum_made, product_made, signed_made, related_made, negated_made, group_made, constructed_made, applied_made, call_made, terms_made, factors_made}
use Rattle.cp_resolved.proofs.agreeing.WithoutFaults.{ok_same, Then, then_of, both_of}
use Rattle.cp_resolved.proofs.frames.LeastCells.{right_true as second_true}

-- ---- arguments

pub none_given : (s : Scopes) (w : Context) (es : Expressions) → arguments s w [] 0 es ≡ Ok [] → AreNone es
unfolding expression
none_given s w no_expressions is = tt
none_given s w (more_expressions e es) is = absurd (let t = then_of (both (expression s w false e) (arguments s w [] (0 + 1) es)) expressions.before [] is in let bad : t.value.0 ∷ t.value.1 ≡ [] = ok_same (t.value.0 ∷ t.value.1) [] t.rest in cc)

-- ---- names and terms that stand alone

pub agreed_some : (at : ℕ) (j : Judged (Option Operand)) (p : Operand) → (j >>= operations.check_agreement at) ≡ Ok p → j ≡ Ok (Some p)
agreed_some at (Ok (Some o)) p e = ap (λ (z : Operand). Ok (Some z)) (ok_same o p e)
agreed_some at x p e = absurd (cc)

no_more : (v b : Bool) → b ≡ false → (v && b) ≡ true → ⊥
no_more v b e i = (let bad : false ≡ true = sym e ∙ second_true v b i in cc)

first_of : (v b : Bool) → (v && b) ≡ true → v ≡ true
first_of true b i = refl
first_of false b i = absurd (cc)

pub some_same : (a b : Operand) → (let j : Judged (Option Operand) = Ok (Some a) in j) ≡ Ok (Some b) → a ≡ b
some_same a b e = cc

pub name_only : (v : Bool) (es : Expressions) (p : Operand) → (v ≡ true → is_function p.place ≡ false) → (v && has_none es) ≡ true → (es ≡ no_expressions) × (is_function p.place ≡ false)
name_only v no_expressions p only i = (refl, only (first_of v true i))
name_only v (more_expressions e es) p only i = absurd (no_more v false refl i)

pub never : (p : Operand) → false ≡ true → is_function p.place ≡ false
never p i = absurd (cc)

-- it stands somewhere
abbrev pub is_stored : OperandUse → Bool
is_stored place.Assignable = true
is_stored place.Fixed = true
is_stored p = false

pub assigned_stored : (p : OperandUse) → is_assignable p ≡ true → is_stored p ≡ true
assigned_stored place.Value e = absurd (cc)
assigned_stored place.Function e = absurd (cc)
assigned_stored _ e = refl

stored_no_function : (p : OperandUse) → is_stored p ≡ true → is_function p ≡ false
stored_no_function place.Function e = absurd (cc)
stored_no_function _ e = refl

pub none_made : (j : Judged Operand) (o : Operand) → IsMade j → j ≡ Ok o → is_stored o.place ≡ true → ⊥
none_made j o m is k = (let bad : false ≡ true = sym (ap is_stored (subst IsMade is m)) ∙ k in cc)

module _ (s : Scopes) (w : Context) where
  -- a name alone or with its arguments
  pub record NameParts (d : Designator) (es : Expressions) (at : ℕ) (p : Operand) : Type 0 where
    pub value : check_designated.DesignatedName
    pub is : designator s w d ≡ Ok value
    pub operands : List Operand
    pub arguments : arguments s w [] 0 es ≡ Ok operands
    pub rest : calls.value_by_name s w at value operands value.named ≡ Ok p

  pub name_parts : (b : Bool) (d : Designator) (es : Expressions) (at : ℕ) (p : Operand) → (b ≡ true → (es ≡ no_expressions) × (is_function p.place ≡ false)) → expressions.value_of_name s w b at (designator s w d) (arguments s w [] 0 es) ≡ Ok p → NameParts d es at p
  unfolding calls.value_of expression
  name_parts false d es at p only is =
      let t : Then (both (designator s w d) (arguments s w [] 0 es)) (calls.value_of s w at) p = then_of (both (designator s w d) (arguments s w [] 0 es)) (calls.value_of s w at) p is in
      let q = both_of (designator s w d) (arguments s w [] 0 es) t.value t.is in
      record { value = t.value.0; is = q.first; operands = t.value.1; arguments = q.second; rest = t.rest }
  name_parts true d es at p only is =
      let t : Then (designator s w d) (calls.variable_of s w at) p = then_of (designator s w d) (calls.variable_of s w at) p is in
      let k : (es ≡ no_expressions) × (is_function p.place ≡ false) = only refl in
      record { value = t.value; is = t.is; operands = []; arguments = subst (λ (fs : Expressions). arguments s w [] 0 fs ≡ Ok []) (sym k.0) none; rest = go t.value (calls.is_other_function s w t.value.named) k.1 t.rest }
    where
      none : arguments s w [] 0 no_expressions ≡ Ok []
      none = refl

      go : (c : check_designated.DesignatedName) (b : Bool) → is_function p.place ≡ false → (if b then Ok (calls.operand_at at types.Queue place.Function c.uses) else calls.value_of s w at (c, [])) ≡ Ok p → calls.value_by_name s w at c [] c.named ≡ Ok p
      go c true k z = absurd (let one : calls.operand_at at types.Queue place.Function c.uses ≡ p = ok_same (calls.operand_at at types.Queue place.Function c.uses) p z in let bad : true ≡ false = ap (λ (x : Operand). is_function x.place) one ∙ k in cc)
      go c false k z = z

  -- a term alone is the whole sum
  pub sum_only : (at : ℕ) (v : Bool) (o : Option Sign) (ts : Terms) (q : Judged Operand) (a p : Operand) → q ≡ Ok a → (v ≡ true → is_function p.place ≡ false) → more_terms s w at (q >>= expressions.first_term at o) ts ≡ Ok (Some p) → (v && (is_unsigned o && has_no_terms ts)) ≡ true → is_function a.place ≡ false
  unfolding expression
  sum_only at v None no_terms q a p x only is i =
      let one : a ≡ p = some_same a p (sym (ap (λ (z : Judged Operand). z >>= expressions.first_term at None) x) ∙ is) in
      ap (λ (z : Operand). is_function z.place) one ∙ only (first_of v true i)
  sum_only at v _ _ q a p x only is i = absurd (no_more v false refl i)

  pub term_only : (at : ℕ) (v : Bool) (fs : Factors) (q : Judged Operand) (a p : Operand) → q ≡ Ok a → (v ≡ true → is_function p.place ≡ false) → more_factors s w at (q >>= expressions.some_operand) fs ≡ Ok (Some p) → (v && has_no_factors fs) ≡ true → is_function a.place ≡ false
  unfolding expression
  term_only at v no_factors q a p x only is i =
      let one : a ≡ p = some_same a p (sym (ap (λ (z : Judged Operand). z >>= expressions.some_operand) x) ∙ is) in
      ap (λ (z : Operand). is_function z.place) one ∙ only (first_of v true i)
  term_only at v (factors_more m f fs) q a p x only is i = absurd (no_more v false refl i)

  -- ---- what stands somewhere

  -- a name with arguments is made
  called_made : (at : ℕ) (d : check_designated.DesignatedName) (p : Operand) (ps : List Operand) (n : Named) → IsMade (calls.value_by_name s w at d (p ∷ ps) n)
  called_made at d p ps (name.Predeclared q) = applied_made at q (p ∷ ps) (calls.total_use d.uses (p ∷ ps))
  called_made at d p ps (name.Routine n) = call_made s w at d.name_at true n (p ∷ ps) d.uses
  called_made at d p ps (name.Entry n) = call_made s w at d.name_at false n (p ∷ ps) d.uses
  called_made at d p ps _ = tt

  record FactorAlone (f : Factor) (o : Operand) : Type 0 where
    token : ℕ
    identifier : Identifier
    chosen : Selectors
    value : check_designated.DesignatedName
    is : f ≡ factor_named token (name_with identifier chosen) no_expressions
    judged : designator s w (name_with identifier chosen) ≡ Ok value
    rest : calls.value_by_name s w token value [] value.named ≡ Ok o

  name_alone : (at : ℕ) (i : Identifier) (ss : Selectors) (es : Expressions) (d : check_designated.DesignatedName) (os : List Operand) (o : Operand) → designator s w (name_with i ss) ≡ Ok d → arguments s w [] 0 es ≡ Ok os → calls.value_by_name s w at d os d.named ≡ Ok o → is_stored o.place ≡ true → FactorAlone (factor_named at (name_with i ss) es) o
  name_alone at i ss es d (p ∷ ps) o j a r k = absurd (none_made (calls.value_by_name s w at d (p ∷ ps) d.named) o (called_made at d p ps d.named) r k)
  name_alone at i ss no_expressions d [] o j a r k = record { token = at; identifier = i; chosen = ss; value = d; is = refl; judged = j; rest = r }
  name_alone at i ss (more_expressions e es) d [] o j a r k = absurd (none_given s w (more_expressions e es) a)

  factor_alone : (v : Bool) (f : Factor) (o : Operand) → factor s w v f ≡ Ok o → is_stored o.place ≡ true → FactorAlone f o
  unfolding expression
  factor_alone v (factor_named at (name_with i ss) es) o is k =
      let x : NameParts (name_with i ss) es at o = name_parts (v && has_none es) (name_with i ss) es at o (name_only v es o (λ e. stored_no_function o.place k)) is in
      name_alone at i ss es x.value x.operands o x.is x.arguments x.rest k
  factor_alone v (group at e) o is k = absurd (none_made (expression s w false e >>= expressions.to_group at) o (group_made at (expression s w false e)) is k)
  factor_alone v (negated at f) o is k = absurd (none_made (factor s w false f >>= operations.negation_of at) o (negated_made at (factor s w false f)) is k)
  factor_alone v (set_of at es) o is k = absurd (none_made (arguments s w [] 0 es >>= set_value at) o (constructed_made at (arguments s w [] 0 es)) is k)
  factor_alone v f o is k = absurd (none_made (factor s w v f) o refl is k)

  abbrev TermAlone : Term → Operand → Type 0
  TermAlone t o = (c : ℕ) × (f : Factor) × (t ≡ term c f no_factors) × FactorAlone f o

  term_alone : (v : Bool) (t : Term) (o : Operand) → term_value s w v t ≡ Ok o → is_stored o.place ≡ true → TermAlone t o
  unfolding expression
  term_alone v (term at f no_factors) o is k =
      let q : Judged Operand = factor s w (v && true) f in
      let x : Then q expressions.some_operand (Some o) = then_of q expressions.some_operand (Some o) (agreed_some at (q >>= expressions.some_operand) o is) in
      (at, f, refl, factor_alone (v && true) f o (x.is ∙ ap (λ (z : Operand). Ok z) (some_same x.value o x.rest)) k)
  term_alone v (term at f (factors_more m g fs)) o is k =
      let p : Judged (Option Operand) = factor s w (v && false) f >>= expressions.some_operand in
      let j : Judged (Option Operand) = both p (factor s w false g) >>= expressions.product_so_far at m in
      absurd (none_made (more_factors s w at j fs >>= operations.check_agreement at) o (agreed_made at (more_factors s w at j fs) (factors_made s w at fs j (product_made at m p (factor s w false g)))) is k)

  abbrev SumAlone : Sum → Operand → Type 0
  SumAlone a o = (b : ℕ) × (t : Term) × (a ≡ sum b None t no_terms) × TermAlone t o

  sum_alone : (v : Bool) (a : Sum) (o : Operand) → sum_value s w v a ≡ Ok o → is_stored o.place ≡ true → SumAlone a o
  unfolding expression
  sum_alone v (sum at None t no_terms) o is k =
      let q : Judged Operand = term_value s w (v && (true && true)) t in
      let x : Then q (expressions.first_term at None) (Some o) = then_of q (expressions.first_term at None) (Some o) (agreed_some at (q >>= expressions.first_term at None) o is) in
      (at, t, refl, term_alone (v && (true && true)) t o (x.is ∙ ap (λ (z : Operand). Ok z) (some_same x.value o x.rest)) k)
  sum_alone v (sum at (Some g) t ts) o is k =
      let q : Judged Operand = term_value s w (v && (false && has_no_terms ts)) t in
      let j : Judged (Option Operand) = q >>= expressions.first_term at (Some g) in
      absurd (none_made (more_terms s w at j ts >>= operations.check_agreement at) o (agreed_made at (more_terms s w at j ts) (terms_made s w at ts j (signed_made at g q))) is k)
  sum_alone v (sum at None t (terms_more a u ts)) o is k =
      let p : Judged (Option Operand) = term_value s w (v && (true && false)) t >>= expressions.first_term at None in
      let j : Judged (Option Operand) = both p (term_value s w false u) >>= expressions.sum_so_far at a in
      absurd (none_made (more_terms s w at j ts >>= operations.check_agreement at) o (agreed_made at (more_terms s w at j ts) (terms_made s w at ts j (sum_made at a p (term_value s w false u)))) is k)

  -- an expression that is a name alone
  abbrev pub name_only_of : (a b c token : ℕ) (d : Designator) → Expression
  name_only_of a b c token d = alone a (sum b None (term c (factor_named token d no_expressions) no_factors) no_terms)

  pub record NameAlone (e : Expression) (o : Operand) : Type 0 where
    pub first : ℕ
    pub second : ℕ
    pub third : ℕ
    pub token : ℕ
    pub identifier : Identifier
    pub chosen : Selectors
    pub value : check_designated.DesignatedName
    pub is : e ≡ name_only_of first second third token (name_with identifier chosen)
    pub judged : designator s w (name_with identifier chosen) ≡ Ok value
    pub rest : calls.value_by_name s w token value [] value.named ≡ Ok o

  pub expression_alone : (v : Bool) (e : Expression) (o : Operand) → expression s w v e ≡ Ok o → is_stored o.place ≡ true → NameAlone e o
  unfolding expression
  expression_alone v (alone at a) o is k =
      let x : SumAlone a o = sum_alone v a o is k in
      let f : FactorAlone x.3.1 o = x.3.3 in
      record {
        first = at;
        second = x.0;
        third = x.3.0;
        token = f.token;
        identifier = f.identifier;
        chosen = f.chosen;
        value = f.value;
        is = ap (λ (z : Sum). alone at z) x.2 ∙ ap (λ (z : Term). alone at (sum x.0 None z no_terms)) x.3.2 ∙ ap (λ (z : Factor). alone at (sum x.0 None (term x.3.0 z no_factors) no_terms)) f.is;
        judged = f.judged;
        rest = f.rest;
      }
  expression_alone v (related at a r b) o is k = absurd (none_made (both (sum_value s w false a) (sum_value s w false b) >>= operations.relation_value at r) o (related_made at r (sum_value s w false a) (sum_value s w false b)) is k)
