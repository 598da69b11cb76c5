-- How names are used where they break no rule: what is no variable stands bare, and an entry stands after indices.
use Rattle.std.proofs.Common.{◌≡◌, ℕ, Bool, true, false, if◌then◌else◌, List, [], Option, Some, None, Ok, Err, refl, sym, ap, subst, ◌∙◌}
use Rattle.cp_resolved.proofs.Words.{Identifier, SystemKind, CheckFault, ValueType, Meaning, ArrayShape, no_use, both_uses, agree, Judged, both, ◌>>=◌, Context, Operand}
use Rattle.cp_resolved.proofs.Words.{Named, Name, find, last_field, is_call_meant, Here, Tokens, TypeIs, ScopesAgree, HasForm, AreSmallSelectors, AreEntry, IsBare}
use Rattle.cp_tree.specs.Syntax.{Expression, designator as name_with, Selectors, no_selectors, more_selectors, Selector, field, index}
use Rattle.cp_scope.specs.declared.types.ValueType.TheVariants as types
use Rattle.cp_scope.specs.declared.types.Meaning.TheVariants as meaning
use Rattle.cp_scope.specs.Scopes.{Scopes, look, array_at, member_at}
use Rattle.cp_check.specs.declared.operand.DesignatedName as check_designated
use Rattle.cp_check.specs.declared.operand.Named.TheVariants as name
use Rattle.cp_check.specs.Names as names
use Rattle.cp_check.specs.Expressions.{expression, designator, selectors, selector, at_index}
use Rattle.cp_slots.specs.Code as code
use Rattle.cp_meaning.specs.Types as named
use Rattle.cp_meaning.specs.Scopes as scopes
use Rattle.cp_resolved.specs.Compiled.{Formed, Designated, a_variable, some_components, a_component, then_form, with_index_form, begun_form, expression_form, selected_form}
use Rattle.cp_resolved.proofs.forms.TypingNames.{IsPlainMeaning, IsComponentMeaning, Holds, written, NamedIs, HasDesignated, begun_typed, index_ordinal}
use Rattle.cp_resolved.proofs.forms.TypingExpressions.{expression_typed}
use Rattle.cp_resolved.proofs.agreeing.WithoutFaults.{ok_same}

-- ---- what has no type, after which nothing is selected

abbrev pub IsUntyped : Named → Type 0
IsUntyped (name.Variable v) = ⊥
IsUntyped (name.Parameter v) = ⊥
IsUntyped n = Unit {0}

untyped_type : (n : Named) → IsUntyped n → names.type_of n ≡ None
untyped_type (name.Variable v) h = absurd h
untyped_type (name.Parameter v) h = absurd h
untyped_type _ h = refl

abbrev pub IsNothing : Judged check_designated.DesignatedName → Type 0
IsNothing (Ok d) = d.named ≡ name.Nothing
IsNothing (Err fs) = Unit {0}

module _ (s : Scopes) (w : Context) where
  untyped_field : (i : Identifier) (d : check_designated.DesignatedName) (o : Option ValueType) → o ≡ None → IsNothing (names.member_by_type s i d o)
  untyped_field i d None e = refl
  untyped_field i d (Some v) e = absurd (cc)

  untyped_element : (d : check_designated.DesignatedName) (v : Operand) (o : Option ValueType) → o ≡ None → names.element_name_of s d v o ≡ name.Nothing
  untyped_element d v None e = refl
  untyped_element d v (Some y) e = absurd (cc)

  untyped_index : (d : check_designated.DesignatedName) (k : Judged Operand) → names.type_of d.named ≡ None → IsNothing (both (Ok d) k >>= at_index s)
  untyped_index d (Ok v) e = untyped_element d v (names.type_of d.named) e
  untyped_index d (Err fs) e = tt

  -- a selector after what has no type
  untyped_selected : (d : check_designated.DesignatedName) (c : Selector) → names.type_of d.named ≡ None → IsNothing (selector s w (Ok d) c)
  unfolding expression
  untyped_selected d (field i) e = untyped_field i d (names.type_of d.named) e
  untyped_selected d (index x) e = untyped_index d (expression s w false x) e

  failed_index : (fs : List CheckFault) (k : Judged Operand) → IsNothing (both (Err fs) k >>= at_index s)
  failed_index fs (Ok v) = tt
  failed_index fs (Err gs) = tt

  failed_selected : (fs : List CheckFault) (c : Selector) → IsNothing (selector s w (Err fs) c)
  unfolding expression
  failed_selected fs (field i) = tt
  failed_selected fs (index x) = failed_index fs (expression s w false x)

  nothing_selected : (j : Judged check_designated.DesignatedName) (c : Selector) → IsNothing j → IsNothing (selector s w j c)
  nothing_selected (Ok d) c e = untyped_selected d c (ap names.type_of e)
  nothing_selected (Err fs) c e = failed_selected fs c

  pub nothing_stays : (ss : Selectors) (j : Judged check_designated.DesignatedName) → IsNothing j → IsNothing (selectors s w j ss)
  unfolding expression
  nothing_stays no_selectors j e = e
  nothing_stays (more_selectors c ss) j e = nothing_stays ss (selector s w j c) (nothing_selected j c e)

  -- what is known is not nothing
  pub nothing_known : (at : ℕ) (j : Judged check_designated.DesignatedName) (d : check_designated.DesignatedName) → IsNothing j → (j >>= names.check_selectors at) ≡ Ok d → ⊥
  nothing_known at (Ok c) d e k = go c.named e k
    where
      go : (n : Named) → n ≡ name.Nothing → names.check_selectors_of at c n ≡ Ok d → ⊥
      go name.Nothing i g = cc
      go (name.Variable v) i g = cc
      go (name.Parameter v) i g = cc
      go (name.Constant b) i g = cc
      go name.Kind i g = cc
      go (name.Routine n) i g = cc
      go (name.Entry n) i g = cc
      go (name.Predeclared q) i g = cc
  nothing_known at (Err fs) d e k = cc

  -- so what has no type has no selectors
  pub untyped_bare : (at : ℕ) (ss : Selectors) (c d : check_designated.DesignatedName) → IsUntyped c.named → (selectors s w (Ok c) ss >>= names.check_selectors at) ≡ Ok d → ss ≡ no_selectors
  unfolding expression
  untyped_bare at no_selectors c d h k = refl
  untyped_bare at (more_selectors x ss) c d h k = absurd (nothing_known at (selectors s w (selector s w (Ok c) x) ss) d (nothing_stays ss (selector s w (Ok c) x) (untyped_selected c x (untyped_type c.named h))) k)

  pub known_is : (at : ℕ) (c d : check_designated.DesignatedName) → names.check_selectors at c ≡ Ok d → c ≡ d
  known_is at c d k = go c.named k
    where
      go : (n : Named) → names.check_selectors_of at c n ≡ Ok d → c ≡ d
      go name.Nothing g = absurd (cc)
      go (name.Variable v) g = ok_same c d g
      go (name.Parameter v) g = ok_same c d g
      go (name.Constant b) g = ok_same c d g
      go name.Kind g = ok_same c d g
      go (name.Routine n) g = ok_same c d g
      go (name.Entry n) g = ok_same c d g
      go (name.Predeclared q) g = ok_same c d g

-- ---- names that are no variables

abbrev pub IsVariableMeaning : Option scopes.Meaning → Type 0
IsVariableMeaning (Some (scopes.local_variable t)) = Unit {0}
IsVariableMeaning (Some (scopes.permanent_variable t)) = Unit {0}
IsVariableMeaning o = ⊥

plain_variable : (m : Option scopes.Meaning) → IsPlainMeaning m → IsVariableMeaning m
plain_variable (Some (scopes.local_variable t)) h = tt
plain_variable (Some (scopes.permanent_variable t)) h = tt
plain_variable _ h = h

component_variable : (k : ℕ) (m : Option scopes.Meaning) → IsComponentMeaning k m → IsVariableMeaning m
component_variable k (Some (scopes.permanent_variable t)) h = tt
component_variable k _ h = absurd h

module _ (tokens : Tokens) (s : Scopes) (h : Here) (w : Context) (agrees : ScopesAgree tokens s h) where
  pub holds_variable : (m : Option scopes.Meaning) (x : Option Name) (v : ValueType) (o : Option Designated) → Holds (written tokens s h) m x v o → IsVariableMeaning m
  holds_variable m x v (Some (a_variable p t)) i = plain_variable m i.2
  holds_variable m x v (Some (some_components first q k)) i = component_variable k m i.1
  holds_variable m x v (Some (a_component c k)) i = component_variable k m i.1
  holds_variable m x v None i = absurd i

  other_untyped : (i : Name) (m : Option scopes.Meaning) (x : Option Name) (n : Named) (o : Option Designated) → (IsVariableMeaning m → ⊥) → NamedIs tokens s h i m x n o → IsUntyped n
  other_untyped i m x (name.Variable v) o other k = other (holds_variable m x v o k)
  other_untyped i m x (name.Parameter v) o other k = other (holds_variable m x v o k)
  other_untyped i m x _ o other k = tt

  bare_of : (i : Identifier) (ss : Selectors) (j : Judged check_designated.DesignatedName) (d : check_designated.DesignatedName) → names.meaning_of_name s i ≡ j → (IsVariableMeaning (find i.name h.scope) → ⊥) → (selectors s w j ss >>= names.check_selectors i.at) ≡ Ok d → ss ≡ no_selectors
  bare_of i ss (Ok c) d is other k =
      untyped_bare s w i.at ss c d
      (other_untyped i.name (find i.name h.scope) None c.named (begun_form h i.name (find i.name h.scope)) other (subst (λ j. HasDesignated tokens s h i.name (find i.name h.scope) None j (begun_form h i.name (find i.name h.scope))) is (begun_typed tokens s h agrees i)))
      k
  bare_of i ss (Err fs) d is other k = absurd (nothing_known s w i.at (selectors s w (Err fs) ss) d (nothing_stays s w ss (Err fs) tt) k)

  -- what stands for no variable has no selectors
  pub other_bare : (i : Identifier) (ss : Selectors) (d : check_designated.DesignatedName) → (IsVariableMeaning (find i.name h.scope) → ⊥) → designator s w (name_with i ss) ≡ Ok d → IsBare (name_with i ss)
  unfolding expression
  other_bare i ss d other k = subst (λ (cs : Selectors). IsBare (name_with i cs)) (sym (bare_of i ss (names.meaning_of_name s i) d refl other k)) tt

  -- ---- entries of components

  pub record EntryFound (ss : Selectors) (o : Option Designated) (r k : ℕ) : Type 0 where
    pub entry : AreEntry ss
    pub part : code.ComponentPlace
    pub name : Name
    pub last : last_field ss ≡ Some name
    pub formed : then_form o (selected_form h ss) ≡ Some (a_component part k)
    pub member : member_at (tokens.systems k) name s ≡ Some (Some (meaning.Routine r))

  last_after : (x : Expression) (ss : Selectors) → AreEntry ss → last_field (more_selectors (index x) ss) ≡ last_field ss
  last_after x no_selectors e = absurd e
  last_after x (more_selectors (field i) ss) e = refl
  last_after x (more_selectors (index y) ss) e = refl

  entry_type : (c d : check_designated.DesignatedName) (r : ℕ) (v : ValueType) → c ≡ d → d.named ≡ name.Entry r → names.type_of c.named ≡ Some v → ⊥
  entry_type c d r v same e t = (let bad : None ≡ Some v = sym (ap names.type_of (ap (λ (x : check_designated.DesignatedName). x.named) same ∙ e)) ∙ t in cc)

  -- of one component
  single_entry : (at : ℕ) (ss : Selectors) (c d : check_designated.DesignatedName) (part : code.ComponentPlace) (k r : ℕ) (kind : SystemKind) → names.type_of c.named ≡ Some (types.Component kind (tokens.systems k)) → d.named ≡ name.Entry r → (selectors s w (Ok c) ss >>= names.check_selectors at) ≡ Ok d → EntryFound ss (Some (a_component part k)) r k
  unfolding expression
  single_entry at no_selectors c d part k r kind t e g = absurd (entry_type c d r (types.Component kind (tokens.systems k)) (known_is s w at c d g) e t)
  single_entry at (more_selectors (index x) ss) c d part k r kind t e g = absurd (nothing_known s w at (selectors s w (both (Ok c) (expression s w false x) >>= at_index s) ss) d (nothing_stays s w ss (both (Ok c) (expression s w false x) >>= at_index s) (go (expression s w false x))) g)
    where
      element : (v : Operand) (o : Option ValueType) → o ≡ Some (types.Component kind (tokens.systems k)) → names.element_name_of s c v o ≡ name.Nothing
      element v (Some (types.Component j n)) i = refl
      element v (Some (types.Ordinal y)) i = absurd (cc)
      element v (Some types.Queue) i = absurd (cc)
      element v (Some (types.Set y)) i = absurd (cc)
      element v (Some (types.Array y)) i = absurd (cc)
      element v (Some (types.Record y)) i = absurd (cc)
      element v None i = absurd (cc)

      go : (j : Judged Operand) → IsNothing (both (Ok c) j >>= at_index s)
      go (Ok v) = element v (names.type_of c.named) t
      go (Err fs) = tt
  single_entry at (more_selectors (field i) ss) c d part k r kind t e g =
      found (member_at (tokens.systems k) i.name s) refl (subst (λ (o : Option ValueType). (selectors s w (names.member_by_type s i c o) ss >>= names.check_selectors at) ≡ Ok d) t g)
    where
      after : (n : ℕ) (ts : Selectors) → member_at (tokens.systems k) i.name s ≡ Some (Some (meaning.Routine n)) → ts ≡ no_selectors → (selectors s w (Ok (names.designation i.at c.uses (name.Entry n))) ts >>= names.check_selectors at) ≡ Ok d → EntryFound (more_selectors (field i) ts) (Some (a_component part k)) r k
      after n no_selectors m none y =
          let same : names.designation i.at c.uses (name.Entry n) ≡ d = known_is s w at (names.designation i.at c.uses (name.Entry n)) d y in
          let one : name.Entry n ≡ name.Entry r = ap (λ (z : check_designated.DesignatedName). z.named) same ∙ e in
          let number : n ≡ r = cc in
          record { entry = tt; part = part; name = i.name; last = refl; formed = refl; member = m ∙ ap (λ z. Some (Some (meaning.Routine z))) number }
      after n (more_selectors x ts) m none y = absurd (cc)

      bad : {A : Type 0} (fs : List CheckFault) → (selectors s w (Err fs) ss >>= names.check_selectors at) ≡ Ok d → A
      bad fs y = absurd (nothing_known s w at (selectors s w (Err fs) ss) d (nothing_stays s w ss (Err fs) tt) y)

      found : (o : Option (Option Meaning)) → member_at (tokens.systems k) i.name s ≡ o → (selectors s w (names.with_entry i.at c o) ss >>= names.check_selectors at) ≡ Ok d → EntryFound (more_selectors (field i) ss) (Some (a_component part k)) r k
      found (Some (Some (meaning.Routine n))) m y = after n ss m (untyped_bare s w at ss (names.designation i.at c.uses (name.Entry n)) d tt y) y
      found _ m y = bad _ y

  part_type : (n : Named) (v u : ValueType) → names.type_of n ≡ Some v → names.type_of (names.part_of n u) ≡ Some u
  part_type (name.Variable y) v u e = refl
  part_type (name.Parameter y) v u e = refl
  part_type x v u e = absurd (cc)

  -- of one of an array
  many_entry : (at : ℕ) (ss : Selectors) (c d : check_designated.DesignatedName) (first : ℕ) (q : named.Range) (k r : ℕ) (v : ValueType) → AreSmallSelectors ss → names.type_of c.named ≡ Some v → TypeIs (written tokens s h) (named.array_over q (named.component_of k)) v → d.named ≡ name.Entry r → (selectors s w (Ok c) ss >>= names.check_selectors at) ≡ Ok d → EntryFound ss (Some (some_components first q k)) r k
  unfolding expression
  many_entry at no_selectors c d first q k r v small t a e g = absurd (entry_type c d r v (known_is s w at c d g) e t)
  many_entry at (more_selectors (field i) ss) c d first q k r v small t a e g =
      absurd (nothing_known s w at (selectors s w (names.member_of s i c) ss) d (nothing_stays s w ss (names.member_of s i c) (go (names.type_of c.named) (t ∙ ap (λ (y : ValueType). Some y) a.is))) g)
    where
      go : (o : Option ValueType) → o ≡ Some (types.Array a.token) → IsNothing (names.member_by_type s i c o)
      go (Some (types.Array n)) z = refl
      go (Some (types.Ordinal y)) z = absurd (cc)
      go (Some types.Queue) z = absurd (cc)
      go (Some (types.Set y)) z = absurd (cc)
      go (Some (types.Component j n)) z = absurd (cc)
      go (Some (types.Record y)) z = absurd (cc)
      go None z = absurd (cc)
  many_entry at (more_selectors (index x) ss) c d first q k r v small t a e g = judged (expression s w false x) refl g
    where
      typed : Option ValueType → Operand → check_designated.DesignatedName
      typed o y = names.designation c.name_at (both_uses c.uses y.uses) (names.element_name_of s c y o)

      chosen : (y : Operand) (b : Bool) → agree (types.Ordinal a.shape.index) y.value_type ≡ b → HasForm (written tokens s h) (Ok y) (expression_form h x) → (selectors s w (Ok (names.designation c.name_at (both_uses c.uses y.uses) (if b then names.part_of c.named a.shape.element else name.Nothing))) ss >>= names.check_selectors at) ≡ Ok d →
          EntryFound (more_selectors (index x) ss) (Some (some_components first q k)) r k
      chosen y true i f z =
          let o = index_ordinal tokens s h agrees [] None a.shape.index y.value_type (expression_form h x) i f in
          let part : code.ComponentPlace = code.element first q.low q.high (h.layouts.systems k).count o.1 in
          let one : EntryFound ss (Some (a_component part k)) r k =
          single_entry at ss (names.designation c.name_at (both_uses c.uses y.uses) (names.part_of c.named a.shape.element)) d part k r a.belongs.kind (part_type c.named v a.shape.element t ∙ ap (λ (u : ValueType). Some u) a.belongs.is) e z in
          record {
            entry = one.entry;
            part = one.part;
            name = one.name;
            last = last_after x ss one.entry ∙ one.last;
            formed = ap (λ (p : Option Formed). then_form (then_form p (with_index_form h (some_components first q k))) (selected_form h ss)) o.2 ∙ one.formed;
            member = one.member;
          }
      chosen y false i f z = absurd (nothing_known s w at (selectors s w (Ok (names.designation c.name_at (both_uses c.uses y.uses) name.Nothing)) ss) d (nothing_stays s w ss (Ok (names.designation c.name_at (both_uses c.uses y.uses) name.Nothing)) refl) z)

      judged : (j : Judged Operand) → expression s w false x ≡ j → (selectors s w (both (Ok c) j >>= at_index s) ss >>= names.check_selectors at) ≡ Ok d → EntryFound (more_selectors (index x) ss) (Some (some_components first q k)) r k
      judged (Ok y) is z =
          let there : array_at a.token s ≡ Some a.shape = a.there in
          let f : HasForm (written tokens s h) (Ok y) (expression_form h x) = subst (λ (j : Judged Operand). HasForm (written tokens s h) j (expression_form h x)) is (expression_typed tokens s h w agrees x small.0) in
          chosen y (agree (types.Ordinal a.shape.index) y.value_type) refl f
          (subst (λ (o : Option ArrayShape). (selectors s w (Ok (names.designation c.name_at (both_uses c.uses y.uses) (names.element_of c y o))) ss >>= names.check_selectors at) ≡ Ok d) there
          (subst (λ (o : Option ValueType). (selectors s w (Ok (typed o y)) ss >>= names.check_selectors at) ≡ Ok d) (t ∙ ap (λ (u : ValueType). Some u) a.is) z))
      judged (Err fs) is z = absurd (nothing_known s w at (selectors s w (Err fs) ss) d (nothing_stays s w ss (Err fs) tt) z)

  -- ---- a designator that is an entry

  begun_entry : (i : Identifier) (c : check_designated.DesignatedName) (r : ℕ) → names.meaning_of_name s i ≡ Ok c → c.named ≡ name.Entry r → ⊥
  unfolding names.meaning_of_name names.visible
  begun_entry i c r is e = go (look i.name s) is
    where
      no_entry : (m : Meaning) → names.without_selectors m ≡ name.Entry r → ⊥
      no_entry (meaning.Constant b z) g = cc
      no_entry (meaning.Kind v) g = cc
      no_entry (meaning.Variable v) g = cc
      no_entry (meaning.Parameter v) g = cc
      no_entry (meaning.Reference v) g = cc
      no_entry (meaning.Routine n) g = cc
      no_entry (meaning.Predeclared q) g = cc

      go : (o : Option (Option Meaning)) → (names.check_visible i.at o >>= names.designation_of i.at) ≡ Ok c → ⊥
      go (Some (Some m)) k = no_entry m (ap (λ (d : check_designated.DesignatedName). d.named) (ok_same (names.designation i.at no_use (names.without_selectors m)) c k) ∙ e)
      go x k = cc

  bare_entry : (i : Identifier) (c d : check_designated.DesignatedName) (r : ℕ) → names.meaning_of_name s i ≡ Ok c → d.named ≡ name.Entry r → (selectors s w (Ok c) no_selectors >>= names.check_selectors i.at) ≡ Ok d → ⊥
  unfolding expression
  bare_entry i c d r b e g = begun_entry i c r b (ap (λ (x : check_designated.DesignatedName). x.named) (known_is s w i.at c d g) ∙ e)

  untyped_entry : (i : Identifier) (ss : Selectors) (c d : check_designated.DesignatedName) (r : ℕ) → names.meaning_of_name s i ≡ Ok c → IsUntyped c.named → d.named ≡ name.Entry r → (selectors s w (Ok c) ss >>= names.check_selectors i.at) ≡ Ok d → ⊥
  untyped_entry i ss c d r b n e g =
      let none : ss ≡ no_selectors = untyped_bare s w i.at ss c d n g in
      bare_entry i c d r b e (subst (λ (cs : Selectors). (selectors s w (Ok c) cs >>= names.check_selectors i.at) ≡ Ok d) none g)

  pub record EntryUsed (i : Identifier) (ss : Selectors) (r : ℕ) : Type 0 where
    pub system : ℕ
    pub of : IsComponentMeaning system (find i.name h.scope)
    pub found : EntryFound ss (begun_form h i.name (find i.name h.scope)) r system

  plain_call : (m : Option scopes.Meaning) (x : Option Name) → IsPlainMeaning m → is_call_meant m x ≡ true → ⊥
  plain_call (Some (scopes.local_variable t)) x p e = cc
  plain_call (Some (scopes.permanent_variable t)) None p e = cc
  plain_call (Some (scopes.permanent_variable t)) (Some y) p e = (let bad : false ≡ true = sym p ∙ e in cc)
  plain_call _ x p e = p

  held_entry : (i : Identifier) (ss : Selectors) (c d : check_designated.DesignatedName) (r : ℕ) (v : ValueType) (o : Option Designated) → begun_form h i.name (find i.name h.scope) ≡ o → AreSmallSelectors ss → names.type_of c.named ≡ Some v → Holds (written tokens s h) (find i.name h.scope) None v o → is_call_meant (find i.name h.scope) (last_field ss) ≡ true →
      d.named ≡ name.Entry r → (selectors s w (Ok c) ss >>= names.check_selectors i.at) ≡ Ok d → EntryUsed i ss r
  held_entry i ss c d r v (Some (a_variable p t)) is small y k call e g = absurd (plain_call (find i.name h.scope) (last_field ss) k.2 call)
  held_entry i ss c d r v (Some (some_components first q n)) is small y k call e g =
      record { system = n; of = k.1; found = subst (λ (o : Option Designated). EntryFound ss o r n) (sym is) (many_entry i.at ss c d first q n r v small y k.0 e g) }
  held_entry i ss c d r v (Some (a_component part n)) is small y k call e g =
      record { system = n; of = k.1; found = subst (λ (o : Option Designated). EntryFound ss o r n) (sym is) (single_entry i.at ss c d part n r k.0.kind (y ∙ ap (λ (u : ValueType). Some u) k.0.is) e g) }
  held_entry i ss c d r v None is small y k call e g = absurd k

  named_entry : (i : Identifier) (ss : Selectors) (c d : check_designated.DesignatedName) (r : ℕ) (n : Named) → c.named ≡ n → names.meaning_of_name s i ≡ Ok c → AreSmallSelectors ss → NamedIs tokens s h i.name (find i.name h.scope) None n (begun_form h i.name (find i.name h.scope)) → is_call_meant (find i.name h.scope) (last_field ss) ≡ true →
      d.named ≡ name.Entry r → (selectors s w (Ok c) ss >>= names.check_selectors i.at) ≡ Ok d → EntryUsed i ss r
  named_entry i ss c d r (name.Variable v) is b small k call e g = held_entry i ss c d r v (begun_form h i.name (find i.name h.scope)) refl small (ap names.type_of is) k call e g
  named_entry i ss c d r (name.Parameter v) is b small k call e g = held_entry i ss c d r v (begun_form h i.name (find i.name h.scope)) refl small (ap names.type_of is) k call e g
  named_entry i ss c d r (name.Entry n) is b small k call e g = absurd (begun_entry i c n b is)
  named_entry i ss c d r _ is b small k call e g = absurd (untyped_entry i ss c d r b (subst IsUntyped (sym is) tt) e g)

  begun_is : (i : Identifier) (ss : Selectors) (j : Judged check_designated.DesignatedName) (d : check_designated.DesignatedName) (r : ℕ) → names.meaning_of_name s i ≡ j → AreSmallSelectors ss → is_call_meant (find i.name h.scope) (last_field ss) ≡ true → d.named ≡ name.Entry r → (selectors s w j ss >>= names.check_selectors i.at) ≡ Ok d → EntryUsed i ss r
  begun_is i ss (Ok c) d r is small call e g =
      named_entry i ss c d r c.named refl is small (subst (λ (j : Judged check_designated.DesignatedName). HasDesignated tokens s h i.name (find i.name h.scope) None j (begun_form h i.name (find i.name h.scope))) is (begun_typed tokens s h agrees i)) call e g
  begun_is i ss (Err fs) d r is small call e g = absurd (nothing_known s w i.at (selectors s w (Err fs) ss) d (nothing_stays s w ss (Err fs) tt) g)

  pub entry_used : (i : Identifier) (ss : Selectors) (d : check_designated.DesignatedName) (r : ℕ) → AreSmallSelectors ss → is_call_meant (find i.name h.scope) (last_field ss) ≡ true → d.named ≡ name.Entry r → designator s w (name_with i ss) ≡ Ok d → EntryUsed i ss r
  unfolding expression
  entry_used i ss d r small call e g = begun_is i ss (names.meaning_of_name s i) d r refl small call e g
