-- What is called by the name of a component, in statements that break no rule, is an entry of its system type, and no process has one.
use Rattle.cp_resolved.proofs.Words.{◌≡◌, ℕ, Bool, true, false, Option, Some, None, refl, sym, subst, ◌∙◌, Identifier, IsRead, ValueType, Predeclared, Scopes}
use Rattle.cp_resolved.proofs.Words.{heading_at, Context, Named, IsAccepted, Name, Ty, routine_meant, routine_of_type, routine_of_system, is_call_meant}
use Rattle.cp_resolved.proofs.Words.{last_field, system_of, tokens_of, Layouts, Here, is_own}
use Rattle.cp_tree.specs.declared.declaration.SystemKind.TheVariants as system_kind
use Rattle.cp_tree.specs.Syntax.{Designator, designator as name_with, Selectors, no_selectors, Program, Tree}
use Rattle.cp_check.specs.declared.operand.Named.TheVariants as name
use Rattle.cp_slots.specs.Code as code
use Rattle.cp_meaning.specs.Types as named
use Rattle.cp_meaning.specs.Scopes.{Meaning, local_variable, permanent_variable, routine_meaning, Scope, find}
use Rattle.cp_resolved.specs.Compiled.{Designated, a_component, result_begun, begun_form, designator_form}
use Rattle.cp_resolved.specs.Typed.{Tokens, Written, HeadingIs, ConstantIs, StandardIs, ScopesAgree}
use Rattle.cp_resolved.proofs.statements.CalleesKnown.{numbered, routine_entry}
use Rattle.cp_resolved.proofs.statements.CallsJudged.{IsValue, CalledAs}
use Rattle.cp_resolved.proofs.statements.ExpressionsJudged.{FunctionSaid}
use Rattle.cp_resolved.proofs.statements.StatementsJudged.{IsInvoked, InvokedAs, InvokeSaid}
use Rattle.cp_resolved.proofs.Words.{Ok, designator, AreSmallSelectors}
use Rattle.cp_check.specs.declared.operand.DesignatedName as check_designated
use Rattle.cp_resolved.proofs.forms.FormedTargets.{no_selector, only, routine_no_variable}
use Rattle.cp_resolved.proofs.forms.UsedNames.{IsVariableMeaning, other_bare, EntryUsed, entry_used}
use Rattle.cp_resolved.proofs.forms.TypingExpressions.{designator_named}
use Rattle.cp_resolved.proofs.forms.TypingNames.{OfSystem, IsComponentMeaning, Holds, written, IsCalled, NamedIs}
use Rattle.cp_resolved.proofs.forms.TypingValues.{IsValue as IsPlainValue, held_value}

module _ (t : Tree) (read : IsRead t.program) (accepted : IsAccepted t) (s : Scopes) (w : Context) (l : Layouts) (system routine : ℕ) (scope : Scope) where
  abbrev p : Program
  p = t.program

  abbrev tokens : Tokens
  tokens = tokens_of t.program

  abbrev h : Here
  h = record { program = t.program; layouts = l; system = system; routine = routine; scope = scope }

  abbrev W : Written
  W = written tokens s h

  -- a process
  module _ (c : ℕ) (process : (system_of t.program c).kind ≡ system_kind.Process) where
    system_refused : (k : ℕ) (y : Name) (m : Option Meaning) → find y (system_of p c).scope ≡ m → HeadingIs W (heading_at k s) (routine_of_system y m (system_of p c).scope) → (heading_at k s).is_entry ≡ true → ⊥
    system_refused k y (Some (routine_meaning q)) e i entry = (numbered t read accepted c).closed process y q e (sym (routine_entry y (system_of p c).scope q e) ∙ (sym i.2 ∙ entry))
    system_refused k y _ e i entry = absurd i

    own_refused : (k n : ℕ) (y : Name) → n ≡ c → HeadingIs W (heading_at k s) (routine_of_type p (named.component_of n) y) → (heading_at k s).is_entry ≡ true → ⊥
    own_refused k n y same i entry = system_refused k y (find y (system_of p c).scope) refl (subst (λ (j : ℕ). HeadingIs W (heading_at k s) (routine_of_type p (named.component_of j) y)) same i) entry

    type_refused : (k : ℕ) (u : Ty) (y : Name) → OfSystem c u → HeadingIs W (heading_at k s) (routine_of_type p u y) → (heading_at k s).is_entry ≡ true → ⊥
    type_refused k (named.component_of n) y of i entry = own_refused k n y of i entry
    type_refused k (named.array_over r (named.component_of n)) y of i entry = own_refused k n y of i entry
    type_refused k _ y of i entry = of

    entry_refused : (k : ℕ) (y : Name) (m : Option Meaning) (x : Option Name) → IsComponentMeaning c m → HeadingIs W (heading_at k s) (routine_meant p scope y m x) → (heading_at k s).is_entry ≡ true → ⊥
    entry_refused k y (Some (permanent_variable u)) (Some z) of i entry = type_refused k u z of i entry
    entry_refused k y (Some (permanent_variable u)) None of i entry = i
    entry_refused k y _ x of i entry = of

    module _ (agrees : ScopesAgree tokens s h) where
      constant_other : (b : _) (z : _) (m : Option Meaning) → ConstantIs tokens b z m → IsVariableMeaning m → ⊥
      constant_other b z (Some (permanent_variable u)) k v = k
      constant_other b z (Some (local_variable u)) k v = k
      constant_other b z _ k v = v

      standard_other : (q : Predeclared) (m : Option Meaning) → StandardIs q m → IsVariableMeaning m → ⊥
      standard_other q (Some (permanent_variable u)) k v = k
      standard_other q (Some (local_variable u)) k v = k
      standard_other q _ k v = v

      -- what stands for no variable is no component
      begun_other : (m : Option Meaning) (x : Name) (part : code.ComponentPlace) → (IsVariableMeaning m → ⊥) → begun_form h x m ≡ Some (a_component part c) → ⊥
      begun_other (Some (permanent_variable u)) x part other e = other tt
      begun_other (Some (local_variable u)) x part other e = other tt
      begun_other (Some (routine_meaning r)) x part other e = go (is_own h x) e
        where
          go : (b : Bool) → result_begun h b ≡ Some (a_component part c) → ⊥
          go true g = cc
          go false g = cc
      begun_other _ x part other e = let bad : None ≡ Some (a_component part c) = e in cc

      other_refused : (i : Identifier) (ss : Selectors) (d : check_designated.DesignatedName) (part : code.ComponentPlace) → designator s w (name_with i ss) ≡ Ok d → (IsVariableMeaning (find i.name scope) → ⊥) → designator_form h (name_with i ss) ≡ Some (a_component part c) → ⊥
      other_refused i ss d part is other e =
          let bare : ss ≡ no_selectors = no_selector tokens s h w agrees i ss (other_bare tokens s h w agrees i ss d other is) in
          begun_other (find i.name scope) i.name part other (only tokens s h w agrees (begun_form h i.name (find i.name scope)) ∙ subst (λ (cs : Selectors). designator_form h (name_with i cs) ≡ Some (a_component part c)) bare e)

      entry_of_process : (i : Identifier) (ss : Selectors) (d : check_designated.DesignatedName) (part : code.ComponentPlace) (k : ℕ) → AreSmallSelectors ss → designator s w (name_with i ss) ≡ Ok d → d.named ≡ name.Entry k → IsCalled tokens s h k i.name (find i.name scope) (last_field ss) → (heading_at k s).is_entry ≡ true → designator_form h (name_with i ss) ≡ Some (a_component part c) → ⊥
      entry_of_process i ss d part k small is same x entry e =
          let u : EntryUsed tokens s h w agrees i ss k = entry_used tokens s h w agrees i ss d k small x.is same is in
          let both : Some (a_component u.found.part u.system) ≡ Some (a_component part c) = sym u.found.formed ∙ e in
          let system : u.system ≡ c = cc in
          entry_refused k i.name (find i.name scope) (last_field ss) (subst (λ (j : ℕ). IsComponentMeaning j (find i.name scope)) system u.of) x.heading entry

      uncalled : (m : Option Meaning) (x : Option Name) (v : ValueType) (o : Option Designated) → Holds W m x v o → is_call_meant m x ≡ true → ⊥
      uncalled m x v o i call = (let k : IsPlainValue tokens s h w m x = held_value tokens s h w m x v o i in let bad : true ≡ false = sym call ∙ k.call in cc)

      function_refused : (f : Bool) (i : Identifier) (ss : Selectors) (d : check_designated.DesignatedName) (part : code.ComponentPlace) (n : Named) (o : Option Designated) → AreSmallSelectors ss → designator s w (name_with i ss) ≡ Ok d → d.named ≡ n → NamedIs tokens s h i.name (find i.name scope) (last_field ss) n o → IsValue s w f n → CalledAs s w f n →
          is_call_meant (find i.name scope) (last_field ss) ≡ true → designator_form h (name_with i ss) ≡ Some (a_component part c) → ⊥
      function_refused f i ss d part (name.Entry k) o small is same x v entry call e = entry_of_process i ss d part k small is same x entry e
      function_refused f i ss d part (name.Routine k) o small is same x v own call e = other_refused i ss d part is (routine_no_variable tokens s h w agrees i.name k (find i.name scope) x) e
      function_refused f i ss d part (name.Variable u) o small is same x v a call e = uncalled (find i.name scope) (last_field ss) u o x call
      function_refused f i ss d part (name.Parameter u) o small is same x v a call e = uncalled (find i.name scope) (last_field ss) u o x call
      function_refused f i ss d part (name.Constant b) o small is same x v a call e = other_refused i ss d part is (constant_other b x.0 (find i.name scope) x.1) e
      function_refused f i ss d part (name.Predeclared q) o small is same x v a call e = other_refused i ss d part is (standard_other q (find i.name scope) x) e
      function_refused f i ss d part _ o small is same x v a call e = v

      procedure_refused : (f : Bool) (i : Identifier) (ss : Selectors) (d : check_designated.DesignatedName) (part : code.ComponentPlace) (n : Named) (o : Option Designated) → AreSmallSelectors ss → designator s w (name_with i ss) ≡ Ok d → d.named ≡ n → NamedIs tokens s h i.name (find i.name scope) (last_field ss) n o → IsInvoked s w f scope n → InvokedAs s w f scope n →
          designator_form h (name_with i ss) ≡ Some (a_component part c) → ⊥
      procedure_refused f i ss d part (name.Entry k) o small is same x v entry e = entry_of_process i ss d part k small is same x entry e
      procedure_refused f i ss d part (name.Routine k) o small is same x v own e = other_refused i ss d part is (routine_no_variable tokens s h w agrees i.name k (find i.name scope) x) e
      procedure_refused f i ss d part (name.Predeclared q) o small is same x v a e = other_refused i ss d part is (standard_other q (find i.name scope) x) e
      procedure_refused f i ss d part _ o small is same x v a e = v

      pub no_function : (f : Bool) (d : Designator) (part : code.ComponentPlace) → FunctionSaid s w f scope d → designator_form h d ≡ Some (a_component part c) → ⊥
      no_function f (name_with i ss) part x e = function_refused f i ss x.value part x.value.named (designator_form h (name_with i ss)) x.small x.is refl (designator_named tokens s h w agrees i ss x.value x.small x.is) x.kind x.called x.call e

      pub no_procedure : (f : Bool) (d : Designator) (part : code.ComponentPlace) → InvokeSaid s w f scope d → designator_form h d ≡ Some (a_component part c) → ⊥
      no_procedure f (name_with i ss) part x e = procedure_refused f i ss x.value part x.value.named (designator_form h (name_with i ss)) x.small x.is refl (designator_named tokens s h w agrees i ss x.value x.small x.is) x.kind x.invoked e
