-- Each call in the statements of a number is one of a routine of some number; who may wait there, and where `continue` stands.
use Rattle.std.proofs.Common.{◌≡◌, ℕ, Bool, true, false, ◌&&◌, ◌⊎◌, inl, inr, Option, Some, None, Ok, is_some, refl, sym, ap, subst, ◌∙◌}
use Rattle.cp_resolved.proofs.Words.{not, SystemKind, Identifier, ValueType, Predeclared, Use, no_use, Judged, Context, Named, expression, designator, IsAccepted}
use Rattle.cp_resolved.proofs.Words.{statements_loud, Name, Ty, has_components, RoutineMeaning, routine_in, last_field, is_call_meant, system_of, Designated}
use Rattle.cp_resolved.proofs.Words.{designator_form, IsOwn, tokens_of, Here, meaning_at, IsRead, layouts_of, find, since, routine_meaning, standard_meaning}
use Rattle.cp_resolved.proofs.Words.{permanent_variable, delay_procedure, continue_procedure, name_of, routine_called, routine_meant, routine_of_system, routine_of_type}
use Rattle.cp_tree.specs.declared.declaration.SystemKind.TheVariants as system_kind
use Rattle.cp_tree.specs.Syntax.{Program, Tree, Designator, designator as name_with, Selectors, no_selectors, more_selectors}
use Rattle.cp_scope.specs.declared.types.Base as check_base
use Rattle.cp_scope.specs.declared.types.Meaning.TheVariants as meaning
use Rattle.cp_scope.specs.declared.types.Predeclared.TheVariants as predeclared
use Rattle.cp_scope.specs.Scopes.{Scopes, Shape, as_body, body_of, look, heading_at, body_at}
use Rattle.cp_check.specs.declared.operand.DesignatedName as check_designated
use Rattle.cp_check.specs.declared.operand.Named.TheVariants as name
use Rattle.cp_check.specs.Calls as calls
use Rattle.cp_check.specs.Names as names
use Rattle.cp_check.specs.Statements.{statements, may_wait_in}
use Rattle.cp_resolved.proofs.Words.{Heard, HasResult, is_named, AllFormed, CallsFormed, all_calls_laid}
use Rattle.cp_meaning.specs.Types as named
use Rattle.cp_meaning.specs.Scopes as scopes
use Rattle.cp_resolved.specs.Typed.{Tokens, is_entry_in, IsOrdinalResult, ResultIs, HeadingIs, IsMarked, RoutineIs, StandardIs, predeclared_of, ConstantIs, ScopesAgree, AreSmallSelectors}
use Rattle.cp_resolved.proofs.statements.CalleesKnown.{At, at_number, numbered, routine_entry, CalleeKnown}
use Rattle.cp_resolved.proofs.statements.CallsJudged.{OwnCall, CalledAs, GivesResult, IsValue}
use Rattle.cp_resolved.proofs.statements.ExpressionsJudged.{FunctionSaid, AllSaid}
use Rattle.cp_resolved.proofs.forms.FormedStatements.{Right, right_of}
use Rattle.cp_resolved.proofs.forms.FormedTargets.{OwnRoutine, begun_routine, no_selector, routine_no_variable}
use Rattle.cp_resolved.proofs.forms.FormsOfTrees.{all_heard}
use Rattle.cp_resolved.proofs.forms.StatementsFit.{AllFine, all_formed}
use Rattle.cp_resolved.specs.FormedBodies.{IsFormedAt}
use Rattle.cp_resolved.proofs.statements.RoutinesNoted.{is_monitor, delays_in, entry_with, entry_at, waits_at, IsOwner, Done, Numbered}
use Rattle.cp_resolved.proofs.statements.StatementsJudged.{InvokedAs, IsInvoked, InvokeSaid, StatementsSaid}
use Rattle.cp_resolved.proofs.forms.TypingExpressions.{designator_named}
use Rattle.cp_resolved.proofs.forms.TypingNames.{IsComponentMeaning, written, IsCalled, NamedIs}
use Rattle.cp_resolved.proofs.forms.TypingValues.{IsValue as IsPlainValue, held_value}
use Rattle.cp_resolved.proofs.forms.UsedNames.{other_bare, EntryUsed, entry_used, known_is}
use Rattle.cp_resolved.proofs.agreeing.WithoutFaults.{Then, then_of}
use Rattle.cp_resolved.proofs.components.ComponentImages.{both as both_are}

-- ---- who waits

calm : (o : Option SystemKind) (q : Option ℕ) (d b : Bool) → (calls.is_initial o q ≡ true → b ≡ false) → (d ≡ false → b ≡ false) → (is_monitor o && (is_some q && d)) ≡ false → (is_monitor o && b) ≡ false
calm (Some system_kind.Monitor) None d b i c e = i refl
calm (Some system_kind.Monitor) (Some k) d b i c e = c e
calm _ q d b i c e = refl

delay_in : (s : Scopes) (o : Option SystemKind) (q : Option ℕ) (d : Bool) → may_wait_in s predeclared.Delay o q ≡ true → d ≡ true → (is_monitor o && (is_some q && d)) ≡ true
delay_in s (Some system_kind.Monitor) (Some k) d e f = f
delay_in s x y d e f = absurd (let bad : false ≡ true = e in cc)

-- an entry procedure
record Continues (s : Scopes) (q : Option ℕ) : Type 0 where
  routine : ℕ
  is : q ≡ Some routine
  may : ((heading_at routine s).is_entry && not (is_some (heading_at routine s).result)) ≡ true

continue_in : (s : Scopes) (o : Option SystemKind) (q : Option ℕ) → may_wait_in s predeclared.Continue o q ≡ true → Continues s q
continue_in s (Some system_kind.Monitor) (Some k) e = record { routine = k; is = refl; may = e }
continue_in s x y e = absurd (let bad : false ≡ true = e in cc)

none_of : (o : Option ValueType) → not (is_some o) ≡ true → o ≡ None
none_of None e = refl
none_of (Some v) e = absurd (let bad : false ≡ true = e in cc)

named_entry : (x : Option Name) (b : Bool) → (x ≡ None → ⊥) → b ≡ true → entry_with x b ≡ true
named_entry None b h e = absurd (h refl)
named_entry (Some y) b h e = e

-- ---- what is called

called_meant : (p : Program) (s : scopes.Scope) (i : Name) (m : Option scopes.Meaning) (x : Option Name) (r : RoutineMeaning) → routine_meant p s i m x ≡ Some r → is_call_meant m x ≡ true
called_meant p s i (Some (routine_meaning q)) x r e = refl
called_meant p s i (Some (permanent_variable t)) (Some y) r e = of_type t e
  where
    of_type : (t : Ty) → routine_of_type p t y ≡ Some r → has_components t ≡ true
    of_type (named.component_of k) f = refl
    of_type (named.array_over q (named.component_of k)) f = refl
    of_type (named.array_over q (named.ordinal z)) f = absurd (let bad : None ≡ Some r = f in cc)
    of_type (named.array_over q named.queue_type) f = absurd (let bad : None ≡ Some r = f in cc)
    of_type (named.array_over q (named.set_over z)) f = absurd (let bad : None ≡ Some r = f in cc)
    of_type (named.array_over q (named.array_over z u)) f = absurd (let bad : None ≡ Some r = f in cc)
    of_type (named.array_over q (named.record_with us)) f = absurd (let bad : None ≡ Some r = f in cc)
    of_type (named.ordinal q) f = absurd (let bad : None ≡ Some r = f in cc)
    of_type named.queue_type f = absurd (let bad : None ≡ Some r = f in cc)
    of_type (named.set_over q) f = absurd (let bad : None ≡ Some r = f in cc)
    of_type (named.record_with us) f = absurd (let bad : None ≡ Some r = f in cc)
called_meant p s i x y r e = absurd (let bad : None ≡ Some r = e in cc)

constant_uncalled : (tokens : Tokens) (b : check_base.Base) (z : _) (m : Option scopes.Meaning) (x : Option Name) → ConstantIs tokens b z m → is_call_meant m x ≡ false
constant_uncalled tokens b z (Some (scopes.constant_meaning c y)) x h = refl
constant_uncalled tokens b z _ x h = absurd h

standard_uncalled : (q : Predeclared) (m : Option scopes.Meaning) (x : Option Name) → StandardIs q m → is_call_meant m x ≡ false
standard_uncalled q (Some (standard_meaning g)) x h = refl
standard_uncalled q _ x h = absurd h

result_known : (tokens : Tokens) (v : Option ValueType) (r : RoutineMeaning) → (v ≡ None → ⊥) → ResultIs tokens v (Some r) → r.result ≡ None → ⊥
result_known tokens None r h i e = h refl
result_known tokens (Some v) r h i e = subst (IsOrdinalResult tokens v) e i

module _ (t : Tree) (read : IsRead t.program) (accepted : IsAccepted t) (n : ℕ) where
  abbrev p : Program
  p = t.program

  abbrev tokens : Tokens
  tokens = tokens_of t.program

  pub a : At t n
  a = at_number t read accepted n

  abbrev pub s : Scopes
  s = a.place.scopes

  abbrev pub w : Context
  w = a.place.context

  abbrev pub scope : scopes.Scope
  scope = a.opening.meaning.scope

  abbrev h : Here
  h = record { program = t.program; layouts = layouts_of t; system = (layouts_of t).owners n; routine = n; scope = a.opening.meaning.scope }

  agrees : ScopesAgree tokens s h
  agrees = a.agreed.scopes (layouts_of t) ((layouts_of t).owners n) n

  heard : Heard s
  heard = all_heard s a.agreed.known

  own : (k : ℕ) → w.routine ≡ Some k → OwnRoutine tokens s h w agrees k
  own k i =
      let o : IsOwn tokens a.place a.opening k = a.agreed.own k i in
      record {
        named = λ y e result. ap (is_named y) (a.named (subst (λ (m : RoutineMeaning). HasResult m.result) a.means result)) ∙ o.named y e;
        heading = subst (λ (m : RoutineMeaning). HeadingIs (written tokens s h) (heading_at k s) (Some m)) (sym a.means) o.heading;
      }

  pub judged : Right (statements s w (Ok no_use) a.opening.meaning.body)
  judged = right_of (statements s w (Ok no_use) a.opening.meaning.body) (statements_loud s w heard a.opening.meaning.body (Ok no_use) tt) a.agreed.sound

  -- whether the rules find a `delay` there
  abbrev pub f : Bool
  f = judged.value.delays

  fine : AllFine tokens s h w agrees heard own f a.opening.meaning.body
  fine = (let x = all_formed tokens s h w agrees heard own f a.opening.meaning.body a.small (Ok no_use) judged.value (λ e. e) judged.is in x.rest)

  pub said : StatementsSaid s w f scope a.opening.meaning.body
  said = fine.2

  pub calls_said : AllSaid s w f scope (all_calls_laid scope a.opening.meaning.body)
  calls_said = fine.1.1

  -- in the scope of its number
  pub formed_at : IsFormedAt t n
  formed_at =
      let there : RoutineMeaning → Here = (λ m. record h { scope = m.scope }) in
      record {
        formed = subst (λ (m : RoutineMeaning). AllFormed (there m) m.body) (sym a.means) fine.0;
        calls = subst (λ (m : RoutineMeaning). CallsFormed (there m) (all_calls_laid m.scope m.body)) (sym a.means) fine.1.0;
      }

  -- ---- a routine of the component itself

  visible_alone : (i : Identifier) (ss : Selectors) (c : check_designated.DesignatedName) (k : ℕ) → ss ≡ no_selectors → designator s w (name_with i ss) ≡ Ok c → c.named ≡ name.Routine k → look i.name s ≡ Some (Some (meaning.Routine k))
  unfolding expression
  visible_alone i no_selectors c k none is same =
      let z : Then (names.meaning_of_name s i) (names.check_selectors i.at) c = then_of (names.meaning_of_name s i) (names.check_selectors i.at) c is in
      let one : z.value ≡ c = known_is s w i.at z.value c z.rest in
      begun_routine tokens s h w agrees i z.value k z.is (ap (λ (d : check_designated.DesignatedName). d.named) one ∙ same)
  visible_alone i (more_selectors x ss) c k none is same = absurd (cc)

  waits_here : waits_at p n ≡ (is_monitor w.owner && (is_some w.routine && f))
  waits_here = a.waits ∙ ap (λ (j : Judged Use). is_monitor w.owner && (is_some w.routine && delays_in j)) judged.is

  own_known : (y : Name) (x : Option Name) (k : ℕ) (m : Option scopes.Meaning) (r : RoutineMeaning) → find y scope ≡ m → RoutineIs (written tokens s h) (heading_at k s) y scope m → IsMarked s.shapes (meaning.Routine k) m → OwnCall s w f k → routine_meant p scope y m x ≡ Some r → CalleeKnown p n m r
  own_known y x k (Some (routine_meaning q)) r e i marked own called = go (a.noted y q e)
    where
      meant : routine_in (since y scope) q ≡ r
      meant = cc

      no_entry : q.is_entry ≡ false
      no_entry = sym (routine_entry y scope q e) ∙ (sym i.2 ∙ own.entry)

      go : IsOwner p a.place a.opening (since y scope) q ⊎ Done p w.owner s.shapes (since y scope) q → CalleeKnown p n (Some (routine_meaning q)) r
      go (inl self) = absurd (own.other (self.0 ∙ ap (λ (z : ℕ). Some z) (sym marked.token)))
      go (inr d) =
          let body : body_at k s ≡ d.body = ap (λ (z : Option Shape). body_of z s.shapes) marked.there ∙ ap as_body d.there in
          record {
            number = d.number;
            same = sym meant ∙ sym d.means;
            called = (d.entry ∙ no_entry, λ quiet. d.waits ∙ calm w.owner w.routine f d.body.delays (λ z. ap (λ (u : Use). u.delays) (sym body) ∙ own.initial z) (λ z. ap (λ (u : Use). u.delays) (sym body) ∙ own.calm z) (sym waits_here ∙ quiet));
          }
  own_known y x k (Some (scopes.constant_meaning b z)) r e i marked own called = absurd i
  own_known y x k _ r e i marked own called = absurd i

  -- ---- a routine of another component

  record EntryKnown (r : RoutineMeaning) : Type 0 where
    number : ℕ
    same : r ≡ meaning_at p number
    entry : entry_at p number ≡ is_entry_in r.scope

  system_known : (y : Name) (k : ℕ) (m : Option scopes.Meaning) (r : RoutineMeaning) → find y (system_of p k).scope ≡ m → routine_of_system y m (system_of p k).scope ≡ Some r → EntryKnown r
  system_known y k (Some (routine_meaning q)) r e called =
      let d : Numbered p tokens (since y (system_of p k).scope) q = (numbered t read accepted k).routines y q e in
      let meant : routine_in (since y (system_of p k).scope) q ≡ r = cc in
      record { number = d.number; same = sym meant ∙ sym d.means; entry = d.entry ∙ (sym (routine_entry y (system_of p k).scope q e) ∙ ap (λ (z : RoutineMeaning). is_entry_in z.scope) meant) }
  system_known y k x r e called = absurd (let bad : None ≡ Some r = called in cc)

  type_known : (y : Name) (u : Ty) (r : RoutineMeaning) → routine_of_type p u y ≡ Some r → EntryKnown r
  type_known y (named.component_of k) r e = system_known y k (find y (system_of p k).scope) r refl e
  type_known y (named.array_over q (named.component_of k)) r e = system_known y k (find y (system_of p k).scope) r refl e
  type_known y x r e = absurd (let bad : None ≡ Some r = e in cc)

  entry_known : (y : Name) (x : Option Name) (k system : ℕ) (m : Option scopes.Meaning) (r : RoutineMeaning) → IsComponentMeaning system m → HeadingIs (written tokens s h) (heading_at k s) (routine_meant p scope y m x) → (heading_at k s).is_entry ≡ true → routine_meant p scope y m x ≡ Some r → CalleeKnown p n m r
  entry_known y (Some z) k system (Some (permanent_variable u)) r of heading entry e =
      let d : EntryKnown r = type_known z u r e in
      let i : HeadingIs (written tokens s h) (heading_at k s) (Some r) = subst (HeadingIs (written tokens s h) (heading_at k s)) e heading in
      record { number = d.number; same = d.same; called = d.entry ∙ (sym i.2 ∙ entry) }
  entry_known y None k system (Some (permanent_variable u)) r of heading entry e = absurd (let bad : None ≡ Some r = e in cc)
  entry_known y x k system (Some (routine_meaning q)) r of heading entry e = absurd of
  entry_known y x k system _ r of heading entry e = absurd of

  -- ---- functions and procedures

  own_callee : (i : Identifier) (ss : Selectors) (c : check_designated.DesignatedName) (k : ℕ) (r : RoutineMeaning) → designator s w (name_with i ss) ≡ Ok c → c.named ≡ name.Routine k → RoutineIs (written tokens s h) (heading_at k s) i.name scope (find i.name scope) → OwnCall s w f k → routine_called p scope (name_with i ss) ≡ Some r → CalleeKnown p n (find i.name scope) r
  own_callee i ss c k r is same x own e =
      let there : look i.name s ≡ Some (Some (meaning.Routine k)) = visible_alone i ss c k (no_selector tokens s h w agrees i ss (other_bare tokens s h w agrees i ss c (routine_no_variable tokens s h w agrees i.name k (find i.name scope) x) is)) is same in
      own_known i.name (last_field ss) k (find i.name scope) r refl x (a.agreed.written i.name k there) own e

  entry_callee : (i : Identifier) (ss : Selectors) (c : check_designated.DesignatedName) (k : ℕ) (r : RoutineMeaning) → AreSmallSelectors ss → designator s w (name_with i ss) ≡ Ok c → c.named ≡ name.Entry k → IsCalled tokens s h k i.name (find i.name scope) (last_field ss) → (heading_at k s).is_entry ≡ true → routine_called p scope (name_with i ss) ≡ Some r → CalleeKnown p n (find i.name scope) r
  entry_callee i ss c k r m is same x entry e =
      let u : EntryUsed tokens s h w agrees i ss k = entry_used tokens s h w agrees i ss c k m x.is same is in
      entry_known i.name (last_field ss) k u.system (find i.name scope) r u.of x.heading entry e

  own_heading : (k : ℕ) (y : Name) (x : Option Name) (m : Option scopes.Meaning) (r : RoutineMeaning) → RoutineIs (written tokens s h) (heading_at k s) y scope m → routine_meant p scope y m x ≡ Some r → HeadingIs (written tokens s h) (heading_at k s) (Some r)
  own_heading k y x (Some (routine_meaning q)) r i e = subst (HeadingIs (written tokens s h) (heading_at k s)) e i
  own_heading k y x _ r i e = absurd i

  not_called : (U : Type 0) (i : Identifier) (ss : Selectors) (r : RoutineMeaning) → routine_called p scope (name_with i ss) ≡ Some r → is_call_meant (find i.name scope) (last_field ss) ≡ false → U
  not_called U i ss r e g = absurd (let bad : true ≡ false = sym (called_meant p scope i.name (find i.name scope) (last_field ss) r e) ∙ g in cc)

  function_named : (i : Identifier) (ss : Selectors) (c : check_designated.DesignatedName) (m : Named) (o : Option Designated) (r : RoutineMeaning) → AreSmallSelectors ss → designator s w (name_with i ss) ≡ Ok c → c.named ≡ m → NamedIs tokens s h i.name (find i.name scope) (last_field ss) m o → IsValue s w f m → CalledAs s w f m → GivesResult s w f m → routine_called p scope (name_with i ss) ≡ Some r →
      CalleeKnown p n (find i.name scope) r × (r.result ≡ None → ⊥)
  function_named i ss c (name.Routine k) o r small is same x v own g e = (own_callee i ss c k r is same x own e, result_known tokens (heading_at k s).result r g (own_heading k i.name (last_field ss) (find i.name scope) r x e).0)
  function_named i ss c (name.Entry k) o r small is same x v entry g e =
      let i' : HeadingIs (written tokens s h) (heading_at k s) (Some r) = subst (HeadingIs (written tokens s h) (heading_at k s)) e x.heading in
      (entry_callee i ss c k r small is same x entry e, result_known tokens (heading_at k s).result r g i'.0)
  function_named i ss c (name.Variable u) o r small is same x v d g e = (let z : IsPlainValue tokens s h w (find i.name scope) (last_field ss) = held_value tokens s h w (find i.name scope) (last_field ss) u o x in not_called _ i ss r e z.call)
  function_named i ss c (name.Parameter u) o r small is same x v d g e = (let z : IsPlainValue tokens s h w (find i.name scope) (last_field ss) = held_value tokens s h w (find i.name scope) (last_field ss) u o x in not_called _ i ss r e z.call)
  function_named i ss c (name.Constant b) o r small is same x v d g e = not_called _ i ss r e (constant_uncalled tokens b x.0 (find i.name scope) (last_field ss) x.1)
  function_named i ss c (name.Predeclared q) o r small is same x v d g e = not_called _ i ss r e (standard_uncalled q (find i.name scope) (last_field ss) x)
  function_named i ss c _ o r small is same x v d g e = absurd v

  pub function_callee : (d : Designator) (r : RoutineMeaning) → FunctionSaid s w f scope d → routine_called p scope d ≡ Some r → CalleeKnown p n (find (name_of d) scope) r × (r.result ≡ None → ⊥)
  function_callee (name_with i ss) r x e = function_named i ss x.value x.value.named (designator_form h (name_with i ss)) r x.small x.is refl (designator_named tokens s h w agrees i ss x.value x.small x.is) x.kind x.called x.result e

  procedure_named : (i : Identifier) (ss : Selectors) (c : check_designated.DesignatedName) (m : Named) (o : Option Designated) (r : RoutineMeaning) → AreSmallSelectors ss → designator s w (name_with i ss) ≡ Ok c → c.named ≡ m → NamedIs tokens s h i.name (find i.name scope) (last_field ss) m o → IsInvoked s w f scope m → InvokedAs s w f scope m → routine_called p scope (name_with i ss) ≡ Some r → CalleeKnown p n (find i.name scope) r
  procedure_named i ss c (name.Routine k) o r small is same x v own e = own_callee i ss c k r is same x own e
  procedure_named i ss c (name.Entry k) o r small is same x v entry e = entry_callee i ss c k r small is same x entry e
  procedure_named i ss c (name.Predeclared q) o r small is same x v d e = not_called _ i ss r e (standard_uncalled q (find i.name scope) (last_field ss) x)
  procedure_named i ss c _ o r small is same x v d e = absurd v

  pub procedure_callee : (d : Designator) (r : RoutineMeaning) → InvokeSaid s w f scope d → routine_called p scope d ≡ Some r → CalleeKnown p n (find (name_of d) scope) r
  procedure_callee (name_with i ss) r x e = procedure_named i ss x.value x.value.named (designator_form h (name_with i ss)) r x.small x.is refl (designator_named tokens s h w agrees i ss x.value x.small x.is) x.kind x.invoked e

  -- ---- `delay` and `continue`

  -- what is invoked by the name of a standard procedure
  standard_named : (i : Identifier) (x : Option Name) (q : scopes.Standard) (m : Named) (o : Option Designated) → find i.name scope ≡ Some (standard_meaning q) → NamedIs tokens s h i.name (find i.name scope) x m o → IsInvoked s w f scope m → InvokedAs s w f scope m → InvokedAs s w f scope (name.Predeclared (predeclared_of q))
  standard_named i x q (name.Predeclared g) o e k v d = subst (λ (z : Predeclared). InvokedAs s w f scope (name.Predeclared z)) (sym (subst (StandardIs g) e k)) d
  standard_named i x q (name.Routine l) o e k v d = absurd (subst (RoutineIs (written tokens s h) (heading_at l s) i.name scope) e k)
  standard_named i x q (name.Entry l) o e k v d = absurd (let bad : false ≡ true = ap (λ (z : Option scopes.Meaning). is_call_meant z x) (sym e) ∙ k.is in cc)
  standard_named i x q _ o e k v d = absurd v

  standard_invoked : (d : Designator) (q : scopes.Standard) → InvokeSaid s w f scope d → find (name_of d) scope ≡ Some (standard_meaning q) → InvokedAs s w f scope (name.Predeclared (predeclared_of q))
  standard_invoked (name_with i ss) q x e = standard_named i (last_field ss) q x.value.named (designator_form h (name_with i ss)) e (designator_named tokens s h w agrees i ss x.value x.small x.is) x.kind x.invoked

  -- somebody may wait where `delay` stands
  pub delay_waits : (d : Designator) → InvokeSaid s w f scope d → find (name_of d) scope ≡ Some (standard_meaning delay_procedure) → waits_at p n ≡ true
  delay_waits d x e =
      let k = standard_invoked d delay_procedure x e in
      waits_here ∙ delay_in s w.owner w.routine f k.0 k.1

  -- `continue` stands in an entry procedure
  pub continue_entry : (d : Designator) → InvokeSaid s w f scope d → find (name_of d) scope ≡ Some (standard_meaning continue_procedure) → (entry_at p n ≡ true) × (a.opening.meaning.result ≡ None)
  continue_entry d x e =
      let c : Continues s w.routine = continue_in s w.owner w.routine (standard_invoked d continue_procedure x e) in
      let own : IsOwn tokens a.place a.opening c.routine = a.agreed.own c.routine c.is in
      let both = both_are (heading_at c.routine s).is_entry (not (is_some (heading_at c.routine s).result)) c.may in
      let none : (heading_at c.routine s).result ≡ None = none_of (heading_at c.routine s).result both.1 in (
        a.entry ∙ named_entry a.opening.name (is_entry_in a.opening.meaning.scope) own.routine (sym own.heading.2 ∙ both.0),
        subst (λ (v : Option ValueType). ResultIs tokens v (Some a.opening.meaning)) none own.heading.0,
      )
