-- Routines that break no rule: where their statements stand, the checker's scopes agree with the scope of the routine, and so they do after it.
use Rattle.std.proofs.Common.{◌≡◌, ℕ, Bool, true, false, if◌then◌else◌, List, [], ◌∷◌, ◌++◌, Option, Some, None, Ok, is_some, refl, sym, ap, subst, ◌∙◌}
use Rattle.cp_resolved.proofs.Words.{◌-◌, bytes_eq, Identifier, SystemKind, CheckFault, ValueType, Meaning, Judged, ◌>>=◌, faults, Holding, Step, C5, fault, unless}
use Rattle.cp_resolved.proofs.Words.{meaning_or_none, reserve_name, reserve_names, add_names, add_all, last_is, Name, Ty, find, since, routine_meaning, routine_in}
use Rattle.cp_resolved.proofs.Words.{with_routine, Each, is_free, IsFit, IsFreeParameter, itself, none_first, none_before, is_ordinal, parameter_of}
use Rattle.cp_tree.specs.declared.declaration.SystemKind.TheVariants as system_kind
use Rattle.cp_tree.specs.Syntax.{Program, Group, ParameterGroup, RoutineKind, procedure, function, invariants, Routine}
use Rattle.cp_scope.specs.declared.types.ValueType.TheVariants as types
use Rattle.cp_scope.specs.declared.types.Meaning.TheVariants as meaning
use Rattle.cp_scope.specs.declared.types.Parameter as check_parameter
use Rattle.cp_scope.specs.Scopes.{Names, parameters_in, Scope, Scopes, Shapes, Shape, heading_shape, shape_in, look_in, or_else, look_outer, look, with_name, sealed, enter, Around, last_of, add_around, keep, settle}
use Rattle.cp_scope.specs.Scopes as checker
use Rattle.cp_check.specs.declared.types.Holding.TheVariants as holds
use Rattle.cp_check.specs.Types as typing
use Rattle.cp_check.specs.Headings as headings
use Rattle.cp_check.specs.Headings.{after_faults, Headed, parameters_and_result, heading, announce}
use Rattle.cp_meaning.specs.Scopes as scopes
use Rattle.cp_meaning.specs.Declarations as meant
use Rattle.cp_resolved.specs.Framed as framed
use Rattle.cp_resolved.specs.Typed.{Tokens, TypeIs, IsOrdinalResult, ResultIs, AreParameters, HeadingIs, RoutineIs, IsMarked}
use Rattle.cp_resolved.proofs.agreeing.Agreeing.{Good, good_then, good_sound, none_left, none_right, is_itself, new_names, look_last, look_is, look_entered, find_last, inner_look, More, more_same, more_trans, with_more, with_there, appends_none}
use Rattle.cp_resolved.proofs.agreeing.AgreeingNames.{W, heading_is_more, IsTypeKnown, IsStacked, New, Known, IsKnown, is_known_moved, stacked_more, find_first, find_other, since_other, last_or, Agree, sees, fits, agree_kept}
use Rattle.cp_resolved.proofs.agreeing.AgreeingTypes.{Held, held_named, KindOf, IsOrdinal, ordinal_of, type_seen, known_type}
use Rattle.cp_resolved.proofs.agreeing.AgreeingParameters.{free_handed, copies, parameters_both, copies_are, names_read, shapes_added}
use Rattle.cp_resolved.proofs.agreeing.AgreeingParts.{free_plain, StepResult, step_then, step_same, names_result, all_declared}
use Rattle.cp_resolved.proofs.declarations.Reserving.{AreFresh, pending_fresh}

pub none_after : {A : Type 0} (fs : List CheckFault) (j : Judged A) → faults (after_faults fs j) ≡ [] → after_faults fs j ≡ j
none_after [] j h = refl
none_after (f ∷ fs) j h = absurd (let bad : f ∷ (fs ++ faults j) ≡ [] = h in cc)

module _ (tokens : Tokens) (p : Program) where
  -- ---- parameters

  record PlainType (ss : Shapes) (t : Ty) (v : ValueType) : Type 0 where
    pub belongs : TypeIs (W tokens ss) t v
    pub free : is_free t ≡ true

  admitted_good : (ss : Shapes) (at : ℕ) (h : Holding) (t : Ty) (v : ValueType) → TypeIs (W tokens ss) t v → Held h t → Good (PlainType ss t) (headings.check_parameter_type at h v)
  admitted_good ss at holds.Plain t v b k = record { belongs = b; free = k.free refl }
  admitted_good ss at (holds.Component system_kind.Class) t v b k = tt
  admitted_good ss at _ t v b k = tt

  parameter_good : (s : Scopes) (m : scopes.Scope) (g : Group) → Good (KindOf tokens s.shapes (meant.type_named m g.type_name.name)) (typing.type_named s g.type_name.at g.type_name.name) → Good (PlainType s.shapes (meant.type_named m g.type_name.name)) (headings.parameter_type s g)
  unfolding headings.parameter_type
  parameter_good s m g h =
      good_then (KindOf tokens s.shapes (meant.type_named m g.type_name.name)) (PlainType s.shapes (meant.type_named m g.type_name.name)) (typing.type_named s g.type_name.at g.type_name.name) (headings.check_parameter_type_in s g.type_name.at)
      h
      (λ v k. admitted_good s.shapes g.type_name.at (typing.holding s v) (meant.type_named m g.type_name.name) v k.belongs (held_named (W tokens s.shapes) s (meant.type_named m g.type_name.name) v refl k.belongs k.standing))

  parameter_new : (is_var : Bool) (ss : Shapes) (u : Scopes) (n : Name) (t : Ty) (v : ValueType) → u.shapes ≡ ss → PlainType ss t v → New tokens u n (if is_var then meaning.Reference v else meaning.Parameter v) (scopes.local_variable t)
  parameter_new true ss u n t v e h = record { means = λ r. (subst (λ us. TypeIs (W tokens us) t v) (sym e) h.belongs, free_plain t h.free); marked = tt; there = tt; fit = h.free }
  parameter_new false ss u n t v e h = record { means = λ r. (subst (λ us. TypeIs (W tokens us) t v) (sym e) h.belongs, free_plain t h.free); marked = tt; there = tt; fit = h.free }

  group_agrees : (is_var : Bool) (but : Option Name) (s : Scopes) (m below : scopes.Scope) (ks : List ℕ) (g : Group) → (headings.group_step is_var s g).faults ≡ [] → s.inner.pending ≡ [] → Agree tokens p false but s m below ks →
      StepResult tokens p false but s (headings.group_step is_var s g).scopes (meant.with_names (meant.names_of g.names) (scopes.local_variable (meant.type_named m g.type_name.name)) m) below ks
  unfolding headings.group_step
  group_agrees is_var but s m below ks g e empty h =
      let a : Scopes = (reserve_names s g.names).scopes in
      let j : Judged ValueType = headings.parameter_type a g in
      let t : Ty = meant.type_named m g.type_name.name in
      let r = names_result tokens p false but s g.names m below ks (none_left (reserve_names s g.names).faults (faults (j >>= headings.to_parameter is_var)) e) empty h in
      let v = good_sound (PlainType a.shapes t) j (parameter_good a m g (type_seen tokens p false but a m below ks g.type_name.at g.type_name.name r.agree)) (none_first j (headings.to_parameter is_var) (none_right (reserve_names s g.names).faults (faults (j >>= headings.to_parameter is_var)) e)) in
      subst (λ (i : Judged ValueType). StepResult tokens p false but s (add_all a g.names (meaning_or_none (i >>= headings.to_parameter is_var))) (meant.with_names (meant.names_of g.names) (scopes.local_variable t) m) below ks) (sym v.is)
      (all_declared tokens p false but s a g.names m below ks (if is_var then meaning.Reference v.value else meaning.Parameter v.value) (scopes.local_variable t) (pending_fresh a.inner g.names a.inner.pending r.reserved.pends r.reserved.all) r.reserved.others (λ i. absurd (cc))
      (λ u i n. parameter_new is_var a.shapes u n t v.value i v.holds) r.outer (λ k d i. ap (shape_in k) r.shapes ∙ i) (appends_none s.inner.names a.inner.names r.reserved.names) r.agree)

  groups_agree : (own : Name) (s : Scopes) (h : meant.Heading) (below : scopes.Scope) (ks : List ℕ) (gs : List Group) → (headings.group_steps s gs).faults ≡ [] → s.inner.pending ≡ [] → Agree tokens p false (Some own) s h.scope below ks →
      StepResult tokens p false (Some own) s (headings.group_steps s gs).scopes (meant.with_groups scopes.local_variable h gs).scope below ks
  unfolding headings.group_steps
  groups_agree own s h below ks [] e empty agree = step_same tokens p false (Some own) s h.scope below ks empty agree
  groups_agree own s h below ks (g ∷ gs) e empty agree =
      let t : Scopes = (headings.group_step false s g).scopes in
      let k : meant.Heading = meant.with_group scopes.local_variable false h g in
      let r = group_agrees false (Some own) s h.scope below ks g (none_left (headings.group_step false s g).faults (headings.group_steps t gs).faults e) empty agree in
      step_then tokens p false (Some own) s t (headings.group_steps t gs).scopes k.scope (meant.with_groups scopes.local_variable k gs).scope below ks ks r
      (groups_agree own t k below ks gs (none_right (headings.group_step false s g).faults (headings.group_steps t gs).faults e) r.settled r.agree)

  parameters_agree : (own : Name) (s : Scopes) (h : meant.Heading) (below : scopes.Scope) (ks : List ℕ) (gs : List ParameterGroup) → (headings.parameter_steps s gs).faults ≡ [] → s.inner.pending ≡ [] → Agree tokens p false (Some own) s h.scope below ks →
      StepResult tokens p false (Some own) s (headings.parameter_steps s gs).scopes (meant.with_parameter_groups h gs).scope below ks
  unfolding headings.parameter_steps
  parameters_agree own s h below ks [] e empty agree = step_same tokens p false (Some own) s h.scope below ks empty agree
  parameters_agree own s h below ks (g ∷ gs) e empty agree =
      let t : Scopes = (headings.parameter_step s g).scopes in
      let k : meant.Heading = meant.with_group scopes.local_variable g.is_var h g.group in
      let r = group_agrees g.is_var (Some own) s h.scope below ks g.group (none_left (headings.parameter_step s g).faults (headings.parameter_steps t gs).faults e) empty agree in
      step_then tokens p false (Some own) s t (headings.parameter_steps t gs).scopes k.scope (meant.with_parameter_groups k gs).scope below ks ks r
      (parameters_agree own t k below ks gs (none_right (headings.parameter_step s g).faults (headings.parameter_steps t gs).faults e) r.settled r.agree)

  -- ---- types of parameters

  named_free : (xs : List Name) (t : Ty) (b : Bool) → is_free t ≡ true → Each IsFreeParameter (meant.parameters_named xs t b)
  named_free [] t b h = tt
  named_free (x ∷ xs) t b h = (h, named_free xs t b h)

  free_both : (qs rs : List meant.Parameter) → Each IsFreeParameter qs → Each IsFreeParameter rs → Each IsFreeParameter (qs ++ rs)
  free_both [] rs h g = g
  free_both (q ∷ qs) rs h g = (h.0, free_both qs rs h.1 g)

  group_free : (is_var : Bool) (but : Option Name) (s : Scopes) (m below : scopes.Scope) (ks : List ℕ) (g : Group) → (headings.group_step is_var s g).faults ≡ [] → s.inner.pending ≡ [] → Agree tokens p false but s m below ks → is_free (meant.type_named m g.type_name.name) ≡ true
  unfolding headings.group_step
  group_free is_var but s m below ks g e empty h =
      let a : Scopes = (reserve_names s g.names).scopes in
      let j : Judged ValueType = headings.parameter_type a g in
      let t : Ty = meant.type_named m g.type_name.name in
      let r = names_result tokens p false but s g.names m below ks (none_left (reserve_names s g.names).faults (faults (j >>= headings.to_parameter is_var)) e) empty h in
      let v = good_sound (PlainType a.shapes t) j (parameter_good a m g (type_seen tokens p false but a m below ks g.type_name.at g.type_name.name r.agree)) (none_first j (headings.to_parameter is_var) (none_right (reserve_names s g.names).faults (faults (j >>= headings.to_parameter is_var)) e)) in
      v.holds.free

  groups_free : (own : Name) (s : Scopes) (h : meant.Heading) (below : scopes.Scope) (ks : List ℕ) (gs : List Group) → (headings.group_steps s gs).faults ≡ [] → s.inner.pending ≡ [] → Agree tokens p false (Some own) s h.scope below ks → Each IsFreeParameter h.parameters → Each IsFreeParameter (meant.with_groups scopes.local_variable h gs).parameters
  unfolding headings.group_steps
  groups_free own s h below ks [] e empty agree qs = qs
  groups_free own s h below ks (g ∷ gs) e empty agree qs =
      let t : Scopes = (headings.group_step false s g).scopes in
      let k : meant.Heading = meant.with_group scopes.local_variable false h g in
      let none : (headings.group_step false s g).faults ≡ [] = none_left (headings.group_step false s g).faults (headings.group_steps t gs).faults e in
      let r = group_agrees false (Some own) s h.scope below ks g none empty agree in
      let u : Ty = meant.type_named h.scope g.type_name.name in
      groups_free own t k below ks gs (none_right (headings.group_step false s g).faults (headings.group_steps t gs).faults e) r.settled r.agree
      (free_both h.parameters (meant.parameters_named (meant.names_of g.names) u false) qs (named_free (meant.names_of g.names) u false (group_free false (Some own) s h.scope below ks g none empty agree)))

  parameters_free : (own : Name) (s : Scopes) (h : meant.Heading) (below : scopes.Scope) (ks : List ℕ) (gs : List ParameterGroup) → (headings.parameter_steps s gs).faults ≡ [] → s.inner.pending ≡ [] → Agree tokens p false (Some own) s h.scope below ks → Each IsFreeParameter h.parameters → Each IsFreeParameter (meant.with_parameter_groups h gs).parameters
  unfolding headings.parameter_steps
  parameters_free own s h below ks [] e empty agree qs = qs
  parameters_free own s h below ks (g ∷ gs) e empty agree qs =
      let t : Scopes = (headings.parameter_step s g).scopes in
      let k : meant.Heading = meant.with_group scopes.local_variable g.is_var h g.group in
      let none : (headings.parameter_step s g).faults ≡ [] = none_left (headings.parameter_step s g).faults (headings.parameter_steps t gs).faults e in
      let r = group_agrees g.is_var (Some own) s h.scope below ks g.group none empty agree in
      let u : Ty = meant.type_named h.scope g.group.type_name.name in
      parameters_free own t k below ks gs (none_right (headings.parameter_step s g).faults (headings.parameter_steps t gs).faults e) r.settled r.agree
      (free_both h.parameters (meant.parameters_named (meant.names_of g.group.names) u g.is_var) qs (named_free (meant.names_of g.group.names) u g.is_var (group_free g.is_var (Some own) s h.scope below ks g.group none empty agree)))

  -- ---- parameters as the checker keeps them

  -- those of a heading so far, against the names of its scope
  abbrev pub AreRead : Scopes → List meant.Parameter → Type 0
  AreRead s qs = AreParameters (W tokens s.shapes) (parameters_in s.inner.names) qs

  group_read : (is_var : Bool) (but : Option Name) (s : Scopes) (m below : scopes.Scope) (ks : List ℕ) (g : Group) (qs : List meant.Parameter) → (headings.group_step is_var s g).faults ≡ [] → s.inner.pending ≡ [] → Agree tokens p false but s m below ks → AreRead s qs →
      AreRead (headings.group_step is_var s g).scopes (qs ++ meant.parameters_named (meant.names_of g.names) (meant.type_named m g.type_name.name) is_var)
  unfolding headings.group_step add_all settle
  group_read is_var but s m below ks g qs e empty h read =
      let a : Scopes = (reserve_names s g.names).scopes in
      let j : Judged ValueType = headings.parameter_type a g in
      let t : Ty = meant.type_named m g.type_name.name in
      let r = names_result tokens p false but s g.names m below ks (none_left (reserve_names s g.names).faults (faults (j >>= headings.to_parameter is_var)) e) empty h in
      let v = good_sound (PlainType a.shapes t) j (parameter_good a m g (type_seen tokens p false but a m below ks g.type_name.at g.type_name.name r.agree)) (none_first j (headings.to_parameter is_var) (none_right (reserve_names s g.names).faults (faults (j >>= headings.to_parameter is_var)) e)) in
      let b : check_parameter.Parameter = record { is_var = is_var; value_type = v.value } in
      let c : Meaning = (if is_var then meaning.Reference v.value else meaning.Parameter v.value) in
      let before : AreParameters (W tokens a.shapes) (parameters_in a.inner.names) qs =
      subst (λ (ns : Names). AreParameters (W tokens a.shapes) (parameters_in ns) qs) (sym r.reserved.names) (subst (λ (ss : Shapes). AreParameters (W tokens ss) (parameters_in s.inner.names) qs) (sym r.shapes) read) in
      let fresh : AreFresh g.names a.inner.names = pending_fresh a.inner g.names a.inner.pending r.reserved.pends r.reserved.all in
      let all : AreParameters (W tokens a.shapes) (parameters_in (add_names a g.names (Some c)).inner.names) (qs ++ meant.parameters_named (meant.names_of g.names) t is_var) =
      subst (λ (as' : List check_parameter.Parameter). AreParameters (W tokens a.shapes) as' (qs ++ meant.parameters_named (meant.names_of g.names) t is_var)) (sym (names_read a g.names c b (is_read is_var v.value) fresh r.reserved.others))
      (parameters_both (W tokens a.shapes) (parameters_in a.inner.names) (copies b g.names) qs (meant.parameters_named (meant.names_of g.names) t is_var) before (copies_are (W tokens a.shapes) b t is_var g.names refl v.holds.belongs (free_handed is_var t v.holds.free))) in
      subst (λ (i : Judged ValueType). AreRead (add_all a g.names (meaning_or_none (i >>= headings.to_parameter is_var))) (qs ++ meant.parameters_named (meant.names_of g.names) t is_var)) (sym v.is)
      (subst (λ (ss : Shapes). AreParameters (W tokens ss) (parameters_in (add_names a g.names (Some c)).inner.names) (qs ++ meant.parameters_named (meant.names_of g.names) t is_var)) (sym (shapes_added a g.names (Some c))) all)
    where
      is_read : (b : Bool) (v : ValueType) → parameter_of (if b then meaning.Reference v else meaning.Parameter v) ≡ Some (record { is_var = b; value_type = v })
      is_read true v = refl
      is_read false v = refl

  groups_read : (own : Name) (s : Scopes) (h : meant.Heading) (below : scopes.Scope) (ks : List ℕ) (gs : List Group) → (headings.group_steps s gs).faults ≡ [] → s.inner.pending ≡ [] → Agree tokens p false (Some own) s h.scope below ks → AreRead s h.parameters →
      AreRead (headings.group_steps s gs).scopes (meant.with_groups scopes.local_variable h gs).parameters
  unfolding headings.group_steps
  groups_read own s h below ks [] e empty agree read = read
  groups_read own s h below ks (g ∷ gs) e empty agree read =
      let t : Scopes = (headings.group_step false s g).scopes in
      let k : meant.Heading = meant.with_group scopes.local_variable false h g in
      let none : (headings.group_step false s g).faults ≡ [] = none_left (headings.group_step false s g).faults (headings.group_steps t gs).faults e in
      let r = group_agrees false (Some own) s h.scope below ks g none empty agree in
      groups_read own t k below ks gs (none_right (headings.group_step false s g).faults (headings.group_steps t gs).faults e) r.settled r.agree (group_read false (Some own) s h.scope below ks g h.parameters none empty agree read)

  parameters_read : (own : Name) (s : Scopes) (h : meant.Heading) (below : scopes.Scope) (ks : List ℕ) (gs : List ParameterGroup) → (headings.parameter_steps s gs).faults ≡ [] → s.inner.pending ≡ [] → Agree tokens p false (Some own) s h.scope below ks → AreRead s h.parameters →
      AreRead (headings.parameter_steps s gs).scopes (meant.with_parameter_groups h gs).parameters
  unfolding headings.parameter_steps
  parameters_read own s h below ks [] e empty agree read = read
  parameters_read own s h below ks (g ∷ gs) e empty agree read =
      let t : Scopes = (headings.parameter_step s g).scopes in
      let k : meant.Heading = meant.with_group scopes.local_variable g.is_var h g.group in
      let none : (headings.parameter_step s g).faults ≡ [] = none_left (headings.parameter_step s g).faults (headings.parameter_steps t gs).faults e in
      let r = group_agrees g.is_var (Some own) s h.scope below ks g.group none empty agree in
      parameters_read own t k below ks gs (none_right (headings.parameter_step s g).faults (headings.parameter_steps t gs).faults e) r.settled r.agree (group_read g.is_var (Some own) s h.scope below ks g.group h.parameters none empty agree read)

  -- ---- results

  abbrev IsResult : Shapes → Option ValueType → Option Ty → Type 0
  IsResult ss None None = Unit {0}
  IsResult ss None (Some t) = ⊥
  IsResult ss (Some v) (Some t) = PlainType ss t v
  IsResult ss (Some v) None = ⊥

  returned_good : (ss : Shapes) (at : ℕ) (h : Holding) (t : Ty) (v : ValueType) → TypeIs (W tokens ss) t v → Held h t → Good (PlainType ss t) (headings.check_result_type at h v)
  returned_good ss at holds.Plain t v b k = record { belongs = b; free = k.free refl }
  returned_good ss at _ t v b k = tt

  result_good : (s : Scopes) (m : scopes.Scope) (i : Identifier) → Good (KindOf tokens s.shapes (meant.type_named m i.name)) (typing.type_named s i.at i.name) → Good (λ o. IsResult s.shapes o (Some (meant.type_named m i.name))) (headings.result_type s i)
  unfolding headings.result_type
  result_good s m i h =
      let t : Ty = meant.type_named m i.name in
      good_then (PlainType s.shapes t) (λ o. IsResult s.shapes o (Some t)) (typing.type_named s i.at i.name >>= headings.check_result_type_in s i.at) headings.some_type
      (good_then (KindOf tokens s.shapes t) (PlainType s.shapes t) (typing.type_named s i.at i.name) (headings.check_result_type_in s i.at) h
      (λ v k. returned_good s.shapes i.at (typing.holding s v) t v k.belongs (held_named (W tokens s.shapes) s t v refl k.belongs k.standing)))
      (λ v k. k)

  ordinal_result : (ss : Shapes) (t : Ty) (v : ValueType) → PlainType ss t v → is_ordinal v ≡ true → IsOrdinalResult tokens v (Some t)
  ordinal_result ss t (types.Ordinal r) h e =
      let o : IsOrdinal (W tokens ss) t r = ordinal_of (W tokens ss) t r h.belongs in
      subst (λ (u : Ty). IsOrdinalResult tokens (types.Ordinal r) (Some u)) (sym o.is) (record { range = r; is = refl; belongs = o.range })
  ordinal_result ss t x h e = absurd (let bad : false ≡ true = e in cc)

  judged_ordinal : (at : ℕ) (v : ValueType) → headings.result_faults at (Some v) ≡ [] → is_ordinal v ≡ true
  judged_ordinal at v e = go (is_ordinal v) e
    where
      go : (b : Bool) → (if b then [] else fault at C5) ≡ [] → b ≡ true
      go true k = refl
      go false k = absurd (cc)

  result_is : (ss : Shapes) (at : ℕ) (o : Option ValueType) (q : Option Ty) → IsResult ss o q → headings.result_faults at o ≡ [] → ((r : meant.RoutineMeaning) → r.result ≡ q → ResultIs tokens o (Some r))
  result_is ss at None None h e r i = i
  result_is ss at (Some v) (Some t) h e r i = subst (IsOrdinalResult tokens v) (sym i) (ordinal_result ss t v h (judged_ordinal at v e))
  result_is ss at _ _ h e r i = absurd h

  -- an ordinal whose bounds are values of its base
  bounded_type : (ss : Shapes) (t : Ty) (v : ValueType) → PlainType ss t v → is_ordinal v ≡ true → framed.IsOrdinal t
  bounded_type ss t (types.Ordinal r) h e =
      let o : IsOrdinal (W tokens ss) t r = ordinal_of (W tokens ss) t r h.belongs in
      subst framed.IsOrdinal (sym o.is) (subst (λ (u : Ty). is_free u ≡ true) o.is h.free)
  bounded_type ss t x h e = absurd (let bad : false ≡ true = e in cc)

  bounded_result : (ss : Shapes) (at : ℕ) (o : Option ValueType) (q : Option Ty) → IsResult ss o q → headings.result_faults at o ≡ [] → framed.IsOrdinalResult q
  bounded_result ss at None None h e = tt
  bounded_result ss at (Some v) (Some t) h e = bounded_type ss t v h (judged_ordinal at v e)
  bounded_result ss at _ _ h e = absurd h

  -- ---- headings

  record WrittenResult (own : Name) (s : Scopes) (m below : scopes.Scope) (ks : List ℕ) (h : Headed) (k : RoutineKind) : Type 0 where
    pub step : StepResult tokens p false (Some own) s h.scopes (meant.heading_of m k).scope below ks
    pub value : Option ValueType
    pub is : h.result ≡ Ok value
    pub result : IsResult h.scopes.shapes value (meant.result_of (meant.heading_of m k).scope k)
    pub parameters : Each IsFreeParameter (meant.heading_of m k).parameters
    pub read : AreRead h.scopes (meant.heading_of m k).parameters

  written_agrees : (own : Name) (s : Scopes) (m below : scopes.Scope) (ks : List ℕ) (k : RoutineKind) → faults (parameters_and_result s k).result ≡ [] → s.inner.pending ≡ [] → Agree tokens p false (Some own) s m below ks → AreRead s [] → WrittenResult own s m below ks (parameters_and_result s k) k
  unfolding headings.parameters_and_result
  written_agrees own s m below ks (procedure gs) e empty agree first =
      let none : (headings.parameter_steps s gs).faults ≡ [] = none_before {A = Option ValueType} (headings.parameter_steps s gs).faults (Ok None) e in
      record {
        step = parameters_agree own s (record { parameters = []; scope = m }) below ks gs none empty agree;
        value = None;
        is = none_after (headings.parameter_steps s gs).faults (Ok None) e;
        result = tt;
        parameters = parameters_free own s (record { parameters = []; scope = m }) below ks gs none empty agree tt;
        read = parameters_read own s (record { parameters = []; scope = m }) below ks gs none empty agree first;
      }
  written_agrees own s m below ks (function gs i) e empty agree first =
      let d : Step = headings.group_steps s gs in
      let none : d.faults ≡ [] = none_before d.faults (headings.result_type d.scopes i) e in
      let step = groups_agree own s (record { parameters = []; scope = m }) below ks gs none empty agree in
      let k : scopes.Scope = (meant.with_groups scopes.local_variable (record { parameters = []; scope = m }) gs).scope in
      let same : after_faults d.faults (headings.result_type d.scopes i) ≡ headings.result_type d.scopes i = none_after d.faults (headings.result_type d.scopes i) e in
      let v = good_sound (λ o. IsResult d.scopes.shapes o (Some (meant.type_named k i.name))) (headings.result_type d.scopes i) (result_good d.scopes k i (type_seen tokens p false (Some own) d.scopes k below ks i.at i.name step.agree)) (ap faults (sym same) ∙ e) in
      record {
        step = step;
        value = v.value;
        is = same ∙ v.is;
        result = v.holds;
        parameters = groups_free own s (record { parameters = []; scope = m }) below ks gs none empty agree tt;
        read = groups_read own s (record { parameters = []; scope = m }) below ks gs none empty agree first;
      }
  written_agrees own s m below ks invariants e empty agree first =
      let none : (headings.parameter_steps s []).faults ≡ [] = none_before {A = Option ValueType} (headings.parameter_steps s []).faults (Ok None) e in
      record {
        step = parameters_agree own s (record { parameters = []; scope = m }) below ks [] none empty agree;
        value = None;
        is = none_after (headings.parameter_steps s []).faults (Ok None) e;
        result = tt;
        parameters = parameters_free own s (record { parameters = []; scope = m }) below ks [] none empty agree tt;
        read = parameters_read own s (record { parameters = []; scope = m }) below ks [] none empty agree first;
      }

  pub record HeadingResult (s : Scopes) (m k below : scopes.Scope) (ks : List ℕ) (r : Routine) (h : Headed) : Type 0 where
    pub step : StepResult tokens p false (Some r.name.name) s h.scopes (meant.heading_of k r.kind).scope below ks
    pub value : Option ValueType
    pub is : h.result ≡ Ok value
    pub result : ResultIs tokens value (Some (routine_in k r))
    pub parameters : Each IsFreeParameter (routine_in k r).parameters
    pub read : AreRead h.scopes (routine_in k r).parameters
    pub ordinal : framed.IsOrdinalResult (routine_in k r).result

  ruled_none : (fs : List CheckFault) (v : Option ValueType) → faults (unless fs v) ≡ [] → fs ≡ []
  ruled_none [] v h = refl
  ruled_none (f ∷ fs) v h = h

  -- the rules of the heading itself
  ruled_result : (owner : Option SystemKind) (s e : Scopes) (m k below : scopes.Scope) (ks : List ℕ) (r : Routine) (fs : List CheckFault) (h : Headed) → faults (headings.check_heading_behind owner r fs h).result ≡ [] → WrittenResult r.name.name e k below ks h r.kind → HeadingResult e m k below ks r (headings.check_heading_behind owner r fs h)
  ruled_result owner s e m k below ks r fs h none w =
      let first : faults (after_faults fs h.result) ≡ [] = none_first (after_faults fs h.result) (headings.check_heading owner r) none in
      let same : after_faults fs h.result ≡ Ok w.value = none_after fs h.result first ∙ w.is in
      let all : headings.heading_faults owner r w.value ≡ [] = ruled_none (headings.heading_faults owner r w.value) w.value (subst (λ (j : Judged (Option ValueType)). faults (j >>= headings.check_heading owner r) ≡ []) same none) in
      let fine : headings.result_faults r.at w.value ≡ [] = none_left (headings.result_faults r.at w.value) (headings.entry_faults (r.name.at - 1) owner r.is_entry) all in
      record {
        step = w.step;
        value = w.value;
        is = ap (λ (j : Judged (Option ValueType)). j >>= headings.check_heading owner r) same ∙ ap (λ gs. unless gs w.value) all;
        result = result_is h.scopes.shapes r.at w.value (meant.result_of (meant.heading_of k r.kind).scope r.kind) w.result fine (routine_in k r) refl;
        parameters = w.parameters;
        read = w.read;
        ordinal = bounded_result h.scopes.shapes r.at w.value (meant.result_of (meant.heading_of k r.kind).scope r.kind) w.result fine;
      }

  -- a routine's own scope, before its parameters
  entered_agrees : (s : Scopes) (m below : scopes.Scope) (ks : List ℕ) (r : Routine) → Agree tokens p false None s m below ks → Agree tokens p false (Some r.name.name) (enter false s) (with_routine m r) (with_routine m r) ks
  unfolding enter
  entered_agrees s m below ks r h =
      let k : scopes.Scope = with_routine m r in
      record {
        unsealed = refl;
        names = λ x. record { found = refl; rest = refl; latest = refl };
        seen = λ x. record { found = refl; rest = refl; latest = refl };
        outer = λ x g. subst (IsKnown tokens (enter false s) k x) (sym (look_entered false x s))
            (is_known_moved tokens s (enter false s) m k x (or_else (inner_look false s x) (look_outer x s.outer)) (more_same s.shapes) (find_other tokens x r.name.name (routine_meaning r) m g) (since_other tokens x r.name.name (routine_meaning r) m g)
            (subst (IsKnown tokens s m x) (look_is x s h.unsealed) (sees tokens p false None s m below ks h x tt)));
        own = subst (IsTypeKnown tokens (enter false s) k r.name.name) (sym (look_entered false r.name.name s))
            (subst (IsTypeKnown tokens (enter false s) m r.name.name) (look_is r.name.name s h.unsealed) (known_type tokens s (enter false s) m r.name.name (look r.name.name s) refl (sees tokens p false None s m below ks h r.name.name tt)));
        base = λ x. fit_routine x (bytes_eq x r.name.name) (fits tokens p false None s m below ks h x);
        limited = (tt, h.limited);
        free = h.free;
        different = h.different;
        entries = h.entries;
        starts = h.starts;
      }
    where
      fit_routine : (x : Name) (b : Bool) → IsFit (find x m) → IsFit (if b then Some (routine_meaning r) else find x m)
      fit_routine x true f = tt
      fit_routine x false f = f

  -- the name breaks no rule
  pub heading_none : (owner : Option SystemKind) (r : Routine) (d : Step) → faults (heading owner r d).result ≡ [] → d.faults ≡ []
  unfolding heading
  heading_none owner r d h = none_before d.faults (parameters_and_result (enter false d.scopes) r.kind).result (none_first (after_faults d.faults (parameters_and_result (enter false d.scopes) r.kind).result) (headings.check_heading owner r) h)

  pub heading_agrees : (owner : Option SystemKind) (s : Scopes) (m below : scopes.Scope) (ks : List ℕ) (r : Routine) → faults (heading owner r (reserve_name s r.name)).result ≡ [] → Agree tokens p false None (reserve_name s r.name).scopes m below ks →
      HeadingResult (enter false (reserve_name s r.name).scopes) m (with_routine m r) (with_routine m r) ks r (heading owner r (reserve_name s r.name))
  unfolding heading enter parameters_in
  heading_agrees owner s m below ks r none h =
      let a : Scopes = (reserve_name s r.name).scopes in
      let e : Scopes = enter false a in
      let d : Step = reserve_name s r.name in
      let w : Headed = parameters_and_result e r.kind in
      let first : faults (after_faults d.faults w.result) ≡ [] = none_first (after_faults d.faults w.result) (headings.check_heading owner r) none in
      ruled_result owner s e m (with_routine m r) (with_routine m r) ks r d.faults w none
      (written_agrees r.name.name e (with_routine m r) (with_routine m r) ks r.kind (ap faults (sym (none_after d.faults w.result first)) ∙ first) refl (entered_agrees a m below ks r h) tt)

  -- ---- a routine that is visible from its heading on

  abbrev pub announcing : Routine → Option Meaning
  announcing r = Some (meaning.Routine r.name.at)

  pub record Announced (a s : Scopes) (r : Routine) (m k rs : scopes.Scope) (ks : List ℕ) : Type 0 where
    pub agree : Agree tokens p false None a rs k ks
    pub known : Known tokens a k r.name.name (meaning.Routine r.name.at)
    pub outer : a.outer ≡ s.outer ++ with_name (sealed false s.inner) r.name.name (announcing r) ∷ []
    pub more : More s.shapes a.shapes
    pub settled : a.inner.pending ≡ []
    pub alone : (x : Name) → or_else (checker.find x a.inner.names) (look_outer x a.outer) ≡ Some (Some (meaning.Routine r.name.at)) → bytes_eq x r.name.name ≡ true
    pub heading : HeadingIs (W tokens a.shapes) (checker.heading_at r.name.at a) (Some (routine_in k r))

  since_first : (n : Name) (d : scopes.Meaning) (m : scopes.Scope) → since n ((n, d) ∷ m) ≡ (n, d) ∷ m
  since_first n d m = ap (λ (b : Bool). if b then (n, d) ∷ m else since n m) (itself n)

  routine_known : (a : Scopes) (m : scopes.Scope) (r : Routine) (h : checker.Heading) → shape_in r.name.at a.shapes ≡ Some (heading_shape h r.body.at) → HeadingIs (W tokens a.shapes) h (Some (routine_in (with_routine m r) r)) → Known tokens a (with_routine m r) r.name.name (meaning.Routine r.name.at)
  routine_known a m r h there is =
      let k : scopes.Scope = with_routine m r in
      record {
        means = subst (λ o. RoutineIs (W tokens a.shapes) (checker.heading_at r.name.at a) r.name.name k o) (find_first tokens r.name.name (routine_meaning r) m)
            (subst (λ (t : scopes.Scope). HeadingIs (W tokens a.shapes) (checker.heading_at r.name.at a) (Some (routine_in t r))) (sym (since_first r.name.name (routine_meaning r) m))
            (subst (λ (d : checker.Heading). HeadingIs (W tokens a.shapes) d (Some (routine_in k r))) (sym (ap checker.as_heading there)) is));
        marked = subst (IsMarked a.shapes (meaning.Routine r.name.at)) (find_first tokens r.name.name (routine_meaning r) m) (record { token = refl; heading = h; there = there });
        there = record { heading = h; body = r.body.at; there = there };
        fit = subst IsFit (find_first tokens r.name.name (routine_meaning r) m) tt;
      }

  -- a name that stands for the routine at a token where nothing was written is not visible
  unwritten : (s : Scopes) (m : scopes.Scope) (x : Name) (n : ℕ) (o : Option (Option Meaning)) → shape_in n s.shapes ≡ None → IsKnown tokens s m x o → o ≡ Some (Some (meaning.Routine n)) → ⊥
  unwritten s m x n o free k e =
      let known : Known tokens s m x (meaning.Routine n) = subst (IsKnown tokens s m x) e k in
      (let bad : None ≡ Some (heading_shape known.there.heading known.there.body) = sym free ∙ known.there.there in cc)

  unwritten_inner : (s : Scopes) (m below : scopes.Scope) (x : Name) (n : ℕ) (o : Option (Option Meaning)) → shape_in n s.shapes ≡ None → IsStacked tokens s m below x o → o ≡ Some (Some (meaning.Routine n)) → ⊥
  unwritten_inner s m below x n o free k e =
      let known : Known tokens s m x (meaning.Routine n) = subst (IsStacked tokens s m below x) e k in
      (let bad : None ≡ Some (heading_shape known.there.heading known.there.body) = sym free ∙ known.there.there in cc)

  not_before : (n : ℕ) (ss ts : Shapes) → More ss ts → shape_in n ts ≡ None → shape_in n ss ≡ None
  not_before n ss ts more e = go (shape_in n ss) refl
    where
      go : (o : Option Shape) → shape_in n ss ≡ o → o ≡ None
      go None i = refl
      go (Some d) i = absurd (let bad : None ≡ Some d = sym e ∙ more n d i in cc)

  -- the names of a scope with a routine more
  routine_last : (x : Name) (c : Scope) (n : Name) (o : Option Meaning) → is_some (checker.find n c.names) ≡ false → look_in x (with_name (sealed false c) n o) ≡ (if bytes_eq x n then Some o else checker.find x c.names)
  routine_last x c n o h = ap (look_in x) (new_names (sealed false c) n o h) ∙ find_last x n c.names o ∙ last_or tokens p x n c.names o h

  either_is : (a b : Option (Option Meaning)) (n : ℕ) → (a ≡ Some (Some (meaning.Routine n)) → ⊥) → or_else a b ≡ Some (Some (meaning.Routine n)) → b ≡ Some (Some (meaning.Routine n))
  either_is None b n other e = e
  either_is (Some c) b n other e = absurd (other e)

  -- from its heading on the routine's name alone stands for it
  announced_own : (s hs : Scopes) (m below k rs : scopes.Scope) (js ks : List ℕ) (r : Routine) (v : Option ValueType) → is_some (checker.find r.name.name s.inner.names) ≡ false → Agree tokens p false None s m below js → Agree tokens p false (Some r.name.name) hs rs k (r.name.at ∷ ks) → hs.outer ≡ s.outer ++ sealed false s.inner ∷ [] → More s.shapes hs.shapes →
      (x : Name) → or_else (checker.find x (announce r v hs).inner.names) (look_outer x (announce r v hs).outer) ≡ Some (Some (meaning.Routine r.name.at)) → bytes_eq x r.name.name ≡ true
  unfolding announce add_around keep
  announced_own s hs m below k rs js ks r v fresh before h outer more x e =
      let last : last_of hs.outer ≡ (let b : Around = record { outer = s.outer; inner = sealed false s.inner } in b) = ap last_of outer ∙ last_is s.outer (sealed false s.inner) in
      let c : Scope = with_name (sealed false s.inner) r.name.name (announcing r) in
      let is : (announce r v hs).outer ≡ s.outer ++ c ∷ [] = ap (λ (b : Around). b.outer ++ with_name b.inner r.name.name (announcing r) ∷ []) last in
      let around : look_outer x (announce r v hs).outer ≡ Some (Some (meaning.Routine r.name.at)) =
      either_is (checker.find x hs.inner.names) (look_outer x (announce r v hs).outer) r.name.at (unwritten_inner hs rs k x r.name.at (checker.find x hs.inner.names) h.free.0 (h.names x)) e in
      let both : or_else (if bytes_eq x r.name.name then Some (announcing r) else checker.find x s.inner.names) (look_outer x s.outer) ≡ Some (Some (meaning.Routine r.name.at)) =
      sym (ap (look_outer x) is ∙ look_last x s.outer c ∙ ap (λ o. or_else o (look_outer x s.outer)) (routine_last x s.inner r.name.name (announcing r) fresh)) ∙ around in
      go (bytes_eq x r.name.name) both
    where
      free : shape_in r.name.at s.shapes ≡ None
      free = not_before r.name.at s.shapes hs.shapes more h.free.0

      go : (b : Bool) → or_else (if b then Some (announcing r) else checker.find x s.inner.names) (look_outer x s.outer) ≡ Some (Some (meaning.Routine r.name.at)) → b ≡ true
      go true i = refl
      go false i = absurd (unwritten s m x r.name.at (look x s) free (sees tokens p false None s m below js before x tt) (look_is x s before.unsealed ∙ i))

  pub announced_agrees : (s hs : Scopes) (m below k rs : scopes.Scope) (js ks : List ℕ) (r : Routine) (v : Option ValueType) → k ≡ with_routine m r → is_some (checker.find r.name.name s.inner.names) ≡ false → Agree tokens p false None s m below js → Agree tokens p false (Some r.name.name) hs rs k (r.name.at ∷ ks) → hs.outer ≡ s.outer ++ sealed false s.inner ∷ [] → hs.inner.pending ≡ [] → More s.shapes hs.shapes →
      HeadingIs (W tokens hs.shapes) (headings.as_heading r v hs) (Some (routine_in (with_routine m r) r)) → Announced (announce r v hs) s r m k rs ks
  unfolding announce add_around keep
  announced_agrees s hs m below k rs js ks r v same fresh before h outer settled more is_heading =
      let d : Shape = heading_shape (headings.as_heading r v hs) r.body.at in
      let t : Scopes = keep hs r.name.at d in
      let a : Scopes = announce r v hs in
      let kept : Agree tokens p false (Some r.name.name) t rs k ks = agree_kept tokens p false (Some r.name.name) hs rs k r.name.at ks d tt (λ y. refl) h in
      let there : shape_in r.name.at t.shapes ≡ Some d = with_there hs.shapes r.name.at d h.free.0 in
      let further : More s.shapes a.shapes = more_trans s.shapes hs.shapes a.shapes more (with_more hs.shapes r.name.at d h.free.0) in
      let c : Scope = with_name (sealed false s.inner) r.name.name (announcing r) in
      let known : Known tokens a k r.name.name (meaning.Routine r.name.at) = subst (λ (i : scopes.Scope). Known tokens a i r.name.name (meaning.Routine r.name.at)) (sym same) (routine_known a m r (headings.as_heading r v hs) there (heading_is_more tokens hs.shapes a.shapes (with_more hs.shapes r.name.at d h.free.0) (headings.as_heading r v hs) (Some (routine_in (with_routine m r) r)) is_heading)) in
      let last : last_of hs.outer ≡ (let b : Around = record { outer = s.outer; inner = sealed false s.inner } in b) = ap last_of outer ∙ last_is s.outer (sealed false s.inner) in
      let is : a.outer ≡ s.outer ++ c ∷ [] = ap (λ (b : Around). b.outer ++ with_name b.inner r.name.name (announcing r) ∷ []) last in
      record {
        agree = record {
          unsealed = kept.unsealed;
          names = stacked_more tokens (inner_look false t) (inner_look false a) t a rs k (more_same t.shapes) (λ x. refl) kept.names;
          seen = stacked_more tokens (inner_look false t) (inner_look false a) t a rs k (more_same t.shapes) (λ x. refl) kept.seen;
          outer = λ x g. subst (λ (cs : List Scope). IsKnown tokens a k x (look_outer x cs)) (sym is)
              (subst (IsKnown tokens a k x) (sym (look_last x s.outer c ∙ ap (λ o. or_else o (look_outer x s.outer)) (routine_last x s.inner r.name.name (announcing r) fresh))) (around a further known x (bytes_eq x r.name.name) refl));
          own = tt;
          base = kept.base;
          limited = kept.limited;
          free = kept.free;
          different = kept.different;
          entries = kept.entries;
          starts = kept.starts;
        };
        known = known;
        outer = is;
        more = further;
        settled = settled;
        alone = announced_own s hs m below k rs js ks r v fresh before h outer more;
        heading = subst (λ (i : scopes.Scope). HeadingIs (W tokens a.shapes) (checker.heading_at r.name.at a) (Some (routine_in i r))) (sym same)
            (subst (λ (z : checker.Heading). HeadingIs (W tokens a.shapes) z (Some (routine_in (with_routine m r) r))) (sym (ap checker.as_heading there))
            (heading_is_more tokens hs.shapes a.shapes (with_more hs.shapes r.name.at d h.free.0) (headings.as_heading r v hs) (Some (routine_in (with_routine m r) r)) is_heading));
      }
    where
      around : (a : Scopes) → More s.shapes a.shapes → Known tokens a k r.name.name (meaning.Routine r.name.at) → (x : Name) (b : Bool) → bytes_eq x r.name.name ≡ b → IsKnown tokens a k x (or_else (if b then Some (announcing r) else checker.find x s.inner.names) (look_outer x s.outer))
      around a further known x true e = subst (λ (y : Name). Known tokens a k y (meaning.Routine r.name.at)) (sym (is_itself x r.name.name e)) known
      around a further known x false e =
          subst (λ (i : scopes.Scope). IsKnown tokens a i x (or_else (checker.find x s.inner.names) (look_outer x s.outer))) (sym same)
          (is_known_moved tokens s a m (with_routine m r) x (or_else (checker.find x s.inner.names) (look_outer x s.outer)) further (find_other tokens x r.name.name (routine_meaning r) m e) (since_other tokens x r.name.name (routine_meaning r) m e)
          (subst (IsKnown tokens s m x) (look_is x s before.unsealed) (sees tokens p false None s m below js before x tt)))
