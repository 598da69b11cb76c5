-- System types that break no rule: where their statements stand the scopes agree, and they stand for components whose routines are those of their scope.
use Rattle.std.proofs.Common.{◌≡◌, ℕ, Bool, true, false, if◌then◌else◌, List, [], ◌∷◌, ◌++◌, Option, Some, None, Ok, refl, sym, ap, subst, ◌∙◌}
use Rattle.cp_resolved.proofs.Words.{nat_eq, Decides-eqb, SystemKind, ValueType, Census, Use, no_use, Judged, ◌>>=◌, faults, Holding, Step, Typed, meaning_or_none}
use Rattle.cp_resolved.proofs.Words.{reserve_names, add_names, add_all, part_steps, after_faults, last_is, statements_loud, Name, Ty, find, seen_inside, Block}
use Rattle.cp_resolved.proofs.Words.{SystemMeaning, with_routines, system_in, system_of, routine_of_system, routine_of_type, each_in, in_part, in_routine, in_system}
use Rattle.cp_resolved.proofs.Words.{AreLimited, Each, IsSmallSystem, is_element, is_standing, IsStandingVariable, IsStandingParameter, none_first, none_before, Opening}
use Rattle.cp_resolved.proofs.Words.{parts_scope, routine_openings, initial_opening, system_openings, all_tokens, routine_tokens, system_tokens}
use Rattle.cp_tree.specs.declared.declaration.SystemKind.TheVariants as system_kind
use Rattle.cp_tree.specs.Syntax.{Program, Group, System}
use Rattle.cp_scope.specs.declared.types.ValueType.TheVariants as types
use Rattle.cp_scope.specs.declared.types.Meaning.TheVariants as meaning
use Rattle.cp_scope.specs.declared.types.Parameter as check_parameter
use Rattle.cp_scope.specs.Scopes.{Names, parameters_in, settle, Scope, Scopes, Shapes, Shape, system_shape, shape_in, as_member, member_at, heading_at, look_in, or_else, look_outer, look, with_shape, sealed, enter, Around, last_of, leave, keep, census}
use Rattle.cp_scope.specs.Scopes as checker
use Rattle.cp_check.specs.declared.types.Spot.TheVariants as spot
use Rattle.cp_check.specs.declared.types.Holding.TheVariants as holds
use Rattle.cp_check.specs.Types as typing
use Rattle.cp_check.specs.Routines.{Opened, need_of, routine_steps}
use Rattle.cp_check.specs.Statements.{statements}
use Rattle.cp_check.specs.Systems as systems_of
use Rattle.cp_check.specs.Systems.{inside, initial_context, system_heading}
use Rattle.cp_meaning.specs.Types as named
use Rattle.cp_meaning.specs.Scopes as scopes
use Rattle.cp_meaning.specs.Declarations as meant
use Rattle.cp_resolved.specs.Judging.{Place, parts_scopes, initial_place, routine_places, system_places, AreAgreed}
use Rattle.cp_resolved.specs.Typed.{Tokens, SystemThere, IsValueParameter, IsSystemParameter, Written, TypeIs, IsHanded, AreParameters, HeadingIs, RoutineIs}
use Rattle.cp_resolved.specs.Standing.{is_indexed}
use Rattle.cp_resolved.proofs.frames.LeastCells.{right_true}
use Rattle.cp_resolved.specs.Small.{IsParameter, AreParameters as HaveFit}
use Rattle.cp_resolved.proofs.agreeing.Agreeing.{Good, Sound, good_then, good_sound, none_left, none_right, look_entered, inner_look, More, more_same, more_trans, with_more, with_there, with_other, free_others, appends_none}
use Rattle.cp_resolved.proofs.agreeing.AgreeingNames.{W, HeadingThere, heading_kept, heading_more, heading_is_more, parameters_more, AreStarts, New, Known, IsKnown, is_known_moved, IsStacked, AreEntries, Agree, sees, sees_of, fit_of, agree_returned}
use Rattle.cp_resolved.proofs.agreeing.AgreeingTypes.{Held, held_named, IsFew, KindOf, type_named}
use Rattle.cp_resolved.proofs.agreeing.AgreeingWritten.{each_left, each_right}
use Rattle.cp_resolved.proofs.agreeing.AgreeingParameters.{free_handed, copies, parameters_both, copies_are, names_read, shapes_added}
use Rattle.cp_resolved.proofs.declarations.ValueParameters.{groups_values}
use Rattle.cp_resolved.proofs.counts.FewReferences.{each_weaker}
use Rattle.cp_resolved.proofs.declarations.ParametersRead.{parts_read, longer_read}
use Rattle.cp_resolved.proofs.agreeing.AgreeingParts.{standing_may, NamesResult, StepResult, step_then, step_same, names_result, all_declared, permanent_kind, parts_agree}
use Rattle.cp_resolved.proofs.agreeing.AgreeingRoutines.{none_after, AreRead}
use Rattle.cp_resolved.proofs.agreeing.AgreeingBodies.{Uses, loud_uses, all_heard, place_agreed, RoutinesResult, routines_agree}
use Rattle.cp_resolved.proofs.agreeing.VariablesAmongNames.{Declares, declares_more, declares_stand, parts_declare, Counted, closed_counted}
use Rattle.cp_resolved.proofs.declarations.Reserving.{AreFresh, pending_fresh}

pub agreed_append : (tokens : Tokens) (p : Program) (xs ys : List Place) (os qs : List Opening) → AreAgreed tokens p xs os → AreAgreed tokens p ys qs → AreAgreed tokens p (xs ++ ys) (os ++ qs)
agreed_append tokens p [] ys [] qs h g = g
agreed_append tokens p (x ∷ xs) ys (o ∷ os) qs h g = (h.0, agreed_append tokens p xs ys os qs h.1 g)
agreed_append tokens p _ ys _ qs h g = absurd h

seen_limited : (m : scopes.Scope) → AreLimited m → AreLimited (seen_inside m)
seen_limited [] h = tt
seen_limited (d ∷ ds) h = go (scopes.is_seen d.1) (seen_limited ds h.1)
  where
    go : (b : Bool) → AreLimited (seen_inside ds) → AreLimited (if b then d ∷ seen_inside ds else seen_inside ds)
    go true rest = (h.0, rest)
    go false rest = rest

module _ (tokens : Tokens) (p : Program) where
  -- ---- parameters

  component_good : (at : ℕ) (o k : SystemKind) (P : ValueType → Type 0) (v : ValueType) → P v → Good P (systems_of.check_component_parameter at o k v)
  component_good at system_kind.Class system_kind.Class P v h = h
  component_good at system_kind.Class system_kind.Monitor P v h = h
  component_good at system_kind.Monitor system_kind.Monitor P v h = h
  component_good at system_kind.Process system_kind.Monitor P v h = h
  component_good at _ _ P v h = tt

  -- a type that a parameter may have
  record HandedType (ss : Shapes) (t : Ty) (v : ValueType) : Type 0 where
    pub kind : KindOf tokens ss t v
    pub handed : IsHanded false t

  element_handed : (t : Ty) → is_element t ≡ true → (t ≡ named.queue_type → ⊥) → IsHanded false t
  element_handed named.queue_type h q = absurd (q refl)
  element_handed (named.component_of n) h q = tt
  element_handed _ h q = h

  no_queue : (s : Scopes) (t : Ty) (v : ValueType) (j : SystemKind) → TypeIs (W tokens s.shapes) t v → typing.holding s v ≡ holds.Component j → t ≡ named.queue_type → ⊥
  no_queue s t v j i e q =
      let queue : v ≡ types.Queue = subst (λ (u : Ty). TypeIs (W tokens s.shapes) u v) q i in
      (let bad : holds.Queue ≡ holds.Component j = sym (ap (typing.holding s) queue) ∙ e in cc)

  admitted_handed : (at : ℕ) (o : SystemKind) (s : Scopes) (t : Ty) (v : ValueType) (h : Holding) → typing.holding s v ≡ h → KindOf tokens s.shapes t v → Held h t → Good (HandedType s.shapes t) (systems_of.check_parameter_type at o h v)
  admitted_handed at o s t v holds.Plain e i k = record { kind = i; handed = free_handed false t (k.free refl) }
  admitted_handed at o s t v (holds.Component j) e i k = component_good at o j (HandedType s.shapes t) v (record { kind = i; handed = element_handed t (k.element tt) (no_queue s t v j i.belongs e) })
  admitted_handed at o s t v _ e i k = tt

  parameter_handed : (o : SystemKind) (s : Scopes) (m : scopes.Scope) (g : Group) → IsKnown tokens s m g.type_name.name (look g.type_name.name s) → Good (HandedType s.shapes (meant.type_named m g.type_name.name)) (systems_of.parameter_type o s g)
  unfolding systems_of.parameter_type
  parameter_handed o s m g h =
      let t : Ty = meant.type_named m g.type_name.name in
      good_then (KindOf tokens s.shapes t) (HandedType s.shapes t) (typing.type_named s g.type_name.at g.type_name.name) (systems_of.check_parameter_type_in s g.type_name.at o) (type_named tokens s m g.type_name.at g.type_name.name h)
      (λ v k. admitted_handed g.type_name.at o s t v (typing.holding s v) refl k (held_named (W tokens s.shapes) s t v refl k.belongs k.standing))

  -- a group of parameters, after its names are reserved
  record GroupTyped (o : SystemKind) (s : Scopes) (m below : scopes.Scope) (ks : List ℕ) (g : Group) : Type 0 where
    pub reserved : NamesResult tokens p false None s (reserve_names s g.names).scopes g.names m below ks
    pub type : Sound (HandedType (reserve_names s g.names).scopes.shapes (meant.type_named m g.type_name.name)) (systems_of.parameter_type o (reserve_names s g.names).scopes g)

  group_typed : (o : SystemKind) (s : Scopes) (m below : scopes.Scope) (ks : List ℕ) (g : Group) → (systems_of.group_step o s g).faults ≡ [] → s.inner.pending ≡ [] → Agree tokens p false None s m below ks → GroupTyped o s m below ks g
  unfolding systems_of.group_step
  group_typed o s m below ks g e empty h =
      let a : Scopes = (reserve_names s g.names).scopes in
      let j : Judged ValueType = systems_of.parameter_type o a g in
      let r = names_result tokens p false None s g.names m below ks (none_left (reserve_names s g.names).faults (faults (j >>= systems_of.to_parameter)) e) empty h in
      record {
        reserved = r;
        type = good_sound (HandedType a.shapes (meant.type_named m g.type_name.name)) j (parameter_handed o a m g (sees tokens p false None a m below ks r.agree g.type_name.name tt)) (none_first j systems_of.to_parameter (none_right (reserve_names s g.names).faults (faults (j >>= systems_of.to_parameter)) e));
      }

  parameter_new : (ss : Shapes) (u : Scopes) (n : Name) (t : Ty) (v : ValueType) → u.shapes ≡ ss → KindOf tokens ss t v → New tokens u n (meaning.Parameter v) (scopes.permanent_variable t)
  parameter_new ss u n t v e h = record { means = λ r. (subst (λ us. TypeIs (W tokens us) t v) (sym e) h.belongs, standing_may t h.standing); marked = tt; there = tt; fit = h.standing }

  group_agrees : (o : SystemKind) (s : Scopes) (m below : scopes.Scope) (ks : List ℕ) (g : Group) → (systems_of.group_step o s g).faults ≡ [] → s.inner.pending ≡ [] → Agree tokens p false None s m below ks →
      StepResult tokens p false None s (systems_of.group_step o s g).scopes (meant.with_names (meant.names_of g.names) (scopes.permanent_variable (meant.type_named m g.type_name.name)) m) below ks
  unfolding systems_of.group_step
  group_agrees o s m below ks g e empty h =
      let a : Scopes = (reserve_names s g.names).scopes in
      let t : Ty = meant.type_named m g.type_name.name in
      let x : GroupTyped o s m below ks g = group_typed o s m below ks g e empty h in
      let r = x.reserved in
      let v = x.type in
      subst (λ (i : Judged ValueType). StepResult tokens p false None s (add_all a g.names (meaning_or_none (i >>= systems_of.to_parameter))) (meant.with_names (meant.names_of g.names) (scopes.permanent_variable t) m) below ks) (sym v.is)
      (all_declared tokens p false None s a g.names m below ks (meaning.Parameter v.value) (scopes.permanent_variable t) (pending_fresh a.inner g.names a.inner.pending r.reserved.pends r.reserved.all) r.reserved.others (λ i. absurd (cc))
      (λ u i n. parameter_new a.shapes u n t v.value i v.holds.kind) r.outer (λ k d i. ap (shape_in k) r.shapes ∙ i) (appends_none s.inner.names a.inner.names r.reserved.names) r.agree)

  groups_agree : (o : SystemKind) (s : Scopes) (h : meant.Heading) (below : scopes.Scope) (ks : List ℕ) (gs : List Group) → (systems_of.group_steps o s gs).faults ≡ [] → s.inner.pending ≡ [] → Agree tokens p false None s h.scope below ks →
      StepResult tokens p false None s (systems_of.group_steps o s gs).scopes (meant.with_groups scopes.permanent_variable h gs).scope below ks
  unfolding systems_of.group_steps
  groups_agree o s h below ks [] e empty agree = step_same tokens p false None s h.scope below ks empty agree
  groups_agree o s h below ks (g ∷ gs) e empty agree =
      let t : Scopes = (systems_of.group_step o s g).scopes in
      let k : meant.Heading = meant.with_group scopes.permanent_variable false h g in
      let r = group_agrees o s h.scope below ks g (none_left (systems_of.group_step o s g).faults (systems_of.group_steps o t gs).faults e) empty agree in
      step_then tokens p false None s t (systems_of.group_steps o t gs).scopes k.scope (meant.with_groups scopes.permanent_variable k gs).scope below ks ks r
      (groups_agree o t k below ks gs (none_right (systems_of.group_step o s g).faults (systems_of.group_steps o t gs).faults e) r.settled r.agree)

  -- ---- types of parameters

  handed_stands : (t : Ty) → IsHanded false t → is_standing t ≡ true
  handed_stands named.queue_type h = refl
  handed_stands (named.component_of n) h = refl
  handed_stands (named.array_over q named.queue_type) h = absurd (let bad : false ≡ true = right_true (is_indexed q named.queue_type) false h in cc)
  handed_stands (named.array_over q (named.component_of n)) h = absurd (let bad : false ≡ true = right_true (is_indexed q (named.component_of n)) false h in cc)
  handed_stands _ h = h

  handed_parameter : (q : meant.Parameter) → IsSystemParameter q → IsStandingParameter q
  handed_parameter q h = handed_stands q.ty (subst (λ (b : Bool). IsHanded b q.ty) h.0 h.1)

  -- ---- parameters as the checker keeps them

  group_read : (o : SystemKind) (s : Scopes) (m below : scopes.Scope) (ks : List ℕ) (g : Group) (qs : List meant.Parameter) → (systems_of.group_step o s g).faults ≡ [] → s.inner.pending ≡ [] → Agree tokens p false None s m below ks → AreRead tokens p s qs →
      AreRead tokens p (systems_of.group_step o s g).scopes (qs ++ meant.parameters_named (meant.names_of g.names) (meant.type_named m g.type_name.name) false)
  unfolding systems_of.group_step add_all settle
  group_read o s m below ks g qs e empty h read =
      let a : Scopes = (reserve_names s g.names).scopes in
      let t : Ty = meant.type_named m g.type_name.name in
      let x : GroupTyped o s m below ks g = group_typed o s m below ks g e empty h in
      let r = x.reserved in
      let v = x.type in
      let b : check_parameter.Parameter = record { is_var = false; value_type = v.value } in
      let before : AreParameters (W tokens a.shapes) (parameters_in a.inner.names) qs =
      subst (λ (ns : Names). AreParameters (W tokens a.shapes) (parameters_in ns) qs) (sym r.reserved.names) (subst (λ (ss : Shapes). AreParameters (W tokens ss) (parameters_in s.inner.names) qs) (sym r.shapes) read) in
      let fresh : AreFresh g.names a.inner.names = pending_fresh a.inner g.names a.inner.pending r.reserved.pends r.reserved.all in
      let all : AreParameters (W tokens a.shapes) (parameters_in (add_names a g.names (Some (meaning.Parameter v.value))).inner.names) (qs ++ meant.parameters_named (meant.names_of g.names) t false) =
      subst (λ (as' : List check_parameter.Parameter). AreParameters (W tokens a.shapes) as' (qs ++ meant.parameters_named (meant.names_of g.names) t false)) (sym (names_read a g.names (meaning.Parameter v.value) b refl fresh r.reserved.others))
      (parameters_both (W tokens a.shapes) (parameters_in a.inner.names) (copies b g.names) qs (meant.parameters_named (meant.names_of g.names) t false) before (copies_are (W tokens a.shapes) b t false g.names refl v.holds.kind.belongs v.holds.handed)) in
      subst (λ (i : Judged ValueType). AreRead tokens p (add_all a g.names (meaning_or_none (i >>= systems_of.to_parameter))) (qs ++ meant.parameters_named (meant.names_of g.names) t false)) (sym v.is)
      (subst (λ (ss : Shapes). AreParameters (W tokens ss) (parameters_in (add_names a g.names (Some (meaning.Parameter v.value))).inner.names) (qs ++ meant.parameters_named (meant.names_of g.names) t false)) (sym (shapes_added a g.names (Some (meaning.Parameter v.value)))) all)

  groups_read : (o : SystemKind) (s : Scopes) (h : meant.Heading) (below : scopes.Scope) (ks : List ℕ) (gs : List Group) → (systems_of.group_steps o s gs).faults ≡ [] → s.inner.pending ≡ [] → Agree tokens p false None s h.scope below ks → AreRead tokens p s h.parameters →
      AreRead tokens p (systems_of.group_steps o s gs).scopes (meant.with_groups scopes.permanent_variable h gs).parameters
  unfolding systems_of.group_steps
  groups_read o s h below ks [] e empty agree read = read
  groups_read o s h below ks (g ∷ gs) e empty agree read =
      let t : Scopes = (systems_of.group_step o s g).scopes in
      let k : meant.Heading = meant.with_group scopes.permanent_variable false h g in
      let none : (systems_of.group_step o s g).faults ≡ [] = none_left (systems_of.group_step o s g).faults (systems_of.group_steps o t gs).faults e in
      let r = group_agrees o s h.scope below ks g none empty agree in
      groups_read o t k below ks gs (none_right (systems_of.group_step o s g).faults (systems_of.group_steps o t gs).faults e) r.settled r.agree (group_read o s h.scope below ks g h.parameters none empty agree read)

  -- ---- no parameter is an array of components

  handed_fits : (t : Ty) → IsHanded false t → IsParameter t
  handed_fits (named.array_over q (named.component_of n)) h = absurd (let bad : false ≡ true = right_true (is_indexed q (named.component_of n)) false h in cc)
  handed_fits (named.array_over q t) h = refl
  handed_fits _ h = tt

  groups_fit : (o : SystemKind) (s : Scopes) (h : meant.Heading) (below : scopes.Scope) (ks : List ℕ) (gs : List Group) → (systems_of.group_steps o s gs).faults ≡ [] → s.inner.pending ≡ [] → Agree tokens p false None s h.scope below ks → HaveFit h gs
  unfolding systems_of.group_steps
  groups_fit o s h below ks [] e empty agree = tt
  groups_fit o s h below ks (g ∷ gs) e empty agree =
      let t : Scopes = (systems_of.group_step o s g).scopes in
      let k : meant.Heading = meant.with_group scopes.permanent_variable false h g in
      let none : (systems_of.group_step o s g).faults ≡ [] = none_left (systems_of.group_step o s g).faults (systems_of.group_steps o t gs).faults e in
      let r = group_agrees o s h.scope below ks g none empty agree in
      (handed_fits (meant.type_named h.scope g.type_name.name) (group_typed o s h.scope below ks g none empty agree).type.holds.handed, groups_fit o t k below ks gs (none_right (systems_of.group_step o s g).faults (systems_of.group_steps o t gs).faults e) r.settled r.agree)

  -- ---- into a system type

  pub entered_agrees : (s : Scopes) (m below : scopes.Scope) (ks : List ℕ) → Agree tokens p true None s m below ks → Agree tokens p false None (enter true s) (seen_inside m) (seen_inside m) ks
  unfolding enter
  entered_agrees s m below ks h =
      record {
        unsealed = refl;
        names = λ x. record { found = refl; rest = refl; latest = refl };
        seen = λ x. record { found = refl; rest = refl; latest = refl };
        outer = λ x g. subst (IsKnown tokens (enter true s) (seen_inside m) x) (sym (look_entered true x s))
            (is_known_moved tokens s (enter true s) (seen_inside m) (seen_inside m) x (or_else (inner_look true s x) (look_outer x s.outer)) (more_same s.shapes) refl refl
            (sees_of tokens p s (seen_inside m) below x (inner_look true s x) (look_outer x s.outer) (h.seen x) (h.outer x tt)));
        own = tt;
        base = λ x. fit_of tokens p s (seen_inside m) below x (inner_look true s x) (h.seen x) (h.base x);
        limited = seen_limited m h.limited;
        free = h.free;
        different = h.different;
        entries = h.entries;
        starts = h.starts;
      }

  -- ---- the declarations inside

  pub record InsideResult (s : Scopes) (m : scopes.Scope) (ks : List ℕ) (n : ℕ) (y : System) : Type 0 where
    pub places : AreAgreed tokens p (system_places s y) (system_openings n m y)
    pub step : StepResult tokens p false None s (inside s y).scopes (system_in m y).scope m (y.at ∷ ks)
    pub variables : Each IsStandingVariable (system_in m y).variables
    pub fit : HaveFit (record { parameters = []; scope = m }) y.parameters
    pub read : AreRead tokens p (inside s y).scopes (system_in m y).parameters
    pub declares : Declares tokens (spot.Permanent (Some y.kind)) (inside s y).scopes.shapes (system_in m y).variables (inside s y).scopes.inner.names
    pub uses : Uses (systems_of.enter_system s y).uses
    -- where its routines begin
    pub begins : Agree tokens p false None (parts_scopes s y) (parts_scope m y) m (all_tokens routine_tokens y.routines (y.at ∷ ks))
    pub settled : (parts_scopes s y).inner.pending ≡ []
    pub none : (routine_steps (Some y.kind) (parts_scopes s y) y.routines).faults ≡ []

  pub inside_agrees : (s : Scopes) (m : scopes.Scope) (ks : List ℕ) (n : ℕ) (y : System) → faults (systems_of.enter_system s y).uses ≡ [] → IsSmallSystem y → Each (IsFew tokens) (in_system y) → s.inner.pending ≡ [] → Agree tokens p false None s m m (system_tokens y ks) → AreRead tokens p s [] → InsideResult s m ks n y
  unfolding systems_of.enter_system inside
  inside_agrees s m ks n y e small few empty h first_read =
      let d : Step = inside s y in
      let j : Judged Use = statements d.scopes (initial_context y.kind) (Ok no_use) y.body.statements in
      let none : d.faults ≡ [] = none_before d.faults j e in
      let a : Step = systems_of.group_steps y.kind s y.parameters in
      let b : Step = part_steps (spot.Permanent (Some y.kind)) a.scopes y.parts in
      let c : Step = routine_steps (Some y.kind) b.scopes y.routines in
      let rs : List ℕ = all_tokens routine_tokens y.routines (y.at ∷ ks) in
      let first = groups_agree y.kind s (record { parameters = []; scope = m }) m (system_tokens y ks) y.parameters (none_left a.faults (b.faults ++ c.faults) none) empty h in
      let hs : scopes.Scope = (meant.with_groups scopes.permanent_variable (record { parameters = []; scope = m }) y.parameters).scope in
      let o : Block = record { variables = []; scope = hs } in
      let parts = parts_agree tokens p false (spot.Permanent (Some y.kind)) scopes.permanent_variable (permanent_kind tokens p false (Some y.kind)) a.scopes o m rs y.parts (none_left b.faults c.faults (none_right a.faults (b.faults ++ c.faults) none)) small.0 (each_left (IsFew tokens) (each_in in_part y.parts) (each_in in_routine y.routines) few) first.settled first.agree in
      let declared : Declares tokens (spot.Permanent (Some y.kind)) b.scopes.shapes (system_in m y).variables b.scopes.inner.names =
      parts_declare tokens p false (spot.Permanent (Some y.kind)) scopes.permanent_variable (permanent_kind tokens p false (Some y.kind)) a.scopes o m rs y.parts (none_left b.faults c.faults (none_right a.faults (b.faults ++ c.faults) none)) small.0 (each_left (IsFew tokens) (each_in in_part y.parts) (each_in in_routine y.routines) few) first.settled first.agree tt in
      let ps : scopes.Scope = parts_scope m y in
      let all : RoutinesResult tokens p (Some y.kind) b.scopes ps m (y.at ∷ ks) n y.routines =
      routines_agree tokens p (Some y.kind) b.scopes ps m (y.at ∷ ks) n y.routines (none_right b.faults c.faults (none_right a.faults (b.faults ++ c.faults) none)) small.1 (each_right (IsFew tokens) (each_in in_part y.parts) (each_in in_routine y.routines) few) parts.settled parts.agree in
      let step = step_then tokens p false None s b.scopes c.scopes ps (with_routines ps y.routines) m rs (y.at ∷ ks) (step_then tokens p false None s a.scopes b.scopes hs ps m (system_tokens y ks) rs first parts) all.step in
      let same : after_faults d.faults j ≡ j = none_after d.faults j e in
      let sound : faults j ≡ [] = ap faults (sym same) ∙ e in
      let uses : Uses j = loud_uses j (statements_loud d.scopes (initial_context y.kind) (all_heard tokens p false d.scopes (system_in m y).scope m (y.at ∷ ks) step.agree) y.body.statements (Ok no_use) tt) sound in
      record {
        places = agreed_append tokens p (routine_places (Some y.kind) b.scopes y.routines) (initial_place s y ∷ []) (routine_openings n ps y.routines) (initial_opening n (system_in m y) ∷ []) all.places
            (place_agreed tokens p d.scopes (initial_context y.kind) (system_in m y).scope m (y.at ∷ ks) (initial_opening n (system_in m y)) refl sound tt tt tt (λ z i. absurd (cc)) step.agree, tt);
        step = step;
        begins = parts.agree;
        settled = parts.settled;
        none = none_right b.faults c.faults (none_right a.faults (b.faults ++ c.faults) none);
        fit = groups_fit y.kind s (record { parameters = []; scope = m }) m (system_tokens y ks) y.parameters (none_left a.faults (b.faults ++ c.faults) none) empty h;
        read =
            (let before = groups_read y.kind s (record { parameters = []; scope = m }) m (system_tokens y ks) y.parameters (none_left a.faults (b.faults ++ c.faults) none) empty h first_read in
            subst (λ (as' : List check_parameter.Parameter). AreParameters (W tokens c.scopes.shapes) as' (system_in m y).parameters) (sym (all.read ∙ longer_read a.scopes.inner b.scopes.inner (parts_read (spot.Permanent (Some y.kind)) a.scopes y.parts)))
            (parameters_more tokens a.scopes.shapes c.scopes.shapes (more_trans a.scopes.shapes b.scopes.shapes c.scopes.shapes parts.more all.step.more) (parameters_in a.scopes.inner.names) (system_in m y).parameters before));
        variables = declares_stand tokens (spot.Permanent (Some y.kind)) b.scopes.shapes (system_in m y).variables b.scopes.inner.names declared;
        declares = declares_more tokens (spot.Permanent (Some y.kind)) b.scopes.shapes c.scopes.shapes all.step.more (system_in m y).variables b.scopes.inner.names c.scopes.inner.names all.step.appends declared;
        uses = record { value = uses.value; is = subst (λ (i : Judged Use). i ≡ Ok uses.value) (sym same) uses.is };
      }

  -- ---- out of a system type

  -- its number and its token
  pub record IsNumbered (c : ℕ) (m : scopes.Scope) (y : System) : Type 0 where
    pub meaning : system_of p c ≡ system_in m y
    pub token : tokens.systems c ≡ y.at
    pub kind : tokens.kinds c ≡ y.kind
    pub only : (k : ℕ) → tokens.systems k ≡ y.at → k ≡ c

  routine_entry : (s : Scopes) (m : scopes.Scope) (x : Name) (n : ℕ) (o : Option scopes.Meaning) → RoutineIs (W tokens s.shapes) (heading_at n s) x m o → HeadingIs (W tokens s.shapes) (heading_at n s) (routine_of_system x o m)
  routine_entry s m x n (Some (scopes.routine_meaning r)) h = h
  routine_entry s m x n _ h = absurd h

  -- the routines of a component of the type that was closed
  own_entry : (s : Scopes) (m below : scopes.Scope) (ks : List ℕ) (c : ℕ) (around : scopes.Scope) (y : System) (n : ℕ) (x : Name) → IsNumbered c around y → m ≡ (system_in around y).scope → Agree tokens p false None s m below ks → look_in x s.inner ≡ Some (Some (meaning.Routine n)) →
      HeadingIs (W tokens s.shapes) (heading_at n s) (routine_of_type p (named.component_of c) x) × HeadingThere n s.shapes
  own_entry s m below ks c around y n x i same h e =
      let found : inner_look false s x ≡ Some (Some (meaning.Routine n)) = sym (ap (λ (b : Bool). if b then checker.through_seal (checker.find x s.inner.names) else checker.find x s.inner.names) h.unsealed) ∙ e in
      let known : Known tokens s m x (meaning.Routine n) = subst (IsStacked tokens s m below x) found (h.names x) in
      let scope : m ≡ (system_of p c).scope = same ∙ sym (ap (λ (z : _). z.scope) i.meaning) in
      (subst (λ (z : scopes.Scope). HeadingIs (W tokens s.shapes) (heading_at n s) (routine_of_system x (find x z) z)) scope (routine_entry s m x n (find x m) known.means), known.there)

  closed_entries : (s t : Scopes) (m below : scopes.Scope) (ks : List ℕ) (c : ℕ) (around : scopes.Scope) (y : System) (d : Shape) → IsNumbered c around y → m ≡ (system_in around y).scope → Agree tokens p false None s m below (y.at ∷ ks) → ((x : Name) → as_member x (Some d) ≡ look_in x s.inner) → t.shapes ≡ with_shape s.shapes y.at d → AreEntries tokens p t
  closed_entries s t m below ks c around y d i same h members is k n x e = go (nat_eq (tokens.systems k) y.at) refl
    where
      more : More s.shapes t.shapes
      more = λ j f g. ap (shape_in j) is ∙ with_more s.shapes y.at d h.free.0 j f g

      moved : (q : ℕ) → HeadingIs (W tokens s.shapes) (heading_at n s) (routine_of_type p (named.component_of q) x) × HeadingThere n s.shapes → HeadingIs (W tokens t.shapes) (heading_at n t) (routine_of_type p (named.component_of q) x) × HeadingThere n t.shapes
      moved q r = (subst (λ (f : checker.Heading). HeadingIs (W tokens t.shapes) f (routine_of_type p (named.component_of q) x)) (sym (heading_kept n s.shapes t.shapes more r.1)) (heading_is_more tokens s.shapes t.shapes more (heading_at n s) (routine_of_type p (named.component_of q) x) r.0), heading_more n s.shapes t.shapes more r.1)

      there : as_member x (shape_in (tokens.systems k) (with_shape s.shapes y.at d)) ≡ Some (Some (meaning.Routine n))
      there = sym (ap (λ ss. as_member x (shape_in (tokens.systems k) ss)) is) ∙ e

      go : (b : Bool) → nat_eq (tokens.systems k) y.at ≡ b → HeadingIs (W tokens t.shapes) (heading_at n t) (routine_of_type p (named.component_of k) x) × HeadingThere n t.shapes
      go true at =
          let token : tokens.systems k ≡ y.at = (Decides-eqb (tokens.systems k) y.at).0 at in
          let own : look_in x s.inner ≡ Some (Some (meaning.Routine n)) = sym (members x) ∙ ap (as_member x) (sym (with_there s.shapes y.at d h.free.0)) ∙ ap (λ j. as_member x (shape_in j (with_shape s.shapes y.at d))) (sym token) ∙ there in
          subst (λ j. HeadingIs (W tokens t.shapes) (heading_at n t) (routine_of_type p (named.component_of j) x) × HeadingThere n t.shapes) (sym (i.only k token)) (moved c (own_entry s m below (y.at ∷ ks) c around y n x i same h own))
      go false at = moved k (h.entries k n x (other_entry at))
        where
          other_entry : nat_eq (tokens.systems k) y.at ≡ false → member_at (tokens.systems k) x s ≡ Some (Some (meaning.Routine n))
          other_entry at = ap (as_member x) (sym (with_other s.shapes y.at (tokens.systems k) d h.free.0 (λ j. (let bad : true ≡ false = sym ((Decides-eqb (tokens.systems k) y.at).1 j) ∙ at in absurd cc)))) ∙ there

  closed_starts : (s t : Scopes) (c : ℕ) (around : scopes.Scope) (y : System) (m : Scope) (census' : Census) (need : ℕ) → IsNumbered c around y → shape_in y.at s.shapes ≡ None → t.shapes ≡ with_shape s.shapes y.at (system_shape m (system_heading s) census' need) → AreRead tokens p s (system_in around y).parameters → AreStarts tokens p s → AreStarts tokens p t
  closed_starts s t c around y m census' need i free is read h k e = go (nat_eq (tokens.systems k) y.at) refl
    where
      d : Shape
      d = system_shape m (system_heading s) census' need

      more : More s.shapes t.shapes
      more = λ j f g. ap (shape_in j) is ∙ with_more s.shapes y.at d free j f g

      heading_same : (a b : Scope) (x z : checker.Heading) (u v : Census) (n l : ℕ) → Some (system_shape a x u n) ≡ Some (system_shape b z v l) → x ≡ z
      heading_same a b x z u v n l q = cc

      go : (b : Bool) → nat_eq (tokens.systems k) y.at ≡ b → AreParameters (W tokens t.shapes) e.heading.parameters (system_of p k).parameters × Each IsValueParameter (system_of p k).parameters
      go true at =
          let token : tokens.systems k ≡ y.at = (Decides-eqb (tokens.systems k) y.at).0 at in
          let there : shape_in (tokens.systems k) t.shapes ≡ Some d = ap (λ j. shape_in j t.shapes) token ∙ ap (shape_in y.at) is ∙ with_there s.shapes y.at d free in
          let one : e.heading ≡ system_heading s = heading_same e.names m e.heading (system_heading s) e.census census' e.need need (sym e.there ∙ there) in
          let meaning : system_of p k ≡ system_in around y = ap (system_of p) (i.only k token) ∙ i.meaning in (
            subst (λ (z : checker.Heading). AreParameters (W tokens t.shapes) z.parameters (system_of p k).parameters) (sym one)
                (subst (λ (z : SystemMeaning). AreParameters (W tokens t.shapes) (parameters_in s.inner.names) z.parameters) (sym meaning)
                (parameters_more tokens s.shapes t.shapes more (parameters_in s.inner.names) (system_in around y).parameters read)),
            subst (λ (z : SystemMeaning). Each IsValueParameter z.parameters) (sym meaning) (groups_values (record { parameters = []; scope = around }) y.parameters tt),
          )
      go false at =
          let other : shape_in (tokens.systems k) t.shapes ≡ shape_in (tokens.systems k) s.shapes = ap (shape_in (tokens.systems k)) is ∙ with_other s.shapes y.at (tokens.systems k) d free (λ j. (let bad : true ≡ false = sym ((Decides-eqb (tokens.systems k) y.at).1 j) ∙ at in absurd cc)) in
          let before = h k (record { names = e.names; heading = e.heading; census = e.census; need = e.need; there = sym other ∙ e.there }) in
          (parameters_more tokens s.shapes t.shapes more e.heading.parameters (system_of p k).parameters before.0, before.1)

  pub record ClosedResult (s t : Scopes) (m below : scopes.Scope) (ks : List ℕ) (y : System) : Type 0 where
    pub agree : Agree tokens p true None t m below ks
    pub outer : t.outer ≡ s.outer
    pub names : t.inner.names ≡ s.inner.names
    pub more : More s.shapes t.shapes
    pub there : SystemThere y.at t.shapes

  closed_agrees : (s u : Scopes) (m below : scopes.Scope) (js ks : List ℕ) (c : ℕ) (y : System) (w : Use) → IsNumbered c (seen_inside m) y → Agree tokens p true None s m below js → Agree tokens p false None u (system_in (seen_inside m) y).scope (seen_inside m) (y.at ∷ ks) → u.outer ≡ (enter true s).outer → More s.shapes u.shapes → AreRead tokens p u (system_in (seen_inside m) y).parameters →
      ClosedResult s (systems_of.close_system u y.at w) m below ks y
  unfolding systems_of.close_system keep leave enter
  closed_agrees s u m below js ks c y w i before h outer more read =
      let d : Shape = system_shape u.inner (system_heading u) (census u.inner.names u.shapes) (need_of w) in
      let t : Scopes = systems_of.close_system u y.at w in
      let last : last_of u.outer ≡ (let b : Around = record { outer = s.outer; inner = sealed true s.inner } in b) = ap last_of outer ∙ last_is s.outer (sealed true s.inner) in
      let all : More s.shapes t.shapes = more_trans s.shapes u.shapes t.shapes more (with_more u.shapes y.at d h.free.0) in
      record {
        agree = agree_returned tokens p true None s t m below js ks before (ap (λ (b : Around). b.outer) last) (ap (λ (b : Around). b.inner.names) last) refl all
            (free_others u.shapes y.at d ks h.free.0 h.different.0 h.free.1) h.different.1 (closed_entries u t (system_in (seen_inside m) y).scope (seen_inside m) ks c (seen_inside m) y d i refl h (λ x. refl) refl) (closed_starts u t c (seen_inside m) y u.inner (census u.inner.names u.shapes) (need_of w) i h.free.0 refl read h.starts);
        outer = ap (λ (b : Around). b.outer) last;
        names = ap (λ (b : Around). b.inner.names) last;
        more = all;
        there = record { names = u.inner; heading = system_heading u; census = census u.inner.names u.shapes; need = need_of w; there = with_there u.shapes y.at d h.free.0 };
      }

  -- ---- a system type

  system_handed : (w : Written) (as' : List check_parameter.Parameter) (qs : List meant.Parameter) → AreParameters w as' qs → Each IsValueParameter qs → Each IsSystemParameter qs
  system_handed w [] [] h g = tt
  system_handed w (a ∷ as') (q ∷ qs) h g = ((g.0, h.0.handed), system_handed w as' qs h.1 g.1)
  system_handed w [] (q ∷ qs) h g = absurd h
  system_handed w (a ∷ as') [] h g = tt

  pub record SystemResult (s : Scopes) (m below : scopes.Scope) (ks : List ℕ) (n : ℕ) (y : System) (t : Typed) : Type 0 where
    pub inside : InsideResult (enter true s) (seen_inside m) ks n y
    pub places : AreAgreed tokens p (system_places (enter true s) y) (system_openings n (seen_inside m) y)
    pub variables : Each IsStandingVariable (system_in (seen_inside m) y).variables
    pub parameters : Each IsStandingParameter (system_in (seen_inside m) y).parameters
    pub fit : HaveFit (record { parameters = []; scope = seen_inside m }) y.parameters
    pub counted : Counted tokens p n t.scopes.shapes
    pub handed : Each IsSystemParameter (system_in (seen_inside m) y).parameters
    pub is : t.type ≡ Ok (types.Component y.kind y.at)
    pub closed : ClosedResult s t.scopes m below ks y

  pub system_agrees : (s : Scopes) (m below : scopes.Scope) (ks : List ℕ) (n : ℕ) (y : System) → IsNumbered n (seen_inside m) y → faults (systems_of.system_type s y).type ≡ [] → IsSmallSystem y → Each (IsFew tokens) (in_system y) → Agree tokens p true None s m below (system_tokens y ks) →
      SystemResult s m below ks n y (systems_of.system_type s y)
  unfolding systems_of.system_type systems_of.enter_system enter parameters_in
  system_agrees s m below ks n y i e small few h =
      let a : Scopes = enter true s in
      let o : Opened = systems_of.enter_system a y in
      let r : InsideResult a (seen_inside m) ks n y = inside_agrees a (seen_inside m) ks n y (none_first o.uses (systems_of.to_component y.kind y.at) e) small few refl (entered_agrees s m below (system_tokens y ks) h) tt in
      let handed : Each IsSystemParameter (system_in (seen_inside m) y).parameters = system_handed (W tokens (inside a y).scopes.shapes) (parameters_in (inside a y).scopes.inner.names) (system_in (seen_inside m) y).parameters r.read (groups_values (record { parameters = []; scope = seen_inside m }) y.parameters tt) in
      record {
        inside = r;
        places = r.places;
        variables = r.variables;
        parameters = each_weaker IsSystemParameter IsStandingParameter handed_parameter (system_in (seen_inside m) y).parameters handed;
        fit = r.fit;
        counted = closed_counted tokens p n (seen_inside m) y o.scopes (systems_of.use_of o.uses) i.token i.meaning r.step.agree.free.0 r.declares;
        handed = handed;
        is = ap (λ (j : Judged Use). j >>= systems_of.to_component y.kind y.at) r.uses.is;
        closed = closed_agrees s o.scopes m below (system_tokens y ks) ks n y (systems_of.use_of o.uses) i h r.step.agree r.step.outer r.step.more r.read;
      }
