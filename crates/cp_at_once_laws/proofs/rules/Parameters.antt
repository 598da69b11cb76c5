-- No parameter of a system type is a process (C15).
use Rattle.std.proofs.Common.{◌≡◌, ℕ, zero, suc, Bool, true, false, List, [], ◌∷◌, ◌++◌, slice_get, Option, Some, None, Ok, refl, sym, ap, subst, ◌∙◌}
use Rattle.cp_at_once_laws.proofs.Words.{SystemKind, IsRead, IsAccepted, Name, Ty, tokens_of}
use Rattle.cp_tree.specs.declared.declaration.SystemKind.TheVariants as system_kind
use Rattle.cp_tree.specs.Syntax.{Program, Group, System, Definition, type_definition, system_definition, SystemDefinition, ProgramPart, program_types, Tree}
use Rattle.cp_scope.specs.declared.types.ValueType.{ValueType}
use Rattle.cp_scope.specs.declared.types.Meaning.TheVariants as meaning
use Rattle.cp_scope.specs.declared.count.Use.{Use}
use Rattle.cp_scope.specs.Counts.{no_use}
use Rattle.cp_scope.specs.Judged.{Judged, ◌>>=◌, faults}
use Rattle.cp_scope.specs.Scopes.{Scopes, Shapes, shape_in, look, enter, start}
use Rattle.cp_check.specs.declared.types.Holding.{Holding}
use Rattle.cp_check.specs.declared.types.Holding.TheVariants as holds
use Rattle.cp_check.specs.Types as typing
use Rattle.cp_check.specs.Types.{Step, Typed}
use Rattle.cp_check.specs.Declarations.{meaning_or_none, to_kind, reserve_name, reserve_names, add_all}
use Rattle.cp_check.specs.Routines.{routine_steps}
use Rattle.cp_check.specs.Statements.{statements}
use Rattle.cp_check.specs.Systems as systems_of
use Rattle.cp_check.specs.Systems.{inside, definition_step, definition_steps, program_part_step, program_part_steps}
use Rattle.cp_check.specs.Faults.{declarations, program_context, declarations_and_body, faults_of}
use Rattle.cp_meaning.specs.Types as named
use Rattle.cp_meaning.specs.Scopes as scopes
use Rattle.cp_meaning.specs.Scopes.{seen_inside, predeclared}
use Rattle.cp_meaning.specs.Declarations as meant
use Rattle.cp_meaning.specs.Systems.{SystemMeaning, system_in, Declared, definition_in, definitions_in, program_part_in, program_parts_in, declared, own_meaning, or_own, system_of}
use Rattle.cp_resolved.specs.Enumerations.{in_routine, in_definition, in_program_part, each_in, enumerations_of}
use Rattle.cp_resolved.specs.Fit.{nothing_declared}
use Rattle.cp_resolved.specs.Small.{Each, IsSmallDefinition, IsSmallProgramPart, IsSmallProgram}
use Rattle.cp_resolved.specs.Tokens.{AreDifferent, all_tokens, routine_tokens, system_tokens, definition_tokens, program_part_tokens, program_tokens, token_of_type}
use Rattle.cp_resolved.specs.Typed.{ComponentIs, TypeIs}
use Rattle.cp_resolved.proofs.agreeing.Agreeing.{Good, good_then, good_sound, none_left, none_right, appends_none}
use Rattle.cp_resolved.proofs.agreeing.AgreeingNames.{W, New, IsKnown, Agree, sees}
use Rattle.cp_resolved.proofs.agreeing.AgreeingParts.{standing_may, StepResult, name_result, names_result, all_declared}
use Rattle.cp_resolved.proofs.agreeing.AgreeingProgram.{AreNumberedDefinitions, IsNumberedPart, AreNumberedParts, defined_agrees, part_agrees, start_agrees, start_settled, uses_sound}
use Rattle.cp_resolved.proofs.agreeing.AgreeingSystems.{entered_agrees}
use Rattle.cp_resolved.proofs.agreeing.AgreeingTypes.{IsFew, KindOf, type_named}
use Rattle.cp_resolved.proofs.agreeing.AgreeingWritten.{each_left, each_right}
use Rattle.cp_resolved.proofs.agreeing.DifferentIndexed.{tokens_different}
use Rattle.cp_resolved.proofs.agreeing.DifferentTokens.{all_numbered, all_few}
use Rattle.cp_resolved.proofs.declarations.EnumerationsRead.{read_few, read_different}
use Rattle.cp_resolved.proofs.declarations.Reserving.{pending_fresh}
use Rattle.cp_resolved.proofs.declarations.SmallTexts.{read_small}
use Rattle.cp_at_once_laws.proofs.rules.StartsKnown.{HasNoProcess}
use Rattle.cp_meaning_laws.proofs.Once.{no_first as none_first, none_before}

module _ (p : Program) where
  -- ---- one parameter

  abbrev NoProcess : Ty → Type 0
  NoProcess t = (j : ℕ) → t ≡ named.component_of j → (system_of p j).kind ≡ system_kind.Process → ⊥

  -- a type that is a process is held as one
  process_held : (s : Scopes) (t : Ty) (v : ValueType) → TypeIs (W (tokens_of p) s.shapes) t v → (j : ℕ) → t ≡ named.component_of j → (system_of p j).kind ≡ system_kind.Process → typing.holding s v ≡ holds.Component system_kind.Process
  process_held s t v i j e process = go (subst (λ (u : Ty). TypeIs (W (tokens_of p) s.shapes) u v) e i)
    where
      go : ComponentIs (W (tokens_of p) s.shapes) j v → typing.holding s v ≡ holds.Component system_kind.Process
      go c = ap (typing.holding s) c.is ∙ ap holds.Component (c.own ∙ process)

  no_process_of : (s : Scopes) (t : Ty) (v : ValueType) (h : Holding) → typing.holding s v ≡ h → (h ≡ holds.Component system_kind.Process → ⊥) → TypeIs (W (tokens_of p) s.shapes) t v → NoProcess t
  no_process_of s t v h e other i j is process = other (sym e ∙ process_held s t v i j is process)

  component_none : (at : ℕ) (o k : SystemKind) (s : Scopes) (t : Ty) (v : ValueType) → typing.holding s v ≡ holds.Component k → TypeIs (W (tokens_of p) s.shapes) t v → Good (λ (u : ValueType). NoProcess t) (systems_of.check_component_parameter at o k v)
  component_none at system_kind.Class system_kind.Class s t v e i = no_process_of s t v (holds.Component system_kind.Class) e (λ bad. cc) i
  component_none at system_kind.Class system_kind.Monitor s t v e i = no_process_of s t v (holds.Component system_kind.Monitor) e (λ bad. cc) i
  component_none at system_kind.Monitor system_kind.Monitor s t v e i = no_process_of s t v (holds.Component system_kind.Monitor) e (λ bad. cc) i
  component_none at system_kind.Process system_kind.Monitor s t v e i = no_process_of s t v (holds.Component system_kind.Monitor) e (λ bad. cc) i
  component_none at _ _ s t v e i = tt

  admitted_none : (at : ℕ) (o : SystemKind) (s : Scopes) (t : Ty) (v : ValueType) (h : Holding) → typing.holding s v ≡ h → TypeIs (W (tokens_of p) s.shapes) t v → Good (λ (u : ValueType). NoProcess t) (systems_of.check_parameter_type at o h v)
  admitted_none at o s t v holds.Plain e i = no_process_of s t v holds.Plain e (λ bad. cc) i
  admitted_none at o s t v (holds.Component k) e i = component_none at o k s t v e i
  admitted_none at o s t v _ e i = tt

  -- the same keeps the type that it is
  component_kept : (at : ℕ) (o k : SystemKind) (P : ValueType → Type 0) (v : ValueType) → P v → Good P (systems_of.check_component_parameter at o k v)
  component_kept at system_kind.Class system_kind.Class P v h = h
  component_kept at system_kind.Class system_kind.Monitor P v h = h
  component_kept at system_kind.Monitor system_kind.Monitor P v h = h
  component_kept at system_kind.Process system_kind.Monitor P v h = h
  component_kept at _ _ P v h = tt

  admitted_kept : (at : ℕ) (o : SystemKind) (h : Holding) (P : ValueType → Type 0) (v : ValueType) → P v → Good P (systems_of.check_parameter_type at o h v)
  admitted_kept at o holds.Plain P v k = k
  admitted_kept at o (holds.Component j) P v k = component_kept at o j P v k
  admitted_kept at o _ P v k = tt

  parameter_kind : (o : SystemKind) (s : Scopes) (m : scopes.Scope) (g : Group) → IsKnown (tokens_of p) s m g.type_name.name (look g.type_name.name s) → Good (KindOf (tokens_of p) s.shapes (meant.type_named m g.type_name.name)) (systems_of.parameter_type o s g)
  unfolding systems_of.parameter_type
  parameter_kind o s m g h =
      let K : ValueType → Type 0 = KindOf (tokens_of p) s.shapes (meant.type_named m g.type_name.name) in
      good_then K K (typing.type_named s g.type_name.at g.type_name.name) (systems_of.check_parameter_type_in s g.type_name.at o) (type_named (tokens_of p) s m g.type_name.at g.type_name.name h) (λ v k. admitted_kept g.type_name.at o (typing.holding s v) K v k)

  parameter_none : (o : SystemKind) (s : Scopes) (m : scopes.Scope) (g : Group) → IsKnown (tokens_of p) s m g.type_name.name (look g.type_name.name s) → Good (λ (u : ValueType). NoProcess (meant.type_named m g.type_name.name)) (systems_of.parameter_type o s g)
  unfolding systems_of.parameter_type
  parameter_none o s m g h =
      let t : Ty = meant.type_named m g.type_name.name in
      good_then (KindOf (tokens_of p) s.shapes t) (λ (u : ValueType). NoProcess t) (typing.type_named s g.type_name.at g.type_name.name) (systems_of.check_parameter_type_in s g.type_name.at o) (type_named (tokens_of p) s m g.type_name.at g.type_name.name h)
      (λ v k. admitted_none g.type_name.at o s t v (typing.holding s v) refl k.belongs)

  -- ---- groups of parameters

  none_named : (xs : List Name) (t : Ty) (b : Bool) → NoProcess t → HasNoProcess p (meant.parameters_named xs t b)
  none_named [] t b h = tt
  none_named (x ∷ xs) t b h = (h, none_named xs t b h)

  none_both : (qs rs : List meant.Parameter) → HasNoProcess p qs → HasNoProcess p rs → HasNoProcess p (qs ++ rs)
  none_both [] rs h g = g
  none_both (q ∷ qs) rs h g = (h.0, none_both qs rs h.1 g)

  -- what a group leaves, and that it has no process
  record GroupResult (o : SystemKind) (s : Scopes) (m below : scopes.Scope) (ks : List ℕ) (g : Group) : Type 0 where
    step : StepResult (tokens_of p) p false None s (systems_of.group_step o s g).scopes (meant.with_names (meant.names_of g.names) (scopes.permanent_variable (meant.type_named m g.type_name.name)) m) below ks
    none : NoProcess (meant.type_named m g.type_name.name)

  new_parameter : (ss : Shapes) (u : Scopes) (n : Name) (t : Ty) (v : ValueType) → u.shapes ≡ ss → KindOf (tokens_of p) ss t v → New (tokens_of p) u n (meaning.Parameter v) (scopes.permanent_variable t)
  new_parameter ss u n t v e h = record { means = λ r. (subst (λ us. TypeIs (W (tokens_of p) us) t v) (sym e) h.belongs, standing_may t h.standing); marked = tt; there = tt; fit = h.standing }

  group_result : (o : SystemKind) (s : Scopes) (m below : scopes.Scope) (ks : List ℕ) (g : Group) → (systems_of.group_step o s g).faults ≡ [] → s.inner.pending ≡ [] → Agree (tokens_of p) p false None s m below ks → GroupResult o s m below ks g
  unfolding systems_of.group_step
  group_result o s m below ks g e empty h =
      let a : Scopes = (reserve_names s g.names).scopes in
      let j : Judged ValueType = systems_of.parameter_type o a g in
      let t : Ty = meant.type_named m g.type_name.name in
      let r = names_result (tokens_of p) p false None s g.names m below ks (none_left (reserve_names s g.names).faults (faults (j >>= systems_of.to_parameter)) e) empty h in
      let seen = sees (tokens_of p) p false None a m below ks r.agree g.type_name.name tt in
      let sound = none_first j systems_of.to_parameter (none_right (reserve_names s g.names).faults (faults (j >>= systems_of.to_parameter)) e) in
      let v = good_sound (KindOf (tokens_of p) a.shapes t) j (parameter_kind o a m g seen) sound in
      let w = good_sound (λ (u : ValueType). NoProcess t) j (parameter_none o a m g seen) sound in
      record {
        step = subst (λ (i : Judged ValueType). StepResult (tokens_of p) p false None s (add_all a g.names (meaning_or_none (i >>= systems_of.to_parameter))) (meant.with_names (meant.names_of g.names) (scopes.permanent_variable t) m) below ks) (sym v.is)
            (all_declared (tokens_of p) p false None s a g.names m below ks (meaning.Parameter v.value) (scopes.permanent_variable t) (pending_fresh a.inner g.names a.inner.pending r.reserved.pends r.reserved.all) r.reserved.others (λ i. absurd (cc))
            (λ u i n. new_parameter a.shapes u n t v.value i v.holds) r.outer (λ k d i. ap (shape_in k) r.shapes ∙ i) (appends_none s.inner.names a.inner.names r.reserved.names) r.agree);
        none = w.holds;
      }

  groups_none : (o : SystemKind) (s : Scopes) (h : meant.Heading) (below : scopes.Scope) (ks : List ℕ) (gs : List Group) → (systems_of.group_steps o s gs).faults ≡ [] → s.inner.pending ≡ [] → Agree (tokens_of p) p false None s h.scope below ks → HasNoProcess p h.parameters →
      HasNoProcess p (meant.with_groups scopes.permanent_variable h gs).parameters
  unfolding systems_of.group_steps
  groups_none o s h below ks [] e empty agree qs = qs
  groups_none o s h below ks (g ∷ gs) e empty agree qs =
      let t : Scopes = (systems_of.group_step o s g).scopes in
      let k : meant.Heading = meant.with_group scopes.permanent_variable false h g in
      let r = group_result o s h.scope below ks g (none_left (systems_of.group_step o s g).faults (systems_of.group_steps o t gs).faults e) empty agree in
      groups_none o t k below ks gs (none_right (systems_of.group_step o s g).faults (systems_of.group_steps o t gs).faults e) r.step.settled r.step.agree
      (none_both h.parameters (meant.parameters_named (meant.names_of g.names) (meant.type_named h.scope g.type_name.name) false) qs (none_named (meant.names_of g.names) (meant.type_named h.scope g.type_name.name) false r.none))

  -- ---- a system type

  system_none : (s : Scopes) (m below : scopes.Scope) (ks : List ℕ) (y : System) → faults (systems_of.system_type s y).type ≡ [] → Agree (tokens_of p) p true None s m below (system_tokens y ks) → HasNoProcess p (system_in (seen_inside m) y).parameters
  unfolding systems_of.system_type systems_of.enter_system inside enter
  system_none s m below ks y e h =
      let a : Scopes = enter true s in
      let d : Step = inside a y in
      let j : Judged Use = statements d.scopes (systems_of.initial_context y.kind) (Ok no_use) y.body.statements in
      let none : d.faults ≡ [] = none_before d.faults j (none_first (systems_of.enter_system a y).uses (systems_of.to_component y.kind y.at) e) in
      let b : Step = systems_of.group_steps y.kind a y.parameters in
      groups_none y.kind a (record { parameters = []; scope = seen_inside m }) (seen_inside m) (system_tokens y ks) y.parameters (none_left b.faults _ none) refl (entered_agrees (tokens_of p) p s m below (system_tokens y ks) h) tt

  -- ---- definitions

  abbrev HaveNone : List SystemMeaning → Type 0
  HaveNone ms = Each (λ (m : SystemMeaning). HasNoProcess p m.parameters) ms

  each_last : (ms : List SystemMeaning) (m : SystemMeaning) → HaveNone ms → HasNoProcess p m.parameters → HaveNone (ms ++ m ∷ [])
  each_last [] m h g = (g, tt)
  each_last (x ∷ ms) m h g = (h.0, each_last ms m h.1 g)

  defined_none : (a : Scopes) (d : Declared) (below : scopes.Scope) (ks : List ℕ) (n : SystemDefinition) (v : Definition) → Agree (tokens_of p) p true None a d.scope below (definition_tokens v ks) → faults (systems_of.type_of_definition a v).type ≡ [] → HaveNone d.systems → HaveNone (definition_in d n v).systems
  unfolding systems_of.type_of_definition
  defined_none a d below ks n (type_definition t) h e all = all
  defined_none a d below ks n (system_definition y) h e all = each_last d.systems (system_in (seen_inside d.scope) y) all (system_none a d.scope below ks y e h)

  definitions_none : (s : Scopes) (d : Declared) (below : scopes.Scope) (ks : List ℕ) (ns : List SystemDefinition) → (definition_steps s ns).faults ≡ [] → AreNumberedDefinitions (tokens_of p) p d ns → Each (λ n. IsSmallDefinition n.value) ns → Each (IsFew (tokens_of p)) (each_in (λ n. in_definition n.value) ns) → s.inner.pending ≡ [] →
      Agree (tokens_of p) p true None s d.scope below (all_tokens (λ n. definition_tokens n.value) ns ks) → HaveNone d.systems → HaveNone (definitions_in d ns).systems
  unfolding definition_steps definition_step
  definitions_none s d below ks [] e number small few empty h all = all
  definitions_none s d below ks (n ∷ ns) e number small few empty h all =
      let a : Scopes = (reserve_name s n.name).scopes in
      let x : Typed = systems_of.type_of_definition a n.value in
      let t : Scopes = (definition_step s n).scopes in
      let js : List ℕ = all_tokens (λ (c : SystemDefinition). definition_tokens c.value) ns ks in
      let k : Declared = definition_in d n n.value in
      let first : (reserve_name s n.name).faults ++ faults (x.type >>= to_kind) ≡ [] = none_left ((reserve_name s n.name).faults ++ faults (x.type >>= to_kind)) (definition_steps t ns).faults e in
      let r = name_result (tokens_of p) p true None s n.name d.scope below (definition_tokens n.value js) (none_left (reserve_name s n.name).faults (faults (x.type >>= to_kind)) first) empty h in
      let sound = none_first x.type to_kind (none_right (reserve_name s n.name).faults (faults (x.type >>= to_kind)) first) in
      let one = defined_agrees (tokens_of p) p s a d below js n n.value r sound number.0 small.0 (each_left (IsFew (tokens_of p)) (in_definition n.value) (each_in (λ (c : SystemDefinition). in_definition c.value) ns) few) in
      definitions_none t k below ks ns (none_right ((reserve_name s n.name).faults ++ faults (x.type >>= to_kind)) (definition_steps t ns).faults e) number.1 small.1 (each_right (IsFew (tokens_of p)) (in_definition n.value) (each_in (λ (c : SystemDefinition). in_definition c.value) ns) few) one.step.settled one.step.agree
      (defined_none a d below js n n.value r.agree sound all)

  -- ---- the program

  part_none : (s : Scopes) (d : Declared) (below : scopes.Scope) (ks : List ℕ) (q : ProgramPart) → (program_part_step s q).faults ≡ [] → IsNumberedPart (tokens_of p) p d q → IsSmallProgramPart q → Each (IsFew (tokens_of p)) (in_program_part q) → s.inner.pending ≡ [] → Agree (tokens_of p) p true None s d.scope below (program_part_tokens q ks) →
      HaveNone d.systems → HaveNone (program_part_in d q).systems
  unfolding program_part_step
  part_none s d below ks (program_types at ns) e number small few empty h all = definitions_none s d below ks ns e number small few empty h all
  part_none s d below ks _ e number small few empty h all = all

  parts_none : (s : Scopes) (d : Declared) (below : scopes.Scope) (ks : List ℕ) (qs : List ProgramPart) → (program_part_steps s qs).faults ≡ [] → AreNumberedParts (tokens_of p) p d qs → Each IsSmallProgramPart qs → Each (IsFew (tokens_of p)) (each_in in_program_part qs) → s.inner.pending ≡ [] →
      Agree (tokens_of p) p true None s d.scope below (all_tokens program_part_tokens qs ks) → HaveNone d.systems → HaveNone (program_parts_in d qs).systems
  unfolding program_part_steps
  parts_none s d below ks [] e number small few empty h all = all
  parts_none s d below ks (q ∷ qs) e number small few empty h all =
      let t : Scopes = (program_part_step s q).scopes in
      let js : List ℕ = all_tokens program_part_tokens qs ks in
      let k : Declared = program_part_in d q in
      let here = none_left (program_part_step s q).faults (program_part_steps t qs).faults e in
      let first = each_left (IsFew (tokens_of p)) (in_program_part q) (each_in in_program_part qs) few in
      let one = part_agrees (tokens_of p) p s d below js q here number.0 small.0 first empty h in
      parts_none t k below ks qs (none_right (program_part_step s q).faults (program_part_steps t qs).faults e) number.1 small.1 (each_right (IsFew (tokens_of p)) (in_program_part q) (each_in in_program_part qs) few) one.step.settled one.step.agree
      (part_none s d below js q here number.0 small.0 first empty h all)

  systems_none : (t : Tree) → p ≡ t.program → faults_of t ≡ [] → AreNumberedParts (tokens_of p) p nothing_declared p.parts → IsSmallProgram p → Each (IsFew (tokens_of p)) (enumerations_of p) → AreDifferent (program_tokens p) → HaveNone (declared p).systems
  unfolding faults_of declarations_and_body declarations
  systems_none t is e number small few different =
      let none : faults (declarations_and_body start p).uses ≡ [] = subst (λ (q : Program). faults (declarations_and_body start q).uses ≡ []) (sym is) (uses_sound (tokens_of p) p t.program.period (declarations_and_body start t.program).scopes (declarations_and_body start t.program).uses e) in
      let d : Step = declarations start p in
      let j : Judged Use = statements d.scopes program_context (Ok no_use) p.body.statements in
      let sound : d.faults ≡ [] = none_before d.faults j none in
      let a : Step = program_part_steps start p.parts in
      let b : Step = routine_steps None a.scopes p.routines in
      parts_none start nothing_declared predeclared (all_tokens routine_tokens p.routines (p.period ∷ [])) p.parts (none_left a.faults b.faults sound) number small.0 (each_left (IsFew (tokens_of p)) (each_in in_program_part p.parts) (each_in in_routine p.routines) few) (start_settled (tokens_of p) p) (start_agrees (tokens_of p) p (program_tokens p) different) tt

  none_at : (ms : List SystemMeaning) (k : ℕ) (m : SystemMeaning) → HaveNone ms → slice_get ms k ≡ Some m → HasNoProcess p m.parameters
  none_at [] k m h e = absurd (let bad : None ≡ Some m = e in cc)
  none_at (x ∷ ms) zero m h e = subst (λ (y : SystemMeaning). HasNoProcess p y.parameters) (same x m e) h.0
    where
      same : (x m : SystemMeaning) → Some x ≡ Some m → x ≡ m
      same x m e = cc
  none_at (x ∷ ms) (suc k) m h e = none_at ms k m h.1 e

  none_of : HaveNone (declared p).systems → (k : ℕ) → HasNoProcess p (system_of p k).parameters
  none_of h k = go (slice_get (declared p).systems k) refl
    where
      go : (o : Option SystemMeaning) → slice_get (declared p).systems k ≡ o → HasNoProcess p (or_own (own_meaning (declared p) p) o).parameters
      go None e = tt
      go (Some m) e = none_at (declared p).systems k m h e

pub no_process_known : (t : Tree) → IsRead t.program → IsAccepted t → (k : ℕ) → HasNoProcess t.program (system_of t.program k).parameters
no_process_known t read accepted =
    let p : Program = t.program in
    let different = tokens_different p read.proper.indexed in
    none_of p (systems_none p t refl accepted (all_numbered p different) (read_small p read) (all_few (token_of_type p) (λ k. (system_of p k).kind) (enumerations_of p) (read_few p read) (read_different p read)) different)
