-- Programs that break no rule: their scopes agree at the statements of each routine and of each initial statement.
use Rattle.std.proofs.Common.{◌≡◌, ◌≤◌, ℕ, pos, Bool, true, false, if◌then◌else◌, List, [], ◌∷◌, ◌++◌, length, Option, Some, None, Ok, Err, is_some, inr, refl, sym, ap, subst, ◌∙◌, arith}
use Rattle.cp_resolved.proofs.Words.{bytes_eq, Identifier, Range, ValueType, whole, Meaning, Use, no_use, Judged, ◌>>=◌, faults, Step, Typed, typed, routine_steps, Heard}
use Rattle.cp_resolved.proofs.Words.{Name, find, predeclared, seen_inside, in_routine, in_definition, in_program_part, each_in, enumerations_of, nothing_declared, Each}
use Rattle.cp_resolved.proofs.Words.{IsSmallDefinition, IsSmallProgramPart, IsSmallProgram, IsFit, IsStandingVariable, IsStandingParameter, none_first, none_before}
use Rattle.cp_resolved.proofs.Words.{meaning_or_none, to_kind, reserve_name, add_one, constant_steps, variable_steps, definition_step, definition_steps, program_part_step}
use Rattle.cp_resolved.proofs.Words.{program_part_steps, Place, definition_places, definitions_places, part_places, parts_places, routine_places, places_of, AreAgreed}
use Rattle.cp_tree.specs.Syntax.{Program, Definition, type_definition, system_definition, SystemDefinition, ProgramPart, program_constants, program_types, program_variables, Tree}
use Rattle.cp_scope.specs.declared.types.Base.TheVariants as base
use Rattle.cp_scope.specs.declared.types.ValueType.TheVariants as types
use Rattle.cp_scope.specs.declared.types.Meaning.TheVariants as meaning
use Rattle.cp_scope.specs.Scopes.{Names, Scopes, shape_in, look_outer, add, settle, enter, start}
use Rattle.cp_scope.specs.Scopes as checker
use Rattle.cp_check.specs.declared.types.Spot.TheVariants as spot
use Rattle.cp_check.specs.Statements.{statements}
use Rattle.cp_check.specs.Systems as systems_of
use Rattle.cp_check.specs.Faults.{declarations, program_context, declarations_and_body, limit_faults, faults_of}
use Rattle.cp_meaning.specs.Types as named
use Rattle.cp_meaning.specs.Scopes as scopes
use Rattle.cp_meaning.specs.Declarations as meant
use Rattle.cp_meaning.specs.Systems.{SystemMeaning, system_in, Declared, definition_in, definitions_in, program_part_in, program_parts_in, declared, program_system, own_meaning, with_routines}
use Rattle.cp_resolved.specs.Fit.{IsFitDefinition, AreFitDefinitions, IsFitPart, AreFitParts}
use Rattle.cp_resolved.specs.Openings.{Opening, definition_openings, definitions_openings, part_openings, parts_openings, routine_openings, initial_opening, openings_of, parts_scope}
use Rattle.cp_resolved.specs.Tokens.{AreDifferent, all_tokens, routine_tokens, definition_tokens, program_part_tokens, program_tokens}
use Rattle.cp_resolved.specs.Typed.{Tokens, SystemThere, IsSystemParameter, RangeIs, TypeIs, predeclared_of, MeaningIs, IsMarked}
use Rattle.cp_resolved.proofs.agreeing.Agreeing.{appends_none, none_left, none_right, AreFree}
use Rattle.cp_resolved.proofs.agreeing.AgreeingNames.{W, IsThere, IsKnown, Agree}
use Rattle.cp_resolved.proofs.agreeing.AgreeingTypes.{IsFew, standing_at}
use Rattle.cp_resolved.proofs.agreeing.AgreeingWritten.{each_left, each_right}
use Rattle.cp_resolved.proofs.agreeing.AgreeingParts.{StepResult, step_then, step_same, NamesResult, name_result, type_reached, kind_declared, constants_agree, permanent_kind, variables_agree}
use Rattle.cp_resolved.proofs.agreeing.AgreeingRoutines.{none_after}
use Rattle.cp_resolved.proofs.agreeing.AgreeingBodies.{all_heard, place_agreed, routines_agree}
use Rattle.cp_resolved.proofs.statements.RoutinesNoted.{AreNoRoutines, one_more, none_inside, none_found, AreListed, listed_left, listed_right, all_listed, AreNoted, noted_both, RoutinesNoted, routines_noted, SystemNumbered, done_numbered, initial_numbered, system_noted}
use Rattle.cp_resolved.proofs.agreeing.RoutinesSeen.{written, constants, variables}
use Rattle.cp_resolved.proofs.frames.FrameCells.{each_both}
use Rattle.cp_resolved.proofs.agreeing.AgreeingSystems.{agreed_append, IsNumbered, system_agrees}
use Rattle.cp_resolved.proofs.agreeing.VariablesAmongNames.{Declares, declares_more, declares_stand, variables_declare, Counted, AreCounted, all_counted, last_counted}

module _ (tokens : Tokens) (p : Program) where
  -- ---- system types by their numbers

  abbrev pub IsNumberedDefinition : Declared → Definition → Type 0
  IsNumberedDefinition d (type_definition t) = Unit {0}
  IsNumberedDefinition d (system_definition y) = IsNumbered tokens p (length d.systems) (seen_inside d.scope) y

  abbrev pub AreNumberedDefinitions : Declared → List SystemDefinition → Type 0
  AreNumberedDefinitions d [] = Unit {0}
  AreNumberedDefinitions d (n ∷ ns) = IsNumberedDefinition d n.value × AreNumberedDefinitions (definition_in d n n.value) ns

  abbrev pub IsNumberedPart : Declared → ProgramPart → Type 0
  IsNumberedPart d (program_types at ns) = AreNumberedDefinitions d ns
  IsNumberedPart d _ = Unit {0}

  abbrev pub AreNumberedParts : Declared → List ProgramPart → Type 0
  AreNumberedParts d [] = Unit {0}
  AreNumberedParts d (q ∷ qs) = IsNumberedPart d q × AreNumberedParts (program_part_in d q) qs

  -- ---- no routine stands around a system type

  pub none_definition : (d : Declared) (n : SystemDefinition) (v : Definition) → AreNoRoutines d.scope → AreNoRoutines (definition_in d n v).scope
  none_definition d n (type_definition t) h = (tt, written AreNoRoutines one_more d.scope t h)
  none_definition d n (system_definition y) h = (tt, h)

  none_definitions : (d : Declared) (ns : List SystemDefinition) → AreNoRoutines d.scope → AreNoRoutines (definitions_in d ns).scope
  none_definitions d [] h = h
  none_definitions d (n ∷ ns) h = none_definitions (definition_in d n n.value) ns (none_definition d n n.value h)

  pub none_part : (d : Declared) (q : ProgramPart) → AreNoRoutines d.scope → AreNoRoutines (program_part_in d q).scope
  none_part d (program_constants at ds) h = constants AreNoRoutines one_more d.scope ds h
  none_part d (program_types at ns) h = none_definitions d ns h
  none_part d (program_variables at gs) h = variables AreNoRoutines one_more scopes.permanent_variable (λ t. tt) (record { variables = d.variables; scope = d.scope }) gs h

  pub none_parts : (d : Declared) (qs : List ProgramPart) → AreNoRoutines d.scope → AreNoRoutines (program_parts_in d qs).scope
  none_parts d [] h = h
  none_parts d (q ∷ qs) h = none_parts (program_part_in d q) qs (none_part d q h)

  pub none_predeclared : AreNoRoutines predeclared
  none_predeclared = (tt, (tt, (tt, (tt, (tt, (tt, (tt, (tt, (tt, (tt, (tt, (tt, (tt, (tt, (tt, tt)))))))))))))))

  -- ---- definitions

  abbrev pub IsStandingSystem : SystemMeaning → Type 0
  IsStandingSystem m = Each IsStandingVariable m.variables × Each IsStandingParameter m.parameters × Each IsSystemParameter m.parameters

  abbrev pub AreNumbered : Declared → Type 0
  AreNumbered d = Each (SystemNumbered p tokens) d.systems

  pub record DefinedResult (s t : Scopes) (d k : Declared) (below : scopes.Scope) (ks : List ℕ) (xs : List Place) (os : List Opening) (F : Type 0) : Type 0 where
    pub places : AreAgreed tokens p xs os
    -- no parameter of a system type is an array of components
    pub fit : F
    -- each routine and initial statement by its number
    pub noted : AreNoRoutines d.scope → AreListed p xs os → AreNoted p xs os × (AreNumbered d → AreNumbered k)
    pub step : StepResult tokens p true None s t k.scope below ks
    pub types : Each IsStandingSystem d.systems → Each IsStandingSystem k.systems
    pub counted : AreCounted tokens p s.shapes (length d.systems) → AreCounted tokens p t.shapes (length k.systems)
    pub declares : Declares tokens (spot.Permanent None) s.shapes d.variables s.inner.names → Declares tokens (spot.Permanent None) t.shapes k.variables t.inner.names

  -- where neither a system type nor a variable is declared
  step_counted : (b : Bool) (s t : Scopes) (m below : scopes.Scope) (ks : List ℕ) (n : ℕ) → StepResult tokens p b None s t m below ks → AreCounted tokens p s.shapes n → AreCounted tokens p t.shapes n
  step_counted b s t m below ks n r h = all_counted tokens p s.shapes t.shapes n r.more h

  step_declares : (b : Bool) (s t : Scopes) (m below : scopes.Scope) (ks : List ℕ) (vs : List meant.Variable) → StepResult tokens p b None s t m below ks → Declares tokens (spot.Permanent None) s.shapes vs s.inner.names → Declares tokens (spot.Permanent None) t.shapes vs t.inner.names
  step_declares b s t m below ks vs r h = declares_more tokens (spot.Permanent None) s.shapes t.shapes r.more vs s.inner.names t.inner.names r.appends h

  counted_added : (t : Typed) (n : Identifier) (o : Option Meaning) (c : ℕ) → Counted tokens p c t.scopes.shapes → Counted tokens p c (add_one t.scopes n o).shapes
  unfolding add_one add settle
  counted_added t n o c h = h

  pub defined_agrees : (s a : Scopes) (d : Declared) (below : scopes.Scope) (ks : List ℕ) (n : SystemDefinition) (v : Definition) → NamesResult tokens p true None s a (n.name ∷ []) d.scope below (definition_tokens v ks) → faults (systems_of.type_of_definition a v).type ≡ [] → IsNumberedDefinition d v → IsSmallDefinition v → Each (IsFew tokens) (in_definition v) →
      DefinedResult s (add_one (systems_of.type_of_definition a v).scopes n.name (meaning_or_none ((systems_of.type_of_definition a v).type >>= to_kind))) d (definition_in d n v) below ks (definition_places a v) (definition_openings d v) (IsFitDefinition d v)
  unfolding systems_of.type_of_definition
  defined_agrees s a d below ks n (type_definition t) r e number small few =
      let w = type_reached tokens p true s a (n.name ∷ []) d.scope below ks spot.Definition t r e small few in
      let u : Scopes = add_one (typed a spot.Definition t).scopes n.name (meaning_or_none ((typed a spot.Definition t).type >>= to_kind)) in
      let k : scopes.Scope = (definition_in d n (type_definition t)).scope in
      let step : StepResult tokens p true None s u k below ks =
      kind_declared tokens p true s n.name (typed a spot.Definition t) (meant.type_in d.scope t).1 below ks (meant.type_in d.scope t).0 w.value w.is w.typed.belongs (standing_at spot.Definition (meant.type_in d.scope t).0 w.typed.stands) w.fresh.0 w.outer w.more w.appends w.agree in
      record {
        places = tt;
        fit = tt;
        noted = λ around listed. (tt, λ i. i);
        step = step;
        types = λ h. h;
        counted = λ h. step_counted true s u k below ks (length d.systems) step h;
        declares = λ h. step_declares true s u k below ks d.variables step h;
      }
  defined_agrees s a d below ks n (system_definition y) r e number small few =
      let c : ℕ = length d.systems in
      let t : Typed = systems_of.system_type a y in
      let w = system_agrees tokens p a d.scope below ks c y number e small few r.agree in
      let u : Scopes = add_one t.scopes n.name (meaning_or_none (t.type >>= to_kind)) in
      let k : scopes.Scope = (definition_in d n (system_definition y)).scope in
      let step : StepResult tokens p true None s u k below ks =
      kind_declared tokens p true s n.name t d.scope below ks (named.component_of c) (types.Component y.kind y.at) w.is (record { kind = y.kind; is = ap (types.Component y.kind) (sym number.token); own = sym number.kind; only = λ k i. number.only k (i ∙ number.token); there = subst (λ (k : ℕ). SystemThere k t.scopes.shapes) (sym number.token) w.closed.there }) refl
      (ap (λ (ds : Names). is_some (checker.find n.name.name ds)) w.closed.names ∙ r.reserved.pends n.name.name r.reserved.all.0) (w.closed.outer ∙ r.outer) (λ k f i. w.closed.more k f (ap (shape_in k) r.shapes ∙ i)) (appends_none s.inner.names t.scopes.inner.names (w.closed.names ∙ r.reserved.names)) w.closed.agree in
      record {
        places = w.places;
        fit = w.fit;
        noted = λ around listed.
            (let x = system_noted p tokens (enter true a) (seen_inside d.scope) ks c y w.inside small few (λ z q. none_found z q (parts_scope (seen_inside d.scope) y) (none_inside d.scope y around)) listed in
            (x.0, λ h. each_both (SystemNumbered p tokens) d.systems (system_in (seen_inside d.scope) y ∷ []) h (x.1, tt)));
        step = step;
        types = λ h. each_both IsStandingSystem d.systems (system_in (seen_inside d.scope) y ∷ []) h ((w.variables, w.parameters, w.handed), tt);
        counted = last_counted tokens p s.shapes u.shapes d.systems (system_in (seen_inside d.scope) y) step.more (counted_added t n.name (meaning_or_none (t.type >>= to_kind)) c w.counted);
        declares = λ h. step_declares true s u k below ks d.variables step h;
      }

  pub definitions_agree : (s : Scopes) (d : Declared) (below : scopes.Scope) (ks : List ℕ) (ns : List SystemDefinition) → (definition_steps s ns).faults ≡ [] → AreNumberedDefinitions d ns → Each (λ n. IsSmallDefinition n.value) ns → Each (IsFew tokens) (each_in (λ n. in_definition n.value) ns) → s.inner.pending ≡ [] → Agree tokens p true None s d.scope below (all_tokens (λ n. definition_tokens n.value) ns ks) →
      DefinedResult s (definition_steps s ns).scopes d (definitions_in d ns) below ks (definitions_places s ns) (definitions_openings d ns) (AreFitDefinitions d ns)
  unfolding definition_steps definition_step
  definitions_agree s d below ks [] e number small few empty h = record { places = tt; fit = tt; noted = λ around listed. (tt, λ i. i); step = step_same tokens p true None s d.scope below ks empty h; types = λ i. i; counted = λ i. i; declares = λ i. i }
  definitions_agree s d below ks (n ∷ ns) e number small few empty h =
      let a : Scopes = (reserve_name s n.name).scopes in
      let x : Typed = systems_of.type_of_definition a n.value in
      let t : Scopes = (definition_step s n).scopes in
      let js : List ℕ = all_tokens (λ (c : SystemDefinition). definition_tokens c.value) ns ks in
      let k : Declared = definition_in d n n.value in
      let first : (reserve_name s n.name).faults ++ faults (x.type >>= to_kind) ≡ [] = none_left ((reserve_name s n.name).faults ++ faults (x.type >>= to_kind)) (definition_steps t ns).faults e in
      let r = name_result tokens p true None s n.name d.scope below (definition_tokens n.value js) (none_left (reserve_name s n.name).faults (faults (x.type >>= to_kind)) first) empty h in
      let one = defined_agrees s a d below js n n.value r (none_first x.type to_kind (none_right (reserve_name s n.name).faults (faults (x.type >>= to_kind)) first)) number.0 small.0 (each_left (IsFew tokens) (in_definition n.value) (each_in (λ (c : SystemDefinition). in_definition c.value) ns) few) in
      let rest = definitions_agree t k below ks ns (none_right ((reserve_name s n.name).faults ++ faults (x.type >>= to_kind)) (definition_steps t ns).faults e) number.1 small.1 (each_right (IsFew tokens) (in_definition n.value) (each_in (λ (c : SystemDefinition). in_definition c.value) ns) few) one.step.settled one.step.agree in
      record {
        places = agreed_append tokens p (definition_places a n.value) (definitions_places t ns) (definition_openings d n.value) (definitions_openings k ns) one.places rest.places;
        fit = (one.fit, rest.fit);
        noted = λ around listed.
            (let own = one.noted around (listed_left p tokens (definition_places a n.value) (definitions_places t ns) (definition_openings d n.value) (definitions_openings k ns) one.places listed) in
            let others = rest.noted (none_definition d n n.value around) (listed_right p tokens (definition_places a n.value) (definitions_places t ns) (definition_openings d n.value) (definitions_openings k ns) one.places listed) in
            (noted_both p tokens (definition_places a n.value) (definitions_places t ns) (definition_openings d n.value) (definitions_openings k ns) one.places own.0 others.0, λ i. others.1 (own.1 i)));
        step = step_then tokens p true None s t (definition_steps t ns).scopes k.scope (definitions_in k ns).scope below js ks one.step rest.step;
        types = λ i. rest.types (one.types i);
        counted = λ i. rest.counted (one.counted i);
        declares = λ i. rest.declares (one.declares i);
      }

  -- ---- parts of the program

  pub part_agrees : (s : Scopes) (d : Declared) (below : scopes.Scope) (ks : List ℕ) (q : ProgramPart) → (program_part_step s q).faults ≡ [] → IsNumberedPart d q → IsSmallProgramPart q → Each (IsFew tokens) (in_program_part q) → s.inner.pending ≡ [] → Agree tokens p true None s d.scope below (program_part_tokens q ks) →
      DefinedResult s (program_part_step s q).scopes d (program_part_in d q) below ks (part_places s q) (part_openings d q) (IsFitPart d q)
  unfolding program_part_step
  part_agrees s d below ks (program_constants at ds) e number small few empty h =
      let step = constants_agree tokens p true s d.scope below ks ds e small empty h in
      record {
        places = tt;
        fit = tt;
        noted = λ around listed. (tt, λ i. i);
        step = step;
        types = λ i. i;
        counted = λ i. step_counted true s (constant_steps s ds).scopes (meant.constants_in d.scope ds) below ks (length d.systems) step i;
        declares = λ i. step_declares true s (constant_steps s ds).scopes (meant.constants_in d.scope ds) below ks d.variables step i;
      }
  part_agrees s d below ks (program_types at ns) e number small few empty h = definitions_agree s d below ks ns e number small few empty h
  part_agrees s d below ks (program_variables at gs) e number small few empty h =
      let o : meant.Block = record { variables = d.variables; scope = d.scope } in
      let step = variables_agree tokens p true (spot.Permanent None) scopes.permanent_variable (permanent_kind tokens p true None) s o below ks gs e small few empty h in
      record {
        places = tt;
        fit = tt;
        noted = λ around listed. (tt, λ i. i);
        step = step;
        types = λ i. i;
        counted = λ i. step_counted true s (variable_steps (spot.Permanent None) s gs).scopes (meant.variables_in scopes.permanent_variable o gs).scope below ks (length d.systems) step i;
        declares = variables_declare tokens p true (spot.Permanent None) scopes.permanent_variable (permanent_kind tokens p true None) s o below ks gs e small few empty h;
      }

  pub parts_agree : (s : Scopes) (d : Declared) (below : scopes.Scope) (ks : List ℕ) (qs : List ProgramPart) → (program_part_steps s qs).faults ≡ [] → AreNumberedParts d qs → Each IsSmallProgramPart qs → Each (IsFew tokens) (each_in in_program_part qs) → s.inner.pending ≡ [] → Agree tokens p true None s d.scope below (all_tokens program_part_tokens qs ks) →
      DefinedResult s (program_part_steps s qs).scopes d (program_parts_in d qs) below ks (parts_places s qs) (parts_openings d qs) (AreFitParts d qs)
  unfolding program_part_steps
  parts_agree s d below ks [] e number small few empty h = record { places = tt; fit = tt; noted = λ around listed. (tt, λ i. i); step = step_same tokens p true None s d.scope below ks empty h; types = λ i. i; counted = λ i. i; declares = λ i. i }
  parts_agree s d below ks (q ∷ qs) e number small few empty h =
      let t : Scopes = (program_part_step s q).scopes in
      let js : List ℕ = all_tokens program_part_tokens qs ks in
      let k : Declared = program_part_in d q in
      let one = part_agrees s d below js q (none_left (program_part_step s q).faults (program_part_steps t qs).faults e) number.0 small.0 (each_left (IsFew tokens) (in_program_part q) (each_in in_program_part qs) few) empty h in
      let rest = parts_agree t k below ks qs (none_right (program_part_step s q).faults (program_part_steps t qs).faults e) number.1 small.1 (each_right (IsFew tokens) (in_program_part q) (each_in in_program_part qs) few) one.step.settled one.step.agree in
      record {
        places = agreed_append tokens p (part_places s q) (parts_places t qs) (part_openings d q) (parts_openings k qs) one.places rest.places;
        fit = (one.fit, rest.fit);
        noted = λ around listed.
            (let own = one.noted around (listed_left p tokens (part_places s q) (parts_places t qs) (part_openings d q) (parts_openings k qs) one.places listed) in
            let others = rest.noted (none_part d q around) (listed_right p tokens (part_places s q) (parts_places t qs) (part_openings d q) (parts_openings k qs) one.places listed) in
            (noted_both p tokens (part_places s q) (parts_places t qs) (part_openings d q) (parts_openings k qs) one.places own.0 others.0, λ i. others.1 (own.1 i)));
        step = step_then tokens p true None s t (program_part_steps t qs).scopes k.scope (program_parts_in k qs).scope below js ks one.step rest.step;
        types = λ i. rest.types (one.types i);
        counted = λ i. rest.counted (one.counted i);
        declares = λ i. rest.declares (one.declares i);
      }

  -- ---- the predeclared names

  -- a name that stands for the same wherever it is visible
  record Always (c : Meaning) (o : Option scopes.Meaning) : Type 0 where
    pub means : (s : Scopes) (x : Name) (m : scopes.Scope) → MeaningIs (W tokens s.shapes) s x m c o
    pub marked : (s : Scopes) → IsMarked s.shapes c o
    pub there : (s : Scopes) → IsThere tokens s.shapes c
    pub fit : IsFit o

  abbrev AlwaysFound : Option (Option Meaning) → Option scopes.Meaning → Type 0
  AlwaysFound None o = o ≡ None
  AlwaysFound (Some None) o = ⊥
  AlwaysFound (Some (Some c)) o = Always c o

  abbrev IsAlways : Option Meaning → scopes.Meaning → Type 0
  IsAlways None d = ⊥
  IsAlways (Some c) d = Always c (Some d)

  abbrev AllAlways : Names → scopes.Scope → Type 0
  AllAlways [] [] = Unit {0}
  AllAlways (d ∷ ds) (e ∷ es) = (d.0 ≡ e.0) × IsAlways d.1 e.1 × AllAlways ds es
  AllAlways [] (e ∷ es) = ⊥
  AllAlways (d ∷ ds) [] = ⊥

  always_some : (c : Option Meaning) (d : scopes.Meaning) → IsAlways c d → AlwaysFound (Some c) (Some d)
  always_some None d h = absurd h
  always_some (Some c) d h = h

  always_found : (x : Name) (ds : Names) (es : scopes.Scope) → AllAlways ds es → AlwaysFound (checker.find x ds) (find x es)
  always_found x [] [] h = refl
  always_found x (d ∷ ds) (e ∷ es) h = subst (λ (y : Name). AlwaysFound (checker.find x (d ∷ ds)) (if bytes_eq x y then Some e.1 else find x es)) h.0 (go (bytes_eq x d.0) (always_found x ds es h.2))
    where
      go : (b : Bool) → AlwaysFound (checker.find x ds) (find x es) → AlwaysFound (if b then Some d.1 else checker.find x ds) (if b then Some e.1 else find x es)
      go true rest = always_some d.1 e.1 h.1
      go false rest = rest
  always_found x _ _ h = absurd h

  kind_always : (t : named.Ty) (v : ValueType) → ((s : Scopes) → TypeIs (W tokens s.shapes) t v) → IsFit (Some (scopes.type_meaning t)) → Always (meaning.Kind v) (Some (scopes.type_meaning t))
  kind_always t v h f = record { means = λ s x m. h s; marked = λ s. tt; there = λ s. tt; fit = f }

  standard_always : (q : scopes.Standard) → Always (meaning.Predeclared (predeclared_of q)) (Some (scopes.standard_meaning q))
  standard_always q = record { means = λ s x m. refl; marked = λ s. tt; there = λ s. tt; fit = tt }

  ordinal_always : (q : named.Range) (r : Range) → RangeIs tokens q r → IsFit (Some (scopes.type_meaning (named.ordinal q))) → Always (meaning.Kind (types.Ordinal r)) (Some (scopes.type_meaning (named.ordinal q)))
  ordinal_always q r h f = kind_always (named.ordinal q) (types.Ordinal r) (λ s. record { range = r; is = refl; belongs = h }) f

  truth_always : (n : ℕ) → n ≤ 1 → Always (meaning.Constant base.Boolean (pos n)) (Some (scopes.constant_meaning named.booleans (pos n)))
  truth_always n h = record { means = λ s x m. (refl, refl, search (arith, h)); marked = λ s. tt; there = λ s. tt; fit = omega (arith, h) }

  -- the scope around the program
  abbrev look_scope : Scopes → checker.Scope
  look_scope s = (checker.last_of s.outer).inner

  predeclared_always : AllAlways (look_scope start).names predeclared
  unfolding enter add
  predeclared_always = (
    refl,
    ordinal_always named.all_integers (whole base.Integer) (record { base = refl; low = refl; high = refl }) refl,
    (
      refl,
      ordinal_always named.all_booleans (whole base.Boolean) (record { base = refl; low = refl; high = refl }) refl,
      (
        refl,
        ordinal_always named.all_characters (whole base.Char) (record { base = refl; low = refl; high = refl }) refl,
        (
          refl,
          kind_always named.queue_type types.Queue (λ s. refl) refl,
          (
            refl,
            truth_always 0 (omega arith),
            (
              refl,
              truth_always 1 (omega arith),
              (
                refl,
                standard_always scopes.succ_function,
                (
                  refl,
                  standard_always scopes.pred_function,
                  (
                    refl,
                    standard_always scopes.chr_function,
                    (
                      refl,
                      standard_always scopes.ord_function,
                      (
                        refl,
                        standard_always scopes.abs_function,
                        (
                          refl,
                          standard_always scopes.empty_function,
                          (
                            refl,
                            standard_always scopes.delay_procedure,
                            (
                              refl,
                              standard_always scopes.continue_procedure,
                              (refl, standard_always scopes.display_procedure, tt),
                            ),
                          ),
                        ),
                      ),
                    ),
                  ),
                ),
              ),
            ),
          ),
        ),
      ),
    ),
  )

  always_known : (s : Scopes) (x : Name) (o : Option (Option Meaning)) → AlwaysFound o (find x predeclared) → IsKnown tokens s predeclared x o
  always_known s x None h = tt
  always_known s x (Some None) h = absurd h
  always_known s x (Some (Some c)) h = record { means = h.means s x predeclared; marked = h.marked s; there = h.there s; fit = h.fit }

  always_fit : (o : Option (Option Meaning)) (q : Option scopes.Meaning) → AlwaysFound o q → IsFit q
  always_fit None q h = subst IsFit (sym h) tt
  always_fit (Some None) q h = absurd h
  always_fit (Some (Some c)) q h = h.fit

  all_free : (ks : List ℕ) → AreFree [] ks
  all_free [] = tt
  all_free (k ∷ ks) = (refl, all_free ks)

  pub start_agrees : (ks : List ℕ) → AreDifferent ks → Agree tokens p true None start predeclared predeclared ks
  unfolding enter add
  start_agrees ks different =
      record {
        unsealed = refl;
        names = λ x. record { found = refl; rest = refl; latest = refl };
        seen = λ x. record { found = refl; rest = refl; latest = refl };
        outer = λ x g. always_known start x (look_outer x start.outer) (always_found x (look_scope start).names predeclared predeclared_always);
        own = tt;
        base = λ x. always_fit (look_outer x start.outer) (find x predeclared) (always_found x (look_scope start).names predeclared predeclared_always);
        limited = (omega arith, (omega arith, (omega arith, (omega arith, (tt, (tt, (tt, (tt, (tt, (tt, (tt, (tt, (tt, (tt, (tt, tt)))))))))))))));
        free = all_free ks;
        different = different;
        entries = λ k n y e. absurd (let bad : None ≡ Some (Some (meaning.Routine n)) = e in cc);
        starts = λ k d. absurd (let bad : None ≡ Some (checker.system_shape d.names d.heading d.census d.need) = d.there in cc);
      }

  -- ---- the program

  pub agree_plain : (s : Scopes) (m below : scopes.Scope) (ks : List ℕ) → Agree tokens p true None s m below ks → Agree tokens p false None s m below ks
  agree_plain s m below ks h = record { unsealed = h.unsealed; names = h.names; seen = h.names; outer = h.outer; own = tt; base = h.base; limited = h.limited; free = h.free; different = h.different; entries = h.entries; starts = h.starts }

  pub uses_sound : (at : ℕ) (s : Scopes) (j : Judged Use) → limit_faults at s j ≡ [] → faults j ≡ []
  uses_sound at s (Ok u) k = refl
  uses_sound at s (Err fs) k = k

  pub start_settled : start.inner.pending ≡ []
  unfolding enter add
  start_settled = refl

  pub record ProgramResult : Type 0 where
    pub places : AreAgreed tokens p (places_of p) (openings_of p)
    pub fit : AreFitParts nothing_declared p.parts
    pub noted : AreNoted p (places_of p) (openings_of p)
    pub systems : AreNumbered (declared p)
    pub own : SystemNumbered p tokens (own_meaning (declared p) p)
    pub types : Each IsStandingSystem (declared p).systems
    pub variables : Each IsStandingVariable (declared p).variables
    -- by what the checker has at the end
    pub heard : Heard (declarations start p).scopes
    pub counted : AreCounted tokens p (declarations start p).scopes.shapes (program_system p)
    pub declares : Declares tokens (spot.Permanent None) (declarations start p).scopes.shapes (declared p).variables (declarations start p).scopes.inner.names

  pub program_agrees : (t : Tree) → p ≡ t.program → faults_of t ≡ [] → AreNumberedParts nothing_declared p.parts → IsSmallProgram p → Each (IsFew tokens) (enumerations_of p) → AreDifferent (program_tokens p) → ProgramResult
  unfolding faults_of declarations_and_body declarations
  program_agrees t is e number small few different =
      let none : faults (declarations_and_body start p).uses ≡ [] = subst (λ (q : Program). faults (declarations_and_body start q).uses ≡ []) (sym is) (uses_sound t.program.period (declarations_and_body start t.program).scopes (declarations_and_body start t.program).uses e) in
      let d : Step = declarations start p in
      let j : Judged Use = statements d.scopes program_context (Ok no_use) p.body.statements in
      let sound : d.faults ≡ [] = none_before d.faults j none in
      let a : Step = program_part_steps start p.parts in
      let b : Step = routine_steps None a.scopes p.routines in
      let js : List ℕ = all_tokens routine_tokens p.routines (p.period ∷ []) in
      let parts = parts_agree start nothing_declared predeclared js p.parts (none_left a.faults b.faults sound) number small.0 (each_left (IsFew tokens) (each_in in_program_part p.parts) (each_in in_routine p.routines) few) start_settled (start_agrees (program_tokens p) different) in
      let k : scopes.Scope = (declared p).scope in
      let none_last : b.faults ≡ [] = none_right a.faults b.faults sound in
      let others = each_right (IsFew tokens) (each_in in_program_part p.parts) (each_in in_routine p.routines) few in
      let plain = agree_plain a.scopes k predeclared js parts.step.agree in
      let routines = routines_agree tokens p None a.scopes k predeclared (p.period ∷ []) (program_system p) p.routines none_last small.1 others parts.step.settled plain in
      let last : Opening = initial_opening (program_system p) (own_meaning (declared p) p) in
      let place : Place = record { scopes = d.scopes; context = program_context } in
      let xs : List Place = parts_places start p.parts in
      let ys : List Place = routine_places None a.scopes p.routines in
      let os : List Opening = parts_openings nothing_declared p.parts in
      let qs : List Opening = routine_openings (program_system p) k p.routines in
      let w = parts.noted none_predeclared (listed_left p tokens xs (ys ++ place ∷ []) os (qs ++ last ∷ []) parts.places (all_listed p)) in
      let rest = listed_right p tokens xs (ys ++ place ∷ []) os (qs ++ last ∷ []) parts.places (all_listed p) in
      let z : RoutinesNoted p tokens None a.scopes k (program_system p) p.routines =
      routines_noted p tokens None a.scopes k predeclared (p.period ∷ []) (program_system p) p.routines none_last small.1 others parts.step.settled plain (listed_left p tokens ys (place ∷ []) qs (last ∷ []) routines.places rest)
      (λ y r f. absurd (none_found y r k (none_parts nothing_declared p.parts none_predeclared) f)) in
      record {
        places = agreed_append tokens p xs (ys ++ place ∷ []) os (qs ++ last ∷ []) parts.places
            (agreed_append tokens p ys (place ∷ []) qs (last ∷ []) routines.places
            (place_agreed tokens p d.scopes program_context (with_routines k p.routines) predeclared (p.period ∷ []) last refl (ap faults (sym (none_after d.faults j none)) ∙ none) tt tt tt (λ z i. absurd (cc)) routines.step.agree, tt));
        fit = parts.fit;
        noted = noted_both p tokens xs (ys ++ place ∷ []) os (qs ++ last ∷ []) parts.places w.0 (noted_both p tokens ys (place ∷ []) qs (last ∷ []) routines.places z.noted ((λ y r f. inr (z.done y r f)), tt));
        systems = w.1 tt;
        own = done_numbered p tokens None b.scopes.shapes (own_meaning (declared p) p) (λ process. refl) z.done (initial_numbered p tokens place (program_system p) (own_meaning (declared p) p) refl (listed_right p tokens ys (place ∷ []) qs (last ∷ []) routines.places rest).0);
        types = parts.types tt;
        variables = declares_stand tokens (spot.Permanent None) a.scopes.shapes (declared p).variables a.scopes.inner.names (parts.declares tt);
        heard = all_heard tokens p false d.scopes (with_routines k p.routines) predeclared (p.period ∷ []) routines.step.agree;
        counted = all_counted tokens p a.scopes.shapes b.scopes.shapes (program_system p) routines.step.more (parts.counted (λ k lt. absurd (omega (arith, lt))));
        declares = declares_more tokens (spot.Permanent None) a.scopes.shapes b.scopes.shapes routines.step.more (declared p).variables a.scopes.inner.names b.scopes.inner.names routines.step.appends (parts.declares tt);
      }
