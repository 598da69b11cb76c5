-- Of each routine and initial statement: the checker's context has the kind of its system type, and its scope tells which system type that is.
use Rattle.std.proofs.Common.{◌≡◌, ◌∙◌, ℕ, true, List, [], ◌∷◌, ◌++◌, length, Option, Some, None, ap, sym, refl, subst}
use Rattle.cp_resolved.proofs.Words.{SystemKind, Scopes, enter, start, reserve_name, routine_step, definition_step, program_part_step, program_part_steps}
use Rattle.cp_resolved.proofs.Words.{declarations, program_context, Scope, seen_inside, nothing_declared}
use Rattle.cp_tree.specs.Syntax.{RoutineKind, procedure, function, invariants, Routine, System, Definition, type_definition, system_definition, SystemDefinition, ProgramPart, program_types, Program}
use Rattle.cp_meaning.specs.Declarations.{heading_of, result_of, routine_in}
use Rattle.cp_meaning.specs.Systems.{SystemMeaning, system_in, Declared, definition_in, program_part_in, declared, program_system, own_meaning, system_of}
use Rattle.cp_resolved.specs.Judging.{Place, routine_place, routine_places, initial_place, parts_scopes, system_places, definition_places, definitions_places, part_places, parts_places, places_of, tokens_of}
use Rattle.cp_resolved.specs.Openings.{Opening, with_routine, routine_openings, initial_opening, parts_scope, system_openings, definition_openings, definitions_openings, part_openings, parts_openings, openings_of}
use Rattle.cp_resolved.proofs.agreeing.AgreeingProgram.{IsNumberedDefinition, AreNumberedDefinitions, IsNumberedPart, AreNumberedParts}
use Rattle.cp_resolved.proofs.agreeing.ScopeMeasures.{Measure, measure, routine_measure, routines_height, parts_height, IsHigh, definition_high, program_part_high, program_parts_high}

-- ---- what is said

abbrev pub IsProcedure : RoutineKind → Type 0
IsProcedure (procedure gs) = Unit {0}
IsProcedure (function gs i) = ⊥
IsProcedure invariants = Unit {0}

pub record IsOwned (p : Program) (x : Place) (o : Opening) : Type 0 where
  pub owner : (k : SystemKind) → x.context.owner ≡ Some k → (system_of p o.owner).kind ≡ k
  -- the number of its system type is in its scope
  pub height : (measure o.meaning.scope).0 ≡ o.owner
  -- where the latest routine is a procedure there is no result
  pub result : (r : Routine) → (measure o.meaning.scope).1 ≡ Some r → IsProcedure r.kind → o.meaning.result ≡ None
  -- the latest routine is that to which the statements belong
  pub routine : (n : ℕ) → x.context.routine ≡ Some n → (r : Routine) × ((measure o.meaning.scope).1 ≡ Some r) × (o.meaning.result ≡ None → IsProcedure r.kind)
  -- an initial statement has neither parameters nor variables
  pub initial : x.context.routine ≡ None → (o.meaning.parameters ≡ []) × (o.meaning.variables ≡ [])

abbrev pub AreOwned : Program → List Place → List Opening → Type 0
AreOwned p [] [] = Unit {0}
AreOwned p (x ∷ xs) (o ∷ os) = IsOwned p x o × AreOwned p xs os
AreOwned p [] (o ∷ os) = ⊥
AreOwned p (x ∷ xs) [] = ⊥

owned_append : (p : Program) (xs ys : List Place) (os qs : List Opening) → AreOwned p xs os → AreOwned p ys qs → AreOwned p (xs ++ ys) (os ++ qs)
owned_append p [] ys [] qs h g = g
owned_append p (x ∷ xs) ys (o ∷ os) qs h g = (h.0, owned_append p xs ys os qs h.1 g)
owned_append p _ ys _ qs h g = absurd h

-- ---- routines

procedure_none : (s : Scope) (k : RoutineKind) → IsProcedure k → result_of s k ≡ None
procedure_none s (procedure gs) i = refl
procedure_none s (function gs i) h = absurd h
procedure_none s invariants i = refl

none_procedure : (s : Scope) (k : RoutineKind) → result_of s k ≡ None → IsProcedure k
none_procedure s (procedure gs) e = tt
none_procedure s (function gs i) e = absurd (cc)
none_procedure s invariants e = tt

same_some : (a b : Routine) → Some a ≡ Some b → a ≡ b
same_some a b e = cc

module _ (p : Program) where
  -- the kind of a system type, where the checker has one
  abbrev HasKind : Option SystemKind → ℕ → Type 0
  HasKind owner k = (j : SystemKind) → owner ≡ Some j → (system_of p k).kind ≡ j

  routine_owned : (owner : Option SystemKind) (k : ℕ) (s : Scopes) (m : Scope) (r : Routine) → HasKind owner k → (measure m).0 ≡ k → IsOwned p (routine_place owner s r) (record { meaning = routine_in (with_routine m r) r; owner = k; name = Some r.name.name })
  routine_owned owner k s m r kind high =
      let now : measure (routine_in (with_routine m r) r).scope ≡ ((measure m).0, Some r) = routine_measure m r in
      let inner : Scope = (heading_of (with_routine m r) r.kind).scope in
      record {
        owner = kind;
        height = ap (λ (a : Measure). a.0) now ∙ high;
        result = λ q e is. procedure_none inner r.kind (subst (λ (z : Routine). IsProcedure z.kind) (same_some q r (sym e ∙ ap (λ (a : Measure). a.1) now)) is);
        routine = λ n e. (r, ap (λ (a : Measure). a.1) now, none_procedure inner r.kind);
        initial = λ e. absurd (let bad : Some r.name.at ≡ None = e in cc);
      }

  routines_owned : (owner : Option SystemKind) (k : ℕ) (s : Scopes) (m : Scope) (rs : List Routine) → HasKind owner k → (measure m).0 ≡ k → AreOwned p (routine_places owner s rs) (routine_openings k m rs)
  routines_owned owner k s m [] kind high = tt
  routines_owned owner k s m (r ∷ rs) kind high = (routine_owned owner k s m r kind high, routines_owned owner k (routine_step owner s r).scopes (with_routine m r) rs kind high)

  -- ---- system types

  initial_owned : (x : Place) (k : ℕ) (m : SystemMeaning) → HasKind x.context.owner k → x.context.routine ≡ None → (measure m.scope).0 ≡ k → IsOwned p x (initial_opening k m)
  initial_owned x k m kind none high = record { owner = kind; height = high; result = λ r e is. refl; routine = λ n e. absurd (let bad : None ≡ Some n = sym none ∙ e in cc); initial = λ e. (refl, refl) }

  system_owned : (s : Scopes) (d : Declared) (y : System) → system_of p (length d.systems) ≡ system_in (seen_inside d.scope) y → IsHigh d → AreOwned p (system_places s y) (system_openings (length d.systems) (seen_inside d.scope) y)
  system_owned s d y is high =
      let k : ℕ = length d.systems in
      let kind : HasKind (Some y.kind) k = λ j e. ap (λ (m : SystemMeaning). m.kind) is ∙ some_kind y.kind j e in
      let before : (measure (parts_scope (seen_inside d.scope) y)).0 ≡ k = parts_height d.scope y ∙ high in
      owned_append p (routine_places (Some y.kind) (parts_scopes s y) y.routines) (initial_place s y ∷ []) (routine_openings k (parts_scope (seen_inside d.scope) y) y.routines) (initial_opening k (system_in (seen_inside d.scope) y) ∷ [])
      (routines_owned (Some y.kind) k (parts_scopes s y) (parts_scope (seen_inside d.scope) y) y.routines kind before)
      (initial_owned (initial_place s y) k (system_in (seen_inside d.scope) y) kind refl (routines_height (parts_scope (seen_inside d.scope) y) y.routines ∙ before), tt)
    where
      some_kind : (a b : SystemKind) → Some a ≡ Some b → a ≡ b
      some_kind a b e = cc

  definitions_owned : (s : Scopes) (d : Declared) (ns : List SystemDefinition) → AreNumberedDefinitions (tokens_of p) p d ns → IsHigh d → AreOwned p (definitions_places s ns) (definitions_openings d ns)
  definitions_owned s d [] numbered high = tt
  definitions_owned s d (n ∷ ns) numbered high =
      owned_append p (definition_places (reserve_name s n.name).scopes n.value) (definitions_places (definition_step s n).scopes ns) (definition_openings d n.value) (definitions_openings (definition_in d n n.value) ns)
      (one n.value numbered.0) (definitions_owned (definition_step s n).scopes (definition_in d n n.value) ns numbered.1 (definition_high d n n.value high))
    where
      one : (v : Definition) → IsNumberedDefinition (tokens_of p) p d v → AreOwned p (definition_places (reserve_name s n.name).scopes v) (definition_openings d v)
      one (type_definition t) h = tt
      one (system_definition y) h = system_owned (enter true (reserve_name s n.name).scopes) d y h.meaning high

  -- ---- the program

  part_owned : (s : Scopes) (d : Declared) (q : ProgramPart) → IsNumberedPart (tokens_of p) p d q → IsHigh d → AreOwned p (part_places s q) (part_openings d q)
  part_owned s d (program_types at ns) numbered high = definitions_owned s d ns numbered high
  part_owned s d _ numbered high = tt

  parts_owned : (s : Scopes) (d : Declared) (qs : List ProgramPart) → AreNumberedParts (tokens_of p) p d qs → IsHigh d → AreOwned p (parts_places s qs) (parts_openings d qs)
  parts_owned s d [] numbered high = tt
  parts_owned s d (q ∷ qs) numbered high =
      owned_append p (part_places s q) (parts_places (program_part_step s q).scopes qs) (part_openings d q) (parts_openings (program_part_in d q) qs)
      (part_owned s d q numbered.0 high) (parts_owned (program_part_step s q).scopes (program_part_in d q) qs numbered.1 (program_part_high d q high))

  pub all_owned : AreNumberedParts (tokens_of p) p nothing_declared p.parts → AreOwned p (places_of p) (openings_of p)
  all_owned numbered =
      let k : ℕ = program_system p in
      let m : Scope = (declared p).scope in
      let high : IsHigh (declared p) = program_parts_high nothing_declared p.parts refl in
      let none : HasKind None k = (λ j e. absurd (let bad : None ≡ Some j = e in cc)) in
      let last : Place = record { scopes = (declarations start p).scopes; context = program_context } in
      owned_append p (parts_places start p.parts) (routine_places None (program_part_steps start p.parts).scopes p.routines ++ last ∷ []) (parts_openings nothing_declared p.parts) (routine_openings k m p.routines ++ initial_opening k (own_meaning (declared p) p) ∷ [])
      (parts_owned start nothing_declared p.parts numbered refl)
      (owned_append p (routine_places None (program_part_steps start p.parts).scopes p.routines) (last ∷ []) (routine_openings k m p.routines) (initial_opening k (own_meaning (declared p) p) ∷ [])
      (routines_owned None k (program_part_steps start p.parts).scopes m p.routines none high)
      (initial_owned last k (own_meaning (declared p) p) none refl (routines_height m p.routines ∙ high), tt))
