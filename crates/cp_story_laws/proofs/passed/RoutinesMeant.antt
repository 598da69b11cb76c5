-- The scope of a routine's body means the routine, and that of an initial statement one of the routines of the program, if any.
use Rattle.std.proofs.Common.{◌≡◌, ◌∙◌, ℕ, zero, suc, List, [], ◌∷◌, ◌++◌, Option, Some, None, length, slice_get, ap, sym, refl, subst}
use Rattle.std.proofs.lemmas.Option.{none-some, same_Some}
use Rattle.cp_tree.specs.Syntax as syntax
use Rattle.cp_tree.specs.Syntax.{Program}
use Rattle.cp_meaning.specs.Declarations.{RoutineMeaning, routine_in, with_groups}
use Rattle.cp_meaning.specs.Names.{Name}
use Rattle.cp_meaning.specs.Scopes.{Meaning, Scope, constant_meaning, local_variable, permanent_variable, routine_meaning, seen_inside, standard_meaning, type_meaning}
use Rattle.cp_meaning.specs.Systems.{Declared, SystemMeaning, declared, definition_in, definitions_in, own_meaning, program_part_in, program_parts_in, program_system, system_in, with_routines}
use Rattle.cp_meaning.specs.Types.{Ty}
use Rattle.cp_resolved.specs.Fit.{nothing_declared}
use Rattle.cp_resolved.specs.Layouts.{look}
use Rattle.cp_resolved.specs.Openings.{Opening, definition_openings, definitions_openings, initial_opening, meaning_at, meaning_in, openings_of, part_openings, parts_openings, parts_scope, routine_openings, with_routine}
use Rattle.cp_resolved.specs.Resolved.{initial_meaning}
use Rattle.cp_resolved.specs.Small.{Each}
use Rattle.cp_resolved.proofs.agreeing.AgreeingWritten.{each_left, each_right}
use Rattle.cp_resolved.proofs.agreeing.RoutinesSeen.{IsNoRoutine, constants, groups, in_body, parts, variables, written}
use Rattle.cp_resolved.proofs.declarations.RoutineVariables.{meaning_holds}
use Rattle.cp_resolved.proofs.frames.FrameCells.{each_both}
use Rattle.cp_resolved.proofs.names.Headed.{IsRoutine}
use Rattle.cp_legend_laws.specs.Routines.{own_variables}
use Rattle.cp_story_laws.specs.Places.{routine_meant}
use Rattle.cp_story_laws.proofs.CalledRoutines.{HasName}

-- ---- what all routines and all initial statements have

module _ (P : Opening → Type 0) (each : (owner : ℕ) (s : Scope) (rs : List syntax.Routine) → Each P (routine_openings owner s rs)) (last : (owner : ℕ) (m : SystemMeaning) → P (initial_opening owner m)) where
  of_definition : (d : Declared) (v : syntax.Definition) → Each P (definition_openings d v)
  of_definition d (syntax.type_definition t) = tt
  of_definition d (syntax.system_definition s) =
      each_both P (routine_openings (length d.systems) (parts_scope (seen_inside d.scope) s) s.routines) (initial_opening (length d.systems) (system_in (seen_inside d.scope) s) ∷ [])
      (each (length d.systems) (parts_scope (seen_inside d.scope) s) s.routines) (last (length d.systems) (system_in (seen_inside d.scope) s), tt)

  of_definitions : (d : Declared) (ns : List syntax.SystemDefinition) → Each P (definitions_openings d ns)
  of_definitions d [] = tt
  of_definitions d (n ∷ ns) = each_both P (definition_openings d n.value) (definitions_openings (definition_in d n n.value) ns) (of_definition d n.value) (of_definitions (definition_in d n n.value) ns)

  of_part : (d : Declared) (q : syntax.ProgramPart) → Each P (part_openings d q)
  of_part d (syntax.program_constants at ds) = tt
  of_part d (syntax.program_types at ns) = of_definitions d ns
  of_part d (syntax.program_variables at gs) = tt

  of_parts : (d : Declared) (qs : List syntax.ProgramPart) → Each P (parts_openings d qs)
  of_parts d [] = tt
  of_parts d (q ∷ qs) = each_both P (part_openings d q) (parts_openings (program_part_in d q) qs) (of_part d q) (of_parts (program_part_in d q) qs)

  pub of_openings : (p : Program) → Each P (openings_of p)
  of_openings p =
      let ys : List Opening = routine_openings (program_system p) (declared p).scope p.routines in
      let zs : List Opening = initial_opening (program_system p) (own_meaning (declared p) p) ∷ [] in
      each_both P (parts_openings nothing_declared p.parts) (ys ++ zs) (of_parts nothing_declared p.parts) (each_both P ys zs (each (program_system p) (declared p).scope p.routines) (last (program_system p) (own_meaning (declared p) p), tt))

-- one by its number
pub opening_at : (P : Opening → Type 0) (os : List Opening) (n : ℕ) (o : Opening) → slice_get os n ≡ Some o → Each P os → P o
opening_at P [] n o e h = absurd (none-some o e)
opening_at P (q ∷ os) zero o e h = subst P (same_Some q o e) h.0
opening_at P (q ∷ os) (suc n) o e h = opening_at P os n o e h.1

-- ---- routines

meant_step : (m : RoutineMeaning) (y : Name) (d : Meaning) (s : Scope) → IsNoRoutine d → routine_meant s ≡ Some m → routine_meant ((y, d) ∷ s) ≡ Some m
meant_step m y (routine_meaning r) s i h = absurd i
meant_step m y _ s i h = h

-- in the scope of a routine's body it is the routine itself
routine_meant_in : (s : Scope) (r : syntax.Routine) → routine_meant (routine_in (with_routine s r) r).scope ≡ Some (routine_in (with_routine s r) r)
routine_meant_in s r = let m : RoutineMeaning = routine_in (with_routine s r) r in in_body (λ (k : Scope). routine_meant k ≡ Some m) (meant_step m) (with_routine s r) r refl

abbrev MeantAs : Option Name → RoutineMeaning → Type 0
MeantAs None m = Unit {0}
MeantAs (Some x) m = routine_meant m.scope ≡ Some m

abbrev IsMeant : Opening → Type 0
IsMeant o = MeantAs o.name o.meaning

routines_meant : (owner : ℕ) (s : Scope) (rs : List syntax.Routine) → Each IsMeant (routine_openings owner s rs)
routines_meant owner s [] = tt
routines_meant owner s (r ∷ rs) = (routine_meant_in s r, routines_meant owner (with_routine s r) rs)

named_meant : (o : Opening) → IsMeant o → HasName (Some o) → routine_meant o.meaning.scope ≡ Some o.meaning
named_meant o h i = go o.name h i
  where
    go : (x : Option Name) → MeantAs x o.meaning → IsRoutine x → routine_meant o.meaning.scope ≡ Some o.meaning
    go None h i = absurd i
    go (Some x) h i = h

-- a routine with a name is what its scope means
pub meant_at : (p : Program) (n : ℕ) → HasName (slice_get (openings_of p) n) → routine_meant (meaning_at p n).scope ≡ Some (meaning_at p n)
meant_at p n h = go (slice_get (openings_of p) n) refl h
  where
    other : RoutineMeaning
    other = initial_meaning (own_meaning (declared p) p)

    go : (o : Option Opening) → slice_get (openings_of p) n ≡ o → HasName o → routine_meant (meaning_in other o).scope ≡ Some (meaning_in other o)
    go None f i = absurd i
    go (Some o) f i = named_meant o (opening_at IsMeant (openings_of p) n o f (of_openings IsMeant routines_meant (λ owner m. tt) p)) i

-- ---- what the scope of an initial statement means

no_step : (y : Name) (d : Meaning) (s : Scope) → IsNoRoutine d → routine_meant s ≡ None → routine_meant ((y, d) ∷ s) ≡ None
no_step y (routine_meaning r) s i h = absurd i
no_step y _ s i h = h

abbrev MeansNone : Scope → Type 0
MeansNone s = routine_meant s ≡ None

none_inside : (s : Scope) → MeansNone s → MeansNone (seen_inside s)
none_inside [] h = refl
none_inside ((x, permanent_variable t) ∷ s) h = none_inside s h
none_inside ((x, routine_meaning r) ∷ s) h = absurd (none-some (routine_in ((x, routine_meaning r) ∷ s) r) (sym h))
none_inside ((x, constant_meaning b z) ∷ s) h = none_inside s h
none_inside ((x, type_meaning t) ∷ s) h = none_inside s h
none_inside ((x, local_variable t) ∷ s) h = none_inside s h
none_inside ((x, standard_meaning q) ∷ s) h = none_inside s h

parts_none : (s : Scope) (d : syntax.System) → MeansNone s → MeansNone (parts_scope s d)
parts_none s d h =
    parts MeansNone no_step permanent_variable (λ t. tt) (record { variables = []; scope = (with_groups permanent_variable (record { parameters = []; scope = s }) d.parameters).scope }) d.parts
    (groups MeansNone no_step permanent_variable (λ t. tt) (record { parameters = []; scope = s }) d.parameters h)

definition_none : (d : Declared) (n : syntax.SystemDefinition) (v : syntax.Definition) → MeansNone d.scope → MeansNone (definition_in d n v).scope
definition_none d n (syntax.type_definition t) h = written MeansNone no_step d.scope t h
definition_none d n (syntax.system_definition s) h = h

definitions_none : (d : Declared) (ns : List syntax.SystemDefinition) → MeansNone d.scope → MeansNone (definitions_in d ns).scope
definitions_none d [] h = h
definitions_none d (n ∷ ns) h = definitions_none (definition_in d n n.value) ns (definition_none d n n.value h)

part_none : (d : Declared) (q : syntax.ProgramPart) → MeansNone d.scope → MeansNone (program_part_in d q).scope
part_none d (syntax.program_constants at ds) h = constants MeansNone no_step d.scope ds h
part_none d (syntax.program_types at ns) h = definitions_none d ns h
part_none d (syntax.program_variables at gs) h = variables MeansNone no_step permanent_variable (λ t. tt) (record { variables = d.variables; scope = d.scope }) gs h

all_none : (d : Declared) (qs : List syntax.ProgramPart) → MeansNone d.scope → MeansNone (program_parts_in d qs).scope
all_none d [] h = h
all_none d (q ∷ qs) h = all_none (program_part_in d q) qs (part_none d q h)

-- By what holds of all routines and initial statements: it holds of what the scope of each means.
module _ (P : RoutineMeaning → Type 0) where
  abbrev pub HoldsOf : Option RoutineMeaning → Type 0
  HoldsOf None = Unit {0}
  HoldsOf (Some m) = P m

  abbrev Holds : Opening → Type 0
  Holds o = P o.meaning

  abbrev HoldsInside : Opening → Type 0
  HoldsInside o = HoldsOf (routine_meant o.meaning.scope)

  each_number : (other : RoutineMeaning) (os : List Opening) → ((n : ℕ) → P (meaning_in other (slice_get os n))) → Each Holds os
  each_number other [] h = tt
  each_number other (o ∷ os) h = (h 0, each_number other os (λ n. h (suc n)))

  after_routines : (k : ℕ) (s : Scope) (rs : List syntax.Routine) → HoldsOf (routine_meant s) → Each Holds (routine_openings k s rs) → HoldsOf (routine_meant (with_routines s rs))
  after_routines k s [] h i = h
  after_routines k s (r ∷ rs) h i = after_routines k (with_routine s r) rs i.0 i.1

  routines_inside : (k : ℕ) (s : Scope) (rs : List syntax.Routine) → Each Holds (routine_openings k s rs) → Each HoldsInside (routine_openings k s rs)
  routines_inside k s [] h = tt
  routines_inside k s (r ∷ rs) h = (subst HoldsOf (sym (routine_meant_in s r)) h.0, routines_inside k (with_routine s r) rs h.1)

  none_holds : (s : Scope) → MeansNone s → HoldsOf (routine_meant s)
  none_holds s e = subst HoldsOf (sym e) tt

  definition_inside : (d : Declared) (v : syntax.Definition) → MeansNone d.scope → Each Holds (definition_openings d v) → Each HoldsInside (definition_openings d v)
  definition_inside d (syntax.type_definition t) none h = tt
  definition_inside d (syntax.system_definition s) none h =
      let k : ℕ = length d.systems in
      let z : Scope = parts_scope (seen_inside d.scope) s in
      let last : List Opening = initial_opening k (system_in (seen_inside d.scope) s) ∷ [] in
      let mine : Each Holds (routine_openings k z s.routines) = each_left Holds (routine_openings k z s.routines) last h in
      each_both HoldsInside (routine_openings k z s.routines) last (routines_inside k z s.routines mine)
      (after_routines k z s.routines (none_holds z (parts_none (seen_inside d.scope) s (none_inside d.scope none))) mine, tt)

  definitions_inside : (d : Declared) (ns : List syntax.SystemDefinition) → MeansNone d.scope → Each Holds (definitions_openings d ns) → Each HoldsInside (definitions_openings d ns)
  definitions_inside d [] none h = tt
  definitions_inside d (n ∷ ns) none h =
      let xs : List Opening = definition_openings d n.value in
      let ys : List Opening = definitions_openings (definition_in d n n.value) ns in
      each_both HoldsInside xs ys (definition_inside d n.value none (each_left Holds xs ys h)) (definitions_inside (definition_in d n n.value) ns (definition_none d n n.value none) (each_right Holds xs ys h))

  part_inside : (d : Declared) (q : syntax.ProgramPart) → MeansNone d.scope → Each Holds (part_openings d q) → Each HoldsInside (part_openings d q)
  part_inside d (syntax.program_constants at ds) none h = tt
  part_inside d (syntax.program_types at ns) none h = definitions_inside d ns none h
  part_inside d (syntax.program_variables at gs) none h = tt

  parts_inside : (d : Declared) (qs : List syntax.ProgramPart) → MeansNone d.scope → Each Holds (parts_openings d qs) → Each HoldsInside (parts_openings d qs)
  parts_inside d [] none h = tt
  parts_inside d (q ∷ qs) none h =
      let xs : List Opening = part_openings d q in
      let ys : List Opening = parts_openings (program_part_in d q) qs in
      each_both HoldsInside xs ys (part_inside d q none (each_left Holds xs ys h)) (parts_inside (program_part_in d q) qs (part_none d q none) (each_right Holds xs ys h))

  pub holds_inside : (p : Program) → ((n : ℕ) → P (meaning_at p n)) → (n : ℕ) → HoldsOf (routine_meant (meaning_at p n).scope)
  holds_inside p all n =
      let other : RoutineMeaning = initial_meaning (own_meaning (declared p) p) in
      let k : ℕ = program_system p in
      let xs : List Opening = parts_openings nothing_declared p.parts in
      let ys : List Opening = routine_openings k (declared p).scope p.routines in
      let zs : List Opening = initial_opening k (own_meaning (declared p) p) ∷ [] in
      let each : Each Holds (openings_of p) = each_number other (openings_of p) all in
      let mine : Each Holds ys = each_left Holds ys zs (each_right Holds xs (ys ++ zs) each) in
      let own : HoldsOf (routine_meant other.scope) = after_routines k (declared p).scope p.routines (none_holds (declared p).scope (all_none nothing_declared p.parts refl)) mine in
      meaning_holds (λ (m : RoutineMeaning). HoldsOf (routine_meant m.scope)) other (openings_of p) n
      (each_both HoldsInside xs (ys ++ zs) (parts_inside nothing_declared p.parts refl (each_left Holds xs (ys ++ zs) each)) (each_both HoldsInside ys zs (routines_inside k (declared p).scope p.routines mine) (own, tt))) own

-- ---- an initial statement has no variables of its own

abbrev IsBareAs : Option Name → RoutineMeaning → Type 0
IsBareAs None m = own_variables m ≡ []
IsBareAs (Some x) m = Unit {0}

abbrev IsBare : Opening → Type 0
IsBare o = IsBareAs o.name o.meaning

routines_bare : (owner : ℕ) (s : Scope) (rs : List syntax.Routine) → Each IsBare (routine_openings owner s rs)
routines_bare owner s [] = tt
routines_bare owner s (r ∷ rs) = (tt, routines_bare owner (with_routine s r) rs)

-- what has an own variable has a name
pub own_named : (p : Program) (n : ℕ) (x : Name) (u : Ty) → look x (own_variables (meaning_at p n)) ≡ Some u → HasName (slice_get (openings_of p) n)
own_named p n x u e = go (slice_get (openings_of p) n) refl e
  where
    other : RoutineMeaning
    other = initial_meaning (own_meaning (declared p) p)

    named : (o : Opening) (y : Option Name) → IsBareAs y o.meaning → look x (own_variables o.meaning) ≡ Some u → IsRoutine y
    named o None h e = absurd (none-some u (sym (ap (look x) h) ∙ e))
    named o (Some y) h e = tt

    go : (o : Option Opening) → slice_get (openings_of p) n ≡ o → look x (own_variables (meaning_in other o)) ≡ Some u → HasName o
    go None f e = absurd (none-some u e)
    go (Some o) f e = named o o.name (opening_at IsBare (openings_of p) n o f (of_openings IsBare routines_bare (λ owner m. refl) p)) e
