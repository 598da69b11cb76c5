-- What holds of all bodies of a program holds of the statements of each opening.
use Rattle.cp_resolved.proofs.Words.{ℕ, zero, suc, List, [], ◌∷◌, ◌++◌, length, slice_get, Scope, seen_inside, nothing_declared, initial_meaning, Each}
use Rattle.cp_tree.specs.Syntax.{Statements, Routine, System, Definition, type_definition, system_definition, SystemDefinition, ProgramPart, program_types, Program}
use Rattle.cp_meaning.specs.Systems.{Declared, definition_in, program_part_in, declared, program_system, own_meaning, system_in}
use Rattle.cp_resolved.specs.Openings.{Opening, with_routine, routine_openings, parts_scope, initial_opening, definition_openings, definitions_openings, part_openings, parts_openings, openings_of, meaning_in, meaning_at}

module _ (P : Statements → Type 0) where
  abbrev pub OfRoutine : Routine → Type 0
  OfRoutine r = P r.body.statements

  abbrev pub OfSystem : System → Type 0
  OfSystem y = Each OfRoutine y.routines × P y.body.statements

  abbrev pub OfDefinition : Definition → Type 0
  OfDefinition (type_definition t) = Unit {0}
  OfDefinition (system_definition y) = OfSystem y

  abbrev pub OfPart : ProgramPart → Type 0
  OfPart (program_types at ds) = Each (λ d. OfDefinition d.value) ds
  OfPart _ = Unit {0}

  abbrev pub OfOpening : Opening → Type 0
  OfOpening o = P o.meaning.body

  openings_both : (xs ys : List Opening) → Each OfOpening xs → Each OfOpening ys → Each OfOpening (xs ++ ys)
  openings_both [] ys h g = g
  openings_both (x ∷ xs) ys h g = (h.0, openings_both xs ys h.1 g)

  routines_open : (n : ℕ) (s : Scope) (rs : List Routine) → Each OfRoutine rs → Each OfOpening (routine_openings n s rs)
  routines_open n s [] h = tt
  routines_open n s (r ∷ rs) h = (h.0, routines_open n (with_routine s r) rs h.1)

  definition_opens : (d : Declared) (v : Definition) → OfDefinition v → Each OfOpening (definition_openings d v)
  definition_opens d (type_definition t) h = tt
  definition_opens d (system_definition y) h =
      openings_both (routine_openings (length d.systems) (parts_scope (seen_inside d.scope) y) y.routines) (initial_opening (length d.systems) (system_in (seen_inside d.scope) y) ∷ []) (routines_open (length d.systems) (parts_scope (seen_inside d.scope) y) y.routines h.0) (h.1, tt)

  definitions_open : (d : Declared) (ns : List SystemDefinition) → Each (λ n. OfDefinition n.value) ns → Each OfOpening (definitions_openings d ns)
  definitions_open d [] h = tt
  definitions_open d (n ∷ ns) h = openings_both (definition_openings d n.value) (definitions_openings (definition_in d n n.value) ns) (definition_opens d n.value h.0) (definitions_open (definition_in d n n.value) ns h.1)

  part_opens : (d : Declared) (q : ProgramPart) → OfPart q → Each OfOpening (part_openings d q)
  part_opens d (program_types at ns) h = definitions_open d ns h
  part_opens d _ h = tt

  parts_open : (d : Declared) (qs : List ProgramPart) → Each OfPart qs → Each OfOpening (parts_openings d qs)
  parts_open d [] h = tt
  parts_open d (q ∷ qs) h = openings_both (part_openings d q) (parts_openings (program_part_in d q) qs) (part_opens d q h.0) (parts_open (program_part_in d q) qs h.1)

  pub program_opens : (p : Program) → Each OfPart p.parts → Each OfRoutine p.routines → P p.body.statements → Each OfOpening (openings_of p)
  program_opens p parts routines body =
      let own : Opening = initial_opening (program_system p) (own_meaning (declared p) p) in
      openings_both (parts_openings nothing_declared p.parts) (routine_openings (program_system p) (declared p).scope p.routines ++ own ∷ []) (parts_open nothing_declared p.parts parts)
      (openings_both (routine_openings (program_system p) (declared p).scope p.routines) (own ∷ []) (routines_open (program_system p) (declared p).scope p.routines routines) (body, tt))

  opening_at : (p : Program) (os : List Opening) (n : ℕ) → Each OfOpening os → P p.body.statements → P (meaning_in (initial_meaning (own_meaning (declared p) p)) (slice_get os n)).body
  opening_at p [] n h body = body
  opening_at p (o ∷ os) zero h body = h.0
  opening_at p (o ∷ os) (suc n) h body = opening_at p os n h.1 body

  -- of the routine or initial statement of a number
  pub body_at : (p : Program) → Each OfPart p.parts → Each OfRoutine p.routines → P p.body.statements → (n : ℕ) → P (meaning_at p n).body
  body_at p parts routines body n = opening_at p (openings_of p) n (program_opens p parts routines body) body
