-- The enumerations of a program that was read stand at different tokens, and have at least one constant and few.
use Rattle.cp_resolved.proofs.Words.{Bool, true, false, subst, ◌≡◌, ℕ, ◌+◌, ◌<◌, ◌≤◌, List, [], ◌∷◌, ◌++◌, length, sym, ap, ◌∙◌, arith, Kind, Identifier, IsRead, Each}
use Rattle.cp_text.specs.declared.token.Kind.TheVariants as kind
use Rattle.cp_text.specs.declared.token.Mark.TheVariants as mark
use Rattle.cp_tree.specs.Syntax.{Part, Routine, enumeration, simple, array_of, set_type, record_of, no_fields, more_fields, fields, TypeDefinition, VariableGroup, constants, types, variables, type_definition, system_definition, SystemDefinition, program_constants, program_types, program_variables, Program}
use Rattle.cp_tree.specs.Spelling.{is_nameless, put_optional, put_all, put_type, put_more_field_groups, put_type_definition, put_variable_group, put_part, put_body, put_routine, put_system_definition, put_program_part, spell}
use Rattle.cp_tree.specs.SpellingIndexed.{IsIndexedRoutineBy, AreIndexedNames, AreAllIndexed, AreSomeIndexed, IsIndexedSimple, IsIndexedType, AreIndexedFieldGroups, AreIndexedMoreFieldGroups, IsIndexedFieldGroup, IsIndexedTypeDefinition, IsIndexedVariableGroup, IsIndexedPart, IsIndexedRoutine, IsIndexedSystem, IsIndexedDefinition, IsIndexedSystemDefinition, IsIndexedProgramPart, IsIndexedProgram}
use Rattle.cp_resolved.specs.Enumerations.{Enumerated, in_simple, in_type, in_groups, in_group, each_in, in_part, in_routine, in_system, in_definition, in_program_part, enumerations_of}
use Rattle.cp_resolved.specs.Tokens.{IsOther, AreDifferent, tokens_of_enumerations, HasFew}
use Rattle.cp_resolved.proofs.declarations.Numbered.{AreInOrder, program_ordered}
use Rattle.cp_resolved.proofs.declarations.SmallTexts.{kinds_length}

-- ---- at least one constant

abbrev HasSome : Enumerated → Type 0
HasSome e = 1 ≤ length e.names

each_both : (xs ys : List Enumerated) → Each HasSome xs → Each HasSome ys → Each HasSome (xs ++ ys)
each_both [] ys h g = g
each_both (x ∷ xs) ys h g = (h.0, each_both xs ys h.1 g)

module _ (total : ℕ) where
  abbrev Finds : {A : Type 0} → (A → List Kind → Type 0) → (A → List Enumerated) → Type 0
  Finds {A} indexed f = (x : A) (rest : List Kind) → indexed x rest → Each HasSome (f x)

  all_some : {A : Type 0} (put : A → List Kind → List Kind) (indexed : A → List Kind → Type 0) (f : A → List Enumerated) → Finds indexed f → (xs : List A) (rest : List Kind) → AreAllIndexed put indexed xs rest → Each HasSome (each_in f xs)
  all_some put indexed f one [] rest h = tt
  all_some put indexed f one (x ∷ xs) rest h = each_both (f x) (each_in f xs) (one x (put_all put xs rest) h.0) (all_some put indexed f one xs rest h.1)

  some_some : {A : Type 0} (put : A → List Kind → List Kind) (indexed : A → List Kind → Type 0) (f : A → List Enumerated) → Finds indexed f → (xs : List A) (rest : List Kind) → AreSomeIndexed put indexed xs rest → Each HasSome (each_in f xs)
  some_some put indexed f one [] rest h = tt
  some_some put indexed f one (x ∷ xs) rest h = all_some put indexed f one (x ∷ xs) rest h

  names_some : (is : List Identifier) (rest : List Kind) → AreIndexedNames total is rest → 1 ≤ length is
  names_some [] rest h = absurd h
  names_some (i ∷ is) rest h = omega arith

  simple_some : Finds (IsIndexedSimple total) in_simple
  simple_some (enumeration at is) rest h = (names_some is (kind.Mark mark.CloseParenthesis ∷ rest) h.1, tt)
  simple_some _ rest h = tt

  mutual
    type_some : Finds (IsIndexedType total) in_type
    type_some (simple at s) rest h = simple_some s rest h.1
    type_some (array_of at s t) rest h = each_both (in_simple s) (in_type t) (simple_some s (kind.Mark mark.CloseBracket ∷ kind.Mark mark.Of ∷ put_type t rest) h.1) (type_some t rest h.2)
    type_some (set_type at s) rest h = simple_some s rest h.1
    type_some (record_of at gs b) rest h = groups_some gs (put_optional mark.Semicolon b (kind.Mark mark.End ∷ rest)) h.1

    groups_some : Finds (AreIndexedFieldGroups total) in_groups
    groups_some no_fields rest h = tt
    groups_some (more_fields g gs) rest h = each_both (in_group g) (in_groups gs) (group_some g (put_more_field_groups gs rest) h.0) (more_some gs rest h.1)

    more_some : Finds (AreIndexedMoreFieldGroups total) in_groups
    more_some no_fields rest h = tt
    more_some (more_fields g gs) rest h = each_both (in_group g) (in_groups gs) (group_some g (put_more_field_groups gs rest) h.0) (more_some gs rest h.1)

    group_some : Finds (IsIndexedFieldGroup total) in_group
    group_some (fields is t) rest h = type_some t rest h.1

  part_some : Finds (IsIndexedPart total) in_part
  part_some (constants at ds) rest h = tt
  part_some (types at ds) rest h = some_some put_type_definition (IsIndexedTypeDefinition total) (λ (d : TypeDefinition). in_type d.value) (λ d r g. type_some d.value (kind.Mark mark.Semicolon ∷ r) g.1) ds rest h.1
  part_some (variables at gs) rest h = some_some put_variable_group (IsIndexedVariableGroup total) (λ (g : VariableGroup). in_type g.variable_type) (λ d r g. type_some d.variable_type (kind.Mark mark.Semicolon ∷ r) g.1) gs rest h.1

  routine_by : (b : Bool) (r : Routine) (rest : List Kind) → IsIndexedRoutineBy total b r rest → Each HasSome (in_routine r)
  routine_by true r rest h = subst (λ (ps : List Part). Each HasSome (each_in in_part ps)) (sym h.no_parts) tt
  routine_by false r rest h = all_some put_part (IsIndexedPart total) in_part part_some r.parts (put_body r.body (kind.Mark mark.Semicolon ∷ rest)) h.3

  routine_some : Finds (IsIndexedRoutine total) in_routine
  routine_some r rest h = routine_by (is_nameless r.kind) r rest h

  system_some : Finds (IsIndexedSystem total) in_system
  system_some s rest h =
      each_both (each_in in_part s.parts) (each_in in_routine s.routines) (all_some put_part (IsIndexedPart total) in_part part_some s.parts (put_all put_routine s.routines (put_body s.body rest)) h.2) (all_some put_routine (IsIndexedRoutine total) in_routine routine_some s.routines (put_body s.body rest) h.3)

  definition_some : Finds (IsIndexedDefinition total) in_definition
  definition_some (type_definition t) rest h = type_some t rest h
  definition_some (system_definition s) rest h = system_some s rest h

  program_part_some : Finds (IsIndexedProgramPart total) in_program_part
  program_part_some (program_constants at ds) rest h = tt
  program_part_some (program_types at ns) rest h = some_some put_system_definition (IsIndexedSystemDefinition total) (λ (d : SystemDefinition). in_definition d.value) (λ d r g. definition_some d.value (kind.Mark mark.Semicolon ∷ r) g.1) ns rest h.1
  program_part_some (program_variables at gs) rest h = some_some put_variable_group (IsIndexedVariableGroup total) (λ (g : VariableGroup). in_type g.variable_type) (λ d r g. type_some d.variable_type (kind.Mark mark.Semicolon ∷ r) g.1) gs rest h.1

  program_some : (p : Program) → IsIndexedProgram total p → Each HasSome (enumerations_of p)
  program_some p h =
      let last : List Kind = put_body p.body (kind.Mark mark.Period ∷ []) in
      each_both (each_in in_program_part p.parts) (each_in in_routine p.routines) (all_some put_program_part (IsIndexedProgramPart total) in_program_part program_part_some p.parts (put_all put_routine p.routines last) h.0)
      (all_some put_routine (IsIndexedRoutine total) in_routine routine_some p.routines last h.1)

  -- ---- few, and at different tokens

  later_other : (es : List Enumerated) (high low at here : ℕ) → AreInOrder total high es low → at + here ≡ total → high < here → IsOther at (tokens_of_enumerations es)
  later_other [] high low at here h begins less = tt
  later_other (e ∷ es) high low at here h begins less =
      let first : e.at + h.here ≡ total = h.begins in
      let below : h.here ≤ high = h.below in
      let room : h.after + length e.names < h.here = h.names in
      ((λ same. absurd (omega (arith, first, begins, below, less, same))), later_other es h.after low at here h.others begins (omega (arith, below, less, room)))

  all_different : (es : List Enumerated) (high low : ℕ) → AreInOrder total high es low → AreDifferent (tokens_of_enumerations es)
  all_different [] high low h = tt
  all_different (e ∷ es) high low h =
      let room : h.after + length e.names < h.here = h.names in
      (later_other es h.after low e.at h.here h.others h.begins (omega (arith, room)), all_different es h.after low h.others)

  few_of : (es : List Enumerated) (high low : ℕ) → high ≤ 32768 → AreInOrder total high es low → Each HasSome es → Each HasFew es
  few_of [] high low le h s = tt
  few_of (e ∷ es) high low le h s =
      let below : h.here ≤ high = h.below in
      let room : h.after + length e.names < h.here = h.names in
      (record { some = s.0; few = omega (arith, below, room, le) }, few_of es h.after low (omega (arith, below, room, le)) h.others s.1)

pub read_few : (p : Program) → IsRead p → Each HasFew (enumerations_of p)
read_few p h =
    let few : length h.tokens ≤ 20000 = h.text.reads.reads.few in
    let same : length (spell p) ≡ length h.tokens = sym (ap (λ (ks : List Kind). length ks) h.spelled) ∙ kinds_length h.tokens in
    few_of (length (spell p)) (enumerations_of p) (length (spell p)) 0 (omega (arith, few, same)) (program_ordered (length (spell p)) p h.proper.indexed) (program_some (length (spell p)) p h.proper.indexed)

pub read_different : (p : Program) → IsRead p → AreDifferent (tokens_of_enumerations (enumerations_of p))
read_different p h = all_different (length (spell p)) (enumerations_of p) (length (spell p)) 0 (program_ordered (length (spell p)) p h.proper.indexed)
