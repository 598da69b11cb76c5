-- The enumerations of a program that spells tokens stand at different tokens, one after the other, and have less constants than there are tokens.
use Rattle.std.proofs.Common.{subst, sym, ◌≡◌, ℕ, ◌+◌, ◌<◌, ◌≤◌, ◌==◌, Bool, true, false, if◌then◌else◌, List, [], ◌∷◌, ◌++◌, length, refl, arith}
use Rattle.cp_resolved.proofs.Words.{eq-eqb, eqb-true, Kind, Identifier, AreNumbered}
use Rattle.cp_text.specs.declared.token.Kind.TheVariants as kind
use Rattle.cp_text.specs.declared.token.Mark.TheVariants as mark
use Rattle.cp_tree.specs.Syntax.{Part, Routine, type_name, enumeration, subrange, simple, array_of, set_type, record_of, no_fields, more_fields, fields, constants, types, variables, type_definition, system_definition, program_constants, program_types, program_variables, Program}
use Rattle.cp_tree.specs.Spelling.{is_nameless, put_statements, put_named_routine, put_routine_by, put_optional, put_behind, put_all, put_names, put_identifier, put_simple, put_type, put_field_groups, put_more_field_groups, put_field_group, put_constant_definition, put_type_definition, put_variable_group, put_part, put_group, put_body, put_routine_kind, put_routine, put_system, put_definition, put_system_definition, put_program_part, spell}
use Rattle.cp_tree.specs.SpellingIndexed.{IsIndexedRoutineBy, AreAllIndexed, AreSomeIndexed, IsIndexedSimple, IsIndexedType, AreIndexedFieldGroups, AreIndexedMoreFieldGroups, IsIndexedFieldGroup, IsIndexedTypeDefinition, IsIndexedVariableGroup, IsIndexedPart, IsIndexedRoutine, IsIndexedSystem, IsIndexedDefinition, IsIndexedSystemDefinition, IsIndexedProgramPart, IsIndexedProgram, IsIndexed}
use Rattle.cp_tree.proofs.Grows.{grows_optional, grows_all, grows_names, grows_simple, grows_constant_definition, grows_group, grows_body, grows_statements, grows_parameters, grows_routine_kind, grows_part}
use Rattle.cp_resolved.specs.Enumerations.{Enumerated, in_simple, in_type, in_groups, in_group, each_in, in_part, in_routine, in_system, in_definition, in_program_part, enumerations_of, before_among, constants_before}

-- ---- enumerations in their order, between two counts of the tokens that follow

pub record IsFirst (total high : ℕ) (e : Enumerated) (Others : ℕ → Type 0) : Type 0 where
  pub here : ℕ
  pub after : ℕ
  pub begins : e.at + here ≡ total
  pub below : here ≤ high
  pub names : after + length e.names < here
  pub others : Others after

abbrev pub AreInOrder : (total high : ℕ) → List Enumerated → (low : ℕ) → Type 0
AreInOrder total high [] low = low ≤ high
AreInOrder total high (e ∷ es) low = IsFirst total high e (λ after. AreInOrder total after es low)

module _ (total : ℕ) where
  wider : (es : List Enumerated) (high higher low lower : ℕ) → high ≤ higher → lower ≤ low → AreInOrder total high es low → AreInOrder total higher es lower
  wider [] high higher low lower up down h = omega (arith, up, down, h)
  wider (e ∷ es) high higher low lower up down h =
      let le : h.here ≤ high = h.below in
      record { here = h.here; after = h.after; begins = h.begins; below = omega (arith, up, le); names = h.names; others = wider es h.after h.after low lower (omega arith) down h.others }

  joined : (es fs : List Enumerated) (high middle low : ℕ) → AreInOrder total high es middle → AreInOrder total middle fs low → AreInOrder total high (es ++ fs) low
  joined [] fs high middle low h g = wider fs middle high low low h (omega arith) g
  joined (e ∷ es) fs high middle low h g = record { here = h.here; after = h.after; begins = h.begins; below = h.below; names = h.names; others = joined es fs h.after middle low h.others g }

  abbrev Ordered : {A : Type 0} → (A → List Kind → List Kind) → (A → List Kind → Type 0) → (A → List Enumerated) → Type 0
  Ordered {A} put indexed f = (x : A) (rest : List Kind) → indexed x rest → AreInOrder total (length (put x rest)) (f x) (length rest)

  all_ordered : {A : Type 0} (put : A → List Kind → List Kind) (indexed : A → List Kind → Type 0) (f : A → List Enumerated) → Ordered put indexed f → (xs : List A) (rest : List Kind) → AreAllIndexed put indexed xs rest → AreInOrder total (length (put_all put xs rest)) (each_in f xs) (length rest)
  all_ordered put indexed f one [] rest h = omega arith
  all_ordered put indexed f one (x ∷ xs) rest h =
      joined (f x) (each_in f xs) (length (put x (put_all put xs rest))) (length (put_all put xs rest)) (length rest) (one x (put_all put xs rest) h.0) (all_ordered put indexed f one xs rest h.1)

  some_ordered : {A : Type 0} (put : A → List Kind → List Kind) (indexed : A → List Kind → Type 0) (f : A → List Enumerated) → Ordered put indexed f → (xs : List A) (rest : List Kind) → AreSomeIndexed put indexed xs rest → AreInOrder total (length (put_all put xs rest)) (each_in f xs) (length rest)
  some_ordered put indexed f one [] rest h = absurd h
  some_ordered put indexed f one (x ∷ xs) rest h = all_ordered put indexed f one (x ∷ xs) rest (h.0, h.1)

  -- ---- types

  more_names_room : (is : List Identifier) (rest : List Kind) → length rest + length is ≤ length (put_all (put_behind mark.Comma put_identifier) is rest)
  more_names_room [] rest = omega arith
  more_names_room (i ∷ is) rest = let le = more_names_room is rest in omega (arith, le)

  pub names_room : (is : List Identifier) (rest : List Kind) → length rest + length is ≤ length (put_names is rest)
  names_room [] rest = omega arith
  names_room (i ∷ is) rest = let le = more_names_room is rest in omega (arith, le)

  simple_ordered : Ordered put_simple (IsIndexedSimple total) in_simple
  simple_ordered (type_name at n) rest h = grows_simple (type_name at n) rest
  simple_ordered (enumeration at is) rest h =
      let le = names_room is (kind.Mark mark.CloseParenthesis ∷ rest) in
      record { here = length (put_simple (enumeration at is) rest); after = length rest; begins = h.0; below = omega arith; names = omega (arith, le); others = omega arith }
  simple_ordered (subrange at c d) rest h = grows_simple (subrange at c d) rest

  mutual
    type_ordered : Ordered put_type (IsIndexedType total) in_type
    type_ordered (simple at s) rest h = simple_ordered s rest h.1
    type_ordered (array_of at s t) rest h =
        let after : List Kind = kind.Mark mark.CloseBracket ∷ kind.Mark mark.Of ∷ put_type t rest in
        let index : AreInOrder total (length (put_simple s after)) (in_simple s) (length after) = simple_ordered s after h.1 in
        let element : AreInOrder total (length (put_type t rest)) (in_type t) (length rest) = type_ordered t rest h.2 in
        joined (in_simple s) (in_type t) (length (put_type (array_of at s t) rest)) (length (put_type t rest)) (length rest) (wider (in_simple s) (length (put_simple s after)) (length (put_type (array_of at s t) rest)) (length after) (length (put_type t rest)) (omega arith) (omega arith) index) element
    type_ordered (set_type at s) rest h = wider (in_simple s) (length (put_simple s rest)) (length (put_type (set_type at s) rest)) (length rest) (length rest) (omega arith) (omega arith) (simple_ordered s rest h.1)
    type_ordered (record_of at gs b) rest h =
        let last : List Kind = kind.Mark mark.End ∷ rest in
        let after : List Kind = put_optional mark.Semicolon b last in
        let le = grows_optional mark.Semicolon b last in
        wider (in_groups gs) (length (put_field_groups gs after)) (length (put_type (record_of at gs b) rest)) (length after) (length rest) (omega arith) (omega (arith, le)) (groups_ordered gs after h.1)

    groups_ordered : Ordered put_field_groups (AreIndexedFieldGroups total) in_groups
    groups_ordered no_fields rest h = absurd h
    groups_ordered (more_fields g gs) rest h =
        joined (in_group g) (in_groups gs) (length (put_field_groups (more_fields g gs) rest)) (length (put_more_field_groups gs rest)) (length rest) (group_ordered g (put_more_field_groups gs rest) h.0) (more_groups_ordered gs rest h.1)

    more_groups_ordered : Ordered put_more_field_groups (AreIndexedMoreFieldGroups total) in_groups
    more_groups_ordered no_fields rest h = omega arith
    more_groups_ordered (more_fields g gs) rest h =
        let after : List Kind = put_more_field_groups gs rest in
        joined (in_group g) (in_groups gs) (length (put_more_field_groups (more_fields g gs) rest)) (length after) (length rest) (wider (in_group g) (length (put_field_group g after)) (length (put_more_field_groups (more_fields g gs) rest)) (length after) (length after) (omega arith) (omega arith) (group_ordered g after h.0)) (more_groups_ordered gs rest h.1)

    group_ordered : Ordered put_field_group (IsIndexedFieldGroup total) in_group
    group_ordered (fields is t) rest h =
        let after : List Kind = kind.Mark mark.Colon ∷ put_type t rest in
        let le = grows_names is after in
        wider (in_type t) (length (put_type t rest)) (length (put_field_group (fields is t) rest)) (length rest) (length rest) (omega (arith, le)) (omega arith) (type_ordered t rest h.1)

  -- ---- declarations

  type_definition_ordered : Ordered put_type_definition (IsIndexedTypeDefinition total) (λ d. in_type d.value)
  type_definition_ordered d rest h =
      let after : List Kind = kind.Mark mark.Semicolon ∷ rest in
      wider (in_type d.value) (length (put_type d.value after)) (length (put_type_definition d rest)) (length after) (length rest) (omega arith) (omega arith) (type_ordered d.value after h.1)

  variable_group_ordered : Ordered put_variable_group (IsIndexedVariableGroup total) (λ g. in_type g.variable_type)
  variable_group_ordered g rest h =
      let after : List Kind = kind.Mark mark.Semicolon ∷ rest in
      let le = grows_names g.names (kind.Mark mark.Colon ∷ put_type g.variable_type after) in
      wider (in_type g.variable_type) (length (put_type g.variable_type after)) (length (put_variable_group g rest)) (length after) (length rest) (omega (arith, le)) (omega arith) (type_ordered g.variable_type after h.1)

  part_ordered : Ordered put_part (IsIndexedPart total) in_part
  part_ordered (constants at ds) rest h = grows_part (constants at ds) rest
  part_ordered (types at ds) rest h =
      wider (each_in (λ d. in_type d.value) ds) (length (put_all put_type_definition ds rest)) (length (put_part (types at ds) rest)) (length rest) (length rest) (omega arith) (omega arith) (some_ordered put_type_definition (IsIndexedTypeDefinition total) (λ d. in_type d.value) type_definition_ordered ds rest h.1)
  part_ordered (variables at gs) rest h =
      wider (each_in (λ g. in_type g.variable_type) gs) (length (put_all put_variable_group gs rest)) (length (put_part (variables at gs) rest)) (length rest) (length rest) (omega arith) (omega arith) (some_ordered put_variable_group (IsIndexedVariableGroup total) (λ g. in_type g.variable_type) variable_group_ordered gs rest h.1)

  routine_by : (b : Bool) (r : Routine) (rest : List Kind) → IsIndexedRoutineBy total b r rest → AreInOrder total (length (put_routine_by b r rest)) (in_routine r) (length rest)
  routine_by true r rest h = subst (λ (ps : List Part). AreInOrder total (length (put_statements r.body.statements rest)) (each_in in_part ps) (length rest)) (sym h.no_parts) (grows_statements r.body.statements rest)
  routine_by false r rest h =
      let last : List Kind = kind.Mark mark.Semicolon ∷ rest in
      let body : List Kind = put_body r.body last in
      let inside : List Kind = put_all put_part r.parts body in
      let a = grows_body r.body last in
      let b = grows_routine_kind r.kind (kind.Mark mark.Semicolon ∷ inside) in
      let c = grows_optional mark.Entry r.is_entry (put_identifier r.name (put_routine_kind r.kind (kind.Mark mark.Semicolon ∷ inside))) in
      wider (in_routine r) (length inside) (length (put_named_routine r rest)) (length body) (length rest) (omega (arith, b, c)) (omega (arith, a)) (all_ordered put_part (IsIndexedPart total) in_part part_ordered r.parts body h.3)

  routine_ordered : Ordered put_routine (IsIndexedRoutine total) in_routine
  routine_ordered r rest h = routine_by (is_nameless r.kind) r rest h

  system_ordered : Ordered put_system (IsIndexedSystem total) in_system
  system_ordered s rest h =
      let body : List Kind = put_body s.body rest in
      let routines : List Kind = put_all put_routine s.routines body in
      let inside : List Kind = put_all put_part s.parts routines in
      let a = grows_body s.body rest in
      let b = grows_optional mark.Semicolon s.has_semicolon inside in
      let c = grows_parameters put_group grows_group s.parameters (put_optional mark.Semicolon s.has_semicolon inside) in
      wider (in_system s) (length inside) (length (put_system s rest)) (length body) (length rest) (omega (arith, b, c)) (omega (arith, a))
      (joined (each_in in_part s.parts) (each_in in_routine s.routines) (length inside) (length routines) (length body) (all_ordered put_part (IsIndexedPart total) in_part part_ordered s.parts routines h.2) (all_ordered put_routine (IsIndexedRoutine total) in_routine routine_ordered s.routines body h.3))

  definition_ordered : Ordered put_definition (IsIndexedDefinition total) in_definition
  definition_ordered (type_definition t) rest h = type_ordered t rest h
  definition_ordered (system_definition s) rest h = system_ordered s rest h

  named_ordered : Ordered put_system_definition (IsIndexedSystemDefinition total) (λ d. in_definition d.value)
  named_ordered d rest h =
      let after : List Kind = kind.Mark mark.Semicolon ∷ rest in
      wider (in_definition d.value) (length (put_definition d.value after)) (length (put_system_definition d rest)) (length after) (length rest) (omega arith) (omega arith) (definition_ordered d.value after h.1)

  program_part_ordered : Ordered put_program_part (IsIndexedProgramPart total) in_program_part
  program_part_ordered (program_constants at ds) rest h = let le = grows_all put_constant_definition grows_constant_definition ds rest in omega (arith, le)
  program_part_ordered (program_types at ds) rest h =
      wider (each_in (λ d. in_definition d.value) ds) (length (put_all put_system_definition ds rest)) (length (put_program_part (program_types at ds) rest)) (length rest) (length rest) (omega arith) (omega arith) (some_ordered put_system_definition (IsIndexedSystemDefinition total) (λ d. in_definition d.value) named_ordered ds rest h.1)
  program_part_ordered (program_variables at gs) rest h =
      wider (each_in (λ g. in_type g.variable_type) gs) (length (put_all put_variable_group gs rest)) (length (put_program_part (program_variables at gs) rest)) (length rest) (length rest) (omega arith) (omega arith) (some_ordered put_variable_group (IsIndexedVariableGroup total) (λ g. in_type g.variable_type) variable_group_ordered gs rest h.1)

  pub program_ordered : (p : Program) → IsIndexedProgram total p → AreInOrder total (length (spell p)) (enumerations_of p) 0
  program_ordered p h =
      let last : List Kind = put_body p.body (kind.Mark mark.Period ∷ []) in
      let routines : List Kind = put_all put_routine p.routines last in
      wider (enumerations_of p) (length (spell p)) (length (spell p)) (length last) 0 (omega arith) (omega arith)
      (joined (each_in in_program_part p.parts) (each_in in_routine p.routines) (length (spell p)) (length routines) (length last) (all_ordered put_program_part (IsIndexedProgramPart total) in_program_part program_part_ordered p.parts routines h.0) (all_ordered put_routine (IsIndexedRoutine total) in_routine routine_ordered p.routines last h.1))

  -- ---- the numbers of the first constants

  -- Of each enumeration that is still to come, the number of its first constant is the count of constants before it.
  abbrev Numbers : (ℕ → ℕ) → (n high : ℕ) → List Enumerated → Type 0
  Numbers firsts n high es = (at here : ℕ) → at + here ≡ total → here ≤ high → firsts at ≡ n + before_among at es

  numbered : (firsts : ℕ → ℕ) (es : List Enumerated) (n high : ℕ) → AreInOrder total high es 0 → n + high ≤ 32768 → Numbers firsts n high es → AreNumbered firsts n es
  numbered firsts [] n high h few is = tt
  numbered firsts (e ∷ es) n high h few is =
      let below : h.here ≤ high = h.below in
      let room : h.after + length e.names < h.here = h.names in
      let begins : e.at + h.here ≡ total = h.begins in
      let first : firsts e.at ≡ n = own (is e.at h.here begins below) in
      (first, omega (arith, few), omega (arith, few, below, room), numbered firsts es (n + length e.names) h.after h.others (omega (arith, few, below, room)) (λ at here there le. later at (omega (arith, there, le, begins, room)) (is at here there (omega (arith, le, below, room)))))
    where
      own : firsts e.at ≡ n + (if e.at == e.at then 0 else length e.names + before_among e.at es) → firsts e.at ≡ n
      own f = let g : firsts e.at ≡ n + 0 = rw (eq-eqb e.at e.at refl) at f in omega (arith, g)

      later : (at : ℕ) → e.at < at → firsts at ≡ n + (if e.at == at then 0 else length e.names + before_among at es) → firsts at ≡ (n + length e.names) + before_among at es
      later at lt f = go (e.at == at) refl f
        where
          go : (b : Bool) → (e.at == at) ≡ b → firsts at ≡ n + (if b then 0 else length e.names + before_among at es) → firsts at ≡ (n + length e.names) + before_among at es
          go true same g = absurd (let e' = eqb-true e.at at same in omega (arith, e', lt))
          go false same g = omega (arith, g)

-- in a program of at most 20,000 tokens
pub program_numbered : (p : Program) → IsIndexed p → length (spell p) ≤ 20000 → AreNumbered (constants_before p) 0 (enumerations_of p)
program_numbered p h few =
    let total : ℕ = length (spell p) in
    numbered total (constants_before p) (enumerations_of p) 0 total (program_ordered total p h) (omega (arith, few)) (λ at here there le. omega arith)
