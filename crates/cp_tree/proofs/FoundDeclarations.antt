-- What is read of declarations and of a whole program is spelled so.
use Rattle.std.proofs.Common.{◌≡◌, ◌≤◌, ℕ, ◌+◌, Bool, true, false, cond, List, [], ◌∷◌, ◌++◌, length, Option, Some, None, refl, sym, ap, subst, ◌∙◌, arith}
use Rattle.cp_text.specs.declared.token.Kind.{Kind}
use Rattle.cp_text.specs.declared.token.Kind.TheVariants as kind
use Rattle.cp_text.specs.declared.token.Mark.{Mark}
use Rattle.cp_text.specs.declared.token.Mark.TheVariants as mark
use Rattle.cp_tree.specs.declared.declaration.SystemKind.{SystemKind}
use Rattle.cp_tree.specs.declared.declaration.SystemKind.TheVariants as systems
use Rattle.cp_tree.specs.Input.{Input, Outcome, Parser, ◌>>=◌, pure, place, start_of, sees, after, advance, first_mark, expect, eat}
use Rattle.cp_tree.specs.Input as Input
use Rattle.cp_tree.specs.Syntax.{empty, ConstantDefinition, TypeDefinition, VariableGroup, Part, constants, types, variables, Group, ParameterGroup, Expression, RoutineKind, procedure, function, invariants, Routine, Body, System, Definition, type_definition, system_definition, SystemDefinition, ProgramPart, program_constants, program_types, program_variables, Program}
use Rattle.cp_tree.specs.declared.statement.AssertionKind.TheVariants.{Invariant}
use Rattle.cp_tree.specs.View.{statements_of}
use Rattle.cp_tree.specs.Reading.{many, separated, where_named, identifier, identifiers, constant}
use Rattle.cp_tree.specs.ReadingAnnotations.{annotations_at}
use Rattle.cp_tree.specs.ReadingStatements.{statements_at}
use Rattle.cp_tree.specs.ReadingTypes.{type_term}
use Rattle.cp_tree.specs.ReadingDeclarations.{one_or_more, constant_item, type_item, variable_item, part_by, part_item, parts, body, group_item, parameter_item, parenthesised, procedure_kind, function_kind, routine_with, routine_by, routine_item, routines_after, routines, said, nameless_routine, nameless_of, stated, invariants_of, as_list, system_routines, system_with, system_kind_of, definition_by, definition, system_item, program_part_by, program_part_item, ended, program}
use Rattle.cp_tree.specs.Spelling.{put_all, put_optional, put_identifier, put_constant_definition, put_type_definition, put_variable_group, put_part, put_group, put_parameter_group, put_parameters, put_body, put_statement, routine_mark, put_routine_kind, is_nameless, put_named_routine, put_routine_by, put_routine, system_mark, put_system, put_definition, put_system_definition, put_program_part, spell}
use Rattle.cp_tree.specs.SpellingIndexed.{Begins, IsIndexedConstantDefinition, IsIndexedTypeDefinition, IsIndexedVariableGroup, IsIndexedPart, IsIndexedGroup, IsIndexedParameterGroup, AreParametersIndexed, AreAllIndexed, IsIndexedBody, IsIndexedRoutineKind, IsIndexedNamedRoutine, IsIndexedNamelessRoutine, IsIndexedRoutineBy, IsIndexedRoutine, AreNamed, AreNamedBy, may_say, IsIndexedSystem, IsIndexedDefinition, IsIndexedSystemDefinition, IsIndexedProgramPart, IsIndexedProgram}
use Rattle.cp_tree.specs.SpellingLevel.{type_definition_depth, variable_group_depth, part_depth, body_depth, deepest, routine_depth_by, routine_depth, system_depth, definition_depth, system_definition_depth, program_part_depth, program_depth}
use Rattle.cp_tree.proofs.Shapes.{Shape, mark_shape, pair_of, behind_of, all_of, some_of, separated_of}
use Rattle.cp_tree.proofs.Steps.{Found, found_then, found_map, At, begins, took_onto, Taken, Takes, Passed, sees_passes, expect_takes, joined, found_one, found_two, found_three, found_four, found_five, found_seven}
use Rattle.cp_tree.proofs.FoundLists.{IsItem, MayTake, made_of, made_after, all_built, some_built, separated_built, named_takes, option_shape, eat_takes, IsMany, many_after_found, many_takes, first_and_many_takes, separated_takes}
use Rattle.cp_tree.proofs.FoundConstants.{identifier_shape, names_shape, identifier_takes, identifiers_take, constant_shape, constant_takes}
use Rattle.cp_tree.proofs.FoundTypes.{type_shape, type_takes}
use Rattle.cp_tree.proofs.FoundAnnotations.{annotation_shape, annotations_at_take, asserted_put, said_indexed, said_shallow}
use Rattle.cp_tree.proofs.FoundStatements.{statements_shape, statements_at_take}

-- ---- shapes

abbrev pub constant_definition_shape : ℕ → Shape ConstantDefinition
constant_definition_shape total = record { put = put_constant_definition; indexed = IsIndexedConstantDefinition total; depth = λ d. 0 }

abbrev pub type_definition_shape : ℕ → Shape TypeDefinition
type_definition_shape total = record { put = put_type_definition; indexed = IsIndexedTypeDefinition total; depth = type_definition_depth }

abbrev pub variable_group_shape : ℕ → Shape VariableGroup
variable_group_shape total = record { put = put_variable_group; indexed = IsIndexedVariableGroup total; depth = variable_group_depth }

abbrev pub part_shape : ℕ → Shape Part
part_shape total = record { put = put_part; indexed = IsIndexedPart total; depth = part_depth }

abbrev pub group_shape : ℕ → Shape Group
group_shape total = record { put = put_group; indexed = IsIndexedGroup total; depth = λ g. 0 }

abbrev pub parameter_group_shape : ℕ → Shape ParameterGroup
parameter_group_shape total = record { put = put_parameter_group; indexed = IsIndexedParameterGroup total; depth = λ g. 0 }

abbrev pub parameters_of : {A : Type 0} → Shape A → Shape (List A)
parameters_of s = record { put = put_parameters s.put; indexed = AreParametersIndexed s.put s.indexed; depth = λ xs. 0 }

abbrev pub body_shape : ℕ → Shape Body
body_shape total = record { put = put_body; indexed = IsIndexedBody total; depth = body_depth }

-- of the routines that this word begins
abbrev pub routine_kind_shape : ℕ → Mark → Shape RoutineKind
routine_kind_shape total m = record { put = put_routine_kind; indexed = λ k ks. IsIndexedRoutineKind total k ks × (routine_mark k ≡ m); depth = λ k. 0 }

abbrev pub named_routine_shape : ℕ → Shape Routine
named_routine_shape total = record { put = put_named_routine; indexed = λ r ks. IsIndexedNamedRoutine total r ks × (is_nameless r.kind ≡ false); depth = routine_depth_by false }

abbrev pub nameless_routine_shape : ℕ → Shape Routine
nameless_routine_shape total = record { put = put_routine_by true; indexed = λ r ks. IsIndexedNamelessRoutine total r ks × (is_nameless r.kind ≡ true); depth = routine_depth_by true }

-- the routines of a block, of which the first may be without a name, or none
abbrev pub routines_shape : ℕ → Bool → Shape (List Routine)
routines_shape total c = record { put = put_all put_routine; indexed = λ rs ks. AreAllIndexed put_routine (IsIndexedRoutine total) rs ks × AreNamedBy total c rs; depth = deepest routine_depth }

abbrev pub system_shape : ℕ → Shape System
system_shape total = record { put = put_system; indexed = IsIndexedSystem total; depth = system_depth }

abbrev pub definition_shape : ℕ → Shape Definition
definition_shape total = record { put = put_definition; indexed = IsIndexedDefinition total; depth = definition_depth }

abbrev pub system_definition_shape : ℕ → Shape SystemDefinition
system_definition_shape total = record { put = put_system_definition; indexed = IsIndexedSystemDefinition total; depth = system_definition_depth }

abbrev pub program_part_shape : ℕ → Shape ProgramPart
program_part_shape total = record { put = put_program_part; indexed = IsIndexedProgramPart total; depth = program_part_depth }

-- ---- parts

some_take : {A : Type 0} (total b : ℕ) (s : Shape A) (item : Parser A) → Takes total b s item → Takes total b (some_of s) (one_or_more item)
unfolding one_or_more
some_take total b s item law i placed = first_and_many_takes total b s s (all_of s) (some_of s) (all_built s) (some_built s) item (where_named item) law (named_takes total b s item law) i placed

module _ (total : ℕ) where
  constant_definition_takes : Takes total 50 (constant_definition_shape total) constant_item
  unfolding constant_item
  constant_definition_takes i placed =
      found_four total 50 (Taken total 50 (constant_definition_shape total) i) (identifier_shape total) (mark_shape mark.Equal) (constant_shape total) (mark_shape mark.Semicolon) identifier (expect mark.Equal) constant (expect mark.Semicolon) (λ n u c v. record { name = n; value = c })
      (identifier_takes total 50) (expect_takes total 50 mark.Equal) (constant_takes total 50) (expect_takes total 50 mark.Semicolon) i placed (λ n u c v j t.
      made_of total 50 _ _ _ i j _ _ placed t refl (λ p h. (h.0, h.1.1.0)) (λ d. omega arith))

  type_definition_takes : Takes total 50 (type_definition_shape total) type_item
  unfolding type_item
  type_definition_takes i placed =
      found_four total 50 (Taken total 50 (type_definition_shape total) i) (identifier_shape total) (mark_shape mark.Equal) (type_shape total) (mark_shape mark.Semicolon) identifier (expect mark.Equal) (type_term 50) (expect mark.Semicolon) (λ n u c v. record { name = n; value = c })
      (identifier_takes total 50) (expect_takes total 50 mark.Equal) (type_takes total 50) (expect_takes total 50 mark.Semicolon) i placed (λ n u c v j t.
      made_of total 50 _ _ _ i j _ _ placed t refl (λ p h. (h.0, h.1.1.0)) (λ d. omega arith))

  variable_group_takes : Takes total 50 (variable_group_shape total) variable_item
  unfolding variable_item
  variable_group_takes i placed =
      found_four total 50 (Taken total 50 (variable_group_shape total) i) (names_shape total) (mark_shape mark.Colon) (type_shape total) (mark_shape mark.Semicolon) identifiers (expect mark.Colon) (type_term 50) (expect mark.Semicolon) (λ n u c v. record { names = n; variable_type = c })
      (identifiers_take total 50) (expect_takes total 50 mark.Colon) (type_takes total 50) (expect_takes total 50 mark.Semicolon) i placed (λ n u c v j t.
      made_of total 50 _ _ _ i j _ _ placed t refl (λ p h. (h.0, h.1.1.0)) (λ d. omega arith))

  constants_take : Takes total 50 (some_of (constant_definition_shape total)) (one_or_more constant_item)
  constants_take = some_take total 50 (constant_definition_shape total) constant_item constant_definition_takes

  types_take : Takes total 50 (some_of (type_definition_shape total)) (one_or_more type_item)
  types_take = some_take total 50 (type_definition_shape total) type_item type_definition_takes

  variables_take : Takes total 50 (some_of (variable_group_shape total)) (one_or_more variable_item)
  variables_take = some_take total 50 (variable_group_shape total) variable_item variable_group_takes

  -- a word, and then a list
  worded : {D P : Type 0} (m : Mark) (items : Shape (List D)) (p : Parser (List D)) (shape : Shape P) (made : ℕ → List D → P) (at : ℕ) (ks : List Kind)
      → ((ds : List D) (rest : List Kind) → kind.Mark m ∷ items.put ds rest ≡ shape.put (made at ds) rest)
      → ((ds : List D) (rest : List Kind) → Begins total at (kind.Mark m ∷ items.put ds rest) → items.indexed ds rest → shape.indexed (made at ds) rest)
      → ((ds : List D) → shape.depth (made at ds) ≤ items.depth ds) → Takes total 50 items p → Begins total at (kind.Mark m ∷ ks)
      → let i : Input = record { at = at; rest = kind.Mark m ∷ ks } in Found total (λ o j. IsItem (Taken total 50 shape) i o j) ((p >>= (λ ds. pure (Some (made at ds)))) (record { at = at + 1; rest = ks }))
  worded m items p shape made at ks put indexed depth law placed =
      let i : Input = record { at = at; rest = kind.Mark m ∷ ks } in
      let k : Input = record { at = at + 1; rest = ks } in
      found_one total 50 (λ o j. IsItem (Taken total 50 shape) i o j) items p (λ ds. Some (made at ds)) law k (omega arith) (λ ds j t.
      made_after total 50 50 m items shape i k j ds (made at ds) placed (record { rest = refl; placed = omega arith }) t (put ds j.rest) (indexed ds j.rest) (λ d. omega (arith, d, depth ds)))

  abbrev MayBePart : Input → Option Part → Input → Type 0
  MayBePart i o j = IsItem (Taken total 50 (part_shape total)) i o j

  part_found : (at : ℕ) (ks : List Kind) → Begins total at ks → let i : Input = record { at = at; rest = ks } in Found total (MayBePart i) (part_by at (first_mark ks) i)
  unfolding advance
  part_found at (kind.Mark mark.Const ∷ ks) placed = worded mark.Const (some_of (constant_definition_shape total)) (one_or_more constant_item) (part_shape total) constants at ks (λ ds r. refl) (λ ds r b h. (b, h)) (λ ds. omega arith) constants_take placed
  part_found at (kind.Mark mark.Type ∷ ks) placed = worded mark.Type (some_of (type_definition_shape total)) (one_or_more type_item) (part_shape total) types at ks (λ ds r. refl) (λ ds r b h. (b, h)) (λ ds. omega arith) types_take placed
  part_found at (kind.Mark mark.Var ∷ ks) placed = worded mark.Var (some_of (variable_group_shape total)) (one_or_more variable_item) (part_shape total) variables at ks (λ ds r. refl) (λ ds r b h. (b, h)) (λ ds. omega arith) variables_take placed
  part_found at _ placed = refl

  part_takes : MayTake total 50 (part_shape total) part_item
  unfolding part_item Input.mark
  part_takes i placed = part_found i.at i.rest placed

  parts_take : Takes total 50 (all_of (part_shape total)) parts
  unfolding parts
  parts_take i placed = many_takes total 50 (part_shape total) (all_of (part_shape total)) (all_built (part_shape total)) part_item part_takes i placed

  -- ---- routines

  body_takes : Takes total 50 (body_shape total) body
  unfolding body
  body_takes i placed =
      found_three total 50 (Taken total 50 (body_shape total) i) (mark_shape mark.Begin) (statements_shape total) (mark_shape mark.End) (expect mark.Begin) (statements_at 50) (expect mark.End) (λ u ss v. record { at = i.at; statements = statements_of ss })
      (expect_takes total 50 mark.Begin) (statements_at_take total 50) (expect_takes total 50 mark.End) i placed (λ u ss v j t.
      made_of total 50 _ _ _ i j _ _ placed t refl (λ p h. (p, h.1.0)) (λ d. omega arith))

  group_takes : Takes total 50 (group_shape total) group_item
  unfolding group_item
  group_takes i placed =
      found_three total 50 (Taken total 50 (group_shape total) i) (names_shape total) (mark_shape mark.Colon) (identifier_shape total) identifiers (expect mark.Colon) identifier (λ ns u n. record { names = ns; type_name = n })
      (identifiers_take total 50) (expect_takes total 50 mark.Colon) (identifier_takes total 50) i placed (λ ns u n j t.
      made_of total 50 _ _ _ i j _ _ placed t refl (λ p h. (h.0, h.1.1)) (λ d. omega arith))

  parameter_takes : Takes total 50 (parameter_group_shape total) parameter_item
  unfolding parameter_item
  parameter_takes i placed =
      found_two total 50 (Taken total 50 (parameter_group_shape total) i) (option_shape mark.Var) (group_shape total) (eat mark.Var) group_item (λ c g. record { at = i.at; is_var = c; group = g })
      (eat_takes total 50 mark.Var) group_takes i placed (λ c g j t.
      made_of total 50 _ _ _ i j _ _ placed t refl (λ p h. (p, h.1)) (λ d. omega arith))

  parameters_made : {A : Type 0} (s : Shape A) (i k j : Input) (xs : List A) → Passed total mark.OpenParenthesis i k → Taken total 50 (pair_of (separated_of mark.Semicolon s) (mark_shape mark.CloseParenthesis)) k (xs, tt) j → Taken total 50 (parameters_of s) i xs j
  parameters_made s i k j [] q t = absurd (t.0.indexed.0)
  parameters_made s i k j (x ∷ xs) q t =
      let all = t.0 in
      (record { spelled = q.rest ∙ ap (λ (ks : List Kind). kind.Mark mark.OpenParenthesis ∷ ks) all.spelled; indexed = all.indexed.0; shallow = omega arith }, t.1)

  parenthesised_takes : {A : Type 0} (s : Shape A) (item : Parser A) → Takes total 50 s item → Takes total 50 (parameters_of s) (parenthesised item)
  unfolding parenthesised after
  parenthesised_takes {A} s item law i placed =
      let inside : Parser (List A) = separated mark.Semicolon item >>= (λ xs. expect mark.CloseParenthesis >>= (λ u. pure xs)) in
      let Q = Taken total 50 (parameters_of s) i in
      elim (sees mark.OpenParenthesis i) as (λ c. sees mark.OpenParenthesis i ≡ c → Found total Q ((cond c inside (pure [])) (cond c (advance i) i))) [
        | true ↦ λ e.
            let q = sees_passes total mark.OpenParenthesis i placed e in
            found_two total 50 Q (separated_of mark.Semicolon s) (mark_shape mark.CloseParenthesis) (separated mark.Semicolon item) (expect mark.CloseParenthesis) (λ xs u. xs)
            (separated_takes total 50 mark.Semicolon s (all_of (behind_of mark.Semicolon s)) (separated_of mark.Semicolon s) (all_built (behind_of mark.Semicolon s)) (separated_built mark.Semicolon s) item law) (expect_takes total 50 mark.CloseParenthesis) (advance i) q.placed (λ xs u j t.
            parameters_made s i (advance i) j xs q t)
        | false ↦ λ e. (record { spelled = refl; indexed = tt; shallow = omega arith }, placed)
      ] refl

  procedure_takes : Takes total 50 (routine_kind_shape total mark.Procedure) procedure_kind
  unfolding procedure_kind
  procedure_takes i placed =
      found_one total 50 (Taken total 50 (routine_kind_shape total mark.Procedure) i) (parameters_of (parameter_group_shape total)) (parenthesised parameter_item) (λ gs. procedure gs) (parenthesised_takes (parameter_group_shape total) parameter_item parameter_takes) i placed (λ gs j t.
      made_of total 50 _ _ _ i j _ _ placed t refl (λ p h. (h, refl)) (λ d. omega arith))

  function_takes : Takes total 50 (routine_kind_shape total mark.Function) function_kind
  unfolding function_kind
  function_takes i placed =
      found_three total 50 (Taken total 50 (routine_kind_shape total mark.Function) i) (parameters_of (group_shape total)) (mark_shape mark.Colon) (identifier_shape total) (parenthesised group_item) (expect mark.Colon) identifier (λ gs u n. function gs n)
      (parenthesised_takes (group_shape total) group_item group_takes) (expect_takes total 50 mark.Colon) (identifier_takes total 50) i placed (λ gs u n j t.
      made_of total 50 _ _ _ i j _ _ placed t refl (λ p h. ((h.0, h.1.1), refl)) (λ d. omega arith))

  kind_named : (k : RoutineKind) (ks : List Kind) → IsIndexedRoutineKind total k ks → is_nameless k ≡ false
  kind_named (procedure gs) ks h = refl
  kind_named (function gs i) ks h = refl
  kind_named invariants ks h = absurd h

  routine_found : (m : Mark) (heading : Parser RoutineKind) → Takes total 50 (routine_kind_shape total m) heading → (i k : Input) → At total i → Passed total m i k → Found total (Taken total 50 (named_routine_shape total) i) (routine_with heading i.at k)
  unfolding routine_with
  routine_found m heading law i k placed q =
      found_seven total 50 (Taken total 50 (named_routine_shape total) i) (option_shape mark.Entry) (identifier_shape total) (routine_kind_shape total m) (mark_shape mark.Semicolon) (all_of (part_shape total)) (body_shape total) (mark_shape mark.Semicolon)
      (eat mark.Entry) identifier heading (expect mark.Semicolon) parts body (expect mark.Semicolon) (λ c n h u ps d v. record { at = i.at; is_entry = c; name = n; kind = h; parts = ps; body = d })
      (eat_takes total 50 mark.Entry) (identifier_takes total 50) law (expect_takes total 50 mark.Semicolon) parts_take body_takes (expect_takes total 50 mark.Semicolon) k q.placed (λ c n h u ps d v j t.
      let all = t.0 in
      let shallow = all.shallow in
      let tail = put_optional mark.Entry c (put_identifier n (put_routine_kind h (kind.Mark mark.Semicolon ∷ put_all put_part ps (put_body d (kind.Mark mark.Semicolon ∷ j.rest))))) in
      let is_m = all.indexed.1.1.0.1 in
      let has_name = kind_named h (kind.Mark mark.Semicolon ∷ put_all put_part ps (put_body d (kind.Mark mark.Semicolon ∷ j.rest))) all.indexed.1.1.0.0 in
      let spelled = subst (λ (x : Mark). i.rest ≡ kind.Mark x ∷ tail) (sym is_m) (q.rest ∙ ap (λ (ks : List Kind). kind.Mark m ∷ ks) all.spelled) in
      (record { spelled = spelled; indexed = ((begins total i _ placed spelled, all.indexed.1.0, all.indexed.1.1.0.0, all.indexed.1.1.1.1.0, all.indexed.1.1.1.1.1.0), has_name); shallow = omega (arith, shallow) }, t.1))

  abbrev MayBeRoutine : Input → Option Routine → Input → Type 0
  MayBeRoutine i o j = IsItem (Taken total 50 (named_routine_shape total)) i o j

  routine_some : (m : Mark) (heading : Parser RoutineKind) → Takes total 50 (routine_kind_shape total m) heading → (i k : Input) → At total i → Passed total m i k → Found total (MayBeRoutine i) ((routine_with heading i.at >>= (λ r. pure (Some r))) k)
  routine_some m heading law i k placed q = found_then total (Taken total 50 (named_routine_shape total) i) (MayBeRoutine i) (routine_with heading i.at k) (λ r. pure (Some r)) (routine_found m heading law i k placed q) (λ r j t. t)

  routine_by_found : (at : ℕ) (ks : List Kind) → Begins total at ks → let i : Input = record { at = at; rest = ks } in Found total (MayBeRoutine i) (routine_by at (first_mark ks) i)
  unfolding advance
  routine_by_found at (kind.Mark mark.Procedure ∷ ks) placed = routine_some mark.Procedure procedure_kind procedure_takes (record { at = at; rest = kind.Mark mark.Procedure ∷ ks }) (record { at = at + 1; rest = ks }) placed (record { rest = refl; placed = omega arith })
  routine_by_found at (kind.Mark mark.Function ∷ ks) placed = routine_some mark.Function function_kind function_takes (record { at = at; rest = kind.Mark mark.Function ∷ ks }) (record { at = at + 1; rest = ks }) placed (record { rest = refl; placed = omega arith })
  routine_by_found at _ placed = refl

  routine_takes : MayTake total 50 (named_routine_shape total) routine_item
  unfolding routine_item Input.mark
  routine_takes i placed = routine_by_found i.at i.rest placed

  -- Where all have names, they are spelled, numbered and nested as such.
  pub named_put : (rs : List Routine) (ks : List Kind) → AreNamed total rs → put_all put_routine rs ks ≡ put_all put_named_routine rs ks
  named_put [] ks h = refl
  named_put (r ∷ rs) ks h = ap (λ (c : Bool). put_routine_by c r (put_all put_routine rs ks)) h.0 ∙ ap (put_named_routine r) (named_put rs ks h.1)

  pub named_depth : (rs : List Routine) → AreNamed total rs → deepest routine_depth rs ≡ deepest (routine_depth_by false) rs
  named_depth [] h = refl
  named_depth (r ∷ rs) h = let one = ap (λ (c : Bool). routine_depth_by c r) h.0 in let more = named_depth rs h.1 in omega (arith, one, more)

  named_are : (rs : List Routine) (ks : List Kind) → AreAllIndexed put_named_routine (named_routine_shape total).indexed rs ks → AreNamed total rs
  named_are [] ks h = tt
  named_are (r ∷ rs) ks h = (h.0.1, named_are rs ks h.1)

  one_indexed : (c : Bool) (r : Routine) (ks : List Kind) → is_nameless r.kind ≡ c → IsIndexedRoutineBy total c r ks → IsIndexedRoutine total r ks
  one_indexed c r ks e h = subst (λ (c : Bool). IsIndexedRoutineBy total c r ks) (sym e) h

  named_indexed : (rs : List Routine) (ks : List Kind) → AreAllIndexed put_named_routine (named_routine_shape total).indexed rs ks → AreAllIndexed put_routine (IsIndexedRoutine total) rs ks
  named_indexed [] ks h = tt
  named_indexed (r ∷ rs) ks h =
      let e = named_put rs ks (named_are rs ks h.1) in
      (one_indexed false r (put_all put_routine rs ks) h.0.1 (subst (λ (ts : List Kind). IsIndexedNamedRoutine total r ts) (sym e) h.0.0), named_indexed rs ks h.1)

  named_taken : (i j : Input) (rs : List Routine) → Taken total 50 (all_of (named_routine_shape total)) i rs j → Taken total 50 (routines_shape total false) i rs j
  named_taken i j rs t =
      let all = t.0 in
      let named = named_are rs j.rest all.indexed in
      let same = named_depth rs named in
      (record { spelled = all.spelled ∙ sym (named_put rs j.rest named); indexed = (named_indexed rs j.rest all.indexed, named); shallow = omega (arith, all.shallow, same) }, t.1)

  abbrev AreMore : List Routine → Input → List Routine → Input → Type 0
  AreMore found i ys j = IsMany total 50 (all_of (named_routine_shape total)) found i ys j

  more_found : (found : List Routine) (i : Input) → At total i → Found total (AreMore found i) (routines_after found i)
  unfolding routines_after
  more_found found i placed = many_after_found total 50 (named_routine_shape total) (all_of (named_routine_shape total)) (all_built (named_routine_shape total)) routine_item routine_takes found i placed

  routines_take : Takes total 50 (routines_shape total false) routines
  unfolding routines
  routines_take i placed = found_map total (AreMore [] i) (Taken total 50 (routines_shape total false) i) (routines_after [] i) (more_found [] i placed) (λ ys j t.
      subst (λ (rs : List Routine). Taken total 50 (routines_shape total false) i rs j) (sym t.1) (named_taken i j t.0 t.2))

  -- ---- invariants

  -- the routine without a name, or none
  abbrev IsFirst : Input → Option Routine → Input → Type 0
  IsFirst i o j = Taken total 50 (all_of (nameless_routine_shape total)) i (as_list o) j

  nameless_taken : (i j : Input) (e : Expression) (es : List Expression) → At total i → Taken total 50 (all_of (annotation_shape total mark.Invariant)) i (e ∷ es) j
      → Taken total 50 (all_of (nameless_routine_shape total)) i (nameless_routine i.at (said (e ∷ es) j.at) ∷ []) j
  nameless_taken i j e es placed t =
      let all = t.0 in
      let s = said (e ∷ es) j.at in
      let spelled = all.spelled ∙ sym (asserted_put Invariant (e ∷ es) (empty j.at) j.rest) in
      let shallow = said_shallow (e ∷ es) j.at 50 all.shallow in (
        record {
          spelled = spelled;
          indexed = ((record { begins = begins total i (put_statement s j.rest) placed spelled; not_entry = refl; name = refl; no_parts = refl; body = refl; said = said_indexed total (e ∷ es) j.at j.rest all.indexed t.1 }, refl), tt);
          shallow = omega (arith, shallow);
        },
        t.1,
      )

  said_found : (i j : Input) (es : List Expression) → At total i → Taken total 50 (all_of (annotation_shape total mark.Invariant)) i es j → IsFirst i (nameless_of i.at es j.at) j
  said_found i j [] placed t = let all = t.0 in (record { spelled = all.spelled; indexed = tt; shallow = omega arith }, t.1)
  said_found i j (e ∷ es) placed t = nameless_taken i j e es placed t

  said_by : (i : Input) → At total i → Found total (IsFirst i) ((annotations_at mark.Invariant 50 >>= (λ es. place >>= (λ end. pure (nameless_of i.at es end)))) i)
  said_by i placed = found_then total (Taken total 50 (all_of (annotation_shape total mark.Invariant)) i) (IsFirst i) (annotations_at mark.Invariant 50 i) (λ es. place >>= (λ end. pure (nameless_of i.at es end))) (annotations_at_take total 50 mark.Invariant i placed) (λ es j t.
      said_found i j es placed t)

  invariants_found : (s : SystemKind) (i : Input) → At total i → Found total (IsFirst i) (invariants_of s i)
  unfolding invariants_of stated
  invariants_found systems.Process i placed = (record { spelled = refl; indexed = tt; shallow = omega arith }, placed)
  invariants_found systems.Class i placed = said_by i placed
  invariants_found systems.Monitor i placed = said_by i placed

  -- the first, and then those with names
  first_and_more : (i k j : Input) (o : Option Routine) (rs : List Routine) → IsFirst i o k → Taken total 50 (all_of (named_routine_shape total)) k rs j → Taken total 50 (routines_shape total true) i (as_list o ++ rs) j
  first_and_more i k j None [] p q = let all = p.0 in let more = q.0 in (record { spelled = all.spelled ∙ more.spelled; indexed = (tt, tt); shallow = omega arith }, q.1)
  first_and_more i k j None (r ∷ rs) p q =
      let all = p.0 in
      let t = named_taken k j (r ∷ rs) q in
      let more = t.0 in
      (record { spelled = all.spelled ∙ more.spelled; indexed = (more.indexed.0, more.indexed.1.1); shallow = more.shallow }, q.1)
  first_and_more i k j (Some r) rs p q =
      let t = named_taken k j rs q in
      let more = t.0 in
      let rest = put_all put_routine rs j.rest in
      let all = took_onto 50 (all_of (nameless_routine_shape total)) i.rest (r ∷ []) k.rest rest p.0 more.spelled in
      let is = all.indexed.0.1 in
      let deep = ap (λ (c : Bool). routine_depth_by c r) is in (
        record {
          spelled = all.spelled ∙ sym (ap (λ (c : Bool). put_routine_by c r rest) is);
          indexed = ((one_indexed true r rest is all.indexed.0.0, more.indexed.0), more.indexed.1);
          shallow = omega (arith, all.shallow, more.shallow, deep);
        },
        q.1,
      )

  first_and_more_found : (s : SystemKind) (i : Input) → At total i → Found total (Taken total 50 (routines_shape total true) i) ((invariants_of s >>= (λ o. routines_after (as_list o))) i)
  first_and_more_found s i placed =
      let Q = Taken total 50 (routines_shape total true) i in
      found_then total (IsFirst i) Q (invariants_of s i) (λ o. routines_after (as_list o)) (invariants_found s i placed) (λ o k p.
      found_map total (AreMore (as_list o) k) Q (routines_after (as_list o) k) (more_found (as_list o) k p.1) (λ ys j t.
      subst (λ (rs : List Routine). Taken total 50 (routines_shape total true) i rs j) (sym t.1) (first_and_more i k j o t.0 p t.2)))

  process_routines_found : (i : Input) → At total i → Found total (Taken total 50 (routines_shape total false) i) ((invariants_of systems.Process >>= (λ o. routines_after (as_list o))) i)
  unfolding invariants_of
  process_routines_found i placed = found_map total (AreMore [] i) (Taken total 50 (routines_shape total false) i) (routines_after [] i) (more_found [] i placed) (λ ys j t.
      subst (λ (rs : List Routine). Taken total 50 (routines_shape total false) i rs j) (sym t.1) (named_taken i j t.0 t.2))

  system_routines_take : (s : SystemKind) → Takes total 50 (routines_shape total (may_say total s)) (system_routines s)
  unfolding system_routines
  system_routines_take systems.Class i placed = first_and_more_found systems.Class i placed
  system_routines_take systems.Monitor i placed = first_and_more_found systems.Monitor i placed
  system_routines_take systems.Process i placed = process_routines_found i placed

  -- ---- system types

  system_found : (s : SystemKind) (i k : Input) → At total i → Passed total (system_mark s) i k → Found total (Taken total 50 (system_shape total) i) (system_with s i.at k)
  unfolding system_with
  system_found s i k placed q =
      found_five total 50 (Taken total 50 (system_shape total) i) (parameters_of (group_shape total)) (option_shape mark.Semicolon) (all_of (part_shape total)) (routines_shape total (may_say total s)) (body_shape total)
      (parenthesised group_item) (eat mark.Semicolon) parts (system_routines s) body (λ gs c ps rs d. record { at = i.at; kind = s; parameters = gs; has_semicolon = c; parts = ps; routines = rs; body = d })
      (parenthesised_takes (group_shape total) group_item group_takes) (eat_takes total 50 mark.Semicolon) parts_take (system_routines_take s) body_takes k q.placed (λ gs c ps rs d j t.
      made_after total 50 _ (system_mark s) _ _ i k j _ _ placed q t refl (λ p h. (p, h.0, h.1.1.0, h.1.1.1.0.0, h.1.1.1.0.1, h.1.1.1.1)) (λ d. omega arith))

  abbrev IsDefinition : Input → Definition → Input → Type 0
  IsDefinition i d j = Taken total 50 (definition_shape total) i d j

  system_definition_found : (s : SystemKind) (i k : Input) → At total i → Passed total (system_mark s) i k → Found total (IsDefinition i) ((system_with s i.at >>= (λ d. pure (system_definition d))) k)
  system_definition_found s i k placed q = found_then total (Taken total 50 (system_shape total) i) (IsDefinition i) (system_with s i.at k) (λ d. pure (system_definition d)) (system_found s i k placed q) (λ d j t.
      made_of total 50 _ _ _ i j _ _ placed t refl (λ p h. h) (λ d. d))

  type_definition_found : (i : Input) → At total i → Found total (IsDefinition i) ((type_term 50 >>= (λ t. pure (type_definition t))) i)
  type_definition_found i placed = found_one total 50 (IsDefinition i) (type_shape total) (type_term 50) (λ t. type_definition t) (type_takes total 50) i placed (λ d j t.
      made_of total 50 _ _ _ i j _ _ placed t refl (λ p h. h) (λ d. d))

  definition_found : (at : ℕ) (ks : List Kind) → Begins total at ks → let i : Input = record { at = at; rest = ks } in Found total (IsDefinition i) (definition_by at (system_kind_of (first_mark ks)) i)
  unfolding advance
  definition_found at (kind.Mark mark.Class ∷ ks) placed = system_definition_found systems.Class (record { at = at; rest = kind.Mark mark.Class ∷ ks }) (record { at = at + 1; rest = ks }) placed (record { rest = refl; placed = omega arith })
  definition_found at (kind.Mark mark.Monitor ∷ ks) placed = system_definition_found systems.Monitor (record { at = at; rest = kind.Mark mark.Monitor ∷ ks }) (record { at = at + 1; rest = ks }) placed (record { rest = refl; placed = omega arith })
  definition_found at (kind.Mark mark.Process ∷ ks) placed = system_definition_found systems.Process (record { at = at; rest = kind.Mark mark.Process ∷ ks }) (record { at = at + 1; rest = ks }) placed (record { rest = refl; placed = omega arith })
  definition_found at ks placed = type_definition_found (record { at = at; rest = ks }) placed

  definition_takes : Takes total 50 (definition_shape total) definition
  unfolding definition Input.mark
  definition_takes i placed = definition_found i.at i.rest placed

  system_definition_takes : Takes total 50 (system_definition_shape total) system_item
  unfolding system_item
  system_definition_takes i placed =
      found_four total 50 (Taken total 50 (system_definition_shape total) i) (identifier_shape total) (mark_shape mark.Equal) (definition_shape total) (mark_shape mark.Semicolon) identifier (expect mark.Equal) definition (expect mark.Semicolon) (λ n u c v. record { name = n; value = c })
      (identifier_takes total 50) (expect_takes total 50 mark.Equal) definition_takes (expect_takes total 50 mark.Semicolon) i placed (λ n u c v j t.
      made_of total 50 _ _ _ i j _ _ placed t refl (λ p h. (h.0, h.1.1.0)) (λ d. omega arith))

  -- ---- programs

  systems_take : Takes total 50 (some_of (system_definition_shape total)) (one_or_more system_item)
  systems_take = some_take total 50 (system_definition_shape total) system_item system_definition_takes

  abbrev MayBeProgramPart : Input → Option ProgramPart → Input → Type 0
  MayBeProgramPart i o j = IsItem (Taken total 50 (program_part_shape total)) i o j

  program_part_found : (at : ℕ) (ks : List Kind) → Begins total at ks → let i : Input = record { at = at; rest = ks } in Found total (MayBeProgramPart i) (program_part_by at (first_mark ks) i)
  unfolding advance
  program_part_found at (kind.Mark mark.Const ∷ ks) placed = worded mark.Const (some_of (constant_definition_shape total)) (one_or_more constant_item) (program_part_shape total) program_constants at ks (λ ds r. refl) (λ ds r b h. (b, h)) (λ ds. omega arith) constants_take placed
  program_part_found at (kind.Mark mark.Type ∷ ks) placed = worded mark.Type (some_of (system_definition_shape total)) (one_or_more system_item) (program_part_shape total) program_types at ks (λ ds r. refl) (λ ds r b h. (b, h)) (λ ds. omega arith) systems_take placed
  program_part_found at (kind.Mark mark.Var ∷ ks) placed = worded mark.Var (some_of (variable_group_shape total)) (one_or_more variable_item) (program_part_shape total) program_variables at ks (λ ds r. refl) (λ ds r b h. (b, h)) (λ ds. omega arith) variables_take placed
  program_part_found at _ placed = refl

  program_part_takes : MayTake total 50 (program_part_shape total) program_part_item
  unfolding program_part_item Input.mark
  program_part_takes i placed = program_part_found i.at i.rest placed

  program_parts_take : Takes total 50 (all_of (program_part_shape total)) (many program_part_item)
  program_parts_take = many_takes total 50 (program_part_shape total) (all_of (program_part_shape total)) (all_built (program_part_shape total)) program_part_item program_part_takes

-- the tokens of a program that was read
pub record IsRead (ks : List Kind) (p : Program) : Type 0 where
  pub spelled : ks ≡ spell p
  pub indexed : IsIndexedProgram (length ks) p
  pub shallow : program_depth p ≤ 50

ended_found : (total : ℕ) (p : Program) (i : Input) (ks : List Kind) → At total i → i.rest ≡ ks → Found total (λ x j. (x ≡ p) × (i.rest ≡ [])) (ended p i ks)
ended_found total p i [] placed e = (refl, e)
ended_found total p i (k ∷ ks) placed e = omega arith

pub program_found : (ks : List Kind) → Found (length ks) (λ p j. IsRead ks p) (program (start_of ks))
unfolding program
program_found ks =
    let total = length ks in
    let i : Input = start_of ks in
    let Q : Program → Input → Type 0 = λ p j. IsRead ks p in
    let made : List ProgramPart → List Routine → Body → ℕ → Program = λ ps rs d at. record { parts = ps; routines = rs; body = d; period = at } in
    let last : List ProgramPart → List Routine → Body → Parser Program = λ ps rs d m. (expect mark.Period >>= (λ u n. ended (made ps rs d m.at) n n.rest)) m in
    found_then total (Taken total 50 (all_of (program_part_shape total)) i) Q (many program_part_item i) (λ ps. routines >>= (λ rs. body >>= (λ d. last ps rs d))) (program_parts_take total i (omega arith)) (λ ps k p.
    found_then total (Taken total 50 (routines_shape total false) k) Q (routines k) (λ rs. body >>= (λ d. last ps rs d)) (routines_take total k p.1) (λ rs l q.
    found_then total (Taken total 50 (body_shape total) l) Q (body l) (last ps rs) (body_takes total l q.1) (λ d m r.
    found_then total (Taken total 50 (mark_shape mark.Period) m) Q (expect mark.Period m) (λ u n. ended (made ps rs d m.at) n n.rest) (expect_takes total 50 mark.Period m r.1) (λ u n s.
    found_map total (λ x j. (x ≡ made ps rs d m.at) × (n.rest ≡ [])) Q (ended (made ps rs d m.at) n n.rest) (ended_found total (made ps rs d m.at) n n.rest s.1 refl) (λ x j e.
    let shapes = pair_of (all_of (program_part_shape total)) (pair_of (routines_shape total false) (pair_of (body_shape total) (mark_shape mark.Period))) in
    let whole = joined total 50 (all_of (program_part_shape total)) (pair_of (routines_shape total false) (pair_of (body_shape total) (mark_shape mark.Period))) i k n ps (rs, (d, tt)) p
    (joined total 50 (routines_shape total false) (pair_of (body_shape total) (mark_shape mark.Period)) k l n rs (d, tt) q (joined total 50 (body_shape total) (mark_shape mark.Period) l m n d tt r s)) in
    let all = took_onto 50 shapes ks (ps, (rs, (d, tt))) n.rest [] whole.0 e.1 in
    let shallow = all.shallow in
    let end = s.0 in
    let one : IsRead ks (made ps rs d m.at) = record {
      spelled = all.spelled;
      indexed = (all.indexed.0, all.indexed.1.0.0, all.indexed.1.0.1, all.indexed.1.1.0, begins total m (kind.Mark mark.Period ∷ []) r.1 (end.spelled ∙ ap (λ (r : List Kind). kind.Mark mark.Period ∷ r) e.1));
      shallow = omega (arith, shallow);
    } in
    subst (λ (p : Program). IsRead ks p) (sym e.0) one)))))
