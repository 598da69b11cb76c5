-- The tokens of declarations are read as these.
use Rattle.std.proofs.Common.{◌≡◌, ℕ, ◌+◌, ◌<◌, ◌≤◌, Bool, true, false, List, [], ◌∷◌, ◌++◌, length, Option, Some, None, Ok, refl, sym, ap, subst, ◌∙◌, arith}
use Rattle.cp_text.specs.declared.token.Kind.{Kind}
use Rattle.cp_text.specs.declared.token.Kind.TheVariants as kind
use Rattle.cp_text.specs.declared.token.Mark.{Mark}
use Rattle.cp_text.specs.declared.token.Mark.TheVariants as mark
use Rattle.cp_tree.specs.declared.constant.Identifier.{Identifier}
use Rattle.cp_tree.specs.declared.statement.AssertionKind.{AssertionKind}
use Rattle.cp_tree.specs.declared.statement.AssertionKind.TheVariants as kinds
use Rattle.cp_tree.specs.declared.declaration.SystemKind.{SystemKind}
use Rattle.cp_tree.specs.declared.declaration.SystemKind.TheVariants as systems
use Rattle.cp_tree.specs.Input as Input
use Rattle.cp_tree.specs.Input.{Input, Outcome, Parser, ◌>>=◌, pure, place, same, is_mark, is_name, first, first_mark, advance, expect, eat}
use Rattle.cp_tree.specs.Syntax.{Expression, Statement, empty, asserted, Statements, no_statements, more_statements, subrange, TypeTerm, simple, ConstantDefinition, Part, constants, types, variables, ParameterGroup, RoutineKind, procedure, function, invariants, nameless, Routine, Body, System, Definition, type_definition, system_definition, ProgramPart, program_constants, program_types, program_variables}
use Rattle.cp_tree.specs.View.{statements_of}
use Rattle.cp_tree.specs.Reading.{many, separated, where_named, identifier, identifiers, constant}
use Rattle.cp_tree.specs.ReadingAnnotations.{annotations_at}
use Rattle.cp_tree.specs.ReadingStatements.{statements_at}
use Rattle.cp_tree.specs.ReadingTypes.{type_term}
use Rattle.cp_tree.specs.ReadingDeclarations.{one_or_more, constant_item, type_item, variable_item, part_by, part_item, parts, body, group_item, parameter_item, parenthesised, procedure_kind, function_kind, routine_with, routine_by, routine_item, routines_after, routines, said, nameless_routine, nameless_of, stated, invariants_of, as_list, system_routines, system_with, system_kind_of, definition_by, definition, system_item, program_part_by, program_part_item}
use Rattle.cp_tree.specs.Spelling.{put_all, put_separated, put_optional, put_identifier, put_names, put_constant, put_type, put_part, put_group, put_parameters, put_body, put_statements, opening_mark, routine_mark, put_routine_kind, is_nameless, put_named_routine, put_routine_by, put_routine, system_mark, put_system, put_program_part}
use Rattle.cp_tree.specs.SpellingIndexed.{Begins, AreIndexedNames, AreAllIndexed, AreIndexedInvariants, IsIndexedInvariantBody, IsIndexedNamedRoutine, IsIndexedNamelessRoutine, IsIndexedRoutineBy, IsIndexedRoutine, AreNamed, may_say}
use Rattle.cp_tree.specs.SpellingLevel.{type_depth, deepest, body_depth, expression_depth, routine_depth_by, routine_depth, system_depth, definition_depth}
use Rattle.cp_tree.proofs.Shapes.{Shape, mark_shape, behind_of, all_of, some_of, separated_of, flat, IsListed, all_listed}
use Rattle.cp_tree.proofs.FoundConstants.{identifier_shape, constant_shape}
use Rattle.cp_tree.proofs.FoundDeclarations.{constant_definition_shape, type_definition_shape, variable_group_shape, part_shape, group_shape, parameter_group_shape, parameters_of, body_shape, routine_kind_shape, named_routine_shape, routines_shape, named_put, named_depth, system_shape, definition_shape, system_definition_shape, program_part_shape}
use Rattle.cp_tree.proofs.Grows.{grows_group, grows_parameter_group, exceeds_constant_definition, exceeds_type_definition, exceeds_variable_group, exceeds_part, exceeds_named_routine, exceeds_system_definition, exceeds_program_part}
use Rattle.cp_tree.proofs.Lands.{on, Lands, lands_then, lands_map, LandsOn, LandsAll, before, expect_lands, option_before, eat_lands, eaten, not_eaten, land_one, land_two, land_three, land_four, land_five, land_seven}
use Rattle.cp_tree.proofs.LandsLists.{IsApart, IsApartLed, flat_apart, flat_apart_led, follows, LandsItem, EndsOn, named_lands, named_ends, many_after_lands, many_lands, first_and_many_lands, separated_lands}
use Rattle.cp_tree.proofs.FoundAnnotations.{put_annotation, AreIndexedAnnotations, asserted_put}
use Rattle.cp_tree.proofs.AgainAnnotations.{annotations_at_land, tests_of, said_apart, said_back, said_deep}
use Rattle.cp_tree.proofs.AgainConstants.{identifier_lands, names_before, identifiers_land, constant_lands}
use Rattle.cp_tree.proofs.AgainTypes.{NoRange, semicolon_no_range, colon_no_comma, is_sign, constant_sign, type_before, type_lands}
use Rattle.cp_tree.proofs.AgainStatements.{statements_list, statements_back, end_closes, statements_before, statements_at_land}

-- ---- definitions, up to the next token that is no name

abbrev Unnamed : List Kind → Type 0
Unnamed ks = is_name (first ks) ≡ false

abbrev more_before : {A : Type 0} → Shape A → Shape (List A)
more_before s = before (all_of s) Unnamed

abbrev some_before : {A : Type 0} → Shape A → Shape (List A)
some_before s = before (some_of s) Unnamed

some_apart : {A : Type 0} (s : Shape A) → IsApart s (more_before s)
some_apart s = record {
  listed = record { no_put = λ ks. refl; more_put = λ x xs ks. refl; no_depth = refl; more_depth = λ x xs. refl };
  first_indexed = λ x xs ks h. h.0.0;
  rest_indexed = λ x xs ks h. (h.0.1, h.1);
}

some_apart_led : {A : Type 0} (s : Shape A) → IsApartLed s (more_before s) (some_before s)
some_apart_led s = record {
  led = record { led_put = λ x xs ks. refl; led_depth = λ x xs. refl };
  none_indexed = λ ks h. h.0;
  head_indexed = λ x xs ks h. h.0.0;
  more_indexed = λ x xs ks h. (h.0.1, h.1);
}

some_land : {A : Type 0} (total b : ℕ) (s : Shape A) (item : Parser A) → LandsAll total b s item → ((x : A) (ks : List Kind) → s.indexed x ks → is_name (first (s.put x ks)) ≡ true) → ((x : A) (ks : List Kind) → length ks < length (s.put x ks))
    → LandsAll total b (some_before s) (one_or_more item)
unfolding one_or_more
some_land total b s item law starts exceeds =
    first_and_many_lands total b s s (more_before s) (some_before s) (some_apart s) (some_apart_led s) item (where_named item) law (λ x. named_lands total b s item x (law x) (starts x)) (λ ks h. named_ends total item ks h.1) exceeds

-- constants have no levels
flat_deepest : {A : Type 0} {b : ℕ} (xs : List A) → b < deepest (λ (x : A). 0) xs → b < 0
flat_deepest [] d = d
flat_deepest (x ∷ xs) d = flat_deepest xs (omega (arith, d))

names_named : (total : ℕ) (ns : List Identifier) (ks : List Kind) → AreIndexedNames total ns ks → is_name (first (put_names ns ks)) ≡ true
names_named total [] ks indexed = absurd indexed
names_named total (n ∷ ns) ks indexed = refl

-- ---- what follows parts and routines

-- the words that follow the parts of a block
abbrev pub starts_body : Option Mark → Bool
starts_body (Some mark.Procedure) = true
starts_body (Some mark.Function) = true
starts_body (Some mark.Begin) = true
starts_body (Some mark.Invariant) = true
starts_body _ = false

abbrev pub StartsBody : List Kind → Type 0
StartsBody ks = starts_body (first_mark ks) ≡ true

abbrev pub StartsBegin : List Kind → Type 0
StartsBegin ks = first_mark ks ≡ Some mark.Begin

body_unnamed : (ks : List Kind) → StartsBody ks → Unnamed ks
body_unnamed (kind.Name n ∷ ks) e = absurd cc
body_unnamed _ e = refl

abbrev NoParenthesis : List Kind → Type 0
NoParenthesis ks = is_mark mark.OpenParenthesis (first_mark ks) ≡ false

semicolon_no_parenthesis : (ks : List Kind) → NoParenthesis (kind.Mark mark.Semicolon ∷ ks)
unfolding same
semicolon_no_parenthesis ks = refl

colon_no_parenthesis : (ks : List Kind) → NoParenthesis (kind.Mark mark.Colon ∷ ks)
unfolding same
colon_no_parenthesis ks = refl

-- the words that follow the heading of a system type
abbrev starts_inside : Option Mark → Bool
starts_inside (Some mark.Const) = true
starts_inside (Some mark.Type) = true
starts_inside (Some mark.Var) = true
starts_inside (Some mark.Procedure) = true
starts_inside (Some mark.Function) = true
starts_inside (Some mark.Begin) = true
starts_inside (Some mark.Invariant) = true
starts_inside _ = false

abbrev StartsInside : List Kind → Type 0
StartsInside ks = starts_inside (first_mark ks) ≡ true

inside_no_parenthesis : (o : Option Mark) → starts_inside o ≡ true → is_mark mark.OpenParenthesis o ≡ false
unfolding same
inside_no_parenthesis (Some mark.Const) e = refl
inside_no_parenthesis _ e = cc

inside_no_semicolon : (o : Option Mark) → starts_inside o ≡ true → is_mark mark.Semicolon o ≡ false
unfolding same
inside_no_semicolon (Some mark.Const) e = refl
inside_no_semicolon _ e = cc

optional_no_parenthesis : (c : Bool) (ks : List Kind) → StartsInside ks → NoParenthesis (put_optional mark.Semicolon c ks)
optional_no_parenthesis true ks h = semicolon_no_parenthesis ks
optional_no_parenthesis false ks h = inside_no_parenthesis (first_mark ks) h

routine_inside : (k : RoutineKind) → starts_inside (Some (routine_mark k)) ≡ true
routine_inside (procedure gs) = refl
routine_inside (function gs i) = refl
routine_inside invariants = refl

routine_body : (k : RoutineKind) → starts_body (Some (routine_mark k)) ≡ true
routine_body (procedure gs) = refl
routine_body (function gs i) = refl
routine_body invariants = refl

part_inside : (p : Part) (ks : List Kind) → StartsInside (put_part p ks)
part_inside (constants at ds) ks = refl
part_inside _ ks = refl

part_unnamed : (p : Part) (ks : List Kind) → Unnamed (put_part p ks)
part_unnamed (constants at ds) ks = refl
part_unnamed _ ks = refl

module _ (total : ℕ) where
  -- the opening of the first invariant
  said_opens : (ss : Statements) (ks : List Kind) → IsIndexedInvariantBody total ss ks → first_mark (put_statements ss ks) ≡ Some mark.Invariant
  said_opens (more_statements (asserted at k e s) no_statements) ks h = ap (λ (k : AssertionKind). Some (opening_mark k)) h.0
  said_opens _ ks h = absurd h

  -- What holds of the words `procedure` and `function` and of the opening, holds of a routine's first token.
  routine_opens : (P : Option Mark → Type 0) → ((k : RoutineKind) → P (Some (routine_mark k))) → (c : Bool) (r : Routine) (ks : List Kind) → IsIndexedRoutineBy total c r ks → P (first_mark (put_routine_by c r ks))
  routine_opens P words true r ks h = subst P (sym (said_opens r.body.statements ks h.said)) (words invariants)
  routine_opens P words false r ks h = words r.kind

  routines_open : (P : Option Mark → Type 0) → ((k : RoutineKind) → P (Some (routine_mark k))) → (rs : List Routine) (ks : List Kind) → AreAllIndexed put_routine (IsIndexedRoutine total) rs ks → P (first_mark ks) → P (first_mark (put_all put_routine rs ks))
  routines_open P words [] ks h last = last
  routines_open P words (r ∷ rs) ks h last = routine_opens P words (is_nameless r.kind) r (put_all put_routine rs ks) h.0

  pub routines_start : (rs : List Routine) (ks : List Kind) → AreAllIndexed put_routine (IsIndexedRoutine total) rs ks → StartsBody ks → StartsBody (put_all put_routine rs ks)
  routines_start rs ks h last = routines_open (λ (o : Option Mark). starts_body o ≡ true) routine_body rs ks h last

  inside_start : (ps : List Part) (rs : List Routine) (d : Body) (ks : List Kind) → AreAllIndexed put_routine (IsIndexedRoutine total) rs (put_body d ks) → StartsInside (put_all put_part ps (put_all put_routine rs (put_body d ks)))
  inside_start ps rs d ks h =
      let end = put_body d ks in
      follows (part_shape total) (all_of (part_shape total)) (all_listed (part_shape total)) StartsInside part_inside ps (put_all put_routine rs end)
      (routines_open (λ (o : Option Mark). starts_inside o ≡ true) routine_inside rs end h refl)

  -- ---- parts

  constant_definition_lands : LandsAll total 50 (constant_definition_shape total) constant_item
  unfolding constant_item
  constant_definition_lands d n ks placed indexed =
      land_four total 50 (50 < 0) d (identifier_shape total) (mark_shape mark.Equal) (constant_shape total) (mark_shape mark.Semicolon) identifier (expect mark.Equal) constant (expect mark.Semicolon) (λ n u c v. record { name = n; value = c }) d.name tt d.value tt
      (identifier_lands total 50 d.name) (expect_lands total 50 mark.Equal tt) (constant_lands total 50 d.value) (expect_lands total 50 mark.Semicolon tt)
      n ks placed (indexed.0, (tt, (indexed.1, tt))) (λ d. omega arith) refl

  type_definition_lands : LandsAll total 50 (type_definition_shape total) type_item
  unfolding type_item
  type_definition_lands d n ks placed indexed =
      land_four total 50 (50 < type_depth d.value) d (identifier_shape total) (mark_shape mark.Equal) (type_before total) (mark_shape mark.Semicolon) identifier (expect mark.Equal) (type_term 50) (expect mark.Semicolon) (λ n u c v. record { name = n; value = c }) d.name tt d.value tt
      (identifier_lands total 50 d.name) (expect_lands total 50 mark.Equal tt) (type_lands total 50 d.value) (expect_lands total 50 mark.Semicolon tt)
      n ks placed (indexed.0, (tt, ((indexed.1, semicolon_no_range ks), tt))) (λ d. omega arith) refl

  variable_group_lands : LandsAll total 50 (variable_group_shape total) variable_item
  unfolding variable_item
  variable_group_lands g n ks placed indexed =
      land_four total 50 (50 < type_depth g.variable_type) g (names_before total) (mark_shape mark.Colon) (type_before total) (mark_shape mark.Semicolon) identifiers (expect mark.Colon) (type_term 50) (expect mark.Semicolon) (λ n u c v. record { names = n; variable_type = c }) g.names tt g.variable_type tt
      (identifiers_land total 50 g.names) (expect_lands total 50 mark.Colon tt) (type_lands total 50 g.variable_type) (expect_lands total 50 mark.Semicolon tt)
      n ks placed ((indexed.0, colon_no_comma (put_type g.variable_type (kind.Mark mark.Semicolon ∷ ks))), (tt, ((indexed.1, semicolon_no_range ks), tt))) (λ d. omega arith) refl

  constants_land : LandsAll total 50 (some_before (constant_definition_shape total)) (one_or_more constant_item)
  constants_land = some_land total 50 (constant_definition_shape total) constant_item constant_definition_lands (λ x ks h. refl) exceeds_constant_definition

  types_land : LandsAll total 50 (some_before (type_definition_shape total)) (one_or_more type_item)
  types_land = some_land total 50 (type_definition_shape total) type_item type_definition_lands (λ x ks h. refl) exceeds_type_definition

  variables_land : LandsAll total 50 (some_before (variable_group_shape total)) (one_or_more variable_item)
  variables_land = some_land total 50 (variable_group_shape total) variable_item variable_group_lands (λ g ks h. names_named total g.names (kind.Mark mark.Colon ∷ put_type g.variable_type (kind.Mark mark.Semicolon ∷ ks)) h.0) exceeds_variable_group

  abbrev words_before : {P : Type 0} → Shape P → Shape (List P)
  words_before s = before (all_of s) StartsBody

  -- parts that begin with words
  words_apart : {P : Type 0} (s : Shape P) → ((p : P) (ks : List Kind) → Unnamed (s.put p ks)) → IsApart (before s Unnamed) (words_before s)
  words_apart s unnamed =
      let listed : IsListed (before s Unnamed) (words_before s) = record { no_put = λ ks. refl; more_put = λ x xs ks. refl; no_depth = refl; more_depth = λ x xs. refl } in
      record {
        listed = listed;
        first_indexed = λ x xs ks h. (h.0.0, follows (before s Unnamed) (words_before s) listed Unnamed unnamed xs ks (body_unnamed ks h.1));
        rest_indexed = λ x xs ks h. (h.0.1, h.1);
      }

  -- a list after its word
  word_lands : {D P : Type 0} (items : Shape (List D)) (p : Parser (List D)) (made : ℕ → List D → P) (at : ℕ) (ds : List D) → LandsOn total 50 items p ds
      → (n : ℕ) (ks : List Kind) → n ≡ at → Begins total (n + 1) (items.put ds ks) → items.indexed ds ks → Lands total (50 < items.depth ds) (Some (made at ds)) ks ((p >>= (λ ds. pure (Some (made n ds)))) (on (n + 1) (items.put ds ks)))
  word_lands items p made at ds law n ks same placed indexed =
      land_one total 50 (50 < items.depth ds) (Some (made at ds)) items p (λ ds. Some (made n ds)) ds law (n + 1) ks placed indexed (λ d. d) (ap (λ a. Some (made a ds)) same)

  abbrev constants_before : Shape (List ConstantDefinition)
  constants_before = flat (some_before (constant_definition_shape total))

  flat_constants_land : LandsAll total 50 constants_before (one_or_more constant_item)
  flat_constants_land ds n ks placed indexed =
      lands_map total (50 < deepest (λ (d : ConstantDefinition). 0) ds) (50 < 0) (one_or_more constant_item (on n (constants_before.put ds ks))) ds ks (constants_land ds n ks placed indexed) (λ d. flat_deepest ds d)

  abbrev part_before : Shape Part
  part_before = before (part_shape total) Unnamed

  abbrev pub parts_before : Shape (List Part)
  parts_before = words_before (part_shape total)

  part_lands : (p : Part) → LandsItem total 50 part_before part_item p
  unfolding part_item Input.mark advance
  part_lands (constants at ds) n ks placed indexed = word_lands constants_before (one_or_more constant_item) constants at ds (flat_constants_land ds) n ks (omega (arith, indexed.0.0)) (omega arith) (indexed.0.1, indexed.1)
  part_lands (types at ds) n ks placed indexed = word_lands (some_before (type_definition_shape total)) (one_or_more type_item) types at ds (types_land ds) n ks (omega (arith, indexed.0.0)) (omega arith) (indexed.0.1, indexed.1)
  part_lands (variables at ds) n ks placed indexed = word_lands (some_before (variable_group_shape total)) (one_or_more variable_item) variables at ds (variables_land ds) n ks (omega (arith, indexed.0.0)) (omega arith) (indexed.0.1, indexed.1)

  no_part : (o : Option Mark) (n : ℕ) (i : Input) → starts_body o ≡ true → part_by n o i ≡ Ok (None, i)
  no_part (Some mark.Begin) n i e = refl
  no_part _ n i e = cc

  part_ends : (ks : List Kind) → StartsBody ks → EndsOn total part_item ks
  unfolding part_item Input.mark
  part_ends ks e n placed = subst (λ (r : Outcome (Option Part)). Lands total ⊥ None ks r) (sym (no_part (first_mark ks) n (on n ks) e)) (refl, refl, placed)

  parts_land : LandsAll total 50 parts_before parts
  unfolding parts
  parts_land = many_lands total 50 part_before parts_before (words_apart (part_shape total) part_unnamed) part_item part_lands (λ ks h. part_ends ks h.1) exceeds_part

  -- ---- routines

  body_of_list : (at : ℕ) (ss : List _) → LandsOn total 50 (body_shape total) body (record { at = at; statements = statements_of ss })
  unfolding body
  body_of_list at ss n ks placed indexed =
      let same_at : n ≡ at = omega (arith, indexed.0) in
      let d : Body = record { at = at; statements = statements_of ss } in
      land_three total 50 (50 < body_depth d) d (mark_shape mark.Begin) (statements_before total) (mark_shape mark.End) (expect mark.Begin) (statements_at 50) (expect mark.End) (λ u ss v. record { at = n; statements = statements_of ss }) tt ss tt
      (expect_lands total 50 mark.Begin tt) (statements_at_land total 50 ss) (expect_lands total 50 mark.End tt)
      n ks placed (tt, ((indexed.1, end_closes ks), tt)) (λ d. omega arith) (ap (λ (a : ℕ). let d : Body = record { at = a; statements = statements_of ss } in d) same_at)

  pub body_lands : LandsAll total 50 (body_shape total) body
  body_lands d = subst (λ ss. LandsOn total 50 (body_shape total) body (record { at = d.at; statements = ss })) (statements_back d.statements) (body_of_list d.at (statements_list d.statements))

  group_lands : LandsAll total 50 (group_shape total) group_item
  unfolding group_item
  group_lands g n ks placed indexed =
      land_three total 50 (50 < 0) g (names_before total) (mark_shape mark.Colon) (identifier_shape total) identifiers (expect mark.Colon) identifier (λ ns u i. record { names = ns; type_name = i }) g.names tt g.type_name
      (identifiers_land total 50 g.names) (expect_lands total 50 mark.Colon tt) (identifier_lands total 50 g.type_name)
      n ks placed ((indexed.0, colon_no_comma (put_identifier g.type_name ks)), (tt, indexed.1)) (λ d. omega arith) refl

  names_no_var : (ns : List Identifier) (ks : List Kind) → is_mark mark.Var (first_mark (put_names ns (kind.Mark mark.Colon ∷ ks))) ≡ false
  unfolding same
  names_no_var [] ks = refl
  names_no_var (n ∷ ns) ks = refl

  parameter_lands : LandsAll total 50 (parameter_group_shape total) parameter_item
  unfolding parameter_item
  parameter_lands g n ks placed indexed =
      let same_at : n ≡ g.at = omega (arith, indexed.0) in
      land_two total 50 (50 < 0) g (option_before mark.Var) (group_shape total) (eat mark.Var) group_item (λ c h. record { at = n; is_var = c; group = h }) g.is_var g.group (eat_lands total 50 mark.Var g.is_var) (group_lands g.group)
      n ks placed (λ e. names_no_var g.group.names (put_identifier g.group.type_name ks), indexed.1) (λ d. omega arith) (ap (λ (a : ℕ). let h : ParameterGroup = record { at = a; is_var = g.is_var; group = g.group } in h) same_at)

  abbrev parameters_before : {A : Type 0} → Shape A → Shape (List A)
  parameters_before s = before (parameters_of s) NoParenthesis

  abbrev NoSemicolon : List Kind → Type 0
  NoSemicolon ks = is_mark mark.Semicolon (first_mark ks) ≡ false

  parenthesis_no_semicolon : (ks : List Kind) → NoSemicolon (kind.Mark mark.CloseParenthesis ∷ ks)
  unfolding same
  parenthesis_no_semicolon ks = refl

  parenthesised_lands : {A : Type 0} (s : Shape A) (item : Parser A) → LandsAll total 50 (flat s) item → ((x : A) (ks : List Kind) → length ks ≤ length (s.put x ks)) → LandsAll total 50 (parameters_before s) (parenthesised item)
  unfolding parenthesised
  parenthesised_lands {A} s item law grows [] n ks placed indexed =
      let inside : Parser (List A) = separated mark.Semicolon item >>= (λ xs. expect mark.CloseParenthesis >>= (λ u. pure xs)) in
      not_eaten total (50 < 0) mark.OpenParenthesis inside (pure []) n ks [] ks indexed.1 (refl, refl, placed)
  parenthesised_lands {A} s item law grows (x ∷ xs) n ks placed indexed =
      let inside : Parser (List A) = separated mark.Semicolon item >>= (λ xs. expect mark.CloseParenthesis >>= (λ u. pure xs)) in
      let list : Shape (List A) = before (flat (separated_of mark.Semicolon s)) NoSemicolon in
      let close = kind.Mark mark.CloseParenthesis ∷ ks in
      let all_land : LandsAll total 50 list (separated mark.Semicolon item) =
      separated_lands total 50 mark.Semicolon (flat s) (before (flat (all_of (behind_of mark.Semicolon s))) NoSemicolon) list (flat_apart mark.Semicolon s NoSemicolon) (flat_apart_led mark.Semicolon s NoSemicolon) item law (λ ks h. h.1) grows in
      eaten total (50 < 0) mark.OpenParenthesis inside (pure []) n (put_separated mark.Semicolon s.put (x ∷ xs) close) (x ∷ xs) ks placed (λ k here.
      land_two total 50 (50 < 0) (x ∷ xs) list (mark_shape mark.CloseParenthesis) (separated mark.Semicolon item) (expect mark.CloseParenthesis) (λ xs u. xs) (x ∷ xs) tt (all_land (x ∷ xs)) (expect_lands total 50 mark.CloseParenthesis tt)
      k ks here ((indexed.0, parenthesis_no_semicolon ks), tt) (λ d. omega arith) refl)

  abbrev kind_before : Mark → Shape RoutineKind
  kind_before m = before (routine_kind_shape total m) NoParenthesis

  procedure_lands : LandsAll total 50 (kind_before mark.Procedure) procedure_kind
  unfolding procedure_kind
  procedure_lands (procedure gs) n ks placed indexed =
      land_one total 50 (50 < 0) (procedure gs) (parameters_before (parameter_group_shape total)) (parenthesised parameter_item) (λ gs. procedure gs) gs (parenthesised_lands (parameter_group_shape total) parameter_item parameter_lands grows_parameter_group gs)
      n ks placed (indexed.0.0, indexed.1) (λ d. d) refl
  procedure_lands (function gs i) n ks placed indexed = absurd (cc (indexed.0.1))
  procedure_lands invariants n ks placed indexed = absurd (indexed.0.0)

  function_lands : LandsAll total 50 (kind_before mark.Function) function_kind
  unfolding function_kind
  function_lands (procedure gs) n ks placed indexed = absurd (cc (indexed.0.1))
  function_lands invariants n ks placed indexed = absurd (indexed.0.0)
  function_lands (function gs i) n ks placed indexed =
      land_three total 50 (50 < 0) (function gs i) (parameters_before (group_shape total)) (mark_shape mark.Colon) (identifier_shape total) (parenthesised group_item) (expect mark.Colon) identifier (λ gs u i. function gs i) gs tt i
      (parenthesised_lands (group_shape total) group_item group_lands grows_group gs) (expect_lands total 50 mark.Colon tt) (identifier_lands total 50 i)
      n ks placed ((indexed.0.0.0, colon_no_parenthesis (put_identifier i ks)), (tt, indexed.0.0.1)) (λ d. omega arith) refl

  routine_given : (m : Mark) (heading : Parser RoutineKind) → LandsAll total 50 (kind_before m) heading → (r : Routine) → routine_mark r.kind ≡ m → (n : ℕ) (ks : List Kind) → Begins total n (put_named_routine r ks) → (named_routine_shape total).indexed r ks
      → Lands total (50 < routine_depth_by false r) (Some r) ks ((routine_with heading n >>= (λ r. pure (Some r))) (on (n + 1) (put_optional mark.Entry r.is_entry (put_identifier r.name (put_routine_kind r.kind (kind.Mark mark.Semicolon ∷ put_all put_part r.parts (put_body r.body (kind.Mark mark.Semicolon ∷ ks))))))))
  unfolding routine_with
  routine_given m heading law r is_m n ks placed indexed =
      let same_at : n ≡ r.at = omega (arith, indexed.0.0) in
      let E = 50 < routine_depth_by false r in
      let last = put_body r.body (kind.Mark mark.Semicolon ∷ ks) in
      let after_kind = kind.Mark mark.Semicolon ∷ put_all put_part r.parts last in
      let tokens = put_optional mark.Entry r.is_entry (put_identifier r.name (put_routine_kind r.kind after_kind)) in
      let one : Lands total E r ks (routine_with heading n (on (n + 1) tokens)) =
      land_seven total 50 E r (option_before mark.Entry) (identifier_shape total) (kind_before m) (mark_shape mark.Semicolon) parts_before (body_shape total) (mark_shape mark.Semicolon)
      (eat mark.Entry) identifier heading (expect mark.Semicolon) parts body (expect mark.Semicolon) (λ c i h u ps d v. record { at = n; is_entry = c; name = i; kind = h; parts = ps; body = d }) r.is_entry r.name r.kind tt r.parts r.body tt
      (eat_lands total 50 mark.Entry r.is_entry) (identifier_lands total 50 r.name) (law r.kind) (expect_lands total 50 mark.Semicolon tt) (parts_land r.parts) (body_lands r.body) (expect_lands total 50 mark.Semicolon tt)
      (n + 1) ks (omega arith) (λ e. refl, (indexed.0.1, (((indexed.0.2, is_m), semicolon_no_parenthesis (put_all put_part r.parts last)), (tt, ((indexed.0.3, refl), (indexed.0.4, tt)))))) (λ d. omega arith)
      (ap (λ (a : ℕ). let s : Routine = record { at = a; is_entry = r.is_entry; name = r.name; kind = r.kind; parts = r.parts; body = r.body } in s) same_at) in
      lands_then total E E (routine_with heading n (on (n + 1) tokens)) (λ r. pure (Some r)) r ks (Some r) ks one (λ d. d) (λ k here. (refl, refl, here))

  -- The word tells a procedure from a function.
  routine_by_lands : (r : Routine) (k : RoutineKind) → r.kind ≡ k → (n : ℕ) (ks : List Kind) → Begins total n (put_named_routine r ks) → (named_routine_shape total).indexed r ks
      → Lands total (50 < routine_depth_by false r) (Some r) ks (routine_by n (Some (routine_mark k)) (on n (kind.Mark (routine_mark k) ∷ put_optional mark.Entry r.is_entry (put_identifier r.name (put_routine_kind r.kind (kind.Mark mark.Semicolon ∷ put_all put_part r.parts (put_body r.body (kind.Mark mark.Semicolon ∷ ks))))))))
  unfolding advance
  routine_by_lands r (procedure gs) is n ks placed indexed = routine_given mark.Procedure procedure_kind procedure_lands r (ap routine_mark is) n ks placed indexed
  routine_by_lands r (function gs i) is n ks placed indexed = routine_given mark.Function function_kind function_lands r (ap routine_mark is) n ks placed indexed
  routine_by_lands r invariants is n ks placed indexed = absurd (cc (ap is_nameless is, indexed.1))

  routine_lands : (r : Routine) → LandsItem total 50 (named_routine_shape total) routine_item r
  unfolding routine_item Input.mark
  routine_lands r n ks placed indexed = routine_by_lands r r.kind refl n ks placed indexed

  abbrev named_before : Shape (List Routine)
  named_before = before (all_of (named_routine_shape total)) StartsBegin

  named_apart : IsApart (named_routine_shape total) named_before
  named_apart = record {
    listed = record { no_put = λ ks. refl; more_put = λ x xs ks. refl; no_depth = refl; more_depth = λ x xs. refl };
    first_indexed = λ x xs ks h. h.0.0;
    rest_indexed = λ x xs ks h. (h.0.1, h.1);
  }

  routine_ends : (ks : List Kind) → StartsBegin ks → EndsOn total routine_item ks
  unfolding routine_item Input.mark
  routine_ends ks e n placed = subst (λ (o : Option Mark). Lands total ⊥ None ks (routine_by n o (on n ks))) (sym e) (refl, refl, placed)

  named_indexed : (rs : List Routine) (ks : List Kind) → AreNamed total rs → AreAllIndexed put_routine (IsIndexedRoutine total) rs ks → AreAllIndexed put_named_routine (named_routine_shape total).indexed rs ks
  named_indexed [] ks named h = tt
  named_indexed (r ∷ rs) ks named h =
      let one = subst (λ (c : Bool). IsIndexedRoutineBy total c r (put_all put_routine rs ks)) named.0 h.0 in
      ((subst (λ (ts : List Kind). IsIndexedNamedRoutine total r ts) (named_put total rs ks named.1) one, named.0), named_indexed rs ks named.1 h.1)

  -- routines with names, after those found
  more_land : (E : Type 0) (rs found : List Routine) (n : ℕ) (ks : List Kind) → (50 < deepest routine_depth rs → E) → AreNamed total rs → AreAllIndexed put_routine (IsIndexedRoutine total) rs ks → StartsBegin ks → Begins total n (put_all put_routine rs ks)
      → Lands total E (found ++ rs) ks (routines_after found (on n (put_all put_routine rs ks)))
  unfolding routines_after
  more_land E rs found n ks up named indexed last placed =
      let e = named_put total rs ks named in
      let deep = named_depth total rs named in
      let here : Begins total n (put_all put_named_routine rs ks) = subst (λ (ts : List Kind). Begins total n ts) e placed in
      subst (λ (ts : List Kind). Lands total E (found ++ rs) ks (routines_after found (on n ts))) (sym e)
      (many_after_lands total 50 (named_routine_shape total) named_before named_apart routine_item routine_lands (λ ks h. routine_ends ks h.1) exceeds_named_routine E rs found n ks (λ d. up (omega (arith, d, deep))) (named_indexed rs ks named indexed, last) here)

  abbrev pub routines_before : Bool → Shape (List Routine)
  routines_before c = before (routines_shape total c) StartsBegin

  pub routines_land : LandsAll total 50 (routines_before false) routines
  unfolding routines
  routines_land rs n ks placed indexed = more_land (50 < deepest routine_depth rs) rs [] n ks (λ d. d) indexed.0.1 indexed.0.0 indexed.1 placed

  -- ---- invariants

  -- a routine without a name, taken apart
  record IsApartNameless (r : Routine) (ks : List Kind) : Type 0 where
    pub e : Expression
    pub es : List Expression
    pub end : ℕ
    pub is : nameless_routine r.at (said (e ∷ es) end) ≡ r
    pub begins : Begins total end ks
    pub indexed : AreIndexedAnnotations total mark.Invariant (e ∷ es) ks

  kind_nameless : (k : RoutineKind) → is_nameless k ≡ true → k ≡ invariants
  kind_nameless (procedure gs) e = absurd cc
  kind_nameless (function gs i) e = absurd cc
  kind_nameless invariants e = refl

  routine_same : (at : ℕ) (c d : Bool) (i j : Identifier) (k l : RoutineKind) (ps qs : List Part) (m n : ℕ) (ss ts : Statements) → c ≡ d → i ≡ j → k ≡ l → ps ≡ qs → m ≡ n → ss ≡ ts
      → let r : Routine = record { at = at; is_entry = c; name = i; kind = k; parts = ps; body = record { at = m; statements = ss } } in
      let s : Routine = record { at = at; is_entry = d; name = j; kind = l; parts = qs; body = record { at = n; statements = ts } } in r ≡ s
  routine_same at c d i j k l ps qs m n ss ts e1 e2 e3 e4 e5 e6 = cc

  nameless_of_body : (r : Routine) (ks : List Kind) → is_nameless r.kind ≡ true → IsIndexedNamelessRoutine total r ks → (ss : Statements) → r.body.statements ≡ ss → IsIndexedInvariantBody total ss ks → IsApartNameless r ks
  nameless_of_body r ks kind h (more_statements (asserted at k e s) no_statements) is invariant =
      let back = said_back total (asserted at k e s) ks invariant in
      let es = e ∷ tests_of s in
      let apart = said_apart total es back.end ks (subst (λ (s : Statement). AreIndexedInvariants total s ks) (sym back.is) invariant) in
      record {
        e = e;
        es = tests_of s;
        end = back.end;
        is = routine_same r.at false r.is_entry (record { at = r.at; name = nameless }) r.name invariants r.kind [] r.parts (r.at + 1) r.body.at (more_statements (said es back.end) no_statements) r.body.statements
            (sym h.not_entry) (sym h.name) (sym (kind_nameless r.kind kind)) (sym h.no_parts) (sym h.body) (ap (λ (s : Statement). more_statements s no_statements) back.is ∙ sym is);
        begins = apart.1;
        indexed = apart.0;
      }
  nameless_of_body r ks kind h _ is invariant = absurd invariant

  nameless_apart : (r : Routine) (ks : List Kind) → is_nameless r.kind ≡ true → IsIndexedNamelessRoutine total r ks → IsApartNameless r ks
  nameless_apart r ks kind h = nameless_of_body r ks kind h r.body.statements refl h.said

  -- the routine of the invariants that come next
  abbrev says : ℕ → Parser (Option Routine)
  says n = annotations_at mark.Invariant 50 >>= (λ es. place >>= (λ end. pure (nameless_of n es end)))

  abbrev NoInvariant : List Kind → Type 0
  NoInvariant ks = is_mark mark.Invariant (first_mark ks) ≡ false

  says_some : (r : Routine) (n : ℕ) (ks : List Kind) → is_nameless r.kind ≡ true → IsIndexedNamelessRoutine total r ks → NoInvariant ks → Begins total n (put_routine_by true r ks)
      → Lands total (50 < routine_depth_by true r) (Some r) ks (says n (on n (put_routine_by true r ks)))
  says_some r n ks kind indexed unseen placed =
      let p = nameless_apart r ks kind indexed in
      let es = p.e ∷ p.es in
      let E = 50 < routine_depth_by true r in
      let same = ap (λ (r : Routine). put_routine_by true r ks) (sym p.is) ∙ asserted_put kinds.Invariant es (empty p.end) ks in
      let here : Begins total n (put_all (put_annotation mark.Invariant) es ks) = subst (λ (ts : List Kind). Begins total n ts) same placed in
      let same_at : n ≡ r.at = omega (arith, indexed.begins) in
      let deep = said_deep es p.end in
      let depth = ap (routine_depth_by true) p.is in
      subst (λ (ts : List Kind). Lands total E (Some r) ks (says n (on n ts))) (sym same)
      (lands_then total (50 < deepest expression_depth es) E (annotations_at mark.Invariant 50 (on n (put_all (put_annotation mark.Invariant) es ks))) (λ es. place >>= (λ end. pure (nameless_of n es end))) es ks (Some r) ks
      (annotations_at_land total 50 mark.Invariant es n ks here (p.indexed, unseen)) (λ d. omega (arith, d, deep, depth)) (λ k q.
      let same_end : k ≡ p.end = omega (arith, p.begins) in
      (ap (λ (a : ℕ). Some (nameless_routine a (said es k))) same_at ∙ ap (λ (b : ℕ). Some (nameless_routine r.at (said es b))) same_end ∙ ap Some p.is, refl, q)))

  says_none : (n : ℕ) (ks : List Kind) → NoInvariant ks → Begins total n ks → Lands total ⊥ None ks (says n (on n ks))
  says_none n ks unseen placed =
      lands_then total (50 < 0) ⊥ (annotations_at mark.Invariant 50 (on n ks)) (λ es. place >>= (λ end. pure (nameless_of n es end))) [] ks None ks
      (annotations_at_land total 50 mark.Invariant [] n ks placed (tt, unseen)) (λ d. omega arith) (λ k q. (refl, refl, q))

  invariants_land : (s : SystemKind) → may_say total s ≡ true → (E : Type 0) (o : Option Routine) (n : ℕ) (ts ks : List Kind) → Lands total E o ks (says n (on n ts)) → Lands total E o ks (invariants_of s (on n ts))
  unfolding invariants_of stated
  invariants_land systems.Class may E o n ts ks h = h
  invariants_land systems.Monitor may E o n ts ks h = h
  invariants_land systems.Process may E o n ts ks h = absurd cc

  word_unsaid : (k : RoutineKind) → is_nameless k ≡ false → is_mark mark.Invariant (Some (routine_mark k)) ≡ false
  unfolding same
  word_unsaid (procedure gs) e = refl
  word_unsaid (function gs i) e = refl
  word_unsaid invariants e = absurd cc

  named_unsaid : (rs : List Routine) (ks : List Kind) → AreNamed total rs → StartsBegin ks → NoInvariant (put_all put_routine rs ks)
  unfolding same
  named_unsaid [] ks named last = subst (λ (o : Option Mark). is_mark mark.Invariant o ≡ false) (sym last) refl
  named_unsaid (r ∷ rs) ks named last = subst (λ (c : Bool). NoInvariant (put_routine_by c r (put_all put_routine rs ks))) (sym named.0) (word_unsaid r.kind named.0)

  -- the routine of the invariants that come next, and those with names
  abbrev with_first : SystemKind → Parser (List Routine)
  with_first s = invariants_of s >>= (λ o. routines_after (as_list o))

  first_named : (s : SystemKind) → may_say total s ≡ true → (rs : List Routine) (n : ℕ) (ks : List Kind) → AreNamed total rs → AreAllIndexed put_routine (IsIndexedRoutine total) rs ks → StartsBegin ks → Begins total n (put_all put_routine rs ks)
      → Lands total (50 < deepest routine_depth rs) rs ks (with_first s (on n (put_all put_routine rs ks)))
  first_named s may rs n ks named indexed last placed =
      let ts = put_all put_routine rs ks in
      let E = 50 < deepest routine_depth rs in
      lands_then total ⊥ E (invariants_of s (on n ts)) (λ o. routines_after (as_list o)) None ts rs ks (invariants_land s may ⊥ None n ts ts (says_none n ts (named_unsaid rs ks named last) placed)) (λ d. absurd d) (λ k q.
      more_land E rs [] k ks (λ d. d) named indexed last q)

  first_nameless : (s : SystemKind) → may_say total s ≡ true → (r : Routine) (rs : List Routine) (n : ℕ) (ks : List Kind) → is_nameless r.kind ≡ true → AreNamed total rs → IsIndexedNamelessRoutine total r (put_all put_routine rs ks)
      → AreAllIndexed put_routine (IsIndexedRoutine total) rs ks → StartsBegin ks → Begins total n (put_routine_by true r (put_all put_routine rs ks))
      → Lands total (50 < deepest routine_depth (r ∷ rs)) (r ∷ rs) ks (with_first s (on n (put_routine_by true r (put_all put_routine rs ks))))
  first_nameless s may r rs n ks kind named one indexed last placed =
      let ts = put_all put_routine rs ks in
      let E = 50 < deepest routine_depth (r ∷ rs) in
      let D = 50 < routine_depth_by true r in
      let deep = ap (λ (c : Bool). routine_depth_by c r) kind in
      lands_then total D E (invariants_of s (on n (put_routine_by true r ts))) (λ o. routines_after (as_list o)) (Some r) ts (r ∷ rs) ks
      (invariants_land s may D (Some r) n (put_routine_by true r ts) ts (says_some r n ts kind one (named_unsaid rs ks named last) placed)) (λ d. omega (arith, d, deep)) (λ k q.
      more_land E rs (r ∷ []) k ks (λ d. omega (arith, d)) named indexed last q)

  with_first_lands : (s : SystemKind) → may_say total s ≡ true → LandsAll total 50 (routines_before true) (with_first s)
  with_first_lands s may [] n ks placed indexed = first_named s may [] n ks tt tt indexed.1 placed
  with_first_lands s may (r ∷ rs) n ks placed indexed =
      let ts = put_all put_routine rs ks in
      let E = 50 < deepest routine_depth (r ∷ rs) in
      elim (is_nameless r.kind) as (λ c. is_nameless r.kind ≡ c → Lands total E (r ∷ rs) ks (with_first s (on n (put_routine r ts)))) [
        | true ↦ λ e. subst (λ (c : Bool). Lands total E (r ∷ rs) ks (with_first s (on n (put_routine_by c r ts)))) (sym e)
            (first_nameless s may r rs n ks e indexed.0.1 (subst (λ (c : Bool). IsIndexedRoutineBy total c r ts) e indexed.0.0.0) indexed.0.0.1 indexed.1 (subst (λ (c : Bool). Begins total n (put_routine_by c r ts)) e placed))
        | false ↦ λ e. first_named s may (r ∷ rs) n ks (e, indexed.0.1) indexed.0.0 indexed.1 placed
      ] refl

  process_routines_land : LandsAll total 50 (routines_before false) (with_first systems.Process)
  unfolding invariants_of
  process_routines_land rs n ks placed indexed = more_land (50 < deepest routine_depth rs) rs [] n ks (λ d. d) indexed.0.1 indexed.0.0 indexed.1 placed

  system_routines_land : (s : SystemKind) → LandsAll total 50 (routines_before (may_say total s)) (system_routines s)
  unfolding system_routines
  system_routines_land systems.Class rs n ks placed indexed = with_first_lands systems.Class refl rs n ks placed indexed
  system_routines_land systems.Monitor rs n ks placed indexed = with_first_lands systems.Monitor refl rs n ks placed indexed
  system_routines_land systems.Process rs n ks placed indexed = process_routines_land rs n ks placed indexed

  -- ---- system types

  system_given : (s : System) (n : ℕ) (ks : List Kind) → Begins total n (put_system s ks) → (system_shape total).indexed s ks
      → Lands total (50 < system_depth s) s ks (system_with s.kind n (on (n + 1) (put_parameters put_group s.parameters (put_optional mark.Semicolon s.has_semicolon (put_all put_part s.parts (put_all put_routine s.routines (put_body s.body ks)))))))
  unfolding system_with
  system_given s n ks placed indexed =
      let same_at : n ≡ s.at = omega (arith, indexed.0) in
      let end = put_body s.body ks in
      let inside = put_all put_part s.parts (put_all put_routine s.routines end) in
      let starts = inside_start s.parts s.routines s.body ks indexed.3 in
      land_five total 50 (50 < system_depth s) s (parameters_before (group_shape total)) (option_before mark.Semicolon) parts_before (routines_before (may_say total s.kind)) (body_shape total)
      (parenthesised group_item) (eat mark.Semicolon) parts (system_routines s.kind) body (λ gs c ps rs d. record { at = n; kind = s.kind; parameters = gs; has_semicolon = c; parts = ps; routines = rs; body = d }) s.parameters s.has_semicolon s.parts s.routines s.body
      (parenthesised_lands (group_shape total) group_item group_lands grows_group s.parameters) (eat_lands total 50 mark.Semicolon s.has_semicolon) (parts_land s.parts) (system_routines_land s.kind s.routines) (body_lands s.body)
      (n + 1) ks (omega arith) ((indexed.1, optional_no_parenthesis s.has_semicolon inside starts), (λ e. inside_no_semicolon (first_mark inside) starts, ((indexed.2, routines_start s.routines end indexed.3 refl), (((indexed.3, indexed.4), refl), indexed.5)))) (λ d. omega arith)
      (ap (λ (a : ℕ). let t : System = record { at = a; kind = s.kind; parameters = s.parameters; has_semicolon = s.has_semicolon; parts = s.parts; routines = s.routines; body = s.body } in t) same_at)

  abbrev put_inside : System → List Kind → List Kind
  put_inside s ks = put_parameters put_group s.parameters (put_optional mark.Semicolon s.has_semicolon (put_all put_part s.parts (put_all put_routine s.routines (put_body s.body ks))))

  system_some : (s : System) (k : SystemKind) → s.kind ≡ k → (n : ℕ) (ks : List Kind) → Begins total n (put_system s ks) → (system_shape total).indexed s ks
      → Lands total (50 < system_depth s) (system_definition s) ks ((system_with k n >>= (λ s. pure (system_definition s))) (on (n + 1) (put_inside s ks)))
  system_some s k is n ks placed indexed =
      let E = 50 < system_depth s in
      subst (λ (k : SystemKind). Lands total E (system_definition s) ks ((system_with k n >>= (λ s. pure (system_definition s))) (on (n + 1) (put_inside s ks)))) is
      (lands_then total E E (system_with s.kind n (on (n + 1) (put_inside s ks))) (λ s. pure (system_definition s)) s ks (system_definition s) ks (system_given s n ks placed indexed) (λ d. d) (λ k here. (refl, refl, here)))

  system_by_lands : (s : System) (k : SystemKind) → s.kind ≡ k → (n : ℕ) (ks : List Kind) → Begins total n (put_system s ks) → (system_shape total).indexed s ks
      → Lands total (50 < system_depth s) (system_definition s) ks (definition_by n (system_kind_of (Some (system_mark k))) (on n (kind.Mark (system_mark k) ∷ put_inside s ks)))
  unfolding advance
  system_by_lands s systems.Class is n ks placed indexed = system_some s systems.Class is n ks placed indexed
  system_by_lands s systems.Monitor is n ks placed indexed = system_some s systems.Monitor is n ks placed indexed
  system_by_lands s systems.Process is n ks placed indexed = system_some s systems.Process is n ks placed indexed

  sign_no_system : (o : Option Mark) → is_sign o ≡ true → system_kind_of o ≡ None
  sign_no_system (Some mark.Plus) e = refl
  sign_no_system _ e = cc

  -- A type does not begin as a system type does.
  type_no_system : (t : TypeTerm) (ks : List Kind) → system_kind_of (first_mark (put_type t ks)) ≡ None
  type_no_system (simple at (subrange k c d)) ks = let rest = kind.Mark mark.DoublePeriod ∷ put_constant d ks in sign_no_system (first_mark (put_constant c rest)) (constant_sign c.kind rest)
  type_no_system _ ks = refl

  abbrev definition_before : Shape Definition
  definition_before = before (definition_shape total) NoRange

  definition_lands : LandsAll total 50 definition_before definition
  unfolding definition Input.mark
  definition_lands (type_definition t) n ks placed indexed =
      let E = 50 < type_depth t in
      subst (λ (o : Option SystemKind). Lands total E (type_definition t) ks (definition_by n o (on n (put_type t ks)))) (sym (type_no_system t ks))
      (land_one total 50 E (type_definition t) (type_before total) (type_term 50) (λ t. type_definition t) t (type_lands total 50 t) n ks placed indexed (λ d. d) refl)
  definition_lands (system_definition s) n ks placed indexed = system_by_lands s s.kind refl n ks placed indexed.0

  system_definition_lands : LandsAll total 50 (system_definition_shape total) system_item
  unfolding system_item
  system_definition_lands d n ks placed indexed =
      land_four total 50 (50 < definition_depth d.value) d (identifier_shape total) (mark_shape mark.Equal) definition_before (mark_shape mark.Semicolon) identifier (expect mark.Equal) definition (expect mark.Semicolon) (λ n u c v. record { name = n; value = c }) d.name tt d.value tt
      (identifier_lands total 50 d.name) (expect_lands total 50 mark.Equal tt) (definition_lands d.value) (expect_lands total 50 mark.Semicolon tt)
      n ks placed (indexed.0, (tt, ((indexed.1, semicolon_no_range ks), tt))) (λ d. omega arith) refl

  systems_land : LandsAll total 50 (some_before (system_definition_shape total)) (one_or_more system_item)
  systems_land = some_land total 50 (system_definition_shape total) system_item system_definition_lands (λ x ks h. refl) exceeds_system_definition

  -- ---- the program's parts

  abbrev program_part_before : Shape ProgramPart
  program_part_before = before (program_part_shape total) Unnamed

  abbrev pub program_parts_before : Shape (List ProgramPart)
  program_parts_before = words_before (program_part_shape total)

  program_part_unnamed : (p : ProgramPart) (ks : List Kind) → Unnamed (put_program_part p ks)
  program_part_unnamed (program_constants at ds) ks = refl
  program_part_unnamed _ ks = refl

  program_part_lands : (p : ProgramPart) → LandsItem total 50 program_part_before program_part_item p
  unfolding program_part_item Input.mark advance
  program_part_lands (program_constants at ds) n ks placed indexed = word_lands constants_before (one_or_more constant_item) program_constants at ds (flat_constants_land ds) n ks (omega (arith, indexed.0.0)) (omega arith) (indexed.0.1, indexed.1)
  program_part_lands (program_types at ds) n ks placed indexed = word_lands (some_before (system_definition_shape total)) (one_or_more system_item) program_types at ds (systems_land ds) n ks (omega (arith, indexed.0.0)) (omega arith) (indexed.0.1, indexed.1)
  program_part_lands (program_variables at ds) n ks placed indexed = word_lands (some_before (variable_group_shape total)) (one_or_more variable_item) program_variables at ds (variables_land ds) n ks (omega (arith, indexed.0.0)) (omega arith) (indexed.0.1, indexed.1)

  no_program_part : (o : Option Mark) (n : ℕ) (i : Input) → starts_body o ≡ true → program_part_by n o i ≡ Ok (None, i)
  no_program_part (Some mark.Begin) n i e = refl
  no_program_part _ n i e = cc

  program_part_ends : (ks : List Kind) → StartsBody ks → EndsOn total program_part_item ks
  unfolding program_part_item Input.mark
  program_part_ends ks e n placed = subst (λ (r : Outcome (Option ProgramPart)). Lands total ⊥ None ks r) (sym (no_program_part (first_mark ks) n (on n ks) e)) (refl, refl, placed)

  pub program_parts_land : LandsAll total 50 program_parts_before (many program_part_item)
  program_parts_land = many_lands total 50 program_part_before program_parts_before (words_apart (program_part_shape total) program_part_unnamed) program_part_item program_part_lands (λ ks h. program_part_ends ks h.1) exceeds_program_part
