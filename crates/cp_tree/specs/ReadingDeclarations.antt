-- Reading declarations and programs.
use Rattle.std.specs.Prelude.{ℕ, ◌+◌, false, if◌then◌else◌, List, [], ◌∷◌, Option, Some, None, Ok}
use Rattle.cp_text.specs.declared.token.Kind.{Kind}
use Rattle.cp_text.specs.declared.token.Mark.{Mark}
use Rattle.cp_text.specs.declared.token.Mark.TheVariants as mark
use Rattle.cp_tree.specs.declared.declaration.SystemKind.{SystemKind}
use Rattle.cp_tree.specs.declared.declaration.SystemKind.TheVariants as systems
use Rattle.cp_tree.specs.Input.{Input, Outcome, Parser, ◌>>=◌, ◌>>◌, pure, refuse, place, peek_mark, skip, eat, expect}
use Rattle.cp_tree.specs.Reading.{many, many_after, some, separated, where_named, identifier, identifiers, constant}
use Rattle.cp_tree.specs.ReadingAnnotations.{annotations_at}
use Rattle.cp_tree.specs.ReadingStatements.{statements_at}
use Rattle.cp_tree.specs.ReadingTypes.{type_term}
use Rattle.cp_tree.specs.declared.statement.AssertionKind.TheVariants.{Invariant}
use Rattle.cp_tree.specs.Syntax.{Expression, Statement, empty, no_statements, more_statements, nameless, ConstantDefinition, TypeDefinition, VariableGroup, Part, constants, types, variables, Group, ParameterGroup, RoutineKind, procedure, function, invariants, Routine, Body, System, Definition, type_definition, system_definition, SystemDefinition, ProgramPart, program_constants, program_types, program_variables, Program}
use Rattle.cp_tree.specs.View.{asserted_of, statements_of}

-- the level of the innermost nodes
abbrev pub max_level : ℕ
max_level = 50

-- ---- parts

-- an item that begins with a name, and further ones as long as a name comes next
unfoldable pub one_or_more : {A : Type 0} → Parser A → Parser (List A)
one_or_more item = do
  first ← item
  many_after (first ∷ []) (where_named item)

unfoldable pub constant_item : Parser ConstantDefinition
constant_item = do
  i ← identifier
  expect mark.Equal
  c ← constant
  expect mark.Semicolon
  pure (record { name = i; value = c })

unfoldable pub type_item : Parser TypeDefinition
type_item = do
  i ← identifier
  expect mark.Equal
  t ← type_term max_level
  expect mark.Semicolon
  pure (record { name = i; value = t })

unfoldable pub variable_item : Parser VariableGroup
variable_item = do
  is ← identifiers
  expect mark.Colon
  t ← type_term max_level
  expect mark.Semicolon
  pure (record { names = is; variable_type = t })

abbrev pub part_by : ℕ → Option Mark → Parser (Option Part)
part_by at (Some mark.Const) = skip >> (do ds ← one_or_more constant_item; pure (Some (constants at ds)))
part_by at (Some mark.Type) = skip >> (do ds ← one_or_more type_item; pure (Some (types at ds)))
part_by at (Some mark.Var) = skip >> (do gs ← one_or_more variable_item; pure (Some (variables at gs)))
part_by at _ = pure None

unfoldable pub part_item : Parser (Option Part)
part_item = do
  at ← place
  m ← peek_mark
  part_by at m

unfoldable pub parts : Parser (List Part)
parts = many part_item

-- ---- routines

unfoldable pub body : Parser Body
body = do
  at ← place
  expect mark.Begin
  ss ← statements_at max_level
  expect mark.End
  pure (record { at = at; statements = statements_of ss })

unfoldable pub group_item : Parser Group
group_item = do
  is ← identifiers
  expect mark.Colon
  i ← identifier
  pure (record { names = is; type_name = i })

unfoldable pub parameter_item : Parser ParameterGroup
parameter_item = do
  at ← place
  is_var ← eat mark.Var
  g ← group_item
  pure (record { at = at; is_var = is_var; group = g })

-- items in parentheses; none where no parenthesis opens
unfoldable pub parenthesised : {A : Type 0} → Parser A → Parser (List A)
parenthesised item = do
  is_open ← eat mark.OpenParenthesis
  if is_open then (do xs ← separated mark.Semicolon item; expect mark.CloseParenthesis; pure xs) else pure []

unfoldable pub procedure_kind : Parser RoutineKind
procedure_kind = do
  gs ← parenthesised parameter_item
  pure (procedure gs)

unfoldable pub function_kind : Parser RoutineKind
function_kind = do
  gs ← parenthesised group_item
  expect mark.Colon
  i ← identifier
  pure (function gs i)

unfoldable pub routine_with : Parser RoutineKind → ℕ → Parser Routine
routine_with kind at = do
  is_entry ← eat mark.Entry
  i ← identifier
  k ← kind
  expect mark.Semicolon
  ps ← parts
  b ← body
  expect mark.Semicolon
  pure (record { at = at; is_entry = is_entry; name = i; kind = k; parts = ps; body = b })

abbrev pub routine_by : ℕ → Option Mark → Parser (Option Routine)
routine_by at (Some mark.Procedure) = skip >> some (routine_with procedure_kind at)
routine_by at (Some mark.Function) = skip >> some (routine_with function_kind at)
routine_by at _ = pure None

unfoldable pub routine_item : Parser (Option Routine)
routine_item = do
  at ← place
  m ← peek_mark
  routine_by at m

-- these routines, and those that come next
unfoldable pub routines_after : List Routine → Parser (List Routine)
routines_after found = many_after found routine_item

unfoldable pub routines : Parser (List Routine)
routines = routines_after []

-- ---- invariants

-- invariants before the empty statement
abbrev pub said : List Expression → ℕ → Statement
said es end = asserted_of Invariant es (empty end)

-- the routine without a name, of this statement
abbrev pub nameless_routine : ℕ → Statement → Routine
nameless_routine at s =
    record { at = at; is_entry = false; name = record { at = at; name = nameless }; kind = invariants; parts = []; body = record { at = at + 1; statements = more_statements s no_statements } }

abbrev pub nameless_of : ℕ → List Expression → ℕ → Option Routine
nameless_of at [] end = None
nameless_of at (e ∷ es) end = Some (nameless_routine at (said (e ∷ es) end))

-- the routine of the invariants that come next
unfoldable pub stated : Parser (Option Routine)
stated = do
  at ← place
  es ← annotations_at mark.Invariant max_level
  end ← place
  pure (nameless_of at es end)

-- A process says none.
abbrev pub invariants_by : SystemKind → Parser (Option Routine)
invariants_by systems.Process = pure None
invariants_by systems.Class = stated
invariants_by systems.Monitor = stated

unfoldable pub invariants_of : SystemKind → Parser (Option Routine)
invariants_of kind = invariants_by kind

abbrev pub as_list : Option Routine → List Routine
as_list None = []
as_list (Some r) = r ∷ []

-- the routines of a system type, of which the invariants of a class or a monitor are the first
unfoldable pub system_routines : SystemKind → Parser (List Routine)
system_routines kind = do
  nameless ← invariants_of kind
  routines_after (as_list nameless)

-- ---- system types

unfoldable pub system_with : SystemKind → ℕ → Parser System
system_with kind at = do
  gs ← parenthesised group_item
  has_semicolon ← eat mark.Semicolon
  ps ← parts
  rs ← system_routines kind
  b ← body
  pure (record { at = at; kind = kind; parameters = gs; has_semicolon = has_semicolon; parts = ps; routines = rs; body = b })

abbrev pub system_kind_of : Option Mark → Option SystemKind
system_kind_of (Some mark.Class) = Some systems.Class
system_kind_of (Some mark.Monitor) = Some systems.Monitor
system_kind_of (Some mark.Process) = Some systems.Process
system_kind_of _ = None

abbrev pub definition_by : ℕ → Option SystemKind → Parser Definition
definition_by at (Some k) = skip >> (do s ← system_with k at; pure (system_definition s))
definition_by at None = do t ← type_term max_level; pure (type_definition t)

unfoldable pub definition : Parser Definition
definition = do
  at ← place
  m ← peek_mark
  definition_by at (system_kind_of m)

unfoldable pub system_item : Parser SystemDefinition
system_item = do
  i ← identifier
  expect mark.Equal
  d ← definition
  expect mark.Semicolon
  pure (record { name = i; value = d })

-- ---- programs

abbrev pub program_part_by : ℕ → Option Mark → Parser (Option ProgramPart)
program_part_by at (Some mark.Const) = skip >> (do ds ← one_or_more constant_item; pure (Some (program_constants at ds)))
program_part_by at (Some mark.Type) = skip >> (do ds ← one_or_more system_item; pure (Some (program_types at ds)))
program_part_by at (Some mark.Var) = skip >> (do gs ← one_or_more variable_item; pure (Some (program_variables at gs)))
program_part_by at _ = pure None

unfoldable pub program_part_item : Parser (Option ProgramPart)
program_part_item = do
  at ← place
  m ← peek_mark
  program_part_by at m

abbrev pub ended : Program → Input → List Kind → Outcome Program
ended p i [] = Ok (p, i)
ended p i (k ∷ ks) = refuse i

-- a whole program: nothing follows its period
unfoldable pub program : Parser Program
program = do
  ps ← many program_part_item
  rs ← routines
  b ← body
  at ← place
  expect mark.Period
  (λ i. ended (record { parts = ps; routines = rs; body = b; period = at }) i i.rest)
