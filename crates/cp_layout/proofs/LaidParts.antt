-- Loops over types and declarations: what is left leads where all lead.
use Rattle.std.proofs.Common.{◌≡◌, ◌∙◌, ℕ, suc, ◌+◌, ◌<◌, ◌≤◌, List, [], length, get_or, drop, map, refl, ap, add-one}
use Rattle.cp_layout.proofs.Words.{drop-cons, drop_all, Layer}
use Rattle.cp_tree.specs.declared.constant.Identifier.{Identifier}
use Rattle.cp_tree.specs.declared.types.FieldGroup as tree_field_group
use Rattle.cp_tree.specs.declared.declaration.ConstantDefinition as tree_constant_definition
use Rattle.cp_tree.specs.declared.declaration.TypeDefinition as tree_type_definition
use Rattle.cp_tree.specs.declared.declaration.VariableGroup as tree_variable_group
use Rattle.cp_tree.specs.declared.declaration.Part as tree_part
use Rattle.cp_tree.specs.declared.declaration.Group as tree_group
use Rattle.cp_tree.specs.declared.declaration.ParameterGroup as tree_parameter_group
use Rattle.cp_tree.specs.declared.declaration.Routine as tree_routine
use Rattle.cp_tree.specs.declared.declaration.SystemDefinition as tree_system_definition
use Rattle.cp_tree.specs.declared.declaration.ProgramPart as tree_program_part
use Rattle.cp_tree.specs.Syntax.{Program}
use Rattle.cp_tree.specs.View.{field_group_view, field_groups_view, field_groups_of, constant_definition_view, type_definition_view, variable_group_view, part_view, group_view, parameter_group_view, routine_view, system_definition_view, program_part_view}
use Rattle.cp_symbols.specs.declared.kinds.CellBase.{CellBase}
use Rattle.cp_symbols.specs.declared.kinds.CellType.{CellType}
use Rattle.cp_symbols.specs.declared.names.LayoutMeaning.TheVariants as meaning
use Rattle.cp_layout.specs.Kinds.{Fields, with_field}
use Rattle.cp_layout.specs.LaidExpressions.{as_integer}
use Rattle.cp_layout.specs.LaidTypes.{with_constant, enumerate, fields_of_type, field_group, field_groups}
use Rattle.cp_layout.specs.LaidDeclarations as spec
use Rattle.cp_layout.specs.LaidDeclarations.{Parameters, constants, type_definitions, variables_of, variables, locals_of, local_variables, permanent_parts, local_parts, constant_parameters_of, constant_groups, var_parameters_of, parameter_groups, routines, system_parameters_of, system_groups, system_definitions, program_parts, initial_statement, program}

-- ---- types

module _ (r : Fields) (xs : List Identifier) (i : ℕ) (t : CellType) (cells : ℕ) where
  pub fields_step : (x : Identifier) → i < length xs → x ≡ get_or xs i x → (s : Fields) → with_field r x.name t cells ≡ s → fields_of_type r (drop i xs) t cells ≡ fields_of_type s (drop (i + 1) xs) t cells
  unfolding fields_of_type
  fields_step x within here s h = rw (add-one, drop-cons xs i x, ← here) (ap (λ (y : Fields). fields_of_type y (drop (suc i) xs) t cells) h)

  pub fields_none : length xs ≤ i → fields_of_type r (drop i xs) t cells ≡ r
  unfolding fields_of_type
  fields_none h = rw (drop_all i xs h) refl

module _ (l : Layer) (b : CellBase) (xs : List Identifier) (i : ℕ) where
  pub enumerated_step : (x : Identifier) → i < length xs → x ≡ get_or xs i x → (m : Layer) → with_constant l x.name (meaning.Constant b (as_integer i)) ≡ m → enumerate l b i (drop i xs) ≡ enumerate m b (i + 1) (drop (i + 1) xs)
  unfolding enumerate
  enumerated_step x within here m h = rw (drop-cons xs i x, ← here, ← add-one i) (ap (λ (y : Layer). enumerate y b (i + 1) (drop (i + 1) xs)) h)

  pub enumerated_none : length xs ≤ i → enumerate l b i (drop i xs) ≡ l
  unfolding enumerate
  enumerated_none h = rw (drop_all i xs h) refl

module _ (l : Layer) (r : Fields) (xs : List tree_field_group.FieldGroup) (i : ℕ) where
  pub field_groups_step : (x : tree_field_group.FieldGroup) → i < length xs → x ≡ get_or xs i x → (s : Fields) (m : Layer) → field_group l r (field_group_view x) ≡ (s, m)
      → field_groups l r (field_groups_of (field_groups_view (drop i xs))) ≡ field_groups m s (field_groups_of (field_groups_view (drop (i + 1) xs)))
  unfolding field_groups
  field_groups_step x within here s m h = rw (add-one, drop-cons xs i x, ← here) (ap (λ (y : Fields × Layer). field_groups y.1 y.0 (field_groups_of (field_groups_view (drop (suc i) xs)))) h)

  pub field_groups_none : length xs ≤ i → field_groups l r (field_groups_of (field_groups_view (drop i xs))) ≡ (r, l)
  unfolding field_groups
  field_groups_none h = rw (drop_all i xs h) refl

-- ---- parts

module _ (l : Layer) (xs : List tree_constant_definition.ConstantDefinition) (i : ℕ) where
  pub constants_step : (x : tree_constant_definition.ConstantDefinition) → i < length xs → x ≡ get_or xs i x → (m : Layer) → spec.constant l (constant_definition_view x) ≡ m → constants l (map constant_definition_view (drop i xs)) ≡ constants m (map constant_definition_view (drop (i + 1) xs))
  unfolding constants
  constants_step x within here m h = rw (add-one, drop-cons xs i x, ← here) (ap (λ (y : Layer). constants y (map constant_definition_view (drop (suc i) xs))) h)

  pub constants_none : length xs ≤ i → constants l (map constant_definition_view (drop i xs)) ≡ l
  unfolding constants
  constants_none h = rw (drop_all i xs h) refl

module _ (l : Layer) (xs : List tree_type_definition.TypeDefinition) (i : ℕ) where
  pub type_definitions_step : (x : tree_type_definition.TypeDefinition) → i < length xs → x ≡ get_or xs i x → (m : Layer) → spec.type_definition l (type_definition_view x) ≡ m → type_definitions l (map type_definition_view (drop i xs)) ≡ type_definitions m (map type_definition_view (drop (i + 1) xs))
  unfolding type_definitions
  type_definitions_step x within here m h = rw (add-one, drop-cons xs i x, ← here) (ap (λ (y : Layer). type_definitions y (map type_definition_view (drop (suc i) xs))) h)

  pub type_definitions_none : length xs ≤ i → type_definitions l (map type_definition_view (drop i xs)) ≡ l
  unfolding type_definitions
  type_definitions_none h = rw (drop_all i xs h) refl

module _ (l : Layer) (t : CellType) (xs : List Identifier) (i : ℕ) where
  pub variables_of_step : (x : Identifier) → i < length xs → x ≡ get_or xs i x → (m : Layer) → spec.variable l x.name t ≡ m → variables_of l t (drop i xs) ≡ variables_of m t (drop (i + 1) xs)
  unfolding variables_of
  variables_of_step x within here m h = rw (add-one, drop-cons xs i x, ← here) (ap (λ (y : Layer). variables_of y t (drop (suc i) xs)) h)

  pub variables_of_none : length xs ≤ i → variables_of l t (drop i xs) ≡ l
  unfolding variables_of
  variables_of_none h = rw (drop_all i xs h) refl

module _ (l : Layer) (xs : List tree_variable_group.VariableGroup) (i : ℕ) where
  pub variables_step : (x : tree_variable_group.VariableGroup) → i < length xs → x ≡ get_or xs i x → (m : Layer) → spec.variable_group l (variable_group_view x) ≡ m → variables l (map variable_group_view (drop i xs)) ≡ variables m (map variable_group_view (drop (i + 1) xs))
  unfolding variables
  variables_step x within here m h = rw (add-one, drop-cons xs i x, ← here) (ap (λ (y : Layer). variables y (map variable_group_view (drop (suc i) xs))) h)

  pub variables_none : length xs ≤ i → variables l (map variable_group_view (drop i xs)) ≡ l
  unfolding variables
  variables_none h = rw (drop_all i xs h) refl

module _ (l : Layer) (t : CellType) (xs : List Identifier) (i : ℕ) where
  pub locals_of_step : (x : Identifier) → i < length xs → x ≡ get_or xs i x → (m : Layer) → spec.local l x.name t ≡ m → locals_of l t (drop i xs) ≡ locals_of m t (drop (i + 1) xs)
  unfolding locals_of
  locals_of_step x within here m h = rw (add-one, drop-cons xs i x, ← here) (ap (λ (y : Layer). locals_of y t (drop (suc i) xs)) h)

  pub locals_of_none : length xs ≤ i → locals_of l t (drop i xs) ≡ l
  unfolding locals_of
  locals_of_none h = rw (drop_all i xs h) refl

module _ (l : Layer) (xs : List tree_variable_group.VariableGroup) (i : ℕ) where
  pub local_variables_step : (x : tree_variable_group.VariableGroup) → i < length xs → x ≡ get_or xs i x → (m : Layer) → spec.local_group l (variable_group_view x) ≡ m → local_variables l (map variable_group_view (drop i xs)) ≡ local_variables m (map variable_group_view (drop (i + 1) xs))
  unfolding local_variables
  local_variables_step x within here m h = rw (add-one, drop-cons xs i x, ← here) (ap (λ (y : Layer). local_variables y (map variable_group_view (drop (suc i) xs))) h)

  pub local_variables_none : length xs ≤ i → local_variables l (map variable_group_view (drop i xs)) ≡ l
  unfolding local_variables
  local_variables_none h = rw (drop_all i xs h) refl

module _ (l : Layer) (xs : List tree_part.Part) (i : ℕ) where
  pub permanent_parts_step : (x : tree_part.Part) → i < length xs → x ≡ get_or xs i x → (m : Layer) → spec.permanent_part l (part_view x) ≡ m → permanent_parts l (map part_view (drop i xs)) ≡ permanent_parts m (map part_view (drop (i + 1) xs))
  unfolding permanent_parts
  permanent_parts_step x within here m h = rw (add-one, drop-cons xs i x, ← here) (ap (λ (y : Layer). permanent_parts y (map part_view (drop (suc i) xs))) h)

  pub permanent_parts_none : length xs ≤ i → permanent_parts l (map part_view (drop i xs)) ≡ l
  unfolding permanent_parts
  permanent_parts_none h = rw (drop_all i xs h) refl

module _ (l : Layer) (xs : List tree_part.Part) (i : ℕ) where
  pub local_parts_step : (x : tree_part.Part) → i < length xs → x ≡ get_or xs i x → (m : Layer) → spec.local_part l (part_view x) ≡ m → local_parts l (map part_view (drop i xs)) ≡ local_parts m (map part_view (drop (i + 1) xs))
  unfolding local_parts
  local_parts_step x within here m h = rw (add-one, drop-cons xs i x, ← here) (ap (λ (y : Layer). local_parts y (map part_view (drop (suc i) xs))) h)

  pub local_parts_none : length xs ≤ i → local_parts l (map part_view (drop i xs)) ≡ l
  unfolding local_parts
  local_parts_none h = rw (drop_all i xs h) refl

-- ---- headings

module _ (l : Layer) (ps : Parameters) (t : CellType) (xs : List Identifier) (i : ℕ) where
  pub constant_parameters_of_step : (x : Identifier) → i < length xs → x ≡ get_or xs i x → (qs : Parameters) (m : Layer) → spec.constant_parameter l ps x.name t ≡ (qs, m) → constant_parameters_of l ps t (drop i xs) ≡ constant_parameters_of m qs t (drop (i + 1) xs)
  unfolding constant_parameters_of
  constant_parameters_of_step x within here qs m h = rw (add-one, drop-cons xs i x, ← here) (ap (λ (y : Parameters × Layer). constant_parameters_of y.1 y.0 t (drop (suc i) xs)) h)

  pub constant_parameters_of_none : length xs ≤ i → constant_parameters_of l ps t (drop i xs) ≡ (ps, l)
  unfolding constant_parameters_of
  constant_parameters_of_none h = rw (drop_all i xs h) refl

module _ (l : Layer) (ps : Parameters) (xs : List tree_group.Group) (i : ℕ) where
  pub constant_groups_step : (x : tree_group.Group) → i < length xs → x ≡ get_or xs i x → (qs : Parameters) (m : Layer) → spec.constant_group l ps (group_view x) ≡ (qs, m) → constant_groups l ps (map group_view (drop i xs)) ≡ constant_groups m qs (map group_view (drop (i + 1) xs))
  unfolding constant_groups
  constant_groups_step x within here qs m h = rw (add-one, drop-cons xs i x, ← here) (ap (λ (y : Parameters × Layer). constant_groups y.1 y.0 (map group_view (drop (suc i) xs))) h)

  pub constant_groups_none : length xs ≤ i → constant_groups l ps (map group_view (drop i xs)) ≡ (ps, l)
  unfolding constant_groups
  constant_groups_none h = rw (drop_all i xs h) refl

module _ (l : Layer) (ps : Parameters) (t : CellType) (xs : List Identifier) (i : ℕ) where
  pub var_parameters_of_step : (x : Identifier) → i < length xs → x ≡ get_or xs i x → (qs : Parameters) (m : Layer) → spec.var_parameter l ps x.name t ≡ (qs, m) → var_parameters_of l ps t (drop i xs) ≡ var_parameters_of m qs t (drop (i + 1) xs)
  unfolding var_parameters_of
  var_parameters_of_step x within here qs m h = rw (add-one, drop-cons xs i x, ← here) (ap (λ (y : Parameters × Layer). var_parameters_of y.1 y.0 t (drop (suc i) xs)) h)

  pub var_parameters_of_none : length xs ≤ i → var_parameters_of l ps t (drop i xs) ≡ (ps, l)
  unfolding var_parameters_of
  var_parameters_of_none h = rw (drop_all i xs h) refl

module _ (l : Layer) (ps : Parameters) (xs : List tree_parameter_group.ParameterGroup) (i : ℕ) where
  pub parameter_groups_step : (x : tree_parameter_group.ParameterGroup) → i < length xs → x ≡ get_or xs i x → (qs : Parameters) (m : Layer) → spec.parameter_group l ps (parameter_group_view x) ≡ (qs, m) → parameter_groups l ps (map parameter_group_view (drop i xs)) ≡ parameter_groups m qs (map parameter_group_view (drop (i + 1) xs))
  unfolding parameter_groups
  parameter_groups_step x within here qs m h = rw (add-one, drop-cons xs i x, ← here) (ap (λ (y : Parameters × Layer). parameter_groups y.1 y.0 (map parameter_group_view (drop (suc i) xs))) h)

  pub parameter_groups_none : length xs ≤ i → parameter_groups l ps (map parameter_group_view (drop i xs)) ≡ (ps, l)
  unfolding parameter_groups
  parameter_groups_none h = rw (drop_all i xs h) refl

module _ (l : Layer) (ps : Parameters) (t : CellType) (xs : List Identifier) (i : ℕ) where
  pub system_parameters_of_step : (x : Identifier) → i < length xs → x ≡ get_or xs i x → (qs : Parameters) (m : Layer) → spec.system_parameter l ps x.name t ≡ (qs, m) → system_parameters_of l ps t (drop i xs) ≡ system_parameters_of m qs t (drop (i + 1) xs)
  unfolding system_parameters_of
  system_parameters_of_step x within here qs m h = rw (add-one, drop-cons xs i x, ← here) (ap (λ (y : Parameters × Layer). system_parameters_of y.1 y.0 t (drop (suc i) xs)) h)

  pub system_parameters_of_none : length xs ≤ i → system_parameters_of l ps t (drop i xs) ≡ (ps, l)
  unfolding system_parameters_of
  system_parameters_of_none h = rw (drop_all i xs h) refl

module _ (l : Layer) (ps : Parameters) (xs : List tree_group.Group) (i : ℕ) where
  pub system_groups_step : (x : tree_group.Group) → i < length xs → x ≡ get_or xs i x → (qs : Parameters) (m : Layer) → spec.system_group l ps (group_view x) ≡ (qs, m) → system_groups l ps (map group_view (drop i xs)) ≡ system_groups m qs (map group_view (drop (i + 1) xs))
  unfolding system_groups
  system_groups_step x within here qs m h = rw (add-one, drop-cons xs i x, ← here) (ap (λ (y : Parameters × Layer). system_groups y.1 y.0 (map group_view (drop (suc i) xs))) h)

  pub system_groups_none : length xs ≤ i → system_groups l ps (map group_view (drop i xs)) ≡ (ps, l)
  unfolding system_groups
  system_groups_none h = rw (drop_all i xs h) refl

-- ---- routines and system types

module _ (l : Layer) (xs : List tree_routine.Routine) (i : ℕ) where
  pub routines_step : (x : tree_routine.Routine) → i < length xs → x ≡ get_or xs i x → (m : Layer) → spec.routine l (routine_view x) ≡ m → routines l (map routine_view (drop i xs)) ≡ routines m (map routine_view (drop (i + 1) xs))
  unfolding routines
  routines_step x within here m h = rw (add-one, drop-cons xs i x, ← here) (ap (λ (y : Layer). routines y (map routine_view (drop (suc i) xs))) h)

  pub routines_none : length xs ≤ i → routines l (map routine_view (drop i xs)) ≡ l
  unfolding routines
  routines_none h = rw (drop_all i xs h) refl

module _ (l : Layer) (xs : List tree_system_definition.SystemDefinition) (i : ℕ) where
  pub system_definitions_step : (x : tree_system_definition.SystemDefinition) → i < length xs → x ≡ get_or xs i x → (m : Layer) → spec.system_definition l (system_definition_view x) ≡ m → system_definitions l (map system_definition_view (drop i xs)) ≡ system_definitions m (map system_definition_view (drop (i + 1) xs))
  unfolding system_definitions
  system_definitions_step x within here m h = rw (add-one, drop-cons xs i x, ← here) (ap (λ (y : Layer). system_definitions y (map system_definition_view (drop (suc i) xs))) h)

  pub system_definitions_none : length xs ≤ i → system_definitions l (map system_definition_view (drop i xs)) ≡ l
  unfolding system_definitions
  system_definitions_none h = rw (drop_all i xs h) refl

module _ (l : Layer) (xs : List tree_program_part.ProgramPart) (i : ℕ) where
  pub program_parts_step : (x : tree_program_part.ProgramPart) → i < length xs → x ≡ get_or xs i x → (m : Layer) → spec.program_part l (program_part_view x) ≡ m → program_parts l (map program_part_view (drop i xs)) ≡ program_parts m (map program_part_view (drop (i + 1) xs))
  unfolding program_parts
  program_parts_step x within here m h = rw (add-one, drop-cons xs i x, ← here) (ap (λ (y : Layer). program_parts y (map program_part_view (drop (suc i) xs))) h)

  pub program_parts_none : length xs ≤ i → program_parts l (map program_part_view (drop i xs)) ≡ l
  unfolding program_parts
  program_parts_none h = rw (drop_all i xs h) refl

-- ---- the program

pub program_laid : (l m n : Layer) (p : Program) → program_parts l p.parts ≡ m → routines m p.routines ≡ n → program l p ≡ initial_statement n [] p.body
unfolding program
program_laid l m n p a b = ap (λ (k : Layer). initial_statement k [] p.body) (ap (λ (k : Layer). routines k p.routines) a ∙ b)
