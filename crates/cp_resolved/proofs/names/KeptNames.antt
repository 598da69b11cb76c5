-- What is kept as one more name is declared is kept by declarations: by those inside a routine, by those of a system type, and by those of the program.
use Rattle.std.proofs.Common.{◌+◌, ℕ, ℤ, Bool, true, false, if◌then◌else◌, List, [], ◌∷◌, length, Option, Some, None, sym, subst}
use Rattle.cp_resolved.proofs.Words.{Identifier, PlaceOrigin, CellBase, CellType, Contained, LayoutMeaning, Names, Layer, as_integer, IsInFrame, Fields, no_fields}
use Rattle.cp_tree.specs.Syntax as syntax
use Rattle.cp_slots.specs.declared.place.PlaceOrigin.TheVariants as origin
use Rattle.cp_symbols.specs.declared.names.LayoutMeaning.TheVariants as meaning
use Rattle.cp_layout.specs.LaidTypes.{constant_of, type_of_name, with_constant, simple_type, enumerate, enumeration_base, written_type, field_groups, field_group}
use Rattle.cp_layout.specs.LaidDeclarations.{constant, constants, type_definition, type_definitions, components_of, variable, variable_with, variables_of, variable_group, variables, local, locals_of, local_group, local_variables, permanent_part, permanent_parts, local_part, local_parts, Parameters, constant_parameter, constant_parameters_of, constant_group, constant_groups, var_parameter, var_parameters_of, var_group, parameter_group, parameter_groups, heading, system, definition, system_definition, system_definitions, program_part, program_parts}
use Rattle.cp_resolved.proofs.laid.Extends.{system_names}

module _ (Q : Names → Type 0) (A : LayoutMeaning → Type 0) (add : (x : List ℕ) (m : LayoutMeaning) (ns : Names) → A m → Q ns → Q ((x, m) ∷ ns)) (constant_may : (b : CellBase) (z : ℤ) → A (meaning.Constant b z)) (kind_may : (v : CellType) → A (meaning.Kind v)) where
  -- ---- constants and types

  enumerated_keep : (l : Layer) (b : CellBase) (n : ℕ) (is : List Identifier) → Q l.names → Q (enumerate l b n is).names
  unfolding enumerate
  enumerated_keep l b n [] h = h
  enumerated_keep l b n (i ∷ is) h = enumerated_keep (with_constant l i.name (meaning.Constant b (as_integer n))) b (n + 1) is (add i.name _ l.names (constant_may b (as_integer n)) h)

  simple_keep : (l : Layer) (s : syntax.Simple) → Q l.names → Q (simple_type l s).1.names
  unfolding simple_type
  simple_keep l (syntax.enumeration at is) h = enumerated_keep l (enumeration_base (length l.constants) (length is)) 0 is h
  simple_keep l _ h = h

  mutual
    unfolding written_type field_groups field_group

    pub type_keep : (l : Layer) (t : syntax.TypeTerm) → Q l.names → Q (written_type l t).1.names
    type_keep l (syntax.simple at s) h = simple_keep l s h
    type_keep l (syntax.array_of at s t) h = type_keep (simple_type l s).1 t (simple_keep l s h)
    type_keep l (syntax.set_type at s) h = simple_keep l s h
    type_keep l (syntax.record_of at gs b) h = groups_keep l no_fields gs h

    groups_keep : (l : Layer) (r : Fields) (gs : syntax.FieldGroups) → Q l.names → Q (field_groups l r gs).1.names
    groups_keep l r syntax.no_fields h = h
    groups_keep l r (syntax.more_fields g gs) h = groups_keep (field_group l r g).1 (field_group l r g).0 gs (group_keep l r g h)

    group_keep : (l : Layer) (r : Fields) (g : syntax.FieldGroup) → Q l.names → Q (field_group l r g).1.names
    group_keep l r (syntax.fields is t) h = type_keep l t h

  pub constants_keep : (l : Layer) (ds : List syntax.ConstantDefinition) → Q l.names → Q (constants l ds).names
  unfolding constants
  constants_keep l [] h = h
  constants_keep l (d ∷ ds) h = constants_keep (constant l d) ds (add d.name.name _ l.names (constant_may (constant_of l.names d.value).0 (constant_of l.names d.value).1) h)

  pub definitions_keep : (l : Layer) (ds : List syntax.TypeDefinition) → Q l.names → Q (type_definitions l ds).names
  unfolding type_definitions
  definitions_keep l [] h = h
  definitions_keep l (d ∷ ds) h = definitions_keep (type_definition l d) ds (add d.name.name _ (written_type l d.value).1.names (kind_may (written_type l d.value).0) (type_keep l d.value h))

  -- ---- inside a routine

  module _ (variable_may : (o : PlaceOrigin) (v : CellType) → IsInFrame o → A (meaning.Variable o v)) where
    locals_of_keep : (l : Layer) (v : CellType) (is : List Identifier) → Q l.names → Q (locals_of l v is).names
    unfolding locals_of
    locals_of_keep l v [] h = h
    locals_of_keep l v (i ∷ is) h = locals_of_keep (local l i.name v) v is (add i.name _ l.names (variable_may (origin.Local (length l.frame.image)) v tt) h)

    locals_keep : (l : Layer) (gs : List syntax.VariableGroup) → Q l.names → Q (local_variables l gs).names
    unfolding local_variables
    locals_keep l [] h = h
    locals_keep l (g ∷ gs) h = locals_keep (local_group l g) gs (locals_of_keep (written_type l g.variable_type).1 (written_type l g.variable_type).0 g.names (type_keep l g.variable_type h))

    local_part_keep : (l : Layer) (p : syntax.Part) → Q l.names → Q (local_part l p).names
    local_part_keep l (syntax.constants at ds) h = constants_keep l ds h
    local_part_keep l (syntax.types at ds) h = definitions_keep l ds h
    local_part_keep l (syntax.variables at gs) h = locals_keep l gs h

    pub local_parts_keep : (l : Layer) (ps : List syntax.Part) → Q l.names → Q (local_parts l ps).names
    unfolding local_parts
    local_parts_keep l [] h = h
    local_parts_keep l (p ∷ ps) h = local_parts_keep (local_part l p) ps (local_part_keep l p h)

    constant_parameters_keep : (l : Layer) (ps : Parameters) (v : CellType) (is : List Identifier) → Q l.names → Q (constant_parameters_of l ps v is).1.names
    unfolding constant_parameters_of
    constant_parameters_keep l ps v [] h = h
    constant_parameters_keep l ps v (i ∷ is) h = constant_parameters_keep (constant_parameter l ps i.name v).1 (constant_parameter l ps i.name v).0 v is (add i.name _ l.names (variable_may (origin.Local (length l.frame.image)) v tt) h)

    var_parameters_keep : (l : Layer) (ps : Parameters) (v : CellType) (is : List Identifier) → Q l.names → Q (var_parameters_of l ps v is).1.names
    unfolding var_parameters_of
    var_parameters_keep l ps v [] h = h
    var_parameters_keep l ps v (i ∷ is) h = var_parameters_keep (var_parameter l ps i.name v).1 (var_parameter l ps i.name v).0 v is (add i.name _ l.names (variable_may (origin.Reference (length l.frame.extents)) v tt) h)

    constant_groups_keep : (l : Layer) (ps : Parameters) (gs : List syntax.Group) → Q l.names → Q (constant_groups l ps gs).1.names
    unfolding constant_groups
    constant_groups_keep l ps [] h = h
    constant_groups_keep l ps (g ∷ gs) h = constant_groups_keep (constant_group l ps g).1 (constant_group l ps g).0 gs (constant_parameters_keep l ps (type_of_name l g.type_name.name) g.names h)

    either_group_keep : (b : Bool) (l : Layer) (ps : Parameters) (g : syntax.Group) → Q l.names → Q (if b then var_group l ps g else constant_group l ps g).1.names
    either_group_keep true l ps g h = var_parameters_keep l ps (type_of_name l g.type_name.name) g.names h
    either_group_keep false l ps g h = constant_parameters_keep l ps (type_of_name l g.type_name.name) g.names h

    parameter_groups_keep : (l : Layer) (ps : Parameters) (gs : List syntax.ParameterGroup) → Q l.names → Q (parameter_groups l ps gs).1.names
    unfolding parameter_groups
    parameter_groups_keep l ps [] h = h
    parameter_groups_keep l ps (g ∷ gs) h = parameter_groups_keep (parameter_group l ps g).1 (parameter_group l ps g).0 gs (either_group_keep g.is_var l ps g.group h)

    pub heading_keep : (l : Layer) (x : List ℕ) (r : syntax.RoutineKind) → Q l.names → Q (heading l x r).1.names
    unfolding heading
    heading_keep l x (syntax.procedure gs) h = parameter_groups_keep l [] gs h
    heading_keep l x (syntax.function gs i) h = constant_groups_keep l [] gs h
    heading_keep l x syntax.invariants h = h

  -- ---- in a system type, or in the program

  module _ (variable_may : (n : ℕ) (v : CellType) → A (meaning.Variable (origin.Permanent n) v)) (contained_may : (n : ℕ) (v : CellType) → A (meaning.Contained n v)) where
    variable_keep : (l : Layer) (x : List ℕ) (v : CellType) (o : Option Contained) → Q l.names → Q (variable_with l x v o).names
    variable_keep l x v None h = add x _ l.names (variable_may l.owned.cells v) h
    variable_keep l x v (Some c) h = add x _ l.names (contained_may l.owned.count v) h

    variables_of_keep : (l : Layer) (v : CellType) (is : List Identifier) → Q l.names → Q (variables_of l v is).names
    unfolding variables_of
    variables_of_keep l v [] h = h
    variables_of_keep l v (i ∷ is) h = variables_of_keep (variable l i.name v) v is (variable_keep l i.name v (components_of l.types v) h)

    pub variables_keep : (l : Layer) (gs : List syntax.VariableGroup) → Q l.names → Q (variables l gs).names
    unfolding variables
    variables_keep l [] h = h
    variables_keep l (g ∷ gs) h = variables_keep (variable_group l g) gs (variables_of_keep (written_type l g.variable_type).1 (written_type l g.variable_type).0 g.names (type_keep l g.variable_type h))

    permanent_part_keep : (l : Layer) (p : syntax.Part) → Q l.names → Q (permanent_part l p).names
    permanent_part_keep l (syntax.constants at ds) h = constants_keep l ds h
    permanent_part_keep l (syntax.types at ds) h = definitions_keep l ds h
    permanent_part_keep l (syntax.variables at gs) h = variables_keep l gs h

    pub permanent_parts_keep : (l : Layer) (ps : List syntax.Part) → Q l.names → Q (permanent_parts l ps).names
    unfolding permanent_parts
    permanent_parts_keep l [] h = h
    permanent_parts_keep l (p ∷ ps) h = permanent_parts_keep (permanent_part l p) ps (permanent_part_keep l p h)

    definition_keep : (l : Layer) (x : List ℕ) (d : syntax.Definition) → Q l.names → Q ((x, meaning.Kind (definition l d).0) ∷ (definition l d).1.names)
    definition_keep l x (syntax.type_definition t) h = add x _ (written_type l t).1.names (kind_may (written_type l t).0) (type_keep l t h)
    definition_keep l x (syntax.system_definition s) h = add x _ (system l s).1.names (kind_may (system l s).0) (subst Q (sym (system_names l s)) h)

    pub system_definitions_keep : (l : Layer) (ds : List syntax.SystemDefinition) → Q l.names → Q (system_definitions l ds).names
    unfolding system_definitions
    system_definitions_keep l [] h = h
    system_definitions_keep l (d ∷ ds) h = system_definitions_keep (system_definition l d) ds (definition_keep l d.name.name d.value h)

    program_part_keep : (l : Layer) (p : syntax.ProgramPart) → Q l.names → Q (program_part l p).names
    program_part_keep l (syntax.program_constants at ds) h = constants_keep l ds h
    program_part_keep l (syntax.program_types at ds) h = system_definitions_keep l ds h
    program_part_keep l (syntax.program_variables at gs) h = variables_keep l gs h

    pub program_parts_keep : (l : Layer) (ps : List syntax.ProgramPart) → Q l.names → Q (program_parts l ps).names
    unfolding program_parts
    program_parts_keep l [] h = h
    program_parts_keep l (p ∷ ps) h = program_parts_keep (program_part l p) ps (program_part_keep l p h)
