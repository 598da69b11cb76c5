-- What declarations of constants, types, variables and parameters note.
use Rattle.std.proofs.Common.{◌≡◌, ℕ, ◌+◌, Bool, true, false, if◌then◌else◌, List, [], ◌∷◌, length, Option, Some, None, refl}
use Rattle.cp_legend_laws.proofs.Words.{Identifier, CellType, Contained, Layer}
use Rattle.cp_tree.specs.Syntax as syntax
use Rattle.cp_symbols.specs.declared.kinds.CellBase.{CellBase}
use Rattle.cp_symbols.specs.declared.kinds.CellType.TheVariants as types
use Rattle.cp_symbols.specs.declared.names.LayoutMeaning.TheVariants as meaning
use Rattle.cp_layout.specs.Kinds.{Fields, no_fields}
use Rattle.cp_layout.specs.LaidExpressions.{as_integer}
use Rattle.cp_layout.specs.LaidTypes.{type_of_name, simple_type, enumerate, enumeration_base, with_constant, written_type, field_groups, field_group}
use Rattle.cp_layout.specs.LaidDeclarations.{constant, constants, type_definition, type_definitions, components_of, variable, variable_with, variables_of, variable_group, variables, local, locals_of, local_group, local_variables, permanent_part, permanent_parts, local_part, local_parts, Parameters, constant_parameter, constant_parameters_of, constant_group, constant_groups, var_parameter, var_parameters_of, var_group, parameter_group, parameter_groups, heading, system_parameter, system_parameters_of, system_group, system_groups}
use Rattle.cp_legend_laws.proofs.Noting.{Noting, noting_trans, noting_none, noting_same, noting_name, noting_component, noting_types}

-- ---- types

enumerated_notes : (l : Layer) (b : CellBase) (n : ℕ) (is : List Identifier) → Noting l (enumerate l b n is)
unfolding enumerate
enumerated_notes l b n [] = noting_none l
enumerated_notes l b n (i ∷ is) =
    let m : Layer = with_constant l i.name (meaning.Constant b (as_integer n)) in
    noting_trans l m (enumerate m b (n + 1) is) (noting_same l m refl refl refl refl refl) (enumerated_notes m b (n + 1) is)

pub simple_notes : (l : Layer) (s : syntax.Simple) → Noting l (simple_type l s).1
unfolding simple_type
simple_notes l (syntax.enumeration at is) = enumerated_notes l (enumeration_base (length l.constants) (length is)) 0 is
simple_notes l _ = noting_none l

mutual
  unfolding written_type field_groups field_group

  pub type_notes : (l : Layer) (t : syntax.TypeTerm) → Noting l (written_type l t).1
  type_notes l (syntax.simple at s) = simple_notes l s
  type_notes l (syntax.array_of at s t) =
      let x : Layer = (simple_type l s).1 in
      let y : Layer = (written_type x t).1 in
      noting_trans l y (written_type l (syntax.array_of at s t)).1 (noting_trans l x y (simple_notes l s) (type_notes x t)) (noting_types y _)
  type_notes l (syntax.set_type at s) = simple_notes l s
  type_notes l (syntax.record_of at gs b) =
      let x : Layer = (field_groups l no_fields gs).1 in
      noting_trans l x (written_type l (syntax.record_of at gs b)).1 (groups_note l no_fields gs) (noting_types x _)

  pub groups_note : (l : Layer) (r : Fields) (gs : syntax.FieldGroups) → Noting l (field_groups l r gs).1
  groups_note l r syntax.no_fields = noting_none l
  groups_note l r (syntax.more_fields g gs) =
      let x : Fields × Layer = field_group l r g in
      noting_trans l x.1 (field_groups x.1 x.0 gs).1 (group_notes l r g) (groups_note x.1 x.0 gs)

  group_notes : (l : Layer) (r : Fields) (g : syntax.FieldGroup) → Noting l (field_group l r g).1
  group_notes l r (syntax.fields is t) = type_notes l t

-- ---- constants and types of a part

pub constants_note : (l : Layer) (ds : List syntax.ConstantDefinition) → Noting l (constants l ds)
unfolding constants
constants_note l [] = noting_none l
constants_note l (d ∷ ds) = noting_trans l (constant l d) (constants (constant l d) ds) (noting_name l d.name.name _ l.owned l.frame (λ ts. refl) refl) (constants_note (constant l d) ds)

pub definitions_note : (l : Layer) (ds : List syntax.TypeDefinition) → Noting l (type_definitions l ds)
unfolding type_definitions
definitions_note l [] = noting_none l
definitions_note l (d ∷ ds) =
    let x : Layer = (written_type l d.value).1 in
    noting_trans l (type_definition l d) (type_definitions (type_definition l d) ds)
    (noting_trans l x (type_definition l d) (type_notes l d.value) (noting_name x d.name.name _ x.owned x.frame (λ ts. refl) refl)) (definitions_note (type_definition l d) ds)

-- ---- permanent variables

with_notes : (l : Layer) (x : List ℕ) (t : CellType) (o : Option Contained) → components_of l.types t ≡ o → Noting l (variable_with l x t o)
with_notes l x t None e = noting_name l x _ _ l.frame (λ ts. refl) refl
with_notes l x t (Some c) e = noting_component l x l.owned.count t _ c e refl

pub variable_notes : (l : Layer) (x : List ℕ) (t : CellType) → Noting l (variable l x t)
variable_notes l x t = with_notes l x t (components_of l.types t) refl

pub variables_of_note : (l : Layer) (t : CellType) (is : List Identifier) → Noting l (variables_of l t is)
unfolding variables_of
variables_of_note l t [] = noting_none l
variables_of_note l t (i ∷ is) = noting_trans l (variable l i.name t) (variables_of (variable l i.name t) t is) (variable_notes l i.name t) (variables_of_note (variable l i.name t) t is)

pub variables_note : (l : Layer) (gs : List syntax.VariableGroup) → Noting l (variables l gs)
unfolding variables
variables_note l [] = noting_none l
variables_note l (g ∷ gs) =
    let x : CellType × Layer = written_type l g.variable_type in
    noting_trans l (variable_group l g) (variables (variable_group l g) gs)
    (noting_trans l x.1 (variable_group l g) (type_notes l g.variable_type) (variables_of_note x.1 x.0 g.names)) (variables_note (variable_group l g) gs)

-- ---- local variables

pub locals_of_note : (l : Layer) (t : CellType) (is : List Identifier) → Noting l (locals_of l t is)
unfolding locals_of
locals_of_note l t [] = noting_none l
locals_of_note l t (i ∷ is) = noting_trans l (local l i.name t) (locals_of (local l i.name t) t is) (noting_name l i.name _ l.owned _ (λ ts. refl) refl) (locals_of_note (local l i.name t) t is)

pub locals_note : (l : Layer) (gs : List syntax.VariableGroup) → Noting l (local_variables l gs)
unfolding local_variables
locals_note l [] = noting_none l
locals_note l (g ∷ gs) =
    let x : CellType × Layer = written_type l g.variable_type in
    noting_trans l (local_group l g) (local_variables (local_group l g) gs)
    (noting_trans l x.1 (local_group l g) (type_notes l g.variable_type) (locals_of_note x.1 x.0 g.names)) (locals_note (local_group l g) gs)

-- ---- parts

pub permanent_part_notes : (l : Layer) (p : syntax.Part) → Noting l (permanent_part l p)
permanent_part_notes l (syntax.constants at ds) = constants_note l ds
permanent_part_notes l (syntax.types at ds) = definitions_note l ds
permanent_part_notes l (syntax.variables at gs) = variables_note l gs

pub permanent_parts_note : (l : Layer) (ps : List syntax.Part) → Noting l (permanent_parts l ps)
unfolding permanent_parts
permanent_parts_note l [] = noting_none l
permanent_parts_note l (p ∷ ps) = noting_trans l (permanent_part l p) (permanent_parts (permanent_part l p) ps) (permanent_part_notes l p) (permanent_parts_note (permanent_part l p) ps)

pub local_part_notes : (l : Layer) (p : syntax.Part) → Noting l (local_part l p)
local_part_notes l (syntax.constants at ds) = constants_note l ds
local_part_notes l (syntax.types at ds) = definitions_note l ds
local_part_notes l (syntax.variables at gs) = locals_note l gs

pub local_parts_note : (l : Layer) (ps : List syntax.Part) → Noting l (local_parts l ps)
unfolding local_parts
local_parts_note l [] = noting_none l
local_parts_note l (p ∷ ps) = noting_trans l (local_part l p) (local_parts (local_part l p) ps) (local_part_notes l p) (local_parts_note (local_part l p) ps)

-- ---- headings

pub constant_parameters_note : (l : Layer) (ps : Parameters) (t : CellType) (is : List Identifier) → Noting l (constant_parameters_of l ps t is).1
unfolding constant_parameters_of
constant_parameters_note l ps t [] = noting_none l
constant_parameters_note l ps t (i ∷ is) =
    let x : Parameters × Layer = constant_parameter l ps i.name t in
    noting_trans l x.1 (constant_parameters_of x.1 x.0 t is).1 (noting_name l i.name _ l.owned _ (λ ts. refl) refl) (constant_parameters_note x.1 x.0 t is)

pub constant_groups_note : (l : Layer) (ps : Parameters) (gs : List syntax.Group) → Noting l (constant_groups l ps gs).1
unfolding constant_groups
constant_groups_note l ps [] = noting_none l
constant_groups_note l ps (g ∷ gs) =
    let x : Parameters × Layer = constant_group l ps g in
    noting_trans l x.1 (constant_groups x.1 x.0 gs).1 (constant_parameters_note l ps (type_of_name l g.type_name.name) g.names) (constant_groups_note x.1 x.0 gs)

pub var_parameters_note : (l : Layer) (ps : Parameters) (t : CellType) (is : List Identifier) → Noting l (var_parameters_of l ps t is).1
unfolding var_parameters_of
var_parameters_note l ps t [] = noting_none l
var_parameters_note l ps t (i ∷ is) =
    let x : Parameters × Layer = var_parameter l ps i.name t in
    noting_trans l x.1 (var_parameters_of x.1 x.0 t is).1 (noting_name l i.name _ l.owned _ (λ ts. refl) refl) (var_parameters_note x.1 x.0 t is)

pub either_group_notes : (b : Bool) (l : Layer) (ps : Parameters) (g : syntax.Group) → Noting l (if b then var_group l ps g else constant_group l ps g).1
either_group_notes true l ps g = var_parameters_note l ps (type_of_name l g.type_name.name) g.names
either_group_notes false l ps g = constant_parameters_note l ps (type_of_name l g.type_name.name) g.names

pub parameter_groups_note : (l : Layer) (ps : Parameters) (gs : List syntax.ParameterGroup) → Noting l (parameter_groups l ps gs).1
unfolding parameter_groups
parameter_groups_note l ps [] = noting_none l
parameter_groups_note l ps (g ∷ gs) =
    let x : Parameters × Layer = parameter_group l ps g in
    noting_trans l x.1 (parameter_groups x.1 x.0 gs).1 (either_group_notes g.is_var l ps g.group) (parameter_groups_note x.1 x.0 gs)

pub heading_notes : (l : Layer) (x : List ℕ) (k : syntax.RoutineKind) → Noting l (heading l x k).1
unfolding heading
heading_notes l x (syntax.procedure gs) = parameter_groups_note l [] gs
heading_notes l x (syntax.function gs i) =
    let p : Parameters × Layer = constant_groups l [] gs in
    noting_trans l p.1 (heading l x (syntax.function gs i)).1 (constant_groups_note l [] gs) (noting_same p.1 (heading l x (syntax.function gs i)).1 refl refl refl refl refl)
heading_notes l x syntax.invariants = noting_none l

-- ---- parameters of a system type

pub system_parameter_notes : (l : Layer) (ps : Parameters) (x : List ℕ) (t : CellType) → Noting l (system_parameter l ps x t).1
system_parameter_notes l ps x (types.Ordinal r) = noting_name l x _ _ l.frame (λ ts. refl) refl
system_parameter_notes l ps x _ = noting_name l x _ _ l.frame (λ ts. refl) refl

pub system_parameters_note : (l : Layer) (ps : Parameters) (t : CellType) (is : List Identifier) → Noting l (system_parameters_of l ps t is).1
unfolding system_parameters_of
system_parameters_note l ps t [] = noting_none l
system_parameters_note l ps t (i ∷ is) =
    let x : Parameters × Layer = system_parameter l ps i.name t in
    noting_trans l x.1 (system_parameters_of x.1 x.0 t is).1 (system_parameter_notes l ps i.name t) (system_parameters_note x.1 x.0 t is)

pub system_groups_note : (l : Layer) (ps : Parameters) (gs : List syntax.Group) → Noting l (system_groups l ps gs).1
unfolding system_groups
system_groups_note l ps [] = noting_none l
system_groups_note l ps (g ∷ gs) =
    let x : Parameters × Layer = system_group l ps g in
    noting_trans l x.1 (system_groups x.1 x.0 gs).1 (system_parameters_note l ps (type_of_name l g.type_name.name) g.names) (system_groups_note x.1 x.0 gs)
