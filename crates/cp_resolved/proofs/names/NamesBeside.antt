-- What declarations leave of the names of the tables: all others stand for what they did.
use Rattle.std.proofs.Common.{◌≡◌, ◌+◌, ℕ, Bool, false, if◌then◌else◌, List, [], ◌∷◌, ◌++◌, length, Option, Some, None, refl, ap, ◌∙◌}
use Rattle.cp_resolved.proofs.Words.{Identifier, CellBase, CellType, Contained, LayoutMeaning, as_integer, Name, same_name, names_of, Fields, no_fields}
use Rattle.cp_tree.specs.Syntax as syntax
use Rattle.cp_symbols.specs.declared.names.LayoutMeaning.TheVariants as meaning
use Rattle.cp_layout.specs.Layers.{Names, Layer, find}
use Rattle.cp_layout.specs.LaidTypes.{with_constant, enumerate, enumeration_base, simple_type, written_type, field_groups, field_group}
use Rattle.cp_layout.specs.LaidDeclarations.{constant, constants, type_definition, type_definitions, components_of, variable, variable_with, variables_of, variable_group, variables, local, locals_of, local_group, local_variables, permanent_part, permanent_parts, local_part, local_parts}
use Rattle.cp_resolved.specs.Distinct.{IsOther, all_names, simple_names, type_names, groups_names, part_names}
use Rattle.cp_resolved.proofs.agreeing.AgreeingWritten.{each_left, each_right}
use Rattle.cp_resolved.proofs.names.Steps.{bytes_turned}

-- from a state to a later one, a name that is none of these stands for what it did
abbrev pub Beside : List Name → Layer → Layer → Type 0
Beside xs l m = (x : Name) → IsOther x xs → find x m.names ≡ find x l.names

beside_none : (l : Layer) → Beside [] l l
beside_none l x h = refl

beside_then : (xs ys : List Name) (l k m : Layer) → Beside xs l k → Beside ys k m → Beside (xs ++ ys) l m
beside_then xs ys l k m h g x o = g x (each_right (λ y. same_name x y ≡ false) xs ys o) ∙ h x (each_left (λ y. same_name x y ≡ false) xs ys o)

pub find_past : (x n : Name) (m : LayoutMeaning) (ns : Names) → same_name x n ≡ false → find x ((n, m) ∷ ns) ≡ find x ns
find_past x n m ns h = ap (λ (b : Bool). if b then Some m else find x ns) (bytes_turned n x ∙ h)

-- ---- constants and types

enumerated_beside : (l : Layer) (b : CellBase) (n : ℕ) (is : List Identifier) → Beside (names_of is) l (enumerate l b n is)
unfolding enumerate
enumerated_beside l b n [] x h = refl
enumerated_beside l b n (i ∷ is) x h = enumerated_beside (with_constant l i.name (meaning.Constant b (as_integer n))) b (n + 1) is x h.1 ∙ find_past x i.name (meaning.Constant b (as_integer n)) l.names h.0

simple_beside : (l : Layer) (t : syntax.Simple) → Beside (simple_names t) l (simple_type l t).1
unfolding simple_type
simple_beside l (syntax.enumeration at is) x h = enumerated_beside l (enumeration_base (length l.constants) (length is)) 0 is x h
simple_beside l _ x h = refl

mutual
  unfolding written_type field_groups field_group

  type_beside : (l : Layer) (t : syntax.TypeTerm) → Beside (type_names t) l (written_type l t).1
  type_beside l (syntax.simple at s) x h = simple_beside l s x h
  type_beside l (syntax.array_of at s t) x h =
      type_beside (simple_type l s).1 t x (each_right (λ y. same_name x y ≡ false) (simple_names s) (type_names t) h) ∙ simple_beside l s x (each_left (λ y. same_name x y ≡ false) (simple_names s) (type_names t) h)
  type_beside l (syntax.set_type at s) x h = simple_beside l s x h
  type_beside l (syntax.record_of at gs b) x h = groups_beside l no_fields gs x h

  groups_beside : (l : Layer) (r : Fields) (gs : syntax.FieldGroups) → Beside (groups_names gs) l (field_groups l r gs).1
  groups_beside l r syntax.no_fields x h = refl
  groups_beside l r (syntax.more_fields (syntax.fields is t) gs) x h =
      groups_beside (field_group l r (syntax.fields is t)).1 (field_group l r (syntax.fields is t)).0 gs x (each_right (λ y. same_name x y ≡ false) (type_names t) (groups_names gs) h) ∙ type_beside l t x (each_left (λ y. same_name x y ≡ false) (type_names t) (groups_names gs) h)

constants_beside : (l : Layer) (ds : List syntax.ConstantDefinition) → Beside (all_names (λ d. d.name.name ∷ []) ds) l (constants l ds)
unfolding constants
constants_beside l [] x h = refl
constants_beside l (d ∷ ds) x h = constants_beside (constant l d) ds x h.1 ∙ find_past x d.name.name _ l.names h.0

definition_beside : (l : Layer) (d : syntax.TypeDefinition) → Beside (type_names d.value ++ d.name.name ∷ []) l (type_definition l d)
definition_beside l d =
    beside_then (type_names d.value) (d.name.name ∷ []) l (written_type l d.value).1 (type_definition l d) (type_beside l d.value) (λ x h. find_past x d.name.name (meaning.Kind (written_type l d.value).0) (written_type l d.value).1.names h.0)

definitions_beside : (l : Layer) (ds : List syntax.TypeDefinition) → Beside (all_names (λ d. type_names d.value ++ d.name.name ∷ []) ds) l (type_definitions l ds)
unfolding type_definitions
definitions_beside l [] = beside_none l
definitions_beside l (d ∷ ds) =
    beside_then (type_names d.value ++ d.name.name ∷ []) (all_names (λ (d : syntax.TypeDefinition). type_names d.value ++ d.name.name ∷ []) ds) l (type_definition l d) (type_definitions (type_definition l d) ds) (definition_beside l d) (definitions_beside (type_definition l d) ds)

-- ---- variables

abbrev group_names : syntax.VariableGroup → List Name
group_names g = type_names g.variable_type ++ names_of g.names

locals_of_beside : (l : Layer) (v : CellType) (is : List Identifier) → Beside (names_of is) l (locals_of l v is)
unfolding locals_of
locals_of_beside l v [] x h = refl
locals_of_beside l v (i ∷ is) x h = locals_of_beside (local l i.name v) v is x h.1 ∙ find_past x i.name _ l.names h.0

locals_beside : (l : Layer) (gs : List syntax.VariableGroup) → Beside (all_names group_names gs) l (local_variables l gs)
unfolding local_variables
locals_beside l [] = beside_none l
locals_beside l (g ∷ gs) =
    let y : CellType × Layer = written_type l g.variable_type in
    beside_then (group_names g) (all_names group_names gs) l (local_group l g) (local_variables (local_group l g) gs)
    (beside_then (type_names g.variable_type) (names_of g.names) l y.1 (local_group l g) (type_beside l g.variable_type) (locals_of_beside y.1 y.0 g.names)) (locals_beside (local_group l g) gs)

one_beside : (l : Layer) (n : Name) (v : CellType) (o : Option Contained) (x : Name) → same_name x n ≡ false → find x (variable_with l n v o).names ≡ find x l.names
one_beside l n v None x h = find_past x n _ l.names h
one_beside l n v (Some c) x h = find_past x n _ l.names h

variables_of_beside : (l : Layer) (v : CellType) (is : List Identifier) → Beside (names_of is) l (variables_of l v is)
unfolding variables_of
variables_of_beside l v [] x h = refl
variables_of_beside l v (i ∷ is) x h = variables_of_beside (variable l i.name v) v is x h.1 ∙ one_beside l i.name v (components_of l.types v) x h.0

variables_beside : (l : Layer) (gs : List syntax.VariableGroup) → Beside (all_names group_names gs) l (variables l gs)
unfolding variables
variables_beside l [] = beside_none l
variables_beside l (g ∷ gs) =
    let y : CellType × Layer = written_type l g.variable_type in
    beside_then (group_names g) (all_names group_names gs) l (variable_group l g) (variables (variable_group l g) gs)
    (beside_then (type_names g.variable_type) (names_of g.names) l y.1 (variable_group l g) (type_beside l g.variable_type) (variables_of_beside y.1 y.0 g.names)) (variables_beside (variable_group l g) gs)

-- ---- parts

local_part_beside : (l : Layer) (p : syntax.Part) → Beside (part_names p) l (local_part l p)
local_part_beside l (syntax.constants at ds) = constants_beside l ds
local_part_beside l (syntax.types at ds) = definitions_beside l ds
local_part_beside l (syntax.variables at gs) = locals_beside l gs

pub local_parts_beside : (l : Layer) (ps : List syntax.Part) → Beside (all_names part_names ps) l (local_parts l ps)
unfolding local_parts
local_parts_beside l [] = beside_none l
local_parts_beside l (p ∷ ps) = beside_then (part_names p) (all_names part_names ps) l (local_part l p) (local_parts (local_part l p) ps) (local_part_beside l p) (local_parts_beside (local_part l p) ps)

permanent_part_beside : (l : Layer) (p : syntax.Part) → Beside (part_names p) l (permanent_part l p)
permanent_part_beside l (syntax.constants at ds) = constants_beside l ds
permanent_part_beside l (syntax.types at ds) = definitions_beside l ds
permanent_part_beside l (syntax.variables at gs) = variables_beside l gs

pub permanent_parts_beside : (l : Layer) (ps : List syntax.Part) → Beside (all_names part_names ps) l (permanent_parts l ps)
unfolding permanent_parts
permanent_parts_beside l [] = beside_none l
permanent_parts_beside l (p ∷ ps) = beside_then (part_names p) (all_names part_names ps) l (permanent_part l p) (permanent_parts (permanent_part l p) ps) (permanent_part_beside l p) (permanent_parts_beside (permanent_part l p) ps)
