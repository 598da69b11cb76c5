-- What declarations of constants, types, variables and parameters leave of the state: new names stand before the others, new types and constants after them,
-- and nothing else changes but the cells of the frame and of the system type.
use Rattle.std.proofs.Common.{◌≡◌, ℕ, ℤ, Bool, if◌then◌else◌, List, [], ◌∷◌, ◌++◌, Option, Some, None, sym, ap, ◌∙◌, append_assoc}
use Rattle.std.proofs.lemmas.List.{append-nil}
use Rattle.cp_resolved.proofs.Words.{Fields, Identifier, CellBase, CellType, Contained, Compounds, Names, Layer, Owned, Frame, Noted}
use Rattle.cp_tree.specs.Syntax as syntax
use Rattle.cp_symbols.specs.declared.kinds.CellType.TheVariants as types
use Rattle.cp_symbols.specs.declared.names.LayoutMeaning.TheVariants as meaning
use Rattle.cp_layout.specs.LaidTypes.{field_groups, with_constant, written_type}
use Rattle.cp_layout.specs.LaidDeclarations.{constants, type_definitions, components_of, variable, variable_with, variables_of, variables, locals_of, local_variables, permanent_parts, local_parts, Parameters, constant_parameters_of, constant_group, constant_groups, var_group, parameter_groups, heading, system_parameter, system_parameters_of, system_groups}
use Rattle.cp_resolved.proofs.laid.Declaring.{TypeSteps, FrameSteps, SystemSteps, plain_types, type_leads, groups_lead, constants_lead, definitions_lead, variables_of_lead, variables_lead, locals_of_lead, locals_lead, permanent_parts_lead, local_parts_lead, constant_parameters_lead, constant_groups_lead, either_group_leads, parameter_groups_lead, heading_leads, system_parameters_lead, system_groups_lead}

abbrev pub placed : Layer → Names → Compounds → List (List ℕ) → Owned → Frame → List Noted → Layer
placed l ns ts cs o f d = record l { names = ns; types = ts; constants = cs; owned = o; frame = f; noted = d }

pub record Declares (l m : Layer) : Type 0 where
  pub names : Names
  pub types : Compounds
  pub constants : List (List ℕ)
  pub same : m ≡ placed l (names ++ l.names) (l.types ++ types) (l.constants ++ constants) m.owned m.frame m.noted

pub declares_trans : (l k m : Layer) → Declares l k → Declares k m → Declares l m
declares_trans l k m h i =
    record {
      names = i.names ++ h.names;
      types = h.types ++ i.types;
      constants = h.constants ++ i.constants;
      same = i.same
          ∙ ap (λ (j : Layer). placed j (i.names ++ j.names) (j.types ++ i.types) (j.constants ++ i.constants) m.owned m.frame m.noted) h.same
          ∙ ap (λ (ns : Names). placed l ns ((l.types ++ h.types) ++ i.types) ((l.constants ++ h.constants) ++ i.constants) m.owned m.frame m.noted) (sym (append_assoc i.names h.names l.names))
          ∙ ap (λ (ts : Compounds). placed l ((i.names ++ h.names) ++ l.names) ts ((l.constants ++ h.constants) ++ i.constants) m.owned m.frame m.noted) (append_assoc l.types h.types i.types)
          ∙ ap (λ (cs : List (List ℕ)). placed l ((i.names ++ h.names) ++ l.names) (l.types ++ (h.types ++ i.types)) cs m.owned m.frame m.noted) (append_assoc l.constants h.constants i.constants);
    }

-- nothing but names and cells
pub declares_names : (l : Layer) (ns : Names) (o : Owned) (f : Frame) (d : List Noted) → Declares l (record l { names = ns ++ l.names; owned = o; frame = f; noted = d })
declares_names l ns o f d =
    record {
      names = ns;
      types = [];
      constants = [];
      same = ap (λ (ts : Compounds). placed l (ns ++ l.names) ts l.constants o f d) (sym (append-nil l.types))
          ∙ ap (λ (cs : List (List ℕ)). placed l (ns ++ l.names) (l.types ++ []) cs o f d) (sym (append-nil l.constants));
    }

pub declares_none : (l : Layer) → Declares l l
declares_none l = declares_names l [] l.owned l.frame l.noted

one_type : (l : Layer) (ts : Compounds) → Declares l (record l { types = l.types ++ ts })
one_type l ts = record { names = []; types = ts; constants = []; same = ap (λ (cs : List (List ℕ)). placed l l.names (l.types ++ ts) cs l.owned l.frame l.noted) (sym (append-nil l.constants)) }

one_constant : (l : Layer) (x : List ℕ) (b : CellBase) (z : ℤ) → Declares l (with_constant l x (meaning.Constant b z))
one_constant l x b z =
    record {
      names = (x, meaning.Constant b z) ∷ [];
      types = [];
      constants = x ∷ [];
      same = ap (λ (ts : Compounds). placed l ((x, meaning.Constant b z) ∷ l.names) ts (l.constants ++ x ∷ []) l.owned l.frame l.noted) (sym (append-nil l.types));
    }

-- ---- the small steps

declares_types : TypeSteps Declares (λ l. Unit {0}) (λ l t. Unit {0}) (λ l r. Unit {0})
declares_types = plain_types Declares declares_none declares_trans one_constant (λ l r t. one_type l _) (λ l r. one_type l _) (λ l x b z. declares_names l (_ ∷ []) l.owned l.frame _) (λ l x t. declares_names l (_ ∷ []) l.owned l.frame _)

declares_frames : FrameSteps Declares (λ l. Unit {0})
declares_frames = record { local_cells = λ l x t n. declares_names l (_ ∷ []) l.owned _ _; reference = λ l ps x t n. declares_names l (_ ∷ []) l.owned _ _; result = λ l t n. declares_names l [] l.owned _ l.noted }

with_declares : (l : Layer) (x : List ℕ) (t : CellType) (o : Option Contained) → Declares l (variable_with l x t o)
with_declares l x t None = declares_names l (_ ∷ []) _ l.frame _
with_declares l x t (Some c) = declares_names l (_ ∷ []) _ l.frame _

parameter_declares : (l : Layer) (ps : Parameters) (x : List ℕ) (t : CellType) → Declares l (system_parameter l ps x t).1
parameter_declares l ps x (types.Ordinal r) = declares_names l (_ ∷ []) _ l.frame _
parameter_declares l ps x _ = declares_names l (_ ∷ []) _ l.frame _

declares_systems : SystemSteps Declares (λ l. Unit {0}) (λ l t. Unit {0})
declares_systems = record { still = λ l m t h i. tt; permanent = λ l x t o i n. with_declares l x t o; parameter = λ l ps x t i n. parameter_declares l ps x t }

-- ---- whole declarations

pub type_declares : (l : Layer) (t : syntax.TypeTerm) → Declares l (written_type l t).1
type_declares l t = (type_leads declares_types l t tt).0

pub groups_declare : (l : Layer) (r : Fields) (gs : syntax.FieldGroups) → Declares l (field_groups l r gs).1
groups_declare l r gs = (groups_lead declares_types l r gs tt tt).0

pub constants_declare : (l : Layer) (ds : List syntax.ConstantDefinition) → Declares l (constants l ds)
constants_declare l ds = constants_lead declares_types l ds tt

pub definitions_declare : (l : Layer) (ds : List syntax.TypeDefinition) → Declares l (type_definitions l ds)
definitions_declare l ds = definitions_lead declares_types l ds tt

pub variable_declares : (l : Layer) (x : List ℕ) (t : CellType) → Declares l (variable l x t)
variable_declares l x t = with_declares l x t (components_of l.types t)

pub variables_of_declare : (l : Layer) (t : CellType) (is : List Identifier) → Declares l (variables_of l t is)
variables_of_declare l t is = variables_of_lead declares_types declares_systems l t is tt tt

pub variables_declare : (l : Layer) (gs : List syntax.VariableGroup) → Declares l (variables l gs)
variables_declare l gs = variables_lead declares_types declares_systems l gs tt

pub locals_of_declare : (l : Layer) (t : CellType) (is : List Identifier) → Declares l (locals_of l t is)
locals_of_declare l t is = locals_of_lead declares_types declares_frames l t is tt

pub locals_declare : (l : Layer) (gs : List syntax.VariableGroup) → Declares l (local_variables l gs)
locals_declare l gs = locals_lead declares_types declares_frames l gs tt

pub permanent_parts_declare : (l : Layer) (ps : List syntax.Part) → Declares l (permanent_parts l ps)
permanent_parts_declare l ps = permanent_parts_lead declares_types declares_systems l ps tt

pub local_parts_declare : (l : Layer) (ps : List syntax.Part) → Declares l (local_parts l ps)
local_parts_declare l ps = local_parts_lead declares_types declares_frames l ps tt

pub constant_parameters_declare : (l : Layer) (ps : Parameters) (t : CellType) (is : List Identifier) → Declares l (constant_parameters_of l ps t is).1
constant_parameters_declare l ps t is = constant_parameters_lead declares_types declares_frames l ps t is tt

pub constant_groups_declare : (l : Layer) (ps : Parameters) (gs : List syntax.Group) → Declares l (constant_groups l ps gs).1
constant_groups_declare l ps gs = constant_groups_lead declares_types declares_frames l ps gs tt

pub either_group_declares : (b : Bool) (l : Layer) (ps : Parameters) (g : syntax.Group) → Declares l (if b then var_group l ps g else constant_group l ps g).1
either_group_declares b l ps g = either_group_leads declares_types declares_frames b l ps g tt

pub parameter_groups_declare : (l : Layer) (ps : Parameters) (gs : List syntax.ParameterGroup) → Declares l (parameter_groups l ps gs).1
parameter_groups_declare l ps gs = parameter_groups_lead declares_types declares_frames l ps gs tt

pub heading_declares : (l : Layer) (x : List ℕ) (k : syntax.RoutineKind) → Declares l (heading l x k).1
heading_declares l x k = heading_leads declares_types declares_frames l x k tt

pub system_parameters_declare : (l : Layer) (ps : Parameters) (t : CellType) (is : List Identifier) → Declares l (system_parameters_of l ps t is).1
system_parameters_declare l ps t is = system_parameters_lead declares_types declares_systems l ps t is tt tt

pub system_groups_declare : (l : Layer) (ps : Parameters) (gs : List syntax.Group) → Declares l (system_groups l ps gs).1
system_groups_declare l ps gs = system_groups_lead declares_types declares_systems l ps gs tt
