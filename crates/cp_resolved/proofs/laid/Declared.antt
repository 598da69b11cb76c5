-- Constants, types, variables and parameters change names, types and frames alone, and their names lead to what is there.
use Rattle.std.proofs.Common.{◌≡◌, ℕ, ℤ, List, [], ◌∷◌, ◌++◌, length, Option, Some, None, slice_get, refl, sym, ap, subst, ◌∙◌, ◌⊎◌, inl, inr, arith}
use Rattle.cp_resolved.proofs.Words.{CellBase, CellType, LayoutMeaning, Contained, CellRange}
use Rattle.cp_tree.specs.Syntax.{ConstantDefinition, VariableGroup, Part, Group, RoutineKind, TypeTerm}
use Rattle.cp_symbols.specs.declared.kinds.CellType.TheVariants as types
use Rattle.cp_symbols.specs.declared.names.LayoutMeaning.TheVariants as meaning
use Rattle.cp_layout.specs.declared.layer.Content.TheVariants as content
use Rattle.cp_symbols.specs.Kinds.{Compound, array, record_with, cells_of}
use Rattle.cp_layout.specs.Kinds.{Fields, array_type}
use Rattle.cp_layout.specs.Layers.{Layer, with_name}
use Rattle.cp_layout.specs.LaidTypes.{type_of_name, with_constant, written_type, with_array_type, with_record_type}
use Rattle.cp_layout.specs.LaidDeclarations.{Parameters, constants, cell_variable, variable_with, variables, local_at, permanent_parts, local_parts, var_parameter, heading, system_parameter, system_groups}
use Rattle.cp_resolved.proofs.names.Entries.{last_or_before}
use Rattle.cp_resolved.proofs.systems.Sized.{Resized, resized_same, resized_trans, resized_cells, resized_component, resized_type, FieldsFit, fields_resized, fields_of_fit}
use Rattle.cp_resolved.proofs.systems.Sizes.{Counts}
use Rattle.cp_resolved.proofs.systems.Owning.{OwnedStep, step_same, step_trans, cells_step, contained_step, component_step}
use Rattle.cp_resolved.proofs.laid.Named.{IsType, IsMeaning, IsCompound, Named}
use Rattle.cp_resolved.proofs.laid.Declaring.{latest_type, TypeSteps, FrameSteps, SystemSteps, type_leads, constants_lead, variables_lead, permanent_parts_lead, local_parts_lead, heading_leads, system_groups_lead}

-- with other names, notes, types, headings, permanent variables and another frame
abbrev pub redeclared : Layer → Layer → Layer
redeclared l m = record l { names = m.names; types = m.types; headings = m.headings; constants = m.constants; owned = m.owned; frame = m.frame; noted = m.noted; is_inside = m.is_inside }

pub record Declared (l m : Layer) : Type 0 where
  pub same : m ≡ redeclared l m
  pub named : Named m
  pub owned : OwnedStep l.owned m.owned
  pub sizes : Resized l m

pub declared_same : (l : Layer) → Named l → Declared l l
declared_same l n = record { same = refl; named = n; owned = step_same l.owned; sizes = resized_same l _ refl refl refl refl }

pub declared_trans : (l k m : Layer) → Declared l k → Declared k m → Declared l m
declared_trans l k m h i = record { same = i.same ∙ ap (λ (j : Layer). redeclared j m) h.same; named = i.named; owned = step_trans l.owned k.owned m.owned h.owned i.owned; sizes = resized_trans l k m h.sizes i.sizes }

pub then_declared : (l k m : Layer) → Declared l k → (Named k → Declared k m) → Declared l m
then_declared l k m h f = declared_trans l k m h (f h.named)

-- a type that is made, and the state after it
pub record Typed (l : Layer) (x : CellType × Layer) : Type 0 where
  pub declared : Declared l x.1
  pub is : IsType (length x.1.systems) x.0

pub name_declared : (l : Layer) (x : List ℕ) (m : LayoutMeaning) → IsMeaning (length l.systems) (length l.routines) m → Named l → Declared l (with_name l x m)
name_declared l x m h n = record { same = refl; named = record { names = (h, n.names); types = n.types; systems = n.systems }; owned = step_same l.owned; sizes = resized_same l _ refl refl refl refl }

-- ---- types

pub named_there : (l : Layer) (x : List ℕ) → Named l → IsType (length l.systems) (type_of_name l x)
named_there l x n = latest_type (IsType (length l.systems)) (IsMeaning (length l.systems) (length l.routines)) (λ v i. i) tt x l.names n.names

constant_declared : (l : Layer) (x : List ℕ) (b : CellBase) (z : ℤ) → Named l → Declared l (with_constant l x (meaning.Constant b z))
constant_declared l x b z n = record { same = refl; named = record { names = (tt, n.names); types = n.types; systems = n.systems }; owned = step_same l.owned; sizes = resized_same l _ refl refl refl refl }

compound_declared : (l : Layer) (c : Compound) → IsCompound (length l.systems) c → Counts l.types c → Named l → Declared l (let m : Layer = record l { types = l.types ++ c ∷ [] } in m)
compound_declared l c h q n = record { same = refl; named = record { names = n.names; types = λ k d e. go k d (last_or_before l.types c k d e); systems = n.systems }; owned = step_same l.owned; sizes = resized_type l c q }
  where
    go : (k : ℕ) (d : Compound) → (slice_get l.types k ≡ Some d) ⊎ ((k ≡ length l.types) × (d ≡ c)) → IsCompound (length l.systems) d
    go k d (inl e) = n.types k d e
    go k d (inr e) = subst (IsCompound (length l.systems)) (sym e.1) h

array_typed : (l : Layer) (i : CellRange) (t : CellType) → IsType (length l.systems) t → Named l → Typed l (with_array_type l i t)
array_typed l i t h n = record { declared = compound_declared l (array (array_type l.types i t)) h (omega arith) n; is = tt }

record_typed : (l : Layer) (r : Fields) → FieldsFit l r → Named l → Typed l (with_record_type l r)
record_typed l r h n = record { declared = compound_declared l (record_with r.fields r.cells) tt h n; is = tt }

-- ---- variables

cell_declared : (l : Layer) (x : List ℕ) (t : CellType) → Named l → Declared l (cell_variable l x t).1
cell_declared l x t n = record { same = refl; named = record { names = (tt, n.names); types = n.types; systems = n.systems }; owned = cells_step l.owned (cells_of l.types t) (l.owned.contents ++ content.Variable t ∷ []); sizes = resized_cells l _ t refl refl refl refl }

variable_with_declared : (l : Layer) (x : List ℕ) (t : CellType) (o : Option Contained) → IsType (length l.systems) t → Named l → Declared l (variable_with l x t o)
variable_with_declared l x t None h n = cell_declared l x t n
variable_with_declared l x t (Some c) h n = record { same = refl; named = record { names = (h, n.names); types = n.types; systems = n.systems }; owned = contained_step l.owned _ _; sizes = resized_same l _ refl refl refl refl }

-- a type of a state is one of the later state
still_type : (l m : Layer) (t : CellType) → Declared l m → IsType (length l.systems) t → IsType (length m.systems) t
still_type l m t h i = subst (λ (j : Layer). IsType (length j.systems) t) (sym h.same) i

local_declared : (l : Layer) (x : List ℕ) (t : CellType) → Named l → Declared l (local_at l x t).1
local_declared l x t n = record { same = refl; named = record { names = (tt, n.names); types = n.types; systems = n.systems }; owned = step_same l.owned; sizes = resized_same l _ refl refl refl refl }

var_declared : (l : Layer) (ps : Parameters) (x : List ℕ) (t : CellType) → Named l → Declared l (var_parameter l ps x t).1
var_declared l ps x t n = record { same = refl; named = record { names = (tt, n.names); types = n.types; systems = n.systems }; owned = step_same l.owned; sizes = resized_same l _ refl refl refl refl }

system_parameter_declared : (l : Layer) (ps : Parameters) (x : List ℕ) (t : CellType) → IsType (length l.systems) t → Named l → Declared l (system_parameter l ps x t).1
system_parameter_declared l ps x (types.System k) h n = record { same = refl; named = record { names = (h, n.names); types = n.types; systems = n.systems }; owned = component_step l.owned k (l.owned.contents ++ content.Component ∷ []); sizes = resized_component l _ refl refl refl refl }
system_parameter_declared l ps x t h n = cell_declared l x t n

-- ---- the small steps

declared_types : TypeSteps Declared Named (λ l t. IsType (length l.systems) t) FieldsFit
declared_types =
    record {
      same = declared_same;
      both = declared_trans;
      after = λ l m h. h.named;
      named = named_there;
      ordinal = λ l r. tt;
      set = λ l r. tt;
      element = constant_declared;
      array = λ l r t i n. (compound_declared l (array (array_type l.types r t)) i (omega arith) n, tt);
      none = λ l. omega arith;
      group = λ l m r is t h i q. fields_of_fit m r is t (fields_resized l m r h.sizes q);
      record_type = λ l r q n. (compound_declared l (record_with r.fields r.cells) tt q n, tt);
      constant_name = λ l x b z n. name_declared l x (meaning.Constant b z) tt n;
      type_name = λ l x t i n. name_declared l x (meaning.Kind t) i n;
    }

declared_frames : FrameSteps Declared Named
declared_frames =
    record {
      local_cells = local_declared;
      reference = var_declared;
      result = λ l t n. record { same = refl; named = record { names = n.names; types = n.types; systems = n.systems }; owned = step_same l.owned; sizes = resized_same l _ refl refl refl refl };
    }

declared_systems : SystemSteps Declared Named (λ l t. IsType (length l.systems) t)
declared_systems = record { still = still_type; permanent = variable_with_declared; parameter = system_parameter_declared }

-- ---- whole declarations

pub written_typed : (l : Layer) (t : TypeTerm) → Named l → Typed l (written_type l t)
written_typed l t n = let x = type_leads declared_types l t n in record { declared = x.0; is = x.1 }

pub constants_declared : (l : Layer) (ds : List ConstantDefinition) → Named l → Declared l (constants l ds)
constants_declared l ds n = constants_lead declared_types l ds n

pub variables_declared : (l : Layer) (gs : List VariableGroup) → Named l → Declared l (variables l gs)
variables_declared l gs n = variables_lead declared_types declared_systems l gs n

pub permanent_declared : (l : Layer) (ps : List Part) → Named l → Declared l (permanent_parts l ps)
permanent_declared l ps n = permanent_parts_lead declared_types declared_systems l ps n

pub local_parts_declared : (l : Layer) (ps : List Part) → Named l → Declared l (local_parts l ps)
local_parts_declared l ps n = local_parts_lead declared_types declared_frames l ps n

pub heading_declared : (l : Layer) (x : List ℕ) (k : RoutineKind) → Named l → Declared l (heading l x k).1
heading_declared l x k n = heading_leads declared_types declared_frames l x k n

pub system_groups_declared : (l : Layer) (ps : Parameters) (gs : List Group) → Named l → Declared l (system_groups l ps gs).1
system_groups_declared l ps gs n = system_groups_lead declared_types declared_systems l ps gs n
