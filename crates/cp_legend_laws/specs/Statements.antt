-- What the laws say of the names of components.
use Rattle.std.specs.Prelude.{◌≡◌, ◌+◌, ◌<◌, ◌≤◌, ℕ, ℤ, List, [], ◌∷◌, length, Some, map, slice_get, unwrap_or}
use Rattle.cp_tree.specs.Read.{IsRead}
use Rattle.cp_tree.specs.Syntax.{Tree}
use Rattle.cp_symbols.specs.declared.symbols.Symbols as code_symbols
use Rattle.cp_slots.specs.Tables.{RoutineView, Tables}
use Rattle.cp_layout.specs.Laid.{plain, laid, whole}
use Rattle.cp_layout.specs.Symbols.{AreSymbolsOf}
use Rattle.cp_meaning.specs.Components as language
use Rattle.cp_meaning_laws.specs.Accepted.{IsAccepted}
use Rattle.cp_legend.specs.declared.legend.Legend as code_legend
use Rattle.cp_legend.specs.Names as legend
use Rattle.cp_legend.specs.Names.{IsLegendOf, Named, RoutineNames, component_seen, components_of, legend_seen, routine_names_seen, source_seen}
use Rattle.cp_legend.specs.Places.{local_name_in, permanent_name_in, variables_at}
use Rattle.cp_legend.specs.Values.{value_of}
use Rattle.cp_meaning.specs.Declarations.{Parameter, Variable}
use Rattle.cp_meaning.specs.Names.{Name}
use Rattle.cp_meaning.specs.Systems.{program_system}
use Rattle.cp_meaning.specs.Types.{Ty}
use Rattle.cp_meaning.specs.Values.{Choice, Value}
use Rattle.cp_symbols.specs.declared.kinds.CellType.{CellType}
use Rattle.cp_symbols.specs.Kinds.{Compounds, most}
use Rattle.cp_resolved.specs.Encoded.{HasType, chosen_at, encode}
use Rattle.cp_resolved.specs.InStep.{TypeIs}
use Rattle.cp_resolved.specs.Layouts.{cell_named, cells_of, look}
use Rattle.cp_resolved.specs.Openings.{Opening, meaning_at, numbering_of, openings_of}
use Rattle.cp_resolved.specs.Resolved.{StandsAt}
use Rattle.cp_resolved.specs.Small.{Each}
use Rattle.cp_resolved.specs.TreeLayouts.{layouts_of}
use Rattle.cp_legend_laws.specs.Called.{all_called, called_in_legend, tabled}
use Rattle.cp_legend_laws.specs.Paths.{called_in_language}
use Rattle.cp_legend_laws.specs.PlacesTold.{part_text}
use Rattle.cp_legend_laws.specs.Routines.{RoutineIsTold, local_name, own_variables}
use Rattle.cp_legend_laws.specs.ValuesTold.{value_told}

-- The legend of a tree has all components of its tables, in their order, each under the path of a declared part of the system type that it has in the tables.
pub record ComponentsLineUp (t : Tree) (s : code_symbols.Symbols) : Type 0 where
  pub tables : map tabled (components_of (source_seen s) (laid t).components) ≡ (laid t).components
  pub declared : map called_in_legend (components_of (source_seen s) (laid t).components) ≡ all_called (source_seen s)

-- of each tree
abbrev pub ComponentsLaw : Type 0
ComponentsLaw = (t : Tree) (s : code_symbols.Symbols) → AreSymbolsOf s (whole t) → ComponentsLineUp t s

-- They are the components of the language in its order, each with its system type, under the text of its path.
pub record PathsAre (t : Tree) (s : code_symbols.Symbols) : Type 0 where
  pub paths : map called_in_legend (components_of (source_seen s) (laid t).components) ≡ map (called_in_language t.program) (language.components_of t.program)

-- of each tree that was read and breaks no rule
abbrev pub PathsLaw : Type 0
PathsLaw = (t : Tree) (s : code_symbols.Symbols) → IsRead t.program → IsAccepted t → AreSymbolsOf s (whole t) → PathsAre t s

-- So these are the components of a legend that stands beside tables: each is the one of the tables at its number, and has the name that the language gives it.
pub record ComponentsAreNamed (t : Tree) (r : Tables) (l : code_legend.Legend) : Type 0 where
  pub tables : map tabled (map component_seen l.components.items) ≡ r.components
  pub paths : map called_in_legend (map component_seen l.components.items) ≡ map (called_in_language t.program) (language.components_of t.program)

-- of each legend of the tables and symbols of a tree that was read and breaks no rule
abbrev pub LegendLaw : Type 0
LegendLaw = (t : Tree) (s : code_symbols.Symbols) (r : Tables) (l : code_legend.Legend) → IsRead t.program → IsAccepted t → AreSymbolsOf s (whole t) → plain r ≡ laid t → IsLegendOf l (source_seen s) r.components → ComponentsAreNamed t r l

-- ---- routines

-- the name of a routine; an initial statement has none
abbrev pub routine_text : Opening → List ℕ
routine_text o = unwrap_or o.name []

-- The tables and the legend have the routines and initial statements of the tree in one order: each with the system type that it belongs to, and under the name that it is declared by.
pub record RoutinesAreNamed (t : Tree) (r : Tables) (l : code_legend.Legend) : Type 0 where
  pub tables : map (λ (v : RoutineView). v.system) r.routines ≡ map (λ (o : Opening). o.owner) (openings_of t.program)
  pub names : map (λ (n : RoutineNames). n.name) (map routine_names_seen l.routines.items) ≡ map routine_text (openings_of t.program)

-- of each legend of the tables and symbols of a tree that was read and breaks no rule
abbrev pub RoutinesLaw : Type 0
RoutinesLaw = (t : Tree) (s : code_symbols.Symbols) (r : Tables) (l : code_legend.Legend) → IsRead t.program → IsAccepted t → AreSymbolsOf s (whole t) → plain r ≡ laid t → IsLegendOf l (source_seen s) r.components → RoutinesAreNamed t r l

-- ---- permanent variables

-- A variable of the legend is one of a system type: it has its name, begins with its cell by the layouts of the tree, and has its type.
pub record IsVariable (t : Tree) (ts : Compounds) (system : ℕ) (v : Variable) (w : legend.Variable) : Type 0 where
  pub name : w.name ≡ v.name
  pub slot : w.slot ≡ ((layouts_of t).systems system).slots v.name
  pub shape : TypeIs (numbering_of t.program) ts v.ty w.shape

abbrev pub AreVariables : Tree → Compounds → (system : ℕ) → List Variable → List legend.Variable → Type 0
AreVariables t ts k [] [] = Unit {0}
AreVariables t ts k (v ∷ vs) (w ∷ ws) = IsVariable t ts k v w × AreVariables t ts k vs ws
AreVariables t ts k [] (w ∷ ws) = ⊥
AreVariables t ts k (v ∷ vs) [] = ⊥

-- Of each system type, and of the program, these are in their order the variables and the parameters with values that the layouts of the tree have.
abbrev pub PermanentsAre : Tree → legend.Legend → Type 0
PermanentsAre t l = (k : ℕ) → k ≤ program_system t.program → AreVariables t l.shapes k ((layouts_of t).systems k).variables (variables_at l.permanents k)

abbrev pub PermanentsLaw : Type 0
PermanentsLaw = (t : Tree) (s : code_symbols.Symbols) (r : Tables) (l : code_legend.Legend) → IsRead t.program → IsAccepted t → AreSymbolsOf s (whole t) → plain r ≡ laid t → IsLegendOf l (source_seen s) r.components → PermanentsAre t (legend_seen l)

-- ---- the parameters and variables of routines

-- Each routine of the legend is told with the parameters, variables and the result of the language's.
abbrev pub RoutinesAreTold : Tree → legend.Legend → Type 0
RoutinesAreTold t l = (n : ℕ) (r : RoutineNames) → slice_get l.routines n ≡ Some r → RoutineIsTold t l.shapes n r

abbrev pub LocalsLaw : Type 0
LocalsLaw = (t : Tree) (s : code_symbols.Symbols) (r : Tables) (l : code_legend.Legend) → IsRead t.program → IsAccepted t → AreSymbolsOf s (whole t) → plain r ≡ laid t → IsLegendOf l (source_seen s) r.components → RoutinesAreTold t (legend_seen l)

-- ---- values

-- Wherever the cells of a value of this type stand, they are told as this value.
abbrev pub IsTold : Tree → legend.Legend → Ty → Type 0
IsTold t l u =
    (shape : CellType) (w : Value) (cells : List ℤ) (at : ℕ) → TypeIs (numbering_of t.program) l.shapes u shape → HasType u w → StandsAt cells at (encode w) → length cells ≤ most →
    value_of l.constants l.shapes cells shape at ≡ value_told u w

-- of the type of each permanent variable of a system type, and of each parameter and variable of a routine
pub record ValuesAreTold (t : Tree) (l : legend.Legend) : Type 0 where
  pub permanents : (k : ℕ) (x : Name) (u : Ty) → k ≤ program_system t.program → look x ((layouts_of t).systems k).variables ≡ Some u → IsTold t l u
  pub parameters : (n : ℕ) → n < length (openings_of t.program) → Each (λ (q : Parameter). IsTold t l q.ty) (meaning_at t.program n).parameters
  pub locals : (n : ℕ) → n < length (openings_of t.program) → Each (λ (v : Variable). IsTold t l v.ty) (own_variables (meaning_at t.program n))

abbrev pub ValuesLaw : Type 0
ValuesLaw = (t : Tree) (s : code_symbols.Symbols) (r : Tables) (l : code_legend.Legend) → IsRead t.program → IsAccepted t → AreSymbolsOf s (whole t) → plain r ≡ laid t → IsLegendOf l (source_seen s) r.components → ValuesAreTold t (legend_seen l)

-- ---- places

-- in a routine, the cells of each part of a variable are told under its name
abbrev pub LocalIsNamed : Tree → legend.Legend → (routine : ℕ) → RoutineNames → Variable → Type 0
LocalIsNamed t l n r v =
    (cs : List Choice) (i : ℕ) (u : Ty) → chosen_at v.ty cs ≡ Some (i, u) →
    local_name_in l.constants l.shapes (Some r) (cell_named ((layouts_of t).frames n) v.name + i) (cells_of u) ≡ part_text (local_name r.name v.name) v.ty cs

pub record PlacesAreNamed (t : Tree) (l : legend.Legend) : Type 0 where
  -- in a component, the cells of each part of a permanent variable
  pub permanents : (c : Named) (x : Name) (w : Ty) (cs : List Choice) (i : ℕ) (u : Ty) → c.system ≤ program_system t.program → look x ((layouts_of t).systems c.system).variables ≡ Some w → chosen_at w cs ≡ Some (i, u) →
      permanent_name_in l.constants l.shapes l.permanents (Some c) (c.base + (((layouts_of t).systems c.system).slots x + i)) (cells_of u) ≡ part_text x w cs
  pub locals : (n : ℕ) (r : RoutineNames) → slice_get l.routines n ≡ Some r → Each (LocalIsNamed t l n r) (own_variables (meaning_at t.program n))

abbrev pub PlacesLaw : Type 0
PlacesLaw = (t : Tree) (s : code_symbols.Symbols) (r : Tables) (l : code_legend.Legend) → IsRead t.program → IsAccepted t → AreSymbolsOf s (whole t) → plain r ≡ laid t → IsLegendOf l (source_seen s) r.components → PlacesAreNamed t (legend_seen l)
