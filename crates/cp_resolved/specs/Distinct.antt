-- What accepted declarations have, of the names that are declared in one routine or system type.
use Rattle.std.specs.Prelude.{◌≡◌, ℕ, false, List, [], ◌∷◌, ◌++◌}
use Rattle.cp_tree.specs.Syntax.{Simple, type_name, enumeration, subrange, TypeTerm, simple, array_of, set_type, record_of, FieldGroups, no_fields, more_fields, fields, Part, constants, types, variables, RoutineKind, procedure, function, invariants, Routine, System, Definition, type_definition, system_definition, ProgramPart, program_constants, program_types, program_variables, Program}
use Rattle.cp_meaning.specs.Names.{Name, same_name}
use Rattle.cp_meaning.specs.Types.{Ty, component_of}
use Rattle.cp_meaning.specs.Declarations.{names_of, Parameter}
use Rattle.cp_resolved.specs.Openings.{meaning_at}
use Rattle.cp_resolved.specs.Small.{Each}

-- ---- names

abbrev pub IsOther : Name → List Name → Type 0
IsOther x ys = Each (λ y. same_name x y ≡ false) ys

-- no two are one name
abbrev pub AreDistinct : List Name → Type 0
AreDistinct [] = Unit {0}
AreDistinct (x ∷ xs) = IsOther x xs × AreDistinct xs

abbrev pub all_names : {A : Type 0} → (A → List Name) → List A → List Name
all_names f [] = []
all_names f (x ∷ xs) = f x ++ all_names f xs

-- ---- what is declared

-- a type declares the constants of the enumerations in it
abbrev pub simple_names : Simple → List Name
simple_names (type_name at x) = []
simple_names (enumeration at is) = names_of is
simple_names (subrange at c d) = []

abbrev mutual
  pub type_names : TypeTerm → List Name
  type_names (simple at t) = simple_names t
  type_names (array_of at i t) = simple_names i ++ type_names t
  type_names (set_type at t) = simple_names t
  type_names (record_of at gs b) = groups_names gs

  pub groups_names : FieldGroups → List Name
  groups_names no_fields = []
  groups_names (more_fields (fields is t) gs) = type_names t ++ groups_names gs

abbrev pub part_names : Part → List Name
part_names (constants at ds) = all_names (λ d. d.name.name ∷ []) ds
part_names (types at ds) = all_names (λ d. type_names d.value ++ d.name.name ∷ []) ds
part_names (variables at gs) = all_names (λ g. type_names g.variable_type ++ names_of g.names) gs

-- the parameters of a routine
abbrev pub kind_names : RoutineKind → List Name
kind_names (procedure gs) = all_names (λ g. names_of g.group.names) gs
kind_names (function gs i) = all_names (λ g. names_of g.names) gs
kind_names invariants = []

-- of a system type
abbrev pub parameter_names : System → List Name
parameter_names s = all_names (λ g. names_of g.names) s.parameters

-- ---- declared once

-- parameters have different names, and nothing that is declared after them has one of these
pub record AreApart (xs : List Name) (ps : List Part) : Type 0 where
  pub parameters : AreDistinct xs
  pub others : Each (λ x. IsOther x (all_names part_names ps)) xs

abbrev pub IsDistinctRoutine : Routine → Type 0
IsDistinctRoutine r = AreApart (kind_names r.kind) r.parts

abbrev pub IsDistinctSystem : System → Type 0
IsDistinctSystem s = AreApart (parameter_names s) s.parts × Each IsDistinctRoutine s.routines

abbrev pub IsDistinctDefinition : Definition → Type 0
IsDistinctDefinition (type_definition t) = Unit {0}
IsDistinctDefinition (system_definition s) = IsDistinctSystem s

abbrev pub IsDistinctPart : ProgramPart → Type 0
IsDistinctPart (program_constants at ds) = Unit {0}
IsDistinctPart (program_types at ds) = Each (λ d. IsDistinctDefinition d.value) ds
IsDistinctPart (program_variables at gs) = Unit {0}

-- ---- types of parameters

abbrev pub IsNoComponent : Ty → Type 0
IsNoComponent (component_of n) = ⊥
IsNoComponent t = Unit {0}

-- no parameter of a routine is a component
abbrev pub AreValues : List Parameter → Type 0
AreValues qs = Each (λ (q : Parameter). IsNoComponent q.ty) qs

pub record IsDistinct (p : Program) : Type 0 where
  pub parts : Each IsDistinctPart p.parts
  pub routines : Each IsDistinctRoutine p.routines
  pub values : (n : ℕ) → AreValues (meaning_at p n).parameters
