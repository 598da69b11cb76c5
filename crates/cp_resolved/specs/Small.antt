-- What holds of the numbers of each tree that spells tokens: they are at most 32,767, and the codes of characters at most 127.
use Rattle.std.specs.Prelude.{◌≡◌, false, ℕ, ◌+◌, ◌≤◌, List, [], ◌∷◌, length}
use Rattle.cp_tree.specs.declared.constant.ConstantKind.{ConstantKind}
use Rattle.cp_tree.specs.declared.constant.ConstantKind.TheVariants as constant_kind
use Rattle.cp_tree.specs.Syntax.{Simple, type_name, enumeration, subrange, TypeTerm, simple, array_of, set_type, record_of, FieldGroups, no_fields, more_fields, FieldGroup, fields, Part, constants, types, variables, Routine, System, Definition, type_definition, system_definition, Group, ProgramPart, program_constants, program_types, program_variables, Program}
use Rattle.cp_meaning.specs.Types.{Ty, array_over, has_components}
use Rattle.cp_meaning.specs.Scopes.{permanent_variable}
use Rattle.cp_meaning.specs.Declarations.{Heading, with_group, type_named}
use Rattle.cp_resolved.specs.Enumerations.{Enumerated}

abbrev pub Each : {A : Type 0} → (A → Type 0) → List A → Type 0
Each P [] = Unit {0}
Each P (x ∷ xs) = P x × Each P xs

abbrev pub IsSmallConstant : ConstantKind → Type 0
IsSmallConstant (constant_kind.Number s n) = n ≤ 32767
IsSmallConstant (constant_kind.Name s i) = Unit {0}
IsSmallConstant (constant_kind.Character c) = c ≤ 127

abbrev pub IsSmallSimple : Simple → Type 0
IsSmallSimple (type_name at x) = Unit {0}
IsSmallSimple (enumeration at is) = Unit {0}
IsSmallSimple (subrange at c d) = IsSmallConstant c.kind × IsSmallConstant d.kind

abbrev mutual
  pub IsSmallType : TypeTerm → Type 0
  IsSmallType (simple at t) = IsSmallSimple t
  IsSmallType (array_of at i t) = IsSmallSimple i × IsSmallType t
  IsSmallType (set_type at t) = IsSmallSimple t
  IsSmallType (record_of at gs b) = AreSmallGroups gs

  pub AreSmallGroups : FieldGroups → Type 0
  AreSmallGroups no_fields = Unit {0}
  AreSmallGroups (more_fields g gs) = IsSmallGroup g × AreSmallGroups gs

  pub IsSmallGroup : FieldGroup → Type 0
  IsSmallGroup (fields is t) = IsSmallType t

abbrev pub IsSmallPart : Part → Type 0
IsSmallPart (constants at ds) = Each (λ d. IsSmallConstant d.value.kind) ds
IsSmallPart (types at ds) = Each (λ d. IsSmallType d.value) ds
IsSmallPart (variables at gs) = Each (λ g. IsSmallType g.variable_type) gs

abbrev pub IsSmallRoutine : Routine → Type 0
IsSmallRoutine r = Each IsSmallPart r.parts

abbrev pub IsSmallSystem : System → Type 0
IsSmallSystem s = Each IsSmallPart s.parts × Each IsSmallRoutine s.routines

abbrev pub IsSmallDefinition : Definition → Type 0
IsSmallDefinition (type_definition t) = IsSmallType t
IsSmallDefinition (system_definition s) = IsSmallSystem s

abbrev pub IsSmallProgramPart : ProgramPart → Type 0
IsSmallProgramPart (program_constants at ds) = Each (λ d. IsSmallConstant d.value.kind) ds
IsSmallProgramPart (program_types at ds) = Each (λ d. IsSmallDefinition d.value) ds
IsSmallProgramPart (program_variables at gs) = Each (λ g. IsSmallType g.variable_type) gs

abbrev pub IsSmallProgram : Program → Type 0
IsSmallProgram p = Each IsSmallProgramPart p.parts × Each IsSmallRoutine p.routines

-- The constants of each enumeration are numbered in the order of the enumerations, from a number on; and there are few of them.
abbrev pub AreNumbered : (ℕ → ℕ) → ℕ → List Enumerated → Type 0
AreNumbered firsts n [] = Unit {0}
AreNumbered firsts n (e ∷ es) = (firsts e.at ≡ n) × (n ≤ 65535) × (length e.names ≤ 32768) × AreNumbered firsts (n + length e.names) es

-- ---- what else an accepted program has

-- a parameter of a system type is no array of components
abbrev pub IsParameter : Ty → Type 0
IsParameter (array_over r t) = has_components (array_over r t) ≡ false
IsParameter t = Unit {0}

abbrev pub AreParameters : Heading → List Group → Type 0
AreParameters h [] = Unit {0}
AreParameters h (g ∷ gs) = IsParameter (type_named h.scope g.type_name.name) × AreParameters (with_group permanent_variable false h g) gs
