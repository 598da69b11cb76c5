-- What accepted declarations have, of names that are declared once and of types that have few cells.
use Rattle.std.specs.Prelude.{◌≡◌, ◌≤◌, ℕ, zero, suc, false, List, [], ◌∷◌, Option, Some}
use Rattle.cp_tree.specs.Syntax.{Routine, Definition, type_definition, system_definition, ProgramPart, program_constants, program_types, program_variables, Program}
use Rattle.cp_symbols.specs.Kinds.{most}
use Rattle.cp_meaning.specs.Names.{Name, same_name}
use Rattle.cp_meaning.specs.Types.{Ty}
use Rattle.cp_meaning.specs.Scopes.{Meaning, local_variable, permanent_variable, Scope, find}
use Rattle.cp_meaning.specs.Declarations.{Variable, Parameter}
use Rattle.cp_meaning.specs.Systems.{system_of}
use Rattle.cp_resolved.specs.Layouts.{cells_of, is_parameter}
use Rattle.cp_resolved.specs.Small.{Each}
use Rattle.cp_resolved.specs.Valued.{IsFull}

-- ---- names

abbrev pub IsNoneOf : Name → List Routine → Type 0
IsNoneOf x rs = Each (λ (r : Routine). same_name x r.name.name ≡ false) rs

-- no two routines have one name
abbrev pub AreOnce : List Routine → Type 0
AreOnce [] = Unit {0}
AreOnce (r ∷ rs) = IsNoneOf r.name.name rs × AreOnce rs

abbrev pub IsOnceDefinition : Definition → Type 0
IsOnceDefinition (type_definition t) = Unit {0}
IsOnceDefinition (system_definition s) = AreOnce s.routines

abbrev pub IsOncePart : ProgramPart → Type 0
IsOncePart (program_constants at ds) = Unit {0}
IsOncePart (program_types at ds) = Each (λ d. IsOnceDefinition d.value) ds
IsOncePart (program_variables at gs) = Unit {0}

-- no variable has the name of a parameter
abbrev pub AreOthers : List Parameter → List Variable → Type 0
AreOthers qs vs = Each (λ (v : Variable). is_parameter v.name qs ≡ false) vs

pub record IsOnce (p : Program) : Type 0 where
  pub routines : Each IsOncePart p.parts
  pub variables : (k : ℕ) → AreOthers (system_of p k).parameters (system_of p k).variables

-- ---- types of variables

abbrev pub IsSized : Ty → Type 0
IsSized t = (cells_of t ≤ most) × IsFull t

abbrev pub IsSizedMeaning : Option Meaning → Type 0
IsSizedMeaning (Some (local_variable t)) = IsSized t
IsSizedMeaning (Some (permanent_variable t)) = IsSized t
IsSizedMeaning o = Unit {0}

-- of each variable that is visible
abbrev pub AreSized : Scope → Type 0
AreSized s = (x : Name) → IsSizedMeaning (find x s)

-- ---- names that are spelled: none begins with the code 0

abbrev pub IsWord : Name → Type 0
IsWord [] = Unit {0}
IsWord (zero ∷ cs) = ⊥
IsWord (suc n ∷ cs) = Unit {0}

abbrev pub AreWords : Scope → Type 0
AreWords s = Each (λ d. IsWord d.0) s
