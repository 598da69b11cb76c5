-- The routines and initial statements of a program in the order in which the tables number them, each with what it means.
use Rattle.std.specs.Prelude.{◌≡◌, ℕ, suc, List, [], ◌∷◌, ◌++◌, length, Option, Some, None, slice_get}
use Rattle.cp_tree.specs.Syntax.{Routine, System, Definition, type_definition, system_definition, SystemDefinition, ProgramPart, program_constants, program_types, program_variables, Program}
use Rattle.cp_meaning.specs.Names.{Name}
use Rattle.cp_meaning.specs.Scopes.{Scope, permanent_variable, routine_meaning, predeclared, seen_inside}
use Rattle.cp_meaning.specs.Declarations.{with_groups, parts_in, RoutineMeaning, routine_in}
use Rattle.cp_meaning.specs.Systems.{SystemMeaning, system_in, Declared, definition_in, program_part_in, declared, program_system, own_meaning}
use Rattle.cp_resolved.specs.Resolved.{initial_meaning}
use Rattle.cp_resolved.specs.Enumerations.{constants_before}
use Rattle.cp_resolved.specs.InStep.{Numbering}

-- what it means, the system type that it belongs to, and the name of a routine
pub record Opening : Type 0 where
  pub meaning : RoutineMeaning
  pub owner : ℕ
  pub name : Option Name

abbrev pub with_routine : Scope → Routine → Scope
with_routine s r = (r.name.name, routine_meaning r) ∷ s

abbrev pub routine_openings : (owner : ℕ) → Scope → List Routine → List Opening
routine_openings k s [] = []
routine_openings k s (r ∷ rs) = (let o : Opening = record { meaning = routine_in (with_routine s r) r; owner = k; name = Some r.name.name } in o) ∷ routine_openings k (with_routine s r) rs

-- the initial statement is the last
abbrev pub initial_opening : (owner : ℕ) → SystemMeaning → Opening
initial_opening k m = record { meaning = initial_meaning m; owner = k; name = None }

-- the scope of a system type's routines, in the scope before its declaration
abbrev pub parts_scope : Scope → System → Scope
parts_scope s d = (parts_in permanent_variable (record { variables = []; scope = (with_groups permanent_variable (record { parameters = []; scope = s }) d.parameters).scope }) d.parts).scope

abbrev pub system_openings : (owner : ℕ) → Scope → System → List Opening
system_openings k s d = routine_openings k (parts_scope s d) d.routines ++ initial_opening k (system_in s d) ∷ []

abbrev pub definition_openings : Declared → Definition → List Opening
definition_openings d (type_definition t) = []
definition_openings d (system_definition s) = system_openings (length d.systems) (seen_inside d.scope) s

abbrev pub definitions_openings : Declared → List SystemDefinition → List Opening
definitions_openings d [] = []
definitions_openings d (n ∷ ns) = definition_openings d n.value ++ definitions_openings (definition_in d n n.value) ns

abbrev pub part_openings : Declared → ProgramPart → List Opening
part_openings d (program_constants at ds) = []
part_openings d (program_types at ns) = definitions_openings d ns
part_openings d (program_variables at gs) = []

abbrev pub parts_openings : Declared → List ProgramPart → List Opening
parts_openings d [] = []
parts_openings d (p ∷ ps) = part_openings d p ++ parts_openings (program_part_in d p) ps

-- those of the program itself come last
abbrev pub openings_of : Program → List Opening
openings_of p =
    parts_openings (record { systems = []; variables = []; scope = predeclared }) p.parts
    ++ (routine_openings (program_system p) (declared p).scope p.routines ++ initial_opening (program_system p) (own_meaning (declared p) p) ∷ [])

-- a numbering has these from a number on
abbrev pub AreOpened : (ℕ → RoutineMeaning) → ℕ → List Opening → Type 0
AreOpened f n [] = Unit {0}
AreOpened f n (o ∷ os) = (f n ≡ o.meaning) × AreOpened f (suc n) os

abbrev pub meaning_in : RoutineMeaning → Option Opening → RoutineMeaning
meaning_in other None = other
meaning_in other (Some o) = o.meaning

-- what the routine of a number is; of a number that is none, the program's initial statement
abbrev pub meaning_at : Program → ℕ → RoutineMeaning
meaning_at p n = meaning_in (initial_meaning (own_meaning (declared p) p)) (slice_get (openings_of p) n)

-- the numbering of a program: enumerations in reading order, routines in the order of the openings
abbrev pub numbering_of : Program → Numbering
numbering_of p = record { firsts = constants_before p; routines = meaning_at p }
