-- What accepted declarations of system types have.
use Rattle.std.specs.Prelude.{List, [], ◌∷◌}
use Rattle.cp_tree.specs.Syntax.{Definition, type_definition, system_definition, SystemDefinition, ProgramPart, program_constants, program_types, program_variables}
use Rattle.cp_meaning.specs.Scopes.{predeclared, seen_inside}
use Rattle.cp_meaning.specs.Systems.{Declared, definition_in, program_part_in}
use Rattle.cp_resolved.specs.Small.{AreParameters}

-- no parameter of a system type is an array of components
abbrev pub IsFitDefinition : Declared → Definition → Type 0
IsFitDefinition d (type_definition t) = Unit {0}
IsFitDefinition d (system_definition s) = AreParameters (record { parameters = []; scope = seen_inside d.scope }) s.parameters

abbrev pub AreFitDefinitions : Declared → List SystemDefinition → Type 0
AreFitDefinitions d [] = Unit {0}
AreFitDefinitions d (n ∷ ns) = IsFitDefinition d n.value × AreFitDefinitions (definition_in d n n.value) ns

abbrev pub IsFitPart : Declared → ProgramPart → Type 0
IsFitPart d (program_constants at ds) = Unit {0}
IsFitPart d (program_types at ns) = AreFitDefinitions d ns
IsFitPart d (program_variables at gs) = Unit {0}

abbrev pub AreFitParts : Declared → List ProgramPart → Type 0
AreFitParts d [] = Unit {0}
AreFitParts d (p ∷ ps) = IsFitPart d p × AreFitParts (program_part_in d p) ps

abbrev pub nothing_declared : Declared
nothing_declared = record { systems = []; variables = []; scope = predeclared }
