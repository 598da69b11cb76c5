-- The states of laying out in which the statements of routines begin, in the order in which the tables number the routines.
use Rattle.std.specs.Prelude.{List, [], ◌∷◌, ◌++◌, None}
use Rattle.cp_tree.specs.Syntax.{Routine, System, Definition, type_definition, system_definition, SystemDefinition, ProgramPart, program_constants, program_types, program_variables, Tree}
use Rattle.cp_layout.specs.Layers.{Layer, nothing_laid}
use Rattle.cp_layout.specs.LaidDeclarations as laid
use Rattle.cp_layout.specs.LaidDeclarations.{Parameters, heading, heading_with, with_new_frame, with_heading, open_routine, local_parts, enter_system, system_groups, permanent_parts, system_inside}

-- of a routine: after its name, its heading and its parts
abbrev pub routine_begun : Layer → Routine → Layer
routine_begun l r =
    let x = open_routine l r.name.name in
    let h = heading x.1 r.name.name r.kind in
    local_parts (with_heading h.1 h.0) r.parts

-- of an initial statement
abbrev pub initial_begun : Layer → Parameters → Layer
initial_begun l ps = with_heading (with_new_frame l) (heading_with [] ps None)

abbrev pub parameters_of : Layer → System → Parameters
parameters_of l s = (system_groups (enter_system l).1 [] s.parameters).0

-- the parts of a system type, after its parameters
abbrev pub parts_begun : Layer → System → Layer
parts_begun l s = permanent_parts (system_groups (enter_system l).1 [] s.parameters).1 s.parts

-- after its parts and its routines
abbrev pub system_begun : Layer → System → Layer
system_begun l s = system_inside (system_groups (enter_system l).1 [] s.parameters).1 s

abbrev pub routines_begun : Layer → List Routine → List Layer
routines_begun l [] = []
routines_begun l (r ∷ rs) = routine_begun l r ∷ routines_begun (laid.routine l r) rs

abbrev pub definition_begun : Layer → Definition → List Layer
definition_begun l (type_definition t) = []
definition_begun l (system_definition s) = routines_begun (parts_begun l s) s.routines ++ initial_begun (system_begun l s) (parameters_of l s) ∷ []

abbrev pub definitions_begun : Layer → List SystemDefinition → List Layer
definitions_begun l [] = []
definitions_begun l (d ∷ ds) = definition_begun l d.value ++ definitions_begun (laid.system_definition l d) ds

abbrev pub part_begun : Layer → ProgramPart → List Layer
part_begun l (program_constants at ds) = []
part_begun l (program_types at ds) = definitions_begun l ds
part_begun l (program_variables at gs) = []

abbrev pub program_parts_begun : Layer → List ProgramPart → List Layer
program_parts_begun l [] = []
program_parts_begun l (p ∷ ps) = part_begun l p ++ program_parts_begun (laid.program_part l p) ps

-- all of a tree; the initial statement of the program is the last
abbrev pub all_begun : Tree → List Layer
all_begun t =
    let l = laid.program_parts (nothing_laid t.lines) t.program.parts in
    program_parts_begun (nothing_laid t.lines) t.program.parts ++ (routines_begun l t.program.routines ++ initial_begun (laid.routines l t.program.routines) [] ∷ [])
