-- The types that are laid out where the statements of each routine begin are among those of the whole program.
use Rattle.cp_resolved.proofs.Words.{List, [], ◌∷◌, ◌++◌, Layer, nothing_laid, Each}
use Rattle.cp_tree.specs.Syntax as syntax
use Rattle.cp_layout.specs.LaidDeclarations.{initial_statement, routine, routines, system, system_definition, system_definitions, definition, program_part, program_parts, program}
use Rattle.cp_resolved.specs.Begun.{routine_begun, routines_begun, initial_begun, parameters_of, parts_begun, system_begun, definition_begun, definitions_begun, part_begun, program_parts_begun, all_begun}
use Rattle.cp_resolved.proofs.laid.Extends.{Longer, longer_trans, body_extends, initial_extends, routines_extend, system_definitions_extend, program_parts_extend}
use Rattle.cp_resolved.proofs.frames.FrameCells.{each_both as each_append}

module _ (end : Layer) where
  abbrev IsWithin : Layer → Type 0
  IsWithin l = Longer l.types end.types

  routines_within : (l : Layer) (rs : List syntax.Routine) → IsWithin (routines l rs) → Each IsWithin (routines_begun l rs)
  unfolding routines
  routines_within l [] h = tt
  routines_within l (r ∷ rs) h =
      let k : Layer = routine_begun l r in
      let m : Layer = routine l r in
      let a : Longer m.types (routines m rs).types = (routines_extend m rs).types in
      let b : Longer k.types m.types = (body_extends k r.body r.is_entry).types in
      (longer_trans k.types m.types end.types b (longer_trans m.types (routines m rs).types end.types a h), routines_within m rs h)

  definition_within : (l : Layer) (v : syntax.Definition) → IsWithin (definition l v).1 → Each IsWithin (definition_begun l v)
  unfolding system
  definition_within l (syntax.type_definition t) h = tt
  definition_within l (syntax.system_definition s) h =
      let k : Layer = system_begun l s in
      let m : Layer = initial_statement k (parameters_of l s) s.body in
      let a : IsWithin k = longer_trans k.types m.types end.types (initial_extends k (parameters_of l s) s.body).types h in
      each_append IsWithin (routines_begun (parts_begun l s) s.routines) (initial_begun k (parameters_of l s) ∷ []) (routines_within (parts_begun l s) s.routines a) (a, tt)

  definitions_within : (l : Layer) (ds : List syntax.SystemDefinition) → IsWithin (system_definitions l ds) → Each IsWithin (definitions_begun l ds)
  unfolding system_definitions
  definitions_within l [] h = tt
  definitions_within l (d ∷ ds) h =
      let m : Layer = system_definition l d in
      let a : IsWithin m = longer_trans m.types (system_definitions m ds).types end.types (system_definitions_extend m ds).types h in
      each_append IsWithin (definition_begun l d.value) (definitions_begun m ds) (definition_within l d.value a) (definitions_within m ds h)

  part_within : (l : Layer) (p : syntax.ProgramPart) → IsWithin (program_part l p) → Each IsWithin (part_begun l p)
  part_within l (syntax.program_types at ds) h = definitions_within l ds h
  part_within l _ h = tt

  parts_within : (l : Layer) (ps : List syntax.ProgramPart) → IsWithin (program_parts l ps) → Each IsWithin (program_parts_begun l ps)
  unfolding program_parts
  parts_within l [] h = tt
  parts_within l (p ∷ ps) h =
      let m : Layer = program_part l p in
      let a : IsWithin m = longer_trans m.types (program_parts m ps).types end.types (program_parts_extend m ps).types h in
      each_append IsWithin (part_begun l p) (program_parts_begun m ps) (part_within l p a) (parts_within m ps h)

pub all_within : (t : syntax.Tree) → Each (λ l. Longer l.types (program (nothing_laid t.lines) t.program).types) (all_begun t)
unfolding program
all_within t =
    let end : Layer = program (nothing_laid t.lines) t.program in
    let l : Layer = program_parts (nothing_laid t.lines) t.program.parts in
    let m : Layer = routines l t.program.routines in
    let a : Longer m.types end.types = (initial_extends m [] t.program.body).types in
    let b : Longer l.types end.types = longer_trans l.types m.types end.types (routines_extend l t.program.routines).types a in
    each_append (IsWithin end) (program_parts_begun (nothing_laid t.lines) t.program.parts) (routines_begun l t.program.routines ++ initial_begun m [] ∷ []) (parts_within end (nothing_laid t.lines) t.program.parts b)
    (each_append (IsWithin end) (routines_begun l t.program.routines) (initial_begun m [] ∷ []) (routines_within end l t.program.routines a) (a, tt))
