-- The names are in step where the statements of each routine and each initial statement begin.
use Rattle.cp_resolved.proofs.Words.{ℕ, sym, subst, List, [], ◌∷◌, ◌++◌, length, refl, Layer, nothing_laid, routine, routines, system_definition, program_part}
use Rattle.cp_resolved.proofs.Words.{program_parts, Scope, Numbering, InStep, IsFitDefinition, AreFitDefinitions, IsFitPart, AreFitParts, nothing_declared, AreInStep}
use Rattle.cp_tree.specs.Syntax as syntax
use Rattle.cp_meaning.specs.Scopes as scopes
use Rattle.cp_meaning.specs.Systems.{Declared, definition_in, program_part_in, declared, program_system, own_meaning, system_in}
use Rattle.cp_resolved.specs.Begun.{routines_begun, initial_begun, parameters_of, parts_begun, system_begun, definition_begun, definitions_begun, part_begun, program_parts_begun, all_begun}
use Rattle.cp_resolved.specs.Enumerations.{Enumerated, each_in, in_part, in_routine, in_definition, in_program_part, enumerations_of}
use Rattle.cp_resolved.specs.Small.{Each, IsSmallRoutine, IsSmallDefinition, IsSmallProgramPart, IsSmallProgram, AreNumbered}
use Rattle.cp_resolved.specs.Openings.{Opening, with_routine, routine_openings, parts_scope, initial_opening, definition_openings, definitions_openings, part_openings, parts_openings, openings_of, AreOpened}
use Rattle.cp_resolved.proofs.names.Steps.{outermost_in}
use Rattle.cp_resolved.proofs.names.StepsOfTypes.{numbered_left, numbered_after}
use Rattle.cp_resolved.proofs.names.StepsOfParts.{Reached}
use Rattle.cp_resolved.proofs.names.StepsOfRoutines.{routine_count, opened_left, begun_reached, routine_reached, parts_begun_reached, parts_opened, system_begun_reached}
use Rattle.cp_resolved.proofs.names.StepsOfProgram.{Standing, Stood, definition_stood, part_stood, parts_stood, opened_after, program_reached, all_outer}

module _ (k : Numbering) where
  in_step_append : (ls ms : List Layer) (os ps : List Opening) → AreInStep k ls os → AreInStep k ms ps → AreInStep k (ls ++ ms) (os ++ ps)
  in_step_append [] ms [] ps h i = i
  in_step_append (l ∷ ls) ms (o ∷ os) ps h i = (h.0, in_step_append ls ms os ps h.1 i)
  in_step_append _ ms _ ps h i = absurd h

  routines_in_step : (l : Layer) (s : Scope) (owner : ℕ) (rs : List syntax.Routine) → Each IsSmallRoutine rs → AreNumbered k.firsts (length l.constants) (each_in in_routine rs) → AreOpened k.routines (length l.routines) (routine_openings owner s rs) → InStep k l.types l.names s →
      AreInStep k (routines_begun l rs) (routine_openings owner s rs)
  routines_in_step l s owner [] h n o i = tt
  routines_in_step l s owner (r ∷ rs) h n o i =
      let m : Layer = routine l r in
      let e : AreNumbered k.firsts (length l.constants) (in_routine r) = numbered_left k (length l.constants) (in_routine r) (each_in in_routine rs) n in
      let a : Reached k l m (with_routine s r) (in_routine r) = routine_reached k l s r h.0 e o.0 i in
      let p : AreOpened k.routines (length m.routines) (routine_openings owner (with_routine s r) rs) = subst (λ j. AreOpened k.routines j (routine_openings owner (with_routine s r) rs)) (sym (routine_count l r)) o.1 in
      ((begun_reached k l s r h.0 e o.0 i).names, routines_in_step m (with_routine s r) owner rs h.1 (numbered_after k l.constants m.constants (in_routine r) (each_in in_routine rs) a.constants n) p a.names)

  definition_in_step : (l : Layer) (d : Declared) (v : syntax.Definition) → IsSmallDefinition v → IsFitDefinition d v → AreNumbered k.firsts (length l.constants) (in_definition v) → AreOpened k.routines (length l.routines) (definition_openings d v) → Standing k l d →
      AreInStep k (definition_begun l v) (definition_openings d v)
  definition_in_step l d (syntax.type_definition t) h f e o i = tt
  definition_in_step l d (syntax.system_definition s) h f e o i =
      let u : Scope = scopes.seen_inside d.scope in
      let w : Scope = parts_scope u s in
      let n : ℕ = length d.systems in
      let os : List Opening = routine_openings n w s.routines in
      let es : List Enumerated = each_in in_part s.parts in
      let fs : List Enumerated = each_in in_routine s.routines in
      let p : AreOpened k.routines (length l.routines) os = opened_left k.routines (length l.routines) os (initial_opening n (system_in u s) ∷ []) o in
      let b : Reached k l (parts_begun l s) w es = parts_begun_reached k l d.scope s h.0 f i.outer (numbered_left k (length l.constants) es fs e) i.names in
      let c : AreInStep k (routines_begun (parts_begun l s) s.routines) os = routines_in_step (parts_begun l s) w n s.routines h.1 (numbered_after k l.constants (parts_begun l s).constants es fs b.constants e) (parts_opened k l n w s p) b.names in
      in_step_append (routines_begun (parts_begun l s) s.routines) (initial_begun (system_begun l s) (parameters_of l s) ∷ []) os (initial_opening n (system_in u s) ∷ []) c ((system_begun_reached k l d.scope n s h f i.outer e p i.names).names, tt)

  definitions_in_step : (l : Layer) (d : Declared) (ns : List syntax.SystemDefinition) → Each (λ n. IsSmallDefinition n.value) ns → AreFitDefinitions d ns → AreNumbered k.firsts (length l.constants) (each_in (λ n. in_definition n.value) ns) → AreOpened k.routines (length l.routines) (definitions_openings d ns) → Standing k l d →
      AreInStep k (definitions_begun l ns) (definitions_openings d ns)
  definitions_in_step l d [] h f e o i = tt
  definitions_in_step l d (n ∷ ns) h f e o i =
      let m : Layer = system_definition l n in
      let c : Declared = definition_in d n n.value in
      let es : List Enumerated = in_definition n.value in
      let fs : List Enumerated = each_in (λ (n : syntax.SystemDefinition). in_definition n.value) ns in
      let os : List Opening = definition_openings d n.value in
      let ps : List Opening = definitions_openings c ns in
      let p : AreNumbered k.firsts (length l.constants) es = numbered_left k (length l.constants) es fs e in
      let q : AreOpened k.routines (length l.routines) os = opened_left k.routines (length l.routines) os ps o in
      let a : Stood k l m c es (length os) = definition_stood k l d n n.value h.0 f.0 p q i in
      in_step_append (definition_begun l n.value) (definitions_begun m ns) os ps (definition_in_step l d n.value h.0 f.0 p q i)
      (definitions_in_step m c ns h.1 f.1 (numbered_after k l.constants m.constants es fs a.constants e) (opened_after k l m os ps a.routines o) a.standing)

  part_in_step : (l : Layer) (d : Declared) (p : syntax.ProgramPart) → IsSmallProgramPart p → IsFitPart d p → AreNumbered k.firsts (length l.constants) (in_program_part p) → AreOpened k.routines (length l.routines) (part_openings d p) → Standing k l d →
      AreInStep k (part_begun l p) (part_openings d p)
  part_in_step l d (syntax.program_types at ns) h f e o i = definitions_in_step l d ns h f e o i
  part_in_step l d _ h f e o i = tt

  parts_in_step : (l : Layer) (d : Declared) (ps : List syntax.ProgramPart) → Each IsSmallProgramPart ps → AreFitParts d ps → AreNumbered k.firsts (length l.constants) (each_in in_program_part ps) → AreOpened k.routines (length l.routines) (parts_openings d ps) → Standing k l d →
      AreInStep k (program_parts_begun l ps) (parts_openings d ps)
  parts_in_step l d [] h f e o i = tt
  parts_in_step l d (p ∷ ps) h f e o i =
      let m : Layer = program_part l p in
      let c : Declared = program_part_in d p in
      let es : List Enumerated = in_program_part p in
      let fs : List Enumerated = each_in in_program_part ps in
      let os : List Opening = part_openings d p in
      let qs : List Opening = parts_openings c ps in
      let q : AreNumbered k.firsts (length l.constants) es = numbered_left k (length l.constants) es fs e in
      let r : AreOpened k.routines (length l.routines) os = opened_left k.routines (length l.routines) os qs o in
      let a : Stood k l m c es (length os) = part_stood k l d p h.0 f.0 q r i in
      in_step_append (part_begun l p) (program_parts_begun m ps) os qs (part_in_step l d p h.0 f.0 q r i)
      (parts_in_step m c ps h.1 f.1 (numbered_after k l.constants m.constants es fs a.constants e) (opened_after k l m os qs a.routines o) a.standing)

  pub all_in_step : (t : syntax.Tree) → IsSmallProgram t.program → AreFitParts nothing_declared t.program.parts → AreNumbered k.firsts 0 (enumerations_of t.program) → AreOpened k.routines 0 (openings_of t.program) → AreInStep k (all_begun t) (openings_of t.program)
  all_in_step t h f e o =
      let p : syntax.Program = t.program in
      let l : Layer = nothing_laid t.lines in
      let m : Layer = program_parts l p.parts in
      let d : Declared = declared p in
      let es : List Enumerated = each_in in_program_part p.parts in
      let fs : List Enumerated = each_in in_routine p.routines in
      let os : List Opening = parts_openings nothing_declared p.parts in
      let ps : List Opening = routine_openings (program_system p) d.scope p.routines in
      let qs : List Opening = initial_opening (program_system p) (own_meaning d p) ∷ [] in
      let s : Standing k l nothing_declared = record { names = outermost_in k []; systems = refl; outer = all_outer k } in
      let g : AreNumbered k.firsts 0 es = numbered_left k 0 es fs e in
      let r : AreOpened k.routines 0 os = opened_left k.routines 0 os (ps ++ qs) o in
      let a : Stood k l m d es (length os) = parts_stood k l nothing_declared p.parts h.0 f g r s in
      let b : AreOpened k.routines (length m.routines) ps = opened_left k.routines (length m.routines) ps qs (opened_after k l m os (ps ++ qs) a.routines o) in
      let c : AreInStep k (routines_begun m p.routines) ps = routines_in_step m d.scope (program_system p) p.routines h.1 (numbered_after k l.constants m.constants es fs a.constants e) b a.standing.names in
      in_step_append (program_parts_begun l p.parts) (routines_begun m p.routines ++ initial_begun (routines m p.routines) [] ∷ []) os (ps ++ qs) (parts_in_step l nothing_declared p.parts h.0 f g r s)
      (in_step_append (routines_begun m p.routines) (initial_begun (routines m p.routines) [] ∷ []) ps qs c ((program_reached k t.lines p h f e o).names, tt))
