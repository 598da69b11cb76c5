-- What each routine and each initial statement leaves true, with its tokens spent, a program leaves true when all of its tokens are spent.
use Rattle.cp_resolved.proofs.Words.{◌≡◌, ℕ, ◌≤◌, List, [], ◌∷◌, ◌++◌, length, ap, refl, arith, Kind, Layer, nothing_laid, written_type, Each}
use Rattle.cp_text.specs.declared.token.Kind.TheVariants as kind
use Rattle.cp_text.specs.declared.token.Mark.TheVariants as mark
use Rattle.cp_tree.specs.Syntax as syntax
use Rattle.cp_tree.specs.Spelling.{put_optional, put_all, put_constant_definition, put_variable_group, put_part, put_group, put_type, put_body, put_routine, put_system, put_definition, put_system_definition, put_program_part, spell}
use Rattle.cp_tree.proofs.Grows.{grows_all, grows_optional, grows_type, grows_constant_definition, grows_variable_group, grows_part, grows_group, grows_parameters}
use Rattle.cp_layout.specs.LaidDeclarations.{constants, variables, Parameters, permanent_parts, routine, routines, initial_statement, system_groups, enter_system, system, definition, system_definition, system_definitions, program_part, program_parts, program}
use Rattle.cp_resolved.specs.Begun.{routine_begun, routines_begun, initial_begun, parameters_of, system_begun, definition_begun, definitions_begun, part_begun, program_parts_begun, all_begun}
use Rattle.cp_resolved.proofs.agreeing.AgreeingWritten.{each_left, each_right}
use Rattle.cp_resolved.proofs.declarations.Nameless.{IsKnown, EachIn, EachInPart, EachRoutine}
use Rattle.cp_resolved.proofs.laid.Declares.{Declares, type_declares, constants_declare, variables_declare, permanent_parts_declare, system_groups_declare}

pub each_any : (ls : List Layer) → Each (λ (l : Layer). Unit {0}) ls
each_any [] = tt
each_any (l ∷ ls) = (tt, each_any ls)

-- G is said of a state with so many tokens still to come, and S of the states in which the statements of routines begin.
module _ (G : ℕ → Layer → Type 0) (S : Layer → Type 0) (lower : (high low : ℕ) (l : Layer) → low ≤ high → G high l → G low l) (same : (n : ℕ) (l m : Layer) → m.items ≡ l.items → m.pending ≡ l.pending → m.routines ≡ l.routines → G n l → G n m)
    (routine_spent : (l : Layer) (r : syntax.Routine) (rest : List Kind) → IsKnown r → S (routine_begun l r) → G (length (put_routine r rest)) l → G (length rest) (routine l r))
    (initial_spent : (l : Layer) (ps : Parameters) (b : syntax.Body) (rest : List Kind) → G (length (put_body b rest)) l → G (length rest) (initial_statement l ps b)) where
  declared_spent : (n : ℕ) (l m : Layer) → Declares l m → G n l → G n m
  declared_spent n l m d h = same n l m (ap (λ (j : Layer). j.items) d.same) (ap (λ (j : Layer). j.pending) d.same) (ap (λ (j : Layer). j.routines) d.same) h

  routines_spent : (l : Layer) (rs : List syntax.Routine) (rest : List Kind) → Each IsKnown rs → Each S (routines_begun l rs) → G (length (put_all put_routine rs rest)) l → G (length rest) (routines l rs)
  unfolding routines
  routines_spent l [] rest k s h = h
  routines_spent l (r ∷ rs) rest k s h = routines_spent (routine l r) rs rest k.1 s.1 (routine_spent l r (put_all put_routine rs rest) k.0 s.0 h)

  system_spent : (l : Layer) (y : syntax.System) (rest : List Kind) → Each IsKnown y.routines → Each S (definition_begun l (syntax.system_definition y)) → G (length (put_system y rest)) l → G (length rest) (system l y).1
  unfolding system
  system_spent l y rest known s h =
      let b : List Kind = put_body y.body rest in
      let rs : List Kind = put_all put_routine y.routines b in
      let inside : List Kind = put_all put_part y.parts rs in
      let high : ℕ = length (put_system y rest) in
      let o : Layer = (enter_system l).1 in
      let x = system_groups o [] y.parameters in
      let p : Layer = permanent_parts x.1 y.parts in
      let k : Layer = routines p y.routines in
      let g = grows_all put_part grows_part y.parts rs in
      let i = grows_optional mark.Semicolon y.has_semicolon inside in
      let j = grows_parameters put_group grows_group y.parameters (put_optional mark.Semicolon y.has_semicolon inside) in
      let small : Each S (routines_begun p y.routines) = each_left S (routines_begun p y.routines) (initial_begun (system_begun l y) (parameters_of l y) ∷ []) s in
      let d : G high p = declared_spent high x.1 p (permanent_parts_declare x.1 y.parts) (declared_spent high o x.1 (system_groups_declare o [] y.parameters) (same high l o refl refl refl h)) in
      let e : G (length b) k = routines_spent p y.routines b known small (lower high (length rs) p (omega (arith, g, i, j)) d) in
      same (length rest) (initial_statement k x.0 y.body) (system l y).1 refl refl refl (initial_spent k x.0 y.body rest e)

  definition_spent : (l : Layer) (v : syntax.Definition) (rest : List Kind) → EachIn IsKnown v → Each S (definition_begun l v) → G (length (put_definition v rest)) l → G (length rest) (definition l v).1
  definition_spent l (syntax.type_definition t) rest k s h = declared_spent (length rest) l (written_type l t).1 (type_declares l t) (lower (length (put_type t rest)) (length rest) l (grows_type t rest) h)
  definition_spent l (syntax.system_definition y) rest k s h = system_spent l y rest k s h

  definitions_spent : (l : Layer) (ds : List syntax.SystemDefinition) (rest : List Kind) → Each (λ (d : syntax.SystemDefinition). EachIn IsKnown d.value) ds → Each S (definitions_begun l ds) → G (length (put_all put_system_definition ds rest)) l → G (length rest) (system_definitions l ds)
  unfolding system_definitions
  definitions_spent l [] rest k s h = h
  definitions_spent l (d ∷ ds) rest k s h =
      let after : List Kind = put_all put_system_definition ds rest in
      let next : List Kind = kind.Mark mark.Semicolon ∷ after in
      let others : List Layer = definitions_begun (system_definition l d) ds in
      let x : Layer = (definition l d.value).1 in
      let e : G (length next) x = definition_spent l d.value next k.0 (each_left S (definition_begun l d.value) others s) (lower (length (put_all put_system_definition (d ∷ ds) rest)) (length (put_definition d.value next)) l (omega arith) h) in
      definitions_spent (system_definition l d) ds rest k.1 (each_right S (definition_begun l d.value) others s) (same (length after) x (system_definition l d) refl refl refl (lower (length next) (length after) x (omega arith) e))

  part_spent : (l : Layer) (q : syntax.ProgramPart) (rest : List Kind) → EachInPart IsKnown q → Each S (part_begun l q) → G (length (put_program_part q rest)) l → G (length rest) (program_part l q)
  part_spent l (syntax.program_constants at ds) rest k s h =
      let b = grows_all put_constant_definition grows_constant_definition ds rest in
      declared_spent (length rest) l (constants l ds) (constants_declare l ds) (lower (length (put_program_part (syntax.program_constants at ds) rest)) (length rest) l (omega (arith, b)) h)
  part_spent l (syntax.program_types at ds) rest k s h = definitions_spent l ds rest k s (lower (length (put_program_part (syntax.program_types at ds) rest)) (length (put_all put_system_definition ds rest)) l (omega arith) h)
  part_spent l (syntax.program_variables at gs) rest k s h =
      let b = grows_all put_variable_group grows_variable_group gs rest in
      declared_spent (length rest) l (variables l gs) (variables_declare l gs) (lower (length (put_program_part (syntax.program_variables at gs) rest)) (length rest) l (omega (arith, b)) h)

  parts_spent : (l : Layer) (qs : List syntax.ProgramPart) (rest : List Kind) → Each (EachInPart IsKnown) qs → Each S (program_parts_begun l qs) → G (length (put_all put_program_part qs rest)) l → G (length rest) (program_parts l qs)
  unfolding program_parts
  parts_spent l [] rest k s h = h
  parts_spent l (q ∷ qs) rest k s h =
      let others : List Layer = program_parts_begun (program_part l q) qs in
      parts_spent (program_part l q) qs rest k.1 (each_right S (part_begun l q) others s) (part_spent l q (put_all put_program_part qs rest) k.0 (each_left S (part_begun l q) others s) h)

  pub program_spent : (t : syntax.Tree) → EachRoutine IsKnown t.program → Each S (all_begun t) → G (length (spell t.program)) (nothing_laid t.lines) → G 0 (program (nothing_laid t.lines) t.program)
  unfolding program
  program_spent t known s h =
      let p : syntax.Program = t.program in
      let l : Layer = nothing_laid t.lines in
      let period : List Kind = kind.Mark mark.Period ∷ [] in
      let last : List Kind = put_body p.body period in
      let rs : List Kind = put_all put_routine p.routines last in
      let k : Layer = program_parts l p.parts in
      let m : Layer = routines k p.routines in
      let own : List Layer = initial_begun m [] ∷ [] in
      let later : Each S (routines_begun k p.routines ++ own) = each_right S (program_parts_begun l p.parts) (routines_begun k p.routines ++ own) s in
      let e : G (length rs) k = parts_spent l p.parts rs known.0 (each_left S (program_parts_begun l p.parts) (routines_begun k p.routines ++ own) s) h in
      let f : G (length last) m = routines_spent k p.routines last known.1 (each_left S (routines_begun k p.routines) own later) e in
      lower (length period) 0 (initial_statement m [] p.body) (omega arith) (initial_spent m [] p.body period f)
