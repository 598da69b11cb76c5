-- Names stay in step through the whole program, whose constants of enumerations are those of the tables.
use Rattle.cp_resolved.proofs.Words.{◌≡◌, ◌+◌, ℕ, suc, List, [], ◌∷◌, ◌++◌, length, refl, sym, ap, subst, ◌∙◌, arith, length-append, None, Layer, nothing_laid, true}
use Rattle.cp_resolved.proofs.Words.{written_type, laid, tables_laid, Scope, predeclared, Block, Numbering, InStep, AreOuter, system_begun, Each, IsSmallDefinition}
use Rattle.cp_resolved.proofs.Words.{IsSmallProgramPart, IsSmallProgram, AreNumbered, IsFitDefinition, AreFitDefinitions, IsFitPart, AreFitParts, nothing_declared}
use Rattle.std.proofs.lemmas.List.{append-nil}
use Rattle.cp_tree.specs.Syntax as syntax
use Rattle.cp_symbols.specs.declared.kinds.CellType.TheVariants as types
use Rattle.cp_layout.specs.LaidDeclarations.{heading_with, with_new_frame, with_heading, routines, initial_statement, enter_system, system_groups, permanent_parts, system, with_type_name, definition, system_definition, system_definitions, program_part, program_parts, constants, variables, program}
use Rattle.cp_meaning.specs.Scopes as scopes
use Rattle.cp_meaning.specs.Declarations as meant
use Rattle.cp_meaning.specs.Systems.{Declared, definition_in, definitions_in, program_part_in, program_parts_in, declared, program_system, own_meaning, system_in}
use Rattle.cp_resolved.specs.Enumerations.{Enumerated, each_in, in_type, in_routine, in_system, in_definition, in_program_part, enumerations_of, names_among, constant_names}
use Rattle.cp_resolved.specs.Openings.{Opening, routine_openings, parts_scope, initial_opening, definition_openings, definitions_openings, part_openings, parts_openings, openings_of, AreOpened}
use Rattle.cp_resolved.proofs.laid.Declares.{Declares, type_declares, constants_declare, variables_declare}
use Rattle.cp_resolved.proofs.names.Steps.{outermost_in}
use Rattle.cp_resolved.proofs.names.StepsOfTypes.{Written, type_written, constants_trans, numbered_left, numbered_after}
use Rattle.cp_resolved.proofs.names.StepsOfParts.{Reached, constants_reached, variables_reached}
use Rattle.cp_resolved.proofs.names.StepsOfRoutines.{body_count, body_systems, body_constants, routines_systems, routines_count, openings_count, opened_left, opened_right, groups_routines, groups_systems, routines_reached, system_begun_reached, system_reached}
use Rattle.cp_resolved.proofs.agreeing.Outer.{outer_type, outer_constants, outer_variables}

one_longer : {A : Type 0} (xs : List A) (x : A) → length (xs ++ x ∷ []) ≡ suc (length xs)
one_longer xs x = omega (arith, length-append xs (x ∷ []))

module _ (k : Numbering) where
  -- as far as the declarations of the program have come
  pub record Standing (l : Layer) (d : Declared) : Type 0 where
    pub names : InStep k l.types l.names d.scope
    pub systems : length l.systems ≡ length d.systems
    pub outer : AreOuter d.scope

  -- from one state to another, with these constants of enumerations and this many routines
  pub record Stood (l m : Layer) (d : Declared) (es : List Enumerated) (n : ℕ) : Type 0 where
    pub standing : Standing m d
    pub constants : m.constants ≡ l.constants ++ names_among es
    pub routines : length m.routines ≡ length l.routines + n

  stood_same : (l : Layer) (d : Declared) → Standing l d → Stood l l d [] 0
  stood_same l d h = record { standing = h; constants = sym (append-nil l.constants); routines = omega arith }

  stood_trans : (l j m : Layer) (d e : Declared) (es fs : List Enumerated) (n p : ℕ) → Stood l j d es n → Stood j m e fs p → Stood l m e (es ++ fs) (n + p)
  stood_trans l j m d e es fs n p h i =
      record { standing = i.standing; constants = constants_trans k l.constants j.constants m.constants es fs h.constants i.constants; routines = omega (arith, h.routines, i.routines) }

  -- ---- types and system types

  pub system_count : (l : Layer) (s : syntax.System) → length (system l s).1.routines ≡ length l.routines + (length s.routines + 1)
  unfolding system
  system_count l s =
      let z : Layer = permanent_parts (system_groups (enter_system l).1 [] s.parameters).1 s.parts in
      let e : suc (length l.routines + length s.routines) ≡ length l.routines + (length s.routines + 1) = omega arith in
      body_count (with_heading (with_new_frame (system_begun l s)) (heading_with [] (system_groups (enter_system l).1 [] s.parameters).0 None)) s.body true ∙ ap suc (routines_count z s.routines) ∙ ap (λ rs. suc (length rs + length s.routines)) (groups_routines l s) ∙ e

  pub initial_systems : (l : Layer) (s : syntax.System) → (initial_statement (system_begun l s) (system_groups (enter_system l).1 [] s.parameters).0 s.body).systems ≡ l.systems
  initial_systems l s =
      let z : Layer = permanent_parts (system_groups (enter_system l).1 [] s.parameters).1 s.parts in
      body_systems (with_heading (with_new_frame (system_begun l s)) (heading_with [] (system_groups (enter_system l).1 [] s.parameters).0 None)) s.body true ∙ routines_systems z s.routines ∙ groups_systems l s

  system_number : (l : Layer) (s : syntax.System) → (system l s).0 ≡ types.System (length l.systems)
  unfolding system
  system_number l s = ap (λ ss. types.System (length ss)) (initial_systems l s)

  system_systems : (l : Layer) (s : syntax.System) → length (system l s).1.systems ≡ suc (length l.systems)
  unfolding system
  system_systems l s =
      let m : Layer = initial_statement (system_begun l s) (system_groups (enter_system l).1 [] s.parameters).0 s.body in
      one_longer m.systems _ ∙ ap (λ ss. suc (length ss)) (initial_systems l s)

  pub definition_stood : (l : Layer) (d : Declared) (n : syntax.SystemDefinition) (v : syntax.Definition) → IsSmallDefinition v → IsFitDefinition d v → AreNumbered k.firsts (length l.constants) (in_definition v) → AreOpened k.routines (length l.routines) (definition_openings d v) → Standing l d →
      Stood l (with_type_name n.name.name (definition l v)) (definition_in d n v) (in_definition v) (length (definition_openings d v))
  definition_stood l d n (syntax.type_definition t) h f e o i =
      let w : Written k l (written_type l t) (meant.type_in d.scope t) (in_type t) = type_written k l d.scope t h e i.names in
      let x : Declares l (written_type l t).1 = type_declares l t in
      record {
        standing = record {
          names = (refl, ((written_type l t).0, refl, w.belongs), w.names);
          systems = ap (λ (j : Layer). length j.systems) x.same ∙ i.systems;
          outer = (tt, outer_type d.scope t i.outer);
        };
        constants = w.constants;
        routines = ap (λ (j : Layer). length j.routines) x.same ∙ (let z : length l.routines ≡ length l.routines + 0 = omega arith in z);
      }
  definition_stood l d n (syntax.system_definition s) h f e o i =
      let u : Scope = scopes.seen_inside d.scope in
      let os : List Opening = routine_openings (length d.systems) (parts_scope u s) s.routines in
      let a : Reached k l (system_begun l s) (system_in u s).scope (in_system s) = system_begun_reached k l d.scope (length d.systems) s h f i.outer e (opened_left k.routines (length l.routines) os (initial_opening (length d.systems) (system_in u s) ∷ []) o) i.names in
      let b : Reached k l (system l s).1 d.scope (in_system s) = system_reached k l d.scope s a i.names in
      record {
        standing = record {
          names = (refl, ((system l s).0, refl, system_number l s ∙ ap types.System i.systems), b.names);
          systems = system_systems l s ∙ ap suc i.systems ∙ sym (one_longer d.systems (system_in u s));
          outer = (tt, i.outer);
        };
        constants = b.constants;
        routines = system_count l s ∙ ap (λ j. length l.routines + (j + 1)) (sym (openings_count (length d.systems) (parts_scope u s) s.routines)) ∙ ap (λ j. length l.routines + j) (sym (length-append os (initial_opening (length d.systems) (system_in u s) ∷ [])));
      }

  pub opened_after : (l j : Layer) (os ps : List Opening) → length j.routines ≡ length l.routines + length os → AreOpened k.routines (length l.routines) (os ++ ps) → AreOpened k.routines (length j.routines) ps
  opened_after l j os ps h o = subst (λ n. AreOpened k.routines n ps) (sym h) (opened_right k.routines (length l.routines) os ps o)

  counted_both : (l m : Layer) (d : Declared) (es : List Enumerated) (os ps : List Opening) → Stood l m d es (length os + length ps) → Stood l m d es (length (os ++ ps))
  counted_both l m d es os ps h = subst (Stood l m d es) (sym (length-append os ps)) h

  pub definitions_stood : (l : Layer) (d : Declared) (ns : List syntax.SystemDefinition) → Each (λ n. IsSmallDefinition n.value) ns → AreFitDefinitions d ns → AreNumbered k.firsts (length l.constants) (each_in (λ n. in_definition n.value) ns) → AreOpened k.routines (length l.routines) (definitions_openings d ns) → Standing l d →
      Stood l (system_definitions l ns) (definitions_in d ns) (each_in (λ n. in_definition n.value) ns) (length (definitions_openings d ns))
  unfolding system_definitions
  definitions_stood l d [] h f e o i = stood_same l d i
  definitions_stood l d (n ∷ ns) h f e o i =
      let m : Layer = system_definition l n in
      let c : Declared = definition_in d n n.value in
      let es : List Enumerated = in_definition n.value in
      let fs : List Enumerated = each_in (λ (n : syntax.SystemDefinition). in_definition n.value) ns in
      let os : List Opening = definition_openings d n.value in
      let ps : List Opening = definitions_openings c ns in
      let a : Stood l m c es (length os) = definition_stood l d n n.value h.0 f.0 (numbered_left k (length l.constants) es fs e) (opened_left k.routines (length l.routines) os ps o) i in
      let b : Stood m (system_definitions m ns) (definitions_in c ns) fs (length ps) = definitions_stood m c ns h.1 f.1 (numbered_after k l.constants m.constants es fs a.constants e) (opened_after l m os ps a.routines o) a.standing in
      counted_both l (system_definitions m ns) (definitions_in c ns) (es ++ fs) os ps (stood_trans l m (system_definitions m ns) c (definitions_in c ns) es fs (length os) (length ps) a b)

  -- ---- parts

  pub part_stood : (l : Layer) (d : Declared) (p : syntax.ProgramPart) → IsSmallProgramPart p → IsFitPart d p → AreNumbered k.firsts (length l.constants) (in_program_part p) → AreOpened k.routines (length l.routines) (part_openings d p) → Standing l d →
      Stood l (program_part l p) (program_part_in d p) (in_program_part p) (length (part_openings d p))
  part_stood l d (syntax.program_constants at ds) h f e o i =
      let a : Reached k l (constants l ds) (meant.constants_in d.scope ds) [] = constants_reached k l d.scope ds h i.names in
      let x : Declares l (constants l ds) = constants_declare l ds in
      record {
        standing = record { names = a.names; systems = ap (λ (j : Layer). length j.systems) x.same ∙ i.systems; outer = outer_constants d.scope ds i.outer };
        constants = a.constants;
        routines = ap (λ (j : Layer). length j.routines) x.same ∙ (let z : length l.routines ≡ length l.routines + 0 = omega arith in z);
      }
  part_stood l d (syntax.program_types at ns) h f e o i = definitions_stood l d ns h f e o i
  part_stood l d (syntax.program_variables at gs) h f e o i =
      let b : Block = record { variables = d.variables; scope = d.scope } in
      let a : Reached k l (variables l gs) (meant.variables_in scopes.permanent_variable b gs).scope (in_program_part (syntax.program_variables at gs)) = variables_reached k l b gs h e i.names in
      let x : Declares l (variables l gs) = variables_declare l gs in
      record {
        standing = record { names = a.names; systems = ap (λ (j : Layer). length j.systems) x.same ∙ i.systems; outer = outer_variables b gs i.outer };
        constants = a.constants;
        routines = ap (λ (j : Layer). length j.routines) x.same ∙ (let z : length l.routines ≡ length l.routines + 0 = omega arith in z);
      }

  pub parts_stood : (l : Layer) (d : Declared) (ps : List syntax.ProgramPart) → Each IsSmallProgramPart ps → AreFitParts d ps → AreNumbered k.firsts (length l.constants) (each_in in_program_part ps) → AreOpened k.routines (length l.routines) (parts_openings d ps) → Standing l d →
      Stood l (program_parts l ps) (program_parts_in d ps) (each_in in_program_part ps) (length (parts_openings d ps))
  unfolding program_parts
  parts_stood l d [] h f e o i = stood_same l d i
  parts_stood l d (p ∷ ps) h f e o i =
      let m : Layer = program_part l p in
      let c : Declared = program_part_in d p in
      let es : List Enumerated = in_program_part p in
      let fs : List Enumerated = each_in in_program_part ps in
      let os : List Opening = part_openings d p in
      let qs : List Opening = parts_openings c ps in
      let a : Stood l m c es (length os) = part_stood l d p h.0 f.0 (numbered_left k (length l.constants) es fs e) (opened_left k.routines (length l.routines) os qs o) i in
      let b : Stood m (program_parts m ps) (program_parts_in c ps) fs (length qs) = parts_stood m c ps h.1 f.1 (numbered_after k l.constants m.constants es fs a.constants e) (opened_after l m os qs a.routines o) a.standing in
      counted_both l (program_parts m ps) (program_parts_in c ps) (es ++ fs) os qs (stood_trans l m (program_parts m ps) c (program_parts_in c ps) es fs (length os) (length qs) a b)

  -- ---- the program

  pub all_outer : AreOuter predeclared
  all_outer = (tt, (tt, (tt, (tt, (tt, (tt, (tt, (tt, (tt, (tt, (tt, (tt, (tt, (tt, (tt, tt)))))))))))))))

  -- where the initial statement of the program begins, its names are in step with its scope
  pub program_reached : (lines : List ℕ) (p : syntax.Program) → IsSmallProgram p → AreFitParts nothing_declared p.parts → AreNumbered k.firsts 0 (enumerations_of p) → AreOpened k.routines 0 (openings_of p) →
      Reached k (nothing_laid lines) (routines (program_parts (nothing_laid lines) p.parts) p.routines) (own_meaning (declared p) p).scope (enumerations_of p)
  program_reached lines p h f e o =
      let l : Layer = nothing_laid lines in
      let m : Layer = program_parts l p.parts in
      let d : Declared = declared p in
      let es : List Enumerated = each_in in_program_part p.parts in
      let fs : List Enumerated = each_in in_routine p.routines in
      let os : List Opening = parts_openings nothing_declared p.parts in
      let ps : List Opening = routine_openings (program_system p) d.scope p.routines in
      let qs : List Opening = initial_opening (program_system p) (own_meaning d p) ∷ [] in
      let a : Stood l m d es (length os) = parts_stood l nothing_declared p.parts h.0 f (numbered_left k 0 es fs e) (opened_left k.routines 0 os (ps ++ qs) o) (record { names = outermost_in k []; systems = refl; outer = all_outer }) in
      let b : AreOpened k.routines (length m.routines) ps = opened_left k.routines (length m.routines) ps qs (opened_after l m os (ps ++ qs) a.routines o) in
      let c : Reached k m (routines m p.routines) (own_meaning d p).scope fs = routines_reached k m d.scope (program_system p) p.routines h.1 (numbered_after k l.constants m.constants es fs a.constants e) b a.standing.names in
      record { names = c.names; constants = constants_trans k l.constants m.constants (routines m p.routines).constants es fs a.constants c.constants }

-- the names of the tables are the spellings of the constants of all enumerations
pub names_laid : (k : Numbering) (t : syntax.Tree) → IsSmallProgram t.program → AreFitParts nothing_declared t.program.parts → AreNumbered k.firsts 0 (enumerations_of t.program) → AreOpened k.routines 0 (openings_of t.program) → (laid t).names ≡ constant_names t.program
unfolding laid tables_laid program
names_laid k t h f e o =
    let m : Layer = routines (program_parts (nothing_laid t.lines) t.program.parts) t.program.routines in
    body_constants (with_heading (with_new_frame m) (heading_with [] [] None)) t.program.body true ∙ (program_reached k t.lines t.program h f e o).constants
