-- The permanent variables of a system type begin with few cells, where each of them has few.
use Rattle.std.proofs.Common.{◌≡◌, ℕ, ◌+◌, ◌*◌, ◌≤◌, List, [], ◌∷◌, ◌++◌, length, Option, Some, None, refl, sym, ap, subst, ◌∙◌, arith, length-append, append_assoc}
use Rattle.cp_resolved.proofs.Words.{Kind, Identifier, CellType, Contained, Content, Compounds, least, Names, Layer, Owned, System, nothing_laid, true}
use Rattle.cp_resolved.proofs.Words.{written_type, type_of_name, Numbering, Each}
use Rattle.cp_text.specs.declared.token.Kind.TheVariants as kind
use Rattle.cp_text.specs.declared.token.Mark.TheVariants as mark
use Rattle.cp_tree.specs.Syntax as syntax
use Rattle.cp_tree.specs.Spelling.{put_optional, put_behind, put_all, put_parameters, put_identifier, put_constant_definition, put_type_definition, put_variable_group, put_type, put_part, put_group, put_body, put_routine, put_system, put_definition, put_system_definition, put_program_part, spell}
use Rattle.cp_tree.proofs.Grows.{grows_all, grows_optional, grows_type, grows_constant_definition, grows_type_definition, grows_definition}
use Rattle.cp_symbols.specs.declared.kinds.CellType.TheVariants as types
use Rattle.cp_layout.specs.declared.layer.Content.TheVariants as content
use Rattle.cp_layout.specs.LaidComponents.{content_least, contents_least}
use Rattle.cp_layout.specs.LaidDeclarations.{constants, type_definitions, components_of, variable, variable_with, variables_of, variable_group, variables, permanent_part, permanent_parts, Parameters, system_parameter, system_parameters_of, system_group, system_groups, heading_with, with_heading, with_new_frame, initial_statement, enter_system, routine, routines, system, definition, system_definition, system_definitions, program_part, program_parts, program}
use Rattle.cp_resolved.specs.Begun.{routines_begun, initial_begun, parameters_of, parts_begun, system_begun, definition_begun, definitions_begun, part_begun, program_parts_begun, all_begun}
use Rattle.cp_resolved.proofs.agreeing.AgreeingWritten.{each_left, each_right}
use Rattle.cp_resolved.proofs.laid.Declares.{Declares, type_declares, constants_declare, variables_of_declare, variables_declare, permanent_parts_declare, system_parameters_declare, system_groups_declare}
use Rattle.cp_resolved.proofs.laid.Extends.{routine_names}
use Rattle.cp_resolved.proofs.components.Handed.{written_owned, constants_owned, definitions_owned, body_owned, routines_owned}
use Rattle.cp_resolved.proofs.declarations.Numbered.{names_room}
use Rattle.cp_resolved.proofs.names.SmallNames.{AreSmallNames}
use Rattle.cp_resolved.proofs.names.StepsOfProgram.{initial_systems}
use Rattle.cp_resolved.proofs.names.StepsOfRoutines.{body_systems, routines_systems}
use Rattle.cp_resolved.proofs.frames.FrameCells.{each_both as each_append}

-- ---- new names stand before the others

abbrev Adds : Layer → Layer → Type 0
Adds l m = (more : Names) × (m.names ≡ more ++ l.names)

adds_then : (l k m : Layer) → Adds l k → Adds k m → Adds l m
adds_then l k m h i = (i.0 ++ h.0, i.1 ∙ ap (λ ns. i.0 ++ ns) h.1 ∙ sym (append_assoc i.0 h.0 l.names))

declared_adds : (l m : Layer) → Declares l m → Adds l m
declared_adds l m d = (d.names, ap (λ (j : Layer). j.names) d.same)

routines_add : (l : Layer) (rs : List syntax.Routine) → Adds l (routines l rs)
unfolding routines
routines_add l [] = ([], refl)
routines_add l (r ∷ rs) = adds_then l (routine l r) (routines (routine l r) rs) (_ ∷ [], routine_names l r) (routines_add (routine l r) rs)

definition_adds : (l : Layer) (d : syntax.Definition) → Adds l (definition l d).1
unfolding system
definition_adds l (syntax.type_definition t) = declared_adds l (written_type l t).1 (type_declares l t)
definition_adds l (syntax.system_definition s) = ([], refl)

definitions_add : (l : Layer) (ds : List syntax.SystemDefinition) → Adds l (system_definitions l ds)
unfolding system_definitions
definitions_add l [] = ([], refl)
definitions_add l (d ∷ ds) =
    let m : Layer = system_definition l d in
    adds_then l m (system_definitions m ds) (adds_then l (definition l d.value).1 m (definition_adds l d.value) (_ ∷ [], refl)) (definitions_add m ds)

part_adds : (l : Layer) (p : syntax.ProgramPart) → Adds l (program_part l p)
part_adds l (syntax.program_constants at ds) = declared_adds l (constants l ds) (constants_declare l ds)
part_adds l (syntax.program_types at ds) = definitions_add l ds
part_adds l (syntax.program_variables at gs) = declared_adds l (variables l gs) (variables_declare l gs)

parts_add : (l : Layer) (ps : List syntax.ProgramPart) → Adds l (program_parts l ps)
unfolding program_parts
parts_add l [] = ([], refl)
parts_add l (p ∷ ps) = adds_then l (program_part l p) (program_parts (program_part l p) ps) (part_adds l p) (parts_add (program_part l p) ps)

-- ---- cells by certain types

module _ (ts : Compounds) where
  abbrev cells_in : List Content → ℕ
  cells_in cs = length (contents_least ts cs)

  abbrev IsSmall : Layer → Type 0
  IsSmall l = AreSmallNames ts l.names

  before : (l m : Layer) → Adds l m → IsSmall m → IsSmall l
  before l m a h = each_right _ a.0 l.names (subst (AreSmallNames ts) a.1 h)

  one_more : (cs : List Content) (c : Content) → cells_in (cs ++ c ∷ []) ≡ cells_in cs + length (content_least ts c)
  unfolding contents_least
  one_more [] c = let e = length-append (content_least ts c) [] in omega (arith, e)
  one_more (d ∷ cs) c =
      let h = one_more cs c in
      let a = length-append (content_least ts d) (contents_least ts (cs ++ c ∷ [])) in
      let b = length-append (content_least ts d) (contents_least ts cs) in
      omega (arith, h, a, b)

  -- more cells than before, by these tokens
  abbrev Filled : (high low : ℕ) (l m : Layer) → Type 0
  Filled high low l m = cells_in m.owned.contents + 8192 * low ≤ cells_in l.owned.contents + 8192 * high

  same_filled : (high low : ℕ) (l m : Layer) → m.owned ≡ l.owned → low ≤ high → Filled high low l m
  same_filled high low l m e le = let c : cells_in m.owned.contents ≡ cells_in l.owned.contents = ap (λ (o : Owned). cells_in o.contents) e in omega (arith, c, le)

  variable_filled : (l : Layer) (x : List ℕ) (t : CellType) → IsSmall (variable l x t) → Filled 1 0 l (variable l x t)
  variable_filled l x t h = go (components_of l.types t) h
    where
      go : (o : Option Contained) → IsSmall (variable_with l x t o) → Filled 1 0 l (variable_with l x t o)
      go (Some c) s = omega arith
      go None s = let few : length (least ts t) ≤ 8192 = s.0 in let e = one_more l.owned.contents (content.Variable t) in omega (arith, few, e)

  variables_of_filled : (l : Layer) (t : CellType) (is : List Identifier) → IsSmall (variables_of l t is) → Filled (length is) 0 l (variables_of l t is)
  unfolding variables_of
  variables_of_filled l t [] h = omega arith
  variables_of_filled l t (i ∷ is) h =
      let k : Layer = variable l i.name t in
      let a = variable_filled l i.name t (before k (variables_of k t is) (declared_adds k (variables_of k t is) (variables_of_declare k t is)) h) in
      let b = variables_of_filled k t is h in
      omega (arith, a, b)

  group_filled : (l : Layer) (g : syntax.VariableGroup) (rest : List Kind) → IsSmall (variable_group l g) → Filled (length (put_variable_group g rest)) (length rest) l (variable_group l g)
  group_filled l g rest h =
      let x = written_type l g.variable_type in
      let last : List Kind = kind.Mark mark.Semicolon ∷ rest in
      let a = names_room 0 g.names (kind.Mark mark.Colon ∷ put_type g.variable_type last) in
      let b = grows_type g.variable_type last in
      let c = same_filled 0 0 l x.1 (written_owned l g.variable_type) (omega arith) in
      let d = variables_of_filled x.1 x.0 g.names h in
      omega (arith, a, b, c, d)

  variables_filled : (l : Layer) (gs : List syntax.VariableGroup) (rest : List Kind) → IsSmall (variables l gs) → Filled (length (put_all put_variable_group gs rest)) (length rest) l (variables l gs)
  unfolding variables
  variables_filled l [] rest h = omega arith
  variables_filled l (g ∷ gs) rest h =
      let k : Layer = variable_group l g in
      let a = group_filled l g (put_all put_variable_group gs rest) (before k (variables k gs) (declared_adds k (variables k gs) (variables_declare k gs)) h) in
      let b = variables_filled k gs rest h in
      omega (arith, a, b)

  part_filled : (l : Layer) (d : syntax.Part) (rest : List Kind) → IsSmall (permanent_part l d) → Filled (length (put_part d rest)) (length rest) l (permanent_part l d)
  part_filled l (syntax.constants at ds) rest h = let a = grows_all put_constant_definition grows_constant_definition ds rest in same_filled _ (length rest) l (constants l ds) (constants_owned l ds) (omega (arith, a))
  part_filled l (syntax.types at ds) rest h = let a = grows_all put_type_definition grows_type_definition ds rest in same_filled _ (length rest) l (type_definitions l ds) (definitions_owned l ds) (omega (arith, a))
  part_filled l (syntax.variables at gs) rest h = let a = variables_filled l gs rest h in omega (arith, a)

  parts_filled : (l : Layer) (ds : List syntax.Part) (rest : List Kind) → IsSmall (permanent_parts l ds) → Filled (length (put_all put_part ds rest)) (length rest) l (permanent_parts l ds)
  unfolding permanent_parts
  parts_filled l [] rest h = omega arith
  parts_filled l (d ∷ ds) rest h =
      let k : Layer = permanent_part l d in
      let a = part_filled l d (put_all put_part ds rest) (before k (permanent_parts k ds) (declared_adds k (permanent_parts k ds) (permanent_parts_declare k ds)) h) in
      let b = parts_filled k ds rest h in
      omega (arith, a, b)

  -- ---- parameters of system types

  cell_filled : (l : Layer) (ps : Parameters) (x : List ℕ) (t : CellType) → IsSmall (system_parameter l ps x t).1 → Filled 1 0 l (system_parameter l ps x t).1
  cell_filled l ps x (types.System k) h = let e = one_more l.owned.contents content.Component in omega (arith, e)
  cell_filled l ps x t h = let few : length (least ts t) ≤ 8192 = h.0 in let e = one_more l.owned.contents (content.Variable t) in omega (arith, few, e)

  parameters_filled : (l : Layer) (ps : Parameters) (t : CellType) (is : List Identifier) → IsSmall (system_parameters_of l ps t is).1 → Filled (length is) 0 l (system_parameters_of l ps t is).1
  unfolding system_parameters_of
  parameters_filled l ps t [] h = omega arith
  parameters_filled l ps t (i ∷ is) h =
      let x = system_parameter l ps i.name t in
      let m : Layer = (system_parameters_of x.1 x.0 t is).1 in
      let a = cell_filled l ps i.name t (before x.1 m (declared_adds x.1 m (system_parameters_declare x.1 x.0 t is)) h) in
      let b = parameters_filled x.1 x.0 t is h in
      omega (arith, a, b)

  parameter_group_filled : (l : Layer) (ps : Parameters) (g : syntax.Group) (rest : List Kind) → IsSmall (system_group l ps g).1 → Filled (length (put_group g rest)) (length rest) l (system_group l ps g).1
  parameter_group_filled l ps g rest h =
      let a = names_room 0 g.names (kind.Mark mark.Colon ∷ put_identifier g.type_name rest) in
      let b = parameters_filled l ps (type_of_name l g.type_name.name) g.names h in
      omega (arith, a, b)

  more_groups_filled : (l : Layer) (ps : Parameters) (gs : List syntax.Group) (rest : List Kind) → IsSmall (system_groups l ps gs).1 → Filled (length (put_all (put_behind mark.Semicolon put_group) gs rest)) (length rest) l (system_groups l ps gs).1
  unfolding system_groups
  more_groups_filled l ps [] rest h = omega arith
  more_groups_filled l ps (g ∷ gs) rest h =
      let x = system_group l ps g in
      let m : Layer = (system_groups x.1 x.0 gs).1 in
      let a = parameter_group_filled l ps g (put_all (put_behind mark.Semicolon put_group) gs rest) (before x.1 m (declared_adds x.1 m (system_groups_declare x.1 x.0 gs)) h) in
      let b = more_groups_filled x.1 x.0 gs rest h in
      omega (arith, a, b)

  groups_filled : (l : Layer) (gs : List syntax.Group) (rest : List Kind) → IsSmall (system_groups l [] gs).1 → Filled (length (put_parameters put_group gs rest)) (length rest) l (system_groups l [] gs).1
  unfolding system_groups
  groups_filled l [] rest h = omega arith
  groups_filled l (g ∷ gs) rest h =
      let last : List Kind = kind.Mark mark.CloseParenthesis ∷ rest in
      let x = system_group l [] g in
      let m : Layer = (system_groups x.1 x.0 gs).1 in
      let a = parameter_group_filled l [] g (put_all (put_behind mark.Semicolon put_group) gs last) (before x.1 m (declared_adds x.1 m (system_groups_declare x.1 x.0 gs)) h) in
      let b = more_groups_filled x.1 x.0 gs last h in
      omega (arith, a, b)

  -- ---- all system types

  module _ (k : Numbering) (total : ℕ) where
    abbrev pub IsFilled : Owned → Type 0
    IsFilled o = cells_in o.contents ≤ 8192 * total

    pub record Holds (low : ℕ) (l : Layer) : Type 0 where
      pub systems : Each (λ (s : System). IsFilled s.owned) l.systems
      pub own : cells_in l.owned.contents + 8192 * low ≤ 8192 * total

    declared_holds : (high low : ℕ) (l m : Layer) → Declares l m → Filled high low l m → Holds high l → Holds low m
    declared_holds high low l m d f h = let a = h.own in record { systems = subst (Each (λ (s : System). IsFilled s.owned)) (sym (ap (λ (j : Layer). j.systems) d.same)) h.systems; own = omega (arith, a, f) }

    begun_filled : (l : Layer) (y : syntax.System) (rest : List Kind) → IsSmall (system_begun l y) → length (put_system y rest) ≤ total → IsFilled (initial_statement (system_begun l y) (parameters_of l y) y.body).owned
    unfolding contents_least
    begun_filled l y rest s le =
        let b : List Kind = put_body y.body rest in
        let rs : List Kind = put_all put_routine y.routines b in
        let inside : List Kind = put_all put_part y.parts rs in
        let o : Layer = (enter_system l).1 in
        let x = system_groups o [] y.parameters in
        let p : Layer = permanent_parts x.1 y.parts in
        let k : Layer = routines p y.routines in
        let i = grows_optional mark.Semicolon y.has_semicolon inside in
        let small : IsSmall p = before p k (routines_add p y.routines) s in
        let a = groups_filled o y.parameters (put_optional mark.Semicolon y.has_semicolon inside) (before x.1 p (declared_adds x.1 p (permanent_parts_declare x.1 y.parts)) small) in
        let c = parts_filled x.1 y.parts rs small in
        let same : (initial_statement k x.0 y.body).owned ≡ p.owned = body_owned (with_heading (with_new_frame k) (heading_with [] x.0 None)) y.body true ∙ routines_owned p y.routines in
        let e : cells_in (initial_statement k x.0 y.body).owned.contents ≡ cells_in p.owned.contents = ap (λ (q : Owned). cells_in q.contents) same in
        omega (arith, a, c, e, i, le)

    definition_holds : (l : Layer) (v : syntax.Definition) (rest : List Kind) → Each IsSmall (definition_begun l v) → length (put_definition v rest) ≤ total → Holds (length (put_definition v rest)) l → Holds (length rest) (definition l v).1
    unfolding system
    definition_holds l (syntax.type_definition t) rest s le h = declared_holds (length (put_type t rest)) (length rest) l (written_type l t).1 (type_declares l t) (same_filled _ (length rest) l (written_type l t).1 (written_owned l t) (grows_type t rest)) h
    definition_holds l (syntax.system_definition y) rest s le h =
        let j : Layer = system_begun l y in
        let m : Layer = initial_statement j (parameters_of l y) y.body in
        let own : IsSmall j = (each_right IsSmall (routines_begun (parts_begun l y) y.routines) (initial_begun j (parameters_of l y) ∷ []) s).0 in
        let few : IsFilled m.owned = begun_filled l y rest own le in
        let a = h.own in
        let b = grows_definition (syntax.system_definition y) rest in
        record {
          systems = each_append (λ (s : System). IsFilled s.owned) m.systems (_ ∷ []) (subst (Each (λ (s : System). IsFilled s.owned)) (sym (initial_systems k l y)) h.systems) (few, tt);
          own = omega (arith, a, b);
        }

    definitions_hold : (l : Layer) (ds : List syntax.SystemDefinition) (rest : List Kind) → Each IsSmall (definitions_begun l ds) → length (put_all put_system_definition ds rest) ≤ total → Holds (length (put_all put_system_definition ds rest)) l → Holds (length rest) (system_definitions l ds)
    unfolding system_definitions
    definitions_hold l [] rest s le h = h
    definitions_hold l (d ∷ ds) rest s le h =
        let after : List Kind = put_all put_system_definition ds rest in
        let next : List Kind = kind.Mark mark.Semicolon ∷ after in
        let a = h.own in
        let g = grows_definition d.value next in
        let one : Holds (length next) (definition l d.value).1 = definition_holds l d.value next (each_left IsSmall (definition_begun l d.value) (definitions_begun (system_definition l d) ds) s) (omega (arith, le)) (record { systems = h.systems; own = omega (arith, a) }) in
        let b = one.own in
        definitions_hold (system_definition l d) ds rest (each_right IsSmall (definition_begun l d.value) (definitions_begun (system_definition l d) ds) s) (omega (arith, g, le)) (record { systems = one.systems; own = omega (arith, b) })

    part_holds : (l : Layer) (q : syntax.ProgramPart) (rest : List Kind) → Each IsSmall (part_begun l q) → IsSmall (program_part l q) → length (put_program_part q rest) ≤ total → Holds (length (put_program_part q rest)) l → Holds (length rest) (program_part l q)
    part_holds l (syntax.program_constants at ds) rest s w le h =
        let a = grows_all put_constant_definition grows_constant_definition ds rest in
        declared_holds (length (put_program_part (syntax.program_constants at ds) rest)) (length rest) l (constants l ds) (constants_declare l ds) (same_filled _ (length rest) l (constants l ds) (constants_owned l ds) (omega (arith, a))) h
    part_holds l (syntax.program_types at ds) rest s w le h = let a = h.own in definitions_hold l ds rest s (omega (arith, le)) (record { systems = h.systems; own = omega (arith, a) })
    part_holds l (syntax.program_variables at gs) rest s w le h =
        let a = variables_filled l gs rest w in
        declared_holds (length (put_program_part (syntax.program_variables at gs) rest)) (length rest) l (variables l gs) (variables_declare l gs) (omega (arith, a)) h

    parts_hold : (l : Layer) (qs : List syntax.ProgramPart) (rest : List Kind) → Each IsSmall (program_parts_begun l qs) → IsSmall (program_parts l qs) → length (put_all put_program_part qs rest) ≤ total → Holds (length (put_all put_program_part qs rest)) l → Holds (length rest) (program_parts l qs)
    unfolding program_parts
    parts_hold l [] rest s w le h = h
    parts_hold l (q ∷ qs) rest s w le h =
        let after : List Kind = put_all put_program_part qs rest in
        let m : Layer = program_part l q in
        let one : Holds (length after) m = part_holds l q after (each_left IsSmall (part_begun l q) (program_parts_begun m qs) s) (before m (program_parts m qs) (parts_add m qs) w) le h in
        let a = one.own in
        parts_hold m qs rest (each_right IsSmall (part_begun l q) (program_parts_begun m qs) s) w (omega (arith, a, le)) one

    pub program_holds : (t : syntax.Tree) → length (spell t.program) ≤ total → Each IsSmall (all_begun t) → Holds 0 (program (nothing_laid t.lines) t.program)
    unfolding program contents_least
    program_holds t le s =
        let p : syntax.Program = t.program in
        let l : Layer = nothing_laid t.lines in
        let last : List Kind = put_body p.body (kind.Mark mark.Period ∷ []) in
        let rs : List Kind = put_all put_routine p.routines last in
        let j : Layer = program_parts l p.parts in
        let m : Layer = routines j p.routines in
        let rest : List Layer = routines_begun j p.routines ++ initial_begun m [] ∷ [] in
        let end : IsSmall m = (each_right IsSmall (routines_begun j p.routines) (initial_begun m [] ∷ []) (each_right IsSmall (program_parts_begun l p.parts) rest s)).0 in
        let h : Holds (length rs) j = parts_hold l p.parts rs (each_left IsSmall (program_parts_begun l p.parts) rest s) (before j m (routines_add j p.routines) end) le (record { systems = tt; own = omega (arith, le) }) in
        let same : (initial_statement m [] p.body).owned ≡ j.owned = body_owned (with_heading (with_new_frame m) (heading_with [] [] None)) p.body true ∙ routines_owned j p.routines in
        let cells : cells_in (initial_statement m [] p.body).owned.contents ≡ cells_in j.owned.contents = ap (λ (q : Owned). cells_in q.contents) same in
        let systems : (initial_statement m [] p.body).systems ≡ j.systems = body_systems (with_heading (with_new_frame m) (heading_with [] [] None)) p.body true ∙ routines_systems j p.routines in
        let a = h.own in
        record { systems = subst (Each (λ (s : System). IsFilled s.owned)) (sym systems) h.systems; own = omega (arith, a, cells) }
