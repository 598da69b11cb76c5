-- The frame of a routine begins with few cells, where each of its variables has few, and with no more `var` parameters than tokens.
use Rattle.std.proofs.Common.{◌≡◌, ℕ, suc, ◌+◌, ◌*◌, ◌≤◌, ◌++◌, Bool, true, false, if◌then◌else◌, List, [], ◌∷◌, length, refl, ap, ◌∙◌, arith, length-append}
use Rattle.cp_resolved.proofs.Words.{Kind, Identifier, CellType, Layer, Frame, least}
use Rattle.cp_text.specs.declared.token.Kind.TheVariants as kind
use Rattle.cp_text.specs.declared.token.Mark.TheVariants as mark
use Rattle.cp_tree.specs.Syntax as syntax
use Rattle.cp_tree.specs.Spelling.{put_behind, put_all, put_parameters, put_identifier, put_constant_definition, put_type_definition, put_variable_group, put_type, put_part, put_group, put_parameter_group, put_routine_kind}
use Rattle.cp_tree.proofs.Grows.{grows_all, grows_optional, grows_type, grows_constant_definition, grows_type_definition}
use Rattle.cp_layout.specs.LaidTypes.{written_type, type_of_name}
use Rattle.cp_layout.specs.LaidDeclarations.{constants, type_definitions, local, locals_of, local_group, local_variables, local_part, local_parts, Parameters, constant_parameter, constant_parameters_of, constant_group, constant_groups, var_parameter, var_parameters_of, var_group, parameter_group, parameter_groups, heading}
use Rattle.cp_resolved.proofs.counts.FewReferences.{one_more}
use Rattle.cp_resolved.proofs.frames.FrameKept.{type_cells, constants_cells, definitions_cells, frame_same}
use Rattle.cp_resolved.proofs.laid.Declares.{Declares, locals_of_declare, locals_declare, local_parts_declare, constant_parameters_declare, constant_groups_declare, parameter_groups_declare}
use Rattle.cp_resolved.proofs.declarations.Numbered.{names_room}
use Rattle.cp_resolved.proofs.names.SmallNames.{SmallNames, earlier, named_small}

-- ---- more cells than before, where variables have few, and more `var` parameters, by these tokens, and the same room

pub record Extended (high low : ℕ) (l m : Layer) : Type 0 where
  pub image : SmallNames m → length m.frame.image + 8192 * low ≤ length l.frame.image + 8192 * high
  pub extents : length m.frame.extents + low ≤ length l.frame.extents + high
  pub room : m.frame.room ≡ l.frame.room
  pub references : m.frame.reference_room ≡ l.frame.reference_room

unchanged : (high low : ℕ) (l m : Layer) → m.frame ≡ l.frame → low ≤ high → Extended high low l m
unchanged high low l m e le =
    let i : length m.frame.image ≡ length l.frame.image = ap (λ (f : Frame). length f.image) e in
    let j : length m.frame.extents ≡ length l.frame.extents = ap (λ (f : Frame). length f.extents) e in
    record { image = λ s. omega (arith, i, le); extents = omega (arith, j, le); room = ap (λ (f : Frame). f.room) e; references = ap (λ (f : Frame). f.reference_room) e }

joined : (high middle low : ℕ) (l k m : Layer) → Declares k m → Extended high middle l k → Extended middle low k m → Extended high low l m
joined high middle low l k m d h i =
    let a = h.extents in
    let b = i.extents in
    record { image = λ s. (let x = h.image (earlier k m d s) in let y = i.image s in omega (arith, x, y)); extents = omega (arith, a, b); room = i.room ∙ h.room; references = i.references ∙ h.references }

wider : (high higher low lower : ℕ) (l m : Layer) → high + lower ≤ higher + low → Extended high low l m → Extended higher lower l m
wider high higher low lower l m le h = let a = h.extents in record { image = λ s. (let x = h.image s in omega (arith, x, le)); extents = omega (arith, a, le); room = h.room; references = h.references }

-- a variable of this type
one_variable : (l m k : Layer) (n : ℕ) (t : CellType) → (SmallNames m → length (least l.types t) ≤ 8192) → m.frame ≡ record l.frame { image = l.frame.image ++ least l.types t } → Declares m k → Extended n 0 m k → Extended (suc n) 0 l k
one_variable l m k n t few e d h =
    let i : length m.frame.image ≡ length l.frame.image + length (least l.types t) = ap (λ (f : Frame). length f.image) e ∙ length-append l.frame.image (least l.types t) in
    let j : length m.frame.extents ≡ length l.frame.extents = ap (λ (f : Frame). length f.extents) e in
    let a = h.extents in
    record {
      image = λ s. (let x = h.image s in let y = few (earlier m k d s) in omega (arith, x, y, i));
      extents = omega (arith, a, j);
      room = h.room ∙ ap (λ (f : Frame). f.room) e;
      references = h.references ∙ ap (λ (f : Frame). f.reference_room) e;
    }

-- ---- local variables

locals_extended : (l : Layer) (t : CellType) (is : List Identifier) → Extended (length is) 0 l (locals_of l t is)
unfolding locals_of
locals_extended l t [] = unchanged 0 0 l l refl (omega arith)
locals_extended l t (i ∷ is) = let k : Layer = local l i.name t in one_variable l k (locals_of k t is) (length is) t (λ s. s.0) refl (locals_of_declare k t is) (locals_extended k t is)

group_extended : (l : Layer) (g : syntax.VariableGroup) (rest : List Kind) → Extended (length (put_variable_group g rest)) (length rest) l (local_group l g)
group_extended l g rest =
    let x = written_type l g.variable_type in
    let last : List Kind = kind.Mark mark.Semicolon ∷ rest in
    let a = names_room 0 g.names (kind.Mark mark.Colon ∷ put_type g.variable_type last) in
    let b = grows_type g.variable_type last in
    let n : ℕ = length g.names in
    wider n (length (put_variable_group g rest)) 0 (length rest) l (local_group l g) (omega (arith, a, b)) (joined n n 0 l x.1 (local_group l g) (locals_of_declare x.1 x.0 g.names) (unchanged n n l x.1 (frame_same l x.1 (type_cells l g.variable_type)) (omega arith)) (locals_extended x.1 x.0 g.names))

variables_extended : (l : Layer) (gs : List syntax.VariableGroup) (rest : List Kind) → Extended (length (put_all put_variable_group gs rest)) (length rest) l (local_variables l gs)
unfolding local_variables
variables_extended l [] rest = unchanged (length rest) (length rest) l l refl (omega arith)
variables_extended l (g ∷ gs) rest =
    let k : Layer = local_group l g in
    let after : List Kind = put_all put_variable_group gs rest in
    joined (length (put_variable_group g after)) (length after) (length rest) l k (local_variables k gs) (locals_declare k gs) (group_extended l g after) (variables_extended k gs rest)

part_extended : (l : Layer) (d : syntax.Part) (rest : List Kind) → Extended (length (put_part d rest)) (length rest) l (local_part l d)
part_extended l (syntax.constants at ds) rest = let a = grows_all put_constant_definition grows_constant_definition ds rest in unchanged _ (length rest) l (constants l ds) (frame_same l (constants l ds) (constants_cells l ds)) (omega (arith, a))
part_extended l (syntax.types at ds) rest = let a = grows_all put_type_definition grows_type_definition ds rest in unchanged _ (length rest) l (type_definitions l ds) (frame_same l (type_definitions l ds) (definitions_cells l ds)) (omega (arith, a))
part_extended l (syntax.variables at gs) rest = wider (length (put_all put_variable_group gs rest)) (length (put_part (syntax.variables at gs) rest)) (length rest) (length rest) l (local_variables l gs) (omega arith) (variables_extended l gs rest)

pub parts_extended : (l : Layer) (ds : List syntax.Part) (rest : List Kind) → Extended (length (put_all put_part ds rest)) (length rest) l (local_parts l ds)
unfolding local_parts
parts_extended l [] rest = unchanged (length rest) (length rest) l l refl (omega arith)
parts_extended l (d ∷ ds) rest =
    let k : Layer = local_part l d in
    let after : List Kind = put_all put_part ds rest in
    joined (length (put_part d after)) (length after) (length rest) l k (local_parts k ds) (local_parts_declare k ds) (part_extended l d after) (parts_extended k ds rest)

-- ---- headings

constants_extended : (l : Layer) (ps : Parameters) (t : CellType) (is : List Identifier) → Extended (length is) 0 l (constant_parameters_of l ps t is).1
unfolding constant_parameters_of
constants_extended l ps t [] = unchanged 0 0 l l refl (omega arith)
constants_extended l ps t (i ∷ is) = let x = constant_parameter l ps i.name t in one_variable l x.1 (constant_parameters_of x.1 x.0 t is).1 (length is) t (λ s. s.0) refl (constant_parameters_declare x.1 x.0 t is) (constants_extended x.1 x.0 t is)

vars_extended : (l : Layer) (ps : Parameters) (t : CellType) (is : List Identifier) → Extended (length is) 0 l (var_parameters_of l ps t is).1
unfolding var_parameters_of
vars_extended l ps t [] = unchanged 0 0 l l refl (omega arith)
vars_extended l ps t (i ∷ is) =
    let x = var_parameter l ps i.name t in
    let h = vars_extended x.1 x.0 t is in
    let a = h.extents in
    let b : length x.1.frame.extents ≡ length l.frame.extents + 1 = one_more l.frame.extents _ in
    record { image = λ s. (let c = h.image s in omega (arith, c)); extents = omega (arith, a, b); room = h.room; references = h.references }

-- where each variable is named by a token
named_extended : (l m : Layer) (g : syntax.Group) (high : ℕ) (rest : List Kind) → length (put_group g rest) ≤ high → Extended (length g.names) 0 l m → Extended high (length rest) l m
named_extended l m g high rest le h = let a = names_room 0 g.names (kind.Mark mark.Colon ∷ put_identifier g.type_name rest) in wider (length g.names) high 0 (length rest) l m (omega (arith, a, le)) h

constant_group_extended : (l : Layer) (ps : Parameters) (g : syntax.Group) (rest : List Kind) → Extended (length (put_group g rest)) (length rest) l (constant_group l ps g).1
constant_group_extended l ps g rest = named_extended l (constant_group l ps g).1 g (length (put_group g rest)) rest (omega arith) (constants_extended l ps (type_of_name l g.type_name.name) g.names)

parameter_group_extended : (l : Layer) (ps : Parameters) (g : syntax.ParameterGroup) (rest : List Kind) → Extended (length (put_parameter_group g rest)) (length rest) l (parameter_group l ps g).1
parameter_group_extended l ps g rest = named_extended l (parameter_group l ps g).1 g.group (length (put_parameter_group g rest)) rest (grows_optional mark.Var g.is_var (put_group g.group rest)) (go g.is_var)
  where
    go : (b : Bool) → Extended (length g.group.names) 0 l (if b then var_group l ps g.group else constant_group l ps g.group).1
    go true = vars_extended l ps (type_of_name l g.group.type_name.name) g.group.names
    go false = constants_extended l ps (type_of_name l g.group.type_name.name) g.group.names

more_groups_extended : (l : Layer) (ps : Parameters) (gs : List syntax.ParameterGroup) (rest : List Kind) → Extended (length (put_all (put_behind mark.Semicolon put_parameter_group) gs rest)) (length rest) l (parameter_groups l ps gs).1
unfolding parameter_groups
more_groups_extended l ps [] rest = unchanged (length rest) (length rest) l l refl (omega arith)
more_groups_extended l ps (g ∷ gs) rest =
    let x = parameter_group l ps g in
    let after : List Kind = put_all (put_behind mark.Semicolon put_parameter_group) gs rest in
    let a = parameter_group_extended l ps g after in
    joined _ (length after) (length rest) l x.1 (parameter_groups x.1 x.0 gs).1 (parameter_groups_declare x.1 x.0 gs) (wider (length (put_parameter_group g after)) _ (length after) (length after) l x.1 (omega arith) a) (more_groups_extended x.1 x.0 gs rest)

groups_extended : (l : Layer) (gs : List syntax.ParameterGroup) (rest : List Kind) → Extended (length (put_parameters put_parameter_group gs rest)) (length rest) l (parameter_groups l [] gs).1
unfolding parameter_groups
groups_extended l [] rest = unchanged (length rest) (length rest) l l refl (omega arith)
groups_extended l (g ∷ gs) rest =
    let last : List Kind = kind.Mark mark.CloseParenthesis ∷ rest in
    let x = parameter_group l [] g in
    let after : List Kind = put_all (put_behind mark.Semicolon put_parameter_group) gs last in
    wider (length (put_parameter_group g after)) (length (put_parameters put_parameter_group (g ∷ gs) rest)) (length last) (length rest) l (parameter_groups x.1 x.0 gs).1 (omega arith)
    (joined (length (put_parameter_group g after)) (length after) (length last) l x.1 (parameter_groups x.1 x.0 gs).1 (parameter_groups_declare x.1 x.0 gs) (parameter_group_extended l [] g after) (more_groups_extended x.1 x.0 gs last))

more_constants_extended : (l : Layer) (ps : Parameters) (gs : List syntax.Group) (rest : List Kind) → Extended (length (put_all (put_behind mark.Semicolon put_group) gs rest)) (length rest) l (constant_groups l ps gs).1
unfolding constant_groups
more_constants_extended l ps [] rest = unchanged (length rest) (length rest) l l refl (omega arith)
more_constants_extended l ps (g ∷ gs) rest =
    let x = constant_group l ps g in
    let after : List Kind = put_all (put_behind mark.Semicolon put_group) gs rest in
    let a = constant_group_extended l ps g after in
    joined _ (length after) (length rest) l x.1 (constant_groups x.1 x.0 gs).1 (constant_groups_declare x.1 x.0 gs) (wider (length (put_group g after)) _ (length after) (length after) l x.1 (omega arith) a) (more_constants_extended x.1 x.0 gs rest)

all_constants_extended : (l : Layer) (gs : List syntax.Group) (rest : List Kind) → Extended (length (put_parameters put_group gs rest)) (length rest) l (constant_groups l [] gs).1
unfolding constant_groups
all_constants_extended l [] rest = unchanged (length rest) (length rest) l l refl (omega arith)
all_constants_extended l (g ∷ gs) rest =
    let last : List Kind = kind.Mark mark.CloseParenthesis ∷ rest in
    let x = constant_group l [] g in
    let after : List Kind = put_all (put_behind mark.Semicolon put_group) gs last in
    wider (length (put_group g after)) (length (put_parameters put_group (g ∷ gs) rest)) (length last) (length rest) l (constant_groups x.1 x.0 gs).1 (omega arith)
    (joined (length (put_group g after)) (length after) (length last) l x.1 (constant_groups x.1 x.0 gs).1 (constant_groups_declare x.1 x.0 gs) (constant_group_extended l [] g after) (more_constants_extended x.1 x.0 gs last))

pub heading_extended : (l : Layer) (x : List ℕ) (k : syntax.RoutineKind) (rest : List Kind) → Extended (length (put_routine_kind k rest)) (length rest) l (heading l x k).1
unfolding heading
heading_extended l x (syntax.procedure gs) rest = groups_extended l gs rest
heading_extended l x (syntax.function gs i) rest =
    let q = (constant_groups l [] gs).1 in
    let r = all_constants_extended l gs (kind.Mark mark.Colon ∷ put_identifier i rest) in
    let a = r.extents in
    let e = length-append q.frame.image (least q.types (type_of_name q i.name)) in
    record {
      image = λ s. (let b = r.image s in let few : length (least q.types (type_of_name q i.name)) ≤ 8192 = named_small q i.name s in omega (arith, b, few, e));
      extents = omega (arith, a);
      room = r.room;
      references = r.references;
    }
heading_extended l x syntax.invariants rest = unchanged (length rest) (length rest) l l refl (omega arith)
