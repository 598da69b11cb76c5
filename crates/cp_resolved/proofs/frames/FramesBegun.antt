-- Where the statements of a routine begin, its frame has its parameters, its result and its variables, one after the other.
use Rattle.std.proofs.Common.{◌≡◌, Bool, true, false, if◌then◌else◌, List, [], ◌∷◌, ◌++◌, length, Option, Some, None, refl, sym, ap, subst, ◌∙◌, append_assoc, append-nil}
use Rattle.cp_resolved.proofs.Words.{Identifier, CellType, FunctionResult, Compounds, Layer, written_type, Name, result_name, Ty, Scope, local_variable}
use Rattle.cp_resolved.proofs.Words.{parameter_variables, routine_begun, Enumerated, each_in, in_type, in_part, in_routine, look, with_routine, Each}
use Rattle.cp_resolved.proofs.Words.{IsSmallType, IsSmallPart, IsSmallRoutine, AreNumbered, parameters_by, result_variables}
use Rattle.cp_tree.specs.Syntax as syntax
use Rattle.cp_layout.specs.Layers as layers
use Rattle.cp_layout.specs.LaidTypes as laid
use Rattle.cp_layout.specs.LaidDeclarations.{local, locals_of, local_group, local_variables, local_part, local_parts, Parameters, constant_parameter, constant_parameters_of, constant_group, constant_groups, var_parameter, var_parameters_of, var_group, parameter_group, parameter_groups, heading, with_heading, open_routine}
use Rattle.cp_meaning.specs.Scopes as scopes
use Rattle.cp_meaning.specs.Declarations as meant
use Rattle.cp_meaning.specs.Declarations.{Variable, Parameter, Block, Heading, names_of, named_variables, parameters_named, with_names, routine_in}
use Rattle.cp_resolved.specs.InStep.{Numbering, TypeIs, InStep}
use Rattle.cp_resolved.proofs.laid.Declares.{Declares, locals_of_declare, locals_declare, local_parts_declare, constant_groups_declare, parameter_groups_declare, either_group_declares}
use Rattle.cp_resolved.proofs.laid.Extends.{Longer, longer_trans, declared_extends}
use Rattle.cp_resolved.proofs.frames.FrameCells.{none_left, none_right, none_both, total, images_length}
use Rattle.cp_resolved.proofs.frames.FrameSteps.{counted_first, HasCells, Fits, fits_left, fits_right, fits_fewer, AreLying, Frames, constants_framed, definitions_framed, type_framed, one_variable, result_framed, local_framed, reference_framed}
use Rattle.cp_resolved.proofs.systems.Sizes.{Counted}
use Rattle.cp_resolved.proofs.names.StepsOfParts.{Reached, reached_then, written_reached, locals_of_reached, local_part_reached, constant_groups_reached, either_group_reached, heading_reached}
use Rattle.cp_resolved.proofs.names.StepsOfTypes.{Written, type_written, named_type_same, numbered_left, numbered_after}

-- ---- lists that grow

pub variables_grow : (m : Ty → scopes.Meaning) (b : Block) (gs : List syntax.VariableGroup) → Longer b.variables (meant.variables_in m b gs).variables
variables_grow m b [] = ([], sym (append-nil b.variables))
variables_grow m b (g ∷ gs) =
    let y : Ty × Scope = meant.type_in b.scope g.variable_type in
    let c : Block = record { variables = b.variables ++ named_variables (names_of g.names) y.0; scope = with_names (names_of g.names) (m y.0) y.1 } in
    longer_trans b.variables c.variables (meant.variables_in m c gs).variables (named_variables (names_of g.names) y.0, refl) (variables_grow m c gs)

pub part_grows : (m : Ty → scopes.Meaning) (b : Block) (p : syntax.Part) → Longer b.variables (meant.part_in m b p).variables
part_grows m b (syntax.variables at gs) = variables_grow m b gs
part_grows m b _ = ([], sym (append-nil b.variables))

pub parts_grow : (m : Ty → scopes.Meaning) (b : Block) (ps : List syntax.Part) → Longer b.variables (meant.parts_in m b ps).variables
parts_grow m b [] = ([], sym (append-nil b.variables))
parts_grow m b (p ∷ ps) = longer_trans b.variables (meant.part_in m b p).variables (meant.parts_in m b (p ∷ ps)).variables (part_grows m b p) (parts_grow m (meant.part_in m b p) ps)

-- what fits to more fits to fewer
pub fits_before : (pre vs ws : List Variable) → Longer vs ws → Fits pre ws → Fits pre vs
fits_before pre vs ws x h = fits_left pre vs x.0 (subst (λ us. Fits pre us) x.1 h)

pub groups_grow : (m : Ty → scopes.Meaning) (h : Heading) (gs : List syntax.Group) → Longer h.parameters (meant.with_groups m h gs).parameters
groups_grow m h [] = ([], sym (append-nil h.parameters))
groups_grow m h (g ∷ gs) =
    let j : Heading = meant.with_group m false h g in
    longer_trans h.parameters j.parameters (meant.with_groups m j gs).parameters (parameters_named (names_of g.names) (meant.type_named h.scope g.type_name.name) false, refl) (groups_grow m j gs)

pub parameter_groups_grow : (h : Heading) (gs : List syntax.ParameterGroup) → Longer h.parameters (meant.with_parameter_groups h gs).parameters
parameter_groups_grow h [] = ([], sym (append-nil h.parameters))
parameter_groups_grow h (g ∷ gs) =
    let j : Heading = meant.with_group local_variable g.is_var h g.group in
    longer_trans h.parameters j.parameters (meant.with_parameter_groups j gs).parameters (parameters_named (names_of g.group.names) (meant.type_named h.scope g.group.type_name.name) g.is_var, refl) (parameter_groups_grow j gs)

-- ---- value parameters and `var` parameters

pub variables_append : (qs ps : List Parameter) → parameter_variables (qs ++ ps) ≡ parameter_variables qs ++ parameter_variables ps
variables_append [] ps = refl
variables_append (q ∷ qs) ps = ap (λ vs. one_variable q.name q.ty ∷ vs) (variables_append qs ps)

pub by_append : (b : Bool) (qs ps : List Parameter) → parameters_by b (qs ++ ps) ≡ parameters_by b qs ++ parameters_by b ps
by_append true [] ps = refl
by_append false [] ps = refl
by_append true (q ∷ qs) ps = go q.is_var (by_append true qs ps)
  where
    go : (c : Bool) → parameters_by true (qs ++ ps) ≡ parameters_by true qs ++ parameters_by true ps → (if c then one_variable q.name q.ty ∷ parameters_by true (qs ++ ps) else parameters_by true (qs ++ ps)) ≡ (if c then one_variable q.name q.ty ∷ parameters_by true qs else parameters_by true qs) ++ parameters_by true ps
    go true rest = ap (λ vs. one_variable q.name q.ty ∷ vs) rest
    go false rest = rest
by_append false (q ∷ qs) ps = go q.is_var (by_append false qs ps)
  where
    go : (c : Bool) → parameters_by false (qs ++ ps) ≡ parameters_by false qs ++ parameters_by false ps → (if c then parameters_by false (qs ++ ps) else one_variable q.name q.ty ∷ parameters_by false (qs ++ ps)) ≡ (if c then parameters_by false qs else one_variable q.name q.ty ∷ parameters_by false qs) ++ parameters_by false ps
    go true rest = rest
    go false rest = ap (λ vs. one_variable q.name q.ty ∷ vs) rest

by_true : (xs : List Name) (t : Ty) → (parameters_by true (parameters_named xs t true) ≡ named_variables xs t) × (parameters_by false (parameters_named xs t true) ≡ [])
by_true [] t = (refl, refl)
by_true (x ∷ xs) t = let h = by_true xs t in (ap (λ vs. one_variable x t ∷ vs) h.0, h.1)

by_false : (xs : List Name) (t : Ty) → (parameters_by false (parameters_named xs t false) ≡ named_variables xs t) × (parameters_by true (parameters_named xs t false) ≡ [])
by_false [] t = (refl, refl)
by_false (x ∷ xs) t = let h = by_false xs t in (ap (λ vs. one_variable x t ∷ vs) h.0, h.1)

pub named_parameters : (xs : List Name) (t : Ty) (b : Bool) → parameter_variables (parameters_named xs t b) ≡ named_variables xs t
named_parameters [] t b = refl
named_parameters (x ∷ xs) t b = ap (λ vs. one_variable x t ∷ vs) (named_parameters xs t b)

-- what is no parameter is neither
pub no_parameter : (b : Bool) (x : Name) (qs : List Parameter) → look x (parameter_variables qs) ≡ None → look x (parameters_by b qs) ≡ None
no_parameter true x [] h = refl
no_parameter false x [] h = refl
no_parameter true x (q ∷ qs) h = go q.is_var (no_parameter true x qs (none_right x (one_variable q.name q.ty ∷ []) (parameter_variables qs) h))
  where
    go : (c : Bool) → look x (parameters_by true qs) ≡ None → look x (if c then one_variable q.name q.ty ∷ parameters_by true qs else parameters_by true qs) ≡ None
    go true rest = none_both x (one_variable q.name q.ty ∷ []) (parameters_by true qs) (none_left x (one_variable q.name q.ty ∷ []) (parameter_variables qs) h) rest
    go false rest = rest
no_parameter false x (q ∷ qs) h = go q.is_var (no_parameter false x qs (none_right x (one_variable q.name q.ty ∷ []) (parameter_variables qs) h))
  where
    go : (c : Bool) → look x (parameters_by false qs) ≡ None → look x (if c then parameters_by false qs else one_variable q.name q.ty ∷ parameters_by false qs) ≡ None
    go true rest = rest
    go false rest = none_both x (one_variable q.name q.ty ∷ []) (parameters_by false qs) (none_left x (one_variable q.name q.ty ∷ []) (parameter_variables qs) h) rest

-- ---- the walk

module _ (k : Numbering) (all : Compounds) (counted : Counted all) where
  among : (l m : Layer) → Declares l m → Longer m.types all → Longer l.types all
  among l m d x = longer_trans l.types m.types all (declared_extends l m d).types x

  -- ---- local variables

  locals_of_framed : (l : Layer) (t : Ty) (v : CellType) (is : List Identifier) (vs rs : List Variable) → TypeIs k l.types t v → Counted l.types → Fits vs (named_variables (names_of is) t) → Frames l vs rs → Frames (locals_of l v is) (vs ++ named_variables (names_of is) t) rs
  unfolding locals_of
  locals_of_framed l t v [] vs rs i c f h = subst (λ us. Frames l us rs) (sym (append-nil vs)) h
  locals_of_framed l t v (x ∷ xs) vs rs i c f h =
      subst (λ us. Frames (locals_of (local l x.name v) v xs) us rs) (append_assoc vs (one_variable x.name t ∷ []) (named_variables (names_of xs) t))
      (locals_of_framed (local l x.name v) t v xs (vs ++ one_variable x.name t ∷ []) rs i c f.1 (local_framed k l x.name t v vs rs i c f.0 h))

  locals_framed : (l : Layer) (b : Block) (gs : List syntax.VariableGroup) (pre rs : List Variable) → Each (λ g. IsSmallType g.variable_type) gs → AreNumbered k.firsts (length l.constants) (each_in (λ g. in_type g.variable_type) gs) → InStep k l.types l.names b.scope →
      Longer (local_variables l gs).types all → Fits pre (meant.variables_in local_variable b gs).variables → Frames l (pre ++ b.variables) rs → Frames (local_variables l gs) (pre ++ (meant.variables_in local_variable b gs).variables) rs
  unfolding local_variables
  locals_framed l b [] pre rs s n i x f h = h
  locals_framed l b (g ∷ gs) pre rs s n i x f h =
      let fs : List Enumerated = each_in (λ (g : syntax.VariableGroup). in_type g.variable_type) gs in
      let v : CellType × Layer = written_type l g.variable_type in
      let y : Ty × Scope = meant.type_in b.scope g.variable_type in
      let w : Written k l v y (in_type g.variable_type) = type_written k l b.scope g.variable_type s.0 (numbered_left k (length l.constants) (in_type g.variable_type) fs n) i in
      let m : Layer = local_group l g in
      let new : List Variable = named_variables (names_of g.names) y.0 in
      let c : Block = record { variables = b.variables ++ new; scope = with_names (names_of g.names) (local_variable y.0) y.1 } in
      let a : Reached k l m c.scope (in_type g.variable_type) = reached_then k l v.1 m y.1 c.scope (in_type g.variable_type) (written_reached k l v y (in_type g.variable_type) w) (locals_of_reached k v.1 y.1 y.0 v.0 g.names w.belongs w.names) in
      let few : Counted v.1.types = counted_first v.1.types all (among v.1 m (locals_of_declare v.1 v.0 g.names) (among m (local_variables m gs) (locals_declare m gs) x)) counted in
      let now : Fits pre (b.variables ++ new) = fits_before pre (b.variables ++ new) (meant.variables_in local_variable c gs).variables (variables_grow local_variable c gs) f in
      let one : Frames m ((pre ++ b.variables) ++ new) rs = locals_of_framed v.1 y.0 v.0 g.names (pre ++ b.variables) rs w.belongs few (fits_right pre b.variables new now) (type_framed l g.variable_type (pre ++ b.variables) rs h) in
      locals_framed m c gs pre rs s.1 (numbered_after k l.constants m.constants (in_type g.variable_type) fs a.constants n) a.names x f (subst (λ us. Frames m us rs) (append_assoc pre b.variables new) one)

  part_framed : (l : Layer) (b : Block) (p : syntax.Part) (pre rs : List Variable) → IsSmallPart p → AreNumbered k.firsts (length l.constants) (in_part p) → InStep k l.types l.names b.scope →
      Longer (local_part l p).types all → Fits pre (meant.part_in local_variable b p).variables → Frames l (pre ++ b.variables) rs → Frames (local_part l p) (pre ++ (meant.part_in local_variable b p).variables) rs
  part_framed l b (syntax.constants at ds) pre rs s n i x f h = constants_framed l ds (pre ++ b.variables) rs h
  part_framed l b (syntax.types at ds) pre rs s n i x f h = definitions_framed l ds (pre ++ b.variables) rs h
  part_framed l b (syntax.variables at gs) pre rs s n i x f h = locals_framed l b gs pre rs s n i x f h

  parts_framed : (l : Layer) (b : Block) (ps : List syntax.Part) (pre rs : List Variable) → Each IsSmallPart ps → AreNumbered k.firsts (length l.constants) (each_in in_part ps) → InStep k l.types l.names b.scope →
      Longer (local_parts l ps).types all → Fits pre (meant.parts_in local_variable b ps).variables → Frames l (pre ++ b.variables) rs → Frames (local_parts l ps) (pre ++ (meant.parts_in local_variable b ps).variables) rs
  unfolding local_parts
  parts_framed l b [] pre rs s n i x f h = h
  parts_framed l b (p ∷ ps) pre rs s n i x f h =
      let m : Layer = local_part l p in
      let c : Block = meant.part_in local_variable b p in
      let a : Reached k l m c.scope (in_part p) = local_part_reached k l b p s.0 (numbered_left k (length l.constants) (in_part p) (each_in in_part ps) n) i in
      let one : Frames m (pre ++ c.variables) rs = part_framed l b p pre rs s.0 (numbered_left k (length l.constants) (in_part p) (each_in in_part ps) n) i (among m (local_parts m ps) (local_parts_declare m ps) x) (fits_before pre c.variables (meant.parts_in local_variable c ps).variables (parts_grow local_variable c ps) f) h in
      parts_framed m c ps pre rs s.1 (numbered_after k l.constants m.constants (in_part p) (each_in in_part ps) a.constants n) a.names x f one

  -- ---- parameters

  constants_of_framed : (l : Layer) (ps : Parameters) (t : Ty) (v : CellType) (is : List Identifier) (vs rs : List Variable) → TypeIs k l.types t v → Counted l.types → Fits vs (named_variables (names_of is) t) → Frames l vs rs → Frames (constant_parameters_of l ps v is).1 (vs ++ named_variables (names_of is) t) rs
  unfolding constant_parameters_of
  constants_of_framed l ps t v [] vs rs i c f h = subst (λ us. Frames l us rs) (sym (append-nil vs)) h
  constants_of_framed l ps t v (x ∷ xs) vs rs i c f h =
      let m : Parameters × Layer = constant_parameter l ps x.name v in
      subst (λ us. Frames (constant_parameters_of m.1 m.0 v xs).1 us rs) (append_assoc vs (one_variable x.name t ∷ []) (named_variables (names_of xs) t))
      (constants_of_framed m.1 m.0 t v xs (vs ++ one_variable x.name t ∷ []) rs i c f.1 (local_framed k l x.name t v vs rs i c f.0 h))

  vars_of_framed : (l : Layer) (ps : Parameters) (t : Ty) (v : CellType) (is : List Identifier) (vs rs : List Variable) → TypeIs k l.types t v → Fits rs (named_variables (names_of is) t) → Frames l vs rs → Frames (var_parameters_of l ps v is).1 vs (rs ++ named_variables (names_of is) t)
  unfolding var_parameters_of
  vars_of_framed l ps t v [] vs rs i f h = subst (λ us. Frames l vs us) (sym (append-nil rs)) h
  vars_of_framed l ps t v (x ∷ xs) vs rs i f h =
      let m : Parameters × Layer = var_parameter l ps x.name v in
      subst (λ us. Frames (var_parameters_of m.1 m.0 v xs).1 vs us) (append_assoc rs (one_variable x.name t ∷ []) (named_variables (names_of xs) t))
      (vars_of_framed m.1 m.0 t v xs vs (rs ++ one_variable x.name t ∷ []) i f.1 (reference_framed k l ps x.name t v vs rs i f.0 h))

  -- the frame of a heading so far
  abbrev Headed : Layer → List Parameter → Type 0
  Headed l qs = Frames l (parameters_by false qs) (parameters_by true qs)

  abbrev pub ParametersFit : List Parameter → Type 0
  ParametersFit qs = Fits [] (parameter_variables qs)

  parameters_before : (qs ps : List Parameter) → Longer qs ps → ParametersFit ps → ParametersFit qs
  parameters_before qs ps x f = fits_left [] (parameter_variables qs) (parameter_variables x.0) (subst (λ us. Fits [] us) (ap parameter_variables x.1 ∙ variables_append qs x.0) f)

  group_fits : (b : Bool) (qs : List Parameter) (xs : List Name) (t : Ty) (c : Bool) → ParametersFit (qs ++ parameters_named xs t c) → Fits (parameters_by b qs) (named_variables xs t)
  group_fits b qs xs t c f =
      fits_fewer (parameter_variables qs) (parameters_by b qs) (named_variables xs t) (λ x e. no_parameter b x qs e)
      (fits_right [] (parameter_variables qs) (named_variables xs t) (subst (λ us. Fits [] us) (variables_append qs (parameters_named xs t c) ∙ ap (λ us. parameter_variables qs ++ us) (named_parameters xs t c)) f))

  group_framed : (c : Bool) (l : Layer) (s : Scope) (qs : List Parameter) (ps : Parameters) (g : syntax.Group) → InStep k l.types l.names s → Counted l.types → ParametersFit (qs ++ parameters_named (names_of g.names) (meant.type_named s g.type_name.name) c) → Headed l qs →
      Headed (if c then var_group l ps g else constant_group l ps g).1 (qs ++ parameters_named (names_of g.names) (meant.type_named s g.type_name.name) c)
  group_framed true l s qs ps g i few f h =
      let t : Ty = meant.type_named s g.type_name.name in
      let xs : List Name = names_of g.names in
      let a : Frames (var_group l ps g).1 (parameters_by false qs) (parameters_by true qs ++ named_variables xs t) = vars_of_framed l ps t (laid.type_of_name l g.type_name.name) g.names (parameters_by false qs) (parameters_by true qs) (named_type_same k l s g.type_name.name i) (group_fits true qs xs t true f) h in
      let e : parameters_by true (qs ++ parameters_named xs t true) ≡ parameters_by true qs ++ named_variables xs t = by_append true qs (parameters_named xs t true) ∙ ap (λ us. parameters_by true qs ++ us) (by_true xs t).0 in
      let o : parameters_by false (qs ++ parameters_named xs t true) ≡ parameters_by false qs = by_append false qs (parameters_named xs t true) ∙ ap (λ us. parameters_by false qs ++ us) (by_true xs t).1 ∙ append-nil (parameters_by false qs) in
      subst (λ us. Frames (var_group l ps g).1 us (parameters_by true (qs ++ parameters_named xs t true))) (sym o) (subst (λ us. Frames (var_group l ps g).1 (parameters_by false qs) us) (sym e) a)
  group_framed false l s qs ps g i few f h =
      let t : Ty = meant.type_named s g.type_name.name in
      let xs : List Name = names_of g.names in
      let a : Frames (constant_group l ps g).1 (parameters_by false qs ++ named_variables xs t) (parameters_by true qs) = constants_of_framed l ps t (laid.type_of_name l g.type_name.name) g.names (parameters_by false qs) (parameters_by true qs) (named_type_same k l s g.type_name.name i) few (group_fits false qs xs t false f) h in
      let e : parameters_by false (qs ++ parameters_named xs t false) ≡ parameters_by false qs ++ named_variables xs t = by_append false qs (parameters_named xs t false) ∙ ap (λ us. parameters_by false qs ++ us) (by_false xs t).0 in
      let o : parameters_by true (qs ++ parameters_named xs t false) ≡ parameters_by true qs = by_append true qs (parameters_named xs t false) ∙ ap (λ us. parameters_by true qs ++ us) (by_false xs t).1 ∙ append-nil (parameters_by true qs) in
      subst (λ us. Frames (constant_group l ps g).1 us (parameters_by true (qs ++ parameters_named xs t false))) (sym e) (subst (λ us. Frames (constant_group l ps g).1 (parameters_by false qs ++ named_variables xs t) us) (sym o) a)

  constant_groups_framed : (l : Layer) (j : Heading) (ps : Parameters) (gs : List syntax.Group) → InStep k l.types l.names j.scope → Longer (constant_groups l ps gs).1.types all → ParametersFit (meant.with_groups local_variable j gs).parameters → Headed l j.parameters → Headed (constant_groups l ps gs).1 (meant.with_groups local_variable j gs).parameters
  unfolding constant_groups
  constant_groups_framed l j ps [] i x f h = h
  constant_groups_framed l j ps (g ∷ gs) i x f h =
      let m : Parameters × Layer = constant_group l ps g in
      let c : Heading = meant.with_group local_variable false j g in
      let a : Reached k l m.1 c.scope [] = either_group_reached k false false l j ps g i in
      let later : Longer m.1.types all = among m.1 (constant_groups m.1 m.0 gs).1 (constant_groups_declare m.1 m.0 gs) x in
      let few : Counted l.types = counted_first l.types all (among l m.1 (either_group_declares false l ps g) later) counted in
      constant_groups_framed m.1 c m.0 gs a.names x f (group_framed false l j.scope j.parameters ps g i few (parameters_before c.parameters (meant.with_groups local_variable c gs).parameters (groups_grow local_variable c gs) f) h)

  parameter_groups_framed : (l : Layer) (j : Heading) (ps : Parameters) (gs : List syntax.ParameterGroup) → InStep k l.types l.names j.scope → Longer (parameter_groups l ps gs).1.types all → ParametersFit (meant.with_parameter_groups j gs).parameters → Headed l j.parameters → Headed (parameter_groups l ps gs).1 (meant.with_parameter_groups j gs).parameters
  unfolding parameter_groups
  parameter_groups_framed l j ps [] i x f h = h
  parameter_groups_framed l j ps (g ∷ gs) i x f h =
      let m : Parameters × Layer = parameter_group l ps g in
      let c : Heading = meant.with_group local_variable g.is_var j g.group in
      let a : Reached k l m.1 c.scope [] = either_group_reached k g.is_var g.is_var l j ps g.group i in
      let later : Longer m.1.types all = among m.1 (parameter_groups m.1 m.0 gs).1 (parameter_groups_declare m.1 m.0 gs) x in
      let few : Counted l.types = counted_first l.types all (among l m.1 (either_group_declares g.is_var l ps g.group) later) counted in
      parameter_groups_framed m.1 c m.0 gs a.names x f (group_framed g.is_var l j.scope j.parameters ps g.group i few (parameters_before c.parameters (meant.with_parameter_groups c gs).parameters (parameter_groups_grow c gs) f) h)

  abbrev pub ResultHasCells : Option Ty → Type 0
  ResultHasCells None = Unit {0}
  ResultHasCells (Some t) = HasCells t

  heading_framed : (l : Layer) (s : Scope) (x : Name) (r : syntax.RoutineKind) → InStep k l.types l.names s → Longer (heading l x r).1.types all → ParametersFit (meant.heading_of s r).parameters → ResultHasCells (meant.result_of (meant.heading_of s r).scope r) → Headed l [] →
      Frames (heading l x r).1 (parameters_by false (meant.heading_of s r).parameters ++ result_variables (meant.result_of (meant.heading_of s r).scope r)) (parameters_by true (meant.heading_of s r).parameters)
  unfolding heading
  heading_framed l s x (syntax.procedure gs) i y f has h =
      let qs : List Parameter = (meant.heading_of s (syntax.procedure gs)).parameters in
      subst (λ us. Frames (heading l x (syntax.procedure gs)).1 us (parameters_by true qs)) (sym (append-nil (parameters_by false qs))) (parameter_groups_framed l (record { parameters = []; scope = s }) [] gs i y f h)
  heading_framed l s x (syntax.function gs j) i y f has h =
      let c : Heading = meant.with_groups local_variable (record { parameters = []; scope = s }) gs in
      let p : Parameters × Layer = constant_groups l [] gs in
      let a : Reached k l p.1 c.scope [] = constant_groups_reached k l (record { parameters = []; scope = s }) [] gs i in
      let b : Headed p.1 c.parameters = constant_groups_framed l (record { parameters = []; scope = s }) [] gs i y f h in
      let t : Ty = meant.type_named c.scope j.name in
      let d : Frames (heading l x (syntax.function gs j)).1 (parameters_by false c.parameters ++ one_variable result_name t ∷ []) (parameters_by true c.parameters) =
      (let e = result_framed k p.1 result_name t (laid.type_of_name p.1 j.name) (parameters_by false c.parameters) (parameters_by true c.parameters) (named_type_same k p.1 c.scope j.name a.names) (counted_first p.1.types all y counted) has b in record { free = e.free; image = e.image; extents = e.extents; lying = e.lying }) in
      d
  heading_framed l s x syntax.invariants i y f has h = h

  -- the cell of a function's result is the one after its parameters
  abbrev pub SlotIs : List Variable → Option Ty → Option FunctionResult → Type 0
  SlotIs vs None o = Unit {0}
  SlotIs vs (Some t) (Some r) = r.slot ≡ total vs
  SlotIs vs (Some t) None = ⊥

  heading_slot : (l : Layer) (s : Scope) (x : Name) (r : syntax.RoutineKind) → InStep k l.types l.names s → Longer (heading l x r).1.types all → ParametersFit (meant.heading_of s r).parameters → Headed l [] →
      SlotIs (parameters_by false (meant.heading_of s r).parameters) (meant.result_of (meant.heading_of s r).scope r) (heading l x r).0.result
  unfolding heading
  heading_slot l s x (syntax.procedure gs) i y f h = tt
  heading_slot l s x (syntax.function gs j) i y f h =
      let b : Headed (constant_groups l [] gs).1 (meant.with_groups local_variable (record { parameters = []; scope = s }) gs).parameters = constant_groups_framed l (record { parameters = []; scope = s }) [] gs i y f h in
      ap (λ zs. length zs) b.image ∙ images_length (parameters_by false (meant.with_groups local_variable (record { parameters = []; scope = s }) gs).parameters) b.free
  heading_slot l s x syntax.invariants i y f h = tt

  -- ---- a routine

  pub record RoutineFits (m : meant.RoutineMeaning) : Type 0 where
    pub parameters : ParametersFit m.parameters
    pub result : ResultHasCells m.result
    pub variables : Fits (parameters_by false m.parameters ++ result_variables m.result) m.variables

  abbrev pub all_locals : meant.RoutineMeaning → List Variable
  all_locals m = (parameters_by false m.parameters ++ result_variables m.result) ++ m.variables

  pub routine_framed : (l : Layer) (s : Scope) (r : syntax.Routine) → IsSmallRoutine r → AreNumbered k.firsts (length l.constants) (in_routine r) → k.routines (length l.routines) ≡ routine_in (with_routine s r) r → InStep k l.types l.names s →
      Longer (routine_begun l r).types all → RoutineFits (routine_in (with_routine s r) r) → AreLying [] [] (open_routine l r.name.name).1.names → Frames (routine_begun l r) (all_locals (routine_in (with_routine s r) r)) (parameters_by true (routine_in (with_routine s r) r).parameters)
  routine_framed l s r small n e i x f none =
      let o : Layer = (open_routine l r.name.name).1 in
      let y : layers.Heading × Layer = heading o r.name.name r.kind in
      let j : Layer = with_heading y.1 y.0 in
      let t : Scope = with_routine s r in
      let m : meant.RoutineMeaning = routine_in t r in
      let named : InStep k o.types o.names t = (refl, (length l.routines, refl, e), i) in
      let a : Reached k o y.1 (meant.heading_of t r.kind).scope [] = heading_reached k o t r.name.name r.kind named in
      let c : y.1.constants ≡ l.constants = a.constants ∙ append-nil l.constants in
      let later : Longer y.1.types all = among j (routine_begun l r) (local_parts_declare j r.parts) x in
      let empty : Headed o [] = record { free = tt; image = refl; extents = refl; lying = none } in
      let b = heading_framed o t r.name.name r.kind named later f.parameters f.result empty in
      let pre : List Variable = parameters_by false m.parameters ++ result_variables m.result in
      let rs : List Variable = parameters_by true m.parameters in
      let d : Frames j (pre ++ []) rs = subst (λ us. Frames j us rs) (sym (append-nil pre)) (record { free = b.free; image = b.image; extents = b.extents; lying = b.lying }) in
      parts_framed j (record { variables = []; scope = (meant.heading_of t r.kind).scope }) r.parts pre rs small (subst (λ cs. AreNumbered k.firsts (length cs) (in_routine r)) (sym c) n) a.names x f.variables d

  -- the last heading is its own
  pub routine_slot : (l : Layer) (s : Scope) (r : syntax.Routine) → k.routines (length l.routines) ≡ routine_in (with_routine s r) r → InStep k l.types l.names s →
      Longer (routine_begun l r).types all → RoutineFits (routine_in (with_routine s r) r) → AreLying [] [] (open_routine l r.name.name).1.names →
      SlotIs (parameters_by false (routine_in (with_routine s r) r).parameters) (routine_in (with_routine s r) r).result (heading (open_routine l r.name.name).1 r.name.name r.kind).0.result
  routine_slot l s r e i x f none =
      let o : Layer = (open_routine l r.name.name).1 in
      let y : layers.Heading × Layer = heading o r.name.name r.kind in
      let j : Layer = with_heading y.1 y.0 in
      heading_slot o (with_routine s r) r.name.name r.kind (refl, (length l.routines, refl, e), i) (among j (routine_begun l r) (local_parts_declare j r.parts) x) f.parameters (record { free = tt; image = refl; extents = refl; lying = none })
