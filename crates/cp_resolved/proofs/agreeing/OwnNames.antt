-- Under which names a routine is seen, while declarations are laid out and checked side by side.
use Rattle.std.proofs.Common.{◌≡◌, ℕ, ◌+◌, Bool, true, false, if◌then◌else◌, List, [], ◌∷◌, ◌++◌, Option, Some, None, Ok, Err, is_some, pos, refl, sym, subst, ◌∙◌}
use Rattle.cp_resolved.proofs.Words.{bytes_eq, bytes_eq-Decides, Identifier, SystemKind, C2, ArrayShape, Judged, Spot, Step, nothing, typed, CellBase, CellType}
use Rattle.cp_resolved.proofs.Words.{Contained, LayoutMeaning, as_integer, ConstantDefinition, TypeDefinition, VariableGroup, Part, Group, ParameterGroup, RoutineKind}
use Rattle.cp_resolved.proofs.Words.{Fields, no_fields, with_constant, enumerate, simple_type, written_type, field_groups, field_group, type_of_name}
use Rattle.cp_tree.specs.Syntax as syntax
use Rattle.cp_scope.specs.declared.fault.CheckFault.TheVariants as check_fault
use Rattle.cp_scope.specs.declared.types.Base as checked_base
use Rattle.cp_scope.specs.declared.types.Meaning as checked
use Rattle.cp_scope.specs.declared.types.Meaning.TheVariants as checked_meaning
use Rattle.cp_scope.specs.Scopes as scopes
use Rattle.cp_scope.specs.Scopes.{Names, Scope, Scopes, Shape, is_declared, with_name, add, settle, keep}
use Rattle.cp_check.specs.declared.types.Spot.TheVariants as spot
use Rattle.cp_check.specs.Types as typing
use Rattle.cp_check.specs.Declarations.{reserve_name, reserve_names, add_names, add_all, add_one, constant_step, constant_steps, type_step, type_steps, variable_step, variable_steps, part_step, part_steps}
use Rattle.cp_check.specs.Headings as headings
use Rattle.cp_check.specs.Systems as systems
use Rattle.cp_symbols.specs.declared.kinds.CellType.TheVariants as types
use Rattle.cp_symbols.specs.declared.names.LayoutMeaning.TheVariants as meaning
use Rattle.cp_layout.specs.Layers as layers
use Rattle.cp_layout.specs.Layers.{Layer, find}
use Rattle.cp_layout.specs.LaidDeclarations.{constant, constants, type_definition, type_definitions, components_of, variable_with, variable, variables_of, variables, local, locals_of, local_variables, permanent_part, permanent_parts, local_part, local_parts, Parameters, constant_parameter, constant_parameters_of, constant_groups, var_parameter, var_parameters_of, parameter_group, parameter_groups, heading, system_parameter, system_parameters_of, system_groups}
use Rattle.cp_meaning_laws.proofs.Classes as classes

-- ---- one name

abbrev IsNoRoutine : LayoutMeaning → Type 0
IsNoRoutine (meaning.Routine n) = ⊥
IsNoRoutine m = Unit {0}

other_way : (x y : List ℕ) → bytes_eq x y ≡ false → bytes_eq y x ≡ false
other_way x y h = go (bytes_eq y x) refl
  where
    go : (b : Bool) → bytes_eq y x ≡ b → b ≡ false
    go true e = absurd (let bad : true ≡ false = sym ((bytes_eq-Decides x y).1 (sym ((bytes_eq-Decides y x).0 e))) ∙ h in cc)
    go false e = refl

find_other : (y z : List ℕ) (ds : Names) (o : Option checked.Meaning) → bytes_eq y z ≡ false → scopes.find y ds ≡ None → scopes.find y (ds ++ (z, o) ∷ []) ≡ None
find_other y z [] o h g = rw h refl
find_other y z (d ∷ ds) o h g = go (bytes_eq y d.0) g (find_other y z ds o h)
  where
    go : (b : Bool) → (if b then Some d.1 else scopes.find y ds) ≡ None → (scopes.find y ds ≡ None → scopes.find y (ds ++ (z, o) ∷ []) ≡ None) → (if b then Some d.1 else scopes.find y (ds ++ (z, o) ∷ [])) ≡ None
    go true e rest = absurd (let bad : Some d.1 ≡ None = e in cc)
    go false e rest = rest e

name_other : (c : Scope) (y z : List ℕ) (o : Option checked.Meaning) → bytes_eq y z ≡ false → scopes.find y c.names ≡ None → scopes.find y (with_name c z o).names ≡ None
name_other c y z o h g = go (is_some (scopes.find z c.names))
  where
    go : (b : Bool) → scopes.find y (let e : Scope = (if b then c else record { names = c.names ++ (z, o) ∷ []; pending = c.pending; is_sealed = c.is_sealed }) in e.names) ≡ None
    go true = g
    go false = find_other y z c.names o h g

pub names_reserved : (s : Scopes) (ns : List Identifier) → (reserve_names s ns).scopes.inner.names ≡ s.inner.names
unfolding reserve_names
names_reserved s [] = refl
names_reserved s (n ∷ ns) = names_reserved (reserve_name s n).scopes ns ∙ classes.reserved_names s n

module _ (Q : List ℕ → Type 0) (n : ℕ) where
  -- only such names stand for routine n, and none of them is declared in the innermost scope
  abbrev pub Inside : layers.Names → Scopes → Type 0
  Inside ns s = (y : List ℕ) → find y ns ≡ Some (meaning.Routine n) → Q y × (scopes.find y s.inner.names ≡ None)

  pub moved : (ns : layers.Names) (s u : Scopes) → u.inner.names ≡ s.inner.names → Inside ns s → Inside ns u
  moved ns s u e h y f = let r = h y f in (r.0, subst (λ ds. scopes.find y ds ≡ None) (sym e) r.1)

  not_it : (m : LayoutMeaning) → IsNoRoutine m → Some m ≡ Some (meaning.Routine n) → ⊥
  not_it (meaning.Routine k) h e = h
  not_it x h e = cc

  hidden : (ns : layers.Names) (s : Scopes) (z : List ℕ) (m : LayoutMeaning) → IsNoRoutine m → Inside ns s → Inside ((z, m) ∷ ns) s
  hidden ns s z m other h y = go (bytes_eq z y)
    where
      go : (b : Bool) → (if b then Some m else find y ns) ≡ Some (meaning.Routine n) → Q y × (scopes.find y s.inner.names ≡ None)
      go true f = absurd (not_it m other f)
      go false f = h y f

  declared : (ns : layers.Names) (s : Scopes) (z : List ℕ) (m : LayoutMeaning) (o : Option checked.Meaning) → IsNoRoutine m → Inside ns s → Inside ((z, m) ∷ ns) (add s z o)
  unfolding add
  declared ns s z m o other h y = go (bytes_eq z y) refl
    where
      go : (b : Bool) → bytes_eq z y ≡ b → (if b then Some m else find y ns) ≡ Some (meaning.Routine n) → Q y × (scopes.find y (with_name s.inner z o).names ≡ None)
      go true e f = absurd (not_it m other f)
      go false e f = let r = h y f in (r.0, name_other s.inner y z o (other_way z y e) r.1)

  -- ---- types

  enumerated_inside : (l : Layer) (s : Scopes) (b : CellBase) (c : checked_base.Base) (j k : ℕ) (is : List Identifier) → Inside l.names s → Inside (enumerate l b j is).names (typing.members s c k is).scopes
  unfolding enumerate typing.members typing.member
  enumerated_inside l s b c j k [] h = h
  enumerated_inside l s b c j k (i ∷ is) h = enumerated_inside (with_constant l i.name (meaning.Constant b (as_integer j))) (typing.member s c k i).scopes b c (j + 1) (k + 1) is (go (is_declared s i.name))
    where
      go : (d : Bool) → Inside ((i.name, meaning.Constant b (as_integer j)) ∷ l.names) (let t : Step = (if d then record { faults = check_fault.Rule i.at C2 ∷ []; scopes = s } else nothing (add s i.name (Some (checked_meaning.Constant c (pos k))))) in t.scopes)
      go true = hidden l.names s i.name (meaning.Constant b (as_integer j)) tt h
      go false = declared l.names s i.name (meaning.Constant b (as_integer j)) (Some (checked_meaning.Constant c (pos k))) tt h

  simple_inside : (l : Layer) (s : Scopes) (p : Spot) (t : syntax.Simple) → Inside l.names s → Inside (simple_type l t).1.names (typing.simple_type s p t).scopes
  unfolding simple_type typing.simple_type
  simple_inside l s p (syntax.enumeration at is) h = enumerated_inside l s _ _ 0 0 is h
  simple_inside l s p _ h = h

  array_inside : (ns : layers.Names) (s : Scopes) (at : ℕ) (j : Judged ArrayShape) → Inside ns s → Inside ns (typing.keep_array s at j)
  unfolding keep
  array_inside ns s at (Ok a) h = h
  array_inside ns s at (Err fs) h = h

  record_inside : (ns : layers.Names) (s : Scopes) (at : ℕ) (j : Judged Shape) → Inside ns s → Inside ns (typing.keep_record s at j)
  unfolding keep
  record_inside ns s at (Ok d) h = h
  record_inside ns s at (Err fs) h = h

  mutual
    unfolding written_type field_groups field_group typed typing.groups_typed typing.group_typed

    pub type_inside : (l : Layer) (s : Scopes) (p : Spot) (t : syntax.TypeTerm) → Inside l.names s → Inside (written_type l t).1.names (typed s p t).scopes
    type_inside l s p (syntax.simple at t) h = simple_inside l s p t h
    type_inside l s p (syntax.array_of at i e) h = array_inside _ _ at _ (type_inside (simple_type l i).1 (typing.simple_type s spot.Other i).scopes spot.Element e (simple_inside l s spot.Other i h))
    type_inside l s p (syntax.set_type at t) h = simple_inside l s spot.Base t h
    type_inside l s p (syntax.record_of at gs b) h = record_inside _ _ at _ (groups_inside l s _ no_fields gs h)

    groups_inside : (l : Layer) (s : Scopes) (f : Scope) (r : Fields) (gs : syntax.FieldGroups) → Inside l.names s → Inside (field_groups l r gs).1.names (typing.groups_typed f s gs).scopes
    groups_inside l s f r syntax.no_fields h = h
    groups_inside l s f r (syntax.more_fields g gs) h = groups_inside (field_group l r g).1 (typing.group_typed f s g).scopes (typing.group_typed f s g).fields (field_group l r g).0 gs (group_inside l s f r g h)

    group_inside : (l : Layer) (s : Scopes) (f : Scope) (r : Fields) (g : syntax.FieldGroup) → Inside l.names s → Inside (field_group l r g).1.names (typing.group_typed f s g).scopes
    group_inside l s f r (syntax.fields is t) h = type_inside l s spot.Other t h

  -- ---- constants and types

  reserved : (ns : layers.Names) (s : Scopes) (i : Identifier) → Inside ns s → Inside ns (reserve_name s i).scopes
  reserved ns s i h = moved ns s (reserve_name s i).scopes (classes.reserved_names s i) h

  all_reserved : (ns : layers.Names) (s : Scopes) (is : List Identifier) → Inside ns s → Inside ns (reserve_names s is).scopes
  all_reserved ns s is h = moved ns s (reserve_names s is).scopes (names_reserved s is) h

  pub one_inside : (ns : layers.Names) (s : Scopes) (i : Identifier) (m : LayoutMeaning) (o : Option checked.Meaning) → IsNoRoutine m → Inside ns s → Inside ((i.name, m) ∷ ns) (add_one s i o)
  unfolding add_one settle
  one_inside ns s i m o other h = declared ns s i.name m o other h

  pub constants_inside : (l : Layer) (s : Scopes) (ds : List ConstantDefinition) → Inside l.names s → Inside (constants l ds).names (constant_steps s ds).scopes
  unfolding constants constant_steps constant_step
  constants_inside l s [] h = h
  constants_inside l s (d ∷ ds) h = constants_inside (constant l d) (constant_step s d).scopes ds (one_inside l.names (reserve_name s d.name).scopes d.name _ _ tt (reserved l.names s d.name h))

  definitions_inside : (l : Layer) (s : Scopes) (ds : List TypeDefinition) → Inside l.names s → Inside (type_definitions l ds).names (type_steps s ds).scopes
  unfolding type_definitions type_steps type_step
  definitions_inside l s [] h = h
  definitions_inside l s (d ∷ ds) h =
      definitions_inside (type_definition l d) (type_step s d).scopes ds (one_inside (written_type l d.value).1.names (typed (reserve_name s d.name).scopes spot.Definition d.value).scopes d.name _ _ tt (type_inside l (reserve_name s d.name).scopes spot.Definition d.value (reserved l.names s d.name h)))

  -- ---- variables

  settled : (ns : layers.Names) (s : Scopes) (is : List Identifier) (o : Option checked.Meaning) → Inside ns (add_names s is o) → Inside ns (add_all s is o)
  unfolding add_all settle
  settled ns s is o h = h

  locals_inside : (l : Layer) (s : Scopes) (t : CellType) (is : List Identifier) (o : Option checked.Meaning) → Inside l.names s → Inside (locals_of l t is).names (add_names s is o)
  unfolding locals_of add_names
  locals_inside l s t [] o h = h
  locals_inside l s t (i ∷ is) o h = locals_inside (local l i.name t) (add s i.name o) t is o (declared l.names s i.name _ o tt h)

  local_variables_inside : (p : Spot) (l : Layer) (s : Scopes) (gs : List VariableGroup) → Inside l.names s → Inside (local_variables l gs).names (variable_steps p s gs).scopes
  unfolding local_variables variable_steps variable_step
  local_variables_inside p l s [] h = h
  local_variables_inside p l s (g ∷ gs) h =
      let after : Scopes = (typed (reserve_names s g.names).scopes p g.variable_type).scopes in
      let x = written_type l g.variable_type in
      local_variables_inside p (locals_of x.1 x.0 g.names) (variable_step p s g).scopes gs (settled (locals_of x.1 x.0 g.names).names after g.names _ (locals_inside x.1 after x.0 g.names _ (type_inside l (reserve_names s g.names).scopes p g.variable_type (all_reserved l.names s g.names h))))

  variable_inside : (l : Layer) (s : Scopes) (x : List ℕ) (t : CellType) (o : Option checked.Meaning) → Inside l.names s → Inside (variable l x t).names (add s x o)
  variable_inside l s x t o h = go (components_of l.types t)
    where
      go : (c : Option Contained) → Inside (variable_with l x t c).names (add s x o)
      go None = declared l.names s x _ o tt h
      go (Some c) = declared l.names s x _ o tt h

  variables_of_inside : (l : Layer) (s : Scopes) (t : CellType) (is : List Identifier) (o : Option checked.Meaning) → Inside l.names s → Inside (variables_of l t is).names (add_names s is o)
  unfolding variables_of add_names
  variables_of_inside l s t [] o h = h
  variables_of_inside l s t (i ∷ is) o h = variables_of_inside (variable l i.name t) (add s i.name o) t is o (variable_inside l s i.name t o h)

  pub variables_inside : (p : Spot) (l : Layer) (s : Scopes) (gs : List VariableGroup) → Inside l.names s → Inside (variables l gs).names (variable_steps p s gs).scopes
  unfolding variables variable_steps variable_step
  variables_inside p l s [] h = h
  variables_inside p l s (g ∷ gs) h =
      let after : Scopes = (typed (reserve_names s g.names).scopes p g.variable_type).scopes in
      let x = written_type l g.variable_type in
      variables_inside p (variables_of x.1 x.0 g.names) (variable_step p s g).scopes gs (settled (variables_of x.1 x.0 g.names).names after g.names _ (variables_of_inside x.1 after x.0 g.names _ (type_inside l (reserve_names s g.names).scopes p g.variable_type (all_reserved l.names s g.names h))))

  -- ---- parts

  local_part_inside : (p : Spot) (l : Layer) (s : Scopes) (d : Part) → Inside l.names s → Inside (local_part l d).names (part_step p s d).scopes
  unfolding part_step
  local_part_inside p l s (syntax.constants at ds) h = constants_inside l s ds h
  local_part_inside p l s (syntax.types at ds) h = definitions_inside l s ds h
  local_part_inside p l s (syntax.variables at gs) h = local_variables_inside p l s gs h

  permanent_part_inside : (p : Spot) (l : Layer) (s : Scopes) (d : Part) → Inside l.names s → Inside (permanent_part l d).names (part_step p s d).scopes
  unfolding part_step
  permanent_part_inside p l s (syntax.constants at ds) h = constants_inside l s ds h
  permanent_part_inside p l s (syntax.types at ds) h = definitions_inside l s ds h
  permanent_part_inside p l s (syntax.variables at gs) h = variables_inside p l s gs h

  pub local_parts_inside : (p : Spot) (l : Layer) (s : Scopes) (ds : List Part) → Inside l.names s → Inside (local_parts l ds).names (part_steps p s ds).scopes
  unfolding local_parts part_steps
  local_parts_inside p l s [] h = h
  local_parts_inside p l s (d ∷ ds) h = local_parts_inside p (local_part l d) (part_step p s d).scopes ds (local_part_inside p l s d h)

  pub permanent_parts_inside : (p : Spot) (l : Layer) (s : Scopes) (ds : List Part) → Inside l.names s → Inside (permanent_parts l ds).names (part_steps p s ds).scopes
  unfolding permanent_parts part_steps
  permanent_parts_inside p l s [] h = h
  permanent_parts_inside p l s (d ∷ ds) h = permanent_parts_inside p (permanent_part l d) (part_step p s d).scopes ds (permanent_part_inside p l s d h)

  -- ---- headings

  constants_of_inside : (l : Layer) (ps : Parameters) (s : Scopes) (t : CellType) (is : List Identifier) (o : Option checked.Meaning) → Inside l.names s → Inside (constant_parameters_of l ps t is).1.names (add_names s is o)
  unfolding constant_parameters_of add_names
  constants_of_inside l ps s t [] o h = h
  constants_of_inside l ps s t (i ∷ is) o h = let x = constant_parameter l ps i.name t in constants_of_inside x.1 x.0 (add s i.name o) t is o (declared l.names s i.name _ o tt h)

  vars_of_inside : (l : Layer) (ps : Parameters) (s : Scopes) (t : CellType) (is : List Identifier) (o : Option checked.Meaning) → Inside l.names s → Inside (var_parameters_of l ps t is).1.names (add_names s is o)
  unfolding var_parameters_of add_names
  vars_of_inside l ps s t [] o h = h
  vars_of_inside l ps s t (i ∷ is) o h = let x = var_parameter l ps i.name t in vars_of_inside x.1 x.0 (add s i.name o) t is o (declared l.names s i.name _ o tt h)

  constant_groups_inside : (l : Layer) (ps : Parameters) (s : Scopes) (gs : List Group) → Inside l.names s → Inside (constant_groups l ps gs).1.names (headings.group_steps s gs).scopes
  unfolding constant_groups headings.group_steps headings.group_step
  constant_groups_inside l ps s [] h = h
  constant_groups_inside l ps s (g ∷ gs) h =
      let x = constant_parameters_of l ps (type_of_name l g.type_name.name) g.names in
      constant_groups_inside x.1 x.0 (headings.group_step false s g).scopes gs (settled x.1.names (reserve_names s g.names).scopes g.names _ (constants_of_inside l ps (reserve_names s g.names).scopes (type_of_name l g.type_name.name) g.names _ (all_reserved l.names s g.names h)))

  one_group_inside : (l : Layer) (ps : Parameters) (s : Scopes) (g : ParameterGroup) → Inside l.names s → Inside (parameter_group l ps g).1.names (headings.group_step g.is_var s g.group).scopes
  unfolding headings.group_step
  one_group_inside l ps s g h = go g.is_var
    where
      after : Scopes
      after = (reserve_names s g.group.names).scopes

      go : (b : Bool) → Inside (if b then var_parameters_of l ps (type_of_name l g.group.type_name.name) g.group.names else constant_parameters_of l ps (type_of_name l g.group.type_name.name) g.group.names).1.names (headings.group_step b s g.group).scopes
      go true = settled _ after g.group.names _ (vars_of_inside l ps after (type_of_name l g.group.type_name.name) g.group.names _ (all_reserved l.names s g.group.names h))
      go false = settled _ after g.group.names _ (constants_of_inside l ps after (type_of_name l g.group.type_name.name) g.group.names _ (all_reserved l.names s g.group.names h))

  groups_of_inside : (l : Layer) (ps : Parameters) (s : Scopes) (gs : List ParameterGroup) → Inside l.names s → Inside (parameter_groups l ps gs).1.names (headings.parameter_steps s gs).scopes
  unfolding parameter_groups headings.parameter_steps
  groups_of_inside l ps s [] h = h
  groups_of_inside l ps s (g ∷ gs) h = let x = parameter_group l ps g in groups_of_inside x.1 x.0 (headings.group_step g.is_var s g.group).scopes gs (one_group_inside l ps s g h)

  nothing_inside : (l : Layer) (s : Scopes) → Inside l.names s → Inside l.names (headings.parameter_steps s []).scopes
  unfolding headings.parameter_steps
  nothing_inside l s h = h

  pub heading_inside : (l : Layer) (s : Scopes) (x : List ℕ) (k : RoutineKind) → Inside l.names s → Inside (heading l x k).1.names (headings.parameters_and_result s k).scopes
  unfolding heading headings.parameters_and_result
  heading_inside l s x (syntax.procedure gs) h = groups_of_inside l [] s gs h
  heading_inside l s x (syntax.function gs i) h = constant_groups_inside l [] s gs h
  heading_inside l s x syntax.invariants h = nothing_inside l s h

  -- ---- parameters of system types

  system_parameter_inside : (l : Layer) (ps : Parameters) (s : Scopes) (x : List ℕ) (t : CellType) (o : Option checked.Meaning) → Inside l.names s → Inside (system_parameter l ps x t).1.names (add s x o)
  system_parameter_inside l ps s x (types.System k) o h = declared l.names s x _ o tt h
  system_parameter_inside l ps s x _ o h = declared l.names s x _ o tt h

  system_parameters_inside : (l : Layer) (ps : Parameters) (s : Scopes) (t : CellType) (is : List Identifier) (o : Option checked.Meaning) → Inside l.names s → Inside (system_parameters_of l ps t is).1.names (add_names s is o)
  unfolding system_parameters_of add_names
  system_parameters_inside l ps s t [] o h = h
  system_parameters_inside l ps s t (i ∷ is) o h = let x = system_parameter l ps i.name t in system_parameters_inside x.1 x.0 (add s i.name o) t is o (system_parameter_inside l ps s i.name t o h)

  pub system_groups_inside : (k : SystemKind) (l : Layer) (ps : Parameters) (s : Scopes) (gs : List Group) → Inside l.names s → Inside (system_groups l ps gs).1.names (systems.group_steps k s gs).scopes
  unfolding system_groups systems.group_steps systems.group_step
  system_groups_inside k l ps s [] h = h
  system_groups_inside k l ps s (g ∷ gs) h =
      let x = system_parameters_of l ps (type_of_name l g.type_name.name) g.names in
      system_groups_inside k x.1 x.0 (systems.group_step k s g).scopes gs (settled x.1.names (reserve_names s g.names).scopes g.names _ (system_parameters_inside l ps (reserve_names s g.names).scopes (type_of_name l g.type_name.name) g.names _ (all_reserved l.names s g.names h)))
