-- Names stay in step through the parts and the headings of routines and system types.
use Rattle.std.proofs.Common.{◌≡◌, ℕ, Bool, true, false, if◌then◌else◌, List, [], ◌∷◌, ◌++◌, length, Option, Some, None, refl, sym, ap, subst, ◌∙◌, inl, inr}
use Rattle.cp_resolved.proofs.Words.{◌⊎◌, Identifier, CellType, Contained, Layer, written_type, Ty, has_components, Scope, Block, Heading, names_of, with_names}
use Rattle.cp_resolved.proofs.Words.{Enumerated, in_type, each_in, in_part, names_among, Compounds, as_array, array_type}
use Rattle.std.proofs.lemmas.List.{append-nil}
use Rattle.cp_tree.specs.Syntax as syntax
use Rattle.cp_slots.specs.declared.place.PlaceOrigin.TheVariants as origin
use Rattle.cp_symbols.specs.declared.kinds.CellType.TheVariants as types
use Rattle.cp_layout.specs.LaidTypes as laid
use Rattle.cp_layout.specs.LaidDeclarations as laid_parts
use Rattle.cp_layout.specs.LaidDeclarations.{constant, constants, constant_meaning, type_definition, type_definitions, array_components, components_in, components_of, variable, variable_with, variables_of, variable_group, variables, local, locals_of, local_group, local_variables, permanent_part, permanent_parts, local_part, local_parts, Parameters, constant_parameter, constant_parameters_of, constant_group, constant_groups, var_parameter, var_parameters_of, var_group, parameter_group, parameter_groups, heading, system_parameter, system_parameters_of, system_group, system_groups}
use Rattle.cp_meaning.specs.Types as named
use Rattle.cp_meaning.specs.Scopes as scopes
use Rattle.cp_meaning.specs.Declarations as meant
use Rattle.cp_resolved.specs.InStep.{Numbering, range_on, TypeIs, MeaningIs, InStep}
use Rattle.cp_resolved.specs.Small.{Each, IsSmallConstant, IsSmallType, IsSmallPart, AreNumbered, IsParameter, AreParameters}
use Rattle.cp_resolved.proofs.names.StepsOfTypes.{ConstantIs, constant_same, named_type_same, Written, type_written, constants_trans, numbered_left, numbered_after}

module _ (k : Numbering) where
  -- the names after declarations are in step, and these constants of enumerations came
  pub record Reached (l m : Layer) (s : Scope) (es : List Enumerated) : Type 0 where
    pub names : InStep k m.types m.names s
    pub constants : m.constants ≡ l.constants ++ names_among es

  pub reached_same : (l : Layer) (s : Scope) → InStep k l.types l.names s → Reached l l s []
  reached_same l s h = record { names = h; constants = sym (append-nil l.constants) }

  pub reached_trans : (l j m : Layer) (s t : Scope) (es fs : List Enumerated) → Reached l j s es → Reached j m t fs → Reached l m t (es ++ fs)
  reached_trans l j m s t es fs h i = record { names = i.names; constants = constants_trans k l.constants j.constants m.constants es fs h.constants i.constants }

  -- no enumerations after some
  pub reached_then : (l j m : Layer) (s t : Scope) (es : List Enumerated) → Reached l j s es → Reached j m t [] → Reached l m t es
  reached_then l j m s t es h i = subst (λ fs. Reached l m t fs) (append-nil es) (reached_trans l j m s t es [] h i)

  pub written_reached : (l : Layer) (x : CellType × Layer) (y : Ty × Scope) (es : List Enumerated) → Written k l x y es → Reached l x.1 y.1 es
  written_reached l x y es w = record { names = w.names; constants = w.constants }

  -- ---- constants and types

  pub constants_reached : (l : Layer) (s : Scope) (ds : List syntax.ConstantDefinition) → Each (λ d. IsSmallConstant d.value.kind) ds → InStep k l.types l.names s → Reached l (constants l ds) (meant.constants_in s ds) []
  unfolding constants
  constants_reached l s [] h i = reached_same l s i
  constants_reached l s (d ∷ ds) h i =
      let c : ConstantIs k (laid.constant_of l.names d.value) (meant.constant_of s d.value) = constant_same k l.types l.names s d.value h.0 i in
      let m : scopes.Meaning = scopes.constant_meaning (meant.constant_of s d.value).0 (meant.constant_of s d.value).1 in
      let w : MeaningIs k l.types (constant_meaning (laid.constant_of l.names d.value)) m ((d.name.name, m) ∷ s) = (ap constant_meaning c.0, c.1) in
      let rest : Reached (constant l d) (constants (constant l d) ds) (meant.constants_in ((d.name.name, m) ∷ s) ds) [] = constants_reached (constant l d) ((d.name.name, m) ∷ s) ds h.1 (refl, w, i) in
      record { names = rest.names; constants = rest.constants }

  definition_reached : (l : Layer) (s : Scope) (d : syntax.TypeDefinition) → Written k l (written_type l d.value) (meant.type_in s d.value) (in_type d.value) → Reached l (type_definition l d) ((d.name.name, scopes.type_meaning (meant.type_in s d.value).0) ∷ (meant.type_in s d.value).1) (in_type d.value)
  definition_reached l s d w = record { names = (refl, ((written_type l d.value).0, refl, w.belongs), w.names); constants = w.constants }

  pub definitions_reached : (l : Layer) (s : Scope) (ds : List syntax.TypeDefinition) → Each (λ d. IsSmallType d.value) ds → AreNumbered k.firsts (length l.constants) (each_in (λ d. in_type d.value) ds) → InStep k l.types l.names s → Reached l (type_definitions l ds) (meant.types_in s ds) (each_in (λ d. in_type d.value) ds)
  unfolding type_definitions
  definitions_reached l s [] h n i = reached_same l s i
  definitions_reached l s (d ∷ ds) h n i =
      let fs : List Enumerated = each_in (λ (d : syntax.TypeDefinition). in_type d.value) ds in
      let w : Written k l (written_type l d.value) (meant.type_in s d.value) (in_type d.value) = type_written k l s d.value h.0 (numbered_left k (length l.constants) (in_type d.value) fs n) i in
      let t : Scope = (d.name.name, scopes.type_meaning (meant.type_in s d.value).0) ∷ (meant.type_in s d.value).1 in
      let m : Layer = type_definition l d in
      let a : Reached l m t (in_type d.value) = definition_reached l s d w in
      reached_trans l m (type_definitions m ds) t (meant.types_in t ds) (in_type d.value) fs a (definitions_reached m t ds h.1 (numbered_after k l.constants m.constants (in_type d.value) fs a.constants n) a.names)

  -- ---- permanent variables

  -- components are found where the type has components
  abbrev pub ComponentsAre : Compounds → Ty → CellType → Type 0
  ComponentsAre ts t v = ((has_components t ≡ false) × (components_of ts v ≡ None)) ⊎ ((c : Contained) × (has_components t ≡ true) × (components_of ts v ≡ Some c))

  pub components_same : (ts : Compounds) (t : Ty) (v : CellType) → TypeIs k ts t v → ComponentsAre ts t v
  components_same ts (named.array_over s (named.ordinal r)) v h = inl (refl, ap (components_of ts) h.is ∙ ap (λ o. components_in (as_array o)) h.there ∙ ap (array_components (array_type ts (range_on k s) h.element)) h.belongs)
  components_same ts (named.array_over s named.queue_type) v h = inl (refl, ap (components_of ts) h.is ∙ ap (λ o. components_in (as_array o)) h.there ∙ ap (array_components (array_type ts (range_on k s) h.element)) h.belongs)
  components_same ts (named.array_over s (named.set_over r)) v h = inl (refl, ap (components_of ts) h.is ∙ ap (λ o. components_in (as_array o)) h.there ∙ ap (array_components (array_type ts (range_on k s) h.element)) h.belongs)
  components_same ts (named.array_over s (named.array_over r t)) v h = inl (refl, ap (components_of ts) h.is ∙ ap (λ o. components_in (as_array o)) h.there ∙ ap (array_components (array_type ts (range_on k s) h.element)) h.belongs.is)
  components_same ts (named.array_over s (named.record_with us)) v h = inl (refl, ap (components_of ts) h.is ∙ ap (λ o. components_in (as_array o)) h.there ∙ ap (array_components (array_type ts (range_on k s) h.element)) h.belongs.is)
  components_same ts (named.array_over s (named.component_of n)) v h = inr (_, refl, ap (components_of ts) h.is ∙ ap (λ o. components_in (as_array o)) h.there ∙ ap (array_components (array_type ts (range_on k s) h.element)) h.belongs)
  components_same ts (named.record_with us) v h = inl (refl, ap (components_of ts) h.is)
  components_same ts (named.component_of n) v h = inr (_, refl, ap (components_of ts) h)
  components_same ts _ v h = inl (refl, ap (components_of ts) h)

  variable_types : (l : Layer) (x : List ℕ) (v : CellType) (o : Option Contained) → (variable_with l x v o).types ≡ l.types
  variable_types l x v None = refl
  variable_types l x v (Some c) = refl

  with_reached : (l : Layer) (s : Scope) (x : List ℕ) (t : Ty) (v : CellType) (o : Option Contained) → o ≡ components_of l.types v → TypeIs k l.types t v → ComponentsAre l.types t v → InStep k l.types l.names s → Reached l (variable_with l x v o) ((x, scopes.permanent_variable t) ∷ s) []
  with_reached l s x t v None e h (inl c) i =
      record { names = (refl, inl (record { slot = l.owned.cells; value_type = v; is = refl; belongs = h; without = c.0 }), i); constants = sym (append-nil l.constants) }
  with_reached l s x t v None e h (inr c) i = absurd (let w : None ≡ Some c.0 = e ∙ c.2 in cc)
  with_reached l s x t v (Some d) e h (inl c) i = absurd (let w : Some d ≡ None = e ∙ c.1 in cc)
  with_reached l s x t v (Some d) e h (inr c) i =
      record { names = (refl, inr (inl (record { first = l.owned.count; value_type = v; is = refl; belongs = h; has = c.1 })), i); constants = sym (append-nil l.constants) }

  pub variables_of_reached : (l : Layer) (s : Scope) (t : Ty) (v : CellType) (is : List Identifier) → TypeIs k l.types t v → InStep k l.types l.names s → Reached l (variables_of l v is) (with_names (names_of is) (scopes.permanent_variable t) s) []
  unfolding variables_of
  variables_of_reached l s t v [] h i = reached_same l s i
  variables_of_reached l s t v (x ∷ xs) h i =
      let m : Layer = variable l x.name v in
      let s' : Scope = (x.name, scopes.permanent_variable t) ∷ s in
      let a : Reached l m s' [] = with_reached l s x.name t v (components_of l.types v) refl h (components_same l.types t v h) i in
      let b : TypeIs k m.types t v = subst (λ ts. TypeIs k ts t v) (sym (variable_types l x.name v (components_of l.types v))) h in
      reached_trans l m (variables_of m v xs) s' (with_names (names_of xs) (scopes.permanent_variable t) s') [] [] a (variables_of_reached m s' t v xs b a.names)

  pub variables_reached : (l : Layer) (b : Block) (gs : List syntax.VariableGroup) → Each (λ g. IsSmallType g.variable_type) gs → AreNumbered k.firsts (length l.constants) (each_in (λ g. in_type g.variable_type) gs) → InStep k l.types l.names b.scope → Reached l (variables l gs) (meant.variables_in scopes.permanent_variable b gs).scope (each_in (λ g. in_type g.variable_type) gs)
  unfolding variables
  variables_reached l b [] h n i = reached_same l b.scope i
  variables_reached l b (g ∷ gs) h n i =
      let fs : List Enumerated = each_in (λ (g : syntax.VariableGroup). in_type g.variable_type) gs in
      let x : CellType × Layer = written_type l g.variable_type in
      let y : Ty × Scope = meant.type_in b.scope g.variable_type in
      let w : Written k l x y (in_type g.variable_type) = type_written k l b.scope g.variable_type h.0 (numbered_left k (length l.constants) (in_type g.variable_type) fs n) i in
      let m : Layer = variable_group l g in
      let c : Block = record { variables = b.variables ++ meant.named_variables (names_of g.names) y.0; scope = with_names (names_of g.names) (scopes.permanent_variable y.0) y.1 } in
      let a : Reached l m c.scope (in_type g.variable_type) = reached_then l x.1 m y.1 c.scope (in_type g.variable_type) (written_reached l x y (in_type g.variable_type) w) (variables_of_reached x.1 y.1 y.0 x.0 g.names w.belongs w.names) in
      reached_trans l m (variables m gs) c.scope (meant.variables_in scopes.permanent_variable c gs).scope (in_type g.variable_type) fs a (variables_reached m c gs h.1 (numbered_after k l.constants m.constants (in_type g.variable_type) fs a.constants n) a.names)

  -- ---- local variables

  pub locals_of_reached : (l : Layer) (s : Scope) (t : Ty) (v : CellType) (is : List Identifier) → TypeIs k l.types t v → InStep k l.types l.names s → Reached l (locals_of l v is) (with_names (names_of is) (scopes.local_variable t) s) []
  unfolding locals_of
  locals_of_reached l s t v [] h i = reached_same l s i
  locals_of_reached l s t v (x ∷ xs) h i =
      let m : Layer = local l x.name v in
      let s' : Scope = (x.name, scopes.local_variable t) ∷ s in
      let a : Reached m (locals_of m v xs) (with_names (names_of xs) (scopes.local_variable t) s') [] = locals_of_reached m s' t v xs h (refl, record { origin = origin.Local (length l.frame.image); value_type = v; is = refl; in_frame = tt; belongs = h }, i) in
      record { names = a.names; constants = a.constants }

  pub locals_reached : (l : Layer) (b : Block) (gs : List syntax.VariableGroup) → Each (λ g. IsSmallType g.variable_type) gs → AreNumbered k.firsts (length l.constants) (each_in (λ g. in_type g.variable_type) gs) → InStep k l.types l.names b.scope → Reached l (local_variables l gs) (meant.variables_in scopes.local_variable b gs).scope (each_in (λ g. in_type g.variable_type) gs)
  unfolding local_variables
  locals_reached l b [] h n i = reached_same l b.scope i
  locals_reached l b (g ∷ gs) h n i =
      let fs : List Enumerated = each_in (λ (g : syntax.VariableGroup). in_type g.variable_type) gs in
      let x : CellType × Layer = written_type l g.variable_type in
      let y : Ty × Scope = meant.type_in b.scope g.variable_type in
      let w : Written k l x y (in_type g.variable_type) = type_written k l b.scope g.variable_type h.0 (numbered_left k (length l.constants) (in_type g.variable_type) fs n) i in
      let m : Layer = local_group l g in
      let c : Block = record { variables = b.variables ++ meant.named_variables (names_of g.names) y.0; scope = with_names (names_of g.names) (scopes.local_variable y.0) y.1 } in
      let a : Reached l m c.scope (in_type g.variable_type) = reached_then l x.1 m y.1 c.scope (in_type g.variable_type) (written_reached l x y (in_type g.variable_type) w) (locals_of_reached x.1 y.1 y.0 x.0 g.names w.belongs w.names) in
      reached_trans l m (local_variables m gs) c.scope (meant.variables_in scopes.local_variable c gs).scope (in_type g.variable_type) fs a (locals_reached m c gs h.1 (numbered_after k l.constants m.constants (in_type g.variable_type) fs a.constants n) a.names)

  -- ---- parts

  pub permanent_part_reached : (l : Layer) (b : Block) (p : syntax.Part) → IsSmallPart p → AreNumbered k.firsts (length l.constants) (in_part p) → InStep k l.types l.names b.scope → Reached l (permanent_part l p) (meant.part_in scopes.permanent_variable b p).scope (in_part p)
  permanent_part_reached l b (syntax.constants at ds) h n i = constants_reached l b.scope ds h i
  permanent_part_reached l b (syntax.types at ds) h n i = definitions_reached l b.scope ds h n i
  permanent_part_reached l b (syntax.variables at gs) h n i = variables_reached l b gs h n i

  pub permanent_parts_reached : (l : Layer) (b : Block) (ps : List syntax.Part) → Each IsSmallPart ps → AreNumbered k.firsts (length l.constants) (each_in in_part ps) → InStep k l.types l.names b.scope → Reached l (permanent_parts l ps) (meant.parts_in scopes.permanent_variable b ps).scope (each_in in_part ps)
  unfolding permanent_parts
  permanent_parts_reached l b [] h n i = reached_same l b.scope i
  permanent_parts_reached l b (p ∷ ps) h n i =
      let m : Layer = permanent_part l p in
      let c : Block = meant.part_in scopes.permanent_variable b p in
      let a : Reached l m c.scope (in_part p) = permanent_part_reached l b p h.0 (numbered_left k (length l.constants) (in_part p) (each_in in_part ps) n) i in
      reached_trans l m (permanent_parts m ps) c.scope (meant.parts_in scopes.permanent_variable c ps).scope (in_part p) (each_in in_part ps) a (permanent_parts_reached m c ps h.1 (numbered_after k l.constants m.constants (in_part p) (each_in in_part ps) a.constants n) a.names)

  pub local_part_reached : (l : Layer) (b : Block) (p : syntax.Part) → IsSmallPart p → AreNumbered k.firsts (length l.constants) (in_part p) → InStep k l.types l.names b.scope → Reached l (local_part l p) (meant.part_in scopes.local_variable b p).scope (in_part p)
  local_part_reached l b (syntax.constants at ds) h n i = constants_reached l b.scope ds h i
  local_part_reached l b (syntax.types at ds) h n i = definitions_reached l b.scope ds h n i
  local_part_reached l b (syntax.variables at gs) h n i = locals_reached l b gs h n i

  pub local_parts_reached : (l : Layer) (b : Block) (ps : List syntax.Part) → Each IsSmallPart ps → AreNumbered k.firsts (length l.constants) (each_in in_part ps) → InStep k l.types l.names b.scope → Reached l (local_parts l ps) (meant.parts_in scopes.local_variable b ps).scope (each_in in_part ps)
  unfolding local_parts
  local_parts_reached l b [] h n i = reached_same l b.scope i
  local_parts_reached l b (p ∷ ps) h n i =
      let m : Layer = local_part l p in
      let c : Block = meant.part_in scopes.local_variable b p in
      let a : Reached l m c.scope (in_part p) = local_part_reached l b p h.0 (numbered_left k (length l.constants) (in_part p) (each_in in_part ps) n) i in
      reached_trans l m (local_parts m ps) c.scope (meant.parts_in scopes.local_variable c ps).scope (in_part p) (each_in in_part ps) a (local_parts_reached m c ps h.1 (numbered_after k l.constants m.constants (in_part p) (each_in in_part ps) a.constants n) a.names)

  -- ---- headings of routines

  pub constant_parameters_reached : (l : Layer) (s : Scope) (ps : Parameters) (t : Ty) (v : CellType) (is : List Identifier) → TypeIs k l.types t v → InStep k l.types l.names s → Reached l (constant_parameters_of l ps v is).1 (with_names (names_of is) (scopes.local_variable t) s) []
  unfolding constant_parameters_of
  constant_parameters_reached l s ps t v [] h i = reached_same l s i
  constant_parameters_reached l s ps t v (x ∷ xs) h i =
      let m : Parameters × Layer = constant_parameter l ps x.name v in
      let s' : Scope = (x.name, scopes.local_variable t) ∷ s in
      let a : Reached m.1 (constant_parameters_of m.1 m.0 v xs).1 (with_names (names_of xs) (scopes.local_variable t) s') [] = constant_parameters_reached m.1 s' m.0 t v xs h (refl, record { origin = origin.Local (length l.frame.image); value_type = v; is = refl; in_frame = tt; belongs = h }, i) in
      record { names = a.names; constants = a.constants }

  var_parameters_reached : (l : Layer) (s : Scope) (ps : Parameters) (t : Ty) (v : CellType) (is : List Identifier) → TypeIs k l.types t v → InStep k l.types l.names s → Reached l (var_parameters_of l ps v is).1 (with_names (names_of is) (scopes.local_variable t) s) []
  unfolding var_parameters_of
  var_parameters_reached l s ps t v [] h i = reached_same l s i
  var_parameters_reached l s ps t v (x ∷ xs) h i =
      let m : Parameters × Layer = var_parameter l ps x.name v in
      let s' : Scope = (x.name, scopes.local_variable t) ∷ s in
      let a : Reached m.1 (var_parameters_of m.1 m.0 v xs).1 (with_names (names_of xs) (scopes.local_variable t) s') [] = var_parameters_reached m.1 s' m.0 t v xs h (refl, record { origin = origin.Reference (length l.frame.extents); value_type = v; is = refl; in_frame = tt; belongs = h }, i) in
      record { names = a.names; constants = a.constants }

  pub constant_groups_reached : (l : Layer) (h : Heading) (ps : Parameters) (gs : List syntax.Group) → InStep k l.types l.names h.scope → Reached l (constant_groups l ps gs).1 (meant.with_groups scopes.local_variable h gs).scope []
  unfolding constant_groups
  constant_groups_reached l h ps [] i = reached_same l h.scope i
  constant_groups_reached l h ps (g ∷ gs) i =
      let x : Parameters × Layer = constant_group l ps g in
      let j : Heading = meant.with_group scopes.local_variable false h g in
      let a : Reached l x.1 j.scope [] = constant_parameters_reached l h.scope ps (meant.type_named h.scope g.type_name.name) (laid.type_of_name l g.type_name.name) g.names (named_type_same k l h.scope g.type_name.name i) i in
      reached_trans l x.1 (constant_groups x.1 x.0 gs).1 j.scope (meant.with_groups scopes.local_variable j gs).scope [] [] a (constant_groups_reached x.1 j x.0 gs a.names)

  pub either_group_reached : (b c : Bool) (l : Layer) (h : Heading) (ps : Parameters) (g : syntax.Group) → InStep k l.types l.names h.scope → Reached l (if b then var_group l ps g else constant_group l ps g).1 (meant.with_group scopes.local_variable c h g).scope []
  either_group_reached true c l h ps g i = var_parameters_reached l h.scope ps (meant.type_named h.scope g.type_name.name) (laid.type_of_name l g.type_name.name) g.names (named_type_same k l h.scope g.type_name.name i) i
  either_group_reached false c l h ps g i = constant_parameters_reached l h.scope ps (meant.type_named h.scope g.type_name.name) (laid.type_of_name l g.type_name.name) g.names (named_type_same k l h.scope g.type_name.name i) i

  pub parameter_groups_reached : (l : Layer) (h : Heading) (ps : Parameters) (gs : List syntax.ParameterGroup) → InStep k l.types l.names h.scope → Reached l (parameter_groups l ps gs).1 (meant.with_parameter_groups h gs).scope []
  unfolding parameter_groups
  parameter_groups_reached l h ps [] i = reached_same l h.scope i
  parameter_groups_reached l h ps (g ∷ gs) i =
      let x : Parameters × Layer = parameter_group l ps g in
      let j : Heading = meant.with_group scopes.local_variable g.is_var h g.group in
      let a : Reached l x.1 j.scope [] = either_group_reached g.is_var g.is_var l h ps g.group i in
      reached_trans l x.1 (parameter_groups x.1 x.0 gs).1 j.scope (meant.with_parameter_groups j gs).scope [] [] a (parameter_groups_reached x.1 j x.0 gs a.names)

  pub heading_reached : (l : Layer) (s : Scope) (x : List ℕ) (r : syntax.RoutineKind) → InStep k l.types l.names s → Reached l (heading l x r).1 (meant.heading_of s r).scope []
  unfolding heading
  heading_reached l s x (syntax.procedure gs) i = parameter_groups_reached l (record { parameters = []; scope = s }) [] gs i
  heading_reached l s x (syntax.function gs j) i =
      let a : Reached l (constant_groups l [] gs).1 (meant.with_groups scopes.local_variable (record { parameters = []; scope = s }) gs).scope [] = constant_groups_reached l (record { parameters = []; scope = s }) [] gs i in
      record { names = a.names; constants = a.constants }
  heading_reached l s x syntax.invariants i = reached_same l s i

  -- ---- parameters of system types

  -- a parameter with cells
  cell_reached : (l : Layer) (s : Scope) (ps : Parameters) (x : List ℕ) (t : Ty) (v : CellType) → has_components t ≡ false → TypeIs k l.types t v → InStep k l.types l.names s → Reached l (laid_parts.cell_parameter l ps x v).1 ((x, scopes.permanent_variable t) ∷ s) []
  cell_reached l s ps x t v w h i = record { names = (refl, inl (record { slot = l.owned.cells; value_type = v; is = refl; belongs = h; without = w }), i); constants = sym (append-nil l.constants) }

  system_parameter_reached : (l : Layer) (s : Scope) (ps : Parameters) (x : List ℕ) (t : Ty) (v : CellType) → IsParameter t → TypeIs k l.types t v → InStep k l.types l.names s → Reached l (system_parameter l ps x v).1 ((x, scopes.permanent_variable t) ∷ s) []
  system_parameter_reached l s ps x (named.ordinal r) v f h i = subst (λ u. Reached l (system_parameter l ps x u).1 ((x, scopes.permanent_variable (named.ordinal r)) ∷ s) []) (sym h) (cell_reached l s ps x (named.ordinal r) (types.Ordinal (range_on k r)) refl refl i)
  system_parameter_reached l s ps x named.queue_type v f h i = subst (λ u. Reached l (system_parameter l ps x u).1 ((x, scopes.permanent_variable named.queue_type) ∷ s) []) (sym h) (cell_reached l s ps x named.queue_type types.Queue refl refl i)
  system_parameter_reached l s ps x (named.set_over r) v f h i = subst (λ u. Reached l (system_parameter l ps x u).1 ((x, scopes.permanent_variable (named.set_over r)) ∷ s) []) (sym h) (cell_reached l s ps x (named.set_over r) (types.Set (range_on k r)) refl refl i)
  system_parameter_reached l s ps x (named.array_over r t) v f h i = subst (λ u. Reached l (system_parameter l ps x u).1 ((x, scopes.permanent_variable (named.array_over r t)) ∷ s) []) (sym h.is) (cell_reached l s ps x (named.array_over r t) (types.Array h.number) f (subst (TypeIs k l.types (named.array_over r t)) h.is h) i)
  system_parameter_reached l s ps x (named.record_with us) v f h i = subst (λ u. Reached l (system_parameter l ps x u).1 ((x, scopes.permanent_variable (named.record_with us)) ∷ s) []) (sym h.is) (cell_reached l s ps x (named.record_with us) (types.Record h.number) refl (subst (TypeIs k l.types (named.record_with us)) h.is h) i)
  system_parameter_reached l s ps x (named.component_of n) v f h i = subst (λ u. Reached l (system_parameter l ps x u).1 ((x, scopes.permanent_variable (named.component_of n)) ∷ s) []) (sym h) (record { names = (refl, inr (inr (record { slot = l.owned.cells; system = n; is = refl; component = refl })), i); constants = sym (append-nil l.constants) })

  system_parameter_types : (l : Layer) (ps : Parameters) (x : List ℕ) (v : CellType) → (system_parameter l ps x v).1.types ≡ l.types
  system_parameter_types l ps x (types.Ordinal r) = refl
  system_parameter_types l ps x _ = refl

  pub system_parameters_reached : (l : Layer) (s : Scope) (ps : Parameters) (t : Ty) (v : CellType) (is : List Identifier) → IsParameter t → TypeIs k l.types t v → InStep k l.types l.names s → Reached l (system_parameters_of l ps v is).1 (with_names (names_of is) (scopes.permanent_variable t) s) []
  unfolding system_parameters_of
  system_parameters_reached l s ps t v [] f h i = reached_same l s i
  system_parameters_reached l s ps t v (x ∷ xs) f h i =
      let m : Parameters × Layer = system_parameter l ps x.name v in
      let s' : Scope = (x.name, scopes.permanent_variable t) ∷ s in
      let a : Reached l m.1 s' [] = system_parameter_reached l s ps x.name t v f h i in
      reached_trans l m.1 (system_parameters_of m.1 m.0 v xs).1 s' (with_names (names_of xs) (scopes.permanent_variable t) s') [] [] a (system_parameters_reached m.1 s' m.0 t v xs f (subst (λ ts. TypeIs k ts t v) (sym (system_parameter_types l ps x.name v)) h) a.names)

  pub system_groups_reached : (l : Layer) (h : Heading) (ps : Parameters) (gs : List syntax.Group) → AreParameters h gs → InStep k l.types l.names h.scope → Reached l (system_groups l ps gs).1 (meant.with_groups scopes.permanent_variable h gs).scope []
  unfolding system_groups
  system_groups_reached l h ps [] f i = reached_same l h.scope i
  system_groups_reached l h ps (g ∷ gs) f i =
      let x : Parameters × Layer = system_group l ps g in
      let j : Heading = meant.with_group scopes.permanent_variable false h g in
      let a : Reached l x.1 j.scope [] = system_parameters_reached l h.scope ps (meant.type_named h.scope g.type_name.name) (laid.type_of_name l g.type_name.name) g.names f.0 (named_type_same k l h.scope g.type_name.name i) i in
      reached_trans l x.1 (system_groups x.1 x.0 gs).1 j.scope (meant.with_groups scopes.permanent_variable j gs).scope [] [] a (system_groups_reached x.1 j x.0 gs f.1 a.names)
