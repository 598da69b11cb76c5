-- Permanent variables and the parameters of system types, as they are declared one after the other: where each lies and which components each is.
use Rattle.std.proofs.Common.{◌≡◌, ℕ, ◌<◌, List, [], ◌∷◌, ◌++◌, length, Option, Some, None, slice_get, refl, sym, ap, subst, ◌∙◌, ◌⊎◌, inl, inr, append_assoc, append-nil, false, true}
use Rattle.cp_resolved.proofs.Words.{none-some, same_Some, Identifier, Permanent, CellType, Contained, LayoutMeaning, type_of_name, written_type, Ty, Scope, Variable}
use Rattle.cp_resolved.proofs.Words.{Block, Heading, names_of, named_variables, parts_begun, in_type, each_in, in_part, Each, IsSmallType, IsSmallPart, AreNumbered}
use Rattle.cp_resolved.proofs.Words.{AreParameters, Compounds, array, array_type, as_array}
use Rattle.cp_tree.specs.Syntax as syntax
use Rattle.cp_symbols.specs.declared.kinds.CellType.TheVariants as types
use Rattle.cp_symbols.specs.declared.names.LayoutMeaning.TheVariants as meaning
use Rattle.cp_layout.specs.Layers.{Names, Layer, find, seen_inside, is_open, outermost, nothing_laid}
use Rattle.cp_layout.specs.LaidDeclarations.{array_components, components_in, components_of, constants, type_definitions, variable, variable_with, variables_of, variable_group, variables, permanent_part, permanent_parts, Parameters, enter_system, system_parameter, system_parameters_of, system_group, system_groups}
use Rattle.cp_meaning.specs.Types as named
use Rattle.cp_meaning.specs.Scopes as scopes
use Rattle.cp_meaning.specs.Declarations as meant
use Rattle.cp_resolved.specs.InStep.{Numbering, range_on, TypeIs, InStep, AreOuter}
use Rattle.cp_resolved.proofs.frames.Cells.{count_same}
use Rattle.cp_resolved.proofs.laid.Declared as declared_parts
use Rattle.cp_resolved.proofs.laid.Declares.{Declares, type_declares, constants_declare, definitions_declare}
use Rattle.cp_resolved.proofs.names.KeptNames as kept
use Rattle.cp_resolved.proofs.laid.OwnedCells.{type_owned, variable_types, parameter_types}
use Rattle.cp_resolved.proofs.laid.Named.{IsType, AreTypes, Named}
use Rattle.cp_resolved.proofs.systems.OwnedParts.{contained_of, OwnsAt, owns_grown, owns_cells, owns_bound, owns_variable, owns_components}
use Rattle.cp_resolved.proofs.names.PermanentNames.{IsPermanent, IsOther, Under, under_same, under_added, open_found}
use Rattle.cp_resolved.proofs.names.Steps.{all_inside}
use Rattle.cp_resolved.proofs.names.StepsOfParts.{Reached, variables_reached, permanent_parts_reached, system_groups_reached}
use Rattle.cp_resolved.proofs.names.StepsOfTypes.{Written, named_type_same, type_written, numbered_left, numbered_after}
use Rattle.cp_resolved.proofs.components.Handed.{constants_owned, definitions_owned}

-- ---- the components of a type

record One (ts : Compounds) (s : ℕ) (t : Ty) (v : CellType) : Type 0 where
  components : Contained
  one : contained_of t ≡ components ∷ []
  is : components_of ts v ≡ Some components
  low : components.system < s

abbrev ContainedAre : Compounds → ℕ → Ty → CellType → Type 0
ContainedAre ts s t v = ((contained_of t ≡ []) × (components_of ts v ≡ None)) ⊎ One ts s t v

module _ (k : Numbering) (ts : Compounds) (s : ℕ) where
  in_array : (r : named.Range) (v : CellType) (number : ℕ) (element : CellType) → v ≡ types.Array number → slice_get ts number ≡ Some (array (array_type ts (range_on k r) element)) → (o : Option Contained) → array_components (array_type ts (range_on k r) element) element ≡ o → components_of ts v ≡ o
  in_array r v number element e there o f = ap (components_of ts) e ∙ ap (λ p. components_in (as_array p)) there ∙ f

  contained_same : (t : Ty) (v : CellType) → TypeIs k ts t v → IsType s v → AreTypes s ts → ContainedAre ts s t v
  contained_same (named.record_with us) v h i all = inl (refl, ap (components_of ts) h.is)
  contained_same (named.component_of n) v h i all = inr (record { components = record { system = n; count = 1 }; one = refl; is = ap (components_of ts) h; low = subst (IsType s) h i })
  contained_same (named.array_over r (named.ordinal q)) v h i all = inl (refl, in_array r v h.number h.element h.is h.there None (ap (array_components (array_type ts (range_on k r) h.element)) h.belongs))
  contained_same (named.array_over r named.queue_type) v h i all = inl (refl, in_array r v h.number h.element h.is h.there None (ap (array_components (array_type ts (range_on k r) h.element)) h.belongs))
  contained_same (named.array_over r (named.set_over q)) v h i all = inl (refl, in_array r v h.number h.element h.is h.there None (ap (array_components (array_type ts (range_on k r) h.element)) h.belongs))
  contained_same (named.array_over r (named.array_over q t)) v h i all = inl (refl, in_array r v h.number h.element h.is h.there None (ap (array_components (array_type ts (range_on k r) h.element)) h.belongs.is))
  contained_same (named.array_over r (named.record_with us)) v h i all = inl (refl, in_array r v h.number h.element h.is h.there None (ap (array_components (array_type ts (range_on k r) h.element)) h.belongs.is))
  contained_same (named.array_over r (named.component_of n)) v h i all =
      let c : Contained = record { system = n; count = named.length_of_range r } in
      inr (record {
        components = c;
        one = refl;
        is = in_array r v h.number h.element h.is h.there (Some c) (ap (array_components (array_type ts (range_on k r) h.element)) h.belongs ∙ ap (λ m. Some (record { system = n; count = m })) (count_same k r));
        low = subst (IsType s) h.belongs (all h.number (array (array_type ts (range_on k r) h.element)) h.there);
      })
  contained_same _ v h i all = inl (refl, ap (components_of ts) h)

-- ---- names of constants and types lead to no more

module _ (ns : Names) where
  under_type : (l : Layer) (t : syntax.TypeTerm) → Under ns l.names → Under ns (written_type l t).1.names
  under_type l t u = kept.type_keep (Under ns) IsOther (under_added ns) (λ b z i. i) (λ v i. i) l t u

  under_constants : (l : Layer) (ds : List syntax.ConstantDefinition) → Under ns l.names → Under ns (constants l ds).names
  under_constants l ds u = kept.constants_keep (Under ns) IsOther (under_added ns) (λ b z i. i) (λ v i. i) l ds u

  under_definitions : (l : Layer) (ds : List syntax.TypeDefinition) → Under ns l.names → Under ns (type_definitions l ds).names
  under_definitions l ds u = kept.definitions_keep (Under ns) IsOther (under_added ns) (λ b z i. i) (λ v i. i) l ds u

  pub under_kind : (x : List ℕ) (v : CellType) (ms : Names) → Under ns ms → Under ns ((x, meaning.Kind v) ∷ ms)
  under_kind x v ms u = under_added ns x (meaning.Kind v) ms (λ i. i) u

module _ (k : Numbering) where
  -- what neither permanent variables nor system types are added to
  pub owns_declared : (l m : Layer) (vs : List Variable) → Declares l m → m.owned ≡ l.owned → Under l.names m.names → OwnsAt k l vs → OwnsAt k m vs
  owns_declared l m vs d e u h =
      let ts : m.types ≡ l.types ++ d.types = ap (λ (j : Layer). j.types) d.same in
      let ss : m.systems ≡ l.systems ++ [] = ap (λ (j : Layer). j.systems) d.same ∙ sym (append-nil l.systems) in
      rw (ts, ss, e) (owns_grown k l.types d.types l.systems [] l.names m.names l.owned vs u h)

  -- ---- variables

  still_systems : (l : Layer) (x : List ℕ) (v : CellType) (o : Option Contained) → (variable_with l x v o).systems ≡ l.systems
  still_systems l x v None = refl
  still_systems l x v (Some c) = refl

  variable_owns : (l : Layer) (w : Variable) (v : CellType) (o : Option Contained) (vs : List Variable) → components_of l.types v ≡ o → TypeIs k l.types w.ty v → ContainedAre l.types (length l.systems) w.ty v → OwnsAt k l vs → OwnsAt k (variable_with l w.name v o) (vs ++ w ∷ [])
  variable_owns l w v None vs e h (inl c) i =
      owns_variable k l.types l.systems ((w.name, meaning.Variable (Permanent l.owned.cells) v) ∷ l.names) _ vs (owns_cells k l.types l.systems l.names l.owned vs i w.name w.ty v h) w c.0
  variable_owns l w v None vs e h (inr c) i = absurd (none-some c.components (sym e ∙ c.is))
  variable_owns l w v (Some d) vs e h (inl c) i = absurd (none-some d (sym c.1 ∙ e))
  variable_owns l w v (Some d) vs e h (inr c) i =
      let same : c.components ≡ d = same_Some c.components d (sym c.is ∙ e) in
      owns_components k l.types l.systems l.names l.owned vs i w v d (c.one ∙ ap (λ x. x ∷ []) same) (subst (λ (x : Contained). x.system < length l.systems) same c.low)

  variables_of_owns : (l : Layer) (t : Ty) (v : CellType) (is : List Identifier) (vs : List Variable) → TypeIs k l.types t v → ContainedAre l.types (length l.systems) t v → OwnsAt k l vs → OwnsAt k (variables_of l v is) (vs ++ named_variables (names_of is) t)
  unfolding variables_of
  variables_of_owns l t v [] vs h c i = rw (append-nil vs) i
  variables_of_owns l t v (x ∷ xs) vs h c i =
      let w : Variable = record { name = x.name; ty = t } in
      let m : Layer = variable l x.name v in
      let a : OwnsAt k m (vs ++ w ∷ []) = variable_owns l w v (components_of l.types v) vs refl h c i in
      let ts : m.types ≡ l.types = variable_types l x.name v (components_of l.types v) in
      let ss : m.systems ≡ l.systems = still_systems l x.name v (components_of l.types v) in
      let d : ContainedAre m.types (length m.systems) t v = rw (ts, ss) c in
      let b : OwnsAt k (variables_of m v xs) ((vs ++ w ∷ []) ++ named_variables (names_of xs) t) = variables_of_owns m t v xs (vs ++ w ∷ []) (rw ts h) d a in
      subst (OwnsAt k (variables_of m v xs)) (append_assoc vs (w ∷ []) (named_variables (names_of xs) t)) b

  -- one declaration
  group_owns : (l : Layer) (b : Block) (g : syntax.VariableGroup) → IsSmallType g.variable_type → AreNumbered k.firsts (length l.constants) (in_type g.variable_type) → InStep k l.types l.names b.scope → Named l → OwnsAt k l b.variables →
      OwnsAt k (variable_group l g) (b.variables ++ named_variables (names_of g.names) (meant.type_in b.scope g.variable_type).0)
  group_owns l b g h n i a o =
      let x : CellType × Layer = written_type l g.variable_type in
      let y : Ty × Scope = meant.type_in b.scope g.variable_type in
      let w : Written k l x y (in_type g.variable_type) = type_written k l b.scope g.variable_type h n i in
      let d : declared_parts.Typed l x = declared_parts.written_typed l g.variable_type a in
      let c : ContainedAre x.1.types (length x.1.systems) y.0 x.0 = contained_same k x.1.types (length x.1.systems) y.0 x.0 w.belongs d.is d.declared.named.types in
      variables_of_owns x.1 y.0 x.0 g.names b.variables w.belongs c (owns_declared l x.1 b.variables (type_declares l g.variable_type) (type_owned l g.variable_type) (under_type l.names l g.variable_type (under_same l.names)) o)

  pub variables_owns : (l : Layer) (b : Block) (gs : List syntax.VariableGroup) → Each (λ g. IsSmallType g.variable_type) gs → AreNumbered k.firsts (length l.constants) (each_in (λ g. in_type g.variable_type) gs) → InStep k l.types l.names b.scope → Named l → OwnsAt k l b.variables →
      OwnsAt k (variables l gs) (meant.variables_in scopes.permanent_variable b gs).variables
  unfolding variables
  variables_owns l b [] h n i a o = o
  variables_owns l b (g ∷ gs) h n i a o =
      let rest = each_in (λ (g : syntax.VariableGroup). in_type g.variable_type) gs in
      let mine = in_type g.variable_type in
      let m : Layer = variable_group l g in
      let c : Block = meant.variables_in scopes.permanent_variable b (g ∷ []) in
      let numbered : AreNumbered k.firsts (length l.constants) mine = numbered_left k (length l.constants) mine rest n in
      let r : Reached k l m c.scope (mine ++ []) = variables_reached k l b (g ∷ []) (h.0, tt) (subst (AreNumbered k.firsts (length l.constants)) (sym (append-nil mine)) numbered) i in
      let s : Reached k l m c.scope mine = subst (Reached k l m c.scope) (append-nil mine) r in
      variables_owns m c gs h.1 (numbered_after k l.constants m.constants mine rest s.constants n) s.names (declared_parts.variables_declared l (g ∷ []) a).named (group_owns l b g h.0 numbered i a o)

  -- ---- parts

  part_owns : (l : Layer) (b : Block) (p : syntax.Part) → IsSmallPart p → AreNumbered k.firsts (length l.constants) (in_part p) → InStep k l.types l.names b.scope → Named l → OwnsAt k l b.variables → OwnsAt k (permanent_part l p) (meant.part_in scopes.permanent_variable b p).variables
  part_owns l b (syntax.constants at ds) h n i a o = owns_declared l (constants l ds) b.variables (constants_declare l ds) (constants_owned l ds) (under_constants l.names l ds (under_same l.names)) o
  part_owns l b (syntax.types at ds) h n i a o = owns_declared l (type_definitions l ds) b.variables (definitions_declare l ds) (definitions_owned l ds) (under_definitions l.names l ds (under_same l.names)) o
  part_owns l b (syntax.variables at gs) h n i a o = variables_owns l b gs h n i a o

  parts_owns : (l : Layer) (b : Block) (ps : List syntax.Part) → Each IsSmallPart ps → AreNumbered k.firsts (length l.constants) (each_in in_part ps) → InStep k l.types l.names b.scope → Named l → OwnsAt k l b.variables → OwnsAt k (permanent_parts l ps) (meant.parts_in scopes.permanent_variable b ps).variables
  unfolding permanent_parts
  parts_owns l b [] h n i a o = o
  parts_owns l b (p ∷ ps) h n i a o =
      let rest = each_in in_part ps in
      let mine = in_part p in
      let m : Layer = permanent_part l p in
      let c : Block = meant.part_in scopes.permanent_variable b p in
      let numbered : AreNumbered k.firsts (length l.constants) mine = numbered_left k (length l.constants) mine rest n in
      let r : Reached k l m c.scope (mine ++ []) = permanent_parts_reached k l b (p ∷ []) (h.0, tt) (subst (AreNumbered k.firsts (length l.constants)) (sym (append-nil mine)) numbered) i in
      let s : Reached k l m c.scope mine = subst (Reached k l m c.scope) (append-nil mine) r in
      parts_owns m c ps h.1 (numbered_after k l.constants m.constants mine rest s.constants n) s.names (declared_parts.permanent_declared l (p ∷ []) a).named (part_owns l b p h.0 numbered i a o)

  -- ---- parameters of a system type

  parameter_owns : (l : Layer) (ps : Parameters) (x : List ℕ) (t : Ty) (v : CellType) → TypeIs k l.types t v → OwnsAt k l [] → OwnsAt k (system_parameter l ps x v).1 []
  parameter_owns l ps x t (types.System j) h o = owns_bound k l.types l.systems l.names l.owned [] o x j
  parameter_owns l ps x t v h o = owns_cells k l.types l.systems l.names l.owned [] o x t v h

  parameters_own : (l : Layer) (ps : Parameters) (t : Ty) (v : CellType) (is : List Identifier) → TypeIs k l.types t v → OwnsAt k l [] → OwnsAt k (system_parameters_of l ps v is).1 []
  unfolding system_parameters_of
  parameters_own l ps t v [] h o = o
  parameters_own l ps t v (i ∷ is) h o =
      let x : Parameters × Layer = system_parameter l ps i.name v in
      parameters_own x.1 x.0 t v is (rw (parameter_types l ps i.name v) h) (parameter_owns l ps i.name t v h o)

  groups_own : (l : Layer) (h : Heading) (ps : Parameters) (gs : List syntax.Group) → AreParameters h gs → InStep k l.types l.names h.scope → OwnsAt k l [] → OwnsAt k (system_groups l ps gs).1 []
  unfolding system_groups
  groups_own l h ps [] f i o = o
  groups_own l h ps (g ∷ gs) f i o =
      let x : Parameters × Layer = system_group l ps g in
      let j : Heading = meant.with_group scopes.permanent_variable false h g in
      let r : Reached k l x.1 j.scope [] = system_groups_reached k l h ps (g ∷ []) (f.0, tt) i in
      groups_own x.1 j x.0 gs f.1 r.names (parameters_own l ps (meant.type_named h.scope g.type_name.name) (type_of_name l g.type_name.name) g.names (named_type_same k l h.scope g.type_name.name i) o)

  -- ---- a system type

  no_permanent : (ns : Names) (x : List ℕ) (m : LayoutMeaning) → is_open m ≡ false → find x (seen_inside ns) ≡ Some m → ⊥
  no_permanent ns x m closed e = let w : false ≡ true = sym closed ∙ open_found x m ns e in cc

  entered_owns : (l : Layer) → OwnsAt k (enter_system l).1 []
  entered_owns l =
      record {
        contained = refl;
        low = tt;
        count = refl;
        contents = tt;
        cells = refl;
        slots = λ x n v e. absurd (no_permanent l.names x (meaning.Variable (Permanent n) v) refl e);
        firsts = λ x n v e. absurd (no_permanent l.names x (meaning.Contained n v) refl e);
      }

  -- before its routines
  pub system_owns : (l : Layer) (s : Scope) (d : syntax.System) → Each IsSmallPart d.parts → AreParameters (record { parameters = []; scope = scopes.seen_inside s }) d.parameters → AreOuter s → AreNumbered k.firsts (length l.constants) (each_in in_part d.parts) → InStep k l.types l.names s → Named (enter_system l).1 →
      OwnsAt k (parts_begun l d) (meant.parts_in scopes.permanent_variable (record { variables = []; scope = (meant.with_groups scopes.permanent_variable (record { parameters = []; scope = scopes.seen_inside s }) d.parameters).scope }) d.parts).variables
  system_owns l s d h f g n i a =
      let x : Layer = (enter_system l).1 in
      let y : Layer = (system_groups x [] d.parameters).1 in
      let u : Scope = scopes.seen_inside s in
      let v : Scope = (meant.with_groups scopes.permanent_variable (record { parameters = []; scope = u }) d.parameters).scope in
      let j : InStep k x.types x.names u = all_inside k l.types l.names s g i in
      let r : Reached k x y v [] = system_groups_reached k x (record { parameters = []; scope = u }) [] d.parameters f j in
      let c : y.constants ≡ l.constants = r.constants ∙ append-nil l.constants in
      let m : AreNumbered k.firsts (length y.constants) (each_in in_part d.parts) = subst (λ cs. AreNumbered k.firsts (length cs) (each_in in_part d.parts)) (sym c) n in
      parts_owns y (record { variables = []; scope = v }) d.parts h m r.names (declared_parts.system_groups_declared x [] d.parameters a).named (groups_own x (record { parameters = []; scope = u }) [] d.parameters f j (entered_owns l))

  -- nothing is laid out
  pub nothing_owns : (lines : List ℕ) → OwnsAt k (nothing_laid lines) []
  nothing_owns lines =
      record {
        contained = refl;
        low = tt;
        count = refl;
        contents = tt;
        cells = refl;
        slots = λ x n v e. absurd (none_there x (meaning.Variable (Permanent n) v) tt e);
        firsts = λ x n v e. absurd (none_there x (meaning.Contained n v) tt e);
      }
    where
      none_there : (x : List ℕ) (m : LayoutMeaning) → IsPermanent m → find x outermost ≡ Some m → ⊥
      none_there x m i e = absurd (no_permanent outermost x m (closed m i) e)
        where
          closed : (m : LayoutMeaning) → IsPermanent m → is_open m ≡ false
          closed (meaning.Variable o v) i = refl
          closed (meaning.Contained n v) i = refl
          closed (meaning.Bound n j) i = refl
          closed (meaning.Constant b z) i = absurd i
          closed (meaning.Kind v) i = absurd i
          closed (meaning.Routine n) i = absurd i
          closed (meaning.Predeclared p) i = absurd i
