-- The parameters and variables of a system type have its permanent cells, one after the other.
use Rattle.std.proofs.Common.{◌≡◌, ◌+◌, ◌≤◌, ℕ, true, false, if◌then◌else◌, List, [], ◌∷◌, ◌++◌, length, Option, Some, None, refl, sym, ap, subst, ◌∙◌, ◌⊎◌, inl, inr, arith, append_assoc, append-nil}
use Rattle.cp_resolved.proofs.Words.{min, bytes_eq, Identifier, CellType, Contained, LayoutMeaning, most, plus, written_type, Name, same_name, Ty}
use Rattle.cp_resolved.proofs.Words.{has_components, Scope, permanent_variable, parameter_variables, Enumerated, each_in, in_type, in_part, cells_of, look}
use Rattle.cp_resolved.proofs.Words.{components_among, Each, IsSmallType, IsSmallPart, AreNumbered, IsParameter, AreParameters}
use Rattle.cp_tree.specs.Syntax as syntax
use Rattle.cp_slots.specs.declared.place.PlaceOrigin.TheVariants as origin
use Rattle.cp_symbols.specs.declared.kinds.CellType.TheVariants as types
use Rattle.cp_symbols.specs.declared.names.LayoutMeaning.TheVariants as meaning
use Rattle.cp_symbols.specs.Kinds as kinds
use Rattle.cp_layout.specs.Layers.{Names, find, Layer}
use Rattle.cp_layout.specs.LaidTypes as laid
use Rattle.cp_layout.specs.LaidDeclarations.{constants, type_definitions, components_of, cell_variable, variable, variable_with, variables_of, variable_group, variables, permanent_part, permanent_parts, Parameters, system_parameter, system_parameters_of, system_group, system_groups}
use Rattle.cp_meaning.specs.Types as named
use Rattle.cp_meaning.specs.Declarations as meant
use Rattle.cp_meaning.specs.Declarations.{Variable, Parameter, Block, Heading, names_of, named_variables, parameters_named, with_names}
use Rattle.cp_resolved.specs.InStep.{Numbering, range_on, TypeIs, InStep}
use Rattle.cp_resolved.proofs.frames.Cells.{cells_same}
use Rattle.cp_resolved.proofs.laid.Extends.{Longer}
use Rattle.cp_resolved.proofs.laid.OwnedCells.{variable_types, parameter_types}
use Rattle.cp_resolved.proofs.frames.FrameCells.{look_left, look_right, same_is, weight, weight_before, weight_append, before_left, before_right}
use Rattle.cp_resolved.proofs.frames.FrameKept.{cells, constants_cells, definitions_cells, type_cells, owned_same}
use Rattle.cp_resolved.proofs.frames.FrameSteps.{one_variable}
use Rattle.cp_resolved.proofs.frames.FramesBegun.{variables_append, named_parameters, groups_grow, parts_grow, variables_grow}
use Rattle.cp_resolved.proofs.names.KeptNames as kept
use Rattle.cp_resolved.proofs.names.PermanentNames.{found_cases}
use Rattle.cp_resolved.proofs.agreeing.ScopeVariables.{components_append}
use Rattle.cp_resolved.proofs.names.Steps.{bytes_turned}
use Rattle.cp_resolved.proofs.names.StepsOfParts.{Reached, reached_then, written_reached, ComponentsAre, components_same, variables_of_reached, permanent_part_reached, system_parameters_reached}
use Rattle.cp_resolved.proofs.names.StepsOfTypes.{Written, type_written, named_type_same, numbered_left, numbered_after}

-- ---- cells in their order

-- a parameter that is a component has one cell
abbrev pub width : Ty → ℕ
width (named.component_of n) = 1
width t = cells_of t

abbrev pub taken : List Variable → ℕ
taken vs = weight width vs

abbrev pub taken_before : Name → List Variable → ℕ
taken_before x vs = weight_before width x vs

-- ---- where they lie

-- the count of cells stops at the greatest word
abbrev pub Holds : List Variable → Name → LayoutMeaning → Type 0
Holds ws x (meaning.Variable (origin.Permanent n) v) = (t : Ty) × (look x ws ≡ Some t) × (n ≡ min (taken_before x ws) most)
Holds ws x (meaning.Bound n k) = (t : Ty) × (look x ws ≡ Some t) × (n ≡ min (taken_before x ws) most)
Holds ws x m = Unit {0}

abbrev pub AreHolding : List Variable → Names → Type 0
AreHolding ws ns = (x : Name) (m : LayoutMeaning) → find x ns ≡ Some m → Holds ws x m

pub record Owns (l : Layer) (ws : List Variable) : Type 0 where
  pub cells : l.owned.cells ≡ min (taken ws) most
  pub holding : AreHolding ws l.names

holds_more : (ws vs : List Variable) (x : Name) (m : LayoutMeaning) → Holds ws x m → Holds (ws ++ vs) x m
holds_more ws vs x (meaning.Variable (origin.Permanent n) v) h = (h.0, look_left x h.0 ws vs h.1, h.2 ∙ ap (λ j. min j most) (sym (before_left width x h.0 ws vs h.1)))
holds_more ws vs x (meaning.Bound n k) h = (h.0, look_left x h.0 ws vs h.1, h.2 ∙ ap (λ j. min j most) (sym (before_left width x h.0 ws vs h.1)))
holds_more ws vs x _ h = tt

holding_more : (ws vs : List Variable) (ns : Names) → AreHolding ws ns → AreHolding (ws ++ vs) ns
holding_more ws vs ns h x m e = holds_more ws vs x m (h x m e)

abbrev pub IsUnheld : LayoutMeaning → Type 0
IsUnheld (meaning.Variable (origin.Permanent n) v) = ⊥
IsUnheld (meaning.Bound n k) = ⊥
IsUnheld m = Unit {0}

unheld_holds : (ws : List Variable) (x : Name) (m : LayoutMeaning) → IsUnheld m → Holds ws x m
unheld_holds ws x (meaning.Variable (origin.Permanent n) v) h = absurd h
unheld_holds ws x (meaning.Bound n k) h = absurd h
unheld_holds ws x _ h = tt

pub holding_added : (ws : List Variable) (x : Name) (m : LayoutMeaning) (ns : Names) → IsUnheld m → AreHolding ws ns → AreHolding ws ((x, m) ∷ ns)
holding_added ws x m ns i h y n e = go (found_cases (x, m) ns y n e)
  where
    go : ((bytes_eq x y ≡ true) × (m ≡ n)) ⊎ (find y ns ≡ Some n) → Holds ws y n
    go (inl w) = unheld_holds ws y n (subst IsUnheld w.1 i)
    go (inr f) = h y n f

holding_variable : (ws : List Variable) (x : Name) (m : LayoutMeaning) (ns : Names) → ((y : Name) → bytes_eq x y ≡ true → Holds ws y m) → AreHolding ws ns → AreHolding ws ((x, m) ∷ ns)
holding_variable ws x m ns l h y n e = go (found_cases (x, m) ns y n e)
  where
    go : ((bytes_eq x y ≡ true) × (m ≡ n)) ⊎ (find y ns ≡ Some n) → Holds ws y n
    go (inl w) = subst (λ q. Holds ws y q) w.1 (l y w.0)
    go (inr f) = h y n f

-- ---- constants and types

same_owns : (l m : Layer) (ws : List Variable) → cells m ≡ cells l → AreHolding ws m.names → Owns l ws → Owns m ws
same_owns l m ws e holding h = record { cells = ap (λ o. o.cells) (owned_same l m e) ∙ h.cells; holding = holding }

pub constants_own : (l : Layer) (ds : List syntax.ConstantDefinition) (ws : List Variable) → Owns l ws → Owns (constants l ds) ws
constants_own l ds ws h = same_owns l (constants l ds) ws (constants_cells l ds) (kept.constants_keep (AreHolding ws) IsUnheld (holding_added ws) (λ b z. tt) (λ v. tt) l ds h.holding) h

pub definitions_own : (l : Layer) (ds : List syntax.TypeDefinition) (ws : List Variable) → Owns l ws → Owns (type_definitions l ds) ws
definitions_own l ds ws h = same_owns l (type_definitions l ds) ws (definitions_cells l ds) (kept.definitions_keep (AreHolding ws) IsUnheld (holding_added ws) (λ b z. tt) (λ v. tt) l ds h.holding) h

pub type_owns : (l : Layer) (t : syntax.TypeTerm) (ws : List Variable) → Owns l ws → Owns (written_type l t).1 ws
type_owns l t ws h = same_owns l (written_type l t).1 ws (type_cells l t) (kept.type_keep (AreHolding ws) IsUnheld (holding_added ws) (λ b z. tt) (λ v. tt) l t h.holding) h

-- ---- one more

-- a name that no earlier one of the list has, of a type of few cells
pub record IsFirst (ws : List Variable) (v : Variable) : Type 0 where
  pub other : look v.name ws ≡ None
  pub few : cells_of v.ty ≤ most

variable_holds : (ws : List Variable) (x : Name) (t : Ty) (v : CellType) (n : ℕ) → look x ws ≡ None → n ≡ min (taken ws) most → (y : Name) → bytes_eq x y ≡ true → Holds (ws ++ one_variable x t ∷ []) y (meaning.Variable (origin.Permanent n) v)
variable_holds ws x t v n new e y same =
    let turned : same_name y x ≡ true = bytes_turned y x ∙ same in
    let absent : look y ws ≡ None = ap (λ z. look z ws) (same_is y x turned) ∙ new in
    let first : look y (one_variable x t ∷ []) ≡ Some t = ap (λ b. if b then Some t else None) turned in
    let none : taken_before y (one_variable x t ∷ []) ≡ 0 = ap (λ b. if b then 0 else width t + 0) turned in
    let place = before_right width y ws (one_variable x t ∷ []) absent in
    (t, look_right y ws (one_variable x t ∷ []) absent ∙ first, e ∙ ap (λ j. min j most) (let f : taken ws ≡ taken_before y (ws ++ one_variable x t ∷ []) = omega (arith, place, none) in f))

bound_holds : (ws : List Variable) (x : Name) (t : Ty) (n k : ℕ) → look x ws ≡ None → n ≡ min (taken ws) most → (y : Name) → bytes_eq x y ≡ true → Holds (ws ++ one_variable x t ∷ []) y (meaning.Bound n k)
bound_holds ws x t n k new e y same = variable_holds ws x t types.Queue n new e y same

more_cells : (ws : List Variable) (x : Name) (t : Ty) (n w : ℕ) → n ≡ min (taken ws) most → w ≡ width t → plus n w ≡ min (taken (ws ++ one_variable x t ∷ [])) most
more_cells ws x t n w e f = let a = weight_append width ws (one_variable x t ∷ []) in let b : taken (one_variable x t ∷ []) ≡ width t + 0 = refl in omega (arith, a, b, e, f)

pub width_plain : (t : Ty) → has_components t ≡ false → width t ≡ cells_of t
width_plain (named.component_of n) h = absurd (let bad : true ≡ false = h in cc)
width_plain _ h = refl

module _ (k : Numbering) where
  cell_owns : (l : Layer) (x : Name) (t : Ty) (v : CellType) (ws : List Variable) → has_components t ≡ false → TypeIs k l.types t v → IsFirst ws (one_variable x t) → Owns l ws → Owns (cell_variable l x v).1 (ws ++ one_variable x t ∷ [])
  cell_owns l x t v ws w i new h =
      record {
        cells = more_cells ws x t l.owned.cells (kinds.cells_of l.types v) h.cells (cells_same k l.types t v i new.few ∙ sym (width_plain t w));
        holding = holding_variable (ws ++ one_variable x t ∷ []) x (meaning.Variable (origin.Permanent l.owned.cells) v) l.names (variable_holds ws x t v l.owned.cells new.other h.cells) (holding_more ws (one_variable x t ∷ []) l.names h.holding);
      }

  -- ---- variables

  with_owns : (l : Layer) (x : Name) (t : Ty) (v : CellType) (o : Option Contained) (ws : List Variable) → o ≡ components_of l.types v → TypeIs k l.types t v → ComponentsAre k l.types t v → (has_components t ≡ false → IsFirst ws (one_variable x t)) → Owns l ws →
      Owns (variable_with l x v o) (ws ++ components_among false (one_variable x t ∷ []))
  with_owns l x t v None ws e i (inl c) new h = subst (λ us. Owns (cell_variable l x v).1 (ws ++ us)) (sym (ap (λ b. if b then [] else one_variable x t ∷ []) c.0)) (cell_owns l x t v ws c.0 i (new c.0) h)
  with_owns l x t v None ws e i (inr c) new h = absurd (let w : None ≡ Some c.0 = e ∙ c.2 in cc)
  with_owns l x t v (Some d) ws e i (inl c) new h = absurd (let w : Some d ≡ None = e ∙ c.1 in cc)
  with_owns l x t v (Some d) ws e i (inr c) new h =
      subst (λ us. Owns (variable_with l x v (Some d)) us) (sym (ap (λ b. ws ++ (if b then [] else one_variable x t ∷ [])) c.1 ∙ append-nil ws))
      (record { cells = h.cells; holding = holding_added ws x (meaning.Contained l.owned.count v) l.names tt h.holding })

  -- each of them that has cells is new among those before it
  abbrev pub Follow : List Variable → List Variable → Type 0
  Follow ws [] = Unit {0}
  Follow ws (v ∷ vs) = (has_components v.ty ≡ false → IsFirst ws v) × Follow (ws ++ components_among false (v ∷ [])) vs

  pub follow_left : (ws vs us : List Variable) → Follow ws (vs ++ us) → Follow ws vs
  follow_left ws [] us h = tt
  follow_left ws (v ∷ vs) us h = (h.0, follow_left (ws ++ components_among false (v ∷ [])) vs us h.1)

  one_and_more : (ws : List Variable) (v : Variable) (vs : List Variable) → (ws ++ components_among false (v ∷ [])) ++ components_among false vs ≡ ws ++ components_among false (v ∷ vs)
  one_and_more ws v vs = append_assoc ws (components_among false (v ∷ [])) (components_among false vs) ∙ ap (λ us. ws ++ us) (sym (components_append false (v ∷ []) vs))

  pub follow_right : (ws vs us : List Variable) → Follow ws (vs ++ us) → Follow (ws ++ components_among false vs) us
  follow_right ws [] us h = subst (λ xs. Follow xs us) (sym (append-nil ws)) h
  follow_right ws (v ∷ vs) us h = subst (λ xs. Follow xs us) (one_and_more ws v vs) (follow_right (ws ++ components_among false (v ∷ [])) vs us h.1)

  variables_of_own : (l : Layer) (t : Ty) (v : CellType) (is : List Identifier) (ws : List Variable) → TypeIs k l.types t v → Follow ws (named_variables (names_of is) t) → Owns l ws → Owns (variables_of l v is) (ws ++ components_among false (named_variables (names_of is) t))
  unfolding variables_of
  variables_of_own l t v [] ws i f h = subst (λ us. Owns l us) (sym (append-nil ws)) h
  variables_of_own l t v (x ∷ xs) ws i f h =
      let m : Layer = variable l x.name v in
      let one : Owns m (ws ++ components_among false (one_variable x.name t ∷ [])) = with_owns l x.name t v (components_of l.types v) ws refl i (components_same k l.types t v i) f.0 h in
      let j : TypeIs k m.types t v = subst (λ ts. TypeIs k ts t v) (sym (variable_types l x.name v (components_of l.types v))) i in
      subst (λ us. Owns (variables_of m v xs) us) (one_and_more ws (one_variable x.name t) (named_variables (names_of xs) t)) (variables_of_own m t v xs (ws ++ components_among false (one_variable x.name t ∷ [])) j f.1 one)

  follow_before : (ws vs us : List Variable) → Longer vs us → Follow ws us → Follow ws vs
  follow_before ws vs us x h = follow_left ws vs x.0 (subst (λ xs. Follow ws xs) x.1 h)

  pub variables_own : (l : Layer) (b : Block) (gs : List syntax.VariableGroup) (pre : List Variable) → Each (λ g. IsSmallType g.variable_type) gs → AreNumbered k.firsts (length l.constants) (each_in (λ g. in_type g.variable_type) gs) → InStep k l.types l.names b.scope →
      Follow pre (meant.variables_in permanent_variable b gs).variables → Owns l (pre ++ components_among false b.variables) → Owns (variables l gs) (pre ++ components_among false (meant.variables_in permanent_variable b gs).variables)
  unfolding variables
  variables_own l b [] pre s n i f h = h
  variables_own l b (g ∷ gs) pre s n i f h =
      let fs : List Enumerated = each_in (λ (g : syntax.VariableGroup). in_type g.variable_type) gs in
      let v : CellType × Layer = written_type l g.variable_type in
      let y : Ty × Scope = meant.type_in b.scope g.variable_type in
      let w : Written k l v y (in_type g.variable_type) = type_written k l b.scope g.variable_type s.0 (numbered_left k (length l.constants) (in_type g.variable_type) fs n) i in
      let m : Layer = variable_group l g in
      let new : List Variable = named_variables (names_of g.names) y.0 in
      let c : Block = record { variables = b.variables ++ new; scope = with_names (names_of g.names) (permanent_variable y.0) y.1 } in
      let a : Reached k l m c.scope (in_type g.variable_type) = reached_then k l v.1 m y.1 c.scope (in_type g.variable_type) (written_reached k l v y (in_type g.variable_type) w) (variables_of_reached k v.1 y.1 y.0 v.0 g.names w.belongs w.names) in
      let now : Follow pre (b.variables ++ new) = follow_before pre (b.variables ++ new) (meant.variables_in permanent_variable c gs).variables (variables_grow permanent_variable c gs) f in
      let one : Owns m ((pre ++ components_among false b.variables) ++ components_among false new) = variables_of_own v.1 y.0 v.0 g.names (pre ++ components_among false b.variables) w.belongs (follow_right pre b.variables new now) (type_owns l g.variable_type (pre ++ components_among false b.variables) h) in
      let e : (pre ++ components_among false b.variables) ++ components_among false new ≡ pre ++ components_among false c.variables = append_assoc pre (components_among false b.variables) (components_among false new) ∙ ap (λ us. pre ++ us) (sym (components_append false b.variables new)) in
      variables_own m c gs pre s.1 (numbered_after k l.constants m.constants (in_type g.variable_type) fs a.constants n) a.names f (subst (λ us. Owns m us) e one)

  part_owns : (l : Layer) (b : Block) (p : syntax.Part) (pre : List Variable) → IsSmallPart p → AreNumbered k.firsts (length l.constants) (in_part p) → InStep k l.types l.names b.scope → Follow pre (meant.part_in permanent_variable b p).variables → Owns l (pre ++ components_among false b.variables) →
      Owns (permanent_part l p) (pre ++ components_among false (meant.part_in permanent_variable b p).variables)
  part_owns l b (syntax.constants at ds) pre s n i f h = constants_own l ds (pre ++ components_among false b.variables) h
  part_owns l b (syntax.types at ds) pre s n i f h = definitions_own l ds (pre ++ components_among false b.variables) h
  part_owns l b (syntax.variables at gs) pre s n i f h = variables_own l b gs pre s n i f h

  pub parts_own : (l : Layer) (b : Block) (ps : List syntax.Part) (pre : List Variable) → Each IsSmallPart ps → AreNumbered k.firsts (length l.constants) (each_in in_part ps) → InStep k l.types l.names b.scope → Follow pre (meant.parts_in permanent_variable b ps).variables → Owns l (pre ++ components_among false b.variables) →
      Owns (permanent_parts l ps) (pre ++ components_among false (meant.parts_in permanent_variable b ps).variables)
  unfolding permanent_parts
  parts_own l b [] pre s n i f h = h
  parts_own l b (p ∷ ps) pre s n i f h =
      let m : Layer = permanent_part l p in
      let c : Block = meant.part_in permanent_variable b p in
      let a : Reached k l m c.scope (in_part p) = permanent_part_reached k l b p s.0 (numbered_left k (length l.constants) (in_part p) (each_in in_part ps) n) i in
      let one : Owns m (pre ++ components_among false c.variables) = part_owns l b p pre s.0 (numbered_left k (length l.constants) (in_part p) (each_in in_part ps) n) i (follow_before pre c.variables (meant.parts_in permanent_variable c ps).variables (parts_grow permanent_variable c ps) f) h in
      parts_own m c ps pre s.1 (numbered_after k l.constants m.constants (in_part p) (each_in in_part ps) a.constants n) a.names f one

  -- ---- parameters of a system type

  -- each is new among those before it
  abbrev pub Firsts : List Variable → List Variable → Type 0
  Firsts ws [] = Unit {0}
  Firsts ws (v ∷ vs) = IsFirst ws v × Firsts (ws ++ v ∷ []) vs

  pub firsts_left : (ws vs us : List Variable) → Firsts ws (vs ++ us) → Firsts ws vs
  firsts_left ws [] us h = tt
  firsts_left ws (v ∷ vs) us h = (h.0, firsts_left (ws ++ v ∷ []) vs us h.1)

  pub firsts_right : (ws vs us : List Variable) → Firsts ws (vs ++ us) → Firsts (ws ++ vs) us
  firsts_right ws [] us h = subst (λ xs. Firsts xs us) (sym (append-nil ws)) h
  firsts_right ws (v ∷ vs) us h = subst (λ xs. Firsts xs us) (append_assoc ws (v ∷ []) vs) (firsts_right (ws ++ v ∷ []) vs us h.1)

  parameter_owns : (l : Layer) (ps : Parameters) (x : Name) (t : Ty) (v : CellType) (ws : List Variable) → IsParameter t → TypeIs k l.types t v → IsFirst ws (one_variable x t) → Owns l ws → Owns (system_parameter l ps x v).1 (ws ++ one_variable x t ∷ [])
  parameter_owns l ps x (named.ordinal r) v ws p i new h = subst (λ u. Owns (system_parameter l ps x u).1 (ws ++ one_variable x (named.ordinal r) ∷ [])) (sym i) (cell_owns l x (named.ordinal r) (types.Ordinal (range_on k r)) ws refl refl new h)
  parameter_owns l ps x named.queue_type v ws p i new h = subst (λ u. Owns (system_parameter l ps x u).1 (ws ++ one_variable x named.queue_type ∷ [])) (sym i) (cell_owns l x named.queue_type types.Queue ws refl refl new h)
  parameter_owns l ps x (named.set_over r) v ws p i new h = subst (λ u. Owns (system_parameter l ps x u).1 (ws ++ one_variable x (named.set_over r) ∷ [])) (sym i) (cell_owns l x (named.set_over r) (types.Set (range_on k r)) ws refl refl new h)
  parameter_owns l ps x (named.array_over r t) v ws p i new h =
      subst (λ u. Owns (system_parameter l ps x u).1 (ws ++ one_variable x (named.array_over r t) ∷ [])) (sym i.is) (cell_owns l x (named.array_over r t) (types.Array i.number) ws p (subst (TypeIs k l.types (named.array_over r t)) i.is i) new h)
  parameter_owns l ps x (named.record_with us) v ws p i new h =
      subst (λ u. Owns (system_parameter l ps x u).1 (ws ++ one_variable x (named.record_with us) ∷ [])) (sym i.is) (cell_owns l x (named.record_with us) (types.Record i.number) ws refl (subst (TypeIs k l.types (named.record_with us)) i.is i) new h)
  parameter_owns l ps x (named.component_of n) v ws p i new h =
      subst (λ u. Owns (system_parameter l ps x u).1 (ws ++ one_variable x (named.component_of n) ∷ [])) (sym i)
      (record { cells = more_cells ws x (named.component_of n) l.owned.cells 1 h.cells refl; holding = holding_variable (ws ++ one_variable x (named.component_of n) ∷ []) x (meaning.Bound l.owned.cells n) l.names (bound_holds ws x (named.component_of n) l.owned.cells n new.other h.cells) (holding_more ws (one_variable x (named.component_of n) ∷ []) l.names h.holding) })

  parameters_own : (l : Layer) (ps : Parameters) (t : Ty) (v : CellType) (is : List Identifier) (ws : List Variable) → IsParameter t → TypeIs k l.types t v → Firsts ws (named_variables (names_of is) t) → Owns l ws → Owns (system_parameters_of l ps v is).1 (ws ++ named_variables (names_of is) t)
  unfolding system_parameters_of
  parameters_own l ps t v [] ws p i f h = subst (λ us. Owns l us) (sym (append-nil ws)) h
  parameters_own l ps t v (x ∷ xs) ws p i f h =
      let m : Parameters × Layer = system_parameter l ps x.name v in
      let j : TypeIs k m.1.types t v = subst (λ ts. TypeIs k ts t v) (sym (parameter_types l ps x.name v)) i in
      subst (λ us. Owns (system_parameters_of m.1 m.0 v xs).1 us) (append_assoc ws (one_variable x.name t ∷ []) (named_variables (names_of xs) t)) (parameters_own m.1 m.0 t v xs (ws ++ one_variable x.name t ∷ []) p j f.1 (parameter_owns l ps x.name t v ws p i f.0 h))

  firsts_before : (qs ps : List Parameter) → Longer qs ps → Firsts [] (parameter_variables ps) → Firsts [] (parameter_variables qs)
  firsts_before qs ps x f = firsts_left [] (parameter_variables qs) (parameter_variables x.0) (subst (λ us. Firsts [] us) (ap parameter_variables x.1 ∙ variables_append qs x.0) f)

  pub groups_own : (l : Layer) (j : Heading) (ps : Parameters) (gs : List syntax.Group) → AreParameters j gs → InStep k l.types l.names j.scope → Firsts [] (parameter_variables (meant.with_groups permanent_variable j gs).parameters) → Owns l (parameter_variables j.parameters) →
      Owns (system_groups l ps gs).1 (parameter_variables (meant.with_groups permanent_variable j gs).parameters)
  unfolding system_groups
  groups_own l j ps [] p i f h = h
  groups_own l j ps (g ∷ gs) p i f h =
      let x : Parameters × Layer = system_group l ps g in
      let c : Heading = meant.with_group permanent_variable false j g in
      let t : Ty = meant.type_named j.scope g.type_name.name in
      let xs : List Name = names_of g.names in
      let qs : List Variable = parameter_variables j.parameters in
      let v : CellType = laid.type_of_name l g.type_name.name in
      let is : TypeIs k l.types t v = named_type_same k l j.scope g.type_name.name i in
      let a : Reached k l x.1 c.scope [] = system_parameters_reached k l j.scope ps t v g.names p.0 is i in
      let e : parameter_variables c.parameters ≡ qs ++ named_variables xs t = variables_append j.parameters (parameters_named xs t false) ∙ ap (λ us. qs ++ us) (named_parameters xs t false) in
      let now : Firsts [] (qs ++ named_variables xs t) = subst (λ us. Firsts [] us) e (firsts_before c.parameters (meant.with_groups permanent_variable c gs).parameters (groups_grow permanent_variable c gs) f) in
      let one : Owns x.1 (qs ++ named_variables xs t) = parameters_own l ps t v g.names qs p.0 is (firsts_right [] qs (named_variables xs t) now) h in
      groups_own x.1 c x.0 gs p.1 a.names f (subst (λ us. Owns x.1 us) (sym e) one)
