-- The permanent variables that a system type notes are those of the language, each under its name, with its type, from the cell on that comes after those before it.
use Rattle.std.proofs.Common.{◌≡◌, ℕ, ◌+◌, Bool, true, false, if◌then◌else◌, List, [], ◌∷◌, ◌++◌, length, Option, Some, None, refl, sym, ap, subst, ◌∙◌, inl, inr, append_assoc, append-nil, arith}
use Rattle.std.specs.Prelude.{min}
use Rattle.cp_legend_laws.proofs.Words.{none-some, Identifier, Name, CellType, Contained, Compounds, Layer, Variable, Block, names_of, named_variables}
use Rattle.cp_tree.specs.Syntax as syntax
use Rattle.cp_symbols.specs.declared.kinds.CellType.TheVariants as types
use Rattle.cp_symbols.specs.Kinds as kinds
use Rattle.cp_symbols.specs.Kinds.{most, plus}
use Rattle.cp_layout.specs.LaidTypes.{type_of_name, written_type}
use Rattle.cp_layout.specs.LaidDeclarations.{Parameters, components_of, cell_variable, variable, variable_with, variables_of, variable_group, variables, constants, type_definitions, permanent_part, permanent_parts, enter_system, system_parameter, system_parameters_of, system_group, system_groups, initial_statement, routines, heading_with, with_new_frame, with_heading}
use Rattle.cp_legend.specs.Names as legend
use Rattle.cp_meaning.specs.Types as named
use Rattle.cp_meaning.specs.Types.{Ty, has_components}
use Rattle.cp_meaning.specs.Scopes as scopes
use Rattle.cp_meaning.specs.Scopes.{Scope}
use Rattle.cp_meaning.specs.Declarations as meant
use Rattle.cp_meaning.specs.Declarations.{Heading, Parameter, parameters_named}
use Rattle.cp_meaning.specs.Steps.{parameter_variables}
use Rattle.cp_meaning.specs.Systems.{SystemMeaning, system_in}
use Rattle.cp_resolved.specs.Begun.{parts_begun, system_begun, parameters_of}
use Rattle.cp_resolved.specs.Enumerations.{in_type, each_in, in_part}
use Rattle.cp_resolved.specs.InStep.{Numbering, TypeIs, InStep, AreOuter, range_on}
use Rattle.cp_resolved.specs.Layouts.{look}
use Rattle.cp_resolved.specs.Small.{Each, IsParameter, IsSmallType, IsSmallPart, AreNumbered, AreParameters}
use Rattle.cp_resolved.specs.TreeLayouts.{components_among}
use Rattle.cp_resolved.proofs.agreeing.ScopeVariables.{components_append}
use Rattle.cp_resolved.proofs.components.Handed.{constants_owned, definitions_owned, routines_owned, body_owned}
use Rattle.cp_resolved.proofs.frames.Cells.{cells_same}
use Rattle.cp_resolved.proofs.frames.FrameCells.{weight_append}
use Rattle.cp_resolved.proofs.frames.FramesBegun.{variables_append, named_parameters}
use Rattle.cp_resolved.proofs.laid.OwnedCells.{parameter_types, type_owned}
use Rattle.cp_resolved.proofs.names.Steps.{type_grown, all_inside}
use Rattle.cp_resolved.proofs.names.StepsOfParts.{Reached, ComponentsAre, components_same, system_parameters_reached, variables_reached, permanent_parts_reached, system_groups_reached}
use Rattle.cp_resolved.proofs.names.StepsOfTypes.{Written, named_type_same, type_written, numbered_left, numbered_after}
use Rattle.cp_resolved.proofs.systems.PermanentCells.{Firsts, Follow, IsFirst, firsts_left, firsts_right, follow_left, follow_right, taken, width, width_plain}
use Rattle.cp_legend_laws.proofs.Noting.{Noting, noting_trans, noting_none, noting_name, noting_component}
use Rattle.cp_legend_laws.proofs.NotingDeclarations.{type_notes, constants_note, definitions_note}
use Rattle.cp_legend_laws.proofs.NotingRoutines.{initial_notes, routines_note}
use Rattle.cp_legend_laws.proofs.QuietSteps.{all_permanents, permanents_append, Quiet, quiet_same, type_quiet, constants_quiet, definitions_quiet, initial_quiet, routines_quiet}

append_left : {X : Type 0} (xs ys zs : List X) → xs ++ ys ≡ xs ++ zs → ys ≡ zs
append_left [] ys zs e = e
append_left (x ∷ xs) ys zs e = append_left xs ys zs (let f : xs ++ ys ≡ xs ++ zs = cc in f)

abbrev pub Told : Type 0
Told = List legend.Variable

-- those that have cells
abbrev pub celled : List Variable → List Variable
celled vs = components_among false vs

-- all cells so far are those of the variables
abbrev pub Cells : Layer → List Variable → Type 0
Cells l ws = l.owned.cells ≡ min (taken ws) most

more : (ws : List Variable) (v : Variable) (n w : ℕ) → n ≡ min (taken ws) most → w ≡ width v.ty → plus n w ≡ min (taken (ws ++ v ∷ [])) most
more ws v n w e f = let a = weight_append width ws (v ∷ []) in let b : taken (v ∷ []) ≡ width v.ty + 0 = refl in omega (arith, a, b, e, f)

no_more : (l : Layer) (ws : List Variable) → Cells l ws → Cells l (ws ++ [])
no_more l ws c = c ∙ ap (λ (xs : List Variable). min (taken xs) most) (sym (append-nil ws))

module _ (k : Numbering) where
  -- ---- variables and what is told of them, after others that have cells

  -- a component that is a parameter has a cell, but is no variable
  abbrev pub LiesIf : Bool → Compounds → List Variable → Variable → Told → Type 0
  LiesIf true ts ws v here = here ≡ []
  LiesIf false ts ws v here = (s : CellType) × (look v.name ws ≡ None) × (here ≡ legend.variable v.name (min (taken ws) most) s ∷ []) × TypeIs k ts v.ty s

  abbrev pub Lie : Compounds → List Variable → List Variable → Told → Type 0
  Lie ts ws [] es = es ≡ []
  Lie ts ws (v ∷ vs) es = (here : Told) × (rest : Told) × (es ≡ here ++ rest) × LiesIf (has_components v.ty) ts ws v here × Lie ts (ws ++ v ∷ []) vs rest

  lies_grown : (b : Bool) (ts later : Compounds) (ws : List Variable) (v : Variable) (here : Told) → LiesIf b ts ws v here → LiesIf b (ts ++ later) ws v here
  lies_grown true ts later ws v here h = h
  lies_grown false ts later ws v here h = (h.0, h.1, h.2, type_grown k ts later v.ty h.0 h.3)

  pub lie_grown : (ts later : Compounds) (ws vs : List Variable) (es : Told) → Lie ts ws vs es → Lie (ts ++ later) ws vs es
  lie_grown ts later ws [] es h = h
  lie_grown ts later ws (v ∷ vs) es h = (h.0, h.1, h.2, lies_grown (has_components v.ty) ts later ws v h.0 h.3, lie_grown ts later (ws ++ v ∷ []) vs h.1 h.4)

  pub lie_both : (ts : Compounds) (ws vs us : List Variable) (es fs : Told) → Lie ts ws vs es → Lie ts (ws ++ vs) us fs → Lie ts ws (vs ++ us) (es ++ fs)
  lie_both ts ws [] us es fs h i = subst (λ (xs : Told). Lie ts ws us (xs ++ fs)) (sym h) (subst (λ (ys : List Variable). Lie ts ys us fs) (append-nil ws) i)
  lie_both ts ws (v ∷ vs) us es fs h i = (
    h.0,
    h.1 ++ fs,
    ap (λ (xs : Told). xs ++ fs) h.2 ∙ append_assoc h.0 h.1 fs,
    h.3,
    lie_both ts (ws ++ v ∷ []) vs us h.1 fs h.4 (subst (λ (ys : List Variable). Lie ts ys us fs) (sym (append_assoc ws (v ∷ []) vs)) i),
  )

  -- ---- variables

  -- what is noted besides has these variables
  pub record Gains (l m : Layer) (vs : List Variable) : Type 0 where
    pub noting : Noting l m
    pub lies : (ws : List Variable) → Follow k ws vs → Cells l ws → Cells m (ws ++ celled vs) × Lie m.types ws (celled vs) (all_permanents noting.names)

  pub gains_trans : (l j m : Layer) (us vs : List Variable) → Gains l j us → Gains j m vs → Gains l m (us ++ vs)
  unfolding noting_trans
  gains_trans l j m us vs h i =
      record {
        noting = noting_trans l j m h.noting i.noting;
        lies = λ ws f c. (
            let a = h.lies ws (follow_left k ws us vs f) c in
            let b = i.lies (ws ++ celled us) (follow_right k ws us vs f) a.0 in
            let e : (ws ++ celled us) ++ celled vs ≡ ws ++ celled (us ++ vs) = append_assoc ws (celled us) (celled vs) ∙ ap (λ (xs : List Variable). ws ++ xs) (sym (components_append false us vs)) in
            let first : Lie m.types ws (celled us) (all_permanents h.noting.names) = subst (λ ts. Lie ts ws (celled us) (all_permanents h.noting.names)) (sym i.noting.grown) (lie_grown j.types i.noting.types ws (celled us) (all_permanents h.noting.names) a.1) in (
              subst (λ (xs : List Variable). Cells m xs) e b.0,
              subst (λ (es : Told). Lie m.types ws (celled (us ++ vs)) es) (sym (permanents_append h.noting.names i.noting.names))
                  (subst (λ (xs : List Variable). Lie m.types ws xs (all_permanents h.noting.names ++ all_permanents i.noting.names)) (sym (components_append false us vs))
                  (lie_both m.types ws (celled us) (celled vs) (all_permanents h.noting.names) (all_permanents i.noting.names) first b.1)),
            ));
      }

  quiet_none : (l m : Layer) (n : Noting l m) → Quiet l m → all_permanents n.names ≡ []
  quiet_none l m n q = ap all_permanents (append_left l.noted n.names q.names (sym n.noted ∙ q.noted)) ∙ q.none

  pub gains_nothing : (l m : Layer) → Noting l m → Quiet l m → m.owned.cells ≡ l.owned.cells → Gains l m []
  gains_nothing l m n q same = record { noting = n; lies = λ ws f c. (no_more m ws (same ∙ c), quiet_none l m n q) }

  gains_none : (l : Layer) → Gains l l []
  gains_none l = gains_nothing l l (noting_none l) (quiet_same l l refl) refl

  gains_with : (l : Layer) (w : Variable) (v : CellType) (o : Option Contained) → components_of l.types v ≡ o → TypeIs k l.types w.ty v → ComponentsAre k l.types w.ty v → Gains l (variable_with l w.name v o) (w ∷ [])
  unfolding noting_name noting_component
  gains_with l w v None e h (inl c) =
      let m : Layer = variable_with l w.name v None in
      record {
        noting = noting_name l w.name _ _ l.frame (λ ts. refl) refl;
        lies = λ ws f cells. (
            let first : IsFirst ws w = f.0 c.0 in
            let here : legend.Variable = legend.variable w.name l.owned.cells v in
            let after : Cells m (ws ++ w ∷ []) = more ws w l.owned.cells (kinds.cells_of l.types v) cells (cells_same k l.types w.ty v h first.few ∙ sym (width_plain w.ty c.0)) in
            let lies : LiesIf false l.types ws w (here ∷ []) = (v, first.other, ap (λ (n : ℕ). legend.variable w.name n v ∷ []) cells, h) in
            subst (λ (b : Bool). Cells m (ws ++ (if b then [] else w ∷ [])) × Lie l.types ws (if b then [] else w ∷ []) (here ∷ [])) (sym c.0)
            (after, (here ∷ [], [], refl, subst (λ (b : Bool). LiesIf b l.types ws w (here ∷ [])) (sym c.0) lies, refl)));
      }
  gains_with l w v None e h (inr c) = absurd (none-some c.0 (sym e ∙ c.2))
  gains_with l w v (Some d) e h (inl c) = absurd (none-some d (sym c.1 ∙ e))
  gains_with l w v (Some d) e h (inr c) =
      let m : Layer = variable_with l w.name v (Some d) in
      record {
        noting = noting_component l w.name l.owned.count v _ d e refl;
        lies = λ ws f cells. subst (λ (b : Bool). Cells m (ws ++ (if b then [] else w ∷ [])) × Lie l.types ws (if b then [] else w ∷ []) []) (sym c.1) (no_more m ws cells, refl);
      }

  still_types : (l : Layer) (x : List ℕ) (v : CellType) (o : Option Contained) → (variable_with l x v o).types ≡ l.types
  still_types l x v None = refl
  still_types l x v (Some c) = refl

  variables_of_gain : (l : Layer) (t : Ty) (v : CellType) (is : List Identifier) → TypeIs k l.types t v → Gains l (variables_of l v is) (named_variables (names_of is) t)
  unfolding variables_of
  variables_of_gain l t v [] h = gains_none l
  variables_of_gain l t v (x ∷ xs) h =
      let w : Variable = record { name = x.name; ty = t } in
      let m : Layer = variable l x.name v in
      let a : Gains l m (w ∷ []) = gains_with l w v (components_of l.types v) refl h (components_same k l.types t v h) in
      let b : TypeIs k m.types t v = subst (λ ts. TypeIs k ts t v) (sym (still_types l x.name v (components_of l.types v))) h in
      gains_trans l m (variables_of m v xs) (w ∷ []) (named_variables (names_of xs) t) a (variables_of_gain m t v xs b)

  type_gains : (l : Layer) (t : syntax.TypeTerm) → Gains l (written_type l t).1 []
  type_gains l t = gains_nothing l (written_type l t).1 (type_notes l t) (type_quiet l t) (ap (λ o. o.cells) (type_owned l t))

  group_gains : (l : Layer) (b : Block) (g : syntax.VariableGroup) → IsSmallType g.variable_type → AreNumbered k.firsts (length l.constants) (in_type g.variable_type) → InStep k l.types l.names b.scope →
      Gains l (variable_group l g) (named_variables (names_of g.names) (meant.type_in b.scope g.variable_type).0)
  group_gains l b g h n i =
      let x : CellType × Layer = written_type l g.variable_type in
      let y : Ty × Scope = meant.type_in b.scope g.variable_type in
      let w : Written k l x y (in_type g.variable_type) = type_written k l b.scope g.variable_type h n i in
      gains_trans l x.1 (variable_group l g) [] (named_variables (names_of g.names) y.0) (type_gains l g.variable_type) (variables_of_gain x.1 y.0 x.0 g.names w.belongs)

  -- more variables than before
  pub record More (l m : Layer) (before after : List Variable) : Type 0 where
    pub variables : List Variable
    pub is : after ≡ before ++ variables
    pub gains : Gains l m variables

  more_trans : (l j m : Layer) (us vs ws : List Variable) → More l j us vs → More j m vs ws → More l m us ws
  more_trans l j m us vs ws h i =
      record {
        variables = h.variables ++ i.variables;
        is = i.is ∙ ap (λ xs. xs ++ i.variables) h.is ∙ append_assoc us h.variables i.variables;
        gains = gains_trans l j m h.variables i.variables h.gains i.gains;
      }

  pub more_nothing : (l m : Layer) (vs : List Variable) → Gains l m [] → More l m vs vs
  more_nothing l m vs g = record { variables = []; is = sym (append-nil vs); gains = g }

  pub variables_more : (l : Layer) (b : Block) (gs : List syntax.VariableGroup) → Each (λ g. IsSmallType g.variable_type) gs → AreNumbered k.firsts (length l.constants) (each_in (λ g. in_type g.variable_type) gs) → InStep k l.types l.names b.scope →
      More l (variables l gs) b.variables (meant.variables_in scopes.permanent_variable b gs).variables
  unfolding variables
  variables_more l b [] h n i = more_nothing l l b.variables (gains_none l)
  variables_more l b (g ∷ gs) h n i =
      let rest = each_in (λ (g : syntax.VariableGroup). in_type g.variable_type) gs in
      let mine = in_type g.variable_type in
      let m : Layer = variable_group l g in
      let c : Block = meant.variables_in scopes.permanent_variable b (g ∷ []) in
      let numbered : AreNumbered k.firsts (length l.constants) mine = numbered_left k (length l.constants) mine rest n in
      let r : Reached k l m c.scope (mine ++ []) = variables_reached k l b (g ∷ []) (h.0, tt) (subst (AreNumbered k.firsts (length l.constants)) (sym (append-nil mine)) numbered) i in
      let s : Reached k l m c.scope mine = subst (Reached k l m c.scope) (append-nil mine) r in
      let first : More l m b.variables c.variables = record { variables = named_variables (names_of g.names) (meant.type_in b.scope g.variable_type).0; is = refl; gains = group_gains l b g h.0 numbered i } in
      more_trans l m (variables m gs) b.variables c.variables (meant.variables_in scopes.permanent_variable c gs).variables first
      (variables_more m c gs h.1 (numbered_after k l.constants m.constants mine rest s.constants n) s.names)

  pub constants_gain : (l : Layer) (ds : List syntax.ConstantDefinition) → Gains l (constants l ds) []
  constants_gain l ds = gains_nothing l (constants l ds) (constants_note l ds) (constants_quiet l ds) (ap (λ o. o.cells) (constants_owned l ds))

  definitions_gain : (l : Layer) (ds : List syntax.TypeDefinition) → Gains l (type_definitions l ds) []
  definitions_gain l ds = gains_nothing l (type_definitions l ds) (definitions_note l ds) (definitions_quiet l ds) (ap (λ o. o.cells) (definitions_owned l ds))

  part_more : (l : Layer) (b : Block) (p : syntax.Part) → IsSmallPart p → AreNumbered k.firsts (length l.constants) (in_part p) → InStep k l.types l.names b.scope → More l (permanent_part l p) b.variables (meant.part_in scopes.permanent_variable b p).variables
  part_more l b (syntax.constants at ds) h n i = more_nothing l (constants l ds) b.variables (constants_gain l ds)
  part_more l b (syntax.types at ds) h n i = more_nothing l (type_definitions l ds) b.variables (definitions_gain l ds)
  part_more l b (syntax.variables at gs) h n i = variables_more l b gs h n i

  parts_more : (l : Layer) (b : Block) (ps : List syntax.Part) → Each IsSmallPart ps → AreNumbered k.firsts (length l.constants) (each_in in_part ps) → InStep k l.types l.names b.scope → More l (permanent_parts l ps) b.variables (meant.parts_in scopes.permanent_variable b ps).variables
  unfolding permanent_parts
  parts_more l b [] h n i = more_nothing l l b.variables (gains_none l)
  parts_more l b (p ∷ ps) h n i =
      let rest = each_in in_part ps in
      let mine = in_part p in
      let m : Layer = permanent_part l p in
      let c : Block = meant.part_in scopes.permanent_variable b p in
      let numbered : AreNumbered k.firsts (length l.constants) mine = numbered_left k (length l.constants) mine rest n in
      let r : Reached k l m c.scope (mine ++ []) = permanent_parts_reached k l b (p ∷ []) (h.0, tt) (subst (AreNumbered k.firsts (length l.constants)) (sym (append-nil mine)) numbered) i in
      let s : Reached k l m c.scope mine = subst (Reached k l m c.scope) (append-nil mine) r in
      more_trans l m (permanent_parts m ps) b.variables c.variables (meant.parts_in scopes.permanent_variable c ps).variables (part_more l b p h.0 numbered i)
      (parts_more m c ps h.1 (numbered_after k l.constants m.constants mine rest s.constants n) s.names)

  pub routines_gain : (l : Layer) (rs : List syntax.Routine) → Gains l (routines l rs) []
  routines_gain l rs = gains_nothing l (routines l rs) (routines_note l rs) (routines_quiet l rs) (ap (λ o. o.cells) (routines_owned l rs))

  pub initial_gains : (l : Layer) (ps : Parameters) (b : syntax.Body) → Gains l (initial_statement l ps b) []
  initial_gains l ps b = gains_nothing l (initial_statement l ps b) (initial_notes l ps b) (initial_quiet l ps b) (ap (λ o. o.cells) (body_owned (with_heading (with_new_frame l) (heading_with [] ps None)) b true))

  -- ---- parameters of a system type

  pub record Takes (l m : Layer) (vs : List Variable) : Type 0 where
    pub noting : Noting l m
    pub lies : (ws : List Variable) → Firsts k ws vs → Cells l ws → Cells m (ws ++ vs) × Lie m.types ws vs (all_permanents noting.names)

  takes_none : (l : Layer) → Takes l l []
  takes_none l = record { noting = noting_none l; lies = λ ws f c. (no_more l ws c, quiet_none l l (noting_none l) (quiet_same l l refl)) }

  takes_trans : (l j m : Layer) (us vs : List Variable) → Takes l j us → Takes j m vs → Takes l m (us ++ vs)
  unfolding noting_trans
  takes_trans l j m us vs h i =
      record {
        noting = noting_trans l j m h.noting i.noting;
        lies = λ ws f c. (
            let a = h.lies ws (firsts_left k ws us vs f) c in
            let b = i.lies (ws ++ us) (firsts_right k ws us vs f) a.0 in
            let first : Lie m.types ws us (all_permanents h.noting.names) = subst (λ ts. Lie ts ws us (all_permanents h.noting.names)) (sym i.noting.grown) (lie_grown j.types i.noting.types ws us (all_permanents h.noting.names) a.1) in (
              subst (λ (xs : List Variable). Cells m xs) (append_assoc ws us vs) b.0,
              subst (λ (es : Told). Lie m.types ws (us ++ vs) es) (sym (permanents_append h.noting.names i.noting.names)) (lie_both m.types ws us vs (all_permanents h.noting.names) (all_permanents i.noting.names) first b.1),
            ));
      }

  abbrev one : Name → Ty → Variable
  one x t = record { name = x; ty = t }

  cell_takes : (l : Layer) (x : Name) (t : Ty) (v : CellType) → has_components t ≡ false → TypeIs k l.types t v → Takes l (cell_variable l x v).1 (one x t ∷ [])
  unfolding noting_name
  cell_takes l x t v plain h =
      let m : Layer = (cell_variable l x v).1 in
      record {
        noting = noting_name l x _ _ l.frame (λ ts. refl) refl;
        lies = λ ws f cells. (
            let here : legend.Variable = legend.variable x l.owned.cells v in
            let lies : LiesIf false l.types ws (one x t) (here ∷ []) = (v, f.0.other, ap (λ (n : ℕ). legend.variable x n v ∷ []) cells, h) in (
              more ws (one x t) l.owned.cells (kinds.cells_of l.types v) cells (cells_same k l.types t v h f.0.few ∙ sym (width_plain t plain)),
              (here ∷ [], [], refl, subst (λ (b : Bool). LiesIf b l.types ws (one x t) (here ∷ [])) (sym plain) lies, refl),
            ));
      }

  parameter_takes : (l : Layer) (ps : Parameters) (x : Name) (t : Ty) (v : CellType) → IsParameter t → TypeIs k l.types t v → Takes l (system_parameter l ps x v).1 (one x t ∷ [])
  unfolding noting_name
  parameter_takes l ps x (named.ordinal r) v p i = subst (λ u. Takes l (system_parameter l ps x u).1 (one x (named.ordinal r) ∷ [])) (sym i) (cell_takes l x (named.ordinal r) (types.Ordinal (range_on k r)) refl refl)
  parameter_takes l ps x named.queue_type v p i = subst (λ u. Takes l (system_parameter l ps x u).1 (one x named.queue_type ∷ [])) (sym i) (cell_takes l x named.queue_type types.Queue refl refl)
  parameter_takes l ps x (named.set_over r) v p i = subst (λ u. Takes l (system_parameter l ps x u).1 (one x (named.set_over r) ∷ [])) (sym i) (cell_takes l x (named.set_over r) (types.Set (range_on k r)) refl refl)
  parameter_takes l ps x (named.array_over r t) v p i =
      subst (λ u. Takes l (system_parameter l ps x u).1 (one x (named.array_over r t) ∷ [])) (sym i.is) (cell_takes l x (named.array_over r t) (types.Array i.number) p (subst (TypeIs k l.types (named.array_over r t)) i.is i))
  parameter_takes l ps x (named.record_with us) v p i =
      subst (λ u. Takes l (system_parameter l ps x u).1 (one x (named.record_with us) ∷ [])) (sym i.is) (cell_takes l x (named.record_with us) (types.Record i.number) refl (subst (TypeIs k l.types (named.record_with us)) i.is i))
  parameter_takes l ps x (named.component_of n) v p i =
      subst (λ u. Takes l (system_parameter l ps x u).1 (one x (named.component_of n) ∷ [])) (sym i)
      (record { noting = noting_name l x _ _ l.frame (λ ts. refl) refl; lies = λ ws f cells. (more ws (one x (named.component_of n)) l.owned.cells 1 cells refl, ([], [], refl, refl, refl)) })

  parameters_take : (l : Layer) (ps : Parameters) (t : Ty) (v : CellType) (is : List Identifier) → IsParameter t → TypeIs k l.types t v → Takes l (system_parameters_of l ps v is).1 (named_variables (names_of is) t)
  unfolding system_parameters_of
  parameters_take l ps t v [] p i = takes_none l
  parameters_take l ps t v (x ∷ xs) p i =
      let m : Parameters × Layer = system_parameter l ps x.name v in
      let j : TypeIs k m.1.types t v = subst (λ ts. TypeIs k ts t v) (sym (parameter_types l ps x.name v)) i in
      takes_trans l m.1 (system_parameters_of m.1 m.0 v xs).1 (one x.name t ∷ []) (named_variables (names_of xs) t) (parameter_takes l ps x.name t v p i) (parameters_take m.1 m.0 t v xs p j)

  record TakesMore (l m : Layer) (before after : List Variable) : Type 0 where
    variables : List Variable
    is : after ≡ before ++ variables
    takes : Takes l m variables

  groups_take : (l : Layer) (j : Heading) (ps : Parameters) (gs : List syntax.Group) → AreParameters j gs → InStep k l.types l.names j.scope →
      TakesMore l (system_groups l ps gs).1 (parameter_variables j.parameters) (parameter_variables (meant.with_groups scopes.permanent_variable j gs).parameters)
  unfolding system_groups
  groups_take l j ps [] p i = record { variables = []; is = sym (append-nil (parameter_variables j.parameters)); takes = takes_none l }
  groups_take l j ps (g ∷ gs) p i =
      let x : Parameters × Layer = system_group l ps g in
      let c : Heading = meant.with_group scopes.permanent_variable false j g in
      let t : Ty = meant.type_named j.scope g.type_name.name in
      let xs : List Name = names_of g.names in
      let v : CellType = type_of_name l g.type_name.name in
      let belongs : TypeIs k l.types t v = named_type_same k l j.scope g.type_name.name i in
      let a : Reached k l x.1 c.scope [] = system_parameters_reached k l j.scope ps t v g.names p.0 belongs i in
      let e : parameter_variables c.parameters ≡ parameter_variables j.parameters ++ named_variables xs t = variables_append j.parameters (parameters_named xs t false) ∙ ap (λ us. parameter_variables j.parameters ++ us) (named_parameters xs t false) in
      let rest = groups_take x.1 c x.0 gs p.1 a.names in
      record {
        variables = named_variables xs t ++ rest.variables;
        is = rest.is ∙ (ap (λ us. us ++ rest.variables) e ∙ append_assoc (parameter_variables j.parameters) (named_variables xs t) rest.variables);
        takes = takes_trans l x.1 (system_groups x.1 x.0 gs).1 (named_variables xs t) rest.variables (parameters_take l ps t v g.names p.0 belongs) rest.takes;
      }

  -- ---- a system type

  -- all cells of a component, in their order
  abbrev pub owners : SystemMeaning → List Variable
  owners m = parameter_variables m.parameters ++ celled m.variables

  abbrev pub Fits : SystemMeaning → Type 0
  Fits m = Firsts k [] (parameter_variables m.parameters) × Follow k (parameter_variables m.parameters) m.variables

  pub record SystemLies (l : Layer) (d : syntax.System) (made : SystemMeaning) : Type 0 where
    pub noting : Noting (enter_system l).1 (initial_statement (system_begun l d) (parameters_of l d) d.body)
    pub lies : Fits made → Lie (initial_statement (system_begun l d) (parameters_of l d) d.body).types [] (owners made) (all_permanents noting.names)

  pub system_lies : (l : Layer) (s : Scope) (d : syntax.System) → Each IsSmallPart d.parts → AreParameters (record { parameters = []; scope = scopes.seen_inside s }) d.parameters → AreOuter s → AreNumbered k.firsts (length l.constants) (each_in in_part d.parts) → InStep k l.types l.names s →
      SystemLies l d (system_in (scopes.seen_inside s) d)
  unfolding noting_trans
  system_lies l s d h f g n i =
      let x : Layer = (enter_system l).1 in
      let y : Layer = (system_groups x [] d.parameters).1 in
      let z : Layer = parts_begun l d in
      let b : Layer = system_begun l d in
      let m : Layer = initial_statement b (parameters_of l d) d.body in
      let u : Scope = scopes.seen_inside s in
      let made : SystemMeaning = system_in u d in
      let ps : List Variable = parameter_variables made.parameters in
      let v : Scope = (meant.with_groups scopes.permanent_variable (record { parameters = []; scope = u }) d.parameters).scope in
      let j : InStep k x.types x.names u = all_inside k l.types l.names s g i in
      let r : Reached k x y v [] = system_groups_reached k x (record { parameters = []; scope = u }) [] d.parameters f j in
      let c : y.constants ≡ l.constants = r.constants ∙ append-nil l.constants in
      let e : AreNumbered k.firsts (length y.constants) (each_in in_part d.parts) = subst (λ cs. AreNumbered k.firsts (length cs) (each_in in_part d.parts)) (sym c) n in
      let t : TakesMore x y [] ps = groups_take x (record { parameters = []; scope = u }) [] d.parameters f j in
      let a : Takes x y ps = subst (Takes x y) (sym t.is) t.takes in
      let p : More y z [] made.variables = parts_more y (record { variables = []; scope = v }) d.parts h e r.names in
      let w : Gains y m ((p.variables ++ []) ++ []) = gains_trans y b m (p.variables ++ []) [] (gains_trans y z b p.variables [] p.gains (routines_gain z d.routines)) (initial_gains b (parameters_of l d) d.body) in
      let q : Gains y m made.variables = subst (Gains y m) (append-nil (p.variables ++ []) ∙ append-nil p.variables ∙ sym p.is) w in
      record {
        noting = noting_trans x y m a.noting q.noting;
        lies = λ fits. (
            let first = a.lies [] fits.0 refl in
            let second = q.lies ps fits.1 first.0 in
            let grown : Lie m.types [] ps (all_permanents a.noting.names) = subst (λ ts. Lie ts [] ps (all_permanents a.noting.names)) (sym q.noting.grown) (lie_grown y.types q.noting.types [] ps (all_permanents a.noting.names) first.1) in
            subst (λ (es : Told). Lie m.types [] (owners made) es) (sym (permanents_append a.noting.names q.noting.names)) (lie_both m.types [] ps (celled made.variables) (all_permanents a.noting.names) (all_permanents q.noting.names) grown second.1));
      }
