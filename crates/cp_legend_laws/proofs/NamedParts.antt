-- The component variables that are noted are those of the language, each under its name and with its type.
use Rattle.std.proofs.Common.{◌≡◌, ℕ, Bool, true, false, if◌then◌else◌, List, [], ◌∷◌, ◌++◌, length, Option, Some, None, refl, sym, ap, subst, ◌∙◌, inl, inr, append_assoc, append-nil, arith, length-append}
use Rattle.cp_legend_laws.proofs.Words.{none-some, Identifier, CellType, Contained, LayoutMeaning, Compounds, Noted, Layer, Variable, Block, names_of, named_variables}
use Rattle.cp_tree.specs.Syntax as syntax
use Rattle.cp_symbols.specs.declared.kinds.CellType.TheVariants as types
use Rattle.cp_symbols.specs.declared.names.LayoutMeaning.TheVariants as meaning
use Rattle.cp_layout.specs.LaidTypes.{type_of_name, written_type}
use Rattle.cp_layout.specs.LaidDeclarations.{Parameters, components_of, variable, variable_with, variables_of, variable_group, variables, constants, type_definitions, permanent_part, permanent_parts, enter_system, system_parameter, system_parameters_of, system_group, system_groups, initial_statement, routines, heading_with, with_new_frame, with_heading}
use Rattle.cp_meaning.specs.Types.{Ty, has_components}
use Rattle.cp_meaning.specs.Scopes as scopes
use Rattle.cp_meaning.specs.Scopes.{Scope}
use Rattle.cp_meaning.specs.Declarations as meant
use Rattle.cp_resolved.specs.Begun.{parts_begun, system_begun, parameters_of}
use Rattle.cp_resolved.specs.Enumerations.{in_type, each_in, in_part}
use Rattle.cp_resolved.specs.InStep.{Numbering, TypeIs, InStep, AreOuter}
use Rattle.cp_resolved.specs.Small.{Each, IsSmallType, IsSmallPart, AreNumbered, AreParameters}
use Rattle.cp_resolved.proofs.components.Handed.{constants_owned, definitions_owned, routines_owned, body_owned}
use Rattle.cp_resolved.proofs.laid.OwnedCells.{type_owned}
use Rattle.cp_resolved.proofs.names.Steps.{type_grown, all_inside}
use Rattle.cp_resolved.proofs.names.StepsOfParts.{Reached, ComponentsAre, components_same, variables_reached, permanent_parts_reached, system_groups_reached}
use Rattle.cp_resolved.proofs.names.StepsOfTypes.{Written, type_written, numbered_left, numbered_after}
use Rattle.cp_legend_laws.proofs.Noting.{as_list, contents_of, all_contents, components_grown, Noting, noting_trans, noting_none, noting_name, noting_component}
use Rattle.cp_legend_laws.proofs.NotingDeclarations.{type_notes, constants_note, definitions_note, system_groups_note}
use Rattle.cp_legend_laws.proofs.NotingRoutines.{initial_notes, routines_note}
use Rattle.cp_legend_laws.proofs.Lined.{types_later}

-- ---- the component variables among names

abbrev pub Entry : Type 0
Entry = List ℕ × CellType

abbrev pub entry_with : Option Contained → List ℕ → CellType → List Entry
entry_with None x t = []
entry_with (Some c) x t = (x, t) ∷ []

abbrev pub entries_meant : Compounds → List ℕ → LayoutMeaning → List Entry
entries_meant ts x (meaning.Contained n t) = entry_with (components_of ts t) x t
entries_meant ts x _ = []

abbrev pub all_entries : Compounds → List Noted → List Entry
all_entries ts [] = []
all_entries ts (d ∷ ds) = entries_meant ts d.name d.meaning ++ all_entries ts ds

pub entries_append : (ts : Compounds) (ds es : List Noted) → all_entries ts (ds ++ es) ≡ all_entries ts ds ++ all_entries ts es
entries_append ts [] es = refl
entries_append ts (d ∷ ds) es = ap (λ xs. entries_meant ts d.name d.meaning ++ xs) (entries_append ts ds es) ∙ sym (append_assoc (entries_meant ts d.name d.meaning) (all_entries ts ds) (all_entries ts es))

none_left : {X : Type 0} (xs ys : List X) → xs ++ ys ≡ [] → (xs ≡ []) × (ys ≡ [])
none_left [] ys e = (refl, e)
none_left (x ∷ xs) ys e = absurd (let n : length (x ∷ (xs ++ ys)) ≡ 0 = ap (λ zs. length zs) e in omega (arith, n))

none_more : {X : Type 0} (xs ys : List X) → xs ≡ xs ++ ys → ys ≡ []
none_more xs [] e = refl
none_more xs (y ∷ ys) e = absurd (let n : length xs ≡ length (xs ++ y ∷ ys) = ap (λ zs. length zs) e in let m = length-append xs (y ∷ ys) in omega (arith, n, m))

none_listed : (o : Option Contained) (x : List ℕ) (t : CellType) → as_list o ≡ [] → entry_with o x t ≡ []
none_listed None x t e = refl
none_listed (Some c) x t e = absurd (let n : length (c ∷ []) ≡ 0 = ap (λ (zs : List Contained). length zs) e in omega (arith, n))

none_meant : (ts : Compounds) (x : List ℕ) (m : LayoutMeaning) → contents_of ts m ≡ [] → entries_meant ts x m ≡ []
none_meant ts x (meaning.Contained n t) e = none_listed (components_of ts t) x t e
none_meant ts x _ e = refl

no_entries : (ts : Compounds) (ds : List Noted) → all_contents ts ds ≡ [] → all_entries ts ds ≡ []
no_entries ts [] e = refl
no_entries ts (d ∷ ds) e =
    let both = none_left (contents_of ts d.meaning) (all_contents ts ds) e in
    ap (λ xs. xs ++ all_entries ts ds) (none_meant ts d.name d.meaning both.0) ∙ no_entries ts ds both.1

-- ---- the component variables of the language

abbrev pub among : List Variable → List Variable
among [] = []
among (v ∷ vs) = if has_components v.ty then v ∷ among vs else among vs

either : (b : Bool) (v : Variable) (vs ws : List Variable) → (if b then v ∷ (vs ++ ws) else vs ++ ws) ≡ (if b then v ∷ vs else vs) ++ ws
either true v vs ws = refl
either false v vs ws = refl

pub among_append : (vs ws : List Variable) → among (vs ++ ws) ≡ among vs ++ among ws
among_append [] ws = refl
among_append (v ∷ vs) ws = ap (λ us. if has_components v.ty then v ∷ us else us) (among_append vs ws) ∙ either (has_components v.ty) v (among vs) (among ws)

module _ (k : Numbering) where
  -- under the same names, with the same types
  abbrev pub Match : Compounds → List Variable → List Entry → Type 0
  Match ts [] [] = Unit {0}
  Match ts (v ∷ vs) (e ∷ es) = (e.0 ≡ v.name) × TypeIs k ts v.ty e.1 × Match ts vs es
  Match ts [] (e ∷ es) = ⊥
  Match ts (v ∷ vs) [] = ⊥

  pub match_both : (ts : Compounds) (vs ws : List Variable) (es fs : List Entry) → Match ts vs es → Match ts ws fs → Match ts (vs ++ ws) (es ++ fs)
  match_both ts [] ws [] fs h i = i
  match_both ts (v ∷ vs) ws (e ∷ es) fs h i = (h.0, h.1, match_both ts vs ws es fs h.2 i)
  match_both ts [] ws (e ∷ es) fs h i = absurd h
  match_both ts (v ∷ vs) ws [] fs h i = absurd h

  -- what is noted besides has these component variables
  pub record Gains (l m : Layer) (vs : List Variable) : Type 0 where
    pub noting : Noting l m
    pub match : (later : Compounds) → Match (m.types ++ later) (among vs) (all_entries (m.types ++ later) noting.names)

  pub gains_trans : (l j m : Layer) (vs ws : List Variable) → Gains l j vs → Gains j m ws → Gains l m (vs ++ ws)
  unfolding noting_trans
  gains_trans l j m vs ws h i =
      record {
        noting = noting_trans l j m h.noting i.noting;
        match = λ later. (
            let ts : Compounds = m.types ++ later in
            let first : Match ts (among vs) (all_entries ts h.noting.names) = subst (λ us. Match us (among vs) (all_entries us h.noting.names)) (sym (types_later j.types i.noting.types m.types later i.noting.grown)) (h.match (i.noting.types ++ later)) in
            subst (Match ts (among (vs ++ ws))) (sym (entries_append ts h.noting.names i.noting.names))
            (subst (λ us. Match ts us (all_entries ts h.noting.names ++ all_entries ts i.noting.names)) (sym (among_append vs ws))
            (match_both ts (among vs) (among ws) (all_entries ts h.noting.names) (all_entries ts i.noting.names) first (i.match later))));
      }

  pub gains_nothing : (l m : Layer) → Noting l m → m.owned.contained ≡ l.owned.contained → Gains l m []
  gains_nothing l m n same =
      record { noting = n; match = λ later. subst (Match (m.types ++ later) []) (sym (no_entries (m.types ++ later) n.names (none_more l.owned.contained (all_contents (m.types ++ later) n.names) (sym same ∙ n.contained later)))) tt }

  gains_with : (l : Layer) (w : Variable) (v : CellType) (o : Option Contained) → components_of l.types v ≡ o → TypeIs k l.types w.ty v → ComponentsAre k l.types w.ty v → Gains l (variable_with l w.name v o) (w ∷ [])
  unfolding noting_name noting_component
  gains_with l w v None e h (inl c) =
      record { noting = noting_name l w.name _ _ l.frame (λ ts. refl) refl; match = λ later. subst (λ b. Match (l.types ++ later) (if b then w ∷ [] else []) []) (sym c.0) tt }
  gains_with l w v None e h (inr c) = absurd (none-some c.0 (sym e ∙ c.2))
  gains_with l w v (Some d) e h (inl c) = absurd (none-some d (sym c.1 ∙ e))
  gains_with l w v (Some d) e h (inr c) =
      record {
        noting = noting_component l w.name l.owned.count v _ d e refl;
        match = λ later. (
            let ts : Compounds = l.types ++ later in
            subst (λ b. Match ts (if b then w ∷ [] else []) (entry_with (components_of ts v) w.name v ++ [])) (sym c.1)
            (subst (λ o. Match ts (w ∷ []) (entry_with o w.name v ++ [])) (sym (components_grown l.types later v d e)) (refl, type_grown k l.types later w.ty v h, tt)));
      }

  still_types : (l : Layer) (x : List ℕ) (v : CellType) (o : Option Contained) → (variable_with l x v o).types ≡ l.types
  still_types l x v None = refl
  still_types l x v (Some c) = refl

  variables_of_gain : (l : Layer) (t : Ty) (v : CellType) (is : List Identifier) → TypeIs k l.types t v → Gains l (variables_of l v is) (named_variables (names_of is) t)
  unfolding variables_of
  variables_of_gain l t v [] h = gains_nothing l l (noting_none l) refl
  variables_of_gain l t v (x ∷ xs) h =
      let w : Variable = record { name = x.name; ty = t } in
      let m : Layer = variable l x.name v in
      let a : Gains l m (w ∷ []) = gains_with l w v (components_of l.types v) refl h (components_same k l.types t v h) in
      let b : TypeIs k m.types t v = subst (λ ts. TypeIs k ts t v) (sym (still_types l x.name v (components_of l.types v))) h in
      gains_trans l m (variables_of m v xs) (w ∷ []) (named_variables (names_of xs) t) a (variables_of_gain m t v xs b)

  type_gains : (l : Layer) (t : syntax.TypeTerm) → Gains l (written_type l t).1 []
  type_gains l t = gains_nothing l (written_type l t).1 (type_notes l t) (ap (λ o. o.contained) (type_owned l t))

  group_gains : (l : Layer) (b : Block) (g : syntax.VariableGroup) → IsSmallType g.variable_type → AreNumbered k.firsts (length l.constants) (in_type g.variable_type) → InStep k l.types l.names b.scope →
      Gains l (variable_group l g) (named_variables (names_of g.names) (meant.type_in b.scope g.variable_type).0)
  group_gains l b g h n i =
      let x : CellType × Layer = written_type l g.variable_type in
      let y : Ty × Scope = meant.type_in b.scope g.variable_type in
      let w : Written k l x y (in_type g.variable_type) = type_written k l b.scope g.variable_type h n i in
      gains_trans l x.1 (variable_group l g) [] (named_variables (names_of g.names) y.0) (type_gains l g.variable_type) (variables_of_gain x.1 y.0 x.0 g.names w.belongs)

  -- more variables than before
  pub record More (l m : Layer) (before after : List Variable) : Type 0 where
    pub variables : List Variable
    pub is : after ≡ before ++ variables
    pub gains : Gains l m variables

  more_trans : (l j m : Layer) (us vs ws : List Variable) → More l j us vs → More j m vs ws → More l m us ws
  more_trans l j m us vs ws h i =
      record {
        variables = h.variables ++ i.variables;
        is = i.is ∙ ap (λ xs. xs ++ i.variables) h.is ∙ append_assoc us h.variables i.variables;
        gains = gains_trans l j m h.variables i.variables h.gains i.gains;
      }

  pub more_nothing : (l m : Layer) (vs : List Variable) → Gains l m [] → More l m vs vs
  more_nothing l m vs g = record { variables = []; is = sym (append-nil vs); gains = g }

  pub variables_more : (l : Layer) (b : Block) (gs : List syntax.VariableGroup) → Each (λ g. IsSmallType g.variable_type) gs → AreNumbered k.firsts (length l.constants) (each_in (λ g. in_type g.variable_type) gs) → InStep k l.types l.names b.scope →
      More l (variables l gs) b.variables (meant.variables_in scopes.permanent_variable b gs).variables
  unfolding variables
  variables_more l b [] h n i = more_nothing l l b.variables (gains_nothing l l (noting_none l) refl)
  variables_more l b (g ∷ gs) h n i =
      let rest = each_in (λ (g : syntax.VariableGroup). in_type g.variable_type) gs in
      let mine = in_type g.variable_type in
      let m : Layer = variable_group l g in
      let c : Block = meant.variables_in scopes.permanent_variable b (g ∷ []) in
      let numbered : AreNumbered k.firsts (length l.constants) mine = numbered_left k (length l.constants) mine rest n in
      let r : Reached k l m c.scope (mine ++ []) = variables_reached k l b (g ∷ []) (h.0, tt) (subst (AreNumbered k.firsts (length l.constants)) (sym (append-nil mine)) numbered) i in
      let s : Reached k l m c.scope mine = subst (Reached k l m c.scope) (append-nil mine) r in
      let first : More l m b.variables c.variables = record { variables = named_variables (names_of g.names) (meant.type_in b.scope g.variable_type).0; is = refl; gains = group_gains l b g h.0 numbered i } in
      more_trans l m (variables m gs) b.variables c.variables (meant.variables_in scopes.permanent_variable c gs).variables first
      (variables_more m c gs h.1 (numbered_after k l.constants m.constants mine rest s.constants n) s.names)

  part_more : (l : Layer) (b : Block) (p : syntax.Part) → IsSmallPart p → AreNumbered k.firsts (length l.constants) (in_part p) → InStep k l.types l.names b.scope → More l (permanent_part l p) b.variables (meant.part_in scopes.permanent_variable b p).variables
  part_more l b (syntax.constants at ds) h n i = more_nothing l (constants l ds) b.variables (gains_nothing l (constants l ds) (constants_note l ds) (ap (λ o. o.contained) (constants_owned l ds)))
  part_more l b (syntax.types at ds) h n i = more_nothing l (type_definitions l ds) b.variables (gains_nothing l (type_definitions l ds) (definitions_note l ds) (ap (λ o. o.contained) (definitions_owned l ds)))
  part_more l b (syntax.variables at gs) h n i = variables_more l b gs h n i

  parts_more : (l : Layer) (b : Block) (ps : List syntax.Part) → Each IsSmallPart ps → AreNumbered k.firsts (length l.constants) (each_in in_part ps) → InStep k l.types l.names b.scope → More l (permanent_parts l ps) b.variables (meant.parts_in scopes.permanent_variable b ps).variables
  unfolding permanent_parts
  parts_more l b [] h n i = more_nothing l l b.variables (gains_nothing l l (noting_none l) refl)
  parts_more l b (p ∷ ps) h n i =
      let rest = each_in in_part ps in
      let mine = in_part p in
      let m : Layer = permanent_part l p in
      let c : Block = meant.part_in scopes.permanent_variable b p in
      let numbered : AreNumbered k.firsts (length l.constants) mine = numbered_left k (length l.constants) mine rest n in
      let r : Reached k l m c.scope (mine ++ []) = permanent_parts_reached k l b (p ∷ []) (h.0, tt) (subst (AreNumbered k.firsts (length l.constants)) (sym (append-nil mine)) numbered) i in
      let s : Reached k l m c.scope mine = subst (Reached k l m c.scope) (append-nil mine) r in
      more_trans l m (permanent_parts m ps) b.variables c.variables (meant.parts_in scopes.permanent_variable c ps).variables (part_more l b p h.0 numbered i)
      (parts_more m c ps h.1 (numbered_after k l.constants m.constants mine rest s.constants n) s.names)

  -- ---- a system type

  parameter_contained : (l : Layer) (ps : Parameters) (x : List ℕ) (t : CellType) → (system_parameter l ps x t).1.owned.contained ≡ l.owned.contained
  parameter_contained l ps x (types.System j) = refl
  parameter_contained l ps x _ = refl

  parameters_contained : (l : Layer) (ps : Parameters) (t : CellType) (is : List Identifier) → (system_parameters_of l ps t is).1.owned.contained ≡ l.owned.contained
  unfolding system_parameters_of
  parameters_contained l ps t [] = refl
  parameters_contained l ps t (i ∷ is) = let x = system_parameter l ps i.name t in parameters_contained x.1 x.0 t is ∙ parameter_contained l ps i.name t

  groups_contained : (l : Layer) (ps : Parameters) (gs : List syntax.Group) → (system_groups l ps gs).1.owned.contained ≡ l.owned.contained
  unfolding system_groups
  groups_contained l ps [] = refl
  groups_contained l ps (g ∷ gs) = let x = system_group l ps g in groups_contained x.1 x.0 gs ∙ parameters_contained l ps (type_of_name l g.type_name.name) g.names

  pub routines_gain : (l : Layer) (rs : List syntax.Routine) → Gains l (routines l rs) []
  routines_gain l rs = gains_nothing l (routines l rs) (routines_note l rs) (ap (λ o. o.contained) (routines_owned l rs))

  pub initial_gains : (l : Layer) (ps : Parameters) (b : syntax.Body) → Gains l (initial_statement l ps b) []
  initial_gains l ps b = gains_nothing l (initial_statement l ps b) (initial_notes l ps b) (ap (λ o. o.contained) (body_owned (with_heading (with_new_frame l) (heading_with [] ps None)) b true))

  -- from its parameters to its initial statement
  pub system_gains : (l : Layer) (s : Scope) (d : syntax.System) → Each IsSmallPart d.parts → AreParameters (record { parameters = []; scope = scopes.seen_inside s }) d.parameters → AreOuter s → AreNumbered k.firsts (length l.constants) (each_in in_part d.parts) → InStep k l.types l.names s →
      Gains (enter_system l).1 (initial_statement (system_begun l d) (parameters_of l d) d.body)
      (meant.parts_in scopes.permanent_variable (record { variables = []; scope = (meant.with_groups scopes.permanent_variable (record { parameters = []; scope = scopes.seen_inside s }) d.parameters).scope }) d.parts).variables
  system_gains l s d h f g n i =
      let x : Layer = (enter_system l).1 in
      let y : Layer = (system_groups x [] d.parameters).1 in
      let z : Layer = parts_begun l d in
      let b : Layer = system_begun l d in
      let m : Layer = initial_statement b (parameters_of l d) d.body in
      let u : Scope = scopes.seen_inside s in
      let v : Scope = (meant.with_groups scopes.permanent_variable (record { parameters = []; scope = u }) d.parameters).scope in
      let j : InStep k x.types x.names u = all_inside k l.types l.names s g i in
      let r : Reached k x y v [] = system_groups_reached k x (record { parameters = []; scope = u }) [] d.parameters f j in
      let c : y.constants ≡ l.constants = r.constants ∙ append-nil l.constants in
      let e : AreNumbered k.firsts (length y.constants) (each_in in_part d.parts) = subst (λ cs. AreNumbered k.firsts (length cs) (each_in in_part d.parts)) (sym c) n in
      let p : More y z [] _ = parts_more y (record { variables = []; scope = v }) d.parts h e r.names in
      let a : Gains x y [] = gains_nothing x y (system_groups_note x [] d.parameters) (groups_contained x [] d.parameters) in
      let q : Gains x z _ = gains_trans x y z [] p.variables a p.gains in
      let w : Gains x m ((p.variables ++ []) ++ []) = gains_trans x b m (p.variables ++ []) [] (gains_trans x z b p.variables [] q (routines_gain z d.routines)) (initial_gains b (parameters_of l d) d.body) in
      subst (Gains x m) (append-nil (p.variables ++ []) ∙ append-nil p.variables ∙ sym p.is) w
