-- Where the routines of a system type begin, each of its parameters has the slot that the heading of its initial statement has.
use Rattle.cp_resolved.proofs.Words.{◌≡◌, ℕ, false, List, [], ◌∷◌, ◌++◌, Some, refl, sym, ap, subst, ◌∙◌, append_assoc, Identifier, CellType, LayoutMeaning, Compounds}
use Rattle.cp_resolved.proofs.Words.{type_of_name, Name, same_name, Ty, Scope, permanent_variable, seen_inside, system_in, parameters_of, parts_begun, PassedBy}
use Rattle.cp_resolved.proofs.Words.{ParametersAre, Each, AreParameters, slot_in, Parameter, Heading, names_of, parameters_named, with_group, with_groups, type_named}
use Rattle.std.proofs.lemmas.List.{append-nil}
use Rattle.cp_tree.specs.Syntax as syntax
use Rattle.cp_slots.specs.declared.place.PlaceOrigin.TheVariants as origin
use Rattle.cp_symbols.specs.declared.kinds.CellType.TheVariants as types
use Rattle.cp_layout.specs.declared.layer.ParameterLayout as code_parameter
use Rattle.cp_symbols.specs.declared.names.LayoutMeaning.TheVariants as meaning
use Rattle.cp_layout.specs.Layers.{Names, Layer, find}
use Rattle.cp_layout.specs.LaidDeclarations.{Parameters, value_parameter, cell_parameter, parameter_for_component, system_parameter, system_parameters_of, system_group, system_groups, enter_system, permanent_parts}
use Rattle.cp_meaning.specs.Types as named
use Rattle.cp_resolved.specs.Distinct.{IsOther, AreDistinct, all_names, part_names, parameter_names, AreApart, IsNoComponent}
use Rattle.cp_resolved.specs.InStep.{Numbering, range_on, TypeIs, InStep, AreOuter}
use Rattle.cp_resolved.proofs.laid.Declares.{permanent_parts_declare}
use Rattle.cp_resolved.proofs.names.HeadingsFound.{AreBeside, beside_left, beside_right, beside_first, beside_others, distinct_left, distinct_right, named_beside, passed_value, passed_grown, find_itself, groups_others, same_after}
use Rattle.cp_resolved.proofs.names.NamesBeside.{find_past, permanent_parts_beside}
use Rattle.cp_resolved.proofs.names.Steps.{all_inside}
use Rattle.cp_resolved.proofs.names.StepsOfParts.{system_groups_reached}
use Rattle.cp_resolved.proofs.names.StepsOfTypes.{named_type_same}
use Rattle.cp_resolved.proofs.frames.FrameCells.{each_both}

-- the slot of a name
abbrev pub slots_in : Names → Name → ℕ
slots_in ns x = slot_in (find x ns)

module _ (k : Numbering) where
  pub parameters_grown : (ts more : Compounds) (f : Name → ℕ) (qs : List Parameter) (ps : Parameters) → ParametersAre k ts f qs ps → ParametersAre k (ts ++ more) f qs ps
  parameters_grown ts more f [] [] h = tt
  parameters_grown ts more f (q ∷ qs) (p ∷ ps) h = (h.0, passed_grown k ts more q.is_var q.ty p.passing h.1, parameters_grown ts more f qs ps h.2)
  parameters_grown ts more f _ _ h = absurd h

  pub parameters_same : (ts : Compounds) (f g : Name → ℕ) (qs : List Parameter) (ps : Parameters) → Each (λ (q : Parameter). f q.name ≡ g q.name) qs → ParametersAre k ts f qs ps → ParametersAre k ts g qs ps
  parameters_same ts f g [] [] e h = tt
  parameters_same ts f g (q ∷ qs) (p ∷ ps) e h = (h.0 ∙ e.0, h.1, parameters_same ts f g qs ps e.1 h.2)
  parameters_same ts f g _ _ e h = absurd h

  parameters_last : (ts : Compounds) (f : Name → ℕ) (qs : List Parameter) (ps : Parameters) (q : Parameter) (p : code_parameter.ParameterLayout) → ParametersAre k ts f qs ps → p.slot ≡ f q.name → PassedBy k ts q.is_var q.ty p.passing → ParametersAre k ts f (qs ++ q ∷ []) (ps ++ p ∷ [])
  parameters_last ts f [] [] q p h e i = (e, i, tt)
  parameters_last ts f (r ∷ qs) (s ∷ ps) q p h e i = (h.0, h.1, parameters_last ts f qs ps q p h.2 e i)
  parameters_last ts f _ _ q p h e i = absurd h

  slots_past : (qs : List Parameter) (n : Name) (m : LayoutMeaning) (ns : Names) → Each (λ (q : Parameter). same_name q.name n ≡ false) qs → Each (λ (q : Parameter). slots_in ns q.name ≡ slots_in ((n, m) ∷ ns) q.name) qs
  slots_past [] n m ns h = tt
  slots_past (q ∷ qs) n m ns h = (sym (ap slot_in (find_past q.name n m ns h.0)), slots_past qs n m ns h.1)

  -- ---- one parameter more

  abbrev Slots : Compounds → Names → List Parameter → Parameters → Type 0
  Slots ts ns qs ps = ParametersAre k ts (slots_in ns) qs ps

  one_slot : (ts : Compounds) (ns : Names) (qs : List Parameter) (ps : Parameters) (q : Parameter) (p : code_parameter.ParameterLayout) (m : LayoutMeaning) → p.slot ≡ slot_in (Some m) → PassedBy k ts q.is_var q.ty p.passing → Each (λ (r : Parameter). same_name r.name q.name ≡ false) qs → Slots ts ns qs ps →
      Slots ts ((q.name, m) ∷ ns) (qs ++ q ∷ []) (ps ++ p ∷ [])
  one_slot ts ns qs ps q p m slot passed others h =
      let ms : Names = (q.name, m) ∷ ns in
      parameters_last ts (slots_in ms) qs ps q p (parameters_same ts (slots_in ns) (slots_in ms) qs ps (slots_past qs q.name m ns others) h) (slot ∙ sym (ap slot_in (find_itself k q.name m ns))) passed

  abbrev OneMore : Layer → Parameters → List Parameter → Name → Ty → CellType → Type 0
  OneMore l ps qs x t v = Slots l.types (system_parameter l ps x v).1.names (qs ++ (let q : Parameter = record { name = x; ty = t; is_var = false } in q) ∷ []) (system_parameter l ps x v).0

  cell_more : (l : Layer) (ps : Parameters) (qs : List Parameter) (x : Name) (t : Ty) (v : CellType) → IsNoComponent t → TypeIs k l.types t v → Each (λ (r : Parameter). same_name r.name x ≡ false) qs → Slots l.types l.names qs ps →
      Slots l.types (cell_parameter l ps x v).1.names (qs ++ (let q : Parameter = record { name = x; ty = t; is_var = false } in q) ∷ []) (cell_parameter l ps x v).0
  cell_more l ps qs x t v o h others f =
      one_slot l.types l.names qs ps (record { name = x; ty = t; is_var = false }) (value_parameter l.owned.cells v) (meaning.Variable (origin.Permanent l.owned.cells) v) refl (passed_value k l.types t v o h) others f

  one_more : (l : Layer) (ps : Parameters) (qs : List Parameter) (x : Name) (t : Ty) (v : CellType) → TypeIs k l.types t v → Each (λ (r : Parameter). same_name r.name x ≡ false) qs → Slots l.types l.names qs ps → OneMore l ps qs x t v
  one_more l ps qs x (named.ordinal r) v h e f = subst (OneMore l ps qs x (named.ordinal r)) (sym h) (cell_more l ps qs x (named.ordinal r) (types.Ordinal (range_on k r)) tt refl e f)
  one_more l ps qs x named.queue_type v h e f = subst (OneMore l ps qs x named.queue_type) (sym h) (cell_more l ps qs x named.queue_type types.Queue tt refl e f)
  one_more l ps qs x (named.set_over r) v h e f = subst (OneMore l ps qs x (named.set_over r)) (sym h) (cell_more l ps qs x (named.set_over r) (types.Set (range_on k r)) tt refl e f)
  one_more l ps qs x (named.array_over r t) v h e f = subst (OneMore l ps qs x (named.array_over r t)) (sym h.is) (cell_more l ps qs x (named.array_over r t) (types.Array h.number) tt (subst (TypeIs k l.types (named.array_over r t)) h.is h) e f)
  one_more l ps qs x (named.record_with us) v h e f = subst (OneMore l ps qs x (named.record_with us)) (sym h.is) (cell_more l ps qs x (named.record_with us) (types.Record h.number) tt (subst (TypeIs k l.types (named.record_with us)) h.is h) e f)
  one_more l ps qs x (named.component_of n) v h e f =
      subst (OneMore l ps qs x (named.component_of n)) (sym h) (one_slot l.types l.names qs ps (record { name = x; ty = named.component_of n; is_var = false }) (parameter_for_component l.owned.cells) (meaning.Bound l.owned.cells n) refl refl e f)

  -- ---- groups

  one_types : (l : Layer) (ps : Parameters) (x : Name) (v : CellType) → (system_parameter l ps x v).1.types ≡ l.types
  one_types l ps x (types.Ordinal r) = refl
  one_types l ps x _ = refl

  parameters_types : (l : Layer) (ps : Parameters) (v : CellType) (is : List Identifier) → (system_parameters_of l ps v is).1.types ≡ l.types
  unfolding system_parameters_of
  parameters_types l ps v [] = refl
  parameters_types l ps v (i ∷ is) = parameters_types (system_parameter l ps i.name v).1 (system_parameter l ps i.name v).0 v is ∙ one_types l ps i.name v

  groups_types : (l : Layer) (ps : Parameters) (gs : List syntax.Group) → (system_groups l ps gs).1.types ≡ l.types
  unfolding system_groups
  groups_types l ps [] = refl
  groups_types l ps (g ∷ gs) = groups_types (system_group l ps g).1 (system_group l ps g).0 gs ∙ parameters_types l ps (type_of_name l g.type_name.name) g.names

  parameters_found : (l : Layer) (ps : Parameters) (qs : List Parameter) (t : Ty) (v : CellType) (is : List Identifier) → TypeIs k l.types t v → AreBeside qs (names_of is) → AreDistinct (names_of is) → Slots l.types l.names qs ps →
      Slots l.types (system_parameters_of l ps v is).1.names (qs ++ parameters_named (names_of is) t false) (system_parameters_of l ps v is).0
  unfolding system_parameters_of
  parameters_found l ps qs t v [] h beside distinct f = subst (λ rs. Slots l.types l.names rs ps) (sym (append-nil qs)) f
  parameters_found l ps qs t v (i ∷ is) h beside distinct f =
      let q : Parameter = record { name = i.name; ty = t; is_var = false } in
      let x : Parameters × Layer = system_parameter l ps i.name v in
      let same : x.1.types ≡ l.types = one_types l ps i.name v in
      let one : Slots l.types x.1.names (qs ++ q ∷ []) x.0 = one_more l ps qs i.name t v h (beside_first qs i.name (names_of is) beside) f in
      let apart : AreBeside (qs ++ q ∷ []) (names_of is) = each_both (λ (r : Parameter). IsOther r.name (names_of is)) qs (q ∷ []) (beside_others qs i.name (names_of is) beside) (distinct.0, tt) in
      subst (λ rs. Slots l.types (system_parameters_of x.1 x.0 v is).1.names rs (system_parameters_of x.1 x.0 v is).0) (append_assoc qs (q ∷ []) (parameters_named (names_of is) t false))
      (subst (λ ts. Slots ts (system_parameters_of x.1 x.0 v is).1.names ((qs ++ q ∷ []) ++ parameters_named (names_of is) t false) (system_parameters_of x.1 x.0 v is).0) same
      (parameters_found x.1 x.0 (qs ++ q ∷ []) t v is (subst (λ ts. TypeIs k ts t v) (sym same) h) apart distinct.1 (subst (λ ts. Slots ts x.1.names (qs ++ q ∷ []) x.0) (sym same) one)))

  groups_found : (l : Layer) (ps : Parameters) (h : Heading) (gs : List syntax.Group) → AreParameters h gs → InStep k l.types l.names h.scope → AreBeside h.parameters (all_names (λ g. names_of g.names) gs) → AreDistinct (all_names (λ g. names_of g.names) gs) → Slots l.types l.names h.parameters ps →
      Slots l.types (system_groups l ps gs).1.names (with_groups permanent_variable h gs).parameters (system_groups l ps gs).0
  unfolding system_groups
  groups_found l ps h [] o i beside distinct f = f
  groups_found l ps h (g ∷ gs) o i beside distinct f =
      let t : Ty = type_named h.scope g.type_name.name in
      let v : CellType = type_of_name l g.type_name.name in
      let new : List Parameter = parameters_named (names_of g.names) t false in
      let rest : List Name = all_names (λ (g : syntax.Group). names_of g.names) gs in
      let x : Parameters × Layer = system_group l ps g in
      let j : Heading = with_group permanent_variable false h g in
      let same : x.1.types ≡ l.types = parameters_types l ps v g.names in
      let one : Slots l.types x.1.names j.parameters x.0 = parameters_found l ps h.parameters t v g.names (named_type_same k l h.scope g.type_name.name i) (beside_left h.parameters (names_of g.names) rest beside) (distinct_left (names_of g.names) rest distinct) f in
      let apart : AreBeside j.parameters rest = each_both (λ (q : Parameter). IsOther q.name rest) h.parameters new (beside_right h.parameters (names_of g.names) rest beside) (named_beside (names_of g.names) rest t false distinct) in
      subst (λ ts. Slots ts (system_groups x.1 x.0 gs).1.names (with_groups permanent_variable j gs).parameters (system_groups x.1 x.0 gs).0) same
      (groups_found x.1 x.0 j gs o.1 (system_groups_reached k l h ps (g ∷ []) (o.0, tt) i).names apart (distinct_right (names_of g.names) rest distinct) (subst (λ ts. Slots ts x.1.names j.parameters x.0) (sym same) one))

  -- ---- where the routines begin

  parts_same : (l m : Layer) (qs : List Parameter) → Each (λ (q : Parameter). find q.name m.names ≡ find q.name l.names) qs → Each (λ (q : Parameter). slots_in l.names q.name ≡ slots_in m.names q.name) qs
  parts_same l m [] h = tt
  parts_same l m (q ∷ qs) h = (sym (ap slot_in h.0), parts_same l m qs h.1)

  pub parts_found : (l : Layer) (s : Scope) (d : syntax.System) → AreParameters (record { parameters = []; scope = seen_inside s }) d.parameters → AreOuter s → InStep k l.types l.names s → AreApart (parameter_names d) d.parts →
      ParametersAre k (parts_begun l d).types (slots_in (parts_begun l d).names) (system_in (seen_inside s) d).parameters (parameters_of l d)
  parts_found l s d o g i apart =
      let x : Layer = (enter_system l).1 in
      let u : Heading = record { parameters = []; scope = seen_inside s } in
      let y : Parameters × Layer = system_groups x [] d.parameters in
      let z : Layer = permanent_parts y.1 d.parts in
      let qs : List Parameter = (with_groups permanent_variable u d.parameters).parameters in
      let a : Slots l.types y.1.names qs y.0 = groups_found x [] u d.parameters o (all_inside k l.types l.names s g i) tt apart.parameters tt in
      let b : Slots y.1.types y.1.names qs y.0 = subst (λ ts. Slots ts y.1.names qs y.0) (sym (groups_types x [] d.parameters)) a in
      let e = permanent_parts_declare y.1 d.parts in
      let c : Slots z.types y.1.names qs y.0 = subst (λ ts. Slots ts y.1.names qs y.0) (sym (ap (λ (m : Layer). m.types) e.same)) (parameters_grown y.1.types e.types (slots_in y.1.names) qs y.0 b) in
      let same : Each (λ (q : Parameter). find q.name z.names ≡ find q.name y.1.names) qs =
      same_after k y.1 z (all_names part_names d.parts) qs (permanent_parts_beside y.1 d.parts) (groups_others k (λ n. IsOther n (all_names part_names d.parts)) permanent_variable u d.parameters tt apart.others) in
      parameters_same z.types (slots_in y.1.names) (slots_in z.names) qs y.0 (parts_same y.1 z qs same) c
