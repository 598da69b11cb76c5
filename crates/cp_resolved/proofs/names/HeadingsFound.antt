-- Where the statements of a routine begin, each of its parameters is visible, at the slot that its heading has.
use Rattle.cp_resolved.proofs.Words.{◌≡◌, ℕ, Bool, true, false, if◌then◌else◌, List, [], ◌∷◌, ◌++◌, length, Some, refl, sym, ap, subst, ◌∙◌, append_assoc, Identifier}
use Rattle.cp_resolved.proofs.Words.{PlaceOrigin, CellType, LayoutMeaning, Compounds, type_of_name, Name, same_name, Ty, Scope, local_variable, routine_begun, PassedBy}
use Rattle.cp_resolved.proofs.Words.{slot_of, with_routine, Each, itself, Parameter, Heading, names_of, parameters_named, with_group, with_groups, with_parameter_groups}
use Rattle.cp_resolved.proofs.Words.{type_named, routine_in, IsOther, AreDistinct, all_names, part_names, kind_names, IsDistinctRoutine, IsNoComponent, AreValues}
use Rattle.std.proofs.lemmas.List.{append-nil}
use Rattle.cp_tree.specs.Syntax as syntax
use Rattle.cp_slots.specs.declared.place.PlaceOrigin.TheVariants as origin
use Rattle.cp_layout.specs.declared.layer.Passing.{Passing}
use Rattle.cp_layout.specs.declared.layer.Passing.TheVariants as passing
use Rattle.cp_layout.specs.declared.layer.ParameterLayout as code_parameter
use Rattle.cp_symbols.specs.declared.names.LayoutMeaning.TheVariants as meaning
use Rattle.cp_layout.specs.Layers.{Names, Layer, find}
use Rattle.cp_layout.specs.LaidDeclarations.{Parameters, value_parameter, constant_parameter, constant_parameters_of, constant_group, constant_groups, reference_parameter, var_parameter, var_parameters_of, var_group, parameter_group, parameter_groups, heading, with_heading, open_routine}
use Rattle.cp_meaning.specs.Types as named
use Rattle.cp_meaning.specs.Scopes as scopes
use Rattle.cp_meaning.specs.Declarations as meant
use Rattle.cp_resolved.specs.InStep.{Numbering, TypeIs, InStep}
use Rattle.cp_resolved.proofs.agreeing.AgreeingWritten.{each_left, each_right}
use Rattle.cp_resolved.proofs.laid.Declares.{local_parts_declare}
use Rattle.cp_resolved.proofs.names.EntriesKnown.{heading_of}
use Rattle.cp_resolved.proofs.laid.Extends.{Longer}
use Rattle.cp_resolved.proofs.names.NamesBeside.{find_past, local_parts_beside}
use Rattle.cp_resolved.proofs.names.Steps.{type_grown}
use Rattle.cp_resolved.proofs.names.StepsOfParts.{constant_groups_reached, parameter_groups_reached}
use Rattle.cp_resolved.proofs.names.StepsOfTypes.{named_type_same}
use Rattle.cp_resolved.proofs.frames.FrameCells.{each_both}

-- ---- names of parameters

-- no parameter has one of the names
abbrev pub AreBeside : List Parameter → List Name → Type 0
AreBeside qs xs = Each (λ (q : Parameter). IsOther q.name xs) qs

pub beside_left : (qs : List Parameter) (xs ys : List Name) → AreBeside qs (xs ++ ys) → AreBeside qs xs
beside_left [] xs ys h = tt
beside_left (q ∷ qs) xs ys h = (each_left (λ y. same_name q.name y ≡ false) xs ys h.0, beside_left qs xs ys h.1)

pub beside_right : (qs : List Parameter) (xs ys : List Name) → AreBeside qs (xs ++ ys) → AreBeside qs ys
beside_right [] xs ys h = tt
beside_right (q ∷ qs) xs ys h = (each_right (λ y. same_name q.name y ≡ false) xs ys h.0, beside_right qs xs ys h.1)

pub beside_first : (qs : List Parameter) (x : Name) (xs : List Name) → AreBeside qs (x ∷ xs) → Each (λ (q : Parameter). same_name q.name x ≡ false) qs
beside_first [] x xs h = tt
beside_first (q ∷ qs) x xs h = (h.0.0, beside_first qs x xs h.1)

pub beside_others : (qs : List Parameter) (x : Name) (xs : List Name) → AreBeside qs (x ∷ xs) → AreBeside qs xs
beside_others [] x xs h = tt
beside_others (q ∷ qs) x xs h = (h.0.1, beside_others qs x xs h.1)

pub distinct_left : (xs ys : List Name) → AreDistinct (xs ++ ys) → AreDistinct xs
distinct_left [] ys h = tt
distinct_left (x ∷ xs) ys h = (each_left (λ y. same_name x y ≡ false) xs ys h.0, distinct_left xs ys h.1)

pub distinct_right : (xs ys : List Name) → AreDistinct (xs ++ ys) → AreDistinct ys
distinct_right [] ys h = h
distinct_right (x ∷ xs) ys h = distinct_right xs ys h.1

-- parameters of names that are different from others
pub named_beside : (xs ys : List Name) (t : Ty) (b : Bool) → AreDistinct (xs ++ ys) → AreBeside (parameters_named xs t b) ys
named_beside [] ys t b h = tt
named_beside (x ∷ xs) ys t b h = (each_right (λ y. same_name x y ≡ false) xs ys h.0, named_beside xs ys t b h.1)

-- ---- parameters that are found

module _ (k : Numbering) where
  pub record Found (ts : Compounds) (ns : Names) (q : Parameter) (p : code_parameter.ParameterLayout) : Type 0 where
    pub place : PlaceOrigin
    pub value_type : CellType
    pub there : find q.name ns ≡ Some (meaning.Variable place value_type)
    pub slot : p.slot ≡ slot_of place
    pub passed : PassedBy k ts q.is_var q.ty p.passing

  abbrev pub AreFound : Compounds → Names → List Parameter → Parameters → Type 0
  AreFound ts ns [] [] = Unit {0}
  AreFound ts ns (q ∷ qs) (p ∷ ps) = Found ts ns q p × AreFound ts ns qs ps
  AreFound ts ns [] (p ∷ ps) = ⊥
  AreFound ts ns (q ∷ qs) [] = ⊥

  pub passed_value : (ts : Compounds) (t : Ty) (v : CellType) → IsNoComponent t → TypeIs k ts t v → PassedBy k ts false t (passing.Constant v)
  passed_value ts (named.component_of n) v o h = absurd o
  passed_value ts _ v o h = (v, refl, h)

  pub passed_grown : (ts more : Compounds) (b : Bool) (t : Ty) (p : Passing) → PassedBy k ts b t p → PassedBy k (ts ++ more) b t p
  passed_grown ts more false (named.ordinal r) p h = (h.0, h.1, type_grown k ts more (named.ordinal r) h.0 h.2)
  passed_grown ts more false named.queue_type p h = (h.0, h.1, type_grown k ts more named.queue_type h.0 h.2)
  passed_grown ts more false (named.set_over r) p h = (h.0, h.1, type_grown k ts more (named.set_over r) h.0 h.2)
  passed_grown ts more false (named.array_over r t) p h = (h.0, h.1, type_grown k ts more (named.array_over r t) h.0 h.2)
  passed_grown ts more false (named.record_with us) p h = (h.0, h.1, type_grown k ts more (named.record_with us) h.0 h.2)
  passed_grown ts more _ _ p h = h

  found_grown : (ts more : Compounds) (ns : Names) (qs : List Parameter) (ps : Parameters) → AreFound ts ns qs ps → AreFound (ts ++ more) ns qs ps
  found_grown ts more ns [] [] h = tt
  found_grown ts more ns (q ∷ qs) (p ∷ ps) h = (record { place = h.0.place; value_type = h.0.value_type; there = h.0.there; slot = h.0.slot; passed = passed_grown ts more q.is_var q.ty p.passing h.0.passed }, found_grown ts more ns qs ps h.1)
  found_grown ts more ns _ _ h = absurd h

  -- where other names are the same
  found_kept : (ts : Compounds) (ns ms : Names) (qs : List Parameter) (ps : Parameters) → Each (λ (q : Parameter). find q.name ms ≡ find q.name ns) qs → AreFound ts ns qs ps → AreFound ts ms qs ps
  found_kept ts ns ms [] [] e h = tt
  found_kept ts ns ms (q ∷ qs) (p ∷ ps) e h = (record { place = h.0.place; value_type = h.0.value_type; there = e.0 ∙ h.0.there; slot = h.0.slot; passed = h.0.passed }, found_kept ts ns ms qs ps e.1 h.1)
  found_kept ts ns ms _ _ e h = absurd h

  found_last : (ts : Compounds) (ns : Names) (qs : List Parameter) (ps : Parameters) (q : Parameter) (p : code_parameter.ParameterLayout) → AreFound ts ns qs ps → Found ts ns q p → AreFound ts ns (qs ++ q ∷ []) (ps ++ p ∷ [])
  found_last ts ns [] [] q p h g = (g, tt)
  found_last ts ns (r ∷ qs) (s ∷ ps) q p h g = (h.0, found_last ts ns qs ps q p h.1 g)
  found_last ts ns _ _ q p h g = absurd h

  others_past : (qs : List Parameter) (n : Name) (m : LayoutMeaning) (ns : Names) → Each (λ (q : Parameter). same_name q.name n ≡ false) qs → Each (λ (q : Parameter). find q.name ((n, m) ∷ ns) ≡ find q.name ns) qs
  others_past [] n m ns h = tt
  others_past (q ∷ qs) n m ns h = (find_past q.name n m ns h.0, others_past qs n m ns h.1)

  pub find_itself : (n : Name) (m : LayoutMeaning) (ns : Names) → find n ((n, m) ∷ ns) ≡ Some m
  find_itself n m ns = ap (λ (b : Bool). if b then Some m else find n ns) (itself n)

  -- one parameter more
  one_found : (ts : Compounds) (ns : Names) (qs : List Parameter) (ps : Parameters) (q : Parameter) (p : code_parameter.ParameterLayout) (o : PlaceOrigin) (v : CellType) → p.slot ≡ slot_of o → PassedBy k ts q.is_var q.ty p.passing → Each (λ (r : Parameter). same_name r.name q.name ≡ false) qs → AreFound ts ns qs ps →
      AreFound ts ((q.name, meaning.Variable o v) ∷ ns) (qs ++ q ∷ []) (ps ++ p ∷ [])
  one_found ts ns qs ps q p o v slot passed others h =
      let ms : Names = (q.name, meaning.Variable o v) ∷ ns in
      found_last ts ms qs ps q p (found_kept ts ns ms qs ps (others_past qs q.name (meaning.Variable o v) ns others) h) (record { place = o; value_type = v; there = find_itself q.name (meaning.Variable o v) ns; slot = slot; passed = passed })

  beside_one : (qs : List Parameter) (q : Parameter) (xs : List Name) → AreBeside qs (q.name ∷ xs) → IsOther q.name xs → AreBeside (qs ++ q ∷ []) xs
  beside_one qs q xs h g = each_both (λ (r : Parameter). IsOther r.name xs) qs (q ∷ []) (beside_others qs q.name xs h) (g, tt)

  -- ---- parameters of one type

  constants_found : (l : Layer) (ps : Parameters) (qs : List Parameter) (t : Ty) (v : CellType) (is : List Identifier) → AreValues (parameters_named (names_of is) t false) → TypeIs k l.types t v → AreBeside qs (names_of is) → AreDistinct (names_of is) → AreFound l.types l.names qs ps →
      AreFound l.types (constant_parameters_of l ps v is).1.names (qs ++ parameters_named (names_of is) t false) (constant_parameters_of l ps v is).0
  unfolding constant_parameters_of
  constants_found l ps qs t v [] o h beside distinct f = subst (λ rs. AreFound l.types l.names rs ps) (sym (append-nil qs)) f
  constants_found l ps qs t v (i ∷ is) o h beside distinct f =
      let q : Parameter = record { name = i.name; ty = t; is_var = false } in
      let x : Parameters × Layer = constant_parameter l ps i.name v in
      let n : ℕ = length l.frame.image in
      let one : AreFound l.types x.1.names (qs ++ q ∷ []) x.0 = one_found l.types l.names qs ps q (value_parameter n v) (origin.Local n) v refl (passed_value l.types t v o.0 h) (beside_first qs i.name (names_of is) beside) f in
      subst (λ rs. AreFound l.types (constant_parameters_of x.1 x.0 v is).1.names rs (constant_parameters_of x.1 x.0 v is).0) (append_assoc qs (q ∷ []) (parameters_named (names_of is) t false))
      (constants_found x.1 x.0 (qs ++ q ∷ []) t v is o.1 h (beside_one qs q (names_of is) beside distinct.0) distinct.1 one)

  references_found : (l : Layer) (ps : Parameters) (qs : List Parameter) (t : Ty) (v : CellType) (is : List Identifier) → AreBeside qs (names_of is) → AreDistinct (names_of is) → AreFound l.types l.names qs ps →
      AreFound l.types (var_parameters_of l ps v is).1.names (qs ++ parameters_named (names_of is) t true) (var_parameters_of l ps v is).0
  unfolding var_parameters_of
  references_found l ps qs t v [] beside distinct f = subst (λ rs. AreFound l.types l.names rs ps) (sym (append-nil qs)) f
  references_found l ps qs t v (i ∷ is) beside distinct f =
      let q : Parameter = record { name = i.name; ty = t; is_var = true } in
      let x : Parameters × Layer = var_parameter l ps i.name v in
      let n : ℕ = length l.frame.extents in
      let one : AreFound l.types x.1.names (qs ++ q ∷ []) x.0 = one_found l.types l.names qs ps q (reference_parameter n) (origin.Reference n) v refl refl (beside_first qs i.name (names_of is) beside) f in
      subst (λ rs. AreFound l.types (var_parameters_of x.1 x.0 v is).1.names rs (var_parameters_of x.1 x.0 v is).0) (append_assoc qs (q ∷ []) (parameters_named (names_of is) t true))
      (references_found x.1 x.0 (qs ++ q ∷ []) t v is (beside_one qs q (names_of is) beside distinct.0) distinct.1 one)

  constants_types : (l : Layer) (ps : Parameters) (v : CellType) (is : List Identifier) → (constant_parameters_of l ps v is).1.types ≡ l.types
  unfolding constant_parameters_of
  constants_types l ps v [] = refl
  constants_types l ps v (i ∷ is) = constants_types (constant_parameter l ps i.name v).1 (constant_parameter l ps i.name v).0 v is

  references_types : (l : Layer) (ps : Parameters) (v : CellType) (is : List Identifier) → (var_parameters_of l ps v is).1.types ≡ l.types
  unfolding var_parameters_of
  references_types l ps v [] = refl
  references_types l ps v (i ∷ is) = references_types (var_parameter l ps i.name v).1 (var_parameter l ps i.name v).0 v is

  -- ---- groups

  groups_longer : (h : Heading) (gs : List syntax.Group) → Longer h.parameters (with_groups local_variable h gs).parameters
  groups_longer h [] = ([], sym (append-nil h.parameters))
  groups_longer h (g ∷ gs) =
      let new : List Parameter = parameters_named (names_of g.names) (type_named h.scope g.type_name.name) false in
      let rest = groups_longer (with_group local_variable false h g) gs in
      (new ++ rest.0, rest.1 ∙ append_assoc h.parameters new rest.0)

  var_groups_longer : (h : Heading) (gs : List syntax.ParameterGroup) → Longer h.parameters (with_parameter_groups h gs).parameters
  var_groups_longer h [] = ([], sym (append-nil h.parameters))
  var_groups_longer h (g ∷ gs) =
      let new : List Parameter = parameters_named (names_of g.group.names) (type_named h.scope g.group.type_name.name) g.is_var in
      let rest = var_groups_longer (with_group local_variable g.is_var h g.group) gs in
      (new ++ rest.0, rest.1 ∙ append_assoc h.parameters new rest.0)

  first_values : (qs new more all : List Parameter) → all ≡ (qs ++ new) ++ more → AreValues all → AreValues new
  first_values qs new more all e h =
      each_right (λ (q : Parameter). IsNoComponent q.ty) qs new (each_left (λ (q : Parameter). IsNoComponent q.ty) (qs ++ new) more (subst AreValues e h))

  groups_found : (l : Layer) (ps : Parameters) (h : Heading) (gs : List syntax.Group) → InStep k l.types l.names h.scope → AreValues (with_groups local_variable h gs).parameters → AreBeside h.parameters (all_names (λ g. names_of g.names) gs) → AreDistinct (all_names (λ g. names_of g.names) gs) → AreFound l.types l.names h.parameters ps →
      AreFound l.types (constant_groups l ps gs).1.names (with_groups local_variable h gs).parameters (constant_groups l ps gs).0
  unfolding constant_groups
  groups_found l ps h [] i o beside distinct f = f
  groups_found l ps h (g ∷ gs) i o beside distinct f =
      let t : Ty = type_named h.scope g.type_name.name in
      let v : CellType = type_of_name l g.type_name.name in
      let new : List Parameter = parameters_named (names_of g.names) t false in
      let rest : List Name = all_names (λ (g : syntax.Group). names_of g.names) gs in
      let x : Parameters × Layer = constant_group l ps g in
      let j : Heading = with_group local_variable false h g in
      let more = groups_longer j gs in
      let same : x.1.types ≡ l.types = constants_types l ps v g.names in
      let one : AreFound l.types x.1.names j.parameters x.0 =
      constants_found l ps h.parameters t v g.names (first_values h.parameters new more.0 (with_groups local_variable j gs).parameters more.1 o) (named_type_same k l h.scope g.type_name.name i) (beside_left h.parameters (names_of g.names) rest beside) (distinct_left (names_of g.names) rest distinct) f in
      let apart : AreBeside j.parameters rest = each_both (λ (q : Parameter). IsOther q.name rest) h.parameters new (beside_right h.parameters (names_of g.names) rest beside) (named_beside (names_of g.names) rest t false distinct) in
      subst (λ ts. AreFound ts (constant_groups x.1 x.0 gs).1.names (with_groups local_variable j gs).parameters (constant_groups x.1 x.0 gs).0) same
      (groups_found x.1 x.0 j gs (constant_groups_reached k l h ps (g ∷ []) i).names o apart (distinct_right (names_of g.names) rest distinct) (subst (λ ts. AreFound ts x.1.names j.parameters x.0) (sym same) one))

  group_types : (b : Bool) (l : Layer) (ps : Parameters) (g : syntax.Group) → (if b then var_group l ps g else constant_group l ps g).1.types ≡ l.types
  group_types true l ps g = references_types l ps (type_of_name l g.type_name.name) g.names
  group_types false l ps g = constants_types l ps (type_of_name l g.type_name.name) g.names

  group_found : (b : Bool) (l : Layer) (ps : Parameters) (h : Heading) (g : syntax.Group) → InStep k l.types l.names h.scope → AreValues (parameters_named (names_of g.names) (type_named h.scope g.type_name.name) b) → AreBeside h.parameters (names_of g.names) → AreDistinct (names_of g.names) → AreFound l.types l.names h.parameters ps →
      AreFound l.types (if b then var_group l ps g else constant_group l ps g).1.names (with_group local_variable b h g).parameters (if b then var_group l ps g else constant_group l ps g).0
  group_found true l ps h g i o beside distinct f = references_found l ps h.parameters (type_named h.scope g.type_name.name) (type_of_name l g.type_name.name) g.names beside distinct f
  group_found false l ps h g i o beside distinct f = constants_found l ps h.parameters (type_named h.scope g.type_name.name) (type_of_name l g.type_name.name) g.names o (named_type_same k l h.scope g.type_name.name i) beside distinct f

  var_groups_found : (l : Layer) (ps : Parameters) (h : Heading) (gs : List syntax.ParameterGroup) → InStep k l.types l.names h.scope → AreValues (with_parameter_groups h gs).parameters → AreBeside h.parameters (all_names (λ g. names_of g.group.names) gs) → AreDistinct (all_names (λ g. names_of g.group.names) gs) → AreFound l.types l.names h.parameters ps →
      AreFound l.types (parameter_groups l ps gs).1.names (with_parameter_groups h gs).parameters (parameter_groups l ps gs).0
  unfolding parameter_groups
  var_groups_found l ps h [] i o beside distinct f = f
  var_groups_found l ps h (g ∷ gs) i o beside distinct f =
      let t : Ty = type_named h.scope g.group.type_name.name in
      let new : List Parameter = parameters_named (names_of g.group.names) t g.is_var in
      let rest : List Name = all_names (λ (g : syntax.ParameterGroup). names_of g.group.names) gs in
      let x : Parameters × Layer = parameter_group l ps g in
      let j : Heading = with_group local_variable g.is_var h g.group in
      let more = var_groups_longer j gs in
      let same : x.1.types ≡ l.types = group_types g.is_var l ps g.group in
      let one : AreFound l.types x.1.names j.parameters x.0 =
      group_found g.is_var l ps h g.group i (first_values h.parameters new more.0 (with_parameter_groups j gs).parameters more.1 o) (beside_left h.parameters (names_of g.group.names) rest beside) (distinct_left (names_of g.group.names) rest distinct) f in
      let apart : AreBeside j.parameters rest = each_both (λ (q : Parameter). IsOther q.name rest) h.parameters new (beside_right h.parameters (names_of g.group.names) rest beside) (named_beside (names_of g.group.names) rest t g.is_var distinct) in
      subst (λ ts. AreFound ts (parameter_groups x.1 x.0 gs).1.names (with_parameter_groups j gs).parameters (parameter_groups x.1 x.0 gs).0) same
      (var_groups_found x.1 x.0 j gs (parameter_groups_reached k l h ps (g ∷ []) i).names o apart (distinct_right (names_of g.group.names) rest distinct) (subst (λ ts. AreFound ts x.1.names j.parameters x.0) (sym same) one))

  groups_types : (l : Layer) (ps : Parameters) (gs : List syntax.Group) → (constant_groups l ps gs).1.types ≡ l.types
  unfolding constant_groups
  groups_types l ps [] = refl
  groups_types l ps (g ∷ gs) = groups_types (constant_group l ps g).1 (constant_group l ps g).0 gs ∙ group_types false l ps g

  var_groups_types : (l : Layer) (ps : Parameters) (gs : List syntax.ParameterGroup) → (parameter_groups l ps gs).1.types ≡ l.types
  unfolding parameter_groups
  var_groups_types l ps [] = refl
  var_groups_types l ps (g ∷ gs) = var_groups_types (parameter_group l ps g).1 (parameter_group l ps g).0 gs ∙ group_types g.is_var l ps g.group

  -- ---- names that are declared after parameters

  named_others : (P : Name → Type 0) (xs : List Name) (t : Ty) (b : Bool) → Each P xs → Each (λ (q : Parameter). P q.name) (parameters_named xs t b)
  named_others P [] t b h = tt
  named_others P (x ∷ xs) t b h = (h.0, named_others P xs t b h.1)

  pub groups_others : (P : Name → Type 0) (m : Ty → scopes.Meaning) (h : Heading) (gs : List syntax.Group) → Each (λ (q : Parameter). P q.name) h.parameters → Each P (all_names (λ g. names_of g.names) gs) → Each (λ (q : Parameter). P q.name) (with_groups m h gs).parameters
  groups_others P m h [] f e = f
  groups_others P m h (g ∷ gs) f e =
      let t : Ty = type_named h.scope g.type_name.name in
      let rest : List Name = all_names (λ (g : syntax.Group). names_of g.names) gs in
      groups_others P m (with_group m false h g) gs (each_both (λ (q : Parameter). P q.name) h.parameters (parameters_named (names_of g.names) t false) f (named_others P (names_of g.names) t false (each_left P (names_of g.names) rest e))) (each_right P (names_of g.names) rest e)

  var_groups_others : (P : Name → Type 0) (h : Heading) (gs : List syntax.ParameterGroup) → Each (λ (q : Parameter). P q.name) h.parameters → Each P (all_names (λ g. names_of g.group.names) gs) → Each (λ (q : Parameter). P q.name) (with_parameter_groups h gs).parameters
  var_groups_others P h [] f e = f
  var_groups_others P h (g ∷ gs) f e =
      let t : Ty = type_named h.scope g.group.type_name.name in
      let rest : List Name = all_names (λ (g : syntax.ParameterGroup). names_of g.group.names) gs in
      var_groups_others P (with_group local_variable g.is_var h g.group) gs
      (each_both (λ (q : Parameter). P q.name) h.parameters (parameters_named (names_of g.group.names) t g.is_var) f (named_others P (names_of g.group.names) t g.is_var (each_left P (names_of g.group.names) rest e))) (each_right P (names_of g.group.names) rest e)

  kind_others : (P : Name → Type 0) (s : Scope) (r : syntax.RoutineKind) → Each P (kind_names r) → Each (λ (q : Parameter). P q.name) (meant.heading_of s r).parameters
  kind_others P s (syntax.procedure gs) e = var_groups_others P (record { parameters = []; scope = s }) gs tt e
  kind_others P s (syntax.function gs i) e = groups_others P local_variable (record { parameters = []; scope = s }) gs tt e
  kind_others P s syntax.invariants e = tt

  pub same_after : (l m : Layer) (xs : List Name) (qs : List Parameter) → ((x : Name) → IsOther x xs → find x m.names ≡ find x l.names) → AreBeside qs xs → Each (λ (q : Parameter). find q.name m.names ≡ find q.name l.names) qs
  same_after l m xs [] h e = tt
  same_after l m xs (q ∷ qs) h e = (h q.name e.0, same_after l m xs qs h e.1)

  -- ---- headings

  heading_found : (l : Layer) (s : Scope) (x : List ℕ) (r : syntax.RoutineKind) → InStep k l.types l.names s → AreValues (meant.heading_of s r).parameters → AreDistinct (kind_names r) → AreFound l.types (heading l x r).1.names (meant.heading_of s r).parameters (heading l x r).0.parameters
  unfolding heading
  heading_found l s x (syntax.procedure gs) i o distinct = var_groups_found l [] (record { parameters = []; scope = s }) gs i o tt distinct tt
  heading_found l s x (syntax.function gs j) i o distinct = groups_found l [] (record { parameters = []; scope = s }) gs i o tt distinct tt
  heading_found l s x syntax.invariants i o distinct = tt

  heading_types : (l : Layer) (x : List ℕ) (r : syntax.RoutineKind) → (heading l x r).1.types ≡ l.types
  unfolding heading
  heading_types l x (syntax.procedure gs) = var_groups_types l [] gs
  heading_types l x (syntax.function gs i) = groups_types l [] gs
  heading_types l x syntax.invariants = refl

  -- where the statements of a routine begin
  pub begun_found : (l : Layer) (s : Scope) (r : syntax.Routine) → InStep k l.types (open_routine l r.name.name).1.names (with_routine s r) → AreValues (routine_in (with_routine s r) r).parameters → IsDistinctRoutine r →
      AreFound (routine_begun l r).types (routine_begun l r).names (routine_in (with_routine s r) r).parameters (heading_of l r).parameters
  begun_found l s r i o distinct =
      let x : Layer = (open_routine l r.name.name).1 in
      let y = heading x r.name.name r.kind in
      let qs : List Parameter = (routine_in (with_routine s r) r).parameters in
      let j : Layer = with_heading y.1 y.0 in
      let d = local_parts_declare j r.parts in
      let a : AreFound l.types y.1.names qs y.0.parameters = heading_found x (with_routine s r) r.name.name r.kind i o distinct.parameters in
      let b : AreFound j.types j.names qs y.0.parameters = subst (λ ts. AreFound ts y.1.names qs y.0.parameters) (sym (heading_types x r.name.name r.kind)) a in
      let c : AreFound (routine_begun l r).types j.names qs y.0.parameters = subst (λ ts. AreFound ts j.names qs y.0.parameters) (sym (ap (λ (m : Layer). m.types) d.same)) (found_grown j.types d.types j.names qs y.0.parameters b) in
      found_kept (routine_begun l r).types j.names (routine_begun l r).names qs y.0.parameters (same_after j (routine_begun l r) (all_names part_names r.parts) qs (local_parts_beside j r.parts) (kind_others (λ x. IsOther x (all_names part_names r.parts)) (with_routine s r) r.kind distinct.others)) c
