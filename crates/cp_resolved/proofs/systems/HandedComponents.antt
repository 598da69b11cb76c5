-- The parameters of a system type that are components have cells in their order, and the names lead to these.
use Rattle.std.proofs.Common.{◌≡◌, ℕ, ◌+◌, true, false, List, [], ◌∷◌, ◌++◌, length, Some, slice_get, refl, sym, ap, subst, ◌∙◌, ◌⊎◌, inl, inr, append_assoc, append-nil, arith, length-append}
use Rattle.cp_resolved.proofs.Words.{bytes_eq, bytes_eq-Decides, Identifier, Permanent, CellType, LayoutMeaning, ComponentParameter, type_of_name, Name, Ty}
use Rattle.cp_resolved.proofs.Words.{Scope, permanent_variable, Parameter, Heading, names_of, parameters_named, parts_begun, AreParameters}
use Rattle.cp_tree.specs.Syntax as syntax
use Rattle.cp_symbols.specs.declared.kinds.CellType.TheVariants as types
use Rattle.cp_symbols.specs.declared.names.LayoutMeaning.TheVariants as meaning
use Rattle.cp_layout.specs.Layers.{Names, Layer, Owned, find}
use Rattle.cp_layout.specs.LaidDeclarations.{component_cell, permanent_part, permanent_parts, Parameters, enter_system, system_parameter, system_parameters_of, system_group, system_groups}
use Rattle.cp_meaning.specs.Types as named
use Rattle.cp_meaning.specs.Scopes as scopes
use Rattle.cp_meaning.specs.Declarations as meant
use Rattle.cp_resolved.specs.InStep.{Numbering, range_on, TypeIs, InStep, AreOuter}
use Rattle.cp_resolved.proofs.names.Entries.{still_there, last_entry}
use Rattle.cp_resolved.proofs.components.Handed.{handed, constants_owned, definitions_owned, variables_handed}
use Rattle.cp_resolved.proofs.names.KeptNames as kept
use Rattle.cp_resolved.proofs.names.PermanentNames.{found_cases, open_found}
use Rattle.cp_resolved.proofs.laid.OwnedCells.{parameter_types}
use Rattle.cp_resolved.proofs.names.Steps.{all_inside}
use Rattle.cp_resolved.proofs.names.StepsOfParts.{Reached, system_groups_reached}
use Rattle.cp_resolved.proofs.names.StepsOfTypes.{named_type_same}

-- ---- how many parameters are components

abbrev pub one_handed : Ty → ℕ
one_handed (named.component_of n) = 1
one_handed t = 0

abbrev pub handed_count : List Parameter → ℕ
handed_count [] = 0
handed_count (q ∷ qs) = one_handed q.ty + handed_count qs

pub handed_append : (qs ps : List Parameter) → handed_count (qs ++ ps) ≡ handed_count qs + handed_count ps
handed_append [] ps = omega arith
handed_append (q ∷ qs) ps = let e = handed_append qs ps in omega (arith, e)

-- ---- the cells that names lead to

-- the cell of a parameter, after those of the parameters before it
pub record BoundAt (cs : List ComponentParameter) (qs : List Parameter) (x : Name) (n k : ℕ) : Type 0 where
  pub before : List Parameter
  pub parameter : Parameter
  pub after : List Parameter
  pub is : qs ≡ before ++ parameter ∷ after
  pub name : parameter.name ≡ x
  pub ty : parameter.ty ≡ named.component_of k
  pub there : slice_get cs (handed_count before) ≡ Some (component_cell n k)

-- by the cells of a system type and its parameters
pub record AreBound (cs : List ComponentParameter) (qs : List Parameter) (ns : Names) : Type 0 where
  pub count : length cs ≡ handed_count qs
  pub bound : (x : Name) (n k : ℕ) → find x ns ≡ Some (meaning.Bound n k) → BoundAt cs qs x n k

bound_more : (cs ds : List ComponentParameter) (qs ps : List Parameter) (x : Name) (n k : ℕ) → BoundAt cs qs x n k → BoundAt (cs ++ ds) (qs ++ ps) x n k
bound_more cs ds qs ps x n k h =
    record {
      before = h.before;
      parameter = h.parameter;
      after = h.after ++ ps;
      is = ap (λ us. us ++ ps) h.is ∙ append_assoc h.before (h.parameter ∷ h.after) ps;
      name = h.name;
      ty = h.ty;
      there = still_there cs ds (handed_count h.before) (component_cell n k) h.there;
    }

abbrev IsUnbound : LayoutMeaning → Type 0
IsUnbound (meaning.Bound n k) = ⊥
IsUnbound m = Unit {0}

-- one more name that is no parameter
bound_added : (cs : List ComponentParameter) (qs : List Parameter) (x : List ℕ) (m : LayoutMeaning) (ns : Names) → IsUnbound m → AreBound cs qs ns → AreBound cs qs ((x, m) ∷ ns)
bound_added cs qs x m ns o h = record { count = h.count; bound = λ y n k e. go y n k (found_cases (x, m) ns y (meaning.Bound n k) e) }
  where
    go : (y : Name) (n k : ℕ) → ((bytes_eq x y ≡ true) × (m ≡ meaning.Bound n k)) ⊎ (find y ns ≡ Some (meaning.Bound n k)) → BoundAt cs qs y n k
    go y n k (inl w) = absurd (subst IsUnbound w.1 o)
    go y n k (inr f) = h.bound y n k f

-- one more parameter with cells
value_bound : (cs : List ComponentParameter) (qs : List Parameter) (q : Parameter) (m : LayoutMeaning) (ns : Names) → IsUnbound m → one_handed q.ty ≡ 0 → AreBound cs qs ns → AreBound cs (qs ++ q ∷ []) ((q.name, m) ∷ ns)
value_bound cs qs q m ns o w h =
    let a = handed_append qs (q ∷ []) in
    let c = h.count in
    record { count = omega (arith, a, c, w); bound = λ y n k e. go y n k (found_cases (q.name, m) ns y (meaning.Bound n k) e) }
  where
    go : (y : Name) (n k : ℕ) → ((bytes_eq q.name y ≡ true) × (m ≡ meaning.Bound n k)) ⊎ (find y ns ≡ Some (meaning.Bound n k)) → BoundAt cs (qs ++ q ∷ []) y n k
    go y n k (inl v) = absurd (subst IsUnbound v.1 o)
    go y n k (inr f) = subst (λ ds. BoundAt ds (qs ++ q ∷ []) y n k) (append-nil cs) (bound_more cs [] qs (q ∷ []) y n k (h.bound y n k f))

-- and one that is a component
component_bound : (cs : List ComponentParameter) (qs : List Parameter) (q : Parameter) (n k : ℕ) (ns : Names) → q.ty ≡ named.component_of k → AreBound cs qs ns → AreBound (cs ++ component_cell n k ∷ []) (qs ++ q ∷ []) ((q.name, meaning.Bound n k) ∷ ns)
component_bound cs qs q n k ns w h =
    let a = handed_append qs (q ∷ []) in
    let b = length-append cs (component_cell n k ∷ []) in
    let c = h.count in
    let one : one_handed q.ty ≡ 1 = ap one_handed w in
    record { count = omega (arith, a, b, c, one); bound = λ y m j e. go y m j (found_cases (q.name, meaning.Bound n k) ns y (meaning.Bound m j) e) }
  where
    go : (y : Name) (m j : ℕ) → ((bytes_eq q.name y ≡ true) × (meaning.Bound n k ≡ meaning.Bound m j)) ⊎ (find y ns ≡ Some (meaning.Bound m j)) → BoundAt (cs ++ component_cell n k ∷ []) (qs ++ q ∷ []) y m j
    go y m j (inl v) =
        let slot : n ≡ m = (let e : meaning.Bound n k ≡ meaning.Bound m j = v.1 in cc) in
        let system : k ≡ j = (let e : meaning.Bound n k ≡ meaning.Bound m j = v.1 in cc) in
        record {
          before = qs;
          parameter = q;
          after = [];
          is = refl;
          name = (bytes_eq-Decides q.name y).0 v.0;
          ty = w ∙ ap named.component_of system;
          there = ap (λ i. slice_get (cs ++ component_cell n k ∷ []) i) (sym h.count) ∙ last_entry cs (component_cell n k) ∙ ap (λ i. Some (component_cell n i)) system ∙ ap (λ i. Some (component_cell i j)) slot;
        }
    go y m j (inr f) = bound_more cs (component_cell n k ∷ []) qs (q ∷ []) y m j (h.bound y m j f)

-- ---- parameters as they are laid out

abbrev AreBoundAt : Layer → List Parameter → Type 0
AreBoundAt l qs = AreBound l.owned.parameters qs l.names

abbrev value_named : Name → Ty → Parameter
value_named x t = record { name = x; ty = t; is_var = false }

module _ (k : Numbering) where
  one_bound : (l : Layer) (ps : Parameters) (x : Name) (t : Ty) (v : CellType) (qs : List Parameter) → TypeIs k l.types t v → AreBoundAt l qs → AreBoundAt (system_parameter l ps x v).1 (qs ++ value_named x t ∷ [])
  one_bound l ps x (named.component_of n) v qs i h = subst (λ u. AreBoundAt (system_parameter l ps x u).1 (qs ++ value_named x (named.component_of n) ∷ [])) (sym i) (component_bound l.owned.parameters qs (value_named x (named.component_of n)) l.owned.cells n l.names refl h)
  one_bound l ps x (named.ordinal s) v qs i h = subst (λ u. AreBoundAt (system_parameter l ps x u).1 (qs ++ value_named x (named.ordinal s) ∷ [])) (sym i) (value_bound l.owned.parameters qs (value_named x (named.ordinal s)) (meaning.Variable (Permanent l.owned.cells) (types.Ordinal (range_on k s))) l.names tt refl h)
  one_bound l ps x named.queue_type v qs i h = subst (λ u. AreBoundAt (system_parameter l ps x u).1 (qs ++ value_named x named.queue_type ∷ [])) (sym i) (value_bound l.owned.parameters qs (value_named x named.queue_type) (meaning.Variable (Permanent l.owned.cells) types.Queue) l.names tt refl h)
  one_bound l ps x (named.set_over s) v qs i h = subst (λ u. AreBoundAt (system_parameter l ps x u).1 (qs ++ value_named x (named.set_over s) ∷ [])) (sym i) (value_bound l.owned.parameters qs (value_named x (named.set_over s)) (meaning.Variable (Permanent l.owned.cells) (types.Set (range_on k s))) l.names tt refl h)
  one_bound l ps x (named.array_over s u) v qs i h =
      subst (λ w. AreBoundAt (system_parameter l ps x w).1 (qs ++ value_named x (named.array_over s u) ∷ [])) (sym i.is) (value_bound l.owned.parameters qs (value_named x (named.array_over s u)) (meaning.Variable (Permanent l.owned.cells) (types.Array i.number)) l.names tt refl h)
  one_bound l ps x (named.record_with us) v qs i h =
      subst (λ w. AreBoundAt (system_parameter l ps x w).1 (qs ++ value_named x (named.record_with us) ∷ [])) (sym i.is) (value_bound l.owned.parameters qs (value_named x (named.record_with us)) (meaning.Variable (Permanent l.owned.cells) (types.Record i.number)) l.names tt refl h)

  parameters_bound : (l : Layer) (ps : Parameters) (t : Ty) (v : CellType) (is : List Identifier) (qs : List Parameter) → TypeIs k l.types t v → AreBoundAt l qs → AreBoundAt (system_parameters_of l ps v is).1 (qs ++ parameters_named (names_of is) t false)
  unfolding system_parameters_of
  parameters_bound l ps t v [] qs i h = subst (λ us. AreBoundAt l us) (sym (append-nil qs)) h
  parameters_bound l ps t v (x ∷ xs) qs i h =
      let m : Parameters × Layer = system_parameter l ps x.name v in
      let j : TypeIs k m.1.types t v = subst (λ ts. TypeIs k ts t v) (sym (parameter_types l ps x.name v)) i in
      subst (λ us. AreBoundAt (system_parameters_of m.1 m.0 v xs).1 us) (append_assoc qs (value_named x.name t ∷ []) (parameters_named (names_of xs) t false)) (parameters_bound m.1 m.0 t v xs (qs ++ value_named x.name t ∷ []) j (one_bound l ps x.name t v qs i h))

  groups_bound : (l : Layer) (j : Heading) (ps : Parameters) (gs : List syntax.Group) → AreParameters j gs → InStep k l.types l.names j.scope → AreBoundAt l j.parameters → AreBoundAt (system_groups l ps gs).1 (meant.with_groups permanent_variable j gs).parameters
  unfolding system_groups
  groups_bound l j ps [] p i h = h
  groups_bound l j ps (g ∷ gs) p i h =
      let x : Parameters × Layer = system_group l ps g in
      let c : Heading = meant.with_group permanent_variable false j g in
      let a : Reached k l x.1 c.scope [] = system_groups_reached k l j ps (g ∷ []) (p.0, tt) i in
      groups_bound x.1 c x.0 gs p.1 a.names (parameters_bound l ps (meant.type_named j.scope g.type_name.name) (type_of_name l g.type_name.name) g.names j.parameters (named_type_same k l j.scope g.type_name.name i) h)

  -- ---- what is declared after them

  part_handed : (l : Layer) (p : syntax.Part) → handed (permanent_part l p) ≡ handed l
  part_handed l (syntax.constants at ds) = ap (λ (o : Owned). o.parameters) (constants_owned l ds)
  part_handed l (syntax.types at ds) = ap (λ (o : Owned). o.parameters) (definitions_owned l ds)
  part_handed l (syntax.variables at gs) = variables_handed l gs

  parts_handed : (l : Layer) (ps : List syntax.Part) → handed (permanent_parts l ps) ≡ handed l
  unfolding permanent_parts
  parts_handed l [] = refl
  parts_handed l (p ∷ ps) = parts_handed (permanent_part l p) ps ∙ part_handed l p

  -- where the routines of a system type begin
  pub system_bound : (l : Layer) (s : Scope) (d : syntax.System) → AreParameters (record { parameters = []; scope = scopes.seen_inside s }) d.parameters → AreOuter s → InStep k l.types l.names s →
      AreBound (parts_begun l d).owned.parameters (meant.with_groups permanent_variable (record { parameters = []; scope = scopes.seen_inside s }) d.parameters).parameters (parts_begun l d).names
  system_bound l s d f g i =
      let x : Layer = (enter_system l).1 in
      let y : Layer = (system_groups x [] d.parameters).1 in
      let u : Scope = scopes.seen_inside s in
      let j : Heading = record { parameters = []; scope = u } in
      let qs : List Parameter = (meant.with_groups permanent_variable j d.parameters).parameters in
      let start : AreBoundAt x [] = record { count = refl; bound = λ z n c e. absurd (let w : false ≡ true = open_found z (meaning.Bound n c) l.names e in cc) } in
      let a : AreBoundAt y qs = groups_bound x j [] d.parameters f (all_inside k l.types l.names s g i) start in
      subst (λ cs. AreBound cs qs (parts_begun l d).names) (sym (parts_handed y d.parts))
      (kept.permanent_parts_keep (AreBound y.owned.parameters qs) IsUnbound (bound_added y.owned.parameters qs) (λ b z. tt) (λ v. tt) (λ n v. tt) (λ n v. tt) y d.parts a)
