-- The parameters of a system type that are components have a cell each, inside the cells of the type and apart from each other.
use Rattle.std.proofs.Common.{◌≡◌, ◌+◌, ◌*◌, ◌<◌, ◌≤◌, ℕ, Bool, true, false, ◌||◌, List, [], ◌∷◌, ◌++◌, Option, Some, None, slice_get, refl, sym, ap, subst, ◌∙◌, ◌⊎◌, inl, inr, arith}
use Rattle.cp_resolved.proofs.Words.{min, none-some, slice_get_within, Tree, LayoutMeaning, most, plain, laid, Layer, Tables, system_at, IsAccepted, Parameter, Variable}
use Rattle.cp_resolved.proofs.Words.{Name, same_name, permanent_variable, find, since, parameter_variables, Ty, array_over, component_of, has_components, AreDeclared}
use Rattle.cp_resolved.proofs.Words.{system_variables, FoundIs, is_parameter, look, numbering_of, IsRead, Each, IsParameter, components_among, slot_in, parts_at}
use Rattle.cp_resolved.proofs.Words.{layouts_of, SystemMeaning, declared, program_system, own_meaning, or_own, system_of}
use Rattle.cp_symbols.specs.declared.names.LayoutMeaning.TheVariants as meaning
use Rattle.cp_layout.specs.Layers as layers
use Rattle.cp_resolved.proofs.counts.FewCellsOfTables.{few_cells_law}
use Rattle.cp_resolved.proofs.frames.FrameCells.{itself, look_left, look_each, before_inside, before_apart}
use Rattle.cp_resolved.proofs.systems.PermanentCells.{width, taken, taken_before, Holds}
use Rattle.cp_resolved.proofs.declarations.Placed.{placed_law}
use Rattle.cp_resolved.proofs.agreeing.ScopeVariables.{Among, among_left, look_among, among_all}
use Rattle.cp_resolved.proofs.names.Steps.{found_in}
use Rattle.cp_resolved.proofs.systems.SystemKnown.{found_among}
use Rattle.cp_resolved.proofs.systems.SystemsStand.{SystemStands, system_stands}
use Rattle.cp_resolved.proofs.declarations.SystemVariables.{accepted_permanents}

-- ---- parameters

among_parameter : (x : Name) (u : Ty) (qs : List Parameter) → Each (λ (q : Parameter). IsParameter q.ty) qs → Among x u (parameter_variables qs) → IsParameter u × (is_parameter x qs ≡ true)
among_parameter x u [] h a = absurd a
among_parameter x u (q ∷ qs) h (inl a) = (subst IsParameter a.1 h.0, ap (λ (b : Bool). b || is_parameter x qs) (subst (λ y. same_name x y ≡ true) (sym a.0) (itself x)))
among_parameter x u (q ∷ qs) h (inr a) = go (same_name x q.name) (among_parameter x u qs h.1 a)
  where
    go : (b : Bool) → IsParameter u × (is_parameter x qs ≡ true) → IsParameter u × ((b || is_parameter x qs) ≡ true)
    go true r = (r.0, refl)
    go false r = r

-- a component has one cell
part_width : (u : Ty) → IsParameter u → has_components u ≡ true → width u ≡ 1
part_width (component_of n) p h = refl
part_width (array_over r t) p h = absurd (let bad : true ≡ false = sym h ∙ p in cc)
part_width x p h = absurd (let bad : false ≡ true = h in cc)

-- ---- their cells

module _ (t : Tree) (r : Tables) (n : ℕ) (s : SystemStands t r n) (declares : AreDeclared permanent_variable (system_of t.program n).scope (system_variables (system_of t.program n))) (few : (system_at r n).own < most) where
  abbrev m : SystemMeaning
  m = system_of t.program n

  abbrev qs : List Variable
  qs = parameter_variables m.parameters

  abbrev ws : List Variable
  ws = qs ++ components_among false m.variables

  record IsPart (x : Name) (u : Ty) : Type 0 where
    pub found : look x qs ≡ Some u
    pub has : has_components u ≡ true
    pub one : width u ≡ 1
    pub parameter : is_parameter x m.parameters ≡ true

  part : (x : Name) (u : Ty) → look x (components_among true qs) ≡ Some u → IsPart x u
  part x u e =
      let a : Among x u qs × (has_components u ≡ true) = among_all true x u qs (look_among x u (components_among true qs) e) in
      let b : IsParameter u × (is_parameter x m.parameters ≡ true) = among_parameter x u m.parameters s.parameters a.0 in
      record { found = found_among x u qs (system_variables m) declares.different (λ v h. among_left x v qs m.variables h) a.0; has = a.1; one = part_width u b.0 a.1; parameter = b.1 }

  all_taken : taken ws ≡ (system_at r n).own
  all_taken = let c : s.around.owned.cells ≡ min (taken ws) most = s.owns.cells in let own : (system_at r n).own ≡ s.around.owned.cells = s.own in omega (arith, c, own, few)

  part_taken : (x : Name) (u : Ty) → IsPart x u → look x ws ≡ Some u
  part_taken x u p = look_left x u qs (components_among false m.variables) p.found

  around_slot : (x : Name) (u : Ty) → IsPart x u → slot_in (layers.find x s.around.names) ≡ taken_before x ws
  around_slot x u p = go (layers.find x s.begun.names) refl (subst (λ o. FoundIs (numbering_of t.program) s.begun.types (layers.find x s.begun.names) o (since x m.scope)) seen (found_in (numbering_of t.program) s.begun.types x s.begun.names m.scope s.names))
    where
      seen : find x m.scope ≡ Some (permanent_variable u)
      seen = look_each (λ (v : Variable). find v.name m.scope ≡ Some (permanent_variable v.ty)) x u (system_variables m) declares.visible (look_left x u qs m.variables p.found)

      inside : taken_before x ws ≤ most
      inside = let i = before_inside width x u ws (part_taken x u p) in omega (arith, i, all_taken, few)

      go : (o : Option LayoutMeaning) → layers.find x s.begun.names ≡ o → FoundIs (numbering_of t.program) s.begun.types o (Some (permanent_variable u)) (since x m.scope) → slot_in (layers.find x s.around.names) ≡ taken_before x ws
      go None f g = absurd g
      go (Some c) f (inl g) = absurd (let bad : true ≡ false = sym p.has ∙ g.without in cc)
      go (Some c) f (inr (inl g)) =
          let there : layers.find x s.around.names ≡ Some (meaning.Contained g.first g.value_type) = s.under x (meaning.Contained g.first g.value_type) tt (f ∙ ap (λ y. Some y) g.is) in
          absurd (let bad : true ≡ false = sym p.parameter ∙ s.first x g.first g.value_type there in cc)
      go (Some c) f (inr (inr g)) =
          let there : layers.find x s.around.names ≡ Some (meaning.Bound g.slot g.system) = s.under x (meaning.Bound g.slot g.system) tt (f ∙ ap (λ y. Some y) g.is) in
          let h : Holds ws x (meaning.Bound g.slot g.system) = s.owns.holding x (meaning.Bound g.slot g.system) there in
          let slot : g.slot ≡ min (taken_before x ws) most = h.2 in
          ap slot_in there ∙ omega (arith, slot, inside)

  part_slot : (x : Name) (u : Ty) → IsPart x u → slot_in (layers.find x (parts_at t n).names) ≡ taken_before x ws
  part_slot x u p = ap (λ (q : Layer). slot_in (layers.find x q.names)) s.there ∙ around_slot x u p

  pub part_inside : (x : Name) (u : Ty) → look x (components_among true qs) ≡ Some u → slot_in (layers.find x (parts_at t n).names) < (system_at r n).own
  part_inside x u e =
      let p : IsPart x u = part x u e in
      let slot = part_slot x u p in
      let i = before_inside width x u ws (part_taken x u p) in
      let one : width u ≡ 1 = p.one in
      omega (arith, slot, i, one, all_taken)

  pub parts_different : (x y : Name) (u v : Ty) → same_name x y ≡ false → look x (components_among true qs) ≡ Some u → look y (components_among true qs) ≡ Some v → slot_in (layers.find x (parts_at t n).names) ≡ slot_in (layers.find y (parts_at t n).names) → ⊥
  parts_different x y u v other e f same = go (before_apart width x y u v ws other (part_taken x u p) (part_taken y v q))
    where
      p : IsPart x u
      p = part x u e

      q : IsPart y v
      q = part y v f

      go : (taken_before x ws + width u ≤ taken_before y ws) ⊎ (taken_before y ws + width v ≤ taken_before x ws) → ⊥
      go (inl h) = let a = part_slot x u p in let b = part_slot y v q in let one : width u ≡ 1 = p.one in omega (arith, h, a, b, one, same)
      go (inr h) = let a = part_slot x u p in let b = part_slot y v q in let one : width v ≡ 1 = q.one in omega (arith, h, a, b, one, same)

-- ---- of accepted trees

few_own : (n : ℕ) → n ≤ 8192 * 20000 → n < most
few_own n h = omega (arith, h)

own_few : (t : Tree) (r : Tables) → plain r ≡ laid t → IsRead t.program → IsAccepted t → (k : ℕ) → (system_at r k).own < most
own_few t r is read accepted k = few_own (system_at r k).own ((few_cells_law r t is read accepted).own k)

pub accepted_parts : (t : Tree) (r : Tables) → plain r ≡ laid t → IsRead t.program → IsAccepted t → (k : ℕ) (x : Name) (u : Ty) → k ≤ program_system t.program → look x ((layouts_of t).systems k).parts ≡ Some u → ((layouts_of t).systems k).slots x < (system_at r k).own
accepted_parts t r is read accepted k x u le e =
    part_inside t r k (system_stands t r is (placed_law t read accepted) k (accepted_permanents t accepted k) le) (accepted_permanents t accepted k) (own_few t r is read accepted k) x u e

pub accepted_parts_apart : (t : Tree) (r : Tables) → plain r ≡ laid t → IsRead t.program → IsAccepted t → (k : ℕ) (x y : Name) (u v : Ty) → same_name x y ≡ false → look x ((layouts_of t).systems k).parts ≡ Some u → look y ((layouts_of t).systems k).parts ≡ Some v → ((layouts_of t).systems k).slots x ≡ ((layouts_of t).systems k).slots y → ⊥
accepted_parts_apart t r is read accepted k x y u v other e f same = go (slice_get (declared t.program).systems k) refl
  where
    go : (o : Option SystemMeaning) → slice_get (declared t.program).systems k ≡ o → ⊥
    -- the program itself has no parameters
    go None h = none-some u (sym (ap (λ o. look x (components_among true (parameter_variables (or_own (own_meaning (declared t.program) t.program) o).parameters))) h) ∙ e)
    go (Some m) h =
        let low : k < program_system t.program = slice_get_within (declared t.program).systems k m h in
        parts_different t r k (system_stands t r is (placed_law t read accepted) k (accepted_permanents t accepted k) (omega (arith, low))) (accepted_permanents t accepted k) (own_few t r is read accepted k) x y u v other e f same
