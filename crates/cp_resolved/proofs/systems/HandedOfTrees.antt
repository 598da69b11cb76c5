-- The parameters of each system type of a tree that are components are those of the tables, in their order.
use Rattle.std.proofs.Common.{◌≡◌, ◌+◌, ◌<◌, ◌≤◌, ℕ, true, false, List, [], ◌∷◌, ◌++◌, length, Option, Some, None, slice_get, slice_index_or, refl, sym, ap, subst, ◌∙◌, ◌⊎◌, inl, inr, append_assoc, append-nil, arith}
use Rattle.cp_resolved.proofs.Words.{slice_get_within, Program, Tree, ComponentParameter, plain, laid, system_type, system_types, component_cell, Layer, Names, System}
use Rattle.cp_resolved.proofs.Words.{nothing_laid, parameter_count, Name, permanent_variable, Variable, Parameter, parameter_variables, SystemMeaning, program_system}
use Rattle.cp_resolved.proofs.Words.{system_of, AreDifferent, AreDeclared, system_variables, IsFramed, CellsAre, PartsAre, BoundIs, is_parameter, IsPlain, numbering_of}
use Rattle.cp_symbols.specs.declared.names.LayoutMeaning.TheVariants as meaning
use Rattle.cp_layout.specs.Layers as layers
use Rattle.cp_slots.specs.Tables.{Tables, SystemView, system_at, no_system, parameter_at, no_parameter}
use Rattle.cp_meaning.specs.Types.{Ty, component_of}
use Rattle.cp_resolved.specs.Headed.{HandedBy, AreHanded, EntranceFits}
use Rattle.cp_resolved.specs.TreeLayouts.{slot_in, program_parts_parts, layer_or, parts_at, layouts_of, whole_laid}
use Rattle.cp_resolved.proofs.components.ComponentsOfTree.{Own, own_of, laid_all, around, count_same, meaning_of, program_meaning}
use Rattle.cp_resolved.proofs.names.Entries.{not_there, still_there, entry_at}
use Rattle.cp_resolved.proofs.frames.FrameCells.{none_left}
use Rattle.cp_resolved.proofs.components.Handed.{program_handed}
use Rattle.cp_resolved.proofs.systems.HandedComponents.{one_handed, handed_count, handed_append, BoundAt, AreBound}
use Rattle.cp_resolved.proofs.systems.OwnedParts.{FirstIs}
use Rattle.cp_resolved.proofs.agreeing.ScopeVariables.{Among, among_left, among_right, never_missing}
use Rattle.cp_resolved.proofs.sound.SoundComponents.{tabled, system_there, program_there}
use Rattle.cp_resolved.proofs.systems.SystemsLaid.{PermanentIs}
use Rattle.cp_resolved.proofs.declarations.ValueParameters.{value_parameters}
use Rattle.cp_resolved.proofs.components.VisibleComponents.{found_there}

-- ---- lists of which no two have one name

parameter_among : (before : List Parameter) (q : Parameter) (after : List Parameter) → Among q.name q.ty (parameter_variables (before ++ q ∷ after))
parameter_among [] q after = inl (refl, refl)
parameter_among (b ∷ before) q after = inr (parameter_among before q after)

-- a parameter stands after the same ones, however the list is taken apart
same_before : (pre before : List Parameter) (q p : Parameter) (post after : List Parameter) → p.name ≡ q.name → AreDifferent (parameter_variables (pre ++ q ∷ post)) → pre ++ q ∷ post ≡ before ++ p ∷ after → handed_count before ≡ handed_count pre
same_before [] [] q p post after same d e = refl
same_before [] (b ∷ before) q p post after same d e =
    let rest : post ≡ before ++ p ∷ after = (let w : q ∷ post ≡ b ∷ (before ++ p ∷ after) = e in cc) in
    absurd (never_missing q.name p.ty (parameter_variables post) (subst (λ us. Among q.name p.ty (parameter_variables us)) (sym rest) (subst (λ y. Among y p.ty (parameter_variables (before ++ p ∷ after))) same (parameter_among before p after))) d.0)
same_before (a ∷ pre) [] q p post after same d e =
    let first : a ≡ p = (let w : a ∷ (pre ++ q ∷ post) ≡ p ∷ after = e in cc) in
    absurd (never_missing a.name q.ty (parameter_variables (pre ++ q ∷ post)) (subst (λ y. Among y q.ty (parameter_variables (pre ++ q ∷ post))) (sym same ∙ sym (ap (λ (z : Parameter). z.name) first)) (parameter_among pre q post)) d.0)
same_before (a ∷ pre) (b ∷ before) q p post after same d e =
    let first : a ≡ b = (let w : a ∷ (pre ++ q ∷ post) ≡ b ∷ (before ++ p ∷ after) = e in cc) in
    let rest : pre ++ q ∷ post ≡ before ++ p ∷ after = (let w : a ∷ (pre ++ q ∷ post) ≡ b ∷ (before ++ p ∷ after) = e in cc) in
    let same_rest : handed_count before ≡ handed_count pre = same_before pre before q p post after same d.1 rest in
    ap (λ (z : Parameter). handed_count (z ∷ before)) (sym first) ∙ ap (λ n. one_handed a.ty + n) same_rest

module _ (t : Tree) (r : Tables) (same : plain r ≡ laid t) (place : IsPlain t.program) where
  abbrev p : Program
  p = t.program

  abbrev end : Layer
  end = whole_laid t

  -- ---- the parameters of a system type in the tables

  pub record HandedAt (k : ℕ) : Type 0 where
    pub cells : List ComponentParameter
    pub is : (system_at r k).parameters ≡ cells
    pub handed : AreBound cells (system_of p k).parameters (parts_at t k).names

  handed_some : (k : ℕ) (s : System) → slice_get end.systems k ≡ Some s → HandedAt k
  handed_some k s e =
      let n = (laid_all t place).systems k s e in
      let at : parts_at t k ≡ n.around = ap (layer_or (nothing_laid t.lines)) (still_there (program_parts_parts (nothing_laid t.lines) p.parts) (around t place ∷ []) k n.around n.there) in
      let view : system_at r k ≡ system_type s.owned = entry_at r.systems k no_system (system_type s.owned) (ap (λ (vs : List SystemView). slice_get vs k) (tabled r t same).systems ∙ system_there end k s e) in
      record {
        cells = s.owned.parameters;
        is = ap (λ (v : SystemView). v.parameters) view;
        handed = subst (λ (q : Layer). AreBound s.owned.parameters (system_of p k).parameters q.names) (sym at) (subst (λ (m : SystemMeaning). AreBound s.owned.parameters m.parameters n.around.names) (sym (meaning_of t place k n.meaning n.meant)) n.is.handed);
      }

  -- the program has none
  program_bound : (names : Names) (qs : List Parameter) → qs ≡ [] → ((x : List ℕ) (n k : ℕ) → layers.find x names ≡ Some (meaning.Bound n k) → is_parameter x qs ≡ true) → AreBound [] qs names
  program_bound names [] e h = record { count = refl; bound = λ x n k f. absurd (let w : false ≡ true = h x n k f in cc) }
  program_bound names (q ∷ qs) e h = absurd (let w : q ∷ qs ≡ [] = e in cc)

  handed_none : (k : ℕ) → k ≤ program_system p → slice_get end.systems k ≡ None → HandedAt k
  handed_none k le e =
      let past : length end.systems ≤ k = not_there end.systems k e in
      let c = count_same t place in
      let number : length end.systems ≡ k = omega (arith, past, c, le) in
      let own : Own t place k = own_of t place k le in
      let none : (system_of p k).parameters ≡ [] = ap (λ j. (system_of p j).parameters) (sym number ∙ c) ∙ ap (λ (m : SystemMeaning). m.parameters) (program_meaning t place) in
      let view : system_at r k ≡ system_type end.owned = entry_at r.systems k no_system (system_type end.owned) (ap (λ (vs : List SystemView). slice_get vs k) (tabled r t same).systems ∙ ap (λ j. slice_get (system_types end.systems end.owned) j) (sym number) ∙ program_there end) in
      record {
        cells = [];
        is = ap (λ (v : SystemView). v.parameters) view ∙ program_handed t.lines p;
        handed = program_bound (parts_at t k).names (system_of p k).parameters none own.own.bound;
      }

  pub handed_at : (k : ℕ) → k ≤ program_system p → HandedAt k
  handed_at k le = go (slice_get end.systems k) refl
    where
      go : (o : Option System) → slice_get end.systems k ≡ o → HandedAt k
      go (Some s) e = handed_some k s e
      go None e = handed_none k le e

  -- ---- by its names

  module _ (framed : IsFramed t) (k : ℕ) (le : k ≤ program_system p) where
    abbrev m : SystemMeaning
    m = system_of p k

    abbrev names : Names
    names = (parts_at t k).names

    abbrev declared : AreDeclared permanent_variable m.scope (system_variables m)
    declared = framed.permanents k

    apart : (qs vs : List Variable) (x : Name) (u w : Ty) → AreDifferent (qs ++ vs) → Among x u qs → Among x w vs → ⊥
    apart [] vs x u w d a b = a
    apart (q ∷ qs) vs x u w d (inl e) b = never_missing q.name w (qs ++ vs) (subst (λ y. Among y w (qs ++ vs)) (sym e.0) (among_right x w qs vs b)) d.0
    apart (q ∷ qs) vs x u w d (inr a) b = apart qs vs x u w d.1 a b

    one_among : (before : List Variable) (v : Variable) (after : List Variable) → Among v.name v.ty (before ++ v ∷ after)
    one_among [] v after = inl (refl, refl)
    one_among (b ∷ before) v after = inr (one_among before v after)

    -- a parameter that is a component leads to a cell
    pub bound_there : (x : Name) (j : ℕ) → Among x (component_of j) (parameter_variables m.parameters) → (slot : ℕ) × (layers.find x names ≡ Some (meaning.Bound slot j))
    bound_there x j a = go (own.own.found x (component_of j) (found_there m declared x (component_of j) (among_left x (component_of j) (parameter_variables m.parameters) m.variables a)))
      where
        own : Own t place k
        own = own_of t place k le

        go : PermanentIs (numbering_of p) end (component_of j) (layers.find x names) → (slot : ℕ) × (layers.find x names ≡ Some (meaning.Bound slot j))
        go h = which h.is
          where
            which : CellsAre (numbering_of p) end.types (component_of j) h.meaning ⊎ (PartsAre (numbering_of p) end.types (component_of j) h.meaning ⊎ BoundIs (component_of j) h.meaning) → (slot : ℕ) × (layers.find x names ≡ Some (meaning.Bound slot j))
            which (inl c) = absurd (let bad : true ≡ false = c.without in cc)
            which (inr (inl c)) =
                let f : FirstIs end.systems m.variables x c.first = own.own.owns.firsts x c.first c.value_type (h.there ∙ ap (λ q. Some q) c.is) in
                let b : Among x f.variable.ty m.variables = subst (λ y. Among y f.variable.ty m.variables) f.name (subst (λ us. Among f.variable.name f.variable.ty us) (sym f.is) (one_among f.before f.variable f.after)) in
                absurd (apart (parameter_variables m.parameters) m.variables x (component_of j) f.variable.ty declared.different a b)
            which (inr (inr c)) =
                let system : c.system ≡ j = (let e : component_of j ≡ component_of c.system = c.component in cc) in
                (c.slot, h.there ∙ ap (λ q. Some q) (c.is ∙ ap (λ i. meaning.Bound c.slot i) system))

    -- and this cell is that of a parameter in the tables
    pub record PartAt (x : Name) (j number : ℕ) : Type 0 where
      pub within : number < parameter_count r k
      pub slot : slot_in (layers.find x names) ≡ (parameter_at r k number).slot
      pub system : (parameter_at r k number).system ≡ j

    pub record PartOf (x : Name) (j : ℕ) : Type 0 where
      pub before : List Parameter
      pub parameter : Parameter
      pub after : List Parameter
      pub is : m.parameters ≡ before ++ parameter ∷ after
      pub name : parameter.name ≡ x
      pub at : PartAt x j (handed_count before)

    pub part_of : (x : Name) (j : ℕ) → Among x (component_of j) (parameter_variables m.parameters) → PartOf x j
    part_of x j a =
        let b = bound_there x j a in
        let h : HandedAt k = handed_at k le in
        let w : BoundAt h.cells m.parameters x b.0 j = h.handed.bound x b.0 j b.1 in
        let n : parameter_count r k ≡ length h.cells = ap (λ (cs : List ComponentParameter). length cs) h.is in
        let low : handed_count w.before < length h.cells = slice_get_within h.cells (handed_count w.before) (component_cell b.0 j) w.there in
        let is : parameter_at r k (handed_count w.before) ≡ component_cell b.0 j = ap (λ (cs : List ComponentParameter). slice_index_or cs (handed_count w.before) no_parameter) h.is ∙ entry_at h.cells (handed_count w.before) no_parameter (component_cell b.0 j) w.there in
        record {
          before = w.before;
          parameter = w.parameter;
          after = w.after;
          is = w.is;
          name = w.name;
          at = record { within = omega (arith, n, low); slot = ap slot_in b.1 ∙ sym (ap (λ (c : ComponentParameter). c.slot) is); system = ap (λ (c : ComponentParameter). c.system) is };
        }

    -- ---- all of them

    different_left : (qs vs : List Variable) → AreDifferent (qs ++ vs) → AreDifferent qs
    different_left [] vs d = tt
    different_left (q ∷ qs) vs d = (none_left q.name qs vs d.0, different_left qs vs d.1)

    abbrev Rest : List Parameter → ℕ → Type 0
    Rest qs n = AreHanded r k (λ x. slot_in (layers.find x names)) n qs

    same_count : (pre : List Parameter) (q : Parameter) (u : Ty) → q.ty ≡ u → one_handed u ≡ 0 → handed_count (pre ++ q ∷ []) ≡ handed_count pre
    same_count pre q u i z =
        let more = handed_append pre (q ∷ []) in
        let one : one_handed q.ty ≡ 0 = ap one_handed i ∙ z in
        omega (arith, more, one)

    one_handed_by : (pre : List Parameter) (q : Parameter) (post : List Parameter) (u : Ty) → m.parameters ≡ pre ++ q ∷ post → q.ty ≡ u → Rest post (handed_count (pre ++ q ∷ [])) → HandedBy r k u (slot_in (layers.find q.name names)) (handed_count pre) (Rest post)
    one_handed_by pre q post (component_of j) e i rest =
        let a : Among q.name (component_of j) (parameter_variables m.parameters) = subst (λ us. Among q.name (component_of j) (parameter_variables us)) (sym e) (subst (λ u. Among q.name u (parameter_variables (pre ++ q ∷ post))) i (parameter_among pre q post)) in
        let w : PartOf q.name j = part_of q.name j a in
        let d : AreDifferent (parameter_variables (pre ++ q ∷ post)) = subst (λ us. AreDifferent (parameter_variables us)) e (different_left (parameter_variables m.parameters) m.variables declared.different) in
        let at : handed_count w.before ≡ handed_count pre = same_before pre w.before q w.parameter post w.after w.name d (sym e ∙ w.is) in
        let o : PartAt q.name j (handed_count pre) = subst (λ n. PartAt q.name j n) at w.at in
        let more = handed_append pre (q ∷ []) in
        let one : one_handed q.ty ≡ 1 = ap one_handed i in
        let next : handed_count (pre ++ q ∷ []) ≡ handed_count pre + 1 = omega (arith, more, one) in
        (o.within, o.slot, o.system, subst (λ n. Rest post n) next rest)
    one_handed_by pre q post t e i rest = subst (λ n. Rest post n) (same_count pre q t i refl) rest

    all_handed : (pre post : List Parameter) → m.parameters ≡ pre ++ post → Rest post (handed_count pre)
    all_handed pre [] e =
        let h : HandedAt k = handed_at k le in
        let n : parameter_count r k ≡ length h.cells = ap (λ (cs : List ComponentParameter). length cs) h.is in
        sym (n ∙ h.handed.count ∙ ap handed_count (e ∙ append-nil pre))
    all_handed pre (q ∷ post) e = one_handed_by pre q post q.ty e refl (all_handed (pre ++ q ∷ []) post (e ∙ sym (append_assoc pre (q ∷ []) post)))

    pub entrance_fits : EntranceFits r k ((layouts_of t).systems k).slots m.parameters
    entrance_fits = record { values = value_parameters p k; handed = all_handed [] m.parameters refl }
