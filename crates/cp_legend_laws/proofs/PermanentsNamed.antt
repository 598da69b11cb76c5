-- The permanent variables in the legend of a tree are those of the tree, at the cells that its layouts give them.
use Rattle.std.proofs.Common.{◌≡◌, ℕ, zero, suc, ◌+◌, ◌<◌, ◌≤◌, Bool, true, false, if◌then◌else◌, List, [], ◌∷◌, ◌++◌, length, map, Option, Some, None, slice_get, ◌==◌, refl, sym, ap, subst, ◌∙◌, ◌⊎◌, inl, inr, append_assoc, length-append, arith}
use Rattle.std.proofs.lemmas.Bool.{cases_lt}
use Rattle.std.specs.Prelude.{min, unwrap_or}
use Rattle.cp_legend_laws.proofs.Words.{eqb-false, eqb-true, flat_map, Program, Tree, Compounds, Layer, Name, Noted, Numbering, Variable, Each, IsStandingVariable}
use Rattle.cp_tree.specs.Read.{IsRead}
use Rattle.cp_slots.specs.Tables.{Tables}
use Rattle.cp_slots.specs.declared.place.PlaceOrigin.TheVariants as origin
use Rattle.cp_symbols.specs.declared.names.LayoutMeaning.TheVariants as meaning
use Rattle.cp_symbols.specs.declared.symbols.Symbols as code_symbols
use Rattle.cp_symbols.specs.Kinds.{most}
use Rattle.cp_layout.specs.Laid.{plain, laid, whole}
use Rattle.cp_layout.specs.Layers as layers
use Rattle.cp_layout.specs.Symbols.{AreSymbolsOf}
use Rattle.cp_meaning_laws.specs.Accepted.{IsAccepted}
use Rattle.cp_legend.specs.Names as legend
use Rattle.cp_legend.specs.Names.{Source, at_each, permanent_meant, permanent_named, permanents_of, source_seen}
use Rattle.cp_legend.specs.Places.{variables_at}
use Rattle.cp_meaning.specs.Types.{Ty, has_components}
use Rattle.cp_meaning.specs.Steps.{parameter_variables}
use Rattle.cp_meaning.specs.Systems.{SystemMeaning, declared, program_system, system_of}
use Rattle.cp_resolved.specs.Framed.{IsFramed, system_variables}
use Rattle.cp_resolved.specs.Layouts.{cells_of, look}
use Rattle.cp_resolved.specs.LayoutsKnow.{IsPlaced}
use Rattle.cp_resolved.specs.Names.{IsPlain}
use Rattle.cp_resolved.specs.Openings.{numbering_of}
use Rattle.cp_resolved.specs.TreeLayouts.{layouts_of, slot_in}
use Rattle.cp_resolved.proofs.agreeing.AgreeingWritten.{each_left, each_right}
use Rattle.cp_resolved.proofs.agreeing.ScopeVariables.{Among, among_all, among_left, among_right, among_some, components_append}
use Rattle.cp_resolved.proofs.components.ComponentsOfTree.{count_same}
use Rattle.cp_resolved.proofs.counts.FewCells.{few_standing}
use Rattle.cp_resolved.proofs.counts.FewCellsOfTables.{few_cells_law}
use Rattle.cp_resolved.proofs.declarations.FramedOfTrees.{accepted_framed}
use Rattle.cp_resolved.proofs.declarations.Placed.{placed_law}
use Rattle.cp_resolved.proofs.declarations.Plain.{plain_law}
use Rattle.cp_resolved.proofs.frames.FrameCells.{before_right, itself, weight_append}
use Rattle.cp_resolved.proofs.names.Entries.{last_entry, still_there}
use Rattle.cp_resolved.proofs.names.Opened.{opened_all}
use Rattle.cp_resolved.proofs.systems.PermanentCells.{taken, taken_before, width}
use Rattle.cp_resolved.proofs.systems.SystemKnown.{among_either, found_among, slot_is, system_fits}
use Rattle.cp_resolved.proofs.systems.SystemsStand.{SystemStands, each_map, system_stands}
use Rattle.cp_legend_laws.specs.Statements.{AreVariables, IsVariable, PermanentsLaw}
use Rattle.cp_legend_laws.proofs.Lined.{AreBelow, of_home, same_home}
use Rattle.cp_legend_laws.proofs.LinedUp.{below, count, same_types}
use Rattle.cp_legend_laws.proofs.PartSystems.{IsHome, program_home, type_home}
use Rattle.cp_legend_laws.proofs.PermanentsNoted.{Told, celled, Fits, Lie, LiesIf, owners}
use Rattle.cp_legend_laws.proofs.QuietSteps.{all_permanents}
use Rattle.cp_legend_laws.proofs.PermanentSystems.{Laid, home_permanents, told_of, told_own, told_program}

-- ---- lists by numbers

each_many : {X : Type 0} (f : ℕ → X) (m : ℕ) → length (at_each f m) ≡ m
unfolding at_each
each_many f zero = refl
each_many f (suc m) = let a = each_many f m in let b = length-append (at_each f m) (f m ∷ []) in omega (arith, a, b)

each_there : {X : Type 0} (f : ℕ → X) (m n : ℕ) → n < m → slice_get (at_each f m) n ≡ Some (f n)
unfolding at_each
each_there f zero n lt = absurd (omega (arith, lt))
each_there {X} f (suc m) n lt = go (cases_lt n m) (λ less. each_there f m n less)
  where
    go : (n < m) ⊎ (m ≤ n) → (n < m → slice_get (at_each f m) n ≡ Some (f n)) → slice_get (at_each f m ++ f m ∷ []) n ≡ Some (f n)
    go (inl less) before = still_there (at_each f m) (f m ∷ []) n (f n) (before less)
    go (inr le) before =
        let same : n ≡ m = omega (arith, le, lt) in
        ap (slice_get (at_each f m ++ f m ∷ [])) (same ∙ sym (each_many f m)) ∙ (last_entry (at_each f m) (f m) ∙ ap (λ (i : ℕ). Some (f i)) (sym same))

-- ---- the permanent variables of a home

module _ (s : Source) (n : ℕ) (o : Option ℕ) (same : IsHome s n o) where
  either : (b : Bool) (d : Noted) (ds : List Noted) → (if b then permanent_meant d.name d.meaning else []) ++ all_permanents (of_home o ds) ≡ all_permanents (if b then d ∷ of_home o ds else of_home o ds)
  either true d ds = refl
  either false d ds = refl

  each_permanent : (ds : List Noted) → AreBelow (length s.systems) ds → flat_map (permanent_named s n) ds ≡ home_permanents o ds
  each_permanent [] h = refl
  each_permanent (d ∷ ds) h =
      ap (λ (vs : Told). permanent_named s n d ++ vs) (each_permanent ds h.1)
      ∙ (ap (λ (b : Bool). (if b then permanent_meant d.name d.meaning else []) ++ home_permanents o ds) (same.same d h.0) ∙ either (same_home d.system o) d ds)

  pub home_is : AreBelow (length s.systems) s.declared → permanents_of s n ≡ home_permanents o s.declared
  home_is h = each_permanent s.declared h

celled_twice : (vs : List Variable) → celled (celled vs) ≡ celled vs
celled_twice [] = refl
celled_twice (v ∷ vs) = go (has_components v.ty) refl (celled_twice vs)
  where
    go : (b : Bool) → has_components v.ty ≡ b → celled (celled vs) ≡ celled vs → celled (if b then celled vs else v ∷ celled vs) ≡ (if b then celled vs else v ∷ celled vs)
    go true e rest = rest
    go false e rest = ap (λ (b : Bool). if b then celled (celled vs) else v ∷ celled (celled vs)) e ∙ ap (λ (us : List Variable). v ∷ us) rest

module _ (t : Tree) (y : code_symbols.Symbols) (r : Tables) (read : IsRead t.program) (ok : IsAccepted t) (is : AreSymbolsOf y (whole t)) (same : plain r ≡ laid t) where
  abbrev p : Program
  p = t.program

  abbrev k : Numbering
  k = numbering_of p

  abbrev end : Layer
  end = whole t

  abbrev source : Source
  source = source_seen y

  plain_tree : IsPlain p
  plain_tree = plain_law t read ok

  place : IsPlaced t
  place = placed_law t read ok

  framed : IsFramed t
  framed = accepted_framed t read ok

  told : Laid k end (declared p)
  told = told_program k t.lines p plain_tree.small plain_tree.fit plain_tree.numbered (opened_all p)

  pub many : length source.systems ≡ program_system p
  many = count t y is ∙ count_same t plain_tree

  module _ (n : ℕ) (le : n ≤ program_system p) where
    abbrev m : SystemMeaning
    m = system_of p n

    abbrev ps : List Variable
    ps = parameter_variables m.parameters

    abbrev all : List Variable
    all = owners k m

    abbrev held : List Variable
    held = celled (system_variables m)

    small : Each (λ (w : Variable). cells_of w.ty ≤ most) (system_variables m)
    small = each_map IsStandingVariable (λ (w : Variable). cells_of w.ty ≤ most) (system_variables m) (λ w e. (let f = few_standing w.ty e in omega (arith, f))) (framed.standing n)

    fits : Fits k m
    fits =
        system_fits k m (framed.permanents n).different (each_left (λ (w : Variable). cells_of w.ty ≤ most) ps m.variables small)
        (each_map (λ (w : Variable). cells_of w.ty ≤ most) (λ (w : Variable). has_components w.ty ≡ false → cells_of w.ty ≤ most) m.variables (λ w c e. c) (each_right (λ (w : Variable). cells_of w.ty ≤ most) ps m.variables small))

    -- ---- what the legend has

    moved : (o : Option ℕ) → IsHome source n o → Lie k (end.types ++ []) [] all (home_permanents o end.noted) → Lie k source.types [] all (permanents_of source n)
    moved o home h =
        subst (λ (es : Told). Lie k source.types [] all es) (sym (home_is source n o home (below t y is)))
        (subst (λ (ts : Compounds). Lie k ts [] all (home_permanents o source.declared)) (sym (same_types t y is))
        (subst (λ (ds : List Noted). Lie k (end.types ++ []) [] all (home_permanents o ds)) (sym is.declared) h))

    lies : Lie k source.types [] all (permanents_of source n)
    lies = go (n == program_system p) refl
      where
        go : (b : Bool) → (n == program_system p) ≡ b → Lie k source.types [] all (permanents_of source n)
        go true e =
            let at : n ≡ program_system p = eqb-true n (program_system p) e in
            let home : IsHome source n None = subst (λ (j : ℕ). IsHome source j None) (sym (at ∙ sym many)) (program_home source) in
            moved None home (subst (λ (j : ℕ). Fits k (system_of p j) → Lie k (end.types ++ []) [] (owners k (system_of p j)) (home_permanents None end.noted)) (sym at) (told_own k end p told []) fits)
        go false e =
            let other = eqb-false n (program_system p) e in
            let less : n < program_system p = omega (arith, le, other) in
            moved (Some n) (type_home source n (omega (arith, less, many))) (told_of k end p told [] n less fits)

    -- ---- cells

    stands : SystemStands t r n
    stands = system_stands t r same place n (framed.permanents n) le

    few : stands.around.owned.cells < most
    few = subst (λ (c : ℕ). c < most) stands.own (let f = (few_cells_law r t same read ok).own n in omega (arith, f))

    slot_known : (x : Name) (u : Ty) → look x held ≡ Some u → ((layouts_of t).systems n).slots x ≡ taken_before x all
    slot_known x u e =
        ap (λ (q : Layer). slot_in (layers.find x q.names)) stands.there
        ∙ slot_is k m stands.around stands.begun (framed.permanents n) (framed.standing n) stands.owns few stands.names (λ z i w f. stands.under z (meaning.Variable (origin.Permanent i) w) tt f) x u e

    -- one of them is visible as a variable with cells
    module _ (v : Variable) (ws vs : List Variable) (split : all ≡ ws ++ v ∷ vs) (has : has_components v.ty ≡ false) (new : look v.name ws ≡ None) where
      here : Among v.name v.ty all
      here = subst (λ (us : List Variable). Among v.name v.ty us) (sym split) (among_right v.name v.ty ws (v ∷ vs) (inl (refl, refl)))

      among : Among v.name v.ty (system_variables m)
      among = go (among_either v.name v.ty ps (celled m.variables) here)
        where
          go : Among v.name v.ty ps ⊎ Among v.name v.ty (celled m.variables) → Among v.name v.ty (system_variables m)
          go (inl h) = among_left v.name v.ty ps m.variables h
          go (inr h) = among_right v.name v.ty ps m.variables (among_all false v.name v.ty m.variables h).0

      known : look v.name held ≡ Some v.ty
      known = found_among v.name v.ty held (system_variables m) (framed.permanents n).different (λ u h. (among_all false v.name u (system_variables m) h).0) (among_some false v.name v.ty (system_variables m) has among)

      first : taken_before v.name (v ∷ vs) ≡ 0
      first = ap (λ (b : Bool). if b then 0 else width v.ty + taken_before v.name vs) (itself v.name)

      pub slot_here : min (taken ws) most ≡ ((layouts_of t).systems n).slots v.name
      slot_here =
          let a : ((layouts_of t).systems n).slots v.name ≡ taken_before v.name all = slot_known v.name v.ty known in
          let b : taken_before v.name all ≡ taken_before v.name (ws ++ v ∷ vs) = ap (λ (us : List Variable). taken_before v.name us) split in
          let c : taken_before v.name (ws ++ v ∷ vs) ≡ taken ws + taken_before v.name (v ∷ vs) = before_right width v.name ws (v ∷ vs) new in
          let d = first in
          let e : taken all ≡ taken (ws ++ v ∷ vs) = ap (λ (us : List Variable). taken us) split in
          let f : taken (ws ++ v ∷ vs) ≡ taken ws + taken (v ∷ vs) = weight_append width ws (v ∷ vs) in
          let g : stands.around.owned.cells ≡ min (taken all) most = stands.owns.cells in
          let h = few in
          omega (arith, a, b, c, d, e, f, g, h)

    -- ---- each of them

    are_told : (ws vs : List Variable) (es : Told) → all ≡ ws ++ vs → Lie k source.types ws vs es → AreVariables t source.types n (celled vs) es
    are_told ws [] es e h = subst (λ (xs : Told). AreVariables t source.types n [] xs) (sym h) tt
    are_told ws (v ∷ vs) es e h = go (has_components v.ty) refl h.3 (are_told (ws ++ v ∷ []) vs h.1 (e ∙ sym (append_assoc ws (v ∷ []) vs)) h.4)
      where
        go : (b : Bool) → has_components v.ty ≡ b → LiesIf k b source.types ws v h.0 → AreVariables t source.types n (celled vs) h.1 → AreVariables t source.types n (if b then celled vs else v ∷ celled vs) es
        go true f none rest = subst (λ (xs : Told). AreVariables t source.types n (celled vs) xs) (sym (h.2 ∙ ap (λ (xs : Told). xs ++ h.1) none)) rest
        go false f lie rest =
            let one : IsVariable t source.types n v (legend.variable v.name (min (taken ws) most) lie.0) = record { name = refl; slot = slot_here v ws vs e f lie.1; shape = lie.3 } in
            subst (λ (xs : Told). AreVariables t source.types n (v ∷ celled vs) xs) (sym (h.2 ∙ ap (λ (xs : Told). xs ++ h.1) lie.2)) (one, rest)

    all_celled : celled all ≡ held
    all_celled = components_append false ps (celled m.variables) ∙ (ap (λ (us : List Variable). celled ps ++ us) (celled_twice m.variables) ∙ sym (components_append false ps m.variables))

    pub variables_told : AreVariables t source.types n held (permanents_of source n)
    variables_told = subst (λ (vs : List Variable). AreVariables t source.types n vs (permanents_of source n)) all_celled (are_told [] all (permanents_of source n) refl lies)

pub permanents_law : PermanentsLaw
permanents_law t y r l read ok is same named k le =
    let s : Source = source_seen y in
    let there : k < length s.systems + 1 = (let a = many t y r read ok is same in omega (arith, a, le)) in
    let found : variables_at (map legend.variables_seen l.permanents.items) k ≡ permanents_of s k =
    ap (λ (xs : List Told). variables_at xs k) named.permanents ∙ ap (λ (o : Option Told). unwrap_or o []) (each_there (permanents_of s) (length s.systems + 1) k there) in
    subst (λ (ts : Compounds). AreVariables t ts k ((layouts_of t).systems k).variables (variables_at (map legend.variables_seen l.permanents.items) k)) (sym named.shapes)
    (subst (λ (vs : Told). AreVariables t s.types k ((layouts_of t).systems k).variables vs) (sym found) (variables_told t y r read ok is same k le))
