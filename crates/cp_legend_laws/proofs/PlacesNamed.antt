-- The cells of a part of a variable are told under the name of the variable, with what leads to the part.
use Rattle.std.proofs.Common.{◌≡◌, ℕ, ◌+◌, ◌<◌, ◌≤◌, Bool, true, false, if◌then◌else◌, List, [], ◌∷◌, ◌++◌, length, Option, Some, None, slice_get, refl, sym, ap, ap₂, subst, ◌∙◌, ◌⊎◌, inl, inr, arith}
use Rattle.std.proofs.lemmas.Option.{slice_get_within}
use Rattle.std.specs.Prelude.{◌-◌}
use Rattle.cp_legend_laws.proofs.Words.{length-map, Compounds, Each, Name, Numbering, Tree, Variable}
use Rattle.cp_tree.specs.Read.{IsRead}
use Rattle.cp_slots.specs.Tables.{RoutineView, Tables, routine_at}
use Rattle.cp_symbols.specs.declared.symbols.Symbols as code_symbols
use Rattle.cp_symbols.specs.Kinds.{most}
use Rattle.cp_layout.specs.Laid.{plain, laid, whole}
use Rattle.cp_layout.specs.Symbols.{AreSymbolsOf}
use Rattle.cp_meaning_laws.specs.Accepted.{IsAccepted}
use Rattle.cp_legend.specs.declared.legend.Legend as code_legend
use Rattle.cp_legend.specs.Names as legend
use Rattle.cp_legend.specs.Names.{IsLegendOf, Named, RoutineNames, Source, legend_seen, source_seen}
use Rattle.cp_legend.specs.Places.{permanent_name_in, place_name, variables_at}
use Rattle.cp_meaning.specs.Declarations.{Parameter, RoutineMeaning}
use Rattle.cp_meaning.specs.Scopes.{local_variable, find}
use Rattle.cp_meaning.specs.Steps.{parameter_variables}
use Rattle.cp_meaning.specs.Systems.{SystemMeaning, program_system, system_of}
use Rattle.cp_meaning.specs.Types.{Ty, ordinal, queue_type, set_over, array_over, record_with, component_of}
use Rattle.cp_meaning.specs.Values.{Choice}
use Rattle.cp_resolved.specs.BodiesStand.{ground_of}
use Rattle.cp_resolved.specs.Encoded.{chosen_at}
use Rattle.cp_resolved.specs.Framed.{IsOrdinalResult, routine_variables, system_variables}
use Rattle.cp_resolved.specs.Layouts.{FrameLayout, cell_named, cells_of, look}
use Rattle.cp_resolved.specs.Openings.{Opening, meaning_at, numbering_of, openings_of}
use Rattle.cp_resolved.specs.Resolved.{FrameIs, ParametersAre, ParameterIs, ResultIs, SystemIs}
use Rattle.cp_resolved.specs.Standing.{IsFreeVariable, is_free, is_standing}
use Rattle.cp_resolved.specs.TreeLayouts.{layouts_of, parameters_by}
use Rattle.cp_resolved.proofs.Resolving.{resolving_law}
use Rattle.cp_resolved.proofs.agreeing.AgreeingWritten.{each_left, each_right}
use Rattle.cp_resolved.proofs.agreeing.ScopeVariables.{Among, among_all, among_right, look_among}
use Rattle.cp_resolved.proofs.counts.FewCells.{few_free}
use Rattle.cp_resolved.proofs.counts.FewCellsOfTables.{few_cells_law}
use Rattle.cp_resolved.proofs.declarations.FramedOfTrees.{accepted_framed}
use Rattle.cp_resolved.proofs.declarations.Plain.{plain_law}
use Rattle.cp_resolved.proofs.declarations.SystemVariables.{accepted_permanents}
use Rattle.cp_resolved.proofs.frames.EncodedCells.{HoldEarlier}
use Rattle.cp_resolved.proofs.frames.FrameCells.{each_both}
use Rattle.cp_resolved.proofs.frames.FrameKnown.{never_both}
use Rattle.cp_resolved.proofs.laid.EarlierTypes.{program_earlier}
use Rattle.cp_resolved.proofs.systems.SystemKnown.{found_among}
use Rattle.cp_legend_laws.specs.PlacesTold.{part_text}
use Rattle.cp_legend_laws.specs.Routines.{AreLocals, local_name, own_variables, result_variable, value_parameters}
use Rattle.cp_legend_laws.specs.Statements.{AreVariables, LocalIsNamed, PlacesLaw, RoutinesAreTold, routine_text}
use Rattle.cp_legend_laws.proofs.ChosenParts.{IsTellable, free_tellable, standing_tellable}
use Rattle.cp_legend_laws.proofs.LocalsNamed.{locals_law}
use Rattle.cp_legend_laws.proofs.NamedRoutines.{routines_law}
use Rattle.cp_legend_laws.proofs.PermanentsNamed.{permanents_law}
use Rattle.cp_legend_laws.proofs.TypesOfTree.{IsSound, sound_types}
use Rattle.cp_legend_laws.proofs.VariablesTold.{AreLaid, IsHeld, place_told}
use Rattle.cp_legend_laws.proofs.WrittenTypes.{RoutineHas, SystemHas, variables_have}

-- what holds of the types of some holds of that of each
among_each : (P : Ty → Type 0) (x : Name) (u : Ty) (vs : List Variable) → Each (λ (v : Variable). P v.ty) vs → Among x u vs → P u
among_each P x u [] h a = absurd a
among_each P x u (v ∷ vs) h (inl a) = subst P a.1 h.0
among_each P x u (v ∷ vs) h (inr a) = among_each P x u vs h.1 a

-- ---- of a tree

module _ (t : Tree) (y : code_symbols.Symbols) (r : Tables) (read : IsRead t.program) (ok : IsAccepted t) (is : AreSymbolsOf y (whole t)) (same : plain r ≡ laid t) where
  abbrev k : Numbering
  k = numbering_of t.program

  abbrev source : Source
  source = source_seen y

  abbrev ts : Compounds
  ts = source.types

  abbrev names : List Name
  names = source.constants

  earlier : HoldEarlier ts
  earlier = subst HoldEarlier (sym is.types) (program_earlier t.lines t.program)

  abbrev Sound : Ty → Type 0
  Sound u = IsSound names k.firsts u

  -- ---- permanent variables

  module _ (n : ℕ) (le : n ≤ program_system t.program) where
    abbrev m : SystemMeaning
    m = system_of t.program n

    abbrev held : List Variable
    held = ((layouts_of t).systems n).variables

    abbrev slots : Name → ℕ
    slots = ((layouts_of t).systems n).slots

    system : SystemIs (ground_of r t) t.program (layouts_of t) n
    system = (resolving_law t r read ok same).stands.systems n le

    few : (x : Name) (u : Ty) → look x held ≡ Some u → cells_of u ≤ most
    few x u e = let a = system.cells x u e in let b = (few_cells_law r t same read ok).own n in omega (arith, a, b)

    looks : (x : Name) (u : Ty) → Among x u held → look x held ≡ Some u
    looks x u h = found_among x u held (system_variables m) (accepted_permanents t ok n).different (λ w i. (among_all false x w (system_variables m) i).0) h

    each_held : (vs : List Variable) → ((x : Name) (u : Ty) → Among x u vs → Among x u held) → Each (IsHeld k ts names earlier slots (λ x. x) held) vs
    each_held [] h = tt
    each_held (v ∷ vs) h =
        let there : look v.name held ≡ Some v.ty = looks v.name v.ty (h v.name v.ty (inl (refl, refl))) in
        (record { there = there; few = few v.name v.ty there }, each_held vs (λ x u i. h x u (inr i)))

    tellable : (x : Name) (u : Ty) → look x held ≡ Some u → IsTellable names k.firsts u
    tellable x u e =
        let a = among_all false x u (system_variables m) (look_among x u held e) in
        let h : SystemHas Sound m = (sound_types t y is (plain_law t read ok) read).systems n in
        let sound : Each (λ (v : Variable). Sound v.ty) (system_variables m) = each_both (λ (v : Variable). Sound v.ty) (parameter_variables m.parameters) m.variables (variables_have Sound m.parameters h.parameters) h.variables in
        let standing : is_standing u ≡ true = among_each (λ (w : Ty). is_standing w ≡ true) x u (system_variables m) ((accepted_framed t read ok).standing n) a.0 in
        standing_tellable names k.firsts u (among_each Sound x u (system_variables m) sound a.0) standing a.1

    laid_are : (vs : List Variable) (ws : List legend.Variable) → AreVariables t ts n vs ws → AreLaid k ts names earlier slots (λ x. x) vs ws
    laid_are [] [] h = h
    laid_are [] (w ∷ ws) h = absurd h
    laid_are (v ∷ vs) [] h = absurd h
    laid_are (v ∷ vs) (w ∷ ws) h = (record { name = h.0.name; slot = h.0.slot; shape = h.0.shape }, laid_are vs ws h.1)

    pub permanent_told : (ws : List legend.Variable) → AreVariables t ts n held ws → (x : Name) (w : Ty) (cs : List Choice) (i : ℕ) (u : Ty) → look x held ≡ Some w → chosen_at w cs ≡ Some (i, u) → place_name names ts ws (slots x + i) (cells_of u) ≡ part_text x w cs
    permanent_told ws are x w cs i u found chosen =
        place_told k ts names earlier slots (λ x. x) held system.apart x w found (tellable x w found) cs i u chosen held ws (each_held held (λ z v j. j)) (laid_are held ws are) (look_among x w held found)

  -- ---- the variables of a routine

  module _ (n : ℕ) (below : n < length r.routines) where
    abbrev meant : RoutineMeaning
    meant = meaning_at t.program n

    abbrev frame : FrameLayout
    frame = (layouts_of t).frames n

    abbrev in_frame : List Variable
    in_frame = frame.variables

    frame_is : FrameIs frame (routine_at r n) meant
    frame_is = ((resolving_law t r read ok same).stands.routines n below).frame

    -- one of the frame, of which parts are told
    record IsOwn (v : Variable) : Type 0 where
      there : look v.name in_frame ≡ Some v.ty
      few : cells_of v.ty ≤ most
      tellable : IsTellable names k.firsts v.ty

    own_of : (v : Variable) → look v.name in_frame ≡ Some v.ty → is_free v.ty ≡ true → Sound v.ty → IsOwn v
    own_of v there free sound = record { there = there; few = (let a = few_free v.ty free in omega (arith, a)); tellable = free_tellable names k.firsts v.ty sound free }

    sound : RoutineHas Sound meant
    sound = (sound_types t y is (plain_law t read ok) read).routines n

    free : Each IsFreeVariable (routine_variables meant)
    free = (accepted_framed t read ok).free n

    parameters_own : (qs : List Parameter) → ParametersAre frame qs → Each IsFreeVariable (parameter_variables qs) → Each (λ (q : Parameter). Sound q.ty) qs → Each IsOwn (value_parameters qs)
    parameters_own [] h f s = tt
    parameters_own (q ∷ qs) h f s = go q.is_var h.0 (parameters_own qs h.1 f.1 s.1)
      where
        go : (b : Bool) → ParameterIs frame b q → Each IsOwn (value_parameters qs) → Each IsOwn (if b then value_parameters qs else (let v : Variable = record { name = q.name; ty = q.ty } in v) ∷ value_parameters qs)
        go true there rest = rest
        go false there rest = (own_of (record { name = q.name; ty = q.ty }) there f.0 s.0, rest)

    result_own : (o : Option Ty) → ResultIs frame (routine_at r n) o → IsOrdinalResult o → Each IsOwn (result_variable o)
    result_own None h i = tt
    result_own (Some (ordinal s)) h i = (record { there = h.0; few = omega arith; tellable = tt }, tt)
    result_own (Some queue_type) h i = absurd i
    result_own (Some (set_over s)) h i = absurd i
    result_own (Some (array_over s u)) h i = absurd i
    result_own (Some (record_with us)) h i = absurd i
    result_own (Some (component_of j)) h i = absurd i

    -- a local variable is none of the `var` parameters
    variable_there : (x : Name) (u : Ty) → Among x u meant.variables → find x meant.scope ≡ Some (local_variable u) → look x in_frame ≡ Some u
    variable_there x u a seen = go (frame_is.locals x u seen)
      where
        go : (look x in_frame ≡ Some u) ⊎ (look x frame.references ≡ Some u) → look x in_frame ≡ Some u
        go (inl there) = there
        go (inr there) =
            absurd (never_both x u u meant.parameters meant.variables ((accepted_framed t read ok).locals n).different (among_right x u (parameters_by false meant.parameters) meant.variables a) (look_among x u (parameters_by true meant.parameters) there))

    variables_own : (vs : List Variable) → ((x : Name) (u : Ty) → Among x u vs → Among x u meant.variables) → Each (λ (v : Variable). find v.name meant.scope ≡ Some (local_variable v.ty)) vs → Each IsFreeVariable vs → Each (λ (v : Variable). Sound v.ty) vs → Each IsOwn vs
    variables_own [] h seen f s = tt
    variables_own (v ∷ vs) h seen f s = (own_of v (variable_there v.name v.ty (h v.name v.ty (inl (refl, refl))) seen.0) f.0 s.0, variables_own vs (λ x u i. h x u (inr i)) seen.1 f.1 s.1)

    all_own : Each IsOwn (own_variables meant)
    all_own =
        let ps : List Variable = parameter_variables meant.parameters in
        each_both IsOwn (value_parameters meant.parameters) (result_variable meant.result ++ meant.variables) (parameters_own meant.parameters frame_is.parameters (each_left IsFreeVariable ps meant.variables free) sound.parameters)
        (each_both IsOwn (result_variable meant.result) meant.variables (result_own meant.result frame_is.result ((accepted_framed t read ok).result n))
        (variables_own meant.variables (λ x u a. a) (each_right (λ (v : Variable). find v.name meant.scope ≡ Some (local_variable v.ty)) ps meant.variables ((accepted_framed t read ok).locals n).visible) (each_right IsFreeVariable ps meant.variables free) sound.variables))

    abbrev AreHeld : (Name → Name) → List Variable → Type 0
    AreHeld text vs = Each (IsHeld k ts names earlier (cell_named frame) text in_frame) vs

    are_held : (text : Name → Name) (vs : List Variable) → Each IsOwn vs → AreHeld text vs
    are_held text [] h = tt
    are_held text (v ∷ vs) h = (record { there = h.0.there; few = h.0.few }, are_held text vs h.1)

    locals_laid : (own : Name) (vs : List Variable) (ws : List legend.Variable) → AreLocals t ts n own vs ws → AreLaid k ts names earlier (cell_named frame) (local_name own) vs ws
    locals_laid own [] [] h = h
    locals_laid own [] (w ∷ ws) h = absurd h
    locals_laid own (v ∷ vs) [] h = absurd h
    locals_laid own (v ∷ vs) (w ∷ ws) h = (record { name = h.0.name; slot = h.0.slot; shape = h.0.shape }, locals_laid own vs ws h.1)

    -- a part of one of them is told under its name
    abbrev IsTold : Name → List legend.Variable → Variable → Type 0
    IsTold own ws v = (cs : List Choice) (i : ℕ) (u : Ty) → chosen_at v.ty cs ≡ Some (i, u) → place_name names ts ws (cell_named frame v.name + i) (cells_of u) ≡ part_text (local_name own v.name) v.ty cs

    each_told : (own : Name) (ws : List legend.Variable) → AreLocals t ts n own (own_variables meant) ws → (vs : List Variable) → ((x : Name) (u : Ty) → Among x u vs → Among x u (own_variables meant)) → Each IsOwn vs → Each (IsTold own ws) vs
    each_told own ws are [] h all = tt
    each_told own ws are (v ∷ vs) h all = (
      λ cs i u e. place_told k ts names earlier (cell_named frame) (local_name own) in_frame frame_is.apart v.name v.ty all.0.there all.0.tellable cs i u e (own_variables meant) ws (are_held (local_name own) (own_variables meant) all_own) (locals_laid own (own_variables meant) ws are) (h v.name v.ty (inl (refl, refl))),
      each_told own ws are vs (λ x u a. h x u (inr a)) all.1,
    )

    pub locals_told : (own : Name) (ws : List legend.Variable) → AreLocals t ts n own (own_variables meant) ws → Each (IsTold own ws) (own_variables meant)
    locals_told own ws are = each_told own ws are (own_variables meant) (λ x u a. a) all_own

-- ---- the law

module _ (t : Tree) (y : code_symbols.Symbols) (r : Tables) (l : code_legend.Legend) (read : IsRead t.program) (ok : IsAccepted t) (is : AreSymbolsOf y (whole t)) (same : plain r ≡ laid t) (named : IsLegendOf l (source_seen y) r.components) where
  abbrev le : legend.Legend
  le = legend_seen l

  -- by the arrays, records and constants of the legend
  moved : (ws : List legend.Variable) (cell cells : ℕ) (xs : Name) → place_name (source_seen y).constants (source_seen y).types ws cell cells ≡ xs → place_name le.constants le.shapes ws cell cells ≡ xs
  moved ws cell cells xs h = ap₂ (λ (ns : List Name) (us : Compounds). place_name ns us ws cell cells) named.constants named.shapes ∙ h

  permanents_named : (c : Named) (x : Name) (w : Ty) (cs : List Choice) (i : ℕ) (u : Ty) → c.system ≤ program_system t.program → look x ((layouts_of t).systems c.system).variables ≡ Some w → chosen_at w cs ≡ Some (i, u) →
      permanent_name_in le.constants le.shapes le.permanents (Some c) (c.base + (((layouts_of t).systems c.system).slots x + i)) (cells_of u) ≡ part_text x w cs
  permanents_named c x w cs i u few found chosen =
      let ws : List legend.Variable = variables_at le.permanents c.system in
      let slot : ℕ = ((layouts_of t).systems c.system).slots x in
      let own : (c.base + (slot + i)) - c.base ≡ slot + i = omega arith in
      let are : AreVariables t (source_seen y).types c.system ((layouts_of t).systems c.system).variables ws = subst (λ (us : Compounds). AreVariables t us c.system ((layouts_of t).systems c.system).variables ws) named.shapes (permanents_law t y r l read ok is same named c.system few) in
      ap (λ (at : ℕ). place_name le.constants le.shapes ws at (cells_of u)) own
      ∙ moved ws (slot + i) (cells_of u) (part_text x w cs) (permanent_told t y r read ok is same c.system few ws are x w cs i u found chosen)

  -- how many routines there are
  count : length le.routines ≡ length r.routines
  count =
      let h = routines_law t y r l read ok is same named in
      let a = sym (length-map le.routines (λ (q : RoutineNames). q.name)) ∙ (ap (λ (xs : List Name). length xs) h.names ∙ length-map (openings_of t.program) routine_text) in
      let b = sym (length-map r.routines (λ (v : RoutineView). v.system)) ∙ (ap (λ (ns : List ℕ). length ns) h.tables ∙ length-map (openings_of t.program) (λ (o : Opening). o.owner)) in
      a ∙ sym b

  locals_moved : (n : ℕ) (q : RoutineNames) (vs : List Variable) → Each (λ (v : Variable). (cs : List Choice) (i : ℕ) (u : Ty) → chosen_at v.ty cs ≡ Some (i, u) → place_name (source_seen y).constants (source_seen y).types q.variables (cell_named ((layouts_of t).frames n) v.name + i) (cells_of u) ≡ part_text (local_name q.name v.name) v.ty cs) vs →
      Each (LocalIsNamed t le n q) vs
  locals_moved n q [] h = tt
  locals_moved n q (v ∷ vs) h = (λ cs i u e. moved q.variables (cell_named ((layouts_of t).frames n) v.name + i) (cells_of u) (part_text (local_name q.name v.name) v.ty cs) (h.0 cs i u e), locals_moved n q vs h.1)

  locals_named : RoutinesAreTold t le → (n : ℕ) (q : RoutineNames) → slice_get le.routines n ≡ Some q → Each (LocalIsNamed t le n q) (own_variables (meaning_at t.program n))
  locals_named told n q e =
      let below : n < length r.routines = (let a = slice_get_within le.routines n q e in let b = count in omega (arith, a, b)) in
      let are : AreLocals t (source_seen y).types n q.name (own_variables (meaning_at t.program n)) q.variables = subst (λ (us : Compounds). AreLocals t us n q.name (own_variables (meaning_at t.program n)) q.variables) named.shapes (told n q e).variables in
      locals_moved n q (own_variables (meaning_at t.program n)) (locals_told t y r read ok is same n below q.name q.variables are)

pub places_law : PlacesLaw
places_law t y r l read ok is same named =
    record {
      permanents = permanents_named t y r l read ok is same named;
      locals = locals_named t y r l read ok is same named (locals_law t y r l read ok is same named);
    }
