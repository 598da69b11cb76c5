-- What the walk that names components carries from a component to those inside it is told of each component by its path.
use Rattle.std.proofs.Common.{◌≡◌, ℕ, zero, suc, ◌+◌, ◌<◌, ◌≤◌, Bool, true, false, if◌then◌else◌, List, [], ◌∷◌, ◌++◌, length, map, Option, Some, None, slice_get, ◌==◌, refl, sym, ap, ap₂, subst, ◌∙◌, append_assoc, append-nil, arith, length-append}
use Rattle.std.proofs.lemmas.Grind.{flat_map-append}
use Rattle.std.specs.Prelude.{unwrap_or}
use Rattle.cp_legend_laws.proofs.Words.{eqb-false, eqb-true, length-map, map-append, flat_map, Program, Tree, Component, Name, Numbering, Variable, Each}
use Rattle.cp_tree.specs.Read.{IsRead}
use Rattle.cp_symbols.specs.declared.symbols.Symbols as code_symbols
use Rattle.cp_slots.specs.Tables.{Tables}
use Rattle.cp_layout.specs.Laid.{plain, laid, whole}
use Rattle.cp_layout.specs.Symbols.{AreSymbolsOf}
use Rattle.cp_meaning_laws.specs.Accepted.{IsAccepted}
use Rattle.cp_meaning_laws.proofs.Earlier.{TyBelow, VariablesBelow, systems_below}
use Rattle.cp_meaning.specs.Steps.{parameter_variables}
use Rattle.cp_meaning.specs.Types.{Ty, array_over, component_of, length_of_range}
use Rattle.cp_meaning.specs.Systems.{program_system, system_of}
use Rattle.cp_meaning.specs.Components as language
use Rattle.cp_meaning.specs.Components.{PathStep, Path, Listed, around, step_down, listed_elements, listed_variable, listed_variables, listed}
use Rattle.cp_meaning.proofs.ComponentTree.{around_step}
use Rattle.cp_resolved.specs.Declared.{IsVisible}
use Rattle.cp_resolved.proofs.frames.FrameCells.{each_both}
use Rattle.cp_resolved.proofs.declarations.Plain.{plain_law}
use Rattle.cp_resolved.proofs.declarations.SystemVariables.{accepted_own}
use Rattle.cp_legend.specs.declared.legend.Legend as code_legend
use Rattle.cp_legend.specs.Names.{IsLegendOf, Source, Part, Named, Naming, at_each, components_of, inside, legend_seen, monitor_of, named, named_below, next_by, parts_at, parts_by, parts_of, source_seen}
use Rattle.cp_legend_laws.specs.Called.{Called, Calling, called_at, called_parts}
use Rattle.cp_legend_laws.specs.Paths.{called_in_language, system_below, type_in_system}
use Rattle.cp_legend_laws.proofs.NamedPaths.{IsNamed, along_last, reached, text_of, variables_called}
use Rattle.cp_legend_laws.proofs.PartSystems.{systems_of}
use Rattle.cp_resolved.proofs.agreeing.AgreeingWritten.{each_right}
use Rattle.cp_legend_laws.proofs.PathsOfTree as tree
use Rattle.cp_legend_laws.proofs.Walking.{each_there}

-- ---- the components right inside one

abbrev one_listed : ℕ → Path → List Listed
one_listed j path = (let l : Listed = record { path = path; system = j } in l) ∷ []

-- those that its variables are, without what they contain
abbrev pub children : Path → List Variable → List Listed
children path vs = listed_variables one_listed path vs

-- what a step down by each variable has, they all have
module _ (P : Listed → Type 0) (path : Path) where
  abbrev pub HasBelow : Variable → Type 0
  HasBelow v = (o : Option ℕ) (j : ℕ) → P (record { path = step_down path v.name o; system = j })

  elements_have : (v : Variable) (j : ℕ) → HasBelow v → (count n : ℕ) → Each P (listed_elements (one_listed j) path v.name count n)
  elements_have v j h zero n = tt
  elements_have v j h (suc count) n = (h (Some n) j, elements_have v j h count (suc n))

  variable_has : (v : Variable) → HasBelow v → (t : Ty) → Each P (listed_variable one_listed path v.name t)
  variable_has v h (component_of j) = (h None j, tt)
  variable_has v h (array_over r (component_of j)) = elements_have v j h (length_of_range r) 0
  variable_has v h t = tt

  pub children_have : (vs : List Variable) → Each HasBelow vs → Each P (children path vs)
  children_have [] h = tt
  children_have (v ∷ vs) h = each_both P (listed_variable one_listed path v.name v.ty) (children path vs) (variable_has v h.0 v.ty) (children_have vs h.1)

module _ (inner : ℕ → Path → List Listed) where
  abbrev pub inside_each : List Listed → List Listed
  inside_each qs = flat_map (λ (q : Listed). inner q.system q.path) qs

  elements_each : (j : ℕ) (path : Path) (x : Name) (count n : ℕ) → listed_elements (inner j) path x count n ≡ inside_each (listed_elements (one_listed j) path x count n)
  elements_each j path x zero n = refl
  elements_each j path x (suc count) n = ap (λ (qs : List Listed). inner j (step_down path x (Some n)) ++ qs) (elements_each j path x count (suc n))

  variable_each : (path : Path) (x : Name) (t : Ty) → listed_variable inner path x t ≡ inside_each (listed_variable one_listed path x t)
  variable_each path x (component_of j) = sym (append-nil (inner j (step_down path x None)))
  variable_each path x (array_over r (component_of j)) = elements_each j path x (length_of_range r) 0
  variable_each path x t = refl

  variables_each : (path : Path) (vs : List Variable) → listed_variables inner path vs ≡ inside_each (children path vs)
  variables_each path [] = refl
  variables_each path (v ∷ vs) =
      ap₂ (λ us ws. us ++ ws) (variable_each path v.name v.ty) (variables_each path vs)
      ∙ sym (flat_map-append (λ (q : Listed). inner q.system q.path) (listed_variable one_listed path v.name v.ty) (children path vs))

-- ---- what is told of components by their paths

module _ (all : List Component) (told : Path → Option ℕ) where
  -- what is told of a component comes from what is told around it, by its kind in the tables
  pub record IsTold (i : ℕ) (q : Listed) : Type 0 where
    pub component : Component
    pub there : slice_get all i ≡ Some component
    pub same : told q.path ≡ monitor_of component.kind (told (around q.path))

  -- from a number on
  abbrev pub AreTold : ℕ → List Listed → Type 0
  AreTold i [] = Unit {0}
  AreTold i (q ∷ qs) = IsTold i q × AreTold (suc i) qs

  told_left : (i : ℕ) (qs us : List Listed) → AreTold i (qs ++ us) → AreTold i qs
  told_left i [] us e = tt
  told_left i (q ∷ qs) us e = (e.0, told_left (suc i) qs us e.1)

  told_right : (i : ℕ) (qs us : List Listed) → AreTold i (qs ++ us) → AreTold (i + length qs) us
  told_right i [] us e = subst (λ j. AreTold j us) (let z : i ≡ i + 0 = omega arith in z) e
  told_right i (q ∷ qs) us e = subst (λ j. AreTold j us) (let z : suc i + length qs ≡ i + suc (length qs) = omega arith in z) (told_right (suc i) qs us e.1)

abbrev monitors : List Named → List (Option ℕ)
monitors cs = map (λ (c : Named). c.monitor) cs

abbrev pub told_each : (Path → Option ℕ) → List Listed → List (Option ℕ)
told_each told qs = map (λ (q : Listed). told q.path) qs

many_after : (told : Path → Option ℕ) (cs ds : List Named) (qs : List Listed) → monitors ds ≡ monitors cs ++ told_each told qs → length ds ≡ length cs + length qs
many_after told cs ds qs e =
    let a = length-map ds (λ (c : Named). c.monitor) in
    let b = length-map cs (λ (c : Named). c.monitor) in
    let c = length-map qs (λ (q : Listed). told q.path) in
    let d = length-append (monitors cs) (told_each told qs) in
    let f = ap (λ (os : List (Option ℕ)). length os) e in
    omega (arith, a, b, c, d, f)

module _ (p : Program) where
  -- a component of one of the system types before n, right inside that of a path
  abbrev pub IsChild : Path → ℕ → Listed → Type 0
  IsChild path n q = (around q.path ≡ path) × (reached p q.path ≡ q.system) × (q.system < n)

  module _ (path : Path) (n : ℕ) (here : reached p path ≡ n) where
    is_child : (x : Name) (o : Option ℕ) (t : Ty) (j : ℕ) → type_in_system p n x ≡ t → system_below t ≡ j → j < n → IsChild path n (record { path = step_down path x o; system = j })
    is_child x o t j e is less =
        let s : PathStep = record { name = x; element = o } in
        (around_step path s, along_last p (program_system p) path s ∙ ap (λ k. system_below (type_in_system p k x)) here ∙ ap system_below e ∙ is, less)

    elements_are : (x : Name) (t : Ty) (j : ℕ) → type_in_system p n x ≡ t → system_below t ≡ j → j < n → (count i : ℕ) → Each (IsChild path n) (listed_elements (one_listed j) path x count i)
    elements_are x t j e is less zero i = tt
    elements_are x t j e is less (suc count) i = (is_child x (Some i) t j e is less, elements_are x t j e is less count (suc i))

    variable_is : (x : Name) (t : Ty) → type_in_system p n x ≡ t → TyBelow n t → Each (IsChild path n) (listed_variable one_listed path x t)
    variable_is x (component_of j) e low = (is_child x None (component_of j) j e refl low, tt)
    variable_is x (array_over r (component_of j)) e low = elements_are x (array_over r (component_of j)) j e refl low (length_of_range r) 0
    variable_is x t e low = tt

    pub children_are : (vs : List Variable) → Each (λ (v : Variable). type_in_system p n v.name ≡ v.ty) vs → VariablesBelow n vs → Each (IsChild path n) (children path vs)
    children_are [] e low = tt
    children_are (v ∷ vs) e low = each_both (IsChild path n) (listed_variable one_listed path v.name v.ty) (children path vs) (variable_is v.name v.ty e.0 low.0) (children_are vs e.1 low.1)

  -- what each component hands down to those right inside it, all that are listed have
  pub listed_each : (P : Listed → Type 0) → ((path : Path) (n : ℕ) → P (record { path = path; system = n }) → Each P (children path (system_of p n).variables)) → (depth n : ℕ) (path : Path) → P (record { path = path; system = n }) → Each P (listed p depth n path)
  listed_each P down zero n path h = tt
  listed_each P down (suc depth) n path h =
      (h, subst (Each P) (sym (variables_each (listed p depth) path (system_of p n).variables)) (each (children path (system_of p n).variables) (λ j way i. listed_each P down depth j way i) (down path n h)))
    where
      each : (qs : List Listed) → ((j : ℕ) (way : Path) → P (record { path = way; system = j }) → Each P (listed p depth j way)) → Each P qs → Each P (inside_each (listed p depth) qs)
      each [] more h = tt
      each (q ∷ qs) more h = each_both P (listed p depth q.system q.path) (inside_each (listed p depth) qs) (more q.system q.path h.0) (each qs more h.1)

  abbrev pub IsReached : Listed → Type 0
  IsReached q = reached p q.path ≡ q.system

  reached_children : (path : Path) (n : ℕ) (qs : List Listed) → Each (IsChild path n) qs → Each IsReached qs
  reached_children path n [] h = tt
  reached_children path n (q ∷ qs) h = (h.0.1, reached_children path n qs h.1)

  -- each component has the system type that its path leads to
  pub all_reached : ((n : ℕ) → Each (λ (v : Variable). type_in_system p n v.name ≡ v.ty) (system_of p n).variables) → Each IsReached (language.components_of p)
  all_reached types = listed_each IsReached (λ path n here. reached_children path n (children path (system_of p n).variables) (children_are path n here (system_of p n).variables (types n) (systems_below p n).1)) (suc (program_system p)) (program_system p) [] refl

  -- ---- the parts of a system type are of the system types of those components

  part_systems : (text : List ℕ) (ps : List Part) → map (λ (c : Called). c.system) (called_parts (λ j y. called_at y j ∷ []) text ps) ≡ systems_of ps
  part_systems text [] = refl
  part_systems text (q ∷ ps) = ap (λ (js : List ℕ). q.system ∷ js) (part_systems text ps)

  abbrev pub systems_in : List Listed → List ℕ
  systems_in qs = map (λ (q : Listed). q.system) qs

  language_systems : (qs : List Listed) → map (λ (c : Called). c.system) (map (called_in_language p) qs) ≡ systems_in qs
  language_systems [] = refl
  language_systems (q ∷ qs) = ap (λ (js : List ℕ). q.system ∷ js) (language_systems qs)

  module _ (s : Source) (k : Numbering) (h : IsNamed p s k) where
    parts_same : (n : ℕ) (path : Path) → n ≤ program_system p → reached p path ≡ n → systems_of (parts_of s n) ≡ systems_in (children path (system_of p n).variables)
    parts_same n path le here =
        let one : Calling = λ j y. called_at y j ∷ [] in
        sym (part_systems (text_of p path) (parts_of s n))
        ∙ ap (λ (ps : List Part). map (λ (c : Called). c.system) (called_parts one (text_of p path) ps)) (h.parts n le)
        ∙ ap (λ (cs : List Called). map (λ (c : Called). c.system) cs) (variables_called p s k n one_listed one (λ j less way is. refl) path here (system_of p n).variables (h.entries n) (h.match n le) (h.types n) (h.low n) (h.known n) (h.standing n))
        ∙ language_systems (children path (system_of p n).variables)

    -- ---- the walk

    module _ (all : List Component) (told : Path → Option ℕ) where
      -- what one component more adds, with those that it contains
      abbrev Adds : Naming → ℕ → Path → List Listed → Type 0
      Adds naming j path qs = (text : List ℕ) (outer : Option ℕ) (cs : List Named) → outer ≡ told (around path) → AreTold all told (length cs) qs → monitors (naming j text outer cs) ≡ monitors cs ++ told_each told qs

      parts_add : (naming : Naming) (inner : ℕ → Path → List Listed) (n : ℕ) (path : Path) → ((j : ℕ) → j < n → (way : Path) → reached p way ≡ j → Adds naming j way (inner j way)) →
          (ps : List Part) (qs : List Listed) → systems_of ps ≡ systems_in qs → Each (IsChild path n) qs → (text : List ℕ) (outer : Option ℕ) (cs : List Named) → outer ≡ told path → AreTold all told (length cs) (inside_each inner qs) → monitors (parts_by naming ps text outer cs) ≡ monitors cs ++ told_each told (inside_each inner qs)
      unfolding parts_by
      parts_add naming inner n path adds [] [] systems are text outer cs from e = sym (append-nil (monitors cs))
      parts_add naming inner n path adds [] (q ∷ qs) systems are text outer cs from e = absurd (let bad : [] ≡ q.system ∷ systems_in qs = systems in cc)
      parts_add naming inner n path adds (a ∷ ps) [] systems are text outer cs from e = absurd (let bad : a.system ∷ systems_of ps ≡ [] = systems in cc)
      parts_add naming inner n path adds (a ∷ ps) (q ∷ qs) systems are text outer cs from e =
          let same : a.system ≡ q.system = cc in
          let more : systems_of ps ≡ systems_in qs = cc in
          let mine : List Listed = inner q.system q.path in
          let others : List Listed = inside_each inner qs in
          let ds : List Named = naming a.system (inside text a.text) outer cs in
          let first : monitors ds ≡ monitors cs ++ told_each told mine =
          ap (λ j. monitors (naming j (inside text a.text) outer cs)) same
          ∙ adds q.system are.0.2 q.path are.0.1 (inside text a.text) outer cs (from ∙ ap told (sym are.0.0)) (told_left all told (length cs) mine others e) in
          let after : AreTold all told (length ds) others = subst (λ j. AreTold all told j others) (sym (many_after told cs ds mine first)) (told_right all told (length cs) mine others e) in
          parts_add naming inner n path adds ps qs more are.1 text outer ds from after
          ∙ ap (λ (os : List (Option ℕ)). os ++ told_each told others) first ∙ append_assoc (monitors cs) (told_each told mine) (told_each told others)
          ∙ ap (λ (os : List (Option ℕ)). monitors cs ++ os) (sym (map-append (λ (r : Listed). told r.path) mine others))

      module _ (parts : List (List Part)) (at : (n : ℕ) → n ≤ program_system p → parts_at parts n ≡ parts_of s n) where
        below_adds : (bound n depth : ℕ) → n < bound → n < depth → n ≤ program_system p → (path : Path) → reached p path ≡ n → Adds (named_below all parts bound) n path (listed p depth n path)
        unfolding named_below
        below_adds zero n depth lt deep le path here text outer cs from e = absurd (omega (arith, lt))
        below_adds (suc bound) n zero lt deep le path here text outer cs from e = absurd (omega (arith, deep))
        below_adds (suc bound) n (suc depth) lt deep le path here text outer cs from e = go (n == bound) refl (λ j less d lower low way is. below_adds bound j d less lower low way is)
          where
            Inner : Type 0
            Inner = (j : ℕ) → j < bound → (d : ℕ) → j < d → j ≤ program_system p → (way : Path) → reached p way ≡ j → Adds (named_below all parts bound) j way (listed p d j way)

            rest : List Listed
            rest = listed_variables (listed p depth) path (system_of p n).variables

            here_added : Inner → n ≡ bound → (o : Option Component) → slice_get all (length cs) ≡ o → (c : Component) → o ≡ Some c → told path ≡ monitor_of c.kind (told (around path)) → AreTold all told (suc (length cs)) rest →
                monitors (next_by (named_below all parts bound) o (parts_at parts bound) text outer cs) ≡ monitors cs ++ told path ∷ told_each told rest
            here_added inner same None f c g step more = absurd (cc)
            here_added inner same (Some d) f c g step more =
                let one : d ≡ c = cc in
                let own : told path ≡ monitor_of d.kind outer = step ∙ ap₂ (λ (x : Component) (o : Option ℕ). monitor_of x.kind o) (sym one) (sym from) in
                let mine : Named = named d text outer in
                let ds : List Named = cs ++ mine ∷ [] in
                let added : monitors ds ≡ monitors cs ++ told path ∷ [] = map-append (λ (x : Named). x.monitor) cs (mine ∷ []) ∙ ap (λ (o : Option ℕ). monitors cs ++ o ∷ []) (sym own) in
                let many : length ds ≡ suc (length cs) = (let a = length-append cs (mine ∷ []) in omega (arith, a)) in
                let kids : List Listed = children path (system_of p n).variables in
                let each : rest ≡ inside_each (listed p depth) kids = variables_each (listed p depth) path (system_of p n).variables in
                let systems : systems_of (parts_at parts bound) ≡ systems_in kids = ap systems_of (ap (parts_at parts) (sym same) ∙ at n le) ∙ parts_same n path le here in
                parts_add (named_below all parts bound) (listed p depth) n path (λ j less way is. inner j (omega (arith, less, same)) depth (omega (arith, less, deep)) (omega (arith, less, le)) way is) (parts_at parts bound) kids systems
                (children_are path n here (system_of p n).variables (h.types n) (systems_below p n).1) text (monitor_of d.kind outer) ds (sym own) (subst (AreTold all told (length ds)) each (subst (λ j. AreTold all told j rest) (sym many) more))
                ∙ ap (λ (qs : List Listed). monitors ds ++ told_each told qs) (sym each) ∙ ap (λ (os : List (Option ℕ)). os ++ told_each told rest) added ∙ append_assoc (monitors cs) (told path ∷ []) (told_each told rest)

            go : (b : Bool) → (n == bound) ≡ b → Inner →
                monitors (if b then next_by (named_below all parts bound) (slice_get all (length cs)) (parts_at parts bound) text outer cs else named_below all parts bound n text outer cs) ≡ monitors cs ++ told_each told (listed p (suc depth) n path)
            go true f inner = here_added inner (eqb-true n bound f) (slice_get all (length cs)) refl e.0.component e.0.there e.0.same e.1
            go false f inner = let other = eqb-false n bound f in inner n (omega (arith, lt, other)) (suc depth) deep le path here text outer cs from e

      pub all_told : told [] ≡ None → AreTold all told 0 (language.components_of p) → monitors (components_of s all) ≡ told_each told (language.components_of p)
      unfolding components_of
      all_told top e =
          let c = h.count in
          let parts : List (List Part) = at_each (parts_of s) (length s.systems + 1) in
          let at : (n : ℕ) → n ≤ program_system p → parts_at parts n ≡ parts_of s n = λ n le. ap (λ (q : Option (List Part)). unwrap_or q []) (each_there (parts_of s) (length s.systems + 1) n (omega (arith, c, le))) in
          ap (λ m. monitors (named_below all parts (length s.systems + 1) m [] None [])) c
          ∙ below_adds parts at (length s.systems + 1) (program_system p) (suc (program_system p)) (omega (arith, c)) (omega arith) (omega arith) [] refl [] None [] (sym top) e

-- of a legend beside the tables of a tree
pub legend_told : (t : Tree) (y : code_symbols.Symbols) (r : Tables) (l : code_legend.Legend) → IsRead t.program → IsAccepted t → AreSymbolsOf y (whole t) → plain r ≡ laid t → IsLegendOf l (source_seen y) r.components → (told : Path → Option ℕ) → told [] ≡ None →
    AreTold r.components told 0 (language.components_of t.program) → map (λ (c : Named). c.monitor) (legend_seen l).components ≡ map (λ (q : Listed). told q.path) (language.components_of t.program)
legend_told t y r l read accepted is tables seen told top e =
    let h = tree.named t y is (plain_law t read accepted) (accepted_own t read accepted) read in
    ap (λ (cs : List Named). map (λ (c : Named). c.monitor) cs) seen.components ∙ all_told t.program (source_seen y) _ h r.components told top e

-- each name of a component variable stands for it
pub types_visible : (t : Tree) → IsRead t.program → IsAccepted t → (n : ℕ) → Each (λ (v : Variable). type_in_system t.program n v.name ≡ v.ty) (system_of t.program n).variables
types_visible t read accepted n =
    tree.visible_types t.program n (system_of t.program n).variables (each_right (IsVisible (system_of t.program n)) (parameter_variables (system_of t.program n).parameters) (system_of t.program n).variables ((accepted_own t read accepted).visible n))
