-- The variables of monitors that a story tells as changed, by cells, are those that changed by the meaning.
use Rattle.std.proofs.Common.{inl, inr, ◌≡◌, ◌∙◌, ℕ, zero, suc, ◌+◌, ◌<◌, ◌≤◌, ◌&&◌, Bool, true, false, not, if◌then◌else◌, List, [], ◌∷◌, ◌++◌, Option, Some, None, ap, ap₂, refl, sym, subst, arith, length, map, drop}
use Rattle.std.proofs.lemmas.List.{length-map}
use Rattle.std.proofs.lemmas.Option.{none-some, same_Some, slice_get_within}
use Rattle.std.proofs.Math.Seq.{drop-append_seam}
use Rattle.std.specs.List.{range_with_len}
use Rattle.std.specs.Prelude.{ℤ, pos, flat_map, option_map, slice_get, slice_index_or}
use Rattle.cp_tree.specs.declared.declaration.SystemKind.{SystemKind}
use Rattle.cp_tree.specs.declared.declaration.SystemKind.TheVariants as system_kind
use Rattle.cp_tree.specs.Read.{IsRead}
use Rattle.cp_tree.specs.Syntax.{Program, Tree}
use Rattle.cp_layout.specs.Laid.{plain, laid, whole}
use Rattle.cp_layout.specs.Symbols.{AreSymbolsOf}
use Rattle.cp_meaning_laws.specs.Accepted.{IsAccepted}
use Rattle.cp_meaning_laws.proofs.Accepting.{well_formed}
use Rattle.cp_slots.specs.declared.tables.Component as table
use Rattle.cp_slots.specs.declared.tables.ComponentKind.{ComponentKind}
use Rattle.cp_slots.specs.declared.tables.ComponentKind.TheVariants as kind
use Rattle.cp_slots.specs.Tables.{Tables, component_at, no_component}
use Rattle.cp_symbols.specs.declared.symbols.Symbols as code_symbols
use Rattle.cp_symbols.specs.declared.kinds.CellType.{CellType}
use Rattle.cp_symbols.specs.Kinds as kinds
use Rattle.cp_symbols.specs.Kinds.{Compounds}
use Rattle.cp_legend.specs.declared.legend.Legend as code_legend
use Rattle.cp_legend.specs.Names as legend
use Rattle.cp_legend.specs.Names.{IsLegendOf, Legend, Named, inside, legend_seen, monitor_in, path_in, source_seen}
use Rattle.cp_legend.specs.Places.{variables_at}
use Rattle.cp_legend.specs.Values as values
use Rattle.cp_legend_laws.specs.Called.{Called, called_in_legend, tabled}
use Rattle.cp_legend_laws.specs.Paths.{called_in_language, path_text, text_below}
use Rattle.cp_legend_laws.specs.Statements.{AreVariables, IsVariable, PermanentsAre, ValuesAreTold}
use Rattle.cp_legend_laws.specs.ValuesTold.{value_told}
use Rattle.cp_legend_laws.proofs.MonitorsAround.{IsReached, all_reached, types_visible}
use Rattle.cp_legend_laws.proofs.NamedPaths.{reached}
use Rattle.cp_resolved.proofs.agreeing.AgreeingWritten.{each_right}
use Rattle.cp_machine.specs.declared.discipline.Discipline as slot_gates
use Rattle.cp_machine.specs.Machine.{Machine}
use Rattle.cp_meaning.specs.Components.{Listed, Path, components_of}
use Rattle.cp_meaning.specs.Declarations.{Variable}
use Rattle.cp_meaning.specs.Names.{Name}
use Rattle.cp_meaning.specs.Places.{component_with}
use Rattle.cp_meaning.specs.State as meaning
use Rattle.cp_meaning.specs.State.{Component, Discipline, State}
use Rattle.cp_meaning.specs.Steps.{first_component, first_components}
use Rattle.cp_meaning.specs.Systems.{program_system, system_of}
use Rattle.cp_meaning.specs.Types.{Ty, array_over, record_with, has_components}
use Rattle.cp_meaning.proofs.ComponentTree.{SameTree}
use Rattle.cp_resolved.specs.Encoded.{encode}
use Rattle.cp_resolved.specs.Framed.{system_variables}
use Rattle.cp_resolved.specs.InStep.{Numbering, TypeIs}
use Rattle.cp_resolved.specs.Layouts.{cells_of, look}
use Rattle.cp_resolved.specs.Openings.{numbering_of}
use Rattle.cp_resolved.specs.Resolved.{KindIs, Stands, StandsAt}
use Rattle.cp_resolved.specs.Small.{Each}
use Rattle.cp_resolved.specs.Standing.{IsStandingVariable}
use Rattle.cp_resolved.specs.TreeLayouts.{components_among, layouts_of}
use Rattle.cp_resolved.proofs.agreeing.ScopeVariables.{Among, among_all}
use Rattle.cp_resolved.proofs.components.ComponentsStand.{map_there}
use Rattle.cp_resolved.proofs.components.Contained.{found_by_path}
use Rattle.cp_resolved.proofs.components.ListedSystems.{systems_within}
use Rattle.cp_resolved.proofs.declarations.SystemVariables.{accepted_permanents, accepted_standing}
use Rattle.cp_resolved.proofs.frames.Cells as cells
use Rattle.cp_resolved.proofs.names.Entries.{entry_at, there}
use Rattle.cp_resolved.proofs.systems.SystemKnown.{found_among}
use Rattle.cp_machine_laws.specs.Law.{ground_of}
use Rattle.cp_machine_laws.specs.Named.{named_discipline}
use Rattle.cp_machine_laws.specs.Prepared.{Prepared}
use Rattle.cp_machine_laws.specs.Represents.{LiesAt}
use Rattle.cp_machine_laws.proofs.expressions.Parts.{encode_length}
use Rattle.cp_store.specs.declared.memory.Address.TheVariants.{Permanent}
use Rattle.cp_story.specs.Changes as story
use Rattle.cp_story.specs.Changes.{Changed, name_in, place}
use Rattle.cp_story_laws.specs.Changes as changes
use Rattle.cp_story_laws.specs.Changes.{changes_told, is_queues, monitor_around, monitor_with, name_inside, value_there}
use Rattle.cp_story_laws.specs.MonitorNumbers.{monitor_of}
use Rattle.cp_story_laws.specs.SameValues.{same_value}
use Rattle.cp_story_laws.proofs.changes.CellsHeld.{CellsHold, Held, held as held_by, permanent_memory}
use Rattle.cp_story_laws.proofs.Entered.{number_is}
use Rattle.cp_story_laws.proofs.changes.MonitorsTold.{IsAround, MonitorsAreTold, is_around, monitors_told, number_told, program_first, same_around}
use Rattle.cp_story_laws.proofs.changes.NamesInside.{IsSome, name_between}
use Rattle.cp_story_laws.proofs.changes.NamesSpelled.{paths_named}
use Rattle.cp_story_laws.proofs.Paths.{monitor_path}
use Rattle.cp_story_laws.proofs.changes.SameCells.{cells_same}
use Rattle.cp_story_laws.proofs.Together as together

-- ---- lists

-- what comes of each of a list, by its number
flat_range : {A B : Type 0} (f : A → List B) (h : ℕ → List B) (xs : List A) (k : ℕ) → ((i : ℕ) (x : A) → slice_get xs i ≡ Some x → f x ≡ h (k + i)) → flat_map f xs ≡ flat_map h (range_with_len k (length xs))
flat_range f h [] k e = refl
flat_range f h (x ∷ xs) k e =
    let first : f x ≡ h k = e 0 x refl ∙ (let z : k + 0 ≡ k = omega arith in ap h z) in
    let more = flat_range f h xs (k + 1) (λ i y d. e (suc i) y d ∙ (let z : k + suc i ≡ k + 1 + i = omega arith in ap h z)) in
    ap₂ (λ us ws. us ++ ws) first more

each_at : {A : Type 0} (P : A → Type 0) (xs : List A) (n : ℕ) (x : A) → Each P xs → slice_get xs n ≡ Some x → P x
each_at P [] n x h e = absurd (none-some x e)
each_at P (y ∷ xs) zero x h e = subst P (same_Some y x e) h.0
each_at P (y ∷ xs) (suc n) x h e = each_at P xs n x h.1 e

-- each of those without components is one of all
held_each : (P : Variable → Type 0) (vs : List Variable) → Each P vs → Each P (components_among false vs)
held_each P [] h = tt
held_each P (v ∷ vs) h = go (has_components v.ty) (held_each P vs h.1)
  where
    go : (b : Bool) → Each P (components_among false vs) → Each P (if b then components_among false vs else v ∷ components_among false vs)
    go true rest = rest
    go false rest = (h.0, rest)

-- each is found by its name
found_each : (held vs : List Variable) → ((x : Name) (u : Ty) → Among x u vs → look x held ≡ Some u) → Each (λ (v : Variable). look v.name held ≡ Some v.ty) vs
found_each held [] h = tt
found_each held (v ∷ vs) h = (h v.name v.ty (inl (refl, refl)), found_each held vs (λ x u i. h x u (inr i)))

-- ---- queues

queues_same : (k : Numbering) (ts : Compounds) (u : Ty) (shape : CellType) → TypeIs k ts u shape → values.is_queues ts shape ≡ is_queues u
queues_same k ts (array_over r u) shape h = ap (values.is_queues ts) h.is ∙ ap (λ o. values.has_queues (values.as_array o)) h.there ∙ element u h.element h.belongs
  where
    element : (u : Ty) (shape : CellType) → TypeIs k ts u shape → values.is_queue shape ≡ is_queues (array_over r u)
    element (array_over q u) shape h = ap values.is_queue h.is
    element (record_with us) shape h = ap values.is_queue h.is
    element u shape h = ap values.is_queue h
queues_same k ts (record_with us) shape h = ap (values.is_queues ts) h.is
queues_same k ts u shape h = ap (values.is_queues ts) h

told_not : (a b : Bool) → (a && not true) ≡ (b && not true)
told_not true true = refl
told_not true false = refl
told_not false true = refl
told_not false false = refl

module _ (t : Tree) (r : Tables) (g : Discipline) (l : Legend) (read : IsRead t.program) (ok : IsAccepted t) (prepared : Prepared t r (layouts_of t)) (tables : map tabled l.components ≡ r.components)
    (paths : map called_in_legend l.components ≡ map (called_in_language t.program) (components_of t.program)) (permanents : PermanentsAre t l) (told : ValuesAreTold t l) (monitors : MonitorsAreTold t g l) where
  abbrev p : Program
  p = t.program

  abbrev first : List Component
  first = first_components t.program

  stands : Stands (ground_of t r) t (layouts_of t)
  stands = prepared.stands

  -- ---- a component, by its number

  module _ (n : ℕ) (y : Listed) (e : slice_get (components_of t.program) n ≡ Some y) where
    first_is : meaning.component_at first n ≡ first_component p y
    first_is = entry_at first n meaning.no_component (first_component p y) (map_there (first_component p) (components_of p) n y e)

    has_reached : reached p y.path ≡ y.system
    has_reached = each_at (IsReached p) (components_of p) n y (all_reached p (types_visible t read ok)) e

    is_named : Each IsSome y.path
    is_named = each_at (λ (q : Listed). Each IsSome q.path) (components_of p) n y (paths_named p read) e

    there_in_tables : n < length r.components
    there_in_tables = let a = slice_get_within (components_of p) n y e in let b = length-map (components_of p) (first_component p) in let c = stands.count in omega (arith, a, b, c)

  -- ---- names

  -- a monitor is not the program
  below_program : (m : ℕ) (z : Listed) → slice_get (components_of t.program) m ≡ Some z → (meaning.component_at first m).kind ≡ system_kind.Monitor → z.path ≡ [] → ⊥
  below_program m z e monitor none =
      let number : component_with [] first ≡ m = ap (λ (q : Path). component_with q first) (sym none) ∙ found_by_path p (well_formed t ok).paths m z e in
      let bad : system_kind.Process ≡ system_kind.Monitor = sym (program_first t g r (layouts_of t) read ok stands) ∙ ap (λ (i : ℕ). (meaning.component_at first i).kind) number ∙ monitor in
      absurd cc

  from_monitor : (way more : Path) (x : Name) → (way ≡ [] → ⊥) → Each IsSome (way ++ more) → name_in (path_text p way) (path_text p (way ++ more)) x ≡ inside (text_below p (reached p way) [] more) x
  from_monitor [] more x some h = absurd (some refl)
  from_monitor (s ∷ way) more x some h = name_between p s way more x h.0 (each_right IsSome way more h.1)

  numbered : (m : ℕ) (a : SystemKind) (c : ComponentKind) → KindIs r p m a c → a ≡ system_kind.Monitor → (j : ℕ) × (c ≡ kind.Monitor j)
  numbered m system_kind.Monitor (kind.Monitor j) h e = (j, refl)
  numbered m system_kind.Monitor c h e = absurd h
  numbered m a c h e = absurd (cc)

  -- the path of the monitor of a number
  module _ (m : ℕ) (z : Listed) (e : slice_get (components_of t.program) m ≡ Some z) (monitor : (meaning.component_at first m).kind ≡ system_kind.Monitor) where
    monitor_called : path_in (monitor_in l.components (monitor_of p g m)) ≡ path_text p z.path
    monitor_called =
        let j = numbered m (meaning.component_at first m).kind (component_at r m).kind (stands.components m (there_in_tables m z e)).kind monitor in
        ap (λ (i : ℕ). path_in (monitor_in l.components i)) (number_is t r (layouts_of t) stands m j.0 j.1 g)
        ∙ monitor_path t r (layouts_of t) stands prepared.sound.typed l.components tables paths m j.0 j.1
        ∙ ap (λ (c : Component). path_text p c.path) (first_is m z e)

  module _ (ns : List Component) (same : SameTree first ns) (n : ℕ) (y : Listed) (e : slice_get (components_of t.program) n ≡ Some y) (m : ℕ) (in_it : IsAround first y.path m) where
    name_by : (z : Listed) → slice_get (components_of t.program) m ≡ Some z → (x : Name) → name_in (path_in (monitor_in l.components (monitor_of p g m))) (path_text p y.path) x ≡ name_inside p ns m n x
    name_by z f x =
        let monitor : meaning.component_at first m ≡ first_component p z = first_is m z f in
        let whole : y.path ≡ z.path ++ in_it.more = in_it.whole ∙ ap (λ (c : Component). c.path ++ in_it.more) monitor in
        let own : (meaning.component_at ns m).path ≡ z.path = same.path m ∙ ap (λ (c : Component). c.path) monitor in
        let system : (meaning.component_at ns m).system ≡ reached p z.path = same.system m ∙ ap (λ (c : Component). c.system) monitor ∙ sym (has_reached m z f) in
        let path : (meaning.component_at ns n).path ≡ z.path ++ in_it.more = same.path n ∙ ap (λ (c : Component). c.path) (first_is n y e) ∙ whole in
        let steps : Each IsSome (z.path ++ in_it.more) = subst (Each IsSome) whole (is_named n y e) in
        ap₂ (λ (a b : List ℕ). name_in a b x) (monitor_called m z f in_it.monitor) (ap (path_text p) whole) ∙ from_monitor z.path in_it.more x (below_program m z f in_it.monitor) steps
        ∙ ap (λ (way : Path). inside (text_below p (reached p z.path) [] way) x) (sym (drop-append_seam z.path in_it.more))
        ∙ ap₂ (λ (a b : Path). inside (text_below p (reached p z.path) [] (drop (length a) b)) x) (sym own) (sym path)
        ∙ ap (λ (k : ℕ). inside (text_below p k [] (drop (length (meaning.component_at ns m).path) (meaning.component_at ns n).path)) x) (sym system)

    name_same : (x : Name) → name_in (path_in (monitor_in l.components (monitor_of p g m))) (path_text p y.path) x ≡ name_inside p ns m n x
    name_same x =
        let many = length-map (components_of p) (first_component p) in
        let z = there (components_of p) m (let a = in_it.there in omega (arith, a, many)) in
        name_by z.0 z.1 x

  -- ---- the variables of a component

  module _ (n : ℕ) (c : Named) (at : slice_get l.components n ≡ Some c) (y : Listed) (e : slice_get (components_of t.program) n ≡ Some y) where
    is : component_at r n ≡ tabled c
    is = entry_at r.components n no_component (tabled c) (ap (λ (cs : List table.Component). slice_get cs n) (sym tables) ∙ map_there tabled l.components n c at)

    system : (component_at r n).system ≡ c.system
    system = ap (λ (d : table.Component). d.system) is

    base : (component_at r n).base ≡ c.base
    base = ap (λ (d : table.Component). d.base) is

    called : called_in_legend c ≡ called_in_language p y
    called = same_Some (called_in_legend c) (called_in_language p y) (sym (map_there called_in_legend l.components n c at) ∙ ap (λ (cs : List Called). slice_get cs n) paths ∙ map_there (called_in_language p) (components_of p) n y e)

    there_here : n < length r.components
    there_here = there_in_tables n y e

    low : c.system ≤ program_system p
    low = let a = systems_within t r stands n there_here in let b = system in omega (arith, a, b)

    module _ (v : Variable) (w : legend.Variable) (found : look v.name ((layouts_of t).systems c.system).variables ≡ Some v.ty) (standing : IsStandingVariable v) (known : IsVariable t l.shapes c.system v w) where
      lies : (cs : List Component) (now : List ℤ) → CellsHold t r cs now → LiesAt (permanent_memory now) v.ty (value_there cs n v.name) (Permanent ((component_at r n).base + ((layouts_of t).systems (component_at r n).system).slots v.name))
      lies cs now h = h.lies n v.name v.ty there_here (ap (λ (k : ℕ). look v.name ((layouts_of t).systems k).variables) system ∙ found)

      slot : ((layouts_of t).systems (component_at r n).system).slots v.name ≡ w.slot
      slot = ap (λ (k : ℕ). ((layouts_of t).systems k).slots v.name) system ∙ sym known.slot

      place_is : (cs : List Component) (now : List ℤ) → CellsHold t r cs now → (component_at r n).base + ((layouts_of t).systems (component_at r n).system).slots v.name ≡ place c w
      place_is cs now h =
          let inside = (lies cs now h).cells in
          let a = base in
          let b = h.few in
          let d = slot in
          omega (arith, a, b, d, inside)

      stands_here : (cs : List Component) (now : List ℤ) → CellsHold t r cs now → StandsAt now (place c w) (encode (value_there cs n v.name))
      stands_here cs now h =
          let it = lies cs now h in
          let from = place_is cs now h in
          let many : length (encode (value_there cs n v.name)) ≡ _ = encode_length v.ty (value_there cs n v.name) it.typed in
          let inside = it.cells in
          record { inside = omega (arith, many, inside, from); same = λ k less. ap (λ (i : ℕ). slice_index_or now (i + k) (pos 0)) (sym from) ∙ it.block k less }

      end_is : (cs : List Component) (now : List ℤ) → CellsHold t r cs now → story.end_of l.shapes c w ≡ place c w + cells_of v.ty
      end_is cs now h =
          let it = lies cs now h in
          let inside = it.cells in
          let from = place_is cs now h in
          let few = h.few in
          let count : kinds.cells_of l.shapes w.shape ≡ cells_of v.ty = cells.cells_same (numbering_of p) l.shapes v.ty w.shape known.shape (omega (arith, inside, few)) in
          ap (kinds.plus (place c w)) count ∙ (let z : kinds.plus (place c w) (cells_of v.ty) ≡ place c w + cells_of v.ty = omega (arith, inside, from, few) in z)

      module _ (bs ns : List Component) (before now : List ℤ) (hb : CellsHold t r bs before) (hn : CellsHold t r ns now) where
        changed_same : story.has_changed l before now c w ≡ changes.has_changed bs ns n v
        changed_same = ap (λ (b : Bool). not (story.are_same before now (place c w) (story.end_of l.shapes c w)) && not b) (queues_same (numbering_of p) l.shapes v.ty w.shape known.shape) ∙ go (is_queues v.ty) refl
          where
            go : (b : Bool) → is_queues v.ty ≡ b → (not (story.are_same before now (place c w) (story.end_of l.shapes c w)) && not b) ≡ (not (same_value (value_there bs n v.name) (value_there ns n v.name)) && not b)
            go true f = told_not (not (story.are_same before now (place c w) (story.end_of l.shapes c w))) (not (same_value (value_there bs n v.name) (value_there ns n v.name)))
            go false f =
                ap (λ (b : Bool). not b && true)
                (cells_same before now (place c w) (story.end_of l.shapes c w) v.ty standing f (value_there bs n v.name) (value_there ns n v.name) (lies bs before hb).typed (lies ns now hn).typed (end_is ns now hn) (stands_here bs before hb) (stands_here ns now hn))

        value_same : values.value_of l.constants l.shapes now w.shape (place c w) ≡ value_told v.ty (value_there ns n v.name)
        value_same =
            let few = hn.few in
            told.permanents c.system v.name v.ty low found w.shape (value_there ns n v.name) now (place c w) known.shape (lies ns now hn).typed (stands_here ns now hn) (omega (arith, few))

        module _ (same : SameTree first ns) (m : ℕ) (in_it : IsAround first y.path m) where
          change_same : story.change_of l before now c (monitor_of p g m) w ≡ changes.change_of p g bs ns n m v
          change_same =
              let name : story.name_of l c (monitor_of p g m) w ≡ name_inside p ns m n v.name =
              ap₂ (λ (a b : List ℕ). name_in (path_in (monitor_in l.components (monitor_of p g m))) a b) (ap (λ (d : Called). d.path) called) known.name ∙ name_same ns same n y e m in_it v.name in
              ap (λ (b : Bool). if b then story.changed l now c (monitor_of p g m) w ∷ [] else []) changed_same
              ∙ ap₂ (λ (a : List ℕ) (u : values.Value). if changes.has_changed bs ns n v then (let d : Changed = record { monitor = monitor_of p g m; name = a; value = u } in d) ∷ [] else []) name value_same

    -- ---- all of them

    module _ (bs ns : List Component) (before now : List ℤ) (hb : Held t r bs before) (hn : Held t r ns now) where
      abbrev held : List Variable
      held = ((layouts_of t).systems c.system).variables

      each_same : (m : ℕ) → IsAround first y.path m → (vs : List Variable) (ws : List legend.Variable) → Each (λ (v : Variable). look v.name held ≡ Some v.ty) vs → Each IsStandingVariable vs → AreVariables t l.shapes c.system vs ws →
          flat_map (story.change_of l before now c (monitor_of p g m)) ws ≡ flat_map (changes.change_of p g bs ns n m) vs
      each_same m in_it [] [] f s h = refl
      each_same m in_it (v ∷ vs) (w ∷ ws) f s h = ap₂ (λ us is. us ++ is) (change_same v w f.0 s.0 h.0 bs ns before now hb.values hn.values hn.tree m in_it) (each_same m in_it vs ws f.1 s.1 h.1)
      each_same m in_it [] (w ∷ ws) f s h = absurd h
      each_same m in_it (v ∷ vs) [] f s h = absurd h

      finds : Each (λ (v : Variable). look v.name held ≡ Some v.ty) held
      finds = found_each held held (λ x u h. found_among x u held (system_variables (system_of p c.system)) (accepted_permanents t ok c.system).different (λ w i. (among_all false x w (system_variables (system_of p c.system)) i).0) h)

      stand : Each IsStandingVariable held
      stand = held_each IsStandingVariable (system_variables (system_of p c.system)) (accepted_standing t read ok c.system)

      own_system : (meaning.component_at ns n).system ≡ c.system
      own_system = hn.tree.system n ∙ ap (λ (d : Component). d.system) (first_is n y e) ∙ sym (ap (λ (d : Called). d.system) called)

      around_it : monitor_with ns n ≡ monitor_around first (suc (length y.path)) y.path
      around_it =
          let path : (meaning.component_at ns n).path ≡ y.path = hn.tree.path n ∙ ap (λ (d : Component). d.path) (first_is n y e) in
          ap (λ (way : Path). monitor_around ns (suc (length way)) way) path ∙ same_around first ns hn.tree (suc (length y.path)) y.path

      told_around : c.monitor ≡ number_told t g y.path
      told_around =
          same_Some c.monitor (number_told t g y.path)
          (sym (map_there (λ (d : Named). d.monitor) l.components n c at) ∙ ap (λ (os : List (Option ℕ)). slice_get os n) monitors ∙ map_there (λ (q : Listed). number_told t g q.path) (components_of p) n y e)

      inside_same : (o : Option ℕ) → monitor_around first (suc (length y.path)) y.path ≡ o → story.changes_inside l before now c (option_map (monitor_of p g) o) ≡ changes.changes_inside p g bs ns n o
      inside_same None f = refl
      inside_same (Some m) f =
          each_same m (is_around first (suc (length y.path)) y.path m f) held (variables_at l.permanents c.system) finds stand (permanents c.system low)
          ∙ ap (λ (k : ℕ). flat_map (changes.change_of p g bs ns n m) ((layouts_of t).systems k).variables) (sym own_system)

      component_same : story.changes_of l before now c ≡ changes.changes_inside p g bs ns n (monitor_with ns n)
      component_same = ap (story.changes_inside l before now c) told_around ∙ inside_same (monitor_around first (suc (length y.path)) y.path) refl ∙ ap (changes.changes_inside p g bs ns n) (sym around_it)

  -- the cells have changed as the values
  pub changes_same : (bs ns : List Component) (before now : List ℤ) → Held t r bs before → Held t r ns now → story.changes_in l before now ≡ changes_told t.program g bs ns
  changes_same bs ns before now hb hn =
      let many : length l.components ≡ length (components_of p) = sym (length-map l.components called_in_legend) ∙ ap (λ (cs : List Called). length cs) paths ∙ length-map (components_of p) (called_in_language p) in
      let count : length l.components ≡ length ns = many ∙ sym (length-map (components_of p) (first_component p)) ∙ sym hn.tree.size in
      flat_range (story.changes_of l before now) (λ n. changes.changes_inside p g bs ns n (monitor_with ns n)) l.components 0
      (λ i c at. (let y = there (components_of p) i (let a = slice_get_within l.components i c at in omega (arith, a, many)) in
      component_same i c at y.0 y.1 bs ns before now hb hn ∙ (let z : i ≡ 0 + i = omega arith in ap (λ (n : ℕ). changes.changes_inside p g bs ns n (monitor_with ns n)) z)))
      ∙ ap (λ (n : ℕ). flat_map (λ i. changes.changes_inside p g bs ns i (monitor_with ns i)) (range_with_len 0 n)) count

-- between any two states of runs
module _ (t : Tree) (r : Tables) (g : slot_gates.Discipline) (l : Legend) (read : IsRead t.program) (ok : IsAccepted t) (same : plain r ≡ laid t) (tables : map tabled l.components ≡ r.components)
    (paths : map called_in_legend l.components ≡ map (called_in_language t.program) (components_of t.program)) (permanents : PermanentsAre t l) (told : ValuesAreTold t l) (monitors : MonitorsAreTold t (named_discipline g) l) where
  abbrev Related : State → Machine → Type 0
  Related = together.Related t r g read ok same

  pub held_same : (bs ns : List Component) (before now : List ℤ) → Held t r bs before → Held t r ns now → story.changes_in l before now ≡ changes_told t.program (named_discipline g) bs ns
  held_same = changes_same t r (named_discipline g) l read ok (together.prepared t r g read ok same) tables paths permanents told monitors

  pub related_same : (s u : State) (m n : Machine) → Related s m → Related u n → story.changes_in l m.permanents n.permanents ≡ changes_told t.program (named_discipline g) s.components u.components
  related_same s u m n h i = held_same s.components u.components m.permanents n.permanents (held_by t r g read ok same s m h) (held_by t r g read ok same u n i)

-- of a legend beside the tables of a tree
pub legend_monitors : (t : Tree) (y : code_symbols.Symbols) (r : Tables) (l : code_legend.Legend) (g : slot_gates.Discipline) → IsRead t.program → IsAccepted t → AreSymbolsOf y (whole t) → plain r ≡ laid t → IsLegendOf l (source_seen y) r.components → MonitorsAreTold t (named_discipline g) (legend_seen l)
legend_monitors t y r l g read ok symbols same seen = monitors_told t y r l (named_discipline g) (layouts_of t) read ok symbols same seen (together.prepared t r g read ok same).stands
