-- The law of components: those of the tables of a tree stand for those of the program, and its processes for its processes.
use Rattle.std.proofs.Common.{◌≡◌, ◌≤◌, ◌<◌, ◌+◌, ℕ, ℤ, Bool, true, false, ◌||◌, if◌then◌else◌, List, [], ◌∷◌, ◌++◌, length, Option, Some, None, slice_get, refl, sym, ap, subst, ◌∙◌, ◌⊎◌, inl, inr, append_assoc, arith, length-append}
use Rattle.cp_resolved.proofs.Words.{◌-◌, length-map, none-some, bytes_eq-Decides, Program, Tree, LayoutMeaning, Component, Process, Compounds, most, plain, laid}
use Rattle.cp_resolved.proofs.Words.{PlainTables, Listing, empty_listing, contents_least, System, Name, same_name, Ty, array_over, component_of, has_components, find}
use Rattle.cp_resolved.proofs.Words.{permanent_variable, Parameter, SystemMeaning, program_system, system_of, component_with, parameter_variables, first_component}
use Rattle.cp_resolved.proofs.Words.{first_components, encode, CellsAre, PartsAre, BoundIs, look, is_parameter, Each, Ground, numbering_of, IsVisible, AreFew, StandsAt}
use Rattle.cp_resolved.proofs.Words.{first_permanent, ContainedAt, slot_in, first_in, components_among, initial_or, parts_at, layouts_of, whole_laid}
use Rattle.cp_symbols.specs.declared.names.LayoutMeaning.TheVariants as meaning
use Rattle.cp_layout.specs.Layers as layers
use Rattle.cp_slots.specs.Tables.{Tables, component_at, process_at, no_component, no_process}
use Rattle.cp_meaning.specs.Values as values
use Rattle.cp_meaning.specs.Components.{Listed, step_down, components_of}
use Rattle.cp_meaning.specs.State as named
use Rattle.cp_resolved.specs.ComponentsAre.{HasComponents, ComponentsAre, ComponentsLaw}
use Rattle.cp_resolved.proofs.components.ComponentImages.{stands_between, first_is, block_of}
use Rattle.cp_resolved.proofs.components.ComponentOrder.{image_at}
use Rattle.cp_resolved.proofs.components.ComponentsOfTree.{Own, own_of, earlier, count_same, program_kind, low, counted, tables_listed}
use Rattle.cp_resolved.proofs.components.ComponentsStand.{AreListed, entry_there, all_made, listing_at, permanents_made, count_stands, system_stands, kind_stands, monitor_count_stands, process_count_stands, process_stands}
use Rattle.cp_resolved.proofs.components.Contained.{one_lies, each_lies}
use Rattle.cp_resolved.proofs.names.Entries.{there, entry_at}
use Rattle.cp_resolved.proofs.names.NamesOfTrees.{names_law}
use Rattle.cp_resolved.proofs.systems.OwnedParts.{FirstIs}
use Rattle.cp_resolved.proofs.sound.SoundComponents.{tabled, images, initial_in, listed, layer_of}
use Rattle.cp_resolved.proofs.systems.SystemsLaid.{PermanentIs}
use Rattle.cp_resolved.proofs.laid.Whole.{program_laid}
use Rattle.cp_resolved.proofs.agreeing.AgreeingWritten.{each_left, each_right}

-- ---- variables and parameters by their names

-- what is visible of a name has one type
one_type : (t u : Ty) → Some (permanent_variable t) ≡ Some (permanent_variable u) → t ≡ u
one_type t u e = cc

-- a parameter that is a component is looked up among those
part_there : (m : SystemMeaning) (x : Name) (t : Ty) (qs : List Parameter) → Each (IsVisible m) (parameter_variables qs) → find x m.scope ≡ Some (permanent_variable t) → has_components t ≡ true → is_parameter x qs ≡ true → look x (components_among true (parameter_variables qs)) ≡ None → ⊥
part_there m x t [] v f h i e = cc
part_there m x t (q ∷ qs) v f h i e = go (same_name x q.name) refl (part_there m x t qs v.1 f h) i e
  where
    mine : same_name x q.name ≡ true → has_components q.ty ≡ true
    mine w =
        let same : x ≡ q.name = (bytes_eq-Decides x q.name).0 w in
        ap has_components (one_type q.ty t (sym v.0 ∙ ap (λ y. find y m.scope) (sym same) ∙ f)) ∙ h

    found : (b : Bool) → has_components q.ty ≡ b → same_name x q.name ≡ true → look x (if b then record { name = q.name; ty = q.ty } ∷ components_among true (parameter_variables qs) else components_among true (parameter_variables qs)) ≡ None → ⊥
    found true c w f = none-some q.ty (sym f ∙ ap (λ b. if b then Some q.ty else look x (components_among true (parameter_variables qs))) w)
    found false c w f = let z : true ≡ false = sym (mine w) ∙ c in cc

    other : (b : Bool) → same_name x q.name ≡ false → look x (if b then record { name = q.name; ty = q.ty } ∷ components_among true (parameter_variables qs) else components_among true (parameter_variables qs)) ≡ None → look x (components_among true (parameter_variables qs)) ≡ None
    other true w f = sym (ap (λ b. if b then Some q.ty else look x (components_among true (parameter_variables qs))) w) ∙ f
    other false w f = f

    go : (b : Bool) → same_name x q.name ≡ b → (is_parameter x qs ≡ true → look x (components_among true (parameter_variables qs)) ≡ None → ⊥) → (b || is_parameter x qs) ≡ true → look x (components_among true (parameter_variables (q ∷ qs))) ≡ None → ⊥
    go true w rest j f = found (has_components q.ty) refl w f
    go false w rest j f = rest j (other (has_components q.ty) w f)

module _ (g : Ground) (t : Tree) (e : plain g.tables ≡ laid t) (h : HasComponents t) (few : AreFew g.tables) where
  abbrev r : Tables
  r = g.tables

  abbrev p : Program
  p = t.program

  abbrev ts : Compounds
  ts = (whole_laid t).types

  abbrev ss : List System
  ss = (whole_laid t).systems

  abbrev o : layers.Owned
  o = (whole_laid t).owned

  abbrev last : ℕ
  last = length (whole_laid t).routines - 1

  lists : AreListed p ts ss o last r
  lists = tables_listed t h.plain r e

  few_listed : length (components_of p) < most
  few_listed =
      let a = count_stands p ts ss o last r lists in
      let b = length-map (components_of p) (first_component p) in
      let c = few.components in
      omega (arith, a, b, c)

  -- ---- system types

  types_low : (n : ℕ) → n < length r.components → (component_at r n).system ≤ program_system p
  types_low n lt =
      let d = tabled r t e in
      let w = program_laid t.lines p in
      let s = listed (layer_of t) (images (layer_of t) w.whole) in
      let x = there r.components n lt in
      let at : component_at r n ≡ x.0 = entry_at r.components n no_component x.0 x.1 in
      let a : x.0.system < length ss + 1 = s.system n x.0 (ap (λ (xs : List Component). slice_get xs n) (sym d.components) ∙ x.1) in
      let c = count_same t h.plain in
      let f : (component_at r n).system ≡ x.0.system = ap (λ (y : Component). y.system) at in
      omega (arith, a, c, f)

  -- ---- first values

  cells_stand : (n : ℕ) (lt : n < length r.components) (x : Name) (u : Ty) → look x ((layouts_of t).systems (component_at r n).system).variables ≡ Some u → StandsAt r.permanents ((component_at r n).base + ((layouts_of t).systems (component_at r n).system).slots x) (encode (first_permanent (system_of p (component_at r n).system) x))
  cells_stand n lt =
      let l = listing_at p ts ss o last r lists n lt in
      let j : ℕ = l.among.entry.system in
      let f : (component_at r n).system ≡ j = ap (λ (y : Component). y.system) l.there in
      let le = types_low n lt in
      let own : Own t h.plain j = own_of t h.plain j (omega (arith, le, f)) in
      subst (λ (y : Component). (x : Name) (u : Ty) → look x ((layouts_of t).systems y.system).variables ≡ Some u → StandsAt r.permanents (y.base + ((layouts_of t).systems y.system).slots x) (encode (first_permanent (system_of p y.system) x))) (sym l.there)
      (λ x u i.
      let m : SystemMeaning = system_of p j in
      let c : Listing = all_made p ts ss o last empty_listing l.among.before in
      let b = block_of (numbering_of p) (whole_laid t) (earlier t h.plain) j (parts_at t j) own.owned m own.own (h.own.visible j) (h.own.standing j) x u i in
      let image : image_at p ts ss o last j ≡ b.before ++ (encode (values.least u) ++ b.after) = ap (λ (q : layers.Owned). contents_least ts q.contents) own.is ∙ b.is in
      let whole : r.permanents ≡ (c.permanents ++ b.before) ++ (encode (values.least u) ++ (b.after ++ l.grows.permanents)) =
      lists.permanents ∙ l.grows.permanents_grow ∙ ap (λ zs. zs ++ l.grows.permanents) (permanents_made p ts ss o last c j) ∙ append_assoc c.permanents (image_at p ts ss o last j) l.grows.permanents
      ∙ ap (λ zs. c.permanents ++ (zs ++ l.grows.permanents)) image ∙ ap (λ zs. c.permanents ++ zs) (append_assoc b.before (encode (values.least u) ++ b.after) l.grows.permanents ∙ ap (λ zs. b.before ++ zs) (append_assoc (encode (values.least u)) b.after l.grows.permanents))
      ∙ sym (append_assoc c.permanents b.before (encode (values.least u) ++ (b.after ++ l.grows.permanents))) in
      let n0 : length r.permanents ≡ length ((c.permanents ++ b.before) ++ (encode (values.least u) ++ (b.after ++ l.grows.permanents))) = ap (λ (zs : List ℤ). length zs) whole in
      let n1 = length-append (c.permanents ++ b.before) (encode (values.least u) ++ (b.after ++ l.grows.permanents)) in
      let n2 = length-append c.permanents b.before in
      let s = b.slot in
      let q = few.permanents in
      let at : length (c.permanents ++ b.before) ≡ length c.permanents + slot_in (layers.find x (parts_at t j).names) = omega (arith, n0, n1, n2, s, q) in
      subst (λ zs. StandsAt zs (length c.permanents + slot_in (layers.find x (parts_at t j).names)) (encode (first_permanent m x))) (sym whole)
      (subst (λ k. StandsAt ((c.permanents ++ b.before) ++ (encode (values.least u) ++ (b.after ++ l.grows.permanents))) k (encode (first_permanent m x))) at
      (subst (λ v. StandsAt ((c.permanents ++ b.before) ++ (encode (values.least u) ++ (b.after ++ l.grows.permanents))) (length (c.permanents ++ b.before)) (encode v)) (sym (first_is m x u i)) (stands_between (c.permanents ++ b.before) (encode (values.least u)) (b.after ++ l.grows.permanents)))))

  -- ---- components of variables

  abbrev Lies : (of first : ℕ) → Ty → (Option ℕ → ℕ) → Type 0
  Lies of first u number = ContainedAt (layouts_of t) of first u number

  no_components : (of first : ℕ) (u : Ty) (number : Option ℕ → ℕ) → has_components u ≡ false → Lies of first u number
  no_components of first (component_of k) number w = absurd (let z : true ≡ false = w in cc)
  no_components of first (array_over q (component_of k)) number w = absurd (let z : true ≡ false = w in cc)
  no_components of first _ number w = tt

  parts_lie : (n : ℕ) (y : Listed) (x : Name) (first : ℕ) (u : Ty) → y.system ≤ program_system p → slice_get (components_of p) n ≡ Some y → (f : FirstIs ss (system_of p y.system).variables x first) → f.variable.ty ≡ u → Lies n first u (λ i. component_with (step_down y.path x i) (first_components p))
  parts_lie n y x first (component_of k) le at f same = one_lies p h.formed.paths (low t h.plain) ss (count_same t h.plain) (counted t h.plain) few_listed n y x first k le at f same
  parts_lie n y x first (array_over q (component_of k)) le at f same = λ j lt. each_lies p h.formed.paths (low t h.plain) ss (count_same t h.plain) (counted t h.plain) few_listed n y x first q k j le at f same lt
  parts_lie n y x first _ le at f same = tt

  abbrev at_names : ℕ → layers.Names
  at_names j = (parts_at t j).names

  variable_lies : (n : ℕ) (y : Listed) (x : Name) (u : Ty) → y.system ≤ program_system p → slice_get (components_of p) n ≡ Some y → find x (system_of p y.system).scope ≡ Some (permanent_variable u) → look x ((layouts_of t).systems y.system).parts ≡ None →
      Lies n (((layouts_of t).systems y.system).firsts x) u (λ i. component_with (step_down y.path x i) (first_components p))
  variable_lies n y x u le at f none = go (own_of t h.plain y.system le)
    where
      m : SystemMeaning
      m = system_of p y.system

      same_type : (first : ℕ) (a : FirstIs ss m.variables x first) → a.variable.ty ≡ u
      same_type first a =
          let all : Each (IsVisible m) (a.before ++ a.variable ∷ a.after) = subst (Each (IsVisible m)) a.is (each_right (IsVisible m) (parameter_variables m.parameters) m.variables (h.own.visible y.system)) in
          let mine = (each_right (IsVisible m) a.before (a.variable ∷ a.after) all).0 in
          one_type a.variable.ty u (sym mine ∙ ap (λ z. find z m.scope) a.name ∙ f)

      with_meaning : (own : Own t h.plain y.system) (q : LayoutMeaning) → layers.find x (at_names y.system) ≡ Some q → CellsAre (numbering_of p) ts u q ⊎ (PartsAre (numbering_of p) ts u q ⊎ BoundIs u q) → Lies n (first_in (layers.find x (at_names y.system))) u (λ i. component_with (step_down y.path x i) (first_components p))
      with_meaning own q w (inl c) = no_components n (first_in (layers.find x (at_names y.system))) u (λ i. component_with (step_down y.path x i) (first_components p)) c.without
      with_meaning own q w (inr (inl c)) =
          let there : layers.find x (at_names y.system) ≡ Some (meaning.Contained c.first c.value_type) = w ∙ ap (λ z. Some z) c.is in
          let a : FirstIs ss m.variables x c.first = own.own.owns.firsts x c.first c.value_type there in
          subst (λ i. Lies n i u (λ j. component_with (step_down y.path x j) (first_components p))) (sym (ap first_in there)) (parts_lie n y x c.first u le at a (same_type c.first a))
      with_meaning own q w (inr (inr c)) =
          absurd (part_there m x u m.parameters (each_left (IsVisible m) (parameter_variables m.parameters) m.variables (h.own.visible y.system)) f (ap has_components c.component) (own.own.bound x c.slot c.system (w ∙ ap (λ z. Some z) c.is)) none)

      go : Own t h.plain y.system → Lies n (first_in (layers.find x (at_names y.system))) u (λ i. component_with (step_down y.path x i) (first_components p))
      go own = let q : PermanentIs (numbering_of p) (whole_laid t) u (layers.find x (at_names y.system)) = own.own.found x u f in with_meaning own q.meaning q.there q.is

  contained_stand : (n : ℕ) → n < length r.components → (x : Name) (u : Ty) → find x (system_of p (component_at r n).system).scope ≡ Some (permanent_variable u) → look x ((layouts_of t).systems (component_at r n).system).parts ≡ None →
      Lies n (((layouts_of t).systems (component_at r n).system).firsts x) u (λ i. component_with (step_down (named.component_at (first_components p) n).path x i) (first_components p))
  contained_stand n lt =
      let l = listing_at p ts ss o last r lists n lt in
      let y : Listed = l.among.entry in
      let j : (component_at r n).system ≡ y.system = ap (λ (z : Component). z.system) l.there in
      let le = types_low n lt in
      let at : slice_get (components_of p) n ≡ Some y = ap (λ i. slice_get (components_of p) i) (sym l.among.place) ∙ ap (λ (zs : List Listed). slice_get zs (length l.among.before)) l.among.is ∙ entry_there l.among.before y l.among.after in
      let path : (named.component_at (first_components p) n).path ≡ y.path = ap (λ (z : named.Component). z.path) l.named in
      subst (λ i. (x : Name) (u : Ty) → find x (system_of p i).scope ≡ Some (permanent_variable u) → look x ((layouts_of t).systems i).parts ≡ None → Lies n (((layouts_of t).systems i).firsts x) u (λ q. component_with (step_down (named.component_at (first_components p) n).path x q) (first_components p))) (sym j)
      (subst (λ b. (x : Name) (u : Ty) → find x (system_of p y.system).scope ≡ Some (permanent_variable u) → look x ((layouts_of t).systems y.system).parts ≡ None → Lies n (((layouts_of t).systems y.system).firsts x) u (λ q. component_with (step_down b x q) (first_components p))) (sym path)
      (λ x u f none. variable_lies n y x u (omega (arith, le, j)) at f none))

  -- ---- processes

  initial_same : (other : ℕ) (q : Option System) → initial_in other q ≡ initial_or other q
  initial_same other None = refl
  initial_same other (Some s) = refl

  routine_stands : (q : ℕ) → q < length r.processes → (process_at r q).routine ≡ ((layouts_of t).systems (component_at r (process_at r q).component).system).initial
  routine_stands q lt =
      let d = tabled r t e in
      let s = listed (layer_of t) (images (layer_of t) (program_laid t.lines p).whole) in
      let x = there r.processes q lt in
      let at : process_at r q ≡ x.0 = entry_at r.processes q no_process x.0 x.1 in
      let i = s.processes q x.0 (ap (λ (xs : List Process). slice_get xs q) (sym d.processes) ∙ x.1) in
      let c : component_at r x.0.component ≡ i.component = entry_at r.components x.0.component no_component i.component (ap (λ (xs : List Component). slice_get xs x.0.component) d.components ∙ i.there) in
      let f : (component_at r (process_at r q).component).system ≡ i.component.system = ap (λ (z : Process). (component_at r z.component).system) at ∙ ap (λ (z : Component). z.system) c in
      ap (λ (z : Process). z.routine) at ∙ i.routine ∙ initial_same last (slice_get ss i.component.system) ∙ ap (λ j. initial_or last (slice_get ss j)) (sym f)

  -- ---- all

  pub components_are : ComponentsAre g t (layouts_of t)
  components_are =
      let rare = few.monitors in
      let ps = few.processes in
      record {
        components = λ n lt. record {
          system = system_stands p ts ss o last r lists n lt;
          kind = kind_stands p ts ss o last r lists (omega (arith, ps)) (omega (arith, rare)) n lt;
          first = cells_stand n lt;
          contained = contained_stand n lt;
        };
        processes = λ q lt. record { component = process_stands p ts ss o last r lists (program_kind t h.plain) q lt; routine = routine_stands q lt };
        names = ap (λ (s : PlainTables). s.names) e ∙ (names_law t h.plain).constants;
        count = count_stands p ts ss o last r lists;
        process_count = process_count_stands p ts ss o last r lists (program_kind t h.plain);
        monitor_count = monitor_count_stands p ts ss o last r lists (omega (arith, rare));
      }

pub components_law : ComponentsLaw
components_law g t e h few = components_are g t e h few
