-- A legend beside the tables of a tree has each monitor, each process, and what owns a permanent cell, under the path that the language gives it.
use Rattle.std.proofs.Common.{◌⊎◌, inl, inr, ◌≡◌, ◌∙◌, ℕ, zero, suc, ◌+◌, ◌<◌, ◌≤◌, Bool, true, false, List, [], ◌∷◌, Option, Some, None, ap, sym, refl, arith, length, eq-eqb, if◌then◌else◌}
use Rattle.std.proofs.lemmas.Bool.{eqb-true, le-leb}
use Rattle.std.proofs.lemmas.Bool.Decides.{leb_tells}
use Rattle.std.proofs.lemmas.List.{get_or-map, length-map}
use Rattle.std.specs.Prelude.{map, slice_index_or, nat_le}
use Rattle.cp_tree.specs.Syntax.{Program, Tree}
use Rattle.cp_slots.specs.declared.tables.Component.{Component}
use Rattle.cp_slots.specs.declared.tables.ComponentKind.{ComponentKind}
use Rattle.cp_slots.specs.declared.tables.ComponentKind.TheVariants as kind
use Rattle.cp_slots.specs.Systems.{IsTyped, own_of}
use Rattle.cp_slots.specs.Tables.{Tables, no_component, component_at, process_at}
use Rattle.cp_meaning.specs.Components.{Listed, components_of}
use Rattle.cp_meaning.specs.State as named
use Rattle.cp_meaning.specs.Steps.{first_component, first_components}
use Rattle.cp_legend.specs.Names.{Named, is_monitor, is_process, monitor_in, path_in, process_in}
use Rattle.cp_legend.specs.Places.{later, owner_from, owner}
use Rattle.cp_legend_laws.specs.Called.{Called, called_in_legend, tabled}
use Rattle.cp_legend_laws.specs.Paths.{called_in_language, path_text}
use Rattle.cp_resolved.specs.Layouts.{Layouts}
use Rattle.cp_resolved.specs.Resolved.{Stands}
use Rattle.cp_machine_laws.specs.Law.{ground_of}
use Rattle.cp_machine_laws.proofs.ReachedKinds.{kind_within, monitor_there, own_numbers, process_component}
use Rattle.cp_story_laws.proofs.Lists.{find_only}

abbrev no_name : Named
no_name = record { path = []; kind = kind.Class; system = 0; monitor = None; base = 0 }

abbrev pub name_at : List Named → ℕ → Named
name_at ns n = slice_index_or ns n no_name

abbrev none_called : Called
none_called = record { path = []; system = 0 }

abbrev none_listed : Listed
none_listed = record { path = []; system = 0 }

-- ---- what owns a cell

not_below : (a b : ℕ) → b < a → nat_le a b ≡ false
not_below a b less = go (leb_tells a b)
  where
    go : ((nat_le a b ≡ true) × (a ≤ b)) ⊎ ((nat_le a b ≡ false) × (b < a)) → nat_le a b ≡ false
    go (inl k) = absurd (let le = k.1 in omega (arith, le, less))
    go (inr k) = k.0

owner_before : (found : Option Named) (cs : List Named) (cell : ℕ) → ((i : ℕ) → i < length cs → cell < (name_at cs i).base) → owner_from found cs cell ≡ found
owner_before found [] cell h = refl
owner_before found (c ∷ cs) cell h =
    ap (λ (b : Bool). owner_from (if b then Some c else found) cs cell) (not_below c.base cell (h 0 (omega arith)))
    ∙ owner_before found cs cell (λ i less. h (suc i) (omega (arith, less)))

owner_is : (found : Option Named) (cs : List Named) (n cell : ℕ) → n < length cs → (name_at cs n).base ≤ cell → ((i : ℕ) → n < i → i < length cs → cell < (name_at cs i).base) → owner_from found cs cell ≡ Some (name_at cs n)
owner_is found [] n cell less le h = absurd (omega (arith, less))
owner_is found (c ∷ cs) zero cell less le h =
    ap (λ (b : Bool). owner_from (if b then Some c else found) cs cell) (le-leb c.base cell le)
    ∙ owner_before (Some c) cs cell (λ i lt. h (suc i) (omega arith) (omega (arith, lt)))
owner_is found (c ∷ cs) (suc n) cell less le h = owner_is (later found c cell) cs n cell (omega (arith, less)) le (λ i lt there. h (suc i) (omega (arith, lt)) (omega (arith, there)))

is_its_number : (k : ComponentKind) (j : ℕ) → is_monitor k j ≡ true → k ≡ kind.Monitor j
is_its_number (kind.Monitor m) j e = ap kind.Monitor (eqb-true m j e)
is_its_number kind.Class j e = absurd (cc)
is_its_number (kind.Process m) j e = absurd (cc)

is_its_process : (k : ComponentKind) (j : ℕ) → is_process k j ≡ true → k ≡ kind.Process j
is_its_process (kind.Process m) j e = ap kind.Process (eqb-true m j e)
is_its_process kind.Class j e = absurd (cc)
is_its_process (kind.Monitor m) j e = absurd (cc)

module _ (t : Tree) (r : Tables) (l : Layouts) (stands : Stands (ground_of t r) t l) (typed : IsTyped r) (ns : List Named) (tables : map tabled ns ≡ r.components) (paths : map called_in_legend ns ≡ map (called_in_language t.program) (components_of t.program)) where
  abbrev p : Program
  p = t.program

  count : length ns ≡ length r.components
  count = sym (length-map ns tabled) ∙ ap length tables

  listed : length ns ≡ length (components_of p)
  listed = sym (length-map ns called_in_legend) ∙ (ap length paths ∙ length-map (components_of p) (called_in_language p))

  tabled_at : (n : ℕ) → n < length ns → component_at r n ≡ tabled (name_at ns n)
  tabled_at n less = ap (λ (cs : List Component). slice_index_or cs n no_component) (sym tables) ∙ get_or-map tabled ns n no_name no_component less

  path_at : (n : ℕ) → n < length ns → (name_at ns n).path ≡ path_text p (named.component_at (first_components p) n).path
  path_at n less =
      let less_listed : n < length (components_of p) = (let e = listed in omega (arith, e, less)) in
      let same : called_in_legend (name_at ns n) ≡ called_in_language p (slice_index_or (components_of p) n none_listed) =
      sym (get_or-map called_in_legend ns n no_name none_called less)
      ∙ (ap (λ (cs : List Called). slice_index_or cs n none_called) paths ∙ get_or-map (called_in_language p) (components_of p) n none_listed none_called less_listed) in
      let first : named.component_at (first_components p) n ≡ first_component p (slice_index_or (components_of p) n none_listed) = get_or-map (first_component p) (components_of p) n none_listed named.no_component less_listed in
      ap (λ (c : Called). c.path) same ∙ sym (ap (λ (c : named.Component). path_text p c.path) first)

  -- the monitor of a number
  pub monitor_path : (n j : ℕ) → (component_at r n).kind ≡ kind.Monitor j → path_in (monitor_in ns j) ≡ path_text p (named.component_at (first_components p) n).path
  monitor_path n j e = ap path_in (find_only (λ (c : Named). is_monitor c.kind j) ns n no_name less is only) ∙ path_at n less
    where
      less : n < length ns
      less = let a = count in let b = monitor_there t r l stands n j e in omega (arith, a, b)

      kind_at : (i : ℕ) → i < length ns → (component_at r i).kind ≡ (name_at ns i).kind
      kind_at i lt = ap (λ (c : Component). c.kind) (tabled_at i lt)

      is : is_monitor (name_at ns n).kind j ≡ true
      is = ap (λ (k : ComponentKind). is_monitor k j) (sym (kind_at n less) ∙ e) ∙ eq-eqb j j refl

      only : (i : ℕ) → i < length ns → is_monitor (name_at ns i).kind j ≡ true → i ≡ n
      only i lt h = own_numbers t r l stands i n j (kind_at i lt ∙ is_its_number (name_at ns i).kind j h) e

  -- the component of a process
  pub process_path : (q : ℕ) → q < length r.processes → path_in (process_in ns q) ≡ path_text p (named.component_at (first_components p) (process_at r q).component).path
  process_path q known = ap path_in (find_only (λ (c : Named). is_process c.kind q) ns n no_name less is only) ∙ path_at n less
    where
      n : ℕ
      n = (process_at r q).component

      own : (component_at r n).kind ≡ kind.Process q
      own = (typed.processes q known).kind

      less : n < length ns
      less = let a = count in let b = kind_within r.components n (λ f. (let bad : kind.Process q ≡ kind.Class = sym own ∙ f in cc)) in omega (arith, a, b)

      kind_of : (i : ℕ) → i < length ns → (component_at r i).kind ≡ (name_at ns i).kind
      kind_of i lt = ap (λ (c : Component). c.kind) (tabled_at i lt)

      is : is_process (name_at ns n).kind q ≡ true
      is = ap (λ (k : ComponentKind). is_process k q) (sym (kind_of n less) ∙ own) ∙ eq-eqb q q refl

      only : (i : ℕ) → i < length ns → is_process (name_at ns i).kind q ≡ true → i ≡ n
      only i lt h = (let there : i < length r.components = (let a = count in omega (arith, a, lt)) in sym (process_component t r l stands typed i q there (kind_of i lt ∙ is_its_process (name_at ns i).kind q h)))

  -- the component in which a cell is
  module _ (n cell : ℕ) (there : n < length r.components) where
    less : n < length ns
    less = let a = count in omega (arith, a, there)

    base_at : (i : ℕ) → i < length ns → (component_at r i).base ≡ (name_at ns i).base
    base_at i lt = ap (λ (c : Component). c.base) (tabled_at i lt)

    after : cell < (component_at r n).base + own_of r n → (i : ℕ) → n < i → i < length ns → cell < (name_at ns i).base
    after inside i lt known =
        let a = count in
        let b = typed.apart n i lt (omega (arith, a, known)) in
        let e = base_at i known in
        omega (arith, b, e, inside)

    pub same_component : component_at r n ≡ tabled (name_at ns n)
    same_component = tabled_at n less

    pub owner_component : (component_at r n).base ≤ cell → cell < (component_at r n).base + own_of r n → owner ns cell ≡ Some (name_at ns n)
    owner_component le inside = owner_is None ns n cell less (let e = base_at n less in omega (arith, e, le)) (after inside)

    pub owner_path : (component_at r n).base ≤ cell → cell < (component_at r n).base + own_of r n → path_in (owner ns cell) ≡ path_text p (named.component_at (first_components p) n).path
    owner_path le inside = ap path_in (owner_component le inside) ∙ path_at n less
