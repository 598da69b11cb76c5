-- The walk that names components goes as the tables list them.
use Rattle.std.proofs.Common.{◌≡◌, ℕ, zero, suc, ◌+◌, ◌<◌, ◌≤◌, Bool, true, false, if◌then◌else◌, List, [], ◌∷◌, ◌++◌, length, map, Option, Some, None, slice_get, ◌==◌, refl, sym, ap, subst, ◌∙◌, append_assoc, append-nil, arith, length-append}
use Rattle.std.specs.Prelude.{unwrap_or}
use Rattle.cp_legend_laws.proofs.Words.{eq-eqb, eqb-false, eqb-true, length-map, map-append, Component, Contained, Compounds, Owned, System}
use Rattle.cp_tree.specs.declared.declaration.SystemKind.{SystemKind}
use Rattle.cp_tree.specs.declared.declaration.SystemKind.TheVariants as system_kind
use Rattle.cp_slots.specs.declared.tables.ComponentKind.{ComponentKind}
use Rattle.cp_layout.specs.LaidComponents.{Listing, empty_listing, contents_least, next_kind, with_component, component_with, again_and_again, add_contained, add_owned, system_by, add_below, components_of_program}
use Rattle.cp_resolved.proofs.names.Entries.{there, still_there, last_entry}
use Rattle.cp_legend.specs.Names.{Source, Part, Named, Naming, at_each, inside, named, monitor_of, parts_of, parts_by, next_by, parts_at, named_below, components_of}
use Rattle.cp_legend_laws.specs.Called.{Called, Calling, called_parts, called_at, called_below, all_called, called_in_legend, tabled}
use Rattle.cp_legend_laws.proofs.PartSystems.{repeated, spread, systems_of}

-- ---- the components inside one, one after the other

abbrev pub one_each : (ℕ → Listing → Listing) → List ℕ → Listing → Listing
one_each one [] c = c
one_each one (n ∷ ns) c = one_each one ns (one n c)

one_each_append : (one : ℕ → Listing → Listing) (ms ns : List ℕ) (c : Listing) → one_each one (ms ++ ns) c ≡ one_each one ns (one_each one ms c)
one_each_append one [] ns c = refl
one_each_append one (m ∷ ms) ns c = one_each_append one ms ns (one m c)

repeated_each : (one : ℕ → Listing → Listing) (count n : ℕ) (c : Listing) → again_and_again count (one n) c ≡ one_each one (repeated count n) c
unfolding again_and_again repeated
repeated_each one zero n c = refl
repeated_each one (suc count) n c = ap (one n) (repeated_each one count n c) ∙ sym (one_each_append one (repeated count n) (n ∷ []) c)

contained_each : (one : ℕ → Listing → Listing) (cs : List Contained) (c : Listing) → add_contained one cs c ≡ one_each one (spread cs) c
unfolding add_contained
contained_each one [] c = refl
contained_each one (k ∷ cs) c =
    ap (add_contained one cs) (repeated_each one k.count k.system c) ∙ contained_each one cs (one_each one (repeated k.count k.system) c)
    ∙ sym (one_each_append one (repeated k.count k.system) (spread cs) c)

-- ---- listings grow

abbrev pub Grows : Listing → Listing → Type 0
Grows c d = (more : List Component) × (d.components ≡ c.components ++ more)

grows_same : (c : Listing) → Grows c c
grows_same c = ([], sym (append-nil c.components))

grows_trans : (c d e : Listing) → Grows c d → Grows d e → Grows c e
grows_trans c d e h i = (h.0 ++ i.0, i.1 ∙ ap (λ cs. cs ++ i.0) h.1 ∙ append_assoc c.components h.0 i.0)

each_grows : (one : ℕ → Listing → Listing) → ((n : ℕ) (c : Listing) → Grows c (one n c)) → (ns : List ℕ) (c : Listing) → Grows c (one_each one ns c)
each_grows one g [] c = grows_same c
each_grows one g (n ∷ ns) c = grows_trans c (one n c) (one_each one ns (one n c)) (g n c) (each_grows one g ns (one n c))

kind_components : (c : Listing) (k : SystemKind) (initial : ℕ) → (next_kind c k initial).1.components ≡ c.components
kind_components c system_kind.Class initial = refl
kind_components c _ initial = refl

-- the component itself, before those that it contains
abbrev pub begun : Compounds → ComponentKind × Listing → Owned → ℕ → Listing
begun ts x o n = with_component x.1 x.0 (contents_least ts o.contents) n

begun_component : (ts : Compounds) (c : Listing) (k : SystemKind) (initial : ℕ) (o : Owned) (n : ℕ) → (d : Component) × (d.system ≡ n) × ((begun ts (next_kind c k initial) o n).components ≡ c.components ++ d ∷ [])
begun_component ts c k initial o n =
    let d : Component = component_with (next_kind c k initial).0 (length (next_kind c k initial).1.permanents) n in
    (d, refl, ap (λ cs. cs ++ d ∷ []) (kind_components c k initial))

owned_grows : (ts : Compounds) (one : ℕ → Listing → Listing) → ((n : ℕ) (c : Listing) → Grows c (one n c)) → (c : Listing) (k : SystemKind) (initial : ℕ) (o : Owned) (n : ℕ) → Grows c (add_owned ts one (next_kind c k initial) o n)
owned_grows ts one g c k initial o n =
    let d : Listing = begun ts (next_kind c k initial) o n in
    let b = begun_component ts c k initial o n in
    let r : Grows d (one_each one (spread o.contained) d) = each_grows one g (spread o.contained) d in
    grows_trans c d (add_owned ts one (next_kind c k initial) o n) (b.0 ∷ [], b.2) (r.0, ap (λ (e : Listing). e.components) (contained_each one o.contained d) ∙ r.1)

module _ (ts : Compounds) (ss : List System) where
  system_grows : (bound : ℕ) → ((n : ℕ) (c : Listing) → Grows c (add_below ts ss bound n c)) → (q : Option System) (n : ℕ) (c : Listing) → Grows c (system_by ts (add_below ts ss bound) q n c)
  system_grows bound g None n c = grows_same c
  system_grows bound g (Some s) n c = owned_grows ts (add_below ts ss bound) g c s.kind s.initial s.owned n

  pub below_grows : (bound n : ℕ) (c : Listing) → Grows c (add_below ts ss bound n c)
  unfolding add_below
  below_grows zero n c = grows_same c
  below_grows (suc bound) n c = go (n == bound) (λ m d. below_grows bound m d)
    where
      go : (b : Bool) → ((m : ℕ) (d : Listing) → Grows d (add_below ts ss bound m d)) → Grows c (if b then system_by ts (add_below ts ss bound) (slice_get ss bound) bound c else add_below ts ss bound n c)
      go true inner = system_grows bound inner (slice_get ss bound) bound c
      go false inner = inner n c

-- ---- parts by their numbers

each_length : {X : Type 0} (f : ℕ → X) (n : ℕ) → length (at_each f n) ≡ n
unfolding at_each
each_length f zero = refl
each_length f (suc n) = (let a = length-append (at_each f n) (f n ∷ []) in let b = each_length f n in omega (arith, a, b))

pub each_there : {X : Type 0} (f : ℕ → X) (bound n : ℕ) → n < bound → slice_get (at_each f bound) n ≡ Some (f n)
unfolding at_each
each_there f zero n h = absurd (omega (arith, h))
each_there f (suc bound) n h = go (n == bound) refl (λ less. each_there f bound n less)
  where
    go : (b : Bool) → (n == bound) ≡ b → (n < bound → slice_get (at_each f bound) n ≡ Some (f n)) → slice_get (at_each f bound ++ f bound ∷ []) n ≡ Some (f n)
    go true e before =
        let same : n ≡ bound = eqb-true n bound e in
        ap (λ i. slice_get (at_each f bound ++ f bound ∷ []) i) (same ∙ sym (each_length f bound)) ∙ last_entry (at_each f bound) (f bound) ∙ ap (λ i. Some (f i)) (sym same)
    go false e before = let other = eqb-false n bound e in still_there (at_each f bound) (f bound ∷ []) n (f n) (before (omega (arith, h, other)))

-- ---- the walk

-- what has been named stands for what has been listed
pub record Walked (all : List Component) (cs ds : List Named) (d : Listing) (called : List Called) : Type 0 where
  pub tables : map tabled ds ≡ d.components
  pub declared : map called_in_legend ds ≡ map called_in_legend cs ++ called

abbrev pub IsPrefix : Listing → List Component → Type 0
IsPrefix d all = (rest : List Component) × (all ≡ d.components ++ rest)

prefix_before : (c d : Listing) (all : List Component) → Grows c d → IsPrefix d all → IsPrefix c all
prefix_before c d all g h = (g.0 ++ h.0, h.1 ∙ ap (λ cs. cs ++ h.0) g.1 ∙ append_assoc c.components g.0 h.0)

module _ (all : List Component) where
  -- a naming goes as a listing
  abbrev pub Goes : Naming → (ℕ → Listing → Listing) → Calling → Type 0
  Goes naming one calling = (n : ℕ) (path : List ℕ) (outer : Option ℕ) (cs : List Named) (c : Listing) → map tabled cs ≡ c.components → IsPrefix (one n c) all → Walked all cs (naming n path outer cs) (one n c) (calling n path)

  parts_go : (naming : Naming) (one : ℕ → Listing → Listing) (calling : Calling) → ((n : ℕ) (c : Listing) → Grows c (one n c)) → Goes naming one calling →
      (ps : List Part) (path : List ℕ) (outer : Option ℕ) (cs : List Named) (c : Listing) → map tabled cs ≡ c.components → IsPrefix (one_each one (systems_of ps) c) all → Walked all cs (parts_by naming ps path outer cs) (one_each one (systems_of ps) c) (called_parts calling path ps)
  unfolding parts_by
  parts_go naming one calling grows goes [] path outer cs c same is = record { tables = same; declared = sym (append-nil (map called_in_legend cs)) }
  parts_go naming one calling grows goes (p ∷ ps) path outer cs c same is =
      let d : Listing = one p.system c in
      let ds : List Named = naming p.system (inside path p.text) outer cs in
      let first : Walked all cs ds d (calling p.system (inside path p.text)) = goes p.system (inside path p.text) outer cs c same (prefix_before d (one_each one (systems_of ps) d) all (each_grows one grows (systems_of ps) d) is) in
      let rest : Walked all ds (parts_by naming ps path outer ds) (one_each one (systems_of ps) d) (called_parts calling path ps) = parts_go naming one calling grows goes ps path outer ds d first.tables is in
      record {
        tables = rest.tables;
        declared = rest.declared ∙ ap (λ xs. xs ++ called_parts calling path ps) first.declared ∙ append_assoc (map called_in_legend cs) (calling p.system (inside path p.text)) (called_parts calling path ps);
      }

  -- the next component of the tables, and its parts
  owned_goes : (ts : Compounds) (naming : Naming) (one : ℕ → Listing → Listing) (calling : Calling) → ((n : ℕ) (c : Listing) → Grows c (one n c)) → Goes naming one calling →
      (k : SystemKind) (initial : ℕ) (o : Owned) (n : ℕ) (ps : List Part) → systems_of ps ≡ spread o.contained → (path : List ℕ) (outer : Option ℕ) (cs : List Named) (c : Listing) → map tabled cs ≡ c.components → IsPrefix (add_owned ts one (next_kind c k initial) o n) all →
      Walked all cs (next_by naming (slice_get all (length cs)) ps path outer cs) (add_owned ts one (next_kind c k initial) o n) (called_at path n ∷ called_parts calling path ps)
  owned_goes ts naming one calling grows goes k initial o n ps systems path outer cs c same is =
      let d : Listing = begun ts (next_kind c k initial) o n in
      let b = begun_component ts c k initial o n in
      let made : Component = b.0 in
      let whole : add_contained one o.contained d ≡ one_each one (systems_of ps) d = contained_each one o.contained d ∙ ap (λ ns. one_each one ns d) (sym systems) in
      let is' : IsPrefix (one_each one (systems_of ps) d) all = subst (λ (e : Listing). IsPrefix e all) whole is in
      let p : IsPrefix d all = prefix_before d (one_each one (systems_of ps) d) all (each_grows one grows (systems_of ps) d) is' in
      let many : length cs ≡ length c.components = sym (length-map cs tabled) ∙ ap (λ (xs : List Component). length xs) same in
      let here : slice_get all (length cs) ≡ Some made =
      ap (slice_get all) many ∙ ap (λ (xs : List Component). slice_get xs (length c.components)) p.1 ∙ still_there d.components p.0 (length c.components) made (ap (λ (xs : List Component). slice_get xs (length c.components)) b.2 ∙ last_entry c.components made) in
      let one_more : Named = named made path outer in
      let es : List Named = cs ++ one_more ∷ [] in
      let same' : map tabled es ≡ d.components = map-append tabled cs (one_more ∷ []) ∙ ap (λ xs. xs ++ made ∷ []) same ∙ sym b.2 in
      let w : Walked all es (parts_by naming ps path (monitor_of made.kind outer) es) (one_each one (systems_of ps) d) (called_parts calling path ps) = parts_go naming one calling grows goes ps path (monitor_of made.kind outer) es d same' is' in
      let first : map called_in_legend es ≡ map called_in_legend cs ++ called_at path n ∷ [] = map-append called_in_legend cs (one_more ∷ []) ∙ ap (λ j. map called_in_legend cs ++ called_at path j ∷ []) b.1 in
      subst (λ q. Walked all cs (next_by naming q ps path outer cs) (add_owned ts one (next_kind c k initial) o n) (called_at path n ∷ called_parts calling path ps)) (sym here) (record {
        tables = w.tables ∙ ap (λ (e : Listing). e.components) (sym whole);
        declared = w.declared ∙ ap (λ xs. xs ++ called_parts calling path ps) first ∙ append_assoc (map called_in_legend cs) (called_at path n ∷ []) (called_parts calling path ps);
      })

  module _ (s : Source) (ts : Compounds) (ss : List System) (count : length s.systems ≡ length ss) (systems : (n : ℕ) (y : System) → slice_get ss n ≡ Some y → systems_of (parts_of s n) ≡ spread y.owned.contained) where
    abbrev parts : List (List Part)
    parts = at_each (parts_of s) (length s.systems + 1)

    parts_there : (n : ℕ) → n < length s.systems + 1 → parts_at parts n ≡ parts_of s n
    parts_there n h = ap (λ (q : Option (List Part)). unwrap_or q []) (each_there (parts_of s) (length s.systems + 1) n h)

    below_goes : (bound : ℕ) → bound ≤ length ss → Goes (named_below all parts bound) (add_below ts ss bound) (called_below s bound)
    unfolding named_below add_below called_below
    below_goes zero le n path outer cs c same is = record { tables = same; declared = sym (append-nil (map called_in_legend cs)) }
    below_goes (suc bound) le n path outer cs c same is = go (n == bound) (λ m p o xs d e i. below_goes bound (omega (arith, le)) m p o xs d e i) is
      where
        here : Goes (named_below all parts bound) (add_below ts ss bound) (called_below s bound) → (q : Option System) → slice_get ss bound ≡ q → IsPrefix (system_by ts (add_below ts ss bound) q bound c) all →
            Walked all cs (next_by (named_below all parts bound) (slice_get all (length cs)) (parts_at parts bound) path outer cs) (system_by ts (add_below ts ss bound) q bound c) (called_at path bound ∷ called_parts (called_below s bound) path (parts_of s bound))
        here inner None e p = absurd (let y = there ss bound (omega (arith, le)) in cc)
        here inner (Some y) e p =
            let own : parts_at parts bound ≡ parts_of s bound = parts_there bound (omega (arith, le, count)) in
            subst (λ ps. Walked all cs (next_by (named_below all parts bound) (slice_get all (length cs)) ps path outer cs) (add_owned ts (add_below ts ss bound) (next_kind c y.kind y.initial) y.owned bound) (called_at path bound ∷ called_parts (called_below s bound) path (parts_of s bound))) (sym own)
            (owned_goes ts (named_below all parts bound) (add_below ts ss bound) (called_below s bound) (below_grows ts ss bound) inner y.kind y.initial y.owned bound (parts_of s bound) (systems bound y e) path outer cs c same p)

        go : (b : Bool) → Goes (named_below all parts bound) (add_below ts ss bound) (called_below s bound) → IsPrefix (if b then system_by ts (add_below ts ss bound) (slice_get ss bound) bound c else add_below ts ss bound n c) all →
            Walked all cs (if b then next_by (named_below all parts bound) (slice_get all (length cs)) (parts_at parts bound) path outer cs else named_below all parts bound n path outer cs)
            (if b then system_by ts (add_below ts ss bound) (slice_get ss bound) bound c else add_below ts ss bound n c)
            (if b then called_at path bound ∷ called_parts (called_below s bound) path (parts_of s bound) else called_below s bound n path)
        go true inner p = here inner (slice_get ss bound) refl p
        go false inner p = inner n path outer cs c same p

    named_top : (n : ℕ) → named_below all parts (suc n) n [] None [] ≡ next_by (named_below all parts n) (slice_get all 0) (parts_at parts n) [] None []
    unfolding named_below
    named_top n = ap (λ b. if b then next_by (named_below all parts n) (slice_get all 0) (parts_at parts n) [] None [] else named_below all parts n n [] None []) (eq-eqb n n refl)

    called_top : (n : ℕ) → called_below s (suc n) n [] ≡ called_at [] n ∷ called_parts (called_below s n) [] (parts_of s n)
    unfolding called_below
    called_top n = ap (λ b. if b then called_at [] n ∷ called_parts (called_below s n) [] (parts_of s n) else called_below s n n []) (eq-eqb n n refl)

    -- the whole program
    pub program_goes : (o : Owned) (initial : ℕ) → systems_of (parts_of s (length ss)) ≡ spread o.contained → IsPrefix (components_of_program ts ss o initial) all →
        Walked all [] (components_of s all) (components_of_program ts ss o initial) (all_called s)
    unfolding components_of_program components_of all_called
    program_goes o initial own is =
        let n : ℕ = length ss in
        let one : length s.systems + 1 ≡ suc n = omega (arith, count) in
        let ps : parts_at parts n ≡ parts_of s n = parts_there n (omega (arith, count)) in
        let w : Walked all [] (next_by (named_below all parts n) (slice_get all 0) (parts_of s n) [] None []) (components_of_program ts ss o initial) (called_at [] n ∷ called_parts (called_below s n) [] (parts_of s n)) =
        owned_goes ts (named_below all parts n) (add_below ts ss n) (called_below s n) (below_grows ts ss n) (below_goes n (omega arith)) system_kind.Process initial o n (parts_of s n) own [] None [] empty_listing refl is in
        let names : components_of s all ≡ next_by (named_below all parts n) (slice_get all 0) (parts_of s n) [] None [] =
        ap (λ b. named_below all parts b (length s.systems) [] None []) one ∙ ap (λ j. named_below all parts (suc n) j [] None []) count ∙ named_top n ∙ ap (λ qs. next_by (named_below all parts n) (slice_get all 0) qs [] None []) ps in
        let called : all_called s ≡ called_at [] n ∷ called_parts (called_below s n) [] (parts_of s n) = ap (λ b. called_below s b (length s.systems) []) one ∙ ap (λ j. called_below s (suc n) j []) count ∙ called_top n in
        record { tables = ap (map tabled) names ∙ w.tables; declared = ap (map called_in_legend) names ∙ w.declared ∙ sym called }
