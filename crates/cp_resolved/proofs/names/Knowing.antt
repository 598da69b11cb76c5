-- What is laid out so far knows the routines that are declared: the result of each, and each routine of a system type among its entries.
use Rattle.std.proofs.Common.{◌≡◌, ◌+◌, ◌<◌, ◌≤◌, ℕ, suc, Bool, true, false, if◌then◌else◌, List, [], ◌∷◌, ◌++◌, length, Some, None, slice_get, refl, sym, ap, subst, ◌∙◌, arith, append-nil, length-append}
use Rattle.cp_resolved.proofs.Words.{none-some, entry_among, entry_in, entry_of, Name, same_name, component_of, Scope, permanent_variable, find}
use Rattle.cp_resolved.proofs.Words.{seen_inside, is_seen, routine_of_system, routine_of_type, routine_begun, initial_begun, parts_begun, with_routine, parts_scope}
use Rattle.cp_resolved.proofs.Words.{initial_meaning, ResultsAre, Numbering, InStep, IsOuter, AreOuter}
use Rattle.cp_tree.specs.Syntax as syntax
use Rattle.cp_symbols.specs.declared.names.LayoutMeaning.TheVariants as meaning
use Rattle.cp_layout.specs.Layers.{Layer, Heading, System}
use Rattle.cp_layout.specs.LaidDeclarations.{Parameters, heading, heading_with, body, with_heading, open_routine, routine, routines, enter_system, system_groups}
use Rattle.cp_meaning.specs.Scopes as scopes
use Rattle.cp_meaning.specs.Declarations as meant
use Rattle.cp_meaning.specs.Declarations.{RoutineMeaning, routine_in, Block, names_of, with_names, types_in, type_in, part_in, parts_in, with_group, with_groups, type_named as named_type}
use Rattle.cp_meaning.specs.Systems as systems
use Rattle.cp_resolved.proofs.laid.Declared.{heading_declared, local_parts_declared, permanent_declared, system_groups_declared}
use Rattle.cp_resolved.proofs.laid.Declares.{Declares, heading_declares, local_parts_declare, permanent_parts_declare, system_groups_declare}
use Rattle.cp_resolved.proofs.names.Entries.{there, still_there}
use Rattle.cp_resolved.proofs.names.EntriesKnown.{heading_of, begun_headings, routine_headings, heading_result, HeadingsAre, headings_grown, heading_added, entry_longer}
use Rattle.cp_resolved.proofs.laid.Extends.{Longer, routine_names}
use Rattle.cp_resolved.proofs.laid.Grown.{body_grew}
use Rattle.cp_resolved.proofs.laid.Named.{Named, AreNames, AreTypes, AreSystems, names_more, systems_more, names_inside}
use Rattle.cp_resolved.proofs.agreeing.Outer.{outer_type, outer_constants, outer_variables}
use Rattle.cp_resolved.proofs.names.StepsOfRoutines.{body_count, body_systems, routine_count, routine_systems, groups_routines, groups_systems, begun_routines, begun_systems as begun_same}

-- ---- no routine stands around those of a system type

outer_seen : (s : Scope) → AreOuter s → AreOuter (seen_inside s)
outer_seen [] h = tt
outer_seen (d ∷ ds) h = go (is_seen d.1) (outer_seen ds h.1)
  where
    go : (b : Bool) → AreOuter (seen_inside ds) → AreOuter (if b then d ∷ seen_inside ds else seen_inside ds)
    go true rest = (h.0, rest)
    go false rest = rest

outer_names : (xs : List Name) (m : scopes.Meaning) (s : Scope) → IsOuter m → AreOuter s → AreOuter (with_names xs m s)
outer_names [] m s o h = h
outer_names (x ∷ xs) m s o h = outer_names xs m ((x, m) ∷ s) o (o, h)

outer_groups : (h : meant.Heading) (gs : List syntax.Group) → AreOuter h.scope → AreOuter (with_groups permanent_variable h gs).scope
outer_groups h [] o = o
outer_groups h (g ∷ gs) o = outer_groups (with_group permanent_variable false h g) gs (outer_names (names_of g.names) (permanent_variable (named_type h.scope g.type_name.name)) h.scope tt o)

outer_types : (s : Scope) (ds : List syntax.TypeDefinition) → AreOuter s → AreOuter (types_in s ds)
outer_types s [] h = h
outer_types s (d ∷ ds) h = outer_types ((d.name.name, scopes.type_meaning (type_in s d.value).0) ∷ (type_in s d.value).1) ds (tt, outer_type s d.value h)

outer_part : (b : Block) (p : syntax.Part) → AreOuter b.scope → AreOuter (part_in permanent_variable b p).scope
outer_part b (syntax.constants at ds) h = outer_constants b.scope ds h
outer_part b (syntax.types at ds) h = outer_types b.scope ds h
outer_part b (syntax.variables at gs) h = outer_variables b gs h

outer_parts : (b : Block) (ps : List syntax.Part) → AreOuter b.scope → AreOuter (parts_in permanent_variable b ps).scope
outer_parts b [] h = h
outer_parts b (p ∷ ps) h = outer_parts (part_in permanent_variable b p) ps (outer_part b p h)

pub outer_inside : (s : Scope) (d : syntax.System) → AreOuter s → AreOuter (parts_scope (seen_inside s) d)
outer_inside s d h = outer_parts (record { variables = []; scope = _ }) d.parts (outer_groups (record { parameters = []; scope = seen_inside s }) d.parameters (outer_seen s h))

pub no_routine : (y : Name) (s : Scope) (r : RoutineMeaning) (scope : Scope) → AreOuter s → routine_of_system y (find y s) scope ≡ Some r → ⊥
no_routine y [] r scope h e = absurd (none-some r e)
no_routine y (d ∷ ds) r scope h e = go (same_name y d.0) d.1 h.0 (no_routine y ds r scope h.1) e
  where
    go : (b : Bool) (m : scopes.Meaning) → IsOuter m → (routine_of_system y (find y ds) scope ≡ Some r → ⊥) → routine_of_system y (if b then Some m else find y ds) scope ≡ Some r → ⊥
    go true (scopes.constant_meaning b z) o rest f = none-some r f
    go true (scopes.type_meaning t) o rest f = none-some r f
    go true (scopes.local_variable t) o rest f = o
    go true (scopes.permanent_variable t) o rest f = none-some r f
    go true (scopes.routine_meaning q) o rest f = o
    go true (scopes.standard_meaning q) o rest f = none-some r f
    go false m o rest f = rest f

-- ---- names that lead to what is there

named_moved : (l m : Layer) → AreNames (length l.systems) (length l.routines) m.names → m.types ≡ l.types → m.systems ≡ l.systems → length l.routines ≤ length m.routines → Named l → Named m
named_moved l m ns et es le n =
    let names : AreNames (length l.systems) (length m.routines) m.names = names_more (length l.systems) (length l.systems) (length l.routines) (length m.routines) m.names (omega arith) le ns in
    let systems : AreSystems (length m.routines) l.systems = systems_more (length l.routines) (length m.routines) l.systems le n.systems in
    record {
      names = subst (λ ss. AreNames (length ss) (length m.routines) m.names) (sym es) names;
      types = subst (λ ss. AreTypes (length ss) m.types) (sym es) (subst (λ ts. AreTypes (length l.systems) ts) (sym et) n.types);
      systems = subst (λ ss. AreSystems (length m.routines) ss) (sym es) systems;
    }

opened_named : (l : Layer) (x : List ℕ) → Named l → Named (open_routine l x).1
opened_named l x n = record { names = (omega arith, n.names); types = n.types; systems = n.systems }

begun_named : (l : Layer) (r : syntax.Routine) → Named l → Named (routine_begun l r)
begun_named l r n =
    let x : Layer = (open_routine l r.name.name).1 in
    let h = heading x r.name.name r.kind in
    let a : Named h.1 = (heading_declared x r.name.name r.kind (opened_named l r.name.name n)).named in
    let b : Named (with_heading h.1 h.0) = record { names = a.names; types = a.types; systems = a.systems } in
    (local_parts_declared (with_heading h.1 h.0) r.parts b).named

pub body_named : (l : Layer) (b : syntax.Body) (c : Bool) → Named l → Named (body l b c)
body_named l b c n =
    let g = (body_grew l b.statements c).1 in
    let names : (body l b c).names ≡ l.names = ap (λ (j : Layer). j.names) g in
    named_moved l (body l b c) (subst (AreNames (length l.systems) (length l.routines)) (sym names) n.names) (ap (λ (j : Layer). j.types) g) (body_systems l b c) (omega (arith, body_count l b c)) n

-- after a routine its own name is visible beside those before it
routine_named : (l : Layer) (r : syntax.Routine) → Named l → Named (routine l r)
routine_named l r n =
    let b : Layer = body (routine_begun l r) r.body r.is_entry in
    let a : Named b = body_named (routine_begun l r) r.body r.is_entry (begun_named l r n) in
    let es : (routine l r).systems ≡ l.systems = routine_systems l r in
    let names : AreNames (length l.systems) (length l.routines) ((r.name.name, meaning.Routine (length l.routines)) ∷ l.names) = (omega arith, n.names) in
    let more : AreNames (length l.systems) (length (routine l r).routines) ((r.name.name, meaning.Routine (length l.routines)) ∷ l.names) =
    names_more (length l.systems) (length l.systems) (length l.routines) (length (routine l r).routines) ((r.name.name, meaning.Routine (length l.routines)) ∷ l.names) (omega arith) (omega (arith, routine_count l r)) names in
    record {
      names = subst (AreNames (length (routine l r).systems) (length (routine l r).routines)) (sym (routine_names l r)) (subst (λ ss. AreNames (length ss) (length (routine l r).routines) ((r.name.name, meaning.Routine (length l.routines)) ∷ l.names)) (sym es) more);
      types = a.types;
      systems = a.systems;
    }

module _ (k : Numbering) (p : syntax.Program) where
  -- ---- what is known

  pub record IsThere (l : Layer) (j : ℕ) (y : Name) (r : RoutineMeaning) : Type 0 where
    pub number : ℕ
    pub there : entry_of l j y ≡ Some number
    pub same : k.routines number ≡ r
    pub below : number < length l.headings

  abbrev pub EntriesAre : Layer → Type 0
  EntriesAre l = (j : ℕ) (y : Name) (r : RoutineMeaning) → j < length l.systems → routine_of_type p (component_of j) y ≡ Some r → IsThere l j y r

  pub record Knowing (l : Layer) : Type 0 where
    pub named : Named l
    pub headings : HeadingsAre k l.types l.headings
    pub entries : EntriesAre l

  pub still_known : (l m : Layer) (j : ℕ) (y : Name) (r : RoutineMeaning) → j < length l.systems → Longer l.systems m.systems → Longer l.headings m.headings → IsThere l j y r → IsThere m j y r
  still_known l m j y r low ss hs e =
      let s : (s : System) × (slice_get l.systems j ≡ Some s) = there l.systems j low in
      let first : entry_among s.0 l.headings 0 y ≡ Some e.number = sym (ap (λ o. entry_in o l.headings y) s.1) ∙ e.there in
      let again : entry_among s.0 m.headings 0 y ≡ Some e.number = ap (λ hs. entry_among s.0 hs 0 y) hs.1 ∙ entry_longer s.0 l.headings hs.0 0 y e.number first in
      let place : slice_get m.systems j ≡ Some s.0 = ap (λ ss. slice_get ss j) ss.1 ∙ still_there l.systems ss.0 j s.0 s.1 in
      let below : e.number < length l.headings = e.below in
      record {
        number = e.number;
        there = ap (λ o. entry_in o m.headings y) place ∙ again;
        same = e.same;
        below = omega (arith, below, ap (λ hs. length hs) hs.1, length-append l.headings hs.0);
      }

  pub entries_more : (l m : Layer) → m.systems ≡ l.systems → Longer l.headings m.headings → EntriesAre l → EntriesAre m
  entries_more l m es hs e j y r low f =
      let less : j < length l.systems = subst (λ ss. j < length ss) es low in
      still_known l m j y r less ([], es ∙ sym (append-nil l.systems)) hs (e j y r less f)

  pub declares_know : (l m : Layer) → Declares l m → Named m → Knowing l → Knowing m
  declares_know l m d n h =
      let hs : m.headings ≡ l.headings = ap (λ (j : Layer). j.headings) d.same in
      let ts : m.types ≡ l.types ++ d.types = ap (λ (j : Layer). j.types) d.same in
      record {
        named = n;
        headings = subst (HeadingsAre k m.types) (sym hs) (subst (λ ts. HeadingsAre k ts l.headings) (sym ts) (headings_grown k l.types d.types l.headings h.headings));
        entries = entries_more l m (ap (λ (j : Layer). j.systems) d.same) ([], hs ∙ sym (append-nil l.headings)) h.entries;
      }

  -- ---- routines

  abbrev pub Opens : Layer → Scope → syntax.Routine → Type 0
  Opens l s r = k.routines (length l.routines) ≡ routine_in (with_routine s r) r

  begun_headings_are : (l : Layer) (s : Scope) (r : syntax.Routine) → InStep k l.types l.names s → Opens l s r → length l.headings ≡ length l.routines → HeadingsAre k l.types l.headings → HeadingsAre k (routine_begun l r).types (routine_begun l r).headings
  begun_headings_are l s r i o c h =
      let x : Layer = (open_routine l r.name.name).1 in
      let y : Heading × Layer = heading x r.name.name r.kind in
      let j : Layer = with_heading y.1 y.0 in
      let d : Declares x y.1 = heading_declares x r.name.name r.kind in
      let e : Declares j (routine_begun l r) = local_parts_declare j r.parts in
      let t : Scope = with_routine s r in
      let ts : y.1.types ≡ l.types ++ d.types = ap (λ (m : Layer). m.types) d.same in
      let before : HeadingsAre k y.1.types l.headings = subst (λ ts. HeadingsAre k ts l.headings) (sym ts) (headings_grown k l.types d.types l.headings h) in
      let own : ResultsAre k y.1.types (routine_in t r).result y.0.result = heading_result k x t r.name.name r.kind (refl, (length l.routines, refl, o), i) in
      let number : k.routines (length l.headings) ≡ routine_in t r = ap k.routines c ∙ o in
      let all : HeadingsAre k y.1.types (l.headings ++ y.0 ∷ []) = heading_added k y.1.types l.headings y.0 before (subst (λ m. ResultsAre k y.1.types m.result y.0.result) (sym number) own) in
      let grown : HeadingsAre k (y.1.types ++ e.types) (l.headings ++ y.0 ∷ []) = headings_grown k y.1.types e.types (l.headings ++ y.0 ∷ []) all in
      subst (HeadingsAre k (routine_begun l r).types) (sym (begun_headings l r)) (subst (λ ts. HeadingsAre k ts (l.headings ++ y.0 ∷ [])) (sym (ap (λ (m : Layer). m.types) e.same)) grown)

  -- where the statements of a routine begin
  pub begun_knows : (l : Layer) (s : Scope) (r : syntax.Routine) → InStep k l.types l.names s → Opens l s r → length l.headings ≡ length l.routines → Knowing l → Knowing (routine_begun l r)
  begun_knows l s r i o c h =
      record {
        named = begun_named l r h.named;
        headings = begun_headings_are l s r i o c h.headings;
        entries = entries_more l (routine_begun l r) (begun_same l r) (heading_of l r ∷ [], begun_headings l r) h.entries;
      }

  pub begun_count : (l : Layer) (r : syntax.Routine) → length l.headings ≡ length l.routines → length (routine_begun l r).headings ≡ suc (length (routine_begun l r).routines)
  begun_count l r c =
      let e : length (routine_begun l r).headings ≡ length l.headings + 1 = ap (λ hs. length hs) (begun_headings l r) ∙ length-append l.headings (heading_of l r ∷ []) in
      let f : length (routine_begun l r).routines ≡ length l.routines = ap (λ rs. length rs) (begun_routines l r) in
      omega (arith, e, f, c)

  pub routine_knows : (l : Layer) (s : Scope) (r : syntax.Routine) → InStep k l.types l.names s → Opens l s r → length l.headings ≡ length l.routines → Knowing l → Knowing (routine l r)
  routine_knows l s r i o c h =
      let b : Layer = routine_begun l r in
      let g = (body_grew b r.body.statements r.is_entry).1 in
      let hs : (routine l r).headings ≡ b.headings = ap (λ (j : Layer). j.headings) g in
      let ts : (routine l r).types ≡ b.types = ap (λ (j : Layer). j.types) g in
      record {
        named = routine_named l r h.named;
        headings = subst (HeadingsAre k (routine l r).types) (sym hs) (subst (λ ts. HeadingsAre k ts b.headings) (sym ts) (begun_headings_are l s r i o c h.headings));
        entries = entries_more l (routine l r) (routine_systems l r) (heading_of l r ∷ [], routine_headings l r) h.entries;
      }

  pub routine_even : (l : Layer) (r : syntax.Routine) → length l.headings ≡ length l.routines → length (routine l r).headings ≡ length (routine l r).routines
  routine_even l r c =
      let e : length (routine l r).headings ≡ length l.headings + 1 = ap (λ hs. length hs) (routine_headings l r) ∙ length-append l.headings (heading_of l r ∷ []) in
      omega (arith, e, c, routine_count l r)

  pub routines_even : (l : Layer) (rs : List syntax.Routine) → length l.headings ≡ length l.routines → length (routines l rs).headings ≡ length (routines l rs).routines
  unfolding routines
  routines_even l [] c = c
  routines_even l (r ∷ rs) c = routines_even (routine l r) rs (routine_even l r c)

  -- ---- initial statements

  pub initial_knows : (l : Layer) (ps : Parameters) (m : systems.SystemMeaning) → k.routines (length l.routines) ≡ initial_meaning m → length l.headings ≡ length l.routines → Knowing l → Knowing (initial_begun l ps)
  initial_knows l ps m o c h =
      let number : k.routines (length l.headings) ≡ initial_meaning m = ap k.routines c ∙ o in
      record {
        named = record { names = h.named.names; types = h.named.types; systems = h.named.systems };
        headings = heading_added k l.types l.headings (heading_with [] ps None) h.headings (subst (λ q. ResultsAre k l.types q.result None) (sym number) tt);
        entries = entries_more l (initial_begun l ps) refl (heading_with [] ps None ∷ [], refl) h.entries;
      }

  pub initial_count : (l : Layer) (ps : Parameters) → length l.headings ≡ length l.routines → length (initial_begun l ps).headings ≡ suc (length (initial_begun l ps).routines)
  initial_count l ps c =
      let e : length (l.headings ++ heading_with [] ps None ∷ []) ≡ length l.headings + 1 = length-append l.headings (heading_with [] ps None ∷ []) in
      omega (arith, e, c)

  -- ---- system types

  parts_named : (l : Layer) (d : syntax.System) → Named l → Named (parts_begun l d)
  parts_named l d n =
      let o : Layer = (enter_system l).1 in
      let a : Named o = record { names = names_inside (length l.systems) (length l.routines) l.names n.names; types = n.types; systems = n.systems } in
      (permanent_declared (system_groups o [] d.parameters).1 d.parts (system_groups_declared o [] d.parameters a).named).named

  pub parts_headings : (l : Layer) (d : syntax.System) → (parts_begun l d).headings ≡ l.headings
  parts_headings l d =
      let o : Layer = (enter_system l).1 in
      ap (λ (j : Layer). j.headings) (permanent_parts_declare (system_groups o [] d.parameters).1 d.parts).same ∙ ap (λ (j : Layer). j.headings) (system_groups_declare o [] d.parameters).same

  -- where the routines of a system type begin
  pub parts_know : (l : Layer) (d : syntax.System) → Knowing l → Knowing (parts_begun l d)
  parts_know l d h =
      let o : Layer = (enter_system l).1 in
      let y : Layer = (system_groups o [] d.parameters).1 in
      let a : Declares o y = system_groups_declare o [] d.parameters in
      let b : Declares y (parts_begun l d) = permanent_parts_declare y d.parts in
      let hs : (parts_begun l d).headings ≡ l.headings = parts_headings l d in
      let ts : (parts_begun l d).types ≡ (l.types ++ a.types) ++ b.types = ap (λ (j : Layer). j.types) b.same ∙ ap (λ (j : Layer). j.types ++ b.types) a.same in
      let grown : HeadingsAre k ((l.types ++ a.types) ++ b.types) l.headings = headings_grown k (l.types ++ a.types) b.types l.headings (headings_grown k l.types a.types l.headings h.headings) in
      record {
        named = parts_named l d h.named;
        headings = subst (HeadingsAre k (parts_begun l d).types) (sym hs) (subst (λ ts. HeadingsAre k ts l.headings) (sym ts) grown);
        entries = entries_more l (parts_begun l d) (groups_systems l d) ([], hs ∙ sym (append-nil l.headings)) h.entries;
      }

  pub parts_even : (l : Layer) (d : syntax.System) → length l.headings ≡ length l.routines → length (parts_begun l d).headings ≡ length (parts_begun l d).routines
  parts_even l d c = ap (λ hs. length hs) (parts_headings l d) ∙ c ∙ sym (ap (λ rs. length rs) (groups_routines l d))
