-- The tables of an accepted program have few processes, monitors, components and permanent cells.
use Rattle.std.proofs.Common.{◌≡◌, ℕ, suc, ◌+◌, ◌*◌, ◌<◌, ◌≤◌, ℤ, Bool, true, false, ◌||◌, if◌then◌else◌, List, [], ◌∷◌, ◌++◌, length, None, refl, sym, ap, subst, ◌∙◌, arith, length-append}
use Rattle.cp_resolved.proofs.Words.{nat_lt, ◌-◌, Ok, ltb-false, length-map, SystemKind, Program, Tree, CheckFault, Use, Census, no_use, Judged, faults, Scopes, census}
use Rattle.cp_resolved.proofs.Words.{start, Step, after_faults, Component, Process, most, plain, laid, Layer, System, Tables, statements_loud, IsAccepted, SystemMeaning}
use Rattle.cp_resolved.proofs.Words.{declared, program_system, system_of, first_component, first_components, AreFew, enumerations_of, tokens_of, IsPlain, IsRead}
use Rattle.cp_resolved.proofs.Words.{token_of_type, C20}
use Rattle.cp_tree.specs.declared.declaration.SystemKind.TheVariants as system_kind
use Rattle.cp_scope.specs.declared.fault.CheckFault.TheVariants as check_fault
use Rattle.cp_check.specs.declared.types.Spot.TheVariants as spot
use Rattle.cp_check.specs.Statements.{statements}
use Rattle.cp_check.specs.Routines.{need_of}
use Rattle.cp_check.specs.Faults.{declarations, program_context, declarations_and_body, is_too_large, limit_faults, faults_of}
use Rattle.cp_layout.specs.LaidComponents.{Listing, empty_listing, process_at, next_kind, component_with, with_component, contents_least}
use Rattle.cp_meaning.specs.Components.{Listed, components_of}
use Rattle.cp_resolved.proofs.agreeing.AgreeingBodies.{Uses, loud_uses}
use Rattle.cp_resolved.proofs.agreeing.AgreeingProgram.{ProgramResult, program_agrees}
use Rattle.cp_resolved.proofs.agreeing.AgreeingRoutines.{none_after}
use Rattle.cp_resolved.proofs.components.ComponentsOfTree.{end, last, low, program_kind, program_meaning, tables_listed}
use Rattle.cp_resolved.proofs.components.ComponentsStand.{count_stands}
use Rattle.cp_resolved.proofs.components.CountedComponents.{weight, all_weights, whole_weight, listed_weigh, program_few}
use Rattle.cp_resolved.proofs.components.CountedProcesses.{process_weight, program_weighs, steps_processes}
use Rattle.cp_resolved.proofs.agreeing.DifferentIndexed.{tokens_different}
use Rattle.cp_resolved.proofs.agreeing.DifferentTokens.{all_numbered, all_few}
use Rattle.cp_resolved.proofs.declarations.EnumerationsRead.{read_few, read_different}
use Rattle.cp_resolved.proofs.counts.FewCellsOfTables.{permanents_few}
use Rattle.cp_resolved.proofs.counts.FewReferences.{each_entry}
use Rattle.cp_resolved.proofs.components.Listing.{program_keeps}
use Rattle.cp_resolved.proofs.systems.OwnedParts.{all_contained, AreLow}
use Rattle.cp_resolved.proofs.declarations.Plain.{plain_law}
use Rattle.cp_resolved.proofs.declarations.SmallTexts.{read_small}
use Rattle.cp_resolved.proofs.sound.SoundComponents.{tabled, listing_of, layer_of}
use Rattle.cp_meaning_laws.proofs.Once.{or_left, or_right, uses_sound as faults_left}

-- ---- what is listed, by how many components there are

pub record IsBounded (c : Listing) : Type 0 where
  pub permanents : length c.permanents ≤ length c.components * (8192 * 20000)
  pub parts : c.monitors + length c.processes ≤ length c.components
  pub some : 1 ≤ length c.processes

-- one more component, which is a process, a monitor or neither
one_bounded : (k : SystemKind) (c : Listing) (image : List ℤ) (system number : ℕ) → length image ≤ 8192 * 20000 → IsBounded c → IsBounded (with_component (next_kind c k number).1 (next_kind c k number).0 image system)
one_bounded k c image system number few h = go k
  where
    more : (x : Component) → length (c.permanents ++ image) ≤ length (c.components ++ x ∷ []) * (8192 * 20000)
    more x =
        let a = length-append c.permanents image in
        let b = length-append c.components (x ∷ []) in
        let old = h.permanents in
        omega (arith, a, b, old, few)

    count : (x : Component) → length (c.components ++ x ∷ []) ≡ length c.components + 1
    count x = length-append c.components (x ∷ [])

    go : (k : SystemKind) → IsBounded (with_component (next_kind c k number).1 (next_kind c k number).0 image system)
    go system_kind.Process =
        let x : Component = component_with (next_kind c system_kind.Process number).0 (length c.permanents) system in
        let n = count x in
        let p = h.parts in
        let m = length-append c.processes (process_at (length c.components) number ∷ []) in
        record { permanents = more x; parts = omega (arith, n, p, m); some = omega (arith, m) }
    go s =
        let x : Component = component_with (next_kind c s number).0 (length c.permanents) system in
        let n = count x in
        let p = h.parts in
        record { permanents = more x; parts = omega (arith, n, p); some = h.some }

first_bounded : (image : List ℤ) (system number : ℕ) → length image ≤ 8192 * 20000 → IsBounded (with_component (next_kind empty_listing system_kind.Process number).1 (next_kind empty_listing system_kind.Process number).0 image system)
first_bounded image system number few = record { permanents = omega (arith, few); parts = omega arith; some = omega arith }

pub listing_bounded : (t : Tree) → IsRead t.program → IsAccepted t → IsBounded (listing_of (layer_of t))
listing_bounded t read accepted =
    let l : Layer = layer_of t in
    let held = permanents_few t read accepted in
    let own : length (contents_least l.types l.owned.contents) ≤ 8192 * 20000 = (let b : length (contents_least l.types l.owned.contents) + 8192 * 0 ≤ 8192 * 20000 = held.own in omega (arith, b)) in
    program_keeps IsBounded l.types l.systems
    (λ k s e c h. one_bounded s.kind c (contents_least l.types s.owned.contents) k s.initial (each_entry (λ (q : System). length (contents_least l.types q.owned.contents) ≤ 8192 * 20000) l.systems k s e held.systems) h)
    l.owned (length l.routines - 1) (first_bounded (contents_least l.types l.owned.contents) (length l.systems) (length l.routines - 1) own)

-- ---- what the checker counts of an accepted program

pub agreed : (t : Tree) → IsRead t.program → IsAccepted t → ProgramResult (tokens_of t.program) t.program
agreed t read accepted =
    let p : Program = t.program in
    let different = tokens_different p read.proper.indexed in
    program_agrees (tokens_of p) p t refl accepted (all_numbered p different) (read_small p read) (all_few (token_of_type p) (λ k. (system_of p k).kind) (enumerations_of p) (read_few p read) (read_different p read)) different

within_limits : (at : ℕ) (s : Scopes) (u : Use) → limit_faults at s (Ok u) ≡ [] → is_too_large (census s.inner.names s.shapes) u ≡ false
within_limits at s u e = go (is_too_large (census s.inner.names s.shapes) u) e
  where
    go : (b : Bool) → (if b then check_fault.Rule at C20 ∷ [] else []) ≡ [] → b ≡ false
    go true f = absurd (let bad : check_fault.Rule at C20 ∷ [] ≡ [] = f in cc)
    go false f = refl

pub record IsFewCensus (c : Census) : Type 0 where
  pub processes : c.processes ≤ 15
  pub components : c.components ≤ 64

few_census : (c : Census) (u : Use) → is_too_large c u ≡ false → IsFewCensus c
few_census c u e =
    let rest : (nat_lt 64 c.components || (nat_lt 8192 c.cells || (nat_lt 4096 c.need || nat_lt 4096 (need_of u)))) ≡ false = or_right (nat_lt 15 c.processes) (nat_lt 64 c.components || (nat_lt 8192 c.cells || (nat_lt 4096 c.need || nat_lt 4096 (need_of u)))) e in
    record {
      processes = ltb-false 15 c.processes (or_left (nat_lt 15 c.processes) (nat_lt 64 c.components || (nat_lt 8192 c.cells || (nat_lt 4096 c.need || nat_lt 4096 (need_of u)))) e);
      components = ltb-false 64 c.components (or_left (nat_lt 64 c.components) (nat_lt 8192 c.cells || (nat_lt 4096 c.need || nat_lt 4096 (need_of u))) rest);
    }

none_first : (fs : List CheckFault) (j : Judged Use) → faults (after_faults fs j) ≡ [] → faults j ≡ []
none_first fs j e = ap faults (sym (none_after fs j e)) ∙ e

pub census_few : (t : Tree) → IsRead t.program → IsAccepted t → IsFewCensus (census (declarations start t.program).scopes.inner.names (declarations start t.program).scopes.shapes)
unfolding faults_of declarations_and_body
census_few t read accepted =
    let d : Step = declarations start t.program in
    let j : Judged Use = statements d.scopes program_context (Ok no_use) t.program.body.statements in
    let e : limit_faults t.program.period d.scopes (after_faults d.faults j) ≡ [] = accepted in
    let none : faults (after_faults d.faults j) ≡ [] = faults_left t.program.period d.scopes (after_faults d.faults j) e in
    let same : after_faults d.faults j ≡ j = none_after d.faults j none in
    let uses : Uses j = loud_uses j (statements_loud d.scopes program_context (agreed t read accepted).heard t.program.body.statements (Ok no_use) tt) (none_first d.faults j none) in
    few_census (census d.scopes.inner.names d.scopes.shapes) uses.value
    (within_limits t.program.period d.scopes uses.value (subst (λ (i : Judged Use). limit_faults t.program.period d.scopes i ≡ []) (same ∙ uses.is) e))

-- ---- components

length_weighs : (xs : List Listed) → length xs ≡ weight (λ k. 1) xs
length_weighs [] = refl
length_weighs (x ∷ xs) = let a = length_weighs xs in omega (arith, a)

components_within : (t : Tree) → IsRead t.program → IsAccepted t → length (components_of t.program) ≤ 65
unfolding whole_weight
components_within t read accepted =
    let p : Program = t.program in
    let h : IsPlain p = plain_law t read accepted in
    let r = agreed t read accepted in
    let d : Step = declarations start p in
    let few = (census_few t read accepted).components in
    let vs = (system_of p (program_system p)).variables in
    let same : vs ≡ (declared p).variables = ap (λ (m : SystemMeaning). m.variables) (program_meaning t h) in
    let below : AreLow (program_system p) (all_contained (declared p).variables) = subst (λ ws. AreLow (program_system p) (all_contained ws)) same (low t h (program_system p)) in
    let all = program_few (tokens_of p) p d.scopes.shapes (program_system p) r.counted (low t h) (spot.Permanent None) (declared p).variables d.scopes.inner.names below r.declares (program_system p) (omega (arith, few)) in
    let moved : all_weights (whole_weight p (λ k. 1) (program_system p)) vs ≡ all_weights (whole_weight p (λ k. 1) (program_system p)) (declared p).variables = ap (all_weights (whole_weight p (λ k. 1) (program_system p))) same in
    let listed : weight (λ k. 1) (components_of p) ≡ 1 + all_weights (whole_weight p (λ k. 1) (program_system p)) vs = listed_weigh p (λ k. 1) (suc (program_system p)) (program_system p) [] in
    let count = length_weighs (components_of p) in
    omega (arith, few, all, moved, listed, count)

-- ---- the tables

pub components_few : (t : Tree) (r : Tables) → plain r ≡ laid t → IsRead t.program → IsAccepted t → length r.components ≤ 65
components_few t r e read accepted =
    let p : Program = t.program in
    let h : IsPlain p = plain_law t read accepted in
    let a : length r.components ≡ length (first_components p) = count_stands p (end t h).types (end t h).systems (end t h).owned (last t h) r (tables_listed t h r e) in
    let b : length (first_components p) ≡ length (components_of p) = length-map (components_of p) (first_component p) in
    let c = components_within t read accepted in
    omega (arith, a, b, c)

pub monitors_few : (t : Tree) (r : Tables) → plain r ≡ laid t → IsRead t.program → IsAccepted t → r.monitors ≤ 64
monitors_few t r e read accepted =
    let c : Listing = listing_of (layer_of t) in
    let b = listing_bounded t read accepted in
    let count : length r.components ≡ length c.components = ap (λ (xs : List Component). length xs) (tabled r t e).components in
    let few = components_few t r e read accepted in
    let same : r.monitors ≡ c.monitors = (tabled r t e).monitors in
    let parts = b.parts in
    let some = b.some in
    omega (arith, count, few, same, parts, some)

pub cells_few : (t : Tree) (r : Tables) → plain r ≡ laid t → IsRead t.program → IsAccepted t → length r.permanents ≤ 65 * (8192 * 20000)
cells_few t r e read accepted =
    let c : Listing = listing_of (layer_of t) in
    let b = listing_bounded t read accepted in
    let count : length r.components ≡ length c.components = ap (λ (xs : List Component). length xs) (tabled r t e).components in
    let few = components_few t r e read accepted in
    let same : length r.permanents ≡ length c.permanents = ap (λ (zs : List ℤ). length zs) (tabled r t e).permanents in
    let all = b.permanents in
    omega (arith, count, few, same, all)

pub components_below : (t : Tree) (r : Tables) → plain r ≡ laid t → IsRead t.program → IsAccepted t → length r.components < most
components_below t r e read accepted = let few = components_few t r e read accepted in omega (arith, few)

pub cells_below : (t : Tree) (r : Tables) → plain r ≡ laid t → IsRead t.program → IsAccepted t → length r.permanents < most
cells_below t r e read accepted = let few = cells_few t r e read accepted in omega (arith, few)

-- ---- processes

processes_within : (t : Tree) → IsRead t.program → IsAccepted t → weight (λ k. process_weight (system_of t.program k).kind) (components_of t.program) ≤ 16
unfolding whole_weight
processes_within t read accepted =
    let p : Program = t.program in
    let h : IsPlain p = plain_law t read accepted in
    let r = agreed t read accepted in
    let d : Step = declarations start p in
    let g : ℕ → ℕ = λ k. process_weight (system_of p k).kind in
    let few = (census_few t read accepted).processes in
    let vs = (system_of p (program_system p)).variables in
    let same : vs ≡ (declared p).variables = ap (λ (m : SystemMeaning). m.variables) (program_meaning t h) in
    let below : AreLow (program_system p) (all_contained (declared p).variables) = subst (λ ws. AreLow (program_system p) (all_contained ws)) same (low t h (program_system p)) in
    let all = program_weighs (tokens_of p) p d.scopes.shapes (program_system p) r.counted (low t h) (declared p).variables d.scopes.inner.names below r.declares (program_system p) (omega (arith, few)) in
    let moved : all_weights (whole_weight p g (program_system p)) vs ≡ all_weights (whole_weight p g (program_system p)) (declared p).variables = ap (all_weights (whole_weight p g (program_system p))) same in
    let own : g (program_system p) ≡ 1 = ap process_weight (program_kind t h) in
    let listed : weight g (components_of p) ≡ g (program_system p) + all_weights (whole_weight p g (program_system p)) vs = listed_weigh p g (suc (program_system p)) (program_system p) [] in
    omega (arith, few, all, moved, own, listed)

pub processes_few : (t : Tree) (r : Tables) → plain r ≡ laid t → IsRead t.program → IsAccepted t → length r.processes ≤ 16
processes_few t r e read accepted =
    let p : Program = t.program in
    let h : IsPlain p = plain_law t read accepted in
    let a = ap (λ (ps : List Process). length ps) (tables_listed t h r e).processes in
    let b = steps_processes p (end t h).types (end t h).systems (end t h).owned (last t h) empty_listing (components_of p) in
    let c = processes_within t read accepted in
    omega (arith, a, b, c)

-- ---- all of it

pub accepted_few : (t : Tree) (r : Tables) → plain r ≡ laid t → IsRead t.program → IsAccepted t → AreFew r
accepted_few t r e read accepted =
    record {
      processes = processes_few t r e read accepted;
      monitors = monitors_few t r e read accepted;
      components = components_below t r e read accepted;
      permanents = cells_below t r e read accepted;
    }
