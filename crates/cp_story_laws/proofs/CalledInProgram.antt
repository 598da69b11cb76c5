-- Each call in the items of a program's tables is one of a routine.
use Rattle.std.proofs.Common.{◌≡◌, ℕ, zero, suc, ◌+◌, ◌<◌, ◌≤◌, Bool, true, false, if◌then◌else◌, List, [], ◌∷◌, ◌++◌, length, map, Some, None, slice_get, refl, sym, ap, subst, ◌∙◌, ◌⊎◌, inl, inr, append_assoc, length-append, arith}
use Rattle.std.proofs.lemmas.Bool.{cases_lt}
use Rattle.std.proofs.lemmas.Option.{none-some}
use Rattle.std.specs.Prelude.{slice_index_or}
use Rattle.cp_tree.specs.Syntax as syntax
use Rattle.cp_tree.specs.Syntax.{Tree}
use Rattle.cp_tree.specs.declared.constant.Identifier.{Identifier}
use Rattle.cp_slots.specs.Code.{Item, action_seen, item_seen}
use Rattle.cp_slots.specs.declared.item.Item as code_item
use Rattle.cp_slots.specs.Tables.{Tables, item_at, no_item}
use Rattle.cp_symbols.specs.declared.kinds.CellType.{CellType}
use Rattle.cp_symbols.specs.declared.kinds.CellType.TheVariants as types
use Rattle.cp_symbols.specs.declared.names.LayoutMeaning.{LayoutMeaning}
use Rattle.cp_symbols.specs.declared.names.LayoutMeaning.TheVariants as meaning
use Rattle.cp_layout.specs.Laid.{PlainTables, plain, laid, tables_laid, whole}
use Rattle.cp_layout.specs.Layers.{Layer, Heading, Names, Pending, System, is_open, seen_inside, nothing_laid}
use Rattle.cp_layout.specs.LaidDeclarations.{Parameters, heading, heading_with, body, with_new_frame, with_heading, open_routine, routine, routines, initial_statement, enter_system, system_of, system_parameter, system_parameters_of, system_group, system_groups, system, with_type_name, definition, system_definition, system_definitions, constants, variables, program_part, program_parts, program}
use Rattle.cp_layout.specs.LaidTypes.{type_of_name, written_type}
use Rattle.cp_meaning.specs.Scopes as scopes
use Rattle.cp_meaning.specs.Scopes.{Scope}
use Rattle.cp_meaning.specs.Systems.{Declared, system_in, definition_in, program_part_in, declared, own_meaning, program_system}
use Rattle.cp_resolved.specs.Begun.{routine_begun, parts_begun, system_begun}
use Rattle.cp_resolved.specs.Fit.{nothing_declared}
use Rattle.cp_resolved.specs.Openings.{Opening, with_routine, parts_scope, routine_openings, initial_opening, system_openings, definition_openings, definitions_openings, part_openings, parts_openings, openings_of}
use Rattle.cp_resolved.specs.Small.{Each}
use Rattle.cp_resolved.proofs.components.ComponentsStand.{entry_there as seam}
use Rattle.cp_resolved.proofs.laid.Declares.{type_declares, constants_declare, variables_declare, heading_declares, local_parts_declare, permanent_parts_declare, system_groups_declare}
use Rattle.cp_resolved.proofs.laid.Extends.{routine_names, system_names}
use Rattle.cp_resolved.proofs.names.Entries.{last_or_before}
use Rattle.cp_resolved.proofs.names.Headed.{AreAt, at_left, at_right}
use Rattle.cp_resolved.proofs.names.KeptNames as kept
use Rattle.cp_resolved.proofs.names.StepsOfRoutines.{begun_systems, body_count, routine_count, routines_count, openings_count, groups_routines, groups_systems}
use Rattle.cp_story_laws.proofs.CalledRoutines.{HasName, IsCalled, CallsRoutine, IsName, AreEntries, Calling, body_calls}

module _ (os : List Opening) where
  abbrev AreGood : Names → Type 0
  AreGood ns = Each (λ d. IsName os d.1) ns

  -- ---- names

  abbrev IsOther : LayoutMeaning → Type 0
  IsOther (meaning.Routine n) = ⊥
  IsOther m = Unit {0}

  other_name : (m : LayoutMeaning) → IsOther m → IsName os m
  other_name (meaning.Routine n) h = absurd h
  other_name _ h = tt

  one_more : (x : List ℕ) (m : LayoutMeaning) (ns : Names) → IsOther m → AreGood ns → AreGood ((x, m) ∷ ns)
  one_more x m ns i h = (other_name m i, h)

  seen_names : (ns : Names) → AreGood ns → AreGood (seen_inside ns)
  seen_names [] h = tt
  seen_names (d ∷ ds) h = go (is_open d.1) (seen_names ds h.1)
    where
      go : (b : Bool) → AreGood (seen_inside ds) → AreGood (if b then d ∷ seen_inside ds else seen_inside ds)
      go true rest = (h.0, rest)
      go false rest = rest

  parameter_names : (l : Layer) (ps : Parameters) (x : List ℕ) (v : CellType) → AreGood l.names → AreGood (system_parameter l ps x v).1.names
  parameter_names l ps x (types.System n) h = (tt, h)
  parameter_names l ps x _ h = (tt, h)

  parameters_names : (l : Layer) (ps : Parameters) (v : CellType) (is : List Identifier) → AreGood l.names → AreGood (system_parameters_of l ps v is).1.names
  unfolding system_parameters_of
  parameters_names l ps v [] h = h
  parameters_names l ps v (i ∷ is) h = parameters_names (system_parameter l ps i.name v).1 (system_parameter l ps i.name v).0 v is (parameter_names l ps i.name v h)

  groups_names : (l : Layer) (ps : Parameters) (gs : List syntax.Group) → AreGood l.names → AreGood (system_groups l ps gs).1.names
  unfolding system_groups
  groups_names l ps [] h = h
  groups_names l ps (g ∷ gs) h = groups_names (system_group l ps g).1 (system_group l ps g).0 gs (parameters_names l ps (type_of_name l g.type_name.name) g.names h)

  -- ---- steps that add no items

  same_calls : (l m : Layer) → m.systems ≡ l.systems → m.pending ≡ l.pending → m.items ≡ l.items → AreGood m.names → Calling os l → Calling os m
  same_calls l m ss ps is ns h =
      record {
        names = ns;
        systems = subst (AreEntries os) (sym ss) h.systems;
        pending = subst (λ (qs : List Pending). Each (λ (p : Pending). CallsRoutine os p.action) qs) (sym ps) h.pending;
        items = subst (λ (js : List Item). Each (λ (i : Item). CallsRoutine os i.action) js) (sym is) h.items;
      }

  body_call : (l : Layer) (b : syntax.Body) (checks : Bool) → Calling os l → Calling os (body l b checks)
  body_call l b checks h = let k = body_calls os l b.statements checks h in record { names = k.names; systems = k.systems; pending = k.pending; items = k.items }

  initial_calls : (l : Layer) (ps : Parameters) (b : syntax.Body) → Calling os l → Calling os (initial_statement l ps b)
  initial_calls l ps b h =
      let k : Layer = with_heading (with_new_frame l) (heading_with [] ps None) in
      body_call k b true (record { names = h.names; systems = h.systems; pending = h.pending; items = h.items })

  -- ---- routines

  module _ (l : Layer) (r : syntax.Routine) where
    abbrev x : Layer
    x = (open_routine l r.name.name).1

    abbrev h : Heading × Layer
    h = heading x r.name.name r.kind

    begun_items : (routine_begun l r).items ≡ l.items
    begun_items = ap (λ (j : Layer). j.items) (local_parts_declare (with_heading h.1 h.0) r.parts).same ∙ ap (λ (j : Layer). j.items) (heading_declares x r.name.name r.kind).same

    begun_pending : (routine_begun l r).pending ≡ l.pending
    begun_pending = ap (λ (j : Layer). j.pending) (local_parts_declare (with_heading h.1 h.0) r.parts).same ∙ ap (λ (j : Layer). j.pending) (heading_declares x r.name.name r.kind).same

    begun_names : IsCalled os (length l.routines) → AreGood l.names → AreGood (routine_begun l r).names
    begun_names own k =
        kept.local_parts_keep AreGood IsOther one_more (λ b z. tt) (λ v. tt) (λ o v i. tt) (with_heading h.1 h.0) r.parts
        (kept.heading_keep AreGood IsOther one_more (λ b z. tt) (λ v. tt) (λ o v i. tt) x r.name.name r.kind (own, k))

    pub routine_calls : IsCalled os (length l.routines) → Calling os l → Calling os (routine l r)
    routine_calls own k =
        let b = body_call (routine_begun l r) r.body r.is_entry (same_calls l (routine_begun l r) (begun_systems l r) begun_pending begun_items (begun_names own k.names) k) in
        record { names = subst AreGood (sym (routine_names l r)) (own, k.names); systems = b.systems; pending = b.pending; items = b.items }

  routines_call : (l : Layer) (owner : ℕ) (s : Scope) (rs : List syntax.Routine) → AreAt os (length l.routines) (routine_openings owner s rs) → Calling os l → Calling os (routines l rs)
  unfolding routines
  routines_call l owner s [] at h = h
  routines_call l owner s (r ∷ rs) at h =
      routines_call (routine l r) owner (with_routine s r) rs (subst (λ (n : ℕ). AreAt os n (routine_openings owner (with_routine s r) rs)) (sym (routine_count l r)) at.1)
      (routine_calls l r (subst HasName (sym at.0) tt) h)

  -- those of a system type
  span_called : (owner : ℕ) (s : Scope) (rs : List syntax.Routine) (n i : ℕ) → AreAt os n (routine_openings owner s rs) → n ≤ i → i < n + length rs → IsCalled os i
  span_called owner s [] n i at low high = absurd (omega (arith, low, high))
  span_called owner s (r ∷ rs) n i at low high = go (cases_lt n i) (λ less. span_called owner (with_routine s r) rs (suc n) i at.1 (omega (arith, less)) (omega (arith, high)))
    where
      go : (n < i) ⊎ (i ≤ n) → (n < i → IsCalled os i) → IsCalled os i
      go (inl less) later = later less
      go (inr le) later = let same : n ≡ i = omega (arith, low, le) in subst (IsCalled os) same (subst HasName (sym at.0) tt)

  -- ---- what is laid out adds so many routines

  record Adds (l m : Layer) (xs : List Opening) : Type 0 where
    calls : Calling os m
    count : length m.routines ≡ length l.routines + length xs

  abbrev IsAt : Layer → List Opening → Type 0
  IsAt l xs = AreAt os (length l.routines) xs

  adds_both : (l k m : Layer) (xs ys : List Opening) → IsAt l (xs ++ ys) → Adds l k xs → (IsAt k ys → Adds k m ys) → Adds l m (xs ++ ys)
  adds_both l k m xs ys at a f =
      let b = f (subst (λ (n : ℕ). AreAt os n ys) (sym a.count) (at_right os (length l.routines) xs ys at)) in
      record { calls = b.calls; count = (let c = a.count in let d = b.count in omega (arith, c, d, length-append xs ys)) }

  adds_none : (l m : Layer) → length m.routines ≡ length l.routines → Calling os m → Adds l m []
  adds_none l m e h = record { calls = h; count = omega (arith, e) }

  -- ---- system types

  module _ (l : Layer) (d : syntax.System) where
    abbrev e : Layer
    e = (enter_system l).1

    abbrev g : Parameters × Layer
    g = system_groups e [] d.parameters

    abbrev z : Layer
    z = parts_begun l d

    parts_items : z.items ≡ l.items
    parts_items = ap (λ (j : Layer). j.items) (permanent_parts_declare g.1 d.parts).same ∙ ap (λ (j : Layer). j.items) (system_groups_declare e [] d.parameters).same

    parts_pending : z.pending ≡ l.pending
    parts_pending = ap (λ (j : Layer). j.pending) (permanent_parts_declare g.1 d.parts).same ∙ ap (λ (j : Layer). j.pending) (system_groups_declare e [] d.parameters).same

    parts_call : Calling os l → Calling os z
    parts_call h =
        same_calls l z (groups_systems l d) parts_pending parts_items
        (kept.permanent_parts_keep AreGood IsOther one_more (λ b n. tt) (λ v. tt) (λ n v. tt) (λ n v. tt) g.1 d.parts (groups_names e [] d.parameters (seen_names l.names h.names))) h

    abbrev b : Layer
    b = system_begun l d

    abbrev m : Layer
    m = initial_statement b g.0 d.body

    system_calls : (owner : ℕ) (s : Scope) → IsAt l (system_openings owner s d) → Calling os l → Adds l (system l d).1 (system_openings owner s d)
    unfolding system
    system_calls owner s at h =
        let mine : List Opening = routine_openings owner (parts_scope s d) d.routines in
        let last : List Opening = initial_opening owner (system_in s d) ∷ [] in
        let here : AreAt os (length l.routines) mine = at_left os (length l.routines) mine last at in
        let begun : length z.routines ≡ length l.routines = ap (λ rs. length rs) (groups_routines l d) in
        let many : length b.routines ≡ length z.routines + length d.routines = routines_count z d.routines in
        let k : Calling os m = initial_calls b g.0 d.body (routines_call z owner (parts_scope s d) d.routines (subst (λ (n : ℕ). AreAt os n mine) (sym begun) here) (parts_call h)) in
        let new : System = system_of d.kind m.owned (length l.routines) (length b.routines) in
        record {
          calls = record {
            names = subst AreGood (sym (system_names l d)) h.names;
            systems = λ j n y there low high. go owner s here begun many k new refl refl j n y (last_or_before m.systems new j y there) low high;
            pending = k.pending;
            items = k.items;
          };
          count = (
              let one : length m.routines ≡ suc (length b.routines) = body_count (with_heading (with_new_frame b) (heading_with [] g.0 None)) d.body true in
              let two = openings_count owner (parts_scope s d) d.routines in
              omega (arith, one, many, begun, two, length-append mine last));
        }
      where
        go : (owner : ℕ) (s : Scope) → AreAt os (length l.routines) (routine_openings owner (parts_scope s d) d.routines) → length z.routines ≡ length l.routines → length b.routines ≡ length z.routines + length d.routines → Calling os m → (new : System) → new.first ≡ length l.routines → new.initial ≡ length b.routines →
            (j n : ℕ) (y : System) → (slice_get m.systems j ≡ Some y) ⊎ ((j ≡ length m.systems) × (y ≡ new)) → y.first ≤ n → n < y.initial → IsCalled os n
        go owner s here begun many k new f i j n y (inl there) low high = k.systems j n y there low high
        go owner s here begun many k new f i j n y (inr w) low high =
            let first : y.first ≡ length l.routines = ap (λ (q : System). q.first) w.1 ∙ f in
            let initial : y.initial ≡ length b.routines = ap (λ (q : System). q.initial) w.1 ∙ i in
            span_called owner (parts_scope s d) d.routines (length l.routines) n here (omega (arith, low, first)) (omega (arith, high, initial, begun, many))

  -- ---- the program

  type_calls : (l : Layer) (t : syntax.TypeTerm) → Calling os l → Adds l (written_type l t).1 []
  type_calls l t h =
      let d = (type_declares l t).same in
      adds_none l (written_type l t).1 (ap (λ (j : Layer). length j.routines) d)
      (same_calls l (written_type l t).1 (ap (λ (j : Layer). j.systems) d) (ap (λ (j : Layer). j.pending) d) (ap (λ (j : Layer). j.items) d) (kept.type_keep AreGood IsOther one_more (λ b z. tt) (λ v. tt) l t h.names) h)

  definition_calls : (l : Layer) (d : Declared) (v : syntax.Definition) → IsAt l (definition_openings d v) → Calling os l → Adds l (definition l v).1 (definition_openings d v)
  definition_calls l d (syntax.type_definition t) at h = type_calls l t h
  definition_calls l d (syntax.system_definition s) at h = system_calls l s (length d.systems) (scopes.seen_inside d.scope) at h

  named_adds : (l : Layer) (x : List ℕ) (w : CellType × Layer) (xs : List Opening) → Adds l w.1 xs → Adds l (with_type_name x w) xs
  named_adds l x w xs a = let k = a.calls in record { calls = record { names = (tt, k.names); systems = k.systems; pending = k.pending; items = k.items }; count = a.count }

  definitions_call : (l : Layer) (d : Declared) (ns : List syntax.SystemDefinition) → IsAt l (definitions_openings d ns) → Calling os l → Adds l (system_definitions l ns) (definitions_openings d ns)
  unfolding system_definitions
  definitions_call l d [] at h = adds_none l l refl h
  definitions_call l d (n ∷ ns) at h =
      let m : Layer = system_definition l n in
      let xs : List Opening = definition_openings d n.value in
      let ys : List Opening = definitions_openings (definition_in d n n.value) ns in
      let a : Adds l m xs = named_adds l n.name.name (definition l n.value) xs (definition_calls l d n.value (at_left os (length l.routines) xs ys at) h) in
      adds_both l m (system_definitions m ns) xs ys at a (λ there. definitions_call m (definition_in d n n.value) ns there a.calls)

  part_calls : (l : Layer) (d : Declared) (q : syntax.ProgramPart) → IsAt l (part_openings d q) → Calling os l → Adds l (program_part l q) (part_openings d q)
  part_calls l d (syntax.program_constants at ds) there h =
      let e = (constants_declare l ds).same in
      adds_none l (constants l ds) (ap (λ (j : Layer). length j.routines) e)
      (same_calls l (constants l ds) (ap (λ (j : Layer). j.systems) e) (ap (λ (j : Layer). j.pending) e) (ap (λ (j : Layer). j.items) e) (kept.constants_keep AreGood IsOther one_more (λ b z. tt) (λ v. tt) l ds h.names) h)
  part_calls l d (syntax.program_types at ns) there h = definitions_call l d ns there h
  part_calls l d (syntax.program_variables at gs) there h =
      let e = (variables_declare l gs).same in
      adds_none l (variables l gs) (ap (λ (j : Layer). length j.routines) e)
      (same_calls l (variables l gs) (ap (λ (j : Layer). j.systems) e) (ap (λ (j : Layer). j.pending) e) (ap (λ (j : Layer). j.items) e) (kept.variables_keep AreGood IsOther one_more (λ b z. tt) (λ v. tt) (λ n v. tt) (λ n v. tt) l gs h.names) h)

  parts_calls : (l : Layer) (d : Declared) (qs : List syntax.ProgramPart) → IsAt l (parts_openings d qs) → Calling os l → Adds l (program_parts l qs) (parts_openings d qs)
  unfolding program_parts
  parts_calls l d [] at h = adds_none l l refl h
  parts_calls l d (q ∷ qs) at h =
      let m : Layer = program_part l q in
      let xs : List Opening = part_openings d q in
      let ys : List Opening = parts_openings (program_part_in d q) qs in
      let a : Adds l m xs = part_calls l d q (at_left os (length l.routines) xs ys at) h in
      adds_both l m (program_parts m qs) xs ys at a (λ there. parts_calls m (program_part_in d q) qs there a.calls)

all_at : (before os : List Opening) → AreAt (before ++ os) (length before) os
all_at before [] = tt
all_at before (o ∷ os) =
    let e : length (before ++ o ∷ []) ≡ suc (length before) = omega (arith, length-append before (o ∷ [])) in
    (seam before o os, subst (λ n. AreAt (before ++ o ∷ os) n os) e (subst (λ xs. AreAt xs (length (before ++ o ∷ [])) os) (append_assoc before (o ∷ []) os) (all_at (before ++ o ∷ []) os)))

program_calls : (t : Tree) → Calling (openings_of t.program) (whole t)
unfolding program
program_calls t =
    let p : syntax.Program = t.program in
    let os : List Opening = openings_of p in
    let l : Layer = nothing_laid t.lines in
    let m : Layer = program_parts l p.parts in
    let xs : List Opening = parts_openings nothing_declared p.parts in
    let ys : List Opening = routine_openings (program_system p) (declared p).scope p.routines in
    let zs : List Opening = initial_opening (program_system p) (own_meaning (declared p) p) ∷ [] in
    let at : AreAt os 0 (xs ++ (ys ++ zs)) = all_at [] os in
    let none : (k n : ℕ) (s : System) → slice_get [] k ≡ Some s → s.first ≤ n → n < s.initial → IsCalled os n = λ k n s e low high. absurd (none-some s e) in
    let start : Calling os l = record { names = (tt, (tt, (tt, (tt, (tt, (tt, (tt, (tt, (tt, (tt, (tt, (tt, (tt, (tt, (tt, tt))))))))))))))); systems = none; pending = tt; items = tt } in
    let a = parts_calls os l nothing_declared p.parts (at_left os 0 xs (ys ++ zs) at) start in
    let there : AreAt os (length m.routines) (ys ++ zs) = subst (λ (n : ℕ). AreAt os n (ys ++ zs)) (sym a.count) (at_right os 0 xs (ys ++ zs) at) in
    initial_calls os (routines m p.routines) [] p.body (routines_call os m (program_system p) (declared p).scope p.routines (at_left os (length m.routines) ys zs there) a.calls)

-- ---- in the tables

items_laid : (t : Tree) → (laid t).items ≡ (whole t).items
unfolding laid tables_laid
items_laid t = refl

item_calls : (os : List Opening) (xs : List code_item.Item) (at : ℕ) → Each (λ (i : Item). CallsRoutine os i.action) (map item_seen xs) → CallsRoutine os (action_seen (slice_index_or xs at no_item).action)
item_calls os [] at h = tt
item_calls os (x ∷ xs) zero h = h.0
item_calls os (x ∷ xs) (suc at) h = item_calls os xs at h.1

pub calls_routine : (t : Tree) (r : Tables) → plain r ≡ laid t → (at : ℕ) → CallsRoutine (openings_of t.program) (action_seen (item_at r at).action)
calls_routine t r same at =
    let items : map item_seen r.items ≡ (whole t).items = ap (λ (q : PlainTables). q.items) same ∙ items_laid t in
    item_calls (openings_of t.program) r.items at (subst (λ (js : List Item). Each (λ (i : Item). CallsRoutine (openings_of t.program) i.action) js) (sym items) (program_calls t).items)
