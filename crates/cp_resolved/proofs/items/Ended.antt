-- The items of each routine and of each initial statement stand in the tables of the whole program, and its routine begins with the first of them.
use Rattle.std.proofs.Common.{Bool, true, false, ◌≡◌, ◌+◌, ℕ, suc, List, [], ◌∷◌, ◌++◌, length, Option, Some, None, slice_get, refl, sym, ap, subst, ◌∙◌, arith, append-nil, length-append}
use Rattle.cp_tree.specs.Syntax as syntax
use Rattle.cp_resolved.proofs.Words.{RoutineView, Scope, seen_inside, nothing_declared, Numbering, routine_in, whole_laid}
use Rattle.cp_slots.specs.Code as code
use Rattle.cp_layout.specs.Layers.{Layer, add_item, settle_items, without_pending, nothing_laid, routine_of, with_routine}
use Rattle.cp_layout.specs.LaidStatements.{statements, statement, arms, starts, start_statement, assign, call_statement, choose, select, while_item, until_item, for_item, block_item, cycle_item, check_invariants, assertion, token_of}
use Rattle.cp_layout.specs.LaidDeclarations.{end_of_body, Parameters, heading, with_heading, open_routine, routine, routines, initial_statement, enter_system, system_groups, system, definition, system_definition, system_definitions, program_part, program_parts, constants, variables, program}
use Rattle.cp_meaning.specs.Systems.{Declared, definition_in, program_part_in, declared, program_system, own_meaning, system_in}
use Rattle.cp_resolved.specs.Begun.{routine_begun, routines_begun, initial_begun, parameters_of, parts_begun, system_begun, definition_begun, definitions_begun, part_begun, program_parts_begun, all_begun}
use Rattle.cp_resolved.specs.Openings.{Opening, routine_openings, parts_scope, initial_opening, definition_openings, definitions_openings, part_openings, parts_openings, openings_of}
use Rattle.cp_resolved.specs.Openings.{with_routine as with_named}
use Rattle.cp_resolved.proofs.laid.Declares.{Declares, heading_declares, local_parts_declare, permanent_parts_declare, system_groups_declare, type_declares, constants_declare, variables_declare}
use Rattle.cp_resolved.proofs.names.Entries.{still_there, last_entry}
use Rattle.cp_resolved.proofs.laid.Extends.{Longer, Extends, routines_extend, initial_extends, system_definitions_extend, program_parts_extend, longer_trans as longer_both}
use Rattle.cp_resolved.proofs.laid.Grown.{body_grew}
use Rattle.cp_resolved.proofs.laid.SettledItems.{all_pending}
use Rattle.cp_resolved.specs.ItemsStand.{body_items}
use Rattle.cp_resolved.proofs.names.StepsOfProgram.{system_count}
use Rattle.cp_resolved.proofs.names.StepsOfRoutines.{routine_count, routines_count, groups_routines}

-- ---- no item is still to come after a statement

starts_pending : (l : Layer) (ts : List syntax.Start) (next : Option ℕ) → l.pending ≡ [] → (starts l ts next).1.pending ≡ []
unfolding starts
starts_pending l [] next h = h
starts_pending l (t ∷ ts) next h = all_pending (without_pending (start_statement (starts l ts next).1 t)) (start_statement (starts l ts next).1 t).pending (starts l ts next).0

settled_pending : (l : Layer) (next : Option ℕ) → (settle_items l next).1.pending ≡ []
settled_pending l next = all_pending (without_pending l) l.pending next

statement_pending : (l : Layer) (s : syntax.Statement) (next : Option ℕ) → l.pending ≡ [] → (statement l s next).1.pending ≡ []
unfolding statement
statement_pending l (syntax.empty at) next h = settled_pending (add_item l at code.nothing 0) next
statement_pending l (syntax.assign at d e) next h = settled_pending (assign l at d e) next
statement_pending l (syntax.invoke at d es) next h = settled_pending (call_statement l at d es) next
statement_pending l (syntax.block at ss) next h = settled_pending (block_item (statements l ss None).1 at (statements l ss None).0) next
statement_pending l (syntax.if_then at e s) next h = settled_pending (choose (statement l s None).1 at e (statement l s None).0 None) next
statement_pending l (syntax.if_else at e s t) next h =
    let x : Option ℕ × Layer = statement l s None in
    let y : Option ℕ × Layer = statement x.1 t None in
    settled_pending (choose y.1 at e x.0 y.0) next
statement_pending l (syntax.case_of at e as' b) next h = settled_pending (select (arms l as').1 at e (arms l as').0) next
statement_pending l (syntax.while_do at e s) next h = settled_pending (while_item (statement l s None).1 at e (statement l s None).0) next
statement_pending l (syntax.repeat_until at ss e) next h =
    let x : Option ℕ × Layer = statements l ss None in
    let y : Option ℕ × Layer = settle_items (until_item x.1 (token_of e) e x.0) next in
    settled_pending (block_item y.1 at x.0) y.0
statement_pending l (syntax.for_do at i e d f s) next h = settled_pending (for_item (statement l s None).1 at i.name e d f (statement l s None).0) next
statement_pending l (syntax.cycle at ss) next h = settled_pending (cycle_item (statements l ss None).1 at (statements l ss None).0) next
statement_pending l (syntax.init at ts) next h = starts_pending l ts next h
statement_pending l (syntax.asserted at k e s) next h = settled_pending (assertion (statement l s next).1 at k e) (statement l s next).0

statements_pending : (l : Layer) (ss : syntax.Statements) (after : Option ℕ) → l.pending ≡ [] → (statements l ss after).1.pending ≡ []
unfolding statements
statements_pending l syntax.no_statements after h = h
statements_pending l (syntax.more_statements s ss) after h = statement_pending (statements l ss after).1 s (statements l ss after).0 (statements_pending l ss after h)

pub ended_pending : (l : Layer) (c : Bool) → (end_of_body l c).1.pending ≡ []
ended_pending l true = settled_pending (check_invariants l 0) None
ended_pending l false = settled_pending l None

body_pending : (l : Layer) (ss : syntax.Statements) (c : Bool) → (body_items l ss c).1.pending ≡ []
body_pending l ss c = statements_pending (end_of_body l c).1 ss (end_of_body l c).0 (ended_pending l c)

declared_pending : (l m : Layer) → Declares l m → l.pending ≡ [] → m.pending ≡ []
declared_pending l m d h = ap (λ (j : Layer). j.pending) d.same ∙ h

begun_pending : (l : Layer) (r : syntax.Routine) → l.pending ≡ [] → (routine_begun l r).pending ≡ []
begun_pending l r h =
    let x : Layer = (open_routine l r.name.name).1 in
    let y = heading x r.name.name r.kind in
    declared_pending (with_heading y.1 y.0) (routine_begun l r) (local_parts_declare (with_heading y.1 y.0) r.parts) (declared_pending x y.1 (heading_declares x r.name.name r.kind) h)

routine_pending : (l : Layer) (r : syntax.Routine) → l.pending ≡ [] → (routine l r).pending ≡ []
routine_pending l r h = body_pending (routine_begun l r) r.body.statements r.is_entry

routines_pending : (l : Layer) (rs : List syntax.Routine) → l.pending ≡ [] → (routines l rs).pending ≡ []
unfolding routines
routines_pending l [] h = h
routines_pending l (r ∷ rs) h = routines_pending (routine l r) rs (routine_pending l r h)

parts_pending : (l : Layer) (s : syntax.System) → l.pending ≡ [] → (parts_begun l s).pending ≡ []
parts_pending l s h =
    let y : Layer = (system_groups (enter_system l).1 [] s.parameters).1 in
    declared_pending y (parts_begun l s) (permanent_parts_declare y s.parts) (declared_pending (enter_system l).1 y (system_groups_declare (enter_system l).1 [] s.parameters) h)

definition_pending : (l : Layer) (d : syntax.Definition) → l.pending ≡ [] → (definition l d).1.pending ≡ []
unfolding system
definition_pending l (syntax.type_definition t) h = declared_pending l (definition l (syntax.type_definition t)).1 (type_declares l t) h
definition_pending l (syntax.system_definition s) h = body_pending (initial_begun (system_begun l s) (parameters_of l s)) s.body.statements true

definitions_pending : (l : Layer) (ds : List syntax.SystemDefinition) → l.pending ≡ [] → (system_definitions l ds).pending ≡ []
unfolding system_definitions
definitions_pending l [] h = h
definitions_pending l (d ∷ ds) h = definitions_pending (system_definition l d) ds (definition_pending l d.value h)

part_pending : (l : Layer) (p : syntax.ProgramPart) → l.pending ≡ [] → (program_part l p).pending ≡ []
part_pending l (syntax.program_constants at ds) h = declared_pending l (constants l ds) (constants_declare l ds) h
part_pending l (syntax.program_types at ds) h = definitions_pending l ds h
part_pending l (syntax.program_variables at gs) h = declared_pending l (variables l gs) (variables_declare l gs) h

parts_done : (l : Layer) (ps : List syntax.ProgramPart) → l.pending ≡ [] → (program_parts l ps).pending ≡ []
unfolding program_parts
parts_done l [] h = h
parts_done l (p ∷ ps) h = parts_done (program_part l p) ps (part_pending l p h)

-- ---- up to the end

record Leads (l m : Layer) : Type 0 where
  lines : m.lines ≡ l.lines
  items : Longer l.items m.items
  routines : Longer l.routines m.routines

before : (l m o : Layer) → Extends l m → Leads m o → Leads l o
before l m o e x = record { lines = x.lines ∙ e.lines; items = longer_both l.items m.items o.items e.items x.items; routines = longer_both l.routines m.routines o.routines e.routines x.routines }

module _ (end : Layer) where
  -- the statements of routine n, which begin in this state
  pub record Ends (n : ℕ) (l : Layer) (o : Opening) : Type 0 where
    pub number : length l.routines ≡ n
    pub lines : l.lines ≡ end.lines
    pub pending : l.pending ≡ []
    pub items : Longer (body_items l o.meaning.body o.meaning.checks).1.items end.items
    pub there : slice_get end.routines n ≡ Some (routine_of (body_items l o.meaning.body o.meaning.checks).1 (body_items l o.meaning.body o.meaning.checks).0)

  abbrev pub AreEnded : ℕ → List Layer → List Opening → Type 0
  AreEnded n [] [] = Unit {0}
  AreEnded n (l ∷ ls) (o ∷ os) = Ends n l o × AreEnded (suc n) ls os
  AreEnded n [] (o ∷ os) = ⊥
  AreEnded n (l ∷ ls) [] = ⊥

  ended_append : (n : ℕ) (ls ms : List Layer) (os qs : List Opening) → AreEnded n ls os → AreEnded (n + length ls) ms qs → AreEnded n (ls ++ ms) (os ++ qs)
  ended_append n [] ms [] qs h i = subst (λ j. AreEnded j ms qs) (let e : n + 0 ≡ n = omega arith in e) i
  ended_append n (l ∷ ls) ms (o ∷ os) qs h i = (h.0, ended_append (suc n) ls ms os qs h.1 (subst (λ j. AreEnded j ms qs) (let e : n + suc (length ls) ≡ suc n + length ls = omega arith in e) i))
  ended_append n _ ms _ qs h i = absurd h

  -- a body, whose routine is the next one
  one_ends : (l : Layer) (o : Opening) (n : ℕ) → length l.routines ≡ n → l.pending ≡ [] → Leads (with_routine (body_items l o.meaning.body o.meaning.checks).1 (body_items l o.meaning.body o.meaning.checks).0) end → Ends n l o
  one_ends l o n len none x =
      let y : Option ℕ × Layer = body_items l o.meaning.body o.meaning.checks in
      let v : RoutineView = routine_of y.1 y.0 in
      let g = (body_grew l o.meaning.body o.meaning.checks).1 in
      let many : length y.1.routines ≡ n = ap (λ (j : Layer). length j.routines) g ∙ len in
      record {
        number = len;
        lines = sym (x.lines ∙ ap (λ (j : Layer). j.lines) g);
        pending = none;
        items = x.items;
        there = ap (λ rs. slice_get rs n) x.routines.1 ∙ still_there (y.1.routines ++ v ∷ []) x.routines.0 n v (ap (λ j. slice_get (y.1.routines ++ v ∷ []) j) (sym many) ∙ last_entry y.1.routines v);
      }

  begun_many : (l : Layer) (rs : List syntax.Routine) → length (routines_begun l rs) ≡ length rs
  begun_many l [] = refl
  begun_many l (r ∷ rs) = ap suc (begun_many (routine l r) rs)

  same_routines : (l : Layer) (r : syntax.Routine) → length (routine_begun l r).routines ≡ length l.routines
  same_routines l r =
      let x : Layer = (open_routine l r.name.name).1 in
      let y = heading x r.name.name r.kind in
      ap (λ (j : Layer). length j.routines) (local_parts_declare (with_heading y.1 y.0) r.parts).same ∙ ap (λ (j : Layer). length j.routines) (heading_declares x r.name.name r.kind).same

  routines_end : (l : Layer) (s : Scope) (owner : ℕ) (rs : List syntax.Routine) (n : ℕ) → length l.routines ≡ n → l.pending ≡ [] → Leads (routines l rs) end → AreEnded n (routines_begun l rs) (routine_openings owner s rs)
  unfolding routines
  routines_end l s owner [] n len none x = tt
  routines_end l s owner (r ∷ rs) n len none x =
      let m : Layer = routine l r in
      let o : Opening = record { meaning = routine_in (with_named s r) r; owner = owner; name = Some r.name.name } in
      let y : Leads m end = before m (routines m rs) end (routines_extend m rs) x in (
        one_ends (routine_begun l r) o n (same_routines l r ∙ len) (begun_pending l r none) (record { lines = y.lines; items = y.items; routines = y.routines }),
        routines_end m (with_named s r) owner rs (suc n) (routine_count l r ∙ ap suc len) (routine_pending l r none) x,
      )

  definition_ends : (l : Layer) (d : Declared) (v : syntax.Definition) (n : ℕ) → length l.routines ≡ n → l.pending ≡ [] → Leads (definition l v).1 end → AreEnded n (definition_begun l v) (definition_openings d v)
  unfolding system
  definition_ends l d (syntax.type_definition t) n len none x = tt
  definition_ends l d (syntax.system_definition s) n len none x =
      let u : Scope = seen_inside d.scope in
      let z : Layer = parts_begun l s in
      let b : Layer = system_begun l s in
      let ps : Parameters = parameters_of l s in
      let os : List Opening = routine_openings (length d.systems) (parts_scope u s) s.routines in
      let own : Opening = initial_opening (length d.systems) (system_in u s) in
      let m : Layer = initial_statement b ps s.body in
      let y : Leads m end = record { lines = x.lines; items = x.items; routines = x.routines } in
      let many : length z.routines ≡ n = ap (λ rs. length rs) (groups_routines l s) ∙ len in
      let last : length b.routines ≡ n + length (routines_begun z s.routines) = omega (arith, routines_count z s.routines, many, begun_many z s.routines) in
      ended_append n (routines_begun z s.routines) (initial_begun b ps ∷ []) os (own ∷ []) (routines_end z (parts_scope u s) (length d.systems) s.routines n many (parts_pending l s none) (before b m end (initial_extends b ps s.body) y))
      (one_ends (initial_begun b ps) own (n + length (routines_begun z s.routines)) last (routines_pending z s.routines (parts_pending l s none)) y, tt)

  definition_many : (k : Numbering) (l : Layer) (v : syntax.Definition) → length (definition l v).1.routines ≡ length l.routines + length (definition_begun l v)
  definition_many k l (syntax.type_definition t) = ap (λ (j : Layer). length j.routines) (type_declares l t).same ∙ (let e : length l.routines ≡ length l.routines + 0 = omega arith in e)
  definition_many k l (syntax.system_definition s) =
      let e : length (routines_begun (parts_begun l s) s.routines ++ initial_begun (system_begun l s) (parameters_of l s) ∷ []) ≡ length s.routines + 1 = length-append (routines_begun (parts_begun l s) s.routines) (initial_begun (system_begun l s) (parameters_of l s) ∷ []) ∙ ap (λ j. j + 1) (begun_many (parts_begun l s) s.routines) in
      system_count k l s ∙ ap (λ j. length l.routines + j) (sym e)

  definitions_end : (k : Numbering) (l : Layer) (d : Declared) (ns : List syntax.SystemDefinition) (n : ℕ) → length l.routines ≡ n → l.pending ≡ [] → Leads (system_definitions l ns) end → AreEnded n (definitions_begun l ns) (definitions_openings d ns) × (length (system_definitions l ns).routines ≡ n + length (definitions_begun l ns))
  unfolding system_definitions
  definitions_end k l d [] n len none x = (tt, omega (arith, len))
  definitions_end k l d (v ∷ ns) n len none x =
      let m : Layer = system_definition l v in
      let c : Declared = definition_in d v v.value in
      let y : Leads m end = before m (system_definitions m ns) end (system_definitions_extend m ns) x in
      let many : length m.routines ≡ n + length (definition_begun l v.value) = omega (arith, definition_many k l v.value, len) in
      let rest = definitions_end k m c ns (n + length (definition_begun l v.value)) many (definition_pending l v.value none) x in (
        ended_append n (definition_begun l v.value) (definitions_begun m ns) (definition_openings d v.value) (definitions_openings c ns) (definition_ends l d v.value n len none (record { lines = y.lines; items = y.items; routines = y.routines })) rest.0,
        omega (arith, rest.1, length-append (definition_begun l v.value) (definitions_begun m ns)),
      )

  part_ends : (k : Numbering) (l : Layer) (d : Declared) (q : syntax.ProgramPart) (n : ℕ) → length l.routines ≡ n → l.pending ≡ [] → Leads (program_part l q) end → AreEnded n (part_begun l q) (part_openings d q) × (length (program_part l q).routines ≡ n + length (part_begun l q))
  part_ends k l d (syntax.program_constants at ds) n len none x = (tt, ap (λ (j : Layer). length j.routines) (constants_declare l ds).same ∙ omega (arith, len))
  part_ends k l d (syntax.program_types at ns) n len none x = definitions_end k l d ns n len none x
  part_ends k l d (syntax.program_variables at gs) n len none x = (tt, ap (λ (j : Layer). length j.routines) (variables_declare l gs).same ∙ omega (arith, len))

  parts_end : (k : Numbering) (l : Layer) (d : Declared) (qs : List syntax.ProgramPart) (n : ℕ) → length l.routines ≡ n → l.pending ≡ [] → Leads (program_parts l qs) end → AreEnded n (program_parts_begun l qs) (parts_openings d qs) × (length (program_parts l qs).routines ≡ n + length (program_parts_begun l qs))
  unfolding program_parts
  parts_end k l d [] n len none x = (tt, omega (arith, len))
  parts_end k l d (q ∷ qs) n len none x =
      let m : Layer = program_part l q in
      let c : Declared = program_part_in d q in
      let a = part_ends k l d q n len none (before m (program_parts m qs) end (program_parts_extend m qs) x) in
      let rest = parts_end k m c qs (n + length (part_begun l q)) a.1 (part_pending l q none) x in
      (ended_append n (part_begun l q) (program_parts_begun m qs) (part_openings d q) (parts_openings c qs) a.0 rest.0, omega (arith, rest.1, length-append (part_begun l q) (program_parts_begun m qs)))

pub all_end : (k : Numbering) (t : syntax.Tree) → AreEnded (whole_laid t) 0 (all_begun t) (openings_of t.program)
unfolding program
all_end k t =
    let p : syntax.Program = t.program in
    let l : Layer = nothing_laid t.lines in
    let m : Layer = program_parts l p.parts in
    let b : Layer = routines m p.routines in
    let end : Layer = whole_laid t in
    let d : Declared = declared p in
    let last : Leads end end = record { lines = refl; items = ([], sym (append-nil end.items)); routines = ([], sym (append-nil end.routines)) } in
    let y : Leads b end = before b end end (initial_extends b [] p.body) last in
    let x : Leads m end = before m b end (routines_extend m p.routines) y in
    let a = parts_end end k l nothing_declared p.parts 0 refl refl x in
    let n : ℕ = 0 + length (program_parts_begun l p.parts) in
    let none : m.pending ≡ [] = parts_done l p.parts refl in
    let many : length b.routines ≡ n + length (routines_begun m p.routines) = omega (arith, routines_count m p.routines, a.1, begun_many end m p.routines) in
    let own : Opening = initial_opening (program_system p) (own_meaning d p) in
    ended_append end 0 (program_parts_begun l p.parts) (routines_begun m p.routines ++ initial_begun b [] ∷ []) (parts_openings nothing_declared p.parts) (routine_openings (program_system p) d.scope p.routines ++ own ∷ []) a.0
    (ended_append end n (routines_begun m p.routines) (initial_begun b [] ∷ []) (routine_openings (program_system p) d.scope p.routines) (own ∷ []) (routines_end end m d.scope (program_system p) p.routines n a.1 none y)
    (one_ends end (initial_begun b []) own (n + length (routines_begun m p.routines)) many (routines_pending m p.routines none) last, tt))
