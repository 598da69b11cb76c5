-- The headings that are laid out of a tree have the names of its routines, in the order in which the tables number them.
use Rattle.std.proofs.Common.{true, ◌≡◌, ℕ, zero, suc, ◌+◌, ◌<◌, List, [], ◌∷◌, ◌++◌, length, map, Option, Some, None, slice_get, refl, sym, ap, ◌∙◌, append_assoc, append-nil, arith}
use Rattle.std.specs.Prelude.{slice_index_or}
use Rattle.cp_legend_laws.proofs.Words.{map-append, Tree, Layer, nothing_laid, Numbering}
use Rattle.cp_tree.specs.Syntax as syntax
use Rattle.cp_slots.specs.Tables.{RoutineView, no_routine}
use Rattle.cp_symbols.specs.declared.symbols.FunctionResult.{FunctionResult}
use Rattle.cp_symbols.specs.Symbols.{RoutineName}
use Rattle.cp_layout.specs.Layers.{Heading}
use Rattle.cp_layout.specs.Laid.{PlainTables, laid, whole, tables_laid}
use Rattle.cp_layout.specs.LaidDeclarations.{Parameters, heading_with, with_new_frame, with_heading, routine, routines, initial_statement, enter_system, system_groups, system, definition, system_definition, system_definitions, constants, variables, program_part, program_parts, program}
use Rattle.cp_layout.specs.Symbols.{name_of_routine}
use Rattle.cp_legend.specs.Names.{Source, RoutineNames, bare_routine, routines_from, source_seen, with_result_if}
use Rattle.cp_meaning.specs.Scopes.{Scope, seen_inside}
use Rattle.cp_meaning.specs.Systems.{SystemMeaning, system_in, Declared, program_part_in, definition_in, declared, own_meaning, program_system}
use Rattle.cp_resolved.specs.Begun.{parts_begun, system_begun}
use Rattle.cp_resolved.specs.Fit.{nothing_declared}
use Rattle.cp_resolved.specs.Names.{IsPlain}
use Rattle.cp_resolved.specs.Openings.{Opening, with_routine, parts_scope, routine_openings, initial_opening, system_openings, definition_openings, definitions_openings, part_openings, parts_openings, openings_of, numbering_of}
use Rattle.cp_resolved.specs.TreeLayouts.{owner_in}
use Rattle.cp_resolved.proofs.Resolving.{resolving_law}
use Rattle.cp_resolved.proofs.counts.RoutinesCounted.{all_many}
use Rattle.cp_resolved.proofs.declarations.Plain.{plain_law}
use Rattle.cp_resolved.proofs.laid.Declares.{type_declares, constants_declare, variables_declare, permanent_parts_declare, system_groups_declare}
use Rattle.cp_resolved.proofs.laid.Grown.{body_grew}
use Rattle.cp_resolved.proofs.names.EntriesKnown.{heading_of, routine_headings, headings_named}
use Rattle.cp_resolved.proofs.names.Opened.{opened_all}
use Rattle.cp_legend_laws.specs.Statements.{RoutinesLaw, routine_text}

-- ---- what is laid out adds the headings of some routines and initial statements

abbrev names_of : Layer → List (List ℕ)
names_of l = map (λ (h : Heading). h.name) l.headings

abbrev texts : List Opening → List (List ℕ)
texts os = map routine_text os

-- from one state to another
abbrev Adds : Layer → Layer → List Opening → Type 0
Adds l m os = names_of m ≡ names_of l ++ texts os

adds_trans : (l k m : Layer) (xs ys : List Opening) → Adds l k xs → Adds k m ys → Adds l m (xs ++ ys)
adds_trans l k m xs ys h i = i ∙ (ap (λ ns. ns ++ texts ys) h ∙ (append_assoc (names_of l) (texts xs) (texts ys) ∙ ap (λ ns. names_of l ++ ns) (sym (map-append routine_text xs ys))))

adds_none : (l m : Layer) → m.headings ≡ l.headings → Adds l m []
adds_none l m e = ap (map (λ (h : Heading). h.name)) e ∙ sym (append-nil (names_of l))

-- the same before and after
adds_between : (l k m n : Layer) (os : List Opening) → k.headings ≡ l.headings → n.headings ≡ m.headings → Adds k m os → Adds l n os
adds_between l k m n os e f h = ap (map (λ (g : Heading). g.name)) f ∙ (h ∙ ap (λ (hs : List Heading). map (λ (g : Heading). g.name) hs ++ texts os) e)

routine_adds : (l : Layer) (owner : ℕ) (s : Scope) (r : syntax.Routine) → Adds l (routine l r) (routine_openings owner s (r ∷ []))
routine_adds l owner s r =
    ap (map (λ (h : Heading). h.name)) (routine_headings l r)
    ∙ (map-append (λ (h : Heading). h.name) l.headings (heading_of l r ∷ []) ∙ ap (λ (x : List ℕ). names_of l ++ x ∷ []) (headings_named l (r ∷ [])).0)

routines_add : (l : Layer) (owner : ℕ) (s : Scope) (rs : List syntax.Routine) → Adds l (routines l rs) (routine_openings owner s rs)
unfolding routines
routines_add l owner s [] = adds_none l l refl
routines_add l owner s (r ∷ rs) =
    adds_trans l (routine l r) (routines (routine l r) rs) (routine_openings owner s (r ∷ [])) (routine_openings owner (with_routine s r) rs) (routine_adds l owner s r) (routines_add (routine l r) owner (with_routine s r) rs)

-- an initial statement has no name
initial_adds : (l : Layer) (ps : Parameters) (b : syntax.Body) (owner : ℕ) (m : SystemMeaning) → Adds l (initial_statement l ps b) (initial_opening owner m ∷ [])
initial_adds l ps b owner m =
    let k : Layer = with_heading (with_new_frame l) (heading_with [] ps None) in
    ap (λ (j : Layer). names_of j) (body_grew k b.statements true).1 ∙ map-append (λ (h : Heading). h.name) l.headings (heading_with [] ps None ∷ [])

-- ---- system types

parts_same : (l : Layer) (s : syntax.System) → (parts_begun l s).headings ≡ l.headings
parts_same l s =
    let y : Layer = (system_groups (enter_system l).1 [] s.parameters).1 in
    ap (λ (j : Layer). j.headings) (permanent_parts_declare y s.parts).same ∙ ap (λ (j : Layer). j.headings) (system_groups_declare (enter_system l).1 [] s.parameters).same

system_adds : (l : Layer) (owner : ℕ) (s : Scope) (d : syntax.System) → Adds l (system l d).1 (system_openings owner s d)
unfolding system
system_adds l owner s d =
    let x = system_groups (enter_system l).1 [] d.parameters in
    let z : Layer = parts_begun l d in
    let b : Layer = system_begun l d in
    let m : Layer = initial_statement b x.0 d.body in
    adds_between l z m (system l d).1 (system_openings owner s d) (parts_same l d) refl
    (adds_trans z b m (routine_openings owner (parts_scope s d) d.routines) (initial_opening owner (system_in s d) ∷ []) (routines_add z owner (parts_scope s d) d.routines) (initial_adds b x.0 d.body owner (system_in s d)))

-- ---- the program

definition_adds : (l : Layer) (d : Declared) (v : syntax.Definition) → Adds l (definition l v).1 (definition_openings d v)
definition_adds l d (syntax.type_definition t) = adds_none l (definition l (syntax.type_definition t)).1 (ap (λ (j : Layer). j.headings) (type_declares l t).same)
definition_adds l d (syntax.system_definition s) = system_adds l (length d.systems) (seen_inside d.scope) s

definitions_add : (l : Layer) (d : Declared) (ns : List syntax.SystemDefinition) → Adds l (system_definitions l ns) (definitions_openings d ns)
unfolding system_definitions
definitions_add l d [] = adds_none l l refl
definitions_add l d (n ∷ ns) =
    let m : Layer = system_definition l n in
    adds_trans l m (system_definitions m ns) (definition_openings d n.value) (definitions_openings (definition_in d n n.value) ns) (definition_adds l d n.value) (definitions_add m (definition_in d n n.value) ns)

part_adds : (l : Layer) (d : Declared) (q : syntax.ProgramPart) → Adds l (program_part l q) (part_openings d q)
part_adds l d (syntax.program_constants at ds) = adds_none l (constants l ds) (ap (λ (j : Layer). j.headings) (constants_declare l ds).same)
part_adds l d (syntax.program_types at ns) = definitions_add l d ns
part_adds l d (syntax.program_variables at gs) = adds_none l (variables l gs) (ap (λ (j : Layer). j.headings) (variables_declare l gs).same)

parts_add : (l : Layer) (d : Declared) (qs : List syntax.ProgramPart) → Adds l (program_parts l qs) (parts_openings d qs)
unfolding program_parts
parts_add l d [] = adds_none l l refl
parts_add l d (q ∷ qs) =
    let m : Layer = program_part l q in
    adds_trans l m (program_parts m qs) (part_openings d q) (parts_openings (program_part_in d q) qs) (part_adds l d q) (parts_add m (program_part_in d q) qs)

all_named : (t : Tree) → names_of (whole t) ≡ texts (openings_of t.program)
unfolding program
all_named t =
    let p : syntax.Program = t.program in
    let l : Layer = nothing_laid t.lines in
    let m : Layer = program_parts l p.parts in
    let b : Layer = routines m p.routines in
    let own : List Opening = initial_opening (program_system p) (own_meaning (declared p) p) ∷ [] in
    let rest : List Opening = routine_openings (program_system p) (declared p).scope p.routines in
    adds_trans l m (whole t) (parts_openings nothing_declared p.parts) (rest ++ own) (parts_add l nothing_declared p.parts)
    (adds_trans m b (whole t) rest own (routines_add m (program_system p) (declared p).scope p.routines) (initial_adds b [] p.body (program_system p) (own_meaning (declared p) p)))

-- ---- the legend

still_named : (r : RoutineNames) (o : Option FunctionResult) → (with_result_if r o).name ≡ r.name
still_named r None = refl
still_named r (Some f) = refl

legend_names : (s : Source) (n : ℕ) (rs : List RoutineName) → map (λ (r : RoutineNames). r.name) (routines_from s n rs) ≡ map (λ (r : RoutineName). r.name) rs
unfolding routines_from
legend_names s n [] = refl
legend_names s n (r ∷ rs) = ap (λ (x : List ℕ). x ∷ map (λ (q : RoutineNames). q.name) (routines_from s (n + 1) rs)) (still_named (bare_routine s n r) r.result) ∙ ap (λ (xs : List (List ℕ)). r.name ∷ xs) (legend_names s (n + 1) rs)

heading_names : (hs : List Heading) → map (λ (r : RoutineName). r.name) (map name_of_routine hs) ≡ map (λ (h : Heading). h.name) hs
heading_names [] = refl
heading_names (h ∷ hs) = ap (λ (xs : List (List ℕ)). h.name ∷ xs) (heading_names hs)

-- ---- the tables

same_owners : (last : ℕ) (rs : List RoutineView) (os : List Opening) → length rs ≡ length os → ((n : ℕ) → n < length rs → (slice_index_or rs n no_routine).system ≡ owner_in last (slice_get os n)) →
    map (λ (r : RoutineView). r.system) rs ≡ map (λ (o : Opening). o.owner) os
same_owners last [] [] e h = refl
same_owners last [] (o ∷ os) e h = absurd (omega (arith, e))
same_owners last (r ∷ rs) [] e h = absurd (omega (arith, e))
same_owners last (r ∷ rs) (o ∷ os) e h =
    ap (λ (k : ℕ). k ∷ map (λ (q : RoutineView). q.system) rs) (h zero (omega arith))
    ∙ ap (λ (ks : List ℕ). o.owner ∷ ks) (same_owners last rs os (omega (arith, e)) (λ n lt. h (suc n) (omega (arith, lt))))

routines_laid : (t : Tree) → (laid t).routines ≡ (whole t).routines
unfolding laid tables_laid
routines_laid t = refl

pub routines_law : RoutinesLaw
routines_law t y r l read ok is same named =
    let k : Numbering = numbering_of t.program in
    let plain_tree : IsPlain t.program = plain_law t read ok in
    let views : r.routines ≡ (whole t).routines = ap (λ (q : PlainTables). q.routines) same ∙ routines_laid t in
    let many = (all_many k t plain_tree.small plain_tree.fit plain_tree.numbered (opened_all t.program)).routines in
    let count : length r.routines ≡ length (openings_of t.program) = ap (λ (vs : List RoutineView). length vs) views ∙ sym many in
    record {
      tables = same_owners (program_system t.program) r.routines (openings_of t.program) count (λ n lt. ((resolving_law t r read ok same).stands.routines n lt).system);
      names = ap (map (λ (q : RoutineNames). q.name)) named.routines
          ∙ (legend_names (source_seen y) 0 (source_seen y).routines
          ∙ (ap (map (λ (q : RoutineName). q.name)) is.routines
          ∙ (heading_names (whole t).headings ∙ all_named t)));
    }
