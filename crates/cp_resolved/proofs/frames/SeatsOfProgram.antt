-- The seats of all routines, initial statements and system types of a tree.
use Rattle.std.proofs.Common.{◌≡◌, ◌+◌, ◌-◌, ℕ, suc, false, List, [], ◌∷◌, ◌++◌, length, None, slice_get, slice_index_or, refl, sym, ap, subst, ◌∙◌, arith, append-nil}
use Rattle.cp_tree.specs.Syntax as syntax
use Rattle.cp_symbols.specs.declared.names.LayoutMeaning.TheVariants as meaning
use Rattle.cp_resolved.proofs.Words.{system_type, types_of, system_types, Layer, System, nothing_laid, written_type, SystemView, no_system, permanent_variable, true}
use Rattle.cp_resolved.proofs.Words.{predeclared, Variable, Parameter, parameter_variables, Enumerated, each_in, in_routine, in_program_part, enumerations_of, IsFitPart}
use Rattle.cp_resolved.proofs.Words.{AreFitParts, nothing_declared, system_variables, Numbering, InStep, initial_meaning, Each, IsSmallProgramPart, IsSmallProgram}
use Rattle.cp_resolved.proofs.Words.{AreNumbered, IsParameter, routines_begun, initial_begun, part_begun, program_parts_begun, all_begun}
use Rattle.cp_layout.specs.Layers as layers
use Rattle.cp_layout.specs.LaidDeclarations.{routines, system, system_definition, system_definitions, definition, with_type_name, program_part, program_parts, program, heading_with, with_heading, with_new_frame}
use Rattle.cp_meaning.specs.Systems.{SystemMeaning, Declared, definition_in, definitions_in, program_part_in, program_parts_in, declared, program_system, own_meaning, or_own, system_of}
use Rattle.cp_resolved.specs.Openings.{Opening, routine_openings, initial_opening, part_openings, parts_openings, openings_of, AreOpened}
use Rattle.cp_resolved.specs.TreeLayouts.{part_parts, program_parts_parts, all_parts, whole_laid, initial_or, components_among}
use Rattle.cp_resolved.proofs.names.Entries.{entry_at, last_entry, past_there}
use Rattle.cp_resolved.proofs.laid.Extends.{Longer, longer_trans, routines_extend, initial_extends, program_parts_extend}
use Rattle.cp_resolved.proofs.frames.FramesBegun.{variables_grow}
use Rattle.cp_resolved.proofs.names.KnowingSystems.{IsFirst, first_before, parts_longer}
use Rattle.cp_resolved.proofs.systems.PermanentCells.{holding_added, Owns, constants_own, type_owns, Follow, follow_left, variables_own}
use Rattle.cp_resolved.proofs.agreeing.ScopeVariables.{AreOf, of_constants, permanent_variables_of}
use Rattle.cp_resolved.proofs.frames.SeatsOfSystems.{definitions_of, definitions_seated}
use Rattle.cp_resolved.proofs.names.Steps.{outermost_in}
use Rattle.cp_resolved.proofs.names.StepsOfProgram.{Standing, Stood, part_stood, parts_stood, opened_after, program_reached, all_outer}
use Rattle.cp_resolved.proofs.names.StepsOfRoutines.{body_count, body_systems, routines_systems, routines_count, openings_count, opened_left, opened_right}
use Rattle.cp_resolved.proofs.names.BegunKnown.{part_many, parts_many}
use Rattle.cp_resolved.proofs.frames.Seats.{nothing_held, routines_of, Seated, AreSeated, seated_append, initial_number, SystemFits, Settled, AreSettled, settled_append, routines_seated, initial_seated}
use Rattle.cp_resolved.proofs.systems.Sizes.{Counted}
use Rattle.cp_resolved.proofs.names.StepsOfTypes.{numbered_left, numbered_after}
use Rattle.cp_resolved.proofs.components.Handed.{body_owned, routines_owned}

-- ---- the cells of the program

pub definition_owned : (l : Layer) (n : List ℕ) (v : syntax.Definition) (ws : List Variable) → Owns l ws → Owns (with_type_name n (definition l v)) ws
unfolding system
definition_owned l n (syntax.type_definition t) ws h =
    let a : Owns (written_type l t).1 ws = type_owns l t ws h in
    record { cells = a.cells; holding = holding_added ws n (meaning.Kind (written_type l t).0) (written_type l t).1.names tt a.holding }
definition_owned l n (syntax.system_definition s) ws h = record { cells = h.cells; holding = holding_added ws n (meaning.Kind (system l s).0) l.names tt h.holding }

definitions_owned : (l : Layer) (ns : List syntax.SystemDefinition) (ws : List Variable) → Owns l ws → Owns (system_definitions l ns) ws
unfolding system_definitions
definitions_owned l [] ws h = h
definitions_owned l (n ∷ ns) ws h = definitions_owned (system_definition l n) ns ws (definition_owned l n.name.name n.value ws h)

pub definitions_keep_variables : (d : Declared) (ns : List syntax.SystemDefinition) → (definitions_in d ns).variables ≡ d.variables
definitions_keep_variables d [] = refl
definitions_keep_variables d (n ∷ ns) = definitions_keep_variables (definition_in d n n.value) ns ∙ one n.value
  where
    one : (v : syntax.Definition) → (definition_in d n v).variables ≡ d.variables
    one (syntax.type_definition t) = refl
    one (syntax.system_definition s) = refl

pub part_grew : (d : Declared) (q : syntax.ProgramPart) → Longer d.variables (program_part_in d q).variables
part_grew d (syntax.program_constants at ds) = ([], sym (append-nil d.variables))
part_grew d (syntax.program_types at ns) = ([], definitions_keep_variables d ns ∙ sym (append-nil d.variables))
part_grew d (syntax.program_variables at gs) = variables_grow permanent_variable (record { variables = d.variables; scope = d.scope }) gs

pub parts_grew : (d : Declared) (qs : List syntax.ProgramPart) → Longer d.variables (program_parts_in d qs).variables
parts_grew d [] = ([], sym (append-nil d.variables))
parts_grew d (q ∷ qs) = longer_trans d.variables (program_part_in d q).variables (program_parts_in (program_part_in d q) qs).variables (part_grew d q) (parts_grew (program_part_in d q) qs)

module _ (k : Numbering) where
  part_owned : (l : Layer) (d : Declared) (q : syntax.ProgramPart) → IsSmallProgramPart q → AreNumbered k.firsts (length l.constants) (in_program_part q) → InStep k l.types l.names d.scope → Follow k [] (program_part_in d q).variables → Owns l (components_among false d.variables) →
      Owns (program_part l q) (components_among false (program_part_in d q).variables)
  part_owned l d (syntax.program_constants at ds) s n i f h = constants_own l ds (components_among false d.variables) h
  part_owned l d (syntax.program_types at ns) s n i f h = subst (λ vs. Owns (system_definitions l ns) (components_among false vs)) (sym (definitions_keep_variables d ns)) (definitions_owned l ns (components_among false d.variables) h)
  part_owned l d (syntax.program_variables at gs) s n i f h = variables_own k l (record { variables = d.variables; scope = d.scope }) gs [] s n i f h

  pub program_owned : (l : Layer) (d : Declared) (qs : List syntax.ProgramPart) → Each IsSmallProgramPart qs → AreFitParts d qs → AreNumbered k.firsts (length l.constants) (each_in in_program_part qs) → AreOpened k.routines (length l.routines) (parts_openings d qs) → Standing k l d → Follow k [] (program_parts_in d qs).variables → Owns l (components_among false d.variables) →
      Owns (program_parts l qs) (components_among false (program_parts_in d qs).variables)
  unfolding program_parts
  program_owned l d [] s g n o i f h = h
  program_owned l d (q ∷ qs) s g n o i f h =
      let m : Layer = program_part l q in
      let c : Declared = program_part_in d q in
      let es : List Enumerated = in_program_part q in
      let fs : List Enumerated = each_in in_program_part qs in
      let os : List Opening = part_openings d q in
      let rs : List Opening = parts_openings c qs in
      let numbered : AreNumbered k.firsts (length l.constants) es = numbered_left k (length l.constants) es fs n in
      let stood : Stood k l m c es (length os) = part_stood k l d q s.0 g.0 numbered (opened_left k.routines (length l.routines) os rs o) i in
      let x = parts_grew c qs in
      let now : Follow k [] c.variables = follow_left k [] c.variables x.0 (subst (λ vs. Follow k [] vs) x.1 f) in
      program_owned m c qs s.1 g.1 (numbered_after k l.constants m.constants es fs stood.constants n) (opened_after k l m os rs stood.routines o) stood.standing f (part_owned l d q s.0 numbered i.names now h)

-- ---- the walk

module _ (k : Numbering) (p : syntax.Program) (end : Layer) (counted : Counted end.types) where
  part_of : (l : Layer) (d : Declared) (q : syntax.ProgramPart) → AreOf [] d.variables d.scope → AreOf [] (program_part_in d q).variables (program_part_in d q).scope
  part_of l d (syntax.program_constants at ds) a = of_constants [] d.variables d.scope ds a
  part_of l d (syntax.program_types at ns) a = definitions_of k p end counted l d ns a
  part_of l d (syntax.program_variables at gs) a = permanent_variables_of [] (record { variables = d.variables; scope = d.scope }) gs a

  pub parts_of : (l : Layer) (d : Declared) (qs : List syntax.ProgramPart) → AreOf [] d.variables d.scope → AreOf [] (program_parts_in d qs).variables (program_parts_in d qs).scope
  parts_of l d [] a = a
  parts_of l d (q ∷ qs) a = parts_of l (program_part_in d q) qs (part_of l d q a)

  abbrev Both : List Layer → List Opening → ℕ → List Layer → Type 0
  Both ls os n zs = AreSeated k p end counted ls os × AreSettled k p end counted n zs

  part_seated : (l : Layer) (d : Declared) (q : syntax.ProgramPart) → IsSmallProgramPart q → IsFitPart d q → AreNumbered k.firsts (length l.constants) (in_program_part q) → AreOpened k.routines (length l.routines) (part_openings d q) → Standing k l d →
      AreOf [] d.variables d.scope → IsFirst k p (program_part_in d q).systems → Longer (program_part l q).types end.types → Longer (program_part l q).systems end.systems → Both (part_begun l q) (part_openings d q) (length d.systems) (part_parts l q)
  part_seated l d (syntax.program_types at ns) h f e o i a w x y = definitions_seated k p end counted l d ns h f e o i a w x y
  part_seated l d _ h f e o i a w x y = (tt, tt)

  pub parts_seated : (l : Layer) (d : Declared) (qs : List syntax.ProgramPart) → Each IsSmallProgramPart qs → AreFitParts d qs → AreNumbered k.firsts (length l.constants) (each_in in_program_part qs) → AreOpened k.routines (length l.routines) (parts_openings d qs) → Standing k l d →
      AreOf [] d.variables d.scope → IsFirst k p (program_parts_in d qs).systems → Longer (program_parts l qs).types end.types → Longer (program_parts l qs).systems end.systems → Both (program_parts_begun l qs) (parts_openings d qs) (length d.systems) (program_parts_parts l qs)
  unfolding program_parts
  parts_seated l d [] h f e o i a w x y = (tt, tt)
  parts_seated l d (q ∷ qs) h f e o i a w x y =
      let m : Layer = program_part l q in
      let c : Declared = program_part_in d q in
      let es : List Enumerated = in_program_part q in
      let fs : List Enumerated = each_in in_program_part qs in
      let os : List Opening = part_openings d q in
      let rs : List Opening = parts_openings c qs in
      let numbered : AreNumbered k.firsts (length l.constants) es = numbered_left k (length l.constants) es fs e in
      let opened : AreOpened k.routines (length l.routines) os = opened_left k.routines (length l.routines) os rs o in
      let stood : Stood k l m c es (length os) = part_stood k l d q h.0 f.0 numbered opened i in
      let w' : IsFirst k p c.systems = first_before k p c.systems (program_parts_in c qs).systems (parts_longer k p c qs) w in
      let later = program_parts_extend m qs in
      let x' : Longer m.types end.types = longer_trans m.types (program_parts m qs).types end.types later.types x in
      let y' : Longer m.systems end.systems = longer_trans m.systems (program_parts m qs).systems end.systems later.systems y in
      let one : Both (part_begun l q) os (length d.systems) (part_parts l q) = part_seated l d q h.0 f.0 numbered opened i a w' x' y' in
      let rest : Both (program_parts_begun m qs) rs (length c.systems) (program_parts_parts m qs) = parts_seated m c qs h.1 f.1 (numbered_after k l.constants m.constants es fs stood.constants e) (opened_after k l m os rs stood.routines o) stood.standing (part_of l d q a) w x y in (
        seated_append k p end counted (part_begun l q) (program_parts_begun m qs) os rs one.0 rest.0,
        settled_append k p end counted (length d.systems) (part_parts l q) (program_parts_parts m qs) one.1 (subst (λ j. AreSettled k p end counted j (program_parts_parts m qs)) (sym (part_many l d q)) rest.1),
      )

-- ---- the whole tree

nothing_of : AreOf [] [] predeclared
nothing_of = (tt, (tt, (tt, (tt, (tt, (tt, (tt, (tt, (tt, (tt, (tt, (tt, (tt, (tt, (tt, tt)))))))))))))))

last_entry_of : (xs : List SystemView) (y : SystemView) → slice_index_or (xs ++ y ∷ []) (length xs) no_system ≡ y
last_entry_of xs y = entry_at (xs ++ y ∷ []) (length xs) no_system y (last_entry xs y)

pub types_length : (ss : List System) → length (types_of ss) ≡ length ss
types_length [] = refl
types_length (s ∷ ss) = ap suc (types_length ss)

pub all_seated : (k : Numbering) (t : syntax.Tree) (counted : Counted (whole_laid t).types) → IsSmallProgram t.program → AreFitParts nothing_declared t.program.parts → AreNumbered k.firsts 0 (enumerations_of t.program) → AreOpened k.routines 0 (openings_of t.program) →
    AreSeated k t.program (whole_laid t) counted (all_begun t) (openings_of t.program) × AreSettled k t.program (whole_laid t) counted 0 (all_parts t)
unfolding program
all_seated k t counted h f e o =
    let p : syntax.Program = t.program in
    let l : Layer = nothing_laid t.lines in
    let m : Layer = program_parts l p.parts in
    let b : Layer = routines m p.routines in
    let d : Declared = declared p in
    let end : Layer = whole_laid t in
    let es : List Enumerated = each_in in_program_part p.parts in
    let fs : List Enumerated = each_in in_routine p.routines in
    let os : List Opening = parts_openings nothing_declared p.parts in
    let ps : List Opening = routine_openings (program_system p) d.scope p.routines in
    let qs : List Opening = initial_opening (program_system p) (own_meaning d p) ∷ [] in
    let s : Standing k l nothing_declared = record { names = outermost_in k []; systems = refl; outer = all_outer k } in
    let g : AreNumbered k.firsts 0 es = numbered_left k 0 es fs e in
    let r : AreOpened k.routines 0 os = opened_left k.routines 0 os (ps ++ qs) o in
    let a : Stood k l m d es (length os) = parts_stood k l nothing_declared p.parts h.0 f g r s in
    let w : IsFirst k p d.systems = ([], sym (append-nil d.systems)) in
    let after : AreOpened k.routines (length m.routines) (ps ++ qs) = opened_after k l m os (ps ++ qs) a.routines o in
    let opened : AreOpened k.routines (length m.routines) ps = opened_left k.routines (length m.routines) ps qs after in
    let last : AreOpened k.routines (length m.routines + length ps) qs = opened_right k.routines (length m.routines) ps qs after in
    let many : length m.routines + length ps ≡ length b.routines = omega (arith, openings_count (program_system p) d.scope p.routines, routines_count m p.routines) in
    let numbered : AreNumbered k.firsts (length m.constants) fs = numbered_after k l.constants m.constants es fs a.constants e in
    let same : end.systems ≡ m.systems = body_systems (with_heading (with_new_frame b) (heading_with [] [] None)) p.body true ∙ routines_systems m p.routines in
    let y : Longer m.systems end.systems = ([], same ∙ sym (append-nil m.systems)) in
    let xb : Longer b.types end.types = (initial_extends b [] p.body).types in
    let x : Longer m.types end.types = longer_trans m.types b.types end.types (routines_extend m p.routines).types xb in
    let n : ℕ = program_system p in
    let whole : system_of p n ≡ own_meaning d p = ap (or_own (own_meaning d p)) (past_there d.systems) in
    let len : length m.systems ≡ n = a.standing.systems in
    let v : AreOf [] d.variables d.scope = parts_of k p end counted l nothing_declared p.parts nothing_of in
    let visible : AreOf [] (system_variables (system_of p n)) d.scope = subst (λ (q : SystemMeaning). AreOf [] (system_variables q) d.scope) (sym whole) v in
    let first = parts_seated k p end counted l nothing_declared p.parts h.0 f g r s nothing_of w x y in
    let second : AreSeated k p end counted (routines_begun m p.routines) ps = routines_seated k p end counted m d.scope n p.routines h.1 numbered opened a.standing.names len visible xb in
    let third : Seated k p end counted (initial_begun b []) (initial_opening n (own_meaning d p)) = initial_seated k p end counted b [] n (own_meaning d p) (program_reached k t.lines p h f e o).names (ap (λ (ss : List System). length ss) (routines_systems m p.routines) ∙ len) (routines_of [] (system_variables (system_of p n)) d.scope p.routines visible) in
    let gone : slice_get end.systems n ≡ None = ap (λ ss. slice_get ss n) same ∙ ap (λ j. slice_get m.systems j) (sym len) ∙ past_there m.systems in
    let count : length end.routines ≡ suc (length b.routines) = body_count (with_heading (with_new_frame b) (heading_with [] [] None)) p.body true in
    let initial : initial_number k p end counted n ≡ length b.routines = ap (initial_or (length end.routines - 1)) gone ∙ omega (arith, count) in
    let number : k.routines (length b.routines) ≡ initial_meaning (own_meaning d p) = ap k.routines (sym many) ∙ last.0 in
    let start : Owns l [] = record { cells = omega arith; holding = nothing_held k [] l.names predeclared (outermost_in k []) nothing_of } in
    let count_types : length (types_of end.systems) ≡ n = types_length end.systems ∙ ap (λ (ss : List System). length ss) same ∙ len in
    let cells : end.owned.cells ≡ m.owned.cells = ap (λ (q : layers.Owned). q.cells) (body_owned (with_heading (with_new_frame b) (heading_with [] [] None)) p.body true ∙ routines_owned m p.routines) in
    let own : Settled k p end counted n m = record {
      statement = ap k.routines initial ∙ number ∙ ap initial_meaning (sym whole);
      cells = ap (λ (q : SystemView). q.own) (ap (λ j. slice_index_or (system_types end.systems end.owned) j no_system) (sym count_types) ∙ last_entry_of (types_of end.systems) (system_type end.owned)) ∙ cells;
      owns = subst (λ (q : SystemMeaning). SystemFits k p end counted q → Owns m (parameter_variables q.parameters ++ components_among false q.variables)) (sym whole) (λ fits. program_owned k l nothing_declared p.parts h.0 f g r s fits.1 start);
      parameters = subst (λ (q : SystemMeaning). Each (λ (c : Parameter). IsParameter c.ty) q.parameters) (sym whole) tt;
    } in
    let many_parts : 0 + length (program_parts_parts l p.parts) ≡ n = parts_many l nothing_declared p.parts in (
      seated_append k p end counted (program_parts_begun l p.parts) (routines_begun m p.routines ++ initial_begun b [] ∷ []) os (ps ++ qs) first.0 (seated_append k p end counted (routines_begun m p.routines) (initial_begun b [] ∷ []) ps qs second (third, tt)),
      settled_append k p end counted 0 (program_parts_parts l p.parts) (m ∷ []) first.1 (subst (λ j. AreSettled k p end counted j (m ∷ [])) (sym many_parts) (own, tt)),
    )
