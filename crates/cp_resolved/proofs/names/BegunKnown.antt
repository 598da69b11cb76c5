-- What is known where the statements of each routine and of each initial statement begin.
use Rattle.std.proofs.Common.{◌≡◌, true, false, ◌+◌, ℕ, suc, List, [], ◌∷◌, ◌++◌, length, Some, None, slice_get, refl, sym, ap, subst, ◌∙◌, arith, append_assoc, append-nil, length-append}
use Rattle.cp_tree.specs.Syntax as syntax
use Rattle.cp_symbols.specs.declared.names.LayoutMeaning.TheVariants as meaning
use Rattle.cp_layout.specs.Layers.{find, Layer, System, nothing_laid}
use Rattle.cp_layout.specs.LaidDeclarations.{heading_with, with_new_frame, with_heading, routine, routines, system_definition, system_definitions, program_part, program_parts, program}
use Rattle.cp_resolved.proofs.Words.{Name, Scope, permanent_variable, seen_inside, Block, with_groups, Numbering, InStep, is_named, is_parameter, AreOthers}
use Rattle.cp_resolved.proofs.Words.{IsOnceDefinition, IsOncePart, IsOnce, initial_meaning, IsFitDefinition, AreFitDefinitions, IsFitPart, AreFitParts, nothing_declared}
use Rattle.cp_meaning.specs.Systems.{SystemMeaning, system_in, Declared, definition_in, definitions_in, program_part_in, program_parts_in, declared, program_system, own_meaning, or_own, system_of}
use Rattle.cp_resolved.specs.Begun.{routines_begun, initial_begun, parameters_of, parts_begun, system_begun, definition_begun, definitions_begun, part_begun, program_parts_begun, all_begun}
use Rattle.cp_resolved.specs.Enumerations.{Enumerated, each_in, in_part, in_routine, in_definition, in_program_part, enumerations_of}
use Rattle.cp_resolved.specs.Openings.{Opening, with_routine, routine_openings, parts_scope, initial_opening, definition_openings, definitions_openings, part_openings, parts_openings, openings_of, AreOpened}
use Rattle.cp_resolved.specs.Small.{Each, IsSmallRoutine, IsSmallSystem, IsSmallDefinition, IsSmallProgramPart, IsSmallProgram, AreNumbered}
use Rattle.cp_resolved.specs.TreeLayouts.{definition_parts, definitions_parts, part_parts, program_parts_parts, all_parts, whole_laid}
use Rattle.cp_resolved.proofs.names.Entries.{past_there}
use Rattle.cp_resolved.proofs.laid.Extends.{Longer, Extends, system_definition_extends, system_definitions_extend, program_parts_extend, longer_trans as longer_both}
use Rattle.cp_resolved.proofs.names.Knowing.{Knowing, begun_knows, begun_count, routine_knows, routine_even, routines_even, initial_knows, initial_count, parts_know, parts_even}
use Rattle.cp_resolved.proofs.names.KnowingSystems.{routines_know, begun_many, definitions_longer, parts_longer, IsFirst, first_before, first_is, Known, definition_known, part_known, parts_known, nothing_known}
use Rattle.cp_resolved.proofs.names.PermanentNames.{Under, under_same, under_routine, under_after, under_routines, own_number, BoundIn, program_bound, parts_bound, FirstsApart, parts_first}
use Rattle.cp_resolved.proofs.names.Steps.{outermost_in}
use Rattle.cp_resolved.proofs.names.StepsOfParts.{Reached}
use Rattle.cp_resolved.proofs.names.StepsOfProgram.{Standing, Stood, definition_stood, part_stood, parts_stood, opened_after, program_reached, all_outer}
use Rattle.cp_resolved.proofs.names.StepsOfRoutines.{body_systems, routine_count, routine_systems, routines_systems, routines_count, openings_count, opened_left, opened_right, begun_reached, routine_reached, parts_begun_reached, parts_opened, system_begun_reached, groups_systems, begun_routines, begun_systems as begun_same}
use Rattle.cp_resolved.proofs.names.StepsOfTypes.{numbered_left, numbered_after}
use Rattle.cp_resolved.proofs.components.ComponentsStand.{entry_there as seam}

-- ---- as many states as system types

pub definition_many : (l : Layer) (d : Declared) (n : syntax.SystemDefinition) (v : syntax.Definition) → length d.systems + length (definition_parts l v) ≡ length (definition_in d n v).systems
definition_many l d n (syntax.type_definition t) = omega arith
definition_many l d n (syntax.system_definition s) = sym (length-append d.systems (system_in (seen_inside d.scope) s ∷ []))

pub definitions_many : (l : Layer) (d : Declared) (ns : List syntax.SystemDefinition) → length d.systems + length (definitions_parts l ns) ≡ length (definitions_in d ns).systems
definitions_many l d [] = omega arith
definitions_many l d (n ∷ ns) =
    let a = definition_many l d n n.value in
    let b = definitions_many (system_definition l n) (definition_in d n n.value) ns in
    omega (arith, a, b, length-append (definition_parts l n.value) (definitions_parts (system_definition l n) ns))

pub part_many : (l : Layer) (d : Declared) (q : syntax.ProgramPart) → length d.systems + length (part_parts l q) ≡ length (program_part_in d q).systems
part_many l d (syntax.program_types at ns) = definitions_many l d ns
part_many l d x = omega arith

pub parts_many : (l : Layer) (d : Declared) (qs : List syntax.ProgramPart) → length d.systems + length (program_parts_parts l qs) ≡ length (program_parts_in d qs).systems
parts_many l d [] = omega arith
parts_many l d (q ∷ qs) =
    let a = part_many l d q in
    let b = parts_many (program_part l q) (program_part_in d q) qs in
    omega (arith, a, b, length-append (part_parts l q) (program_parts_parts (program_part l q) qs))

pub further : {A : Type 0} (all before xs ys rest : List A) → all ≡ before ++ ((xs ++ ys) ++ rest) → all ≡ (before ++ xs) ++ (ys ++ rest)
further all before xs ys rest e = e ∙ ap (λ zs. before ++ zs) (append_assoc xs ys rest) ∙ sym (append_assoc before xs (ys ++ rest))

module _ (k : Numbering) (p : syntax.Program) (once : IsOnce p) (all : List Layer) (end : Layer) where
  -- the state in which the routines of a system type begin
  pub record Around (owner : ℕ) (q : Layer) : Type 0 where
    pub there : slice_get all owner ≡ Some q
    pub bound : BoundIn (system_of p owner).parameters q.names
    pub first : FirstsApart (system_of p owner).parameters q.names

  pub record Begins (l : Layer) (o : Opening) : Type 0 where
    pub names : InStep k l.types l.names o.meaning.scope
    pub knowing : Knowing k p l
    pub count : length l.headings ≡ suc (length l.routines)
    pub systems : Longer l.systems end.systems
    pub around : Layer
    pub outer : Around o.owner around
    pub under : Under around.names l.names
    -- the routine's own name stands for it, if for a routine
    pub own : (x : Name) → is_named x o.name ≡ true → (i : ℕ) → find x l.names ≡ Some (meaning.Routine i) → i ≡ length l.routines

  abbrev pub AreBegun : List Layer → List Opening → Type 0
  AreBegun [] [] = Unit {0}
  AreBegun (l ∷ ls) (o ∷ os) = Begins l o × AreBegun ls os
  AreBegun [] (o ∷ os) = ⊥
  AreBegun (l ∷ ls) [] = ⊥

  begun_append : (ls ms : List Layer) (os qs : List Opening) → AreBegun ls os → AreBegun ms qs → AreBegun (ls ++ ms) (os ++ qs)
  begun_append [] ms [] qs h i = i
  begun_append (l ∷ ls) ms (o ∷ os) qs h i = (h.0, begun_append ls ms os qs h.1 i)
  begun_append _ ms _ qs h i = absurd h

  abbrev IsLonger : List System → Type 0
  IsLonger ss = Longer ss end.systems

  -- ---- routines

  routines_begin : (l : Layer) (s : Scope) (owner : ℕ) (q : Layer) (rs : List syntax.Routine) → Each IsSmallRoutine rs → AreNumbered k.firsts (length l.constants) (each_in in_routine rs) → AreOpened k.routines (length l.routines) (routine_openings owner s rs) → InStep k l.types l.names s →
      Known k p l → Around owner q → Under q.names l.names → IsLonger l.systems → AreBegun (routines_begun l rs) (routine_openings owner s rs)
  routines_begin l s owner q [] h n o i a g u x = tt
  routines_begin l s owner q (r ∷ rs) h n o i a g u x =
      let m : Layer = routine l r in
      let e : AreNumbered k.firsts (length l.constants) (in_routine r) = numbered_left k (length l.constants) (in_routine r) (each_in in_routine rs) n in
      let b : Reached k l m (with_routine s r) (in_routine r) = routine_reached k l s r h.0 e o.0 i in
      let next : AreOpened k.routines (length m.routines) (routine_openings owner (with_routine s r) rs) = subst (λ j. AreOpened k.routines j (routine_openings owner (with_routine s r) rs)) (sym (routine_count l r)) o.1 in (
        record {
          names = (begun_reached k l s r h.0 e o.0 i).names;
          knowing = begun_knows k p l s r i o.0 a.even a.knowing;
          count = begun_count k p l r a.even;
          systems = subst IsLonger (sym (begun_same l r)) x;
          around = q;
          outer = g;
          under = under_routine q.names l r u;
          own = λ x e i f. own_number l r x e i f ∙ sym (ap (λ rs. length rs) (begun_routines l r));
        },
        routines_begin m (with_routine s r) owner q rs h.1 (numbered_after k l.constants m.constants (in_routine r) (each_in in_routine rs) b.constants n) next b.names (record { knowing = routine_knows k p l s r i o.0 a.even a.knowing; even = routine_even k p l r a.even }) g (under_after q.names l r u) (subst IsLonger (sym (routine_systems l r)) x),
      )

  -- ---- system types

  around_system : (l : Layer) (d : Declared) (s : syntax.System) → system_of p (length d.systems) ≡ system_in (seen_inside d.scope) s → slice_get all (length d.systems) ≡ Some (parts_begun l s) → Around (length d.systems) (parts_begun l s)
  around_system l d s whole place =
      let u : Scope = seen_inside d.scope in
      let n : ℕ = length d.systems in
      let b : Block = record { variables = []; scope = (with_groups permanent_variable (record { parameters = []; scope = u }) s.parameters).scope } in
      record {
        there = place;
        bound = subst (λ (m : SystemMeaning). BoundIn m.parameters (parts_begun l s).names) (sym whole) (parts_bound u l s);
        first = parts_first (system_of p n).parameters b l s refl (subst (λ (m : SystemMeaning). AreOthers (system_of p n).parameters m.variables) whole (once.variables n));
      }

  system_begins : (l : Layer) (d : Declared) (s : syntax.System) → IsSmallSystem s → IsFitDefinition d (syntax.system_definition s) → AreNumbered k.firsts (length l.constants) (in_definition (syntax.system_definition s)) → AreOpened k.routines (length l.routines) (definition_openings d (syntax.system_definition s)) → Standing k l d →
      Known k p l → system_of p (length d.systems) ≡ system_in (seen_inside d.scope) s → slice_get all (length d.systems) ≡ Some (parts_begun l s) → IsLonger l.systems → AreBegun (definition_begun l (syntax.system_definition s)) (definition_openings d (syntax.system_definition s))
  system_begins l d s h f e o i a whole place x =
      let u : Scope = seen_inside d.scope in
      let w : Scope = parts_scope u s in
      let n : ℕ = length d.systems in
      let z : Layer = parts_begun l s in
      let b : Layer = system_begun l s in
      let ps = parameters_of l s in
      let os : List Opening = routine_openings n w s.routines in
      let own : List Opening = initial_opening n (system_in u s) ∷ [] in
      let es : List Enumerated = each_in in_part s.parts in
      let fs : List Enumerated = each_in in_routine s.routines in
      let q : AreOpened k.routines (length l.routines) os = opened_left k.routines (length l.routines) os own o in
      let last : AreOpened k.routines (length l.routines + length os) own = opened_right k.routines (length l.routines) os own o in
      let many : length l.routines + length os ≡ length b.routines = omega (arith, openings_count n w s.routines, begun_many k p l d s) in
      let number : k.routines (length b.routines) ≡ initial_meaning (system_in u s) = ap k.routines (sym many) ∙ last.0 in
      let r : Reached k l z w es = parts_begun_reached k l d.scope s h.0 f i.outer (numbered_left k (length l.constants) es fs e) i.names in
      let numbered : AreNumbered k.firsts (length z.constants) fs = numbered_after k l.constants z.constants es fs r.constants e in
      let opened : AreOpened k.routines (length z.routines) os = parts_opened k l n w s q in
      let known : Known k p z = record { knowing = parts_know k p l s a.knowing; even = parts_even k p l s a.even } in
      let g : Around n z = around_system l d s whole place in
      let zs : IsLonger z.systems = subst IsLonger (sym (groups_systems l s)) x in
      let even : length b.headings ≡ length b.routines = routines_even k p z s.routines known.even in
      begun_append (routines_begun z s.routines) (initial_begun b ps ∷ []) os own (routines_begin z w n z s.routines h.1 numbered opened r.names known g (under_same z.names) zs) (
        record {
          names = (system_begun_reached k l d.scope n s h f i.outer e q i.names).names;
          knowing = initial_knows k p b ps (system_in u s) number even (routines_know k p z w n s.routines h.1 numbered opened r.names known.even known.knowing);
          count = initial_count k p b ps even;
          systems = subst IsLonger (sym (routines_systems z s.routines)) zs;
          around = z;
          outer = g;
          under = under_routines z.names z s.routines (under_same z.names);
          own = λ x e i f. absurd (let w : false ≡ true = e in cc);
        },
        tt,
      )

  definition_begins : (l : Layer) (d : Declared) (n : syntax.SystemDefinition) (v : syntax.Definition) → IsSmallDefinition v → IsFitDefinition d v → AreNumbered k.firsts (length l.constants) (in_definition v) → AreOpened k.routines (length l.routines) (definition_openings d v) → Standing k l d → Known k p l → IsFirst k p (definition_in d n v).systems →
      (before rest : List Layer) → all ≡ before ++ (definition_parts l v ++ rest) → length before ≡ length d.systems → IsLonger l.systems → AreBegun (definition_begun l v) (definition_openings d v)
  definition_begins l d n (syntax.type_definition t) h f e o i a w before rest place len x = tt
  definition_begins l d n (syntax.system_definition s) h f e o i a w before rest place len x =
      system_begins l d s h f e o i a (first_is k p d.systems (system_in (seen_inside d.scope) s) w) (ap (λ j. slice_get all j) (sym len) ∙ ap (λ ls. slice_get ls (length before)) place ∙ seam before (parts_begun l s) rest) x

  -- ---- the declarations of the program

  systems_before : (l m : Layer) → Extends l m → IsLonger m.systems → IsLonger l.systems
  systems_before l m h x = longer_both l.systems m.systems end.systems h.systems x

  definitions_begin : (l : Layer) (d : Declared) (ns : List syntax.SystemDefinition) → Each (λ n. IsSmallDefinition n.value) ns → AreFitDefinitions d ns → Each (λ n. IsOnceDefinition n.value) ns → AreNumbered k.firsts (length l.constants) (each_in (λ n. in_definition n.value) ns) → AreOpened k.routines (length l.routines) (definitions_openings d ns) → Standing k l d →
      Known k p l → IsFirst k p (definitions_in d ns).systems → (before rest : List Layer) → all ≡ before ++ (definitions_parts l ns ++ rest) → length before ≡ length d.systems → IsLonger (system_definitions l ns).systems → AreBegun (definitions_begun l ns) (definitions_openings d ns)
  unfolding system_definitions
  definitions_begin l d [] h f once e o i a w before rest place len x = tt
  definitions_begin l d (n ∷ ns) h f once e o i a w before rest place len x =
      let m : Layer = system_definition l n in
      let c : Declared = definition_in d n n.value in
      let es : List Enumerated = in_definition n.value in
      let fs : List Enumerated = each_in (λ (n : syntax.SystemDefinition). in_definition n.value) ns in
      let os : List Opening = definition_openings d n.value in
      let qs : List Opening = definitions_openings c ns in
      let numbered : AreNumbered k.firsts (length l.constants) es = numbered_left k (length l.constants) es fs e in
      let opened : AreOpened k.routines (length l.routines) os = opened_left k.routines (length l.routines) os qs o in
      let stood : Stood k l m c es (length os) = definition_stood k l d n n.value h.0 f.0 numbered opened i in
      let w' : IsFirst k p c.systems = first_before k p c.systems (definitions_in c ns).systems (definitions_longer k p c ns) w in
      let after : all ≡ (before ++ definition_parts l n.value) ++ (definitions_parts m ns ++ rest) = further all before (definition_parts l n.value) (definitions_parts m ns) rest place in
      let here : all ≡ before ++ (definition_parts l n.value ++ (definitions_parts m ns ++ rest)) = place ∙ ap (λ zs. before ++ zs) (append_assoc (definition_parts l n.value) (definitions_parts m ns) rest) in
      let many : length (before ++ definition_parts l n.value) ≡ length c.systems = omega (arith, len, length-append before (definition_parts l n.value), definition_many l d n n.value) in
      let ms : IsLonger m.systems = systems_before m (system_definitions m ns) (system_definitions_extend m ns) x in
      begun_append (definition_begun l n.value) (definitions_begun m ns) os qs
      (definition_begins l d n n.value h.0 f.0 numbered opened i a w' before (definitions_parts m ns ++ rest) here len (systems_before l m (system_definition_extends l n) ms))
      (definitions_begin m c ns h.1 f.1 once.1 (numbered_after k l.constants m.constants es fs stood.constants e) (opened_after k l m os qs stood.routines o) stood.standing (definition_known k p l d n h.0 f.0 once.0 numbered opened i w' a) w (before ++ definition_parts l n.value) rest after many x)

  part_begins : (l : Layer) (d : Declared) (q : syntax.ProgramPart) → IsSmallProgramPart q → IsFitPart d q → IsOncePart q → AreNumbered k.firsts (length l.constants) (in_program_part q) → AreOpened k.routines (length l.routines) (part_openings d q) → Standing k l d →
      Known k p l → IsFirst k p (program_part_in d q).systems → (before rest : List Layer) → all ≡ before ++ (part_parts l q ++ rest) → length before ≡ length d.systems → IsLonger (program_part l q).systems → AreBegun (part_begun l q) (part_openings d q)
  part_begins l d (syntax.program_types at ns) h f once e o i a w before rest place len x = definitions_begin l d ns h f once e o i a w before rest place len x
  part_begins l d _ h f once e o i a w before rest place len x = tt

  parts_begin : (l : Layer) (d : Declared) (qs : List syntax.ProgramPart) → Each IsSmallProgramPart qs → AreFitParts d qs → Each IsOncePart qs → AreNumbered k.firsts (length l.constants) (each_in in_program_part qs) → AreOpened k.routines (length l.routines) (parts_openings d qs) → Standing k l d →
      Known k p l → IsFirst k p (program_parts_in d qs).systems → (before rest : List Layer) → all ≡ before ++ (program_parts_parts l qs ++ rest) → length before ≡ length d.systems → IsLonger (program_parts l qs).systems → AreBegun (program_parts_begun l qs) (parts_openings d qs)
  unfolding program_parts
  parts_begin l d [] h f once e o i a w before rest place len x = tt
  parts_begin l d (q ∷ qs) h f once e o i a w before rest place len x =
      let m : Layer = program_part l q in
      let c : Declared = program_part_in d q in
      let es : List Enumerated = in_program_part q in
      let fs : List Enumerated = each_in in_program_part qs in
      let os : List Opening = part_openings d q in
      let rs : List Opening = parts_openings c qs in
      let numbered : AreNumbered k.firsts (length l.constants) es = numbered_left k (length l.constants) es fs e in
      let opened : AreOpened k.routines (length l.routines) os = opened_left k.routines (length l.routines) os rs o in
      let stood : Stood k l m c es (length os) = part_stood k l d q h.0 f.0 numbered opened i in
      let w' : IsFirst k p c.systems = first_before k p c.systems (program_parts_in c qs).systems (parts_longer k p c qs) w in
      let after : all ≡ (before ++ part_parts l q) ++ (program_parts_parts m qs ++ rest) = further all before (part_parts l q) (program_parts_parts m qs) rest place in
      let here : all ≡ before ++ (part_parts l q ++ (program_parts_parts m qs ++ rest)) = place ∙ ap (λ zs. before ++ zs) (append_assoc (part_parts l q) (program_parts_parts m qs) rest) in
      let many : length (before ++ part_parts l q) ≡ length c.systems = omega (arith, len, length-append before (part_parts l q), part_many l d q) in
      let ms : IsLonger m.systems = systems_before m (program_parts m qs) (program_parts_extend m qs) x in
      begun_append (part_begun l q) (program_parts_begun m qs) os rs (part_begins l d q h.0 f.0 once.0 numbered opened i a w' before (program_parts_parts m qs ++ rest) here len ms)
      (parts_begin m c qs h.1 f.1 once.1 (numbered_after k l.constants m.constants es fs stood.constants e) (opened_after k l m os rs stood.routines o) stood.standing (part_known k p l d q h.0 f.0 once.0 numbered opened i w' a) w (before ++ part_parts l q) rest after many x)

  -- ---- the program

  no_parameters : (system_of p (program_system p)).parameters ≡ []
  no_parameters = ap (λ o. (or_own (own_meaning (declared p) p) o).parameters) (past_there (declared p).systems)

  around_program : (lines : List ℕ) → slice_get all (program_system p) ≡ Some (program_parts (nothing_laid lines) p.parts) → Around (program_system p) (program_parts (nothing_laid lines) p.parts)
  around_program lines place =
      record {
        there = place;
        bound = subst (λ qs. BoundIn qs (program_parts (nothing_laid lines) p.parts).names) (sym no_parameters) (program_bound lines p.parts);
        first = λ x n v e. ap (is_parameter x) no_parameters;
      }

-- where each routine and each initial statement of a tree begins
pub all_begin : (k : Numbering) (t : syntax.Tree) (once : IsOnce t.program) → IsSmallProgram t.program → AreFitParts nothing_declared t.program.parts → AreNumbered k.firsts 0 (enumerations_of t.program) → AreOpened k.routines 0 (openings_of t.program) → AreBegun k t.program once (all_parts t) (whole_laid t) (all_begun t) (openings_of t.program)
unfolding program
all_begin k t once h f e o =
    let p : syntax.Program = t.program in
    let l : Layer = nothing_laid t.lines in
    let m : Layer = program_parts l p.parts in
    let b : Layer = routines m p.routines in
    let d : Declared = declared p in
    let all : List Layer = all_parts t in
    let end : Layer = whole_laid t in
    let es : List Enumerated = each_in in_program_part p.parts in
    let fs : List Enumerated = each_in in_routine p.routines in
    let os : List Opening = parts_openings nothing_declared p.parts in
    let ps : List Opening = routine_openings (program_system p) d.scope p.routines in
    let qs : List Opening = initial_opening (program_system p) (own_meaning d p) ∷ [] in
    let s : Standing k l nothing_declared = record { names = outermost_in k []; systems = refl; outer = all_outer k } in
    let g : AreNumbered k.firsts 0 es = numbered_left k 0 es fs e in
    let r : AreOpened k.routines 0 os = opened_left k.routines 0 os (ps ++ qs) o in
    let a : Stood k l m d es (length os) = parts_stood k l nothing_declared p.parts h.0 f g r s in
    let w : IsFirst k p d.systems = ([], sym (append-nil d.systems)) in
    let known : Known k p m = parts_known k p l nothing_declared p.parts h.0 f once.routines g r s w (nothing_known k p t.lines) in
    let after : AreOpened k.routines (length m.routines) (ps ++ qs) = opened_after k l m os (ps ++ qs) a.routines o in
    let opened : AreOpened k.routines (length m.routines) ps = opened_left k.routines (length m.routines) ps qs after in
    let last : AreOpened k.routines (length m.routines + length ps) qs = opened_right k.routines (length m.routines) ps qs after in
    let many : length m.routines + length ps ≡ length b.routines = omega (arith, openings_count (program_system p) d.scope p.routines, routines_count m p.routines) in
    let number : k.routines (length b.routines) ≡ initial_meaning (own_meaning d p) = ap k.routines (sym many) ∙ last.0 in
    let numbered : AreNumbered k.firsts (length m.constants) fs = numbered_after k l.constants m.constants es fs a.constants e in
    let even : length b.headings ≡ length b.routines = routines_even k p m p.routines known.even in
    let same : end.systems ≡ m.systems = body_systems (with_heading (with_new_frame b) (heading_with [] [] None)) p.body true ∙ routines_systems m p.routines in
    let x : Longer m.systems end.systems = ([], same ∙ sym (append-nil m.systems)) in
    let count : length (program_parts_parts l p.parts) ≡ program_system p = omega (arith, parts_many l nothing_declared p.parts) in
    let place : slice_get all (program_system p) ≡ Some m = ap (λ j. slice_get all j) (sym count) ∙ seam (program_parts_parts l p.parts) m [] in
    let outer : Around k p once all end (program_system p) m = around_program k p once all end t.lines place in
    begun_append k p once all end (program_parts_begun l p.parts) (routines_begun m p.routines ++ initial_begun b [] ∷ []) os (ps ++ qs) (parts_begin k p once all end l nothing_declared p.parts h.0 f once.routines g r s (nothing_known k p t.lines) w [] (m ∷ []) refl refl x)
    (begun_append k p once all end (routines_begun m p.routines) (initial_begun b [] ∷ []) ps qs (routines_begin k p once all end m d.scope (program_system p) m p.routines h.1 numbered opened a.standing.names known outer (under_same m.names) x) (
      record {
        names = (program_reached k t.lines p h f e o).names;
        knowing = initial_knows k p b [] (own_meaning d p) number even (routines_know k p m d.scope (program_system p) p.routines h.1 numbered opened a.standing.names known.even known.knowing);
        count = initial_count k p b [] even;
        systems = subst (λ ss. Longer ss end.systems) (sym (routines_systems m p.routines)) x;
        around = m;
        outer = outer;
        under = under_routines m.names m p.routines (under_same m.names);
        own = λ x e i f. absurd (let w : false ≡ true = e in cc);
      },
      tt,
    ))
