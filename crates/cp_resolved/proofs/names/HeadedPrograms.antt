-- The same of all routines and initial statements of a program; and the routines and the initial statement of each system type have the numbers between its own.
use Rattle.std.proofs.Common.{◌≡◌, ◌+◌, ◌<◌, ◌≤◌, ℕ, zero, suc, Bool, true, false, nat_le, List, [], ◌∷◌, ◌++◌, length, Some, None, slice_get, refl, sym, ap, subst, ◌∙◌, arith, append_assoc, append-nil, length-append}
use Rattle.cp_resolved.proofs.Words.{leb-true, leb-false, none-some, same_Some, written_type, Scope, seen_inside, ParametersAre, Numbering, IsDistinctDefinition}
use Rattle.cp_resolved.proofs.Words.{IsDistinctPart, IsDistinctSystem, AreValues, IsDistinct, IsFitDefinition, AreFitDefinitions, IsFitPart, AreFitParts}
use Rattle.cp_resolved.proofs.Words.{nothing_declared, Each, IsSmallSystem, IsSmallDefinition, IsSmallProgramPart, IsSmallProgram, AreNumbered}
use Rattle.cp_tree.specs.Syntax as syntax
use Rattle.cp_layout.specs.Layers.{Layer, Heading, System, nothing_laid}
use Rattle.cp_layout.specs.LaidDeclarations as laid
use Rattle.cp_layout.specs.LaidDeclarations.{Parameters, heading_with, with_new_frame, with_heading, routines, initial_statement, system, with_type_name, definition, system_definition, system_definitions, program_part, program_parts, constants, variables, program}
use Rattle.cp_meaning.specs.Systems.{SystemMeaning, system_in, Declared, definition_in, definitions_in, program_part_in, program_parts_in, declared, program_system, own_meaning, or_own, system_of}
use Rattle.cp_resolved.specs.Begun.{routines_begun, initial_begun, parameters_of, parts_begun, system_begun, definition_begun, definitions_begun, part_begun, program_parts_begun, all_begun}
use Rattle.cp_resolved.specs.Enumerations.{Enumerated, each_in, in_part, in_routine, in_definition, in_program_part, enumerations_of}
use Rattle.cp_resolved.specs.Openings.{Opening, routine_openings, parts_scope, initial_opening, definition_openings, definitions_openings, part_openings, parts_openings, openings_of, AreOpened}
use Rattle.cp_resolved.specs.TreeLayouts.{definition_parts, definitions_parts, part_parts, program_parts_parts, all_parts, whole_laid}
use Rattle.cp_resolved.proofs.names.BegunKnown.{definition_many, part_many, parts_many, further}
use Rattle.cp_resolved.proofs.laid.Declares.{type_declares, constants_declare, variables_declare, Declares}
use Rattle.cp_resolved.proofs.names.Entries.{last_entry, past_there}
use Rattle.cp_resolved.proofs.laid.Extends.{routines_extend}
use Rattle.cp_resolved.proofs.names.Headed.{AreAt, at_left, at_right, at_after, OwnedBy, Headed, AreHeaded, headed_both, RoutinesHeaded, routines_headed, parts_owned, program_owned}
use Rattle.cp_resolved.proofs.names.Knowing.{routines_even, parts_even}
use Rattle.cp_resolved.proofs.names.KnowingSystems.{begun_many, system_even, definitions_longer, parts_longer, IsFirst, first_before, first_is}
use Rattle.cp_resolved.proofs.names.Steps.{outermost_in}
use Rattle.cp_resolved.proofs.names.StepsOfParts.{Reached}
use Rattle.cp_resolved.proofs.names.StepsOfProgram.{Standing, Stood, definition_stood, part_stood, parts_stood, opened_after, all_outer}
use Rattle.cp_resolved.proofs.names.StepsOfRoutines.{body_systems, routines_systems, routines_count, openings_count, opened_left, parts_begun_reached, parts_opened, groups_routines, groups_systems}
use Rattle.cp_resolved.proofs.names.StepsOfTypes.{numbered_left, numbered_after}
use Rattle.cp_resolved.proofs.names.SystemsFound.{slots_in, parts_found, parameters_grown}
use Rattle.cp_resolved.proofs.components.ComponentsStand.{entry_there as seam}

module _ (k : Numbering) (p : syntax.Program) (os : List Opening) (all : List Layer) (values : (n : ℕ) → AreValues (k.routines n).parameters) where
  -- ---- the numbers of a system type's routines

  pub record Spans (j : ℕ) (s : System) : Type 0 where
    pub routines : (i : ℕ) → s.first ≤ i → i < s.initial → OwnedBy k p os all values j i
    pub opening : Opening
    pub there : slice_get os s.initial ≡ Some opening
    pub owner : opening.owner ≡ j
    pub name : opening.name ≡ None

  abbrev pub AreSpans : ℕ → List System → Type 0
  AreSpans j [] = Unit {0}
  AreSpans j (s ∷ ss) = Spans j s × AreSpans (suc j) ss

  spans_last : (j : ℕ) (ss : List System) (s : System) → AreSpans j ss → Spans (j + length ss) s → AreSpans j (ss ++ s ∷ [])
  spans_last j [] s h g =
      let e : j + 0 ≡ j = omega arith in
      (subst (λ i. Spans i s) e g, tt)
  spans_last j (t ∷ ss) s h g =
      let e : j + suc (length ss) ≡ suc j + length ss = omega arith in
      (h.0, spans_last (suc j) ss s h.1 (subst (λ i. Spans i s) e g))

  pub span_at : (j : ℕ) (ss : List System) (i : ℕ) (s : System) → AreSpans j ss → slice_get ss i ≡ Some s → Spans (j + i) s
  span_at j [] i s h e = absurd (none-some s e)
  span_at j (t ∷ ss) zero s h e =
      let f : j ≡ j + 0 = omega arith in
      subst (λ i. Spans i s) f (subst (Spans j) (same_Some t s e) h.0)
  span_at j (t ∷ ss) (suc i) s h e =
      let f : suc j + i ≡ j + suc i = omega arith in
      subst (λ i. Spans i s) f (span_at (suc j) ss i s h.1 e)

  routines_owned : (n w : ℕ) (s : Scope) (rs : List syntax.Routine) (i : ℕ) → AreAt os n (routine_openings w s rs) → n ≤ i → i < n + length rs → OwnedBy k p os all values w i
  routines_owned n w s [] i at low high = absurd (omega (arith, low, high))
  routines_owned n w s (r ∷ rs) i at low high = go (nat_le (suc n) i) refl (λ more. routines_owned (suc n) w ((r.name.name, _) ∷ s) rs i at.1 more (omega (arith, high)))
    where
      go : (b : Bool) → nat_le (suc n) i ≡ b → (suc n ≤ i → OwnedBy k p os all values w i) → OwnedBy k p os all values w i
      go true e rest = rest (leb-true (suc n) i e)
      go false e rest =
          let less : i < suc n = leb-false (suc n) i e in
          let same : n ≡ i = omega (arith, less, low) in
          subst (OwnedBy k p os all values w) same (record { opening = _; there = at.0; owner = refl; routine = tt })

  -- ---- system types

  abbrev Heads : ℕ → List Layer → List Opening → Type 0
  Heads n ls qs = AreHeaded k p os all values n ls qs

  system_headed : (l : Layer) (d : Declared) (s : syntax.System) → IsSmallSystem s → IsFitDefinition d (syntax.system_definition s) → IsDistinctSystem s → AreNumbered k.firsts (length l.constants) (in_definition (syntax.system_definition s)) → AreOpened k.routines (length l.routines) (definition_openings d (syntax.system_definition s)) →
      AreAt os (length l.routines) (definition_openings d (syntax.system_definition s)) → Standing k l d → length l.headings ≡ length l.routines → system_of p (length d.systems) ≡ system_in (seen_inside d.scope) s → slice_get all (length d.systems) ≡ Some (parts_begun l s) → Heads (length l.routines) (definition_begun l (syntax.system_definition s)) (definition_openings d (syntax.system_definition s))
  system_headed l d s h f distinct e o at i c whole place =
      let u : Scope = seen_inside d.scope in
      let w : Scope = parts_scope u s in
      let n : ℕ = length d.systems in
      let z : Layer = parts_begun l s in
      let b : Layer = system_begun l s in
      let ps : Parameters = parameters_of l s in
      let rs : List Opening = routine_openings n w s.routines in
      let own : Opening = initial_opening n (system_in u s) in
      let es : List Enumerated = each_in in_part s.parts in
      let fs : List Enumerated = each_in in_routine s.routines in
      let same : length z.routines ≡ length l.routines = ap (λ qs. length qs) (groups_routines l s) in
      let r : Reached k l z w es = parts_begun_reached k l d.scope s h.0 f i.outer (numbered_left k (length l.constants) es fs e) i.names in
      let even : length z.headings ≡ length z.routines = parts_even k p l s c in
      let a : RoutinesHeaded k p os all values z w n s.routines =
      routines_headed k p os all values z w n s.routines h.1 distinct.1 (numbered_after k l.constants z.constants es fs r.constants e) (parts_opened k l n w s (opened_left k.routines (length l.routines) rs (own ∷ []) o)) (subst (λ m. AreAt os m rs) (sym same) (at_left os (length l.routines) rs (own ∷ []) at)) r.names even (parts_owned k p os all values n l s) in
      let many : length b.routines ≡ length l.routines + length rs = omega (arith, begun_many k p l d s, openings_count n w s.routines) in
      let last : length b.headings ≡ length b.routines = routines_even k p z s.routines even in
      let hd : Heading = heading_with [] ps None in
      let x = routines_extend z s.routines in
      let fits : ParametersAre k z.types (slots_in z.names) (system_in u s).parameters ps = parts_found k l d.scope s f i.outer i.names distinct.0 in
      let grown : ParametersAre k b.types (slots_in z.names) (system_in u s).parameters ps = subst (λ ts. ParametersAre k ts (slots_in z.names) (system_in u s).parameters ps) (sym x.types.1) (parameters_grown k z.types x.types.0 (slots_in z.names) (system_in u s).parameters ps fits) in
      headed_both k p os all values (length l.routines) (routines_begun z s.routines) (initial_begun b ps ∷ []) rs (own ∷ []) (subst (λ m. Heads m (routines_begun z s.routines) rs) same a.headed) (
        many,
        record {
          own = hd;
          there = ap (λ m. slice_get (b.headings ++ hd ∷ []) m) (sym last) ∙ last_entry b.headings hd;
          fits = (z, place, subst (λ (m : SystemMeaning). ParametersAre k b.types (slots_in z.names) m.parameters ps) (sym whole) grown);
          names = a.names;
        },
        tt,
      )

  system_spans : (l : Layer) (d : Declared) (s : syntax.System) → AreAt os (length l.routines) (definition_openings d (syntax.system_definition s)) → length l.systems ≡ length d.systems → AreSpans 0 l.systems → AreSpans 0 (system l s).1.systems
  unfolding system
  system_spans l d s at same h =
      let u : Scope = seen_inside d.scope in
      let w : Scope = parts_scope u s in
      let n : ℕ = length d.systems in
      let b : Layer = system_begun l s in
      let rs : List Opening = routine_openings n w s.routines in
      let own : Opening = initial_opening n (system_in u s) in
      let m : Layer = initial_statement b (parameters_of l s) s.body in
      let es : m.systems ≡ l.systems = body_systems (initial_begun b (parameters_of l s)) s.body true ∙ routines_systems (parts_begun l s) s.routines ∙ groups_systems l s in
      let many : length b.routines ≡ length l.routines + length s.routines = begun_many k p l d s in
      let place : length l.routines + length rs ≡ length b.routines = omega (arith, many, openings_count n w s.routines) in
      let number : n ≡ 0 + length m.systems = omega (arith, ap (λ ss. length ss) es, same) in
      let made : System = laid.system_of s.kind m.owned (length l.routines) (length b.routines) in
      spans_last 0 m.systems made (subst (AreSpans 0) (sym es) h) (
      subst (λ j. Spans j made) number
      (record {
        routines = λ i low high. routines_owned (length l.routines) n w s.routines i (at_left os (length l.routines) rs (own ∷ []) at) low (omega (arith, high, many));
        opening = own;
        there = ap (slice_get os) (sym place) ∙ (at_right os (length l.routines) rs (own ∷ []) at).0;
        owner = refl;
        name = refl;
      })
      )

  -- ---- the declarations of the program

  pub record DefinedHeaded (l m : Layer) (ls : List Layer) (qs : List Opening) : Type 0 where
    pub headed : Heads (length l.routines) ls qs
    pub spans : AreSpans 0 m.systems
    pub even : length m.headings ≡ length m.routines

  declared_headed : (l m : Layer) → Declares l m → AreSpans 0 l.systems → length l.headings ≡ length l.routines → DefinedHeaded l m [] []
  declared_headed l m d h c =
      record {
        headed = tt;
        spans = subst (AreSpans 0) (sym (ap (λ (j : Layer). j.systems) d.same)) h;
        even = ap (λ (j : Layer). length j.headings) d.same ∙ c ∙ sym (ap (λ (j : Layer). length j.routines) d.same);
      }

  both_headed : (l j m : Layer) (ls ms : List Layer) (xs ys : List Opening) → length j.routines ≡ length l.routines + length xs → DefinedHeaded l j ls xs → DefinedHeaded j m ms ys → DefinedHeaded l m (ls ++ ms) (xs ++ ys)
  both_headed l j m ls ms xs ys e h g =
      record {
        headed = headed_both k p os all values (length l.routines) ls ms xs ys h.headed (subst (λ n. Heads n ms ys) e g.headed);
        spans = g.spans;
        even = g.even;
      }

  definition_headed : (l : Layer) (d : Declared) (n : syntax.SystemDefinition) (v : syntax.Definition) → IsSmallDefinition v → IsFitDefinition d v → IsDistinctDefinition v → AreNumbered k.firsts (length l.constants) (in_definition v) → AreOpened k.routines (length l.routines) (definition_openings d v) → AreAt os (length l.routines) (definition_openings d v) → Standing k l d →
      length l.headings ≡ length l.routines → AreSpans 0 l.systems → IsFirst k p (definition_in d n v).systems → (before rest : List Layer) → all ≡ before ++ (definition_parts l v ++ rest) → length before ≡ length d.systems → DefinedHeaded l (with_type_name n.name.name (definition l v)) (definition_begun l v) (definition_openings d v)
  definition_headed l d n (syntax.type_definition t) h f distinct e o at i c spans w before rest place len =
      let a = declared_headed l (written_type l t).1 (type_declares l t) spans c in
      record { headed = tt; spans = a.spans; even = a.even }
  definition_headed l d n (syntax.system_definition s) h f distinct e o at i c spans w before rest place len =
      record {
        headed = system_headed l d s h f distinct e o at i c (first_is k p d.systems (system_in (seen_inside d.scope) s) w) (ap (λ j. slice_get all j) (sym len) ∙ ap (λ ls. slice_get ls (length before)) place ∙ seam before (parts_begun l s) rest);
        spans = system_spans l d s at i.systems spans;
        even = system_even k p l d s c;
      }

  definitions_headed : (l : Layer) (d : Declared) (ns : List syntax.SystemDefinition) → Each (λ n. IsSmallDefinition n.value) ns → AreFitDefinitions d ns → Each (λ n. IsDistinctDefinition n.value) ns → AreNumbered k.firsts (length l.constants) (each_in (λ n. in_definition n.value) ns) → AreOpened k.routines (length l.routines) (definitions_openings d ns) → AreAt os (length l.routines) (definitions_openings d ns) →
      Standing k l d → length l.headings ≡ length l.routines → AreSpans 0 l.systems → IsFirst k p (definitions_in d ns).systems → (before rest : List Layer) → all ≡ before ++ (definitions_parts l ns ++ rest) → length before ≡ length d.systems → DefinedHeaded l (system_definitions l ns) (definitions_begun l ns) (definitions_openings d ns)
  unfolding system_definitions
  definitions_headed l d [] h f distinct e o at i c spans w before rest place len = record { headed = tt; spans = spans; even = c }
  definitions_headed l d (n ∷ ns) h f distinct e o at i c spans w before rest place len =
      let m : Layer = system_definition l n in
      let x : Declared = definition_in d n n.value in
      let es : List Enumerated = in_definition n.value in
      let fs : List Enumerated = each_in (λ (n : syntax.SystemDefinition). in_definition n.value) ns in
      let xs : List Opening = definition_openings d n.value in
      let qs : List Opening = definitions_openings x ns in
      let numbered : AreNumbered k.firsts (length l.constants) es = numbered_left k (length l.constants) es fs e in
      let opened : AreOpened k.routines (length l.routines) xs = opened_left k.routines (length l.routines) xs qs o in
      let stood : Stood k l m x es (length xs) = definition_stood k l d n n.value h.0 f.0 numbered opened i in
      let first : IsFirst k p x.systems = first_before k p x.systems (definitions_in x ns).systems (definitions_longer k p x ns) w in
      let after : all ≡ (before ++ definition_parts l n.value) ++ (definitions_parts m ns ++ rest) = further all before (definition_parts l n.value) (definitions_parts m ns) rest place in
      let here : all ≡ before ++ (definition_parts l n.value ++ (definitions_parts m ns ++ rest)) = place ∙ ap (λ zs. before ++ zs) (append_assoc (definition_parts l n.value) (definitions_parts m ns) rest) in
      let many : length (before ++ definition_parts l n.value) ≡ length x.systems = omega (arith, len, length-append before (definition_parts l n.value), definition_many l d n n.value) in
      let a : DefinedHeaded l m (definition_begun l n.value) xs = definition_headed l d n n.value h.0 f.0 distinct.0 numbered opened (at_left os (length l.routines) xs qs at) i c spans first before (definitions_parts m ns ++ rest) here len in
      both_headed l m (system_definitions m ns) (definition_begun l n.value) (definitions_begun m ns) xs qs stood.routines a
      (definitions_headed m x ns h.1 f.1 distinct.1 (numbered_after k l.constants m.constants es fs stood.constants e) (opened_after k l m xs qs stood.routines o) (at_after os l m xs qs stood.routines at) stood.standing a.even a.spans w (before ++ definition_parts l n.value) rest after many)

  part_headed : (l : Layer) (d : Declared) (q : syntax.ProgramPart) → IsSmallProgramPart q → IsFitPart d q → IsDistinctPart q → AreNumbered k.firsts (length l.constants) (in_program_part q) → AreOpened k.routines (length l.routines) (part_openings d q) → AreAt os (length l.routines) (part_openings d q) → Standing k l d →
      length l.headings ≡ length l.routines → AreSpans 0 l.systems → IsFirst k p (program_part_in d q).systems → (before rest : List Layer) → all ≡ before ++ (part_parts l q ++ rest) → length before ≡ length d.systems → DefinedHeaded l (program_part l q) (part_begun l q) (part_openings d q)
  part_headed l d (syntax.program_constants at ds) h f distinct e o a i c spans w before rest place len = declared_headed l (constants l ds) (constants_declare l ds) spans c
  part_headed l d (syntax.program_types at ns) h f distinct e o a i c spans w before rest place len = definitions_headed l d ns h f distinct e o a i c spans w before rest place len
  part_headed l d (syntax.program_variables at gs) h f distinct e o a i c spans w before rest place len = declared_headed l (variables l gs) (variables_declare l gs) spans c

  pub parts_headed : (l : Layer) (d : Declared) (qs : List syntax.ProgramPart) → Each IsSmallProgramPart qs → AreFitParts d qs → Each IsDistinctPart qs → AreNumbered k.firsts (length l.constants) (each_in in_program_part qs) → AreOpened k.routines (length l.routines) (parts_openings d qs) → AreAt os (length l.routines) (parts_openings d qs) → Standing k l d →
      length l.headings ≡ length l.routines → AreSpans 0 l.systems → IsFirst k p (program_parts_in d qs).systems → (before rest : List Layer) → all ≡ before ++ (program_parts_parts l qs ++ rest) → length before ≡ length d.systems → DefinedHeaded l (program_parts l qs) (program_parts_begun l qs) (parts_openings d qs)
  unfolding program_parts
  parts_headed l d [] h f distinct e o at i c spans w before rest place len = record { headed = tt; spans = spans; even = c }
  parts_headed l d (q ∷ qs) h f distinct e o at i c spans w before rest place len =
      let m : Layer = program_part l q in
      let x : Declared = program_part_in d q in
      let es : List Enumerated = in_program_part q in
      let fs : List Enumerated = each_in in_program_part qs in
      let xs : List Opening = part_openings d q in
      let ys : List Opening = parts_openings x qs in
      let numbered : AreNumbered k.firsts (length l.constants) es = numbered_left k (length l.constants) es fs e in
      let opened : AreOpened k.routines (length l.routines) xs = opened_left k.routines (length l.routines) xs ys o in
      let stood : Stood k l m x es (length xs) = part_stood k l d q h.0 f.0 numbered opened i in
      let first : IsFirst k p x.systems = first_before k p x.systems (program_parts_in x qs).systems (parts_longer k p x qs) w in
      let after : all ≡ (before ++ part_parts l q) ++ (program_parts_parts m qs ++ rest) = further all before (part_parts l q) (program_parts_parts m qs) rest place in
      let here : all ≡ before ++ (part_parts l q ++ (program_parts_parts m qs ++ rest)) = place ∙ ap (λ zs. before ++ zs) (append_assoc (part_parts l q) (program_parts_parts m qs) rest) in
      let many : length (before ++ part_parts l q) ≡ length x.systems = omega (arith, len, length-append before (part_parts l q), part_many l d q) in
      let a : DefinedHeaded l m (part_begun l q) xs = part_headed l d q h.0 f.0 distinct.0 numbered opened (at_left os (length l.routines) xs ys at) i c spans first before (program_parts_parts m qs ++ rest) here len in
      both_headed l m (program_parts m qs) (part_begun l q) (program_parts_begun m qs) xs ys stood.routines a
      (parts_headed m x qs h.1 f.1 distinct.1 (numbered_after k l.constants m.constants es fs stood.constants e) (opened_after k l m xs ys stood.routines o) (at_after os l m xs ys stood.routines at) stood.standing a.even a.spans w (before ++ part_parts l q) rest after many)

-- all openings of a list stand in it
all_at : (before os : List Opening) → AreAt (before ++ os) (length before) os
all_at before [] = tt
all_at before (o ∷ os) =
    let e : length (before ++ o ∷ []) ≡ suc (length before) = omega (arith, length-append before (o ∷ [])) in
    (seam before o os, subst (λ n. AreAt (before ++ o ∷ os) n os) e (subst (λ xs. AreAt xs (length (before ++ o ∷ [])) os) (append_assoc before (o ∷ []) os) (all_at (before ++ o ∷ []) os)))

pub record TreeHeaded (k : Numbering) (t : syntax.Tree) (values : (n : ℕ) → AreValues (k.routines n).parameters) : Type 0 where
  pub headed : AreHeaded k t.program (openings_of t.program) (all_parts t) values 0 (all_begun t) (openings_of t.program)
  pub spans : AreSpans k t.program (openings_of t.program) (all_parts t) values 0 (whole_laid t).systems

-- where each routine and each initial statement of a tree begins
pub all_headed : (k : Numbering) (t : syntax.Tree) (values : (n : ℕ) → AreValues (k.routines n).parameters) → IsSmallProgram t.program → AreFitParts nothing_declared t.program.parts → IsDistinct t.program → AreNumbered k.firsts 0 (enumerations_of t.program) → AreOpened k.routines 0 (openings_of t.program) → TreeHeaded k t values
unfolding program
all_headed k t values h f distinct e o =
    let p : syntax.Program = t.program in
    let l : Layer = nothing_laid t.lines in
    let m : Layer = program_parts l p.parts in
    let b : Layer = routines m p.routines in
    let d : Declared = declared p in
    let all : List Layer = all_parts t in
    let es : List Enumerated = each_in in_program_part p.parts in
    let fs : List Enumerated = each_in in_routine p.routines in
    let os : List Opening = parts_openings nothing_declared p.parts in
    let w : ℕ = program_system p in
    let ps : List Opening = routine_openings w d.scope p.routines in
    let own : Opening = initial_opening w (own_meaning d p) in
    let every : List Opening = openings_of p in
    let at : AreAt every 0 (os ++ (ps ++ own ∷ [])) = all_at [] every in
    let s : Standing k l nothing_declared = record { names = outermost_in k []; systems = refl; outer = all_outer k } in
    let g : AreNumbered k.firsts 0 es = numbered_left k 0 es fs e in
    let r : AreOpened k.routines 0 os = opened_left k.routines 0 os (ps ++ own ∷ []) o in
    let a : Stood k l m d es (length os) = parts_stood k l nothing_declared p.parts h.0 f g r s in
    let x : DefinedHeaded k p every all values l m (program_parts_begun l p.parts) os = parts_headed k p every all values l nothing_declared p.parts h.0 f distinct.parts g r (at_left every 0 os (ps ++ own ∷ []) at) s refl tt ([], sym (append-nil d.systems)) [] (m ∷ []) refl refl in
    let after : AreOpened k.routines (length m.routines) (ps ++ own ∷ []) = opened_after k l m os (ps ++ own ∷ []) a.routines o in
    let there : AreAt every (length m.routines) (ps ++ own ∷ []) = at_after every l m os (ps ++ own ∷ []) a.routines at in
    let y : RoutinesHeaded k p every all values m d.scope w p.routines =
    routines_headed k p every all values m d.scope w p.routines h.1 distinct.routines (numbered_after k l.constants m.constants es fs a.constants e) (opened_left k.routines (length m.routines) ps (own ∷ []) after) (at_left every (length m.routines) ps (own ∷ []) there) a.standing.names x.even (program_owned k p every all values w t.lines p.parts) in
    let even : length b.headings ≡ length b.routines = routines_even k p m p.routines x.even in
    let many : length b.routines ≡ length m.routines + length ps = omega (arith, routines_count m p.routines, openings_count w d.scope p.routines) in
    let hd : Heading = heading_with [] [] None in
    let count : length (program_parts_parts l p.parts) ≡ w = omega (arith, parts_many l nothing_declared p.parts) in
    let place : slice_get all w ≡ Some m = ap (λ j. slice_get all j) (sym count) ∙ seam (program_parts_parts l p.parts) m [] in
    let none : (system_of p w).parameters ≡ [] = ap (λ q. (or_own (own_meaning d p) q).parameters) (past_there d.systems) in
    let last : Headed k p every all values (initial_begun b []) own = record {
      own = hd;
      there = ap (λ n. slice_get (b.headings ++ hd ∷ []) n) (sym even) ∙ last_entry b.headings hd;
      fits = (m, place, subst (λ qs. ParametersAre k b.types (slots_in m.names) qs []) (sym none) tt);
      names = y.names;
    } in
    let same : (whole_laid t).systems ≡ m.systems = body_systems (with_heading (with_new_frame b) (heading_with [] [] None)) p.body true ∙ routines_systems m p.routines in
    record {
      headed = headed_both k p every all values 0 (program_parts_begun l p.parts) (routines_begun m p.routines ++ initial_begun b [] ∷ []) os (ps ++ own ∷ []) x.headed
          (subst (λ n. AreHeaded k p every all values n (routines_begun m p.routines ++ initial_begun b [] ∷ []) (ps ++ own ∷ [])) a.routines
          (headed_both k p every all values (length m.routines) (routines_begun m p.routines) (initial_begun b [] ∷ []) ps (own ∷ []) y.headed (many, last, tt)));
      spans = subst (AreSpans k p every all values 0) (sym same) x.spans;
    }
