-- Each system type of a program is laid out as it is meant: its kind, its permanent variables and its components.
use Rattle.std.proofs.Common.{◌≡◌, ℕ, zero, suc, ◌+◌, Bool, true, false, if◌then◌else◌, List, [], ◌∷◌, ◌++◌, length, Option, Some, None, slice_get, refl, sym, ap, subst, ◌∙◌, ◌⊎◌, append_assoc, append-nil, arith, length-append}
use Rattle.cp_resolved.proofs.Words.{none-some, same_Some, LayoutMeaning, Layer, Owned, System, nothing_laid, written_type, Name, same_name, Ty, Scope}
use Rattle.cp_resolved.proofs.Words.{permanent_variable, routine_meaning, seen_inside, Variable, Block, parts_begun, system_begun, parameters_of, Numbering, CellsAre}
use Rattle.cp_resolved.proofs.Words.{PartsAre, BoundIs, InStep, FoundIs, Enumerated, each_in, in_part, in_routine, in_definition, in_program_part, enumerations_of}
use Rattle.cp_resolved.proofs.Words.{IsFitDefinition, AreFitDefinitions, IsFitPart, AreFitParts, nothing_declared, Each, IsSmallSystem, IsSmallDefinition}
use Rattle.cp_resolved.proofs.Words.{IsSmallProgramPart, IsSmallProgram, AreNumbered, definition_parts, definitions_parts, part_parts, program_parts_parts, whole_laid}
use Rattle.cp_tree.specs.Syntax as syntax
use Rattle.cp_symbols.specs.declared.names.LayoutMeaning.TheVariants as meaning
use Rattle.cp_layout.specs.Layers as layers
use Rattle.cp_layout.specs.LaidDeclarations.{with_type_name, constants, variables, heading_with, with_new_frame, with_heading, routines, initial_statement, system_of, system, definition, system_definition, system_definitions, program_part, program_parts, program}
use Rattle.cp_meaning.specs.Scopes as scopes
use Rattle.cp_meaning.specs.Systems.{SystemMeaning, with_routines, system_in, Declared, definition_in, definitions_in, program_part_in, program_parts_in, declared, program_system, own_meaning}
use Rattle.cp_resolved.specs.Openings.{Opening, parts_scope, definition_openings, definitions_openings, part_openings, parts_openings, openings_of, routine_openings, initial_opening, AreOpened}
use Rattle.cp_resolved.proofs.laid.Declares.{type_declares, constants_declare, variables_declare, declares_trans, declares_names}
use Rattle.cp_resolved.proofs.laid.Extends.{Longer, Extends, extends_trans, initial_extends, routines_extend, system_extends, system_definitions_extend, program_parts_extend}
use Rattle.cp_resolved.proofs.systems.HandedComponents.{AreBound, system_bound}
use Rattle.cp_resolved.proofs.names.KeptNames as kept
use Rattle.cp_resolved.proofs.laid.OwnedCells.{definition_owned}
use Rattle.cp_resolved.proofs.systems.OwnedParts.{all_contained, AreLow, OwnsAt, Owns, owns_grown}
use Rattle.cp_resolved.proofs.systems.Owning.{Outside}
use Rattle.cp_resolved.proofs.names.PermanentNames.{IsOther, Under, under_same, under_added, BoundIn, program_bound, parts_bound}
use Rattle.cp_resolved.proofs.systems.Permanents.{owns_declared, variables_owns, system_owns, nothing_owns, under_kind}
use Rattle.cp_resolved.proofs.names.Steps.{found_in, names_grown, outermost_in}
use Rattle.cp_resolved.proofs.names.StepsOfProgram.{Standing, Stood, definition_stood, part_stood, parts_stood, opened_after, initial_systems, all_outer}
use Rattle.cp_resolved.proofs.names.StepsOfRoutines.{body_systems, routines_systems, opened_left, groups_systems, parts_begun_reached}
use Rattle.cp_resolved.proofs.names.StepsOfTypes.{numbered_left, numbered_after}
use Rattle.cp_resolved.proofs.laid.Whole.{Whole, system_entered, definition_laid, named_laid, part_laid, nothing_whole}
use Rattle.cp_resolved.proofs.components.Handed.{body_owned, constants_owned, routines_owned}

-- a permanent variable is declared before the routines
routines_found : (x : Name) (t : Ty) (s : Scope) (rs : List syntax.Routine) → scopes.find x (with_routines s rs) ≡ Some (permanent_variable t) → scopes.find x s ≡ Some (permanent_variable t)
routines_found x t s [] e = e
routines_found x t s (r ∷ rs) e = go (same_name x r.name.name) (routines_found x t ((r.name.name, routine_meaning r) ∷ s) rs e)
  where
    go : (b : Bool) → (if b then Some (routine_meaning r) else scopes.find x s) ≡ Some (permanent_variable t) → scopes.find x s ≡ Some (permanent_variable t)
    go true f = absurd (let w : routine_meaning r ≡ permanent_variable t = same_Some (routine_meaning r) (permanent_variable t) f in cc)
    go false f = f

module _ (k : Numbering) (end : Layer) where
  -- what a name of a permanent variable stands for
  pub record PermanentIs (t : Ty) (o : Option LayoutMeaning) : Type 0 where
    pub meaning : LayoutMeaning
    pub there : o ≡ Some meaning
    pub is : CellsAre k end.types t meaning ⊎ (PartsAre k end.types t meaning ⊎ BoundIs t meaning)

  -- a system type, or the program, by the state before its routines
  pub record OwnIs (number : ℕ) (around : Layer) (o : Owned) (m : SystemMeaning) : Type 0 where
    pub owns : Owns k end.types end.systems around.names o m.variables
    pub low : AreLow number (all_contained m.variables)
    pub bound : BoundIn m.parameters around.names
    pub found : (x : Name) (t : Ty) → scopes.find x m.scope ≡ Some (permanent_variable t) → PermanentIs t (layers.find x around.names)

  pub record SystemIs (number : ℕ) (s : System) (m : SystemMeaning) (around : Layer) : Type 0 where
    pub kind : s.kind ≡ m.kind
    pub own : OwnIs number around s.owned m
    pub handed : AreBound s.owned.parameters m.parameters around.names

  abbrev pub AreLaid : ℕ → List System → List SystemMeaning → List Layer → Type 0
  AreLaid n [] [] [] = Unit {0}
  AreLaid n (s ∷ ss) (m ∷ ms) (l ∷ ls) = SystemIs n s m l × AreLaid (suc n) ss ms ls
  AreLaid n ss ms ls = ⊥

  laid_append : (n : ℕ) (ss : List System) (ms : List SystemMeaning) (ls : List Layer) (us : List System) (vs : List SystemMeaning) (ws : List Layer) → AreLaid n ss ms ls → AreLaid (n + length ss) us vs ws → AreLaid n (ss ++ us) (ms ++ vs) (ls ++ ws)
  laid_append n [] [] [] us vs ws h i = let e : n + 0 ≡ n = omega arith in subst (λ j. AreLaid j us vs ws) e i
  laid_append n (s ∷ ss) (m ∷ ms) (l ∷ ls) us vs ws h i = let e : n + suc (length ss) ≡ suc n + length ss = omega arith in (h.0, laid_append (suc n) ss ms ls us vs ws h.1 (subst (λ j. AreLaid j us vs ws) e i))
  laid_append n _ _ _ us vs ws h i = absurd h

  -- the system types that came
  pub record Added (l m : Layer) (d e : Declared) (ls : List Layer) : Type 0 where
    pub systems : List System
    pub meanings : List SystemMeaning
    pub laid : m.systems ≡ l.systems ++ systems
    pub meant : e.systems ≡ d.systems ++ meanings
    pub each : AreLaid (length l.systems) systems meanings ls
    pub owns : OwnsAt k m e.variables

  added_none : (l m : Layer) (d e : Declared) → m.systems ≡ l.systems → e.systems ≡ d.systems → OwnsAt k m e.variables → Added l m d e []
  added_none l m d e f g o = record { systems = []; meanings = []; laid = f ∙ sym (append-nil l.systems); meant = g ∙ sym (append-nil d.systems); each = tt; owns = o }

  added_trans : (l j m : Layer) (d c e : Declared) (ls ms : List Layer) → Added l j d c ls → Added j m c e ms → Added l m d e (ls ++ ms)
  added_trans l j m d c e ls ms h i =
      let many : length j.systems ≡ length l.systems + length h.systems = ap (λ (ss : List System). length ss) h.laid ∙ length-append l.systems h.systems in
      record {
        systems = h.systems ++ i.systems;
        meanings = h.meanings ++ i.meanings;
        laid = i.laid ∙ ap (λ (ss : List System). ss ++ i.systems) h.laid ∙ append_assoc l.systems h.systems i.systems;
        meant = i.meant ∙ ap (λ (ss : List SystemMeaning). ss ++ i.meanings) h.meant ∙ append_assoc d.systems h.meanings i.meanings;
        each = laid_append (length l.systems) h.systems h.meanings ls i.systems i.meanings ms h.each (subst (λ n. AreLaid n i.systems i.meanings ms) many i.each);
        owns = i.owns;
      }

  -- ---- a system type

  permanent_found : (l : Layer) (s : Scope) (rs : List syntax.Routine) → Longer l.types end.types → InStep k l.types l.names s → (x : Name) (t : Ty) → scopes.find x (with_routines s rs) ≡ Some (permanent_variable t) → PermanentIs t (layers.find x l.names)
  permanent_found l s rs longer i x t e =
      let a : InStep k end.types l.names s = subst (λ ts. InStep k ts l.names s) (sym longer.1) (names_grown k l.types longer.0 l.names s i) in
      go (layers.find x l.names) refl (subst (λ o. FoundIs k end.types (layers.find x l.names) o (scopes.since x s)) (routines_found x t s rs e) (found_in k end.types x l.names s a))
    where
      go : (o : Option LayoutMeaning) → layers.find x l.names ≡ o → FoundIs k end.types o (Some (permanent_variable t)) (scopes.since x s) → PermanentIs t (layers.find x l.names)
      go None f h = absurd h
      go (Some m) f h = record { meaning = m; there = f; is = h }

  -- what is laid out up to the end
  owns_end : (l : Layer) (vs : List Variable) → Longer l.types end.types → Longer l.systems end.systems → OwnsAt k l vs → Owns k end.types end.systems l.names l.owned vs
  owns_end l vs ts ss o = rw (ts.1, ss.1) (owns_grown k l.types ts.0 l.systems ss.0 l.names l.names l.owned vs (under_same l.names) o)

  system_is : (l : Layer) (d : Declared) (s : syntax.System) → IsSmallSystem s → IsFitDefinition d (syntax.system_definition s) → AreNumbered k.firsts (length l.constants) (each_in in_part s.parts) → Standing k l d → Whole l → Outside l → Extends (system l s).1 end →
      SystemIs (length l.systems) (let m : Layer = initial_statement (system_begun l s) (parameters_of l s) s.body in system_of s.kind m.owned (length l.routines) (length (system_begun l s).routines)) (system_in (seen_inside d.scope) s) (parts_begun l s)
  unfolding system
  system_is l d s h f e i w out x =
      let z : Layer = parts_begun l s in
      let b : Layer = system_begun l s in
      let m : Layer = initial_statement b (parameters_of l s) s.body in
      let u : Scope = seen_inside d.scope in
      let named = (system_entered l out w).whole.ground.named in
      let o : OwnsAt k z (system_in u s).variables = system_owns k l d.scope s h.0 f i.outer e i.names named in
      let a : Extends z m = extends_trans z b m (routines_extend z s.routines) (initial_extends b (parameters_of l s) s.body) in
      let ts : Longer z.types end.types = (a.types.0 ++ x.types.0, x.types.1 ∙ ap (λ us. us ++ x.types.0) a.types.1 ∙ append_assoc z.types a.types.0 x.types.0) in
      let same : z.systems ≡ l.systems = groups_systems l s in
      let made : System = system_of s.kind m.owned (length l.routines) (length b.routines) in
      let ms : m.systems ≡ z.systems = initial_systems k l s ∙ sym same in
      let ss : Longer z.systems end.systems = (made ∷ x.systems.0, x.systems.1 ∙ append_assoc m.systems (made ∷ []) x.systems.0 ∙ ap (λ (us : List System). us ++ made ∷ x.systems.0) ms) in
      let eq : m.owned ≡ z.owned = body_owned (with_heading (with_new_frame b) (heading_with [] (parameters_of l s) None)) s.body true ∙ routines_owned z s.routines in
      record {
        kind = refl;
        own = record {
          owns = subst (λ p. Owns k end.types end.systems z.names p (system_in u s).variables) (sym eq) (owns_end z (system_in u s).variables ts ss o);
          low = subst (λ (us : List System). AreLow (length us) (all_contained (system_in u s).variables)) same o.low;
          bound = parts_bound u l s;
          found = permanent_found z (parts_scope u s) s.routines ts (parts_begun_reached k l d.scope s h.0 f i.outer e i.names).names;
        };
        handed = subst (λ (p : Owned). AreBound p.parameters (system_in u s).parameters z.names) (sym eq) (system_bound k l d.scope s f i.outer i.names);
      }

  -- ---- the declarations of the program

  definition_added : (l : Layer) (d : Declared) (n : syntax.SystemDefinition) (v : syntax.Definition) → IsSmallDefinition v → IsFitDefinition d v → AreNumbered k.firsts (length l.constants) (in_definition v) → Standing k l d → Whole l → Outside l → Extends (with_type_name n.name.name (definition l v)) end → OwnsAt k l d.variables →
      Added l (with_type_name n.name.name (definition l v)) d (definition_in d n v) (definition_parts l v)
  unfolding system
  definition_added l d n (syntax.type_definition t) h f e i w out x o =
      let c = type_declares l t in
      let y = written_type l t in
      added_none l (with_type_name n.name.name y) d (definition_in d n (syntax.type_definition t)) (ap (λ (j : Layer). j.systems) c.same) refl (
      owns_declared k l (with_type_name n.name.name y) d.variables (declares_trans l y.1 (with_type_name n.name.name y) c (declares_names y.1 ((n.name.name, meaning.Kind y.0) ∷ []) y.1.owned y.1.frame (with_type_name n.name.name y).noted)) (definition_owned l (syntax.type_definition t))
      (under_kind l.names n.name.name y.0 y.1.names (kept.type_keep (Under l.names) IsOther (under_added l.names) (λ b z i. i) (λ v i. i) l t (under_same l.names))) o
      )
  definition_added l d n (syntax.system_definition s) h f e i w out x o =
      let b : Layer = system_begun l s in
      let m : Layer = initial_statement b (parameters_of l s) s.body in
      let made : System = system_of s.kind m.owned (length l.routines) (length b.routines) in
      let g : Extends (system l s).1 end = record { lines = x.lines; types = x.types; constants = x.constants; items = x.items; headings = x.headings; routines = x.routines; systems = x.systems } in
      let more = (system_extends l s).types in
      let own : Owns k (l.types ++ more.0) (l.systems ++ made ∷ []) ((n.name.name, meaning.Kind (system l s).0) ∷ l.names) l.owned d.variables = owns_grown k l.types more.0 l.systems (made ∷ []) l.names ((n.name.name, meaning.Kind (system l s).0) ∷ l.names) l.owned d.variables (under_kind l.names n.name.name (system l s).0 l.names (under_same l.names)) o in
      let laid : (system l s).1.systems ≡ l.systems ++ made ∷ [] = ap (λ (ss : List System). ss ++ made ∷ []) (initial_systems k l s) in
      record {
        systems = made ∷ [];
        meanings = system_in (seen_inside d.scope) s ∷ [];
        laid = laid;
        meant = refl;
        each = (system_is l d s h f (numbered_left k (length l.constants) (each_in in_part s.parts) (each_in in_routine s.routines) e) i w out g, tt);
        owns = rw (more.1, laid) own;
      }

  definitions_added : (l : Layer) (d : Declared) (ns : List syntax.SystemDefinition) → Each (λ n. IsSmallDefinition n.value) ns → AreFitDefinitions d ns → AreNumbered k.firsts (length l.constants) (each_in (λ n. in_definition n.value) ns) → AreOpened k.routines (length l.routines) (definitions_openings d ns) → Standing k l d → Whole l → Outside l → Extends (system_definitions l ns) end →
      OwnsAt k l d.variables → Added l (system_definitions l ns) d (definitions_in d ns) (definitions_parts l ns)
  unfolding system_definitions
  definitions_added l d [] h f e q i w out x o = added_none l l d d refl refl o
  definitions_added l d (n ∷ ns) h f e q i w out x o =
      let m : Layer = system_definition l n in
      let c : Declared = definition_in d n n.value in
      let es : List Enumerated = in_definition n.value in
      let fs : List Enumerated = each_in (λ (n : syntax.SystemDefinition). in_definition n.value) ns in
      let os : List Opening = definition_openings d n.value in
      let qs : List Opening = definitions_openings c ns in
      let numbered : AreNumbered k.firsts (length l.constants) es = numbered_left k (length l.constants) es fs e in
      let stood : Stood k l m c es (length os) = definition_stood k l d n n.value h.0 f.0 numbered (opened_left k.routines (length l.routines) os qs q) i in
      let next = named_laid n.name.name (definition l n.value) (definition_laid l n.value w out) in
      let a : Added l m d c (definition_parts l n.value) = definition_added l d n n.value h.0 f.0 numbered i w out (extends_trans m (system_definitions m ns) end (system_definitions_extend m ns) x) o in
      added_trans l m (system_definitions m ns) d c (definitions_in c ns) (definition_parts l n.value) (definitions_parts m ns) a
      (definitions_added m c ns h.1 f.1 (numbered_after k l.constants m.constants es fs stood.constants e) (opened_after k l m os qs stood.routines q) stood.standing next.0 next.1 x a.owns)

  part_added : (l : Layer) (d : Declared) (p : syntax.ProgramPart) → IsSmallProgramPart p → IsFitPart d p → AreNumbered k.firsts (length l.constants) (in_program_part p) → AreOpened k.routines (length l.routines) (part_openings d p) → Standing k l d → Whole l → Outside l → Extends (program_part l p) end → OwnsAt k l d.variables →
      Added l (program_part l p) d (program_part_in d p) (part_parts l p)
  part_added l d (syntax.program_constants at ds) h f e q i w out x o =
      let c = constants_declare l ds in
      added_none l (constants l ds) d (program_part_in d (syntax.program_constants at ds)) (ap (λ (j : Layer). j.systems) c.same) refl
      (owns_declared k l (constants l ds) d.variables c (constants_owned l ds) (kept.constants_keep (Under l.names) IsOther (under_added l.names) (λ b z i. i) (λ v i. i) l ds (under_same l.names)) o)
  part_added l d (syntax.program_types at ns) h f e q i w out x o = definitions_added l d ns h f e q i w out x o
  part_added l d (syntax.program_variables at gs) h f e q i w out x o =
      let b : Block = record { variables = d.variables; scope = d.scope } in
      added_none l (variables l gs) d (program_part_in d (syntax.program_variables at gs)) (ap (λ (j : Layer). j.systems) (variables_declare l gs).same) refl (variables_owns k l b gs h e i.names w.ground.named o)

  parts_added : (l : Layer) (d : Declared) (ps : List syntax.ProgramPart) → Each IsSmallProgramPart ps → AreFitParts d ps → AreNumbered k.firsts (length l.constants) (each_in in_program_part ps) → AreOpened k.routines (length l.routines) (parts_openings d ps) → Standing k l d → Whole l → Outside l → Extends (program_parts l ps) end →
      OwnsAt k l d.variables → Added l (program_parts l ps) d (program_parts_in d ps) (program_parts_parts l ps)
  unfolding program_parts
  parts_added l d [] h f e q i w out x o = added_none l l d d refl refl o
  parts_added l d (p ∷ ps) h f e q i w out x o =
      let m : Layer = program_part l p in
      let c : Declared = program_part_in d p in
      let es : List Enumerated = in_program_part p in
      let fs : List Enumerated = each_in in_program_part ps in
      let os : List Opening = part_openings d p in
      let qs : List Opening = parts_openings c ps in
      let numbered : AreNumbered k.firsts (length l.constants) es = numbered_left k (length l.constants) es fs e in
      let opened : AreOpened k.routines (length l.routines) os = opened_left k.routines (length l.routines) os qs q in
      let stood : Stood k l m c es (length os) = part_stood k l d p h.0 f.0 numbered opened i in
      let next = part_laid l p w out in
      let a : Added l m d c (part_parts l p) = part_added l d p h.0 f.0 numbered opened i w out (extends_trans m (program_parts m ps) end (program_parts_extend m ps) x) o in
      added_trans l m (program_parts m ps) d c (program_parts_in c ps) (part_parts l p) (program_parts_parts m ps) a
      (parts_added m c ps h.1 f.1 (numbered_after k l.constants m.constants es fs stood.constants e) (opened_after k l m os qs stood.routines q) stood.standing next.0 next.1 x a.owns)

  -- ---- by their numbers

  -- what is known of the system type of a number
  pub record Numbered (number : ℕ) (s : System) (ms : List SystemMeaning) (ls : List Layer) : Type 0 where
    pub meaning : SystemMeaning
    pub around : Layer
    pub meant : slice_get ms number ≡ Some meaning
    pub there : slice_get ls number ≡ Some around
    pub is : SystemIs number s meaning around

  numbered_at : (n j : ℕ) (ss : List System) (ms : List SystemMeaning) (ls : List Layer) (s : System) → AreLaid n ss ms ls → slice_get ss j ≡ Some s → (m : SystemMeaning) × (l : Layer) × (slice_get ms j ≡ Some m) × (slice_get ls j ≡ Some l) × SystemIs (n + j) s m l
  numbered_at n j [] ms ls s h e = absurd (none-some s e)
  numbered_at n zero (u ∷ ss) (m ∷ ms) (l ∷ ls) s h e = let z : n ≡ n + 0 = omega arith in (m, l, refl, refl, subst (λ (v : System). SystemIs (n + 0) v m l) (same_Some u s e) (subst (λ i. SystemIs i u m l) z h.0))
  numbered_at n (suc j) (u ∷ ss) (m ∷ ms) (l ∷ ls) s h e =
      let z : suc n + j ≡ n + suc j = omega arith in
      let r = numbered_at (suc n) j ss ms ls s h.1 e in
      (r.0, r.1, r.2, r.3, subst (λ i. SystemIs i s r.0 r.1) z r.4)
  numbered_at n j (u ∷ ss) [] ls s h e = absurd h
  numbered_at n j (u ∷ ss) (m ∷ ms) [] s h e = absurd h

  laid_count : (n : ℕ) (ss : List System) (ms : List SystemMeaning) (ls : List Layer) → AreLaid n ss ms ls → (length ss ≡ length ms) × (length ls ≡ length ms)
  laid_count n [] [] [] h = (refl, refl)
  laid_count n (s ∷ ss) (m ∷ ms) (l ∷ ls) h = let a = laid_count (suc n) ss ms ls h.1 in (ap suc a.0, ap suc a.1)
  laid_count n _ _ _ h = absurd h

  -- all system types, and the program itself
  pub record AllLaid (t : syntax.Tree) : Type 0 where
    pub count : length end.systems ≡ program_system t.program
    pub layers : length (program_parts_parts (nothing_laid t.lines) t.program.parts) ≡ program_system t.program
    pub systems : (number : ℕ) (s : System) → slice_get end.systems number ≡ Some s → Numbered number s (declared t.program).systems (program_parts_parts (nothing_laid t.lines) t.program.parts)
    pub program : OwnIs (program_system t.program) (program_parts (nothing_laid t.lines) t.program.parts) end.owned (own_meaning (declared t.program) t.program)

pub all_laid : (k : Numbering) (t : syntax.Tree) → IsSmallProgram t.program → AreFitParts nothing_declared t.program.parts → AreNumbered k.firsts 0 (enumerations_of t.program) → AreOpened k.routines 0 (openings_of t.program) → AllLaid k (whole_laid t) t
unfolding program
all_laid k t h f e o =
    let p : syntax.Program = t.program in
    let l : Layer = nothing_laid t.lines in
    let m : Layer = program_parts l p.parts in
    let b : Layer = routines m p.routines in
    let d : Declared = declared p in
    let end : Layer = whole_laid t in
    let es : List Enumerated = each_in in_program_part p.parts in
    let fs : List Enumerated = each_in in_routine p.routines in
    let os : List Opening = parts_openings nothing_declared p.parts in
    let ps : List Opening = routine_openings (program_system p) d.scope p.routines in
    let qs : List Opening = initial_opening (program_system p) (own_meaning d p) ∷ [] in
    let s : Standing k l nothing_declared = record { names = outermost_in k []; systems = refl; outer = all_outer k } in
    let g : AreNumbered k.firsts 0 es = numbered_left k 0 es fs e in
    let r : AreOpened k.routines 0 os = opened_left k.routines 0 os (ps ++ qs) o in
    let stood : Stood k l m d es (length os) = parts_stood k l nothing_declared p.parts h.0 f g r s in
    let x : Extends m end = extends_trans m b end (routines_extend m p.routines) (initial_extends b [] p.body) in
    let a : Added k end l m nothing_declared d (program_parts_parts l p.parts) = parts_added k end l nothing_declared p.parts h.0 f g r s (nothing_whole t.lines) (λ n v e. absurd (none-some v e)) x (nothing_owns k t.lines) in
    let same : end.systems ≡ m.systems = body_systems (with_heading (with_new_frame b) (heading_with [] [] None)) p.body true ∙ routines_systems m p.routines in
    let ss : end.systems ≡ a.systems = same ∙ a.laid in
    let counts = laid_count k end 0 a.systems a.meanings (program_parts_parts l p.parts) a.each in
    let eq : end.owned ≡ m.owned = body_owned (with_heading (with_new_frame b) (heading_with [] [] None)) p.body true ∙ routines_owned m p.routines in
    let number : length m.systems ≡ program_system p = ap (λ (us : List System). length us) a.laid ∙ counts.0 ∙ sym (ap (λ (us : List SystemMeaning). length us) a.meant) in
    record {
      count = ap (λ (us : List System). length us) same ∙ number;
      layers = counts.1 ∙ sym (ap (λ (us : List SystemMeaning). length us) a.meant);
      systems = λ j v w. (let n = numbered_at k end 0 j a.systems a.meanings (program_parts_parts l p.parts) v a.each (ap (λ (us : List System). slice_get us j) (sym ss) ∙ w) in let z : 0 + j ≡ j = omega arith in
          record { meaning = n.0; around = n.1; meant = ap (λ (us : List SystemMeaning). slice_get us j) a.meant ∙ n.2; there = n.3; is = subst (λ i. SystemIs k end i v n.0 n.1) z n.4 });
      program = record {
        owns = subst (λ q. Owns k end.types end.systems m.names q d.variables) (sym eq) (owns_end k end m d.variables x.types x.systems a.owns);
        low = subst (λ i. AreLow i (all_contained d.variables)) number a.owns.low;
        bound = program_bound t.lines p.parts;
        found = permanent_found k end m d.scope p.routines x.types stood.standing.names;
      };
    }
