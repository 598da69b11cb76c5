-- For each system type of a program, and for the program, the component variables that are noted are those of the language.
use Rattle.std.proofs.Common.{◌≡◌, ℕ, ◌<◌, false, List, [], ◌∷◌, ◌++◌, length, Option, Some, None, slice_get, refl, sym, ap, subst, ◌∙◌, ◌⊎◌, inl, inr, append-nil, arith}
use Rattle.cp_legend_laws.proofs.Words.{eq-eqb, none-some, slice_get_within, Compounds, Noted, Layer, nothing_laid, Block, Numbering}
use Rattle.cp_tree.specs.Syntax as syntax
use Rattle.cp_layout.specs.LaidDeclarations.{with_type_name, constants, variables, enter_system, initial_statement, routines, system, definition, system_definition, system_definitions, program_part, program_parts, program}
use Rattle.cp_meaning.specs.Scopes as scopes
use Rattle.cp_meaning.specs.Systems.{SystemMeaning, system_in, Declared, definition_in, definitions_in, program_part_in, program_parts_in, declared, program_system, own_meaning, or_own, system_of}
use Rattle.cp_resolved.specs.Begun.{system_begun, parameters_of}
use Rattle.cp_resolved.specs.Enumerations.{Enumerated, each_in, in_part, in_routine, in_definition, in_program_part, enumerations_of}
use Rattle.cp_resolved.specs.Fit.{IsFitDefinition, AreFitDefinitions, IsFitPart, AreFitParts, nothing_declared}
use Rattle.cp_resolved.specs.Openings.{Opening, definition_openings, definitions_openings, part_openings, parts_openings, routine_openings, initial_opening, openings_of, AreOpened}
use Rattle.cp_resolved.specs.Small.{Each, IsSmallDefinition, IsSmallProgramPart, IsSmallProgram, AreNumbered}
use Rattle.cp_resolved.proofs.components.Handed.{constants_owned}
use Rattle.cp_resolved.proofs.laid.OwnedCells.{type_owned}
use Rattle.cp_resolved.proofs.names.Entries.{last_or_before, not_there, past_there}
use Rattle.cp_resolved.proofs.names.Steps.{outermost_in}
use Rattle.cp_resolved.proofs.names.StepsOfProgram.{Standing, Stood, definition_stood, part_stood, opened_after, all_outer}
use Rattle.cp_resolved.proofs.names.StepsOfRoutines.{opened_left}
use Rattle.cp_resolved.proofs.names.StepsOfTypes.{numbered_left, numbered_after}
use Rattle.cp_legend_laws.proofs.Noting.{Noting, noting_name}
use Rattle.cp_legend_laws.proofs.NotingDeclarations.{type_notes, constants_note}
use Rattle.cp_legend_laws.proofs.Lined.{same_home, of_home, home_append, home_none, home_all, home_past, later_home, types_later, outer_own, Lined, lined_parts, lined_part, lined_definition, type_name_notes}
use Rattle.cp_legend_laws.proofs.NamedParts.{Entry, all_entries, entries_append, among, among_append, Match, match_both, Gains, gains_trans, gains_nothing, More, more_nothing, variables_more, routines_gain, initial_gains, system_gains}

abbrev pub home_entries : Compounds → Option ℕ → List Noted → List Entry
home_entries ts o ds = all_entries ts (of_home o ds)

more_entries : (ts : Compounds) (o : Option ℕ) (before names all : List Noted) → all ≡ before ++ names → home_entries ts o all ≡ home_entries ts o before ++ home_entries ts o names
more_entries ts o before names all e = ap (home_entries ts o) e ∙ ap (all_entries ts) (home_append o before names) ∙ entries_append ts (of_home o before) (of_home o names)

module _ (k : Numbering) where
  pub record Told (l : Layer) (d : Declared) : Type 0 where
    pub systems : (later : Compounds) (j : ℕ) (m : SystemMeaning) → slice_get d.systems j ≡ Some m → Match k (l.types ++ later) (among m.variables) (home_entries (l.types ++ later) (Some j) l.noted)
    pub own : (later : Compounds) → Match k (l.types ++ later) (among d.variables) (home_entries (l.types ++ later) None l.noted)

  -- what the program declares besides system types
  told_more : (l m : Layer) (d e : Declared) → e.systems ≡ d.systems → More k l m d.variables e.variables → Lined l → Told l d → Told m e
  told_more l m d e same g h t =
      let n : Noting l m = g.gains.noting in
      let none : Each (λ (x : Noted). x.system ≡ None) n.names = subst (λ o. Each (λ (x : Noted). x.system ≡ o) n.names) (outer_own l h.outside) n.own in
      record {
        systems = λ later j s there. (
            let ts : Compounds = m.types ++ later in
            let eq : home_entries ts (Some j) m.noted ≡ home_entries ts (Some j) l.noted =
            more_entries ts (Some j) l.noted n.names m.noted n.noted ∙ ap (λ xs. home_entries ts (Some j) l.noted ++ all_entries ts xs) (home_none (Some j) None n.names refl none) ∙ append-nil (home_entries ts (Some j) l.noted) in
            subst (Match k ts (among s.variables)) (sym eq)
            (subst (λ us. Match k us (among s.variables) (home_entries us (Some j) l.noted)) (sym (types_later l.types n.types m.types later n.grown)) (t.systems (n.types ++ later) j s (ap (λ (ss : List SystemMeaning). slice_get ss j) (sym same) ∙ there))));
        own = λ later. (
            let ts : Compounds = m.types ++ later in
            let eq : home_entries ts None m.noted ≡ home_entries ts None l.noted ++ all_entries ts n.names =
            more_entries ts None l.noted n.names m.noted n.noted ∙ ap (λ xs. home_entries ts None l.noted ++ all_entries ts xs) (home_all None n.names refl none) in
            let first : Match k ts (among d.variables) (home_entries ts None l.noted) =
            subst (λ us. Match k us (among d.variables) (home_entries us None l.noted)) (sym (types_later l.types n.types m.types later n.grown)) (t.own (n.types ++ later)) in
            subst (Match k ts (among e.variables)) (sym eq)
            (subst (λ vs. Match k ts vs (home_entries ts None l.noted ++ all_entries ts n.names)) (sym (ap among g.is ∙ among_append d.variables g.variables))
            (match_both k ts (among d.variables) (among g.variables) (home_entries ts None l.noted) (all_entries ts n.names) first (g.gains.match later))));
      }

  -- a system type
  told_system : (l : Layer) (d : Declared) (n : syntax.SystemDefinition) (s : syntax.System) → IsSmallDefinition (syntax.system_definition s) → IsFitDefinition d (syntax.system_definition s) → AreNumbered k.firsts (length l.constants) (each_in in_part s.parts) → Standing k l d → Lined l → Told l d →
      Told (system l s).1 (definition_in d n (syntax.system_definition s))
  unfolding system
  told_system l d n s h f e i w t =
      let m : Layer = initial_statement (system_begun l s) (parameters_of l s) s.body in
      let made : SystemMeaning = system_in (scopes.seen_inside d.scope) s in
      let g : Gains k (enter_system l).1 m made.variables = system_gains k l d.scope s h.0 f i.outer e i.names in
      let all : m.noted ≡ l.noted ++ g.noting.names = g.noting.noted in
      let grown : m.types ≡ l.types ++ g.noting.types = g.noting.grown in
      let mine : Each (λ (x : Noted). x.system ≡ Some (length l.systems)) g.noting.names = g.noting.own in
      record {
        systems = λ later j y there. go m g.noting.names g.noting.types later j y made mine all grown (g.match later) (last_or_before d.systems made j y there);
        own = λ later. (
            let ts : Compounds = m.types ++ later in
            let same : home_entries ts None m.noted ≡ home_entries ts None l.noted =
            more_entries ts None l.noted g.noting.names m.noted all ∙ ap (λ xs. home_entries ts None l.noted ++ all_entries ts xs) (home_none None (Some (length l.systems)) g.noting.names refl mine) ∙ append-nil (home_entries ts None l.noted) in
            subst (Match k ts (among d.variables)) (sym same)
            (subst (λ us. Match k us (among d.variables) (home_entries us None l.noted)) (sym (types_later l.types g.noting.types m.types later grown)) (t.own (g.noting.types ++ later))));
      }
    where
      go : (m : Layer) (names : List Noted) (more later : Compounds) (j : ℕ) (y made : SystemMeaning) → Each (λ (x : Noted). x.system ≡ Some (length l.systems)) names → m.noted ≡ l.noted ++ names → m.types ≡ l.types ++ more → Match k (m.types ++ later) (among made.variables) (all_entries (m.types ++ later) names) →
          (slice_get d.systems j ≡ Some y) ⊎ ((j ≡ length d.systems) × (y ≡ made)) → Match k (m.types ++ later) (among y.variables) (home_entries (m.types ++ later) (Some j) m.noted)
      go m names more later j y made mine all grown own (inl old) =
          let ts : Compounds = m.types ++ later in
          let less : j < length d.systems = slice_get_within d.systems j y old in
          let many = i.systems in
          let other : same_home (Some (length l.systems)) (Some j) ≡ false = later_home (length l.systems) j (omega (arith, less, many)) in
          let same : home_entries ts (Some j) m.noted ≡ home_entries ts (Some j) l.noted =
          more_entries ts (Some j) l.noted names m.noted all ∙ ap (λ xs. home_entries ts (Some j) l.noted ++ all_entries ts xs) (home_none (Some j) (Some (length l.systems)) names other mine) ∙ append-nil (home_entries ts (Some j) l.noted) in
          subst (Match k ts (among y.variables)) (sym same)
          (subst (λ us. Match k us (among y.variables) (home_entries us (Some j) l.noted)) (sym (types_later l.types more m.types later grown)) (t.systems (more ++ later) j y old))
      go m names more later j y made mine all grown own (inr last) =
          let ts : Compounds = m.types ++ later in
          let at : j ≡ length l.systems = last.0 ∙ sym i.systems in
          let own_names : of_home (Some j) names ≡ names = home_all (Some j) names (eq-eqb j j refl) (subst (λ q. Each (λ (x : Noted). x.system ≡ Some q) names) (sym at) mine) in
          let before : of_home (Some j) l.noted ≡ [] = ap (λ q. of_home (Some q) l.noted) at ∙ home_past (length l.systems) l.noted w.below in
          let same : home_entries ts (Some j) m.noted ≡ all_entries ts names =
          more_entries ts (Some j) l.noted names m.noted all ∙ ap (λ xs. all_entries ts xs ++ home_entries ts (Some j) names) before ∙ ap (all_entries ts) own_names in
          subst (Match k ts (among y.variables)) (sym same) (subst (λ (z : SystemMeaning). Match k ts (among z.variables) (all_entries ts names)) (sym last.1) own)

  -- ---- the declarations of the program

  name_gains : (l : Layer) (x : List ℕ) (v : syntax.Definition) → Gains k (definition l v).1 (with_type_name x (definition l v)) []
  name_gains l x v =
      let m : Layer = (definition l v).1 in
      gains_nothing k m (with_type_name x (definition l v)) (noting_name m x _ m.owned m.frame (λ ts. refl) refl) refl

  told_definition : (l : Layer) (d : Declared) (n : syntax.SystemDefinition) (v : syntax.Definition) → IsSmallDefinition v → IsFitDefinition d v → AreNumbered k.firsts (length l.constants) (in_definition v) → Standing k l d → Lined l → Told l d →
      Told (with_type_name n.name.name (definition l v)) (definition_in d n v)
  told_definition l d n (syntax.type_definition t) h f e i w o =
      let v : syntax.Definition = syntax.type_definition t in
      let x : Layer = (definition l v).1 in
      let a : Gains k l x [] = gains_nothing k l x (type_notes l t) (ap (λ o. o.contained) (type_owned l t)) in
      told_more l (with_type_name n.name.name (definition l v)) d (definition_in d n v) refl (more_nothing k l (with_type_name n.name.name (definition l v)) d.variables (gains_trans k l x (with_type_name n.name.name (definition l v)) [] [] a (name_gains l n.name.name v))) w o
  told_definition l d n (syntax.system_definition s) h f e i w o =
      let v : syntax.Definition = syntax.system_definition s in
      let x : Layer = (definition l v).1 in
      let c : Declared = definition_in d n v in
      let a : Told x c = told_system l d n s h f (numbered_left k (length l.constants) (each_in in_part s.parts) (each_in in_routine s.routines) e) i w o in
      told_more x (with_type_name n.name.name (definition l v)) c c refl (more_nothing k x (with_type_name n.name.name (definition l v)) c.variables (name_gains l n.name.name v)) (lined_definition l v w) a

  told_definitions : (l : Layer) (d : Declared) (ns : List syntax.SystemDefinition) → Each (λ n. IsSmallDefinition n.value) ns → AreFitDefinitions d ns → AreNumbered k.firsts (length l.constants) (each_in (λ n. in_definition n.value) ns) → AreOpened k.routines (length l.routines) (definitions_openings d ns) → Standing k l d → Lined l → Told l d →
      Told (system_definitions l ns) (definitions_in d ns)
  unfolding system_definitions
  told_definitions l d [] h f e q i w o = o
  told_definitions l d (n ∷ ns) h f e q i w o =
      let m : Layer = system_definition l n in
      let c : Declared = definition_in d n n.value in
      let es : List Enumerated = in_definition n.value in
      let fs : List Enumerated = each_in (λ (n : syntax.SystemDefinition). in_definition n.value) ns in
      let os : List Opening = definition_openings d n.value in
      let qs : List Opening = definitions_openings c ns in
      let numbered : AreNumbered k.firsts (length l.constants) es = numbered_left k (length l.constants) es fs e in
      let stood : Stood k l m c es (length os) = definition_stood k l d n n.value h.0 f.0 numbered (opened_left k.routines (length l.routines) os qs q) i in
      told_definitions m c ns h.1 f.1 (numbered_after k l.constants m.constants es fs stood.constants e) (opened_after k l m os qs stood.routines q) stood.standing (type_name_notes l n.name.name n.value (lined_definition l n.value w)) (told_definition l d n n.value h.0 f.0 numbered i w o)

  told_part : (l : Layer) (d : Declared) (p : syntax.ProgramPart) → IsSmallProgramPart p → IsFitPart d p → AreNumbered k.firsts (length l.constants) (in_program_part p) → AreOpened k.routines (length l.routines) (part_openings d p) → Standing k l d → Lined l → Told l d → Told (program_part l p) (program_part_in d p)
  told_part l d (syntax.program_constants at ds) h f e q i w o =
      told_more l (constants l ds) d (program_part_in d (syntax.program_constants at ds)) refl (more_nothing k l (constants l ds) d.variables (gains_nothing k l (constants l ds) (constants_note l ds) (ap (λ o. o.contained) (constants_owned l ds)))) w o
  told_part l d (syntax.program_types at ns) h f e q i w o = told_definitions l d ns h f e q i w o
  told_part l d (syntax.program_variables at gs) h f e q i w o =
      let b : Block = record { variables = d.variables; scope = d.scope } in
      told_more l (variables l gs) d (program_part_in d (syntax.program_variables at gs)) refl (variables_more k l b gs h e i.names) w o

  told_parts : (l : Layer) (d : Declared) (ps : List syntax.ProgramPart) → Each IsSmallProgramPart ps → AreFitParts d ps → AreNumbered k.firsts (length l.constants) (each_in in_program_part ps) → AreOpened k.routines (length l.routines) (parts_openings d ps) → Standing k l d → Lined l → Told l d →
      Told (program_parts l ps) (program_parts_in d ps)
  unfolding program_parts
  told_parts l d [] h f e q i w o = o
  told_parts l d (p ∷ ps) h f e q i w o =
      let m : Layer = program_part l p in
      let c : Declared = program_part_in d p in
      let es : List Enumerated = in_program_part p in
      let fs : List Enumerated = each_in in_program_part ps in
      let os : List Opening = part_openings d p in
      let qs : List Opening = parts_openings c ps in
      let numbered : AreNumbered k.firsts (length l.constants) es = numbered_left k (length l.constants) es fs e in
      let opened : AreOpened k.routines (length l.routines) os = opened_left k.routines (length l.routines) os qs q in
      let stood : Stood k l m c es (length os) = part_stood k l d p h.0 f.0 numbered opened i in
      told_parts m c ps h.1 f.1 (numbered_after k l.constants m.constants es fs stood.constants e) (opened_after k l m os qs stood.routines q) stood.standing (lined_part l p w) (told_part l d p h.0 f.0 numbered opened i w o)

  -- ---- the whole program

  start_lined : (lines : List ℕ) → Lined (nothing_laid lines)
  start_lined lines = record { systems = λ later j s e. absurd (none-some s e); own = λ later. refl; below = tt; outside = refl }

  pub told_program : (lines : List ℕ) (p : syntax.Program) → IsSmallProgram p → AreFitParts nothing_declared p.parts → AreNumbered k.firsts 0 (enumerations_of p) → AreOpened k.routines 0 (openings_of p) → Told (program (nothing_laid lines) p) (declared p)
  unfolding program program_parts
  told_program lines p h f e o =
      let l : Layer = nothing_laid lines in
      let m : Layer = program_parts l p.parts in
      let b : Layer = routines m p.routines in
      let d : Declared = declared p in
      let es : List Enumerated = each_in in_program_part p.parts in
      let fs : List Enumerated = each_in in_routine p.routines in
      let os : List Opening = parts_openings nothing_declared p.parts in
      let ps : List Opening = routine_openings (program_system p) d.scope p.routines in
      let qs : List Opening = initial_opening (program_system p) (own_meaning d p) ∷ [] in
      let s : Standing k l nothing_declared = record { names = outermost_in k []; systems = refl; outer = all_outer k } in
      let start : Told l nothing_declared = record { systems = λ later j y there. absurd (none-some y there); own = λ later. tt } in
      let parts : Told m d = told_parts l nothing_declared p.parts h.0 f (numbered_left k 0 es fs e) (opened_left k.routines 0 os (ps ++ qs) o) s (start_lined lines) start in
      told_more m (initial_statement b [] p.body) d d refl (more_nothing k m (initial_statement b [] p.body) d.variables (gains_trans k m b (initial_statement b [] p.body) [] [] (routines_gain k m p.routines) (initial_gains k b [] p.body))) (lined_parts l p.parts (start_lined lines)) parts

  -- of a system type, or of the program
  pub told_of : (l : Layer) (p : syntax.Program) → Told l (declared p) → (later : Compounds) (j : ℕ) → j < program_system p → Match k (l.types ++ later) (among (system_of p j).variables) (home_entries (l.types ++ later) (Some j) l.noted)
  told_of l p t later j h = go (slice_get (declared p).systems j) refl
    where
      go : (q : Option SystemMeaning) → slice_get (declared p).systems j ≡ q → Match k (l.types ++ later) (among (or_own (own_meaning (declared p) p) q).variables) (home_entries (l.types ++ later) (Some j) l.noted)
      go None e = absurd (let le = not_there (declared p).systems j e in omega (arith, h, le))
      go (Some m) e = t.systems later j m e

  pub told_own : (l : Layer) (p : syntax.Program) → Told l (declared p) → (later : Compounds) → Match k (l.types ++ later) (among (system_of p (program_system p)).variables) (home_entries (l.types ++ later) None l.noted)
  told_own l p t later = subst (λ q. Match k (l.types ++ later) (among (or_own (own_meaning (declared p) p) q).variables) (home_entries (l.types ++ later) None l.noted)) (sym (past_there (declared p).systems)) (t.own later)
