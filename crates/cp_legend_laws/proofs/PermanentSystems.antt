-- For each system type of a program, and for the program, the permanent variables that are noted are those of the language.
use Rattle.std.proofs.Common.{◌≡◌, ℕ, ◌<◌, false, List, [], ◌∷◌, ◌++◌, length, Option, Some, None, slice_get, refl, sym, ap, subst, ◌∙◌, ◌⊎◌, inl, inr, append-nil, arith}
use Rattle.cp_legend_laws.proofs.Words.{eq-eqb, none-some, slice_get_within, Compounds, Noted, Layer, Variable, nothing_laid, Block, Numbering}
use Rattle.cp_tree.specs.Syntax as syntax
use Rattle.cp_symbols.specs.declared.names.LayoutMeaning.TheVariants as meaning
use Rattle.cp_layout.specs.LaidDeclarations.{with_type_name, constants, variables, initial_statement, routines, system, definition, system_definition, system_definitions, program_part, program_parts, program}
use Rattle.cp_meaning.specs.Scopes as scopes
use Rattle.cp_meaning.specs.Systems.{SystemMeaning, system_in, Declared, definition_in, definitions_in, program_part_in, program_parts_in, declared, program_system, own_meaning, or_own, system_of}
use Rattle.cp_resolved.specs.Begun.{system_begun, parameters_of}
use Rattle.cp_resolved.specs.Enumerations.{Enumerated, each_in, in_part, in_routine, in_definition, in_program_part, enumerations_of}
use Rattle.cp_resolved.specs.Fit.{IsFitDefinition, AreFitDefinitions, IsFitPart, AreFitParts, nothing_declared}
use Rattle.cp_resolved.specs.Openings.{Opening, definition_openings, definitions_openings, part_openings, parts_openings, routine_openings, initial_opening, openings_of, AreOpened}
use Rattle.cp_resolved.specs.Small.{Each, IsSmallDefinition, IsSmallProgramPart, IsSmallProgram, AreNumbered}
use Rattle.cp_resolved.proofs.agreeing.ScopeVariables.{components_append}
use Rattle.cp_resolved.proofs.systems.PermanentCells.{Follow, follow_left, follow_right}
use Rattle.cp_resolved.proofs.laid.OwnedCells.{type_owned}
use Rattle.cp_resolved.proofs.names.Entries.{last_or_before, not_there, past_there}
use Rattle.cp_resolved.proofs.names.Steps.{outermost_in}
use Rattle.cp_resolved.proofs.names.StepsOfProgram.{Standing, Stood, definition_stood, part_stood, opened_after, all_outer}
use Rattle.cp_resolved.proofs.names.StepsOfRoutines.{opened_left}
use Rattle.cp_resolved.proofs.names.StepsOfTypes.{numbered_left, numbered_after}
use Rattle.cp_legend_laws.proofs.Noting.{Noting, noting_name}
use Rattle.cp_legend_laws.proofs.NotingDeclarations.{type_notes}
use Rattle.cp_legend_laws.proofs.Lined.{same_home, of_home, home_append, home_none, home_all, home_past, later_home, types_later, outer_own, Lined, lined_parts, lined_part, lined_definition, type_name_notes}
use Rattle.cp_legend_laws.proofs.QuietSteps.{all_permanents, permanents_append, quiet_note, type_quiet}
use Rattle.cp_legend_laws.proofs.PermanentsNoted.{Told, Cells, celled, Lie, lie_grown, lie_both, Gains, gains_trans, gains_nothing, More, more_nothing, variables_more, constants_gain, routines_gain, initial_gains, owners, Fits, SystemLies, system_lies}

abbrev pub home_permanents : Option ℕ → List Noted → Told
home_permanents o ds = all_permanents (of_home o ds)

more_homes : (o : Option ℕ) (before names all : List Noted) → all ≡ before ++ names → home_permanents o all ≡ home_permanents o before ++ home_permanents o names
more_homes o before names all e = ap (home_permanents o) e ∙ ap all_permanents (home_append o before names) ∙ permanents_append (of_home o before) (of_home o names)

module _ (k : Numbering) where
  pub record Laid (l : Layer) (d : Declared) : Type 0 where
    pub systems : (later : Compounds) (j : ℕ) (m : SystemMeaning) → slice_get d.systems j ≡ Some m → Fits k m → Lie k (l.types ++ later) [] (owners k m) (home_permanents (Some j) l.noted)
    pub own : (later : Compounds) → Follow k [] d.variables → Cells l (celled d.variables) × Lie k (l.types ++ later) [] (celled d.variables) (home_permanents None l.noted)

  -- what the program declares besides system types
  told_more : (l m : Layer) (d e : Declared) → e.systems ≡ d.systems → More k l m d.variables e.variables → Lined l → Laid l d → Laid m e
  told_more l m d e same g h t =
      let n : Noting l m = g.gains.noting in
      let none : Each (λ (x : Noted). x.system ≡ None) n.names = subst (λ o. Each (λ (x : Noted). x.system ≡ o) n.names) (outer_own l h.outside) n.own in
      record {
        systems = λ later j s there fits. (
            let ts : Compounds = m.types ++ later in
            let eq : home_permanents (Some j) m.noted ≡ home_permanents (Some j) l.noted =
            more_homes (Some j) l.noted n.names m.noted n.noted ∙ ap (λ xs. home_permanents (Some j) l.noted ++ all_permanents xs) (home_none (Some j) None n.names refl none) ∙ append-nil (home_permanents (Some j) l.noted) in
            subst (λ (es : Told). Lie k ts [] (owners k s) es) (sym eq)
            (subst (λ us. Lie k us [] (owners k s) (home_permanents (Some j) l.noted)) (sym (types_later l.types n.types m.types later n.grown)) (t.systems (n.types ++ later) j s (ap (λ (ss : List SystemMeaning). slice_get ss j) (sym same) ∙ there) fits)));
        own = λ later f. (
            let ts : Compounds = m.types ++ later in
            let us : List Variable = d.variables in
            let vs : List Variable = g.variables in
            let follow : Follow k [] (us ++ vs) = subst (λ (xs : List Variable). Follow k [] xs) g.is f in
            let first = t.own (n.types ++ later) (follow_left k [] us vs follow) in
            let second = g.gains.lies (celled us) (follow_right k [] us vs follow) first.0 in
            let eq : home_permanents None m.noted ≡ home_permanents None l.noted ++ all_permanents n.names =
            more_homes None l.noted n.names m.noted n.noted ∙ ap (λ xs. home_permanents None l.noted ++ all_permanents xs) (home_all None n.names refl none) in
            let both : celled e.variables ≡ celled us ++ celled vs = ap celled g.is ∙ components_append false us vs in
            let before : Lie k ts [] (celled us) (home_permanents None l.noted) =
            subst (λ ws. Lie k ws [] (celled us) (home_permanents None l.noted)) (sym (types_later l.types n.types m.types later n.grown)) first.1 in (
              subst (λ (xs : List Variable). Cells m xs) (sym both) second.0,
              subst (λ (es : Told). Lie k ts [] (celled e.variables) es) (sym eq)
                  (subst (λ (xs : List Variable). Lie k ts [] xs (home_permanents None l.noted ++ all_permanents n.names)) (sym both)
                  (lie_both k ts [] (celled us) (celled vs) (home_permanents None l.noted) (all_permanents n.names) before (lie_grown k m.types later (celled us) (celled vs) (all_permanents n.names) second.1))),
            ));
      }

  -- a system type
  told_system : (l : Layer) (d : Declared) (n : syntax.SystemDefinition) (s : syntax.System) → IsSmallDefinition (syntax.system_definition s) → IsFitDefinition d (syntax.system_definition s) → AreNumbered k.firsts (length l.constants) (each_in in_part s.parts) → Standing k l d → Lined l → Laid l d →
      Laid (system l s).1 (definition_in d n (syntax.system_definition s))
  unfolding system
  told_system l d n s h f e i w t =
      let m : Layer = initial_statement (system_begun l s) (parameters_of l s) s.body in
      let made : SystemMeaning = system_in (scopes.seen_inside d.scope) s in
      let g : SystemLies k l s made = system_lies k l d.scope s h.0 f i.outer e i.names in
      let all : m.noted ≡ l.noted ++ g.noting.names = g.noting.noted in
      let grown : m.types ≡ l.types ++ g.noting.types = g.noting.grown in
      let mine : Each (λ (x : Noted). x.system ≡ Some (length l.systems)) g.noting.names = g.noting.own in
      record {
        systems = λ later j y there fits. go m g.noting.names g.noting.types later j y made mine all grown g.lies fits (last_or_before d.systems made j y there);
        own = λ later follow. (
            let ts : Compounds = m.types ++ later in
            let same : home_permanents None m.noted ≡ home_permanents None l.noted =
            more_homes None l.noted g.noting.names m.noted all ∙ ap (λ xs. home_permanents None l.noted ++ all_permanents xs) (home_none None (Some (length l.systems)) g.noting.names refl mine) ∙ append-nil (home_permanents None l.noted) in
            let before = t.own (g.noting.types ++ later) follow in (
              before.0,
              subst (λ (es : Told). Lie k ts [] (celled d.variables) es) (sym same)
                  (subst (λ us. Lie k us [] (celled d.variables) (home_permanents None l.noted)) (sym (types_later l.types g.noting.types m.types later grown)) before.1),
            ));
      }
    where
      go : (m : Layer) (names : List Noted) (more later : Compounds) (j : ℕ) (y made : SystemMeaning) → Each (λ (x : Noted). x.system ≡ Some (length l.systems)) names → m.noted ≡ l.noted ++ names → m.types ≡ l.types ++ more → (Fits k made → Lie k m.types [] (owners k made) (all_permanents names)) → Fits k y →
          (slice_get d.systems j ≡ Some y) ⊎ ((j ≡ length d.systems) × (y ≡ made)) → Lie k (m.types ++ later) [] (owners k y) (home_permanents (Some j) m.noted)
      go m names more later j y made mine all grown own fits (inl old) =
          let ts : Compounds = m.types ++ later in
          let less : j < length d.systems = slice_get_within d.systems j y old in
          let many = i.systems in
          let other : same_home (Some (length l.systems)) (Some j) ≡ false = later_home (length l.systems) j (omega (arith, less, many)) in
          let same : home_permanents (Some j) m.noted ≡ home_permanents (Some j) l.noted =
          more_homes (Some j) l.noted names m.noted all ∙ ap (λ xs. home_permanents (Some j) l.noted ++ all_permanents xs) (home_none (Some j) (Some (length l.systems)) names other mine) ∙ append-nil (home_permanents (Some j) l.noted) in
          subst (λ (es : Told). Lie k ts [] (owners k y) es) (sym same)
          (subst (λ us. Lie k us [] (owners k y) (home_permanents (Some j) l.noted)) (sym (types_later l.types more m.types later grown)) (t.systems (more ++ later) j y old fits))
      go m names more later j y made mine all grown own fits (inr last) =
          let ts : Compounds = m.types ++ later in
          let at : j ≡ length l.systems = last.0 ∙ sym i.systems in
          let own_names : of_home (Some j) names ≡ names = home_all (Some j) names (eq-eqb j j refl) (subst (λ q. Each (λ (x : Noted). x.system ≡ Some q) names) (sym at) mine) in
          let before : of_home (Some j) l.noted ≡ [] = ap (λ q. of_home (Some q) l.noted) at ∙ home_past (length l.systems) l.noted w.below in
          let same : home_permanents (Some j) m.noted ≡ all_permanents names =
          more_homes (Some j) l.noted names m.noted all ∙ ap (λ xs. all_permanents xs ++ home_permanents (Some j) names) before ∙ ap all_permanents own_names in
          let lies : Lie k ts [] (owners k made) (all_permanents names) = lie_grown k m.types later [] (owners k made) (all_permanents names) (own (subst (Fits k) last.1 fits)) in
          subst (λ (es : Told). Lie k ts [] (owners k y) es) (sym same) (subst (λ (z : SystemMeaning). Lie k ts [] (owners k z) (all_permanents names)) (sym last.1) lies)

  -- ---- the declarations of the program

  name_gains : (l : Layer) (x : List ℕ) (v : syntax.Definition) → Gains k (definition l v).1 (with_type_name x (definition l v)) []
  name_gains l x v =
      let m : Layer = (definition l v).1 in
      gains_nothing k m (with_type_name x (definition l v)) (noting_name m x _ m.owned m.frame (λ ts. refl) refl) (quiet_note m (with_type_name x (definition l v)) x (meaning.Kind (definition l v).0) refl refl) refl

  told_definition : (l : Layer) (d : Declared) (n : syntax.SystemDefinition) (v : syntax.Definition) → IsSmallDefinition v → IsFitDefinition d v → AreNumbered k.firsts (length l.constants) (in_definition v) → Standing k l d → Lined l → Laid l d →
      Laid (with_type_name n.name.name (definition l v)) (definition_in d n v)
  told_definition l d n (syntax.type_definition t) h f e i w o =
      let v : syntax.Definition = syntax.type_definition t in
      let x : Layer = (definition l v).1 in
      let a : Gains k l x [] = gains_nothing k l x (type_notes l t) (type_quiet l t) (ap (λ o. o.cells) (type_owned l t)) in
      told_more l (with_type_name n.name.name (definition l v)) d (definition_in d n v) refl (more_nothing k l (with_type_name n.name.name (definition l v)) d.variables (gains_trans k l x (with_type_name n.name.name (definition l v)) [] [] a (name_gains l n.name.name v))) w o
  told_definition l d n (syntax.system_definition s) h f e i w o =
      let v : syntax.Definition = syntax.system_definition s in
      let x : Layer = (definition l v).1 in
      let c : Declared = definition_in d n v in
      let a : Laid x c = told_system l d n s h f (numbered_left k (length l.constants) (each_in in_part s.parts) (each_in in_routine s.routines) e) i w o in
      told_more x (with_type_name n.name.name (definition l v)) c c refl (more_nothing k x (with_type_name n.name.name (definition l v)) c.variables (name_gains l n.name.name v)) (lined_definition l v w) a

  told_definitions : (l : Layer) (d : Declared) (ns : List syntax.SystemDefinition) → Each (λ n. IsSmallDefinition n.value) ns → AreFitDefinitions d ns → AreNumbered k.firsts (length l.constants) (each_in (λ n. in_definition n.value) ns) → AreOpened k.routines (length l.routines) (definitions_openings d ns) → Standing k l d → Lined l → Laid l d →
      Laid (system_definitions l ns) (definitions_in d ns)
  unfolding system_definitions
  told_definitions l d [] h f e q i w o = o
  told_definitions l d (n ∷ ns) h f e q i w o =
      let m : Layer = system_definition l n in
      let c : Declared = definition_in d n n.value in
      let es : List Enumerated = in_definition n.value in
      let fs : List Enumerated = each_in (λ (n : syntax.SystemDefinition). in_definition n.value) ns in
      let os : List Opening = definition_openings d n.value in
      let qs : List Opening = definitions_openings c ns in
      let numbered : AreNumbered k.firsts (length l.constants) es = numbered_left k (length l.constants) es fs e in
      let stood : Stood k l m c es (length os) = definition_stood k l d n n.value h.0 f.0 numbered (opened_left k.routines (length l.routines) os qs q) i in
      told_definitions m c ns h.1 f.1 (numbered_after k l.constants m.constants es fs stood.constants e) (opened_after k l m os qs stood.routines q) stood.standing (type_name_notes l n.name.name n.value (lined_definition l n.value w)) (told_definition l d n n.value h.0 f.0 numbered i w o)

  told_part : (l : Layer) (d : Declared) (p : syntax.ProgramPart) → IsSmallProgramPart p → IsFitPart d p → AreNumbered k.firsts (length l.constants) (in_program_part p) → AreOpened k.routines (length l.routines) (part_openings d p) → Standing k l d → Lined l → Laid l d → Laid (program_part l p) (program_part_in d p)
  told_part l d (syntax.program_constants at ds) h f e q i w o =
      told_more l (constants l ds) d (program_part_in d (syntax.program_constants at ds)) refl (more_nothing k l (constants l ds) d.variables (constants_gain k l ds)) w o
  told_part l d (syntax.program_types at ns) h f e q i w o = told_definitions l d ns h f e q i w o
  told_part l d (syntax.program_variables at gs) h f e q i w o =
      let b : Block = record { variables = d.variables; scope = d.scope } in
      told_more l (variables l gs) d (program_part_in d (syntax.program_variables at gs)) refl (variables_more k l b gs h e i.names) w o

  told_parts : (l : Layer) (d : Declared) (ps : List syntax.ProgramPart) → Each IsSmallProgramPart ps → AreFitParts d ps → AreNumbered k.firsts (length l.constants) (each_in in_program_part ps) → AreOpened k.routines (length l.routines) (parts_openings d ps) → Standing k l d → Lined l → Laid l d →
      Laid (program_parts l ps) (program_parts_in d ps)
  unfolding program_parts
  told_parts l d [] h f e q i w o = o
  told_parts l d (p ∷ ps) h f e q i w o =
      let m : Layer = program_part l p in
      let c : Declared = program_part_in d p in
      let es : List Enumerated = in_program_part p in
      let fs : List Enumerated = each_in in_program_part ps in
      let os : List Opening = part_openings d p in
      let qs : List Opening = parts_openings c ps in
      let numbered : AreNumbered k.firsts (length l.constants) es = numbered_left k (length l.constants) es fs e in
      let opened : AreOpened k.routines (length l.routines) os = opened_left k.routines (length l.routines) os qs q in
      let stood : Stood k l m c es (length os) = part_stood k l d p h.0 f.0 numbered opened i in
      told_parts m c ps h.1 f.1 (numbered_after k l.constants m.constants es fs stood.constants e) (opened_after k l m os qs stood.routines q) stood.standing (lined_part l p w) (told_part l d p h.0 f.0 numbered opened i w o)

  -- ---- the whole program

  start_lined : (lines : List ℕ) → Lined (nothing_laid lines)
  start_lined lines = record { systems = λ later j s e. absurd (none-some s e); own = λ later. refl; below = tt; outside = refl }

  pub told_program : (lines : List ℕ) (p : syntax.Program) → IsSmallProgram p → AreFitParts nothing_declared p.parts → AreNumbered k.firsts 0 (enumerations_of p) → AreOpened k.routines 0 (openings_of p) → Laid (program (nothing_laid lines) p) (declared p)
  unfolding program program_parts
  told_program lines p h f e o =
      let l : Layer = nothing_laid lines in
      let m : Layer = program_parts l p.parts in
      let b : Layer = routines m p.routines in
      let d : Declared = declared p in
      let es : List Enumerated = each_in in_program_part p.parts in
      let fs : List Enumerated = each_in in_routine p.routines in
      let os : List Opening = parts_openings nothing_declared p.parts in
      let ps : List Opening = routine_openings (program_system p) d.scope p.routines in
      let qs : List Opening = initial_opening (program_system p) (own_meaning d p) ∷ [] in
      let s : Standing k l nothing_declared = record { names = outermost_in k []; systems = refl; outer = all_outer k } in
      let start : Laid l nothing_declared = record { systems = λ later j y there fits. absurd (none-some y there); own = λ later f. (refl, refl) } in
      let parts : Laid m d = told_parts l nothing_declared p.parts h.0 f (numbered_left k 0 es fs e) (opened_left k.routines 0 os (ps ++ qs) o) s (start_lined lines) start in
      told_more m (initial_statement b [] p.body) d d refl (more_nothing k m (initial_statement b [] p.body) d.variables (gains_trans k m b (initial_statement b [] p.body) [] [] (routines_gain k m p.routines) (initial_gains k b [] p.body))) (lined_parts l p.parts (start_lined lines)) parts

  -- of a system type, or of the program
  pub told_of : (l : Layer) (p : syntax.Program) → Laid l (declared p) → (later : Compounds) (j : ℕ) → j < program_system p → Fits k (system_of p j) → Lie k (l.types ++ later) [] (owners k (system_of p j)) (home_permanents (Some j) l.noted)
  told_of l p t later j h = go (slice_get (declared p).systems j) refl
    where
      go : (q : Option SystemMeaning) → slice_get (declared p).systems j ≡ q → Fits k (or_own (own_meaning (declared p) p) q) → Lie k (l.types ++ later) [] (owners k (or_own (own_meaning (declared p) p) q)) (home_permanents (Some j) l.noted)
      go None e fits = absurd (let le = not_there (declared p).systems j e in omega (arith, h, le))
      go (Some m) e fits = t.systems later j m e fits

  pub told_own : (l : Layer) (p : syntax.Program) → Laid l (declared p) → (later : Compounds) → Fits k (system_of p (program_system p)) → Lie k (l.types ++ later) [] (owners k (system_of p (program_system p))) (home_permanents None l.noted)
  told_own l p t later =
      subst (λ q. Fits k (or_own (own_meaning (declared p) p) q) → Lie k (l.types ++ later) [] (owners k (or_own (own_meaning (declared p) p) q)) (home_permanents None l.noted)) (sym (past_there (declared p).systems)) (λ fits. (t.own later fits.1).1)
