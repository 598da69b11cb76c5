-- The seats of system types and of the whole program.
use Rattle.cp_resolved.proofs.Words.{◌≡◌, ◌+◌, ◌-◌, ℕ, zero, suc, false, List, [], ◌∷◌, ◌++◌, length, Some, slice_get, sym, ap, subst, ◌∙◌, arith, append-nil, true}
use Rattle.cp_resolved.proofs.Words.{system_type, types_of, system_types, Layer, System, SystemView, no_system, Scope, permanent_variable, seen_inside, Parameter}
use Rattle.cp_resolved.proofs.Words.{Heading, with_groups, parameter_variables, Enumerated, each_in, in_part, in_routine, in_definition, IsFitDefinition}
use Rattle.cp_resolved.proofs.Words.{AreFitDefinitions, system_variables, Numbering, InStep, initial_meaning, Each, IsSmallSystem, IsSmallDefinition, AreNumbered}
use Rattle.cp_resolved.proofs.Words.{IsParameter, definition_parts, definitions_parts, initial_or, components_among, none-some, same_Some, Parameters, enter_system}
use Rattle.cp_resolved.proofs.Words.{system_groups, system, initial_statement, system_definition, system_definitions, definition, SystemMeaning, system_in, Declared}
use Rattle.cp_resolved.proofs.Words.{definition_in, definitions_in, system_of, routines_begun, initial_begun, parameters_of, parts_begun, system_begun, definition_begun}
use Rattle.cp_resolved.proofs.Words.{definitions_begun, Opening, routine_openings, parts_scope, initial_opening, definition_openings, definitions_openings, AreOpened}
use Rattle.cp_tree.specs.Syntax as syntax
use Rattle.cp_layout.specs.Layers as layers
use Rattle.cp_layout.specs.LaidDeclarations as laid
use Rattle.cp_resolved.proofs.names.Entries.{entry_at, last_entry, still_there}
use Rattle.cp_resolved.proofs.laid.Extends.{Longer, longer_trans, system_definitions_extend, initial_extends}
use Rattle.cp_resolved.proofs.names.KnowingSystems.{begun_many, IsFirst, first_before, first_is, definitions_longer}
use Rattle.cp_resolved.proofs.systems.PermanentCells.{Owns, groups_own, parts_own}
use Rattle.cp_resolved.proofs.agreeing.ScopeVariables.{AreOf, of_type, inside_of}
use Rattle.cp_resolved.proofs.names.Steps.{all_inside}
use Rattle.cp_resolved.proofs.names.StepsOfParts.{Reached, system_groups_reached}
use Rattle.cp_resolved.proofs.names.StepsOfProgram.{Standing, Stood, definition_stood, opened_after}
use Rattle.cp_resolved.proofs.names.StepsOfRoutines.{body_systems, routines_systems, openings_count, opened_left, opened_right, parts_begun_reached, parts_opened, system_begun_reached, groups_systems}
use Rattle.cp_resolved.proofs.names.BegunKnown.{definition_many}
use Rattle.cp_resolved.proofs.frames.Seats.{nothing_held, system_parts_of, routines_of, parameters_fit, AreSeated, seated_append, initial_number, SystemFits, Settled, AreSettled, settled_append, routines_seated, initial_seated}
use Rattle.cp_resolved.proofs.systems.Sizes.{Counted}
use Rattle.cp_resolved.proofs.names.StepsOfTypes.{numbered_left, numbered_after}
use Rattle.cp_resolved.proofs.components.Handed.{body_owned, routines_owned}

module _ (k : Numbering) (p : syntax.Program) (end : Layer) (counted : Counted end.types) where
  type_there : (ss : List System) (o : layers.Owned) (n : ℕ) (s : System) → slice_get ss n ≡ Some s → slice_get (system_types ss o) n ≡ Some (system_type s.owned)
  type_there ss o n s e = still_there (types_of ss) (system_type o ∷ []) n (system_type s.owned) (mapped ss n e)
    where
      mapped : (ss : List System) (n : ℕ) → slice_get ss n ≡ Some s → slice_get (types_of ss) n ≡ Some (system_type s.owned)
      mapped [] n e = absurd (none-some s e)
      mapped (x ∷ xs) zero e = ap (λ y. Some (system_type y.owned)) (same_Some x s e)
      mapped (x ∷ xs) (suc n) e = mapped xs n e

  module _ (l : Layer) (d : Declared) (s : syntax.System) (h : IsSmallSystem s) (f : IsFitDefinition d (syntax.system_definition s)) (e : AreNumbered k.firsts (length l.constants) (in_definition (syntax.system_definition s))) (i : Standing k l d) (v : AreOf [] d.variables d.scope) where
    abbrev u : Scope
    u = seen_inside d.scope

    abbrev es : List Enumerated
    es = each_in in_part s.parts

    inside : InStep k l.types (enter_system l).1.names u
    inside = all_inside k l.types l.names d.scope i.outer i.names

    -- the permanent cells as the routines begin
    parts_owned : SystemFits k p end counted (system_in u s) → Owns (parts_begun l s) (parameter_variables (system_in u s).parameters ++ components_among false (system_in u s).variables)
    parts_owned fits =
        let x : Layer = (enter_system l).1 in
        let y : Layer = (system_groups x [] s.parameters).1 in
        let j : Heading = with_groups permanent_variable (record { parameters = []; scope = u }) s.parameters in
        let start : Owns x [] = record { cells = omega arith; holding = nothing_held k l.types x.names u inside (inside_of d.variables d.scope v) } in
        let a : Owns y (parameter_variables j.parameters) = groups_own k x (record { parameters = []; scope = u }) [] s.parameters f inside fits.0 start in
        let r : Reached k x y j.scope [] = system_groups_reached k x (record { parameters = []; scope = u }) [] s.parameters f inside in
        let c : y.constants ≡ l.constants = r.constants ∙ append-nil l.constants in
        let numbered : AreNumbered k.firsts (length y.constants) es = subst (λ cs. AreNumbered k.firsts (length cs) es) (sym c) (numbered_left k (length l.constants) es (each_in in_routine s.routines) e) in
        parts_own k y (record { variables = []; scope = j.scope }) s.parts (parameter_variables j.parameters) h.0 numbered r.names fits.1 (subst (λ us. Owns y us) (sym (append-nil (parameter_variables j.parameters))) a)

    module _ (o : AreOpened k.routines (length l.routines) (definition_openings d (syntax.system_definition s))) (whole : system_of p (length d.systems) ≡ system_in u s) (x : Longer (system l s).1.types end.types) (y : Longer (system l s).1.systems end.systems) where
      abbrev n : ℕ
      n = length d.systems

      abbrev z : Layer
      z = parts_begun l s

      abbrev b : Layer
      b = system_begun l s

      abbrev ps : Parameters
      ps = parameters_of l s

      abbrev w : Scope
      w = parts_scope u s

      abbrev os : List Opening
      os = routine_openings n w s.routines

      abbrev own : List Opening
      own = initial_opening n (system_in u s) ∷ []

      abbrev ended : Layer
      ended = initial_statement b ps s.body

      abbrev made : System
      made = laid.system_of s.kind ended.owned (length l.routines) (length b.routines)

      visible : AreOf [] (system_variables (system_of p n)) w
      visible = subst (λ (m : SystemMeaning). AreOf [] (system_variables m) w) (sym whole) (system_parts_of u s (inside_of d.variables d.scope v))

      pub system_seated : AreSeated k p end counted (definition_begun l (syntax.system_definition s)) (definition_openings d (syntax.system_definition s))
      unfolding system
      system_seated =
          let q : AreOpened k.routines (length l.routines) os = opened_left k.routines (length l.routines) os own o in
          let r : Reached k l z w es = parts_begun_reached k l d.scope s h.0 f i.outer (numbered_left k (length l.constants) es (each_in in_routine s.routines) e) i.names in
          let numbered : AreNumbered k.firsts (length z.constants) (each_in in_routine s.routines) = numbered_after k l.constants z.constants es (each_in in_routine s.routines) r.constants e in
          let opened : AreOpened k.routines (length z.routines) os = parts_opened k l n w s q in
          let len : length z.systems ≡ n = ap (λ (ss : List System). length ss) (groups_systems l s) ∙ i.systems in
          let before : Longer b.types end.types = longer_trans b.types ended.types end.types (initial_extends b ps s.body).types x in
          seated_append k p end counted (routines_begun z s.routines) (initial_begun b ps ∷ []) os own (routines_seated k p end counted z w n s.routines h.1 numbered opened r.names len visible before) (
            initial_seated k p end counted b ps n (system_in u s) (system_begun_reached k l d.scope n s h f i.outer e q i.names).names (ap (λ (ss : List System). length ss) (routines_systems z s.routines) ∙ len) (routines_of [] (system_variables (system_of p n)) w s.routines visible),
            tt,
          )

      ended_systems : ended.systems ≡ l.systems
      ended_systems = body_systems (initial_begun b ps) s.body true ∙ routines_systems z s.routines ∙ groups_systems l s

      made_there : slice_get end.systems n ≡ Some made
      unfolding system
      made_there =
          let len : length ended.systems ≡ n = ap (λ (ss : List System). length ss) ended_systems ∙ i.systems in
          ap (λ ss. slice_get ss n) y.1 ∙ ap (λ j. slice_get ((ended.systems ++ made ∷ []) ++ y.0) j) (sym len) ∙ still_there (ended.systems ++ made ∷ []) y.0 (length ended.systems) made (last_entry ended.systems made)

      ended_cells : ended.owned.cells ≡ z.owned.cells
      ended_cells = ap (λ (q : layers.Owned). q.cells) (body_owned (initial_begun b ps) s.body true ∙ routines_owned z s.routines)

      pub system_settled : Settled k p end counted n z
      system_settled =
          let initial : initial_number k p end counted n ≡ length b.routines = ap (initial_or (length end.routines - 1)) made_there in
          let last : AreOpened k.routines (length l.routines + length os) own = opened_right k.routines (length l.routines) os own o in
          let many : length l.routines + length os ≡ length b.routines = omega (arith, openings_count n w s.routines, begun_many k p l d s) in
          let number : k.routines (length b.routines) ≡ initial_meaning (system_in u s) = ap k.routines (sym many) ∙ last.0 in
          record {
            statement = ap k.routines initial ∙ number ∙ ap initial_meaning (sym whole);
            cells = ap (λ (q : SystemView). q.own) (entry_at (system_types end.systems end.owned) n no_system (system_type made.owned) (type_there end.systems end.owned n made made_there)) ∙ ended_cells;
            owns = subst (λ (m : SystemMeaning). SystemFits k p end counted m → Owns z (parameter_variables m.parameters ++ components_among false m.variables)) (sym whole) parts_owned;
            parameters = subst (λ (m : SystemMeaning). Each (λ (q : Parameter). IsParameter q.ty) m.parameters) (sym whole) (parameters_fit (record { parameters = []; scope = u }) s.parameters f tt);
          }

  -- ---- definitions

  abbrev Both : List Layer → List Opening → ℕ → List Layer → Type 0
  Both ls os n zs = AreSeated k p end counted ls os × AreSettled k p end counted n zs

  both_append : (ls ms : List Layer) (os qs : List Opening) (n : ℕ) (ys zs : List Layer) → Both ls os n ys → Both ms qs (n + length ys) zs → Both (ls ++ ms) (os ++ qs) n (ys ++ zs)
  both_append ls ms os qs n ys zs h i = (seated_append k p end counted ls ms os qs h.0 i.0, settled_append k p end counted n ys zs h.1 i.1)

  definition_seated : (l : Layer) (d : Declared) (n : syntax.SystemDefinition) (v : syntax.Definition) → IsSmallDefinition v → IsFitDefinition d v → AreNumbered k.firsts (length l.constants) (in_definition v) → AreOpened k.routines (length l.routines) (definition_openings d v) → Standing k l d →
      AreOf [] d.variables d.scope → IsFirst k p (definition_in d n v).systems → Longer (definition l v).1.types end.types → Longer (definition l v).1.systems end.systems → Both (definition_begun l v) (definition_openings d v) (length d.systems) (definition_parts l v)
  definition_seated l d n (syntax.type_definition t) h f e o i a w x y = (tt, tt)
  definition_seated l d n (syntax.system_definition s) h f e o i a w x y =
      let whole = first_is k p d.systems (system_in (seen_inside d.scope) s) w in
      (system_seated l d s h f e i a o whole x y, (system_settled l d s h f e i a o whole x y, tt))

  definition_of : (l : Layer) (d : Declared) (n : syntax.SystemDefinition) (v : syntax.Definition) → AreOf [] d.variables d.scope → AreOf [] (definition_in d n v).variables (definition_in d n v).scope
  definition_of l d n (syntax.type_definition t) a = (tt, of_type [] d.variables d.scope t a)
  definition_of l d n (syntax.system_definition s) a = (tt, a)

  pub definitions_of : (l : Layer) (d : Declared) (ns : List syntax.SystemDefinition) → AreOf [] d.variables d.scope → AreOf [] (definitions_in d ns).variables (definitions_in d ns).scope
  definitions_of l d [] a = a
  definitions_of l d (n ∷ ns) a = definitions_of l (definition_in d n n.value) ns (definition_of l d n n.value a)

  pub definitions_seated : (l : Layer) (d : Declared) (ns : List syntax.SystemDefinition) → Each (λ n. IsSmallDefinition n.value) ns → AreFitDefinitions d ns → AreNumbered k.firsts (length l.constants) (each_in (λ n. in_definition n.value) ns) → AreOpened k.routines (length l.routines) (definitions_openings d ns) → Standing k l d →
      AreOf [] d.variables d.scope → IsFirst k p (definitions_in d ns).systems → Longer (system_definitions l ns).types end.types → Longer (system_definitions l ns).systems end.systems → Both (definitions_begun l ns) (definitions_openings d ns) (length d.systems) (definitions_parts l ns)
  unfolding system_definitions
  definitions_seated l d [] h f e o i a w x y = (tt, tt)
  definitions_seated l d (n ∷ ns) h f e o i a w x y =
      let m : Layer = system_definition l n in
      let c : Declared = definition_in d n n.value in
      let es : List Enumerated = in_definition n.value in
      let fs : List Enumerated = each_in (λ (n : syntax.SystemDefinition). in_definition n.value) ns in
      let os : List Opening = definition_openings d n.value in
      let qs : List Opening = definitions_openings c ns in
      let numbered : AreNumbered k.firsts (length l.constants) es = numbered_left k (length l.constants) es fs e in
      let opened : AreOpened k.routines (length l.routines) os = opened_left k.routines (length l.routines) os qs o in
      let stood : Stood k l m c es (length os) = definition_stood k l d n n.value h.0 f.0 numbered opened i in
      let w' : IsFirst k p c.systems = first_before k p c.systems (definitions_in c ns).systems (definitions_longer k p c ns) w in
      let later = system_definitions_extend m ns in
      let x' : Longer m.types end.types = longer_trans m.types (system_definitions m ns).types end.types later.types x in
      let y' : Longer m.systems end.systems = longer_trans m.systems (system_definitions m ns).systems end.systems later.systems y in
      let rest : Both (definitions_begun m ns) qs (length c.systems) (definitions_parts m ns) = definitions_seated m c ns h.1 f.1 (numbered_after k l.constants m.constants es fs stood.constants e) (opened_after k l m os qs stood.routines o) stood.standing (definition_of l d n n.value a) w x y in
      both_append (definition_begun l n.value) (definitions_begun m ns) os qs (length d.systems) (definition_parts l n.value) (definitions_parts m ns) (definition_seated l d n n.value h.0 f.0 numbered opened i a w' x' y')
      (subst (λ j. Both (definitions_begun m ns) qs j (definitions_parts m ns)) (sym (definition_many l d n n.value)) rest)
