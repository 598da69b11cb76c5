-- What holds of the items that are laid out of the statements of each routine and of each initial statement holds of all items of the tables.
use Rattle.std.proofs.Common.{◌≡◌, ℕ, zero, suc, List, [], ◌∷◌, ◌++◌, length, Some, slice_get, refl, sym, ap, subst, ◌∙◌, arith, length-append}
use Rattle.cp_tree.specs.Syntax as syntax
use Rattle.cp_slots.specs.Code as code
use Rattle.cp_resolved.proofs.Words.{Each, Layer, nothing_laid, routine_in, Scope, seen_inside, nothing_declared, whole_laid}
use Rattle.cp_layout.specs.LaidDeclarations.{heading, with_heading, open_routine, routine, routines, enter_system, system_groups, system, definition, system_definition, system_definitions, program_part, program_parts, program}
use Rattle.cp_meaning.specs.Systems.{Declared, definition_in, program_part_in, declared, program_system, own_meaning, system_in}
use Rattle.cp_resolved.specs.Begun.{routine_begun, routines_begun, initial_begun, parameters_of, parts_begun, system_begun, definition_begun, definitions_begun, part_begun, program_parts_begun, all_begun}
use Rattle.cp_resolved.specs.Openings.{Opening, routine_openings, parts_scope, initial_opening, definition_openings, definitions_openings, part_openings, parts_openings, openings_of}
use Rattle.cp_resolved.specs.Openings.{with_routine as with_named}
use Rattle.cp_resolved.proofs.laid.Declares.{heading_declares, local_parts_declare, permanent_parts_declare, system_groups_declare, type_declares, constants_declare, variables_declare}
use Rattle.cp_resolved.proofs.frames.FrameCells.{each_both}
use Rattle.cp_resolved.specs.ItemsStand.{body_items}

module _ (Q : code.Item → Type 0) where
  abbrev pub All : List code.Item → Type 0
  All is = Each Q is

  -- the statements that begin in this state append items of which this holds
  pub record Adds (l : Layer) (o : Opening) : Type 0 where
    pub new : List code.Item
    pub same : (body_items l o.meaning.body o.meaning.checks).1.items ≡ l.items ++ new
    pub all : All new

  abbrev pub EachAdds : List Layer → List Opening → Type 0
  EachAdds [] [] = Unit {0}
  EachAdds (l ∷ ls) (o ∷ os) = Adds l o × EachAdds ls os
  EachAdds [] (o ∷ os) = ⊥
  EachAdds (l ∷ ls) [] = ⊥

  adds_parts : (ls ms : List Layer) (os qs : List Opening) → length ls ≡ length os → EachAdds (ls ++ ms) (os ++ qs) → EachAdds ls os × EachAdds ms qs
  adds_parts [] ms [] qs e a = (tt, a)
  adds_parts (l ∷ ls) ms (o ∷ os) qs e a = let r = adds_parts ls ms os qs (let f : length ls ≡ length os = omega (arith, e) in f) a.1 in ((a.0, r.0), r.1)
  adds_parts x ms y qs e a = absurd (omega (arith, e))

  pub each_adds : (ls : List Layer) (os : List Opening) → length ls ≡ length os → ((n : ℕ) (l : Layer) (o : Opening) → slice_get ls n ≡ Some l → slice_get os n ≡ Some o → Adds l o) → EachAdds ls os
  each_adds [] [] e f = tt
  each_adds (l ∷ ls) (o ∷ os) e f = (f zero l o refl refl, each_adds ls os (let g : length ls ≡ length os = omega (arith, e) in g) (λ n m p g k. f (suc n) m p g k))
  each_adds x y e f = absurd (omega (arith, e))

  -- ---- as many states as openings

  routines_many : (l : Layer) (owner : ℕ) (s : Scope) (rs : List syntax.Routine) → length (routines_begun l rs) ≡ length (routine_openings owner s rs)
  routines_many l owner s [] = refl
  routines_many l owner s (r ∷ rs) = ap suc (routines_many (routine l r) owner (with_named s r) rs)

  both_many : {A B : Type 0} (xs ys : List A) (zs ws : List B) → length xs ≡ length zs → length ys ≡ length ws → length (xs ++ ys) ≡ length (zs ++ ws)
  both_many xs ys zs ws e f = omega (arith, e, f, length-append xs ys, length-append zs ws)

  definition_many : (l : Layer) (d : Declared) (v : syntax.Definition) → length (definition_begun l v) ≡ length (definition_openings d v)
  definition_many l d (syntax.type_definition t) = refl
  definition_many l d (syntax.system_definition s) =
      let u : Scope = seen_inside d.scope in
      both_many (routines_begun (parts_begun l s) s.routines) (initial_begun (system_begun l s) (parameters_of l s) ∷ []) (routine_openings (length d.systems) (parts_scope u s) s.routines) (initial_opening (length d.systems) (system_in u s) ∷ []) (routines_many (parts_begun l s) (length d.systems) (parts_scope u s) s.routines) refl

  definitions_many : (l : Layer) (d : Declared) (ns : List syntax.SystemDefinition) → length (definitions_begun l ns) ≡ length (definitions_openings d ns)
  definitions_many l d [] = refl
  definitions_many l d (v ∷ ns) =
      both_many (definition_begun l v.value) (definitions_begun (system_definition l v) ns) (definition_openings d v.value) (definitions_openings (definition_in d v v.value) ns) (definition_many l d v.value) (definitions_many (system_definition l v) (definition_in d v v.value) ns)

  part_many : (l : Layer) (d : Declared) (q : syntax.ProgramPart) → length (part_begun l q) ≡ length (part_openings d q)
  part_many l d (syntax.program_types at ns) = definitions_many l d ns
  part_many l d _ = refl

  parts_many : (l : Layer) (d : Declared) (qs : List syntax.ProgramPart) → length (program_parts_begun l qs) ≡ length (parts_openings d qs)
  parts_many l d [] = refl
  parts_many l d (q ∷ qs) = both_many (part_begun l q) (program_parts_begun (program_part l q) qs) (part_openings d q) (parts_openings (program_part_in d q) qs) (part_many l d q) (parts_many (program_part l q) (program_part_in d q) qs)

  pub begun_many : (t : syntax.Tree) → length (all_begun t) ≡ length (openings_of t.program)
  begun_many t =
      let p : syntax.Program = t.program in
      let m : Layer = program_parts (nothing_laid t.lines) p.parts in
      let d : Declared = declared p in
      both_many (program_parts_begun (nothing_laid t.lines) p.parts) (routines_begun m p.routines ++ initial_begun (routines m p.routines) [] ∷ []) (parts_openings nothing_declared p.parts) (routine_openings (program_system p) d.scope p.routines ++ initial_opening (program_system p) (own_meaning d p) ∷ []) (parts_many (nothing_laid t.lines) nothing_declared p.parts)
      (both_many (routines_begun m p.routines) (initial_begun (routines m p.routines) [] ∷ []) (routine_openings (program_system p) d.scope p.routines) (initial_opening (program_system p) (own_meaning d p) ∷ []) (routines_many m (program_system p) d.scope p.routines) refl)

  -- ---- through the declarations

  body_covers : (l b : Layer) (o : Opening) → b.items ≡ l.items → Adds b o → All l.items → All (body_items b o.meaning.body o.meaning.checks).1.items
  body_covers l b o e a h = subst All (sym (a.same ∙ ap (λ is. is ++ a.new) e)) (each_both Q l.items a.new h a.all)

  begun_items : (l : Layer) (r : syntax.Routine) → (routine_begun l r).items ≡ l.items
  begun_items l r =
      let x : Layer = (open_routine l r.name.name).1 in
      let y = heading x r.name.name r.kind in
      ap (λ (j : Layer). j.items) (local_parts_declare (with_heading y.1 y.0) r.parts).same ∙ ap (λ (j : Layer). j.items) (heading_declares x r.name.name r.kind).same

  routines_cover : (l : Layer) (owner : ℕ) (s : Scope) (rs : List syntax.Routine) → EachAdds (routines_begun l rs) (routine_openings owner s rs) → All l.items → All (routines l rs).items
  unfolding routines
  routines_cover l owner s [] a h = h
  routines_cover l owner s (r ∷ rs) a h =
      let o : Opening = record { meaning = routine_in (with_named s r) r; owner = owner; name = Some r.name.name } in
      routines_cover (routine l r) owner (with_named s r) rs a.1 (body_covers l (routine_begun l r) o (begun_items l r) a.0 h)

  parts_items : (l : Layer) (s : syntax.System) → (parts_begun l s).items ≡ l.items
  parts_items l s =
      let y : Layer = (system_groups (enter_system l).1 [] s.parameters).1 in
      ap (λ (j : Layer). j.items) (permanent_parts_declare y s.parts).same ∙ ap (λ (j : Layer). j.items) (system_groups_declare (enter_system l).1 [] s.parameters).same

  definition_covers : (l : Layer) (d : Declared) (v : syntax.Definition) → EachAdds (definition_begun l v) (definition_openings d v) → All l.items → All (definition l v).1.items
  unfolding system
  definition_covers l d (syntax.type_definition t) a h = subst All (sym (ap (λ (j : Layer). j.items) (type_declares l t).same)) h
  definition_covers l d (syntax.system_definition s) a h =
      let u : Scope = seen_inside d.scope in
      let z : Layer = parts_begun l s in
      let b : Layer = system_begun l s in
      let own : Opening = initial_opening (length d.systems) (system_in u s) in
      let p = adds_parts (routines_begun z s.routines) (initial_begun b (parameters_of l s) ∷ []) (routine_openings (length d.systems) (parts_scope u s) s.routines) (own ∷ []) (routines_many z (length d.systems) (parts_scope u s) s.routines) a in
      let inner : All b.items = routines_cover z (length d.systems) (parts_scope u s) s.routines p.0 (subst All (sym (parts_items l s)) h) in
      body_covers b (initial_begun b (parameters_of l s)) own refl p.1.0 inner

  definitions_cover : (l : Layer) (d : Declared) (ns : List syntax.SystemDefinition) → EachAdds (definitions_begun l ns) (definitions_openings d ns) → All l.items → All (system_definitions l ns).items
  unfolding system_definitions
  definitions_cover l d [] a h = h
  definitions_cover l d (v ∷ ns) a h =
      let m : Layer = system_definition l v in
      let c : Declared = definition_in d v v.value in
      let p = adds_parts (definition_begun l v.value) (definitions_begun m ns) (definition_openings d v.value) (definitions_openings c ns) (definition_many l d v.value) a in
      definitions_cover m c ns p.1 (definition_covers l d v.value p.0 h)

  part_covers : (l : Layer) (d : Declared) (q : syntax.ProgramPart) → EachAdds (part_begun l q) (part_openings d q) → All l.items → All (program_part l q).items
  part_covers l d (syntax.program_constants at ds) a h = subst All (sym (ap (λ (j : Layer). j.items) (constants_declare l ds).same)) h
  part_covers l d (syntax.program_types at ns) a h = definitions_cover l d ns a h
  part_covers l d (syntax.program_variables at gs) a h = subst All (sym (ap (λ (j : Layer). j.items) (variables_declare l gs).same)) h

  parts_cover : (l : Layer) (d : Declared) (qs : List syntax.ProgramPart) → EachAdds (program_parts_begun l qs) (parts_openings d qs) → All l.items → All (program_parts l qs).items
  unfolding program_parts
  parts_cover l d [] a h = h
  parts_cover l d (q ∷ qs) a h =
      let m : Layer = program_part l q in
      let c : Declared = program_part_in d q in
      let p = adds_parts (part_begun l q) (program_parts_begun m qs) (part_openings d q) (parts_openings c qs) (part_many l d q) a in
      parts_cover m c qs p.1 (part_covers l d q p.0 h)

  pub program_covers : (t : syntax.Tree) → EachAdds (all_begun t) (openings_of t.program) → All (whole_laid t).items
  unfolding program
  program_covers t a =
      let p : syntax.Program = t.program in
      let l : Layer = nothing_laid t.lines in
      let m : Layer = program_parts l p.parts in
      let b : Layer = routines m p.routines in
      let d : Declared = declared p in
      let own : Opening = initial_opening (program_system p) (own_meaning d p) in
      let os : List Opening = routine_openings (program_system p) d.scope p.routines in
      let x = adds_parts (program_parts_begun l p.parts) (routines_begun m p.routines ++ initial_begun b [] ∷ []) (parts_openings nothing_declared p.parts) (os ++ own ∷ []) (parts_many l nothing_declared p.parts) a in
      let y = adds_parts (routines_begun m p.routines) (initial_begun b [] ∷ []) os (own ∷ []) (routines_many m (program_system p) d.scope p.routines) x.1 in
      let parts : All m.items = parts_cover l nothing_declared p.parts x.0 tt in
      body_covers b (initial_begun b []) own refl y.1.0 (routines_cover m (program_system p) d.scope p.routines y.0 parts)
