-- What is laid out knows the routines of each system type once that is whole, and so through all declarations of the program.
use Rattle.std.proofs.Common.{◌≡◌, ◌+◌, ◌<◌, ℕ, suc, List, [], ◌∷◌, ◌++◌, length, Some, None, slice_get, refl, sym, ap, subst, ◌∙◌, inl, inr, arith, append_assoc, append-nil, length-append}
use Rattle.cp_resolved.proofs.Words.{◌⊎◌, none-some, same_Some, slice_get_within, LayoutMeaning, entry_among, entry_in, written_type, Name, component_of, Scope, find, true}
use Rattle.cp_resolved.proofs.Words.{seen_inside, RoutineMeaning, routine_of_system, routine_of_type, initial_begun, parameters_of, parts_begun, system_begun}
use Rattle.cp_resolved.proofs.Words.{IsFitDefinition, AreFitDefinitions, IsFitPart, AreFitParts, Numbering, InStep, AreOuter, AreOnce, IsOnceDefinition, IsOncePart}
use Rattle.cp_resolved.proofs.Words.{initial_meaning, Enumerated, each_in, in_part, in_routine, in_system, in_definition, in_program_part}
use Rattle.cp_tree.specs.Syntax as syntax
use Rattle.cp_symbols.specs.declared.names.LayoutMeaning.TheVariants as meaning
use Rattle.cp_layout.specs.Layers.{Layer, Heading, System, nothing_laid, with_name}
use Rattle.cp_layout.specs.LaidDeclarations.{heading_with, routine, routines, initial_statement, system_of, system, with_type_name, system_definition, system_definitions, program_part, program_parts, constants, variables, definition}
use Rattle.cp_meaning.specs.Systems as systems
use Rattle.cp_meaning.specs.Systems.{SystemMeaning, system_in, with_routines, own_meaning, or_own, Declared, definition_in, definitions_in, program_part_in, program_parts_in}
use Rattle.cp_resolved.specs.Openings.{Opening, with_routine, routine_openings, parts_scope, initial_opening, definition_openings, definitions_openings, part_openings, parts_openings, AreOpened}
use Rattle.cp_resolved.specs.Small.{Each, IsSmallRoutine, IsSmallSystem, IsSmallDefinition, IsSmallProgramPart, AreNumbered}
use Rattle.cp_resolved.proofs.laid.Declared as declared_parts
use Rattle.cp_resolved.proofs.laid.Declares.{Declares, type_declares, constants_declare, variables_declare}
use Rattle.cp_resolved.proofs.names.Entries.{there, still_there, last_entry, last_or_before}
use Rattle.cp_resolved.proofs.names.EntriesKnown.{headings_of, routines_headings, headings_named, headings_count, HeadingsAre, entry_skips, EntryOr, entries_found, AreNamed}
use Rattle.cp_resolved.proofs.laid.Extends.{Longer, longer_trans as longer_both}
use Rattle.cp_resolved.proofs.laid.Grown.{body_grew}
use Rattle.cp_resolved.proofs.names.Knowing.{no_routine, outer_inside, body_named, IsThere, Knowing, still_known, entries_more, declares_know, routine_knows, routine_even, routines_even, initial_knows, parts_headings, parts_know, parts_even}
use Rattle.cp_resolved.proofs.laid.Named.{Named, IsType, IsMeaning, AreNames, AreSystems, names_more, types_more}
use Rattle.cp_resolved.proofs.names.StepsOfParts.{Reached}
use Rattle.cp_resolved.proofs.names.StepsOfProgram.{Standing, Stood, definition_stood, part_stood, opened_after}
use Rattle.cp_resolved.proofs.names.StepsOfRoutines.{body_count, body_systems, routine_count, routines_systems, routines_count, openings_count, opened_left, opened_right, routine_reached, groups_routines, groups_systems, parts_begun_reached, parts_opened}
use Rattle.cp_resolved.proofs.names.StepsOfTypes.{numbered_left, numbered_after}

pub systems_with : (r : ℕ) (ss : List System) (s : System) → s.initial < r → AreSystems r ss → AreSystems r (ss ++ s ∷ [])
systems_with r ss s lt h k t e = go (last_or_before ss s k t e)
  where
    go : (slice_get ss k ≡ Some t) ⊎ ((k ≡ length ss) × (t ≡ s)) → t.initial < r
    go (inl g) = h k t g
    go (inr g) = rw g.1 lt

module _ (k : Numbering) (p : syntax.Program) where
  pub routines_know : (l : Layer) (s : Scope) (owner : ℕ) (rs : List syntax.Routine) → Each IsSmallRoutine rs → AreNumbered k.firsts (length l.constants) (each_in in_routine rs) → AreOpened k.routines (length l.routines) (routine_openings owner s rs) → InStep k l.types l.names s → length l.headings ≡ length l.routines →
      Knowing k p l → Knowing k p (routines l rs)
  unfolding routines
  routines_know l s owner [] h n o i c w = w
  routines_know l s owner (r ∷ rs) h n o i c w =
      let m : Layer = routine l r in
      let a : Reached k l m (with_routine s r) (in_routine r) = routine_reached k l s r h.0 (numbered_left k (length l.constants) (in_routine r) (each_in in_routine rs) n) o.0 i in
      let next : AreOpened k.routines (length m.routines) (routine_openings owner (with_routine s r) rs) = subst (λ j. AreOpened k.routines j (routine_openings owner (with_routine s r) rs)) (sym (routine_count l r)) o.1 in
      routines_know m (with_routine s r) owner rs h.1 (numbered_after k l.constants m.constants (in_routine r) (each_in in_routine rs) a.constants n) next a.names (routine_even k p l r c) (routine_knows k p l s r i o.0 c w)

  -- ---- the entries of a system type that is whole

  record IsNew (t : System) (hs : List Heading) (y : Name) (r : RoutineMeaning) : Type 0 where
    number : ℕ
    there : entry_among t hs 0 y ≡ Some number
    same : k.routines number ≡ r
    below : number < length hs

  new_entry : (before hs : List Heading) (i : Heading) (t : System) (sc : Scope) (rs : List syntax.Routine) (owner : ℕ) (y : Name) (r : RoutineMeaning) → t.first ≡ length before → t.initial ≡ length before + length rs → AreNamed hs rs → length hs ≡ length rs → AreOnce rs →
      AreOpened k.routines (length before) (routine_openings owner sc rs) → AreOuter sc → routine_of_system y (find y (with_routines sc rs)) (with_routines sc rs) ≡ Some r → IsNew t (before ++ (hs ++ i ∷ [])) y r
  new_entry before hs i t sc rs owner y r first initial named count once opened outer f = go (entries_found k t (i ∷ []) y owner hs (length before) sc rs (omega (arith, first)) (omega (arith, initial)) named once opened)
    where
      go : EntryOr k t (i ∷ []) y hs (length before) sc (with_routines sc rs) → IsNew t (before ++ (hs ++ i ∷ [])) y r
      go (inl e) = absurd (no_routine y sc r (with_routines sc rs) outer (ap (λ o. routine_of_system y o (with_routines sc rs)) (sym e.0) ∙ f))
      go (inr e) =
          let skip : entry_among t (before ++ (hs ++ i ∷ [])) 0 y ≡ entry_among t (hs ++ i ∷ []) (0 + length before) y = entry_skips t before (hs ++ i ∷ []) 0 y (omega (arith, first)) in
          let zero_more : 0 + length before ≡ length before = omega arith in
          let low : e.number < length before + length hs = e.below in
          record {
            number = e.number;
            there = skip ∙ ap (λ n. entry_among t (hs ++ i ∷ []) n y) zero_more ∙ e.there;
            same = e.same ∙ same_Some _ r (sym (ap (λ o. routine_of_system y o (with_routines sc rs)) e.found) ∙ f);
            below = omega (arith, low, length-append before (hs ++ i ∷ []), length-append hs (i ∷ []));
          }

  module _ (l : Layer) (from : Declared) (d : syntax.System) where
    abbrev scope_before : Scope
    scope_before = parts_scope (seen_inside from.scope) d

    abbrev begun : Layer
    begun = system_begun l d

    abbrev own : Heading
    own = heading_with [] (parameters_of l d) None

    abbrev ended : Layer
    ended = initial_statement begun (parameters_of l d) d.body

    abbrev made : System
    made = system_of d.kind ended.owned (length l.routines) (length begun.routines)

    ended_headings : ended.headings ≡ l.headings ++ (headings_of (parts_begun l d) d.routines ++ own ∷ [])
    ended_headings =
        ap (λ (j : Layer). j.headings) (body_grew (initial_begun begun (parameters_of l d)) d.body.statements true).1
        ∙ ap (λ hs. hs ++ own ∷ []) (routines_headings (parts_begun l d) d.routines)
        ∙ ap (λ hs. (hs ++ headings_of (parts_begun l d) d.routines) ++ own ∷ []) (parts_headings k p l d)
        ∙ append_assoc l.headings (headings_of (parts_begun l d) d.routines) (own ∷ [])

    ended_systems : ended.systems ≡ l.systems
    ended_systems = body_systems (initial_begun begun (parameters_of l d)) d.body true ∙ routines_systems (parts_begun l d) d.routines ∙ groups_systems l d

    pub begun_many : length begun.routines ≡ length l.routines + length d.routines
    begun_many = routines_count (parts_begun l d) d.routines ∙ ap (λ rs. length rs + length d.routines) (groups_routines l d)

    ended_many : length ended.routines ≡ suc (length begun.routines)
    ended_many = body_count (initial_begun begun (parameters_of l d)) d.body true

    pub system_knows : IsSmallSystem d → IsFitDefinition from (syntax.system_definition d) → AreOnce d.routines → AreOuter from.scope → AreNumbered k.firsts (length l.constants) (in_system d) →
        AreOpened k.routines (length l.routines) (definition_openings from (syntax.system_definition d)) → InStep k l.types l.names from.scope → length l.headings ≡ length l.routines → systems.system_of p (length l.systems) ≡ system_in (seen_inside from.scope) d → Knowing k p l → Knowing k p (system l d).1
    unfolding system
    system_knows small fit once outer numbered opened i c whole w =
        let z : Layer = parts_begun l d in
        let es : List Enumerated = each_in in_part d.parts in
        let fs : List Enumerated = each_in in_routine d.routines in
        let os : List Opening = routine_openings (length from.systems) scope_before d.routines in
        let o : AreOpened k.routines (length l.routines) os = opened_left k.routines (length l.routines) os (initial_opening (length from.systems) (system_in (seen_inside from.scope) d) ∷ []) opened in
        let last : AreOpened k.routines (length l.routines + length os) (initial_opening (length from.systems) (system_in (seen_inside from.scope) d) ∷ []) = opened_right k.routines (length l.routines) os (initial_opening (length from.systems) (system_in (seen_inside from.scope) d) ∷ []) opened in
        let place : length l.routines + length os ≡ length begun.routines = omega (arith, openings_count (length from.systems) scope_before d.routines, begun_many) in
        let number : k.routines (length begun.routines) ≡ initial_meaning (system_in (seen_inside from.scope) d) = ap k.routines (sym place) ∙ last.0 in
        let r : Reached k l z scope_before es = parts_begun_reached k l from.scope d small.0 fit outer (numbered_left k (length l.constants) es fs numbered) i in
        let even : length z.headings ≡ length z.routines = parts_even k p l d c in
        let a : Knowing k p begun = routines_know z scope_before (length from.systems) d.routines small.1 (numbered_after k l.constants z.constants es fs r.constants numbered) (parts_opened k l (length from.systems) scope_before d o) r.names even (parts_know k p l d w) in
        let b : Knowing k p (initial_begun begun (parameters_of l d)) = initial_knows k p begun (parameters_of l d) (system_in (seen_inside from.scope) d) number (routines_even k p z d.routines even) a in
        let g = (body_grew (initial_begun begun (parameters_of l d)) d.body.statements true).1 in
        let n : Named ended = body_named (initial_begun begun (parameters_of l d)) d.body true b.named in
        let ts : ended.types ≡ begun.types = ap (λ (j : Layer). j.types) g in
        let more : length (ended.systems ++ made ∷ []) ≡ length ended.systems + 1 = length-append ended.systems (made ∷ []) in
        let same : length ended.systems ≡ length l.systems = ap (λ ss. length ss) ended_systems in
        let names : AreNames (length (ended.systems ++ made ∷ [])) (length ended.routines) l.names =
        names_more (length l.systems) (length (ended.systems ++ made ∷ [])) (length l.routines) (length ended.routines) l.names (omega (arith, more, same)) (omega (arith, ended_many, begun_many)) w.named.names in
        let headings : HeadingsAre k ended.types ended.headings = subst (λ hs. HeadingsAre k ended.types hs) (sym (ap (λ (j : Layer). j.headings) g)) (subst (λ ts. HeadingsAre k ts (begun.headings ++ own ∷ [])) (sym ts) b.headings) in
        let hs : List Heading = headings_of z d.routines in
        let first : length l.routines ≡ length l.headings = sym c in
        let initial : length begun.routines ≡ length l.headings + length d.routines = omega (arith, begun_many, c) in
        let entries : (y : Name) (q : RoutineMeaning) → routine_of_type p (component_of (length l.systems)) y ≡ Some q → IsNew made ended.headings y q =
        λ y q f. subst (λ hs. IsNew made hs y q) (sym ended_headings) (new_entry l.headings hs own made scope_before d.routines (length from.systems) y q first initial (headings_named z d.routines) (headings_count z d.routines) once
        (subst (λ m. AreOpened k.routines m os) first o) (outer_inside from.scope d outer) (subst (λ (m : SystemMeaning). routine_of_system y (find y m.scope) m.scope ≡ Some q) whole f)) in
        record {
          named = record { names = names; types = types_more (length ended.systems) (length (ended.systems ++ made ∷ [])) ended.types (omega (arith, more)) n.types; systems = systems_with (length ended.routines) ended.systems made (omega (arith, ended_many)) n.systems };
          headings = headings;
          entries = λ j y q low f. go j y q f entries (let at = there (ended.systems ++ made ∷ []) j low in last_or_before ended.systems made j at.0 at.1);
        }
      where
        go : (j : ℕ) (y : Name) (q : RoutineMeaning) → routine_of_type p (component_of j) y ≡ Some q → ((y : Name) (q : RoutineMeaning) → routine_of_type p (component_of (length l.systems)) y ≡ Some q → IsNew made ended.headings y q) →
            {t : System} → (slice_get ended.systems j ≡ Some t) ⊎ ((j ≡ length ended.systems) × (t ≡ made)) → IsThere k p (system l d).1 j y q
        go j y q f new {t} (inl e) =
            let low : j < length ended.systems = slice_get_within ended.systems j t e in
            let less : j < length l.systems = subst (λ ss. j < length ss) ended_systems low in
            still_known k p l (system l d).1 j y q less (made ∷ [], ap (λ ss. ss ++ made ∷ []) ended_systems) (headings_of (parts_begun l d) d.routines ++ own ∷ [], ended_headings) (w.entries j y q less f)
        go j y q f new {t} (inr e) =
            let place : j ≡ length l.systems = e.0 ∙ ap (λ ss. length ss) ended_systems in
            let n : IsNew made ended.headings y q = new y q (subst (λ i. routine_of_type p (component_of i) y ≡ Some q) place f) in
            record {
              number = n.number;
              there = ap (λ i. entry_in (slice_get (ended.systems ++ made ∷ []) i) ended.headings y) e.0 ∙ ap (λ o. entry_in o ended.headings y) (last_entry ended.systems made) ∙ n.there;
              same = n.same;
              below = n.below;
            }

    pub system_even : length l.headings ≡ length l.routines → length (system l d).1.headings ≡ length (system l d).1.routines
    unfolding system
    system_even c =
        let a : length ended.headings ≡ length l.headings + (length d.routines + 1) = ap (λ hs. length hs) ended_headings
        ∙ length-append l.headings (headings_of (parts_begun l d) d.routines ++ own ∷ [])
        ∙ ap (λ n. length l.headings + n) (length-append (headings_of (parts_begun l d) d.routines) (own ∷ []) ∙ ap (λ n. n + 1) (headings_count (parts_begun l d) d.routines)) in
        omega (arith, a, c, ended_many, begun_many)

    pub system_type_there : IsType (length (system l d).1.systems) (system l d).0
    unfolding system
    system_type_there = omega (arith, length-append ended.systems (made ∷ []))

  -- ---- the declarations of the program

  name_known : (l : Layer) (x : List ℕ) (m : LayoutMeaning) → IsMeaning (length l.systems) (length l.routines) m → Knowing k p l → Knowing k p (with_name l x m)
  name_known l x m i h = record { named = (declared_parts.name_declared l x m i h.named).named; headings = h.headings; entries = entries_more k p l (with_name l x m) refl ([], sym (append-nil l.headings)) h.entries }

  definition_longer : (d : Declared) (n : syntax.SystemDefinition) (v : syntax.Definition) → Longer d.systems (definition_in d n v).systems
  definition_longer d n (syntax.type_definition t) = ([], sym (append-nil d.systems))
  definition_longer d n (syntax.system_definition s) = (system_in (seen_inside d.scope) s ∷ [], refl)

  pub definitions_longer : (d : Declared) (ns : List syntax.SystemDefinition) → Longer d.systems (definitions_in d ns).systems
  definitions_longer d [] = ([], sym (append-nil d.systems))
  definitions_longer d (n ∷ ns) = longer_both d.systems (definition_in d n n.value).systems (definitions_in (definition_in d n n.value) ns).systems (definition_longer d n n.value) (definitions_longer (definition_in d n n.value) ns)

  part_longer : (d : Declared) (q : syntax.ProgramPart) → Longer d.systems (program_part_in d q).systems
  part_longer d (syntax.program_types at ns) = definitions_longer d ns
  part_longer d _ = ([], sym (append-nil d.systems))

  pub parts_longer : (d : Declared) (qs : List syntax.ProgramPart) → Longer d.systems (program_parts_in d qs).systems
  parts_longer d [] = ([], sym (append-nil d.systems))
  parts_longer d (q ∷ qs) = longer_both d.systems (program_part_in d q).systems (program_parts_in (program_part_in d q) qs).systems (part_longer d q) (parts_longer (program_part_in d q) qs)

  -- the system types of the program, of which these are the first
  abbrev pub IsFirst : List SystemMeaning → Type 0
  IsFirst ss = Longer ss (systems.declared p).systems

  pub first_before : (ss ts : List SystemMeaning) → Longer ss ts → IsFirst ts → IsFirst ss
  first_before ss ts h i = longer_both ss ts (systems.declared p).systems h i

  pub first_is : (ss : List SystemMeaning) (m : SystemMeaning) → IsFirst (ss ++ m ∷ []) → systems.system_of p (length ss) ≡ m
  first_is ss m h =
      let e : slice_get (systems.declared p).systems (length ss) ≡ Some m = ap (λ ts. slice_get ts (length ss)) h.1 ∙ still_there (ss ++ m ∷ []) h.0 (length ss) m (last_entry ss m) in
      ap (λ o. or_own (own_meaning (systems.declared p) p) o) e

  definition_knows : (l : Layer) (d : Declared) (n : syntax.SystemDefinition) (v : syntax.Definition) → IsSmallDefinition v → IsFitDefinition d v → IsOnceDefinition v → AreNumbered k.firsts (length l.constants) (in_definition v) → AreOpened k.routines (length l.routines) (definition_openings d v) → Standing k l d →
      length l.headings ≡ length l.routines → IsFirst (definition_in d n v).systems → Knowing k p l → Knowing k p (with_type_name n.name.name (definition l v))
  definition_knows l d n (syntax.type_definition t) h f once e o i c w a =
      let x : declared_parts.Typed l (written_type l t) = declared_parts.written_typed l t a.named in
      name_known (written_type l t).1 n.name.name (meaning.Kind (written_type l t).0) x.is (declares_know k p l (written_type l t).1 (type_declares l t) x.declared.named a)
  definition_knows l d n (syntax.system_definition s) h f once e o i c w a =
      let whole : systems.system_of p (length l.systems) ≡ system_in (seen_inside d.scope) s = ap (systems.system_of p) i.systems ∙ first_is d.systems (system_in (seen_inside d.scope) s) w in
      name_known (system l s).1 n.name.name (meaning.Kind (system l s).0) (system_type_there l d s) (system_knows l d s h f once i.outer e o i.names c whole a)

  definition_even : (l : Layer) (d : Declared) (v : syntax.Definition) → length l.headings ≡ length l.routines → length (definition l v).1.headings ≡ length (definition l v).1.routines
  definition_even l d (syntax.type_definition t) c = ap (λ (j : Layer). length j.headings) (type_declares l t).same ∙ c ∙ sym (ap (λ (j : Layer). length j.routines) (type_declares l t).same)
  definition_even l d (syntax.system_definition s) c = system_even l d s c

  -- what is laid out knows its routines, and each has its heading
  pub record Known (l : Layer) : Type 0 where
    pub knowing : Knowing k p l
    pub even : length l.headings ≡ length l.routines

  pub definition_known : (l : Layer) (d : Declared) (n : syntax.SystemDefinition) → IsSmallDefinition n.value → IsFitDefinition d n.value → IsOnceDefinition n.value → AreNumbered k.firsts (length l.constants) (in_definition n.value) → AreOpened k.routines (length l.routines) (definition_openings d n.value) → Standing k l d →
      IsFirst (definition_in d n n.value).systems → Known l → Known (system_definition l n)
  definition_known l d n h f once e o i w a = record { knowing = definition_knows l d n n.value h f once e o i a.even w a.knowing; even = definition_even l d n.value a.even }

  pub definitions_known : (l : Layer) (d : Declared) (ns : List syntax.SystemDefinition) → Each (λ n. IsSmallDefinition n.value) ns → AreFitDefinitions d ns → Each (λ n. IsOnceDefinition n.value) ns → AreNumbered k.firsts (length l.constants) (each_in (λ n. in_definition n.value) ns) → AreOpened k.routines (length l.routines) (definitions_openings d ns) → Standing k l d →
      IsFirst (definitions_in d ns).systems → Known l → Known (system_definitions l ns)
  unfolding system_definitions
  definitions_known l d [] h f once e o i w a = a
  definitions_known l d (n ∷ ns) h f once e o i w a =
      let m : Layer = system_definition l n in
      let c : Declared = definition_in d n n.value in
      let es : List Enumerated = in_definition n.value in
      let fs : List Enumerated = each_in (λ (n : syntax.SystemDefinition). in_definition n.value) ns in
      let os : List Opening = definition_openings d n.value in
      let qs : List Opening = definitions_openings c ns in
      let numbered : AreNumbered k.firsts (length l.constants) es = numbered_left k (length l.constants) es fs e in
      let opened : AreOpened k.routines (length l.routines) os = opened_left k.routines (length l.routines) os qs o in
      let stood : Stood k l m c es (length os) = definition_stood k l d n n.value h.0 f.0 numbered opened i in
      definitions_known m c ns h.1 f.1 once.1 (numbered_after k l.constants m.constants es fs stood.constants e) (opened_after k l m os qs stood.routines o) stood.standing w
      (definition_known l d n h.0 f.0 once.0 numbered opened i (first_before c.systems (definitions_in c ns).systems (definitions_longer c ns) w) a)

  declared_known : (l m : Layer) → Declares l m → Named m → Known l → Known m
  declared_known l m d n a =
      record {
        knowing = declares_know k p l m d n a.knowing;
        even = ap (λ (j : Layer). length j.headings) d.same ∙ a.even ∙ sym (ap (λ (j : Layer). length j.routines) d.same);
      }

  pub part_known : (l : Layer) (d : Declared) (q : syntax.ProgramPart) → IsSmallProgramPart q → IsFitPart d q → IsOncePart q → AreNumbered k.firsts (length l.constants) (in_program_part q) → AreOpened k.routines (length l.routines) (part_openings d q) → Standing k l d → IsFirst (program_part_in d q).systems → Known l → Known (program_part l q)
  part_known l d (syntax.program_constants at ds) h f once e o i w a = declared_known l (constants l ds) (constants_declare l ds) (declared_parts.constants_declared l ds a.knowing.named).named a
  part_known l d (syntax.program_types at ns) h f once e o i w a = definitions_known l d ns h f once e o i w a
  part_known l d (syntax.program_variables at gs) h f once e o i w a = declared_known l (variables l gs) (variables_declare l gs) (declared_parts.variables_declared l gs a.knowing.named).named a

  pub parts_known : (l : Layer) (d : Declared) (qs : List syntax.ProgramPart) → Each IsSmallProgramPart qs → AreFitParts d qs → Each IsOncePart qs → AreNumbered k.firsts (length l.constants) (each_in in_program_part qs) → AreOpened k.routines (length l.routines) (parts_openings d qs) → Standing k l d → IsFirst (program_parts_in d qs).systems →
      Known l → Known (program_parts l qs)
  unfolding program_parts
  parts_known l d [] h f once e o i w a = a
  parts_known l d (q ∷ qs) h f once e o i w a =
      let m : Layer = program_part l q in
      let c : Declared = program_part_in d q in
      let es : List Enumerated = in_program_part q in
      let fs : List Enumerated = each_in in_program_part qs in
      let os : List Opening = part_openings d q in
      let rest : List Opening = parts_openings c qs in
      let numbered : AreNumbered k.firsts (length l.constants) es = numbered_left k (length l.constants) es fs e in
      let opened : AreOpened k.routines (length l.routines) os = opened_left k.routines (length l.routines) os rest o in
      let stood : Stood k l m c es (length os) = part_stood k l d q h.0 f.0 numbered opened i in
      parts_known m c qs h.1 f.1 once.1 (numbered_after k l.constants m.constants es fs stood.constants e) (opened_after k l m os rest stood.routines o) stood.standing w
      (part_known l d q h.0 f.0 once.0 numbered opened i (first_before c.systems (program_parts_in c qs).systems (parts_longer c qs) w) a)

  pub nothing_known : (lines : List ℕ) → Known (nothing_laid lines)
  nothing_known lines =
      record {
        knowing = record {
          named = record { names = (tt, (tt, (tt, (tt, (tt, (tt, (tt, (tt, (tt, (tt, (tt, (tt, (tt, (tt, (tt, tt))))))))))))))); types = λ n c e. absurd (none-some c e); systems = λ k s e. absurd (none-some s e) };
          headings = λ n h e. absurd (none-some h e);
          entries = λ j y r low e. absurd (omega (arith, low));
        };
        even = refl;
      }
