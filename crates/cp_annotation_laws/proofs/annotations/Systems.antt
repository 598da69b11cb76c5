-- System types and components of a program without its annotations.
use Rattle.std.proofs.Common.{◌≡◌, ◌∙◌, ℕ, zero, suc, Bool, true, false, if◌then◌else◌, List, [], ◌∷◌, ◌++◌, length, Some, None, ap, sym, refl}
use Rattle.std.specs.Prelude.{map, slice_get}
use Rattle.std.proofs.lemmas.List.{length-map, map-append}
use Rattle.cp_tree.specs.Syntax.{nameless, Routine, System, Definition, type_definition, system_definition, SystemDefinition, ProgramPart, program_constants, program_types, program_variables, Program}
use Rattle.cp_meaning.specs.Names.{Name, same_name}
use Rattle.cp_meaning.specs.Types.{Ty, array_over, component_of}
use Rattle.cp_meaning.specs.Scopes.{type_meaning, permanent_variable, routine_meaning, predeclared, seen_inside, Scope}
use Rattle.cp_meaning.specs.Declarations.{Variable, Block, parts_in, Heading, with_groups}
use Rattle.cp_meaning.specs.Systems.{SystemMeaning, with_routines, system_in, Declared, definition_in, definitions_in, with_block, program_part_in, program_parts_in, declared, program_system, own_meaning, or_own, system_of}
use Rattle.cp_meaning.specs.Components.{Path, Listed, step_down, listed_elements, listed_variable, listed_variables, listed, components_of}
use Rattle.cp_resolved.specs.Enumerations.{Enumerated, each_in, in_part, in_routine, in_definition, in_program_part, enumerations_of, before_among, constants_before}
use Rattle.cp_resolved.specs.Small.{Each}
use Rattle.cp_annotation_laws.specs.Plain.{plain_statements, plain_routine, plain_routines, plain_system, plain_definition, plain_system_definition, plain_part, plain_program}
use Rattle.cp_annotation_laws.proofs.annotations.Scopes.{plain_scope, seen_plain}
use Rattle.cp_annotation_laws.proofs.annotations.Spoken.{SpokenRoutine, SpokenSystem, SpokenDefinition, SpokenProgramPart, SpokenProgram}
use Rattle.cp_annotation_laws.proofs.annotations.Types.{type_plain, constant_part_plain, permanent_kept, variables_plain, parts_plain, plain_heading, groups_plain}

abbrev pub plain_system_meaning : SystemMeaning → SystemMeaning
plain_system_meaning m = record { kind = m.kind; parameters = m.parameters; variables = m.variables; scope = plain_scope m.scope; body = plain_statements m.body }

pub routines_plain : (s : Scope) (rs : List Routine) → with_routines (plain_scope s) (plain_routines rs) ≡ plain_scope (with_routines s rs)
routines_plain s [] = refl
routines_plain s (r ∷ rs) = go (same_name nameless r.name.name) (routines_plain ((r.name.name, routine_meaning r) ∷ s) rs)
  where
    go : (b : Bool) → with_routines (if b then plain_scope s else (r.name.name, routine_meaning (plain_routine r)) ∷ plain_scope s) (plain_routines rs) ≡ plain_scope (with_routines ((r.name.name, routine_meaning r) ∷ s) rs) →
        with_routines (plain_scope s) (if b then plain_routines rs else plain_routine r ∷ plain_routines rs) ≡ plain_scope (with_routines ((r.name.name, routine_meaning r) ∷ s) rs)
    go true e = e
    go false e = e

-- ---- system types

abbrev system_by : System → Heading → Block → SystemMeaning
system_by d h b = record { kind = d.kind; parameters = h.parameters; variables = b.variables; scope = with_routines b.scope (plain_routines d.routines); body = plain_statements d.body.statements }

system_plain : (s : Scope) (d : System) → SpokenSystem d → system_in (plain_scope s) (plain_system d) ≡ plain_system_meaning (system_in s d)
system_plain s d spoken =
    let h : Heading = with_groups permanent_variable (record { parameters = []; scope = s }) d.parameters in
    let b : Block = parts_in permanent_variable (record { variables = []; scope = h.scope }) d.parts in
    ap (λ (k : Heading). system_by d k (parts_in permanent_variable (record { variables = []; scope = k.scope }) d.parts)) (groups_plain permanent_variable permanent_kept (record { parameters = []; scope = s }) d.parameters)
    ∙ (ap (λ (c : Block). system_by d (plain_heading h) c) (parts_plain permanent_variable permanent_kept (record { variables = []; scope = h.scope }) d.parts spoken.parts)
    ∙ ap (λ (u : Scope). (let m : SystemMeaning = record { kind = d.kind; parameters = h.parameters; variables = b.variables; scope = u; body = plain_statements d.body.statements } in m)) (routines_plain b.scope d.routines))

-- ---- declarations of the program

abbrev pub plain_declared : Declared → Declared
plain_declared d = record { systems = map plain_system_meaning d.systems; variables = d.variables; scope = plain_scope d.scope }

definition_plain : (d : Declared) (n : SystemDefinition) (v : Definition) → SpokenDefinition v → definition_in (plain_declared d) (plain_system_definition n) (plain_definition v) ≡ plain_declared (definition_in d n v)
definition_plain d n (type_definition t) h = ap (λ (x : Ty × Scope). (let c : Declared = record { systems = map plain_system_meaning d.systems; variables = d.variables; scope = (n.name.name, type_meaning x.0) ∷ x.1 } in c)) (type_plain d.scope t h)
definition_plain d n (system_definition y) h =
    let m = (ap (λ (s : Scope). system_in s (plain_system y)) (seen_plain d.scope)) ∙ system_plain (seen_inside d.scope) y h in
    ap (λ (x : SystemMeaning). (let c : Declared = record { systems = map plain_system_meaning d.systems ++ x ∷ []; variables = d.variables; scope = (n.name.name, type_meaning (component_of (length (map plain_system_meaning d.systems)))) ∷ plain_scope d.scope } in c)) m
    ∙ (ap (λ (xs : List SystemMeaning). (let c : Declared = record { systems = xs; variables = d.variables; scope = (n.name.name, type_meaning (component_of (length (map plain_system_meaning d.systems)))) ∷ plain_scope d.scope } in c)) (sym (map-append plain_system_meaning d.systems (system_in (seen_inside d.scope) y ∷ [])))
    ∙ ap (λ (k : ℕ). (let c : Declared = record { systems = map plain_system_meaning (d.systems ++ system_in (seen_inside d.scope) y ∷ []); variables = d.variables; scope = (n.name.name, type_meaning (component_of k)) ∷ plain_scope d.scope } in c)) (length-map d.systems plain_system_meaning))

definitions_plain : (d : Declared) (ns : List SystemDefinition) → Each (λ n. SpokenDefinition n.value) ns → definitions_in (plain_declared d) (map plain_system_definition ns) ≡ plain_declared (definitions_in d ns)
definitions_plain d [] h = refl
definitions_plain d (n ∷ ns) h = ap (λ (c : Declared). definitions_in c (map plain_system_definition ns)) (definition_plain d n n.value h.0) ∙ definitions_plain (definition_in d n n.value) ns h.1

part_plain : (d : Declared) (q : ProgramPart) → SpokenProgramPart q → program_part_in (plain_declared d) (plain_part q) ≡ plain_declared (program_part_in d q)
part_plain d (program_constants at ds) h = ap (λ (s : Scope). (let c : Declared = record { systems = map plain_system_meaning d.systems; variables = d.variables; scope = s } in c)) (constant_part_plain d.scope ds h)
part_plain d (program_types at ns) h = definitions_plain d ns h
part_plain d (program_variables at gs) h = ap (with_block (map plain_system_meaning d.systems)) (variables_plain permanent_variable permanent_kept (record { variables = d.variables; scope = d.scope }) gs h)

program_parts_plain : (d : Declared) (qs : List ProgramPart) → Each SpokenProgramPart qs → program_parts_in (plain_declared d) (map plain_part qs) ≡ plain_declared (program_parts_in d qs)
program_parts_plain d [] h = refl
program_parts_plain d (q ∷ qs) h = ap (λ (c : Declared). program_parts_in c (map plain_part qs)) (part_plain d q h.0) ∙ program_parts_plain (program_part_in d q) qs h.1

pub declared_plain : (p : Program) → SpokenProgram p → declared (plain_program p) ≡ plain_declared (declared p)
declared_plain p h = program_parts_plain (record { systems = []; variables = []; scope = predeclared }) p.parts h.parts

-- ---- the meaning of a system type

own_plain : (d : Declared) (p : Program) → own_meaning (plain_declared d) (plain_program p) ≡ plain_system_meaning (own_meaning d p)
own_plain d p = ap (λ (s : Scope). (let m : SystemMeaning = record { kind = (own_meaning d p).kind; parameters = []; variables = d.variables; scope = s; body = plain_statements p.body.statements } in m)) (routines_plain d.scope p.routines)

chosen_plain : (own : SystemMeaning) (ms : List SystemMeaning) (k : ℕ) → or_own (plain_system_meaning own) (slice_get (map plain_system_meaning ms) k) ≡ plain_system_meaning (or_own own (slice_get ms k))
chosen_plain own [] k = refl
chosen_plain own (m ∷ ms) zero = refl
chosen_plain own (m ∷ ms) (suc k) = chosen_plain own ms k

pub system_of_plain : (p : Program) → SpokenProgram p → (k : ℕ) → system_of (plain_program p) k ≡ plain_system_meaning (system_of p k)
system_of_plain p h k =
    ap (λ (d : Declared). or_own (own_meaning d (plain_program p)) (slice_get d.systems k)) (declared_plain p h)
    ∙ (ap (λ (m : SystemMeaning). or_own m (slice_get (map plain_system_meaning (declared p).systems) k)) (own_plain (declared p) p)
    ∙ chosen_plain (own_meaning (declared p) p) (declared p).systems k)

pub program_system_plain : (p : Program) → SpokenProgram p → program_system (plain_program p) ≡ program_system p
program_system_plain p h = ap (λ (d : Declared). length d.systems) (declared_plain p h) ∙ length-map (declared p).systems plain_system_meaning

-- ---- components

module _ (f g : ℕ → Path → List Listed) (same : (k : ℕ) (path : Path) → f k path ≡ g k path) where
  elements_same : (k : ℕ) (above : Path) (x : Name) (count n : ℕ) → listed_elements (f k) above x count n ≡ listed_elements (g k) above x count n
  elements_same k above x zero n = refl
  elements_same k above x (suc count) n =
      ap (λ (ls : List Listed). ls ++ listed_elements (f k) above x count (suc n)) (same k (step_down above x (Some n)))
      ∙ ap (λ (ls : List Listed). g k (step_down above x (Some n)) ++ ls) (elements_same k above x count (suc n))

  variable_same : (above : Path) (x : Name) (t : Ty) → listed_variable f above x t ≡ listed_variable g above x t
  variable_same above x (component_of k) = same k (step_down above x None)
  variable_same above x (array_over r (component_of k)) = elements_same k above x _ 0
  variable_same above x _ = refl

  variables_same : (above : Path) (vs : List Variable) → listed_variables f above vs ≡ listed_variables g above vs
  variables_same above [] = refl
  variables_same above (v ∷ vs) =
      ap (λ (ls : List Listed). ls ++ listed_variables f above vs) (variable_same above v.name v.ty)
      ∙ ap (λ (ls : List Listed). listed_variable g above v.name v.ty ++ ls) (variables_same above vs)

listed_plain : (p : Program) → SpokenProgram p → (depth k : ℕ) (path : Path) → listed (plain_program p) depth k path ≡ listed p depth k path
listed_plain p h zero k path = refl
listed_plain p h (suc depth) k path =
    ap (λ (ls : List Listed). (let l : Listed = record { path = path; system = k } in l) ∷ ls)
    (ap (λ (m : SystemMeaning). listed_variables (listed (plain_program p) depth) path m.variables) (system_of_plain p h k)
    ∙ variables_same (listed (plain_program p) depth) (listed p depth) (listed_plain p h depth) path (system_of p k).variables)

pub components_plain : (p : Program) → SpokenProgram p → components_of (plain_program p) ≡ components_of p
components_plain p h =
    ap (λ (n : ℕ). listed (plain_program p) (suc n) n []) (program_system_plain p h)
    ∙ listed_plain p h (suc (program_system p)) (program_system p) []

-- ---- enumerations

enumerated_routines : (rs : List Routine) → Each SpokenRoutine rs → each_in in_routine (plain_routines rs) ≡ each_in in_routine rs
enumerated_routines [] h = refl
enumerated_routines (r ∷ rs) h = go (same_name nameless r.name.name) refl (enumerated_routines rs h.1)
  where
    go : (b : Bool) → same_name nameless r.name.name ≡ b → each_in in_routine (plain_routines rs) ≡ each_in in_routine rs → each_in in_routine (if b then plain_routines rs else plain_routine r ∷ plain_routines rs) ≡ each_in in_part r.parts ++ each_in in_routine rs
    go true k e = e ∙ ap (λ ps. each_in in_part ps ++ each_in in_routine rs) (sym (h.0.bare k))
    go false k e = ap (λ (es : List Enumerated). each_in in_part r.parts ++ es) e

enumerated_definition : (v : Definition) → SpokenDefinition v → in_definition (plain_definition v) ≡ in_definition v
enumerated_definition (type_definition t) h = refl
enumerated_definition (system_definition y) h = ap (λ (es : List Enumerated). each_in in_part y.parts ++ es) (enumerated_routines y.routines h.routines)

enumerated_definitions : (ns : List SystemDefinition) → Each (λ n. SpokenDefinition n.value) ns → each_in (λ d. in_definition d.value) (map plain_system_definition ns) ≡ each_in (λ d. in_definition d.value) ns
enumerated_definitions [] h = refl
enumerated_definitions (n ∷ ns) h =
    ap (λ (es : List Enumerated). es ++ each_in (λ d. in_definition d.value) (map plain_system_definition ns)) (enumerated_definition n.value h.0)
    ∙ ap (λ (es : List Enumerated). in_definition n.value ++ es) (enumerated_definitions ns h.1)

enumerated_part : (q : ProgramPart) → SpokenProgramPart q → in_program_part (plain_part q) ≡ in_program_part q
enumerated_part (program_constants at ds) h = refl
enumerated_part (program_types at ns) h = enumerated_definitions ns h
enumerated_part (program_variables at gs) h = refl

enumerated_parts : (qs : List ProgramPart) → Each SpokenProgramPart qs → each_in in_program_part (map plain_part qs) ≡ each_in in_program_part qs
enumerated_parts [] h = refl
enumerated_parts (q ∷ qs) h =
    ap (λ (es : List Enumerated). es ++ each_in in_program_part (map plain_part qs)) (enumerated_part q h.0)
    ∙ ap (λ (es : List Enumerated). in_program_part q ++ es) (enumerated_parts qs h.1)

enumerations_plain : (p : Program) → SpokenProgram p → enumerations_of (plain_program p) ≡ enumerations_of p
enumerations_plain p h =
    ap (λ (es : List Enumerated). es ++ each_in in_routine (plain_routines p.routines)) (enumerated_parts p.parts h.parts)
    ∙ ap (λ (es : List Enumerated). each_in in_program_part p.parts ++ es) (enumerated_routines p.routines h.routines)

abbrev before : List Enumerated → ℕ → ℕ
before es at = before_among at es

pub constants_before_plain : (p : Program) → SpokenProgram p → constants_before (plain_program p) ≡ constants_before p
constants_before_plain p h = ap before (enumerations_plain p h)
