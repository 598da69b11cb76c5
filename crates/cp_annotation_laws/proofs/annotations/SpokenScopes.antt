-- What is visible in a program whose names are written: the parts of each routine are written too.
use Rattle.std.proofs.Common.{ℕ, zero, suc, pos, Bool, true, false, if◌then◌else◌, List, [], ◌∷◌, ◌++◌, length}
use Rattle.std.specs.Prelude.{slice_get}
use Rattle.cp_tree.specs.Syntax.{Simple, type_name, enumeration, subrange, TypeTerm, simple, array_of, set_type, record_of, FieldGroups, no_fields, more_fields, fields, ConstantDefinition, TypeDefinition, VariableGroup, Part, constants, types, variables, Group, ParameterGroup, RoutineKind, procedure, function, invariants, Routine, System, Definition, type_definition, system_definition, SystemDefinition, ProgramPart, program_constants, program_types, program_variables, Program}
use Rattle.cp_meaning.specs.Names.{Name}
use Rattle.cp_meaning.specs.Types.{Base, Ty, enumerated}
use Rattle.cp_meaning.specs.Scopes.{Meaning, constant_meaning, type_meaning, local_variable, permanent_variable, routine_meaning, predeclared, Scope, is_seen, seen_inside}
use Rattle.cp_meaning.specs.Declarations.{names_of, with_constants, simple_in, type_in, fields_in, constant_of, Block, constants_in, types_in, named_variables, with_names, variables_in, part_in, parts_in, Heading, with_group, with_groups, with_parameter_groups, heading_of, type_named, RoutineMeaning, routine_in}
use Rattle.cp_meaning.specs.Systems.{SystemMeaning, with_routines, system_in, Declared, definition_in, definitions_in, program_part_in, program_parts_in, declared, program_system, own_meaning, or_own, system_of}
use Rattle.cp_resolved.specs.Fit.{nothing_declared}
use Rattle.cp_resolved.specs.Openings.{Opening, with_routine, routine_openings, parts_scope, initial_opening, definition_openings, definitions_openings, part_openings, parts_openings, openings_of, meaning_at}
use Rattle.cp_resolved.specs.Resolved.{initial_meaning}
use Rattle.cp_resolved.specs.Small.{Each}
use Rattle.cp_resolved.proofs.declarations.RoutineVariables.{meaning_holds}
use Rattle.cp_resolved.proofs.frames.FrameCells.{each_both}
use Rattle.cp_annotation_laws.proofs.annotations.Spoken.{SpokenMeaning, SpokenScope, SpokenRoutine, SpokenSystem, SpokenDefinition, SpokenProgramPart, SpokenProgram}

-- ---- declarations that are no routines

constants_keep : (b : Base) (n : ℕ) (xs : List Name) (s : Scope) → SpokenScope s → SpokenScope (with_constants b n xs s)
constants_keep b n [] s w = w
constants_keep b n (x ∷ xs) s w = constants_keep b (suc n) xs ((x, constant_meaning b (pos n)) ∷ s) (tt, w)

simple_keeps : (s : Scope) (t : Simple) → SpokenScope s → SpokenScope (simple_in s t).1
simple_keeps s (enumeration at is) w = constants_keep (enumerated at (names_of is)) 0 (names_of is) s w
simple_keeps s (type_name at x) w = w
simple_keeps s (subrange at c d) w = w

mutual
  type_keeps : (s : Scope) (t : TypeTerm) → SpokenScope s → SpokenScope (type_in s t).1
  type_keeps s (simple at t) w = simple_keeps s t w
  type_keeps s (array_of at i t) w = type_keeps (simple_in s i).1 t (simple_keeps s i w)
  type_keeps s (set_type at t) w = simple_keeps s t w
  type_keeps s (record_of at gs b) w = fields_keep s gs w

  fields_keep : (s : Scope) (gs : FieldGroups) → SpokenScope s → SpokenScope (fields_in s gs).1
  fields_keep s no_fields w = w
  fields_keep s (more_fields (fields is t) gs) w = fields_keep (type_in s t).1 gs (type_keeps s t w)

constant_part_keeps : (s : Scope) (ds : List ConstantDefinition) → SpokenScope s → SpokenScope (constants_in s ds)
constant_part_keeps s [] w = w
constant_part_keeps s (d ∷ ds) w = constant_part_keeps ((d.name.name, constant_meaning (constant_of s d.value).0 (constant_of s d.value).1) ∷ s) ds (tt, w)

types_keep : (s : Scope) (ds : List TypeDefinition) → SpokenScope s → SpokenScope (types_in s ds)
types_keep s [] w = w
types_keep s (d ∷ ds) w = types_keep ((d.name.name, type_meaning (type_in s d.value).0) ∷ (type_in s d.value).1) ds (tt, type_keeps s d.value w)

module _ (m : Ty → Meaning) (free : (t : Ty) → SpokenMeaning (m t)) where
  names_keep : (xs : List Name) (t : Ty) (s : Scope) → SpokenScope s → SpokenScope (with_names xs (m t) s)
  names_keep [] t s w = w
  names_keep (x ∷ xs) t s w = names_keep xs t ((x, m t) ∷ s) (free t, w)

  pub variables_keep : (b : Block) (gs : List VariableGroup) → SpokenScope b.scope → SpokenScope (variables_in m b gs).scope
  variables_keep b [] w = w
  variables_keep b (g ∷ gs) w =
      let t : Ty × Scope = type_in b.scope g.variable_type in
      variables_keep (record { variables = b.variables ++ named_variables (names_of g.names) t.0; scope = with_names (names_of g.names) (m t.0) t.1 }) gs (names_keep (names_of g.names) t.0 t.1 (type_keeps b.scope g.variable_type w))

  part_keeps : (b : Block) (p : Part) → SpokenScope b.scope → SpokenScope (part_in m b p).scope
  part_keeps b (constants at ds) w = constant_part_keeps b.scope ds w
  part_keeps b (types at ds) w = types_keep b.scope ds w
  part_keeps b (variables at gs) w = variables_keep b gs w

  pub parts_keep : (b : Block) (ps : List Part) → SpokenScope b.scope → SpokenScope (parts_in m b ps).scope
  parts_keep b [] w = w
  parts_keep b (p ∷ ps) w = parts_keep (part_in m b p) ps (part_keeps b p w)

  group_keeps : (v : Bool) (h : Heading) (g : Group) → SpokenScope h.scope → SpokenScope (with_group m v h g).scope
  group_keeps v h g w = names_keep (names_of g.names) (type_named h.scope g.type_name.name) h.scope w

  pub groups_keep : (h : Heading) (gs : List Group) → SpokenScope h.scope → SpokenScope (with_groups m h gs).scope
  groups_keep h [] w = w
  groups_keep h (g ∷ gs) w = groups_keep (with_group m false h g) gs (group_keeps false h g w)

parameter_groups_keep : (h : Heading) (gs : List ParameterGroup) → SpokenScope h.scope → SpokenScope (with_parameter_groups h gs).scope
parameter_groups_keep h [] w = w
parameter_groups_keep h (g ∷ gs) w = parameter_groups_keep (with_group local_variable g.is_var h g.group) gs (group_keeps local_variable (λ t. tt) g.is_var h g.group w)

-- ---- routines

heading_keeps : (s : Scope) (k : RoutineKind) → SpokenScope s → SpokenScope (heading_of s k).scope
heading_keeps s (procedure gs) w = parameter_groups_keep (record { parameters = []; scope = s }) gs w
heading_keeps s (function gs i) w = groups_keep local_variable (λ t. tt) (record { parameters = []; scope = s }) gs w
heading_keeps s invariants w = w

routine_keeps : (s : Scope) (r : Routine) → SpokenScope s → SpokenScope (routine_in s r).scope
routine_keeps s r w = parts_keep local_variable (λ t. tt) (record { variables = []; scope = (heading_of s r.kind).scope }) r.parts (heading_keeps s r.kind w)

routines_keep : (s : Scope) (rs : List Routine) → Each SpokenRoutine rs → SpokenScope s → SpokenScope (with_routines s rs)
routines_keep s [] h w = w
routines_keep s (r ∷ rs) h w = routines_keep ((r.name.name, routine_meaning r) ∷ s) rs h.1 (h.0.parts, w)

abbrev IsSeenBy : Opening → Type 0
IsSeenBy o = SpokenScope o.meaning.scope

routines_open : (owner : ℕ) (s : Scope) (rs : List Routine) → Each SpokenRoutine rs → SpokenScope s → Each IsSeenBy (routine_openings owner s rs)
routines_open owner s [] h w = tt
routines_open owner s (r ∷ rs) h w =
    let now : SpokenScope (with_routine s r) = (h.0.parts, w) in
    (routine_keeps (with_routine s r) r now, routines_open owner (with_routine s r) rs h.1 now)

-- ---- system types

seen_keeps : (s : Scope) → SpokenScope s → SpokenScope (seen_inside s)
seen_keeps [] w = tt
seen_keeps (d ∷ s) w = go (is_seen d.1) (seen_keeps s w.1)
  where
    go : (b : Bool) → SpokenScope (seen_inside s) → SpokenScope (if b then d ∷ seen_inside s else seen_inside s)
    go true rest = (w.0, rest)
    go false rest = rest

inner_keeps : (s : Scope) (y : System) → SpokenScope s → SpokenScope (parts_scope s y)
inner_keeps s y w =
    parts_keep permanent_variable (λ t. tt) (record { variables = []; scope = (with_groups permanent_variable (record { parameters = []; scope = s }) y.parameters).scope }) y.parts
    (groups_keep permanent_variable (λ t. tt) (record { parameters = []; scope = s }) y.parameters w)

system_keeps : (s : Scope) (y : System) → SpokenSystem y → SpokenScope s → SpokenScope (system_in s y).scope
system_keeps s y h w = routines_keep (parts_scope s y) y.routines h.routines (inner_keeps s y w)

-- ---- the program

record DeclaredKeeps (os : List Opening) (d : Declared) : Type 0 where
  openings : Each IsSeenBy os
  systems : Each (λ (m : SystemMeaning). SpokenScope m.scope) d.systems
  scope : SpokenScope d.scope

abbrev AreSystems : List SystemMeaning → Type 0
AreSystems ms = Each (λ (m : SystemMeaning). SpokenScope m.scope) ms

abbrev DeclaredSpoken : Declared → Type 0
DeclaredSpoken d = AreSystems d.systems × SpokenScope d.scope

definition_keeps : (d : Declared) (n : SystemDefinition) (v : Definition) → SpokenDefinition v → DeclaredSpoken d → DeclaredKeeps (definition_openings d v) (definition_in d n v)
definition_keeps d n (type_definition t) h w = record { openings = tt; systems = w.0; scope = (tt, type_keeps d.scope t w.1) }
definition_keeps d n (system_definition y) h w =
    let s : Scope = seen_inside d.scope in
    let inside : SpokenScope s = seen_keeps d.scope w.1 in
    let own : SpokenScope (system_in s y).scope = system_keeps s y h inside in
    record {
      openings = each_both IsSeenBy (routine_openings (length d.systems) (parts_scope s y) y.routines) (initial_opening (length d.systems) (system_in s y) ∷ []) (routines_open (length d.systems) (parts_scope s y) y.routines h.routines (inner_keeps s y inside)) (own, tt);
      systems = each_both (λ (m : SystemMeaning). SpokenScope m.scope) d.systems (system_in s y ∷ []) w.0 (own, tt);
      scope = (tt, w.1);
    }

definitions_keep : (d : Declared) (ns : List SystemDefinition) → Each (λ n. SpokenDefinition n.value) ns → DeclaredSpoken d → DeclaredKeeps (definitions_openings d ns) (definitions_in d ns)
definitions_keep d [] h w = record { openings = tt; systems = w.0; scope = w.1 }
definitions_keep d (n ∷ ns) h w =
    let one = definition_keeps d n n.value h.0 w in
    let more = definitions_keep (definition_in d n n.value) ns h.1 (one.systems, one.scope) in
    record { openings = each_both IsSeenBy (definition_openings d n.value) (definitions_openings (definition_in d n n.value) ns) one.openings more.openings; systems = more.systems; scope = more.scope }

program_part_keeps : (d : Declared) (q : ProgramPart) → SpokenProgramPart q → DeclaredSpoken d → DeclaredKeeps (part_openings d q) (program_part_in d q)
program_part_keeps d (program_constants at ds) h w = record { openings = tt; systems = w.0; scope = constant_part_keeps d.scope ds w.1 }
program_part_keeps d (program_types at ns) h w = definitions_keep d ns h w
program_part_keeps d (program_variables at gs) h w = record { openings = tt; systems = w.0; scope = variables_keep permanent_variable (λ t. tt) (record { variables = d.variables; scope = d.scope }) gs w.1 }

program_parts_keep : (d : Declared) (qs : List ProgramPart) → Each SpokenProgramPart qs → DeclaredSpoken d → DeclaredKeeps (parts_openings d qs) (program_parts_in d qs)
program_parts_keep d [] h w = record { openings = tt; systems = w.0; scope = w.1 }
program_parts_keep d (q ∷ qs) h w =
    let one = program_part_keeps d q h.0 w in
    let more = program_parts_keep (program_part_in d q) qs h.1 (one.systems, one.scope) in
    record { openings = each_both IsSeenBy (part_openings d q) (parts_openings (program_part_in d q) qs) one.openings more.openings; systems = more.systems; scope = more.scope }

predeclared_spoken : SpokenScope predeclared
predeclared_spoken = (tt, (tt, (tt, (tt, (tt, (tt, (tt, (tt, (tt, (tt, (tt, (tt, (tt, (tt, (tt, tt)))))))))))))))

module _ (p : Program) (h : SpokenProgram p) where
  all : DeclaredKeeps (parts_openings nothing_declared p.parts) (declared p)
  all = program_parts_keep nothing_declared p.parts h.parts (tt, predeclared_spoken)

  own : SpokenScope (own_meaning (declared p) p).scope
  own = routines_keep (declared p).scope p.routines h.routines all.scope

  openings : Each IsSeenBy (openings_of p)
  openings =
      each_both IsSeenBy (parts_openings nothing_declared p.parts) (routine_openings (program_system p) (declared p).scope p.routines ++ initial_opening (program_system p) (own_meaning (declared p) p) ∷ []) all.openings
      (each_both IsSeenBy (routine_openings (program_system p) (declared p).scope p.routines) (initial_opening (program_system p) (own_meaning (declared p) p) ∷ []) (routines_open (program_system p) (declared p).scope p.routines h.routines all.scope) (own, tt))

  pub scopes_spoken : (n : ℕ) → SpokenScope (meaning_at p n).scope
  scopes_spoken n = meaning_holds (λ (m : RoutineMeaning). SpokenScope m.scope) (initial_meaning (own_meaning (declared p) p)) (openings_of p) n openings own

  one_of : (last : SystemMeaning) (ms : List SystemMeaning) (k : ℕ) → SpokenScope last.scope → AreSystems ms → SpokenScope (or_own last (slice_get ms k)).scope
  one_of last [] k w ws = w
  one_of last (m ∷ ms) zero w ws = ws.0
  one_of last (m ∷ ms) (suc k) w ws = one_of last ms k w ws.1

  pub systems_spoken : (k : ℕ) → SpokenScope (system_of p k).scope
  systems_spoken k = one_of (own_meaning (declared p) p) (declared p).systems k own all.systems
