-- No name that is visible where the statements of a program that was read begin has the code 0 at its front.
use Rattle.std.proofs.Common.{◌≡◌, refl, subst, sym, ℕ, suc, pos, Bool, true, false, if◌then◌else◌, List, [], ◌∷◌, ◌++◌, length, Some}
use Rattle.cp_resolved.proofs.Words.{none-some, same_Some, bytes_eq-Decides, Kind, Identifier, Name, nothing_declared, IsWord, AreWords, IsRead, initial_meaning, Each, IsSmallPart, IsSmallProgramPart}
use Rattle.cp_text.specs.declared.token.Kind.TheVariants as kind
use Rattle.cp_text.specs.declared.token.Mark.TheVariants as mark
use Rattle.cp_tree.specs.Syntax.{Simple, enumeration, TypeTerm, simple, array_of, set_type, record_of, FieldGroups, no_fields, more_fields, fields, ConstantDefinition, TypeDefinition, VariableGroup, Part, constants, types, variables, Group, ParameterGroup, RoutineKind, procedure, function, invariants, nameless, Routine, System, Definition, type_definition, system_definition, SystemDefinition, ProgramPart, program_constants, program_types, program_variables, Program}
use Rattle.cp_tree.specs.Spelling.{is_nameless, put_routine_by, put_identifier, put_optional, put_behind, put_all, put_names, put_simple, put_type, put_field_groups, put_more_field_groups, put_constant_definition, put_type_definition, put_variable_group, put_part, put_group, put_parameter_group, put_parameters, put_body, put_routine_kind, put_routine, put_system, put_definition, put_system_definition, put_program_part, spell}
use Rattle.cp_meaning.specs.Types.{Base, Ty, component_of, enumerated}
use Rattle.cp_meaning.specs.Names.{same_name}
use Rattle.cp_meaning.specs.Scopes.{Meaning, constant_meaning, type_meaning, routine_meaning, local_variable, permanent_variable, Scope, find, is_seen, seen_inside}
use Rattle.cp_meaning.specs.Declarations.{names_of, with_constants, simple_in, type_in, fields_in, Block, constant_of, constants_in, types_in, named_variables, with_names, variables_in, part_in, parts_in, Heading, with_group, with_groups, with_parameter_groups, heading_of, routine_in, type_named}
use Rattle.cp_meaning.specs.Systems.{with_routines, system_in, Declared, definition_in, definitions_in, program_part_in, program_parts_in, declared, program_system, own_meaning}
use Rattle.cp_resolved.specs.Openings.{Opening, with_routine, routine_openings, parts_scope, initial_opening, definition_openings, definitions_openings, part_openings, parts_openings, openings_of, meaning_at}
use Rattle.cp_resolved.proofs.declarations.Nameless.{IsNameless, IsKnownBy, IsKnown, EachIn, EachInPart, EachRoutine, indexed_known}
use Rattle.cp_resolved.proofs.declarations.SmallPrograms.{parameters_after, each_small, each_known, group_after, parameter_group_after, kind_after, routine_small, definition_small, program_part_small}
use Rattle.cp_resolved.proofs.Words.{RoutineMeaning}
use Rattle.cp_resolved.proofs.declarations.RoutineVariables.{meaning_holds}
use Rattle.cp_resolved.proofs.frames.FrameCells.{each_both}
use Rattle.cp_resolved.proofs.declarations.SmallTexts.{read_scanned}
use Rattle.cp_resolved.proofs.declarations.SmallTokens.{AreScanned, names_small, optional_small, constant_small, simple_small, type_small, part_small}

-- ---- names that are written, and that of invariants

abbrev pub IsSpelled : Name → Type 0
IsSpelled x = IsWord x × (x ≡ nameless → ⊥)

abbrev pub IsInvariants : Meaning → Type 0
IsInvariants (routine_meaning r) = (r.kind ≡ invariants) × IsNameless r
IsInvariants m = ⊥

abbrev pub AreSpelled : Scope → Type 0
AreSpelled s = Each (λ d. IsWord d.0 × (d.0 ≡ nameless → IsInvariants d.1)) s

pub spelled : (x : Name) (m : Meaning) → IsSpelled x → IsWord x × (x ≡ nameless → IsInvariants m)
spelled x m h = (h.0, λ e. absurd (h.1 e))

nameless_is : (k : RoutineKind) → is_nameless k ≡ true → k ≡ invariants
nameless_is (procedure gs) h = absurd (let bad : false ≡ true = h in cc)
nameless_is (function gs i) h = absurd (let bad : false ≡ true = h in cc)
nameless_is invariants h = refl

-- ---- names of one declaration

more_words : (is : List Identifier) (rest : List Kind) → AreScanned (put_all (put_behind mark.Comma put_identifier) is rest) → Each IsSpelled (names_of is)
more_words [] rest e = tt
more_words (i ∷ is) rest e = (e.1.0, more_words is rest e.1.1)

names_words : (is : List Identifier) (rest : List Kind) → AreScanned (put_names is rest) → Each IsSpelled (names_of is)
names_words [] rest e = tt
names_words (i ∷ is) rest e = (e.0, more_words is rest e.1)

named_words : (xs : List Name) (m : Meaning) (s : Scope) → Each IsSpelled xs → AreSpelled s → AreSpelled (with_names xs m s)
named_words [] m s h w = w
named_words (x ∷ xs) m s h w = named_words xs m ((x, m) ∷ s) h.1 (spelled x m h.0, w)

constants_words : (b : Base) (n : ℕ) (xs : List Name) (s : Scope) → Each IsSpelled xs → AreSpelled s → AreSpelled (with_constants b n xs s)
constants_words b n [] s h w = w
constants_words b n (x ∷ xs) s h w = constants_words b (suc n) xs ((x, constant_meaning b (pos n)) ∷ s) h.1 (spelled x (constant_meaning b (pos n)) h.0, w)

-- ---- types

simple_words : (s : Scope) (t : Simple) (rest : List Kind) → AreScanned (put_simple t rest) → AreSpelled s → AreSpelled (simple_in s t).1
simple_words s (enumeration at is) rest e w = constants_words (enumerated at (names_of is)) 0 (names_of is) s (names_words is (kind.Mark mark.CloseParenthesis ∷ rest) e.1) w
simple_words s _ rest e w = w

mutual
  type_words : (s : Scope) (t : TypeTerm) (rest : List Kind) → AreScanned (put_type t rest) → AreSpelled s → AreSpelled (type_in s t).1
  type_words s (simple at t) rest e w = simple_words s t rest e w
  type_words s (array_of at i t) rest e w =
      let after : List Kind = kind.Mark mark.CloseBracket ∷ kind.Mark mark.Of ∷ put_type t rest in
      type_words (simple_in s i).1 t rest (simple_small i after e.1.1).1.1.1 (simple_words s i after e.1.1 w)
  type_words s (set_type at t) rest e w = simple_words s t rest e.1.1 w
  type_words s (record_of at gs b) rest e w = groups_words s gs (put_optional mark.Semicolon b (kind.Mark mark.End ∷ rest)) e.1 w

  groups_words : (s : Scope) (gs : FieldGroups) (rest : List Kind) → AreScanned (put_field_groups gs rest) → AreSpelled s → AreSpelled (fields_in s gs).1
  groups_words s no_fields rest e w = w
  groups_words s (more_fields (fields is t) gs) rest e w =
      let after : List Kind = put_more_field_groups gs rest in
      let u : AreScanned (put_type t after) = (names_small is (kind.Mark mark.Colon ∷ put_type t after) e).1 in
      more_groups_words (type_in s t).1 gs rest (type_small t after u).1 (type_words s t after u w)

  more_groups_words : (s : Scope) (gs : FieldGroups) (rest : List Kind) → AreScanned (put_more_field_groups gs rest) → AreSpelled s → AreSpelled (fields_in s gs).1
  more_groups_words s no_fields rest e w = w
  more_groups_words s (more_fields (fields is t) gs) rest e w =
      let after : List Kind = put_more_field_groups gs rest in
      let u : AreScanned (put_type t after) = (names_small is (kind.Mark mark.Colon ∷ put_type t after) e.1).1 in
      more_groups_words (type_in s t).1 gs rest (type_small t after u).1 (type_words s t after u w)

-- ---- parts

constant_words : (s : Scope) (ds : List ConstantDefinition) (rest : List Kind) → AreScanned (put_all put_constant_definition ds rest) → AreSpelled s → AreSpelled (constants_in s ds)
constant_words s [] rest e w = w
constant_words s (d ∷ ds) rest e w =
    let after : List Kind = kind.Mark mark.Semicolon ∷ put_all put_constant_definition ds rest in
    constant_words ((d.name.name, constant_meaning (constant_of s d.value).0 (constant_of s d.value).1) ∷ s) ds rest (constant_small d.value.kind after e.1.1).1.1 (spelled d.name.name (constant_meaning (constant_of s d.value).0 (constant_of s d.value).1) e.0, w)

types_words : (s : Scope) (ds : List TypeDefinition) (rest : List Kind) → AreScanned (put_all put_type_definition ds rest) → AreSpelled s → AreSpelled (types_in s ds)
types_words s [] rest e w = w
types_words s (d ∷ ds) rest e w =
    let after : List Kind = kind.Mark mark.Semicolon ∷ put_all put_type_definition ds rest in
    types_words ((d.name.name, type_meaning (type_in s d.value).0) ∷ (type_in s d.value).1) ds rest (type_small d.value after e.1.1).1.1 (spelled d.name.name (type_meaning (type_in s d.value).0) e.0, type_words s d.value after e.1.1 w)

variables_words : (m : Ty → Meaning) (b : Block) (gs : List VariableGroup) (rest : List Kind) → AreScanned (put_all put_variable_group gs rest) → AreSpelled b.scope → AreSpelled (variables_in m b gs).scope
variables_words m b [] rest e w = w
variables_words m b (g ∷ gs) rest e w =
    let after : List Kind = kind.Mark mark.Semicolon ∷ put_all put_variable_group gs rest in
    let names : List Kind = kind.Mark mark.Colon ∷ put_type g.variable_type after in
    let t : Ty × Scope = type_in b.scope g.variable_type in
    let u : AreScanned (put_type g.variable_type after) = (names_small g.names names e).1 in
    let c : Block = record { variables = b.variables ++ named_variables (names_of g.names) t.0; scope = with_names (names_of g.names) (m t.0) t.1 } in
    variables_words m c gs rest (type_small g.variable_type after u).1.1 (named_words (names_of g.names) (m t.0) t.1 (names_words g.names names e) (type_words b.scope g.variable_type after u w))

part_words : (m : Ty → Meaning) (b : Block) (p : Part) (rest : List Kind) → AreScanned (put_part p rest) → AreSpelled b.scope → AreSpelled (part_in m b p).scope
part_words m b (constants at ds) rest e w = constant_words b.scope ds rest e.1 w
part_words m b (types at ds) rest e w = types_words b.scope ds rest e.1 w
part_words m b (variables at gs) rest e w = variables_words m b gs rest e.1 w

parts_words : (m : Ty → Meaning) (b : Block) (ps : List Part) (rest : List Kind) → AreScanned (put_all put_part ps rest) → AreSpelled b.scope → AreSpelled (parts_in m b ps).scope
parts_words m b [] rest e w = w
parts_words m b (p ∷ ps) rest e w = parts_words m (part_in m b p) ps rest (part_small p (put_all put_part ps rest) e).1 (part_words m b p (put_all put_part ps rest) e w)

-- ---- parameters

group_words : (m : Ty → Meaning) (b : Bool) (h : Heading) (g : Group) (rest : List Kind) → AreScanned (put_group g rest) → AreSpelled h.scope → AreSpelled (with_group m b h g).scope
group_words m b h g rest e w = named_words (names_of g.names) (m (type_named h.scope g.type_name.name)) h.scope (names_words g.names (kind.Mark mark.Colon ∷ put_identifier g.type_name rest) e) w

more_parameters : (m : Ty → Meaning) (h : Heading) (gs : List Group) (rest : List Kind) → AreScanned (put_all (put_behind mark.Semicolon put_group) gs rest) → AreSpelled h.scope → AreSpelled (with_groups m h gs).scope
more_parameters m h [] rest e w = w
more_parameters m h (g ∷ gs) rest e w =
    let after : List Kind = put_all (put_behind mark.Semicolon put_group) gs rest in
    more_parameters m (with_group m false h g) gs rest (group_after g after e.1) (group_words m false h g after e.1 w)

parameters_words : (m : Ty → Meaning) (h : Heading) (gs : List Group) (rest : List Kind) → AreScanned (put_parameters put_group gs rest) → AreSpelled h.scope → AreSpelled (with_groups m h gs).scope
parameters_words m h [] rest e w = w
parameters_words m h (g ∷ gs) rest e w =
    let last : List Kind = kind.Mark mark.CloseParenthesis ∷ rest in
    let after : List Kind = put_all (put_behind mark.Semicolon put_group) gs last in
    more_parameters m (with_group m false h g) gs last (group_after g after e.1) (group_words m false h g after e.1 w)

one_group_words : (h : Heading) (g : ParameterGroup) (rest : List Kind) → AreScanned (put_parameter_group g rest) → AreSpelled h.scope → AreSpelled (with_group local_variable g.is_var h g.group).scope
one_group_words h g rest e w = group_words local_variable g.is_var h g.group rest (optional_small mark.Var g.is_var (put_group g.group rest) e) w

more_var_parameters : (h : Heading) (gs : List ParameterGroup) (rest : List Kind) → AreScanned (put_all (put_behind mark.Semicolon put_parameter_group) gs rest) → AreSpelled h.scope → AreSpelled (with_parameter_groups h gs).scope
more_var_parameters h [] rest e w = w
more_var_parameters h (g ∷ gs) rest e w =
    let after : List Kind = put_all (put_behind mark.Semicolon put_parameter_group) gs rest in
    more_var_parameters (with_group local_variable g.is_var h g.group) gs rest (parameter_group_after g after e.1) (one_group_words h g after e.1 w)

var_parameters_words : (h : Heading) (gs : List ParameterGroup) (rest : List Kind) → AreScanned (put_parameters put_parameter_group gs rest) → AreSpelled h.scope → AreSpelled (with_parameter_groups h gs).scope
var_parameters_words h [] rest e w = w
var_parameters_words h (g ∷ gs) rest e w =
    let last : List Kind = kind.Mark mark.CloseParenthesis ∷ rest in
    let after : List Kind = put_all (put_behind mark.Semicolon put_parameter_group) gs last in
    more_var_parameters (with_group local_variable g.is_var h g.group) gs last (parameter_group_after g after e.1) (one_group_words h g after e.1 w)

heading_words : (s : Scope) (k : RoutineKind) (rest : List Kind) → AreScanned (put_routine_kind k rest) → AreSpelled s → AreSpelled (heading_of s k).scope
heading_words s (procedure gs) rest e w = var_parameters_words (record { parameters = []; scope = s }) gs rest e w
heading_words s (function gs i) rest e w = parameters_words local_variable (record { parameters = []; scope = s }) gs (kind.Mark mark.Colon ∷ put_identifier i rest) e w
heading_words s invariants rest e w = w

nameless_heading : (s : Scope) (k : RoutineKind) → is_nameless k ≡ true → AreSpelled s → AreSpelled (heading_of s k).scope
nameless_heading s (procedure gs) h w = absurd (let bad : false ≡ true = h in cc)
nameless_heading s (function gs i) h w = absurd (let bad : false ≡ true = h in cc)
nameless_heading s invariants h w = w

-- ---- routines

record RoutineWords (s : Scope) (r : Routine) : Type 0 where
  pub name : AreSpelled (with_routine s r)
  pub scope : AreSpelled (routine_in (with_routine s r) r).scope

routine_by : (s : Scope) (b : Bool) (r : Routine) (rest : List Kind) → is_nameless r.kind ≡ b → IsKnownBy b r → AreScanned (put_routine_by b r rest) → AreSpelled s → RoutineWords s r
routine_by s true r rest is k e w =
    let name : AreSpelled (with_routine s r) = ((subst IsWord (sym k.name) tt, λ e. (nameless_is r.kind is, k)), w) in
    let b : Block = record { variables = []; scope = (heading_of (with_routine s r) r.kind).scope } in
    record { name = name; scope = subst (λ (ps : List Part). AreSpelled (parts_in local_variable b ps).scope) (sym k.no_parts) (nameless_heading (with_routine s r) r.kind is name) }
routine_by s false r rest is k e w =
    let body : List Kind = put_body r.body (kind.Mark mark.Semicolon ∷ rest) in
    let after : List Kind = kind.Mark mark.Semicolon ∷ put_all put_part r.parts body in
    let named : AreScanned (put_identifier r.name (put_routine_kind r.kind after)) = optional_small mark.Entry r.is_entry (put_identifier r.name (put_routine_kind r.kind after)) e.1 in
    let name : AreSpelled (with_routine s r) = (spelled r.name.name (routine_meaning r) named.0, w) in
    let b : Block = record { variables = []; scope = (heading_of (with_routine s r) r.kind).scope } in
    record { name = name; scope = parts_words local_variable b r.parts body (kind_after r.kind after named.1).1 (heading_words (with_routine s r) r.kind after named.1 name) }

routine_words : (s : Scope) (r : Routine) (rest : List Kind) → IsKnown r → AreScanned (put_routine r rest) → AreSpelled s → RoutineWords s r
routine_words s r rest k e w = routine_by s (is_nameless r.kind) r rest refl k e w

abbrev pub AreWordsOf : Opening → Type 0
AreWordsOf o = AreSpelled o.meaning.scope

-- the openings, and what is visible after all
record RoutinesWords (owner : ℕ) (s : Scope) (rs : List Routine) : Type 0 where
  pub openings : Each AreWordsOf (routine_openings owner s rs)
  pub scope : AreSpelled (with_routines s rs)

routines_words : (owner : ℕ) (s : Scope) (rs : List Routine) (rest : List Kind) → Each IsKnown rs → AreScanned (put_all put_routine rs rest) → AreSpelled s → RoutinesWords owner s rs
routines_words owner s [] rest k e w = record { openings = tt; scope = w }
routines_words owner s (r ∷ rs) rest k e w =
    let after : List Kind = put_all put_routine rs rest in
    let one : RoutineWords s r = routine_words s r after k.0 e w in
    let more : RoutinesWords owner (with_routine s r) rs = routines_words owner (with_routine s r) rs rest k.1 (routine_small r after k.0 e).1 one.name in
    record { openings = (one.scope, more.openings); scope = more.scope }

-- ---- system types

seen_words : (s : Scope) → AreSpelled s → AreSpelled (seen_inside s)
seen_words [] w = tt
seen_words (d ∷ ds) w = go (is_seen d.1) (seen_words ds w.1)
  where
    go : (b : Bool) → AreSpelled (seen_inside ds) → AreSpelled (if b then d ∷ seen_inside ds else seen_inside ds)
    go true rest = (w.0, rest)
    go false rest = rest

system_words : (owner : ℕ) (s : Scope) (y : System) (rest : List Kind) → Each IsKnown y.routines → AreScanned (put_system y rest) → AreSpelled s → Each AreWordsOf (routine_openings owner (parts_scope s y) y.routines ++ initial_opening owner (system_in s y) ∷ [])
system_words owner s y rest k e w =
    let last : List Kind = put_body y.body rest in
    let routines : List Kind = put_all put_routine y.routines last in
    let parts : List Kind = put_all put_part y.parts routines in
    let after : List Kind = put_optional mark.Semicolon y.has_semicolon parts in
    let h : Heading = with_groups permanent_variable (record { parameters = []; scope = s }) y.parameters in
    let u : AreScanned parts = optional_small mark.Semicolon y.has_semicolon parts (parameters_after put_group group_after y.parameters after e.1) in
    let b : AreSpelled (parts_scope s y) = parts_words permanent_variable (record { variables = []; scope = h.scope }) y.parts routines u (parameters_words permanent_variable (record { parameters = []; scope = s }) y.parameters after e.1 w) in
    let r : RoutinesWords owner (parts_scope s y) y.routines = routines_words owner (parts_scope s y) y.routines last k (each_small put_part IsSmallPart part_small y.parts routines u).1 b in
    each_both AreWordsOf (routine_openings owner (parts_scope s y) y.routines) (initial_opening owner (system_in s y) ∷ []) r.openings (r.scope, tt)

-- ---- the program

record DefinedWords (os : List Opening) (d : Declared) : Type 0 where
  pub openings : Each AreWordsOf os
  pub scope : AreSpelled d.scope

definition_words : (d : Declared) (n : SystemDefinition) (v : Definition) (rest : List Kind) → IsSpelled n.name.name → EachIn IsKnown v → AreScanned (put_definition v rest) → AreSpelled d.scope → DefinedWords (definition_openings d v) (definition_in d n v)
definition_words d n (type_definition t) rest x k e w = record { openings = tt; scope = (spelled n.name.name (type_meaning (type_in d.scope t).0) x, type_words d.scope t rest e w) }
definition_words d n (system_definition y) rest x k e w = record { openings = system_words (length d.systems) (seen_inside d.scope) y rest k e (seen_words d.scope w); scope = (spelled n.name.name (type_meaning (component_of (length d.systems))) x, w) }

definitions_words : (d : Declared) (ns : List SystemDefinition) (rest : List Kind) → Each (λ n. EachIn IsKnown n.value) ns → AreScanned (put_all put_system_definition ns rest) → AreSpelled d.scope → DefinedWords (definitions_openings d ns) (definitions_in d ns)
definitions_words d [] rest k e w = record { openings = tt; scope = w }
definitions_words d (n ∷ ns) rest k e w =
    let after : List Kind = kind.Mark mark.Semicolon ∷ put_all put_system_definition ns rest in
    let c : Declared = definition_in d n n.value in
    let one : DefinedWords (definition_openings d n.value) c = definition_words d n n.value after e.0 k.0 e.1.1 w in
    let more : DefinedWords (definitions_openings c ns) (definitions_in c ns) = definitions_words c ns rest k.1 (definition_small n.value after k.0 e.1.1).1.1 one.scope in
    record { openings = each_both AreWordsOf (definition_openings d n.value) (definitions_openings c ns) one.openings more.openings; scope = more.scope }

program_part_words : (d : Declared) (q : ProgramPart) (rest : List Kind) → EachInPart IsKnown q → AreScanned (put_program_part q rest) → AreSpelled d.scope → DefinedWords (part_openings d q) (program_part_in d q)
program_part_words d (program_constants at ds) rest k e w = record { openings = tt; scope = constant_words d.scope ds rest e.1 w }
program_part_words d (program_types at ns) rest k e w = definitions_words d ns rest k e.1 w
program_part_words d (program_variables at gs) rest k e w = record { openings = tt; scope = variables_words permanent_variable (record { variables = d.variables; scope = d.scope }) gs rest e.1 w }

program_parts_words : (d : Declared) (qs : List ProgramPart) (rest : List Kind) → Each (EachInPart IsKnown) qs → AreScanned (put_all put_program_part qs rest) → AreSpelled d.scope → DefinedWords (parts_openings d qs) (program_parts_in d qs)
program_parts_words d [] rest k e w = record { openings = tt; scope = w }
program_parts_words d (q ∷ qs) rest k e w =
    let after : List Kind = put_all put_program_part qs rest in
    let c : Declared = program_part_in d q in
    let one : DefinedWords (part_openings d q) c = program_part_words d q after k.0 e w in
    let more : DefinedWords (parts_openings c qs) (program_parts_in c qs) = program_parts_words c qs rest k.1 (program_part_small q after k.0 e).1 one.scope in
    record { openings = each_both AreWordsOf (part_openings d q) (parts_openings c qs) one.openings more.openings; scope = more.scope }

pub record ProgramWords (p : Program) : Type 0 where
  pub openings : Each AreWordsOf (openings_of p)
  pub own : AreSpelled (own_meaning (declared p) p).scope

pub program_words : (p : Program) → EachRoutine IsKnown p → AreScanned (spell p) → ProgramWords p
program_words p k e =
    let last : List Kind = put_body p.body (kind.Mark mark.Period ∷ []) in
    let routines : List Kind = put_all put_routine p.routines last in
    let d : Declared = declared p in
    let ps : DefinedWords (parts_openings nothing_declared p.parts) d = program_parts_words nothing_declared p.parts routines k.0 e ((tt, λ e. cc), ((tt, λ e. cc), ((tt, λ e. cc), ((tt, λ e. cc), ((tt, λ e. cc), ((tt, λ e. cc), ((tt, λ e. cc), ((tt, λ e. cc), ((tt, λ e. cc), ((tt, λ e. cc), ((tt, λ e. cc), ((tt, λ e. cc), ((tt, λ e. cc), ((tt, λ e. cc), ((tt, λ e. cc), tt))))))))))))))) in
    let rs : RoutinesWords (program_system p) d.scope p.routines = routines_words (program_system p) d.scope p.routines last k.1 (each_known put_program_part (EachInPart IsKnown) IsSmallProgramPart program_part_small p.parts routines k.0 e).1 ps.scope in
    let own : Opening = initial_opening (program_system p) (own_meaning d p) in
    record {
      openings = each_both AreWordsOf (parts_openings nothing_declared p.parts) (routine_openings (program_system p) d.scope p.routines ++ own ∷ []) ps.openings (each_both AreWordsOf (routine_openings (program_system p) d.scope p.routines) (own ∷ []) rs.openings (rs.scope, tt));
      own = rs.scope;
    }

pub words_of : (s : Scope) → AreSpelled s → AreWords s
words_of [] w = tt
words_of (d ∷ ds) w = (w.0.0, words_of ds w.1)

pub spelled_at : (p : Program) → IsRead p → (n : ℕ) → AreSpelled (meaning_at p n).scope
spelled_at p h n =
    let w : ProgramWords p = program_words p (indexed_known p h.proper.indexed) (read_scanned p h) in
    meaning_holds (λ (m : RoutineMeaning). AreSpelled m.scope) (initial_meaning (own_meaning (declared p) p)) (openings_of p) n w.openings w.own

pub read_words : (p : Program) → IsRead p → (n : ℕ) → AreWords (meaning_at p n).scope
read_words p h n = words_of (meaning_at p n).scope (spelled_at p h n)

-- ---- what a check calls

pub invariants_found : (s : Scope) (r : Routine) → AreSpelled s → find nameless s ≡ Some (routine_meaning r) → IsInvariants (routine_meaning r)
invariants_found [] r w e = absurd (none-some (routine_meaning r) e)
invariants_found (d ∷ ds) r w e = go (same_name nameless d.0) refl (invariants_found ds r w.1) e
  where
    go : (b : Bool) → same_name nameless d.0 ≡ b → (find nameless ds ≡ Some (routine_meaning r) → IsInvariants (routine_meaning r)) → (if b then Some d.1 else find nameless ds) ≡ Some (routine_meaning r) → IsInvariants (routine_meaning r)
    go true is before f = subst IsInvariants (same_Some d.1 (routine_meaning r) f) (w.0.1 (sym ((bytes_eq-Decides nameless d.0).0 is)))
    go false is before f = before f

-- the routine without a name that is visible where statements begin is that of invariants
pub read_checks : (p : Program) → IsRead p → (n : ℕ) (r : Routine) → find nameless (meaning_at p n).scope ≡ Some (routine_meaning r) → r.kind ≡ invariants
read_checks p h n r e = (invariants_found (meaning_at p n).scope r (spelled_at p h n) e).0

pub read_nameless : (p : Program) → IsRead p → (n : ℕ) (r : Routine) → find nameless (meaning_at p n).scope ≡ Some (routine_meaning r) → IsNameless r
read_nameless p h n r e = (invariants_found (meaning_at p n).scope r (spelled_at p h n) e).1
