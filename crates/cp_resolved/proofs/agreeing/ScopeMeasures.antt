-- What a scope tells of where it stands: how many system types are declared before, and the latest routine.
use Rattle.std.proofs.Common.{◌≡◌, ◌∙◌, ℕ, suc, ◌<◌, ◌≤◌, Bool, true, false, if◌then◌else◌, List, [], ◌∷◌, ◌++◌, length, Option, Some, None, ap, sym, refl, subst, arith, length-append}
use Rattle.cp_resolved.proofs.Words.{nat_lt, ltb-true, ltb-false, Name, same_name, Base, Ty, component_of, with_routine, parts_scope}
use Rattle.cp_tree.specs.Syntax.{Simple, type_name, enumeration, subrange, TypeTerm, simple, array_of, set_type, record_of, FieldGroups, no_fields, more_fields, FieldGroup, fields, ConstantDefinition, TypeDefinition, VariableGroup, Part, constants, types, variables, Group, ParameterGroup, RoutineKind, procedure, function, invariants, Routine, System, Definition, type_definition, system_definition, SystemDefinition, ProgramPart, program_constants, program_types, program_variables}
use Rattle.cp_meaning.specs.Scopes.{Meaning, constant_meaning, type_meaning, local_variable, permanent_variable, routine_meaning, standard_meaning, Scope, seen_inside}
use Rattle.cp_meaning.specs.Declarations.{type_named, names_of, with_constants, simple_in, type_in, fields_in, group_in, Block, constant_of, constants_in, types_in, named_variables, with_names, variables_in, part_in, parts_in, Heading, with_group, with_groups, with_parameter_groups, heading_of, routine_in}
use Rattle.cp_meaning.specs.Systems.{with_routines, system_in, Declared, definition_in, definitions_in, program_part_in, program_parts_in}

-- ---- measures

-- one more than the greatest number of a system type
abbrev height_with : Ty → ℕ → ℕ
height_with (component_of i) h = if nat_lt i h then h else suc i
height_with t h = h

abbrev pub Measure : Type 0
Measure = ℕ × Option Routine

abbrev pub measure_with : Meaning → Measure → Measure
measure_with (type_meaning t) a = (height_with t a.0, a.1)
measure_with (routine_meaning r) a = (a.0, Some r)
measure_with m a = a

abbrev pub measure : Scope → Measure
measure [] = (0, None)
measure (d ∷ ds) = measure_with d.1 (measure ds)

-- the type is of one of the first system types, if it is one
abbrev IsLow : ℕ → Ty → Type 0
IsLow h (component_of i) = i < h
IsLow h t = Unit {0}

low_height : (h : ℕ) (t : Ty) → IsLow h t → height_with t h ≡ h
low_height h (component_of i) low = go (nat_lt i h) refl
  where
    go : (b : Bool) → nat_lt i h ≡ b → (if b then h else suc i) ≡ h
    go true e = refl
    go false e = let le = ltb-false i h e in omega (arith, le, low)
low_height h _ low = refl

new_height : (h : ℕ) → height_with (component_of h) h ≡ suc h
new_height h = go (nat_lt h h) refl
  where
    go : (b : Bool) → nat_lt h h ≡ b → (if b then h else suc h) ≡ suc h
    go true e = let bad = ltb-true h h e in omega (arith, bad)
    go false e = refl

own_low : (h : ℕ) (t : Ty) → IsLow (height_with t h) t
own_low h (component_of i) = go (nat_lt i h) refl
  where
    go : (b : Bool) → nat_lt i h ≡ b → i < (if b then h else suc i)
    go true e = ltb-true i h e
    go false e = omega arith
own_low h _ = tt

height_grows : (h : ℕ) (t : Ty) → h ≤ height_with t h
height_grows h (component_of i) = go (nat_lt i h) refl
  where
    go : (b : Bool) → nat_lt i h ≡ b → h ≤ (if b then h else suc i)
    go true e = omega arith
    go false e = let le = ltb-false i h e in omega (arith, le)
height_grows h x = omega arith

higher_low : (h k : ℕ) (t : Ty) → h ≤ k → IsLow h t → IsLow k t
higher_low h k (component_of i) le low = omega (arith, le, low)
higher_low h k _ le low = tt

-- a type that is named is one of those before
named_low : (s : Scope) (x : Name) → IsLow (measure s).0 (type_named s x)
named_low [] x = tt
named_low ((n, constant_meaning b z) ∷ ds) x = named_low ds x
named_low ((n, local_variable t) ∷ ds) x = named_low ds x
named_low ((n, permanent_variable t) ∷ ds) x = named_low ds x
named_low ((n, routine_meaning r) ∷ ds) x = named_low ds x
named_low ((n, standard_meaning q) ∷ ds) x = named_low ds x
named_low ((n, type_meaning t) ∷ ds) x = go (same_name x n) (named_low ds x)
  where
    go : (b : Bool) → IsLow (measure ds).0 (type_named ds x) → IsLow (height_with t (measure ds).0) (if b then t else type_named ds x)
    go true rest = own_low (measure ds).0 t
    go false rest = higher_low (measure ds).0 (height_with t (measure ds).0) (type_named ds x) (height_grows (measure ds).0 t) rest

-- ---- declarations that leave the measure as it is

-- a scope with a type of it
record Same (s u : Scope) (t : Ty) : Type 0 where
  pub same : measure u ≡ measure s
  pub low : IsLow (measure s).0 t

type_same : (x : Name) (s : Scope) (t : Ty) → IsLow (measure s).0 t → measure ((x, type_meaning t) ∷ s) ≡ measure s
type_same x s t low = ap (λ (h : ℕ). (let a : Measure = (h, (measure s).1) in a)) (low_height (measure s).0 t low)

constants_with : (b : Base) (n : ℕ) (xs : List Name) (s : Scope) → measure (with_constants b n xs s) ≡ measure s
constants_with b n [] s = refl
constants_with b n (x ∷ xs) s = constants_with b (suc n) xs ((x, constant_meaning b _) ∷ s)

simple_same : (s : Scope) (t : Simple) → Same s (simple_in s t).1 (simple_in s t).0
simple_same s (type_name at x) = record { same = refl; low = named_low s x }
simple_same s (enumeration at is) = record { same = constants_with _ 0 (names_of is) s; low = tt }
simple_same s (subrange at c d) = record { same = refl; low = tt }

mutual
  type_is : (s : Scope) (t : TypeTerm) → Same s (type_in s t).1 (type_in s t).0
  type_is s (simple at t) = simple_same s t
  type_is s (array_of at i t) = record { same = (type_is (simple_in s i).1 t).same ∙ (simple_same s i).same; low = tt }
  type_is s (set_type at t) = record { same = (simple_same s t).same; low = tt }
  type_is s (record_of at gs b) = record { same = fields_are s gs; low = tt }

  fields_are : (s : Scope) (gs : FieldGroups) → measure (fields_in s gs).1 ≡ measure s
  fields_are s no_fields = refl
  fields_are s (more_fields g gs) = fields_are (group_in s g).2 gs ∙ group_is s g

  group_is : (s : Scope) (g : FieldGroup) → measure (group_in s g).2 ≡ measure s
  group_is s (fields is t) = (type_is s t).same

-- the latest declaration is a type
defined_same : (x : Name) (s : Scope) (t : TypeTerm) → measure ((x, type_meaning (type_in s t).0) ∷ (type_in s t).1) ≡ measure s
defined_same x s t =
    let i = type_is s t in
    type_same x (type_in s t).1 (type_in s t).0 (subst (λ (a : Measure). IsLow a.0 (type_in s t).0) (sym i.same) i.low) ∙ i.same

constants_same : (s : Scope) (ds : List ConstantDefinition) → measure (constants_in s ds) ≡ measure s
constants_same s [] = refl
constants_same s (d ∷ ds) = constants_same ((d.name.name, constant_meaning (constant_of s d.value).0 (constant_of s d.value).1) ∷ s) ds

types_same : (s : Scope) (ds : List TypeDefinition) → measure (types_in s ds) ≡ measure s
types_same s [] = refl
types_same s (d ∷ ds) = types_same ((d.name.name, type_meaning (type_in s d.value).0) ∷ (type_in s d.value).1) ds ∙ defined_same d.name.name s d.value

-- variables, local or permanent
abbrev AreUnmeasured : (Ty → Meaning) → Type 0
AreUnmeasured m = (t : Ty) (a : Measure) → measure_with (m t) a ≡ a

names_same : (xs : List Name) (m : Meaning) (s : Scope) → ((a : Measure) → measure_with m a ≡ a) → measure (with_names xs m s) ≡ measure s
names_same [] m s f = refl
names_same (x ∷ xs) m s f = names_same xs m ((x, m) ∷ s) f ∙ f (measure s)

module _ (m : Ty → Meaning) (free : AreUnmeasured m) where
  variables_same : (b : Block) (gs : List VariableGroup) → measure (variables_in m b gs).scope ≡ measure b.scope
  variables_same b [] = refl
  variables_same b (g ∷ gs) =
      let inner = type_in b.scope g.variable_type in
      variables_same (record { variables = b.variables ++ named_variables (names_of g.names) inner.0; scope = with_names (names_of g.names) (m inner.0) inner.1 }) gs
      ∙ (names_same (names_of g.names) (m inner.0) inner.1 (free inner.0) ∙ (type_is b.scope g.variable_type).same)

  part_same : (b : Block) (p : Part) → measure (part_in m b p).scope ≡ measure b.scope
  part_same b (constants at ds) = constants_same b.scope ds
  part_same b (types at ds) = types_same b.scope ds
  part_same b (variables at gs) = variables_same b gs

  parts_same : (b : Block) (ps : List Part) → measure (parts_in m b ps).scope ≡ measure b.scope
  parts_same b [] = refl
  parts_same b (p ∷ ps) = parts_same (part_in m b p) ps ∙ part_same b p

  group_same : (b : Bool) (h : Heading) (g : Group) → measure (with_group m b h g).scope ≡ measure h.scope
  group_same b h g = names_same (names_of g.names) (m (type_named h.scope g.type_name.name)) h.scope (free (type_named h.scope g.type_name.name))

  groups_same : (h : Heading) (gs : List Group) → measure (with_groups m h gs).scope ≡ measure h.scope
  groups_same h [] = refl
  groups_same h (g ∷ gs) = groups_same (with_group m false h g) gs ∙ group_same false h g

local_free : AreUnmeasured local_variable
local_free t a = refl

permanent_free : AreUnmeasured permanent_variable
permanent_free t a = refl

parameters_same : (h : Heading) (gs : List ParameterGroup) → measure (with_parameter_groups h gs).scope ≡ measure h.scope
parameters_same h [] = refl
parameters_same h (g ∷ gs) = parameters_same (with_group local_variable g.is_var h g.group) gs ∙ group_same local_variable local_free g.is_var h g.group

heading_same : (s : Scope) (k : RoutineKind) → measure (heading_of s k).scope ≡ measure s
heading_same s (procedure gs) = parameters_same (record { parameters = []; scope = s }) gs
heading_same s (function gs i) = groups_same local_variable local_free (record { parameters = []; scope = s }) gs
heading_same s invariants = parameters_same (record { parameters = []; scope = s }) []

seen_same : (s : Scope) → measure (seen_inside s) ≡ measure s
seen_same [] = refl
seen_same ((x, constant_meaning b z) ∷ ds) = seen_same ds
seen_same ((x, type_meaning t) ∷ ds) = ap (measure_with (type_meaning t)) (seen_same ds)
seen_same ((x, local_variable t) ∷ ds) = seen_same ds
seen_same ((x, permanent_variable t) ∷ ds) = seen_same ds
seen_same ((x, routine_meaning r) ∷ ds) = ap (measure_with (routine_meaning r)) (seen_same ds)
seen_same ((x, standard_meaning q) ∷ ds) = seen_same ds

-- ---- routines and system types

-- where the statements of a routine stand, it is the latest one
pub routine_measure : (s : Scope) (r : Routine) → measure (routine_in (with_routine s r) r).scope ≡ ((measure s).0, Some r)
routine_measure s r = parts_same local_variable local_free (record { variables = []; scope = (heading_of (with_routine s r) r.kind).scope }) r.parts ∙ heading_same (with_routine s r) r.kind

pub routines_height : (s : Scope) (rs : List Routine) → (measure (with_routines s rs)).0 ≡ (measure s).0
routines_height s [] = refl
routines_height s (r ∷ rs) = routines_height ((r.name.name, routine_meaning r) ∷ s) rs

pub parts_height : (s : Scope) (y : System) → (measure (parts_scope (seen_inside s) y)).0 ≡ (measure s).0
parts_height s y =
    ap (λ (a : Measure). a.0)
    (parts_same permanent_variable permanent_free (record { variables = []; scope = (with_groups permanent_variable (record { parameters = []; scope = seen_inside s }) y.parameters).scope }) y.parts
    ∙ (groups_same permanent_variable permanent_free (record { parameters = []; scope = seen_inside s }) y.parameters ∙ seen_same s))

-- ---- the program

-- the system types so far
abbrev pub IsHigh : Declared → Type 0
IsHigh d = (measure d.scope).0 ≡ length d.systems

pub definition_high : (d : Declared) (n : SystemDefinition) (v : Definition) → IsHigh d → IsHigh (definition_in d n v)
definition_high d n (type_definition t) h = ap (λ (a : Measure). a.0) (defined_same n.name.name d.scope t) ∙ h
definition_high d n (system_definition y) h =
    let e = length-append d.systems (system_in (seen_inside d.scope) y ∷ []) in
    let one : length (d.systems ++ system_in (seen_inside d.scope) y ∷ []) ≡ suc (length d.systems) = omega (arith, e) in
    ap (height_with (component_of (length d.systems))) h ∙ (new_height (length d.systems) ∙ sym one)

pub definitions_high : (d : Declared) (ns : List SystemDefinition) → IsHigh d → IsHigh (definitions_in d ns)
definitions_high d [] h = h
definitions_high d (n ∷ ns) h = definitions_high (definition_in d n n.value) ns (definition_high d n n.value h)

pub program_part_high : (d : Declared) (q : ProgramPart) → IsHigh d → IsHigh (program_part_in d q)
program_part_high d (program_constants at ds) h = ap (λ (a : Measure). a.0) (constants_same d.scope ds) ∙ h
program_part_high d (program_types at ns) h = definitions_high d ns h
program_part_high d (program_variables at gs) h = ap (λ (a : Measure). a.0) (variables_same permanent_variable permanent_free (record { variables = d.variables; scope = d.scope }) gs) ∙ h

pub program_parts_high : (d : Declared) (qs : List ProgramPart) → IsHigh d → IsHigh (program_parts_in d qs)
program_parts_high d [] h = h
program_parts_high d (q ∷ qs) h = program_parts_high (program_part_in d q) qs (program_part_high d q h)
