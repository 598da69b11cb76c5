-- Types, parts and headings stand for the same in scopes without the routines that say invariants.
use Rattle.std.proofs.Common.{◌≡◌, ◌∙◌, ℕ, suc, ◌-◌, ℤ, pos, Bool, true, false, if◌then◌else◌, List, [], ◌∷◌, ◌++◌, length, Option, Some, None, ap, refl}
use Rattle.cp_tree.specs.declared.constant.Identifier.{Identifier}
use Rattle.cp_tree.specs.declared.constant.ConstantKind.{ConstantKind}
use Rattle.cp_tree.specs.declared.constant.ConstantKind.TheVariants as constant_kind
use Rattle.cp_tree.specs.declared.constant.Constant.{Constant}
use Rattle.cp_tree.specs.Syntax.{nameless, Simple, type_name, enumeration, subrange, TypeTerm, simple, array_of, set_type, record_of, FieldGroups, no_fields, more_fields, FieldGroup, fields, ConstantDefinition, TypeDefinition, VariableGroup, Part, constants, types, variables, Group, ParameterGroup, RoutineKind, procedure, function, invariants, Routine}
use Rattle.cp_meaning.specs.Names.{Name, same_name}
use Rattle.cp_meaning.specs.Types.{Base, enumerated, Ty, ordinal, set_over, array_over, record_with, FieldTypes, range_of}
use Rattle.cp_meaning.specs.Scopes.{Meaning, constant_meaning, type_meaning, local_variable, permanent_variable, routine_meaning, standard_meaning, Scope, find}
use Rattle.cp_meaning.specs.Declarations.{signed, constant_meant, constant_of_kind, constant_of, type_named, names_of, with_constants, simple_in, type_in, fields_in, group_in, more_of_type, Block, constants_in, types_in, named_variables, with_names, variables_in, part_in, parts_in, Heading, parameters_named, with_group, with_groups, with_parameter_groups, heading_of, result_of, RoutineMeaning, routine_in}
use Rattle.cp_resolved.specs.Small.{Each}
use Rattle.cp_annotation_laws.specs.Plain.{plain_routine, plain_statements}
use Rattle.cp_annotation_laws.proofs.annotations.Scopes.{plain_scope, plain_found, find_plain}
use Rattle.cp_annotation_laws.proofs.annotations.Spoken.{SpokenConstantKind, SpokenConstant, SpokenSimple, SpokenType, SpokenFields, SpokenGroup, SpokenPart}

-- ---- names of types, and constants

pub named_plain : (s : Scope) (x : Name) → type_named (plain_scope s) x ≡ type_named s x
named_plain [] x = refl
named_plain ((n, type_meaning t) ∷ s) x = ap (λ (u : Ty). if same_name x n then t else u) (named_plain s x)
named_plain ((n, routine_meaning r) ∷ s) x = go (same_name nameless n) (named_plain s x)
  where
    go : (b : Bool) → type_named (plain_scope s) x ≡ type_named s x → type_named (if b then plain_scope s else (n, routine_meaning (plain_routine r)) ∷ plain_scope s) x ≡ type_named s x
    go true e = e
    go false e = e
named_plain ((n, constant_meaning b z) ∷ s) x = named_plain s x
named_plain ((n, local_variable t) ∷ s) x = named_plain s x
named_plain ((n, permanent_variable t) ∷ s) x = named_plain s x
named_plain ((n, standard_meaning t) ∷ s) x = named_plain s x

pub same_constant : (o : Option Meaning) → constant_meant (plain_found o) ≡ constant_meant o
same_constant None = refl
same_constant (Some (constant_meaning b z)) = refl
same_constant (Some (type_meaning t)) = refl
same_constant (Some (local_variable t)) = refl
same_constant (Some (permanent_variable t)) = refl
same_constant (Some (routine_meaning r)) = refl
same_constant (Some (standard_meaning t)) = refl

kind_plain : (s : Scope) (c : ConstantKind) → SpokenConstantKind c → constant_of_kind (plain_scope s) c ≡ constant_of_kind s c
kind_plain s (constant_kind.Number o n) h = refl
kind_plain s (constant_kind.Name o i) h = ap (λ (m : Base × ℤ). (m.0, signed o m.1)) (ap constant_meant (find_plain i.name s h) ∙ same_constant (find i.name s))
kind_plain s (constant_kind.Character c) h = refl

pub constant_plain : (s : Scope) (c : Constant) → SpokenConstant c → constant_of (plain_scope s) c ≡ constant_of s c
constant_plain s c h = kind_plain s c.kind h

-- ---- types, with what is visible after them

abbrev pub with_plain : {A : Type 0} → A × Scope → A × Scope
with_plain x = (x.0, plain_scope x.1)

constants_plain : (b : Base) (n : ℕ) (xs : List Name) (s : Scope) → with_constants b n xs (plain_scope s) ≡ plain_scope (with_constants b n xs s)
constants_plain b n [] s = refl
constants_plain b n (x ∷ xs) s = constants_plain b (suc n) xs ((x, constant_meaning b (pos n)) ∷ s)

simple_plain : (s : Scope) (t : Simple) → SpokenSimple t → simple_in (plain_scope s) t ≡ with_plain (simple_in s t)
simple_plain s (type_name at x) h = ap (λ (t : Ty). (t, plain_scope s)) (named_plain s x)
simple_plain s (enumeration at is) h = ap (λ (u : Scope). (ordinal (record { base = enumerated at (names_of is); low = pos 0; high = pos (length is - 1) }), u)) (constants_plain (enumerated at (names_of is)) 0 (names_of is) s)
simple_plain s (subrange at c d) h =
    let e = constant_plain s c h.0 in
    let f = constant_plain s d h.1 in
    ap (λ (x : Base × ℤ). (ordinal (record { base = x.0; low = x.1; high = (constant_of (plain_scope s) d).1 }), plain_scope s)) e
    ∙ ap (λ (y : Base × ℤ). (ordinal (record { base = (constant_of s c).0; low = (constant_of s c).1; high = y.1 }), plain_scope s)) f

abbrev of_array : Ty × Scope → Ty × Scope → Ty × Scope
of_array below inner = (array_over (range_of below.0) inner.0, inner.1)

abbrev with_group_plain : List Identifier × Ty × Scope → List Identifier × Ty × Scope
with_group_plain x = (x.0, x.1, plain_scope x.2)

abbrev of_fields : List Identifier × Ty × Scope → FieldTypes × Scope → FieldTypes × Scope
of_fields first rest = (more_of_type first.0 first.1 rest.0, rest.1)

mutual
  pub type_plain : (s : Scope) (t : TypeTerm) → SpokenType t → type_in (plain_scope s) t ≡ with_plain (type_in s t)
  type_plain s (simple at t) h = simple_plain s t h
  type_plain s (array_of at i t) h =
      ap (λ (below : Ty × Scope). of_array below (type_in below.1 t)) (simple_plain s i h.0)
      ∙ ap (λ (inner : Ty × Scope). of_array (simple_in s i) inner) (type_plain (simple_in s i).1 t h.1)
  type_plain s (set_type at t) h = ap (λ (x : Ty × Scope). (set_over (range_of x.0), x.1)) (simple_plain s t h)
  type_plain s (record_of at gs b) h = ap (λ (x : FieldTypes × Scope). (record_with x.0, x.1)) (fields_plain s gs h)

  fields_plain : (s : Scope) (gs : FieldGroups) → SpokenFields gs → fields_in (plain_scope s) gs ≡ with_plain (fields_in s gs)
  fields_plain s no_fields h = refl
  fields_plain s (more_fields g gs) h =
      ap (λ (first : List Identifier × Ty × Scope). of_fields first (fields_in first.2 gs)) (group_plain s g h.0)
      ∙ ap (λ (rest : FieldTypes × Scope). of_fields (group_in s g) rest) (fields_plain (group_in s g).2 gs h.1)

  group_plain : (s : Scope) (g : FieldGroup) → SpokenGroup g → group_in (plain_scope s) g ≡ with_group_plain (group_in s g)
  group_plain s (fields is t) h = ap (λ (x : Ty × Scope). (is, x.0, x.1)) (type_plain s t h)

-- ---- parts

pub constant_part_plain : (s : Scope) (ds : List ConstantDefinition) → Each (λ d. SpokenConstant d.value) ds → constants_in (plain_scope s) ds ≡ plain_scope (constants_in s ds)
constant_part_plain s [] h = refl
constant_part_plain s (d ∷ ds) h =
    ap (λ (c : Base × ℤ). constants_in ((d.name.name, constant_meaning c.0 c.1) ∷ plain_scope s) ds) (constant_plain s d.value h.0)
    ∙ constant_part_plain ((d.name.name, constant_meaning (constant_of s d.value).0 (constant_of s d.value).1) ∷ s) ds h.1

types_part_plain : (s : Scope) (ds : List TypeDefinition) → Each (λ d. SpokenType d.value) ds → types_in (plain_scope s) ds ≡ plain_scope (types_in s ds)
types_part_plain s [] h = refl
types_part_plain s (d ∷ ds) h =
    ap (λ (x : Ty × Scope). types_in ((d.name.name, type_meaning x.0) ∷ x.1) ds) (type_plain s d.value h.0)
    ∙ types_part_plain ((d.name.name, type_meaning (type_in s d.value).0) ∷ (type_in s d.value).1) ds h.1

abbrev pub plain_block : Block → Block
plain_block b = record { variables = b.variables; scope = plain_scope b.scope }

-- what a variable is visible as stays
abbrev pub IsKept : (Ty → Meaning) → Type 0
IsKept m = (x : Name) (t : Ty) (s : Scope) → (x, m t) ∷ plain_scope s ≡ plain_scope ((x, m t) ∷ s)

pub local_kept : IsKept local_variable
local_kept x t s = refl

pub permanent_kept : IsKept permanent_variable
permanent_kept x t s = refl

module _ (m : Ty → Meaning) (kept : IsKept m) where
  names_plain : (xs : List Name) (t : Ty) (s : Scope) → with_names xs (m t) (plain_scope s) ≡ plain_scope (with_names xs (m t) s)
  names_plain [] t s = refl
  names_plain (x ∷ xs) t s = ap (with_names xs (m t)) (kept x t s) ∙ names_plain xs t ((x, m t) ∷ s)

  abbrev more_variables : Block → VariableGroup → Ty × Scope → Block
  more_variables b g inner = record { variables = b.variables ++ named_variables (names_of g.names) inner.0; scope = with_names (names_of g.names) (m inner.0) inner.1 }

  pub variables_plain : (b : Block) (gs : List VariableGroup) → Each (λ g. SpokenType g.variable_type) gs → variables_in m (plain_block b) gs ≡ plain_block (variables_in m b gs)
  variables_plain b [] h = refl
  variables_plain b (g ∷ gs) h =
      let inner : Ty × Scope = type_in b.scope g.variable_type in
      ap (λ (x : Ty × Scope). variables_in m (more_variables (plain_block b) g x) gs) (type_plain b.scope g.variable_type h.0)
      ∙ ap (λ (s : Scope). variables_in m (record { variables = b.variables ++ named_variables (names_of g.names) inner.0; scope = s }) gs) (names_plain (names_of g.names) inner.0 inner.1)
      ∙ variables_plain (more_variables b g inner) gs h.1

  part_plain : (b : Block) (p : Part) → SpokenPart p → part_in m (plain_block b) p ≡ plain_block (part_in m b p)
  part_plain b (constants at ds) h = ap (λ (s : Scope). (let c : Block = record { variables = b.variables; scope = s } in c)) (constant_part_plain b.scope ds h)
  part_plain b (types at ds) h = ap (λ (s : Scope). (let c : Block = record { variables = b.variables; scope = s } in c)) (types_part_plain b.scope ds h)
  part_plain b (variables at gs) h = variables_plain b gs h

  pub parts_plain : (b : Block) (ps : List Part) → Each SpokenPart ps → parts_in m (plain_block b) ps ≡ plain_block (parts_in m b ps)
  parts_plain b [] h = refl
  parts_plain b (p ∷ ps) h = ap (λ (c : Block). parts_in m c ps) (part_plain b p h.0) ∙ parts_plain (part_in m b p) ps h.1

  -- ---- headings

  group_heading : (v : Bool) (h : Heading) (g : Group) → with_group m v (record { parameters = h.parameters; scope = plain_scope h.scope }) g ≡ record { parameters = (with_group m v h g).parameters; scope = plain_scope (with_group m v h g).scope }
  group_heading v h g =
      let t : Ty = type_named h.scope g.type_name.name in
      ap (λ (u : Ty). (let k : Heading = record { parameters = h.parameters ++ parameters_named (names_of g.names) u v; scope = with_names (names_of g.names) (m u) (plain_scope h.scope) } in k)) (named_plain h.scope g.type_name.name)
      ∙ ap (λ (s : Scope). (let k : Heading = record { parameters = h.parameters ++ parameters_named (names_of g.names) t v; scope = s } in k)) (names_plain (names_of g.names) t h.scope)

abbrev pub plain_heading : Heading → Heading
plain_heading h = record { parameters = h.parameters; scope = plain_scope h.scope }

pub groups_plain : (m : Ty → Meaning) → IsKept m → (h : Heading) (gs : List Group) → with_groups m (plain_heading h) gs ≡ plain_heading (with_groups m h gs)
groups_plain m kept h [] = refl
groups_plain m kept h (g ∷ gs) = ap (λ (k : Heading). with_groups m k gs) (group_heading m kept false h g) ∙ groups_plain m kept (with_group m false h g) gs

parameter_groups_plain : (h : Heading) (gs : List ParameterGroup) → with_parameter_groups (plain_heading h) gs ≡ plain_heading (with_parameter_groups h gs)
parameter_groups_plain h [] = refl
parameter_groups_plain h (g ∷ gs) = ap (λ (k : Heading). with_parameter_groups k gs) (group_heading local_variable local_kept g.is_var h g.group) ∙ parameter_groups_plain (with_group local_variable g.is_var h g.group) gs

-- ---- routines

pub heading_plain : (s : Scope) (k : RoutineKind) → heading_of (plain_scope s) k ≡ plain_heading (heading_of s k)
heading_plain s (procedure gs) = parameter_groups_plain (record { parameters = []; scope = s }) gs
heading_plain s (function gs i) = groups_plain local_variable local_kept (record { parameters = []; scope = s }) gs
heading_plain s invariants = refl

result_plain : (s : Scope) (k : RoutineKind) → result_of (plain_scope s) k ≡ result_of s k
result_plain s (procedure gs) = refl
result_plain s (function gs i) = ap (λ (t : Ty). Some t) (named_plain s i.name)
result_plain s invariants = refl

abbrev pub plain_routine_meaning : RoutineMeaning → RoutineMeaning
plain_routine_meaning m = record { parameters = m.parameters; variables = m.variables; result = m.result; scope = plain_scope m.scope; body = plain_statements m.body; checks = m.checks }

abbrev meaning_by : Routine → Heading → Option Ty → Block → RoutineMeaning
meaning_by r h t b = record { parameters = h.parameters; variables = b.variables; result = t; scope = b.scope; body = plain_statements r.body.statements; checks = r.is_entry }

pub routine_plain : (s : Scope) (r : Routine) → Each SpokenPart r.parts → routine_in (plain_scope s) (plain_routine r) ≡ plain_routine_meaning (routine_in s r)
routine_plain s r spoken =
    let h : Heading = heading_of s r.kind in
    ap (λ (k : Heading). meaning_by r k (result_of k.scope r.kind) (parts_in local_variable (record { variables = []; scope = k.scope }) r.parts)) (heading_plain s r.kind)
    ∙ (ap (λ (t : Option Ty). meaning_by r (plain_heading h) t (parts_in local_variable (record { variables = []; scope = plain_scope h.scope }) r.parts)) (result_plain h.scope r.kind)
    ∙ ap (λ (b : Block). meaning_by r (plain_heading h) (result_of h.scope r.kind) b) (parts_plain local_variable local_kept (record { variables = []; scope = h.scope }) r.parts spoken))
