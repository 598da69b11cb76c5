-- What declarations declare (the book, chapter 8). Each is read in the scope that stands before it, and adds to it.
use Rattle.std.specs.Prelude.{ℕ, suc, ◌-◌, ℤ, pos, neg_ℤ, if◌then◌else◌, Bool, false, List, [], ◌∷◌, ◌++◌, map, length, Option, Some, None}
use Rattle.cp_tree.specs.declared.constant.Identifier.{Identifier}
use Rattle.cp_tree.specs.declared.constant.Sign.{Sign}
use Rattle.cp_tree.specs.declared.constant.Sign.TheVariants as sign
use Rattle.cp_tree.specs.declared.constant.Constant.{Constant}
use Rattle.cp_tree.specs.declared.constant.ConstantKind.{ConstantKind}
use Rattle.cp_tree.specs.declared.constant.ConstantKind.TheVariants as constant_kind
use Rattle.cp_tree.specs.Syntax.{Simple, type_name, enumeration, subrange, TypeTerm, simple, array_of, set_type, record_of, FieldGroups, no_fields, more_fields, FieldGroup, fields, ConstantDefinition, TypeDefinition, VariableGroup, Part, constants, types, variables, Group, ParameterGroup, RoutineKind, procedure, function, invariants, Routine, Statements}
use Rattle.cp_meaning.specs.Names.{Name, same_name}
use Rattle.cp_meaning.specs.Types.{Base, integers, characters, enumerated, Ty, ordinal, set_over, array_over, record_with, FieldTypes, no_field_types, more_field_types, all_integers, range_of}
use Rattle.cp_meaning.specs.Scopes.{Meaning, constant_meaning, type_meaning, local_variable, Scope, find}

-- ---- constants: a base and a value

-- a sign before a number
abbrev pub signed : Option Sign → ℤ → ℤ
signed (Some sign.Minus) z = neg_ℤ z
signed (Some sign.Plus) z = z
signed None z = z

-- what a name stands for in the place of a constant
abbrev pub constant_meant : Option Meaning → Base × ℤ
constant_meant (Some (constant_meaning b z)) = (b, z)
constant_meant o = (integers, pos 0)

abbrev pub constant_of_kind : Scope → ConstantKind → Base × ℤ
constant_of_kind s (constant_kind.Number o n) = (integers, signed o (pos n))
constant_of_kind s (constant_kind.Name o i) = ((constant_meant (find i.name s)).0, signed o (constant_meant (find i.name s)).1)
constant_of_kind s (constant_kind.Character c) = (characters, pos c)

-- the base and the value of a constant as it is written
abbrev pub constant_of : Scope → Constant → Base × ℤ
constant_of s c = constant_of_kind s c.kind

-- ---- types, with the scope that their enumeration constants leave

-- Where a type is written, a name stands for the latest type of that name. In its heading a routine's own name is not visible yet, and is passed over.
-- The rules refuse every other name there that is no type: so nothing else is passed over in an accepted program.
abbrev pub type_named : Scope → Name → Ty
type_named [] x = ordinal all_integers
type_named ((n, type_meaning t) ∷ s) x = if same_name x n then t else type_named s x
type_named (d ∷ s) x = type_named s x

abbrev pub names_of : List Identifier → List Name
names_of is = map (λ i. i.name) is

-- the constants of an enumeration, numbered from n on
abbrev pub with_constants : Base → ℕ → List Name → Scope → Scope
with_constants b n [] s = s
with_constants b n (x ∷ xs) s = with_constants b (suc n) xs ((x, constant_meaning b (pos n)) ∷ s)

-- names of types, enumerations and subranges
abbrev pub simple_in : Scope → Simple → Ty × Scope
simple_in s (type_name at x) = (type_named s x, s)
simple_in s (enumeration at is) =
    (ordinal (record { base = enumerated at (names_of is); low = pos 0; high = pos (length is - 1) }), with_constants (enumerated at (names_of is)) 0 (names_of is) s)
simple_in s (subrange at c d) = (ordinal (record { base = (constant_of s c).0; low = (constant_of s c).1; high = (constant_of s d).1 }), s)

-- fields of one type before others
abbrev pub more_of_type : List Identifier → Ty → FieldTypes → FieldTypes
more_of_type [] t ts = ts
more_of_type (i ∷ is) t ts = more_field_types i.name t (more_of_type is t ts)

abbrev mutual
  pub type_in : Scope → TypeTerm → Ty × Scope
  type_in s (simple at t) = simple_in s t
  type_in s (array_of at i t) =
      let below = simple_in s i in
      let inner = type_in below.1 t in
      (array_over (range_of below.0) inner.0, inner.1)
  type_in s (set_type at t) = (set_over (range_of (simple_in s t).0), (simple_in s t).1)
  type_in s (record_of at gs b) =
      let inner = fields_in s gs in
      (record_with inner.0, inner.1)

  pub fields_in : Scope → FieldGroups → FieldTypes × Scope
  fields_in s no_fields = (no_field_types, s)
  fields_in s (more_fields g gs) =
      let first = group_in s g in
      let rest = fields_in first.2 gs in
      (more_of_type first.0 first.1 rest.0, rest.1)

  pub group_in : Scope → FieldGroup → List Identifier × Ty × Scope
  group_in s (fields is t) =
      let inner = type_in s t in
      (is, inner.0, inner.1)

-- ---- parts

-- a declared variable
pub record Variable : Type 0 where
  pub name : Name
  pub ty : Ty

-- the variables in order, and the scope
pub record Block : Type 0 where
  pub variables : List Variable
  pub scope : Scope

-- each constant is visible from the end of its declaration
abbrev pub constants_in : Scope → List ConstantDefinition → Scope
constants_in s [] = s
constants_in s (d ∷ ds) = constants_in ((d.name.name, constant_meaning (constant_of s d.value).0 (constant_of s d.value).1) ∷ s) ds

-- each type is visible from the end of its definition
abbrev pub types_in : Scope → List TypeDefinition → Scope
types_in s [] = s
types_in s (d ∷ ds) =
    let inner = type_in s d.value in
    types_in ((d.name.name, type_meaning inner.0) ∷ inner.1) ds

abbrev pub named_variables : List Name → Ty → List Variable
named_variables xs t = map (λ x. (let v : Variable = record { name = x; ty = t } in v)) xs

-- names of one declaration
abbrev pub with_names : List Name → Meaning → Scope → Scope
with_names [] m s = s
with_names (x ∷ xs) m s = with_names xs m ((x, m) ∷ s)

-- m is what a variable of a type means here: local or permanent
abbrev pub variables_in : (Ty → Meaning) → Block → List VariableGroup → Block
variables_in m b [] = b
variables_in m b (g ∷ gs) =
    let inner = type_in b.scope g.variable_type in
    variables_in m (record { variables = b.variables ++ named_variables (names_of g.names) inner.0; scope = with_names (names_of g.names) (m inner.0) inner.1 }) gs

-- a `const`, `type` or `var` part
abbrev pub part_in : (Ty → Meaning) → Block → Part → Block
part_in m b (constants at ds) = record { variables = b.variables; scope = constants_in b.scope ds }
part_in m b (types at ds) = record { variables = b.variables; scope = types_in b.scope ds }
part_in m b (variables at gs) = variables_in m b gs

-- parts in the order in which they are written
abbrev pub parts_in : (Ty → Meaning) → Block → List Part → Block
parts_in m b [] = b
parts_in m b (p ∷ ps) = parts_in m (part_in m b p) ps

-- ---- parameters

-- a parameter of a routine or of a system type
pub record Parameter : Type 0 where
  pub name : Name
  pub ty : Ty
  pub is_var : Bool

-- the parameters in order, and the scope after them
pub record Heading : Type 0 where
  pub parameters : List Parameter
  pub scope : Scope

abbrev pub parameters_named : List Name → Ty → Bool → List Parameter
parameters_named xs t b = map (λ x. (let q : Parameter = record { name = x; ty = t; is_var = b } in q)) xs

-- a group of parameters of one type
abbrev pub with_group : (Ty → Meaning) → Bool → Heading → Group → Heading
with_group m b h g =
    let t = type_named h.scope g.type_name.name in
    record { parameters = h.parameters ++ parameters_named (names_of g.names) t b; scope = with_names (names_of g.names) (m t) h.scope }

abbrev pub with_groups : (Ty → Meaning) → Heading → List Group → Heading
with_groups m h [] = h
with_groups m h (g ∷ gs) = with_groups m (with_group m false h g) gs

abbrev pub with_parameter_groups : Heading → List ParameterGroup → Heading
with_parameter_groups h [] = h
with_parameter_groups h (g ∷ gs) = with_parameter_groups (with_group local_variable g.is_var h g.group) gs

-- ---- routines

-- what a routine has; the scope is that of its body
pub record RoutineMeaning : Type 0 where
  pub parameters : List Parameter
  pub variables : List Variable
  pub result : Option Ty
  pub scope : Scope
  pub body : Statements
  -- whether the invariants of the block are looked at as it ends
  pub checks : Bool

-- the parameters of a procedure or function
abbrev pub heading_of : Scope → RoutineKind → Heading
heading_of s (procedure gs) = with_parameter_groups (record { parameters = []; scope = s }) gs
heading_of s (function gs i) = with_groups local_variable (record { parameters = []; scope = s }) gs
heading_of s invariants = record { parameters = []; scope = s }

-- a function's result type
abbrev pub result_of : Scope → RoutineKind → Option Ty
result_of s (procedure gs) = None
result_of s (function gs i) = Some (type_named s i.name)
result_of s invariants = None

-- s is the scope in which the routine's own name is the latest
abbrev pub routine_in : Scope → Routine → RoutineMeaning
routine_in s r =
    let h = heading_of s r.kind in
    let b = parts_in local_variable (record { variables = []; scope = h.scope }) r.parts in
    record { parameters = h.parameters; variables = b.variables; result = result_of h.scope r.kind; scope = b.scope; body = r.body.statements; checks = r.is_entry }
