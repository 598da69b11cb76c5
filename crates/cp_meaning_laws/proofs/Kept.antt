-- What declarations leave as it was: the scopes around, and the names before them.
use Rattle.std.proofs.Common.{◌≡◌, ℕ, ◌+◌, ◌∙◌, Bool, true, false, if◌then◌else◌, List, [], ◌∷◌, ◌++◌, Option, Some, None, Ok, Err, is_some, pos, ap, refl}
use Rattle.cp_meaning_laws.proofs.Words.{bytes_eq, Identifier, SystemKind, C2, Meaning, ValueType, Use, Judged, Spot, ArrayShape}
use Rattle.cp_tree.specs.Syntax.{Simple, enumeration, TypeTerm, simple, array_of, set_type, record_of, FieldGroups, no_fields, more_fields, FieldGroup, fields, ConstantDefinition, TypeDefinition, VariableGroup, Part, constants, types, variables, Group, ParameterGroup, RoutineKind, procedure, function, invariants, Routine, System, Definition, type_definition, system_definition, SystemDefinition, ProgramPart, program_constants, program_types, program_variables}
use Rattle.cp_scope.specs.declared.fault.CheckFault.TheVariants as check_fault
use Rattle.cp_scope.specs.declared.types.Meaning.TheVariants as meaning
use Rattle.cp_scope.specs.declared.types.Base.{Base}
use Rattle.cp_scope.specs.Scopes.{Names, Scope, Scopes, Shape, find, is_among, is_declared, with_name, with_pending, sealed, add, reserve, settle, enter, Around, around, last_of, leave, add_around, keep}
use Rattle.cp_check.specs.declared.types.Spot.TheVariants as spot
use Rattle.cp_check.specs.Types.{Step, nothing, member, members, simple_type, keep_array, keep_record, typed, groups_typed, group_typed}
use Rattle.cp_check.specs.Declarations.{reserve_name, reserve_names, add_names, add_all, add_one, constant_step, constant_steps, type_step, type_steps, variable_step, variable_steps, part_step, part_steps}
use Rattle.cp_check.specs.Headings as headings
use Rattle.cp_check.specs.Routines as routines
use Rattle.cp_check.specs.Systems as systems

pub record Keeps (s t : Scopes) : Type 0 where
  pub outer : t.outer ≡ s.outer
  pub names : (x : List ℕ) (m : Option Meaning) → find x s.inner.names ≡ Some m → find x t.inner.names ≡ Some m

pub same : (s : Scopes) → Keeps s s
same s = record { outer = refl; names = λ x m h. h }

pub after : (s t u : Scopes) → Keeps s t → Keeps t u → Keeps s u
after s t u h g = record { outer = g.outer ∙ h.outer; names = λ x m e. g.names x m (h.names x m e) }

-- ---- one name

pub find_before : (x : List ℕ) (ds es : Names) (m : Option Meaning) → find x ds ≡ Some m → find x (ds ++ es) ≡ Some m
find_before x [] es m h = absurd (let bad : None ≡ Some m = h in cc)
find_before x (d ∷ ds) es m h = go (bytes_eq x d.0) h (find_before x ds es m)
  where
    go : (b : Bool) → (if b then Some d.1 else find x ds) ≡ Some m → (find x ds ≡ Some m → find x (ds ++ es) ≡ Some m) → (if b then Some d.1 else find x (ds ++ es)) ≡ Some m
    go true e rest = e
    go false e rest = rest e

pub pending_names : (c : Scope) (n : List ℕ) → (with_pending c n).names ≡ c.names
pending_names c n = go (is_among n c.pending)
  where
    go : (b : Bool) → (let e : Scope = (if b then c else record { names = c.names; pending = c.pending ++ n ∷ []; is_sealed = c.is_sealed }) in e.names) ≡ c.names
    go true = refl
    go false = refl

pub reserved : (s : Scopes) (n : List ℕ) → Keeps s (reserve s n)
unfolding reserve
reserved s n = record { outer = refl; names = λ x m h. ap (find x) (pending_names s.inner n) ∙ h }

name_kept : (c : Scope) (n x : List ℕ) (m v : Option Meaning) → find x c.names ≡ Some v → find x (with_name c n m).names ≡ Some v
name_kept c n x m v h = go (is_some (find n c.names))
  where
    go : (b : Bool) → find x (let e : Scope = (if b then c else record { names = c.names ++ (n, m) ∷ []; pending = c.pending; is_sealed = c.is_sealed }) in e.names) ≡ Some v
    go true = h
    go false = find_before x c.names _ v h

pub added : (s : Scopes) (n : List ℕ) (m : Option Meaning) → Keeps s (add s n m)
unfolding add
added s n m = record { outer = refl; names = λ x v h. name_kept s.inner n x m v h }

pub settled : (s : Scopes) → Keeps s (settle s)
unfolding settle
settled s = record { outer = refl; names = λ x m h. h }

pub kept : (s : Scopes) (n : ℕ) (d : Shape) → Keeps s (keep s n d)
unfolding keep
kept s n d = record { outer = refl; names = λ x m h. h }

pub name_reserved : (s : Scopes) (n : Identifier) → Keeps s (reserve_name s n).scopes
unfolding reserve_name
name_reserved s n = go (is_declared s n.name)
  where
    go : (b : Bool) → Keeps s (let t : Step = (if b then record { faults = check_fault.Rule n.at C2 ∷ []; scopes = s } else nothing (reserve s n.name)) in t.scopes)
    go true = same s
    go false = reserved s n.name

pub names_reserved : (s : Scopes) (ns : List Identifier) → Keeps s (reserve_names s ns).scopes
unfolding reserve_names
names_reserved s [] = same s
names_reserved s (n ∷ ns) = after s (reserve_name s n).scopes _ (name_reserved s n) (names_reserved (reserve_name s n).scopes ns)

pub names_added : (s : Scopes) (ns : List Identifier) (m : Option Meaning) → Keeps s (add_names s ns m)
unfolding add_names
names_added s [] m = same s
names_added s (n ∷ ns) m = after s (add s n.name m) _ (added s n.name m) (names_added (add s n.name m) ns m)

pub all_added : (s : Scopes) (ns : List Identifier) (m : Option Meaning) → Keeps s (add_all s ns m)
unfolding add_all
all_added s ns m = after s (add_names s ns m) _ (names_added s ns m) (settled (add_names s ns m))

pub one_added : (s : Scopes) (n : Identifier) (m : Option Meaning) → Keeps s (add_one s n m)
unfolding add_one
one_added s n m = after s (add s n.name m) _ (added s n.name m) (settled (add s n.name m))

-- ---- constants and types

constant_kept : (s : Scopes) (d : ConstantDefinition) → Keeps s (constant_step s d).scopes
unfolding constant_step
constant_kept s d = after s (reserve_name s d.name).scopes _ (name_reserved s d.name) (one_added (reserve_name s d.name).scopes d.name _)

pub constants_kept : (s : Scopes) (ds : List ConstantDefinition) → Keeps s (constant_steps s ds).scopes
unfolding constant_steps
constants_kept s [] = same s
constants_kept s (d ∷ ds) = after s (constant_step s d).scopes _ (constant_kept s d) (constants_kept (constant_step s d).scopes ds)

member_kept : (s : Scopes) (b : Base) (k : ℕ) (i : Identifier) → Keeps s (member s b k i).scopes
unfolding member
member_kept s b k i = go (is_declared s i.name)
  where
    go : (c : Bool) → Keeps s (let t : Step = (if c then record { faults = check_fault.Rule i.at C2 ∷ []; scopes = s } else nothing (add s i.name (Some (meaning.Constant b (pos k))))) in t.scopes)
    go true = same s
    go false = added s i.name (Some (meaning.Constant b (pos k)))

members_kept : (s : Scopes) (b : Base) (k : ℕ) (is : List Identifier) → Keeps s (members s b k is).scopes
unfolding members
members_kept s b k [] = same s
members_kept s b k (i ∷ is) = after s (member s b k i).scopes _ (member_kept s b k i) (members_kept (member s b k i).scopes b (k + 1) is)

pub simple_kept : (s : Scopes) (p : Spot) (t : Simple) → Keeps s (simple_type s p t).scopes
unfolding simple_type
simple_kept s p (enumeration at is) = members_kept s _ 0 is
simple_kept s p _ = same s

array_kept : (s : Scopes) (at : ℕ) (j : Judged ArrayShape) → Keeps s (keep_array s at j)
array_kept s at (Ok a) = kept s at _
array_kept s at (Err fs) = same s

record_kept : (s : Scopes) (at : ℕ) (j : Judged Shape) → Keeps s (keep_record s at j)
record_kept s at (Ok d) = kept s at d
record_kept s at (Err fs) = same s

mutual
  unfolding typed

  pub type_kept : (s : Scopes) (p : Spot) (t : TypeTerm) → Keeps s (typed s p t).scopes
  type_kept s p (simple at t) = simple_kept s p t
  type_kept s p (array_of at i e) =
      let index = simple_kept s spot.Other i in
      let element = type_kept (simple_type s spot.Other i).scopes spot.Element e in
      after s (typed (simple_type s spot.Other i).scopes spot.Element e).scopes _ (after s (simple_type s spot.Other i).scopes _ index element) (array_kept _ at _)
  type_kept s p (set_type at b) = simple_kept s spot.Base b
  type_kept s p (record_of at gs b) = after s (groups_typed _ s gs).scopes _ (groups_kept _ s gs) (record_kept _ at _)

  groups_kept : (f : Scope) (s : Scopes) (gs : FieldGroups) → Keeps s (groups_typed f s gs).scopes
  groups_kept f s no_fields = same s
  groups_kept f s (more_fields g gs) = after s (group_typed f s g).scopes _ (group_kept f s g) (groups_kept (group_typed f s g).fields (group_typed f s g).scopes gs)

  group_kept : (f : Scope) (s : Scopes) (g : FieldGroup) → Keeps s (group_typed f s g).scopes
  group_kept f s (fields is t) = type_kept s spot.Other t

type_step_kept : (s : Scopes) (d : TypeDefinition) → Keeps s (type_step s d).scopes
unfolding type_step
type_step_kept s d =
    let named = name_reserved s d.name in
    let written = type_kept (reserve_name s d.name).scopes spot.Definition d.value in
    after s (typed (reserve_name s d.name).scopes spot.Definition d.value).scopes _ (after s (reserve_name s d.name).scopes _ named written) (one_added _ d.name _)

pub types_kept : (s : Scopes) (ds : List TypeDefinition) → Keeps s (type_steps s ds).scopes
unfolding type_steps
types_kept s [] = same s
types_kept s (d ∷ ds) = after s (type_step s d).scopes _ (type_step_kept s d) (types_kept (type_step s d).scopes ds)

-- ---- variables and parts

pub variable_kept : (p : Spot) (s : Scopes) (g : VariableGroup) → Keeps s (variable_step p s g).scopes
unfolding variable_step
variable_kept p s g =
    let named = names_reserved s g.names in
    let written = type_kept (reserve_names s g.names).scopes p g.variable_type in
    after s (typed (reserve_names s g.names).scopes p g.variable_type).scopes _ (after s (reserve_names s g.names).scopes _ named written) (all_added _ g.names _)

pub variables_kept : (p : Spot) (s : Scopes) (gs : List VariableGroup) → Keeps s (variable_steps p s gs).scopes
unfolding variable_steps
variables_kept p s [] = same s
variables_kept p s (g ∷ gs) = after s (variable_step p s g).scopes _ (variable_kept p s g) (variables_kept p (variable_step p s g).scopes gs)

pub part_kept : (p : Spot) (s : Scopes) (d : Part) → Keeps s (part_step p s d).scopes
unfolding part_step
part_kept p s (constants at ds) = constants_kept s ds
part_kept p s (types at ds) = types_kept s ds
part_kept p s (variables at gs) = variables_kept p s gs

pub parts_kept : (p : Spot) (s : Scopes) (ds : List Part) → Keeps s (part_steps p s ds).scopes
unfolding part_steps
parts_kept p s [] = same s
parts_kept p s (d ∷ ds) = after s (part_step p s d).scopes _ (part_kept p s d) (parts_kept p (part_step p s d).scopes ds)

-- ---- headings

routine_group_kept : (b : Bool) (s : Scopes) (g : Group) → Keeps s (headings.group_step b s g).scopes
unfolding headings.group_step
routine_group_kept b s g = after s (reserve_names s g.names).scopes _ (names_reserved s g.names) (all_added _ g.names _)

routine_groups_kept : (s : Scopes) (gs : List Group) → Keeps s (headings.group_steps s gs).scopes
unfolding headings.group_steps
routine_groups_kept s [] = same s
routine_groups_kept s (g ∷ gs) = after s (headings.group_step false s g).scopes _ (routine_group_kept false s g) (routine_groups_kept (headings.group_step false s g).scopes gs)

parameters_kept : (s : Scopes) (gs : List ParameterGroup) → Keeps s (headings.parameter_steps s gs).scopes
unfolding headings.parameter_steps
parameters_kept s [] = same s
parameters_kept s (g ∷ gs) = after s (headings.group_step g.is_var s g.group).scopes _ (routine_group_kept g.is_var s g.group) (parameters_kept (headings.group_step g.is_var s g.group).scopes gs)

pub written_kept : (s : Scopes) (k : RoutineKind) → Keeps s (headings.parameters_and_result s k).scopes
unfolding headings.parameters_and_result
written_kept s (procedure gs) = parameters_kept s gs
written_kept s (function gs i) = routine_groups_kept s gs
written_kept s invariants = parameters_kept s []

pub system_group_kept : (k : SystemKind) (s : Scopes) (g : Group) → Keeps s (systems.group_step k s g).scopes
unfolding systems.group_step
system_group_kept k s g = after s (reserve_names s g.names).scopes _ (names_reserved s g.names) (all_added _ g.names _)

pub system_groups_kept : (k : SystemKind) (s : Scopes) (gs : List Group) → Keeps s (systems.group_steps k s gs).scopes
unfolding systems.group_steps
system_groups_kept k s [] = same s
system_groups_kept k s (g ∷ gs) = after s (systems.group_step k s g).scopes _ (system_group_kept k s g) (system_groups_kept k (systems.group_step k s g).scopes gs)

-- ---- out of the innermost scope

around_last : (c : Scope) (cs : List Scope) (t : Scope) → around c (cs ++ t ∷ []) ≡ (let a : Around = record { outer = c ∷ cs; inner = t } in a)
around_last c [] t = refl
around_last c (d ∷ cs) t = ap (λ (a : Around). (let b : Around = record { outer = c ∷ a.outer; inner = a.inner } in b)) (around_last d cs t)

pub last_is : (cs : List Scope) (t : Scope) → last_of (cs ++ t ∷ []) ≡ (let a : Around = record { outer = cs; inner = t } in a)
last_is [] t = refl
last_is (c ∷ cs) t = around_last c cs t

-- ---- routines: the scopes around stay

announced_outer : (r : Routine) (j : Judged (Option ValueType)) (s : Scopes) (cs : List Scope) (t : Scope) → s.outer ≡ cs ++ t ∷ [] → (last_of (headings.announce_judged r j s).outer).outer ≡ cs
unfolding headings.announce add_around keep
announced_outer r (Ok v) s cs t e = ap (λ (a : Around). a.outer) (last_is (last_of s.outer).outer _) ∙ ap (λ (a : Around). a.outer) (ap last_of e ∙ last_is cs t)
announced_outer r (Err fs) s cs t e = ap (λ (a : Around). a.outer) (last_is (last_of s.outer).outer _) ∙ ap (λ (a : Around). a.outer) (ap last_of e ∙ last_is cs t)

closed_outer : (r : Routine) (j : Judged (Option ValueType)) (u : Judged Use) (s : Scopes) → (routines.close_routine_of r j u s).outer ≡ (last_of s.outer).outer
unfolding routines.close_routine settle keep leave
closed_outer r (Ok v) (Ok u) s = refl
closed_outer r _ _ s = refl

routine_outer : (k : Option SystemKind) (s : Scopes) (r : Routine) → (routines.routine_step k s r).scopes.outer ≡ s.outer
unfolding routines.routine_step routines.enter_routine headings.heading enter
routine_outer k s r =
    let h = headings.heading k r (reserve_name s r.name) in
    let a = headings.announce_judged r h.result h.scopes in
    closed_outer r h.result _ (part_steps spot.Other a r.parts).scopes
    ∙ ap (λ cs. (last_of cs).outer) (parts_kept spot.Other a r.parts).outer
    ∙ announced_outer r h.result h.scopes _ _ (written_kept (enter false (reserve_name s r.name).scopes) r.kind).outer
    ∙ (name_reserved s r.name).outer

pub routines_outer : (k : Option SystemKind) (s : Scopes) (rs : List Routine) → (routines.routine_steps k s rs).scopes.outer ≡ s.outer
unfolding routines.routine_steps
routines_outer k s [] = refl
routines_outer k s (r ∷ rs) = routines_outer k (routines.routine_step k s r).scopes rs ∙ routine_outer k s r

-- ---- system types and the program's declarations

pub inside_outer : (s : Scopes) (y : System) → (systems.inside s y).scopes.outer ≡ s.outer
unfolding systems.inside
inside_outer s y = routines_outer (Some y.kind) _ y.routines ∙ (parts_kept (spot.Permanent (Some y.kind)) _ y.parts).outer ∙ (system_groups_kept y.kind s y.parameters).outer

pub system_kept : (s : Scopes) (y : System) → Keeps s (systems.system_type s y).scopes
unfolding systems.system_type systems.enter_system systems.close_system enter leave keep
system_kept s y =
    let back = ap last_of (inside_outer (enter true s) y) ∙ last_is s.outer (sealed true s.inner) in
    record { outer = ap (λ (a : Around). a.outer) back; names = λ x m h. ap (λ (a : Around). find x a.inner.names) back ∙ h }

pub defined_kept : (s : Scopes) (v : Definition) → Keeps s (systems.type_of_definition s v).scopes
unfolding systems.type_of_definition
defined_kept s (type_definition t) = type_kept s spot.Definition t
defined_kept s (system_definition y) = system_kept s y

pub definition_kept : (s : Scopes) (d : SystemDefinition) → Keeps s (systems.definition_step s d).scopes
unfolding systems.definition_step
definition_kept s d =
    let named = name_reserved s d.name in
    let written = defined_kept (reserve_name s d.name).scopes d.value in
    after s (systems.type_of_definition (reserve_name s d.name).scopes d.value).scopes _ (after s (reserve_name s d.name).scopes _ named written) (one_added _ d.name _)

pub definitions_kept : (s : Scopes) (ds : List SystemDefinition) → Keeps s (systems.definition_steps s ds).scopes
unfolding systems.definition_steps
definitions_kept s [] = same s
definitions_kept s (d ∷ ds) = after s (systems.definition_step s d).scopes _ (definition_kept s d) (definitions_kept (systems.definition_step s d).scopes ds)

pub program_part_kept : (s : Scopes) (d : ProgramPart) → Keeps s (systems.program_part_step s d).scopes
unfolding systems.program_part_step
program_part_kept s (program_constants at ds) = constants_kept s ds
program_part_kept s (program_types at ds) = definitions_kept s ds
program_part_kept s (program_variables at gs) = variables_kept (spot.Permanent None) s gs
