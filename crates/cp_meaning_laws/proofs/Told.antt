-- Declarations that break no rule leave no name that stands for nothing.
use Rattle.std.proofs.Common.{◌≡◌, ℕ, ◌+◌, ◌∙◌, Bool, true, false, if◌then◌else◌, List, [], ◌∷◌, ◌++◌, Option, Some, None, Ok, Err, is_some, pos, ap, sym, refl, subst}
use Rattle.cp_meaning_laws.proofs.Words.{bytes_eq, Identifier, SystemKind, CheckFault, C2, Meaning, ValueType, Use, Spot, ArrayShape, ConstantNumber, statements, after_faults}
use Rattle.cp_tree.specs.declared.declaration.SystemKind.TheVariants as system_kind
use Rattle.cp_tree.specs.Syntax.{Simple, type_name, enumeration, subrange, TypeTerm, simple, array_of, set_type, record_of, FieldGroups, no_fields, more_fields, FieldGroup, fields, ConstantDefinition, TypeDefinition, VariableGroup, Part, constants, types, variables, Group, ParameterGroup, RoutineKind, procedure, function, invariants, Routine, System, Definition, type_definition, system_definition, SystemDefinition, ProgramPart, program_constants, program_types, program_variables}
use Rattle.cp_scope.specs.declared.fault.CheckFault.TheVariants as check_fault
use Rattle.cp_scope.specs.declared.types.Meaning.TheVariants as meaning
use Rattle.cp_scope.specs.declared.types.Base.{Base}
use Rattle.cp_scope.specs.declared.types.Range.{Range}
use Rattle.cp_scope.specs.declared.types.ValueType.TheVariants as value_type
use Rattle.cp_scope.specs.Types.{is_open}
use Rattle.cp_scope.specs.Counts.{no_use, times}
use Rattle.cp_scope.specs.Judged.{Judged, both, ◌>>=◌, faults}
use Rattle.cp_scope.specs.Scopes.{Names, Scope, new_scope, Scopes, Shape, record_shape, find, is_declared, through_seal, look_in, or_else, look_outer, look, with_name, sealed, add, reserve, settle, enter, Around, around, last_of, leave, add_around, keep, cells_of, count_of, start}
use Rattle.cp_check.specs.declared.types.Spot.TheVariants as spot
use Rattle.cp_check.specs.declared.types.Holding.{Holding}
use Rattle.cp_check.specs.declared.types.Holding.TheVariants as holds
use Rattle.cp_check.specs.Names as names
use Rattle.cp_check.specs.Constants.{constant}
use Rattle.cp_check.specs.Types as typing
use Rattle.cp_check.specs.Types.{Step, nothing, Typed, typed}
use Rattle.cp_check.specs.Records.{Fields, check_fields_of}
use Rattle.cp_check.specs.Declarations.{meaning_or_none, to_constant, to_kind, to_variable, reserve_name, reserve_names, add_names, add_all, add_one, constant_step, constant_steps, type_step, type_steps, variable_step, variable_steps, part_step, part_steps}
use Rattle.cp_check.specs.Headings as headings
use Rattle.cp_check.specs.Routines as routines
use Rattle.cp_check.specs.Systems as systems
use Rattle.cp_meaning_laws.proofs.Kept.{pending_names, last_is, inside_outer}
use Rattle.cp_meaning_laws.proofs.Once.{no_left, no_right, no_first, none_before}
use Rattle.cp_meaning_laws.proofs.Loud.{Loud, Heard, loud_both, loud_then, loud_if, loud_unless, constant_loud, statements_loud}

abbrev IsTold : Option Meaning → Type 0
IsTold None = ⊥
IsTold (Some m) = Unit {0}

abbrev NamesTold : Names → Type 0
NamesTold [] = Unit {0}
NamesTold (d ∷ ds) = IsTold d.1 × NamesTold ds

abbrev AllTold : List Scope → Type 0
AllTold [] = Unit {0}
AllTold (c ∷ cs) = NamesTold c.names × AllTold cs

abbrev pub Told : Scopes → Type 0
Told s = NamesTold s.inner.names × AllTold s.outer

-- ---- what is visible

abbrev Said : Option (Option Meaning) → Type 0
Said (Some None) = ⊥
Said _ = Unit {0}

said_told : (o : Option Meaning) → IsTold o → Said (Some o)
said_told None h = h
said_told (Some m) h = tt

find_said : (n : List ℕ) (ds : Names) → NamesTold ds → Said (find n ds)
find_said n [] h = tt
find_said n (d ∷ ds) h = go (bytes_eq n d.0) (find_said n ds h.1)
  where
    go : (b : Bool) → Said (find n ds) → Said (if b then Some d.1 else find n ds)
    go true rest = said_told d.1 h.0
    go false rest = rest

seal_said : (o : Option (Option Meaning)) → Said o → Said (through_seal o)
seal_said None h = tt
seal_said (Some None) h = h
seal_said (Some (Some m)) h = go (is_open m)
  where
    go : (b : Bool) → Said (if b then Some (Some m) else None)
    go true = tt
    go false = tt

look_in_said : (n : List ℕ) (c : Scope) → NamesTold c.names → Said (look_in n c)
look_in_said n c h = go c.is_sealed
  where
    go : (b : Bool) → Said (if b then through_seal (find n c.names) else find n c.names)
    go true = seal_said (find n c.names) (find_said n c.names h)
    go false = find_said n c.names h

or_said : (o q : Option (Option Meaning)) → Said o → Said q → Said (or_else o q)
or_said None q h g = g
or_said (Some m) q h g = h

outer_said : (n : List ℕ) (cs : List Scope) → AllTold cs → Said (look_outer n cs)
outer_said n [] h = tt
outer_said n (c ∷ cs) h = or_said (look_outer n cs) (look_in n c) (outer_said n cs h.1) (look_in_said n c h.0)

found_loud : (at : ℕ) (o : Option (Option Meaning)) → Said o → Loud (names.check_visible at o)
found_loud at (Some None) h = h
found_loud at _ h = tt

pub heard : (s : Scopes) → Told s → Heard s
unfolding names.visible
heard s h at n = found_loud at (look n s) (or_said (look_in n s.inner) (look_outer n s.outer) (look_in_said n s.inner h.0) (outer_said n s.outer h.1))

-- ---- one name

append_told : (ds es : Names) → NamesTold ds → NamesTold es → NamesTold (ds ++ es)
append_told [] es h g = g
append_told (d ∷ ds) es h g = (h.0, append_told ds es h.1 g)

with_name_told : (c : Scope) (n : List ℕ) (m : Option Meaning) → NamesTold c.names → IsTold m → NamesTold (with_name c n m).names
with_name_told c n m h g = go (is_some (find n c.names))
  where
    go : (b : Bool) → NamesTold (let e : Scope = (if b then c else record { names = c.names ++ (n, m) ∷ []; pending = c.pending; is_sealed = c.is_sealed }) in e.names)
    go true = h
    go false = append_told c.names ((n, m) ∷ []) h (g, tt)

pub add_told : (s : Scopes) (n : List ℕ) (m : Option Meaning) → Told s → IsTold m → Told (add s n m)
unfolding add
add_told s n m h g = (with_name_told s.inner n m h.0 g, h.1)

reserve_told : (s : Scopes) (n : List ℕ) → Told s → Told (reserve s n)
unfolding reserve
reserve_told s n h = (subst NamesTold (sym (pending_names s.inner n)) h.0, h.1)

pub name_reserved_told : (s : Scopes) (n : Identifier) → Told s → Told (reserve_name s n).scopes
unfolding reserve_name
name_reserved_told s n h = go (is_declared s n.name)
  where
    go : (b : Bool) → Told (let t : Step = (if b then record { faults = check_fault.Rule n.at C2 ∷ []; scopes = s } else nothing (reserve s n.name)) in t.scopes)
    go true = h
    go false = reserve_told s n.name h

pub names_reserved_told : (s : Scopes) (ns : List Identifier) → Told s → Told (reserve_names s ns).scopes
unfolding reserve_names
names_reserved_told s [] h = h
names_reserved_told s (n ∷ ns) h = names_reserved_told (reserve_name s n).scopes ns (name_reserved_told s n h)

settle_told : (s : Scopes) → Told s → Told (settle s)
unfolding settle
settle_told s h = h

keep_told : (s : Scopes) (n : ℕ) (d : Shape) → Told s → Told (keep s n d)
unfolding keep
keep_told s n d h = h

names_added_told : (s : Scopes) (ns : List Identifier) (m : Option Meaning) → Told s → IsTold m → Told (add_names s ns m)
unfolding add_names
names_added_told s [] m h g = h
names_added_told s (n ∷ ns) m h g = names_added_told (add s n.name m) ns m (add_told s n.name m h g) g

judged_told : (j : Judged Meaning) → Loud j → faults j ≡ [] → IsTold (meaning_or_none j)
judged_told (Ok m) h e = tt
judged_told (Err []) h e = h
judged_told (Err (f ∷ fs)) h e = absurd (let bad : f ∷ fs ≡ [] = e in cc)

all_told : (ns : List Identifier) (j : Judged Meaning) (s : Scopes) → Told s → Loud j → faults j ≡ [] → Told (add_all s ns (meaning_or_none j))
unfolding add_all
all_told ns j s h loud e = settle_told (add_names s ns (meaning_or_none j)) (names_added_told s ns (meaning_or_none j) h (judged_told j loud e))

one_told : (n : Identifier) (j : Judged Meaning) (s : Scopes) → Told s → Loud j → faults j ≡ [] → Told (add_one s n (meaning_or_none j))
unfolding add_one
one_told n j s h loud e = settle_told (add s n.name (meaning_or_none j)) (add_told s n.name (meaning_or_none j) h (judged_told j loud e))

-- ---- types

to_type_loud : (at : ℕ) (m : Meaning) → Loud (typing.to_type at m)
to_type_loud at (meaning.Constant b v) = tt
to_type_loud at _ = tt

pub type_named_loud : (s : Scopes) (at : ℕ) (n : List ℕ) → Told s → Loud (typing.type_named s at n)
unfolding typing.type_named
type_named_loud s at n h = loud_then (names.visible s at n) (typing.to_type at) (heard s h at n) (to_type_loud at)

held_loud : (at : ℕ) (p : Spot) (h : Holding) (t : ValueType) → Loud (typing.check_spot_of at p h t)
held_loud at p holds.Plain t = tt
held_loud at p x t = search loud_if

spotted_loud : (at : ℕ) (p : Spot) (h : Holding) (t : ValueType) → Loud (typing.check_spot at p h t)
spotted_loud at (spot.Permanent o) h t = held_loud at (spot.Permanent o) h t
spotted_loud at spot.Definition h t = held_loud at spot.Definition h t
spotted_loud at spot.Element h t = held_loud at spot.Element h t
spotted_loud at spot.Base h t = tt
spotted_loud at spot.Other h t = held_loud at spot.Other h t

type_spotted_loud : (s : Scopes) (p : Spot) (at : ℕ) (n : List ℕ) → Told s → Loud (typing.type_at_spot s p at n)
unfolding typing.type_at_spot
type_spotted_loud s p at n h = loud_then (typing.type_named s at n) (typing.at_spot s p at) (type_named_loud s at n h) (λ t. spotted_loud at p (typing.holding s t) t)

member_told : (s : Scopes) (b : Base) (k : ℕ) (i : Identifier) → Told s → Told (typing.member s b k i).scopes
unfolding typing.member
member_told s b k i h = go (is_declared s i.name)
  where
    go : (c : Bool) → Told (let t : Step = (if c then record { faults = check_fault.Rule i.at C2 ∷ []; scopes = s } else nothing (add s i.name (Some (meaning.Constant b (pos k))))) in t.scopes)
    go true = h
    go false = add_told s i.name (Some (meaning.Constant b (pos k))) h tt

members_told : (s : Scopes) (b : Base) (k : ℕ) (is : List Identifier) → Told s → Told (typing.members s b k is).scopes
unfolding typing.members
members_told s b k [] h = h
members_told s b k (i ∷ is) h = members_told (typing.member s b k i).scopes b (k + 1) is (member_told s b k i h)

unless_type_loud : (fs : List CheckFault) (t : ValueType) → Loud (typing.unless_type fs t)
unless_type_loud [] t = tt
unless_type_loud (f ∷ fs) t = tt

ranged_loud : (at : ℕ) (p : ConstantNumber × ConstantNumber) → Loud (typing.subrange_type at p)
ranged_loud at p = search loud_if

simple_told : (s : Scopes) (p : Spot) (t : Simple) → Told s → Told (typing.simple_type s p t).scopes × Loud (typing.simple_type s p t).type
unfolding typing.simple_type
simple_told s p (type_name at n) h = (h, type_spotted_loud s p at n h)
simple_told s p (enumeration at is) h = (members_told s (typing.base_of at is) 0 is h, unless_type_loud (typing.members s (typing.base_of at is) 0 is).faults _)
simple_told s p (subrange at a b) h = (h, loud_then (both (constant s a) (constant s b)) (typing.subrange_type at) (loud_both (constant s a) (constant s b) (constant_loud s a (heard s h)) (constant_loud s b (heard s h))) (ranged_loud at))

limited_loud : (at n : ℕ) → Loud (typing.check_cells at n)
limited_loud at n = search loud_if

abbrev with_shape : Range → ValueType → ℕ → Unit {0} → Judged ArrayShape
with_shape r e n u = Ok (record { index = r; element = e; cells = n })

array_loud : (s : Scopes) (p : Spot) (at : ℕ) (i e : ValueType) → Loud (typing.array_of_range s p at i e)
array_loud s p at (value_type.Ordinal r) e = loud_then (typing.check_spot at p (typing.holding_array e) (value_type.Array at)) _ (spotted_loud at p (typing.holding_array e) (value_type.Array at)) (λ t. loud_then (typing.check_cells at (times (count_of r) (cells_of e s.shapes))) (with_shape r e (times (count_of r) (cells_of e s.shapes))) (limited_loud at (times (count_of r) (cells_of e s.shapes))) (λ u. tt))
array_loud s p at _ e = tt

arrayed_loud : (s : Scopes) (p : Spot) (at : ℕ) (q : ValueType × ValueType) → Loud (typing.shape_of_array s p at q)
unfolding typing.shape_of_array
arrayed_loud s p at q = array_loud s p at q.0 q.1

array_kept_told : (s : Scopes) (at : ℕ) (j : Judged ArrayShape) → Told s → Told (typing.keep_array s at j)
array_kept_told s at (Ok a) h = keep_told s at _ h
array_kept_told s at (Err fs) h = h

array_typed_told : (p : Spot) (at : ℕ) (i : Judged ValueType) (e : Typed) → Loud i → Told e.scopes → Loud e.type → Told (typing.array_type p at i e).scopes × Loud (typing.array_type p at i e).type
array_typed_told p at i e loud told element =
    let heard_shape : Loud (both i e.type >>= typing.shape_of_array e.scopes p at) = loud_then (both i e.type) (typing.shape_of_array e.scopes p at) (loud_both i e.type loud element) (arrayed_loud e.scopes p at) in
    (array_kept_told e.scopes at (both i e.type >>= typing.shape_of_array e.scopes p at) told, loud_then (both i e.type >>= typing.shape_of_array e.scopes p at) (typing.to_array at) heard_shape (λ a. tt))

set_of_loud : (at base_at : ℕ) (t : ValueType) → Loud (typing.set_of at base_at t)
set_of_loud at base_at (value_type.Ordinal r) = search loud_if
set_of_loud at base_at _ = tt

sound_loud : (fs : List CheckFault) (f : Scope) → Loud (check_fields_of fs f)
sound_loud [] f = tt
sound_loud (e ∷ es) f = tt

record_kept_told : (s : Scopes) (at : ℕ) (j : Judged Shape) → Told s → Told (typing.keep_record s at j)
record_kept_told s at (Ok d) h = keep_told s at d h
record_kept_told s at (Err fs) h = h

abbrev with_record : Scope → ℕ → Unit {0} → Judged Shape
with_record f n u = Ok (record_shape f n)

recorded_loud : (at : ℕ) (f : Fields) → Loud (typing.sound_shape at f)
recorded_loud at f = loud_then (check_fields_of f.faults f.fields) (typing.shape_within_limits f.scopes at) (sound_loud f.faults f.fields) (λ c. loud_then (typing.check_cells at (typing.cells_in c f.scopes)) (with_record c (typing.cells_in c f.scopes)) (limited_loud at (typing.cells_in c f.scopes)) (λ u. tt))

mutual
  unfolding typed

  pub type_told : (s : Scopes) (p : Spot) (t : TypeTerm) → Told s → Told (typed s p t).scopes × Loud (typed s p t).type
  type_told s p (simple at t) h = simple_told s p t h
  type_told s p (array_of at i e) h =
      let index = simple_told s spot.Other i h in
      let element = type_told (typing.simple_type s spot.Other i).scopes spot.Element e index.0 in
      array_typed_told p at (typing.simple_type s spot.Other i).type (typed (typing.simple_type s spot.Other i).scopes spot.Element e) index.1 element.0 element.1
  type_told s p (set_type at b) h =
      let base = simple_told s spot.Base b h in
      (base.0, loud_then (typing.simple_type s spot.Base b).type (typing.set_of at (typing.simple_at b)) base.1 (set_of_loud at (typing.simple_at b)))
  type_told s p (record_of at gs b) h =
      (record_kept_told (typing.groups_typed new_scope s gs).scopes at (typing.sound_shape at (typing.groups_typed new_scope s gs)) (groups_told new_scope s gs h), loud_then (typing.sound_shape at (typing.groups_typed new_scope s gs)) (typing.to_record at) (recorded_loud at (typing.groups_typed new_scope s gs)) (λ d. tt))

  groups_told : (f : Scope) (s : Scopes) (gs : FieldGroups) → Told s → Told (typing.groups_typed f s gs).scopes
  groups_told f s no_fields h = h
  groups_told f s (more_fields g gs) h = groups_told (typing.group_typed f s g).fields (typing.group_typed f s g).scopes gs (group_told f s g h)

  group_told : (f : Scope) (s : Scopes) (g : FieldGroup) → Told s → Told (typing.group_typed f s g).scopes
  group_told f s (fields is t) h = (type_told s spot.Other t h).0

-- ---- declarations

constant_told : (s : Scopes) (d : ConstantDefinition) → (constant_step s d).faults ≡ [] → Told s → Told (constant_step s d).scopes
unfolding constant_step
constant_told s d e h =
    let named = name_reserved_told s d.name h in
    one_told d.name (constant (reserve_name s d.name).scopes d.value >>= to_constant) (reserve_name s d.name).scopes named
    (loud_then (constant (reserve_name s d.name).scopes d.value) to_constant (constant_loud (reserve_name s d.name).scopes d.value (heard (reserve_name s d.name).scopes named)) (λ n. tt))
    (no_right (reserve_name s d.name).faults (faults (constant (reserve_name s d.name).scopes d.value >>= to_constant)) e)

pub constants_told : (s : Scopes) (ds : List ConstantDefinition) → (constant_steps s ds).faults ≡ [] → Told s → Told (constant_steps s ds).scopes
unfolding constant_steps
constants_told s [] e h = h
constants_told s (d ∷ ds) e h = constants_told (constant_step s d).scopes ds (no_right (constant_step s d).faults (constant_steps (constant_step s d).scopes ds).faults e) (constant_told s d (no_left (constant_step s d).faults (constant_steps (constant_step s d).scopes ds).faults e) h)

-- what a written type leaves under its name
kind_told : (n : Identifier) (t : Typed) → Told t.scopes → Loud t.type → faults (t.type >>= to_kind) ≡ [] → Told (add_one t.scopes n (meaning_or_none (t.type >>= to_kind)))
kind_told n t told loud e = one_told n (t.type >>= to_kind) t.scopes told (loud_then t.type to_kind loud (λ v. tt)) e

type_step_told : (s : Scopes) (d : TypeDefinition) → (type_step s d).faults ≡ [] → Told s → Told (type_step s d).scopes
unfolding type_step
type_step_told s d e h =
    let written = type_told (reserve_name s d.name).scopes spot.Definition d.value (name_reserved_told s d.name h) in
    kind_told d.name (typed (reserve_name s d.name).scopes spot.Definition d.value) written.0 written.1 (no_right (reserve_name s d.name).faults (faults ((typed (reserve_name s d.name).scopes spot.Definition d.value).type >>= to_kind)) e)

pub types_told : (s : Scopes) (ds : List TypeDefinition) → (type_steps s ds).faults ≡ [] → Told s → Told (type_steps s ds).scopes
unfolding type_steps
types_told s [] e h = h
types_told s (d ∷ ds) e h = types_told (type_step s d).scopes ds (no_right (type_step s d).faults (type_steps (type_step s d).scopes ds).faults e) (type_step_told s d (no_left (type_step s d).faults (type_steps (type_step s d).scopes ds).faults e) h)

variable_told : (p : Spot) (s : Scopes) (g : VariableGroup) → (variable_step p s g).faults ≡ [] → Told s → Told (variable_step p s g).scopes
unfolding variable_step
variable_told p s g e h =
    let written = type_told (reserve_names s g.names).scopes p g.variable_type (names_reserved_told s g.names h) in
    all_told g.names ((typed (reserve_names s g.names).scopes p g.variable_type).type >>= to_variable) (typed (reserve_names s g.names).scopes p g.variable_type).scopes written.0
    (loud_then (typed (reserve_names s g.names).scopes p g.variable_type).type to_variable written.1 (λ t. tt))
    (no_right (reserve_names s g.names).faults (faults ((typed (reserve_names s g.names).scopes p g.variable_type).type >>= to_variable)) e)

pub variables_told : (p : Spot) (s : Scopes) (gs : List VariableGroup) → (variable_steps p s gs).faults ≡ [] → Told s → Told (variable_steps p s gs).scopes
unfolding variable_steps
variables_told p s [] e h = h
variables_told p s (g ∷ gs) e h = variables_told p (variable_step p s g).scopes gs (no_right (variable_step p s g).faults (variable_steps p (variable_step p s g).scopes gs).faults e) (variable_told p s g (no_left (variable_step p s g).faults (variable_steps p (variable_step p s g).scopes gs).faults e) h)

part_told : (p : Spot) (s : Scopes) (d : Part) → (part_step p s d).faults ≡ [] → Told s → Told (part_step p s d).scopes
unfolding part_step
part_told p s (constants at ds) e h = constants_told s ds e h
part_told p s (types at ds) e h = types_told s ds e h
part_told p s (variables at gs) e h = variables_told p s gs e h

pub parts_told : (p : Spot) (s : Scopes) (ds : List Part) → (part_steps p s ds).faults ≡ [] → Told s → Told (part_steps p s ds).scopes
unfolding part_steps
parts_told p s [] e h = h
parts_told p s (d ∷ ds) e h = parts_told p (part_step p s d).scopes ds (no_right (part_step p s d).faults (part_steps p (part_step p s d).scopes ds).faults e) (part_told p s d (no_left (part_step p s d).faults (part_steps p (part_step p s d).scopes ds).faults e) h)

-- ---- headings of routines

admitted_loud : (at : ℕ) (h : Holding) (t : ValueType) → Loud (headings.check_parameter_type at h t)
admitted_loud at (holds.Component system_kind.Class) t = tt
admitted_loud at _ t = tt

parameter_type_loud : (s : Scopes) (g : Group) → Told s → Loud (headings.parameter_type s g)
unfolding headings.parameter_type
parameter_type_loud s g h = loud_then (typing.type_named s g.type_name.at g.type_name.name) (headings.check_parameter_type_in s g.type_name.at) (type_named_loud s g.type_name.at g.type_name.name h) (λ t. admitted_loud g.type_name.at (typing.holding s t) t)

routine_group_told : (b : Bool) (s : Scopes) (g : Group) → (headings.group_step b s g).faults ≡ [] → Told s → Told (headings.group_step b s g).scopes
unfolding headings.group_step
routine_group_told b s g e h =
    let named = names_reserved_told s g.names h in
    all_told g.names (headings.parameter_type (reserve_names s g.names).scopes g >>= headings.to_parameter b) (reserve_names s g.names).scopes named
    (loud_then (headings.parameter_type (reserve_names s g.names).scopes g) (headings.to_parameter b) (parameter_type_loud (reserve_names s g.names).scopes g named) (λ t. tt))
    (no_right (reserve_names s g.names).faults (faults (headings.parameter_type (reserve_names s g.names).scopes g >>= headings.to_parameter b)) e)

routine_groups_told : (s : Scopes) (gs : List Group) → (headings.group_steps s gs).faults ≡ [] → Told s → Told (headings.group_steps s gs).scopes
unfolding headings.group_steps
routine_groups_told s [] e h = h
routine_groups_told s (g ∷ gs) e h = routine_groups_told (headings.group_step false s g).scopes gs (no_right (headings.group_step false s g).faults (headings.group_steps (headings.group_step false s g).scopes gs).faults e) (routine_group_told false s g (no_left (headings.group_step false s g).faults (headings.group_steps (headings.group_step false s g).scopes gs).faults e) h)

parameters_told : (s : Scopes) (gs : List ParameterGroup) → (headings.parameter_steps s gs).faults ≡ [] → Told s → Told (headings.parameter_steps s gs).scopes
unfolding headings.parameter_steps
parameters_told s [] e h = h
parameters_told s (g ∷ gs) e h = parameters_told (headings.parameter_step s g).scopes gs (no_right (headings.parameter_step s g).faults (headings.parameter_steps (headings.parameter_step s g).scopes gs).faults e) (routine_group_told g.is_var s g.group (no_left (headings.parameter_step s g).faults (headings.parameter_steps (headings.parameter_step s g).scopes gs).faults e) h)

returned_loud : (at : ℕ) (h : Holding) (t : ValueType) → Loud (headings.check_result_type at h t)
returned_loud at holds.Plain t = tt
returned_loud at _ t = tt

result_loud : (s : Scopes) (i : Identifier) → Told s → Loud (headings.result_type s i)
unfolding headings.result_type
result_loud s i h = loud_then (typing.type_named s i.at i.name >>= headings.check_result_type_in s i.at) headings.some_type (loud_then (typing.type_named s i.at i.name) (headings.check_result_type_in s i.at) (type_named_loud s i.at i.name h) (λ t. returned_loud i.at (typing.holding s t) t)) (λ t. tt)

after_loud : {A : Type 0} (fs : List CheckFault) (j : Judged A) → (fs ≡ [] → Loud j) → Loud (after_faults fs j)
after_loud [] j g = g refl
after_loud (f ∷ fs) j g = tt

pub none_after : {A : Type 0} (fs : List CheckFault) (j : Judged A) → faults (after_faults fs j) ≡ [] → faults j ≡ []
none_after [] j h = h
none_after (f ∷ fs) j h = absurd (let bad : f ∷ (fs ++ faults j) ≡ [] = h in cc)

written_loud : (s : Scopes) (k : RoutineKind) → Told s → Loud (headings.parameters_and_result s k).result
unfolding headings.parameters_and_result
written_loud s (procedure gs) h = after_loud (headings.parameter_steps s gs).faults (Ok None) (λ e. tt)
written_loud s (function gs i) h = after_loud (headings.group_steps s gs).faults (headings.result_type (headings.group_steps s gs).scopes i) (λ e. result_loud (headings.group_steps s gs).scopes i (routine_groups_told s gs e h))
written_loud s invariants h = after_loud (headings.parameter_steps s []).faults (Ok None) (λ e. tt)

pub written_told : (s : Scopes) (k : RoutineKind) → faults (headings.parameters_and_result s k).result ≡ [] → Told s → Told (headings.parameters_and_result s k).scopes
unfolding headings.parameters_and_result
written_told s (procedure gs) e h = parameters_told s gs (none_before {A = Option ValueType} (headings.parameter_steps s gs).faults (Ok None) e) h
written_told s (function gs i) e h = routine_groups_told s gs (none_before (headings.group_steps s gs).faults (headings.result_type (headings.group_steps s gs).scopes i) e) h
written_told s invariants e h = parameters_told s [] (none_before {A = Option ValueType} (headings.parameter_steps s []).faults (Ok None) e) h

-- ---- in and out of scopes

all_append : (cs ds : List Scope) → AllTold cs → AllTold ds → AllTold (cs ++ ds)
all_append [] ds h g = g
all_append (c ∷ cs) ds h g = (h.0, all_append cs ds h.1 g)

pub enter_told : (b : Bool) (s : Scopes) → Told s → Told (enter b s)
unfolding enter
enter_told b s h = (tt, all_append s.outer (sealed b s.inner ∷ []) h.1 (h.0, tt))

around_told : (c : Scope) (cs : List Scope) → NamesTold c.names → AllTold cs → AllTold (around c cs).outer × NamesTold (around c cs).inner.names
around_told c [] h g = (tt, h)
around_told c (d ∷ cs) h g = let rest = around_told d cs g.0 g.1 in ((h, rest.0), rest.1)

last_told : (cs : List Scope) → AllTold cs → AllTold (last_of cs).outer × NamesTold (last_of cs).inner.names
last_told [] h = (tt, tt)
last_told (c ∷ cs) h = around_told c cs h.0 h.1

leave_told : (s : Scopes) → Told s → Told (leave s)
unfolding leave
leave_told s h = let last = last_told s.outer h.1 in (last.1, last.0)

add_around_told : (s : Scopes) (n : List ℕ) (m : Option Meaning) → Told s → IsTold m → Told (add_around s n m)
unfolding add_around
add_around_told s n m h g =
    let last = last_told s.outer h.1 in
    (h.0, all_append (last_of s.outer).outer (with_name (last_of s.outer).inner n m ∷ []) last.0 (with_name_told (last_of s.outer).inner n m last.1 g, tt))

-- ---- routines

pub announced_told : (r : Routine) (j : Judged (Option ValueType)) (s : Scopes) → Loud j → faults j ≡ [] → Told s → Told (headings.announce_judged r j s)
unfolding headings.announce
announced_told r (Ok t) s loud e h = add_around_told (keep s r.name.at _) r.name.name (Some (meaning.Routine r.name.at)) (keep_told s r.name.at _ h) tt
announced_told r (Err []) s loud e h = absurd loud
announced_told r (Err (f ∷ fs)) s loud e h = absurd (let bad : f ∷ fs ≡ [] = e in cc)

closed_told : (r : Routine) (j : Judged (Option ValueType)) (u : Judged Use) (s : Scopes) → Loud j → faults j ≡ [] → Loud u → faults u ≡ [] → Told s → Told (routines.close_routine_of r j u s)
unfolding routines.close_routine
closed_told r (Ok t) (Ok u) s a b c d h = settle_told (keep (leave s) r.body.at _) (keep_told (leave s) r.body.at _ (leave_told s h))
closed_told r (Ok t) (Err []) s a b c d h = absurd c
closed_told r (Ok t) (Err (f ∷ fs)) s a b c d h = absurd (let bad : f ∷ fs ≡ [] = d in cc)
closed_told r (Err []) u s a b c d h = absurd a
closed_told r (Err (f ∷ fs)) u s a b c d h = absurd (let bad : f ∷ fs ≡ [] = b in cc)

-- the heading has a result, and its scopes no name that stands for nothing
pub heading_loud : (k : Option SystemKind) (r : Routine) (d : Step) → Told d.scopes → Loud (headings.heading k r d).result
unfolding headings.heading
heading_loud k r d h =
    loud_then (after_faults d.faults (headings.parameters_and_result (enter false d.scopes) r.kind).result) (headings.check_heading k r)
    (after_loud d.faults (headings.parameters_and_result (enter false d.scopes) r.kind).result (λ e. written_loud (enter false d.scopes) r.kind (enter_told false d.scopes h)))
    (λ t. loud_unless (headings.heading_faults k r t) t)

pub heading_told : (k : Option SystemKind) (r : Routine) (d : Step) → faults (headings.heading k r d).result ≡ [] → Told d.scopes → Told (headings.heading k r d).scopes
unfolding headings.heading
heading_told k r d e h =
    written_told (enter false d.scopes) r.kind (none_after d.faults (headings.parameters_and_result (enter false d.scopes) r.kind).result (no_first (after_faults d.faults (headings.parameters_and_result (enter false d.scopes) r.kind).result) (headings.check_heading k r) e)) (enter_told false d.scopes h)

body_loud : (k : Option SystemKind) (r : Routine) (d : Step) → (d.faults ≡ [] → Told d.scopes) → Loud (routines.body_after k r d).uses
body_loud k r d h = after_loud d.faults (statements d.scopes (routines.routine_context k r) (Ok no_use) r.body.statements) (λ e. statements_loud d.scopes (routines.routine_context k r) (heard d.scopes (h e)) r.body.statements (Ok no_use) tt)

headed_told : (k : Option SystemKind) (r : Routine) (h : headings.Headed) → (routines.routine_after_heading k r h).faults ≡ [] → Loud h.result → (faults h.result ≡ [] → Told h.scopes) → Told (routines.routine_after_heading k r h).scopes
unfolding routines.enter_routine
headed_told k r h e loud told =
    let none : faults h.result ≡ [] = no_left (faults h.result) (faults (routines.body_after k r (part_steps spot.Other (headings.announce_judged r h.result h.scopes) r.parts)).uses) e in
    let quiet : faults (routines.body_after k r (part_steps spot.Other (headings.announce_judged r h.result h.scopes) r.parts)).uses ≡ [] = no_right (faults h.result) (faults (routines.body_after k r (part_steps spot.Other (headings.announce_judged r h.result h.scopes) r.parts)).uses) e in
    let before : Told (headings.announce_judged r h.result h.scopes) = announced_told r h.result h.scopes loud none (told none) in
    let parts : (part_steps spot.Other (headings.announce_judged r h.result h.scopes) r.parts).faults ≡ [] → Told (part_steps spot.Other (headings.announce_judged r h.result h.scopes) r.parts).scopes = (λ f. parts_told spot.Other (headings.announce_judged r h.result h.scopes) r.parts f before) in
    closed_told r h.result (routines.body_after k r (part_steps spot.Other (headings.announce_judged r h.result h.scopes) r.parts)).uses (part_steps spot.Other (headings.announce_judged r h.result h.scopes) r.parts).scopes loud none
    (body_loud k r (part_steps spot.Other (headings.announce_judged r h.result h.scopes) r.parts) parts)
    quiet
    (parts (none_before (part_steps spot.Other (headings.announce_judged r h.result h.scopes) r.parts).faults (statements (part_steps spot.Other (headings.announce_judged r h.result h.scopes) r.parts).scopes (routines.routine_context k r) (Ok no_use) r.body.statements) quiet))

pub routine_told : (k : Option SystemKind) (s : Scopes) (r : Routine) → (routines.routine_step k s r).faults ≡ [] → Told s → Told (routines.routine_step k s r).scopes
unfolding routines.routine_step
routine_told k s r e h =
    headed_told k r (headings.heading k r (reserve_name s r.name)) e (heading_loud k r (reserve_name s r.name) (name_reserved_told s r.name h)) (λ none. heading_told k r (reserve_name s r.name) none (name_reserved_told s r.name h))

pub routines_told : (k : Option SystemKind) (s : Scopes) (rs : List Routine) → (routines.routine_steps k s rs).faults ≡ [] → Told s → Told (routines.routine_steps k s rs).scopes
unfolding routines.routine_steps
routines_told k s [] e h = h
routines_told k s (r ∷ rs) e h = routines_told k (routines.routine_step k s r).scopes rs (no_right (routines.routine_step k s r).faults (routines.routine_steps k (routines.routine_step k s r).scopes rs).faults e) (routine_told k s r (no_left (routines.routine_step k s r).faults (routines.routine_steps k (routines.routine_step k s r).scopes rs).faults e) h)

-- ---- system types

component_admitted_loud : (at : ℕ) (o k : SystemKind) (t : ValueType) → Loud (systems.check_component_parameter at o k t)
component_admitted_loud at system_kind.Class system_kind.Class t = tt
component_admitted_loud at system_kind.Monitor system_kind.Class t = tt
component_admitted_loud at system_kind.Process system_kind.Class t = tt
component_admitted_loud at _ _ t = tt

system_admitted_loud : (at : ℕ) (o : SystemKind) (h : Holding) (t : ValueType) → Loud (systems.check_parameter_type at o h t)
system_admitted_loud at o (holds.Component k) t = component_admitted_loud at o k t
system_admitted_loud at o _ t = tt

pub system_parameter_loud : (o : SystemKind) (s : Scopes) (g : Group) → Told s → Loud (systems.parameter_type o s g)
unfolding systems.parameter_type
system_parameter_loud o s g h = loud_then (typing.type_named s g.type_name.at g.type_name.name) (systems.check_parameter_type_in s g.type_name.at o) (type_named_loud s g.type_name.at g.type_name.name h) (λ t. system_admitted_loud g.type_name.at o (typing.holding s t) t)

system_group_told : (o : SystemKind) (s : Scopes) (g : Group) → (systems.group_step o s g).faults ≡ [] → Told s → Told (systems.group_step o s g).scopes
unfolding systems.group_step
system_group_told o s g e h =
    let named = names_reserved_told s g.names h in
    all_told g.names (systems.parameter_type o (reserve_names s g.names).scopes g >>= systems.to_parameter) (reserve_names s g.names).scopes named
    (loud_then (systems.parameter_type o (reserve_names s g.names).scopes g) systems.to_parameter (system_parameter_loud o (reserve_names s g.names).scopes g named) (λ t. tt))
    (no_right (reserve_names s g.names).faults (faults (systems.parameter_type o (reserve_names s g.names).scopes g >>= systems.to_parameter)) e)

pub system_groups_told : (o : SystemKind) (s : Scopes) (gs : List Group) → (systems.group_steps o s gs).faults ≡ [] → Told s → Told (systems.group_steps o s gs).scopes
unfolding systems.group_steps
system_groups_told o s [] e h = h
system_groups_told o s (g ∷ gs) e h = system_groups_told o (systems.group_step o s g).scopes gs (no_right (systems.group_step o s g).faults (systems.group_steps o (systems.group_step o s g).scopes gs).faults e) (system_group_told o s g (no_left (systems.group_step o s g).faults (systems.group_steps o (systems.group_step o s g).scopes gs).faults e) h)

pub inside_told : (s : Scopes) (y : System) → (systems.inside s y).faults ≡ [] → Told s → Told (systems.inside s y).scopes
unfolding systems.inside
inside_told s y e h =
    let later = no_right (systems.group_steps y.kind s y.parameters).faults _ e in
    routines_told (Some y.kind) (part_steps (spot.Permanent (Some y.kind)) (systems.group_steps y.kind s y.parameters).scopes y.parts).scopes y.routines
    (no_right (part_steps (spot.Permanent (Some y.kind)) (systems.group_steps y.kind s y.parameters).scopes y.parts).faults _ later)
    (parts_told (spot.Permanent (Some y.kind)) (systems.group_steps y.kind s y.parameters).scopes y.parts (no_left (part_steps (spot.Permanent (Some y.kind)) (systems.group_steps y.kind s y.parameters).scopes y.parts).faults _ later)
    (system_groups_told y.kind s y.parameters (no_left (systems.group_steps y.kind s y.parameters).faults _ e) h))

uses_loud : (y : System) (d : Step) → (d.faults ≡ [] → Told d.scopes) → Loud (systems.body_after y d).uses
uses_loud y d h = after_loud d.faults (statements d.scopes (systems.initial_context y.kind) (Ok no_use) y.body.statements) (λ e. statements_loud d.scopes (systems.initial_context y.kind) (heard d.scopes (h e)) y.body.statements (Ok no_use) tt)

pub system_loud : (s : Scopes) (y : System) → Told s → Loud (systems.system_type s y).type
unfolding systems.system_type systems.enter_system
system_loud s y h = loud_then (systems.body_after y (systems.inside (enter true s) y)).uses (systems.to_component y.kind y.at) (uses_loud y (systems.inside (enter true s) y) (λ e. inside_told (enter true s) y e (enter_told true s h))) (λ u. tt)

-- the names of the scope around a system type stay as they are
pub system_names : (s : Scopes) (y : System) → (systems.system_type s y).scopes.inner.names ≡ s.inner.names
unfolding systems.system_type systems.enter_system systems.close_system enter leave keep
system_names s y = ap (λ (a : Around). a.inner.names) (ap last_of (inside_outer (enter true s) y) ∙ last_is s.outer (sealed true s.inner))

system_outer : (s : Scopes) (y : System) → (systems.system_type s y).scopes.outer ≡ s.outer
unfolding systems.system_type systems.enter_system systems.close_system enter leave keep
system_outer s y = ap (λ (a : Around). a.outer) (ap last_of (inside_outer (enter true s) y) ∙ last_is s.outer (sealed true s.inner))

pub system_told : (s : Scopes) (y : System) → Told s → Told (systems.system_type s y).scopes
system_told s y h = (subst NamesTold (sym (system_names s y)) h.0, subst AllTold (sym (system_outer s y)) h.1)

-- ---- the program's declarations

pub defined_told : (s : Scopes) (v : Definition) → Told s → Told (systems.type_of_definition s v).scopes × Loud (systems.type_of_definition s v).type
unfolding systems.type_of_definition
defined_told s (type_definition t) h = type_told s spot.Definition t h
defined_told s (system_definition y) h = (system_told s y h, system_loud s y h)

pub definition_told : (s : Scopes) (d : SystemDefinition) → (systems.definition_step s d).faults ≡ [] → Told s → Told (systems.definition_step s d).scopes
unfolding systems.definition_step
definition_told s d e h =
    let written = defined_told (reserve_name s d.name).scopes d.value (name_reserved_told s d.name h) in
    kind_told d.name (systems.type_of_definition (reserve_name s d.name).scopes d.value) written.0 written.1 (no_right (reserve_name s d.name).faults (faults ((systems.type_of_definition (reserve_name s d.name).scopes d.value).type >>= to_kind)) e)

pub definitions_told : (s : Scopes) (ds : List SystemDefinition) → (systems.definition_steps s ds).faults ≡ [] → Told s → Told (systems.definition_steps s ds).scopes
unfolding systems.definition_steps
definitions_told s [] e h = h
definitions_told s (d ∷ ds) e h = definitions_told (systems.definition_step s d).scopes ds (no_right (systems.definition_step s d).faults (systems.definition_steps (systems.definition_step s d).scopes ds).faults e) (definition_told s d (no_left (systems.definition_step s d).faults (systems.definition_steps (systems.definition_step s d).scopes ds).faults e) h)

pub program_part_told : (s : Scopes) (q : ProgramPart) → (systems.program_part_step s q).faults ≡ [] → Told s → Told (systems.program_part_step s q).scopes
unfolding systems.program_part_step
program_part_told s (program_constants at ds) e h = constants_told s ds e h
program_part_told s (program_types at ds) e h = definitions_told s ds e h
program_part_told s (program_variables at gs) e h = variables_told (spot.Permanent None) s gs e h

pub start_told : Told start
unfolding enter add
start_told = (tt, ((tt, (tt, (tt, (tt, (tt, (tt, (tt, (tt, (tt, (tt, (tt, (tt, (tt, (tt, (tt, tt))))))))))))))), tt))
