-- Constants, types and variables that are declared leave the parameters of a scope as they were, and its routines.
use Rattle.std.proofs.Common.{◌≡◌, ℕ, ◌+◌, Bool, true, false, if◌then◌else◌, List, [], ◌∷◌, ◌++◌, Option, Some, None, Ok, Err, is_some, pos, refl, sym, ap, ◌∙◌, append_assoc}
use Rattle.cp_resolved.proofs.Words.{bytes_eq, Identifier, C2, ValueType, Meaning, ArrayShape, Judged, ◌>>=◌, ConstantNumber, Spot}
use Rattle.std.proofs.lemmas.List.{append-nil}
use Rattle.cp_tree.specs.Syntax.{Simple, enumeration, TypeTerm, simple, array_of, set_type, record_of, FieldGroups, no_fields, more_fields, FieldGroup, fields, ConstantDefinition, TypeDefinition, VariableGroup, Part, constants, types, variables}
use Rattle.cp_scope.specs.declared.fault.CheckFault.TheVariants as check_fault
use Rattle.cp_scope.specs.declared.types.Base.{Base}
use Rattle.cp_scope.specs.declared.types.Meaning.TheVariants as meaning
use Rattle.cp_scope.specs.declared.types.Parameter.{Parameter}
use Rattle.cp_scope.specs.Scopes.{Names, Scope, new_scope, Scopes, Shape, or_else, find, is_declared, parameter_in, parameters_in, with_some, with_name, add, reserve, settle, keep}
use Rattle.cp_check.specs.declared.types.Spot.TheVariants as spot
use Rattle.cp_check.specs.Constants.{constant}
use Rattle.cp_check.specs.Types.{Step, nothing, member, members, simple_type, keep_array, keep_record, typed, groups_typed, group_typed}
use Rattle.cp_check.specs.Declarations.{meaning_or_none, reserve_name, reserve_names, add_names, add_all, add_one, to_constant, to_kind, to_variable, constant_step, constant_steps, type_step, type_steps, variable_step, variable_steps, part_step, part_steps}
use Rattle.cp_meaning_laws.proofs.Kept.{pending_names}
use Rattle.cp_resolved.proofs.agreeing.AgreeingParameters.{read_both}

-- neither a parameter nor a routine
abbrev pub IsDeclared : Option Meaning → Type 0
IsDeclared (Some (meaning.Parameter v)) = ⊥
IsDeclared (Some (meaning.Reference v)) = ⊥
IsDeclared (Some (meaning.Routine n)) = ⊥
IsDeclared (Some (meaning.Predeclared q)) = ⊥
IsDeclared _ = Unit {0}

abbrev pub AreDeclared : Names → Type 0
AreDeclared [] = Unit {0}
AreDeclared (d ∷ ds) = IsDeclared d.1 × AreDeclared ds

-- some names more
pub record Longer (c t : Scope) : Type 0 where
  pub more : Names
  pub is : t.names ≡ c.names ++ more
  pub declared : AreDeclared more

abbrev pub Reads : Scopes → Scopes → Type 0
Reads s t = Longer s.inner t.inner

same : (c t : Scope) → t.names ≡ c.names → Longer c t
same c t e = record { more = []; is = e ∙ sym (append-nil c.names); declared = tt }

declared_both : (ds es : Names) → AreDeclared ds → AreDeclared es → AreDeclared (ds ++ es)
declared_both [] es h g = g
declared_both (d ∷ ds) es h g = (h.0, declared_both ds es h.1 g)

after : (c d e : Scope) → Longer d e → Longer c d → Longer c e
after c d e h g =
    record {
      more = g.more ++ h.more;
      is = h.is ∙ ap (λ (ns : Names). ns ++ h.more) g.is ∙ append_assoc c.names g.more h.more;
      declared = declared_both g.more h.more g.declared h.declared;
    }

no_parameter : (o : Option Meaning) → IsDeclared o → parameter_in o ≡ None
no_parameter (Some (meaning.Parameter v)) h = absurd h
no_parameter (Some (meaning.Reference v)) h = absurd h
no_parameter (Some (meaning.Routine n)) h = absurd h
no_parameter (Some (meaning.Predeclared q)) h = absurd h
no_parameter _ h = refl

none_read : (ds : Names) → AreDeclared ds → parameters_in ds ≡ []
unfolding parameters_in
none_read [] h = refl
none_read (d ∷ ds) h = ap (λ (p : Option Parameter). with_some p (parameters_in ds)) (no_parameter d.1 h.0) ∙ none_read ds h.1

-- so it has the parameters that it had
pub longer_read : (c t : Scope) → Longer c t → parameters_in t.names ≡ parameters_in c.names
longer_read c t h = ap parameters_in h.is ∙ read_both c.names h.more ∙ ap (λ (as' : List Parameter). parameters_in c.names ++ as') (none_read h.more h.declared) ∙ append-nil (parameters_in c.names)

no_routine : (x : List ℕ) (ds : Names) (n : ℕ) → AreDeclared ds → find x ds ≡ Some (Some (meaning.Routine n)) → ⊥
no_routine x [] n h e = cc
no_routine x (d ∷ ds) n h e = go (bytes_eq x d.0) (λ i. no_routine x ds n h.1 i) e
  where
    one : (o : Option Meaning) → IsDeclared o → Some o ≡ Some (Some (meaning.Routine n)) → ⊥
    one None g i = cc
    one (Some (meaning.Constant b z)) g i = cc
    one (Some (meaning.Kind v)) g i = cc
    one (Some (meaning.Variable v)) g i = cc
    one (Some (meaning.Parameter v)) g i = g
    one (Some (meaning.Reference v)) g i = g
    one (Some (meaning.Routine k)) g i = g
    one (Some (meaning.Predeclared q)) g i = g

    go : (b : Bool) → (find x ds ≡ Some (Some (meaning.Routine n)) → ⊥) → (if b then Some d.1 else find x ds) ≡ Some (Some (meaning.Routine n)) → ⊥
    go true k i = one d.1 h.0 i
    go false k i = k i

find_both : (x : List ℕ) (ds es : Names) → find x (ds ++ es) ≡ or_else (find x ds) (find x es)
find_both x [] es = refl
find_both x (d ∷ ds) es = go (bytes_eq x d.0) (find_both x ds es)
  where
    go : (b : Bool) → find x (ds ++ es) ≡ or_else (find x ds) (find x es) → (if b then Some d.1 else find x (ds ++ es)) ≡ or_else (if b then Some d.1 else find x ds) (find x es)
    go true h = refl
    go false h = h

-- and a routine that is found was there
pub longer_routine : (c t : Scope) (x : List ℕ) (o : Option (Option Meaning)) (n : ℕ) → Longer c t → or_else (find x t.names) o ≡ Some (Some (meaning.Routine n)) → or_else (find x c.names) o ≡ Some (Some (meaning.Routine n))
longer_routine c t x o n h e = go (find x c.names) (find x h.more) refl (sym (ap (λ q. or_else q o) (ap (find x) h.is ∙ find_both x c.names h.more)) ∙ e)
  where
    go : (q r : Option (Option Meaning)) → find x h.more ≡ r → or_else (or_else q (find x h.more)) o ≡ Some (Some (meaning.Routine n)) → or_else q o ≡ Some (Some (meaning.Routine n))
    go (Some m) r is i = i
    go None None is i = sym (ap (λ q. or_else q o) is) ∙ i
    go None (Some m) is i = absurd (no_routine x h.more n h.declared (is ∙ (sym (ap (λ q. or_else q o) is) ∙ i)))

-- ---- names

reserved_read : (s : Scopes) (n : Identifier) → Reads s (reserve_name s n).scopes
unfolding reserve_name reserve
reserved_read s n = go (is_declared s n.name)
  where
    go : (b : Bool) → Reads s (let t : Step = (if b then record { faults = check_fault.Rule n.at C2 ∷ []; scopes = s } else nothing (reserve s n.name)) in t.scopes)
    go true = same s.inner s.inner refl
    go false = same s.inner (reserve s n.name).inner (pending_names s.inner n.name)

names_reserved_read : (s : Scopes) (ns : List Identifier) → Reads s (reserve_names s ns).scopes
unfolding reserve_names
names_reserved_read s [] = same s.inner s.inner refl
names_reserved_read s (n ∷ ns) = after s.inner (reserve_name s n).scopes.inner _ (names_reserved_read (reserve_name s n).scopes ns) (reserved_read s n)

named_read : (c : Scope) (n : List ℕ) (o : Option Meaning) → IsDeclared o → Longer c (with_name c n o)
named_read c n o e = go (is_some (find n c.names))
  where
    go : (b : Bool) → Longer c (if b then c else record { names = c.names ++ (n, o) ∷ []; pending = c.pending; is_sealed = c.is_sealed })
    go true = same c c refl
    go false = record { more = (n, o) ∷ []; is = refl; declared = (e, tt) }

-- a name that is no parameter leaves the parameters
pub name_read : (c : Scope) (n : List ℕ) (o : Option Meaning) → parameter_in o ≡ None → parameters_in (with_name c n o).names ≡ parameters_in c.names
unfolding parameters_in
name_read c n o e = go (is_some (find n c.names))
  where
    last : with_some (parameter_in o) [] ≡ []
    last = ap (λ (p : Option Parameter). with_some p []) e

    go : (b : Bool) → parameters_in (let t : Scope = (if b then c else record { names = c.names ++ (n, o) ∷ []; pending = c.pending; is_sealed = c.is_sealed }) in t.names) ≡ parameters_in c.names
    go true = refl
    go false = read_both c.names ((n, o) ∷ []) ∙ ap (λ (as' : List Parameter). parameters_in c.names ++ as') last ∙ append-nil (parameters_in c.names)

added_read : (s : Scopes) (n : List ℕ) (o : Option Meaning) → IsDeclared o → Reads s (add s n o)
unfolding add
added_read s n o e = named_read s.inner n o e

names_added_read : (s : Scopes) (ns : List Identifier) (o : Option Meaning) → IsDeclared o → Reads s (add_names s ns o)
unfolding add_names
names_added_read s [] o e = same s.inner s.inner refl
names_added_read s (n ∷ ns) o e = after s.inner (add s n.name o).inner _ (names_added_read (add s n.name o) ns o e) (added_read s n.name o e)

all_added_read : (s : Scopes) (ns : List Identifier) (o : Option Meaning) → IsDeclared o → Reads s (add_all s ns o)
unfolding add_all settle
all_added_read s ns o e = (let r : Reads s (add_names s ns o) = names_added_read s ns o e in record { more = r.more; is = r.is; declared = r.declared })

one_added_read : (s : Scopes) (n : Identifier) (o : Option Meaning) → IsDeclared o → Reads s (add_one s n o)
unfolding add_one settle
one_added_read s n o e = (let r : Reads s (add s n.name o) = added_read s n.name o e in record { more = r.more; is = r.is; declared = r.declared })

-- ---- what declarations declare

no_constant : (j : Judged ConstantNumber) → IsDeclared (meaning_or_none (j >>= to_constant))
no_constant (Ok n) = tt
no_constant (Err fs) = tt

no_kind : (j : Judged ValueType) → IsDeclared (meaning_or_none (j >>= to_kind))
no_kind (Ok v) = tt
no_kind (Err fs) = tt

no_variable : (j : Judged ValueType) → IsDeclared (meaning_or_none (j >>= to_variable))
no_variable (Ok v) = tt
no_variable (Err fs) = tt

constant_read : (s : Scopes) (d : ConstantDefinition) → Reads s (constant_step s d).scopes
unfolding constant_step
constant_read s d = after s.inner (reserve_name s d.name).scopes.inner _ (one_added_read (reserve_name s d.name).scopes d.name _ (no_constant (constant (reserve_name s d.name).scopes d.value))) (reserved_read s d.name)

constants_read : (s : Scopes) (ds : List ConstantDefinition) → Reads s (constant_steps s ds).scopes
unfolding constant_steps
constants_read s [] = same s.inner s.inner refl
constants_read s (d ∷ ds) = after s.inner (constant_step s d).scopes.inner _ (constants_read (constant_step s d).scopes ds) (constant_read s d)

member_read : (s : Scopes) (b : Base) (k : ℕ) (i : Identifier) → Reads s (member s b k i).scopes
unfolding member
member_read s b k i = go (is_declared s i.name)
  where
    go : (c : Bool) → Reads s (let t : Step = (if c then record { faults = check_fault.Rule i.at C2 ∷ []; scopes = s } else nothing (add s i.name (Some (meaning.Constant b (pos k))))) in t.scopes)
    go true = same s.inner s.inner refl
    go false = added_read s i.name (Some (meaning.Constant b (pos k))) tt

members_read : (s : Scopes) (b : Base) (k : ℕ) (is : List Identifier) → Reads s (members s b k is).scopes
unfolding members
members_read s b k [] = same s.inner s.inner refl
members_read s b k (i ∷ is) = after s.inner (member s b k i).scopes.inner _ (members_read (member s b k i).scopes b (k + 1) is) (member_read s b k i)

simple_read : (s : Scopes) (p : Spot) (t : Simple) → Reads s (simple_type s p t).scopes
unfolding simple_type
simple_read s p (enumeration at is) = members_read s _ 0 is
simple_read s p _ = same s.inner s.inner refl

array_read : (s : Scopes) (at : ℕ) (j : Judged ArrayShape) → Reads s (keep_array s at j)
unfolding keep
array_read s at (Ok a) = same s.inner s.inner refl
array_read s at (Err fs) = same s.inner s.inner refl

record_read : (s : Scopes) (at : ℕ) (j : Judged Shape) → Reads s (keep_record s at j)
unfolding keep
record_read s at (Ok d) = same s.inner s.inner refl
record_read s at (Err fs) = same s.inner s.inner refl

mutual
  unfolding typed

  type_read : (s : Scopes) (p : Spot) (t : TypeTerm) → Reads s (typed s p t).scopes
  type_read s p (simple at t) = simple_read s p t
  type_read s p (array_of at i e) =
      let u : Scopes = (simple_type s spot.Other i).scopes in
      let t : Scopes = (typed u spot.Element e).scopes in
      after s.inner t.inner _ (array_read t at _) (after s.inner u.inner t.inner (type_read u spot.Element e) (simple_read s spot.Other i))
  type_read s p (set_type at b) = simple_read s spot.Base b
  type_read s p (record_of at gs b) = after s.inner (groups_typed new_scope s gs).scopes.inner _ (record_read (groups_typed new_scope s gs).scopes at _) (groups_read new_scope s gs)

  groups_read : (f : Scope) (s : Scopes) (gs : FieldGroups) → Reads s (groups_typed f s gs).scopes
  groups_read f s no_fields = same s.inner s.inner refl
  groups_read f s (more_fields g gs) = after s.inner (group_typed f s g).scopes.inner _ (groups_read (group_typed f s g).fields (group_typed f s g).scopes gs) (group_read f s g)

  group_read : (f : Scope) (s : Scopes) (g : FieldGroup) → Reads s (group_typed f s g).scopes
  group_read f s (fields is t) = type_read s spot.Other t

type_step_read : (s : Scopes) (d : TypeDefinition) → Reads s (type_step s d).scopes
unfolding type_step
type_step_read s d =
    let a : Scopes = (reserve_name s d.name).scopes in
    let t : Scopes = (typed a spot.Definition d.value).scopes in
    after s.inner t.inner _ (one_added_read t d.name _ (no_kind (typed a spot.Definition d.value).type)) (after s.inner a.inner t.inner (type_read a spot.Definition d.value) (reserved_read s d.name))

types_read : (s : Scopes) (ds : List TypeDefinition) → Reads s (type_steps s ds).scopes
unfolding type_steps
types_read s [] = same s.inner s.inner refl
types_read s (d ∷ ds) = after s.inner (type_step s d).scopes.inner _ (types_read (type_step s d).scopes ds) (type_step_read s d)

variable_read : (p : Spot) (s : Scopes) (g : VariableGroup) → Reads s (variable_step p s g).scopes
unfolding variable_step
variable_read p s g =
    let a : Scopes = (reserve_names s g.names).scopes in
    let t : Scopes = (typed a p g.variable_type).scopes in
    after s.inner t.inner _ (all_added_read t g.names _ (no_variable (typed a p g.variable_type).type)) (after s.inner a.inner t.inner (type_read a p g.variable_type) (names_reserved_read s g.names))

variables_read : (p : Spot) (s : Scopes) (gs : List VariableGroup) → Reads s (variable_steps p s gs).scopes
unfolding variable_steps
variables_read p s [] = same s.inner s.inner refl
variables_read p s (g ∷ gs) = after s.inner (variable_step p s g).scopes.inner _ (variables_read p (variable_step p s g).scopes gs) (variable_read p s g)

part_read : (p : Spot) (s : Scopes) (d : Part) → Reads s (part_step p s d).scopes
unfolding part_step
part_read p s (constants at ds) = constants_read s ds
part_read p s (types at ds) = types_read s ds
part_read p s (variables at gs) = variables_read p s gs

pub parts_read : (p : Spot) (s : Scopes) (ds : List Part) → Reads s (part_steps p s ds).scopes
unfolding part_steps
parts_read p s [] = same s.inner s.inner refl
parts_read p s (d ∷ ds) = after s.inner (part_step p s d).scopes.inner _ (parts_read p (part_step p s d).scopes ds) (part_read p s d)
