-- What is declared without a fault has a name that is new, so each name that was declared before it in the same scope stands for what it did.
use Rattle.std.proofs.Common.{◌≡◌, ℕ, suc, ◌+◌, Bool, true, false, if◌then◌else◌, List, [], ◌∷◌, ◌++◌, Option, Some, is_some, pos, refl, ap, ◌∙◌, inl}
use Rattle.cp_resolved.proofs.Words.{Identifier, SystemKind, CheckFault, C2, ValueType, both, faults, ◌>>=◌, Scopes, is_among, is_declared, add, new_scope, Spot}
use Rattle.cp_resolved.proofs.Words.{routine_step, routine_steps, Step, nothing, Typed, typed, reserved_new, no_left, no_right, no_first, or_left, Name, with_routines}
use Rattle.cp_resolved.proofs.Words.{Declared, definition_in, definitions_in, to_kind, reserve_name, constant_step, constant_steps, type_step, type_steps}
use Rattle.cp_tree.specs.Syntax as syntax
use Rattle.cp_scope.specs.declared.fault.CheckFault.TheVariants as check_fault
use Rattle.cp_scope.specs.declared.types.Base as checked_base
use Rattle.cp_scope.specs.declared.types.Meaning.TheVariants as checked_meaning
use Rattle.cp_scope.specs.Scopes as checked
use Rattle.cp_check.specs.declared.types.Spot.TheVariants as spot
use Rattle.cp_check.specs.Records.{Fields, check_fields_of, reserve_fields}
use Rattle.cp_check.specs.Systems as systems
use Rattle.cp_check.specs.Types as typing
use Rattle.cp_meaning_laws.proofs.Kept.{Keeps, added, name_reserved, type_kept, constants_kept, types_kept, definition_kept}
use Rattle.cp_meaning.specs.Types.{Base, Ty, enumerated}
use Rattle.cp_meaning.specs.Scopes.{Meaning, constant_meaning, type_meaning, routine_meaning, Scope, find}
use Rattle.cp_meaning.specs.Declarations.{names_of, constant_of, with_constants, simple_in, type_in, fields_in, constants_in, types_in}
use Rattle.cp_resolved.proofs.agreeing.Agreeing.{none_of_both}
use Rattle.cp_resolved.proofs.declarations.OnceRoutines.{IsKnown, still_known, known_other, routine_new, routine_known}

-- each name that the checker has in its innermost scope stands for the same in two scopes
abbrev pub Stays : Scopes → Scope → Scope → Type 0
Stays s c d = (x : Name) → IsKnown x s.inner.names → find x d ≡ find x c

pub kept_known : (s t : Scopes) (x : Name) → Keeps s t → IsKnown x s.inner.names → IsKnown x t.inner.names
kept_known s t x k h = still_known x s.inner.names t.inner.names (λ m f. k.names x m f) h

pub stays_then : (s t : Scopes) (c d e : Scope) → Keeps s t → Stays s c d → Stays t d e → Stays s c e
stays_then s t c d e k h g x known = g x (kept_known s t x k known) ∙ h x known

pub stays_same : (s : Scopes) (c : Scope) → Stays s c c
stays_same s c x known = refl

-- a new name
stays_added : (s : Scopes) (n : Name) (m : Meaning) (c d : Scope) → is_some (checked.find n s.inner.names) ≡ false → Stays s c d → Stays s c ((n, m) ∷ d)
stays_added s n m c d new h x known = ap (λ (b : Bool). if b then Some m else find x d) (known_other x n s.inner.names known new) ∙ h x known

-- ---- constants

pub constants_stay : (s : Scopes) (c : Scope) (ds : List syntax.ConstantDefinition) → (constant_steps s ds).faults ≡ [] → Stays s c (constants_in c ds)
unfolding constant_steps constant_step
constants_stay s c [] h = stays_same s c
constants_stay s c (d ∷ ds) h =
    let t : Scopes = (constant_step s d).scopes in
    let m : Meaning = constant_meaning (constant_of c d.value).0 (constant_of c d.value).1 in
    let new : is_some (checked.find d.name.name s.inner.names) ≡ false = reserved_new s d.name (no_left (reserve_name s d.name).faults _ (no_left (constant_step s d).faults _ h)) in
    stays_then s t c ((d.name.name, m) ∷ c) (constants_in ((d.name.name, m) ∷ c) ds) (constants_kept s (d ∷ [])) (stays_added s d.name.name m c c new (stays_same s c)) (constants_stay t ((d.name.name, m) ∷ c) ds (no_right (constant_step s d).faults _ h))

-- ---- types

record Added (s t : Scopes) (n : Name) : Type 0 where
  new : is_some (checked.find n s.inner.names) ≡ false
  kept : Keeps s t

member_added : (s : Scopes) (b : checked_base.Base) (k : ℕ) (i : Identifier) → (typing.member s b k i).faults ≡ [] → Added s (typing.member s b k i).scopes i.name
unfolding typing.member
member_added s b k i h = go (is_declared s i.name) refl h
  where
    after : Scopes
    after = add s i.name (Some (checked_meaning.Constant b (pos k)))

    go : (d : Bool) → is_declared s i.name ≡ d → (let t : Step = (if d then record { faults = check_fault.Rule i.at C2 ∷ []; scopes = s } else nothing after) in t.faults) ≡ [] → Added s (let t : Step = (if d then record { faults = check_fault.Rule i.at C2 ∷ []; scopes = s } else nothing after) in t.scopes) i.name
    go true e f = absurd (let bad : check_fault.Rule i.at C2 ∷ [] ≡ [] = f in cc)
    go false e f = record { new = or_left (is_some (checked.find i.name s.inner.names)) (is_among i.name s.inner.pending) e; kept = added s i.name (Some (checked_meaning.Constant b (pos k))) }

members_stay : (s : Scopes) (b : checked_base.Base) (k : ℕ) (is : List Identifier) (c : Scope) (base : Base) (n : ℕ) → (typing.members s b k is).faults ≡ [] → Stays s c (with_constants base n (names_of is) c)
unfolding typing.members
members_stay s b k [] c base n h = stays_same s c
members_stay s b k (i ∷ is) c base n h =
    let t : Scopes = (typing.member s b k i).scopes in
    let a : Added s t i.name = member_added s b k i (no_left (typing.member s b k i).faults _ h) in
    let d : Scope = (i.name, constant_meaning base (pos n)) ∷ c in
    stays_then s t c d (with_constants base (suc n) (names_of is) d) a.kept (stays_added s i.name (constant_meaning base (pos n)) c c a.new (stays_same s c)) (members_stay t b (k + 1) is d base (suc n) (no_right (typing.member s b k i).faults _ h))

pub no_faults : (fs : List CheckFault) (v : ValueType) → faults (typing.unless_type fs v) ≡ [] → fs ≡ []
no_faults [] v h = refl
no_faults (f ∷ fs) v h = h

pub no_field_faults : (fs : List CheckFault) (f : checked.Scope) → faults (check_fields_of fs f) ≡ [] → fs ≡ []
no_field_faults [] f h = refl
no_field_faults (e ∷ es) f h = h

simple_stays : (s : Scopes) (c : Scope) (p : Spot) (t : syntax.Simple) → faults (typing.simple_type s p t).type ≡ [] → Stays s c (simple_in c t).1
unfolding typing.simple_type
simple_stays s c p (syntax.enumeration at is) h = members_stay s (typing.base_of at is) 0 is c (enumerated at (names_of is)) 0 (no_faults _ _ h)
simple_stays s c p _ h = stays_same s c

mutual
  unfolding typed typing.groups_typed typing.group_typed

  pub type_stays : (s : Scopes) (c : Scope) (p : Spot) (t : syntax.TypeTerm) → faults (typed s p t).type ≡ [] → Stays s c (type_in c t).1
  type_stays s c p (syntax.simple at t) h = simple_stays s c p t h
  type_stays s c p (syntax.array_of at i e) h =
      let u : Typed = typing.simple_type s spot.Other i in
      let v : Typed = typed u.scopes spot.Element e in
      let none = none_of_both u.type v.type (no_first (both u.type v.type) (typing.shape_of_array v.scopes p at) (no_first (both u.type v.type >>= typing.shape_of_array v.scopes p at) (typing.to_array at) h)) in
      let d : Scope = (simple_in c i).1 in
      stays_then s u.scopes c d (type_in d e).1 (type_kept s spot.Other (syntax.simple at i)) (simple_stays s c spot.Other i none.0) (type_stays u.scopes d spot.Element e none.1)
  type_stays s c p (syntax.set_type at b) h = simple_stays s c spot.Base b (no_first (typing.simple_type s spot.Base b).type (typing.set_of at (typing.simple_at b)) h)
  type_stays s c p (syntax.record_of at gs b) h =
      let f : Fields = typing.groups_typed new_scope s gs in
      let none : f.faults ≡ [] = no_field_faults f.faults f.fields (no_first (check_fields_of f.faults f.fields) (typing.shape_within_limits f.scopes at) (no_first (typing.sound_shape at f) (typing.to_record at) h)) in
      fields_stay new_scope s c gs none

  fields_stay : (f : checked.Scope) (s : Scopes) (c : Scope) (gs : syntax.FieldGroups) → (typing.groups_typed f s gs).faults ≡ [] → Stays s c (fields_in c gs).1
  fields_stay f s c syntax.no_fields h = stays_same s c
  fields_stay f s c (syntax.more_fields (syntax.fields is t) gs) h =
      let g : Fields = typing.group_typed f s (syntax.fields is t) in
      let d : Scope = (type_in c t).1 in
      stays_then s g.scopes c d (fields_in d gs).1 (type_kept s spot.Other t) (type_stays s c spot.Other t (no_right (reserve_fields f is).faults _ (no_left g.faults _ h))) (fields_stay g.fields g.scopes d gs (no_right g.faults _ h))

-- a type that is written after its name, or after the names of variables, is declared
pub written_stays : (s a : Scopes) (c : Scope) (p : Spot) (t : syntax.TypeTerm) → Keeps s a → faults (typed a p t).type ≡ [] → Stays s c (type_in c t).1
written_stays s a c p t k h = stays_then s a c c (type_in c t).1 k (stays_same s c) (type_stays a c p t h)

pub types_stay : (s : Scopes) (c : Scope) (ds : List syntax.TypeDefinition) → (type_steps s ds).faults ≡ [] → Stays s c (types_in c ds)
unfolding type_steps type_step
types_stay s c [] h = stays_same s c
types_stay s c (d ∷ ds) h =
    let a : Scopes = (reserve_name s d.name).scopes in
    let t : Typed = typed a spot.Definition d.value in
    let one : (reserve_name s d.name).faults ++ faults (t.type >>= to_kind) ≡ [] = no_left ((reserve_name s d.name).faults ++ faults (t.type >>= to_kind)) _ h in
    let y : Ty × Scope = type_in c d.value in
    let e : Scope = (d.name.name, type_meaning y.0) ∷ y.1 in
    let new : is_some (checked.find d.name.name s.inner.names) ≡ false = reserved_new s d.name (no_left (reserve_name s d.name).faults _ one) in
    let written : Stays s c y.1 = written_stays s a c spot.Definition d.value (name_reserved s d.name) (no_first t.type to_kind (no_right (reserve_name s d.name).faults _ one)) in
    stays_then s (type_step s d).scopes c e (types_in e ds) (types_kept s (d ∷ [])) (stays_added s d.name.name (type_meaning y.0) c y.1 new written) (types_stay (type_step s d).scopes e ds (no_right ((reserve_name s d.name).faults ++ faults (t.type >>= to_kind)) _ h))

-- ---- routines

pub routines_stay : (k : Option SystemKind) (s : Scopes) (c : Scope) (rs : List syntax.Routine) → (routine_steps k s rs).faults ≡ [] → Stays s c (with_routines c rs)
unfolding routine_steps
routines_stay k s c [] h = stays_same s c
routines_stay k s c (r ∷ rs) h =
    let t : Scopes = (routine_step k s r).scopes in
    let d : Scope = (r.name.name, routine_meaning r) ∷ c in
    λ x known. routines_stay k t d rs (no_right (routine_step k s r).faults _ h) x (routine_known k s r x (inl known)) ∙ stays_added s r.name.name (routine_meaning r) c c (routine_new k s r (no_left (routine_step k s r).faults _ h)) (stays_same s c) x known

-- ---- types and system types of the program

defined_stays : (s a : Scopes) (d : Declared) (n : syntax.SystemDefinition) (v : syntax.Definition) → Keeps s a → is_some (checked.find n.name.name s.inner.names) ≡ false → faults (systems.type_of_definition a v).type ≡ [] → Stays s d.scope (definition_in d n v).scope
unfolding systems.type_of_definition
defined_stays s a d n (syntax.type_definition t) k new h = stays_added s n.name.name (type_meaning (type_in d.scope t).0) d.scope (type_in d.scope t).1 new (written_stays s a d.scope spot.Definition t k h)
defined_stays s a d n (syntax.system_definition y) k new h = stays_added s n.name.name _ d.scope d.scope new (stays_same s d.scope)

definition_stays : (s : Scopes) (d : Declared) (n : syntax.SystemDefinition) → (systems.definition_step s n).faults ≡ [] → Stays s d.scope (definition_in d n n.value).scope
unfolding systems.definition_step
definition_stays s d n h =
    let a : Scopes = (reserve_name s n.name).scopes in
    let t : Typed = systems.type_of_definition a n.value in
    defined_stays s a d n n.value (name_reserved s n.name) (reserved_new s n.name (no_left (reserve_name s n.name).faults _ h)) (no_first t.type to_kind (no_right (reserve_name s n.name).faults _ h))

pub definitions_stay : (s : Scopes) (d : Declared) (ns : List syntax.SystemDefinition) → (systems.definition_steps s ns).faults ≡ [] → Stays s d.scope (definitions_in d ns).scope
unfolding systems.definition_steps
definitions_stay s d [] h = stays_same s d.scope
definitions_stay s d (n ∷ ns) h =
    let t : Scopes = (systems.definition_step s n).scopes in
    let k : Declared = definition_in d n n.value in
    stays_then s t d.scope k.scope (definitions_in k ns).scope (definition_kept s n) (definition_stays s d n (no_left (systems.definition_step s n).faults _ h)) (definitions_stay t k ns (no_right (systems.definition_step s n).faults _ h))
