-- What is declared without a fault has none of the names that are known before it, and names that are declared together are different.
use Rattle.std.proofs.Common.{◌≡◌, ℕ, ◌+◌, Bool, true, false, ◌||◌, if◌then◌else◌, List, [], ◌∷◌, ◌++◌, Option, Some, is_some, subst, pos, refl, sym, ap, ◌∙◌, inl, inr}
use Rattle.cp_resolved.proofs.Words.{◌⊎◌, bytes_eq, bytes_eq-Decides, Identifier, C2, ValueType, Judged, both, ◌>>=◌, faults, Spot, no_left, no_right}
use Rattle.cp_resolved.proofs.Words.{Meaning, Each}
use Rattle.cp_resolved.proofs.Words.{no_first, Name, same_name, names_of, IsOther, AreDistinct, all_names, simple_names, type_names, groups_names, part_names}
use Rattle.cp_tree.specs.Syntax.{Simple, enumeration, TypeTerm, simple, array_of, set_type, record_of, FieldGroups, no_fields, more_fields, fields, ConstantDefinition, TypeDefinition, VariableGroup, Part, constants, types, variables}
use Rattle.cp_scope.specs.declared.fault.CheckFault.TheVariants as check_fault
use Rattle.cp_scope.specs.declared.types.Base.{Base}
use Rattle.cp_scope.specs.declared.types.Meaning.TheVariants as meaning
use Rattle.cp_scope.specs.Scopes.{Scope, new_scope, Scopes, find, is_among, is_declared, is_declared_in, with_pending, add, reserve, Names}
use Rattle.cp_check.specs.declared.types.Spot.TheVariants as spot
use Rattle.cp_check.specs.Records.{Fields, check_fields, reserve_fields}
use Rattle.cp_check.specs.Types.{Step, nothing, member, members, base_of, simple_type, shape_of_array, to_array, set_of, simple_at, shape_within_limits, sound_shape, to_record, typed, groups_typed, group_typed}
use Rattle.cp_check.specs.Declarations.{reserve_name, reserve_names, add_names, to_kind, to_variable, constant_step, constant_steps, type_step, type_steps, variable_step, variable_steps, part_step, part_steps}
use Rattle.cp_meaning_laws.proofs.Classes.{reserved_names, reserved_new}
use Rattle.cp_meaning_laws.proofs.Kept.{Keeps, names_added, added, name_reserved, names_reserved, constants_kept, type_kept, types_kept, variable_kept, part_kept}
use Rattle.cp_resolved.proofs.agreeing.Agreeing.{none_of_both}
use Rattle.cp_resolved.proofs.declarations.OnceRoutines.{IsKnown, still_known, known_named}
use Rattle.cp_resolved.proofs.names.PermanentNames.{left_true as or_first}
use Rattle.cp_meaning.proofs.Good.{or_right as or_second}
use Rattle.cp_resolved.proofs.frames.FrameCells.{each_both}
use Rattle.cp_resolved.proofs.declarations.Reserving.{last_among, stays_one}
use Rattle.cp_resolved.proofs.declarations.StillVisible.{no_faults, no_field_faults}

-- ---- names that are being declared

abbrev IsTaken : Name → Scopes → Type 0
IsTaken x s = is_declared s x ≡ true

or_grows : (a b c : Bool) → (b ≡ true → c ≡ true) → (a || b) ≡ true → (a || c) ≡ true
or_grows true b c f h = refl
or_grows false b c f h = f h

pending_taken : (c : Scope) (n x : Name) → (is_declared_in c x ≡ true) ⊎ (x ≡ n) → is_declared_in (with_pending c n) x ≡ true
pending_taken c n x h = go (is_among n c.pending) refl h
  where
    go : (b : Bool) → is_among n c.pending ≡ b → (is_declared_in c x ≡ true) ⊎ (x ≡ n) → is_declared_in (if b then c else record { names = c.names; pending = c.pending ++ n ∷ []; is_sealed = c.is_sealed }) x ≡ true
    go true e (inl d) = d
    go true e (inr i) = or_second (is_some (find x c.names)) (is_among x c.pending) (ap (λ y. is_among y c.pending) i ∙ e)
    go false e (inl d) = or_grows (is_some (find x c.names)) (is_among x c.pending) (is_among x (c.pending ++ n ∷ [])) (stays_one x n c.pending) d
    go false e (inr i) = or_second (is_some (find x c.names)) (is_among x (c.pending ++ n ∷ [])) (ap (λ y. is_among y (c.pending ++ n ∷ [])) i ∙ last_among n c.pending)

name_taken : (s : Scopes) (n : Identifier) (x : Name) → (IsTaken x s) ⊎ (x ≡ n.name) → IsTaken x (reserve_name s n).scopes
unfolding reserve_name reserve
name_taken s n x h = go (is_declared s n.name) refl h
  where
    go : (b : Bool) → is_declared s n.name ≡ b → (IsTaken x s) ⊎ (x ≡ n.name) → IsTaken x (let t : Step = (if b then record { faults = check_fault.Rule n.at C2 ∷ []; scopes = s } else nothing (reserve s n.name)) in t.scopes)
    go true e (inl d) = d
    go true e (inr i) = ap (is_declared s) i ∙ e
    go false e k = pending_taken s.inner n.name x k

name_free : (s : Scopes) (n : Identifier) → (reserve_name s n).faults ≡ [] → is_declared s n.name ≡ false
unfolding reserve_name
name_free s n h = go (is_declared s n.name) refl h
  where
    go : (b : Bool) → is_declared s n.name ≡ b → (let t : Step = (if b then record { faults = check_fault.Rule n.at C2 ∷ []; scopes = s } else nothing (reserve s n.name)) in t.faults) ≡ [] → is_declared s n.name ≡ false
    go true e k = absurd (let bad : check_fault.Rule n.at C2 ∷ [] ≡ [] = k in cc)
    go false e k = e

taken_other : (s : Scopes) (x n : Name) → IsTaken x s → is_declared s n ≡ false → same_name x n ≡ false
taken_other s x n h g = go (bytes_eq x n) refl
  where
    go : (b : Bool) → bytes_eq x n ≡ b → b ≡ false
    go true same = absurd (let bad : true ≡ false = sym h ∙ ap (is_declared s) ((bytes_eq-Decides x n).0 same) ∙ g in cc)
    go false e = refl

taken_others : (s : Scopes) (x : Name) (ns : List Identifier) → (reserve_names s ns).faults ≡ [] → IsTaken x s → IsOther x (names_of ns)
unfolding reserve_names
taken_others s x [] h taken = tt
taken_others s x (n ∷ ns) h taken =
    let free : is_declared s n.name ≡ false = name_free s n (no_left (reserve_name s n).faults _ h) in
    (taken_other s x n.name taken free, taken_others (reserve_name s n).scopes x ns (no_right (reserve_name s n).faults _ h) (name_taken s n x (inl taken)))

pub together_distinct : (s : Scopes) (ns : List Identifier) → (reserve_names s ns).faults ≡ [] → AreDistinct (names_of ns)
unfolding reserve_names
together_distinct s [] h = tt
together_distinct s (n ∷ ns) h =
    let t : Scopes = (reserve_name s n).scopes in
    let rest : (reserve_names t ns).faults ≡ [] = no_right (reserve_name s n).faults _ h in
    (taken_others t n.name ns rest (name_taken s n n.name (inr refl)), together_distinct t ns rest)

abbrev pub AllKnown : List Name → Names → Type 0
AllKnown xs ds = Each (λ x. IsKnown x ds) xs

abbrev pub AllNew : List Name → Names → Type 0
AllNew xs ds = Each (λ x. is_some (find x ds) ≡ false) xs

pub names_new : (s : Scopes) (ns : List Identifier) → (reserve_names s ns).faults ≡ [] → AllNew (names_of ns) s.inner.names
unfolding reserve_names
names_new s [] h = tt
names_new s (n ∷ ns) h =
    let t : Scopes = (reserve_name s n).scopes in
    (reserved_new s n (no_left (reserve_name s n).faults _ h), subst (AllNew (names_of ns)) (reserved_names s n) (names_new t ns (no_right (reserve_name s n).faults _ h)))

pub names_known : (s : Scopes) (ns : List Identifier) (m : Option Meaning) → AllKnown (names_of ns) (add_names s ns m).inner.names
unfolding add_names add
names_known s [] m = tt
names_known s (n ∷ ns) m =
    let t : Scopes = add s n.name m in
    (still_known n.name t.inner.names (add_names t ns m).inner.names (λ v f. (names_added t ns m).names n.name v f) (known_named s.inner n.name n.name m (inr refl)), names_known t ns m)

-- ---- names that are known

module _ (x : Name) where
  abbrev pub IsHere : Scopes → Type 0
  IsHere s = IsKnown x s.inner.names

  pub stays_known : (s t : Scopes) → Keeps s t → IsHere s → IsHere t
  stays_known s t k h = still_known x s.inner.names t.inner.names (λ m f. k.names x m f) h

  known_taken : (s : Scopes) → IsHere s → IsTaken x s
  known_taken s h = or_first (is_some (find x s.inner.names)) (is_among x s.inner.pending) h

  pub names_other : (s : Scopes) (ns : List Identifier) → (reserve_names s ns).faults ≡ [] → IsHere s → IsOther x (names_of ns)
  names_other s ns h known = taken_others s x ns h (known_taken s known)

  name_other : (s : Scopes) (n : Identifier) → (reserve_name s n).faults ≡ [] → IsHere s → same_name x n.name ≡ false
  name_other s n h known = taken_other s x n.name (known_taken s known) (name_free s n h)

  others : (ys zs : List Name) → IsOther x ys → IsOther x zs → IsOther x (ys ++ zs)
  others ys zs h g = each_both (λ (y : Name). same_name x y ≡ false) ys zs h g

  -- ---- types

  member_other : (s : Scopes) (b : Base) (k : ℕ) (i : Identifier) → (member s b k i).faults ≡ [] → IsHere s → (same_name x i.name ≡ false) × IsHere (member s b k i).scopes
  unfolding member
  member_other s b k i h known = go (is_declared s i.name) refl h
    where
      go : (c : Bool) → is_declared s i.name ≡ c → (let t : Step = (if c then record { faults = check_fault.Rule i.at C2 ∷ []; scopes = s } else nothing (add s i.name (Some (meaning.Constant b (pos k))))) in t.faults) ≡ [] →
          (same_name x i.name ≡ false) × IsHere (let t : Step = (if c then record { faults = check_fault.Rule i.at C2 ∷ []; scopes = s } else nothing (add s i.name (Some (meaning.Constant b (pos k))))) in t.scopes)
      go true e f = absurd (let bad : check_fault.Rule i.at C2 ∷ [] ≡ [] = f in cc)
      go false e f = (taken_other s x i.name (known_taken s known) e, stays_known s (add s i.name (Some (meaning.Constant b (pos k)))) (added s i.name (Some (meaning.Constant b (pos k)))) known)

  members_other : (s : Scopes) (b : Base) (k : ℕ) (is : List Identifier) → (members s b k is).faults ≡ [] → IsHere s → IsOther x (names_of is)
  unfolding members
  members_other s b k [] h known = tt
  members_other s b k (i ∷ is) h known =
      let one = member_other s b k i (no_left (member s b k i).faults _ h) known in
      (one.0, members_other (member s b k i).scopes b (k + 1) is (no_right (member s b k i).faults _ h) one.1)

  simple_other : (s : Scopes) (p : Spot) (t : Simple) → faults (simple_type s p t).type ≡ [] → IsHere s → IsOther x (simple_names t)
  unfolding simple_type
  simple_other s p (enumeration at is) h known = members_other s (base_of at is) 0 is (no_faults (members s (base_of at is) 0 is).faults _ h) known
  simple_other s p _ h known = tt

  simple_stays : (s : Scopes) (p : Spot) (t : Simple) → IsHere s → IsHere (simple_type s p t).scopes
  unfolding typed
  simple_stays s p t h = stays_known s (simple_type s p t).scopes (type_kept s p (simple 0 t)) h

  mutual
    unfolding typed

    type_other : (s : Scopes) (p : Spot) (t : TypeTerm) → faults (typed s p t).type ≡ [] → IsHere s → IsOther x (type_names t)
    type_other s p (simple at t) h known = simple_other s p t h known
    type_other s p (array_of at i e) h known =
        let a = simple_type s spot.Other i in
        let b = typed a.scopes spot.Element e in
        let j : Judged (ValueType × ValueType) = both a.type b.type in
        let none = none_of_both a.type b.type (no_first j (shape_of_array b.scopes p at) (no_first (j >>= shape_of_array b.scopes p at) (to_array at) h)) in
        others (simple_names i) (type_names e) (simple_other s spot.Other i none.0 known) (type_other a.scopes spot.Element e none.1 (simple_stays s spot.Other i known))
    type_other s p (set_type at t) h known = simple_other s spot.Base t (no_first (simple_type s spot.Base t).type (set_of at (simple_at t)) h) known
    type_other s p (record_of at gs b) h known =
        let f : Fields = groups_typed new_scope s gs in
        groups_other new_scope s gs (no_field_faults f.faults f.fields (no_first (check_fields f) (shape_within_limits f.scopes at) (no_first (sound_shape at f) (to_record at) h))) known

    groups_other : (f : Scope) (s : Scopes) (gs : FieldGroups) → (groups_typed f s gs).faults ≡ [] → IsHere s → IsOther x (groups_names gs)
    groups_other f s no_fields h known = tt
    groups_other f s (more_fields (fields is t) gs) h known =
        let g : Fields = group_typed f s (fields is t) in
        others (type_names t) (groups_names gs) (type_other s spot.Other t (no_right (reserve_fields f is).faults _ (no_left g.faults _ h)) known)
        (groups_other g.fields g.scopes gs (no_right g.faults _ h) (stays_known s g.scopes (type_kept s spot.Other t) known))

  -- ---- parts

  constants_other : (s : Scopes) (ds : List ConstantDefinition) → (constant_steps s ds).faults ≡ [] → IsHere s → IsOther x (all_names (λ (d : ConstantDefinition). d.name.name ∷ []) ds)
  unfolding constant_steps constant_step
  constants_other s [] h known = tt
  constants_other s (d ∷ ds) h known =
      let one : (constant_step s d).faults ≡ [] = no_left (constant_step s d).faults _ h in
      (name_other s d.name (no_left (reserve_name s d.name).faults _ one) known, constants_other (constant_step s d).scopes ds (no_right (constant_step s d).faults _ h) (stays_known s (constant_step s d).scopes (constants_kept s (d ∷ [])) known))

  definition_other : (s : Scopes) (d : TypeDefinition) → (type_step s d).faults ≡ [] → IsHere s → IsOther x (type_names d.value ++ d.name.name ∷ [])
  unfolding type_step
  definition_other s d h known =
      let b : Scopes = (reserve_name s d.name).scopes in
      let none : faults ((typed b spot.Definition d.value).type >>= to_kind) ≡ [] = no_right (reserve_name s d.name).faults _ h in
      others (type_names d.value) (d.name.name ∷ []) (type_other b spot.Definition d.value (no_first (typed b spot.Definition d.value).type to_kind none) (stays_known s b (name_reserved s d.name) known))
      (name_other s d.name (no_left (reserve_name s d.name).faults _ h) known, tt)

  types_other : (s : Scopes) (ds : List TypeDefinition) → (type_steps s ds).faults ≡ [] → IsHere s → IsOther x (all_names (λ (d : TypeDefinition). type_names d.value ++ d.name.name ∷ []) ds)
  unfolding type_steps
  types_other s [] h known = tt
  types_other s (d ∷ ds) h known =
      others (type_names d.value ++ d.name.name ∷ []) _ (definition_other s d (no_left (type_step s d).faults _ h) known)
      (types_other (type_step s d).scopes ds (no_right (type_step s d).faults _ h) (stays_known s (type_step s d).scopes (types_kept s (d ∷ [])) known))

  variable_other : (p : Spot) (s : Scopes) (g : VariableGroup) → (variable_step p s g).faults ≡ [] → IsHere s → IsOther x (type_names g.variable_type ++ names_of g.names)
  unfolding variable_step
  variable_other p s g h known =
      let b : Scopes = (reserve_names s g.names).scopes in
      let none : faults ((typed b p g.variable_type).type >>= to_variable) ≡ [] = no_right (reserve_names s g.names).faults _ h in
      others (type_names g.variable_type) (names_of g.names) (type_other b p g.variable_type (no_first (typed b p g.variable_type).type to_variable none) (stays_known s b (names_reserved s g.names) known))
      (names_other s g.names (no_left (reserve_names s g.names).faults _ h) known)

  variables_other : (p : Spot) (s : Scopes) (gs : List VariableGroup) → (variable_steps p s gs).faults ≡ [] → IsHere s → IsOther x (all_names (λ (g : VariableGroup). type_names g.variable_type ++ names_of g.names) gs)
  unfolding variable_steps
  variables_other p s [] h known = tt
  variables_other p s (g ∷ gs) h known =
      others (type_names g.variable_type ++ names_of g.names) _ (variable_other p s g (no_left (variable_step p s g).faults _ h) known)
      (variables_other p (variable_step p s g).scopes gs (no_right (variable_step p s g).faults _ h) (stays_known s (variable_step p s g).scopes (variable_kept p s g) known))

  part_other : (p : Spot) (s : Scopes) (d : Part) → (part_step p s d).faults ≡ [] → IsHere s → IsOther x (part_names d)
  unfolding part_step
  part_other p s (constants at ds) h known = constants_other s ds h known
  part_other p s (types at ds) h known = types_other s ds h known
  part_other p s (variables at gs) h known = variables_other p s gs h known

  pub parts_other : (p : Spot) (s : Scopes) (ds : List Part) → (part_steps p s ds).faults ≡ [] → IsHere s → IsOther x (all_names part_names ds)
  unfolding part_steps
  parts_other p s [] h known = tt
  parts_other p s (d ∷ ds) h known =
      others (part_names d) (all_names part_names ds) (part_other p s d (no_left (part_step p s d).faults _ h) known)
      (parts_other p (part_step p s d).scopes ds (no_right (part_step p s d).faults _ h) (stays_known s (part_step p s d).scopes (part_kept p s d) known))
