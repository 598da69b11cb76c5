-- Scopes without the routines that say invariants, and what is found in them.
use Rattle.std.proofs.Common.{◌≡◌, ◌∙◌, Bool, true, false, if◌then◌else◌, [], ◌∷◌, Option, Some, None, ap, sym, refl}
use Rattle.std.proofs.lemmas.Slice.Eq.{bytes_eq-Decides}
use Rattle.cp_tree.specs.Syntax.{nameless}
use Rattle.cp_meaning.specs.Names.{Name, same_name}
use Rattle.cp_meaning.specs.Scopes.{Meaning, constant_meaning, type_meaning, local_variable, permanent_variable, routine_meaning, standard_meaning, Scope, find, since, is_seen, seen_inside}
use Rattle.cp_meaning.specs.Lifting.{is_routine_meant, has_invariants}
use Rattle.cp_annotation_laws.specs.Plain.{plain_routine}

-- a name that is written
abbrev pub IsSpoken : Name → Type 0
IsSpoken x = x ≡ nameless → ⊥

abbrev pub plain_meaning : Meaning → Meaning
plain_meaning (routine_meaning r) = routine_meaning (plain_routine r)
plain_meaning m = m

abbrev pub is_dropped : Name → Meaning → Bool
is_dropped x (routine_meaning r) = same_name nameless x
is_dropped x m = false

abbrev pub plain_scope : Scope → Scope
plain_scope [] = []
plain_scope (d ∷ s) = if is_dropped d.0 d.1 then plain_scope s else (d.0, plain_meaning d.1) ∷ plain_scope s

abbrev pub plain_found : Option Meaning → Option Meaning
plain_found None = None
plain_found (Some m) = Some (plain_meaning m)

-- ---- a name that is written is found as before

other : (x y : Name) → IsSpoken x → same_name nameless y ≡ true → same_name x y ≡ false
other x y h e = go (same_name x y) refl
  where
    go : (b : Bool) → same_name x y ≡ b → b ≡ false
    go false k = refl
    go true k = absurd (h ((bytes_eq-Decides x y).0 k ∙ sym ((bytes_eq-Decides nameless y).0 e)))

dropped_name : (x : Name) (m : Meaning) → is_dropped x m ≡ true → same_name nameless x ≡ true
dropped_name x (routine_meaning r) e = e
dropped_name x _ e = absurd (let bad : false ≡ true = e in cc)

pub find_plain : (x : Name) (s : Scope) → IsSpoken x → find x (plain_scope s) ≡ plain_found (find x s)
find_plain x [] h = refl
find_plain x (d ∷ s) h = go (is_dropped d.0 d.1) refl (find_plain x s h)
  where
    there : (b : Bool) → find x (plain_scope s) ≡ plain_found (find x s) → (if b then Some (plain_meaning d.1) else find x (plain_scope s)) ≡ plain_found (if b then Some d.1 else find x s)
    there true e = refl
    there false e = e

    go : (b : Bool) → is_dropped d.0 d.1 ≡ b → find x (plain_scope s) ≡ plain_found (find x s) → find x (if b then plain_scope s else (d.0, plain_meaning d.1) ∷ plain_scope s) ≡ plain_found (if same_name x d.0 then Some d.1 else find x s)
    go true k e = e ∙ ap (λ (b : Bool). plain_found (if b then Some d.1 else find x s)) (sym (other x d.0 h (dropped_name d.0 d.1 k)))
    go false k e = there (same_name x d.0) e

pub since_plain : (x : Name) (s : Scope) → IsSpoken x → since x (plain_scope s) ≡ plain_scope (since x s)
since_plain x [] h = refl
since_plain x (d ∷ s) h = go (is_dropped d.0 d.1) refl (since_plain x s h)
  where
    there : (b : Bool) → is_dropped d.0 d.1 ≡ false → since x (plain_scope s) ≡ plain_scope (since x s) → (if b then (d.0, plain_meaning d.1) ∷ plain_scope s else since x (plain_scope s)) ≡ plain_scope (if b then d ∷ s else since x s)
    there true k e = ap (λ (b : Bool). if b then plain_scope s else (d.0, plain_meaning d.1) ∷ plain_scope s) (sym k)
    there false k e = e

    go : (b : Bool) → is_dropped d.0 d.1 ≡ b → since x (plain_scope s) ≡ plain_scope (since x s) → since x (if b then plain_scope s else (d.0, plain_meaning d.1) ∷ plain_scope s) ≡ plain_scope (if same_name x d.0 then d ∷ s else since x s)
    go true k e = e ∙ ap (λ (b : Bool). plain_scope (if b then d ∷ s else since x s)) (sym (other x d.0 h (dropped_name d.0 d.1 k)))
    go false k e = there (same_name x d.0) k e

-- ---- no block has invariants

not_routine : (x : Name) (m : Meaning) → is_dropped x m ≡ false → same_name nameless x ≡ true → is_routine_meant (Some (plain_meaning m)) ≡ false
not_routine x (routine_meaning r) k e = absurd (let bad : true ≡ false = sym e ∙ k in cc)
not_routine x (constant_meaning c z) k e = refl
not_routine x (type_meaning t) k e = refl
not_routine x (local_variable t) k e = refl
not_routine x (permanent_variable t) k e = refl
not_routine x (standard_meaning t) k e = refl

pub no_invariants : (s : Scope) → has_invariants (plain_scope s) ≡ false
no_invariants [] = refl
no_invariants (d ∷ s) = go (is_dropped d.0 d.1) refl (no_invariants s)
  where
    there : (b : Bool) → same_name nameless d.0 ≡ b → is_dropped d.0 d.1 ≡ false → has_invariants (plain_scope s) ≡ false → is_routine_meant (if b then Some (plain_meaning d.1) else find nameless (plain_scope s)) ≡ false
    there true e k h = not_routine d.0 d.1 k e
    there false e k h = h

    go : (b : Bool) → is_dropped d.0 d.1 ≡ b → has_invariants (plain_scope s) ≡ false → has_invariants (if b then plain_scope s else (d.0, plain_meaning d.1) ∷ plain_scope s) ≡ false
    go true k h = h
    go false k h = there (same_name nameless d.0) refl k h

-- ---- what a system type sees

same_seen : (m : Meaning) → is_seen (plain_meaning m) ≡ is_seen m
same_seen (permanent_variable t) = refl
same_seen (constant_meaning c z) = refl
same_seen (type_meaning t) = refl
same_seen (local_variable t) = refl
same_seen (routine_meaning r) = refl
same_seen (standard_meaning t) = refl

dropped_seen : (x : Name) (m : Meaning) → is_dropped x m ≡ true → is_seen m ≡ true
dropped_seen x (routine_meaning r) e = refl
dropped_seen x _ e = absurd (let bad : false ≡ true = e in cc)

pub seen_plain : (s : Scope) → seen_inside (plain_scope s) ≡ plain_scope (seen_inside s)
seen_plain [] = refl
seen_plain (d ∷ s) = go (is_dropped d.0 d.1) refl (seen_plain s)
  where
    e : (Name × Meaning)
    e = (d.0, plain_meaning d.1)

    there : (b : Bool) → is_dropped d.0 d.1 ≡ false → seen_inside (plain_scope s) ≡ plain_scope (seen_inside s) → (if b then e ∷ seen_inside (plain_scope s) else seen_inside (plain_scope s)) ≡ plain_scope (if b then d ∷ seen_inside s else seen_inside s)
    there true k h = ap (λ (ds : Scope). e ∷ ds) h ∙ ap (λ (b : Bool). if b then plain_scope (seen_inside s) else e ∷ plain_scope (seen_inside s)) (sym k)
    there false k h = h

    go : (b : Bool) → is_dropped d.0 d.1 ≡ b → seen_inside (plain_scope s) ≡ plain_scope (seen_inside s) → seen_inside (if b then plain_scope s else e ∷ plain_scope s) ≡ plain_scope (if is_seen d.1 then d ∷ seen_inside s else seen_inside s)
    go true k h = h ∙ (ap (λ (b : Bool). if b then plain_scope (seen_inside s) else e ∷ plain_scope (seen_inside s)) (sym k) ∙ ap (λ (b : Bool). plain_scope (if b then d ∷ seen_inside s else seen_inside s)) (sym (dropped_seen d.0 d.1 k)))
    go false k h = ap (λ (b : Bool). if b then e ∷ seen_inside (plain_scope s) else seen_inside (plain_scope s)) (same_seen d.1) ∙ there (is_seen d.1) k h
