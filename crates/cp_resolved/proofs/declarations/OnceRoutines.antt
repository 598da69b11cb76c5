-- No two routines of a system type that breaks no rule have one name.
use Rattle.std.proofs.Common.{◌≡◌, Bool, true, false, if◌then◌else◌, List, [], ◌∷◌, ◌++◌, Option, Some, None, Ok, Err, is_some, refl, sym, ap, ◌∙◌, inl, inr}
use Rattle.cp_resolved.proofs.Words.{◌⊎◌, bytes_eq, bytes_eq-Decides, SystemKind, Routine, Meaning, ValueType, Use, Judged, faults, reserve_name, part_steps}
use Rattle.cp_resolved.proofs.Words.{routine_step, routine_steps, Name, same_name, IsNoneOf, AreOnce}
use Rattle.cp_scope.specs.declared.types.Meaning.TheVariants as meaning
use Rattle.cp_scope.specs.Scopes.{Names, Scope, Scopes, find, with_name, without_meaning, sealed, settle, enter, Around, last_of, leave, add_around, keep}
use Rattle.cp_check.specs.declared.types.Spot.TheVariants as spot
use Rattle.cp_check.specs.Headings.{Headed, after_faults, parameters_and_result, check_heading, heading, announce, announce_judged}
use Rattle.cp_check.specs.Routines as routines
use Rattle.cp_meaning_laws.proofs.Classes.{reserved_names, reserved_new, last_found}
use Rattle.cp_meaning_laws.proofs.Kept.{find_before, last_is, written_kept, parts_kept}
use Rattle.cp_meaning_laws.proofs.Once.{no_left, no_right, no_first, none_before, some_is}

-- ---- names that are declared

abbrev pub IsKnown : Name → Names → Type 0
IsKnown x ds = is_some (find x ds) ≡ true

-- a name that is known stays so where each meaning stays
pub still_known : (x : Name) (ds es : Names) → ((m : Option Meaning) → find x ds ≡ Some m → find x es ≡ Some m) → IsKnown x ds → IsKnown x es
still_known x ds es keeps h = let there = some_is (find x ds) h in ap is_some (keeps there.0 there.1)

-- a known name is no new one
pub known_other : (x n : Name) (ds : Names) → IsKnown x ds → is_some (find n ds) ≡ false → same_name x n ≡ false
known_other x n ds h g = go (bytes_eq x n) refl
  where
    go : (b : Bool) → bytes_eq x n ≡ b → b ≡ false
    go true same = absurd (let bad : true ≡ false = sym h ∙ ap (λ y. is_some (find y ds)) ((bytes_eq-Decides x n).0 same) ∙ g in cc)
    go false e = refl

pub known_named : (c : Scope) (x n : Name) (m : Option Meaning) → (IsKnown x c.names) ⊎ (x ≡ n) → IsKnown x (with_name c n m).names
known_named c x n m h = go (is_some (find n c.names)) refl h
  where
    go : (b : Bool) → is_some (find n c.names) ≡ b → (IsKnown x c.names) ⊎ (x ≡ n) → IsKnown x (let e : Scope = (if b then c else record { names = c.names ++ (n, m) ∷ []; pending = c.pending; is_sealed = c.is_sealed }) in e.names)
    go true e (inl k) = k
    go true e (inr i) = ap (λ y. is_some (find y c.names)) i ∙ e
    go false e (inl k) = still_known x c.names (c.names ++ (n, m) ∷ []) (λ v f. find_before x c.names ((n, m) ∷ []) v f) k
    go false e (inr i) = ap (λ y. is_some (find y (c.names ++ (n, m) ∷ []))) i ∙ ap is_some (last_found n c.names m e)

known_without : (x n : Name) (ds : Names) → IsKnown x ds → IsKnown x (without_meaning n ds)
known_without x n [] h = h
known_without x n (d ∷ ds) h = one (bytes_eq n d.0) (known_without x n ds)
  where
    found : (b : Bool) (m : Option Meaning) → is_some (if b then Some d.1 else find x ds) ≡ true → (IsKnown x ds → IsKnown x (without_meaning n ds)) → is_some (if b then Some m else find x (without_meaning n ds)) ≡ true
    found true m e rest = refl
    found false m e rest = rest e

    one : (b : Bool) → (IsKnown x ds → IsKnown x (without_meaning n ds)) → is_some (find x ((if b then (d.0, None) else d) ∷ without_meaning n ds)) ≡ true
    one true rest = found (bytes_eq x d.0) None h rest
    one false rest = found (bytes_eq x d.0) d.1 h rest

-- ---- one routine

-- its name is new
pub routine_new : (k : Option SystemKind) (s : Scopes) (r : Routine) → (routine_step k s r).faults ≡ [] → is_some (find r.name.name s.inner.names) ≡ false
unfolding routine_step heading
routine_new k s r h =
    let w : Headed = parameters_and_result (enter false (reserve_name s r.name).scopes) r.kind in
    let j : Judged (Option ValueType) = after_faults (reserve_name s r.name).faults w.result in
    reserved_new s r.name (none_before (reserve_name s r.name).faults w.result (no_first j (check_heading k r) (no_left (faults (heading k r (reserve_name s r.name)).result) _ h)))

-- the scope around a routine, once the routine is announced there
announced_inner : (r : Routine) (j : Judged (Option ValueType)) (s : Scopes) (cs : List Scope) (t : Scope) → s.outer ≡ cs ++ t ∷ [] → (m : Option Meaning) × ((last_of (announce_judged r j s).outer).inner ≡ with_name t r.name.name m)
unfolding announce add_around keep
announced_inner r (Ok v) s cs t e =
    (Some (meaning.Routine r.name.at), ap (λ (a : Around). a.inner) (last_is (last_of s.outer).outer _) ∙ ap (λ (a : Around). with_name a.inner r.name.name (Some (meaning.Routine r.name.at))) (ap last_of e ∙ last_is cs t))
announced_inner r (Err fs) s cs t e = (None, ap (λ (a : Around). a.inner) (last_is (last_of s.outer).outer _) ∙ ap (λ (a : Around). with_name a.inner r.name.name None) (ap last_of e ∙ last_is cs t))

closed_known : (r : Routine) (j : Judged (Option ValueType)) (u : Judged Use) (s : Scopes) (x : Name) → IsKnown x (last_of s.outer).inner.names → IsKnown x (routines.close_routine_of r j u s).inner.names
unfolding routines.close_routine settle keep leave
closed_known r (Ok v) (Err fs) s x h = known_without x r.name.name (last_of s.outer).inner.names h
closed_known r _ _ s x h = h

-- and it is known after it, with those before
pub routine_known : (k : Option SystemKind) (s : Scopes) (r : Routine) (x : Name) → (IsKnown x s.inner.names) ⊎ (x ≡ r.name.name) → IsKnown x (routine_step k s r).scopes.inner.names
unfolding routine_step routines.enter_routine heading enter
routine_known k s r x h =
    let b : Scopes = (reserve_name s r.name).scopes in
    let hd : Headed = heading k r (reserve_name s r.name) in
    let a : Scopes = announce_judged r hd.result hd.scopes in
    let named = announced_inner r hd.result hd.scopes b.outer (sealed false b.inner) (written_kept (enter false b) r.kind).outer in
    let around : (last_of (part_steps spot.Other a r.parts).scopes.outer).inner ≡ with_name (sealed false b.inner) r.name.name named.0 = ap (λ (cs : List Scope). (last_of cs).inner) (parts_kept spot.Other a r.parts).outer ∙ named.1 in
    closed_known r hd.result _ (part_steps spot.Other a r.parts).scopes x (ap (λ (c : Scope). is_some (find x c.names)) around ∙ known_named (sealed false b.inner) x r.name.name named.0 (go h))
  where
    go : (IsKnown x s.inner.names) ⊎ (x ≡ r.name.name) → (IsKnown x (reserve_name s r.name).scopes.inner.names) ⊎ (x ≡ r.name.name)
    go (inl e) = inl (ap (λ (ds : Names). is_some (find x ds)) (reserved_names s r.name) ∙ e)
    go (inr e) = inr e

-- ---- all

-- no routine has a name that is known before them
others : (k : Option SystemKind) (s : Scopes) (rs : List Routine) (x : Name) → (routine_steps k s rs).faults ≡ [] → IsKnown x s.inner.names → IsNoneOf x rs
unfolding routine_steps
others k s [] x h known = tt
others k s (r ∷ rs) x h known =
    let t : Scopes = (routine_step k s r).scopes in
    (known_other x r.name.name s.inner.names known (routine_new k s r (no_left (routine_step k s r).faults _ h)), others k t rs x (no_right (routine_step k s r).faults _ h) (routine_known k s r x (inl known)))

pub routines_once : (k : Option SystemKind) (s : Scopes) (rs : List Routine) → (routine_steps k s rs).faults ≡ [] → AreOnce rs
unfolding routine_steps
routines_once k s [] h = tt
routines_once k s (r ∷ rs) h =
    let t : Scopes = (routine_step k s r).scopes in
    let rest : (routine_steps k t rs).faults ≡ [] = no_right (routine_step k s r).faults _ h in
    (others k t rs r.name.name rest (routine_known k s r r.name.name (inr refl)), routines_once k t rs rest)
