-- In the frame of a routine each variable has its cells, with its first value, and no two have any in common.
use Rattle.std.proofs.Common.{◌≡◌, ◌+◌, ◌<◌, ◌==◌, ◌⊎◌, inl, inr, ℕ, zero, suc, ℤ, pos, Bool, true, false, if◌then◌else◌, List, [], ◌∷◌, ◌++◌, length, Option, Some, None, slice_index_or, refl, sym, subst, ◌∙◌, arith}
use Rattle.cp_resolved.proofs.Words.{eqb_refl, eqb-true, none-some, same_Some, Name, same_name, temporary, Ty, Scope, local_variable, find, Variable, Parameter, Item}
use Rattle.cp_resolved.proofs.Words.{function_call, result_called, routine_called, parameter_variables, calls_before, IsAmong, AreDifferent, IsOrdinal, look, IsWord}
use Rattle.cp_resolved.proofs.Words.{AreWords, StandsAt, Each, call_variables, parameters_by}
use Rattle.cp_tree.specs.Syntax as syntax
use Rattle.cp_meaning.specs.Scopes as scopes
use Rattle.cp_resolved.specs.Calls as calls
use Rattle.cp_resolved.proofs.frames.FrameCells.{same_is, look_each}
use Rattle.cp_resolved.proofs.agreeing.ScopeVariables.{Among, among_left, among_right, never_missing}
use Rattle.cp_resolved.proofs.systems.SystemKnown.{among_either}
use Rattle.cp_resolved.proofs.laid.ZeroCells.{AreZeros}
use Rattle.cp_resolved.proofs.frames.LeastCells.{holds as holds_true}

-- ---- names that are no words

pub word_found : (x : Name) (m : scopes.Meaning) (s : Scope) → AreWords s → find x s ≡ Some m → IsWord x
word_found x m [] h e = absurd (none-some m e)
word_found x m (d ∷ s) h e = go (same_name x d.0) refl e (word_found x m s h.1)
  where
    go : (b : Bool) → same_name x d.0 ≡ b → (if b then Some d.1 else find x s) ≡ Some m → (find x s ≡ Some m → IsWord x) → IsWord x
    go true w f rest = subst IsWord (sym (same_is x d.0 w)) h.0
    go false w f rest = rest f

abbrev pub Visible : Scope → List Variable → Type 0
Visible s vs = Each (λ v. find v.name s ≡ Some (local_variable v.ty)) vs

-- a name that is no word is none of those that are visible
pub no_word : (x : Name) (s : Scope) (vs : List Variable) → (IsWord x → ⊥) → AreWords s → Visible s vs → look x vs ≡ None
no_word x s vs bad w h = go (look x vs) refl
  where
    go : (o : Option Ty) → look x vs ≡ o → look x vs ≡ None
    go None e = e
    go (Some t) e = absurd (bad (word_found x (local_variable t) s w (look_each (λ v. find v.name s ≡ Some (local_variable v.ty)) x t vs h e)))

-- ---- value parameters and `var` parameters

pub by_all : (b : Bool) (x : Name) (t : Ty) (qs : List Parameter) → Among x t (parameters_by b qs) → Among x t (parameter_variables qs)
by_all true x t [] h = absurd h
by_all false x t [] h = absurd h
by_all true x t (q ∷ qs) h = go q.is_var h (by_all true x t qs)
  where
    go : (c : Bool) → Among x t (if c then (let v : Variable = record { name = q.name; ty = q.ty } in v) ∷ parameters_by true qs else parameters_by true qs) → (Among x t (parameters_by true qs) → Among x t (parameter_variables qs)) → ((q.name ≡ x) × (q.ty ≡ t)) ⊎ Among x t (parameter_variables qs)
    go true (inl e) rest = inl e
    go true (inr e) rest = inr (rest e)
    go false e rest = inr (rest e)
by_all false x t (q ∷ qs) h = go q.is_var h (by_all false x t qs)
  where
    go : (c : Bool) → Among x t (if c then parameters_by false qs else (let v : Variable = record { name = q.name; ty = q.ty } in v) ∷ parameters_by false qs) → (Among x t (parameters_by false qs) → Among x t (parameter_variables qs)) → ((q.name ≡ x) × (q.ty ≡ t)) ⊎ Among x t (parameter_variables qs)
    go true e rest = inr (rest e)
    go false (inl e) rest = inl e
    go false (inr e) rest = inr (rest e)

pub either_by : (x : Name) (t : Ty) (qs : List Parameter) → Among x t (parameter_variables qs) → Among x t (parameters_by false qs) ⊎ Among x t (parameters_by true qs)
either_by x t [] h = absurd h
either_by x t (q ∷ qs) (inl e) = go q.is_var
  where
    go : (c : Bool) → Among x t (if c then parameters_by false qs else (let v : Variable = record { name = q.name; ty = q.ty } in v) ∷ parameters_by false qs) ⊎ Among x t (if c then (let v : Variable = record { name = q.name; ty = q.ty } in v) ∷ parameters_by true qs else parameters_by true qs)
    go true = inr (inl e)
    go false = inl (inl e)
either_by x t (q ∷ qs) (inr h) = go q.is_var (either_by x t qs h)
  where
    go : (c : Bool) → Among x t (parameters_by false qs) ⊎ Among x t (parameters_by true qs) → Among x t (if c then parameters_by false qs else (let v : Variable = record { name = q.name; ty = q.ty } in v) ∷ parameters_by false qs) ⊎ Among x t (if c then (let v : Variable = record { name = q.name; ty = q.ty } in v) ∷ parameters_by true qs else parameters_by true qs)
    go true (inl e) = inl e
    go true (inr e) = inr (inr e)
    go false (inl e) = inl (inr e)
    go false (inr e) = inr e

pub missing_all : (x : Name) (t : Ty) (qs : List Parameter) (vs : List Variable) → Among x t (parameters_by false qs ++ vs) → Among x t (parameter_variables qs ++ vs)
missing_all x t qs vs h = go (among_either x t (parameters_by false qs) vs h)
  where
    go : Among x t (parameters_by false qs) ⊎ Among x t vs → Among x t (parameter_variables qs ++ vs)
    go (inl i) = among_left x t (parameter_variables qs) vs (by_all false x t qs i)
    go (inr i) = among_right x t (parameter_variables qs) vs i

-- no name has cells of the frame and is a `var` parameter
pub never_both : (x : Name) (t u : Ty) (qs : List Parameter) (vs : List Variable) → AreDifferent (parameter_variables qs ++ vs) → Among x t (parameters_by false qs ++ vs) → Among x u (parameters_by true qs) → ⊥
never_both x t u [] vs d h i = i
never_both x t u (q ∷ qs) vs d h i = go q.is_var h i (never_both x t u qs vs d.1)
  where
    missing : (w : Ty) → q.name ≡ x → Among x w (parameter_variables qs ++ vs) → ⊥
    missing w e a = never_missing x w (parameter_variables qs ++ vs) a (subst (λ y. look y (parameter_variables qs ++ vs) ≡ None) e d.0)

    go : (c : Bool) → Among x t ((if c then parameters_by false qs else (let v : Variable = record { name = q.name; ty = q.ty } in v) ∷ parameters_by false qs) ++ vs) → Among x u (if c then (let v : Variable = record { name = q.name; ty = q.ty } in v) ∷ parameters_by true qs else parameters_by true qs) →
        (Among x t (parameters_by false qs ++ vs) → Among x u (parameters_by true qs) → ⊥) → ⊥
    go true a (inl e) rest = missing t e.0 (missing_all x t qs vs a)
    go true a (inr e) rest = rest a e
    go false (inl a) e rest = missing u a.0 (among_left x u (parameter_variables qs) vs (by_all true x u qs e))
    go false (inr a) e rest = rest a e

-- ---- the temporary names of calls

pub record IsTemporary (x : Name) (t : Ty) (items : List Item) : Type 0 where
  pub at : ℕ
  pub is : x ≡ temporary at
  pub among : IsAmong at items
  pub ordinal : IsOrdinal t

module _ (p : syntax.Program) (s : Scope) where
  pub temporary_of : (x : Name) (t : Ty) (is : List Item) → calls.AreApart is → Each (λ v. IsOrdinal v.ty) (call_variables p s is) → look x (call_variables p s is) ≡ Some t → IsTemporary x t is
  temporary_of x t [] a o e = absurd (none-some t e)
  temporary_of x t (function_call at d es ∷ is) a o e = go (same_name x (temporary at)) refl e (temporary_of x t is a.1 o.1)
    where
      go : (b : Bool) → same_name x (temporary at) ≡ b → (if b then Some (result_called (routine_called p s d)) else look x (call_variables p s is)) ≡ Some t → (look x (call_variables p s is) ≡ Some t → IsTemporary x t is) → IsTemporary x t (function_call at d es ∷ is)
      go true w f rest = record { at = at; is = same_is x (temporary at) w; among = inl (holds_true (at == at) (eqb_refl at)); ordinal = subst IsOrdinal (same_Some (result_called (routine_called p s d)) t f) o.0 }
      go false w f rest = let r = rest f in record { at = r.at; is = r.is; among = inr r.among; ordinal = r.ordinal }
  temporary_of x t _ a o e = absurd a.0

-- fewer calls than all stand before one of them, and not as many before another
pub before_all : (at : ℕ) (is : List Item) → IsAmong at is → calls_before at is < length is
before_all at [] h = absurd h
before_all at (i ∷ is) h = go (calls.is_at at i) h (before_all at is)
  where
    go : (b : Bool) → (b ≡ true) ⊎ IsAmong at is → (IsAmong at is → calls_before at is < length is) → (if b then 0 else suc (calls_before at is)) < suc (length is)
    go true e rest = omega arith
    go false (inl e) rest = absurd (let bad : false ≡ true = e in cc)
    go false (inr e) rest = let r = rest e in omega (arith, r)

pub before_other : (m n : ℕ) (is : List Item) → calls.AreApart is → IsAmong m is → IsAmong n is → calls_before m is ≡ calls_before n is → m ≡ n
before_other m n [] a h i e = absurd h
before_other m n (function_call at d es ∷ is) a h i e = go (at == m) (at == n) refl refl h i e (before_other m n is a.1)
  where
    go : (b c : Bool) → (at == m) ≡ b → (at == n) ≡ c → (b ≡ true) ⊎ IsAmong m is → (c ≡ true) ⊎ IsAmong n is → (if b then 0 else suc (calls_before m is)) ≡ (if c then 0 else suc (calls_before n is)) →
        (IsAmong m is → IsAmong n is → calls_before m is ≡ calls_before n is → m ≡ n) → m ≡ n
    go true true f g u v w rest = sym (eqb-true at m f) ∙ eqb-true at n g
    go true false f g u v w rest = absurd (omega (arith, w))
    go false true f g u v w rest = absurd (omega (arith, w))
    go false false f g (inl u) v w rest = absurd (let bad : false ≡ true = u in cc)
    go false false f g (inr u) (inl v) w rest = absurd (let bad : false ≡ true = v in cc)
    go false false f g (inr u) (inr v) w rest = rest u v (omega (arith, w))
before_other m n _ a h i e = absurd a.0

pub zero_stands : (zs : List ℤ) (n : ℕ) → AreZeros zs → n < length zs → StandsAt zs n (pos 0 ∷ [])
zero_stands zs n h lt = record { inside = omega (arith, lt); same = λ j less. go j less }
  where
    at_zero : (zs : List ℤ) (n : ℕ) → AreZeros zs → slice_index_or zs n (pos 0) ≡ pos 0
    at_zero [] n h = refl
    at_zero (z ∷ zs) zero h = h.0
    at_zero (z ∷ zs) (suc n) h = at_zero zs n h.1

    go : (j : ℕ) → j < 1 → slice_index_or zs (n + j) (pos 0) ≡ slice_index_or (pos 0 ∷ []) j (pos 0)
    go zero less = at_zero zs (n + 0) h
    go (suc j) less = absurd (omega (arith, less))
