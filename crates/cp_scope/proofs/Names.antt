-- Looking a name up, and declaring it.
use Rattle.std.proofs.Common.{Bor, ◌≡◌, ℕ, ◌+◌, ◌<◌, ◌≤◌, Bool, true, false, cond, if◌then◌else◌, List, [], ◌∷◌, ◌++◌, length, get_or, drop, map, Option, Some, None, String, Global, option_map, is_some, refl, sym, ap, ◌∙◌, add-one}
use Rattle.std.specs.String.{string_bytes, string_eq}
use Rattle.std.specs.Str.{bytes_eq}
use Rattle.std.specs.Map.{lookup}
use Rattle.std.specs.Option.{option_or, option_copied}
use Rattle.std.proofs.Math.Seq.{drop-cons}
use Rattle.std.proofs.lemmas.List.{drop_all, map-append}
use Rattle.indexmap.specs.IndexMap.{IndexMap, insert_entry}
use Rattle.indexmap.proofs.CallerLemmas.{insert_entry-new}
use Rattle.cp_scope.specs.declared.types.Meaning.{Meaning}
use Rattle.cp_scope.specs.declared.scope.Scope as code_scope
use Rattle.cp_scope.specs.Types.{is_open}
use Rattle.cp_scope.specs.Scopes.{Names, Scope, Scopes, find, is_among, look_in, or_else, look_outer, through_seal, Around, around, last_of, new_scope, with_name, with_pending}
use Rattle.cp_scope.specs.View.{entry_view, names_view, names_of, keys_seen, scope_of}

chosen : {A B : Type 0} (f : A → B) (b : Bool) (x : A) (y : Option A) → option_map f (cond b (Some x) y) ≡ cond b (Some (f x)) (option_map f y)
chosen f true x y = refl
chosen f false x y = refl

abbrev pub shown : Meaning → Option Meaning
shown m = Some m

module _ (n : List ℕ) where
  pub found_in : (es : List (String Global × Meaning)) → option_map shown (lookup (λ k. bytes_eq n (string_bytes k)) es) ≡ find n (names_view es)
  found_in [] = refl
  found_in (e ∷ es) = chosen shown (bytes_eq n (string_bytes e.0)) e.1 _ ∙ ap (cond (bytes_eq n (string_bytes e.0)) (Some (Some e.1))) (found_in es)

some_map : {A B : Type 0} (f : A → B) (o : Option A) → is_some (option_map f o) ≡ is_some o
some_map f (Some x) = refl
some_map f None = refl

module _ {S : Type 0} (n : List ℕ) (m : IndexMap (String Global) Meaning S) where
  pub found_scope : option_map shown (lookup (λ k. bytes_eq n (string_bytes k)) m.entries) ≡ find n (names_of m)
  unfolding names_of
  found_scope = found_in n m.entries

  pub declared_here : is_some (find n (names_of m)) ≡ is_some (lookup (λ k. bytes_eq n (string_bytes k)) m.entries)
  declared_here = sym (ap is_some found_scope) ∙ some_map shown _

-- ---- names that are being declared

some_cond : {A : Type 0} (b : Bool) (x : A) (y : Option A) → is_some (cond b (Some x) y) ≡ cond b true (is_some y)
some_cond true x y = refl
some_cond false x y = refl

among_in : (n : List ℕ) (es : List (String Global × Unit {0})) → is_among n (map (λ e. string_bytes e.0) es) ≡ is_some (lookup (λ k. bytes_eq n (string_bytes k)) es)
among_in n [] = refl
among_in n (e ∷ es) = ap (cond (bytes_eq n (string_bytes e.0)) true) (among_in n es) ∙ sym (some_cond (bytes_eq n (string_bytes e.0)) e.1 _)

pub pending_here : {S : Type 0} (n : List ℕ) (m : IndexMap (String Global) (Unit {0}) S) → is_among n (keys_seen m) ≡ is_some (lookup (λ k. bytes_eq n (string_bytes k)) m.entries)
unfolding keys_seen
pending_here n m = among_in n m.entries

-- ---- declaring

none_of : {A : Type 0} (o : Option A) → is_some o ≡ false → o ≡ None
none_of (Some x) h = cc
none_of None h = refl

module _ {S : Type 0} (m new : IndexMap (String Global) Meaning S) (key : String Global) (n : List ℕ) (meaning : Meaning) where
  -- a name that is new goes last
  pub name_added : string_bytes key ≡ n → is_some (lookup (λ k. bytes_eq n (string_bytes k)) m.entries) ≡ false → new.entries ≡ insert_entry string_eq m.entries key meaning → names_of new ≡ names_of m ++ (n, Some meaning) ∷ []
  unfolding names_of
  name_added e h i =
      let gone : lookup (λ k. bytes_eq (string_bytes key) (string_bytes k)) m.entries ≡ None = rw e (none_of _ h) in
      let added : new.entries ≡ m.entries ++ (key, meaning) ∷ [] = i ∙ insert_entry-new string_eq m key meaning gone in
      ap names_view added
      ∙ map-append entry_view m.entries ((key, meaning) ∷ [])
      ∙ ap (λ (b : List ℕ). names_view m.entries ++ (b, Some meaning) ∷ []) e

module _ {S : Type 0} (m new : IndexMap (String Global) (Unit {0}) S) (key : String Global) (n : List ℕ) where
  pub pending_added : string_bytes key ≡ n → is_some (lookup (λ k. bytes_eq n (string_bytes k)) m.entries) ≡ false → new.entries ≡ insert_entry string_eq m.entries key tt → keys_seen new ≡ keys_seen m ++ n ∷ []
  unfolding keys_seen
  pending_added e h i =
      let gone : lookup (λ k. bytes_eq (string_bytes key) (string_bytes k)) m.entries ≡ None = rw e (none_of _ h) in
      let added : new.entries ≡ m.entries ++ (key, tt) ∷ [] = i ∙ insert_entry-new string_eq m key tt gone in
      let bytes : String Global × Unit {0} → List ℕ = λ e. string_bytes e.0 in
      ap (map bytes) added
      ∙ map-append bytes m.entries ((key, tt) ∷ [])
      ∙ ap (λ (b : List ℕ). map bytes m.entries ++ b ∷ []) e

-- ---- scopes around

or_assoc : {A : Type 0} (a b c : Option A) → or_else (or_else a b) c ≡ or_else a (or_else b c)
or_assoc (Some x) b c = refl
or_assoc None b c = refl

-- the scopes from the i-th on, after what was found before
pub look_next : {X : Type 0} (view : X → Scope) (n : List ℕ) (xs : List X) (i : ℕ) (x : X) (old : Option (Option Meaning)) → i < length xs → x ≡ get_or xs i x → or_else (look_outer n (map view (drop i xs))) old ≡ or_else (look_outer n (map view (drop (i + 1) xs))) (or_else (look_in n (view x)) old)
look_next view n xs i x old within here =
    let e : look_outer n (map view (drop i xs)) ≡ or_else (look_outer n (map view (drop (i + 1) xs))) (look_in n (view x)) = rw (add-one, drop-cons xs i x, ← here) refl in
    ap (λ (m : Option (Option Meaning)). or_else m old) e ∙ or_assoc (look_outer n (map view (drop (i + 1) xs))) (look_in n (view x)) old

pub look_none : {X : Type 0} (view : X → Scope) (n : List ℕ) (xs : List X) (i : ℕ) (old : Option (Option Meaning)) → length xs ≤ i → or_else (look_outer n (map view (drop i xs))) old ≡ old
look_none view n xs i old h = rw (drop_all i xs h) refl

pub or_none : {A : Type 0} (a : Option A) → or_else a None ≡ a
or_none (Some x) = refl
or_none None = refl

pub or_map : {A B : Type 0} (f : A → B) (a b : Option A) → option_map f (option_or a b) ≡ or_else (option_map f a) (option_map f b)
or_map f (Some x) b = refl
or_map f None b = refl

-- one scope more was looked at
pub look_more : (n : List ℕ) (xs : List code_scope.Scope) (i : ℕ) (x : code_scope.Scope) (old got new : Option Meaning)
    → i < length xs → x ≡ get_or xs i x → option_map shown got ≡ look_in n (scope_of x) → new ≡ option_or got old
    → or_else (look_outer n (map scope_of (drop i xs))) (option_map shown old) ≡ or_else (look_outer n (map scope_of (drop (i + 1) xs))) (option_map shown new)
look_more n xs i x old got new within here e f =
    let k : or_else (look_in n (scope_of x)) (option_map shown old) ≡ option_map shown new =
    ap (λ (m : Option (Option Meaning)). or_else m (option_map shown old)) (sym e) ∙ sym (ap (option_map shown) f ∙ or_map shown got old) in
    look_next scope_of n xs i x (option_map shown old) within here ∙ ap (or_else (look_outer n (map scope_of (drop (i + 1) xs)))) k

-- ---- entering and leaving

pub map_push : {A B : Type 0} (f : A → B) (xs : List A) (x : A) → map f (xs ++ x ∷ []) ≡ map f xs ++ f x ∷ []
map_push f xs x = map-append f xs (x ∷ [])

around_last : (t : Scope) (ts : List Scope) (s : Scope) → around t (ts ++ s ∷ []) ≡ record { outer = t ∷ ts; inner = s }
around_last t [] s = refl
around_last t (u ∷ us) s = ap (λ (v : Around). record { outer = t ∷ v.outer; inner = v.inner }) (around_last u us s)

last_is : (ts : List Scope) (s : Scope) → last_of (ts ++ s ∷ []) ≡ record { outer = ts; inner = s }
last_is [] s = refl
last_is (t ∷ ts) s = around_last t ts s

module _ (xs ys : List code_scope.Scope) (x : code_scope.Scope) (e : xs ≡ ys ++ x ∷ []) where
  pub popped : last_of (map scope_of xs) ≡ record { outer = map scope_of ys; inner = scope_of x }
  popped = ap (λ (zs : List code_scope.Scope). last_of (map scope_of zs)) e ∙ ap last_of (map_push scope_of ys x) ∙ last_is (map scope_of ys) (scope_of x)

pub popped_none : (xs : List code_scope.Scope) → length xs ≡ 0 → last_of (map scope_of xs) ≡ record { outer = []; inner = new_scope }
popped_none [] h = refl
popped_none (x ∷ xs) h = cc

-- ---- one declaration more in a scope

pub add_new : (s : code_scope.Scope) (new : IndexMap (String Global) Meaning _) (key : String Global) (n : List ℕ) (meaning : Meaning) → string_bytes key ≡ n → is_some (lookup (λ k. bytes_eq n (string_bytes k)) s.names.entries) ≡ false → new.entries ≡ insert_entry string_eq s.names.entries key meaning → scope_of (record { names = new; pending = s.pending; is_sealed = s.is_sealed }) ≡ with_name (scope_of s) n (Some meaning)
unfolding scope_of
add_new s new key n meaning e h i = rw (declared_here n s.names, h) (ap (λ (ns : Names). record { names = ns; pending = keys_seen s.pending; is_sealed = s.is_sealed }) (name_added s.names new key n meaning e h i))

pub add_again : (s : code_scope.Scope) (n : List ℕ) (m : Option Meaning) → is_some (lookup (λ k. bytes_eq n (string_bytes k)) s.names.entries) ≡ true → scope_of s ≡ with_name (scope_of s) n m
unfolding scope_of
add_again s n m h = rw (declared_here n s.names, h) refl

pub reserve_new : (s : code_scope.Scope) (new : IndexMap (String Global) (Unit {0}) _) (key : String Global) (n : List ℕ) → string_bytes key ≡ n → is_some (lookup (λ k. bytes_eq n (string_bytes k)) s.pending.entries) ≡ false → new.entries ≡ insert_entry string_eq s.pending.entries key tt → scope_of (record { names = s.names; pending = new; is_sealed = s.is_sealed }) ≡ with_pending (scope_of s) n
unfolding scope_of
reserve_new s new key n e h i = rw (pending_here n s.pending, h) (ap (λ (ns : List (List ℕ)). record { names = names_of s.names; pending = ns; is_sealed = s.is_sealed }) (pending_added s.pending new key n e h i))

pub reserve_again : (s : code_scope.Scope) (n : List ℕ) → is_some (lookup (λ k. bytes_eq n (string_bytes k)) s.pending.entries) ≡ true → scope_of s ≡ with_pending (scope_of s) n
unfolding scope_of
reserve_again s n h = rw (pending_here n s.pending, h) refl

pub looked_none : (s : code_scope.Scope) (n : List ℕ) → lookup (λ k. bytes_eq n (string_bytes k)) s.names.entries ≡ None → None ≡ look_in n (scope_of s)
unfolding scope_of
looked_none s n e = by s.is_sealed (find n (names_of s.names)) (sym (found_scope n s.names) ∙ ap (option_map shown) e)
  where
    by : (b : Bool) (o : Option (Option Meaning)) → o ≡ None → None ≡ (if b then through_seal o else o)
    by true (Some (Some m)) h = cc
    by true (Some None) h = cc
    by true None h = refl
    by false o h = sym h

module _ (s : code_scope.Scope) (n : List ℕ) (m : Meaning) (there : Some m ≡ lookup (λ k. bytes_eq n (string_bytes k)) s.names.entries) where
  found_here : find n (names_of s.names) ≡ Some (Some m)
  found_here = sym (found_scope n s.names) ∙ ap (option_map shown) (sym there)

  pub looked_open : s.is_sealed ≡ false → Some (Some m) ≡ look_in n (scope_of s)
  unfolding scope_of
  looked_open h = rw (h, found_here) refl

  pub looked_through : s.is_sealed ≡ true → (b : Bool) → is_open m ≡ b → (if b then Some (Some m) else None) ≡ look_in n (scope_of s)
  unfolding scope_of
  looked_through h b e = rw (h, found_here, e) refl
