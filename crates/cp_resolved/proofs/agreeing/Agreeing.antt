-- Where the checker's scopes and a scope of the program agree on each name: what is visible, and one name more.
use Rattle.std.proofs.Common.{◌≡◌, ℕ, Bool, true, false, if◌then◌else◌, List, [], ◌∷◌, ◌++◌, Option, Some, None, Ok, Err, is_some, refl, sym, ap, ◌∙◌, append_assoc, append-nil}
use Rattle.cp_resolved.proofs.Words.{nat_eq, bytes_eq, bytes_eq-Decides, Decides-eqb, CheckFault, Meaning, Judged, both, ◌>>=◌, faults, Name}
use Rattle.cp_scope.specs.Scopes.{Names, Scope, Scopes, Shape, Shapes, shape_in, through_seal, look_in, or_else, look_outer, look, with_shape, with_name, sealed, enter}
use Rattle.cp_scope.specs.Scopes as checker
use Rattle.cp_resolved.specs.Tokens.{IsOther}

-- ---- what breaks no rule

-- it stands for something, or has a fault
abbrev pub Good : {A : Type 0} → (A → Type 0) → Judged A → Type 0
Good P (Ok x) = P x
Good P (Err []) = ⊥
Good P (Err (f ∷ fs)) = Unit {0}

pub good_then : {A B : Type 0} (P : A → Type 0) (Q : B → Type 0) (j : Judged A) (f : A → Judged B) → Good P j → ((x : A) → P x → Good Q (f x)) → Good Q (j >>= f)
good_then P Q (Ok x) f h k = k x h
good_then P Q (Err []) f h k = absurd h
good_then P Q (Err (e ∷ es)) f h k = tt

pub good_both : {A B : Type 0} (P : A → Type 0) (Q : B → Type 0) (j : Judged A) (k : Judged B) → Good P j → Good Q k → Good (λ (q : A × B). P q.0 × Q q.1) (both j k)
good_both P Q (Ok a) (Ok b) h g = (h, g)
good_both P Q (Ok a) (Err []) h g = absurd g
good_both P Q (Err []) k h g = absurd h
good_both P Q (Err (e ∷ es)) (Ok b) h g = tt
good_both P Q _ _ h g = tt

pub good_if : {A : Type 0} (P : A → Type 0) (b : Bool) (x : A) (f : CheckFault) (fs : List CheckFault) → (b ≡ true → P x) → Good P (if b then Ok x else Err (f ∷ fs))
good_if P true x f fs h = h refl
good_if P false x f fs h = tt

pub record Sound {A : Type 0} (P : A → Type 0) (j : Judged A) : Type 0 where
  pub value : A
  pub is : j ≡ Ok value
  pub holds : P value

pub good_sound : {A : Type 0} (P : A → Type 0) (j : Judged A) → Good P j → faults j ≡ [] → Sound P j
good_sound P (Ok x) h e = record { value = x; is = refl; holds = h }
good_sound P (Err []) h e = absurd h
good_sound P (Err (f ∷ fs)) h e = absurd (let bad : f ∷ fs ≡ [] = e in cc)

pub none_left : {A : Type 0} (xs ys : List A) → xs ++ ys ≡ [] → xs ≡ []
none_left [] ys h = refl
none_left (x ∷ xs) ys h = absurd (let bad : x ∷ (xs ++ ys) ≡ [] = h in cc)

pub none_right : {A : Type 0} (xs ys : List A) → xs ++ ys ≡ [] → ys ≡ []
none_right [] ys h = h
none_right (x ∷ xs) ys h = absurd (let bad : x ∷ (xs ++ ys) ≡ [] = h in cc)

pub none_of_both : {A B : Type 0} (j : Judged A) (k : Judged B) → faults (both j k) ≡ [] → (faults j ≡ []) × (faults k ≡ [])
none_of_both (Ok a) (Ok b) h = (refl, refl)
none_of_both (Ok a) (Err gs) h = (refl, h)
none_of_both (Err fs) (Ok b) h = (h, refl)
none_of_both (Err fs) (Err gs) h = (none_left fs gs h, none_right fs gs h)

-- ---- names

pub is_itself : (x y : List ℕ) → bytes_eq x y ≡ true → x ≡ y
is_itself x y h = (bytes_eq-Decides x y).0 h

pub unknown : {A : Type 0} (o : Option A) → is_some o ≡ false → o ≡ None
unknown None h = refl
unknown (Some a) h = absurd (let bad : true ≡ false = h in cc)

pub find_last : (x n : List ℕ) (ds : Names) (o : Option Meaning) → checker.find x (ds ++ (n, o) ∷ []) ≡ or_else (checker.find x ds) (if bytes_eq x n then Some o else None)
find_last x n [] o = refl
find_last x n (d ∷ ds) o = go (bytes_eq x d.0) (find_last x n ds o)
  where
    go : (b : Bool) → checker.find x (ds ++ (n, o) ∷ []) ≡ or_else (checker.find x ds) (if bytes_eq x n then Some o else None) → (if b then Some d.1 else checker.find x (ds ++ (n, o) ∷ [])) ≡ or_else (if b then Some d.1 else checker.find x ds) (if bytes_eq x n then Some o else None)
    go true h = refl
    go false h = h

pub new_names : (c : Scope) (n : List ℕ) (o : Option Meaning) → is_some (checker.find n c.names) ≡ false → with_name c n o ≡ (let e : Scope = record { names = c.names ++ (n, o) ∷ []; pending = c.pending; is_sealed = c.is_sealed } in e)
new_names c n o h = ap (λ (b : Bool). if b then c else record { names = c.names ++ (n, o) ∷ []; pending = c.pending; is_sealed = c.is_sealed }) h

pub look_last : (x : List ℕ) (cs : List Scope) (c : Scope) → look_outer x (cs ++ c ∷ []) ≡ or_else (look_in x c) (look_outer x cs)
look_last x [] c = go (look_in x c)
  where
    go : (o : Option (Option Meaning)) → o ≡ or_else o None
    go None = refl
    go (Some m) = refl
look_last x (d ∷ cs) c = ap (λ o. or_else o (look_in x d)) (look_last x cs c) ∙ go (look_in x c) (look_outer x cs)
  where
    go : (o q : Option (Option Meaning)) → or_else (or_else o q) (look_in x d) ≡ or_else o (or_else q (look_in x d))
    go None q = refl
    go (Some m) q = refl

-- the innermost names, or what is seen of them from inside a system type
abbrev pub inner_look : Bool → Scopes → Name → Option (Option Meaning)
inner_look b s x = look_in x (sealed b s.inner)

pub look_is : (x : Name) (s : Scopes) → s.inner.is_sealed ≡ false → look x s ≡ or_else (inner_look false s x) (look_outer x s.outer)
look_is x s h = ap (λ (b : Bool). or_else (if b then through_seal (checker.find x s.inner.names) else checker.find x s.inner.names) (look_outer x s.outer)) h

pub look_entered : (b : Bool) (x : Name) (s : Scopes) → look_outer x (enter b s).outer ≡ or_else (inner_look b s x) (look_outer x s.outer)
unfolding enter
look_entered b x s = look_last x s.outer (sealed b s.inner)

-- ---- names that are declared after others

abbrev pub Appends : Names → Names → Type 0
Appends ds es = (more : Names) × (es ≡ ds ++ more)

pub appends_none : (ds es : Names) → es ≡ ds → Appends ds es
appends_none ds es e = ([], e ∙ sym (append-nil ds))

pub appends_same : (ds : Names) → Appends ds ds
appends_same ds = appends_none ds ds refl

pub appends_then : (ds es fs : Names) → Appends ds es → Appends es fs → Appends ds fs
appends_then ds es fs h g = (h.0 ++ g.0, g.1 ∙ ap (λ xs. xs ++ g.0) h.1 ∙ append_assoc ds h.0 g.0)

-- ---- shapes

abbrev pub More : Shapes → Shapes → Type 0
More ss ts = (n : ℕ) (d : Shape) → shape_in n ss ≡ Some d → shape_in n ts ≡ Some d

pub more_same : (ss : Shapes) → More ss ss
more_same ss n d h = h

pub more_trans : (ss ts us : Shapes) → More ss ts → More ts us → More ss us
more_trans ss ts us h g n d e = g n d (h n d e)

pub shape_last : (n k : ℕ) (ss : Shapes) (d : Shape) → shape_in n (ss ++ (k, d) ∷ []) ≡ or_else (shape_in n ss) (if nat_eq n k then Some d else None)
shape_last n k [] d = refl
shape_last n k (e ∷ ss) d = go (nat_eq n e.0) (shape_last n k ss d)
  where
    go : (b : Bool) → shape_in n (ss ++ (k, d) ∷ []) ≡ or_else (shape_in n ss) (if nat_eq n k then Some d else None) → (if b then Some e.1 else shape_in n (ss ++ (k, d) ∷ [])) ≡ or_else (if b then Some e.1 else shape_in n ss) (if nat_eq n k then Some d else None)
    go true h = refl
    go false h = h

-- where nothing is written yet
pub with_new : (ss : Shapes) (k : ℕ) (d : Shape) → shape_in k ss ≡ None → with_shape ss k d ≡ ss ++ (k, d) ∷ []
with_new ss k d h = ap (λ (o : Option Shape). if is_some o then ss else ss ++ (k, d) ∷ []) h

pub with_more : (ss : Shapes) (k : ℕ) (d : Shape) → shape_in k ss ≡ None → More ss (with_shape ss k d)
with_more ss k d h n e i =
    ap (shape_in n) (with_new ss k d h) ∙ shape_last n k ss d ∙ ap (λ o. or_else o (if nat_eq n k then Some d else None)) i

pub same_number : (n : ℕ) → nat_eq n n ≡ true
same_number n = (Decides-eqb n n).1 refl

pub other_number : (n k : ℕ) → (n ≡ k → ⊥) → nat_eq n k ≡ false
other_number n k h = go (nat_eq n k) refl
  where
    go : (b : Bool) → nat_eq n k ≡ b → b ≡ false
    go true e = absurd (h ((Decides-eqb n k).0 e))
    go false e = refl

pub with_there : (ss : Shapes) (k : ℕ) (d : Shape) → shape_in k ss ≡ None → shape_in k (with_shape ss k d) ≡ Some d
with_there ss k d h = ap (shape_in k) (with_new ss k d h) ∙ shape_last k k ss d ∙ ap (λ o. or_else o (if nat_eq k k then Some d else None)) h ∙ ap (λ (b : Bool). if b then Some d else None) (same_number k)

pub with_other : (ss : Shapes) (k n : ℕ) (d : Shape) → shape_in k ss ≡ None → (n ≡ k → ⊥) → shape_in n (with_shape ss k d) ≡ shape_in n ss
with_other ss k n d h other =
    ap (shape_in n) (with_new ss k d h) ∙ shape_last n k ss d ∙ ap (λ (b : Bool). or_else (shape_in n ss) (if b then Some d else None)) (other_number n k other) ∙ go (shape_in n ss)
  where
    go : (o : Option Shape) → or_else o None ≡ o
    go None = refl
    go (Some e) = refl

-- nothing is written yet at tokens
abbrev pub AreFree : Shapes → List ℕ → Type 0
AreFree ss [] = Unit {0}
AreFree ss (k ∷ ks) = (shape_in k ss ≡ None) × AreFree ss ks

pub free_others : (ss : Shapes) (k : ℕ) (d : Shape) (ks : List ℕ) → shape_in k ss ≡ None → IsOther k ks → AreFree ss ks → AreFree (with_shape ss k d) ks
free_others ss k d [] h o f = tt
free_others ss k d (j ∷ ks) h o f = (with_other ss k j d h o.0 ∙ f.0, free_others ss k d ks h o.1 f.1)
