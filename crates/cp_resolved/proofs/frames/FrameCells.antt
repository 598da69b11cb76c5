-- Variables one after the other: their cells, where each of them begins, and that they are apart.
use Rattle.std.proofs.Common.{◌≡◌, ◌+◌, ◌<◌, ◌≤◌, ℕ, zero, suc, ℤ, pos, Bool, true, false, if◌then◌else◌, List, [], ◌∷◌, ◌++◌, length, Option, Some, None, slice_index_or, refl, sym, ap, subst, ◌∙◌, ◌⊎◌, inl, inr, arith, length-append, append_assoc}
use Rattle.cp_resolved.proofs.Words.{none-some, same_Some, bytes_eq-Decides, Name, same_name, Ty, Variable, encode, cells_of, look, StandsAt, Each, IsFreeVariable}
use Rattle.cp_meaning.specs.Values.{least}
use Rattle.cp_resolved.proofs.frames.LeastCells.{least_length}

-- ---- names

pub itself : (x : Name) → same_name x x ≡ true
itself x = (bytes_eq-Decides x x).1 refl

pub same_is : (x y : Name) → same_name x y ≡ true → x ≡ y
same_is x y h = (bytes_eq-Decides x y).0 h

-- ---- variables of lists

pub look_left : (x : Name) (t : Ty) (vs ws : List Variable) → look x vs ≡ Some t → look x (vs ++ ws) ≡ Some t
look_left x t [] ws h = absurd (none-some t h)
look_left x t (v ∷ vs) ws h = go (same_name x v.name) h (look_left x t vs ws)
  where
    go : (b : Bool) → (if b then Some v.ty else look x vs) ≡ Some t → (look x vs ≡ Some t → look x (vs ++ ws) ≡ Some t) → (if b then Some v.ty else look x (vs ++ ws)) ≡ Some t
    go true e rest = e
    go false e rest = rest e

pub look_right : (x : Name) (vs ws : List Variable) → look x vs ≡ None → look x (vs ++ ws) ≡ look x ws
look_right x [] ws h = refl
look_right x (v ∷ vs) ws h = go (same_name x v.name) h (look_right x vs ws)
  where
    go : (b : Bool) → (if b then Some v.ty else look x vs) ≡ None → (look x vs ≡ None → look x (vs ++ ws) ≡ look x ws) → (if b then Some v.ty else look x (vs ++ ws)) ≡ look x ws
    go true e rest = absurd (none-some v.ty (sym e))
    go false e rest = rest e

pub none_left : (x : Name) (vs ws : List Variable) → look x (vs ++ ws) ≡ None → look x vs ≡ None
none_left x [] ws h = refl
none_left x (v ∷ vs) ws h = go (same_name x v.name) h (none_left x vs ws)
  where
    go : (b : Bool) → (if b then Some v.ty else look x (vs ++ ws)) ≡ None → (look x (vs ++ ws) ≡ None → look x vs ≡ None) → (if b then Some v.ty else look x vs) ≡ None
    go true e rest = absurd (none-some v.ty (sym e))
    go false e rest = rest e

pub none_both : (x : Name) (vs ws : List Variable) → look x vs ≡ None → look x ws ≡ None → look x (vs ++ ws) ≡ None
none_both x vs ws h i = look_right x vs ws h ∙ i

pub none_right : (x : Name) (vs ws : List Variable) → look x (vs ++ ws) ≡ None → look x ws ≡ None
none_right x vs ws h = sym (look_right x vs ws (none_left x vs ws h)) ∙ h

-- in the first list, or in the second one
pub look_either : (x : Name) (t : Ty) (vs ws : List Variable) → look x (vs ++ ws) ≡ Some t → (look x vs ≡ Some t) ⊎ ((look x vs ≡ None) × (look x ws ≡ Some t))
look_either x t vs ws h = go (look x vs) refl
  where
    go : (o : Option Ty) → look x vs ≡ o → (look x vs ≡ Some t) ⊎ ((look x vs ≡ None) × (look x ws ≡ Some t))
    go None e = inr (e, sym (look_right x vs ws e) ∙ h)
    go (Some u) e = inl (e ∙ ap (λ y. Some y) (same_Some u t (sym (look_left x u vs ws e) ∙ h)))

pub each_both : {A : Type 0} (P : A → Type 0) (xs ys : List A) → Each P xs → Each P ys → Each P (xs ++ ys)
each_both P [] ys h i = i
each_both P (x ∷ xs) ys h i = (h.0, each_both P xs ys h.1 i)

-- a variable that is found is one of the list
pub look_each : (P : Variable → Type 0) (x : Name) (t : Ty) (vs : List Variable) → Each P vs → look x vs ≡ Some t → P (record { name = x; ty = t })
look_each P x t [] h e = absurd (none-some t e)
look_each P x t (v ∷ vs) h e = go (same_name x v.name) refl e (look_each P x t vs h.1)
  where
    go : (b : Bool) → same_name x v.name ≡ b → (if b then Some v.ty else look x vs) ≡ Some t → (look x vs ≡ Some t → P (record { name = x; ty = t })) → P (record { name = x; ty = t })
    go true s f rest = subst (λ y. P (record { name = y; ty = t })) (sym (same_is x v.name s)) (subst (λ u. P (record { name = v.name; ty = u })) (same_Some v.ty t f) h.0)
    go false s f rest = rest f

-- ---- cells

-- the cells with which the variables begin
abbrev pub images : List Variable → List ℤ
images [] = []
images (v ∷ vs) = encode (least v.ty) ++ images vs

-- what variables weigh, in all and before one of them
module _ (w : Ty → ℕ) where
  abbrev pub weight : List Variable → ℕ
  weight [] = 0
  weight (v ∷ vs) = w v.ty + weight vs

  abbrev pub weight_before : Name → List Variable → ℕ
  weight_before x [] = 0
  weight_before x (v ∷ vs) = if same_name x v.name then 0 else w v.ty + weight_before x vs

-- how many cells they have, and how many are before a variable
abbrev pub total : List Variable → ℕ
total vs = weight cells_of vs

abbrev pub cells_before : Name → List Variable → ℕ
cells_before x vs = weight_before cells_of x vs

pub images_length : (vs : List Variable) → Each IsFreeVariable vs → length (images vs) ≡ total vs
images_length [] h = refl
images_length (v ∷ vs) h =
    let a = least_length v.ty h.0 in
    let b = images_length vs h.1 in
    length-append (encode (least v.ty)) (images vs) ∙ omega (arith, a, b)

pub images_append : (vs ws : List Variable) → images (vs ++ ws) ≡ images vs ++ images ws
images_append [] ws = refl
images_append (v ∷ vs) ws = ap (λ ys. encode (least v.ty) ++ ys) (images_append vs ws) ∙ sym (append_assoc (encode (least v.ty)) (images vs) (images ws))

-- ---- which of them are before others, and apart

module _ (w : Ty → ℕ) where
  pub weight_append : (vs ws : List Variable) → weight w (vs ++ ws) ≡ weight w vs + weight w ws
  weight_append [] ws = omega arith
  weight_append (v ∷ vs) ws = let e = weight_append vs ws in omega (arith, e)

  pub before_left : (x : Name) (t : Ty) (vs ws : List Variable) → look x vs ≡ Some t → weight_before w x (vs ++ ws) ≡ weight_before w x vs
  before_left x t [] ws h = absurd (none-some t h)
  before_left x t (v ∷ vs) ws h = go (same_name x v.name) h (before_left x t vs ws)
    where
      go : (b : Bool) → (if b then Some v.ty else look x vs) ≡ Some t → (look x vs ≡ Some t → weight_before w x (vs ++ ws) ≡ weight_before w x vs) → (if b then 0 else w v.ty + weight_before w x (vs ++ ws)) ≡ (if b then 0 else w v.ty + weight_before w x vs)
      go true e rest = refl
      go false e rest = ap (λ n. w v.ty + n) (rest e)

  pub before_right : (x : Name) (vs ws : List Variable) → look x vs ≡ None → weight_before w x (vs ++ ws) ≡ weight w vs + weight_before w x ws
  before_right x [] ws h = omega arith
  before_right x (v ∷ vs) ws h = go (same_name x v.name) h (before_right x vs ws)
    where
      go : (b : Bool) → (if b then Some v.ty else look x vs) ≡ None → (look x vs ≡ None → weight_before w x (vs ++ ws) ≡ weight w vs + weight_before w x ws) → (if b then 0 else w v.ty + weight_before w x (vs ++ ws)) ≡ w v.ty + weight w vs + weight_before w x ws
      go true e rest = absurd (none-some v.ty (sym e))
      go false e rest = let f = rest e in omega (arith, f)

  pub before_inside : (x : Name) (t : Ty) (vs : List Variable) → look x vs ≡ Some t → weight_before w x vs + w t ≤ weight w vs
  before_inside x t [] h = absurd (none-some t h)
  before_inside x t (v ∷ vs) h = go (same_name x v.name) h (before_inside x t vs)
    where
      go : (b : Bool) → (if b then Some v.ty else look x vs) ≡ Some t → (look x vs ≡ Some t → weight_before w x vs + w t ≤ weight w vs) → (if b then 0 else w v.ty + weight_before w x vs) + w t ≤ w v.ty + weight w vs
      go true e rest = let f = ap w (same_Some v.ty t e) in omega (arith, f)
      go false e rest = let f = rest e in omega (arith, f)

  pub before_apart : (x y : Name) (t u : Ty) (vs : List Variable) → same_name x y ≡ false → look x vs ≡ Some t → look y vs ≡ Some u → (weight_before w x vs + w t ≤ weight_before w y vs) ⊎ (weight_before w y vs + w u ≤ weight_before w x vs)
  before_apart x y t u [] o h i = absurd (none-some t h)
  before_apart x y t u (v ∷ vs) o h i = go (same_name x v.name) (same_name y v.name) refl refl h i (before_apart x y t u vs o)
    where
      go : (b c : Bool) → same_name x v.name ≡ b → same_name y v.name ≡ c → (if b then Some v.ty else look x vs) ≡ Some t → (if c then Some v.ty else look y vs) ≡ Some u →
          (look x vs ≡ Some t → look y vs ≡ Some u → (weight_before w x vs + w t ≤ weight_before w y vs) ⊎ (weight_before w y vs + w u ≤ weight_before w x vs)) →
          ((if b then 0 else w v.ty + weight_before w x vs) + w t ≤ (if c then 0 else w v.ty + weight_before w y vs)) ⊎ ((if c then 0 else w v.ty + weight_before w y vs) + w u ≤ (if b then 0 else w v.ty + weight_before w x vs))
      go true true p q e f rest = absurd (let bad : true ≡ false = sym (itself x) ∙ subst (λ z. same_name x z ≡ false) (same_is y v.name q ∙ sym (same_is x v.name p)) o in cc)
      go true false p q e f rest = let g = ap w (same_Some v.ty t e) in inl (omega (arith, g))
      go false true p q e f rest = let g = ap w (same_Some v.ty u f) in inr (omega (arith, g))
      go false false p q e f rest = further (rest e f)
        where
          further : (weight_before w x vs + w t ≤ weight_before w y vs) ⊎ (weight_before w y vs + w u ≤ weight_before w x vs) →
              (w v.ty + weight_before w x vs + w t ≤ w v.ty + weight_before w y vs) ⊎ (w v.ty + weight_before w y vs + w u ≤ w v.ty + weight_before w x vs)
          further (inl k) = inl (omega (arith, k))
          further (inr k) = inr (omega (arith, k))

-- ---- cells that stand among others

pub index_left : (xs ys : List ℤ) (n : ℕ) → n < length xs → slice_index_or (xs ++ ys) n (pos 0) ≡ slice_index_or xs n (pos 0)
index_left [] ys n h = absurd (omega (arith, h))
index_left (x ∷ xs) ys zero h = refl
index_left (x ∷ xs) ys (suc n) h = index_left xs ys n (omega (arith, h))

pub index_right : (xs ys : List ℤ) (n : ℕ) → slice_index_or (xs ++ ys) (length xs + n) (pos 0) ≡ slice_index_or ys n (pos 0)
index_right [] ys n = ap (λ m. slice_index_or ys m (pos 0)) (let e : 0 + n ≡ n = omega arith in e)
index_right (x ∷ xs) ys n = ap (λ m. slice_index_or (x ∷ (xs ++ ys)) m (pos 0)) (let e : suc (length xs) + n ≡ suc (length xs + n) = omega arith in e) ∙ index_right xs ys n

pub stands_first : (xs ys : List ℤ) → StandsAt (xs ++ ys) 0 xs
stands_first xs ys = record { inside = (let e = length-append xs ys in omega (arith, e)); same = λ k h. ap (λ m. slice_index_or (xs ++ ys) m (pos 0)) (let e : 0 + k ≡ k = omega arith in e) ∙ index_left xs ys k h }

pub stands_after : (xs ys block : List ℤ) (at : ℕ) → StandsAt ys at block → StandsAt (xs ++ ys) (length xs + at) block
stands_after xs ys block at h =
    let i : at + length block ≤ length ys = h.inside in
    let e = length-append xs ys in
    record {
      inside = omega (arith, e, i);
      same = λ k less. ap (λ n. slice_index_or (xs ++ ys) n (pos 0)) (let f : length xs + at + k ≡ length xs + (at + k) = omega arith in f) ∙ index_right xs ys (at + k) ∙ h.same k less;
    }

pub stands_left : (xs ys block : List ℤ) (at : ℕ) → StandsAt xs at block → StandsAt (xs ++ ys) at block
stands_left xs ys block at h =
    let i : at + length block ≤ length xs = h.inside in
    let e = length-append xs ys in
    record { inside = omega (arith, e, i); same = λ k less. index_left xs ys (at + k) (omega (arith, i, less)) ∙ h.same k less }

pub before_stands : (x : Name) (t : Ty) (vs : List Variable) → Each IsFreeVariable vs → look x vs ≡ Some t → StandsAt (images vs) (cells_before x vs) (encode (least t))
before_stands x t [] f h = absurd (none-some t h)
before_stands x t (v ∷ vs) f h = go (same_name x v.name) h (before_stands x t vs f.1)
  where
    go : (b : Bool) → (if b then Some v.ty else look x vs) ≡ Some t → (look x vs ≡ Some t → StandsAt (images vs) (cells_before x vs) (encode (least t))) →
        StandsAt (encode (least v.ty) ++ images vs) (if b then 0 else cells_of v.ty + cells_before x vs) (encode (least t))
    go true e rest = subst (λ (u : Ty). StandsAt (encode (least v.ty) ++ images vs) 0 (encode (least u))) (same_Some v.ty t e) (stands_first (encode (least v.ty)) (images vs))
    go false e rest = subst (λ n. StandsAt (encode (least v.ty) ++ images vs) (n + cells_before x vs) (encode (least t))) (least_length v.ty f.0) (stands_after (encode (least v.ty)) (images vs) (encode (least t)) (cells_before x vs) (rest e))

-- ---- `var` parameters

abbrev pub extents : List Variable → List ℕ
extents [] = []
extents (v ∷ vs) = cells_of v.ty ∷ extents vs

abbrev pub number_among : Name → List Variable → ℕ
number_among x [] = 0
number_among x (v ∷ vs) = if same_name x v.name then 0 else suc (number_among x vs)

pub extents_append : (vs ws : List Variable) → extents (vs ++ ws) ≡ extents vs ++ extents ws
extents_append [] ws = refl
extents_append (v ∷ vs) ws = ap (λ ys. cells_of v.ty ∷ ys) (extents_append vs ws)

pub number_left : (x : Name) (t : Ty) (vs ws : List Variable) → look x vs ≡ Some t → number_among x (vs ++ ws) ≡ number_among x vs
number_left x t [] ws h = absurd (none-some t h)
number_left x t (v ∷ vs) ws h = go (same_name x v.name) h (number_left x t vs ws)
  where
    go : (b : Bool) → (if b then Some v.ty else look x vs) ≡ Some t → (look x vs ≡ Some t → number_among x (vs ++ ws) ≡ number_among x vs) → (if b then 0 else suc (number_among x (vs ++ ws))) ≡ (if b then 0 else suc (number_among x vs))
    go true e rest = refl
    go false e rest = ap suc (rest e)

pub number_right : (x : Name) (vs ws : List Variable) → look x vs ≡ None → number_among x (vs ++ ws) ≡ length vs + number_among x ws
number_right x [] ws h = omega arith
number_right x (v ∷ vs) ws h = go (same_name x v.name) h (number_right x vs ws)
  where
    go : (b : Bool) → (if b then Some v.ty else look x vs) ≡ None → (look x vs ≡ None → number_among x (vs ++ ws) ≡ length vs + number_among x ws) → (if b then 0 else suc (number_among x (vs ++ ws))) ≡ suc (length vs) + number_among x ws
    go true e rest = absurd (none-some v.ty (sym e))
    go false e rest = let f = rest e in omega (arith, f)

pub extents_length : (vs : List Variable) → length (extents vs) ≡ length vs
extents_length [] = refl
extents_length (v ∷ vs) = ap suc (extents_length vs)

pub number_inside : (x : Name) (t : Ty) (vs : List Variable) → look x vs ≡ Some t → (number_among x vs < length (extents vs)) × (slice_index_or (extents vs) (number_among x vs) 0 ≡ cells_of t)
number_inside x t [] h = absurd (none-some t h)
number_inside x t (v ∷ vs) h = go (same_name x v.name) h (number_inside x t vs)
  where
    go : (b : Bool) → (if b then Some v.ty else look x vs) ≡ Some t → (look x vs ≡ Some t → (number_among x vs < length (extents vs)) × (slice_index_or (extents vs) (number_among x vs) 0 ≡ cells_of t)) →
        ((if b then 0 else suc (number_among x vs)) < suc (length (extents vs))) × (slice_index_or (cells_of v.ty ∷ extents vs) (if b then 0 else suc (number_among x vs)) 0 ≡ cells_of t)
    go true e rest = (omega arith, ap cells_of (same_Some v.ty t e))
    go false e rest = let f = rest e in let g = f.0 in (omega (arith, g), f.1)

pub number_different : (x y : Name) (t u : Ty) (vs : List Variable) → same_name x y ≡ false → look x vs ≡ Some t → look y vs ≡ Some u → number_among x vs ≡ number_among y vs → ⊥
number_different x y t u [] o h i e = absurd (none-some t h)
number_different x y t u (v ∷ vs) o h i e = go (same_name x v.name) (same_name y v.name) refl refl h i e (number_different x y t u vs o)
  where
    go : (b c : Bool) → same_name x v.name ≡ b → same_name y v.name ≡ c → (if b then Some v.ty else look x vs) ≡ Some t → (if c then Some v.ty else look y vs) ≡ Some u → (if b then 0 else suc (number_among x vs)) ≡ (if c then 0 else suc (number_among y vs)) →
        (look x vs ≡ Some t → look y vs ≡ Some u → number_among x vs ≡ number_among y vs → ⊥) → ⊥
    go true true p q f g k rest = absurd (let bad : true ≡ false = sym (itself x) ∙ subst (λ z. same_name x z ≡ false) (same_is y v.name q ∙ sym (same_is x v.name p)) o in cc)
    go true false p q f g k rest = omega (arith, k)
    go false true p q f g k rest = omega (arith, k)
    go false false p q f g k rest = rest f g (omega (arith, k))
