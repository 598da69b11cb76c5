-- The cells that are counted for a type are no more than those with which a variable of it begins.
use Rattle.std.proofs.Common.{◌≡◌, ℕ, zero, suc, ◌+◌, ◌*◌, ◌≤◌, ◌==◌, ℤ, Bool, true, false, if◌then◌else◌, List, [], ◌∷◌, ◌++◌, take, length, Option, Some, None, slice_get, refl, sym, ap, subst, ◌∙◌, ◌⊎◌, inl, inr, arith, length-append, le_trans}
use Rattle.cp_resolved.proofs.Words.{eqb-true, eqb-false, slice_get_within, CellType, Content, contents_least}
use Rattle.cp_symbols.specs.declared.kinds.CellType.TheVariants as types
use Rattle.cp_layout.specs.declared.layer.Content.TheVariants as content
use Rattle.cp_symbols.specs.Kinds.{Field, Compound, array, record_with, Compounds, compound_cells, cells_of, count_of}
use Rattle.cp_layout.specs.Kinds.{copies, least_by, fields_least, compound_least, compound_below, least}
use Rattle.cp_resolved.proofs.names.Entries.{there, still_there, last_or_before}

abbrev pub fields_cells : Compounds → List Field → ℕ
fields_cells ts [] = 0
fields_cells ts (f ∷ fs) = cells_of ts f.value_type + fields_cells ts fs

-- by the types before it
abbrev pub Counts : Compounds → Compound → Type 0
Counts before (array a) = a.cells ≤ count_of a.index * cells_of before a.element
Counts before (record_with fs n) = n ≤ fields_cells before fs

abbrev pub Counted : Compounds → Type 0
Counted ts = (n : ℕ) (c : Compound) → slice_get ts n ≡ Some c → Counts (take n ts) c

abbrev pub contents_cells : Compounds → List Content → ℕ
contents_cells ts [] = 0
contents_cells ts (content.Variable t ∷ cs) = cells_of ts t + contents_cells ts cs
contents_cells ts (content.Component ∷ cs) = 1 + contents_cells ts cs

-- ---- the first ones of a list

take_last : {X : Type 0} (xs : List X) (n : ℕ) → slice_get (take (suc n) xs) n ≡ slice_get xs n
take_last (x ∷ xs) (suc n) = take_last xs n
take_last _ _ = refl

take_other : {X : Type 0} (xs : List X) (n k : ℕ) → (k ≡ n → ⊥) → slice_get (take (suc n) xs) k ≡ slice_get (take n xs) k
take_other [] zero k h = refl
take_other (x ∷ xs) zero zero h = absurd (h refl)
take_other (x ∷ xs) (suc n) (suc k) h = take_other xs n k (λ e. h (ap suc e))
take_other _ _ _ h = refl

take_whole : {X : Type 0} (xs : List X) → take (length xs) xs ≡ xs
take_whole [] = refl
take_whole (x ∷ xs) = ap (λ ys. x ∷ ys) (take_whole xs)

pub take_more : {X : Type 0} (xs ys : List X) (n : ℕ) → n ≤ length xs → take n (xs ++ ys) ≡ take n xs
take_more xs ys zero le = refl
take_more [] ys (suc n) le = absurd (omega arith)
take_more (x ∷ xs) ys (suc n) le = ap (λ zs. x ∷ zs) (take_more xs ys n (omega arith))

pub counted_more : (ts : Compounds) (c : Compound) → Counts ts c → Counted ts → Counted (ts ++ c ∷ [])
counted_more ts c h g n d e = go (last_or_before ts c n d e)
  where
    go : (slice_get ts n ≡ Some d) ⊎ ((n ≡ length ts) × (d ≡ c)) → Counts (take n (ts ++ c ∷ [])) d
    go (inl f) = let lt = slice_get_within ts n d f in subst (λ (us : Compounds). Counts us d) (sym (take_more ts (c ∷ []) n (omega (arith, lt)))) (g n d f)
    go (inr f) = rw (f.1, f.0) (subst (λ (us : Compounds). Counts us c) (sym (take_more ts (c ∷ []) (length ts) (omega arith) ∙ take_whole ts)) h)

-- ---- more types

compound_more : (ts more : Compounds) (n : ℕ) → compound_cells (slice_get ts n) ≤ compound_cells (slice_get (ts ++ more) n)
compound_more ts more n = go (slice_get ts n) refl
  where
    go : (o : Option Compound) → slice_get ts n ≡ o → compound_cells o ≤ compound_cells (slice_get (ts ++ more) n)
    go None e = omega arith
    go (Some c) e = rw (still_there ts more n c e) (omega arith)

pub cells_more : (ts more : Compounds) (t : CellType) → cells_of ts t ≤ cells_of (ts ++ more) t
cells_more ts more (types.Array n) = compound_more ts more n
cells_more ts more (types.Record n) = compound_more ts more n
cells_more ts more x = omega arith

pub fields_more : (ts more : Compounds) (fs : List Field) → fields_cells ts fs ≤ fields_cells (ts ++ more) fs
fields_more ts more [] = omega arith
fields_more ts more (f ∷ fs) = let a = cells_more ts more f.value_type in let b = fields_more ts more fs in omega (arith, a, b)

pub contents_more : (ts more : Compounds) (cs : List Content) → contents_cells ts cs ≤ contents_cells (ts ++ more) cs
contents_more ts more [] = omega arith
contents_more ts more (content.Variable t ∷ cs) = let a = cells_more ts more t in let b = contents_more ts more cs in omega (arith, a, b)
contents_more ts more (content.Component ∷ cs) = let b = contents_more ts more cs in omega (arith, b)

pub fields_last : (ts : Compounds) (fs : List Field) (f : Field) → fields_cells ts (fs ++ f ∷ []) ≡ fields_cells ts fs + cells_of ts f.value_type
fields_last ts [] f = omega arith
fields_last ts (g ∷ fs) f = let a = fields_last ts fs f in omega (arith, a)

pub contents_last : (ts : Compounds) (cs : List Content) (t : CellType) → contents_cells ts (cs ++ content.Variable t ∷ []) ≡ contents_cells ts cs + cells_of ts t
contents_last ts [] t = omega arith
contents_last ts (content.Variable u ∷ cs) t = let a = contents_last ts cs t in omega (arith, a)
contents_last ts (content.Component ∷ cs) t = let a = contents_last ts cs t in omega (arith, a)

pub contents_component : (ts : Compounds) (cs : List Content) → contents_cells ts (cs ++ content.Component ∷ []) ≡ contents_cells ts cs + 1
contents_component ts [] = omega arith
contents_component ts (content.Variable u ∷ cs) = let a = contents_component ts cs in omega (arith, a)
contents_component ts (content.Component ∷ cs) = let a = contents_component ts cs in omega (arith, a)

-- ---- the cells with which a variable begins

pub copies_length : (n : ℕ) (zs : List ℤ) → length (copies n zs) ≡ n * length zs
unfolding copies
copies_length zero zs = omega arith
copies_length (suc n) zs = length-append (copies n zs) zs ∙ (let e = copies_length n zs in omega (arith, e))

pub times_more : (n a b : ℕ) → a ≤ b → n * a ≤ n * b
times_more zero a b le = omega arith
times_more (suc n) a b le = let h = times_more n a b le in omega (arith, h, le)

module _ (ts : Compounds) (bound : ℕ) (compound : ℕ → List ℤ) (below : (n : ℕ) → compound_cells (slice_get (take bound ts) n) ≤ length (compound n)) where
  type_least : (t : CellType) → cells_of (take bound ts) t ≤ length (least_by compound t)
  type_least (types.Array n) = below n
  type_least (types.Record n) = below n
  type_least x = omega arith

  fields_length : (fs : List Field) → fields_cells (take bound ts) fs ≤ length (fields_least compound fs)
  unfolding fields_least
  fields_length [] = omega arith
  fields_length (f ∷ fs) =
      let a = type_least f.value_type in
      let b = fields_length fs in
      let e = length-append (least_by compound f.value_type) (fields_least compound fs) in
      omega (arith, a, b, e)

  compound_length : (c : Compound) → Counts (take bound ts) c → compound_cells (Some c) ≤ length (compound_least compound (Some c))
  compound_length (array a) h =
      let e = copies_length (count_of a.index) (least_by compound a.element) in
      let b = times_more (count_of a.index) (cells_of (take bound ts) a.element) (length (least_by compound a.element)) (type_least a.element) in
      let h' : a.cells ≤ count_of a.index * cells_of (take bound ts) a.element = h in
      let goal : a.cells ≤ length (copies (count_of a.index) (least_by compound a.element)) = rw e (le_trans h' b) in
      goal
  compound_length (record_with fs n) h = let b = fields_length fs in let h' : n ≤ fields_cells (take bound ts) fs = h in omega (arith, b, h')

is_other : (n k : ℕ) → (n == k) ≡ false → n ≡ k → ⊥
is_other n k e = eqb-false n k e

below_step : (ts : Compounds) (bound n : ℕ) (b : Bool) → Counted ts → suc bound ≤ length ts → (n == bound) ≡ b → ((k : ℕ) → compound_cells (slice_get (take bound ts) k) ≤ length (compound_below ts bound k))
    → compound_cells (slice_get (take (suc bound) ts) n) ≤ length (if b then compound_least (compound_below ts bound) (slice_get ts bound) else compound_below ts bound n)
below_step ts bound n true g le e ih =
    let same : n ≡ bound = eqb-true n bound e in
    let c = there ts bound (omega (arith, le)) in
    let h = compound_length ts bound (compound_below ts bound) ih c.0 (g bound c.0 c.1) in
    rw (same, take_last ts bound, c.1) h
below_step ts bound n false g le e ih = rw (take_other ts bound n (is_other n bound e)) (ih n)

below_length : (ts : Compounds) → Counted ts → (bound : ℕ) → bound ≤ length ts → (n : ℕ) → compound_cells (slice_get (take bound ts) n) ≤ length (compound_below ts bound n)
unfolding compound_below
below_length ts g zero le n = omega arith
below_length ts g (suc bound) le n = below_step ts bound n (n == bound) g (omega (arith, le)) refl (λ k. below_length ts g bound (omega (arith, le)) k)

least_length : (ts : Compounds) → Counted ts → (t : CellType) → cells_of ts t ≤ length (least ts t)
unfolding least
least_length ts g t =
    subst (λ (us : Compounds). cells_of us t ≤ length (least_by (compound_below ts (length ts)) t)) (take_whole ts) (type_least ts (length ts) (compound_below ts (length ts)) (λ n. below_length ts g (length ts) (omega arith) n) t)

pub contents_length : (ts : Compounds) → Counted ts → (cs : List Content) → contents_cells ts cs ≤ length (contents_least ts cs)
unfolding contents_least
contents_length ts g [] = omega arith
contents_length ts g (content.Variable t ∷ cs) =
    let a = least_length ts g t in
    let b = contents_length ts g cs in
    let e = length-append (least ts t) (contents_least ts cs) in
    omega (arith, a, b, e)
contents_length ts g (content.Component ∷ cs) = let b = contents_length ts g cs in omega (arith, b)
