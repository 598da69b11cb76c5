-- Where a component stands in the list of all, those that it contains follow it; and how many these are.
use Rattle.std.proofs.Common.{◌≡◌, ℕ, zero, suc, ◌+◌, ◌*◌, ◌<◌, ◌≤◌, List, [], ◌∷◌, ◌++◌, length, Some, None, slice_get, refl, sym, ap, subst, ◌∙◌, ◌⊎◌, inl, inr, append_assoc, append-nil, arith, length-append}
use Rattle.cp_resolved.proofs.Words.{min, none-some, same_Some, Program, Contained, most, plus, times, System, count_in, Name, Ty, array_over, component_of}
use Rattle.cp_resolved.proofs.Words.{length_of_range, Variable, system_of, Path, Listed, step_down, listed_elements, listed_variable, listed_variables, listed}
use Rattle.cp_resolved.proofs.names.Entries.{there}
use Rattle.cp_resolved.proofs.frames.EncodedCells.{times_stopped}
use Rattle.cp_resolved.proofs.systems.OwnedParts.{contained_of, all_contained, AreLow, count_after}
use Rattle.cp_resolved.proofs.agreeing.AgreeingWritten.{each_left, each_right}

pub either_place : {A : Type 0} (xs ys : List A) (n : ℕ) (x : A) → slice_get (xs ++ ys) n ≡ Some x → (slice_get xs n ≡ Some x) ⊎ ((m : ℕ) × (n ≡ length xs + m) × (slice_get ys m ≡ Some x))
either_place [] ys n x e = inr (n, (let z : n ≡ 0 + n = omega arith in z), e)
either_place (y ∷ xs) ys zero x e = inl e
either_place (y ∷ xs) ys (suc n) x e = go (either_place xs ys n x e)
  where
    go : (slice_get xs n ≡ Some x) ⊎ ((m : ℕ) × (n ≡ length xs + m) × (slice_get ys m ≡ Some x)) → (slice_get xs n ≡ Some x) ⊎ ((m : ℕ) × (suc n ≡ suc (length xs) + m) × (slice_get ys m ≡ Some x))
    go (inl f) = inl f
    go (inr f) = let p = f.1 in inr (f.0, omega (arith, p), f.2)

module _ (p : Program) (low : (k : ℕ) → AreLow k (all_contained (system_of p k).variables)) where
  abbrev variables_at : ℕ → List Variable
  variables_at k = (system_of p k).variables

  -- the component of a number, followed by those that it contains
  pub record Subtree (xs : List Listed) (n : ℕ) (x : Listed) : Type 0 where
    pub depth : ℕ
    pub deep : x.system ≤ depth
    pub before : List Listed
    pub after : List Listed
    pub is : xs ≡ before ++ ((x ∷ listed_variables (listed p depth) x.path (variables_at x.system)) ++ after)
    pub place : length before ≡ n

  sub_left : (xs ys : List Listed) (n : ℕ) (x : Listed) → Subtree xs n x → Subtree (xs ++ ys) n x
  sub_left xs ys n x s =
      let mine : List Listed = x ∷ listed_variables (listed p s.depth) x.path (variables_at x.system) in
      record {
        depth = s.depth;
        deep = s.deep;
        before = s.before;
        after = s.after ++ ys;
        is = ap (λ zs. zs ++ ys) s.is ∙ append_assoc s.before (mine ++ s.after) ys ∙ ap (λ zs. s.before ++ zs) (append_assoc mine s.after ys);
        place = s.place;
      }

  sub_right : (xs ys : List Listed) (n : ℕ) (x : Listed) → Subtree ys n x → Subtree (xs ++ ys) (length xs + n) x
  sub_right xs ys n x s =
      let mine : List Listed = x ∷ listed_variables (listed p s.depth) x.path (variables_at x.system) in
      record {
        depth = s.depth;
        deep = s.deep;
        before = xs ++ s.before;
        after = s.after;
        is = ap (λ zs. xs ++ zs) s.is ∙ sym (append_assoc xs s.before (mine ++ s.after));
        place = length-append xs s.before ∙ ap (λ m. length xs + m) s.place;
      }

  sub_either : (xs ys : List Listed) (n : ℕ) (x : Listed) → ((m : ℕ) → slice_get xs m ≡ Some x → Subtree xs m x) → ((m : ℕ) → slice_get ys m ≡ Some x → Subtree ys m x) → slice_get (xs ++ ys) n ≡ Some x → Subtree (xs ++ ys) n x
  sub_either xs ys n x f g e = go (either_place xs ys n x e)
    where
      go : (slice_get xs n ≡ Some x) ⊎ ((m : ℕ) × (n ≡ length xs + m) × (slice_get ys m ≡ Some x)) → Subtree (xs ++ ys) n x
      go (inl h) = sub_left xs ys n x (f n h)
      go (inr h) = subst (λ m. Subtree (xs ++ ys) m x) (sym h.1) (sub_right xs ys h.0 x (g h.0 h.2))

  module _ (bound : ℕ) (inner : ℕ → Path → List Listed) (sub : (j : ℕ) → j < bound → (path : Path) (n : ℕ) (x : Listed) → slice_get (inner j path) n ≡ Some x → Subtree (inner j path) n x) where
    elements_sub : (j : ℕ) → j < bound → (above : Path) (y : Name) (count i n : ℕ) (x : Listed) → slice_get (listed_elements (inner j) above y count i) n ≡ Some x → Subtree (listed_elements (inner j) above y count i) n x
    elements_sub j lt above y zero i n x e = absurd (none-some x e)
    elements_sub j lt above y (suc count) i n x e =
        sub_either (inner j (step_down above y (Some i))) (listed_elements (inner j) above y count (suc i)) n x (λ m f. sub j lt (step_down above y (Some i)) m x f) (λ m f. elements_sub j lt above y count (suc i) m x f) e

    variable_sub : (above : Path) (y : Name) (t : Ty) (n : ℕ) (x : Listed) → AreLow bound (contained_of t) → slice_get (listed_variable inner above y t) n ≡ Some x → Subtree (listed_variable inner above y t) n x
    variable_sub above y (component_of j) n x h e = sub j h.0 (step_down above y None) n x e
    variable_sub above y (array_over r (component_of j)) n x h e = elements_sub j h.0 above y (length_of_range r) 0 n x e
    variable_sub above y _ n x h e = absurd (none-some x e)

    variables_sub : (above : Path) (vs : List Variable) (n : ℕ) (x : Listed) → AreLow bound (all_contained vs) → slice_get (listed_variables inner above vs) n ≡ Some x → Subtree (listed_variables inner above vs) n x
    variables_sub above [] n x h e = absurd (none-some x e)
    variables_sub above (v ∷ vs) n x h e =
        sub_either (listed_variable inner above v.name v.ty) (listed_variables inner above vs) n x (λ m f. variable_sub above v.name v.ty m x (each_left (λ (c : Contained). c.system < bound) (contained_of v.ty) (all_contained vs) h) f)
        (λ m f. variables_sub above vs m x (each_right (λ (c : Contained). c.system < bound) (contained_of v.ty) (all_contained vs) h) f) e

  listed_sub : (depth k : ℕ) → k < depth → (path : Path) (n : ℕ) (x : Listed) → slice_get (listed p depth k path) n ≡ Some x → Subtree (listed p depth k path) n x
  listed_sub zero k lt path n x e = absurd (omega (arith, lt))
  listed_sub (suc depth) k lt path zero x e =
      let rest : List Listed = listed_variables (listed p depth) path (variables_at k) in
      let own : Listed = record { path = path; system = k } in
      let same : own ≡ x = same_Some own x e in
      subst (λ y. Subtree (own ∷ rest) 0 y) same (record { depth = depth; deep = omega (arith, lt); before = []; after = []; is = sym (append-nil (own ∷ rest)); place = refl })
  listed_sub (suc depth) k lt path (suc n) x e =
      let rest : List Listed = listed_variables (listed p depth) path (variables_at k) in
      let own : Listed = record { path = path; system = k } in
      let s : Subtree rest n x = variables_sub k (listed p depth) (λ j less q m y f. listed_sub depth j (omega (arith, less, lt)) q m y f) path (variables_at k) n x (low k) e in
      let z : 1 + n ≡ suc n = omega arith in
      subst (λ m. Subtree (own ∷ rest) m x) z (sub_right (own ∷ []) rest n x s)

  -- each of the program is followed by those that it contains
  pub subtree_of : (depth k : ℕ) → k < depth → (path : Path) (n : ℕ) (x : Listed) → slice_get (listed p depth k path) n ≡ Some x → Subtree (listed p depth k path) n x
  subtree_of depth k lt path n x e = listed_sub depth k lt path n x e

  -- ---- how many they are, wherever they stand

  module _ (bound : ℕ) (inner : ℕ → Path → List Listed) (even : (j : ℕ) → j < bound → (a b : Path) → length (inner j a) ≡ length (inner j b)) where
    pub elements_even : (j : ℕ) → j < bound → (above path : Path) (y : Name) (count i : ℕ) → length (listed_elements (inner j) above y count i) ≡ count * length (inner j path)
    elements_even j lt above path y zero i = omega arith
    elements_even j lt above path y (suc count) i =
        let a = length-append (inner j (step_down above y (Some i))) (listed_elements (inner j) above y count (suc i)) in
        let b = elements_even j lt above path y count (suc i) in
        let c = even j lt (step_down above y (Some i)) path in
        let d : suc count * length (inner j path) ≡ length (inner j path) + count * length (inner j path) = omega arith in
        omega (arith, a, b, c, d)

    variable_even : (a b : Path) (y z : Name) (t : Ty) → AreLow bound (contained_of t) → length (listed_variable inner a y t) ≡ length (listed_variable inner b z t)
    variable_even a b y z (component_of j) h = even j h.0 (step_down a y None) (step_down b z None)
    variable_even a b y z (array_over r (component_of j)) h = elements_even j h.0 a a y (length_of_range r) 0 ∙ sym (elements_even j h.0 b a z (length_of_range r) 0)
    variable_even a b y z _ h = refl

    variables_even : (a b : Path) (vs : List Variable) → AreLow bound (all_contained vs) → length (listed_variables inner a vs) ≡ length (listed_variables inner b vs)
    variables_even a b [] h = refl
    variables_even a b (v ∷ vs) h =
        let l = length-append (listed_variable inner a v.name v.ty) (listed_variables inner a vs) in
        let m = length-append (listed_variable inner b v.name v.ty) (listed_variables inner b vs) in
        let c = variable_even a b v.name v.name v.ty (each_left (λ (c : Contained). c.system < bound) (contained_of v.ty) (all_contained vs) h) in
        let d = variables_even a b vs (each_right (λ (c : Contained). c.system < bound) (contained_of v.ty) (all_contained vs) h) in
        omega (arith, l, m, c, d)

  pub listed_even : (depth k : ℕ) → k < depth → (a b : Path) → length (listed p depth k a) ≡ length (listed p depth k b)
  listed_even zero k lt a b = absurd (omega (arith, lt))
  listed_even (suc depth) k lt a b = ap suc (variables_even k (listed p depth) (λ j less c d. listed_even depth j (omega (arith, less, lt)) c d) a b (variables_at k) (low k))

  -- ---- the counts of the tables

  module _ (ss : List System) (counted : (j : ℕ) (s : System) → slice_get ss j ≡ Some s → s.owned.count ≡ count_after ss 1 (all_contained (variables_at j))) where
    module _ (bound : ℕ) (inner : ℕ → Path → List Listed) (even : (j : ℕ) → j < bound → (a b : Path) → length (inner j a) ≡ length (inner j b)) (count : (j : ℕ) → j < bound → (path : Path) → count_in (slice_get ss j) ≡ min (length (inner j path)) most) where
      variable_counted : (above : Path) (y : Name) (t : Ty) (n m : ℕ) → AreLow bound (contained_of t) → n ≡ min m most → count_after ss n (contained_of t) ≡ min (m + length (listed_variable inner above y t)) most
      variable_counted above y (component_of j) n m h e =
          let c = count j h.0 (step_down above y None) in
          let o : times (count_in (slice_get ss j)) 1 ≡ min (count_in (slice_get ss j)) most = (let z : count_in (slice_get ss j) * 1 ≡ count_in (slice_get ss j) = omega arith in ap (λ q. min q most) z) in
          omega (arith, c, e, o)
      variable_counted above y (array_over r (component_of j)) n m h e =
          let c = count j h.0 above in
          let o : times (count_in (slice_get ss j)) (length_of_range r) ≡ min (length_of_range r * length (inner j above)) most = ap (λ q. times q (length_of_range r)) c ∙ times_stopped (length_of_range r) (length (inner j above)) in
          let l = elements_even bound inner even j h.0 above above y (length_of_range r) 0 in
          omega (arith, o, e, l)
      variable_counted above y x n m h e = omega (arith, e)

      after_append : (n : ℕ) (cs ds : List Contained) → count_after ss n (cs ++ ds) ≡ count_after ss (count_after ss n cs) ds
      after_append n [] ds = refl
      after_append n (c ∷ cs) ds = after_append (plus n (times (count_in (slice_get ss c.system)) c.count)) cs ds

      pub variables_counted : (above : Path) (vs : List Variable) (n m : ℕ) → AreLow bound (all_contained vs) → n ≡ min m most → count_after ss n (all_contained vs) ≡ min (m + length (listed_variables inner above vs)) most
      variables_counted above [] n m h e = omega (arith, e)
      variables_counted above (v ∷ vs) n m h e =
          let a = variable_counted above v.name v.ty n m (each_left (λ (c : Contained). c.system < bound) (contained_of v.ty) (all_contained vs) h) e in
          let b = variables_counted above vs (count_after ss n (contained_of v.ty)) (m + length (listed_variable inner above v.name v.ty)) (each_right (λ (c : Contained). c.system < bound) (contained_of v.ty) (all_contained vs) h) a in
          let l = length-append (listed_variable inner above v.name v.ty) (listed_variables inner above vs) in
          let c = after_append n (contained_of v.ty) (all_contained vs) in
          omega (arith, b, l, c)

    -- how many components one of a system type is
    pub system_counted : (depth j : ℕ) → j < depth → j < length ss → (path : Path) → count_in (slice_get ss j) ≡ min (length (listed p depth j path)) most
    system_counted zero j lt there path = absurd (omega (arith, lt))
    system_counted (suc depth) j lt low' path =
        let s = there ss j low' in
        let a = variables_counted j (listed p depth) (λ i less c d. listed_even depth i (omega (arith, less, lt)) c d) (λ i less q. system_counted depth i (omega (arith, less, lt)) (omega (arith, less, low')) q) path (variables_at j) 1 1 (low j) (omega arith) in
        let e : count_in (slice_get ss j) ≡ s.0.owned.count = ap count_in s.1 in
        let c = counted j s.0 s.1 in
        omega (arith, a, e, c)
