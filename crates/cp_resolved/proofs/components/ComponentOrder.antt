-- The components of the tables are those of the program, in the same order.
use Rattle.std.proofs.Common.{◌≡◌, ℕ, zero, suc, ◌<◌, ◌==◌, ℤ, Bool, true, false, if◌then◌else◌, List, [], ◌∷◌, ◌++◌, length, Option, Some, None, slice_get, refl, sym, ap, subst, ◌∙◌, arith}
use Rattle.cp_resolved.proofs.Words.{eqb-true, eqb-false, Program, Contained, Compounds, Owned, System, Name, Ty, array_over, component_of, length_of_range, Variable}
use Rattle.cp_resolved.proofs.Words.{system_of, initial_or, Path, Listed, step_down, listed_elements, listed_variable, listed_variables, listed}
use Rattle.cp_tree.specs.declared.declaration.SystemKind.TheVariants as system_kind
use Rattle.cp_layout.specs.LaidComponents.{Listing, empty_listing, contents_least, next_kind, with_component, again_and_again, add_contained, system_by, add_below, components_of_program}
use Rattle.cp_resolved.proofs.names.Entries.{there, past_there}
use Rattle.cp_resolved.proofs.systems.OwnedParts.{contained_of, all_contained, AreLow}
use Rattle.cp_resolved.proofs.agreeing.AgreeingWritten.{each_left, each_right}
use Rattle.cp_resolved.proofs.frames.EncodedCells.{less as before}

-- ---- one component after the other

contained_append : (one : ℕ → Listing → Listing) (cs ds : List Contained) (c : Listing) → add_contained one (cs ++ ds) c ≡ add_contained one ds (add_contained one cs c)
unfolding add_contained
contained_append one [] ds c = refl
contained_append one (k ∷ cs) ds c = contained_append one cs ds (again_and_again k.count (one k.system) c)

once_more : (n : ℕ) (one : Listing → Listing) (c : Listing) → again_and_again n one (one c) ≡ again_and_again (suc n) one c
unfolding again_and_again
once_more zero one c = refl
once_more (suc n) one c = ap one (once_more n one c)

module _ (p : Program) (ts : Compounds) (ss : List System) (o : Owned) (last : ℕ) where
  abbrev pub owned_in : Option System → Owned
  owned_in None = o
  owned_in (Some s) = s.owned

  -- the cells with which a component of a system type begins
  abbrev pub image_at : ℕ → List ℤ
  image_at n = contents_least ts (owned_in (slice_get ss n)).contents

  abbrev pub initial_at : ℕ → ℕ
  initial_at n = initial_or last (slice_get ss n)

  -- one more component of a system type
  abbrev pub step : Listing → ℕ → Listing
  step c n = with_component (next_kind c (system_of p n).kind (initial_at n)).1 (next_kind c (system_of p n).kind (initial_at n)).0 (image_at n) n

  -- one more for each
  abbrev pub steps : Listing → List Listed → Listing
  steps c [] = c
  steps c (x ∷ xs) = steps (step c x.system) xs

  pub steps_append : (c : Listing) (xs ys : List Listed) → steps c (xs ++ ys) ≡ steps (steps c xs) ys
  steps_append c [] ys = refl
  steps_append c (x ∷ xs) ys = steps_append (step c x.system) xs ys

  -- ---- the components inside one

  module _ (bound : ℕ) (one : ℕ → Listing → Listing) (inner : ℕ → Path → List Listed) (same : (j : ℕ) → j < bound → (path : Path) (c : Listing) → one j c ≡ steps c (inner j path)) where
    elements_same : (j : ℕ) → j < bound → (above : Path) (x : Name) (count n : ℕ) (c : Listing) → again_and_again count (one j) c ≡ steps c (listed_elements (inner j) above x count n)
    unfolding again_and_again
    elements_same j lt above x zero n c = refl
    elements_same j lt above x (suc count) n c =
        sym (once_more count (one j) c) ∙ elements_same j lt above x count (suc n) (one j c)
        ∙ ap (λ d. steps d (listed_elements (inner j) above x count (suc n))) (same j lt (step_down above x (Some n)) c)
        ∙ sym (steps_append c (inner j (step_down above x (Some n))) (listed_elements (inner j) above x count (suc n)))

    variable_same : (above : Path) (x : Name) (t : Ty) (c : Listing) → AreLow bound (contained_of t) → add_contained one (contained_of t) c ≡ steps c (listed_variable inner above x t)
    unfolding add_contained again_and_again
    variable_same above x (component_of j) c h = same j h.0 (step_down above x None) c
    variable_same above x (array_over r (component_of j)) c h = elements_same j h.0 above x (length_of_range r) 0 c
    variable_same above x _ c h = refl

    variables_same : (above : Path) (vs : List Variable) (c : Listing) → AreLow bound (all_contained vs) → add_contained one (all_contained vs) c ≡ steps c (listed_variables inner above vs)
    unfolding add_contained
    variables_same above [] c h = refl
    variables_same above (v ∷ vs) c h =
        contained_append one (contained_of v.ty) (all_contained vs) c
        ∙ ap (add_contained one (all_contained vs)) (variable_same above v.name v.ty c (each_left (λ (q : Contained). q.system < bound) (contained_of v.ty) (all_contained vs) h))
        ∙ variables_same above vs (steps c (listed_variable inner above v.name v.ty)) (each_right (λ (q : Contained). q.system < bound) (contained_of v.ty) (all_contained vs) h)
        ∙ sym (steps_append c (listed_variable inner above v.name v.ty) (listed_variables inner above vs))

  -- ---- all components

  -- a system type is laid out as it is meant
  pub record IsMeant (number : ℕ) (s : System) : Type 0 where
    pub kind : s.kind ≡ (system_of p number).kind
    pub contained : s.owned.contained ≡ all_contained (system_of p number).variables
    pub low : AreLow number (all_contained (system_of p number).variables)

  module _ (meant : (number : ℕ) (s : System) → slice_get ss number ≡ Some s → IsMeant number s) where
    listed_same : (bound n depth : ℕ) → n < bound → n < length ss → n < depth → (path : Path) (c : Listing) → add_below ts ss bound n c ≡ steps c (listed p depth n path)
    unfolding add_below
    listed_same zero n depth lt low deep path c = absurd (omega (arith, lt))
    listed_same (suc bound) n zero lt low deep path c = absurd (omega (arith, deep))
    listed_same (suc bound) n (suc depth) lt low deep path c = go (n == bound) refl (λ j less high deep' path d. listed_same bound j depth less high deep' path d) (λ less. listed_same bound n (suc depth) less low deep path c)
      where
        inside : (s : System) → slice_get ss n ≡ Some s → ((j : ℕ) → j < n → (path : Path) (d : Listing) → add_below ts ss n j d ≡ steps d (listed p depth j path)) → system_by ts (add_below ts ss n) (slice_get ss n) n c ≡ steps c (listed p (suc depth) n path)
        inside s e rest =
            let m : IsMeant n s = meant n s e in
            let vs : List Variable = (system_of p n).variables in
            let d : Listing = with_component (next_kind c s.kind s.initial).1 (next_kind c s.kind s.initial).0 (contents_least ts s.owned.contents) n in
            let first : step c n ≡ d = ap (λ (q : Option System). with_component (next_kind c (system_of p n).kind (initial_or last q)).1 (next_kind c (system_of p n).kind (initial_or last q)).0 (contents_least ts (owned_in q).contents) n) e
            ∙ ap (λ k. with_component (next_kind c k s.initial).1 (next_kind c k s.initial).0 (contents_least ts s.owned.contents) n) (sym m.kind) in
            ap (λ q. system_by ts (add_below ts ss n) q n c) e ∙ ap (λ cs. add_contained (add_below ts ss n) cs d) m.contained
            ∙ variables_same n (add_below ts ss n) (listed p depth) rest path vs d m.low ∙ ap (λ (q : Listing). steps q (listed_variables (listed p depth) path vs)) (sym first)

        go : (b : Bool) → (n == bound) ≡ b → ((j : ℕ) → j < bound → j < length ss → j < depth → (path : Path) (d : Listing) → add_below ts ss bound j d ≡ steps d (listed p depth j path)) → (n < bound → add_below ts ss bound n c ≡ steps c (listed p (suc depth) n path))
            → (if b then system_by ts (add_below ts ss bound) (slice_get ss bound) bound c else add_below ts ss bound n c) ≡ steps c (listed p (suc depth) n path)
        go true e inner other =
            let same : n ≡ bound = eqb-true n bound e in
            let s = there ss n low in
            subst (λ b. system_by ts (add_below ts ss b) (slice_get ss b) b c ≡ steps c (listed p (suc depth) n path)) same
            (inside s.0 s.1 (λ j less path d. subst (λ b. add_below ts ss b j d ≡ steps d (listed p depth j path)) (sym same) (inner j (omega (arith, less, same)) (omega (arith, less, low)) (omega (arith, less, deep)) path d)))
        go false e inner other = other (let ne = eqb-false n bound e in before n bound lt ne)

    -- the program and all that it contains
    pub program_same : (system_of p (length ss)).kind ≡ system_kind.Process → o.contained ≡ all_contained (system_of p (length ss)).variables → AreLow (length ss) (all_contained (system_of p (length ss)).variables) →
        components_of_program ts ss o last ≡ steps empty_listing (listed p (suc (length ss)) (length ss) [])
    unfolding components_of_program
    program_same kind contained low =
        let n : ℕ = length ss in
        let vs : List Variable = (system_of p n).variables in
        let d : Listing = with_component (next_kind empty_listing system_kind.Process last).1 (next_kind empty_listing system_kind.Process last).0 (contents_least ts o.contents) n in
        let first : step empty_listing n ≡ d = ap (λ (q : Option System). with_component (next_kind empty_listing (system_of p n).kind (initial_or last q)).1 (next_kind empty_listing (system_of p n).kind (initial_or last q)).0 (contents_least ts (owned_in q).contents) n) (past_there ss)
        ∙ ap (λ k. with_component (next_kind empty_listing k last).1 (next_kind empty_listing k last).0 (contents_least ts o.contents) n) kind in
        ap (λ cs. add_contained (add_below ts ss n) cs d) contained
        ∙ variables_same n (add_below ts ss n) (listed p n) (λ j less path c. listed_same n j n less less less path c) [] vs d low ∙ ap (λ (q : Listing). steps q (listed_variables (listed p n) [] vs)) (sym first)
