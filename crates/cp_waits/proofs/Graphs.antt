-- The edges of a graph are the choices of its states.
use Rattle.std.proofs.Common.{◌≡◌, ◌⊎◌, inl, inr, ⊎_elim, ◌<◌, ◌≤◌, ◌+◌, ◌∙◌, ℕ, zero, suc, Bool, true, false, if◌then◌else◌, List, [], ◌∷◌, ◌++◌, None, Some, length, get_or, refl, sym, ap, subst, arith}
use Rattle.cp_waits.proofs.Words.{Contains, slice_get, Each, cases_lt, System, may, those_below, IsEdge, Edge, Graph}
use Rattle.std.proofs.lemmas.List.Elements.{Contains-append_left, Contains-append_right, Contains-append_cases}
use Rattle.std.proofs.lemmas.Option.{slice_get_cases, slice_get_within}
use Rattle.cp_ends.proofs.Searching.Lists.{contains_at, contains_first, contains_cases, contains_later, place_of}
use Rattle.cp_waits.proofs.Edges.{edge_within}
use Rattle.cp_waits.specs.Graphs.{IsChoice, IsGraphOf}
use Rattle.cp_resolved.proofs.names.Entries.{still_there as get_front}
use Rattle.cp_ends.proofs.Answering.{below as may_below}
use Rattle.cp_ends.proofs.named.Kinds.{contains_map as map_contains, contains_unmap as contains_map}

-- ---- numbers

-- the numbers below n that may be are those
pub those_may : (f : ℕ → Bool) (n p : ℕ) → Contains (those_below n f) p → f p ≡ true
those_may f zero p h = let lt = h.1 in absurd (omega (arith, lt))
those_may f (suc n) p h = by (those_may f n p) (Contains-append_cases (those_below n f) (if f n then n ∷ [] else []) p h)
  where
    here : (b : Bool) → f n ≡ b → Contains (if b then n ∷ [] else []) p → f p ≡ true
    here true e c = here_one (contains_cases n p [] c)
      where
        here_one : (n ≡ p) ⊎ Contains [] p → f p ≡ true
        here_one (inl is) = ap f (sym is) ∙ e
        here_one (inr none) = let lt = none.1 in absurd (omega (arith, lt))
    here false e c = let lt = c.1 in absurd (omega (arith, lt))

    by : (Contains (those_below n f) p → f p ≡ true) → Contains (those_below n f) p ⊎ Contains (if f n then n ∷ [] else []) p → f p ≡ true
    by on (inl before) = on before
    by on (inr last) = here (f n) refl last

pub may_be_those : (f : ℕ → Bool) (n p : ℕ) → p < n → f p ≡ true → Contains (those_below n f) p
may_be_those f zero p lt h = absurd (omega (arith, lt))
may_be_those f (suc n) p lt h = by (λ l. may_be_those f n p l h) (cases_lt p n)
  where
    last : (b : Bool) → b ≡ true → Contains (if b then p ∷ [] else []) p
    last true e = contains_first p []
    last false e = absurd (cc)

    by : (p < n → Contains (those_below n f) p) → (p < n) ⊎ (n ≤ p) → Contains (those_below (suc n) f) p
    by on (inl before) = Contains-append_left (those_below n f) (if f n then n ∷ [] else []) p (on before)
    by on (inr le) =
        let same : p ≡ n = omega (arith, lt, le) in
        Contains-append_right (those_below n f) (if f n then n ∷ [] else []) p (subst (λ k. Contains (if f n then k ∷ [] else []) p) same (last (f n) (ap f (sym same) ∙ h)))

-- ---- lists in the middle

middle_get : {X : Type 0} (before xs after : List X) (k : ℕ) (x : X) → length before ≤ k → k < length before + length xs → slice_get (before ++ xs ++ after) k ≡ Some x → Contains xs x
middle_get [] [] after k x le lt at = absurd (omega (arith, lt))
middle_get [] (y ∷ xs) after zero x le lt at = contains_at (y ∷ xs) zero x at
middle_get [] (y ∷ xs) after (suc k) x le lt at = contains_later y x xs (middle_get [] xs after k x (omega arith) (omega (arith, lt)) at)
middle_get (b ∷ before) xs after zero x le lt at = absurd (omega (arith, le))
middle_get (b ∷ before) xs after (suc k) x le lt at = middle_get before xs after k x (omega (arith, le)) (omega (arith, lt)) at

get_middle : {X : Type 0} (before xs after : List X) (k : ℕ) (x : X) → slice_get xs k ≡ Some x → slice_get (before ++ xs ++ after) (length before + k) ≡ Some x
get_middle {X} [] xs after k x at = subst (λ (n : ℕ). slice_get (xs ++ after) n ≡ Some x) (omega arith) (get_front xs after k x at)
get_middle {X} (b ∷ before) xs after k x at = subst (λ (n : ℕ). slice_get (b ∷ before ++ xs ++ after) n ≡ Some x) (plus (length before)) (get_middle before xs after k x at)
  where
    plus : (n : ℕ) → suc (n + k) ≡ suc n + k
    plus n = omega arith

pub each_of : {X : Type 0} (P : X → Type 0) (xs : List X) (x : X) → Each P xs → Contains xs x → P x
each_of P [] x h c = let lt = c.1 in absurd (omega (arith, lt))
each_of P (y ∷ xs) x h c = ⊎_elim (λ (e : y ≡ x). subst P e h.0) (λ (on : Contains xs x). each_of P xs x h.1 on) (contains_cases y x xs c)

-- ---- edges and choices

module _ {S : Type 0} (sys : System S) (inside waiting : S → ℕ → Bool) (steps : ℕ) (states : List (S × List ℕ)) (g : Graph) (is : IsGraphOf sys inside waiting steps states g) where
  -- the state that has the edge may choose its number, and the edge is this choice
  pub edge_is_choice : (i : ℕ) (e : Edge) → IsEdge g i e → (x : S × List ℕ) × (slice_get states i ≡ Some x) × (may sys x.0 e.number ≡ true) × IsChoice sys inside waiting steps states x.0 e
  edge_is_choice i e edge = by (slice_get_cases states i).1
    where
      within : i < length g.ends.items
      within = edge_within g i e edge

      by : ((z : S × List ℕ) × (i < length states) × (slice_get states i ≡ Some z) × (get_or states i z ≡ z)) ⊎ ((length states ≤ i) × (slice_get states i ≡ None)) → (x : S × List ℕ) × (slice_get states i ≡ Some x) × (may sys x.0 e.number ≡ true) × IsChoice sys inside waiting steps states x.0 e
      by (inr past) = let le = past.0 in let count = is.count in absurd (omega (arith, within, le, count))
      by (inl z) =
          let es = is.edges i z.0 z.2 in
          let at = es.1 in
          let begin = at.begin in
          let end = at.end in
          let from = edge.1 in
          let to = edge.2 in
          let known : Contains es.0 e = middle_get at.before es.0 at.after edge.0 e (omega (arith, begin, from)) (omega (arith, end, to)) (subst (λ l. slice_get l edge.0 ≡ Some e) at.all edge.3) in (
            z.0,
            z.2,
            those_may (may sys z.0.0) sys.processes e.number (subst (λ l. Contains l e.number) es.2.numbers (map_contains (λ (d : Edge). d.number) es.0 e known)),
            each_of (IsChoice sys inside waiting steps states z.0.0) es.0 e es.2.choices known,
          )

  -- each number that may be chosen in a state is that of an edge
  pub choice_is_edge : (i : ℕ) (x : S × List ℕ) → slice_get states i ≡ Some x → (p : ℕ) → may sys x.0 p ≡ true → (e : Edge) × IsEdge g i e × (e.number ≡ p)
  choice_is_edge i x at p m =
      let es = is.edges i x at in
      let stand = es.1 in
      let e = contains_map (λ (d : Edge). d.number) es.0 p (subst (λ l. Contains l p) (sym es.2.numbers) (may_be_those (may sys x.0) sys.processes p (may_below sys x.0 p m) m)) in
      let place = place_of es.0 e.0 e.1 in
      let begin = stand.begin in
      let end = stand.end in
      let below = slice_get_within es.0 place.0 e.0 place.1 in
      let there : slice_get g.edges.items (length stand.before + place.0) ≡ Some e.0 = subst (λ l. slice_get l (length stand.before + place.0) ≡ Some e.0) (sym stand.all) (get_middle stand.before es.0 stand.after place.0 e.0 place.1) in
      (e.0, (length stand.before + place.0, omega (arith, begin), omega (arith, end, below), there), e.2)
