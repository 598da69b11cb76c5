-- The edge with which a word ends: a state, and what comes before the next step in it.
use Rattle.std.proofs.Common.{◌≡◌, ◌⊎◌, inl, inr, ◌∙◌, ℕ, Bool, true, false, if◌then◌else◌, List, [], ◌∷◌, ◌++◌, Option, None, Some, refl, sym, ap, subst}
use Rattle.cp_ends.proofs.Vocabulary.{Contains, Shown, Turn, Goes, System, each, forgetting_system, node_after, LeadsTo, spot_by, chosen_spot, SetsOut, shown_at}
use Rattle.cp_ends.proofs.Vocabulary.{ShowsAfter, after_first, after_append}
use Rattle.cp_run.specs.Run.{Node, Halted, Choosing, may, node_at, turn_at, settled_turn, stretch, opened, chosen}
use Rattle.cp_endless_laws.specs.Moments.{Moment, moments_by, stretch_moments, moments}
use Rattle.cp_ends.proofs.Searching.Arrivals.{last_cases as last_of}

-- ---- words

pub last_same : (u v : List ℕ) (a b : ℕ) → u ++ a ∷ [] ≡ v ++ b ∷ [] → (u ≡ v) × (a ≡ b)
last_same [] [] a b e = (refl, cc)
last_same [] (y ∷ []) a b e = absurd (cc)
last_same (x ∷ []) [] a b e = absurd (cc)
last_same (x ∷ u) (y ∷ v) a b e =
    let heads : x ≡ y = cc in
    let rest = last_same u v a b (cc) in
    (ap (λ k. k ∷ u) heads ∙ ap (λ w. y ∷ w) rest.0, rest.1)
last_same x y a b e = absurd (cc)

pub not_empty : (u : List ℕ) (a : ℕ) → [] ≡ u ++ a ∷ [] → ⊥
not_empty [] a e = cc
not_empty (x ∷ u) a e = cc

pub some_same : {A : Type 0} (x y : A) → Some x ≡ Some y → x ≡ y
some_same x y e = cc

pub choosing_same : {S : Type 0} (s t : S) → Some (Choosing s) ≡ Some (Choosing t) → s ≡ t
choosing_same s t e = cc

-- ---- edges

module _ {S : Type 0} (quiet : System S) where
  abbrev pub first_edge : S × Turn
  first_edge = (quiet.start, turn_at quiet quiet.start false 0)

  abbrev pub edge_by : S → ℕ → Bool → S × Turn
  edge_by s p true = (quiet.admit s p, settled_turn quiet (quiet.admit s p) true p)
  edge_by s p false = (s, Goes p)

  abbrev pub next_edge : S → ℕ → S × Turn
  next_edge s p = edge_by s p (quiet.is_pending s)

  -- where it leads, where its stretch begins, and its moments
  abbrev pub edge_node : ℕ → S × Turn → Node S
  edge_node steps e = node_at e.0 (stretch quiet steps e.0) e.1

  abbrev pub edge_spot : S × Turn → Option (S × ℕ)
  edge_spot e = spot_by e.0 (λ q. Some (e.0, q)) e.1

  abbrev pub edge_moments : ℕ → S × Turn → List (Moment S)
  edge_moments steps e = moments_by (stretch_moments quiet steps e.0) e.1

  module _ (steps : ℕ) where
    pub first_node : edge_node steps first_edge ≡ opened quiet steps
    unfolding opened
    first_node = refl

    pub next_node : (s : S) (p : ℕ) → edge_node steps (next_edge s p) ≡ chosen quiet steps s p
    unfolding chosen
    next_node s p = by (quiet.is_pending s)
      where
        by : (b : Bool) → edge_node steps (edge_by s p b) ≡ (if b then node_at (quiet.admit s p) (stretch quiet steps (quiet.admit s p)) (settled_turn quiet (quiet.admit s p) true p) else stretch quiet steps s p)
        by true = refl
        by false = refl

    next_spot : (s : S) (p : ℕ) → edge_spot (next_edge s p) ≡ chosen_spot quiet s p
    next_spot s p = by (quiet.is_pending s)
      where
        by : (b : Bool) → edge_spot (edge_by s p b) ≡ (if b then spot_by (quiet.admit s p) (λ q. Some (quiet.admit s p, q)) (settled_turn quiet (quiet.admit s p) true p) else Some (s, p))
        by true = refl
        by false = refl

    next_moments : (s : S) (p : ℕ) → edge_moments steps (next_edge s p) ≡ moments quiet steps s p
    unfolding moments
    next_moments s p = by (quiet.is_pending s)
      where
        by : (b : Bool) → edge_moments steps (edge_by s p b) ≡ (if b then moments_by (stretch_moments quiet steps (quiet.admit s p)) (settled_turn quiet (quiet.admit s p) true p) else stretch_moments quiet steps s p)
        by true = refl
        by false = refl

    -- ---- the last edge of a word

    abbrev pub EndsWith : List ℕ → S × Turn → Type 0
    EndsWith word e =
        ((word ≡ []) × (e ≡ first_edge)) ⊎
        ((stem : List ℕ) × (c : ℕ) × (t : S) × (word ≡ stem ++ c ∷ []) × LeadsTo quiet steps stem (Choosing t) × (may quiet t c ≡ true) × (e ≡ next_edge t c))

    pub edge_once : (word : List ℕ) (e f : S × Turn) → EndsWith word e → EndsWith word f → e ≡ f
    edge_once word e f (inl x) (inl y) = x.1 ∙ sym y.1
    edge_once word e f (inl x) (inr y) = absurd (not_empty y.0 y.1 (sym x.0 ∙ y.3))
    edge_once word e f (inr x) (inl y) = absurd (not_empty x.0 x.1 (sym y.0 ∙ x.3))
    edge_once word e f (inr x) (inr y) =
        let ends = last_same x.0 y.0 x.1 y.1 (sym x.3 ∙ y.3) in
        let state = choosing_same x.2 y.2 (sym x.4 ∙ ap (λ w. node_after quiet steps (opened quiet steps) w) ends.0 ∙ y.4) in
        x.6 ∙ ap (λ u. next_edge u x.1) state ∙ ap (λ c. next_edge y.2 c) ends.1 ∙ sym y.6

    node_last : (stem : List ℕ) (c : ℕ) (x y : Node S) → node_after quiet steps x (stem ++ c ∷ []) ≡ Some y →
        (t : S) × (node_after quiet steps x stem ≡ Some (Choosing t)) × (may quiet t c ≡ true) × (y ≡ chosen quiet steps t c)
    node_last [] c (Halted kind s) y e = absurd (cc)
    node_last [] c (Choosing s) y e = let m = after_first quiet steps s c [] y e in (s, refl, m.0, sym (some_same (chosen quiet steps s c) y m.1))
    node_last (p ∷ stem) c (Halted kind s) y e = absurd (cc)
    node_last (p ∷ stem) c (Choosing s) y e =
        let m = after_first quiet steps s p (stem ++ c ∷ []) y e in
        let x = node_last stem c (chosen quiet steps s p) y m.1 in
        (x.0, ap (λ (b : Bool). if b then node_after quiet steps (chosen quiet steps s p) stem else None) m.0 ∙ x.1, x.2, x.3)

    pub node_edge : (word : List ℕ) (x : Node S) → LeadsTo quiet steps word x → (e : S × Turn) × EndsWith word e × (x ≡ edge_node steps e)
    node_edge word x leads = by (last_of word)
      where
        by : (word ≡ []) ⊎ ((stem : List ℕ) × (c : ℕ) × (word ≡ stem ++ c ∷ [])) → (e : S × Turn) × EndsWith word e × (x ≡ edge_node steps e)
        by (inl none) =
            let here = ap (λ w. node_after quiet steps (opened quiet steps) w) (sym none) ∙ leads in
            (first_edge, inl (none, refl), sym (some_same (opened quiet steps) x here) ∙ sym first_node)
        by (inr y) =
            let l = node_last y.0 y.1 (opened quiet steps) x (ap (λ w. node_after quiet steps (opened quiet steps) w) (sym y.2) ∙ leads) in
            (next_edge l.0 y.1, inr (y.0, y.1, l.0, y.2, l.1, l.2, refl), l.3 ∙ sym (next_node l.0 y.1))

    pub edge_leads : (word : List ℕ) (e : S × Turn) → EndsWith word e → LeadsTo quiet steps word (edge_node steps e)
    edge_leads word e (inl x) =
        ap (λ w. node_after quiet steps (opened quiet steps) w) x.0 ∙ ap (λ (n : Node S). Some n) (sym first_node) ∙ ap (λ f. Some (edge_node steps f)) (sym x.1)
    edge_leads word e (inr x) =
        ap (λ w. node_after quiet steps (opened quiet steps) w) x.3 ∙ after_append quiet steps x.0 (x.1 ∷ []) (opened quiet steps) (Choosing x.2) x.4 ∙
        ap (λ (b : Bool). if b then Some (chosen quiet steps x.2 x.1) else None) x.5 ∙ ap (λ (n : Node S). Some n) (sym (next_node x.2 x.1)) ∙ ap (λ f. Some (edge_node steps f)) (sym x.6)

    pub spot_edge : (word : List ℕ) (s : S) (p : ℕ) → SetsOut quiet steps word s p → (e : S × Turn) × EndsWith word e × (edge_spot e ≡ Some (s, p))
    spot_edge word s p (inl x) = (first_edge, inl (x.0, refl), x.1)
    spot_edge word s p (inr x) = (next_edge x.2 x.1, inr (x.0, x.1, x.2, x.3, x.4, x.5, refl), next_spot x.2 x.1 ∙ x.6)

    pub edge_sets_out : (word : List ℕ) (e : S × Turn) (s : S) (p : ℕ) → EndsWith word e → edge_spot e ≡ Some (s, p) → SetsOut quiet steps word s p
    edge_sets_out word e s p (inl x) spot = inl (x.0, ap edge_spot (sym x.1) ∙ spot)
    edge_sets_out word e s p (inr x) spot = inr (x.0, x.1, x.2, x.3, x.4, x.5, sym (next_spot x.2 x.1) ∙ ap edge_spot (sym x.6) ∙ spot)

-- ---- what is shown on it

module _ {S : Type 0} (sys : System S) (forget : S → S) where
  abbrev quietly : System S
  quietly = forgetting_system sys forget

  may_too : (s : S) (p : ℕ) → may quietly s p ≡ may sys s p
  unfolding may
  may_too s p = refl

  module _ (steps : ℕ) where
    abbrev pub edge_shown : S × Turn → List Shown
    edge_shown e = each (shown_at sys) (edge_moments quietly steps e)

    pub shows_edge : (word : List ℕ) (v : Shown) → ShowsAfter sys forget steps word v → (e : S × Turn) × EndsWith quietly steps word e × Contains (edge_shown e) v
    shows_edge word v (inl x) = (first_edge quietly, inl (x.0, refl), x.1)
    shows_edge word v (inr x) = (
      next_edge quietly x.2 x.1,
      inr (x.0, x.1, x.2, x.3, x.4, may_too x.2 x.1 ∙ x.5, refl),
      subst (λ ms. Contains (each (shown_at sys) ms) v) (sym (next_moments quietly steps x.2 x.1)) x.6,
    )

    pub edge_shows : (word : List ℕ) (v : Shown) (e : S × Turn) → EndsWith quietly steps word e → Contains (edge_shown e) v → ShowsAfter sys forget steps word v
    edge_shows word v e (inl x) c = inl (x.0, subst (λ f. Contains (edge_shown f) v) x.1 c)
    edge_shows word v e (inr x) c =
        inr (x.0, x.1, x.2, x.3, x.4, sym (may_too x.2 x.1) ∙ x.5, subst (λ ms. Contains (each (shown_at sys) ms) v) (next_moments quietly steps x.2 x.1) (subst (λ f. Contains (edge_shown f) v) x.6 c))
