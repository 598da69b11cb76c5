-- Where a word with one number more arrives.
use Rattle.std.proofs.Common.{◌≡◌, ◌⊎◌, inl, inr, ◌<◌, ℕ, Bool, true, false, List, [], ◌∷◌, ◌++◌, refl, ap, sym, ◌∙◌, subst}
use Rattle.std.specs.Prelude.{Some, None, if◌then◌else◌}
use Rattle.std.proofs.lemmas.Option.{same_Some}
use Rattle.cp_ends.specs.Graph.{Goal, Place, End, Arrival, Graph, further, arrival_from, ArrivesAt, LeadsToPlace}

-- the edges of places have numbers below the bound
abbrev pub IsBounded : {S E V : Type 0} → Graph S E V → Type 0
IsBounded {S} g = (s : S) (p : ℕ) → g.may s p ≡ true → p < g.below

-- a word is empty, or has a last number
pub last_cases : (w : List ℕ) → (w ≡ []) ⊎ ((v : List ℕ) × (p : ℕ) × (w ≡ v ++ p ∷ []))
last_cases [] = inl refl
last_cases (q ∷ w) = by (last_cases w)
  where
    by : (w ≡ []) ⊎ ((v : List ℕ) × (p : ℕ) × (w ≡ v ++ p ∷ [])) → (q ∷ w ≡ []) ⊎ ((v : List ℕ) × (p : ℕ) × (q ∷ w ≡ v ++ p ∷ []))
    by (inl e) = inr ([], q, ap (λ l. q ∷ l) e)
    by (inr e) = inr (q ∷ e.0, e.1, ap (λ l. q ∷ l) e.2)

module _ {S E V : Type 0} (g : Graph S E V) where
  push_from : (a b : Arrival S E V) (word : List ℕ) (s : S) (p : ℕ) → arrival_from g a word ≡ Some b → b.goal ≡ Place s → g.may s p ≡ true → arrival_from g a (word ++ p ∷ []) ≡ Some (g.on s p)
  push_from a b [] s p at goal may = subst (λ (o : Goal S E). further g (λ c. Some c) o p ≡ Some (g.on s p)) (sym (ap (λ (c : Arrival S E V). c.goal) (same_Some a b at) ∙ goal)) (by (g.may s p) may)
    where
      by : (m : Bool) → m ≡ true → (if m then Some (g.on s p) else None) ≡ Some (g.on s p)
      by true e = refl
      by false e = cc
  push_from a b (q ∷ word) s p at goal may = by a.goal at (λ c on. push_from c b word s p on goal may)
    where
      edge : (m : Bool) (r : S) → (if m then arrival_from g (g.on r q) word else None) ≡ Some b → ((c : Arrival S E V) → arrival_from g c word ≡ Some b → arrival_from g c (word ++ p ∷ []) ≡ Some (g.on s p)) → (if m then arrival_from g (g.on r q) (word ++ p ∷ []) else None) ≡ Some (g.on s p)
      edge true r at on = on (g.on r q) at
      edge false r at on = cc

      by : (o : Goal S E) → further g (λ c. arrival_from g c word) o q ≡ Some b → ((c : Arrival S E V) → arrival_from g c word ≡ Some b → arrival_from g c (word ++ p ∷ []) ≡ Some (g.on s p)) → further g (λ c. arrival_from g c (word ++ p ∷ [])) o q ≡ Some (g.on s p)
      by (End e) at on = cc
      by (Place r) at on = edge (g.may r q) r at on

  -- an edge leads on from where the word leads
  pub arrives_push : (word : List ℕ) (s : S) (p : ℕ) → LeadsToPlace g s word → g.may s p ≡ true → ArrivesAt g (word ++ p ∷ []) (g.on s p)
  arrives_push word s p h may = push_from g.start h.0 word s p h.1 h.2 may

  -- where the last edge began
  abbrev pub CameFrom : Arrival S E V → List ℕ → ℕ → Arrival S E V → Type 0
  CameFrom a word p c = (b : Arrival S E V) × (s : S) × (arrival_from g a word ≡ Some b) × (b.goal ≡ Place s) × (g.may s p ≡ true) × (c ≡ g.on s p)

  came_from : (a c : Arrival S E V) (word : List ℕ) (p : ℕ) → arrival_from g a (word ++ p ∷ []) ≡ Some c → CameFrom a word p c
  came_from a c [] p at = by a.goal refl at
    where
      edge : (m : Bool) (s : S) → a.goal ≡ Place s → g.may s p ≡ m → (if m then Some (g.on s p) else None) ≡ Some c → CameFrom a [] p c
      edge true s goal may at = (a, s, refl, goal, may, sym (same_Some (g.on s p) c at))
      edge false s goal may at = cc

      by : (o : Goal S E) → a.goal ≡ o → further g (λ b. Some b) o p ≡ Some c → CameFrom a [] p c
      by (End e) goal at = cc
      by (Place s) goal at = edge (g.may s p) s goal refl at
  came_from a c (q ∷ word) p at = by a.goal refl at (λ b on. came_from b c word p on)
    where
      edge : (m : Bool) (r : S) → a.goal ≡ Place r → g.may r q ≡ m → (if m then arrival_from g (g.on r q) (word ++ p ∷ []) else None) ≡ Some c → ((b : Arrival S E V) → arrival_from g b (word ++ p ∷ []) ≡ Some c → CameFrom b word p c) → CameFrom a (q ∷ word) p c
      edge true r goal may at on =
          let h = on (g.on r q) at in
          let first : further g (λ b. arrival_from g b word) (Place r) q ≡ Some h.0 = ap (λ m. if m then arrival_from g (g.on r q) word else None) may ∙ h.2 in
          (h.0, h.1, subst (λ (o : Goal S E). further g (λ b. arrival_from g b word) o q ≡ Some h.0) (sym goal) first, h.3, h.4, h.5)
      edge false r goal may at on = cc

      by : (o : Goal S E) → a.goal ≡ o → further g (λ b. arrival_from g b (word ++ p ∷ [])) o q ≡ Some c → ((b : Arrival S E V) → arrival_from g b (word ++ p ∷ []) ≡ Some c → CameFrom b word p c) → CameFrom a (q ∷ word) p c
      by (End e) goal at on = cc
      by (Place r) goal at on = edge (g.may r q) r goal refl at on

  -- a word that arrives came to a place before its last edge
  pub arrives_last : (word : List ℕ) (p : ℕ) (c : Arrival S E V) → ArrivesAt g (word ++ p ∷ []) c → (s : S) × LeadsToPlace g s word × (g.may s p ≡ true) × (c ≡ g.on s p)
  arrives_last word p c at = let h = came_from g.start c word p at in (h.1, (h.0, h.2, h.3), h.4, h.5)

  -- a word leads to one place
  pub one_place : (word : List ℕ) (s r : S) → LeadsToPlace g s word → LeadsToPlace g r word → s ≡ r
  one_place word s r h k =
      let same : h.0 ≡ k.0 = same_Some h.0 k.0 (sym h.1 ∙ k.1) in
      let goals : ◌≡◌ {A = Goal S E} (Place s) (Place r) = sym h.2 ∙ ap (λ (c : Arrival S E V). c.goal) same ∙ k.2 in
      cc
