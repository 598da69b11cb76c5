-- Words, one number after the other.
use Rattle.std.proofs.Common.{◌≡◌, ℕ, Bool, true, false, if◌then◌else◌, List, [], ◌∷◌, ◌++◌, None, Some, refl, ap}
use Rattle.cp_endless_laws.proofs.Words.{System, Node, Halted, Choosing, may, chosen, node_after}
use Rattle.cp_resolved.proofs.names.Alike.{same_inside as some_same}

module _ {S : Type 0} (sys : System S) (steps : ℕ) where
  -- the first number may be chosen, and the others lead on
  pub after_first : (s : S) (p : ℕ) (word : List ℕ) (x : Node S) → node_after sys steps (Choosing s) (p ∷ word) ≡ Some x → (may sys s p ≡ true) × (node_after sys steps (chosen sys steps s p) word ≡ Some x)
  after_first s p word x e = by (may sys s p) refl e
    where
      by : (b : Bool) → may sys s p ≡ b → (if b then node_after sys steps (chosen sys steps s p) word else None) ≡ Some x → (may sys s p ≡ true) × (node_after sys steps (chosen sys steps s p) word ≡ Some x)
      by true m e = (m, e)
      by false m e = absurd (cc)

  -- a node from which a word leads to a due choice is a due choice
  pub after_choosing : (node : Node S) (word : List ℕ) (home : S) → node_after sys steps node word ≡ Some (Choosing home) → (t : S) × (node ≡ Choosing t) × (node_after sys steps (Choosing t) word ≡ Some (Choosing home))
  after_choosing (Choosing t) word home e = (t, refl, e)
  after_choosing (Halted kind t) [] home e = absurd (cc)
  after_choosing (Halted kind t) (p ∷ word) home e = absurd (cc)

  pub after_append : (u v : List ℕ) (node x : Node S) → node_after sys steps node u ≡ Some x → node_after sys steps node (u ++ v) ≡ node_after sys steps x v
  after_append [] v node x e = ap (λ n. node_after sys steps n v) (some_same node x e)
  after_append (p ∷ u) v (Halted kind s) x e = absurd (cc)
  after_append (p ∷ u) v (Choosing s) x e = let m = after_first s p u x e in by (may sys s p) m.0 (after_append u v (chosen sys steps s p) x m.1)
    where
      by : (b : Bool) → b ≡ true → node_after sys steps (chosen sys steps s p) (u ++ v) ≡ node_after sys steps x v → (if b then node_after sys steps (chosen sys steps s p) (u ++ v) else None) ≡ node_after sys steps x v
      by true e h = h
      by false e h = absurd (cc)
