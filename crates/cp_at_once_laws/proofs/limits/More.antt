-- An end that is no limit of steps is one with more steps too.
use Rattle.std.proofs.Common.{◌≡◌, ◌≢◌, ◌∙◌, ◌+◌, ℕ, Bool, true, false, if◌then◌else◌, List, [], ◌∷◌, None, Some, ap, sym, refl, subst}
use Rattle.cp_at_once_laws.proofs.Words.{OutcomeKind, StepLimit, System, some_same, Node, Halted, Choosing, may, opened, chosen, IsCut}
use Rattle.cp_endless_laws.specs.Reachable.{EndsAfter, node_after}
use Rattle.cp_endless_laws.proofs.steps.Nodes.{cut_node, chosen_same, opened_same}
use Rattle.cp_at_once_laws.specs.Whole.{GreaterLimits}

module _ {S : Type 0} (sys : System S) (steps : ℕ) where
  no_cut : (kind : OutcomeKind) (s : S) → kind ≢ StepLimit → IsCut (Halted kind s) → ⊥
  no_cut StepLimit s other cut = other refl
  no_cut _ s other cut = cut

  -- what leads on to a node that is not cut is not cut
  uncut_before : (x : Node S) (word : List ℕ) (y : Node S) → (IsCut y → ⊥) → node_after sys steps x word ≡ Some y → IsCut x → ⊥
  uncut_before x word y uncut e c = by word (cut_node x c).0 (ap (λ z. node_after sys steps z word) (sym (cut_node x c).1) ∙ e)
    where
      by : (word : List ℕ) (s : S) → node_after sys steps (Halted StepLimit s) word ≡ Some y → ⊥
      by [] s e = uncut (subst IsCut (some_same (Halted StepLimit s) y e) tt)
      by (p ∷ word) s e = cc

  after_more : (more : ℕ) (word : List ℕ) (x y : Node S) → (IsCut y → ⊥) → node_after sys steps x word ≡ Some y → node_after sys (more + steps) x word ≡ Some y
  after_more more [] x y uncut e = e
  after_more more (p ∷ word) (Halted kind s) y uncut e = absurd (cc)
  after_more more (p ∷ word) (Choosing s) y uncut e = by (may sys s p) e (λ d. after_more more word (chosen sys steps s p) y uncut d)
    where
      by : (b : Bool) → (if b then node_after sys steps (chosen sys steps s p) word else None) ≡ Some y → (node_after sys steps (chosen sys steps s p) word ≡ Some y → node_after sys (more + steps) (chosen sys steps s p) word ≡ Some y) →
          (if b then node_after sys (more + steps) (chosen sys (more + steps) s p) word else None) ≡ Some y
      by true d on = ap (λ n. node_after sys (more + steps) n word) (chosen_same sys steps more s p (uncut_before (chosen sys steps s p) word y uncut d)) ∙ on d
      by false d on = absurd (cc)

  ends_more : (more : ℕ) (word : List ℕ) (kind : OutcomeKind) → kind ≢ StepLimit → EndsAfter sys steps word kind → EndsAfter sys (more + steps) word kind
  ends_more more word kind other e = (
    e.0,
    ap (λ (n : Node S). node_after sys (more + steps) n word) (opened_same sys steps more (uncut_before (opened sys steps) word (Halted kind e.0) (no_cut kind e.0 other) e.1))
        ∙ after_more more word (opened sys steps) (Halted kind e.0) (no_cut kind e.0 other) e.1,
  )

pub greater_limits : {S : Type 0} (sys : System S) → GreaterLimits sys
greater_limits sys steps more word kind other e = ends_more sys steps more word kind other e
