-- Where the states of a search are expanded layer by layer, words of at most so many choices lead to what is known.
use Rattle.std.proofs.Common.{◌≡◌, ◌+◌, ◌≤◌, ℕ, suc, Bool, true, false, if◌then◌else◌, List, [], ◌∷◌, length, None, Some, refl, subst, arith}
use Rattle.cp_endless_laws.proofs.Words.{Contains, OutcomeKind, System, Node, Halted, Choosing, may, chosen, opened, LeadsTo, node_after, IsIn, some_same}
use Rattle.cp_endless_laws.specs.Layers.{EndsToLaw, IsClosedTo, IsPossibleTo}

module _ {S : Type 0} (sys : System S) (steps d : ℕ) (layer : ℕ → S → Type 0) (known : OutcomeKind → Type 0) (closed : IsClosedTo sys steps d layer known) where
  after_to : (word : List ℕ) (k : ℕ) (node last : Node S) → k + length word ≤ d → IsIn (layer k) known node → node_after sys steps node word ≡ Some last → IsIn (layer (k + length word)) known last
  after_to [] k node last le i e = subst (λ n. IsIn (layer n) known last) (none k) (subst (IsIn (layer k) known) (some_same node last e) i)
    where
      none : (n : ℕ) → n ≡ n + 0
      none n = omega arith
  after_to (p ∷ word) k (Halted other t) last le i e = absurd (cc)
  after_to (p ∷ word) k (Choosing t) last le i e = subst (λ n. IsIn (layer n) known last) (one_on k (length word)) (by (may sys t p) refl e (λ j f. after_to word (suc k) (chosen sys steps t p) last (omega (arith, le)) j f))
    where
      one_on : (m n : ℕ) → suc m + n ≡ m + suc n
      one_on m n = omega arith

      by : (b : Bool) → may sys t p ≡ b → (if b then node_after sys steps (chosen sys steps t p) word else None) ≡ Some last → (IsIn (layer (suc k)) known (chosen sys steps t p) → node_after sys steps (chosen sys steps t p) word ≡ Some last → IsIn (layer (suc k + length word)) known last) → IsIn (layer (suc k + length word)) known last
      by true m e on = on (closed.on k t p (omega (arith, le)) i m) e
      by false m e on = absurd (cc)

  pub leads_to : (word : List ℕ) (node : Node S) → length word ≤ d → LeadsTo sys steps word node → IsIn (layer (length word)) known node
  leads_to word node le e = subst (λ n. IsIn (layer n) known node) (none (length word)) (after_to word 0 (opened sys steps) node (omega (arith, le)) closed.start e)
    where
      none : (n : ℕ) → 0 + n ≡ n
      none n = omega arith

pub ends_to : {S : Type 0} (sys : System S) → EndsToLaw sys
ends_to {S} sys steps d layers ends h = λ kind. ((λ i. met kind i), h.possible kind)
  where
    met : (kind : OutcomeKind) → IsPossibleTo sys steps d kind → Contains ends kind
    met kind i = leads_to sys steps d (λ k. Contains (layers k)) (Contains ends) h.closed i.word (Halted kind i.ends.0) i.short i.ends.1
