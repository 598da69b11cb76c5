-- What closed states say of words of any length.
use Rattle.std.proofs.Common.{◌≡◌, ℕ, Bool, true, false, if◌then◌else◌, List, [], ◌∷◌, None, Some, refl, subst}
use Rattle.cp_endless_laws.proofs.Words.{Contains, OutcomeKind, System, Node, Halted, Choosing, may, chosen, opened, some_same, IsPossible, IsReachable, LeadsTo, node_after}
use Rattle.cp_endless_laws.specs.Settled.{IsClosed, IsIn, SettledLaw}

-- where no choice leads out of some states, no word does
module _ {S : Type 0} (sys : System S) (steps : ℕ) (among : S → Type 0) (known : OutcomeKind → Type 0) (on : (s : S) (p : ℕ) → among s → may sys s p ≡ true → IsIn among known (chosen sys steps s p)) where
  pub after_in : (word : List ℕ) (node last : Node S) → IsIn among known node → node_after sys steps node word ≡ Some last → IsIn among known last
  after_in [] node last i e = subst (IsIn among known) (some_same node last e) i
  after_in (p ∷ word) (Halted kind s) last i e = absurd (cc)
  after_in (p ∷ word) (Choosing s) last i e = by (may sys s p) refl (λ j f. after_in word (chosen sys steps s p) last j f) e
    where
      by : (b : Bool) → may sys s p ≡ b → (IsIn among known (chosen sys steps s p) → node_after sys steps (chosen sys steps s p) word ≡ Some last → IsIn among known last) → (if b then node_after sys steps (chosen sys steps s p) word else None) ≡ Some last → IsIn among known last
      by true m rest e = rest (on s p i m) e
      by false m rest e = absurd (cc)

module _ {S : Type 0} (sys : System S) (steps : ℕ) (among : S → Type 0) (known : OutcomeKind → Type 0) (closed : IsClosed sys steps among known) where
  pub leads_in : (word : List ℕ) (node : Node S) → LeadsTo sys steps word node → IsIn among known node
  leads_in word node e = after_in sys steps among known closed.on word (opened sys steps) node closed.start e

  pub reachable_in : (s : S) → IsReachable sys steps s → among s
  reachable_in s r = leads_in r.word (Choosing s) r.leads

  pub possible_in : (kind : OutcomeKind) → IsPossible sys steps kind → known kind
  possible_in kind q = leads_in q.word (Halted kind q.state) q.leads

pub settled : {S : Type 0} (sys : System S) → SettledLaw sys
settled sys steps states ends h = (
  λ s. (reachable_in sys steps (Contains states) (Contains ends) h.closed s, h.reached s),
  λ kind. (possible_in sys steps (Contains states) (Contains ends) h.closed kind, h.possible kind),
)
