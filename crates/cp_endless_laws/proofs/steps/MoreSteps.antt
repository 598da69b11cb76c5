-- What is settled is so for every greater limit of steps, where each stretch that is cut goes on for ever; so too where none is cut.
use Rattle.std.proofs.Common.{◌≡◌, ◌⊎◌, inl, inr, ⊎_elim, ◌∙◌, ◌+◌, ℕ, Bool, true, false, if◌then◌else◌, List, [], ◌∷◌, Option, None, Some, refl, sym, ap, subst}
use Rattle.cp_endless_laws.proofs.Words.{Contains, OutcomeKind, StepLimit, System, Node, Halted, Choosing, opened, may, chosen, node_after, IsCut, IsIn, IsSettled}
use Rattle.cp_endless_laws.specs.MoreSteps.{CutsAreRounds, MoreStepsLaw, MoreStepsRoundsLaw}
use Rattle.cp_endless_laws.proofs.steps.Alone.{opened_spot, chosen_at, leads_more}
use Rattle.cp_endless_laws.proofs.steps.Nodes.{cut_node, cut_or_not, chosen_same, opened_same}
use Rattle.cp_endless_laws.proofs.steps.Rounds.{rounds, cut_if_on}

-- the same node, or the ends of two stretches that were cut
abbrev SameOrCut : {S : Type 0} → Node S → Node S → Type 0
SameOrCut x y = (x ≡ y) ⊎ (IsCut x × IsCut y)

module _ {S : Type 0} (sys : System S) (steps : ℕ) where
  module _ (more : ℕ) (states : List S) (ends : List OutcomeKind) (h : IsSettled sys steps states ends) (rounds_there : CutsAreRounds sys steps (Contains states)) where
    abbrev n : ℕ
    n = more + steps

    begun_so : SameOrCut (opened sys steps) (opened sys n)
    begun_so =
        ⊎_elim
        (λ (c : IsCut (opened sys steps)). (let r = rounds_there.start c in inr (c, subst IsCut (sym (opened_spot sys n r.0 r.1 r.2)) (cut_if_on sys n r.0 r.1 (rounds sys r.0 r.1 r.3 n)))))
        (λ (u : IsCut (opened sys steps) → ⊥). inl (sym (opened_same sys steps more u)))
        (cut_or_not (opened sys steps))

    next_so : (s : S) (p : ℕ) → Contains states s → may sys s p ≡ true → SameOrCut (chosen sys steps s p) (chosen sys n s p)
    next_so s p i m =
        ⊎_elim
        (λ (c : IsCut (chosen sys steps s p)). (let r = rounds_there.on s p i m c in inr (c, subst IsCut (sym (chosen_at sys n s p r.0 r.1 r.2)) (cut_if_on sys n r.0 r.1 (rounds sys r.0 r.1 r.3 n)))))
        (λ (u : IsCut (chosen sys steps s p) → ⊥). inl (sym (chosen_same sys steps more s p u)))
        (cut_or_not (chosen sys steps s p))

    still_in : (x y : Node S) → SameOrCut x y → IsIn (Contains states) (Contains ends) x → IsIn (Contains states) (Contains ends) y
    still_in x y (inl e) i = subst (IsIn (Contains states) (Contains ends)) e i
    still_in x y (inr c) i =
        let k = subst (IsIn (Contains states) (Contains ends)) (cut_node x c.0).1 i in
        subst (IsIn (Contains states) (Contains ends)) (sym (cut_node y c.1).1) k

    ends_still : (word : List ℕ) (x y : Node S) (kind : OutcomeKind) (s : S) → SameOrCut x y → IsIn (Contains states) (Contains ends) x → node_after sys steps x word ≡ Some (Halted kind s) → (t : S) × (node_after sys n y word ≡ Some (Halted kind t))
    ends_still word x y kind s (inr c) i e = cut_word word (cut_node x c.0).0 (cut_node y c.1).0 (ap (λ z. node_after sys steps z word) (sym (cut_node x c.0).1) ∙ e) (λ t d. (t, ap (λ z. node_after sys n z word) (cut_node y c.1).1 ∙ d))
      where
        kind_in : OutcomeKind → Option (Node S) → OutcomeKind
        kind_in d None = d
        kind_in d (Some (Halted k t)) = k
        kind_in d (Some (Choosing t)) = d

        cut_word : (word : List ℕ) (a b : S) → node_after sys steps (Halted StepLimit a) word ≡ Some (Halted kind s) → ((t : S) → node_after sys n (Halted StepLimit b) word ≡ Some (Halted kind t) → (t : S) × (node_after sys n y word ≡ Some (Halted kind t))) → (t : S) × (node_after sys n y word ≡ Some (Halted kind t))
        cut_word [] a b e on = on b (ap (λ k. Some (Halted k b)) (ap (kind_in kind) e))
        cut_word (p ∷ word) a b e on = absurd (cc)
    ends_still [] x y kind s (inl same) i e = (s, ap (λ z. Some z) (sym same) ∙ e)
    ends_still (p ∷ word) (Halted other t) y kind s (inl same) i e = absurd (cc)
    ends_still (p ∷ word) (Choosing t) y kind s (inl same) i e =
        let r = by (may sys t p) refl e (λ m d. ends_still word (chosen sys steps t p) (chosen sys n t p) kind s (next_so t p i m) (h.closed.on t p i m) d) in
        (r.0, ap (λ z. node_after sys n z (p ∷ word)) (sym same) ∙ r.1)
      where
        by : (b : Bool) → may sys t p ≡ b → (if b then node_after sys steps (chosen sys steps t p) word else None) ≡ Some (Halted kind s) →
            (may sys t p ≡ true → node_after sys steps (chosen sys steps t p) word ≡ Some (Halted kind s) → (u : S) × (node_after sys n (chosen sys n t p) word ≡ Some (Halted kind u))) →
            (u : S) × ((if b then node_after sys n (chosen sys n t p) word else None) ≡ Some (Halted kind u))
        by true m e on = on m e
        by false m e on = absurd (cc)

    settled_still : IsSettled sys n states ends
    settled_still =
        record {
          closed = record {
            start = still_in (opened sys steps) (opened sys n) begun_so h.closed.start;
            on = λ s p i m. still_in (chosen sys steps s p) (chosen sys n s p) (next_so s p i m) (h.closed.on s p i m);
          };
          reached = λ s i. (let r = h.reached s i in record { word = r.word; leads = leads_more sys steps more r.word s r.leads });
          possible = λ kind i. (let q = h.possible kind i in let e = ends_still q.word (opened sys steps) (opened sys n) kind q.state begun_so h.closed.start q.leads in record { word = q.word; state = e.0; leads = e.1 });
        }

pub more_steps_rounds : {S : Type 0} (sys : System S) → MoreStepsRoundsLaw sys
more_steps_rounds sys steps more states ends h there = settled_still sys steps more states ends h there

-- where an end at the limit of steps is not met, no stretch is cut
uncut : {S : Type 0} (x : Node S) (states : List S) (ends : List OutcomeKind) → (Contains ends StepLimit → ⊥) → IsIn (Contains states) (Contains ends) x → IsCut x → ⊥
uncut (Halted StepLimit s) states ends none i c = none i
uncut _ states ends none i c = c

pub more_steps : {S : Type 0} (sys : System S) → MoreStepsLaw sys
more_steps sys steps more states ends h none =
    more_steps_rounds sys steps more states ends h
    (record {
      start = λ c. absurd (uncut (opened sys steps) states ends none h.closed.start c);
      on = λ s p i m c. absurd (uncut (chosen sys steps s p) states ends none (h.closed.on s p i m) c);
    })
