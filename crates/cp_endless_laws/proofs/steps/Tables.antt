-- A table in which no schedule ends for want of steps is the same for every greater limit.
use Rattle.std.proofs.Common.{◌≡◌, ◌∙◌, ◌+◌, ℕ, zero, suc, Bool, true, false, if◌then◌else◌, List, [], ◌∷◌, ◌++◌, map, refl, sym, ap, subst}
use Rattle.cp_endless_laws.proofs.Words.{Each, StepLimit, System, Line, table, IsCut, joined_below, Node, Halted, Choosing, may, opened, chosen}
use Rattle.std.proofs.lemmas.List.Elements.{recursion_from_All}
use Rattle.cp_endless_laws.specs.MoreSteps.{IsUncut, MoreStepsTablesLaw}
use Rattle.cp_endless_laws.proofs.Basics.{each_left, each_right}
use Rattle.cp_endless_laws.proofs.possible.Walks.{behind, walk, table_walk}
use Rattle.cp_endless_laws.proofs.steps.Nodes.{chosen_same, opened_same}

-- HasStepsEnough by recursion
abbrev Enough : List Line → Type 0
Enough lines = Each (λ l. IsUncut l.outcome.kind) lines

unmapped : (p : ℕ) (ls : List Line) → Enough (map (behind p) ls) → Enough ls
unmapped p [] h = tt
unmapped p (l ∷ ls) h = (h.0, unmapped p ls h.1)

same_below : (n : ℕ) (f g : ℕ → List Line) → ((p : ℕ) → Enough (f p) → g p ≡ f p) → Enough (joined_below n f) → joined_below n g ≡ joined_below n f
same_below zero f g h c = refl
same_below (suc n) f g h c =
    ap (λ l. l ++ g n) (same_below n f g h (each_left (λ (l : Line). IsUncut l.outcome.kind) (joined_below n f) (f n) c))
    ∙ ap (λ l. joined_below n f ++ l) (h n (each_right (λ (l : Line). IsUncut l.outcome.kind) (joined_below n f) (f n) c))

module _ {S : Type 0} (sys : System S) (steps more : ℕ) where
  -- where the rows from a node end for want of steps nowhere, it was not cut
  not_cut : (choices : ℕ) (x : Node S) → Enough (walk sys steps choices x) → IsCut x → ⊥
  unfolding walk
  not_cut choices (Halted StepLimit s) h c = h.0
  not_cut choices _ h c = c

  walk_same : (choices : ℕ) (x : Node S) → Enough (walk sys steps choices x) → walk sys (more + steps) choices x ≡ walk sys steps choices x
  unfolding walk
  walk_same zero (Halted kind s) h = refl
  walk_same (suc choices) (Choosing s) h =
      same_below sys.processes
      (λ p. if may sys s p then map (behind p) (walk sys steps choices (chosen sys steps s p)) else [])
      (λ p. if may sys s p then map (behind p) (walk sys (more + steps) choices (chosen sys (more + steps) s p)) else [])
      (λ p. by p (may sys s p) (λ e. ap (λ x. walk sys (more + steps) choices x) (chosen_same sys steps more s p (not_cut choices (chosen sys steps s p) e)) ∙ walk_same choices (chosen sys steps s p) e)) h
    where
      by : (p : ℕ) (b : Bool) → (Enough (walk sys steps choices (chosen sys steps s p)) → walk sys (more + steps) choices (chosen sys (more + steps) s p) ≡ walk sys steps choices (chosen sys steps s p)) →
          Enough (if b then map (behind p) (walk sys steps choices (chosen sys steps s p)) else []) →
          (if b then map (behind p) (walk sys (more + steps) choices (chosen sys (more + steps) s p)) else []) ≡ (if b then map (behind p) (walk sys steps choices (chosen sys steps s p)) else [])
      by p true on h = ap (map (behind p)) (on (unmapped p (walk sys steps choices (chosen sys steps s p)) h))
      by p false on h = refl
  walk_same _ _ h = refl

pub more_steps_tables : {S : Type 0} (sys : System S) → MoreStepsTablesLaw sys
more_steps_tables sys choices steps more h =
    let enough = subst Enough (table_walk sys choices steps) (recursion_from_All (λ l. IsUncut l.outcome.kind) (table sys choices steps) h) in
    table_walk sys choices (more + steps)
    ∙ ap (λ x. walk sys (more + steps) choices x) (opened_same sys steps more (not_cut sys steps more choices (opened sys steps) enough))
    ∙ walk_same sys steps more choices (opened sys steps) enough
    ∙ sym (table_walk sys choices steps)
