-- A word that leads to a round ends at the limit of steps, whatever the limit is, from its own on.
use Rattle.std.proofs.Common.{◌≡◌, inl, inr, ◌∙◌, ◌+◌, ℕ, Bool, true, false, if◌then◌else◌, List, [], ◌∷◌, ◌++◌, None, Some, sym, ap, subst}
use Rattle.cp_endless_laws.proofs.Words.{StepLimit, Turn, Goes, System, some_same, EndsAfter, LeadsTo, node_after}
use Rattle.cp_run.specs.Run.{Node, Halted, Choosing, node_at, settled_turn, turn_at, stretch, opened, may, chosen}
use Rattle.cp_endless_laws.specs.Rounds.{AloneLaw, IsCut, IsRound, SetsOut, chosen_spot, opening_spot, spot_by}
use Rattle.cp_endless_laws.proofs.possible.Words.{after_append}
use Rattle.cp_endless_laws.proofs.steps.Nodes.{cut_node, chosen_same, opened_same}
use Rattle.cp_endless_laws.proofs.steps.Rounds.{rounds, cut_if_on}

-- ---- a word that leads to a due choice leads there with more steps too

module _ {S : Type 0} (sys : System S) (steps : ℕ) where
  -- what leads on to a due choice was not cut
  not_cut : (x : Node S) (word : List ℕ) (t : S) → node_after sys steps x word ≡ Some (Choosing t) → IsCut x → ⊥
  not_cut x word t e c = by word (cut_node x c).0 (ap (λ y. node_after sys steps y word) (sym (cut_node x c).1) ∙ e)
    where
      by : (word : List ℕ) (s : S) → node_after sys steps (Halted StepLimit s) word ≡ Some (Choosing t) → ⊥
      by [] s e = cc
      by (p ∷ word) s e = cc

  after_more : (more : ℕ) (word : List ℕ) (x : Node S) (t : S) → node_after sys steps x word ≡ Some (Choosing t) → node_after sys (more + steps) x word ≡ Some (Choosing t)
  after_more more [] x t e = e
  after_more more (p ∷ word) (Halted kind s) t e = absurd (cc)
  after_more more (p ∷ word) (Choosing s) t e = by (may sys s p) e (λ d. after_more more word (chosen sys steps s p) t d)
    where
      by : (b : Bool) → (if b then node_after sys steps (chosen sys steps s p) word else None) ≡ Some (Choosing t) → (node_after sys steps (chosen sys steps s p) word ≡ Some (Choosing t) → node_after sys (more + steps) (chosen sys steps s p) word ≡ Some (Choosing t)) →
          (if b then node_after sys (more + steps) (chosen sys (more + steps) s p) word else None) ≡ Some (Choosing t)
      by true d on = ap (λ n. node_after sys (more + steps) n word) (chosen_same sys steps more s p (not_cut (chosen sys steps s p) word t d)) ∙ on d
      by false d on = absurd (cc)

  pub leads_more : (more : ℕ) (word : List ℕ) (t : S) → LeadsTo sys steps word (Choosing t) → LeadsTo sys (more + steps) word (Choosing t)
  leads_more more word t e = ap (λ (n : Node S). node_after sys (more + steps) n word) (opened_same sys steps more (not_cut (opened sys steps) word t e)) ∙ after_more more word (opened sys steps) t e

module _ {S : Type 0} (sys : System S) where
  -- ---- the stretch of a spot

  spot_node : (n : ℕ) (s : S) (u : Turn) (t : S) (p : ℕ) → spot_by s (λ q. Some (s, q)) u ≡ Some (t, p) → node_at s (stretch sys n s) u ≡ stretch sys n t p
  spot_node n s (Goes q) t p e = ap (λ (x : S × ℕ). stretch sys n x.0 x.1) (some_same (s, q) (t, p) e)
  spot_node n s x t p e = absurd (cc)

  pub opened_spot : (n : ℕ) (t : S) (p : ℕ) → opening_spot sys ≡ Some (t, p) → opened sys n ≡ stretch sys n t p
  unfolding opened
  opened_spot n t p e = spot_node n sys.start (turn_at sys sys.start false 0) t p e

  pub chosen_at : (n : ℕ) (s : S) (c : ℕ) (t : S) (p : ℕ) → chosen_spot sys s c ≡ Some (t, p) → chosen sys n s c ≡ stretch sys n t p
  unfolding chosen
  chosen_at n s c t p e = by (sys.is_pending s) e
    where
      by : (b : Bool) → (if b then spot_by (sys.admit s c) (λ q. Some (sys.admit s c, q)) (settled_turn sys (sys.admit s c) true c) else Some (s, c)) ≡ Some (t, p) →
          (if b then node_at (sys.admit s c) (stretch sys n (sys.admit s c)) (settled_turn sys (sys.admit s c) true c) else stretch sys n s c) ≡ stretch sys n t p
      by true e = spot_node n (sys.admit s c) (settled_turn sys (sys.admit s c) true c) t p e
      by false e = ap (λ (x : S × ℕ). stretch sys n x.0 x.1) (some_same (s, c) (t, p) e)

  module _ (steps : ℕ) (s : S) (p : ℕ) (round : IsRound sys s p) where
    cut_at : (n : ℕ) → (x : S) × (stretch sys n s p ≡ Halted StepLimit x)
    cut_at n = cut_node (stretch sys n s p) (cut_if_on sys n s p (rounds sys s p round n))

    at_first : (n : ℕ) → opening_spot sys ≡ Some (s, p) → EndsAfter sys n [] StepLimit
    at_first n e = ((cut_at n).0, ap (λ (y : Node S). Some y) (opened_spot n s p e ∙ (cut_at n).1))

    after_choice : (n : ℕ) (stem : List ℕ) (c : ℕ) (t : S) → node_after sys n (opened sys n) stem ≡ Some (Choosing t) → may sys t c ≡ true → chosen_spot sys t c ≡ Some (s, p) → EndsAfter sys n (stem ++ c ∷ []) StepLimit
    after_choice n stem c t e m spot = ((cut_at n).0, after_append sys n stem (c ∷ []) (opened sys n) (Choosing t) e ∙ by (may sys t c) m (ap (λ (y : Node S). Some y) (chosen_at n t c s p spot ∙ (cut_at n).1)))
      where
        by : (b : Bool) → b ≡ true → Some (chosen sys n t c) ≡ Some (Halted StepLimit (cut_at n).0) → (if b then Some (chosen sys n t c) else None) ≡ Some (Halted StepLimit (cut_at n).0)
        by true m h = h
        by false m h = absurd (cc)

    alone_after : (word : List ℕ) → SetsOut sys steps word s p → (more : ℕ) → EndsAfter sys (more + steps) word StepLimit
    alone_after word (inl x) more = subst (λ (w : List ℕ). EndsAfter sys (more + steps) w StepLimit) (sym x.0) (at_first (more + steps) x.1)
    alone_after word (inr x) more = subst (λ (w : List ℕ). EndsAfter sys (more + steps) w StepLimit) (sym x.3) (after_choice (more + steps) x.0 x.1 x.2 (leads_more sys steps more x.0 x.2 x.4) x.5 x.6)

pub alone : {S : Type 0} (sys : System S) → AloneLaw sys
alone sys steps word s p out round more = alone_after sys steps s p round word out more
