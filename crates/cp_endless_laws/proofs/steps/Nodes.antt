-- A stretch that is not cut is the same for every greater limit of steps.
use Rattle.std.proofs.Common.{◌≡◌, ◌⊎◌, inl, inr, ◌∙◌, ◌+◌, ℕ, zero, suc, Bool, true, false, if◌then◌else◌, refl, ap, subst, arith}
use Rattle.cp_endless_laws.proofs.Words.{StepLimit, Turn, Goes, System, IsCut, Node, Halted, node_at, settled_turn, turn_at, turn_after, stretch, opened, chosen}

pub cut_node : {S : Type 0} (x : Node S) → IsCut x → (s : S) × (x ≡ Halted StepLimit s)
cut_node (Halted StepLimit s) c = (s, refl)
cut_node _ c = absurd c

pub cut_or_not : {S : Type 0} (x : Node S) → IsCut x ⊎ (IsCut x → ⊥)
cut_or_not (Halted StepLimit s) = inl tt
cut_or_not _ = inr (λ c. c)

-- ---- one step more

module _ {S : Type 0} (sys : System S) where
  node_more : (t : S) (on other : ℕ → Node S) (turn : Turn) → ((q : ℕ) → (IsCut (on q) → ⊥) → other q ≡ on q) → (IsCut (node_at t on turn) → ⊥) → node_at t other turn ≡ node_at t on turn
  node_more t on other (Goes q) h c = h q c
  node_more t on other _ h c = refl

  stretch_more : (left : ℕ) (s : S) (p : ℕ) → (IsCut (stretch sys left s p) → ⊥) → stretch sys (suc left) s p ≡ stretch sys left s p
  unfolding stretch
  stretch_more zero s p c = absurd (c tt)
  stretch_more (suc left) s p c = node_more (sys.step s p) (stretch sys left (sys.step s p)) (stretch sys (suc left) (sys.step s p)) (turn_after sys (sys.step s p) p (sys.event s p)) (λ q. stretch_more left (sys.step s p) q) c

  chosen_more : (steps : ℕ) (s : S) (p : ℕ) → (IsCut (chosen sys steps s p) → ⊥) → chosen sys (suc steps) s p ≡ chosen sys steps s p
  unfolding chosen
  chosen_more steps s p c = by (sys.is_pending s) c
    where
      by : (b : Bool) → (IsCut (if b then node_at (sys.admit s p) (stretch sys steps (sys.admit s p)) (settled_turn sys (sys.admit s p) true p) else stretch sys steps s p) → ⊥) →
          (if b then node_at (sys.admit s p) (stretch sys (suc steps) (sys.admit s p)) (settled_turn sys (sys.admit s p) true p) else stretch sys (suc steps) s p) ≡ (if b then node_at (sys.admit s p) (stretch sys steps (sys.admit s p)) (settled_turn sys (sys.admit s p) true p) else stretch sys steps s p)
      by true c = node_more (sys.admit s p) (stretch sys steps (sys.admit s p)) (stretch sys (suc steps) (sys.admit s p)) (settled_turn sys (sys.admit s p) true p) (λ q. stretch_more steps (sys.admit s p) q) c
      by false c = stretch_more steps s p c

  opened_more : (steps : ℕ) → (IsCut (opened sys steps) → ⊥) → opened sys (suc steps) ≡ opened sys steps
  unfolding opened
  opened_more steps c = node_more sys.start (stretch sys steps sys.start) (stretch sys (suc steps) sys.start) (turn_at sys sys.start false 0) (λ q. stretch_more steps sys.start q) c

-- ---- any number of steps more

module _ {S : Type 0} (sys : System S) (steps : ℕ) where
  pub chosen_same : (more : ℕ) (s : S) (p : ℕ) → (IsCut (chosen sys steps s p) → ⊥) → chosen sys (more + steps) s p ≡ chosen sys steps s p
  chosen_same zero s p n = ap (λ k. chosen sys k s p) (none steps)
    where
      none : (n : ℕ) → zero + n ≡ n
      none n = omega arith
  chosen_same (suc more) s p n =
      let before = chosen_same more s p n in
      ap (λ k. chosen sys k s p) (plus more) ∙ chosen_more sys (more + steps) s p (λ c. n (subst IsCut before c)) ∙ before
    where
      plus : (m : ℕ) → suc m + steps ≡ suc (m + steps)
      plus m = omega arith

  pub opened_same : (more : ℕ) → (IsCut (opened sys steps) → ⊥) → opened sys (more + steps) ≡ opened sys steps
  opened_same zero n = ap (λ k. opened sys k) (none steps)
    where
      none : (n : ℕ) → zero + n ≡ n
      none n = omega arith
  opened_same (suc more) n =
      let before = opened_same more n in
      ap (λ k. opened sys k) (plus more) ∙ opened_more sys (more + steps) (λ c. n (subst IsCut before c)) ∙ before
    where
      plus : (m : ℕ) → suc m + steps ≡ suc (m + steps)
      plus m = omega arith
