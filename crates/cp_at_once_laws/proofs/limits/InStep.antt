-- What is gone through in one of two systems that go in step is gone through in the other.
use Rattle.std.proofs.Common.{◌≡◌, ◌⊎◌, inl, inr, ◌∙◌, ℕ, zero, suc, true, false, Some, ap, sym, refl, subst}
use Rattle.cp_at_once_laws.proofs.Words.{OutcomeKind, Turn, Over, Due, Goes, System, may, turn_at, turn_after, CanGo, GoInStep, spot_after, spot_by, some_same}
use Rattle.cp_run.specs.Code.{IfGoes}
use Rattle.cp_machine_laws.proofs.Alike.{goes_on, goes_same, may_go, may_same, opening_goes}
use Rattle.cp_machine_laws.proofs.Turns.{turn_same}
use Rattle.cp_at_once_laws.specs.Through.{IsTurnKnown, IsOpeningKnown, FollowsEach, HasQuietLeg, FollowsOne, GoesThrough}

module _ {S T : Type 0} (a : System S) (b : System T) (R : S → T → Type 0) (go : GoInStep a b R) (free : (s : S) (t : T) → R s t → a.is_pending s ≡ false) where
  -- where the one stands, the other does
  pub record StandsAlike (s : S) (q n : ℕ) (t : T) (f : ℕ) : Type 0 where
    pub state : T
    pub same : R s state
    pub can : CanGo a s q
    pub stands : spot_after b n t f ≡ Some (state, q)

  pub stands_alike : (n : ℕ) (s : S) (t : T) (f : ℕ) (u : S) (q : ℕ) → R s t → CanGo a s f → spot_after a n s f ≡ Some (u, q) → StandsAlike u q n t f
  stands_alike zero s t f u q r c e =
      subst (λ (x : S × ℕ). StandsAlike x.0 x.1 0 t f) (some_same (s, f) (u, q) e) (record { state = t; same = r; can = c; stands = refl })
  stands_alike (suc n) s t f u q r c e =
      by (turn_after a (a.step s f) f (a.event s f)) refl (goes_on a b R go s t f r c) e (λ x d k. stands_alike n (a.step s f) (b.step t f) x u q (go.step s t f r c) d k)
    where
      by : (turn : Turn) → turn_after a (a.step s f) f (a.event s f) ≡ turn → IfGoes turn (CanGo a (a.step s f)) → spot_by (a.step s f) (spot_after a n (a.step s f)) turn ≡ Some (u, q) →
          ((x : ℕ) → CanGo a (a.step s f) x → spot_after a n (a.step s f) x ≡ Some (u, q) → StandsAlike u q n (b.step t f) x) → StandsAlike u q (suc n) t f
      by (Over kind) is g k on = absurd cc
      by Due is g k on = absurd cc
      by (Goes x) is g k on =
          let y = on x g k in
          record { state = y.state; same = y.same; can = y.can; stands = ap (spot_by (b.step t f) (spot_after b n (b.step t f))) (sym (goes_same a b R go s t f r c) ∙ is) ∙ y.stands }

  module _ (Qa : S → ℕ → Type 0) (AtOnce : T → ℕ → Type 0) (quick : (s : S) (t : T) (p : ℕ) → R s t → CanGo a s p → AtOnce t p → HasQuietLeg a Qa s p)
      (amongb : ℕ → T → Type 0) (begunb : ℕ → T → ℕ → Type 0) (known : OutcomeKind → Type 0) (through : GoesThrough b AtOnce amongb begunb known) where
    abbrev pub Among : ℕ → S → Type 0
    Among c s = (t : T) × R s t × amongb c t

    abbrev pub Begun : ℕ → S → ℕ → Type 0
    Begun c s f = (t : T) × R s t × CanGo a s f × begunb c t f

    chosen_alike : (s : S) (t : T) (p : ℕ) → R s t → may a s p ≡ true → CanGo a s p × (may b t p ≡ true)
    chosen_alike s t p r m = (may_go a s p (free s t r) m, sym (may_same a b s t go.processes (go.alike s t r) p) ∙ m)

    choice : (c : ℕ) (s : S) → Among c s → ((d : ℕ) × FollowsEach a (Begun d) s) ⊎ FollowsOne a (HasQuietLeg a Qa) Begun c s
    choice c s x = by (through.choice c t x.2)
      where
        t : T
        t = x.0

        r : R s t
        r = x.1

        by : ((d : ℕ) × FollowsEach b (begunb d) t) ⊎ FollowsOne b AtOnce begunb c t → ((d : ℕ) × FollowsEach a (Begun d) s) ⊎ FollowsOne a (HasQuietLeg a Qa) Begun c s
        by (inl y) = inl (y.0, λ p m. (let k = chosen_alike s t p r m in (t, r, k.0, y.1 p k.1)))
        by (inr one) =
            let m = may_same a b s t go.processes (go.alike s t r) one.process ∙ one.may_be in
            let can = may_go a s one.process (free s t r) m in
            inr (record { process = one.process; left = one.left; fewer = one.fewer; may_be = m; at_once = quick s t one.process r can one.at_once; follows = (t, r, can, one.follows) })

    turn_known : (c : ℕ) (s : S) (t : T) → R s t → (turn : Turn) → IsTurnKnown (amongb c) known t turn → IsTurnKnown (Among c) known s turn
    turn_known c s t r (Over kind) k = k
    turn_known c s t r Due k = (t, r, k)
    turn_known c s t r (Goes x) k = tt

    opening_known : (c : ℕ) (s : S) (t : T) → R s t → (turn : Turn) → IfGoes turn (CanGo a s) → IsOpeningKnown (amongb c) (begunb c) known t turn → IsOpeningKnown (Among c) (Begun c) known s turn
    opening_known c s t r (Over kind) g k = k
    opening_known c s t r Due g k = (t, r, k)
    opening_known c s t r (Goes x) g k = (t, r, g, k)

    stretch_known : (c : ℕ) (begin : S) (f n : ℕ) (s : S) (q : ℕ) → Begun c begin f → spot_after a n begin f ≡ Some (s, q) → IsTurnKnown (Among c) known (a.step s q) (turn_after a (a.step s q) q (a.event s q))
    stretch_known c begin f n s q x at =
        let y = stands_alike n begin x.0 f s q x.1 x.2 at in
        turn_known c (a.step s q) (b.step y.state q) (go.step s y.state q y.same y.can) (turn_after a (a.step s q) q (a.event s q))
        (subst (IsTurnKnown (amongb c) known (b.step y.state q)) (sym (goes_same a b R go s y.state q y.same y.can)) (through.stretch c x.0 f n y.state q x.3 y.stands))

    pub goes_through_too : GoesThrough a (HasQuietLeg a Qa) Among Begun known
    goes_through_too =
        record {
          most = through.most;
          start = opening_known through.most a.start b.start go.start (turn_at a a.start false 0) (opening_goes a b R go)
              (subst (IsOpeningKnown (amongb through.most) (begunb through.most) known b.start) (sym (turn_same a b a.start b.start false 0 go.processes (go.alike a.start b.start go.start))) through.start);
          choice = choice;
          stretch = stretch_known;
        }
