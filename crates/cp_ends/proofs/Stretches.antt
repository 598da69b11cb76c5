-- Where a stretch stands after some steps.
use Rattle.std.proofs.Common.{◌≡◌, ◌∙◌, ◌+◌, ℕ, zero, suc, ◌∷◌, ◌++◌, Option, None, Some, refl, sym, ap, arith}
use Rattle.cp_ends.proofs.Vocabulary.{same_Some, Turn, Goes, System, turn_after, moments_by, stretch_moments, spot_after, spot_by, from_there}

-- nobody goes on
abbrev pub Stops : Turn → Type 0
Stops (Goes q) = ⊥
Stops _ = Unit {0}

pub stops : (turn : Turn) → ((q : ℕ) → turn ≡ Goes q → ⊥) → Stops turn
stops (Goes q) h = h q refl
stops _ h = tt

module _ {S : Type 0} (sys : System S) where
  -- what follows from where it stands after some steps
  pub moments_there : (n m : ℕ) (s : S) (p : ℕ) (t : S) (q : ℕ) → spot_after sys n s p ≡ Some (t, q) → stretch_moments sys (n + m) s p ≡ stretch_moments sys n s p ++ stretch_moments sys m t q
  unfolding stretch_moments
  moments_there zero m s p t q e = ap (λ i. stretch_moments sys i s p) (plus m) ∙ ap (λ (x : S × ℕ). stretch_moments sys m x.0 x.1) (same_Some (s, p) (t, q) e)
    where
      plus : (m : ℕ) → zero + m ≡ m
      plus m = omega arith
  moments_there (suc n) m s p t q e = ap (λ i. stretch_moments sys i s p) (plus n) ∙ ap (λ l. record { state = s; mover = p } ∷ l) (by (turn_after sys (sys.step s p) p (sys.event s p)) e (λ r d. moments_there n m (sys.step s p) r t q d))
    where
      plus : (n : ℕ) → suc n + m ≡ suc (n + m)
      plus n = omega arith

      by : (turn : Turn) → spot_by (sys.step s p) (spot_after sys n (sys.step s p)) turn ≡ Some (t, q) →
          ((r : ℕ) → spot_after sys n (sys.step s p) r ≡ Some (t, q) → stretch_moments sys (n + m) (sys.step s p) r ≡ stretch_moments sys n (sys.step s p) r ++ stretch_moments sys m t q) →
          moments_by (stretch_moments sys (n + m) (sys.step s p)) turn ≡ moments_by (stretch_moments sys n (sys.step s p)) turn ++ stretch_moments sys m t q
      by (Goes r) e on = on r e
      by x e on = absurd (cc)

  -- a turn after a step, at the state to which the step came
  turn_there : (t u : S) (q : ℕ) (turn : Turn) → u ≡ sys.step t q → turn ≡ turn_after sys u q (sys.event t q) → turn_after sys (sys.step t q) q (sys.event t q) ≡ turn
  turn_there t u q turn e h = ap (λ x. turn_after sys x q (sys.event t q)) (sym e) ∙ sym h

  -- the next spot
  pub spot_next : (n : ℕ) (s : S) (p : ℕ) (t u : S) (q r : ℕ) → spot_after sys n s p ≡ Some (t, q) → u ≡ sys.step t q → Goes r ≡ turn_after sys u q (sys.event t q) → spot_after sys (n + 1) s p ≡ Some (u, r)
  spot_next n s p t u q r spot e h = from_there sys n 1 s p t q spot ∙ ap (spot_by (sys.step t q) (spot_after sys 0 (sys.step t q))) (turn_there t u q (Goes r) e h) ∙ ap (λ x. Some (x, r)) (sym e)

  -- ---- the next step is the last

  no_spot : (t : S) (on : ℕ → Option (S × ℕ)) (turn : Turn) → Stops turn → spot_by t on turn ≡ None
  no_spot t on (Goes q) h = absurd h
  no_spot t on _ h = refl

  -- then it stands nowhere
  pub spot_none : (s : S) (p n : ℕ) (t u : S) (q : ℕ) (turn : Turn) → spot_after sys n s p ≡ Some (t, q) → u ≡ sys.step t q → turn ≡ turn_after sys u q (sys.event t q) → Stops turn → spot_after sys (n + 1) s p ≡ None
  spot_none s p n t u q turn spot e h halts = from_there sys n 1 s p t q spot ∙ ap (spot_by (sys.step t q) (spot_after sys 0 (sys.step t q))) (turn_there t u q turn e h) ∙ no_spot (sys.step t q) (spot_after sys 0 (sys.step t q)) turn halts

-- before the first step
pub spot_before : {S : Type 0} (sys : System S) (s : S) (p : ℕ) → spot_after sys 0 s p ≡ Some (s, p)
spot_before sys s p = refl
