-- Where a rank falls as long as a process waits, and something that happens again and again does not happen while it stays, no fair schedule lets the process wait for ever.
use Rattle.std.proofs.Common.{◌≡◌, ◌⊎◌, inl, inr, ⊎_elim, ◌+◌, ◌<◌, ◌≤◌, ℕ, zero, suc, Bool, true, false, refl, sym, subst, ◌∙◌, arith}
use Rattle.cp_endless_laws.proofs.Words.{cases_order, System, IsEndless, IsServed, moments, IsClosed, IsIn, WaitsFrom}
use Rattle.cp_endless_laws.specs.Ranks.{GoesWaiting, NoLingerLaw, NoWaitingLaw, WaitsOrIsServed}
use Rattle.cp_endless_laws.proofs.Basics.{distance}

module _ {S : Type 0} (sys : System S) (waiting : S → ℕ → Bool) (q steps : ℕ) (among : S → Type 0) (rank : S → ℕ)
    (closed : IsClosed sys steps among (λ kind. Unit {0}))
    (falls : (s t : S) (p : ℕ) → GoesWaiting sys waiting q steps among s t p → rank t ≤ rank s)
    -- what is to happen at a rank, and does not while the rank stays
    (Happens : ℕ → S → ℕ → Type 0)
    (stays : (s t : S) (p : ℕ) → GoesWaiting sys waiting q steps among s t p → rank t ≡ rank s → Happens (rank s) s p → ⊥)
    (w : ℕ → ℕ) (state : ℕ → S) (endless : IsEndless sys steps w state) where
  -- each state of the schedule is one of the closed states
  all_among : (n : ℕ) → among (state n)
  all_among zero = subst (IsIn among (λ kind. Unit {0})) endless.first closed.start
  all_among (suc n) = subst (IsIn among (λ kind. Unit {0})) (endless.goes n) (closed.on (state n) (w n) (all_among n) (endless.may_be n))

  module _ (n : ℕ) (waits_on : WaitsFrom sys waiting q steps w state n) where
    goes_at : (m : ℕ) → n ≤ m → GoesWaiting sys waiting q steps among (state m) (state (suc m)) (w m)
    goes_at m le = record { among_them = all_among m; may_be = endless.may_be m; waits = waits_on m le; goes = endless.goes m }

    step_down : (m : ℕ) → n ≤ m → rank (state (suc m)) ≤ rank (state m)
    step_down m le = falls (state m) (state (suc m)) (w m) (goes_at m le)

    not_there : (m : ℕ) → n ≤ m → rank (state (suc m)) ≡ rank (state m) → Happens (rank (state m)) (state m) (w m) → ⊥
    not_there m le same s = stays (state m) (state (suc m)) (w m) (goes_at m le) same s

    -- the next state has a lesser rank, or the same
    falls_or_stays : (m : ℕ) → n ≤ m → (rank (state (suc m)) < rank (state m)) ⊎ (rank (state (suc m)) ≡ rank (state m))
    falls_or_stays m le =
        let down = step_down m le in
        ⊎_elim
        (λ (e : rank (state (suc m)) ≡ rank (state m)). inr e)
        (λ (apart : (rank (state (suc m)) < rank (state m)) ⊎ (rank (state m) < rank (state (suc m)))).
        ⊎_elim
        (λ (less : rank (state (suc m)) < rank (state m)). inl less)
        (λ (more : rank (state m) < rank (state (suc m))). absurd (omega (arith, down, more)))
        apart)
        (cases_order (rank (state (suc m))) (rank (state m)))

    -- from a state of rank r up to the choice k at which it happens
    until_there : (r : ℕ) → ((j : ℕ) → n ≤ j → rank (state j) < r → ⊥) → (k : ℕ) → Happens r (state k) (w k) → (d j : ℕ) → n ≤ j → j + d ≡ k → rank (state j) ≡ r → ⊥
    until_there r below k there zero j le e is =
        let at : j ≡ k = omega (arith, e) in
        let here = subst (λ i. Happens r (state i) (w i)) (sym at) there in
        ⊎_elim
        (λ (less : rank (state (suc j)) < rank (state j)). below (suc j) (omega (arith, le)) (omega (arith, less, is)))
        (λ (same : rank (state (suc j)) ≡ rank (state j)). not_there j le same (subst (λ i. Happens i (state j) (w j)) (sym is) here))
        (falls_or_stays j le)
    until_there r below k there (suc d) j le e is =
        ⊎_elim
        (λ (less : rank (state (suc j)) < rank (state j)). below (suc j) (omega (arith, le)) (omega (arith, less, is)))
        (λ (same : rank (state (suc j)) ≡ rank (state j)). until_there r below k there d (suc j) (omega (arith, le)) (omega (arith, e)) (same ∙ is))
        (falls_or_stays j le)

    module _ (often : (r m : ℕ) → (k : ℕ) × (m ≤ k) × Happens r (state k) (w k)) where
      from_rank : (r : ℕ) → (j : ℕ) → n ≤ j → rank (state j) < r → ⊥
      from_rank zero j le lt = absurd (omega (arith, lt))
      from_rank (suc r) j le lt =
          let below : (i : ℕ) → n ≤ i → rank (state i) < rank (state j) → ⊥ = λ i li less. from_rank r i li (omega (arith, less, lt)) in
          let f = often (rank (state j)) j in
          until_there (rank (state j)) below f.0 f.2 (distance j f.0 f.1).0 j le (distance j f.0 f.1).1 refl

pub no_waiting : {S : Type 0} (sys : System S) (among : S → Type 0) → NoWaitingLaw sys among
no_waiting sys among waiting q steps rank passed_over closed forbids =
    λ w state endless fair n waits.
    from_rank sys waiting q steps among rank closed forbids.falls (λ r s p. IsServed sys (passed_over r) (moments sys steps s p)) forbids.stays w state endless n waits
    (λ r m. fair (passed_over r) m (forbids.process r)) (suc (rank (state n))) n (omega arith) (omega arith)

pub no_linger : {S : Type 0} (sys : System S) (among : S → Type 0) → NoLingerLaw sys among
no_linger {S} sys among inside waiting q steps rank passed_over goes_on closed forbids x =
    from_rank sys inside q steps among rank closed forbids.falls Happens not_there x.stays.word x.stays.state x.stays.endless x.stays.since x.stays.waits often (suc (rank (x.stays.state x.stays.since))) x.stays.since (omega arith) (omega arith)
  where
    Happens : ℕ → S → ℕ → Type 0
    Happens r s p = WaitsOrIsServed sys waiting q steps (passed_over r) (goes_on r) s p

    not_there : (s t : S) (p : ℕ) → GoesWaiting sys inside q steps among s t p → rank t ≡ rank s → Happens (rank s) s p → ⊥
    not_there s t p g same h = forbids.stays s t p g same h

    often_by : (b : Bool) (r m : ℕ) → (k : ℕ) × (m ≤ k) × WaitsOrIsServed sys waiting q steps (passed_over r) b (x.stays.state k) (x.stays.word k)
    often_by true r m = x.waits m
    often_by false r m = x.stays.fair (passed_over r) m (forbids.process r)

    often : (r m : ℕ) → (k : ℕ) × (m ≤ k) × Happens r (x.stays.state k) (x.stays.word k)
    often r m = often_by (goes_on r) r m
