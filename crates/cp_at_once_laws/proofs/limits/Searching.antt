-- What the search at once takes is gone through, whatever the limit of steps; and what goes on for ever in it is told.
use Rattle.std.proofs.Common.{◌≡◌, ◌⊎◌, inl, inr, ◌∙◌, ◌+◌, ◌≤◌, ℕ, zero, suc, None, Some, ap, sym, refl, subst, arith}
use Rattle.cp_at_once_laws.proofs.Words.{OutcomeKind, Turn, Over, Due, Goes, System, Repeats, repeated_part, IsTurnKnown, FollowsEach, FollowsOne, GoesThrough, some_same}
use Rattle.cp_at_once_laws.proofs.Words.{distance, AnyOf, Moment, stretch_moments, IsCut, IsRound, spot_after, spot_by, from_there, rounds, happens_early}
use Rattle.cp_run.specs.Run.{Node, Choosing, node_at, turn_after, stretch}
use Rattle.cp_endless_laws.specs.Settled.{IsIn}
use Rattle.cp_endless_laws.proofs.steps.Rounds.{times, many, arrives, any_moment, moment_of}
use Rattle.cp_at_once_laws.specs.Search.{ComesOut, GoesRound, IsTaken, IsFollowed, SearchesAtOnce}

module _ {S : Type 0} (sys : System S) where
  -- a stretch that is not cut comes to the node of the turn at which it stands still
  stands_still : (steps n : ℕ) (b : S) (f : ℕ) (s : S) (q : ℕ) (on : ℕ → Node S) (turn : Turn) → (IsCut (stretch sys steps b f) → ⊥) → spot_after sys n b f ≡ Some (s, q) →
      turn_after sys (sys.step s q) q (sys.event s q) ≡ turn → ((r : ℕ) → turn ≡ Goes r → ⊥) → stretch sys steps b f ≡ node_at (sys.step s q) on turn
  unfolding stretch
  stands_still zero n b f s q on turn uncut at is still = absurd (uncut tt)
  stands_still (suc steps) zero b f s q on turn uncut at is still =
      go turn (ap (λ (x : S × ℕ). turn_after sys (sys.step x.0 x.1) x.1 (sys.event x.0 x.1)) same ∙ is) still ∙ ap (λ (x : S × ℕ). node_at (sys.step x.0 x.1) on turn) same
    where
      same : (let x : S × ℕ = (b, f) in x) ≡ (s, q)
      same = some_same (b, f) (s, q) at

      go : (turn : Turn) → turn_after sys (sys.step b f) f (sys.event b f) ≡ turn → ((r : ℕ) → turn ≡ Goes r → ⊥) → node_at (sys.step b f) (stretch sys steps (sys.step b f)) (turn_after sys (sys.step b f) f (sys.event b f)) ≡ node_at (sys.step b f) on turn
      go (Goes r) e still = absurd (still r refl)
      go _ e still = ap (node_at (sys.step b f) (stretch sys steps (sys.step b f))) e
  stands_still (suc steps) (suc n) b f s q on turn uncut at is still =
      go (turn_after sys (sys.step b f) f (sys.event b f)) uncut at (λ r u e. stands_still steps n (sys.step b f) r s q on turn u e is still)
    where
      go : (first : Turn) → (IsCut (node_at (sys.step b f) (stretch sys steps (sys.step b f)) first) → ⊥) → spot_by (sys.step b f) (spot_after sys n (sys.step b f)) first ≡ Some (s, q) →
          ((r : ℕ) → (IsCut (stretch sys steps (sys.step b f) r) → ⊥) → spot_after sys n (sys.step b f) r ≡ Some (s, q) → stretch sys steps (sys.step b f) r ≡ node_at (sys.step s q) on turn) →
          node_at (sys.step b f) (stretch sys steps (sys.step b f)) first ≡ node_at (sys.step s q) on turn
      go (Over kind) u e again = absurd cc
      go Due u e again = absurd cc
      go (Goes r) u e again = again r u e

  abbrev round_of : (steps : ℕ) (b : S) (f : ℕ) → Repeats sys steps b f → IsRound sys b f
  round_of steps b f r = record { before = steps; state = r.state; process = r.process; comes = r.comes; after = r.after; returns = r.returns }

  -- a stretch that repeats does not stand still
  never_still : (steps : ℕ) (b : S) (f n : ℕ) (s : S) (q : ℕ) → Repeats sys steps b f → spot_after sys n b f ≡ Some (s, q) → spot_by (sys.step s q) (λ r. Some (sys.step s q, r)) (turn_after sys (sys.step s q) q (sys.event s q)) ≡ None → ⊥
  never_still steps b f n s q r at still = rounds sys b f (round_of steps b f r) (n + 1) (from_there sys n 1 b f s q at ∙ go (turn_after sys (sys.step s q) q (sys.event s q)) still)
    where
      go : (turn : Turn) → spot_by (sys.step s q) (λ x. Some (sys.step s q, x)) turn ≡ None → spot_by (sys.step s q) (spot_after sys 0 (sys.step s q)) turn ≡ None
      go (Over kind) e = refl
      go Due e = refl
      go (Goes x) e = absurd cc

  module _ (steps most : ℕ) (AtOnce : S → ℕ → Type 0) (kept : S → Type 0) (known : OutcomeKind → Type 0) (alone spins : ℕ → Type 0) (shown : S → ℕ → Type 0) (search : SearchesAtOnce sys steps most AtOnce kept known alone spins shown) where
    abbrev pub Followed : ℕ → S → Type 0
    Followed c s = IsFollowed sys steps AtOnce kept known alone spins shown c s

    abbrev pub Taken : ℕ → S → ℕ → Type 0
    Taken c b f = IsTaken sys steps known alone spins shown (Followed c) b f

    choice_followed : (c : ℕ) (s : S) → Followed c s → ((d : ℕ) × FollowsEach sys (Taken d) s) ⊎ FollowsOne sys AtOnce Taken c s
    choice_followed zero s k = inl (most, λ p m. search.on s p k m)
    choice_followed (suc c) s (inl k) = inl (most, λ p m. search.on s p k m)
    choice_followed (suc c) s (inr x) = inr (record { process = x.0; left = c; fewer = refl; may_be = x.1; at_once = x.2; follows = x.3 })

    by_comes : (c : ℕ) (b : S) (f n : ℕ) (s : S) (q : ℕ) → ComesOut sys steps known (Followed c) b f ⊎ GoesRound sys steps alone spins b f → spot_after sys n b f ≡ Some (s, q) → (turn : Turn) → turn_after sys (sys.step s q) q (sys.event s q) ≡ turn → IsTurnKnown (Followed c) known (sys.step s q) turn
    by_comes c b f n s q (inl out) at (Over kind) e = subst (IsIn (Followed c) known) (stands_still steps n b f s q (λ r. Choosing b) (Over kind) out.uncut at e (λ r bad. cc)) out.to
    by_comes c b f n s q (inl out) at Due e = subst (IsIn (Followed c) known) (stands_still steps n b f s q (λ r. Choosing b) Due out.uncut at e (λ r bad. cc)) out.to
    by_comes c b f n s q (inl out) at (Goes r) e = tt
    by_comes c b f n s q (inr round) at (Over kind) e = absurd (never_still steps b f n s q round.repeats at (ap (spot_by (sys.step s q) (λ r. Some (sys.step s q, r))) e))
    by_comes c b f n s q (inr round) at Due e = absurd (never_still steps b f n s q round.repeats at (ap (spot_by (sys.step s q) (λ r. Some (sys.step s q, r))) e))
    by_comes c b f n s q (inr round) at (Goes r) e = tt

    pub goes_through : GoesThrough sys AtOnce Followed Taken known
    goes_through =
        record {
          most = most;
          start = search.start;
          choice = choice_followed;
          stretch = λ c b f n s q taken at. by_comes c b f n s q taken.comes at (turn_after sys (sys.step s q) q (sys.event s q)) refl;
        }

  -- ---- what goes on for ever

  module _ (steps : ℕ) (b : S) (f : ℕ) (r : Repeats sys steps b f) where
    -- who makes each step from some place on is the process of the round
    pub same_mover : (q since : ℕ) → ((n : ℕ) → (t : S) × (spot_after sys (since + n) b f ≡ Some (t, q))) → r.process ≡ q
    same_mover q since moves =
        let le = many sys b f (round_of steps b f r) since in
        let d = distance since (steps + times sys b f (round_of steps b f r) since) (omega (arith, le)) in
        let x = moves d.0 in
        ap (λ (y : S × ℕ). y.1) (some_same (r.state, r.process) (x.0, q) (sym (arrives sys b f (round_of steps b f r) since) ∙ ap (λ i. spot_after sys i b f) (sym d.1) ∙ x.1))

    -- a call that is made again and again is made in the round
    pub calls_in : (P : Moment S → Type 0) → ((n : ℕ) → (m : ℕ) × (n ≤ m) × ((t : S) × (q : ℕ) × (spot_after sys m b f ≡ Some (t, q)) × P (record { state = t; mover = q }))) → AnyOf P (repeated_part r)
    calls_in P often =
        let x = often steps in
        let d = distance steps x.0 x.1 in
        let here = sym (from_there sys steps d.0 b f r.state r.process r.comes) ∙ ap (λ i. spot_after sys i b f) d.1 ∙ x.2.2 in
        let round : IsRound sys r.state r.process = record { before = 0; state = r.state; process = r.process; comes = refl; after = r.after; returns = r.returns } in
        subst (λ n. AnyOf P (stretch_moments sys n r.state r.process)) (none (suc r.after)) (happens_early sys r.state r.process round P (suc d.0) (any_moment sys P (suc d.0) r.state r.process d.0 x.2.0 x.2.1 (omega arith) here x.2.3))
      where
        none : (n : ℕ) → 0 + n ≡ n
        none n = omega arith

    -- and one that is made in the round is made again and again
    pub calls_again : (P : Moment S → Type 0) → AnyOf P (repeated_part r) → (n : ℕ) → (m : ℕ) × (n ≤ m) × ((t : S) × (q : ℕ) × (spot_after sys m b f ≡ Some (t, q)) × P (record { state = t; mover = q }))
    calls_again P a n =
        let x = moment_of sys P (suc r.after) r.state r.process a in
        let le = many sys b f (round_of steps b f r) n in
        (steps + times sys b f (round_of steps b f r) n + x.0, omega (arith, le), (x.1, x.2, from_there sys (steps + times sys b f (round_of steps b f r) n) x.0 b f r.state r.process (arrives sys b f (round_of steps b f r) n) ∙ x.3, x.4))
