-- A stretch that is seen to repeat goes on for ever, and calls the kernel again and again or not at all.
use Rattle.std.proofs.Common.{◌≡◌, inl, inr, ◌∙◌, ◌+◌, ◌≤◌, ℕ, zero, suc, List, Option, None, Some, refl, sym, ap, subst, arith}
use Rattle.cp_ends.proofs.Vocabulary.{Each, Turn, System, turn_after, AnyOf, Moment, moments_by, stretch_moments}
use Rattle.cp_run.specs.declared.outcome.Turn.TheVariants.{Over, Due, Goes}
use Rattle.cp_endless_laws.specs.Repeats.{CallsAt, IsAloneAfter, Repeats, SpinsAfter}
use Rattle.cp_endless_laws.specs.Rounds.{IsRound, SetsOut, spot_after, spot_by}
use Rattle.cp_endless_laws.proofs.steps.Rounds.{from_there, happens_early, rounds}
use Rattle.cp_ends.specs.ForEver.{GoesOnForEver, IsAloneForEver, SpinsForEver}
use Rattle.cp_ends.proofs.named.Kinds.{no_steps_more}
use Rattle.cp_ends.proofs.named.Later.{moments_split}
use Rattle.cp_ends.proofs.words.Edges.{some_same}
use Rattle.cp_endless_laws.proofs.steps.Repeating.{none_of}
use Rattle.cp_endless_laws.proofs.Basics.{any_right, distance}

module _ {S : Type 0} (sys : System S) where
  moment_of : (P : Moment S → Type 0) (n : ℕ) (s : S) (p : ℕ) → AnyOf P (stretch_moments sys n s p) → (i : ℕ) × (t : S) × (q : ℕ) × (spot_after sys i s p ≡ Some (t, q)) × P (record { state = t; mover = q })
  unfolding stretch_moments
  moment_of P zero s p a = absurd a
  moment_of P (suc n) s p (inl now) = (0, s, p, refl, now)
  moment_of P (suc n) s p (inr rest) = by (turn_after sys (sys.step s p) p (sys.event s p)) refl rest (λ r d. moment_of P n (sys.step s p) r d)
    where
      by : (turn : Turn) → turn_after sys (sys.step s p) p (sys.event s p) ≡ turn → AnyOf P (moments_by (stretch_moments sys n (sys.step s p)) turn) →
          ((r : ℕ) → AnyOf P (stretch_moments sys n (sys.step s p) r) → (i : ℕ) × (t : S) × (q : ℕ) × (spot_after sys i (sys.step s p) r ≡ Some (t, q)) × P (record { state = t; mover = q })) →
          (i : ℕ) × (t : S) × (q : ℕ) × (spot_after sys i s p ≡ Some (t, q)) × P (record { state = t; mover = q })
      by (Over kind) e a on = absurd a
      by Due e a on = absurd a
      by (Goes r) e a on = let h = on r a in (suc h.0, h.1, h.2, ap (spot_by (sys.step s p) (spot_after sys h.0 (sys.step s p))) e ∙ h.3, h.4)

  one_moment : (P : Moment S → Type 0) (s : S) (p : ℕ) → P (record { state = s; mover = p }) → AnyOf P (stretch_moments sys 1 s p)
  unfolding stretch_moments
  one_moment P s p now = inl now

  -- what is so of a step is so of one in the stretch
  happens_at : (P : Moment S → Type 0) (n : ℕ) (s : S) (p : ℕ) (t : S) (q : ℕ) → spot_after sys n s p ≡ Some (t, q) → P (record { state = t; mover = q }) → AnyOf P (stretch_moments sys (n + 1) s p)
  happens_at P n s p t q e now = subst (AnyOf P) (sym (moments_split sys n 1 s p t q e)) (any_right P (stretch_moments sys n s p) (stretch_moments sys 1 t q) (one_moment P t q now))

  module _ (steps : ℕ) (s : S) (p : ℕ) (r : Repeats sys steps s p) where
    abbrev round : IsRound sys s p
    round = record { before = steps; state = r.state; process = r.process; comes = r.comes; after = r.after; returns = r.returns }

    spot_in : (n : ℕ) (o : Option (S × ℕ)) → spot_after sys n s p ≡ o → (x : S × ℕ) × (spot_after sys n s p ≡ Some x)
    spot_in n None e = absurd (rounds sys s p round n e)
    spot_in n (Some x) e = (x, e)

    abbrev spot : (n : ℕ) → (x : S × ℕ) × (spot_after sys n s p ≡ Some x)
    spot n = spot_in n (spot_after sys n s p) refl

    times : ℕ → ℕ
    times zero = 0
    times (suc k) = suc r.after + times k

    many : (k : ℕ) → k ≤ times k
    unfolding times
    many zero = omega arith
    many (suc k) = let h = many k in omega (arith, h)

    again : (k : ℕ) → spot_after sys (times k) r.state r.process ≡ Some (r.state, r.process)
    unfolding times
    again zero = refl
    again (suc k) = from_there sys (suc r.after) (times k) r.state r.process r.state r.process r.returns ∙ again k

    arrives : (k : ℕ) → spot_after sys (steps + times k) s p ≡ Some (r.state, r.process)
    arrives k = from_there sys steps (times k) s p r.state r.process r.comes ∙ again k

    goes_on : (word : List ℕ) (q : ℕ) → SetsOut sys steps word s p → r.process ≡ q → GoesOnForEver sys steps word q
    goes_on word q out is =
        record {
          begin = s;
          first = p;
          sets_out = out;
          state = λ n. (spot n).0.0;
          mover = λ n. (spot n).0.1;
          goes = λ n. (spot n).1;
          is = ap (λ (x : S × ℕ). x.1) (some_same (spot steps).0 (r.state, r.process) (sym (spot steps).1 ∙ r.comes)) ∙ is;
        }

    calls_again : AnyOf (CallsAt sys) (stretch_moments sys (suc r.after) r.state r.process) → (n : ℕ) → (m : ℕ) × (n ≤ m) × CallsAt sys (record { state = (spot m).0.0; mover = (spot m).0.1 })
    calls_again a n =
        let x = moment_of (CallsAt sys) (suc r.after) r.state r.process a in
        let from = steps + times n in
        let le = many n in
        let here = from_there sys from x.0 s p r.state r.process (arrives n) ∙ x.3 in
        (from + x.0, omega (arith, le), subst (λ (y : S × ℕ). CallsAt sys (record { state = y.0; mover = y.1 })) (some_same (x.1, x.2) (spot (from + x.0)).0 (sym here ∙ (spot (from + x.0)).1)) x.4)

    calls_never : Each (λ m. CallsAt sys m → ⊥) (stretch_moments sys (suc r.after) r.state r.process) → (n : ℕ) → steps ≤ n → CallsAt sys (record { state = (spot n).0.0; mover = (spot n).0.1 }) → ⊥
    calls_never none n le call =
        let d = distance steps n le in
        let here = sym (from_there sys steps d.0 s p r.state r.process r.comes) ∙ ap (λ i. spot_after sys i s p) d.1 ∙ (spot n).1 in
        let early = happens_early sys r.state r.process (record { before = 0; state = r.state; process = r.process; comes = refl; after = r.after; returns = r.returns }) (CallsAt sys) (d.0 + 1)
        (happens_at (CallsAt sys) d.0 r.state r.process (spot n).0.0 (spot n).0.1 here call) in
        none_of (CallsAt sys) (stretch_moments sys (suc r.after) r.state r.process) none (subst (λ k. AnyOf (CallsAt sys) (stretch_moments sys k r.state r.process)) (no_steps_more (suc r.after)) early)

  pub alone_for_ever : (steps : ℕ) (word : List ℕ) (q : ℕ) → IsAloneAfter sys steps word q → IsAloneForEver sys steps word q
  unfolding goes_on
  alone_for_ever steps word q x = (goes_on steps x.begin x.first x.repeats word q x.sets_out x.is, calls_again steps x.begin x.first x.repeats x.calls)

  pub spins_for_ever : (steps : ℕ) (word : List ℕ) (q : ℕ) → SpinsAfter sys steps word q → SpinsForEver sys steps word q
  unfolding goes_on
  spins_for_ever steps word q x = (goes_on steps x.begin x.first x.repeats word q x.sets_out x.is, calls_never steps x.begin x.first x.repeats x.calls_none)
