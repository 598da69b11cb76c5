-- What a stretch that repeats shows it shows in twice as many steps as the limit.
use Rattle.std.proofs.Common.{◌≡◌, inl, inr, ◌∙◌, ◌+◌, ℕ, zero, suc, List, ◌∷◌, ◌++◌, Some, sym, ap, subst, arith}
use Rattle.cp_ends.proofs.Vocabulary.{Contains, Contains-append_left, Contains-append_right, Shown, Turn, System, turn_after, each, forgetting_system, Moment}
use Rattle.cp_ends.proofs.Vocabulary.{moments_by, stretch_moments, SetsOut, spot_after, spot_by, shown_at, ShowsAfter, each_append, distance}
use Rattle.cp_run.specs.declared.outcome.Turn.TheVariants as turn
use Rattle.cp_endless_laws.specs.Repeats.{Repeats, repeated_part, EndsAtEachLimit}
use Rattle.cp_endless_laws.proofs.steps.Alone.{alone, leads_more}
use Rattle.cp_ends.specs.Ends.{ShowsAgain}
use Rattle.cp_ends.proofs.words.Edges.{some_same, edge_spot, edge_moments, spot_edge, edge_shows}

module _ {S : Type 0} (sys : System S) where
  -- the moments of a stretch, and of what goes on from where it stands
  pub moments_split : (n m : ℕ) (s : S) (p : ℕ) (t : S) (q : ℕ) → spot_after sys n s p ≡ Some (t, q) → stretch_moments sys (n + m) s p ≡ stretch_moments sys n s p ++ stretch_moments sys m t q
  unfolding stretch_moments
  moments_split zero m s p t q e = ap (λ i. stretch_moments sys i s p) (plus m) ∙ ap (λ (x : S × ℕ). stretch_moments sys m x.0 x.1) (some_same (s, p) (t, q) e)
    where
      plus : (m : ℕ) → zero + m ≡ m
      plus m = omega arith
  moments_split (suc n) m s p t q e = ap (λ i. stretch_moments sys i s p) (plus n) ∙ ap (λ ms. record { state = s; mover = p } ∷ ms) (by (turn_after sys (sys.step s p) p (sys.event s p)) e (λ r d. moments_split n m (sys.step s p) r t q d))
    where
      plus : (n : ℕ) → suc n + m ≡ suc (n + m)
      plus n = omega arith

      by : (u : Turn) → spot_by (sys.step s p) (spot_after sys n (sys.step s p)) u ≡ Some (t, q) →
          ((r : ℕ) → spot_after sys n (sys.step s p) r ≡ Some (t, q) → stretch_moments sys (n + m) (sys.step s p) r ≡ stretch_moments sys n (sys.step s p) r ++ stretch_moments sys m t q) →
          moments_by (stretch_moments sys (n + m) (sys.step s p)) u ≡ moments_by (stretch_moments sys n (sys.step s p)) u ++ stretch_moments sys m t q
      by (turn.Goes r) e on = on r e
      by x e on = absurd (cc)

  -- the moments of an edge are those of its stretch
  pub spot_moments : (n : ℕ) (e : S × Turn) (s : S) (p : ℕ) → edge_spot sys e ≡ Some (s, p) → edge_moments sys n e ≡ stretch_moments sys n s p
  spot_moments n (t, turn.Goes q) s p spot = ap (λ (x : S × ℕ). stretch_moments sys n x.0 x.1) (some_same (t, q) (s, p) spot)
  spot_moments n x s p spot = absurd (cc)

  more_sets_out : (steps more : ℕ) (word : List ℕ) (s : S) (p : ℕ) → SetsOut sys steps word s p → SetsOut sys (more + steps) word s p
  more_sets_out steps more word s p (inl x) = inl x
  more_sets_out steps more word s p (inr x) = inr (x.0, x.1, x.2, x.3, leads_more sys steps more x.0 x.2 x.4, x.5, x.6)

module _ {S : Type 0} (sys : System S) (forget : S → S) (steps : ℕ) where
  abbrev quiet : System S
  quiet = forgetting_system sys forget

  abbrev values_of : List (Moment S) → List Shown
  values_of ms = each (shown_at sys) ms

  module _ (s : S) (p : ℕ) (r : Repeats quiet steps s p) (v : Shown) where
    pub part_shown : Contains (values_of (repeated_part r)) v → Contains (values_of (stretch_moments quiet (steps + steps) s p)) v
    part_shown c =
        let d = distance (suc r.after) steps r.soon in
        let before = stretch_moments quiet steps s p in
        let part = repeated_part r in
        let rest = stretch_moments quiet d.0 r.state r.process in
        let once = moments_split quiet (suc r.after) d.0 r.state r.process r.state r.process r.returns in
        let whole = moments_split quiet steps steps s p r.state r.process r.comes in
        let second : stretch_moments quiet steps r.state r.process ≡ part ++ rest = ap (λ n. stretch_moments quiet n r.state r.process) (sym d.1) ∙ once in
        subst (λ ms. Contains (values_of ms) v) (sym (whole ∙ ap (λ ms. before ++ ms) second))
        (subst (λ vs. Contains vs v) (sym (each_append (shown_at sys) before (part ++ rest) ∙ ap (λ vs. values_of before ++ vs) (each_append (shown_at sys) part rest)))
        (Contains-append_right (values_of before) (values_of part ++ values_of rest) v (Contains-append_left (values_of part) (values_of rest) v c)))

  pub again_ends : (word : List ℕ) (v : Shown) → ShowsAgain sys forget steps word v → EndsAtEachLimit quiet steps word
  again_ends word v x more =
      alone quiet steps word x.begin x.first x.sets_out (record { before = steps; state = x.repeats.state; process = x.repeats.process; comes = x.repeats.comes; after = x.repeats.after; returns = x.repeats.returns }) more

  pub again_shown : (word : List ℕ) (v : Shown) → ShowsAgain sys forget steps word v → ShowsAfter sys forget (steps + steps) word v
  again_shown word v x =
      let e = spot_edge quiet (steps + steps) word x.begin x.first (more_sets_out quiet steps steps word x.begin x.first x.sets_out) in
      edge_shows sys forget (steps + steps) word v e.0 e.1
      (subst (λ ms. Contains (values_of ms) v) (sym (spot_moments quiet (steps + steps) e.0 x.begin x.first e.2)) (part_shown x.begin x.first x.repeats v x.shown))
