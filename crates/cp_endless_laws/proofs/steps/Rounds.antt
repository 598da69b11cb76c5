-- A stretch that comes to a state in which it was before goes on for ever.
use Rattle.std.proofs.Common.{◌≡◌, ◌⊎◌, inl, inr, ⊎_elim, ◌+◌, ◌<◌, ◌≤◌, ℕ, zero, suc, Bool, true, false, Option, None, Some, refl, sym, ap, subst, ◌∙◌, arith}
use Rattle.cp_endless_laws.proofs.Words.{Each, cases_order, Turn, Over, Due, Goes, System, node_at, turn_after, stretch, IsServed, some_same}
use Rattle.cp_endless_laws.specs.Moments.{AnyOf, Moment, RoundHappensLaw, moments_by, stretch_moments}
use Rattle.cp_endless_laws.specs.Rounds.{CutLaw, IsCut, IsRound, RoundLaw, spot_after, spot_by}
use Rattle.cp_endless_laws.specs.Standstill.{GoesOn, IsFairStretch, IsStandstill, StandsStill, StandstillFoundLaw, StandstillLaw}
use Rattle.cp_endless_laws.proofs.Basics.{distance}

pub some_none : {A : Type 0} (x : A) → Some x ≡ None → ⊥
some_none x e = cc

module _ {S : Type 0} (sys : System S) where
  -- where it stands after some steps, the rest is what goes on from there
  pub from_there : (n m : ℕ) (s : S) (p : ℕ) (t : S) (q : ℕ) → spot_after sys n s p ≡ Some (t, q) → spot_after sys (n + m) s p ≡ spot_after sys m t q
  from_there zero m s p t q e = ap (λ i. spot_after sys i s p) (plus m) ∙ here (spot_after sys m) e
    where
      plus : (m : ℕ) → zero + m ≡ m
      plus m = omega arith

      here : (f : S → ℕ → Option (S × ℕ)) → spot_after sys zero s p ≡ Some (t, q) → f s p ≡ f t q
      here f e = ap (λ (x : S × ℕ). f x.0 x.1) (some_same (s, p) (t, q) e)
  from_there (suc n) m s p t q e = ap (λ i. spot_after sys i s p) (plus n) ∙ by (turn_after sys (sys.step s p) p (sys.event s p)) e (λ r d. from_there n m (sys.step s p) r t q d)
    where
      plus : (n : ℕ) → suc n + m ≡ suc (n + m)
      plus n = omega arith

      by : (turn : Turn) → spot_by (sys.step s p) (spot_after sys n (sys.step s p)) turn ≡ Some (t, q) → ((r : ℕ) → spot_after sys n (sys.step s p) r ≡ Some (t, q) → spot_after sys (n + m) (sys.step s p) r ≡ spot_after sys m t q) → spot_by (sys.step s p) (spot_after sys (n + m) (sys.step s p)) turn ≡ spot_after sys m t q
      by (Goes r) e on = on r e
      by x e on = absurd (cc)

  -- who stood still stands still
  still : (n m : ℕ) (s : S) (p : ℕ) → spot_after sys n s p ≡ None → spot_after sys (n + m) s p ≡ None
  still zero m s p e = absurd (some_none (s, p) e)
  still (suc n) m s p e = ap (λ i. spot_after sys i s p) (plus n) ∙ by (turn_after sys (sys.step s p) p (sys.event s p)) e (λ r d. still n m (sys.step s p) r d)
    where
      plus : (n : ℕ) → suc n + m ≡ suc (n + m)
      plus n = omega arith

      by : (turn : Turn) → spot_by (sys.step s p) (spot_after sys n (sys.step s p)) turn ≡ None → ((r : ℕ) → spot_after sys n (sys.step s p) r ≡ None → spot_after sys (n + m) (sys.step s p) r ≡ None) → spot_by (sys.step s p) (spot_after sys (n + m) (sys.step s p)) turn ≡ None
      by (Goes r) e on = on r e
      by _ e on = refl

  -- ---- a round

  module _ (s : S) (p : ℕ) (round : IsRound sys s p) where
    abbrev pub times : ℕ → ℕ
    times zero = 0
    times (suc k) = suc round.after + times k

    pub many : (k : ℕ) → k ≤ times k
    many zero = omega arith
    many (suc k) = let h = many k in omega (arith, h)

    again : (k : ℕ) → spot_after sys (times k) round.state round.process ≡ Some (round.state, round.process)
    again zero = refl
    again (suc k) = from_there (suc round.after) (times k) round.state round.process round.state round.process round.returns ∙ again k

    pub arrives : (k : ℕ) → spot_after sys (round.before + times k) s p ≡ Some (round.state, round.process)
    arrives k = from_there round.before (times k) s p round.state round.process round.comes ∙ again k

    never_none : (n : ℕ) → spot_after sys n s p ≡ None → ⊥
    never_none n e =
        let le = many n in
        let d = distance n (round.before + times n) (omega (arith, le)) in
        some_none (round.state, round.process) (sym (arrives n) ∙ ap (λ i. spot_after sys i s p) (sym d.1) ∙ still n d.0 s p e)

  -- ---- such a stretch is cut

  pub cut_if_on : (n : ℕ) (s : S) (p : ℕ) → (spot_after sys n s p ≡ None → ⊥) → IsCut (stretch sys n s p)
  unfolding stretch
  cut_if_on zero s p h = tt
  cut_if_on (suc n) s p h = by (turn_after sys (sys.step s p) p (sys.event s p)) h (λ r d. cut_if_on n (sys.step s p) r d)
    where
      by : (turn : Turn) → (spot_by (sys.step s p) (spot_after sys n (sys.step s p)) turn ≡ None → ⊥) → ((r : ℕ) → (spot_after sys n (sys.step s p) r ≡ None → ⊥) → IsCut (stretch sys n (sys.step s p) r)) → IsCut (node_at (sys.step s p) (stretch sys n (sys.step s p)) turn)
      by (Over kind) h on = absurd (h refl)
      by Due h on = absurd (h refl)
      by (Goes r) h on = on r h

  -- ---- what happens in a round

  at_moment : (P : Moment S → Type 0) (n : ℕ) (s : S) (p i : ℕ) (t : S) (q : ℕ) → Each P (stretch_moments sys n s p) → i < n → spot_after sys i s p ≡ Some (t, q) → P (record { state = t; mover = q })
  unfolding stretch_moments
  at_moment P zero s p i t q e less is = absurd (omega (arith, less))
  at_moment P (suc n) s p zero t q e less is = subst (λ (x : S × ℕ). P (record { state = x.0; mover = x.1 })) (some_same (s, p) (t, q) is) e.0
  at_moment P (suc n) s p (suc i) t q e less is = by (turn_after sys (sys.step s p) p (sys.event s p)) e.1 is (λ r d k. at_moment P n (sys.step s p) r i t q d (omega (arith, less)) k)
    where
      by : (turn : Turn) → Each P (moments_by (stretch_moments sys n (sys.step s p)) turn) → spot_by (sys.step s p) (spot_after sys i (sys.step s p)) turn ≡ Some (t, q) →
          ((r : ℕ) → Each P (stretch_moments sys n (sys.step s p) r) → spot_after sys i (sys.step s p) r ≡ Some (t, q) → P (record { state = t; mover = q })) → P (record { state = t; mover = q })
      by (Over kind) e is on = absurd (cc)
      by Due e is on = absurd (cc)
      by (Goes r) e is on = on r e is

  pub moment_of : (P : Moment S → Type 0) (n : ℕ) (s : S) (p : ℕ) → AnyOf P (stretch_moments sys n s p) → (i : ℕ) × (t : S) × (q : ℕ) × (spot_after sys i s p ≡ Some (t, q)) × P (record { state = t; mover = q })
  unfolding stretch_moments
  moment_of P zero s p a = absurd a
  moment_of P (suc n) s p (inl now) = (0, s, p, refl, now)
  moment_of P (suc n) s p (inr rest) = by (turn_after sys (sys.step s p) p (sys.event s p)) refl rest (λ r d. moment_of P n (sys.step s p) r d)
    where
      by : (turn : Turn) → turn_after sys (sys.step s p) p (sys.event s p) ≡ turn → AnyOf P (moments_by (stretch_moments sys n (sys.step s p)) turn) →
          ((r : ℕ) → AnyOf P (stretch_moments sys n (sys.step s p) r) → (i : ℕ) × (t : S) × (q : ℕ) × (spot_after sys i (sys.step s p) r ≡ Some (t, q)) × P (record { state = t; mover = q })) →
          (i : ℕ) × (t : S) × (q : ℕ) × (spot_after sys i s p ≡ Some (t, q)) × P (record { state = t; mover = q })
      by (Over kind) e a on = absurd a
      by Due e a on = absurd a
      by (Goes r) e a on = let h = on r a in (suc h.0, h.1, h.2, ap (spot_by (sys.step s p) (spot_after sys h.0 (sys.step s p))) e ∙ h.3, h.4)

  -- ---- a standstill

  -- where a stretch stands after n steps
  spot_of : S × ℕ → Option (S × ℕ) → S × ℕ
  spot_of x None = x
  spot_of x (Some y) = y

  is_spot : (x : S × ℕ) (o : Option (S × ℕ)) → (o ≡ None → ⊥) → o ≡ Some (spot_of x o)
  unfolding spot_of
  is_spot x None h = absurd (h refl)
  is_spot x (Some y) h = refl

  spot_is : (x y : S × ℕ) (o : Option (S × ℕ)) → o ≡ Some y → y ≡ spot_of x o
  unfolding spot_of
  spot_is x y None e = absurd (some_none y (sym e))
  spot_is x y (Some z) e = ap (spot_of x) (sym e)

  module _ (s : S) (p : ℕ) (round : IsRound sys s p) (waiting : S → ℕ → Bool) (q : ℕ) (h : IsStandstill sys waiting q round.state round.process (suc round.after)) where
    abbrev spot : ℕ → S × ℕ
    spot n = spot_of (s, p) (spot_after sys n s p)

    goes_on : GoesOn sys s p (λ n. (spot n).0) (λ n. (spot n).1)
    goes_on n = is_spot (s, p) (spot_after sys n s p) (never_none s p round n)

    fair : IsFairStretch sys (λ n. (spot n).0) (λ n. (spot n).1)
    fair r n less =
        let P : Moment S → Type 0 = λ (m : Moment S). (m.mover ≡ r) ⊎ (sys.is_ready m.state r ≡ false) in
        let a = moment_of P (suc round.after) round.state round.process (h.fair r less) in
        let m = round.before + times s p round n in
        let le = many s p round n in
        (m + a.0, omega (arith, le), subst (λ (x : S × ℕ). (x.1 ≡ r) ⊎ (sys.is_ready x.0 r ≡ false)) (spot_is (s, p) (a.1, a.2) (spot_after sys (m + a.0) s p) (from_there m a.0 s p round.state round.process (arrives s p round n) ∙ a.3)) a.4)

    -- in each state of the round
    in_round : (k d : ℕ) → d < times s p round k → (t : S) (r : ℕ) → spot_after sys d round.state round.process ≡ Some (t, r) → waiting t q ≡ true
    in_round zero d less t r e = absurd (omega (arith, less))
    in_round (suc k) d less t r e =
        ⊎_elim
        (λ (is : d ≡ suc round.after). later 0 (omega (arith, is)) (λ l o. in_round k 0 l t r o))
        (λ (apart : (d < suc round.after) ⊎ (suc round.after < d)).
        ⊎_elim
        (λ (within : d < suc round.after). at_moment (λ (m : Moment S). waiting m.state q ≡ true) (suc round.after) round.state round.process d t r h.waits within e)
        (λ (beyond : suc round.after < d). (let x = distance (suc round.after) d (omega (arith, beyond)) in later x.0 x.1 (λ l o. in_round k x.0 l t r o)))
        apart)
        (cases_order d (suc round.after))
      where
        later : (x : ℕ) → suc round.after + x ≡ d → (x < times s p round k → spot_after sys x round.state round.process ≡ Some (t, r) → waiting t q ≡ true) → waiting t q ≡ true
        later x is on = on (omega (arith, is, less)) (sym (from_there (suc round.after) x round.state round.process round.state round.process round.returns) ∙ ap (λ i. spot_after sys i round.state round.process) is ∙ e)

    waits : (n : ℕ) → round.before ≤ n → waiting (spot n).0 q ≡ true
    waits n le =
        let d = distance round.before n le in
        let more = many s p round (suc d.0) in
        in_round (suc d.0) d.0 (omega (arith, more)) (spot n).0 (spot n).1
        (sym (from_there round.before d.0 s p round.state round.process round.comes) ∙ ap (λ i. spot_after sys i s p) d.1 ∙ goes_on n)

  -- ---- what is so in the whole stretch is so in the round

  pub any_moment : (P : Moment S → Type 0) (n : ℕ) (s : S) (p i : ℕ) (t : S) (q : ℕ) → i < n → spot_after sys i s p ≡ Some (t, q) → P (record { state = t; mover = q }) → AnyOf P (stretch_moments sys n s p)
  unfolding stretch_moments
  any_moment P zero s p i t q less is h = absurd (omega (arith, less))
  any_moment P (suc n) s p zero t q less is h = inl (subst (λ (x : S × ℕ). P (record { state = x.0; mover = x.1 })) (sym (some_same (s, p) (t, q) is)) h)
  any_moment P (suc n) s p (suc i) t q less is h = inr (by (turn_after sys (sys.step s p) p (sys.event s p)) is (λ r k. any_moment P n (sys.step s p) r i t q (omega (arith, less)) k h))
    where
      by : (turn : Turn) → spot_by (sys.step s p) (spot_after sys i (sys.step s p)) turn ≡ Some (t, q) → ((r : ℕ) → spot_after sys i (sys.step s p) r ≡ Some (t, q) → AnyOf P (stretch_moments sys n (sys.step s p) r)) → AnyOf P (moments_by (stretch_moments sys n (sys.step s p)) turn)
      by (Over kind) is on = absurd (cc)
      by Due is on = absurd (cc)
      by (Goes r) is on = on r is

  each_moment : (P : Moment S → Type 0) (n : ℕ) (s : S) (p : ℕ) → ((i : ℕ) (t : S) (q : ℕ) → i < n → spot_after sys i s p ≡ Some (t, q) → P (record { state = t; mover = q })) → Each P (stretch_moments sys n s p)
  unfolding stretch_moments
  each_moment P zero s p h = tt
  each_moment P (suc n) s p h = (
    h zero s p (omega arith) refl,
    by (turn_after sys (sys.step s p) p (sys.event s p)) refl (λ r k. each_moment P n (sys.step s p) r (λ i t q less is. h (suc i) t q (omega (arith, less)) (ap (spot_by (sys.step s p) (spot_after sys i (sys.step s p))) k ∙ is))),
  )
    where
      by : (turn : Turn) → turn_after sys (sys.step s p) p (sys.event s p) ≡ turn → ((r : ℕ) → turn_after sys (sys.step s p) p (sys.event s p) ≡ Goes r → Each P (stretch_moments sys n (sys.step s p) r)) → Each P (moments_by (stretch_moments sys n (sys.step s p)) turn)
      by (Goes r) e on = on r e
      by _ e on = tt

  module _ (s : S) (p : ℕ) (round : IsRound sys s p) where
    -- where it stands after d steps of the round, it stands after some steps of one round
    folded : (k d : ℕ) → d < times s p round k → (o : Option (S × ℕ)) → spot_after sys d round.state round.process ≡ o → (i : ℕ) × (i < suc round.after) × (spot_after sys i round.state round.process ≡ o)
    folded zero d less o e = absurd (omega (arith, less))
    folded (suc k) d less o e =
        ⊎_elim
        (λ (is : d ≡ suc round.after). later 0 (omega (arith, is)) (λ l x. folded k 0 l o x))
        (λ (apart : (d < suc round.after) ⊎ (suc round.after < d)).
        ⊎_elim
        (λ (within : d < suc round.after). (d, within, e))
        (λ (beyond : suc round.after < d). (let x = distance (suc round.after) d (omega (arith, beyond)) in later x.0 x.1 (λ l y. folded k x.0 l o y)))
        apart)
        (cases_order d (suc round.after))
      where
        later : (x : ℕ) → suc round.after + x ≡ d → (x < times s p round k → spot_after sys x round.state round.process ≡ o → (i : ℕ) × (i < suc round.after) × (spot_after sys i round.state round.process ≡ o)) → (i : ℕ) × (i < suc round.after) × (spot_after sys i round.state round.process ≡ o)
        later x is on = on (omega (arith, is, less)) (sym (from_there (suc round.after) x round.state round.process round.state round.process round.returns) ∙ ap (λ i. spot_after sys i round.state round.process) is ∙ e)

    -- a step of the stretch is one of its beginning and one round
    early : (i : ℕ) (t : S) (q : ℕ) → spot_after sys i s p ≡ Some (t, q) → (k : ℕ) × (k < round.before + suc round.after) × (spot_after sys k s p ≡ Some (t, q))
    early i t q e =
        ⊎_elim
        (λ (is : i ≡ round.before). (i, omega (arith, is), e))
        (λ (apart : (i < round.before) ⊎ (round.before < i)).
        ⊎_elim
        (λ (before : i < round.before). (i, omega (arith, before), e))
        (λ (beyond : round.before < i). later (distance round.before i (omega (arith, beyond))))
        apart)
        (cases_order i round.before)
      where
        later : (d : ℕ) × (round.before + d ≡ i) → (k : ℕ) × (k < round.before + suc round.after) × (spot_after sys k s p ≡ Some (t, q))
        later d =
            let more = many s p round (suc d.0) in
            let f = folded (suc d.0) d.0 (omega (arith, more)) (Some (t, q)) (sym (from_there round.before d.0 s p round.state round.process round.comes) ∙ ap (λ k. spot_after sys k s p) d.1 ∙ e) in
            let l = f.1 in
            (round.before + f.0, omega (arith, l), from_there round.before f.0 s p round.state round.process round.comes ∙ f.2)

    pub happens_early : (P : Moment S → Type 0) (n : ℕ) → AnyOf P (stretch_moments sys n s p) → AnyOf P (stretch_moments sys (round.before + suc round.after) s p)
    happens_early P n a =
        let m = moment_of P n s p a in
        let k = early m.0 m.1 m.2 m.3 in
        any_moment P (round.before + suc round.after) s p k.0 m.1 m.2 k.1 k.2 m.4

  module _ (s : S) (p : ℕ) (round : IsRound sys s p) (waiting : S → ℕ → Bool) (q : ℕ) (x : StandsStill sys waiting q s p) where
    abbrev state : ℕ → S
    state = x.state

    abbrev mover : ℕ → ℕ
    mover = x.mover

    round_fair : (r : ℕ) → r < sys.processes → IsServed sys r (stretch_moments sys (suc round.after) round.state round.process)
    round_fair r less =
        let f = x.fair r round.before less in
        let d = distance round.before f.0 f.1 in
        let more = many s p round (suc d.0) in
        let i = folded s p round (suc d.0) d.0 (omega (arith, more)) (Some (state f.0, mover f.0)) (sym (from_there round.before d.0 s p round.state round.process round.comes) ∙ ap (λ i. spot_after sys i s p) d.1 ∙ x.goes f.0) in
        any_moment (λ (m : Moment S). (m.mover ≡ r) ⊎ (sys.is_ready m.state r ≡ false)) (suc round.after) round.state round.process i.0 (state f.0) (mover f.0) i.1 i.2 f.2

    round_waits : Each (λ (m : Moment S). waiting m.state q ≡ true) (stretch_moments sys (suc round.after) round.state round.process)
    round_waits = each_moment (λ (m : Moment S). waiting m.state q ≡ true) (suc round.after) round.state round.process (λ i t r less is. at i t r is)
      where
        at : (i : ℕ) (t : S) (r : ℕ) → spot_after sys i round.state round.process ≡ Some (t, r) → waiting t q ≡ true
        at i t r is =
            let m = round.before + times s p round x.since in
            let le = many s p round x.since in
            let there = from_there m i s p round.state round.process (arrives s p round x.since) ∙ is in
            subst (λ (y : S × ℕ). waiting y.0 q ≡ true) (some_same (state (m + i), mover (m + i)) (t, r) (sym (x.goes (m + i)) ∙ there)) (x.waits (m + i) (omega (arith, le)))

    standstill : IsStandstill sys waiting q round.state round.process (suc round.after)
    standstill = record { fair = round_fair; waits = round_waits }

pub rounds : {S : Type 0} (sys : System S) → RoundLaw sys
rounds sys s p round = never_none sys s p round

pub cuts : {S : Type 0} (sys : System S) → CutLaw sys
cuts sys s p round n = cut_if_on sys n s p (never_none sys s p round n)

pub standstills : {S : Type 0} (sys : System S) → StandstillLaw sys
standstills sys s p round waiting q h =
    record {
      state = λ n. (spot sys s p round waiting q h n).0;
      mover = λ n. (spot sys s p round waiting q h n).1;
      goes = goes_on sys s p round waiting q h;
      fair = fair sys s p round waiting q h;
      since = round.before;
      waits = waits sys s p round waiting q h;
    }

pub standstills_found : {S : Type 0} (sys : System S) → StandstillFoundLaw sys
standstills_found sys s p round waiting q x = standstill sys s p round waiting q x

pub rounds_happen : {S : Type 0} (sys : System S) (holds : Moment S → Bool) → RoundHappensLaw sys holds
rounds_happen sys holds s p round n a = happens_early sys s p round (λ m. holds m ≡ true) n a
