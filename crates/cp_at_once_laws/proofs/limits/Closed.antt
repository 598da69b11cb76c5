-- What schedules of any length come to is met in what is gone through leg by leg, where some quiet legs are made at once and others left out.
use Rattle.cp_at_once_laws.proofs.Words.{◌≡◌, ◌⊎◌, inl, inr, ℕ, zero, suc, ◌≤◌, true, subst, arith, System}
use Rattle.cp_at_once_laws.specs.AtOnce.{Leg, QuietLeg, Comes, done, meets, goes, Commutes, NobodyReady, GoalStays, OwnGoal}
use Rattle.cp_at_once_laws.proofs.search.Front.{as_leg, leg_met, InFront, to_front}

-- where each leg of a ready process is followed
pub record EachLeg {S : Type 0} (sys : System S) (R : ℕ → S → Type 0) (Taken : S → ℕ → Type 0) (s : S) : Type 0 where
  pub left : ℕ
  pub taken : (q : ℕ) → sys.is_ready s q ≡ true → Taken s q
  pub on : (q : ℕ) (t : S) → sys.is_ready s q ≡ true → Leg sys s q t → R left t

-- where one quiet leg alone is
pub record OneLeg {S : Type 0} (sys : System S) (Quiet : S → ℕ → Type 0) (R : ℕ → S → Type 0) (Taken : S → ℕ → Type 0) (c : ℕ) (s : S) : Type 0 where
  pub process : ℕ
  pub left : ℕ
  pub fewer : c ≡ suc left
  pub ready : sys.is_ready s process ≡ true
  pub taken : Taken s process
  pub after : S
  pub leg : QuietLeg sys Quiet s process after
  pub on : R left after

module _ {S : Type 0} (sys : System S) (Met : S → Type 0) (Quiet : S → ℕ → Type 0) (law : Commutes sys Met Quiet) (Done : S → Type 0) (nobody : NobodyReady sys Done) (Goal : S → ℕ → Type 0) (stays : GoalStays sys Met Quiet Goal) (own : OwnGoal sys Met Quiet Goal)
    (R : ℕ → S → Type 0) (Taken : S → ℕ → Type 0) (closed : (c : ℕ) (s : S) → Met s → R c s → EachLeg sys R Taken s ⊎ OneLeg sys Quiet R Taken c s) where
  -- it is over in a state that is gone through, or a process whose leg is followed meets what is asked for
  pub record IsHit : Type 0 where
    pub state : S
    pub met : Met state
    pub hit : ((c : ℕ) × R c state × Done state) ⊎ ((q : ℕ) × Taken state q × (sys.is_ready state q ≡ true) × Goal state q)

  abbrev HitBelow : ℕ → Type 0
  HitBelow k = (c n : ℕ) → suc n ≤ k → (s : S) → Met s → R c s → Comes sys Done Goal n s → IsHit

  by_each : (k : ℕ) → HitBelow k → (n c : ℕ) (s : S) → n ≤ k → Met s → R c s → EachLeg sys R Taken s → Comes sys Done Goal n s → IsHit
  by_each k below _ c _ le met r each (done s d) = record { state = s; met = met; hit = inl (c, r, d) }
  by_each k below _ c _ le met r each (meets s q ready g) = record { state = s; met = met; hit = inr (q, each.taken q ready, ready, g) }
  by_each k below _ c _ le met r each (goes n s q t ready l rest) = below each.left n le t (leg_met sys Met Quiet law s q t l met ready) (each.on q t ready l) rest

  -- with so many legs that may still be made at once
  abbrev HitAt : ℕ → ℕ → Type 0
  HitAt k c = (n : ℕ) (s : S) → n ≤ k → Met s → R c s → Comes sys Done Goal n s → IsHit

  at_one : (k c : ℕ) → ((b : ℕ) → c ≡ suc b → HitAt k b) → (n : ℕ) (s : S) → n ≤ k → Met s → OneLeg sys Quiet R Taken c s → Comes sys Done Goal n s → IsHit
  at_one k c again n s le met one w = go (to_front sys Met Quiet law Done nobody Goal stays own n s w one.process one.after one.leg met one.ready)
    where
      go : InFront sys Met Quiet law Done nobody Goal stays own n one.after ⊎ Goal s one.process → IsHit
      go (inl f) = again one.left one.fewer f.legs one.after (let a = f.most in omega (arith, a, le)) (leg_met sys Met Quiet law s one.process one.after (as_leg sys Met Quiet law s one.process one.after one.leg) met one.ready) one.on f.comes
      go (inr g) = record { state = s; met = met; hit = inr (one.process, one.taken, one.ready, g) }

  by_count : (k : ℕ) → HitBelow k → (c : ℕ) → HitAt k c
  by_count k below zero n s le met r w = go (closed zero s met r)
    where
      go : EachLeg sys R Taken s ⊎ OneLeg sys Quiet R Taken zero s → IsHit
      go (inl each) = by_each k below n zero s le met r each w
      go (inr one) = (let e = one.fewer in absurd (omega (arith, e)))
  by_count k below (suc c) n s le met r w = go (closed (suc c) s met r) (by_count k below c)
    where
      go : EachLeg sys R Taken s ⊎ OneLeg sys Quiet R Taken (suc c) s → HitAt k c → IsHit
      go (inl each) again = by_each k below n (suc c) s le met r each w
      go (inr one) again = at_one k (suc c) (λ b e. subst (HitAt k) (omega (arith, e)) again) n s le met one w

  by_all : (k : ℕ) → HitBelow k
  by_all zero c n le s met r w = absurd (omega (arith, le))
  by_all (suc k) c n le s met r w = by_count k (by_all k) c n s (omega (arith, le)) met r w

  pub hits : (c n : ℕ) (s : S) → Met s → R c s → Comes sys Done Goal n s → IsHit
  hits c n s met r w = by_count n (by_all n) c n s (omega arith) met r w
