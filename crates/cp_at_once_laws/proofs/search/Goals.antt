-- Run errors, endless loops, who is alone for ever and what is displayed: each is met in every order.
use Rattle.cp_at_once_laws.proofs.Words.{◌≡◌, ◌≢◌, ◌⊎◌, inl, inr, ℕ, zero, suc, ◌∙◌, true, false, ap, sym, subst, Event, Local, System}
use Rattle.cp_at_once_laws.specs.AtOnce.{is_call, Leg, calls, after_local, QuietLeg, calls_quietly, after_quiet, Fails, fails, later_fails, after_steps, Spins, IsAlone, Marks, marks, later_marks, Commutes, GoalStays, OwnGoal}
use Rattle.cp_at_once_laws.proofs.search.Front.{local_no_call, not_other, beside}

module _ {S : Type 0} (sys : System S) (Met : S → Type 0) (Quiet : S → ℕ → Type 0) (law : Commutes sys Met Quiet) where
  -- ---- run errors

  fails_there : (error : Event) (s : S) (q : ℕ) → Fails sys error s q → (p : ℕ) → Met s → p ≢ q → sys.is_ready s p ≡ true → sys.is_ready s q ≡ true → Quiet s p → Fails sys error (sys.step s p) q
  fails_there error _ _ (fails s q e h n) p met ne rp rq k = fails (sys.step s p) q (law.other_event s p q met ne rp rq k ∙ e) h n
  fails_there error _ _ (later_fails s q e rest) p met ne rp rq k =
      later_fails (sys.step s p) q (law.other_event s p q met ne rp rq k ∙ e)
      (subst (λ u. Fails sys error u q) (sym (law.same_state s p q met ne rp rq k (inl e)))
      (fails_there error (sys.step s q) q rest p (law.kept s q met rq) ne (law.stays_ready s p q met ne rp rq) (law.goes_on s q met rq e) (law.quiet_still s p q met ne rp rq k (inl e))))

  pub errors_stay : (error : Event) → GoalStays sys Met Quiet (Fails sys error)
  errors_stay error s p q met ne rp rq k f = fails_there error s q f p met ne rp rq k

  no_call_fails : (error : Event) (s : S) (p : ℕ) → is_call (sys.event s p) ≡ true → Fails sys error s p → ⊥
  no_call_fails error _ _ h (fails s p e n l) = (let bad : false ≡ true = sym n ∙ sym (ap is_call e) ∙ h in absurd cc)
  no_call_fails error _ _ h (later_fails s p e rest) = local_no_call (sys.event s p) e h

  rest_fails : (error : Event) (s : S) (p : ℕ) → sys.event s p ≡ Local → Fails sys error s p → Fails sys error (sys.step s p) p
  rest_fails error _ _ h (fails s p e n l) = absurd (l (sym e ∙ h))
  rest_fails error _ _ h (later_fails s p e rest) = rest

  never_fails : (error : Event) (t : S) (p : ℕ) (u : S) → QuietLeg sys Quiet t p u → Fails sys error t p → ⊥
  never_fails error _ _ _ (calls_quietly t p h e) f = no_call_fails error t p e f
  never_fails error _ _ _ (after_quiet t p u h e k) f = never_fails error (sys.step t p) p u k (rest_fails error t p e f)

  pub own_errors : (error : Event) → OwnGoal sys Met Quiet (Fails sys error)
  own_errors error s p q sp t u met ne rp rq k l k' f = absurd (never_fails error t p u k' f)

  -- ---- endless loops

  spins_there : (n : ℕ) (s : S) (p q : ℕ) → Met s → p ≢ q → sys.is_ready s p ≡ true → sys.is_ready s q ≡ true → Quiet s p → Spins sys s q → sys.event (after_steps sys n (sys.step s p) q) q ≡ Local
  spins_there zero s p q met ne rp rq k h = law.other_event s p q met ne rp rq k ∙ h 0
  spins_there (suc n) s p q met ne rp rq k h =
      ap (λ u. sys.event (after_steps sys n u q) q) (law.same_state s p q met ne rp rq k (inl (h 0))) ∙
      spins_there n (sys.step s q) p q (law.kept s q met rq) ne (law.stays_ready s p q met ne rp rq) (law.goes_on s q met rq (h 0)) (law.quiet_still s p q met ne rp rq k (inl (h 0))) (λ i. h (suc i))

  pub loops_stay : GoalStays sys Met Quiet (Spins sys)
  loops_stay s p q met ne rp rq k h n = spins_there n s p q met ne rp rq k h

  never_spins : (t : S) (p : ℕ) (u : S) → QuietLeg sys Quiet t p u → Spins sys t p → ⊥
  never_spins _ _ _ (calls_quietly t p h e) f = local_no_call (sys.event t p) (f 0) e
  never_spins _ _ _ (after_quiet t p u h e k) f = never_spins (sys.step t p) p u k (λ n. f (suc n))

  pub own_loops : OwnGoal sys Met Quiet (Spins sys)
  own_loops s p q sp t u met ne rp rq k l k' f = absurd (never_spins t p u k' f)

  -- ---- alone for ever

  pub alone_stays : GoalStays sys Met Quiet (IsAlone sys)
  alone_stays s p q met ne rp rq k h = absurd ((h 0).1 p ne rp)

  alone_after : (t : S) (p : ℕ) (u : S) → QuietLeg sys Quiet t p u → IsAlone sys t p → IsAlone sys u p
  alone_after _ _ _ (calls_quietly t p h e) f = λ n. f (suc n)
  alone_after _ _ _ (after_quiet t p u h e k) f = alone_after (sys.step t p) p u k (λ n. f (suc n))

  pub own_alone : OwnGoal sys Met Quiet (IsAlone sys)
  own_alone s p q sp t u met ne rp rq k l k' f = let g = alone_after t p u k' f in inr ((g 0).0, g)

  -- ---- a call with a mark

  module _ (Mark : S → ℕ → Type 0) (there : (s : S) (p q : ℕ) → Met s → p ≢ q → sys.is_ready s p ≡ true → sys.is_ready s q ≡ true → Quiet s p → Mark s q → Mark (sys.step s p) q)
      (back : (s : S) (p q : ℕ) → Met s → p ≢ q → sys.is_ready s p ≡ true → sys.is_ready s q ≡ true → Quiet s p → (sys.event s q ≡ Local) ⊎ (is_call (sys.event s q) ≡ true) → Mark (sys.step s q) p → Mark s p) where
    marks_there : (s : S) (q : ℕ) → Marks sys Mark s q → (p : ℕ) → Met s → p ≢ q → sys.is_ready s p ≡ true → sys.is_ready s q ≡ true → Quiet s p → Marks sys Mark (sys.step s p) q
    marks_there _ _ (marks s q e h) p met ne rp rq k = marks (sys.step s p) q (ap is_call (law.other_event s p q met ne rp rq k) ∙ e) (there s p q met ne rp rq k h)
    marks_there _ _ (later_marks s q e rest) p met ne rp rq k =
        later_marks (sys.step s p) q (law.other_event s p q met ne rp rq k ∙ e)
        (subst (λ u. Marks sys Mark u q) (sym (law.same_state s p q met ne rp rq k (inl e)))
        (marks_there (sys.step s q) q rest p (law.kept s q met rq) ne (law.stays_ready s p q met ne rp rq) (law.goes_on s q met rq e) (law.quiet_still s p q met ne rp rq k (inl e))))

    pub marks_stay : GoalStays sys Met Quiet (Marks sys Mark)
    marks_stay s p q met ne rp rq k h = marks_there s q h p met ne rp rq k

    mark_back : (s : S) (q : ℕ) (t : S) → Leg sys s q t → (p : ℕ) → Met s → p ≢ q → sys.is_ready s p ≡ true → sys.is_ready s q ≡ true → Quiet s p → Mark t p → Mark s p
    mark_back _ _ _ (calls s q e) p met ne rp rq k h = back s p q met ne rp rq k (inr e) h
    mark_back _ _ _ (after_local s q t e l) p met ne rp rq k h =
        back s p q met ne rp rq k (inl e) (mark_back (sys.step s q) q t l p (law.kept s q met rq) ne (law.stays_ready s p q met ne rp rq) (law.goes_on s q met rq e) (law.quiet_still s p q met ne rp rq k (inl e)) h)

    of_call : (t : S) (p : ℕ) → is_call (sys.event t p) ≡ true → Marks sys Mark t p → Mark t p
    of_call _ _ h (marks t p e k) = k
    of_call _ _ h (later_marks t p e rest) = absurd (local_no_call (sys.event t p) e h)

    of_local : (t : S) (p : ℕ) → sys.event t p ≡ Local → Marks sys Mark t p → Marks sys Mark (sys.step t p) p
    of_local _ _ h (marks t p e k) = absurd (local_no_call (sys.event t p) h e)
    of_local _ _ h (later_marks t p e rest) = rest

    marks_back : (s : S) (p : ℕ) (sp : S) → QuietLeg sys Quiet s p sp → (q : ℕ) (t : S) → Leg sys s q t → Met s → p ≢ q → sys.is_ready s p ≡ true → sys.is_ready s q ≡ true → Marks sys Mark t p → Marks sys Mark s p
    marks_back _ _ _ (calls_quietly s p k e) q t l met ne rp rq h =
        let b = beside sys Met Quiet law s q t l p met ne rp rq k in
        marks s p e (mark_back s q t l p met ne rp rq k (of_call t p (ap is_call b.event ∙ e) h))
    marks_back _ _ _ (after_quiet s p sp k e rest) q t l met ne rp rq h =
        let b = beside sys Met Quiet law s q t l p met ne rp rq k in
        later_marks s p e (marks_back (sys.step s p) p sp rest q (sys.step t p) b.leg (law.kept s p met rp) ne (law.goes_on s p met rp e) (law.stays_ready s q p met (not_other sys Met Quiet law p q ne) rq rp) (of_local t p (b.event ∙ e) h))

    pub own_marks : OwnGoal sys Met Quiet (Marks sys Mark)
    own_marks s p q sp t u met ne rp rq k l k' h = inl (marks_back s p sp k q t l met ne rp rq h)
