-- A leg that may be made at once is brought to the front of what a schedule does.
use Rattle.std.proofs.Common.{◌≡◌, ◌≢◌, ◌⊎◌, inl, inr, ℕ, zero, suc, ◌≤◌, ◌∙◌, true, false, Option, None, Some, ap, sym, refl, subst, arith}
use Rattle.cp_at_once_laws.proofs.Words.{Event, Local, System, same_or_not}
use Rattle.cp_at_once_laws.specs.AtOnce.{is_call, Leg, calls, after_local, QuietLeg, calls_quietly, after_quiet, Comes, done, meets, goes, IsNode, Finds, is_done, at_once_meets, at_once, node_meets, node_goes, Commutes, PicksQuiet, NobodyReady, GoalStays, OwnGoal, AtOnceLaw}

pub local_no_call : (e : Event) → e ≡ Local → is_call e ≡ true → ⊥
local_no_call e h k = (let bad : false ≡ true = sym (ap is_call h) ∙ k in cc)

module _ {S : Type 0} (sys : System S) (Met : S → Type 0) (Quiet : S → ℕ → Type 0) (law : Commutes sys Met Quiet) where
  -- ---- a leg is one

  -- of a leg that goes on from a local step
  rest_of_leg : (s : S) (q : ℕ) (t : S) → Leg sys s q t → sys.event s q ≡ Local → Leg sys (sys.step s q) q t
  rest_of_leg _ _ _ (calls s q h) e = absurd (local_no_call (sys.event s q) e h)
  rest_of_leg _ _ _ (after_local s q t h l) e = l

  end_of_leg : (s : S) (q : ℕ) (t : S) → Leg sys s q t → is_call (sys.event s q) ≡ true → t ≡ sys.step s q
  end_of_leg _ _ _ (calls s q h) e = refl
  end_of_leg _ _ _ (after_local s q t h l) e = absurd (local_no_call (sys.event s q) h e)

  pub as_leg : (s : S) (p : ℕ) (t : S) → QuietLeg sys Quiet s p t → Leg sys s p t
  as_leg _ _ _ (calls_quietly s p h e) = calls s p e
  as_leg _ _ _ (after_quiet s p t h e l) = after_local s p t e (as_leg (sys.step s p) p t l)

  pub one_leg : (s : S) (p : ℕ) (t u : S) → QuietLeg sys Quiet s p t → Leg sys s p u → u ≡ t
  one_leg _ _ _ u (calls_quietly s p h e) k = end_of_leg s p u k e
  one_leg _ _ _ u (after_quiet s p t h e l) k = one_leg (sys.step s p) p t u l (rest_of_leg s p u k e)

  pub leg_met : (s : S) (q : ℕ) (t : S) → Leg sys s q t → Met s → sys.is_ready s q ≡ true → Met t
  leg_met _ _ _ (calls s q h) met r = law.kept s q met r
  leg_met _ _ _ (after_local s q t h l) met r = leg_met (sys.step s q) q t l (law.kept s q met r) (law.goes_on s q met r h)

  -- ---- a quiet step beside a leg

  pub record Beside (s : S) (p q : ℕ) (t : S) : Type 0 where
    pub leg : Leg sys (sys.step s p) q (sys.step t p)
    pub still : Quiet t p
    pub event : sys.event t p ≡ sys.event s p
    pub ready : sys.is_ready t p ≡ true

  pub beside : (s : S) (q : ℕ) (t : S) → Leg sys s q t → (p : ℕ) → Met s → p ≢ q → sys.is_ready s p ≡ true → sys.is_ready s q ≡ true → Quiet s p → Beside s p q t
  beside _ _ _ (calls s q h) p met ne rp rq quiet =
      record {
        leg = subst (Leg sys (sys.step s p) q) (law.same_state s p q met ne rp rq quiet (inr h)) (calls (sys.step s p) q (ap is_call (law.other_event s p q met ne rp rq quiet) ∙ h));
        still = law.quiet_still s p q met ne rp rq quiet (inr h);
        event = law.quiet_event s p q met ne rp rq quiet (inr h);
        ready = law.stays_ready s p q met ne rp rq;
      }
  beside _ _ _ (after_local s q t h l) p met ne rp rq quiet =
      let b = beside (sys.step s q) q t l p (law.kept s q met rq) ne (law.stays_ready s p q met ne rp rq) (law.goes_on s q met rq h) (law.quiet_still s p q met ne rp rq quiet (inl h)) in
      record {
        leg = after_local (sys.step s p) q (sys.step t p) (law.other_event s p q met ne rp rq quiet ∙ h) (subst (λ u. Leg sys u q (sys.step t p)) (sym (law.same_state s p q met ne rp rq quiet (inl h))) b.leg);
        still = b.still;
        event = b.event ∙ law.quiet_event s p q met ne rp rq quiet (inl h);
        ready = b.ready;
      }

  pub not_other : (p q : ℕ) → p ≢ q → q ≢ p
  not_other p q ne e = ne (sym e)

  -- a quiet leg beside a leg
  record Crosses (t : S) (p q : ℕ) (sp : S) : Type 0 where
    state : S
    leg : Leg sys sp q state
    quiet : QuietLeg sys Quiet t p state
    ready_there : sys.is_ready sp q ≡ true

  cross : (s : S) (p : ℕ) (sp : S) → QuietLeg sys Quiet s p sp → (q : ℕ) (t : S) → Leg sys s q t → Met s → p ≢ q → sys.is_ready s p ≡ true → sys.is_ready s q ≡ true → Crosses t p q sp
  cross _ _ _ (calls_quietly s p h e) q t l met ne rp rq =
      let b = beside s q t l p met ne rp rq h in
      record { state = sys.step t p; leg = b.leg; quiet = calls_quietly t p b.still (ap is_call b.event ∙ e); ready_there = law.stays_ready s q p met (not_other p q ne) rq rp }
  cross _ _ _ (after_quiet s p sp h e k) q t l met ne rp rq =
      let b = beside s q t l p met ne rp rq h in
      let c = cross (sys.step s p) p sp k q (sys.step t p) b.leg (law.kept s p met rp) ne (law.goes_on s p met rp e) (law.stays_ready s q p met (not_other p q ne) rq rp) in
      record { state = c.state; leg = c.leg; quiet = after_quiet t p c.state b.still (b.event ∙ e) c.quiet; ready_there = c.ready_there }

  module _ (Done : S → Type 0) (nobody : NobodyReady sys Done) (Goal : S → ℕ → Type 0) (stays : GoalStays sys Met Quiet Goal) (own : OwnGoal sys Met Quiet Goal) where
    record GoalThere (sp : S) (q : ℕ) : Type 0 where
      ready_there : sys.is_ready sp q ≡ true
      goal : Goal sp q

    goal_crosses : (s : S) (p : ℕ) (sp : S) → QuietLeg sys Quiet s p sp → (q : ℕ) → Met s → p ≢ q → sys.is_ready s p ≡ true → sys.is_ready s q ≡ true → Goal s q → GoalThere sp q
    goal_crosses _ _ _ (calls_quietly s p h e) q met ne rp rq g = record { ready_there = law.stays_ready s q p met (not_other p q ne) rq rp; goal = stays s p q met ne rp rq h g }
    goal_crosses _ _ _ (after_quiet s p sp h e k) q met ne rp rq g =
        goal_crosses (sys.step s p) p sp k q (law.kept s p met rp) ne (law.goes_on s p met rp e) (law.stays_ready s q p met (not_other p q ne) rq rp) (stays s p q met ne rp rq h g)

    -- what n legs come to, p's quiet leg and at most n legs come to; or p meets it itself
    pub record InFront (n : ℕ) (sp : S) : Type 0 where
      pub legs : ℕ
      pub most : legs ≤ n
      pub comes : Comes sys Done Goal legs sp

    ready_after : (s : S) (q : ℕ) (t : S) → Leg sys s q t → (p : ℕ) → Met s → p ≢ q → sys.is_ready s p ≡ true → sys.is_ready s q ≡ true → sys.is_ready t p ≡ true
    ready_after _ _ _ (calls s q h) p met ne rp rq = law.stays_ready s p q met ne rp rq
    ready_after _ _ _ (after_local s q t h l) p met ne rp rq = ready_after (sys.step s q) q t l p (law.kept s q met rq) ne (law.stays_ready s p q met ne rp rq) (law.goes_on s q met rq h)

    pub to_front : (n : ℕ) (s : S) → Comes sys Done Goal n s → (p : ℕ) (sp : S) → QuietLeg sys Quiet s p sp → Met s → sys.is_ready s p ≡ true → InFront n sp ⊎ Goal s p
    to_front _ _ (done s d) p sp k met rp = absurd (nobody s p d rp)
    to_front _ _ (meets s q rq g) p sp k met rp = go (same_or_not p q)
      where
        go : (p ≡ q) ⊎ (p ≢ q) → InFront 0 sp ⊎ Goal s p
        go (inl e) = inr (subst (Goal s) (sym e) g)
        go (inr ne) = let c = goal_crosses s p sp k q met ne rp rq g in inl (record { legs = 0; most = omega arith; comes = meets sp q c.ready_there c.goal })
    to_front _ _ (goes n s q t rq l rest) p sp k met rp = go (same_or_not p q) (λ u quiet rt. to_front n t rest p u quiet (leg_met s q t l met rq) rt)
      where
        own_after : (c : Crosses t p q sp) → Goal s p ⊎ ((sys.is_ready c.state p ≡ true) × Goal c.state p) → InFront (suc n) sp ⊎ Goal s p
        own_after c (inl g) = inr g
        own_after c (inr g) = inl (record { legs = 1; most = omega arith; comes = goes 0 sp q c.state c.ready_there c.leg (meets c.state p g.0 g.1) })

        last : p ≢ q → (c : Crosses t p q sp) → InFront n c.state ⊎ Goal t p → InFront (suc n) sp ⊎ Goal s p
        last ne c (inl f) = inl (record { legs = suc f.legs; most = (let le = f.most in omega arith); comes = goes f.legs sp q c.state c.ready_there c.leg f.comes })
        last ne c (inr g) = own_after c (own s p q sp t c.state met ne rp rq k l c.quiet g)

        go : (p ≡ q) ⊎ (p ≢ q) → ((u : S) → QuietLeg sys Quiet t p u → sys.is_ready t p ≡ true → InFront n u ⊎ Goal t p) → InFront (suc n) sp ⊎ Goal s p
        go (inl e) again = inl (record { legs = n; most = omega arith; comes = subst (Comes sys Done Goal n) (one_leg s p sp t k (subst (λ r. Leg sys s r t) (sym e) l)) rest })
        go (inr ne) again = let c = cross s p sp k q t l met ne rp rq in last ne c (again c.state c.quiet (ready_after s q t l p met ne rp rq))

    module _ (pick : S → Option ℕ) (picks : PicksQuiet sys Met Quiet pick) (row : ℕ → S → ℕ) where
      abbrev Found : ℕ → S → Type 0
      Found c s = Finds sys Done Goal pick row c s

      -- what fewer legs come to is found
      abbrev FoundBelow : ℕ → Type 0
      FoundBelow k = (c n : ℕ) → suc n ≤ k → (s : S) → Met s → Comes sys Done Goal n s → Found c s

      abbrev Again : (k c : ℕ) → Type 0
      Again k c = (m : ℕ) (t : S) → m ≤ k → Met t → Comes sys Done Goal m t → Found c t

      at_node : (k : ℕ) → FoundBelow k → (n c : ℕ) (s : S) → n ≤ k → Met s → IsNode pick c s → Comes sys Done Goal n s → Found c s
      at_node k below _ c _ le met node (done s d) = is_done c s d
      at_node k below _ c _ le met node (meets s q r g) = node_meets c s q node r g
      at_node k below _ c _ le met node (goes n s q t r l rest) = node_goes c s q t node r l (below (row c s) n le t (leg_met s q t l met r) rest)

      by_row : (k : ℕ) → FoundBelow k → (c n : ℕ) (s : S) → n ≤ k → Met s → Comes sys Done Goal n s → Found c s
      by_row k below zero n s le met w = at_node k below n 0 s le met (inl refl) w
      by_row k below (suc c) n s le met w = go (pick s) refl (λ m t small mt v. by_row k below c m t small mt v)
        where
          taken : Again k c → (p : ℕ) → pick s ≡ Some p → (t : S) → QuietLeg sys Quiet s p t → sys.is_ready s p ≡ true → InFront n t ⊎ Goal s p → Found (suc c) s
          taken again p e t l r (inr g) = at_once_meets c s p e g
          taken again p e t l r (inl f) = at_once c s p t e (as_leg s p t l) (again f.legs t (let a = f.most in omega arith) (leg_met s p t (as_leg s p t l) met r) f.comes)

          go : (o : Option ℕ) → pick s ≡ o → Again k c → Found (suc c) s
          go None e again = at_node k below n (suc c) s le met (inr e) w
          go (Some p) e again = let q = picks s p met e in taken again p e q.1.0 q.1.1 q.0 (to_front n s w p q.1.0 q.1.1 met q.0)

      by_all : (k : ℕ) → FoundBelow k
      by_all zero c n le s met w = absurd (omega arith)
      by_all (suc k) c n le s met w = by_row k (by_all k) c n s (omega arith) met w

      pub found : (c n : ℕ) (s : S) → Met s → Comes sys Done Goal n s → Found c s
      found c n s met w = by_row n (by_all n) c n s (omega arith) met w

      pub true_found : (c : ℕ) (s : S) → Met s → Found c s → (n : ℕ) × Comes sys Done Goal n s
      true_found _ _ met (is_done c s d) = (0, done s d)
      true_found _ _ met (at_once_meets c s p e g) = (0, meets s p (picks s p met e).0 g)
      true_found _ _ met (at_once c s p t e l f) = let r = (picks s p met e).0 in let w = true_found c t (leg_met s p t l met r) f in (suc w.0, goes w.0 s p t r l w.1)
      true_found _ _ met (node_meets c s q node r g) = (0, meets s q r g)
      true_found _ _ met (node_goes c s q t node r l f) = let w = true_found (row c s) t (leg_met s q t l met r) f in (suc w.0, goes w.0 s q t r l w.1)

pub at_once_law : {S : Type 0} (sys : System S) → AtOnceLaw sys
at_once_law sys Met Quiet law Done nobody Goal stays own pick picks row c s met =
    ((λ n w. found sys Met Quiet law Done nobody Goal stays own pick picks row c n s met w), λ f. true_found sys Met Quiet law Done nobody Goal stays own pick picks row c s met f)
